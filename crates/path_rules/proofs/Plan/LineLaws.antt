-- What the program's line says of a path and tells of the input: the claim Line. Assumes nothing.
use Prim.Native.Nat.{ℕ, ◌+◌, ◌≤◌, ◌<◌}
use mathlib.Core.List.{List, [], ◌∷◌, ◌++◌}
use mathlib.Core.Logic.{◌⊎◌, inl, inr}
use mathlib.Core.Path.{◌≡◌, refl, sym, ap, subst, ◌∙◌}
use native.Mathlib.Omega.{arith}
use lib.Dec.{leb, ltb, eqb}
use lib.ListN.{length, get_or, take, drop, length-append}
use lib.Seq.{take-append_seam, take_at, drop-append_seam}
use borrow.Author.Tests.{eqb-false}
use Rattle.common.specs.Lists.{Bytes}
use Rattle.common.proofs.Choice.{by_test}
use Rattle.path_rules.specs.declared.Summary.{Summary}
use Rattle.path_rules.specs.Hops.Summaries.{summary_of}
use Rattle.path_rules.specs.Hops.Verdicts.{Verdict, lost, unanswered, not_accepted, accepted, least_of, verdict_of}
use Rattle.path_rules.specs.Path.Runs.{path_calls}
use Rattle.path_rules.specs.Path.Demands.{Setting, verdict_by}
use Rattle.path_rules.specs.Path.Claims.{Demanded}
use Rattle.path_rules.proofs.Path.Claims.{path_law}
use Rattle.path_rules.specs.Plan.Records.{Plan, Reading, good, bad, read_plan}
use Rattle.path_rules.specs.Plan.Lines.{decimal, numbered, rate_word, none_word, bad_word, verdict_line, bad_line, verdict_for, given_for, line_for, line_of}
use Rattle.path_rules.specs.Plan.Claims.{PlanInRange, Short, Line}
use Rattle.path_rules.proofs.Plan.DecimalLaws.{few_digits, digits, same_number}
use Rattle.path_rules.proofs.Plan.FormatLaws.{only}
use Rattle.path_rules.proofs.Plan.EnoughLaws.{furthest}
use Rattle.path_rules.proofs.Plan.SpellingLaws.{spelling}
use Rattle.path_rules.proofs.Plan.GivenLaws.{demanded}

-- ---- the words

rate_line : (rate : ℕ) → verdict_line (accepted rate) ≡ (114 ∷ 97 ∷ 116 ∷ 101 ∷ 32 ∷ []) ++ (decimal rate ++ (10 ∷ []))
unfolding verdict_line
rate_line rate = refl

lost_line : verdict_line lost ≡ 108 ∷ 111 ∷ 115 ∷ 116 ∷ 10 ∷ []
unfolding verdict_line
lost_line = refl

unanswered_line : verdict_line unanswered ≡ 117 ∷ 110 ∷ 97 ∷ 110 ∷ 115 ∷ 119 ∷ 101 ∷ 114 ∷ 101 ∷ 100 ∷ 10 ∷ []
unfolding verdict_line
unanswered_line = refl

none_line : (n : ℕ) → verdict_line (not_accepted n) ≡ (110 ∷ 111 ∷ 110 ∷ 101 ∷ 32 ∷ []) ++ (decimal n ++ (10 ∷ []))
unfolding verdict_line
none_line n = refl

-- ---- a bad input

near : (limit at : ℕ) (input : List ℕ) → limit ≤ 1664 → read_plan limit input ≡ bad at → at < 10000
near limit at input h e = let f = furthest limit at input e in omega arith

bad_at : (limit at : ℕ) (input : List ℕ) → limit ≤ 1664 → read_plan limit input ≡ bad at
    → (line_of limit input ≡ (98 ∷ 97 ∷ 100 ∷ 32 ∷ []) ++ (decimal at ++ (10 ∷ []))) × (at < 10000)
unfolding bad_line
bad_at limit at input h e = (ap line_for e, near limit at input h e)

-- ---- a good input

module _ (limit : ℕ) (p : Plan) (input : List ℕ) (all : Bytes input) (read : read_plan limit input ≡ good p) where
  ranged : PlanInRange limit p
  ranged = spelling.in_range_lem limit p input all (only limit p input read)

  asked : Demanded path_calls (given_for p)
  asked = demanded limit p ranged

  of_summary : line_of limit input ≡ verdict_line (verdict_of (summary_of p.routers) p.ttl p.code p.ceiling)
  of_summary = ap line_for read ∙ ap verdict_line (path_law.summary (given_for p) asked)

  of_run : (g : Setting) → Demanded path_calls g → g.routers ≡ p.routers → g.wish.ttl ≡ p.ttl → g.wish.code ≡ p.code → g.ceiling ≡ p.ceiling
      → line_of limit input ≡ verdict_line (verdict_by path_calls g)
  of_run g d routers ttl code ceiling =
      of_summary
      ∙ (λ i. verdict_line (verdict_of (summary_of (sym routers i)) (sym ttl i) (sym code i) (sym ceiling i)))
      ∙ ap verdict_line (sym (path_law.summary g d))

  some_run : (g : Setting) × Demanded path_calls g × (g.routers ≡ p.routers) × (g.wish.ttl ≡ p.ttl) × (g.wish.code ≡ p.code) × (g.wish.qs_ttl ≡ p.qs) × (g.wish.nonce ≡ p.nonce) × (g.ceiling ≡ p.ceiling)
  some_run = (given_for p, asked, refl, refl, refl, refl, refl, refl)

-- the lines of which one is a good input's
abbrev Said : List ℕ → Type 0
Said l =
    (l ≡ verdict_line lost)
    ⊎ (l ≡ verdict_line unanswered)
    ⊎ (l ≡ verdict_line (not_accepted 14))
    ⊎ ((rate : ℕ) × (1 ≤ rate) × (rate ≤ 15) × (l ≡ verdict_line (accepted rate)))

summary_says : (s : Summary) (ttl code ceiling : ℕ) → code ≤ 15 → Said (verdict_line (verdict_of s ttl code ceiling))
unfolding verdict_of
summary_says s ttl code ceiling h =
    let P : Verdict → Type 0 = λ v. Said (verdict_line v) in
    by_test P (leb ttl s.routers) (λ e. inl refl) (λ e.
    by_test P (eqb (least_of s code ceiling) 0) (λ z. inr (inl refl)) (λ z.
    by_test P (ltb 0 s.silent) (λ t. inr (inr (inl refl))) (λ t.
    let some = eqb-false (least_of s code ceiling) 0 z in
    inr (inr (inr (least_of s code ceiling, omega arith, omega arith, refl))))))

says : (limit : ℕ) (p : Plan) (input : List ℕ) → Bytes input → read_plan limit input ≡ good p → Said (line_of limit input)
says limit p input all read =
    subst Said (sym (of_summary limit p input all read)) (summary_says (summary_of p.routers) p.ttl p.code p.ceiling (ranged limit p input all read).code_high)

-- ---- what a line tells

-- the number behind a word
number_told : (word : List ℕ) (a b : ℕ) → a < 10000 → b < 10000 → numbered word a ≡ numbered word b → a ≡ b
number_told word a b h k e =
    let end : List ℕ = 10 ∷ [] in
    let behind : decimal a ++ end ≡ decimal b ++ end =
    sym (drop-append_seam word (decimal a ++ end)) ∙ ap (drop (length word)) e ∙ drop-append_seam word (decimal b ++ end) in
    let long : length (decimal b) ≡ length (decimal a) =
    let x = length-append (decimal a) end in let y = length-append (decimal b) end in let z = ap length behind in omega arith in
    same_number a b h k (sym (take-append_seam (decimal a) end) ∙ ap (take (length (decimal a))) behind ∙ take_at (decimal b) end (length (decimal a)) long)

-- the first byte of a verdict's line
abbrev letter : Verdict → ℕ
letter lost = 108
letter unanswered = 117
letter (not_accepted n) = 110
letter (accepted rate) = 114

first : (v : Verdict) → get_or (verdict_line v) 0 0 ≡ letter v
unfolding verdict_line
first lost = refl
first unanswered = refl
first (not_accepted n) = refl
first (accepted rate) = refl

same_letter : (v v' : Verdict) → verdict_line v ≡ verdict_line v' → letter v ≡ letter v'
same_letter v v' e = sym (first v) ∙ ap (λ (l : List ℕ). get_or l 0 0) e ∙ first v'

tells : (v v' : Verdict) → Short v → Short v' → verdict_line v ≡ verdict_line v' → v ≡ v'
tells lost lost h k e = refl
tells lost unanswered h k e = let z = same_letter lost unanswered e in absurd (omega arith)
tells lost (not_accepted n) h k e = let z = same_letter lost (not_accepted n) e in absurd (omega arith)
tells lost (accepted rate) h k e = let z = same_letter lost (accepted rate) e in absurd (omega arith)
tells unanswered lost h k e = let z = same_letter unanswered lost e in absurd (omega arith)
tells unanswered unanswered h k e = refl
tells unanswered (not_accepted n) h k e = let z = same_letter unanswered (not_accepted n) e in absurd (omega arith)
tells unanswered (accepted rate) h k e = let z = same_letter unanswered (accepted rate) e in absurd (omega arith)
tells (not_accepted n) lost h k e = let z = same_letter (not_accepted n) lost e in absurd (omega arith)
tells (not_accepted n) unanswered h k e = let z = same_letter (not_accepted n) unanswered e in absurd (omega arith)
tells (not_accepted n) (not_accepted m) h k e = ap not_accepted (number_told none_word n m h k (sym (none_line n) ∙ e ∙ none_line m))
tells (not_accepted n) (accepted rate) h k e = let z = same_letter (not_accepted n) (accepted rate) e in absurd (omega arith)
tells (accepted rate) lost h k e = let z = same_letter (accepted rate) lost e in absurd (omega arith)
tells (accepted rate) unanswered h k e = let z = same_letter (accepted rate) unanswered e in absurd (omega arith)
tells (accepted rate) (not_accepted n) h k e = let z = same_letter (accepted rate) (not_accepted n) e in absurd (omega arith)
tells (accepted rate) (accepted other) h k e = ap accepted (number_told rate_word rate other h k (sym (rate_line rate) ∙ e ∙ rate_line other))

-- no verdict's line is a bad input's
not_98 : (v : Verdict) → letter v ≡ 98 → ⊥
not_98 lost e = omega arith
not_98 unanswered e = omega arith
not_98 (not_accepted n) e = omega arith
not_98 (accepted rate) e = omega arith

tells_bad : (limit at : ℕ) (input : List ℕ) → limit ≤ 1664 → at < 10000 → line_of limit input ≡ bad_line at → read_plan limit input ≡ bad at
unfolding bad_line
tells_bad limit at input h k e = go (read_plan limit input) refl e
  where
    go : (r : Reading) → read_plan limit input ≡ r → line_for r ≡ bad_line at → read_plan limit input ≡ bad at
    go (good p) read f = absurd (not_98 (verdict_for p) (sym (first (verdict_for p)) ∙ ap (λ (l : List ℕ). get_or l 0 0) f))
    go (bad n) read f = read ∙ ap bad (number_told bad_word n at (near limit n input h read) k f)

-- ---- how long a line is

numbered_short : (word : List ℕ) (n : ℕ) → length (numbered word n) ≤ length word + 5
numbered_short word n =
    let few = few_digits 4 n in
    let a = length-append word (decimal n ++ (10 ∷ [])) in
    let b = length-append (decimal n) (10 ∷ []) in
    omega arith

verdict_short : (v : Verdict) → length (verdict_line v) ≤ 16
unfolding verdict_line
verdict_short lost = omega arith
verdict_short unanswered = omega arith
verdict_short (not_accepted n) = let h = numbered_short none_word n in omega arith
verdict_short (accepted rate) = let h = numbered_short rate_word rate in omega arith

reading_short : (r : Reading) → length (line_for r) ≤ 16
unfolding bad_line
reading_short (good p) = verdict_short (verdict_for p)
reading_short (bad at) = let h = numbered_short bad_word at in omega arith

-- ---- the claim

pub line : Line
line = record {
  digits = digits;
  bad_at = bad_at;
  of_run = λ limit p input g all read. of_run limit p input all read g;
  some_run = some_run;
  of_summary = of_summary;
  says = says;
  tells_bad = tells_bad;
  tells = tells;
  short = λ limit input. reading_short (read_plan limit input);
  rate_line = rate_line;
  lost_line = lost_line;
  unanswered_line = unanswered_line;
  none_line = none_line;
}
