-- Laws of joining summaries: two parts of a row, in whatever order and grouping, and what joining replies. Assumes nothing.
use Prim.Native.Nat.{◌+◌, ◌≤◌, min}
use mathlib.Core.Bool.{Bool, true, ◌&&◌}
use mathlib.Core.List.{List, [], ◌∷◌, ◌++◌, Permᴰ}
use mathlib.Core.Logic.{◌⊎◌, inl, inr, ⊎_elim}
use mathlib.Core.Path.{◌≡◌, refl, sym, ap, subst, ◌∙◌}
use native.Mathlib.Omega.{arith}
use borrow.Author.Tests.{le-leb, leb-true}
use lib.Dec.{leb}
use lib.ListN.{length-append}
use Rattle.common.proofs.Choice.{by_test, chosen, either, both_true}
use Rattle.refusals.specs.Reply.{Reply, answer, refuse, and_then}
use Rattle.refusals.proofs.ReplyLaws.{answered}
use Rattle.path_rules.specs.declared.Router.{Router}
use Rattle.path_rules.specs.declared.Summary.{Summary}
use Rattle.path_rules.specs.Hops.Rows.{most_routers}
use Rattle.path_rules.specs.Hops.Summaries.{summary_of, summary_in_range, joined, join_reply}
use Rattle.path_rules.specs.Hops.Claims.{numbers, Ranged}
use Rattle.path_rules.proofs.Hops.SummaryLaws.{same_summary, silent_append, least_append, ranged_tested, ranged_suffices}

-- ---- two parts

pub sum_parts : (a b : List Router) → joined (summary_of a) (summary_of b) ≡ summary_of (a ++ b)
unfolding joined summary_of
sum_parts a b = same_summary _ _ (sym (length-append a b)) (sym (silent_append a b)) (sym (least_append a b))

pub grouped : (a b c : Summary) → joined (joined a b) c ≡ joined a (joined b c)
unfolding joined
grouped a b c = same_summary _ _ (omega arith) (omega arith) (omega arith)

pub turned : (a b : Summary) → joined a b ≡ joined b a
unfolding joined
turned a b = same_summary _ _ (omega arith) (omega arith) (omega arith)

-- a router more is its own summary joined; so the order of the routers does not matter
pub one_more : (x : Router) (l : List Router) → summary_of (x ∷ l) ≡ joined (summary_of (x ∷ [])) (summary_of l)
one_more x l = sym (sum_parts (x ∷ []) l)

swapped_two : (x y : Router) (l : List Router) → summary_of (x ∷ y ∷ l) ≡ summary_of (y ∷ x ∷ l)
swapped_two x y l =
    sym (sum_parts (x ∷ y ∷ []) l)
    ∙ ap (λ (s : Summary). joined s (summary_of l)) (one_more x (y ∷ []) ∙ turned (summary_of (x ∷ [])) (summary_of (y ∷ [])) ∙ sym (one_more y (x ∷ [])))
    ∙ sum_parts (y ∷ x ∷ []) l

pub sum_order : (a b : List Router) → Permᴰ a b → summary_of a ≡ summary_of b
sum_order a b Permᴰ.nil = refl
sum_order a b (Permᴰ.cons {a = x} {b = y} {l₁ = l} {l₂ = m} e p) =
    let q = sum_order l m p in
    one_more x l ∙ (cc) ∙ sym (one_more y m)
sum_order a b (Permᴰ.swap {a = x} {b = y} {a' = x'} {b' = y'} {l = l} e f) = cc (swapped_two x y l)
sum_order a b (Permᴰ.trans {l₂ = m} p q) = sum_order a m p ∙ sum_order m b q

-- ---- what joining replies

abbrev test_of : Summary → Summary → Bool
test_of a b = summary_in_range a && summary_in_range b && leb (a.routers + b.routers) most_routers

module _ (a b : Summary) where
  test_facts : test_of a b ≡ true → Ranged a × Ranged b × (a.routers + b.routers ≤ 64)
  test_facts e =
      let all = both_true (summary_in_range a && summary_in_range b) (leb (a.routers + b.routers) most_routers) e in
      let both = both_true (summary_in_range a) (summary_in_range b) all.0 in
      (ranged_tested a both.0, ranged_tested b both.1, leb-true _ _ all.1)

  pub join_seven : (Ranged a × Ranged b × (a.routers + b.routers ≤ 64) → ⊥) → join_reply a b ≡ refuse 7
  join_seven f = by_test (λ (r : Reply Summary). r ≡ refuse 7) (test_of a b) (λ e. absurd (f (test_facts e))) (λ e. refl)

  test_suffices : Ranged a → Ranged b → a.routers + b.routers ≤ 64 → test_of a b ≡ true
  test_suffices r t h = simp (ranged_suffices a r, ranged_suffices b t, le-leb (a.routers + b.routers) most_routers h)

  pub join_answers : Ranged a → Ranged b → a.routers + b.routers ≤ 64 → join_reply a b ≡ answer (joined a b)
  join_answers r t h = chosen (test_of a b) _ _ (test_suffices r t h)

  pub joins : Ranged a → Ranged b → a.routers + b.routers ≤ 64
      → join_reply a b ≡ answer (numbers (a.routers + b.routers) (a.silent + b.silent) (min a.least b.least))
  unfolding joined
  joins r t h = join_answers r t h

  ranged_joined : Ranged a → Ranged b → a.routers + b.routers ≤ 64 → Ranged (joined a b)
  unfolding joined
  ranged_joined r t h = record { routers_high = h; silent_high = omega arith; least_high = omega arith }

  pub join_again : (s : Summary) → join_reply a b ≡ answer s → Ranged s
  join_again s e =
      let got = answered (test_of a b) s (joined a b) 7 (sym e) in
      let f = test_facts got.0 in
      subst Ranged (sym got.1) (ranged_joined f.0 f.1 f.2)

  -- it either answers or refuses by the ranges
  by_ranges : (Ranged a × Ranged b × (a.routers + b.routers ≤ 64)) ⊎ (Ranged a × Ranged b × (a.routers + b.routers ≤ 64) → ⊥)
  by_ranges = either (test_of a b) test_facts (λ r. test_suffices r.0 r.1 r.2)

pub swapped : (a b : Summary) → join_reply a b ≡ join_reply b a
swapped a b =
    ⊎_elim
    (λ (r : Ranged a × Ranged b × (a.routers + b.routers ≤ 64)).
    join_answers a b r.0 r.1 r.2 ∙ ap answer (turned a b) ∙ sym (join_answers b a r.1 r.0 (omega (arith, r.2))))
    (λ (f : Ranged a × Ranged b × (a.routers + b.routers ≤ 64) → ⊥). join_seven a b f ∙ sym (join_seven b a (λ r. f (r.1, r.0, omega (arith, r.2)))))
    (by_ranges a b)

-- ---- three parts by two calls

abbrev Three : Summary → Summary → Summary → Type 0
Three a b c = Ranged a × Ranged b × Ranged c × (a.routers + b.routers + c.routers ≤ 64)

module _ (a b c : Summary) where
  abbrev two_calls : Reply Summary
  two_calls = and_then (join_reply a b) (λ x. join_reply x c)

  three_answer : Three a b c → two_calls ≡ answer (joined (joined a b) c)
  unfolding joined
  three_answer r =
      let all : a.routers + b.routers + c.routers ≤ 64 = r.3 in
      ap (λ (x : Reply Summary). and_then x (λ s. join_reply s c)) (join_answers a b r.0 r.1 (omega arith))
      ∙ join_answers (joined a b) c (ranged_joined a b r.0 r.1 (omega arith)) r.2 all

  three_seven : (Three a b c → ⊥) → two_calls ≡ refuse 7
  unfolding joined
  three_seven f =
      ⊎_elim
      (λ (r : Ranged a × Ranged b × (a.routers + b.routers ≤ 64)).
      ap (λ (x : Reply Summary). and_then x (λ s. join_reply s c)) (join_answers a b r.0 r.1 r.2) ∙ join_seven (joined a b) c (λ s. f (r.0, r.1, s.1, s.2)))
      (λ (n : Ranged a × Ranged b × (a.routers + b.routers ≤ 64) → ⊥). ap (λ (x : Reply Summary). and_then x (λ s. join_reply s c)) (join_seven a b n))
      (by_ranges a b)

  by_three : Three a b c ⊎ (Three a b c → ⊥)
  unfolding joined
  by_three =
      ⊎_elim
      (λ (r : Ranged a × Ranged b × (a.routers + b.routers ≤ 64)).
      ⊎_elim
      (λ (s : Ranged (joined a b) × Ranged c × ((joined a b).routers + c.routers ≤ 64)). inl (r.0, r.1, s.1, s.2))
      (λ (n : Ranged (joined a b) × Ranged c × ((joined a b).routers + c.routers ≤ 64) → ⊥). inr (λ t. n (ranged_joined a b r.0 r.1 r.2, t.2, t.3)))
      (by_ranges (joined a b) c))
      (λ (n : Ranged a × Ranged b × (a.routers + b.routers ≤ 64) → ⊥). inr (λ t. n (t.0, t.1, omega (arith, t.3))))
      (by_ranges a b)

-- the second call with its parts the other way round
turned_call : (a : Summary) (r : Reply Summary) → and_then r (λ y. join_reply y a) ≡ and_then r (λ y. join_reply a y)
turned_call a (answer s) = swapped s a
turned_call a (refuse n) = refl

pub grouped_calls : (a b c : Summary) → and_then (join_reply a b) (λ x. join_reply x c) ≡ and_then (join_reply b c) (λ y. join_reply a y)
grouped_calls a b c =
    ⊎_elim
    (λ (r : Three a b c).
    three_answer a b c r ∙ ap answer (grouped a b c ∙ turned a (joined b c)) ∙ sym (three_answer b c a (r.1, r.2, r.0, omega (arith, r.3))))
    (λ (f : Three a b c → ⊥). three_seven a b c f ∙ sym (three_seven b c a (λ r. f (r.2, r.0, r.1, omega (arith, r.3)))))
    (by_three a b c)
    ∙ turned_call a (join_reply b c)
