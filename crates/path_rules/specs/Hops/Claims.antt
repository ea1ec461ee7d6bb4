-- What is claimed of rows, summaries and verdicts beyond the contracts: which bytes are a row and of which routers, what a summary counts,
-- joining, and the order of a verdict's tests. Kinds, lengths and ranges are the paper's numbers. Assumes nothing.
use Rattle.std.specs.Prelude.{ℕ, suc, ◌+◌, ◌*◌, ◌/◌, ◌≤◌, ◌<◌, min, true, ◌≡◌, length}
use mathlib.Core.List.{List, [], ◌∷◌, ◌++◌, Permᴰ}
use Rattle.common.specs.Lists.{Bytes}
use Rattle.refusals.specs.Reply.{Reply, answer, refuse, and_then}
use Rattle.path_rules.specs.declared.Router.{Router}
use Rattle.path_rules.specs.declared.Router.TheVariants.{Knowing, Silent}
use Rattle.path_rules.specs.declared.Summary.{Summary}
use Rattle.path_rules.specs.Hops.Rows.{most_routers, record_of, row_of}
use Rattle.path_rules.specs.Hops.Summaries.{summary_of, summary_in_range, summary_reply, joined, join_reply}
use Rattle.path_rules.specs.Hops.Verdicts.{Verdict, lost, unanswered, not_accepted, accepted, verdict_reply}

-- ---- rows

-- bytes that spell a list of routers, record by record: 2, the ceiling, and a big-endian word whose upper 30 bits are the fresh nonce and
-- whose two lowest bits are anything; or 3 alone
pub data Spells : List Router → List ℕ → Type 0 where
  no_record : Spells [] []
  record_2 : (ceiling fresh a b c d : ℕ) (routers : List Router) (bytes : List ℕ) → ceiling ≤ 15 → (a * 16777216 + b * 65536 + c * 256 + d) / 4 ≡ fresh → Spells routers bytes
      → Spells (Knowing ceiling fresh ∷ routers) (2 ∷ ceiling ∷ a ∷ b ∷ c ∷ d ∷ bytes)
  record_3 : (routers : List Router) (bytes : List ℕ) → Spells routers bytes → Spells (Silent ∷ routers) (3 ∷ bytes)

-- "given a ceiling 0 to 15 and a fresh nonce 0 to 2^30 - 1"
abbrev pub RouterInRange : Router → Type 0
RouterInRange (Knowing ceiling fresh) = (ceiling ≤ 15) × (fresh < 1073741824)
RouterInRange Silent = Unit {0}

abbrev pub RoutersInRange : List Router → Type 0
RoutersInRange [] = Unit {0}
RoutersInRange (router ∷ rest) = RouterInRange router × RoutersInRange rest

-- a spelling of routers in range, record by record
unfoldable pub spelled : List Router → List ℕ
spelled [] = []
spelled (router ∷ rest) = record_of router ++ spelled rest

-- a row is what spells a list of routers that is not longer than the limit; it is then read as that list, and as no other; anything else
-- gives 7
pub record Rows : Type 0 where
  -- "up to 64": the limit that the calls have
  pub most : most_routers ≡ 64
  pub reads : (limit : ℕ) (routers : List Router) (bytes : List ℕ) → Spells routers bytes → length routers ≤ limit → row_of limit bytes ≡ answer routers
  pub only : (limit : ℕ) (routers : List Router) (bytes : List ℕ) → row_of limit bytes ≡ answer routers → Spells routers bytes × (length routers ≤ limit)
  pub seven : (limit : ℕ) (bytes : List ℕ) → ((routers : List Router) → Spells routers bytes → length routers ≤ limit → ⊥) → row_of limit bytes ≡ refuse 7
  -- what bytes spell is in range, and every list of routers in range can be spelled; spellings are put together as lists are
  pub in_range_lem : (routers : List Router) (bytes : List ℕ) → Bytes bytes → Spells routers bytes → RoutersInRange routers
  pub written : (routers : List Router) → RoutersInRange routers → Spells routers (spelled routers) × Bytes (spelled routers)
  pub together : (a b : List Router) (x y : List ℕ) → Spells a x → Spells b y → Spells (a ++ b) (x ++ y)

-- ---- summaries

-- the three numbers
abbrev pub numbers : ℕ → ℕ → ℕ → Summary
numbers routers silent least = record { routers = routers; silent = silent; least = least }

pub record Summing : Type 0 where
  -- "the number of routers, the number of silent ones and the least ceiling of those that know (15 if none)"
  pub nobody : summary_of [] ≡ numbers 0 0 15
  pub knowing : (ceiling fresh : ℕ) (rest : List Router)
      → summary_of (Knowing ceiling fresh ∷ rest) ≡ numbers (suc (summary_of rest).routers) (summary_of rest).silent (min ceiling (summary_of rest).least)
  pub silent : (rest : List Router) → summary_of (Silent ∷ rest) ≡ numbers (suc (summary_of rest).routers) (suc (summary_of rest).silent) (summary_of rest).least
  -- the summary of a row that is read, and 7 where none is
  pub row : (limit : ℕ) (routers : List Router) (bytes : List ℕ) → row_of limit bytes ≡ answer routers → summary_reply limit bytes ≡ answer (summary_of routers)
  pub seven : (limit n : ℕ) (bytes : List ℕ) → row_of limit bytes ≡ refuse n → summary_reply limit bytes ≡ refuse 7
  -- the joined summaries of two parts are the summary of the whole, in whatever order the routers stand
  pub parts : (a b : List Router) → joined (summary_of a) (summary_of b) ≡ summary_of (a ++ b)
  pub order : (a b : List Router) → Permᴰ a b → summary_of a ≡ summary_of b

-- "a summary's routers, joined too, 0 to 64, its silent ones at most its routers", "ceilings 0 to 15"
pub record Ranged (s : Summary) : Type 0 where
  pub routers_high : s.routers ≤ 64
  pub silent_high : s.silent ≤ s.routers
  pub least_high : s.least ≤ 15

pub record Joining : Type 0 where
  pub tested : (s : Summary) → summary_in_range s ≡ true → Ranged s
  pub suffices : (s : Summary) → Ranged s → summary_in_range s ≡ true
  -- the summary of at most 64 routers is in range
  pub in_range_lem : (routers : List Router) → length routers ≤ 64 → Ranged (summary_of routers)
  pub joins : (a b : Summary) → Ranged a → Ranged b → a.routers + b.routers ≤ 64
      → join_reply a b ≡ answer (numbers (a.routers + b.routers) (a.silent + b.silent) (min a.least b.least))
  pub seven : (a b : Summary) → (Ranged a × Ranged b × (a.routers + b.routers ≤ 64) → ⊥) → join_reply a b ≡ refuse 7
  -- in whatever order and grouping, of summaries and of calls; what is joined is in range again
  pub swapped : (a b : Summary) → join_reply a b ≡ join_reply b a
  pub grouped : (a b c : Summary) → joined (joined a b) c ≡ joined a (joined b c)
  pub grouped_calls : (a b c : Summary) → and_then (join_reply a b) (λ x. join_reply x c) ≡ and_then (join_reply b c) (λ y. join_reply a y)
  pub again : (a b s : Summary) → join_reply a b ≡ answer s → Ranged s

-- ---- verdicts

-- a call that judges a summary: by the starting TTL, the code asked and the receiver's ceiling
abbrev pub Judge : Type 0
Judge = Summary → ℕ → ℕ → ℕ → Reply Verdict

-- "starting IP TTL 1 to 255", "a code asked .. 1 to 15", "ceilings 0 to 15"
pub record VerdictGiven (s : Summary) (ttl code ceiling : ℕ) : Type 0 where
  pub ranged : Ranged s
  pub ttl_low : 1 ≤ ttl
  pub ttl_high : ttl ≤ 255
  pub code_low : 1 ≤ code
  pub code_high : code ≤ 15
  pub ceiling_high : ceiling ≤ 15

-- "in this order: lost when the starting TTL is at most its routers; unanswered when the least of the code asked, its ceiling and the
-- receiver's is 0; 14 when a router is silent; accepted at that least"
pub record Judging (judge : Judge) : Type 0 where
  pub seven : (s : Summary) (ttl code ceiling : ℕ) → (VerdictGiven s ttl code ceiling → ⊥) → judge s ttl code ceiling ≡ refuse 7
  pub loses : (s : Summary) (ttl code ceiling : ℕ) → VerdictGiven s ttl code ceiling → ttl ≤ s.routers → judge s ttl code ceiling ≡ answer lost
  pub silence : (s : Summary) (ttl code ceiling : ℕ) → VerdictGiven s ttl code ceiling → s.routers < ttl → min (min code s.least) ceiling ≡ 0
      → judge s ttl code ceiling ≡ answer unanswered
  pub fourteen : (s : Summary) (ttl code ceiling : ℕ) → VerdictGiven s ttl code ceiling → s.routers < ttl → 1 ≤ min (min code s.least) ceiling → 1 ≤ s.silent
      → judge s ttl code ceiling ≡ answer (not_accepted 14)
  pub accepts : (s : Summary) (ttl code ceiling : ℕ) → VerdictGiven s ttl code ceiling → s.routers < ttl → 1 ≤ min (min code s.least) ceiling → s.silent ≡ 0
      → judge s ttl code ceiling ≡ answer (accepted (min (min code s.least) ceiling))

-- ours has them, and whatever has them is ours
abbrev pub JudgingTheorem : Type 0
JudgingTheorem = Judging verdict_reply

abbrev pub JudgingOnly : Type 0
JudgingOnly = (judge : Judge) → Judging judge → (s : Summary) (ttl code ceiling : ℕ) → judge s ttl code ceiling ≡ verdict_reply s ttl code ceiling
