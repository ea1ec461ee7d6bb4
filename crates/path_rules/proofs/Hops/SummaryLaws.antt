-- Laws of summaries: when two are the same, what they count of a row and of two parts of it, and their ranges. Assumes nothing.
use Prim.Native.Nat.{ℕ, suc, ◌+◌, ◌≤◌, min}
use mathlib.Core.Bool.{true, ◌&&◌}
use mathlib.Core.List.{List, [], ◌∷◌, ◌++◌}
use mathlib.Core.Path.{◌≡◌, refl, sym, ap}
use native.Mathlib.Omega.{arith}
use borrow.Author.Tests.{le-leb, leb-true}
use lib.Dec.{leb, eqb}
use lib.ListN.{length}
use Rattle.common.proofs.Choice.{both_true}
use Rattle.refusals.specs.Reply.{answer, refuse}
use Rattle.refusals.proofs.ReplyLaws.{refused}
use Rattle.wire_rules.specs.Rates.Steps.{top_code}
use Rattle.path_rules.specs.declared.Router.{Router}
use Rattle.path_rules.specs.declared.Router.TheVariants.{Knowing, Silent}
use Rattle.path_rules.specs.declared.Summary.{Summary}
use Rattle.path_rules.specs.Hops.Rows.{most_routers, row_of, hops_from}
use Rattle.path_rules.specs.Hops.Summaries.{silent_ones, least_ceiling, summary_of, summary_reply, summary_in_range}
use Rattle.path_rules.specs.Hops.Claims.{numbers, Ranged}

pub same_summary : (a b : Summary) → a.routers ≡ b.routers → a.silent ≡ b.silent → a.least ≡ b.least → a ≡ b
same_summary a b p q r = λ i. record { routers = p i; silent = q i; least = r i }

pub sum_nobody : summary_of [] ≡ numbers 0 0 15
unfolding summary_of silent_ones least_ceiling
sum_nobody = refl

pub sum_knowing : (ceiling fresh : ℕ) (rest : List Router)
    → summary_of (Knowing ceiling fresh ∷ rest) ≡ numbers (suc (summary_of rest).routers) (summary_of rest).silent (min ceiling (summary_of rest).least)
unfolding summary_of silent_ones least_ceiling
sum_knowing ceiling fresh rest = refl

pub sum_silent : (rest : List Router) → summary_of (Silent ∷ rest) ≡ numbers (suc (summary_of rest).routers) (suc (summary_of rest).silent) (summary_of rest).least
unfolding summary_of silent_ones least_ceiling
sum_silent rest = refl

pub sum_routers : (routers : List Router) → (summary_of routers).routers ≡ length routers
unfolding summary_of
sum_routers routers = refl

-- the summary of a row
pub sum_row : (limit : ℕ) (routers : List Router) (bytes : List ℕ) → row_of limit bytes ≡ answer routers → summary_reply limit bytes ≡ answer (summary_of routers)
sum_row limit routers bytes e = rw e refl

pub sum_seven : (limit n : ℕ) (bytes : List ℕ) → row_of limit bytes ≡ refuse n → summary_reply limit bytes ≡ refuse 7
sum_seven limit n bytes e =
    let seven = (refused (eqb (length (hops_from limit bytes).rest) 0) (hops_from limit bytes).routers n 7 (sym e)).1 in
    rw e (ap refuse seven)

-- what is counted in a row, and in two parts together
pub least_15 : (routers : List Router) → least_ceiling routers ≤ 15
unfolding least_ceiling
least_15 [] = omega arith
least_15 (Knowing ceiling fresh ∷ rest) = omega (arith, least_15 rest)
least_15 (Silent ∷ rest) = least_15 rest

silent_few : (routers : List Router) → silent_ones routers ≤ length routers
unfolding silent_ones
silent_few [] = omega arith
silent_few (Knowing ceiling fresh ∷ rest) = omega (arith, silent_few rest)
silent_few (Silent ∷ rest) = omega (arith, silent_few rest)

pub silent_append : (a b : List Router) → silent_ones (a ++ b) ≡ silent_ones a + silent_ones b
unfolding silent_ones
silent_append [] b = omega arith
silent_append (Knowing ceiling fresh ∷ a) b = silent_append a b
silent_append (Silent ∷ a) b = omega (arith, silent_append a b)

pub least_append : (a b : List Router) → least_ceiling (a ++ b) ≡ min (least_ceiling a) (least_ceiling b)
unfolding least_ceiling
least_append [] b = omega (arith, least_15 b)
least_append (Knowing ceiling fresh ∷ a) b = omega (arith, least_append a b)
least_append (Silent ∷ a) b = least_append a b

-- ---- ranges, by their test

pub ranged_tested : (s : Summary) → summary_in_range s ≡ true → Ranged s
unfolding summary_in_range
ranged_tested s e =
    let all = both_true (leb s.routers most_routers && leb s.silent s.routers) (leb s.least top_code) e in
    let both = both_true (leb s.routers most_routers) (leb s.silent s.routers) all.0 in
    record { routers_high = leb-true _ _ both.0; silent_high = leb-true _ _ both.1; least_high = leb-true _ _ all.1 }

pub ranged_suffices : (s : Summary) → Ranged s → summary_in_range s ≡ true
unfolding summary_in_range
ranged_suffices s r = simp (le-leb s.routers most_routers r.routers_high, le-leb s.silent s.routers r.silent_high, le-leb s.least top_code r.least_high)

pub sum_ranged : (routers : List Router) → length routers ≤ 64 → Ranged (summary_of routers)
unfolding summary_of
sum_ranged routers h = record { routers_high = h; silent_high = silent_few routers; least_high = least_15 routers }
