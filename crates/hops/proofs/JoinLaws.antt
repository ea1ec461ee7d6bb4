-- Laws of a sum of routers joined with one router more, and with what is left of a row. Assumes nothing.
use Prim.Native.Nat.{◌+◌, ◌≤◌, ◌<◌}
use mathlib.Core.List.{List, [], ◌∷◌}
use mathlib.Core.Path.{◌≡◌, sym, ap, ◌∙◌}
use native.Mathlib.Omega.{arith}
use Rattle.path_rules.specs.declared.Router.{Router}
use Rattle.path_rules.specs.declared.Router.TheVariants.{Knowing, Silent}
use Rattle.path_rules.specs.declared.Summary.{Summary}
use Rattle.path_rules.specs.Hops.Summaries.{silent_ones, least_ceiling, summary_of, joined}
use Rattle.hops.specs.Parts.{one}
use Rattle.path_rules.specs.Hops.Claims.{numbers, Ranged}
use Rattle.path_rules.proofs.Hops.SummaryLaws.{same_summary, sum_nobody}
use Rattle.path_rules.proofs.Hops.JoinLaws.{sum_parts, grouped, one_more}

pub joined_nobody : (rest : List Router) → joined (numbers 0 0 15) (summary_of rest) ≡ summary_of rest
joined_nobody rest = ap (λ (s : Summary). joined s (summary_of rest)) (sym sum_nobody) ∙ sum_parts [] rest

pub joined_one : (s : Summary) (router : Router) (rest : List Router) → joined s (summary_of (router ∷ rest)) ≡ joined (joined s (one router)) (summary_of rest)
joined_one s router rest = ap (joined s) (one_more router rest) ∙ sym (grouped s (one router) (summary_of rest))

-- nothing left
pub joined_last : (s : Summary) → s.least ≤ 15 → joined s (summary_of []) ≡ s
unfolding joined summary_of silent_ones least_ceiling
joined_last s h = same_summary _ _ (omega arith) (omega arith) (omega arith)

pub routers_more : (s : Summary) (router : Router) → (joined s (one router)).routers ≡ s.routers + 1
unfolding joined summary_of
routers_more s router = omega arith

pub ranged_more : (s : Summary) (router : Router) → Ranged s → s.routers < 64 → Ranged (joined s (one router))
unfolding joined summary_of silent_ones least_ceiling
ranged_more s (Knowing ceiling fresh) r h = record { routers_high = omega arith; silent_high = omega arith; least_high = omega arith }
ranged_more s Silent r h = record { routers_high = omega arith; silent_high = omega arith; least_high = omega arith }
