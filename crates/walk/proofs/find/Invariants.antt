-- `walk::find` meets its contract: what is left to walk from each option on yields what the whole area yields. Assumes nothing.
use Prim.Native.Nat.{◌-◌, ◌≤◌}
use mathlib.Core.Path.{◌≡◌}
use lib.ListN.{length, drop}
use Rattle.wire_rules.specs.Walk.Walks.{walk_on, walk}
use Rattle.walk.proofs.find.Given as goal

abbrev pub invariant-walk : goal.invariant-walk
invariant-walk l = (l.at ≤ length l.area) × (walk_on l.place l.at 0 (drop l.at l.area) ≡ walk l.area)

abbrev pub decreases-walk : goal.decreases-walk
decreases-walk l = length l.area - l.at
