-- Law of a time that lies before the newest sample: that stands in the first place. Assumes nothing.
use Prim.Native.Nat.{ℕ, zero, suc, ◌≤◌}
use mathlib.Core.List.{List, [], ◌∷◌}
use mathlib.Core.Path.{◌≡◌, refl}
use native.Mathlib.Omega.{arith}
use lib.Dec.{ltb}
use lib.ListN.{length, get_or, take}
use Rattle.sender_rules.specs.declared.Sample.{Sample}
use Rattle.sender_rules.specs.Connections.Claims.{no_sample}
use Rattle.sender_rules.specs.Congestion.Phases.{before_newest}

pub newest : (time n : ℕ) (l : List Sample) → 1 ≤ n → 1 ≤ length l → ltb time (get_or l 0 no_sample).time ≡ before_newest time (take n l)
newest time zero l h k = absurd (omega arith)
newest time (suc n) [] h k = absurd (omega arith)
newest time (suc n) (x ∷ l) h k = refl
