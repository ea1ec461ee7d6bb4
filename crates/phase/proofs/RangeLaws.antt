-- What is known of a round trip in range. Assumes nothing.
use Prim.Native.Nat.{ℕ, ◌≤◌}
use mathlib.Core.Bool.{true}
use mathlib.Core.Path.{◌≡◌}
use Rattle.common.specs.Choice.{within}
use Rattle.common.proofs.Choice.{both_true, within_high}
use Rattle.wire_rules.specs.Rates.Window.{longest_rtt}
use Rattle.sender_rules.specs.Congestion.Phases.{largest_initial, phase_in_range}

pub round_trip : (rtt initial : ℕ) → phase_in_range rtt initial ≡ true → rtt ≤ longest_rtt
unfolding phase_in_range
round_trip rtt initial e = within_high 1 rtt longest_rtt (both_true (within 1 rtt longest_rtt) (within 1 initial largest_initial) e).0
