-- `ipv4::header_sum` meets its contract: the sum so far and the words that are left make the total, which is folded at the end. Assumes
-- nothing.
use Prim.Native.Nat.{◌+◌, ◌*◌, ◌%◌, ◌≤◌}
use mathlib.Core.Path.{◌≡◌}
use lib.ListN.{length, drop}
use Rattle.wire_rules.specs.Ipv4.Claims.{word_total}
use Rattle.ipv4.proofs.header_sum.Given as goal

abbrev pub invariant-loop-at : goal.invariant-loop-at
invariant-loop-at l = (l.at ≤ length l.header) × (l.at % 2 ≡ 0) × (2 * l.sum ≤ 65535 * l.at) × (l.sum + word_total (drop l.at l.header) ≡ word_total l.header)
