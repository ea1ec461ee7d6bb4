-- `ledger::left_of` meets its contract. The loop's invariant: what is left and the total of the slots before make the allowance.
-- Assumes nothing.
use Prim.Native.Nat.{◌+◌}
use mathlib.Core.Path.{◌≡◌}
use lib.ListN.{drop}
use Rattle.gateway_rules.specs.Ledgers.Rows.{total}
use Rattle.ledger.proofs.left_of.Given as goal

abbrev pub invariant-loop-slot : goal.invariant-loop-slot
invariant-loop-slot l = l.left + total l.row ≡ l.allowance + total (drop l.slot-index l.row)
