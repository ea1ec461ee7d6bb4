-- `ledger::clear_passed` meets its contract. The loop's invariant: the slots of the ticks after the old one up to t are zeroed. Assumes
-- nothing.
use Prim.Native.Nat.{◌-◌}
use mathlib.Core.Path.{◌≡◌}
use lib.ListN.{length}
use Rattle.gateway_rules.specs.Ledgers.Rows.{passed}
use Rattle.ledger.proofs.clear_passed.Given as goal

abbrev pub invariant-loop-t : goal.invariant-loop-t
invariant-loop-t l = (length l.row ≡ length l.initial.row) × (l.row ≡ passed (l.t - l.old) l.old l.initial.row)
