-- `accepting::take_response` meets its contract. What `judge` asks holds of the request of a record in range, and of a response read from
-- bytes. Assumes nothing.
use mathlib.Core.Path.{sym}
use native.Mathlib.Omega.{arith}
use Rattle.accepting.proofs.CallLaws.{asked_in, read_nonce}
use Rattle.accepting.proofs.take_response.Goals as goal

pub judge-requires : goal.judge-requires
judge-requires c =
    let q = asked_in c.args.connection.now (sym c.if-not-is_in_range.ensures) _ c.in-Asked.is in
    (q.0, q.1, read_nonce c.args.response.now _ (λ i. omega (arith, c.type_inv.response i)) c.in_ok-read.ensures)
