-- `path::travel` meets its contract: the router that was read stands in front of what is left; its refusal ends the travel, or the travel
-- goes on behind it. Assumes nothing.
use mathlib.Core.Path.{◌∙◌}
use native.Mathlib.Omega.{arith}
use Rattle.refusals.proofs.ReplyLaws.{handed_up}
use Rattle.path.proofs.RunLaws.{goes_on, ends_refused}
use Rattle.path.proofs.travel.Goals as goal

pub returns-in_err-hop : goal.returns-in_err-hop
returns-in_err-hop c =
    let h = c.in_err-hop.ensures in
    let both = ends_refused _ _ _ _ _ _ c.loop.invariant _ c.in-Some.ensures (omega (arith, c.loop-test.true)) _ h.packet _ h.answer in
    record { answer = handed_up _ _ c.from_residual.ensures ∙ both.0; packet = both.1 }

pub loop-preserved : goal.loop-preserved
loop-preserved c =
    let h = c.in_ok-hop.ensures in
    goes_on _ _ _ _ _ _ c.loop.invariant _ c.in-Some.ensures (omega (arith, c.loop-test.true)) _ h.packet _ c.length_of-at.ensures h.answer
