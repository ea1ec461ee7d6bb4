-- `ipv4::locate` meets its contract: what the walk refuses is refused. Assumes nothing.
use mathlib.Core.Path.{◌∙◌}
use Rattle.refusals.proofs.ReplyLaws.{handed_up}
use Rattle.wire_rules.proofs.Ipv4.HeaderLaws.{good}
use Rattle.ipv4.proofs.PacketLaws.{area_refused}
use Rattle.ipv4.proofs.locate.Goals as goal

pub returns-in_err-offset : goal.returns-in_err-offset
returns-in_err-offset c =
    handed_up _ _ c.from_residual-in_err-offset.ensures
    ∙ area_refused c.args.packet.now _ c.in_ok-h.ensures (good _ _ c.args.packet.now c.in_ok-h.ensures).1 _ c.in_err-offset.ensures
