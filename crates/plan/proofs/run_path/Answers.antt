-- `plan::run_path` meets its contract: each call is given what the one before it left. Assumes nothing.
use mathlib.Core.Path.{◌≡◌, ◌∙◌}
use Rattle.sender_rules.specs.Sender.Calls.{Sending, sending}
use Rattle.plan.specs.Parts.{sent_on, run_said}
use Rattle.hops.proofs.VerdictLaws.{verdict_handed_up}
use Rattle.plan.proofs.RunPathLaws.{seal_refused, seal_done, ask_refused, ask_done}
use Rattle.plan.proofs.run_path.Goals as goal

pub returns-in_err-ask : goal.returns-in_err-ask
returns-in_err-ask c =
    let a = c.args in
    verdict_handed_up _ _ c.from_residual.ensures ∙ ask_refused a.wish a.ceiling a.row.now c.fresh_record-connection.result c.fresh_record-connection.ensures _ c.in_err-ask.ensures.answer

pub returns-in_err-write_checksum : goal.returns-in_err-write_checksum
returns-in_err-write_checksum c =
    let a = c.args in
    let s : Sending = sending c.ask.new.connection c.ask.new.request in
    let sent : sent_on a.wish.ttl a.ceiling a.row.now s ≡ run_said a.wish a.ceiling a.row.now =
    ask_done a.wish a.ceiling a.row.now c.fresh_record-connection.result c.fresh_record-connection.ensures s c.in_ok-ask.ensures.answer c.in_ok-ask.ensures.record in
    verdict_handed_up _ _ c.from_residual-in_err-write_checksum.ensures
    ∙ seal_refused a.wish.ttl a.ceiling a.row.now s c.header_with-packet.result c.header_with-packet.ensures _ c.in_err-write_checksum.ensures.answer
    ∙ sent

pub returns : goal.returns
returns c =
    let a = c.args in
    let s : Sending = sending c.ask.new.connection c.ask.new.request in
    let sent : sent_on a.wish.ttl a.ceiling a.row.now s ≡ run_said a.wish a.ceiling a.row.now =
    ask_done a.wish a.ceiling a.row.now c.fresh_record-connection.result c.fresh_record-connection.ensures s c.in_ok-ask.ensures.answer c.in_ok-ask.ensures.record in
    c.run.ensures.answer
    ∙ seal_done a.wish.ttl a.ceiling a.row.now s c.header_with-packet.result c.header_with-packet.ensures c.write_checksum.new.packet c.in_ok-write_checksum.ensures.answer
    c.in_ok-write_checksum.ensures.packet
    ∙ sent
