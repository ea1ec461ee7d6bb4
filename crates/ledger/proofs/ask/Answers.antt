-- `ledger::ask` meets its contract: past the test of the code it replies as moving on does, and grants from the link that moving on left.
-- Assumes nothing.
use mathlib.Core.Path.{sym, ◌∙◌}
use Rattle.common.proofs.Choice.{within_high}
use Rattle.wire_rules.specs.Rates.Steps.{top_code}
use Rattle.gateway_rules.specs.Ledgers.Calls.{lent}
use Rattle.ledger.proofs.CallLaws.{moved_link}
use Rattle.ledger.proofs.ask.Goals as goal

pub approve-requires : goal.approve-requires
approve-requires c =
    let a = c.args in
    let done = c.in_ok-move_on.ensures in
    let m = moved_link (lent a.row.now a.ledger.now) a.tick c.move_on.new.row c.move_on.new.ledger done.answer done.link in
    (m.0, m.1, m.2, within_high _ a.code top_code (sym c.in_range.ensures ∙ c.if-not-in_range.false))
