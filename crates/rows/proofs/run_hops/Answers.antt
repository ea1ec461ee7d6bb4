-- `rows::run_hops` meets its contract: what is no row of hops is refused. Assumes nothing.
use mathlib.Core.List.{List}
use mathlib.Core.Path.{ap, ◌∙◌}
use Rattle.refusals.specs.Reply.{Reply}
use Rattle.path_rules.specs.declared.Router.{Router}
use Rattle.path_rules.specs.Path.Runs.{call_over}
use Rattle.hops.proofs.VerdictLaws.{verdict_handed_up}
use Rattle.rows.proofs.SpellLaws.{no_row}
use Rattle.rows.proofs.run_hops.Goals as goal

pub returns-in_err-spell-clause-answer : goal.returns-in_err-spell-clause-answer
returns-in_err-spell-clause-answer c =
    let a = c.args in
    verdict_handed_up _ _ c.from_residual.ensures
    ∙ ap (λ (row : Reply (List Router)). (call_over row a.connection.now a.packet.now a.ceiling a.transport).said) (no_row a.row.now _ c.in_err-spell.ensures)
