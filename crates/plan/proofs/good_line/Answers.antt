-- `plan::good_line` meets its contract: the run is the plan's, and is never refused. Assumes nothing.
use mathlib.Core.Path.{◌≡◌, sym, ap, ◌∙◌}
use Rattle.refusals.specs.Reply.{answer}
use Rattle.refusals.proofs.ReplyLaws.{same_answer}
use Rattle.path_rules.specs.Hops.Rows.{most_routers}
use Rattle.hops.specs.Replies.{verdict_told, verdict_reply_told}
use Rattle.path_rules.specs.Plan.Records.{hops_of, plan_of}
use Rattle.path_rules.specs.Plan.Lines.{verdict_for, verdict_line}
use Rattle.plan.proofs.RunPathLaws.{same_run, read_said, never_refused}
use Rattle.plan.proofs.good_line.Goals as goal

pub returns-in-Err : goal.returns-in-Err
returns-in-Err c =
    let input = c.args.input.now in
    let p = c.requires in
    let said : verdict_reply_told c.run_path.result ≡ answer (verdict_for (plan_of input (hops_of most_routers input))) =
    c.run_path.ensures ∙ same_run _ _ _ c.from.ensures c.nonce_of.ensures c.from-ceiling.ensures ∙ read_said input c.args.end (λ i. (c.type_inv.input i).fits) p.0 p.1 p.2 p.3 in
    absurd (never_refused c.run_path.result _ _ c.in-Err.is said)

pub returns-in-Ok : goal.returns-in-Ok
returns-in-Ok c =
    let input = c.args.input.now in
    let p = c.requires in
    let said : verdict_reply_told c.run_path.result ≡ answer (verdict_for (plan_of input (hops_of most_routers input))) =
    c.run_path.ensures ∙ same_run _ _ _ c.from.ensures c.nonce_of.ensures c.from-ceiling.ensures ∙ read_said input c.args.end (λ i. (c.type_inv.input i).fits) p.0 p.1 p.2 p.3 in
    let is : verdict_told c.in-Ok.verdict ≡ verdict_for (plan_of input (hops_of most_routers input)) = same_answer (sym (ap verdict_reply_told c.in-Ok.is) ∙ said) in
    c.verdict_line-in-Ok.ensures ∙ ap verdict_line is
