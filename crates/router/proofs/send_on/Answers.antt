-- `router::send_on` meets its contract: passing on what the decision left is never refused, and is the decision put into the view. Assumes
-- nothing.
use Rattle.std.proofs.Common.{ap, ◌∙◌, rules}
use Rattle.refusals.specs.Reply.{leaves}
use Rattle.router.proofs.RouterLaws.{met_readable, passes}
use Rattle.router.proofs.send_on.Goals as goal

pub answer_request-requires : goal.answer_request-requires
answer_request-requires c = (met_readable _ c.args.packet.now _ (λ i. search rules) c.requires.0, c.requires.1)

pub returns : goal.returns
returns c =
    let a = c.args in
    c.pass_on.ensures.packet ∙ ap (leaves _) (passes a.ceiling a.fresh a.packet.now _ a.asking (λ i. search rules) c.requires.0 c.answer_request.ensures)
