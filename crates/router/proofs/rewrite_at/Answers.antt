-- `router::rewrite_at` meets its contract: the eight bytes lent come back into their place. Assumes nothing.
use Rattle.router.proofs.RouterLaws.{rewritten_at}
use Rattle.router.proofs.rewrite_at.Goals as goal

pub returns : goal.returns
returns c =
    let a = c.args in
    let w = c.rewrite in
    rewritten_at a.packet.now a.place a.request w.new.option c.requires (w.auto.option, w.ensures.buffer)
