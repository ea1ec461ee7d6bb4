-- `gateway::qs_router_ledger` meets its contract: the allowance is the one that was given, so the tick alone is stored. Assumes nothing.
use Prim.Native.Nat.{ℕ}
use mathlib.Core.Path.{sym, ap, ◌∙◌}
use Rattle.gateway_rules.specs.Router.Routers.{Passage}
use Rattle.router.proofs.KeptLaws.{allowance_left}
use Rattle.gateway.specs.Results.{lent_by_c}
use Rattle.gateway.proofs.qs_router_ledger.Goals as goal

pub returns-clause-left : goal.returns-clause-left
returns-clause-left c =
    let a = c.args in
    let r = c.router_with_ledger-answer in
    let kept =
    ap (λ (q : Passage). q.link.ledger.allowance) r.ensures.passage
    ∙ allowance_left a.ceiling a.fresh_nonce a.present (lent_by_c a.packet.now a.row.now a.tick.now a.allowance) in
    ap (λ (k : ℕ). lent_by_c r.new.packet r.new.row r.new.ledger.tick k) (sym kept) ∙ r.ensures.passage
