-- What a router with a ledger keeps of its link whatever it answers: the allowance, so that a caller who keeps that by himself stores the
-- tick alone. Assumes nothing.
use Rattle.std.proofs.Common.{◌≡◌, ℕ, length, refl, ap, ◌∙◌}
use Rattle.refusals.specs.Reply.{Reply, answer, refuse, leaves}
use Rattle.gateway_rules.specs.Router.Routers.{wish_of, Passage, routed_by_ledger, ledger_router}
use Rattle.gateway_rules.proofs.Router.CallLaws.{wish_low, ledger_by_lem, from_ledger}

pub allowance_left : (ceiling fresh tick : ℕ) (p : Passage) → (ledger_router ceiling fresh tick p).left.link.ledger.allowance ≡ p.link.ledger.allowance
allowance_left ceiling fresh tick p = go (routed_by_ledger (length p.packet) ceiling fresh tick p) refl
  where
    go : (r : Reply Passage) → routed_by_ledger (length p.packet) ceiling fresh tick p ≡ r → (leaves p r).link.ledger.allowance ≡ p.link.ledger.allowance
    go (refuse n) e = refl
    go (answer new) e =
        let b = ledger_by_lem (length p.packet) ceiling fresh tick p new e in
        ap (λ (q : Passage). q.link.ledger.allowance) b.is
        ∙ (from_ledger ceiling tick (wish_of ceiling b.seen.request) p.link b.grant (wish_low ceiling b.seen.request) b.granted).1
