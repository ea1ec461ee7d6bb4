-- `router::router_with_ledger` meets its contract: the ceiling that the ledger answered is in its range. Assumes nothing.
use Rattle.std.proofs.Common.{sym, rules}
use Rattle.gateway_rules.specs.Ledgers.Calls.{lent}
use Rattle.gateway_rules.specs.Inspect.Sights.{request_of}
use Rattle.router.proofs.RouterLaws.{granted_range}
use Rattle.router.proofs.router_with_ledger.Goals as goal

pub send_on-requires : goal.send_on-requires
send_on-requires c =
    let a = c.args in
    let granted = c.in_ok-granted in
    let fits = granted_range a.ceiling a.fresh a.tick c.wish.result granted.granted (request_of c.in_ok-asking.asking) (lent a.row.now a.ledger.now) (search rules) c.wish.ensures granted.ensures.answer in
    (sym c.in_ok-asking.ensures, search rules)
