-- Laws of an accepted call of a router, with and without a ledger: the tests that it passed, and what it leaves. Assumes nothing.
use Prim.Native.Nat.{ℕ, zero, suc, ◌≤◌, ◌<◌}
use mathlib.Core.Bool.{Bool, true, false, ◌&&◌}
use mathlib.Core.List.{List}
use Rattle.std.specs.Prelude.{Option, None, Some}
use mathlib.Core.Path.{◌≡◌, refl, sym, ap, ◌∙◌}
use native.Mathlib.Omega.{arith}
use borrow.Author.Tests.{leb-false}
use lib.Dec.{leb}
use lib.ListN.{length}
use Rattle.common.proofs.Choice.{both_true}
use Rattle.refusals.specs.Reply.{Reply, answer, refuse, and_then}
use Rattle.refusals.proofs.ReplyLaws.{passed, same_answer, through, let_through}
use Rattle.wire_rules.specs.declared.Request.{Request}
use Rattle.wire_rules.specs.Ipv4.Views.{View, view, put}
use Rattle.gateway_rules.specs.declared.Ledger.{Ledger}
use Rattle.gateway_rules.specs.Ledgers.Calls.{Link, link_in_range, Granted, ask_reply}
use Rattle.gateway_rules.proofs.Ledgers.Claims.{accepting}
use Rattle.gateway_rules.specs.Router.Routers.{router_in_range, unexpired, routed_view, routed, wish_of, ceiling_from, Passage, passage, routed_by_ledger}

module _ (reach ceiling fresh : ℕ) (packet : List ℕ) where
  pub routed_seven : router_in_range ceiling fresh ≡ false → refuse 7 ≡ routed reach ceiling fresh packet
  routed_seven e = simp e

module _ (reach ceiling fresh tick : ℕ) (p : Passage) where
  -- what is left once the ceiling is known
  abbrev pub passed_by : View → Granted → Reply Passage
  passed_by v g = answer (passage (put p.packet (routed_view g.code fresh v)) g.link)

  abbrev pub decided_by : View → Reply Passage
  decided_by v = and_then (ceiling_from ceiling p.link tick (wish_of ceiling v.request)) (passed_by v)

  abbrev pub all_in_range : Bool
  all_in_range = router_in_range ceiling fresh && link_in_range (length p.link.row) p.link.ledger.allowance

pub asked_for_lem : (ceiling tick wish : ℕ) (link : Link) → (wish ≡ 0 → ⊥) → ceiling_from ceiling link tick wish ≡ ask_reply link tick wish
asked_for_lem ceiling tick zero link n = absurd (n refl)
asked_for_lem ceiling tick (suc wish) link n = refl

pub wish_low : (ceiling : ℕ) (x : Option Request) → wish_of ceiling x ≤ ceiling
wish_low ceiling None = omega arith
wish_low ceiling (Some r) = omega arith

pub record RoutedBy (reach ceiling fresh : ℕ) (packet new : List ℕ) : Type 0 where
  pub ok : router_in_range ceiling fresh ≡ true
  pub seen : View
  pub viewed : view reach packet ≡ answer seen
  pub lives : 1 < seen.ttl
  pub is : new ≡ put packet (routed_view ceiling fresh seen)

pub routed_by : (reach ceiling fresh : ℕ) (packet new : List ℕ) → routed reach ceiling fresh packet ≡ answer new → RoutedBy reach ceiling fresh packet new
routed_by reach ceiling fresh packet new e =
    let t = passed (router_in_range ceiling fresh) new _ 7 (sym e) in
    let s = through (view reach packet) (λ v. unexpired v (answer (put packet (routed_view ceiling fresh v)))) new (sym t.1) in
    let l = let_through (leb s.0.ttl 1) new _ 6 (sym s.2) in
    record { ok = t.0; seen = s.0; viewed = s.1; lives = leb-false s.0.ttl 1 l.0; is = same_answer l.1 }

pub record LedgerBy (reach ceiling fresh tick : ℕ) (p new : Passage) : Type 0 where
  pub ok : router_in_range ceiling fresh ≡ true
  pub fits : link_in_range (length p.link.row) p.link.ledger.allowance ≡ true
  pub seen : View
  pub viewed : view reach p.packet ≡ answer seen
  pub lives : 1 < seen.ttl
  pub grant : Granted
  pub granted : ceiling_from ceiling p.link tick (wish_of ceiling seen.request) ≡ answer grant
  pub is : new ≡ passage (put p.packet (routed_view grant.code fresh seen)) grant.link

pub ledger_by_lem : (reach ceiling fresh tick : ℕ) (p new : Passage) → routed_by_ledger reach ceiling fresh tick p ≡ answer new → LedgerBy reach ceiling fresh tick p new
ledger_by_lem reach ceiling fresh tick p new e =
    let t = passed (all_in_range reach ceiling fresh tick p) new _ 7 (sym e) in
    let both = both_true (router_in_range ceiling fresh) (link_in_range (length p.link.row) p.link.ledger.allowance) t.0 in
    let s = through (view reach p.packet) (λ v. unexpired v (decided_by reach ceiling fresh tick p v)) new (sym t.1) in
    let l = let_through (leb s.0.ttl 1) new _ 6 (sym s.2) in
    let g = through (ceiling_from ceiling p.link tick (wish_of ceiling s.0.request)) (passed_by reach ceiling fresh tick p s.0) new (sym l.1) in
    record { ok = both.0; fits = both.1; seen = s.0; viewed = s.1; lives = leb-false s.0.ttl 1 l.0; grant = g.0; granted = g.1; is = same_answer (sym g.2) }

-- the ceiling to decide by is at most the router's own, and the ledger's allowance stays
pub from_ledger : (ceiling tick wish : ℕ) (link : Link) (g : Granted) → wish ≤ ceiling → ceiling_from ceiling link tick wish ≡ answer g
    → (g.code ≤ ceiling) × (g.link.ledger.allowance ≡ link.ledger.allowance)
from_ledger ceiling tick zero link g low e =
    let is : record { code = ceiling; link = link } ≡ g = same_answer e in
    let code : ceiling ≡ g.code = ap (λ (x : Granted). x.code) is in
    (omega arith, sym (ap (λ (x : Granted). x.link.ledger.allowance) is))
from_ledger ceiling tick (suc wish) link g low e =
    let a = accepting.ask link tick (suc wish) g e in
    let up = a.2.rule.up_to in
    (omega arith, ap (λ (x : Ledger). x.allowance) a.2.ledger_is ∙ a.1.allowance_is)
