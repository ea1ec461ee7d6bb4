-- The claims on a router with a ledger: when it asks, what it then leaves, and that these cases are all there are. Assumes nothing.
use Prim.Native.Nat.{ℕ, ◌-◌, ◌≤◌, ◌<◌, min}
use mathlib.Core.Bool.{Bool, true, false, ◌&&◌}
use mathlib.Core.List.{List}
use mathlib.Core.Logic.{◌⊎◌, inl, inr, ⊎_elim}
use Rattle.std.specs.Prelude.{Option, None, Some}
use Rattle.wire_rules.specs.Walk.Walks.{Place}
use mathlib.Core.Path.{◌≡◌, refl, sym, ap, ◌∙◌}
use native.Mathlib.Omega.{arith}
use borrow.Author.Tests.{le-leb, lt-leb}
use lib.ListN.{length, get_or}
use Rattle.common.proofs.Choice.{clash, chosen, both_true, le_or_gt}
use Rattle.refusals.specs.Reply.{Reply, answer, refuse, and_then}
use Rattle.refusals.proofs.ReplyLaws.{same_answer}
use Rattle.wire_rules.specs.declared.Request.{Request}
use Rattle.wire_rules.specs.Ipv4.Packets.{located}
use Rattle.wire_rules.specs.Ipv4.Views.{View, request_at, view, put}
use Rattle.wire_rules.proofs.Ipv4.OptionLaws.{viewed_by}
use Rattle.wire_rules.proofs.Ipv4.Claims.{viewing}
use Rattle.gateway_rules.specs.Ledgers.Calls.{Link, link_in_range, Granted, ask_reply}
use Rattle.gateway_rules.proofs.Ledgers.CallLaws as calls
use Rattle.gateway_rules.specs.Router.Routers.{router_in_range, unexpired, routed_view, wish_of, ceiling_from, Passage, passage, routed_by_ledger}
use Rattle.gateway_rules.specs.Router.Claims.{AllGiven, AsksNoLedger, AtCeiling, LedgerRouting}
use Rattle.gateway_rules.proofs.Router.CallLaws.{wish_low, asked_for_lem, from_ledger}
use Rattle.gateway_rules.proofs.Router.HopLaws.{ok_given, given_ok, routed_view_lem}

module _ (ceiling fresh : ℕ) (p : Passage) where
  abbrev tests : Bool
  tests = router_in_range ceiling fresh && link_in_range (length p.link.row) p.link.ledger.allowance

  all_ok : AllGiven ceiling fresh p → tests ≡ true
  all_ok g = simp (ok_given ceiling fresh g.router_given, calls.in_ranges (length p.link.row) p.link.ledger.allowance g.link_given)

  not_all : (AllGiven ceiling fresh p → ⊥) → tests ≡ false
  not_all n = go tests refl
    where
      go : (t : Bool) → tests ≡ t → t ≡ false
      go true e =
          let both = both_true (router_in_range ceiling fresh) (link_in_range (length p.link.row) p.link.ledger.allowance) e in
          absurd (n (record { router_given = given_ok ceiling fresh both.0; link_given = calls.ranged (length p.link.row) p.link.ledger.allowance both.1 }))
      go false e = refl

  module _ (reach tick : ℕ) (g : AllGiven ceiling fresh p) where
    abbrev decided_by : View → Reply Passage
    decided_by v =
        and_then (ceiling_from ceiling p.link tick (wish_of ceiling v.request)) (λ h. answer (passage (put p.packet (routed_view h.code fresh v)) h.link))

    by_view : (seen : Reply View) → view reach p.packet ≡ seen → routed_by_ledger reach ceiling fresh tick p ≡ and_then seen (λ v. unexpired v (decided_by v))
    by_view seen e = chosen tests _ _ (all_ok g) ∙ ap (λ (s : Reply View). and_then s (λ v. unexpired v (decided_by v))) e

    ledger_six : (v : View) → view reach p.packet ≡ answer v → v.ttl ≤ 1 → routed_by_ledger reach ceiling fresh tick p ≡ refuse 6
    ledger_six v e h = let t : unexpired v (decided_by v) ≡ refuse 6 = simp (le-leb v.ttl 1 h) in by_view (answer v) e ∙ t

    module _ (v : View) (e : view reach p.packet ≡ answer v) (lives : 1 < v.ttl) where
      by_grant : (grant : Reply Granted) → ceiling_from ceiling p.link tick (wish_of ceiling v.request) ≡ grant
          → routed_by_ledger reach ceiling fresh tick p ≡ and_then grant (λ h. answer (passage (put p.packet (routed_view h.code fresh v)) h.link))
      by_grant grant c =
          let t : unexpired v (decided_by v) ≡ decided_by v = simp (lt-leb v.ttl 1 lives) in
          by_view (answer v) e ∙ t ∙ ap (λ (r : Reply Granted). and_then r (λ h. answer (passage (put p.packet (routed_view h.code fresh v)) h.link))) c

      at_grant : (h : Granted) → ceiling_from ceiling p.link tick (wish_of ceiling v.request) ≡ answer h
          → AtCeiling reach h.code fresh p.packet h.link (routed_by_ledger reach ceiling fresh tick p)
      at_grant h c =
          let low = (from_ledger ceiling tick (wish_of ceiling v.request) p.link h (wish_low ceiling v.request) c).0 in
          let given = g.router_given in
          let top = given.ceiling_high in
          record {
            new = put p.packet (routed_view h.code fresh v);
            as_router = routed_view_lem reach h.code fresh p.packet (record { ceiling_high = omega arith; fresh_high = given.fresh_high }) v e lives;
            replied = by_grant (answer h) c;
          }

no_wish : (ceiling : ℕ) (x : Option Request) → AsksNoLedger ceiling x → wish_of ceiling x ≡ 0
no_wish ceiling None a = refl
no_wish ceiling (Some r) (inl z) = omega arith
no_wish ceiling (Some r) (inr z) = omega arith

pub ledger_routing : LedgerRouting routed_by_ledger
ledger_routing = record {
  seven = λ reach ceiling fresh tick p n. simp (not_all ceiling fresh p n);
  faulty = λ reach ceiling fresh tick n p g e. by_view ceiling fresh p reach tick g (refuse n) (viewing.refused reach n p.packet e);
  six = λ reach ceiling fresh tick p place g l h. ledger_six ceiling fresh p reach tick g _ (viewed_by reach p.packet place l) h;
  not_granted = λ reach ceiling fresh tick ttl n p r g e h k l a.
      by_grant ceiling fresh p reach tick g (record { ttl = ttl; request = Some r }) e h (refuse n) (asked_for_lem ceiling tick (min r.rate ceiling) p.link (λ z. absurd (omega arith)) ∙ a);
  granted = λ reach ceiling fresh tick ttl p r h g e lives k l a.
      at_grant ceiling fresh p reach tick g (record { ttl = ttl; request = Some r }) e lives h (asked_for_lem ceiling tick (min r.rate ceiling) p.link (λ z. absurd (omega arith)) ∙ a);
  not_asked = λ reach ceiling fresh tick p v g e h a.
      at_grant ceiling fresh p reach tick g v e h (record { code = ceiling; link = p.link }) (ap (ceiling_from ceiling p.link tick) (no_wish ceiling v.request a));
}

-- each case of a call is one of these
module _ (router : ℕ → ℕ → ℕ → ℕ → Passage → Reply Passage) (c : LedgerRouting router) (reach ceiling fresh tick : ℕ) (p : Passage) where
  abbrev Alike : Type 0
  Alike = router reach ceiling fresh tick p ≡ routed_by_ledger reach ceiling fresh tick p

  -- two replies that are both what a router leaves at the same ceiling
  both_at : (code : ℕ) (link : Link) (one other : Reply Passage) → AtCeiling reach code fresh p.packet link one → AtCeiling reach code fresh p.packet link other → one ≡ other
  both_at code link one other a b = a.replied ∙ ap (λ (l : List ℕ). answer (passage l link)) (same_answer (sym a.as_router ∙ b.as_router)) ∙ sym b.replied

  module _ (g : AllGiven ceiling fresh p) where
    by_asking : (r : Request) (ttl : ℕ) → view reach p.packet ≡ answer (record { ttl = ttl; request = Some r }) → 1 < ttl → 1 ≤ r.rate → 1 ≤ ceiling
        → (grant : Reply Granted) → ask_reply p.link tick (min r.rate ceiling) ≡ grant → Alike
    by_asking r ttl v h k l (refuse n) a =
        c.not_granted reach ceiling fresh tick ttl n p r g v h k l a ∙ sym (ledger_routing.not_granted reach ceiling fresh tick ttl n p r g v h k l a)
    by_asking r ttl v h k l (answer grant) a =
        both_at grant.code grant.link (router reach ceiling fresh tick p) (routed_by_ledger reach ceiling fresh tick p) (c.granted reach ceiling fresh tick ttl p r grant g v h k l a)
        (ledger_routing.granted reach ceiling fresh tick ttl p r grant g v h k l a)

    unasked : (v : View) → view reach p.packet ≡ answer v → 1 < v.ttl → AsksNoLedger ceiling v.request → Alike
    unasked v e h a =
        both_at ceiling p.link (router reach ceiling fresh tick p) (routed_by_ledger reach ceiling fresh tick p) (c.not_asked reach ceiling fresh tick p v g e h a)
        (ledger_routing.not_asked reach ceiling fresh tick p v g e h a)

    by_request : (ttl : ℕ) (x : Option Request) → view reach p.packet ≡ answer (record { ttl = ttl; request = x }) → 1 < ttl → Alike
    by_request ttl None e h = unasked (record { ttl = ttl; request = None }) e h (inl tt)
    by_request ttl (Some r) e h =
        ⊎_elim
        (λ (z : r.rate ≤ 0). unasked (record { ttl = ttl; request = Some r }) e h (inl (omega arith)))
        (λ (k : 0 < r.rate).
        ⊎_elim
        (λ (z : ceiling ≤ 0). unasked (record { ttl = ttl; request = Some r }) e h (inr (omega arith)))
        (λ (l : 0 < ceiling). by_asking r ttl e h k l (ask_reply p.link tick (min r.rate ceiling)) refl)
        (le_or_gt ceiling 0))
        (le_or_gt r.rate 0)

    by_place : (place : Reply Place) → located reach p.packet ≡ place → Alike
    by_place (refuse n) e = c.faulty reach ceiling fresh tick n p g e ∙ sym (ledger_routing.faulty reach ceiling fresh tick n p g e)
    by_place (answer place) e =
        ⊎_elim
        (λ (h : get_or p.packet 8 0 ≤ 1). c.six reach ceiling fresh tick p place g e h ∙ sym (ledger_routing.six reach ceiling fresh tick p place g e h))
        (λ (h : 1 < get_or p.packet 8 0). by_request (get_or p.packet 8 0) (request_at place p.packet) (viewed_by reach p.packet place e) h)
        (le_or_gt (get_or p.packet 8 0) 1)

  pub one_ledger_router : Alike
  one_ledger_router = by_tests (tests ceiling fresh p) refl
    where
      by_tests : (t : Bool) → tests ceiling fresh p ≡ t → Alike
      by_tests true e =
          let both = both_true (router_in_range ceiling fresh) (link_in_range (length p.link.row) p.link.ledger.allowance) e in
          by_place (record { router_given = given_ok ceiling fresh both.0; link_given = calls.ranged (length p.link.row) p.link.ledger.allowance both.1 })
          (located reach p.packet) refl
      by_tests false e =
          let n : AllGiven ceiling fresh p → ⊥ = λ g. clash (let x = sym e ∙ all_ok ceiling fresh p g in cc) in
          c.seven reach ceiling fresh tick p n ∙ sym (ledger_routing.seven reach ceiling fresh tick p n)
