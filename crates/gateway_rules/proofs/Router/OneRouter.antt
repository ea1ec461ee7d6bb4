-- Whatever router, or silent router, has what is claimed leaves the packet that ours leaves. Assumes nothing.
use Prim.Native.Nat.{ℕ, ◌+◌, ◌-◌, ◌≤◌, ◌<◌, min}
use mathlib.Core.Bool.{Bool, true, false}
use mathlib.Core.List.{List}
use mathlib.Core.Logic.{◌⊎◌, inl, inr, ⊎_elim}
use Rattle.std.specs.Prelude.{Option, None, Some}
use Rattle.wire_rules.specs.Walk.Walks.{Place}
use mathlib.Core.Path.{◌≡◌, refl, sym, ap, subst, ◌∙◌}
use native.Mathlib.Omega.{arith}
use lib.ListN.{get_or}
use Rattle.common.specs.Lists.{Bytes}
use Rattle.common.proofs.Choice.{clash, le_or_gt}
use Rattle.refusals.specs.Reply.{Reply, answer, refuse}
use Rattle.refusals.proofs.ReplyLaws.{same_answer}
use Rattle.wire_rules.specs.declared.Request.{Request}
use Rattle.wire_rules.specs.Options.Wire.{reserved_in}
use Rattle.wire_rules.specs.Ipv4.Checks.{header_checked}
use Rattle.wire_rules.specs.Ipv4.Packets.{located}
use Rattle.wire_rules.specs.Ipv4.Views.{View, option_at, request_at, view}
use Rattle.wire_rules.proofs.Ipv4.HeaderLaws.{Good, good}
use Rattle.wire_rules.proofs.Ipv4.OptionLaws.{found, viewed_by}
use Rattle.gateway_rules.specs.declared.Decision.TheVariants as Decisions
use Rattle.gateway_rules.specs.Router.Decisions.{approved_at, denial, request_after}
use Rattle.gateway_rules.specs.Router.Routers.{router_in_range, routed, silently_routed}
use Rattle.gateway_rules.specs.Router.Claims.{Router, Given, Testing, PassedOn, OutsideOption, Anywhere, AsksNothing, Passing, Silence, Carries, Leaves, OneHop}
use Rattle.gateway_rules.proofs.Router.DecisionLaws.{nothing_decided}
use Rattle.gateway_rules.proofs.Router.HopLaws.{ok_given, given_ok, denied_at, approved_at_lem, approves_only}
use Rattle.gateway_rules.proofs.Router.OnlyLaws.{same_packet, six_alike}
use Rattle.gateway_rules.proofs.Router.RoutingLaws.{after_decided, testing, passing, silence, one_hop}

-- what a router that has one hop as stated leaves is determined by the four numbers that came
module _ (router : Router) (o : OneHop router) (reach ceiling fresh place ttl : ℕ) (packet new : List ℕ) (r : Request) (g : Given ceiling fresh) (c : Carries reach packet place ttl r)
    (e : router reach ceiling fresh packet ≡ answer new) where
  -- the request that ours leaves, in the packet of the other
  abbrev Carried : Type 0
  Carried = (q : Request) × (request_after ceiling fresh (Some r) ≡ Some q) × Carries reach new place (ttl - 1) q

  carried_in : (q : Request) → Leaves reach packet place (ttl - 1) q (router reach ceiling fresh packet) → request_after ceiling fresh (Some r) ≡ Some q → Carried
  carried_in q l a = (q, a, subst (λ (k : List ℕ). Carries reach k place (ttl - 1) q) (same_answer (sym l.replied ∙ e)) l.carries)

  carried : 1 < ttl → Carried
  carried h = ⊎_elim without_rate with_rate (le_or_gt r.rate 0)
    where
      without_rate : r.rate ≤ 0 → Carried
      without_rate z =
          let zero_rate : r.rate ≡ 0 = omega arith in
          carried_in r (o.rate_0 reach ceiling fresh place ttl packet r g c h zero_rate) (after_decided ceiling fresh r Decisions.Nothing (sym (nothing_decided ceiling fresh r zero_rate)))

      with_ceiling : 1 ≤ r.rate → 1 ≤ ceiling → Carried
      with_ceiling k l =
          let a = o.approves reach ceiling fresh place ttl packet r g c h k l in
          carried_in a.0 a.2
          (after_decided ceiling fresh r (Decisions.Approved (approved_at (min r.rate ceiling) fresh r)) (approved_at_lem ceiling fresh r k l) ∙ ap Some (sym (approves_only ceiling fresh r k a.0 a.1)))

      no_ceiling : 1 ≤ r.rate → ceiling ≡ 0 → Carried
      no_ceiling k z =
          let d = o.denies reach fresh place ttl packet r (subst (λ (n : ℕ). Given n fresh) z g) c h k in
          carried_in denial (subst (λ (n : ℕ). Leaves reach packet place (ttl - 1) denial (router reach n fresh packet)) (sym z) d) (after_decided ceiling fresh r Decisions.Denied (denied_at ceiling fresh r k z))

      with_rate : 0 < r.rate → Carried
      with_rate k = ⊎_elim (λ (z : ceiling ≤ 0). no_ceiling k (omega arith)) (λ (l : 0 < ceiling). with_ceiling k l) (le_or_gt ceiling 0)

module _ (router : Router) (t : Testing router) (s : Passing router) (o : OneHop router) (reach ceiling fresh : ℕ) (packet : List ℕ) (b : Bytes packet) where
  abbrev SameReply : Type 0
  SameReply = router reach ceiling fresh packet ≡ routed reach ceiling fresh packet

  module _ (g : Given ceiling fresh) (place : Place) (l : located reach packet ≡ answer place) (new own : List ℕ) (e : router reach ceiling fresh packet ≡ answer new)
      (f : routed reach ceiling fresh packet ≡ answer own) where
    theirs : PassedOn reach packet new (OutsideOption place)
    theirs = s.always reach ceiling fresh packet new place b l e

    ours_too : PassedOn reach packet own (OutsideOption place)
    ours_too = passing.always reach ceiling fresh packet own place b l f

    good_header : Good reach packet
    good_header = (found reach packet place l).is_good

    -- where no byte of the option changes
    plain : (v : View) → view reach packet ≡ answer v → AsksNothing v.request → new ≡ own
    plain v w a =
        let x = s.untouched reach ceiling fresh packet new v b w a e in
        let y = passing.untouched reach ceiling fresh packet own v b w a f in
        same_packet reach packet new own Anywhere Anywhere x y good_header.form_is.long good_header.header tt tt
        (λ i n c. x.others i n c.0 c.1 tt ∙ sym (y.others i n c.0 c.1 tt))

  -- where a request is decided
  decided_alike : Given ceiling fresh → (place ttl : ℕ) (r : Request) (new own : List ℕ) → Carries reach packet place ttl r → 1 < ttl
      → router reach ceiling fresh packet ≡ answer new → routed reach ceiling fresh packet ≡ answer own → new ≡ own
  decided_alike g place ttl r new own c h e f =
      let l = c.located_at in
      let x = theirs g (Some place) l new own e f in
      let y = ours_too g (Some place) l new own e f in
      let header = good_header g (Some place) l new own e f in
      let v = carried router o reach ceiling fresh place ttl packet new r g c e h in
      let w = carried routed one_hop reach ceiling fresh place ttl packet own r g c f h in
      let same : w.0 ≡ v.0 = let q = sym w.1 ∙ v.1 in cc in
      let there = subst (λ (q : Request). Carries reach own place (ttl - 1) q) same w.2 in
      let kept : reserved_in (option_at place new) ≡ reserved_in (option_at place own) =
      s.reserved reach ceiling fresh place packet new b l e ∙ sym (passing.reserved reach ceiling fresh place packet own b l f) in
      same_packet reach packet new own (OutsideOption (Some place)) (OutsideOption (Some place)) x y header.form_is.long header.header (inl (omega arith)) (inl (omega arith))
      (λ i n d.
      ⊎_elim
      (λ (high : place + 2 ≤ i).
      ⊎_elim
      (λ (behind : place + 8 ≤ i). x.others i n d.0 d.1 (inr behind) ∙ sym (y.others i n d.0 d.1 (inr behind)))
      (λ (inside : i < place + 8).
      let k : place + (i - place) ≡ i = omega arith in
      ap (λ (z : ℕ). get_or new z 0) (sym k)
      ∙ six_alike reach place (ttl - 1) new own v.0 x.bytes y.bytes v.2.located_at there.located_at v.2.viewed there.viewed kept (i - place) (omega arith) (omega arith)
      ∙ ap (λ (z : ℕ). get_or own z 0) k)
      (le_or_gt (place + 8) i))
      (λ (low : i < place + 2). x.others i n d.0 d.1 (inl low) ∙ sym (y.others i n d.0 d.1 (inl low)))
      (le_or_gt (place + 2) i))

  accepted_alike : Given ceiling fresh → (place : Place) → located reach packet ≡ answer place → 1 < get_or packet 8 0 → (new own : List ℕ)
      → router reach ceiling fresh packet ≡ answer new → routed reach ceiling fresh packet ≡ answer own → new ≡ own
  accepted_alike g None l h new own e f = plain g None l new own e f _ (viewed_by reach packet None l) tt
  accepted_alike g (Some place) l h new own e f = by_request (request_at (Some place) packet) refl
    where
      by_request : (x : Option Request) → request_at (Some place) packet ≡ x → new ≡ own
      by_request None a =
          plain g (Some place) l new own e f (record { ttl = get_or packet 8 0; request = None })
          (viewed_by reach packet (Some place) l ∙ ap (λ (y : Option Request). answer (record { ttl = get_or packet 8 0; request = y })) a) tt
      by_request (Some r) a =
          decided_alike g place (get_or packet 8 0) r new own
          (record {
            bytes = b;
            located_at = l;
            viewed = viewed_by reach packet (Some place) l ∙ ap (λ (y : Option Request). answer (record { ttl = get_or packet 8 0; request = y })) a;
          })
          h e f

  by_place_alike : Given ceiling fresh → (place : Reply Place) → located reach packet ≡ place → SameReply
  by_place_alike g (refuse n) e = t.faulty reach ceiling fresh n packet g e ∙ sym (testing.faulty reach ceiling fresh n packet g e)
  by_place_alike g (answer place) e =
      ⊎_elim
      (λ (h : get_or packet 8 0 ≤ 1). t.six reach ceiling fresh packet place g e h ∙ sym (testing.six reach ceiling fresh packet place g e h))
      (λ (h : 1 < get_or packet 8 0).
      let x = t.accepted reach ceiling fresh packet place g e h in
      let y = testing.accepted reach ceiling fresh packet place g e h in
      x.1 ∙ ap answer (accepted_alike g place e h x.0 y.0 x.1 y.1) ∙ sym y.1)
      (le_or_gt (get_or packet 8 0) 1)

  pub one_router : SameReply
  one_router = by_range (router_in_range ceiling fresh) refl
    where
      by_range : (k : Bool) → router_in_range ceiling fresh ≡ k → SameReply
      by_range true e = by_place_alike (given_ok ceiling fresh e) (located reach packet) refl
      by_range false e =
          let n : Given ceiling fresh → ⊥ = λ g. clash (let x = sym e ∙ ok_given ceiling fresh g in cc) in
          t.seven reach ceiling fresh packet n ∙ sym (testing.seven reach ceiling fresh packet n)

module _ (silent : ℕ → List ℕ → Reply (List ℕ)) (s : Silence silent) (reach : ℕ) (packet : List ℕ) (b : Bytes packet) where
  by_header : (r : Reply ℕ) → header_checked reach packet ≡ r → silent reach packet ≡ silently_routed reach packet
  by_header (refuse n) e = s.faulty reach n packet e ∙ sym (silence.faulty reach n packet e)
  by_header (answer h) e =
      ⊎_elim
      (λ (l : get_or packet 8 0 ≤ 1). s.six reach h packet e l ∙ sym (silence.six reach h packet e l))
      (λ (l : 1 < get_or packet 8 0).
      let header = (good reach h packet (sym e)).0 in
      let x = s.accepted reach h packet e l in
      let y = silence.accepted reach h packet e l in
      let p = s.always reach packet x.0 b x.1 in
      let q = silence.always reach packet y.0 b y.1 in
      x.1
      ∙ ap answer (same_packet reach packet x.0 y.0 Anywhere Anywhere p q header.form_is.long header.header tt tt (λ i n c. p.others i n c.0 c.1 tt ∙ sym (q.others i n c.0 c.1 tt)))
      ∙ sym y.1)
      (le_or_gt (get_or packet 8 0) 1)

  pub one_silent_lem : silent reach packet ≡ silently_routed reach packet
  one_silent_lem = by_header (header_checked reach packet) refl
