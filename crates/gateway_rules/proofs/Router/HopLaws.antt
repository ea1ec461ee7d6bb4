-- Laws of a packet that a router replies with: which refusal is given, what an accepted call leaves of the packet, and one hop. Assumes
-- nothing.
use Prim.Native.Nat.{ℕ, ◌+◌, ◌-◌, ◌*◌, ◌%◌, ◌≤◌, ◌<◌, min}
use mathlib.Core.Bool.{true, false}
use mathlib.Core.List.{List}
use mathlib.Core.Logic.{inl}
use Rattle.std.specs.Prelude.{Option, None, Some}
use Rattle.wire_rules.specs.Walk.Walks.{Place}
use mathlib.Core.Path.{◌≡◌, refl, sym, ap, ap₂, subst, ◌∙◌}
use native.Mathlib.Omega.{arith}
use borrow.Author.Tests.{le-leb, lt-leb}
use lib.ListN.{get_or, set}
use Rattle.common.specs.Lists.{Bytes}
use Rattle.common.proofs.Choice.{chosen, untrue}
use Rattle.refusals.specs.Reply.{Reply, answer, refuse, and_then}
use Rattle.refusals.proofs.ReplyLaws.{same_answer, through}
use Rattle.wire_rules.specs.declared.Request.{Request}
use Rattle.wire_rules.specs.Options.Wire.{reserved_in}
use Rattle.wire_rules.proofs.Options.Claims.{lowering}
use Rattle.wire_rules.specs.Ipv4.Headers.{ttl_place, ip_ttl, header_length}
use Rattle.wire_rules.specs.Ipv4.Checksums.{sealed}
use Rattle.wire_rules.specs.Ipv4.Checks.{header_checked}
use Rattle.wire_rules.specs.Ipv4.Packets.{walked, located, passed_on}
use Rattle.wire_rules.specs.Ipv4.Views.{View, option_at, view, put}
use Rattle.wire_rules.specs.Ipv4.Claims.{OutsideRequest, Changed}
use Rattle.wire_rules.proofs.Ipv4.HeaderLaws.{good}
use Rattle.wire_rules.proofs.Ipv4.OptionLaws.{view_place}
use Rattle.wire_rules.proofs.Ipv4.ReadLaws.{passed_of, passed_is, ttl_form}
use Rattle.wire_rules.proofs.Ipv4.Claims.{sealing, reading, viewing, forwarding}
use Rattle.gateway_rules.specs.declared.Decision.{Decision}
use Rattle.gateway_rules.specs.declared.Decision.TheVariants as Decisions
use Rattle.gateway_rules.specs.Router.Decisions.{one_less, approved_at, decided, written_by, over, request_after}
use Rattle.gateway_rules.specs.Router.Routers.{router_in_range, unexpired, routed_view, routed, silently_routed}
use Rattle.gateway_rules.specs.Router.Claims.{Approves, Given, PassedOn, OutsideOption, Anywhere, AsksNothing, Carries, Leaves}
use Rattle.gateway_rules.proofs.Router.DecisionLaws.{in_range_lem, ranges, nothing_decided, denied, approved, asks_kept, routed_fits}
use Rattle.gateway_rules.proofs.Router.CallLaws.{routed_by}

-- ---- ranges

pub ok_given : (ceiling fresh : ℕ) → Given ceiling fresh → router_in_range ceiling fresh ≡ true
ok_given ceiling fresh g = ranges ceiling fresh g.ceiling_high g.fresh_high

pub given_ok : (ceiling fresh : ℕ) → router_in_range ceiling fresh ≡ true → Given ceiling fresh
given_ok ceiling fresh e = let i = in_range_lem ceiling fresh e in record { ceiling_high = i.ceiling_fits; fresh_high = i.fresh_fits }

pub not_given : (ceiling fresh : ℕ) → (Given ceiling fresh → ⊥) → router_in_range ceiling fresh ≡ false
not_given ceiling fresh n = untrue (router_in_range ceiling fresh) (λ e. n (given_ok ceiling fresh e))

-- ---- what a router replies, by the view

module _ (reach ceiling fresh : ℕ) (packet : List ℕ) (g : Given ceiling fresh) where
  abbrev stepped : View → Reply (List ℕ)
  stepped v = unexpired v (answer (put packet (routed_view ceiling fresh v)))

  by_view : (seen : Reply View) → view reach packet ≡ seen → routed reach ceiling fresh packet ≡ and_then seen stepped
  by_view seen e = chosen (router_in_range ceiling fresh) _ _ (ok_given ceiling fresh g) ∙ ap (λ (s : Reply View). and_then s stepped) e

  pub routed_fault : (n : ℕ) → located reach packet ≡ refuse n → routed reach ceiling fresh packet ≡ refuse n
  routed_fault n e = by_view (refuse n) (viewing.refused reach n packet e)

  pub routed_six : (v : View) → view reach packet ≡ answer v → v.ttl ≤ 1 → routed reach ceiling fresh packet ≡ refuse 6
  routed_six v e h = let t : stepped v ≡ refuse 6 = simp (le-leb v.ttl 1 h) in by_view (answer v) e ∙ t

  pub routed_view_lem : (v : View) → view reach packet ≡ answer v → 1 < v.ttl → routed reach ceiling fresh packet ≡ answer (put packet (routed_view ceiling fresh v))
  routed_view_lem v e h = let t : stepped v ≡ answer (put packet (routed_view ceiling fresh v)) = simp (lt-leb v.ttl 1 h) in by_view (answer v) e ∙ t

-- ---- what a put leaves of a packet

pub ttl_shown : (reach : ℕ) (packet : List ℕ) (v : View) → view reach packet ≡ answer v → get_or packet 8 0 ≡ v.ttl
ttl_shown reach packet v e = sym (ap (λ (x : View). x.ttl) (view_place reach packet v e).2)

outside : (place : Place) (request : Option Request) (i : ℕ) → OutsideOption place i → OutsideRequest place request i
outside None request i o = tt
outside (Some p) None i o = tt
outside (Some p) (Some r) i o = o

low_outside : (reach : ℕ) (packet : List ℕ) (place : Place) → located reach packet ≡ answer place → OutsideOption place 0
low_outside reach packet None e = tt
low_outside reach packet (Some p) e = inl (omega arith)

-- a view whose IP TTL is one lower, put into a packet without fault
pub changed_passed : (reach : ℕ) (packet : List ℕ) (place : Place) (old new : View) → located reach packet ≡ answer place → view reach packet ≡ answer old → 1 < old.ttl
    → new.ttl ≡ old.ttl - 1 → Changed reach packet place new → PassedOn reach packet (put packet new) (OutsideOption place)
changed_passed reach packet place old new l e h t c =
    let others : (i : ℕ) → (i ≡ 8 → ⊥) → (i ≡ 10 → ⊥) → (i ≡ 11 → ⊥) → OutsideOption place i → get_or (put packet new) i 0 ≡ get_or packet i 0 =
    λ i a b d o. c.others i a (b, d) (outside place new.request i o) in
    let first = others 0 (λ z. absurd (omega arith)) (λ z. absurd (omega arith)) (λ z. absurd (omega arith)) (low_outside reach packet place l) in
    let checked = through (header_checked reach (put packet new)) (λ header. walked (put packet new)) place c.located_still in
    let size = (good reach checked.0 (put packet new) (sym checked.1)).1 in
    let same : header_length (put packet new) ≡ header_length packet =
    reading.header_length_lem (put packet new) ∙ ap (λ (b : ℕ). b % 16 * 4) first ∙ sym (reading.header_length_lem packet) in
    record {
      lowered = omega (arith, ttl_shown reach packet old e, ttl_shown reach (put packet new) new c.viewed);
      checks = checked.1 ∙ ap answer (size ∙ same);
      others = others;
      long = c.long;
      bytes = c.bytes;
      written = c.sealed_still;
    }

pub routed_changed : (reach ceiling fresh : ℕ) (packet : List ℕ) (place : Place) (v : View) → Bytes packet → located reach packet ≡ answer place → view reach packet ≡ answer v
    → Changed reach packet place (routed_view ceiling fresh v)
routed_changed reach ceiling fresh packet place v b l e =
    viewing.changes reach packet place v (routed_view ceiling fresh v) b l e (routed_fits ceiling fresh v (viewing.fits reach packet v b e)) (asks_kept ceiling fresh v.request)

pub routed_passed : (reach ceiling fresh : ℕ) (packet new : List ℕ) (place : Place) → Bytes packet → located reach packet ≡ answer place → routed reach ceiling fresh packet ≡ answer new
    → PassedOn reach packet new (OutsideOption place)
routed_passed reach ceiling fresh packet new place b l e =
    let r = routed_by reach ceiling fresh packet new e in
    subst (λ (q : List ℕ). PassedOn reach packet q (OutsideOption place)) (sym r.is)
    (changed_passed reach packet place r.seen (routed_view ceiling fresh r.seen) l r.viewed r.lives refl (routed_changed reach ceiling fresh packet place r.seen b l r.viewed))

pub routed_reserved : (reach ceiling fresh place : ℕ) (packet new : List ℕ) → Bytes packet → located reach packet ≡ answer (Some place) → routed reach ceiling fresh packet ≡ answer new
    → reserved_in (option_at place new) ≡ reserved_in (option_at place packet)
routed_reserved reach ceiling fresh place packet new b l e =
    let r = routed_by reach ceiling fresh packet new e in
    ap (λ (q : List ℕ). reserved_in (option_at place q)) r.is ∙ (routed_changed reach ceiling fresh packet (Some place) r.seen b l r.viewed).reserved place refl

-- ---- a silent router

pub silent_faulty : (reach n : ℕ) (packet : List ℕ) → header_checked reach packet ≡ refuse n → silently_routed reach packet ≡ refuse n
silent_faulty = forwarding.not_forwarded

pub silent_passed : (reach : ℕ) (packet new : List ℕ) → Bytes packet → silently_routed reach packet ≡ answer new → PassedOn reach packet new Anywhere
silent_passed reach packet new b e =
    let p = (through (header_checked reach packet) (λ header. passed_on reach packet) new e).2 in
    record {
      lowered = forwarding.lowered reach packet new p;
      checks = forwarding.passes reach packet new b p;
      others = λ i n c d o. forwarding.others reach packet new p i n (c, d);
      long = forwarding.long reach packet new p;
      bytes = forwarding.bytes reach packet new b p;
      written =
          let is = passed_is reach packet new p in
          ap sealed is.2 ∙ sealing.again reach (set packet ttl_place (ip_ttl packet - 1)) ((ttl_form reach packet (ip_ttl packet - 1)).0 ∙ is.0) ∙ sym is.2;
    }

pub silent_six : (reach h : ℕ) (packet : List ℕ) → header_checked reach packet ≡ answer h → get_or packet 8 0 ≤ 1 → silently_routed reach packet ≡ refuse 6
silent_six reach h packet e l = forwarding.forwarded_by reach h packet e ∙ forwarding.expired reach packet (good reach h packet (sym e)).0.well l

pub silent_accepted : (reach h : ℕ) (packet : List ℕ) → header_checked reach packet ≡ answer h → 1 < get_or packet 8 0 → (new : List ℕ) × (silently_routed reach packet ≡ answer new)
silent_accepted reach h packet e l = (_, forwarding.forwarded_by reach h packet e ∙ passed_of reach packet (good reach h packet (sym e)).0.well l)

-- ---- where there is nothing to decide

pub nothing_after : (ceiling fresh : ℕ) (x : Option Request) → AsksNothing x → request_after ceiling fresh x ≡ x
nothing_after ceiling fresh None a = refl
nothing_after ceiling fresh (Some r) a = ap (λ (d : Decision). over (written_by d) (Some r)) (sym (nothing_decided ceiling fresh r a))

pub untouched_passed : (reach ceiling fresh : ℕ) (packet new : List ℕ) (v : View) → Bytes packet → view reach packet ≡ answer v → AsksNothing v.request
    → routed reach ceiling fresh packet ≡ answer new → PassedOn reach packet new Anywhere
untouched_passed reach ceiling fresh packet new v b e a r =
    let k = routed_by reach ceiling fresh packet new r in
    let same : k.seen ≡ v = same_answer (sym k.viewed ∙ e) in
    let lives : 1 < v.ttl = subst (λ (x : View). 1 < x.ttl) same k.lives in
    let is : put packet (record { ttl = v.ttl - 1; request = v.request }) ≡ new =
    ap (λ (x : Option Request). put packet (record { ttl = v.ttl - 1; request = x })) (sym (nothing_after ceiling fresh v.request a))
    ∙ ap (λ (x : View). put packet (routed_view ceiling fresh x)) (sym same)
    ∙ sym k.is in
    silent_passed reach packet new b (forwarding.puts_back reach packet v b e lives ∙ ap answer is)

-- ---- one hop

module _ (reach place ttl : ℕ) (packet : List ℕ) (r : Request) (c : Carries reach packet place ttl r) (lives : 1 < ttl) where
  abbrev seen : View
  seen = record { ttl = ttl; request = Some r }

  -- four numbers put into a packet that carries a request
  left_by : (q : Request) (reply : Reply (List ℕ)) → reply ≡ answer (put packet (record { ttl = ttl - 1; request = Some q }))
      → Changed reach packet (Some place) (record { ttl = ttl - 1; request = Some q }) → Leaves reach packet place (ttl - 1) q reply
  left_by q reply e changed = record {
    new = put packet (record { ttl = ttl - 1; request = Some q });
    replied = e;
    carries = record { bytes = changed.bytes; located_at = changed.located_still; viewed = changed.viewed };
    long = changed.long;
  }

  -- the request after a router's decision is what its packet carries
  pub hop : (ceiling fresh : ℕ) (q : Request) → Given ceiling fresh → request_after ceiling fresh (Some r) ≡ Some q
      → Leaves reach packet place (ttl - 1) q (routed reach ceiling fresh packet)
  hop ceiling fresh q g e =
      let is : routed_view ceiling fresh seen ≡ record { ttl = ttl - 1; request = Some q } = ap (λ (x : Option Request). record { ttl = ttl - 1; request = x }) e in
      left_by q (routed reach ceiling fresh packet) (routed_view_lem reach ceiling fresh packet g seen c.viewed lives ∙ ap (λ (v : View). answer (put packet v)) is)
      (subst (Changed reach packet (Some place)) is (routed_changed reach ceiling fresh packet (Some place) seen c.bytes c.located_at c.viewed))

  pub silent_hop_lem : Leaves reach packet place (ttl - 1) r (silently_routed reach packet)
  silent_hop_lem =
      let f = viewing.fits reach packet seen c.bytes c.viewed in
      let small = f.ttl_small in
      left_by r (silently_routed reach packet) (forwarding.puts_back reach packet seen c.bytes c.viewed lives)
      (viewing.changes reach packet (Some place) seen (record { ttl = ttl - 1; request = Some r }) c.bytes c.located_at c.viewed
      (record { ttl_small = omega arith; request_fits = f.request_fits }) refl)

-- which request that is
module _ (ceiling fresh : ℕ) (r : Request) (rate : 1 ≤ r.rate) where
  pub denied_at : ceiling ≡ 0 → decided ceiling fresh r ≡ Decisions.Denied
  denied_at z = sym (denied ceiling fresh r (λ e. absurd (omega arith)) (omega arith))

  pub approved_at_lem : 1 ≤ ceiling → decided ceiling fresh r ≡ Decisions.Approved (approved_at (min r.rate ceiling) fresh r)
  approved_at_lem h = sym (approved ceiling fresh r (λ e. absurd (omega arith)) (λ e. absurd (omega arith)))

  pub approves_it : Approves r ceiling fresh (approved_at (min r.rate ceiling) fresh r)
  unfolding one_less
  approves_it = record {
    least = refl;
    ttl_byte = omega arith;
    ttl_lower = omega arith;
    nonce_kept = lowering.keeps r.rate (min r.rate ceiling) r.nonce fresh (omega arith);
  }

  -- and that says all there is to say of it
  pub approves_only : (q : Request) → Approves r ceiling fresh q → q ≡ approved_at (min r.rate ceiling) fresh r
  unfolding one_less
  approves_only q a =
      let least = a.least in
      let byte = a.ttl_byte in
      let lower = a.ttl_lower in
      let ttl : q.qs_ttl ≡ (r.qs_ttl + 255) % 256 = omega arith in
      let nonce = lowering.only r.rate q.rate r.nonce fresh q.nonce (omega arith) a.nonce_kept in
      ap₂ (λ (t n : ℕ). record { rate = q.rate; qs_ttl = t; nonce = n }) ttl nonce ∙ ap (λ (k : ℕ). approved_at k fresh r) least
