-- Laws of routers: a packet that was met is looked at, decided and passed on, and what that leaves is the decision put into its view.
-- Assumes nothing.
use Rattle.std.proofs.Common.{◌≡◌, ℕ, ◌+◌, ◌-◌, ◌<◌, ◌≤◌, true, leb, List, ◌++◌, length, take, drop, sym, refl, ap, ◌∙◌, subst, append_assoc, arith, length-drop, length-take-le, drop-drop, leb-false}
use Rattle.std.specs.Prelude.{Option, None, Some, Result, Ok, Err, IsOk}
use Rattle.wire_rules.specs.Walk.Walks.{Place}
use lib.Seq.{sets, sets-eq, length-sets}
use Rattle.common.specs.Choice.{pick}
use Rattle.common.specs.Lists.{Bytes}
use Rattle.common.proofs.Choice.{clash}
use Rattle.refusals.specs.Reply.{Reply, answer, refuse, leaves}
use Rattle.refusals.specs.declared.Refusal.{Refusal}
use Rattle.refusals.specs.Replies.{told}
use Rattle.refusals.proofs.ReplyLaws.{same_answer, through, let_through}
use Rattle.wire_rules.specs.declared.Request.{Request}
use Rattle.wire_rules.specs.Options.Wire.{option_length}
use Rattle.wire_rules.specs.Options.Requests.{request_rewritten}
use Rattle.wire_rules.specs.Ipv4.Headers.{ip_ttl}
use Rattle.wire_rules.specs.Ipv4.Checks.{header_checked}
use Rattle.wire_rules.specs.Ipv4.Packets.{walked, located, passed_on}
use Rattle.wire_rules.specs.Ipv4.Views.{option_at, request_at, view, put_request, put}
use Rattle.wire_rules.specs.Ipv4.Claims.{FitsWhere}
use Rattle.wire_rules.proofs.Ipv4.OptionLaws.{viewed_by}
use Rattle.wire_rules.proofs.Ipv4.Claims.{viewing, forwarding}
use Rattle.gateway_rules.specs.Ledgers.Calls.{Link, code_in}
use Rattle.gateway_rules.specs.declared.Seen.{Seen}
use Rattle.gateway_rules.specs.Inspect.Sights.{asking_at, sighted, Asking}
use Rattle.inspect.proofs.SightLaws.{room_of}
use Rattle.gateway_rules.specs.declared.Decision.{Decision}
use Rattle.gateway_rules.specs.declared.Decision.TheVariants as Decisions
use Rattle.gateway_rules.specs.Router.Decisions.{decided, denial, written_by, over}
use Rattle.gateway_rules.specs.Router.Routers.{router_in_range, routed_view, wish_of, ceiling_from}
use Rattle.router.specs.Parts.{met, met_view, ReadableWhere, decision_written}
use Rattle.gateway_rules.proofs.Router.DecisionLaws.{in_range_lem, ranges, decided_fits}
use Rattle.gateway_rules.proofs.Router.CallLaws.{from_ledger, wish_low}

-- ---- the eight bytes lent

-- the part of the packet that was lent, rewritten and back in its place, is the request put there
pub rewritten_at : (packet : List ℕ) (place : ℕ) (r : Request) (last : List ℕ) → place + option_length ≤ length packet
    → (let part = take (place + option_length - place) (drop place packet) in
    (length last ≡ length part) × (last ≡ leaves part (request_rewritten part r.rate r.qs_ttl r.nonce)))
    → take place packet ++ (last ++ drop (place + option_length - place) (drop place packet)) ≡ put_request (Some place) (Some r) packet
rewritten_at packet place r last h (l, e) =
    let k : place + option_length - place ≡ option_length = omega arith in
    let part : take (place + option_length - place) (drop place packet) ≡ option_at place packet = ap (λ (n : ℕ). take n (drop place packet)) k in
    let long : length last ≡ option_length = l ∙ ap length part ∙ length-take-le option_length (drop place packet) (rw (length-drop place packet) (omega arith)) in
    let new : last ≡ leaves (option_at place packet) (request_rewritten (option_at place packet) r.rate r.qs_ttl r.nonce) =
    e ∙ ap (λ (p : List ℕ). leaves p (request_rewritten p r.rate r.qs_ttl r.nonce)) part in
    ap (λ (n : ℕ). take place packet ++ (last ++ drop n (drop place packet))) (k ∙ sym long)
    ∙ ap (λ (t : List ℕ). take place packet ++ (last ++ t)) (drop-drop (length last) place packet)
    ∙ sym (append_assoc (take place packet) last (drop (place + length last) packet))
    ∙ sym (sets-eq last packet place (rw long h))
    ∙ ap (λ (t : List ℕ). sets packet place t) new

-- ---- a packet that was met

abbrev seen_at : List ℕ → Place → Reply Seen
seen_at packet place = answer (record { ttl = ip_ttl packet; asking = asking_at place (request_at place packet) })

abbrev tested : Seen → Reply Asking
tested seen = pick (leb seen.ttl 1) (refuse 6) (answer seen.asking)

-- what was met was located, and has not expired
pub record MetAt (reach : ℕ) (packet : List ℕ) (asking : Asking) : Type 0 where
  pub place : Place
  pub located_at : located reach packet ≡ answer place
  pub asks_for : asking_at place (request_at place packet) ≡ asking
  pub lives : 1 < ip_ttl packet

pub met_at : (reach : ℕ) (packet : List ℕ) (asking : Asking) → met reach packet ≡ answer asking → MetAt reach packet asking
met_at reach packet asking e =
    let s = through (sighted reach packet) tested asking e in
    let l = through (located reach packet) (seen_at packet) s.0 s.1 in
    let seen : record { ttl = ip_ttl packet; asking = asking_at l.0 (request_at l.0 packet) } ≡ s.0 = same_answer l.2 in
    let t = let_through (leb s.0.ttl 1) asking (answer s.0.asking) 6 (sym s.2) in
    let ttl : ip_ttl packet ≡ s.0.ttl = ap (λ (x : Seen). x.ttl) seen in
    record {
      place = l.0;
      located_at = l.1;
      asks_for = ap (λ (x : Seen). x.asking) seen ∙ sym (same_answer t.1);
      lives = rw ttl (leb-false s.0.ttl 1 t.0);
    }

-- the request that was met was read from bytes, and its option lies in the packet
pub met_readable : (reach : ℕ) (packet : List ℕ) (asking : Asking) → Bytes packet → met reach packet ≡ answer asking → ReadableWhere asking (length packet)
met_readable reach packet asking b e = let m = met_at reach packet asking e in subst (λ (a : Asking). ReadableWhere a (length packet)) m.asks_for (go m.place (request_at m.place packet) refl m.located_at)
  where
    go : (place : Place) (x : Option Request) → request_at place packet ≡ x → located reach packet ≡ answer place → ReadableWhere (asking_at place x) (length packet)
    go None x s l = tt
    go (Some o) None s l = tt
    go (Some o) (Some r) s l =
        let f = (viewing.fits reach packet _ b (viewed_by reach packet (Some o) l)).request_fits in
        let g = subst FitsWhere s f in
        record { room = room_of reach packet (Some o) (sym l); rate_fits = g.rate_fits; nonce_fits = g.nonce_fits }

-- ---- decided and passed on

module _ (reach : ℕ) (packet : List ℕ) (b : Bytes packet) (lives : 1 < ip_ttl packet) where
  -- nothing was written
  untouched : (place : Place) (x : Option Request) → located reach packet ≡ answer place → request_at place packet ≡ x
      → passed_on reach packet ≡ answer (put packet (record { ttl = ip_ttl packet - 1; request = x }))
  untouched place x l s =
      let checked = through (header_checked reach packet) (λ header. walked packet) place l in
      let seen : view reach packet ≡ answer (record { ttl = ip_ttl packet; request = x }) =
      viewed_by reach packet place l ∙ ap (λ (y : Option Request). answer (record { ttl = ip_ttl packet; request = y })) s in
      sym (forwarding.forwarded_by reach checked.0 packet checked.1) ∙ forwarding.puts_back reach packet _ b seen lives

  written : (o : ℕ) (r new : Request) → located reach packet ≡ answer (Some o) → request_at (Some o) packet ≡ Some r → FitsWhere (Some new)
      → passed_on reach (put_request (Some o) (Some new) packet) ≡ answer (put packet (record { ttl = ip_ttl packet - 1; request = Some new }))
  written o r new l s f =
      forwarding.puts reach packet (Some o) (record { ttl = ip_ttl packet; request = Some r }) (Some new) b l
      (viewed_by reach packet (Some o) l ∙ ap (λ (y : Option Request). answer (record { ttl = ip_ttl packet; request = y })) s) f refl lives

  by_decision : (o : ℕ) (r : Request) (d : Decision) → located reach packet ≡ answer (Some o) → request_at (Some o) packet ≡ Some r → FitsWhere (written_by d)
      → passed_on reach (put_request (Some o) (written_by d) packet) ≡ answer (put packet (record { ttl = ip_ttl packet - 1; request = over (written_by d) (Some r) }))
  by_decision o r Decisions.Nothing l s f = untouched (Some o) (Some r) l s
  by_decision o r (Decisions.Approved new) l s f = written o r new l s f
  by_decision o r Decisions.Denied l s f = written o r denial l s f

  by_place : (ceiling fresh : ℕ) (place : Place) (x : Option Request) → located reach packet ≡ answer place → request_at place packet ≡ x
      → passed_on reach (decision_written ceiling fresh (asking_at place x) packet) ≡ answer (put packet (routed_view ceiling fresh (met_view packet (asking_at place x))))
  by_place ceiling fresh None x l s = untouched None None l refl
  by_place ceiling fresh (Some o) None l s = untouched (Some o) None l s
  by_place ceiling fresh (Some o) (Some r) l s =
      let f = subst FitsWhere s (viewing.fits reach packet _ b (viewed_by reach packet (Some o) l)).request_fits in
      by_decision o r (decided ceiling fresh r) l s (decided_fits ceiling fresh r f)

-- what a router does to a packet that it met is its decision put into the view
pub sent : (reach ceiling fresh : ℕ) (packet : List ℕ) (asking : Asking) → Bytes packet → met reach packet ≡ answer asking
    → passed_on reach (decision_written ceiling fresh asking packet) ≡ answer (put packet (routed_view ceiling fresh (met_view packet asking)))
sent reach ceiling fresh packet asking b e =
    let m = met_at reach packet asking e in
    subst (λ (a : Asking). passed_on reach (decision_written ceiling fresh a packet) ≡ answer (put packet (routed_view ceiling fresh (met_view packet a)))) m.asks_for
    (by_place reach packet b m.lives ceiling fresh m.place (request_at m.place packet) m.located_at refl)

pub written_long : (ceiling fresh : ℕ) (asking : Asking) (packet : List ℕ) → length (decision_written ceiling fresh asking packet) ≡ length packet
written_long ceiling fresh None packet = refl
written_long ceiling fresh (Some (place, r)) packet = go (written_by (decided ceiling fresh r))
  where
    go : (x : Option Request) → length (put_request (Some place) x packet) ≡ length packet
    go None = refl
    go (Some new) = length-sets packet place (leaves (option_at place packet) (request_rewritten (option_at place packet) new.rate new.qs_ttl new.nonce))

-- passing on what was written is never refused
pub passes : (ceiling fresh : ℕ) (packet new : List ℕ) (asking : Asking) → Bytes packet → met (length packet) packet ≡ answer asking → new ≡ decision_written ceiling fresh asking packet
    → passed_on (length new) new ≡ answer (put packet (routed_view ceiling fresh (met_view packet asking)))
passes ceiling fresh packet new asking b m e =
    let written = decision_written ceiling fresh asking packet in
    ap (λ (l : List ℕ). passed_on (length l) l) e
    ∙ ap (λ (n : ℕ). passed_on n written) (written_long ceiling fresh asking packet)
    ∙ sent (length packet) ceiling fresh packet asking b m

pub succeeded : {A : Type 0} (r : Result A Refusal) (a : A) → told r ≡ answer a → IsOk r
succeeded (Ok x) a e = refl
succeeded (Err why) a e = absurd (clash (cc))

-- ---- with a ledger

-- the ceiling that was answered is in its range
pub granted_range : (ceiling fresh tick wish code : ℕ) (x : Option Request) (link : Link) → router_in_range ceiling fresh ≡ true → wish ≡ wish_of ceiling x
    → answer code ≡ code_in (ceiling_from ceiling link tick wish) → router_in_range code fresh ≡ true
granted_range ceiling fresh tick wish code x link ok w e =
    let i = in_range_lem ceiling fresh ok in
    let g = through (ceiling_from ceiling link tick wish) (λ granted. answer granted.code) code (sym e) in
    let c : g.0.code ≡ code = same_answer g.2 in
    let low = (from_ledger ceiling tick wish link g.0 (omega (arith, w, wish_low ceiling x)) g.1).0 in
    ranges code fresh (omega (arith, i.ceiling_fits)) i.fresh_fits
