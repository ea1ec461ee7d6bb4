-- Laws of a view that is put: what is viewed then, and that rewriting a request and passing the packet on puts a view. Assumes nothing.
use Prim.Native.Nat.{ℕ, suc, ◌+◌, ◌-◌, ◌/◌, ◌%◌, ◌≤◌, ◌<◌}
use mathlib.Core.Bool.{true}
use mathlib.Core.List.{List}
use mathlib.Core.Logic.{inl}
use Rattle.std.specs.Prelude.{Option, None, Some}
use mathlib.Core.Path.{◌≡◌, refl, sym, ap, ap₂, subst, ◌∙◌}
use native.Mathlib.Omega.{arith}
use borrow.Author.Tests.{le-leb}
use lib.ListN.{length, get_or, set, take, length-set}
use lib.Seq.{get_or-set_same, get_or-set_other, set-get_or, drop-set-lt, sets}
use Rattle.common.proofs.Choice.{clash}
use Rattle.common.specs.Lists.{Bytes}
use Rattle.common.proofs.Lists.{set_own, set-sets, bytes_set, bytes_part}
use Rattle.refusals.specs.Reply.{Reply, answer, refuse, leaves, and_then}
use Rattle.refusals.proofs.ReplyLaws.{same_answer}
use Rattle.wire_rules.specs.declared.Request.{Request}
use Rattle.wire_rules.specs.Options.Wire.{option_length, reserved_in}
use Rattle.wire_rules.specs.Options.Requests.{request_read, request_rewritten}
use Rattle.wire_rules.proofs.Options.WireLaws.{word_small}
use Rattle.wire_rules.proofs.Options.Claims.{request_is}
use Rattle.wire_rules.specs.Walk.Walks.{walk, Place}
use Rattle.wire_rules.specs.Ipv4.Headers.{least_header, options_place, ttl_place, checksum_place, ip_ttl, header_of, options_of}
use Rattle.wire_rules.specs.Ipv4.Checksums.{with_checksum, checksum_of, sealed}
use Rattle.wire_rules.specs.Ipv4.Checks.{well_formed, header_checked}
use Rattle.wire_rules.specs.Ipv4.Packets.{in_packet, located, passed_on}
use Rattle.wire_rules.specs.Ipv4.Views.{View, option_at, as_request, request_at, view, put_request, put}
use Rattle.wire_rules.specs.Ipv4.Claims.{Inside, FitsWhere, Fits, asks, Changed, Viewing, Forwarding}
use Rattle.wire_rules.proofs.Ipv4.ChecksumLaws.{length_sealed}
use Rattle.wire_rules.proofs.Ipv4.HeaderLaws.{form, least, Good, checked_when}
use Rattle.wire_rules.proofs.Ipv4.SealLaws.{same_form, sealed_others, no_checksum, field_own, bytes_sealed, passes, options_set, located_sealed}
use Rattle.wire_rules.proofs.Ipv4.OptionLaws.{found, inside_at, inside_of, viewed_by, view_place, shown, shown_other}
use Rattle.wire_rules.proofs.Ipv4.StoreLaws.{low_apart, own_request, Stored, stored}
use Rattle.wire_rules.proofs.Ipv4.ReadLaws.{passed_of, passed_is, ttl_form}
use Rattle.wire_rules.proofs.Ipv4.SealLaws as seals

-- an option behind byte 20 does not change when the packet is sealed
option_sealed : (place : ℕ) (packet : List ℕ) → least_header ≤ place → option_at place (sealed packet) ≡ option_at place packet
unfolding sealed with_checksum
option_sealed place packet h =
    let c = checksum_of (header_of packet) in
    ap (take option_length)
    (drop-set-lt place (set packet checksum_place (c / 256)) (suc checksum_place) (c % 256) (omega arith) ∙ drop-set-lt place packet checksum_place (c / 256) (omega arith))

pub request_sealed : (inner : Place) (packet : List ℕ) → request_at (in_packet inner) (sealed packet) ≡ request_at (in_packet inner) packet
request_sealed None packet = refl
request_sealed (Some o) packet = ap (λ (l : List ℕ). as_request (request_read l)) (option_sealed (options_place + o) packet (omega arith))

place_low : (inner : Place) (o : ℕ) → in_packet inner ≡ Some o → least_header ≤ o
place_low None o e = absurd (clash (cc))
place_low (Some i) o e = let s : options_place + i ≡ o = cc in omega arith

-- put writes at the place that the walk finds
pub put_at : (packet : List ℕ) (inner : Place) (v : View) → walk (options_of packet) ≡ answer inner
    → put packet v ≡ sealed (put_request (in_packet inner) v.request (set packet ttl_place v.ttl))
put_at packet inner v e =
    ap (λ (w : Reply Place). sealed (put_request (leaves None (and_then w (λ place. answer (in_packet place)))) v.request (set packet ttl_place v.ttl))) e

module _ (reach : ℕ) (packet : List ℕ) (new : View) (b : Bytes packet) (fits : Fits new) (inner : Place) (g : Good reach packet) (w : walk (options_of packet) ≡ answer inner)
    (alike : asks (request_at (in_packet inner) packet) ≡ asks new.request) where
  abbrev after : List ℕ
  after = put_request (in_packet inner) new.request (set packet ttl_place new.ttl)

  is_stored : Stored (in_packet inner) packet new.ttl new.request after
  is_stored = stored reach packet b g new.ttl fits.ttl_small inner new.request w fits.request_fits alike

  after_form : well_formed reach after ≡ true
  after_form =
      let s = is_stored in
      let low : (i : ℕ) → i < 8 → get_or after i 0 ≡ get_or packet i 0 = λ i h. s.others i (λ e. absurd (omega arith)) (low_apart inner new.request i (omega arith)) in
      (same_form reach packet after s.long (low 0 (omega arith)) (low 2 (omega arith)) (low 3 (omega arith))).0 ∙ g.well

  located_after : located reach (sealed after) ≡ answer (in_packet inner)
  located_after =
      located_sealed reach after is_stored.bytes after_form
      ∙ ap (λ (r : Reply Place). and_then r (λ place. answer (in_packet place))) (is_stored.options ∙ w)

  changed_after : Changed reach packet (in_packet inner) new
  changed_after =
      let s = is_stored in
      let e = put_at packet inner new w in
      let still = ap (located reach) e ∙ located_after in
      let ttl_read = ap (λ (l : List ℕ). ip_ttl l) e ∙ sealed_others after ttl_place (no_checksum ttl_place (inl (omega arith))) ∙ s.ttl_is in
      let request_read_lem = ap (request_at (in_packet inner)) e ∙ request_sealed inner after ∙ s.request_is in
      record {
        viewed = viewed_by reach (put packet new) (in_packet inner) still ∙ ap₂ (λ (t : ℕ) (r : Option Request). answer (record { ttl = t; request = r })) ttl_read request_read_lem;
        located_still = still;
        others = λ i n c a. ap (λ (l : List ℕ). get_or l i 0) e ∙ sealed_others after i c ∙ s.others i n a;
        long = ap length e ∙ length_sealed after ∙ s.long;
        bytes = subst Bytes (sym e) (bytes_sealed after s.bytes);
        sealed_still = ap sealed e ∙ seals.again reach after (form reach after after_form) ∙ sym e;
        reserved = λ o p. ap (λ (l : List ℕ). reserved_in (option_at o l)) e ∙ ap reserved_in (option_sealed o after (place_low inner o p)) ∙ s.reserved o p;
      }

-- the request that is there, put there again, changes nothing
own_at : (reach : ℕ) (packet after : List ℕ) (inner : Place) (request : Option Request) → Good reach packet → walk (options_of packet) ≡ answer inner
    → Bytes after → length after ≡ length packet → request_at (in_packet inner) after ≡ request → put_request (in_packet inner) request after ≡ after
own_at reach packet after None request g w b l e = refl
own_at reach packet after (Some o) request g w b l e =
    let i = inside_at reach packet o g w in
    own_request (options_place + o) after request b (rw l (omega (arith, i.room, i.header))) e

put_own : (reach : ℕ) (packet : List ℕ) (v : View) → Bytes packet → view reach packet ≡ answer v → put packet v ≡ sealed packet
put_own reach packet v b e =
    let p = view_place reach packet v e in
    let f = found reach packet p.0 p.1 in
    let place = f.inner in
    let request : request_at (in_packet place) packet ≡ v.request = ap (λ (q : Place). request_at q packet) (sym f.moved) ∙ sym (ap (λ (x : View). x.request) p.2) in
    put_at packet place v f.by_walk
    ∙ ap (λ (l : List ℕ). sealed (put_request (in_packet place) v.request l)) (set_own packet ttl_place v.ttl (sym (ap (λ (x : View). x.ttl) p.2)))
    ∙ ap sealed (own_at reach packet packet place v.request f.is_good f.by_walk b refl request)

request_in_lem : (option : List ℕ) → Bytes option → (reply : Reply Request) → request_read option ≡ reply → FitsWhere (as_request reply)
request_in_lem option b (refuse n) e = tt
request_in_lem option b (answer r) e =
    let word = word_small option b in
    let f = (request_is option r e).fields in
    record {
      rate_fits = rw (ap (λ (x : Request). x.rate) f) (omega arith);
      ttl_fits = rw (ap (λ (x : Request). x.qs_ttl) f) (b 3);
      nonce_fits = rw (ap (λ (x : Request). x.nonce) f) (omega arith);
    }

request_fits : (place : Place) (packet : List ℕ) → Bytes packet → FitsWhere (request_at place packet)
request_fits None packet b = tt
request_fits (Some o) packet b = request_in_lem (option_at o packet) (bytes_part option_length o packet b) (request_read (option_at o packet)) refl

view_fits : (reach : ℕ) (packet : List ℕ) (v : View) → Bytes packet → view reach packet ≡ answer v → Fits v
view_fits reach packet v b e =
    let p = view_place reach packet v e in
    subst Fits (sym p.2) (record { ttl_small = b ttl_place; request_fits = request_fits p.0 packet b })

pub at_place : (reach place : ℕ) (packet : List ℕ) → located reach packet ≡ answer (Some place) → Inside place packet
at_place reach place packet e = let f = found reach packet (Some place) e in inside_of reach packet place f.inner f.is_good f.by_walk f.moved

pub viewing : Viewing
unfolding sealed
viewing = record {
  shows = λ reach place packet e z.
      viewed_by reach packet (Some place) e ∙ ap (λ (r : Option Request). answer (record { ttl = ip_ttl packet; request = r })) (shown place packet (at_place reach place packet e) z);
  shows_other = λ reach place packet e z.
      viewed_by reach packet (Some place) e ∙ ap (λ (r : Option Request). answer (record { ttl = ip_ttl packet; request = r })) (shown_other place packet (at_place reach place packet e) z);
  shows_none = λ reach packet e. viewed_by reach packet None e;
  refused = λ reach n packet e. ap (λ (r : Reply Place). and_then r (λ place. answer (record { ttl = ip_ttl packet; request = request_at place packet }))) e;
  fits = view_fits;
  changes = λ reach packet place old new b l e fits alike.
      let f = found reach packet place l in
      let seen : old ≡ record { ttl = ip_ttl packet; request = request_at place packet } = same_answer (sym e ∙ viewed_by reach packet place l) in
      let request : old.request ≡ request_at (in_packet f.inner) packet = ap (λ (v : View). v.request) seen ∙ ap (λ (p : Place). request_at p packet) f.moved in
      subst (λ (p : Place). Changed reach packet p new) (sym f.moved)
      (changed_after reach packet new b fits f.inner f.is_good f.by_walk (ap asks (sym request) ∙ alike));
  same = λ reach packet v b e c. put_own reach packet v b e ∙ ap (λ (k : ℕ). with_checksum k packet) (sym c) ∙ field_own packet b;
  otherwise = put_own;
}

-- ---- forwarding

-- a request put before the IP TTL is stored, or after
put_commutes : (inner : Place) (request : Option Request) (packet : List ℕ) (ttl : ℕ)
    → set (put_request (in_packet inner) request packet) ttl_place ttl ≡ put_request (in_packet inner) request (set packet ttl_place ttl)
put_commutes None request packet ttl = refl
put_commutes (Some o) None packet ttl = refl
put_commutes (Some o) (Some r) packet ttl =
    let place = options_place + o in
    let option : option_at place (set packet ttl_place ttl) ≡ option_at place packet = ap (take option_length) (drop-set-lt place packet ttl_place ttl (omega arith)) in
    let new = leaves (option_at place packet) (request_rewritten (option_at place packet) r.rate r.qs_ttl r.nonce) in
    set-sets packet ttl_place ttl place new (omega arith)
    ∙ ap (λ (l : List ℕ). sets (set packet ttl_place ttl) place (leaves l (request_rewritten l r.rate r.qs_ttl r.nonce))) (sym option)

aged_bytes : (packet : List ℕ) → Bytes packet → Bytes (set packet ttl_place (ip_ttl packet - 1))
aged_bytes packet b = bytes_set packet ttl_place (ip_ttl packet - 1) (omega (arith, b ttl_place)) b

puts : (reach : ℕ) (packet : List ℕ) (place : Place) (v : View) (request : Option Request) → Bytes packet
    → located reach packet ≡ answer place → view reach packet ≡ answer v → FitsWhere request → asks v.request ≡ asks request → 1 < v.ttl
    → passed_on reach (put_request place request packet) ≡ answer (put packet (record { ttl = v.ttl - 1; request = request }))
puts reach packet place v request b l e fits alike h =
    let f = found reach packet place l in
    let g = f.is_good in
    let seen : v ≡ record { ttl = ip_ttl packet; request = request_at place packet } = same_answer (sym e ∙ viewed_by reach packet place l) in
    let t : v.ttl ≡ ip_ttl packet = ap (λ (x : View). x.ttl) seen in
    let asked : asks (request_at (in_packet f.inner) packet) ≡ asks request = ap (λ (p : Place). asks (request_at p packet)) (sym f.moved) ∙ ap (λ (x : View). asks x.request) (sym seen) ∙ alike in
    let after = put_request (in_packet f.inner) request packet in
    let own : set packet ttl_place (ip_ttl packet) ≡ packet = set-get_or packet ttl_place 0 in
    let as_view : View = record { ttl = ip_ttl packet; request = request } in
    let ok : Fits as_view = record { ttl_small = b ttl_place; request_fits = fits } in
    let well : well_formed reach after ≡ true =
    ap (λ (l : List ℕ). well_formed reach (put_request (in_packet f.inner) request l)) (sym own) ∙ after_form reach packet as_view b ok f.inner g f.by_walk asked in
    let ttl : ip_ttl after ≡ ip_ttl packet =
    ap (λ (l : List ℕ). ip_ttl (put_request (in_packet f.inner) request l)) (sym own) ∙ (is_stored reach packet as_view b ok f.inner g f.by_walk asked).ttl_is in
    ap (λ (p : Place). passed_on reach (put_request p request packet)) f.moved
    ∙ passed_of reach after well (rw ttl (omega arith))
    ∙ ap (λ (k : ℕ). answer (sealed (set after ttl_place (k - 1)))) (ttl ∙ sym t)
    ∙ ap (λ (l : List ℕ). answer (sealed l)) (put_commutes f.inner request packet (v.ttl - 1))
    ∙ ap answer (sym (put_at packet f.inner (record { ttl = v.ttl - 1; request = request }) f.by_walk))

pub forwarding : Forwarding
forwarding = record {
  puts = puts;
  puts_back = λ reach packet v b e h.
      let p = view_place reach packet v e in
      let f = found reach packet p.0 p.1 in
      let g = f.is_good in
      let request : request_at (in_packet f.inner) packet ≡ v.request = ap (λ (q : Place). request_at q packet) (sym f.moved) ∙ sym (ap (λ (x : View). x.request) p.2) in
      let own : packet ≡ put_request p.0 v.request packet =
      sym (own_at reach packet packet f.inner v.request g f.by_walk b refl request) ∙ ap (λ (q : Place). put_request q v.request packet) (sym f.moved) in
      ap (λ (r : Reply ℕ). and_then r (λ header. passed_on reach packet)) (checked_when reach packet g.well g.sum)
      ∙ ap (passed_on reach) own
      ∙ puts reach packet p.0 v v.request b p.1 e (view_fits reach packet v b e).request_fits refl h;
  malformed = λ reach packet w. simp w;
  accepted = λ reach packet w h. (sealed (set packet ttl_place (ip_ttl packet - 1)), passed_of reach packet w h);
  expired = λ reach packet w h. simp (w, le-leb (ip_ttl packet) 1 h);
  not_forwarded = λ reach n packet e. ap (λ (r : Reply ℕ). and_then r (λ header. passed_on reach packet)) e;
  forwarded_by = λ reach h packet e. ap (λ (r : Reply ℕ). and_then r (λ header. passed_on reach packet)) e;
  lowered = λ reach packet new e.
      let p = passed_is reach packet new e in
      let ttl = ip_ttl packet - 1 in
      let read : get_or new ttl_place 0 ≡ ttl =
      ap (λ (l : List ℕ). ip_ttl l) p.2 ∙ sealed_others (set packet ttl_place ttl) ttl_place (no_checksum ttl_place (inl (omega arith)))
      ∙ get_or-set_same packet ttl_place ttl 0 (omega (arith, (form reach packet p.0).long)) in
      omega (arith, p.1);
  others = λ reach packet new e i n c.
      let aged = set packet ttl_place (ip_ttl packet - 1) in
      ap (λ (l : List ℕ). get_or l i 0) (passed_is reach packet new e).2 ∙ sealed_others aged i c ∙ get_or-set_other packet ttl_place i (ip_ttl packet - 1) 0 n;
  long = λ reach packet new e.
      ap length (passed_is reach packet new e).2 ∙ length_sealed (set packet ttl_place (ip_ttl packet - 1)) ∙ length-set packet ttl_place (ip_ttl packet - 1);
  bytes = λ reach packet new b e. subst Bytes (sym (passed_is reach packet new e).2) (bytes_sealed (set packet ttl_place (ip_ttl packet - 1)) (aged_bytes packet b));
  written = λ reach packet new e.
      let p = passed_is reach packet new e in
      let aged = set packet ttl_place (ip_ttl packet - 1) in
      ap sealed p.2 ∙ seals.again reach aged (form reach aged ((ttl_form reach packet (ip_ttl packet - 1)).0 ∙ p.0)) ∙ sym p.2;
  passes = λ reach packet new b e.
      let p = passed_is reach packet new e in
      let s = ttl_form reach packet (ip_ttl packet - 1) in
      ap (header_checked reach) p.2 ∙ passes reach (set packet ttl_place (ip_ttl packet - 1)) (aged_bytes packet b) (s.0 ∙ p.0) ∙ ap answer s.1;
  options_still = λ reach packet new b e.
      let p = passed_is reach packet new e in
      let ttl = ip_ttl packet - 1 in
      ap (located reach) p.2
      ∙ located_sealed reach (set packet ttl_place ttl) (aged_bytes packet b) ((ttl_form reach packet ttl).0 ∙ p.0)
      ∙ ap (λ (area : List ℕ). and_then (walk area) (λ place. answer (in_packet place)))
      (options_set packet ttl_place ttl (omega arith) (omega arith) (least reach packet (form reach packet p.0)));
}
