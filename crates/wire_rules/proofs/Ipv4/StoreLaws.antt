-- Laws of what is stored for a view: the packet with another IP TTL and another request. Assumes nothing.
use Prim.Native.Nat.{ℕ, suc, ◌+◌, ◌≤◌, ◌<◌}
use mathlib.Core.Bool.{true, false}
use mathlib.Core.List.{List}
use mathlib.Core.Logic.{◌⊎◌, inl, inr}
use Rattle.std.specs.Prelude.{Option, None, Some}
use mathlib.Core.Path.{◌≡◌, refl, sym, ap, ap₂, subst, ◌∙◌}
use native.Mathlib.Omega.{arith}
use lib.Dec.{lit<}
use lib.ListN.{length, get_or, set, take, drop, length-set}
use lib.Seq.{get_or-set_same, get_or-set_other, drop-set-lt, sets, length-sets}
use Rattle.common.proofs.Choice.{clash}
use Rattle.common.specs.Lists.{Bytes}
use Rattle.common.proofs.Lists.{set_own, sets_own, part_stored, get_or-sets_other, take-sets, drop-sets, bytes_set, bytes_sets, bytes_part}
use Rattle.refusals.specs.Reply.{Reply, answer, refuse, leaves}
use Rattle.wire_rules.specs.declared.Request.{Request}
use Rattle.wire_rules.specs.Options.Wire.{option_length, option_bytes, reserved_in}
use Rattle.wire_rules.specs.Options.Requests.{request_kind, request_read, request_rewritten}
use Rattle.wire_rules.proofs.Options.Claims.{request_round_trip, changed_option}
use Rattle.wire_rules.proofs.Options.WireLaws.{bytes_of}
use Rattle.wire_rules.specs.Walk.Walks.{walk, Place}
use Rattle.wire_rules.proofs.Walk.Claims.{walking_theorem}
use Rattle.wire_rules.specs.Ipv4.Headers.{least_header, options_place, ttl_place, ip_ttl, header_length, options_of}
use Rattle.wire_rules.specs.Ipv4.Packets.{in_packet}
use Rattle.wire_rules.specs.Ipv4.Views.{option_at, as_request, request_at, put_request}
use Rattle.wire_rules.specs.Ipv4.Claims.{Inside, RequestFits, FitsWhere, asks, OutsideRequest}
use Rattle.wire_rules.proofs.Ipv4.HeaderLaws.{length_kept, Good}
use Rattle.wire_rules.proofs.Ipv4.OptionLaws.{inside_at}
use Rattle.wire_rules.proofs.Ipv4.SealLaws.{same_form, options_set}

-- bytes below 20 are no option's
pub low_apart : (inner : Place) (request : Option Request) (i : ℕ) → i < least_header → OutsideRequest (in_packet inner) request i
low_apart None request i h = tt
low_apart (Some o) None i h = tt
low_apart (Some o) (Some r) i h = inl (omega arith)

-- ---- a request that is there

asks_none : (x : Option Request) → asks x ≡ false → x ≡ None
asks_none None a = refl
asks_none (Some r) a = absurd (clash (cc))

asks_some : (x : Option Request) → asks x ≡ true → (old : Request) × (x ≡ Some old)
asks_some None a = absurd (clash (cc))
asks_some (Some old) a = (old, refl)

pub is_read : (reply : Reply Request) (r : Request) → as_request reply ≡ Some r → reply ≡ answer r
is_read (answer a) r e = ap (λ (q : Request). answer q) (cc)
is_read (refuse n) r e = absurd (clash (cc))

-- the request that stands at a place, put there again, changes nothing
pub own_request : (place : ℕ) (packet : List ℕ) (request : Option Request) → Bytes packet → place + option_length ≤ length packet
    → request_at (Some place) packet ≡ request → put_request (Some place) request packet ≡ packet
own_request place packet None b h e = refl
own_request place packet (Some r) b h e =
    let option = option_at place packet in
    let kept = request_round_trip.kept option r (bytes_part option_length place packet b) (is_read (request_read option) r e) in
    ap (λ (new : Reply (List ℕ)). sets packet place (leaves option new)) kept ∙ sets_own packet place option_length h

-- ---- what is stored

-- a request's eight bytes behind its type and its length
abbrev six_of : Request → ℕ → List ℕ
unfolding option_bytes
six_of r reserved = drop 2 (option_bytes request_kind r.rate r.qs_ttl r.nonce reserved)

six_bytes : (r : Request) (reserved : ℕ) → RequestFits r → reserved < 4 → Bytes (option_bytes request_kind r.rate r.qs_ttl r.nonce reserved)
six_bytes r reserved f h =
    let rate = f.rate_fits in
    bytes_of request_kind r.rate r.qs_ttl r.nonce reserved (lit< tt) (omega arith) f.ttl_fits f.nonce_fits h

pub record Stored (place : Place) (packet : List ℕ) (ttl : ℕ) (request : Option Request) (after : List ℕ) : Type 0 where
  pub long : length after ≡ length packet
  pub bytes : Bytes after
  pub ttl_is : ip_ttl after ≡ ttl
  pub request_is : request_at place after ≡ request
  pub others : (i : ℕ) → (i ≡ ttl_place → ⊥) → OutsideRequest place request i → get_or after i 0 ≡ get_or packet i 0
  pub options : walk (options_of after) ≡ walk (options_of packet)
  pub reserved : (o : ℕ) → place ≡ Some o → reserved_in (option_at o after) ≡ reserved_in (option_at o packet)

module _ (reach : ℕ) (packet : List ℕ) (b : Bytes packet) (g : Good reach packet) (ttl : ℕ) (small : ttl < 256) where
  abbrev aged : List ℕ
  aged = set packet ttl_place ttl

  option_aged : (place : ℕ) → least_header ≤ place → option_at place aged ≡ option_at place packet
  option_aged place h = ap (take option_length) (drop-set-lt place packet ttl_place ttl (omega arith))

  pub request_aged : (inner : Place) → request_at (in_packet inner) aged ≡ request_at (in_packet inner) packet
  request_aged None = refl
  request_aged (Some o) = ap (λ (l : List ℕ). as_request (request_read l)) (option_aged (options_place + o) (omega arith))

  reserved_aged : (inner : Place) (o : ℕ) → in_packet inner ≡ Some o → reserved_in (option_at o aged) ≡ reserved_in (option_at o packet)
  reserved_aged None o e = absurd (clash (cc))
  reserved_aged (Some i) o e =
      let l : options_place + i ≡ o = cc in
      ap reserved_in (option_aged o (omega arith))

  -- the TTL alone
  aged_stored : (inner : Place) (request : Option Request) → request_at (in_packet inner) packet ≡ request → Stored (in_packet inner) packet ttl request aged
  aged_stored inner request e = record {
    long = length-set packet ttl_place ttl;
    bytes = bytes_set packet ttl_place ttl small b;
    ttl_is = get_or-set_same packet ttl_place ttl 0 (omega (arith, g.form_is.long));
    request_is = request_aged inner ∙ e;
    others = λ i n a. get_or-set_other packet ttl_place i ttl 0 n;
    options = ap walk (options_set packet ttl_place ttl (omega arith) (omega arith) g.header);
    reserved = reserved_aged inner;
  }

  -- and a request over the one that is there
  module _ (o : ℕ) (by_walk : walk (options_of packet) ≡ answer (Some o)) (r : Request) (fits : RequestFits r)
      (there : (old : Request) × (request_at (Some (options_place + o)) packet ≡ Some old)) where
    abbrev place : ℕ
    place = options_place + o

    abbrev option : List ℕ
    option = option_at place packet

    abbrev reserved_bits : ℕ
    reserved_bits = reserved_in option

    abbrev eight : List ℕ
    eight = option_bytes request_kind r.rate r.qs_ttl r.nonce reserved_bits

    at : Inside place packet
    at = inside_at reach packet o g by_walk

    -- the eight bytes are a request's, and read back
    rewriting : request_rewritten option r.rate r.qs_ttl r.nonce ≡ answer eight
    rewriting =
        let e = is_read (request_read option) there.0 there.1 in
        let a = request_round_trip.rewriting_accepted option there.0 r.rate r.qs_ttl r.nonce e fits.rate_fits fits.nonce_fits in
        a.1 ∙ ap (λ (l : List ℕ). answer l) (changed_option option a.0 r.rate r.qs_ttl r.nonce a.1).1

    after_put : put_request (Some place) (Some r) aged ≡ sets aged place eight
    after_put =
        ap (λ (l : List ℕ). sets aged place (leaves l (request_rewritten l r.rate r.qs_ttl r.nonce))) (option_aged place at.behind)
        ∙ ap (λ (new : Reply (List ℕ)). sets aged place (leaves option new)) rewriting

    -- the first two of them stand there already, so six are stored
    six_stored : sets aged place eight ≡ sets aged (suc (suc place)) (six_of r reserved_bits)
    unfolding option_bytes
    six_stored =
        let kind : get_or aged place 0 ≡ request_kind = get_or-set_other packet ttl_place place ttl 0 (λ e. absurd (omega (arith, at.behind))) ∙ at.kind in
        let len : get_or aged (suc place) 0 ≡ option_length = get_or-set_other packet ttl_place (suc place) ttl 0 (λ e. absurd (omega (arith, at.behind))) ∙ at.len in
        ap (λ (l : List ℕ). sets (set l (suc place) option_length) (suc (suc place)) (six_of r reserved_bits)) (set_own aged place request_kind kind)
        ∙ ap (λ (l : List ℕ). sets l (suc (suc place)) (six_of r reserved_bits)) (set_own aged (suc place) option_length len)

    abbrev rewritten : List ℕ
    rewritten = sets aged place eight

    room : place + option_length ≤ length aged
    room = rw (length-set packet ttl_place ttl) (omega (arith, at.room, at.header))

    eight_read : option_at place rewritten ≡ eight
    unfolding option_bytes
    eight_read = part_stored aged place eight room

    others_kept : (i : ℕ) → (i ≡ ttl_place → ⊥) → (i < place + 2) ⊎ (place + option_length ≤ i) → get_or rewritten i 0 ≡ get_or packet i 0
    unfolding option_bytes
    others_kept i n a =
        ap (λ (l : List ℕ). get_or l i 0) six_stored
        ∙ get_or-sets_other aged (suc (suc place)) (six_of r reserved_bits) i (apart a)
        ∙ get_or-set_other packet ttl_place i ttl 0 n
      where
        apart : (i < place + 2) ⊎ (place + option_length ≤ i) → (i < suc (suc place)) ⊎ (suc (suc place) + 6 ≤ i)
        apart (inl h) = inl (omega arith)
        apart (inr h) = inr (omega arith)

    header_kept : header_length rewritten ≡ header_length packet
    header_kept = (same_form 0 packet rewritten (length-sets aged place eight ∙ length-set packet ttl_place ttl) (low 0 (omega arith)) (low 2 (omega arith)) (low 3 (omega arith))).1
      where
        low : (i : ℕ) → i < 8 → get_or rewritten i 0 ≡ get_or packet i 0
        low i h = others_kept i (λ e. absurd (omega arith)) (inl (omega (arith, at.behind)))

    options_kept : walk (options_of rewritten) ≡ walk (options_of packet)
    unfolding option_bytes
    options_kept =
        let six = six_of r reserved_bits in
        let area : options_of rewritten ≡ sets (options_of packet) (o + 2) six =
        ap₂ (λ (h : ℕ) (l : List ℕ). drop options_place (take h l)) header_kept six_stored
        ∙ ap (drop options_place) (take-sets (header_length packet) aged (suc (suc place)) six (omega (arith, at.room)))
        ∙ ap (λ (k : ℕ). drop options_place (sets (take (header_length packet) aged) k six)) {x = suc (suc place)} {y = options_place + (o + 2)} (omega arith)
        ∙ drop-sets options_place (take (header_length packet) aged) (o + 2) six
        ∙ ap (λ (l : List ℕ). sets l (o + 2) six)
        (ap (λ (h : ℕ). drop options_place (take h aged)) (sym (length_kept packet ttl_place ttl (omega arith)))
        ∙ options_set packet ttl_place ttl (omega arith) (omega arith) g.header) in
        ap walk area ∙ walking_theorem.steady (options_of packet) six o refl by_walk ∙ sym by_walk

    request_stored : Stored (Some place) packet ttl (Some r) rewritten
    request_stored = record {
      long = length-sets aged place eight ∙ length-set packet ttl_place ttl;
      bytes = bytes_sets aged place eight (six_bytes r reserved_bits fits (omega arith)) (bytes_set packet ttl_place ttl small b);
      ttl_is = get_or-sets_other aged place eight ttl_place (inl (omega (arith, at.behind))) ∙ get_or-set_same packet ttl_place ttl 0 (omega (arith, g.form_is.long));
      request_is = ap (λ (l : List ℕ). as_request (request_read l)) eight_read ∙ ap as_request (request_round_trip.rewritten option eight r.rate r.qs_ttl r.nonce rewriting);
      others = others_kept;
      options = options_kept;
      reserved = λ i e.
          let same : place ≡ i = cc in
          subst (λ (k : ℕ). reserved_in (option_at k rewritten) ≡ reserved_in (option_at k packet)) same
          (ap reserved_in eight_read ∙ request_round_trip.rewritten_reserved option eight r.rate r.qs_ttl r.nonce rewriting);
    }

  pub stored : (inner : Place) (request : Option Request) → walk (options_of packet) ≡ answer inner → FitsWhere request → asks (request_at (in_packet inner) packet) ≡ asks request
      → Stored (in_packet inner) packet ttl request (put_request (in_packet inner) request aged)
  stored None None e f a = aged_stored None None refl
  stored None (Some r) e f a = absurd (clash (cc))
  stored (Some o) None e f a = aged_stored (Some o) None (asks_none (request_at (Some (options_place + o)) packet) a)
  stored (Some o) (Some r) e f a =
      let there = asks_some (request_at (Some (options_place + o)) packet) a in
      subst (λ (l : List ℕ). Stored (Some (options_place + o)) packet ttl (Some r) l) (sym (after_put o e r f there)) (request_stored o e r f there)
