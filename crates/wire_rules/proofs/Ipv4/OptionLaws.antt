-- Laws of a located option: where it lies, what its bytes read as, and what a view shows of it. Assumes nothing.
use Prim.Native.Nat.{ℕ, suc, ◌+◌, ◌-◌, ◌*◌, ◌/◌, ◌%◌, ◌<◌}
use mathlib.Core.List.{List}
use mathlib.Core.Logic.{◌⊎◌, inl, inr}
use Rattle.std.specs.Prelude.{None, Some}
use mathlib.Core.Path.{◌≡◌, refl, sym, ap, ap₂, subst, ◌∙◌}
use native.Mathlib.Nat.{add-zero}
use native.Mathlib.Omega.{arith}
use borrow.Author.Tests.{eq-eqb, ne_eqb}
use lib.ListN.{length, get_or, drop, length-drop}
use lib.Seq.{get_or-take, get_or-drop, length-take-le}
use Rattle.common.proofs.Choice.{clash}
use Rattle.refusals.specs.Reply.{Reply, answer, refuse, and_then}
use Rattle.refusals.proofs.ReplyLaws.{same_answer, through, refused_by}
use Rattle.wire_rules.specs.Options.Wire.{option_length, kind_in, length_in, high_half, word_of, rate_in, ttl_in, nonce_in}
use Rattle.wire_rules.specs.Options.Requests.{request_kind, is_request, request_read}
use Rattle.wire_rules.specs.Walk.Walks.{walk, Place}
use Rattle.wire_rules.specs.Walk.Claims.{Holds, Clear, Faulty}
use Rattle.wire_rules.proofs.Walk.Claims.{walking_theorem}
use Rattle.wire_rules.specs.Ipv4.Headers.{options_place, word_at, ip_ttl, header_length, header_of, options_of}
use Rattle.wire_rules.specs.Ipv4.Checks.{header_checked}
use Rattle.wire_rules.specs.Ipv4.Packets.{in_packet, walked, located}
use Rattle.wire_rules.specs.Ipv4.Views.{View, option_at, as_request, request_at, view}
use Rattle.wire_rules.specs.Ipv4.Claims.{Inside, nonce_at}
use Rattle.wire_rules.proofs.Ipv4.HeaderLaws.{Good, good}

-- ---- a located option

pub record Found (reach : ℕ) (packet : List ℕ) (place : Place) : Type 0 where
  pub is_good : Good reach packet
  pub inner : Place
  pub by_walk : walk (options_of packet) ≡ answer inner
  pub moved : place ≡ in_packet inner

pub found : (reach : ℕ) (packet : List ℕ) (place : Place) → located reach packet ≡ answer place → Found reach packet place
found reach packet place e =
    let outer = through (header_checked reach packet) (λ header. walked packet) place e in
    let inside = through (walk (options_of packet)) (λ (p : Place). answer (in_packet p)) place outer.2 in
    record { is_good = (good reach outer.0 packet (sym outer.1)).0; inner = inside.0; by_walk = inside.1; moved = same_answer (sym inside.2) }

-- the offset in the area, as a place in the packet
pub inside_at : (reach : ℕ) (packet : List ℕ) (o : ℕ) → Good reach packet → walk (options_of packet) ≡ answer (Some o) → Inside (options_place + o) packet
inside_at reach packet o g e =
    let h = header_length packet in
    let f = g.form_is in
    let r = walking_theorem.room (options_of packet) o e in
    let long : length (options_of packet) ≡ h - options_place = length-drop options_place (header_of packet) ∙ ap (λ (n : ℕ). n - options_place) (length-take-le h packet f.inside) in
    let read : (i : ℕ) → options_place + i < h → get_or (options_of packet) i 0 ≡ get_or packet (options_place + i) 0 =
    λ i l. get_or-drop options_place (header_of packet) i 0 ∙ get_or-take h packet (options_place + i) 0 l in
    record {
      behind = omega arith;
      room = omega (arith, r.0, g.header);
      header = f.inside;
      kind = sym (read o (omega (arith, r.0, g.header))) ∙ r.1;
      len = ap (λ (k : ℕ). get_or packet k 0) {x = suc (options_place + o)} {y = options_place + suc o} (omega arith) ∙ sym (read (suc o) (omega (arith, r.0, g.header))) ∙ r.2;
    }

pub inside_of : (reach : ℕ) (packet : List ℕ) (place : ℕ) (inner : Place) → Good reach packet → walk (options_of packet) ≡ answer inner → Some place ≡ in_packet inner → Inside place packet
inside_of reach packet place None g w e = absurd (clash (cc))
inside_of reach packet place (Some o) g w e = let s : options_place + o ≡ place = cc in subst (λ (k : ℕ). Inside k packet) s (inside_at reach packet o g w)

-- a packet whose header passed its check is located by its walk
pub located_of : (reach h : ℕ) (packet : List ℕ) (inner : Place) → header_checked reach packet ≡ answer h → walk (options_of packet) ≡ answer inner → located reach packet ≡ answer (in_packet inner)
located_of reach h packet inner e w =
    ap (λ (r : Reply ℕ). and_then r (λ header. walked packet)) e ∙ ap (λ (r : Reply Place). and_then r (λ place. answer (in_packet place))) w

pub located_fault : (reach h n : ℕ) (packet : List ℕ) → header_checked reach packet ≡ answer h → walk (options_of packet) ≡ refuse n → located reach packet ≡ refuse n
located_fault reach h n packet e w =
    ap (λ (r : Reply ℕ). and_then r (λ header. walked packet)) e ∙ ap (λ (r : Reply Place). and_then r (λ place. answer (in_packet place))) w

-- what the area is made of, where an option was located, and where none was
pub made_of : (packet : List ℕ) (place : ℕ) (inner : Place) → walk (options_of packet) ≡ answer inner → Some place ≡ in_packet inner
    → (offset : ℕ) × (place ≡ options_place + offset) × Holds offset (options_of packet)
made_of packet place None w e = absurd (clash (cc))
made_of packet place (Some o) w e = (o, (cc), walking_theorem.sound (options_of packet) o w)

pub made_clear : (packet : List ℕ) (inner : Place) → walk (options_of packet) ≡ answer inner → None ≡ in_packet inner → Clear (options_of packet)
made_clear packet None w e = walking_theorem.none_sound (options_of packet) w
made_clear packet (Some o) w e = absurd (clash (cc))

-- and what is wrong where the packet was refused: its header, or its area
pub made_faulty : (reach n : ℕ) (packet : List ℕ) → located reach packet ≡ refuse n → (header_checked reach packet ≡ refuse n) ⊎ Faulty n (options_of packet)
made_faulty reach n packet e = by_check (refused_by (header_checked reach packet) (λ header. walked packet) n e)
  where
    by_walk : (walk (options_of packet) ≡ refuse n) ⊎ ((a : Place) × (walk (options_of packet) ≡ answer a) × (answer (in_packet a) ≡ refuse n)) → Faulty n (options_of packet)
    by_walk (inl w) = walking_theorem.fault_sound (options_of packet) n w
    by_walk (inr (a, w, x)) = absurd (clash (cc))

    by_check : (header_checked reach packet ≡ refuse n) ⊎ ((h : ℕ) × (header_checked reach packet ≡ answer h) × (walked packet ≡ refuse n))
        → (header_checked reach packet ≡ refuse n) ⊎ Faulty n (options_of packet)
    by_check (inl c) = inl c
    by_check (inr (h, c, w)) = inr (by_walk (refused_by (walk (options_of packet)) (λ (p : Place). answer (in_packet p)) n w))

-- ---- the view of a packet

-- what is viewed of a packet that was located
pub viewed_by : (reach : ℕ) (packet : List ℕ) (place : Place) → located reach packet ≡ answer place
    → view reach packet ≡ answer (record { ttl = ip_ttl packet; request = request_at place packet })
viewed_by reach packet place e = ap (λ (r : Reply Place). and_then r (λ place. answer (record { ttl = ip_ttl packet; request = request_at place packet }))) e

pub view_place : (reach : ℕ) (packet : List ℕ) (v : View) → view reach packet ≡ answer v
    → (place : Place) × (located reach packet ≡ answer place) × (v ≡ record { ttl = ip_ttl packet; request = request_at place packet })
view_place reach packet v e =
    let t = through (located reach packet) (λ place. answer (record { ttl = ip_ttl packet; request = request_at place packet })) v e in
    (t.0, t.1, same_answer (sym t.2))

-- ---- what the bytes of a located option read as

module _ (place : ℕ) (packet : List ℕ) (at : Inside place packet) where
  abbrev option : List ℕ
  option = option_at place packet

  option_long : length option ≡ option_length
  option_long = length-take-le option_length (drop place packet) (rw (length-drop place packet) (omega (arith, at.room, at.header)))

  byte_of : (k i : ℕ) → k < option_length → place + k ≡ i → get_or option k 0 ≡ get_or packet i 0
  byte_of k i h e = get_or-take option_length (drop place packet) k 0 h ∙ get_or-drop place packet k 0 ∙ ap (λ (n : ℕ). get_or packet n 0) e

  option_kind : kind_in option ≡ request_kind
  option_kind = byte_of 0 place (omega arith) (add-zero place) ∙ at.kind

  option_second : length_in option ≡ option_length
  option_second = byte_of 1 (suc place) (omega arith) (omega arith) ∙ at.len

  pub word_of_lem : word_of option ≡ word_at packet (place + 4) * 65536 + word_at packet (place + 6)
  unfolding word_of
  word_of_lem =
      let a = byte_of 4 (place + 4) (omega arith) refl in
      let b = byte_of 5 (suc (place + 4)) (omega arith) (omega arith) in
      let c = byte_of 6 (place + 6) (omega arith) refl in
      let d = byte_of 7 (suc (place + 6)) (omega arith) (omega arith) in
      omega arith

  nonce_of : nonce_in option ≡ nonce_at place packet
  nonce_of = ap (λ (w : ℕ). w / 4) word_of_lem

  option_reads : get_or packet (place + 2) 0 / 16 ≡ 0
      → request_read option ≡ answer (record { rate = get_or packet (place + 2) 0 % 16; qs_ttl = get_or packet (place + 3) 0; nonce = nonce_at place packet })
  unfolding is_request
  option_reads z =
      let high : high_half option ≡ 0 = ap (λ (k : ℕ). k / 16) (byte_of 2 (place + 2) (omega arith) refl) ∙ z in
      let read : request_read option ≡ answer (record { rate = rate_in option; qs_ttl = ttl_in option; nonce = nonce_in option }) =
      simp (eq-eqb _ _ option_long, eq-eqb _ _ option_kind, eq-eqb _ _ option_second, eq-eqb _ _ high) in
      read
      ∙ ap₂ (λ (r n : ℕ). answer (record { rate = r; qs_ttl = ttl_in option; nonce = n })) (ap (λ (k : ℕ). k % 16) (byte_of 2 (place + 2) (omega arith) refl)) nonce_of
      ∙ ap (λ (q : ℕ). answer (record { rate = get_or packet (place + 2) 0 % 16; qs_ttl = q; nonce = nonce_at place packet })) (byte_of 3 (place + 3) (omega arith) refl)

  option_other : (get_or packet (place + 2) 0 / 16 ≡ 0 → ⊥) → request_read option ≡ refuse 4
  unfolding is_request
  option_other z =
      let high : high_half option ≡ get_or packet (place + 2) 0 / 16 = ap (λ (k : ℕ). k / 16) (byte_of 2 (place + 2) (omega arith) refl) in
      simp (eq-eqb _ _ option_long, eq-eqb _ _ option_kind, eq-eqb _ _ option_second, ne_eqb (high_half option) 0 (λ e. z (sym high ∙ e)))

-- the request that is there, and where there is none
pub shown : (place : ℕ) (packet : List ℕ) → Inside place packet → get_or packet (place + 2) 0 / 16 ≡ 0
    → request_at (Some place) packet ≡ Some (record { rate = get_or packet (place + 2) 0 % 16; qs_ttl = get_or packet (place + 3) 0; nonce = nonce_at place packet })
shown place packet at z = ap as_request (option_reads place packet at z)

pub shown_other : (place : ℕ) (packet : List ℕ) → Inside place packet → (get_or packet (place + 2) 0 / 16 ≡ 0 → ⊥) → request_at (Some place) packet ≡ None
shown_other place packet at z = ap as_request (option_other place packet at z)
