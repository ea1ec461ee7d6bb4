-- Laws of ECN marking. Assumes nothing.
use Prim.Native.Nat.{ℕ, ◌+◌, ◌*◌, ◌/◌, ◌%◌, ◌≤◌, ◌<◌}
use mathlib.Core.Bool.{Bool, true, false}
use mathlib.Core.List.{List}
use mathlib.Core.Logic.{inl, ⊎_elim}
use Rattle.std.specs.Prelude.{Option, None, Some}
use mathlib.Core.Path.{◌≡◌, refl, sym, ap, ap₂, ◌∙◌}
use native.Mathlib.Omega.{arith}
use borrow.Author.Tests.{eqb-true, eqb-false}
use lib.Dec.{eqb}
use lib.ListN.{length, get_or, set, take, length-set}
use lib.Seq.{get_or-set_same, get_or-set_other, drop-set-lt}
use Rattle.common.specs.Choice.{pick}
use Rattle.common.specs.Lists.{Bytes}
use Rattle.common.proofs.Choice.{clash, by_test, le_or_gt}
use Rattle.common.proofs.Lists.{set_own, bytes_set}
use Rattle.refusals.specs.Reply.{Reply, answer, refuse, and_then}
use Rattle.wire_rules.specs.declared.Request.{Request}
use Rattle.wire_rules.specs.Options.Wire.{option_length}
use Rattle.wire_rules.specs.Options.Requests.{request_read}
use Rattle.wire_rules.specs.Walk.Walks.{walk, Place}
use Rattle.wire_rules.specs.Ipv4.Headers.{options_place, ecn_place, ttl_place, ip_ttl, header_length}
use Rattle.wire_rules.specs.Ipv4.Checksums.{sealed}
use Rattle.wire_rules.specs.Ipv4.Checks.{well_formed, header_checked}
use Rattle.wire_rules.specs.Ipv4.Packets.{in_packet, walked, located}
use Rattle.wire_rules.specs.Ipv4.Marks.{ect_set, with_ce, mark_reply, after_mark, marked_packet}
use Rattle.wire_rules.specs.declared.Marking.{Marking}
use Rattle.wire_rules.specs.declared.Marking.TheVariants.{Marked, Dropped}
use Rattle.wire_rules.specs.Ipv4.Views.{as_request, request_at, view}
use Rattle.wire_rules.specs.Ipv4.Claims.{OutsideChecksum, EcnMarking, MarkingTheorem, MarkingOnly, MarkedStill}
use Rattle.wire_rules.proofs.Ipv4.ChecksumLaws.{length_sealed}
use Rattle.wire_rules.proofs.Ipv4.HeaderLaws.{form, Good, good}
use Rattle.wire_rules.proofs.Ipv4.PacketLaws.{mark_refused, mark_drop, mark_marked}
use Rattle.wire_rules.proofs.Ipv4.SealLaws.{sealed_others, no_checksum, bytes_sealed, passes, options_set, located_sealed, sealed_alike}
use Rattle.wire_rules.proofs.Ipv4.OptionLaws.{found, viewed_by}
use Rattle.wire_rules.proofs.Ipv4.ReadLaws.{set_form}
use Rattle.wire_rules.proofs.Ipv4.PutLaws.{request_sealed}
use Rattle.wire_rules.proofs.Ipv4.SealLaws as seals

-- what is proved of each decision holds of what marking answers and leaves
by_mark : (packet : List ℕ) (P : Reply Marking → List ℕ → Type 0)
    → ((n : ℕ) → header_checked (length packet) packet ≡ refuse n → P (refuse n) packet)
    → ((h : ℕ) → header_checked (length packet) packet ≡ answer h → ect_set (get_or packet ecn_place 0) ≡ false → P (answer Dropped) packet)
    → ((h : ℕ) → header_checked (length packet) packet ≡ answer h → ect_set (get_or packet ecn_place 0) ≡ true
    → P (answer Marked) (sealed (set packet ecn_place (with_ce (get_or packet ecn_place 0)))))
    → P (mark_reply packet) (marked_packet packet)
by_mark packet P f g m = go (header_checked (length packet) packet) refl
  where
    decided : Reply ℕ → Reply Marking
    decided r = and_then r (λ header. answer (pick (ect_set (get_or packet ecn_place 0)) Marked Dropped))

    go : (r : Reply ℕ) → header_checked (length packet) packet ≡ r → P (decided r) (after_mark packet (decided r))
    go (refuse n) e = f n e
    go (answer h) e = by_test (λ (d : Marking). P (answer d) (after_mark packet (answer d))) (ect_set (get_or packet ecn_place 0)) (m h e) (g h e)

-- CE set beside ECT: ECT stays, a second time nothing changes, both bits are set and the other six stay
ce_keeps : (b : ℕ) → b / 2 % 2 ≡ 1 → (with_ce b / 2 % 2 ≡ 1) × (with_ce b ≡ with_ce (with_ce b)) × (with_ce b % 4 ≡ 3) × (with_ce b / 4 ≡ b / 4)
unfolding with_ce
ce_keeps b h =
    let half : (b / 2 * 2 + 1) / 2 ≡ b / 2 = omega arith in
    (omega (arith, half), omega (arith, half), omega arith, omega arith)

ect : (b : ℕ) → ect_set b ≡ true → b / 2 % 2 ≡ 1
unfolding ect_set
ect b e = eqb-true (b / 2 % 2) 1 e

no_ect : (b : ℕ) → ect_set b ≡ false → b / 2 % 2 ≡ 1 → ⊥
unfolding ect_set
no_ect b e = eqb-false (b / 2 % 2) 1 e

module _ (packet : List ℕ) where
  abbrev byte : ℕ
  byte = get_or packet ecn_place 0

  abbrev flagged : List ℕ
  flagged = set packet ecn_place (with_ce byte)

  flagged_form : (well_formed (length packet) flagged ≡ well_formed (length packet) packet) × (header_length flagged ≡ header_length packet)
  flagged_form = set_form (length packet) packet ecn_place (with_ce byte) (λ x. absurd (omega arith)) (λ x. absurd (omega arith)) (λ x. absurd (omega arith))

  bytes_flagged : Bytes packet → Bytes flagged
  unfolding with_ce
  bytes_flagged b = bytes_set packet ecn_place (with_ce byte) (omega (arith, b ecn_place)) b

  module _ (h : ℕ) (e : header_checked (length packet) packet ≡ answer h) where
    is_good : Good (length packet) packet
    is_good = (good (length packet) h packet (sym e)).0

    flagged_well : well_formed (length packet) flagged ≡ true
    flagged_well = flagged_form.0 ∙ is_good.well

    flagged_passes : Bytes packet → header_checked (length packet) (sealed flagged) ≡ header_checked (length packet) packet
    flagged_passes b =
        passes (length packet) flagged (bytes_flagged b) flagged_well ∙ ap answer (flagged_form.1 ∙ sym (good (length packet) h packet (sym e)).1) ∙ sym e

    ecn_after : get_or (sealed flagged) ecn_place 0 ≡ with_ce byte
    ecn_after = sealed_others flagged ecn_place (no_checksum ecn_place (inl (omega arith))) ∙ get_or-set_same packet ecn_place (with_ce byte) 0 (omega (arith, is_good.form_is.long))

    long_after : length (sealed flagged) ≡ length packet
    long_after = length_sealed flagged ∙ length-set packet ecn_place (with_ce byte)

    mark_again : Bytes packet → ect_set byte ≡ true → (mark_reply (sealed flagged) ≡ answer Marked) × (marked_packet (sealed flagged) ≡ sealed flagged)
    mark_again b t =
        let s = sealed flagged in
        let k = ce_keeps byte (ect byte t) in
        let still : get_or s ecn_place 0 / 2 % 2 ≡ 1 = ap (λ (n : ℕ). n / 2 % 2) ecn_after ∙ k.0 in
        let ce : get_or s ecn_place 0 ≡ with_ce (get_or s ecn_place 0) = ecn_after ∙ k.1 ∙ ap with_ce (sym ecn_after) in
        let m = mark_marked s h (sym (ap (λ (n : ℕ). header_checked n s) long_after ∙ flagged_passes b ∙ e)) still in (
          sym m.0,
          sym m.1 ∙ ap sealed (set_own s ecn_place (with_ce (get_or s ecn_place 0)) ce) ∙ seals.again (length packet) flagged (form (length packet) flagged flagged_well),
        )

    flagged_located : Bytes packet → located (length packet) (sealed flagged) ≡ located (length packet) packet
    flagged_located b =
        located_sealed (length packet) flagged (bytes_flagged b) flagged_well
        ∙ ap (λ (area : List ℕ). and_then (walk area) (λ place. answer (in_packet place))) (options_set packet ecn_place (with_ce byte) (omega arith) (omega arith) is_good.header)
        ∙ sym (ap (λ (r : Reply ℕ). and_then r (λ header. walked packet)) e)

    -- the bytes that are viewed are not among those that change
    flagged_request : (inner : Place) → request_at (in_packet inner) (sealed flagged) ≡ request_at (in_packet inner) packet
    flagged_request None = refl
    flagged_request (Some o) =
        request_sealed (Some o) flagged
        ∙ ap (λ (l : List ℕ). as_request (request_read (take option_length l))) (drop-set-lt (options_place + o) packet ecn_place (with_ce byte) (omega arith))

    flagged_ttl : ip_ttl (sealed flagged) ≡ ip_ttl packet
    flagged_ttl =
        sealed_others flagged ttl_place (no_checksum ttl_place (inl (omega arith))) ∙ get_or-set_other packet ecn_place ttl_place (with_ce byte) 0 (λ x. absurd (omega arith))

    flagged_viewed : Bytes packet → view (length packet) (sealed flagged) ≡ view (length packet) packet
    flagged_viewed b = go (located (length packet) packet) refl
      where
        go : (r : Reply Place) → located (length packet) packet ≡ r → view (length packet) (sealed flagged) ≡ view (length packet) packet
        go (refuse n) l =
            ap (λ (r : Reply Place). and_then r (λ place. answer (record { ttl = ip_ttl (sealed flagged); request = request_at place (sealed flagged) }))) (flagged_located b ∙ l)
            ∙ sym (ap (λ (r : Reply Place). and_then r (λ place. answer (record { ttl = ip_ttl packet; request = request_at place packet }))) l)
        go (answer place) l =
            let f = found (length packet) packet place l in
            viewed_by (length packet) (sealed flagged) place (flagged_located b ∙ l)
            ∙ ap₂ (λ (t : ℕ) (q : Option Request). answer (record { ttl = t; request = q })) flagged_ttl
            (ap (λ (p : Place). request_at p (sealed flagged)) f.moved ∙ flagged_request f.inner ∙ ap (λ (p : Place). request_at p packet) (sym f.moved))
            ∙ sym (viewed_by (length packet) packet place l)

pub marking_theorem : MarkingTheorem
marking_theorem = record {
  dropped_when = λ h packet e l. sym (mark_drop packet h (sym e) (λ o. absurd (omega arith))).0;
  marked_when = λ h packet e l. sym (mark_marked packet h (sym e) (omega arith)).0;
  refused_when = λ n packet e. sym (mark_refused packet n (sym e)).0;
  dropped_same = λ packet e. ap (after_mark packet) e;
  refused_same = λ n packet e. ap (after_mark packet) e;
  others = λ packet i n c.
      by_mark packet (λ (r : Reply Marking) (l : List ℕ). get_or l i 0 ≡ get_or packet i 0)
      (λ m e. refl)
      (λ h e t. refl)
      (λ h e t. sealed_others (flagged packet) i c ∙ get_or-set_other packet ecn_place i (with_ce (byte packet)) 0 n);
  long = λ packet.
      by_mark packet (λ (r : Reply Marking) (l : List ℕ). length l ≡ length packet)
      (λ m e. refl)
      (λ h e t. refl)
      (λ h e t. long_after packet h e);
  bits = λ packet.
      by_mark packet (λ (r : Reply Marking) (l : List ℕ). r ≡ answer Marked → (get_or l ecn_place 0 % 4 ≡ 3) × (get_or l ecn_place 0 / 4 ≡ byte packet / 4))
      (λ m e x. absurd (clash (cc)))
      (λ h e t x. absurd (clash (cc)))
      (λ h e t x.
      let a = ecn_after packet h e in
      let k = ce_keeps (byte packet) (ect (byte packet) t) in
      (ap (λ (n : ℕ). n % 4) a ∙ k.2, ap (λ (n : ℕ). n / 4) a ∙ k.3));
  written = λ packet.
      by_mark packet (λ (r : Reply Marking) (l : List ℕ). r ≡ answer Marked → sealed l ≡ l)
      (λ m e x. absurd (clash (cc)))
      (λ h e t x. absurd (clash (cc)))
      (λ h e t x. seals.again (length packet) (flagged packet) (form (length packet) (flagged packet) (flagged_well packet h e)));
}

pub marked_still : MarkedStill
marked_still = record {
  bytes = λ packet b.
      by_mark packet (λ (r : Reply Marking) (l : List ℕ). Bytes l)
      (λ m e. b)
      (λ h e t. b)
      (λ h e t. bytes_sealed (flagged packet) (bytes_flagged packet b));
  twice = λ packet b.
      by_mark packet (λ (r : Reply Marking) (l : List ℕ). (mark_reply l ≡ r) × (marked_packet l ≡ l))
      (λ n e. let m = mark_refused packet n (sym e) in (sym m.0, sym m.1))
      (λ h e t. let m = mark_drop packet h (sym e) (no_ect (byte packet) t) in (sym m.0, sym m.1))
      (λ h e t. mark_again packet h e b t);
  passes = λ packet b.
      by_mark packet (λ (r : Reply Marking) (l : List ℕ). header_checked (length packet) l ≡ header_checked (length packet) packet)
      (λ m e. refl)
      (λ h e t. refl)
      (λ h e t. flagged_passes packet h e b);
  located_still = λ packet b.
      by_mark packet (λ (r : Reply Marking) (l : List ℕ). located (length packet) l ≡ located (length packet) packet)
      (λ m e. refl)
      (λ h e t. refl)
      (λ h e t. flagged_located packet h e b);
  viewed_still = λ packet b.
      by_mark packet (λ (r : Reply Marking) (l : List ℕ). view (length packet) l ≡ view (length packet) packet)
      (λ m e. refl)
      (λ h e t. refl)
      (λ h e t. flagged_viewed packet h e b);
}

-- ---- one marking only

-- a byte by its low two bits and the other six
same_byte : (a b c : ℕ) → a % 4 ≡ 3 → a / 4 ≡ c / 4 → b % 4 ≡ 3 → b / 4 ≡ c / 4 → a ≡ b
same_byte a b c x y z w = omega arith

same_size : (x y : List ℕ) → get_or x 0 0 ≡ get_or y 0 0 → header_length x ≡ header_length y
unfolding header_length
same_size x y e = ap (λ (b : ℕ). b % 16 * 4) e

module _ (reply : List ℕ → Reply Marking) (left : List ℕ → List ℕ) (m : EcnMarking reply left) (packet : List ℕ) where
  abbrev Same : Type 0
  Same = (reply packet ≡ mark_reply packet) × (left packet ≡ marked_packet packet)

  marked_alike : (h : ℕ) → header_checked (length packet) packet ≡ answer h → reply packet ≡ answer Marked → mark_reply packet ≡ answer Marked → left packet ≡ marked_packet packet
  marked_alike h e r s =
      let f = is_good packet h e in
      let ours = marking_theorem.bits packet s in
      let theirs = m.bits packet r in
      let size = same_size (left packet) packet (m.others packet 0 (λ x. absurd (omega arith)) (no_checksum 0 (inl (omega arith)))) in
      let own_size = same_size (marked_packet packet) packet (marking_theorem.others packet 0 (λ x. absurd (omega arith)) (no_checksum 0 (inl (omega arith)))) in
      let long = m.long packet in
      sym (m.written packet r)
      ∙ sealed_alike (left packet) (marked_packet packet) (long ∙ sym (marking_theorem.long packet)) (omega (arith, f.form_is.long)) (omega (arith, f.header)) (size ∙ sym own_size)
      (λ i o. by_ecn (eqb i 1) i refl o (same_byte _ _ _ theirs.0 theirs.1 ours.0 ours.1))
      ∙ marking_theorem.written packet s
    where
      by_ecn : (t : Bool) (i : ℕ) → eqb i 1 ≡ t → OutsideChecksum i → get_or (left packet) 1 0 ≡ get_or (marked_packet packet) 1 0 → get_or (left packet) i 0 ≡ get_or (marked_packet packet) i 0
      by_ecn true i e o same = let s : 1 ≡ i = sym (eqb-true i 1 e) in rw (sym s) same
      by_ecn false i e o same = m.others packet i (eqb-false i 1 e) o ∙ sym (marking_theorem.others packet i (eqb-false i 1 e) o)

  only_one : (r : Reply ℕ) → header_checked (length packet) packet ≡ r → Same
  only_one (refuse n) e =
      let x = m.refused_when n packet e in
      let y = marking_theorem.refused_when n packet e in
      (x ∙ sym y, m.refused_same n packet x ∙ sym (marking_theorem.refused_same n packet y))
  only_one (answer h) e = ⊎_elim to_mark to_drop (le_or_gt 2 (get_or packet 1 0 % 4))
    where
      to_mark : 2 ≤ get_or packet 1 0 % 4 → Same
      to_mark l =
          let x = m.marked_when h packet e l in
          let y = marking_theorem.marked_when h packet e l in
          (x ∙ sym y, marked_alike h e x y)

      to_drop : get_or packet 1 0 % 4 < 2 → Same
      to_drop l =
          let x = m.dropped_when h packet e l in
          let y = marking_theorem.dropped_when h packet e l in
          (x ∙ sym y, m.dropped_same packet x ∙ sym (marking_theorem.dropped_same packet y))

pub marking_only : MarkingOnly
marking_only reply left m packet = only_one reply left m packet (header_checked (length packet) packet) refl
