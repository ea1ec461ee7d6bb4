-- Laws of a sealed packet: it passes the check, it differs in the checksum alone, its options are where they were, and packets that agree
-- outside the checksum are sealed alike. Assumes nothing.
use Prim.Native.Nat.{ℕ, suc, ◌+◌, ◌-◌, ◌*◌, ◌/◌, ◌%◌, ◌≤◌, ◌<◌}
use mathlib.Core.Bool.{true}
use mathlib.Core.List.{List}
use mathlib.Core.Logic.{◌⊎◌, inl, inr, ⊎_elim}
use mathlib.Core.Path.{◌≡◌, refl, sym, ap, ap₂, subst, ◌∙◌}
use native.Mathlib.Nat.{le_refl}
use native.Mathlib.Omega.{arith}
use lib.ListN.{length, get_or, set, take, drop, length-set}
use lib.Seq.{take-take, length-take-le, get_or-take, get_or-set_same, get_or-set_other, take-set-lt, drop-set-lt, ext_get_or}
use Rattle.common.specs.Lists.{Bytes}
use Rattle.common.proofs.Choice.{le_or_gt}
use Rattle.common.proofs.Lists.{set_own, bytes_part}
use Rattle.refusals.specs.Reply.{Reply, answer, and_then}
use Rattle.wire_rules.specs.Walk.Walks.{walk}
use Rattle.wire_rules.specs.Ipv4.Headers.{least_header, options_place, word_at, ttl_place, ip_ttl, checksum_place, checksum_in, header_length, header_of, options_of}
use Rattle.wire_rules.specs.Ipv4.Checksums.{all_ones, ones_sum, with_checksum, checksum_of, sealed}
use Rattle.wire_rules.specs.Ipv4.Checks.{well_formed, header_checked}
use Rattle.wire_rules.specs.Ipv4.Packets.{in_packet, walked, located}
use Rattle.wire_rules.specs.Ipv4.Claims.{OutsideChecksum, ValidChecksum, word_total, HeaderForm}
use Rattle.wire_rules.proofs.Ipv4.ChecksumLaws.{folded, checksum_is, fills, fills_only, fills_all, sum_field, sealed_sum, field_twice, take_field, bytes_field, length_field_lem, in_steps, length_sealed}
use Rattle.wire_rules.proofs.Ipv4.HeaderLaws.{form, formed, least, length_kept, checked_when}

-- ---- packets that agree in what a well-formed header depends on

pub same_form : (reach : ℕ) (p q : List ℕ) → length q ≡ length p → get_or q 0 0 ≡ get_or p 0 0 → get_or q 2 0 ≡ get_or p 2 0 → get_or q 3 0 ≡ get_or p 3 0
    → (well_formed reach q ≡ well_formed reach p) × (header_length q ≡ header_length p)
unfolding well_formed header_length
same_form reach p q l a b c = (simp (l, a, b, c), simp a)

-- ---- the checksum's field of a packet

pub field_others : (w : ℕ) (packet : List ℕ) (i : ℕ) → OutsideChecksum i → get_or (with_checksum w packet) i 0 ≡ get_or packet i 0
unfolding with_checksum
field_others w packet i n =
    get_or-set_other (set packet checksum_place (w / 256)) (suc checksum_place) i (w % 256) 0 n.1 ∙ get_or-set_other packet checksum_place i (w / 256) 0 n.0

pub sealed_others : (packet : List ℕ) (i : ℕ) → OutsideChecksum i → get_or (sealed packet) i 0 ≡ get_or packet i 0
unfolding sealed
sealed_others packet i n = field_others (checksum_of (header_of packet)) packet i n

-- a place before the field, or behind it
pub no_checksum : (i : ℕ) → (i < 10) ⊎ (11 < i) → OutsideChecksum i
no_checksum i (inl h) = ((λ e. omega arith), (λ e. omega arith))
no_checksum i (inr h) = ((λ e. omega arith), (λ e. omega arith))

pub sealed_form : (reach : ℕ) (packet : List ℕ) → (well_formed reach (sealed packet) ≡ well_formed reach packet) × (header_length (sealed packet) ≡ header_length packet)
sealed_form reach packet =
    same_form reach packet (sealed packet) (length_sealed packet)
    (sealed_others packet 0 (no_checksum 0 (inl (omega arith))))
    (sealed_others packet 2 (no_checksum 2 (inl (omega arith))))
    (sealed_others packet 3 (no_checksum 3 (inl (omega arith))))

-- the field holds the word that stands in it
pub field_own : (l : List ℕ) → Bytes l → with_checksum (word_at l checksum_place) l ≡ l
unfolding with_checksum
field_own l b =
    let w = word_at l checksum_place in
    let high : get_or l checksum_place 0 ≡ w / 256 = omega (arith, b 11) in
    let low : get_or l (suc checksum_place) 0 ≡ w % 256 = omega (arith, b 11) in
    ap (λ (t : List ℕ). set t (suc checksum_place) (w % 256)) (set_own l checksum_place (w / 256) high) ∙ set_own l (suc checksum_place) (w % 256) low

-- ---- sealing

bytes_front : (k : ℕ) (l : List ℕ) → Bytes l → Bytes (take k l)
bytes_front k l b = bytes_part k 0 l b

pub bytes_sealed : (packet : List ℕ) → Bytes packet → Bytes (sealed packet)
unfolding sealed
bytes_sealed packet b =
    let c = checksum_is (header_of packet) (bytes_front (header_length packet) packet b) in
    bytes_field (checksum_of (header_of packet)) packet (omega arith) b

module _ (reach : ℕ) (packet : List ℕ) (f : HeaderForm reach packet) where
  header_sealed : header_of (sealed packet) ≡ with_checksum (checksum_of (header_of packet)) (header_of packet)
  unfolding sealed
  header_sealed =
      let c = checksum_of (header_of packet) in
      ap (λ (h : ℕ). take h (sealed packet)) (sealed_form reach packet).1
      ∙ take_field (header_length packet) c packet (omega (arith, least reach packet f))

  header_long : length (header_of packet) ≡ header_length packet
  header_long = length-take-le (header_length packet) packet f.inside

  pub sum_sealed : Bytes packet → ones_sum (header_of (sealed packet)) ≡ all_ones
  sum_sealed b =
      ap ones_sum header_sealed
      ∙ sealed_sum (header_of packet) (rw header_long (omega (arith, least reach packet f))) (bytes_front (header_length packet) packet b)

  pub again : sealed (sealed packet) ≡ sealed packet
  unfolding sealed checksum_of
  again =
      let c = checksum_of (header_of packet) in
      ap₂ (λ (h p : List ℕ). with_checksum (all_ones - ones_sum (with_checksum 0 h)) p) header_sealed refl
      ∙ ap (λ (h : List ℕ). with_checksum (all_ones - ones_sum h) (with_checksum c packet)) (field_twice 0 c (header_of packet))
      ∙ field_twice c c packet

  -- the header's sum, by the checksum that it carries
  sum_by : Bytes packet → ones_sum (header_of packet) ≡ folded (word_total (with_checksum 0 (header_of packet)) + checksum_in packet)
  sum_by b =
      let h = header_of packet in
      let c = checksum_in packet in
      let hb = bytes_front (header_length packet) packet b in
      let long : 12 ≤ length h = rw header_long (omega (arith, least reach packet f)) in
      let at : (i : ℕ) → i < 12 → get_or h i 0 ≡ get_or packet i 0 = λ i l. get_or-take (header_length packet) packet i 0 (omega (arith, least reach packet f)) in
      let own : with_checksum c h ≡ h = ap₂ (λ (x y : ℕ). with_checksum (x * 256 + y) h) (sym (at 10 (omega arith))) (sym (at 11 (omega arith))) ∙ field_own h hb in
      ap ones_sum (sym own) ∙ sum_field c h long (omega (arith, b 10, b 11)) hb

  -- which checksums pass
  pub which : Bytes packet → ones_sum (header_of packet) ≡ all_ones → ValidChecksum packet
  which b e =
      let h = header_of packet in
      let c = checksum_in packet in
      subst (λ (k : ℕ). (c ≡ k) ⊎ ((c ≡ all_ones) × (k ≡ 0))) (sym (checksum_is h (bytes_front (header_length packet) packet b)))
      (fills_only (word_total (with_checksum 0 h)) c (omega (arith, b 10, b 11)) (sym (sum_by b) ∙ e))

  pub which_pass : Bytes packet → ValidChecksum packet → ones_sum (header_of packet) ≡ all_ones
  which_pass b v = sum_by b ∙ go v
    where
      total : ℕ
      total = word_total (with_checksum 0 (header_of packet))

      c_is : checksum_of (header_of packet) ≡ all_ones - folded total
      c_is = checksum_is (header_of packet) (bytes_front (header_length packet) packet b)

      go : ValidChecksum packet → folded (total + checksum_in packet) ≡ all_ones
      go (inl e) = ap (λ (k : ℕ). folded (total + k)) (e ∙ c_is) ∙ fills total
      go (inr e) = ap (λ (k : ℕ). folded (total + k)) e.0 ∙ fills_all total (sym c_is ∙ e.1)

  -- ---- the header by itself

  header_at : (i : ℕ) → i < least_header → get_or (header_of packet) i 0 ≡ get_or packet i 0
  header_at i h = get_or-take (header_length packet) packet i 0 (omega (arith, least reach packet f))

  pub length_alone : header_length (header_of packet) ≡ header_length packet
  unfolding header_length
  length_alone = ap (λ (k : ℕ). k % 16 * 4) (header_at 0 (omega arith))

  pub alone : header_of (header_of packet) ≡ header_of packet
  alone = ap (λ (h : ℕ). take h (header_of packet)) length_alone ∙ take-take (header_length packet) (header_length packet) packet (le_refl (header_length packet))

  pub form_alone : well_formed reach (header_of packet) ≡ true
  form_alone =
      formed reach (header_of packet) (record {
        long = rw header_long (least reach packet f);
        version = ap (λ (k : ℕ). k / 16) (header_at 0 (omega arith)) ∙ f.version;
        words = rw (header_at 0 (omega arith)) f.words;
        inside = rw (length_alone, header_long) (le_refl (header_length packet));
        total_low = rw (length_alone, header_at 2 (omega arith), header_at 3 (omega arith)) f.total_low;
        total_high = rw (header_at 2 (omega arith), header_at 3 (omega arith)) f.total_high;
      })

  pub ttl_alone : ip_ttl (header_of packet) ≡ ip_ttl packet
  ttl_alone = header_at ttl_place (omega arith)

  pub sealed_alone : sealed (header_of packet) ≡ header_of (sealed packet)
  unfolding sealed
  sealed_alone = ap (λ (h : List ℕ). with_checksum (checksum_of h) (header_of packet)) alone ∙ sym header_sealed

pub passes : (reach : ℕ) (packet : List ℕ) → Bytes packet → well_formed reach packet ≡ true → header_checked reach (sealed packet) ≡ answer (header_length packet)
passes reach packet b w =
    let s = sealed_form reach packet in
    checked_when reach (sealed packet) (s.0 ∙ w) (sum_sealed reach packet (form reach packet w) b) ∙ ap (λ (h : ℕ). answer h) s.1

-- ---- what is changed before the options leaves the options

pub options_set : (packet : List ℕ) (i a : ℕ) → 1 ≤ i → i < least_header → least_header ≤ header_length packet → options_of (set packet i a) ≡ options_of packet
options_set packet i a l h e =
    ap (λ (k : ℕ). drop options_place (take k (set packet i a))) (length_kept packet i a l)
    ∙ ap (drop options_place) (take-set-lt (header_length packet) packet i a (omega arith))
    ∙ drop-set-lt options_place (take (header_length packet) packet) i a h

pub options_sealed : (packet : List ℕ) → least_header ≤ header_length packet → options_of (sealed packet) ≡ options_of packet
unfolding sealed with_checksum
options_sealed packet e =
    let c = checksum_of (header_of packet) in
    options_set (set packet checksum_place (c / 256)) (suc checksum_place) (c % 256) (omega arith) (omega arith) (rw (length_kept packet checksum_place (c / 256) (omega arith)) e)
    ∙ options_set packet checksum_place (c / 256) (omega arith) (omega arith) e

-- a sealed packet is located by its walk
pub located_sealed : (reach : ℕ) (packet : List ℕ) → Bytes packet → well_formed reach packet ≡ true → located reach (sealed packet) ≡ walked packet
located_sealed reach packet b w =
    ap (λ (r : Reply ℕ). and_then r (λ header. walked (sealed packet))) (passes reach packet b w)
    ∙ ap (λ (area : List ℕ). and_then (walk area) (λ place. answer (in_packet place))) (options_sealed packet (least reach packet (form reach packet w)))

-- ---- packets that agree outside the checksum

-- a place is before the checksum's field, one of its two bytes, or behind it
by_field : (P : ℕ → Type 0) (i : ℕ) → P 10 → P 11 → (OutsideChecksum i → P i) → P i
by_field P i ten eleven other = ⊎_elim low high (le_or_gt i 9)
  where
    low : i ≤ 9 → P i
    low h = other ((λ e. omega arith), (λ e. omega arith))

    above : 11 < i → P i
    above h = other ((λ e. omega arith), (λ e. omega arith))

    high : 9 < i → P i
    high h =
        ⊎_elim
        (λ (l : i ≤ 10). let e : 10 ≡ i = omega arith in rw (sym e) ten)
        (λ (g : 10 < i). ⊎_elim (λ (l : i ≤ 11). let e : 11 ≡ i = omega arith in rw (sym e) eleven) above (le_or_gt i 11))
        (le_or_gt i 10)

zeroed_first : (p : List ℕ) → 12 ≤ length p → get_or (with_checksum 0 p) 10 0 ≡ 0
unfolding with_checksum
zeroed_first p h = get_or-set_other (set p 10 0) 11 10 0 0 (λ e. absurd (omega arith)) ∙ get_or-set_same p 10 0 0 (omega arith)

zeroed_second : (p : List ℕ) → 12 ≤ length p → get_or (with_checksum 0 p) 11 0 ≡ 0
unfolding with_checksum
zeroed_second p h = get_or-set_same (set p 10 0) 11 0 0 (rw (length-set p 10 0) (omega arith))

-- packets that agree outside the checksum are sealed alike
pub sealed_alike : (p q : List ℕ) → length p ≡ length q → 12 ≤ length p → 12 ≤ header_length p → header_length p ≡ header_length q
    → ((i : ℕ) → OutsideChecksum i → get_or p i 0 ≡ get_or q i 0) → sealed p ≡ sealed q
sealed_alike p q long room size header agree =
    let zeros : with_checksum 0 p ≡ with_checksum 0 q =
    ext_get_or 0 (with_checksum 0 p) (with_checksum 0 q) (length_field_lem 0 p ∙ long ∙ sym (length_field_lem 0 q)) (λ i l.
    by_field (λ (k : ℕ). get_or (with_checksum 0 p) k 0 ≡ get_or (with_checksum 0 q) k 0) i
    (zeroed_first p room ∙ sym (zeroed_first q (omega arith)))
    (zeroed_second p room ∙ sym (zeroed_second q (omega arith)))
    (λ o. field_others 0 p i o ∙ agree i o ∙ sym (field_others 0 q i o))) in
    sym (in_steps p size)
    ∙ ap₂ (λ (h : ℕ) (z : List ℕ). with_checksum (all_ones - ones_sum (take h z)) z) header zeros
    ∙ in_steps q (omega arith)
