-- Laws of the checksum: one's complement addition as a remainder, the sum of a header's words, and what a written checksum does to it.
-- Assumes nothing.
use Prim.Native.Nat.{ℕ, zero, suc, ◌+◌, ◌-◌, ◌*◌, ◌/◌, ◌%◌, ◌≤◌, ◌<◌}
use mathlib.Core.List.{List, [], ◌∷◌, ◌++◌, append_assoc}
use mathlib.Core.Path.{◌≡◌, refl, sym, ap, ◌∙◌}
use mathlib.Core.Logic.{◌⊎◌, inl, inr}
use native.Mathlib.Omega.{arith}
use lib.ListN.{length, set, take, drop, length-set}
use lib.Seq.{set-set, set_comm, sets-eq, length-take-le, take-set-lt}
use Rattle.common.specs.Lists.{Bytes}
use Rattle.common.proofs.Choice.{le_or_gt}
use Rattle.common.proofs.Lists.{bytes_set}
use Rattle.wire_rules.specs.Ipv4.Headers.{checksum_place, header_length, header_of}
use Rattle.wire_rules.specs.Ipv4.Checksums.{all_ones, ones_add, ones_sum, with_checksum, checksum_of, sealed}
use Rattle.wire_rules.specs.Ipv4.Claims.{word_total}

-- a plain sum folded: 0 stays 0, and any other comes down to 1 to 65,535
abbrev pub folded : ℕ → ℕ
folded zero = 0
folded (suc n) = n % 65535 + 1

pub folded_limit : (n : ℕ) → folded n ≤ all_ones
folded_limit zero = omega arith
folded_limit (suc n) = omega arith

pub folded_small : (n : ℕ) → n ≤ all_ones → folded n ≡ n
folded_small zero h = refl
folded_small (suc n) h = omega arith

above_zero : (n : ℕ) → 1 ≤ n → folded n ≡ (n - 1) % 65535 + 1
above_zero zero h = absurd (omega arith)
above_zero (suc n) h = omega arith

-- a word added with end-around carry to a folded sum is the folded sum of both
pub add_folded : (a n : ℕ) → a ≤ all_ones → ones_add a (folded n) ≡ folded (a + n)
unfolding ones_add
add_folded zero zero h = refl
add_folded zero (suc n) h = omega (arith, above_zero (zero + suc n) (omega arith))
add_folded (suc a) zero h = omega (arith, above_zero (suc a + zero) (omega arith))
add_folded (suc a) (suc n) h = omega (arith, above_zero (suc a + suc n) (omega arith))

-- the complement fills a folded sum up to all ones
pub fills : (n : ℕ) → folded (n + (all_ones - folded n)) ≡ all_ones
fills zero = refl
fills (suc n) = omega (arith, above_zero (suc n + (all_ones - (n % 65535 + 1))) (omega arith))

-- where the complement is 0, so do all ones
pub fills_all : (n : ℕ) → all_ones - folded n ≡ 0 → folded (n + all_ones) ≡ all_ones
fills_all zero e = absurd (omega arith)
fills_all (suc n) e = omega (arith, above_zero (suc n + all_ones) (omega arith))

-- and nothing else does, but for all ones where the complement is none
pub fills_only : (n c : ℕ) → c ≤ all_ones → folded (n + c) ≡ all_ones → (c ≡ all_ones - folded n) ⊎ ((c ≡ all_ones) × (all_ones - folded n ≡ 0))
fills_only zero c h e = inl (omega (arith, folded_small (zero + c) (omega arith)))
fills_only (suc n) c h e = go (le_or_gt all_ones c) (above_zero (suc n + c) (omega arith))
  where
    go : (all_ones ≤ c) ⊎ (c < all_ones) → folded (suc n + c) ≡ (suc n + c - 1) % 65535 + 1 → (c ≡ all_ones - (n % 65535 + 1)) ⊎ ((c ≡ all_ones) × (all_ones - (n % 65535 + 1) ≡ 0))
    go (inl l) p = inr (omega arith, omega arith)
    go (inr l) p = inl (omega arith)

-- ---- the words of a list

pub sum_folded : (l : List ℕ) → Bytes l → ones_sum l ≡ folded (word_total l)
unfolding ones_sum word_total
sum_folded [] b = refl
sum_folded (high ∷ []) b = let h : high < 256 = b 0 in sym (folded_small (high * 256) (omega arith))
sum_folded (high ∷ low ∷ rest) b =
    let h : high < 256 = b 0 in
    let l : low < 256 = b 1 in
    ap (λ (k : ℕ). ones_add (high * 256 + low) k) (sum_folded rest (λ i. b (suc (suc i)))) ∙ add_folded (high * 256 + low) (word_total rest) (omega arith)

-- two lists one behind the other, the first of an even length
pub total_append : (p q : List ℕ) → length p % 2 ≡ 0 → word_total (p ++ q) ≡ word_total p + word_total q
unfolding word_total
total_append [] q e = omega arith
total_append (x ∷ []) q e = absurd (omega arith)
total_append (x ∷ y ∷ p) q e = ap (λ (k : ℕ). x * 256 + y + k) (total_append p q (omega arith)) ∙ omega arith

-- ---- the checksum's field

-- its two bytes, between those before and those behind
pub field : (w : ℕ) (l : List ℕ) → 12 ≤ length l → with_checksum w l ≡ take 10 l ++ (w / 256 ∷ w % 256 ∷ drop 12 l)
unfolding with_checksum
field w l h = sets-eq (w / 256 ∷ w % 256 ∷ []) l 10 (omega arith) ∙ append_assoc (take 10 l) (w / 256 ∷ w % 256 ∷ []) (drop 12 l)

pub total_field : (w : ℕ) (l : List ℕ) → 12 ≤ length l → word_total (with_checksum w l) ≡ word_total (with_checksum 0 l) + w
unfolding word_total
total_field w l h =
    let even : length (take 10 l) % 2 ≡ 0 = rw (length-take-le 10 l (omega arith)) refl in
    let at : (k : ℕ) → word_total (with_checksum k l) ≡ word_total (take 10 l) + (k / 256 * 256 + k % 256 + word_total (drop 12 l)) =
    λ k. ap word_total (field k l h) ∙ total_append (take 10 l) (k / 256 ∷ k % 256 ∷ drop 12 l) even in
    omega (arith, at w, at 0)

pub length_field_lem : (w : ℕ) (l : List ℕ) → length (with_checksum w l) ≡ length l
unfolding with_checksum
length_field_lem w l = simp length-set

pub bytes_field : (w : ℕ) (l : List ℕ) → w ≤ all_ones → Bytes l → Bytes (with_checksum w l)
unfolding with_checksum
bytes_field w l h b = bytes_set (set l checksum_place (w / 256)) (suc checksum_place) (w % 256) (omega arith) (bytes_set l checksum_place (w / 256) (omega arith) b)

pub take_field : (k w : ℕ) (l : List ℕ) → 12 ≤ k → take k (with_checksum w l) ≡ with_checksum w (take k l)
unfolding with_checksum
take_field k w l h = simp (take-set-lt k (set l checksum_place (w / 256)) (suc checksum_place) (w % 256) (omega arith), take-set-lt k l checksum_place (w / 256) (omega arith))

-- a header's folded sum, by its checksum
pub sum_field : (w : ℕ) (l : List ℕ) → 12 ≤ length l → w ≤ all_ones → Bytes l → ones_sum (with_checksum w l) ≡ folded (word_total (with_checksum 0 l) + w)
sum_field w l h f b = sum_folded (with_checksum w l) (bytes_field w l f b) ∙ ap folded (total_field w l h)

pub checksum_is : (l : List ℕ) → Bytes l → checksum_of l ≡ all_ones - folded (word_total (with_checksum 0 l))
unfolding checksum_of
checksum_is l b = ap (λ (k : ℕ). all_ones - k) (sum_folded (with_checksum 0 l) (bytes_field 0 l (omega arith) b))

-- with the checksum that sealing writes the sum is all ones
pub sealed_sum : (l : List ℕ) → 12 ≤ length l → Bytes l → ones_sum (with_checksum (checksum_of l) l) ≡ all_ones
sealed_sum l h b =
    let c = checksum_is l b in
    sum_field (checksum_of l) l h (omega arith) b ∙ ap (λ (k : ℕ). folded (word_total (with_checksum 0 l) + k)) c ∙ fills (word_total (with_checksum 0 l))

-- ---- sealing

-- a field written twice holds what was written last
pub field_twice : (v w : ℕ) (l : List ℕ) → with_checksum v (with_checksum w l) ≡ with_checksum v l
unfolding with_checksum
field_twice v w l =
    let a = set l checksum_place (w / 256) in
    ap (λ (t : List ℕ). set t (suc checksum_place) (v % 256))
    (set_comm a (suc checksum_place) checksum_place (w % 256) (v / 256) (λ e. absurd (omega arith)) ∙ ap (λ (t : List ℕ). set t (suc checksum_place) (w % 256)) (set-set l checksum_place (w / 256) (v / 256)))
    ∙ set-set (set l checksum_place (v / 256)) (suc checksum_place) (w % 256) (v % 256)

-- sealing in two steps: the field zeroed first, and then written over the sum that the header then has
pub in_steps : (packet : List ℕ) → 12 ≤ header_length packet
    → with_checksum (all_ones - ones_sum (take (header_length packet) (with_checksum 0 packet))) (with_checksum 0 packet) ≡ sealed packet
unfolding sealed checksum_of
in_steps packet h =
    field_twice (all_ones - ones_sum (take (header_length packet) (with_checksum 0 packet))) 0 packet
    ∙ ap (λ (t : List ℕ). with_checksum (all_ones - ones_sum t) packet) (take_field (header_length packet) 0 packet h)

pub length_sealed : (packet : List ℕ) → length (sealed packet) ≡ length packet
unfolding sealed
length_sealed packet = length_field_lem (checksum_of (header_of packet)) packet
