-- Laws of rounding by leading zeros, and of rounding up by rounding down. Assumes nothing.
use Prim.Native.Nat.{ℕ, zero, suc, ◌-◌, ◌*◌, ◌/◌, ◌^◌, ◌≤◌, ◌<◌, min, zero-le}
use mathlib.Core.Logic.{⊎_elim}
use mathlib.Core.Path.{◌≡◌, refl, ap, subst, ◌∙◌}
use borrow.Author.Tests.{le-leb}
use native.Mathlib.Nat.{le_refl, le_trans, lt_irrefl, lt_of_le_of_lt, lt_of_not-le, eq-zero-or-pos, div-le_self, mul-le-mul_left, le-div_iff_mul-le, div-lt_iff_lt-mul, min-le_left, min-le_right}
use native.Mathlib.Omega.{arith}
use lib.Count.{count_leading_zeros, leading_top}
use lib.Dec.{lit<}
use lib.Pow.{pow_pos, pow_mono}
use Rattle.common.proofs.Choice.{le_or_gt}
use Rattle.refusals.specs.Reply.{answer}
use Rattle.wire_rules.specs.Rates.Steps.{top_code, rate_of, rounded_down, rounded_up, rounded_up_reply}
use Rattle.wire_rules.proofs.Rates.StepLaws.{rate_mono, rate_from, down_rule, down_only, least_only, up_rule}

-- ---- rates

-- the steps' own bound, at code 0 too
rate_under : (c : ℕ) → rate_of c ≤ 40000 * 2 ^ c
unfolding rate_of
rate_under zero = zero-le
rate_under (suc c) = le_refl (40000 * 2 ^ suc c)

-- ---- rounding down

-- the place j of the highest set digit of bits / 40,000 is the code, up to the highest
pub down_by_digit : (bits j : ℕ) → 2 ^ j ≤ bits / 40000 → bits / 40000 < 2 ^ suc j → min top_code j ≡ rounded_down bits
down_by_digit bits j lo hi =
    let low : 2 ^ j * 40000 ≤ bits = (le-div_iff_mul-le {k = 40000} (lit< tt)).0 lo in
    let high : bits < 2 ^ suc j * 40000 = (div-lt_iff_lt-mul {k = 40000} (lit< tt)).0 hi in
    down_only bits (min top_code j) record {
      up_to = min-le_left top_code j;
      fits = le_trans (rate_under (min top_code j)) (le_trans (mul-le-mul_left 40000 (pow_mono (min-le_right top_code j))) (omega arith));
      greatest = λ d l f. ⊎_elim
          (λ (below : d ≤ j). omega arith)
          (λ (above : j < d).
          let r : rate_of d ≡ 40000 * 2 ^ d = rate_from d (omega arith) in
          let m : 40000 * 2 ^ suc j ≤ 40000 * 2 ^ d = mul-le-mul_left 40000 (pow_mono above) in
          absurd (omega arith))
          (le_or_gt d j);
    }

pub down_none : (bits : ℕ) → bits / 40000 ≡ 0 → 0 ≡ rounded_down bits
unfolding rate_of
down_none bits e = down_only bits 0 record {
  up_to = zero-le;
  fits = zero-le;
  greatest = λ d l f.
      ⊎_elim
      (λ (none : d ≤ 0). none)
      (λ (some : 0 < d).
      let r : rate_of d ≡ 40000 * 2 ^ d = rate_from d some in
      let p : 0 < 2 ^ d = pow_pos d in
      absurd (omega arith))
      (le_or_gt d 0);
}

-- the same by the count of leading zeros, which is at most 63 where bits / 40,000 is not 0
pub down_by_zeros : (bits : ℕ) → bits < 2 ^ 64 → (bits / 40000 ≡ 0 → ⊥) → (count_leading_zeros 64 (bits / 40000) ≤ 63) × (min top_code (63 - count_leading_zeros 64 (bits / 40000)) ≡ rounded_down bits)
down_by_zeros bits fits some =
    let positive : 0 < bits / 40000 = ⊎_elim (λ e. absurd (some e)) (λ h. h) (eq-zero-or-pos (bits / 40000)) in
    let t = leading_top 64 (bits / 40000) positive (lt_of_le_of_lt (div-le_self bits 40000) fits) in
    let e : t.0 ≡ 63 - count_leading_zeros 64 (bits / 40000) = omega (arith, t.1) in
    (omega (arith, t.1), subst (λ (j : ℕ). min top_code j ≡ rounded_down bits) e (down_by_digit bits t.0 t.2 t.3))

-- ---- rounding up

-- one more than the code rounded down from just below the wish
pub up_by_down : (w : ℕ) → min top_code (suc (rounded_down w)) ≡ rounded_up (suc w)
up_by_down w =
    let down = down_rule w in
    least_only record {
      up_to = min-le_left top_code (suc (rounded_down w));
      enough = λ l. ⊎_elim
          (λ (k : suc (rounded_down w) ≤ top_code). subst (λ (m : ℕ). w < rate_of m) (omega arith) (lt_of_not-le (λ f. lt_irrefl _ (down.greatest (suc (rounded_down w)) k f))))
          (λ k. subst (λ (m : ℕ). w < rate_of m) (omega arith) l)
          (le_or_gt (suc (rounded_down w)) top_code);
      least = λ d k f. ⊎_elim
          (λ (l : d ≤ rounded_down w). absurd (lt_irrefl _ (le_trans f (le_trans (rate_mono _ _ l) down.fits))))
          (λ l. omega arith)
          (le_or_gt d (rounded_down w));
      top = λ g. let k : top_code ≤ rounded_down w = down.greatest top_code (le_refl top_code) (omega arith) in omega arith;
    } (up_rule (suc w) (omega arith))

-- the reply for a wish above 0, from the code rounded down from just below it
pub up_answer : (wish below code : ℕ) → (wish ≡ 0 → ⊥) → below ≡ rounded_down (wish - 1) → code ≡ min top_code (suc below) → answer code ≡ rounded_up_reply wish
up_answer zero below code some e m = absurd (some refl)
up_answer (suc w) below code some e m =
    let same : code ≡ rounded_up (suc w) = m ∙ ap (λ (k : ℕ). min top_code (suc k)) (e ∙ ap rounded_down (omega arith)) ∙ up_by_down w in
    simp (le-leb 1 (suc w) (omega arith)) (ap answer same)
