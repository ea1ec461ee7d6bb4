-- Laws of a number's digits to a base b: digit i of n is n / b ^ i % b, its i lowest digits are n % b ^ i, and the digits above those are n
-- / b ^ i. Assumes nothing.
use Prim.Native.Nat.{ℕ, zero, suc, ◌+◌, ◌-◌, ◌*◌, ◌/◌, ◌%◌, ◌^◌, ◌≤◌, ◌<◌, zero-le}
use mathlib.Core.Path.{◌≡◌, sym, ap, ap₂, subst, ◌∙◌}
use native.Mathlib.Nat.{le_refl, lt_of_lt_of_le, mul_comm, mul-le-mul_left, mod-lt, mod-one, mod-eq_of_lt, pow-zero, pow-suc, pow-succ', pow-le-pow_right, div-div-eq-div-mul}
use native.Mathlib.Omega.{arith}
use lib.Arith.{digits_div, digits_mod, mod-mul}
use lib.Pow.{pow-add}

-- what is left of n by a multiple of c, taken by c again, and divided by c
pub mod_of_multiple : (n : ℕ) {m c : ℕ} → 0 < m → 0 < c → n % (m * c) % c ≡ n % c
mod_of_multiple n {m} {c} hm hc = rw (mod-mul n hm hc) (digits_mod (n / c % m) (mod-lt n hc))

pub mod-div : (n : ℕ) {m c : ℕ} → 0 < m → 0 < c → n % (m * c) / c ≡ n / c % m
mod-div n {m} {c} hm hc = rw (mod-mul n hm hc) (digits_div (n / c % m) (mod-lt n hc))

module _ (b : ℕ) (base : 0 < b) where
  pub power_pos : (i : ℕ) → 0 < b ^ i
  power_pos i = rw pow-zero at (pow-le-pow_right base {i = 0} {j = i} zero-le)

  pub power_split : (i j : ℕ) → i ≤ j → b ^ j ≡ b ^ (j - i) * b ^ i
  power_split i j h = ap (λ (k : ℕ). b ^ k) {x = j} {y = j - i + i} (omega arith) ∙ pow-add b (j - i) i

  -- fewer of the lowest digits
  pub low_low : (n i j : ℕ) → i ≤ j → n % b ^ j % b ^ i ≡ n % b ^ i
  low_low n i j h = rw (power_split i j h) (mod_of_multiple n (power_pos (j - i)) (power_pos i))

  -- the digits from i to j, cut out from above or from below first
  pub low_high : (n i j : ℕ) → i ≤ j → n % b ^ j / b ^ i ≡ n / b ^ i % b ^ (j - i)
  low_high n i j h = rw (power_split i j h) (mod-div n (power_pos (j - i)) (power_pos i))

  -- the digits above i, and of those the ones above j - i more
  pub high_high : (n i j : ℕ) → i ≤ j → n / b ^ i / b ^ (j - i) ≡ n / b ^ j
  high_high n i j h = div-div-eq-div-mul n (b ^ i) (b ^ (j - i)) ∙ ap (λ (k : ℕ). n / k) (mul_comm (b ^ i) (b ^ (j - i)) ∙ sym (power_split i j h))

  -- a digit below j is one of the j lowest
  pub digit_of_low : (n i j : ℕ) → i < j → n % b ^ j / b ^ i % b ≡ n / b ^ i % b
  digit_of_low n i j h =
      let e : b ^ (j - i) ≡ b ^ (j - i - 1) * b = ap (λ (k : ℕ). b ^ k) {x = j - i} {y = suc (j - i - 1)} (omega arith) ∙ pow-suc b (j - i - 1) in
      ap (λ (k : ℕ). k % b) (low_high n i j (omega arith)) ∙ ap (λ (k : ℕ). n / b ^ i % k % b) e ∙ mod_of_multiple (n / b ^ i) (power_pos (j - i - 1)) base

  -- numbers with the same lowest digits have each of those digits in common, and numbers with the same upper digits each of those
  pub digit_same_low : (m n i j : ℕ) → m % b ^ j ≡ n % b ^ j → i < j → m / b ^ i % b ≡ n / b ^ i % b
  digit_same_low m n i j e h = sym (digit_of_low m i j h) ∙ ap (λ (k : ℕ). k / b ^ i % b) e ∙ digit_of_low n i j h

  pub digit_same_high : (m n i j : ℕ) → m / b ^ j ≡ n / b ^ j → j ≤ i → m / b ^ i % b ≡ n / b ^ i % b
  digit_same_high m n i j e h = ap (λ (k : ℕ). k % b) (sym (high_high m j i h) ∙ ap (λ (k : ℕ). k / b ^ (i - j)) e ∙ high_high n j i h)

  -- one more digit
  low_suc : (n i : ℕ) → n % b ^ suc i ≡ (n / b ^ i % b) * b ^ i + n % b ^ i
  low_suc n i = ap (λ (k : ℕ). n % k) (pow-succ' b i) ∙ mod-mul n base (power_pos i)

  -- numbers that have each digit below i in common have the same i lowest digits
  pub digits_same : (m n i : ℕ) → ((j : ℕ) → j < i → m / b ^ j % b ≡ n / b ^ j % b) → m % b ^ i ≡ n % b ^ i
  digits_same m n zero f = simp (pow-zero, mod-one)
  digits_same m n (suc i) f =
      low_suc m i ∙ ap₂ (λ (x y : ℕ). x * b ^ i + y) (f i (le_refl (suc i))) (digits_same m n i (λ j h. f j (omega arith))) ∙ sym (low_suc n i)

  more_digits : (m n i k : ℕ) → m % b ^ i ≡ n % b ^ i → ((j : ℕ) → i ≤ j → m / b ^ j % b ≡ n / b ^ j % b) → m % b ^ (k + i) ≡ n % b ^ (k + i)
  more_digits m n i zero e f = subst (λ (j : ℕ). m % b ^ j ≡ n % b ^ j) {x = i} {y = 0 + i} (omega arith) e
  more_digits m n i (suc k) e f =
      let next : m % b ^ suc (k + i) ≡ n % b ^ suc (k + i) =
      low_suc m (k + i) ∙ ap₂ (λ (x y : ℕ). x * b ^ (k + i) + y) (f (k + i) (omega arith)) (more_digits m n i k e f) ∙ sym (low_suc n (k + i)) in
      subst (λ (j : ℕ). m % b ^ j ≡ n % b ^ j) {x = suc (k + i)} {y = suc k + i} (omega arith) next

pub below_power : (b : ℕ) → 1 < b → (n : ℕ) → n < b ^ n
below_power b h zero = rw pow-zero (le_refl 1)
below_power b h (suc n) =
    let ih : suc n ≤ b ^ n = below_power b h n in
    let twice : b ^ n * 2 ≤ b ^ n * b = mul-le-mul_left (b ^ n) h in
    rw (pow-suc b n) (omega arith)

-- a number is known by its i lowest digits and each digit from i on
pub same_digits : (b : ℕ) → 1 < b → (m n i : ℕ) → m % b ^ i ≡ n % b ^ i → ((j : ℕ) → i ≤ j → m / b ^ j % b ≡ n / b ^ j % b) → m ≡ n
same_digits b h m n i e f =
    let all = m + n in
    let small : (k : ℕ) → k ≤ all → k < b ^ (all + i) = λ k l. lt_of_lt_of_le (below_power b h k) (pow-le-pow_right (omega arith) (omega arith)) in
    sym (mod-eq_of_lt (small m (omega arith))) ∙ more_digits b (omega arith) m n i all e f ∙ mod-eq_of_lt (small n (omega arith))
