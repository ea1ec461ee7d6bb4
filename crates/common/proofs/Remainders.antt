-- Laws of remainders: which of the numbers in a row share one. Assumes nothing.
use Prim.Native.Nat.{ℕ, ◌+◌, ◌-◌, ◌*◌, ◌/◌, ◌%◌, ◌≤◌, ◌<◌}
use mathlib.Core.Logic.{⊎_elim}
use mathlib.Core.Path.{◌≡◌, ap, ◌∙◌}
use native.Mathlib.Nat.{div-add-mod', mul-le-mul_right, mod-lt, add-mod_right}
use native.Mathlib.Omega.{arith}
use lib.Arith.{digits_mod}
use Rattle.common.proofs.Choice.{le_or_gt}

-- two numbers less than n apart have different remainders
pub apart : (n a b : ℕ) → a < b → b < a + n → a % n ≡ b % n → ⊥
apart n a b l h e =
    ⊎_elim
    (λ (p : b / n ≤ a / n). omega (arith, mul-le-mul_right n p, div-add-mod' a n, div-add-mod' b n))
    (λ (p : a / n < b / n). omega (arith, mul-le-mul_right n p, div-add-mod' a n, div-add-mod' b n))
    (le_or_gt (b / n) (a / n))

-- the n numbers after a have every remainder
pub reached : (n a r : ℕ) → r < n → (j : ℕ) × (1 ≤ j) × (j ≤ n) × ((a + j) % n ≡ r)
reached n a r h =
    let q = a / n in
    let own = a % n in
    let d : q * n + own ≡ a = div-add-mod' a n in
    let m : own < n = mod-lt a (omega arith) in
    ⊎_elim
    (λ (l : r ≤ own). (
      n - own + r,
      omega arith,
      omega arith,
      ap (λ (k : ℕ). k % n) {x = a + (n - own + r)} {y = q * n + r + n} (omega arith) ∙ add-mod_right (q * n + r) n ∙ digits_mod q h,
    ))
    (λ (g : own < r). (r - own, omega arith, omega arith, ap (λ (k : ℕ). k % n) {x = a + (r - own)} {y = q * n + r} (omega arith) ∙ digits_mod q h))
    (le_or_gt r own)
