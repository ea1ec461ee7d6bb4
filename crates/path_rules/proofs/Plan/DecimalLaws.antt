-- Numbers in decimal: their digits, how many there are, and that they give the number back. Assumes nothing.
use Prim.Native.Nat.{ℕ, zero, suc, ◌+◌, ◌/◌, ◌%◌, ◌≤◌, ◌<◌}
use mathlib.Core.List.{List, [], ◌∷◌, ◌++◌}
use mathlib.Core.Logic.{◌⊎◌, inl, inr}
use mathlib.Core.Path.{◌≡◌, refl, sym, ap, ap₂, subst, ◌∙◌}
use native.Mathlib.Omega.{arith}
use lib.Dec.{ltb}
use lib.ListN.{length, length-append}
use borrow.Author.Tests.{lt-ltb, le-ltb}
use Rattle.common.proofs.Choice.{by_test, le_or_gt}
use Rattle.path_rules.specs.Plan.Lines.{last_digits, decimal}
use Rattle.path_rules.specs.Plan.Claims.{value_from, Digits, NoZeroFirst}

-- ---- the digits

-- the last digit, and what stands before it
pub digit_last : (k n : ℕ) → n < 10 → last_digits (suc k) n ≡ (48 + n) ∷ []
unfolding last_digits
digit_last k n h = rw (lt-ltb n 10 h) refl

pub digit_more : (k n : ℕ) → 10 ≤ n → last_digits (suc k) n ≡ last_digits k (n / 10) ++ ((48 + n % 10) ∷ [])
unfolding last_digits
digit_more k n h = rw (le-ltb n 10 h) refl

-- the last digit alone
last_one : (n : ℕ) → last_digits 1 n ≡ (48 + n % 10) ∷ []
unfolding last_digits
last_one n = go (le_or_gt 10 n)
  where
    go : (10 ≤ n) ⊎ (n < 10) → last_digits 1 n ≡ (48 + n % 10) ∷ []
    go (inl h) = digit_more 0 n h
    go (inr h) = digit_last 0 n h ∙ ap (λ (d : ℕ). (48 + d) ∷ []) {x = n} {y = n % 10} (omega arith)

-- numbers of two, three and four digits; of a longer one the last four
pub digits_2 : (k n : ℕ) → 10 ≤ n → n < 100 → last_digits (suc (suc k)) n ≡ (48 + n / 10) ∷ (48 + n % 10) ∷ []
digits_2 k n l h = digit_more (suc k) n l ∙ ap (λ (d : List ℕ). d ++ ((48 + n % 10) ∷ [])) (digit_last k (n / 10) (omega arith))

pub digits_3 : (k n : ℕ) → 100 ≤ n → n < 1000 → last_digits (suc (suc (suc k))) n ≡ (48 + n / 100) ∷ (48 + n / 10 % 10) ∷ (48 + n % 10) ∷ []
digits_3 k n l h =
    digit_more (suc (suc k)) n (omega arith)
    ∙ ap (λ (d : List ℕ). d ++ ((48 + n % 10) ∷ [])) (digits_2 k (n / 10) (omega arith) (omega arith))
    ∙ ap (λ (d : ℕ). (48 + d) ∷ (48 + n / 10 % 10) ∷ (48 + n % 10) ∷ []) {x = n / 10 / 10} {y = n / 100} (omega arith)

pub digits_4 : (n : ℕ) → 1000 ≤ n → decimal n ≡ (48 + n / 1000 % 10) ∷ (48 + n / 100 % 10) ∷ (48 + n / 10 % 10) ∷ (48 + n % 10) ∷ []
digits_4 n l =
    let a : n / 10 / 10 / 10 ≡ n / 1000 = omega arith in
    let b : n / 10 / 10 ≡ n / 100 = omega arith in
    digit_more 3 n (omega arith)
    ∙ ap (λ (d : List ℕ). d ++ ((48 + n % 10) ∷ []))
    (digit_more 2 (n / 10) (omega arith)
    ∙ ap (λ (d : List ℕ). d ++ ((48 + n / 10 % 10) ∷ []))
    (digit_more 1 (n / 10 / 10) (omega arith) ∙ ap (λ (d : List ℕ). d ++ ((48 + n / 10 / 10 % 10) ∷ [])) (last_one (n / 10 / 10 / 10))))
    ∙ ap₂ (λ (x y : ℕ). (48 + x % 10) ∷ (48 + y % 10) ∷ (48 + n / 10 % 10) ∷ (48 + n % 10) ∷ []) a b

-- ---- what is claimed of them

-- no more digits than asked for
pub few_digits : (k n : ℕ) → length (last_digits k n) ≤ k
unfolding last_digits
few_digits zero n = omega arith
few_digits (suc k) n =
    by_test
    (λ (l : List ℕ). length l ≤ suc k)
    (ltb n 10)
    (λ e. omega arith)
    (λ e. let h = few_digits k (n / 10) in let long = length-append (last_digits k (n / 10)) ((48 + n % 10) ∷ []) in omega arith)

abbrev Spelt : ℕ → List ℕ → Type 0
Spelt n l = Digits l × NoZeroFirst l × (value_from 0 l ≡ n)

pub digits : (n : ℕ) → n < 10000 → Digits (decimal n) × NoZeroFirst (decimal n) × (value_from 0 (decimal n) ≡ n)
digits n h = go (le_or_gt 10 n) (le_or_gt 100 n) (le_or_gt 1000 n)
  where
    go : (10 ≤ n) ⊎ (n < 10) → (100 ≤ n) ⊎ (n < 100) → (1000 ≤ n) ⊎ (n < 1000) → Spelt n (decimal n)
    go (inr a) b c = subst (Spelt n) (sym (digit_last 3 n a)) ((omega arith, omega arith, tt), tt, omega arith)
    go (inl a) (inr b) c = subst (Spelt n) (sym (digits_2 2 n a b)) ((omega arith, omega arith, (omega arith, omega arith, tt)), (λ e. omega arith), omega arith)
    go (inl a) (inl b) (inr c) =
        subst (Spelt n) (sym (digits_3 1 n b c)) ((omega arith, omega arith, (omega arith, omega arith, (omega arith, omega arith, tt))), (λ e. omega arith), omega arith)
    go (inl a) (inl b) (inl c) =
        let thousands : n / 1000 % 10 ≡ n / 10 / 10 / 10 = omega arith in
        let hundreds : n / 100 % 10 ≡ n / 10 / 10 % 10 = omega arith in
        subst (Spelt n) (sym (digits_4 n c))
        ((omega arith, omega arith, (omega arith, omega arith, (omega arith, omega arith, (omega arith, omega arith, tt)))), (λ e. omega arith), omega arith)

-- so two numbers with the same digits are the same
pub same_number : (a b : ℕ) → a < 10000 → b < 10000 → decimal a ≡ decimal b → a ≡ b
same_number a b h k e = sym (digits a h).2 ∙ ap (value_from 0) e ∙ (digits b k).2
