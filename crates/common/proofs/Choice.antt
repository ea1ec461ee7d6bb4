-- Laws of choices by a test: how to prove something of a choice, and how a choice that equals a value is read. Assumes nothing.
use Prim.Native.Nat.{ℕ, ◌≤◌, ◌<◌}
use mathlib.Core.Bool.{Bool, true, false, not, ◌&&◌}
use mathlib.Core.Logic.{◌⊎◌, inl, inr}
use mathlib.Core.Path.{◌≡◌, refl, sym, ◌∙◌}
use native.Mathlib.Omega.{arith}
use lib.Dec.{leb, ltb}
use borrow.Author.Tests.{lt-ltb, le-ltb, le-leb, lt-leb, eq-eqb, ne_eqb, leb-true, leb-false, ltb-true, ltb-false, not-true, not-false}
use Rattle.common.specs.Choice.{pick, within}

-- `search tests` closes a return whose contract chooses by the very tests that led there
pub ruleset tests = (lt-ltb, le-ltb, le-leb, lt-leb, eq-eqb, ne_eqb)

-- what is proved of both ways holds of the choice, and each way may use how the test fell
pub by_test : {A : Type 0} (P : A → Type 0) (t : Bool) {x y : A} → (t ≡ true → P x) → (t ≡ false → P y) → P (pick t x y)
by_test P true f g = f refl
by_test P false f g = g refl

module _ {A : Type 0} (P : A → Type 0) (a b : ℕ) {x y : A} where
  pub by_leb : (a ≤ b → P x) → (b < a → P y) → P (pick (leb a b) x y)
  by_leb f g = by_test P (leb a b) (λ e. f (leb-true a b e)) (λ e. g (leb-false a b e))

  pub by_ltb : (a < b → P x) → (b ≤ a → P y) → P (pick (ltb a b) x y)
  by_ltb f g = by_test P (ltb a b) (λ e. f (ltb-true a b e)) (λ e. g (ltb-false a b e))

-- a call whose answer r is the test t: what is known of the test past `if !r { return .. }`, and in its arm
pub held : (r t : Bool) → r ≡ t → not r ≡ false → t ≡ true
held r t e n = sym e ∙ not-false r n

pub failed : (r t : Bool) → r ≡ t → not r ≡ true → t ≡ false
failed r t e n = sym e ∙ not-true r n

-- two constructors are never equal: an equation of theirs makes 0 and 1 equal, which `cc` finds
pub clash : ◌≡◌ {A = ℕ} 0 1 → ⊥
clash e = omega arith

-- a choice whose test is true
pub chosen : {A : Type 0} (t : Bool) (x y : A) → t ≡ true → pick t x y ≡ x
chosen true x y e = refl
chosen false x y e = absurd (clash (cc))

-- ---- how a test falls

-- a test does not fall both ways
pub not_both : (t : Bool) → t ≡ true → t ≡ false → ⊥
not_both t e f = clash (cc)

-- a test that cannot be true is false
pub untrue : (t : Bool) → (t ≡ true → ⊥) → t ≡ false
untrue true f = absurd (f refl)
untrue false f = refl

-- what a true test gives, or the test is false
pub tested : {P : Type 0} (t : Bool) → (t ≡ true → P) → P ⊎ (t ≡ false)
tested true f = inl (f refl)
tested false f = inr refl

-- what a test tells holds, or does not hold
pub either : {P : Type 0} (t : Bool) → (t ≡ true → P) → (P → t ≡ true) → P ⊎ (P → ⊥)
either true f g = inl (f refl)
either false f g = inr (λ p. not_both false (g p) refl)

-- one number is at most another, or above it
pub le_or_gt : (a b : ℕ) → (a ≤ b) ⊎ (b < a)
le_or_gt a b = go (leb a b) refl
  where
    go : (t : Bool) → leb a b ≡ t → (a ≤ b) ⊎ (b < a)
    go true e = inl (leb-true a b e)
    go false e = inr (leb-false a b e)

-- ---- tests joined, and ranges

pub both_true : (s t : Bool) → s && t ≡ true → (s ≡ true) × (t ≡ true)
both_true true t e = (refl, e)
both_true false t e = (e, (cc))

pub within_low : (lo n hi : ℕ) → within lo n hi ≡ true → lo ≤ n
unfolding within
within_low lo n hi e = leb-true lo n (both_true (leb lo n) (leb n hi) e).0

pub within_high : (lo n hi : ℕ) → within lo n hi ≡ true → n ≤ hi
unfolding within
within_high lo n hi e = leb-true n hi (both_true (leb lo n) (leb n hi) e).1

pub not_within : (lo n hi : ℕ) → ((lo ≤ n) × (n ≤ hi) → ⊥) → within lo n hi ≡ false
not_within lo n hi f = untrue (within lo n hi) (λ e. f (within_low lo n hi e, within_high lo n hi e))

pub in_within : (lo n hi : ℕ) → lo ≤ n → n ≤ hi → within lo n hi ≡ true
unfolding within
in_within lo n hi l h = simp (le-leb lo n l, le-leb n hi h)
