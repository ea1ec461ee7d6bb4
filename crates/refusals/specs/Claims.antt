-- What is claimed of the refusals' numbers, beyond the contract of `Refusal::number`. Assumes nothing.
use Rattle.std.specs.Prelude.{ℕ, ◌≤◌, ◌≡◌}
use Rattle.refusals.specs.declared.Refusal.{Refusal}
use Rattle.refusals.specs.Numbers.{number_of}

-- the numbers are 1 to 15, each the number of exactly one case
pub record Table : Type 0 where
  pub low : (a : Refusal) → 1 ≤ number_of a
  pub high : (a : Refusal) → number_of a ≤ 15
  pub alone : (a b : Refusal) → number_of a ≡ number_of b → a ≡ b
  pub whole : (n : ℕ) → 1 ≤ n → n ≤ 15 → (a : Refusal) × (number_of a ≡ n)
