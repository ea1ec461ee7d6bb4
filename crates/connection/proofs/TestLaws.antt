-- Tests that say the same, so that one answers for the other. Assumes nothing.
use Prim.Native.Nat.{ℕ, suc, ◌+◌, ◌-◌, ◌^◌, ◌≤◌, ◌<◌}
use mathlib.Core.Logic.{⊎_elim}
use mathlib.Core.Path.{◌≡◌, sym, ◌∙◌}
use native.Mathlib.Omega.{arith}
use lib.Dec.{leb, ltb}
use borrow.Author.Tests.{le-leb, lt-leb}
use Rattle.common.proofs.Choice.{le_or_gt}

same : (a b m n : ℕ) → (a ≤ b → m ≤ n) → (b < a → n < m) → leb a b ≡ leb m n
same a b m n f g = ⊎_elim (λ h. le-leb a b h ∙ sym (le-leb m n (f h))) (λ h. lt-leb a b h ∙ sym (lt-leb m n (g h))) (le_or_gt a b)

-- a difference against a limit, and the sum
pub sub_within : (a b n : ℕ) → leb (a - b) n ≡ leb a (b + n)
sub_within a b n = same (a - b) n a (b + n) (λ h. omega arith) (λ h. omega arith)

pub sub_beyond : (a b n : ℕ) → ltb n (a - b) ≡ ltb (b + n) a
sub_beyond a b n = same (suc n) (a - b) (suc (b + n)) a (λ h. omega arith) (λ h. omega arith)

-- below half of the sequence numbers, and at most the greatest of those
pub below_half : (r : ℕ) → ltb r (2 ^ 31) ≡ leb r (2 ^ 31 - 1)
below_half r = same (suc r) (2 ^ 31) r (2 ^ 31 - 1) (λ h. omega arith) (λ h. omega arith)
