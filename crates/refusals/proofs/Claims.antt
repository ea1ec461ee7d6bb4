-- The claims of specs/Claims.antt. The cases are written as a row in the order of their numbers; reading the row at a number gives the case
-- back. Assumes nothing.
use Prim.Native.Nat.{ℕ, zero, suc, ◌+◌, ◌-◌, ◌<◌}
use mathlib.Core.Path.{◌≡◌, refl, sym, ap, ◌∙◌}
use mathlib.Core.List.{List, [], ◌∷◌}
use native.Mathlib.Omega.{arith}
use lib.Dec.{T, leb, leb→le}
use lib.ListN.{length, get_or}
use Rattle.refusals.specs.declared.Refusal.{Refusal}
use Rattle.refusals.specs.declared.Refusal.TheVariants.{Header, Checksum, OptionLength, NoRequest, QuickStartOption, TtlExpired, OutOfRange, OverAllowance, TimeBackwards, TooSoon, WrongState, NoResponse, WrongRate, WrongTtlDiff, WrongNonce}
use Rattle.refusals.specs.Numbers.{number_of}
use Rattle.refusals.specs.Claims.{Table}

abbrev row : List Refusal
row = Header ∷ Checksum ∷ OptionLength ∷ NoRequest ∷ QuickStartOption ∷ TtlExpired ∷ OutOfRange ∷ OverAllowance ∷ TimeBackwards ∷ TooSoon ∷ WrongState ∷ NoResponse ∷ WrongRate ∷ WrongTtlDiff ∷ WrongNonce ∷ []

abbrev case_of : ℕ → Refusal
case_of n = get_or row (n - 1) Header

-- of each case: the row gives it back, and its number lies in the table
known : (a : Refusal) → (case_of (number_of a) ≡ a) × T (leb 1 (number_of a)) × T (leb (number_of a) 15)
known Header = (refl, tt, tt)
known Checksum = (refl, tt, tt)
known OptionLength = (refl, tt, tt)
known NoRequest = (refl, tt, tt)
known QuickStartOption = (refl, tt, tt)
known TtlExpired = (refl, tt, tt)
known OutOfRange = (refl, tt, tt)
known OverAllowance = (refl, tt, tt)
known TimeBackwards = (refl, tt, tt)
known TooSoon = (refl, tt, tt)
known WrongState = (refl, tt, tt)
known NoResponse = (refl, tt, tt)
known WrongRate = (refl, tt, tt)
known WrongTtlDiff = (refl, tt, tt)
known WrongNonce = (refl, tt, tt)

-- the cases of l are numbered one after the other from k on
data Numbered : ℕ → List Refusal → Type 0 where
  none : {k : ℕ} → Numbered k []
  next : {k : ℕ} {a : Refusal} {l : List Refusal} → number_of a ≡ k → Numbered (suc k) l → Numbered k (a ∷ l)

at : {k : ℕ} {l : List Refusal} → Numbered k l → (i : ℕ) → i < length l → number_of (get_or l i Header) ≡ i + k
at none i h = absurd (omega arith)
at (next e r) zero h = e ∙ omega arith
at (next e r) (suc i) h = at r i (omega arith) ∙ omega arith

row_numbered : Numbered 1 row
row_numbered = next refl (next refl (next refl (next refl (next refl (next refl (next refl (next refl (next refl (next refl (next refl (next refl (next refl (next refl (next refl none))))))))))))))

pub table : Table
table = record {
  low = λ a. leb→le 1 (number_of a) (known a).1;
  high = λ a. leb→le (number_of a) 15 (known a).2;
  alone = λ a b e. sym (known a).0 ∙ ap case_of e ∙ (known b).0;
  whole = λ n l h. (case_of n, at row_numbered (n - 1) (omega arith) ∙ omega arith);
}
