-- Laws of a row that is summed slot by slot, and zeroed tick by tick. Assumes nothing.
use Prim.Native.Nat.{ℕ, zero, suc, ◌+◌, ◌-◌, ◌%◌, ◌≤◌, ◌<◌}
use mathlib.Core.List.{List, [], ◌∷◌}
use mathlib.Core.Path.{◌≡◌, ap, sym}
use native.Mathlib.Numerals.{add-one}
use native.Mathlib.Omega.{arith}
use lib.ListN.{length, get_or, set, replicate, drop, drop_of_length-le}
use lib.Seq.{drop-cons}
use Rattle.gateway_rules.specs.Ledgers.Rows.{total, passed}
use Rattle.gateway_rules.proofs.Ledgers.RowLaws.{length_passed, passed_all}

-- ---- the total

pub total_from : (row : List ℕ) (i : ℕ) → i < length row → total (drop i row) ≡ get_or row i 0 + total (drop (i + 1) row)
total_from row i h = rw add-one (ap total (drop-cons row i 0 h))

-- past the last slot there is nothing to add
pub total_end : (row : List ℕ) (i : ℕ) → length row ≤ i → total (drop i row) ≡ 0
total_end row i h = ap total (drop_of_length-le row {i = i} h)

pub slot_most : (row : List ℕ) (i : ℕ) → get_or row i 0 ≤ total row
slot_most [] i = omega arith
slot_most (x ∷ row) zero = omega arith
slot_most (x ∷ row) (suc i) = let ih = slot_most row i in omega arith

-- ---- moving on

-- one tick more
pub passed_next : (old t : ℕ) (row : List ℕ) → old ≤ t → passed (t + 1 - old) old row ≡ set (passed (t - old) old row) ((t + 1) % length row) 0
unfolding passed
passed_next old t row h =
    let e : t + 1 - old ≡ suc (t - old) = omega arith in
    let f : old + suc (t - old) ≡ t + 1 = omega arith in
    rw (e, f, length_passed (t - old) old row)

-- as many ticks as slots
pub passed_whole : (old tick : ℕ) (row : List ℕ) → length row ≤ tick - old → replicate (length row) 0 ≡ passed (tick - old) old row
passed_whole old tick row h = sym (passed_all (tick - old) old row h)
