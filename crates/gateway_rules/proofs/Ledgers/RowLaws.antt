-- Laws of a row of slots: its total, and which slots moving on zeroes. Assumes nothing.
use Prim.Native.Nat.{ℕ, zero, suc, ◌+◌, ◌-◌, ◌%◌, ◌≤◌, ◌<◌}
use mathlib.Core.List.{List, [], ◌∷◌}
use mathlib.Core.Logic.{⊎_elim}
use mathlib.Core.Path.{◌≡◌, refl, sym, ap, subst, ◌∙◌}
use native.Mathlib.Nat.{mod-lt, eq-or-lt_of_le, add-zero}
use native.Mathlib.Omega.{arith}
use lib.ListN.{length, get_or, set, replicate, length-set, length-replicate, get_or-replicate}
use lib.Seq.{get_or-set_same, get_or-set_other, set-get_or, ext_get_or}
use Rattle.common.proofs.Lists.{zero_kept}
use Rattle.common.proofs.Remainders.{reached}
use Rattle.gateway_rules.specs.Ledgers.Rows.{total, slot_of, passed, moved_on, charged}

-- ---- the total

pub total_set : (row : List ℕ) (i a : ℕ) → i < length row → total (set row i a) + get_or row i 0 ≡ total row + a
total_set [] i a h = absurd (omega arith)
total_set (x ∷ row) zero a h = omega arith
total_set (x ∷ row) (suc i) a h = let ih = total_set row i a (omega arith) in omega arith

pub total_zeros : (n : ℕ) → total (replicate n 0) ≡ 0
total_zeros zero = refl
total_zeros (suc n) = let ih = total_zeros n in omega arith

pub slot_lt : (tick : ℕ) (row : List ℕ) → 0 < length row → slot_of tick row < length row
slot_lt tick row h = mod-lt tick h

-- ---- moving on

pub length_passed : (n old : ℕ) (row : List ℕ) → length (passed n old row) ≡ length row
unfolding passed
length_passed zero old row = refl
length_passed (suc n) old row = length-set (passed n old row) _ 0 ∙ length_passed n old row

-- the slot of a tick passed is zeroed, and a slot of none of them stays
pub passed_slot : (n old j : ℕ) (row : List ℕ) → 0 < length row → 1 ≤ j → j ≤ n → get_or (passed n old row) ((old + j) % length row) 0 ≡ 0
unfolding passed
passed_slot zero old j row s l h = absurd (omega arith)
passed_slot (suc n) old j row s l h =
    let long = length_passed n old row in
    ⊎_elim
    (λ (e : j ≡ suc n).
    rw (e, ← long) (get_or-set_same (passed n old row) ((old + suc n) % length (passed n old row)) 0 0 (mod-lt (old + suc n) (omega arith))))
    (λ (k : j < suc n). zero_kept (passed n old row) _ ((old + j) % length row) (passed_slot n old j row s l (omega arith)))
    (eq-or-lt_of_le h)

pub other_slot : (n old i : ℕ) (row : List ℕ) → ((j : ℕ) → 1 ≤ j → j ≤ n → (old + j) % length row ≡ i → ⊥) → get_or (passed n old row) i 0 ≡ get_or row i 0
unfolding passed
other_slot zero old i row f = refl
other_slot (suc n) old i row f =
    get_or-set_other (passed n old row) _ i 0 0 (λ e. f (suc n) (omega arith) (omega arith) (ap (λ (k : ℕ). (old + suc n) % k) (sym (length_passed n old row)) ∙ sym e))
    ∙ other_slot n old i row (λ j l h. f j l (omega arith))

-- as many ticks as there are slots come to every slot
pub passed_all : (n old : ℕ) (row : List ℕ) → length row ≤ n → passed n old row ≡ replicate (length row) 0
passed_all n old row h =
    let long = length_passed n old row in
    ext_get_or 0 (passed n old row) (replicate (length row) 0) (long ∙ sym (length-replicate (length row) 0))
    (λ i l.
    let in_row : i < length row = omega arith in
    let w = reached (length row) old i in_row in
    subst (λ (k : ℕ). get_or (passed n old row) k 0 ≡ 0) w.3 (passed_slot n old w.0 row (omega arith) w.1 (omega (arith, w.2)))
    ∙ sym (get_or-replicate (length row) i 0 0 in_row))

-- more ticks behind those passed
pub passed_more : (n m old : ℕ) (row : List ℕ) → passed m (old + n) (passed n old row) ≡ passed (n + m) old row
unfolding passed
passed_more n zero old row = ap (λ (k : ℕ). passed k old row) {x = n} {y = n + 0} (omega arith)
passed_more n (suc m) old row =
    let e : n + suc m ≡ suc (n + m) = omega arith in
    let f : old + n + suc m ≡ old + suc (n + m) = omega arith in
    rw (e, f, passed_more n m old row)

pub total_passed : (n old : ℕ) (row : List ℕ) → 0 < length row → total (passed n old row) ≤ total row
unfolding passed
total_passed zero old row h = omega arith
total_passed (suc n) old row h =
    let long = length_passed n old row in
    let ih = total_passed n old row h in
    let slot = (old + suc n) % length (passed n old row) in
    let e = total_set (passed n old row) slot 0 (mod-lt (old + suc n) (omega arith)) in
    omega arith

pub length_moved : (old new : ℕ) (row : List ℕ) → length (moved_on old new row) ≡ length row
unfolding moved_on
length_moved old new row = length_passed (new - old) old row

pub total_moved : (old new : ℕ) (row : List ℕ) → 0 < length row → total (moved_on old new row) ≤ total row
unfolding moved_on
total_moved old new row h = total_passed (new - old) old row h

-- ---- charging

pub length_charged : (tick rate : ℕ) (row : List ℕ) → length (charged tick rate row) ≡ length row
unfolding charged
length_charged tick rate row = length-set row (slot_of tick row) _

pub total_charged : (tick rate : ℕ) (row : List ℕ) → 0 < length row → total (charged tick rate row) ≡ total row + rate
unfolding charged
total_charged tick rate row h =
    let slot = slot_of tick row in
    let e = total_set row slot (get_or row slot 0 + rate) (slot_lt tick row h) in
    omega arith

-- charging adds to the slot of its tick, and to no other
pub charged_same : (t rate : ℕ) (row : List ℕ) → 0 < length row → get_or (charged t rate row) (t % length row) 0 ≡ get_or row (t % length row) 0 + rate
unfolding charged
charged_same t rate row h = get_or-set_same row (t % length row) _ 0 (mod-lt t h)

pub charged_other : (t rate slot : ℕ) (row : List ℕ) → (slot ≡ t % length row → ⊥) → get_or (charged t rate row) slot 0 ≡ get_or row slot 0
unfolding charged
charged_other t rate slot row other = get_or-set_other row (t % length row) slot _ 0 other

pub charged_none : (tick : ℕ) (row : List ℕ) → charged tick 0 row ≡ row
unfolding charged
charged_none tick row = ap (λ (a : ℕ). set row (slot_of tick row) a) (add-zero _) ∙ set-get_or row (slot_of tick row) 0
