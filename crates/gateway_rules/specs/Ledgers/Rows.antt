-- A link's row of slots (document 01, "Ledger"): its total, the slot of a tick, and going to a later tick. Assumes nothing.
use Rattle.std.specs.Prelude.{ℕ, zero, suc, ◌+◌, ◌-◌, ◌%◌, List, [], ◌∷◌, length, get_or, set}

-- the row's total
abbrev pub total : List ℕ → ℕ
total [] = 0
total (slot ∷ row) = slot + total row

-- "Slot is tick modulo the row's length."
abbrev pub slot_of : ℕ → List ℕ → ℕ
slot_of tick row = tick % length row

-- the row with the slot of a tick zeroed
abbrev pub cleared : ℕ → List ℕ → List ℕ
cleared tick row = set row (slot_of tick row) 0

-- the slots of the n ticks after `old` zeroed, one tick after the other
unfoldable pub passed : ℕ → ℕ → List ℕ → List ℕ
passed zero old row = row
passed (suc n) old row = cleared (old + suc n) (passed n old row)

-- "Going to a later tick zeroes the slots of the ticks after the old one up to the new."
unfoldable pub moved_on : ℕ → ℕ → List ℕ → List ℕ
moved_on old new row = passed (new - old) old row

-- a rate "is added to the present slot", that of the tick
unfoldable pub charged : ℕ → ℕ → List ℕ → List ℕ
charged tick rate row = set row (slot_of tick row) (get_or row (slot_of tick row) 0 + rate)
