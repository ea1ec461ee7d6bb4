-- A choice by a test, and the test that a number lies in a range. Assumes nothing.
use Rattle.std.specs.Prelude.{ℕ, Bool, true, false, ◌&&◌, leb}

-- the first where the test is true, the second where it is false
abbrev pub pick {ℓ} : {A : Type ℓ} → Bool → A → A → A
pick true a b = a
pick false a b = b

-- n is at least lo and at most hi
unfoldable pub within : ℕ → ℕ → ℕ → Bool
within lo n hi = leb lo n && leb n hi
