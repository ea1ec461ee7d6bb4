-- The walk of an options area (document 01, "Bytes on the wire"). Assumes nothing.
use Rattle.std.specs.Prelude.{ℕ, zero, suc, ◌-◌, Bool, List, [], ◌∷◌, eqb, length}
use Rattle.common.specs.Choice.{pick, within}
use Rattle.refusals.specs.Reply.{Reply, answer, refuse}
use Rattle.wire_rules.specs.Options.Wire.{option_length, kind_in, length_in}
use Rattle.wire_rules.specs.Options.Requests.{request_kind}
use Rattle.std.specs.Prelude.{Option, None, Some}

-- where a Quick-Start option stands, by the offset of its type, if there is one
abbrev pub Place : Type 0
Place = Option ℕ

-- what one option means for the walk: it ends here, it is faulty, or it goes on with what has been found so far, past the option's bytes
pub data Next : Type 0 where
  end : Next
  fault : ℕ → Next
  past : Place → ℕ → Next

-- the two options of a single byte: "Byte 0 ends it, byte 1 is skipped"
abbrev pub end_kind : ℕ
end_kind = 0

abbrev pub no_operation : ℕ
no_operation = 1

-- "any other has a length byte of at least 2 that fits; a missing one is bad". `left` is all that is left of the area, from an option's
-- type on; a length byte that is missing reads as 0
unfoldable pub length_fits : List ℕ → Bool
length_fits left = within 2 (length_in left) (length left)

-- a type 25 at an offset, after what was found before it: "type 25 with a length not 8, or a second type 25 (5)"
abbrev pub quick_start : Place → ℕ → ℕ → Next
quick_start None offset len = pick (eqb len option_length) (past (Some offset) len) (fault 5)
quick_start (Some before) offset len = fault 5

-- "At each option a bad length is tested first (3)"
unfoldable pub look : Place → ℕ → List ℕ → Next
look place offset left =
    pick (eqb (kind_in left) end_kind) end
    (pick (eqb (kind_in left) no_operation) (past place 1)
    (pick (length_fits left)
    (pick (eqb (kind_in left) request_kind) (quick_start place offset (length_in left)) (past place (length_in left)))
    (fault 3)))

abbrev pub go_on : Place → Next → (Place → ℕ → Reply Place) → Reply Place
go_on place end walk = answer place
go_on place (fault n) walk = refuse n
go_on place (past found len) walk = walk found len

-- the walk of what is left of an area from an offset on, when `inside` of its bytes still belong to the option before. "The walk stops at
-- the first end, fault or last byte and yields what it found."
unfoldable pub walk_on : Place → ℕ → ℕ → List ℕ → Reply Place
walk_on place offset inside [] = answer place
walk_on place offset (suc inside) (b ∷ rest) = walk_on place (suc offset) inside rest
walk_on place offset zero (b ∷ rest) = go_on place (look place offset (b ∷ rest)) (λ found len. walk_on found (suc offset) (len - 1) rest)

-- the offset of the area's one Quick-Start option, that there is none, or the fault
abbrev pub walk : List ℕ → Reply Place
walk area = walk_on None 0 0 area
