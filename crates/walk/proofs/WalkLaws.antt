-- Laws of a walk that is made step by step: at an area's end, at its last byte, at a fault, past an option. Assumes nothing.
use Prim.Native.Nat.{ℕ, suc, ◌+◌, ◌-◌, ◌≤◌, ◌<◌}
use mathlib.Core.Bool.{false}
use mathlib.Core.List.{List}
use mathlib.Core.Path.{◌≡◌, refl, sym, ap, ◌∙◌}
use native.Mathlib.Omega.{arith}
use lib.ListN.{length, take, drop, length-drop, drop_of_length-le, get_or-eq_default}
use lib.Seq.{drop-drop}
use Rattle.refusals.specs.Reply.{answer, refuse}
use Rattle.std.specs.Prelude.{Option, Some, Ok}
use Rattle.common.specs.Choice.{within}
use Rattle.walk.specs.declared.Past.{Past}
use Rattle.walk.specs.Parts.{next_told}
use Rattle.common.proofs.Lists.{take_rest}
use Rattle.wire_rules.specs.Walk.Walks.{Next, end, fault, past, length_fits, look, go_on, walk_on, walk, Place}
use Rattle.wire_rules.proofs.Walk.WalkLaws.{step, past_fits, goes_past}

-- with less than two bytes left no length fits: the length byte is missing, and reads as 0
pub no_room : (left : List ℕ) → length left < 2 → length_fits left ≡ false
unfolding length_fits within
no_room left h = rw (get_or-eq_default left 0 {n = 1} (omega arith)) refl

-- ---- the walk of a whole area, from an offset on: what it yields there is what it yields in all

module _ (area : List ℕ) (place : Place) (at : ℕ) (same : walk_on place at 0 (drop at area) ≡ walk area) where
  pub at_last : length area ≤ at → answer place ≡ walk area
  unfolding walk_on
  at_last h = ap (λ (l : List ℕ). walk_on place at 0 l) (sym (drop_of_length-le area {i = at} h)) ∙ same

  module _ (inner : at < length area) where
    left : 1 ≤ length (drop at area)
    left = rw (length-drop at area) (omega arith)

    pub at_end : end ≡ look place at (drop at area) → answer place ≡ walk area
    at_end e =
        ap (λ (s : Next). go_on place s (λ found len. walk_on found (suc at) (len - 1) (drop 1 (drop at area)))) e
        ∙ sym (step place at (drop at area) left)
        ∙ same

    pub at_fault : (n : ℕ) → fault n ≡ look place at (drop at area) → refuse n ≡ walk area
    at_fault n e =
        ap (λ (s : Next). go_on place s (λ found len. walk_on found (suc at) (len - 1) (drop 1 (drop at area)))) e
        ∙ sym (step place at (drop at area) left)
        ∙ same

    -- what `look` said of the option that is gone past
    pub at_past : (said : Option Past) (option : Past) → said ≡ Some option → next_told (Ok said) ≡ look place at (take (length area - at) (drop at area))
        → (1 ≤ option.length) × (at + option.length ≤ length area) × (walk_on option.place (at + option.length) 0 (drop (at + option.length) area) ≡ walk area)
    at_past said option is e =
        let found = option.place in
        let len = option.length in
        let looked : look place at (drop at area) ≡ past found len = ap (look place at) (sym (take_rest at area)) ∙ sym e ∙ ap (λ (o : Option Past). next_told (Ok o)) is in
        let f = past_fits place found at len (drop at area) left looked in
        let room : len ≤ length area - at = rw (sym (length-drop at area)) f.1 in (
          f.0,
          omega arith,
          ap (λ (l : List ℕ). walk_on found (at + len) 0 l) (sym (drop-drop len at area)) ∙ sym (goes_past place found at len (drop at area) left looked) ∙ same,
        )
