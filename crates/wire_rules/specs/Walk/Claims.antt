-- What is claimed of the walk beyond its contract: in which areas it finds a Quick-Start option, and where; which have none; and which are
-- faulty. Areas are told here by what they are made of, not by walking them, and types and lengths are the paper's numbers. Assumes
-- nothing.
use Rattle.std.specs.Prelude.{ℕ, suc, ◌+◌, ◌≤◌, ◌<◌, List, [], ◌∷◌, ◌++◌, ◌⊎◌, ◌≡◌, length, get_or}
use Rattle.std.proofs.lemmas.List.Edits.{sets}
use Rattle.refusals.specs.Reply.{Reply, answer, refuse}
use Rattle.std.specs.Prelude.{None, Some}
use Rattle.wire_rules.specs.Walk.Walks.{look, go_on, walk, Place}

-- ---- what areas are made of

-- a well-formed option of another type than 25, and neither an end nor a no-operation: its length byte is its length
pub record Other (option : List ℕ) : Type 0 where
  pub no_end : get_or option 0 0 ≡ 0 → ⊥
  pub no_filler : get_or option 0 0 ≡ 1 → ⊥
  pub no_request : get_or option 0 0 ≡ 25 → ⊥
  pub long : 2 ≤ length option
  pub told : get_or option 1 0 ≡ length option

-- bytes made of no-operations and well-formed options of other types
pub data Skipped : List ℕ → Type 0 where
  none : Skipped []
  filler : (rest : List ℕ) → Skipped rest → Skipped (1 ∷ rest)
  other : (option rest : List ℕ) → Other option → Skipped rest → Skipped (option ++ rest)

-- the area's last byte, or an end with anything behind it
pub data Ended : List ℕ → Type 0 where
  last : Ended []
  end : (behind : List ℕ) → Ended (0 ∷ behind)

-- an area without a fault and without a type 25
pub record Clear (area : List ℕ) : Type 0 where
  pub skipped : List ℕ
  pub rest : List ℕ
  pub whole : area ≡ skipped ++ rest
  pub skips : Skipped skipped
  pub ends : Ended rest

-- a Quick-Start option: 25, 8 and any six bytes
abbrev pub quick_start_option : List ℕ → List ℕ
quick_start_option six = 25 ∷ 8 ∷ six

-- an area without a fault that has a Quick-Start option at an offset and nowhere else
pub record Holds (offset : ℕ) (area : List ℕ) : Type 0 where
  pub before : List ℕ
  pub six : List ℕ
  pub rest : List ℕ
  pub whole : area ≡ before ++ (quick_start_option six ++ rest)
  pub place : length before ≡ offset
  pub full : length six ≡ 6
  pub skips : Skipped before
  pub clear : Clear rest

-- what the walk has passed over without a fault: no Quick-Start option, or one
pub data Passed : List ℕ → Type 0 where
  no_option : (before : List ℕ) → Skipped before → Passed before
  one_option : (before six between : List ℕ) → Skipped before → length six ≡ 6 → Skipped between → Passed (before ++ (quick_start_option six ++ between))

-- an area with a fault, and its number: 3 for a length byte that is missing (it reads as 0), below 2 or above what is left, of a type 25
-- too; 5 for a type 25 whose length is none of these and not 8, or that is a second one
pub data Faulty : ℕ → List ℕ → Type 0 where
  bad_length : (before left : List ℕ) → Passed before → (get_or left 0 0 ≡ 0 → ⊥) → (get_or left 0 0 ≡ 1 → ⊥) → (get_or left 1 0 < 2) ⊎ (length left < get_or left 1 0)
      → Faulty 3 (before ++ left)
  other_length : (before left : List ℕ) → Passed before → get_or left 0 0 ≡ 25 → 2 ≤ get_or left 1 0 → get_or left 1 0 ≤ length left → (get_or left 1 0 ≡ 8 → ⊥)
      → Faulty 5 (before ++ left)
  second : (before six between left : List ℕ) → Skipped before → length six ≡ 6 → Skipped between → get_or left 0 0 ≡ 25 → 2 ≤ get_or left 1 0 → get_or left 1 0 ≤ length left
      → Faulty 5 (before ++ (quick_start_option six ++ (between ++ left)))

-- ---- the claims, of `walk` (Walks.antt) and of any other that would stand in for it

-- whatever a walk yields, the area is made so (sound), and whatever an area is made of, the walk yields it (complete)
pub record Walking (walk : List ℕ → Reply Place) : Type 0 where
  pub sound : (area : List ℕ) (offset : ℕ) → walk area ≡ answer (Some offset) → Holds offset area
  pub complete : (area : List ℕ) (offset : ℕ) → Holds offset area → walk area ≡ answer (Some offset)
  pub none_sound : (area : List ℕ) → walk area ≡ answer None → Clear area
  pub none_complete : (area : List ℕ) → Clear area → walk area ≡ answer None
  pub fault_sound : (area : List ℕ) (n : ℕ) → walk area ≡ refuse n → Faulty n area
  pub fault_complete : (area : List ℕ) (n : ℕ) → Faulty n area → walk area ≡ refuse n
  -- what is found is a type 25 of length 8 that lies wholly in the area
  pub room : (area : List ℕ) (offset : ℕ) → walk area ≡ answer (Some offset)
      → (offset + 8 ≤ length area) × (get_or area offset 0 ≡ 25) × (get_or area (suc offset) 0 ≡ 8)
  -- place and faultlessness stay when the six bytes after the length are overwritten
  pub steady : (area six : List ℕ) (offset : ℕ) → length six ≡ 6 → walk area ≡ answer (Some offset) → walk (sets area (offset + 2) six) ≡ answer (Some offset)

-- ours has them, and whatever walk has them is ours, on every area
abbrev pub WalkingTheorem : Type 0
WalkingTheorem = Walking walk

abbrev pub WalkingOnly : Type 0
WalkingOnly = (other : List ℕ → Reply Place) → Walking other → (area : List ℕ) → other area ≡ walk area

-- two walks that fall short of them: one that answers none always, and one that looks at offset 0 only
abbrev pub none_always : List ℕ → Reply Place
none_always area = answer None

abbrev pub first_only : List ℕ → Reply Place
first_only area = go_on None (look None 0 area) (λ found len. answer found)

pub record ShutOut : Type 0 where
  pub none_always_lem : Walking none_always → ⊥
  pub first_only_lem : Walking first_only → ⊥
