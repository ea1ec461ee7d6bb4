-- Laws of the walk: how an option reads in its area, how the walk goes past an option, and what it does with the bytes that it skips.
-- Assumes nothing.
use Prim.Native.Nat.{ℕ, zero, suc, ◌+◌, ◌-◌, ◌≤◌, ◌<◌}
use mathlib.Core.Bool.{Bool, true, false}
use mathlib.Core.List.{List, [], ◌∷◌}
use mathlib.Core.Logic.{◌⊎◌, inl, inr}
use mathlib.Core.Path.{◌≡◌, refl, sym, ap, ap₂, subst, ◌∙◌}
use native.Mathlib.Nat.{add-zero}
use native.Mathlib.Omega.{arith}
use borrow.Author.Tests.{eq-eqb, ne_eqb, eqb-true, eqb-false}
use lib.Dec.{eqb}
use lib.ListN.{length, drop}
use lib.Seq.{drop-drop}
use Rattle.common.proofs.Choice.{clash, le_or_gt, within_low, within_high, in_within}
use Rattle.wire_rules.specs.Options.Wire.{option_length, kind_in, length_in}
use Rattle.wire_rules.specs.Options.Requests.{request_kind}
use Rattle.std.specs.Prelude.{None, Some}
use Rattle.wire_rules.specs.Walk.Walks.{Next, end, fault, past, end_kind, no_operation, length_fits, look, go_on, walk_on, Place}

-- ---- what the walk makes of an option, by its type and its length

module _ (place : Place) (offset : ℕ) (left : List ℕ) where
  pub reads_end : kind_in left ≡ end_kind → look place offset left ≡ end
  unfolding look
  reads_end k = simp (eq-eqb _ _ k)

  pub reads_filler : kind_in left ≡ no_operation → look place offset left ≡ past place 1
  unfolding look
  reads_filler k = simp k

  pub reads_bad : (kind_in left ≡ end_kind → ⊥) → (kind_in left ≡ no_operation → ⊥) → length_fits left ≡ false → look place offset left ≡ fault 3
  unfolding look
  reads_bad a b f = simp (ne_eqb _ _ a, ne_eqb _ _ b, f)

  pub reads_other : (kind_in left ≡ end_kind → ⊥) → (kind_in left ≡ no_operation → ⊥) → (kind_in left ≡ request_kind → ⊥) → length_fits left ≡ true
      → look place offset left ≡ past place (length_in left)
  unfolding look
  reads_other a b c f = simp (ne_eqb _ _ a, ne_eqb _ _ b, ne_eqb _ _ c, f)

  pub reads_first : place ≡ None → kind_in left ≡ request_kind → length_fits left ≡ true → length_in left ≡ option_length → look place offset left ≡ past (Some offset) (length_in left)
  unfolding look
  reads_first p k f l = simp (p, k, f, l)

  pub reads_second : (i : ℕ) → place ≡ Some i → kind_in left ≡ request_kind → length_fits left ≡ true → look place offset left ≡ fault 5
  unfolding look
  reads_second i p k f = simp (p, k, f)

-- a type 25 of another length, whatever was found before it
pub reads_wrong : (place : Place) (offset : ℕ) (left : List ℕ) → kind_in left ≡ request_kind → length_fits left ≡ true → (length_in left ≡ option_length → ⊥)
    → look place offset left ≡ fault 5
unfolding look
reads_wrong None offset left k f n = simp (k, f, ne_eqb (length_in left) option_length n)
reads_wrong (Some i) offset left k f n = simp (k, f)

-- what is proved of every way that an option can be read holds of its reading
pub looks : (P : Next → Type 0) (place : Place) (offset : ℕ) (left : List ℕ)
    → (kind_in left ≡ end_kind → P end)
    → (kind_in left ≡ no_operation → P (past place 1))
    → ((kind_in left ≡ end_kind → ⊥) → (kind_in left ≡ no_operation → ⊥) → length_fits left ≡ false → P (fault 3))
    → (kind_in left ≡ request_kind → length_fits left ≡ true → (length_in left ≡ option_length → ⊥) ⊎ ((i : ℕ) × (place ≡ Some i)) → P (fault 5))
    → (place ≡ None → kind_in left ≡ request_kind → length_in left ≡ option_length → length_fits left ≡ true → P (past (Some offset) (length_in left)))
    → ((kind_in left ≡ end_kind → ⊥) → (kind_in left ≡ no_operation → ⊥) → (kind_in left ≡ request_kind → ⊥) → length_fits left ≡ true → P (past place (length_in left)))
    → P (look place offset left)
looks P place offset left e n f q s o = by_kind (eqb kind end_kind) (eqb kind no_operation) (eqb kind request_kind) refl refl refl
  where
    kind : ℕ
    kind = kind_in left

    reads : (x : Next) → look place offset left ≡ x → P x → P (look place offset left)
    reads x l p = subst P (sym l) p

    by_place : (before : Place) → place ≡ before → kind_in left ≡ request_kind → length_fits left ≡ true → (t : Bool) → eqb (length_in left) option_length ≡ t → P (look place offset left)
    by_place (Some i) p k fits t x = reads (fault 5) (reads_second place offset left i p k fits) (q k fits (inr (i, p)))
    by_place None p k fits true x =
        let l = eqb-true (length_in left) option_length x in
        reads (past (Some offset) (length_in left)) (reads_first place offset left p k fits l) (s p k l fits)
    by_place None p k fits false x =
        let l = eqb-false (length_in left) option_length x in
        reads (fault 5) (reads_wrong place offset left k fits l) (q k fits (inl l))

    by_length : (kind_in left ≡ end_kind → ⊥) → (kind_in left ≡ no_operation → ⊥) → (t fits : Bool) → eqb (kind_in left) request_kind ≡ t → length_fits left ≡ fits → P (look place offset left)
    by_length a b t false y x = reads (fault 3) (reads_bad place offset left a b x) (f a b x)
    by_length a b true true y x = by_place place refl (eqb-true (kind_in left) request_kind y) x (eqb (length_in left) option_length) refl
    by_length a b false true y x = let c = eqb-false (kind_in left) request_kind y in reads (past place (length_in left)) (reads_other place offset left a b c x) (o a b c x)

    by_kind : (t u v : Bool) → eqb (kind_in left) end_kind ≡ t → eqb (kind_in left) no_operation ≡ u → eqb (kind_in left) request_kind ≡ v → P (look place offset left)
    by_kind true u v x y z = let k = eqb-true (kind_in left) end_kind x in reads end (reads_end place offset left k) (e k)
    by_kind false true v x y z = let k = eqb-true (kind_in left) no_operation y in reads (past place 1) (reads_filler place offset left k) (n k)
    by_kind false false v x y z =
        by_length (eqb-false (kind_in left) end_kind x) (eqb-false (kind_in left) no_operation y) v (length_fits left) z refl

pub same_past : {p q : Place} {m n : ℕ} → past p m ≡ past q n → (p ≡ q) × (m ≡ n)
same_past e = ((cc), (cc))

pub fits_low : (option : List ℕ) → length_fits option ≡ true → 2 ≤ length_in option
unfolding length_fits
fits_low option e = within_low 2 (length_in option) (length option) e

pub fits_high : (option : List ℕ) → length_fits option ≡ true → length_in option ≤ length option
unfolding length_fits
fits_high option e = within_high 2 (length_in option) (length option) e

pub in_fit : (left : List ℕ) → 2 ≤ length_in left → length_in left ≤ length left → length_fits left ≡ true
unfolding length_fits
in_fit left l h = in_within 2 (length_in left) (length left) l h

pub no_fit : (left : List ℕ) → (length_in left < 2) ⊎ (length left < length_in left) → length_fits left ≡ false
no_fit left o = go (length_fits left) refl o
  where
    go : (t : Bool) → length_fits left ≡ t → (length_in left < 2) ⊎ (length left < length_in left) → length_fits left ≡ false
    go false e o = e
    go true e (inl h) = absurd (omega (arith, fits_low left e))
    go true e (inr h) = absurd (omega (arith, fits_high left e))

pub fit_fails : (left : List ℕ) → length_fits left ≡ false → (length_in left < 2) ⊎ (length left < length_in left)
fit_fails left e = go (le_or_gt 2 (length_in left)) (le_or_gt (length_in left) (length left))
  where
    go : (2 ≤ length_in left) ⊎ (length_in left < 2) → (length_in left ≤ length left) ⊎ (length left < length_in left) → (length_in left < 2) ⊎ (length left < length_in left)
    go (inr l) o = inl l
    go (inl l) (inr h) = inr h
    go (inl l) (inl h) = let z : true ≡ false = sym (in_fit left l h) ∙ e in absurd (clash (cc))

-- an option that the walk goes past has at least one byte, and lies in the area
pub past_fits : (place found : Place) (offset len : ℕ) (option : List ℕ) → 1 ≤ length option → look place offset option ≡ past found len
    → (1 ≤ len) × (len ≤ length option)
past_fits place found offset len option h =
    looks (λ (s : Next). s ≡ past found len → (1 ≤ len) × (len ≤ length option)) place offset option
    (λ k e. absurd (clash (cc)))
    (λ k e. let s : 1 ≡ len = (same_past e).1 in (omega arith, omega arith))
    (λ a b f e. absurd (clash (cc)))
    (λ k f o e. absurd (clash (cc)))
    (λ p k l f e. let s : length_in option ≡ len = (same_past e).1 in (omega (arith, fits_low option f), omega (arith, fits_high option f)))
    (λ a b d f e. let s : length_in option ≡ len = (same_past e).1 in (omega (arith, fits_low option f), omega (arith, fits_high option f)))

-- ---- how the walk goes on

-- past the bytes that are still inside an option
pub inside_of : (place : Place) (offset inside : ℕ) (bytes : List ℕ) → walk_on place offset inside bytes ≡ walk_on place (offset + inside) 0 (drop inside bytes)
unfolding walk_on
inside_of place offset zero bytes = ap (λ (k : ℕ). walk_on place k 0 bytes) (sym (add-zero offset))
inside_of place offset (suc inside) [] = refl
inside_of place offset (suc inside) (b ∷ rest) =
    inside_of place (suc offset) inside rest ∙ ap (λ (k : ℕ). walk_on place k 0 (drop inside rest)) {x = suc offset + inside} {y = offset + suc inside} (omega arith)

-- one option further
pub step : (place : Place) (offset : ℕ) (bytes : List ℕ) → 1 ≤ length bytes
    → walk_on place offset 0 bytes ≡ go_on place (look place offset bytes) (λ found len. walk_on found (suc offset) (len - 1) (drop 1 bytes))
unfolding walk_on
step place offset [] h = absurd (omega arith)
step place offset (b ∷ rest) h = refl

pub goes_past : (place found : Place) (offset len : ℕ) (bytes : List ℕ) → 1 ≤ length bytes → look place offset bytes ≡ past found len
    → walk_on place offset 0 bytes ≡ walk_on found (offset + len) 0 (drop len bytes)
goes_past place found offset len bytes h e =
    let f = past_fits place found offset len bytes h e in
    step place offset bytes h
    ∙ ap (λ (s : Next). go_on place s (λ found len. walk_on found (suc offset) (len - 1) (drop 1 bytes))) e
    ∙ inside_of found (suc offset) (len - 1) (drop 1 bytes)
    ∙ ap (λ (l : List ℕ). walk_on found (suc offset + (len - 1)) 0 l) (drop-drop (len - 1) 1 bytes)
    ∙ ap₂ (λ (k n : ℕ). walk_on found k 0 (drop n bytes)) {x = suc offset + (len - 1)} {y = offset + len} {u = 1 + (len - 1)} {v = len} (omega arith) (omega arith)
