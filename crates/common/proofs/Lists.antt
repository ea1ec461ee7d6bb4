-- Laws of lists that know nothing of what the elements mean. Assumes nothing.
use Prim.Native.Nat.{ℕ, zero, suc, ◌+◌, ◌-◌, ◌≤◌, ◌<◌}
use mathlib.Core.Bool.{Bool, true, ◌&&◌}
use mathlib.Core.List.{List, [], ◌∷◌, ◌++◌, append_assoc, map}
use mathlib.Core.Logic.{◌⊎◌, inl, inr}
use mathlib.Core.Path.{◌≡◌, refl, ap, ap₂, sym, ◌∙◌}
use native.Mathlib.Nat.{le_refl, sub-zero, zero-sub, suc-sub-suc}
use native.Mathlib.Omega.{arith}
use lib.Dec.{lit<, ltb}
use borrow.Author.Tests.{ltb-true}
use lib.ListN.{length-map, length, get_or, set, take, drop, replicate, length-append, length-drop, take-append-drop, drop_of_length-le}
use lib.Seq.{set_comm, take-nil, take_all, take-add, take-set-lt, drop-cons, drop_at, drop-set-add, get_or-drop, get_or-set_other, set-get_or, length-take-le, take-append_seam, drop-append-add, sets, sets-eq}
use Rattle.common.specs.Lists.{Bytes}
use Rattle.common.proofs.Choice.{both_true}

-- the k elements of a list from place i on, written out
abbrev pub elements : ℕ → ℕ → List ℕ → List ℕ
elements zero i l = []
elements (suc k) i l = get_or l i 0 ∷ elements k (suc i) l

from : (k i : ℕ) (l : List ℕ) → length l ≡ i + k → drop i l ≡ elements k i l
from zero i l e = drop_of_length-le l {i = i} (omega arith)
from (suc k) i l e = drop-cons l i 0 (omega arith) ∙ ap (λ (t : List ℕ). get_or l i 0 ∷ t) (from k (suc i) l (omega arith))

-- a list of k elements is the list of its elements
pub written_out : (k : ℕ) (l : List ℕ) → length l ≡ k → l ≡ elements k 0 l
written_out k l e = from k 0 l (omega arith)

-- the front of a list without its first elements is the front of the list without them
pub drop-take : (i k : ℕ) (l : List ℕ) → drop i (take k l) ≡ take (k - i) (drop i l)
drop-take zero k l = ap (λ (n : ℕ). take n l) (sym (sub-zero k))
drop-take (suc i) zero l = ap (λ (n : ℕ). take n (drop (suc i) l)) (sym (zero-sub (suc i)))
drop-take (suc i) (suc k) [] = sym (take-nil (suc k - suc i))
drop-take (suc i) (suc k) (x ∷ l) = drop-take i k l ∙ ap (λ (n : ℕ). take n (drop i l)) (sym (suc-sub-suc k i))

-- all that is left of a list from a place on
pub take_rest : (i : ℕ) (l : List ℕ) → take (length l - i) (drop i l) ≡ drop i l
take_rest i l = take_all (length l - i) (drop i l) (rw (length-drop i l) (le_refl (length l - i)))

-- a part that is not empty is its first element and the rest of it
pub part_cons : {A : Type 0} (l : List A) (i n : ℕ) (d : A) → i < n → n ≤ length l → take (n - i) (drop i l) ≡ get_or l i d ∷ take (n - suc i) (drop (suc i) l)
part_cons l i n d h k =
    ap (take (n - i)) (drop-cons l i d (omega arith)) ∙ ap (λ (m : ℕ). take m (get_or l i d ∷ drop (suc i) l)) {x = n - i} {y = suc (n - suc i)} (omega arith)

-- a list is as long as what its elements are made into; of a field that is an array of structs the checker tells the latter's length
pub length_mapped : (X Y : Type 0) (f : X → Y) (l : List X) (n : ℕ) → length (map f l) ≡ n → length l ≡ n
length_mapped X Y f l n e = sym (length-map l f) ∙ e

-- ---- zeros

-- a list of zeros holds 0 at every place and behind it, and stays the same when a 0 is stored
pub zeros_hold : (n i : ℕ) → ◌≡◌ {A = ℕ} (get_or (replicate n 0) i 0) 0
zeros_hold zero i = refl
zeros_hold (suc n) zero = refl
zeros_hold (suc n) (suc i) = zeros_hold n i

pub zeros_stay : (n i : ℕ) → set {A = ℕ} (replicate n 0) i 0 ≡ replicate n 0
zeros_stay zero i = refl
zeros_stay (suc n) zero = refl
zeros_stay (suc n) (suc i) = ap (λ (l : List ℕ). 0 ∷ l) (zeros_stay n i)

-- a 0 that is stored keeps every 0 of any list
pub zero_kept : (l : List ℕ) (i j : ℕ) → get_or l j 0 ≡ 0 → get_or (set l i 0) j 0 ≡ 0
zero_kept [] i j e = e
zero_kept (x ∷ l) zero zero e = refl
zero_kept (x ∷ l) zero (suc j) e = e
zero_kept (x ∷ l) (suc i) zero e = e
zero_kept (x ∷ l) (suc i) (suc j) e = zero_kept l i j e

-- ---- a run of stores

-- the middle of three parts is stored over by as many elements
pub sets_between : (p old q new : List ℕ) → length old ≡ length new → sets (p ++ (old ++ q)) (length p) new ≡ p ++ (new ++ q)
sets_between p old q new e =
    let room : length p + length new ≤ length (p ++ (old ++ q)) = rw (length-append p (old ++ q), length-append old q) (omega arith) in
    sets-eq new (p ++ (old ++ q)) (length p) room
    ∙ ap₂ (λ (a b : List ℕ). a ++ new ++ b) (take-append_seam p (old ++ q)) (drop-append-add p (old ++ q) (length new) ∙ drop_at old q (length new) e)
    ∙ append_assoc p new q

pub set_own : (l : List ℕ) (i a : ℕ) → get_or l i 0 ≡ a → set l i a ≡ l
set_own l i a e = ap (λ (b : ℕ). set l i b) (sym e) ∙ set-get_or l i 0

-- what a list holds, stored in its own place, changes nothing
pub sets_own : (l : List ℕ) (i k : ℕ) → i + k ≤ length l → sets l i (take k (drop i l)) ≡ l
sets_own l i k h =
    let part = take k (drop i l) in
    let long : length part ≡ k = length-take-le k (drop i l) (rw (length-drop i l) (omega arith)) in
    sets-eq part l i (rw long h)
    ∙ ap₂ (λ (a : List ℕ) (n : ℕ). a ++ drop n l) (sym (take-add i k l)) (ap (λ (n : ℕ). i + n) long)
    ∙ take-append-drop (i + k) l

-- what was stored reads back, and every other element stays
pub part_stored : (l : List ℕ) (i : ℕ) (vs : List ℕ) → i + length vs ≤ length l → take (length vs) (drop i (sets l i vs)) ≡ vs
part_stored l i vs h =
    ap (λ (t : List ℕ). take (length vs) (drop i t)) (sets-eq vs l i h ∙ append_assoc (take i l) vs (drop (i + length vs) l))
    ∙ ap (take (length vs)) (drop_at (take i l) (vs ++ drop (i + length vs) l) i (length-take-le i l (omega arith)))
    ∙ take-append_seam vs (drop (i + length vs) l)

pub get_or-sets_other : (l : List ℕ) (i : ℕ) (vs : List ℕ) (j : ℕ) → (j < i) ⊎ (i + length vs ≤ j) → get_or (sets l i vs) j 0 ≡ get_or l j 0
get_or-sets_other l i [] j o = refl
get_or-sets_other l i (v ∷ vs) j o =
    get_or-sets_other (set l i v) (suc i) vs j (further o) ∙ get_or-set_other l i j v 0 (apart o)
  where
    further : (j < i) ⊎ (i + suc (length vs) ≤ j) → (j < suc i) ⊎ (suc i + length vs ≤ j)
    further (inl h) = inl (omega arith)
    further (inr h) = inr (omega arith)

    apart : (j < i) ⊎ (i + suc (length vs) ≤ j) → j ≡ i → ⊥
    apart (inl h) e = omega arith
    apart (inr h) e = omega arith

-- a store before a run of stores may come after it
pub set-sets : (l : List ℕ) (i a : ℕ) (k : ℕ) (vs : List ℕ) → i < k → set (sets l k vs) i a ≡ sets (set l i a) k vs
set-sets l i a k [] h = refl
set-sets l i a k (v ∷ vs) h =
    set-sets (set l k v) i a (suc k) vs (omega arith) ∙ ap (λ (t : List ℕ). sets t (suc k) vs) (set_comm l k i v a (λ e. absurd (omega arith)))

-- a run of stores in a front, and behind one
pub take-sets : (k : ℕ) (l : List ℕ) (i : ℕ) (vs : List ℕ) → i + length vs ≤ k → take k (sets l i vs) ≡ sets (take k l) i vs
take-sets k l i [] h = refl
take-sets k l i (v ∷ vs) h = take-sets k (set l i v) (suc i) vs (omega arith) ∙ ap (λ (t : List ℕ). sets t (suc i) vs) (take-set-lt k l i v (omega arith))

pub drop-sets : (k : ℕ) (l : List ℕ) (i : ℕ) (vs : List ℕ) → drop k (sets l (k + i) vs) ≡ sets (drop k l) i vs
drop-sets k l i [] = refl
drop-sets k l i (v ∷ vs) =
    ap (λ (n : ℕ). drop k (sets (set l (k + i) v) n vs)) {x = suc (k + i)} {y = k + suc i} (omega arith)
    ∙ drop-sets k (set l (k + i) v) (suc i) vs
    ∙ ap (λ (t : List ℕ). sets t (suc i) vs) (drop-set-add k l i v)

-- ---- lists of bytes

-- a byte stored in bytes leaves bytes
pub bytes_set : (l : List ℕ) (i a : ℕ) → a < 256 → Bytes l → Bytes (set l i a)
bytes_set [] i a h b j = b j
bytes_set (x ∷ l) zero a h b zero = h
bytes_set (x ∷ l) zero a h b (suc j) = b (suc j)
bytes_set (x ∷ l) (suc i) a h b zero = b zero
bytes_set (x ∷ l) (suc i) a h b (suc j) = bytes_set l i a h (λ k. b (suc k)) j

-- bytes that are written out
abbrev pub Each : List ℕ → Type 0
Each [] = Unit {0}
Each (a ∷ l) = (a < 256) × Each l

pub bytes_each : (l : List ℕ) → Each l → Bytes l
bytes_each [] e i = lit< tt
bytes_each (a ∷ l) e zero = e.0
bytes_each (a ∷ l) e (suc i) = bytes_each l e.1 i

-- two lists of bytes together
pub bytes_append : (a b : List ℕ) → Bytes a → Bytes b → Bytes (a ++ b)
bytes_append [] b x y i = y i
bytes_append (n ∷ a) b x y zero = x zero
bytes_append (n ∷ a) b x y (suc i) = bytes_append a b (λ j. x (suc j)) y i

-- bytes by one test, for a list of literals
abbrev pub all_bytes : List ℕ → Bool
all_bytes [] = true
all_bytes (a ∷ l) = ltb a 256 && all_bytes l

pub bytes_tested : (l : List ℕ) → all_bytes l ≡ true → Bytes l
bytes_tested [] e i = lit< tt
bytes_tested (a ∷ l) e zero = ltb-true a 256 (both_true (ltb a 256) (all_bytes l) e).0
bytes_tested (a ∷ l) e (suc i) = bytes_tested l (both_true (ltb a 256) (all_bytes l) e).1 i

pub bytes_sets : (l : List ℕ) (i : ℕ) (vs : List ℕ) → Bytes vs → Bytes l → Bytes (sets l i vs)
bytes_sets l i [] v b = b
bytes_sets l i (a ∷ vs) v b = bytes_sets (set l i a) (suc i) vs (λ j. v (suc j)) (bytes_set l i a (v 0) b)

-- the bytes of a part
pub bytes_part : (k i : ℕ) (l : List ℕ) → Bytes l → Bytes (take k (drop i l))
bytes_part k i l b = front k (drop i l) (λ j. rw (get_or-drop i l j 0) (b (i + j)))
  where
    front : (n : ℕ) (m : List ℕ) → Bytes m → Bytes (take n m)
    front zero m c j = lit< tt
    front (suc n) [] c j = lit< tt
    front (suc n) (x ∷ m) c zero = c zero
    front (suc n) (x ∷ m) c (suc j) = front n m (λ q. c (suc q)) j
