-- Laws of replies: what an answer or a refusal says of the tests and calls that it came through. Assumes nothing.
use Prim.Native.Nat.{ℕ}
use mathlib.Core.Bool.{Bool, true, false}
use mathlib.Core.Logic.{◌⊎◌, inl, inr}
use mathlib.Core.Path.{◌≡◌, refl, sym, ap, ap₂}
use Rattle.common.proofs.Choice.{clash}
use Rattle.common.specs.Choice.{pick}
use Rattle.std.specs.Prelude.{Result, Ok, Err, IsErr, IsErrAnd}
use Rattle.refusals.specs.declared.Refusal.{Refusal}
use Rattle.refusals.specs.Numbers.{number_of}
use Rattle.refusals.specs.Reply.{Reply, answer, refuse, leaves, done, and_then, Outcome}
use Rattle.refusals.specs.Replies.{told}

-- what a `?` hands up says the refusal that it met
pub handed_up : {A : Type 0} (r : Result A Refusal) (why : Refusal) → IsErr r × IsErrAnd r (λ e. e ≡ why) → told r ≡ refuse (number_of why)
handed_up (Ok a) why h = let e : false ≡ true = h.0 in absurd (clash (cc))
handed_up (Err e) why h = ap (λ (w : Refusal). refuse (number_of w)) h.1

-- an answer came through the test
pub passed : {A : Type 0} (t : Bool) (a : A) (x : Reply A) (n : ℕ) → answer a ≡ pick t x (refuse n) → (t ≡ true) × (answer a ≡ x)
passed true a x n e = (refl, e)
passed false a x n e = absurd (clash (cc))

-- an answer came past the test that refuses
pub let_through : {A : Type 0} (t : Bool) (a : A) (x : Reply A) (n : ℕ) → answer a ≡ pick t (refuse n) x → (t ≡ false) × (answer a ≡ x)
let_through true a x n e = absurd (clash (cc))
let_through false a x n e = (refl, e)

pub same_answer : {A : Type 0} {a b : A} → answer a ≡ answer b → a ≡ b
same_answer e = cc

pub answered : {A : Type 0} (t : Bool) (a b : A) (n : ℕ) → answer a ≡ pick t (answer b) (refuse n) → (t ≡ true) × (a ≡ b)
answered t a b n e = let p = passed t a (answer b) n e in (p.0, same_answer p.1)

-- a refusal came from the test
pub refused : {A : Type 0} (t : Bool) (b : A) (m n : ℕ) → refuse m ≡ pick t (answer b) (refuse n) → (t ≡ false) × (m ≡ n)
refused true b m n e = absurd (clash (cc))
refused false b m n e = (refl, (cc))

-- an answer came through both of two calls
pub through : {A B : Type 0} (r : Reply A) (next : A → Reply B) (b : B) → and_then r next ≡ answer b → (a : A) × (r ≡ answer a) × (next a ≡ answer b)
through (answer a) next b e = (a, refl, e)
through (refuse n) next b e = absurd (clash (cc))

-- a refusal came from the first of two calls, or from the second
pub refused_by : {A B : Type 0} (r : Reply A) (next : A → Reply B) (n : ℕ) → and_then r next ≡ refuse n → (r ≡ refuse n) ⊎ ((a : A) × (r ≡ answer a) × (next a ≡ refuse n))
refused_by (answer a) next n e = inr (a, refl, e)
refused_by (refuse m) next n e = inl (ap refuse (cc))

-- a call that says whether it was done, and leaves a new value or the old one: what its reply was
pub went : {A : Type 0} (old new : A) (r : Reply A) → answer tt ≡ done r → new ≡ leaves old r → r ≡ answer new
went old new (answer a) d e = ap answer (sym e)
went old new (refuse n) d e = absurd (clash (cc))

pub stayed : {A : Type 0} (old new : A) (r : Reply A) (n : ℕ) → refuse n ≡ done r → new ≡ leaves old r → (r ≡ refuse n) × (new ≡ old)
stayed old new (answer a) n d e = absurd (clash (cc))
stayed old new (refuse m) n d e = (ap refuse (cc), e)

-- a refused call leaves what it was given
pub left_as_it_was : {A : Type 0} (old : A) (r : Reply A) (n : ℕ) → done r ≡ refuse n → leaves old r ≡ old
left_as_it_was old (answer a) n e = absurd (clash (cc))
left_as_it_was old (refuse m) n e = refl

-- what a call leaves is the old value, or what it answered
pub left_by : {A : Type 0} (P : A → Type 0) (old : A) (r : Reply A) → P old → ((a : A) → r ≡ answer a → P a) → P (leaves old r)
left_by P old (answer a) p f = f a refl
left_by P old (refuse n) p f = p

pub same_outcome : {A B : Type 0} (o p : Outcome A B) → o.said ≡ p.said → o.left ≡ p.left → o ≡ p
same_outcome {A} {B} o p e f = ap₂ (λ (s : Reply A) (l : B). record { said = s; left = l }) e f

-- what a call says and leaves, by another form of its reply
pub replied : {A : Type 0} (old : A) {x y : Reply A} → x ≡ y → (done x ≡ done y) × (leaves old x ≡ leaves old y)
replied old e = (ap done e, ap (leaves old) e)

-- ---- which refusals a reply can be

module _ (P : ℕ → Type 0) where
  -- no refusal, or one with a number of which P holds
  abbrev pub RefusedBy : {A : Type 0} → Reply A → Type 0
  RefusedBy (answer a) = Unit {0}
  RefusedBy (refuse n) = P n

  pub chosen_by : {A : Type 0} (t : Bool) (x y : Reply A) → RefusedBy x → RefusedBy y → RefusedBy (pick t x y)
  chosen_by true x y f g = f
  chosen_by false x y f g = g

  pub then_by : {A B : Type 0} (r : Reply A) (next : A → Reply B) → RefusedBy r → ((a : A) → RefusedBy (next a)) → RefusedBy (and_then r next)
  then_by (answer a) next f g = g a
  then_by (refuse n) next f g = f
