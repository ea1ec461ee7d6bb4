-- pipeACK by a filter: it is the greatest of the bytes of those samples that are recent. Assumes nothing.
use Prim.Native.Nat.{ℕ, max}
use mathlib.Core.Bool.{Bool, true, false, cond}
use mathlib.Core.List.{List, [], ◌∷◌, map}
use mathlib.Core.Path.{◌≡◌, refl, ap, ◌∙◌}
use native.Mathlib.Omega.{arith}
use Rattle.std.specs.Prelude.{Option, Some}
use Rattle.std.specs.List.{filter, fold, reduce}
use Rattle.common.specs.Choice.{pick}
use Rattle.sender_rules.specs.declared.Sample.{Sample}
use Rattle.sender_rules.specs.Congestion.Phases.{is_recent, greater_of, or_greater, pipe_ack}

-- the greatest of a number and of others, from the front on
joined : (a b : ℕ) (l : List ℕ) → fold max (max a b) l ≡ max a (fold max b l)
joined a b [] = refl
joined a b (n ∷ l) = ap (λ (m : ℕ). fold max m l) {x = max (max a b) n} {y = max a (max b n)} (omega arith) ∙ joined a (max b n) l

front : (n : ℕ) (l : List ℕ) → reduce max (n ∷ l) ≡ Some (greater_of n (reduce max l))
front n [] = refl
front n (m ∷ l) = ap Some (joined n m l)

-- one more sample in front, by whether it is recent
step : (t : Bool) (s : Sample) (rest : List Sample) (o : Option ℕ) → reduce max (map (λ s. s.bytes) rest) ≡ o
    → reduce max (map (λ s. s.bytes) (cond t (s ∷ rest) rest)) ≡ pick t (Some (greater_of s.bytes o)) o
step true s rest o e = front s.bytes (map (λ s. s.bytes) rest) ∙ ap (λ (p : Option ℕ). Some (greater_of s.bytes p)) e
step false s rest o e = e

pub greatest : (limit time : ℕ) (l : List Sample) → reduce max (map (λ s. s.bytes) (filter (is_recent limit time) l)) ≡ pipe_ack limit time l
unfolding pipe_ack or_greater
greatest limit time [] = refl
greatest limit time (s ∷ l) = step (is_recent limit time s) s (filter (is_recent limit time) l) (pipe_ack limit time l) (greatest limit time l)
