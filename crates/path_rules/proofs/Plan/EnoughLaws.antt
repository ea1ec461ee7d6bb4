-- How long a run is, how far into an input it can break, and that what stands behind takes no part: the claim Enough. Assumes nothing.
use Prim.Native.Nat.{ℕ, zero, suc, ◌+◌, ◌-◌, ◌*◌, ◌≤◌}
use mathlib.Core.List.{List, [], ◌∷◌, ◌++◌, append_assoc}
use mathlib.Core.Logic.{◌⊎◌, inl, inr}
use mathlib.Core.Path.{◌≡◌, refl, sym, ap, ◌∙◌}
use native.Mathlib.Omega.{arith}
use lib.ListN.{length, take, drop, length-append, take-append-drop}
use lib.Seq.{take_all, take-append-add}
use Rattle.path_rules.proofs.Hops.SpellLaws.{spelt_length}
use Rattle.path_rules.specs.Plan.Records.{Plan, Reading, good, bad, read_plan}
use Rattle.path_rules.specs.Plan.Lines.{line_for}
use Rattle.path_rules.specs.Plan.Claims.{SpellsFront, SpellsRun, NoRouter, Breaks, at_request, at_hop, at_end, BadAt, Enough}
use Rattle.path_rules.proofs.Plan.FormatLaws.{only, breaks, only_breaks}

-- ---- lengths

front_length : (limit : ℕ) (p : Plan) (front : List ℕ) → SpellsFront limit p front → length front ≤ 6 * limit + 8
front_length limit p front f =
    let request = ap length f.request_is.bytes_are in
    let row = spelt_length p.routers f.row f.row_is in
    let few = f.few in
    let long = ap length f.whole ∙ length-append f.request f.row in
    omega arith

run_length : (limit : ℕ) (p : Plan) (bytes : List ℕ) → SpellsRun limit p bytes → length bytes ≤ 6 * limit + 10
run_length limit p bytes s =
    let front = front_length limit p s.front s.front_is in
    let receiver = ap length s.receiver_is.bytes_are in
    let long = ap length s.whole ∙ length-append s.front s.receiver in
    omega arith

break_length : (limit : ℕ) (front rest : List ℕ) → Breaks limit front rest → length front ≤ 6 * limit + 10
break_length limit front rest (at_request _ f) = omega arith
break_length limit front rest (at_hop p _ _ s f end) = let h = front_length limit p front s in omega arith
break_length limit front rest (at_end p _ _ s f) = run_length limit p front s

pub longest : (limit : ℕ) (p : Plan) (input : List ℕ) → read_plan limit input ≡ good p → length input ≤ 6 * limit + 10
longest limit p input e = run_length limit p input (only limit p input e)

pub furthest : (limit at : ℕ) (input : List ℕ) → read_plan limit input ≡ bad at → at ≤ 6 * limit + 10
furthest limit at input e =
    let b = only_breaks limit at input e in
    let h = break_length limit b.front b.rest b.breaks in
    let o = b.offset in
    omega arith

-- ---- the front of an input

-- what starts the front of some bytes starts the bytes
more_behind : (k : ℕ) (bytes own more : List ℕ) → take k bytes ≡ own ++ more → bytes ≡ own ++ (more ++ drop k bytes)
more_behind k bytes own more e = sym (take-append-drop k bytes) ∙ ap (λ (l : List ℕ). l ++ drop k bytes) e ∙ append_assoc own more (drop k bytes)

-- a front that holds a byte is not empty
some_left : (k : ℕ) (bytes : List ℕ) → 1 ≤ k → (bytes ≡ [] → ⊥) → take k bytes ≡ [] → ⊥
some_left zero bytes h f e = omega arith
some_left (suc k) [] h f e = f refl
some_left (suc k) (x ∷ l) h f e = let none_left = ap length e in omega arith

-- so a break is one of the front too, if a byte of the rest is left
still_breaks : (limit k : ℕ) (front rest : List ℕ) → 1 ≤ k → Breaks limit front rest → Breaks limit front (take k rest)
still_breaks limit k front rest h (at_request _ f) =
    at_request (take k rest) (λ code ttl qs nonce own more s e. f code ttl qs nonce own (more ++ drop k rest) s (more_behind k rest own more e))
still_breaks limit k front rest h (at_hop p _ _ s f end) =
    at_hop p front (take k rest) s (λ ceiling own more r e. f ceiling own (more ++ drop k rest) r (more_behind k rest own more e)) (ended end)
  where
    ended : (length p.routers ≡ limit) ⊎ NoRouter rest → (length p.routers ≡ limit) ⊎ NoRouter (take k rest)
    ended (inl e) = inl e
    ended (inr g) = inr (λ router own more r e. g router own (more ++ drop k rest) r (more_behind k rest own more e))
still_breaks limit k front rest h (at_end p _ _ s f) = at_end p front (take k rest) s (some_left k rest h f)

still_bad : (limit n at : ℕ) (input : List ℕ) → 6 * limit + 11 ≤ n → BadAt limit input at → BadAt limit (take n input) at
still_bad limit n at input h b =
    let short = break_length limit b.front b.rest b.breaks in
    record {
      front = b.front;
      rest = take (n - length b.front) b.rest;
      whole = ap (take n) b.whole
          ∙ ap (λ (m : ℕ). take m (b.front ++ b.rest)) {x = n} {y = length b.front + (n - length b.front)} (omega arith)
          ∙ take-append-add b.front b.rest (n - length b.front);
      offset = b.offset;
      breaks = still_breaks limit (n - length b.front) b.front b.rest (omega arith) b.breaks;
    }

pub same_reading : (limit n : ℕ) (input : List ℕ) → 6 * limit + 11 ≤ n → read_plan limit (take n input) ≡ read_plan limit input
same_reading limit n input h = go (read_plan limit input) refl
  where
    go : (r : Reading) → read_plan limit input ≡ r → read_plan limit (take n input) ≡ read_plan limit input
    go (good p) e = ap (read_plan limit) (take_all n input (let k = longest limit p input e in omega arith))
    go (bad at) e = breaks limit at (take n input) (still_bad limit n at input h (only_breaks limit at input e)) ∙ sym e

-- ---- the claim

pub enough : Enough
enough = record { longest = longest; furthest = furthest; front = λ limit n input h. ap line_for (same_reading limit n input h) }
