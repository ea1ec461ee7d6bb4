-- The claims of specs/Walk/Claims.antt: the walk over what an area is made of, and back. Assumes nothing.
use Prim.Native.Nat.{ℕ, suc, ◌+◌, ◌-◌, ◌≤◌, ◌<◌}
use mathlib.Core.List.{List, [], ◌∷◌, ◌++◌, append_assoc}
use mathlib.Core.Logic.{◌⊎◌, inl, inr}
use mathlib.Core.Path.{◌≡◌, refl, sym, ap, subst, ◌∙◌}
use native.Mathlib.Nat.{add-zero, zero-add, le_refl}
use native.Mathlib.Omega.{arith}
use lib.ListN.{length, get_or, drop, length-append}
use lib.Seq.{get_or-append-add, sets}
use Rattle.common.proofs.Choice.{clash}
use Rattle.common.proofs.Lists.{sets_between}
use Rattle.refusals.specs.Reply.{Reply, answer, refuse}
use Rattle.wire_rules.specs.Options.Wire.{option_length, kind_in, length_in}
use Rattle.wire_rules.specs.Options.Requests.{request_kind}
use Rattle.std.specs.Prelude.{None, Some}
use Rattle.wire_rules.specs.Walk.Walks.{Next, fault, look, go_on, walk_on, walk, Place}
use Rattle.wire_rules.specs.Walk.Claims.{Skipped, none, filler, last, Clear, quick_start_option, Holds, Passed, no_option, one_option, Faulty, bad_length, other_length, second, WalkingTheorem, WalkingOnly, ShutOut}
use Rattle.wire_rules.proofs.Walk.WalkLaws.{reads_bad, reads_wrong, reads_second, looks, step, fits_low, fits_high, no_fit, in_fit, fit_fails}
use Rattle.wire_rules.proofs.Walk.AreaLaws.{skip, clear_yields, found, at_once, behind, Yields, clear, holds, breaks, yields}

-- ---- what is found

all_yields : (area : List ℕ) (r : Reply Place) → walk area ≡ r → Yields None 0 area r
all_yields area r e = yields (length area) None 0 area r (le_refl (length area)) e

holds_sound : (area : List ℕ) (offset : ℕ) → Yields None 0 area (answer (Some offset)) → Holds offset area
holds_sound area offset (clear e c) = absurd (clash (cc))
holds_sound area offset (holds o n e h) = let i : 0 + o ≡ offset = cc in subst (λ (k : ℕ). Holds k area) {x = o} {y = offset} (omega arith) h
holds_sound area offset (breaks n e b) = absurd (clash (cc))

clear_sound : (area : List ℕ) → Yields None 0 area (answer None) → Clear area
clear_sound area (clear e c) = c
clear_sound area (holds o n e h) = absurd (clash (cc))
clear_sound area (breaks n e b) = absurd (clash (cc))

sound : (area : List ℕ) (offset : ℕ) → walk area ≡ answer (Some offset) → Holds offset area
sound area offset e = holds_sound area offset (all_yields area (answer (Some offset)) e)

complete : (area : List ℕ) (offset : ℕ) → Holds offset area → walk area ≡ answer (Some offset)
complete area offset h =
    let o = 0 + length h.before in
    ap walk h.whole
    ∙ skip None 0 h.before (quick_start_option h.six ++ h.rest) h.skips
    ∙ found o h.six h.rest h.full
    ∙ clear_yields (Some o) (o + option_length) h.rest h.clear
    ∙ ap (λ (k : ℕ). answer (Some k)) (zero-add (length h.before) ∙ h.place)

room : (area : List ℕ) (offset : ℕ) → Holds offset area → (offset + option_length ≤ length area) × (get_or area offset 0 ≡ request_kind) × (get_or area (suc offset) 0 ≡ option_length)
room area offset h =
    let tail = quick_start_option h.six ++ h.rest in
    let long : length area ≡ length h.before + suc (suc (length (h.six ++ h.rest))) = ap length h.whole ∙ length-append h.before tail in
    let six : length (h.six ++ h.rest) ≡ length h.six + length h.rest = length-append h.six h.rest in
    let read : (n : ℕ) → get_or area (offset + n) 0 ≡ get_or tail n 0 =
    λ n. ap (λ (l : List ℕ). get_or l (offset + n) 0) h.whole ∙ ap (λ (k : ℕ). get_or (h.before ++ tail) (k + n) 0) (sym h.place) ∙ get_or-append-add h.before tail n 0 in (
      omega (arith, h.place, h.full),
      ap (λ (k : ℕ). get_or area k 0) (sym (add-zero offset)) ∙ read 0,
      ap (λ (k : ℕ). get_or area k 0) {x = suc offset} {y = offset + 1} (omega arith) ∙ read 1,
    )

-- the six bytes stored over in what the area is made of
rewritten : (area six : List ℕ) (offset : ℕ) → length six ≡ 6 → (h : Holds offset area) → sets area (offset + 2) six ≡ h.before ++ (quick_start_option six ++ h.rest)
rewritten area six offset e h =
    let front = h.before ++ (request_kind ∷ option_length ∷ []) in
    let at : offset + 2 ≡ length front = sym (length-append h.before (request_kind ∷ option_length ∷ []) ∙ ap (λ (k : ℕ). k + 2) h.place) in
    let cut : (s : List ℕ) → h.before ++ (quick_start_option s ++ h.rest) ≡ front ++ (s ++ h.rest) =
    λ s. sym (append_assoc h.before (request_kind ∷ option_length ∷ []) (s ++ h.rest)) in
    ap (λ (l : List ℕ). sets l (offset + 2) six) (h.whole ∙ cut h.six)
    ∙ ap (λ (k : ℕ). sets (front ++ (h.six ++ h.rest)) k six) at
    ∙ sets_between front h.six h.rest six (h.full ∙ sym e)
    ∙ sym (cut six)

-- ---- which fault is given

-- the walk comes through what it has passed over, with what it found there
through_one : (before six between option : List ℕ) → Skipped before → length six ≡ 6 → Skipped between
    → (o k : ℕ) × (walk (before ++ (quick_start_option six ++ (between ++ option))) ≡ walk_on (Some o) k 0 option)
through_one before six between option s e t =
    let o = 0 + length before in (
      o,
      o + option_length + length between,
      skip None 0 before (quick_start_option six ++ (between ++ option)) s
          ∙ found o six (between ++ option) e
          ∙ skip (Some o) (o + option_length) between option t,
    )

joined : (before six between left : List ℕ) → (before ++ (quick_start_option six ++ between)) ++ left ≡ before ++ (quick_start_option six ++ (between ++ left))
joined before six between left =
    append_assoc before (quick_start_option six ++ between) left ∙ ap (λ (l : List ℕ). before ++ l) (append_assoc (quick_start_option six) between left)

through : (before option : List ℕ) → Passed before → (place : Place) × (k : ℕ) × (walk (before ++ option) ≡ walk_on place k 0 option)
through _ option (no_option before s) = (None, 0 + length before, skip None 0 before option s)
through _ option (one_option before six between s e t) =
    let w = through_one before six between option s e t in (
      Some w.0,
      w.1,
      ap walk (append_assoc before (quick_start_option six ++ between) option ∙ ap (λ (l : List ℕ). before ++ l) (append_assoc (quick_start_option six) between option)) ∙ w.2,
    )

stopped : (place : Place) (offset n : ℕ) (left : List ℕ) → 1 ≤ length left → look place offset left ≡ fault n → walk_on place offset 0 left ≡ refuse n
stopped place offset n left h e =
    step place offset left h ∙ ap (λ (s : Next). go_on place s (λ found len. walk_on found (suc offset) (len - 1) (drop 1 left))) e

-- bytes that begin with no end have a first byte
begun : (left : List ℕ) → (kind_in left ≡ 0 → ⊥) → 1 ≤ length left
begun [] n = absurd (n refl)
begun (b ∷ rest) n = omega arith

fault_complete : (area : List ℕ) (n : ℕ) → Faulty n area → walk area ≡ refuse n
fault_complete _ _ (bad_length before left p a b l) =
    let w = through before left p in
    w.2 ∙ stopped w.0 w.1 3 left (begun left a) (reads_bad w.0 w.1 left a b (no_fit left l))
fault_complete _ _ (other_length before left p k l h n) =
    let w = through before left p in
    w.2 ∙ stopped w.0 w.1 5 left (omega arith) (reads_wrong w.0 w.1 left k (in_fit left l h) n)
fault_complete _ _ (second before six between left s e t k l h) =
    let w = through_one before six between left s e t in
    w.2 ∙ stopped (Some w.0) w.1 5 left (omega arith) (reads_second (Some w.0) w.1 left w.0 refl k (in_fit left l h))

-- what a fault says of the bytes that it was met in
abbrev Bad : ℕ → List ℕ → Type 0
Bad n left = (n ≡ 3) × (kind_in left ≡ 0 → ⊥) × (kind_in left ≡ 1 → ⊥) × ((length_in left < 2) ⊎ (length left < length_in left))

abbrev Wrong : Place → ℕ → List ℕ → Type 0
Wrong place n left = (n ≡ 5) × (kind_in left ≡ 25) × (2 ≤ length_in left) × (length_in left ≤ length left) × ((length_in left ≡ 8 → ⊥) ⊎ ((i : ℕ) × (place ≡ Some i)))

says : (place : Place) (o n : ℕ) (left : List ℕ) → look place o left ≡ fault n → Bad n left ⊎ Wrong place n left
says place o n left =
    looks (λ (s : Next). s ≡ fault n → Bad n left ⊎ Wrong place n left) place o left
    (λ k e. absurd (clash (cc)))
    (λ k e. absurd (clash (cc)))
    (λ a b f e. inl ((cc), a, b, fit_fails left f))
    (λ k f w e. inr ((cc), k, fits_low left f, fits_high left f, w))
    (λ p k l f e. absurd (clash (cc)))
    (λ a b d f e. absurd (clash (cc)))

faulty_at : (n : ℕ) (before left : List ℕ) → Skipped before → Bad n left ⊎ Wrong None n left → Faulty n (before ++ left)
faulty_at n before left s (inl b) = subst (λ (k : ℕ). Faulty k (before ++ left)) (sym b.0) (bad_length before left (no_option before s) b.1 b.2 b.3)
faulty_at n before left s (inr (five, k, l, h, inl w)) =
    subst (λ (k : ℕ). Faulty k (before ++ left)) (sym five) (other_length before left (no_option before s) k l h w)
faulty_at n before left s (inr (five, k, l, h, inr w)) = let e = w.1 in absurd (clash (cc))

faulty_behind : (n p : ℕ) (before six between left : List ℕ) → Skipped before → length six ≡ 6 → Skipped between → Bad n left ⊎ Wrong (Some p) n left
    → Faulty n (before ++ (quick_start_option six ++ (between ++ left)))
faulty_behind n p before six between left s f t (inl b) =
    subst (λ (l : List ℕ). Faulty n l) (joined before six between left)
    (subst (λ (k : ℕ). Faulty k ((before ++ (quick_start_option six ++ between)) ++ left)) (sym b.0)
    (bad_length (before ++ (quick_start_option six ++ between)) left (one_option before six between s f t) b.1 b.2 b.3))
faulty_behind n p before six between left s f t (inr w) =
    subst (λ (k : ℕ). Faulty k (before ++ (quick_start_option six ++ (between ++ left)))) (sym w.0) (second before six between left s f t w.1 w.2 w.3)

fault_sound : (area : List ℕ) (n : ℕ) → Yields None 0 area (refuse n) → Faulty n area
fault_sound area n (clear e c) = absurd (clash (cc))
fault_sound area n (holds o m e h) = absurd (clash (cc))
fault_sound area n (breaks m e (at_once before left o s w l)) =
    let same : m ≡ n = cc in
    subst (λ (k : ℕ). Faulty k area) same (subst (λ (x : List ℕ). Faulty m x) (sym w) (faulty_at m before left s (says None o m left l)))
fault_sound area n (breaks m e (behind before six between left p o x s f t w l)) =
    let same : m ≡ n = cc in
    subst (λ (k : ℕ). Faulty k area) same
    (subst (λ (y : List ℕ). Faulty m y) (sym w) (faulty_behind m p before six between left s f t (says (Some p) o m left l)))

pub walking_theorem : WalkingTheorem
walking_theorem = record {
  sound = sound;
  complete = complete;
  room = λ area offset e. room area offset (sound area offset e);
  none_sound = λ area e. clear_sound area (all_yields area (answer None) e);
  none_complete = λ area c. clear_yields None 0 area c;
  fault_sound = λ area n e. fault_sound area n (all_yields area (refuse n) e);
  fault_complete = fault_complete;
  steady = λ area six offset e w.
      let h = sound area offset w in
      complete (sets area (offset + 2) six) offset (record {
        before = h.before;
        six = six;
        rest = h.rest;
        whole = rewritten area six offset e h;
        place = h.place;
        full = e;
        skips = h.skips;
        clear = h.clear;
      });
}

-- whatever ours yields of an area, another such walk yields of it
pub walking_only : WalkingOnly
walking_only other w area = by_ours (walk area) refl
  where
    by_place : (place : Place) → walk area ≡ answer place → other area ≡ answer place
    by_place None e = w.none_complete area (walking_theorem.none_sound area e)
    by_place (Some offset) e = w.complete area offset (walking_theorem.sound area offset e)

    by_ours : (r : Reply Place) → walk area ≡ r → other area ≡ walk area
    by_ours (answer place) e = by_place place e ∙ sym e
    by_ours (refuse n) e = w.fault_complete area n (walking_theorem.fault_sound area n e) ∙ sym e

-- ---- walks that are shut out

-- no-operations, and a Quick-Start option of zeros behind them
six_zeros : List ℕ
six_zeros = 0 ∷ 0 ∷ 0 ∷ 0 ∷ 0 ∷ 0 ∷ []

behind_fillers : (before : List ℕ) → Skipped before → Holds (length before) (before ++ (quick_start_option six_zeros ++ []))
unfolding six_zeros
behind_fillers before s = record {
  before = before;
  six = six_zeros;
  rest = [];
  whole = refl;
  place = refl;
  full = refl;
  skips = s;
  clear = record { skipped = []; rest = []; whole = refl; skips = none; ends = last };
}

pub shut_out : ShutOut
unfolding six_zeros look
shut_out = record {
  none_always_lem = λ w.
      let e : answer None ≡ answer (Some 0) = w.complete _ 0 (behind_fillers [] none) in
      clash (cc);
  first_only_lem = λ w.
      let e : answer None ≡ answer (Some 1) = w.complete _ 1 (behind_fillers (1 ∷ []) (filler [] none)) in
      clash (cc);
}
