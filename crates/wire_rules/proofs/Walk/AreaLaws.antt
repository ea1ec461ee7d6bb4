-- Laws of areas by what they are made of: the walk passes over what is skipped, and whatever it yields, the area is made so. Assumes
-- nothing.
use Prim.Native.Nat.{ℕ, zero, suc, ◌+◌, ◌-◌, ◌≤◌}
use mathlib.Core.Bool.{true}
use mathlib.Core.List.{List, [], ◌∷◌, ◌++◌, append_assoc}
use mathlib.Core.Path.{◌≡◌, refl, sym, ap, ap₂, subst, ◌∙◌}
use native.Mathlib.Nat.{add-zero}
use native.Mathlib.Omega.{arith}
use lib.ListN.{length, take, drop, length-append, length-drop, take-append-drop, get_or-append}
use lib.Seq.{take-suc, drop_at, drop-drop, length-take-le, get_or-take, drop-cons}
use Rattle.common.proofs.Choice.{clash, in_within}
use Rattle.refusals.specs.Reply.{Reply, answer, refuse}
use Rattle.wire_rules.specs.Options.Wire.{option_length, kind_in, length_in}
use Rattle.wire_rules.specs.Options.Requests.{request_kind}
use Rattle.std.specs.Prelude.{None, Some}
use Rattle.wire_rules.specs.Walk.Walks.{Next, end, fault, past, end_kind, no_operation, length_fits, look, go_on, walk_on, Place}
use Rattle.wire_rules.specs.Walk.Claims.{Other, Skipped, none, filler, other, Ended, last, Clear, quick_start_option, Holds}
use Rattle.wire_rules.specs.Walk.Claims as claims
use Rattle.wire_rules.proofs.Walk.WalkLaws.{reads_first, reads_other, looks, fits_low, fits_high, step, goes_past}

-- ---- what the walk makes of an option

-- an option's own bytes come first: its type and its length byte are those of the bytes from it on
fronts : (option rest : List ℕ) → 2 ≤ length option → (kind_in (option ++ rest) ≡ kind_in option) × (length_in (option ++ rest) ≡ length_in option)
fronts option rest l = (get_or-append option rest 0 0 (omega arith), get_or-append option rest 0 1 (omega arith))

fits_in : (option rest : List ℕ) → 2 ≤ length option → length_in option ≡ length option → length_fits (option ++ rest) ≡ true
unfolding length_fits
fits_in option rest l t =
    let e : length_in (option ++ rest) ≡ length option = (fronts option rest l).1 ∙ t in
    in_within 2 (length_in (option ++ rest)) (length (option ++ rest)) (rw e l) (rw (e, length-append option rest) (omega arith))

skip_other : (place : Place) (offset : ℕ) (option rest : List ℕ) → Other option → walk_on place offset 0 (option ++ rest) ≡ walk_on place (offset + length option) 0 rest
skip_other place offset option rest o =
    let f = fronts option rest o.long in
    let l : look place offset (option ++ rest) ≡ past place (length option) =
    reads_other place offset (option ++ rest) (λ e. o.no_end (sym f.0 ∙ e)) (λ e. o.no_filler (sym f.0 ∙ e)) (λ e. o.no_request (sym f.0 ∙ e))
    (fits_in option rest o.long o.told)
    ∙ ap (λ (k : ℕ). past place k) (f.1 ∙ o.told) in
    let room : 1 ≤ length (option ++ rest) = rw (length-append option rest) (omega (arith, o.long)) in
    goes_past place place offset (length option) (option ++ rest) room l
    ∙ ap (λ (t : List ℕ). walk_on place (offset + length option) 0 t) (drop_at option rest (length option) refl)

pub skip : (place : Place) (offset : ℕ) (before rest : List ℕ) → Skipped before → walk_on place offset 0 (before ++ rest) ≡ walk_on place (offset + length before) 0 rest
unfolding walk_on look
skip place offset [] rest none = ap (λ (k : ℕ). walk_on place k 0 rest) (sym (add-zero offset))
skip place offset _ rest (filler before s) =
    skip place (suc offset) before rest s ∙ ap (λ (k : ℕ). walk_on place k 0 rest) {x = suc offset + length before} {y = offset + suc (length before)} (omega arith)
skip place offset _ rest (other option before o s) =
    ap (λ (l : List ℕ). walk_on place offset 0 l) (append_assoc option before rest)
    ∙ skip_other place offset option (before ++ rest) o
    ∙ skip place (offset + length option) before rest s
    ∙ ap (λ (k : ℕ). walk_on place k 0 rest) {x = offset + length option + length before} {y = offset + length (option ++ before)} (rw (length-append option before) (omega arith))

ended : (place : Place) (offset : ℕ) (rest : List ℕ) → Ended rest → walk_on place offset 0 rest ≡ answer place
unfolding walk_on look
ended place offset [] last = refl
ended place offset _ (claims.end behind) = refl

pub clear_yields : (place : Place) (offset : ℕ) (area : List ℕ) → Clear area → walk_on place offset 0 area ≡ answer place
clear_yields place offset area c =
    ap (λ (l : List ℕ). walk_on place offset 0 l) c.whole
    ∙ skip place offset c.skipped c.rest c.skips
    ∙ ended place (offset + length c.skipped) c.rest c.ends

-- a Quick-Start option that is the first
pub found : (offset : ℕ) (six rest : List ℕ) → length six ≡ 6 → walk_on None offset 0 (quick_start_option six ++ rest) ≡ walk_on (Some offset) (offset + option_length) 0 rest
unfolding length_fits
found offset six rest e =
    goes_past None (Some offset) offset option_length (quick_start_option six ++ rest) (omega arith) read
    ∙ ap (λ (l : List ℕ). walk_on (Some offset) (offset + option_length) 0 l) (drop_at six rest 6 e)
  where
    fits : length_fits (quick_start_option six ++ rest) ≡ true
    fits = in_within 2 option_length (length (quick_start_option six ++ rest)) (omega arith) (rw (length-append six rest) (omega arith))

    read : look None offset (quick_start_option six ++ rest) ≡ past (Some offset) option_length
    read = reads_first None offset (quick_start_option six ++ rest) refl refl fits refl

-- ---- whatever the walk yields, the area is made so

-- bytes in which the walk meets a fault: before it finds an option, or behind the first
pub data Breaks (place : Place) (n : ℕ) (bytes : List ℕ) : Type 0 where
  at_once : (before left : List ℕ) (o : ℕ) → Skipped before → bytes ≡ before ++ left → look place o left ≡ fault n → Breaks place n bytes
  behind : (before six between left : List ℕ) (p o : ℕ) → place ≡ None → Skipped before → length six ≡ 6 → Skipped between
      → bytes ≡ before ++ (quick_start_option six ++ (between ++ left)) → look (Some p) o left ≡ fault n → Breaks place n bytes

-- what the walk yields from an offset on: nothing more, the first option, or a fault
pub data Yields (place : Place) (offset : ℕ) (bytes : List ℕ) (r : Reply Place) : Type 0 where
  clear : answer place ≡ r → Clear bytes → Yields place offset bytes r
  holds : (o : ℕ) → place ≡ None → answer (Some (offset + o)) ≡ r → Holds o bytes → Yields place offset bytes r
  breaks : (n : ℕ) → refuse n ≡ r → Breaks place n bytes → Yields place offset bytes r

-- with more of what is skipped in front of it
module _ (p : List ℕ) (more : (s : List ℕ) → Skipped s → Skipped (p ++ s)) where
  further_back : (rest before tail : List ℕ) → rest ≡ before ++ tail → p ++ rest ≡ (p ++ before) ++ tail
  further_back rest before tail e = ap (λ (l : List ℕ). p ++ l) e ∙ sym (append_assoc p before tail)

  extend_breaks : (place : Place) (n : ℕ) (rest : List ℕ) → Breaks place n rest → Breaks place n (p ++ rest)
  extend_breaks place n rest (at_once before left o s w l) = at_once (p ++ before) left o (more before s) (further_back rest before left w) l
  extend_breaks place n rest (behind before six between left q o x s f t w l) =
      behind (p ++ before) six between left q o x (more before s) f t (further_back rest before (quick_start_option six ++ (between ++ left)) w) l

  extend : (place : Place) (offset : ℕ) (rest : List ℕ) (r : Reply Place) → Yields place (offset + length p) rest r → Yields place offset (p ++ rest) r
  extend place offset rest r (clear e c) =
      clear e (record { skipped = p ++ c.skipped; rest = c.rest; whole = further_back rest c.skipped c.rest c.whole; skips = more c.skipped c.skips; ends = c.ends })
  extend place offset rest r (holds o n e h) =
      holds (length p + o) n (ap (λ (k : ℕ). answer (Some k)) {x = offset + (length p + o)} {y = offset + length p + o} (omega arith) ∙ e) (record {
        before = p ++ h.before;
        six = h.six;
        rest = h.rest;
        whole = further_back rest h.before (quick_start_option h.six ++ h.rest) h.whole;
        place = length-append p h.before ∙ ap (λ (k : ℕ). length p + k) h.place;
        full = h.full;
        skips = more h.before h.skips;
        clear = h.clear;
      })
  extend place offset rest r (breaks n e b) = breaks n e (extend_breaks place n rest b)

at_end : (bytes : List ℕ) → kind_in bytes ≡ end_kind → 1 ≤ length bytes → Clear bytes
at_end bytes k h = record {
  skipped = [];
  rest = bytes;
  whole = refl;
  skips = none;
  ends = subst Ended (sym (drop-cons bytes 0 0 h ∙ ap (λ (b : ℕ). b ∷ drop 1 bytes) k)) (claims.end (drop 1 bytes));
}

-- bytes whose length byte fits begin with an option of that length
front : (bytes : List ℕ) → (kind_in bytes ≡ end_kind → ⊥) → (kind_in bytes ≡ no_operation → ⊥) → (kind_in bytes ≡ request_kind → ⊥) → length_fits bytes ≡ true
    → Other (take (length_in bytes) bytes)
front bytes a b c f =
    let low = fits_low bytes f in
    let kind : kind_in (take (length_in bytes) bytes) ≡ kind_in bytes = get_or-take (length_in bytes) bytes 0 0 (omega arith) in
    let len : length (take (length_in bytes) bytes) ≡ length_in bytes = length-take-le (length_in bytes) bytes (fits_high bytes f) in
    record {
      no_end = λ e. a (sym kind ∙ e);
      no_filler = λ e. b (sym kind ∙ e);
      no_request = λ e. c (sym kind ∙ e);
      long = rw len low;
      told = get_or-take (length_in bytes) bytes 1 0 (omega arith) ∙ sym len;
    }

-- and so they do where it is a Quick-Start option
option_front : (bytes : List ℕ) → kind_in bytes ≡ request_kind → length_in bytes ≡ option_length → length_fits bytes ≡ true
    → (six : List ℕ) × (length six ≡ 6) × (bytes ≡ quick_start_option six ++ drop option_length bytes)
option_front bytes k l f =
    let high : option_length ≤ length bytes = rw (sym l) (fits_high bytes f) in
    let six = take 6 (drop 2 bytes) in (
      six,
      length-take-le 6 (drop 2 bytes) (rw (length-drop 2 bytes) (omega arith)),
      drop-cons bytes 0 0 (omega arith)
          ∙ ap (λ (t : List ℕ). kind_in bytes ∷ t) (drop-cons bytes 1 0 (omega arith))
          ∙ ap₂ (λ (a b : ℕ). a ∷ b ∷ drop 2 bytes) k l
          ∙ ap (λ (t : List ℕ). request_kind ∷ option_length ∷ t) (sym (take-append-drop 6 (drop 2 bytes)) ∙ ap (λ (t : List ℕ). six ++ t) (drop-drop 6 2 bytes)),
    )

-- a Quick-Start option at the front, with what follows it
module _ (place : Place) (offset : ℕ) (bytes : List ℕ) (r : Reply Place) (n : place ≡ None)
    (front : (six : List ℕ) × (length six ≡ 6) × (bytes ≡ quick_start_option six ++ drop option_length bytes)) where
  here_breaks : (k i : ℕ) → Breaks (Some i) k (drop option_length bytes) → Breaks place k bytes
  here_breaks k i (at_once before left o s w l) =
      behind [] front.0 before left i o n none front.1 s (front.2 ∙ ap (λ (t : List ℕ). quick_start_option front.0 ++ t) w) l
  here_breaks k i (behind before six between left p o x s f t w l) = absurd (clash (cc))

  here : Yields (Some offset) (offset + option_length) (drop option_length bytes) r → Yields place offset bytes r
  here (clear e c) =
      holds 0 n (ap (λ (i : ℕ). answer (Some i)) (add-zero offset) ∙ e) (record {
        before = [];
        six = front.0;
        rest = drop option_length bytes;
        whole = front.2;
        place = refl;
        full = front.1;
        skips = none;
        clear = c;
      })
  here (holds i m e c) = absurd (clash (cc))
  here (breaks k e b) = breaks k e (here_breaks k offset b)

module _ (place : Place) (offset : ℕ) (bytes : List ℕ) (r : Reply Place) (h : 1 ≤ length bytes) (e : walk_on place offset 0 bytes ≡ r) where
  on : (s : Next) → look place offset bytes ≡ s → go_on place s (λ found len. walk_on found (suc offset) (len - 1) (drop 1 bytes)) ≡ r
  on s l = ap (λ (s : Next). go_on place s (λ found len. walk_on found (suc offset) (len - 1) (drop 1 bytes))) (sym l) ∙ sym (step place offset bytes h) ∙ e

  at_fault : (n : ℕ) → look place offset bytes ≡ fault n → Yields place offset bytes r
  at_fault n l = breaks n (on (fault n) l) (at_once [] bytes offset none refl l)

  -- an option that is skipped
  in_front : (len : ℕ) → len ≤ length bytes → ((s : List ℕ) → Skipped s → Skipped (take len bytes ++ s))
      → Yields place (offset + len) (drop len bytes) r → Yields place offset bytes r
  in_front len room more y =
      subst (λ (l : List ℕ). Yields place offset l r) (take-append-drop len bytes)
      (extend (take len bytes) more place offset (drop len bytes) r
      (subst (λ (k : ℕ). Yields place (offset + k) (drop len bytes) r) (sym (length-take-le len bytes room)) y))

  by_look : ((found : Place) (len : ℕ) → 1 ≤ len → walk_on found (offset + len) 0 (drop len bytes) ≡ r → Yields found (offset + len) (drop len bytes) r)
      → Yields place offset bytes r
  by_look ih =
      looks (λ (s : Next). look place offset bytes ≡ s → Yields place offset bytes r) place offset bytes
      (λ k l. clear (on end l) (at_end bytes k h))
      (λ k l. in_front 1 h (no_op k) (further place 1 (omega arith) l))
      (λ a b f. at_fault 3)
      (λ k f o. at_fault 5)
      (λ n k len f l.
      here place offset bytes r n (option_front bytes k len f)
      (subst (λ (i : ℕ). Yields (Some offset) (offset + i) (drop i bytes) r) len (further (Some offset) (length_in bytes) (omega (arith, fits_low bytes f)) l)))
      (λ a b d f l. in_front (length_in bytes) (fits_high bytes f) (λ s. other (take (length_in bytes) bytes) s (front bytes a b d f))
      (further place (length_in bytes) (omega (arith, fits_low bytes f)) l))
      refl
    where
      further : (found : Place) (len : ℕ) → 1 ≤ len → look place offset bytes ≡ past found len → Yields found (offset + len) (drop len bytes) r
      further found len low l = ih found len low (sym (goes_past place found offset len bytes h l) ∙ e)

      no_op : kind_in bytes ≡ no_operation → (s : List ℕ) → Skipped s → Skipped (take 1 bytes ++ s)
      no_op k s i = subst (λ (l : List ℕ). Skipped (l ++ s)) {x = no_operation ∷ []} {y = take 1 bytes} (sym (take-suc bytes 0 0 h ∙ ap (λ (b : ℕ). b ∷ []) k)) (filler s i)

-- by the number of bytes that are left
pub yields : (k : ℕ) (place : Place) (offset : ℕ) (bytes : List ℕ) (r : Reply Place) → length bytes ≤ k → walk_on place offset 0 bytes ≡ r → Yields place offset bytes r
unfolding walk_on
yields zero place offset [] r h e = clear e (record { skipped = []; rest = []; whole = refl; skips = none; ends = last })
yields zero place offset (b ∷ rest) r h e = absurd (omega arith)
yields (suc k) place offset bytes r h e = go bytes h e (yields k)
  where
    go : (bytes : List ℕ) → length bytes ≤ suc k → walk_on place offset 0 bytes ≡ r
        → ((place : Place) (offset : ℕ) (bytes : List ℕ) (r : Reply Place) → length bytes ≤ k → walk_on place offset 0 bytes ≡ r → Yields place offset bytes r)
        → Yields place offset bytes r
    go [] h e ih = clear e (record { skipped = []; rest = []; whole = refl; skips = none; ends = last })
    go (b ∷ rest) h e ih =
        by_look place offset (b ∷ rest) r (omega arith) e
        (λ found len low. ih found (offset + len) (drop len (b ∷ rest)) r (rw (length-drop len (b ∷ rest)) (omega arith)))
