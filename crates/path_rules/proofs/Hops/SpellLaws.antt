-- Laws of rows and their spellings: what stands in front of some bytes, which bytes are read as which routers, and how long a spelling is.
-- Assumes nothing.
use Prim.Native.Nat.{ℕ, zero, suc, ◌+◌, ◌*◌, ◌/◌, ◌%◌, ◌≤◌, ◌<◌, zero-le}
use mathlib.Core.Bool.{Bool, true, false}
use mathlib.Core.List.{List, [], ◌∷◌, ◌++◌, append-nil, append_assoc}
use mathlib.Core.Logic.{◌⊎◌, inl, inr}
use Rattle.std.specs.Prelude.{Option, None, Some}
use mathlib.Core.Path.{◌≡◌, refl, sym, ap, subst, ◌∙◌}
use native.Mathlib.Omega.{arith}
use borrow.Author.Tests.{le-leb, eqb-true}
use lib.Dec.{eqb, lit<}
use lib.ListN.{length, get_or, drop}
use Rattle.common.specs.Choice.{pick}
use Rattle.common.specs.Lists.{Bytes}
use Rattle.common.proofs.Choice.{by_test, clash}
use Rattle.common.proofs.Lists.{bytes_each, bytes_append}
use Rattle.refusals.specs.Reply.{Reply, answer, refuse}
use Rattle.refusals.proofs.ReplyLaws.{answered}
use Rattle.wire_rules.specs.Rates.Steps.{top_code}
use Rattle.wire_rules.specs.Options.Wire.{word_from}
use Rattle.wire_rules.proofs.Options.WireLaws.{word_again}
use Rattle.path_rules.specs.declared.Router.{Router}
use Rattle.path_rules.specs.declared.Router.TheVariants.{Knowing, Silent}
use Rattle.path_rules.specs.Hops.Rows.{Hops, nonce_at, length_of, record_of, is_knowing, front_of, ahead, hops_from, row_of}
use Rattle.path_rules.specs.Hops.Claims.{Spells, no_record, record_2, record_3, RouterInRange, RoutersInRange, spelled}
use Rattle.path_rules.proofs.Hops.RowLaws.{knowing_if, hops_end, hops_next}

-- ---- the record in front

pub front_knowing : (ceiling a b c d : ℕ) (bytes : List ℕ) → ceiling ≤ 15 → front_of (2 ∷ ceiling ∷ a ∷ b ∷ c ∷ d ∷ bytes) ≡ Some (Knowing ceiling (word_from a b c d / 4))
unfolding front_of is_knowing
front_knowing ceiling a b c d bytes h = simp (le-leb 6 (length (2 ∷ ceiling ∷ a ∷ b ∷ c ∷ d ∷ bytes)) (omega arith), le-leb ceiling top_code h)

pub front_silent : (bytes : List ℕ) → front_of (3 ∷ bytes) ≡ Some Silent
unfolding front_of
front_silent bytes = refl

pub front_empty : front_of [] ≡ None
unfolding front_of is_knowing
front_empty = refl

-- what a router in front says of the bytes: its own record, and behind it what is read next
pub record Found (bytes : List ℕ) (router : Router) : Type 0 where
  pub own : List ℕ
  pub in_front : bytes ≡ own ++ drop (length_of router) bytes
  pub spells : (routers : List Router) (row : List ℕ) → Spells routers row → Spells (router ∷ routers) (own ++ row)

first : (n : ℕ) (bytes : List ℕ) → eqb (get_or bytes 0 0) (suc n) ≡ true → bytes ≡ suc n ∷ drop 1 bytes
first n [] e = let z : 0 ≡ suc n = eqb-true 0 (suc n) e in absurd (omega arith)
first n (x ∷ l) e = ap (λ (y : ℕ). y ∷ l) (eqb-true x (suc n) e)

six : (bytes : List ℕ) → 6 ≤ length bytes
    → bytes ≡ get_or bytes 0 0 ∷ get_or bytes 1 0 ∷ get_or bytes 2 0 ∷ get_or bytes 3 0 ∷ get_or bytes 4 0 ∷ get_or bytes 5 0 ∷ drop 6 bytes
six [] h = absurd (omega arith)
six (k ∷ []) h = absurd (omega arith)
six (k ∷ e ∷ []) h = absurd (omega arith)
six (k ∷ e ∷ a ∷ []) h = absurd (omega arith)
six (k ∷ e ∷ a ∷ b ∷ []) h = absurd (omega arith)
six (k ∷ e ∷ a ∷ b ∷ c ∷ []) h = absurd (omega arith)
six (k ∷ e ∷ a ∷ b ∷ c ∷ d ∷ l) h = refl

found_silent : (bytes : List ℕ) → eqb (get_or bytes 0 0) 3 ≡ true → Found bytes Silent
unfolding length_of
found_silent bytes e = record { own = 3 ∷ []; in_front = first 2 bytes e; spells = λ routers row s. record_3 routers row s }

found_knowing : (bytes : List ℕ) → is_knowing bytes ≡ true → Found bytes (Knowing (get_or bytes 1 0) (nonce_at 2 bytes))
unfolding length_of
found_knowing bytes e =
    let is = knowing_if bytes e in
    record {
      own = 2 ∷ get_or bytes 1 0 ∷ get_or bytes 2 0 ∷ get_or bytes 3 0 ∷ get_or bytes 4 0 ∷ get_or bytes 5 0 ∷ [];
      in_front =
          six bytes is.1
          ∙ ap (λ (k : ℕ). k ∷ get_or bytes 1 0 ∷ get_or bytes 2 0 ∷ get_or bytes 3 0 ∷ get_or bytes 4 0 ∷ get_or bytes 5 0 ∷ drop 6 bytes) is.0;
      spells = λ routers row s.
          record_2 (get_or bytes 1 0) (nonce_at 2 bytes) (get_or bytes 2 0) (get_or bytes 3 0) (get_or bytes 4 0) (get_or bytes 5 0) routers row is.2 refl s;
    }

pub found : (bytes : List ℕ) (router : Router) → front_of bytes ≡ Some router → Found bytes router
unfolding front_of
found bytes router e = go (eqb (get_or bytes 0 0) 3) (is_knowing bytes) refl refl e
  where
    go : (t u : Bool) → eqb (get_or bytes 0 0) 3 ≡ t → is_knowing bytes ≡ u
        → pick t (Some Silent) (pick u (Some (Knowing (get_or bytes 1 0) (nonce_at 2 bytes))) None) ≡ Some router → Found bytes router
    go true u p q f = subst (Found bytes) (cc) (found_silent bytes p)
    go false true p q f = subst (Found bytes) (cc) (found_knowing bytes q)
    go false false p q f = absurd (clash (cc))

-- ---- reading

-- bytes as a spelling of the routers read, at most `limit` of them, in front of the rest
abbrev Split : ℕ → List ℕ → Hops → Type 0
Split limit bytes hops = (row : List ℕ) × (bytes ≡ row ++ hops.rest) × Spells hops.routers row × (length hops.routers ≤ limit)

split_more : (limit : ℕ) (bytes : List ℕ) (router : Router) (hops : Hops) → Found bytes router → Split limit (drop (length_of router) bytes) hops → Split (suc limit) bytes (ahead router hops)
split_more limit bytes router hops f s = (
  f.own ++ s.0,
  f.in_front ∙ ap (λ (l : List ℕ). f.own ++ l) s.1 ∙ sym (append_assoc f.own s.0 hops.rest),
  f.spells hops.routers s.0 s.2,
  omega (arith, s.3),
)

-- the records read are a spelling in front of the rest
pub split : (limit : ℕ) (bytes : List ℕ)
    → (row : List ℕ) × (bytes ≡ row ++ (hops_from limit bytes).rest) × Spells (hops_from limit bytes).routers row × (length (hops_from limit bytes).routers ≤ limit)
unfolding hops_from
split zero bytes = ([], refl, no_record, zero-le)
split (suc limit) bytes = go (front_of bytes) refl (λ router. split limit (drop (length_of router) bytes))
  where
    go : (o : Option Router) → front_of bytes ≡ o → ((router : Router) → Split limit (drop (length_of router) bytes) (hops_from limit (drop (length_of router) bytes)))
        → Split (suc limit) bytes (hops_from (suc limit) bytes)
    go None e more = subst (Split (suc limit) bytes) (sym (hops_end (suc limit) bytes e)) ([], refl, no_record, zero-le)
    go (Some router) e more =
        subst (Split (suc limit) bytes) (sym (hops_next limit bytes router e)) (split_more limit bytes router _ (found bytes router e) (more router))

one_less : (n limit : ℕ) (rest : List ℕ) → (suc n ≡ suc limit) ⊎ (front_of rest ≡ None) → (n ≡ limit) ⊎ (front_of rest ≡ None)
one_less n limit rest (inl e) = inl (omega arith)
one_less n limit rest (inr e) = inr e

-- a spelling is read back, if no router's record follows it or the limit is reached
pub spelt_front : (limit : ℕ) (routers : List Router) (row rest : List ℕ) → Spells routers row → length routers ≤ limit → (length routers ≡ limit) ⊎ (front_of rest ≡ None)
    → hops_from limit (row ++ rest) ≡ record { routers = routers; rest = rest }
unfolding hops_from length_of
spelt_front zero routers row rest no_record h end = refl
spelt_front (suc limit) routers row rest no_record h (inl e) = absurd (omega arith)
spelt_front (suc limit) routers row rest no_record h (inr e) = hops_end (suc limit) rest e
spelt_front zero routers row rest (record_2 ceiling fresh a b c d routers' row' low word s) h end = absurd (omega arith)
spelt_front (suc limit) routers row rest (record_2 ceiling fresh a b c d routers' row' low word s) h end =
    hops_next limit (2 ∷ ceiling ∷ a ∷ b ∷ c ∷ d ∷ (row' ++ rest)) (Knowing ceiling fresh) (front_knowing ceiling a b c d (row' ++ rest) low ∙ ap (λ (n : ℕ). Some (Knowing ceiling n)) word)
    ∙ ap (ahead (Knowing ceiling fresh)) (spelt_front limit routers' row' rest s (omega arith) (one_less (length routers') limit rest end))
spelt_front zero routers row rest (record_3 routers' row' s) h end = absurd (omega arith)
spelt_front (suc limit) routers row rest (record_3 routers' row' s) h end =
    hops_next limit (3 ∷ (row' ++ rest)) Silent (front_silent (row' ++ rest))
    ∙ ap (ahead Silent) (spelt_front limit routers' row' rest s (omega arith) (one_less (length routers') limit rest end))

-- ---- how long a spelling is

pub spelt_length : (routers : List Router) (row : List ℕ) → Spells routers row → (length row ≤ 6 * length routers) × (length routers ≤ length row)
spelt_length routers row no_record = (omega arith, omega arith)
spelt_length routers row (record_2 ceiling fresh a b c d routers' row' low word s) = let k = spelt_length routers' row' s in (omega arith, omega arith)
spelt_length routers row (record_3 routers' row' s) = let k = spelt_length routers' row' s in (omega arith, omega arith)

-- ---- rows

pub row_reads : (limit : ℕ) (routers : List Router) (bytes : List ℕ) → Spells routers bytes → length routers ≤ limit → row_of limit bytes ≡ answer routers
row_reads limit routers bytes s h =
    let read : hops_from limit bytes ≡ record { routers = routers; rest = [] } =
    ap (hops_from limit) (sym (append-nil bytes)) ∙ spelt_front limit routers bytes [] s h (inr front_empty) in
    rw read refl

none_left : (l : List ℕ) → eqb (length l) 0 ≡ true → l ≡ []
none_left [] e = refl
none_left (x ∷ l) e = let z : suc (length l) ≡ 0 = eqb-true (suc (length l)) 0 e in absurd (omega arith)

-- a row with nothing behind it is spelled by its bytes
whole : (limit : ℕ) (bytes : List ℕ) → eqb (length (hops_from limit bytes).rest) 0 ≡ true
    → Spells (hops_from limit bytes).routers bytes × (length (hops_from limit bytes).routers ≤ limit)
whole limit bytes e =
    let s = split limit bytes in
    let same : s.0 ≡ bytes = sym (append-nil s.0) ∙ ap (λ (l : List ℕ). s.0 ++ l) (sym (none_left (hops_from limit bytes).rest e)) ∙ sym s.1 in
    (subst (Spells (hops_from limit bytes).routers) same s.2, s.3)

pub row_only : (limit : ℕ) (routers : List Router) (bytes : List ℕ) → row_of limit bytes ≡ answer routers → Spells routers bytes × (length routers ≤ limit)
row_only limit routers bytes e =
    let a = answered (eqb (length (hops_from limit bytes).rest) 0) routers (hops_from limit bytes).routers 7 (sym e) in
    subst (λ (r : List Router). Spells r bytes × (length r ≤ limit)) (sym a.1) (whole limit bytes a.0)

pub row_seven : (limit : ℕ) (bytes : List ℕ) → ((routers : List Router) → Spells routers bytes → length routers ≤ limit → ⊥) → row_of limit bytes ≡ refuse 7
row_seven limit bytes no_row =
    by_test
    (λ (r : Reply (List Router)). r ≡ refuse 7)
    (eqb (length (hops_from limit bytes).rest) 0)
    (λ e. let w = whole limit bytes e in absurd (no_row (hops_from limit bytes).routers w.0 w.1))
    (λ e. refl)

-- ---- ranges

pub spelt_in_range : (routers : List Router) (bytes : List ℕ) → Bytes bytes → Spells routers bytes → RoutersInRange routers
spelt_in_range routers bytes all no_record = tt
spelt_in_range routers bytes all (record_2 ceiling fresh a b c d routers' bytes' low word s) =
    let at_2 : a < 256 = all 2 in
    let at_3 : b < 256 = all 3 in
    let at_4 : c < 256 = all 4 in
    let at_5 : d < 256 = all 5 in
    ((low, omega arith), spelt_in_range routers' bytes' (λ i. all (suc (suc (suc (suc (suc (suc i))))))) s)
spelt_in_range routers bytes all (record_3 routers' bytes' s) = (tt, spelt_in_range routers' bytes' (λ i. all (suc i)) s)

-- the record of a router in range
record_bytes : (router : Router) → RouterInRange router → Bytes (record_of router)
record_bytes (Knowing ceiling fresh) r = bytes_each (record_of (Knowing ceiling fresh)) (omega arith)
record_bytes Silent r = bytes_each (record_of Silent) (lit< tt, tt)

-- the four bytes of a nonce, as a word, are the nonce again
pub nonce_back : (n : ℕ) → word_from (n / 4194304) (n / 16384 % 256) (n / 64 % 256) (n % 64 * 4 + 0) / 4 ≡ n
nonce_back n = omega (arith, word_again n 0)

pub written : (routers : List Router) → RoutersInRange routers → Spells routers (spelled routers) × Bytes (spelled routers)
unfolding spelled
written [] r = (no_record, λ i. lit< tt)
written (Knowing ceiling fresh ∷ routers) r =
    let w = written routers r.1 in (
      record_2 ceiling fresh (fresh / 4194304) (fresh / 16384 % 256) (fresh / 64 % 256) (fresh % 64 * 4 + 0) routers (spelled routers) r.0.0 (nonce_back fresh) w.0,
      bytes_append (record_of (Knowing ceiling fresh)) (spelled routers) (record_bytes (Knowing ceiling fresh) r.0) w.1,
    )
written (Silent ∷ routers) r =
    let w = written routers r.1 in (record_3 routers (spelled routers) w.0, bytes_append (record_of Silent) (spelled routers) (record_bytes Silent tt) w.1)

pub together : (a b : List Router) (x y : List ℕ) → Spells a x → Spells b y → Spells (a ++ b) (x ++ y)
together a b x y no_record t = t
together a b x y (record_2 ceiling fresh k l m n routers bytes low word s) t = record_2 ceiling fresh k l m n (routers ++ b) (bytes ++ y) low word (together routers b bytes y s t)
together a b x y (record_3 routers bytes s) t = record_3 (routers ++ b) (bytes ++ y) (together routers b bytes y s t)
