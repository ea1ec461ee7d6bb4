-- Laws of a link's history. The row that the approvals of the last ticks make is written down from the approvals alone; moving on and
-- granting take it from tick to tick, and its total and its slots are what was approved. Assumes nothing.
use Prim.Native.Nat.{ℕ, zero, suc, ◌+◌, ◌-◌, ◌%◌, ◌≤◌, ◌<◌}
use mathlib.Core.Bool.{Bool, true, false}
use mathlib.Core.List.{List, [], ◌∷◌}
use mathlib.Core.Logic.{⊎_elim}
use mathlib.Core.Path.{◌≡◌, sym, ap, subst, ◌∙◌}
use native.Mathlib.Nat.{le_refl, le_trans, mod-lt, mod-eq_of_lt, add-mod_right, eq-or-lt_of_le}
use native.Mathlib.Omega.{arith}
use lib.Dec.{eqb}
use lib.ListN.{length, get_or, set, replicate, length-set, length-replicate, get_or-replicate}
use lib.Seq.{set-set, set_comm, get_or-set_other}
use borrow.Author.Tests.{lt-ltb, le-ltb, le-leb, lt-leb, ne_eqb, eqb-true, eqb-false}
use Rattle.common.specs.Choice.{pick}
use Rattle.common.proofs.Choice.{by_test, le_or_gt}
use Rattle.common.proofs.Lists.{zeros_stay}
use Rattle.common.proofs.Remainders.{apart}
use Rattle.wire_rules.specs.Rates.Steps.{rate_of}
use Rattle.gateway_rules.specs.Ledgers.Rows.{total, cleared, passed, moved_on, charged}
use Rattle.gateway_rules.specs.Ledgers.History.{Approval, approved_at, in_last, approved_last}
use Rattle.gateway_rules.proofs.Ledgers.RowLaws.{total_zeros, length_charged, total_charged, charged_same, charged_other}

-- ---- the last ticks

pub in_last_lem : (slots now t : ℕ) → t ≤ now → now < t + slots → in_last slots now t ≡ true
unfolding in_last
in_last_lem slots now t l h = simp (le-leb t now l, lt-ltb now (t + slots) h)

pub gone : (slots now t : ℕ) → t + slots ≤ now → in_last slots now t ≡ false
unfolding in_last
gone slots now t h = let l : t ≤ now = omega arith in simp (le-leb t now l, le-ltb now (t + slots) h)

pub to_come : (slots now t : ℕ) → now < t → in_last slots now t ≡ false
unfolding in_last
to_come slots now t h = simp (lt-leb t now h)

-- ---- zeroing and charging

charge_other : (t u rate : ℕ) (row : List ℕ) → (t % length row ≡ u % length row → ⊥) → cleared u (charged t rate row) ≡ charged t rate (cleared u row)
unfolding charged
charge_other t u rate row apart-slots =
    let i = t % length row in
    let j = u % length row in
    rw (length-set row i (get_or row i 0 + rate), length-set row j 0)
    (set_comm row i j (get_or row i 0 + rate) 0 apart-slots
    ∙ ap (λ (v : ℕ). set (set row j 0) i (v + rate)) (sym (get_or-set_other row j i 0 0 apart-slots)))

charge_same : (t u rate : ℕ) (row : List ℕ) → t % length row ≡ u % length row → cleared u (charged t rate row) ≡ cleared u row
unfolding charged
charge_same t u rate row same =
    let i = t % length row in
    rw (length-set row i (get_or row i 0 + rate), same) (set-set row (u % length row) _ 0)

-- ---- the row that approvals make

abbrev pub row_at : ℕ → ℕ → List Approval → List ℕ
row_at slots now [] = replicate slots 0
row_at slots now (a ∷ rest) = pick (in_last slots now a.tick) (charged a.tick (rate_of a.code) (row_at slots now rest)) (row_at slots now rest)

-- no approval is later than now
abbrev pub Until : ℕ → List Approval → Type 0
Until now [] = Unit {0}
Until now (a ∷ rest) = (a.tick ≤ now) × Until now rest

pub until_later : (t u : ℕ) (all : List Approval) → t ≤ u → Until t all → Until u all
until_later t u [] h p = tt
until_later t u (a ∷ rest) h p = (le_trans p.0 h, until_later t u rest h p.1)

pub length_row_at : (slots now : ℕ) (all : List Approval) → length (row_at slots now all) ≡ slots
length_row_at slots now [] = length-replicate slots 0
length_row_at slots now (a ∷ rest) =
    let ih = length_row_at slots now rest in
    by_test (λ (l : List ℕ). length l ≡ slots) (in_last slots now a.tick) (λ _. length_charged a.tick (rate_of a.code) (row_at slots now rest) ∙ ih) (λ _. ih)

-- one tick on: its slot is zeroed, and with it what left the last ticks
tick_on : (slots now : ℕ) (all : List Approval) → Until now all → cleared (suc now) (row_at slots now all) ≡ row_at slots (suc now) all
tick_on slots now [] u = zeros_stay slots _
tick_on slots now (a ∷ rest) u =
    let t = a.tick in
    let row = row_at slots now rest in
    let long = length_row_at slots now rest in
    let before = u.0 in
    let ih = tick_on slots now rest u.1 in
    ⊎_elim
    (λ (p : t + slots ≤ now). rw (gone slots now t p, gone slots (suc now) t (omega arith)) ih)
    (λ (p : now < t + slots). ⊎_elim
    (λ (q : t + slots ≤ suc now).
    let same : suc now ≡ t + slots = omega arith in
    rw (in_last_lem slots now t before p, gone slots (suc now) t q)
    (charge_same t (suc now) (rate_of a.code) row (rw long (sym (ap (λ (k : ℕ). k % slots) same ∙ add-mod_right t slots))) ∙ ih))
    (λ (q : suc now < t + slots).
    rw (in_last_lem slots now t before p, in_last_lem slots (suc now) t (omega arith) q)
    (charge_other t (suc now) (rate_of a.code) row (rw long (apart slots t (suc now) (omega arith) q)) ∙ ap (charged t (rate_of a.code)) ih))
    (le_or_gt (t + slots) (suc now)))
    (le_or_gt (t + slots) now)

ticks_on : (slots now k : ℕ) (all : List Approval) → Until now all → passed k now (row_at slots now all) ≡ row_at slots (now + k) all
unfolding passed
ticks_on slots now zero all u = ap (λ (t : ℕ). row_at slots t all) {x = now} {y = now + 0} (omega arith)
ticks_on slots now (suc k) all u =
    let e : now + suc k ≡ suc (now + k) = omega arith in
    rw (e, ticks_on slots now k all u) (tick_on slots (now + k) all (until_later now (now + k) all (omega arith) u))

-- moving on takes the row from a tick to a later one
pub moved_row : (slots old new : ℕ) (all : List Approval) → old ≤ new → Until old all → moved_on old new (row_at slots old all) ≡ row_at slots new all
unfolding moved_on
moved_row slots old new all h u = ticks_on slots old (new - old) all u ∙ ap (λ (t : ℕ). row_at slots t all) {x = old + (new - old)} {y = new} (omega arith)

-- ---- what the row holds

pub total_row_at : (slots now : ℕ) (all : List Approval) → 0 < slots → total (row_at slots now all) ≡ approved_last slots now all
total_row_at slots now [] h = total_zeros slots
total_row_at slots now (a ∷ rest) h = go (in_last slots now a.tick) (total_row_at slots now rest h)
  where
    go : (t : Bool) → total (row_at slots now rest) ≡ approved_last slots now rest
        → total (pick t (charged a.tick (rate_of a.code) (row_at slots now rest)) (row_at slots now rest)) ≡ pick t (rate_of a.code) 0 + approved_last slots now rest
    go true ih = let long = length_row_at slots now rest in omega (arith, total_charged a.tick (rate_of a.code) (row_at slots now rest) (omega arith))
    go false ih = omega arith

-- each slot holds what was approved at its own tick: an approval at another of the last ticks has another slot
module _ (slots now : ℕ) (some : 0 < slots) where
  another : (t u : ℕ) → t ≤ now → now < t + slots → u ≤ now → now < u + slots → (u ≡ t → ⊥) → t % slots ≡ u % slots → ⊥
  another t u a b c d ne e = ⊎_elim
      (λ (l : t ≤ u). ⊎_elim (λ (same : t ≡ u). ne (sym same)) (λ (less : t < u). apart slots t u less (omega arith) e) (eq-or-lt_of_le l))
      (λ (g : u < t). apart slots u t g (omega arith) (sym e))
      (le_or_gt t u)

  -- one approval more
  slot_step : (t k : ℕ) (a : Approval) (row : List ℕ) → t ≤ now → now < t + slots → a.tick ≤ now → length row ≡ slots → get_or row (t % slots) 0 ≡ k
      → get_or (pick (in_last slots now a.tick) (charged a.tick (rate_of a.code) row) row) (t % slots) 0 ≡ pick (eqb a.tick t) (rate_of a.code) 0 + k
  slot_step t k a row l h before long e = ⊎_elim
      (λ (p : a.tick + slots ≤ now). rw (gone slots now a.tick p, ne_eqb a.tick t (λ same. omega arith)) (omega arith))
      (λ (p : now < a.tick + slots).
      rw (in_last_lem slots now a.tick before p)
      (by_test (λ (n : ℕ). get_or (charged a.tick rate row) (t % slots) 0 ≡ n + k) (eqb a.tick t)
      (λ y.
      let same = eqb-true a.tick t y in
      let held : get_or row (a.tick % slots) 0 ≡ k = subst (λ (u : ℕ). get_or row (u % slots) 0 ≡ k) (sym same) e in
      let more = subst (λ (n : ℕ). get_or (charged a.tick rate row) (a.tick % n) 0 ≡ get_or row (a.tick % n) 0 + rate) long (charged_same a.tick rate row (omega arith)) in
      subst (λ (u : ℕ). get_or (charged a.tick rate row) (u % slots) 0 ≡ rate + k) same (omega arith))
      (λ n. charged_other a.tick rate (t % slots) row (rw long (another t a.tick l h before p (eqb-false a.tick t n))) ∙ omega arith)))
      (le_or_gt (a.tick + slots) now)
    where
      rate : ℕ
      rate = rate_of a.code

  pub slot_row_at : (t : ℕ) (all : List Approval) → t ≤ now → now < t + slots → Until now all → get_or (row_at slots now all) (t % slots) 0 ≡ approved_at t all
  slot_row_at t [] l h u = get_or-replicate slots (t % slots) 0 0 (mod-lt t some)
  slot_row_at t (a ∷ rest) l h u = slot_step t (approved_at t rest) a (row_at slots now rest) l h u.0 (length_row_at slots now rest) (slot_row_at t rest l h u.1)

-- a slot that no tick has come to yet
pub early_row_at : (slots now slot : ℕ) (all : List Approval) → now < slot → slot < slots → Until now all → get_or (row_at slots now all) slot 0 ≡ 0
early_row_at slots now slot [] l h u = get_or-replicate slots slot 0 0 h
early_row_at slots now slot (a ∷ rest) l h u =
    let ih = early_row_at slots now slot rest l h u.1 in
    let long = length_row_at slots now rest in
    let before = u.0 in
    let own : a.tick % slots ≡ a.tick = mod-eq_of_lt (omega arith) in
    by_test (λ (row : List ℕ). get_or row slot 0 ≡ 0) (in_last slots now a.tick)
    (λ _. charged_other a.tick (rate_of a.code) slot (row_at slots now rest) (rw long (λ e. omega arith)) ∙ ih)
    (λ _. ih)

-- ---- the last ticks up to another tick

-- of approvals up to a tick, no more lie in the last ticks up to a later one
pub approved_later : (slots now t : ℕ) (all : List Approval) → now ≤ t → Until now all → approved_last slots t all ≤ approved_last slots now all
approved_later slots now t [] h u = le_refl 0
approved_later slots now t (a ∷ rest) h u =
    let ih = approved_later slots now t rest h u.1 in
    let before = u.0 in
    ⊎_elim
    (λ (p : a.tick + slots ≤ t). rw (gone slots t a.tick p) (omega arith))
    (λ (p : t < a.tick + slots). rw (in_last_lem slots t a.tick (omega arith) p, in_last_lem slots now a.tick before (omega arith)) (omega arith))
    (le_or_gt (a.tick + slots) t)

-- an approval is not among the last ticks up to an earlier one
pub approved_before : (slots t : ℕ) (a : Approval) (rest : List Approval) → t < a.tick → approved_last slots t (a ∷ rest) ≡ approved_last slots t rest
approved_before slots t a rest h = rw (to_come slots t a.tick h) (omega arith)
