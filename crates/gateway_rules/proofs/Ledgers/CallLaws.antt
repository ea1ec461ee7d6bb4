-- Laws of the calls on a ledger: which tests lead to which reply, and what an accepted call says of the link that it leaves. Assumes
-- nothing.
use Prim.Native.Nat.{ℕ, ◌-◌, ◌≤◌, ◌<◌}
use mathlib.Core.Bool.{true, false}
use mathlib.Core.List.{List}
use mathlib.Core.Path.{◌≡◌, refl, sym, ap, ap₂, ◌∙◌}
use native.Mathlib.Nat.{le_trans}
use native.Mathlib.Omega.{arith}
use lib.Dec.{leb}
use lib.ListN.{length, replicate, length-replicate}
use borrow.Author.Tests.{le-leb, lt-leb, leb-true}
use Rattle.common.specs.Choice.{within}
use Rattle.common.proofs.Choice.{chosen, both_true, within_low, within_high, in_within}
use Rattle.refusals.specs.Reply.{Reply, answer, refuse, leaves, and_then}
use Rattle.refusals.proofs.ReplyLaws.{answered, same_answer, through}
use Rattle.refusals.proofs.ReplyLaws as replies
use Rattle.wire_rules.specs.Rates.Steps.{top_code, rate_of}
use Rattle.wire_rules.specs.Rates.Claims.{Greatest}
use Rattle.wire_rules.proofs.Rates.StepLaws.{greatest_rule}
use Rattle.gateway_rules.specs.declared.Ledger.{Ledger}
use Rattle.gateway_rules.specs.Ledgers.Rows.{total, passed, moved_on}
use Rattle.gateway_rules.specs.Ledgers.Calls.{most_slots, most_allowance, Link, lent, link_in_range, set_up_reply, moved_to, move_reply, grant_of, Granted, granted, ask_reply, ledger_in, row_in}
use Rattle.gateway_rules.specs.Ledgers.Claims.{InRange}
use Rattle.gateway_rules.proofs.Ledgers.RowLaws.{total_zeros, length_moved, total_moved, length_charged, total_charged}

-- ---- the ranges

pub ranged : (slots allowance : ℕ) → link_in_range slots allowance ≡ true → InRange slots allowance
unfolding link_in_range
ranged slots allowance e =
    let b = both_true (within 1 slots most_slots) (leb allowance most_allowance) e in
    record { slots_low = within_low 1 slots most_slots b.0; slots_high = within_high 1 slots most_slots b.0; allowance_high = leb-true allowance most_allowance b.1 }

pub in_ranges : (slots allowance : ℕ) → InRange slots allowance → link_in_range slots allowance ≡ true
unfolding link_in_range
in_ranges slots allowance r = simp (in_within 1 slots most_slots r.slots_low r.slots_high, le-leb allowance most_allowance r.allowance_high)

-- ---- a link that is without fault: what set-up and every accepted call leave

pub record Sound (link : Link) : Type 0 where
  pub ranges : InRange (length link.row) link.ledger.allowance
  pub below : total link.row ≤ link.ledger.allowance

-- a row set up
abbrev pub zeroed : List ℕ → ℕ → ℕ → Link
zeroed row tick allowance = lent (replicate (length row) 0) (record { tick = tick; allowance = allowance })

pub set_up_sound : (row : List ℕ) (tick allowance : ℕ) → InRange (length row) allowance → Sound (zeroed row tick allowance)
set_up_sound row tick allowance r =
    let long : length (replicate {A = ℕ} (length row) 0) ≡ length row = length-replicate (length row) 0 in
    let none = total_zeros (length row) in
    record { ranges = record { slots_low = omega arith; slots_high = omega arith; allowance_high = omega arith }; below = omega arith }

-- a link with as long a row and the same allowance, and a total within it
pub still_sound : (link next : Link) → Sound link → length next.row ≡ length link.row → next.ledger.allowance ≡ link.ledger.allowance
    → total next.row ≤ next.ledger.allowance → Sound next
still_sound link next s long same most =
    let r = s.ranges in
    record { ranges = record { slots_low = omega arith; slots_high = omega arith; allowance_high = omega arith }; below = most }

pub moved_sound : (link : Link) (tick : ℕ) → Sound link → Sound (moved_to tick link)
moved_sound link tick s =
    still_sound link (moved_to tick link) s (length_moved link.ledger.tick tick link.row) refl
    (le_trans (total_moved link.ledger.tick tick link.row s.ranges.slots_low) s.below)

-- what is granted has room
pub grant_rule : (link : Link) (asked : ℕ) → Greatest asked (link.ledger.allowance - total link.row) (grant_of link asked)
unfolding grant_of
grant_rule link asked = greatest_rule asked (link.ledger.allowance - total link.row)

pub granted_sound : (link : Link) (asked : ℕ) → Sound link → Sound (granted asked link).link
granted_sound link asked s =
    let rate = rate_of (grant_of link asked) in
    let more = total_charged link.ledger.tick rate link.row s.ranges.slots_low in
    let fits = (grant_rule link asked).fits in
    let below = s.below in
    still_sound link (granted asked link).link s (length_charged link.ledger.tick rate link.row) refl (omega arith)

-- ---- setting up

module _ (row : List ℕ) (tick allowance : ℕ) where
  pub set_up_answered : (link : Link) → set_up_reply row tick allowance ≡ answer link → InRange (length row) allowance × (link ≡ zeroed row tick allowance)
  set_up_answered link e = let s = answered (link_in_range (length row) allowance) link (zeroed row tick allowance) 7 (sym e) in (ranged _ _ s.0, s.1)

  -- the row that is left and the record that is said make the link
  pub set_up_link : (ledger : Ledger) → ledger_in (set_up_reply row tick allowance) ≡ answer ledger
      → InRange (length row) allowance × (lent (leaves row (row_in (set_up_reply row tick allowance))) ledger ≡ zeroed row tick allowance)
  set_up_link ledger e =
      let w = through (set_up_reply row tick allowance) (λ link. answer link.ledger) ledger e in
      let s = set_up_answered w.0 w.1 in (
        s.0,
        ap₂ lent
            (ap (λ (r : Reply Link). leaves row (row_in r)) w.1 ∙ ap (λ (link : Link). link.row) s.1)
            (sym (same_answer w.2) ∙ ap (λ (link : Link). link.ledger) s.1),
      )

-- ---- moving on

module _ (link : Link) (tick : ℕ) where
  pub move_seven : link_in_range (length link.row) link.ledger.allowance ≡ false → move_reply link tick ≡ refuse 7
  move_seven r = simp r

  pub move_eight : link_in_range (length link.row) link.ledger.allowance ≡ true → link.ledger.allowance < total link.row → move_reply link tick ≡ refuse 8
  move_eight r a = simp (r, lt-leb _ _ a)

  pub move_nine : Sound link → tick < link.ledger.tick → move_reply link tick ≡ refuse 9
  move_nine s t = simp (in_ranges _ _ s.ranges, le-leb _ _ s.below, lt-leb _ _ t)

  pub move_done : Sound link → link.ledger.tick ≤ tick → move_reply link tick ≡ answer (moved_to tick link)
  move_done s t = simp (in_ranges _ _ s.ranges, le-leb _ _ s.below, le-leb _ _ t)

  -- an answer came through all three tests
  pub move_answered : (next : Link) → move_reply link tick ≡ answer next → Sound link × (link.ledger.tick ≤ tick) × (next ≡ moved_to tick link)
  move_answered next e =
      let p = replies.passed (link_in_range (length link.row) link.ledger.allowance) next _ 7 (sym e) in
      let q = replies.passed (leb (total link.row) link.ledger.allowance) next _ 8 p.1 in
      let t = answered (leb link.ledger.tick tick) next (moved_to tick link) 9 q.1 in (
        record { ranges = ranged _ _ p.0; below = leb-true _ _ q.0 },
        leb-true _ _ t.0,
        t.1,
      )

-- the same tick changes nothing
pub moved_same : (link : Link) → moved_to link.ledger.tick link ≡ link
unfolding moved_on passed
moved_same link = ap (λ (n : ℕ). lent (passed n link.ledger.tick link.row) link.ledger) {x = link.ledger.tick - link.ledger.tick} {y = 0} (omega arith)

-- ---- asking

module _ (link : Link) (tick asked : ℕ) where
  pub ask_seven : within 1 asked top_code ≡ false → ask_reply link tick asked ≡ refuse 7
  ask_seven r = simp r

  -- past its own test, asking goes by what moving on replies
  pub ask_after : (m : Reply Link) → within 1 asked top_code ≡ true → move_reply link tick ≡ m → ask_reply link tick asked ≡ and_then m (λ moved. answer (granted asked moved))
  ask_after m r e =
      chosen (within 1 asked top_code) _ (refuse 7) r ∙ ap (λ (x : Reply Link). and_then x (λ moved. answer (granted asked moved))) e

  -- an answer is the grant of a link that moved on
  pub ask_answered : (g : Granted) → ask_reply link tick asked ≡ answer g
      → (1 ≤ asked) × (asked ≤ top_code) × Sound link × (link.ledger.tick ≤ tick) × (g ≡ granted asked (moved_to tick link))
  ask_answered g e =
      let p = replies.passed (within 1 asked top_code) g _ 7 (sym e) in
      let w = through (move_reply link tick) (λ moved. answer (granted asked moved)) g (sym p.1) in
      let m = move_answered link tick w.0 w.1 in
      (within_low 1 asked top_code p.0, within_high 1 asked top_code p.0, m.0, m.1, sym (same_answer w.2) ∙ ap (granted asked) m.2)
