-- Laws of the calls on a ledger, as the code goes through them. Assumes nothing.
use Prim.Native.Nat.{ℕ, ◌≤◌, ◌<◌}
use mathlib.Core.Bool.{true}
use mathlib.Core.List.{List}
use mathlib.Core.Path.{◌≡◌, sym, subst}
use lib.ListN.{length}
use Rattle.refusals.specs.Reply.{answer, leaves, done}
use Rattle.refusals.proofs.ReplyLaws.{went}
use Rattle.wire_rules.specs.Rates.Steps.{rate_of, greatest_up_to}
use Rattle.wire_rules.proofs.Rates.StepLaws.{greatest_rule}
use Rattle.gateway_rules.specs.declared.Ledger.{Ledger}
use Rattle.gateway_rules.specs.Ledgers.Rows.{total}
use Rattle.gateway_rules.specs.Ledgers.Calls.{most_allowance, Link, lent, link_in_range, move_reply}
use Rattle.gateway_rules.proofs.Ledgers.CallLaws.{ranged, Sound, moved_sound, move_answered}

pub slots_low : (slots allowance : ℕ) → link_in_range slots allowance ≡ true → 0 < slots
slots_low slots allowance e = (ranged slots allowance e).slots_low

-- the greatest code up to one asked whose rate is at most a number
pub greatest_at_most : (asked left : ℕ) → greatest_up_to asked left ≤ asked
greatest_at_most asked left = (greatest_rule asked left).up_to

pub greatest_fits : (asked left : ℕ) → rate_of (greatest_up_to asked left) ≤ left
greatest_fits asked left = (greatest_rule asked left).fits

-- a link that moved on is without fault
pub moved_link : (link : Link) (tick : ℕ) (row : List ℕ) (ledger : Ledger) → answer tt ≡ done (move_reply link tick) → lent row ledger ≡ leaves link (move_reply link tick)
    → (0 < length row) × (total row ≤ ledger.allowance) × (ledger.allowance ≤ most_allowance)
moved_link link tick row ledger d l =
    let w = went link (lent row ledger) (move_reply link tick) d l in
    let m = move_answered link tick (lent row ledger) w in
    let s = subst Sound (sym m.2) (moved_sound link tick m.0) in
    (s.ranges.slots_low, s.below, s.ranges.allowance_high)
