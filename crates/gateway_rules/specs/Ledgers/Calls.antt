-- The calls on a ledger (document 01, "Ledger" and "Numbers and refusals"): setting up, moving on, asking. A ledger is document 01's
-- account of what a router approved on a link in the last ticks. Assumes nothing.
use Rattle.std.specs.Prelude.{ℕ, ◌-◌, ◌^◌, Bool, ◌&&◌, List, leb, length, replicate}
use Rattle.common.specs.Choice.{pick, within}
use Rattle.refusals.specs.Reply.{Reply, answer, refuse, and_then}
use Rattle.wire_rules.specs.Rates.Steps.{top_code, rate_of, greatest_up_to}
use Rattle.gateway_rules.specs.declared.Ledger.{Ledger}
use Rattle.gateway_rules.specs.Ledgers.Rows.{total, moved_on, charged}

-- "a row of 1 to 64 slots", "A .. at most 2^40"
abbrev pub most_slots : ℕ
most_slots = 64

abbrev pub most_allowance : ℕ
most_allowance = 2 ^ 40

-- what a link lends: "a row of .. slots .. with a tick and an allowance A"; tick and allowance are the ledger's record
pub record Link : Type 0 where
  pub row : List ℕ
  pub ledger : Ledger

abbrev pub lent : List ℕ → Ledger → Link
lent row ledger = record { row = row; ledger = ledger }

-- the row's length and the allowance in their ranges
unfoldable pub link_in_range : ℕ → ℕ → Bool
link_in_range slots allowance = within 1 slots most_slots && leb allowance most_allowance

-- setting up tests 7 alone; the row is zeroed, and stands at the tick given
abbrev pub set_up_reply : List ℕ → ℕ → ℕ → Reply Link
set_up_reply row tick allowance =
    pick (link_in_range (length row) allowance)
    (answer (lent (replicate (length row) 0) (record { tick = tick; allowance = allowance })))
    (refuse 7)

-- the link at a tick that is not before the stored one
abbrev pub moved_to : ℕ → Link → Link
moved_to tick link = lent (moved_on link.ledger.tick tick link.row) (record { tick = tick; allowance = link.ledger.allowance })

-- "Ledger calls test 7, 8, 9": 8 for the "row's total, as lent, above A", 9 for a "tick before the stored one"
abbrev pub move_reply : Link → ℕ → Reply Link
move_reply link tick =
    pick (link_in_range (length link.row) link.ledger.allowance)
    (pick (leb (total link.row) link.ledger.allowance)
    (pick (leb link.ledger.tick tick)
    (answer (moved_to tick link))
    (refuse 9))
    (refuse 8))
    (refuse 7)

-- "The grant is the greatest code whose rate is at most A less the row's total, and at most the code asked."
unfoldable pub grant_of : Link → ℕ → ℕ
grant_of link asked = greatest_up_to asked (link.ledger.allowance - total link.row)

-- a code that was granted, and the link afterwards
pub record Granted : Type 0 where
  pub code : ℕ
  pub link : Link

-- "Its rate is added to the present slot; code 0 adds nothing"
abbrev pub granted : ℕ → Link → Granted
granted asked link = record {
  code = grant_of link asked;
  link = lent (charged link.ledger.tick (rate_of (grant_of link asked)) link.row) link.ledger;
}

-- "a code asked of .. ledger 1 to 15", else 7; then the link moves on to the tick, or is refused; then the grant, from the row as it stands
-- at that tick
abbrev pub ask_reply : Link → ℕ → ℕ → Reply Granted
ask_reply link tick asked =
    pick (within 1 asked top_code)
    (and_then (move_reply link tick) (λ moved. answer (granted asked moved)))
    (refuse 7)

-- what a reply holds, part by part
abbrev pub ledger_in : Reply Link → Reply Ledger
ledger_in reply = and_then reply (λ link. answer link.ledger)

abbrev pub row_in : Reply Link → Reply (List ℕ)
row_in reply = and_then reply (λ link. answer link.row)

abbrev pub code_in : Reply Granted → Reply ℕ
code_in reply = and_then reply (λ granted. answer granted.code)

abbrev pub link_in : Reply Granted → Reply Link
link_in reply = and_then reply (λ granted. answer granted.link)
