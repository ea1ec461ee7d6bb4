-- What is claimed of a ledger beyond the contracts: which slots moving on zeroes, which refusal is given, what a grant is, that an accepted
-- call can be followed by others, and the history theorem. Ranges are the paper's numbers. Assumes nothing.
use Rattle.std.specs.Prelude.{ℕ, ◌+◌, ◌-◌, ◌^◌, ◌%◌, ◌≤◌, ◌<◌, List, [], ◌∷◌, ◌++◌, ◌⊎◌, ◌≡◌, ltb, eqb, length, get_or, set, replicate}
use Rattle.common.specs.Choice.{pick, within}
use Rattle.refusals.specs.Reply.{Reply, answer, refuse, and_then, Outcome}
use Rattle.wire_rules.specs.Rates.Steps.{top_code, rate_of}
use Rattle.wire_rules.specs.Rates.Claims.{Greatest}
use Rattle.gateway_rules.specs.declared.Ledger.{Ledger}
use Rattle.gateway_rules.specs.Ledgers.Rows.{total, cleared, moved_on, charged}
use Rattle.gateway_rules.specs.Ledgers.Calls.{Link, lent, set_up_reply, move_reply, grant_of, Granted, granted, ask_reply}
use Rattle.gateway_rules.specs.Ledgers.History.{Calls, calls_by, ledger_calls, Call, Approval, Past, begun, after_all, approved_at, approved_last}

-- ---- sums

-- the total is the sum of all slots: it is 0 of zeros, and changes by as much as a slot does
pub record Totals : Type 0 where
  pub zeros : (slots : ℕ) → total (replicate slots 0) ≡ 0
  pub change : (row : List ℕ) (slot a : ℕ) → slot < length row → total (set row slot a) + get_or row slot 0 ≡ total row + a

-- a sum of approvals is the sum over those before and those behind, each of which counts with its rate where its tick is one that is asked
-- for, and else not at all
pub record Approving : Type 0 where
  pub at_own : (t : ℕ) (a : Approval) → a.tick ≡ t → approved_at t (a ∷ []) ≡ rate_of a.code
  pub at_other : (t : ℕ) (a : Approval) → (a.tick ≡ t → ⊥) → approved_at t (a ∷ []) ≡ 0
  pub at_joined : (t : ℕ) (some more : List Approval) → approved_at t (some ++ more) ≡ approved_at t some + approved_at t more
  pub last_own : (slots t : ℕ) (a : Approval) → a.tick ≤ t → t < a.tick + slots → approved_last slots t (a ∷ []) ≡ rate_of a.code
  pub last_other : (slots t : ℕ) (a : Approval) → (t < a.tick) ⊎ (a.tick + slots ≤ t) → approved_last slots t (a ∷ []) ≡ 0
  pub last_joined : (slots t : ℕ) (some more : List Approval) → approved_last slots t (some ++ more) ≡ approved_last slots t some + approved_last slots t more

-- ---- moving on

pub record Moving : Type 0 where
  -- the slot of each tick after the old one up to the new is zeroed; a slot of none of these ticks stays
  pub zeroed : (old new t : ℕ) (row : List ℕ) → 1 ≤ length row → old < t → t ≤ new → get_or (moved_on old new row) (t % length row) 0 ≡ 0
  pub stays : (old new slot : ℕ) (row : List ℕ) → ((t : ℕ) → old < t → t ≤ new → t % length row ≡ slot → ⊥) → get_or (moved_on old new row) slot 0 ≡ get_or row slot 0
  pub long : (old new : ℕ) (row : List ℕ) → length (moved_on old new row) ≡ length row
  -- all slots are zeroed once as many ticks pass as there are slots, and the same tick changes nothing
  pub all : (old new : ℕ) (row : List ℕ) → old + length row ≤ new → moved_on old new row ≡ replicate (length row) 0
  pub same : (tick : ℕ) (row : List ℕ) → moved_on tick tick row ≡ row
  -- moving on in two steps is moving on in one
  pub two_steps : (old between new : ℕ) (row : List ℕ) → old ≤ between → between ≤ new → moved_on between new (moved_on old between row) ≡ moved_on old new row

-- ---- which refusal is given

-- "a row of 1 to 64 slots", "A .. at most 2^40"
pub record InRange (slots allowance : ℕ) : Type 0 where
  pub slots_low : 1 ≤ slots
  pub slots_high : slots ≤ 64
  pub allowance_high : allowance ≤ 2 ^ 40

-- "Ledger calls test 7, 8, 9", and accept in every other case: what a call replies on a link at a tick, where `ranges` says that its
-- numbers are in their ranges
pub record Tested {A : Type 0} (ranges : Type 0) (link : Link) (tick : ℕ) (reply : Reply A) : Type 0 where
  pub seven : (ranges → ⊥) → reply ≡ refuse 7
  pub eight : ranges → link.ledger.allowance < total link.row → reply ≡ refuse 8
  pub nine : ranges → total link.row ≤ link.ledger.allowance → tick < link.ledger.tick → reply ≡ refuse 9
  pub accepted : ranges → total link.row ≤ link.ledger.allowance → link.ledger.tick ≤ tick → (a : A) × (reply ≡ answer a)

pub record Testing : Type 0 where
  pub set_up_seven : (row : List ℕ) (tick allowance : ℕ) → (InRange (length row) allowance → ⊥) → set_up_reply row tick allowance ≡ refuse 7
  pub set_up_accepted : (row : List ℕ) (tick allowance : ℕ) → InRange (length row) allowance → (link : Link) × (set_up_reply row tick allowance ≡ answer link)
  pub move : (link : Link) (tick : ℕ) → Tested (InRange (length link.row) link.ledger.allowance) link tick (move_reply link tick)
  pub ask : (link : Link) (tick asked : ℕ) → Tested (InRange (length link.row) link.ledger.allowance × (1 ≤ asked) × (asked ≤ 15)) link tick (ask_reply link tick asked)

-- ---- what an accepted call answers and leaves

-- a row set up: zeros, at the tick and with the allowance given
pub record IsSetUp (row : List ℕ) (tick allowance : ℕ) (link : Link) : Type 0 where
  pub zeros : (slot : ℕ) → get_or link.row slot 0 ≡ 0
  pub long : length link.row ≡ length row
  pub tick_is : link.ledger.tick ≡ tick
  pub allowance_is : link.ledger.allowance ≡ allowance

-- a link moved on: its row, and the tick "still moves on"
pub record Moves (link : Link) (tick : ℕ) (next : Link) : Type 0 where
  pub row_is : next.row ≡ moved_on link.ledger.tick tick link.row
  pub tick_is : next.ledger.tick ≡ tick
  pub allowance_is : next.ledger.allowance ≡ link.ledger.allowance

-- a grant on a link that has moved on: the greatest code at most the code asked whose rate is at most A less the row's total; that rate is
-- added to the slot of the tick, and nothing else changes
pub record Grants (moved : Link) (tick asked : ℕ) (g : Granted) : Type 0 where
  pub rule : Greatest asked (moved.ledger.allowance - total moved.row) g.code
  pub only : (code : ℕ) → Greatest asked (moved.ledger.allowance - total moved.row) code → code ≡ g.code
  pub present : get_or g.link.row (tick % length moved.row) 0 ≡ get_or moved.row (tick % length moved.row) 0 + rate_of g.code
  pub others : (slot : ℕ) → (slot ≡ tick % length moved.row → ⊥) → get_or g.link.row slot 0 ≡ get_or moved.row slot 0
  pub long : length g.link.row ≡ length moved.row
  pub nothing : g.code ≡ 0 → g.link.row ≡ moved.row
  pub ledger_is : g.link.ledger ≡ moved.ledger

pub record Accepting : Type 0 where
  pub set_up_lem : (row : List ℕ) (tick allowance : ℕ) (link : Link) → set_up_reply row tick allowance ≡ answer link → IsSetUp row tick allowance link
  pub move : (link : Link) (tick : ℕ) (next : Link) → move_reply link tick ≡ answer next → Moves link tick next
  pub move_same : (link next : Link) → move_reply link link.ledger.tick ≡ answer next → next ≡ link
  pub ask : (link : Link) (tick asked : ℕ) (g : Granted) → ask_reply link tick asked ≡ answer g → (moved : Link) × Moves link tick moved × Grants moved tick asked g

-- ---- what is said and left

-- what is lent is row and ledger; a refused call says its number and leaves what it was lent; an accepted one says and leaves what it
-- replies
pub record Saying : Type 0 where
  pub lends : (row : List ℕ) (ledger : Ledger) → lent row ledger ≡ record { row = row; ledger = ledger }
  pub set_up_refused : (row : List ℕ) (tick allowance n : ℕ) → set_up_reply row tick allowance ≡ refuse n
      → ledger_calls.set_up row tick allowance ≡ record { said = refuse n; left = row }
  pub set_up_done : (row : List ℕ) (tick allowance : ℕ) (link : Link) → set_up_reply row tick allowance ≡ answer link
      → ledger_calls.set_up row tick allowance ≡ record { said = answer link.ledger; left = link.row }
  pub move_refused : (link : Link) (tick n : ℕ) → move_reply link tick ≡ refuse n → ledger_calls.move link tick ≡ record { said = refuse n; left = link }
  pub move_done : (link : Link) (tick : ℕ) (next : Link) → move_reply link tick ≡ answer next → ledger_calls.move link tick ≡ record { said = answer tt; left = next }
  pub ask_refused : (link : Link) (tick asked n : ℕ) → ask_reply link tick asked ≡ refuse n → ledger_calls.ask link tick asked ≡ record { said = refuse n; left = link }
  pub ask_done : (link : Link) (tick asked : ℕ) (g : Granted) → ask_reply link tick asked ≡ answer g
      → ledger_calls.ask link tick asked ≡ record { said = answer g.code; left = g.link }

-- ---- after an accepted call

-- a call with the link's allowance, a code 1 to 15 and a tick not earlier meets no refusal
pub record Accepts (link : Link) : Type 0 where
  pub move : (tick : ℕ) → link.ledger.tick ≤ tick → (next : Link) × (move_reply link tick ≡ answer next)
  pub ask : (tick code : ℕ) → link.ledger.tick ≤ tick → 1 ≤ code → code ≤ 15 → (g : Granted) × (ask_reply link tick code ≡ answer g)

pub record Continuing : Type 0 where
  pub after_set_up : (row : List ℕ) (tick allowance : ℕ) (link : Link) → set_up_reply row tick allowance ≡ answer link → Accepts link
  pub after_move : (link : Link) (tick : ℕ) (next : Link) → move_reply link tick ≡ answer next → Accepts next
  pub after_ask : (link : Link) (tick code : ℕ) (g : Granted) → ask_reply link tick code ≡ answer g → Accepts g.link

-- ---- the history theorem

-- "approvals of the last S ticks never pass A, and the row's total is their sum from the history"
pub record Accounted (slots allowance : ℕ) (past : Past) : Type 0 where
  pub total_is : total past.link.row ≡ approved_last slots past.tick past.approvals
  pub total_most : total past.link.row ≤ allowance
  -- at every tick, passed or to come
  pub last_most : (t : ℕ) → approved_last slots t past.approvals ≤ allowance
  -- each slot holds what was approved at its own tick, the one of the last S ticks whose slot it is; a slot that has no such tick yet holds
  -- 0
  pub slot_is : (t : ℕ) → t ≤ past.tick → past.tick < t + slots → get_or past.link.row (t % slots) 0 ≡ approved_at t past.approvals
  pub slot_early : (slot : ℕ) → past.tick < slot → slot < slots → get_or past.link.row slot 0 ≡ 0
  -- the row keeps its length, the allowance stays, and the stored tick is that of the last call that was not refused
  pub long : length past.link.row ≡ slots
  pub allowance_is : past.link.ledger.allowance ≡ allowance
  pub tick_is : past.link.ledger.tick ≡ past.tick

-- "From a zeroed row with one allowance", at any tick: this holds after any calls, at any ticks, refused ones among them; so it holds after
-- each of them
abbrev pub History : Calls → Type 0
History calls = (row : List ℕ) (tick allowance : ℕ) (ledger : Ledger) → (calls.set_up row tick allowance).said ≡ answer ledger
    → (list : List Call) → Accounted (length row) allowance (after_all calls (begun (lent (calls.set_up row tick allowance).left ledger) tick) list)

abbrev pub HistoryTheorem : Type 0
HistoryTheorem = History ledger_calls

-- ---- ledgers of which it is false

-- a ledger with our tests and ranges that moves on by `moving`, moves on before a grant by `before`, and grants by `granting`; ours has
-- `move_reply` for both, and `granted`
abbrev pub ledger_by : (Link → ℕ → Reply Link) → (Link → ℕ → Reply Link) → (ℕ → Link → Granted) → Calls
ledger_by moving before granting =
    calls_by set_up_reply moving (λ link tick asked. pick (within 1 asked top_code) (and_then (before link tick) (λ moved. answer (granting asked moved))) (refuse 7))

-- what the slot of the stored tick holds
abbrev pub held : Link → ℕ
held link = get_or link.row (link.ledger.tick % length link.row) 0

-- one that "records a sum of its own making": it grants as ours does, and stores `made` in the slot of the tick
abbrev pub own_sum : (Link → ℕ → ℕ) → Calls
own_sum made = ledger_by move_reply move_reply (λ asked link. record {
  code = grant_of link asked;
  link = lent (set link.row (link.ledger.tick % length link.row) (made link (grant_of link asked))) link.ledger;
})

-- moving on to a later tick that forgets the old tick's slot as well
abbrev pub forgetting : Link → ℕ → Reply Link
forgetting link tick =
    and_then (move_reply link tick) (λ moved. answer (lent (pick (ltb link.ledger.tick tick) (cleared link.ledger.tick moved.row) moved.row) moved.ledger))

-- moving on that zeroes the present slot when the tick stays
abbrev pub zeroing_present : Link → ℕ → Reply Link
zeroing_present link tick =
    and_then (move_reply link tick) (λ moved. answer (lent (pick (eqb link.ledger.tick tick) (cleared tick moved.row) moved.row) moved.ledger))

-- moving on that zeroes nothing, and that zeroes the new tick's slot alone
abbrev pub keeping_all : Link → ℕ → Reply Link
keeping_all link tick = and_then (move_reply link tick) (λ moved. answer (lent link.row moved.ledger))

abbrev pub zeroing_new : Link → ℕ → Reply Link
zeroing_new link tick = and_then (move_reply link tick) (λ moved. answer (lent (cleared tick link.row) moved.ledger))

-- a grant of what is asked, whatever is left
abbrev pub granting_all : ℕ → Link → Granted
granting_all asked link = record { code = asked; link = lent (charged link.ledger.tick (rate_of asked) link.row) link.ledger }

-- asking that does not move on where it grants code 0
abbrev pub staying_behind : Link → ℕ → ℕ → Reply Granted
staying_behind link tick asked = and_then (ask_reply link tick asked) (λ g. answer (pick (eqb g.code 0) (record { code = 0; link = link }) g))

-- an outcome of which the tick is stored also where it was refused
abbrev pub storing : {A : Type 0} → ℕ → Outcome A Link → Outcome A Link
storing tick outcome = record { said = outcome.said; left = lent outcome.left.row (record { tick = tick; allowance = outcome.left.ledger.allowance }) }

pub record ShutOut : Type 0 where
  -- with all of its parts ours, it is ours
  pub otherwise_ours : ledger_by move_reply move_reply granted ≡ ledger_calls
  pub own_sum_ours : own_sum (λ link code. held link + rate_of code) ≡ ledger_calls
  -- whatever sum a ledger makes up, if at some link that it comes to, asked at the tick where it stands, it stores something else than what
  -- the slot held and the rate of what it grants
  pub own_sum_lem : (made : Link → ℕ → ℕ) (row : List ℕ) (tick allowance : ℕ) (ledger : Ledger) → (ledger_calls.set_up row tick allowance).said ≡ answer ledger
      → (list : List Call) (asked : ℕ) → 1 ≤ asked → asked ≤ 15
      → let link = (after_all (own_sum made) (begun (lent (ledger_calls.set_up row tick allowance).left ledger) tick) list).link in
      (made link (grant_of link asked) ≡ held link + rate_of (grant_of link asked) → ⊥)
      → History (own_sum made) → ⊥
  -- two of these: one that stores what the slot held, and one that stores the rate alone
  pub adds_nothing : History (own_sum (λ link code. held link)) → ⊥
  pub overwrites : History (own_sum (λ link code. rate_of code)) → ⊥
  -- in moving on alone, in asking alone, or in both
  pub forgets_moving : History (ledger_by forgetting move_reply granted) → ⊥
  pub forgets_asking : History (ledger_by move_reply forgetting granted) → ⊥
  pub forgets_both : History (ledger_by forgetting forgetting granted) → ⊥
  pub zeroes_present : History (ledger_by zeroing_present zeroing_present granted) → ⊥
  pub keeps_all : History (ledger_by keeping_all keeping_all granted) → ⊥
  pub zeroes_new : History (ledger_by zeroing_new zeroing_new granted) → ⊥
  pub grants_all : History (ledger_by move_reply move_reply granting_all) → ⊥
  -- these by the stored tick
  pub stays_behind : History (calls_by set_up_reply move_reply staying_behind) → ⊥
  pub stores_moving : History (record { set_up = ledger_calls.set_up; move = λ link tick. storing tick (ledger_calls.move link tick); ask = ledger_calls.ask }) → ⊥
  pub stores_asking : History (record { set_up = ledger_calls.set_up; move = ledger_calls.move; ask = λ link tick asked. storing tick (ledger_calls.ask link tick asked) }) → ⊥
