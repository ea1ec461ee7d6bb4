-- The history of a link: calls of every kind after its row was set up, and what was approved when. It is defined for the calls of any
-- ledger, so that a claim about it can be made of ours and of others. Assumes nothing.
use Rattle.std.specs.Prelude.{ℕ, ◌+◌, Bool, ◌&&◌, List, [], ◌∷◌, leb, ltb, eqb}
use Rattle.common.specs.Choice.{pick}
use Rattle.refusals.specs.Reply.{Reply, answer, refuse, leaves, done, Outcome}
use Rattle.wire_rules.specs.Rates.Steps.{rate_of}
use Rattle.gateway_rules.specs.declared.Ledger.{Ledger}
use Rattle.gateway_rules.specs.Ledgers.Calls.{Link, Granted, set_up_reply, move_reply, ask_reply, ledger_in, row_in, code_in, link_in}

-- the calls of a ledger: what each says, and what it leaves behind in the link, or in the row that it sets up
pub record Calls : Type 0 where
  pub set_up : List ℕ → ℕ → ℕ → Outcome Ledger (List ℕ)
  pub move : Link → ℕ → Outcome (Unit {0}) Link
  pub ask : Link → ℕ → ℕ → Outcome ℕ Link

-- calls by their replies: a refused call leaves what it was lent
abbrev pub calls_by : (List ℕ → ℕ → ℕ → Reply Link) → (Link → ℕ → Reply Link) → (Link → ℕ → ℕ → Reply Granted) → Calls
calls_by set_up move ask = record {
  set_up = λ row tick allowance. record { said = ledger_in (set_up row tick allowance); left = leaves row (row_in (set_up row tick allowance)) };
  move = λ link tick. record { said = done (move link tick); left = leaves link (move link tick) };
  ask = λ link tick code. record { said = code_in (ask link tick code); left = leaves link (link_in (ask link tick code)) };
}

-- ours: the contracts of `ledger::set_up`, `move_on` and `ask` cite these
abbrev pub ledger_calls : Calls
ledger_calls = calls_by set_up_reply move_reply ask_reply

-- a call after the row was set up: moving on to a tick, or asking for a code at a tick
pub data Call : Type 0 where
  moving : (tick : ℕ) → Call
  asking : (tick code : ℕ) → Call

-- a code that was granted, 0 too, and the tick at which it was asked for
pub record Approval : Type 0 where
  pub tick : ℕ
  pub code : ℕ

-- what has happened: the link as it is now, the tick of the last call that was not refused, and all approvals, the latest first. Tick and
-- approvals are taken from the calls and what was said, and from nothing that the ledger keeps.
pub record Past : Type 0 where
  pub link : Link
  pub tick : ℕ
  pub approvals : List Approval

-- the row was set up at a tick, and nothing has happened since
abbrev pub begun : Link → ℕ → Past
begun link tick = record { link = link; tick = tick; approvals = [] }

-- one call more, by what it said and the link that it left
abbrev pub after_moving : ℕ → Past → Reply (Unit {0}) → Link → Past
after_moving tick past (answer _) link = record { link = link; tick = tick; approvals = past.approvals }
after_moving tick past (refuse n) link = record { link = link; tick = past.tick; approvals = past.approvals }

abbrev pub after_asking : ℕ → Past → Reply ℕ → Link → Past
after_asking tick past (answer code) link = record { link = link; tick = tick; approvals = record { tick = tick; code = code } ∷ past.approvals }
after_asking tick past (refuse n) link = record { link = link; tick = past.tick; approvals = past.approvals }

abbrev pub after : Calls → Past → Call → Past
after calls past (moving tick) = after_moving tick past (calls.move past.link tick).said (calls.move past.link tick).left
after calls past (asking tick code) = after_asking tick past (calls.ask past.link tick code).said (calls.ask past.link tick code).left

-- calls one after the other
abbrev pub after_all : Calls → Past → List Call → Past
after_all calls past [] = past
after_all calls past (call ∷ rest) = after_all calls (after calls past call) rest

-- the sum of the rates approved at one tick
abbrev pub approved_at : ℕ → List Approval → ℕ
approved_at t [] = 0
approved_at t (a ∷ rest) = pick (eqb a.tick t) (rate_of a.code) 0 + approved_at t rest

-- a tick is one of the last S ticks up to t
unfoldable pub in_last : ℕ → ℕ → ℕ → Bool
in_last slots t tick = leb tick t && ltb t (tick + slots)

-- "approvals of the last S ticks": the sum of their rates, at the last S ticks up to t
abbrev pub approved_last : ℕ → ℕ → List Approval → ℕ
approved_last slots t [] = 0
approved_last slots t (a ∷ rest) = pick (in_last slots t a.tick) (rate_of a.code) 0 + approved_last slots t rest
