-- The number of each answer of an exported function: 0 for what was done, 1 to 15 for a refusal of the table, 40 for a receiver's
-- "unanswered", 41 for marking's "drop". Assumes nothing.
use Rattle.std.specs.Prelude.{ℕ, List}
use Rattle.refusals.specs.Reply.{Reply, answer, refuse}
use Rattle.wire_rules.specs.declared.Marking.{Marking}
use Rattle.wire_rules.specs.declared.Marking.TheVariants.{Marked, Dropped}
use Rattle.gateway_rules.specs.Ledgers.Calls.{lent}
use Rattle.gateway_rules.specs.Router.Routers.{Passage, passage}
use Rattle.gateway_rules.specs.declared.Reaction.{Reaction}
use Rattle.gateway_rules.specs.declared.Reaction.TheVariants.{Unanswered, Answered}

-- a packet forwarded
abbrev pub router_result : Reply (Unit {0}) → ℕ
router_result (answer _) = 0
router_result (refuse n) = n

-- a request answered or not
abbrev pub receiver_result : Reply Reaction → ℕ
receiver_result (answer Answered) = 0
receiver_result (answer Unanswered) = 40
receiver_result (refuse n) = n

-- a packet marked, or to be dropped
abbrev pub mark_result : Reply Marking → ℕ
mark_result (answer Marked) = 0
mark_result (answer Dropped) = 41
mark_result (refuse n) = n

-- what C lends to a router with a ledger: packet, row, tick and allowance
abbrev pub lent_by_c : List ℕ → List ℕ → ℕ → ℕ → Passage
lent_by_c packet row tick allowance = passage packet (lent row (record { tick = tick; allowance = allowance }))
