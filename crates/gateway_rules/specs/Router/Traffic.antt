-- Packets through one router with one ledger, one after the other, and the rates that the router left in them. It is defined for any such
-- router, so that a claim about it can be made of ours and of others. Assumes nothing.
use Rattle.std.specs.Prelude.{ℕ, List, [], ◌∷◌, length}
use Rattle.std.specs.Prelude.{Option, None, Some}
use Rattle.common.specs.Lists.{Bytes}
use Rattle.refusals.specs.Reply.{Reply, answer, refuse, Outcome}
use Rattle.wire_rules.specs.declared.Request.{Request}
use Rattle.wire_rules.specs.Ipv4.Views.{View, view}
use Rattle.gateway_rules.specs.Ledgers.Calls.{Link}
use Rattle.gateway_rules.specs.Ledgers.History.{Approval, approved_last}
use Rattle.gateway_rules.specs.Router.Routers.{Passage, passage}

-- the call of a router with a ledger, on a packet and its link: by ceiling, fresh nonce and tick
abbrev pub LedgerRouter : Type 0
LedgerRouter = ℕ → ℕ → ℕ → Passage → Outcome (Unit {0}) Passage

-- a packet that comes to the router, and what the call is given besides
pub record Arrival : Type 0 where
  pub packet : List ℕ
  pub ceiling : ℕ
  pub fresh : ℕ
  pub tick : ℕ

abbrev pub OfBytes : List Arrival → Type 0
OfBytes [] = Unit {0}
OfBytes (a ∷ rest) = Bytes a.packet × OfBytes rest

-- a packet that was passed on, and the tick of the call
pub record Sent : Type 0 where
  pub packet : List ℕ
  pub tick : ℕ

-- what has gone through: the link as it is now, and the packets that were passed on, the latest first
pub record Traffic : Type 0 where
  pub link : Link
  pub sent : List Sent

-- one call more, by what it said and what it left
abbrev pub after_saying : Traffic → ℕ → Reply (Unit {0}) → Passage → Traffic
after_saying traffic tick (answer _) left = record { link = left.link; sent = record { packet = left.packet; tick = tick } ∷ traffic.sent }
after_saying traffic tick (refuse n) left = record { link = left.link; sent = traffic.sent }

abbrev pub after_arrival : LedgerRouter → Traffic → Arrival → Traffic
after_arrival router traffic a =
    let outcome = router a.ceiling a.fresh a.tick (passage a.packet traffic.link) in
    after_saying traffic a.tick outcome.said outcome.left

abbrev pub after_arrivals : LedgerRouter → Traffic → List Arrival → Traffic
after_arrivals router traffic [] = traffic
after_arrivals router traffic (a ∷ rest) = after_arrivals router (after_arrival router traffic a) rest

-- the rate code that stands in a packet: that of its request, and 0 where it has none
abbrev pub code_of : Option Request → ℕ
code_of None = 0
code_of (Some r) = r.rate

abbrev pub code_seen : Reply View → ℕ
code_seen (answer v) = code_of v.request
code_seen (refuse n) = 0

abbrev pub code_left : List ℕ → ℕ
code_left packet = code_seen (view (length packet) packet)

-- what was left in the packets, as approvals at the ticks of their calls; and the sum of these rates at the last S ticks up to t
abbrev pub approvals_in : List Sent → List Approval
approvals_in [] = []
approvals_in (s ∷ rest) = record { tick = s.tick; code = code_left s.packet } ∷ approvals_in rest

abbrev pub left_last : ℕ → ℕ → List Sent → ℕ
left_last slots t sent = approved_last slots t (approvals_in sent)
