-- The run of a path (document 01, "Path, program and callers"): the hops' travel to a packet or "lost", then receiver and sender. It is
-- told for any calls, so that a claim about it can be made of ours and of others. Assumes nothing.
use Rattle.std.specs.Prelude.{ℕ, Bool, ◌&&◌, List, [], ◌∷◌, leb, length, replicate}
use Rattle.std.specs.Prelude.{Option, None, Some}
use Rattle.common.specs.Choice.{pick}
use Rattle.refusals.specs.Reply.{Reply, answer, refuse, leaves, and_then, Outcome, answering, refusing}
use Rattle.wire_rules.specs.Rates.Steps.{top_code}
use Rattle.wire_rules.specs.Rates.Window.{transport_in_range}
use Rattle.wire_rules.specs.declared.Request.{Request}
use Rattle.wire_rules.specs.Options.Wire.{option_length}
use Rattle.wire_rules.specs.Ipv4.Views.{view}
use Rattle.gateway_rules.specs.Router.Routers.{routed, silently_routed}
use Rattle.gateway_rules.specs.Receiver.Reports.{Report, unanswered, reported, received, response_after}
use Rattle.sender_rules.specs.declared.Connection.{Connection}
use Rattle.sender_rules.specs.Connections.Records.{in_range}
use Rattle.sender_rules.specs.Sender.Calls.{Sending, while_asked, sender_calls}
use Rattle.wire_rules.specs.declared.Transport.{Transport}
use Rattle.sender_rules.specs.declared.Wish.{Wish}
use Rattle.path_rules.specs.declared.Router.{Router}
use Rattle.path_rules.specs.declared.Router.TheVariants.{Knowing, Silent}
use Rattle.path_rules.specs.Hops.Rows.{row_of}
use Rattle.path_rules.specs.Hops.Verdicts as Verdicts
use Rattle.path_rules.specs.Hops.Verdicts.{Verdict}

-- ---- the calls that a path is made of

pub record Calls : Type 0 where
  -- the sender asks: it writes a request into a buffer
  pub ask : Connection → Wish → List ℕ → Outcome (Unit {0}) Sending
  -- the routers of the path, on the packet as the last one left it. It is one call, so that a claim can tell a travel that leaves routers
  -- out
  pub travel : List Router → List ℕ → Outcome (Unit {0}) (List ℕ)
  -- the receiver with its ceiling
  pub receive : ℕ → List ℕ → Reply Report
  -- the sender takes the bytes of the response
  pub take_response : Connection → List ℕ → Transport → Outcome ℕ Connection

-- ---- the hops' travel

-- "each hop's router or silent router"
abbrev pub hop : Router → List ℕ → Reply (List ℕ)
hop (Knowing ceiling fresh) packet = routed (length packet) ceiling fresh packet
hop Silent packet = silently_routed (length packet) packet

-- the packet goes on as the hop left it, or the travel ends with the hop's refusal
abbrev pub onward : List ℕ → Reply (List ℕ) → (List ℕ → Outcome (Unit {0}) (List ℕ)) → Outcome (Unit {0}) (List ℕ)
onward packet (answer new) next = next new
onward packet (refuse n) next = refusing n packet

-- "on the packet as the last one left it, a 6 ending the run"
abbrev pub travel_by : (Router → List ℕ → Reply (List ℕ)) → List Router → List ℕ → Outcome (Unit {0}) (List ℕ)
travel_by step [] packet = answering tt packet
travel_by step (router ∷ rest) packet = onward packet (step router packet) (travel_by step rest)

-- ours: the contracts cite these
abbrev pub path_calls : Calls
path_calls = record {
  ask = sender_calls.ask;
  travel = travel_by hop;
  receive = λ ceiling packet. received (length packet) ceiling option_length packet;
  take_response = sender_calls.take_response;
}

-- ---- receiver and sender

-- the packet and the sender's record, as lent to a run and as left by it
pub record Journey : Type 0 where
  pub packet : List ℕ
  pub connection : Connection

abbrev pub journey : List ℕ → Connection → Journey
journey packet c = record { packet = packet; connection = c }

-- a run: its verdict, and what it leaves
pub record Run : Type 0 where
  pub verdict : Verdict
  pub left : Journey

abbrev pub ran : Verdict → List ℕ → Connection → Run
ran verdict packet c = record { verdict = verdict; left = journey packet c }

-- what the sender says of the response
abbrev pub said_of : Reply ℕ → Verdict
said_of (answer rate) = Verdicts.accepted rate
said_of (refuse n) = Verdicts.not_accepted n

-- a response buffer before the receiver has written to it
abbrev pub blank : List ℕ
blank = replicate option_length 0

module _ (calls : Calls) (c : Connection) (t : Transport) where
  -- "if it answers, the response call with its bytes and the state that asking left". A receiver's refusal is told as the sender's would
  -- be; that none arises is claimed
  abbrev pub concluded : List ℕ → Reply Report → Run
  concluded packet (answer unanswered) = ran Verdicts.unanswered packet c
  concluded packet (answer (reported r)) =
      let outcome = calls.take_response c (response_after blank (answer (reported r))) t in
      ran (said_of outcome.said) packet outcome.left
  concluded packet (refuse n) = ran (Verdicts.not_accepted n) packet c

  -- "lost (a router gave 6)", or else "then the receiver". Every refusal that ends a travel is told as lost; that none but a 6 arises is
  -- claimed
  abbrev pub arrived : ℕ → Reply (Unit {0}) → List ℕ → Run
  arrived ceiling (answer _) packet = concluded packet (calls.receive ceiling packet)
  arrived ceiling (refuse n) packet = ran Verdicts.lost packet c

  -- the whole run, "after an accepted asking": routers, receiver and response
  abbrev pub run_by : ℕ → List Router → List ℕ → Run
  run_by ceiling routers packet = arrived ceiling (calls.travel routers packet).said (calls.travel routers packet).left

-- ---- the call

-- "ceilings 0 to 15", T, MSS and H, and the record
unfoldable pub run_in_range : Connection → ℕ → Transport → Bool
run_in_range c ceiling t = leb ceiling top_code && transport_in_range t.rtt t.mss t.headers && in_range c

-- 4 where the packet carries no request
abbrev pub where_asked : {A : Type 0} → Option Request → Reply A → Reply A
where_asked None reply = refuse 4
where_asked (Some r) reply = reply

-- the tests of the packet as lent, 1, 2, 3, 5 and 4, then that of the record's state, 11
abbrev pub start_reply : Connection → List ℕ → Reply (Unit {0})
start_reply c packet = and_then (view (length packet) packet) (λ v. where_asked v.request (while_asked c.state (λ request. answer tt)))

-- a run over a row of hops, by the routers that it is read as or the refusal, whatever form it is lent in. All is tested before a byte
-- changes: 7 for the row and all numbers, then the tests of `start_reply`
abbrev pub run_over : Reply (List Router) → Connection → List ℕ → ℕ → Transport → Reply Run
run_over row c packet ceiling t =
    and_then row (λ routers.
    pick (run_in_range c ceiling t)
    (and_then (start_reply c packet) (λ _. answer (run_by path_calls c t ceiling routers packet)))
    (refuse 7))

-- what the call says, and what it leaves: a refused one leaves packet and record as they were
abbrev pub call_over : Reply (List Router) → Connection → List ℕ → ℕ → Transport → Outcome Verdict Journey
call_over row c packet ceiling t =
    let reply = run_over row c packet ceiling t in
    record { said = and_then reply (λ run. answer run.verdict); left = leaves (journey packet c) (and_then reply (λ run. answer run.left)) }

-- over a row as bytes
abbrev pub run_reply : ℕ → Connection → List ℕ → List ℕ → ℕ → Transport → Reply Run
run_reply limit c packet row ceiling t = run_over (row_of limit row) c packet ceiling t

abbrev pub run_call : ℕ → Connection → List ℕ → List ℕ → ℕ → Transport → Outcome Verdict Journey
run_call limit c packet row ceiling t = call_over (row_of limit row) c packet ceiling t
