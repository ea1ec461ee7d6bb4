-- What is claimed of a path: demand 3, whole. `Demand3` is a predicate over the calls of any path; ours has it, and paths with one wrong
-- part do not. Besides: which refusal a run gives, what can arise after it has started and what it leaves, and that there is always
-- something to run. Ranges are the paper's numbers. Assumes nothing.
use Rattle.std.specs.Prelude.{ℕ, ◌≤◌, ◌<◌, min, ◌⊎◌, ◌≡◌, eqb, length, get_or, take, drop}
use mathlib.Core.List.{List, [], ◌∷◌, ◌++◌, Permᴰ}
use Rattle.std.specs.Prelude.{None, Some}
use Rattle.common.specs.Choice.{pick}
use Rattle.common.specs.Lists.{Bytes}
use Rattle.refusals.specs.Reply.{Reply, answer, refuse, and_then, Outcome, answering, refusing}
use Rattle.wire_rules.specs.declared.Request.{Request}
use Rattle.wire_rules.specs.declared.Response.{Response}
use Rattle.wire_rules.specs.Ipv4.Packets.{located}
use Rattle.wire_rules.specs.Ipv4.Views.{view}
use Rattle.wire_rules.specs.Ipv4.Claims.{SameHeader, LeftAlike}
use Rattle.gateway_rules.specs.Router.Claims.{touching_nothing}
use Rattle.gateway_rules.specs.Router.Traffic.{code_left}
use Rattle.gateway_rules.specs.Router.Routers.{routed, silently_routed}
use Rattle.gateway_rules.specs.Receiver.Reports as Reports
use Rattle.gateway_rules.specs.Receiver.Reports.{reported, received, response_after}
use Rattle.sender_rules.specs.declared.OpenRequest.{OpenRequest}
use Rattle.sender_rules.specs.declared.Before.{Before}
use Rattle.sender_rules.specs.declared.State.TheVariants.{Idle, Asked, Quick}
use Rattle.sender_rules.specs.declared.Connection.{Connection}
use Rattle.sender_rules.specs.Connections.Records.{fresh_with}
use Rattle.sender_rules.specs.Connections.Claims.{InRange}
use Rattle.sender_rules.specs.Sender.Calls.{wish, Sending, sender_calls}
use Rattle.wire_rules.specs.declared.Transport.{Transport}
use Rattle.sender_rules.specs.declared.Wish.{Wish}
use Rattle.sender_rules.specs.Sender.Claims.{AskGiven}
use Rattle.path_rules.specs.declared.Router.{Router}
use Rattle.path_rules.specs.declared.Router.TheVariants.{Knowing, Silent}
use Rattle.path_rules.specs.declared.Summary.{Summary}
use Rattle.path_rules.specs.Hops.Rows.{row_of}
use Rattle.path_rules.specs.Hops.Summaries.{summary_of, summary_reply, joined, join_reply}
use Rattle.path_rules.specs.Hops.Verdicts.{Verdict, lost, unanswered, not_accepted, accepted, verdict_of, verdict_reply}
use Rattle.path_rules.specs.Hops.Claims.{Spells, RoutersInRange}
use Rattle.path_rules.specs.Path.Runs.{Calls, hop, onward, travel_by, path_calls, Journey, journey, blank, run_by, run_call}
use Rattle.path_rules.specs.Path.Demands.{Setting, verdict_by, plain}

-- ---- what demand 3 starts from

-- "a request packet without fault (checks 1, 2, 3 and 5), in which the walk finds the option as the sender wrote it and whose IP TTL is the
-- starting TTL the sender was given"
pub record Carried (option : List ℕ) (ttl : ℕ) (packet : List ℕ) : Type 0 where
  pub bytes : Bytes packet
  pub place : ℕ
  pub faultless : located (length packet) packet ≡ answer (Some place)
  pub written : take 8 (drop place packet) ≡ option
  pub starts : get_or packet 8 0 ≡ ttl

-- "T 1 to 60,000,000 microseconds; MSS 1 to 65,535; H 20 to 120"
pub record TransportGiven (t : Transport) : Type 0 where
  pub rtt_low : 1 ≤ t.rtt
  pub rtt_high : t.rtt ≤ 60000000
  pub mss_low : 1 ≤ t.mss
  pub mss_high : t.mss ≤ 65535
  pub headers_low : 20 ≤ t.headers
  pub headers_high : t.headers ≤ 120

-- the asking was accepted, so that its numbers and the record are in range; the packet carries the request that it wrote; the response
-- comes "while that request is open", to a record in the state that asking left; and "all numbers in their ranges". Of the list of routers
-- there is no limit
pub record Demanded (calls : Calls) (g : Setting) : Type 0 where
  pub qs_byte : g.wish.qs_ttl < 256
  pub asked : (calls.ask g.connection g.wish g.buffer).said ≡ answer tt
  pub carried : Carried (calls.ask g.connection g.wish g.buffer).left.request g.wish.ttl g.packet
  pub still_open : g.waiting.state ≡ (calls.ask g.connection g.wish g.buffer).left.connection.state
  pub waiting_in : InRange g.waiting
  pub transport_given : TransportGiven g.transport
  pub ceiling_high : g.ceiling ≤ 15
  pub routers_given : RoutersInRange g.routers

-- ---- accepted exactly when

abbrev pub AllKnow : List Router → Type 0
AllKnow [] = Unit {0}
AllKnow (Knowing ceiling fresh ∷ rest) = AllKnow rest
AllKnow (Silent ∷ rest) = ⊥

-- of the routers that know Quick-Start
abbrev pub AllAllow : List Router → Type 0
AllAllow [] = Unit {0}
AllAllow (Knowing ceiling fresh ∷ rest) = (1 ≤ ceiling) × AllAllow rest
AllAllow (Silent ∷ rest) = AllAllow rest

-- "its starting TTL is greater than the number of routers, every router knows Quick-Start, and every router and the receiver allow at least
-- step 1"
pub record Passable (g : Setting) : Type 0 where
  pub outlasts : length g.routers < g.wish.ttl
  pub all_know : AllKnow g.routers
  pub all_allow : AllAllow g.routers
  pub receiver_allows : 1 ≤ g.ceiling

-- "the least of the request and all ceilings"
abbrev pub least_along : ℕ → List Router → ℕ → ℕ
least_along code [] ceiling = min code ceiling
least_along code (Knowing own fresh ∷ rest) ceiling = min own (least_along code rest ceiling)
least_along code (Silent ∷ rest) ceiling = least_along code rest ceiling

pub record Accepting (calls : Calls) : Type 0 where
  pub accepts : (g : Setting) → Demanded calls g → Passable g → verdict_by calls g ≡ accepted (least_along g.wish.code g.routers g.ceiling)
  pub only : (g : Setting) → Demanded calls g → (rate : ℕ) → verdict_by calls g ≡ accepted rate
      → Passable g × (rate ≡ least_along g.wish.code g.routers g.ceiling)

-- ---- cutting and order

-- a path in parts, each with the bytes that spell it, put together two by two in any bracketing; a part may be empty
pub data Cut : Type 0 where
  part : (routers : List Router) (row : List ℕ) → Spells routers row → Cut
  both : Cut → Cut → Cut

abbrev pub whole : Cut → List Router
whole (part routers row spells) = routers
whole (both a b) = whole a ++ whole b

-- "the joined summaries of its parts, as document 01 defines them"
abbrev pub joined_parts : Cut → Summary
joined_parts (part routers row spells) = summary_of routers
joined_parts (both a b) = joined (joined_parts a) (joined_parts b)

-- the same by the calls: each part's bytes summed up, and what two calls answered joined
abbrev pub summed_up : Cut → Reply Summary
summed_up (part routers row spells) = summary_reply 64 row
summed_up (both a b) = and_then (summed_up a) (λ x. and_then (summed_up b) (λ y. join_reply x y))

-- "At whichever places the path is cut, the joined summaries of its parts .. give the same verdict and rate as walking the whole path."
pub record Cutting (calls : Calls) : Type 0 where
  pub verdict : (g : Setting) → Demanded calls g → (cut : Cut) → whole cut ≡ g.routers → verdict_of (joined_parts cut) g.wish.ttl g.wish.code g.ceiling ≡ verdict_by calls g
  -- on rows of at most 64 neither summing up nor joining gives 7, nor does the verdict's call
  pub by_calls : (g : Setting) → Demanded calls g → (cut : Cut) → whole cut ≡ g.routers → length g.routers ≤ 64
      → (s : Summary) × (summed_up cut ≡ answer s) × (verdict_reply s g.wish.ttl g.wish.code g.ceiling ≡ answer (verdict_by calls g))

-- ---- there is something to run

pub record NotEmpty (calls : Calls) : Type 0 where
  -- from a fresh record every asking with numbers in range is accepted
  pub asks : (window ssthresh : ℕ) (w : Wish) (buffer : List ℕ) → AskGiven (fresh_with window ssthresh) w buffer → (calls.ask (fresh_with window ssthresh) w buffer).said ≡ answer tt
  -- and for the eight bytes that any accepted asking wrote, with whatever starting TTL, there is a packet that carries them
  pub packets : (c : Connection) (w : Wish) (buffer : List ℕ) → w.qs_ttl < 256 → (calls.ask c w buffer).said ≡ answer tt
      → Carried (calls.ask c w buffer).left.request w.ttl (plain w.ttl (calls.ask c w buffer).left.request)

-- ---- demand 3

-- "A path's verdict equals its summary's"
abbrev pub AsSummary : Calls → Type 0
AsSummary calls = (g : Setting) → Demanded calls g → verdict_by calls g ≡ verdict_of (summary_of g.routers) g.wish.ttl g.wish.code g.ceiling

pub record Demand3 (calls : Calls) : Type 0 where
  pub not_empty_lem : NotEmpty calls
  pub summary : AsSummary calls
  -- "a sender asking for step 1 to 15 accepts exactly when .. The rate is then the least of the request and all ceilings."
  pub accepting : Accepting calls
  pub cutting : Cutting calls
  -- "So does every order of the same routers", each with its own nonce; records, packets, T, MSS and H, starting QS TTLs and the sender's
  -- nonces may differ too: they do not matter
  pub order : (g h : Setting) → Demanded calls g → Demanded calls h → Permᴰ g.routers h.routers → g.wish.ttl ≡ h.wish.ttl → g.wish.code ≡ h.wish.code
      → g.ceiling ≡ h.ceiling → verdict_by calls g ≡ verdict_by calls h
  -- "lost (a router gave 6)": nothing else ends a travel, however long the path
  pub lost_by_6 : (g : Setting) → Demanded calls g → (n : ℕ) → (calls.travel g.routers g.packet).said ≡ refuse n → n ≡ 6

-- ours has it
abbrev pub PathLaw : Type 0
PathLaw = Demand3 path_calls

-- ---- the call

-- the call of a run: by record, packet, row of hops, receiver's ceiling and T, MSS and H
abbrev pub RunCall : Type 0
RunCall = Connection → List ℕ → List ℕ → ℕ → Transport → Outcome Verdict Journey

-- what has a range besides the row
pub record InRanges (c : Connection) (ceiling : ℕ) (t : Transport) : Type 0 where
  pub record_in : InRange c
  pub ceiling_high : ceiling ≤ 15
  pub transport_given : TransportGiven t

-- a run that starts
pub record Starts (c : Connection) (packet row : List ℕ) (ceiling : ℕ) (t : Transport) (routers : List Router) (q : OpenRequest) (ttl : ℕ) (r : Request) : Type 0 where
  pub row_is : row_of 64 row ≡ answer routers
  pub ranges : InRanges c ceiling t
  pub viewed : view (length packet) packet ≡ answer (record { ttl = ttl; request = Some r })
  pub waits : c.state ≡ Asked q

-- 7 for all numbers and the row, then 1, 2, 3, 5 and 4 on the packet as lent, then 11: a refused run leaves packet and record
pub record Testing (call : RunCall) : Type 0 where
  pub seven_row : (c : Connection) (packet row : List ℕ) (ceiling : ℕ) (t : Transport) → row_of 64 row ≡ refuse 7 → call c packet row ceiling t ≡ refusing 7 (journey packet c)
  pub seven : (c : Connection) (packet row : List ℕ) (ceiling : ℕ) (t : Transport) (routers : List Router) → row_of 64 row ≡ answer routers → (InRanges c ceiling t → ⊥)
      → call c packet row ceiling t ≡ refusing 7 (journey packet c)
  pub faulty : (c : Connection) (packet row : List ℕ) (ceiling : ℕ) (t : Transport) (routers : List Router) (n : ℕ) → row_of 64 row ≡ answer routers → InRanges c ceiling t
      → located (length packet) packet ≡ refuse n → call c packet row ceiling t ≡ refusing n (journey packet c)
  pub four : (c : Connection) (packet row : List ℕ) (ceiling : ℕ) (t : Transport) (routers : List Router) (ttl : ℕ) → row_of 64 row ≡ answer routers → InRanges c ceiling t
      → view (length packet) packet ≡ answer (record { ttl = ttl; request = None }) → call c packet row ceiling t ≡ refusing 4 (journey packet c)
  pub eleven_idle : (c : Connection) (packet row : List ℕ) (ceiling : ℕ) (t : Transport) (routers : List Router) (ttl : ℕ) (r : Request) → row_of 64 row ≡ answer routers
      → InRanges c ceiling t → view (length packet) packet ≡ answer (record { ttl = ttl; request = Some r }) → c.state ≡ Idle → call c packet row ceiling t ≡ refusing 11 (journey packet c)
  pub eleven_quick : (c : Connection) (packet row : List ℕ) (ceiling : ℕ) (t : Transport) (routers : List Router) (ttl : ℕ) (r : Request) (b : Before) → row_of 64 row ≡ answer routers
      → InRanges c ceiling t → view (length packet) packet ≡ answer (record { ttl = ttl; request = Some r }) → c.state ≡ Quick b → call c packet row ceiling t ≡ refusing 11 (journey packet c)
  -- any other run is that of demand 3's predicate
  pub starts : (c : Connection) (packet row : List ℕ) (ceiling : ℕ) (t : Transport) (routers : List Router) (q : OpenRequest) (ttl : ℕ) (r : Request)
      → Starts c packet row ceiling t routers q ttl r
      → call c packet row ceiling t ≡ answering (run_by path_calls c t ceiling routers packet).verdict (run_by path_calls c t ceiling routers packet).left

-- what can come of a run that started: lost by a router's 6, unanswered, the sender's own 13, 14 or 15, or accepted
abbrev pub Arises : List Router → List ℕ → Verdict → Type 0
Arises routers packet lost = (path_calls.travel routers packet).said ≡ refuse 6
Arises routers packet unanswered = Unit {0}
Arises routers packet (not_accepted n) = (13 ≤ n) × (n ≤ 15)
Arises routers packet (accepted rate) = (1 ≤ rate) × (rate ≤ 15)

pub record Running : Type 0 where
  pub tests : Testing (run_call 64)
  -- whatever call has these is ours, for every packet and row
  pub only : (call : RunCall) → Testing call → (c : Connection) (packet row : List ℕ) (ceiling : ℕ) (t : Transport) → call c packet row ceiling t ≡ run_call 64 c packet row ceiling t
  -- what arises, for every packet of bytes and row of bytes; a request that is not the one the record asked for is judged by the sender
  pub arises : (c : Connection) (packet row : List ℕ) (ceiling : ℕ) (t : Transport) (routers : List Router) (q : OpenRequest) (ttl : ℕ) (r : Request)
      → Bytes packet → Bytes row → Starts c packet row ceiling t routers q ttl r → Arises routers packet (run_by path_calls c t ceiling routers packet).verdict

-- the travel, hop by hop, and what a run leaves
pub record Leaving : Type 0 where
  -- what is lent is packet and record; the calls are the sender's own and the receiver's, with a response buffer of 8 bytes
  pub lends : (packet : List ℕ) (c : Connection) → journey packet c ≡ record { packet = packet; connection = c }
  pub asks : (c : Connection) (w : Wish) (buffer : List ℕ) → path_calls.ask c w buffer ≡ sender_calls.ask c w buffer
  pub receives : (ceiling : ℕ) (packet : List ℕ) → path_calls.receive ceiling packet ≡ received (length packet) ceiling 8 packet
  pub takes : (c : Connection) (response : List ℕ) (t : Transport) → path_calls.take_response c response t ≡ sender_calls.take_response c response t
  pub nobody : (packet : List ℕ) → path_calls.travel [] packet ≡ answering tt packet
  -- "on the packet as the last one left it"
  pub goes_on : (router : Router) (rest : List Router) (packet new : List ℕ) → hop router packet ≡ answer new → path_calls.travel (router ∷ rest) packet ≡ path_calls.travel rest new
  -- "a 6 ending the run"
  pub stops : (router : Router) (rest : List Router) (packet : List ℕ) (n : ℕ) → hop router packet ≡ refuse n → path_calls.travel (router ∷ rest) packet ≡ refusing n packet
  pub packet : (c : Connection) (packet : List ℕ) (ceiling : ℕ) (t : Transport) (routers : List Router)
      → (run_by path_calls c t ceiling routers packet).left.packet ≡ (path_calls.travel routers packet).left
  -- what was lost or unanswered leaves the record as it was; a response leaves the one that the sender's call leaves
  pub kept : (c : Connection) (packet : List ℕ) (ceiling : ℕ) (t : Transport) (routers : List Router)
      → ((run_by path_calls c t ceiling routers packet).verdict ≡ lost) ⊎ ((run_by path_calls c t ceiling routers packet).verdict ≡ unanswered)
      → (run_by path_calls c t ceiling routers packet).left.connection ≡ c
  pub taken : (c : Connection) (packet : List ℕ) (ceiling : ℕ) (t : Transport) (routers : List Router) (response : Response) → (path_calls.travel routers packet).said ≡ answer tt
      → path_calls.receive ceiling (path_calls.travel routers packet).left ≡ answer (reported response)
      → (run_by path_calls c t ceiling routers packet).left.connection ≡ (sender_calls.take_response c (response_after blank (answer (reported response))) t).left
  -- each hop is the call of its kind, with the hop's own numbers
  pub knowing : (ceiling fresh : ℕ) (packet : List ℕ) → hop (Knowing ceiling fresh) packet ≡ routed (length packet) ceiling fresh packet
  pub silent : (packet : List ℕ) → hop Silent packet ≡ silently_routed (length packet) packet
  -- the verdict of every run, whatever packet it starts from
  pub is_lost : (c : Connection) (packet : List ℕ) (ceiling : ℕ) (t : Transport) (routers : List Router) (n : ℕ) → (path_calls.travel routers packet).said ≡ refuse n
      → (run_by path_calls c t ceiling routers packet).verdict ≡ lost
  pub is_unanswered : (c : Connection) (packet : List ℕ) (ceiling : ℕ) (t : Transport) (routers : List Router) → (path_calls.travel routers packet).said ≡ answer tt
      → path_calls.receive ceiling (path_calls.travel routers packet).left ≡ answer Reports.unanswered → (run_by path_calls c t ceiling routers packet).verdict ≡ unanswered
  pub is_not_received : (c : Connection) (packet : List ℕ) (ceiling : ℕ) (t : Transport) (routers : List Router) (n : ℕ) → (path_calls.travel routers packet).said ≡ answer tt
      → path_calls.receive ceiling (path_calls.travel routers packet).left ≡ refuse n → (run_by path_calls c t ceiling routers packet).verdict ≡ not_accepted n
  pub is_accepted : (c : Connection) (packet : List ℕ) (ceiling : ℕ) (t : Transport) (routers : List Router) (response : Response) (rate : ℕ) → (path_calls.travel routers packet).said ≡ answer tt
      → path_calls.receive ceiling (path_calls.travel routers packet).left ≡ answer (reported response)
      → (sender_calls.take_response c (response_after blank (answer (reported response))) t).said ≡ answer rate → (run_by path_calls c t ceiling routers packet).verdict ≡ accepted rate
  pub is_refused : (c : Connection) (packet : List ℕ) (ceiling : ℕ) (t : Transport) (routers : List Router) (response : Response) (n : ℕ) → (path_calls.travel routers packet).said ≡ answer tt
      → path_calls.receive ceiling (path_calls.travel routers packet).left ≡ answer (reported response)
      → (sender_calls.take_response c (response_after blank (answer (reported response))) t).said ≡ refuse n → (run_by path_calls c t ceiling routers packet).verdict ≡ not_accepted n

-- what two calls of a run say and leave, of two packets that differ behind the header alone
pub record AlikeRuns (p q : List ℕ) (x y : Outcome Verdict Journey) : Type 0 where
  pub said_is : y.said ≡ x.said
  pub connection_is : y.left.connection ≡ x.left.connection
  pub packets : LeftAlike p q x.left.packet y.left.packet

-- no byte behind the header is read or changed by a run
abbrev pub BehindHeader : Type 0
BehindHeader = (c : Connection) (p q row : List ℕ) (ceiling : ℕ) (t : Transport) → SameHeader p q → AlikeRuns p q (run_call 64 c p row ceiling t) (run_call 64 c q row ceiling t)

-- ---- demand 3 of the call, on bytes

-- the bytes of a path in parts
abbrev pub whole_row : Cut → List ℕ
whole_row (part routers row spells) = row
whole_row (both a b) = whole_row a ++ whole_row b

-- what the call says over a row
abbrev pub said_by : RunCall → Setting → List ℕ → Reply Verdict
said_by call g row = (call g.waiting g.packet row g.ceiling g.transport).said

pub record OnBytes (call : RunCall) : Type 0 where
  -- a run of demand 3 over a row of at most 64 is not refused, and says its verdict
  pub verdict : (g : Setting) (row : List ℕ) → Demanded path_calls g → Spells g.routers row → length g.routers ≤ 64 → said_by call g row ≡ answer (verdict_by path_calls g)
  -- the rows of the parts summed up and joined by the calls, and judged, say what the call says of the whole row
  pub cutting : (g : Setting) → Demanded path_calls g → (cut : Cut) → whole cut ≡ g.routers → length g.routers ≤ 64
      → and_then (summed_up cut) (λ s. verdict_reply s g.wish.ttl g.wish.code g.ceiling) ≡ said_by call g (whole_row cut)
  -- two rows of the same routers in another order say the same
  pub order : (g h : Setting) (x y : List ℕ) → Demanded path_calls g → Demanded path_calls h → Spells g.routers x → Spells h.routers y → length g.routers ≤ 64
      → Permᴰ g.routers h.routers → g.wish.ttl ≡ h.wish.ttl → g.wish.code ≡ h.wish.code → g.ceiling ≡ h.ceiling → said_by call g x ≡ said_by call h y

abbrev pub CallLaw : Type 0
CallLaw = OnBytes (run_call 64)

-- ---- paths of which demand 3 is false

-- ours with another asking, another travel, and another response
abbrev pub asking : (Connection → Wish → List ℕ → Outcome (Unit {0}) Sending) → Calls
asking ask = record { ask = ask; travel = path_calls.travel; receive = path_calls.receive; take_response = path_calls.take_response }

abbrev pub travelling : (List Router → List ℕ → Outcome (Unit {0}) (List ℕ)) → Calls
travelling travel = record { ask = path_calls.ask; travel = travel; receive = path_calls.receive; take_response = path_calls.take_response }

abbrev pub taking : (Connection → List ℕ → Transport → Outcome ℕ Connection) → Calls
taking take = record { ask = path_calls.ask; travel = path_calls.travel; receive = path_calls.receive; take_response = take }

-- the first router acts; the others let the packet pass as it is, or do the IP part only
abbrev pub first_only : List Router → List ℕ → Outcome (Unit {0}) (List ℕ)
first_only [] packet = answering tt packet
first_only (router ∷ rest) packet = onward packet (hop router packet) (λ new. answering tt new)

abbrev pub all_silent : List Router → List Router
all_silent [] = []
all_silent (router ∷ rest) = Silent ∷ all_silent rest

abbrev pub first_then_silent : List Router → List ℕ → Outcome (Unit {0}) (List ℕ)
first_then_silent [] packet = answering tt packet
first_then_silent (router ∷ rest) packet = travel_by hop (router ∷ all_silent rest) packet

-- a packet whose rate has become 0 goes straight to the receiver
abbrev pub stopping : List Router → List ℕ → Outcome (Unit {0}) (List ℕ)
stopping [] packet = answering tt packet
stopping (router ∷ rest) packet = onward packet (hop router packet) (λ new. pick (eqb (code_left new) 0) (answering tt new) (stopping rest new))

-- a router that touches nothing
abbrev pub idle_hop : Router → List ℕ → Reply (List ℕ)
idle_hop (Knowing ceiling fresh) packet = touching_nothing (length packet) ceiling fresh packet
idle_hop Silent packet = hop Silent packet

pub record ShutOut : Type 0 where
  -- with its own parts, it is ours
  pub otherwise_ours : (asking path_calls.ask ≡ path_calls) × (travelling path_calls.travel ≡ path_calls) × (taking path_calls.take_response ≡ path_calls)
  -- "a sender that refuses everything": every response, whatever it refuses with and whatever it leaves; or every asking
  pub refuses_everything : (number : Connection → List ℕ → Transport → ℕ) (left : Connection → List ℕ → Transport → Connection)
      → Accepting (taking (λ c response t. refusing (number c response t) (left c response t))) → ⊥
  pub refuses_every_asking : (number : Connection → Wish → List ℕ → ℕ) (left : Connection → Wish → List ℕ → Sending)
      → NotEmpty (asking (λ c w buffer. refusing (number c w buffer) (left c w buffer))) → ⊥
  -- "a sender that always says code 1": whenever it accepts, and whatever it leaves; or that always asks for code 1
  pub always_code_1 : (take : Connection → List ℕ → Transport → Outcome ℕ Connection)
      → ((c : Connection) (response : List ℕ) (t : Transport) (rate : ℕ) → (take c response t).said ≡ answer rate → rate ≡ 1) → Accepting (taking take) → ⊥
  pub always_asks_1 : Accepting (asking (λ c w buffer. sender_calls.ask c (wish 1 w.ttl w.qs_ttl w.nonce w.rtt w.time) buffer)) → ⊥
  -- "a path walk that asks the first router and lets the others pass"
  pub first_only_lem : Accepting (travelling first_only) → ⊥
  pub first_then_silent_lem : Accepting (travelling first_then_silent) → ⊥
  -- one that stops at a denial loses no packet behind it
  pub stops_at_a_denial : AsSummary (travelling stopping) → ⊥
  -- "a router that touches nothing, though it passes as an identity in any order"
  pub touches_nothing : Accepting (travelling (travel_by idle_hop)) → ⊥
