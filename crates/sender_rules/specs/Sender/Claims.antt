-- What is claimed of a sender beyond the contracts. `Asks`, `Takes` and `Ends` are predicates over the calls of any sender, in the paper's
-- numbers; ours has them, and whatever sender has them says and leaves what ours does, a QS TTL being a byte. Assumes nothing.
use Rattle.std.specs.Prelude.{ℕ, ◌+◌, ◌*◌, ◌/◌, ◌%◌, ◌^◌, ◌≤◌, ◌<◌, min, max, List, ◌⊎◌, ◌≡◌, length, get_or}
use Rattle.common.specs.Lists.{Bytes}
use Rattle.refusals.specs.Reply.{Reply, answer, refuse, Outcome, refusing, answering}
use Rattle.wire_rules.specs.declared.Response.{Response}
use Rattle.wire_rules.specs.Options.Wire.{reserved_in}
use Rattle.wire_rules.specs.Options.Requests.{request_read}
use Rattle.wire_rules.specs.Options.Responses.{response_read}
use Rattle.sender_rules.specs.declared.OpenRequest.{OpenRequest}
use Rattle.sender_rules.specs.declared.Before.{Before}
use Rattle.sender_rules.specs.declared.State.TheVariants.{Idle, Asked, Quick}
use Rattle.std.specs.Prelude.{Some}
use Rattle.sender_rules.specs.declared.Connection.{Connection}
use Rattle.sender_rules.specs.Connections.Records.{fresh_with, with_state, with_window, with_last_request}
use Rattle.sender_rules.specs.Connections.Claims.{InRange}
use Rattle.sender_rules.specs.Sender.Calls.{wish, transport, Sending, sending, Sender, sender_calls}
use Rattle.wire_rules.specs.declared.Transport.{Transport}
use Rattle.sender_rules.specs.declared.Wish.{Wish}

-- ---- what a function's arguments are handed on as

pub record Lending : Type 0 where
  pub wish_is : (code ttl qs nonce rtt time : ℕ) → wish code ttl qs nonce rtt time ≡ record { code = code; ttl = ttl; qs_ttl = qs; nonce = nonce; rtt = rtt; time = time }
  pub transport_is : (rtt mss headers : ℕ) → transport rtt mss headers ≡ record { rtt = rtt; mss = mss; headers = headers }
  pub sending_is : (c : Connection) (request : List ℕ) → sending c request ≡ record { connection = c; request = request }

-- ---- asking

-- "a code asked of sender .. 1 to 15; nonces below 2^30; starting IP TTL 1 to 255", "T 1 to 60,000,000", "option buffers exactly 8 bytes",
-- and the record in range
pub record AskGiven (c : Connection) (w : Wish) (buffer : List ℕ) : Type 0 where
  pub record_in : InRange c
  pub code_low : 1 ≤ w.code
  pub code_high : w.code ≤ 15
  pub ttl_low : 1 ≤ w.ttl
  pub ttl_high : w.ttl ≤ 255
  pub nonce_high : w.nonce < 1073741824
  pub rtt_low : 1 ≤ w.rtt
  pub rtt_high : w.rtt ≤ 60000000
  pub room_is : length buffer ≡ 8

-- what an accepted asking leaves: the request in the buffer, and the record that describes it. Reading the buffer gives back code, QS TTL
-- and nonce.
pub record Sent (c : Connection) (w : Wish) (left : Sending) : Type 0 where
  pub bytes : Bytes left.request
  pub reads : request_read left.request ≡ answer (record { rate = w.code; qs_ttl = w.qs_ttl; nonce = w.nonce })
  pub reserved : reserved_in left.request ≡ 0
  -- "asked with the starting TTL Diff, and the time is kept"; all else stays
  pub diff : ℕ
  pub diff_byte : diff < 256
  pub diff_is : (diff + w.qs_ttl) % 256 ≡ w.ttl
  pub connection_is : left.connection ≡ with_last_request (with_state c (Asked (record { code = w.code; ttl_diff = diff; nonce = w.nonce }))) (Some w.time)

-- "Asking: order 7, 9, 10."
pub record Asks (s : Sender) : Type 0 where
  pub seven : (c : Connection) (w : Wish) (buffer : List ℕ) → (AskGiven c w buffer → ⊥) → s.ask c w buffer ≡ refusing 7 (sending c buffer)
  -- "time .. before the stored one"
  pub nine : (c : Connection) (w : Wish) (buffer : List ℕ) (last : ℕ) → AskGiven c w buffer → c.last_request ≡ Some last → w.time < last → s.ask c w buffer ≡ refusing 9 (sending c buffer)
  -- "Refused with 10 exactly while asked or quick, or when less than the round trip T has passed since the last request."
  pub ten_asked : (c : Connection) (w : Wish) (buffer : List ℕ) (q : OpenRequest) → AskGiven c w buffer → c.state ≡ Asked q
      → ((last : ℕ) → c.last_request ≡ Some last → last ≤ w.time) → s.ask c w buffer ≡ refusing 10 (sending c buffer)
  pub ten_quick : (c : Connection) (w : Wish) (buffer : List ℕ) (b : Before) → AskGiven c w buffer → c.state ≡ Quick b
      → ((last : ℕ) → c.last_request ≡ Some last → last ≤ w.time) → s.ask c w buffer ≡ refusing 10 (sending c buffer)
  pub ten_soon : (c : Connection) (w : Wish) (buffer : List ℕ) (last : ℕ) → AskGiven c w buffer → c.last_request ≡ Some last → last ≤ w.time → w.time < last + w.rtt
      → s.ask c w buffer ≡ refusing 10 (sending c buffer)
  -- "Else it writes the request, with any starting QS TTL"
  pub sent : (c : Connection) (w : Wish) (buffer : List ℕ) → AskGiven c w buffer → w.qs_ttl < 256 → c.state ≡ Idle
      → ((last : ℕ) → c.last_request ≡ Some last → last + w.rtt ≤ w.time) → ((s.ask c w buffer).said ≡ answer tt) × Sent c w (s.ask c w buffer).left

-- ---- the response

-- "T 1 to 60,000,000 microseconds; MSS 1 to 65,535; H 20 to 120", "option buffers exactly 8 bytes", and the record in range
pub record ResponseGiven (c : Connection) (response : List ℕ) (t : Transport) : Type 0 where
  pub record_in : InRange c
  pub rtt_low : 1 ≤ t.rtt
  pub rtt_high : t.rtt ≤ 60000000
  pub mss_low : 1 ≤ t.mss
  pub mss_high : t.mss ≤ 65535
  pub headers_low : 20 ≤ t.headers
  pub headers_high : t.headers ≤ 120
  pub room_is : length response ≡ 8

-- "the rate is 1 to the code asked"
pub record RateFits (q : OpenRequest) (r : Response) : Type 0 where
  pub low : 1 ≤ r.rate
  pub high : r.rate ≤ q.code

-- "the rate is 1 to the code asked, TTL Diff is the stored one, and both nonces agree modulo 4 to that rate"
pub record Fits (q : OpenRequest) (r : Response) : Type 0 where
  pub rate : RateFits q r
  pub diff : r.ttl_diff ≡ q.ttl_diff
  pub nonces : q.nonce % 4 ^ r.rate ≡ r.nonce % 4 ^ r.rate

-- "floor(5,000 x 2^N x T / (1,000,000 x (MSS + H))) segments, times MSS for bytes"
abbrev pub quick_window : ℕ → Transport → ℕ
quick_window rate t = (5000 * 2 ^ rate * t.rtt) / (1000000 * (t.mss + t.headers)) * t.mss

-- "Response: order 7, 11, 12, 13, 14, 15."
pub record Takes (s : Sender) : Type 0 where
  pub seven : (c : Connection) (response : List ℕ) (t : Transport) → (ResponseGiven c response t → ⊥) → s.take_response c response t ≡ refusing 7 c
  pub eleven_idle : (c : Connection) (response : List ℕ) (t : Transport) → ResponseGiven c response t → c.state ≡ Idle → s.take_response c response t ≡ refusing 11 c
  pub eleven_quick : (c : Connection) (response : List ℕ) (t : Transport) (b : Before) → ResponseGiven c response t → c.state ≡ Quick b → s.take_response c response t ≡ refusing 11 c
  -- "not of kind 27, length 8"
  pub twelve : (c : Connection) (response : List ℕ) (t : Transport) (q : OpenRequest) → ResponseGiven c response t → c.state ≡ Asked q
      → ((get_or response 0 0 ≡ 27) × (get_or response 1 0 ≡ 8) → ⊥) → s.take_response c response t ≡ refusing 12 c
  -- "After 13, 14 or 15 the state is idle, the rest unchanged."
  pub thirteen : (c : Connection) (response : List ℕ) (t : Transport) (q : OpenRequest) (r : Response) → ResponseGiven c response t → c.state ≡ Asked q → response_read response ≡ answer r
      → (RateFits q r → ⊥) → s.take_response c response t ≡ refusing 13 (with_state c Idle)
  pub fourteen : (c : Connection) (response : List ℕ) (t : Transport) (q : OpenRequest) (r : Response) → ResponseGiven c response t → c.state ≡ Asked q → response_read response ≡ answer r
      → RateFits q r → (r.ttl_diff ≡ q.ttl_diff → ⊥) → s.take_response c response t ≡ refusing 14 (with_state c Idle)
  pub fifteen : (c : Connection) (response : List ℕ) (t : Transport) (q : OpenRequest) (r : Response) → ResponseGiven c response t → c.state ≡ Asked q → response_read response ≡ answer r
      → RateFits q r → r.ttl_diff ≡ q.ttl_diff → (q.nonce % 4 ^ r.rate ≡ r.nonce % 4 ^ r.rate → ⊥) → s.take_response c response t ≡ refusing 15 (with_state c Idle)
  -- "If that is above the window, it becomes the window and the state is quick; else the state is idle."
  pub quickens : (c : Connection) (response : List ℕ) (t : Transport) (q : OpenRequest) (r : Response) → ResponseGiven c response t → c.state ≡ Asked q → response_read response ≡ answer r
      → Fits q r → c.window < quick_window r.rate t
      → s.take_response c response t ≡ answering r.rate (with_window (with_state c (Quick (record { window = c.window }))) (quick_window r.rate t))
  pub stays : (c : Connection) (response : List ℕ) (t : Transport) (q : OpenRequest) (r : Response) → ResponseGiven c response t → c.state ≡ Asked q → response_read response ≡ answer r
      → Fits q r → quick_window r.rate t ≤ c.window → s.take_response c response t ≡ answering r.rate (with_state c Idle)

-- ---- first acknowledgement, loss, giving up

-- "Each in another state: 11, after 7."
pub record Ends (s : Sender) : Type 0 where
  pub ack_seven : (c : Connection) (flight : ℕ) → (InRange c × (flight ≤ 1099511627776) → ⊥) → s.acknowledged c flight ≡ refusing 7 c
  pub ack_idle : (c : Connection) (flight : ℕ) → InRange c → flight ≤ 1099511627776 → c.state ≡ Idle → s.acknowledged c flight ≡ refusing 11 c
  pub ack_asked : (c : Connection) (flight : ℕ) (q : OpenRequest) → InRange c → flight ≤ 1099511627776 → c.state ≡ Asked q → s.acknowledged c flight ≡ refusing 11 c
  -- "the window becomes the lesser of itself and max(flight, window before); idle"
  pub ack_quick : (c : Connection) (flight : ℕ) (b : Before) → InRange c → flight ≤ 1099511627776 → c.state ≡ Quick b
      → s.acknowledged c flight ≡ answering tt (with_window (with_state c Idle) (min c.window (max flight b.window)))
  pub loss_seven : (c : Connection) → (InRange c → ⊥) → s.lost c ≡ refusing 7 c
  pub loss_idle : (c : Connection) → InRange c → c.state ≡ Idle → s.lost c ≡ refusing 11 c
  pub loss_asked : (c : Connection) (q : OpenRequest) → InRange c → c.state ≡ Asked q → s.lost c ≡ refusing 11 c
  -- "the lesser of itself and window before; idle"
  pub loss_quick : (c : Connection) (b : Before) → InRange c → c.state ≡ Quick b → s.lost c ≡ answering tt (with_window (with_state c Idle) (min c.window b.window))
  pub give_up_seven : (c : Connection) → (InRange c → ⊥) → s.gave_up c ≡ refusing 7 c
  pub give_up_idle : (c : Connection) → InRange c → c.state ≡ Idle → s.gave_up c ≡ refusing 11 c
  pub give_up_quick : (c : Connection) (b : Before) → InRange c → c.state ≡ Quick b → s.gave_up c ≡ refusing 11 c
  -- "Giving up while asked: idle."
  pub give_up_asked : (c : Connection) (q : OpenRequest) → InRange c → c.state ≡ Asked q → s.gave_up c ≡ answering tt (with_state c Idle)

-- ---- ours has them, and they leave nothing open

pub record Ours : Type 0 where
  pub asks : Asks sender_calls
  pub takes : Takes sender_calls
  pub ends : Ends sender_calls

-- whatever sender has these says and leaves what ours does: for every record, all numbers and every buffer, a QS TTL being a byte
pub record SenderOnly : Type 0 where
  pub ask : (s : Sender) → Asks s → (c : Connection) (w : Wish) (buffer : List ℕ) → w.qs_ttl < 256 → s.ask c w buffer ≡ sender_calls.ask c w buffer
  pub take_response : (s : Sender) → Takes s → (c : Connection) (response : List ℕ) (t : Transport) → s.take_response c response t ≡ sender_calls.take_response c response t
  pub acknowledged : (s : Sender) → Ends s → (c : Connection) (flight : ℕ) → s.acknowledged c flight ≡ sender_calls.acknowledged c flight
  pub lost : (s : Sender) → Ends s → (c : Connection) → s.lost c ≡ sender_calls.lost c
  pub gave_up : (s : Sender) → Ends s → (c : Connection) → s.gave_up c ≡ sender_calls.gave_up c

-- ---- what follows for ours

-- an asking that was accepted was in range, from an idle record whose last request, if there was one, is a round trip or more ago; and it
-- wrote the request that its record describes
abbrev pub SentOnly : Type 0
SentOnly = (c : Connection) (w : Wish) (buffer : List ℕ) → w.qs_ttl < 256 → (sender_calls.ask c w buffer).said ≡ answer tt
    → AskGiven c w buffer × (c.state ≡ Idle) × ((last : ℕ) → c.last_request ≡ Some last → last + w.rtt ≤ w.time) × Sent c w (sender_calls.ask c w buffer).left

-- "accepted exactly when": what was accepted had fit
abbrev pub AcceptedOnly : Type 0
AcceptedOnly = (c : Connection) (response : List ℕ) (t : Transport) (rate : ℕ) → (sender_calls.take_response c response t).said ≡ answer rate
    → ResponseGiven c response t × (q : OpenRequest) × (r : Response) × (c.state ≡ Asked q) × (response_read response ≡ answer r) × (rate ≡ r.rate) × Fits q r

-- "A fresh record is idle with no last request, so 9 and 10 aren't given.": every asking with numbers in range is accepted
abbrev pub FreshAsks : Type 0
FreshAsks = (window ssthresh : ℕ) (w : Wish) (buffer : List ℕ) → AskGiven (fresh_with window ssthresh) w buffer → (sender_calls.ask (fresh_with window ssthresh) w buffer).said ≡ answer tt

-- a record in range stays in range under every call
pub record StaysInRange : Type 0 where
  pub ask : (c : Connection) (w : Wish) (buffer : List ℕ) → InRange c → InRange (sender_calls.ask c w buffer).left.connection
  pub take_response : (c : Connection) (response : List ℕ) (t : Transport) → InRange c → InRange (sender_calls.take_response c response t).left
  pub acknowledged : (c : Connection) (flight : ℕ) → InRange c → InRange (sender_calls.acknowledged c flight).left
  pub lost : (c : Connection) → InRange c → InRange (sender_calls.lost c).left
  pub gave_up : (c : Connection) → InRange c → InRange (sender_calls.gave_up c).left

-- a refused call leaves the record as it was, and the buffer; 13, 14 and 15 end the open request and change nothing else
pub record Unchanged : Type 0 where
  pub ask : (c : Connection) (w : Wish) (buffer : List ℕ) (n : ℕ) → (sender_calls.ask c w buffer).said ≡ refuse n → (sender_calls.ask c w buffer).left ≡ sending c buffer
  pub take_response : (c : Connection) (response : List ℕ) (t : Transport) (n : ℕ) → (sender_calls.take_response c response t).said ≡ refuse n
      → ((n ≤ 12) × ((sender_calls.take_response c response t).left ≡ c)) ⊎ ((13 ≤ n) × (n ≤ 15) × ((sender_calls.take_response c response t).left ≡ with_state c Idle))
  pub acknowledged : (c : Connection) (flight n : ℕ) → (sender_calls.acknowledged c flight).said ≡ refuse n → (sender_calls.acknowledged c flight).left ≡ c
  pub lost : (c : Connection) (n : ℕ) → (sender_calls.lost c).said ≡ refuse n → (sender_calls.lost c).left ≡ c
  pub gave_up : (c : Connection) (n : ℕ) → (sender_calls.gave_up c).said ≡ refuse n → (sender_calls.gave_up c).left ≡ c

-- how the window moves: a response never lowers it, and what ends the quick state never raises it
pub record Windows : Type 0 where
  pub take_response : (c : Connection) (response : List ℕ) (t : Transport) → c.window ≤ (sender_calls.take_response c response t).left.window
  pub acknowledged : (c : Connection) (flight : ℕ) → (sender_calls.acknowledged c flight).left.window ≤ c.window
  pub lost : (c : Connection) → (sender_calls.lost c).left.window ≤ c.window
  -- after a loss it is not above the window before, either
  pub lost_before : (c : Connection) (b : Before) → InRange c → c.state ≡ Quick b → (sender_calls.lost c).left.window ≤ b.window

-- ---- senders of which it is false

-- ours with another asking, and with another response
abbrev pub asking_by : (Connection → Wish → List ℕ → Outcome (Unit {0}) Sending) → Sender
asking_by ask = record { ask = ask; take_response = sender_calls.take_response; acknowledged = sender_calls.acknowledged; lost = sender_calls.lost; gave_up = sender_calls.gave_up }

abbrev pub taking_by : (Connection → List ℕ → Transport → Outcome ℕ Connection) → Sender
taking_by take = record { ask = sender_calls.ask; take_response = take; acknowledged = sender_calls.acknowledged; lost = sender_calls.lost; gave_up = sender_calls.gave_up }

-- what was accepted, with another rate
abbrev pub accepting : Reply ℕ → ℕ → Reply ℕ
accepting (answer rate) instead = answer instead
accepting (refuse n) instead = refuse n

pub record ShutOut : Type 0 where
  -- with its own response, it is ours
  pub otherwise_ours : (taking_by sender_calls.take_response ≡ sender_calls) × (asking_by sender_calls.ask ≡ sender_calls)
  -- "a sender that refuses everything": every response, or every asking, whatever it refuses with, and whatever it leaves
  pub refuses_everything : (number : Connection → List ℕ → Transport → ℕ) (left : Connection → List ℕ → Transport → Connection)
      → Takes (taking_by (λ c response t. record { said = refuse (number c response t); left = left c response t })) → ⊥
  pub refuses_every_asking : (number : Connection → Wish → List ℕ → ℕ) (left : Connection → Wish → List ℕ → Sending)
      → Asks (asking_by (λ c w buffer. record { said = refuse (number c w buffer); left = left c w buffer })) → ⊥
  -- "a sender that always says code 1": of what it accepts it says that the rate is 1, whatever it leaves; or it asks for code 1
  pub always_code_1 : (left : Connection → List ℕ → Transport → Connection)
      → Takes (taking_by (λ c response t. record { said = accepting (sender_calls.take_response c response t).said 1; left = left c response t })) → ⊥
  pub always_asks_1 : Asks (asking_by (λ c w buffer. sender_calls.ask c (wish 1 w.ttl w.qs_ttl w.nonce w.rtt w.time) buffer)) → ⊥
