-- The sender's calls (document 01, "Router, receiver, sender", "Numbers and refusals"): what each says and what it leaves. Assumes nothing.
use Rattle.std.specs.Prelude.{ℕ, ◌+◌, min, max, Bool, true, false, ◌&&◌, List, leb, ltb, eqb, length}
use Rattle.common.specs.Choice.{pick, within}
use Rattle.refusals.specs.Reply.{Reply, answer, refuse, and_then, Outcome, outcome_of}
use Rattle.wire_rules.specs.Rates.Steps.{top_code}
use Rattle.wire_rules.specs.Rates.Window.{longest_rtt, transport_in_range, window_bytes}
use Rattle.wire_rules.specs.declared.Response.{Response}
use Rattle.wire_rules.specs.Options.Wire.{option_length, nonce_limit, top_ttl}
use Rattle.wire_rules.specs.Options.Nonces.{agree}
use Rattle.wire_rules.specs.Options.Requests.{request_written}
use Rattle.wire_rules.specs.Options.Responses.{ttl_diff, response_read}
use Rattle.wire_rules.specs.declared.Transport.{Transport}
use Rattle.sender_rules.specs.declared.Wish.{Wish}
use Rattle.sender_rules.specs.declared.OpenRequest.{OpenRequest}
use Rattle.sender_rules.specs.declared.Before.{Before}
use Rattle.sender_rules.specs.declared.State.{State}
use Rattle.sender_rules.specs.declared.State.TheVariants.{Idle, Asked, Quick}
use Rattle.std.specs.Prelude.{None, Some}
use Rattle.sender_rules.specs.declared.Connection.{Connection}
use Rattle.sender_rules.specs.Connections.Records.{most_bytes, is_before, in_range, with_state, with_window, with_last_request, Moment}

-- what a sender asks with: the code, the starting IP TTL and QS TTL, the nonce, the round trip T and the time
abbrev pub wish : ℕ → ℕ → ℕ → ℕ → ℕ → ℕ → Wish
wish code ttl qs nonce rtt time = record { code = code; ttl = ttl; qs_ttl = qs; nonce = nonce; rtt = rtt; time = time }

-- T, MSS and H
abbrev pub transport : ℕ → ℕ → ℕ → Transport
transport rtt mss headers = record { rtt = rtt; mss = mss; headers = headers }

-- the record and the buffer of a request, as lent to an asking and as left by it
pub record Sending : Type 0 where
  pub connection : Connection
  pub request : List ℕ

abbrev pub sending : Connection → List ℕ → Sending
sending c request = record { connection = c; request = request }

-- ---- asking

-- "a code asked of sender or ledger 1 to 15", "starting IP TTL 1 to 255", "nonces below 2^30", "T 1 to 60,000,000 microseconds", "option
-- buffers exactly 8 bytes"
unfoldable pub ask_in_range : ℕ → ℕ → ℕ → ℕ → ℕ → Bool
ask_in_range code ttl nonce rtt room = within 1 code top_code && within 1 ttl top_ttl && ltb nonce nonce_limit && within 1 rtt longest_rtt && eqb room option_length

-- "while asked or quick"
unfoldable pub is_busy : State → Bool
is_busy Idle = false
is_busy (Asked request) = true
is_busy (Quick before) = true

-- "less than the round trip T has passed since the last request"
unfoldable pub is_soon : ℕ → ℕ → Moment → Bool
is_soon time rtt None = false
is_soon time rtt (Some last) = ltb time (last + rtt)

-- "the state is asked with the starting TTL Diff, and the time is kept"
abbrev pub asked : Connection → Wish → Connection
asked c w = with_last_request (with_state c (Asked (record { code = w.code; ttl_diff = ttl_diff w.ttl w.qs_ttl; nonce = w.nonce }))) (Some w.time)

-- "Asking: order 7, 9, 10. .. Else it writes the request, with any starting QS TTL"
abbrev pub ask_reply : Connection → Wish → List ℕ → Reply Sending
ask_reply c w buffer =
    pick (in_range c && ask_in_range w.code w.ttl w.nonce w.rtt (length buffer))
    (pick (is_before w.time c.last_request) (refuse 9)
    (pick (is_busy c.state) (refuse 10)
    (pick (is_soon w.time w.rtt c.last_request) (refuse 10)
    (and_then (request_written buffer w.code w.qs_ttl w.nonce) (λ request. answer (sending (asked c w) request))))))
    (refuse 7)

-- ---- the response

-- "Each in another state: 11": what is done while asked, and while quick
abbrev pub while_asked : {A : Type 0} → State → (OpenRequest → Reply A) → Reply A
while_asked (Asked request) next = next request
while_asked Idle next = refuse 11
while_asked (Quick before) next = refuse 11

abbrev pub while_quick : {A : Type 0} → State → (Before → Reply A) → Reply A
while_quick (Quick before) next = next before
while_quick Idle next = refuse 11
while_quick (Asked request) next = refuse 11

-- "accepted exactly when the rate is 1 to the code asked, TTL Diff is the stored one, and both nonces agree modulo 4 to that rate": the
-- rate, or 13, 14 or 15
unfoldable pub judged : OpenRequest → Response → Reply ℕ
judged request response =
    pick (within 1 response.rate request.code)
    (pick (eqb response.ttl_diff request.ttl_diff)
    (pick (agree response.rate request.nonce response.nonce) (answer response.rate) (refuse 15))
    (refuse 14))
    (refuse 13)

-- what eight bytes get while asked: reading them gives the 12
abbrev pub taken : OpenRequest → List ℕ → Reply ℕ
taken request response = and_then (response_read response) (judged request)

-- "Response: order 7, 11, 12, 13, 14, 15."
abbrev pub response_reply : Connection → List ℕ → Transport → Reply ℕ
response_reply c response t =
    pick (in_range c && transport_in_range t.rtt t.mss t.headers && eqb (length response) option_length)
    (while_asked c.state (λ request. taken request response))
    (refuse 7)

-- "If that is above the window, it becomes the window and the state is quick; else the state is idle."
unfoldable pub granted : Connection → ℕ → Connection
granted c window = pick (ltb c.window window) (with_window (with_state c (Quick (record { window = c.window }))) window) (with_state c Idle)

-- the record by what the response got: "After 13, 14 or 15 the state is idle, the rest unchanged."
abbrev pub after_response : Connection → Transport → Reply ℕ → Connection
after_response c t (answer rate) = granted c (window_bytes rate t.rtt t.mss t.headers)
after_response c t (refuse n) = pick (within 13 n 15) (with_state c Idle) c

-- ---- what ends a request, and the quick state

-- "the window becomes the lesser of itself and" another; "idle"
abbrev pub back_to : Connection → ℕ → Connection
back_to c window = with_window (with_state c Idle) (min c.window window)

-- "First acknowledgement while quick (fixed here): the window becomes the lesser of itself and max(flight, window before); idle."; "flight
-- .. at most 2^40"
abbrev pub acknowledged_reply : Connection → ℕ → Reply Connection
acknowledged_reply c flight =
    pick (in_range c && leb flight most_bytes)
    (while_quick c.state (λ before. answer (back_to c (max flight before.window))))
    (refuse 7)

-- "Loss while quick: the lesser of itself and window before; idle."
abbrev pub loss_reply : Connection → Reply Connection
loss_reply c = pick (in_range c) (while_quick c.state (λ before. answer (back_to c before.window))) (refuse 7)

-- "Giving up while asked: idle."
abbrev pub give_up_reply : Connection → Reply Connection
give_up_reply c = pick (in_range c) (while_asked c.state (λ request. answer (with_state c Idle))) (refuse 7)

-- ---- the calls of a sender: what each says, and what it leaves behind

pub record Sender : Type 0 where
  pub ask : Connection → Wish → List ℕ → Outcome (Unit {0}) Sending
  pub take_response : Connection → List ℕ → Transport → Outcome ℕ Connection
  pub acknowledged : Connection → ℕ → Outcome (Unit {0}) Connection
  pub lost : Connection → Outcome (Unit {0}) Connection
  pub gave_up : Connection → Outcome (Unit {0}) Connection

-- ours: the contracts cite these
abbrev pub sender_calls : Sender
sender_calls = record {
  ask = λ c w buffer. outcome_of (sending c buffer) (ask_reply c w buffer);
  take_response = λ c response t. record { said = response_reply c response t; left = after_response c t (response_reply c response t) };
  acknowledged = λ c flight. outcome_of c (acknowledged_reply c flight);
  lost = λ c. outcome_of c (loss_reply c);
  gave_up = λ c. outcome_of c (give_up_reply c);
}
