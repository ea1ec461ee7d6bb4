-- The cases W1 to W14 of document 01 ("Cases") as one table, and the claim that all of them hold. What is found is computed by the
-- definitions that the contracts cite. Assumes nothing.
use Rattle.std.specs.Prelude.{ℕ, zero, suc, Bool, true, false, ◌&&◌, List, [], ◌∷◌, ◌≡◌, eqb, length, replicate}
use Rattle.std.specs.Prelude.{None, Some}
use Rattle.common.specs.Choice.{pick}
use Rattle.refusals.specs.Reply.{Reply, answer, refuse, and_then, Outcome}
use Rattle.wire_rules.specs.Rates.Steps.{rounded_down}
use Rattle.wire_rules.specs.Rates.Window.{segments_reply}
use Rattle.wire_rules.specs.Options.Wire.{option_length}
use Rattle.wire_rules.specs.Options.Nonces.{lowered_reply}
use Rattle.wire_rules.specs.Options.Requests.{request_read}
use Rattle.wire_rules.specs.Options.Responses.{ttl_diff, response_read, response_written}
use Rattle.wire_rules.specs.Ipv4.Headers.{options_place}
use Rattle.wire_rules.specs.Ipv4.Views.{option_at, put}
use Rattle.gateway_rules.specs.Router.Routers.{routed, silently_routed}
use Rattle.gateway_rules.specs.Receiver.Reports.{received, response_after}
use Rattle.sender_rules.specs.declared.Connection.{Connection}
use Rattle.sender_rules.specs.Connections.Records.{fresh_with, Moment}
use Rattle.sender_rules.specs.Sender.Calls.{Sending, wish, transport, sender_calls}
use Rattle.sender_rules.specs.Congestion.Phases.{sample_of}
use Rattle.sender_rules.specs.Congestion.Calls.{congestion_calls}

-- ---- a case, and the test of a table

-- its number, the figures that the definitions give, and the paper's figures; or a refusal's number in place of figures
pub record Case : Type 0 where
  pub number : ℕ
  pub found : Reply (List ℕ)
  pub paper : Reply (List ℕ)

abbrev pub case : ℕ → Reply (List ℕ) → Reply (List ℕ) → Case
case number found paper = record { number = number; found = found; paper = paper }

-- one figure, and two
abbrev pub one : ℕ → Reply (List ℕ)
one a = answer (a ∷ [])

abbrev pub two : ℕ → ℕ → Reply (List ℕ)
two a b = answer (a ∷ b ∷ [])

-- the same figures in the same order
unfoldable pub same_figures : List ℕ → List ℕ → Bool
same_figures [] [] = true
same_figures [] (b ∷ more) = false
same_figures (a ∷ rest) [] = false
same_figures (a ∷ rest) (b ∷ more) = eqb a b && same_figures rest more

-- the same figures, or the same refusal; figures are no refusal
abbrev pub same : Reply (List ℕ) → Reply (List ℕ) → Bool
same (answer found) (answer paper) = same_figures found paper
same (answer found) (refuse n) = false
same (refuse n) (answer paper) = false
same (refuse n) (refuse m) = eqb n m

-- the table has `count` cases, no more and no fewer, numbered one by one from `first` on, and in each of them the paper's figures are found
unfoldable pub holds : ℕ → ℕ → List Case → Bool
holds first zero [] = true
holds first zero (c ∷ others) = false
holds first (suc count) [] = false
holds first (suc count) (c ∷ others) = eqb c.number first && same c.found c.paper && holds (suc first) count others

-- ---- how the figures are found

-- a fresh nonce of 30 ones, and a buffer for an option
abbrev pub ones : ℕ
ones = 1073741823

abbrev pub buffer : List ℕ
buffer = replicate option_length 0

-- W6: the nonce after the lowering from rate 5 to 3
abbrev pub new_nonce : Reply ℕ
new_nonce = lowered_reply 5 3 0 ones

-- W7, W8: a fresh record asks for code 5 with nonce 0, IP TTL 64 and QS TTL 128
abbrev pub asking : Outcome (Unit {0}) Sending
asking = sender_calls.ask (fresh_with 14600 20000) (wish 5 64 128 0 600000 0) buffer

-- what it says to a response with this rate, the starting TTL Diff and the nonce of W6
abbrev pub answer_to : ℕ → Reply ℕ
answer_to rate =
    and_then asking.said (λ asked.
    and_then new_nonce (λ nonce.
    and_then (response_written buffer rate (ttl_diff 64 128) nonce) (λ response.
    (sender_calls.take_response asking.left.connection response (transport 600000 1460 40)).said)))

-- W9, W10: the packet of the paper's cases, with IP TTL 0x40 and, in its option, rate 5 and QS TTL 0x80
abbrev pub packet : List ℕ
packet =
    0x47 ∷ 0x00 ∷ 0x00 ∷ 0x1C ∷ 0x00 ∷ 0x00 ∷ 0x00 ∷ 0x00 ∷ 0x40 ∷ 0x06 ∷ 0x46 ∷ 0x52 ∷ 0x0A ∷ 0x00 ∷ 0x00 ∷ 0x01 ∷ 0x0A ∷ 0x00 ∷ 0x00 ∷ 0x02
    ∷ 0x19 ∷ 0x08 ∷ 0x05 ∷ 0x80 ∷ 0x00 ∷ 0x00 ∷ 0x00 ∷ 0x00 ∷ []

-- the TTL Diff in the response that a receiver writes to a packet
abbrev pub diff_for : List ℕ → Reply ℕ
diff_for came =
    and_then (response_read (response_after buffer (received (length came) 15 (length buffer) came))) (λ response.
    answer response.ttl_diff)

-- the TTL Diff for a packet as it came, and for what a silent router makes of it
abbrev pub diffs_for : List ℕ → Reply (List ℕ)
diffs_for came =
    and_then (diff_for came) (λ before.
    and_then (silently_routed (length came) came) (λ passed.
    and_then (diff_for passed) (λ after.
    two before after)))

-- the packet with QS TTL 0
abbrev pub packet_at0 : List ℕ
packet_at0 = put packet (record { ttl = 64; request = Some (record { rate = 5; qs_ttl = 0; nonce = 0 }) })

-- the QS TTL in a packet, and in what a router with ceiling 15 makes of it
abbrev pub qs_ttls_for : List ℕ → Reply (List ℕ)
qs_ttls_for came =
    and_then (request_read (option_at options_place came)) (λ before.
    and_then (routed (length came) 15 ones came) (λ passed.
    and_then (request_read (option_at options_place passed)) (λ after.
    two before.qs_ttl after.qs_ttl)))

-- W13, W14: T is 100,000 and IW 4,380. At a time there is a sample of 1,000 bytes, and then the phase call
abbrev pub phase_at : ℕ → Connection → Connection
phase_at time c = (congestion_calls.phase (congestion_calls.sample c (sample_of time 1000)).left 100000 4380 time).left

-- window and ssthresh, provided that the period starts again at this time: in W14 neither changes, so that they alone do not show that the
-- period was over
abbrev pub started_again : ℕ → Moment → Connection → Reply (List ℕ)
started_again time None c = answer []
started_again time (Some start) c = pick (eqb start time) (two c.window c.ssthresh) (answer [])

-- from a fresh record: non-validated at time 0, when the period starts, and still at 300,000,001, when it is over (twice 1,000 is less than
-- either window)
abbrev pub period_over : ℕ → ℕ → Reply (List ℕ)
period_over window ssthresh =
    let c = phase_at 300000001 (phase_at 0 (fresh_with window ssthresh)) in
    started_again 300000001 c.period c

-- ---- the table

abbrev pub cases : List Case
cases =
    -- W1: "79,999 rounds down to 0"
    case 1 (one (rounded_down 79999)) (one 0)
    -- W2: "80,000 to 1"
    ∷ case 2 (one (rounded_down 80000)) (one 1)
    -- W3: "159,999 to 1"
    ∷ case 3 (one (rounded_down 159999)) (one 1)
    -- W4: "160,000 to 2"
    ∷ case 4 (one (rounded_down 160000)) (one 2)
    -- W5: "2,000,000,000 to 15"
    ∷ case 5 (one (rounded_down 2000000000)) (one 15)
    -- W6: "nonce 0, fresh 1,073,741,823, rate 5 to 3: nonce 960"
    ∷ case 6 (and_then new_nonce one) (one 960)
    -- W7: "at rate 3 it matches 0": accepted with rate 3
    ∷ case 7 (and_then (answer_to 3) one) (one 3)
    -- W8: "at rate 5 it gives 15"
    ∷ case 8 (and_then (answer_to 5) one) (refuse 15)
    -- W9: "IP TTL 64, QS TTL 128: TTL Diff 192; after a silent router 191"
    ∷ case 9 (diffs_for packet) (two 192 191)
    -- W10: "QS TTL 0 falls to 255"
    ∷ case 10 (qs_ttls_for packet_at0) (two 0 255)
    -- W11: "N 8, T 600,000, MSS 1,460, H 40: 512 segments"
    ∷ case 11 (and_then (segments_reply 8 600000 1460 40) one) (one 512)
    -- W12: "T 599,999: 511"
    ∷ case 12 (and_then (segments_reply 8 599999 1460 40) one) (one 511)
    -- W13: "window 40,000, ssthresh 20,000, IW 4,380, period over: 20,000 and 30,000"
    ∷ case 13 (period_over 40000 20000) (two 20000 30000)
    -- W14: "window 4,000: stays". The rest is as in W13; ssthresh stays too, as 3/4 of 4,000 is less
    ∷ case 14 (period_over 4000 20000) (two 4000 20000)
    ∷ []

-- the table has the fourteen cases, and each of them holds
abbrev pub WTable : Type 0
WTable = holds 1 14 cases ≡ true
