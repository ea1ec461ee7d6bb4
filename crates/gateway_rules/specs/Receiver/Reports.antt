-- What a receiver reports (document 01, "Router, receiver, sender"): the decision in numbers, the response buffer afterwards, and whether
-- it was written. Assumes nothing.
use Rattle.std.specs.Prelude.{ℕ, min, Bool, ◌&&◌, List, eqb, leb}
use Rattle.std.specs.Prelude.{Option, None, Some}
use Rattle.common.specs.Choice.{pick}
use Rattle.refusals.specs.Reply.{Reply, answer, refuse, leaves, and_then}
use Rattle.wire_rules.specs.Rates.Steps.{top_code}
use Rattle.wire_rules.specs.declared.Request.{Request}
use Rattle.wire_rules.specs.declared.Response.{Response}
use Rattle.wire_rules.specs.Options.Wire.{option_length}
use Rattle.wire_rules.specs.Options.Responses.{ttl_diff, response_written}
use Rattle.gateway_rules.specs.declared.Reaction.{Reaction}
use Rattle.gateway_rules.specs.declared.Reaction.TheVariants.{Unanswered, Answered}
use Rattle.wire_rules.specs.Ipv4.Views.{view}

-- what a receiver decides: to leave a request unanswered, or what to report
pub data Report : Type 0 where
  unanswered : Report
  reported : Response → Report

-- "The rate to report is the lesser of rate and ceiling. If 0, it is "unanswered" .. Else it writes a response with that rate, TTL Diff ..,
-- and the nonce as it came."
unfoldable pub report_on : ℕ → ℕ → Request → Report
report_on ceiling ttl r =
    pick (eqb (min r.rate ceiling) 0) unanswered (reported (record { rate = min r.rate ceiling; ttl_diff = ttl_diff ttl r.qs_ttl; nonce = r.nonce }))

-- "No option or function not 0: refusal 4."
abbrev pub report_reply : ℕ → ℕ → Option Request → Reply Report
report_reply ceiling ttl None = refuse 4
report_reply ceiling ttl (Some r) = answer (report_on ceiling ttl r)

-- "ceilings 0 to 15", "option buffers exactly 8 bytes"
unfoldable pub receiver_in_range : ℕ → ℕ → Bool
receiver_in_range ceiling room = leb ceiling top_code && eqb room option_length

-- a receiver's reply, for a response buffer of `room` bytes. "Packet calls test 7, 1, 2, then 3 and 5 as met, then 4 ..": a receiver does
-- not test 6
abbrev pub received : ℕ → ℕ → ℕ → List ℕ → Reply Report
received reach ceiling room packet =
    pick (receiver_in_range ceiling room) (and_then (view reach packet) (λ v. report_reply ceiling v.ttl v.request)) (refuse 7)

-- the response buffer afterwards: "nothing is written" where a request is unanswered, nor on a refusal
abbrev pub response_after : List ℕ → Reply Report → List ℕ
response_after old (answer (reported r)) = leaves old (response_written old r.rate r.ttl_diff r.nonce)
response_after old (answer unanswered) = old
response_after old (refuse n) = old

-- whether a request was answered
abbrev pub reaction_to : Report → Reaction
reaction_to unanswered = Unanswered
reaction_to (reported r) = Answered

abbrev pub reaction_in : Reply Report → Reply Reaction
reaction_in (answer report) = answer (reaction_to report)
reaction_in (refuse n) = refuse n
