-- Laws of the end of a path: what receiver and sender make of the packet that came. Assumes nothing.
use Prim.Native.Nat.{ℕ, ◌≤◌, ◌<◌, min}
use mathlib.Core.List.{List}
use mathlib.Core.Logic.{◌⊎◌, inl, inr}
use mathlib.Core.Path.{◌≡◌, refl, sym, ap, ◌∙◌}
use native.Mathlib.Omega.{arith}
use lib.Dec.{eqb}
use lib.ListN.{length}
use borrow.Author.Tests.{eqb-true}
use Rattle.common.proofs.Choice.{le_or_gt}
use Rattle.refusals.specs.Reply.{Reply, answer, Outcome}
use Rattle.refusals.proofs.ReplyLaws.{passed}
use Rattle.wire_rules.specs.declared.Request.{Request}
use Rattle.wire_rules.specs.declared.Response.{Response}
use Rattle.wire_rules.specs.Options.Wire.{option_length}
use Rattle.wire_rules.specs.Options.Nonces.{fields_up_to}
use Rattle.wire_rules.specs.Options.Responses.{response_read}
use Rattle.gateway_rules.specs.Router.Claims.{Carries}
use Rattle.gateway_rules.specs.Receiver.Reports.{Report, unanswered, reported, response_after}
use Rattle.gateway_rules.specs.Receiver.Claims.{Reports}
use Rattle.gateway_rules.proofs.Receiver.Claims.{receiving_theorem, responding}
use Rattle.sender_rules.specs.declared.OpenRequest.{OpenRequest}
use Rattle.sender_rules.specs.declared.State.TheVariants.{Asked}
use Rattle.sender_rules.specs.declared.Connection.{Connection}
use Rattle.sender_rules.specs.Connections.Claims.{InRange}
use Rattle.wire_rules.specs.declared.Transport.{Transport}
use Rattle.sender_rules.specs.Sender.Claims.{ResponseGiven, RateFits, Fits, quick_window}
use Rattle.sender_rules.proofs.Sender.Claims.{ours}
use Rattle.path_rules.specs.Hops.Verdicts as Verdicts
use Rattle.path_rules.specs.Hops.Verdicts.{Verdict}
use Rattle.path_rules.specs.Path.Runs.{path_calls, blank, said_of, concluded}
use Rattle.path_rules.specs.Path.Claims.{TransportGiven, InRanges}
use Rattle.path_rules.proofs.Path.FlightLaws.{shorter, Flying}

-- bytes that read as a response are eight
pub response_long : (bytes : List ℕ) (r : Response) → response_read bytes ≡ answer r → length bytes ≡ 8
response_long bytes r e = eqb-true (length bytes) option_length (passed (eqb (length bytes) option_length) r _ 7 (sym e)).0

-- ---- what the receiver says

module _ (packet : List ℕ) (place ttl : ℕ) (r : Request) (c : Carries (length packet) packet place ttl r) (ceiling : ℕ) (high : ceiling ≤ 15) where
  pub unanswered_when : (min r.rate ceiling ≡ 0) → path_calls.receive ceiling packet ≡ answer unanswered
  unanswered_when z = receiving_theorem.silent (length packet) ceiling 8 ttl packet r (record { ceiling_high = high; room_is = refl }) c.viewed (which (le_or_gt r.rate 0))
    where
      which : (r.rate ≤ 0) ⊎ (0 < r.rate) → (r.rate ≡ 0) ⊎ (ceiling ≡ 0)
      which (inl h) = inl (omega arith)
      which (inr h) = inr (omega arith)

  -- an answered request: what is reported, and that its bytes read back
  pub record Answered : Type 0 where
    pub response : Response
    pub reports : Reports r ttl ceiling response
    pub said : path_calls.receive ceiling packet ≡ answer (reported response)
    pub reads : response_read (response_after blank (answer (reported response))) ≡ answer response

  pub answered_when : 1 ≤ min r.rate ceiling → Answered
  answered_when h =
      let a = receiving_theorem.answers (length packet) ceiling 8 ttl packet r c.bytes (record { ceiling_high = high; room_is = refl }) c.viewed (omega arith) (omega arith) in
      record {
        response = a.0;
        reports = a.1;
        said = a.2;
        reads = ap (λ (x : Reply Report). response_read (response_after blank x)) (sym a.2) ∙ responding.reads (length packet) ceiling packet blank a.0 c.bytes a.2;
      }

-- ---- what the sender says of it

module _ (c : Connection) (t : Transport) (q : OpenRequest) (bytes : List ℕ) (r : Response)
    (record_in : InRange c) (given : TransportGiven t) (waits : c.state ≡ Asked q) (reads : response_read bytes ≡ answer r) where
  response_given : ResponseGiven c bytes t
  response_given = record {
    record_in = record_in;
    rtt_low = given.rtt_low;
    rtt_high = given.rtt_high;
    mss_low = given.mss_low;
    mss_high = given.mss_high;
    headers_low = given.headers_low;
    headers_high = given.headers_high;
    room_is = response_long bytes r reads;
  }

  pub refused_14 : RateFits q r → (r.ttl_diff ≡ q.ttl_diff → ⊥) → said_of (path_calls.take_response c bytes t).said ≡ Verdicts.not_accepted 14
  refused_14 f n = ap (λ (o : Outcome ℕ Connection). said_of o.said) (ours.takes.fourteen c bytes t q r response_given waits reads f n)

  pub accepted_when : RateFits q r → r.ttl_diff ≡ q.ttl_diff → fields_up_to r.rate q.nonce ≡ fields_up_to r.rate r.nonce
      → said_of (path_calls.take_response c bytes t).said ≡ Verdicts.accepted r.rate
  unfolding fields_up_to
  accepted_when f e n = go (le_or_gt (quick_window r.rate t) c.window)
    where
      fits : Fits q r
      fits = record { rate = f; diff = e; nonces = n }

      go : (quick_window r.rate t ≤ c.window) ⊎ (c.window < quick_window r.rate t) → said_of (path_calls.take_response c bytes t).said ≡ Verdicts.accepted r.rate
      go (inl h) = ap (λ (o : Outcome ℕ Connection). said_of o.said) (ours.takes.stays c bytes t q r response_given waits reads fits h)
      go (inr h) = ap (λ (o : Outcome ℕ Connection). said_of o.said) (ours.takes.quickens c bytes t q r response_given waits reads fits h)

-- ---- the verdict of what came through

module _ (c : Connection) (t : Transport) (q : OpenRequest) (ceiling : ℕ) (ranges : InRanges c ceiling t) (waits : c.state ≡ Asked q)
    (packet : List ℕ) (place ttl : ℕ) (r : Request) (carries : Carries (length packet) packet place ttl r) where
  abbrev pub end_verdict : Verdict
  end_verdict = (concluded path_calls c t packet (path_calls.receive ceiling packet)).verdict

  pub ends_unanswered : min r.rate ceiling ≡ 0 → end_verdict ≡ Verdicts.unanswered
  ends_unanswered z = ap (λ (x : Reply Report). (concluded path_calls c t packet x).verdict) (unanswered_when packet place ttl r carries ceiling ranges.ceiling_high z)

  module _ (some_rate : 1 ≤ min r.rate ceiling) where
    pub answer_came : Answered packet place ttl r carries ceiling ranges.ceiling_high
    answer_came = answered_when packet place ttl r carries ceiling ranges.ceiling_high some_rate

    pub by_sender : end_verdict ≡ said_of (path_calls.take_response c (response_after blank (answer (reported answer_came.response))) t).said
    by_sender = ap (λ (x : Reply Report). (concluded path_calls c t packet x).verdict) answer_came.said

    module _ (s : ℕ) (f : Flying q s ttl r) (small : ttl < 256) (few : s < 256) (byte : q.ttl_diff < 256) where
      rate_fits : RateFits q answer_came.response
      rate_fits = record { low = omega (arith, answer_came.reports.least); high = omega (arith, answer_came.reports.least, f.below) }

      pub ends_14 : 1 ≤ s → end_verdict ≡ Verdicts.not_accepted 14
      ends_14 h =
          let short = f.short (omega arith) in
          by_sender
          ∙ refused_14 c t q (response_after blank (answer (reported answer_came.response))) answer_came.response ranges.record_in ranges.transport_given waits
          answer_came.reads rate_fits
          (λ e. absurd (omega (arith, short, f.byte, answer_came.reports.diff_byte, answer_came.reports.diff_is)))

      pub ends_accepted : s ≡ 0 → end_verdict ≡ Verdicts.accepted (min r.rate ceiling)
      ends_accepted z =
          let short = f.short (omega arith) in
          let least = answer_came.reports.least in
          by_sender
          ∙ accepted_when c t q (response_after blank (answer (reported answer_came.response))) answer_came.response ranges.record_in ranges.transport_given waits
          answer_came.reads rate_fits
          (omega (arith, short, f.byte, byte, answer_came.reports.diff_byte, answer_came.reports.diff_is))
          (sym (
          ap (fields_up_to answer_came.response.rate) answer_came.reports.nonce_is
          ∙ shorter answer_came.response.rate r.rate r.nonce q.nonce (omega (arith, least)) f.agrees
          ))
          ∙ ap Verdicts.accepted least
