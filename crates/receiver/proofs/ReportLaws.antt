-- Laws of a report that is made step by step, and of what a receiver replies by what was seen. Assumes nothing.
use Prim.Native.Nat.{ℕ, ◌<◌, min}
use mathlib.Core.Bool.{true}
use mathlib.Core.List.{List}
use mathlib.Core.Path.{◌≡◌, refl, sym, ap, ap₂, subst, ◌∙◌}
use native.Mathlib.Omega.{arith}
use borrow.Author.Tests.{leb-true, eqb-true}
use lib.Dec.{leb, eqb}
use lib.ListN.{length}
use Rattle.std.specs.Prelude.{Some}
use Rattle.common.specs.Lists.{Bytes}
use Rattle.common.proofs.Choice.{chosen, clash, both_true}
use Rattle.refusals.specs.Reply.{Reply, answer, refuse, done, and_then}
use Rattle.wire_rules.specs.declared.Request.{Request}
use Rattle.wire_rules.specs.Rates.Steps.{top_code}
use Rattle.wire_rules.specs.Options.Wire.{option_length, nonce_limit}
use Rattle.wire_rules.specs.Ipv4.Views.{View, view}
use Rattle.wire_rules.specs.Ipv4.Claims.{FitsWhere}
use Rattle.wire_rules.proofs.Options.Claims.{response_round_trip}
use Rattle.wire_rules.proofs.Ipv4.Claims.{viewing}
use Rattle.gateway_rules.specs.declared.Seen.{Seen}
use Rattle.gateway_rules.specs.Inspect.Sights.{request_of, sighted, view_of, Asking}
use Rattle.gateway_rules.proofs.Inspect.Claims.{looking}
use Rattle.wire_rules.specs.Options.Responses.{ttl_diff, response_written}
use Rattle.gateway_rules.specs.Receiver.Reports.{Report, reported, report_on, report_reply, receiver_in_range, received}
use Rattle.gateway_rules.proofs.Receiver.ReportLaws.{report_is}

-- which report it is, by what `lesser` and `ttl_diff` answered
module _ (ceiling ttl : ℕ) (r : Request) where
  pub report_by : (rate diff : ℕ) → rate ≡ min r.rate ceiling → (rate ≡ 0 → ⊥) → diff ≡ ttl_diff ttl r.qs_ttl
      → reported (record { rate = rate; ttl_diff = diff; nonce = r.nonce }) ≡ report_on ceiling ttl r
  report_by rate diff e n d = ap₂ (λ (k t : ℕ). reported (record { rate = k; ttl_diff = t; nonce = r.nonce })) e d ∙ report_is ceiling ttl r (λ z. n (e ∙ z))

-- ---- what is reported can be written

-- the lesser of a rate and a ceiling in range, into a buffer of the right length
pub not_refused : (old : List ℕ) (ceiling asked rate diff nonce n : ℕ) → receiver_in_range ceiling (length old) ≡ true → rate ≡ min asked ceiling → nonce < nonce_limit
    → refuse n ≡ done (response_written old rate diff nonce) → ⊥
unfolding receiver_in_range
not_refused old ceiling asked rate diff nonce n ok is small e =
    let t = both_true (leb ceiling top_code) (eqb (length old) option_length) ok in
    let low = leb-true ceiling top_code t.0 in
    let w = response_round_trip.accepted old rate diff nonce (eqb-true (length old) option_length t.1) (omega arith) small in
    clash (let x = e ∙ ap done w.1 in cc)

-- a nonce that was seen has 30 bits
pub nonce_small : (reach at : ℕ) (packet : List ℕ) (seen : Seen) (r : Request) → Bytes packet → answer seen ≡ sighted reach packet → seen.asking ≡ Some (at, r) → r.nonce < nonce_limit
nonce_small reach at packet seen r b e a =
    let v : view reach packet ≡ answer (view_of seen) = sym (looking.views reach packet) ∙ ap (λ (s : Reply Seen). and_then s (λ seen. answer (view_of seen))) (sym e) in
    let fits : FitsWhere (request_of seen.asking) = (viewing.fits reach packet (view_of seen) b v).request_fits in
    (subst (λ (x : Asking). FitsWhere (request_of x)) a fits).nonce_fits

-- ---- what a receiver replies, by what was seen

by_sight_lem : {A : Type 0} (next : View → Reply A) (s : Reply Seen) → and_then (and_then s (λ seen. answer (view_of seen))) next ≡ and_then s (λ seen. next (view_of seen))
by_sight_lem next (answer seen) = refl
by_sight_lem next (refuse n) = refl

module _ (reach ceiling room : ℕ) (packet : List ℕ) (ok : receiver_in_range ceiling room ≡ true) where
  abbrev replied : Seen → Reply Report
  replied seen = report_reply ceiling seen.ttl (request_of seen.asking)

  received_by : (s : Reply Seen) → s ≡ sighted reach packet → and_then s replied ≡ received reach ceiling room packet
  received_by s e =
      ap (λ (r : Reply Seen). and_then r replied) e
      ∙ sym (by_sight_lem (λ v. report_reply ceiling v.ttl v.request) (sighted reach packet))
      ∙ ap (λ (v : Reply View). and_then v (λ v. report_reply ceiling v.ttl v.request)) (looking.views reach packet)
      ∙ sym (chosen (receiver_in_range ceiling room) _ _ ok)

  pub received_refused : (n : ℕ) → refuse n ≡ sighted reach packet → refuse n ≡ received reach ceiling room packet
  received_refused n e = received_by (refuse n) e

  pub received_seen : (seen : Seen) (asking : Asking) → answer seen ≡ sighted reach packet → seen.asking ≡ asking
      → report_reply ceiling seen.ttl (request_of asking) ≡ received reach ceiling room packet
  received_seen seen asking e a = ap (λ (x : Asking). report_reply ceiling seen.ttl (request_of x)) (sym a) ∙ received_by (answer seen) e
