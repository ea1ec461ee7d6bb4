-- Laws of a receiver's report: which it is, and its refusal 7. Assumes nothing.
use Prim.Native.Nat.{ℕ, min}
use mathlib.Core.Bool.{false}
use mathlib.Core.List.{List}
use mathlib.Core.Path.{◌≡◌}
use borrow.Author.Tests.{eq-eqb, ne_eqb}
use Rattle.refusals.specs.Reply.{refuse}
use Rattle.wire_rules.specs.declared.Request.{Request}
use Rattle.wire_rules.specs.Options.Responses.{ttl_diff}
use Rattle.gateway_rules.specs.Receiver.Reports.{unanswered, reported, report_on, receiver_in_range, received}

-- ---- which report it is

module _ (ceiling ttl : ℕ) (r : Request) where
  pub report_is : (min r.rate ceiling ≡ 0 → ⊥)
      → reported (record { rate = min r.rate ceiling; ttl_diff = ttl_diff ttl r.qs_ttl; nonce = r.nonce }) ≡ report_on ceiling ttl r
  unfolding report_on
  report_is n = simp (ne_eqb (min r.rate ceiling) 0 n)

  pub no_report : min r.rate ceiling ≡ 0 → unanswered ≡ report_on ceiling ttl r
  unfolding report_on
  no_report e = simp (eq-eqb (min r.rate ceiling) 0 e)

-- ---- what a receiver replies, by what was seen

module _ (reach ceiling room : ℕ) (packet : List ℕ) where
  pub received_seven : receiver_in_range ceiling room ≡ false → refuse 7 ≡ received reach ceiling room packet
  received_seven e = simp e
