-- Laws of the tests of an input: whether a request's record, and a receiver's, stand in front of some bytes. Assumes nothing.
use Prim.Native.Nat.{ℕ, ◌≤◌, ◌<◌}
use mathlib.Core.Bool.{true, ◌&&◌}
use mathlib.Core.List.{List}
use mathlib.Core.Path.{◌≡◌}
use lib.Dec.{leb, ltb, eqb}
use lib.ListN.{length, get_or}
use borrow.Author.Tests.{eqb-true, leb-true, ltb-true}
use Rattle.common.specs.Choice.{within}
use Rattle.common.proofs.Choice.{both_true, within_low, within_high}
use Rattle.wire_rules.specs.Rates.Steps.{top_code}
use Rattle.path_rules.specs.Plan.Records.{request_record, request_length, receiver_record, receiver_length, starts_request, starts_receiver}

-- ---- the request's record

pub record Request (bytes : List ℕ) : Type 0 where
  pub kind : get_or bytes 0 0 ≡ 1
  pub long : 8 ≤ length bytes
  pub code_low : 1 ≤ get_or bytes 1 0
  pub code_high : get_or bytes 1 0 ≤ 15
  pub ttl_low : 0 < get_or bytes 2 0

pub request_parts : (bytes : List ℕ) → starts_request bytes ≡ true → Request bytes
unfolding starts_request
request_parts bytes e =
    let whole = eqb (get_or bytes 0 0) request_record && leb request_length (length bytes) in
    let a = both_true (whole && within 1 (get_or bytes 1 0) top_code) (ltb 0 (get_or bytes 2 0)) e in
    let b = both_true whole (within 1 (get_or bytes 1 0) top_code) a.0 in
    let c = both_true (eqb (get_or bytes 0 0) request_record) (leb request_length (length bytes)) b.0 in
    record {
      kind = eqb-true (get_or bytes 0 0) request_record c.0;
      long = leb-true request_length (length bytes) c.1;
      code_low = within_low 1 (get_or bytes 1 0) top_code b.1;
      code_high = within_high 1 (get_or bytes 1 0) top_code b.1;
      ttl_low = ltb-true 0 (get_or bytes 2 0) a.1;
    }

-- ---- the receiver's, at a place

pub record Receiver (bytes : List ℕ) : Type 0 where
  pub kind : get_or bytes 0 0 ≡ 4
  pub long : 2 ≤ length bytes
  pub ceiling_high : get_or bytes 1 0 ≤ 15

pub receiver_parts : (bytes : List ℕ) → starts_receiver bytes ≡ true → Receiver bytes
unfolding starts_receiver
receiver_parts bytes e =
    let a = both_true (eqb (get_or bytes 0 0) receiver_record && leb receiver_length (length bytes)) (leb (get_or bytes 1 0) top_code) e in
    let b = both_true (eqb (get_or bytes 0 0) receiver_record) (leb receiver_length (length bytes)) a.0 in
    record {
      kind = eqb-true (get_or bytes 0 0) receiver_record b.0;
      long = leb-true receiver_length (length bytes) b.1;
      ceiling_high = leb-true (get_or bytes 1 0) top_code a.1;
    }
