-- Laws of the Quick-Start window: what its ranges say, and its rule. Assumes nothing.
use Prim.Native.Nat.{ℕ, ◌+◌, ◌*◌, ◌^◌, ◌≤◌, ◌<◌}
use mathlib.Core.Bool.{true, ◌&&◌}
use mathlib.Core.Path.{◌≡◌, ap, subst, ◌∙◌}
use native.Mathlib.Nat.{mul-le-mul, mul-le-mul_left, div-mul-le_self, div-lt_iff_lt-mul, mul_assoc, mul_left_comm}
use native.Mathlib.Omega.{arith}
use Rattle.common.specs.Choice.{within}
use Rattle.common.proofs.Choice.{both_true, within_low, within_high}
use Rattle.wire_rules.specs.Rates.Steps.{top_code, rate_of}
use Rattle.wire_rules.specs.Rates.Window.{longest_rtt, largest_segment, least_headers, most_headers, transport_in_range, window_segments, window_bytes}
use Rattle.wire_rules.specs.Rates.Claims.{WindowRule}
use Rattle.wire_rules.proofs.Rates.StepLaws.{power_small, rate_from}

-- what the range test says of the three numbers
pub record Transport (rtt mss headers : ℕ) : Type 0 where
  pub rtt_low : 1 ≤ rtt
  pub rtt_high : rtt ≤ longest_rtt
  pub mss_low : 1 ≤ mss
  pub mss_high : mss ≤ largest_segment
  pub headers_low : least_headers ≤ headers
  pub headers_high : headers ≤ most_headers

pub transport_facts : (rtt mss headers : ℕ) → transport_in_range rtt mss headers ≡ true → Transport rtt mss headers
unfolding transport_in_range
transport_facts rtt mss headers e =
    let outer = both_true (within 1 rtt longest_rtt && within 1 mss largest_segment) (within least_headers headers most_headers) e in
    let inner = both_true (within 1 rtt longest_rtt) (within 1 mss largest_segment) outer.0 in
    record {
      rtt_low = within_low 1 rtt longest_rtt inner.0;
      rtt_high = within_high 1 rtt longest_rtt inner.0;
      mss_low = within_low 1 mss largest_segment inner.1;
      mss_high = within_high 1 mss largest_segment inner.1;
      headers_low = within_low least_headers headers most_headers outer.1;
      headers_high = within_high least_headers headers most_headers outer.1;
    }

-- ---- the window's rule

-- the same quotient, with both sides eight times as large
eightfold : (rate sent q d : ℕ) → rate ≡ 8 * sent → q * d ≤ sent → sent < (q + 1) * d → (q * (8 * d) ≤ rate) × (rate < (q + 1) * (8 * d))
eightfold rate sent q d e l h = (let x = mul_left_comm q 8 d in omega arith, let x = mul_left_comm (q + 1) 8 d in omega arith)

pub window_rule : (code rtt mss headers : ℕ) → 1 ≤ code → 1 ≤ mss → WindowRule code rtt mss headers
unfolding window_segments
window_rule code rtt mss headers c m =
    let sent = 5000 * 2 ^ code * rtt in
    let d = 1000000 * (mss + headers) in
    let q = window_segments code rtt mss headers in
    let r : rate_of code ≡ 40000 * 2 ^ code = rate_from code c in
    let s : rate_of code * rtt ≡ 8 * sent = ap (λ (k : ℕ). k * rtt) {x = rate_of code} {y = 8 * (5000 * 2 ^ code)} (omega arith) ∙ mul_assoc 8 (5000 * 2 ^ code) rtt in
    let p = eightfold (rate_of code * rtt) sent q d s (div-mul-le_self sent d) ((div-lt_iff_lt-mul (omega arith)).0 (omega arith)) in
    let e : 8 * d ≡ 8 * 1000000 * (mss + headers) = omega arith in
    record { fits = subst (λ (k : ℕ). q * k ≤ rate_of code * rtt) e p.0; one_more = subst (λ (k : ℕ). rate_of code * rtt < (q + 1) * k) e p.1 }

-- ---- what the code computes

-- the most bytes of any window: those of code 15 and the longest round trip, were there no headers
pub window_most : (code rtt mss headers : ℕ) → code ≤ top_code → rtt ≤ longest_rtt → window_bytes code rtt mss headers ≤ 9830400000
unfolding window_bytes window_segments
window_most code rtt mss headers c t =
    let q = window_segments code rtt mss headers in
    let p : 5000 * 2 ^ code * rtt ≤ 163840000 * 60000000 = mul-le-mul (mul-le-mul_left 5000 (power_small code c)) t in
    let d : q * (1000000 * (mss + headers)) ≤ 5000 * 2 ^ code * rtt = div-mul-le_self (5000 * 2 ^ code * rtt) (1000000 * (mss + headers)) in
    let e : q * (1000000 * (mss + headers)) ≡ 1000000 * (q * (mss + headers)) = mul_left_comm q 1000000 (mss + headers) in
    let m : q * mss ≤ q * (mss + headers) = mul-le-mul_left {m = mss} {n = mss + headers} q (omega arith) in
    omega arith
