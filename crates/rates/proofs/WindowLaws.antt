-- Laws of a window that is computed in 64 bits. Assumes nothing.
use Prim.Native.Nat.{ℕ, ◌+◌, ◌*◌, ◌^◌, ◌≤◌, ◌<◌}
use mathlib.Core.Path.{◌≡◌}
use native.Mathlib.Nat.{le_trans, mul-le-mul, mul-le-mul_left, div-mul-le_self}
use native.Mathlib.Omega.{arith}
use Rattle.common.specs.Choice.{within}
use Rattle.refusals.specs.Reply.{answer, refuse}
use Rattle.refusals.proofs.ReplyLaws.{answered, refused}
use Rattle.common.proofs.Choice.{both_true, within_high}
use Rattle.wire_rules.specs.Rates.Steps.{top_code}
use Rattle.wire_rules.specs.Rates.Window.{longest_rtt, transport_in_range, window_in_range, window_segments, window_bytes, segments_reply, bytes_reply}
use Rattle.wire_rules.proofs.Rates.StepLaws.{power_small}
use Rattle.wire_rules.proofs.Rates.WindowLaws.{transport_facts}

-- ---- what the code computes

-- the bytes of a round trip, in millionths
pub sent_fits : (code rtt : ℕ) → code ≤ top_code → rtt ≤ longest_rtt → 5000 * 2 ^ code * rtt < 2 ^ 64
sent_fits code rtt c t =
    let p : 5000 * 2 ^ code * rtt ≤ 163840000 * 60000000 = mul-le-mul (mul-le-mul_left 5000 (power_small code c)) t in
    omega arith

pub bytes_fit : (code rtt mss headers : ℕ) → code ≤ top_code → rtt ≤ longest_rtt → window_bytes code rtt mss headers < 2 ^ 64
unfolding window_bytes window_segments
bytes_fit code rtt mss headers c t =
    let sent = sent_fits code rtt c t in
    let w : window_segments code rtt mss headers * mss ≤ 5000 * 2 ^ code * rtt =
    le_trans (mul-le-mul_left {m = mss} {n = 1000000 * (mss + headers)} (window_segments code rtt mss headers) (omega arith)) (div-mul-le_self (5000 * 2 ^ code * rtt) (1000000 * (mss + headers))) in
    omega arith

-- the reply in bytes, from the reply in segments
pub bytes_answered : (code rtt mss headers segments : ℕ) → answer segments ≡ segments_reply code rtt mss headers
    → (segments * mss < 2 ^ 64) × (answer (segments * mss) ≡ bytes_reply code rtt mss headers)
unfolding window_bytes
bytes_answered code rtt mss headers segments e =
    let a = answered (window_in_range code rtt mss headers) segments (window_segments code rtt mss headers) 7 e in
    let ranges = both_true (within 1 code top_code) (transport_in_range rtt mss headers) a.0 in
    let transport = transport_facts rtt mss headers ranges.1 in
    (rw a.1 (bytes_fit code rtt mss headers (within_high 1 code top_code ranges.0) transport.rtt_high), simp (a.0, a.1))

pub bytes_refused : (code rtt mss headers n : ℕ) → refuse n ≡ segments_reply code rtt mss headers → refuse n ≡ bytes_reply code rtt mss headers
bytes_refused code rtt mss headers n e =
    let r = refused (window_in_range code rtt mss headers) (window_segments code rtt mss headers) n 7 e in
    simp (r.0, r.1)
