-- The Quick-Start window (document 01, "Router, receiver, sender" and "Numbers and refusals"). Assumes nothing.
use Rattle.std.specs.Prelude.{ℕ, ◌+◌, ◌*◌, ◌/◌, ◌^◌, Bool, ◌&&◌}
use Rattle.common.specs.Choice.{pick, within}
use Rattle.refusals.specs.Reply.{Reply, answer, refuse}
use Rattle.wire_rules.specs.Rates.Steps.{top_code}

-- "T 1 to 60,000,000 microseconds; MSS 1 to 65,535; H 20 to 120"
abbrev pub longest_rtt : ℕ
longest_rtt = 60000000

abbrev pub largest_segment : ℕ
largest_segment = 65535

abbrev pub least_headers : ℕ
least_headers = 20

abbrev pub most_headers : ℕ
most_headers = 120

unfoldable pub transport_in_range : ℕ → ℕ → ℕ → Bool
transport_in_range rtt mss headers = within 1 rtt longest_rtt && within 1 mss largest_segment && within least_headers headers most_headers

-- "floor(5,000 x 2^N x T / (1,000,000 x (MSS + H))) segments"
unfoldable pub window_segments : ℕ → ℕ → ℕ → ℕ → ℕ
window_segments code rtt mss headers = (5000 * 2 ^ code * rtt) / (1000000 * (mss + headers))

-- "times MSS for bytes"
unfoldable pub window_bytes : ℕ → ℕ → ℕ → ℕ → ℕ
window_bytes code rtt mss headers = window_segments code rtt mss headers * mss

-- the code 1 to 15, and the three numbers above
abbrev pub window_in_range : ℕ → ℕ → ℕ → ℕ → Bool
window_in_range code rtt mss headers = within 1 code top_code && transport_in_range rtt mss headers

-- the window in range; 7 for "a number .. outside its range"
abbrev pub segments_reply : ℕ → ℕ → ℕ → ℕ → Reply ℕ
segments_reply code rtt mss headers = pick (window_in_range code rtt mss headers) (answer (window_segments code rtt mss headers)) (refuse 7)

abbrev pub bytes_reply : ℕ → ℕ → ℕ → ℕ → Reply ℕ
bytes_reply code rtt mss headers = pick (window_in_range code rtt mss headers) (answer (window_bytes code rtt mss headers)) (refuse 7)
