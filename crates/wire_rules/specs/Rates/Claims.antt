-- What is claimed of rates, roundings and the window, beyond the contracts. Assumes nothing.
use Rattle.std.specs.Prelude.{ℕ, ◌+◌, ◌*◌, ◌^◌, ◌≤◌, ◌<◌, min, ◌≡◌}
use Rattle.refusals.specs.Reply.{answer, refuse}
use Rattle.wire_rules.specs.Rates.Steps.{rate_of, rate_reply, greatest_up_to, rounded_down, rounded_up, rounded_up_reply}
use Rattle.wire_rules.specs.Rates.Window.{window_segments, segments_reply, bytes_reply}

-- a higher code has a higher rate
abbrev pub Increasing : Type 0
Increasing = (c d : ℕ) → c < d → rate_of c < rate_of d

-- "the greatest code whose rate is at most the number": `code` is the greatest of the codes up to `top` whose rate is at most `bits`
pub record Greatest (top bits code : ℕ) : Type 0 where
  pub up_to : code ≤ top
  pub fits : rate_of code ≤ bits
  pub greatest : (d : ℕ) → d ≤ top → rate_of d ≤ bits → d ≤ code

pub record RoundingDown : Type 0 where
  -- the rule, and that it leaves one code only
  pub rule : (bits : ℕ) → Greatest 15 bits (rounded_down bits)
  pub only : (bits code : ℕ) → Greatest 15 bits code → code ≡ rounded_down bits
  -- a code rounded down from its own rate is itself
  pub own : (code : ℕ) → code ≤ 15 → rounded_down (rate_of code) ≡ code
  pub monotone : (bits more : ℕ) → bits ≤ more → rounded_down bits ≤ rounded_down more
  -- with the codes limited further, it is the lesser of the limit and the code rounded down
  pub limited : (top bits : ℕ) → top ≤ 15 → greatest_up_to top bits ≡ min top (rounded_down bits)

-- "the least code whose rate is at least the wish, and 15 above the top": `code` is the least code whose rate is at least `wish`, and 15
-- where no code has such a rate
pub record Least (wish code : ℕ) : Type 0 where
  pub up_to : code ≤ 15
  pub enough : wish ≤ rate_of 15 → wish ≤ rate_of code
  pub least : (d : ℕ) → d ≤ 15 → wish ≤ rate_of d → code ≤ d
  pub top : rate_of 15 < wish → code ≡ 15

pub record RoundingUp : Type 0 where
  pub rule : (wish : ℕ) → 1 ≤ wish → Least wish (rounded_up wish)
  pub only : (wish code : ℕ) → 1 ≤ wish → Least wish code → code ≡ rounded_up wish
  pub own : (code : ℕ) → 1 ≤ code → code ≤ 15 → rounded_up (rate_of code) ≡ code
  pub monotone : (wish more : ℕ) → 1 ≤ wish → wish ≤ more → rounded_up wish ≤ rounded_up more
  -- "15 above the top"
  pub above : (wish : ℕ) → 40000 * 2 ^ 15 < wish → rounded_up wish ≡ 15

-- the window is the greatest number of whole segments, headers included, that the code's rate sends in a round trip: 8 bits to a byte,
-- 1,000,000 microseconds to a second
pub record WindowRule (code rtt mss headers : ℕ) : Type 0 where
  pub fits : window_segments code rtt mss headers * (8 * 1000000 * (mss + headers)) ≤ rate_of code * rtt
  pub one_more : rate_of code * rtt < (window_segments code rtt mss headers + 1) * (8 * 1000000 * (mss + headers))

abbrev pub Windows : Type 0
Windows = (code rtt mss headers : ℕ) → 1 ≤ code → 1 ≤ mss → WindowRule code rtt mss headers

-- "T 1 to 60,000,000 microseconds; MSS 1 to 65,535; H 20 to 120", and a code 1 to 15
pub record WindowGiven (code rtt mss headers : ℕ) : Type 0 where
  pub code_low : 1 ≤ code
  pub code_high : code ≤ 15
  pub rtt_low : 1 ≤ rtt
  pub rtt_high : rtt ≤ 60000000
  pub mss_low : 1 ≤ mss
  pub mss_high : mss ≤ 65535
  pub headers_low : 20 ≤ headers
  pub headers_high : headers ≤ 120

-- 7 for "a number .. outside its range", and for no other
pub record Ranges : Type 0 where
  -- "Code 0 means nothing. Code N from 1 to 15 means 40,000 times 2 to the N bits a second."
  pub no_rate : rate_of 0 ≡ 0
  pub steps : (code : ℕ) → 1 ≤ code → rate_of code ≡ 40000 * 2 ^ code
  pub rate : (code : ℕ) → code ≤ 15 → rate_reply code ≡ answer (rate_of code)
  pub rate_seven : (code : ℕ) → 15 < code → rate_reply code ≡ refuse 7
  pub up : (wish : ℕ) → 1 ≤ wish → rounded_up_reply wish ≡ answer (rounded_up wish)
  pub up_seven : rounded_up_reply 0 ≡ refuse 7
  pub segments : (code rtt mss headers : ℕ) → WindowGiven code rtt mss headers → segments_reply code rtt mss headers ≡ answer (window_segments code rtt mss headers)
  pub segments_seven : (code rtt mss headers : ℕ) → (WindowGiven code rtt mss headers → ⊥) → segments_reply code rtt mss headers ≡ refuse 7
  pub bytes : (code rtt mss headers : ℕ) → WindowGiven code rtt mss headers → bytes_reply code rtt mss headers ≡ answer (window_segments code rtt mss headers * mss)
  pub bytes_seven : (code rtt mss headers : ℕ) → (WindowGiven code rtt mss headers → ⊥) → bytes_reply code rtt mss headers ≡ refuse 7
