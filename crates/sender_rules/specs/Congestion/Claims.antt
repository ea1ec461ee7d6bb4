-- What is claimed of the calls on an ECN echo, a sample and the phase beyond the contracts. `Echoes`, `Samples` and `Phases` are predicates
-- over any such calls, in the paper's numbers; ours have them, and whatever calls have them say and leave what ours do. Assumes nothing.
use Rattle.std.specs.Prelude.{ℕ, ◌+◌, ◌*◌, ◌/◌, ◌%◌, ◌≤◌, ◌<◌, min, max, true, false, List, [], ◌∷◌, ◌⊎◌, ◌≡◌, length, get_or, take}
use Rattle.refusals.specs.Reply.{answer, refuse, refusing, answering}
use Rattle.std.specs.Prelude.{None, Some}
use Rattle.sender_rules.specs.declared.Sample.{Sample}
use Rattle.sender_rules.specs.declared.Connection.{Connection}
use Rattle.sender_rules.specs.Connections.Records.{samples_of, fresh_with, with_window, with_ssthresh, with_mark, with_samples, with_period}
use Rattle.sender_rules.specs.Connections.Claims.{no_sample, InRange}
use Rattle.sender_rules.specs.Congestion.Phases.{sample_of}
use Rattle.sender_rules.specs.Congestion.Calls.{Congestion, congestion_calls}

-- ---- the echo

-- "MSS 1 to 65,535", and the record in range
pub record EchoGiven (c : Connection) (mss : ℕ) : Type 0 where
  pub record_in : InRange c
  pub mss_low : 1 ≤ mss
  pub mss_high : mss ≤ 65535

-- "min(window, max(half, ..))", where "halves .. round down"
abbrev pub half_of : ℕ → ℕ → ℕ
half_of window least = min window (max (window / 2) least)

-- "window and ssthresh become min(window, max(half, MSS)), and the highest sent number becomes the mark"; all else stays
abbrev pub lowered : Connection → ℕ → ℕ → Connection
lowered c highest mss = with_mark (with_ssthresh (with_window c (half_of c.window mss)) (half_of c.window mss)) (Some highest)

pub record Echoes (g : Congestion) : Type 0 where
  pub seven : (c : Connection) (acknowledgement highest mss : ℕ) → (EchoGiven c mss → ⊥) → g.echo c acknowledgement highest mss ≡ refusing 7 c
  -- "On an echo with no mark"
  pub no_mark : (c : Connection) (acknowledgement highest mss : ℕ) → EchoGiven c mss → c.mark ≡ None
      → g.echo c acknowledgement highest mss ≡ answering true (lowered c highest mss)
  -- "or whose acknowledgement is ahead of the mark by 1 to 2^31 - 1 modulo 2^32"
  pub ahead : (c : Connection) (acknowledgement highest mss mark by : ℕ) → EchoGiven c mss → c.mark ≡ Some mark → mark < 4294967296
      → 1 ≤ by → by ≤ 2147483647 → (mark + by) % 4294967296 ≡ acknowledgement → g.echo c acknowledgement highest mss ≡ answering true (lowered c highest mss)
  -- "Otherwise nothing.": at the mark, or by 2^31 or more ahead, which is behind it
  pub otherwise : (c : Connection) (acknowledgement highest mss mark by : ℕ) → EchoGiven c mss → c.mark ≡ Some mark → mark < 4294967296
      → (by ≡ 0) ⊎ ((2147483648 ≤ by) × (by < 4294967296)) → (mark + by) % 4294967296 ≡ acknowledgement → g.echo c acknowledgement highest mss ≡ answering false c

-- ---- times

-- a time that is not before the newest sample's, which was added last, nor before the period's start
pub record InTime (c : Connection) (time : ℕ) : Type 0 where
  pub after_newest : (newest : Sample) (others : List Sample) → samples_of c ≡ newest ∷ others → newest.time ≤ time
  pub after_start : (start : ℕ) → c.period ≡ Some start → start ≤ time

-- ---- samples

-- what a function's arguments are handed on as
abbrev pub Lending : Type 0
Lending = (time bytes : ℕ) → sample_of time bytes ≡ record { time = time; bytes = bytes }

-- "sample bytes at most 2^40", and the record in range
pub record SampleGiven (c : Connection) (s : Sample) : Type 0 where
  pub record_in : InRange c
  pub bytes_high : s.bytes ≤ 1099511627776

-- "up to five samples (time, bytes), a new one in an empty place, else that of the earliest added": the five added last are kept. No other
-- part of the record changes.
pub record Added (c : Connection) (s : Sample) (left : Connection) : Type 0 where
  pub kept : samples_of left ≡ take 5 (s ∷ samples_of c)
  pub count_is : left.count ≡ min (c.count + 1) 5
  pub places : length c.samples ≡ 5 → length left.samples ≡ 5
  pub rest : left ≡ with_samples c left.samples left.count

pub record Samples (g : Congestion) : Type 0 where
  pub seven : (c : Connection) (s : Sample) → (SampleGiven c s → ⊥) → g.sample c s ≡ refusing 7 c
  -- "A time before the newest sample's or the period's start gives 9"
  pub nine_newest : (c : Connection) (s newest : Sample) (others : List Sample) → SampleGiven c s → samples_of c ≡ newest ∷ others → s.time < newest.time → g.sample c s ≡ refusing 9 c
  pub nine_start : (c : Connection) (s : Sample) (start : ℕ) → SampleGiven c s → c.period ≡ Some start → s.time < start → g.sample c s ≡ refusing 9 c
  pub added : (c : Connection) (s : Sample) → SampleGiven c s → InTime c s.time → ((g.sample c s).said ≡ answer tt) × Added c s (g.sample c s).left

-- ---- the phase

-- "T 1 to 60,000,000 microseconds", "IW 1 to 65,535", and the record in range
pub record PhaseGiven (c : Connection) (rtt initial : ℕ) : Type 0 where
  pub record_in : InRange c
  pub rtt_low : 1 ≤ rtt
  pub rtt_high : rtt ≤ 60000000
  pub initial_low : 1 ≤ initial
  pub initial_high : initial ≤ 65535

-- "not older than max(3T, 1,000,000)"
abbrev pub Recent : ℕ → ℕ → Sample → Type 0
Recent rtt time s = time ≤ s.time + max (3 * rtt) 1000000

-- "pipeACK is the greatest sample not older than .., undefined if none"
pub record PipeAckIs (rtt time : ℕ) (samples : List Sample) (bytes : ℕ) : Type 0 where
  pub place : ℕ
  pub stands : place < length samples
  pub recent : Recent rtt time (get_or samples place no_sample)
  pub bytes_are : (get_or samples place no_sample).bytes ≡ bytes
  pub greatest : (i : ℕ) → i < length samples → Recent rtt time (get_or samples i no_sample) → (get_or samples i no_sample).bytes ≤ bytes

abbrev pub Undefined : ℕ → ℕ → List Sample → Type 0
Undefined rtt time samples = (i : ℕ) → i < length samples → Recent rtt time (get_or samples i no_sample) → ⊥

-- "ssthresh becomes max(ssthresh, 3/4 window), then window min(window, max(half, IW)), and the period starts again"
abbrev pub lower_again : Connection → ℕ → ℕ → Connection
lower_again c initial time = with_period (with_window (with_ssthresh c (max c.ssthresh (3 * c.window / 4))) (half_of c.window initial)) (Some time)

pub record Phases (g : Congestion) : Type 0 where
  pub seven : (c : Connection) (rtt initial time : ℕ) → (PhaseGiven c rtt initial → ⊥) → g.phase c rtt initial time ≡ refusing 7 c
  pub nine_newest : (c : Connection) (rtt initial time : ℕ) (newest : Sample) (others : List Sample) → PhaseGiven c rtt initial → samples_of c ≡ newest ∷ others → time < newest.time
      → g.phase c rtt initial time ≡ refusing 9 c
  pub nine_start : (c : Connection) (rtt initial time start : ℕ) → PhaseGiven c rtt initial → c.period ≡ Some start → time < start → g.phase c rtt initial time ≡ refusing 9 c
  -- "The phase is validated if pipeACK is undefined or twice pipeACK is at least the window as the call finds it."; a period that ran ends
  pub undefined : (c : Connection) (rtt initial time : ℕ) → PhaseGiven c rtt initial → InTime c time → Undefined rtt time (samples_of c)
      → g.phase c rtt initial time ≡ answering true (with_period c None)
  pub validated : (c : Connection) (rtt initial time bytes : ℕ) → PhaseGiven c rtt initial → InTime c time → PipeAckIs rtt time (samples_of c) bytes → c.window ≤ 2 * bytes
      → g.phase c rtt initial time ≡ answering true (with_period c None)
  -- "the call that first found it so" starts the period
  pub first : (c : Connection) (rtt initial time bytes : ℕ) → PhaseGiven c rtt initial → InTime c time → PipeAckIs rtt time (samples_of c) bytes → 2 * bytes < c.window
      → c.period ≡ None → g.phase c rtt initial time ≡ answering false (with_period c (Some time))
  -- "Non-validated for more than 300,000,000 microseconds": not yet, and then
  pub running : (c : Connection) (rtt initial time bytes start : ℕ) → PhaseGiven c rtt initial → InTime c time → PipeAckIs rtt time (samples_of c) bytes → 2 * bytes < c.window
      → c.period ≡ Some start → time ≤ start + 300000000 → g.phase c rtt initial time ≡ answering false c
  pub over : (c : Connection) (rtt initial time bytes start : ℕ) → PhaseGiven c rtt initial → InTime c time → PipeAckIs rtt time (samples_of c) bytes → 2 * bytes < c.window
      → c.period ≡ Some start → start + 300000000 < time → g.phase c rtt initial time ≡ answering false (lower_again c initial time)

-- ---- ours have them, and they leave nothing open

pub record Ours : Type 0 where
  pub echoes : Echoes congestion_calls
  pub samples : Samples congestion_calls
  pub phases : Phases congestion_calls

-- whatever calls have these say and leave what ours do, for every record and all numbers; sequence numbers are below 2^32. What stands
-- behind the samples that are kept is left free.
pub record CongestionOnly : Type 0 where
  pub echo : (g : Congestion) → Echoes g → (c : Connection) (acknowledgement highest mss : ℕ) → acknowledgement < 4294967296
      → ((mark : ℕ) → c.mark ≡ Some mark → mark < 4294967296) → g.echo c acknowledgement highest mss ≡ congestion_calls.echo c acknowledgement highest mss
  pub sample : (g : Congestion) → Samples g → (c : Connection) (s : Sample)
      → ((g.sample c s).said ≡ (congestion_calls.sample c s).said) × (samples_of (g.sample c s).left ≡ samples_of (congestion_calls.sample c s).left)
      × ((g.sample c s).left ≡ with_samples (congestion_calls.sample c s).left (g.sample c s).left.samples (congestion_calls.sample c s).left.count)
  pub phase : (g : Congestion) → Phases g → (c : Connection) (rtt initial time : ℕ) → g.phase c rtt initial time ≡ congestion_calls.phase c rtt initial time

-- ---- what follows for ours

-- one reaction to a window of data: after it, an echo whose acknowledgement is not ahead of the highest number sent by then does nothing
abbrev pub ReactsOnce : Type 0
ReactsOnce = (c : Connection) (acknowledgement highest mss later highest' mss' behind : ℕ) → highest < 4294967296 → later < 4294967296
    → (congestion_calls.echo c acknowledgement highest mss).said ≡ answer true → behind ≤ 2147483648 → (later + behind) % 4294967296 ≡ highest → 1 ≤ mss' → mss' ≤ 65535
    → congestion_calls.echo (congestion_calls.echo c acknowledgement highest mss).left later highest' mss' ≡ answering false (congestion_calls.echo c acknowledgement highest mss).left

-- a record in range stays in range under every call
pub record StaysInRange : Type 0 where
  pub echo : (c : Connection) (acknowledgement highest mss : ℕ) → InRange c → InRange (congestion_calls.echo c acknowledgement highest mss).left
  pub sample : (c : Connection) (s : Sample) → InRange c → InRange (congestion_calls.sample c s).left
  pub phase : (c : Connection) (rtt initial time : ℕ) → InRange c → InRange (congestion_calls.phase c rtt initial time).left

-- a refused call leaves the record as it was
pub record Unchanged : Type 0 where
  pub echo : (c : Connection) (acknowledgement highest mss n : ℕ) → (congestion_calls.echo c acknowledgement highest mss).said ≡ refuse n
      → (congestion_calls.echo c acknowledgement highest mss).left ≡ c
  pub sample : (c : Connection) (s : Sample) (n : ℕ) → (congestion_calls.sample c s).said ≡ refuse n → (congestion_calls.sample c s).left ≡ c
  pub phase : (c : Connection) (rtt initial time n : ℕ) → (congestion_calls.phase c rtt initial time).said ≡ refuse n → (congestion_calls.phase c rtt initial time).left ≡ c

-- which parts of a record each call leaves alone. All leave the state of a request alone, and with it the window before.
pub record EchoLeaves (c left : Connection) : Type 0 where
  pub state_is : left.state ≡ c.state
  pub request_is : left.last_request ≡ c.last_request
  pub samples_are : left.samples ≡ c.samples
  pub count_is : left.count ≡ c.count
  pub period_is : left.period ≡ c.period

pub record PhaseLeaves (c left : Connection) : Type 0 where
  pub state_is : left.state ≡ c.state
  pub request_is : left.last_request ≡ c.last_request
  pub mark_is : left.mark ≡ c.mark
  pub samples_are : left.samples ≡ c.samples
  pub count_is : left.count ≡ c.count

pub record SampleLeaves (c left : Connection) : Type 0 where
  pub state_is : left.state ≡ c.state
  pub window_is : left.window ≡ c.window
  pub ssthresh_is : left.ssthresh ≡ c.ssthresh
  pub request_is : left.last_request ≡ c.last_request
  pub mark_is : left.mark ≡ c.mark
  pub period_is : left.period ≡ c.period

pub record LeftAlone : Type 0 where
  pub echo : (c : Connection) (acknowledgement highest mss : ℕ) → EchoLeaves c (congestion_calls.echo c acknowledgement highest mss).left
  pub sample : (c : Connection) (s : Sample) → SampleLeaves c (congestion_calls.sample c s).left
  pub phase : (c : Connection) (rtt initial time : ℕ) → PhaseLeaves c (congestion_calls.phase c rtt initial time).left

-- none of them raises the window, and the phase never lowers ssthresh
pub record Windows : Type 0 where
  pub echo : (c : Connection) (acknowledgement highest mss : ℕ) → (congestion_calls.echo c acknowledgement highest mss).left.window ≤ c.window
  pub phase : (c : Connection) (rtt initial time : ℕ) → (congestion_calls.phase c rtt initial time).left.window ≤ c.window
  pub ssthresh : (c : Connection) (rtt initial time : ℕ) → c.ssthresh ≤ (congestion_calls.phase c rtt initial time).left.ssthresh

-- samples added one after the other, the last of the list first of all
abbrev pub add_all : Connection → List Sample → Connection
add_all c [] = c
add_all c (s ∷ earlier) = (congestion_calls.sample (add_all c earlier) s).left

-- none of them was refused
abbrev pub AllAdded : Connection → List Sample → Type 0
AllAdded c [] = Unit {0}
AllAdded c (s ∷ earlier) = ((congestion_calls.sample (add_all c earlier) s).said ≡ answer tt) × AllAdded c earlier

-- "up to five samples": from a fresh record, the five added last are the record's samples, the last in front
abbrev pub LastFive : Type 0
LastFive = (window ssthresh : ℕ) (added : List Sample) → AllAdded (fresh_with window ssthresh) added → samples_of (add_all (fresh_with window ssthresh) added) ≡ take 5 added

-- what these calls say does not depend on what stands behind the samples of a record
pub record Places : Type 0 where
  pub echo : (c : Connection) (other : List Sample) (acknowledgement highest mss : ℕ) → take c.count other ≡ samples_of c
      → (congestion_calls.echo (with_samples c other c.count) acknowledgement highest mss).said ≡ (congestion_calls.echo c acknowledgement highest mss).said
  pub sample : (c : Connection) (other : List Sample) (s : Sample) → take c.count other ≡ samples_of c
      → (congestion_calls.sample (with_samples c other c.count) s).said ≡ (congestion_calls.sample c s).said
  pub phase : (c : Connection) (other : List Sample) (rtt initial time : ℕ) → take c.count other ≡ samples_of c
      → (congestion_calls.phase (with_samples c other c.count) rtt initial time).said ≡ (congestion_calls.phase c rtt initial time).said
