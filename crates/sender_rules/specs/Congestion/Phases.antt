-- The samples and the phase of pipeACK (document 01, "ECN and pipeACK"). Assumes nothing.
use Rattle.std.specs.Prelude.{ℕ, ◌+◌, ◌-◌, ◌*◌, ◌/◌, min, max, Bool, true, false, ◌&&◌, List, [], ◌∷◌, leb, ltb, take}
use Rattle.std.specs.Prelude.{Option, None, Some}
use Rattle.common.specs.Choice.{pick, within}
use Rattle.wire_rules.specs.Rates.Window.{longest_rtt}
use Rattle.sender_rules.specs.declared.Sample.{Sample}
use Rattle.sender_rules.specs.declared.Connection.{Connection}
use Rattle.sender_rules.specs.Connections.Records.{most_samples, samples_of, is_before, with_window, with_ssthresh, with_samples, with_period, Moment}
use Rattle.sender_rules.specs.Congestion.Echoes.{halved}

-- ---- samples

abbrev pub sample_of : ℕ → ℕ → Sample
sample_of time bytes = record { time = time; bytes = bytes }

-- a time before the newest sample's, which is the one added last and stands in front
abbrev pub before_newest : ℕ → List Sample → Bool
before_newest time [] = false
before_newest time (newest ∷ others) = ltb time newest.time

-- "A time before the newest sample's or the period's start gives 9"
unfoldable pub is_early : ℕ → Connection → Bool
is_early time c = pick (is_before time c.period) true (before_newest time (samples_of c))

-- "up to five samples (time, bytes), a new one in an empty place, else that of the earliest added": the new one stands in front, the others
-- move one place on, and what stood in the last place is gone: an empty place's content, or the earliest sample
abbrev pub sampled : Connection → Sample → Connection
sampled c sample = with_samples c (sample ∷ take (most_samples - 1) c.samples) (min (c.count + 1) most_samples)

-- ---- the phase

-- the greatest IW
abbrev pub largest_initial : ℕ
largest_initial = 65535

-- "T 1 to 60,000,000 microseconds", "IW 1 to 65,535"
unfoldable pub phase_in_range : ℕ → ℕ → Bool
phase_in_range rtt initial = within 1 rtt longest_rtt && within 1 initial largest_initial

-- a sample of up to this age counts, however short the round trip
abbrev pub least_age : ℕ
least_age = 1000000

-- "max(3T, 1,000,000)": the greatest age at which a sample counts
abbrev pub longest_age : ℕ → ℕ
longest_age rtt = max (3 * rtt) least_age

-- "not older than" a limit
unfoldable pub is_recent : ℕ → ℕ → Sample → Bool
is_recent limit time sample = leb time (sample.time + limit)

-- a sample and what others gave: the greater of the two, if the sample counts
abbrev pub greater_of : ℕ → Option ℕ → ℕ
greater_of bytes None = bytes
greater_of bytes (Some most) = max bytes most

unfoldable pub or_greater : ℕ → ℕ → Sample → Option ℕ → Option ℕ
or_greater limit time sample others = pick (is_recent limit time sample) (Some (greater_of sample.bytes others)) others

-- "pipeACK is the greatest sample not older than .., undefined if none"
unfoldable pub pipe_ack : ℕ → ℕ → List Sample → Option ℕ
pipe_ack limit time [] = None
pipe_ack limit time (sample ∷ others) =
    let rest = pipe_ack limit time others in
    or_greater limit time sample rest

-- "The phase is validated if pipeACK is undefined or twice pipeACK is at least the window as the call finds it."
unfoldable pub validated : ℕ → Option ℕ → Bool
validated window None = true
validated window (Some bytes) = leb window (2 * bytes)

unfoldable pub is_validated : ℕ → ℕ → Connection → Bool
is_validated rtt time c = validated c.window (pipe_ack (longest_age rtt) time (samples_of c))

-- five minutes, in microseconds
abbrev pub longest_period : ℕ
longest_period = 300000000

-- "for more than 300,000,000 microseconds since the call that first found it so"
unfoldable pub is_over : ℕ → Moment → Bool
is_over time None = false
is_over time (Some start) = ltb (start + longest_period) time

-- the period's start, by a call that finds the phase non-validated: its own time if none runs
unfoldable pub started_at : ℕ → Moment → Moment
started_at time None = Some time
started_at time (Some start) = Some start

-- "ssthresh becomes max(ssthresh, 3/4 window), then window min(window, max(half, IW))"; "All halves and quarters round down."
abbrev pub adjusted : ℕ → Connection → Connection
adjusted initial c = with_window (with_ssthresh c (max c.ssthresh (3 * c.window / 4))) (halved c.window initial)

-- the record after a call that finds it non-validated: the adjustment "and the period starts again", or the period goes on
unfoldable pub run_on : ℕ → ℕ → Connection → Connection
run_on initial time c = pick (is_over time c.period) (with_period (adjusted initial c) (Some time)) (with_period c (started_at time c.period))
