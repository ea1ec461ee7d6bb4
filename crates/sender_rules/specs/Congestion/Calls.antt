-- The calls on an ECN echo, a sample and the phase (document 01, "ECN and pipeACK", "Numbers and refusals"): what each says and what it
-- leaves. Assumes nothing.
use Rattle.std.specs.Prelude.{ℕ, Bool, true, false, ◌&&◌, leb}
use Rattle.common.specs.Choice.{pick, within}
use Rattle.refusals.specs.Reply.{Reply, answer, refuse, Outcome, outcome_of}
use Rattle.wire_rules.specs.Rates.Window.{largest_segment}
use Rattle.std.specs.Prelude.{None}
use Rattle.sender_rules.specs.declared.Sample.{Sample}
use Rattle.sender_rules.specs.declared.Connection.{Connection}
use Rattle.sender_rules.specs.Connections.Records.{most_bytes, in_range, with_period}
use Rattle.sender_rules.specs.Congestion.Echoes.{is_ahead, reacted}
use Rattle.sender_rules.specs.Congestion.Phases.{is_early, sampled, phase_in_range, is_validated, run_on}

-- whether an echo is reacted to; "MSS 1 to 65,535", else 7
abbrev pub echo_reply : Connection → ℕ → ℕ → Reply Bool
echo_reply c acknowledgement mss = pick (in_range c && within 1 mss largest_segment) (answer (is_ahead acknowledgement c.mark)) (refuse 7)

-- "Otherwise nothing."
abbrev pub after_echo : Connection → ℕ → ℕ → Reply Bool → Connection
after_echo c highest mss (answer true) = reacted c highest mss
after_echo c highest mss (answer false) = c
after_echo c highest mss (refuse n) = c

-- a sample: 7 ("sample bytes at most 2^40"), 9
abbrev pub sample_reply : Connection → Sample → Reply Connection
sample_reply c sample = pick (in_range c && leb sample.bytes most_bytes) (pick (is_early sample.time c) (refuse 9) (answer (sampled c sample))) (refuse 7)

-- whether the phase is validated: 7, 9
abbrev pub phase_reply : Connection → ℕ → ℕ → ℕ → Reply Bool
phase_reply c rtt initial time = pick (in_range c && phase_in_range rtt initial) (pick (is_early time c) (refuse 9) (answer (is_validated rtt time c))) (refuse 7)

-- a call that finds it validated ends the period
abbrev pub after_phase : Connection → ℕ → ℕ → Reply Bool → Connection
after_phase c initial time (answer true) = with_period c None
after_phase c initial time (answer false) = run_on initial time c
after_phase c initial time (refuse n) = c

-- the calls: what each says, and what it leaves of the record
pub record Congestion : Type 0 where
  -- acknowledgement, highest number sent, MSS: whether it was reacted to
  pub echo : Connection → ℕ → ℕ → ℕ → Outcome Bool Connection
  pub sample : Connection → Sample → Outcome (Unit {0}) Connection
  -- T, IW, time: whether it is validated
  pub phase : Connection → ℕ → ℕ → ℕ → Outcome Bool Connection

-- ours: the contracts cite these
abbrev pub congestion_calls : Congestion
congestion_calls = record {
  echo = λ c acknowledgement highest mss. record { said = echo_reply c acknowledgement mss; left = after_echo c highest mss (echo_reply c acknowledgement mss) };
  sample = λ c sample. outcome_of c (sample_reply c sample);
  phase = λ c rtt initial time. record { said = phase_reply c rtt initial time; left = after_phase c initial time (phase_reply c rtt initial time) };
}
