-- The claims of specs/Congestion/Claims.antt. Assumes nothing.
use Prim.Native.Nat.{ℕ, ◌≤◌}
use mathlib.Core.Bool.{Bool, true, false, ◌&&◌}
use mathlib.Core.List.{List}
use mathlib.Core.Path.{◌≡◌, refl}
use native.Mathlib.Nat.{le_refl}
use native.Mathlib.Omega.{arith}
use lib.ListN.{take}
use lib.Dec.{leb}
use Rattle.common.specs.Choice.{pick}
use Rattle.common.proofs.Choice.{clash}
use Rattle.refusals.specs.Reply.{Reply, answer, refuse, done}
use Rattle.refusals.proofs.ReplyLaws.{left_as_it_was}
use Rattle.sender_rules.specs.declared.Sample.{Sample}
use Rattle.sender_rules.specs.declared.Connection.{Connection}
use Rattle.sender_rules.specs.Connections.Records.{most_bytes, samples_of, in_range, with_samples}
use Rattle.sender_rules.specs.Connections.Claims.{InRange}
use Rattle.sender_rules.proofs.Connections.Claims.{ranges}
use Rattle.sender_rules.proofs.Connections.PartLaws.{period_part}
use Rattle.sender_rules.specs.Congestion.Phases.{is_early, sampled, is_validated}
use Rattle.sender_rules.specs.Congestion.Calls.{echo_reply, after_echo, sample_reply, phase_reply, after_phase, congestion_calls}
use Rattle.sender_rules.specs.Congestion.Claims.{Lending, Ours, CongestionOnly, StaysInRange, Unchanged, EchoLeaves, PhaseLeaves, SampleLeaves, LeftAlone, Windows, Places}
use Rattle.sender_rules.proofs.Congestion.EchoClaims as echo
use Rattle.sender_rules.proofs.Congestion.SampleClaims as sample
use Rattle.sender_rules.proofs.Congestion.PhaseClaims as phase

pub lending : Lending
lending time bytes = refl

pub ours : Ours
ours = record { echoes = echo.echoes; samples = sample.samples; phases = phase.phases }

pub congestion_only : CongestionOnly
congestion_only = record {
  echo = λ g a c ack highest mss small marks. echo.echo_only g a c ack highest mss small marks;
  sample = λ g a c s. sample.sample_only g a c s;
  phase = λ g a c rtt initial time. phase.phase_only g a c rtt initial time;
}

pub stays_in_range : StaysInRange
stays_in_range = record {
  echo = λ c ack highest mss i. echo.echo_by InRange c ack highest mss i (λ g. echo.lowered_in c highest mss i g.mss_low);
  sample = λ c s i. sample.sample_by InRange c s i (λ g. sample.sampled_in c s i g.bytes_high);
  phase = λ c rtt initial time i. phase.phase_by InRange c rtt initial time i (λ m. period_part c i m) (λ g. phase.lower_again_in c initial time i g.initial_low);
}

-- ---- refused calls

echo_left : (c : Connection) (highest mss n : ℕ) (r : Reply Bool) → r ≡ refuse n → after_echo c highest mss r ≡ c
echo_left c highest mss n (answer b) e = absurd (clash (cc))
echo_left c highest mss n (refuse m) e = refl

phase_left : (c : Connection) (initial time n : ℕ) (r : Reply Bool) → r ≡ refuse n → after_phase c initial time r ≡ c
phase_left c initial time n (answer b) e = absurd (clash (cc))
phase_left c initial time n (refuse m) e = refl

pub unchanged : Unchanged
unchanged = record {
  echo = λ c ack highest mss n e. echo_left c highest mss n (echo_reply c ack mss) e;
  sample = λ c s n e. left_as_it_was c (sample_reply c s) n e;
  phase = λ c rtt initial time n e. phase_left c initial time n (phase_reply c rtt initial time) e;
}

echo_same : (c : Connection) → EchoLeaves c c
echo_same c = record { state_is = refl; request_is = refl; samples_are = refl; count_is = refl; period_is = refl }

phase_same : (c : Connection) → PhaseLeaves c c
phase_same c = record { state_is = refl; request_is = refl; mark_is = refl; samples_are = refl; count_is = refl }

sample_same : (c : Connection) → SampleLeaves c c
sample_same c = record { state_is = refl; window_is = refl; ssthresh_is = refl; request_is = refl; mark_is = refl; period_is = refl }

pub left_alone : LeftAlone
left_alone = record {
  echo = λ c ack highest mss.
      echo.echo_by (EchoLeaves c) c ack highest mss (echo_same c) (λ g. record { state_is = refl; request_is = refl; samples_are = refl; count_is = refl; period_is = refl });
  sample = λ c s.
      sample.sample_by (SampleLeaves c) c s (sample_same c) (λ g. record { state_is = refl; window_is = refl; ssthresh_is = refl; request_is = refl; mark_is = refl; period_is = refl });
  phase = λ c rtt initial time.
      phase.phase_by (PhaseLeaves c) c rtt initial time (phase_same c)
      (λ m. record { state_is = refl; request_is = refl; mark_is = refl; samples_are = refl; count_is = refl })
      (λ g. record { state_is = refl; request_is = refl; mark_is = refl; samples_are = refl; count_is = refl });
}

pub windows : Windows
windows = record {
  echo = λ c ack highest mss. echo.echo_by (λ (d : Connection). d.window ≤ c.window) c ack highest mss (le_refl c.window) (λ g. omega arith);
  phase = λ c rtt initial time. phase.phase_by (λ (d : Connection). d.window ≤ c.window) c rtt initial time (le_refl c.window) (λ m. le_refl c.window) (λ g. omega arith);
  ssthresh = λ c rtt initial time. phase.phase_by (λ (d : Connection). c.ssthresh ≤ d.ssthresh) c rtt initial time (le_refl c.ssthresh) (λ m. le_refl c.ssthresh) (λ g. omega arith);
}

-- ---- places behind the samples

same_done : (t e : Bool) (x y : Connection) → done (pick t (pick e (refuse 9) (answer x)) (refuse 7)) ≡ done (pick t (pick e (refuse 9) (answer y)) (refuse 7))
same_done true true x y = refl
same_done true false x y = refl
same_done false e x y = refl

module _ (c : Connection) (other : List Sample) (e : take c.count other ≡ samples_of c) where
  abbrev changed : Connection
  changed = with_samples c other c.count

  echo_place : (ack mss : ℕ) → echo_reply changed ack mss ≡ echo_reply c ack mss
  echo_place ack mss = rw (ranges.places c other e) refl

  early_place : (time : ℕ) → is_early time changed ≡ is_early time c
  unfolding is_early
  early_place time = rw e refl

  sample_place : (s : Sample) → (congestion_calls.sample changed s).said ≡ (congestion_calls.sample c s).said
  sample_place s = rw (ranges.places c other e, early_place s.time) (same_done (in_range c && leb s.bytes most_bytes) (is_early s.time c) (sampled changed s) (sampled c s))

  valid_place : (rtt time : ℕ) → is_validated rtt time changed ≡ is_validated rtt time c
  unfolding is_validated
  valid_place rtt time = rw e refl

  phase_place : (rtt initial time : ℕ) → phase_reply changed rtt initial time ≡ phase_reply c rtt initial time
  phase_place rtt initial time = rw (ranges.places c other e, early_place time, valid_place rtt time) refl

pub places : Places
places = record {
  echo = λ c other ack highest mss e. echo_place c other e ack mss;
  sample = λ c other s e. sample_place c other e s;
  phase = λ c other rtt initial time e. phase_place c other e rtt initial time;
}
