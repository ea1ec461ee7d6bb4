-- What is claimed of the record beyond the contracts: what its range is, in the paper's numbers, that making a fresh one is refused exactly
-- when it would be out of range, and that a record with one part changed keeps the others. Assumes nothing.
use Rattle.std.specs.Prelude.{ℕ, ◌≤◌, ◌<◌, true, false, List, [], ◌∷◌, ◌≡◌, get_or}
use Rattle.refusals.specs.Reply.{answer, refuse}
use Rattle.sender_rules.specs.declared.State.{State}
use Rattle.sender_rules.specs.declared.State.TheVariants.{Idle, Asked, Quick}
use Rattle.std.specs.Prelude.{None}
use Rattle.sender_rules.specs.declared.Sample.{Sample}
use Rattle.sender_rules.specs.declared.Connection.{Connection}
use Rattle.sender_rules.specs.Connections.Records.{samples_of, in_range, fresh_with, fresh_reply, with_state, with_window, with_ssthresh, with_last_request, with_mark, with_samples, with_period, Moment, Mark}

-- the open request's "code .. 1 to 15" and its nonce "below 2^30"; the window before, as a window, "1 to 2^40"
abbrev pub StateInRange : State → Type 0
StateInRange Idle = Unit {0}
StateInRange (Asked request) = (1 ≤ request.code) × (request.code ≤ 15) × (request.nonce < 1073741824)
StateInRange (Quick before) = (1 ≤ before.window) × (before.window ≤ 1099511627776)

-- what stands where a list has no sample
abbrev pub no_sample : Sample
no_sample = record { time = 0; bytes = 0 }

-- "ssthresh at most 2^40; window 1 to 2^40", "up to five samples", "sample bytes at most 2^40"
pub record InRange (c : Connection) : Type 0 where
  pub window_low : 1 ≤ c.window
  pub window_high : c.window ≤ 1099511627776
  pub ssthresh_high : c.ssthresh ≤ 1099511627776
  pub state_in : StateInRange c.state
  pub count_high : c.count ≤ 5
  pub samples_in : (i : ℕ) → i < c.count → (get_or c.samples i no_sample).bytes ≤ 1099511627776

pub record Ranges : Type 0 where
  -- the test that every call makes of the record it is given
  pub tested : (c : Connection) → in_range c ≡ true → InRange c
  pub suffices : (c : Connection) → InRange c → in_range c ≡ true
  -- it looks at no place behind the samples
  pub places : (c : Connection) (other : List Sample) → samples_of (with_samples c other c.count) ≡ samples_of c → in_range (with_samples c other c.count) ≡ in_range c

-- a record of these parts: state, window, ssthresh, last request, mark, places, count, period
abbrev pub made : State → ℕ → ℕ → Moment → Mark → List Sample → ℕ → Moment → Connection
made state window ssthresh last mark samples count period = record {
  state = state;
  window = window;
  ssthresh = ssthresh;
  last_request = last;
  mark = mark;
  samples = samples;
  count = count;
  period = period;
}

-- a record with one part of it changed: that part is the new one, and every other is as it was
pub record Parts : Type 0 where
  pub state : (s : State) (w t : ℕ) (l : Moment) (m : Mark) (p : List Sample) (k : ℕ) (d : Moment) (new : State) → with_state (made s w t l m p k d) new ≡ made new w t l m p k d
  pub window : (s : State) (w t : ℕ) (l : Moment) (m : Mark) (p : List Sample) (k : ℕ) (d : Moment) (new : ℕ) → with_window (made s w t l m p k d) new ≡ made s new t l m p k d
  pub ssthresh : (s : State) (w t : ℕ) (l : Moment) (m : Mark) (p : List Sample) (k : ℕ) (d : Moment) (new : ℕ) → with_ssthresh (made s w t l m p k d) new ≡ made s w new l m p k d
  pub last : (s : State) (w t : ℕ) (l : Moment) (m : Mark) (p : List Sample) (k : ℕ) (d new : Moment) → with_last_request (made s w t l m p k d) new ≡ made s w t new m p k d
  pub mark : (s : State) (w t : ℕ) (l : Moment) (m : Mark) (p : List Sample) (k : ℕ) (d : Moment) (new : Mark) → with_mark (made s w t l m p k d) new ≡ made s w t l new p k d
  pub samples : (s : State) (w t : ℕ) (l : Moment) (m : Mark) (p : List Sample) (k : ℕ) (d : Moment) (new : List Sample) (count : ℕ)
      → with_samples (made s w t l m p k d) new count ≡ made s w t l m new count d
  pub period : (s : State) (w t : ℕ) (l : Moment) (m : Mark) (p : List Sample) (k : ℕ) (d new : Moment) → with_period (made s w t l m p k d) new ≡ made s w t l m p k new

-- "A fresh record is idle with no last request": nor has it a mark, a sample or a period
pub record IsFresh (window ssthresh : ℕ) (c : Connection) : Type 0 where
  pub state_is : c.state ≡ Idle
  pub window_is : c.window ≡ window
  pub ssthresh_is : c.ssthresh ≡ ssthresh
  pub no_request : c.last_request ≡ None
  pub no_mark : c.mark ≡ None
  pub no_sample_lem : samples_of c ≡ []
  -- five places, and zeros in each
  pub places : c.samples ≡ no_sample ∷ no_sample ∷ no_sample ∷ no_sample ∷ no_sample ∷ []
  pub no_period : c.period ≡ None

pub record Fresh : Type 0 where
  pub fresh : (window ssthresh : ℕ) → IsFresh window ssthresh (fresh_with window ssthresh)
  -- "window 1 to 2^40", ssthresh "at most 2^40"
  pub made : (window ssthresh : ℕ) → 1 ≤ window → window ≤ 1099511627776 → ssthresh ≤ 1099511627776 → fresh_reply window ssthresh ≡ answer tt
  pub seven : (window ssthresh : ℕ) → ((1 ≤ window) × (window ≤ 1099511627776) × (ssthresh ≤ 1099511627776) → ⊥) → fresh_reply window ssthresh ≡ refuse 7
  -- a record that was made is in range; what is handed back beside a refusal is not, so that every call refuses it with 7
  pub in_range_lem : (window ssthresh : ℕ) → fresh_reply window ssthresh ≡ answer tt → InRange (fresh_with window ssthresh)
  pub unusable : (window ssthresh n : ℕ) → fresh_reply window ssthresh ≡ refuse n → in_range (fresh_with window ssthresh) ≡ false
