-- Laws of a record with one part of it changed: it stays in range where the new part is. Assumes nothing.
use Prim.Native.Nat.{ℕ, ◌≤◌, ◌<◌}
use mathlib.Core.List.{List}
use lib.ListN.{get_or}
use Rattle.sender_rules.specs.declared.State.{State}
use Rattle.sender_rules.specs.declared.Sample.{Sample}
use Rattle.sender_rules.specs.declared.Connection.{Connection}
use Rattle.sender_rules.specs.Connections.Records.{most_bytes, most_samples, with_state, with_window, with_ssthresh, with_last_request, with_mark, with_samples, with_period, Moment, Mark}
use Rattle.sender_rules.specs.Connections.Claims.{StateInRange, no_sample, InRange, made}

-- a record is in range by those of its parts that have a range
in_parts : (s : State) (w t : ℕ) (l : Moment) (m : Mark) (p : List Sample) (k : ℕ) (d : Moment)
    → StateInRange s
    → 1 ≤ w
    → w ≤ most_bytes
    → t ≤ most_bytes
    → k ≤ most_samples
    → ((i : ℕ) → i < k → (get_or p i no_sample).bytes ≤ most_bytes)
    → InRange (made s w t l m p k d)
in_parts s w t l m p k d state low high most count samples =
    record { window_low = low; window_high = high; ssthresh_high = most; state_in = state; count_high = count; samples_in = samples }

module _ (c : Connection) (i : InRange c) where
  pub state_part : (s : State) → StateInRange s → InRange (with_state c s)
  state_part s h = in_parts _ _ _ _ _ _ _ _ h i.window_low i.window_high i.ssthresh_high i.count_high i.samples_in

  pub window_part : (window : ℕ) → 1 ≤ window → window ≤ most_bytes → InRange (with_window c window)
  window_part window l h = in_parts _ _ _ _ _ _ _ _ i.state_in l h i.ssthresh_high i.count_high i.samples_in

  pub ssthresh_part : (ssthresh : ℕ) → ssthresh ≤ most_bytes → InRange (with_ssthresh c ssthresh)
  ssthresh_part ssthresh h = in_parts _ _ _ _ _ _ _ _ i.state_in i.window_low i.window_high h i.count_high i.samples_in

  pub samples_part : (samples : List Sample) (count : ℕ) → count ≤ most_samples → ((k : ℕ) → k < count → (get_or samples k no_sample).bytes ≤ most_bytes) → InRange (with_samples c samples count)
  samples_part samples count h f = in_parts _ _ _ _ _ _ _ _ i.state_in i.window_low i.window_high i.ssthresh_high h f

  -- what has no range
  pub request_part : (last : Moment) → InRange (with_last_request c last)
  request_part last = in_parts _ _ _ _ _ _ _ _ i.state_in i.window_low i.window_high i.ssthresh_high i.count_high i.samples_in

  pub mark_part : (mark : Mark) → InRange (with_mark c mark)
  mark_part mark = in_parts _ _ _ _ _ _ _ _ i.state_in i.window_low i.window_high i.ssthresh_high i.count_high i.samples_in

  pub period_part : (period : Moment) → InRange (with_period c period)
  period_part period = in_parts _ _ _ _ _ _ _ _ i.state_in i.window_low i.window_high i.ssthresh_high i.count_high i.samples_in
