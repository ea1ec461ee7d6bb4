-- The sender's record of a connection (document 01, "Router, receiver, sender", "ECN and pipeACK", "Numbers and refusals"): its ranges, the
-- fresh one, and the record with one part of it changed. Assumes nothing.
use Rattle.std.specs.Prelude.{ℕ, ◌^◌, Bool, true, false, ◌&&◌, List, [], ◌∷◌, leb, ltb, take, replicate}
use Rattle.common.specs.Choice.{pick, within}
use Rattle.refusals.specs.Reply.{Reply, answer, refuse}
use Rattle.wire_rules.specs.Rates.Steps.{top_code}
use Rattle.wire_rules.specs.Options.Wire.{nonce_limit}
use Rattle.sender_rules.specs.declared.State.{State}
use Rattle.sender_rules.specs.declared.State.TheVariants.{Idle, Asked, Quick}
use Rattle.std.specs.Prelude.{Option, None, Some}
use Rattle.sender_rules.specs.declared.Sample.{Sample}
use Rattle.sender_rules.specs.declared.Connection.{Connection}

-- a time in microseconds, or none; and the highest number sent when the window was last lowered for an echo, or none
abbrev pub Moment : Type 0
Moment = Option ℕ

abbrev pub Mark : Type 0
Mark = Option ℕ

-- "A, flight and ssthresh at most 2^40; window 1 to 2^40; .. sample bytes at most 2^40"
abbrev pub most_bytes : ℕ
most_bytes = 2 ^ 40

-- "up to five samples"
abbrev pub most_samples : ℕ
most_samples = 5

-- the samples of a record, the one added last in front: they stand in its first places. What the other places hold means nothing.
abbrev pub samples_of : Connection → List Sample
samples_of c = take c.count c.samples

-- "time .. before the stored one"
unfoldable pub is_before : ℕ → Moment → Bool
is_before time None = false
is_before time (Some stored) = ltb time stored

-- ---- ranges

-- "a code asked of sender or ledger 1 to 15; nonces below 2^30", and the window before is a window
unfoldable pub state_in_range : State → Bool
state_in_range Idle = true
state_in_range (Asked request) = within 1 request.code top_code && ltb request.nonce nonce_limit
state_in_range (Quick before) = within 1 before.window most_bytes

unfoldable pub bytes_in_range : List Sample → Bool
bytes_in_range [] = true
bytes_in_range (s ∷ rest) = leb s.bytes most_bytes && bytes_in_range rest

-- every number of the record that has a range is in it
unfoldable pub in_range : Connection → Bool
in_range c =
    within 1 c.window most_bytes && leb c.ssthresh most_bytes && state_in_range c.state && leb c.count most_samples && bytes_in_range (samples_of c)

-- ---- the fresh record

-- "A fresh record is idle with no last request", and has no mark, no sample and no period
abbrev pub fresh_with : ℕ → ℕ → Connection
fresh_with window ssthresh = record {
  state = Idle;
  window = window;
  ssthresh = ssthresh;
  last_request = None;
  mark = None;
  samples = replicate most_samples (record { time = 0; bytes = 0 });
  count = 0;
  period = None;
}

-- "window 1 to 2^40", ssthresh "at most 2^40", else 7
abbrev pub fresh_reply : ℕ → ℕ → Reply (Unit {0})
fresh_reply window ssthresh = pick (within 1 window most_bytes && leb ssthresh most_bytes) (answer tt) (refuse 7)

-- ---- a record with one part of it changed

module _ (c : Connection) where
  abbrev pub with_state : State → Connection
  with_state state = record { state = state; window = c.window; ssthresh = c.ssthresh; last_request = c.last_request; mark = c.mark; samples = c.samples; count = c.count; period = c.period }

  abbrev pub with_window : ℕ → Connection
  with_window window = record { state = c.state; window = window; ssthresh = c.ssthresh; last_request = c.last_request; mark = c.mark; samples = c.samples; count = c.count; period = c.period }

  abbrev pub with_ssthresh : ℕ → Connection
  with_ssthresh ssthresh = record { state = c.state; window = c.window; ssthresh = ssthresh; last_request = c.last_request; mark = c.mark; samples = c.samples; count = c.count; period = c.period }

  abbrev pub with_last_request : Moment → Connection
  with_last_request last = record { state = c.state; window = c.window; ssthresh = c.ssthresh; last_request = last; mark = c.mark; samples = c.samples; count = c.count; period = c.period }

  abbrev pub with_mark : Mark → Connection
  with_mark mark = record { state = c.state; window = c.window; ssthresh = c.ssthresh; last_request = c.last_request; mark = mark; samples = c.samples; count = c.count; period = c.period }

  abbrev pub with_samples : List Sample → ℕ → Connection
  with_samples samples count = record { state = c.state; window = c.window; ssthresh = c.ssthresh; last_request = c.last_request; mark = c.mark; samples = samples; count = count; period = c.period }

  abbrev pub with_period : Moment → Connection
  with_period period = record { state = c.state; window = c.window; ssthresh = c.ssthresh; last_request = c.last_request; mark = c.mark; samples = c.samples; count = c.count; period = period }
