-- Laws of the calls: what each replies, by the tests that lead there. Assumes nothing.
use Prim.Native.Nat.{ℕ, ◌≤◌, ◌<◌}
use mathlib.Core.Bool.{Bool, true, false}
use mathlib.Core.Path.{◌≡◌}
use borrow.Author.Tests.{le-leb, lt-leb}
use Rattle.common.specs.Choice.{within}
use Rattle.refusals.specs.Reply.{answer, refuse}
use Rattle.wire_rules.specs.Rates.Window.{largest_segment}
use Rattle.sender_rules.specs.declared.Sample.{Sample}
use Rattle.sender_rules.specs.declared.Connection.{Connection}
use Rattle.sender_rules.specs.Connections.Records.{most_bytes, in_range}
use Rattle.sender_rules.specs.Congestion.Echoes.{is_ahead}
use Rattle.sender_rules.specs.Congestion.Phases.{is_early, sampled, phase_in_range, is_validated}
use Rattle.sender_rules.specs.Congestion.Calls.{echo_reply, sample_reply, phase_reply}

module _ (c : Connection) where
  -- ---- an echo

  module _ (ack mss : ℕ) where
    pub echo_record : in_range c ≡ false → refuse 7 ≡ echo_reply c ack mss
    echo_record e = simp e

    pub echo_segment : in_range c ≡ true → within 1 mss largest_segment ≡ false → refuse 7 ≡ echo_reply c ack mss
    echo_segment e s = simp (e, s)

    pub echo_said : in_range c ≡ true → within 1 mss largest_segment ≡ true → (t : Bool) → is_ahead ack c.mark ≡ t → answer t ≡ echo_reply c ack mss
    echo_said e s t a = simp (e, s, a)

  -- ---- a sample

  module _ (s : Sample) where
    pub sample_record : in_range c ≡ false → refuse 7 ≡ sample_reply c s
    sample_record e = simp e

    pub sample_bytes : in_range c ≡ true → most_bytes < s.bytes → refuse 7 ≡ sample_reply c s
    sample_bytes e h = simp (e, lt-leb s.bytes most_bytes h)

    pub sample_early : in_range c ≡ true → s.bytes ≤ most_bytes → is_early s.time c ≡ true → refuse 9 ≡ sample_reply c s
    sample_early e h b = simp (e, le-leb s.bytes most_bytes h, b)

    pub sample_done : in_range c ≡ true → s.bytes ≤ most_bytes → is_early s.time c ≡ false → answer (sampled c s) ≡ sample_reply c s
    sample_done e h b = simp (e, le-leb s.bytes most_bytes h, b)

  -- ---- the phase

  module _ (rtt initial time : ℕ) where
    pub phase_record : in_range c ≡ false → refuse 7 ≡ phase_reply c rtt initial time
    phase_record e = simp e

    pub phase_numbers : in_range c ≡ true → phase_in_range rtt initial ≡ false → refuse 7 ≡ phase_reply c rtt initial time
    phase_numbers e p = simp (e, p)

    module _ (e : in_range c ≡ true) (p : phase_in_range rtt initial ≡ true) where
      pub phase_early : is_early time c ≡ true → refuse 9 ≡ phase_reply c rtt initial time
      phase_early b = simp (e, p, b)

      pub phase_said : is_early time c ≡ false → (t : Bool) → is_validated rtt time c ≡ t → answer t ≡ phase_reply c rtt initial time
      phase_said b t v = simp (e, p, b, v)
