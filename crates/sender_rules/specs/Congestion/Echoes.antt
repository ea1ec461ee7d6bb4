-- The reaction to an ECN echo (document 01, "ECN and pipeACK"). Assumes nothing.
use Rattle.std.specs.Prelude.{ℕ, ◌+◌, ◌-◌, ◌/◌, ◌%◌, ◌^◌, min, max, Bool, true}
use Rattle.common.specs.Choice.{within}
use Rattle.std.specs.Prelude.{None, Some}
use Rattle.sender_rules.specs.declared.Connection.{Connection}
use Rattle.sender_rules.specs.Connections.Records.{with_window, with_ssthresh, with_mark, Mark}

-- "with no mark, or whose acknowledgement is ahead of the mark by 1 to 2^31 - 1 modulo 2^32", of two numbers of 32 bits
unfoldable pub is_ahead : ℕ → Mark → Bool
is_ahead acknowledgement None = true
is_ahead acknowledgement (Some mark) = within 1 ((acknowledgement + 2 ^ 32 - mark) % 2 ^ 32) (2 ^ 31 - 1)

-- "min(window, max(half, ..))", of a window and the least that it is halved down to: MSS, and IW in the phase. "All halves .. round down."
unfoldable pub halved : ℕ → ℕ → ℕ
halved window least = min window (max (window / 2) least)

-- "window and ssthresh become min(window, max(half, MSS)), and the highest sent number becomes the mark"
abbrev pub reacted : Connection → ℕ → ℕ → Connection
reacted c highest mss = with_mark (with_ssthresh (with_window c (halved c.window mss)) (halved c.window mss)) (Some highest)
