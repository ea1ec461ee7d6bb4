-- Laws of the echo: how far an acknowledgement is ahead of a mark. Assumes nothing.
use Rattle.std.proofs.Common.{◌≡◌, ℕ, ◌+◌, ◌-◌, ◌%◌, ◌^◌, ◌<◌, false, ltb, arith, le-leb}
use borrow.Author.Tests.{lt-leb}
use Rattle.common.specs.Choice.{within}
use Rattle.connection.proofs.TestLaws.{below_half}

-- a number r that gives the acknowledgement again when the mark is added, modulo 2^32
module _ (ack mark r : ℕ) (e : (r + mark) % 2 ^ 32 ≡ ack) (a : ack < 2 ^ 32) (m : mark < 2 ^ 32) (h : r < 2 ^ 32) where
  difference : (ack + 2 ^ 32 - mark) % 2 ^ 32 ≡ r
  difference = omega arith

  pub not_ahead : r ≡ 0 → false ≡ within 1 ((ack + 2 ^ 32 - mark) % 2 ^ 32) (2 ^ 31 - 1)
  unfolding within
  not_ahead z = rw difference (simp (lt-leb 1 r (omega arith)))

  pub ahead_by : (r ≡ 0 → ⊥) → ltb r (2 ^ 31) ≡ within 1 ((ack + 2 ^ 32 - mark) % 2 ^ 32) (2 ^ 31 - 1)
  unfolding within
  ahead_by n = rw difference (simp (le-leb 1 r (omega arith)) (below_half r))
