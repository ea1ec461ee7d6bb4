-- Laws of the non-validated period: it starts again once it was over, and goes on until then. Assumes nothing.
use Prim.Native.Nat.{ℕ}
use mathlib.Core.Bool.{true, false}
use mathlib.Core.Path.{◌≡◌}
use Rattle.std.specs.Prelude.{Some}
use Rattle.sender_rules.specs.declared.Connection.{Connection}
use Rattle.sender_rules.specs.Connections.Records.{with_period}
use Rattle.sender_rules.specs.Congestion.Phases.{is_over, started_at, adjusted, run_on}

module _ (initial time : ℕ) (c : Connection) where
  pub period_over_lem : is_over time c.period ≡ true → with_period (adjusted initial c) (Some time) ≡ run_on initial time c
  unfolding run_on
  period_over_lem e = simp e

  pub period_on : is_over time c.period ≡ false → with_period c (started_at time c.period) ≡ run_on initial time c
  unfolding run_on
  period_on e = simp e
