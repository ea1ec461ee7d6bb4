-- `hops::survey` meets its contract: the router that was read stands in front of what is left, and what is behind it goes on. Assumes nothing.
use native.Mathlib.Omega.{arith}
use Rattle.hops.proofs.SurveyLaws.{goes_on}
use Rattle.hops.proofs.survey.Goals as goal

pub loop-preserved : goal.loop-preserved
loop-preserved c = goes_on _ _ _ _ c.loop.invariant _ _ _ c.in-Some.ensures (omega (arith, c.loop-test.true)) c.with_router-sum.ensures c.length_of-at.ensures
