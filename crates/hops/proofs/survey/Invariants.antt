-- `hops::survey` meets its contract: what has been summed up, joined with the summary of what is left, is the summary of all; and what is
-- left ends where all does. Assumes nothing.
use Rattle.hops.proofs.SurveyLaws.{Going}
use Rattle.hops.proofs.survey.Given as goal

abbrev pub invariant-loop : goal.invariant-loop
invariant-loop l = Going l.bytes l.counter l.sum l.at
