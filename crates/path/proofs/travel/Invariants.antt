-- `path::travel` meets its contract: the travel over what is left, with the packet as the last hop left it, ends as the whole travel does.
-- Assumes nothing.
use Rattle.path_rules.specs.Path.Runs.{hop}
use Rattle.path.proofs.RunLaws.{Underway}
use Rattle.path.proofs.travel.Given as goal

abbrev pub invariant-loop : goal.invariant-loop
invariant-loop l = Underway hop l.row l.initial.packet l.counter l.at l.packet
