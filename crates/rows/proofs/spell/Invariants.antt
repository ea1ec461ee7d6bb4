-- `rows::spell` meets its contract: the records so far, and those of the hops that are left, are those of the row. Assumes nothing.
use Rattle.rows.proofs.SpellLaws.{Underway}
use Rattle.rows.proofs.spell.Given as goal

abbrev pub invariant-loop-hop : goal.invariant-loop-hop
invariant-loop-hop l = Underway l.row l.hop-index l.records.items
