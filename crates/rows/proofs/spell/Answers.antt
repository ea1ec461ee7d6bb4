-- `rows::spell` meets its contract: the record of the next hop stands behind those before it. Assumes nothing.
use mathlib.Core.Path.{sym, ◌∙◌}
use Rattle.rows.proofs.SpellLaws.{goes_on}
use Rattle.rows.proofs.spell.Goals as goal

pub loop-hop-preserved : goal.loop-hop-preserved
loop-hop-preserved c =
    goes_on _ _ _ c.loop-hop.invariant c.loop-hop-test.true _ (sym c.hop_in_range.ensures ∙ c.if-not-hop_in_range.false) c.put_hop.ensures
