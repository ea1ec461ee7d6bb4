-- `walk::find` meets its contract: an option that is gone past has a byte at least, and lies in the area. Assumes nothing.
use native.Mathlib.Omega.{arith}
use Rattle.walk.proofs.WalkLaws.{at_past}
use Rattle.walk.proofs.find.Goals as goal

pub overflow_add-at : goal.overflow_add-at
overflow_add-at c = let w = c.walk in let p = at_past _ w.place w.at w.invariant.1 c.if-at-area.false c.in-Ok-Some.field-0 c.in-Ok-Some.past c.in-Ok-Some.field-0-is c.in-Ok-Some.ensures in omega arith

pub walk-smaller : goal.walk-smaller
walk-smaller c = let w = c.walk in let p = at_past _ w.place w.at w.invariant.1 c.if-at-area.false c.in-Ok-Some.field-0 c.in-Ok-Some.past c.in-Ok-Some.field-0-is c.in-Ok-Some.ensures in omega arith

pub walk-preserved : goal.walk-preserved
walk-preserved c = let w = c.walk in let p = at_past _ w.place w.at w.invariant.1 c.if-at-area.false c.in-Ok-Some.field-0 c.in-Ok-Some.past c.in-Ok-Some.field-0-is c.in-Ok-Some.ensures in (p.1, p.2)
