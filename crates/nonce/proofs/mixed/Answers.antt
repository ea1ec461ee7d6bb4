-- `nonce::mixed` meets its contract: every part of the sum is at most the whole, which is a nonce. Assumes nothing.
use native.Mathlib.Omega.{arith}
use Prim.Native.Nat.{◌<◌}
use Rattle.wire_rules.specs.Options.Wire.{nonce_limit}
use Rattle.wire_rules.proofs.Options.NonceLaws.{mix}
use Rattle.nonce.proofs.NonceLaws.{mixed_fits}
use Rattle.nonce.proofs.mixed.Goals as goal

whole : (c : goal.After-four_to-low) → let a = c.args in mix c.four_to-high.result c.four_to-low.result a.nonce a.fresh < nonce_limit
whole c = let p = c.requires in mixed_fits _ _ _ _ _ _ p.0 p.1 p.2 c.four_to-high.ensures.0 c.four_to-low.ensures.0

pub overflow_add-result : goal.overflow_add-result
overflow_add-result c = let fits = whole c in omega (arith, fits)

pub overflow_add-result-2 : goal.overflow_add-result-2
overflow_add-result-2 c = let fits = whole c in omega (arith, fits)
