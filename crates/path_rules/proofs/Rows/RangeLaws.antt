-- A hop that passes its test is in range. Assumes nothing.
use Prim.Native.Nat.{◌≤◌, ◌<◌}
use mathlib.Core.Bool.{true}
use mathlib.Core.Path.{◌≡◌}
use borrow.Author.Tests.{leb-true, ltb-true}
use lib.Dec.{leb, ltb}
use Rattle.common.proofs.Choice.{both_true}
use Rattle.wire_rules.specs.Rates.Steps.{top_code}
use Rattle.wire_rules.specs.Options.Wire.{nonce_limit}
use Rattle.path_rules.specs.declared.Hop.{Hop}
use Rattle.path_rules.specs.Rows.Rows.{hop_in_range}

pub in_range_lem : (hop : Hop) → hop_in_range hop ≡ true → (hop.ceiling ≤ top_code) × (hop.fresh < nonce_limit)
unfolding hop_in_range
in_range_lem hop e =
    let a = both_true (leb hop.ceiling top_code) (ltb hop.fresh nonce_limit) e in
    (leb-true hop.ceiling top_code a.0, ltb-true hop.fresh nonce_limit a.1)
