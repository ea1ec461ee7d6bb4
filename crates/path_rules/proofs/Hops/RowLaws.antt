-- Laws of rows as bytes: the record in front of some bytes, and the records read before those that are left. Assumes nothing.
use Prim.Native.Nat.{ℕ, zero, suc, ◌≤◌}
use mathlib.Core.Bool.{true, ◌&&◌}
use mathlib.Core.List.{List}
use Rattle.std.specs.Prelude.{Option, None, Some}
use mathlib.Core.Path.{◌≡◌, refl, ap}
use lib.Dec.{leb, eqb}
use lib.ListN.{length, get_or, drop}
use borrow.Author.Tests.{eqb-true, leb-true}
use Rattle.common.proofs.Choice.{both_true}
use Rattle.wire_rules.specs.Rates.Steps.{top_code}
use Rattle.path_rules.specs.declared.Router.{Router}
use Rattle.path_rules.specs.Hops.Rows.{knowing_kind, length_of, is_knowing, front_of, no_hops, ahead, go_on, hops_from}

-- ---- what stands in front

pub knowing_if : (bytes : List ℕ) → is_knowing bytes ≡ true → (get_or bytes 0 0 ≡ 2) × (6 ≤ length bytes) × (get_or bytes 1 0 ≤ top_code)
unfolding is_knowing
knowing_if bytes e =
    let a = both_true (eqb (get_or bytes 0 0) knowing_kind && leb 6 (length bytes)) (leb (get_or bytes 1 0) top_code) e in
    let b = both_true (eqb (get_or bytes 0 0) knowing_kind) (leb 6 (length bytes)) a.0 in
    (eqb-true (get_or bytes 0 0) knowing_kind b.0, leb-true 6 (length bytes) b.1, leb-true (get_or bytes 1 0) top_code a.1)

-- ---- the records that are left from a place on

pub hops_end : (limit : ℕ) (bytes : List ℕ) → front_of bytes ≡ None → hops_from limit bytes ≡ no_hops bytes
unfolding hops_from
hops_end zero bytes e = refl
hops_end (suc limit) bytes e = ap (λ (f : Option Router). go_on bytes f (λ router. hops_from limit (drop (length_of router) bytes))) e

pub hops_next : (limit : ℕ) (bytes : List ℕ) (router : Router) → front_of bytes ≡ Some router
    → hops_from (suc limit) bytes ≡ ahead router (hops_from limit (drop (length_of router) bytes))
unfolding hops_from
hops_next limit bytes router e = ap (λ (f : Option Router). go_on bytes f (λ r. hops_from limit (drop (length_of r) bytes))) e
