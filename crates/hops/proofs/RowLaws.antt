-- Laws of a row's records that are left from a place on, and of reading one record more. Assumes nothing.
use Prim.Native.Nat.{ℕ, suc, ◌+◌, ◌-◌, ◌≤◌, ◌<◌}
use mathlib.Core.Bool.{Bool, true, false}
use mathlib.Core.List.{List, [], ◌∷◌}
use Rattle.std.specs.Prelude.{None, Some}
use mathlib.Core.Path.{◌≡◌, refl, ap, ◌∙◌}
use native.Mathlib.Omega.{arith}
use lib.Dec.{eqb}
use lib.ListN.{length, get_or, drop}
use lib.Seq.{drop-drop}
use borrow.Author.Tests.{eqb-true}
use Rattle.common.specs.Choice.{pick}
use Rattle.common.proofs.Choice.{clash}
use Rattle.path_rules.specs.declared.Router.{Router}
use Rattle.path_rules.specs.declared.Router.TheVariants.{Knowing, Silent}
use Rattle.path_rules.specs.Hops.Rows.{silent_kind, length_of, nonce_at, is_knowing, front_of, ahead, hops_from}
use Rattle.path_rules.proofs.Hops.RowLaws.{knowing_if, hops_next}

-- ---- the records that are left from a place on

pub front_fits : (bytes : List ℕ) (router : Router) → front_of bytes ≡ Some router → length_of router ≤ length bytes
unfolding front_of length_of
front_fits bytes router e = go (eqb (get_or bytes 0 0) silent_kind) (is_knowing bytes) refl refl e
  where
    some_byte : (l : List ℕ) → get_or l 0 0 ≡ 3 → 1 ≤ length l
    some_byte [] z = absurd (omega arith)
    some_byte (x ∷ l) z = omega arith

    go : (s t : Bool) → eqb (get_or bytes 0 0) silent_kind ≡ s → is_knowing bytes ≡ t
        → pick s (Some Silent) (pick t (Some (Knowing (get_or bytes 1 0) (nonce_at 2 bytes))) None) ≡ Some router → length_of router ≤ length bytes
    go true t f g h = let is : router ≡ Silent = cc in rw is (some_byte bytes (eqb-true _ _ f))
    go false true f g h = let is : router ≡ Knowing (get_or bytes 1 0) (nonce_at 2 bytes) = cc in rw is (knowing_if bytes g).1
    go false false f g h = absurd (clash (cc))

-- `limit` routers in all, of which `seen` have been read: the next one
pub hops_on : (limit seen : ℕ) (bytes : List ℕ) (at : ℕ) (router : Router) → seen < limit → front_of (drop at bytes) ≡ Some router
    → hops_from (limit - seen) (drop at bytes) ≡ ahead router (hops_from (limit - (seen + 1)) (drop (at + length_of router) bytes))
hops_on limit seen bytes at router h e =
    ap (λ (n : ℕ). hops_from n (drop at bytes)) {x = limit - seen} {y = suc (limit - (seen + 1))} (omega arith)
    ∙ hops_next (limit - (seen + 1)) (drop at bytes) router e
    ∙ ap (λ (l : List ℕ). ahead router (hops_from (limit - (seen + 1)) l)) (drop-drop (length_of router) at bytes)
