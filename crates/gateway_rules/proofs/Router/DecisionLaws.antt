-- Laws of a decision: which it is, by the rate and the ceiling, and that what it writes are numbers that can be written. Assumes nothing.
use Prim.Native.Nat.{ℕ, ◌≤◌, ◌<◌, min}
use mathlib.Core.Bool.{true}
use Rattle.std.specs.Prelude.{Option, None, Some}
use mathlib.Core.Path.{◌≡◌, refl, sym}
use native.Mathlib.Omega.{arith}
use lib.Dec.{eqb, leb, ltb}
use borrow.Author.Tests.{eq-eqb, ne_eqb, leb-true, ltb-true, le-leb, lt-ltb}
use Rattle.common.proofs.Choice.{both_true, by_test}
use Rattle.wire_rules.specs.Rates.Steps.{top_code}
use Rattle.wire_rules.specs.declared.Request.{Request}
use Rattle.wire_rules.specs.Options.Wire.{nonce_limit}
use Rattle.wire_rules.proofs.Options.Claims.{lowering}
use Rattle.wire_rules.specs.Ipv4.Views.{View}
use Rattle.wire_rules.specs.Ipv4.Claims.{RequestFits, FitsWhere, Fits, asks}
use Rattle.gateway_rules.specs.declared.Decision.{Decision}
use Rattle.gateway_rules.specs.declared.Decision.TheVariants.{Nothing, Approved, Denied}
use Rattle.gateway_rules.specs.Router.Decisions.{one_less, approved_at, decided, written_by, over, request_after}
use Rattle.gateway_rules.specs.Router.Routers.{router_in_range, routed_view}

-- what is known once ceiling and fresh nonce are in their ranges
pub record InRange (ceiling fresh : ℕ) : Type 0 where
  pub ceiling_fits : ceiling ≤ top_code
  pub fresh_fits : fresh < nonce_limit

pub in_range_lem : (ceiling fresh : ℕ) → router_in_range ceiling fresh ≡ true → InRange ceiling fresh
unfolding router_in_range
in_range_lem ceiling fresh e =
    let b = both_true (leb ceiling top_code) (ltb fresh nonce_limit) e in
    record { ceiling_fits = leb-true ceiling top_code b.0; fresh_fits = ltb-true fresh nonce_limit b.1 }

pub ranges : (ceiling fresh : ℕ) → ceiling ≤ top_code → fresh < nonce_limit → router_in_range ceiling fresh ≡ true
unfolding router_in_range
ranges ceiling fresh c f = simp (le-leb ceiling top_code c, lt-ltb fresh nonce_limit f)

-- ---- which decision it is

module _ (ceiling fresh : ℕ) (r : Request) where
  pub nothing_decided : r.rate ≡ 0 → Nothing ≡ decided ceiling fresh r
  unfolding decided
  nothing_decided e = simp (eq-eqb r.rate 0 e)

  pub approved : (r.rate ≡ 0 → ⊥) → (min r.rate ceiling ≡ 0 → ⊥) → Approved (approved_at (min r.rate ceiling) fresh r) ≡ decided ceiling fresh r
  unfolding decided
  approved n m = simp (ne_eqb r.rate 0 n, ne_eqb (min r.rate ceiling) 0 m)

  pub denied : (r.rate ≡ 0 → ⊥) → min r.rate ceiling ≡ 0 → Denied ≡ decided ceiling fresh r
  unfolding decided
  denied n e = simp (ne_eqb r.rate 0 n, eq-eqb (min r.rate ceiling) 0 e)

-- ---- what it writes

-- what a decision writes can be written
pub decided_fits : (ceiling fresh : ℕ) (r : Request) → RequestFits r → FitsWhere (written_by (decided ceiling fresh r))
unfolding decided one_less
decided_fits ceiling fresh r f =
    by_test (λ (d : Decision). FitsWhere (written_by d)) (eqb r.rate 0) (λ e. tt)
    (λ e.
    by_test (λ (d : Decision). FitsWhere (written_by d)) (eqb (min r.rate ceiling) 0)
    (λ z. record { rate_fits = omega arith; ttl_fits = omega arith; nonce_fits = omega arith })
    (λ z. record {
      rate_fits = let h = f.rate_fits in omega arith;
      ttl_fits = omega arith;
      nonce_fits = lowering.in_range_lem r.rate (min r.rate ceiling) r.nonce fresh f.rate_fits f.nonce_fits;
    }))

over_asks : (new : Option Request) (r : Request) → asks (over new (Some r)) ≡ true
over_asks None r = refl
over_asks (Some q) r = refl

-- a packet that asks goes on asking, and one that does not does not begin to
pub asks_kept : (ceiling fresh : ℕ) (x : Option Request) → asks x ≡ asks (request_after ceiling fresh x)
asks_kept ceiling fresh None = refl
asks_kept ceiling fresh (Some r) = sym (over_asks (written_by (decided ceiling fresh r)) r)

over_fits : (new old : Option Request) → FitsWhere new → FitsWhere old → FitsWhere (over new old)
over_fits None old n o = o
over_fits (Some r) old n o = n

pub after_fits : (ceiling fresh : ℕ) (x : Option Request) → FitsWhere x → FitsWhere (request_after ceiling fresh x)
after_fits ceiling fresh None f = tt
after_fits ceiling fresh (Some r) f = over_fits (written_by (decided ceiling fresh r)) (Some r) (decided_fits ceiling fresh r f) f

pub routed_fits : (ceiling fresh : ℕ) (v : View) → Fits v → Fits (routed_view ceiling fresh v)
routed_fits ceiling fresh v f = record { ttl_small = let h = f.ttl_small in omega arith; request_fits = after_fits ceiling fresh v.request f.request_fits }
