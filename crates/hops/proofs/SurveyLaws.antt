-- Laws of a survey: what holds between two of its turns. Assumes nothing.
use Prim.Native.Nat.{ℕ, ◌+◌, ◌-◌, ◌≤◌, ◌<◌}
use mathlib.Core.List.{List}
use Rattle.std.specs.Prelude.{None, Some}
use mathlib.Core.Path.{◌≡◌, refl, sym, ap, ◌∙◌}
use native.Mathlib.Omega.{arith}
use lib.ListN.{length, drop, length-drop}
use Rattle.wire_rules.specs.Rates.Steps.{top_code}
use Rattle.path_rules.specs.declared.Router.{Router}
use Rattle.path_rules.specs.declared.Summary.{Summary}
use Rattle.path_rules.specs.Hops.Rows.{most_routers, front_of, length_of, Hops, no_hops, ahead, hops_from}
use Rattle.path_rules.specs.Hops.Summaries.{summary_of, joined}
use Rattle.hops.specs.Parts.{one}
use Rattle.path_rules.specs.Hops.Claims.{Ranged}
use Rattle.path_rules.proofs.Hops.RowLaws.{hops_end}
use Rattle.hops.proofs.RowLaws.{front_fits, hops_on}
use Rattle.hops.proofs.JoinLaws.{joined_nobody, joined_one, joined_last, routers_more, ranged_more}

-- what is left from a place on, when a sum has been made of what stands before it
abbrev pub left_from : List ℕ → Summary → ℕ → Hops
left_from bytes sum at = hops_from (most_routers - sum.routers) (drop at bytes)

-- so many turns of the loop have each summed up a router
pub record Going (bytes : List ℕ) (turns : ℕ) (sum : Summary) (at : ℕ) : Type 0 where
  pub counted : sum.routers ≡ turns
  pub ranged : Ranged sum
  pub inside : at ≤ length bytes
  pub sums : summary_of (hops_from most_routers bytes).routers ≡ joined sum (summary_of (left_from bytes sum at).routers)
  pub ends_alike : (hops_from most_routers bytes).rest ≡ (left_from bytes sum at).rest

pub begins : (bytes : List ℕ) → Going bytes 0 (record { routers = 0; silent = 0; least = top_code }) 0
begins bytes = record {
  counted = refl;
  ranged = record { routers_high = omega arith; silent_high = omega arith; least_high = omega arith };
  inside = omega arith;
  sums = sym (joined_nobody (hops_from most_routers bytes).routers);
  ends_alike = refl;
}

module _ (bytes : List ℕ) (turns : ℕ) (sum : Summary) (at : ℕ) (g : Going bytes turns sum at) where
  -- the place behind a router's record
  pub fits_behind : (router : Router) → front_of (drop at bytes) ≡ Some router → at + length_of router ≤ length bytes
  fits_behind router e = omega (arith, front_fits (drop at bytes) router e, length-drop at bytes, g.inside)

  goes_behind : (router : Router) → front_of (drop at bytes) ≡ Some router → turns < most_routers → Going bytes (turns + 1) (joined sum (one router)) (at + length_of router)
  goes_behind router e h =
      let few : sum.routers < most_routers = omega (arith, g.counted, h) in
      let next : left_from bytes sum at ≡ ahead router (left_from bytes (joined sum (one router)) (at + length_of router)) =
      hops_on most_routers sum.routers bytes at router few e
      ∙ ap (λ (n : ℕ). ahead router (hops_from (most_routers - n) (drop (at + length_of router) bytes))) (sym (routers_more sum router)) in
      record {
        counted = omega (arith, routers_more sum router, g.counted);
        ranged = ranged_more sum router g.ranged few;
        inside = fits_behind router e;
        sums =
            g.sums
            ∙ ap (λ (l : Hops). joined sum (summary_of l.routers)) next
            ∙ joined_one sum router (left_from bytes (joined sum (one router)) (at + length_of router)).routers;
        ends_alike = g.ends_alike ∙ ap (λ (l : Hops). l.rest) next;
      }

  pub goes_on : (router : Router) (next : Summary) (place : ℕ) → Some router ≡ front_of (drop at bytes) → turns < most_routers → next ≡ joined sum (one router) → place ≡ length_of router
      → Going bytes (turns + 1) next (at + place)
  goes_on router next place e h n p = rw (n, p) (goes_behind router (sym e) h)

  -- nothing more is read
  stops : left_from bytes sum at ≡ no_hops (drop at bytes)
      → (sum ≡ summary_of (hops_from most_routers bytes).routers) × (at + length (hops_from most_routers bytes).rest ≡ length bytes)
  stops e =
      let rest : (hops_from most_routers bytes).rest ≡ drop at bytes = g.ends_alike ∙ ap (λ (l : Hops). l.rest) e in (
        sym (g.sums ∙ ap (λ (l : Hops). joined sum (summary_of l.routers)) e ∙ joined_last sum g.ranged.least_high),
        omega (arith, ap length rest, length-drop at bytes, g.inside),
      )

  pub ends : front_of (drop at bytes) ≡ None → (sum ≡ summary_of (hops_from most_routers bytes).routers) × (at + length (hops_from most_routers bytes).rest ≡ length bytes)
  ends e = stops (hops_end (most_routers - sum.routers) (drop at bytes) e)

  pub ends_full : most_routers ≤ sum.routers → (sum ≡ summary_of (hops_from most_routers bytes).routers) × (at + length (hops_from most_routers bytes).rest ≡ length bytes)
  unfolding hops_from
  ends_full h = stops (ap (λ (n : ℕ). hops_from n (drop at bytes)) {x = most_routers - sum.routers} {y = 0} (omega arith))
