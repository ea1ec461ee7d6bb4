-- Laws of an input that is read record by record. Assumes nothing.
use Prim.Native.Nat.{ℕ, ◌+◌, ◌-◌, ◌≤◌}
use mathlib.Core.Bool.{true, false}
use mathlib.Core.List.{List, ◌++◌}
use mathlib.Core.Path.{◌≡◌, sym, ap, ap₂, ◌∙◌}
use native.Mathlib.Omega.{arith}
use lib.ListN.{length, take, drop, length-append, length-drop}
use lib.Seq.{drop-drop, take-append_seam, drop-append_seam}
use borrow.Author.Tests.{eq-eqb, ne_eqb}
use Rattle.common.proofs.Lists.{take_rest}
use Rattle.path_rules.specs.Hops.Rows.{most_routers, hops_from}
use Rattle.path_rules.proofs.Hops.SpellLaws.{split, spelt_length}
use Rattle.path_rules.specs.Plan.Records.{receiver_length, starts_request, starts_receiver, hops_of, plan_of, good, bad, read_plan}

-- ---- where the routers' records end

module _ (input : List ℕ) (end : ℕ) (ends : end + length (hops_of most_routers input).rest ≡ length input) (far : 8 ≤ end) where
  abbrev pub row : List ℕ
  row = (split most_routers (drop 8 input)).0

  parts : drop 8 input ≡ row ++ (hops_of most_routers input).rest
  parts = (split most_routers (drop 8 input)).1

  row_long : length row ≡ end - 8
  row_long = omega (arith, ap length parts, length-append row (hops_of most_routers input).rest, length-drop 8 input, ends)

  pub row_is : take (end - 8) (drop 8 input) ≡ row
  row_is = ap₂ take (sym row_long) parts ∙ take-append_seam row (hops_of most_routers input).rest

  pub rest_is : drop end input ≡ (hops_of most_routers input).rest
  rest_is =
      ap (λ (n : ℕ). drop n input) {x = end} {y = 8 + (end - 8)} (omega arith)
      ∙ sym (drop-drop (end - 8) 8 input)
      ∙ ap₂ drop (sym row_long) parts
      ∙ drop-append_seam row (hops_of most_routers input).rest

  -- no run of records is longer than 8 bytes and 6 for each of 64 routers
  pub end_near : end ≤ 392
  end_near =
      let few = (spelt_length (hops_of most_routers input).routers row (split most_routers (drop 8 input)).2).0 in
      omega (arith, few, row_long, (split most_routers (drop 8 input)).3)

  -- ---- what the input is

  behind : length input - length (hops_of most_routers input).rest ≡ end
  behind = omega (arith, ends)

  module _ (starts : starts_request input ≡ true) where
    pub bad_receiver : starts_receiver (drop end input) ≡ false → read_plan most_routers input ≡ bad end
    unfolding read_plan
    bad_receiver e = simp (starts, sym (ap starts_receiver rest_is) ∙ e, behind)

    module _ (receives : starts_receiver (drop end input) ≡ true) where
      pub bad_end : (end + 2 ≡ length input → ⊥) → read_plan most_routers input ≡ bad (end + 2)
      unfolding read_plan
      bad_end n =
          simp (
            starts,
            sym (ap starts_receiver rest_is) ∙ receives,
            ne_eqb (length (hops_of most_routers input).rest) receiver_length (λ z. n (omega (arith, ends))),
            behind,
          )

      pub good_plan : end + 2 ≡ length input → read_plan most_routers input ≡ good (plan_of input (hops_of most_routers input))
      unfolding read_plan
      good_plan e =
          simp (starts, sym (ap starts_receiver rest_is) ∙ receives, eq-eqb (length (hops_of most_routers input).rest) receiver_length (omega (arith, ends)))

pub bad_request : (limit : ℕ) (input : List ℕ) → starts_request input ≡ false → read_plan limit input ≡ bad 0
unfolding read_plan
bad_request limit input e = simp e

-- a survey of what stands behind the request's record, by places in the input
pub surveyed : (input : List ℕ) (found : ℕ) → 8 ≤ length input
    → found + length (hops_from most_routers (take (length input - 8) (drop 8 input))).rest ≡ length (take (length input - 8) (drop 8 input))
    → 8 + found + length (hops_of most_routers input).rest ≡ length input
surveyed input found h e =
    let part = take_rest 8 input in
    let same : found + length (hops_of most_routers input).rest ≡ length (drop 8 input) =
    ap (λ (l : List ℕ). found + length (hops_from most_routers l).rest) (sym part) ∙ e ∙ ap length part in
    omega (arith, same, length-drop 8 input)
