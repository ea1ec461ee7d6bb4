-- Laws of a row that is spelled hop by hop, and of reading what was spelled. Assumes nothing.
use Prim.Native.Nat.{ℕ, ◌+◌, ◌*◌, ◌≤◌, ◌<◌, zero-le}
use mathlib.Core.Bool.{Bool, true, false, ◌&&◌}
use mathlib.Core.List.{List, [], ◌∷◌, ◌++◌, append-nil, append_assoc}
use mathlib.Core.Path.{◌≡◌, refl, sym, ap, ◌∙◌}
use native.Mathlib.Omega.{arith}
use borrow.Author.Tests.{le-leb, leb-true}
use lib.Dec.{leb}
use lib.ListN.{length, get_or, drop, drop_of_length-le, length-append}
use Rattle.std.proofs.lemmas.List.{drop_more}
use Rattle.common.specs.Choice.{pick}
use Rattle.common.proofs.Choice.{both_true}
use Rattle.wire_rules.specs.Rates.Steps.{top_code}
use Rattle.wire_rules.specs.Options.Wire.{nonce_limit}
use Rattle.refusals.specs.Reply.{answer, refuse}
use Rattle.refusals.proofs.ReplyLaws.{answered, refused}
use Rattle.path_rules.specs.declared.Router.{Router}
use Rattle.path_rules.specs.declared.Router.TheVariants.{Knowing, Silent}
use Rattle.path_rules.specs.Hops.Rows.{most_routers, record_of, row_of}
use Rattle.path_rules.specs.Hops.Claims.{RouterInRange, RoutersInRange, spelled}
use Rattle.path_rules.proofs.Hops.Claims.{rows}
use Rattle.path_rules.specs.declared.Hop.{Hop}
use Rattle.path_rules.specs.Rows.Rows.{router_of, routers_of, hop_in_range, all_in_range, hops_row}
use Rattle.path_rules.proofs.Rows.RowClaims.{routers_long}
use Rattle.path_rules.proofs.Rows.RangeLaws.{in_range_lem}
use Rattle.rows.specs.Parts.{spelt}

-- ---- a row under way

-- what is read past the end of a row: no proof reads there
abbrev pub no_hop : Hop
no_hop = record { knows = false; ceiling = 0; fresh = 0 }

-- the records of the first hops of a row, so many of them
pub record Underway (row : List Hop) (met : ℕ) (records : List ℕ) : Type 0 where
  pub short : length records ≤ 6 * met
  pub spells : spelled (routers_of row) ≡ records ++ spelled (routers_of (drop met row))
  pub ranged : all_in_range row ≡ all_in_range (drop met row)

pub begins : (row : List Hop) → Underway row 0 []
begins row = record { short = zero-le; spells = refl; ranged = refl }

record_short : (router : Router) → length (record_of router) ≤ 6
record_short (Knowing ceiling fresh) = omega arith
record_short Silent = omega arith

never : (b : Bool) → b && false ≡ false
never true = refl
never false = refl

module _ (row : List Hop) (met : ℕ) (records : List ℕ) (u : Underway row met records) where
  -- the row is done
  pub ends : length row ≤ 64 → length row ≤ met → answer records ≡ spelt row
  unfolding spelt spelled routers_of all_in_range
  ends few done =
      let nothing : drop met row ≡ [] = drop_of_length-le row done in
      let all : spelled (routers_of row) ≡ records = u.spells ∙ ap (λ (l : List Hop). records ++ spelled (routers_of l)) nothing ∙ append-nil records in
      let ranged : all_in_range row ≡ true = u.ranged ∙ ap all_in_range nothing in
      simp (le-leb (length row) most_routers few, ranged, all)

  -- the next hop, and those behind it
  module _ (more : met < length row) where
    abbrev hop : Hop
    hop = get_or row met no_hop

    ranged_on : all_in_range row ≡ (hop_in_range hop && all_in_range (drop (met + 1) row))
    unfolding all_in_range
    ranged_on = u.ranged ∙ ap all_in_range (drop_more row met no_hop more)

    spelled_on : spelled (routers_of row) ≡ records ++ (record_of (router_of hop) ++ spelled (routers_of (drop (met + 1) row)))
    unfolding spelled routers_of
    spelled_on = u.spells ∙ ap (λ (l : List Hop). records ++ spelled (routers_of l)) (drop_more row met no_hop more)

    pub not_taken : hop_in_range hop ≡ false → refuse 7 ≡ spelt row
    unfolding spelt
    not_taken e =
        let ranged : all_in_range row ≡ false = ranged_on ∙ ap (λ (b : Bool). b && all_in_range (drop (met + 1) row)) e in
        simp (ranged, never (leb (length row) most_routers))

    pub goes_on : (next : List ℕ) → hop_in_range hop ≡ true → next ≡ records ++ record_of (router_of hop) → Underway row (met + 1) next
    goes_on next e n = rw n record {
      short = omega (arith, length-append records (record_of (router_of hop)), record_short (router_of hop), u.short);
      spells = spelled_on ∙ sym (append_assoc records (record_of (router_of hop)) (spelled (routers_of (drop (met + 1) row))));
      ranged = ranged_on ∙ ap (λ (b : Bool). b && all_in_range (drop (met + 1) row)) e;
    }

-- ---- what was spelled is read back as the row

routers_ranged : (row : List Hop) → all_in_range row ≡ true → RoutersInRange (routers_of row)
unfolding all_in_range routers_of
routers_ranged [] e = tt
routers_ranged (hop ∷ rest) e =
    let both = both_true (hop_in_range hop) (all_in_range rest) e in
    let h = in_range_lem hop both.0 in
    (by_knowledge hop.knows h, routers_ranged rest both.1)
  where
    by_knowledge : (k : Bool) → (hop.ceiling ≤ top_code) × (hop.fresh < nonce_limit) → RouterInRange (pick k (Knowing hop.ceiling hop.fresh) Silent)
    by_knowledge true h = h
    by_knowledge false h = tt

read_back : (row : List Hop) → length row ≤ 64 → all_in_range row ≡ true → row_of most_routers (spelled (routers_of row)) ≡ answer (routers_of row)
read_back row few e =
    rows.reads most_routers (routers_of row) (spelled (routers_of row)) (rows.written (routers_of row) (routers_ranged row e)).0 (omega (arith, routers_long row, few))

pub reads : (row : List Hop) (records : List ℕ) → answer records ≡ spelt row → row_of most_routers records ≡ hops_row most_routers row
unfolding spelt
reads row records e =
    let a = answered (leb (length row) most_routers && all_in_range row) records (spelled (routers_of row)) 7 e in
    let both = both_true (leb (length row) most_routers) (all_in_range row) a.0 in
    ap (row_of most_routers) a.1 ∙ read_back row (leb-true _ _ both.0) both.1 ∙ simp (a.0)

pub no_row : (row : List Hop) (n : ℕ) → refuse n ≡ spelt row → refuse n ≡ hops_row most_routers row
unfolding spelt
no_row row n e =
    let r = refused (leb (length row) most_routers && all_in_range row) (spelled (routers_of row)) n 7 e in
    simp (r.0, r.1)
