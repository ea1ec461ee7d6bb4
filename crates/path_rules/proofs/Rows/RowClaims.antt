-- The claims on rows of hop records: which rows are read, that they agree with rows as bytes, and which calls over them there are. Assumes
-- nothing.
use Prim.Native.Nat.{ℕ, suc, ◌≤◌, ◌<◌}
use mathlib.Core.Bool.{Bool, true, false, ◌&&◌}
use mathlib.Core.List.{List, [], ◌∷◌}
use mathlib.Core.Logic.{◌⊎◌, inl, inr}
use mathlib.Core.Path.{◌≡◌, refl, sym, ap, ◌∙◌}
use native.Mathlib.Omega.{arith}
use borrow.Author.Tests.{lt-ltb, le-leb, leb-true}
use lib.Dec.{leb}
use lib.ListN.{length}
use Rattle.common.specs.Choice.{pick}
use Rattle.common.proofs.Choice.{both_true, untrue, either, le_or_gt}
use Rattle.refusals.specs.Reply.{Reply, answer, refuse}
use Rattle.refusals.proofs.ReplyLaws.{same_answer}
use Rattle.wire_rules.specs.Rates.Steps.{top_code}
use Rattle.wire_rules.specs.Options.Wire.{nonce_limit}
use Rattle.sender_rules.specs.declared.Connection.{Connection}
use Rattle.wire_rules.specs.declared.Transport.{Transport}
use Rattle.path_rules.specs.declared.Router.{Router}
use Rattle.path_rules.specs.declared.Router.TheVariants.{Knowing, Silent}
use Rattle.path_rules.specs.Hops.Rows.{row_of}
use Rattle.path_rules.specs.Hops.Summaries.{summary_over}
use Rattle.path_rules.specs.Hops.Claims.{Spells, RouterInRange, RoutersInRange, spelled}
use Rattle.path_rules.proofs.Hops.Claims.{rows}
use Rattle.path_rules.specs.Path.Runs.{call_over, run_call}
use Rattle.path_rules.specs.declared.Hop.{Hop}
use Rattle.path_rules.specs.Rows.Rows.{routers_of, hop_in_range, all_in_range, hops_row, hops_summary, hops_call}
use Rattle.path_rules.specs.Rows.Claims.{HopInRange, HopsInRange, knowing_hop, silent_hop, HopRows, Agreeing, HopSum, HopRun, HopSumming, HopRunning, HopCalls}
use Rattle.path_rules.proofs.Rows.RangeLaws as Ranges

-- ---- ranges

hop_ok : (hop : Hop) → HopInRange hop → hop_in_range hop ≡ true
unfolding hop_in_range
hop_ok hop r = simp (le-leb hop.ceiling top_code r.ceiling_high, lt-ltb hop.fresh nonce_limit r.fresh_high)

all_ok : (hops : List Hop) → HopsInRange hops → all_in_range hops ≡ true
unfolding all_in_range
all_ok [] r = refl
all_ok (hop ∷ rest) r = simp (hop_ok hop r.0, all_ok rest r.1)

all_in : (hops : List Hop) → all_in_range hops ≡ true → HopsInRange hops
unfolding all_in_range
all_in [] e = tt
all_in (hop ∷ rest) e =
    let a = both_true (hop_in_range hop) (all_in_range rest) e in
    let h = Ranges.in_range_lem hop a.0 in
    (record { ceiling_high = h.0; fresh_high = h.1 }, all_in rest a.1)

module _ (limit : ℕ) (hops : List Hop) where
  abbrev pub IsRow : Type 0
  IsRow = (length hops ≤ limit) × HopsInRange hops

  abbrev test : Bool
  test = leb (length hops) limit && all_in_range hops

  row_tested : test ≡ true → IsRow
  row_tested e = let a = both_true (leb (length hops) limit) (all_in_range hops) e in (leb-true (length hops) limit a.0, all_in hops a.1)

  row_passes : IsRow → test ≡ true
  row_passes r = simp (le-leb (length hops) limit r.0, all_ok hops r.1)

  pub either_row : IsRow ⊎ (IsRow → ⊥)
  either_row = either test row_tested row_passes

  row_reads : length hops ≤ limit → HopsInRange hops → hops_row limit hops ≡ answer (routers_of hops)
  row_reads h r = ap (λ (b : Bool). pick b (answer (routers_of hops)) (refuse 7)) (row_passes (h, r))

  row_seven : (IsRow → ⊥) → hops_row limit hops ≡ refuse 7
  row_seven n = ap (λ (b : Bool). pick b (answer (routers_of hops)) (refuse 7)) (untrue test (λ e. n (row_tested e)))

-- ---- the routers of a row

pub routers_long : (hops : List Hop) → length (routers_of hops) ≡ length hops
unfolding routers_of
routers_long [] = refl
routers_long (hop ∷ rest) = ap suc (routers_long rest)

pub routers_in : (hops : List Hop) → HopsInRange hops → RoutersInRange (routers_of hops)
unfolding routers_of
routers_in [] r = tt
routers_in (hop ∷ rest) r = (by_knowledge hop.knows, routers_in rest r.1)
  where
    by_knowledge : (k : Bool) → RouterInRange (pick k (Knowing hop.ceiling hop.fresh) Silent)
    by_knowledge true = (r.0.ceiling_high, r.0.fresh_high)
    by_knowledge false = tt

some_row : (routers : List Router) → RoutersInRange routers → (hops : List Hop) × HopsInRange hops × (routers_of hops ≡ routers)
unfolding routers_of
some_row [] r = ([], tt, refl)
some_row (Knowing ceiling fresh ∷ rest) r =
    let more = some_row rest r.1 in
    (knowing_hop ceiling fresh ∷ more.0, (record { ceiling_high = r.0.0; fresh_high = r.0.1 }, more.1), ap (λ (l : List Router). Knowing ceiling fresh ∷ l) more.2)
some_row (Silent ∷ rest) r =
    let more = some_row rest r.1 in
    (silent_hop 0 0 ∷ more.0, (record { ceiling_high = omega arith; fresh_high = omega arith }, more.1), ap (λ (l : List Router). Silent ∷ l) more.2)

knowing_first : (ceiling fresh : ℕ) (rest : List Hop) → routers_of (knowing_hop ceiling fresh ∷ rest) ≡ Knowing ceiling fresh ∷ routers_of rest
unfolding routers_of
knowing_first ceiling fresh rest = refl

silent_first : (ceiling fresh : ℕ) (rest : List Hop) → routers_of (silent_hop ceiling fresh ∷ rest) ≡ Silent ∷ routers_of rest
unfolding routers_of
silent_first ceiling fresh rest = refl

nobody_first : routers_of [] ≡ []
unfolding routers_of
nobody_first = refl

pub hop_rows : HopRows
hop_rows = record {
  nobody = nobody_first;
  knowing = knowing_first;
  silent = silent_first;
  reads = row_reads;
  seven = row_seven;
  in_range_lem = routers_in;
  some_row = some_row;
}

-- ---- the two forms agree

module _ (limit : ℕ) (hops : List Hop) (bytes : List ℕ) (r : HopsInRange hops) (s : Spells (routers_of hops) bytes) where
  same_row : hops_row limit hops ≡ row_of limit bytes
  same_row = by_length (le_or_gt (length hops) limit)
    where
      long : length (routers_of hops) ≡ length hops
      long = routers_long hops

      -- bytes spell one list only
      too_many : limit < length hops → (routers : List Router) → Spells routers bytes → length routers ≤ limit → ⊥
      too_many many routers other few =
          let as_lent = rows.reads (length hops) (routers_of hops) bytes s (omega (arith, long)) in
          let as_other = rows.reads (length hops) routers bytes other (omega (arith, many, few)) in
          let same : length routers ≡ length (routers_of hops) = ap length (same_answer (sym as_other ∙ as_lent)) in
          absurd (omega (arith, same, long, many, few))

      by_length : (length hops ≤ limit) ⊎ (limit < length hops) → hops_row limit hops ≡ row_of limit bytes
      by_length (inl few) = row_reads limit hops few r ∙ sym (rows.reads limit (routers_of hops) bytes s (omega (arith, long, few)))
      by_length (inr many) = row_seven limit hops (λ is_row. absurd (omega (arith, many, is_row.0))) ∙ sym (rows.seven limit bytes (too_many many))

  same_run : (c : Connection) (packet : List ℕ) (ceiling : ℕ) (t : Transport) → hops_call limit c packet hops ceiling t ≡ run_call limit c packet bytes ceiling t
  same_run c packet ceiling t = ap (λ (row : Reply (List Router)). call_over row c packet ceiling t) same_row

pub agreeing : Agreeing
agreeing = record {
  row = same_row;
  summary = λ limit hops bytes r s. ap summary_over (same_row limit hops bytes r s);
  run = same_run;
  bytes = λ hops r. rows.written (routers_of hops) (routers_in hops r);
}

-- ---- the calls, and that there are no others

summing : HopSumming (hops_summary 64)
summing = record { seven = λ hops n. ap summary_over (row_seven 64 hops n); sums = λ hops h r. ap summary_over (row_reads 64 hops h r) }

running : HopRunning (hops_call 64)
running = record {
  seven = λ c packet hops ceiling t n. ap (λ (row : Reply (List Router)). call_over row c packet ceiling t) (row_seven 64 hops n);
  runs = λ c packet hops bytes ceiling t h r s. same_run 64 hops bytes r s c packet ceiling t;
}

module _ (sum : HopSum) (a : HopSumming sum) (hops : List Hop) where
  sum_only : IsRow 64 hops ⊎ (IsRow 64 hops → ⊥) → sum hops ≡ hops_summary 64 hops
  sum_only (inl r) = a.sums hops r.0 r.1 ∙ sym (summing.sums hops r.0 r.1)
  sum_only (inr n) = a.seven hops n ∙ sym (summing.seven hops n)

module _ (run : HopRun) (a : HopRunning run) (c : Connection) (packet : List ℕ) (hops : List Hop) (ceiling : ℕ) (t : Transport) where
  run_only : IsRow 64 hops ⊎ (IsRow 64 hops → ⊥) → run c packet hops ceiling t ≡ hops_call 64 c packet hops ceiling t
  run_only (inl r) =
      let s = (agreeing.bytes hops r.1).0 in
      a.runs c packet hops (spelled (routers_of hops)) ceiling t r.0 r.1 s ∙ sym (running.runs c packet hops (spelled (routers_of hops)) ceiling t r.0 r.1 s)
  run_only (inr n) = a.seven c packet hops ceiling t n ∙ sym (running.seven c packet hops ceiling t n)

pub hop_calls : HopCalls
hop_calls = record {
  summing = summing;
  summing_only = λ sum a hops. sum_only sum a hops (either_row 64 hops);
  running = running;
  running_only = λ run a c packet hops ceiling t. run_only run a c packet hops ceiling t (either_row 64 hops);
}
