-- `plan::line` meets its contract: the records end where the survey says, and each test settles what the input is. Assumes nothing.
use Prim.Native.Nat.{ℕ, ◌+◌, ◌-◌, ◌≤◌}
use mathlib.Core.Bool.{true}
use mathlib.Core.Path.{◌≡◌, sym, ap, ◌∙◌}
use native.Mathlib.Omega.{arith}
use mathlib.Core.List.{List}
use lib.ListN.{length, take, drop}
use Rattle.path_rules.specs.Hops.Rows.{most_routers, hops_from}
use Rattle.path_rules.specs.Plan.Records.{starts_request, hops_of}
use Rattle.path_rules.specs.Plan.Lines.{line_for}
use Rattle.path_rules.proofs.Plan.InputLaws.{request_parts}
use Rattle.plan.proofs.ReadLaws.{surveyed, end_near, bad_receiver, bad_end, good_plan}
use borrow.Author.Rules.{rules}
use Rattle.plan.proofs.line.Goals as goal

-- where the routers' records end, once the request's record is there
module _ (input : List ℕ) (found : ℕ) (starts : starts_request input ≡ true) where
  ends : found + length (hops_from most_routers (take (length input - 8) (drop 8 input))).rest ≡ length (take (length input - 8) (drop 8 input))
      → 8 + found + length (hops_of most_routers input).rest ≡ length input
  ends e = surveyed input found (request_parts input starts).long e

  near : found + length (hops_from most_routers (take (length input - 8) (drop 8 input))).rest ≡ length (take (length input - 8) (drop 8 input)) → 8 + found ≤ 392
  near e = end_near input (8 + found) (ends e) (omega arith)

pub slice_bounds-survey-count : goal.slice_bounds-survey-count
slice_bounds-survey-count c =
    let starts = sym c.starts_request.ensures ∙ c.if-not-starts_request.false in
    let q = request_parts _ starts in search rules

pub slice_bounds-survey-start : goal.slice_bounds-survey-start
slice_bounds-survey-start c =
    let starts = sym c.starts_request.ensures ∙ c.if-not-starts_request.false in
    let q = request_parts _ starts in search rules

pub receiver_at-requires : goal.receiver_at-requires
receiver_at-requires c =
    let starts = sym c.starts_request.ensures ∙ c.if-not-starts_request.false in
    let ends = ends c.args.input.now c.survey-end.result.end starts c.survey-end.ensures.end in
    omega (arith, ends)

pub bad_line-requires-then-not-receiver_at : goal.bad_line-requires-then-not-receiver_at
bad_line-requires-then-not-receiver_at c =
    let starts = sym c.starts_request.ensures ∙ c.if-not-starts_request.false in
    omega (arith, near c.args.input.now c.survey-end.result.end starts c.survey-end.ensures.end)

pub returns-then-not-receiver_at : goal.returns-then-not-receiver_at
returns-then-not-receiver_at c =
    let starts = sym c.starts_request.ensures ∙ c.if-not-starts_request.false in
    let ends = ends c.args.input.now c.survey-end.result.end starts c.survey-end.ensures.end in
    let input = c.args.input.now in
    c.bad_line-then-not-receiver_at.ensures
    ∙ sym (ap line_for (bad_receiver input (8 + c.survey-end.result.end) ends (omega arith) starts (sym c.receiver_at.ensures ∙ c.if-not-receiver_at.true)))

pub bad_line-requires-then-whole-input : goal.bad_line-requires-then-whole-input
bad_line-requires-then-whole-input c =
    let starts = sym c.starts_request.ensures ∙ c.if-not-starts_request.false in
    omega (arith, near c.args.input.now c.survey-end.result.end starts c.survey-end.ensures.end)

pub returns-then-whole-input : goal.returns-then-whole-input
returns-then-whole-input c =
    let starts = sym c.starts_request.ensures ∙ c.if-not-starts_request.false in
    let ends = ends c.args.input.now c.survey-end.result.end starts c.survey-end.ensures.end in
    let input = c.args.input.now in
    c.bad_line-then-whole-input.ensures
    ∙ sym (ap line_for (bad_end input (8 + c.survey-end.result.end) ends (omega arith) starts (sym c.receiver_at.ensures ∙ c.if-not-receiver_at.false) c.if-whole-input.true))

pub returns : goal.returns
returns c =
    let starts = sym c.starts_request.ensures ∙ c.if-not-starts_request.false in
    let ends = ends c.args.input.now c.survey-end.result.end starts c.survey-end.ensures.end in
    let input = c.args.input.now in
    c.good_line.ensures
    ∙ sym (ap line_for (good_plan input (8 + c.survey-end.result.end) ends (omega arith) starts (sym c.receiver_at.ensures ∙ c.if-not-receiver_at.false) c.if-whole-input.false))
