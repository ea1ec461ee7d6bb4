-- Laws of a summary's verdict: its ranges, its tests one after the other, and that two calls that judge so judge alike. Assumes nothing.
use Prim.Native.Nat.{ℕ, ◌≤◌, ◌<◌, min}
use mathlib.Core.Bool.{true, ◌&&◌}
use mathlib.Core.Logic.{⊎_elim}
use mathlib.Core.Path.{◌≡◌, refl, sym, ap, ◌∙◌}
use native.Mathlib.Omega.{arith}
use borrow.Author.Tests.{le-leb, lt-leb, leb-true, lt-ltb, le-ltb, eq-eqb, ne_eqb}
use lib.Dec.{leb}
use Rattle.common.specs.Choice.{within}
use Rattle.common.proofs.Choice.{by_test, chosen, either, both_true, in_within, within_low, within_high, le_or_gt}
use Rattle.refusals.specs.Reply.{Reply, answer, refuse}
use Rattle.wire_rules.specs.Rates.Steps.{top_code}
use Rattle.path_rules.specs.declared.Summary.{Summary}
use Rattle.path_rules.specs.Hops.Summaries.{summary_in_range}
use Rattle.path_rules.specs.Hops.Verdicts.{Verdict, lost, unanswered, not_accepted, accepted, least_of, verdict_of, verdict_in_range, verdict_reply}
use Rattle.path_rules.specs.Hops.Claims.{VerdictGiven, Judge, Judging}
use Rattle.path_rules.proofs.Hops.SummaryLaws.{ranged_tested, ranged_suffices}

-- ---- verdicts

module _ (s : Summary) (ttl code ceiling : ℕ) where
  given_facts : summary_in_range s && verdict_in_range ttl code ceiling ≡ true → VerdictGiven s ttl code ceiling
  unfolding verdict_in_range
  given_facts e =
      let sides = both_true (summary_in_range s) (verdict_in_range ttl code ceiling) e in
      let all = both_true (within 1 ttl 255 && within 1 code top_code) (leb ceiling top_code) sides.1 in
      let both = both_true (within 1 ttl 255) (within 1 code top_code) all.0 in
      record {
        ranged = ranged_tested s sides.0;
        ttl_low = within_low 1 ttl 255 both.0;
        ttl_high = within_high 1 ttl 255 both.0;
        code_low = within_low 1 code top_code both.1;
        code_high = within_high 1 code top_code both.1;
        ceiling_high = leb-true ceiling top_code all.1;
      }

  given_suffices : VerdictGiven s ttl code ceiling → summary_in_range s && verdict_in_range ttl code ceiling ≡ true
  unfolding verdict_in_range
  given_suffices g =
      simp (
        ranged_suffices s g.ranged,
        in_within 1 ttl 255 g.ttl_low g.ttl_high,
        in_within 1 code top_code g.code_low g.code_high,
        le-leb ceiling top_code g.ceiling_high,
      )

  pub verdict_seven : (VerdictGiven s ttl code ceiling → ⊥) → verdict_reply s ttl code ceiling ≡ refuse 7
  verdict_seven f = by_test (λ (r : Reply Verdict). r ≡ refuse 7) (summary_in_range s && verdict_in_range ttl code ceiling) (λ e. absurd (f (given_facts e))) (λ e. refl)

  pub verdict_answers : VerdictGiven s ttl code ceiling → verdict_reply s ttl code ceiling ≡ answer (verdict_of s ttl code ceiling)
  verdict_answers g = rw (given_suffices g) refl

  -- the tests of a verdict, one after the other
  pub is_lost : ttl ≤ s.routers → verdict_of s ttl code ceiling ≡ lost
  unfolding verdict_of
  is_lost h = chosen (leb ttl s.routers) lost _ (le-leb ttl s.routers h)

  module _ (lives : s.routers < ttl) where
    pub is_unanswered : min (min code s.least) ceiling ≡ 0 → verdict_of s ttl code ceiling ≡ unanswered
    unfolding verdict_of
    is_unanswered e = simp (lt-leb ttl s.routers lives, eq-eqb (least_of s code ceiling) 0 e)

    module _ (some_rate : 1 ≤ min (min code s.least) ceiling) where
      not-zero : least_of s code ceiling ≡ 0 → ⊥
      not-zero e = omega arith

      pub is_refused : 1 ≤ s.silent → verdict_of s ttl code ceiling ≡ not_accepted 14
      unfolding verdict_of
      is_refused h = simp (lt-leb ttl s.routers lives, ne_eqb (least_of s code ceiling) 0 not-zero, lt-ltb 0 s.silent h)

      pub is_accepted : s.silent ≡ 0 → verdict_of s ttl code ceiling ≡ accepted (min (min code s.least) ceiling)
      unfolding verdict_of
      is_accepted h = simp (lt-leb ttl s.routers lives, ne_eqb (least_of s code ceiling) 0 not-zero, le-ltb 0 s.silent (omega arith))

-- ours has the laws of judging
pub judges : Judging verdict_reply
judges = record {
  seven = verdict_seven;
  loses = λ s ttl code ceiling g h. verdict_answers s ttl code ceiling g ∙ ap answer (is_lost s ttl code ceiling h);
  silence = λ s ttl code ceiling g l e. verdict_answers s ttl code ceiling g ∙ ap answer (is_unanswered s ttl code ceiling l e);
  fourteen = λ s ttl code ceiling g l r h. verdict_answers s ttl code ceiling g ∙ ap answer (is_refused s ttl code ceiling l r h);
  accepts = λ s ttl code ceiling g l r h. verdict_answers s ttl code ceiling g ∙ ap answer (is_accepted s ttl code ceiling l r h);
}

-- two that judge so judge alike
module _ (judge other : Judge) (j : Judging judge) (k : Judging other) (s : Summary) (ttl code ceiling : ℕ) where
  abbrev Alike : Type 0
  Alike = judge s ttl code ceiling ≡ other s ttl code ceiling

  module _ (g : VerdictGiven s ttl code ceiling) where
    by_silence : s.routers < ttl → 1 ≤ min (min code s.least) ceiling → Alike
    by_silence l r =
        ⊎_elim
        (λ (h : s.silent ≤ 0). let z : s.silent ≡ 0 = omega arith in j.accepts s ttl code ceiling g l r z ∙ sym (k.accepts s ttl code ceiling g l r z))
        (λ (h : 0 < s.silent). j.fourteen s ttl code ceiling g l r h ∙ sym (k.fourteen s ttl code ceiling g l r h))
        (le_or_gt s.silent 0)

    by_rate : s.routers < ttl → Alike
    by_rate l =
        ⊎_elim
        (λ (h : min (min code s.least) ceiling ≤ 0).
        let z : min (min code s.least) ceiling ≡ 0 = omega arith in j.silence s ttl code ceiling g l z ∙ sym (k.silence s ttl code ceiling g l z))
        (λ (h : 0 < min (min code s.least) ceiling). by_silence l h)
        (le_or_gt (min (min code s.least) ceiling) 0)

    by_life : Alike
    by_life =
        ⊎_elim (λ (h : ttl ≤ s.routers). j.loses s ttl code ceiling g h ∙ sym (k.loses s ttl code ceiling g h)) (λ (h : s.routers < ttl). by_rate h) (le_or_gt ttl s.routers)

  pub judge_alike : judge s ttl code ceiling ≡ other s ttl code ceiling
  judge_alike =
      ⊎_elim
      (λ (g : VerdictGiven s ttl code ceiling). by_life g)
      (λ (f : VerdictGiven s ttl code ceiling → ⊥). j.seven s ttl code ceiling f ∙ sym (k.seven s ttl code ceiling f))
      (either (summary_in_range s && verdict_in_range ttl code ceiling) (given_facts s ttl code ceiling) (given_suffices s ttl code ceiling))
