-- The claims on the phase. Assumes nothing.
use Prim.Native.Nat.{ℕ, ◌+◌, ◌*◌, ◌/◌, ◌≤◌, ◌<◌, max}
use mathlib.Core.Bool.{Bool, true, false, ◌&&◌}
use mathlib.Core.Logic.{⊎_elim}
use Rattle.std.specs.Prelude.{Option, None, Some}
use mathlib.Core.Path.{◌≡◌, refl, sym, ap, subst, ◌∙◌}
use native.Mathlib.Omega.{arith}
use borrow.Author.Tests.{le-leb, lt-leb, lt-ltb, le-ltb}
use Rattle.common.specs.Choice.{within}
use Rattle.common.proofs.Choice.{not_both, untrue, tested, both_true, within_low, within_high, in_within, le_or_gt}
use Rattle.refusals.specs.Reply.{Reply, answer, refuse, refusing, answering}
use Rattle.wire_rules.specs.Rates.Window.{longest_rtt}
use Rattle.sender_rules.specs.declared.Connection.{Connection}
use Rattle.sender_rules.specs.Connections.Records.{samples_of, in_range, with_window, with_ssthresh, with_period, Moment}
use Rattle.sender_rules.specs.Connections.Claims.{InRange}
use Rattle.sender_rules.proofs.Connections.Claims.{ranges}
use Rattle.sender_rules.proofs.Connections.PartLaws.{window_part, ssthresh_part, period_part}
use Rattle.sender_rules.specs.Congestion.Echoes.{halved}
use Rattle.sender_rules.specs.Congestion.Phases.{largest_initial, phase_in_range, is_early, longest_age, pipe_ack, validated, is_validated, is_over, started_at, run_on}
use Rattle.sender_rules.specs.Congestion.Calls.{phase_reply, after_phase, Congestion, congestion_calls}
use Rattle.sender_rules.specs.Congestion.Claims.{InTime, PhaseGiven, PipeAckIs, half_of, lower_again, Phases}
use Rattle.sender_rules.proofs.Congestion.CallLaws.{phase_early, phase_said}
use Rattle.sender_rules.proofs.Congestion.PhaseLaws.{period_over_lem, period_on}
use Rattle.sender_rules.proofs.Congestion.PipeLaws.{Known, known, is_undefined, is_bytes}
use Rattle.sender_rules.proofs.Congestion.SampleClaims.{in_time, early_newest, early_start, When, fine, newer, started, when}

-- ---- ranges

abbrev test_of : Connection → ℕ → ℕ → Bool
test_of c rtt initial = in_range c && phase_in_range rtt initial

module _ (c : Connection) (rtt initial : ℕ) where
  numbers : PhaseGiven c rtt initial → phase_in_range rtt initial ≡ true
  unfolding phase_in_range
  numbers g = simp (in_within 1 rtt longest_rtt g.rtt_low g.rtt_high, in_within 1 initial largest_initial g.initial_low g.initial_high)

  passes : PhaseGiven c rtt initial → test_of c rtt initial ≡ true
  passes g = simp (ranges.suffices c g.record_in, numbers g)

  given : test_of c rtt initial ≡ true → PhaseGiven c rtt initial
  unfolding phase_in_range
  given e =
      let b = both_true (in_range c) (phase_in_range rtt initial) e in
      let n = both_true (within 1 rtt longest_rtt) (within 1 initial largest_initial) b.1 in
      record {
        record_in = ranges.tested c b.0;
        rtt_low = within_low 1 rtt longest_rtt n.0;
        rtt_high = within_high 1 rtt longest_rtt n.0;
        initial_low = within_low 1 initial largest_initial n.1;
        initial_high = within_high 1 initial largest_initial n.1;
      }

-- ---- what ours says, and leaves by that

judged : (c : Connection) (rtt time : ℕ) (o : Option ℕ) → pipe_ack (longest_age rtt) time (samples_of c) ≡ o → is_validated rtt time c ≡ validated c.window o
unfolding is_validated
judged c rtt time o e = ap (validated c.window) e

undefined_is : (window : ℕ) → validated window None ≡ true
unfolding validated
undefined_is window = refl

enough : (window bytes : ℕ) → window ≤ 2 * bytes → validated window (Some bytes) ≡ true
unfolding validated
enough window bytes h = le-leb window (2 * bytes) h

too_little : (window bytes : ℕ) → 2 * bytes < window → validated window (Some bytes) ≡ false
unfolding validated
too_little window bytes h = lt-leb window (2 * bytes) h

not_over_at : (time start : ℕ) (m : Moment) → m ≡ Some start → time ≤ start + 300000000 → is_over time m ≡ false
unfolding is_over
not_over_at time start m e h = rw e (le-ltb (start + 300000000) time h)

over_at : (time start : ℕ) (m : Moment) → m ≡ Some start → start + 300000000 < time → is_over time m ≡ true
unfolding is_over
over_at time start m e h = rw e (lt-ltb (start + 300000000) time h)

not_over_absent : (time : ℕ) (m : Moment) → m ≡ None → is_over time m ≡ false
unfolding is_over
not_over_absent time m e = rw e refl

starts : (time : ℕ) (m : Moment) → m ≡ None → started_at time m ≡ Some time
unfolding started_at
starts time m e = rw e refl

goes_on : (time start : ℕ) (m : Moment) → m ≡ Some start → started_at time m ≡ m
unfolding started_at
goes_on time start m e = rw e refl

module _ (c : Connection) (rtt initial time : ℕ) where
  by_reply : (x : Reply Bool) → x ≡ phase_reply c rtt initial time → congestion_calls.phase c rtt initial time ≡ record { said = x; left = after_phase c initial time x }
  by_reply x e = ap (λ (r : Reply Bool). record { said = r; left = after_phase c initial time r }) (sym e)

  out : test_of c rtt initial ≡ false → congestion_calls.phase c rtt initial time ≡ refusing 7 c
  out e = by_reply (refuse 7) (simp e)

  module _ (g : PhaseGiven c rtt initial) where
    too_early : is_early time c ≡ true → congestion_calls.phase c rtt initial time ≡ refusing 9 c
    too_early e = by_reply (refuse 9) (phase_early c rtt initial time (ranges.suffices c g.record_in) (numbers c rtt initial g) e)

    module _ (t : InTime c time) where
      said : (b : Bool) → is_validated rtt time c ≡ b → congestion_calls.phase c rtt initial time ≡ record { said = answer b; left = after_phase c initial time (answer b) }
      said b e = by_reply (answer b) (phase_said c rtt initial time (ranges.suffices c g.record_in) (numbers c rtt initial g) (in_time c time t) b e)

      is_validated_lem : is_validated rtt time c ≡ true → congestion_calls.phase c rtt initial time ≡ answering true (with_period c None)
      is_validated_lem e = said true e

      is_not : is_validated rtt time c ≡ false → congestion_calls.phase c rtt initial time ≡ answering false (run_on initial time c)
      is_not e = said false e

  first_start : c.period ≡ None → run_on initial time c ≡ with_period c (Some time)
  first_start e = sym (period_on initial time c (not_over_absent time c.period e)) ∙ ap (with_period c) (starts time c.period e)

  runs_on : (start : ℕ) → c.period ≡ Some start → time ≤ start + 300000000 → run_on initial time c ≡ c
  runs_on start e h = sym (period_on initial time c (not_over_at time start c.period e h)) ∙ ap (with_period c) (goes_on time start c.period e)

  starts_again : (start : ℕ) → c.period ≡ Some start → start + 300000000 < time → run_on initial time c ≡ lower_again c initial time
  unfolding halved
  starts_again start e h = sym (period_over_lem initial time c (over_at time start c.period e h))

  little : (bytes : ℕ) → PipeAckIs rtt time (samples_of c) bytes → 2 * bytes < c.window → is_validated rtt time c ≡ false
  little bytes p h = judged c rtt time (Some bytes) (is_bytes rtt time (samples_of c) bytes p) ∙ too_little c.window bytes h

pub phases : Phases congestion_calls
phases = record {
  seven = λ c rtt initial time n. out c rtt initial time (untrue (test_of c rtt initial) (λ e. n (given c rtt initial e)));
  nine_newest = λ c rtt initial time newest others g e h. too_early c rtt initial time g (early_newest c time newest others e h);
  nine_start = λ c rtt initial time start g e h. too_early c rtt initial time g (early_start c time start e h);
  undefined = λ c rtt initial time g t u. is_validated_lem c rtt initial time g t (judged c rtt time None (is_undefined rtt time (samples_of c) u) ∙ undefined_is c.window);
  validated = λ c rtt initial time bytes g t p h. is_validated_lem c rtt initial time g t (judged c rtt time (Some bytes) (is_bytes rtt time (samples_of c) bytes p) ∙ enough c.window bytes h);
  first = λ c rtt initial time bytes g t p h e. is_not c rtt initial time g t (little c rtt initial time bytes p h) ∙ ap (answering false) (first_start c rtt initial time e);
  running = λ c rtt initial time bytes start g t p h e l. is_not c rtt initial time g t (little c rtt initial time bytes p h) ∙ ap (answering false) (runs_on c rtt initial time start e l);
  over = λ c rtt initial time bytes start g t p h e l. is_not c rtt initial time g t (little c rtt initial time bytes p h) ∙ ap (answering false) (starts_again c rtt initial time start e l);
}

-- ---- no other calls judge so

module _ (g : Congestion) (a : Phases g) (c : Connection) (rtt initial time : ℕ) where
  abbrev Same : Type 0
  Same = g.phase c rtt initial time ≡ congestion_calls.phase c rtt initial time

  module _ (p : PhaseGiven c rtt initial) (t : InTime c time) where
    by_period : (bytes : ℕ) → PipeAckIs rtt time (samples_of c) bytes → 2 * bytes < c.window → (m : Moment) → c.period ≡ m → Same
    by_period bytes k h None e = a.first c rtt initial time bytes p t k h e ∙ sym (phases.first c rtt initial time bytes p t k h e)
    by_period bytes k h (Some start) e =
        ⊎_elim
        (λ (l : time ≤ start + 300000000). a.running c rtt initial time bytes start p t k h e l ∙ sym (phases.running c rtt initial time bytes start p t k h e l))
        (λ (l : start + 300000000 < time). a.over c rtt initial time bytes start p t k h e l ∙ sym (phases.over c rtt initial time bytes start p t k h e l))
        (le_or_gt time (start + 300000000))

    by_pipe : (o : Option ℕ) → Known rtt time (samples_of c) o → Same
    by_pipe None u = a.undefined c rtt initial time p t u ∙ sym (phases.undefined c rtt initial time p t u)
    by_pipe (Some bytes) k =
        ⊎_elim
        (λ (h : c.window ≤ 2 * bytes). a.validated c rtt initial time bytes p t k h ∙ sym (phases.validated c rtt initial time bytes p t k h))
        (λ (h : 2 * bytes < c.window). by_period bytes k h c.period refl)
        (le_or_gt c.window (2 * bytes))

  by_when : PhaseGiven c rtt initial → When c time → Same
  by_when p (fine t) = by_pipe p t (pipe_ack (longest_age rtt) time (samples_of c)) (known rtt time (samples_of c))
  by_when p (newer newest others e h) = a.nine_newest c rtt initial time newest others p e h ∙ sym (phases.nine_newest c rtt initial time newest others p e h)
  by_when p (started start e h) = a.nine_start c rtt initial time start p e h ∙ sym (phases.nine_start c rtt initial time start p e h)

  pub phase_only : Same
  phase_only =
      ⊎_elim
      (λ (p : PhaseGiven c rtt initial). by_when p (when c time))
      (λ (e : test_of c rtt initial ≡ false). a.seven c rtt initial time (λ p. not_both (test_of c rtt initial) (passes c rtt initial p) e) ∙ sym (out c rtt initial time e))
      (tested (test_of c rtt initial) (given c rtt initial))

-- ---- what follows

-- a call leaves the record itself, one with another period, or the lowered one
pub phase_by : (P : Connection → Type 0) (c : Connection) (rtt initial time : ℕ) → P c → ((m : Moment) → P (with_period c m)) → (PhaseGiven c rtt initial → P (lower_again c initial time))
    → P (congestion_calls.phase c rtt initial time).left
unfolding run_on halved
phase_by P c rtt initial time p f h =
    ⊎_elim
    (λ (g : PhaseGiven c rtt initial). by_when_of g (when c time))
    (λ (e : test_of c rtt initial ≡ false). subst (λ o. P o.left) (sym (out c rtt initial time e)) p)
    (tested (test_of c rtt initial) (given c rtt initial))
  where
    by_over : PhaseGiven c rtt initial → (b : Bool) → is_over time c.period ≡ b → P (run_on initial time c)
    by_over g true e = subst P (period_over_lem initial time c e) (h g)
    by_over g false e = subst P (period_on initial time c e) (f (started_at time c.period))

    by_said : PhaseGiven c rtt initial → InTime c time → (b : Bool) → is_validated rtt time c ≡ b → P (congestion_calls.phase c rtt initial time).left
    by_said g t true e = subst (λ o. P o.left) (sym (is_validated_lem c rtt initial time g t e)) (f None)
    by_said g t false e = subst (λ o. P o.left) (sym (is_not c rtt initial time g t e)) (by_over g (is_over time c.period) refl)

    by_when_of : PhaseGiven c rtt initial → When c time → P (congestion_calls.phase c rtt initial time).left
    by_when_of g (fine t) = by_said g t (is_validated rtt time c) refl
    by_when_of g (newer newest others e l) = subst (λ o. P o.left) (sym (too_early c rtt initial time g (early_newest c time newest others e l))) p
    by_when_of g (started start e l) = subst (λ o. P o.left) (sym (too_early c rtt initial time g (early_start c time start e l))) p

pub lower_again_in : (c : Connection) (initial time : ℕ) → InRange c → 1 ≤ initial → InRange (lower_again c initial time)
lower_again_in c initial time i l =
    let low = i.window_low in
    let high = i.window_high in
    let most = i.ssthresh_high in
    let s = max c.ssthresh (3 * c.window / 4) in
    let w = half_of c.window initial in
    let raised = ssthresh_part c i s (omega arith) in
    period_part (with_window (with_ssthresh c s) w) (window_part (with_ssthresh c s) raised w (omega arith) (omega arith)) (Some time)
