-- The claims of specs/Rates/Claims.antt, from the laws of the steps and of the window. Assumes nothing.
use Prim.Native.Nat.{ℕ, zero, suc, ◌*◌, ◌^◌, ◌≤◌, ◌<◌}
use mathlib.Core.Bool.{true, false}
use mathlib.Core.Path.{◌≡◌, refl, sym}
use mathlib.Core.Logic.{⊎_elim}
use native.Mathlib.Nat.{le_refl, le_trans, not-le_of_lt}
use native.Mathlib.Omega.{arith}
use borrow.Author.Tests.{le-leb, lt-leb}
use Rattle.common.specs.Choice.{within}
use Rattle.common.proofs.Choice.{le_or_gt, untrue, both_true, within_low, within_high, in_within}
use Rattle.wire_rules.specs.Rates.Steps.{top_code, rate_of, rounded_down, rounded_up}
use Rattle.wire_rules.specs.Rates.Window.{transport_in_range, window_in_range, window_bytes}
use Rattle.wire_rules.specs.Rates.Claims.{Increasing, RoundingDown, RoundingUp, Windows, WindowGiven, Ranges}
use Rattle.wire_rules.proofs.Rates.StepLaws as steps
use Rattle.wire_rules.proofs.Rates.WindowLaws.{window_rule, transport_facts}

pub increasing : Increasing
increasing = steps.increasing

pub rounding_down : RoundingDown
rounding_down = record {
  rule = steps.down_rule;
  only = steps.down_only;
  own = λ code h. sym (steps.down_only (rate_of code) code record { up_to = h; fits = le_refl (rate_of code); greatest = λ d l f. steps.rate_reflects d code f });
  monotone = λ bits more h. let low = steps.down_rule bits in (steps.down_rule more).greatest (rounded_down bits) low.up_to (le_trans low.fits h);
  limited = steps.limited;
}

-- a code that serves the greater wish serves the lesser one; where none does, the greater wish has the highest code
up_mono : (wish more : ℕ) → 1 ≤ wish → wish ≤ more → rounded_up wish ≤ rounded_up more
up_mono wish more p h =
    let low = steps.up_rule wish p in
    let high = steps.up_rule more (le_trans p h) in
    ⊎_elim
    (λ (l : more ≤ rate_of top_code). low.least (rounded_up more) high.up_to (le_trans h (high.enough l)))
    (λ g. let e = high.top g in let k = low.up_to in omega arith)
    (le_or_gt more (rate_of top_code))

up_above : (wish : ℕ) → 40000 * 2 ^ 15 < wish → rounded_up wish ≡ 15
unfolding rate_of
up_above wish h = (steps.up_rule wish (omega (arith, h))).top h

pub rounding_up : RoundingUp
rounding_up = record {
  rule = steps.up_rule;
  only = λ wish code p l. steps.least_only l (steps.up_rule wish p);
  own = λ code p h. sym (steps.least_only record {
    up_to = h;
    enough = λ _. le_refl (rate_of code);
    least = λ d l f. steps.rate_reflects code d f;
    top = λ g. absurd (not-le_of_lt g (steps.rate_mono code top_code h));
  } (steps.up_rule (rate_of code) (steps.rate_positive code p)));
  monotone = up_mono;
  above = up_above;
}

pub windows : Windows
windows = window_rule

-- ---- which refusal is given

in_ranges : (code rtt mss headers : ℕ) → WindowGiven code rtt mss headers → window_in_range code rtt mss headers ≡ true
unfolding transport_in_range
in_ranges code rtt mss headers g =
    simp (in_within 1 code 15 g.code_low g.code_high, in_within 1 rtt 60000000 g.rtt_low g.rtt_high, in_within 1 mss 65535 g.mss_low g.mss_high, in_within 20 headers 120 g.headers_low g.headers_high)

out_of_ranges : (code rtt mss headers : ℕ) → (WindowGiven code rtt mss headers → ⊥) → window_in_range code rtt mss headers ≡ false
out_of_ranges code rtt mss headers f = untrue (window_in_range code rtt mss headers) (λ e.
    let r = both_true (within 1 code top_code) (transport_in_range rtt mss headers) e in
    let t = transport_facts rtt mss headers r.1 in
    f (record {
      code_low = within_low 1 code top_code r.0;
      code_high = within_high 1 code top_code r.0;
      rtt_low = t.rtt_low;
      rtt_high = t.rtt_high;
      mss_low = t.mss_low;
      mss_high = t.mss_high;
      headers_low = t.headers_low;
      headers_high = t.headers_high;
    }))

-- the rate of a code that is not 0
rate_steps : (code : ℕ) → 1 ≤ code → rate_of code ≡ 40000 * 2 ^ code
unfolding rate_of
rate_steps zero h = absurd (omega arith)
rate_steps (suc n) h = refl

pub ranges : Ranges
unfolding window_bytes rate_of
ranges = record {
  no_rate = refl;
  steps = rate_steps;
  rate = λ code h. simp (le-leb code top_code h);
  rate_seven = λ code h. simp (lt-leb code top_code h);
  up = λ wish h. simp (le-leb 1 wish h);
  up_seven = refl;
  segments = λ code rtt mss headers g. simp (in_ranges code rtt mss headers g);
  segments_seven = λ code rtt mss headers f. simp (out_of_ranges code rtt mss headers f);
  bytes = λ code rtt mss headers g. simp (in_ranges code rtt mss headers g);
  bytes_seven = λ code rtt mss headers f. simp (out_of_ranges code rtt mss headers f);
}
