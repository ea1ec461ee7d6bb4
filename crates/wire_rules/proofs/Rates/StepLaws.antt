-- Laws of the fifteen steps, once over the step: rates increase with the code, the two roundings follow their rules, and each rule leaves
-- one code only. Assumes nothing.
use Prim.Native.Nat.{ℕ, zero, suc, ◌+◌, ◌*◌, ◌^◌, ◌≤◌, ◌<◌, min, zero-le}
use mathlib.Core.Logic.{◌⊎◌, inl, inr, ⊎_elim}
use mathlib.Core.Path.{◌≡◌, refl, sym, subst, ◌∙◌}
use native.Mathlib.Nat.{le_refl, le_trans, le_antisymm, lt_irrefl, lt_of_lt_of_le, le_of_lt, not-le_of_lt, eq-or-lt_of_le, mul-lt-mul_of_pos_left, min-le_left, min-le_right}
use native.Mathlib.Omega.{arith}
use lib.Dec.{lit<}
use lib.Pow.{pow_pos, pow_mono, pow-lt}
use Rattle.common.proofs.Choice.{by_leb, le_or_gt}
use Rattle.wire_rules.specs.Rates.Steps.{top_code, rate_of, greatest_up_to, rounded_down, least_from, rounded_up}
use Rattle.wire_rules.specs.Rates.Claims.{Greatest, Least}

-- ---- rates

pub increasing : (c d : ℕ) → c < d → rate_of c < rate_of d
unfolding rate_of
increasing c zero h = absurd (omega arith)
increasing zero (suc d) h = mul-lt-mul_of_pos_left {m = 0} {n = 2 ^ suc d} {k = 40000} (pow_pos (suc d)) (lit< tt)
increasing (suc c) (suc d) h = mul-lt-mul_of_pos_left (pow-lt h) (lit< tt)

pub rate_mono : (c d : ℕ) → c ≤ d → rate_of c ≤ rate_of d
rate_mono c d h = ⊎_elim (λ e. subst (λ (k : ℕ). rate_of c ≤ rate_of k) e (le_refl (rate_of c))) (λ l. le_of_lt (increasing c d l)) (eq-or-lt_of_le h)

pub rate_reflects : (c d : ℕ) → rate_of c ≤ rate_of d → c ≤ d
rate_reflects c d h = ⊎_elim (λ l. l) (λ g. absurd (not-le_of_lt (increasing d c g) h)) (le_or_gt c d)

pub rate_from : (c : ℕ) → 1 ≤ c → rate_of c ≡ 40000 * 2 ^ c
unfolding rate_of
rate_from zero h = absurd (omega arith)
rate_from (suc c) h = refl

pub rate_positive : (c : ℕ) → 1 ≤ c → 1 ≤ rate_of c
unfolding rate_of
rate_positive c h = increasing 0 c h

pub power_small : (c : ℕ) → c ≤ top_code → 2 ^ c ≤ 32768
power_small c h = pow_mono h

-- ---- rounding down

zero_fits : (bits : ℕ) → rate_of 0 ≤ bits
unfolding rate_of
zero_fits bits = zero-le

pub greatest_rule : (top bits : ℕ) → Greatest top bits (greatest_up_to top bits)
unfolding greatest_up_to
greatest_rule zero bits = record { up_to = le_refl 0; fits = zero_fits bits; greatest = λ d h f. h }
greatest_rule (suc n) bits =
    let ih = greatest_rule n bits in
    by_leb (Greatest (suc n) bits) (rate_of (suc n)) bits
    (λ l. record { up_to = le_refl (suc n); fits = l; greatest = λ d h f. h })
    (λ g. record {
      up_to = le_trans ih.up_to (omega arith);
      fits = ih.fits;
      greatest = λ d h f.
          ⊎_elim
          (λ e. let own : rate_of (suc n) ≤ bits = subst (λ (k : ℕ). rate_of k ≤ bits) e f in absurd (omega arith))
          (λ l. ih.greatest d (omega arith) f)
          (eq-or-lt_of_le h);
    })

pub greatest_only : {top bits a b : ℕ} → Greatest top bits a → Greatest top bits b → a ≡ b
greatest_only p q = le_antisymm (q.greatest _ p.up_to p.fits) (p.greatest _ q.up_to q.fits)

pub down_rule : (bits : ℕ) → Greatest top_code bits (rounded_down bits)
unfolding rounded_down
down_rule bits = greatest_rule top_code bits

pub down_only : (bits code : ℕ) → Greatest top_code bits code → code ≡ rounded_down bits
down_only bits code g = greatest_only g (down_rule bits)

pub limited : (top bits : ℕ) → top ≤ top_code → greatest_up_to top bits ≡ min top (rounded_down bits)
limited top bits h =
    let all = down_rule bits in
    greatest_only (greatest_rule top bits) record {
      up_to = min-le_left top (rounded_down bits);
      fits = le_trans (rate_mono _ _ (min-le_right top (rounded_down bits))) all.fits;
      greatest = λ d l f. let k : d ≤ rounded_down bits = all.greatest d (le_trans l h) f in omega arith;
    }

-- ---- rounding up

lt_or_same : (d code : ℕ) → d < suc code → (d < code) ⊎ (code ≡ d)
lt_or_same d code h = ⊎_elim (λ (l : code ≤ d). inr (omega arith)) (λ l. inl l) (le_or_gt code d)

pub least_only : {wish a b : ℕ} → Least wish a → Least wish b → a ≡ b
least_only {wish} p q = ⊎_elim
    (λ (l : wish ≤ rate_of top_code). le_antisymm (p.least _ q.up_to (q.enough l)) (q.least _ p.up_to (p.enough l)))
    (λ g. p.top g ∙ sym (q.top g))
    (le_or_gt wish (rate_of top_code))

least_rule : (tries code wish : ℕ) → tries + code ≡ top_code → ((d : ℕ) → d < code → rate_of d < wish) → Least wish (least_from tries code wish)
unfolding least_from
least_rule zero code wish e low = record {
  up_to = omega arith;
  enough = λ l. subst (λ (k : ℕ). wish ≤ rate_of k) (omega arith) l;
  least = λ d l f. ⊎_elim (λ (x : code ≤ d). x) (λ x. absurd (not-le_of_lt (low d x) f)) (le_or_gt code d);
  top = λ g. omega arith;
}
least_rule (suc tries) code wish e low =
    by_leb (Least wish) wish (rate_of code)
    (λ l. record {
      up_to = omega arith;
      enough = λ _. l;
      least = λ d k f. ⊎_elim (λ (x : code ≤ d). x) (λ x. absurd (not-le_of_lt (low d x) f)) (le_or_gt code d);
      top = λ g. absurd (lt_irrefl _ (lt_of_lt_of_le g (le_trans l (rate_mono code top_code (omega arith)))));
    })
    (λ g. least_rule tries (suc code) wish (omega arith) (λ d h. ⊎_elim (λ (l : d < code). low d l) (λ e. subst (λ (k : ℕ). rate_of k < wish) e g) (lt_or_same d code h)))

pub up_rule : (wish : ℕ) → 1 ≤ wish → Least wish (rounded_up wish)
unfolding rounded_up rate_of
up_rule wish h = least_rule _ _ wish refl (λ d l. let e : 0 ≡ d = omega arith in subst (λ (k : ℕ). rate_of k < wish) e h)
