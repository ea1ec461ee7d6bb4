-- Laws of a lowering. A nonce is a number to base 4, and its field for code k is digit k - 1: a lowering puts the fresh nonce's digits from
-- the new code up to the old one between the nonce's own. Assumes nothing.
use Prim.Native.Nat.{ℕ, ◌+◌, ◌-◌, ◌*◌, ◌/◌, ◌%◌, ◌^◌, ◌≤◌, ◌<◌}
use mathlib.Core.Logic.{⊎_elim}
use mathlib.Core.Path.{◌≡◌, refl, sym, ap, subst, ◌∙◌}
use native.Mathlib.Nat.{le_trans, mod-lt, div-lt_iff_lt-mul}
use native.Mathlib.Omega.{arith}
use lib.Arith.{digits_lt, digits_div, digits_mod}
use lib.Dec.{lit<}
use borrow.Author.Tests.{le-ltb, eq-eqb, eqb-true}
use Rattle.common.proofs.Choice.{by_ltb, le_or_gt}
use Rattle.common.proofs.Digits.{power_pos, power_split, low_low, high_high, digit_of_low, digit_same_low, digit_same_high, digits_same, same_digits}
use Rattle.wire_rules.specs.Rates.Steps.{top_code}
use Rattle.wire_rules.specs.Options.Wire.{nonce_limit}
use Rattle.wire_rules.specs.Options.Nonces.{field_of, fields_up_to, lowered, agree}
use Rattle.wire_rules.specs.Options.Claims.{Kept, Lowering, Agreeing, Fields}

four : 0 < 4
four = lit< tt

-- the digits of n below `low` and from `high` on, and those of f between, where both are powers of 4
abbrev pub mix : ℕ → ℕ → ℕ → ℕ → ℕ
mix high low n f = n / high * high + (f % high / low * low + n % low)

module _ (old new n f : ℕ) (h : new ≤ old) where
  inner_small : f % 4 ^ old / 4 ^ new * 4 ^ new + n % 4 ^ new < 4 ^ old
  inner_small =
      let e : 4 ^ old ≡ 4 ^ (old - new) * 4 ^ new = power_split 4 four new old h in
      let q : f % 4 ^ old / 4 ^ new < 4 ^ (old - new) = (div-lt_iff_lt-mul (power_pos 4 four new)).1 (subst (λ (k : ℕ). f % 4 ^ old < k) e (mod-lt f (power_pos 4 four old))) in
      subst (λ (k : ℕ). f % 4 ^ old / 4 ^ new * 4 ^ new + n % 4 ^ new < k) (sym e) (digits_lt q (mod-lt n (power_pos 4 four new)))

  upper : mix (4 ^ old) (4 ^ new) n f / 4 ^ old ≡ n / 4 ^ old
  upper = digits_div (n / 4 ^ old) inner_small

  inner : mix (4 ^ old) (4 ^ new) n f % 4 ^ old ≡ f % 4 ^ old / 4 ^ new * 4 ^ new + n % 4 ^ new
  inner = digits_mod (n / 4 ^ old) inner_small

  lowest : mix (4 ^ old) (4 ^ new) n f % 4 ^ new ≡ n % 4 ^ new
  lowest =
      sym (low_low 4 four (mix (4 ^ old) (4 ^ new) n f) new old h) ∙ ap (λ (k : ℕ). k % 4 ^ new) inner
      ∙ digits_mod (f % 4 ^ old / 4 ^ new) (mod-lt n (power_pos 4 four new))

  middle : mix (4 ^ old) (4 ^ new) n f % 4 ^ old / 4 ^ new ≡ f % 4 ^ old / 4 ^ new
  middle = ap (λ (k : ℕ). k / 4 ^ new) inner ∙ digits_div (f % 4 ^ old / 4 ^ new) (mod-lt n (power_pos 4 four new))

  -- with the nonce below 4 ^ top, so is the mixture
  pub mix_small : (top : ℕ) → old ≤ top → n < 4 ^ top → mix (4 ^ old) (4 ^ new) n f < 4 ^ top
  mix_small top l b =
      let e : 4 ^ top ≡ 4 ^ (top - old) * 4 ^ old = power_split 4 four old top l in
      let q : n / 4 ^ old < 4 ^ (top - old) = (div-lt_iff_lt-mul (power_pos 4 four old)).1 (subst (λ (k : ℕ). n < k) e b) in
      subst (λ (k : ℕ). mix (4 ^ old) (4 ^ new) n f < k) (sym e) (digits_lt q inner_small)

  mix_kept : Kept old new n f (mix (4 ^ old) (4 ^ new) n f)
  unfolding field_of fields_up_to
  mix_kept =
      let m = mix (4 ^ old) (4 ^ new) n f in
      record {
        low = lowest;
        between = λ code l k.
            sym (digit_of_low 4 four m (code - 1) old (omega arith))
            ∙ digit_same_high 4 four (m % 4 ^ old) (f % 4 ^ old) (code - 1) new middle (omega arith)
            ∙ digit_of_low 4 four f (code - 1) old (omega arith);
        above = λ code l. digit_same_high 4 four m n (code - 1) old upper (omega arith);
      }

pub keeps : (old new nonce fresh : ℕ) → new ≤ old → Kept old new nonce fresh (lowered old new nonce fresh)
unfolding lowered
keeps old new nonce fresh h =
    by_ltb (Kept old new nonce fresh) new old
    (λ l. mix_kept old new nonce fresh h)
    (λ g. record { low = refl; between = λ code l k. absurd (omega arith); above = λ code l. refl })

-- one nonce at most is what a lowering keeps: it agrees with another such one in its lowest digits and in each digit above them
pub only : (old new nonce fresh a b : ℕ) → new ≤ old → Kept old new nonce fresh a → Kept old new nonce fresh b → a ≡ b
unfolding field_of fields_up_to
only old new nonce fresh a b h p q =
    same_digits 4 (lit< tt) a b new (p.low ∙ sym q.low)
    (λ j l. subst (λ (k : ℕ). a / 4 ^ k % 4 ≡ b / 4 ^ k % 4) {x = j + 1 - 1} {y = j} (omega arith)
    (⊎_elim
    (λ (k : j + 1 ≤ old). p.between (j + 1) (omega arith) k ∙ sym (q.between (j + 1) (omega arith) k))
    (λ k. p.above (j + 1) k ∙ sym (q.above (j + 1) k))
    (le_or_gt (j + 1) old)))

pub in_range_lem : (old new nonce fresh : ℕ) → old ≤ top_code → nonce < nonce_limit → lowered old new nonce fresh < nonce_limit
unfolding lowered
in_range_lem old new nonce fresh h b =
    by_ltb (λ (k : ℕ). k < nonce_limit) new old (λ l. mix_small old new nonce fresh (omega arith) top_code h b) (λ g. b)

pub not_below : (old new nonce fresh : ℕ) → old ≤ new → lowered old new nonce fresh ≡ nonce
unfolding lowered
not_below old new nonce fresh h = simp (le-ltb new old h)

-- a field up to the code between comes from the second step, a higher one from the first
pub two_steps_keep : (old mid new nonce fresh fresher : ℕ) → new ≤ mid → mid ≤ old
    → Kept old new nonce (lowered mid new fresh fresher) (lowered mid new (lowered old mid nonce fresh) fresher)
unfolding fields_up_to
two_steps_keep old mid new nonce fresh fresher h l =
    let first = keeps old mid nonce fresh l in
    let second = keeps mid new (lowered old mid nonce fresh) fresher h in
    let joined = keeps mid new fresh fresher h in
    record {
      low =
          second.low ∙ sym (low_low 4 four (lowered old mid nonce fresh) new mid h) ∙ ap (λ (k : ℕ). k % 4 ^ new) first.low ∙ low_low 4 four nonce new mid h;
      between = λ code a b. ⊎_elim
          (λ (k : code ≤ mid). second.between code a k ∙ sym (joined.between code a k))
          (λ k. second.above code k ∙ first.between code k b ∙ sym (joined.above code k))
          (le_or_gt code mid);
      above = λ code a. second.above code (omega arith) ∙ first.above code a;
    }

pub lowering : Lowering
lowering = record {
  keeps = keeps;
  only = λ old new nonce fresh after h k. only old new nonce fresh after (lowered old new nonce fresh) h k (keeps old new nonce fresh h);
  not_below = not_below;
  in_range_lem = in_range_lem;
  two_steps = λ old mid new nonce fresh fresher h l.
      only old new nonce (lowered mid new fresh fresher) (lowered mid new (lowered old mid nonce fresh) fresher) (lowered old new nonce (lowered mid new fresh fresher)) (le_trans h l)
      (two_steps_keep old mid new nonce fresh fresher h l)
      (keeps old new nonce (lowered mid new fresh fresher) (le_trans h l));
}

-- ---- the comparison

-- numbers that have each digit below `code` in common have the same lowest digits
same_fields : (code a b : ℕ) → ((k : ℕ) → 1 ≤ k → k ≤ code → field_of k a ≡ field_of k b) → a % 4 ^ code ≡ b % 4 ^ code
unfolding field_of
same_fields code a b f =
    digits_same 4 four a b code
    (λ j h. subst (λ (k : ℕ). a / 4 ^ k % 4 ≡ b / 4 ^ k % 4) {x = j + 1 - 1} {y = j} (omega arith) (f (j + 1) (omega arith) (omega arith)))

pub agreeing : Agreeing
unfolding agree fields_up_to field_of
agreeing = record {
  fields = λ code a b e k l h. digit_same_low 4 four a b (k - 1) code (eqb-true (a % 4 ^ code) (b % 4 ^ code) e) (omega arith);
  whole = λ code a b f. eq-eqb (a % 4 ^ code) (b % 4 ^ code) (same_fields code a b f);
  honest = λ old new nonce fresh h. eq-eqb (nonce % 4 ^ new) (lowered old new nonce fresh % 4 ^ new) (sym (keeps old new nonce fresh h).low);
}

-- ---- where the fields stand

next_field : (code nonce : ℕ) → 1 ≤ code → field_of (code + 1) nonce ≡ field_of code (nonce / 4)
unfolding field_of
next_field code nonce h =
    let own : code + 1 - 1 ≡ code = omega arith in
    ap (λ (k : ℕ). nonce / 4 ^ k % 4) own ∙ sym (ap (λ (k : ℕ). k % 4) (high_high 4 (lit< tt) nonce 1 code h))

pub fields : Fields
unfolding field_of fields_up_to
fields = record {
  highest = λ nonce h. omega arith;
  lowest = λ nonce. omega arith;
  next = next_field;
  up_to = λ code nonce. refl;
}
