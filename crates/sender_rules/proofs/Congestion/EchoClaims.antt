-- The claims on the echo. Assumes nothing.
use Prim.Native.Nat.{ℕ, ◌+◌, ◌-◌, ◌%◌, ◌^◌, ◌≤◌, ◌<◌}
use mathlib.Core.Bool.{Bool, true, false, ◌&&◌}
use mathlib.Core.Logic.{◌⊎◌, inl, inr, ⊎_elim}
use mathlib.Core.Path.{◌≡◌, refl, sym, ap, subst, ◌∙◌}
use native.Mathlib.Omega.{arith}
use Rattle.common.specs.Choice.{within}
use Rattle.common.proofs.Choice.{clash, not_both, untrue, tested, both_true, within_low, within_high, in_within, not_within, le_or_gt}
use Rattle.refusals.specs.Reply.{Reply, answer, refuse, refusing, answering}
use Rattle.wire_rules.specs.Rates.Window.{largest_segment}
use Rattle.std.specs.Prelude.{None, Some}
use Rattle.sender_rules.specs.declared.Connection.{Connection}
use Rattle.sender_rules.specs.Connections.Records.{in_range, with_window, with_ssthresh, Mark}
use Rattle.sender_rules.specs.Connections.Claims.{InRange}
use Rattle.sender_rules.proofs.Connections.Claims.{ranges}
use Rattle.sender_rules.proofs.Connections.PartLaws.{window_part, ssthresh_part, mark_part}
use Rattle.sender_rules.specs.Congestion.Echoes.{is_ahead, halved}
use Rattle.sender_rules.specs.Congestion.Calls.{echo_reply, after_echo, Congestion, congestion_calls}
use Rattle.sender_rules.specs.Congestion.Claims.{EchoGiven, half_of, lowered, Echoes, ReactsOnce}
use Rattle.sender_rules.proofs.Congestion.CallLaws.{echo_said}

-- ---- ranges

abbrev test_of : Connection → ℕ → Bool
test_of c mss = in_range c && within 1 mss largest_segment

module _ (c : Connection) (mss : ℕ) where
  passes : EchoGiven c mss → test_of c mss ≡ true
  passes g = simp (ranges.suffices c g.record_in, in_within 1 mss largest_segment g.mss_low g.mss_high)

  given : test_of c mss ≡ true → EchoGiven c mss
  given e =
      let b = both_true (in_range c) (within 1 mss largest_segment) e in
      record { record_in = ranges.tested c b.0; mss_low = within_low 1 mss largest_segment b.1; mss_high = within_high 1 mss largest_segment b.1 }

-- ---- what ours says, and leaves by that

module _ (c : Connection) (ack highest mss : ℕ) where
  by_reply : (x : Reply Bool) → x ≡ echo_reply c ack mss → congestion_calls.echo c ack highest mss ≡ record { said = x; left = after_echo c highest mss x }
  by_reply x e = ap (λ (r : Reply Bool). record { said = r; left = after_echo c highest mss r }) (sym e)

  out : test_of c mss ≡ false → congestion_calls.echo c ack highest mss ≡ refusing 7 c
  out e = by_reply (refuse 7) (simp e)

  by_ahead : EchoGiven c mss → (t : Bool) → is_ahead ack c.mark ≡ t → congestion_calls.echo c ack highest mss ≡ record { said = answer t; left = after_echo c highest mss (answer t) }
  by_ahead g t e = by_reply (answer t) (echo_said c ack mss (ranges.suffices c g.record_in) (in_within 1 mss largest_segment g.mss_low g.mss_high) t e)

  reacts : EchoGiven c mss → is_ahead ack c.mark ≡ true → congestion_calls.echo c ack highest mss ≡ answering true (lowered c highest mss)
  unfolding halved
  reacts g e = by_ahead g true e

-- at the mark, ahead of it, and behind it
at_mark : (mark : ℕ) → mark < 4294967296 → is_ahead mark (Some mark) ≡ false
unfolding is_ahead
at_mark mark m = not_within 1 _ (2 ^ 31 - 1) (λ p. absurd (omega (arith, p.0)))

ahead_true : (ack mark by : ℕ) → mark < 4294967296 → 1 ≤ by → by ≤ 2147483647 → (mark + by) % 4294967296 ≡ ack → is_ahead ack (Some mark) ≡ true
unfolding is_ahead
ahead_true ack mark by m l h e = in_within 1 _ (2 ^ 31 - 1) (omega arith) (omega arith)

behind_false : (ack mark by : ℕ) → mark < 4294967296 → 2147483648 ≤ by → by < 4294967296 → (mark + by) % 4294967296 ≡ ack → is_ahead ack (Some mark) ≡ false
unfolding is_ahead
behind_false ack mark by m l h e = not_within 1 _ (2 ^ 31 - 1) (λ p. absurd (omega (arith, p.1)))

ahead_false : (ack mark by : ℕ) → mark < 4294967296 → (by ≡ 0) ⊎ ((2147483648 ≤ by) × (by < 4294967296)) → (mark + by) % 4294967296 ≡ ack → is_ahead ack (Some mark) ≡ false
ahead_false ack mark by m (inl z) e = let same : ack ≡ mark = omega arith in ap (λ (n : ℕ). is_ahead n (Some mark)) same ∙ at_mark mark m
ahead_false ack mark by m (inr p) e = behind_false ack mark by m p.0 p.1 e

no_mark_ahead : (ack : ℕ) → is_ahead ack None ≡ true
unfolding is_ahead
no_mark_ahead ack = refl

pub echoes : Echoes congestion_calls
echoes = record {
  seven = λ c ack highest mss n. out c ack highest mss (untrue (test_of c mss) (λ e. n (given c mss e)));
  no_mark = λ c ack highest mss g e. reacts c ack highest mss g (ap (is_ahead ack) e ∙ no_mark_ahead ack);
  ahead = λ c ack highest mss mark by g e m l h d. reacts c ack highest mss g (ap (is_ahead ack) e ∙ ahead_true ack mark by m l h d);
  otherwise = λ c ack highest mss mark by g e m o d. by_ahead c ack highest mss g false (ap (is_ahead ack) e ∙ ahead_false ack mark by m o d);
}

-- ---- no other echo is so

module _ (g : Congestion) (a : Echoes g) (c : Connection) (ack highest mss : ℕ) (small : ack < 4294967296) (marks : (mark : ℕ) → c.mark ≡ Some mark → mark < 4294967296) where
  abbrev Same : Type 0
  Same = g.echo c ack highest mss ≡ congestion_calls.echo c ack highest mss

  module _ (p : EchoGiven c mss) (mark : ℕ) (e : c.mark ≡ Some mark) where
    m : mark < 4294967296
    m = marks mark e

    by_distance : (by : ℕ) → by < 4294967296 → (mark + by) % 4294967296 ≡ ack → Same
    by_distance by b d =
        ⊎_elim
        (λ (z : by ≤ 0). let o = inl (omega arith) in a.otherwise c ack highest mss mark by p e m o d ∙ sym (echoes.otherwise c ack highest mss mark by p e m o d))
        (λ (l : 0 < by).
        ⊎_elim
        (λ (h : by ≤ 2147483647). a.ahead c ack highest mss mark by p e m l h d ∙ sym (echoes.ahead c ack highest mss mark by p e m l h d))
        (λ (h : 2147483647 < by). let o = inr (h, b) in a.otherwise c ack highest mss mark by p e m o d ∙ sym (echoes.otherwise c ack highest mss mark by p e m o d))
        (le_or_gt by 2147483647))
        (le_or_gt by 0)

    by_marked : Same
    by_marked = by_distance ((ack + 4294967296 - mark) % 4294967296) (let h = m in omega arith) (let h = m in omega arith)

  by_mark : EchoGiven c mss → (k : Mark) → c.mark ≡ k → Same
  by_mark p None e = a.no_mark c ack highest mss p e ∙ sym (echoes.no_mark c ack highest mss p e)
  by_mark p (Some mark) e = by_marked p mark e

  pub echo_only : Same
  echo_only =
      ⊎_elim
      (λ (p : EchoGiven c mss). by_mark p c.mark refl)
      (λ (e : test_of c mss ≡ false). a.seven c ack highest mss (λ p. not_both (test_of c mss) (passes c mss p) e) ∙ sym (out c ack highest mss e))
      (tested (test_of c mss) (given c mss))

-- ---- what follows

pub lowered_in : (c : Connection) (highest mss : ℕ) → InRange c → 1 ≤ mss → InRange (lowered c highest mss)
lowered_in c highest mss i l =
    let low = i.window_low in
    let high = i.window_high in
    let n = half_of c.window mss in
    let windowed = window_part c i n (omega arith) (omega arith) in
    mark_part (with_ssthresh (with_window c n) n) (ssthresh_part (with_window c n) windowed n (omega arith)) (Some highest)

-- what an echo leaves: the record itself, or the lowered one
pub echo_by : (P : Connection → Type 0) (c : Connection) (ack highest mss : ℕ) → P c → (EchoGiven c mss → P (lowered c highest mss)) → P (congestion_calls.echo c ack highest mss).left
echo_by P c ack highest mss p f =
    ⊎_elim
    (λ (g : EchoGiven c mss). by_test_of g (is_ahead ack c.mark) refl)
    (λ (e : test_of c mss ≡ false). subst (λ o. P o.left) (sym (out c ack highest mss e)) p)
    (tested (test_of c mss) (given c mss))
  where
    by_test_of : EchoGiven c mss → (t : Bool) → is_ahead ack c.mark ≡ t → P (congestion_calls.echo c ack highest mss).left
    by_test_of g true e = subst (λ o. P o.left) (sym (reacts c ack highest mss g e)) (f g)
    by_test_of g false e = subst (λ o. P o.left) (sym (by_ahead c ack highest mss g false e)) p

-- an echo that was reacted to left the lowered record
reacted_left : (c : Connection) (ack highest mss : ℕ) → (congestion_calls.echo c ack highest mss).said ≡ answer true
    → EchoGiven c mss × ((congestion_calls.echo c ack highest mss).left ≡ lowered c highest mss)
unfolding halved
reacted_left c ack highest mss e =
    ⊎_elim
    (λ (g : EchoGiven c mss). (g, ap (after_echo c highest mss) e))
    (λ (o : test_of c mss ≡ false). let z = sym (ap (λ x. x.said) (out c ack highest mss o)) ∙ e in absurd (clash (cc)))
    (tested (test_of c mss) (given c mss))

pub reacts_once : ReactsOnce
reacts_once c ack highest mss later highest' mss' behind h l e b d low high =
    let r = reacted_left c ack highest mss e in
    let next = (congestion_calls.echo c ack highest mss).left in
    let in_range_lem : InRange next = subst InRange (sym r.1) (lowered_in c highest mss r.0.record_in r.0.mss_low) in
    let marked : next.mark ≡ Some highest = ap (λ (x : Connection). x.mark) r.1 in
    let g : EchoGiven next mss' = record { record_in = in_range_lem; mss_low = low; mss_high = high } in
    ⊎_elim
    (λ (z : behind ≤ 0). echoes.otherwise next later highest' mss' highest 0 g marked h (inl refl) (omega arith))
    (λ (p : 0 < behind). echoes.otherwise next later highest' mss' highest (4294967296 - behind) g marked h (inr (omega arith, omega arith)) (omega arith))
    (le_or_gt behind 0)
