-- The claims on samples, and which times are early. Assumes nothing.
use Prim.Native.Nat.{ℕ, zero, suc, ◌+◌, ◌-◌, ◌≤◌, ◌<◌, min}
use mathlib.Core.Bool.{Bool, true, false, ◌&&◌}
use mathlib.Core.List.{List, [], ◌∷◌}
use mathlib.Core.Logic.{⊎_elim}
use mathlib.Core.Path.{◌≡◌, refl, sym, ap, subst, ◌∙◌}
use native.Mathlib.Omega.{arith}
use borrow.Author.Tests.{le-leb, lt-ltb, le-ltb, leb-true}
use lib.Dec.{leb}
use lib.ListN.{get_or, take}
use lib.Seq.{take-take, length-take-le}
use Rattle.common.specs.Choice.{pick}
use Rattle.common.proofs.Choice.{clash, not_both, untrue, tested, both_true, le_or_gt}
use Rattle.refusals.specs.Reply.{Reply, answer, refuse, Outcome, outcome_of, refusing, answering}
use Rattle.std.specs.Prelude.{None, Some}
use Rattle.sender_rules.specs.declared.Sample.{Sample}
use Rattle.sender_rules.specs.declared.Connection.{Connection}
use Rattle.sender_rules.specs.Connections.Records.{most_bytes, most_samples, samples_of, is_before, in_range, fresh_with, with_samples, Moment}
use Rattle.sender_rules.specs.Connections.Claims.{no_sample, InRange}
use Rattle.sender_rules.proofs.Connections.Claims.{ranges}
use Rattle.sender_rules.proofs.Connections.PartLaws.{samples_part}
use Rattle.sender_rules.specs.Congestion.Phases.{before_newest, is_early, sampled}
use Rattle.sender_rules.specs.Congestion.Calls.{sample_reply, Congestion, congestion_calls}
use Rattle.sender_rules.specs.Congestion.Claims.{InTime, SampleGiven, Added, Samples, add_all, LastFive}
use Rattle.sender_rules.proofs.Congestion.CallLaws.{sample_early, sample_done}

-- ---- times

started_later : (time : ℕ) (m : Moment) → ((start : ℕ) → m ≡ Some start → start ≤ time) → is_before time m ≡ false
unfolding is_before
started_later time None f = refl
started_later time (Some start) f = le-ltb time start (f start refl)

newest_earlier : (time : ℕ) (l : List Sample) → ((newest : Sample) (others : List Sample) → l ≡ newest ∷ others → newest.time ≤ time) → before_newest time l ≡ false
newest_earlier time [] f = refl
newest_earlier time (s ∷ l) f = le-ltb time s.time (f s l refl)

module _ (c : Connection) (time : ℕ) where
  pub in_time : InTime c time → is_early time c ≡ false
  unfolding is_early
  in_time t = simp (started_later time c.period t.after_start, newest_earlier time (samples_of c) t.after_newest)

  pub early_newest : (newest : Sample) (others : List Sample) → samples_of c ≡ newest ∷ others → time < newest.time → is_early time c ≡ true
  unfolding is_early
  early_newest newest others e h = go (is_before time c.period)
    where
      go : (b : Bool) → pick b true (before_newest time (samples_of c)) ≡ true
      go true = refl
      go false = ap (before_newest time) e ∙ lt-ltb time newest.time h

  pub early_start : (start : ℕ) → c.period ≡ Some start → time < start → is_early time c ≡ true
  unfolding is_early is_before
  early_start start e h = let b : is_before time c.period ≡ true = rw e (lt-ltb time start h) in simp b

  -- a time is in time, or early for one of two reasons
  pub data When : Type 0 where
    fine : InTime c time → When
    newer : (newest : Sample) (others : List Sample) → samples_of c ≡ newest ∷ others → time < newest.time → When
    started : (start : ℕ) → c.period ≡ Some start → time < start → When

  by_samples : ((start : ℕ) → c.period ≡ Some start → start ≤ time) → (l : List Sample) → samples_of c ≡ l → When
  by_samples f [] e = fine (record { after_newest = λ newest others g. let z : newest ∷ others ≡ [] = sym g ∙ e in absurd (clash (cc)); after_start = f })
  by_samples f (s ∷ l) e =
      ⊎_elim
      (λ (h : s.time ≤ time).
      fine (record {
        after_newest = λ newest others g. let z : newest ∷ others ≡ s ∷ l = sym g ∙ e in let same : newest ≡ s = cc in subst (λ (x : Sample). x.time ≤ time) (sym same) h;
        after_start = f;
      }))
      (λ (h : time < s.time). newer s l e h)
      (le_or_gt s.time time)

  by_period : (m : Moment) → c.period ≡ m → When
  by_period None e = by_samples (λ start g. let z : Some start ≡ None = sym g ∙ e in absurd (clash (cc))) (samples_of c) refl
  by_period (Some begun) e =
      ⊎_elim
      (λ (h : begun ≤ time). by_samples (λ start g. let z : Some start ≡ Some begun = sym g ∙ e in let same : start ≡ begun = cc in omega arith) (samples_of c) refl)
      (λ (h : time < begun). started begun e h)
      (le_or_gt begun time)

  pub when : When
  when = by_period c.period refl

-- ---- ranges

abbrev test_of : Connection → Sample → Bool
test_of c s = in_range c && leb s.bytes most_bytes

module _ (c : Connection) (s : Sample) where
  passes : SampleGiven c s → test_of c s ≡ true
  passes g = simp (ranges.suffices c g.record_in, le-leb s.bytes most_bytes g.bytes_high)

  given : test_of c s ≡ true → SampleGiven c s
  given e =
      let b = both_true (in_range c) (leb s.bytes most_bytes) e in
      record { record_in = ranges.tested c b.0; bytes_high = leb-true s.bytes most_bytes b.1 }

  -- ---- what ours says and leaves

  by_reply : (x : Reply Connection) → x ≡ sample_reply c s → congestion_calls.sample c s ≡ outcome_of c x
  by_reply x e = ap (outcome_of c) (sym e)

  out : test_of c s ≡ false → congestion_calls.sample c s ≡ refusing 7 c
  out e = by_reply (refuse 7) (simp e)

  too_early : SampleGiven c s → is_early s.time c ≡ true → congestion_calls.sample c s ≡ refusing 9 c
  too_early g e = by_reply (refuse 9) (sample_early c s (ranges.suffices c g.record_in) g.bytes_high e)

  done : SampleGiven c s → InTime c s.time → congestion_calls.sample c s ≡ answering tt (sampled c s)
  done g t = by_reply (answer (sampled c s)) (sample_done c s (ranges.suffices c g.record_in) g.bytes_high (in_time c s.time t))

-- the first of the samples, by how many there are
first_four : (n : ℕ) (l : List Sample) → n ≤ 5 → take (min (n + 1) 5 - 1) (take 4 l) ≡ take 4 (take n l)
first_four n l h =
    ⊎_elim
    (λ (k : n ≤ 4). let e : min (n + 1) 5 - 1 ≡ n = omega arith in rw e (take-take n 4 l k ∙ sym (taken n 4 l k)))
    (λ (k : 4 < n). let e : min (n + 1) 5 - 1 ≡ 4 = omega arith in rw e (take-take 4 4 l (omega arith) ∙ sym (take-take 4 n l (omega arith))))
    (le_or_gt n 4)
  where
    taken : (m k : ℕ) (x : List Sample) → m ≤ k → take k (take m x) ≡ take m x
    taken zero zero x p = refl
    taken zero (suc k) x p = refl
    taken (suc m) zero x p = absurd (omega arith)
    taken (suc m) (suc k) [] p = refl
    taken (suc m) (suc k) (y ∷ x) p = ap (λ (r : List Sample). y ∷ r) (taken m k x (omega arith))

kept_by : (c : Connection) (s : Sample) → c.count ≤ 5 → samples_of (sampled c s) ≡ take 5 (s ∷ samples_of c)
kept_by c s h =
    let e : min (c.count + 1) 5 ≡ suc (min (c.count + 1) 5 - 1) = omega arith in
    ap (λ (k : ℕ). take k (s ∷ take 4 c.samples)) e ∙ ap (λ (l : List Sample). s ∷ l) (first_four c.count c.samples h)

is_added : (c : Connection) (s : Sample) → c.count ≤ 5 → Added c s (sampled c s)
is_added c s h = record {
  kept = kept_by c s h;
  count_is = refl;
  places = λ e. ap suc (length-take-le 4 c.samples (omega arith));
  rest = refl;
}

pub samples : Samples congestion_calls
samples = record {
  seven = λ c s n. out c s (untrue (test_of c s) (λ e. n (given c s e)));
  nine_newest = λ c s newest others g e h. too_early c s g (early_newest c s.time newest others e h);
  nine_start = λ c s start g e h. too_early c s g (early_start c s.time start e h);
  added = λ c s g t.
      subst (λ (o : Outcome (Unit {0}) Connection). (o.said ≡ answer tt) × Added c s o.left) (sym (done c s g t)) (refl, is_added c s g.record_in.count_high);
}

-- ---- no other calls add samples so

module _ (g : Congestion) (a : Samples g) (c : Connection) (s : Sample) where
  -- alike in what is said, and in the record but for the places behind the samples
  abbrev pub Alike : Outcome (Unit {0}) Connection → Outcome (Unit {0}) Connection → Type 0
  Alike o p = (o.said ≡ p.said) × (samples_of o.left ≡ samples_of p.left) × (o.left ≡ with_samples p.left o.left.samples p.left.count)

  refused_alike : (n : ℕ) → g.sample c s ≡ refusing n c → congestion_calls.sample c s ≡ refusing n c → Alike (g.sample c s) (congestion_calls.sample c s)
  refused_alike n e f = subst (λ o. Alike o (congestion_calls.sample c s)) (sym e) (subst (λ o. Alike (refusing n c) o) (sym f) (refl, refl, refl))

  added_alike : SampleGiven c s → InTime c s.time → Alike (g.sample c s) (congestion_calls.sample c s)
  added_alike p t =
      let theirs = a.added c s p t in
      let ours = samples.added c s p t in
      let left = (g.sample c s).left in
      let count = theirs.1.count_is ∙ sym ours.1.count_is in
      let part : with_samples c left.samples left.count ≡ with_samples (congestion_calls.sample c s).left left.samples (congestion_calls.sample c s).left.count =
      ap (with_samples c left.samples) count ∙ ap (λ (x : Connection). with_samples x left.samples (congestion_calls.sample c s).left.count) (sym ours.1.rest) in
      (theirs.0 ∙ sym ours.0, theirs.1.kept ∙ sym ours.1.kept, theirs.1.rest ∙ part)

  by_when : SampleGiven c s → When c s.time → Alike (g.sample c s) (congestion_calls.sample c s)
  by_when p (fine t) = added_alike p t
  by_when p (newer newest others e h) = refused_alike 9 (a.nine_newest c s newest others p e h) (samples.nine_newest c s newest others p e h)
  by_when p (started start e h) = refused_alike 9 (a.nine_start c s start p e h) (samples.nine_start c s start p e h)

  pub sample_only : Alike (g.sample c s) (congestion_calls.sample c s)
  sample_only =
      ⊎_elim
      (λ (p : SampleGiven c s). by_when p (when c s.time))
      (λ (e : test_of c s ≡ false). refused_alike 7 (a.seven c s (λ p. not_both (test_of c s) (passes c s p) e)) (out c s e))
      (tested (test_of c s) (given c s))

-- ---- what follows

-- a call leaves the record itself, or one with the sample added
pub sample_by : (P : Connection → Type 0) (c : Connection) (s : Sample) → P c → (SampleGiven c s → P (sampled c s)) → P (congestion_calls.sample c s).left
sample_by P c s p f =
    ⊎_elim
    (λ (g : SampleGiven c s). by_when_of g (when c s.time))
    (λ (e : test_of c s ≡ false). subst (λ o. P o.left) (sym (out c s e)) p)
    (tested (test_of c s) (given c s))
  where
    by_when_of : SampleGiven c s → When c s.time → P (congestion_calls.sample c s).left
    by_when_of g (fine t) = subst (λ o. P o.left) (sym (done c s g t)) (f g)
    by_when_of g (newer newest others e h) = subst (λ o. P o.left) (sym (too_early c s g (early_newest c s.time newest others e h))) p
    by_when_of g (started start e h) = subst (λ o. P o.left) (sym (too_early c s g (early_start c s.time start e h))) p

pub sampled_in : (c : Connection) (s : Sample) → InRange c → s.bytes ≤ most_bytes → InRange (sampled c s)
sampled_in c s i h = samples_part c i (s ∷ take 4 c.samples) (min (c.count + 1) most_samples) (omega arith) each
  where
    shorter : (n k : ℕ) (l : List Sample) → k < n → get_or (take n l) k no_sample ≡ get_or l k no_sample
    shorter zero k l p = absurd (omega arith)
    shorter (suc n) k [] p = refl
    shorter (suc n) zero (x ∷ l) p = refl
    shorter (suc n) (suc k) (x ∷ l) p = shorter n k l (omega arith)

    each : (k : ℕ) → k < min (c.count + 1) most_samples → (get_or (s ∷ take 4 c.samples) k no_sample).bytes ≤ most_bytes
    each zero p = h
    each (suc k) p = subst (λ (x : Sample). x.bytes ≤ most_bytes) (sym (shorter 4 k c.samples (omega arith))) (i.samples_in k (omega arith))

-- ---- the five added last

-- a sample that was not refused is kept in front of the four before it
kept_after : (c : Connection) (s : Sample) → (congestion_calls.sample c s).said ≡ answer tt → samples_of (congestion_calls.sample c s).left ≡ take 5 (s ∷ samples_of c)
kept_after c s e =
    ⊎_elim
    (λ (g : SampleGiven c s). by_time g (when c s.time))
    (λ (o : test_of c s ≡ false). let z = sym (ap (λ x. x.said) (out c s o)) ∙ e in absurd (clash (cc)))
    (tested (test_of c s) (given c s))
  where
    by_time : SampleGiven c s → When c s.time → samples_of (congestion_calls.sample c s).left ≡ take 5 (s ∷ samples_of c)
    by_time g (fine t) = (samples.added c s g t).1.kept
    by_time g (newer newest others f h) = let z = sym (ap (λ x. x.said) (samples.nine_newest c s newest others g f h)) ∙ e in absurd (clash (cc))
    by_time g (started start f h) = let z = sym (ap (λ x. x.said) (samples.nine_start c s start g f h)) ∙ e in absurd (clash (cc))

pub last_five : LastFive
last_five window ssthresh [] a = refl
last_five window ssthresh (s ∷ earlier) a =
    kept_after (add_all (fresh_with window ssthresh) earlier) s a.0
    ∙ ap (λ (l : List Sample). s ∷ take 4 l) (last_five window ssthresh earlier a.1)
    ∙ ap (λ (l : List Sample). s ∷ l) (take-take 4 5 earlier (omega arith))
