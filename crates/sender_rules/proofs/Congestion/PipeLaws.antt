-- What pipeACK is: the greatest sample that is recent, or undefined where none is. Assumes nothing.
use Prim.Native.Nat.{ℕ, zero, suc, ◌+◌, ◌≤◌, ◌<◌, max}
use mathlib.Core.Bool.{Bool, true, false}
use mathlib.Core.List.{List, [], ◌∷◌}
use mathlib.Core.Logic.{⊎_elim}
use Rattle.std.specs.Prelude.{Option, None, Some}
use mathlib.Core.Path.{◌≡◌, refl, ap, subst}
use native.Mathlib.Nat.{le_refl}
use native.Mathlib.Omega.{arith}
use borrow.Author.Tests.{leb-true, leb-false}
use lib.ListN.{length, get_or}
use Rattle.common.specs.Choice.{pick}
use Rattle.common.proofs.Choice.{le_or_gt}
use Rattle.sender_rules.specs.declared.Sample.{Sample}
use Rattle.sender_rules.specs.Connections.Claims.{no_sample}
use Rattle.sender_rules.specs.Congestion.Phases.{longest_age, is_recent, greater_of, or_greater, pipe_ack}
use Rattle.sender_rules.specs.Congestion.Claims.{Recent, PipeAckIs, Undefined}

module _ (rtt time : ℕ) where
  -- what is said of the samples by what was found
  abbrev pub Known : List Sample → Option ℕ → Type 0
  Known samples None = Undefined rtt time samples
  Known samples (Some bytes) = PipeAckIs rtt time samples bytes

  recent_true : (s : Sample) → is_recent (longest_age rtt) time s ≡ true → Recent rtt time s
  unfolding is_recent
  recent_true s e = leb-true time (s.time + longest_age rtt) e

  recent_false : (s : Sample) → is_recent (longest_age rtt) time s ≡ false → Recent rtt time s → ⊥
  unfolding is_recent
  recent_false s e r = let h = leb-false time (s.time + longest_age rtt) e in absurd (omega arith)

  module _ (s : Sample) (rest : List Sample) where
    -- one in front that is the greatest
    front : Recent rtt time s → ((i : ℕ) → i < length rest → Recent rtt time (get_or rest i no_sample) → (get_or rest i no_sample).bytes ≤ s.bytes) → PipeAckIs rtt time (s ∷ rest) s.bytes
    front r f = record { place = 0; stands = omega arith; recent = r; bytes_are = refl; greatest = among }
      where
        among : (i : ℕ) → i < suc (length rest) → Recent rtt time (get_or (s ∷ rest) i no_sample) → (get_or (s ∷ rest) i no_sample).bytes ≤ s.bytes
        among zero h q = le_refl s.bytes
        among (suc i) h q = f i (omega arith) q

    -- one in front that is not
    behind : (bytes : ℕ) → PipeAckIs rtt time rest bytes → (Recent rtt time s → s.bytes ≤ bytes) → PipeAckIs rtt time (s ∷ rest) bytes
    behind bytes p f = record { place = suc p.place; stands = let h = p.stands in omega arith; recent = p.recent; bytes_are = p.bytes_are; greatest = among }
      where
        among : (i : ℕ) → i < suc (length rest) → Recent rtt time (get_or (s ∷ rest) i no_sample) → (get_or (s ∷ rest) i no_sample).bytes ≤ bytes
        among zero h q = f q
        among (suc i) h q = p.greatest i (omega arith) q

    greater : (most : ℕ) → Recent rtt time s → PipeAckIs rtt time rest most → PipeAckIs rtt time (s ∷ rest) (max s.bytes most)
    greater most r p =
        ⊎_elim
        (λ (l : s.bytes ≤ most). let e : most ≡ max s.bytes most = omega arith in subst (PipeAckIs rtt time (s ∷ rest)) e (behind most p (λ q. l)))
        (λ (h : most < s.bytes).
        let e : s.bytes ≡ max s.bytes most = omega arith in
        subst (PipeAckIs rtt time (s ∷ rest)) e (front r (λ i k q. omega (arith, p.greatest i k q))))
        (le_or_gt s.bytes most)

    none_before : (Recent rtt time s → ⊥) → Undefined rtt time rest → Undefined rtt time (s ∷ rest)
    none_before n u zero h q = n q
    none_before n u (suc i) h q = u i (omega arith) q

    step : (t : Bool) → is_recent (longest_age rtt) time s ≡ t → (o : Option ℕ) → Known rest o → Known (s ∷ rest) (pick t (Some (greater_of s.bytes o)) o)
    step true e None u = front (recent_true s e) (λ i h q. absurd (u i h q))
    step true e (Some most) p = greater most (recent_true s e) p
    step false e None u = none_before (recent_false s e) u
    step false e (Some most) p = behind most p (λ q. absurd (recent_false s e q))

  pub known : (samples : List Sample) → Known samples (pipe_ack (longest_age rtt) time samples)
  unfolding pipe_ack or_greater
  known [] = λ i h q. absurd (omega arith)
  known (s ∷ rest) = step s rest (is_recent (longest_age rtt) time s) refl (pipe_ack (longest_age rtt) time rest) (known rest)

  -- the other way: what is said of the samples leaves one pipeACK
  pub is_undefined : (samples : List Sample) → Undefined rtt time samples → pipe_ack (longest_age rtt) time samples ≡ None
  is_undefined samples u = go (pipe_ack (longest_age rtt) time samples) (known samples)
    where
      go : (o : Option ℕ) → Known samples o → o ≡ None
      go None k = refl
      go (Some bytes) p = absurd (u p.place p.stands p.recent)

  pub is_bytes : (samples : List Sample) (bytes : ℕ) → PipeAckIs rtt time samples bytes → pipe_ack (longest_age rtt) time samples ≡ Some bytes
  is_bytes samples bytes p = go (pipe_ack (longest_age rtt) time samples) (known samples)
    where
      go : (o : Option ℕ) → Known samples o → o ≡ Some bytes
      go None u = absurd (u p.place p.stands p.recent)
      go (Some other) q =
          let a = q.greatest p.place p.stands p.recent in
          let b = p.greatest q.place q.stands q.recent in
          let c = p.bytes_are in
          let d = q.bytes_are in
          let e : other ≡ bytes = omega arith in
          ap Some e
