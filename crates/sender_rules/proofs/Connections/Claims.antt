-- The claims of specs/Connections/Claims.antt. Assumes nothing.
use Prim.Native.Nat.{ℕ, zero, suc, ◌≤◌, ◌<◌}
use mathlib.Core.Bool.{Bool, true, false, ◌&&◌}
use mathlib.Core.List.{List, [], ◌∷◌}
use mathlib.Core.Path.{◌≡◌, refl, sym, ◌∙◌}
use native.Mathlib.Omega.{arith}
use borrow.Author.Tests.{le-leb, lt-ltb, leb-true}
use lib.Dec.{leb}
use lib.ListN.{get_or, take}
use Rattle.common.specs.Choice.{within}
use Rattle.common.proofs.Choice.{both_true, within_low, within_high, in_within}
use Rattle.refusals.specs.Reply.{answer, refuse}
use Rattle.refusals.proofs.ReplyLaws.{answered, refused}
use Rattle.wire_rules.specs.Rates.Steps.{top_code}
use Rattle.wire_rules.specs.Options.Wire.{nonce_limit}
use Rattle.sender_rules.specs.declared.State.{State}
use Rattle.sender_rules.specs.declared.State.TheVariants.{Idle, Asked, Quick}
use Rattle.sender_rules.specs.declared.Sample.{Sample}
use Rattle.sender_rules.specs.declared.Connection.{Connection}
use Rattle.sender_rules.specs.Connections.Records.{most_bytes, samples_of, state_in_range, bytes_in_range, in_range, fresh_with, fresh_reply, with_samples}
use Rattle.sender_rules.specs.Connections.Claims.{StateInRange, no_sample, Ranges, Parts, Fresh}
use Rattle.sender_rules.proofs.Connections.RecordLaws.{fresh_ranges, sound, sound_back, asked_ranges, quick_ranges}

-- ---- states and samples

state_in : (s : State) → state_in_range s ≡ true → StateInRange s
state_in Idle e = tt
state_in (Asked q) e = asked_ranges q e
state_in (Quick b) e = quick_ranges b e

state_ok : (s : State) → StateInRange s → state_in_range s ≡ true
unfolding state_in_range
state_ok Idle i = refl
state_ok (Asked q) i = simp (in_within 1 q.code top_code i.0 i.1, lt-ltb q.nonce nonce_limit i.2)
state_ok (Quick b) i = in_within 1 b.window most_bytes i.0 i.1

samples_in : (n : ℕ) (l : List Sample) → bytes_in_range (take n l) ≡ true → (i : ℕ) → i < n → (get_or l i no_sample).bytes ≤ most_bytes
unfolding bytes_in_range
samples_in zero l e i h = absurd (omega arith)
samples_in (suc n) [] e i h = omega arith
samples_in (suc n) (s ∷ l) e zero h = leb-true s.bytes most_bytes (both_true (leb s.bytes most_bytes) (bytes_in_range (take n l)) e).0
samples_in (suc n) (s ∷ l) e (suc i) h = samples_in n l (both_true (leb s.bytes most_bytes) (bytes_in_range (take n l)) e).1 i (omega arith)

samples_ok : (n : ℕ) (l : List Sample) → ((i : ℕ) → i < n → (get_or l i no_sample).bytes ≤ most_bytes) → bytes_in_range (take n l) ≡ true
unfolding bytes_in_range
samples_ok zero l f = refl
samples_ok (suc n) [] f = refl
samples_ok (suc n) (s ∷ l) f = simp (le-leb s.bytes most_bytes (f 0 (omega arith)), samples_ok n l (λ i h. f (suc i) (omega arith)))

places_by : (c : Connection) (other : List Sample) → samples_of (with_samples c other c.count) ≡ samples_of c → in_range (with_samples c other c.count) ≡ in_range c
unfolding in_range
places_by c other e = rw e refl

pub ranges : Ranges
ranges = record {
  tested = λ c e.
      let s = sound c e in
      record {
        window_low = s.window_low;
        window_high = s.window_high;
        ssthresh_high = s.ssthresh_high;
        state_in = state_in c.state s.state_ok;
        count_high = s.count_high;
        samples_in = samples_in c.count c.samples s.samples_ok;
      };
  suffices = λ c i.
      sound_back c
      (record {
        window_low = i.window_low;
        window_high = i.window_high;
        ssthresh_high = i.ssthresh_high;
        state_ok = state_ok c.state i.state_in;
        count_high = i.count_high;
        samples_ok = samples_ok c.count c.samples i.samples_in;
      });
  places = places_by;
}

pub parts : Parts
parts = record {
  state = λ s w t l m p k d new. refl;
  window = λ s w t l m p k d new. refl;
  ssthresh = λ s w t l m p k d new. refl;
  last = λ s w t l m p k d new. refl;
  mark = λ s w t l m p k d new. refl;
  samples = λ s w t l m p k d new count. refl;
  period = λ s w t l m p k d new. refl;
}

-- ---- the fresh record

fresh_fits : (window ssthresh : ℕ) → fresh_reply window ssthresh ≡ answer tt → (within 1 window most_bytes && leb ssthresh most_bytes) ≡ true
fresh_fits window ssthresh e = (answered (within 1 window most_bytes && leb ssthresh most_bytes) tt tt 7 (sym e)).0

pub fresh : Fresh
fresh = record {
  fresh = λ window ssthresh. record { state_is = refl; window_is = refl; ssthresh_is = refl; no_request = refl; no_mark = refl; no_sample_lem = refl; places = refl; no_period = refl };
  made = λ window ssthresh l h s. simp (in_within 1 window most_bytes l h, le-leb ssthresh most_bytes s);
  seven = λ window ssthresh n. by_test_out window ssthresh n (within 1 window most_bytes && leb ssthresh most_bytes) refl;
  in_range_lem = λ window ssthresh e. ranges.tested (fresh_with window ssthresh) (fresh_ranges window ssthresh ∙ fresh_fits window ssthresh e);
  unusable = λ window ssthresh n e. fresh_ranges window ssthresh ∙ (refused (within 1 window most_bytes && leb ssthresh most_bytes) tt n 7 (sym e)).0;
}
  where
    by_test_out : (window ssthresh : ℕ) → ((1 ≤ window) × (window ≤ most_bytes) × (ssthresh ≤ most_bytes) → ⊥) → (t : Bool) → (within 1 window most_bytes && leb ssthresh most_bytes) ≡ t
        → fresh_reply window ssthresh ≡ refuse 7
    by_test_out window ssthresh n true e =
        let b = both_true (within 1 window most_bytes) (leb ssthresh most_bytes) e in
        absurd (n (within_low 1 window most_bytes b.0, within_high 1 window most_bytes b.0, leb-true ssthresh most_bytes b.1))
    by_test_out window ssthresh n false e = simp e
