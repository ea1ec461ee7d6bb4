-- Laws of the record's ranges. Assumes nothing.
use Prim.Native.Nat.{ℕ, ◌≤◌, ◌<◌}
use mathlib.Core.Bool.{Bool, true, false, ◌&&◌}
use mathlib.Core.Path.{◌≡◌, refl}
use lib.Dec.{leb, ltb}
use borrow.Author.Tests.{le-leb, leb-true, ltb-true}
use Rattle.common.specs.Choice.{within}
use Rattle.common.proofs.Choice.{both_true, within_low, within_high, in_within}
use Rattle.wire_rules.specs.Rates.Steps.{top_code}
use Rattle.wire_rules.specs.Options.Wire.{nonce_limit}
use Rattle.sender_rules.specs.declared.OpenRequest.{OpenRequest}
use Rattle.sender_rules.specs.declared.Before.{Before}
use Rattle.sender_rules.specs.declared.State.TheVariants.{Asked, Quick}
use Rattle.sender_rules.specs.declared.Connection.{Connection}
use Rattle.sender_rules.specs.Connections.Records.{most_bytes, most_samples, samples_of, state_in_range, bytes_in_range, in_range, fresh_with}

and_true : (s t : Bool) → (s && t && true && true && true) ≡ (s && t)
and_true true true = refl
and_true true false = refl
and_true false t = refl

-- of a fresh record the window and ssthresh alone can be out of range
pub fresh_ranges : (window ssthresh : ℕ) → in_range (fresh_with window ssthresh) ≡ (within 1 window most_bytes && leb ssthresh most_bytes)
unfolding in_range state_in_range bytes_in_range
fresh_ranges window ssthresh = and_true (within 1 window most_bytes) (leb ssthresh most_bytes)

-- ---- the facts of a record in range

pub record Sound (c : Connection) : Type 0 where
  pub window_low : 1 ≤ c.window
  pub window_high : c.window ≤ most_bytes
  pub ssthresh_high : c.ssthresh ≤ most_bytes
  pub state_ok : state_in_range c.state ≡ true
  pub count_high : c.count ≤ most_samples
  pub samples_ok : bytes_in_range (samples_of c) ≡ true

pub sound : (c : Connection) → in_range c ≡ true → Sound c
unfolding in_range
sound c e =
    let a = within 1 c.window most_bytes in
    let b = leb c.ssthresh most_bytes in
    let s = state_in_range c.state in
    let k = leb c.count most_samples in
    let l = both_true (a && b && s && k) (bytes_in_range (samples_of c)) e in
    let m = both_true (a && b && s) k l.0 in
    let n = both_true (a && b) s m.0 in
    let o = both_true a b n.0 in
    record {
      window_low = within_low 1 c.window most_bytes o.0;
      window_high = within_high 1 c.window most_bytes o.0;
      ssthresh_high = leb-true c.ssthresh most_bytes o.1;
      state_ok = n.1;
      count_high = leb-true c.count most_samples m.1;
      samples_ok = l.1;
    }

pub sound_back : (c : Connection) → Sound c → in_range c ≡ true
unfolding in_range
sound_back c s =
    simp (
      in_within 1 c.window most_bytes s.window_low s.window_high,
      le-leb c.ssthresh most_bytes s.ssthresh_high,
      s.state_ok,
      le-leb c.count most_samples s.count_high,
      s.samples_ok,
    )

-- the request that is open, and the window before
pub asked_ranges : (q : OpenRequest) → state_in_range (Asked q) ≡ true → (1 ≤ q.code) × (q.code ≤ top_code) × (q.nonce < nonce_limit)
unfolding state_in_range
asked_ranges q e =
    let a = both_true (within 1 q.code top_code) (ltb q.nonce nonce_limit) e in
    (within_low 1 q.code top_code a.0, within_high 1 q.code top_code a.0, ltb-true q.nonce nonce_limit a.1)

pub quick_ranges : (b : Before) → state_in_range (Quick b) ≡ true → (1 ≤ b.window) × (b.window ≤ most_bytes)
unfolding state_in_range
quick_ranges b e = (within_low 1 b.window most_bytes e, within_high 1 b.window most_bytes e)
