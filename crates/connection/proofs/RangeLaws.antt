-- What is known of a record in range. Assumes nothing.
use Prim.Native.Nat.{◌≤◌}
use mathlib.Core.Bool.{true}
use mathlib.Core.Path.{◌≡◌}
use Rattle.sender_rules.specs.declared.Connection.{Connection}
use Rattle.sender_rules.specs.Connections.Records.{most_bytes, most_samples, in_range}
use Rattle.sender_rules.proofs.Connections.RecordLaws.{sound}

pub ranges : (c : Connection) → in_range c ≡ true → (c.window ≤ most_bytes) × (c.count ≤ most_samples)
ranges c e = let s = sound c e in (s.window_high, s.count_high)
