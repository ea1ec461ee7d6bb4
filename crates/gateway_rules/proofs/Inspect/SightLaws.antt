-- A law of what is seen of a packet: the request at a place is the one that is asked for there. Assumes nothing.
use Prim.Native.Nat.{ℕ, ◌-◌}
use mathlib.Core.List.{List}
use Rattle.std.specs.Prelude.{Option, None, Some}
use Rattle.wire_rules.specs.Walk.Walks.{Place}
use mathlib.Core.Path.{◌≡◌, refl}
use Rattle.wire_rules.specs.declared.Request.{Request}
use Rattle.wire_rules.specs.Ipv4.Views.{request_at}
use Rattle.gateway_rules.specs.Inspect.Sights.{asking_at, request_of}

-- ---- what was located

-- the request at a place is the one that is asked for there
pub request_kept : (place : Place) (packet : List ℕ) → request_of (asking_at place (request_at place packet)) ≡ request_at place packet
request_kept None packet = refl
request_kept (Some o) packet = go (request_at (Some o) packet)
  where
    go : (x : Option Request) → request_of (asking_at (Some o) x) ≡ x
    go None = refl
    go (Some r) = refl
