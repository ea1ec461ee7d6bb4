-- What is claimed of looking at a packet: it shows the packet's view, and a request's place is where its option is located. Assumes
-- nothing.
use Rattle.std.specs.Prelude.{ℕ, List, ◌≡◌}
use Rattle.refusals.specs.Reply.{answer, and_then}
use Rattle.wire_rules.specs.declared.Request.{Request}
use Rattle.std.specs.Prelude.{Some}
use Rattle.wire_rules.specs.Ipv4.Packets.{located}
use Rattle.wire_rules.specs.Ipv4.Views.{view}
use Rattle.gateway_rules.specs.declared.Seen.{Seen}
use Rattle.gateway_rules.specs.Inspect.Sights.{sighted, view_of}

pub record Looking : Type 0 where
  -- what is seen is the view; where the view is a refusal, looking gives the same one
  pub views : (reach : ℕ) (packet : List ℕ) → and_then (sighted reach packet) (λ seen. answer (view_of seen)) ≡ view reach packet
  -- a request stands at the place of the packet's option
  pub placed : (reach : ℕ) (packet : List ℕ) (seen : Seen) (place : ℕ) (r : Request)
      → sighted reach packet ≡ answer seen → seen.asking ≡ Some (place, r) → located reach packet ≡ answer (Some place)
