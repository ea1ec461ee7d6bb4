-- What a router and a receiver read of a packet before they decide: what its view shows, with the place of the option. Assumes nothing.
use Rattle.std.specs.Prelude.{ℕ, List}
use Rattle.std.specs.Prelude.{Option, None, Some}
use Rattle.wire_rules.specs.Walk.Walks.{Place}
use Rattle.refusals.specs.Reply.{Reply, answer, and_then}
use Rattle.wire_rules.specs.declared.Request.{Request}
use Rattle.wire_rules.specs.Ipv4.Headers.{ip_ttl}
use Rattle.wire_rules.specs.Ipv4.Packets.{located}
use Rattle.wire_rules.specs.Ipv4.Views.{View, request_at}
use Rattle.gateway_rules.specs.declared.Seen.{Seen}

-- what a packet asks for: a request, and the place of its option; or nothing
abbrev pub Asking : Type 0
Asking = Option (ℕ × Request)

-- a request that stands at a place
abbrev pub asking_at : Place → Option Request → Asking
asking_at (Some place) (Some r) = Some (place, r)
asking_at (Some place) None = None
asking_at None request = None

-- what is seen of a packet without fault; else 1, 2, 3 or 5
abbrev pub sighted : ℕ → List ℕ → Reply Seen
sighted reach packet = and_then (located reach packet) (λ place. answer (record { ttl = ip_ttl packet; asking = asking_at place (request_at place packet) }))

-- the view that was seen
abbrev pub request_of : Asking → Option Request
request_of None = None
request_of (Some (place, r)) = Some r

abbrev pub view_of : Seen → View
view_of seen = record { ttl = seen.ttl; request = request_of seen.asking }
