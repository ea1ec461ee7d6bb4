-- The view of a packet: the few numbers that routers, receiver and sender decide by, and the packet with others written in their places.
-- Assumes nothing.
use Rattle.std.specs.Prelude.{ℕ, List, take, drop, set}
use Rattle.std.specs.Prelude.{Option, None, Some}
use Rattle.wire_rules.specs.Walk.Walks.{Place}
use Rattle.std.proofs.lemmas.List.Edits.{sets}
use Rattle.refusals.specs.Reply.{Reply, answer, refuse, leaves, and_then}
use Rattle.wire_rules.specs.declared.Request.{Request}
use Rattle.wire_rules.specs.Options.Wire.{option_length}
use Rattle.wire_rules.specs.Options.Requests.{request_read, request_rewritten}
use Rattle.wire_rules.specs.Ipv4.Headers.{ttl_place, ip_ttl}
use Rattle.wire_rules.specs.Ipv4.Checksums.{sealed}
use Rattle.wire_rules.specs.Ipv4.Packets.{walked, located}

-- IP TTL and, where there is a request, its rate, QS TTL and nonce
pub record View : Type 0 where
  pub ttl : ℕ
  pub request : Option Request

-- the eight bytes of an option
abbrev pub option_at : ℕ → List ℕ → List ℕ
option_at place packet = take option_length (drop place packet)

abbrev pub as_request : Reply Request → Option Request
as_request (answer r) = Some r
as_request (refuse n) = None

-- the request of a packet: the option at its place, if it reads as one
abbrev pub request_at : Place → List ℕ → Option Request
request_at None packet = None
request_at (Some place) packet = as_request (request_read (option_at place packet))

-- what a packet without fault shows; else 1, 2, 3 or 5
abbrev pub view : ℕ → List ℕ → Reply View
view reach packet = and_then (located reach packet) (λ place. answer (record { ttl = ip_ttl packet; request = request_at place packet }))

-- a request written over the one at its place, "in that part of the packet alone"; nothing is written where there is none to write, none
-- there, or a number of it is out of range
abbrev pub put_request : Place → Option Request → List ℕ → List ℕ
put_request (Some place) (Some r) packet =
    sets packet place (leaves (option_at place packet) (request_rewritten (option_at place packet) r.rate r.qs_ttl r.nonce))
put_request (Some place) None packet = packet
put_request None request packet = packet

-- the packet with other numbers for its view, and its checksum written anew
abbrev pub put : List ℕ → View → List ℕ
put packet v = sealed (put_request (leaves None (walked packet)) v.request (set packet ttl_place v.ttl))
