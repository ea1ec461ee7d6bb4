-- What is done with a packet: its IP TTL read, the place of its Quick-Start option found, its checksum written, and passing it on. Assumes
-- nothing.
use Rattle.std.specs.Prelude.{ℕ, ◌+◌, ◌-◌, List, leb, set}
use Rattle.common.specs.Choice.{pick}
use Rattle.refusals.specs.Reply.{Reply, answer, refuse, and_then}
use Rattle.std.specs.Prelude.{None, Some}
use Rattle.wire_rules.specs.Walk.Walks.{walk, Place}
use Rattle.wire_rules.specs.Ipv4.Headers.{options_place, ttl_place, ip_ttl, options_of}
use Rattle.wire_rules.specs.Ipv4.Checksums.{sealed}
use Rattle.wire_rules.specs.Ipv4.Checks.{well_formed, header_checked}

-- the IP TTL, or 1
abbrev pub ttl_reply : ℕ → List ℕ → Reply ℕ
ttl_reply reach packet = pick (well_formed reach packet) (answer (ip_ttl packet)) (refuse 1)

-- a place in the options area as a place in the packet
abbrev pub in_packet : Place → Place
in_packet None = None
in_packet (Some offset) = Some (options_place + offset)

-- what the walk of the packet's options area yields, by places in the packet
abbrev pub walked : List ℕ → Reply Place
walked packet = and_then (walk (options_of packet)) (λ place. answer (in_packet place))

-- the place of the packet's Quick-Start option, or that it has none; "1, 2, then 3 and 5 as met"
abbrev pub located : ℕ → List ℕ → Reply Place
located reach packet = and_then (header_checked reach packet) (λ header. walked packet)

-- "A written checksum is the complement of the folded sum with its own field zero": the packet with it, or 1 for a header that is not well
-- formed
abbrev pub sealed_reply : ℕ → List ℕ → Reply (List ℕ)
sealed_reply reach packet = pick (well_formed reach packet) (answer (sealed packet)) (refuse 1)

-- the IP part of a router: "IP TTL falls by one and the checksum is written anew". 1 for a header that is not well formed, then 6 where a
-- "router meets IP TTL 0 or 1". The checksum as it came is not looked at: a router has rewritten the option by then
abbrev pub passed_on : ℕ → List ℕ → Reply (List ℕ)
passed_on reach packet =
    pick (well_formed reach packet) (pick (leb (ip_ttl packet) 1) (refuse 6) (answer (sealed (set packet ttl_place (ip_ttl packet - 1))))) (refuse 1)

-- "A silent router does the IP part only", after 1 and 2
abbrev pub forwarded : ℕ → List ℕ → Reply (List ℕ)
forwarded reach packet = and_then (header_checked reach packet) (λ header. passed_on reach packet)
