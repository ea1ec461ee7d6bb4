-- ECN marking (document 01, "ECN and pipeACK"; RFC 2481). Assumes nothing.
use Rattle.std.specs.Prelude.{ℕ, ◌+◌, ◌*◌, ◌/◌, ◌%◌, Bool, List, eqb, length, get_or, set}
use Rattle.common.specs.Choice.{pick}
use Rattle.refusals.specs.Reply.{Reply, answer, refuse, and_then}
use Rattle.wire_rules.specs.declared.Marking.{Marking}
use Rattle.wire_rules.specs.declared.Marking.TheVariants.{Marked, Dropped}
use Rattle.wire_rules.specs.Ipv4.Headers.{ecn_place}
use Rattle.wire_rules.specs.Ipv4.Checksums.{sealed}
use Rattle.wire_rules.specs.Ipv4.Checks.{header_checked}

-- "the low two bits of the second header byte are ECT (2) and CE (1)"
unfoldable pub ect_set : ℕ → Bool
ect_set byte = eqb (byte / 2 % 2) 1

unfoldable pub with_ce : ℕ → ℕ
with_ce byte = byte / 2 * 2 + 1

-- "Marking with ECT set sets CE and the checksum; with ECT clear the answer is "drop""; of the refusals 1 and 2 alone
abbrev pub mark_reply : List ℕ → Reply Marking
mark_reply packet = and_then (header_checked (length packet) packet) (λ header. answer (pick (ect_set (get_or packet ecn_place 0)) Marked Dropped))

-- the packet afterwards, by what was decided: "no byte changes" on a drop, and none on a refusal
abbrev pub after_mark : List ℕ → Reply Marking → List ℕ
after_mark packet (answer Marked) = sealed (set packet ecn_place (with_ce (get_or packet ecn_place 0)))
after_mark packet (answer Dropped) = packet
after_mark packet (refuse n) = packet

abbrev pub marked_packet : List ℕ → List ℕ
marked_packet packet = after_mark packet (mark_reply packet)
