-- The check of a header (document 01, "Bytes on the wire" and the table of refusals). Assumes nothing.
use Rattle.std.specs.Prelude.{ℕ, Bool, ◌&&◌, List, leb, eqb, length}
use Rattle.common.specs.Choice.{pick, within}
use Rattle.refusals.specs.Reply.{Reply, answer, refuse}
use Rattle.wire_rules.specs.Ipv4.Headers.{least_header, version_in, length_field, header_length, total_length, header_of}
use Rattle.wire_rules.specs.Ipv4.Checksums.{all_ones, ones_sum}

-- "The header (RFC 791): version 4, length field 5 to 15, total length at least the header and at most the lent slice." The bytes lent hold
-- the whole header. How far the total length may reach is a number of its own: where a packet is lent, it is the packet's bytes
unfoldable pub well_formed : ℕ → List ℕ → Bool
well_formed reach packet =
    leb least_header (length packet)
    && eqb (version_in packet) 4
    && within 5 (length_field packet) 15
    && leb (header_length packet) (length packet)
    && within (header_length packet) (total_length packet) reach

-- the header's length; 1 where "slice, version, header or total length" is wrong, then 2 where "the one's complement sum of its 16-bit
-- words, folded," is not 65,535
abbrev pub header_checked : ℕ → List ℕ → Reply ℕ
header_checked reach packet =
    pick (well_formed reach packet) (pick (eqb (ones_sum (header_of packet)) all_ones) (answer (header_length packet)) (refuse 2)) (refuse 1)
