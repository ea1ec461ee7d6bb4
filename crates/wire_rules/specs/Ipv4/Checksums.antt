-- The header checksum (RFC 791, RFC 1071): 16-bit one's complement addition. Assumes nothing.
use Rattle.std.specs.Prelude.{ℕ, suc, ◌+◌, ◌-◌, ◌*◌, ◌/◌, ◌%◌, List, [], ◌∷◌, set}
use Rattle.wire_rules.specs.Ipv4.Headers.{checksum_place, header_of}

-- 16 bits, all ones
abbrev pub all_ones : ℕ
all_ones = 65535

-- addition of 16-bit words with end-around carry: what is carried out of the 16 bits is added in below
unfoldable pub ones_add : ℕ → ℕ → ℕ
ones_add a b = (a + b) % 65536 + (a + b) / 65536

-- "The one's complement sum of its 16-bit words, folded": all words added, high byte first; a last byte without a partner is a high byte
unfoldable pub ones_sum : List ℕ → ℕ
ones_sum [] = 0
ones_sum (high ∷ []) = high * 256
ones_sum (high ∷ low ∷ rest) = ones_add (high * 256 + low) (ones_sum rest)

-- a word written into the checksum's field
unfoldable pub with_checksum : ℕ → List ℕ → List ℕ
with_checksum word packet = set (set packet checksum_place (word / 256)) (suc checksum_place) (word % 256)

-- "A written checksum is the complement of the folded sum with its own field zero."
unfoldable pub checksum_of : List ℕ → ℕ
checksum_of header = all_ones - ones_sum (with_checksum 0 header)

-- a packet with its header's checksum written anew
unfoldable pub sealed : List ℕ → List ℕ
sealed packet = with_checksum (checksum_of (header_of packet)) packet
