-- The eight bytes that a request and a response share (document 01, "Bytes on the wire"). Assumes nothing.
use Rattle.std.specs.Prelude.{ℕ, ◌+◌, ◌*◌, ◌/◌, ◌%◌, ◌^◌, Bool, ◌&&◌, List, [], ◌∷◌, leb, ltb, eqb, length, get_or}
use Rattle.common.specs.Choice.{pick}
use Rattle.refusals.specs.Reply.{Reply, answer, refuse}
use Rattle.wire_rules.specs.Rates.Steps.{top_code}

-- "option buffers exactly 8 bytes"
abbrev pub option_length : ℕ
option_length = 8

-- "nonces below 2^30"
abbrev pub nonce_limit : ℕ
nonce_limit = 2 ^ 30

-- "starting IP TTL 1 to 255"
abbrev pub top_ttl : ℕ
top_ttl = 255

-- what has a range where an option is written: the buffer's length, the rate code ("codes written or read .. 0 to 15") and the nonce
unfoldable pub fields_fit : ℕ → ℕ → ℕ → Bool
fields_fit len code nonce = eqb len option_length && leb code top_code && ltb nonce nonce_limit

-- "a 32-bit big-endian word: 30 bits of nonce above 2 reserved bits": the word of four bytes, and the four bytes of a nonce and reserved
-- bits
abbrev pub word_from : ℕ → ℕ → ℕ → ℕ → ℕ
word_from a b c d = a * 16777216 + b * 65536 + c * 256 + d

abbrev pub word_bytes : ℕ → ℕ → List ℕ
word_bytes nonce reserved = nonce / 4194304 ∷ nonce / 16384 % 256 ∷ nonce / 64 % 256 ∷ (nonce % 64 * 4 + reserved) ∷ []

-- the eight bytes of an option: its kind, its length, the rate code under four bits of 0, the TTL's byte, and then the word
unfoldable pub option_bytes : ℕ → ℕ → ℕ → ℕ → ℕ → List ℕ
option_bytes kind rate ttl nonce reserved = kind ∷ 8 ∷ rate ∷ ttl ∷ word_bytes nonce reserved

-- an option written anew, "Reserved bits are written 0": its eight bytes, or 7 for a length, code or nonce outside its range
abbrev pub option_written : ℕ → List ℕ → ℕ → ℕ → ℕ → Reply (List ℕ)
option_written kind option rate ttl nonce = pick (fields_fit (length option) rate nonce) (answer (option_bytes kind rate ttl nonce 0)) (refuse 7)

-- the fields of eight bytes. The high half of the rate's byte is a request's function, and reserved in a response; the nonce and the
-- reserved bits are the word's
abbrev pub kind_in : List ℕ → ℕ
kind_in option = get_or option 0 0

abbrev pub length_in : List ℕ → ℕ
length_in option = get_or option 1 0

abbrev pub high_half : List ℕ → ℕ
high_half option = get_or option 2 0 / 16

abbrev pub rate_in : List ℕ → ℕ
rate_in option = get_or option 2 0 % 16

abbrev pub ttl_in : List ℕ → ℕ
ttl_in option = get_or option 3 0

unfoldable pub word_of : List ℕ → ℕ
word_of option = word_from (get_or option 4 0) (get_or option 5 0) (get_or option 6 0) (get_or option 7 0)

abbrev pub nonce_in : List ℕ → ℕ
nonce_in option = word_of option / 4

abbrev pub reserved_in : List ℕ → ℕ
reserved_in option = word_of option % 4
