-- A response read and written (document 01, "Bytes on the wire" and the table of refusals). Assumes nothing.
use Rattle.std.specs.Prelude.{ℕ, ◌+◌, ◌-◌, ◌%◌, Bool, ◌&&◌, List, eqb, length}
use Rattle.common.specs.Choice.{pick}
use Rattle.refusals.specs.Reply.{Reply, answer, refuse}
use Rattle.wire_rules.specs.declared.Response.{Response}
use Rattle.wire_rules.specs.Options.Wire.{option_length, option_written, kind_in, length_in, rate_in, ttl_in, nonce_in}

-- "TTL Diff = (IP TTL - QS TTL) modulo 256", of two bytes
unfoldable pub ttl_diff : ℕ → ℕ → ℕ
ttl_diff ttl qs = (ttl + 256 - qs) % 256

-- the TCP option's kind
abbrev pub response_kind : ℕ
response_kind = 27

-- "kind 27, length 8"
unfoldable pub is_response : List ℕ → Bool
is_response option = eqb (kind_in option) response_kind && eqb (length_in option) option_length

-- 7 for a buffer of another length, then 12 for a "response not of kind 27, length 8"; reserved bits are "ignored when read"
abbrev pub response_read : List ℕ → Reply Response
response_read option =
    pick (eqb (length option) option_length)
    (pick (is_response option)
    (answer (record { rate = rate_in option; ttl_diff = ttl_in option; nonce = nonce_in option }))
    (refuse 12))
    (refuse 7)

-- "27, 8, one byte (high half reserved, low half the code), TTL Diff, the same kind of word"
abbrev pub response_written : List ℕ → ℕ → ℕ → ℕ → Reply (List ℕ)
response_written option rate diff nonce = option_written response_kind option rate diff nonce
