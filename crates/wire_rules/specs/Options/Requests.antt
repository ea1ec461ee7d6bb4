-- A request read, written and rewritten (document 01, "Bytes on the wire" and the table of refusals). Assumes nothing.
use Rattle.std.specs.Prelude.{ℕ, Bool, ◌&&◌, List, eqb, length}
use Rattle.common.specs.Choice.{pick}
use Rattle.refusals.specs.Reply.{Reply, answer, refuse}
use Rattle.wire_rules.specs.declared.Request.{Request}
use Rattle.wire_rules.specs.Options.Wire.{option_length, fields_fit, option_bytes, option_written, kind_in, length_in, high_half, rate_in, ttl_in, nonce_in, reserved_in}

-- the IPv4 option's type
abbrev pub request_kind : ℕ
request_kind = 25

-- "type 25, length 8, function 0"
unfoldable pub is_request : List ℕ → Bool
is_request option = eqb (kind_in option) request_kind && eqb (length_in option) option_length && eqb (high_half option) 0

-- 7 for a buffer of another length, then 4 where "an option buffer read as one isn't type 25, length 8, function 0"; reserved bits are
-- "ignored when read"
abbrev pub request_read : List ℕ → Reply Request
request_read option =
    pick (eqb (length option) option_length)
    (pick (is_request option)
    (answer (record { rate = rate_in option; qs_ttl = ttl_in option; nonce = nonce_in option }))
    (refuse 4))
    (refuse 7)

-- "25, 8, one byte (high half the function, low half the rate code), QS TTL, then a 32-bit big-endian word"; of a request the function is 0
abbrev pub request_written : List ℕ → ℕ → ℕ → ℕ → Reply (List ℕ)
request_written option rate ttl nonce = option_written request_kind option rate ttl nonce

-- "left by routers": a request rewritten in place keeps its reserved bits; 7 as for a write, then 4 where there is no request to rewrite
abbrev pub request_rewritten : List ℕ → ℕ → ℕ → ℕ → Reply (List ℕ)
request_rewritten option rate ttl nonce =
    pick (fields_fit (length option) rate nonce)
    (pick (is_request option) (answer (option_bytes request_kind rate ttl nonce (reserved_in option))) (refuse 4))
    (refuse 7)
