-- The nonce's fields, a lowering and the comparison (document 01, "Bytes on the wire", "Router, receiver, sender"). Assumes nothing.
use Rattle.std.specs.Prelude.{ℕ, ◌+◌, ◌-◌, ◌*◌, ◌/◌, ◌%◌, ◌^◌, Bool, ◌&&◌, leb, ltb, eqb}
use Rattle.common.specs.Choice.{pick}
use Rattle.wire_rules.specs.Rates.Steps.{top_code}
use Rattle.refusals.specs.Reply.{Reply, answer, refuse}
use Rattle.wire_rules.specs.Options.Wire.{nonce_limit}

-- "a two-bit field for each lowering, 15 to 14 in the highest bits down to 1 to 0 in the lowest": the field of the lowering from `code`, 1
-- or more, to `code` - 1
unfoldable pub field_of : ℕ → ℕ → ℕ
field_of code nonce = nonce / 4 ^ (code - 1) % 4

-- "the fields up to code K are the nonce modulo 4 to the K"
unfoldable pub fields_up_to : ℕ → ℕ → ℕ
fields_up_to code nonce = nonce % 4 ^ code

-- "the fields between the new and the old rate take the fresh nonce's bits; the rest stay": above the old rate, between the two, and up to
-- the new rate
unfoldable pub lowered : ℕ → ℕ → ℕ → ℕ → ℕ
lowered old new nonce fresh =
    pick (ltb new old)
    (nonce / 4 ^ old * 4 ^ old + (fresh % 4 ^ old / 4 ^ new * 4 ^ new + nonce % 4 ^ new))
    nonce

-- codes above 15 and nonces of 2^30 or more give 7
abbrev pub lowered_reply : ℕ → ℕ → ℕ → ℕ → Reply ℕ
lowered_reply old new nonce fresh =
    pick (leb old top_code && leb new top_code && ltb nonce nonce_limit && ltb fresh nonce_limit)
    (answer (lowered old new nonce fresh))
    (refuse 7)

-- "both nonces agree modulo 4 to that rate"
unfoldable pub agree : ℕ → ℕ → ℕ → Bool
agree code a b = eqb (fields_up_to code a) (fields_up_to code b)

abbrev pub agree_reply : ℕ → ℕ → ℕ → Reply Bool
agree_reply code a b =
    pick (leb code top_code && ltb a nonce_limit && ltb b nonce_limit)
    (answer (agree code a b))
    (refuse 7)
