-- What is claimed of options and nonces beyond the contracts: what was written reads back, what a lowering keeps, and which refusal is
-- given. It speaks of the definitions that the contracts cite, and of a nonce's single fields. Assumes nothing.
use Rattle.std.specs.Prelude.{ℕ, ◌+◌, ◌*◌, ◌/◌, ◌%◌, ◌^◌, ◌≤◌, ◌<◌, true, List, ◌≡◌, length, get_or}
use Rattle.common.specs.Lists.{Bytes}
use Rattle.refusals.specs.Reply.{answer, refuse}
use Rattle.wire_rules.specs.Rates.Steps.{top_code}
use Rattle.wire_rules.specs.declared.Request.{Request}
use Rattle.wire_rules.specs.declared.Response.{Response}
use Rattle.wire_rules.specs.Options.Wire.{option_length, nonce_limit, top_ttl, option_bytes, high_half, reserved_in}
use Rattle.wire_rules.specs.Options.Requests.{request_kind, request_read, request_written, request_rewritten}
use Rattle.wire_rules.specs.Options.Responses.{ttl_diff, response_kind, response_read, response_written}
use Rattle.wire_rules.specs.Options.Nonces.{field_of, fields_up_to, lowered, lowered_reply, agree, agree_reply}

-- `old` is the buffer before a write, and `new` the eight bytes that an accepted write leaves
pub record RequestRoundTrip : Type 0 where
  -- a write in range is accepted, and so is a rewriting in range of what reads as a request
  pub accepted : (old : List ℕ) (rate ttl nonce : ℕ) → length old ≡ option_length → rate ≤ top_code → nonce < nonce_limit
      → (new : List ℕ) × (request_written old rate ttl nonce ≡ answer new)
  pub rewriting_accepted : (old : List ℕ) (r : Request) (rate ttl nonce : ℕ) → request_read old ≡ answer r → rate ≤ top_code → nonce < nonce_limit
      → (new : List ℕ) × (request_rewritten old rate ttl nonce ≡ answer new)
  -- what was written, or rewritten, reads back as what was meant
  pub written : (old new : List ℕ) (rate ttl nonce : ℕ) → request_written old rate ttl nonce ≡ answer new
      → request_read new ≡ answer (record { rate = rate; qs_ttl = ttl; nonce = nonce })
  pub rewritten : (old new : List ℕ) (rate ttl nonce : ℕ) → request_rewritten old rate ttl nonce ≡ answer new
      → request_read new ≡ answer (record { rate = rate; qs_ttl = ttl; nonce = nonce })
  -- a write leaves the reserved bits 0, and a rewriting leaves them as they came
  pub written_reserved : (old new : List ℕ) (rate ttl nonce : ℕ) → request_written old rate ttl nonce ≡ answer new → reserved_in new ≡ 0
  pub rewritten_reserved : (old new : List ℕ) (rate ttl nonce : ℕ) → request_rewritten old rate ttl nonce ≡ answer new → reserved_in new ≡ reserved_in old
  -- a request read and written again has the same eight bytes when its reserved bits are 0; read and rewritten, it has them in any case
  pub again : (option : List ℕ) (r : Request) → Bytes option → request_read option ≡ answer r → reserved_in option ≡ 0
      → request_written option r.rate r.qs_ttl r.nonce ≡ answer option
  pub kept : (option : List ℕ) (r : Request) → Bytes option → request_read option ≡ answer r
      → request_rewritten option r.rate r.qs_ttl r.nonce ≡ answer option
  -- whatever the reserved bits are, the same is read
  pub ignored : (rate ttl nonce reserved : ℕ) → rate ≤ top_code → reserved < 4
      → request_read (option_bytes request_kind rate ttl nonce reserved) ≡ answer (record { rate = rate; qs_ttl = ttl; nonce = nonce })

-- the same of a response; there the high half of the rate's byte is reserved too
pub record ResponseRoundTrip : Type 0 where
  pub accepted : (old : List ℕ) (rate diff nonce : ℕ) → length old ≡ option_length → rate ≤ top_code → nonce < nonce_limit
      → (new : List ℕ) × (response_written old rate diff nonce ≡ answer new)
  pub written : (old new : List ℕ) (rate diff nonce : ℕ) → response_written old rate diff nonce ≡ answer new
      → response_read new ≡ answer (record { rate = rate; ttl_diff = diff; nonce = nonce })
  pub written_reserved : (old new : List ℕ) (rate diff nonce : ℕ) → response_written old rate diff nonce ≡ answer new → (high_half new ≡ 0) × (reserved_in new ≡ 0)
  pub again : (option : List ℕ) (r : Response) → Bytes option → response_read option ≡ answer r → high_half option ≡ 0 → reserved_in option ≡ 0
      → response_written option r.rate r.ttl_diff r.nonce ≡ answer option
  pub ignored : (high rate diff nonce reserved : ℕ) → rate ≤ top_code → reserved < 4
      → response_read (option_bytes response_kind (high * 16 + rate) diff nonce reserved) ≡ answer (record { rate = rate; ttl_diff = diff; nonce = nonce })

-- "(IP TTL - QS TTL) modulo 256", of two bytes: the one byte that gives IP TTL again when QS TTL is added to it
pub record TtlDiffs : Type 0 where
  -- "starting IP TTL 1 to 255": the greatest byte
  pub top : top_ttl ≡ 255
  pub byte : (ttl qs : ℕ) → ttl_diff ttl qs < 256
  pub rule : (ttl qs : ℕ) → ttl < 256 → qs < 256 → (ttl_diff ttl qs + qs) % 256 ≡ ttl
  pub only : (ttl qs diff : ℕ) → ttl < 256 → qs < 256 → diff < 256 → (diff + qs) % 256 ≡ ttl → diff ≡ ttl_diff ttl qs

-- what a lowering from `old` to `new` leaves of a nonce: up to the new code, between the two, and above the old one
pub record Kept (old new nonce fresh after : ℕ) : Type 0 where
  pub low : fields_up_to new after ≡ fields_up_to new nonce
  pub between : (code : ℕ) → new < code → code ≤ old → field_of code after ≡ field_of code fresh
  pub above : (code : ℕ) → old < code → field_of code after ≡ field_of code nonce

pub record Lowering : Type 0 where
  pub keeps : (old new nonce fresh : ℕ) → new ≤ old → Kept old new nonce fresh (lowered old new nonce fresh)
  -- and that says all there is to say of it
  pub only : (old new nonce fresh after : ℕ) → new ≤ old → Kept old new nonce fresh after → after ≡ lowered old new nonce fresh
  -- a new code that is not below the old one refreshes nothing
  pub not_below : (old new nonce fresh : ℕ) → old ≤ new → lowered old new nonce fresh ≡ nonce
  -- it is a nonce again
  pub in_range_lem : (old new nonce fresh : ℕ) → old ≤ top_code → nonce < nonce_limit → lowered old new nonce fresh < nonce_limit
  -- two steps keep what one step keeps: they are one step, whose fresh nonce is the two steps' fresh nonces joined at the code between
  pub two_steps : (old mid new nonce fresh fresher : ℕ) → new ≤ mid → mid ≤ old
      → lowered mid new (lowered old mid nonce fresh) fresher ≡ lowered old new nonce (lowered mid new fresh fresher)

pub record Agreeing : Type 0 where
  -- two nonces agree up to a code exactly when they have each field up to that code in common
  pub fields : (code a b : ℕ) → agree code a b ≡ true → (k : ℕ) → 1 ≤ k → k ≤ code → field_of k a ≡ field_of k b
  pub whole : (code a b : ℕ) → ((k : ℕ) → 1 ≤ k → k ≤ code → field_of k a ≡ field_of k b) → agree code a b ≡ true
  -- an honest lowering is no disagreement
  pub honest : (old new nonce fresh : ℕ) → new ≤ old → agree new nonce (lowered old new nonce fresh) ≡ true

-- ---- which refusal is given, in the paper's numbers

-- "type 25, length 8, function 0", and "kind 27, length 8"
pub record IsRequest (option : List ℕ) : Type 0 where
  pub kind_is : get_or option 0 0 ≡ 25
  pub length_is : get_or option 1 0 ≡ 8
  pub function_is : get_or option 2 0 / 16 ≡ 0

pub record IsResponse (option : List ℕ) : Type 0 where
  pub kind_is : get_or option 0 0 ≡ 27
  pub length_is : get_or option 1 0 ≡ 8

-- "option buffers exactly 8 bytes", "codes written or read .. 0 to 15", "nonces below 2^30"
pub record Writable (room rate nonce : ℕ) : Type 0 where
  pub room_is : room ≡ 8
  pub rate_high : rate ≤ 15
  pub nonce_high : nonce < 2 ^ 30

-- 7 before all else, then 4 or 12
pub record Refusing : Type 0 where
  pub read_seven : (option : List ℕ) → (length option ≡ 8 → ⊥) → request_read option ≡ refuse 7
  pub read_four : (option : List ℕ) → length option ≡ 8 → (IsRequest option → ⊥) → request_read option ≡ refuse 4
  pub response_seven : (option : List ℕ) → (length option ≡ 8 → ⊥) → response_read option ≡ refuse 7
  pub response_twelve : (option : List ℕ) → length option ≡ 8 → (IsResponse option → ⊥) → response_read option ≡ refuse 12
  pub write_seven : (old : List ℕ) (rate ttl nonce : ℕ) → (Writable (length old) rate nonce → ⊥) → request_written old rate ttl nonce ≡ refuse 7
  pub response_write_seven : (old : List ℕ) (rate diff nonce : ℕ) → (Writable (length old) rate nonce → ⊥) → response_written old rate diff nonce ≡ refuse 7
  pub rewrite_seven : (old : List ℕ) (rate ttl nonce : ℕ) → (Writable (length old) rate nonce → ⊥) → request_rewritten old rate ttl nonce ≡ refuse 7
  pub rewrite_four : (old : List ℕ) (rate ttl nonce : ℕ) → Writable (length old) rate nonce → (IsRequest old → ⊥) → request_rewritten old rate ttl nonce ≡ refuse 4
  pub lower : (old new nonce fresh : ℕ) → old ≤ 15 → new ≤ 15 → nonce < 2 ^ 30 → fresh < 2 ^ 30 → lowered_reply old new nonce fresh ≡ answer (lowered old new nonce fresh)
  pub lower_seven : (old new nonce fresh : ℕ) → ((old ≤ 15) × (new ≤ 15) × (nonce < 2 ^ 30) × (fresh < 2 ^ 30) → ⊥) → lowered_reply old new nonce fresh ≡ refuse 7
  pub compare : (code a b : ℕ) → code ≤ 15 → a < 2 ^ 30 → b < 2 ^ 30 → agree_reply code a b ≡ answer (agree code a b)
  pub compare_seven : (code a b : ℕ) → ((code ≤ 15) × (a < 2 ^ 30) × (b < 2 ^ 30) → ⊥) → agree_reply code a b ≡ refuse 7

-- ---- byte by byte, in the paper's numbers

-- "a 32-bit big-endian word": the last four bytes of an option
abbrev pub big_endian : List ℕ → ℕ
big_endian option = get_or option 4 0 * 16777216 + get_or option 5 0 * 65536 + get_or option 6 0 * 256 + get_or option 7 0

-- eight bytes: the kind, 8, the rate code under four bits of 0, the TTL's byte, and the word; they are bytes where the TTL is one
pub record Bytewise (kind rate ttl word : ℕ) (option : List ℕ) : Type 0 where
  pub long : length option ≡ 8
  pub kind_is : get_or option 0 0 ≡ kind
  pub length_is : get_or option 1 0 ≡ 8
  pub rate_is : get_or option 2 0 ≡ rate
  pub ttl_is : get_or option 3 0 ≡ ttl
  pub word_is : big_endian option ≡ word
  pub bytes : ttl < 256 → Bytes option

-- "25, 8, one byte (high half the function, low half the rate code), QS TTL, then a 32-bit big-endian word: 30 bits of nonce above 2
-- reserved bits"; "27, 8, one byte (high half reserved, low half the code), TTL Diff, the same kind of word"
pub record Layout : Type 0 where
  pub request_read_lem : (option : List ℕ) → length option ≡ 8 → IsRequest option
      → request_read option ≡ answer (record { rate = get_or option 2 0 % 16; qs_ttl = get_or option 3 0; nonce = big_endian option / 4 })
  pub response_read_lem : (option : List ℕ) → length option ≡ 8 → IsResponse option
      → response_read option ≡ answer (record { rate = get_or option 2 0 % 16; ttl_diff = get_or option 3 0; nonce = big_endian option / 4 })
  pub request_written_lem : (old new : List ℕ) (rate ttl nonce : ℕ) → request_written old rate ttl nonce ≡ answer new → Bytewise 25 rate ttl (nonce * 4) new
  pub response_written_lem : (old new : List ℕ) (rate diff nonce : ℕ) → response_written old rate diff nonce ≡ answer new → Bytewise 27 rate diff (nonce * 4) new
  -- "left by routers": the two lowest bits of the word stay
  pub request_rewritten_lem : (old new : List ℕ) (rate ttl nonce : ℕ) → request_rewritten old rate ttl nonce ≡ answer new → Bytewise 25 rate ttl (nonce * 4 + big_endian old % 4) new

-- "a two-bit field for each lowering, 15 to 14 in the highest bits down to 1 to 0 in the lowest"; "the fields up to code K are the nonce
-- modulo 4 to the K"
pub record Fields : Type 0 where
  pub highest : (nonce : ℕ) → nonce < 2 ^ 30 → field_of 15 nonce ≡ nonce / 2 ^ 28
  pub lowest : (nonce : ℕ) → field_of 1 nonce ≡ nonce % 4
  pub next : (code nonce : ℕ) → 1 ≤ code → field_of (code + 1) nonce ≡ field_of code (nonce / 4)
  pub up_to : (code nonce : ℕ) → fields_up_to code nonce ≡ nonce % 4 ^ code
