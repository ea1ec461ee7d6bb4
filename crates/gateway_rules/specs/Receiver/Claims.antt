-- What is claimed of a receiver beyond the contracts: which refusal is given, when a request is answered, and that the response reads back
-- as what was reported. Ranges are the paper's numbers. Assumes nothing.
use Rattle.std.specs.Prelude.{ℕ, ◌+◌, ◌/◌, ◌%◌, ◌≤◌, ◌<◌, min, List, ◌⊎◌, ◌≡◌, length, get_or}
use Rattle.std.specs.Prelude.{None, Some}
use Rattle.common.specs.Lists.{Bytes}
use Rattle.refusals.specs.Reply.{Reply, answer, refuse}
use Rattle.wire_rules.specs.declared.Request.{Request}
use Rattle.wire_rules.specs.declared.Response.{Response}
use Rattle.wire_rules.specs.Options.Wire.{high_half, reserved_in}
use Rattle.wire_rules.specs.Options.Responses.{response_read}
use Rattle.wire_rules.specs.Ipv4.Packets.{located}
use Rattle.wire_rules.specs.Ipv4.Views.{view}
use Rattle.wire_rules.specs.Ipv4.Claims.{SameHeader}
use Rattle.gateway_rules.specs.Receiver.Reports.{Report, unanswered, reported, received, response_after, reaction_in}
use Rattle.gateway_rules.specs.declared.Reaction.TheVariants.{Unanswered, Answered}

-- a receiver: by how far the total length may reach, its ceiling and the bytes of the response buffer, what it reports of a packet
abbrev pub Receiver : Type 0
Receiver = ℕ → ℕ → ℕ → List ℕ → Reply Report

-- "ceilings 0 to 15", "option buffers exactly 8 bytes"
pub record Given (ceiling room : ℕ) : Type 0 where
  pub ceiling_high : ceiling ≤ 15
  pub room_is : room ≡ 8

-- a response that is reported of a request: "the lesser of rate and ceiling", the TTL Diff, "and the nonce as it came"
pub record Reports (r : Request) (ttl ceiling : ℕ) (response : Response) : Type 0 where
  pub least : response.rate ≡ min r.rate ceiling
  pub diff_byte : response.ttl_diff < 256
  pub diff_is : (response.ttl_diff + r.qs_ttl) % 256 ≡ ttl
  pub nonce_is : response.nonce ≡ r.nonce

pub record Receiving (receiver : Receiver) : Type 0 where
  -- "7, 1, 2, then 3 and 5 as met, then 4": no option, or an option of another function
  pub seven : (reach ceiling room : ℕ) (packet : List ℕ) → (Given ceiling room → ⊥) → receiver reach ceiling room packet ≡ refuse 7
  pub faulty : (reach ceiling room n : ℕ) (packet : List ℕ) → Given ceiling room → located reach packet ≡ refuse n → receiver reach ceiling room packet ≡ refuse n
  pub no_option : (reach ceiling room : ℕ) (packet : List ℕ) → Given ceiling room → located reach packet ≡ answer None → receiver reach ceiling room packet ≡ refuse 4
  pub other_function : (reach ceiling room place : ℕ) (packet : List ℕ) → Given ceiling room → located reach packet ≡ answer (Some place) → (get_or packet (place + 2) 0 / 16 ≡ 0 → ⊥)
      → receiver reach ceiling room packet ≡ refuse 4
  -- "If 0, it is "unanswered"": for a request of rate 0, or at ceiling 0, and for no other, whatever IP TTL and QS TTL are
  pub silent : (reach ceiling room ttl : ℕ) (packet : List ℕ) (r : Request) → Given ceiling room → view reach packet ≡ answer (record { ttl = ttl; request = Some r })
      → (r.rate ≡ 0) ⊎ (ceiling ≡ 0) → receiver reach ceiling room packet ≡ answer unanswered
  pub answers : (reach ceiling room ttl : ℕ) (packet : List ℕ) (r : Request) → Bytes packet → Given ceiling room → view reach packet ≡ answer (record { ttl = ttl; request = Some r })
      → 1 ≤ r.rate → 1 ≤ ceiling → (response : Response) × Reports r ttl ceiling response × (receiver reach ceiling room packet ≡ answer (reported response))

-- what the response buffer holds afterwards
pub record Responding : Type 0 where
  -- a refusal or silence writes nothing
  pub refused : (n : ℕ) (old : List ℕ) → response_after old (refuse n) ≡ old
  pub unwritten : (old : List ℕ) → response_after old (answer unanswered) ≡ old
  -- what was reported reads back, in eight bytes whose reserved bits are 0
  pub reads : (reach ceiling : ℕ) (packet old : List ℕ) (response : Response) → Bytes packet → received reach ceiling (length old) packet ≡ answer (reported response)
      → response_read (response_after old (received reach ceiling (length old) packet)) ≡ answer response
  pub reserved : (reach ceiling : ℕ) (packet old : List ℕ) (response : Response) → Bytes packet → received reach ceiling (length old) packet ≡ answer (reported response)
      → (high_half (response_after old (received reach ceiling (length old) packet)) ≡ 0) × (reserved_in (response_after old (received reach ceiling (length old) packet)) ≡ 0)

-- what an answer says of a report
pub record Saying : Type 0 where
  pub answered : (r : Response) → reaction_in (answer (reported r)) ≡ answer Answered
  pub silent : reaction_in (answer unanswered) ≡ answer Unanswered
  pub refused : (n : ℕ) → reaction_in (refuse n) ≡ refuse n

-- ours has them
abbrev pub ReceivingTheorem : Type 0
ReceivingTheorem = Receiving received

-- whatever receiver has these reports what ours does, of every packet of bytes
abbrev pub ReceivingOnly : Type 0
ReceivingOnly = (receiver : Receiver) → Receiving receiver → (reach ceiling room : ℕ) (packet : List ℕ) → Bytes packet → receiver reach ceiling room packet ≡ received reach ceiling room packet

-- no byte behind the header is read: of two packets that differ there alone the same is reported
abbrev pub BehindHeader : Type 0
BehindHeader = (reach ceiling room : ℕ) (p q : List ℕ) → SameHeader p q → received reach ceiling room q ≡ received reach ceiling room p
