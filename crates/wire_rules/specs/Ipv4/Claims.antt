-- What is claimed of packets beyond the contracts: the checksum, what is read of a packet, the view, forwarding and marking. It speaks of
-- the definitions that the contracts cite; places in a packet are RFC 791's numbers: 1 is the second byte, 8 IP TTL, 10 and 11 the
-- checksum, 20 the first byte of the options. Assumes nothing.
use Rattle.std.specs.Prelude.{ℕ, suc, ◌+◌, ◌-◌, ◌*◌, ◌/◌, ◌%◌, ◌≤◌, ◌<◌, Bool, true, false, ◌&&◌, List, [], ◌∷◌, ◌⊎◌, ◌≡◌, leb, length, get_or, set}
use Rattle.std.specs.Prelude.{Option, None, Some}
use Rattle.wire_rules.specs.Walk.Walks.{Place}
use Rattle.common.specs.Lists.{Bytes}
use Rattle.refusals.specs.Reply.{Reply, answer, refuse, leaves, done}
use Rattle.wire_rules.specs.Rates.Steps.{top_code}
use Rattle.wire_rules.specs.declared.Request.{Request}
use Rattle.wire_rules.specs.Options.Wire.{nonce_limit, reserved_in}
use Rattle.wire_rules.specs.Walk.Claims.{Holds, Clear, Faulty}
use Rattle.wire_rules.specs.Ipv4.Headers.{word_at, header_length, total_length, checksum_in, header_of, options_of}
use Rattle.wire_rules.specs.Ipv4.Checksums.{ones_sum, checksum_of, sealed}
use Rattle.wire_rules.specs.Ipv4.Checks.{well_formed, header_checked}
use Rattle.wire_rules.specs.Ipv4.Packets.{ttl_reply, walked, located, sealed_reply, passed_on, forwarded}
use Rattle.wire_rules.specs.Ipv4.Marks.{mark_reply, marked_packet}
use Rattle.wire_rules.specs.declared.Marking.{Marking}
use Rattle.wire_rules.specs.declared.Marking.TheVariants.{Marked, Dropped}
use Rattle.wire_rules.specs.Ipv4.Views.{View, option_at, view, put_request, put}

-- ---- the checksum

-- the plain sum of a list's 16-bit words, nothing folded
unfoldable pub word_total : List ℕ → ℕ
word_total [] = 0
word_total (high ∷ []) = high * 256
word_total (high ∷ low ∷ rest) = high * 256 + low + word_total rest

-- addition with end-around carry is addition modulo 65,535, where a sum of words that are not all 0 comes to 65,535 and not to 0
pub record Summing : Type 0 where
  pub limit : (bytes : List ℕ) → Bytes bytes → ones_sum bytes ≤ 65535
  pub remainder : (bytes : List ℕ) → Bytes bytes → ones_sum bytes % 65535 ≡ word_total bytes % 65535
  pub zero : (bytes : List ℕ) → Bytes bytes → word_total bytes ≡ 0 → ones_sum bytes ≡ 0
  pub only_zero : (bytes : List ℕ) → Bytes bytes → ones_sum bytes ≡ 0 → word_total bytes ≡ 0

-- a place outside the checksum's field
abbrev pub OutsideChecksum : ℕ → Type 0
OutsideChecksum i = (i ≡ 10 → ⊥) × (i ≡ 11 → ⊥)

-- the checksums that a header may carry: the one that sealing writes and, where that is 0, all ones
abbrev pub ValidChecksum : List ℕ → Type 0
ValidChecksum packet = (checksum_in packet ≡ checksum_of (header_of packet)) ⊎ ((checksum_in packet ≡ 65535) × (checksum_of (header_of packet) ≡ 0))

pub record Sealing : Type 0 where
  -- a sealed header passes the check
  pub sum : (reach : ℕ) (packet : List ℕ) → Bytes packet → well_formed reach packet ≡ true → ones_sum (header_of (sealed packet)) ≡ 65535
  pub passes : (reach : ℕ) (packet : List ℕ) → Bytes packet → well_formed reach packet ≡ true → header_checked reach (sealed packet) ≡ answer (header_length packet)
  -- sealing changes the checksum alone, and a second time nothing
  pub others : (packet : List ℕ) (i : ℕ) → OutsideChecksum i → get_or (sealed packet) i 0 ≡ get_or packet i 0
  pub long : (packet : List ℕ) → length (sealed packet) ≡ length packet
  pub bytes : (packet : List ℕ) → Bytes packet → Bytes (sealed packet)
  pub again : (reach : ℕ) (packet : List ℕ) → well_formed reach packet ≡ true → sealed (sealed packet) ≡ sealed packet
  -- writing it answers the sealed packet where the header is well formed, and 1 where it is not
  pub writes : (reach : ℕ) (packet : List ℕ) → well_formed reach packet ≡ true → sealed_reply reach packet ≡ answer (sealed packet)
  pub one : (reach : ℕ) (packet : List ℕ) → well_formed reach packet ≡ false → sealed_reply reach packet ≡ refuse 1
  -- "The one's complement sum of its 16-bit words, folded, is 65,535": then it passes, and else it gives 2
  pub right : (reach : ℕ) (packet : List ℕ) → well_formed reach packet ≡ true → ones_sum (header_of packet) ≡ 65535 → header_checked reach packet ≡ answer (header_length packet)
  pub wrong : (reach : ℕ) (packet : List ℕ) → well_formed reach packet ≡ true → (ones_sum (header_of packet) ≡ 65535 → ⊥) → header_checked reach packet ≡ refuse 2
  -- "the complement of the folded sum with its own field zero", and sealing writes that one
  pub complement : (header : List ℕ) → checksum_of header ≡ 65535 - ones_sum (set (set header 10 0) 11 0)
  pub field_is : (reach : ℕ) (packet : List ℕ) → well_formed reach packet ≡ true → checksum_in (sealed packet) ≡ checksum_of (header_of packet)
  -- which checksums pass
  pub valid : (reach h : ℕ) (packet : List ℕ) → Bytes packet → header_checked reach packet ≡ answer h → ValidChecksum packet
  pub accepted : (reach : ℕ) (packet : List ℕ) → Bytes packet → well_formed reach packet ≡ true → ValidChecksum packet → header_checked reach packet ≡ answer (header_length packet)

-- ---- what is read of a packet

-- a well-formed header, by RFC 791's places: version and length field in byte 0, the total length in bytes 2 and 3
pub record HeaderForm (reach : ℕ) (packet : List ℕ) : Type 0 where
  pub long : 20 ≤ length packet
  pub version : get_or packet 0 0 / 16 ≡ 4
  pub words : 5 ≤ get_or packet 0 0 % 16
  pub inside : header_length packet ≤ length packet
  pub total_low : header_length packet ≤ get_or packet 2 0 * 256 + get_or packet 3 0
  pub total_high : get_or packet 2 0 * 256 + get_or packet 3 0 ≤ reach

pub record Reading : Type 0 where
  -- the header's length, and exactly when a header is well formed
  pub header_length_lem : (packet : List ℕ) → header_length packet ≡ get_or packet 0 0 % 16 * 4
  pub well_formed_lem : (reach : ℕ) (packet : List ℕ) → well_formed reach packet ≡ true → HeaderForm reach packet
  pub form_suffices : (reach : ℕ) (packet : List ℕ) → HeaderForm reach packet → well_formed reach packet ≡ true
  -- 1 where it is not, then 2 where the checksum is none that passes
  pub malformed : (reach : ℕ) (packet : List ℕ) → well_formed reach packet ≡ false → header_checked reach packet ≡ refuse 1
  pub damaged : (reach : ℕ) (packet : List ℕ) → Bytes packet → well_formed reach packet ≡ true → (ValidChecksum packet → ⊥) → header_checked reach packet ≡ refuse 2
  -- the IP TTL, or 1
  pub ttl_read : (reach : ℕ) (packet : List ℕ) → well_formed reach packet ≡ true → ttl_reply reach packet ≡ answer (get_or packet 8 0)
  pub ttl_refused : (reach : ℕ) (packet : List ℕ) → well_formed reach packet ≡ false → ttl_reply reach packet ≡ refuse 1
  -- the header: so many bytes from the first on; and the options area: those of it from byte 20 on
  pub header_long : (reach : ℕ) (packet : List ℕ) → well_formed reach packet ≡ true → length (header_of packet) ≡ get_or packet 0 0 % 16 * 4
  pub header_at : (packet : List ℕ) (i : ℕ) → i < get_or packet 0 0 % 16 * 4 → get_or (header_of packet) i 0 ≡ get_or packet i 0
  pub area_long : (reach : ℕ) (packet : List ℕ) → well_formed reach packet ≡ true → length (options_of packet) ≡ header_length packet - 20
  pub area_at : (packet : List ℕ) (i : ℕ) → 20 + i < header_length packet → get_or (options_of packet) i 0 ≡ get_or packet (20 + i) 0
  -- the total length may reach as far as is said, and that is all that the reach is for
  pub reach_only : (reach : ℕ) (packet : List ℕ) → well_formed reach packet ≡ (well_formed (total_length packet) packet && leb (total_length packet) reach)
  -- bytes behind the header are not read: the header of a well-formed packet is by itself answered alike, and passed on alike
  pub checked_alike : (reach : ℕ) (packet : List ℕ) → well_formed reach packet ≡ true → header_checked reach (header_of packet) ≡ header_checked reach packet
  pub located_alike : (reach : ℕ) (packet : List ℕ) → well_formed reach packet ≡ true → located reach (header_of packet) ≡ located reach packet
  pub passed_alike : (reach : ℕ) (packet new : List ℕ) → passed_on reach packet ≡ answer new → passed_on reach (header_of packet) ≡ answer (header_of new)

-- an option that is located is of type 25 and length 8, and lies wholly in the header, behind its first 20 bytes
pub record Inside (place : ℕ) (packet : List ℕ) : Type 0 where
  pub behind : 20 ≤ place
  pub room : place + 8 ≤ header_length packet
  pub header : header_length packet ≤ length packet
  pub kind : get_or packet place 0 ≡ 25
  pub len : get_or packet (suc place) 0 ≡ 8

pub record Locating : Type 0 where
  pub inside : (reach place : ℕ) (packet : List ℕ) → located reach packet ≡ answer (Some place) → Inside place packet
  -- what the check refuses is refused; of any other packet the options area says what is located
  pub refused : (reach n : ℕ) (packet : List ℕ) → header_checked reach packet ≡ refuse n → located reach packet ≡ refuse n
  pub complete : (reach h offset : ℕ) (packet : List ℕ) → header_checked reach packet ≡ answer h → Holds offset (options_of packet) → located reach packet ≡ answer (Some (20 + offset))
  pub none_complete : (reach h : ℕ) (packet : List ℕ) → header_checked reach packet ≡ answer h → Clear (options_of packet) → located reach packet ≡ answer None
  pub fault_complete : (reach h n : ℕ) (packet : List ℕ) → header_checked reach packet ≡ answer h → Faulty n (options_of packet) → located reach packet ≡ refuse n
  -- and what is located is there
  pub sound : (reach place : ℕ) (packet : List ℕ) → located reach packet ≡ answer (Some place) → (offset : ℕ) × (place ≡ 20 + offset) × Holds offset (options_of packet)
  pub none_sound : (reach : ℕ) (packet : List ℕ) → located reach packet ≡ answer None → Clear (options_of packet)
  pub fault_sound : (reach n : ℕ) (packet : List ℕ) → located reach packet ≡ refuse n → (header_checked reach packet ≡ refuse n) ⊎ Faulty n (options_of packet)

-- ---- the view

-- the nonce of an option in a packet: the upper 30 of its last 32 bits
abbrev pub nonce_at : ℕ → List ℕ → ℕ
nonce_at place packet = (word_at packet (place + 4) * 65536 + word_at packet (place + 6)) / 4

-- numbers that can be written into a packet
pub record RequestFits (r : Request) : Type 0 where
  pub rate_fits : r.rate ≤ top_code
  pub ttl_fits : r.qs_ttl < 256
  pub nonce_fits : r.nonce < nonce_limit

abbrev pub FitsWhere : Option Request → Type 0
FitsWhere None = Unit {0}
FitsWhere (Some r) = RequestFits r

pub record Fits (v : View) : Type 0 where
  pub ttl_small : v.ttl < 256
  pub request_fits : FitsWhere v.request

-- whether there is a request
abbrev pub asks : Option Request → Bool
asks None = false
asks (Some r) = true

-- a place outside the six bytes behind the length of the option, if a request is written there
abbrev pub OutsideRequest : Place → Option Request → ℕ → Type 0
OutsideRequest (Some place) (Some r) i = (i < place + 2) ⊎ (place + 8 ≤ i)
OutsideRequest (Some place) None i = Unit {0}
OutsideRequest None request i = Unit {0}

-- what putting a view leaves of a packet without fault, whose option is at `place`
pub record Changed (reach : ℕ) (packet : List ℕ) (place : Place) (new : View) : Type 0 where
  -- what was put is what is viewed
  pub viewed : view reach (put packet new) ≡ answer new
  -- put keeps the place and the faultlessness
  pub located_still : located reach (put packet new) ≡ answer place
  -- and every other byte; it is a packet of bytes as long as it was, and sealed
  pub others : (i : ℕ) → (i ≡ 8 → ⊥) → OutsideChecksum i → OutsideRequest place new.request i → get_or (put packet new) i 0 ≡ get_or packet i 0
  pub long : length (put packet new) ≡ length packet
  pub bytes : Bytes (put packet new)
  pub sealed_still : sealed (put packet new) ≡ put packet new
  -- reserved bits are "left by routers"
  pub reserved : (o : ℕ) → place ≡ Some o → reserved_in (option_at o (put packet new)) ≡ reserved_in (option_at o packet)

pub record Viewing : Type 0 where
  -- what a view shows: IP TTL and, of an option with function 0, its fields; of another option, or where there is none, no request; of a
  -- faulty packet, the refusal
  pub shows : (reach place : ℕ) (packet : List ℕ) → located reach packet ≡ answer (Some place) → get_or packet (place + 2) 0 / 16 ≡ 0
      → view reach packet ≡ answer (record {
        ttl = get_or packet 8 0;
        request = Some (record { rate = get_or packet (place + 2) 0 % 16; qs_ttl = get_or packet (place + 3) 0; nonce = nonce_at place packet });
      })
  pub shows_other : (reach place : ℕ) (packet : List ℕ) → located reach packet ≡ answer (Some place) → (get_or packet (place + 2) 0 / 16 ≡ 0 → ⊥)
      → view reach packet ≡ answer (record { ttl = get_or packet 8 0; request = None })
  pub shows_none : (reach : ℕ) (packet : List ℕ) → located reach packet ≡ answer None → view reach packet ≡ answer (record { ttl = get_or packet 8 0; request = None })
  pub refused : (reach n : ℕ) (packet : List ℕ) → located reach packet ≡ refuse n → view reach packet ≡ refuse n
  -- these are numbers that can be written
  pub fits : (reach : ℕ) (packet : List ℕ) (v : View) → Bytes packet → view reach packet ≡ answer v → Fits v
  -- another view that asks where the old one does, and does not where it does not, can be put
  pub changes : (reach : ℕ) (packet : List ℕ) (place : Place) (old new : View) → Bytes packet
      → located reach packet ≡ answer place → view reach packet ≡ answer old → Fits new → asks old.request ≡ asks new.request
      → Changed reach packet place new
  -- put of the view is the packet again when its checksum is the one that sealing writes, and differs in the two checksum bytes alone
  -- otherwise
  pub same : (reach : ℕ) (packet : List ℕ) (v : View) → Bytes packet → view reach packet ≡ answer v
      → checksum_in packet ≡ checksum_of (header_of packet) → put packet v ≡ packet
  pub otherwise : (reach : ℕ) (packet : List ℕ) (v : View) → Bytes packet → view reach packet ≡ answer v → put packet v ≡ sealed packet

-- ---- forwarding and marking

pub record Forwarding : Type 0 where
  -- a request rewritten in its place and the packet then passed on: that is putting the view with that request and the IP TTL one lower
  pub puts : (reach : ℕ) (packet : List ℕ) (place : Place) (v : View) (request : Option Request) → Bytes packet
      → located reach packet ≡ answer place → view reach packet ≡ answer v → FitsWhere request → asks v.request ≡ asks request → 1 < v.ttl
      → passed_on reach (put_request place request packet) ≡ answer (put packet (record { ttl = v.ttl - 1; request = request }))
  -- a packet forwarded as it came: its view with the IP TTL one lower
  pub puts_back : (reach : ℕ) (packet : List ℕ) (v : View) → Bytes packet → view reach packet ≡ answer v → 1 < v.ttl
      → forwarded reach packet ≡ answer (put packet (record { ttl = v.ttl - 1; request = v.request }))
  -- 1 for a header that is not well formed, then 6 for an IP TTL of 0 or 1; a packet that came with a wrong header is not forwarded, and
  -- any other is passed on, whatever its options are
  pub malformed : (reach : ℕ) (packet : List ℕ) → well_formed reach packet ≡ false → passed_on reach packet ≡ refuse 1
  pub accepted : (reach : ℕ) (packet : List ℕ) → well_formed reach packet ≡ true → 1 < get_or packet 8 0 → (new : List ℕ) × (passed_on reach packet ≡ answer new)
  pub expired : (reach : ℕ) (packet : List ℕ) → well_formed reach packet ≡ true → get_or packet 8 0 ≤ 1 → passed_on reach packet ≡ refuse 6
  pub not_forwarded : (reach n : ℕ) (packet : List ℕ) → header_checked reach packet ≡ refuse n → forwarded reach packet ≡ refuse n
  pub forwarded_by : (reach h : ℕ) (packet : List ℕ) → header_checked reach packet ≡ answer h → forwarded reach packet ≡ passed_on reach packet
  -- whatever the options are: the IP TTL is one lower, no byte changes but it and the checksum, the header passes the check, and the
  -- options are as they were
  pub lowered : (reach : ℕ) (packet new : List ℕ) → passed_on reach packet ≡ answer new → get_or new 8 0 + 1 ≡ get_or packet 8 0
  pub others : (reach : ℕ) (packet new : List ℕ) → passed_on reach packet ≡ answer new → (i : ℕ) → (i ≡ 8 → ⊥) → OutsideChecksum i → get_or new i 0 ≡ get_or packet i 0
  pub long : (reach : ℕ) (packet new : List ℕ) → passed_on reach packet ≡ answer new → length new ≡ length packet
  pub bytes : (reach : ℕ) (packet new : List ℕ) → Bytes packet → passed_on reach packet ≡ answer new → Bytes new
  pub passes : (reach : ℕ) (packet new : List ℕ) → Bytes packet → passed_on reach packet ≡ answer new → header_checked reach new ≡ answer (header_length packet)
  pub written : (reach : ℕ) (packet new : List ℕ) → passed_on reach packet ≡ answer new → sealed new ≡ new
  pub options_still : (reach : ℕ) (packet new : List ℕ) → Bytes packet → passed_on reach packet ≡ answer new → located reach new ≡ walked packet

-- a marking, by what it answers of a packet and the packet that it leaves
pub record EcnMarking (reply : List ℕ → Reply Marking) (left : List ℕ → List ℕ) : Type 0 where
  -- by the two bits: 00 and 01 have ECT clear, 10 and 11 have it set
  pub dropped_when : (h : ℕ) (packet : List ℕ) → header_checked (length packet) packet ≡ answer h → get_or packet 1 0 % 4 < 2 → reply packet ≡ answer Dropped
  pub marked_when : (h : ℕ) (packet : List ℕ) → header_checked (length packet) packet ≡ answer h → 2 ≤ get_or packet 1 0 % 4 → reply packet ≡ answer Marked
  pub refused_when : (n : ℕ) (packet : List ℕ) → header_checked (length packet) packet ≡ refuse n → reply packet ≡ refuse n
  -- no byte changes where the packet is to be dropped, or is refused
  pub dropped_same : (packet : List ℕ) → reply packet ≡ answer Dropped → left packet ≡ packet
  pub refused_same : (n : ℕ) (packet : List ℕ) → reply packet ≡ refuse n → left packet ≡ packet
  -- marking changes no byte but the second and the checksum
  pub others : (packet : List ℕ) (i : ℕ) → (i ≡ 1 → ⊥) → OutsideChecksum i → get_or (left packet) i 0 ≡ get_or packet i 0
  pub long : (packet : List ℕ) → length (left packet) ≡ length packet
  -- of the second byte it sets both ECN bits, and keeps the other six
  pub bits : (packet : List ℕ) → reply packet ≡ answer Marked → (get_or (left packet) 1 0 % 4 ≡ 3) × (get_or (left packet) 1 0 / 4 ≡ get_or packet 1 0 / 4)
  -- "sets CE and the checksum": the checksum is the one that sealing writes, where CE was set before, too
  pub written : (packet : List ℕ) → reply packet ≡ answer Marked → sealed (left packet) ≡ left packet

-- ours has them, and whatever marks so is ours, in its answer and byte by byte
abbrev pub MarkingTheorem : Type 0
MarkingTheorem = EcnMarking mark_reply marked_packet

abbrev pub MarkingOnly : Type 0
MarkingOnly = (reply : List ℕ → Reply Marking) (left : List ℕ → List ℕ) → EcnMarking reply left → (packet : List ℕ) → (reply packet ≡ mark_reply packet) × (left packet ≡ marked_packet packet)

-- what follows for ours
pub record MarkedStill : Type 0 where
  pub bytes : (packet : List ℕ) → Bytes packet → Bytes (marked_packet packet)
  -- marking twice is marking once, in the answer and in the packet
  pub twice : (packet : List ℕ) → Bytes packet → (mark_reply (marked_packet packet) ≡ mark_reply packet) × (marked_packet (marked_packet packet) ≡ marked_packet packet)
  -- a marked packet passes the check as it did before, and its option and its view are what they were
  pub passes : (packet : List ℕ) → Bytes packet → header_checked (length packet) (marked_packet packet) ≡ header_checked (length packet) packet
  pub located_still : (packet : List ℕ) → Bytes packet → located (length packet) (marked_packet packet) ≡ located (length packet) packet
  pub viewed_still : (packet : List ℕ) → Bytes packet → view (length packet) (marked_packet packet) ≡ view (length packet) packet

-- ---- what stands behind the header

-- two packets of one length that differ at most behind the header
pub record SameHeader (p q : List ℕ) : Type 0 where
  pub long : length q ≡ length p
  pub header : header_of q ≡ header_of p

-- the header is as long as it was, and behind it stands what stood there
pub record KeptBehind (packet new : List ℕ) : Type 0 where
  pub size : header_length new ≡ header_length packet
  pub bytes : (i : ℕ) → header_length packet ≤ i → get_or new i 0 ≡ get_or packet i 0

-- what a call leaves of two such packets, `new` of `p` and `other` of `q`
pub record LeftAlike (p q new other : List ℕ) : Type 0 where
  pub same_header : SameHeader new other
  pub kept : KeptBehind p new
  pub other_kept : KeptBehind q other

-- what a call that forwards replies to two such packets
abbrev pub Alike : List ℕ → List ℕ → Reply (List ℕ) → Reply (List ℕ) → Type 0
Alike p q x y = (done y ≡ done x) × LeftAlike p q (leaves p x) (leaves q y)

-- no byte behind the header is read or changed
pub record BehindHeader : Type 0 where
  pub checks : (reach : ℕ) (p q : List ℕ) → SameHeader p q → header_checked reach q ≡ header_checked reach p
  pub locates : (reach : ℕ) (p q : List ℕ) → SameHeader p q → located reach q ≡ located reach p
  pub views : (reach : ℕ) (p q : List ℕ) → SameHeader p q → view reach q ≡ view reach p
  pub forwards : (reach : ℕ) (p q : List ℕ) → SameHeader p q → Alike p q (forwarded reach p) (forwarded reach q)
  pub marks : (p q : List ℕ) → SameHeader p q → (mark_reply q ≡ mark_reply p) × LeftAlike p q (marked_packet p) (marked_packet q)
