-- What is claimed of the program's input and its line: which inputs spell a run, where a bad one breaks, that no more than so many bytes
-- need be read, and what the line says of a path and tells of the input. Kinds, lengths and ranges are the paper's numbers. Assumes
-- nothing.
use Rattle.std.specs.Prelude.{ℕ, ◌+◌, ◌-◌, ◌*◌, ◌/◌, ◌≤◌, ◌<◌, List, [], ◌∷◌, ◌++◌, ◌⊎◌, ◌≡◌, length, take}
use Rattle.common.specs.Lists.{Bytes}
use Rattle.wire_rules.specs.Options.Wire.{word_bytes}
use Rattle.path_rules.specs.declared.Router.{Router}
use Rattle.path_rules.specs.Hops.Summaries.{summary_of}
use Rattle.path_rules.specs.Hops.Verdicts.{Verdict, lost, unanswered, not_accepted, accepted, verdict_of}
use Rattle.path_rules.specs.Hops.Claims.{Spells, RoutersInRange, spelled}
use Rattle.path_rules.specs.Path.Runs.{path_calls}
use Rattle.path_rules.specs.Path.Demands.{Setting, verdict_by}
use Rattle.path_rules.specs.Path.Claims.{Demanded}
use Rattle.path_rules.specs.Plan.Records.{Plan, Reading, good, bad, read_plan}
use Rattle.path_rules.specs.Plan.Lines.{decimal, verdict_line, bad_line, line_of}

-- ---- what spells a run

-- "1 request (code, IP TTL, QS TTL, word: 7 bytes)", "A code is 1 to 15 .., and IP TTL is not 0": the word's upper 30 bits are the nonce,
-- and its two lowest are anything
pub record SpellsRequest (code ttl qs nonce : ℕ) (bytes : List ℕ) : Type 0 where
  pub a : ℕ
  pub b : ℕ
  pub c : ℕ
  pub d : ℕ
  pub code_low : 1 ≤ code
  pub code_high : code ≤ 15
  pub ttl_low : 1 ≤ ttl
  pub nonce_is : (a * 16777216 + b * 65536 + c * 256 + d) / 4 ≡ nonce
  pub bytes_are : bytes ≡ 1 ∷ code ∷ ttl ∷ qs ∷ a ∷ b ∷ c ∷ d ∷ []

-- "4 receiver (ceiling: 1)", "a ceiling at most 15"
pub record SpellsReceiver (ceiling : ℕ) (bytes : List ℕ) : Type 0 where
  pub ceiling_high : ceiling ≤ 15
  pub bytes_are : bytes ≡ 4 ∷ ceiling ∷ []

-- a request and routers, at most `limit` of them; the plan's ceiling takes no part
pub record SpellsFront (limit : ℕ) (p : Plan) (bytes : List ℕ) : Type 0 where
  pub request : List ℕ
  pub row : List ℕ
  pub request_is : SpellsRequest p.code p.ttl p.qs p.nonce request
  pub row_is : Spells p.routers row
  pub few : length p.routers ≤ limit
  pub whole : bytes ≡ request ++ row

-- "One run is a 1, up to 64 of 2 and 3, and a 4"
pub record SpellsRun (limit : ℕ) (p : Plan) (bytes : List ℕ) : Type 0 where
  pub front : List ℕ
  pub receiver : List ℕ
  pub front_is : SpellsFront limit p front
  pub receiver_is : SpellsReceiver p.ceiling receiver
  pub whole : bytes ≡ front ++ receiver

-- the ranges of a run's numbers: a code and ceilings as told above, IP TTL and QS TTL bytes, and nonces of 30 bits
pub record PlanInRange (limit : ℕ) (p : Plan) : Type 0 where
  pub code_low : 1 ≤ p.code
  pub code_high : p.code ≤ 15
  pub ttl_low : 1 ≤ p.ttl
  pub ttl_high : p.ttl ≤ 255
  pub qs_byte : p.qs < 256
  pub nonce_high : p.nonce < 1073741824
  pub routers_in : RoutersInRange p.routers
  pub few : length p.routers ≤ limit
  pub ceiling_high : p.ceiling ≤ 15

-- a spelling of a run, with reserved bits of 0
abbrev pub spelled_run : Plan → List ℕ
spelled_run p =
    (1 ∷ p.code ∷ p.ttl ∷ p.qs ∷ word_bytes p.nonce 0)
    ++ (spelled p.routers ++ (4 ∷ p.ceiling ∷ []))

-- every run in range can be spelled, in bytes; and what bytes spell is in range
pub record Spelling : Type 0 where
  pub written : (limit : ℕ) (p : Plan) → PlanInRange limit p → SpellsRun limit p (spelled_run p) × Bytes (spelled_run p)
  pub in_range_lem : (limit : ℕ) (p : Plan) (input : List ℕ) → Bytes input → SpellsRun limit p input → PlanInRange limit p

-- ---- where a bad input breaks

-- no record of this kind, whole and in range, starts the bytes
abbrev pub NoRequest : List ℕ → Type 0
NoRequest bytes = (code ttl qs nonce : ℕ) (own more : List ℕ) → SpellsRequest code ttl qs nonce own → bytes ≡ own ++ more → ⊥

abbrev pub NoRouter : List ℕ → Type 0
NoRouter bytes = (router : Router) (own more : List ℕ) → Spells (router ∷ []) own → bytes ≡ own ++ more → ⊥

abbrev pub NoReceiver : List ℕ → Type 0
NoReceiver bytes = (ceiling : ℕ) (own more : List ℕ) → SpellsReceiver ceiling own → bytes ≡ own ++ more → ⊥

-- good records in their order, and behind them bytes that no allowed record starts: a request first; then routers up to the limit, or the
-- receiver; then the end
pub data Breaks (limit : ℕ) : List ℕ → List ℕ → Type 0 where
  at_request : (rest : List ℕ) → NoRequest rest → Breaks limit [] rest
  at_hop : (p : Plan) (front rest : List ℕ) → SpellsFront limit p front → NoReceiver rest → (length p.routers ≡ limit) ⊎ NoRouter rest → Breaks limit front rest
  at_end : (p : Plan) (front rest : List ℕ) → SpellsRun limit p front → (rest ≡ [] → ⊥) → Breaks limit front rest

-- "the offset of the first record that breaks this": so many bytes stand before it
pub record BadAt (limit : ℕ) (input : List ℕ) (at : ℕ) : Type 0 where
  pub front : List ℕ
  pub rest : List ℕ
  pub whole : input ≡ front ++ rest
  pub offset : length front ≡ at
  pub breaks : Breaks limit front rest

-- an input is a run exactly when it spells one, which it then is read as; and bad at an offset exactly when it breaks there
pub record Format (read : ℕ → List ℕ → Reading) : Type 0 where
  pub reads : (limit : ℕ) (p : Plan) (input : List ℕ) → SpellsRun limit p input → read limit input ≡ good p
  pub only : (limit : ℕ) (p : Plan) (input : List ℕ) → read limit input ≡ good p → SpellsRun limit p input
  pub breaks : (limit at : ℕ) (input : List ℕ) → BadAt limit input at → read limit input ≡ bad at
  pub only_breaks : (limit at : ℕ) (input : List ℕ) → read limit input ≡ bad at → BadAt limit input at

abbrev pub FormatTheorem : Type 0
FormatTheorem = Format read_plan

-- whatever reader has these is ours
abbrev pub FormatOnly : Type 0
FormatOnly = (read : ℕ → List ℕ → Reading) → Format read → (limit : ℕ) (input : List ℕ) → read limit input ≡ read_plan limit input

-- ---- how much need be read

-- the longest run has 8 bytes, 6 for each router and 2; one byte more tells an input that is longer, and what stands behind it takes no
-- part
pub record Enough : Type 0 where
  pub longest : (limit : ℕ) (p : Plan) (input : List ℕ) → read_plan limit input ≡ good p → length input ≤ 6 * limit + 10
  pub furthest : (limit at : ℕ) (input : List ℕ) → read_plan limit input ≡ bad at → at ≤ 6 * limit + 10
  pub front : (limit n : ℕ) (input : List ℕ) → 6 * limit + 11 ≤ n → line_of limit (take n input) ≡ line_of limit input

-- ---- the line

-- the value of decimal digits, one after the other
abbrev pub value_from : ℕ → List ℕ → ℕ
value_from n [] = n
value_from n (digit ∷ rest) = value_from (n * 10 + (digit - 48)) rest

abbrev pub Digits : List ℕ → Type 0
Digits [] = Unit {0}
Digits (digit ∷ rest) = (48 ≤ digit) × (digit ≤ 57) × Digits rest

-- no digit 0 in front, but for the number 0
abbrev pub NoZeroFirst : List ℕ → Type 0
NoZeroFirst [] = ⊥
NoZeroFirst (digit ∷ []) = Unit {0}
NoZeroFirst (digit ∷ more ∷ rest) = digit ≡ 48 → ⊥

-- a verdict whose number has at most four digits
abbrev pub Short : Verdict → Type 0
Short lost = Unit {0}
Short unanswered = Unit {0}
Short (not_accepted n) = n < 10000
Short (accepted rate) = rate < 10000

pub record Line : Type 0 where
  -- numbers are written in decimal
  pub digits : (n : ℕ) → n < 10000 → Digits (decimal n) × NoZeroFirst (decimal n) × (value_from 0 (decimal n) ≡ n)
  -- `bad AT`, before all else; up to 1664 routers AT has at most four digits
  pub bad_at : (limit at : ℕ) (input : List ℕ) → limit ≤ 1664 → read_plan limit input ≡ bad at
      → (line_of limit input ≡ (98 ∷ 97 ∷ 100 ∷ 32 ∷ []) ++ (decimal at ++ (10 ∷ []))) × (at < 10000)
  -- for a good input it is the verdict of the path: of every run of demand 3 with these numbers, on whatever connection, packet, T, MSS and
  -- H
  pub of_run : (limit : ℕ) (p : Plan) (input : List ℕ) (g : Setting) → Bytes input → read_plan limit input ≡ good p → Demanded path_calls g → g.routers ≡ p.routers
      → g.wish.ttl ≡ p.ttl → g.wish.code ≡ p.code → g.ceiling ≡ p.ceiling → line_of limit input ≡ verdict_line (verdict_by path_calls g)
  -- and there is such a run
  pub some_run : (limit : ℕ) (p : Plan) (input : List ℕ) → Bytes input → read_plan limit input ≡ good p
      → (g : Setting) × Demanded path_calls g × (g.routers ≡ p.routers) × (g.wish.ttl ≡ p.ttl) × (g.wish.code ≡ p.code) × (g.wish.qs_ttl ≡ p.qs) × (g.wish.nonce ≡ p.nonce) × (g.ceiling ≡ p.ceiling)
  -- the verdict is that of the summary
  pub of_summary : (limit : ℕ) (p : Plan) (input : List ℕ) → Bytes input → read_plan limit input ≡ good p
      → line_of limit input ≡ verdict_line (verdict_of (summary_of p.routers) p.ttl p.code p.ceiling)
  -- so a good input's line is one of these: no rate above 15, and no refusal but 14
  pub says : (limit : ℕ) (p : Plan) (input : List ℕ) → Bytes input → read_plan limit input ≡ good p
      → (line_of limit input ≡ verdict_line lost)
      ⊎ (line_of limit input ≡ verdict_line unanswered)
      ⊎ (line_of limit input ≡ verdict_line (not_accepted 14))
      ⊎ ((rate : ℕ) × (1 ≤ rate) × (rate ≤ 15) × (line_of limit input ≡ verdict_line (accepted rate)))
  -- and a line tells what it says: where it is `bad AT`, the input is bad at AT; and no two verdicts have one line
  pub tells_bad : (limit at : ℕ) (input : List ℕ) → limit ≤ 1664 → at < 10000 → line_of limit input ≡ bad_line at → read_plan limit input ≡ bad at
  pub tells : (v v' : Verdict) → Short v → Short v' → verdict_line v ≡ verdict_line v' → v ≡ v'
  -- no line is longer than 16 bytes
  pub short : (limit : ℕ) (input : List ℕ) → length (line_of limit input) ≤ 16
  -- the words, in ASCII: "rate N", "lost", "unanswered", "none R"
  pub rate_line : (rate : ℕ) → verdict_line (accepted rate) ≡ (114 ∷ 97 ∷ 116 ∷ 101 ∷ 32 ∷ []) ++ (decimal rate ++ (10 ∷ []))
  pub lost_line : verdict_line lost ≡ 108 ∷ 111 ∷ 115 ∷ 116 ∷ 10 ∷ []
  pub unanswered_line : verdict_line unanswered ≡ 117 ∷ 110 ∷ 97 ∷ 110 ∷ 115 ∷ 119 ∷ 101 ∷ 114 ∷ 101 ∷ 100 ∷ 10 ∷ []
  pub none_line : (n : ℕ) → verdict_line (not_accepted n) ≡ (110 ∷ 111 ∷ 110 ∷ 101 ∷ 32 ∷ []) ++ (decimal n ++ (10 ∷ []))
