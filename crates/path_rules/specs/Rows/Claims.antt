-- What is claimed of rows of hop records beyond the contracts: which rows are read and as which routers, that they agree with rows as
-- bytes, demand 3 of the calls over them, and what the calls for C answer. Ranges are the paper's numbers. Assumes nothing.
use Rattle.std.specs.Prelude.{ℕ, ◌+◌, ◌≤◌, ◌<◌, true, false, ◌⊎◌, ◌≡◌, length}
use mathlib.Core.List.{List, [], ◌∷◌, ◌++◌, Permᴰ}
use Rattle.common.specs.Lists.{Bytes}
use Rattle.refusals.specs.Reply.{Reply, answer, refuse, and_then, Outcome, refusing}
use Rattle.wire_rules.specs.Options.Responses.{ttl_diff}
use Rattle.wire_rules.specs.Ipv4.Claims.{SameHeader}
use Rattle.sender_rules.specs.declared.State.TheVariants.{Asked}
use Rattle.sender_rules.specs.declared.Connection.{Connection}
use Rattle.sender_rules.specs.Connections.Claims.{InRange}
use Rattle.wire_rules.specs.declared.Transport.{Transport}
use Rattle.path_rules.specs.declared.Router.{Router}
use Rattle.path_rules.specs.declared.Router.TheVariants.{Knowing, Silent}
use Rattle.path_rules.specs.declared.Summary.{Summary}
use Rattle.path_rules.specs.Hops.Rows.{row_of}
use Rattle.path_rules.specs.Hops.Summaries.{summary_of, summary_reply, join_reply}
use Rattle.path_rules.specs.Hops.Verdicts.{Verdict, lost, unanswered, not_accepted, accepted, verdict_reply}
use Rattle.path_rules.specs.Hops.Claims.{Spells, RoutersInRange, spelled}
use Rattle.path_rules.specs.Path.Runs.{path_calls, Journey, journey, run_call}
use Rattle.path_rules.specs.Path.Demands.{Setting, verdict_by}
use Rattle.path_rules.specs.Path.Claims.{Demanded, Passable, least_along, AlikeRuns}
use Rattle.path_rules.specs.Path.OwnSender.{own_transport}
use Rattle.path_rules.specs.declared.Hop.{Hop}
use Rattle.path_rules.specs.Rows.Rows.{routers_of, hops_row, hops_summary, hops_call}
use Rattle.path_rules.specs.Rows.Results.{summary_lent, summary_result, open_for, verdict_result}

-- ---- rows

-- "given a ceiling 0 to 15 and a fresh nonce 0 to 2^30 - 1", whether it knows Quick-Start or not
pub record HopInRange (hop : Hop) : Type 0 where
  pub ceiling_high : hop.ceiling ≤ 15
  pub fresh_high : hop.fresh < 1073741824

abbrev pub HopsInRange : List Hop → Type 0
HopsInRange [] = Unit {0}
HopsInRange (hop ∷ rest) = HopInRange hop × HopsInRange rest

abbrev pub knowing_hop : ℕ → ℕ → Hop
knowing_hop ceiling fresh = record { knows = true; ceiling = ceiling; fresh = fresh }

abbrev pub silent_hop : ℕ → ℕ → Hop
silent_hop ceiling fresh = record { knows = false; ceiling = ceiling; fresh = fresh }

pub record HopRows : Type 0 where
  -- which routers a row stands for
  pub nobody : routers_of [] ≡ []
  pub knowing : (ceiling fresh : ℕ) (rest : List Hop) → routers_of (knowing_hop ceiling fresh ∷ rest) ≡ Knowing ceiling fresh ∷ routers_of rest
  pub silent : (ceiling fresh : ℕ) (rest : List Hop) → routers_of (silent_hop ceiling fresh ∷ rest) ≡ Silent ∷ routers_of rest
  -- "hop rows .. 0 to 64", and each hop in range; anything else gives 7
  pub reads : (limit : ℕ) (hops : List Hop) → length hops ≤ limit → HopsInRange hops → hops_row limit hops ≡ answer (routers_of hops)
  pub seven : (limit : ℕ) (hops : List Hop) → ((length hops ≤ limit) × HopsInRange hops → ⊥) → hops_row limit hops ≡ refuse 7
  -- a row in range stands for routers in range, and every list of these has such a row
  pub in_range_lem : (hops : List Hop) → HopsInRange hops → RoutersInRange (routers_of hops)
  pub some_row : (routers : List Router) → RoutersInRange routers → (hops : List Hop) × HopsInRange hops × (routers_of hops ≡ routers)

-- ---- the two forms agree

-- a row of hops in range and the bytes that spell it, of any length
pub record Agreeing : Type 0 where
  pub row : (limit : ℕ) (hops : List Hop) (bytes : List ℕ) → HopsInRange hops → Spells (routers_of hops) bytes → hops_row limit hops ≡ row_of limit bytes
  pub summary : (limit : ℕ) (hops : List Hop) (bytes : List ℕ) → HopsInRange hops → Spells (routers_of hops) bytes → hops_summary limit hops ≡ summary_reply limit bytes
  -- the run says the same verdict or refusal, and leaves the same packet and record
  pub run : (limit : ℕ) (hops : List Hop) (bytes : List ℕ) → HopsInRange hops → Spells (routers_of hops) bytes → (c : Connection) (packet : List ℕ) (ceiling : ℕ) (t : Transport)
      → hops_call limit c packet hops ceiling t ≡ run_call limit c packet bytes ceiling t
  -- and there are such bytes
  pub bytes : (hops : List Hop) → HopsInRange hops → Spells (routers_of hops) (spelled (routers_of hops)) × Bytes (spelled (routers_of hops))

-- ---- the calls

abbrev pub HopSum : Type 0
HopSum = List Hop → Reply Summary

abbrev pub HopRun : Type 0
HopRun = Connection → List ℕ → List Hop → ℕ → Transport → Outcome Verdict Journey

-- 7 for more than 64 hops or a number out of range, or else the summary of its routers
pub record HopSumming (sum : HopSum) : Type 0 where
  pub seven : (hops : List Hop) → ((length hops ≤ 64) × HopsInRange hops → ⊥) → sum hops ≡ refuse 7
  pub sums : (hops : List Hop) → length hops ≤ 64 → HopsInRange hops → sum hops ≡ answer (summary_of (routers_of hops))

-- 7 for more than 64 hops or a number out of range, with packet and record as they were; or else the run over whatever bytes spell it
pub record HopRunning (run : HopRun) : Type 0 where
  pub seven : (c : Connection) (packet : List ℕ) (hops : List Hop) (ceiling : ℕ) (t : Transport) → ((length hops ≤ 64) × HopsInRange hops → ⊥)
      → run c packet hops ceiling t ≡ refusing 7 (journey packet c)
  pub runs : (c : Connection) (packet : List ℕ) (hops : List Hop) (bytes : List ℕ) (ceiling : ℕ) (t : Transport) → length hops ≤ 64 → HopsInRange hops → Spells (routers_of hops) bytes
      → run c packet hops ceiling t ≡ run_call 64 c packet bytes ceiling t

-- ours have these, and whatever has them is ours
pub record HopCalls : Type 0 where
  pub summing : HopSumming (hops_summary 64)
  pub summing_only : (sum : HopSum) → HopSumming sum → (hops : List Hop) → sum hops ≡ hops_summary 64 hops
  pub running : HopRunning (hops_call 64)
  pub running_only : (run : HopRun) → HopRunning run → (c : Connection) (packet : List ℕ) (hops : List Hop) (ceiling : ℕ) (t : Transport)
      → run c packet hops ceiling t ≡ hops_call 64 c packet hops ceiling t

-- ---- demand 3 of the calls over a row of hops

-- a path in parts, put together two by two in any bracketing; a part may be empty
pub data HopCut : Type 0 where
  part : List Hop → HopCut
  both : HopCut → HopCut → HopCut

abbrev pub whole_hops : HopCut → List Hop
whole_hops (part hops) = hops
whole_hops (both a b) = whole_hops a ++ whole_hops b

-- each part summed up, and what two calls answered joined
abbrev pub summed_hops : HopSum → HopCut → Reply Summary
summed_hops sum (part hops) = sum hops
summed_hops sum (both a b) = and_then (summed_hops sum a) (λ x. and_then (summed_hops sum b) (λ y. join_reply x y))

-- a setting of demand 3 whose routers are lent as this row, within the limit of the calls
pub record Lent (g : Setting) (hops : List Hop) : Type 0 where
  pub demanded : Demanded path_calls g
  pub row_is : routers_of hops ≡ g.routers
  pub hops_in : HopsInRange hops
  pub few : length hops ≤ 64

-- what the call says over a row
abbrev pub said_over : HopRun → Setting → List Hop → Reply Verdict
said_over run g hops = (run g.waiting g.packet hops g.ceiling g.transport).said

pub record OnHops (sum : HopSum) (run : HopRun) : Type 0 where
  -- a run of demand 3 is not refused, and says its verdict
  pub verdict : (g : Setting) (hops : List Hop) → Lent g hops → said_over run g hops ≡ answer (verdict_by path_calls g)
  -- "a sender asking for step 1 to 15 accepts exactly when .. The rate is then the least of the request and all ceilings."
  pub accepts : (g : Setting) (hops : List Hop) → Lent g hops → Passable g → said_over run g hops ≡ answer (accepted (least_along g.wish.code g.routers g.ceiling))
  pub only : (g : Setting) (hops : List Hop) → Lent g hops → (rate : ℕ) → said_over run g hops ≡ answer (accepted rate)
      → Passable g × (rate ≡ least_along g.wish.code g.routers g.ceiling)
  -- "At whichever places the path is cut": the parts summed up and joined by the calls, and judged, say what the run over the whole row
  -- says
  pub cutting : (g : Setting) (cut : HopCut) → Lent g (whole_hops cut)
      → and_then (summed_hops sum cut) (λ s. verdict_reply s g.wish.ttl g.wish.code g.ceiling) ≡ said_over run g (whole_hops cut)
  -- "So does every order of the same routers", each with its own nonce
  pub order : (g h : Setting) (x y : List Hop) → Lent g x → Lent h y → Permᴰ g.routers h.routers → g.wish.ttl ≡ h.wish.ttl → g.wish.code ≡ h.wish.code → g.ceiling ≡ h.ceiling
      → said_over run g x ≡ said_over run h y

abbrev pub HopLaw : Type 0
HopLaw = OnHops (hops_summary 64) (hops_call 64)

-- ---- calls that are shut out

-- the row without its last hop
abbrev pub but_last : List Hop → List Hop
but_last [] = []
but_last (hop ∷ []) = []
but_last (hop ∷ next ∷ rest) = hop ∷ but_last (next ∷ rest)

-- every hop taken for one that knows Quick-Start
abbrev pub all_knowing : List Hop → List Hop
all_knowing [] = []
all_knowing (hop ∷ rest) = knowing_hop hop.ceiling hop.fresh ∷ all_knowing rest

-- the first hop only
abbrev pub first_hop : List Hop → List Hop
first_hop [] = []
first_hop (hop ∷ rest) = hop ∷ []

-- every fresh nonce taken for 0
abbrev pub no_fresh : List Hop → List Hop
no_fresh [] = []
no_fresh (hop ∷ rest) = record { knows = hop.knows; ceiling = hop.ceiling; fresh = 0 } ∷ no_fresh rest

-- ours on another row than the one lent
abbrev pub sum_on : (List Hop → List Hop) → HopSum
sum_on other hops = hops_summary 64 (other hops)

abbrev pub run_on : (List Hop → List Hop) → HopRun
run_on other c packet hops ceiling t = hops_call 64 c packet (other hops) ceiling t

-- demand 3 is false with such a run, whatever sums up beside it, and with such a sum, whatever runs beside it
pub record ShutOutBy (other : List Hop → List Hop) : Type 0 where
  pub run : (sum : HopSum) → OnHops sum (run_on other) → ⊥
  pub sum : (run : HopRun) → OnHops (sum_on other) run → ⊥

pub record HopShutOut : Type 0 where
  -- a row whose last hop is not looked at; a silent hop taken for a knowing one; "a path walk that asks the first router and lets the
  -- others pass"
  pub last_left_out : ShutOutBy but_last
  pub silent_as_knowing : ShutOutBy all_knowing
  pub first_only_lem : ShutOutBy first_hop
  -- no verdict shows a fresh nonce, but the packet that is left does
  pub fresh_left_out : HopRunning (run_on no_fresh) → ⊥

-- ---- the calls for C

-- each number, and the three that are written
pub record Numbered : Type 0 where
  pub is_lost : verdict_result (answer lost) ≡ 42
  pub not_answered : verdict_result (answer unanswered) ≡ 40
  pub not_accepted_lem : (n : ℕ) → verdict_result (answer (not_accepted n)) ≡ 200 + n
  pub is_accepted : (rate : ℕ) → rate ≤ 15 → verdict_result (answer (accepted rate)) ≡ 100 + rate
  pub not_run : (n : ℕ) → verdict_result (refuse n) ≡ n
  pub summed : summary_result (answer tt) ≡ 0
  pub not_summed : (n : ℕ) → summary_result (refuse n) ≡ n
  pub three : (a b c : ℕ) (s : Summary) → summary_lent (a ∷ b ∷ c ∷ []) (answer s) ≡ answer (s.routers ∷ s.silent ∷ s.least ∷ [])
  pub no_summary : (a b c n : ℕ) → summary_lent (a ∷ b ∷ c ∷ []) (refuse n) ≡ refuse n
  pub other_buffer : (numbers : List ℕ) (reply : Reply Summary) → (length numbers ≡ 3 → ⊥) → summary_lent numbers reply ≡ refuse 7

-- the refusals of a run: 1 to 5 and 7; and 11, for a record that waits for no response
abbrev pub Refusable : ℕ → Type 0
Refusable n = ((1 ≤ n) × (n ≤ 5)) ⊎ (n ≡ 7)

abbrev pub RefusableOr11 : ℕ → Type 0
RefusableOr11 n = Refusable n ⊎ (n ≡ 11)

-- what a run can answer: a refusal that is one of these; lost, unanswered, the sender's own 13, 14 or 15, or a rate
abbrev pub CanBe : (ℕ → Type 0) → Reply Verdict → Type 0
CanBe Refusal (refuse n) = Refusal n
CanBe Refusal (answer lost) = Unit {0}
CanBe Refusal (answer unanswered) = Unit {0}
CanBe Refusal (answer (not_accepted n)) = (13 ≤ n) × (n ≤ 15)
CanBe Refusal (answer (accepted rate)) = (1 ≤ rate) × (rate ≤ 15)

pub record ForC : Type 0 where
  -- every run over a packet of bytes answers one of these, and no two of them have the same number; over the record that is made for C
  -- there is no 11
  pub can_be : (c : Connection) (packet : List ℕ) (hops : List Hop) (ceiling : ℕ) (t : Transport) → Bytes packet → CanBe RefusableOr11 (hops_call 64 c packet hops ceiling t).said
  pub never_11 : (code diff nonce : ℕ) (packet : List ℕ) (hops : List Hop) (ceiling : ℕ) (t : Transport) → Bytes packet
      → CanBe Refusable (hops_call 64 (open_for code diff nonce) packet hops ceiling t).said
  pub apart : (a b : Reply Verdict) → CanBe RefusableOr11 a → CanBe RefusableOr11 b → verdict_result a ≡ verdict_result b → a ≡ b
  -- of a row in range the run over the record that is made for C says demand 3's verdict: its window, T, MSS and H do not matter
  pub law : (g : Setting) (hops : List Hop) → Lent g hops
      → (hops_call 64 (open_for g.wish.code (ttl_diff g.wish.ttl g.wish.qs_ttl) g.wish.nonce) g.packet hops g.ceiling own_transport).said ≡ answer (verdict_by path_calls g)
  -- no byte behind the header is read or changed
  pub header_only_lem : (c : Connection) (p q : List ℕ) (hops : List Hop) (ceiling : ℕ) (t : Transport) → SameHeader p q
      → AlikeRuns p q (hops_call 64 c p hops ceiling t) (hops_call 64 c q hops ceiling t)
  -- that record waits for the response to the request that is told, and is in range exactly when the request is: "a code asked .. 1 to
  -- 15", a nonce below 2^30
  pub own_state : (code diff nonce : ℕ) → (open_for code diff nonce).state ≡ Asked (record { code = code; ttl_diff = diff; nonce = nonce })
  pub own_in : (code diff nonce : ℕ) → 1 ≤ code → code ≤ 15 → nonce < 1073741824 → InRange (open_for code diff nonce)
  pub own_only : (code diff nonce : ℕ) → InRange (open_for code diff nonce) → (1 ≤ code) × (code ≤ 15) × (nonce < 1073741824)
