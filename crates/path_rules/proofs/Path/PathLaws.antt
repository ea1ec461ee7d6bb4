-- The path law: a path's verdict is its summary's; when a sender accepts; cutting, and order. Assumes nothing.
use Prim.Native.Nat.{ℕ, ◌+◌, ◌-◌, ◌≤◌, ◌<◌, min}
use mathlib.Core.List.{List, [], ◌∷◌, Permᴰ}
use mathlib.Core.Logic.{◌⊎◌, inl, inr}
use mathlib.Core.Path.{◌≡◌, refl, sym, ap, ap₂, ◌∙◌}
use native.Mathlib.Omega.{arith}
use lib.ListN.{length, length-append}
use Rattle.common.proofs.Choice.{le_or_gt, clash}
use Rattle.refusals.specs.Reply.{Reply, answer, refuse, and_then, Outcome}
use Rattle.wire_rules.specs.declared.Request.{Request}
use Rattle.wire_rules.specs.Options.Requests.{request_read}
use Rattle.wire_rules.specs.Walk.Walks.{Place}
use Rattle.wire_rules.specs.Ipv4.Headers.{ip_ttl}
use Rattle.wire_rules.specs.Ipv4.Views.{as_request, request_at}
use Rattle.gateway_rules.specs.Router.Claims.{Carries}
use Rattle.sender_rules.specs.declared.OpenRequest.{OpenRequest}
use Rattle.sender_rules.specs.declared.State.TheVariants.{Asked}
use Rattle.sender_rules.specs.declared.Connection.{Connection}
use Rattle.sender_rules.specs.Sender.Claims.{AskGiven, Sent}
use Rattle.sender_rules.proofs.Sender.AskClaims.{sent_only}
use Rattle.path_rules.specs.declared.Router.{Router}
use Rattle.path_rules.specs.declared.Router.TheVariants.{Knowing, Silent}
use Rattle.path_rules.specs.declared.Summary.{Summary}
use Rattle.path_rules.specs.Hops.Summaries.{silent_ones, least_ceiling, summary_of, joined, join_reply}
use Rattle.path_rules.specs.Hops.Verdicts.{Verdict, lost, unanswered, not_accepted, accepted, verdict_of, verdict_reply}
use Rattle.path_rules.proofs.Hops.SummaryLaws.{sum_row, sum_routers, sum_ranged}
use Rattle.path_rules.proofs.Hops.JoinLaws.{sum_parts, sum_order, join_answers}
use Rattle.path_rules.proofs.Hops.VerdictLaws.{verdict_answers, is_lost, is_unanswered, is_refused, is_accepted}
use Rattle.path_rules.proofs.Hops.Claims.{rows}
use Rattle.path_rules.specs.Path.Runs.{path_calls, arrived}
use Rattle.path_rules.specs.Path.Demands.{Setting, verdict_by}
use Rattle.path_rules.specs.Path.Claims.{Demanded, AllKnow, AllAllow, Passable, least_along, Accepting, Cut, part, both, whole, joined_parts, summed_up, Cutting, InRanges}
use Rattle.path_rules.proofs.Path.FlightLaws.{Flying, Through, LostOn, travels}
use Rattle.path_rules.proofs.Path.EndLaws.{end_verdict, ends_unanswered, ends_14, ends_accepted}

silent_few : (routers : List Router) → silent_ones routers ≤ length routers
unfolding silent_ones
silent_few [] = omega arith
silent_few (Knowing ceiling fresh ∷ rest) = omega (arith, silent_few rest)
silent_few (Silent ∷ rest) = omega (arith, silent_few rest)

-- ---- a path's verdict is its summary's

module _ (g : Setting) (d : Demanded path_calls g) where
  pub given : AskGiven g.connection g.wish g.buffer
  given = (sent_only g.connection g.wish g.buffer d.qs_byte d.asked).0

  pub sent : Sent g.connection g.wish (path_calls.ask g.connection g.wish g.buffer).left
  sent = (sent_only g.connection g.wish g.buffer d.qs_byte d.asked).3

  abbrev pub open_request : OpenRequest
  open_request = record { code = g.wish.code; ttl_diff = sent.diff; nonce = g.wish.nonce }

  pub waits : g.waiting.state ≡ Asked open_request
  waits = d.still_open ∙ ap (λ (c : Connection). c.state) sent.connection_is

  pub ranges : InRanges g.waiting g.ceiling g.transport
  ranges = record {
    record_in = d.waiting_in;
    ceiling_high = d.ceiling_high;
    transport_given = d.transport_given;
  }

  -- the packet carries what the sender wrote
  abbrev pub asked_for_lem : Request
  asked_for_lem = record { rate = g.wish.code; qs_ttl = g.wish.qs_ttl; nonce = g.wish.nonce }

  pub carries : Carries (length g.packet) g.packet d.carried.place g.wish.ttl asked_for_lem
  carries = record {
    bytes = d.carried.bytes;
    located_at = d.carried.faultless;
    viewed =
        ap (λ (l : Reply Place). and_then l (λ place. answer (record { ttl = ip_ttl g.packet; request = request_at place g.packet }))) d.carried.faultless
        ∙ ap₂ (λ (n : ℕ) (o : List ℕ). answer (record { ttl = n; request = as_request (request_read o) })) d.carried.starts d.carried.written
        ∙ ap (λ (x : Reply Request). answer (record { ttl = g.wish.ttl; request = as_request x })) sent.reads;
  }

  flying : Flying open_request 0 g.wish.ttl asked_for_lem
  flying = record { below = omega arith; byte = d.qs_byte; short = λ h. omega (arith, sent.diff_is, given.ttl_high); agrees = refl }

  ended : Outcome (Unit {0}) (List ℕ) → Verdict
  ended o = (arrived path_calls g.waiting g.transport g.ceiling o.said o.left).verdict

  pub summary_law : verdict_by path_calls g ≡ verdict_of (summary_of g.routers) g.wish.ttl g.wish.code g.ceiling
  unfolding ended summary_of
  summary_law = go (travels g.routers d.routers_given g.packet d.carried.place g.wish.ttl asked_for_lem carries given.ttl_low given.code_high)
    where
      go : LostOn g.packet g.wish.ttl g.routers ⊎ Through g.packet d.carried.place g.wish.ttl asked_for_lem g.routers
          → verdict_by path_calls g ≡ verdict_of (summary_of g.routers) g.wish.ttl g.wish.code g.ceiling
      go (inl l) = ap ended l.lost_by ∙ sym (is_lost (summary_of g.routers) g.wish.ttl g.wish.code g.ceiling l.falls_short)
      go (inr t) = by_rate (le_or_gt (min t.last.rate g.ceiling) 0)
        where
          rate : t.last.rate ≡ min g.wish.code (least_ceiling g.routers)
          rate = t.flown.rate_is

          came : verdict_by path_calls g
              ≡ end_verdict g.waiting g.transport open_request g.ceiling ranges waits t.new d.carried.place (g.wish.ttl - length g.routers) t.last t.carries
          came = ap ended t.came

          by_silent : 1 ≤ min t.last.rate g.ceiling → (silent_ones g.routers ≤ 0) ⊎ (0 < silent_ones g.routers)
              → verdict_by path_calls g ≡ verdict_of (summary_of g.routers) g.wish.ttl g.wish.code g.ceiling
          by_silent h (inl z) =
              came
              ∙ ends_accepted g.waiting g.transport open_request g.ceiling ranges waits t.new d.carried.place (g.wish.ttl - length g.routers) t.last t.carries h
              (0 + silent_ones g.routers) (t.flown.flies open_request 0 flying) (omega (arith, given.ttl_high)) (omega arith) sent.diff_byte (omega arith)
              ∙ ap accepted {x = min t.last.rate g.ceiling} (omega (arith, rate))
              ∙ sym (is_accepted (summary_of g.routers) g.wish.ttl g.wish.code g.ceiling t.outlasts (omega (arith, rate)) (omega arith))
          by_silent h (inr k) =
              came
              ∙ ends_14 g.waiting g.transport open_request g.ceiling ranges waits t.new d.carried.place (g.wish.ttl - length g.routers) t.last t.carries h
              (0 + silent_ones g.routers) (t.flown.flies open_request 0 flying) (omega (arith, given.ttl_high)) (omega (arith, silent_few g.routers, t.outlasts, given.ttl_high)) sent.diff_byte (omega arith)
              ∙ sym (is_refused (summary_of g.routers) g.wish.ttl g.wish.code g.ceiling t.outlasts (omega (arith, rate)) k)

          by_rate : (min t.last.rate g.ceiling ≤ 0) ⊎ (0 < min t.last.rate g.ceiling)
              → verdict_by path_calls g ≡ verdict_of (summary_of g.routers) g.wish.ttl g.wish.code g.ceiling
          by_rate (inl z) =
              came
              ∙ ends_unanswered g.waiting g.transport open_request g.ceiling ranges waits t.new d.carried.place (g.wish.ttl - length g.routers) t.last t.carries (omega arith)
              ∙ sym (is_unanswered (summary_of g.routers) g.wish.ttl g.wish.code g.ceiling t.outlasts (omega (arith, rate)))
          by_rate (inr h) = by_silent h (le_or_gt (silent_ones g.routers) 0)

-- ---- accepted exactly when

same_number : (n m : ℕ) → ◌≡◌ {A = Reply (Unit {0})} (refuse n) (refuse m) → n ≡ m
same_number n m e = cc

pub no_number : (n : ℕ) → ◌≡◌ {A = Reply (Unit {0})} (refuse n) (answer tt) → ⊥
no_number n e = clash (cc)

-- verdicts of different kinds are different
pub same_rate : (a b : ℕ) → accepted a ≡ accepted b → a ≡ b
same_rate a b e = cc

pub not_lost : (a : ℕ) → lost ≡ accepted a → ⊥
not_lost a e = clash (cc)

pub not_unanswered : (a : ℕ) → unanswered ≡ accepted a → ⊥
not_unanswered a e = clash (cc)

pub not_refused : (n a : ℕ) → not_accepted n ≡ accepted a → ⊥
not_refused n a e = clash (cc)

known_silent : (routers : List Router) → AllKnow routers → silent_ones routers ≡ 0
unfolding silent_ones
known_silent [] a = refl
known_silent (Knowing ceiling fresh ∷ rest) a = known_silent rest a
known_silent (Silent ∷ rest) a = absurd a

silent_known : (routers : List Router) → silent_ones routers ≡ 0 → AllKnow routers
unfolding silent_ones
silent_known [] e = tt
silent_known (Knowing ceiling fresh ∷ rest) e = silent_known rest e
silent_known (Silent ∷ rest) e = absurd (omega arith)

allowed_least : (routers : List Router) → AllAllow routers → 1 ≤ least_ceiling routers
unfolding least_ceiling
allowed_least [] a = omega arith
allowed_least (Knowing ceiling fresh ∷ rest) a = omega (arith, a.0, allowed_least rest a.1)
allowed_least (Silent ∷ rest) a = allowed_least rest a

least_allowed : (routers : List Router) → 1 ≤ least_ceiling routers → AllAllow routers
unfolding least_ceiling
least_allowed [] h = tt
least_allowed (Knowing ceiling fresh ∷ rest) h = (omega arith, least_allowed rest (omega arith))
least_allowed (Silent ∷ rest) h = least_allowed rest h

along : (code : ℕ) (routers : List Router) (ceiling : ℕ) → code ≤ 15 → least_along code routers ceiling ≡ min (min code (least_ceiling routers)) ceiling
unfolding least_ceiling
along code [] ceiling h = omega arith
along code (Knowing own fresh ∷ rest) ceiling h = let e = along code rest ceiling h in omega (arith, e)
along code (Silent ∷ rest) ceiling h = along code rest ceiling h

module _ (g : Setting) (d : Demanded path_calls g) where
  high : g.wish.code ≤ 15
  high = (given g d).code_high

  pub accepts : Passable g → verdict_by path_calls g ≡ accepted (least_along g.wish.code g.routers g.ceiling)
  unfolding summary_of
  accepts p =
      summary_law g d
      ∙ is_accepted (summary_of g.routers) g.wish.ttl g.wish.code g.ceiling p.outlasts
      (omega (arith, allowed_least g.routers p.all_allow, p.receiver_allows, (given g d).code_low)) (known_silent g.routers p.all_know)
      ∙ ap accepted (sym (along g.wish.code g.routers g.ceiling high))

  pub accepts_only : (rate : ℕ) → verdict_by path_calls g ≡ accepted rate → Passable g × (rate ≡ least_along g.wish.code g.routers g.ceiling)
  unfolding summary_of
  accepts_only rate e = by_ttl (le_or_gt g.wish.ttl (length g.routers))
    where
      is : verdict_of (summary_of g.routers) g.wish.ttl g.wish.code g.ceiling ≡ accepted rate
      is = sym (summary_law g d) ∙ e

      by_silent : length g.routers < g.wish.ttl → 1 ≤ min (min g.wish.code (least_ceiling g.routers)) g.ceiling → (silent_ones g.routers ≤ 0) ⊎ (0 < silent_ones g.routers)
          → Passable g × (rate ≡ least_along g.wish.code g.routers g.ceiling)
      by_silent lives h (inr k) = absurd (not_refused 14 rate (sym (is_refused (summary_of g.routers) g.wish.ttl g.wish.code g.ceiling lives h k) ∙ is))
      by_silent lives h (inl z) =
          let a = is_accepted (summary_of g.routers) g.wish.ttl g.wish.code g.ceiling lives h (omega arith) in
          let same = same_rate rate (min (min g.wish.code (least_ceiling g.routers)) g.ceiling) (sym is ∙ a) in (
            record {
              outlasts = lives;
              all_know = silent_known g.routers (omega arith);
              all_allow = least_allowed g.routers (omega arith);
              receiver_allows = omega arith;
            },
            same ∙ sym (along g.wish.code g.routers g.ceiling high),
          )

      by_rate : length g.routers < g.wish.ttl → (min (min g.wish.code (least_ceiling g.routers)) g.ceiling ≤ 0) ⊎ (0 < min (min g.wish.code (least_ceiling g.routers)) g.ceiling)
          → Passable g × (rate ≡ least_along g.wish.code g.routers g.ceiling)
      by_rate lives (inl z) = absurd (not_unanswered rate (sym (is_unanswered (summary_of g.routers) g.wish.ttl g.wish.code g.ceiling lives (omega arith)) ∙ is))
      by_rate lives (inr h) = by_silent lives h (le_or_gt (silent_ones g.routers) 0)

      by_ttl : (g.wish.ttl ≤ length g.routers) ⊎ (length g.routers < g.wish.ttl) → Passable g × (rate ≡ least_along g.wish.code g.routers g.ceiling)
      by_ttl (inl l) = absurd (not_lost rate (sym (is_lost (summary_of g.routers) g.wish.ttl g.wish.code g.ceiling l) ∙ is))
      by_ttl (inr l) = by_rate l (le_or_gt (min (min g.wish.code (least_ceiling g.routers)) g.ceiling) 0)

pub accepting : Accepting path_calls
accepting = record { accepts = accepts; only = accepts_only }

-- ---- cutting and order

joined_parts_lem : (cut : Cut) → joined_parts cut ≡ summary_of (whole cut)
joined_parts_lem (part routers row spells) = refl
joined_parts_lem (both a b) = ap₂ joined (joined_parts_lem a) (joined_parts_lem b) ∙ sum_parts (whole a) (whole b)

-- the calls answer, on at most 64 routers
summed_up_lem : (cut : Cut) → length (whole cut) ≤ 64 → summed_up cut ≡ answer (summary_of (whole cut))
summed_up_lem (part routers row spells) h = sum_row 64 routers row (rows.reads 64 routers row spells h)
summed_up_lem (both a b) h =
    let size = length-append (whole a) (whole b) in
    let few : (length (whole a) ≤ 64) × (length (whole b) ≤ 64) × (length (whole a) + length (whole b) ≤ 64) = (omega (arith, size), omega (arith, size), omega (arith, size)) in
    ap₂ (λ (x y : Reply Summary). and_then x (λ s. and_then y (λ t. join_reply s t))) (summed_up_lem a few.0) (summed_up_lem b few.1)
    ∙ join_answers (summary_of (whole a)) (summary_of (whole b)) (sum_ranged (whole a) few.0) (sum_ranged (whole b) few.1) (together few.2)
    ∙ ap answer (sum_parts (whole a) (whole b))
  where
    together : length (whole a) + length (whole b) ≤ 64 → (summary_of (whole a)).routers + (summary_of (whole b)).routers ≤ 64
    together k = rw (sum_routers (whole a), sum_routers (whole b)) k

module _ (g : Setting) (d : Demanded path_calls g) (cut : Cut) (all : whole cut ≡ g.routers) where
  pub cut_verdict : verdict_of (joined_parts cut) g.wish.ttl g.wish.code g.ceiling ≡ verdict_by path_calls g
  cut_verdict = ap (λ (s : Summary). verdict_of s g.wish.ttl g.wish.code g.ceiling) (joined_parts_lem cut ∙ ap summary_of all) ∙ sym (summary_law g d)

  pub cut_by_calls : length g.routers ≤ 64 → (s : Summary) × (summed_up cut ≡ answer s) × (verdict_reply s g.wish.ttl g.wish.code g.ceiling ≡ answer (verdict_by path_calls g))
  cut_by_calls h =
      let few : length (whole cut) ≤ 64 = rw all h in
      let a = given g d in (
        summary_of g.routers,
        summed_up_lem cut few ∙ ap (λ (l : List Router). answer (summary_of l)) all,
        verdict_answers (summary_of g.routers) g.wish.ttl g.wish.code g.ceiling
            (record {
              ranged = sum_ranged g.routers h;
              ttl_low = a.ttl_low;
              ttl_high = a.ttl_high;
              code_low = a.code_low;
              code_high = a.code_high;
              ceiling_high = d.ceiling_high;
            })
            ∙ ap answer (sym (summary_law g d)),
      )

pub cutting : Cutting path_calls
cutting = record { verdict = cut_verdict; by_calls = cut_by_calls }

pub ordered : (g h : Setting) → Demanded path_calls g → Demanded path_calls h → Permᴰ g.routers h.routers → g.wish.ttl ≡ h.wish.ttl → g.wish.code ≡ h.wish.code
    → g.ceiling ≡ h.ceiling → verdict_by path_calls g ≡ verdict_by path_calls h
ordered g h d k p t c u =
    summary_law g d
    ∙ ap₂ (λ (s : Summary) (n : ℕ). verdict_of s n g.wish.code g.ceiling) (sum_order g.routers h.routers p) t
    ∙ ap₂ (λ (n m : ℕ). verdict_of (summary_of h.routers) h.wish.ttl n m) c u
    ∙ sym (summary_law h k)

-- ---- nothing but a 6 ends a travel

pub by_6 : (g : Setting) → Demanded path_calls g → (n : ℕ) → (path_calls.travel g.routers g.packet).said ≡ refuse n → n ≡ 6
by_6 g d n e = go (travels g.routers d.routers_given g.packet d.carried.place g.wish.ttl (asked_for_lem g d) (carries g d) (given g d).ttl_low (given g d).code_high)
  where
    go : LostOn g.packet g.wish.ttl g.routers ⊎ Through g.packet d.carried.place g.wish.ttl (asked_for_lem g d) g.routers → n ≡ 6
    go (inl l) = same_number n 6 (sym e ∙ ap (λ (o : Outcome (Unit {0}) (List ℕ)). o.said) l.lost_by)
    go (inr t) = absurd (no_number n (sym e ∙ ap (λ (o : Outcome (Unit {0}) (List ℕ)). o.said) t.came))
