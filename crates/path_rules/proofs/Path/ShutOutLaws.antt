-- Paths with one wrong part: of each, demand 3's "accepted exactly when" is false, by one run that starts. Assumes nothing.
use Prim.Native.Nat.{ℕ, ◌≤◌, ◌<◌, min, ◌-◌}
use mathlib.Core.List.{List, [], ◌∷◌}
use mathlib.Core.Path.{◌≡◌, refl, sym, ap, ◌∙◌, subst}
use native.Mathlib.Omega.{arith}
use lib.ListN.{length, replicate}
use Rattle.refusals.specs.Reply.{Reply, answer, refuse, and_then, Outcome, refusing, answering}
use Rattle.gateway_rules.specs.Receiver.Reports.{Report, unanswered, reported}
use Rattle.gateway_rules.specs.Router.Routers.{routed}
use Rattle.sender_rules.specs.declared.Connection.{Connection}
use Rattle.sender_rules.specs.Connections.Records.{fresh_with}
use Rattle.sender_rules.proofs.Connections.Claims.{fresh}
use Rattle.sender_rules.specs.Sender.Calls.{wish, transport, sender_calls, Sending}
use Rattle.wire_rules.specs.declared.Transport.{Transport}
use Rattle.sender_rules.specs.declared.Wish.{Wish}
use Rattle.sender_rules.specs.Sender.Claims.{AskGiven}
use Rattle.path_rules.specs.declared.Router.{Router}
use Rattle.path_rules.specs.declared.Router.TheVariants.{Knowing, Silent}
use Rattle.path_rules.specs.Hops.Verdicts as Verdicts
use Rattle.path_rules.specs.Hops.Verdicts.{accepted, Verdict, lost}
use Rattle.path_rules.specs.Hops.Claims.{RoutersInRange}
use Rattle.path_rules.specs.Path.Runs.{Calls, onward, travel_by, path_calls, said_of, concluded, arrived}
use Rattle.path_rules.specs.Path.Claims.{Carried, TransportGiven, Demanded, AllKnow, AllAllow, Passable, NotEmpty, AsSummary, Accepting, asking, travelling, taking, first_only, first_then_silent, stopping, idle_hop, ShutOut}
use Rattle.path_rules.specs.Path.Demands.{Setting, verdict_by, plain}
use Rattle.path_rules.proofs.Path.PathLaws.{no_number, accepting, same_rate, not_lost, not_unanswered, not_refused, asked_for_lem, carries}
use lib.Dec.{eqb}
use Rattle.common.specs.Choice.{pick}
use Rattle.common.proofs.Choice.{clash}
use Rattle.gateway_rules.specs.Router.Claims.{Carries}
use Rattle.gateway_rules.specs.Router.Traffic.{code_seen, code_left}
use Rattle.sender_rules.proofs.Sender.Claims.{stays_in_range}
use Rattle.sender_rules.proofs.Sender.AskClaims.{sent_only}
use Rattle.path_rules.specs.Hops.Summaries.{summary_of}
use Rattle.path_rules.proofs.Hops.SummaryLaws.{sum_routers}
use Rattle.path_rules.proofs.Hops.VerdictLaws.{is_lost}
use Rattle.path_rules.proofs.Path.FlightLaws.{Hopped, hop_on}
use Rattle.path_rules.proofs.Path.EndLaws.{unanswered_when}

abbrev unanswered_verdict : Verdict
unanswered_verdict = Verdicts.unanswered

not_both : lost ≡ unanswered_verdict → ⊥
not_both e = clash (cc)

-- ---- one run, over any routers

-- ours, with another travel and another response
abbrev wrong : (List Router → List ℕ → Outcome (Unit {0}) (List ℕ)) → (Connection → List ℕ → Transport → Outcome ℕ Connection) → Calls
wrong travel take = record { ask = path_calls.ask; travel = travel; receive = path_calls.receive; take_response = take }

-- receiver and sender are ours: what came by whatever asking and travel ends as with ours
module _ (ask : Connection → Wish → List ℕ → Outcome (Unit {0}) Sending) (travel : List Router → List ℕ → Outcome (Unit {0}) (List ℕ)) (c : Connection) (t : Transport) (ceiling : ℕ) where
  abbrev other : Calls
  other = record { ask = ask; travel = travel; receive = path_calls.receive; take_response = path_calls.take_response }

  ends_alike : (o : Outcome (Unit {0}) (List ℕ)) → (arrived other c t ceiling o.said o.left).verdict ≡ (arrived path_calls c t ceiling o.said o.left).verdict
  ends_alike o = by_said o.said
    where
      by_report : (x : Reply Report) → (concluded other c t o.left x).verdict ≡ (concluded path_calls c t o.left x).verdict
      by_report (answer unanswered) = refl
      by_report (answer (reported r)) = refl
      by_report (refuse n) = refl

      by_said : (s : Reply (Unit {0})) → (arrived other c t ceiling s o.left).verdict ≡ (arrived path_calls c t ceiling s o.left).verdict
      by_said (answer u) = by_report (path_calls.receive ceiling o.left)
      by_said (refuse n) = refl

-- an accepted asking for code 2, with a starting TTL that outlasts two routers
module _ (c : Connection) (w : Wish) (buffer packet : List ℕ) (t : Transport) (two : w.code ≡ 2) (long : 2 < w.ttl) (byte : w.qs_ttl < 256)
    (asked : (path_calls.ask c w buffer).said ≡ answer tt) (carried : Carried (path_calls.ask c w buffer).left.request w.ttl packet) (given : TransportGiven t) where
  abbrev after : Connection
  after = (path_calls.ask c w buffer).left.connection

  abbrev over : List Router → Setting
  over routers = record { connection = c; wish = w; buffer = buffer; packet = packet; waiting = after; transport = t; ceiling = 15; routers = routers }

  demanded : (travel : List Router → List ℕ → Outcome (Unit {0}) (List ℕ)) (take : Connection → List ℕ → Transport → Outcome ℕ Connection)
      → (routers : List Router) → RoutersInRange routers → Demanded (wrong travel take) (over routers)
  demanded travel take routers r = record {
    qs_byte = byte;
    asked = asked;
    carried = carried;
    still_open = refl;
    waiting_in = stays_in_range.ask c w buffer (sent_only c w buffer byte asked).0.record_in;
    transport_given = given;
    ceiling_high = omega arith;
    routers_given = r;
  }

  passes : (routers : List Router) → length routers ≤ 2 → AllKnow routers → AllAllow routers → Passable (over routers)
  passes routers few know allow = record { outlasts = omega arith; all_know = know; all_allow = allow; receiver_allows = omega arith }

  -- the lists that are used
  abbrev one : ℕ → List Router
  one ceiling = Knowing ceiling 0 ∷ []

  abbrev both : List Router
  both = Knowing 15 0 ∷ Knowing 1 0 ∷ []

  in_one : (ceiling : ℕ) → ceiling ≤ 15 → RoutersInRange (one ceiling)
  in_one ceiling h = ((h, omega arith), tt)

  in_both : RoutersInRange both
  in_both = ((omega arith, omega arith), ((omega arith, omega arith), tt))

  -- what ours says over them
  ours_none : verdict_by path_calls (over []) ≡ accepted 2
  ours_none =
      accepting.accepts (over []) (demanded path_calls.travel path_calls.take_response [] tt) (passes [] (omega arith) tt tt)
      ∙ ap accepted {x = min w.code 15} (omega arith)

  ours_one : verdict_by path_calls (over (one 15)) ≡ accepted 2
  ours_one =
      accepting.accepts (over (one 15)) (demanded path_calls.travel path_calls.take_response (one 15) (in_one 15 (omega arith))) (passes (one 15) (omega arith) tt (omega arith, tt))
      ∙ ap accepted {x = min 15 (min w.code 15)} (omega arith)

  ours_silent : verdict_by path_calls (over (Knowing 15 0 ∷ Silent ∷ [])) ≡ accepted 1 → ⊥
  ours_silent e =
      (accepting.only (over (Knowing 15 0 ∷ Silent ∷ [])) (demanded path_calls.travel path_calls.take_response (Knowing 15 0 ∷ Silent ∷ []) ((omega arith, omega arith), (tt, tt))) 1 e).0.all_know

  -- ---- a wrong response

  module _ (take : Connection → List ℕ → Transport → Outcome ℕ Connection) (claim : Accepting (taking take)) where
    none_two : verdict_by (taking take) (over []) ≡ accepted 2
    none_two = claim.accepts (over []) (demanded path_calls.travel take [] tt) (passes [] (omega arith) tt tt) ∙ ap accepted {x = min w.code 15} (omega arith)

    by_response : ((bytes : List ℕ) → said_of (take after bytes t).said ≡ accepted 2 → ⊥) → ⊥
    by_response never = go (path_calls.receive 15 packet) none_two
      where
        go : (x : Reply Report) → (concluded (taking take) after t packet x).verdict ≡ accepted 2 → ⊥
        go (answer unanswered) e = not_unanswered 2 e
        go (answer (reported r)) e = never _ e
        go (refuse n) e = not_refused n 2 e

  no_refuser : (number : Connection → List ℕ → Transport → ℕ) (left : Connection → List ℕ → Transport → Connection)
      → Accepting (taking (λ c response t. refusing (number c response t) (left c response t))) → ⊥
  no_refuser number left claim = by_response _ claim (λ bytes e. not_refused (number after bytes t) 2 e)

  no_code_1 : (take : Connection → List ℕ → Transport → Outcome ℕ Connection)
      → ((d : Connection) (response : List ℕ) (u : Transport) (rate : ℕ) → (take d response u).said ≡ answer rate → rate ≡ 1) → Accepting (taking take) → ⊥
  no_code_1 take always claim = by_response take claim (λ bytes e. go bytes (take after bytes t).said refl e)
    where
      go : (bytes : List ℕ) (x : Reply ℕ) → (take after bytes t).said ≡ x → said_of x ≡ accepted 2 → ⊥
      go bytes (answer rate) f e = let one : rate ≡ 1 = always after bytes t rate f in let same : rate ≡ 2 = same_rate rate 2 e in absurd (omega arith)
      go bytes (refuse n) f e = not_refused n 2 e

  -- ---- a wrong travel

  module _ (travel : List Router → List ℕ → Outcome (Unit {0}) (List ℕ)) where
    -- a travel that is ours over other routers ends as ours does
    runs_alike : (routers other : List Router) → travel routers packet ≡ path_calls.travel other packet → verdict_by (travelling travel) (over routers) ≡ verdict_by path_calls (over other)
    runs_alike routers other e = ends_alike path_calls.ask travel after t 15 (travel routers packet) ∙ ap (λ (o : Outcome (Unit {0}) (List ℕ)). (arrived path_calls after t 15 o.said o.left).verdict) e

    module _ (claim : Accepting (travelling travel)) where
      both_one : verdict_by (travelling travel) (over both) ≡ accepted 1
      both_one =
          claim.accepts (over both) (demanded travel path_calls.take_response both in_both) (passes both (omega arith) tt (omega arith, (omega arith, tt)))
          ∙ ap accepted {x = min 15 (min 1 (min w.code 15))} (omega arith)

      one_one : verdict_by (travelling travel) (over (one 1)) ≡ accepted 1
      one_one =
          claim.accepts (over (one 1)) (demanded travel path_calls.take_response (one 1) (in_one 1 (omega arith))) (passes (one 1) (omega arith) tt (omega arith, tt))
          ∙ ap accepted {x = min 1 (min w.code 15)} (omega arith)

  two_not_one : accepted 2 ≡ accepted 1 → ⊥
  two_not_one e = let same : ◌≡◌ {A = ℕ} 2 1 = same_rate 2 1 e in absurd (omega arith)

  no_first_only : Accepting (travelling first_only) → ⊥
  no_first_only claim = two_not_one (sym ours_one ∙ sym (runs_alike first_only both (one 15) refl) ∙ both_one first_only claim)

  no_first_then_silent : Accepting (travelling first_then_silent) → ⊥
  no_first_then_silent claim = ours_silent (sym (runs_alike first_then_silent both (Knowing 15 0 ∷ Silent ∷ []) refl) ∙ both_one first_then_silent claim)

  no_idle_router : Accepting (travelling (travel_by idle_hop)) → ⊥
  no_idle_router claim = go (routed (length packet) 1 0 packet) (one_one (travel_by idle_hop) claim)
    where
      ended : Reply (List ℕ) → Outcome (Unit {0}) (List ℕ)
      ended x = onward packet (and_then x (λ new. answer packet)) (travel_by idle_hop [])

      go : (x : Reply (List ℕ)) → (arrived (travelling (travel_by idle_hop)) after t 15 (ended x).said (ended x).left).verdict ≡ accepted 1 → ⊥
      go (answer new) e = two_not_one (sym ours_none ∙ sym (ends_alike path_calls.ask (travel_by idle_hop) after t 15 (path_calls.travel [] packet)) ∙ e)
      go (refuse n) e = not_lost 1 e

-- ---- a wrong asking

abbrev for1 : Wish → Wish
for1 w = wish 1 w.ttl w.qs_ttl w.nonce w.rtt w.time

abbrev asks1 : Connection → Wish → List ℕ → Outcome (Unit {0}) Sending
asks1 c w buffer = sender_calls.ask c (for1 w) buffer

module _ (c : Connection) (w : Wish) (buffer packet : List ℕ) (t : Transport) (two : w.code ≡ 2) (long : 2 < w.ttl) (byte : w.qs_ttl < 256)
    (asked : (path_calls.ask c (for1 w) buffer).said ≡ answer tt) (carried : Carried (path_calls.ask c (for1 w) buffer).left.request w.ttl packet) (given : TransportGiven t) where
  abbrev straight : Wish → Setting
  straight v = record {
    connection = c;
    wish = v;
    buffer = buffer;
    packet = packet;
    waiting = (path_calls.ask c (for1 w) buffer).left.connection;
    transport = t;
    ceiling = 15;
    routers = [];
  }

  no_asker_1 : Accepting (asking asks1) → ⊥
  no_asker_1 claim =
      let waiting_in = stays_in_range.ask c (for1 w) buffer (sent_only c (for1 w) buffer byte asked).0.record_in in
      let says_2 =
      claim.accepts (straight w)
      (record { qs_byte = byte; asked = asked; carried = carried; still_open = refl; waiting_in = waiting_in; transport_given = given; ceiling_high = omega arith; routers_given = tt })
      (record { outlasts = omega arith; all_know = tt; all_allow = tt; receiver_allows = omega arith }) in
      let says_1 =
      accepting.accepts (straight (for1 w))
      (record { qs_byte = byte; asked = asked; carried = carried; still_open = refl; waiting_in = waiting_in; transport_given = given; ceiling_high = omega arith; routers_given = tt })
      (record { outlasts = omega arith; all_know = tt; all_allow = tt; receiver_allows = omega arith }) in
      let alike = ends_alike asks1 path_calls.travel (straight w).waiting t 15 (path_calls.travel [] packet) in
      let same : min w.code 15 ≡ 1 = same_rate (min w.code 15) 1 (sym says_2 ∙ alike ∙ says_1) in
      absurd (omega arith)

-- ---- a walk that stops at a denial

-- two routers, of which the first denies, and an IP TTL that only the first outlasts
module _ (c : Connection) (w : Wish) (buffer packet : List ℕ) (t : Transport) (two : w.ttl ≡ 2) (byte : w.qs_ttl < 256)
    (asked : (path_calls.ask c w buffer).said ≡ answer tt) (carried : Carried (path_calls.ask c w buffer).left.request w.ttl packet) (given : TransportGiven t) where
  abbrev denying : Setting
  denying = record {
    connection = c;
    wish = w;
    buffer = buffer;
    packet = packet;
    waiting = (path_calls.ask c w buffer).left.connection;
    transport = t;
    ceiling = 15;
    routers = Knowing 0 0 ∷ Knowing 15 0 ∷ [];
  }

  abbrev fits : Demanded path_calls denying
  fits = record {
    qs_byte = byte;
    asked = asked;
    carried = carried;
    still_open = refl;
    waiting_in = stays_in_range.ask c w buffer (sent_only c w buffer byte asked).0.record_in;
    transport_given = given;
    ceiling_high = omega arith;
    routers_given = ((omega arith, omega arith), ((omega arith, omega arith), tt));
  }

  first : Hopped packet carried.place w.ttl (asked_for_lem denying fits) (Knowing 0 0)
  first = hop_on packet carried.place w.ttl (asked_for_lem denying fits) (carries denying fits) (omega arith) (Knowing 0 0) (omega arith, omega arith)

  abbrev new : List ℕ
  new = first.leaves_it.new

  new_carries : Carries (length new) new carried.place (w.ttl - 1) first.next
  new_carries = subst (λ (n : ℕ). Carries n new carried.place (w.ttl - 1) first.next) (sym first.leaves_it.long) first.leaves_it.carries

  none_left : code_left new ≡ 0
  none_left = ap code_seen new_carries.viewed ∙ first.flown.rate_is ∙ none_of w.code
    where
      none_of : (n : ℕ) → min n 0 ≡ 0
      none_of n = omega arith

  stopped : stopping denying.routers packet ≡ answering tt new
  stopped =
      ap (λ (r : Reply (List ℕ)). onward packet r (λ p. pick (eqb (code_left p) 0) (answering tt p) (stopping (Knowing 15 0 ∷ []) p))) first.leaves_it.replied
      ∙ ap (λ (n : ℕ). pick (eqb n 0) (answering tt new) (stopping (Knowing 15 0 ∷ []) new)) none_left

  says_unanswered : verdict_by (travelling stopping) denying ≡ unanswered_verdict
  says_unanswered =
      ends_alike path_calls.ask stopping denying.waiting t 15 (stopping denying.routers packet)
      ∙ ap (λ (o : Outcome (Unit {0}) (List ℕ)). (arrived path_calls denying.waiting t 15 o.said o.left).verdict) stopped
      ∙ ap (λ (x : Reply Report). (concluded path_calls denying.waiting t new x).verdict)
      (unanswered_when new carried.place (w.ttl - 1) first.next new_carries 15 (omega arith) (omega (arith, first.flown.rate_is)))

  no_stopping : AsSummary (travelling stopping) → ⊥
  no_stopping claim =
      not_both
      (sym (is_lost (summary_of denying.routers) w.ttl w.code 15 (omega (arith, sum_routers denying.routers)))
      ∙ sym (claim denying (record {
        qs_byte = byte;
        asked = asked;
        carried = carried;
        still_open = refl;
        waiting_in = fits.waiting_in;
        transport_given = given;
        ceiling_high = omega arith;
        routers_given = fits.routers_given;
      }))
      ∙ says_unanswered)

-- ---- with a packet that there is

ask_given : (code ttl : ℕ) → 1 ≤ code → code ≤ 15 → 1 ≤ ttl → ttl ≤ 255 → AskGiven (fresh_with 1 0) (wish code ttl 0 0 1 0) (replicate 8 0)
ask_given code ttl a b d e = record {
  record_in = fresh.in_range_lem 1 0 (fresh.made 1 0 (omega arith) (omega arith) (omega arith));
  code_low = a;
  code_high = b;
  ttl_low = d;
  ttl_high = e;
  nonce_high = omega arith;
  rtt_low = omega arith;
  rtt_high = omega arith;
  room_is = refl;
}

transport_given : TransportGiven (transport 1 1 20)
transport_given = record { rtt_low = omega arith; rtt_high = omega arith; mss_low = omega arith; mss_high = omega arith; headers_low = omega arith; headers_high = omega arith }

no_refuser_of_askings : (number : Connection → Wish → List ℕ → ℕ) (left : Connection → Wish → List ℕ → Sending)
    → NotEmpty (asking (λ c w buffer. refusing (number c w buffer) (left c w buffer))) → ⊥
no_refuser_of_askings number left claim = no_number _ (claim.asks 1 0 (wish 2 64 0 0 1 0) (replicate 8 0) (ask_given 2 64 (omega arith) (omega arith) (omega arith) (omega arith)))

pub shut_out_lem : NotEmpty path_calls → ShutOut
shut_out_lem some-packet =
    let c = fresh_with 1 0 in
    let buffer : List ℕ = replicate 8 0 in
    let t = transport 1 1 20 in
    let w = wish 2 64 0 0 1 0 in
    let asked = some-packet.asks 1 0 w buffer (ask_given 2 64 (omega arith) (omega arith) (omega arith) (omega arith)) in
    let carried = some-packet.packets c w buffer (omega arith) asked in
    let packet = plain 64 (path_calls.ask c w buffer).left.request in
    let asked_1 = some-packet.asks 1 0 (for1 w) buffer (ask_given 1 64 (omega arith) (omega arith) (omega arith) (omega arith)) in
    let carried_1 = some-packet.packets c (for1 w) buffer (omega arith) asked_1 in
    let packet_1 = plain 64 (path_calls.ask c (for1 w) buffer).left.request in
    let short = wish 2 2 0 0 1 0 in
    let asked_2 = some-packet.asks 1 0 short buffer (ask_given 2 2 (omega arith) (omega arith) (omega arith) (omega arith)) in
    let carried_2 = some-packet.packets c short buffer (omega arith) asked_2 in
    let packet_2 = plain 2 (path_calls.ask c short buffer).left.request in
    record {
      otherwise_ours = (refl, refl, refl);
      refuses_everything = no_refuser c w buffer packet t refl (omega arith) (omega arith) asked carried transport_given;
      refuses_every_asking = no_refuser_of_askings;
      always_code_1 = no_code_1 c w buffer packet t refl (omega arith) (omega arith) asked carried transport_given;
      always_asks_1 = no_asker_1 c w buffer packet_1 t refl (omega arith) (omega arith) asked_1 carried_1 transport_given;
      first_only_lem = no_first_only c w buffer packet t refl (omega arith) (omega arith) asked carried transport_given;
      first_then_silent_lem = no_first_then_silent c w buffer packet t refl (omega arith) (omega arith) asked carried transport_given;
      stops_at_a_denial = no_stopping c short buffer packet_2 t refl (omega arith) asked_2 carried_2 transport_given;
      touches_nothing = no_idle_router c w buffer packet t refl (omega arith) (omega arith) asked carried transport_given;
    }
