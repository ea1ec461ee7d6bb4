-- The claims on the call of a run: which refusal is given, that there is no other such call, what can arise of a run that started, what a
-- run leaves, and demand 3 of the call on bytes. Assumes nothing.
use Prim.Native.Nat.{ℕ, ◌≤◌, ◌<◌, min}
use mathlib.Core.Bool.{true, false, ◌&&◌}
use mathlib.Core.List.{List, [], ◌∷◌, Permᴰ}
use mathlib.Core.Logic.{◌⊎◌, inl, inr, ⊎_elim}
use Rattle.std.specs.Prelude.{Option, None, Some}
use Rattle.wire_rules.specs.Walk.Walks.{Place}
use mathlib.Core.Path.{◌≡◌, refl, sym, ap, subst, ◌∙◌}
use native.Mathlib.Omega.{arith}
use borrow.Author.Tests.{le-leb, leb-true}
use lib.Dec.{leb, eqb}
use lib.ListN.{length}
use Rattle.common.specs.Lists.{Bytes}
use Rattle.common.proofs.Choice.{clash, untrue, either, both_true, in_within, within_low, within_high, le_or_gt}
use Rattle.refusals.specs.Reply.{Reply, answer, refuse, and_then, Outcome, refusing, answering}
use Rattle.refusals.proofs.ReplyLaws.{refused, same_outcome}
use Rattle.wire_rules.specs.Rates.Steps.{top_code}
use Rattle.wire_rules.specs.Rates.Window.{longest_rtt, largest_segment, least_headers, most_headers, transport_in_range}
use Rattle.wire_rules.proofs.Rates.WindowLaws.{transport_facts}
use Rattle.wire_rules.specs.declared.Request.{Request}
use Rattle.wire_rules.specs.declared.Response.{Response}
use Rattle.wire_rules.specs.Options.Responses.{response_read}
use Rattle.wire_rules.specs.Ipv4.Headers.{ip_ttl}
use Rattle.wire_rules.specs.Ipv4.Packets.{located}
use Rattle.wire_rules.specs.Ipv4.Views.{View, request_at, view}
use Rattle.wire_rules.proofs.Ipv4.OptionLaws.{view_place, viewed_by}
use Rattle.wire_rules.proofs.Ipv4.Claims.{viewing}
use Rattle.gateway_rules.specs.Router.Claims.{Carries}
use Rattle.gateway_rules.specs.Receiver.Reports.{Report, unanswered, reported, response_after}
use Rattle.sender_rules.specs.declared.OpenRequest.{OpenRequest}
use Rattle.sender_rules.specs.declared.State.{State}
use Rattle.sender_rules.specs.declared.State.TheVariants.{Idle, Asked, Quick}
use Rattle.sender_rules.specs.declared.Connection.{Connection}
use Rattle.sender_rules.specs.Connections.Records.{in_range}
use Rattle.sender_rules.specs.Connections.Claims.{StateInRange}
use Rattle.sender_rules.proofs.Connections.Claims.{ranges}
use Rattle.sender_rules.specs.Sender.Calls.{while_asked, judged, sender_calls}
use Rattle.wire_rules.specs.declared.Transport.{Transport}
use Rattle.sender_rules.proofs.Sender.CallLaws.{ends, response_in}
use Rattle.sender_rules.proofs.Sender.ResponseClaims.{accepted_only}
use Rattle.path_rules.specs.declared.Router.{Router}
use Rattle.path_rules.specs.Hops.Rows.{hops_from, row_of}
use Rattle.path_rules.specs.Hops.Claims.{RoutersInRange, Spells}
use Rattle.path_rules.specs.Hops.Verdicts as Verdicts
use Rattle.path_rules.specs.Hops.Verdicts.{Verdict, lost, verdict_reply}
use Rattle.path_rules.proofs.Hops.Claims.{rows}
use Rattle.path_rules.specs.Path.Runs.{hop, onward, travel_by, path_calls, journey, said_of, blank, concluded, arrived, run_by, run_in_range, where_asked, start_reply, run_call, Journey}
use Rattle.path_rules.specs.Path.Claims.{TransportGiven, RunCall, InRanges, Starts, Testing, Arises, Running, Demanded, Cut, part, both, whole, whole_row, said_by, CallLaw, Leaving}
use Rattle.path_rules.specs.Path.Demands.{Setting, verdict_by}
use Rattle.path_rules.proofs.Path.RunLaws.{call_no_row, call_out, call_refused, call_ran}
use Rattle.path_rules.proofs.Path.FlightLaws.{hop_six, Through, LostOn, travels}
use Rattle.path_rules.proofs.Path.PathLaws.{open_request, asked_for_lem, waits, ranges as run-ranges, carries, cut_by_calls, ordered}
use Rattle.path_rules.proofs.Path.EndLaws.{response_long, end_verdict, ends_unanswered, answer_came, by_sender}
use Rattle.path_rules.specs.declared.Summary.{Summary}
use Rattle.path_rules.proofs.Hops.SummaryLaws.{sum_routers}
use Rattle.path_rules.proofs.Hops.JoinLaws.{sum_order}

-- ---- ranges

transport_ok : (t : Transport) → TransportGiven t → transport_in_range t.rtt t.mss t.headers ≡ true
unfolding transport_in_range
transport_ok t g =
    simp
    (in_within 1 t.rtt longest_rtt g.rtt_low g.rtt_high, in_within 1 t.mss largest_segment g.mss_low g.mss_high, in_within least_headers t.headers most_headers g.headers_low g.headers_high)

module _ (c : Connection) (ceiling : ℕ) (t : Transport) where
  in_ranges : InRanges c ceiling t → run_in_range c ceiling t ≡ true
  unfolding run_in_range
  in_ranges g = simp (le-leb ceiling top_code g.ceiling_high, transport_ok t g.transport_given, ranges.suffices c g.record_in)

  ranges_of : run_in_range c ceiling t ≡ true → InRanges c ceiling t
  unfolding run_in_range
  ranges_of e =
      let a = both_true (leb ceiling top_code && transport_in_range t.rtt t.mss t.headers) (in_range c) e in
      let b = both_true (leb ceiling top_code) (transport_in_range t.rtt t.mss t.headers) a.0 in
      let f = transport_facts t.rtt t.mss t.headers b.1 in
      record {
        record_in = ranges.tested c a.1;
        ceiling_high = leb-true ceiling top_code b.0;
        transport_given = record {
          rtt_low = f.rtt_low;
          rtt_high = f.rtt_high;
          mss_low = f.mss_low;
          mss_high = f.mss_high;
          headers_low = f.headers_low;
          headers_high = f.headers_high;
        };
      }

  -- out of range, by the test
  out_of : (InRanges c ceiling t → ⊥) → run_in_range c ceiling t ≡ false
  out_of n = untrue (run_in_range c ceiling t) (λ e. n (ranges_of e))

  pub either_ranges : InRanges c ceiling t ⊎ (InRanges c ceiling t → ⊥)
  either_ranges = either (run_in_range c ceiling t) ranges_of in_ranges

-- ---- which refusal is given

module _ (c : Connection) (packet : List ℕ) where
  abbrev on_view : View → Reply (Unit {0})
  on_view v = where_asked v.request (while_asked c.state (λ request. answer tt))

  start_by : (x : Reply View) → view (length packet) packet ≡ x → and_then x on_view ≡ start_reply c packet
  start_by x e = ap (λ (v : Reply View). and_then v on_view) (sym e)

  start_asked : (ttl : ℕ) (r : Request) (s : State) → view (length packet) packet ≡ answer (record { ttl = ttl; request = Some r }) → c.state ≡ s
      → while_asked s (λ request. answer tt) ≡ start_reply c packet
  start_asked ttl r s e f = ap (λ (x : State). while_asked x (λ request. answer tt)) (sym f) ∙ start_by (answer (record { ttl = ttl; request = Some r })) e

module _ (c : Connection) (packet row : List ℕ) (ceiling : ℕ) (t : Transport) where
  call_seven_row : row_of 64 row ≡ refuse 7 → run_call 64 c packet row ceiling t ≡ refusing 7 (journey packet c)
  call_seven_row e = let a = call_no_row 64 c packet row ceiling t e in same_outcome _ _ (sym a.0) (sym a.1)

  module _ (routers : List Router) (is_row : row_of 64 row ≡ answer routers) where
    call_seven : (InRanges c ceiling t → ⊥) → run_call 64 c packet row ceiling t ≡ refusing 7 (journey packet c)
    call_seven n = let a = call_out 64 c packet row ceiling t routers is_row (out_of c ceiling t n) in same_outcome _ _ (sym a.0) (sym a.1)

    module _ (g : InRanges c ceiling t) where
      refused_with : (n : ℕ) → refuse n ≡ start_reply c packet → run_call 64 c packet row ceiling t ≡ refusing n (journey packet c)
      refused_with n e = let a = call_refused 64 c packet row ceiling t routers is_row (in_ranges c ceiling t g) n e in same_outcome _ _ (sym a.0) (sym a.1)

      ran_by : answer tt ≡ start_reply c packet
          → run_call 64 c packet row ceiling t ≡ answering (run_by path_calls c t ceiling routers packet).verdict (run_by path_calls c t ceiling routers packet).left
      ran_by e =
          let a = call_ran 64 c packet row ceiling t routers is_row (in_ranges c ceiling t g) (run_by path_calls c t ceiling routers packet) e refl in
          same_outcome _ _ (sym a.0) (sym a.1)

tests : Testing (run_call 64)
tests = record {
  seven_row = call_seven_row;
  seven = λ c packet row ceiling t routers e n. call_seven c packet row ceiling t routers e n;
  faulty = λ c packet row ceiling t routers n e g f.
      refused_with c packet row ceiling t routers e g n (start_by c packet (refuse n) (viewing.refused (length packet) n packet f));
  four = λ c packet row ceiling t routers ttl e g v. refused_with c packet row ceiling t routers e g 4 (start_by c packet (answer (record { ttl = ttl; request = None })) v);
  eleven_idle = λ c packet row ceiling t routers ttl r e g v s. refused_with c packet row ceiling t routers e g 11 (start_asked c packet ttl r Idle v s);
  eleven_quick = λ c packet row ceiling t routers ttl r b e g v s. refused_with c packet row ceiling t routers e g 11 (start_asked c packet ttl r (Quick b) v s);
  starts = λ c packet row ceiling t routers q ttl r s. ran_by c packet row ceiling t routers s.row_is s.ranges (start_asked c packet ttl r (Asked q) s.viewed s.waits);
}

-- ---- no other call has these

module _ (call : RunCall) (a : Testing call) (c : Connection) (packet row : List ℕ) (ceiling : ℕ) (t : Transport) where
  abbrev Same : Type 0
  Same = call c packet row ceiling t ≡ run_call 64 c packet row ceiling t

  module _ (routers : List Router) (e : row_of 64 row ≡ answer routers) (g : InRanges c ceiling t) where
    by_state : (r : Request) → view (length packet) packet ≡ answer (record { ttl = ip_ttl packet; request = Some r }) → (s : State) → c.state ≡ s → Same
    by_state r v Idle f = a.eleven_idle c packet row ceiling t routers (ip_ttl packet) r e g v f ∙ sym (tests.eleven_idle c packet row ceiling t routers (ip_ttl packet) r e g v f)
    by_state r v (Quick b) f = a.eleven_quick c packet row ceiling t routers (ip_ttl packet) r b e g v f ∙ sym (tests.eleven_quick c packet row ceiling t routers (ip_ttl packet) r b e g v f)
    by_state r v (Asked q) f =
        let s : Starts c packet row ceiling t routers q (ip_ttl packet) r = record { row_is = e; ranges = g; viewed = v; waits = f } in
        a.starts c packet row ceiling t routers q (ip_ttl packet) r s ∙ sym (tests.starts c packet row ceiling t routers q (ip_ttl packet) r s)

    by_request : (x : Option Request) → view (length packet) packet ≡ answer (record { ttl = ip_ttl packet; request = x }) → Same
    by_request None v = a.four c packet row ceiling t routers (ip_ttl packet) e g v ∙ sym (tests.four c packet row ceiling t routers (ip_ttl packet) e g v)
    by_request (Some r) v = by_state r v c.state refl

    by_place : (x : Reply Place) → located (length packet) packet ≡ x → Same
    by_place (refuse n) l = a.faulty c packet row ceiling t routers n e g l ∙ sym (tests.faulty c packet row ceiling t routers n e g l)
    by_place (answer place) l = by_request (request_at place packet) (viewed_by (length packet) packet place l)

  by_row : (x : Reply (List Router)) → row_of 64 row ≡ x → Same
  by_row (refuse n) e =
      let seven : row_of 64 row ≡ refuse 7 = e ∙ ap refuse (refused (eqb (length (hops_from 64 row).rest) 0) (hops_from 64 row).routers n 7 (sym e)).1 in
      a.seven_row c packet row ceiling t seven ∙ sym (tests.seven_row c packet row ceiling t seven)
  by_row (answer routers) e =
      ⊎_elim
      (λ (g : InRanges c ceiling t). by_place routers e g (located (length packet) packet) refl)
      (λ (n : InRanges c ceiling t → ⊥). a.seven c packet row ceiling t routers e n ∙ sym (tests.seven c packet row ceiling t routers e n))
      (either_ranges c ceiling t)

-- ---- what arises

-- a packet that is viewed with a request has it at a place
place_of_lem : (packet : List ℕ) (ttl : ℕ) (r : Request) → view (length packet) packet ≡ answer (record { ttl = ttl; request = Some r })
    → (place : ℕ) × (located (length packet) packet ≡ answer (Some place))
place_of_lem packet ttl r e =
    let v = view_place (length packet) packet (record { ttl = ttl; request = Some r }) e in
    go v.0 v.1 (ap (λ (x : View). x.request) v.2)
  where
    go : (place : Place) → located (length packet) packet ≡ answer place → Some r ≡ request_at place packet → (place : ℕ) × (located (length packet) packet ≡ answer (Some place))
    go None l f = absurd (clash (cc))
    go (Some place) l f = (place, l)

-- whatever its IP TTL, 0 among them, a packet that carries a request is lost to a 6, or comes to the receiver with a request
record Comes (routers : List Router) (packet : List ℕ) : Type 0 where
  pub new : List ℕ
  pub place : ℕ
  pub ttl : ℕ
  pub last : Request
  pub came : travel_by hop routers packet ≡ answering tt new
  pub carries : Carries (length new) new place ttl last

comes : (routers : List Router) → RoutersInRange routers → (packet : List ℕ) (place ttl : ℕ) (r : Request) → Carries (length packet) packet place ttl r → r.rate ≤ 15
    → ((travel_by hop routers packet).said ≡ refuse 6) ⊎ Comes routers packet
comes [] g packet place ttl r c high = inr (record { new = packet; place = place; ttl = ttl; last = r; came = refl; carries = c })
comes (router ∷ rest) g packet place ttl r c high = by_ttl (le_or_gt ttl 1)
  where
    by_travel : LostOn packet ttl (router ∷ rest) ⊎ Through packet place ttl r (router ∷ rest) → ((travel_by hop (router ∷ rest) packet).said ≡ refuse 6) ⊎ Comes (router ∷ rest) packet
    by_travel (inl l) = inl (ap (λ (o : Outcome (Unit {0}) (List ℕ)). o.said) l.lost_by)
    by_travel (inr t) = inr (record { new = t.new; place = place; ttl = _; last = t.last; came = t.came; carries = t.carries })

    by_ttl : (ttl ≤ 1) ⊎ (1 < ttl) → ((travel_by hop (router ∷ rest) packet).said ≡ refuse 6) ⊎ Comes (router ∷ rest) packet
    by_ttl (inl l) = inl (ap (λ (reply : Reply (List ℕ)). (onward packet reply (travel_by hop rest)).said) (hop_six packet place ttl r c router g.0 l))
    by_ttl (inr l) = by_travel (travels (router ∷ rest) g packet place ttl r c (omega arith) high)

-- what the sender says of bytes that read as a response
module _ (routers : List Router) (packet : List ℕ) (c : Connection) (ceiling : ℕ) (t : Transport) (q : OpenRequest) (g : InRanges c ceiling t) (waits : c.state ≡ Asked q)
    (bytes : List ℕ) (r : Response) (reads : response_read bytes ≡ answer r) where
  said_is : judged q r ≡ (path_calls.take_response c bytes t).said
  said_is =
      ap (λ (x : Reply Response). and_then x (judged q)) (sym reads)
      ∙ response_in c (ranges.suffices c g.record_in) (Asked q) waits bytes t (transport_ok t g.transport_given) (response_long bytes r reads)

  by_said : (x : Reply ℕ) → (path_calls.take_response c bytes t).said ≡ x → Arises routers packet (said_of x)
  by_said (answer rate) e =
      let a = accepted_only c bytes t rate e in
      let asked_in : (1 ≤ a.1.code) × (a.1.code ≤ 15) × (a.1.nonce < 1073741824) = subst StateInRange a.3 g.record_in.state_in in
      (omega (arith, a.5, a.6.rate.low), omega (arith, a.5, a.6.rate.high, asked_in.1))
  by_said (refuse n) e = let w = ends q r n (sym (said_is ∙ e)) in (within_low 13 n 15 w, within_high 13 n 15 w)

module _ (c : Connection) (packet row : List ℕ) (ceiling : ℕ) (t : Transport) (routers : List Router) (q : OpenRequest) (ttl : ℕ) (r : Request)
    (bytes : Bytes packet) (row_bytes : Bytes row) (s : Starts c packet row ceiling t routers q ttl r) where
  abbrev ended : Outcome (Unit {0}) (List ℕ) → Verdict
  ended o = (arrived path_calls c t ceiling o.said o.left).verdict

  -- at the receiver
  at_end : (k : Comes routers packet) → Arises routers packet (end_verdict c t q ceiling s.ranges s.waits k.new k.place k.ttl k.last k.carries)
  at_end k = by_rate (le_or_gt (min k.last.rate ceiling) 0)
    where
      by_rate : (min k.last.rate ceiling ≤ 0) ⊎ (0 < min k.last.rate ceiling)
          → Arises routers packet (end_verdict c t q ceiling s.ranges s.waits k.new k.place k.ttl k.last k.carries)
      by_rate (inl z) =
          subst (Arises routers packet) (sym (ends_unanswered c t q ceiling s.ranges s.waits k.new k.place k.ttl k.last k.carries (omega arith))) tt
      by_rate (inr h) =
          let a = answer_came c t q ceiling s.ranges s.waits k.new k.place k.ttl k.last k.carries h in
          subst (Arises routers packet) (sym (by_sender c t q ceiling s.ranges s.waits k.new k.place k.ttl k.last k.carries h))
          (by_said routers packet c ceiling t q s.ranges s.waits (response_after blank (answer (reported a.response))) a.response a.reads _ refl)

  arises_by : Arises routers packet (run_by path_calls c t ceiling routers packet).verdict
  arises_by =
      let place = place_of_lem packet ttl r s.viewed in
      go (comes routers (rows.in_range_lem routers row row_bytes (rows.only 64 routers row s.row_is).0) packet place.0 ttl r
      (record { bytes = bytes; located_at = place.1; viewed = s.viewed }) (viewing.fits (length packet) packet _ bytes s.viewed).request_fits.rate_fits)
    where
      go : ((travel_by hop routers packet).said ≡ refuse 6) ⊎ Comes routers packet → Arises routers packet (ended (travel_by hop routers packet))
      go (inl l) =
          subst (Arises routers packet) (ap (λ (x : Reply (Unit {0})). (arrived path_calls c t ceiling x (travel_by hop routers packet).left).verdict) (sym l)) l
      go (inr k) = subst (Arises routers packet) (ap ended (sym k.came)) (at_end k)

-- ---- the record of what was lost or unanswered

module _ (c : Connection) (ceiling : ℕ) (t : Transport) where
  said_not : (x : Reply ℕ) → (said_of x ≡ lost) ⊎ (said_of x ≡ Verdicts.unanswered) → ⊥
  said_not (answer rate) (inl e) = clash (cc)
  said_not (answer rate) (inr e) = clash (cc)
  said_not (refuse n) (inl e) = clash (cc)
  said_not (refuse n) (inr e) = clash (cc)

  by_report : (packet : List ℕ) (x : Reply Report) → ((concluded path_calls c t packet x).verdict ≡ lost) ⊎ ((concluded path_calls c t packet x).verdict ≡ Verdicts.unanswered)
      → (concluded path_calls c t packet x).left.connection ≡ c
  by_report packet (answer unanswered) e = refl
  by_report packet (answer (reported r)) e = absurd (said_not (path_calls.take_response c (response_after blank (answer (reported r))) t).said e)
  by_report packet (refuse n) e = refl

  kept : (said : Reply (Unit {0})) (packet : List ℕ)
      → ((arrived path_calls c t ceiling said packet).verdict ≡ lost) ⊎ ((arrived path_calls c t ceiling said packet).verdict ≡ Verdicts.unanswered)
      → (arrived path_calls c t ceiling said packet).left.connection ≡ c
  kept (answer u) packet e = by_report packet (path_calls.receive ceiling packet) e
  kept (refuse n) packet e = refl

-- ---- demand 3 of the call, on bytes

module _ (g : Setting) (d : Demanded path_calls g) where
  -- demand 3's run is one that starts
  pub said_of_row : (row : List ℕ) → row_of 64 row ≡ answer g.routers → said_by (run_call 64) g row ≡ answer (verdict_by path_calls g)
  said_of_row row e =
      ap (λ (o : Outcome Verdict Journey). o.said)
      (tests.starts g.waiting g.packet row g.ceiling g.transport g.routers (open_request g d) g.wish.ttl (asked_for_lem g d)
      (record { row_is = e; ranges = run-ranges g d; viewed = (carries g d).viewed; waits = waits g d }))

  pub said_of_lem : (row : List ℕ) → Spells g.routers row → length g.routers ≤ 64 → said_by (run_call 64) g row ≡ answer (verdict_by path_calls g)
  said_of_lem row s h = said_of_row row (rows.reads 64 g.routers row s h)

-- a list in another order is as long
perm_length : (a b : List Router) → Permᴰ a b → length a ≡ length b
perm_length a b p = sym (sum_routers a) ∙ ap (λ (s : Summary). s.routers) (sum_order a b p) ∙ sum_routers b

-- the rows of the parts, one behind the other, spell the whole path
whole_spelt : (cut : Cut) → Spells (whole cut) (whole_row cut)
whole_spelt (part routers row spells) = spells
whole_spelt (both a b) = rows.together (whole a) (whole b) (whole_row a) (whole_row b) (whole_spelt a) (whole_spelt b)

pub call_law : CallLaw
call_law = record {
  verdict = λ g row d s h. said_of_lem g d row s h;
  cutting = λ g d cut e h.
      let c = cut_by_calls g d cut e h in
      ap (λ (r : Reply Summary). and_then r (λ s. verdict_reply s g.wish.ttl g.wish.code g.ceiling)) c.1
      ∙ c.2
      ∙ sym (said_of_lem g d (whole_row cut) (subst (λ (l : List Router). Spells l (whole_row cut)) e (whole_spelt cut)) h);
  order = λ g h x y d k s u few p t c r.
      said_of_lem g d x s few ∙ ap answer (ordered g h d k p t c r) ∙ sym (said_of_lem h k y u (rw (sym (perm_length g.routers h.routers p)) few));
}

pub running : Running
running = record {
  tests = tests;
  only = λ call a c packet row ceiling t. by_row call a c packet row ceiling t (row_of 64 row) refl;
  arises = arises_by;
}

-- ---- what a run leaves

module _ (c : Connection) (ceiling : ℕ) (t : Transport) where
  left_packet : (said : Reply (Unit {0})) (packet : List ℕ) → (arrived path_calls c t ceiling said packet).left.packet ≡ packet
  left_packet (answer u) packet = by_answer (path_calls.receive ceiling packet)
    where
      by_answer : (x : Reply Report) → (concluded path_calls c t packet x).left.packet ≡ packet
      by_answer (answer unanswered) = refl
      by_answer (answer (reported r)) = refl
      by_answer (refuse n) = refl
  left_packet (refuse n) packet = refl

  left_taken : (said : Reply (Unit {0})) (packet : List ℕ) (r : Response) → said ≡ answer tt → path_calls.receive ceiling packet ≡ answer (reported r)
      → (arrived path_calls c t ceiling said packet).left.connection ≡ (sender_calls.take_response c (response_after blank (answer (reported r))) t).left
  left_taken said packet r e f =
      ap (λ (x : Reply (Unit {0})). (arrived path_calls c t ceiling x packet).left.connection) e ∙ ap (λ (x : Reply Report). (concluded path_calls c t packet x).left.connection) f

  said_taken : (said : Reply (Unit {0})) (packet : List ℕ) (r : Response) (x : Reply ℕ) → said ≡ answer tt → path_calls.receive ceiling packet ≡ answer (reported r)
      → (sender_calls.take_response c (response_after blank (answer (reported r))) t).said ≡ x → (arrived path_calls c t ceiling said packet).verdict ≡ said_of x
  said_taken said packet r x e f g =
      ap (λ (x : Reply (Unit {0})). (arrived path_calls c t ceiling x packet).verdict) e ∙ ap (λ (x : Reply Report). (concluded path_calls c t packet x).verdict) f ∙ ap said_of g

pub leaving : Leaving
leaving = record {
  asks = λ c w buffer. refl;
  receives = λ ceiling packet. refl;
  lends = λ packet c. refl;
  takes = λ c response t. refl;
  nobody = λ packet. refl;
  goes_on = λ router rest packet new e. ap (λ (r : Reply (List ℕ)). onward packet r (travel_by hop rest)) e;
  stops = λ router rest packet n e. ap (λ (r : Reply (List ℕ)). onward packet r (travel_by hop rest)) e;
  packet = λ c packet ceiling t routers. left_packet c ceiling t (path_calls.travel routers packet).said (path_calls.travel routers packet).left;
  kept = λ c packet ceiling t routers e. kept c ceiling t (path_calls.travel routers packet).said (path_calls.travel routers packet).left e;
  taken = λ c packet ceiling t routers r e f. left_taken c ceiling t (path_calls.travel routers packet).said (path_calls.travel routers packet).left r e f;
  knowing = λ ceiling fresh packet. refl;
  silent = λ packet. refl;
  is_lost = λ c packet ceiling t routers n e. ap (λ (x : Reply (Unit {0})). (arrived path_calls c t ceiling x (path_calls.travel routers packet).left).verdict) e;
  is_unanswered = λ c packet ceiling t routers e f.
      ap (λ (x : Reply (Unit {0})). (arrived path_calls c t ceiling x (path_calls.travel routers packet).left).verdict) e
      ∙ ap (λ (x : Reply Report). (concluded path_calls c t (path_calls.travel routers packet).left x).verdict) f;
  is_not_received = λ c packet ceiling t routers n e f.
      ap (λ (x : Reply (Unit {0})). (arrived path_calls c t ceiling x (path_calls.travel routers packet).left).verdict) e
      ∙ ap (λ (x : Reply Report). (concluded path_calls c t (path_calls.travel routers packet).left x).verdict) f;
  is_accepted = λ c packet ceiling t routers r rate e f g. said_taken c ceiling t (path_calls.travel routers packet).said (path_calls.travel routers packet).left r (answer rate) e f g;
  is_refused = λ c packet ceiling t routers r n e f g. said_taken c ceiling t (path_calls.travel routers packet).said (path_calls.travel routers packet).left r (refuse n) e f g;
}
