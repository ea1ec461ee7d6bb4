-- The claims of specs/Receiver/Claims.antt. Assumes nothing.
use Prim.Native.Nat.{ℕ, ◌+◌, ◌/◌, ◌≤◌, ◌<◌, min}
use mathlib.Core.Bool.{Bool, true, false}
use mathlib.Core.List.{List}
use mathlib.Core.Logic.{◌⊎◌, inl, inr, ⊎_elim}
use Rattle.std.specs.Prelude.{Option, None, Some}
use Rattle.wire_rules.specs.Walk.Walks.{Place}
use mathlib.Core.Path.{◌≡◌, refl, sym, ap, ap₂, subst, ◌∙◌}
use native.Mathlib.Omega.{arith}
use lib.Dec.{leb, eqb}
use borrow.Author.Tests.{le-leb, eq-eqb, leb-true, eqb-true, eqb-false}
use lib.ListN.{length, get_or}
use Rattle.common.specs.Choice.{pick}
use Rattle.common.specs.Lists.{Bytes}
use Rattle.common.proofs.Choice.{clash, chosen, untrue, either, both_true, le_or_gt}
use Rattle.refusals.specs.Reply.{Reply, answer, refuse, leaves, and_then}
use Rattle.refusals.proofs.ReplyLaws.{same_answer, passed, through}
use Rattle.wire_rules.specs.Rates.Steps.{top_code}
use Rattle.wire_rules.specs.declared.Request.{Request}
use Rattle.wire_rules.specs.declared.Response.{Response}
use Rattle.wire_rules.specs.Options.Wire.{option_length, nonce_limit, high_half, reserved_in}
use Rattle.wire_rules.specs.Options.Responses.{ttl_diff, response_read, response_written}
use Rattle.wire_rules.proofs.Options.Claims.{response_round_trip, ttl_diffs}
use Rattle.wire_rules.specs.Ipv4.Packets.{located}
use Rattle.wire_rules.specs.Ipv4.Views.{View, view}
use Rattle.wire_rules.specs.Ipv4.Claims.{RequestFits}
use Rattle.wire_rules.proofs.Ipv4.Claims.{viewing}
use Rattle.wire_rules.proofs.Ipv4.Claims as packets
use Rattle.gateway_rules.specs.Receiver.Reports.{reported, report_reply, receiver_in_range, received, response_after}
use Rattle.gateway_rules.specs.Receiver.Claims.{Receiver, Given, Reports, Receiving, Responding, Saying, ReceivingTheorem, ReceivingOnly, BehindHeader}
use Rattle.gateway_rules.proofs.Receiver.ReportLaws.{no_report, report_is, received_seven}

-- ---- ranges

ok_given : (ceiling room : ℕ) → Given ceiling room → receiver_in_range ceiling room ≡ true
unfolding receiver_in_range
ok_given ceiling room g = simp (le-leb ceiling top_code g.ceiling_high, eq-eqb room option_length g.room_is)

given_ok : (ceiling room : ℕ) → receiver_in_range ceiling room ≡ true → Given ceiling room
unfolding receiver_in_range
given_ok ceiling room e =
    let b = both_true (leb ceiling top_code) (eqb room option_length) e in
    record { ceiling_high = leb-true ceiling top_code b.0; room_is = eqb-true room option_length b.1 }

-- the numbers are in their ranges, or they are not
either_given : (ceiling room : ℕ) → Given ceiling room ⊎ (Given ceiling room → ⊥)
either_given ceiling room = either (receiver_in_range ceiling room) (given_ok ceiling room) (ok_given ceiling room)

not_given : (ceiling room : ℕ) → (Given ceiling room → ⊥) → receiver_in_range ceiling room ≡ false
not_given ceiling room n = untrue (receiver_in_range ceiling room) (λ e. n (given_ok ceiling room e))

-- ---- what is reported

by_view : (reach ceiling room : ℕ) (packet : List ℕ) (seen : Reply View) → Given ceiling room → view reach packet ≡ seen
    → received reach ceiling room packet ≡ and_then seen (λ v. report_reply ceiling v.ttl v.request)
by_view reach ceiling room packet seen g e =
    chosen (receiver_in_range ceiling room) _ _ (ok_given ceiling room g) ∙ ap (λ (s : Reply View). and_then s (λ v. report_reply ceiling v.ttl v.request)) e

-- the rate to report is 0, or it is not
silent_rate : (ceiling : ℕ) (r : Request) → (r.rate ≡ 0) ⊎ (ceiling ≡ 0) → min r.rate ceiling ≡ 0
silent_rate ceiling r (inl z) = omega arith
silent_rate ceiling r (inr z) = omega arith

abbrev report_of : ℕ → ℕ → Request → Response
report_of ceiling ttl r = record { rate = min r.rate ceiling; ttl_diff = ttl_diff ttl r.qs_ttl; nonce = r.nonce }

reports_it : (ceiling ttl : ℕ) (r : Request) → ttl < 256 → r.qs_ttl < 256 → Reports r ttl ceiling (report_of ceiling ttl r)
reports_it ceiling ttl r t q = record { least = refl; diff_byte = ttl_diffs.byte ttl r.qs_ttl; diff_is = ttl_diffs.rule ttl r.qs_ttl t q; nonce_is = refl }

reports_only : (ceiling ttl : ℕ) (r : Request) (response : Response) → ttl < 256 → r.qs_ttl < 256 → Reports r ttl ceiling response → response ≡ report_of ceiling ttl r
reports_only ceiling ttl r response t q a =
    ap₂ (λ (k d : ℕ). record { rate = k; ttl_diff = d; nonce = response.nonce }) a.least (ttl_diffs.only ttl r.qs_ttl response.ttl_diff t q a.diff_byte a.diff_is)
    ∙ ap (λ (n : ℕ). record { rate = min r.rate ceiling; ttl_diff = ttl_diff ttl r.qs_ttl; nonce = n }) a.nonce_is

-- a request that was viewed was read from bytes
read_fits : (reach ttl : ℕ) (packet : List ℕ) (r : Request) → Bytes packet → view reach packet ≡ answer (record { ttl = ttl; request = Some r }) → (ttl < 256) × RequestFits r
read_fits reach ttl packet r b e = let f = viewing.fits reach packet (record { ttl = ttl; request = Some r }) b e in (f.ttl_small, f.request_fits)

receiving : Receiving received
receiving = record {
  seven = λ reach ceiling room packet n. sym (received_seven reach ceiling room packet (not_given ceiling room n));
  faulty = λ reach ceiling room n packet g e. by_view reach ceiling room packet (refuse n) g (viewing.refused reach n packet e);
  no_option = λ reach ceiling room packet g e. by_view reach ceiling room packet (answer _) g (viewing.shows_none reach packet e);
  other_function = λ reach ceiling room place packet g e f. by_view reach ceiling room packet (answer _) g (viewing.shows_other reach place packet e f);
  silent = λ reach ceiling room ttl packet r g e z. by_view reach ceiling room packet (answer _) g e ∙ ap answer (sym (no_report ceiling ttl r (silent_rate ceiling r z)));
  answers = λ reach ceiling room ttl packet r b g e h k.
      let f = read_fits reach ttl packet r b e in (
        report_of ceiling ttl r,
        reports_it ceiling ttl r f.0 f.1.ttl_fits,
        by_view reach ceiling room packet (answer _) g e ∙ ap answer (sym (report_is ceiling ttl r (λ z. absurd (omega arith)))),
      );
}

-- ---- the response buffer

-- what a report came from
record ReportedBy (reach ceiling room : ℕ) (packet : List ℕ) (response : Response) : Type 0 where
  pub is_given : Given ceiling room
  pub rate_fits : response.rate ≤ top_code
  pub nonce_fits : response.nonce < nonce_limit

reported_by : (reach ceiling room : ℕ) (packet : List ℕ) (response : Response) → Bytes packet → received reach ceiling room packet ≡ answer (reported response)
    → ReportedBy reach ceiling room packet response
reported_by reach ceiling room packet response b e =
    let t = passed (receiver_in_range ceiling room) (reported response) _ 7 (sym e) in
    let s = through (view reach packet) (λ v. report_reply ceiling v.ttl v.request) (reported response) (sym t.1) in
    go (given_ok ceiling room t.0) s.0.ttl s.0.request s.1 s.2
  where
    go : Given ceiling room → (ttl : ℕ) (x : Option Request) → view reach packet ≡ answer (record { ttl = ttl; request = x }) → report_reply ceiling ttl x ≡ answer (reported response)
        → ReportedBy reach ceiling room packet response
    go g ttl None v a = absurd (clash (cc))
    go g ttl (Some r) v a =
        let f = (read_fits reach ttl packet r b v).1 in
        let rate = f.rate_fits in
        ⊎_elim
        (λ (z : min r.rate ceiling ≤ 0). absurd (clash (let x = no_report ceiling ttl r (omega arith) ∙ same_answer a in cc)))
        (λ (n : 0 < min r.rate ceiling).
        let is : report_of ceiling ttl r ≡ response = let x = report_is ceiling ttl r (λ z. absurd (omega arith)) ∙ same_answer a in cc in
        record {
          is_given = g;
          rate_fits = subst (λ (q : Response). q.rate ≤ top_code) is (omega arith);
          nonce_fits = subst (λ (q : Response). q.nonce < nonce_limit) is f.nonce_fits;
        })
        (le_or_gt (min r.rate ceiling) 0)

-- so it is written
written_out : (reach ceiling : ℕ) (packet old : List ℕ) (response : Response) → Bytes packet → received reach ceiling (length old) packet ≡ answer (reported response)
    → (new : List ℕ) × (response_written old response.rate response.ttl_diff response.nonce ≡ answer new) × (response_after old (received reach ceiling (length old) packet) ≡ new)
written_out reach ceiling packet old response b e =
    let k = reported_by reach ceiling (length old) packet response b e in
    let w = response_round_trip.accepted old response.rate response.ttl_diff response.nonce k.is_given.room_is k.rate_fits k.nonce_fits in
    (w.0, w.1, ap (response_after old) e ∙ ap (leaves old) w.1)

pub responding : Responding
responding = record {
  refused = λ n old. refl;
  unwritten = λ old. refl;
  reads = λ reach ceiling packet old response b e.
      let w = written_out reach ceiling packet old response b e in
      ap response_read w.2 ∙ response_round_trip.written old w.0 response.rate response.ttl_diff response.nonce w.1;
  reserved = λ reach ceiling packet old response b e.
      let w = written_out reach ceiling packet old response b e in
      let z = response_round_trip.written_reserved old w.0 response.rate response.ttl_diff response.nonce w.1 in
      (ap (λ (l : List ℕ). high_half l) w.2 ∙ z.0, ap (λ (l : List ℕ). reserved_in l) w.2 ∙ z.1);
}

-- ---- one receiver only

module _ (receiver : Receiver) (c : Receiving receiver) (reach ceiling room : ℕ) (packet : List ℕ) (b : Bytes packet) where
  abbrev Same : Type 0
  Same = receiver reach ceiling room packet ≡ received reach ceiling room packet

  same_request : Given ceiling room → (ttl : ℕ) (r : Request) → view reach packet ≡ answer (record { ttl = ttl; request = Some r }) → Same
  same_request g ttl r v = ⊎_elim (λ (z : r.rate ≤ 0). quiet (inl (omega arith))) (λ (h : 0 < r.rate). ⊎_elim (λ (z : ceiling ≤ 0). quiet (inr (omega arith))) (λ (k : 0 < ceiling). loud h k) (le_or_gt ceiling 0)) (le_or_gt r.rate 0)
    where
      quiet : (r.rate ≡ 0) ⊎ (ceiling ≡ 0) → Same
      quiet z = c.silent reach ceiling room ttl packet r g v z ∙ sym (receiving.silent reach ceiling room ttl packet r g v z)

      loud : 1 ≤ r.rate → 1 ≤ ceiling → Same
      loud h k =
          let f = read_fits reach ttl packet r b v in
          let theirs = c.answers reach ceiling room ttl packet r b g v h k in
          let ours = receiving.answers reach ceiling room ttl packet r b g v h k in
          theirs.2
          ∙ ap (λ (q : Response). answer (reported q)) (reports_only ceiling ttl r theirs.0 f.0 f.1.ttl_fits theirs.1 ∙ sym (reports_only ceiling ttl r ours.0 f.0 f.1.ttl_fits ours.1))
          ∙ sym ours.2

  same_place : Given ceiling room → (place : Reply Place) → located reach packet ≡ place → Same
  same_place g (refuse n) e = c.faulty reach ceiling room n packet g e ∙ sym (receiving.faulty reach ceiling room n packet g e)
  same_place g (answer None) e = c.no_option reach ceiling room packet g e ∙ sym (receiving.no_option reach ceiling room packet g e)
  same_place g (answer (Some o)) e = by_function (eqb (get_or packet (o + 2) 0 / 16) 0) refl
    where
      by_function : (t : Bool) → eqb (get_or packet (o + 2) 0 / 16) 0 ≡ t → Same
      by_function true z = same_request g _ _ (viewing.shows reach o packet e (eqb-true (get_or packet (o + 2) 0 / 16) 0 z))
      by_function false z =
          let other = eqb-false (get_or packet (o + 2) 0 / 16) 0 z in
          c.other_function reach ceiling room o packet g e other ∙ sym (receiving.other_function reach ceiling room o packet g e other)

  same_report : Same
  same_report = ⊎_elim (λ (g : Given ceiling room). same_place g (located reach packet) refl) (λ (n : Given ceiling room → ⊥). c.seven reach ceiling room packet n ∙ sym (receiving.seven reach ceiling room packet n)) (either_given ceiling room)

pub receiving_only : ReceivingOnly
receiving_only = same_report

pub receiving_theorem : ReceivingTheorem
receiving_theorem = receiving

pub behind_header : BehindHeader
behind_header reach ceiling room p q s =
    ap (λ (seen : Reply View). pick (receiver_in_range ceiling room) (and_then seen (λ v. report_reply ceiling v.ttl v.request)) (refuse 7)) ((packets.behind_header).views reach p q s)

pub saying : Saying
saying = record { answered = λ r. refl; silent = refl; refused = λ n. refl }
