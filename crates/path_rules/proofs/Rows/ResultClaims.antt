-- The claims on the calls for C: each number, what a run can answer, and that it says demand 3's verdict. Assumes nothing.
use Prim.Native.Nat.{ℕ, ◌+◌, ◌≤◌, ◌<◌}
use mathlib.Core.List.Permᴰ
use mathlib.Core.List.{List}
use mathlib.Core.Logic.{◌⊎◌, inl, inr}
use Rattle.std.specs.Prelude.{Option, None, Some}
use Rattle.wire_rules.specs.Walk.Walks.{Place}
use mathlib.Core.Path.{◌≡◌, refl, sym, ap, subst, ◌∙◌}
use native.Mathlib.Omega.{arith}
use borrow.Author.Tests.{ne_eqb}
use lib.ListN.{length}
use Rattle.common.specs.Lists.{Bytes}
use Rattle.common.proofs.Choice.{clash}
use Rattle.refusals.specs.Reply.{Reply, answer, refuse, Outcome, refusing}
use Rattle.refusals.proofs.ReplyLaws.{RefusedBy}
use Rattle.wire_rules.specs.declared.Request.{Request}
use Rattle.wire_rules.specs.Options.Responses.{ttl_diff}
use Rattle.wire_rules.proofs.Options.Claims.{ttl_diffs}
use Rattle.wire_rules.specs.Ipv4.Headers.{ip_ttl}
use Rattle.wire_rules.specs.Ipv4.Packets.{located}
use Rattle.wire_rules.specs.Ipv4.Views.{request_at, view}
use Rattle.wire_rules.proofs.Ipv4.OptionLaws.{viewed_by}
use Rattle.wire_rules.proofs.Ipv4.RefusalLaws.{view_by}
use Rattle.wire_rules.proofs.Ipv4.Claims.{viewing}
use Rattle.sender_rules.specs.declared.State.{State}
use Rattle.sender_rules.specs.declared.State.TheVariants.{Idle, Asked, Quick}
use Rattle.sender_rules.specs.declared.OpenRequest.{OpenRequest}
use Rattle.sender_rules.specs.declared.Before.{Before}
use Rattle.sender_rules.specs.declared.Connection.{Connection}
use Rattle.sender_rules.specs.Connections.Claims.{InRange}
use Rattle.sender_rules.proofs.Connections.Claims.{fresh}
use Rattle.wire_rules.specs.declared.Transport.{Transport}
use Rattle.path_rules.specs.declared.Router.{Router}
use Rattle.path_rules.specs.declared.Summary.{Summary}
use Rattle.path_rules.specs.Hops.Rows.{row_of}
use Rattle.path_rules.specs.Hops.Verdicts.{Verdict, lost, unanswered, not_accepted, accepted}
use Rattle.path_rules.specs.Hops.Claims.{spelled}
use Rattle.path_rules.proofs.Hops.Claims.{rows}
use Rattle.path_rules.specs.Path.Runs.{path_calls, Journey, journey, run_by, run_call}
use Rattle.path_rules.specs.Path.Demands.{Setting, verdict_by}
use Rattle.path_rules.specs.Path.Claims.{Demanded, InRanges, Starts, Arises}
use Rattle.path_rules.proofs.Path.PathLaws.{given, sent}
use Rattle.path_rules.proofs.Path.RunClaims.{either_ranges, running}
use Rattle.path_rules.proofs.Path.Claims.{path_law}
use Rattle.path_rules.proofs.Path.UnreadLaws.{call_alike}
use Rattle.path_rules.specs.Path.OwnSender.{window, ssthresh, own_transport}
use Rattle.path_rules.specs.declared.Hop.{Hop}
use Rattle.path_rules.specs.Rows.Rows.{routers_of, hops_row, hops_call}
use Rattle.path_rules.specs.Rows.Results.{summary_lent, open_for, verdict_result}
use Rattle.path_rules.specs.Rows.Claims.{Lent, Numbered, Refusable, RefusableOr11, CanBe, ForC}
use Rattle.path_rules.proofs.Rows.RowClaims.{routers_long, IsRow, either_row, agreeing, hop_calls}
use Rattle.path_rules.proofs.Rows.Claims.{hop_law}

-- ---- each number

same_rate : (rate : ℕ) → rate ≤ 15 → verdict_result (answer (accepted rate)) ≡ 100 + rate
same_rate rate h = omega (arith, h)

other_buffer : (numbers : List ℕ) (reply : Reply Summary) → (length numbers ≡ 3 → ⊥) → summary_lent numbers reply ≡ refuse 7
other_buffer numbers reply n = simp (ne_eqb (length numbers) 3 n)

pub numbered : Numbered
numbered = record {
  is_lost = refl;
  not_answered = refl;
  not_accepted_lem = λ n. refl;
  is_accepted = same_rate;
  not_run = λ n. refl;
  summed = refl;
  not_summed = λ n. refl;
  three = λ a b c s. refl;
  no_summary = λ a b c n. refl;
  other_buffer = other_buffer;
}

-- ---- the numbers apart

small : (n : ℕ) → RefusableOr11 n → n ≤ 15
small n (inl (inl h)) = omega (arith, h.1)
small n (inl (inr e)) = omega (arith, e)
small n (inr e) = omega (arith, e)

apart : (a b : Reply Verdict) → CanBe RefusableOr11 a → CanBe RefusableOr11 b → verdict_result a ≡ verdict_result b → a ≡ b
apart (refuse m) (refuse n) a b e = ap refuse e
apart (refuse m) (answer lost) a b e = absurd (omega (arith, e, small m a))
apart (refuse m) (answer unanswered) a b e = absurd (omega (arith, e, small m a))
apart (refuse m) (answer (not_accepted n)) a b e = absurd (omega (arith, e, small m a))
apart (refuse m) (answer (accepted n)) a b e = absurd (omega (arith, e, small m a))
apart (answer lost) (refuse n) a b e = absurd (omega (arith, e, small n b))
apart (answer lost) (answer lost) a b e = refl
apart (answer lost) (answer unanswered) a b e = absurd (omega (arith, e))
apart (answer lost) (answer (not_accepted n)) a b e = absurd (omega (arith, e))
apart (answer lost) (answer (accepted n)) a b e = absurd (omega (arith, e))
apart (answer unanswered) (refuse n) a b e = absurd (omega (arith, e, small n b))
apart (answer unanswered) (answer lost) a b e = absurd (omega (arith, e))
apart (answer unanswered) (answer unanswered) a b e = refl
apart (answer unanswered) (answer (not_accepted n)) a b e = absurd (omega (arith, e))
apart (answer unanswered) (answer (accepted n)) a b e = absurd (omega (arith, e))
apart (answer (not_accepted m)) (refuse n) a b e = absurd (omega (arith, e, small n b))
apart (answer (not_accepted m)) (answer lost) a b e = absurd (omega (arith, e))
apart (answer (not_accepted m)) (answer unanswered) a b e = absurd (omega (arith, e))
apart (answer (not_accepted m)) (answer (not_accepted n)) a b e = ap (λ (k : ℕ). answer (not_accepted k)) (omega (arith, e))
apart (answer (not_accepted m)) (answer (accepted n)) a b e = absurd (omega (arith, e, b.1))
apart (answer (accepted m)) (refuse n) a b e = absurd (omega (arith, e, small n b))
apart (answer (accepted m)) (answer lost) a b e = absurd (omega (arith, e))
apart (answer (accepted m)) (answer unanswered) a b e = absurd (omega (arith, e))
apart (answer (accepted m)) (answer (not_accepted n)) a b e = absurd (omega (arith, e, a.1))
apart (answer (accepted m)) (answer (accepted n)) a b e = ap (λ (k : ℕ). answer (accepted k)) (omega (arith, e, a.1, b.1))

-- ---- what a run over bytes can answer

module _ (P : ℕ → Type 0) (refusable : (n : ℕ) → Refusable n → P n) where
  arisen : (routers : List Router) (packet : List ℕ) (v : Verdict) → Arises routers packet v → CanBe P (answer v)
  arisen routers packet lost a = tt
  arisen routers packet unanswered a = tt
  arisen routers packet (not_accepted n) a = a
  arisen routers packet (accepted rate) a = a

  early : (n : ℕ) → 1 ≤ n → n ≤ 5 → P n
  early n low high = refusable n (inl (low, high))

  module _ (c : Connection) (eleven : (c.state ≡ Idle) ⊎ ((b : Before) × (c.state ≡ Quick b)) → P 11) where
    module _ (packet row : List ℕ) (ceiling : ℕ) (t : Transport) (bytes : Bytes packet) (row_bytes : Bytes row) (routers : List Router) (e : row_of 64 row ≡ answer routers) where
      abbrev Can : Type 0
      Can = CanBe P (run_call 64 c packet row ceiling t).said

      by_refusal : (n : ℕ) → P n → run_call 64 c packet row ceiling t ≡ refusing n (journey packet c) → Can
      by_refusal n h r = subst (CanBe P) (sym (ap (λ (o : Outcome Verdict Journey). o.said) r)) h

      module _ (g : InRanges c ceiling t) where
        by_state : (r : Request) → view (length packet) packet ≡ answer (record { ttl = ip_ttl packet; request = Some r }) → (s : State) → c.state ≡ s → Can
        by_state r v Idle f = by_refusal 11 (eleven (inl f)) (running.tests.eleven_idle c packet row ceiling t routers (ip_ttl packet) r e g v f)
        by_state r v (Quick b) f = by_refusal 11 (eleven (inr (b, f))) (running.tests.eleven_quick c packet row ceiling t routers (ip_ttl packet) r b e g v f)
        by_state r v (Asked q) f =
            let s : Starts c packet row ceiling t routers q (ip_ttl packet) r = record { row_is = e; ranges = g; viewed = v; waits = f } in
            subst (CanBe P) (sym (ap (λ (o : Outcome Verdict Journey). o.said) (running.tests.starts c packet row ceiling t routers q (ip_ttl packet) r s)))
            (arisen routers packet (run_by path_calls c t ceiling routers packet).verdict (running.arises c packet row ceiling t routers q (ip_ttl packet) r bytes row_bytes s))

        by_request : (x : Option Request) → view (length packet) packet ≡ answer (record { ttl = ip_ttl packet; request = x }) → Can
        by_request None v = by_refusal 4 (early 4 (omega arith) (omega arith)) (running.tests.four c packet row ceiling t routers (ip_ttl packet) e g v)
        by_request (Some r) v = by_state r v c.state refl

        by_place : (x : Reply Place) → located (length packet) packet ≡ x → Can
        by_place (refuse n) l =
            by_refusal n (subst (RefusedBy P) (viewing.refused (length packet) n packet l)
            (view_by P (early 1 (omega arith) (omega arith)) (early 2 (omega arith) (omega arith)) (early 3 (omega arith) (omega arith)) (early 5 (omega arith) (omega arith)) (length packet) packet))
            (running.tests.faulty c packet row ceiling t routers n e g l)
        by_place (answer place) l = by_request (request_at place packet) (viewed_by (length packet) packet place l)

      by_ranges : InRanges c ceiling t ⊎ (InRanges c ceiling t → ⊥) → Can
      by_ranges (inl g) = by_place g (located (length packet) packet) refl
      by_ranges (inr n) = by_refusal 7 (refusable 7 (inr refl)) (running.tests.seven c packet row ceiling t routers e n)

    module _ (packet : List ℕ) (hops : List Hop) (ceiling : ℕ) (t : Transport) (bytes : Bytes packet) where
      by_row : IsRow 64 hops ⊎ (IsRow 64 hops → ⊥) → CanBe P (hops_call 64 c packet hops ceiling t).said
      by_row (inl r) =
          let row = spelled (routers_of hops) in
          let w = agreeing.bytes hops r.1 in
          let few : length (routers_of hops) ≤ 64 = subst (λ (n : ℕ). n ≤ 64) (sym (routers_long hops)) r.0 in
          subst (CanBe P) (sym (ap (λ (o : Outcome Verdict Journey). o.said) (agreeing.run 64 hops row r.1 w.0 c packet ceiling t)))
          (by_ranges packet row ceiling t bytes w.1 (routers_of hops) (rows.reads 64 (routers_of hops) row w.0 few) (either_ranges c ceiling t))
      by_row (inr n) = subst (CanBe P) (sym (ap (λ (o : Outcome Verdict Journey). o.said) (hop_calls.running.seven c packet hops ceiling t n))) (refusable 7 (inr refl))

-- a record whose request is open is neither idle nor quick
not_waiting : {A : Type 0} (q : OpenRequest) → (Asked q ≡ Idle) ⊎ ((b : Before) × (Asked q ≡ Quick b)) → A
not_waiting q (inl e) = absurd (clash (cc))
not_waiting q (inr (b, e)) = absurd (clash (cc))

-- ---- the record that is made for C

own_in : (code diff nonce : ℕ) → 1 ≤ code → code ≤ 15 → nonce < 1073741824 → InRange (open_for code diff nonce)
own_in code diff nonce low high less =
    let f = fresh.in_range_lem window ssthresh (fresh.made window ssthresh (omega arith) (omega arith) (omega arith)) in
    record {
      window_low = f.window_low;
      window_high = f.window_high;
      ssthresh_high = f.ssthresh_high;
      state_in = (low, high, less);
      count_high = f.count_high;
      samples_in = f.samples_in;
    }

module _ (g : Setting) (hops : List Hop) (l : Lent g hops) where
  abbrev d : Demanded path_calls g
  d = l.demanded

  abbrev own : Connection
  own = open_for g.wish.code (ttl_diff g.wish.ttl g.wish.qs_ttl) g.wish.nonce

  -- the same setting with that record, and T, MSS and H of our own
  abbrev ours : Setting
  ours = record {
    connection = g.connection;
    wish = g.wish;
    buffer = g.buffer;
    packet = g.packet;
    waiting = own;
    transport = own_transport;
    ceiling = g.ceiling;
    routers = g.routers;
  }

  same_state : own.state ≡ (path_calls.ask g.connection g.wish g.buffer).left.connection.state
  same_state =
      let ttl : g.wish.ttl < 256 = omega (arith, (given g d).ttl_high) in
      let diff = ttl_diffs.only g.wish.ttl g.wish.qs_ttl (sent g d).diff ttl d.qs_byte (sent g d).diff_byte (sent g d).diff_is in
      ap (λ (n : ℕ). Asked (record { code = g.wish.code; ttl_diff = n; nonce = g.wish.nonce })) (sym diff) ∙ sym (ap (λ (c : Connection). c.state) (sent g d).connection_is)

  lent_for_c : Lent ours hops
  lent_for_c = record {
    demanded = record {
      qs_byte = d.qs_byte;
      asked = d.asked;
      carried = d.carried;
      still_open = same_state;
      waiting_in = own_in g.wish.code (ttl_diff g.wish.ttl g.wish.qs_ttl) g.wish.nonce (given g d).code_low (given g d).code_high (given g d).nonce_high;
      transport_given = record {
        rtt_low = omega arith;
        rtt_high = omega arith;
        mss_low = omega arith;
        mss_high = omega arith;
        headers_low = omega arith;
        headers_high = omega arith;
      };
      ceiling_high = d.ceiling_high;
      routers_given = d.routers_given;
    };
    row_is = l.row_is;
    hops_in = l.hops_in;
    few = l.few;
  }

  said_for_c : (hops_call 64 own g.packet hops g.ceiling own_transport).said ≡ answer (verdict_by path_calls g)
  said_for_c =
      hop_law.verdict ours hops lent_for_c ∙ ap answer (path_law.order ours g lent_for_c.demanded d (Permᴰ.refl g.routers) refl refl refl)

pub for_c : ForC
for_c = record {
  can_be = λ c packet hops ceiling t bytes. by_row RefusableOr11 (λ n h. inl h) c (λ u. inr refl) packet hops ceiling t bytes (either_row 64 hops);
  never_11 = λ code diff nonce packet hops ceiling t bytes.
      by_row Refusable (λ n h. h) (open_for code diff nonce) (not_waiting (record { code = code; ttl_diff = diff; nonce = nonce })) packet hops ceiling t bytes (either_row 64 hops);
  apart = apart;
  law = said_for_c;
  header_only_lem = λ c p q hops ceiling t s. call_alike (hops_row 64 hops) c p q ceiling t s;
  own_state = λ code diff nonce. refl;
  own_in = own_in;
  own_only = λ code diff nonce r. r.state_in;
}
