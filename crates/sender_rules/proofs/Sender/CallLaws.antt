-- Laws of the sender's calls, by the tests that lead to each reply. Assumes nothing.
use Prim.Native.Nat.{ℕ, ◌≤◌, ◌<◌, min, max}
use mathlib.Core.Bool.{Bool, true, false, ◌&&◌}
use mathlib.Core.List.{List}
use lib.Dec.{leb, ltb, eqb}
use mathlib.Core.Path.{◌≡◌, refl, sym, ap, ◌∙◌}
use borrow.Author.Tests.{le-leb, lt-leb, lt-ltb, le-ltb, eq-eqb, ne_eqb, ltb-true, eqb-true}
use lib.ListN.{length}
use Rattle.common.specs.Choice.{pick, within}
use Rattle.common.proofs.Choice.{clash, chosen, both_true, within_low, within_high}
use Rattle.refusals.specs.Reply.{Reply, answer, refuse, leaves, and_then}
use Rattle.refusals.proofs.ReplyLaws.{same_answer, passed}
use Rattle.wire_rules.specs.Rates.Steps.{top_code}
use Rattle.wire_rules.specs.Rates.Window.{longest_rtt, transport_in_range}
use Rattle.wire_rules.specs.declared.Response.{Response}
use Rattle.wire_rules.specs.Options.Wire.{option_length, nonce_limit}
use Rattle.wire_rules.specs.Options.Nonces.{agree}
use Rattle.wire_rules.specs.Options.Requests.{request_written}
use Rattle.wire_rules.proofs.Options.Claims.{request_round_trip}
use Rattle.sender_rules.specs.declared.OpenRequest.{OpenRequest}
use Rattle.sender_rules.specs.declared.State.{State}
use Rattle.sender_rules.specs.declared.State.TheVariants.{Idle, Quick}
use Rattle.sender_rules.specs.declared.Connection.{Connection}
use Rattle.sender_rules.specs.Connections.Records.{most_bytes, is_before, in_range, with_state, with_window}
use Rattle.sender_rules.specs.Sender.Calls.{sending, ask_in_range, is_busy, is_soon, asked, ask_reply, while_asked, while_quick, judged, taken, response_reply, granted, acknowledged_reply, loss_reply, give_up_reply}
use Rattle.wire_rules.specs.declared.Transport.{Transport}
use Rattle.sender_rules.specs.declared.Wish.{Wish}

-- ---- a response judged by the open request

module _ (q : OpenRequest) (r : Response) where
  pub rate_wrong : within 1 r.rate q.code ≡ false → refuse 13 ≡ judged q r
  unfolding judged
  rate_wrong e = simp e

  module _ (e : within 1 r.rate q.code ≡ true) where
    pub diff_wrong : (r.ttl_diff ≡ q.ttl_diff → ⊥) → refuse 14 ≡ judged q r
    unfolding judged
    diff_wrong n = simp (e, ne_eqb r.ttl_diff q.ttl_diff n)

    module _ (d : r.ttl_diff ≡ q.ttl_diff) where
      pub judged_by : (t : Bool) → agree r.rate q.nonce r.nonce ≡ t → pick t (answer r.rate) (refuse 15) ≡ judged q r
      unfolding judged
      judged_by t n = simp (e, eq-eqb r.ttl_diff q.ttl_diff d, n)

-- ---- an accepted rate

module _ (c : Connection) (window : ℕ) where
  pub not_above : window ≤ c.window → with_state c Idle ≡ granted c window
  unfolding granted
  not_above h = simp (le-ltb c.window window h)

  pub above : c.window < window → with_window (with_state c (Quick (record { window = c.window }))) window ≡ granted c window
  unfolding granted
  above h = simp (lt-ltb c.window window h)

-- ---- what was judged

module _ (q : OpenRequest) (r : Response) where
  -- an accepted rate is a code from 1 to the one asked
  pub fits_within : (n : ℕ) → answer n ≡ judged q r → (n ≡ r.rate) × (within 1 r.rate q.code ≡ true)
  unfolding judged
  fits_within n e =
      let p = passed (within 1 r.rate q.code) n _ 13 e in
      let s = passed (eqb r.ttl_diff q.ttl_diff) n _ 14 p.1 in
      let t = passed (agree r.rate q.nonce r.nonce) n _ 15 s.1 in
      (same_answer t.1, p.0)

  -- each of its refusals ends the request
  pub ends : (n : ℕ) → refuse n ≡ judged q r → within 13 n 15 ≡ true
  unfolding judged within
  ends n e = by_judgement (within 1 r.rate q.code) (eqb r.ttl_diff q.ttl_diff) (agree r.rate q.nonce r.nonce) e
    where
      by_judgement : (s t u : Bool) → refuse n ≡ pick s (pick t (pick u (answer r.rate) (refuse 15)) (refuse 14)) (refuse 13) → (leb 13 n && leb n 15) ≡ true
      by_judgement true true true f = absurd (clash (cc))
      by_judgement true true false f = let g : n ≡ 15 = cc in rw g refl
      by_judgement true false u f = let g : n ≡ 14 = cc in rw g refl
      by_judgement false t u f = let g : n ≡ 13 = cc in rw g refl

-- ---- replies by the tests that were passed, and by the state

module _ (c : Connection) where
  pub loss_out : in_range c ≡ false → refuse 7 ≡ loss_reply c
  loss_out e = simp e

  pub give_up_out : in_range c ≡ false → refuse 7 ≡ give_up_reply c
  give_up_out e = simp e

  pub response_out : (response : List ℕ) (t : Transport) → in_range c ≡ false → refuse 7 ≡ response_reply c response t
  response_out response t e = simp e

  pub ack_out : (flight : ℕ) → in_range c ≡ false → refuse 7 ≡ acknowledged_reply c flight
  ack_out flight e = simp e

  pub ask_out : (w : Wish) (buffer : List ℕ) → in_range c ≡ false → refuse 7 ≡ ask_reply c w buffer
  ask_out w buffer e = simp e

  module _ (e : in_range c ≡ true) (s : State) (f : c.state ≡ s) where
    pub loss_in : while_quick s (λ before. answer (with_window (with_state c Idle) (min c.window before.window))) ≡ loss_reply c
    loss_in = sym (chosen (in_range c) _ _ e ∙ ap (λ (x : State). while_quick x (λ before. answer (with_window (with_state c Idle) (min c.window before.window)))) f)

    pub give_up_in : while_asked s (λ request. answer (with_state c Idle)) ≡ give_up_reply c
    give_up_in = sym (chosen (in_range c) _ _ e ∙ ap (λ (x : State). while_asked x (λ request. answer (with_state c Idle))) f)

    pub ack_in : (flight : ℕ) → flight ≤ most_bytes
        → while_quick s (λ before. answer (with_window (with_state c Idle) (min c.window (max flight before.window)))) ≡ acknowledged_reply c flight
    ack_in flight h =
        let t : (in_range c && leb flight most_bytes) ≡ true = simp (e, le-leb flight most_bytes h) in
        sym (chosen (in_range c && leb flight most_bytes) _ _ t ∙ ap (λ (x : State). while_quick x (λ before. answer (with_window (with_state c Idle) (min c.window (max flight before.window))))) f)

    pub response_in : (response : List ℕ) (t : Transport) → transport_in_range t.rtt t.mss t.headers ≡ true → length response ≡ option_length
        → while_asked s (λ request. taken request response) ≡ response_reply c response t
    response_in response t g h =
        let in_all : (in_range c && transport_in_range t.rtt t.mss t.headers && eqb (length response) option_length) ≡ true = simp (e, g, eq-eqb (length response) option_length h) in
        sym (chosen (in_range c && transport_in_range t.rtt t.mss t.headers && eqb (length response) option_length) _ _ in_all ∙ ap (λ (x : State). while_asked x (λ request. taken request response)) f)

  module _ (e : in_range c ≡ true) where
    pub ack_flight_out : (flight : ℕ) → most_bytes < flight → refuse 7 ≡ acknowledged_reply c flight
    ack_flight_out flight h = simp (e, lt-leb flight most_bytes h)

    pub response_transport_out : (response : List ℕ) (t : Transport) → transport_in_range t.rtt t.mss t.headers ≡ false → refuse 7 ≡ response_reply c response t
    response_transport_out response t f = simp (e, f)

    pub response_length_out : (response : List ℕ) (t : Transport) → transport_in_range t.rtt t.mss t.headers ≡ true → (length response ≡ option_length → ⊥)
        → refuse 7 ≡ response_reply c response t
    response_length_out response t f n = simp (e, f, ne_eqb (length response) option_length n)

-- ---- an asking, test by test

-- the facts of an asking in range
pub record AskFacts (code ttl nonce rtt room : ℕ) : Type 0 where
  pub code_low : 1 ≤ code
  pub code_high : code ≤ top_code
  pub ttl_low : 1 ≤ ttl
  pub ttl_high : ttl ≤ 255
  pub nonce_high : nonce < nonce_limit
  pub rtt_low : 1 ≤ rtt
  pub rtt_high : rtt ≤ longest_rtt
  pub room_is : room ≡ option_length

pub ask_facts : (code ttl nonce rtt room : ℕ) → ask_in_range code ttl nonce rtt room ≡ true → AskFacts code ttl nonce rtt room
unfolding ask_in_range
ask_facts code ttl nonce rtt room e =
    let k = within 1 code top_code in
    let t = within 1 ttl 255 in
    let n = ltb nonce nonce_limit in
    let r = within 1 rtt longest_rtt in
    let a = both_true (k && t && n && r) (eqb room option_length) e in
    let b = both_true (k && t && n) r a.0 in
    let d = both_true (k && t) n b.0 in
    let f = both_true k t d.0 in
    record {
      code_low = within_low 1 code top_code f.0;
      code_high = within_high 1 code top_code f.0;
      ttl_low = within_low 1 ttl 255 f.1;
      ttl_high = within_high 1 ttl 255 f.1;
      nonce_high = ltb-true nonce nonce_limit d.1;
      rtt_low = within_low 1 rtt longest_rtt b.1;
      rtt_high = within_high 1 rtt longest_rtt b.1;
      room_is = eqb-true room option_length a.1;
    }

module _ (c : Connection) (w : Wish) (buffer : List ℕ) (e : in_range c ≡ true) where
  pub ask_numbers_out : ask_in_range w.code w.ttl w.nonce w.rtt (length buffer) ≡ false → refuse 7 ≡ ask_reply c w buffer
  ask_numbers_out f = simp (e, f)

  module _ (f : ask_in_range w.code w.ttl w.nonce w.rtt (length buffer) ≡ true) where
    pub ask_early : is_before w.time c.last_request ≡ true → refuse 9 ≡ ask_reply c w buffer
    ask_early g = simp (e, f, g)

    module _ (g : is_before w.time c.last_request ≡ false) where
      pub ask_busy : is_busy c.state ≡ true → refuse 10 ≡ ask_reply c w buffer
      ask_busy h = simp (e, f, g, h)

      module _ (h : is_busy c.state ≡ false) where
        pub ask_soon : is_soon w.time w.rtt c.last_request ≡ true → refuse 10 ≡ ask_reply c w buffer
        ask_soon k = simp (e, f, g, h, k)

        pub ask_sent : is_soon w.time w.rtt c.last_request ≡ false → (new : List ℕ) → new ≡ leaves buffer (request_written buffer w.code w.qs_ttl w.nonce)
            → answer (sending (asked c w) new) ≡ ask_reply c w buffer
        ask_sent k new l =
            let a = ask_facts w.code w.ttl w.nonce w.rtt (length buffer) f in
            let b = request_round_trip.accepted buffer w.code w.qs_ttl w.nonce a.room_is a.code_high a.nonce_high in
            ap (λ (x : List ℕ). answer (sending (asked c w) x)) (l ∙ ap (leaves buffer) b.1)
            ∙ ap (λ (x : Reply (List ℕ)). and_then x (λ request. answer (sending (asked c w) request))) (sym b.1)
            ∙ simp (e, f, g, h, k)
