-- The claims of specs/Sender/Claims.antt. Assumes nothing.
use Prim.Native.Nat.{ℕ, ◌≤◌, ◌<◌, min, max}
use mathlib.Core.Bool.{Bool, true, false, ◌&&◌}
use mathlib.Core.List.{List, [], ◌∷◌}
use mathlib.Core.Logic.{◌⊎◌, inl, inr, ⊎_elim}
use mathlib.Core.Path.{◌≡◌, refl, sym, ap, subst, ◌∙◌}
use native.Mathlib.Nat.{le_refl}
use native.Mathlib.Omega.{arith}
use lib.Dec.{leb, eqb, lit<, lit≤}
use lib.ListN.{length}
use Rattle.common.specs.Choice.{pick, within}
use Rattle.common.proofs.Choice.{clash, chosen, by_test, by_ltb, both_true, within_low, within_high, in_within, le_or_gt}
use Rattle.refusals.specs.Reply.{Reply, answer, refuse, Outcome}
use Rattle.refusals.proofs.ReplyLaws.{same_answer, passed, let_through, through, left_by, left_as_it_was, refused_by}
use Rattle.wire_rules.specs.Rates.Window.{transport_in_range, window_bytes}
use Rattle.wire_rules.proofs.Rates.WindowLaws.{window_most}
use Rattle.wire_rules.specs.declared.Request.{Request}
use Rattle.wire_rules.specs.declared.Response.{Response}
use Rattle.wire_rules.specs.Options.Wire.{option_length, fields_fit, option_bytes, word_of, rate_in, ttl_in, nonce_in}
use Rattle.wire_rules.specs.Options.Nonces.{fields_up_to, agree}
use Rattle.wire_rules.specs.Options.Requests.{is_request, request_written}
use Rattle.wire_rules.specs.Options.Responses.{is_response, response_read}
use Rattle.sender_rules.specs.declared.OpenRequest.{OpenRequest}
use Rattle.sender_rules.specs.declared.Before.{Before}
use Rattle.sender_rules.specs.declared.State.{State}
use Rattle.sender_rules.specs.declared.State.TheVariants.{Idle, Asked, Quick}
use Rattle.std.specs.Prelude.{None, Some}
use Rattle.sender_rules.specs.declared.Connection.{Connection}
use Rattle.sender_rules.specs.Connections.Records.{most_bytes, state_in_range, bytes_in_range, is_before, in_range, fresh_with, with_state}
use Rattle.sender_rules.specs.Connections.Claims.{StateInRange, InRange}
use Rattle.sender_rules.proofs.Connections.Claims.{ranges}
use Rattle.sender_rules.proofs.Connections.PartLaws.{state_part, window_part, request_part}
use Rattle.sender_rules.specs.Sender.Calls.{wish, transport, Sending, sending, asked, ask_in_range, is_busy, is_soon, ask_reply, while_asked, while_quick, judged, taken, response_reply, granted, after_response, back_to, acknowledged_reply, loss_reply, give_up_reply, sender_calls}
use Rattle.wire_rules.specs.declared.Transport.{Transport}
use Rattle.sender_rules.specs.declared.Wish.{Wish}
use Rattle.sender_rules.specs.Sender.Claims.{Lending, Ours, SenderOnly, Sent, Asks, Takes, StaysInRange, Unchanged, Windows, asking_by, taking_by, ShutOut}
use Rattle.sender_rules.proofs.Sender.CallLaws.{ask_facts}
use Rattle.sender_rules.proofs.Sender.CallLaws as laws
use Rattle.sender_rules.proofs.Sender.AskClaims.{asks, ask_only}
use Rattle.sender_rules.proofs.Sender.ResponseClaims.{takes, respond_only, accepted_had, given}
use Rattle.sender_rules.proofs.Sender.EndClaims.{ends, ack_only, loss_only, give_up_only}

pub lending : Lending
lending = record { wish_is = λ code ttl qs nonce rtt time. refl; transport_is = λ rtt mss headers. refl; sending_is = λ c request. refl }

pub ours : Ours
ours = record { asks = asks; takes = takes; ends = ends }

pub sender_only : SenderOnly
sender_only = record {
  ask = λ s a c w buffer byte. ask_only s a c w buffer byte;
  take_response = λ s a c response t. respond_only s a c response t;
  acknowledged = λ s a c flight. ack_only s a c flight;
  lost = λ s a c. loss_only s a c;
  gave_up = λ s a c. give_up_only s a c;
}

-- ---- in range

module _ (c : Connection) (w : Wish) (buffer : List ℕ) where
  -- an asking that was answered passed every test
  ask_answered : (a : Sending) → ask_reply c w buffer ≡ answer a
      → (ask_in_range w.code w.ttl w.nonce w.rtt (length buffer) ≡ true) × (asked c w ≡ a.connection)
  ask_answered a e =
      let all = passed (in_range c && ask_in_range w.code w.ttl w.nonce w.rtt (length buffer)) a _ 7 (sym e) in
      let late = let_through (is_before w.time c.last_request) a _ 9 all.1 in
      let free = let_through (is_busy c.state) a _ 10 late.1 in
      let waited = let_through (is_soon w.time w.rtt c.last_request) a _ 10 free.1 in
      let written = through (request_written buffer w.code w.qs_ttl w.nonce) (λ request. answer (sending (asked c w) request)) a (sym waited.1) in
      ((both_true (in_range c) (ask_in_range w.code w.ttl w.nonce w.rtt (length buffer)) all.0).1, ap (λ (s : Sending). s.connection) (same_answer written.2))

  ask_stays : InRange c → InRange (sender_calls.ask c w buffer).left.connection
  ask_stays i =
      left_by (λ (s : Sending). InRange s.connection) (sending c buffer) (ask_reply c w buffer) i
      (λ a e.
      let k = ask_answered a e in
      let f = ask_facts w.code w.ttl w.nonce w.rtt (length buffer) k.0 in
      subst InRange k.1 (request_part (with_state c _) (state_part c i _ (f.code_low, f.code_high, f.nonce_high)) _))

-- the record that a grant leaves
granted_stays : (c : Connection) (window : ℕ) → InRange c → window ≤ most_bytes → InRange (granted c window)
unfolding granted
granted_stays c window i h =
    by_ltb InRange c.window window
    (λ above. window_part (with_state c _) (state_part c i (Quick (record { window = c.window })) (i.window_low, i.window_high)) window (let low = i.window_low in omega arith) h)
    (λ below. state_part c i Idle tt)

module _ (c : Connection) (response : List ℕ) (t : Transport) where
  by_said : InRange c → (x : Reply ℕ) → response_reply c response t ≡ x → InRange (after_response c t x)
  by_said i (refuse n) e = by_test InRange (within 13 n 15) (λ ends. state_part c i Idle tt) (λ stays. i)
  by_said i (answer rate) e =
      let had = accepted_had c response t rate e in
      let q = had.1 in
      let fits = had.6.rate in
      let asked_in : (1 ≤ q.code) × (q.code ≤ 15) × (q.nonce < 1073741824) = subst StateInRange had.3 i.state_in in
      let same = had.5 in
      let high = fits.high in
      let g = had.0 in
      let most = window_most rate t.rtt t.mss t.headers (omega (arith, asked_in.1)) g.rtt_high in
      granted_stays c (window_bytes rate t.rtt t.mss t.headers) i (omega arith)

-- idle again, with a window that lies between 1 and the one it had
back_stays : (c : Connection) (n : ℕ) → InRange c → 1 ≤ n → InRange (back_to c n)
back_stays c n i l =
    let low = i.window_low in
    let high = i.window_high in
    window_part (with_state c Idle) (state_part c i Idle tt) (min c.window n) (omega arith) (omega arith)

module _ (c : Connection) (i : InRange c) where
  quick_stays : (next : Before → ℕ) → ((b : Before) → 1 ≤ b.window → 1 ≤ next b) → (st : State) → StateInRange st
      → (d : Connection) → while_quick st (λ before. answer (back_to c (next before))) ≡ answer d → InRange d
  quick_stays next low Idle s d e = absurd (clash (cc))
  quick_stays next low (Asked q) s d e = absurd (clash (cc))
  quick_stays next low (Quick b) s d e = subst InRange (same_answer e) (back_stays c (next b) i (low b s.0))

  asked_stays : (st : State) (d : Connection) → while_asked st (λ request. answer (with_state c Idle)) ≡ answer d → InRange d
  asked_stays Idle d e = absurd (clash (cc))
  asked_stays (Quick b) d e = absurd (clash (cc))
  asked_stays (Asked q) d e = subst InRange (same_answer e) (state_part c i Idle tt)

pub stays_in_range : StaysInRange
stays_in_range = record {
  ask = ask_stays;
  take_response = λ c response t i. by_said c response t i (response_reply c response t) refl;
  acknowledged = λ c flight i.
      left_by InRange c (acknowledged_reply c flight) i
      (λ d e. quick_stays c i (λ b. max flight b.window) (λ b l. omega arith) c.state i.state_in d (sym (passed (in_range c && leb flight most_bytes) d _ 7 (sym e)).1));
  lost = λ c i. left_by InRange c (loss_reply c) i (λ d e. quick_stays c i (λ b. b.window) (λ b l. l) c.state i.state_in d (sym (passed (in_range c) d _ 7 (sym e)).1));
  gave_up = λ c i. left_by InRange c (give_up_reply c) i (λ d e. asked_stays c i c.state d (sym (passed (in_range c) d _ 7 (sym e)).1));
}

-- ---- refused calls

-- which numbers a response can be refused with
numbers : (c : Connection) (response : List ℕ) (t : Transport) (n : ℕ) → response_reply c response t ≡ refuse n → n ≤ 15
numbers c response t n e = go (in_range c && transport_in_range t.rtt t.mss t.headers && eqb (length response) option_length) e
  where
    read_numbers : (a b : Bool) (r : Response) → pick a (pick b (answer r) (refuse 12)) (refuse 7) ≡ refuse n → n ≤ 15
    read_numbers true true r f = absurd (clash (cc))
    read_numbers true false r f = let g : 12 ≡ n = cc in omega arith
    read_numbers false b r f = let g : 7 ≡ n = cc in omega arith

    taken_numbers : (q : OpenRequest) → taken q response ≡ refuse n → n ≤ 15
    taken_numbers q f =
        ⊎_elim
        (λ (r : response_read response ≡ refuse n). read_numbers (eqb (length response) option_length) (is_response response) (record { rate = rate_in response; ttl_diff = ttl_in response; nonce = nonce_in response }) r)
        (λ (r : (a : Response) × (response_read response ≡ answer a) × (judged q a ≡ refuse n)). within_high 13 n 15 (laws.ends q r.0 n (sym r.2)))
        (refused_by (response_read response) (judged q) n f)

    state_numbers : (s : State) → while_asked s (λ request. taken request response) ≡ refuse n → n ≤ 15
    state_numbers Idle f = let g : 11 ≡ n = cc in omega arith
    state_numbers (Quick b) f = let g : 11 ≡ n = cc in omega arith
    state_numbers (Asked q) f = taken_numbers q f

    go : (b : Bool) → pick b (while_asked c.state (λ request. taken request response)) (refuse 7) ≡ refuse n → n ≤ 15
    go true f = state_numbers c.state f
    go false f = let g : 7 ≡ n = cc in omega arith

module _ (c : Connection) (response : List ℕ) (t : Transport) where
  respond_left : (n : ℕ) → response_reply c response t ≡ refuse n → (b : Bool) → within 13 n 15 ≡ b
      → ((n ≤ 12) × ((sender_calls.take_response c response t).left ≡ c)) ⊎ ((13 ≤ n) × (n ≤ 15) × ((sender_calls.take_response c response t).left ≡ with_state c Idle))
  respond_left n e true b = inr (within_low 13 n 15 b, within_high 13 n 15 b, ap (after_response c t) e ∙ chosen (within 13 n 15) _ _ b)
  respond_left n e false b = inl (below (within 13 n 15) refl, ap (after_response c t) e ∙ ap (λ (x : Bool). pick x (with_state c Idle) c) b)
    where
      below : (x : Bool) → within 13 n 15 ≡ x → n ≤ 12
      below x f =
          ⊎_elim
          (λ (l : n ≤ 12). l)
          (λ (h : 12 < n). let i : within 13 n 15 ≡ true = in_within 13 n 15 (omega arith) (numbers c response t n e) in absurd (clash (cc)))
          (le_or_gt n 12)

pub unchanged : Unchanged
unchanged = record {
  ask = λ c w buffer n e. left_as_it_was (sending c buffer) (ask_reply c w buffer) n e;
  take_response = λ c response t n e. respond_left c response t n e (within 13 n 15) refl;
  acknowledged = λ c flight n e. left_as_it_was c (acknowledged_reply c flight) n e;
  lost = λ c n e. left_as_it_was c (loss_reply c) n e;
  gave_up = λ c n e. left_as_it_was c (give_up_reply c) n e;
}

-- ---- windows

module _ (c : Connection) where
  granted_window : (window : ℕ) → c.window ≤ (granted c window).window
  unfolding granted
  granted_window window = by_ltb (λ (d : Connection). c.window ≤ d.window) c.window window (λ above. omega arith) (λ below. le_refl c.window)

  said_window : (t : Transport) (x : Reply ℕ) → c.window ≤ (after_response c t x).window
  said_window t (answer rate) = granted_window (window_bytes rate t.rtt t.mss t.headers)
  said_window t (refuse n) = by_test (λ (d : Connection). c.window ≤ d.window) (within 13 n 15) (λ e. le_refl c.window) (λ e. le_refl c.window)

  quick_window_lem : (next : Before → ℕ) (st : State) (d : Connection) → while_quick st (λ before. answer (back_to c (next before))) ≡ answer d
      → d.window ≤ c.window
  quick_window_lem next Idle d e = absurd (clash (cc))
  quick_window_lem next (Asked q) d e = absurd (clash (cc))
  quick_window_lem next (Quick b) d e = subst (λ (x : Connection). x.window ≤ c.window) (same_answer e) (omega arith)

pub windows : Windows
windows = record {
  take_response = λ c response t. said_window c t (response_reply c response t);
  acknowledged = λ c flight.
      left_by (λ (d : Connection). d.window ≤ c.window) c (acknowledged_reply c flight) (le_refl c.window)
      (λ d e. quick_window_lem c (λ b. max flight b.window) c.state d (sym (passed (in_range c && leb flight most_bytes) d _ 7 (sym e)).1));
  lost = λ c.
      left_by (λ (d : Connection). d.window ≤ c.window) c (loss_reply c) (le_refl c.window)
      (λ d e. quick_window_lem c (λ b. b.window) c.state d (sym (passed (in_range c) d _ 7 (sym e)).1));
  lost_before = λ c b i f.
      subst (λ (o : Outcome (Unit {0}) Connection). o.left.window ≤ b.window) (sym (ends.loss_quick c b i f)) (omega arith);
}

-- ---- senders that are shut out

-- a record that has asked for code 2, and the response that grants it
abbrev waiting : Connection
waiting = record {
  state = Asked (record { code = 2; ttl_diff = 0; nonce = 0 });
  window = 1;
  ssthresh = 0;
  last_request = Some 0;
  mark = None;
  samples = [];
  count = 0;
  period = None;
}

abbrev granting : List ℕ
granting = 27 ∷ 8 ∷ 2 ∷ 0 ∷ 0 ∷ 0 ∷ 0 ∷ 0 ∷ []

abbrev buffer8 : List ℕ
buffer8 = 0 ∷ 0 ∷ 0 ∷ 0 ∷ 0 ∷ 0 ∷ 0 ∷ 0 ∷ []

module _ (take : Connection → List ℕ → Transport → Outcome ℕ Connection) (a : Takes (taking_by take)) where
  -- it is accepted at code 2
  accepts_2 : (take waiting granting (transport 1 1 20)).said ≡ answer 2
  unfolding in_range state_in_range bytes_in_range within transport_in_range is_response word_of
  accepts_2 =
      ap (λ (o : Outcome ℕ Connection). o.said)
      (a.stays waiting granting (transport 1 1 20) _ _ (given waiting granting (transport 1 1 20) refl) refl refl
      (record { rate = record { low = lit≤ tt; high = lit≤ tt }; diff = refl; nonces = refl }) (lit≤ tt))

module _ (ask : Connection → Wish → List ℕ → Outcome (Unit {0}) Sending) (a : Asks (asking_by ask)) where
  -- a fresh record asks for code 2, and reading the buffer gives that code
  sends_2 : ((ask (fresh_with 1 0) (wish 2 1 0 0 1 0) buffer8).said ≡ answer tt) × Sent (fresh_with 1 0) (wish 2 1 0 0 1 0) (ask (fresh_with 1 0) (wish 2 1 0 0 1 0) buffer8).left
  unfolding in_range state_in_range bytes_in_range within
  sends_2 =
      a.sent (fresh_with 1 0) (wish 2 1 0 0 1 0) buffer8
      (record {
        record_in = ranges.tested (fresh_with 1 0) refl;
        code_low = lit≤ tt;
        code_high = lit≤ tt;
        ttl_low = lit≤ tt;
        ttl_high = lit≤ tt;
        nonce_high = lit< tt;
        rtt_low = lit≤ tt;
        rtt_high = lit≤ tt;
        room_is = refl;
      })
      (lit< tt) refl (λ last e. absurd (clash (cc)))

-- what ours writes for code 1 does not read as code 2
asks_for_1 : Asks (asking_by (λ c w buffer. sender_calls.ask c (wish 1 w.ttl w.qs_ttl w.nonce w.rtt w.time) buffer)) → ⊥
unfolding in_range state_in_range bytes_in_range within ask_in_range is_before is_busy is_soon fields_fit option_bytes is_request word_of
asks_for_1 a =
    let reads = (sends_2 (λ c w buffer. sender_calls.ask c (wish 1 w.ttl w.qs_ttl w.nonce w.rtt w.time) buffer) a).1.reads in
    let rates : ◌≡◌ {A = ℕ} 1 2 = ap (λ (r : Request). r.rate) (same_answer reads) in
    absurd (omega arith)

pub shut_out : ShutOut
unfolding in_range state_in_range bytes_in_range within transport_in_range is_response word_of judged agree fields_up_to
shut_out = record {
  otherwise_ours = (refl, refl);
  refuses_everything = λ number left a. let e = accepts_2 _ a in clash (cc);
  refuses_every_asking = λ number left a. let e = (sends_2 _ a).0 in clash (cc);
  always_code_1 = λ left a. let f : ◌≡◌ {A = ℕ} 1 2 = same_answer (accepts_2 _ a) in absurd (omega arith);
  always_asks_1 = asks_for_1;
}
