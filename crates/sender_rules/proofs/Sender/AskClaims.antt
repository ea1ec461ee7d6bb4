-- The claims on asking: which refusal is given, what an accepted asking leaves, and that there is no other such sender. Assumes nothing.
use Prim.Native.Nat.{ℕ, ◌+◌, ◌≤◌, ◌<◌}
use mathlib.Core.Bool.{Bool, true, false, ◌&&◌}
use mathlib.Core.List.{List}
use mathlib.Core.Logic.{⊎_elim}
use mathlib.Core.Path.{◌≡◌, refl, sym, ap, ap₂, subst, ◌∙◌}
use native.Mathlib.Omega.{arith}
use borrow.Author.Tests.{le-leb, lt-ltb, le-ltb, eq-eqb, ltb-false}
use lib.Dec.{lit<}
use lib.ListN.{length}
use Rattle.common.proofs.Choice.{clash, not_both, untrue, tested, both_true, in_within, le_or_gt}
use Rattle.refusals.specs.Reply.{Reply, answer, refuse, leaves, done, outcome_of, refusing}
use Rattle.refusals.proofs.ReplyLaws.{answered, passed, let_through, same_outcome}
use Rattle.wire_rules.specs.Rates.Steps.{top_code}
use Rattle.wire_rules.specs.Rates.Window.{longest_rtt}
use Rattle.wire_rules.specs.Options.Wire.{option_length, nonce_limit, fields_fit, option_bytes}
use Rattle.wire_rules.specs.Options.Requests.{request_kind, request_written}
use Rattle.wire_rules.specs.Options.Responses.{ttl_diff}
use Rattle.wire_rules.proofs.Options.Claims.{request_round_trip, ttl_diffs}
use Rattle.wire_rules.proofs.Options.WireLaws.{bytes_of}
use Rattle.sender_rules.specs.declared.OpenRequest.{OpenRequest}
use Rattle.sender_rules.specs.declared.Before.{Before}
use Rattle.sender_rules.specs.declared.State.{State}
use Rattle.sender_rules.specs.declared.State.TheVariants.{Idle, Asked, Quick}
use Rattle.std.specs.Prelude.{None, Some}
use Rattle.sender_rules.specs.declared.Connection.{Connection}
use Rattle.sender_rules.specs.Connections.Records.{is_before, in_range, fresh_with, with_state, with_last_request, Moment}
use Rattle.sender_rules.proofs.Connections.Claims.{ranges}
use Rattle.sender_rules.specs.Sender.Calls.{Sending, sending, ask_in_range, is_busy, is_soon, asked, ask_reply, Sender, sender_calls}
use Rattle.sender_rules.specs.declared.Wish.{Wish}
use Rattle.sender_rules.specs.Sender.Claims.{AskGiven, Sent, Asks, SentOnly, FreshAsks}
use Rattle.sender_rules.proofs.Sender.CallLaws.{ask_facts, ask_early, ask_busy, ask_soon, ask_sent}

-- ---- ranges

abbrev test_of : Connection → Wish → List ℕ → Bool
test_of c w buffer = in_range c && ask_in_range w.code w.ttl w.nonce w.rtt (length buffer)

module _ (c : Connection) (w : Wish) (buffer : List ℕ) where
  pub numbers_ok : AskGiven c w buffer → ask_in_range w.code w.ttl w.nonce w.rtt (length buffer) ≡ true
  unfolding ask_in_range
  numbers_ok g =
      simp (
        in_within 1 w.code top_code g.code_low g.code_high,
        in_within 1 w.ttl 255 g.ttl_low g.ttl_high,
        lt-ltb w.nonce nonce_limit g.nonce_high,
        in_within 1 w.rtt longest_rtt g.rtt_low g.rtt_high,
        eq-eqb (length buffer) option_length g.room_is,
      )

  passes : AskGiven c w buffer → test_of c w buffer ≡ true
  passes g = simp (ranges.suffices c g.record_in, numbers_ok g)

  given : test_of c w buffer ≡ true → AskGiven c w buffer
  given e =
      let b = both_true (in_range c) (ask_in_range w.code w.ttl w.nonce w.rtt (length buffer)) e in
      let a = ask_facts w.code w.ttl w.nonce w.rtt (length buffer) b.1 in
      record {
        record_in = ranges.tested c b.0;
        code_low = a.code_low;
        code_high = a.code_high;
        ttl_low = a.ttl_low;
        ttl_high = a.ttl_high;
        nonce_high = a.nonce_high;
        rtt_low = a.rtt_low;
        rtt_high = a.rtt_high;
        room_is = a.room_is;
      }

  -- ---- what ours says

  by_reply : (n : ℕ) → refuse n ≡ ask_reply c w buffer → sender_calls.ask c w buffer ≡ refusing n (sending c buffer)
  by_reply n e = ap (outcome_of (sending c buffer)) (sym e)

  out : test_of c w buffer ≡ false → sender_calls.ask c w buffer ≡ refusing 7 (sending c buffer)
  out e = by_reply 7 (simp e)

  ask_seven : (AskGiven c w buffer → ⊥) → sender_calls.ask c w buffer ≡ refusing 7 (sending c buffer)
  ask_seven n = out (untrue (test_of c w buffer) (λ e. n (given e)))

before_at : (time last : ℕ) (m : Moment) → m ≡ Some last → time < last → is_before time m ≡ true
unfolding is_before
before_at time last m e h = rw e (lt-ltb time last h)

not_before : (time : ℕ) (m : Moment) → ((last : ℕ) → m ≡ Some last → last ≤ time) → is_before time m ≡ false
unfolding is_before
not_before time None f = refl
not_before time (Some last) f = le-ltb time last (f last refl)

soon_at : (time rtt last : ℕ) (m : Moment) → m ≡ Some last → time < last + rtt → is_soon time rtt m ≡ true
unfolding is_soon
soon_at time rtt last m e h = rw e (lt-ltb time (last + rtt) h)

not_soon : (time rtt : ℕ) (m : Moment) → ((last : ℕ) → m ≡ Some last → last + rtt ≤ time) → is_soon time rtt m ≡ false
unfolding is_soon
not_soon time rtt None f = refl
not_soon time rtt (Some last) f = le-ltb time (last + rtt) (f last refl)

busy_asked : (s : State) (q : OpenRequest) → s ≡ Asked q → is_busy s ≡ true
unfolding is_busy
busy_asked s q e = rw e refl

busy_quick : (s : State) (b : Before) → s ≡ Quick b → is_busy s ≡ true
unfolding is_busy
busy_quick s b e = rw e refl

pub not_busy : (s : State) → s ≡ Idle → is_busy s ≡ false
unfolding is_busy
not_busy s e = rw e refl

module _ (c : Connection) (w : Wish) (buffer : List ℕ) (g : AskGiven c w buffer) where
  ok : in_range c ≡ true
  ok = ranges.suffices c g.record_in

  fit : ask_in_range w.code w.ttl w.nonce w.rtt (length buffer) ≡ true
  fit = numbers_ok c w buffer g

  ask_nine : (last : ℕ) → c.last_request ≡ Some last → w.time < last → sender_calls.ask c w buffer ≡ refusing 9 (sending c buffer)
  ask_nine last e h = by_reply c w buffer 9 (ask_early c w buffer ok fit (before_at w.time last c.last_request e h))

  module _ (later : (last : ℕ) → c.last_request ≡ Some last → last ≤ w.time) where
    ten_busy : is_busy c.state ≡ true → sender_calls.ask c w buffer ≡ refusing 10 (sending c buffer)
    ten_busy b = by_reply c w buffer 10 (ask_busy c w buffer ok fit (not_before w.time c.last_request later) b)

  -- too soon: whether busy or not
  ask_ten_soon : (last : ℕ) → c.last_request ≡ Some last → last ≤ w.time → w.time < last + w.rtt → sender_calls.ask c w buffer ≡ refusing 10 (sending c buffer)
  ask_ten_soon last e l h = go (is_busy c.state) refl
    where
      later : (t : ℕ) → c.last_request ≡ Some t → t ≤ w.time
      later t f = let same : Some t ≡ Some last = sym f ∙ e in let n : t ≡ last = cc in omega arith

      go : (b : Bool) → is_busy c.state ≡ b → sender_calls.ask c w buffer ≡ refusing 10 (sending c buffer)
      go true b = ten_busy later b
      go false b = by_reply c w buffer 10 (ask_soon c w buffer ok fit (not_before w.time c.last_request later) b (soon_at w.time w.rtt last c.last_request e h))

  module _ (byte : w.qs_ttl < 256) where
    abbrev new : List ℕ
    new = option_bytes request_kind w.code w.qs_ttl w.nonce 0

    written : request_written buffer w.code w.qs_ttl w.nonce ≡ answer new
    unfolding fields_fit
    written = simp (eq-eqb (length buffer) option_length g.room_is, le-leb w.code top_code g.code_high, lt-ltb w.nonce nonce_limit g.nonce_high)

    is_sent : Sent c w (sending (asked c w) new)
    is_sent =
        let high = g.code_high in
        let most = g.ttl_high in
        record {
          bytes = bytes_of request_kind w.code w.qs_ttl w.nonce 0 (lit< tt) (omega arith) byte g.nonce_high (lit< tt);
          reads = request_round_trip.written buffer new w.code w.qs_ttl w.nonce written;
          reserved = request_round_trip.written_reserved buffer new w.code w.qs_ttl w.nonce written;
          diff = ttl_diff w.ttl w.qs_ttl;
          diff_byte = ttl_diffs.byte w.ttl w.qs_ttl;
          diff_is = ttl_diffs.rule w.ttl w.qs_ttl (omega arith) byte;
          connection_is = refl;
        }

    ask_is_sent : c.state ≡ Idle → ((last : ℕ) → c.last_request ≡ Some last → last + w.rtt ≤ w.time) → ask_reply c w buffer ≡ answer (sending (asked c w) new)
    ask_is_sent s waited =
        sym
        (ask_sent c w buffer ok fit (not_before w.time c.last_request (λ last e. omega (arith, waited last e))) (not_busy c.state s)
        (not_soon w.time w.rtt c.last_request waited) new (sym (ap (leaves buffer) written)))

    said_sent : c.state ≡ Idle → ((last : ℕ) → c.last_request ≡ Some last → last + w.rtt ≤ w.time)
        → ((sender_calls.ask c w buffer).said ≡ answer tt) × Sent c w (sender_calls.ask c w buffer).left
    said_sent s waited = subst (λ (r : Reply Sending). (done r ≡ answer tt) × Sent c w (leaves (sending c buffer) r)) (sym (ask_is_sent s waited)) (refl, is_sent)

pub asks : Asks sender_calls
asks = record {
  seven = ask_seven;
  nine = λ c w buffer last g e h. ask_nine c w buffer g last e h;
  ten_asked = λ c w buffer q g e later. ten_busy c w buffer g later (busy_asked c.state q e);
  ten_quick = λ c w buffer b g e later. ten_busy c w buffer g later (busy_quick c.state b e);
  ten_soon = λ c w buffer last g e l h. ask_ten_soon c w buffer g last e l h;
  sent = λ c w buffer g byte s waited. said_sent c w buffer g byte s waited;
}

-- ---- no other sender asks so

-- what an asking leaves is known from what was asked
module _ (c : Connection) (w : Wish) where
  request_of_lem : (l : Sending) → Sent c w l → l.request ≡ option_bytes request_kind w.code w.qs_ttl w.nonce 0
  request_of_lem l s =
      let again = request_round_trip.again l.request _ s.bytes s.reads s.reserved in
      (answered (fields_fit (length l.request) w.code w.nonce) l.request _ 7 (sym again)).1

  connection_of : w.ttl < 256 → w.qs_ttl < 256 → (l : Sending) → Sent c w l → l.connection ≡ asked c w
  connection_of t q l s =
      s.connection_is
      ∙ ap (λ (d : ℕ). with_last_request (with_state c (Asked (record { code = w.code; ttl_diff = d; nonce = w.nonce }))) (Some w.time)) (ttl_diffs.only w.ttl w.qs_ttl s.diff t q s.diff_byte s.diff_is)

  sent_is : w.ttl < 256 → w.qs_ttl < 256 → (l : Sending) → Sent c w l → l ≡ sending (asked c w) (option_bytes request_kind w.code w.qs_ttl w.nonce 0)
  sent_is t q l s = ap₂ sending (connection_of t q l s) (request_of_lem l s)

module _ (s : Sender) (a : Asks s) (c : Connection) (w : Wish) (buffer : List ℕ) (byte : w.qs_ttl < 256) where
  module _ (g : AskGiven c w buffer) where
    both_sent : c.state ≡ Idle → ((last : ℕ) → c.last_request ≡ Some last → last + w.rtt ≤ w.time) → s.ask c w buffer ≡ sender_calls.ask c w buffer
    both_sent i waited =
        let theirs = a.sent c w buffer g byte i waited in
        let ours = asks.sent c w buffer g byte i waited in
        let most = g.ttl_high in
        let small : w.ttl < 256 = omega arith in
        same_outcome (s.ask c w buffer) (sender_calls.ask c w buffer) (theirs.0 ∙ sym ours.0) (sent_is c w small byte _ theirs.1 ∙ sym (sent_is c w small byte _ ours.1))

    -- past the 9: by the state, then by the round trip
    by_state : (st : State) → c.state ≡ st → ((last : ℕ) → c.last_request ≡ Some last → last ≤ w.time) → (m : Moment) → c.last_request ≡ m → s.ask c w buffer ≡ sender_calls.ask c w buffer
    by_state (Asked q) e later m f = a.ten_asked c w buffer q g e later ∙ sym (asks.ten_asked c w buffer q g e later)
    by_state (Quick b) e later m f = a.ten_quick c w buffer b g e later ∙ sym (asks.ten_quick c w buffer b g e later)
    by_state Idle e later None f = both_sent e (λ last h. let z : Some last ≡ None = sym h ∙ f in absurd (clash (cc)))
    by_state Idle e later (Some t) f =
        ⊎_elim
        (λ (l : t + w.rtt ≤ w.time). both_sent e (λ last h. let z : Some last ≡ Some t = sym h ∙ f in let same : last ≡ t = cc in omega arith))
        (λ (l : w.time < t + w.rtt). a.ten_soon c w buffer t g f (later t f) l ∙ sym (asks.ten_soon c w buffer t g f (later t f) l))
        (le_or_gt (t + w.rtt) w.time)

    by_time : (m : Moment) → c.last_request ≡ m → s.ask c w buffer ≡ sender_calls.ask c w buffer
    by_time None f = by_state c.state refl (λ last h. let z : Some last ≡ None = sym h ∙ f in absurd (clash (cc))) None f
    by_time (Some t) f =
        ⊎_elim
        (λ (l : t ≤ w.time). by_state c.state refl (λ last h. let z : Some last ≡ Some t = sym h ∙ f in let same : last ≡ t = cc in omega arith) (Some t) f)
        (λ (l : w.time < t). a.nine c w buffer t g f l ∙ sym (asks.nine c w buffer t g f l))
        (le_or_gt t w.time)

  pub ask_only : s.ask c w buffer ≡ sender_calls.ask c w buffer
  ask_only =
      ⊎_elim
      (λ (g : AskGiven c w buffer). by_time g c.last_request refl)
      (λ (e : test_of c w buffer ≡ false). a.seven c w buffer (λ g. not_both (test_of c w buffer) (passes c w buffer g) e) ∙ sym (out c w buffer e))
      (tested (test_of c w buffer) (given c w buffer))

-- ---- a fresh record

pub fresh_asks : FreshAsks
fresh_asks window ssthresh w buffer g =
    let c = fresh_with window ssthresh in
    ap done
    (sym
    (ask_sent c w buffer (ok c w buffer g) (fit c w buffer g) (not_before w.time c.last_request (λ last e. absurd (clash (cc)))) (not_busy c.state refl)
    (not_soon w.time w.rtt c.last_request (λ last e. absurd (clash (cc)))) (leaves buffer (request_written buffer w.code w.qs_ttl w.nonce)) refl))

-- ---- what was accepted

-- how a record stands that an asking finds free
idle_if : (s : State) → is_busy s ≡ false → s ≡ Idle
unfolding is_busy
idle_if Idle e = refl
idle_if (Asked q) e = absurd (clash (cc))
idle_if (Quick b) e = absurd (clash (cc))

waited_if : (time rtt : ℕ) (m : Moment) → is_soon time rtt m ≡ false → (last : ℕ) → m ≡ Some last → last + rtt ≤ time
unfolding is_soon
waited_if time rtt None e last f = absurd (clash (cc))
waited_if time rtt (Some t) e last f = let same : t ≡ last = cc in let h = ltb-false time (t + rtt) e in omega arith

pub sent_only : SentOnly
sent_only c w buffer byte e = by (ask_reply c w buffer) refl e
  where
    by : (r : Reply Sending) → ask_reply c w buffer ≡ r → done r ≡ answer tt
        → AskGiven c w buffer × (c.state ≡ Idle) × ((last : ℕ) → c.last_request ≡ Some last → last + w.rtt ≤ w.time) × Sent c w (sender_calls.ask c w buffer).left
    by (refuse n) f d = absurd (clash (cc))
    by (answer s) f d =
        let all = passed (test_of c w buffer) s _ 7 (sym f) in
        let late = let_through (is_before w.time c.last_request) s _ 9 all.1 in
        let free = let_through (is_busy c.state) s _ 10 late.1 in
        let waited = let_through (is_soon w.time w.rtt c.last_request) s _ 10 free.1 in
        let g = given c w buffer all.0 in
        let i = idle_if c.state free.0 in
        let h = waited_if w.time w.rtt c.last_request waited.0 in
        (g, i, h, (said_sent c w buffer g byte i h).1)
