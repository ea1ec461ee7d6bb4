-- The claims on the response: which refusal is given, what an accepted one leaves, and that there is no other such sender. Assumes nothing.
use Prim.Native.Nat.{ℕ, ◌≤◌, ◌<◌, ◌%◌, ◌^◌}
use mathlib.Core.Bool.{Bool, true, false, ◌&&◌}
use mathlib.Core.List.{List}
use mathlib.Core.Logic.{◌⊎◌, inl, inr, ⊎_elim}
use mathlib.Core.Path.{◌≡◌, refl, sym, ap, ◌∙◌}
use borrow.Author.Tests.{eq-eqb, ne_eqb, eqb-true, eqb-false}
use lib.Dec.{eqb}
use lib.ListN.{length, get_or}
use Rattle.common.specs.Choice.{within}
use Rattle.common.proofs.Choice.{clash, chosen, not_both, untrue, tested, both_true, within_low, within_high, in_within, not_within, le_or_gt}
use Rattle.refusals.specs.Reply.{Reply, answer, refuse, and_then, refusing}
use Rattle.refusals.proofs.ReplyLaws.{same_answer, passed, through}
use Rattle.wire_rules.specs.Rates.Window.{longest_rtt, largest_segment, least_headers, most_headers, transport_in_range, window_segments, window_bytes}
use Rattle.wire_rules.proofs.Rates.WindowLaws.{transport_facts}
use Rattle.wire_rules.specs.declared.Response.{Response}
use Rattle.wire_rules.specs.Options.Wire.{option_length, kind_in, length_in}
use Rattle.wire_rules.specs.Options.Nonces.{fields_up_to, agree}
use Rattle.wire_rules.specs.Options.Responses.{response_kind, is_response, response_read}
use Rattle.sender_rules.specs.declared.OpenRequest.{OpenRequest}
use Rattle.sender_rules.specs.declared.Before.{Before}
use Rattle.sender_rules.specs.declared.State.{State}
use Rattle.sender_rules.specs.declared.State.TheVariants.{Idle, Asked, Quick}
use Rattle.sender_rules.specs.declared.Connection.{Connection}
use Rattle.sender_rules.specs.Connections.Records.{in_range, with_state, with_window}
use Rattle.sender_rules.proofs.Connections.Claims.{ranges}
use Rattle.sender_rules.specs.Sender.Calls.{while_asked, judged, taken, response_reply, granted, after_response, Sender, sender_calls}
use Rattle.wire_rules.specs.declared.Transport.{Transport}
use Rattle.sender_rules.specs.Sender.Claims.{ResponseGiven, RateFits, Fits, quick_window, Takes, AcceptedOnly}
use Rattle.sender_rules.proofs.Sender.CallLaws.{rate_wrong, diff_wrong, judged_by, not_above, above, response_in}

-- ---- ranges

abbrev test_of : Connection → List ℕ → Transport → Bool
test_of c response t = in_range c && transport_in_range t.rtt t.mss t.headers && eqb (length response) option_length

transport_ok : (t : Transport) → 1 ≤ t.rtt → t.rtt ≤ longest_rtt → 1 ≤ t.mss → t.mss ≤ largest_segment → least_headers ≤ t.headers → t.headers ≤ most_headers
    → transport_in_range t.rtt t.mss t.headers ≡ true
unfolding transport_in_range
transport_ok t a b d e f g =
    simp (in_within 1 t.rtt longest_rtt a b, in_within 1 t.mss largest_segment d e, in_within least_headers t.headers most_headers f g)

module _ (c : Connection) (response : List ℕ) (t : Transport) where
  ok : ResponseGiven c response t → transport_in_range t.rtt t.mss t.headers ≡ true
  ok g = transport_ok t g.rtt_low g.rtt_high g.mss_low g.mss_high g.headers_low g.headers_high

  passes : ResponseGiven c response t → test_of c response t ≡ true
  passes g = simp (ranges.suffices c g.record_in, ok g, eq-eqb (length response) option_length g.room_is)

  pub given : test_of c response t ≡ true → ResponseGiven c response t
  given e =
      let a = both_true (in_range c && transport_in_range t.rtt t.mss t.headers) (eqb (length response) option_length) e in
      let b = both_true (in_range c) (transport_in_range t.rtt t.mss t.headers) a.0 in
      let f = transport_facts t.rtt t.mss t.headers b.1 in
      record {
        record_in = ranges.tested c b.0;
        rtt_low = f.rtt_low;
        rtt_high = f.rtt_high;
        mss_low = f.mss_low;
        mss_high = f.mss_high;
        headers_low = f.headers_low;
        headers_high = f.headers_high;
        room_is = eqb-true (length response) option_length a.1;
      }

  -- ---- what ours says, and leaves by that

  by_reply : (x : Reply ℕ) → x ≡ response_reply c response t → sender_calls.take_response c response t ≡ record { said = x; left = after_response c t x }
  by_reply x e = ap (λ (r : Reply ℕ). record { said = r; left = after_response c t r }) (sym e)

  out : test_of c response t ≡ false → sender_calls.take_response c response t ≡ refusing 7 c
  unfolding within
  out e = by_reply (refuse 7) (simp e)

  respond_seven : (ResponseGiven c response t → ⊥) → sender_calls.take_response c response t ≡ refusing 7 c
  respond_seven n = out (untrue (test_of c response t) (λ e. n (given e)))

  module _ (g : ResponseGiven c response t) where
    by_state : (s : State) → c.state ≡ s → while_asked s (λ request. taken request response) ≡ response_reply c response t
    by_state s f = response_in c (ranges.suffices c g.record_in) s f response t (ok g) g.room_is

    respond_idle : c.state ≡ Idle → sender_calls.take_response c response t ≡ refusing 11 c
    unfolding within
    respond_idle f = by_reply (refuse 11) (by_state Idle f)

    respond_quick : (b : Before) → c.state ≡ Quick b → sender_calls.take_response c response t ≡ refusing 11 c
    unfolding within
    respond_quick b f = by_reply (refuse 11) (by_state (Quick b) f)

    module _ (q : OpenRequest) (f : c.state ≡ Asked q) where
      no_response : is_response response ≡ false → sender_calls.take_response c response t ≡ refusing 12 c
      unfolding within
      no_response e =
          let read : refuse 12 ≡ response_read response = simp (eq-eqb (length response) option_length g.room_is, e) in
          by_reply (refuse 12) (ap (λ (x : Reply Response). and_then x (judged q)) read ∙ by_state (Asked q) f)

      module _ (r : Response) (read : response_read response ≡ answer r) where
        by_judged : (x : Reply ℕ) → x ≡ judged q r → sender_calls.take_response c response t ≡ record { said = x; left = after_response c t x }
        by_judged x e = by_reply x (e ∙ ap (λ (y : Reply Response). and_then y (judged q)) (sym read) ∙ by_state (Asked q) f)

        respond_13 : (RateFits q r → ⊥) → sender_calls.take_response c response t ≡ refusing 13 (with_state c Idle)
        unfolding within
        respond_13 n = by_judged (refuse 13) (rate_wrong q r (not_within 1 r.rate q.code (λ p. n (record { low = p.0; high = p.1 }))))

        module _ (fits : RateFits q r) where
          inside : within 1 r.rate q.code ≡ true
          inside = in_within 1 r.rate q.code fits.low fits.high

          respond_14 : (r.ttl_diff ≡ q.ttl_diff → ⊥) → sender_calls.take_response c response t ≡ refusing 14 (with_state c Idle)
          unfolding within
          respond_14 n = by_judged (refuse 14) (diff_wrong q r inside n)

          respond_15 : r.ttl_diff ≡ q.ttl_diff → (q.nonce % 4 ^ r.rate ≡ r.nonce % 4 ^ r.rate → ⊥) → sender_calls.take_response c response t ≡ refusing 15 (with_state c Idle)
          unfolding within agree fields_up_to
          respond_15 d n = by_judged (refuse 15) (judged_by q r inside d false (ne_eqb (q.nonce % 4 ^ r.rate) (r.nonce % 4 ^ r.rate) n))

        accepted : Fits q r → sender_calls.take_response c response t ≡ record { said = answer r.rate; left = granted c (window_bytes r.rate t.rtt t.mss t.headers) }
        unfolding agree fields_up_to
        accepted a =
            by_judged (answer r.rate) (judged_by q r (inside a.rate) a.diff true (eq-eqb (q.nonce % 4 ^ r.rate) (r.nonce % 4 ^ r.rate) a.nonces))

        respond_quickens : Fits q r → c.window < quick_window r.rate t
            → sender_calls.take_response c response t ≡ record { said = answer r.rate; left = with_window (with_state c (Quick (record { window = c.window }))) (quick_window r.rate t) }
        unfolding window_bytes window_segments
        respond_quickens a h = accepted a ∙ ap (λ (l : Connection). record { said = answer r.rate; left = l }) (sym (above c (quick_window r.rate t) h))

        respond_stays : Fits q r → quick_window r.rate t ≤ c.window → sender_calls.take_response c response t ≡ record { said = answer r.rate; left = with_state c Idle }
        unfolding window_bytes window_segments
        respond_stays a h = accepted a ∙ ap (λ (l : Connection). record { said = answer r.rate; left = l }) (sym (not_above c (quick_window r.rate t) h))

not_response : (response : List ℕ) → ((get_or response 0 0 ≡ 27) × (get_or response 1 0 ≡ 8) → ⊥) → is_response response ≡ false
unfolding is_response
not_response response n = go (is_response response) refl
  where
    go : (b : Bool) → is_response response ≡ b → is_response response ≡ false
    go true e =
        let p = both_true (eqb (kind_in response) response_kind) (eqb (length_in response) option_length) e in
        absurd (n (eqb-true (kind_in response) response_kind p.0, eqb-true (length_in response) option_length p.1))
    go false e = e

kind_known : (response : List ℕ) → (get_or response 0 0 ≡ 27) × (get_or response 1 0 ≡ 8) → is_response response ≡ false → ◌≡◌ {A = ℕ} 0 1
unfolding is_response
kind_known response p e = let t : is_response response ≡ true = simp (eq-eqb (kind_in response) response_kind p.0, eq-eqb (length_in response) option_length p.1) in cc

pub takes : Takes sender_calls
takes = record {
  seven = respond_seven;
  eleven_idle = λ c response t g f. respond_idle c response t g f;
  eleven_quick = λ c response t b g f. respond_quick c response t g b f;
  twelve = λ c response t q g f n. no_response c response t g q f (not_response response n);
  thirteen = λ c response t q r g f read n. respond_13 c response t g q f r read n;
  fourteen = λ c response t q r g f read fits n. respond_14 c response t g q f r read fits n;
  fifteen = λ c response t q r g f read fits d n. respond_15 c response t g q f r read fits d n;
  quickens = λ c response t q r g f read a h. respond_quickens c response t g q f r read a h;
  stays = λ c response t q r g f read a h. respond_stays c response t g q f r read a h;
}

-- ---- no other sender takes responses so

-- two numbers are equal, or not
either_equal : (a b : ℕ) → (a ≡ b) ⊎ (a ≡ b → ⊥)
either_equal a b = go (eqb a b) refl
  where
    go : (t : Bool) → eqb a b ≡ t → (a ≡ b) ⊎ (a ≡ b → ⊥)
    go true e = inl (eqb-true a b e)
    go false e = inr (eqb-false a b e)

either_fits : (q : OpenRequest) (r : Response) → RateFits q r ⊎ (RateFits q r → ⊥)
either_fits q r = go (within 1 r.rate q.code) refl
  where
    go : (b : Bool) → within 1 r.rate q.code ≡ b → RateFits q r ⊎ (RateFits q r → ⊥)
    go true e = inl (record { low = within_low 1 r.rate q.code e; high = within_high 1 r.rate q.code e })
    go false e = inr (λ f. let t : within 1 r.rate q.code ≡ true = in_within 1 r.rate q.code f.low f.high in clash (cc))

module _ (s : Sender) (a : Takes s) (c : Connection) (response : List ℕ) (t : Transport) where
  abbrev Same : Type 0
  Same = s.take_response c response t ≡ sender_calls.take_response c response t

  module _ (g : ResponseGiven c response t) (q : OpenRequest) (f : c.state ≡ Asked q) where
    module _ (r : Response) (read : response_read response ≡ answer r) where
      by_window : Fits q r → Same
      by_window p =
          ⊎_elim
          (λ (l : quick_window r.rate t ≤ c.window). a.stays c response t q r g f read p l ∙ sym (takes.stays c response t q r g f read p l))
          (λ (h : c.window < quick_window r.rate t). a.quickens c response t q r g f read p h ∙ sym (takes.quickens c response t q r g f read p h))
          (le_or_gt (quick_window r.rate t) c.window)

      by_nonce : RateFits q r → r.ttl_diff ≡ q.ttl_diff → Same
      by_nonce p d =
          ⊎_elim
          (λ (e : q.nonce % 4 ^ r.rate ≡ r.nonce % 4 ^ r.rate). by_window (record { rate = p; diff = d; nonces = e }))
          (λ (n : q.nonce % 4 ^ r.rate ≡ r.nonce % 4 ^ r.rate → ⊥). a.fifteen c response t q r g f read p d n ∙ sym (takes.fifteen c response t q r g f read p d n))
          (either_equal (q.nonce % 4 ^ r.rate) (r.nonce % 4 ^ r.rate))

      by_diff : RateFits q r → Same
      by_diff p =
          ⊎_elim
          (λ (d : r.ttl_diff ≡ q.ttl_diff). by_nonce p d)
          (λ (n : r.ttl_diff ≡ q.ttl_diff → ⊥). a.fourteen c response t q r g f read p n ∙ sym (takes.fourteen c response t q r g f read p n))
          (either_equal r.ttl_diff q.ttl_diff)

      by_rate : Same
      by_rate =
          ⊎_elim
          by_diff
          (λ (n : RateFits q r → ⊥). a.thirteen c response t q r g f read n ∙ sym (takes.thirteen c response t q r g f read n))
          (either_fits q r)

    by_kind : (b : Bool) → is_response response ≡ b → Same
    by_kind true e = by_rate _ (chosen (eqb (length response) option_length) _ _ (eq-eqb (length response) option_length g.room_is) ∙ chosen (is_response response) _ _ e)
    by_kind false e = a.twelve c response t q g f (λ p. clash (kind_known response p e)) ∙ sym (takes.twelve c response t q g f (λ p. clash (kind_known response p e)))

  by_states : ResponseGiven c response t → (st : State) → c.state ≡ st → Same
  by_states g Idle f = a.eleven_idle c response t g f ∙ sym (takes.eleven_idle c response t g f)
  by_states g (Quick b) f = a.eleven_quick c response t b g f ∙ sym (takes.eleven_quick c response t b g f)
  by_states g (Asked q) f = by_kind g q f (is_response response) refl

  pub respond_only : Same
  respond_only =
      ⊎_elim
      (λ (g : ResponseGiven c response t). by_states g c.state refl)
      (λ (e : test_of c response t ≡ false). a.seven c response t (λ g. not_both (test_of c response t) (passes c response t g) e) ∙ sym (out c response t e))
      (tested (test_of c response t) (given c response t))

-- ---- what was accepted had fit

module _ (c : Connection) (response : List ℕ) (t : Transport) (rate : ℕ) where
  abbrev Had : Type 0
  Had = ResponseGiven c response t × (q : OpenRequest) × (r : Response) × (c.state ≡ Asked q) × (response_read response ≡ answer r) × (rate ≡ r.rate) × Fits q r

  fitted : (q : OpenRequest) (r : Response) → judged q r ≡ answer rate → (rate ≡ r.rate) × Fits q r
  unfolding judged agree fields_up_to
  fitted q r e =
      let p = passed (within 1 r.rate q.code) rate _ 13 (sym e) in
      let s = passed (eqb r.ttl_diff q.ttl_diff) rate _ 14 p.1 in
      let u = passed (agree r.rate q.nonce r.nonce) rate _ 15 s.1 in (
        same_answer u.1,
        record {
          rate = record { low = within_low 1 r.rate q.code p.0; high = within_high 1 r.rate q.code p.0 };
          diff = eqb-true r.ttl_diff q.ttl_diff s.0;
          nonces = eqb-true (q.nonce % 4 ^ r.rate) (r.nonce % 4 ^ r.rate) u.0;
        },
      )

  while_had : ResponseGiven c response t → (st : State) → c.state ≡ st → while_asked st (λ request. taken request response) ≡ answer rate → Had
  while_had g Idle f e = absurd (clash (cc))
  while_had g (Quick b) f e = absurd (clash (cc))
  while_had g (Asked q) f e =
      let h = through (response_read response) (judged q) rate e in
      let k = fitted q h.0 h.2 in
      (g, q, h.0, f, h.1, k.0, k.1)

  pub accepted_had : (sender_calls.take_response c response t).said ≡ answer rate → Had
  accepted_had e =
      let p = passed (test_of c response t) rate _ 7 (sym e) in
      while_had (given c response t p.0) c.state refl (sym p.1)

pub accepted_only : AcceptedOnly
accepted_only = accepted_had
