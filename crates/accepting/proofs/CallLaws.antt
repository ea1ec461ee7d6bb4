-- Laws of the tests that a response goes through. Assumes nothing.
use Prim.Native.Nat.{ℕ, ◌≤◌, ◌<◌}
use mathlib.Core.Bool.{true}
use mathlib.Core.List.{List}
use lib.Dec.{eqb}
use mathlib.Core.Path.{◌≡◌, refl, sym, ap, ◌∙◌, subst}
use native.Mathlib.Omega.{arith}
use borrow.Author.Tests.{le-leb, lt-ltb}
use lib.ListN.{length}
use Rattle.common.specs.Choice.{within}
use Rattle.common.proofs.Choice.{within_low, within_high, in_within}
use Rattle.refusals.specs.Reply.{Reply, answer, refuse}
use Rattle.refusals.proofs.ReplyLaws.{same_answer, passed}
use Rattle.wire_rules.specs.Rates.Steps.{top_code}
use Rattle.wire_rules.specs.Rates.Window.{transport_in_range, window_bytes, bytes_reply}
use Rattle.wire_rules.specs.declared.Response.{Response}
use Rattle.wire_rules.specs.Options.Wire.{option_length, nonce_limit, rate_in, ttl_in, nonce_in}
use Rattle.wire_rules.specs.Options.Nonces.{agree, agree_reply}
use Rattle.sender_rules.specs.declared.OpenRequest.{OpenRequest}
use Rattle.sender_rules.specs.declared.State.{State}
use Rattle.sender_rules.specs.declared.State.TheVariants.{Idle, Asked, Quick}
use Rattle.sender_rules.specs.declared.Connection.{Connection}
use Rattle.sender_rules.specs.Connections.Records.{state_in_range, in_range}
use Rattle.sender_rules.proofs.Connections.RecordLaws.{sound, asked_ranges}
use Rattle.sender_rules.specs.Sender.Calls.{while_asked, judged}
use Rattle.common.specs.Lists.{Bytes}
use Rattle.wire_rules.specs.Options.Responses.{is_response, response_read}
use Rattle.wire_rules.proofs.Options.WireLaws.{word_small}
use Rattle.sender_rules.proofs.Sender.CallLaws.{fits_within}

-- ---- a response judged by the open request

module _ (q : OpenRequest) (r : Response) where
  -- the nonces are in their range, and a rate up to the code asked is: `agree` refuses nothing
  pub agreeing : within 1 r.rate q.code ≡ true → q.code ≤ top_code → q.nonce < nonce_limit → r.nonce < nonce_limit → agree_reply r.rate q.nonce r.nonce ≡ answer (agree r.rate q.nonce r.nonce)
  agreeing e top a b =
      let high : r.rate ≤ q.code = within_high 1 r.rate q.code e in
      let most : r.rate ≤ top_code = omega arith in
      simp (le-leb r.rate top_code most, lt-ltb q.nonce nonce_limit a, lt-ltb r.nonce nonce_limit b)

  -- an accepted rate is a code from 1 to 15
  pub fits_top : (n : ℕ) → q.code ≤ top_code → answer n ≡ judged q r → within 1 n top_code ≡ true
  fits_top n top e =
      let f = fits_within q r n e in
      let same : n ≡ r.rate = f.0 in
      let low : 1 ≤ r.rate = within_low 1 r.rate q.code f.1 in
      let high : r.rate ≤ q.code = within_high 1 r.rate q.code f.1 in
      in_within 1 n top_code (omega arith) (omega arith)

-- in another state than asked nothing is taken
pub not_asked : {A : Type 0} (s : State) (next : OpenRequest → Reply A) → ((q : OpenRequest) → s ≡ Asked q → ⊥) → while_asked s next ≡ refuse 11
not_asked Idle next n = refl
not_asked (Quick before) next n = refl
not_asked (Asked q) next n = absurd (n q refl)

-- the request that is open in a record in range
pub asked_in : (c : Connection) → in_range c ≡ true → (q : OpenRequest) → c.state ≡ Asked q → (q.code ≤ top_code) × (q.nonce < nonce_limit)
asked_in c e q f = let r = asked_ranges q (sym (ap state_in_range f) ∙ (sound c e).state_ok) in (r.1, r.2)

-- ---- an accepted rate

pub window_is : (rate rtt mss headers : ℕ) → within 1 rate top_code ≡ true → transport_in_range rtt mss headers ≡ true → bytes_reply rate rtt mss headers ≡ answer (window_bytes rate rtt mss headers)
window_is rate rtt mss headers e f = simp (e, f)

-- ---- eight bytes read while asked

read_is : (b : List ℕ) (r : Response) → answer r ≡ response_read b → r ≡ record { rate = rate_in b; ttl_diff = ttl_in b; nonce = nonce_in b }
read_is b r e =
    let p = passed (eqb (length b) option_length) r _ 7 e in
    same_answer (passed (is_response b) r _ 12 p.1).1

pub read_nonce : (b : List ℕ) (r : Response) → Bytes b → answer r ≡ response_read b → r.nonce < nonce_limit
read_nonce b r bytes e =
    let small : nonce_in b < nonce_limit = let w = word_small b bytes in omega arith in
    subst (λ (n : ℕ). n < nonce_limit) (sym (ap (λ (x : Response). x.nonce) (read_is b r e))) small
