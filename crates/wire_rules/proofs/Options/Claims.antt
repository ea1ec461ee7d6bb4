-- The claims of specs/Options/Claims.antt: the round trips, from the laws of the eight bytes, the lowering, from the laws of the nonce, the
-- refusals, and the eight bytes one by one. Assumes nothing.
use Prim.Native.Nat.{ℕ, ◌+◌, ◌*◌, ◌/◌, ◌%◌, ◌≤◌, ◌<◌}
use mathlib.Core.Bool.{true, false, ◌&&◌}
use mathlib.Core.List.{List}
use mathlib.Core.Path.{◌≡◌, refl, sym, ap, subst, ◌∙◌}
use native.Mathlib.Nat.{add-zero}
use native.Mathlib.Omega.{arith}
use borrow.Author.Tests.{eq-eqb, ne_eqb, le-leb, lt-ltb, eqb-true, leb-true, ltb-true}
use lib.Dec.{eqb, leb, ltb, lit<}
use lib.ListN.{length, get_or}
use Rattle.common.specs.Lists.{Bytes}
use Rattle.common.proofs.Choice.{both_true, untrue}
use Rattle.refusals.specs.Reply.{answer}
use Rattle.refusals.proofs.ReplyLaws.{passed, answered}
use Rattle.wire_rules.specs.Rates.Steps.{top_code}
use Rattle.wire_rules.specs.declared.Request.{Request}
use Rattle.wire_rules.specs.declared.Response.{Response}
use Rattle.wire_rules.specs.Options.Wire.{option_length, nonce_limit, fields_fit, option_bytes, option_written, kind_in, length_in, high_half, rate_in, ttl_in, word_of, nonce_in, reserved_in}
use Rattle.wire_rules.specs.Options.Requests.{is_request, request_read, request_rewritten}
use Rattle.wire_rules.specs.Options.Responses.{ttl_diff, is_response, response_read}
use Rattle.wire_rules.specs.Options.Claims.{RequestRoundTrip, ResponseRoundTrip, TtlDiffs, Lowering, Agreeing, IsRequest, IsResponse, Writable, Refusing, Bytewise, Layout, Fields}
use Rattle.wire_rules.proofs.Options.WireLaws.{Fit, fit_facts, word_again, word_back, word_small, bytes_of, bytes_back}
use Rattle.wire_rules.proofs.Options.NonceLaws as nonces

-- ---- what eight bytes written from fields read back as

request_back : (rate ttl nonce reserved : ℕ) → rate ≤ top_code → reserved < 4
    → request_read (option_bytes 25 rate ttl nonce reserved) ≡ answer (record { rate = rate; qs_ttl = ttl; nonce = nonce })
unfolding option_bytes is_request
request_back rate ttl nonce reserved r s =
    let high : rate / 16 ≡ 0 = omega arith in
    let low : rate % 16 ≡ rate = omega arith in
    let word : (nonce * 4 + reserved) / 4 ≡ nonce = omega arith in
    simp (eq-eqb _ _ high, low, word_back 25 rate ttl nonce reserved, word)

response_back : (high rate diff nonce reserved : ℕ) → rate ≤ top_code → reserved < 4
    → response_read (option_bytes 27 (high * 16 + rate) diff nonce reserved) ≡ answer (record { rate = rate; ttl_diff = diff; nonce = nonce })
unfolding option_bytes is_response
response_back high rate diff nonce reserved r s =
    let low : (high * 16 + rate) % 16 ≡ rate = omega arith in
    let word : (nonce * 4 + reserved) / 4 ≡ nonce = omega arith in
    simp (low, word_back 27 (high * 16 + rate) diff nonce reserved, word)

reserved_back : (kind rate ttl nonce reserved : ℕ) → reserved < 4 → reserved_in (option_bytes kind rate ttl nonce reserved) ≡ reserved
reserved_back kind rate ttl nonce reserved s = ap (λ (w : ℕ). w % 4) (word_back kind rate ttl nonce reserved) ∙ omega arith

-- ---- when a write is accepted, and what that says

fit : (len rate nonce : ℕ) → len ≡ option_length → rate ≤ top_code → nonce < nonce_limit → fields_fit len rate nonce ≡ true
unfolding fields_fit
fit len rate nonce l r n = simp (eq-eqb len option_length l, le-leb rate top_code r, lt-ltb nonce nonce_limit n)

writable : (kind : ℕ) (old : List ℕ) (rate ttl nonce : ℕ) → length old ≡ option_length → rate ≤ top_code → nonce < nonce_limit
    → (new : List ℕ) × (option_written kind old rate ttl nonce ≡ answer new)
writable kind old rate ttl nonce l r n = (option_bytes kind rate ttl nonce 0, simp (fit (length old) rate nonce l r n))

new_option : (kind : ℕ) (old new : List ℕ) (rate ttl nonce : ℕ) → option_written kind old rate ttl nonce ≡ answer new
    → Fit (length old) rate nonce × (new ≡ option_bytes kind rate ttl nonce 0)
new_option kind old new rate ttl nonce e =
    let a = answered (fields_fit (length old) rate nonce) new (option_bytes kind rate ttl nonce 0) 7 (sym e) in
    (fit_facts (length old) rate nonce a.0, a.1)

pub changed_option : (old new : List ℕ) (rate ttl nonce : ℕ) → request_rewritten old rate ttl nonce ≡ answer new
    → Fit (length old) rate nonce × (new ≡ option_bytes 25 rate ttl nonce (reserved_in old))
changed_option old new rate ttl nonce e =
    let outer = passed (fields_fit (length old) rate nonce) new _ 7 (sym e) in
    let inner = answered (is_request old) new (option_bytes 25 rate ttl nonce (reserved_in old)) 4 outer.1 in
    (fit_facts (length old) rate nonce outer.0, inner.1)

-- ---- what an accepted reading says

pub record RequestIs (option : List ℕ) (r : Request) : Type 0 where
  pub len : length option ≡ option_length
  pub kind : kind_in option ≡ 25
  pub second : length_in option ≡ 8
  pub function : high_half option ≡ 0
  pub is_request_lem : is_request option ≡ true
  pub fields : r ≡ record { rate = rate_in option; qs_ttl = ttl_in option; nonce = nonce_in option }

pub request_is : (option : List ℕ) (r : Request) → request_read option ≡ answer r → RequestIs option r
unfolding is_request
request_is option r e =
    let outer = passed (eqb (length option) option_length) r _ 7 (sym e) in
    let inner = answered (is_request option) r _ 4 outer.1 in
    let tests = both_true (eqb (kind_in option) 25 && eqb (length_in option) 8) (eqb (high_half option) 0) inner.0 in
    let first = both_true (eqb (kind_in option) 25) (eqb (length_in option) 8) tests.0 in
    record {
      len = eqb-true _ _ outer.0;
      kind = eqb-true _ _ first.0;
      second = eqb-true _ _ first.1;
      function = eqb-true _ _ tests.1;
      is_request_lem = inner.0;
      fields = inner.1;
    }

record ResponseIs (option : List ℕ) (r : Response) : Type 0 where
  len : length option ≡ option_length
  kind : kind_in option ≡ 27
  second : length_in option ≡ 8
  fields : r ≡ record { rate = rate_in option; ttl_diff = ttl_in option; nonce = nonce_in option }

response_is : (option : List ℕ) (r : Response) → response_read option ≡ answer r → ResponseIs option r
unfolding is_response
response_is option r e =
    let outer = passed (eqb (length option) option_length) r _ 7 (sym e) in
    let inner = answered (is_response option) r _ 12 outer.1 in
    let tests = both_true (eqb (kind_in option) 27) (eqb (length_in option) 8) inner.0 in
    record { len = eqb-true _ _ outer.0; kind = eqb-true _ _ tests.0; second = eqb-true _ _ tests.1; fields = inner.1 }

-- ---- read and written again

-- the fields of eight bytes are in range
own_fit : (option : List ℕ) → length option ≡ option_length → Bytes option → fields_fit (length option) (rate_in option) (nonce_in option) ≡ true
own_fit option len bytes = let word = word_small option bytes in fit (length option) (rate_in option) (nonce_in option) len (omega arith) (omega arith)

-- and written with the reserved bits they have, they are those eight bytes
own_bytes : (option : List ℕ) (kind reserved : ℕ)
    → length option ≡ option_length
    → kind_in option ≡ kind
    → length_in option ≡ 8
    → high_half option ≡ 0
    → reserved_in option ≡ reserved
    → Bytes option
    → option_bytes kind (rate_in option) (ttl_in option) (nonce_in option) reserved ≡ option
own_bytes option kind reserved len k second high r bytes =
    let low : rate_in option ≡ get_or option 2 0 = omega (arith, bytes 2) in
    simp (← k, ← r, low) (bytes_back option len second bytes)

pub request_round_trip : RequestRoundTrip
request_round_trip = record {
  accepted = writable 25;
  rewriting_accepted = λ old r rate ttl nonce e h n.
      let i = request_is old r e in
      (option_bytes 25 rate ttl nonce (reserved_in old), simp (fit (length old) rate nonce i.len h n, i.is_request_lem));
  written = λ old new rate ttl nonce e.
      let n = new_option 25 old new rate ttl nonce e in
      ap request_read n.1 ∙ request_back rate ttl nonce 0 n.0.code_high (omega arith);
  rewritten = λ old new rate ttl nonce e.
      let n = changed_option old new rate ttl nonce e in
      ap request_read n.1 ∙ request_back rate ttl nonce (reserved_in old) n.0.code_high (omega arith);
  written_reserved = λ old new rate ttl nonce e.
      ap (λ (l : List ℕ). reserved_in l) (new_option 25 old new rate ttl nonce e).1 ∙ reserved_back 25 rate ttl nonce 0 (omega arith);
  rewritten_reserved = λ old new rate ttl nonce e.
      ap (λ (l : List ℕ). reserved_in l) (changed_option old new rate ttl nonce e).1 ∙ reserved_back 25 rate ttl nonce (reserved_in old) (omega arith);
  again = λ option r bytes e reserved.
      let i = request_is option r e in
      rw i.fields
      (simp (own_fit option i.len bytes) (ap answer (own_bytes option 25 0 i.len i.kind i.second i.function reserved bytes)));
  kept = λ option r bytes e.
      let i = request_is option r e in
      rw i.fields
      (simp (own_fit option i.len bytes, i.is_request_lem)
      (ap answer (own_bytes option 25 (reserved_in option) i.len i.kind i.second i.function refl bytes)));
  ignored = request_back;
}

pub response_round_trip : ResponseRoundTrip
unfolding option_bytes
response_round_trip = record {
  accepted = writable 27;
  written = λ old new rate diff nonce e.
      let n = new_option 27 old new rate diff nonce e in
      ap response_read n.1 ∙ ap (λ (k : ℕ). response_read (option_bytes 27 k diff nonce 0)) {x = rate} {y = 0 * 16 + rate} (omega arith) ∙ response_back 0 rate diff nonce 0 n.0.code_high (omega arith);
  written_reserved = λ old new rate diff nonce e.
      let n = new_option 27 old new rate diff nonce e in
      let k = n.0.code_high in
      (ap (λ (l : List ℕ). high_half l) n.1 ∙ omega arith, ap (λ (l : List ℕ). reserved_in l) n.1 ∙ reserved_back 27 rate diff nonce 0 (omega arith));
  again = λ option r bytes e high reserved.
      let i = response_is option r e in
      rw i.fields
      (simp (own_fit option i.len bytes) (ap answer (own_bytes option 27 0 i.len i.kind i.second high reserved bytes)));
  ignored = response_back;
}

pub ttl_diffs : TtlDiffs
unfolding ttl_diff
ttl_diffs = record {
  top = refl;
  byte = λ ttl qs. omega arith;
  rule = λ ttl qs t q. omega arith;
  only = λ ttl qs diff t q d e. omega arith;
}

pub lowering : Lowering
lowering = nonces.lowering

pub agreeing : Agreeing
agreeing = nonces.agreeing

-- ---- which refusal is given

no_request : (option : List ℕ) → (IsRequest option → ⊥) → is_request option ≡ false
unfolding is_request
no_request option f = untrue _ (λ (e : eqb (kind_in option) 25 && eqb (length_in option) 8 && eqb (high_half option) 0 ≡ true).
    let outer = both_true (eqb (kind_in option) 25 && eqb (length_in option) 8) (eqb (high_half option) 0) e in
    let inner = both_true (eqb (kind_in option) 25) (eqb (length_in option) 8) outer.0 in
    f (record { kind_is = eqb-true _ _ inner.0; length_is = eqb-true _ _ inner.1; function_is = eqb-true _ _ outer.1 }))

no_response : (option : List ℕ) → (IsResponse option → ⊥) → is_response option ≡ false
unfolding is_response
no_response option f = untrue _ (λ (e : eqb (kind_in option) 27 && eqb (length_in option) 8 ≡ true).
    let inner = both_true (eqb (kind_in option) 27) (eqb (length_in option) 8) e in
    f (record { kind_is = eqb-true _ _ inner.0; length_is = eqb-true _ _ inner.1 }))

unfit : (len rate nonce : ℕ) → (Writable len rate nonce → ⊥) → fields_fit len rate nonce ≡ false
unfit len rate nonce f = untrue (fields_fit len rate nonce) (λ e.
    let t = fit_facts len rate nonce e in
    f (record { room_is = t.len_is; rate_high = t.code_high; nonce_high = t.nonce_small }))

no_lowering : (old new nonce fresh : ℕ) → ((old ≤ 15) × (new ≤ 15) × (nonce < nonce_limit) × (fresh < nonce_limit) → ⊥)
    → leb old top_code && leb new top_code && ltb nonce nonce_limit && ltb fresh nonce_limit ≡ false
no_lowering old new nonce fresh f = untrue _ (λ (e : leb old top_code && leb new top_code && ltb nonce nonce_limit && ltb fresh nonce_limit ≡ true).
    let three = both_true (leb old top_code && leb new top_code && ltb nonce nonce_limit) (ltb fresh nonce_limit) e in
    let two = both_true (leb old top_code && leb new top_code) (ltb nonce nonce_limit) three.0 in
    let one = both_true (leb old top_code) (leb new top_code) two.0 in
    f (leb-true _ _ one.0, leb-true _ _ one.1, ltb-true _ _ two.1, ltb-true _ _ three.1))

no_comparison : (code a b : ℕ) → ((code ≤ 15) × (a < nonce_limit) × (b < nonce_limit) → ⊥) → leb code top_code && ltb a nonce_limit && ltb b nonce_limit ≡ false
no_comparison code a b f = untrue _ (λ (e : leb code top_code && ltb a nonce_limit && ltb b nonce_limit ≡ true).
    let two = both_true (leb code top_code && ltb a nonce_limit) (ltb b nonce_limit) e in
    let one = both_true (leb code top_code) (ltb a nonce_limit) two.0 in
    f (leb-true _ _ one.0, ltb-true _ _ one.1, ltb-true _ _ two.1))

pub refusing : Refusing
refusing = record {
  read_seven = λ option n. simp (ne_eqb (length option) option_length n);
  read_four = λ option l f. simp (eq-eqb (length option) option_length l, no_request option f);
  response_seven = λ option n. simp (ne_eqb (length option) option_length n);
  response_twelve = λ option l f. simp (eq-eqb (length option) option_length l, no_response option f);
  write_seven = λ old rate ttl nonce f. simp (unfit (length old) rate nonce f);
  response_write_seven = λ old rate diff nonce f. simp (unfit (length old) rate nonce f);
  rewrite_seven = λ old rate ttl nonce f. simp (unfit (length old) rate nonce f);
  rewrite_four = λ old rate ttl nonce w f. simp (fit (length old) rate nonce w.room_is w.rate_high w.nonce_high, no_request old f);
  lower = λ old new nonce fresh o n a b. simp (le-leb old top_code o, le-leb new top_code n, lt-ltb nonce nonce_limit a, lt-ltb fresh nonce_limit b);
  lower_seven = λ old new nonce fresh f. simp (no_lowering old new nonce fresh f);
  compare = λ code a b c l r. simp (le-leb code top_code c, lt-ltb a nonce_limit l, lt-ltb b nonce_limit r);
  compare_seven = λ code a b f. simp (no_comparison code a b f);
}

-- ---- byte by byte

yes_request : (option : List ℕ) → IsRequest option → is_request option ≡ true
unfolding is_request
yes_request option i = simp (eq-eqb _ _ i.kind_is, eq-eqb _ _ i.length_is, eq-eqb _ _ i.function_is)

yes_response : (option : List ℕ) → IsResponse option → is_response option ≡ true
unfolding is_response
yes_response option i = simp (eq-eqb _ _ i.kind_is, eq-eqb _ _ i.length_is)

-- the eight bytes of an option, one by one
bytewise : (kind rate ttl nonce reserved : ℕ) → kind < 256 → rate ≤ top_code → nonce < nonce_limit → reserved < 4
    → Bytewise kind rate ttl (nonce * 4 + reserved) (option_bytes kind rate ttl nonce reserved)
unfolding option_bytes
bytewise kind rate ttl nonce reserved k r n s = record {
  long = refl;
  kind_is = refl;
  length_is = refl;
  rate_is = refl;
  ttl_is = refl;
  word_is = word_again nonce reserved;
  bytes = λ t. bytes_of kind rate ttl nonce reserved k (omega arith) t n s;
}

-- an option that was written anew
written_bytewise : (kind : ℕ) (old new : List ℕ) (rate ttl nonce : ℕ) → kind < 256 → option_written kind old rate ttl nonce ≡ answer new → Bytewise kind rate ttl (nonce * 4) new
written_bytewise kind old new rate ttl nonce k e =
    let w = new_option kind old new rate ttl nonce e in
    subst (λ (l : List ℕ). Bytewise kind rate ttl (nonce * 4) l) (sym w.1)
    (subst (λ (n : ℕ). Bytewise kind rate ttl n (option_bytes kind rate ttl nonce 0)) (add-zero (nonce * 4))
    (bytewise kind rate ttl nonce 0 k w.0.code_high w.0.nonce_small (omega arith)))

pub layout : Layout
unfolding word_of
layout = record {
  request_read_lem = λ option l i. simp (eq-eqb (length option) option_length l, yes_request option i);
  response_read_lem = λ option l i. simp (eq-eqb (length option) option_length l, yes_response option i);
  request_written_lem = λ old new rate ttl nonce e. written_bytewise 25 old new rate ttl nonce (lit< tt) e;
  response_written_lem = λ old new rate diff nonce e. written_bytewise 27 old new rate diff nonce (lit< tt) e;
  request_rewritten_lem = λ old new rate ttl nonce e.
      let w = changed_option old new rate ttl nonce e in
      subst (λ (l : List ℕ). Bytewise 25 rate ttl (nonce * 4 + reserved_in old) l) (sym w.1)
      (bytewise 25 rate ttl nonce (reserved_in old) (lit< tt) w.0.code_high w.0.nonce_small (omega arith));
}

pub fields : Fields
fields = nonces.fields
