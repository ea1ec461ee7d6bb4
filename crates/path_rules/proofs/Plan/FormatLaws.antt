-- Which inputs spell a run, where every other one breaks, and that this fixes the reading: the Format claims. Assumes nothing.
use Prim.Native.Nat.{ℕ, zero, suc, ◌+◌, ◌-◌, ◌≤◌}
use mathlib.Core.Bool.{Bool, true, false}
use mathlib.Core.List.{List, [], ◌∷◌, ◌++◌, append-nil, append_assoc}
use mathlib.Core.Logic.{◌⊎◌, inl, inr}
use Rattle.std.specs.Prelude.{Option, None, Some}
use mathlib.Core.Path.{◌≡◌, refl, sym, ap, ap₂, subst, ◌∙◌}
use native.Mathlib.Omega.{arith}
use borrow.Author.Tests.{lt-ltb, le-leb, ne_eqb, eqb-true, eqb-false}
use lib.Dec.{eqb}
use lib.ListN.{length, get_or, drop, length-append, drop_of_length-le}
use lib.Seq.{drop-cons}
use Rattle.common.specs.Choice.{pick}
use Rattle.common.proofs.Choice.{clash, in_within, untrue}
use Rattle.common.proofs.Lists.{elements}
use Rattle.wire_rules.specs.Rates.Steps.{top_code}
use Rattle.path_rules.specs.declared.Router.{Router}
use Rattle.path_rules.specs.Hops.Rows.{Hops, nonce_at, length_of, is_knowing, front_of, ahead, hops_from}
use Rattle.path_rules.specs.Hops.Claims.{Spells, no_record, record_2, record_3}
use Rattle.path_rules.proofs.Hops.RowLaws.{hops_end, hops_next}
use Rattle.path_rules.proofs.Hops.SpellLaws.{front_knowing, front_silent, found, split, spelt_front}
use Rattle.path_rules.specs.Plan.Records.{Plan, Reading, good, bad, starts_request, starts_receiver, hops_of, plan_of, read_plan}
use Rattle.path_rules.specs.Plan.Claims.{SpellsRequest, SpellsFront, SpellsRun, NoRequest, NoRouter, NoReceiver, Breaks, at_request, at_hop, at_end, BadAt, FormatTheorem, FormatOnly}
use Rattle.path_rules.proofs.Plan.InputLaws.{request_parts, receiver_parts}

-- ---- the request and the receiver in front of some bytes

-- the k elements of a list from place i on, and what stands behind them
in_front : (k i : ℕ) (l : List ℕ) → i + k ≤ length l → drop i l ≡ elements k i l ++ drop (i + k) l
in_front zero i l h = ap (λ (n : ℕ). drop n l) {x = i} {y = i + 0} (omega arith)
in_front (suc k) i l h =
    drop-cons l i 0 (omega arith)
    ∙ ap (λ (t : List ℕ). get_or l i 0 ∷ t) (in_front k (suc i) l (omega arith))
    ∙ ap (λ (n : ℕ). elements (suc k) i l ++ drop n l) {x = suc i + k} {y = i + suc k} (omega arith)

-- the bytes of the request in front
abbrev pub request_in : List ℕ → List ℕ
request_in bytes = 1 ∷ get_or bytes 1 0 ∷ get_or bytes 2 0 ∷ get_or bytes 3 0 ∷ get_or bytes 4 0 ∷ get_or bytes 5 0 ∷ get_or bytes 6 0 ∷ get_or bytes 7 0 ∷ []

pub request_form : (bytes : List ℕ) → starts_request bytes ≡ true
    → SpellsRequest (get_or bytes 1 0) (get_or bytes 2 0) (get_or bytes 3 0) (nonce_at 4 bytes) (request_in bytes) × (bytes ≡ request_in bytes ++ drop 8 bytes)
request_form bytes e =
    let q = request_parts bytes e in (
      record {
        a = get_or bytes 4 0;
        b = get_or bytes 5 0;
        c = get_or bytes 6 0;
        d = get_or bytes 7 0;
        code_low = q.code_low;
        code_high = q.code_high;
        ttl_low = q.ttl_low;
        nonce_is = refl;
        bytes_are = refl;
      },
      in_front 8 0 bytes q.long ∙ ap (λ (k : ℕ). k ∷ elements 7 1 bytes ++ drop 8 bytes) q.kind,
    )

pub receiver_form : (bytes : List ℕ) → starts_receiver bytes ≡ true → (get_or bytes 1 0 ≤ 15) × (bytes ≡ 4 ∷ get_or bytes 1 0 ∷ drop 2 bytes)
receiver_form bytes e =
    let r = receiver_parts bytes e in
    (r.ceiling_high, in_front 2 0 bytes r.long ∙ ap (λ (k : ℕ). k ∷ get_or bytes 1 0 ∷ drop 2 bytes) r.kind)

-- and what spells one is found
pub request_starts : (code ttl qs a b c d : ℕ) (more : List ℕ) → 1 ≤ code → code ≤ 15 → 1 ≤ ttl → starts_request (1 ∷ code ∷ ttl ∷ qs ∷ a ∷ b ∷ c ∷ d ∷ more) ≡ true
unfolding starts_request
request_starts code ttl qs a b c d more l h t =
    simp (le-leb 8 (length (1 ∷ code ∷ ttl ∷ qs ∷ a ∷ b ∷ c ∷ d ∷ more)) (omega arith), in_within 1 code top_code l h, lt-ltb 0 ttl t)

pub receiver_starts : (ceiling : ℕ) (more : List ℕ) → ceiling ≤ 15 → starts_receiver (4 ∷ ceiling ∷ more) ≡ true
unfolding starts_receiver
receiver_starts ceiling more h = simp (le-leb 2 (length (4 ∷ ceiling ∷ more)) (omega arith), le-leb ceiling top_code h)

-- ---- where none stands in front

no_request : (bytes : List ℕ) → starts_request bytes ≡ false → NoRequest bytes
no_request bytes e code ttl qs nonce own more s w =
    let whole = w ∙ ap (λ (l : List ℕ). l ++ more) s.bytes_are in
    let here = ap starts_request whole ∙ request_starts code ttl qs s.a s.b s.c s.d more s.code_low s.code_high s.ttl_low in
    clash (cc)

no_request_starts : (bytes : List ℕ) → NoRequest bytes → starts_request bytes ≡ false
no_request_starts bytes f =
    untrue (starts_request bytes) (λ e.
    let r = request_form bytes e in
    f (get_or bytes 1 0) (get_or bytes 2 0) (get_or bytes 3 0) (nonce_at 4 bytes) (request_in bytes) (drop 8 bytes) r.0 r.1)

no_receiver : (bytes : List ℕ) → starts_receiver bytes ≡ false → NoReceiver bytes
no_receiver bytes e ceiling own more s w =
    let whole = w ∙ ap (λ (l : List ℕ). l ++ more) s.bytes_are in
    let here = ap starts_receiver whole ∙ receiver_starts ceiling more s.ceiling_high in
    clash (cc)

no_receiver_starts : (bytes : List ℕ) → NoReceiver bytes → starts_receiver bytes ≡ false
no_receiver_starts bytes f =
    untrue (starts_receiver bytes) (λ e.
    let r = receiver_form bytes e in
    f (get_or bytes 1 0) (4 ∷ get_or bytes 1 0 ∷ []) (drop 2 bytes) (record { ceiling_high = r.0; bytes_are = refl }) r.1)

-- a spelling of some router is found in front
spelt_some : (routers : List Router) (own more : List ℕ) → Spells routers own → 1 ≤ length routers → front_of (own ++ more) ≡ None → ⊥
spelt_some routers own more no_record h e = omega arith
spelt_some routers own more (record_2 ceiling fresh a b c d routers' row low word s) h e =
    let here = front_knowing ceiling a b c d (row ++ more) low in clash (cc)
spelt_some routers own more (record_3 routers' row s) h e = let here = front_silent (row ++ more) in clash (cc)

no_router : (bytes : List ℕ) → front_of bytes ≡ None → NoRouter bytes
no_router bytes e router own more s w = spelt_some (router ∷ []) own more s (omega arith) (sym (ap front_of w) ∙ e)

no_router_front : (bytes : List ℕ) → NoRouter bytes → front_of bytes ≡ None
no_router_front bytes f = go (front_of bytes) refl
  where
    go : (o : Option Router) → front_of bytes ≡ o → front_of bytes ≡ None
    go None e = e
    go (Some router) e =
        let r = found bytes router e in
        let behind = drop (length_of router) bytes in
        absurd (f router (r.own ++ []) behind (r.spells [] [] no_record) (r.in_front ∙ ap (λ (l : List ℕ). l ++ behind) (sym (append-nil r.own))))

-- reading stops at the limit, or where no router's record stands
abbrev Stopped : ℕ → Hops → Type 0
Stopped limit hops = (length hops.routers ≡ limit) ⊎ (front_of hops.rest ≡ None)

one_more : (limit : ℕ) (router : Router) (hops : Hops) → Stopped limit hops → Stopped (suc limit) (ahead router hops)
one_more limit router hops (inl e) = inl (omega arith)
one_more limit router hops (inr e) = inr e

pub stopped : (limit : ℕ) (bytes : List ℕ) → (length (hops_from limit bytes).routers ≡ limit) ⊎ (front_of (hops_from limit bytes).rest ≡ None)
unfolding hops_from
stopped zero bytes = inl refl
stopped (suc limit) bytes = go (front_of bytes) refl (λ router. stopped limit (drop (length_of router) bytes))
  where
    go : (o : Option Router) → front_of bytes ≡ o → ((router : Router) → Stopped limit (hops_from limit (drop (length_of router) bytes))) → Stopped (suc limit) (hops_from (suc limit) bytes)
    go None e more = subst (Stopped (suc limit)) (sym (hops_end (suc limit) bytes e)) (inr e)
    go (Some router) e more =
        subst (Stopped (suc limit)) (sym (hops_next limit bytes router e)) (one_more limit router (hops_from limit (drop (length_of router) bytes)) (more router))

-- ---- from spellings to the reading

-- the reading by its tests: those of the rest, and before them that of the request
abbrev decided : Plan → ℕ → Bool → Bool → Reading
decided p behind r e = pick r (pick e (good p) (bad (behind + 2))) (bad behind)

abbrev tested : List ℕ → Hops → Bool → Bool → Bool → Reading
tested input hops s r e = pick s (decided (plan_of input hops) (length input - length hops.rest) r e) (bad 0)

by_tests : (limit : ℕ) (input : List ℕ) (hops : Hops) (s r e : Bool) → hops_of limit input ≡ hops → starts_request input ≡ s
    → starts_receiver hops.rest ≡ r → eqb (length hops.rest) 2 ≡ e → read_plan limit input ≡ tested input hops s r e
unfolding read_plan
by_tests limit input hops s r e p q u v = rw (p, q, u, v) refl

-- a receiver's record is no router's, and with more behind it its length is not 2
receiver_front : (ceiling : ℕ) (more : List ℕ) → front_of (4 ∷ ceiling ∷ more) ≡ None
unfolding front_of is_knowing
receiver_front ceiling more = refl

longer : (ceiling : ℕ) (more : List ℕ) → (more ≡ [] → ⊥) → eqb (length (4 ∷ ceiling ∷ more)) 2 ≡ false
longer ceiling [] f = absurd (f refl)
longer ceiling (x ∷ l) f = ne_eqb (length (4 ∷ ceiling ∷ x ∷ l)) 2 (λ e. omega arith)

abbrev plan_with : Plan → ℕ → ℕ → Plan
plan_with p nonce ceiling = record { code = p.code; ttl = p.ttl; qs = p.qs; nonce = nonce; routers = p.routers; ceiling = ceiling }

-- behind a spelled front the two tests of the rest decide
after_front : (limit : ℕ) (p : Plan) (front rest : List ℕ) (r e : Bool) → SpellsFront limit p front → (length p.routers ≡ limit) ⊎ (front_of rest ≡ None)
    → starts_receiver rest ≡ r → eqb (length rest) 2 ≡ e → read_plan limit (front ++ rest) ≡ decided (plan_with p p.nonce (get_or rest 1 0)) (length front) r e
after_front limit p front rest r e f end u v =
    let q = f.request_is in
    let input : List ℕ = 1 ∷ p.code ∷ p.ttl ∷ p.qs ∷ q.a ∷ q.b ∷ q.c ∷ q.d ∷ (f.row ++ rest) in
    let hops : Hops = record { routers = p.routers; rest = rest } in
    let front_is : front ≡ 1 ∷ p.code ∷ p.ttl ∷ p.qs ∷ q.a ∷ q.b ∷ q.c ∷ q.d ∷ f.row = f.whole ∙ ap (λ (l : List ℕ). l ++ f.row) q.bytes_are in
    let long = ap length front_is in
    let joined = length-append f.row rest in
    let behind : length input - length rest ≡ length front = omega arith in
    let begins = request_starts p.code p.ttl p.qs q.a q.b q.c q.d (f.row ++ rest) q.code_low q.code_high q.ttl_low in
    let read = spelt_front limit p.routers f.row rest f.row_is f.few end in
    ap (λ (l : List ℕ). read_plan limit (l ++ rest)) front_is
    ∙ by_tests limit input hops true r e read begins u v
    ∙ ap₂ (λ (n m : ℕ). decided (plan_with p n (get_or rest 1 0)) m r e) q.nonce_is behind

pub reads : (limit : ℕ) (p : Plan) (input : List ℕ) → SpellsRun limit p input → read_plan limit input ≡ good p
reads limit p input s =
    ap (read_plan limit) (s.whole ∙ ap (λ (l : List ℕ). s.front ++ l) s.receiver_is.bytes_are)
    ∙ after_front limit p s.front (4 ∷ p.ceiling ∷ []) true true s.front_is (inr (receiver_front p.ceiling []))
    (receiver_starts p.ceiling [] s.receiver_is.ceiling_high) refl

broken : (limit : ℕ) (front rest : List ℕ) → Breaks limit front rest → read_plan limit (front ++ rest) ≡ bad (length front)
unfolding read_plan
broken limit front rest (at_request _ f) = rw (no_request_starts rest f) refl
broken limit front rest (at_hop p _ _ s f end) = after_front limit p front rest false (eqb (length rest) 2) s (ended end) (no_receiver_starts rest f) refl
  where
    ended : (length p.routers ≡ limit) ⊎ NoRouter rest → (length p.routers ≡ limit) ⊎ (front_of rest ≡ None)
    ended (inl e) = inl e
    ended (inr f) = inr (no_router_front rest f)
broken limit front rest (at_end p _ _ s more) =
    let c = p.ceiling in
    let front_is : front ≡ s.front ++ (4 ∷ c ∷ []) = s.whole ∙ ap (λ (l : List ℕ). s.front ++ l) s.receiver_is.bytes_are in
    let long : length front ≡ length s.front + 2 = ap length front_is ∙ length-append s.front (4 ∷ c ∷ []) in
    ap (read_plan limit) (ap (λ (l : List ℕ). l ++ rest) front_is ∙ append_assoc s.front (4 ∷ c ∷ []) rest)
    ∙ after_front limit p s.front (4 ∷ c ∷ rest) true false s.front_is (inr (receiver_front c rest))
    (receiver_starts c rest s.receiver_is.ceiling_high) (longer c rest more)
    ∙ ap bad (sym long)

pub breaks : (limit at : ℕ) (input : List ℕ) → BadAt limit input at → read_plan limit input ≡ bad at
breaks limit at input b = ap (read_plan limit) b.whole ∙ broken limit b.front b.rest b.breaks ∙ ap bad b.offset

-- ---- from the reading to spellings

-- what a reading tells of the input
abbrev Told : ℕ → List ℕ → Reading → Type 0
Told limit input (good p) = SpellsRun limit p input
Told limit input (bad at) = BadAt limit input at

-- a front is spelled before the rest
fronted : (limit : ℕ) (input : List ℕ) → starts_request input ≡ true
    → (front : List ℕ) × SpellsFront limit (plan_of input (hops_of limit input)) front × (input ≡ front ++ (hops_of limit input).rest)
fronted limit input e =
    let r = request_form input e in
    let s = split limit (drop 8 input) in (
      request_in input ++ s.0,
      record { request = request_in input; row = s.0; request_is = r.0; row_is = s.2; few = s.3; whole = refl },
      r.1 ∙ ap (λ (l : List ℕ). request_in input ++ l) s.1,
    )

-- and what the tests of the rest tell
module _ (limit : ℕ) (input front rest : List ℕ) (p : Plan) (f : SpellsFront limit p front) (whole : input ≡ front ++ rest) where
  offset_of_lem : length front ≡ length input - length rest
  offset_of_lem = let long = ap length whole ∙ length-append front rest in omega arith

  told_hop : starts_receiver rest ≡ false → (length p.routers ≡ limit) ⊎ (front_of rest ≡ None) → BadAt limit input (length input - length rest)
  told_hop e end = record { front = front; rest = rest; whole = whole; offset = offset_of_lem; breaks = at_hop p front rest f (no_receiver rest e) (ended end) }
    where
      ended : (length p.routers ≡ limit) ⊎ (front_of rest ≡ None) → (length p.routers ≡ limit) ⊎ NoRouter rest
      ended (inl e) = inl e
      ended (inr e) = inr (no_router rest e)

  run_of : (receiver : List ℕ) → p.ceiling ≤ 15 → receiver ≡ 4 ∷ p.ceiling ∷ [] → SpellsRun limit p (front ++ receiver)
  run_of receiver h e = record { front = front; receiver = receiver; front_is = f; receiver_is = record { ceiling_high = h; bytes_are = e }; whole = refl }

  told_run : starts_receiver rest ≡ true → p.ceiling ≡ get_or rest 1 0 → eqb (length rest) 2 ≡ true → SpellsRun limit p input
  told_run e c n =
      let r = receiver_form rest e in
      let none_left : drop 2 rest ≡ [] = drop_of_length-le rest {i = 2} (let two = eqb-true (length rest) 2 n in omega arith) in
      subst (SpellsRun limit p) (sym whole) (run_of rest (rw c r.0) (r.1 ∙ cc))

  told_end : starts_receiver rest ≡ true → p.ceiling ≡ get_or rest 1 0 → eqb (length rest) 2 ≡ false → BadAt limit input (length input - length rest + 2)
  told_end e c n =
      let r = receiver_form rest e in
      let own : List ℕ = 4 ∷ p.ceiling ∷ [] in
      let rest_is : rest ≡ own ++ drop 2 rest = r.1 ∙ ap (λ (k : ℕ). 4 ∷ k ∷ drop 2 rest) (sym c) in
      let some_left : drop 2 rest ≡ [] → ⊥ = λ z. eqb-false (length rest) 2 n (ap length rest_is ∙ ap (λ (l : List ℕ). length (own ++ l)) z) in
      record {
        front = front ++ own;
        rest = drop 2 rest;
        whole = whole ∙ ap (λ (l : List ℕ). front ++ l) rest_is ∙ sym (append_assoc front own (drop 2 rest));
        offset = length-append front own ∙ ap (λ (k : ℕ). k + 2) offset_of_lem;
        breaks = at_end p (front ++ own) (drop 2 rest) (run_of own (rw c r.0) refl) some_left;
      }

told : (limit : ℕ) (input : List ℕ) → Told limit input (read_plan limit input)
unfolding read_plan
told limit input = go (starts_request input) (starts_receiver (hops_of limit input).rest) (eqb (length (hops_of limit input).rest) 2) refl refl refl
  where
    go : (s r e : Bool) → starts_request input ≡ s → starts_receiver (hops_of limit input).rest ≡ r → eqb (length (hops_of limit input).rest) 2 ≡ e
        → Told limit input (tested input (hops_of limit input) s r e)
    go false r e p q u = record { front = []; rest = input; whole = refl; offset = refl; breaks = at_request input (no_request input p) }
    go true false e p q u =
        let f = fronted limit input p in told_hop limit input f.0 (hops_of limit input).rest (plan_of input (hops_of limit input)) f.1 f.2 q (stopped limit (drop 8 input))
    go true true true p q u =
        let f = fronted limit input p in told_run limit input f.0 (hops_of limit input).rest (plan_of input (hops_of limit input)) f.1 f.2 q refl u
    go true true false p q u =
        let f = fronted limit input p in told_end limit input f.0 (hops_of limit input).rest (plan_of input (hops_of limit input)) f.1 f.2 q refl u

pub only : (limit : ℕ) (p : Plan) (input : List ℕ) → read_plan limit input ≡ good p → SpellsRun limit p input
only limit p input e = subst (Told limit input) e (told limit input)

pub only_breaks : (limit at : ℕ) (input : List ℕ) → read_plan limit input ≡ bad at → BadAt limit input at
only_breaks limit at input e = subst (Told limit input) e (told limit input)

-- ---- the claims

pub format_theorem : FormatTheorem
format_theorem = record { reads = reads; only = only; breaks = breaks; only_breaks = only_breaks }

pub format_only : FormatOnly
format_only read f limit input = go (read_plan limit input) refl
  where
    go : (r : Reading) → read_plan limit input ≡ r → read limit input ≡ read_plan limit input
    go (good p) e = f.reads limit p input (only limit p input e) ∙ sym e
    go (bad at) e = f.breaks limit at input (only_breaks limit at input e) ∙ sym e
