-- Laws of the program's own run: each call is given what the one before it left, and it says the verdict of the plan that was read. Assumes
-- nothing.
use Prim.Native.Nat.{ℕ, ◌+◌, ◌-◌, ◌≤◌}
use mathlib.Core.Bool.{true}
use mathlib.Core.List.{List}
use mathlib.Core.Path.{◌≡◌, refl, sym, ap, ap₂, subst, ◌∙◌}
use native.Mathlib.Omega.{arith}
use lib.ListN.{length, get_or, take, drop}
use lib.Seq.{get_or-drop}
use Rattle.common.specs.Lists.{Bytes}
use Rattle.common.proofs.Choice.{chosen, clash}
use Rattle.common.proofs.Lists.{bytes_part}
use Rattle.refusals.specs.Reply.{Reply, answer, refuse, leaves, done, and_then, Outcome}
use Rattle.refusals.proofs.ReplyLaws.{went}
use Rattle.wire_rules.specs.Ipv4.Packets.{sealed_reply}
use Rattle.sender_rules.specs.declared.Connection.{Connection}
use Rattle.sender_rules.specs.Connections.Records.{fresh_with}
use Rattle.sender_rules.specs.Sender.Calls.{Sending, sender_calls}
use Rattle.sender_rules.specs.declared.Wish.{Wish}
use Rattle.path_rules.specs.Hops.Rows.{most_routers, nonce_at, row_of}
use Rattle.path_rules.proofs.Hops.SpellLaws.{split}
use Rattle.path_rules.proofs.Hops.Claims.{rows}
use Rattle.path_rules.specs.Path.Runs.{path_calls, blank, run_call}
use Rattle.path_rules.proofs.Path.PlainLaws.{formed}
use Rattle.path_rules.proofs.Path.RunClaims.{said_of_row}
use Rattle.path_rules.specs.Plan.Records.{Plan, starts_request, starts_receiver, hops_of, plan_of}
use Rattle.path_rules.specs.Path.OwnSender.{window, ssthresh, own_transport}
use Rattle.path_rules.specs.Plan.Lines.{wish_for, asked_for, given_for, verdict_for}
use Rattle.path_rules.specs.Path.Demands.{header_with}
use Rattle.plan.specs.Parts.{sent_on, run_said}
use Rattle.path_rules.specs.Plan.Claims.{PlanInRange}
use Rattle.path_rules.proofs.Plan.InputLaws.{request_parts, receiver_parts}
use Rattle.plan.proofs.ReadLaws.{row, row_is, rest_is}
use Rattle.path_rules.proofs.Plan.GivenLaws.{asked, demanded}
use Rattle.refusals.specs.declared.Refusal.{Refusal}
use Rattle.std.specs.Prelude.{Result, Err}
use Rattle.hops.specs.declared.Verdict as code
use Rattle.hops.specs.Replies.{verdict_reply_told}
use Rattle.path_rules.specs.Hops.Verdicts.{Verdict}

-- a refusal without the value is a refusal with it
refused_done : {A : Type 0} (r : Reply A) (n : ℕ) → refuse n ≡ done r → r ≡ refuse n
refused_done (answer a) n e = absurd (clash (cc))
refused_done (refuse m) n e = ap refuse (cc)

-- a packet that cannot be sealed is what is said, or what the run says of one that was
module _ (ttl ceiling : ℕ) (row : List ℕ) (s : Sending) (packet : List ℕ) (h : packet ≡ header_with ttl s.request) where
  abbrev pub runs : List ℕ → Reply Verdict
  runs sealed = (run_call most_routers s.connection sealed row ceiling own_transport).said

  pub seal_refused : (n : ℕ) → refuse n ≡ done (sealed_reply (length packet) packet) → refuse n ≡ sent_on ttl ceiling row s
  seal_refused n r =
      ap (λ (x : Reply (List ℕ)). and_then x runs) (sym (refused_done (sealed_reply (length packet) packet) n r)) ∙ ap (λ (p : List ℕ). and_then (sealed_reply (length p) p) runs) h

  pub seal_done : (sent : List ℕ) → answer tt ≡ done (sealed_reply (length packet) packet) → sent ≡ leaves packet (sealed_reply (length packet) packet) → runs sent ≡ sent_on ttl ceiling row s
  seal_done sent a l =
      ap (λ (x : Reply (List ℕ)). and_then x runs) (sym (went packet sent (sealed_reply (length packet) packet) a l)) ∙ ap (λ (p : List ℕ). and_then (sealed_reply (length p) p) runs) h

-- each call is given what the one before it left
module _ (w : Wish) (ceiling : ℕ) (row : List ℕ) (c₀ : Connection) (e : c₀ ≡ fresh_with window ssthresh) where
  abbrev asks : Connection → Outcome (Unit {0}) Sending
  asks d = path_calls.ask d w blank

  fresh : and_then (asks c₀).said (λ asked. sent_on w.ttl ceiling row (asks c₀).left) ≡ run_said w ceiling row
  fresh = ap (λ (d : Connection). and_then (asks d).said (λ asked. sent_on w.ttl ceiling row (asks d).left)) e

  pub ask_refused : (n : ℕ) → refuse n ≡ (sender_calls.ask c₀ w blank).said → refuse n ≡ run_said w ceiling row
  ask_refused n r = ap (λ (x : Reply (Unit {0})). and_then x (λ asked. sent_on w.ttl ceiling row (asks c₀).left)) r ∙ fresh

  pub ask_done : (s : Sending) → answer tt ≡ (sender_calls.ask c₀ w blank).said → s ≡ (sender_calls.ask c₀ w blank).left → sent_on w.ttl ceiling row s ≡ run_said w ceiling row
  ask_done s a l =
      ap (sent_on w.ttl ceiling row) l ∙ ap (λ (x : Reply (Unit {0})). and_then x (λ asked. sent_on w.ttl ceiling row (asks c₀).left)) a ∙ fresh

-- a run of the same numbers says the same
pub same_run : {code code' nonce nonce' ceiling ceiling' : ℕ} (ttl qs : ℕ) (row : List ℕ) → code ≡ code' → nonce ≡ nonce' → ceiling ≡ ceiling'
    → run_said (wish_for code ttl qs nonce) ceiling row ≡ run_said (wish_for code' ttl qs nonce') ceiling' row
same_run ttl qs row e f g = λ i. run_said (wish_for (e i) ttl qs (f i)) (g i) row

-- ---- a plan in range

-- what the run says, over any row that is read as the plan's routers
module _ (limit : ℕ) (p : Plan) (r : PlanInRange limit p) where
  pub said_verdict : (row : List ℕ) → row_of most_routers row ≡ answer p.routers → run_said (given_for p).wish p.ceiling row ≡ answer (verdict_for p)
  said_verdict row e =
      sym (ask_done (given_for p).wish p.ceiling row (fresh_with window ssthresh) refl (asked_for p.code p.ttl p.qs p.nonce) (sym (asked limit p r)) refl)
      ∙ ap (λ (x : Reply (List ℕ)). and_then x (λ packet. (run_call most_routers (given_for p).waiting packet row p.ceiling own_transport).said))
      (chosen _ _ _ (formed (fresh_with window ssthresh) (given_for p).wish blank r.qs_byte (asked limit p r)))
      ∙ said_of_row (given_for p) (demanded limit p r) row e

-- ---- a plan that was read

module _ (input : List ℕ) (end : ℕ) (bytes : Bytes input) (starts : starts_request input ≡ true) (receives : starts_receiver (drop end input) ≡ true)
    (ends : end + length (hops_of most_routers input).rest ≡ length input) (far : 8 ≤ end) where
  abbrev read : Plan
  read = plan_of input (hops_of most_routers input)

  abbrev the_row : List ℕ
  the_row = row input end ends far

  ceiling_is : get_or input (end + 1) 0 ≡ get_or (hops_of most_routers input).rest 1 0
  ceiling_is = sym (get_or-drop end input 1 0) ∙ ap (λ (l : List ℕ). get_or l 1 0) (rest_is input end ends far)

  read_in_range : PlanInRange most_routers read
  read_in_range =
      let q = request_parts input starts in
      record {
        code_low = q.code_low;
        code_high = q.code_high;
        ttl_low = q.ttl_low;
        ttl_high = omega (arith, bytes 2);
        qs_byte = bytes 3;
        nonce_high = omega (arith, bytes 4, bytes 5, bytes 6, bytes 7);
        routers_in = rows.in_range_lem read.routers the_row (subst Bytes (row_is input end ends far) (bytes_part (end - 8) 8 input bytes)) (split most_routers (drop 8 input)).2;
        few = (split most_routers (drop 8 input)).3;
        ceiling_high = subst (λ (l : List ℕ). get_or l 1 0 ≤ 15) (rest_is input end ends far) (receiver_parts (drop end input) receives).ceiling_high;
      }

  -- its run is never refused, and says the plan's verdict
  pub read_said : run_said (wish_for (get_or input 1 0) (get_or input 2 0) (get_or input 3 0) (nonce_at 4 input)) (get_or input (end + 1) 0) (take (end - 8) (drop 8 input)) ≡ answer (verdict_for read)
  read_said =
      ap₂ (run_said (given_for read).wish) ceiling_is (row_is input end ends far)
      ∙ said_verdict most_routers read read_in_range the_row (rows.reads most_routers read.routers the_row (split most_routers (drop 8 input)).2 (split most_routers (drop 8 input)).3)

-- an answer that tells a verdict is no refusal
pub never_refused : (r : Result code.Verdict Refusal) (why : Refusal) (v : Verdict) → r ≡ Err why → verdict_reply_told r ≡ answer v → ⊥
never_refused r why v e f = clash (cc)
