-- Demand 3 of the calls over a row of hop records, and the calls that it shuts out. Which rows are read, the two calls, and that the two
-- forms agree, stand in RowClaims; the calls for C in ResultClaims. Assumes nothing.
use Prim.Native.Nat.{ℕ, ◌≤◌}
use mathlib.Core.List.{List, [], ◌∷◌, ◌++◌}
use mathlib.Core.Path.{◌≡◌, refl, sym, ap, ap₂, subst, ◌∙◌}
use native.Mathlib.Omega.{arith}
use lib.ListN.{length, get_or}
use Rattle.refusals.specs.Reply.{Reply, answer, and_then, Outcome}
use Rattle.refusals.proofs.ReplyLaws.{same_answer}
use Rattle.common.specs.Choice.{within}
use Rattle.wire_rules.specs.Rates.Steps.{rate_of}
use Rattle.wire_rules.specs.Rates.Window.{transport_in_range, window_segments}
use Rattle.wire_rules.specs.Options.Wire.{fields_fit, option_bytes, word_of}
use Rattle.wire_rules.specs.Options.Nonces.{fields_up_to, lowered, agree}
use Rattle.wire_rules.specs.Options.Requests.{is_request}
use Rattle.wire_rules.specs.Options.Responses.{ttl_diff, is_response}
use Rattle.wire_rules.specs.Walk.Walks.{length_fits, look, walk_on}
use Rattle.wire_rules.specs.Ipv4.Headers.{header_length}
use Rattle.wire_rules.specs.Ipv4.Checksums.{ones_add, ones_sum, with_checksum, checksum_of, sealed}
use Rattle.wire_rules.specs.Ipv4.Checks.{well_formed}
use Rattle.gateway_rules.specs.Router.Decisions.{one_less, decided}
use Rattle.gateway_rules.specs.Router.Routers.{router_in_range}
use Rattle.gateway_rules.specs.Receiver.Reports.{report_on, receiver_in_range}
use Rattle.sender_rules.specs.Connections.Records.{state_in_range, bytes_in_range, in_range}
use Rattle.sender_rules.specs.Sender.Calls.{judged}
use Rattle.path_rules.specs.Hops.Rows.{length_of, is_knowing, front_of, hops_from}
use Rattle.path_rules.specs.declared.Router.{Router}
use Rattle.path_rules.specs.declared.Summary.{Summary}
use Rattle.path_rules.specs.Hops.Summaries.{join_reply}
use Rattle.path_rules.specs.Hops.Verdicts.{Verdict, accepted, verdict_reply}
use Rattle.path_rules.specs.Hops.Claims.{Spells, no_record, record_2, RoutersInRange, spelled}
use Rattle.path_rules.specs.Path.Runs.{path_calls, Journey, run_in_range, run_call}
use Rattle.path_rules.specs.Path.Demands.{Setting, verdict_by, plain}
use Rattle.path_rules.specs.Path.Claims as Bytes
use Rattle.path_rules.specs.Path.Claims.{AllKnow, Passable, least_along, Cut, whole, summed_up}
use Rattle.path_rules.proofs.Path.Claims.{path_law}
use Rattle.path_rules.proofs.Path.RunClaims.{call_law}
use Rattle.path_rules.specs.Plan.Records.{Plan}
use Rattle.path_rules.specs.Path.OwnSender.{own_transport}
use Rattle.path_rules.specs.Plan.Lines.{given_for}
use Rattle.path_rules.specs.Plan.Claims.{PlanInRange}
use Rattle.path_rules.proofs.Plan.GivenLaws.{demanded}
use Rattle.path_rules.specs.declared.Hop.{Hop}
use Rattle.path_rules.specs.Rows.Rows.{router_of, routers_of, hop_in_range, all_in_range, hops_summary, hops_call}
use Rattle.path_rules.specs.Rows.Results.{open_for}
use Rattle.path_rules.specs.Rows.Claims.{HopInRange, HopsInRange, knowing_hop, silent_hop, HopRunning, HopCut, part, both, whole_hops, summed_hops, Lent, said_over, HopLaw, but_last, all_knowing, first_hop, no_fresh, run_on, ShutOutBy, HopShutOut}
use Rattle.path_rules.proofs.Rows.RowClaims.{routers_long, routers_in, agreeing}

-- ---- a run over a row of hops

module _ (g : Setting) (hops : List Hop) (l : Lent g hops) where
  said : said_over (hops_call 64) g hops ≡ answer (verdict_by path_calls g)
  said =
      let bytes = spelled (routers_of hops) in
      let s : Spells (routers_of hops) bytes = (agreeing.bytes hops l.hops_in).0 in
      let few : length g.routers ≤ 64 = subst (λ (n : ℕ). n ≤ 64) (sym (routers_long hops) ∙ ap length l.row_is) l.few in
      ap (λ (o : Outcome Verdict Journey). o.said) (agreeing.run 64 hops bytes l.hops_in s g.waiting g.packet g.ceiling g.transport)
      ∙ call_law.verdict g bytes l.demanded (subst (λ (routers : List Router). Spells routers bytes) l.row_is s) few

  -- said as the sender accepts
  said_rate : (rate : ℕ) → said_over (hops_call 64) g hops ≡ answer (accepted rate) → verdict_by path_calls g ≡ accepted rate
  said_rate rate e = same_answer (sym said ∙ e)

-- ---- in parts

routers_both : (a b : List Hop) → routers_of (a ++ b) ≡ routers_of a ++ routers_of b
unfolding routers_of
routers_both [] b = refl
routers_both (hop ∷ a) b = ap (λ (l : List Router). router_of hop ∷ l) (routers_both a b)

in_first : (a b : List Hop) → HopsInRange (a ++ b) → HopsInRange a
in_first [] b r = tt
in_first (hop ∷ a) b r = (r.0, in_first a b r.1)

in_second : (a b : List Hop) → HopsInRange (a ++ b) → HopsInRange b
in_second [] b r = r
in_second (hop ∷ a) b r = in_second a b r.1

-- the same parts as bytes
as_bytes : (cut : HopCut) → HopsInRange (whole_hops cut) → Cut
as_bytes (part hops) r = Bytes.part (routers_of hops) (spelled (routers_of hops)) (agreeing.bytes hops r).0
as_bytes (both a b) r = Bytes.both (as_bytes a (in_first (whole_hops a) (whole_hops b) r)) (as_bytes b (in_second (whole_hops a) (whole_hops b) r))

same_whole : (cut : HopCut) (r : HopsInRange (whole_hops cut)) → whole (as_bytes cut r) ≡ routers_of (whole_hops cut)
unfolding as_bytes
same_whole (part hops) r = refl
same_whole (both a b) r =
    ap₂ (λ (x y : List Router). x ++ y) (same_whole a (in_first (whole_hops a) (whole_hops b) r)) (same_whole b (in_second (whole_hops a) (whole_hops b) r))
    ∙ sym (routers_both (whole_hops a) (whole_hops b))

same_sum : (cut : HopCut) (r : HopsInRange (whole_hops cut)) → summed_hops (hops_summary 64) cut ≡ summed_up (as_bytes cut r)
unfolding as_bytes
same_sum (part hops) r = agreeing.summary 64 hops (spelled (routers_of hops)) r (agreeing.bytes hops r).0
same_sum (both a b) r =
    ap₂ (λ (p q : Reply Summary). and_then p (λ x. and_then q (λ y. join_reply x y)))
    (same_sum a (in_first (whole_hops a) (whole_hops b) r)) (same_sum b (in_second (whole_hops a) (whole_hops b) r))

module _ (g : Setting) (cut : HopCut) (l : Lent g (whole_hops cut)) where
  cut_said : and_then (summed_hops (hops_summary 64) cut) (λ s. verdict_reply s g.wish.ttl g.wish.code g.ceiling) ≡ said_over (hops_call 64) g (whole_hops cut)
  cut_said =
      let few : length g.routers ≤ 64 = subst (λ (n : ℕ). n ≤ 64) (sym (routers_long (whole_hops cut)) ∙ ap length l.row_is) l.few in
      let c = path_law.cutting.by_calls g l.demanded (as_bytes cut l.hops_in) (same_whole cut l.hops_in ∙ l.row_is) few in
      ap (λ (r : Reply Summary). and_then r (λ s. verdict_reply s g.wish.ttl g.wish.code g.ceiling)) (same_sum cut l.hops_in ∙ c.1)
      ∙ c.2
      ∙ sym (said g (whole_hops cut) l)

-- ---- demand 3

pub hop_law : HopLaw
hop_law = record {
  verdict = said;
  accepts = λ g hops l p. said g hops l ∙ ap answer (path_law.accepting.accepts g l.demanded p);
  only = λ g hops l rate e. path_law.accepting.only g l.demanded rate (said_rate g hops l rate e);
  cutting = cut_said;
  order = λ g h x y l m p ttl code ceiling. said g x l ∙ ap answer (path_law.order g h l.demanded m.demanded p ttl code ceiling) ∙ sym (said h y m);
}

-- ---- calls that are shut out

-- one plan, over any routers
abbrev over : List Router → Plan
over routers = record { code = 1; ttl = 64; qs = 0; nonce = 0; routers = routers; ceiling = 15 }

plan_in : (routers : List Router) → RoutersInRange routers → length routers ≤ 64 → PlanInRange 64 (over routers)
plan_in routers r few = record {
  code_low = omega arith;
  code_high = omega arith;
  ttl_low = omega arith;
  ttl_high = omega arith;
  qs_byte = omega arith;
  nonce_high = omega arith;
  routers_in = r;
  few = few;
  ceiling_high = omega arith;
}

lent : (hops : List Hop) → HopsInRange hops → length hops ≤ 64 → Lent (given_for (over (routers_of hops))) hops
lent hops r few =
    let long = routers_long hops in
    record { demanded = demanded 64 (over (routers_of hops)) (plan_in (routers_of hops) (routers_in hops r) (omega (arith, long, few))); row_is = refl; hops_in = r; few = few }

-- a row in which a hop is silent, and another whose hops are all knowing: a call that looks at the second in place of the first accepts,
-- and demand 3 does not
module _ (other : List Hop → List Hop) (hops : List Hop) (in_first : HopsInRange hops) (few_first : length hops ≤ 64) (not_all : AllKnow (routers_of hops) → ⊥)
    (in_other : HopsInRange (other hops)) (few_other : length (other hops) ≤ 64) (passes : Passable (given_for (over (routers_of (other hops))))) where
  abbrev g : Setting
  g = given_for (over (routers_of hops))

  abbrev rate : ℕ
  rate = least_along 1 (routers_of (other hops)) 15

  -- what ours says of the other row
  said_other : said_over (hops_call 64) (given_for (over (routers_of (other hops)))) (other hops) ≡ answer (accepted rate)
  said_other = hop_law.accepts (given_for (over (routers_of (other hops)))) (other hops) (lent (other hops) in_other few_other) passes

  not_accepted_lem : answer (verdict_by path_calls g) ≡ answer (accepted rate) → ⊥
  not_accepted_lem e = not_all (path_law.accepting.only g (lent hops in_first few_first).demanded rate (same_answer e)).0.all_know

  shut_out : ShutOutBy other
  shut_out = record {
    run = λ sum a. not_accepted_lem (sym (a.verdict g hops (lent hops in_first few_first)) ∙ said_other);
    sum = λ run a.
        not_accepted_lem
        (sym (a.verdict g hops (lent hops in_first few_first))
        ∙ sym (a.cutting g (part hops) (lent hops in_first few_first))
        ∙ hop_law.cutting (given_for (over (routers_of (other hops)))) (part (other hops)) (lent (other hops) in_other few_other)
        ∙ said_other);
  }

abbrev one_silent : List Hop
one_silent = silent_hop 15 0 ∷ []

abbrev knowing_then_silent : List Hop
knowing_then_silent = knowing_hop 15 0 ∷ silent_hop 15 0 ∷ []

hop_in : (hop : Hop) → hop.ceiling ≡ 15 → hop.fresh ≡ 0 → HopInRange hop
hop_in hop c f = record { ceiling_high = omega (arith, c); fresh_high = omega (arith, f) }

silent_not : AllKnow (routers_of one_silent) → ⊥
unfolding routers_of
silent_not e = e

then_silent_not : AllKnow (routers_of knowing_then_silent) → ⊥
unfolding routers_of
then_silent_not e = e

passable_none : Passable (given_for (over (routers_of (but_last one_silent))))
unfolding routers_of
passable_none = record { outlasts = omega arith; all_know = tt; all_allow = tt; receiver_allows = omega arith }

passable_knowing : Passable (given_for (over (routers_of (all_knowing one_silent))))
unfolding routers_of
passable_knowing = record { outlasts = omega arith; all_know = tt; all_allow = (omega arith, tt); receiver_allows = omega arith }

passable_first : Passable (given_for (over (routers_of (first_hop knowing_then_silent))))
unfolding routers_of
passable_first = record { outlasts = omega arith; all_know = tt; all_allow = (omega arith, tt); receiver_allows = omega arith }

-- document 01's packet and a router that lowers 5 to 3, with a fresh nonce of ones and with 0: one of the option's bytes tells them apart
abbrev asked : List ℕ
asked = plain 64 (25 ∷ 8 ∷ 5 ∷ 128 ∷ 0 ∷ 0 ∷ 0 ∷ 0 ∷ [])

abbrev byte_of : Outcome Verdict Journey → ℕ
byte_of o = get_or o.left.packet 26 0

by_ones : 15 ≡ byte_of (run_call 64 (open_for 5 192 0) asked (2 ∷ 3 ∷ 255 ∷ 255 ∷ 255 ∷ 252 ∷ []) 15 own_transport)
unfolding routers_of all_in_range hop_in_range front_of is_knowing length_of hops_from within transport_in_range window_segments rate_of fields_fit option_bytes word_of fields_up_to lowered agree is_request ttl_diff is_response
    length_fits look walk_on header_length ones_add ones_sum with_checksum checksum_of sealed well_formed one_less decided router_in_range report_on receiver_in_range
    state_in_range bytes_in_range in_range judged run_in_range
by_ones = refl

by_zero : byte_of (hops_call 64 (open_for 5 192 0) asked (knowing_hop 3 0 ∷ []) 15 own_transport) ≡ 0
unfolding routers_of all_in_range hop_in_range front_of is_knowing length_of hops_from within transport_in_range window_segments rate_of fields_fit option_bytes word_of fields_up_to lowered agree is_request ttl_diff is_response
    length_fits look walk_on header_length ones_add ones_sum with_checksum checksum_of sealed well_formed one_less decided router_in_range report_on receiver_in_range
    state_in_range bytes_in_range in_range judged run_in_range
by_zero = refl

ones_in : HopsInRange (knowing_hop 3 1073741823 ∷ [])
ones_in = (record { ceiling_high = omega arith; fresh_high = omega arith }, tt)

ones_spelt : Spells (routers_of (knowing_hop 3 1073741823 ∷ [])) (2 ∷ 3 ∷ 255 ∷ 255 ∷ 255 ∷ 252 ∷ [])
unfolding routers_of
ones_spelt = record_2 3 1073741823 255 255 255 252 [] [] (omega arith) refl no_record

ones_left_out : HopRunning (run_on no_fresh) → ⊥
ones_left_out a =
    let e = a.runs (open_for 5 192 0) asked (knowing_hop 3 1073741823 ∷ []) (2 ∷ 3 ∷ 255 ∷ 255 ∷ 255 ∷ 252 ∷ []) 15 own_transport (omega arith) ones_in ones_spelt in
    let f : ◌≡◌ {A = ℕ} 0 15 = sym by_zero ∙ ap byte_of e ∙ sym by_ones in
    absurd (omega (arith, f))

pub hop_shut_out : HopShutOut
hop_shut_out = record {
  last_left_out = shut_out but_last one_silent (hop_in (silent_hop 15 0) refl refl, tt) (omega arith) silent_not tt (omega arith) passable_none;
  silent_as_knowing =
      shut_out all_knowing one_silent (hop_in (silent_hop 15 0) refl refl, tt) (omega arith) silent_not (hop_in (knowing_hop 15 0) refl refl, tt) (omega arith) passable_knowing;
  first_only_lem =
      shut_out first_hop knowing_then_silent (hop_in (knowing_hop 15 0) refl refl, (hop_in (silent_hop 15 0) refl refl, tt)) (omega arith) then_silent_not
      (hop_in (knowing_hop 15 0) refl refl, tt) (omega arith) passable_first;
  fresh_left_out = ones_left_out;
}
