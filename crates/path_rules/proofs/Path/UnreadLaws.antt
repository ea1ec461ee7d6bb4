-- A run reads and changes nothing behind the header: travel, receiver and call, of two packets that differ there alone. Assumes nothing.
use Prim.Native.Nat.{ℕ}
use mathlib.Core.Bool.{Bool, true, false}
use mathlib.Core.List.{List, [], ◌∷◌}
use mathlib.Core.Path.{◌≡◌, refl, sym, ap, subst, ◌∙◌}
use lib.ListN.{length}
use Rattle.common.specs.Choice.{pick}
use Rattle.common.proofs.Choice.{clash}
use Rattle.refusals.specs.Reply.{Reply, answer, refuse, leaves, and_then}
use Rattle.wire_rules.specs.Options.Wire.{option_length}
use Rattle.wire_rules.specs.Ipv4.Views.{View, view}
use Rattle.wire_rules.specs.Ipv4.Claims.{SameHeader, LeftAlike, Alike}
use Rattle.wire_rules.proofs.Ipv4.UnreadLaws.{same_left}
use Rattle.wire_rules.proofs.Ipv4.Claims as packets
use Rattle.gateway_rules.specs.Router.Routers.{routed, silently_routed}
use Rattle.gateway_rules.proofs.Router.Claims as routers
use Rattle.gateway_rules.specs.Receiver.Reports.{Report, unanswered, reported, received}
use Rattle.gateway_rules.proofs.Receiver.Claims as receivers
use Rattle.sender_rules.specs.declared.Connection.{Connection}
use Rattle.sender_rules.specs.Sender.Calls.{while_asked}
use Rattle.wire_rules.specs.declared.Transport.{Transport}
use Rattle.path_rules.specs.declared.Router.{Router}
use Rattle.path_rules.specs.declared.Router.TheVariants.{Knowing, Silent}
use Rattle.path_rules.specs.Hops.Verdicts.{Verdict}
use Rattle.path_rules.specs.Path.Runs.{hop, onward, travel_by, path_calls, Journey, journey, Run, concluded, arrived, run_by, run_in_range, where_asked, start_reply, run_over, call_over}
use Rattle.path_rules.specs.Path.Claims.{AlikeRuns}

-- ---- the travel

-- one call after the other
then_on : (p q x y l m : List ℕ) → LeftAlike p q x y → LeftAlike x y l m → LeftAlike p q l m
then_on p q x y l m a b = record {
  same_header = b.same_header;
  kept = record { size = b.kept.size ∙ a.kept.size; bytes = λ i h. b.kept.bytes i (rw a.kept.size h) ∙ a.kept.bytes i h };
  other_kept = record {
    size = b.other_kept.size ∙ a.other_kept.size;
    bytes = λ i h. b.other_kept.bytes i (rw a.other_kept.size h) ∙ a.other_kept.bytes i h;
  };
}

-- a hop's reach is the packet's own length
hop_alike : (router : Router) (p q : List ℕ) → SameHeader p q → Alike p q (hop router p) (hop router q)
hop_alike (Knowing ceiling fresh) p q s =
    subst (λ (n : ℕ). Alike p q (routed (length p) ceiling fresh p) (routed n ceiling fresh q)) (sym s.long) ((routers.behind_header).router (length p) ceiling fresh p q s)
hop_alike Silent p q s =
    subst (λ (n : ℕ). Alike p q (silently_routed (length p) p) (silently_routed n q)) (sym s.long) ((routers.behind_header).silent (length p) p q s)

record Travelled (row : List Router) (p q : List ℕ) : Type 0 where
  pub said_is : (travel_by hop row q).said ≡ (travel_by hop row p).said
  pub packets : LeftAlike p q (travel_by hop row p).left (travel_by hop row q).left

travelled : (row : List Router) (p q : List ℕ) → SameHeader p q → Travelled row p q
travelled [] p q s = record { said_is = refl; packets = same_left p q s }
travelled (router ∷ rest) p q s =
    let h = by_hop (hop router p) (hop router q) (hop_alike router p q s) (λ x y w. travelled rest x y w) in
    record { said_is = h.0; packets = h.1 }
  where
    by_hop : (x y : Reply (List ℕ)) → Alike p q x y → ((x y : List ℕ) → SameHeader x y → Travelled rest x y)
        → ((onward q y (travel_by hop rest)).said ≡ (onward p x (travel_by hop rest)).said) × LeftAlike p q (onward p x (travel_by hop rest)).left (onward q y (travel_by hop rest)).left
    by_hop (answer x) (answer y) a on =
        let r = on x y a.1.same_header in
        (r.said_is, then_on p q x y _ _ a.1 r.packets)
    by_hop (refuse n) (refuse m) a on = (a.0, same_left p q s)
    by_hop (answer x) (refuse m) a on = absurd (clash (let e = a.0 in cc))
    by_hop (refuse n) (answer y) a on = absurd (clash (let e = a.0 in cc))

-- ---- receiver and sender

module _ (c : Connection) (t : Transport) (ceiling : ℕ) (p q : List ℕ) where
  record Both (x y : Run) : Type 0 where
    pub verdict_is : y.verdict ≡ x.verdict
    pub connection_is : y.left.connection ≡ x.left.connection
    pub packets : LeftAlike p q x.left.packet y.left.packet

  ended : (x y : List ℕ) → LeftAlike p q x y → (report : Reply Report) → Both (concluded path_calls c t x report) (concluded path_calls c t y report)
  ended x y a (answer unanswered) = record { verdict_is = refl; connection_is = refl; packets = a }
  ended x y a (answer (reported r)) = record { verdict_is = refl; connection_is = refl; packets = a }
  ended x y a (refuse n) = record { verdict_is = refl; connection_is = refl; packets = a }

  came : (x y : List ℕ) → LeftAlike p q x y → (said : Reply (Unit {0})) → Both (arrived path_calls c t ceiling said x) (arrived path_calls c t ceiling said y)
  came x y a (refuse n) = record { verdict_is = refl; connection_is = refl; packets = a }
  came x y a (answer _) =
      let s = a.same_header in
      let same : received (length y) ceiling option_length y ≡ received (length x) ceiling option_length x =
      ap (λ (n : ℕ). received n ceiling option_length y) s.long ∙ receivers.behind_header (length x) ceiling option_length x y s in
      subst (λ (r : Reply Report). Both (concluded path_calls c t x (received (length x) ceiling option_length x)) (concluded path_calls c t y r)) (sym same)
      (ended x y a (received (length x) ceiling option_length x))

  ran_alike : SameHeader p q → (row : List Router) → Both (run_by path_calls c t ceiling row p) (run_by path_calls c t ceiling row q)
  ran_alike s row =
      let w = travelled row p q s in
      subst (λ (said : Reply (Unit {0})). Both (run_by path_calls c t ceiling row p) (arrived path_calls c t ceiling said (travel_by hop row q).left)) (sym w.said_is)
      (came (travel_by hop row p).left (travel_by hop row q).left w.packets (travel_by hop row p).said)

  -- ---- the call

  abbrev outcome : List ℕ → Reply Run → Reply Verdict × Journey
  outcome packet reply = (and_then reply (λ run. answer run.verdict), leaves (journey packet c) (and_then reply (λ run. answer run.left)))

  record Called (x y : Reply Run) : Type 0 where
    pub said_is : (outcome q y).0 ≡ (outcome p x).0
    pub connection_is : (outcome q y).1.connection ≡ (outcome p x).1.connection
    pub packets : LeftAlike p q (outcome p x).1.packet (outcome q y).1.packet

  module _ (s : SameHeader p q) where
    not_called : (n : ℕ) → Called (refuse n) (refuse n)
    not_called n = record { said_is = refl; connection_is = refl; packets = same_left p q s }

    called : (x y : Run) → Both x y → Called (answer x) (answer y)
    called x y b = record { said_is = ap answer b.verdict_is; connection_is = b.connection_is; packets = b.packets }

    -- what is tested of the packet
    starts_alike : start_reply c q ≡ start_reply c p
    starts_alike =
        ap (λ (seen : Reply View). and_then seen (λ v. where_asked v.request (while_asked c.state (λ request. answer tt))))
        (ap (λ (n : ℕ). view n q) s.long ∙ (packets.behind_header).views (length p) p q s)

    abbrev begun : List Router → List ℕ → Reply (Unit {0}) → Reply Run
    begun row packet start = and_then start (λ _. answer (run_by path_calls c t ceiling row packet))

    by_start : (row : List Router) (start : Reply (Unit {0})) → Called (begun row p start) (begun row q start)
    by_start row (answer _) = called _ _ (ran_alike s row)
    by_start row (refuse n) = not_called n

    by_range : (row : List Router) (in_range_lem : Bool)
        → Called (pick in_range_lem (begun row p (start_reply c p)) (refuse 7)) (pick in_range_lem (begun row q (start_reply c q)) (refuse 7))
    by_range row true = subst (λ (start : Reply (Unit {0})). Called (begun row p (start_reply c p)) (begun row q start)) (sym starts_alike) (by_start row (start_reply c p))
    by_range row false = not_called 7

    over_row : (row : Reply (List Router)) → Called (run_over row c p ceiling t) (run_over row c q ceiling t)
    over_row (answer row) = by_range row (run_in_range c ceiling t)
    over_row (refuse n) = not_called n

-- over a row in any form
pub call_alike : (row : Reply (List Router)) (c : Connection) (p q : List ℕ) (ceiling : ℕ) (t : Transport) → SameHeader p q
    → AlikeRuns p q (call_over row c p ceiling t) (call_over row c q ceiling t)
call_alike row c p q ceiling t s =
    let w = over_row c t ceiling p q s row in
    record { said_is = w.said_is; connection_is = w.connection_is; packets = w.packets }
