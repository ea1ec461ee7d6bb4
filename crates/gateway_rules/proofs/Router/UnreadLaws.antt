-- Routers, silent routers and routers with a ledger read and change nothing behind the header. Assumes nothing.
use Prim.Native.Nat.{ℕ}
use mathlib.Core.Bool.{Bool, true, false, ◌&&◌}
use mathlib.Core.List.{List}
use mathlib.Core.Path.{◌≡◌, refl, sym, subst}
use lib.Dec.{leb}
use lib.ListN.{length}
use Rattle.common.specs.Choice.{pick}
use Rattle.refusals.specs.Reply.{Reply, answer, refuse, leaves, done, and_then}
use Rattle.wire_rules.specs.Ipv4.Views.{View, view, put}
use Rattle.wire_rules.specs.Ipv4.Claims.{SameHeader, LeftAlike, Alike}
use Rattle.wire_rules.proofs.Ipv4.OptionLaws.{view_place}
use Rattle.wire_rules.proofs.Ipv4.UnreadLaws.{alike_refused, alike_chosen, put_alike}
use Rattle.wire_rules.proofs.Ipv4.Claims as packets
use Rattle.gateway_rules.specs.Ledgers.Calls.{Link, link_in_range, Granted}
use Rattle.gateway_rules.specs.Router.Routers.{router_in_range, unexpired, routed_view, routed, wish_of, ceiling_from, Passage, passage, routed_by_ledger, ledger_router}
use Rattle.gateway_rules.specs.Router.Claims.{AlikePassages, BehindHeader}

module _ (p q : List ℕ) (s : SameHeader p q) where
  views : (reach : ℕ) → view reach q ≡ view reach p
  views reach = (packets.behind_header).views reach p q s

  -- what is put of the view that was seen
  put_of : (reach : ℕ) (v new : View) → view reach p ≡ answer v → LeftAlike p q (put p new) (put q new)
  put_of reach v new e = let f = view_place reach p v e in put_alike reach p q s f.0 new f.1

  -- ---- without a ledger

  module _ (reach ceiling fresh : ℕ) where
    abbrev afterwards : List ℕ → Reply View → Reply (List ℕ)
    afterwards packet seen = and_then seen (λ v. unexpired v (answer (put packet (routed_view ceiling fresh v))))

    by_view : (seen : Reply View) → view reach p ≡ seen → Alike p q (afterwards p seen) (afterwards q seen)
    by_view (refuse n) e = alike_refused p q s n
    by_view (answer v) e =
        alike_chosen p q s (leb v.ttl 1) _ _ _ _
        (λ _. alike_refused p q s 6)
        (λ _. (refl, put_of reach v (routed_view ceiling fresh v) e))

    router : Alike p q (routed reach ceiling fresh p) (routed reach ceiling fresh q)
    router =
        alike_chosen p q s (router_in_range ceiling fresh) _ _ _ _
        (λ _. subst (λ (seen : Reply View). Alike p q (afterwards p (view reach p)) (afterwards q seen)) (sym (views reach)) (by_view (view reach p) refl))
        (λ _. alike_refused p q s 7)

  -- ---- with a ledger

  module _ (reach ceiling fresh tick : ℕ) (link : Link) where
    record Both (x y : Reply Passage) : Type 0 where
      pub said_is : done y ≡ done x
      pub link_is : (leaves (passage q link) y).link ≡ (leaves (passage p link) x).link
      pub packets : LeftAlike p q (leaves (passage p link) x).packet (leaves (passage q link) y).packet

    both_refused : (n : ℕ) → Both (refuse n) (refuse n)
    both_refused n = record { said_is = refl; link_is = refl; packets = (alike_refused p q s n).1 }

    both_chosen : (t : Bool) (x y x' y' : Reply Passage) → Both x y → Both x' y' → Both (pick t x x') (pick t y y')
    both_chosen true x y x' y' f g = f
    both_chosen false x y x' y' f g = g

    abbrev passed : List ℕ → View → Reply Granted → Reply Passage
    passed packet v grant = and_then grant (λ g. answer (passage (put packet (routed_view g.code fresh v)) g.link))

    by_grant : (v : View) → view reach p ≡ answer v → (grant : Reply Granted) → Both (passed p v grant) (passed q v grant)
    by_grant v e (refuse n) = both_refused n
    by_grant v e (answer g) = record { said_is = refl; link_is = refl; packets = put_of reach v (routed_view g.code fresh v) e }

    abbrev onward : List ℕ → Reply View → Reply Passage
    onward packet seen = and_then seen (λ v. unexpired v (passed packet v (ceiling_from ceiling link tick (wish_of ceiling v.request))))

    by_sight_lem : (seen : Reply View) → view reach p ≡ seen → Both (onward p seen) (onward q seen)
    by_sight_lem (refuse n) e = both_refused n
    by_sight_lem (answer v) e = both_chosen (leb v.ttl 1) _ _ _ _ (both_refused 6) (by_grant v e (ceiling_from ceiling link tick (wish_of ceiling v.request)))

    by_ledger : Both (routed_by_ledger reach ceiling fresh tick (passage p link)) (routed_by_ledger reach ceiling fresh tick (passage q link))
    by_ledger =
        both_chosen (router_in_range ceiling fresh && link_in_range (length link.row) link.ledger.allowance) _ _ _ _
        (subst (λ (seen : Reply View). Both (onward p (view reach p)) (onward q seen)) (sym (views reach)) (by_sight_lem (view reach p) refl))
        (both_refused 7)

  with_ledger_lem : (ceiling fresh tick : ℕ) (link : Link) → AlikePassages p q (ledger_router ceiling fresh tick (passage p link)) (ledger_router ceiling fresh tick (passage q link))
  with_ledger_lem ceiling fresh tick link =
      let b = by_ledger (length p) ceiling fresh tick link in
      subst (λ (n : ℕ). AlikePassages p q (ledger_router ceiling fresh tick (passage p link))
      (record { said = done (routed_by_ledger n ceiling fresh tick (passage q link)); left = leaves (passage q link) (routed_by_ledger n ceiling fresh tick (passage q link)) }))
      (sym s.long) (record { said_is = b.said_is; link_is = b.link_is; packets = b.packets })

pub behind_header : BehindHeader
behind_header = record {
  router = λ reach ceiling fresh p q s. router p q s reach ceiling fresh;
  silent = (packets.behind_header).forwards;
  with_ledger_lem = λ ceiling fresh tick p q link s. with_ledger_lem p q s ceiling fresh tick link;
}
