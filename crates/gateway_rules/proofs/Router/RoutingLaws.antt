-- The claims on decisions, refusals, what is left of a packet, and one hop, proved of our routers. Assumes nothing.
use Prim.Native.Nat.{ℕ, ◌-◌, min}
use Rattle.std.specs.Prelude.{Some}
use mathlib.Core.Path.{◌≡◌, refl, sym, ap}
use Rattle.refusals.proofs.ReplyLaws.{through}
use Rattle.wire_rules.specs.declared.Request.{Request}
use Rattle.wire_rules.specs.Ipv4.Checks.{header_checked}
use Rattle.wire_rules.specs.Ipv4.Packets.{walked}
use Rattle.wire_rules.proofs.Ipv4.OptionLaws.{viewed_by}
use Rattle.gateway_rules.specs.declared.Decision.{Decision}
use Rattle.gateway_rules.specs.declared.Decision.TheVariants as Decisions
use Rattle.gateway_rules.specs.Router.Decisions.{approved_at, decided, denial, written_by, over, request_after}
use Rattle.gateway_rules.specs.Router.Routers.{routed, silently_routed}
use Rattle.gateway_rules.specs.Router.Claims.{Deciding, Testing, Passing, Silence, OneHop, SilentHop}
use Rattle.gateway_rules.proofs.Router.DecisionLaws.{nothing_decided}
use Rattle.gateway_rules.proofs.Router.CallLaws.{routed_seven}
use Rattle.gateway_rules.proofs.Router.HopLaws.{not_given, routed_fault, routed_six, routed_view_lem, ttl_shown, routed_passed, routed_reserved, silent_faulty, silent_passed, silent_six, silent_accepted, untouched_passed, hop, silent_hop_lem, denied_at, approved_at_lem, approves_it}

pub deciding : Deciding
deciding = record {
  no_request = λ ceiling fresh. refl;
  rate_0 = λ ceiling fresh r e. sym (nothing_decided ceiling fresh r e);
  denies = λ fresh r h. denied_at 0 fresh r h refl;
  approves = λ ceiling fresh r h k. (approved_at (min r.rate ceiling) fresh r, approved_at_lem ceiling fresh r h k, approves_it ceiling fresh r h);
}

pub testing : Testing routed
testing = record {
  seven = λ reach ceiling fresh packet n. sym (routed_seven reach ceiling fresh packet (not_given ceiling fresh n));
  faulty = λ reach ceiling fresh n packet g e. routed_fault reach ceiling fresh packet g n e;
  six = λ reach ceiling fresh packet place g l h. routed_six reach ceiling fresh packet g _ (viewed_by reach packet place l) h;
  accepted = λ reach ceiling fresh packet place g l h. (_, routed_view_lem reach ceiling fresh packet g _ (viewed_by reach packet place l) h);
}

pub passing : Passing routed
passing = record { always = routed_passed; untouched = untouched_passed; reserved = routed_reserved }

pub silence : Silence silently_routed
silence = record { faulty = silent_faulty; six = silent_six; accepted = silent_accepted; always = silent_passed }

-- ---- one hop

-- the request after each decision
pub after_decided : (ceiling fresh : ℕ) (r : Request) (d : Decision) → decided ceiling fresh r ≡ d → request_after ceiling fresh (Some r) ≡ over (written_by d) (Some r)
after_decided ceiling fresh r d e = ap (λ (x : Decision). over (written_by x) (Some r)) e

pub one_hop : OneHop routed
one_hop = record {
  expired = λ reach ceiling fresh place ttl packet r g c h. routed_six reach ceiling fresh packet g _ c.viewed h;
  rate_0 = λ reach ceiling fresh place ttl packet r g c h z.
      hop reach place ttl packet r c h ceiling fresh r g (after_decided ceiling fresh r Decisions.Nothing (sym (nothing_decided ceiling fresh r z)));
  denies = λ reach fresh place ttl packet r g c h k. hop reach place ttl packet r c h 0 fresh denial g (after_decided 0 fresh r Decisions.Denied (denied_at 0 fresh r k refl));
  approves = λ reach ceiling fresh place ttl packet r g c h k l.
      let q = approved_at (min r.rate ceiling) fresh r in
      (q, approves_it ceiling fresh r k, hop reach place ttl packet r c h ceiling fresh q g (after_decided ceiling fresh r (Decisions.Approved q) (approved_at_lem ceiling fresh r k l)));
}

pub silent_hop : SilentHop
silent_hop = record {
  expired = λ reach place ttl packet r c h.
      let checked = through (header_checked reach packet) (λ header. walked packet) (Some place) c.located_at in
      silent_six reach checked.0 packet checked.1 (rw (ttl_shown reach packet _ c.viewed) h);
  passes = λ reach place ttl packet r c h. silent_hop_lem reach place ttl packet r c h;
}
