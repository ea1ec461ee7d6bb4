-- What the program's own run is given: its asking is accepted, and the run is one of demand 3. Assumes nothing.
use Prim.Native.Nat.{ℕ}
use mathlib.Core.Path.{◌≡◌, refl}
use native.Mathlib.Omega.{arith}
use Rattle.refusals.specs.Reply.{answer}
use Rattle.sender_rules.specs.Connections.Records.{fresh_with}
use Rattle.sender_rules.specs.Sender.Claims.{AskGiven}
use Rattle.sender_rules.proofs.Sender.Claims.{stays_in_range}
use Rattle.sender_rules.proofs.Connections.Claims.{fresh}
use Rattle.path_rules.specs.Path.Runs.{path_calls, blank}
use Rattle.path_rules.specs.Path.Claims.{Demanded}
use Rattle.path_rules.proofs.Path.Claims.{not_empty}
use Rattle.path_rules.specs.Plan.Records.{Plan}
use Rattle.path_rules.specs.Path.OwnSender.{window, ssthresh}
use Rattle.path_rules.specs.Plan.Lines.{given_for}
use Rattle.path_rules.specs.Plan.Claims.{PlanInRange}

-- ---- a plan in range

module _ (limit : ℕ) (p : Plan) (r : PlanInRange limit p) where
  ask_given : AskGiven (fresh_with window ssthresh) (given_for p).wish blank
  ask_given = record {
    record_in = fresh.in_range_lem window ssthresh (fresh.made window ssthresh (omega arith) (omega arith) (omega arith));
    code_low = r.code_low;
    code_high = r.code_high;
    ttl_low = r.ttl_low;
    ttl_high = r.ttl_high;
    nonce_high = r.nonce_high;
    rtt_low = omega arith;
    rtt_high = omega arith;
    room_is = refl;
  }

  pub asked : (path_calls.ask (fresh_with window ssthresh) (given_for p).wish blank).said ≡ answer tt
  asked = not_empty.asks window ssthresh (given_for p).wish blank ask_given

  -- what the program runs is what demand 3 speaks of
  pub demanded : Demanded path_calls (given_for p)
  demanded = record {
    qs_byte = r.qs_byte;
    asked = asked;
    carried = not_empty.packets (fresh_with window ssthresh) (given_for p).wish blank r.qs_byte asked;
    still_open = refl;
    waiting_in = stays_in_range.ask (fresh_with window ssthresh) (given_for p).wish blank ask_given.record_in;
    transport_given = record {
      rtt_low = omega arith;
      rtt_high = omega arith;
      mss_low = omega arith;
      mss_high = omega arith;
      headers_low = omega arith;
      headers_high = omega arith;
    };
    ceiling_high = r.ceiling_high;
    routers_given = r.routers_in;
  }
