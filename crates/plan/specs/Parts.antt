-- What the functions do that are not public, part by part. No claim speaks of these definitions. Assumes nothing.
use Rattle.std.specs.Prelude.{ℕ, List, length}
use Rattle.refusals.specs.Reply.{Reply, and_then}
use Rattle.wire_rules.specs.Ipv4.Packets.{sealed_reply}
use Rattle.sender_rules.specs.declared.Wish.{Wish}
use Rattle.sender_rules.specs.Sender.Calls.{Sending}
use Rattle.sender_rules.specs.Connections.Records.{fresh_with}
use Rattle.path_rules.specs.Hops.Rows.{most_routers}
use Rattle.path_rules.specs.Hops.Verdicts.{Verdict}
use Rattle.path_rules.specs.Path.Demands.{header_with}
use Rattle.path_rules.specs.Path.Runs.{path_calls, blank, run_call}
use Rattle.path_rules.specs.Path.OwnSender.{window, ssthresh, own_transport}

-- what is said of a request that was written, over any row: that its packet cannot be sealed, or what the run says
abbrev pub sent_on : ℕ → ℕ → List ℕ → Sending → Reply Verdict
sent_on ttl ceiling row s =
    and_then (sealed_reply (length (header_with ttl s.request)) (header_with ttl s.request)) (λ packet. (run_call most_routers s.connection packet row ceiling own_transport).said)

-- what is said of a wish: that it is refused, or what follows
abbrev pub run_said : Wish → ℕ → List ℕ → Reply Verdict
run_said w ceiling row =
    let asked = path_calls.ask (fresh_with window ssthresh) w blank in
    and_then asked.said (λ done. sent_on w.ttl ceiling row asked.left)
