-- What a run of demand 3 is given, and its verdict; and a plain packet for it. Assumes nothing.
use Rattle.std.specs.Prelude.{ℕ, List, [], ◌∷◌, ◌++◌}
use Rattle.wire_rules.specs.Ipv4.Checksums.{sealed}
use Rattle.sender_rules.specs.declared.Connection.{Connection}
use Rattle.wire_rules.specs.declared.Transport.{Transport}
use Rattle.sender_rules.specs.declared.Wish.{Wish}
use Rattle.path_rules.specs.declared.Router.{Router}
use Rattle.path_rules.specs.Hops.Verdicts.{Verdict}
use Rattle.path_rules.specs.Path.Runs.{Calls, run_by}

-- the record before the asking, what is asked, and the buffer for the request; the packet that goes out; the record when the response
-- comes; T, MSS and H; the receiver's ceiling and the routers
pub record Setting : Type 0 where
  pub connection : Connection
  pub wish : Wish
  pub buffer : List ℕ
  pub packet : List ℕ
  pub waiting : Connection
  pub transport : Transport
  pub ceiling : ℕ
  pub routers : List Router

-- the verdict of its run
abbrev pub verdict_by : Calls → Setting → Verdict
verdict_by calls g = (run_by calls g.waiting g.transport g.ceiling g.routers g.packet).verdict

-- a header of 28 bytes with one option, sent with an IP TTL, and nothing behind it; then with its checksum
abbrev pub header_with : ℕ → List ℕ → List ℕ
header_with ttl option = (71 ∷ 0 ∷ 0 ∷ 28 ∷ 0 ∷ 0 ∷ 0 ∷ 0 ∷ ttl ∷ 6 ∷ 0 ∷ 0 ∷ 10 ∷ 0 ∷ 0 ∷ 1 ∷ 10 ∷ 0 ∷ 0 ∷ 2 ∷ []) ++ option

abbrev pub plain : ℕ → List ℕ → List ℕ
plain ttl option = sealed (header_with ttl option)
