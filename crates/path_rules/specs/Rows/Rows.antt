-- Rows of hops as records, and the calls over them (document 01, "Path, program and callers"). They are told by the same definitions as the
-- calls on rows of bytes, over the routers that the row stands for. Assumes nothing.
use Rattle.std.specs.Prelude.{ℕ, Bool, true, ◌&&◌, List, [], ◌∷◌, leb, ltb, length}
use Rattle.common.specs.Choice.{pick}
use Rattle.refusals.specs.Reply.{Reply, answer, refuse, Outcome}
use Rattle.wire_rules.specs.Rates.Steps.{top_code}
use Rattle.wire_rules.specs.Options.Wire.{nonce_limit}
use Rattle.path_rules.specs.declared.Router.{Router}
use Rattle.path_rules.specs.declared.Router.TheVariants.{Knowing, Silent}
use Rattle.path_rules.specs.declared.Summary.{Summary}
use Rattle.path_rules.specs.Hops.Summaries.{summary_over}
use Rattle.path_rules.specs.Hops.Verdicts.{Verdict}
use Rattle.sender_rules.specs.declared.Connection.{Connection}
use Rattle.wire_rules.specs.declared.Transport.{Transport}
use Rattle.path_rules.specs.Path.Runs.{Journey, call_over}
use Rattle.path_rules.specs.declared.Hop.{Hop}

-- ---- rows

-- "each with its knowledge, ceiling and fresh nonce": a silent router acts by neither number; both must be in range all the same, below
abbrev pub router_of : Hop → Router
router_of hop = pick hop.knows (Knowing hop.ceiling hop.fresh) Silent

unfoldable pub routers_of : List Hop → List Router
routers_of [] = []
routers_of (hop ∷ rest) = router_of hop ∷ routers_of rest

-- "ceilings 0 to 15", "a fresh nonce 0 to 2^30 - 1": a silent hop's too
unfoldable pub hop_in_range : Hop → Bool
hop_in_range hop = leb hop.ceiling top_code && ltb hop.fresh nonce_limit

unfoldable pub all_in_range : List Hop → Bool
all_in_range [] = true
all_in_range (hop ∷ rest) = hop_in_range hop && all_in_range rest

-- a row of hop records: its routers, or 7 for more hops than the limit or a number out of range
abbrev pub hops_row : ℕ → List Hop → Reply (List Router)
hops_row limit hops = pick (leb (length hops) limit && all_in_range hops) (answer (routers_of hops)) (refuse 7)

-- ---- the calls

-- the summary of a row of hops
abbrev pub hops_summary : ℕ → List Hop → Reply Summary
hops_summary limit hops = summary_over (hops_row limit hops)

-- the run of a path over a row of hops: what it says, and the packet and the record that it leaves
abbrev pub hops_call : ℕ → Connection → List ℕ → List Hop → ℕ → Transport → Outcome Verdict Journey
hops_call limit c packet hops ceiling t = call_over (hops_row limit hops) c packet ceiling t
