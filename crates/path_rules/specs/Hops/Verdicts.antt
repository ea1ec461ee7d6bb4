-- The verdict of a path, and that of a summary (document 01, "Path, program and callers"). Assumes nothing.
use Rattle.std.specs.Prelude.{ℕ, min, Bool, ◌&&◌, leb, ltb, eqb}
use Rattle.common.specs.Choice.{pick, within}
use Rattle.refusals.specs.Reply.{Reply, answer, refuse}
use Rattle.wire_rules.specs.Rates.Steps.{top_code}
use Rattle.wire_rules.specs.Options.Wire.{top_ttl}
use Rattle.path_rules.specs.declared.Summary.{Summary}
use Rattle.path_rules.specs.Hops.Summaries.{summary_in_range}

-- "A verdict is lost (a router gave 6), unanswered, the sender's refusal, or accepted with a rate."
pub data Verdict : Type 0 where
  lost : Verdict
  unanswered : Verdict
  not_accepted : ℕ → Verdict
  accepted : ℕ → Verdict

-- "the least of the code asked, its ceiling and the receiver's"
abbrev pub least_of : Summary → ℕ → ℕ → ℕ
least_of s code ceiling = min (min code s.least) ceiling

-- "A summary's verdict is, in this order: lost when the starting TTL is at most its routers; unanswered when the least of the code asked,
-- its ceiling and the receiver's is 0; 14 when a router is silent; accepted at that least."
unfoldable pub verdict_of : Summary → ℕ → ℕ → ℕ → Verdict
verdict_of s ttl code ceiling =
    pick (leb ttl s.routers) lost
    (pick (eqb (least_of s code ceiling) 0) unanswered
    (pick (ltb 0 s.silent) (not_accepted 14)
    (accepted (least_of s code ceiling))))

-- "starting IP TTL 1 to 255", "a code asked of sender or ledger 1 to 15", "ceilings 0 to 15"
unfoldable pub verdict_in_range : ℕ → ℕ → ℕ → Bool
verdict_in_range ttl code ceiling = within 1 ttl top_ttl && within 1 code top_code && leb ceiling top_code

-- 7 outside the ranges
abbrev pub verdict_reply : Summary → ℕ → ℕ → ℕ → Reply Verdict
verdict_reply s ttl code ceiling = pick (summary_in_range s && verdict_in_range ttl code ceiling) (answer (verdict_of s ttl code ceiling)) (refuse 7)
