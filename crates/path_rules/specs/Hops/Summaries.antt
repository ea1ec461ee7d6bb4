-- The summary of a part of a path, and of two parts together (document 01, "Path, program and callers"). Assumes nothing.
use Rattle.std.specs.Prelude.{ℕ, suc, ◌+◌, min, Bool, ◌&&◌, List, [], ◌∷◌, leb, length}
use Rattle.common.specs.Choice.{pick}
use Rattle.refusals.specs.Reply.{Reply, answer, refuse, and_then}
use Rattle.wire_rules.specs.Rates.Steps.{top_code}
use Rattle.path_rules.specs.declared.Router.{Router}
use Rattle.path_rules.specs.declared.Router.TheVariants.{Knowing, Silent}
use Rattle.path_rules.specs.declared.Summary.{Summary}
use Rattle.path_rules.specs.Hops.Rows.{most_routers, row_of}

unfoldable pub silent_ones : List Router → ℕ
silent_ones [] = 0
silent_ones (Knowing ceiling fresh ∷ rest) = silent_ones rest
silent_ones (Silent ∷ rest) = suc (silent_ones rest)

-- "the least ceiling of those that know (15 if none)"
unfoldable pub least_ceiling : List Router → ℕ
least_ceiling [] = top_code
least_ceiling (Knowing ceiling fresh ∷ rest) = min ceiling (least_ceiling rest)
least_ceiling (Silent ∷ rest) = least_ceiling rest

-- "A part's summary is the number of routers, the number of silent ones and the least ceiling of those that know (15 if none)."
unfoldable pub summary_of : List Router → Summary
summary_of routers = record { routers = length routers; silent = silent_ones routers; least = least_ceiling routers }

-- the summary of a row, by the routers that it is read as or the refusal, whatever form it is lent in
abbrev pub summary_over : Reply (List Router) → Reply Summary
summary_over row = and_then row (λ routers. answer (summary_of routers))

-- of a row as bytes; 7 where it is none
abbrev pub summary_reply : ℕ → List ℕ → Reply Summary
summary_reply limit bytes = summary_over (row_of limit bytes)

-- "a summary's routers .. 0 to 64, its silent ones at most its routers", "ceilings 0 to 15"
unfoldable pub summary_in_range : Summary → Bool
summary_in_range s = leb s.routers most_routers && leb s.silent s.routers && leb s.least top_code

-- "Joining adds the numbers and takes the lesser ceiling."
unfoldable pub joined : Summary → Summary → Summary
joined a b = record { routers = a.routers + b.routers; silent = a.silent + b.silent; least = min a.least b.least }

-- 7 outside the ranges, "joined too"
abbrev pub join_reply : Summary → Summary → Reply Summary
join_reply a b = pick (summary_in_range a && summary_in_range b && leb (a.routers + b.routers) most_routers) (answer (joined a b)) (refuse 7)
