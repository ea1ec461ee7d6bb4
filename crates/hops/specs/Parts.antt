-- What the functions do that are not public, part by part. No claim speaks of these definitions. Assumes nothing.
use Rattle.std.specs.Prelude.{[], ◌∷◌}
use Rattle.path_rules.specs.declared.Router.{Router}
use Rattle.path_rules.specs.declared.Summary.{Summary}
use Rattle.path_rules.specs.Hops.Summaries.{summary_of}

-- the summary of one router
abbrev pub one : Router → Summary
one router = summary_of (router ∷ [])
