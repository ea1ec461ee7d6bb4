-- What the functions do that are not public, part by part: how a row of hop records is spelled as bytes. No claim speaks of these
-- definitions. Assumes nothing.
use Rattle.std.specs.Prelude.{ℕ, ◌*◌, ◌-◌, ◌&&◌, List, leb, length}
use Rattle.common.specs.Choice.{pick}
use Rattle.refusals.specs.Reply.{Reply, answer, refuse}
use Rattle.path_rules.specs.Hops.Rows.{most_routers, knowing_length}
use Rattle.path_rules.specs.Hops.Claims.{spelled}
use Rattle.path_rules.specs.declared.Hop.{Hop}
use Rattle.path_rules.specs.Rows.Rows.{routers_of, all_in_range}

-- the last place at which there is room for one more record
abbrev pub last_place : ℕ
last_place = knowing_length * (most_routers - 1)

-- the records of a row's hops, one behind the other; 7 where the hops are no row
unfoldable pub spelt : List Hop → Reply (List ℕ)
spelt hops = pick (leb (length hops) most_routers && all_in_range hops) (answer (spelled (routers_of hops))) (refuse 7)
