-- The claims of specs/Hops/Claims.antt. Assumes nothing.
use mathlib.Core.Path.{refl}
use Rattle.path_rules.specs.Hops.Verdicts.{verdict_reply}
use Rattle.path_rules.specs.Hops.Claims.{Rows, Summing, Joining, JudgingTheorem, JudgingOnly}
use Rattle.path_rules.proofs.Hops.SpellLaws as spells
use Rattle.path_rules.proofs.Hops.SummaryLaws as sums
use Rattle.path_rules.proofs.Hops.JoinLaws as parts
use Rattle.path_rules.proofs.Hops.VerdictLaws as verdicts

pub rows : Rows
rows = record {
  most = refl;
  reads = spells.row_reads;
  only = spells.row_only;
  seven = spells.row_seven;
  in_range_lem = spells.spelt_in_range;
  written = spells.written;
  together = spells.together;
}

pub summing : Summing
summing = record {
  nobody = sums.sum_nobody;
  knowing = sums.sum_knowing;
  silent = sums.sum_silent;
  row = sums.sum_row;
  seven = sums.sum_seven;
  parts = parts.sum_parts;
  order = parts.sum_order;
}

pub joining : Joining
joining = record {
  tested = sums.ranged_tested;
  suffices = sums.ranged_suffices;
  in_range_lem = sums.sum_ranged;
  joins = parts.joins;
  seven = parts.join_seven;
  swapped = parts.swapped;
  grouped = parts.grouped;
  grouped_calls = parts.grouped_calls;
  again = parts.join_again;
}

pub judging_theorem : JudgingTheorem
judging_theorem = verdicts.judges

pub judging_only : JudgingOnly
judging_only judge j s ttl code ceiling = verdicts.judge_alike judge verdict_reply j verdicts.judges s ttl code ceiling
