-- The claims of specs/Plan/Claims.antt, each under its own name. Assumes nothing.
use Rattle.path_rules.specs.Plan.Claims.{Spelling, FormatTheorem, FormatOnly, Enough, Line}
use Rattle.path_rules.proofs.Plan.SpellingLaws as spellings
use Rattle.path_rules.proofs.Plan.FormatLaws as formats
use Rattle.path_rules.proofs.Plan.EnoughLaws as lengths
use Rattle.path_rules.proofs.Plan.LineLaws as lines

pub spelling : Spelling
spelling = spellings.spelling

pub format_theorem : FormatTheorem
format_theorem = formats.format_theorem

pub format_only : FormatOnly
format_only = formats.format_only

pub enough : Enough
enough = lengths.enough

pub line : Line
line = lines.line
