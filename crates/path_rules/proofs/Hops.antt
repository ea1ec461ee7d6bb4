-- Laws of rows, spellings, summaries and verdicts; the claims of specs/Hops/Claims.antt are proved in `Claims`, each under its name.
pub mod RowLaws
pub mod SpellLaws
pub mod SummaryLaws
pub mod JoinLaws
pub mod VerdictLaws
pub mod Claims
