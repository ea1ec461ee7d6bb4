pub mod SurveyLaws
pub mod JoinLaws
pub mod RowLaws
pub mod VerdictLaws
