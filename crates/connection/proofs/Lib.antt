pub mod SampleLaws
pub mod RangeLaws
pub mod EarlyLaws
pub mod TestLaws
