pub mod PipeLaws
pub mod RangeLaws
