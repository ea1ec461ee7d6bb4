pub mod RouterLaws
pub mod KeptLaws
