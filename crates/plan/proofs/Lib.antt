pub mod ReadLaws
pub mod RunPathLaws
pub mod TextLaws
