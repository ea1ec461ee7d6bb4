pub mod StepLaws
pub mod WindowLaws
