pub mod EchoLaws
