pub mod CallLaws
pub mod SinkLaws
pub mod StreamLaws
