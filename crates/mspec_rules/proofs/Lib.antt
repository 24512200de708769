pub mod NameLaws
pub mod LiteralLaws
pub mod CountLaws
pub mod LimitLaws
pub mod FirstLaws
