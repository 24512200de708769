pub mod AnswerLaws
pub mod AppendLemmas
pub mod LineLemmas
pub mod ValueLemmas
pub mod WordLemmas
