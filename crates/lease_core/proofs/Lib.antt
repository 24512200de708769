pub mod KeptLemmas
pub mod MapLemmas
