pub mod SpellingLemmas
pub mod PlacingLemmas
pub mod WindowLemmas
pub mod OutputLemmas
