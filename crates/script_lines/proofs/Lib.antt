pub mod LineLaws
pub mod LineTotal
pub mod NameLaws
pub mod NumberLaws
pub mod PlaceLaws
pub mod SpellingLaws
pub mod WordLaws
