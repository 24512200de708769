pub mod ArgumentLaws
pub mod FieldLaws
pub mod PaddingLaws
pub mod ScopeLaws
pub mod Told
