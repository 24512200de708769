pub mod Numbers
pub mod Things
pub mod Views
