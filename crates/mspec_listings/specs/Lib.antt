pub mod Leaves
pub mod Listings
pub mod Paths
pub mod Plain
