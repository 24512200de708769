pub mod Parts
pub mod Places
pub mod Tags
pub mod UrlParts
pub mod Urls
