pub mod Depths
pub mod Reading
pub mod Completing
pub mod Complete
pub mod Sound
pub mod QuoteLaws
pub mod RoomLaws
