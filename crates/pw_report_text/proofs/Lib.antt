pub mod Filed
pub mod OneLines
pub mod Printed
pub mod ReadingBack
pub mod Seen
