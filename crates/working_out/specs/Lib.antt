pub mod Keys
pub mod Rows
pub mod Gathering
pub mod Edits
pub mod Marks
pub mod Settling
pub mod Rings
pub mod Works
