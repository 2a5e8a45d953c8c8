pub mod Scopes
pub mod Held
pub mod Within
pub mod FirstFault
pub mod InText
