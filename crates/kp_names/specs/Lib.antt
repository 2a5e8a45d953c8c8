pub mod Resolved
pub mod View
pub mod Noted
