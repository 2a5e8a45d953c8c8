pub mod Public
pub mod Ascii
pub mod Seen
pub mod KindTests
pub mod Several
pub mod FirstBytes
