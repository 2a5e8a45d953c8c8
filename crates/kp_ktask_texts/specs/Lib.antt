pub mod Report
pub mod Translations
