pub mod Grammar
pub mod Numbers
pub mod MergesFiles
pub mod Parts
pub mod Printed
