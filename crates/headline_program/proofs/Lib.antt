pub mod Printing
pub mod Alike
