-- What it is that a program prints the events of a machine, or refuses a text.
pub mod Printing
pub mod Refused
