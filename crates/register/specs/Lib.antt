pub mod Orders
pub mod Tables
pub mod Registers
pub mod Pairs
