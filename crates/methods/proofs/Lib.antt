pub mod Nearest
pub mod BusyPeriod
