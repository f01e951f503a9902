pub mod Adding
pub mod Entering
pub mod Runs
pub mod LinkHops
pub mod Hops
pub mod WorkedBook
pub mod Showing
pub mod Asking
