pub mod Books
pub mod LinkRuns
pub mod Questions
