pub mod References
pub mod CacheRuns
pub mod Predictions
pub mod PredRuns
pub mod Laws
pub mod Statistics
