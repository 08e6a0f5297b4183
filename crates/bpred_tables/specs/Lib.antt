pub mod Updates
pub mod Tables
pub mod Buffer
pub mod Stack
