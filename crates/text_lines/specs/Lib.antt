pub mod Lines
pub mod Taking
pub mod LineLaws
pub mod WordLaws
