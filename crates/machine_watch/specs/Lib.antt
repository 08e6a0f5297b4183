pub mod Watch
pub mod Texts
pub mod Laws
pub mod Propers
