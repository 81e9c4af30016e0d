pub mod Takers
pub mod Sweeps
pub mod Reaches
pub mod Carries
pub mod Laws
pub mod inside
