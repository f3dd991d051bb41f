pub mod Segments
pub mod Exceptions
pub mod Translation
pub mod AfterHit
pub mod HitFormula
