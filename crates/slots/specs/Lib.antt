pub mod Buffer
pub mod Start
