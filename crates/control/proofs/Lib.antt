pub mod NumberLaws
pub mod CallLaws
pub mod HalvesLaws
pub mod ReadLaws
pub mod ReadingBack
