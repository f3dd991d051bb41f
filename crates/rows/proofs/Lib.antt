pub mod RowLaws
pub mod SignLaws
