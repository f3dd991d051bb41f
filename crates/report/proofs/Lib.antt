pub mod TotalLaws
pub mod GainLaws
pub mod StepLaws
pub mod TallyLaws
pub mod StartLaws
pub mod SumLaws
pub mod LimitLaws
pub mod FaultKinds
