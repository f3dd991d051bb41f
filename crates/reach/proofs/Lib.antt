pub mod Searches
pub mod LeafLaws
pub mod LinkLaws
pub mod RootLaws
pub mod StoreLaws
pub mod PresentLaws
