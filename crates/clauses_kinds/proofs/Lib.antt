pub mod Sources
mod Lists
pub mod LeafMatrices
