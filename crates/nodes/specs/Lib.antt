pub mod Environments
pub mod Nodes
