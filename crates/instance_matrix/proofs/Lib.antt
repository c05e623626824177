pub mod Filling
pub mod Results
pub mod Counting
