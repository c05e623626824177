pub mod Stores
pub mod Tests
pub mod Order
