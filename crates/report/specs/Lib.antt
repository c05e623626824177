-- What the finder prints.
pub mod Printed
pub mod Tells
pub mod Private
