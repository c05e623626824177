-- What the program `every` prints, call by call.
pub mod Printed
pub mod Laws
