-- What `cnf` prints.
pub mod Printed
pub mod Private
