-- What the program `every` does.
pub mod Listed
