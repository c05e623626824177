mod Adding
mod Rows
mod Relations
mod Guards
