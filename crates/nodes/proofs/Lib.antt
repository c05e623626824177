pub mod Binding
pub mod Views
pub mod ExpressionViews
pub mod FormulaViews
pub mod Roots
mod Powers
mod Placed
pub mod Numbers
