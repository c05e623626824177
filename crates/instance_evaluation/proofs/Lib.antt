mod Steps
mod Layouts
mod Turns
