mod Tests
mod Literals
mod Marks
mod Answer
