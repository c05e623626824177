-- Document 01's marked cases, K1 to K10: the joint table, and what is shown of its rows.
pub mod Table
pub mod Shown
