pub mod Words
mod Scans
mod ScanLoops
