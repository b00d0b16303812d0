mod Splits
mod Reading
