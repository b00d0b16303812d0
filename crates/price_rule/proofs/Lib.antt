mod Counts
mod Zeroes
