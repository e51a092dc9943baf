mod Decimals
mod Pairs
mod Runs
