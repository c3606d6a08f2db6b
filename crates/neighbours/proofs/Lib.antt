mod Deposits
mod Shown
