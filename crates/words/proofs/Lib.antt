mod Divisions
mod Multiples
