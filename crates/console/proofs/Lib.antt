mod Locations
mod RunCalls
mod TapeCalls
