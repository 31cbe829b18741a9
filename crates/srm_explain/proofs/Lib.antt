mod Climbs
mod Closed
mod Found
mod Listed
mod Values
mod Ways
