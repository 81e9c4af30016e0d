mod Chaining
mod Keeping
mod Listing
mod Naming
mod Numbering
mod Packing
mod Rooms
mod Writing
