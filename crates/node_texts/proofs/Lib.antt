mod Visiting
mod Folding
mod Offsets
mod Upward
mod Cutting
mod Ranges
