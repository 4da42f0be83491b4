mod Runs
mod RawBoxes
mod Handles
mod Replacing
