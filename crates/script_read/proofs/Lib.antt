pub mod Tests
pub mod Cutting
pub mod Numbers
pub mod Places
pub mod Values
pub mod Printed
pub mod Lines
