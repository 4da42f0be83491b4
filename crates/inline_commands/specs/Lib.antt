pub mod Unlink
pub mod Toggling
pub mod Linking
pub mod RemovingFormat
pub mod ValueCommands
pub mod RestoringStates
pub mod Merging
