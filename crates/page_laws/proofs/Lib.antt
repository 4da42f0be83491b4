pub mod Names
pub mod Spelling
pub mod Printing
pub mod Grammatical
pub mod Tidying
pub mod ReadBack
