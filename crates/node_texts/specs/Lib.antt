pub mod Walk
pub mod NodeHtml
pub mod PlainText
pub mod Occurrences
pub mod Between
pub mod Parts
