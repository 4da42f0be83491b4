pub mod StyleText
pub mod DeclarationList
pub mod DeclarationMap
pub mod OnlyGroup
pub mod SizeKeywords
pub mod Numbers
pub mod Colours
pub mod Values
pub mod TextDecoration
pub use Rattle.html_names.specs as HtmlNames
