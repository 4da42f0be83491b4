pub mod Chars
pub mod Names
pub mod Page
pub mod Machine
pub mod Decoder
pub mod Reader
pub mod Bytes
pub mod Kind
pub mod Tokens
pub mod Rows
pub mod Nodes
pub mod Reading
pub mod TreeConstruction
pub use Rattle.dom_model.specs as DomModel
pub use Rattle.html_names.specs as HtmlNames
