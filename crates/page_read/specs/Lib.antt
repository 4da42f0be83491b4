pub mod References
pub mod Faults
pub mod Construction
pub mod View
pub mod Steady
pub mod Decoding
pub mod Reading
pub mod Answer
pub use Rattle.node_arena.specs.DomModel
pub use Rattle.node_arena.specs as NodeArena
pub use Rattle.page_grammar.specs as PageGrammar
pub mod Below
