pub mod ConstructionLemmas
pub mod OpenLemmas
pub mod NameLemmas
pub mod ElementLemmas
pub mod AttributeLemmas
pub mod EndLemmas
pub mod ReadLemmas
pub use Rattle.node_arena.proofs.DomModel
pub use Rattle.page_grammar.proofs as PageGrammar
