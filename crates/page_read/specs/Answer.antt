-- What reading a page answers.
use Rattle.std.specs.Prelude.{◌≡◌, ℕ, suc, List, Option, Some, None, Result, Ok, Err}
use Rattle.node_arena.specs.DomModel.ArenaState.{ArenaState}
use Rattle.page_grammar.specs.Kind.{Kind}
use Rattle.page_grammar.specs.Nodes.{document_of}
use Rattle.page_grammar.specs.Page.{Siblings, size}
use Rattle.page_grammar.specs.Reading.{Children, Refused, page_reading}
use Rattle.page_read.specs.declared.faults.PageFault.{PageFault}
use Rattle.page_read.specs.Faults.{kind_of, fault_of_memory}

-- the arena has the document with these children alone, whose labels are those below its next one
pub record IsDocument (a : ArenaState) (c : ℕ) (f : Siblings) : Type 0 where
  pub trees : a.trees ≡ document_of f
  pub next : a.next ≡ suc (size f)
  pub cap : a.cap ≡ c

abbrev pub IsFaultAnswer : (c : ℕ) → List ℕ → PageFault → Option Kind → Type 0
IsFaultAnswer c s fault None = fault ≡ fault_of_memory
IsFaultAnswer c s fault (Some kind) = page_reading 200 c s ≡ Refused fault.at kind

-- the tree of a page, its fault, or that memory is out
abbrev pub IsAnswer : (c : ℕ) → List ℕ → Result ArenaState PageFault → Type 0
IsAnswer c s (Ok a) = (f : Siblings) × (page_reading 200 c s ≡ Children f) × IsDocument a c f
IsAnswer c s (Err fault) = IsFaultAnswer c s fault (kind_of fault.kind)
