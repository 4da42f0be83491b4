-- The reader of the code, seen as the grammar's reader without what it has emitted, and as a tree
-- that grows.
use Rattle.std.specs.Prelude.{◌≡◌, ℕ, List, [], Option, Some, None, IfSome}
use Rattle.std.specs.Option.{option_map}
use Rattle.node_arena.specs.DomModel.ArenaState.{ArenaState}
use Rattle.page_grammar.specs.Machine.{Event, IsEnd, quiet}
use Rattle.page_grammar.specs.Kind.{kind_of_byte}
use Rattle.page_grammar.specs.TreeConstruction.{TreeConstruction, construct_all}
use Rattle.page_grammar.specs.Reader as readers
use Rattle.page_read.specs.declared.reader.Reader.{Reader}
use Rattle.page_read.specs.declared.faults.PageKind.{PageKind}
use Rattle.page_read.specs.Decoding.{pending_of, IsSoundPending}
use Rattle.page_read.specs.Faults.{kind_of}
use Rattle.page_read.specs.View.{machine_of, tree_construction_of, Ends}
use Rattle.page_read.specs.Steady.{Steady}

abbrev pub reader_of : Reader → readers.Reader
reader_of r = record { machine = machine_of r.scanner; part = option_map pending_of r.pending }

abbrev pub construction_of : Reader → TreeConstruction
construction_of r = tree_construction_of r.scanner

abbrev pub quieted : Option readers.Reader → Option readers.Reader
quieted None = None
quieted (Some r) = Some (record r { machine = quiet r.machine })

abbrev pub told_in : Option readers.Reader → List Event
told_in None = []
told_in (Some r) = r.machine.out

-- whether the byte is read: then the reader is where the grammar's is, and has constructed what it
-- emitted; else why it isn't
abbrev pub Takes : Option PageKind → (byte : ℕ) → (old new : Reader) → Type 0
Takes None b old new =
    (quieted (readers.read_byte old.scanner.arena.cap (reader_of old) b) ≡ Some (reader_of new))
    × (construction_of new
    ≡ construct_all (told_in (readers.read_byte old.scanner.arena.cap (reader_of old) b))
    (construction_of old))
Takes (Some kind) b old new =
    (readers.read_byte old.scanner.arena.cap (reader_of old) b ≡ None)
    × (kind_of kind ≡ Some (kind_of_byte (reader_of old) b))

-- what holds of the reader between bytes
pub record IsHeld (r : Reader) (c : ℕ) : Type 0 where
  pub cap : r.scanner.arena.cap ≡ c
  pub steady : Steady r.scanner
  pub sound : IfSome r.pending (λ p. IsSoundPending p)

-- the arena that the end of the bytes gives, if they may end here
abbrev pub Finishes : Option ArenaState → (c : ℕ) → readers.Reader → TreeConstruction → Type 0
Finishes (Some a) c r p = (r.part ≡ None) × Ends (Some a) c r.machine p
Finishes None c r p = r.part ≡ None → IsEnd r.machine → ⊥
