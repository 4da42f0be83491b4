-- The references of the code, as the machine's.
use Rattle.std.specs.Prelude.{ℕ, ◌≤◌, List, [], ◌∷◌, length, drop, codes}
use Rattle.page_grammar.specs.Chars.{Entity as MachineEntity, entity}
use Rattle.page_grammar.specs.Machine as machine
use Rattle.page_read.specs.declared.reference.Entity.{Entity}
use Rattle.page_read.specs.declared.reference.Entity.TheVariants.{Ampersand, Less, Greater, Quote, Apostrophe, NoBreakSpace}
use Rattle.page_read.specs.declared.reference.Reference.{Reference}
use Rattle.page_read.specs.declared.reference.Reference.TheVariants.{Begun, LetterA, Named, Number, Decimal, HexMark, Hexadecimal}
use Rattle.page_read.specs.declared.reference.Turn.{Turn}
use Rattle.page_read.specs.declared.reference.Turn.TheVariants.{Stop, More, Done}

abbrev pub name_of : Entity → List ℕ
name_of Ampersand = codes "amp"
name_of Less = codes "lt"
name_of Greater = codes "gt"
name_of Quote = codes "quot"
name_of Apostrophe = codes "apos"
name_of NoBreakSpace = codes "nbsp"

abbrev pub char_of : Entity → ℕ
char_of Ampersand = 38
char_of Less = 60
char_of Greater = 62
char_of Quote = 34
char_of Apostrophe = 39
char_of NoBreakSpace = 160

-- the names that are left
abbrev pub left_of : Entity → ℕ → List MachineEntity
left_of e n = entity (drop n (name_of e)) (char_of e) ∷ []

abbrev pub reference_of : Reference → machine.Reference
reference_of Begun = machine.Amp
reference_of LetterA = machine.Named (entity (codes "mp") 38 ∷ entity (codes "pos") 39 ∷ [])
reference_of (Named e n) = machine.Named (left_of e n)
reference_of Number = machine.Hash
reference_of (Decimal v) = machine.Dec v
reference_of HexMark = machine.HexMark
reference_of (Hexadecimal v) = machine.Hex v

abbrev pub turn_of : Turn → machine.Turn
turn_of Stop = machine.Stop
turn_of (More r) = machine.More (reference_of r)
turn_of (Done x) = machine.Done x

-- what holds of the numbers in a reference
abbrev pub IsSmall : Reference → Type 0
IsSmall Begun = Unit {0}
IsSmall LetterA = Unit {0}
IsSmall (Named e n) = n ≤ length (name_of e)
IsSmall Number = Unit {0}
IsSmall (Decimal v) = v ≤ 1114111
IsSmall HexMark = Unit {0}
IsSmall (Hexadecimal v) = v ≤ 1114111

abbrev pub IsSmallTurn : Turn → Type 0
IsSmallTurn Stop = Unit {0}
IsSmallTurn (More r) = IsSmall r
IsSmallTurn (Done x) = Unit {0}
