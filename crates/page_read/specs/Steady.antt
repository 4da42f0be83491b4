-- What holds of the scanner between characters.
use Rattle.std.specs.Prelude.{◌≡◌, ℕ, ◌+◌, ◌<◌, ◌≤◌, ◌^◌, Bool, true, false, List, [], ◌∷◌, length, is_some}
use Rattle.std.proofs.Math.Utf8.{scalars, encodes}
use Rattle.node_arena.specs.DomModel.declared.attributes.Attribute.{Attribute}
use Rattle.node_arena.specs.DomModel.AttributeList.{value_of}
use Rattle.node_arena.specs.DomModel.ArenaState.{ArenaState}
use Rattle.page_read.specs.declared.scanner.Scanner.{Scanner}
use Rattle.page_read.specs.declared.scanner.Open.{Open}
use Rattle.page_read.specs.declared.scanner.Lexical.{Lexical}
use Rattle.page_read.specs.declared.scanner.Lexical.TheVariants.{Data, InText, TextReference, TagOpen, MarkupDeclaration, CommentStart, InComment, TagName, BeforeAttributeName, AttributeName, AfterAttributeName, BeforeAttributeValue, InAttributeValue, ValueReference, AfterAttributeValue, SelfClosing, EndTagName, AfterEndTagName}
use Rattle.page_read.specs.References.{IsSmall}
use Rattle.page_read.specs.Construction.{IsOpen}
use Rattle.page_read.specs.View.{names_of, first_or_empty, EachText}

-- each of these elements is in the arena and may have children
abbrev pub EachOpen : ArenaState → List Open → Type 0
EachOpen s [] = Unit {0}
EachOpen s (o ∷ os) = IsOpen s o.node × EachOpen s os

-- the last attribute's name is new in the tag
abbrev pub IsFresh : List Attribute → List ℕ → Type 0
IsFresh list name = is_some (value_of list (encodes name)) ≡ false

-- a node can be made
abbrev pub IsBelowCap : ArenaState → Type 0
IsBelowCap s = s.next < s.cap

-- a level is taken for the element of a start tag
abbrev pub taken : Lexical → ℕ
taken TagName = 1
taken BeforeAttributeName = 1
taken AttributeName = 1
taken AfterAttributeName = 1
taken BeforeAttributeValue = 1
taken (InAttributeValue q) = 1
taken (ValueReference q r) = 1
taken AfterAttributeValue = 1
taken SelfClosing = 1
taken l = 0

-- in an end tag
abbrev pub is_closing : Lexical → Bool
is_closing (EndTagName n) = true
is_closing AfterEndTagName = true
is_closing l = false

abbrev pub SteadyAt : Lexical → ArenaState → List Attribute → (name value : List ℕ) → List Open
    → Type 0
SteadyAt Data s ts k v opened = Unit {0}
SteadyAt InText s ts k v opened = IsBelowCap s
SteadyAt (TextReference r) s ts k v opened = IsBelowCap s × IsSmall r
SteadyAt TagOpen s ts k v opened = Unit {0}
SteadyAt MarkupDeclaration s ts k v opened = IsBelowCap s
SteadyAt CommentStart s ts k v opened = IsBelowCap s
SteadyAt (InComment n) s ts k v opened = IsBelowCap s
SteadyAt TagName s ts k v opened = IsBelowCap s × (ts ≡ [])
SteadyAt BeforeAttributeName s ts k v opened = IsBelowCap s
SteadyAt AttributeName s ts k v opened = IsBelowCap s × (v ≡ [])
SteadyAt AfterAttributeName s ts k v opened = IsBelowCap s × (v ≡ []) × IsFresh ts k
SteadyAt BeforeAttributeValue s ts k v opened = IsBelowCap s × (v ≡ []) × IsFresh ts k
SteadyAt (InAttributeValue q) s ts k v opened = IsBelowCap s × IsFresh ts k
SteadyAt (ValueReference q r) s ts k v opened = IsBelowCap s × IsFresh ts k × IsSmall r
SteadyAt AfterAttributeValue s ts k v opened = IsBelowCap s
SteadyAt SelfClosing s ts k v opened = IsBelowCap s
SteadyAt (EndTagName n) s ts k v opened =
    (0 < length opened) × (n ≤ length (first_or_empty (names_of opened)))
SteadyAt AfterEndTagName s ts k v opened = 0 < length opened

pub record Steady (s : Scanner) : Type 0 where
  pub levels : s.room + length s.opened.items + taken s.lexical < 2 ^ 32
  pub opens : EachOpen s.arena s.opened.items
  pub texts : EachText s.attributes
  pub scalar : scalars s.name.items ≡ true
  pub at : SteadyAt s.lexical s.arena s.attributes s.name.items s.value.items s.opened.items
