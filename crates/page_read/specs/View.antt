-- The scanner of the code, seen as the machine without what it has emitted, and as a tree that
-- grows.
use Rattle.std.specs.Prelude.{◌≡◌, ℕ, ◌+◌, ◌<◌, Bool, true, false, List, [], ◌∷◌, length, drop, map, reverse, Option, Some, None}
use Rattle.std.specs.Str.{chars}
use Rattle.std.proofs.Math.Utf8.{encodes}
use Rattle.node_arena.specs.DomModel.declared.attributes.Attribute.{Attribute}
use Rattle.node_arena.specs.DomModel.declared.Content.TheVariants.{Element}
use Rattle.node_arena.specs.DomModel.ArenaState.{ArenaState}
use Rattle.node_arena.specs.declared.NodeRef.{NodeRef}
use Rattle.page_grammar.specs.Page as page
use Rattle.page_grammar.specs.Machine as machine
use Rattle.page_read.specs.declared.scanner.Scanner.{Scanner}
use Rattle.page_read.specs.declared.scanner.Open.{Open}
use Rattle.page_read.specs.declared.scanner.Dashes.{Dashes}
use Rattle.page_read.specs.declared.scanner.Dashes.TheVariants.{NoDash, OneDash, TwoDashes}
use Rattle.page_read.specs.declared.scanner.Lexical.{Lexical}
use Rattle.page_read.specs.declared.scanner.Lexical.TheVariants.{Data, InText, TextReference, TagOpen, MarkupDeclaration, CommentStart, InComment, TagName, BeforeAttributeName, AttributeName, AfterAttributeName, BeforeAttributeValue, InAttributeValue, ValueReference, AfterAttributeValue, SelfClosing, EndTagName, AfterEndTagName}
use Rattle.page_read.specs.References.{reference_of}
use Rattle.page_read.specs.Construction.{IsOpen}
use Rattle.page_grammar.specs.TreeConstruction.{TreeConstruction, tail, construct_all, with_last}

-- an attribute's name as characters
abbrev pub read_attribute : Attribute → page.Attribute
read_attribute a = record { name = chars a.name; value = a.value }

abbrev pub read_attributes : List Attribute → List page.Attribute
read_attributes list = map read_attribute list

-- each name is UTF-8
abbrev pub EachText : List Attribute → Type 0
EachText [] = Unit {0}
EachText (a ∷ list) = (encodes (chars a.name) ≡ a.name) × EachText list

abbrev pub dashes_of : Dashes → machine.Dashes
dashes_of NoDash = machine.NoDash
dashes_of OneDash = machine.OneDash
dashes_of TwoDashes = machine.TwoDashes

-- the names of the open elements, innermost first, and their labels
abbrev pub names_of : List Open → List (List ℕ)
names_of opened = reverse (map (λ o. o.name.items) opened)

abbrev pub labels_of : List Open → List ℕ
labels_of opened = reverse (map (λ o. o.node.label) opened)

abbrev pub first_or_empty : List (List ℕ) → List ℕ
first_or_empty [] = []
first_or_empty (w ∷ ws) = w

-- where in a token the machine stands: text, the tag's name, attributes, an attribute's name and
-- value, open elements
abbrev pub lexical_of : Lexical → (text tag : List ℕ) → List page.Attribute → (name value : List ℕ)
    → List (List ℕ)
    → machine.Lexical
lexical_of Data t w ts k v ws = machine.Data
lexical_of InText t w ts k v ws = machine.InText t
lexical_of (TextReference r) t w ts k v ws = machine.TextReference t (reference_of r)
lexical_of TagOpen t w ts k v ws = machine.TagOpen
lexical_of MarkupDeclaration t w ts k v ws = machine.MarkupDeclaration
lexical_of CommentStart t w ts k v ws = machine.CommentStart
lexical_of (InComment n) t w ts k v ws = machine.InComment t (dashes_of n)
lexical_of TagName t w ts k v ws = machine.TagName w
lexical_of BeforeAttributeName t w ts k v ws = machine.BeforeAttributeName w ts
lexical_of AttributeName t w ts k v ws = machine.AttributeName w ts k
lexical_of AfterAttributeName t w ts k v ws = machine.AfterAttributeName w ts k
lexical_of BeforeAttributeValue t w ts k v ws = machine.BeforeAttributeValue w ts k
lexical_of (InAttributeValue q) t w ts k v ws = machine.InAttributeValue w ts k q v
lexical_of (ValueReference q r) t w ts k v ws = machine.ValueReference w ts k q v (reference_of r)
lexical_of AfterAttributeValue t w ts k v ws = machine.AfterAttributeValue w ts
lexical_of SelfClosing t w ts k v ws = machine.SelfClosing w ts
lexical_of (EndTagName n) t w ts k v ws = machine.EndTagName (drop n (first_or_empty ws))
lexical_of AfterEndTagName t w ts k v ws = machine.AfterEndTagName

-- in an end tag the element is no longer open for the machine
abbrev pub opened_of : Lexical → List (List ℕ) → List (List ℕ)
opened_of (EndTagName n) ws = tail ws
opened_of AfterEndTagName ws = tail ws
opened_of _ ws = ws

abbrev pub machine_of : Scanner → machine.Machine
machine_of s = record {
  lex = lexical_of s.lexical s.text.items s.tag.items (read_attributes s.attributes) s.name.items
      s.value.items
      (names_of s.opened.items);
  opened = opened_of s.lexical (names_of s.opened.items);
  room = s.room;
  next = s.arena.next;
  out = [];
}

abbrev pub tree_construction_of : Scanner → TreeConstruction
tree_construction_of s =
    record { trees = s.arena.trees; opened = labels_of s.opened.items; next = s.arena.next }

-- the machine as if it had emitted nothing, and what it has emitted
abbrev pub silenced : Option machine.Machine → Option machine.Machine
silenced None = None
silenced (Some m) = Some (machine.quiet m)

abbrev pub emitted_by : Option machine.Machine → List machine.Event
emitted_by None = []
emitted_by (Some m) = m.out

-- the scanner is where the machine is, and has constructed what it emitted
abbrev pub Goes : Option machine.Machine → (old new : Scanner) → Type 0
Goes o old new =
    (silenced o ≡ Some (machine_of new))
    × (tree_construction_of new ≡ construct_all (emitted_by o) (tree_construction_of old))

-- whether the machine went on; where it didn't, the scanner is as before
abbrev pub Went : Bool → Option machine.Machine → (old new : Scanner) → Type 0
Went true o old new = Goes o old new
Went false o old new = (o ≡ None) × (machine_of new ≡ machine_of old)

-- the same of the machine's step on a character
abbrev pub Steps : Bool → (c : ℕ) → (old new : Scanner) → Type 0
Steps went c old new = Went went (machine.step old.arena.cap (machine_of old) c) old new

-- the element of the start tag is made: only the arena and the attributes have changed
pub record MakesElement (old new : Scanner) (node : NodeRef) : Type 0 where
  pub label : node.label ≡ old.arena.next
  pub here : IsOpen new.arena node
  pub opens : (r : NodeRef) → IsOpen old.arena r → IsOpen new.arena r
  pub constructed : tree_construction_of new
      ≡ with_last (tree_construction_of old) (Element old.tag.items old.attributes)
  pub cap : new.arena.cap ≡ old.arena.cap
  pub tag : new.tag ≡ old.tag
  pub opened : new.opened ≡ old.opened
  pub room : new.room ≡ old.room
  pub lexical : new.lexical ≡ old.lexical
  pub name : new.name ≡ old.name
  pub attributes : new.attributes ≡ []

-- the last attribute is added: only the attributes have changed, and the place in the token
pub record AddsAttribute (old new : Scanner) : Type 0 where
  pub added : read_attributes new.attributes
      ≡ machine.with_attribute (read_attributes old.attributes) old.name.items old.value.items
  pub texts : EachText new.attributes
  pub rest : new ≡ record old { attributes = new.attributes; lexical = AfterAttributeValue }

-- the arena that the end of the characters gives, if they may end here
abbrev pub Ends : Option ArenaState → (c : ℕ) → machine.Machine → TreeConstruction → Type 0
Ends (Some a) c m p =
    machine.IsEnd m
    × (a.trees ≡ (construct_all (machine.emitted m) p).trees)
    × (a.next ≡ (construct_all (machine.emitted m) p).next)
    × (a.cap ≡ c)
Ends None c m p = machine.IsEnd m → ⊥

-- what a name has at a place, and leaves behind it
abbrev pub LeavesAt : Option ℕ → ℕ → List ℕ → Type 0
LeavesAt None n w = drop n w ≡ []
LeavesAt (Some b) n w = (drop n w ≡ b ∷ drop (n + 1) w) × (n < length w)
