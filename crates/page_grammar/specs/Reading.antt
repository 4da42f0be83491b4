-- What reading a page tells: its children, or where and why it is refused.
use Rattle.std.specs.Prelude.{ℕ, suc, ◌≤◌, List, [], ◌∷◌, length, Option, Some, None}
use Rattle.page_grammar.specs.Page.{Attribute, Siblings, Nil, TextNode, CommentNode, ElementNode}
use Rattle.page_grammar.specs.Machine.{Event, TextEvent, CommentEvent, OpenEvent, CloseEvent, emitted}
use Rattle.page_grammar.specs.Reader.{Reader, begin, read_bytes}
use Rattle.page_grammar.specs.Bytes.{PageBytes}
use Rattle.page_grammar.specs.Kind.{Kind, page_limit, page_fault}
use Rattle.page_grammar.specs.Rows.{IsFault}

-- an element whose end tag is to come, with the siblings before it
pub record OpenElement : Type 0 where
  pub label : ℕ
  pub name : List ℕ
  pub attributes : List Attribute
  pub before : Siblings

-- A tree as far as it is emitted: the open elements, innermost first, what is finished in the
-- innermost one, and the next label.
pub record Growing : Type 0 where
  pub opened : List OpenElement
  pub here : Siblings
  pub next : ℕ

-- f, and after it g
abbrev pub joined : Siblings → Siblings → Siblings
joined Nil g = g
joined (TextNode l t f) g = TextNode l t (joined f g)
joined (CommentNode l t f) g = CommentNode l t (joined f g)
joined (ElementNode l w ts k f) g = ElementNode l w ts k (joined f g)

abbrev pub close_innermost : List OpenElement → Growing → Growing
close_innermost [] g = g
close_innermost (e ∷ es) g = record g {
  opened = es;
  here = joined e.before (ElementNode e.label e.name e.attributes g.here Nil);
}

abbrev pub grow : Event → Growing → Growing
grow (TextEvent t) g = record g { here = joined g.here (TextNode g.next t Nil); next = suc g.next }
grow (CommentEvent t) g =
    record g { here = joined g.here (CommentNode g.next t Nil); next = suc g.next }
grow (OpenEvent w ts) g =
    record g {
      opened = record { label = g.next; name = w; attributes = ts; before = g.here } ∷ g.opened;
      here = Nil;
      next = suc g.next;
    }
grow CloseEvent g = close_innermost g.opened g

abbrev pub grow_all : List Event → Growing → Growing
grow_all [] g = g
grow_all (e ∷ es) g = grow_all es (grow e g)

-- the tree that these events tell
abbrev pub tree_of : List Event → Siblings
tree_of es = (grow_all es (record { opened = []; here = Nil; next = 1 })).here

pub data Reading : Type 0 where
  Children : (children : Siblings) → Reading
  Refused : (place : ℕ) (kind : Kind) → Reading

abbrev pub emitted_by : Option Reader → List Event
emitted_by None = []
emitted_by (Some r) = emitted r.machine

abbrev pub reading_of : (d c : ℕ) → List ℕ → Option (ℕ × Kind) → Reading
reading_of d c s None = Children (tree_of (emitted_by (read_bytes c (begin d) s)))
reading_of d c s (Some x) = Refused x.0 x.1

-- computed
abbrev pub page_reading : (d c : ℕ) → List ℕ → Reading
page_reading d c s = reading_of d c s (page_fault d c s)

-- what it means
abbrev pub IsReading : (d c : ℕ) → List ℕ → Reading → Type 0
IsReading d c s (Children f) = PageBytes d c s f × (length s ≤ page_limit)
IsReading d c s (Refused k x) = IsFault d c s (Some (k, x))
