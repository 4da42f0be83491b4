-- A document that grows as a page's events are emitted: each node is put at the end of the
-- innermost open element.
use Rattle.std.specs.Prelude.{ℕ, suc, List, [], ◌∷◌, None}
use Rattle.dom_model.specs.declared.Content.{Content}
use Rattle.dom_model.specs.declared.Content.TheVariants.{Document, Element, Words, Remark}
use Rattle.dom_model.specs.Forest.{Forest, put_under}
use Rattle.dom_model.specs.Forest.Forest.{Nil, Tree}
use Rattle.page_grammar.specs.Page.{Siblings, size}
use Rattle.page_grammar.specs.Machine.{Event, TextEvent, CommentEvent, OpenEvent, CloseEvent}
use Rattle.page_grammar.specs.Nodes.{attributes_of, document_of}

-- the labels of the open elements, innermost first, and the next label
pub record TreeConstruction : Type 0 where
  pub trees : Forest Content
  pub opened : List ℕ
  pub next : ℕ

-- the Document, where no element is open
abbrev pub innermost : List ℕ → ℕ
innermost [] = 0
innermost (l ∷ ls) = l

abbrev pub tail : {A : Type 0} → List A → List A
tail [] = []
tail (x ∷ xs) = xs

-- a node without children at the end of the innermost open element
abbrev pub with_last : TreeConstruction → Content → TreeConstruction
with_last p c = record p {
  trees = put_under p.trees (innermost p.opened) None (Tree p.next c Nil Nil);
  next = suc p.next;
}

abbrev pub construct : Event → TreeConstruction → TreeConstruction
construct (TextEvent t) p = with_last p (Words t)
construct (CommentEvent t) p = with_last p (Remark t)
construct (OpenEvent w ts) p =
    record (with_last p (Element w (attributes_of ts))) { opened = p.next ∷ p.opened }
construct CloseEvent p = record p { opened = tail p.opened }

abbrev pub construct_all : List Event → TreeConstruction → TreeConstruction
construct_all [] p = p
construct_all (e ∷ es) p = construct_all es (construct e p)

-- the empty document
abbrev pub initial_tree : TreeConstruction
initial_tree = record { trees = Tree 0 Document Nil Nil; opened = []; next = 1 }

-- the whole document with these children
abbrev pub whole_tree : Siblings → TreeConstruction
whole_tree f = record { trees = document_of f; opened = []; next = suc (size f) }
