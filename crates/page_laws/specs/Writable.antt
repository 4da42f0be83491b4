-- Which trees can be written in the grammar of pages: what each node has to be, whatever its label.
use Rattle.std.specs.Prelude.{◌≡◌, ℕ, pred, ◌<◌, true, false, List, [], ◌∷◌, length}
use Rattle.std.specs.List.{AllByRecursion}
use Rattle.std.proofs.Math.Utf8.{scalar, scalars, encodes}
use Rattle.page_grammar.specs.DomModel.declared.attributes.Attribute.{Attribute}
use Rattle.page_grammar.specs.DomModel.declared.Content.{Content}
use Rattle.page_grammar.specs.DomModel.declared.Content.TheVariants.{Document, Element, Words, Remark}
use Rattle.page_grammar.specs.DomModel.AttributeList.{IsDistinctNames}
use Rattle.page_grammar.specs.DomModel.Forest.{Forest}
use Rattle.page_grammar.specs.DomModel.Forest.Forest.{Nil, Tree}
use Rattle.page_grammar.specs.Chars.{lower, is_letter, is_name_char, is_attribute_name_char}
use Rattle.page_grammar.specs.Names.{is_void, is_refused}
use Rattle.page_grammar.specs.Page.{starts_close}

-- a character of an element's name, in lower case
abbrev pub IsNameChar : ℕ → Type 0
IsNameChar x = (is_name_char x ≡ true) × (lower x ≡ x)

-- a letter, and what may follow it in an element's name
abbrev pub IsElementName : List ℕ → Type 0
IsElementName [] = ⊥
IsElementName (x ∷ xs) = (is_letter x ≡ true) × (lower x ≡ x) × AllByRecursion IsNameChar xs

-- a character of an attribute's name, in lower case
abbrev pub IsKeyChar : ℕ → Type 0
IsKeyChar x = (is_attribute_name_char x ≡ true) × (lower x ≡ x) × (scalar x ≡ true)

-- the name is these characters in UTF-8
pub record IsAttribute (a : Attribute) : Type 0 where
  pub chars : List ℕ
  pub utf8 : encodes chars ≡ a.name
  pub some : 0 < length chars
  pub name : AllByRecursion IsKeyChar chars
  pub value : scalars a.value ≡ true

-- of this name, with these attributes and children; a void element has none
pub record IsElement (w : List ℕ) (list : List Attribute) (ks : Forest Content) : Type 0 where
  pub name : IsElementName w
  pub supported : is_refused w ≡ false
  pub attributes : AllByRecursion IsAttribute list
  pub distinct : IsDistinctNames list
  pub void : is_void w ≡ true → ks ≡ Nil

-- no `-->` stands in the text
abbrev pub HasNoClose : List ℕ → Type 0
HasNoClose [] = Unit {0}
HasNoClose (x ∷ xs) = (starts_close (x ∷ xs) ≡ false) × HasNoClose xs

-- a node other than the Document, with these children
abbrev pub IsWritableNode : Content → Forest Content → Type 0
IsWritableNode Document ks = ⊥
IsWritableNode (Element w list) ks = IsElement w list ks
IsWritableNode (Words t) ks = (scalars t ≡ true) × (ks ≡ Nil)
IsWritableNode (Remark t) ks = (scalars t ≡ true) × HasNoClose t × (ks ≡ Nil)

-- all its nodes can be written, with d levels left for them
abbrev pub IsWritable : (d : ℕ) → Forest Content → Type 0
IsWritable d Nil = Unit {0}
IsWritable d (Tree l c ks f) =
    (0 < d) × IsWritableNode c ks × IsWritable (pred d) ks × IsWritable d f
