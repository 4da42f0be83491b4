-- The kind of a node.
use Rattle.std.specs.Prelude.{ℕ, Bool, true, false, Option}
use Rattle.std.specs.Option.{option_map}
use Rattle.dom_model.specs.declared.Content.{Content}
use Rattle.dom_model.specs.declared.Content.TheVariants as content
use Rattle.dom_model.specs.Forest.{Forest, content_of}
use Rattle.node_arena.specs.declared.Kind.{Kind}
use Rattle.node_arena.specs.declared.Kind.TheVariants.{Document, Element, Words, Remark}

abbrev pub kind_in : Content → Kind
kind_in content.Document = Document
kind_in (content.Element name attributes) = Element
kind_in (content.Words chars) = Words
kind_in (content.Remark chars) = Remark

abbrev pub kind_of : Forest Content → ℕ → Option Kind
kind_of f l = option_map kind_in (content_of f l)

-- the kinds of nodes with a name and attributes, of those that may have children, and of those with
-- characters
abbrev pub is_element_kind : Kind → Bool
is_element_kind Element = true
is_element_kind _ = false

abbrev pub is_parent_kind : Kind → Bool
is_parent_kind Document = true
is_parent_kind Element = true
is_parent_kind Words = false
is_parent_kind Remark = false

abbrev pub has_chars_kind : Kind → Bool
has_chars_kind Document = false
has_chars_kind Element = false
has_chars_kind Words = true
has_chars_kind Remark = true
