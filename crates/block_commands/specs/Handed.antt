-- What a node hands on of its alignment. No public clause cites this module.
use Rattle.std.specs.Prelude.{◌≡◌, ℕ, true, Option, Some, None, bytes_eq}
use Rattle.edit_model.specs.DomModel.declared.Content.{Content}
use Rattle.edit_model.specs.DomModel.Forest.{Forest, parent_of, content_of}
use Rattle.inline_value.specs.CssValue.declared.values.TextAlign.{TextAlign}
use Rattle.inline_value.specs.CssValue.Values.{text_align_keyword}
use Rattle.inline_value.specs.NodeStyles.OwnStyles.{own_text_align}
use Rattle.inline_value.specs.NodeStyles.Resolved.{text_align}
use Rattle.inline_value.specs.EditQuery.Listed.{is_aligned}

-- a node is aligned so, and so is a child that gives itself no alignment, in a box of its own or not
pub record AlignsBelow (wanted : TextAlign) (f : Forest Content) (l : ℕ) : Type 0 where
  pub own : is_aligned f wanted l ≡ true
  pub below : bytes_eq (text_align_keyword (text_align f l)) (text_align_keyword wanted) ≡ true

-- l is a child of the known node, and gives itself no alignment
pub record TakesKnown (f : Forest Content) (known : Option ℕ) (l : ℕ) : Type 0 where
  pub parent : ℕ
  pub same : known ≡ Some parent
  pub child : parent_of f l ≡ Some parent
  pub content : Content
  pub is : content_of f l ≡ Some content
  pub none : own_text_align content ≡ None
