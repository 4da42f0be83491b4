-- Where a paragraph may stand.
use Rattle.std.proofs.Common.{◌≡◌, ℕ, Bool, true, false, List, Option, Some, None, refl, ap, ◌∙◌}
use Rattle.std.proofs.lemmas.Slice.Eq.{bytes_eq-Decides}
use Rattle.std.specs.Option.{option_map_or, option_and_then}
use Rattle.std.specs.Prelude.{bytes_eq, codes}
use Rattle.node_paths.specs.DomModel.declared.Content.{Content}
use Rattle.node_paths.specs.DomModel.declared.Content.TheVariants.{Document, Element, Words, Remark}
use Rattle.node_paths.specs.DomModel.Contents.{name_in, has_name}
use Rattle.node_paths.specs.DomModel.Forest.{Forest, content_of}
use Rattle.node_tests.specs.HtmlNames.AllowedChildren.{allowed_child, listed_children, contents, is_kept_out, bound_names}
use Rattle.node_tests.specs.HtmlNames.ElementNames.{is_heading, heading_names, is_prohibited_child, prohibited_child_names, has_inline_contents, inline_contents_names}
use Rattle.node_tests.specs.NodeStyles.Allowed.{allowed_in_name, content_allowed_in_name}

-- what the names say of a paragraph holds of each node that is one
module _ (f : Forest Content) (l : ℕ) (parent : List ℕ) (b : Bool) (names : allowed_child (codes "p") parent ≡ b) where
  pub paragraph_fits : has_name f l (codes "p") ≡ true → allowed_in_name f l parent ≡ b
  unfolding allowed_in_name
  paragraph_fits named = by_content (content_of f l) named
    where
      by_content : (o : Option Content) → option_map_or (λ own. bytes_eq own (codes "p")) (option_and_then name_in o) false ≡ true → option_map_or (λ c. content_allowed_in_name c parent) o true ≡ b
      by_content None is = absurd (let u : false ≡ true = is in cc)
      by_content (Some Document) is = absurd (let u : false ≡ true = is in cc)
      by_content (Some (Element name attributes)) is = ap (λ own. allowed_child own parent) ((bytes_eq-Decides name (codes "p")).0 is) ∙ names
      by_content (Some (Words chars)) is = absurd (let u : false ≡ true = is in cc)
      by_content (Some (Remark chars)) is = absurd (let u : false ≡ true = is in cc)

pub paragraph_in_div : allowed_child (codes "p") (codes "div") ≡ true
unfolding allowed_child listed_children contents is_kept_out bound_names is_prohibited_child prohibited_child_names has_inline_contents inline_contents_names is_heading heading_names
paragraph_in_div = refl

pub paragraph_in_item : allowed_child (codes "p") (codes "li") ≡ true
unfolding allowed_child listed_children contents is_kept_out bound_names is_prohibited_child prohibited_child_names has_inline_contents inline_contents_names is_heading heading_names
paragraph_in_item = refl

pub paragraph_in_span : allowed_child (codes "p") (codes "span") ≡ false
unfolding allowed_child listed_children contents is_kept_out bound_names is_prohibited_child prohibited_child_names has_inline_contents inline_contents_names is_heading heading_names
paragraph_in_span = refl
