-- What a walk from a node to the Document looks for. No public clause cites this module.
use Rattle.std.specs.Prelude.{◌≡◌, ℕ, Bool, Some, is_some, codes}
use Rattle.node_arena.specs.DomModel.declared.Content.{Content}
use Rattle.node_arena.specs.DomModel.Forest.{Forest, content_of}
use Rattle.css_value.specs.HtmlNames.ElementNames.{has_inline_contents, is_heading}
use Rattle.style_table.specs.declared.Property.{Property}
use Rattle.style_table.specs.declared.Property.TheVariants as property
use Rattle.node_styles.specs.declared.lineage.Trait.{Trait}
use Rattle.node_styles.specs.declared.lineage.Trait.TheVariants.{Own, NoBox, Block, Link, InlineContents, Heading}
use Rattle.node_arena.specs.declared.NodeRef.{NodeRef}
use Rattle.node_styles.specs.Lineage.{nearest}
use Rattle.node_styles.specs.Allowed.{has_name}
use Rattle.node_styles.specs.Blocks.{is_block_content, has_no_box}
use Rattle.node_styles.specs.OwnStyles.{is_named, own_display, own_white_space, own_font_weight, own_font_style, own_font_family, own_font_size, own_color, own_background_color, own_text_decoration, own_text_align}

-- the element gives the property a value
abbrev pub has_own : Property → Content → Bool
has_own property.Display c = is_some (own_display c)
has_own property.WhiteSpace c = is_some (own_white_space c)
has_own property.FontWeight c = is_some (own_font_weight c)
has_own property.FontStyle c = is_some (own_font_style c)
has_own property.FontFamily c = is_some (own_font_family c)
has_own property.FontSize c = is_some (own_font_size c)
has_own property.Color c = is_some (own_color c)
has_own property.BackgroundColor c = is_some (own_background_color c)
has_own property.TextDecoration c = is_some (own_text_decoration c)
has_own property.TextAlign c = is_some (own_text_align c)

abbrev pub has_trait : Trait → Content → Bool
has_trait (Own property) c = has_own property c
has_trait NoBox c = has_no_box c
has_trait Block c = is_block_content c
has_trait Link c = is_named (codes "a") c
has_trait InlineContents c = has_name has_inline_contents c
has_trait Heading c = has_name is_heading c

-- r names the nearest of a label's lineage that passes a test
pub record IsNearest (test : Content → Bool) (holds : NodeRef → Type 0) (f : Forest Content) (l : ℕ)
    (r : NodeRef) : Type 0 where
  pub held : holds r
  pub content : Content
  pub at : content_of f r.label ≡ Some content
  pub is : nearest test f l ≡ Some (record { label = r.label; content = content })
