-- A part of a text or a comment is left as the whole is.
use Rattle.std.specs.Prelude.{◌≡◌, ℕ, Option, refl}
use Rattle.node_styles.specs.DomModel.declared.Content.{Content}
use Rattle.node_styles.specs.DomModel.declared.Content.TheVariants.{Document, Element, Words, Remark}
use Rattle.node_styles.specs.Blocks.{is_block_content}
use Rattle.page_write.specs.Html.{closing}
use Rattle.node_texts.specs.Between.{part_of}

pub closing_of_part : (from : ℕ) (to : Option ℕ) (c : Content)
    → closing (part_of from to c) ≡ closing c
unfolding part_of
closing_of_part from to Document = refl
closing_of_part from to (Element name list) = refl
closing_of_part from to (Words chars) = refl
closing_of_part from to (Remark chars) = refl

pub block_of_part : (from : ℕ) (to : Option ℕ) (c : Content)
    → is_block_content (part_of from to c) ≡ is_block_content c
unfolding part_of is_block_content
block_of_part from to Document = refl
block_of_part from to (Element name list) = refl
block_of_part from to (Words chars) = refl
block_of_part from to (Remark chars) = refl
