-- Justifying the selection (HTML Editing APIs, "justify the selection"): the blocks of the active
-- range come to stand in a div that aligns them. The steps are those of docs/ALGORITHMS.md.
use Rattle.std.specs.Prelude.{ℕ, Bool, true, false, ◌&&◌, ◌||◌, not, List, [], ◌∷◌, ◌++◌, is_some, bytes_eq, codes, Option, if◌then◌else◌}
use Rattle.std.specs.Option.{option_map_or}
use Rattle.edit_model.specs.DomModel.declared.attributes.Attribute.{Attribute}
use Rattle.edit_model.specs.DomModel.declared.Content.{Content}
use Rattle.edit_model.specs.DomModel.AttributeList.{value_of}
use Rattle.edit_model.specs.DomModel.Contents.{has_name}
use Rattle.edit_model.specs.DomModel.Forest.{Forest}
use Rattle.inline_value.specs.CssValue.DeclarationList as style
use Rattle.inline_value.specs.NodeStyles.Allowed.{allowed_in_name}
use Rattle.inline_value.specs.CommandValue.Alignment.{alignment_value}
use Rattle.edit_model.specs.State.{State}
use Rattle.edit_model.specs.Confined.{is_editable_for}
use Rattle.edit_model.specs.Compositions.{attribute_list_of, set_tag_name}
use Rattle.edit_model.specs.Run.{Run, ◌>>=◌, ◌>>◌, answer, done, look, for_each, unset_attribute}
use Rattle.inline_value.specs.WrapSplit.declared.rule.Blank.{Blank}
use Rattle.inline_value.specs.WrapSplit.declared.rule.Criterion.TheVariants.{Aligned}
use Rattle.inline_value.specs.WrapSplit.declared.rule.Recipe.TheVariants.{Make}
use Rattle.inline_value.specs.WrapSplit.Split.{remove_keeping_children}
use Rattle.inline_value.specs.WrapSplit.Target.{is_without_attributes}
use Rattle.inline_value.specs.WrapSplit.Wrap.{wrap}
use Rattle.inline_value.specs.Styling.{unset_style}
use Rattle.inline_value.specs.EditQuery.Gathered.{outermost}
use Rattle.block_commands.specs.Gathered.{contained}
use Rattle.inline_value.specs.BlockExtend.Series.{is_next}
use Rattle.block_commands.specs.Series.{take_series, in_turns}

-- ---- step 1: elements that align what is in them give that up

abbrev pub sets_alignment : List ℕ → Bool
sets_alignment text = is_some (style.value_of (style.declarations_in text) (codes "text-align"))

-- an align attribute, or a style that declares text-align
abbrev pub has_alignment : List Attribute → Bool
has_alignment list =
    is_some (value_of list (codes "align"))
    || option_map_or sets_alignment (value_of list (codes "style")) false

unfoldable pub is_aligning : State → ℕ → Bool
is_aligning s e =
    is_editable_for s e
    && (has_alignment (attribute_list_of s.trees e) || has_name s.trees e (codes "center"))

-- a div, span or center without attributes
unfoldable pub is_plain : Forest Content → ℕ → Bool
is_plain f e =
    is_without_attributes f e
    && (has_name f e (codes "div")
    || (has_name f e (codes "span") || has_name f e (codes "center")))

-- one that aligns no more: where it is plain it goes, and its children stay; otherwise a center
-- becomes a div
unfoldable pub drop_plain : ℕ → Run (Unit {0})
drop_plain e = look λ s.
    if is_plain s.trees e then remove_keeping_children e
    else (if has_name s.trees e (codes "center") then set_tag_name e (codes "div") >> done else done)

-- one element
unfoldable pub clear_alignment : ℕ → Run (Unit {0})
clear_alignment e = do
  unset_attribute e (codes "align")
  unset_style e (codes "text-align")
  drop_plain e

unfoldable pub clear_alignments : Run (Unit {0})
clear_alignments = look λ s. for_each (contained (is_aligning s) s) clear_alignment

-- ---- step 2: the nodes that are aligned otherwise

unfoldable pub is_misaligned : List ℕ → State → ℕ → Bool
is_misaligned alignment s l =
    is_editable_for s l
    && (allowed_in_name s.trees l (codes "div")
    && not (bytes_eq (alignment_value s.trees l) alignment))

-- ---- step 3: they are wrapped, series by series

-- a div with the style `text-align: X;`
abbrev pub aligned_div : List ℕ → Blank
aligned_div alignment = record {
  name = codes "div";
  attributes = record {
    name = codes "style";
    value = codes "text-align: "
        ++ (alignment ++ codes ";");
  } ∷ [];
}

abbrev pub wrap_aligned : List ℕ → List ℕ → Run (Option ℕ)
wrap_aligned alignment series = wrap (Aligned alignment) (Make (aligned_div alignment)) series

-- one turn: the series that the list begins with is wrapped, and the rest of the list is answered
unfoldable pub align_next : List ℕ → List ℕ → Run (List ℕ)
align_next alignment list = look λ s.
    let series = take_series (is_next s.trees) list in
    wrap_aligned alignment series.0 >> answer series.1

-- ---- the whole

unfoldable pub justify : List ℕ → Run Bool
justify alignment = do
  clear_alignments
  look λ s. in_turns (align_next alignment) (outermost (is_misaligned alignment s) s)
  answer true
