-- A child that gives itself no alignment has that of its parent.
use Rattle.std.proofs.Common.{◌≡◌, ℕ, ◌<◌, Bool, true, false, cond, List, codes, bytes_eq, Option, Some, None, IfSome, refl, sym, ap, subst, ◌∙◌}
use Rattle.std.proofs.lemmas.Slice.Eq.{bytes_eq-Decides}
use Rattle.std.specs.Option.{option_map, option_map_or, option_and_then, unwrap_or, is_some}
use Rattle.edit_model.specs.DomModel.declared.Content.{Content}
use Rattle.edit_model.specs.DomModel.Contents.{name_in}
use Rattle.edit_model.specs.DomModel.Forest.{Forest, IsDistinct, count_of, parent_of, content_of}
use Rattle.edit_model.proofs.DomModel.Links.{parent_count}
use Rattle.inline_value.specs.CssValue.declared.values.TextAlign.{TextAlign}
use Rattle.inline_value.specs.CssValue.declared.values.TextAlign.TheVariants as text_align_values
use Rattle.inline_value.specs.CssValue.Values.{text_align_keyword}
use Rattle.inline_value.specs.StyleTable.declared.Property.TheVariants as property
use Rattle.inline_value.specs.StyleTable.DefaultStyles.{default_of, default_text_align, text_align_rows, value_of}
use Rattle.edit_model.specs.NodeArena.declared.NodeRef.{NodeRef}
use Rattle.inline_value.specs.NodeStyles.Lineage.{Ancestor}
use Rattle.inline_value.specs.NodeStyles.OwnStyles.{attribute, is_named, declared, defaulted, align_hint, own_text_align}
use Rattle.inline_value.specs.NodeStyles.Resolved.{text_align}
use Rattle.inline_value.proofs.NodeStyles.Lineages.{nearest-here, nearest-parent}
use Rattle.inline_value.specs.CommandValue.Alignment.{has_own_box, alignment, alignment_value}
use Rattle.edit_model.specs.Gives.{label_of}
use Rattle.block_commands.specs.Handed.{AlignsBelow, TakesKnown}

-- ---- a content that gives itself none

turned : (xs ys : List ℕ) → bytes_eq xs ys ≡ false → bytes_eq ys xs ≡ false
turned xs ys off = by_value (bytes_eq ys xs) refl
  where
    by_value : (v : Bool) → bytes_eq ys xs ≡ v → v ≡ false
    by_value true is = absurd (let u : true ≡ false = sym ((bytes_eq-Decides xs ys).1 (sym ((bytes_eq-Decides ys xs).0 is))) ∙ off in cc)
    by_value false is = refl

module _ (c : Content) where
  by_cond : (v : Bool) → cond {A = Option TextAlign} v None None ≡ None
  by_cond true = refl
  by_cond false = refl

  hint_none : attribute c (codes "align") ≡ None → align_hint c ≡ None
  unfolding align_hint
  hint_none align = rw align (by_cond _)

  declared_none : attribute c (codes "style") ≡ None → declared c (codes "text-align") ≡ None
  unfolding declared
  declared_none style = rw style refl

  default_none : is_named (codes "center") c ≡ false → is_named (codes "caption") c ≡ false → is_named (codes "th") c ≡ false → defaulted c property.TextAlign ≡ None
  unfolding defaulted is_named default_of default_text_align text_align_rows value_of
  default_none center caption th = by_name (name_in c) center caption th
    where
      by_name : (o : Option (List ℕ)) → option_map_or (λ own. bytes_eq own (codes "center")) o false ≡ false → option_map_or (λ own. bytes_eq own (codes "caption")) o false ≡ false → option_map_or (λ own. bytes_eq own (codes "th")) o false ≡ false → option_and_then (λ name. default_of name (is_some (attribute c (codes "href"))) property.TextAlign) o ≡ None
      by_name None center caption th = refl
      by_name (Some name) center caption th = rw (turned name (codes "center") center, turned name (codes "caption") caption, turned name (codes "th") th) refl

  pub none_given : attribute c (codes "style") ≡ None → attribute c (codes "align") ≡ None → is_named (codes "center") c ≡ false → is_named (codes "caption") c ≡ false → is_named (codes "th") c ≡ false → own_text_align c ≡ None
  unfolding own_text_align
  none_given style align center caption th = rw (declared_none style, hint_none align, default_none center caption th) refl

-- ---- a child of a known node

module _ (f : Forest Content) (once : IsDistinct f) (l p : ℕ) (c : Content) (child : parent_of f l ≡ Some p) (content : content_of f l ≡ Some c) (none : own_text_align c ≡ None) where
  here : 0 < count_of f l
  here = (parent_count f l p once child).0

  same_below : text_align f l ≡ text_align f p
  unfolding text_align
  same_below =
      ap (λ (o : Option Ancestor). unwrap_or (option_and_then (λ k. own_text_align k.content) o) text_align_values.Left)
      (nearest-parent (λ k. is_some (own_text_align k)) f once l c here content p child (ap is_some none))

  -- in a box of its own it is the nearest, and else the nearest is the parent's
  same_own : (v : Bool) → has_own_box c ≡ v → alignment f l ≡ cond v (text_align f p) (alignment f p)
  unfolding alignment
  same_own true own =
      ap (λ (o : Option Ancestor). option_map_or (text_align f) (option_map (λ k. k.label) o) text_align_values.Left)
      (nearest-here has_own_box f once l c here content own)
      ∙ same_below
  same_own false own =
      ap (λ (o : Option Ancestor). option_map_or (text_align f) (option_map (λ k. k.label) o) text_align_values.Left)
      (nearest-parent has_own_box f once l c here content p child own)

  handed : (a : TextAlign) → AlignsBelow a f p → AlignsBelow a f l
  unfolding alignment_value
  handed a h = record {
    own = by_box (has_own_box c) refl;
    below = ap (λ t. bytes_eq (text_align_keyword t) (text_align_keyword a)) same_below ∙ h.below;
  }
    where
      by_box : (v : Bool) → has_own_box c ≡ v → bytes_eq (text_align_keyword (alignment f l)) (text_align_keyword a) ≡ true
      by_box true own = ap (λ t. bytes_eq (text_align_keyword t) (text_align_keyword a)) (same_own true own) ∙ h.below
      by_box false own = ap (λ t. bytes_eq (text_align_keyword t) (text_align_keyword a)) (same_own false own) ∙ h.own

-- so does a child that takes the alignment of the known node
pub handed_on : (f : Forest Content) → IsDistinct f → (l : ℕ) (a : TextAlign) (known : Option NodeRef) → IfSome known (λ r. AlignsBelow a f r.label) → TakesKnown f (label_of known) l → AlignsBelow a f l
handed_on f once l a None below takes = absurd (let u : None ≡ Some takes.parent = takes.same in cc)
handed_on f once l a (Some r) below takes =
    let same : r.label ≡ takes.parent = (let u : Some r.label ≡ Some takes.parent = takes.same in cc) in
    handed f once l takes.parent takes.content takes.child takes.is takes.none a (subst (AlignsBelow a f) same below)
