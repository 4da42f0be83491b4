-- The selection of a command whose run leaves it in the host is there once loose trees are dropped.
use Rattle.std.proofs.Common.{◌≡◌, ℕ, ◌<◌, Bool, true, false, Option, Some, None, IfSome, refl, sym, ap, subst, ◌∙◌, arith, true≢false}
use Rattle.std.specs.Option.{option_map, option_map_or}
use Rattle.edit_model.specs.DomModel.declared.Content.{Content}
use Rattle.edit_model.specs.DomModel.declared.Content.TheVariants as content
use Rattle.edit_model.specs.DomModel.Editing.{is_true_state, is_host}
use Rattle.edit_model.specs.DomModel.Forest.{Forest, count_of, tree_of, content_of, IsWithin}
use Rattle.edit_model.specs.LiveRange.declared.places.Pair.{Pair}
use Rattle.edit_model.specs.State.{State}
use Rattle.edit_model.specs.History.{begun, rested}
use Rattle.edit_model.specs.Outside.{hollowed, outside}
use Rattle.edit_model.specs.Action.{Select, with_selection, selected, acted}
use Rattle.edit_model.specs.Confined.{may_select}
use Rattle.edit_model.specs.Edit.{overrides_after, changed}
use Rattle.edit_model.specs.Run.{Run, ◌>>◌, final, select}
use Rattle.edit_model.specs.Valid.{IsPlacedPair, IsValid}
use Rattle.edit_model.proofs.Commands.{valid_begun, confined_begun}
use Rattle.edit_model.proofs.Hollow.{hollowed_le}
use Rattle.edit_model.proofs.Points.{placed_is}
use Rattle.edit_model.proofs.Steps.{final-bind, final-perform}
use Rattle.edit_model.proofs.ValidRuns.{valid_acted}
use Rattle.edit_laws.specs.InHost.{IsNear, IsNearPair, IsInHost, StaysInHost, IsPairWithin}
use Rattle.edit_laws.specs.Kinds.{Element, kind_in, kind_of}
use Rattle.edit_laws.proofs.HostParts.{host_stays}
use Rattle.edit_laws.proofs.Nearness.{near_within, within_near, hollow_is}
use Rattle.edit_laws.proofs.Resting.{host_there}

host_element : (f : Forest Content) (h : ℕ) → is_host f h ≡ true → (name : _) × (kind_of f h ≡ Some (Element name))
host_element f h hosted = by_content (content_of f h) hosted
  where
    by_content : (o : Option Content) → option_map_or is_true_state o false ≡ true → (name : _) × (option_map kind_in o ≡ Some (Element name))
    by_content None e = absurd (true≢false (sym e))
    by_content (Some content.Document) e = absurd (true≢false (sym e))
    by_content (Some (content.Element name attributes)) e = (name, refl)
    by_content (Some (content.Words chars)) e = absurd (true≢false (sym e))
    by_content (Some (content.Remark chars)) e = absurd (true≢false (sym e))

module _ (s : State) (h : ℕ) (keeping scratched : Bool) (is : IsValid s) (whole : tree_of s.trees 0 ≡ s.trees) (none : s.points.scratch ≡ None) (hosted : is_host s.trees h ≡ true) where
  outer : Forest Content
  outer = outside (begun (Some h) keeping s)

  outer_is : outer ≡ hollowed (tree_of s.trees 0) h
  unfolding outer outside begun
  outer_is = refl

  near_at : (l : ℕ) → IsWithin s.trees h l → IsNear outer h l
  near_at l inside = subst (λ g. IsNear g h l) (sym outer_is) (near_within s.trees s.next is.forest h l inside)

  near_pair : (o : Option Pair) → IfSome o (IsPairWithin s.trees h) → IfSome o (IsNearPair outer h)
  near_pair None inside = tt
  near_pair (Some p) inside = (near_at p.anchor.label inside.0, near_at p.focus.label inside.1)

  at_first : IfSome s.points.selection (IsPairWithin s.trees h) → IsInHost outer h scratched (begun (Some h) keeping s)
  unfolding outer begun
  at_first inside =
      let e = host_element s.trees h hosted in
      record {
        valid = valid_begun (Some h) keeping s is;
        confined = confined_begun (Some h) keeping s is;
        host = refl;
        outer_is = refl;
        early = is.forest.below h (host_there s.trees h hosted);
        name = e.0;
        element = e.1;
        selection = near_pair s.points.selection inside;
        scratch = λ on. subst (λ (o : Option Pair). IfSome o (IsNearPair outer h)) (sym none) tt;
      }

  still_there : 0 < count_of outer h
  still_there =
      let here : IsWithin s.trees 0 h = subst (λ f. 0 < count_of f h) (sym whole) (host_there s.trees h hosted) in
      subst (λ g. 0 < count_of g h) (sym outer_is) (host_stays h (tree_of s.trees 0) here)

  module _ (t : State) (at_last : IsInHost outer h scratched t) where
    h_inside : IsWithin t.trees 0 h
    h_inside = omega (arith, still_there, ap (λ g. count_of g h) (hollow_is outer h scratched t at_last), hollowed_le (tree_of t.trees 0) h h)

    at_or_below : (l : ℕ) → IsNear outer h l → IsWithin t.trees 0 l → IsWithin (tree_of t.trees 0) h l
    at_or_below l near inside = within_near t.trees t.next at_last.valid.forest h l h_inside (subst (λ g. IsNear g h l) (sym (hollow_is outer h scratched t at_last)) near) inside

    pair_within : (o : Option Pair) → IfSome o (IsNearPair outer h) → IfSome o (IsPlacedPair t.trees) → IfSome o (IsPairWithin (tree_of t.trees 0) h)
    pair_within None near placed = tt
    pair_within (Some p) near placed = (
      at_or_below p.anchor.label near.0 (placed_is t.trees p.anchor placed.anchor).inside,
      at_or_below p.focus.label near.1 (placed_is t.trees p.focus placed.focus).inside,
    )

    selection_within : IfSome (rested t).points.selection (IsPairWithin (rested t).trees h)
    unfolding rested
    selection_within = pair_within t.points.selection at_last.selection at_last.valid.placed.selection

  pub selection_in_host : {T : Type 0} (m : Run T) → IfSome s.points.selection (IsPairWithin s.trees h) → StaysInHost scratched m → IfSome (rested (final m (begun (Some h) keeping s))).points.selection (IsPairWithin (rested (final m (begun (Some h) keeping s))).trees h)
  selection_in_host m inside run = selection_within (final m (begun (Some h) keeping s)) (run.stays outer h (begun (Some h) keeping s) (at_first inside))

-- ---- a range that is selected first

selected_is : (s : State) (range : Pair) → IsPlacedPair s.trees range → selected range.anchor range.focus s ≡ with_selection (Some range) s
unfolding selected may_select
selected_is s range placed = let a = placed.anchor in let b = placed.focus in rw (a, b) refl

valid_selected : (s : State) (range : Pair) → IsValid s → IsPlacedPair s.trees range → IsValid (with_selection (Some range) s)
unfolding acted
valid_selected s range is placed = subst IsValid (selected_is s range placed) (valid_acted (Select range.anchor range.focus) s is)

begun_selected : (s : State) (range : Pair) (host : Option ℕ) (keeping : Bool) → with_selection (Some range) (begun host keeping s) ≡ begun host keeping (with_selection (Some range) s)
unfolding begun changed overrides_after
begun_selected s range host keeping = refl

final_selected : {T : Type 0} (m : Run T) (s : State) (host : Option ℕ) (keeping : Bool) (range : Pair) → IsPlacedPair s.trees range
    → final (select range.anchor range.focus >> m) (begun host keeping s) ≡ final m (begun host keeping (with_selection (Some range) s))
unfolding begun acted
final_selected m s host keeping range placed =
    final-bind (select range.anchor range.focus) (λ _. m) (begun host keeping s)
    ∙ ap (final m)
    (final-perform (Select range.anchor range.focus) (begun host keeping s)
    ∙ (selected_is (begun host keeping s) range placed ∙ begun_selected s range host keeping))

pub range_in_host : {T : Type 0} (s : State) (h : ℕ) (keeping scratched : Bool) (range : Pair) (m : Run T) → IsValid s → tree_of s.trees 0 ≡ s.trees → s.points.scratch ≡ None → is_host s.trees h ≡ true → IsPlacedPair s.trees range → IsPairWithin s.trees h range → StaysInHost scratched m
    → IfSome (rested (final (select range.anchor range.focus >> m) (begun (Some h) keeping s))).points.selection (IsPairWithin (rested (final (select range.anchor range.focus >> m) (begun (Some h) keeping s))).trees h)
unfolding changed
range_in_host s h keeping scratched range m is whole none hosted placed inside run =
    subst (λ (t : State). IfSome (rested t).points.selection (IsPairWithin (rested t).trees h)) (sym (final_selected m s (Some h) keeping range placed))
    (selection_in_host (with_selection (Some range) s) h keeping scratched (valid_selected s range is placed) whole none hosted m inside run)
