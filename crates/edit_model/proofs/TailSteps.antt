-- What each step of a tail keeps, all of them keep.
use Rattle.std.proofs.Common.{◌≡◌, ℕ, Bool, true, false, not, if◌then◌else◌, List, [], ◌∷◌, refl, sym, ◌∙◌, true≢false}
use Rattle.std.proofs.lemmas.Bool.{and_parts, not-true, ltb-true}
use Rattle.point_order.specs.DomModel.declared.Content.{Content}
use Rattle.point_order.specs.DomModel.Contents.{is_parent_at}
use Rattle.point_order.specs.DomModel.Forest.{count_of, tree_of, IsWithin}
use Rattle.point_order.specs.LiveRange.declared.places.Point.{Point}
use Rattle.point_order.specs.PointOrder.{is_within, is_in_document}
use Rattle.edit_model.specs.State.{State}
use Rattle.edit_model.specs.Confined.{is_editable_for, is_made}
use Rattle.edit_model.specs.Edit.{Edit}
use Rattle.edit_model.specs.Action.{made, applied, stepped, stepped_all, tail_of, may_extract, extracted}
use Rattle.edit_model.specs.Tail.{Step, Copy, Do}

pub steps_keep : (P : State → Type 0) → ((c : Content) (s : State) → P s → P (made c s)) → ((e : Edit) (s : State) → P s → P (applied e s)) → (xs : List Step) (s : State) → P s → P (stepped_all xs s)
unfolding stepped_all stepped
steps_keep P copy edit [] s h = h
steps_keep P copy edit (Copy c ∷ xs) s h = steps_keep P copy edit xs (made c s) (copy c s h)
steps_keep P copy edit (Do e ∷ xs) s h = steps_keep P copy edit xs (applied e s) (edit e s h)

-- what holds after the steps and where they are left out, holds after the action
pub either_extracted : (P : State → Type 0) (from : Point) (end target : ℕ) (s : State) → (may_extract s from end target ≡ true → P (stepped_all (tail_of s from end target) s)) → P s → P (extracted from end target s)
unfolding extracted
either_extracted P from end target s made left = by (may_extract s from end target) made
  where
    by : (b : Bool) → (b ≡ true → P (stepped_all (tail_of s from end target) s)) → P (if b then stepped_all (tail_of s from end target) s else s)
    by true h = h refl
    by false h = left

-- what each step keeps, the action keeps
pub extracted_keeps : (P : State → Type 0) → ((c : Content) (s : State) → P s → P (made c s)) → ((e : Edit) (s : State) → P s → P (applied e s)) → (from : Point) (end target : ℕ) (s : State) → P s → P (extracted from end target s)
extracted_keeps P copy edit from end target s h = either_extracted P from end target s (λ _. steps_keep P copy edit (tail_of s from end target) s h) h

-- what the test of the action tells where it passes
pub record Extracts (s : State) (from : Point) (end target : ℕ) : Type 0 where
  pub keeping : s.keeping ≡ false
  pub end_editable : is_editable_for s end ≡ true
  pub end_inside : IsWithin s.trees 0 end
  pub from_editable : is_editable_for s from.label ≡ true
  pub below : IsWithin s.trees end from.label
  pub made : is_made s target ≡ true
  pub parent : is_parent_at s.trees target ≡ true
  pub inside : IsWithin s.trees 0 target
  pub apart : is_within s.trees end target ≡ false

pub extract_tests : (s : State) (from : Point) (end target : ℕ) → may_extract s from end target ≡ true → Extracts s from end target
unfolding may_extract
extract_tests s from end target h =
    let f = s.trees in
    let h1 = and_parts (not s.keeping) _ h in
    let h2 = and_parts (is_editable_for s end) _ h1.1 in
    let h0 = and_parts (is_in_document f end) _ h2.1 in
    let h3 = and_parts (is_editable_for s from.label) _ h0.1 in
    let h4 = and_parts (is_parent_at f from.label) _ h3.1 in
    let h5 = and_parts (is_within f end from.label) _ h4.1 in
    let h6 = and_parts (is_made s target) _ h5.1 in
    let h7 = and_parts (is_in_document f target) _ h6.1 in
    let h8 = and_parts (is_parent_at f target) (not (is_within f end target)) h7.1 in
    record {
      keeping = not-true s.keeping h1.0;
      end_editable = h2.0;
      end_inside = ltb-true 0 (count_of (tree_of f 0) end) h0.0;
      from_editable = h3.0;
      below = ltb-true 0 (count_of (tree_of f end) from.label) h5.0;
      made = h6.0;
      parent = h8.0;
      inside = ltb-true 0 (count_of (tree_of f 0) target) h7.0;
      apart = not-true (is_within f end target) h8.1;
    }

-- a keeping command leaves the action out
pub extracted_off : (from : Point) (end target : ℕ) (s : State) → s.keeping ≡ true → extracted from end target s ≡ s
extracted_off from end target s keeps = either_extracted (λ t. t ≡ s) from end target s (λ may. absurd (true≢false (sym keeps ∙ (extract_tests s from end target may).keeping))) refl
