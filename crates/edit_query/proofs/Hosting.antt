-- The way up from a node that is editable: its parent is the host, or editable too.
use Rattle.std.proofs.Common.{◌≡◌, ℕ, Bool, true, false, not, ◌||◌, cond, eqb, Option, Some, None, IfSome, refl, sym, ap, ◌∙◌, inl, inr, true≢false}
use Rattle.std.proofs.lemmas.Bool.{cases_Bool, eqb-true, eq-eqb}
use Rattle.std.specs.Option.{option_map_or}
use Rattle.edit_model.specs.DomModel.declared.Content.{Content}
use Rattle.edit_model.specs.DomModel.Contents.{is_element}
use Rattle.edit_model.specs.DomModel.Editing.{is_true_state, is_false_state, editing_host, is_editable}
use Rattle.edit_model.specs.DomModel.Forest.{Forest, is_label, IsDistinct, parent_of}
use Rattle.edit_model.proofs.DomModel.Hosts.{editing_host-child}
use Rattle.edit_model.proofs.DomModel.Links.{parent_count}
use Rattle.edit_model.proofs.DomModel.Parts.{at_label}
use Rattle.edit_model.specs.NodeArena.declared.NodeRef.{NodeRef}
use Rattle.edit_model.specs.State.{State}
use Rattle.edit_model.specs.Confined.{is_editable_for, is_inside}
use Rattle.edit_model.specs.Gives.{label_of}
use Rattle.edit_model.proofs.Hollow.{editable_below}
use Rattle.edit_model.proofs.Tests.{label_is}
use Rattle.edit_query.specs.Inside.{is_in_host}

offered : (a b : Bool) (above : Option ℕ) (h : ℕ) → cond a None (cond b above None) ≡ Some h → above ≡ Some h
offered true b above h is = absurd (let t : None ≡ Some h = is in cc)
offered false true above h is = is
offered false false above h is = absurd (let t : None ≡ Some h = is in cc)

module _ (f : Forest Content) (once : IsDistinct f) (host l : ℕ) where
  by_state : (p : ℕ) (v : Bool) → cond v (Some p) (editing_host f p) ≡ Some host → is_in_host f host p ≡ true
  by_state p true is = let same : host ≡ p = (let t : Some p ≡ Some host = is in cc) in rw (eq-eqb host p same) refl
  by_state p false is = rw (is, eq-eqb host host refl) (either (eqb host p))
    where
      either : (v : Bool) → (v || true) ≡ true
      either true = refl
      either false = refl

  -- the parent of an editable node
  pub parent_inside : (p : ℕ) → parent_of f l ≡ Some p → is_editable f host l ≡ true → is_in_host f host p ≡ true
  parent_inside p child editable =
      let counts = parent_count f l p once child in
      let c = at_label f once l counts.0 in
      let d = at_label f once p counts.1 in
      let hosted = editing_host-child f once l p c.content d.content child c.content_is d.content_is in
      by_state p (is_true_state d.content) (offered (is_true_state c.content || is_false_state c.content) (is_element c.content || is_element d.content) (cond (is_true_state d.content) (Some p) (editing_host f p)) host (sym hosted ∙ label_is (editing_host f l) host editable))

  -- no node is editable with itself as its host
  apart : eqb host l ≡ true → is_editable f host l ≡ false
  apart same = elim (cases_Bool (is_editable f host l)) [
    | inl on ↦ absurd ((editable_below f once l host (label_is (editing_host f l) host on)).1 (sym (eqb-true host l same)))
    | inr off ↦ off
  ]

  -- what is inside a host is editable with it, but for the host
  pub within : is_in_host f host l ≡ true → not (eqb host l) ≡ is_editable f host l
  within inside = elim (cases_Bool (eqb host l)) [
    | inl same ↦ ap not same ∙ sym (apart same)
    | inr off ↦ ap not off ∙ sym (sym (ap (λ v. v || is_editable f host l) off) ∙ inside)
  ]

module _ (s : State) (l : ℕ) where
  -- with the host of a state
  pub editable_with : (h : ℕ) → s.host ≡ Some h → is_editable_for s l ≡ is_editable s.trees h l
  unfolding is_editable_for
  editable_with h is = ap (λ o. option_map_or (λ k. is_editable s.trees k l) o false) is

  pub editable_without : s.host ≡ None → is_editable_for s l ≡ false
  unfolding is_editable_for
  editable_without is = ap (λ o. option_map_or (λ k. is_editable s.trees k l) o false) is

  pub inside_with : (h : ℕ) → s.host ≡ Some h → is_inside s l ≡ is_in_host s.trees h l
  unfolding is_inside
  inside_with h is = ap (λ o. is_label o l || is_editable_for s l) is ∙ ap (λ v. eqb h l || v) (editable_with h is)

-- the parent of an editable node, in a state
pub inside_above : (s : State) → IsDistinct s.trees → (l : ℕ) → is_editable_for s l ≡ true → (p : ℕ) → parent_of s.trees l ≡ Some p → is_inside s p ≡ true
inside_above s once l editable p child = by_host s.host refl
  where
    by_host : (o : Option ℕ) → s.host ≡ o → is_inside s p ≡ true
    by_host None is = absurd (true≢false (sym editable ∙ editable_without s l is))
    by_host (Some h) is = inside_with s p h is ∙ parent_inside s.trees once h l p child (sym (editable_with s l h is) ∙ editable)

-- the same of the node that is found above, if there is one
pub found_inside : (s : State) → IsDistinct s.trees → (l : ℕ) → is_editable_for s l ≡ true → (o : Option NodeRef) → label_of o ≡ parent_of s.trees l → IfSome o (λ r. is_inside s r.label ≡ true)
found_inside s once l editable None is = tt
found_inside s once l editable (Some r) is = inside_above s once l editable r.label (sym is)
