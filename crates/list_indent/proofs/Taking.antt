-- An element without the attribute contenteditable has the host of a parent that is editable.
use Rattle.std.proofs.Common.{◌≡◌, ℕ, Bool, true, false, cond, Option, Some, None, refl, sym, ap, ◌∙◌}
use Rattle.std.specs.Option.{option_map_or}
use Rattle.edit_model.specs.DomModel.declared.Content.{Content}
use Rattle.edit_model.specs.DomModel.Editing.{contenteditable, is_true_state, host_by, editing_host, is_editable}
use Rattle.edit_model.specs.DomModel.Forest.{Forest, IsDistinct, parent_of, content_of, is_label}
use Rattle.edit_model.proofs.DomModel.Hosts.{editing_host-root, editing_host-child}
use Rattle.edit_model.proofs.DomModel.Links.{parent_count}
use Rattle.edit_model.proofs.DomModel.Parts.{at_label}
use Rattle.edit_model.specs.State.{State}
use Rattle.edit_model.specs.Confined.{is_editable_for}
use Rattle.list_indent.specs.Gaps.{TakesHost}

taken_by : (c : Content) (e : Bool) (above : Option ℕ) → TakesHost c → host_by c e above ≡ above
taken_by c e above t = rw (t.1, t.0) refl

no_host : (d : Content) (e : Bool) (above : Option ℕ) → is_true_state d ≡ true → host_by d e above ≡ None
no_host d e above is = rw is refl

module _ (f : Forest Content) (once : IsDistinct f) where
  -- an editable node is no host
  inside : (h p : ℕ) (d : Content) → content_of f p ≡ Some d → is_editable f h p ≡ true → is_true_state d ≡ false
  inside h p d content editable = by_state (is_true_state d) refl
    where
      hostless : editing_host f p ≡ None → is_true_state d ≡ false
      hostless none = absurd (let u : false ≡ true = sym (ap (λ o. is_label o h) none) ∙ editable in cc)

      by_parent : is_true_state d ≡ true → (o : Option ℕ) → parent_of f p ≡ o → is_true_state d ≡ false
      by_parent is None root = hostless (editing_host-root f once p root)
      by_parent is (Some q) up =
          let above = at_label f once q (parent_count f p q once up).1 in
          hostless (editing_host-child f once p q d above.content up content above.content_is ∙ no_host d _ _ is)

      by_state : (v : Bool) → is_true_state d ≡ v → is_true_state d ≡ false
      by_state true is = by_parent is (parent_of f p) refl
      by_state false is = is

  taken : (h l p : ℕ) (c : Content) → parent_of f l ≡ Some p → content_of f l ≡ Some c → TakesHost c → is_editable f h p ≡ true → is_editable f h l ≡ true
  taken h l p c child content takes editable =
      let above = at_label f once p (parent_count f l p once child).1 in
      let off = inside h p above.content above.content_is editable in
      ap (λ o. is_label o h) (editing_host-child f once l p c above.content child content above.content_is ∙ taken_by c _ _ takes ∙ ap (λ v. cond v (Some p) (editing_host f p)) off)
      ∙ editable

pub taken_here : (s : State) → IsDistinct s.trees → (l p : ℕ) (c : Content) → parent_of s.trees l ≡ Some p → content_of s.trees l ≡ Some c → TakesHost c → is_editable_for s p ≡ true → is_editable_for s l ≡ true
unfolding is_editable_for
taken_here s once l p c child content takes editable = by_host s.host editable
  where
    by_host : (o : Option ℕ) → option_map_or (λ h. is_editable s.trees h p) o false ≡ true → option_map_or (λ h. is_editable s.trees h l) o false ≡ true
    by_host None e = absurd (let u : false ≡ true = e in cc)
    by_host (Some h) e = taken s.trees once h l p c child content takes e
