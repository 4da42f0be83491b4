-- What is copied where a tail is extracted is editable.
use Rattle.std.proofs.Common.{◌≡◌, ℕ, ◌<◌, false, ◌||◌, cond, eqb, Some, refl, ap, ◌∙◌, inl, inr, arith}
use Rattle.std.proofs.lemmas.Bool.{cases_Bool, eq-eqb}
use Rattle.point_order.specs.DomModel.declared.Content.{Content}
use Rattle.point_order.specs.DomModel.Editing.{is_true_state, is_false_state, editing_host, is_editable}
use Rattle.point_order.specs.DomModel.Forest.{Forest, is_label, count_of, parent_of, content_of, IsWithin}
use Rattle.point_order.proofs.DomModel.Totals.{total-without}
use Rattle.point_order.proofs.DomModel.Links.{parent_count}
use Rattle.edit_model.specs.Valid.{IsForest}
use Rattle.edit_model.proofs.Tests.{label_is}
use Rattle.edit_model.proofs.Hollow.{editable_below}
use Rattle.edit_model.proofs.Islands.{host_within}
use Rattle.edit_model.proofs.IslandRuns.{root_content, content_at, editable_offers, locked_under}
use Rattle.edit_model.proofs.Each.{editable_stateless}

module _ (f : Forest Content) (next : ℕ) (is : IsForest f next) (h : ℕ) where
  -- between two nodes of a host every node has that host
  pub host_between : (c k l : ℕ) → editing_host f c ≡ Some h → parent_of f k ≡ Some c → IsWithin f k l → editing_host f l ≡ Some h → editing_host f k ≡ Some h
  host_between c k l above child within below = elim (cases_Bool (is_editable f h k)) [
    | inl yes_editable ↦ label_is (editing_host f k) h yes_editable
    | inr uneditable ↦ absurd (
        let locked = (locked_under f next h k c is child uneditable (editable_offers f next h c k is child above)).0 in
        let known = (parent_count f k c is.distinct child).0 in
        let content = root_content f k locked.content locked.kids is.distinct locked.top in
        let inside = host_within f is.distinct k known locked.content content locked.stated l h within below in
        omega (arith, inside, locked.apart))
  ]

  -- such a node has no state of its own
  pub hosted_content : (k : ℕ) → editing_host f k ≡ Some h → (c : Content) × (content_of f k ≡ Some c) × ((is_true_state c || is_false_state c) ≡ false)
  hosted_content k e =
      let below = (editable_below f is.distinct k h e).0 in
      let known : 0 < count_of f k = omega (arith, below, total-without (λ m _. cond (eqb m k) 1 0) f h) in
      let d = content_at f is.distinct k known in
      (d.0, d.1, editable_stateless f next h k is (ap (λ o. is_label o h) e ∙ eq-eqb h h refl) d.0 d.1)
