-- Where one node comes to stand elsewhere, those that don't stand below it have the host that they had, and are open where they were.
use Rattle.std.proofs.Common.{◌≡◌, ◌≢◌, ℕ, ◌<◌, zero, suc, cond, Option, Some, None, refl, sym, ap, ◌∙◌, arith}
use Rattle.edit_model.specs.DomModel.declared.Content.{Content}
use Rattle.edit_model.specs.DomModel.Contents.{is_element}
use Rattle.edit_model.specs.DomModel.Editing.{is_true_state, host_by, editing_host}
use Rattle.edit_model.specs.DomModel.Forest.{Forest, count_of, IsDistinct, IsWithin, parent_of, depth_of, content_of}
use Rattle.edit_model.proofs.DomModel.Hosts.{editing_host-root, editing_host-child}
use Rattle.edit_model.proofs.DomModel.Links.{parent_count}
use Rattle.edit_model.proofs.DomModel.Within.{depth_of-parent, within_at, within_child}
use Rattle.edit_model.specs.State.{State}
use Rattle.edit_model.specs.Confined.{is_editable_for, is_inside, is_made, is_open}
use Rattle.edit_model.specs.Valid.{IsValid}
use Rattle.edit_model.proofs.CommandParts.{SameCommand}
use Rattle.edit_model.proofs.IslandRuns.{content_at}

-- ---- hosts, where the parent of one node changes

module _ (f g : Forest Content) (once : IsDistinct f) (once' : IsDistinct g) (k : ℕ) (known : 0 < count_of f k) (parent : (l : ℕ) → k ≢ l → parent_of g l ≡ parent_of f l) (content : (l : ℕ) → content_of g l ≡ content_of f l) where
  by_above : (l : ℕ) → (IsWithin f k l → ⊥) → ((p : ℕ) → parent_of f l ≡ Some p → editing_host g p ≡ editing_host f p) → editing_host g l ≡ editing_host f l
  by_above l apart above = by_parent (parent_of f l) refl
    where
      other : k ≢ l
      other e = apart (within_at f k once known l (sym e))

      by_parent : (o : Option ℕ) → parent_of f l ≡ o → editing_host g l ≡ editing_host f l
      by_parent None root = editing_host-root g once' l (parent l other ∙ root) ∙ sym (editing_host-root f once l root)
      by_parent (Some p) up =
          let counts = parent_count f l p once up in
          let c = content_at f once l counts.0 in
          let d = content_at f once p counts.1 in
          editing_host-child g once' l p c.0 d.0 (parent l other ∙ up) (content l ∙ c.1) (content p ∙ d.1)
          ∙ (ap (λ o. host_by c.0 (is_element d.0) (cond (is_true_state d.0) (Some p) o)) (above p up)
          ∙ sym (editing_host-child f once l p c.0 d.0 up c.1 d.1))

  pub host_same : (n l : ℕ) → depth_of f l ≡ n → (IsWithin f k l → ⊥) → editing_host g l ≡ editing_host f l
  host_same zero l deep apart = by_above l apart (λ p up. absurd (omega (arith, deep, depth_of-parent f l p once up)))
  host_same (suc n) l deep apart =
      by_above l apart (λ p up. host_same n p (omega (arith, deep, depth_of-parent f l p once up)) (λ h. apart (within_child f k once known l p up h)))

-- ---- what is open stays so where one node comes to stand elsewhere

pub open_same : (s t : State) → IsValid s → IsValid t → SameCommand s t → (k : ℕ) → 0 < count_of s.trees k → ((l : ℕ) → k ≢ l → parent_of t.trees l ≡ parent_of s.trees l) → ((l : ℕ) → content_of t.trees l ≡ content_of s.trees l)
    → (l : ℕ) → (IsWithin s.trees k l → ⊥) → is_open t l ≡ is_open s l
unfolding is_open is_inside is_editable_for is_made
open_same s t is is_t command k known parent content l apart =
    rw (command.host, command.start, host_same s.trees t.trees is.forest.distinct is_t.forest.distinct k known parent content (depth_of s.trees l) l refl apart) refl
