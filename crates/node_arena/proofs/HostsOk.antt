-- A step of the walk to the host.
use Rattle.std.proofs.Common.{◌≡◌, ℕ, Bool, true, false, cond, ◌||◌, ◌&&◌, not, Option, Some, None, refl, ap, ◌∙◌}
use Rattle.dom_model.specs.declared.Content.{Content}
use Rattle.dom_model.specs.Contents.{is_element}
use Rattle.dom_model.specs.Editing.{is_true_state, is_false_state, host_by, editing_host, is_editable}
use Rattle.dom_model.specs.Forest.{Forest, IsDistinct, parent_of, content_of, is_label}
use Rattle.node_arena.specs.declared.hosts.EditableState.TheVariants.{True, False, Inherit}
use Rattle.node_arena.specs.EditableStates.{editable_state_of, is_true, takes}
use Rattle.dom_model.proofs.Hosts.{editing_host-root, editing_host-child}

pub true_state : (c : Content) → is_true (editable_state_of c) ≡ is_true_state c
unfolding editable_state_of is_true
true_state c = by_tests (is_true_state c) (is_false_state c)
  where
    by_tests : (v w : Bool) → is_true (cond v True (cond w False Inherit)) ≡ v
    by_tests true w = refl
    by_tests false true = refl
    by_tests false false = refl

host_taken : (c d : Content) (above : Option ℕ) → takes c d ≡ true → host_by c (is_element d) above ≡ above
host_taken c d above t = by_tests (is_true_state c || is_false_state c) (is_element c || is_element d) t
  where
    by_tests : (v w : Bool) → (not v && w) ≡ true → cond v None (cond w above None) ≡ above
    by_tests true w h = absurd (let h' = h in cc)
    by_tests false true h = refl
    by_tests false false h = absurd (let h' = h in cc)

host_refused : (c d : Content) (above : Option ℕ) → takes c d ≡ false → host_by c (is_element d) above ≡ None
host_refused c d above t = by_tests (is_true_state c || is_false_state c) (is_element c || is_element d) t
  where
    by_tests : (v w : Bool) → (not v && w) ≡ false → cond v None (cond w above None) ≡ None
    by_tests true w h = refl
    by_tests false true h = absurd (let h' = h in cc)
    by_tests false false h = refl

module _ (f : Forest Content) (once : IsDistinct f) (host l p : ℕ) (c d : Content) (child : parent_of f l ≡ Some p) (content : content_of f l ≡ Some c) (above : content_of f p ≡ Some d) where
  step : editing_host f l ≡ host_by c (is_element d) (cond (is_true_state d) (Some p) (editing_host f p))
  step = editing_host-child f once l p c d child content above

  pub refused : takes c d ≡ false → is_editable f host l ≡ false
  refused t = ap (λ o. is_label o host) (step ∙ host_refused c d _ t)

  pub at_host : takes c d ≡ true → is_true_state d ≡ true → is_editable f host l ≡ is_label (Some p) host
  at_host t u = ap (λ o. is_label o host) (step ∙ (host_taken c d _ t ∙ ap (λ v. cond v (Some p) (editing_host f p)) u))

  pub passed_on : takes c d ≡ true → is_true_state d ≡ false → is_editable f host l ≡ is_editable f host p
  passed_on t u = ap (λ o. is_label o host) (step ∙ (host_taken c d _ t ∙ ap (λ v. cond v (Some p) (editing_host f p)) u))

pub at_root : (f : Forest Content) → IsDistinct f → (host l : ℕ) → parent_of f l ≡ None → is_editable f host l ≡ false
at_root f once host l root = ap (λ o. is_label o host) (editing_host-root f once l root)
