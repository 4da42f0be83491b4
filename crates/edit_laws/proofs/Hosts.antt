-- A new leaf leaves the hosts of the other nodes, and the parent of an editable node is inside the host.
use Rattle.std.proofs.Common.{◌≡◌, ◌≢◌, ℕ, Bool, true, false, ◌||◌, cond, eqb, Option, Some, None, refl, sym, ap, ◌∙◌, inl, inr, true≢false}
use Rattle.std.specs.Option.{option_map_or}
use Rattle.std.proofs.lemmas.Bool.{cases_Bool, ne_eqb, eq-eqb}
use Rattle.edit_model.specs.DomModel.declared.Content.{Content}
use Rattle.edit_model.specs.DomModel.Contents.{is_element}
use Rattle.edit_model.specs.DomModel.Editing.{is_true_state, is_false_state, host_by, offered, host_from, editing_host, is_editable}
use Rattle.edit_model.specs.DomModel.Forest.{Forest, is_label, either, parent_of, join, put_before, put_under}
use Rattle.edit_model.specs.DomModel.Forest.Forest.{Nil, Tree}
use Rattle.edit_model.proofs.DomModel.Hosts.{editing_host-child}
use Rattle.edit_model.proofs.DomModel.Links.{parent_count}
use Rattle.edit_model.specs.State.{State}
use Rattle.edit_model.specs.Confined.{is_editable_for, is_inside}
use Rattle.edit_model.specs.Valid.{IsValid}
use Rattle.edit_model.proofs.IslandRuns.{content_at}
use Rattle.edit_model.proofs.Tests.{label_is}

module _ (x : ℕ) (c : Content) (l : ℕ) (off : x ≢ l) where
  leaf_off : eqb x l ≡ false
  leaf_off = ne_eqb x l off

  pub host_from-join : (u : Bool) (a : Option ℕ) (f : Forest Content) → host_from u a (join f (Tree x c Nil Nil)) l ≡ host_from u a f l
  host_from-join u a Nil = rw leaf_off refl
  host_from-join u a (Tree m d ks rest) = ap (λ o. cond (eqb m l) (host_by d u a) (either (host_from (is_element d) (offered m d u a) ks l) o)) (host_from-join u a rest)

  host_from-before : (u : Bool) (a : Option ℕ) (f : Forest Content) (b : Option ℕ) → host_from u a (put_before f b (Tree x c Nil Nil)) l ≡ host_from u a f l
  host_from-before u a Nil b = rw leaf_off refl
  host_from-before u a (Tree m d ks rest) b = elim (cases_Bool (is_label b m)) [
    | inl t ↦ rw (t, leaf_off) refl
    | inr t ↦ rw (t, host_from-before u a rest b) refl
  ]

  pub host_from-under : (u : Bool) (a : Option ℕ) (f : Forest Content) (p : ℕ) (b : Option ℕ) → host_from u a (put_under f p b (Tree x c Nil Nil)) l ≡ host_from u a f l
  host_from-under u a Nil p b = refl
  host_from-under u a (Tree m d ks rest) p b = elim (cases_Bool (eqb m p)) [
    | inl t ↦ rw (t, host_from-before (is_element d) (offered m d u a) ks b) refl
    | inr t ↦ rw (t, host_from-under (is_element d) (offered m d u a) ks p b, host_from-under u a rest p b) refl
  ]

-- ---- the parent of an editable node

offered_is : (a b : Bool) (above : Option ℕ) (h : ℕ) → cond a None (cond b above None) ≡ Some h → above ≡ Some h
offered_is true b above h e = absurd (let t : None ≡ Some h = e in cc)
offered_is false true above h e = e
offered_is false false above h e = absurd (let t : None ≡ Some h = e in cc)

by_host : (f : Forest Content) (h p : ℕ) (v : Bool) → cond v (Some p) (editing_host f p) ≡ Some h → (is_label (Some h) p || is_label (editing_host f p) h) ≡ true
by_host f h p true e = let same : h ≡ p = (let t : Some p ≡ Some h = e in cc) in rw (eq-eqb h p same) refl
by_host f h p false e = rw (e, eq-eqb h h refl) (either_true (eqb h p))
  where
    either_true : (v : Bool) → (v || true) ≡ true
    either_true true = refl
    either_true false = refl

pub parent_inside : (s : State) → IsValid s → (n p : ℕ) → parent_of s.trees n ≡ Some p → is_editable_for s n ≡ true → is_inside s p ≡ true
unfolding is_editable_for is_inside
parent_inside s is n p child editable = with_host s.host editable
  where
    with_host : (o : Option ℕ) → option_map_or (λ h. is_editable s.trees h n) o false ≡ true → (is_label o p || option_map_or (λ h. is_editable s.trees h p) o false) ≡ true
    with_host None e = absurd (true≢false (sym e))
    with_host (Some h) e =
        let f = s.trees in
        let once = is.forest.distinct in
        let counts = parent_count f n p once child in
        let c = content_at f once n counts.0 in
        let d = content_at f once p counts.1 in
        let hosted = editing_host-child f once n p c.0 d.0 child c.1 d.1 in
        let above = offered_is (is_true_state c.0 || is_false_state c.0) (is_element c.0 || is_element d.0) (cond (is_true_state d.0) (Some p) (editing_host f p)) h (sym hosted ∙ label_is (editing_host f n) h e) in
        by_host f h p (is_true_state d.0) above
