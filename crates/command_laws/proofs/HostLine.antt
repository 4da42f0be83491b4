-- The host of an editable node stands among its ancestors.
use Rattle.std.proofs.Common.{◌≡◌, ℕ, zero, suc, ◌<◌, Bool, true, false, ◌||◌, cond, List, [], ◌∷◌, map, Option, Some, None, refl, sym, ap, ◌∙◌, arith, true≢false}
use Rattle.std.specs.List.{list_any}
use Rattle.std.specs.Option.{option_map_or}
use Rattle.edit_model.specs.DomModel.declared.Content.{Content}
use Rattle.edit_model.specs.DomModel.Contents.{is_element}
use Rattle.edit_model.specs.DomModel.Editing.{is_true_state, is_false_state, editing_host, is_editable}
use Rattle.edit_model.specs.DomModel.Forest.{Forest, count_of, IsDistinct, parent_of, depth_of}
use Rattle.edit_model.proofs.DomModel.Hosts.{editing_host-root, editing_host-child}
use Rattle.edit_model.proofs.DomModel.Links.{parent_count}
use Rattle.edit_model.proofs.DomModel.Within.{depth_of-parent}
use Rattle.inline_value.specs.NodeStyles.Lineage.{Ancestor, lineage}
use Rattle.inline_value.proofs.NodeStyles.Lineages.{lineage-root, lineage-child}
use Rattle.edit_model.specs.State.{State}
use Rattle.edit_model.specs.Confined.{is_editable_for}
use Rattle.edit_model.specs.Valid.{IsValid}
use Rattle.edit_model.proofs.IslandRuns.{content_at}
use Rattle.edit_model.proofs.Tests.{label_is}
use Rattle.inline_value.specs.Forcing.{above, ancestors}

offered_is : (a b : Bool) (o : Option ℕ) (h : ℕ) → cond a None (cond b o None) ≡ Some h → o ≡ Some h
offered_is true b o h e = absurd (let t : None ≡ Some h = e in cc)
offered_is false true o h e = e
offered_is false false o h e = absurd (let t : None ≡ Some h = e in cc)

-- a lineage begins with its node
record Begun (f : Forest Content) (l : ℕ) : Type 0 where
  content : Content
  rest : List Ancestor
  is : lineage f l ≡ record { label = l; content = content } ∷ rest

module _ (f : Forest Content) (once : IsDistinct f) where
  begun : (l : ℕ) → 0 < count_of f l → Begun f l
  begun l here = by_parent (parent_of f l) refl
    where
      by_parent : (o : Option ℕ) → parent_of f l ≡ o → Begun f l
      by_parent None root = (let c = content_at f once l here in record { content = c.0; rest = []; is = lineage-root f once l c.0 here root c.1 })
      by_parent (Some p) up = (let c = content_at f once l here in record { content = c.0; rest = lineage f p; is = lineage-child f once l p c.0 up c.1 })

  module _ (test : ℕ → Bool) (h : ℕ) (passes : test h ≡ true) where
    -- among a node and its ancestors
    Found : ℕ → Type 0
    Found l = list_any test (map (λ j. j.label) (lineage f l)) ≡ true

    first_found : (l : ℕ) → 0 < count_of f l → test l ≡ true → Found l
    unfolding Found
    first_found l here e =
        let b = begun l here in
        ap (λ line. list_any test (map (λ j. j.label) line)) b.is ∙ rw e refl

    later_found : (l p : ℕ) → parent_of f l ≡ Some p → Found p → Found l
    unfolding Found
    later_found l p up e =
        let c = content_at f once l (parent_count f l p once up).0 in
        ap (λ line. list_any test (map (λ j. j.label) line)) (lineage-child f once l p c.0 up c.1) ∙ (ap (λ v. test l || v) e ∙ either_true (test l))
      where
        either_true : (v : Bool) → (v || true) ≡ true
        either_true true = refl
        either_true false = refl

    -- what the host of a node is found in
    host_found : (k l p : ℕ) → depth_of f l ≡ k → parent_of f l ≡ Some p → editing_host f l ≡ Some h → Found p
    host_found zero l p deep up hosted = absurd (omega (arith, deep, depth_of-parent f l p once up))
    host_found (suc k) l p deep up hosted =
        let counts = parent_count f l p once up in
        let c = content_at f once l counts.0 in
        let d = content_at f once p counts.1 in
        let offered = offered_is (is_true_state c.0 || is_false_state c.0) (is_element c.0 || is_element d.0) (cond (is_true_state d.0) (Some p) (editing_host f p)) h (sym (editing_host-child f once l p c.0 d.0 up c.1 d.1) ∙ hosted) in
        by_state (is_true_state d.0) offered (λ q e again. later_found p q e (host_found k p q (omega (arith, deep, depth_of-parent f l p once up)) e again))
      where
        by_parent : editing_host f p ≡ Some h → ((q : ℕ) → parent_of f p ≡ Some q → editing_host f p ≡ Some h → Found p) → (o : Option ℕ) → parent_of f p ≡ o → Found p
        by_parent e more None root = absurd (let t : None ≡ Some h = sym (editing_host-root f once p root) ∙ e in cc)
        by_parent e more (Some q) above = more q above e

        by_state : (v : Bool) → cond v (Some p) (editing_host f p) ≡ Some h → ((q : ℕ) → parent_of f p ≡ Some q → editing_host f p ≡ Some h → Found p) → Found p
        by_state true e more = (let same : p ≡ h = (let t = e in cc) in first_found p (parent_count f l p once up).1 (ap test same ∙ passes))
        by_state false e more = by_parent e more (parent_of f p) refl

-- some ancestor of an editable node passes a test that the host passes
pub host_among : (s : State) → IsValid s → (n : ℕ) → is_editable_for s n ≡ true → (test : ℕ → Bool) → ((h : ℕ) → s.host ≡ Some h → test h ≡ true) → list_any test (ancestors s.trees n) ≡ true
unfolding is_editable_for ancestors Found
host_among s is n editable test passes = by_host s.host refl editable
  where
    by_host : (o : Option ℕ) → s.host ≡ o → option_map_or (λ h. is_editable s.trees h n) o false ≡ true → list_any test (above (lineage s.trees n)) ≡ true
    by_host None e k = absurd (true≢false (sym k))
    by_host (Some h) e k = by_parent (parent_of s.trees n) refl
      where
        by_parent : (o : Option ℕ) → parent_of s.trees n ≡ o → list_any test (above (lineage s.trees n)) ≡ true
        by_parent None root = absurd (let t : None ≡ Some h = sym (editing_host-root s.trees is.forest.distinct n root) ∙ label_is (editing_host s.trees n) h k in cc)
        by_parent (Some p) up =
            let c = content_at s.trees is.forest.distinct n (parent_count s.trees n p is.forest.distinct up).0 in
            ap (λ line. list_any test (above line)) (lineage-child s.trees is.forest.distinct n p c.0 up c.1)
            ∙ host_found s.trees is.forest.distinct test h (passes h e) (depth_of s.trees n) n p refl up (label_is (editing_host s.trees n) h k)
