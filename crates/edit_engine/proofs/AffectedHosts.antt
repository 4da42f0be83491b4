-- The affected host is a host.
use Rattle.std.proofs.Common.{◌≡◌, ℕ, zero, suc, ◌<◌, Bool, true, false, cond, ◌&&◌, [], Option, Some, None, refl, sym, ap, ◌∙◌, arith}
use Rattle.std.specs.List.{find}
use Rattle.std.specs.Option.{option_map, option_map_or, option_and_then, unwrap_or}
use Rattle.std.proofs.lemmas.Bool.{and_parts}
use Rattle.edit_model.specs.DomModel.declared.Content.{Content}
use Rattle.edit_model.specs.DomModel.Editing.{is_host, is_true_state}
use Rattle.edit_model.specs.DomModel.Forest.{Forest, Seen, count_of, IsDistinct, parent_of, content_of, depth_of}
use Rattle.edit_model.proofs.DomModel.Links.{seen}
use Rattle.edit_model.proofs.DomModel.Within.{depth_of-parent}
use Rattle.edit_model.specs.LiveRange.declared.places.Pair.{Pair}
use Rattle.edit_model.specs.State.{State}
use Rattle.inline_value.specs.EditActions.ActiveRange.{start_of, end_of, host_of_pair, affected_host}
use Rattle.edit_engine.specs.Execution.{host_at}
use Rattle.inline_value.specs.NodeStyles.Lineage.{Ancestor, lineage}
use Rattle.inline_value.proofs.NodeStyles.Lineages.{ancestor, lineage_absent, lineage-root, lineage-child}
use Rattle.inline_value.specs.NodeTests.AffectedHost as nodes
use Rattle.inline_value.specs.NodeTests.AffectedHost.{is_host_of, common_host, takes_commands}

lineage-none : (f : Forest Content) (l : ℕ) → count_of f l ≡ 0 → lineage f l ≡ []
unfolding lineage
lineage-none f l none = ap (λ o. unwrap_or o []) (lineage_absent [] f l none)

module _ (f : Forest Content) (once : IsDistinct f) (b h : ℕ) where
  abbrev Found : Option Ancestor → Type 0
  Found o = option_map (λ k. k.label) o ≡ Some h → is_host f h ≡ true

  found_here : (l : ℕ) (c : Content) (rest : Option Ancestor) → content_of f l ≡ Some c → (v : Bool) → is_host_of f b (ancestor l c) ≡ v → Found rest → Found (cond v (Some (ancestor l c)) rest)
  found_here l c rest content true passes above e =
      let same : l ≡ h = (let t : Some l ≡ Some h = e in cc) in
      let stated : is_true_state c ≡ true = (and_parts (is_true_state c) _ passes).0 in
      ap (is_host f) (sym same) ∙ (ap (λ (o : Option Content). option_map_or is_true_state o false) content ∙ stated)
  found_here l c rest content false passes above e = above e

  -- what is found in a lineage is a host
  found_in : (n l : ℕ) → depth_of f l < n → Found (find (is_host_of f b) (lineage f l))
  found_in zero l low = absurd (omega (arith, low))
  found_in (suc n) l low = by_count (count_of f l) refl (λ p e. found_in n p (omega (arith, low, depth_of-parent f l p once e)))
    where
      nothing : (o : Option Ancestor) → o ≡ None → Found o
      nothing o is e = absurd (let t : None ≡ Some h = ap (option_map (λ k. k.label)) (sym is) ∙ e in cc)

      by_parent : (c : Content) → 0 < count_of f l → content_of f l ≡ Some c → (o : Option ℕ) → parent_of f l ≡ o → ((p : ℕ) → parent_of f l ≡ Some p → Found (find (is_host_of f b) (lineage f p))) → Found (find (is_host_of f b) (lineage f l))
      by_parent c here content None root above =
          rw (lineage-root f once l c here root content) (found_here l c None content (is_host_of f b (ancestor l c)) refl (nothing None refl))
      by_parent c here content (Some p) up above =
          rw (lineage-child f once l p c up content) (found_here l c (find (is_host_of f b) (lineage f p)) content (is_host_of f b (ancestor l c)) refl (above p up))

      by_count : (k : ℕ) → count_of f l ≡ k → ((p : ℕ) → parent_of f l ≡ Some p → Found (find (is_host_of f b) (lineage f p))) → Found (find (is_host_of f b) (lineage f l))
      by_count zero none above = nothing (find (is_host_of f b) (lineage f l)) (ap (find (is_host_of f b)) (lineage-none f l none))
      by_count (suc k) some above =
          let s = seen f l once (omega (arith, some)) in
          by_parent s.0.content (omega (arith, some)) (ap (option_map (λ (x : Seen Content). x.content)) s.2) (parent_of f l) refl above

  pub common_hosts : (a : ℕ) → common_host f a b ≡ Some h → is_host f h ≡ true
  unfolding common_host
  common_hosts a e = found_in (suc (depth_of f a)) a (omega arith) e

pair_host_is_host : (f : Forest Content) → IsDistinct f → (pair : Pair) (h : ℕ) → host_of_pair f pair ≡ Some h → is_host f h ≡ true
unfolding host_of_pair nodes.affected_host
pair_host_is_host f once pair h is =
    let a = (start_of f pair).label in
    let b = (end_of f pair).label in
    by_tests a b (takes_commands f a && takes_commands f b) is
  where
    by_tests : (a b : ℕ) (v : Bool) → cond v (common_host f a b) None ≡ Some h → is_host f h ≡ true
    by_tests a b true is = common_hosts f once b h a is
    by_tests a b false is = absurd (let t : None ≡ Some h = is in cc)

host_is_host : (s : State) → IsDistinct s.trees → (h : ℕ) → affected_host s ≡ Some h → is_host s.trees h ≡ true
unfolding affected_host
host_is_host s once h e = by_selection s.points.selection e
  where
    by_selection : (o : Option Pair) → option_and_then (host_of_pair s.trees) o ≡ Some h → is_host s.trees h ≡ true
    by_selection None is = absurd (let t : None ≡ Some h = is in cc)
    by_selection (Some pair) is = pair_host_is_host s.trees once pair h is

pub host_at_is_host : (at : Option Pair) (s : State) → IsDistinct s.trees → (h : ℕ) → host_at at s ≡ Some h → is_host s.trees h ≡ true
host_at_is_host None s once h e = host_is_host s once h e
host_at_is_host (Some pair) s once h e = pair_host_is_host s.trees once pair h e
