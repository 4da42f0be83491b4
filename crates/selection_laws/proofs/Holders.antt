-- The affected host holds both ends of a selection: it is among each one's node and its ancestors.
use Rattle.std.proofs.Common.{◌≡◌, ℕ, zero, suc, ◌<◌, Bool, true, false, cond, ◌&&◌, eqb, List, [], ◌∷◌, Option, Some, None, IfSome, refl, sym, ap, subst, ◌∙◌, inl, inr, arith, true≢false}
use Rattle.std.specs.Prelude.{if◌then◌else◌}
use Rattle.std.specs.List.{find, list_any}
use Rattle.std.specs.Option.{option_map, option_and_then, unwrap_or}
use Rattle.std.proofs.lemmas.Bool.{and_parts, or_cases, eqb-true}
use Rattle.edit_model.specs.DomModel.declared.Content.{Content}
use Rattle.edit_model.specs.DomModel.Editing.{is_true_state}
use Rattle.edit_model.specs.DomModel.Forest.{Forest, Seen, count_of, IsDistinct, IsWithin, parent_of, content_of, depth_of}
use Rattle.edit_model.proofs.DomModel.Links.{seen}
use Rattle.edit_model.proofs.DomModel.Within.{within_self, within_child, depth_of-parent}
use Rattle.edit_model.specs.LiveRange.declared.places.Pair.{Pair}
use Rattle.edit_model.specs.PointOrder.PointOrder.{is_before}
use Rattle.inline_value.specs.NodeStyles.Lineage.{Ancestor, lineage}
use Rattle.inline_value.proofs.NodeStyles.Lineages.{ancestor, lineage_absent, lineage-root, lineage-child}
use Rattle.inline_value.specs.NodeTests.AffectedHost as nodes
use Rattle.inline_value.specs.NodeTests.AffectedHost.{is_host_of, common_host, takes_commands}
use Rattle.edit_model.specs.State.{State}
use Rattle.edit_model.proofs.TailOutside.{root_there}
use Rattle.edit_laws.specs.InHost.{IsPairWithin}
use Rattle.inline_value.specs.EditActions.ActiveRange.{start_of, end_of, host_of_pair, affected_host}

lineage-none : (f : Forest Content) (l : ℕ) → count_of f l ≡ 0 → lineage f l ≡ []
unfolding lineage
lineage-none f l none = ap (λ o. unwrap_or o []) (lineage_absent [] f l none)

module _ (f : Forest Content) (once : IsDistinct f) (h : ℕ) where
  abbrev Named : List Ancestor → Type 0
  Named ks = list_any (λ j. eqb j.label h) ks ≡ true

  at_self : (l : ℕ) → 0 < count_of f l → l ≡ h → IsWithin f h l
  at_self l here e = subst (λ k. IsWithin f k l) e (within_self f l once here)

  below_parent : (l p : ℕ) → parent_of f l ≡ Some p → IsWithin f h p → IsWithin f h l
  below_parent l p up inside = within_child f h once (root_there f h p inside) l p up inside

  -- where it is in the lineage of a node, it holds the node
  named_holds : (n l : ℕ) → depth_of f l < n → Named (lineage f l) → IsWithin f h l
  named_holds zero l low named = absurd (omega (arith, low))
  named_holds (suc n) l low named = by_count (count_of f l) refl (λ p e more. named_holds n p (omega (arith, low, depth_of-parent f l p once e)) more) named
    where
      by_parent : (c : Content) → 0 < count_of f l → content_of f l ≡ Some c → (o : Option ℕ) → parent_of f l ≡ o → ((p : ℕ) → parent_of f l ≡ Some p → Named (lineage f p) → IsWithin f h p) → Named (lineage f l) → IsWithin f h l
      by_parent c here content None root above named =
          let named' : Named (ancestor l c ∷ []) = subst Named (lineage-root f once l c here root content) named in
          elim (or_cases (eqb l h) false named') [
            | inl same ↦ at_self l here (eqb-true l h same)
            | inr off ↦ absurd (true≢false (sym off))
          ]
      by_parent c here content (Some p) up above named =
          let named' : Named (ancestor l c ∷ lineage f p) = subst Named (lineage-child f once l p c up content) named in
          elim (or_cases (eqb l h) (list_any (λ j. eqb j.label h) (lineage f p)) named') [
            | inl same ↦ at_self l here (eqb-true l h same)
            | inr more ↦ below_parent l p up (above p up more)
          ]

      by_count : (k : ℕ) → count_of f l ≡ k → ((p : ℕ) → parent_of f l ≡ Some p → Named (lineage f p) → IsWithin f h p) → Named (lineage f l) → IsWithin f h l
      by_count zero none above named = absurd (true≢false (sym named ∙ ap (list_any (λ j. eqb j.label h)) (lineage-none f l none)))
      by_count (suc k) some above named =
          let s = seen f l once (omega (arith, some)) in
          by_parent s.0.content (omega (arith, some)) (ap (option_map (λ (x : Seen Content). x.content)) s.2) (parent_of f l) refl above named

  module _ (b : ℕ) where
    abbrev Holding : ℕ → Option Ancestor → Type 0
    Holding l o = option_map (λ k. k.label) o ≡ Some h → IsWithin f h l × Named (lineage f b)

    holding_here : (l : ℕ) (c : Content) (rest : Option Ancestor) → 0 < count_of f l → (v : Bool) → is_host_of f b (ancestor l c) ≡ v → Holding l rest → Holding l (cond v (Some (ancestor l c)) rest)
    holding_here l c rest here true passes above e =
        let same : l ≡ h = (let t : Some l ≡ Some h = e in cc) in
        (at_self l here same, subst (λ k. list_any (λ j. eqb j.label k) (lineage f b) ≡ true) same (and_parts (is_true_state c) _ passes).1)
    holding_here l c rest here false passes above e = above e

    holding_in : (n l : ℕ) → depth_of f l < n → Holding l (find (is_host_of f b) (lineage f l))
    holding_in zero l low = absurd (omega (arith, low))
    holding_in (suc n) l low = by_count (count_of f l) refl (λ p e. holding_in n p (omega (arith, low, depth_of-parent f l p once e)))
      where
        nothing : (o : Option Ancestor) → o ≡ None → Holding l o
        nothing o is e = absurd (let t : None ≡ Some h = ap (option_map (λ k. k.label)) (sym is) ∙ e in cc)

        by_parent : (c : Content) → 0 < count_of f l → content_of f l ≡ Some c → (o : Option ℕ) → parent_of f l ≡ o → ((p : ℕ) → parent_of f l ≡ Some p → Holding p (find (is_host_of f b) (lineage f p))) → Holding l (find (is_host_of f b) (lineage f l))
        by_parent c here content None root above =
            rw (lineage-root f once l c here root content) (holding_here l c None here (is_host_of f b (ancestor l c)) refl (nothing None refl))
        by_parent c here content (Some p) up above =
            rw (lineage-child f once l p c up content)
            (holding_here l c (find (is_host_of f b) (lineage f p)) here (is_host_of f b (ancestor l c)) refl (λ e. (let k = above p up e in (below_parent l p up k.0, k.1))))

        by_count : (k : ℕ) → count_of f l ≡ k → ((p : ℕ) → parent_of f l ≡ Some p → Holding p (find (is_host_of f b) (lineage f p))) → Holding l (find (is_host_of f b) (lineage f l))
        by_count zero none above = nothing (find (is_host_of f b) (lineage f l)) (ap (find (is_host_of f b)) (lineage-none f l none))
        by_count (suc k) some above =
            let s = seen f l once (omega (arith, some)) in
            by_parent s.0.content (omega (arith, some)) (ap (option_map (λ (x : Seen Content). x.content)) s.2) (parent_of f l) refl above

    common_holds : (a : ℕ) → common_host f a b ≡ Some h → IsWithin f h a × IsWithin f h b
    unfolding common_host
    common_holds a e = let k = holding_in (suc (depth_of f a)) a (omega arith) e in (k.0, named_holds (suc (depth_of f b)) b (omega arith) k.1)

  pub pair_host_holds : (pair : Pair) → host_of_pair f pair ≡ Some h → IsPairWithin f h pair
  unfolding host_of_pair nodes.affected_host
  pair_host_holds pair is =
      by_order (is_before f pair.focus pair.anchor) (by_tests (start_of f pair).label (end_of f pair).label (takes_commands f (start_of f pair).label && takes_commands f (end_of f pair).label) is)
    where
      by_tests : (a b : ℕ) (v : Bool) → cond v (common_host f a b) None ≡ Some h → IsWithin f h a × IsWithin f h b
      by_tests a b true is = common_holds b a is
      by_tests a b false is = absurd (let t : None ≡ Some h = is in cc)

      by_order : (v : Bool) → IsWithin f h (if v then pair.focus else pair.anchor).label × IsWithin f h (if v then pair.anchor else pair.focus).label → IsPairWithin f h pair
      by_order true k = (k.1, k.0)
      by_order false k = k

pub host_holds : (s : State) → IsDistinct s.trees → (h : ℕ) → affected_host s ≡ Some h → IfSome s.points.selection (IsPairWithin s.trees h)
unfolding affected_host
host_holds s once h e = by_selection s.points.selection e
  where
    by_selection : (o : Option Pair) → option_and_then (host_of_pair s.trees) o ≡ Some h → IfSome o (IsPairWithin s.trees h)
    by_selection None is = tt
    by_selection (Some pair) is = pair_host_holds s.trees once h pair is
