-- A forest with nodes that were made, by rising labels above all others: changes that fit without them fit with them.
use Rattle.std.proofs.Common.{◌≡◌, ℕ, ◌+◌, ◌≤◌, List, [], ◌∷◌, ◌++◌, refl, ap, ◌∙◌, arith}
use Rattle.edit_model.specs.DomModel.declared.Content.{Content}
use Rattle.edit_model.specs.DomModel.Forest.{Forest, with_leaf}
use Rattle.inline_value.specs.UndoLog.Turning.{forth, FitsForth}
use Rattle.inline_value.specs.ForestChanges.Change.{Change, IsForest, Fits, applied}
use Rattle.inline_value.specs.ForestChanges.Leaves.{IsBelow, IsMade}
use Rattle.inline_value.specs.ForestChanges.Named.{Each}
use Rattle.inline_value.proofs.ForestChanges.ManyLeaves.{has_made, forth_beside}
use Rattle.inline_value.specs.EditDoc.Onward.{with_made, RiseFrom, next_past}

-- ---- lists

pub fits_join : (xs ys : List Change) (f : Forest Content) → FitsForth applied Fits xs f → FitsForth applied Fits ys (forth applied xs f) → FitsForth applied Fits (xs ++ ys) f
unfolding forth FitsForth
fits_join [] ys f h k = k
fits_join (x ∷ xs) ys f h k = (h.0, fits_join xs ys (applied x f) h.1 k)

pub forth_join : (xs ys : List Change) (f : Forest Content) → forth applied (xs ++ ys) f ≡ forth applied ys (forth applied xs f)
unfolding forth
forth_join [] ys f = refl
forth_join (x ∷ xs) ys f = forth_join xs ys (applied x f)

pub with_made-join : (ms ns : List (ℕ × Content)) (f : Forest Content) → with_made f (ms ++ ns) ≡ with_made (with_made f ms) ns
with_made-join [] ns f = refl
with_made-join (m ∷ ms) ns f = with_made-join ms ns (with_leaf f m.0 m.1)

pub rise_join : (ms ns : List (ℕ × Content)) (next : ℕ) → RiseFrom next ms → RiseFrom (next_past next ms) ns → RiseFrom next (ms ++ ns)
rise_join [] ns next h k = k
rise_join (m ∷ ms) ns next h k = (h.0, rise_join ms ns (m.0 + 1) h.1 k)

pub past_join : (ms ns : List (ℕ × Content)) (next : ℕ) → next_past next (ms ++ ns) ≡ next_past (next_past next ms) ns
past_join [] ns next = refl
past_join (m ∷ ms) ns next = past_join ms ns (m.0 + 1)

-- ---- the forest

pub record HasNodes (ns : List (ℕ × Content)) (f : Forest Content) (next : ℕ) : Type 0 where
  pub forest : IsForest (with_made f ns)
  pub below : IsBelow (with_made f ns) (next_past next ns)

pub record OneMade (l : ℕ) (c : Content) (f : Forest Content) : Type 0 where
  pub own : IsBelow f l
  pub forest : IsForest (with_leaf f l c)
  pub below : IsBelow (with_leaf f l c) (l + 1)

pub one_made : (l : ℕ) (c : Content) (f : Forest Content) (next : ℕ) → IsForest f → IsBelow f next → next ≤ l → IsMade c → OneMade l c f
one_made l c f next is low from made =
    let own : IsBelow f l = record { below = λ m k. (let b = low.below m k in omega (arith, b, from)) } in
    let h = has_made l (c ∷ []) f is own (made, tt) in
    record { own = own; forest = h.forest; below = record { below = λ m k. (let b = h.below.below m k in omega (arith, b)) } }

pub has_nodes : (ns : List (ℕ × Content)) (f : Forest Content) (next : ℕ) → IsForest f → IsBelow f next → RiseFrom next ns → Each (λ (n : ℕ × Content). IsMade n.1) ns → HasNodes ns f next
has_nodes [] f next is low rise made = record { forest = is; below = low }
has_nodes (n ∷ ns) f next is low rise made =
    let o = one_made n.0 n.1 f next is low rise.0 made.0 in
    let r = has_nodes ns (with_leaf f n.0 n.1) (n.0 + 1) o.forest o.below rise.1 made.1 in
    record { forest = r.forest; below = r.below }

-- ---- changes

pub record FitBeside (ns : List (ℕ × Content)) (xs : List Change) (f : Forest Content) : Type 0 where
  pub fits : FitsForth applied Fits xs (with_made f ns)
  pub same : forth applied xs (with_made f ns) ≡ with_made (forth applied xs f) ns

pub fit_beside : (ns : List (ℕ × Content)) (xs : List Change) (f : Forest Content) (next : ℕ) → IsForest f → IsBelow f next → RiseFrom next ns → Each (λ (n : ℕ × Content). IsMade n.1) ns → FitsForth applied Fits xs f → FitBeside ns xs f
fit_beside [] xs f next is low rise made h = record { fits = h; same = refl }
fit_beside (n ∷ ns) xs f next is low rise made h =
    let o = one_made n.0 n.1 f next is low rise.0 made.0 in
    let one = forth_beside n.0 (n.1 ∷ []) xs f o.own (made.0, tt) h in
    let r = fit_beside ns xs (with_leaf f n.0 n.1) (n.0 + 1) o.forest o.below rise.1 made.1 one.fits in
    record { fits = r.fits; same = r.same ∙ ap (λ (g : Forest Content). with_made g ns) one.same }
