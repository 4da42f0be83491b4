-- What a forest bears is what it bears outside a node, with what the node's children bear in one place of it.
use Rattle.std.proofs.Common.{◌≡◌, ℕ, ◌<◌, List, [], ◌++◌, refl, sym, ap, ◌∙◌}
use Rattle.std.specs.List.{filter}
use Rattle.std.proofs.lemmas.List.{append_cancel_left, append_cancel_right}
use Rattle.std.proofs.lemmas.List.Elements.{filter-append}
use Rattle.edit_model.specs.DomModel.declared.Content.{Content}
use Rattle.edit_model.specs.DomModel.Forest.{Forest, count_of, IsDistinct}
use Rattle.edit_model.specs.DomModel.Forest.Forest.{Nil, Tree}
use Rattle.edit_model.specs.Kept.{Leaf, borne_by, leaves, is_kept, kept_leaves}
use Rattle.edit_model.specs.Outside.{hollowed}
use Rattle.edit_laws.specs.Order.{KeepsLeaves}
use Rattle.edit_laws.specs.BelowHost.{below}
use Rattle.edit_laws.proofs.Leaves.{leaves-Nil, leaves-Tree}
use Rattle.edit_laws.proofs.Cancelling.{cancel_front, cancel_back}
use Rattle.edit_laws.proofs.HostParts.{told, lead, trail, parts, parts_again}

-- a node bears nothing after its children
nothing : ℕ → Content → List Leaf
nothing m c = []

leaves_told : (f : Forest Content) → leaves f ≡ told borne_by nothing f
unfolding nothing
leaves_told Nil = leaves-Nil
leaves_told (Tree m c ks rest) = leaves-Tree m c ks rest ∙ rw (leaves_told ks, leaves_told rest) refl

-- what is borne in three parts
borne : (f : Forest Content) (h : ℕ) (front end : List Leaf) → told borne_by nothing f ≡ front ++ (told borne_by nothing (below f h) ++ end) → leaves f ≡ front ++ (leaves (below f h) ++ end)
borne f h front end e = leaves_told f ∙ (e ∙ ap (λ ys. front ++ (ys ++ end)) (sym (leaves_told (below f h))))

kept_parts : (f : Forest Content) (front ys end : List Leaf) → leaves f ≡ front ++ (ys ++ end) → filter is_kept (leaves f) ≡ filter is_kept front ++ (filter is_kept ys ++ filter is_kept end)
kept_parts f front ys end e =
    ap (filter is_kept) e
    ∙ (filter-append is_kept front (ys ++ end) ∙ ap (λ r. filter is_kept front ++ r) (filter-append is_kept ys end))

-- where the same lies outside, the order is kept below where it is kept in the whole
pub keeps_below : (h : ℕ) (f g : Forest Content) → IsDistinct f → IsDistinct g → 0 < count_of f h → 0 < count_of g h → hollowed g h ≡ hollowed f h → KeepsLeaves f g → KeepsLeaves (below f h) (below g h)
unfolding kept_leaves
keeps_below h f g once_f once_g in_f in_g same k =
    let front = lead borne_by nothing h f in
    let end = trail borne_by nothing h f in
    let of_f = borne f h front end (parts borne_by nothing h f once_f in_f) in
    let of_g = borne g h front end (parts_again borne_by nothing h f g once_f once_g in_f in_g same) in
    record {
      in_order = cancel_back (leaves (below g h)) (leaves (below f h)) end (cancel_front front (rw (← of_g, ← of_f) k.in_order));
      whole =
          append_cancel_right (filter is_kept (leaves (below g h))) (filter is_kept (leaves (below f h))) (filter is_kept end)
          (append_cancel_left (filter is_kept front) (filter is_kept (leaves (below g h)) ++ filter is_kept end) (filter is_kept (leaves (below f h)) ++ filter is_kept end)
          (sym (kept_parts g front (leaves (below g h)) end of_g) ∙ (k.whole ∙ kept_parts f front (leaves (below f h)) end of_f)));
    }
