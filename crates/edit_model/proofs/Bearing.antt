-- What the nodes of a forest bear, and that a keeping command loses no image and no rule.
use Rattle.std.proofs.Common.{◌≡◌, ℕ, Bool, true, ◌&&◌, List, [], ◌∷◌, ◌++◌, Option, Some, refl, sym, ap, subst, ◌∙◌, inl, inr}
use Rattle.std.specs.List.{filter}
use Rattle.std.proofs.lemmas.Bool.{and_parts, cases_Bool}
use Rattle.point_order.specs.DomModel.declared.Content.{Content}
use Rattle.point_order.specs.DomModel.Forest.{Forest, Seen}
use Rattle.point_order.specs.DomModel.Forest.Forest.{Nil, Tree}
use Rattle.point_order.proofs.DomModel.Stands.{Stands}
use Rattle.edit_model.specs.Kept.{borne_by, leaves, is_kept, kept_leaves, is_empty, has_no_kept_leaves}

empty_append : {A : Type 0} (p : A → Bool) (xs ys : List A) → is_empty (filter p (xs ++ ys)) ≡ (is_empty (filter p xs) && is_empty (filter p ys))
empty_append p [] ys = refl
empty_append p (x ∷ xs) ys = elim (cases_Bool (p x)) [
  | inl t ↦ rw t refl
  | inr t ↦ rw t (empty_append p xs ys)
]

-- a forest bears nothing where no node of it does
pub bears-Tree : (l : ℕ) (c : Content) (ks rest : Forest Content) → has_no_kept_leaves (Tree l c ks rest) ≡ (is_empty (filter is_kept (borne_by l c)) && (has_no_kept_leaves ks && has_no_kept_leaves rest))
unfolding has_no_kept_leaves kept_leaves leaves
bears-Tree l c ks rest = empty_append is_kept (borne_by l c) (leaves ks ++ leaves rest) ∙ ap (λ b. is_empty (filter is_kept (borne_by l c)) && b) (empty_append is_kept (leaves ks) (leaves rest))

-- so each node of it bears nothing
pub bears_each : (q : Option ℕ) (f : Forest Content) (l : ℕ) (s : Seen Content) → has_no_kept_leaves f ≡ true → Stands q f l s → is_empty (filter is_kept (borne_by l s.content)) ≡ true
bears_each q Nil l s none h = absurd h
bears_each q (Tree m c ks rest) l s none h =
    let parts = and_parts (is_empty (filter is_kept (borne_by m c))) (has_no_kept_leaves ks && has_no_kept_leaves rest) (sym (bears-Tree m c ks rest) ∙ none) in
    let deeper = and_parts (has_no_kept_leaves ks) (has_no_kept_leaves rest) parts.1 in
    elim h [
      | inl (at, e) ↦ (
          let same : s.content ≡ c = ap (λ (x : Seen Content). x.content) e in
          subst (λ k. is_empty (filter is_kept (borne_by k s.content)) ≡ true) at (subst (λ d. is_empty (filter is_kept (borne_by m d)) ≡ true) (sym same) parts.0))
      | inr (inl k) ↦ bears_each (Some m) ks l s deeper.0 k
      | inr (inr k) ↦ bears_each q rest l s deeper.1 k
    ]
