-- What a node tells by its tree, and what it tells where another one comes to stand elsewhere.
use Rattle.std.proofs.Common.{◌≡◌, ◌≢◌, ℕ, zero, suc, ◌<◌, Bool, true, false, ◌||◌, cond, eqb, [], Option, Some, None, refl, sym, ap, subst, ◌∙◌, inl, inr, arith}
use Rattle.std.specs.Option.{option_map, option_map_or, option_and_then}
use Rattle.std.proofs.lemmas.Bool.{or_cases, ne_eqb}
use Rattle.std.proofs.lemmas.Bool.Decides.{eqb_tells}
use Rattle.edit_model.specs.DomModel.declared.Content.{Content}
use Rattle.edit_model.specs.DomModel.Forest.{Forest, Seen, seek, is_label, tops, count_of, tree_of, parent_of, children_of, content_of, relinked, unlinked, link, unlink, IsDistinct, IsWithin, CanPut, depth_of}
use Rattle.edit_model.specs.DomModel.Forest.Forest.{Nil, Tree}
use Rattle.edit_model.proofs.DomModel.Links.{seek-link, seek-unlink, tree_is}
use Rattle.edit_model.proofs.DomModel.Stands.{Stands, Stands-tree_of, seek_Stands}
use Rattle.edit_model.proofs.DomModel.Within.{within_parent, depth_of-parent}
use Rattle.edit_model.proofs.DomModel.Move.{parent_apart}
use Rattle.edit_model.proofs.DomModel.Totals.{total-without}
use Rattle.edit_model.specs.State.{State}
use Rattle.edit_model.specs.Confined.{is_editable_for, is_inside, is_made, is_open}
use Rattle.edit_model.specs.Valid.{IsValid}
use Rattle.edit_model.proofs.Tests.{label_is}
use Rattle.edit_model.proofs.Trees.{tree_of-inside, within_trans}
use Rattle.edit_laws.proofs.Hosts.{parent_inside}

pub either_true : (a b : Bool) → b ≡ true → (a || b) ≡ true
either_true true b h = refl
either_true false b h = h

pub made_open : (u : State) (l : ℕ) → is_made u l ≡ true → is_open u l ≡ true
unfolding is_open
made_open u l h = either_true (is_inside u l) (is_made u l) h

pub inside_open : (u : State) (l : ℕ) → is_inside u l ≡ true → is_open u l ≡ true
unfolding is_open
inside_open u l h = rw h refl

pub editable_open : (u : State) (l : ℕ) → is_editable_for u l ≡ true → is_open u l ≡ true
unfolding is_open is_inside
editable_open u l h = rw h (true_last (is_label u.host l) (is_made u l))
  where
    true_last : (a c : Bool) → ((a || true) || c) ≡ true
    true_last true c = refl
    true_last false c = refl

-- ---- by its tree

-- the label at the root of a tree tells what the tree has at its top
pub root_seen : (f : Forest Content) (l : ℕ) (c : Content) (ks : Forest Content) → IsDistinct f → tree_of f l ≡ Tree l c ks Nil → (content_of f l ≡ Some c) × (children_of f l ≡ tops ks)
root_seen f l c ks once is =
    let s : Seen Content = record { parent = None; content = c; children = tops ks } in
    let st : Stands None (tree_of f l) l s = subst (λ g. Stands None g l s) (sym is) (inl (refl, refl)) in
    elim (Stands-tree_of None None f l l s (once l) st) [
      | inl (_, o, k, e) ↦ (
        ap (option_map (λ (x : Seen Content). x.content)) (seek_Stands None f l o (once l) k) ∙ ap (λ (x : Seen Content). Some x.content) (sym e),
        ap (λ (w : Option (Seen Content)). option_map_or (λ (x : Seen Content). x.children) w []) (seek_Stands None f l o (once l) k) ∙ ap (λ (x : Seen Content). x.children) (sym e),
      )
      | inr (off, _) ↦ absurd (off refl)
    ]

-- so nodes with one tree tell the same
pub same_seen : (f g : Forest Content) (l : ℕ) → IsDistinct f → IsDistinct g → 0 < count_of f l → tree_of g l ≡ tree_of f l → (content_of g l ≡ content_of f l) × (children_of g l ≡ children_of f l)
same_seen f g l once once' known same =
    let t = tree_is f l (omega (arith, once l, known)) in
    let a = root_seen f l t.0 t.1 once t.2 in
    let b = root_seen g l t.0 t.1 once' (same ∙ t.2) in
    (b.0 ∙ sym a.0, b.1 ∙ sym a.1)

-- and so does each node in them
pub same_inside : (f g : Forest Content) (l x : ℕ) → IsDistinct f → IsDistinct g → tree_of g l ≡ tree_of f l → IsWithin f l x → tree_of g x ≡ tree_of f x
same_inside f g l x once once' same inside =
    sym (tree_of-inside g l x once' (subst (λ t. 0 < count_of t x) (sym same) inside)) ∙ (ap (λ t. tree_of t x) same ∙ tree_of-inside f l x once inside)

-- ---- parents of others

pub parent-link_other : (f : Forest Content) (p : ℕ) (b : Option ℕ) (n l : ℕ) → IsDistinct f → CanPut f p b n → n ≢ l → parent_of (link f p b n) l ≡ parent_of f l
parent-link_other f p b n l once can off = ap (option_and_then (λ (s : Seen Content). s.parent)) (seek-link f p b n once can l) ∙ by_seen (seek None f l)
  where
    by_seen : (o : Option (Seen Content)) → option_and_then (λ (s : Seen Content). s.parent) (option_map (relinked p b n l) o) ≡ option_and_then (λ (s : Seen Content). s.parent) o
    by_seen None = refl
    by_seen (Some s) = let t : eqb n l ≡ false = ne_eqb n l off in rw t refl

pub parent-unlink_other : (f : Forest Content) (o n l : ℕ) → IsDistinct f → parent_of f n ≡ Some o → n ≢ l → parent_of (unlink f n) l ≡ parent_of f l
parent-unlink_other f o n l once child off = ap (option_and_then (λ (s : Seen Content). s.parent)) (seek-unlink f o n once child l) ∙ by_seen (seek None f l)
  where
    by_seen : (q : Option (Seen Content)) → option_and_then (λ (s : Seen Content). s.parent) (option_map (unlinked o n l) q) ≡ option_and_then (λ (s : Seen Content). s.parent) q
    by_seen None = refl
    by_seen (Some s) = let t : eqb n l ≡ false = ne_eqb n l off in rw t refl

-- ---- what stands between an editable node and one above it

-- two nodes within each other are one
pub within_both : (f : Forest Content) (a b : ℕ) → IsDistinct f → IsWithin f a b → IsWithin f b a → a ≡ b
within_both f a b once down up = elim (eqb_tells a b) [
  | inl (_, e) ↦ e
  | inr (_, off) ↦ absurd (
      let known : 0 < count_of f a = omega (arith, up, total-without (λ m _. cond (eqb m a) 1 0) f b) in
      let w = within_parent f a once known b off down in
      parent_apart f b w.0 once w.1 (within_trans f b a w.0 once up w.2))
]

module _ (s : State) (is : IsValid s) (h : ℕ) (host : s.host ≡ Some h) (y : ℕ) (below : IsWithin s.trees h y) (off_host : y ≢ h) where
  once_y : IsDistinct s.trees
  once_y = is.forest.distinct

  editable_step : (x : ℕ) → ((p : ℕ) → parent_of s.trees x ≡ Some p → IsWithin s.trees y p → is_editable_for s p ≡ true → is_editable_for s y ≡ true) → IsWithin s.trees y x → is_editable_for s x ≡ true → is_editable_for s y ≡ true
  unfolding is_inside
  editable_step x above inside editable = elim (eqb_tells y x) [
    | inl (_, e) ↦ subst (λ k. is_editable_for s k ≡ true) (sym e) editable
    | inr (_, off) ↦ (
        let known : 0 < count_of s.trees y = omega (arith, below, total-without (λ m _. cond (eqb m y) 1 0) s.trees h) in
        let w = within_parent s.trees y once_y known x off inside in
        elim (or_cases (is_label s.host w.0) (is_editable_for s w.0) (parent_inside s is x w.0 w.1 editable)) [
          | inl at ↦ absurd (
              let same : h ≡ w.0 = (let e : Some h ≡ Some w.0 = sym host ∙ label_is s.host w.0 at in cc) in
              off_host (within_both s.trees y h once_y (subst (λ k. IsWithin s.trees y k) (sym same) w.2) below))
          | inr next ↦ above w.0 w.1 w.2 next
        ])
  ]

  editable_at : (n x : ℕ) → depth_of s.trees x ≡ n → IsWithin s.trees y x → is_editable_for s x ≡ true → is_editable_for s y ≡ true
  editable_at zero x deep inside editable = editable_step x (λ p e _ _. absurd (let more = depth_of-parent s.trees x p once_y e in omega (arith, deep, more))) inside editable
  editable_at (suc n) x deep inside editable = editable_step x (λ p e k v. editable_at n p (let more = depth_of-parent s.trees x p once_y e in omega (arith, deep, more)) k v) inside editable

  -- a node below the host is editable where it stands above an editable one
  pub editable_above : (x : ℕ) → IsWithin s.trees y x → is_editable_for s x ≡ true → is_editable_for s y ≡ true
  editable_above x inside editable = editable_at (depth_of s.trees x) x refl inside editable
