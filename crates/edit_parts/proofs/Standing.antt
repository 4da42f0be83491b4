-- The labels at which points stand: a list in which each stands once.
use Rattle.std.proofs.Common.{◌≡◌, ◌↔◌, ℕ, ◌+◌, ◌<◌, Bool, true, false, ◌||◌, ◌&&◌, List, [], ◌∷◌, ◌++◌, length, take, set, get_or, cond, nat_eq, eqb, refl, sym, ap, ◌∙◌, inl, inr, arith}
use Rattle.std.specs.List.{list_any}
use Rattle.std.proofs.lemmas.List.{take_more, take_more_set}
use Rattle.std.proofs.lemmas.List.Folds.{list_any-append}
use Rattle.std.proofs.lemmas.Bool.{le-ltb, ltb_from_iff}
use Rattle.std.proofs.lemmas.Bool.Decides.{eqb_tells}
use Rattle.edit_model.specs.DomModel.declared.Content.{Content}
use Rattle.edit_model.specs.DomModel.Forest.{Forest, count_of, preorder, tree_of, IsWithin}
use Rattle.edit_model.proofs.DomModel.Totals.{total-without}
use Rattle.edit_model.proofs.Points.{has_label-preorder}
use Rattle.indexmap.specs.IndexSet.{insert_key, insert_all}
use Rattle.edit_model.specs.LiveRange.PointsEdit.{has_label}
use Rattle.edit_model.specs.LiveRange.LivePoints.{LivePoints, labels_of, standing}

or_false : (b : Bool) → (b || false) ≡ b
or_false true = refl
or_false false = refl

or_assoc : (a b c : Bool) → ((a || b) || c) ≡ (a || (b || c))
or_assoc true b c = refl
or_assoc false b c = refl

absorbs : (a b : Bool) → (b ≡ true → a ≡ true) → a ≡ (a || b)
absorbs true b h = refl
absorbs false true h = h refl
absorbs false false h = refl

pub has_label-append : (xs ys : List ℕ) (l : ℕ) → has_label (xs ++ ys) l ≡ (has_label xs l || has_label ys l)
has_label-append xs ys l = list_any-append (λ x. nat_eq x l) xs ys

-- a listed label, by the other order of the test
listed : (ks : List ℕ) (x : ℕ) → list_any (nat_eq x) ks ≡ true → has_label ks x ≡ true
listed [] x h = absurd (cc)
listed (k ∷ ks) x h = elim (eqb_tells k x) [
  | inl (t, _) ↦ rw t refl
  | inr (t, off) ↦ rw t (elim (eqb_tells x k) [
    | inl (_, is) ↦ absurd (off (sym is))
    | inr (u, _) ↦ (let h' = rw u at h in listed ks x h')
  ])
]

insert_key-label : (ks : List ℕ) (x l : ℕ) → has_label (insert_key nat_eq ks x) l ≡ (has_label ks l || nat_eq x l)
insert_key-label ks x l = by (list_any (nat_eq x) ks) refl
  where
    by : (b : Bool) → list_any (nat_eq x) ks ≡ b → has_label (cond b ks (ks ++ x ∷ [])) l ≡ (has_label ks l || nat_eq x l)
    by true e = absorbs (has_label ks l) (nat_eq x l) (λ is. elim (eqb_tells x l) [
      | inl (_, same) ↦ (let t = listed ks x e in rw (← same) t)
      | inr (t, _) ↦ absurd (cc)
    ])
    by false e = has_label-append ks (x ∷ []) l ∙ ap (λ b. has_label ks l || b) (or_false (nat_eq x l))

insert_all-label : (ks xs : List ℕ) (l : ℕ) → has_label (insert_all nat_eq ks xs) l ≡ (has_label ks l || has_label xs l)
insert_all-label ks [] l = sym (or_false (has_label ks l))
insert_all-label ks (x ∷ xs) l =
    insert_all-label (insert_key nat_eq ks x) xs l
    ∙ (ap (λ b. b || has_label xs l) (insert_key-label ks x l) ∙ or_assoc (has_label ks l) (nat_eq x l) (has_label xs l))

pub standing-label : (points : LivePoints) (l : ℕ) → has_label (standing points) l ≡ has_label (labels_of points) l
standing-label points l = insert_all-label [] (labels_of points) l

-- ---- a list that is gone through

pub label_next : (xs : List ℕ) (k d l : ℕ) → k < length xs → has_label (take (k + 1) xs) l ≡ (has_label (take k xs) l || nat_eq (get_or xs k d) l)
label_next xs k d l h =
    ap (λ ys. has_label ys l) (take_more xs k d h)
    ∙ (has_label-append (take k xs) (get_or xs k d ∷ []) l ∙ ap (λ b. has_label (take k xs) l || b) (or_false (nat_eq (get_or xs k d) l)))

-- ---- the labels of a tree, among those at which points stand

pub tells_in : (a b p y : Bool) → a ≡ (b && p) → (y ≡ true → p ≡ true) → (a || y) ≡ ((b || y) && p)
tells_in a b p true e h = rw (h refl) (by a b)
  where
    by : (c d : Bool) → (c || true) ≡ ((d || true) && true)
    by true true = refl
    by true false = refl
    by false true = refl
    by false false = refl
tells_in a b p false e h = or_false a ∙ (e ∙ ap (λ d. d && p) (sym (or_false b)))

pub tells_out : (a b p y : Bool) → a ≡ (b && p) → (y ≡ true → p ≡ false) → a ≡ ((b || y) && p)
tells_out a b p true e h = rw (h refl) at_false
  where
    at_false : a ≡ ((b || true) && false)
    at_false = (let e' : a ≡ (b && false) = e ∙ ap (λ q. b && q) (h refl) in e' ∙ by b)
      where
        by : (c : Bool) → (c && false) ≡ ((c || true) && false)
        by true = refl
        by false = refl
tells_out a b p false e h = e ∙ ap (λ d. d && p) (sym (or_false b))

-- one more label is noted
pub label_noted : (labels : List ℕ) (count x l : ℕ) → count < length labels → has_label (take (count + 1) (set labels count x)) l ≡ (has_label (take count labels) l || nat_eq x l)
label_noted labels count x l h =
    ap (λ ys. has_label ys l) (take_more_set labels count x h)
    ∙ (has_label-append (take count labels) (x ∷ []) l ∙ ap (λ b. has_label (take count labels) l || b) (or_false (nat_eq x l)))

-- whether a label is in a tree
pub within_label : (f : Forest Content) (b : Bool) (top n l : ℕ) → n ≡ l → ((b ≡ true) ↔ IsWithin f top n) → has_label (preorder (tree_of f top)) l ≡ b
within_label f b top n l is both = (let both' = rw is at both in has_label-preorder (tree_of f top) l ∙ sym (ltb_from_iff both'))

pub absent_label : (f : Forest Content) (top l : ℕ) → count_of f l ≡ 0 → has_label (preorder (tree_of f top)) l ≡ false
absent_label f top l none = has_label-preorder (tree_of f top) l ∙ le-ltb 0 (count_of (tree_of f top) l) (omega (arith, total-without (λ m _. cond (eqb m l) 1 0) f top, none))

-- what is told of a label is told of each that equals it
pub label_is : (labels : List ℕ) (b : Bool) (x l : ℕ) → has_label labels x ≡ b → nat_eq x l ≡ true → has_label labels l ≡ b
label_is labels b x l e same = elim (eqb_tells x l) [
  | inl (_, is) ↦ (let e' = rw is at e in e')
  | inr (t, _) ↦ absurd (cc)
]
