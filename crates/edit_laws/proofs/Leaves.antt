-- What a forest bears under each change of its trees.
use Rattle.std.proofs.Common.{◌≡◌, ℕ, Bool, true, false, ◌&&◌, cond, eqb, List, [], ◌∷◌, ◌++◌, Option, refl, sym, ap, ◌∙◌, append_assoc}
use Rattle.std.specs.List.{filter}
use Rattle.std.proofs.lemmas.Bool.{and_parts}
use Rattle.std.proofs.lemmas.List.Elements.{filter-append}
use Rattle.edit_model.specs.DomModel.declared.Content.{Content}
use Rattle.edit_model.specs.DomModel.Forest.{Forest, is_label, join, tree_of, without, put_before, put_under}
use Rattle.edit_model.specs.DomModel.Forest.Forest.{Nil, Tree}
use Rattle.edit_model.specs.DomModel.Revised.{revised}
use Rattle.edit_model.specs.Kept.{borne_by, leaves, is_kept, kept_leaves, is_empty, has_no_kept_leaves}
use Rattle.edit_model.proofs.Bearing.{bears-Tree}
use Rattle.edit_laws.specs.Order.{Subsequence}
use Rattle.edit_laws.proofs.Subsequences.{subsequence_refl, subsequence_append, subsequence_nothing}

pub leaves-Nil : leaves Nil ≡ []
unfolding leaves
leaves-Nil = refl

pub leaves-Tree : (m : ℕ) (c : Content) (ks rest : Forest Content) → leaves (Tree m c ks rest) ≡ borne_by m c ++ (leaves ks ++ leaves rest)
unfolding leaves
leaves-Tree m c ks rest = refl

pub leaves-join : (f g : Forest Content) → leaves (join f g) ≡ leaves f ++ leaves g
leaves-join Nil g = rw leaves-Nil refl
leaves-join (Tree m c ks rest) g = leaves-Tree m c ks (join rest g) ∙ (rw (leaves-join rest g) (simp append_assoc) ∙ ap (λ x. x ++ leaves g) (sym (leaves-Tree m c ks rest)))

-- ---- a tree taken out

pub ordered-without : (f : Forest Content) (n : ℕ) → Subsequence (leaves (without f n)) (leaves f)
ordered-without Nil n = subsequence_refl (leaves Nil)
ordered-without (Tree m c ks rest) n = by_label (ordered-without ks n) (ordered-without rest n) (eqb m n)
  where
    by_label : Subsequence (leaves (without ks n)) (leaves ks) → Subsequence (leaves (without rest n)) (leaves rest) → (v : Bool) → Subsequence (leaves (cond v rest (Tree m c (without ks n) (without rest n)))) (leaves (Tree m c ks rest))
    by_label kids others true = rw (leaves-Tree m c ks rest, ← (append_assoc (borne_by m c) (leaves ks) (leaves rest))) (subsequence_append (subsequence_nothing (borne_by m c ++ leaves ks)) (subsequence_refl (leaves rest)))
    by_label kids others false =
        rw (leaves-Tree m c ks rest, leaves-Tree m c (without ks n) (without rest n))
        (subsequence_append (subsequence_refl (borne_by m c)) (subsequence_append kids others))

pub kept-Tree : (m : ℕ) (c : Content) (ks rest : Forest Content) → kept_leaves (Tree m c ks rest) ≡ filter is_kept (borne_by m c) ++ (kept_leaves ks ++ kept_leaves rest)
unfolding kept_leaves leaves
kept-Tree m c ks rest =
    filter-append is_kept (borne_by m c) (leaves ks ++ leaves rest)
    ∙ ap (λ x. filter is_kept (borne_by m c) ++ x) (filter-append is_kept (leaves ks) (leaves rest))

pub nothing_is : {A : Type 0} (xs : List A) → is_empty xs ≡ true → xs ≡ []
nothing_is [] h = refl
nothing_is (x ∷ xs) h = absurd (let h' = h in cc)

pub none_kept : (f : Forest Content) → has_no_kept_leaves f ≡ true → kept_leaves f ≡ []
unfolding has_no_kept_leaves
none_kept f h = nothing_is (kept_leaves f) h

bears-Nil : has_no_kept_leaves Nil ≡ true
unfolding has_no_kept_leaves kept_leaves leaves
bears-Nil = refl

pub bears-join : (f g : Forest Content) → has_no_kept_leaves (join f g) ≡ (has_no_kept_leaves f && has_no_kept_leaves g)
bears-join Nil g = rw bears-Nil refl
bears-join (Tree m c ks rest) g =
    bears-Tree m c ks (join rest g)
    ∙ (ap (λ b. is_empty (filter is_kept (borne_by m c)) && (has_no_kept_leaves ks && b)) (bears-join rest g)
    ∙ (by (is_empty (filter is_kept (borne_by m c))) (has_no_kept_leaves ks) ∙ ap (λ b. b && has_no_kept_leaves g) (sym (bears-Tree m c ks rest))))
  where
    by : (a b : Bool) → (a && (b && (has_no_kept_leaves rest && has_no_kept_leaves g))) ≡ ((a && (b && has_no_kept_leaves rest)) && has_no_kept_leaves g)
    by true true = refl
    by true false = refl
    by false b = refl

pub kept-without : (f : Forest Content) (n : ℕ) → has_no_kept_leaves (tree_of f n) ≡ true → kept_leaves (without f n) ≡ kept_leaves f
kept-without Nil n h = refl
kept-without (Tree m c ks rest) n h = by_label (kept-without ks n) (kept-without rest n) (eqb m n) h
  where
    by_label : (has_no_kept_leaves (tree_of ks n) ≡ true → kept_leaves (without ks n) ≡ kept_leaves ks) → (has_no_kept_leaves (tree_of rest n) ≡ true → kept_leaves (without rest n) ≡ kept_leaves rest) → (v : Bool) → has_no_kept_leaves (cond v (Tree m c ks Nil) (join (tree_of ks n) (tree_of rest n))) ≡ true → kept_leaves (cond v rest (Tree m c (without ks n) (without rest n))) ≡ kept_leaves (Tree m c ks rest)
    by_label kids others true k =
        let parts = and_parts (is_empty (filter is_kept (borne_by m c))) _ (sym (bears-Tree m c ks Nil) ∙ k) in
        let deeper = and_parts (has_no_kept_leaves ks) (has_no_kept_leaves Nil) parts.1 in
        sym (kept-Tree m c ks rest ∙ rw (nothing_is (filter is_kept (borne_by m c)) parts.0, none_kept ks deeper.0) refl)
    by_label kids others false k =
        let parts = and_parts (has_no_kept_leaves (tree_of ks n)) (has_no_kept_leaves (tree_of rest n)) (sym (bears-join (tree_of ks n) (tree_of rest n)) ∙ k) in
        kept-Tree m c (without ks n) (without rest n)
        ∙ (rw (kids parts.0, others parts.1) refl ∙ sym (kept-Tree m c ks rest))

-- ---- a tree that bears nothing put in

leaves-put_before : (f : Forest Content) (b : Option ℕ) (t : Forest Content) → leaves t ≡ [] → leaves (put_before f b t) ≡ leaves f
leaves-put_before Nil b t none = none ∙ sym leaves-Nil
leaves-put_before (Tree m c ks rest) b t none = by_label (leaves-put_before rest b t none) (is_label b m)
  where
    by_label : leaves (put_before rest b t) ≡ leaves rest → (v : Bool) → leaves (cond v (join t (Tree m c ks rest)) (Tree m c ks (put_before rest b t))) ≡ leaves (Tree m c ks rest)
    by_label others true = leaves-join t (Tree m c ks rest) ∙ rw none refl
    by_label others false = leaves-Tree m c ks (put_before rest b t) ∙ (rw others refl ∙ sym (leaves-Tree m c ks rest))

pub leaves-put_under : (f : Forest Content) (p : ℕ) (b : Option ℕ) (t : Forest Content) → leaves t ≡ [] → leaves (put_under f p b t) ≡ leaves f
leaves-put_under Nil p b t none = refl
leaves-put_under (Tree m c ks rest) p b t none = by_label (leaves-put_before ks b t none) (leaves-put_under ks p b t none) (leaves-put_under rest p b t none) (eqb m p)
  where
    by_label : leaves (put_before ks b t) ≡ leaves ks → leaves (put_under ks p b t) ≡ leaves ks → leaves (put_under rest p b t) ≡ leaves rest → (v : Bool) → leaves (cond v (Tree m c (put_before ks b t) rest) (Tree m c (put_under ks p b t) (put_under rest p b t))) ≡ leaves (Tree m c ks rest)
    by_label first kids others true = leaves-Tree m c (put_before ks b t) rest ∙ (rw first refl ∙ sym (leaves-Tree m c ks rest))
    by_label first kids others false =
        leaves-Tree m c (put_under ks p b t) (put_under rest p b t)
        ∙ (rw (kids, others) refl ∙ sym (leaves-Tree m c ks rest))

-- ---- other contents

pub leaves-revised : (f : Forest Content) (n : ℕ) (g : Content → Content) → ((l : ℕ) (c : Content) → borne_by l (g c) ≡ borne_by l c) → leaves (revised f n g) ≡ leaves f
leaves-revised Nil n g same = refl
leaves-revised (Tree m c ks rest) n g same =
    leaves-Tree m (cond (eqb n m) (g c) c) (revised ks n g) (revised rest n g)
    ∙ (rw (leaves-revised ks n g same, leaves-revised rest n g same, by_label (eqb n m)) refl ∙ sym (leaves-Tree m c ks rest))
  where
    by_label : (v : Bool) → borne_by m (cond v (g c) c) ≡ borne_by m c
    by_label true = same m c
    by_label false = refl
