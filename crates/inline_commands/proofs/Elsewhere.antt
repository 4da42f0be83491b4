-- A range in the document contains no node of a loose tree, nor in effect.
use Rattle.std.proofs.Common.{◌≡◌, ℕ, zero, suc, ◌+◌, ◌<◌, ◌≤◌, Bool, true, false, cond, not, ◌&&◌, ◌||◌, List, [], ◌∷◌, ◌++◌, Option, Some, None, refl, sym, ap, subst, ◌∙◌, inl, inr, arith, eqb, nat_le}
use Rattle.std.specs.Prelude.{filter}
use Rattle.std.specs.List.{find}
use Rattle.std.specs.Option.{option_map_or}
use Rattle.std.proofs.lemmas.Bool.{and_from, and_parts, and_right, false_from_ne_true, le-ltb, lt-ltb}
use Rattle.std.proofs.lemmas.Bool.Decides.{eqb_tells, nat_tests}
use Rattle.edit_model.specs.DomModel.declared.Content.{Content}
use Rattle.edit_model.specs.DomModel.Contents.{length_of}
use Rattle.edit_model.specs.DomModel.Forest.{Forest, Seen, seek, count_of, times, tree_of, parent_of, children_of, preorder, IsDistinct, IsWithin}
use Rattle.edit_model.specs.DomModel.Forest.Forest.{Nil, Tree}
use Rattle.edit_model.specs.DomModel.Places.{first_of_two, index_of}
use Rattle.edit_model.proofs.DomModel.Links.{found_stands, parent_of_child}
use Rattle.edit_model.proofs.DomModel.Totals.{total-without}
use Rattle.edit_model.proofs.DomModel.Walks.{document_first}
use Rattle.edit_model.proofs.DomModel.Within.{within_self, within_up}
use Rattle.edit_model.specs.LiveRange.declared.places.Point.{Point}
use Rattle.edit_model.specs.PointOrder.PointOrder.{child_toward, is_before, is_before_below, is_within}
use Rattle.inline_value.specs.NodeTests.CollapsedWhitespace.{is_words}
use Rattle.inline_value.specs.NodeTests.Ranges.{is_contained, is_partial, is_cut, is_touched, has_trees, all_effective, is_effectively_contained, contained_nodes, effective_nodes}
use Rattle.edit_model.specs.Valid.{IsForest}
use Rattle.edit_model.proofs.Trees.{within_trans}
use Rattle.inline_commands.proofs.Ancestors.{parts, tree_after}
use Rattle.inline_commands.proofs.Merging.{none_found}
use Rattle.inline_commands.proofs.Order.{some_count}
use Rattle.inline_commands.proofs.Pairs.{head_in, listed}

found_in : (p : ℕ → Bool) (xs : List ℕ) (k : ℕ) → find p xs ≡ Some k → (0 < times xs k) × (p k ≡ true)
found_in p [] k e = absurd (let t = e in cc)
found_in p (x ∷ xs) k e = by_test (p x) refl e (λ e'. found_in p xs k e')
  where
    by_test : (b : Bool) → p x ≡ b → cond b (Some x) (find p xs) ≡ Some k → (find p xs ≡ Some k → (0 < times xs k) × (p k ≡ true)) → (0 < times (x ∷ xs) k) × (p k ≡ true)
    by_test true t e more = (let is : x ≡ k = (let u = e in cc) in (subst (λ j. 0 < times (x ∷ xs) j) is (head_in x xs), ap p (sym is) ∙ t))
    by_test false t e more = (let r = more e in (omega (arith, r.0), r.1))

-- ---- labels of different trees

two_absent : (f : Forest Content) (a b : ℕ) → count_of f a ≡ 0 → first_of_two f a b ≡ None
two_absent Nil a b none = refl
two_absent (Tree m c ks rest) a b none = rw (le-ltb 0 (count_of (Tree m c ks Nil) a) (omega (arith, none))) (two_absent rest a b (omega (arith, none)))

in_other_tree : (c : Content) (ks rest : Forest Content) (a b : ℕ) → IsDistinct (Tree 0 c ks rest) → 0 < count_of (Tree 0 c ks Nil) a → count_of (Tree 0 c ks Nil) b ≡ 0 → first_of_two (Tree 0 c ks rest) a b ≡ None
in_other_tree c ks rest a b once here none =
    rw (lt-ltb 0 (count_of (Tree 0 c ks Nil) a) here, le-ltb 0 (count_of (Tree 0 c ks Nil) b) (omega (arith, none)))
    (two_absent rest a b (omega (arith, once a, here)))

module _ (f : Forest Content) (next : ℕ) (law : IsForest f next) (p : Point) (inside : IsWithin f 0 p.label) (l : ℕ) (out : IsWithin f 0 l → ⊥) where
  none_toward : child_toward f p.label l ≡ None
  none_toward = by_found (find (λ k. is_within f k l) (children_of f p.label)) refl
    where
      child_of : (k : ℕ) (o : Option (Seen Content)) → seek None f p.label ≡ o → 0 < times (option_map_or (λ (s : Seen Content). s.children) o []) k → parent_of f k ≡ Some p.label
      child_of k None e h = absurd (omega (arith, h))
      child_of k (Some s) e h = parent_of_child f p.label k s law.distinct (found_stands f p.label s law.distinct e) h

      by_found : (o : Option ℕ) → find (λ k. is_within f k l) (children_of f p.label) ≡ o → find (λ k. is_within f k l) (children_of f p.label) ≡ None
      by_found None e = e
      by_found (Some k) e =
          let r = found_in (λ j. is_within f j l) (children_of f p.label) k e in
          let child = child_of k (seek None f p.label) refl r.0 in
          let below : IsWithin f p.label l = within_up f law.distinct k p.label l child (some_count (count_of (tree_of f k) l) r.1) in
          absurd (out (within_trans f 0 p.label l law.distinct inside below))

  other : eqb p.label l ≡ false
  other = elim (eqb_tells p.label l) [ inl (_, same) ↦ absurd (out (subst (λ x. IsWithin f 0 x) same inside)) | inr (t, _) ↦ t ]

  neither_first : first_of_two f p.label l ≡ None
  neither_first =
      let d = document_first f law.distinct law.rising law.document law.root in
      let none : count_of (tree_of f 0) l ≡ 0 = by_count (count_of (tree_of f 0) l) refl in
      subst (λ g. IsDistinct g → 0 < count_of (tree_of g 0) p.label → count_of (tree_of g 0) l ≡ 0 → first_of_two g p.label l ≡ None) (sym d.3) (in_other_tree d.0 d.1 d.2 p.label l) law.distinct inside none
    where
      by_count : (n : ℕ) → count_of (tree_of f 0) l ≡ n → count_of (tree_of f 0) l ≡ 0
      by_count zero e = e
      by_count (suc n) e = absurd (out (omega (arith, e)))

  -- the start of such a node doesn't come after the point
  not_after : is_before f p (record { label = l; offset = 0 }) ≡ false
  unfolding is_before
  not_after = rw (other, none_toward) (by_child (child_toward f l p.label))
    where
      by_child : (o : Option ℕ) → is_before_below f p (record { label = l; offset = 0 }) o ≡ false
      by_child None = rw neither_first refl
      by_child (Some k) = le-ltb (index_of f k) 0 (omega arith)

  not_contained : (end : Point) → is_contained f p end l ≡ true → ⊥
  unfolding is_contained
  not_contained end e =
      let t : true ≡ false = sym e ∙ ap (λ b. b && is_before f (record { label = l; offset = length_of f l }) end) not_after in
      cc

-- what passes is in the first tree
first_tree : (W : ℕ → Bool) (c : Content) (ks rest : Forest Content) → ((l : ℕ) → 0 < count_of rest l → W l ≡ true → ⊥) → filter W (preorder (Tree 0 c ks Nil)) ≡ filter W (preorder (Tree 0 c ks rest))
first_tree W c ks rest off =
    let none : filter W (preorder rest) ≡ [] = none_found W (preorder rest) (λ l h. off l (listed rest l h)) in
    parts W 0 c ks Nil ∙ (ap (λ xs. filter W (0 ∷ []) ++ (filter W (preorder ks) ++ xs)) (sym none) ∙ sym (parts W 0 c ks rest))

-- where what stands in no tree of the document doesn't pass, what passes in the document is all that does
in_document : (f : Forest Content) (next : ℕ) → IsForest f next → (W : ℕ → Bool) → ((l : ℕ) → 0 < count_of f l → ((k : ℕ) → IsWithin f l k → IsWithin f 0 k → ⊥) → W l ≡ true → ⊥) → filter W (preorder (tree_of f 0)) ≡ filter W (preorder f)
in_document f next law W off =
    let d = document_first f law.distinct law.rising law.document law.root in
    let once : IsDistinct (Tree 0 d.0 d.1 d.2) = subst (λ g. IsDistinct g) d.3 law.distinct in
    let tree : tree_of f 0 ≡ Tree 0 d.0 d.1 Nil = ap (λ g. tree_of g 0) d.3 in
    let none : (l : ℕ) → 0 < count_of d.2 l → W l ≡ true → ⊥ = λ l h e. off l (subst (λ g. 0 < count_of g l) (sym d.3) (omega (arith, h))) (λ k low w.
    let low' : 0 < count_of (tree_of d.2 l) k = subst (λ g. 0 < count_of g k) (ap (λ g. tree_of g l) d.3 ∙ tree_after 0 d.0 d.1 d.2 l once h) low in
    let w' : 0 < count_of (Tree 0 d.0 d.1 Nil) k = subst (λ g. 0 < count_of g k) tree w in
    let o = once k in
    omega (arith, o, w', low', total-without (λ m _. cond (eqb m k) 1 0) d.2 l)) e in
    ap (λ g. filter W (preorder g)) tree ∙ (first_tree W d.0 d.1 d.2 none ∙ ap (λ g. filter W (preorder g)) (sym d.3))

has_some : (g : Forest Content) (l : ℕ) → 0 < count_of g l → has_trees g ≡ true
has_some Nil l here = absurd (omega (arith, here))
has_some (Tree m c ks rest) l here = refl

module _ (f : Forest Content) (next : ℕ) (law : IsForest f next) (start end : Point) (inside : IsWithin f 0 start.label) where
  pub contained_in : filter (is_contained f start end) (preorder (tree_of f 0)) ≡ contained_nodes f start end
  unfolding contained_nodes
  contained_in = in_document f next law (is_contained f start end) (λ l here out e. not_contained f next law start inside l (out l (within_self f l law.distinct here)) end e)

  module _ (end_inside : IsWithin f 0 end.label) where
    unlike : (l : ℕ) → (IsWithin f 0 l → ⊥) → (p : Point) → IsWithin f 0 p.label → eqb l p.label ≡ false
    unlike l out p within = elim (eqb_tells l p.label) [ inl (_, same) ↦ absurd (out (subst (λ x. IsWithin f 0 x) (sym same) within)) | inr (t, _) ↦ t ]

    untouched : (l : ℕ) → (IsWithin f 0 l → ⊥) → is_touched f start end l ≡ false
    unfolding is_touched is_partial
    untouched l out =
        rw (false_from_ne_true (is_contained f start end l) (not_contained f next law start inside l out end), unlike l out start inside, unlike l out end end_inside) (and_right (is_words f l) false refl)

    none_effective : (g : Forest Content) → ((k : ℕ) → 0 < count_of g k → IsWithin f 0 k → ⊥) → (has_trees g && all_effective f start end g) ≡ false
    none_effective Nil out = refl
    none_effective (Tree l c ks rest) out =
        let own : 0 < count_of (Tree l c ks rest) l = grind (arith, nat_tests) in
        let below = none_effective ks (λ k h. out k (omega (arith, h))) in
        ap (λ v. (v || (not (is_cut f start end l) && (has_trees ks && all_effective f start end ks))) && all_effective f start end rest) (untouched l (out l own))
        ∙ ap (λ v. (not (is_cut f start end l) && v) && all_effective f start end rest) below
        ∙ ap (λ v. v && all_effective f start end rest) (and_right (not (is_cut f start end l)) false refl)

    pub effective_in : filter (is_effectively_contained f start end) (preorder (tree_of f 0)) ≡ effective_nodes f start end
    unfolding effective_nodes is_effectively_contained
    effective_in = in_document f next law (is_effectively_contained f start end) (λ l here out e.
        let some = has_some (tree_of f l) l (within_self f l law.distinct here) in
        let all = (and_parts (is_before f start end) (all_effective f start end (tree_of f l)) e).1 in
        let none = none_effective (tree_of f l) out in
        absurd (let t : true ≡ false = sym (and_from (has_trees (tree_of f l)) (all_effective f start end (tree_of f l)) some all) ∙ none in cc))
