-- A forest grows again from the list of its nodes.
use Rattle.std.proofs.Common.{◌≡◌, ℕ, zero, suc, ◌+◌, ◌≤◌, List, [], ◌∷◌, ◌++◌, refl, sym, ap, ◌∙◌, arith}
use Rattle.std.proofs.Math.Numerals.{add-one}
use Rattle.forest_changes.specs.DomModel.declared.Content.{Content}
use Rattle.forest_changes.specs.DomModel.Forest.{Forest}
use Rattle.forest_changes.specs.DomModel.Forest.Forest.{Nil, Tree}
use Rattle.document_edits.specs.declared.edit.TreeNode.{TreeNode}
use Rattle.document_edits.specs.Flat.{flat, put_last, grown, grown_onto}

grown_onto-append : (f : Forest Content) (ns ms : List TreeNode) → grown_onto f (ns ++ ms) ≡ grown_onto (grown_onto f ns) ms
grown_onto-append f [] ms = refl
grown_onto-append f (n ∷ ns) ms = grown_onto-append (put_last f n.level (Tree n.label n.content Nil Nil)) ns ms

-- how many levels the last trees have below one another
abbrev reach : Forest Content → ℕ
reach Nil = 0
reach (Tree l c ks (Tree m d js rest)) = reach (Tree m d js rest)
reach (Tree l c ks Nil) = reach ks + 1

abbrev HasTree : Forest Content → Type 0
HasTree Nil = ⊥
HasTree (Tree l c ks rest) = Unit {0}

put_last-has : (f : Forest Content) (level : ℕ) (t : Forest Content) → HasTree f → HasTree (put_last f level t)
put_last-has Nil level t h = absurd h
put_last-has (Tree l c ks (Tree m d js rest)) level t h = tt
put_last-has (Tree l c ks Nil) zero t h = tt
put_last-has (Tree l c ks Nil) (suc level) t h = tt

put_last-rest : (l : ℕ) (c : Content) (ks f : Forest Content) (level : ℕ) (t : Forest Content) → HasTree f → put_last (Tree l c ks f) level t ≡ Tree l c ks (put_last f level t)
put_last-rest l c ks Nil level t h = absurd h
put_last-rest l c ks (Tree m d js rest) level t h = refl

put_last-nothing : (f : Forest Content) (level : ℕ) → put_last f level Nil ≡ f
put_last-nothing Nil level = refl
put_last-nothing (Tree l c ks (Tree m d js rest)) level = ap (Tree l c ks) (put_last-nothing (Tree m d js rest) level)
put_last-nothing (Tree l c ks Nil) zero = refl
put_last-nothing (Tree l c ks Nil) (suc level) = ap (λ k. Tree l c k Nil) (put_last-nothing ks level)

reach-rest : (l : ℕ) (c : Content) (ks f : Forest Content) → HasTree f → reach (Tree l c ks f) ≡ reach f
reach-rest l c ks Nil h = absurd h
reach-rest l c ks (Tree m d js rest) h = refl

-- a tree at a level is reached
reach-put_last : (f : Forest Content) (level l : ℕ) (c : Content) (ks : Forest Content) → level ≤ reach f → level + 1 ≤ reach (put_last f level (Tree l c ks Nil))
reach-put_last Nil level l c ks le = omega arith
reach-put_last (Tree m d js (Tree n e hs rest)) level l c ks le =
    let ih = reach-put_last (Tree n e hs rest) level l c ks le in
    omega (arith, ih, reach-rest m d js (put_last (Tree n e hs rest) level (Tree l c ks Nil)) (put_last-has (Tree n e hs rest) level (Tree l c ks Nil) tt))
reach-put_last (Tree m d js Nil) zero l c ks le = omega arith
reach-put_last (Tree m d js Nil) (suc level) l c ks le = (let ih = reach-put_last js level l c ks (omega (arith, le)) in omega (arith, ih))

-- a level that is reached stays so
reach-stays : (f : Forest Content) (level : ℕ) (t : Forest Content) → level ≤ reach f → level ≤ reach (put_last f level t)
reach-stays Nil level t le = omega (arith, le)
reach-stays (Tree m d js (Tree n e hs rest)) level t le =
    let ih = reach-stays (Tree n e hs rest) level t le in
    omega (arith, ih, reach-rest m d js (put_last (Tree n e hs rest) level t) (put_last-has (Tree n e hs rest) level t tt))
reach-stays (Tree m d js Nil) zero t le = omega arith
reach-stays (Tree m d js Nil) (suc level) t le = (let ih = reach-stays js level t (omega (arith, le)) in omega (arith, ih))

-- a tree, its children under it and those after it come one after another
put_last-parts : (f : Forest Content) (level l : ℕ) (c : Content) (ks rest : Forest Content) → level ≤ reach f → put_last (put_last (put_last f level (Tree l c Nil Nil)) (suc level) ks) level rest ≡ put_last f level (Tree l c ks rest)
put_last-parts Nil zero l c ks rest le = refl
put_last-parts Nil (suc level) l c ks rest le = absurd (omega (arith, le))
put_last-parts (Tree m d js (Tree n e hs more)) level l c ks rest le =
    let g = Tree n e hs more in
    let one = put_last-has g level (Tree l c Nil Nil) tt in
    let two = put_last-has (put_last g level (Tree l c Nil Nil)) (suc level) ks one in
    ap (λ w. put_last w level rest) (put_last-rest m d js (put_last g level (Tree l c Nil Nil)) (suc level) ks one)
    ∙ (put_last-rest m d js (put_last (put_last g level (Tree l c Nil Nil)) (suc level) ks) level rest two
    ∙ ap (Tree m d js) (put_last-parts (Tree n e hs more) level l c ks rest le))
put_last-parts (Tree m d js Nil) zero l c ks rest le = refl
put_last-parts (Tree m d js Nil) (suc level) l c ks rest le = ap (λ k. Tree m d k Nil) (put_last-parts js level l c ks rest (omega (arith, le)))

grown_onto-flat : (f : Forest Content) (level : ℕ) (g : Forest Content) → level ≤ reach f → grown_onto f (flat level g) ≡ put_last f level g
grown_onto-flat f level Nil le = sym (put_last-nothing f level)
grown_onto-flat f level (Tree l c ks rest) le =
    let top = put_last f level (Tree l c Nil Nil) in
    let far = reach-put_last f level l c Nil le in
    grown_onto-append top (flat (level + 1) ks) (flat level rest)
    ∙ (ap (λ w. grown_onto w (flat level rest)) (grown_onto-flat top (level + 1) ks far)
    ∙ (grown_onto-flat (put_last top (level + 1) ks) level rest (omega (arith, reach-stays top (level + 1) ks far))
    ∙ (ap (λ n. put_last (put_last top n ks) level rest) (add-one level)
    ∙ put_last-parts f level l c ks rest le)))

pub grown-flat : (f : Forest Content) → grown (flat 0 f) ≡ f
grown-flat f = grown_onto-flat Nil 0 f (omega arith)
