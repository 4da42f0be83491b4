-- The document of a forest after a tree is taken out of it or put into it, and after the content of a node is changed.
use Rattle.std.proofs.Common.{◌≡◌, ℕ, ◌<◌, false, Option, Some, None, refl, sym, inl, inr, arith, eqb, nat_lt}
use Rattle.std.proofs.lemmas.Bool.Decides.{eqb_tells, nat_tests}
use Rattle.forest_changes.specs.DomModel.Forest.{Forest, Seen, count_of, IsDistinct, seek, tree_of, without, put_under, link, unlink}
use Rattle.forest_changes.specs.DomModel.Forest.Forest.{Nil, Tree}
use Rattle.forest_changes.specs.DomModel.Revised.{revised}
use Rattle.forest_changes.proofs.DomModel.Stands.{Stands, count_of-Stands, seek_Stands}
use Rattle.forest_changes.proofs.DomModel.Links.{tree_of_absent}

module _ {C : Type 0} where
  module _ (c : C) (ks rest : Forest C) (n : ℕ) (inner : 0 < n) where
    not_root : eqb 0 n ≡ false
    not_root = grind (arith, nat_tests)

    not_below : nat_lt n 0 ≡ false
    not_below = grind (arith, nat_tests)

    -- without the tree of a node other than the Document
    pub document-without : tree_of (without (Tree 0 c ks rest) n) 0 ≡ without (Tree 0 c ks Nil) n
    document-without = rw not_root refl

    -- with it made loose
    pub document-unlink : tree_of (unlink (Tree 0 c ks rest) n) 0 ≡ without (Tree 0 c ks Nil) n
    document-unlink = rw not_root (rw not_below refl)

    -- with it at another place
    pub document-link : (p : ℕ) (b : Option ℕ) → tree_of (link (Tree 0 c ks rest) p b n) 0 ≡ put_under (without (Tree 0 c ks Nil) n) p b (tree_of (Tree 0 c ks rest) n)
    document-link p b = rw not_root (elim (eqb_tells 0 p) [ inl (t, _) ↦ rw t refl | inr (t, _) ↦ rw t refl ])

    -- the tree of a node in the document is that of the forest
    pub tree_of-document : IsDistinct (Tree 0 c ks rest) → 0 < count_of (Tree 0 c ks Nil) n → tree_of (Tree 0 c ks Nil) n ≡ tree_of (Tree 0 c ks rest) n
    tree_of-document once here =
        let one = rw not_root at (once n) in
        let here' = rw not_root at here in
        let none : count_of rest n ≡ 0 = omega (arith, one, here') in
        rw (not_root, tree_of_absent rest n none) refl

  -- what stands in the document stands in the forest
  pub seek-document : (c : C) (ks rest : Forest C) (n : ℕ) (s : Seen C) → IsDistinct (Tree 0 c ks rest) → Stands None (Tree 0 c ks Nil) n s → seek None (Tree 0 c ks rest) n ≡ Some s
  seek-document c ks rest n s once st =
      seek_Stands None (Tree 0 c ks rest) n s (once n) (elim st [
        | inl own ↦ inl own
        | inr below ↦ elim below [ inl kid ↦ inr (inl kid) | inr none ↦ absurd none ]
      ])

  module _ (n : ℕ) (g h : C → C) where
    revised_alike : (q : Option ℕ) (f : Forest C) → ((s : Seen C) → Stands q f n s → g s.content ≡ h s.content) → revised f n g ≡ revised f n h
    revised_alike q Nil same = refl
    revised_alike q (Tree m c ks rest) same =
        let one = revised_alike (Some m) ks (λ s st. same s (inr (inl st))) in
        let two = revised_alike q rest (λ s st. same s (inr (inr st))) in
        elim (eqb_tells n m) [
          | inl (t, is) ↦ (let own : g c ≡ h c = same _ (inl (sym is, refl)) in rw t (λ i. Tree m (own i) (one i) (two i)))
          | inr (t, _) ↦ rw t (λ i. Tree m c (one i) (two i))
        ]

  revised_same : (n : ℕ) (g : C → C) (q : Option ℕ) (f : Forest C) → ((s : Seen C) → Stands q f n s → g s.content ≡ s.content) → revised f n g ≡ f
  revised_same n g q Nil same = refl
  revised_same n g q (Tree m c ks rest) same =
      let one = revised_same n g (Some m) ks (λ s st. same s (inr (inl st))) in
      let two = revised_same n g q rest (λ s st. same s (inr (inr st))) in
      elim (eqb_tells n m) [
        | inl (t, is) ↦ (let own : g c ≡ c = same _ (inl (sym is, refl)) in rw t (λ i. Tree m (own i) (one i) (two i)))
        | inr (t, _) ↦ rw t (λ i. Tree m c (one i) (two i))
      ]

  -- a change of content does what another does that gives the node the same
  pub revised-alike : (f : Forest C) (n : ℕ) (g h : C → C) → ((s : Seen C) → Stands None f n s → g s.content ≡ h s.content) → revised f n g ≡ revised f n h
  revised-alike f n g h same = revised_alike n g h None f same

  -- and nothing where it gives the node what it has
  pub revised-same : (f : Forest C) (n : ℕ) (g : C → C) → ((s : Seen C) → Stands None f n s → g s.content ≡ s.content) → revised f n g ≡ f
  revised-same f n g same = revised_same n g None f same

  pub revised-absent : (f : Forest C) (n : ℕ) (g : C → C) → count_of f n ≡ 0 → revised f n g ≡ f
  revised-absent f n g none = revised-same f n g (λ s st. absurd (let here = count_of-Stands None f n s st in omega (arith, none, here)))
