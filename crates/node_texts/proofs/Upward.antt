-- The path to a node, from the node up.
use Rattle.std.proofs.Common.{◌≡◌, ℕ, suc, List, [], ◌∷◌, ◌++◌, Option, Some, None, refl, sym, ap, subst, ◌∙◌, inl, inr}
use Rattle.std.proofs.lemmas.Bool.Decides.{eqb_tells}
use Rattle.std.specs.Option.{option_map}
use Rattle.node_styles.specs.DomModel.declared.Content.{Content}
use Rattle.node_styles.specs.DomModel.Forest.{Forest, either, parent_of, IsDistinct, IsWithin}
use Rattle.node_styles.specs.DomModel.Forest.Forest.{Nil, Tree}
use Rattle.node_styles.specs.DomModel.Places.{kids_in, index_of}
use Rattle.node_styles.proofs.DomModel.Walks.{document_first}
use Rattle.node_styles.proofs.DomModel.Within.{within_step}
use Rattle.node_styles.specs.NodeArena.declared.NodeRef.{NodeRef}
use Rattle.node_styles.specs.NodeArena.Reads.{IsValid}
use Rattle.page_write.specs.NodePaths.Paths.{node_in, path_in, label_at, path_of, stepped}
use Rattle.page_write.proofs.NodePaths.Ways.{path_of-child, root_is}

-- ---- a path leads to its node

-- a path to a node of some trees has a first index, and leads to the node
record LeadsTo (f : Forest Content) (l : ℕ) (is : List ℕ) : Type 0 where
  first : ℕ
  further : List ℕ
  whole : is ≡ first ∷ further
  leads : node_in f (first ∷ further) ≡ Some l

path_leads_in : (f : Forest Content) (l : ℕ) (is : List ℕ) → path_in f l ≡ Some is → LeadsTo f l is
path_leads_in Nil l is e = absurd (let e' = e in cc)
path_leads_in (Tree m c ks rest) l is e =
    elim (eqb_tells m l) [
      | inl (t, same) ↦ (let e' = rw t at e in
          record { first = 0; further = []; whole = (let e2 = e' in cc); leads = ap Some same })
      | inr (t, _) ↦ (let e' = rw t at e in
          by_kids (path_in ks l) (path_in rest l) e' (λ js k. path_leads_in ks l js k) (λ js k. path_leads_in rest l js k))
    ]
  where
    by_kids : (o p : Option (List ℕ)) → either (option_map (λ js. 0 ∷ js) o) (option_map stepped p) ≡ Some is
        → ((js : List ℕ) → o ≡ Some js → LeadsTo ks l js) → ((js : List ℕ) → p ≡ Some js → LeadsTo rest l js) → LeadsTo (Tree m c ks rest) l is
    by_kids (Some js) p e down on =
        let r = down js refl in
        record { first = 0; further = r.first ∷ r.further; whole = (let e' = e in let w = r.whole in cc); leads = r.leads }
    by_kids None (Some js) e down on =
        let r = on js refl in
        let s : stepped js ≡ suc r.first ∷ r.further = ap stepped r.whole in
        record { first = suc r.first; further = r.further; whole = (let e' = e in cc); leads = r.leads }
    by_kids None None e down on = absurd (let e' = e in cc)

pub path_leads : (f : Forest Content) (l : ℕ) (path : List ℕ) → path_of f l ≡ Some path → label_at f path ≡ Some l
unfolding path_of label_at
path_leads f l path e =
    elim (eqb_tells l 0) [
      | inl (t, same) ↦ (let e' = rw t at e in let none : path ≡ [] = (let e2 = e' in cc) in rw none (ap Some (sym same)))
      | inr (t, _) ↦ (let e' = rw t at e in let r = path_leads_in (kids_in f) l path e' in rw r.whole r.leads)
    ]

-- ---- a step up

module _ {holds : NodeRef → Type 0} {f : Forest Content} {upper : ℕ} (law : IsValid holds f upper) where
  -- the path of a node is that of its parent and its own index
  pub path_below : (l p : ℕ) → parent_of f l ≡ Some p → IsWithin f 0 l → (above : List ℕ) → path_of f p ≡ Some above → path_of f l ≡ Some (above ++ (index_of f l ∷ []))
  path_below l p parent inner above is =
      let d = document_first f law.distinct law.rising law.document law.root in
      let w = path_of-child d.0 d.1 d.2 l p (subst (λ t. IsDistinct t) d.3 law.distinct) (subst (λ t. parent_of t l ≡ Some p) d.3 parent) (subst (λ t. IsWithin t 0 l) d.3 inner) in
      let same : w.0 ≡ above = (let t : Some w.0 ≡ Some above = sym (subst (λ t. path_of t p ≡ Some w.0) (sym d.3) w.1) ∙ is in cc) in
      subst (λ t. path_of t l ≡ Some (above ++ (index_of t l ∷ []))) (sym d.3) (subst (λ xs. path_of (Tree 0 d.0 d.1 d.2) l ≡ Some (xs ++ (index_of (Tree 0 d.0 d.1 d.2) l ∷ []))) same w.2)

  pub parent_inside : (l p : ℕ) → parent_of f l ≡ Some p → IsWithin f 0 l → IsWithin f 0 p
  parent_inside l p parent inner =
      within_step f 0 law.distinct law.document l p (λ e. absurd (let root = law.root in let t : parent_of f 0 ≡ Some p = ap (parent_of f) e ∙ parent in cc)) parent inner

  pub path_top : (l : ℕ) → parent_of f l ≡ None → IsWithin f 0 l → path_of f l ≡ Some []
  unfolding path_of
  path_top l root inner = let z = root_is f l law.distinct law.document root inner in rw z refl
