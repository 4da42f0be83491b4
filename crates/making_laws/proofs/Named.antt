-- A node that has a host, and may have children, is an element.
use Rattle.std.proofs.Common.{◌≡◌, ℕ, ◌<◌, true, false, true≢false, List, [], Option, Some, None, refl, sym, ap, subst, ◌∙◌, inl, inr, arith}
use Rattle.std.specs.Option.{option_map, option_map_or, option_and_then}
use Rattle.std.proofs.lemmas.Bool.{cases_Bool}
use Rattle.std.proofs.lemmas.Bool.Decides.{eqb_tells}
use Rattle.edit_model.specs.DomModel.declared.Content.{Content}
use Rattle.edit_model.specs.DomModel.declared.Content.TheVariants.{Document, Element, Words, Remark}
use Rattle.edit_model.specs.DomModel.Contents.{may_have_children, name_in, name_of, is_parent_at}
use Rattle.edit_model.specs.DomModel.Editing.{editing_host}
use Rattle.edit_model.specs.DomModel.Forest.{Forest, Seen, seek, tops, times, count_of, tree_of, parent_of, IsWithin}
use Rattle.edit_model.specs.DomModel.Forest.Forest.{Nil, Tree}
use Rattle.edit_model.proofs.DomModel.Hosts.{editing_host-root}
use Rattle.edit_model.proofs.DomModel.Links.{child_of_parent, seen, tree_is}
use Rattle.edit_model.proofs.DomModel.Stands.{Stands, Stands-tree_of, seek_Stands}
use Rattle.edit_model.specs.Valid.{IsForest}

-- the node is an element
abbrev pub IsNamed : Forest Content → ℕ → Type 0
IsNamed f k = (name : List ℕ) × (name_of f k ≡ Some name)

module _ (f : Forest Content) (next : ℕ) (is : IsForest f next) (h : ℕ) where
  -- the Document has no host
  pub named_open : (k : ℕ) → editing_host f k ≡ Some h → is_parent_at f k ≡ true → IsNamed f k
  named_open k hosted bears = by_seen (seek None f k) refl
    where
      by_content : (x : Seen Content) (c : Content) → seek None f k ≡ Some x → x.content ≡ c → IsNamed f k
      by_content x (Element name list) e same = (name, ap (λ (o : Option (Seen Content)). option_and_then name_in (option_map (λ y. y.content) o)) e ∙ ap (λ (c : Content). name_in c) same)
      by_content x Document e same = absurd (
          let root : k ≡ 0 = (is.nodes k x e).document.0 same in
          let none : parent_of f k ≡ None = subst (λ j. parent_of f j ≡ None) (sym root) is.root in
          let t : None ≡ Some h = sym (editing_host-root f is.distinct k none) ∙ hosted in
          cc)
      by_content x (Words chars) e same = absurd (true≢false (sym bears ∙ (ap (λ (o : Option (Seen Content)). option_map_or may_have_children (option_map (λ y. y.content) o) false) e ∙ ap may_have_children same)))
      by_content x (Remark chars) e same = absurd (true≢false (sym bears ∙ (ap (λ (o : Option (Seen Content)). option_map_or may_have_children (option_map (λ y. y.content) o) false) e ∙ ap may_have_children same)))

      by_seen : (o : Option (Seen Content)) → seek None f k ≡ o → IsNamed f k
      by_seen None e = absurd (true≢false (sym bears ∙ ap (λ (o : Option (Seen Content)). option_map_or may_have_children (option_map (λ y. y.content) o) false) e))
      by_seen (Some x) e = by_content x x.content e refl

  -- a parent may have children
  parent_open : (x k : ℕ) → parent_of f x ≡ Some k → is_parent_at f k ≡ true
  parent_open x k child =
      let r = child_of_parent f x k is.distinct child in
      elim (cases_Bool (is_parent_at f k)) [
        | inl t ↦ t
        | inr t ↦ absurd (
            let leaf : may_have_children r.0.content ≡ false = sym (ap (λ (o : Option (Seen Content)). option_map_or may_have_children (option_map (λ y. y.content) o) false) r.2) ∙ t in
            let none : r.0.children ≡ [] = (is.nodes k r.0 r.2).leaf leaf in
            omega (arith, r.3, ap (λ xs. times xs x) none))
      ]

  pub named_parent : (x k : ℕ) → editing_host f k ≡ Some h → parent_of f x ≡ Some k → IsNamed f k
  named_parent x k hosted child = named_open k hosted (parent_open x k child)

  empty : (t : Forest Content) → tops t ≡ [] → t ≡ Nil
  empty Nil e = refl
  empty (Tree l a ks rest) e = absurd (let q = e in cc)

  -- so is one with such a node in its tree
  within_open : (k l : ℕ) → IsWithin f k l → is_parent_at f l ≡ true → 0 < count_of f k → is_parent_at f k ≡ true
  within_open k l inside bears here = elim (eqb_tells k l) [
    | inl (_, e) ↦ subst (λ j. is_parent_at f j ≡ true) (sym e) bears
    | inr (apart, _) ↦ elim (cases_Bool (is_parent_at f k)) [
      | inl t ↦ t
      | inr t ↦ absurd (
          let x = seen f k is.distinct here in
          let same : may_have_children x.0.content ≡ false = sym (ap (λ (o : Option (Seen Content)). option_map_or may_have_children (option_map (λ y. y.content) o) false) x.2) ∙ t in
          let none : x.0.children ≡ [] = (is.nodes k x.0 x.2).leaf same in
          let tree = tree_is f k (omega (arith, is.distinct k, here)) in
          let kids : tops tree.1 ≡ [] = sym (kids_at k tree.0 tree.1 tree.2) ∙ (ap (λ (o : Option (Seen Content)). option_map_or (λ y. y.children) o []) x.2 ∙ none) in
          let alone : count_of (tree_of f k) l ≡ 0 = ap (λ t. count_of t l) tree.2 ∙ rw (apart, empty tree.1 kids) refl in
          omega (arith, alone, inside))
    ]
  ]
    where
      kids_at : (k : ℕ) (c : Content) (ks : Forest Content) → tree_of f k ≡ Tree k c ks Nil → option_map_or (λ (y : Seen Content). y.children) (seek None f k) [] ≡ tops ks
      kids_at k c ks e =
          let s : Seen Content = record { parent = None; content = c; children = tops ks } in
          let st : Stands None (tree_of f k) k s = subst (λ g. Stands None g k s) (sym e) (inl (refl, refl)) in
          elim (Stands-tree_of None None f k k s (is.distinct k) st) [
            | inl (_, o, there, same) ↦ ap (λ (o : Option (Seen Content)). option_map_or (λ y. y.children) o []) (seek_Stands None f k o (is.distinct k) there) ∙ ap (λ (x : Seen Content). x.children) (sym same)
            | inr (off, _) ↦ absurd (off refl)
          ]

  pub named_within : (k l : ℕ) → editing_host f k ≡ Some h → IsWithin f k l → is_parent_at f l ≡ true → 0 < count_of f k → IsNamed f k
  named_within k l hosted inside bears here = named_open k hosted (within_open k l inside bears here)
