-- The steps of the walk to where two nodes part.
use Rattle.std.proofs.Common.{◌≡◌, ◌≢◌, ℕ, ◌+◌, ◌<◌, ◌≤◌, Option, Some, None, IsSome, refl, sym, ap, ◌∙◌, arith}
use Rattle.std.specs.Option.{option_map_or}
use Rattle.dom_model.specs.declared.Content.{Content}
use Rattle.dom_model.specs.ArenaState.{ArenaState, IsValid}
use Rattle.dom_model.specs.Forest.{Forest, count_of, parent_of, children_of, depth_of, IsWithin}
use Rattle.dom_model.specs.Places.{place_in, index_of, first_of_two}
use Rattle.dom_model.proofs.Within.{has_parent, depth_of-parent, depth_of-root}
use Rattle.dom_model.proofs.Earlier.{first_of_two-swap, first_of_two-within, first_of_two-apart, first_of_two-siblings, other_place}
use Rattle.node_arena.specs.declared.NodeRef.{NodeRef}
use Rattle.node_arena.specs.Held.{Holds, NamesHeld, label}

-- a link that names a node is there
pub named_some : (o : Option NodeRef) (k : ℕ) → label o ≡ Some k → IsSome o
named_some None k e = absurd (let e' = e in cc)
named_some (Some r) k e = refl

module _ (s : ArenaState) (law : IsValid s) where
  abbrev f : Forest Content
  f = s.trees

  here : (r : NodeRef) → Holds s r → 0 < count_of f r.label
  here r h = law.here r.slot r.label h

  -- a node that is as deep as a child has a parent too
  pub parent_named : (r : NodeRef) (o : Option NodeRef) (d : ℕ) → Holds s r → NamesHeld s o (parent_of f r.label) → depth_of f r.label ≡ d + 1 → IsSome o
  parent_named r o d h named deep =
      let p = has_parent f law.distinct r.label (here r h) (omega (arith, deep)) in
      named_some o p.0 (named.is ∙ p.1)

  index_is : (l p : ℕ) → parent_of f l ≡ Some p → index_of f l ≡ place_in (children_of f p) l
  index_is l p child = ap (λ o. option_map_or (λ q. place_in (children_of f q) l) o 0) child

  module _ (a b x y : NodeRef) (in_x : IsWithin f x.label a.label) (in_y : IsWithin f y.label b.label) where
    pub first_is : (p q : ℕ) → parent_of f x.label ≡ Some p → parent_of f y.label ≡ Some q → p ≡ q → index_of f x.label < index_of f y.label → Holds s a → NamesHeld s (Some a) (first_of_two f a.label b.label)
    first_is p q cx cy same lt h =
        let cy' : parent_of f y.label ≡ Some p = cy ∙ ap Some (sym same) in
        record {
          is = sym (first_of_two-siblings f law.distinct x.label y.label p a.label b.label cx cy' (omega (arith, index_is x.label p cx, index_is y.label p cy', lt)) in_x in_y);
          held = h;
        }

    pub second_is : (p q : ℕ) → x.label ≢ y.label → parent_of f x.label ≡ Some p → parent_of f y.label ≡ Some q → p ≡ q → index_of f y.label ≤ index_of f x.label → Holds s b → NamesHeld s (Some b) (first_of_two f a.label b.label)
    second_is p q off cx cy same le h =
        let cy' : parent_of f y.label ≡ Some p = cy ∙ ap Some (sym same) in
        let other = other_place f law.distinct x.label y.label p off cx cy' in
        record {
          is = sym (first_of_two-swap f a.label b.label ∙ first_of_two-siblings f law.distinct y.label x.label p b.label a.label cy' cx (below other (omega (arith, index_is x.label p cx, index_is y.label p cy', le))) in_y in_x);
          held = h;
        }
      where
        below : {i j : ℕ} → j ≢ i → i ≤ j → i < j
        below off le = omega (arith, off, le)

    pub neither_is : x.label ≢ y.label → Holds s x → Holds s y → parent_of f x.label ≡ None → depth_of f x.label ≡ depth_of f y.label → NamesHeld s None (first_of_two f a.label b.label)
    neither_is off hx hy root deep =
        let zero_deep = depth_of-root f x.label law.distinct (here x hx) root in
        let root_y : parent_of f y.label ≡ None = by_parent (parent_of f y.label) refl (omega (arith, zero_deep, deep)) in
        record {
          is = sym (first_of_two-apart f law.distinct x.label y.label a.label b.label off root root_y (here x hx) (here y hy) in_x in_y);
          held = tt;
        }
      where
        by_parent : (o : Option ℕ) → parent_of f y.label ≡ o → depth_of f y.label ≡ 0 → o ≡ None
        by_parent None e none = refl
        by_parent (Some p) e none = absurd (let more = depth_of-parent f y.label p law.distinct e in omega (arith, more, none))

  -- one of the two holds the other
  pub holder_first : (a b : NodeRef) → IsWithin f a.label b.label → Holds s a → NamesHeld s (Some a) (first_of_two f a.label b.label)
  holder_first a b inside h = record { is = sym (first_of_two-within f a.label b.label law.distinct inside); held = h }

  pub holder_second : (a b : NodeRef) → IsWithin f b.label a.label → Holds s b → NamesHeld s (Some b) (first_of_two f a.label b.label)
  holder_second a b inside h = record { is = sym (first_of_two-swap f a.label b.label ∙ first_of_two-within f b.label a.label law.distinct inside); held = h }
