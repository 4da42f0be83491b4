-- A new node at the end of a parent's children.
use Rattle.std.proofs.Common.{◌≡◌, ◌≢◌, ℕ, zero, suc, ◌+◌, ◌<◌, true, cond, Option, Some, None, refl, ◌∙◌, inl, inr, arith, eqb, add-one}
use Rattle.std.proofs.lemmas.Bool.Decides.{eqb_tells, nat_tests}
use Rattle.std.specs.Option.{option_map}
use Rattle.node_arena.specs.DomModel.declared.Content.{Content}
use Rattle.node_arena.specs.DomModel.Contents.{is_parent_at, may_have_children}
use Rattle.node_arena.specs.DomModel.Forest.{Forest, Seen, with_leaf, count_of, IsDistinct, seek, tree_of, without, put_under, link, CanPut, relinked}
use Rattle.node_arena.specs.DomModel.Forest.Forest.{Nil, Tree}
use Rattle.node_arena.specs.DomModel.ArenaState.{ArenaState, IsValid, CanLink}
use Rattle.node_arena.proofs.DomModel.Links.{tree_of_absent, seek-link, seek-with_leaf_other, seek-with_leaf_new, parent_of-with_leaf, eqb_refl_true}
use Rattle.node_arena.proofs.DomModel.Totals.{total-join}
use Rattle.node_arena.proofs.DomModel.Stands.{seek_absent}
use Rattle.node_arena.specs.declared.NodeRef.{NodeRef}
use Rattle.node_arena.specs.Held.{Holds, Makes}
use Rattle.page_read.specs.Construction.{IsOpen, Appends}

module _ {C : Type 0} where
  tree_of_leaf : (f : Forest C) (n : ℕ) (c : C) → count_of f n ≡ 0 → tree_of (with_leaf f n c) n ≡ Tree n c Nil Nil
  tree_of_leaf Nil n c none = grind (arith, nat_tests)
  tree_of_leaf (Tree m d ks rest) n c none =
      elim (eqb_tells m n) [
        | inl (e, _) ↦ absurd (let none' = rw e at none in omega (arith, none'))
        | inr (e, _) ↦ (let none' = rw e at none in rw (e, tree_of_absent ks n (omega (arith, none'))) (tree_of_leaf rest n c (omega (arith, none'))))
      ]

  without_absent : (f : Forest C) (n : ℕ) → count_of f n ≡ 0 → without f n ≡ f
  without_absent Nil n none = refl
  without_absent (Tree m d ks rest) n none =
      elim (eqb_tells m n) [
        | inl (e, _) ↦ absurd (let none' = rw e at none in omega (arith, none'))
        | inr (e, _) ↦ (let none' = rw e at none in rw (e, without_absent ks n (omega (arith, none')), without_absent rest n (omega (arith, none'))) refl)
      ]

  without_leaf : (f : Forest C) (n : ℕ) (c : C) → count_of f n ≡ 0 → without (with_leaf f n c) n ≡ f
  without_leaf Nil n c none = grind (arith, nat_tests)
  without_leaf (Tree m d ks rest) n c none =
      elim (eqb_tells m n) [
        | inl (e, _) ↦ absurd (let none' = rw e at none in omega (arith, none'))
        | inr (e, _) ↦ (let none' = rw e at none in rw (e, without_absent ks n (omega (arith, none')), without_leaf rest n c (omega (arith, none'))) refl)
      ]

  -- linking the new leaf puts it under its parent
  pub link_leaf : (f : Forest C) (p n : ℕ) (c : C) → count_of f n ≡ 0 → link (with_leaf f n c) p None n ≡ put_under f p None (Tree n c Nil Nil)
  link_leaf f p n c none = rw (tree_of_leaf f n c none, without_leaf f n c none) refl

not_above : (s : ArenaState) → IsValid s → count_of s.trees s.next ≡ 0
not_above s law = by_count (count_of s.trees s.next) refl
  where
    by_count : (k : ℕ) → count_of s.trees s.next ≡ k → count_of s.trees s.next ≡ 0
    by_count zero e = e
    by_count (suc k) e = absurd (omega (arith, law.below s.next (omega (arith, e))))

-- a parent keeps its content
kept_parent : (f : Forest Content) (p n l : ℕ) (b : Option ℕ) → IsDistinct f → CanPut f p b n → is_parent_at (link f p b n) l ≡ is_parent_at f l
kept_parent f p n l b once can = by_seen (seek None f l) refl (seek-link f p b n once can l)
  where
    by_seen : (o : Option (Seen Content)) → seek None f l ≡ o → seek None (link f p b n) l ≡ option_map (relinked p b n l) (seek None f l) → is_parent_at (link f p b n) l ≡ is_parent_at f l
    by_seen None e t = rw (t, e) refl
    by_seen (Some s) e t = rw (t, e) refl

-- what appending a node to the open node p needs, and what it gives
pub record CanAppend (old mid : ArenaState) (p r : NodeRef) (c : Content) : Type 0 where
  pub parent_held : Holds mid p
  pub can : CanLink mid.trees p.label None r.label
  pub gives : (new : ArenaState) → new ≡ record mid { trees = link mid.trees p.label None r.label } → Appends old new p.label c
  pub here : may_have_children c ≡ true → (new : ArenaState) → new ≡ record mid { trees = link mid.trees p.label None r.label } → IsOpen new r

apart_from : (f : Forest Content) (n p : ℕ) → count_of f n ≡ 0 → 0 < count_of f p → n ≢ p
apart_from f n p none some e = let none' = rw e at none in omega (arith, none', some)

count_leaf : (f : Forest Content) (n : ℕ) (c : Content) (l : ℕ) → count_of (with_leaf f n c) l ≡ count_of f l + cond (eqb n l) 1 0
count_leaf f n c l = omega (arith, total-join (λ m _. cond (eqb m l) 1 0) f (Tree n c Nil Nil))

plain_can : (f : Forest Content) (n p : ℕ) (c : Content) → count_of f n ≡ 0 → 0 < n → 0 < count_of f p → is_parent_at f p ≡ true → CanLink (with_leaf f n c) p None n
plain_can f n p c fresh positive some up = record {
  place = record {
    parent = omega (arith, count_leaf f n c p, some);
    node = (let t = eqb_refl_true n in let k = count_leaf f n c n in let k' = rw t at k in omega (arith, k'));
    inner = positive;
    loose = parent_of-with_leaf f n c fresh n ∙ (rw (seek_absent None f n fresh) refl);
    apart = (let off = apart_from f n p fresh some in rw (tree_of_leaf f n c fresh) (grind (arith, nat_tests)));
    before = tt;
  };
  parent = rw (seek-with_leaf_other f n c fresh None f p (apart_from f n p fresh some)) up;
}

pub can_append : (old mid : ArenaState) (p r : NodeRef) (c : Content) → IsValid old → IsValid mid → IsOpen old p → Makes old mid r c → CanAppend old mid p r c
can_append old mid p r c law law2 up makes =
    let fresh : count_of old.trees old.next ≡ 0 = not_above old law in
    let some : 0 < count_of old.trees p.label = law.here p.slot p.label up.held in
    let positive : 0 < old.next = omega (arith, law.below p.label some) in
    let plain : CanLink (with_leaf old.trees old.next c) p.label None old.next = plain_can old.trees old.next p.label c fresh positive some up.parent in
    let moved : CanLink mid.trees p.label None r.label = rw (makes.trees, makes.label) plain in
    let trees : link mid.trees p.label None r.label ≡ put_under old.trees p.label None (Tree old.next c Nil Nil) = rw (makes.trees, makes.label) (link_leaf old.trees p.label old.next c fresh) in
    record {
      parent_held = makes.keeps p up.held;
      can = moved;
      gives = λ new e. rw e (record {
        trees = trees;
        next = makes.next ∙ add-one old.next;
        cap = makes.cap;
        opens = λ q o. record {
          held = makes.keeps q o.held;
          parent = kept_parent mid.trees p.label r.label q.label None law2.distinct moved.place ∙ rw makes.trees (other_parent old law q.label c (law.here q.slot q.label o.held) o.parent);
        };
      });
      here = λ may new e. rw e (record {
        held = makes.held;
        parent = kept_parent mid.trees p.label r.label r.label None law2.distinct moved.place ∙ rw (makes.trees, makes.label) (new_parent old c may fresh);
      });
    }
  where
    other_parent : (s : ArenaState) → IsValid s → (l : ℕ) (c : Content) → 0 < count_of s.trees l → is_parent_at s.trees l ≡ true → is_parent_at (with_leaf s.trees s.next c) l ≡ true
    other_parent s law l c some up = rw (seek-with_leaf_other s.trees s.next c (not_above s law) None s.trees l (apart_from s.trees s.next l (not_above s law) some)) up

    new_parent : (s : ArenaState) (c : Content) → may_have_children c ≡ true → count_of s.trees s.next ≡ 0 → is_parent_at (with_leaf s.trees s.next c) s.next ≡ true
    new_parent s c may fresh = rw (seek-with_leaf_new s.trees s.next c fresh) may
