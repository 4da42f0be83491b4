-- Each step of a tail that may be extracted is possible where it is taken.
use Rattle.std.proofs.Common.{◌≡◌, ◌≢◌, ◌⊎◌, ℕ, zero, suc, ◌+◌, ◌<◌, ◌≤◌, Bool, true, false, ◌||◌, ◌&&◌, cond, eqb, List, [], ◌∷◌, ◌++◌, drop, Option, Some, None, refl, sym, ap, subst, ◌∙◌, inl, inr, arith, add-one, true≢false}
use Rattle.std.specs.Option.{option_map, option_map_or, option_and_then}
use Rattle.std.proofs.lemmas.Bool.{cases_Bool, eq-eqb, ne_eqb, lt-ltb, le-ltb, le-leb, and_parts}
use Rattle.std.proofs.lemmas.Bool.Decides.{eqb_tells}
use Rattle.point_order.specs.DomModel.declared.Content.{Content}
use Rattle.point_order.specs.DomModel.Contents.{is_parent_at, may_have_children}
use Rattle.point_order.specs.DomModel.Forest.{Forest, Seen, seek, times, count_of, tree_of, parent_of, children_of, relinked, unlinked, link, unlink, with_leaf, IsDistinct, IsWithin, CanPut}
use Rattle.point_order.specs.DomModel.Places.{place_in}
use Rattle.point_order.proofs.DomModel.Totals.{total-without, total-unlink}
use Rattle.point_order.proofs.DomModel.Stands.{times-children}
use Rattle.point_order.proofs.DomModel.Links.{found_stands, seek-link, seek-unlink, parent_of-link_root, parent_of-unlink_root, parent_of-with_leaf, seek-with_leaf_new, tree_of_absent, total-link, total-with_leaf, parent_count}
use Rattle.point_order.proofs.DomModel.Within.{within_child, within_self, within_step}
use Rattle.point_order.proofs.DomModel.Move.{parent_apart}
use Rattle.point_order.proofs.DomModel.NodesKept.{AreNodes}
use Rattle.point_order.proofs.DomModel.Kept.{content_of-link, content_of-with_leaf_new, content_of-with_leaf_other}
use Rattle.point_order.specs.LiveRange.declared.places.Point.{Point}
use Rattle.point_order.specs.PointOrder.{is_within, child_toward}
use Rattle.edit_model.specs.State.{State}
use Rattle.edit_model.specs.Confined.{is_inside, is_made, is_open, is_own, may_insert, may_remove}
use Rattle.edit_model.specs.Edit.{Insert, Remove, is_made_edit, trees_after, changed, with_change}
use Rattle.edit_model.specs.Tail.{Step, Copy, Do, carried, later, copy_of, tail_steps, document_size}
use Rattle.edit_model.specs.Action.{made, applied, stepped, stepped_all, tail_of, may_extract}
use Rattle.edit_model.specs.Possible.{freed, are_possible}
use Rattle.edit_model.specs.Valid.{IsValid}
use Rattle.edit_model.proofs.Tests.{parent_there}
use Rattle.edit_model.proofs.Trees.{none_or_some, tree_of-with_leaf_other, within_trans}
use Rattle.edit_model.proofs.Forests.{can_go, parent_at-unlink, fresh}
use Rattle.edit_model.proofs.CommandParts.{command_steps}
use Rattle.edit_model.proofs.ValidParts.{valid_applied, valid_copied, valid_steps}
use Rattle.edit_model.proofs.TailPlan.{AllOf, Fits, IsCopy, is_copy, tail_fits, parent_among, find_some}
use Rattle.edit_model.proofs.TailSteps.{Extracts, extract_tests}
use Rattle.edit_model.proofs.TailRuns.{fit_steps}
use Rattle.edit_model.proofs.TailForests.{away-unlink, away-link, away-with_leaf}

pub both : {a b : Bool} → a ≡ true → b ≡ true → (a && b) ≡ true
both h g = rw (h, g) refl

-- ---- one edit

or_true : (a b : Bool) → b ≡ true → (a || b) ≡ true
or_true true b h = refl
or_true false b h = h

pub freed_open : (u : State) (l : ℕ) → is_open (freed u) l ≡ true
unfolding is_open is_made
freed_open u l = or_true (is_inside (freed u) l) _ (le-leb 0 l (omega arith))

pub freed_own : (u : State) (l : ℕ) → is_own (freed u) l ≡ true
unfolding is_own is_made
freed_own u l = or_true _ _ (le-leb 0 l (omega arith))

possible_remove : (n o : ℕ) (u : State) → u.keeping ≡ false → parent_of u.trees n ≡ Some o → is_made_edit (Remove n) (freed u) ≡ true
unfolding is_made_edit may_remove
possible_remove n o u keeps child = rw (child, freed_open u o, freed_own u n, keeps) refl

possible_insert : (p n : ℕ) (u : State) → CanPut u.trees p None n → is_parent_at u.trees p ≡ true → is_made_edit (Insert p None n) (freed u) ≡ true
unfolding is_made_edit may_insert
possible_insert p n u can parent =
    let f = u.trees in
    let there = lt-ltb 0 (count_of f n) can.node in
    let inner : eqb n 0 ≡ false = ne_eqb n 0 (λ e. (let i = can.inner in omega (arith, i, e))) in
    let apart : is_within f n p ≡ false = le-ltb 0 (count_of (tree_of f n) p) (omega (arith, can.apart)) in
    rw (there, inner, can.loose, parent, apart, freed_open u p) refl

-- ---- parents of others

parent-link_other : (f : Forest Content) (p : ℕ) (b : Option ℕ) (n l : ℕ) → IsDistinct f → CanPut f p b n → n ≢ l → parent_of (link f p b n) l ≡ parent_of f l
parent-link_other f p b n l once can off = ap (option_and_then (λ (s : Seen Content). s.parent)) (seek-link f p b n once can l) ∙ by_seen (seek None f l)
  where
    by_seen : (o : Option (Seen Content)) → option_and_then (λ (s : Seen Content). s.parent) (option_map (relinked p b n l) o) ≡ option_and_then (λ (s : Seen Content). s.parent) o
    by_seen None = refl
    by_seen (Some s) = let t : eqb n l ≡ false = ne_eqb n l off in rw t refl

parent-unlink_other : (f : Forest Content) (o n l : ℕ) → IsDistinct f → parent_of f n ≡ Some o → n ≢ l → parent_of (unlink f n) l ≡ parent_of f l
parent-unlink_other f o n l once child off = ap (option_and_then (λ (s : Seen Content). s.parent)) (seek-unlink f o n once child l) ∙ by_seen (seek None f l)
  where
    by_seen : (q : Option (Seen Content)) → option_and_then (λ (s : Seen Content). s.parent) (option_map (unlinked o n l) q) ≡ option_and_then (λ (s : Seen Content). s.parent) q
    by_seen None = refl
    by_seen (Some s) = let t : eqb n l ≡ false = ne_eqb n l off in rw t refl

parent_at-link : (f : Forest Content) (p : ℕ) (b : Option ℕ) (n l : ℕ) → IsDistinct f → CanPut f p b n → is_parent_at f l ≡ true → is_parent_at (link f p b n) l ≡ true
parent_at-link f p b n l once can h = ap (λ (c : Option Content). option_map_or may_have_children c false) (content_of-link f p b n l once can) ∙ h

-- ---- lists of children

times-drop : (n : ℕ) (xs : List ℕ) (x : ℕ) → times (drop n xs) x ≤ times xs x
times-drop zero xs x = omega arith
times-drop (suc n) [] x = omega arith
times-drop (suc n) (y ∷ xs) x = omega (arith, times-drop n xs x)

children_once : (f : Forest Content) → IsDistinct f → (p x : ℕ) → times (children_of f p) x ≤ 1
children_once f once p x = by_seen (seek None f p) refl
  where
    by_seen : (o : Option (Seen Content)) → seek None f p ≡ o → times (option_map_or (λ s. s.children) o []) x ≤ 1
    by_seen None e = omega arith
    by_seen (Some s) e = omega (arith, times-children None f p s x (found_stands f p s once e), once x)

-- k is not among those after it
later_none : (xs : List ℕ) (k : ℕ) → times xs k ≤ 1 → times (later xs k) k ≡ 0
later_none [] k few = by (0 + 1)
  where
    by : (n : ℕ) → times (drop n []) k ≡ 0
    by zero = refl
    by (suc n) = refl
later_none (x ∷ xs) k few = elim (eqb_tells x k) [
  | inl (t, _) ↦ (let few' = rw t at few in rw t (omega (arith, few')))
  | inr (t, _) ↦ (let few' = rw t at few in rw (t, add-one) (later_none xs k (omega (arith, few'))))
]

-- ---- a list of nodes that go

carried_possible : (d : ℕ) (xs : List ℕ) (u : State) → IsValid u → u.keeping ≡ false → is_parent_at u.trees d ≡ true → ((x : ℕ) → 0 < times xs x → (o : ℕ) × (parent_of u.trees x ≡ Some o) × (count_of (tree_of u.trees x) d ≡ 0)) → ((x : ℕ) → times xs x ≤ 1) → are_possible (carried d xs) u ≡ true
unfolding carried are_possible stepped applied with_change changed trees_after
carried_possible d [] u is keeps parent nodes few = refl
carried_possible d (x ∷ xs) u is keeps parent nodes few =
    let f = u.trees in
    let own : eqb x x ≡ true = eq-eqb x x refl in
    let one : 0 < times (x ∷ xs) x = rw own (omega arith) in
    let me = nodes x one in
    let o = me.0 in
    let may_remove = possible_remove x o u keeps me.1 in
    let v = applied (Remove x) u in
    let is_v = valid_applied (Remove x) u is may_remove in
    let can : CanPut (unlink f x) d None x = can_go f u.next is.forest o x d None me.1 me.2 parent (parent_there f d parent) tt in
    let parent_v : is_parent_at (unlink f x) d ≡ true = parent_at-unlink f u.next is.forest o x d me.1 parent in
    let may_insert = possible_insert d x v can parent_v in
    let w = applied (Insert d None x) v in
    let is_w = valid_applied (Insert d None x) v is_v may_insert in
    let less : (y : ℕ) → 0 < times xs y → x ≢ y = λ y some e. (
    let most = few x in
    let most' = rw own at most in
    let some' : 0 < times xs x = subst (λ j. 0 < times xs j) (sym e) some in
    omega (arith, most', some')) in
    both may_remove (both may_insert
    (carried_possible d xs w is_w keeps (parent_at-link (unlink f x) d None x d is_v.forest.distinct can parent_v)
    (λ y some. (
    let its = nodes y (omega (arith, some)) in
    let off = less y some in (
      its.0,
      parent-link_other (unlink f x) d None x y is_v.forest.distinct can off ∙ (parent-unlink_other f o x y is.forest.distinct me.1 off ∙ its.1),
      away-link (unlink f x) d None x y d is_v.forest.distinct can.apart (away-unlink f x y d is.forest.distinct me.2 its.2),
    )))
    (λ y. (let most = few y in omega (arith, most)))))

possible-join : (xs ys : List Step) (u : State) → are_possible xs u ≡ true → are_possible ys (stepped_all xs u) ≡ true → are_possible (xs ++ ys) u ≡ true
unfolding stepped_all are_possible
possible-join [] ys u h g = g
possible-join (Copy c ∷ xs) ys u h g = possible-join xs ys (stepped (Copy c) u) h g
possible-join (Do e ∷ xs) ys u h g =
    let p = and_parts (is_made_edit e (freed u)) (are_possible xs (stepped (Do e) u)) h in
    both p.0 (possible-join xs ys (stepped (Do e) u) p.1 g)

-- ---- the whole tail

module _ (f : Forest Content) (once : IsDistinct f) (nodes : AreNodes f) (next : ℕ) (low : (l : ℕ) → 0 < count_of f l → l < next) (from : Point) where
  -- a node below c, or a copy
  abbrev Goes : ℕ → ℕ → ℕ → Type 0
  Goes c n y = (IsWithin f c y × (y ≢ c)) ⊎ (n ≤ y)

  -- what stands below c is as it was, and d can take it
  record Begins (c d n : ℕ) (u : State) : Type 0 where
    valid : IsValid u
    keeping : u.keeping ≡ false
    known : 0 < count_of f c
    later_labels : next ≤ n
    drawn : u.next ≡ n
    parent : is_parent_at u.trees d ≡ true
    apart : (y : ℕ) → Goes c n y → count_of (tree_of u.trees y) d ≡ 0
    same : (x : ℕ) → IsWithin f c x → x ≢ c → parent_of u.trees x ≡ parent_of f x

  -- a child of c is below it
  under : (c x : ℕ) → 0 < count_of f c → parent_of f x ≡ Some c → IsWithin f c x × (x ≢ c)
  under c x known child =
      let self = within_self f c once known in
      (within_child f c once known x c child self, λ e. parent_apart f c c once (ap (parent_of f) (sym e) ∙ child) self)

  -- what is below a child of c is below c
  deeper : (c k x : ℕ) → 0 < count_of f c → parent_of f k ≡ Some c → IsWithin f k x → IsWithin f c x × (x ≢ c)
  deeper c k x known child inside = (
    within_trans f c k x once (under c k known child).0 inside,
    λ e. parent_apart f k c once child (subst (λ j. IsWithin f k j) e inside),
  )

  known_within : (c x : ℕ) → IsWithin f c x → x < next
  known_within c x h = low x (omega (arith, h, total-without (λ m _. cond (eqb m x) 1 0) f c))

  -- what the steps below the child k leave as it is for those of c, where the copy has the label n
  record Between (c k d n : ℕ) (z : State) : Type 0 where
    parent : is_parent_at z.trees d ≡ true
    apart : (y : ℕ) → Goes c n y → count_of (tree_of z.trees y) d ≡ 0
    loose : parent_of z.trees n ≡ None
    there : 0 < count_of z.trees n
    same : (x : ℕ) → IsWithin f c x → x ≢ c → (IsWithin f k x → ⊥) → parent_of z.trees x ≡ parent_of f x

  module _ (c k d n : ℕ) (known : 0 < count_of f c) (child : parent_of f k ≡ Some c) (high : next ≤ n) where
    -- a node that goes below k goes below c
    wider : (m : ℕ) → Goes k (n + 1) m → Goes c n m
    wider m (inl (inside, off)) = inl (deeper c k m known child inside)
    wider m (inr more) = inr (omega (arith, more))

    -- it isn't the copy, nor is it another child's
    no_copy : (m : ℕ) → Goes k (n + 1) m → m ≢ n
    no_copy m (inl (inside, off)) e = let b = known_within k m inside in omega (arith, b, e, high)
    no_copy m (inr more) e = omega (arith, more, e)

    no_other : (m x : ℕ) → Goes k (n + 1) m → IsWithin f c x → (IsWithin f k x → ⊥) → m ≢ x
    no_other m x (inl (inside, off)) held never e = never (subst (λ j. IsWithin f k j) e inside)
    no_other m x (inr more) held never e = let b = known_within c x held in omega (arith, b, more, e, high)

    between_made : (content : Content) (z : State) → IsValid z → Between c k d n z → Between c k d n (made content z)
    unfolding made
    between_made content z is h =
        let new = fresh z.trees z.next is.forest in
        let d_there = is.forest.below d (parent_there z.trees d h.parent) in
        let off : z.next ≢ d = λ e. omega (arith, d_there, e) in
        record {
          parent = ap (λ (o : Option Content). option_map_or may_have_children o false) (content_of-with_leaf_other z.trees z.next content d new off) ∙ h.parent;
          apart = λ y goes. away-with_leaf z.trees z.next content y d (ne_eqb z.next d off) (h.apart y goes);
          loose = parent_of-with_leaf z.trees z.next content new n ∙ h.loose;
          there = (let t = h.there in omega (arith, t, total-with_leaf z.trees z.next content new (λ m _. cond (eqb m n) 1 0)));
          same = λ x inside other never. parent_of-with_leaf z.trees z.next content new x ∙ h.same x inside other never;
        }

    between_removed : (m o : ℕ) (z : State) → IsValid z → Goes k (n + 1) m → parent_of z.trees m ≡ Some o → Between c k d n z → Between c k d n (applied (Remove m) z)
    unfolding applied with_change changed trees_after
    between_removed m o z is goes up h =
        let g = z.trees in
        let once' = is.forest.distinct in
        let out = h.apart m (wider m goes) in
        record {
          parent = parent_at-unlink g z.next is.forest o m d up h.parent;
          apart = λ y k. away-unlink g m y d once' out (h.apart y k);
          loose = parent_of-unlink_root g o m once' up n h.loose;
          there = (let t = h.there in omega (arith, t, total-unlink (λ j _. cond (eqb j n) 1 0) g m));
          same = λ x inside other never. parent-unlink_other g o m x once' up (no_other m x goes inside never) ∙ h.same x inside other never;
        }

    between_inserted : (p : ℕ) (b : Option ℕ) (m : ℕ) (z : State) → IsValid z → Goes k (n + 1) m → CanPut z.trees p b m → Between c k d n z → Between c k d n (applied (Insert p b m) z)
    unfolding applied with_change changed trees_after
    between_inserted p b m z is goes can h =
        let g = z.trees in
        let once' = is.forest.distinct in
        let out = h.apart m (wider m goes) in
        record {
          parent = parent_at-link g p b m d once' can h.parent;
          apart = λ y k. away-link g p b m y d once' out (h.apart y k);
          loose = parent_of-link_root g p b m once' can n (no_copy m goes) h.loose;
          there = (let t = h.there in omega (arith, t, total-link g p b m once' can (λ j _. cond (eqb j n) 1 0)));
          same = λ x inside other never. parent-link_other g p b m x once' can (no_other m x goes inside never) ∙ h.same x inside other never;
        }

    between_after : (fuel : ℕ) (v : State) → IsValid v → are_possible (tail_steps fuel f from k n (n + 1)) v ≡ true → Between c k d n v → Between c k d n (stepped_all (tail_steps fuel f from k n (n + 1)) v)
    between_after fuel v is may h =
        fit_steps IsCopy (Goes k (n + 1)) (λ _. Unit {0}) (λ _ q. q) (Between c k d n)
        (λ content z is' _ q. between_made content z is' q) (λ m o z is' goes up q. between_removed m o z is' goes up q) (λ p b m z is' _ goes can q. between_inserted p b m z is' goes can q)
        (tail_steps fuel f from k n (n + 1)) v fits_below may is h
      where
        k_known : 0 < count_of f k
        k_known = (parent_count f k c once child).0

        fits_below : AllOf (Fits IsCopy (Goes k (n + 1)) (λ _. Unit {0})) (tail_steps fuel f from k n (n + 1))
        fits_below =
            tail_fits IsCopy (Goes k (n + 1)) (λ _. Unit {0}) f once (n + 1) from (λ j. IsWithin f k j)
            (λ a b path up _. within_child f k once k_known b a up path)
            (λ a x path up. inl (within_child f k once k_known x a up path, λ e. parent_apart f k a once (ap (parent_of f) (sym e) ∙ up) path))
            (λ j _. is_copy f nodes j) (λ j more. inr more) (λ _ _. tt) fuel k n (n + 1) (within_self f k once k_known) tt (omega arith)

    -- after the copy is made, both the tail of k and the rest of c may begin
    begins_below : (u : State) → Begins c d n u → Begins k n (n + 1) (made (copy_of f k) u)
    unfolding made copy_of
    begins_below u h =
        let is = h.valid in
        let new = fresh u.trees u.next is.forest in
        let at = h.drawn in
        record {
          valid = valid_copied (copy_of f k) u (is_copy f nodes k) is;
          keeping = h.keeping;
          known = (parent_count f k c once child).0;
          later_labels = omega (arith, high);
          drawn = ap (λ j. j + 1) at;
          parent = subst (λ j. is_parent_at (with_leaf u.trees u.next (copy_of f k)) j ≡ true) at (ap (λ (o : Option Content). option_map_or may_have_children o false) (content_of-with_leaf_new u.trees u.next (copy_of f k) new));
          apart = λ y goes. (
              let off : u.next ≢ y = λ e. no_copy y goes (sym e ∙ at) in
              let same = tree_of-with_leaf_other u.trees u.next y (copy_of f k) off in
              let none : count_of u.trees n ≡ 0 = subst (λ j. count_of u.trees j ≡ 0) at new in
              omega (arith, none, ap (λ g. count_of g n) same, total-without (λ m _. cond (eqb m n) 1 0) u.trees y));
          same = λ x inside off. (let w = deeper c k x known child inside in parent_of-with_leaf u.trees u.next (copy_of f k) new x ∙ h.same x w.0 w.1);
        }

    between_begins : (u : State) → Begins c d n u → Between c k d n (made (copy_of f k) u)
    unfolding made
    between_begins u h =
        let is = h.valid in
        let new = fresh u.trees u.next is.forest in
        let d_there = is.forest.below d (parent_there u.trees d h.parent) in
        let off : u.next ≢ d = λ e. omega (arith, d_there, e) in
        let content = copy_of f k in
        let at = h.drawn in
        record {
          parent = ap (λ (o : Option Content). option_map_or may_have_children o false) (content_of-with_leaf_other u.trees u.next content d new off) ∙ h.parent;
          apart = λ y goes. away-with_leaf u.trees u.next content y d (ne_eqb u.next d off) (h.apart y goes);
          loose = subst (λ j. parent_of (with_leaf u.trees u.next content) j ≡ None) at (ap (option_and_then (λ (s : Seen Content). s.parent)) (seek-with_leaf_new u.trees u.next content new));
          there = subst (λ j. 0 < count_of (with_leaf u.trees u.next content) j) at (
              let own : eqb u.next u.next ≡ true = eq-eqb u.next u.next refl in
              let all = total-with_leaf u.trees u.next content new (λ m _. cond (eqb m u.next) 1 0) in
              let all' = rw own at all in
              omega (arith, all'));
          same = λ x inside other never. parent_of-with_leaf u.trees u.next content new x ∙ h.same x inside other;
        }

  abbrev Inner : ℕ → ℕ → Type 0
  Inner fuel n = (k : ℕ) (v : State) → Begins k n (n + 1) v → are_possible (tail_steps fuel f from k n (n + 1)) v ≡ true

  possible_tail : (fuel c d n : ℕ) (u : State) → Begins c d n u → are_possible (tail_steps fuel f from c d n) u ≡ true
  unfolding tail_steps are_possible stepped_all stepped applied with_change changed trees_after
  possible_tail zero c d n u h = refl
  possible_tail (suc fuel) c d n u h = elim (cases_Bool (eqb from.label c)) [
    | inl t ↦ rw t (carried_possible d (drop from.offset (children_of f c)) u h.valid h.keeping h.parent own_children (λ x. (let most = children_once f once c x in omega (arith, most, times-drop from.offset (children_of f c) x))))
    | inr t ↦ rw t (toward (λ k v. possible_tail fuel k n (n + 1) v) (child_toward f c from.label) refl)
  ]
    where
      own_children : (x : ℕ) → 0 < times (drop from.offset (children_of f c)) x → (o : ℕ) × (parent_of u.trees x ≡ Some o) × (count_of (tree_of u.trees x) d ≡ 0)
      own_children x some =
          let child = parent_among f once c x (omega (arith, some, times-drop from.offset (children_of f c) x)) in
          let w = under c x h.known child in
          (c, h.same x w.0 w.1 ∙ child, h.apart x (inl w))

      toward : Inner fuel n → (o : Option ℕ) → child_toward f c from.label ≡ o → are_possible (option_map_or (λ k. Copy (copy_of f k) ∷ (tail_steps fuel f from k n (n + 1) ++ (Do (Insert d None n) ∷ carried d (later (children_of f c) k)))) o []) u ≡ true
      toward inner None e = refl
      toward inner (Some k) e =
          let r = find_some (λ j. is_within f j from.label) (children_of f c) k e in
          let child = parent_among f once c k r.1 in
          let xs = tail_steps fuel f from k n (n + 1) in
          let v = made (copy_of f k) u in
          let below = begins_below c k d n h.known child h.later_labels u h in
          let possible = inner k v below in
          let w = stepped_all xs v in
          let between = between_after c k d n h.known child h.later_labels fuel v below.valid possible (between_begins c k d n h.known child h.later_labels u h) in
          let is_w = valid_steps xs v (plain fuel k n (n + 1)) possible below.valid in
          let keeps : w.keeping ≡ false = (command_steps xs v).keeping ∙ below.keeping in
          let inner_n : 0 < n = (let z = below.valid.forest.below 0 below.valid.forest.document in let q = h.valid.forest.below 0 h.valid.forest.document in omega (arith, q, h.drawn)) in
          let can : CanPut w.trees d None n = record {
            parent = parent_there w.trees d between.parent;
            node = between.there;
            inner = inner_n;
            loose = between.loose;
            apart = between.apart n (inr (omega arith));
            before = tt;
          } in
          let put = possible_insert d n w can between.parent in
          let z = applied (Insert d None n) w in
          let is_z = valid_applied (Insert d None n) w is_w put in
          let once_w = is_w.forest.distinct in
          possible-join xs (Do (Insert d None n) ∷ carried d (later (children_of f c) k)) v possible
          (both put
          (carried_possible d (later (children_of f c) k) z is_z keeps (parent_at-link w.trees d None n d once_w can between.parent)
          (λ x some. (
          let among = times-drop (place_in (children_of f c) k + 1) (children_of f c) x in
          let up = parent_among f once c x (omega (arith, some, among)) in
          let held = under c x h.known up in
          let k_known = (parent_count f k c once child).0 in
          let other : k ≢ x = λ q. (
          let none = later_none (children_of f c) k (children_once f once c k) in
          let some' : 0 < times (later (children_of f c) k) k = subst (λ j. 0 < times (later (children_of f c) k) j) (sym q) some in
          omega (arith, none, some')) in
          let never : IsWithin f k x → ⊥ = λ q. parent_apart f k c once child (within_step f k once k_known x c other up q) in
          let low_x = known_within c x held.0 in
          let off : n ≢ x = λ q. (let b = h.later_labels in omega (arith, low_x, q, b)) in (
            c,
            parent-link_other w.trees d None n x once_w can off ∙ (between.same x held.0 held.1 never ∙ up),
            away-link w.trees d None n x d once_w can.apart (between.apart x (inl held)),
          )))
          (λ x. (let most = children_once f once c x in omega (arith, most, times-drop (place_in (children_of f c) k + 1) (children_of f c) x)))))
        where
          plain : (fuel c d n : ℕ) → AllOf (Fits IsCopy (λ _. Unit {0}) (λ _. Unit {0})) (tail_steps fuel f from c d n)
          plain fuel c d n = tail_fits IsCopy (λ _. Unit {0}) (λ _. Unit {0}) f once 0 from (λ _. Unit {0}) (λ _ _ _ _ _. tt) (λ _ _ _ _. tt) (λ j _. is_copy f nodes j) (λ _ _. tt) (λ _ _. tt) fuel c d n tt tt (omega arith)

-- ---- the action

pub tail_possible : (s : State) → IsValid s → (from : Point) (end target : ℕ) → may_extract s from end target ≡ true → are_possible (tail_of s from end target) s ≡ true
unfolding tail_of
tail_possible s is from end target may =
    possible_tail s.trees is.forest.distinct is.forest.nodes s.next is.forest.below from (document_size s.trees) end target s.next s
    (record {
      valid = is;
      keeping = tests.keeping;
      known = end_there;
      later_labels = omega arith;
      drawn = refl;
      parent = tests.parent;
      apart = apart;
      same = λ x _ _. refl;
    })
  where
    tests : Extracts s from end target
    tests = extract_tests s from end target may

    there : (n l : ℕ) → IsWithin s.trees n l → 0 < count_of s.trees n
    there n l held = elim (none_or_some (count_of s.trees n)) [
      | inr some ↦ some
      | inl none ↦ absurd (let empty = tree_of_absent s.trees n none in let held' = rw empty at held in omega (arith, held'))
    ]

    end_there : 0 < count_of s.trees end
    end_there = there end from.label tests.below

    end_apart : IsWithin s.trees end target → ⊥
    end_apart h = true≢false (sym (lt-ltb 0 (count_of (tree_of s.trees end) target) h) ∙ tests.apart)

    apart : (y : ℕ) → (IsWithin s.trees end y × (y ≢ end)) ⊎ (s.next ≤ y) → count_of (tree_of s.trees y) target ≡ 0
    apart y goes = elim (none_or_some (count_of (tree_of s.trees y) target)) [
      | inl none ↦ none
      | inr some ↦ absurd (elim goes [
        | inl (inside, _) ↦ end_apart (within_trans s.trees end y target is.forest.distinct inside some)
        | inr high ↦ (let low = is.forest.below y (there y target some) in omega (arith, low, high))
      ])
    ]
