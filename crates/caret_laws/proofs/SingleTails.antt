-- Where a tail may be extracted, the single edits of the standard are made, each where its turn comes, and they are the steps of
-- the action.
use Rattle.std.proofs.Common.{◌≡◌, ◌≢◌, ◌⊎◌, ℕ, zero, suc, ◌+◌, ◌<◌, ◌≤◌, true, false, cond, eqb, List, [], ◌∷◌, ◌++◌, drop, Bool, Option, Some, None, refl, sym, ap, subst, ◌∙◌, inl, inr, arith, add-one, true≢false}
use Rattle.std.specs.Option.{option_map_or, option_and_then}
use Rattle.std.specs.List.{find}
use Rattle.std.specs.Prelude.{nat_lt, nat_le, unwrap_or, bytes_eq, codes}
use Rattle.std.proofs.lemmas.Bool.Decides.{eqb_tells}
use Rattle.std.proofs.lemmas.Bool.{and_parts, cases_Bool, eq-eqb, ne_eqb, eqb-true, ltb-true, lt-ltb, le-leb, le-ltb}
use Rattle.edit_model.specs.DomModel.declared.Content.{Content}
use Rattle.edit_model.specs.DomModel.declared.Content.TheVariants.{Element}
use Rattle.edit_model.specs.DomModel.AttributeList.{unset_in}
use Rattle.edit_model.specs.DomModel.Contents.{name_in, attributes_in, is_break}
use Rattle.edit_model.specs.DomModel.Editing.{editing_host, is_editable}
use Rattle.edit_model.specs.DomModel.Forest.{Forest, Seen, times, count_of, tree_of, parent_of, children_of, content_of, link, unlink, IsDistinct, IsWithin, CanPut, depth_of}
use Rattle.edit_model.specs.DomModel.Places.{place_in}
use Rattle.edit_model.proofs.DomModel.Kept.{content_of-link, content_of-unlink, content_of-with_leaf_other}
use Rattle.edit_model.proofs.DomModel.Links.{child_of_parent, parent_count, times-children_of, children_of-link, children_of-unlink, children_of-with_leaf, IsDistinct-link, IsDistinct-unlink, tree_of_absent}
use Rattle.edit_model.proofs.DomModel.Move.{parent_apart}
use Rattle.edit_model.proofs.DomModel.Stands.{seek_absent}
use Rattle.edit_model.proofs.DomModel.Totals.{total-without}
use Rattle.edit_model.proofs.DomModel.Within.{within_self, within_child, within_step}
use Rattle.edit_model.specs.LiveRange.declared.places.Point.{Point}
use Rattle.edit_model.specs.PointOrder.PointOrder.{is_within, child_toward}
use Rattle.edit_model.specs.State.{State}
use Rattle.edit_model.specs.Confined.{is_editable_for, is_inside, is_made, is_open, is_own, may_remove}
use Rattle.edit_model.specs.Edit.{Insert, Remove, Move, Replace, Set, Unset, is_made_edit, trees_after, changed, with_change, edited}
use Rattle.edit_model.specs.Tail.{Step, Copy, Do, carried, later, copy_of, tail_steps, document_size}
use Rattle.edit_model.specs.Action.{made, applied, stepped, stepped_all, tail_of, may_extract, extracted}
use Rattle.edit_model.specs.Possible.{freed, are_possible}
use Rattle.edit_model.specs.Valid.{IsValid}
use Rattle.edit_model.proofs.CommandParts.{SameCommand, same_command, command_steps}
use Rattle.edit_model.proofs.Forests.{fresh}
use Rattle.edit_model.proofs.TailForests.{away-unlink, away-link, away-with_leaf}
use Rattle.edit_model.proofs.TailPlan.{AllOf, Fits, IsCopy, is_copy, tail_fits, parent_among, find_some}
use Rattle.edit_model.proofs.TailPossible.{tail_possible}
use Rattle.edit_model.proofs.TailRuns.{fit_steps}
use Rattle.edit_model.proofs.TailSteps.{Extracts, extract_tests, either_extracted}
use Rattle.edit_model.proofs.Tests.{inserts, label_is}
use Rattle.edit_model.proofs.Hollow.{editable_below}
use Rattle.edit_model.proofs.Trees.{none_or_some, within_trans, tree_of-with_leaf_other}
use Rattle.edit_model.proofs.ValidParts.{valid_applied, valid_copied, valid_steps}
use Rattle.edit_laws.proofs.Hosts.{host_from-join}
use Rattle.command_laws.proofs.Openness.{host_same}
use Rattle.caret_laws.specs.SingleEdits.{may_be_taken, brought_all, later_brought, tail_brought, extracted_singly}
use Rattle.caret_laws.specs.TailRun.{GoesAlone, Leave}
use Rattle.caret_laws.proofs.Carrying.{Passes, Carries, carried_singly, insert_made, host_inserted, content_inserted, open_by, command_applied}
use Rattle.caret_laws.proofs.Trees.{same_seen, same_inside, parent-link_other, parent-unlink_other, made_open, editable_open, within_both, editable_above}

-- ---- lists of steps

stepped-append : (xs ys : List Step) (u : State) → stepped_all (xs ++ ys) u ≡ stepped_all ys (stepped_all xs u)
unfolding stepped_all
stepped-append [] ys u = refl
stepped-append (x ∷ xs) ys u = stepped-append xs ys (stepped x u)

possible-append : (xs ys : List Step) (u : State) → are_possible (xs ++ ys) u ≡ true → (are_possible xs u ≡ true) × (are_possible ys (stepped_all xs u) ≡ true)
unfolding stepped_all are_possible
possible-append [] ys u h = (refl, h)
possible-append (Copy c ∷ xs) ys u h = possible-append xs ys (stepped (Copy c) u) h
possible-append (Do e ∷ xs) ys u h =
    let p = and_parts (is_made_edit e (freed u)) _ h in
    let q = possible-append xs ys (stepped (Do e) u) p.1 in
    (rw p.0 q.0, q.1)

times-drop : (n : ℕ) (xs : List ℕ) (x : ℕ) → times (drop n xs) x ≤ times xs x
times-drop zero xs x = omega arith
times-drop (suc n) [] x = omega arith
times-drop (suc n) (y ∷ xs) x = omega (arith, times-drop n xs x)

head_in : (x : ℕ) (xs : List ℕ) → 0 < times (x ∷ xs) x
head_in x xs = let own : eqb x x ≡ true = eq-eqb x x refl in rw own (omega arith)

-- tests that agree on the members of a list find the same one, and one that none passes finds none
find-same : (p q : ℕ → Bool) (xs : List ℕ) → ((k : ℕ) → 0 < times xs k → p k ≡ q k) → find p xs ≡ find q xs
find-same p q [] h = refl
find-same p q (x ∷ xs) h =
    rw (h x (head_in x xs)) (ap (λ o. cond (q x) (Some x) o) (find-same p q xs (λ k some. h k (omega (arith, some)))))

find-none : (p : ℕ → Bool) (xs : List ℕ) → ((k : ℕ) → 0 < times xs k → p k ≡ false) → find p xs ≡ None
find-none p [] h = refl
find-none p (x ∷ xs) h =
    rw (h x (head_in x xs)) (find-none p xs (λ k some. h k (omega (arith, some))))

-- k is not among those after it
later_none : (xs : List ℕ) (k : ℕ) → times xs k ≤ 1 → times (later xs k) k ≡ 0
later_none [] k few = by (0 + 1)
  where
    by : (n : ℕ) → times (drop n []) k ≡ 0
    by zero = refl
    by (suc n) = refl
later_none (x ∷ xs) k few = elim (eqb_tells x k) [
  | inl (t, _) ↦ (let few' = rw t at few in rw t (omega (arith, few')))
  | inr (t, _) ↦ (let few' = rw t at few in rw (t, add-one) (later_none xs k (omega (arith, few'))))
]

-- ---- the steps of a list that remove a node of a kind

leave_append : (A : ℕ → Type 0) (xs ys : List Step) → Leave A (xs ++ ys) → Leave A xs × Leave A ys
leave_append A [] ys h = (tt, h)
leave_append A (Copy c ∷ xs) ys h = leave_append A xs ys h
leave_append A (Do (Remove n) ∷ xs) ys h = let r = leave_append A xs ys h.1 in ((h.0, r.0), r.1)
leave_append A (Do (Insert p b n) ∷ xs) ys h = leave_append A xs ys h
leave_append A (Do (Move n p b) ∷ xs) ys h = leave_append A xs ys h
leave_append A (Do (Replace n at count put) ∷ xs) ys h = leave_append A xs ys h
leave_append A (Do (Set n name value) ∷ xs) ys h = leave_append A xs ys h
leave_append A (Do (Unset n name) ∷ xs) ys h = leave_append A xs ys h

leave_all : (xs : List Step) → Leave (λ _. Unit {0}) xs
leave_all [] = tt
leave_all (Copy c ∷ xs) = leave_all xs
leave_all (Do (Remove n) ∷ xs) = (tt, leave_all xs)
leave_all (Do (Insert p b n) ∷ xs) = leave_all xs
leave_all (Do (Move n p b) ∷ xs) = leave_all xs
leave_all (Do (Replace n at count put) ∷ xs) = leave_all xs
leave_all (Do (Set n name value) ∷ xs) = leave_all xs
leave_all (Do (Unset n name) ∷ xs) = leave_all xs

-- ---- the whole tail, by removals with a test that passes

module _ (s : State) (is : IsValid s) (from : Point) (test : State → ℕ → Bool) (A : ℕ → Type 0) (passes : Passes s test A) where
  abbrev f : Forest Content
  f = s.trees

  once : IsDistinct s.trees
  once = is.forest.distinct

  low : (l : ℕ) → 0 < count_of s.trees l → l < s.next
  low = is.forest.below

  -- c has the tree that it had at first, and each node of it its host; each around the point is open; and d was made by the command
  record Stage (c d : ℕ) (u : State) : Type 0 where
    valid : IsValid u
    command : SameCommand s u
    keeping : u.keeping ≡ false
    later_labels : s.next ≤ u.next
    known : 0 < count_of f c
    same : tree_of u.trees c ≡ tree_of f c
    hosts : (y : ℕ) → IsWithin f c y → editing_host u.trees y ≡ editing_host f y
    allowed : (y : ℕ) → IsWithin f c y → IsWithin f y from.label → is_open u y ≡ true
    own : is_made u d ≡ true
    off : d ≢ c

  -- ---- what the steps below the child k leave as it is for c and its other children; the copy has the label n

  -- a node that goes below k, or a copy
  abbrev Goes : ℕ → ℕ → ℕ → Type 0
  Goes k n y = (IsWithin f k y × (y ≢ k)) ⊎ (n ≤ y)

  -- a node of c that k doesn't hold
  abbrev Beside : ℕ → ℕ → ℕ → Type 0
  Beside c k l = IsWithin f c l × (IsWithin f k l → ⊥)

  record Frame (c k n : ℕ) (z : State) : Type 0 where
    next_label : s.next ≤ z.next
    children : children_of z.trees c ≡ children_of f c
    apart : (l : ℕ) → Beside c k l → (y : ℕ) → Goes k n y → count_of (tree_of z.trees y) l ≡ 0
    hosted : (l : ℕ) → Beside c k l → editing_host z.trees l ≡ editing_host f l
    content : (l : ℕ) → Beside c k l → content_of z.trees l ≡ content_of f l

  known_in : (c l : ℕ) → IsWithin f c l → 0 < count_of f l
  known_in c l inside = omega (arith, inside, total-without (λ m _. cond (eqb m l) 1 0) f c)

  module _ (c k n : ℕ) (known : 0 < count_of f c) (child : parent_of f k ≡ Some c) (high : s.next ≤ n) where
    k_known : 0 < count_of f k
    k_known = (parent_count f k c once child).0

    off_next : (m l : ℕ) → s.next ≤ m → 0 < count_of f l → m ≢ l
    off_next m l more some e = let b = low l some in omega (arith, b, more, e)

    beside_self : Beside c k c
    beside_self = (within_self f c once known, parent_apart f k c once child)

    -- another child of c
    beside_child : (x : ℕ) → parent_of f x ≡ Some c → k ≢ x → Beside c k x
    beside_child x up off = (
      within_child f c once known x c up (within_self f c once known),
      λ held. parent_apart f k c once child (within_step f k once k_known x c off up held),
    )

    -- what goes is no child of c
    no_child : (m : ℕ) → Goes k n m → parent_of f m ≡ Some c → ⊥
    no_child m (inl (inside, off)) up = parent_apart f k c once child (within_step f k once k_known m c (λ e. off (sym e)) up inside)
    no_child m (inr more) up = let b = low m (parent_count f m c once up).0 in omega (arith, b, more, high)

    -- a node with the children that c had is no parent of what goes
    no_parent : (z : State) (m o : ℕ) → IsValid z → Frame c k n z → Goes k n m → parent_of z.trees m ≡ Some o → o ≢ c
    no_parent z m o is_z h goes up e =
        let r = child_of_parent z.trees m o is_z.forest.distinct up in
        let here : children_of z.trees o ≡ r.0.children = ap (λ w. option_map_or (λ (x : Seen Content). x.children) w []) r.2 in
        let among : 0 < times (children_of z.trees o) m = subst (λ xs. 0 < times xs m) (sym here) r.3 in
        let among_c : 0 < times (children_of z.trees c) m = subst (λ j. 0 < times (children_of z.trees j) m) e among in
        let before : 0 < times (children_of f c) m = subst (λ xs. 0 < times xs m) h.children among_c in
        no_child m goes (parent_among f once c m before)

    frame_made : (content : Content) (z : State) → IsValid z → Frame c k n z → Frame c k n (made content z)
    unfolding made
    frame_made content z is_z h =
        let new = fresh z.trees z.next is_z.forest in
        record {
          next_label = (let more = h.next_label in omega (arith, more));
          children = children_of-with_leaf z.trees z.next content new c ∙ h.children;
          apart = λ l beside y goes. away-with_leaf z.trees z.next content y l (ne_eqb z.next l (off_next z.next l h.next_label (known_in c l beside.0))) (h.apart l beside y goes);
          hosted = λ l beside. host_from-join z.next content l (off_next z.next l h.next_label (known_in c l beside.0)) false None z.trees ∙ h.hosted l beside;
          content = λ l beside. content_of-with_leaf_other z.trees z.next content l new (off_next z.next l h.next_label (known_in c l beside.0)) ∙ h.content l beside;
        }

    frame_removed : (m o : ℕ) (z : State) → IsValid z → Goes k n m → parent_of z.trees m ≡ Some o → Frame c k n z → Frame c k n (applied (Remove m) z)
    unfolding applied with_change changed trees_after
    frame_removed m o z is_z goes up h =
        let g = z.trees in
        let once' = is_z.forest.distinct in
        let t : eqb o c ≡ false = ne_eqb o c (no_parent z m o is_z h goes up) in
        record {
          next_label = h.next_label;
          children = children_of-unlink g o m once' up c ∙ rw t h.children;
          apart = λ l beside y other. away-unlink g m y l once' (h.apart l beside m goes) (h.apart l beside y other);
          hosted = λ l beside.
              host_same g (unlink g m) once' (IsDistinct-unlink g o m once' up) m (parent_count g m o once' up).0
              (λ j off. parent-unlink_other g o m j once' up off) (λ j. content_of-unlink g o m j once' up) (depth_of g l) l refl (λ some. (let out = h.apart l beside m goes in omega (arith, some, out)))
              ∙ h.hosted l beside;
          content = λ l beside. content_of-unlink g o m l once' up ∙ h.content l beside;
        }

    frame_inserted : (p : ℕ) (b : Option ℕ) (m : ℕ) (z : State) → IsValid z → n ≤ p → Goes k n m → CanPut z.trees p b m → Frame c k n z → Frame c k n (applied (Insert p b m) z)
    unfolding applied with_change changed trees_after
    frame_inserted p b m z is_z place goes can h =
        let g = z.trees in
        let once' = is_z.forest.distinct in
        let t : eqb p c ≡ false = ne_eqb p c (off_next p c (omega (arith, place, high)) known) in
        record {
          next_label = h.next_label;
          children = children_of-link g p b m once' can c ∙ rw t h.children;
          apart = λ l beside y other. away-link g p b m y l once' (h.apart l beside m goes) (h.apart l beside y other);
          hosted = λ l beside.
              host_same g (link g p b m) once' (IsDistinct-link g p b m once' can) m can.node
              (λ j off. parent-link_other g p b m j once' can off) (λ j. content_of-link g p b m j once' can) (depth_of g l) l refl (λ some. (let out = h.apart l beside m goes in omega (arith, some, out)))
              ∙ h.hosted l beside;
          content = λ l beside. content_of-link g p b m l once' can ∙ h.content l beside;
        }

    fits_below : (fuel : ℕ) → AllOf (Fits IsCopy (Goes k n) (λ p. n ≤ p)) (tail_steps fuel f from k n (n + 1))
    fits_below fuel =
        tail_fits IsCopy (Goes k n) (λ p. n ≤ p) f once (n + 1) from (λ j. IsWithin f k j)
        (λ a b path up _. within_child f k once k_known b a up path)
        (λ a x path up. inl (within_child f k once k_known x a up path, λ e. parent_apart f k a once (ap (parent_of f) (sym e) ∙ up) path))
        (λ j _. is_copy f is.forest.nodes j) (λ j more. inr (omega (arith, more))) (λ j more. omega (arith, more)) fuel k n (n + 1) (within_self f k once k_known) (omega arith) (omega arith)

    frame_after : (fuel : ℕ) (v : State) → IsValid v → are_possible (tail_steps fuel f from k n (n + 1)) v ≡ true → Frame c k n v → Frame c k n (stepped_all (tail_steps fuel f from k n (n + 1)) v)
    frame_after fuel v is_v may h =
        fit_steps IsCopy (Goes k n) (λ p. n ≤ p) (λ _ q. q) (Frame c k n)
        (λ content z is' _ q. frame_made content z is' q) (λ m o z is' goes up q. frame_removed m o z is' goes up q) (λ p b m z is' place goes can q. frame_inserted p b m z is' place goes can q)
        (tail_steps fuel f from k n (n + 1)) v (fits_below fuel) may is_v h

  plain : (fuel c d n : ℕ) → AllOf (Fits IsCopy (λ _. Unit {0}) (λ _. Unit {0})) (tail_steps fuel f from c d n)
  plain fuel c d n = tail_fits IsCopy (λ _. Unit {0}) (λ _. Unit {0}) f once 0 from (λ _. Unit {0}) (λ _ _ _ _ _. tt) (λ _ _ _ _. tt) (λ j _. is_copy f is.forest.nodes j) (λ _ _. tt) (λ _ _. tt) fuel c d n tt tt (omega arith)

  module _ (c d : ℕ) (u : State) (h : Stage c d u) where
    once_u : IsDistinct u.trees
    once_u = h.valid.forest.distinct

    seen_c : (content_of u.trees c ≡ content_of f c) × (children_of u.trees c ≡ children_of f c)
    seen_c = same_seen f u.trees c once once_u h.known h.same

    child_in : (x : ℕ) → 0 < times (children_of f c) x → parent_of u.trees x ≡ Some c
    child_in x some = parent_among u.trees once_u c x (subst (λ xs. 0 < times xs x) (sym seen_c.1) some)

    child_held : (x : ℕ) → 0 < times (children_of f c) x → IsWithin f c x
    child_held x some = within_child f c once h.known x c (parent_among f once c x some) (within_self f c once h.known)

    tree_held : (x : ℕ) → IsWithin f c x → tree_of u.trees x ≡ tree_of f x
    tree_held x inside = same_inside f u.trees c x once once_u h.same inside

    content_held : (x : ℕ) → IsWithin f c x → content_of u.trees x ≡ content_of f x
    content_held x inside = (same_seen f u.trees x once once_u (known_in c x inside) (tree_held x inside)).0

    -- the child that the point stands in is found as at first
    toward_same : child_toward u.trees c from.label ≡ child_toward f c from.label
    toward_same =
        ap (λ xs. find (λ k. is_within u.trees k from.label) xs) seen_c.1
        ∙ find-same (λ k. is_within u.trees k from.label) (λ k. is_within f k from.label) (children_of f c)
        (λ k some. ap (λ g. nat_lt 0 (count_of g from.label)) (tree_held k (child_held k some)))

    -- the point's node itself: its children go
    here_singly : from.label ≡ c → Leave A (carried d (drop from.offset (children_of f c))) → are_possible (carried d (drop from.offset (children_of f c))) u ≡ true
        → brought_all test d (drop from.offset (children_of u.trees c)) u ≡ stepped_all (carried d (drop from.offset (children_of f c))) u
    here_singly at alone may =
        ap (λ xs. brought_all test d (drop from.offset xs) u) seen_c.1
        ∙ carried_singly s test A passes c d (drop from.offset (children_of f c)) u carries alone may
      where
        listed : (x : ℕ) → 0 < times (drop from.offset (children_of f c)) x → 0 < times (children_of f c) x
        listed x some = omega (arith, some, times-drop from.offset (children_of f c) x)

        carries : Carries s test A passes c d (drop from.offset (children_of f c)) u
        carries = record {
          valid = h.valid;
          command = h.command;
          keeping = h.keeping;
          allowed = h.allowed c (within_self f c once h.known) (subst (λ j. IsWithin f c j) (sym at) (within_self f c once h.known));
          own = h.own;
          child = λ x some. child_in x (listed x some);
          hosted = λ x some. h.hosts x (child_held x (listed x some));
          content = λ x some. content_held x (child_held x (listed x some));
          few = λ x. omega (arith, times-drop from.offset (children_of f c) x, times-children_of f c x once);
        }

    module _ (k : ℕ) (among : 0 < times (children_of f c) k) (path : IsWithin f k from.label) where
      child : parent_of f k ≡ Some c
      child = parent_among f once c k among

      known_k : 0 < count_of f k
      known_k = (parent_count f k c once child).0

      in_c : IsWithin f c k
      in_c = child_held k among

      copy_same : copy_of u.trees k ≡ copy_of f k
      unfolding copy_of
      copy_same =
          ap (λ (o : Option Content). Element (unwrap_or (option_and_then name_in o) []) (unset_in (unwrap_or (option_and_then attributes_in o) []) (codes "id")))
          (content_held k in_c)

      valid_v : IsValid (made (copy_of f k) u)
      valid_v = valid_copied (copy_of f k) u (is_copy f is.forest.nodes k) h.valid

      off_new : (y : ℕ) → 0 < count_of f y → u.next ≢ y
      off_new y some e = let b = low y some in let more = h.later_labels in omega (arith, b, more, e)

      new : count_of u.trees u.next ≡ 0
      new = fresh u.trees u.next h.valid.forest

      host_made : (y : ℕ) → 0 < count_of f y → editing_host (made (copy_of f k) u).trees y ≡ editing_host u.trees y
      unfolding made
      host_made y some = host_from-join u.next (copy_of f k) y (off_new y some) false None u.trees

      same_made : (made (copy_of f k) u).host ≡ u.host
      unfolding made
      same_made = refl

      start_made : (made (copy_of f k) u).start ≡ u.start
      unfolding made
      start_made = refl

      command_made : SameCommand s (made (copy_of f k) u)
      unfolding made
      command_made = record { start = h.command.start; cap = h.command.cap; host = h.command.host; keeping = h.command.keeping }

      own_new : is_made (made (copy_of f k) u) u.next ≡ true
      unfolding made is_made
      own_new = le-leb u.start u.next h.valid.started

      below : Stage k u.next (made (copy_of f k) u)
      unfolding made
      below = record {
        valid = valid_v;
        command = command_made;
        keeping = h.keeping;
        later_labels = (let more = h.later_labels in omega (arith, more));
        known = known_k;
        same = tree_of-with_leaf_other u.trees u.next k (copy_of f k) (off_new k known_k) ∙ tree_held k in_c;
        hosts = λ y inside. host_made y (known_in k y inside) ∙ h.hosts y (within_trans f c k y once in_c inside);
        allowed = λ y inside around. open_by u (made (copy_of f k) u) y same_made start_made (host_made y (known_in k y inside)) ∙ h.allowed y (within_trans f c k y once in_c inside) around;
        own = own_new;
        off = off_new k known_k;
      }

      -- what goes doesn't hold a node beside k
      apart_u : (l : ℕ) → Beside c k l → (y : ℕ) → Goes k u.next y → count_of (tree_of u.trees y) l ≡ 0
      apart_u l beside y (inl (inside, off)) =
          ap (λ g. count_of g l) (tree_held y (within_trans f c k y once in_c inside))
          ∙ (elim (none_or_some (count_of (tree_of f y) l)) [
            | inl none ↦ none
            | inr some ↦ absurd (beside.1 (within_trans f k y l once inside some))
          ])
      apart_u l beside y (inr more) = elim (none_or_some (count_of u.trees y)) [
        | inl none ↦ rw (tree_of_absent u.trees y none) refl
        | inr some ↦ absurd (let b = h.valid.forest.below y some in omega (arith, b, more))
      ]

      frame_v : Frame c k u.next (made (copy_of f k) u)
      unfolding made
      frame_v = record {
        next_label = (let more = h.later_labels in omega (arith, more));
        children = children_of-with_leaf u.trees u.next (copy_of f k) new c ∙ seen_c.1;
        apart = λ l beside y goes. away-with_leaf u.trees u.next (copy_of f k) y l (ne_eqb u.next l (off_new l (known_in c l beside.0))) (apart_u l beside y goes);
        hosted = λ l beside. host_made l (known_in c l beside.0) ∙ h.hosts l beside.0;
        content = λ l beside. content_of-with_leaf_other u.trees u.next (copy_of f k) l new (off_new l (known_in c l beside.0)) ∙ content_held l beside.0;
      }

      beside_c : Beside c k c
      beside_c = beside_self c k u.next h.known child h.later_labels

      module _ (w : State) (valid_w : IsValid w) (command : SameCommand (made (copy_of f k) u) w) (frame : Frame c k u.next w) (put : is_made_edit (Insert d None u.next) (freed w) ≡ true) where
        own_w : is_made w d ≡ true
        unfolding made is_made
        own_w = ap (λ m. nat_le m d) command.start ∙ h.own

        keeping_w : w.keeping ≡ false
        unfolding made
        keeping_w = command.keeping ∙ h.keeping

        command_w : SameCommand s w
        unfolding made
        command_w = record { start = command.start ∙ h.command.start; cap = command.cap ∙ h.command.cap; host = command.host ∙ h.command.host; keeping = command.keeping ∙ h.command.keeping }

        host_w : w.host ≡ u.host
        unfolding made
        host_w = command.host

        start_w : w.start ≡ u.start
        unfolding made
        start_w = command.start

        can : CanPut w.trees d None u.next
        unfolding is_made_edit
        can = (inserts (freed w) d None u.next put).can

        put_children : children_of (applied (Insert d None u.next) w).trees c ≡ children_of f c
        unfolding applied with_change changed trees_after
        put_children =
            let t : eqb d c ≡ false = ne_eqb d c h.off in
            children_of-link w.trees d None u.next valid_w.forest.distinct can c ∙ rw t frame.children

        own_put : is_made (applied (Insert d None u.next) w) d ≡ true
        unfolding applied with_change changed is_made
        own_put = own_w

        keeping_put : (applied (Insert d None u.next) w).keeping ≡ false
        unfolding applied with_change changed
        keeping_put = keeping_w

        host_put : (applied (Insert d None u.next) w).host ≡ w.host
        unfolding applied with_change changed
        host_put = refl

        start_put : (applied (Insert d None u.next) w).start ≡ w.start
        unfolding applied with_change changed
        start_put = refl

        hosted_put : (l : ℕ) → Beside c k l → editing_host (applied (Insert d None u.next) w).trees l ≡ editing_host f l
        hosted_put l beside =
            host_inserted d u.next l w valid_w can (λ some. (let out = frame.apart l beside u.next (inr (omega arith)) in omega (arith, some, out))) ∙ frame.hosted l beside

        -- each other child after k
        after_k : (x : ℕ) → 0 < times (later (children_of f c) k) x → (0 < times (children_of f c) x) × Beside c k x
        after_k x some =
            let among_c : 0 < times (children_of f c) x = omega (arith, some, times-drop (place_in (children_of f c) k + 1) (children_of f c) x) in
            let off : k ≢ x = λ e. (
            let none = later_none (children_of f c) k (times-children_of f c k once) in
            let some' : 0 < times (later (children_of f c) k) k = subst (λ j. 0 < times (later (children_of f c) k) j) (sym e) some in
            omega (arith, none, some')) in
            (among_c, beside_child c k u.next h.known child h.later_labels x (parent_among f once c x among_c) off)

        rest_singly : Leave A (carried d (later (children_of f c) k)) → are_possible (carried d (later (children_of f c) k)) (applied (Insert d None u.next) w) ≡ true
            → later_brought test c d k (edited (Insert d None u.next) w) ≡ stepped_all (carried d (later (children_of f c) k)) (applied (Insert d None u.next) w)
        unfolding later_brought
        rest_singly alone may =
            let z = applied (Insert d None u.next) w in
            let is_z = valid_applied (Insert d None u.next) w valid_w put in
            let open_c = h.allowed c (within_self f c once h.known) (within_trans f c k from.label once in_c path) in
            ap (λ y. brought_all test d (later (children_of y.trees c) k) y) (insert_made d u.next w put (made_open w d own_w))
            ∙ (ap (λ xs. brought_all test d (later xs k) z) put_children
            ∙ carried_singly s test A passes c d (later (children_of f c) k) z
            (record {
              valid = is_z;
              command = command_applied s w (Insert d None u.next) command_w;
              keeping = keeping_put;
              allowed = open_by u z c (host_put ∙ host_w) (start_put ∙ start_w) (hosted_put c beside_c ∙ sym (h.hosts c beside_c.0)) ∙ open_c;
              own = own_put;
              child = λ x some. parent_among z.trees is_z.forest.distinct c x (subst (λ xs. 0 < times xs x) (sym put_children) (after_k x some).0);
              hosted = λ x some. hosted_put x (after_k x some).1;
              content = λ x some. content_inserted d u.next x w valid_w can ∙ frame.content x (after_k x some).1;
              few = λ x. omega (arith, times-drop (place_in (children_of f c) k + 1) (children_of f c) x, times-children_of f c x once);
            })
            alone may)

  abbrev Inner : ℕ → State → Type 0
  Inner fuel u = (k : ℕ) → Stage k u.next (made (copy_of f k) u) → Leave A (tail_steps fuel f from k u.next (u.next + 1)) → are_possible (tail_steps fuel f from k u.next (u.next + 1)) (made (copy_of f k) u) ≡ true
      → tail_brought test fuel from k u.next (made (copy_of f k) u) ≡ stepped_all (tail_steps fuel f from k u.next (u.next + 1)) (made (copy_of f k) u)

  -- the steps where the point stands below the child k
  abbrev Through : ℕ → ℕ → ℕ → ℕ → ℕ → List Step
  Through fuel c d n k = Copy (copy_of f k) ∷ (tail_steps fuel f from k n (n + 1) ++ (Do (Insert d None n) ∷ carried d (later (children_of f c) k)))

  through : (fuel c d : ℕ) (u : State) → Stage c d u → Inner fuel u → (k : ℕ) → child_toward f c from.label ≡ Some k
      → Leave A (Through fuel c d u.next k) → are_possible (Through fuel c d u.next k) u ≡ true
      → later_brought test c d k (edited (Insert d None u.next) (tail_brought test fuel from k u.next (made (copy_of u.trees k) u))) ≡ stepped_all (Through fuel c d u.next k) u
  unfolding stepped_all stepped are_possible
  through fuel c d u h inner k e alone may =
      let r = find_some (λ j. is_within f j from.label) (children_of f c) k e in
      let path : IsWithin f k from.label = ltb-true 0 (count_of (tree_of f k) from.label) r.0 in
      let n = u.next in
      let v = made (copy_of f k) u in
      let xs = tail_steps fuel f from k n (n + 1) in
      let ys = carried d (later (children_of f c) k) in
      let apart = leave_append A xs (Do (Insert d None n) ∷ ys) alone in
      let parts = possible-append xs (Do (Insert d None n) ∷ ys) v may in
      let w = stepped_all xs v in
      let put = and_parts (is_made_edit (Insert d None n) (freed w)) _ parts.1 in
      let is_v = valid_v c d u h k r.1 path in
      let is_w = valid_steps xs v (plain fuel k n (n + 1)) parts.0 is_v in
      let frame = frame_after c k n h.known (parent_among f once c k r.1) h.later_labels fuel v is_v parts.0 (frame_v c d u h k r.1 path) in
      ap (λ copy. later_brought test c d k (edited (Insert d None n) (tail_brought test fuel from k n (made copy u)))) (copy_same c d u h k r.1 path)
      ∙ (ap (λ y. later_brought test c d k (edited (Insert d None n) y)) (inner k (below c d u h k r.1 path) apart.0 parts.0)
      ∙ (rest_singly c d u h k r.1 path w is_w (command_steps xs v) frame put.0 apart.1 put.1
      ∙ sym (stepped-append xs (Do (Insert d None n) ∷ ys) v)))

  singly : (fuel c d : ℕ) (u : State) → Stage c d u → Leave A (tail_steps fuel f from c d u.next) → are_possible (tail_steps fuel f from c d u.next) u ≡ true → tail_brought test fuel from c d u ≡ stepped_all (tail_steps fuel f from c d u.next) u
  unfolding tail_brought tail_steps made stepped_all
  singly zero c d u h alone may = refl
  singly (suc fuel) c d u h alone may = elim (cases_Bool (eqb from.label c)) [
    | inl t ↦ (let may' = rw t at may in let alone' = rw t at alone in rw t (here_singly c d u h (eqb-true from.label c t) alone' may'))
    | inr t ↦ (let may' = rw t at may in let alone' = rw t at alone in
        rw (t, toward_same c d u h) (toward (λ k stage inner_alone inner_may. singly fuel k u.next (made (copy_of f k) u) stage inner_alone inner_may) (child_toward f c from.label) refl alone' may'))
  ]
    where
      toward : Inner fuel u → (o : Option ℕ) → child_toward f c from.label ≡ o
          → Leave A (option_map_or (λ k. Through fuel c d u.next k) o [])
          → are_possible (option_map_or (λ k. Through fuel c d u.next k) o []) u ≡ true
          → option_map_or (λ k. later_brought test c d k (edited (Insert d None u.next) (tail_brought test fuel from k u.next (made (copy_of u.trees k) u)))) o u
          ≡ stepped_all (option_map_or (λ k. Through fuel c d u.next k) o []) u
      toward inner None e alone may = refl
      toward inner (Some k) e alone may = through fuel c d u h inner k e alone may

-- ---- the action

module _ (s : State) (is : IsValid s) (from : Point) (end target : ℕ) (may : may_extract s from end target ≡ true) where
  tests : Extracts s from end target
  tests = extract_tests s from end target may

  end_known : 0 < count_of s.trees end
  end_known = let inside = tests.end_inside in omega (arith, inside, total-without (λ m _. cond (eqb m end) 1 0) s.trees 0)

  -- the nodes between the two are editable, so open
  around_open : (y : ℕ) → IsWithin s.trees end y → IsWithin s.trees y from.label → is_open s y ≡ true
  unfolding is_open is_inside is_editable_for
  around_open y inside around = by_host s.host refl tests.end_editable tests.from_editable
    where
      by_host : (o : Option ℕ) → s.host ≡ o → option_map_or (λ k. is_editable s.trees k end) o false ≡ true → option_map_or (λ k. is_editable s.trees k from.label) o false ≡ true → is_open s y ≡ true
      by_host None e at_end at_from = absurd (true≢false (sym at_end))
      by_host (Some k) e at_end at_from =
          let f = s.trees in
          let once = is.forest.distinct in
          let end_below = editable_below f once end k (label_is (editing_host f end) k at_end) in
          let below = within_trans f k end y once end_below.0 inside in
          let off : y ≢ k = λ q. end_below.1 (within_both f end k once (subst (λ j. IsWithin f end j) q inside) end_below.0) in
          editable_open s y (editable_above s is k e y below off from.label around tests.from_editable)

  apart_end : target ≢ end
  apart_end e = true≢false (sym (lt-ltb 0 (count_of (tree_of s.trees end) target) (subst (λ k. IsWithin s.trees end k) (sym e) (within_self s.trees end is.forest.distinct end_known))) ∙ tests.apart)

  begins : (test : State → ℕ → Bool) (A : ℕ → Type 0) (passes : Passes s test A) → Stage s is from test A passes end target s
  begins test A passes = record {
    valid = is;
    command = same_command s;
    keeping = tests.keeping;
    later_labels = omega arith;
    known = end_known;
    same = refl;
    hosts = λ y inside. refl;
    allowed = around_open;
    own = tests.made;
    off = apart_end;
  }

  made_by : (test : State → ℕ → Bool) (A : ℕ → Type 0) → Passes s test A → Leave A (tail_of s from end target) → tail_brought test (document_size s.trees) from end target s ≡ stepped_all (tail_of s from end target) s
  unfolding tail_of
  made_by test A passes alone = singly s is from test A passes (document_size s.trees) end target s (begins test A passes) alone (tail_possible s is from end target may)

  free_passes : Passes s may_be_taken (λ _. Unit {0})
  unfolding may_be_taken
  free_passes u x c command keeps child allowed hosted content alone = rw (child, allowed, keeps) refl

  pub made_singly : extracted_singly from end target s ≡ stepped_all (tail_of s from end target) s
  unfolding extracted_singly
  made_singly = made_by may_be_taken (λ _. Unit {0}) free_passes (leave_all (tail_of s from end target))

  own_same : (u : State) (x : ℕ) → SameCommand s u → editing_host u.trees x ≡ editing_host s.trees x → is_own u x ≡ is_own s x
  unfolding is_own is_editable_for is_made
  own_same u x command hosted = rw (command.host, command.start, hosted) refl

  break_same : (u : State) (x : ℕ) → content_of u.trees x ≡ content_of s.trees x → is_break u.trees x ≡ is_break s.trees x
  break_same u x content = ap (λ (o : Option Content). option_map_or (λ own. bytes_eq own (codes "br")) (option_and_then name_in o) false) content

  own_passes : Passes s may_remove (GoesAlone s)
  unfolding may_remove
  own_passes u x c command keeps child allowed hosted content alone =
      rw (child, allowed, own_same u x command hosted, break_same u x content, alone, keeps) refl

  pub made_alone : Leave (GoesAlone s) (tail_of s from end target) → tail_brought may_remove (document_size s.trees) from end target s ≡ stepped_all (tail_of s from end target) s
  made_alone alone = made_by may_remove (GoesAlone s) own_passes alone

  pub extracted_is : extracted from end target s ≡ stepped_all (tail_of s from end target) s
  unfolding extracted
  extracted_is = rw may refl

pub tails_singly : (s : State) (from : Point) (end target : ℕ) → IsValid s → may_extract s from end target ≡ true → extracted from end target s ≡ extracted_singly from end target s
tails_singly s from end target is may = extracted_is s is from end target may ∙ sym (made_singly s is from end target may)

-- ---- where the point stands outside

none_brought : (target n : ℕ) (s : State) → brought_all may_be_taken target (drop n []) s ≡ s
unfolding brought_all
none_brought target zero s = refl
none_brought target (suc n) s = refl

module _ (s : State) (is : IsValid s) (from : Point) (end target : ℕ) (out : is_within s.trees end from.label ≡ false) where
  never : IsWithin s.trees end from.label → ⊥
  never held = true≢false (sym (lt-ltb 0 (count_of (tree_of s.trees end) from.label) held) ∙ out)

  -- a child of the node doesn't hold the point's node
  child_off : (k : ℕ) → 0 < times (children_of s.trees end) k → is_within s.trees k from.label ≡ false
  child_off k among = le-ltb 0 (count_of (tree_of s.trees k) from.label) (elim (none_or_some (count_of (tree_of s.trees k) from.label)) [
    | inl none ↦ omega (arith, none)
    | inr some ↦ absurd (
        let once = is.forest.distinct in
        let child = parent_among s.trees once end k among in
        let known = (parent_count s.trees k end once child).1 in
        never (within_trans s.trees end k from.label once (within_child s.trees end once known k end child (within_self s.trees end once known)) some))
  ])

  -- where the node is the point's own it isn't there
  own_childless : from.label ≡ end → children_of s.trees end ≡ []
  own_childless at = elim (none_or_some (count_of s.trees end)) [
    | inl none ↦ ap (λ o. option_map_or (λ (x : Seen Content). x.children) o []) (seek_absent None s.trees end none)
    | inr known ↦ absurd (never (subst (λ k. IsWithin s.trees end k) (sym at) (within_self s.trees end is.forest.distinct known)))
  ]

  toward_none : child_toward s.trees end from.label ≡ None
  toward_none = find-none (λ k. is_within s.trees k from.label) (children_of s.trees end) child_off

  nothing_brought : (fuel : ℕ) → tail_brought may_be_taken fuel from end target s ≡ s
  unfolding tail_brought
  nothing_brought zero = refl
  nothing_brought (suc fuel) = elim (cases_Bool (eqb from.label end)) [
    | inl t ↦ rw t (ap (λ xs. brought_all may_be_taken target (drop from.offset xs) s) (own_childless (eqb-true from.label end t)) ∙ none_brought target from.offset s)
    | inr t ↦ rw (t, toward_none) refl
  ]

  pub nothing_singly : extracted_singly from end target s ≡ s
  unfolding extracted_singly
  nothing_singly = nothing_brought (document_size s.trees)

  pub nothing_extracted : extracted from end target s ≡ s
  nothing_extracted = either_extracted (λ t. t ≡ s) from end target s (λ may. absurd (never (extract_tests s from end target may).below)) refl
