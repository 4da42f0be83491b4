-- The loops of moves keep the order where look-ups tell that their nodes stand so.
use Rattle.std.proofs.Common.{◌≡◌, ℕ, ◌<◌, zero, suc, List, [], ◌∷◌, ◌++◌, reverse, Option, Some, None, refl, sym, ap, subst, ◌∙◌, arith, append_assoc}
use Rattle.std.specs.Option.{option_map, option_map_or, option_and_then}
use Rattle.std.proofs.lemmas.List.{append-nil, reverse-append}
use Rattle.edit_model.specs.DomModel.declared.Content.{Content}
use Rattle.edit_model.specs.DomModel.Forest.{Forest, Seen, times, tops, count_of, IsWithin, parent_of, children_of, next_of, after_in, first_in, seek, tree_of, join}
use Rattle.edit_model.specs.DomModel.Forest.Forest.{Nil, Tree}
use Rattle.edit_model.specs.DomModel.Places.{rest_in}
use Rattle.edit_model.proofs.DomModel.Lists.{times-append}
use Rattle.edit_model.proofs.DomModel.Links.{join-Nil, found_stands, parent_of_child}
use Rattle.edit_model.proofs.DomModel.Neighbours.{parent_of-next}
use Rattle.edit_model.specs.State.{State}
use Rattle.edit_model.specs.Kept.{borne_by, leaves}
use Rattle.edit_model.specs.History.{document_of}
use Rattle.edit_model.specs.Valid.{IsValid}
use Rattle.edit_model.specs.Run.{final, for_each}
use Rattle.edit_model.proofs.Trees.{tree_of-inside}
use Rattle.edit_laws.specs.Order.{KeepsOrder, IsKeeping}
use Rattle.edit_model.specs.Moves.{move_before, move_after, move_first, move_all_before, move_all_after, move_all_first, move_last, move_each_last}
use Rattle.edit_laws.specs.MoveLaws.{IsBare}
use Rattle.edit_laws.proofs.Subsequences.{keeps_refl}
use Rattle.edit_laws.proofs.Leaves.{leaves-Nil, leaves-Tree}
use Rattle.edit_laws.proofs.QuietActions.{same_document}
use Rattle.edit_laws.proofs.Around.{Spot, spot_here, spot_as, spot_tree, spot_distinct, self_one}
use Rattle.edit_laws.proofs.Patterns.{count-join, join-assoc, take_one}
use Rattle.edit_laws.proofs.Slides.{document_distinct, each_stays}
use Rattle.edit_laws.proofs.Lifting.{node_found, lift_all, final_move_before}
use Rattle.edit_laws.proofs.Handing.{owner_children, below_inside, final_move_last, hand_all, take_all}
use Rattle.edit_laws.proofs.ReversedBefore.{reversed_before, next_is, drop_all, front_all, swap, enter}
use Rattle.edit_laws.proofs.Seats.{Seat, seat, parts_of, Headed, headed}
use Rattle.edit_laws.proofs.Loose.{IsLoose, none_there, loose_parent, still_each, still_last, still_first, still_before, still_after, before_root, after_root}

-- ---- lists of trees from the end

pub reversed_before_twice : (r g h : Forest Content) → reversed_before (reversed_before r g) h ≡ reversed_before g (join r h)
reversed_before_twice Nil g h = refl
reversed_before_twice (Tree n d j rest) g h = reversed_before_twice rest (Tree n d j g) h

pub tops-reversed_before : (r g : Forest Content) → tops (reversed_before r g) ≡ reverse (tops r) ++ tops g
tops-reversed_before Nil g = refl
tops-reversed_before (Tree n d j rest) g =
    tops-reversed_before rest (Tree n d j g)
    ∙ sym (ap (λ l. l ++ tops g) (reverse-append (n ∷ []) (tops rest)) ∙ append_assoc (reverse (tops rest)) (n ∷ []) (tops g))

reversed_before_back : (f : Forest Content) → reversed_before (reversed_before f Nil) Nil ≡ f
reversed_before_back f = reversed_before_twice f Nil Nil ∙ join-Nil f

backwards : (f : Forest Content) (list : List ℕ) → tops f ≡ list → tops (reversed_before f Nil) ≡ reverse list
backwards f list e = tops-reversed_before f Nil ∙ (append-nil (reverse (tops f)) ∙ ap reverse e)

pub headed_first : (f : Forest Content) (o : ℕ) → first_in (tops f) ≡ Some o → Headed f o (tops (rest_in f))
headed_first Nil o e = absurd (let e' = e in cc)
headed_first (Tree m c ks rest) o e =
    let head : m ≡ o = (let e' = e in cc) in
    record { content = c; kids = ks; post = rest; is = ap (λ k. Tree k c ks rest) head; seconds = refl }

-- a child of a loose node is loose
pub loose_child : (s : State) → IsValid s → (p q : ℕ) (before after : List ℕ) → children_of s.trees q ≡ before ++ p ∷ after → IsLoose s q → IsLoose s p
loose_child s is p q before after kids none = loose_parent s is p q (by_seen (seek None s.trees q) refl) none
  where
    among : 0 < times (children_of s.trees q) p
    among = let e = ap (λ l. times l p) kids in omega (arith, e, times-append before (p ∷ after) p, self_one p)

    by_seen : (o : Option (Seen Content)) → seek None s.trees q ≡ o → parent_of s.trees p ≡ Some q
    by_seen None e = absurd (let e' = ap (λ (k : Option (Seen Content)). times (option_map_or (λ (y : Seen Content). y.children) k []) p) e in omega (arith, e', among))
    by_seen (Some o) e =
        let e' = ap (λ (k : Option (Seen Content)). times (option_map_or (λ (y : Seen Content). y.children) k []) p) e in
        parent_of_child s.trees q p o is.forest.distinct (found_stands s.trees q o is.forest.distinct e) (omega (arith, e', among))

-- a node of the document of which the tree bears nothing
bare_tree : (s : State) → IsKeeping s → (q : ℕ) (pre : Forest Content) (x : ℕ) (e : Content) (g post : Forest Content) → Spot (document_of s.trees) q (join pre (Tree x e g post)) → leaves (tree_of s.trees x) ≡ []
    → borne_by x e ++ leaves g ≡ []
bare_tree s is q pre x e g post spot bare =
    let f = document_of s.trees in
    let kids = join pre (Tree x e g post) in
    let once = document_distinct s.trees is.valid.forest.distinct in
    let inside : 0 < count_of kids x = omega (arith, count-join pre (Tree x e g post) x, self_one x) in
    let tree = take_one pre x e g post (spot_distinct f once q kids spot) in
    let here = below_inside s is.valid q kids spot x inside in
    let is_tree : tree_of s.trees x ≡ Tree x e g Nil = sym (tree_of-inside s.trees 0 x is.valid.forest.distinct here) ∙ (spot_tree f once q kids spot x inside ∙ tree.tree) in
    ap (λ l. borne_by x e ++ l) (sym (append-nil (leaves g)))
    ∙ (ap (λ l. borne_by x e ++ (leaves g ++ l)) (sym leaves-Nil)
    ∙ (sym (leaves-Tree x e g Nil) ∙ (ap leaves (sym is_tree) ∙ bare)))

-- ---- the laws

module _ (s : State) (is : IsKeeping s) where
  pub go_before : (list rest : List ℕ) (o : ℕ) → children_of s.trees o ≡ list ++ rest → IsBare s o → KeepsOrder s (final (move_all_before list o) s)
  unfolding move_all_before
  go_before list rest o kids bare = by_parent (parent_of s.trees o) refl
    where
      seated : (q : ℕ) → Seat s o q → KeepsOrder s (final (for_each list (move_before o)) s)
      seated q w =
          let p = parts_of w.kids list rest (sym w.children ∙ kids) in
          let spot = spot_as (document_of s.trees) q (join w.pre (Tree o w.content w.kids w.post)) (join w.pre (Tree o w.content (join p.first p.second) w.post)) (ap (λ k. join w.pre (Tree o w.content k w.post)) p.is) w.spot in
          subst (λ l. KeepsOrder s (final (for_each l (move_before o)) s)) p.firsts (lift_all p.first s is q w.pre o w.content p.second w.post (bare w.content w.content_is) spot).keeps

      by_count : (q : ℕ) → parent_of s.trees o ≡ Some q → (k : ℕ) → count_of (document_of s.trees) q ≡ k → KeepsOrder s (final (for_each list (move_before o)) s)
      by_count q up zero e = same_document s (final (for_each list (move_before o)) s) (still_each o (move_before o) (still_before o) list s is (loose_parent s is.valid o q up e))
      by_count q up (suc k) e = seated q (seat s is.valid o q up (omega (arith, e)))

      by_parent : (p : Option ℕ) → parent_of s.trees o ≡ p → KeepsOrder s (final (for_each list (move_before o)) s)
      by_parent None root = rw (each_stays list (move_before o) s (λ n _. before_root o n s root)) (keeps_refl (document_of s.trees))
      by_parent (Some q) up = by_count q up (count_of (document_of s.trees) q) refl

  pub go_after : (front list : List ℕ) (o : ℕ) → children_of s.trees o ≡ front ++ list → KeepsOrder s (final (move_all_after list o) s)
  unfolding move_all_after
  go_after front list o kids = by_parent (parent_of s.trees o) refl
    where
      seated : (q : ℕ) → Seat s o q → KeepsOrder s (final (for_each (reverse list) (move_after o)) s)
      seated q w =
          let p = parts_of w.kids front list (sym w.children ∙ kids) in
          let r = reversed_before p.second Nil in
          let same : w.kids ≡ join p.first (reversed_before r Nil) = p.is ∙ ap (join p.first) (sym (reversed_before_back p.second)) in
          let spot = spot_as (document_of s.trees) q (join w.pre (Tree o w.content w.kids w.post)) (join w.pre (Tree o w.content (join p.first (reversed_before r Nil)) w.post)) (ap (λ k. join w.pre (Tree o w.content k w.post)) same) w.spot in
          subst (λ l. KeepsOrder s (final (for_each l (move_after o)) s)) (backwards p.second list p.seconds) (drop_all r s is q w.pre o w.content p.first w.post spot).keeps

      by_count : (q : ℕ) → parent_of s.trees o ≡ Some q → (k : ℕ) → count_of (document_of s.trees) q ≡ k → KeepsOrder s (final (for_each (reverse list) (move_after o)) s)
      by_count q up zero e = same_document s (final (for_each (reverse list) (move_after o)) s) (still_each o (move_after o) (still_after o) (reverse list) s is (loose_parent s is.valid o q up e))
      by_count q up (suc k) e = seated q (seat s is.valid o q up (omega (arith, e)))

      by_parent : (p : Option ℕ) → parent_of s.trees o ≡ p → KeepsOrder s (final (for_each (reverse list) (move_after o)) s)
      by_parent None root = rw (each_stays (reverse list) (move_after o) s (λ n _. after_root o n s root)) (keeps_refl (document_of s.trees))
      by_parent (Some q) up = by_count q up (count_of (document_of s.trees) q) refl

  -- into a loose node
  pub go_out : (list : List ℕ) (x : ℕ) → IsLoose s x → KeepsOrder s (final (move_each_last list x) s)
  unfolding move_each_last
  go_out list x none = same_document s (final (for_each list (move_last x)) s) (still_each x (move_last x) (still_last x) list s is none)

  pub go_over : (list rest : List ℕ) (o x : ℕ) → next_of s.trees x ≡ Some o → children_of s.trees o ≡ list ++ rest → IsBare s o → KeepsOrder s (final (move_each_last list x) s)
  unfolding move_each_last
  go_over list rest o x next kids bare = by_parent (parent_of s.trees x) refl
    where
      seated : (q : ℕ) → Seat s x q → KeepsOrder s (final (for_each list (move_last x)) s)
      seated q w =
          let after : first_in (tops w.post) ≡ Some o = sym (next_is s is.valid q w.pre x w.content w.kids w.post w.spot) ∙ next in
          let h = headed_first w.post o after in
          let spot = spot_as (document_of s.trees) q _ (join w.pre (Tree x w.content w.kids (Tree o h.content h.kids h.post))) (ap (λ k. join w.pre (Tree x w.content w.kids k)) h.is) w.spot in
          let deeper = spot_as (document_of s.trees) q _ (join (join w.pre (Tree x w.content w.kids Nil)) (Tree o h.content h.kids h.post)) (sym (join-assoc w.pre (Tree x w.content w.kids Nil) (Tree o h.content h.kids h.post))) spot in
          let found = node_found s is.valid q (join w.pre (Tree x w.content w.kids Nil)) o h.content h.kids h.post deeper in
          let own : children_of s.trees o ≡ tops h.kids = ap (λ (k : Option (Seen Content)). option_map_or (λ (y : Seen Content). y.children) k []) found in
          let p = parts_of h.kids list rest (sym own ∙ kids) in
          let there = spot_as (document_of s.trees) q _ (join w.pre (Tree x w.content w.kids (Tree o h.content (join p.first p.second) h.post))) (ap (λ k. join w.pre (Tree x w.content w.kids (Tree o h.content k h.post))) p.is) spot in
          let plain = bare h.content (ap (option_map (λ (y : Seen Content). y.content)) found) in
          subst (λ l. KeepsOrder s (final (for_each l (move_last x)) s)) p.firsts (hand_all p.first s is q w.pre x w.content w.kids o h.content p.second h.post plain there).keeps

      by_count : (q : ℕ) → parent_of s.trees x ≡ Some q → (k : ℕ) → count_of (document_of s.trees) q ≡ k → KeepsOrder s (final (for_each list (move_last x)) s)
      by_count q up zero e = same_document s (final (for_each list (move_last x)) s) (still_each x (move_last x) (still_last x) list s is (loose_parent s is.valid x q up e))
      by_count q up (suc k) e = seated q (seat s is.valid x q up (omega (arith, e)))

      by_parent : (p : Option ℕ) → parent_of s.trees x ≡ p → KeepsOrder s (final (for_each list (move_last x)) s)
      by_parent None root = absurd (let k : None ≡ Some o = sym (ap (λ p. option_and_then (λ k. after_in (children_of s.trees k) x) p) root) ∙ next in cc)
      by_parent (Some q) up = by_count q up (count_of (document_of s.trees) q) refl

  pub go_in : (before list after : List ℕ) (p q : ℕ) → children_of s.trees q ≡ before ++ p ∷ (list ++ after) → KeepsOrder s (final (move_each_last list p) s)
  unfolding move_each_last
  go_in before list after p q kids = by_count (count_of (document_of s.trees) q) refl
    where
      by_count : (k : ℕ) → count_of (document_of s.trees) q ≡ k → KeepsOrder s (final (for_each list (move_last p)) s)
      by_count zero e = same_document s (final (for_each list (move_last p)) s) (still_each p (move_last p) (still_last p) list s is (loose_child s is.valid p q before (list ++ after) kids e))
      by_count (suc k) e =
          let place = spot_here (document_of s.trees) q (omega (arith, e)) in
          let a = parts_of place.0 before (p ∷ (list ++ after)) (sym (owner_children s is.valid q place.0 place.1) ∙ kids) in
          let h = headed a.second p (list ++ after) a.seconds in
          let b = parts_of h.post list after h.seconds in
          let same : place.0 ≡ join a.first (Tree p h.content h.kids (join b.first b.second)) = a.is ∙ (ap (join a.first) h.is ∙ ap (λ k. join a.first (Tree p h.content h.kids k)) b.is) in
          subst (λ l. KeepsOrder s (final (for_each l (move_last p)) s)) b.firsts
          (take_all b.first s is q a.first p h.content h.kids b.second (spot_as (document_of s.trees) q place.0 (join a.first (Tree p h.content h.kids (join b.first b.second))) same place.1)).keeps

  pub go_front : (before list after : List ℕ) (p q : ℕ) → children_of s.trees q ≡ before ++ (list ++ p ∷ after) → IsBare s p → KeepsOrder s (final (move_all_first list p) s)
  unfolding move_all_first
  go_front before list after p q kids bare = by_count (count_of (document_of s.trees) q) refl
    where
      by_count : (k : ℕ) → count_of (document_of s.trees) q ≡ k → KeepsOrder s (final (for_each (reverse list) (move_first p)) s)
      by_count zero e =
          same_document s (final (for_each (reverse list) (move_first p)) s)
          (still_each p (move_first p) (still_first p) (reverse list) s is (loose_child s is.valid p q (before ++ list) after (kids ∙ sym (append_assoc before list (p ∷ after))) e))
      by_count (suc k) e =
          let place = spot_here (document_of s.trees) q (omega (arith, e)) in
          let a = parts_of place.0 before (list ++ p ∷ after) (sym (owner_children s is.valid q place.0 place.1) ∙ kids) in
          let b = parts_of a.second list (p ∷ after) a.seconds in
          let h = headed b.second p after b.seconds in
          let r = reversed_before b.first Nil in
          let same : place.0 ≡ join a.first (join (reversed_before r Nil) (Tree p h.content h.kids h.post)) =
          a.is ∙ (ap (join a.first) b.is ∙ (ap (λ k. join a.first (join b.first k)) h.is ∙ ap (λ k. join a.first (join k (Tree p h.content h.kids h.post))) (sym (reversed_before_back b.first)))) in
          let spot = spot_as (document_of s.trees) q place.0 (join a.first (join (reversed_before r Nil) (Tree p h.content h.kids h.post))) same place.1 in
          let deeper = spot_as (document_of s.trees) q _ (join (join a.first (reversed_before r Nil)) (Tree p h.content h.kids h.post)) (sym (join-assoc a.first (reversed_before r Nil) (Tree p h.content h.kids h.post))) spot in
          let found = node_found s is.valid q (join a.first (reversed_before r Nil)) p h.content h.kids h.post deeper in
          let plain = bare h.content (ap (option_map (λ (y : Seen Content). y.content)) found) in
          subst (λ l. KeepsOrder s (final (for_each l (move_first p)) s)) (backwards b.first list b.firsts) (front_all r s is q a.first p h.content h.kids h.post plain spot).keeps

  pub go_past : (x n : ℕ) → next_of s.trees x ≡ Some n → leaves (tree_of s.trees x) ≡ [] → KeepsOrder s (final (move_before x n) s)
  go_past x n next bare = by_parent (parent_of s.trees x) refl
    where
      seated : (q : ℕ) → parent_of s.trees x ≡ Some q → Seat s x q → KeepsOrder s (final (move_before x n) s)
      seated q up w =
          let f = document_of s.trees in
          let after : first_in (tops w.post) ≡ Some n = sym (next_is s is.valid q w.pre x w.content w.kids w.post w.spot) ∙ next in
          let h = headed_first w.post n after in
          let spot = spot_as f q _ (join w.pre (Tree x w.content w.kids (Tree n h.content h.kids h.post))) (ap (λ k. join w.pre (Tree x w.content w.kids k)) h.is) w.spot in
          let none = bare_tree s is q w.pre x w.content w.kids w.post w.spot bare in
          rw (final_move_before x n q s up) (swap s is q w.pre x w.content w.kids n h.content h.kids h.post none spot).keeps

      by_count : (q : ℕ) → parent_of s.trees x ≡ Some q → (k : ℕ) → count_of (document_of s.trees) q ≡ k → KeepsOrder s (final (move_before x n) s)
      by_count q up zero e = same_document s (final (move_before x n) s) (still_before x n s is (loose_parent s is.valid x q up e))
      by_count q up (suc k) e = seated q up (seat s is.valid x q up (omega (arith, e)))

      by_parent : (p : Option ℕ) → parent_of s.trees x ≡ p → KeepsOrder s (final (move_before x n) s)
      by_parent None root = rw (before_root x n s root) (keeps_refl (document_of s.trees))
      by_parent (Some q) up = by_count q up (count_of (document_of s.trees) q) refl

  pub go_into_next : (n x : ℕ) → next_of s.trees n ≡ Some x → leaves (tree_of s.trees x) ≡ [] → KeepsOrder s (final (move_last x n) s)
  go_into_next n x next bare = by_parent (parent_of s.trees n) refl
    where
      seated : (q : ℕ) → Seat s n q → KeepsOrder s (final (move_last x n) s)
      seated q w =
          let f = document_of s.trees in
          let after : first_in (tops w.post) ≡ Some x = sym (next_is s is.valid q w.pre n w.content w.kids w.post w.spot) ∙ next in
          let h = headed_first w.post x after in
          let spot = spot_as f q _ (join w.pre (Tree n w.content w.kids (Tree x h.content h.kids h.post))) (ap (λ k. join w.pre (Tree n w.content w.kids k)) h.is) w.spot in
          let deeper = spot_as f q _ (join (join w.pre (Tree n w.content w.kids Nil)) (Tree x h.content h.kids h.post)) (sym (join-assoc w.pre (Tree n w.content w.kids Nil) (Tree x h.content h.kids h.post))) spot in
          let none = bare_tree s is q (join w.pre (Tree n w.content w.kids Nil)) x h.content h.kids h.post deeper bare in
          rw (final_move_last x n s) (enter s is q w.pre n w.content w.kids x h.content h.kids h.post none spot).keeps

      by_count : (q : ℕ) → parent_of s.trees n ≡ Some q → (k : ℕ) → count_of (document_of s.trees) q ≡ k → KeepsOrder s (final (move_last x n) s)
      by_count q up zero e =
          let beside = parent_of-next s.trees is.valid.forest.distinct n x q up next in
          same_document s (final (move_last x n) s) (still_last x n s is (loose_parent s is.valid x q beside e))
      by_count q up (suc k) e = seated q (seat s is.valid n q up (omega (arith, e)))

      by_parent : (p : Option ℕ) → parent_of s.trees n ≡ p → KeepsOrder s (final (move_last x n) s)
      by_parent None root = absurd (let k : None ≡ Some x = sym (ap (λ p. option_and_then (λ k. after_in (children_of s.trees k) n) p) root) ∙ next in cc)
      by_parent (Some q) up = by_count q up (count_of (document_of s.trees) q) refl

  pub go_nowhere : (list : List ℕ) (x : ℕ) → (IsWithin s.trees 0 x → ⊥) → KeepsOrder s (final (move_each_last list x) s)
  go_nowhere list x out = go_out list x (none_there (count_of (document_of s.trees) x) out)
