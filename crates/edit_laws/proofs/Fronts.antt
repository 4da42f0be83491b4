-- The first children of a node go to a new node before it, and those after them to just before the node.
use Rattle.std.proofs.Common.{◌≡◌, ℕ, ◌<◌, zero, suc, Bool, true, false, ◌&&◌, ◌||◌, List, [], ◌++◌, Option, Some, None, refl, sym, ap, subst, ◌∙◌, inl, inr, arith, true≢false}
use Rattle.std.specs.Option.{option_map, option_map_or, option_and_then}
use Rattle.std.specs.Prelude.{nat_le}
use Rattle.std.proofs.lemmas.Bool.{cases_Bool, lt-ltb, ltb-true}
use Rattle.edit_model.specs.DomModel.declared.Content.{Content}
use Rattle.edit_model.specs.DomModel.Contents.{is_parent_at, may_have_children}
use Rattle.edit_model.specs.DomModel.Forest.{Forest, Seen, times, tops, first_in, after_in, count_of, IsWithin, seek, parent_of, children_of, next_of, tree_of, join}
use Rattle.edit_model.specs.DomModel.Forest.Forest.{Nil, Tree}
use Rattle.edit_model.proofs.DomModel.Lists.{times-append}
use Rattle.edit_model.proofs.DomModel.Neighbours.{parent_of-next}
use Rattle.edit_model.proofs.DomModel.Links.{found_stands, parent_of_child}
use Rattle.edit_model.specs.State.{State}
use Rattle.edit_model.specs.Kept.{borne_by}
use Rattle.edit_model.specs.Confined.{is_made, is_open, may_move}
use Rattle.edit_model.specs.Edit.{Move, edited}
use Rattle.edit_model.specs.History.{document_of}
use Rattle.edit_model.specs.Valid.{IsValid}
use Rattle.edit_model.specs.Run.{Run, final, for_each, ◌>>◌}
use Rattle.edit_model.proofs.CommandParts.{final_command}
use Rattle.edit_model.proofs.Documents.{within_below}
use Rattle.edit_model.proofs.Steps.{final-bind}
use Rattle.edit_model.proofs.Tests.{goes}
use Rattle.edit_laws.specs.Order.{KeepsOrder, IsKeeping}
use Rattle.edit_model.specs.Moves.{move_before, move_all_before, move_last, move_each_last}
use Rattle.edit_laws.specs.MoveLaws.{IsBare}
use Rattle.edit_laws.proofs.Subsequences.{keeps_refl, keeps_trans}
use Rattle.edit_laws.proofs.QuietActions.{keeping_final, same_document}
use Rattle.edit_laws.proofs.Around.{Spot, spot_as}
use Rattle.edit_laws.proofs.Patterns.{join-assoc}
use Rattle.edit_laws.proofs.Slides.{each_stays}
use Rattle.edit_laws.proofs.Lifting.{node_found, node_parent, lift_open, lift_all, final_move_before, move_stays, tops-join, Ends, all_went, some_stay}
use Rattle.edit_laws.proofs.Handing.{final_move_last, hand_all}
use Rattle.edit_laws.proofs.ReversedBefore.{next_is}
use Rattle.edit_laws.proofs.Seats.{Seat, seat, parts_of}
use Rattle.edit_laws.proofs.Loose.{IsLoose, none_there, loose_parent, still_each, still_last, still_before}
use Rattle.edit_laws.proofs.MoveLaws.{headed_first}

made_open : (s : State) (x : ℕ) → is_made s x ≡ true → is_open s x ≡ true
unfolding is_open
made_open s x made = rw made (by _)
  where
    by : (v : Bool) → (v || true) ≡ true
    by true = refl
    by false = refl

not_first : (a b c : Bool) → (a && (b && c)) ≡ false → b ≡ true → c ≡ true → a ≡ false
not_first a true true h e f = by a h
  where
    by : (a : Bool) → (a && (true && true)) ≡ false → a ≡ false
    by true k = k
    by false k = refl
not_first a false c h e f = absurd (true≢false (sym e))
not_first a true false h e f = absurd (true≢false (sym f))

pub made_after : {T : Type 0} (m : Run T) (s : State) (x : ℕ) → is_made s x ≡ true → is_made (final m s) x ≡ true
unfolding is_made
made_after m s x made = ap (λ n. nat_le n x) (final_command m s).start ∙ made

-- where o isn't open, none of its children goes before it
lift_shut : (t : State) (is : IsKeeping t) (q : ℕ) (pre : Forest Content) (o : ℕ) (c : Content) (ks post : Forest Content) → Spot (document_of t.trees) q (join pre (Tree o c ks post)) → is_open t o ≡ false
    → (list : List ℕ) → ((n : ℕ) → 0 < times list n → 0 < times (tops ks) n) → final (for_each list (move_before o)) t ≡ t
lift_shut t is q pre o c ks post spot shut list among =
    each_stays list (move_before o) t (λ n h.
    final_move_before o n q t (node_parent t is.valid q pre o c ks post spot)
    ∙ move_stays n q (Some o) t (lift_open t is.valid q pre o c ks post spot n (among n h) ∙ ap (λ v. v && (is_open t q && is_parent_at t.trees q)) shut))

-- one after the other, where the node before o was made by the command
part_at : (front list rest : Forest Content) (s : State) → IsKeeping s → (q : ℕ) (pre : Forest Content) (x : ℕ) (e : Content) (g : Forest Content) (o : ℕ) (c : Content) (post : Forest Content) → borne_by o c ≡ [] → may_have_children e ≡ true → is_made s x ≡ true
    → Spot (document_of s.trees) q (join pre (Tree x e g (Tree o c (join front (join list rest)) post)))
    → KeepsOrder s (final (for_each (tops list) (move_before o)) (final (for_each (tops front) (move_last x)) s))
part_at front list rest s is q pre x e g o c post bare parent made spot =
    let first = hand_all front s is q pre x e g o c (join list rest) post bare spot in
    keeps_trans first.keeps (then_lift first.ends)
  where
    t : State
    t = final (for_each (tops front) (move_last x)) s

    is_t : IsKeeping t
    is_t = keeping_final (for_each (tops front) (move_last x)) s is

    made_t : is_made t x ≡ true
    made_t = made_after (for_each (tops front) (move_last x)) s x made

    after : (h k : Forest Content) → Spot (document_of t.trees) q (join pre (Tree x e h (Tree o c k post))) → Spot (document_of t.trees) q (join (join pre (Tree x e h Nil)) (Tree o c k post))
    after h k w = spot_as (document_of t.trees) q (join pre (Tree x e h (Tree o c k post))) (join (join pre (Tree x e h Nil)) (Tree o c k post)) (sym (join-assoc pre (Tree x e h Nil) (Tree o c k post))) w

    parent_t : (h k : Forest Content) → Spot (document_of t.trees) q (join pre (Tree x e h (Tree o c k post))) → is_parent_at t.trees x ≡ true
    parent_t h k w = ap (λ (v : Option (Seen Content)). option_map_or may_have_children (option_map (λ (y : Seen Content). y.content) v) false) (node_found t is_t.valid q pre x e h (Tree o c k post) w) ∙ parent

    then_lift : Ends t q (join pre (Tree x e (join g front) (Tree o c (join list rest) post))) o x (λ went left. join pre (Tree x e went (Tree o c (join left (join list rest)) post))) → KeepsOrder t (final (for_each (tops list) (move_before o)) t)
    then_lift (all_went w) = (lift_all list t is_t q (join pre (Tree x e (join g front) Nil)) o c rest post bare (after (join g front) (join list rest) w)).keeps
    then_lift (some_stay went left w shut) =
        let closed : is_open t o ≡ false = not_first (is_open t o) (is_open t x) (is_parent_at t.trees x) shut (made_open t x made_t) (parent_t went (join left (join list rest)) w) in
        let stays = lift_shut t is_t q (join pre (Tree x e went Nil)) o c (join left (join list rest)) post (after went (join left (join list rest)) w) closed (tops list)
        (λ n h. omega (arith, h, tops-join left (join list rest) n, tops-join list rest n)) in
        rw stays (keeps_refl (document_of t.trees))

-- ---- by look-ups

no_one : (a b c : List ℕ) (n : ℕ) → 0 < times a n → 0 < times (a ++ (b ++ c)) n
no_one a b c n h = omega (arith, h, times-append a (b ++ c) n)

-- what a look-up of children tells of each
pub child_by : (s : State) → IsValid s → (o n : ℕ) → 0 < times (children_of s.trees o) n → parent_of s.trees n ≡ Some o
child_by s is o n among = by_seen (seek None s.trees o) refl
  where
    by_seen : (k : Option (Seen Content)) → seek None s.trees o ≡ k → parent_of s.trees n ≡ Some o
    by_seen None e = absurd (let e' = ap (λ (v : Option (Seen Content)). times (option_map_or (λ (y : Seen Content). y.children) v []) n) e in omega (arith, e', among))
    by_seen (Some r) e =
        let e' = ap (λ (v : Option (Seen Content)). times (option_map_or (λ (y : Seen Content). y.children) v []) n) e in
        parent_of_child s.trees o n r is.forest.distinct (found_stands s.trees o r is.forest.distinct e) (omega (arith, e', among))

module _ (s : State) (is : IsKeeping s) (front list rest : List ℕ) (o x : ℕ) where
  both_still : IsLoose s x → IsLoose s o → KeepsOrder s (final (for_each list (move_before o)) (final (for_each front (move_last x)) s))
  both_still loose_x loose_o =
      let t : State = final (for_each front (move_last x)) s in
      let first : document_of t.trees ≡ document_of s.trees = still_each x (move_last x) (still_last x) front s is loose_x in
      let second = still_each o (move_before o) (still_before o) list t (keeping_final (for_each front (move_last x)) s is) (ap (λ f. count_of f o) first ∙ loose_o) in
      same_document s (final (for_each list (move_before o)) t) (second ∙ first)

  pub part : next_of s.trees x ≡ Some o → is_made s x ≡ true → is_parent_at s.trees x ≡ true → children_of s.trees o ≡ front ++ (list ++ rest) → IsBare s o → KeepsOrder s (final (move_each_last front x >> move_all_before list o) s)
  unfolding move_each_last move_all_before
  part next made parent kids bare = rw final-bind (by_parent (parent_of s.trees x) refl)
    where
      seated : (q : ℕ) → Seat s x q → KeepsOrder s (final (for_each list (move_before o)) (final (for_each front (move_last x)) s))
      seated q w =
          let after : first_in (tops w.post) ≡ Some o = sym (next_is s is.valid q w.pre x w.content w.kids w.post w.spot) ∙ next in
          let h = headed_first w.post o after in
          let spot = spot_as (document_of s.trees) q _ (join w.pre (Tree x w.content w.kids (Tree o h.content h.kids h.post))) (ap (λ k. join w.pre (Tree x w.content w.kids k)) h.is) w.spot in
          let deeper = spot_as (document_of s.trees) q _ (join (join w.pre (Tree x w.content w.kids Nil)) (Tree o h.content h.kids h.post)) (sym (join-assoc w.pre (Tree x w.content w.kids Nil) (Tree o h.content h.kids h.post))) spot in
          let found = node_found s is.valid q (join w.pre (Tree x w.content w.kids Nil)) o h.content h.kids h.post deeper in
          let own : children_of s.trees o ≡ tops h.kids = ap (λ (k : Option (Seen Content)). option_map_or (λ (y : Seen Content). y.children) k []) found in
          let a = parts_of h.kids front (list ++ rest) (sym own ∙ kids) in
          let b = parts_of a.second list rest a.seconds in
          let same : h.kids ≡ join a.first (join b.first b.second) = a.is ∙ ap (join a.first) b.is in
          let there = spot_as (document_of s.trees) q _ (join w.pre (Tree x w.content w.kids (Tree o h.content (join a.first (join b.first b.second)) h.post))) (ap (λ k. join w.pre (Tree x w.content w.kids (Tree o h.content k h.post))) same) spot in
          let plain = bare h.content (ap (option_map (λ (y : Seen Content). y.content)) found) in
          let kind : may_have_children w.content ≡ true = sym (ap (λ (v : Option Content). option_map_or may_have_children v false) w.content_is) ∙ parent in
          subst (λ l. KeepsOrder s (final (for_each l (move_before o)) (final (for_each front (move_last x)) s))) b.firsts
          (subst (λ l. KeepsOrder s (final (for_each (tops b.first) (move_before o)) (final (for_each l (move_last x)) s))) a.firsts
          (part_at a.first b.first b.second s is q w.pre x w.content w.kids o h.content h.post plain kind made there))

      by_count : (q : ℕ) → parent_of s.trees x ≡ Some q → (k : ℕ) → count_of (document_of s.trees) q ≡ k → KeepsOrder s (final (for_each list (move_before o)) (final (for_each front (move_last x)) s))
      by_count q up zero e = both_still (loose_parent s is.valid x q up e) (loose_parent s is.valid o q (parent_of-next s.trees is.valid.forest.distinct x o q up next) e)
      by_count q up (suc k) e = seated q (seat s is.valid x q up (omega (arith, e)))

      by_parent : (p : Option ℕ) → parent_of s.trees x ≡ p → KeepsOrder s (final (for_each list (move_before o)) (final (for_each front (move_last x)) s))
      by_parent None root = absurd (let k : None ≡ Some o = sym (ap (λ p. option_and_then (λ k. after_in (children_of s.trees k) x) p) root) ∙ next in cc)
      by_parent (Some q) up = by_count q up (count_of (document_of s.trees) q) refl

  pub part_shut : (q : ℕ) → parent_of s.trees o ≡ Some q → is_open s q ≡ false → (IsWithin s.trees 0 x → ⊥) → children_of s.trees o ≡ front ++ (list ++ rest) → KeepsOrder s (final (move_each_last front x >> move_all_before list o) s)
  unfolding move_each_last move_all_before
  part_shut q up shut out kids = rw final-bind (by_count (count_of (document_of s.trees) o) refl)
    where
      left_out : (n p : ℕ) (b : Option ℕ) → (may_move s n p b ≡ true → ⊥) → edited (Move n p b) s ≡ s
      left_out n p b never = elim (cases_Bool (may_move s n p b)) [ inl may ↦ absurd (never may) | inr off ↦ move_stays n p b s off ]

      by_count : (k : ℕ) → count_of (document_of s.trees) o ≡ k → KeepsOrder s (final (for_each list (move_before o)) (final (for_each front (move_last x)) s))
      by_count zero e = both_still (none_there (count_of (document_of s.trees) x) out) e
      by_count (suc k) e =
          let first : final (for_each front (move_last x)) s ≡ s = each_stays front (move_last x) s (λ n h.
          final_move_last x n s ∙ left_out n x None (λ may. (
          let child = child_by s is.valid o n (subst (λ l. 0 < times l n) (sym kids) (no_one front list rest n h)) in
          let there = within_below s.trees s.next is.valid.forest o n child (omega (arith, e)) in
          out (ltb-true 0 (count_of (tree_of s.trees 0) x) ((goes s n x None may).inside (lt-ltb 0 (count_of (tree_of s.trees 0) n) there)))))) in
          let second : final (for_each list (move_before o)) s ≡ s = each_stays list (move_before o) s (λ n h.
          final_move_before o n q s up ∙ left_out n q (Some o) (λ may. true≢false (sym (goes s n q (Some o) may).allowed_to ∙ shut))) in
          rw (first, second) (keeps_refl (document_of s.trees))
