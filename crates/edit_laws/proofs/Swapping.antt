-- A bare node comes out from below another one and takes it in: its children go to just before it, it goes to just after the other
-- one, and that moves to its end.
use Rattle.std.proofs.Common.{◌≡◌, ◌≢◌, ◌⊎◌, ℕ, ◌<◌, zero, suc, Bool, true, false, ◌&&◌, ◌||◌, List, [], Option, Some, None, refl, sym, ap, subst, ◌∙◌, inl, inr, arith, true≢false}
use Rattle.std.specs.Option.{option_map, option_map_or, option_and_then}
use Rattle.std.specs.Prelude.{codes, bytes_eq}
use Rattle.std.proofs.lemmas.Bool.{cases_Bool}
use Rattle.std.proofs.lemmas.List.{append-nil}
use Rattle.edit_model.specs.DomModel.declared.Content.{Content}
use Rattle.edit_model.specs.DomModel.Contents.{name_in, is_break, is_parent_at}
use Rattle.edit_model.specs.DomModel.Forest.{Forest, Seen, is_label, times, count_of, IsWithin, depth_of, parent_of, children_of, next_of, tree_of, unlink, join}
use Rattle.edit_model.specs.DomModel.Forest.Forest.{Nil, Tree}
use Rattle.edit_model.proofs.DomModel.Totals.{put_under_nowhere}
use Rattle.edit_model.proofs.DomModel.DropTree.{without_absent}
use Rattle.edit_model.proofs.DomModel.Links.{seen, parent_count, parent_of-unlink, join-Nil, eqb_refl_true}
use Rattle.edit_model.proofs.DomModel.Move.{tree_of-unlink}
use Rattle.edit_model.proofs.DomModel.Within.{within_self, within_parent}
use Rattle.edit_model.specs.State.{State}
use Rattle.edit_model.specs.Kept.{borne_by}
use Rattle.edit_model.specs.Confined.{is_inside, is_made, is_own, is_open, is_editable_for, may_insert, may_remove, may_move}
use Rattle.edit_model.specs.Edit.{Insert, Remove, Move, is_made_edit, trees_after, edited}
use Rattle.edit_model.specs.History.{document_of}
use Rattle.edit_model.specs.Moves.{insert_after, move_before, move_all_before, move_last}
use Rattle.edit_model.specs.Run.{final, ◌>>◌, for_each, remove}
use Rattle.edit_model.proofs.Documents.{document-link, document-unlink, within_above, has_children}
use Rattle.edit_model.proofs.Forests.{inner_child}
use Rattle.edit_model.proofs.Giving.{edited-left}
use Rattle.edit_model.proofs.IslandRuns.{trees_made, trees_left}
use Rattle.edit_model.proofs.Steps.{final-bind, final-edit}
use Rattle.edit_model.proofs.Tests.{goes, inserts, removes}
use Rattle.edit_laws.specs.Order.{KeepsOrder, IsKeeping}
use Rattle.edit_laws.specs.MoveLaws.{IsBare}
use Rattle.edit_laws.proofs.Subsequences.{keeps_trans}
use Rattle.edit_laws.proofs.QuietActions.{keeping_edited, keeping_final, same_document, remove_keeps}
use Rattle.edit_laws.proofs.Around.{Spot, spot_as, spot_tree, spot_distinct, self_one}
use Rattle.edit_laws.proofs.Patterns.{count-join, join-assoc, take_one}
use Rattle.edit_laws.proofs.Slides.{document_distinct, parent_other}
use Rattle.edit_laws.proofs.Lifting.{node_found, lift_all, Ends, all_went, some_stay}
use Rattle.edit_laws.proofs.Handing.{final_move_last, below_inside}
use Rattle.edit_laws.proofs.Seats.{Seat, seat}
use Rattle.edit_laws.proofs.Fronts.{child_by}
use Rattle.edit_laws.proofs.Loose.{IsLoose, loose_up, still_each, still_last, still_before}
use Rattle.edit_model.proofs.Trees.{tree_of-inside}
use Rattle.edit_laws.proofs.MoveLaws.{go_before}
use Rattle.edit_laws.proofs.Lines.{Line, holder_there, none_by, line_to, line_kept, line_there, line_within, line_loose, parent_each}
use Rattle.edit_laws.proofs.Adopting.{final_insert_after, after_nothing, taken_in}

first_fails : (a b c : Bool) → (a && (b && c)) ≡ false → a ≡ true → b ≡ true → c ≡ true → ⊥
first_fails true true true h e f g = true≢false h
first_fails false b c h e f g = true≢false (sym e)
first_fails true false c h e f g = true≢false (sym f)
first_fails true true false h e f g = true≢false (sym g)

-- what is editable or made, is open
own_open : (s : State) (l : ℕ) (v : Bool) → v ≡ false → (is_own s l || v) ≡ true → is_open s l ≡ true
unfolding is_own is_open is_inside
own_open s l v plain h = by (is_label s.host l) (is_editable_for s l) (is_made s l) v plain h
  where
    by : (a b c v : Bool) → v ≡ false → ((b || c) || v) ≡ true → ((a || b) || c) ≡ true
    by true b c v e k = refl
    by false true c v e k = refl
    by false false true v e k = refl
    by false false false true e k = absurd (true≢false e)
    by false false false false e k = absurd (true≢false (sym k))

module _ (s : State) (is : IsKeeping s) (n c m : ℕ) (up : parent_of s.trees c ≡ Some m) (line : Line s.trees n (children_of s.trees c) c) (bare : IsBare s c) (plain : is_break s.trees c ≡ false) where
  kids : List ℕ
  kids = children_of s.trees c

  t : State
  t = final (move_all_before kids c) s

  is_t : IsKeeping t
  unfolding t
  is_t = keeping_final (move_all_before kids c) s is

  keeps_t : KeepsOrder s t
  unfolding t kids
  keeps_t = go_before s is (children_of s.trees c) [] c (sym (append-nil (children_of s.trees c))) bare

  still : (l q : ℕ) → times kids l ≡ 0 → parent_of s.trees l ≡ Some q → parent_of t.trees l ≡ Some q
  unfolding t move_all_before
  still l q none e = parent_each kids c s is l q none e

  up_t : parent_of t.trees c ≡ Some m
  unfolding kids
  up_t = still c m (none_by (times (children_of s.trees c) c) (λ h. parent_other s.trees is.valid.forest.distinct c c (child_by s is.valid c c h) refl)) up

  line_t : Line t.trees n kids c
  unfolding kids
  line_t = line_kept s.trees t.trees n (children_of s.trees c) still c line

  -- c stays where it is, and n above it
  left : may_remove t c ≡ false → KeepsOrder s (final (insert_after n c >> move_last c n) (edited (Remove c) t))
  unfolding is_made_edit
  left off =
      let e1 : edited (Remove c) t ≡ t = edited-left (Remove c) t off in
      let e2 : final (insert_after n c) t ≡ t = no_insert (parent_of t.trees n) refl in
      let e3 : final (move_last c n) t ≡ t = final_move_last c n t ∙ edited-left (Move n c None) t no_move in
      subst (λ u. KeepsOrder s (final (insert_after n c >> move_last c n) u)) (sym e1) (rw (final-bind, e2, e3) keeps_t)
    where
      no_insert : (o : Option ℕ) → parent_of t.trees n ≡ o → final (insert_after n c) t ≡ t
      no_insert None e = after_nothing n c t e
      no_insert (Some p) e = final_insert_after n c p t e ∙ edited-left (Insert p (next_of t.trees n) c) t (by_test (cases_Bool (may_insert t p (next_of t.trees n) c)))
        where
          by_test : (may_insert t p (next_of t.trees n) c ≡ true) ⊎ (may_insert t p (next_of t.trees n) c ≡ false) → may_insert t p (next_of t.trees n) c ≡ false
          by_test (inr k) = k
          by_test (inl may) = absurd (let k : Some m ≡ None = sym up_t ∙ (inserts t p (next_of t.trees n) c may).can.loose in cc)

      no_move : may_move t n c None ≡ false
      no_move = elim (cases_Bool (may_move t n c None)) [
        | inr k ↦ k
        | inl may ↦ absurd (
            let once = is_t.valid.forest.distinct in
            let here = line_there t.trees once n kids c (parent_count t.trees c m once up_t).0 line_t in
            omega (arith, line_within t.trees once n kids c here line_t, (goes t n c None may).apart))
      ]

  -- c goes
  module _ (may : may_remove t c ≡ true) where
    u : State
    u = edited (Remove c) t

    is_u : IsKeeping u
    unfolding u
    is_u = keeping_edited (Remove c) t is_t

    gone : u.trees ≡ unlink t.trees c
    unfolding u is_made_edit trees_after
    gone = trees_made (Remove c) t may

    root : parent_of u.trees c ≡ None
    root =
        let w = seen t.trees c is_t.valid.forest.distinct (parent_count t.trees c m is_t.valid.forest.distinct up_t).0 in
        ap (λ f. parent_of f c) gone ∙ (parent_of-unlink t.trees m c is_t.valid.forest.distinct up_t c w.0 w.2 ∙ rw (eqb_refl_true c) refl)

    inner : 0 < c
    inner = inner_child t.trees t.next is_t.valid.forest m c up_t

    keeps_u : KeepsOrder s u
    unfolding u
    keeps_u = keeps_trans keeps_t (remove_keeps c t is_t)

    -- with its children gone
    alone : (e : Content) → tree_of t.trees c ≡ Tree c e Nil Nil → borne_by c e ≡ [] → KeepsOrder s (final (insert_after n c >> move_last c n) u)
    alone e tree none =
        keeps_trans keeps_u
        (taken_in u is_u n c e root inner (ap (λ f. tree_of f c) gone ∙ (tree_of-unlink t.trees m c is_t.valid.forest.distinct up_t ∙ tree)) none)

    -- in the document
    seated : Seat s c m → KeepsOrder s (final (insert_after n c >> move_last c n) u)
    unfolding t kids move_all_before
    seated w =
        let spot = spot_as (document_of s.trees) m _ (join w.pre (Tree c w.content (join w.kids Nil) w.post)) (ap (λ k. join w.pre (Tree c w.content k w.post)) (sym (join-Nil w.kids))) w.spot in
        let ran = lift_all w.kids s is m w.pre c w.content Nil w.post (bare w.content w.content_is) spot in
        by_ends (subst (λ l. Ends (final (for_each l (move_before c)) s) m (join w.pre (join w.kids (Tree c w.content Nil w.post))) c m (λ went left. join went (Tree c w.content (join left Nil) w.post))) (sym w.children) ran.ends)
      where
        at_spot : (pre k post : Forest Content) → Spot (document_of t.trees) m (join pre (Tree c w.content k post)) → tree_of t.trees c ≡ Tree c w.content k Nil
        at_spot pre k post spot =
            let once = is_t.valid.forest.distinct in
            let inside : 0 < count_of (join pre (Tree c w.content k post)) c = omega (arith, count-join pre (Tree c w.content k post) c, self_one c) in
            sym (tree_of-inside t.trees 0 c once (below_inside t is_t.valid m (join pre (Tree c w.content k post)) spot c inside))
            ∙ (spot_tree (document_of t.trees) (document_distinct t.trees once) m (join pre (Tree c w.content k post)) spot c inside
            ∙ (take_one pre c w.content k post (spot_distinct (document_of t.trees) (document_distinct t.trees once) m (join pre (Tree c w.content k post)) spot)).tree)

        still_plain : (pre k post : Forest Content) → Spot (document_of t.trees) m (join pre (Tree c w.content k post)) → is_break t.trees c ≡ false
        still_plain pre k post spot =
            let now = ap (option_map (λ (y : Seen Content). y.content)) (node_found t is_t.valid m pre c w.content k post spot) in
            ap (λ (o : Option Content). option_map_or (λ own. bytes_eq own (codes "br")) (option_and_then name_in o) false) (now ∙ sym w.content_is) ∙ plain

        by_ends : Ends t m (join w.pre (join w.kids (Tree c w.content Nil w.post))) c m (λ went left. join went (Tree c w.content (join left Nil) w.post)) → KeepsOrder s (final (insert_after n c >> move_last c n) u)
        by_ends (all_went spot) =
            let there = spot_as (document_of t.trees) m _ (join (join w.pre w.kids) (Tree c w.content Nil w.post)) (sym (join-assoc w.pre w.kids (Tree c w.content Nil w.post))) spot in
            alone w.content (at_spot (join w.pre w.kids) Nil w.post there) (bare w.content w.content_is)
        by_ends (some_stay went some spot shut) = absurd (
            let r = removes t c may in
            let from : r.from ≡ m = (let k : Some r.from ≡ Some m = sym r.child ∙ up_t in cc) in
            first_fails (is_open t c) (is_open t m) (is_parent_at t.trees m) shut
            (own_open t c (is_break t.trees c) (still_plain went (join some Nil) w.post spot) r.own)
            (subst (λ k. is_open t k ≡ true) from r.allowed)
            (has_children t.trees t.next is_t.valid.forest m c up_t))

    -- out of the document
    astray : IsLoose s c → KeepsOrder s (final (insert_after n c >> move_last c n) u)
    unfolding t kids move_all_before is_made_edit trees_after
    astray none =
        let same_t : document_of t.trees ≡ document_of s.trees = still_each c (move_before c) (still_before c) (children_of s.trees c) s is none in
        let none_t : IsLoose t c = ap (λ g. count_of g c) same_t ∙ none in
        let same_u : document_of u.trees ≡ document_of t.trees =
        ap (λ f. tree_of f 0) gone ∙ (document-unlink t.trees t.next is_t.valid.forest m c up_t ∙ without_absent (document_of t.trees) c none_t) in
        let none_u : IsLoose u c = ap (λ g. count_of g c) same_u ∙ none_t in
        let above_u : IsLoose u n = ap (λ g. count_of g n) same_u ∙ line_loose t is_t.valid n (children_of s.trees c) c none_t line_t in
        same_document s (final (insert_after n c >> move_last c n) u) (rw final-bind (by_parent above_u none_u (parent_of u.trees n) refl) ∙ (same_u ∙ same_t))
      where
        by_parent : IsLoose u n → IsLoose u c → (o : Option ℕ) → parent_of u.trees n ≡ o → document_of (final (move_last c n) (final (insert_after n c) u)).trees ≡ document_of u.trees
        by_parent above none (None) e = rw (after_nothing n c u e) (still_last c n u is_u none)
        by_parent above none (Some p) e = rw (final_insert_after n c p u e) (by_test (cases_Bool (may_insert u p (next_of u.trees n) c)))
          where
            then_stays : document_of (edited (Insert p (next_of u.trees n) c) u).trees ≡ document_of u.trees → document_of (final (move_last c n) (edited (Insert p (next_of u.trees n) c) u)).trees ≡ document_of u.trees
            then_stays same =
                still_last c n (edited (Insert p (next_of u.trees n) c) u) (keeping_edited (Insert p (next_of u.trees n) c) u is_u) (ap (λ g. count_of g c) same ∙ none) ∙ same

            by_test : (may_insert u p (next_of u.trees n) c ≡ true) ⊎ (may_insert u p (next_of u.trees n) c ≡ false) → document_of (final (move_last c n) (edited (Insert p (next_of u.trees n) c) u)).trees ≡ document_of u.trees
            by_test (inr off) = then_stays (ap (λ f. tree_of f 0) (trees_left (Insert p (next_of u.trees n) c) u off))
            by_test (inl put) = then_stays (
                ap (λ f. tree_of f 0) (trees_made (Insert p (next_of u.trees n) c) u put)
                ∙ (document-link u.trees u.next is_u.valid.forest p (next_of u.trees n) c (inserts u p (next_of u.trees n) c put).can
                ∙ put_under_nowhere (document_of u.trees) p (next_of u.trees n) (tree_of u.trees c) (loose_up u is_u.valid n p e above)))

    went : KeepsOrder s (final (insert_after n c >> move_last c n) u)
    went = by_count (count_of (document_of s.trees) c) refl
      where
        by_count : (k : ℕ) → count_of (document_of s.trees) c ≡ k → KeepsOrder s (final (insert_after n c >> move_last c n) u)
        by_count zero none = astray none
        by_count (suc k) some = seated (seat s is.valid c m up (let h : IsWithin s.trees 0 c = omega (arith, some) in omega (arith, within_above s.trees s.next is.valid.forest m c up h)))

  swapped_line : KeepsOrder s (final (insert_after n c >> move_last c n) (edited (Remove c) t))
  unfolding u
  swapped_line = elim (cases_Bool (may_remove t c)) as (λ _. KeepsOrder s (final (insert_after n c >> move_last c n) (edited (Remove c) t))) [ inl may ↦ went may | inr off ↦ left off ]

pub change_places : (s : State) → IsKeeping s → (n c : ℕ) → IsWithin s.trees n c → n ≢ c → IsBare s c → is_break s.trees c ≡ false
    → KeepsOrder s (final (move_all_before (children_of s.trees c) c >> (remove c >> (insert_after n c >> move_last c n))) s)
unfolding t kids
change_places s is n c inside off bare plain =
    let once = is.valid.forest.distinct in
    let here : 0 < count_of s.trees n = holder_there s.trees n c inside in
    let w = within_parent s.trees n once here c off inside in
    let line = line_to s is.valid n c here (depth_of s.trees c) c refl inside (within_self s.trees c once (parent_count s.trees c w.0 once w.1).0) in
    rw (final-bind, final-bind, final-edit) (swapped_line s is n c w.0 w.1 line bare plain)
