-- A new node leaves the fields sound and the history as it was, and what is seen has one more node.
use Rattle.std.proofs.Common.{◌≡◌, ◌⊎◌, ◌^◌, ◌||◌, ◌&&◌, true≢false, ℕ, zero, suc, ◌+◌, ◌-◌, ◌<◌, ◌≤◌, Bool, true, false, cond, List, [], ◌∷◌, ◌++◌, length, take, drop, map, Option, Some, None, IfSome, Result, Ok, Err, refl, sym, ap, subst, ◌∙◌, inl, inr, arith, eqb, nat_lt, nat_le, length-append}
use Rattle.std.specs.Prelude.{IsTrue, IfOk, OnErr, slice_index_or, ◌==◌}
use Rattle.std.proofs.lemmas.List.Folds.{list_any-append}
use Rattle.std.proofs.lemmas.List.{take-append-le, drop-append-le}
use Rattle.std.proofs.lemmas.Bool.Decides.{eqb_tells, nat_tests}
use Rattle.edit_model.specs.DomModel.declared.Content.{Content}
use Rattle.edit_model.specs.DomModel.declared.attributes.Attribute.{Attribute}
use Rattle.edit_model.specs.DomModel.declared.Content.TheVariants.{Element, Words}
use Rattle.edit_model.specs.DomModel.AttributeList.{IsDistinctNames}
use Rattle.edit_model.specs.DomModel.Document.{node_count, char_count, page_depth}
use Rattle.edit_model.specs.DomModel.Forest.{Forest, Seen, total, tops, times, count_of, tree_of, parent_of, first_of, first_in, with_leaf}
use Rattle.edit_model.specs.DomModel.Forest.Forest.{Nil, Tree}
use Rattle.edit_model.specs.DomModel.Places.{levels, kids_in}
use Rattle.edit_model.specs.DomModel.Pruned.{pruned}
use Rattle.edit_model.specs.DomModel.ArenaState.{ArenaState as Arena, IsValid as IsArena}
use Rattle.edit_model.proofs.DomModel.Totals.{total-join}
use Rattle.edit_model.proofs.DomModel.Links.{parent_of-with_leaf, children_of-with_leaf, eqb_refl_true, tree_of_absent}
use Rattle.edit_model.proofs.DomModel.Stands.{seek_absent, times-tops}
use Rattle.std.specs.Option.{option_and_then, option_map_or}
use Rattle.edit_model.specs.NodeArena.declared.NodeRef.{NodeRef}
use Rattle.edit_model.specs.NodeArena.declared.MakeFault.{MakeFault}
use Rattle.edit_model.specs.NodeArena.declared.MakeFault.TheVariants.{Full as ArenaFull, Memory as ArenaMemory}
use Rattle.edit_model.specs.NodeArena.Held.{Makes}
use Rattle.edit_model.specs.LiveRange.declared.places.Places.{Places}
use Rattle.edit_model.specs.LiveRange.LivePoints.{LivePoints}
use Rattle.edit_model.specs.LiveRange.PointsEdit.{has_label}
use Rattle.edit_model.specs.LiveRange.Names.{shown, named as named_marks, marks_of}
use Rattle.step_edits.specs.UndoLog.Turning.{inverses_back, inverses_forth, FitsBack, FitsForth}
use Rattle.step_edits.specs.UndoLog.Log.{Open, noted, is_open}
use Rattle.step_edits.specs.UndoLog.Log.Open.{Closed, Begun, Resumed}
use Rattle.step_edits.specs.ForestChanges.Change.{Change, IsForest, Fits, applied, inverse}
use Rattle.step_edits.specs.ForestChanges.Named.{Each, named_in}
use Rattle.step_edits.specs.ForestChanges.Down.{Prunes, IsLeft}
use Rattle.step_edits.specs.ForestChanges.Leaves.{IsBelow, IsMade, BackBeside, ForthBeside}
use Rattle.step_edits.proofs.ForestChanges.BesideLeaf.{fresh, tree_of-with_leaf}
use Rattle.step_edits.proofs.ForestChanges.ManyLeaves.{back_beside, forth_beside, has_made, pruned-with_leaf}
use Rattle.step_edits.proofs.ForestChanges.ChangeLists.{each_of, each_join, back_down, forth_down, back_fits_up, forth_fits_up}
use Rattle.step_edits.proofs.ForestChanges.DownChange.{prunes_whole}
use Rattle.step_edits.proofs.ForestChanges.Twice.{forest_of}
use Rattle.step_edits.specs.EditSteps.declared.step.Step.{Step}
use Rattle.step_edits.specs.EditSteps.Step.{changes_of, nodes_in}
use Rattle.edit_model.specs.declared.settings.EditFault.{EditFault}
use Rattle.edit_model.specs.declared.settings.EditFault.TheVariants.{Full, Memory}
use Rattle.edit_model.specs.State.{State}
use Rattle.edit_model.specs.Action.{made, words_content}
use Rattle.edit_model.specs.Valid.{IsValid}
use Rattle.edit_model.specs.History.{used, document_of}
use Rattle.edit_model.specs.Gives.{label_of, labels_of, Fails}
use Rattle.edit_model.proofs.Documents.{document-with_leaf}
use Rattle.edit_model.proofs.Forests.{forest-with_leaf}
use Rattle.edit_model.proofs.Points.{points_left, leaves-with_leaf}
use Rattle.edit_model.proofs.Steps.{labels_of-append}
use Rattle.edit_doc.specs.declared.Doc.TheInside.{Inside}
use Rattle.edit_doc.specs.declared.command.EntrySnapshot.{EntrySnapshot}
use Rattle.edit_doc.specs.declared.command.Command.{Command}
use Rattle.edit_doc.specs.Whole.{Whole, IsOpen}
use Rattle.edit_doc.specs.Held.{Holds, Keeps}
use Rattle.edit_doc.specs.Marks.{IsMarked, has_named, NotesMade}
use Rattle.edit_doc.specs.declared.history.Way.{Way}
use Rattle.edit_doc.specs.History.{edits_before, roots_from, forest_before, begun_forest, is_hidden, seen_trees, state_of, begun_state, began_with, view_at, history_of, whole_of, led, older, newer, edits_of, entries}
use Rattle.edit_doc.specs.declared.history.Way.TheVariants.{Back, Forth}
use Rattle.edit_doc.specs.Sound.{RefIn, EachHeldIn, IsSide, AreFresh, IsOff, AreNeeded, AreAlone, IsSnapshot, IsRunning, OpenSound, UndoSound, RedoSound, detached_of, next_first, IsSoundDoc, Lies, FitsWay, changes_along, bound_of, next_bound}
use Rattle.edit_doc.specs.Trail.{Trail}
use Rattle.edit_doc.specs.Live.{Live, live}
use Rattle.edit_doc.specs.Counted.{IsCounted}
use Rattle.edit_parts.specs.declared.Counts.{Counts}
use Rattle.edit_doc.proofs.Laid.{redo_later}
use Rattle.edit_doc.proofs.Downs.{back_forest, led_forest, at_older, at_newer, ends_of}
use Rattle.edit_doc.proofs.HiddenTrees.{model_forest, true_lt}
use Rattle.edit_doc.proofs.Inner.{seen, Ok as OkInside, open_of}
use Rattle.edit_doc.proofs.Off.{entries_moved}
use Rattle.edit_doc.proofs.Changing.{undo_carried}
use Rattle.edit_doc.proofs.MadeNodes.{roots-leaf, used-leaf, not_named}

not_own : (a b : ℕ) → b < a → eqb a b ≡ false
not_own a b h = grind (arith, nat_tests)

more_false : (ms : List Bool) (i : ℕ) → slice_index_or (ms ++ false ∷ []) i false ≡ slice_index_or ms i false
more_false [] zero = refl
more_false [] (suc i) = refl
more_false (m ∷ ms) zero = refl
more_false (m ∷ ms) (suc i) = more_false ms i

-- ---- one more leaf

off_before : (first l : ℕ) → first ≤ l → nat_lt l first ≡ false
off_before first l le = grind (arith, nat_tests)

module _ (l : ℕ) (c : Content) where
  count-more : (f : Forest Content) (j : ℕ) → count_of f j ≤ count_of (with_leaf f l c) j
  count-more f j = omega (arith, total-join (λ i _. cond (eqb i j) 1 0) f (Tree l c Nil Nil))

  count-own : (f : Forest Content) → 0 < count_of (with_leaf f l c) l
  count-own f = (let t = total-join (λ i _. cond (eqb i l) 1 0) f (Tree l c Nil Nil) in let u = rw (eqb_refl_true l) at t in omega (arith, u))

  times-with_leaf : (f : Forest Content) (m : ℕ) → times (tops (with_leaf f l c)) m ≡ times (tops f) m + cond (eqb l m) 1 0
  times-with_leaf Nil m = omega arith
  times-with_leaf (Tree k d ks rest) m = omega (arith, times-with_leaf rest m)

  hidden_off : (f : Forest Content) (first : ℕ) → first ≤ l → is_hidden f first l ≡ false
  hidden_off f first le = (let far = off_before first l le in rw far (no_and (nat_lt 0 l)))
    where
      no_and : (b : Bool) → (b && false) ≡ false
      no_and true = refl
      no_and false = refl

  hidden_leaf : (f : Forest Content) (first j : ℕ) → first ≤ l → is_hidden (with_leaf f l c) first j ≡ is_hidden f first j
  hidden_leaf f first j le = elim (eqb_tells l j) [
    | inl (_, same) ↦ subst (λ m. is_hidden (with_leaf f l c) first m ≡ is_hidden f first m) same (hidden_off (with_leaf f l c) first le ∙ sym (hidden_off f first le))
    | inr (t, _) ↦ (let u = times-with_leaf f j in let u' = rw t at u in let e : times (tops (with_leaf f l c)) j ≡ times (tops f) j = omega (arith, u') in rw e refl)
  ]

  hides_leaf : (f : Forest Content) (first : ℕ) → first ≤ l → is_hidden (with_leaf f l c) first ≡ is_hidden f first
  hides_leaf f first le = λ i j. hidden_leaf f first j le i

  -- what is left is left beside the leaf
  detached_leaf : (h : ℕ → Bool) (f : Forest Content) → h l ≡ false → (j : ℕ) → IsLeft h f j → IsLeft h (with_leaf f l c) j
  detached_leaf h f out j t = subst (λ g. 0 < count_of g j) (sym (pruned-with_leaf h l c out f)) (omega (arith, t, count-more (pruned h f) j))

  each_detached : (before after : Forest Content) (first : ℕ) (ls : List ℕ) → first ≤ l → Each (IsLeft (is_hidden before first) after) ls → Each (IsLeft (is_hidden (with_leaf before l c) first) (with_leaf after l c)) ls
  each_detached before after first ls le hs =
      subst (λ h. Each (IsLeft h (with_leaf after l c)) ls) (sym (hides_leaf before first le))
      (each_of (IsLeft (is_hidden before first) after) (IsLeft (is_hidden before first) (with_leaf after l c)) ls (detached_leaf (is_hidden before first) after (hidden_off before first le)) hs)

  module _ (f : Forest Content) (is : IsForest f) (low : IsBelow f l) where
    document_leaf : document_of (with_leaf f l c) ≡ document_of f
    document_leaf = document-with_leaf f l (model_forest f is l low.below) l c

    view_leaf : (names : List (List ℕ)) (p : Places) → view_at names (with_leaf f l c) p ≡ view_at names f p
    view_leaf names p = ap (λ t. record { document = t; selection = p.selection; marks = map (named_marks names) (marks_of p) }) document_leaf

    nodes_leaf : node_count (with_leaf f l c) ≡ node_count f
    nodes_leaf = ap (λ (t : Forest Content). total (λ _ _. 1) t) document_leaf

    chars_leaf : char_count (with_leaf f l c) ≡ char_count f
    chars_leaf = rw document_leaf refl

    depth_leaf : page_depth (with_leaf f l c) ≡ page_depth f
    depth_leaf = ap (λ (t : Forest Content). levels (kids_in t)) document_leaf

    side_leaf : (names : List (List ℕ)) (p : Places) (nodes chars depth : ℕ) → IsSide names f p nodes chars depth → IsSide names (with_leaf f l c) p nodes chars depth
    side_leaf names p nodes chars depth h = record {
      over = h.over;
      placed = points_left f (with_leaf f l c) (leaves-with_leaf f l (model_forest f is l low.below) c) (shown names p) h.placed;
      resting = h.resting;
      nodes_are = h.nodes_are ∙ sym nodes_leaf;
      chars_are = h.chars_are ∙ sym chars_leaf;
      no_deeper = subst (λ n. n ≤ depth) (sym depth_leaf) h.no_deeper;
    }

  -- the leaf is all of its tree
  own_leaf : (f : Forest Content) → count_of f l ≡ 0 → tree_of (with_leaf f l c) l ≡ Tree l c Nil Nil
  own_leaf Nil none = rw (eqb_refl_true l) refl
  own_leaf (Tree m d ks rest) none = elim (eqb_tells m l) [
    | inl (e, _) ↦ absurd (let none' = rw e at none in omega (arith, none'))
    | inr (e, _) ↦ (
        let none' = rw e at none in
        let under : tree_of ks l ≡ Nil = tree_of_absent ks l (omega (arith, none')) in
        rw (e, under) (own_leaf rest (omega (arith, none'))))
  ]

  off_own : (f : Forest Content) (j high : ℕ) → IsBelow f l → l ≡ j → high ≤ l → (ls : List ℕ) → Each (λ m. m < high) ls → Each (IsOff (with_leaf f l c) j) ls
  off_own f j high low same le ls h = each_of (λ m. m < high) (IsOff (with_leaf f l c) j) ls (λ m lt. subst (λ i. count_of (tree_of (with_leaf f l c) i) m ≡ 0) same (ap (λ t. count_of t m) (own_leaf f (absent (count_of f l) refl)) ∙ alone m (omega (arith, lt, le)))) h
    where
      absent : (n : ℕ) → count_of f l ≡ n → count_of f l ≡ 0
      absent zero e = e
      absent (suc n) e = absurd (let lt = low.below l (omega (arith, e)) in omega (arith, lt))

      alone : (m : ℕ) → m < l → count_of (Tree l c Nil Nil) m ≡ 0
      alone m lt = (let e : eqb l m ≡ false = apart l m lt in rw e (omega arith))
        where
          apart : (a b : ℕ) → b < a → eqb a b ≡ false
          apart a b h = grind (arith, nat_tests)

  fresh_leaf : (f : Forest Content) (first : ℕ) → IsBelow f l → AreFresh f first → AreFresh (with_leaf f l c) first
  fresh_leaf f first low h = record {
    loose = λ j from here. parent_of-with_leaf f l c (fresh l c f low) j ∙ loose j from (count_of f j) refl;
    leaf = λ j from here. ap first_in (children_of-with_leaf f l c (fresh l c f low) j) ∙ leaf j from (count_of f j) refl;
  }
    where
      loose : (j : ℕ) → first ≤ j → (n : ℕ) → count_of f j ≡ n → parent_of f j ≡ None
      loose j from zero e = ap (λ (o : Option (Seen Content)). option_and_then (λ s. s.parent) o) (seek_absent None f j e)
      loose j from (suc n) e = h.loose j from (omega (arith, e))

      leaf : (j : ℕ) → first ≤ j → (n : ℕ) → count_of f j ≡ n → first_of f j ≡ None
      leaf j from zero e = ap (λ (o : Option (Seen Content)). first_in (option_map_or (λ s. s.children) o [])) (seek_absent None f j e)
      leaf j from (suc n) e = h.leaf j from (omega (arith, e))

  snapshot_leaf : (names : List (List ℕ)) (before after : Forest Content) (e : List Step) (ts : List Change) (b : EntrySnapshot) (detached : List NodeRef) (high start : ℕ) → start ≤ l →
      IsForest before → IsBelow before l → IsForest after → IsBelow after l →
      IsSnapshot names before after e ts b detached high start → IsSnapshot names (with_leaf before l c) (with_leaf after l c) e ts b detached high start
  snapshot_leaf names before after e ts b detached high start le is low is' low' h =
      let first : b.span.first_label ≤ l = (let x = h.drawn in let y = h.known in omega (arith, x, y, le)) in
      record {
        was = side_leaf before is low names b.span.before b.span.nodes_before b.span.chars_before b.span.depth_before h.was;
        is = side_leaf after is' low' names b.span.after b.span.nodes_after b.span.chars_after b.span.depth_after h.is;
        some_label = h.some_label;
        fresh = fresh_leaf before b.span.first_label low h.fresh;
        drawn = h.drawn;
        known = h.known;
        hidden = λ j t. (let x = h.hidden j (sym (hidden_leaf before b.span.first_label j first) ∙ t) in omega (arith, x, times-with_leaf after j));
        names_seen = each_detached before before b.span.first_label (named_in (changes_of e)) first h.names_seen;
        names_there = each_detached before after b.span.first_label (named_in (changes_of e)) first h.names_there;
        names_old = h.names_old;
        turns_old = h.turns_old;
        detached_loose = each_of (λ j. (0 < j) × ((j < high) × (parent_of after j ≡ None))) (λ j. (0 < j) × ((j < high) × (parent_of (with_leaf after l c) j ≡ None))) (labels_of detached)
            (λ j t. (t.0, (t.1.0, parent_of-with_leaf after l c (fresh l c after low') j ∙ t.1.1))) h.detached_loose;
        detached_all = λ j inner top out. elim (eqb_tells l j) [
          | inl (_, same) ↦ absurd (let high_le = h.known in let old = off_own after j high low' same (omega arith) in out (old (named_in (changes_of e)) h.names_old) (old (named_in ts) h.turns_old))
          | inr (t, _) ↦ (
              let u = times-with_leaf after j in
              let u' = rw t at u in
              let top' : 0 < times (tops after) j = omega (arith, u', top) in
              let tree : tree_of (with_leaf after l c) j ≡ tree_of after j = tree_of-with_leaf l c after j (low'.below j (omega (arith, top', times-tops after j))) in
              let off : (ls : List ℕ) → Each (IsOff after j) ls → Each (IsOff (with_leaf after l c) j) ls = λ ls a. subst (λ g. Each (λ m. count_of g m ≡ 0) ls) (sym tree) a in
              h.detached_all j inner top' (λ a b. out (off (named_in (changes_of e)) a) (off (named_in ts) b)))
        ];
      }

  module _ (ok : IsMade c) (some : 0 < l) where
    keeps_document : nat_le l 0 ≡ false
    keeps_document = grind (arith, nat_tests)

    -- what changes turn into is the same
    back_inverse : (xs : List Change) (f : Forest Content) → IsForest f → IsBelow f l → FitsBack applied Fits xs f → inverses_back applied inverse xs (with_leaf f l c) ≡ inverses_back applied inverse xs f
    back_inverse xs f is low fits =
        let m = has_made l (c ∷ []) f is low (ok, tt) in
        let prunes : Prunes (nat_le l) (with_leaf f l c) = prunes_whole (nat_le l) (with_leaf f l c) m.forest keeps_document m.whole in
        let up = back_fits_up (nat_le l) xs (with_leaf f l c) prunes m.forest (subst (λ (t : Forest Content). FitsBack applied Fits xs t) (sym m.without) fits) in
        let d = back_down (nat_le l) xs (with_leaf f l c) prunes up.0 up.1 in
        sym d.turns ∙ ap (λ t. inverses_back applied inverse xs t) m.without

    forth_inverse : (xs : List Change) (f : Forest Content) → IsForest f → IsBelow f l → FitsForth applied Fits xs f → inverses_forth applied inverse xs (with_leaf f l c) ≡ inverses_forth applied inverse xs f
    forth_inverse xs f is low fits =
        let m = has_made l (c ∷ []) f is low (ok, tt) in
        let prunes : Prunes (nat_le l) (with_leaf f l c) = prunes_whole (nat_le l) (with_leaf f l c) m.forest keeps_document m.whole in
        let up = forth_fits_up (nat_le l) xs (with_leaf f l c) prunes m.forest (subst (λ (t : Forest Content). FitsForth applied Fits xs t) (sym m.without) fits) in
        let d = forth_down (nat_le l) xs (with_leaf f l c) prunes up.0 up.1 in
        sym d.turns ∙ ap (λ t. inverses_forth applied inverse xs t) m.without

    -- an entry leads the same way beside the leaf
    record LedBeside (w : Way) (e : List Step) (f : Forest Content) : Type 0 where
      fits : FitsWay w e (with_leaf f l c)
      same : led w e (with_leaf f l c) ≡ with_leaf (led w e f) l c
      below : IsBelow (led w e f) l
      turns : changes_along w e (with_leaf f l c) ≡ changes_along w e f
      edits : edits_of w e (with_leaf f l c) ≡ edits_of w e f

    led_beside : (w : Way) (e : List Step) (f : Forest Content) → IsForest f → IsBelow f l → FitsWay w e f → LedBeside w e f
    led_beside Back e f is low h =
        let bb : BackBeside l (c ∷ []) (changes_of e) f = back_beside l (c ∷ []) (changes_of e) f low (ok, tt) h in
        let turns = back_inverse (changes_of e) f is low h in
        record { fits = bb.fits; same = bb.same; below = bb.below; turns = turns; edits = turns }
    led_beside Forth e f is low h =
        let bb : ForthBeside l (c ∷ []) (changes_of e) f = forth_beside l (c ∷ []) (changes_of e) f low (ok, tt) h in
        record { fits = bb.fits; same = bb.same; below = bb.below; turns = forth_inverse (changes_of e) f is low h; edits = refl }

    used_beside : (w : Way) (first : ℕ) (e : List Step) (f : Forest Content) → LedBeside w e f → has_label (named_in (edits_of w e f)) l ≡ false →
        used (edits_of w e (with_leaf f l c)) (roots_from first (older w (with_leaf f l c) (led w e (with_leaf f l c)))) ≡ used (edits_of w e f) (roots_from first (older w f (led w e f)))
    used_beside Back first e f bb off = (λ i. used (bb.edits i) (roots_from first (bb.same i))) ∙ used-leaf (edits_before e f) first l c (forest_before e f) off
    used_beside Forth first e f bb off = used-leaf (changes_of e) first l c f off

    edits_old : (w : Way) (names : List (List ℕ)) (before after : Forest Content) (e : List Step) (f : Forest Content) (b : EntrySnapshot) (ds : List NodeRef) (high start : ℕ) →
        IsSnapshot names before after e (changes_along w e f) b ds high start → Each (λ j. j < high) (named_in (edits_of w e f))
    edits_old Back names before after e f b ds high start h = h.turns_old
    edits_old Forth names before after e f b ds high start h = h.names_old

    -- ---- the history

    module _ (old new : List (Option ℕ)) (keeps : (q : NodeRef) → RefIn old q → RefIn new q) (names : List (List ℕ)) (d : Command) (le : d.start ≤ l) where
      held_more : (xs : List Step) → EachHeldIn old xs → EachHeldIn new xs
      held_more xs h = each_of (RefIn old) (RefIn new) (nodes_in xs) keeps h

      pub lies_leaf : (w : Way) (r : Bool) (high : ℕ) (f : Forest Content) (es : List (List Step)) (bs : List EntrySnapshot) → IsForest f → IsBelow f l → Lies w old names r d high f es bs → Lies w new names r d high (with_leaf f l c) es bs
      lies_leaf w r high f [] [] is low h = tt
      lies_leaf w r high f [] (b ∷ bs) is low h = absurd h
      lies_leaf w r high f (e ∷ es) [] is low h = absurd h
      lies_leaf w r high f (e ∷ es) (b ∷ bs) is low h =
          let x = with_leaf f l c in
          let g = led w e f in
          let bb = led_beside w e f is low h.0.0 in
          let is' = led_forest w e f h.0.0 is in
          let snap : Forest Content → Forest Content → List Change → Type 0 = λ t u ts. IsSnapshot names t u e ts b (detached_of r d b) (bound_of w high d.start bs) d.start in
          let own : snap (with_leaf (older w f g) l c) (with_leaf (newer w f g) l c) (changes_along w e f) = snapshot_leaf names (older w f g) (newer w f g) e (changes_along w e f) b (detached_of r d b) (bound_of w high d.start bs) d.start le
          (at_older (λ t _. IsForest t) w f g f g is is') (at_older (λ t _. IsBelow t l) w f g f g low bb.below) (at_newer (λ t _. IsForest t) w f g f g is is') (at_newer (λ t _. IsBelow t l) w f g f g low bb.below) h.1.0 in
          let ends = ends_of (λ t. with_leaf t l c) (λ t u. snap t u (changes_along w e f)) w f g own in
          let rest = lies_leaf w false (next_bound w high b) g es bs is' bb.below h.1.1 in (
            (bb.fits, held_more e h.0.1),
            (
              subst (λ t. snap (older w x t) (newer w x t) (changes_along w e x)) (sym bb.same) (subst (snap (older w x (with_leaf g l c)) (newer w x (with_leaf g l c))) (sym bb.turns) ends),
              subst (λ t. Lies w new names false d (next_bound w high b) t es bs) (sym bb.same) rest,
            ),
          )

      pub entries_leaf : (w : Way) (r : Bool) (high : ℕ) (f : Forest Content) (es : List (List Step)) (bs : List EntrySnapshot) → IsForest f → IsBelow f l → Lies w old names r d high f es bs → entries w names (with_leaf f l c) es bs ≡ entries w names f es bs
      entries_leaf w r high f [] bs is low h = refl
      entries_leaf w r high f (e ∷ es) [] is low h = refl
      entries_leaf w r high f (e ∷ es) (b ∷ bs) is low h =
          let x = with_leaf f l c in
          let g = led w e f in
          let bb = led_beside w e f is low h.0.0 in
          let is' = led_forest w e f h.0.0 is in
          let there : (p : Places) → view_at names (led w e x) p ≡ view_at names g p = λ p. ap (λ t. view_at names t p) bb.same ∙ view_leaf g is' bb.below names p in
          let was = at_older (λ t u. view_at names t b.span.before ≡ view_at names u b.span.before) w x (led w e x) f g (view_leaf f is low names b.span.before) (there b.span.before) in
          let now = at_newer (λ t u. view_at names t b.span.after ≡ view_at names u b.span.after) w x (led w e x) f g (view_leaf f is low names b.span.after) (there b.span.after) in
          let rest = ap (λ t. entries w names t es bs) bb.same ∙ entries_leaf w false (next_bound w high b) g es bs is' bb.below h.1.1 in
          let off = not_named (bound_of w high d.start bs) l (named_in (edits_of w e f)) (edits_old w names (older w f g) (newer w f g) e f b (detached_of r d b) (bound_of w high d.start bs) d.start h.1.0) (let u = h.1.0.known in omega (arith, u, le)) in
          let used_is = used_beside w b.span.first_label e f bb off in
          λ i. record { before = was i; after = now i; edits = bb.edits i; made = used_is i } ∷ rest i

-- ---- the fields of a command

more_marks : (xs : List Bool) (k : ℕ) → slice_index_or xs k false ≡ true → slice_index_or (xs ++ false ∷ []) k false ≡ true
more_marks [] zero e = absurd (true≢false (sym e))
more_marks [] (suc k) e = absurd (true≢false (sym e))
more_marks (x ∷ xs) zero e = e
more_marks (x ∷ xs) (suc k) e = more_marks xs k e

has_first : (xs ys : List ℕ) (l : ℕ) → has_label xs l ≡ true → has_label (xs ++ ys) l ≡ true
has_first xs ys l h = list_any-append (λ x. x == l) xs ys ∙ rw h refl

has_last : (xs : List ℕ) (l : ℕ) → has_label (xs ++ l ∷ []) l ≡ true
has_last xs l = list_any-append (λ x. x == l) xs (l ∷ []) ∙ (rw own (either_true (has_label xs l)))
  where
    either_true : (a : Bool) → (a || true) ≡ true
    either_true true = refl
    either_true false = refl

    own : has_label (l ∷ []) l ≡ true
    own = elim (eqb_tells l l) [ inl (e, _) ↦ rw e refl | inr (_, off) ↦ absurd (off refl) ]

running_of : (a : Arena) (points : LivePoints) (c : Command) (g : Forest Content) (o : Open Step) → IsTrue (is_open o) → OpenSound a points c g o → IsRunning a points.names c (noted o) g
running_of a points c g Closed h r = absurd (let h' = h in cc)
running_of a points c g (Begun xs) h r = r
running_of a points c g (Resumed xs) h r = r

of_running : (a : Arena) (points : LivePoints) (c : Command) (g : Forest Content) (o : Open Step) → IsTrue (is_open o) → IsRunning a points.names c (noted o) g → OpenSound a points c g o
of_running a points c g Closed h r = absurd (let h' = h in cc)
of_running a points c g (Begun xs) h r = r
of_running a points c g (Resumed xs) h r = r

module _ (tree : Live) (c d : Command) (trail : Trail)
    (open_now : IsTrue (is_open trail.log.open_entry)) (law : IsArena tree.arena)
    (ok : IsSoundDoc tree (record d { named = c.named; detached = c.detached }) trail) where
  -- the command with the marks and the detached trees of before
  abbrev e : Command
  e = record d { named = c.named; detached = c.detached }

  abbrev f : Forest Content
  f = tree.arena.trees

  abbrev g : Forest Content
  g = begun_forest trail.log tree.arena.trees

  abbrev xs : List Step
  xs = noted trail.log.open_entry

  run : IsRunning tree.arena tree.points.names e xs g
  run = running_of tree.arena tree.points e g trail.log.open_entry open_now ok.running

  -- ---- room for more

  pub sound_carried : d.named.items ≡ c.named.items → d.detached.items ≡ c.detached.items → IsSoundDoc tree d trail
  sound_carried named detached = record {
    valid = ok.valid;
    some_label = ok.some_label;
    hidden = ok.hidden;
    running = of_running tree.arena tree.points d g trail.log.open_entry open_now (record {
      kept = run.kept;
      settings = run.settings;
      made = run.made;
      can = run.can;
      names_there = run.names_there;
      marks = ap (λ ms. length ms + d.start) named ∙ run.marks;
      marked = each_of (IsMarked e) (IsMarked d) (named_in (changes_of xs)) mark run.marked;
      marked_inverse = each_of (IsMarked e) (IsMarked d) (named_in (inverses_back applied inverse (changes_of xs) tree.arena.trees)) mark run.marked_inverse;
      named_all = λ l h. run.named_all l (subst (λ ms. (nat_le d.start l && slice_index_or ms (l - d.start) false) ≡ true) named h);
      detached_before = subst (λ ls. d.detached_before ≤ length ls) (sym detached) run.detached_before;
      detached_seen = subst (λ ls. Each (λ l. 0 < count_of (pruned (is_hidden g d.start) tree.arena.trees) l) (labels_of (drop d.detached_before ls))) (sym detached) run.detached_seen;
      newly_detached = λ l inner top. subst (λ ls. has_label (labels_of (drop d.detached_before ls)) l ≡ true) (sym detached) (run.newly_detached l inner top);
    });
    resumed = ok.resumed;
    host = ok.host;
    undo = undo_carried tree.arena.held tree.points.names e d refl d.resumed (next_first d.start trail.future) g trail.log.undo trail.past (detached_same d.resumed) ok.undo;
    redo = redo_later tree.arena.held tree.points.names e d (omega arith) g trail.log.redo trail.future ok.redo;
    needed = ok.needed;
  }
    where
      mark : (l : ℕ) → IsMarked e l → IsMarked d l
      mark l h le = subst (λ ms. slice_index_or ms (l - d.start) false ≡ true) (sym named) (h le)

      detached_same : (r : Bool) (b : EntrySnapshot) → detached_of r e b ≡ detached_of r d b
      detached_same false b = refl
      detached_same true b = ap (take d.detached_before) (sym detached)

  -- ---- one more node

  module _ (held : List (Option ℕ)) (node : NodeRef) (x : Content) (made_of : IsMade x) (keeps : (q : NodeRef) → RefIn tree.arena.held q → RefIn held q) (own : RefIn held node) (label : node.label ≡ tree.arena.next)
      (named : d.named.items ≡ c.named.items ++ false ∷ []) (detached : d.detached.items ≡ c.detached.items ++ node ∷ []) where
    abbrev l : ℕ
    l = tree.arena.next

    abbrev pub arena_made : Arena
    arena_made = record { trees = with_leaf tree.arena.trees tree.arena.next x; next = tree.arena.next + 1; cap = tree.arena.cap; held = held }

    is : IsForest f
    is = forest_of tree.arena law

    low : IsBelow f l
    low = record { below = law.below }

    some : 0 < l
    some = law.below 0 law.document

    started : d.start ≤ l
    started = ok.valid.started

    bb : BackBeside l (x ∷ []) (changes_of xs) f
    bb = back_beside l (x ∷ []) (changes_of xs) f low (made_of, tt) run.can.0

    begun_is_forest : IsForest g
    begun_is_forest = back_forest (changes_of xs) f run.can.0 is

    begun_is : begun_forest trail.log (with_leaf f l x) ≡ with_leaf g l x
    begun_is = bb.same

    abbrev hides : ℕ → Bool
    hides = is_hidden g d.start

    off : hides l ≡ false
    off = hidden_off l x g d.start started

    hides_is : is_hidden (begun_forest trail.log (with_leaf f l x)) d.start ≡ hides
    hides_is = ap (λ t. is_hidden t d.start) begun_is ∙ hides_leaf l x g d.start started

    seen_is : seen_trees trail.log d.start (with_leaf f l x) ≡ with_leaf (pruned hides f) l x
    seen_is = ap (λ k. pruned k (with_leaf f l x)) hides_is ∙ pruned-with_leaf hides l x off f

    abbrev s : State
    s = state_of tree e trail.log

    state_is : state_of (record tree { arena = arena_made }) d trail.log ≡ made x s
    unfolding made
    state_is = λ i. record {
      trees = seen_is i;
      points = tree.points;
      overrides = tree.overrides;
      flags = tree.flags;
      next = tree.arena.next + 1;
      cap = tree.arena.cap;
      start = d.start;
      host = label_of d.host;
      keeping = d.keeping;
      edits = back_inverse l x made_of some (changes_of xs) f is low run.can.0 i;
      made = (ap (roots_from d.start) begun_is ∙ roots-leaf d.start l x g started) i;
    }

    valid_made : IsValid (made x s)
    unfolding made
    valid_made = record {
      forest = forest-with_leaf s.trees s.next ok.valid.forest x made_of.plain made_of.short made_of.names;
      placed = points_left s.trees (with_leaf s.trees s.next x) (leaves-with_leaf s.trees s.next ok.valid.forest x) tree.points ok.valid.placed;
      started = (let h = started in omega (arith, h));
      settings = ok.valid.settings;
    }

    abbrev was_detached : List ℕ
    was_detached = labels_of (drop d.detached_before c.detached.items)

    detached_labels : labels_of (drop d.detached_before d.detached.items) ≡ was_detached ++ l ∷ []
    detached_labels =
        ap (λ ls. labels_of (drop d.detached_before ls)) detached
        ∙ (ap labels_of (drop-append-le d.detached_before c.detached.items (node ∷ []) run.detached_before)
        ∙ (labels_of-append (drop d.detached_before c.detached.items) (node ∷ []) ∙ ap (λ j. was_detached ++ j ∷ []) label))

    mark : (j : ℕ) → IsMarked e j → IsMarked d j
    mark j h le = subst (λ ms. slice_index_or ms (j - d.start) false ≡ true) (sym named) (more_marks c.named.items (j - d.start) (h le))

    seen_more : (j : ℕ) → IsLeft hides f j → 0 < count_of (with_leaf (pruned hides f) l x) j
    seen_more j h = omega (arith, h, count-more l x (pruned hides f) j)

    absent_parent : (j : ℕ) → count_of g j ≡ 0 → parent_of g j ≡ None
    absent_parent j e = ap (λ (o : Option (Seen Content)). option_and_then (λ s. s.parent) o) (seek_absent None g j e)

    absent_children : (j : ℕ) → count_of g j ≡ 0 → first_of g j ≡ None
    absent_children j e = ap (λ (o : Option (Seen Content)). first_in (option_map_or (λ s. s.children) o [])) (seek_absent None g j e)

    alone : AreAlone (with_leaf g l x) d.start (tree.arena.next + 1)
    alone = record {
      loose = λ j from to here. parent_of-with_leaf g l x (fresh l x g bb.below) j ∙ loose j from (count_of g j) refl;
      leaf = λ j from to here. ap first_in (children_of-with_leaf g l x (fresh l x g bb.below) j) ∙ leaf j from (count_of g j) refl;
    }
      where
        loose : (j : ℕ) → d.start ≤ j → (n : ℕ) → count_of g j ≡ n → parent_of g j ≡ None
        loose j from zero e = absent_parent j e
        loose j from (suc n) e = (let here : 0 < count_of g j = omega (arith, e) in run.made.loose j from (bb.below.below j here) here)

        leaf : (j : ℕ) → d.start ≤ j → (n : ℕ) → count_of g j ≡ n → first_of g j ≡ None
        leaf j from zero e = absent_children j e
        leaf j from (suc n) e = (let here : 0 < count_of g j = omega (arith, e) in run.made.leaf j from (bb.below.below j here) here)

    runs : IsRunning arena_made tree.points.names d xs (with_leaf g l x)
    runs = record {
      kept = side_leaf l x g begun_is_forest bb.below tree.points.names d.kept.places d.kept.counts.nodes d.kept.counts.chars d.kept.counts.depth run.kept;
      settings = run.settings;
      made = alone;
      can = (bb.fits, each_of (RefIn tree.arena.held) (RefIn held) (nodes_in xs) keeps run.can.1);
      names_there = each_detached l x g f d.start (named_in (changes_of xs)) started run.names_there;
      marks = (let m = run.marks in let n = ap length named in let k = length-append c.named.items (false ∷ []) in omega (arith, m, n, k));
      marked = each_of (IsMarked e) (IsMarked d) (named_in (changes_of xs)) mark run.marked;
      marked_inverse = subst (λ ys. Each (IsMarked d) (named_in ys)) (sym (back_inverse l x made_of some (changes_of xs) f is low run.can.0))
          (each_of (IsMarked e) (IsMarked d) (named_in (inverses_back applied inverse (changes_of xs) f)) mark run.marked_inverse);
      named_all = λ j h. (
          let was : has_named e j ≡ true = ap (λ b. nat_le d.start j && b) (sym (more_false c.named.items (j - d.start))) ∙ subst (λ ms. (nat_le d.start j && slice_index_or ms (j - d.start) false) ≡ true) named h in
          subst (λ ys. (has_label (named_in (changes_of xs)) j ≡ true) ⊎ (has_label (named_in ys) j ≡ true)) (sym (back_inverse l x made_of some (changes_of xs) f is low run.can.0)) (run.named_all j was));
      detached_before = (let b = run.detached_before in let n = ap length detached in let k = length-append c.detached.items (node ∷ []) in omega (arith, b, n, k));
      detached_seen = subst (λ (t : Forest Content). Each (λ j. 0 < count_of t j) (labels_of (drop d.detached_before d.detached.items))) (sym seen_leaf)
          (subst (Each (λ j. 0 < count_of (with_leaf (pruned hides f) l x) j)) (sym detached_labels)
          (each_join (λ j. 0 < count_of (with_leaf (pruned hides f) l x) j) was_detached (l ∷ [])
          (each_of (IsLeft hides f) (λ j. 0 < count_of (with_leaf (pruned hides f) l x) j) was_detached seen_more run.detached_seen)
          (count-own l x (pruned hides f), tt)));
      newly_detached = λ j inner top. (
          let top' : 0 < times (tops (with_leaf (pruned hides f) l x)) j = subst (λ (t : Forest Content). 0 < times (tops t) j) seen_leaf top in
          let t = times-with_leaf l x (pruned hides f) j in
          subst (λ ls. has_label ls j ≡ true) (sym detached_labels) (elim (eqb_tells l j) [
            | inl (_, same) ↦ subst (λ i. has_label (was_detached ++ l ∷ []) i ≡ true) same (has_last was_detached l)
            | inr (u, _) ↦ (let t' = rw u at t in has_first was_detached (l ∷ []) j (run.newly_detached j inner (omega (arith, t', top'))))
          ]));
    }
      where
        seen_leaf : pruned (is_hidden (with_leaf g l x) d.start) (with_leaf f l x) ≡ with_leaf (pruned hides f) l x
        seen_leaf = ap (λ k. pruned k (with_leaf f l x)) (hides_leaf l x g d.start started) ∙ pruned-with_leaf hides l x off f

    detached_same : (r : Bool) (b : EntrySnapshot) → detached_of r e b ≡ detached_of r d b
    detached_same false b = refl
    detached_same true b = sym (ap (take d.detached_before) detached ∙ take-append-le d.detached_before c.detached.items (node ∷ []) run.detached_before)

    host_still : (o : Option NodeRef) → IfSome o (λ h. RefIn tree.arena.held h × (0 < count_of (pruned hides f) h.label)) → IfSome o (λ h. RefIn held h × (0 < count_of (with_leaf (pruned hides f) l x) h.label))
    host_still None h = tt
    host_still (Some r) h = (keeps r h.0, seen_more r.label h.1)

    undo_now : UndoSound tree.arena.held tree.points.names d.resumed d (next_first d.start trail.future) g trail.log.undo trail.past
    undo_now = undo_carried tree.arena.held tree.points.names e d refl d.resumed (next_first d.start trail.future) g trail.log.undo trail.past (detached_same d.resumed) ok.undo

    redo_now : RedoSound tree.arena.held tree.points.names d g trail.log.redo trail.future
    redo_now = redo_later tree.arena.held tree.points.names e d (omega arith) g trail.log.redo trail.future ok.redo

    pub sound_made : IsSoundDoc (record tree { arena = arena_made }) d trail
    sound_made = record {
      valid = subst IsValid (sym state_is) valid_made;
      some_label = ok.some_label;
      hidden = λ j h. (let h' : hides j ≡ true = subst (λ k. k j ≡ true) hides_is h in let top = ok.hidden j h' in omega (arith, top, times-with_leaf l x f j));
      running = of_running arena_made tree.points d (begun_forest trail.log (with_leaf f l x)) trail.log.open_entry open_now (subst (λ t. IsRunning arena_made tree.points.names d xs t) (sym begun_is) runs);
      resumed = ok.resumed;
      host = subst (λ t. IfSome d.host (λ h. RefIn held h × (0 < count_of t h.label))) (sym seen_is) (host_still d.host ok.host);
      undo = subst (λ t. UndoSound held tree.points.names d.resumed d (next_first d.start trail.future) t trail.log.undo trail.past) (sym begun_is)
          (lies_leaf l x made_of some tree.arena.held held keeps tree.points.names d started Back d.resumed (next_first d.start trail.future) g trail.log.undo trail.past begun_is_forest bb.below undo_now);
      redo = subst (λ t. RedoSound held tree.points.names d t trail.log.redo trail.future) (sym begun_is)
          (lies_leaf l x made_of some tree.arena.held held keeps tree.points.names d started Forth false 0 g trail.log.redo trail.future begun_is_forest bb.below redo_now);
      needed = subst (λ t. AreNeeded d.start t trail.log.undo trail.log.redo) (sym begun_is) (λ j inner old top u r. (
          let lt : j < l = (let s = started in omega (arith, old, s)) in
          let t = times-with_leaf l x g j in
          let apart : eqb l j ≡ false = not_own l j lt in
          let t' = rw apart at t in
          let same : (m : ℕ) → count_of (tree_of g j) m ≡ count_of (tree_of (with_leaf g l x) j) m = λ m. ap (λ z. count_of z m) (sym (tree_of-with_leaf l x g j lt)) in
          ok.needed j inner old (omega (arith, t', top)) (entries_moved j (with_leaf g l x) g same trail.log.undo u) (entries_moved j (with_leaf g l x) g same trail.log.redo r)));
    }

    history_is : history_of tree.points.names (begun_forest trail.log (with_leaf f l x)) trail ≡ history_of tree.points.names g trail
    history_is = ap (λ t. history_of tree.points.names t trail) begun_is ∙ (λ i. record {
      undo = entries_leaf l x made_of some tree.arena.held held keeps tree.points.names d started Back d.resumed (next_first d.start trail.future) g trail.log.undo trail.past begun_is_forest bb.below undo_now i;
      redo = entries_leaf l x made_of some tree.arena.held held keeps tree.points.names d started Forth false 0 g trail.log.redo trail.future begun_is_forest bb.below redo_now i;
      depth = trail.log.depth;
      dropped = trail.log.dropped;
    })

    begun_state_is : begun_state arena_made tree.points.names d trail.log ≡ begun_state tree.arena tree.points.names e trail.log
    begun_state_is = λ i. record {
      trees = (ap document_of begun_is ∙ document_leaf l x g begun_is_forest bb.below) i;
      points = shown tree.points.names d.kept.places;
      overrides = d.kept.overrides;
      flags = d.kept.flags;
      next = d.start;
      cap = tree.arena.cap;
      start = d.start;
      host = None;
      keeping = false;
      edits = [];
      made = [];
    }

    pub whole_made : whole_of (record tree { arena = arena_made }) d trail ≡ record (whole_of tree e trail) { state = made x s; held = held }
    whole_made = λ i. record {
      state = state_is i;
      history = history_is i;
      began = began_with (begun_state_is i) trail.log.open_entry;
      held = held;
    }

    pub keeps_made : Keeps (whole_of tree e trail) (record (whole_of tree e trail) { state = made x s; held = held })
    unfolding made
    keeps_made = record {
      held = λ r h. record { slot = keeps r h.slot; here = seen_more r.label h.here };
      history = refl;
      began = refl;
      start = refl;
      cap = refl;
    }

    pub held_made : Holds (record (whole_of tree e trail) { state = made x s; held = held }) node
    unfolding made
    held_made = record { slot = own; here = subst (λ j. 0 < count_of (with_leaf (pruned hides f) l x) j) (sym label) (count-own l x (pruned hides f)) }

-- the numbers stay where a node is made, or none
pub counted_made : (a b : Arena) (x : Content) (counts : Counts) → IsArena a → IsCounted a.trees counts → (r : Result NodeRef MakeFault) → IfOk r (λ node. Makes a b node x) → OnErr r (b ≡ a) → IsCounted b.trees counts
counted_made a b x counts law h (Ok node) made same =
    let is = forest_of a law in
    let low : IsBelow a.trees a.next = record { below = law.below } in
    subst (λ t. IsCounted t counts) (sym made.trees) (record { nodes = h.nodes ∙ sym (nodes_leaf a.next x a.trees is low); chars = h.chars ∙ sym (chars_leaf a.next x a.trees is low); depth = subst (λ n. n ≤ counts.depth) (sym (depth_leaf a.next x a.trees is low)) h.depth })
counted_made a b x counts law h (Err fault) made same = subst (λ (c : Arena). IsCounted c.trees counts) (sym same) h

-- ---- what the calls owe

pub record Given (d : Inside) (v : Whole) (x : Content) (node : NodeRef) (a : Arena) (c : Command) : Type 0 where
  pub invariant : IsSoundDoc (record (live d.tree) { arena = a }) c d.history
  pub state : state_of (record (live d.tree) { arena = a }) c d.history.log ≡ made x v.state
  pub held : Holds (whole_of (record (live d.tree) { arena = a }) c d.history) node
  pub keeps : Keeps v (whole_of (record (live d.tree) { arena = a }) c d.history)

module _ (d : Inside) (v : Whole) (sees : seen d ≡ v) (law : IsArena d.tree.nodes.arena) (now_open : IsOpen v) (ok : OkInside d) where
  opened : IsTrue (is_open d.history.log.open_entry)
  opened = open_of d v sees now_open

  -- only room was made
  pub room_made : (c : Command) → record c { named = d.command.named; detached = d.command.detached } ≡ d.command → c.named.items ≡ d.command.named.items → c.detached.items ≡ d.command.detached.items →
      IsSoundDoc (live d.tree) c d.history
  room_made c rest named detached =
      sound_carried (live d.tree) d.command c d.history opened law
      (subst (λ z. IsSoundDoc (live d.tree) z d.history) (sym rest) ok) named detached

  pub node_made : (x : Content) → IsMade x → (a : Arena) (node : NodeRef) → Makes d.tree.nodes.arena a node x → (b c : Command) → record b { named = d.command.named; detached = d.command.detached } ≡ d.command →
      b.named.items ≡ d.command.named.items → b.detached.items ≡ d.command.detached.items → NotesMade node b c → Given d v x node a c
  node_made x made_of a node m b c base named detached notes =
      let rest : record c { named = d.command.named; detached = d.command.detached } ≡ d.command = ap (λ (z : Command). record z { named = d.command.named; detached = d.command.detached }) notes.rest ∙ base in
      let ok' = subst (λ z. IsSoundDoc (live d.tree) z d.history) (sym rest) ok in
      let named' : c.named.items ≡ d.command.named.items ++ false ∷ [] = notes.named ∙ ap (λ ms. ms ++ false ∷ []) named in
      let left' : c.detached.items ≡ d.command.detached.items ++ node ∷ [] = notes.detached ∙ ap (λ ls. ls ++ node ∷ []) detached in
      let arena_is : record { trees = with_leaf d.tree.nodes.arena.trees d.tree.nodes.arena.next x; next = d.tree.nodes.arena.next + 1; cap = d.tree.nodes.arena.cap; held = a.held } ≡ a = (λ i. record { trees = sym m.trees i; next = sym m.next i; cap = sym m.cap i; held = a.held }) in
      let whole_is = whole_made (live d.tree) d.command c d.history opened law ok' a.held node x made_of m.keeps m.held m.label named' left' in
      let same : whole_of (live d.tree) (record c { named = d.command.named; detached = d.command.detached }) d.history ≡ v =
      ap (λ z. whole_of (live d.tree) z d.history) rest ∙ sees in
      subst (λ t. Given d v x node t c) arena_is (record {
        invariant = sound_made (live d.tree) d.command c d.history opened law ok' a.held node x made_of m.keeps m.held m.label named' left';
        state = ap (λ (w : Whole). w.state) whole_is ∙ ap (λ (w : Whole). made x w.state) same;
        held = subst (λ w. Holds w node) (sym whole_is) (held_made (live d.tree) d.command c d.history opened law ok' a.held node x made_of m.keeps m.held m.label named' left');
        keeps = subst (Keeps v) (sym whole_is) (subst (λ w. Keeps w (record (whole_of (live d.tree) (record c { named = d.command.named; detached = d.command.detached }) d.history) { state = made x (state_of (live d.tree) (record c { named = d.command.named; detached = d.command.detached }) d.history.log); held = a.held })) same
            (keeps_made (live d.tree) d.command c d.history opened law ok' a.held node x made_of m.keeps m.held m.label named' left'));
      })

  -- no node was made
  pub none_made : (t : State) (fault : MakeFault) (r : EditFault) → (fault ≡ ArenaFull → r ≡ Full) → (fault ≡ ArenaMemory → r ≡ Memory) →
      (fault ≡ ArenaFull → d.tree.nodes.arena.next ≡ d.tree.nodes.arena.cap) → (v.state.cap ≤ v.state.next → Fails Full t) → Fails r t
  none_made t fault r full memory capped over = by_fault fault full memory capped
    where
      at_cap : d.tree.nodes.arena.next ≡ d.tree.nodes.arena.cap → v.state.cap ≤ v.state.next
      at_cap e = subst (λ (w : Whole). w.state.cap ≤ w.state.next) sees (omega (arith, e))

      by_fault : (q : MakeFault) → (q ≡ ArenaFull → r ≡ Full) → (q ≡ ArenaMemory → r ≡ Memory) → (q ≡ ArenaFull → d.tree.nodes.arena.next ≡ d.tree.nodes.arena.cap) → Fails r t
      by_fault ArenaFull f m c = subst (λ z. Fails z t) (sym (f refl)) (over (at_cap (c refl)))
      by_fault ArenaMemory f m c = subst (λ z. Fails z t) (sym (m refl)) tt

-- ---- what a node is made with

pub element_made : (name : List ℕ) (attributes : List Attribute) → IsDistinctNames attributes → IsMade (Element name attributes)
element_made name attributes distinct = record { plain = λ e. cc; short = omega arith; names = distinct }

pub words_made : (chars : List ℕ) → length chars < 2 ^ 32 → IsMade (Words chars)
words_made chars short = record { plain = λ e. cc; short = short; names = tt }

pub words_content_is : (chars : List ℕ) → length chars < 2 ^ 32 → words_content chars ≡ Words chars
words_content_is chars short = (let t : nat_lt (length chars) (2 ^ 32) ≡ true = true_lt (length chars) (2 ^ 32) short in rw t refl)
