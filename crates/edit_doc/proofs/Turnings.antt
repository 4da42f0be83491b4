-- An entry is taken back, or forth again.
use Rattle.std.proofs.Common.{◌≡◌, ℕ, ◌<◌, true, false, List, [], ◌∷◌, ◌++◌, length, take, drop, Option, Some, None, refl, sym, ap, subst, ◌∙◌, arith}
use Rattle.std.specs.Prelude.{slice_get}
use Rattle.std.specs.Option.{option_map}
use Rattle.edit_model.specs.DomModel.declared.Content.{Content}
use Rattle.edit_model.specs.DomModel.Forest.{Forest, tops, times, count_of, tree_of}
use Rattle.edit_model.specs.DomModel.ArenaState.{ArenaState as Arena, IsValid as IsArena, IsSlotted}
use Rattle.edit_model.specs.LiveRange.declared.places.Places.{Places}
use Rattle.edit_model.specs.LiveRange.LivePoints.{LivePoints}
use Rattle.edit_model.specs.LiveRange.Names.{shown}
use Rattle.step_edits.specs.UndoLog.Turning.{back, forth, inverses_back, inverses_forth, FitsBack, FitsForth, TurnsBack, TurnsForth}
use Rattle.step_edits.specs.UndoLog.Log.{noted, first_length, FitsUndo, FitsRedo, undone_state, redone_state, undone_with, redone_with}
use Rattle.step_edits.specs.UndoLog.Log.Open.{Closed}
use Rattle.step_edits.specs.ForestChanges.Change.{Change, IsForest, Fits, applied, inverse}
use Rattle.step_edits.specs.ForestChanges.Named.{Each, named_in}
use Rattle.step_edits.specs.ForestChanges.Down.{Prunes, IsLeft}
use Rattle.step_edits.proofs.ForestChanges.ChangeLists.{each_of}
use Rattle.step_edits.proofs.ForestChanges.DownChange.{prunes_roots}
use Rattle.step_edits.proofs.ForestChanges.Twice.{forest_of, back_turns, forth_turns}
use Rattle.step_edits.specs.EditSteps.declared.step.Step.{Step}
use Rattle.step_edits.specs.EditSteps.Step.{changes_of, step_applied, step_inverse, StepFits, GoBack, GoForth}
use Rattle.step_edits.proofs.EditSteps.StepLists.{go_back, go_forth, back_fits, forth_fits}
use Rattle.edit_model.specs.Overrides.{no_overrides}
use Rattle.edit_model.specs.History.{History, used, at_view, undone_state as undone_doc, undone_history, redone_state as redone_doc, redone_history, undone_state_by, undone_history_by, redone_state_by, redone_history_by}
use Rattle.edit_model.specs.NodeArena.declared.NodeRef.{NodeRef}
use Rattle.edit_doc.specs.declared.Doc.TheInside.{Inside}
use Rattle.edit_doc.specs.declared.command.EntrySnapshot.{EntrySnapshot}
use Rattle.edit_doc.specs.declared.command.EntrySpan.{EntrySpan}
use Rattle.edit_doc.specs.Trail.{Trail, IsTrail, trail_of, FitsAlong, steps_along, snapshots_along, arena_along, trail_along}
use Rattle.edit_doc.specs.Whole.{Whole, first_edits}
use Rattle.edit_doc.specs.declared.history.Way.{Way}
use Rattle.edit_doc.specs.History.{roots_from, forest_before, forest_after, is_hidden, undo_entries, redo_entries, history_of, whole_of, view_at, led, older, newer, other, entries_along, whole_along}
use Rattle.edit_doc.specs.declared.history.Way.TheVariants.{Back, Forth}
use Rattle.edit_doc.specs.Sound.{IsOff, EntriesOff, AreNeeded, IsSide, IsSnapshot, UndoSound, RedoSound, next_first, IsSoundDoc, CanGo, Lies, changes_along}
use Rattle.edit_doc.specs.Live.{live, live_of}
use Rattle.edit_doc.specs.Fields.{places_along, counts_along}
use Rattle.edit_doc.proofs.HiddenTrees.{hidden_is, top_loose}
use Rattle.edit_doc.proofs.Inner.{seen, Ok}
use Rattle.edit_doc.proofs.Laid.{undo_count, redo_count, undo_edits, redo_edits}
use Rattle.edit_doc.proofs.Off.{Passes, passes_back, passes_forth, off_moved, entries_moved, each_here}
use Rattle.edit_doc.proofs.Rests.{AtRest, rest_of, rest_sound, rest_whole, none_noted, rested_state}
use Rattle.edit_doc.proofs.Downs.{at_older, at_newer, led_down, names_here, turned_ends}

-- ---- what an entry becomes, over the forest

-- the trees that an entry's commands didn't see stay apart on both sides
pub prunes_before : (before : Forest Content) (first : ℕ) → IsForest before → Prunes (is_hidden before first) before
prunes_before before first is = prunes_roots (is_hidden before first) before is refl (λ l h. top_loose before l is.distinct (hidden_is before first l h).root)

pub prunes_after : (before after : Forest Content) (first : ℕ) → IsForest after → ((l : ℕ) → is_hidden before first l ≡ true → 0 < times (tops after) l) → Prunes (is_hidden before first) after
prunes_after before after first is roots = prunes_roots (is_hidden before first) after is refl (λ l h. top_loose after l is.distinct (roots l h))

abbrev step_led : Way → List Step → Arena → Arena
step_led Back e a = back step_applied e a
step_led Forth e a = forth step_applied e a

abbrev step_turned : Way → List Step → Arena → List Step
step_turned Back e a = inverses_back step_applied step_inverse e a
step_turned Forth e a = inverses_forth step_applied step_inverse e a

-- the steps of an entry, and what they turn into
record Turns (w : Way) (e t : List Step) (a : Arena) : Type 0 where
  arena : step_led w e a ≡ record a { trees = led w e a.trees }
  can : CanGo (other w) a.held t (led w e a.trees)
  again : led (other w) t (led w e a.trees) ≡ a.trees
  steps : changes_along (other w) t (led w e a.trees) ≡ changes_of e
  own : changes_of t ≡ changes_along w e a.trees

turns_of : (w : Way) (e : List Step) (a : Arena) → IsSlotted a → CanGo w a.held e a.trees → Turns w e (step_turned w e a) a
turns_of Back e a slotted can =
    let g = forest_before e a.trees in
    let gb : GoBack e a = go_back e a (back_fits e a slotted can.1 can.0) in
    let tb : TurnsBack applied inverse Fits (changes_of e) a.trees = back_turns (changes_of e) a.trees can.0 in
    record {
      arena = gb.state;
      can = (subst (λ xs. FitsForth applied Fits xs g) (sym gb.turns) tb.fit, gb.held);
      again = ap (λ xs. forth applied xs g) gb.turns ∙ tb.state;
      steps = ap (λ xs. inverses_forth applied inverse xs g) gb.turns ∙ tb.steps;
      own = gb.turns;
    }
turns_of Forth e a slotted can =
    let g = forest_after e a.trees in
    let gb : GoForth e a = go_forth e a (forth_fits e a slotted can.1 can.0) in
    let tb : TurnsForth applied inverse Fits (changes_of e) a.trees = forth_turns (changes_of e) a.trees can.0 in
    record {
      arena = gb.state;
      can = (subst (λ xs. FitsBack applied Fits xs g) (sym gb.turns) tb.fit, gb.held);
      again = ap (λ xs. back applied xs g) gb.turns ∙ tb.state;
      steps = ap (λ xs. inverses_back applied inverse xs g) gb.turns ∙ tb.steps;
      own = gb.turns;
    }

module _ (a : Arena) (is : IsForest a.trees) (slotted : IsSlotted a) (names : List (List ℕ)) (e : List Step) (b : EntrySnapshot) (detached : List NodeRef) (high start : ℕ) where
  prunes_here : (w : Way) (ts : List Change) → IsSnapshot names (older w a.trees (led w e a.trees)) (newer w a.trees (led w e a.trees)) e ts b detached high start → Prunes (is_hidden (older w a.trees (led w e a.trees)) b.span.first_label) a.trees
  prunes_here Back ts h = prunes_after (forest_before e a.trees) a.trees b.span.first_label is h.hidden
  prunes_here Forth ts h = prunes_before a.trees b.span.first_label is

  -- an entry that is taken one way can be taken the other
  taken : (w : Way) → CanGo w a.held e a.trees → IsSnapshot names (older w a.trees (led w e a.trees)) (newer w a.trees (led w e a.trees)) e (changes_along w e a.trees) b detached high start →
      let t = step_turned w e a in
      let g = led w e a.trees in
      Turns w e t a × IsSnapshot names (older (other w) g (led (other w) t g)) (newer (other w) g (led (other w) t g)) t (changes_along (other w) t g) b detached high start
  taken w can h =
      let f = a.trees in
      let g = led w e f in
      let t = step_turned w e a in
      let ts = turns_of w e a slotted can in
      let k = is_hidden (older w f g) b.span.first_label in
      let d = led_down k w e f (prunes_here w (changes_along w e f) h) can.0 (names_here w names f g e (changes_along w e f) b detached high start h) in
      let here : Each (IsLeft k f) (named_in (changes_of t)) = subst (λ xs. Each (IsLeft k f) (named_in xs)) (sym ts.own) d.names in
      let there : Each (IsLeft k g) (named_in (changes_of t)) = each_of (IsLeft k f) (IsLeft k g) (named_in (changes_of t)) (λ l s. (let u = d.stays l in omega arith)) here in
      let own : IsSnapshot names (older w f g) (newer w f g) t (changes_of e) b detached high start = record {
        was = h.was;
        is = h.is;
        some_label = h.some_label;
        fresh = h.fresh;
        drawn = h.drawn;
        known = h.known;
        hidden = h.hidden;
        names_seen = at_older (λ x _. Each (IsLeft k x) (named_in (changes_of t))) w f g f g here there;
        names_there = at_newer (λ x _. Each (IsLeft k x) (named_in (changes_of t))) w f g f g here there;
        names_old = subst (λ xs. Each (λ l. l < high) (named_in xs)) (sym ts.own) h.turns_old;
        turns_old = h.names_old;
        detached_loose = h.detached_loose;
        detached_all = λ l inner top out. h.detached_all l inner top (λ x y. out (subst (λ xs. Each (IsOff (newer w f g) l) (named_in xs)) (sym ts.own) y) x);
      } in
      let turn = turned_ends (λ x y. IsSnapshot names x y t (changes_of e) b detached high start) w f g own in (
        ts,
        subst (λ x. IsSnapshot names (older (other w) g x) (newer (other w) g x) t (changes_along (other w) t g) b detached high start) (sym ts.again)
            (subst (λ xs. IsSnapshot names (older (other w) g f) (newer (other w) g f) t xs b detached high start) (sym ts.steps) turn),
      )

-- ---- lists

uncons : {A : Type 0} (xs : List A) → 0 < length xs → (x : A) × (ys : List A) × (xs ≡ x ∷ ys)
uncons [] h = absurd (omega arith)
uncons (x ∷ xs) h = (x, xs, refl)

some_eq : {A : Type 0} (x y : A) → Some x ≡ Some y → x ≡ y
some_eq x y e = cc

pub unset_length : length no_overrides ≡ 32
unfolding no_overrides
unset_length = refl

-- the span of the first snapshot, if there is one
abbrev first_span : List EntrySnapshot → Option EntrySpan
first_span bs = option_map (λ (b : EntrySnapshot). b.span) (slice_get bs 0)

no_first : (bs : List EntrySnapshot) → None ≡ first_span bs → bs ≡ []
no_first [] e = refl
no_first (b ∷ bs) e = absurd (let e' : None ≡ Some b.span = e in cc)

none_long : {A : Type 0} (xs : List A) → length xs ≡ 0 → xs ≡ []
none_long [] e = refl
none_long (x ∷ xs) e = absurd (omega (arith, e))

-- ---- for the value that a contract sees

module _ (d : Inside) (v : Whole) (sees : seen d ≡ v) (law : IsArena d.tree.nodes.arena) (slotted : IsSlotted d.tree.nodes.arena) (beside : IsTrail d.history) (closed : d.history.log.open_entry ≡ Closed) (ok : Ok d) where
  at_rest : AtRest (live d.tree) d.command d.history
  at_rest = rest_of (live d.tree) d.command d.history law closed ok

  -- ---- the entries that lie one way

  abbrev high : Way → ℕ
  high Back = next_first d.command.start d.history.future
  high Forth = 0

  abbrev LiesHere : Way → ℕ → List (List Step) → List EntrySnapshot → Type 0
  LiesHere w n es bs = Lies w d.tree.nodes.arena.held d.tree.points.names false d.command n d.tree.nodes.arena.trees es bs

  lies : (w : Way) → LiesHere w (high w) (steps_along w d.history) (snapshots_along w d.history)
  lies Back = at_rest.undo
  lies Forth = at_rest.redo

  fits_of : (w : Way) (n : ℕ) (es : List (List Step)) (bs : List EntrySnapshot) → LiesHere w n es bs → FitsAlong w es d.tree.nodes.arena
  fits_of Back n [] bs h = tt
  fits_of Forth n [] bs h = tt
  fits_of w n (e ∷ es) [] h = absurd h
  fits_of Back n (e ∷ es) (b ∷ bs) h = back_fits e d.tree.nodes.arena slotted h.0.1 h.0.0
  fits_of Forth n (e ∷ es) (b ∷ bs) h = forth_fits e d.tree.nodes.arena slotted h.0.1 h.0.0

  pub fits : (w : Way) → FitsAlong w (steps_along w d.history) d.tree.nodes.arena
  fits w = fits_of w (high w) (steps_along w d.history) (snapshots_along w d.history) (lies w)

  abbrev IsLedSide : Way → List (List Step) → EntrySpan → Type 0
  IsLedSide w es s = IsSide d.tree.points.names (arena_along w es d.tree.nodes.arena).trees (places_along w s) (counts_along w s).nodes (counts_along w s).chars (counts_along w s).depth

  side_of : (w : Way) (n : ℕ) (es : List (List Step)) (bs : List EntrySnapshot) → LiesHere w n es bs → FitsAlong w es d.tree.nodes.arena → (s : EntrySpan) → Some s ≡ first_span bs → IsLedSide w es s
  side_of w n es [] h fit s first = absurd (let first' : Some s ≡ None = first in cc)
  side_of w n [] (b ∷ bs) h fit s first = absurd h
  side_of Back n (e ∷ es) (b ∷ bs) h fit s first = rw (some_eq s b.span first, (go_back e d.tree.nodes.arena fit).state) h.1.0.was
  side_of Forth n (e ∷ es) (b ∷ bs) h fit s first = rw (some_eq s b.span first, (go_forth e d.tree.nodes.arena fit).state) h.1.0.is

  -- the document to which the first of them leads
  pub side : (w : Way) (s : EntrySpan) → Some s ≡ first_span (snapshots_along w d.history) → IsLedSide w (steps_along w d.history) s
  side w = side_of w (high w) (steps_along w d.history) (snapshots_along w d.history) (lies w) (fits w)

  pub edits : (w : Way) → first_length (steps_along w d.history) ≡ first_edits (entries_along w v)
  edits Back = undo_edits d v sees ok
  edits Forth = redo_edits d v sees ok

  needed_now : AreNeeded d.command.start d.tree.nodes.arena.trees d.history.log.undo d.history.log.redo
  needed_now = subst (λ g. AreNeeded d.command.start g d.history.log.undo d.history.log.redo) (none_noted d.history.log d.tree.nodes.arena.trees (ap noted closed)) ok.needed

  pub record Turned (a : Arena) (points : LivePoints) (trail : Trail) (new : Whole) : Type 0 where
    pub invariant : IsSoundDoc (live_of a points no_overrides d.tree.flags) d.command trail
    pub value : whole_of (live_of a points no_overrides d.tree.flags) d.command trail ≡ new

  -- the value, where the history is this one
  abbrev resting_with : Trail → Whole
  resting_with trail = record {
    state = rested_state (live d.tree);
    history = history_of d.tree.points.names d.tree.nodes.arena.trees trail;
    began = None;
    held = d.tree.nodes.arena.held;
  }

  resting_is : seen d ≡ resting_with d.history
  resting_is = rest_whole (live d.tree) d.command d.history at_rest

  -- ---- the document at a side of an entry

  module _ (g : Forest Content) (law' : IsArena (record d.tree.nodes.arena { trees = g })) (p : Places) (nodes chars depth : ℕ) (side : IsSide d.tree.points.names g p nodes chars depth)
      (trail : Trail) (closed' : trail.log.open_entry ≡ Closed)
      (undo : UndoSound d.tree.nodes.arena.held d.tree.points.names false d.command (next_first d.command.start trail.future) g trail.log.undo trail.past)
      (redo : RedoSound d.tree.nodes.arena.held d.tree.points.names d.command g trail.log.redo trail.future) where
    abbrev there : Arena
    there = record d.tree.nodes.arena { trees = g }

    rests_there : AtRest (live_of there (shown d.tree.points.names p) no_overrides d.tree.flags) d.command trail
    rests_there = record {
      law = law';
      closed = closed';
      idle = record {
        start = at_rest.idle.start;
        host = at_rest.idle.host;
        keeping = at_rest.idle.keeping;
        named = at_rest.idle.named;
        detached = at_rest.idle.detached;
        detached_before = at_rest.idle.detached_before;
        scratch = side.resting;
      };
      resumed = at_rest.resumed;
      placed = side.placed;
      settings = unset_length;
      undo = undo;
      redo = redo;
    }

    -- as undo and redo say it
    abbrev standing : History → Whole
    standing h = record {
      state = record (rested_state (live_of there (shown d.tree.points.names p) no_overrides d.tree.flags)) { points = record (shown d.tree.points.names p) { scratch = None } };
      history = h;
      began = None;
      held = d.tree.nodes.arena.held;
    }

    stands : AreNeeded d.command.start g trail.log.undo trail.log.redo → (h : History) → history_of d.tree.points.names g trail ≡ h → Turned there (shown d.tree.points.names p) trail (standing h)
    stands needed h is = record {
      invariant = rest_sound (live_of there (shown d.tree.points.names p) no_overrides d.tree.flags) d.command trail rests_there needed;
      value = rest_whole (live_of there (shown d.tree.points.names p) no_overrides d.tree.flags) d.command trail rests_there
          ∙ (λ i. record {
            state = record (rested_state (live_of there (shown d.tree.points.names p) no_overrides d.tree.flags)) { points = record (shown d.tree.points.names p) { scratch = side.resting i } };
            history = is i;
            began = None;
            held = d.tree.nodes.arena.held;
          });
    }

  -- ---- undo

  undo_go : (e : List Step) (es : List (List Step)) (b : EntrySnapshot) (bs : List EntrySnapshot) → d.history.log.undo ≡ e ∷ es → d.history.past ≡ b ∷ bs →
      IsArena (record d.tree.nodes.arena { trees = forest_before e d.tree.nodes.arena.trees }) →
      Turned (record d.tree.nodes.arena { trees = forest_before e d.tree.nodes.arena.trees }) (shown d.tree.points.names b.span.before)
      (trail_of (record d.history.log { undo = es; redo = inverses_back step_applied step_inverse e d.tree.nodes.arena ∷ d.history.log.redo }) bs (b ∷ d.history.future))
      (whole_along Back (seen d))
  unfolding undone_doc undone_history at_view
  undo_go e es b bs eu su law' =
      let f = d.tree.nodes.arena.trees in
      let g = forest_before e f in
      let high = next_first d.command.start d.history.future in
      let h : UndoSound d.tree.nodes.arena.held d.tree.points.names false d.command high f (e ∷ es) (b ∷ bs) =
      subst (λ xs. UndoSound d.tree.nodes.arena.held d.tree.points.names false d.command high f xs (b ∷ bs)) eu (subst (λ xs. UndoSound d.tree.nodes.arena.held d.tree.points.names false d.command high f d.history.log.undo xs) su at_rest.undo) in
      let t = inverses_back step_applied step_inverse e d.tree.nodes.arena in
      let taking = taken d.tree.nodes.arena (forest_of d.tree.nodes.arena law) slotted d.tree.points.names e b b.detached.items high d.command.start Back h.0 h.1.0 in
      let tb = taking.0 in
      let a' : Arena = record d.tree.nodes.arena { trees = g } in
      let trail' : Trail = trail_of (record d.history.log { undo = es; redo = t ∷ d.history.log.redo }) bs (b ∷ d.history.future) in
      let needed : AreNeeded d.command.start g es (t ∷ d.history.log.redo) = λ l inner old top off_undo off_redo. (
      let ch = changes_of t in
      let ps : Passes l g (forest_after t g) (inverses_forth applied inverse ch g) = passes_forth l ch g (forest_of a' law') inner top tb.can.0 (each_here (is_hidden g b.span.first_label) g (named_in ch) taking.1.names_seen) off_redo.0 in
      let top' : 0 < times (tops f) l = subst (λ h. 0 < times (tops h) l) tb.again ps.top in
      let same : (m : ℕ) → count_of (tree_of f l) m ≡ count_of (tree_of g l) m = λ m. subst (λ h. count_of (tree_of h l) m ≡ count_of (tree_of g l) m) tb.again (ps.same m) in
      let own : Each (IsOff f l) (named_in (changes_of e)) = off_moved l g f same (named_in (changes_of e)) (subst (λ xs. Each (IsOff g l) (named_in xs)) tb.steps ps.turns) in
      needed_now l inner old top' (subst (EntriesOff l f) (sym eu) (own, entries_moved l g f same es off_undo)) (entries_moved l g f same d.history.log.redo off_redo.1)) in
      let w : Whole = resting_with (trail_of (record d.history.log { undo = e ∷ es }) (b ∷ bs) d.history.future) in
      let was : resting_with d.history ≡ w = (λ i. resting_with (trail_of (record d.history.log { undo = eu i }) (su i) d.history.future)) in
      let history : history_of d.tree.points.names g trail' ≡ undone_history w.history = λ i. record {
        undo = undo_entries d.tree.points.names g es bs;
        redo = record {
          before = view_at d.tree.points.names g b.span.before;
          after = view_at d.tree.points.names (tb.again i) b.span.after;
          edits = tb.own i;
          made = used (tb.own i) (roots_from b.span.first_label g);
        } ∷ redo_entries d.tree.points.names (tb.again i) d.history.log.redo d.history.future;
        depth = d.history.log.depth;
        dropped = d.history.log.dropped;
      } in
      subst (Turned a' (shown d.tree.points.names b.span.before) trail') (ap (whole_along Back) (sym (resting_is ∙ was)))
      (stands g law' b.span.before b.span.nodes_before b.span.chars_before b.span.depth_before h.1.0.was trail' closed h.1.1
      (tb.can, (taking.1, subst (λ x. RedoSound d.tree.nodes.arena.held d.tree.points.names d.command x d.history.log.redo d.history.future) (sym tb.again) at_rest.redo)) needed
      (undone_history w.history) history)

  -- ---- redo

  redo_go : (e : List Step) (es : List (List Step)) (b : EntrySnapshot) (bs : List EntrySnapshot) → d.history.log.redo ≡ e ∷ es → d.history.future ≡ b ∷ bs →
      IsArena (record d.tree.nodes.arena { trees = forest_after e d.tree.nodes.arena.trees }) →
      Turned (record d.tree.nodes.arena { trees = forest_after e d.tree.nodes.arena.trees }) (shown d.tree.points.names b.span.after)
      (trail_of (record d.history.log { undo = inverses_forth step_applied step_inverse e d.tree.nodes.arena ∷ d.history.log.undo; redo = es }) (b ∷ d.history.past) bs)
      (whole_along Forth (seen d))
  unfolding redone_doc redone_history at_view
  redo_go e es b bs eu su law' =
      let f = d.tree.nodes.arena.trees in
      let g = forest_after e f in
      let high = next_first d.command.start bs in
      let h : RedoSound d.tree.nodes.arena.held d.tree.points.names d.command f (e ∷ es) (b ∷ bs) =
      subst (λ xs. RedoSound d.tree.nodes.arena.held d.tree.points.names d.command f xs (b ∷ bs)) eu (subst (λ xs. RedoSound d.tree.nodes.arena.held d.tree.points.names d.command f d.history.log.redo xs) su at_rest.redo) in
      let under : UndoSound d.tree.nodes.arena.held d.tree.points.names false d.command b.span.first_label f d.history.log.undo d.history.past =
      subst (λ xs. UndoSound d.tree.nodes.arena.held d.tree.points.names false d.command (next_first d.command.start xs) f d.history.log.undo d.history.past) su at_rest.undo in
      let t = inverses_forth step_applied step_inverse e d.tree.nodes.arena in
      let taking = taken d.tree.nodes.arena (forest_of d.tree.nodes.arena law) slotted d.tree.points.names e b b.detached.items high d.command.start Forth h.0 h.1.0 in
      let tb = taking.0 in
      let a' : Arena = record d.tree.nodes.arena { trees = g } in
      let trail' : Trail = trail_of (record d.history.log { undo = t ∷ d.history.log.undo; redo = es }) (b ∷ d.history.past) bs in
      let needed : AreNeeded d.command.start g (t ∷ d.history.log.undo) es = λ l inner old top off_undo off_redo. (
      let ch = changes_of t in
      let ps : Passes l g (forest_before t g) (inverses_back applied inverse ch g) = passes_back l ch g (forest_of a' law') inner top tb.can.0 (each_here (is_hidden (forest_before t g) b.span.first_label) g (named_in ch) taking.1.names_there) off_undo.0 in
      let top' : 0 < times (tops f) l = subst (λ h. 0 < times (tops h) l) tb.again ps.top in
      let same : (m : ℕ) → count_of (tree_of f l) m ≡ count_of (tree_of g l) m = λ m. subst (λ h. count_of (tree_of h l) m ≡ count_of (tree_of g l) m) tb.again (ps.same m) in
      let own : Each (IsOff f l) (named_in (changes_of e)) = off_moved l g f same (named_in (changes_of e)) (subst (λ xs. Each (IsOff g l) (named_in xs)) tb.steps ps.turns) in
      needed_now l inner old top' (entries_moved l g f same d.history.log.undo off_undo.1) (subst (EntriesOff l f) (sym eu) (own, entries_moved l g f same es off_redo))) in
      let w : Whole = resting_with (trail_of (record d.history.log { redo = e ∷ es }) d.history.past (b ∷ bs)) in
      let was : resting_with d.history ≡ w = (λ i. resting_with (trail_of (record d.history.log { redo = eu i }) d.history.past (su i))) in
      let history : history_of d.tree.points.names g trail' ≡ redone_history w.history = λ i. record {
        undo = record {
          before = view_at d.tree.points.names (tb.again i) b.span.before;
          after = view_at d.tree.points.names g b.span.after;
          edits = tb.steps i;
          made = used (tb.steps i) (roots_from b.span.first_label (tb.again i));
        } ∷ undo_entries d.tree.points.names (tb.again i) d.history.log.undo d.history.past;
        redo = redo_entries d.tree.points.names g es bs;
        depth = d.history.log.depth;
        dropped = d.history.log.dropped;
      } in
      subst (Turned a' (shown d.tree.points.names b.span.after) trail') (ap (whole_along Forth) (sym (resting_is ∙ was)))
      (stands g law' b.span.after b.span.nodes_after b.span.chars_after b.span.depth_after h.1.0.is trail' closed
      (tb.can, (taking.1, subst (λ x. UndoSound d.tree.nodes.arena.held d.tree.points.names false d.command b.span.first_label x d.history.log.undo d.history.past) (sym tb.again) under)) h.1.1 needed
      (redone_history w.history) history)

  -- ---- what the calls give

  some_entries : (s : EntrySpan) (bs : List EntrySnapshot) → Some s ≡ first_span bs → 0 < length bs
  some_entries s [] e = absurd (let e' : Some s ≡ None = e in cc)
  some_entries s (b ∷ bs) e = omega arith

  undo_done : (a : Arena) (points : LivePoints) (trail : Trail) (s : EntrySpan) → Some s ≡ first_span d.history.past → IsArena a →
      a ≡ undone_state step_applied d.history.log.undo d.tree.nodes.arena → trail ≡ trail_along Back d.history d.tree.nodes.arena → points ≡ shown d.tree.points.names s.before →
      Turned a points trail (whole_along Back v)
  undo_done a points trail s first law' ea et ep =
      let more = some_entries s d.history.past first in
      let u = uncons d.history.log.undo (let n = beside.past in omega (arith, more, n)) in
      let w = uncons d.history.past more in
      let same : s ≡ w.0.span = some_eq s w.0.span (first ∙ ap first_span w.2) in
      let fits : FitsUndo step_applied StepFits (u.0 ∷ u.1) d.tree.nodes.arena = subst (λ xs. FitsUndo step_applied StepFits xs d.tree.nodes.arena) u.2 (fits Back) in
      let ea' : a ≡ record d.tree.nodes.arena { trees = forest_before u.0 d.tree.nodes.arena.trees } = ea ∙ (ap (λ xs. undone_state step_applied xs d.tree.nodes.arena) u.2 ∙ (go_back u.0 d.tree.nodes.arena fits).state) in
      let et' : trail ≡ trail_of (record d.history.log { undo = u.1; redo = inverses_back step_applied step_inverse u.0 d.tree.nodes.arena ∷ d.history.log.redo }) w.1 (w.0 ∷ d.history.future) =
      et ∙ (λ i. trail_of (undone_with step_applied step_inverse d.history.log (u.2 i) d.tree.nodes.arena) (drop 1 (w.2 i)) (take 1 (w.2 i) ++ d.history.future)) in
      let ep' : points ≡ shown d.tree.points.names w.0.span.before = ep ∙ ap (λ (o : EntrySpan). shown d.tree.points.names o.before) same in
      let r = undo_go u.0 u.1 w.0 w.1 u.2 w.2 (subst IsArena ea' law') in
      subst (λ (x : Whole). Turned a points trail (whole_along Back x)) sees (rw (ea', et', ep') r)

  redo_done : (a : Arena) (points : LivePoints) (trail : Trail) (s : EntrySpan) → Some s ≡ first_span d.history.future → IsArena a →
      a ≡ redone_state step_applied d.history.log.redo d.tree.nodes.arena → trail ≡ trail_along Forth d.history d.tree.nodes.arena → points ≡ shown d.tree.points.names s.after →
      Turned a points trail (whole_along Forth v)
  redo_done a points trail s first law' ea et ep =
      let more = some_entries s d.history.future first in
      let u = uncons d.history.log.redo (let n = beside.future in omega (arith, more, n)) in
      let w = uncons d.history.future more in
      let same : s ≡ w.0.span = some_eq s w.0.span (first ∙ ap first_span w.2) in
      let fits : FitsRedo step_applied StepFits (u.0 ∷ u.1) d.tree.nodes.arena = subst (λ xs. FitsRedo step_applied StepFits xs d.tree.nodes.arena) u.2 (fits Forth) in
      let ea' : a ≡ record d.tree.nodes.arena { trees = forest_after u.0 d.tree.nodes.arena.trees } = ea ∙ (ap (λ xs. redone_state step_applied xs d.tree.nodes.arena) u.2 ∙ (go_forth u.0 d.tree.nodes.arena fits).state) in
      let et' : trail ≡ trail_of (record d.history.log { undo = inverses_forth step_applied step_inverse u.0 d.tree.nodes.arena ∷ d.history.log.undo; redo = u.1 }) (w.0 ∷ d.history.past) w.1 =
      et ∙ (λ i. trail_of (redone_with step_applied step_inverse d.history.log (u.2 i) d.tree.nodes.arena) (take 1 (w.2 i) ++ d.history.past) (drop 1 (w.2 i))) in
      let ep' : points ≡ shown d.tree.points.names w.0.span.after = ep ∙ ap (λ (o : EntrySpan). shown d.tree.points.names o.after) same in
      let r = redo_go u.0 u.1 w.0 w.1 u.2 w.2 (subst IsArena ea' law') in
      subst (λ (x : Whole). Turned a points trail (whole_along Forth x)) sees (rw (ea', et', ep') r)

  pub turn_done : (w : Way) (a : Arena) (points : LivePoints) (trail : Trail) (s : EntrySpan) → Some s ≡ first_span (snapshots_along w d.history) → IsArena a →
      a ≡ arena_along w (steps_along w d.history) d.tree.nodes.arena → trail ≡ trail_along w d.history d.tree.nodes.arena → points ≡ shown d.tree.points.names (places_along w s) →
      Turned a points trail (whole_along w v)
  turn_done Back = undo_done
  turn_done Forth = redo_done

  -- where no entry lies that way
  pub nil : (w : Way) → None ≡ first_span (snapshots_along w d.history) → entries_along w v ≡ []
  nil Back none = none_long v.history.undo (sym (undo_count d v sees ok) ∙ (sym beside.past ∙ ap length (no_first d.history.past none)))
  nil Forth none = none_long v.history.redo (sym (redo_count d v sees ok) ∙ (sym beside.future ∙ ap length (no_first d.history.future none)))

  pub same : (w : Way) → entries_along w v ≡ [] → v ≡ whole_along w v
  unfolding undone_doc undone_history redone_doc redone_history
  same Back e = λ i. record v { state = undone_state_by (sym e i) v.state; history = undone_history_by (sym e i) v.history }
  same Forth e = λ i. record v { state = redone_state_by (sym e i) v.state; history = redone_history_by (sym e i) v.history }
