-- A command is taken back.
use Rattle.std.proofs.Common.{◌≡◌, ℕ, ◌<◌, ◌≤◌, Bool, true, false, List, [], ◌∷◌, length, take, Option, Some, None, refl, sym, ap, subst, ◌∙◌, inl, inr, arith}
use Rattle.std.specs.Prelude.{IsTrue, nat_le}
use Rattle.edit_model.specs.DomModel.declared.Content.{Content}
use Rattle.edit_model.specs.DomModel.Forest.{Forest, tops, times, count_of, tree_of, parent_of, first_of, IsDistinct}
use Rattle.edit_model.specs.DomModel.Pruned.{pruned, IsWhole}
use Rattle.edit_model.specs.DomModel.ArenaState.{ArenaState as Arena, IsValid as IsArena, IsSlotted}
use Rattle.edit_model.proofs.DomModel.Pruning.{count_of-pruned, whole_stays}
use Rattle.edit_model.proofs.DomModel.Stands.{true_or_false}
use Rattle.edit_model.proofs.DomModel.Links.{parent_count}
use Rattle.edit_model.proofs.DomModel.Drop.{leaf_out}
use Rattle.edit_model.proofs.DomModel.Within.{within_self, within_child}
use Rattle.edit_model.specs.NodeArena.declared.NodeRef.{NodeRef}
use Rattle.edit_model.specs.NodeArena.Held.{DropsMade}
use Rattle.edit_model.specs.LiveRange.LivePoints.{LivePoints}
use Rattle.edit_model.specs.LiveRange.Names.{shown}
use Rattle.step_edits.specs.UndoLog.Turning.{back, inverses_back, FitsBack}
use Rattle.step_edits.specs.UndoLog.Log.{Log, Open, noted, is_open, is_resumed, abandoned}
use Rattle.step_edits.specs.UndoLog.Log.Open.{Closed, Begun, Resumed}
use Rattle.step_edits.specs.UndoLog.States.{start, start_with}
use Rattle.step_edits.specs.ForestChanges.Change.{Change, IsForest, applied, inverse}
use Rattle.step_edits.specs.ForestChanges.Named.{Each, named_in}
use Rattle.step_edits.specs.ForestChanges.Down.{Prunes, IsLeft}
use Rattle.step_edits.proofs.ForestChanges.DownChange.{prunes_whole}
use Rattle.step_edits.proofs.ForestChanges.Twice.{forest_of}
use Rattle.step_edits.specs.EditSteps.declared.step.Step.{Step}
use Rattle.step_edits.specs.EditSteps.Step.{changes_of, step_applied, StepFits}
use Rattle.step_edits.proofs.EditSteps.StepLists.{go_back, back_fits}
use Rattle.edit_model.specs.declared.settings.Setting.{Setting}
use Rattle.edit_model.specs.declared.settings.Flags.{Flags}
use Rattle.edit_model.specs.State.{State}
use Rattle.edit_model.specs.Valid.{IsPlaced}
use Rattle.edit_model.specs.History.{History, used, document_of}
use Rattle.edit_doc.specs.declared.Doc.TheInside.{Inside}
use Rattle.edit_doc.specs.declared.command.EntrySnapshot.{EntrySnapshot}
use Rattle.edit_doc.specs.declared.command.EntrySpan.{EntrySpan}
use Rattle.edit_doc.specs.declared.command.Command.{Command}
use Rattle.edit_doc.specs.Fields.{IsEnded, ForgetsIn, Forgets}
use Rattle.edit_doc.specs.Whole.{Whole, state_rolled_back, rolled_to}
use Rattle.edit_doc.specs.Held.{KeepsThere}
use Rattle.edit_doc.specs.declared.history.Way.{Way}
use Rattle.edit_doc.specs.History.{edits_before, roots_from, forest_before, is_hidden, view_at, begun_forest, state_of, begun_state, began_with, history_of, undo_entries, redo_entries, whole_of, led, older}
use Rattle.edit_doc.specs.declared.history.Way.TheVariants.{Back, Forth}
use Rattle.edit_doc.specs.Sound.{RefIn, AreFresh, AreAlone, IsSide, IsSnapshot, IsRunning, OpenSound, UndoSound, RedoSound, EntriesOff, AreNeeded, next_first, IsSoundDoc, Lies, changes_along, bound_of, next_bound, detached_of}
use Rattle.edit_doc.specs.Trail.{trail_of, IsTrail, Trail}
use Rattle.edit_doc.specs.Live.{Live, live_of}
use Rattle.edit_doc.specs.Counted.{IsCounted}
use Rattle.edit_doc.proofs.HiddenTrees.{tops_detached, le_false, true_le, false_le, document-pruned, model_forest}
use Rattle.edit_doc.proofs.Downs.{back_forest, back_bounded, back_labels, Bounded, KeepsLeft, EntriesLeft, side-pruned, lies-pruned, entries-pruned, led_labels, names_here}
use Rattle.edit_doc.proofs.Inner.{seen, Opened}
use Rattle.edit_doc.proofs.Laid.{undo_later, redo_later, next_first_low}
use Rattle.edit_doc.proofs.Off.{tree_pruned, entries_moved as entries_off}
use Rattle.edit_doc.proofs.Rests.{AtRest, rest_sound, rest_state, none_noted}

-- ---- an entry's detached trees

-- an entry depends on the span alone
pub snapshot_of : (names : List (List ℕ)) (before after : Forest Content) (e : List Step) (ts : List Change) (b c : EntrySnapshot) (detached : List NodeRef) (high start : ℕ) →
    b.span ≡ c.span → IsSnapshot names before after e ts b detached high start → IsSnapshot names before after e ts c detached high start
snapshot_of names before after e ts b c detached high start same h = record {
  was = subst (λ (s : EntrySpan). IsSide names before s.before s.nodes_before s.chars_before s.depth_before) same h.was;
  is = subst (λ (s : EntrySpan). IsSide names after s.after s.nodes_after s.chars_after s.depth_after) same h.is;
  some_label = subst (λ (s : EntrySpan). 0 < s.first_label) same h.some_label;
  fresh = subst (λ (s : EntrySpan). AreFresh before s.first_label) same h.fresh;
  drawn = subst (λ (s : EntrySpan). s.first_label ≤ high) same h.drawn;
  known = h.known;
  hidden = subst (λ (s : EntrySpan). (l : ℕ) → is_hidden before s.first_label l ≡ true → 0 < times (tops after) l) same h.hidden;
  names_seen = subst (λ (s : EntrySpan). Each (IsLeft (is_hidden before s.first_label) before) (named_in (changes_of e))) same h.names_seen;
  names_there = subst (λ (s : EntrySpan). Each (IsLeft (is_hidden before s.first_label) after) (named_in (changes_of e))) same h.names_there;
  names_old = h.names_old;
  turns_old = h.turns_old;
  detached_loose = h.detached_loose;
  detached_all = h.detached_all;
}

module _ (held : List (Option ℕ)) (names : List (List ℕ)) (c : Command) where
  pub undo_forgets : (r : Bool) (high : ℕ) (f : Forest Content) (es : List (List Step)) (us new : List EntrySnapshot) → ForgetsIn r us new (take c.detached_before c.detached.items) → UndoSound held names r c high f es us → UndoSound held names false c high f es new
  undo_forgets false high f es us new e h = subst (λ bs. UndoSound held names false c high f es bs) (sym e) h
  undo_forgets true high f es [] new e h = absurd e
  undo_forgets true high f es (b ∷ bs) [] e h = absurd e
  undo_forgets true high f [] (b ∷ bs) (b' ∷ bs') e h = absurd h
  undo_forgets true high f (x ∷ es) (b ∷ bs) (b' ∷ bs') e h =
      let ts = inverses_back applied inverse (changes_of x) f in (
        h.0,
        (
          snapshot_of names (forest_before x f) f x ts b b' b'.detached.items high c.start (sym e.1.0) (subst (λ ls. IsSnapshot names (forest_before x f) f x ts b ls high c.start) (sym e.1.1) h.1.0),
          subst (λ (s : EntrySpan). UndoSound held names false c s.first_label (forest_before x f) es bs') (sym e.1.0) (subst (λ cs. UndoSound held names false c b.span.first_label (forest_before x f) es cs) (sym e.0) h.1.1),
        ),
      )

  pub entries_forget : (r : Bool) (f : Forest Content) (es : List (List Step)) (us new : List EntrySnapshot) → ForgetsIn r us new (take c.detached_before c.detached.items) → undo_entries names f es new ≡ undo_entries names f es us
  entries_forget false f es us new e = ap (undo_entries names f es) e
  entries_forget true f es [] new e = absurd e
  entries_forget true f es (b ∷ bs) [] e = absurd e
  entries_forget true f [] (b ∷ bs) (b' ∷ bs') e = refl
  entries_forget true f (x ∷ es) (b ∷ bs) (b' ∷ bs') e = λ i. record {
    before = view_at names (forest_before x f) (e.1.0 i).before;
    after = view_at names f (e.1.0 i).after;
    edits = edits_before x f;
    made = used (edits_before x f) (roots_from (e.1.0 i).first_label (forest_before x f));
  } ∷ undo_entries names (forest_before x f) es (e.0 i)

-- ---- the running command

pub run_of : (a : Arena) (points : LivePoints) (c : Command) (g : Forest Content) (o : Open Step) → IsTrue (is_open o) → OpenSound a points c g o → IsRunning a points.names c (noted o) g
run_of a points c g Closed h r = absurd (let h' = h in cc)
run_of a points c g (Begun xs) h r = r
run_of a points c g (Resumed xs) h r = r

pub started_at : (o : Open Step) (a : Arena) → IsTrue (is_open o) → start_with step_applied o a ≡ back step_applied (noted o) a
started_at Closed a h = absurd (let h' = h in cc)
started_at (Begun xs) a h = refl
started_at (Resumed xs) a h = refl

-- the steps of the history name only labels below the start
module _ (k : ℕ → Bool) (f0 : Forest Content) (held : List (Option ℕ)) (names : List (List ℕ)) (c : Command) (stays : (l : ℕ) → l < c.start → 0 < count_of f0 l → IsLeft k f0 l) where
  here_detached : (f : Forest Content) → ((l : ℕ) → count_of f l ≡ count_of f0 l) → (j : ℕ → Bool) (high : ℕ) → high ≤ c.start → (ls : List ℕ) → Each (IsLeft j f) ls → Each (λ l. l < high) ls → Each (IsLeft k f0) ls
  here_detached f same j high known [] a b = tt
  here_detached f same j high known (l ∷ ls) a b =
      (stays l (let lt = b.0 in omega (arith, lt, known)) (let s = same l in let here = a.0 in let le = count_of-pruned j f l in omega (arith, s, here, le)), here_detached f same j high known ls a.1 b.1)

  pub lies_detached : (w : Way) (r : Bool) (high : ℕ) (f : Forest Content) (es : List (List Step)) (bs : List EntrySnapshot) → ((l : ℕ) → count_of f l ≡ count_of f0 l) → Lies w held names r c high f es bs → EntriesLeft k f0 es
  lies_detached w r high f [] bs same h = tt
  lies_detached w r high f (e ∷ es) [] same h = absurd h
  lies_detached w r high f (e ∷ es) (b ∷ bs) same h =
      let g = led w e f in (
        here_detached f same (is_hidden (older w f g) b.span.first_label) (bound_of w high c.start bs) h.1.0.known (named_in (changes_of e))
            (names_here w names f g e (changes_along w e f) b (detached_of r c b) (bound_of w high c.start bs) c.start h.1.0) h.1.0.names_old,
        lies_detached w false (next_bound w high b) g es bs (λ l. led_labels w e f l h.0.0 ∙ same l) h.1.1,
      )

-- nodes that are alone are whole trees
pub whole_those : (k : ℕ → Bool) (g : Forest Content) → IsDistinct g → ((l : ℕ) → k l ≡ true → 0 < count_of g l → (parent_of g l ≡ None) × (first_of g l ≡ None)) → IsWhole k g
whole_those k g once alone = record { same = same }
  where
    no_child : (l p : ℕ) → parent_of g l ≡ Some p → k p ≡ true → ⊥
    no_child l p e is =
        let here = (parent_count g l p once e).1 in
        let own = alone p is here in
        let off : p ≡ l → ⊥ = (λ s. (let t = ap (parent_of g) s ∙ e in let u = sym own.0 ∙ t in absurd (let u' : None ≡ Some p = u in cc))) in
        let out = leaf_out g p once here own.0 own.1 l off in
        let inside = within_child g p once here l p e (within_self g p once here) in
        omega (arith, out, inside)

    no_parent : (l p : ℕ) → parent_of g l ≡ Some p → k l ≡ true → ⊥
    no_parent l p e is =
        let here = (parent_count g l p once e).0 in
        let root = (alone l is here).0 in
        absurd (let u : None ≡ Some p = sym root ∙ e in cc)

    same : (l p : ℕ) → parent_of g l ≡ Some p → k l ≡ k p
    same l p e = elim (true_or_false (k l)) [
      | inl a ↦ absurd (no_parent l p e a)
      | inr a ↦ elim (true_or_false (k p)) [ inl b ↦ absurd (no_child l p e b) | inr b ↦ a ∙ sym b ]
    ]

whole_alone : (g : Forest Content) (first next : ℕ) → IsDistinct g → ((l : ℕ) → 0 < count_of g l → l < next) → AreAlone g first next → IsWhole (nat_le first) g
whole_alone g first next once below alone = whole_those (nat_le first) g once (λ l t here. (let from = true_le first l t in (alone.loose l from (below l here) here, alone.leaf l from (below l here) here)))

-- ---- what a call that ends a command leaves

pub record Leaves (tree : Live) (c : Command) (trail : Trail) (v : Whole) (s : State) (h : History) : Type 0 where
  pub invariant : IsSoundDoc tree c trail
  pub state : state_of tree c trail.log ≡ s
  pub history : history_of tree.points.names (begun_forest trail.log tree.arena.trees) trail ≡ h
  pub keeps : KeepsThere v (whole_of tree c trail)

-- ---- what goes with the nodes that were made since

-- The arena at the forest as the command began, or at one where it noted nothing, without what was made since. The labels
-- may be drawn again from the start on, or stay spent.
module _ (d : Inside) (during : Opened d) where
  pub run : IsRunning d.tree.nodes.arena d.tree.points.names d.command (noted d.history.log.open_entry) (begun_forest d.history.log d.tree.nodes.arena.trees)
  run = run_of d.tree.nodes.arena d.tree.points d.command (begun_forest d.history.log d.tree.nodes.arena.trees) d.history.log.open_entry during.opened during.ok.running

  abbrev pub g : Forest Content
  g = begun_forest d.history.log d.tree.nodes.arena.trees

  abbrev pub xs : List Step
  xs = noted d.history.log.open_entry

  abbrev pub k : ℕ → Bool
  k l = nat_le d.command.start l

  pub fits_of : IsSlotted d.tree.nodes.arena → FitsBack step_applied StepFits xs d.tree.nodes.arena
  fits_of slotted = back_fits xs d.tree.nodes.arena slotted run.can.1 run.can.0

  pub forest_g : IsForest g
  forest_g = back_forest (changes_of xs) d.tree.nodes.arena.trees run.can.0 (forest_of d.tree.nodes.arena during.law)

  pub bound_g : Bounded g
  bound_g = back_bounded xs d.tree.nodes.arena.trees run.can.0 (record { next = d.tree.nodes.arena.next; below = during.law.below })

  pub below_g : (l : ℕ) → 0 < count_of g l → l < d.tree.nodes.arena.next
  below_g l here = during.law.below l (let s = back_labels (changes_of xs) d.tree.nodes.arena.trees l run.can.0 in omega arith)

  pub whole_g : IsWhole k g
  whole_g = whole_alone g d.command.start d.tree.nodes.arena.next forest_g.distinct below_g run.made

  pub prunes_g : Prunes k g
  prunes_g = prunes_whole k g forest_g (le_false d.command.start 0 during.ok.some_label) whole_g

  stays_g : (l : ℕ) → l < d.command.start → 0 < count_of g l → IsLeft k g l
  stays_g l low here = (let s = whole_stays k g forest_g.distinct whole_g l (le_false d.command.start l low) in omega (arith, s, here))

  pub undo_detached_g : EntriesLeft k g d.history.log.undo
  undo_detached_g = lies_detached k g d.tree.nodes.arena.held d.tree.points.names d.command stays_g Back d.command.resumed (next_first d.command.start d.history.future) g d.history.log.undo d.history.past (λ l. refl) during.ok.undo

  pub redo_detached_g : EntriesLeft k g d.history.log.redo
  redo_detached_g = lies_detached k g d.tree.nodes.arena.held d.tree.points.names d.command stays_g Forth false 0 g d.history.log.redo d.history.future (λ l. refl) during.ok.redo

  -- the arena without them
  pub record Without (a : Arena) : Type 0 where
    pub valid : IsArena a
    pub trees : a.trees ≡ pruned k g
    pub next : d.command.start ≤ a.next
    pub cap : a.cap ≡ d.tree.nodes.arena.cap
    pub held : (q : NodeRef) → RefIn d.tree.nodes.arena.held q → q.label < d.command.start → RefIn a.held q

  -- the fields afterwards
  module _ (a : Arena) (w : Without a) (us : List EntrySnapshot) (forgets : Forgets d.history.past us d.command) (c : Command) (ended : IsEnded a.next c) (log : Log Step) (closed : log.open_entry ≡ Closed) (depth : log.depth ≡ d.history.log.depth) (dropped : log.dropped ≡ d.history.log.dropped) (undo_is : log.undo ≡ d.history.log.undo) (redo_is : log.redo ≡ d.history.log.redo) where
    keeps : KeepsLeft k g d.tree.nodes.arena.held a.held
    keeps q h detached = w.held q h (false_le d.command.start q.label (prunes_g.out q.label detached))

    start_le : d.command.start ≤ c.start
    start_le = (let s = ended.start in let n = w.next in omega (arith, s, n))

    abbrev high : ℕ
    high = next_first d.command.start d.history.future

    undo_sound : UndoSound a.held d.tree.points.names false d.command high a.trees d.history.log.undo us
    undo_sound =
        subst (λ t. UndoSound a.held d.tree.points.names false d.command high t d.history.log.undo us) (sym w.trees)
        (undo_forgets a.held d.tree.points.names d.command d.command.resumed high (pruned k g) d.history.log.undo d.history.past us forgets
        (lies-pruned k d.tree.nodes.arena.held a.held d.tree.points.names d.command Back d.command.resumed high g d.history.log.undo d.history.past prunes_g forest_g bound_g keeps undo_detached_g during.ok.undo))

    redo_sound : RedoSound a.held d.tree.points.names d.command a.trees d.history.log.redo d.history.future
    redo_sound =
        subst (λ t. RedoSound a.held d.tree.points.names d.command t d.history.log.redo d.history.future) (sym w.trees)
        (lies-pruned k d.tree.nodes.arena.held a.held d.tree.points.names d.command Forth false 0 g d.history.log.redo d.history.future prunes_g forest_g bound_g keeps redo_detached_g during.ok.redo)

    high_le : high ≤ next_first c.start d.history.future
    high_le = by_case d.history.future
      where
        by_case : (bs : List EntrySnapshot) → next_first d.command.start bs ≤ next_first c.start bs
        by_case [] = start_le
        by_case (b ∷ bs) = omega arith

    high_known : next_first c.start d.history.future ≤ c.start
    high_known = next_first_low a.held d.tree.points.names c a.trees d.history.log.redo d.history.future (redo_later a.held d.tree.points.names d.command c start_le a.trees d.history.log.redo d.history.future redo_sound)

    pub without_rest : (points : LivePoints) (overrides : List Setting) (flags : Flags) →
        points.names ≡ d.tree.points.names → points.scratch ≡ None → IsPlaced a.trees points → length overrides ≡ 32 →
        AtRest (live_of a points overrides flags) c (trail_of log us d.history.future)
    without_rest points overrides flags names scratch placed settings = record {
      law = w.valid;
      closed = closed;
      idle = record {
        start = ended.start;
        host = ended.host;
        keeping = ended.keeping;
        named = ended.named;
        detached = ended.detached;
        detached_before = ended.detached_before;
        scratch = scratch;
      };
      resumed = ended.resumed;
      placed = placed;
      settings = settings;
      undo = subst (λ es. UndoSound a.held points.names false c (next_first c.start d.history.future) a.trees es us) (sym undo_is)
          (subst (λ ns. UndoSound a.held ns false c (next_first c.start d.history.future) a.trees d.history.log.undo us) (sym names)
          (undo_later a.held d.tree.points.names d.command c start_le high (next_first c.start d.history.future) a.trees d.history.log.undo us high_le high_known undo_sound));
      redo = subst (λ es. RedoSound a.held points.names c a.trees es d.history.future) (sym redo_is)
          (subst (λ ns. RedoSound a.held ns c a.trees d.history.log.redo d.history.future) (sym names)
          (redo_later a.held d.tree.points.names d.command c start_le a.trees d.history.log.redo d.history.future redo_sound));
    }

    pub without_needed : AreNeeded c.start a.trees log.undo log.redo
    without_needed l inner old top off_undo off_redo =
        let top' : 0 < times (tops (pruned k g)) l = subst (λ t. 0 < times (tops t) l) w.trees top in
        let was = tops_detached k g l top' in
        let same : (m : ℕ) → count_of (tree_of g l) m ≡ count_of (tree_of a.trees l) m = λ m. sym (ap (λ t. count_of (tree_of t l) m) w.trees ∙ tree_pruned l k g forest_g.distinct top' m) in
        during.ok.needed l inner (false_le d.command.start l was.1) was.0
        (subst (EntriesOff l g) undo_is (entries_off l a.trees g same log.undo off_undo)) (subst (EntriesOff l g) redo_is (entries_off l a.trees g same log.redo off_redo))

    pub without_history : (names : List (List ℕ)) → names ≡ d.tree.points.names → history_of names a.trees (trail_of log us d.history.future) ≡ history_of d.tree.points.names g d.history
    without_history names same =
        (λ i. record {
          undo = undo_entries (same i) (w.trees i) (undo_is i) us;
          redo = redo_entries (same i) (w.trees i) (redo_is i) d.history.future;
          depth = depth i;
          dropped = dropped i;
        })
        ∙ (λ i. record {
          undo = (entries_forget a.held d.tree.points.names d.command d.command.resumed (pruned k g) d.history.log.undo d.history.past us forgets
              ∙ entries-pruned k d.tree.nodes.arena.held a.held d.tree.points.names d.command Back d.command.resumed high g d.history.log.undo d.history.past prunes_g forest_g bound_g undo_detached_g during.ok.undo) i;
          redo = entries-pruned k d.tree.nodes.arena.held a.held d.tree.points.names d.command Forth false 0 g d.history.log.redo d.history.future prunes_g forest_g bound_g redo_detached_g during.ok.redo i;
          depth = d.history.log.depth;
          dropped = d.history.log.dropped;
        })

  -- ---- roll_back

  pub resumed_some : IsTrail d.history → d.command.resumed ≡ true → 0 < length d.history.past
  resumed_some beside e =
      let n = beside.past in
      let more = (beside.log.resumes_last (true_is (is_resumed d.history.log.open_entry) (sym during.ok.resumed ∙ e))).0 in
      omega (arith, n, more)
    where
      true_is : (b : Bool) → b ≡ true → IsTrue b
      true_is true e = refl
      true_is false e = absurd (cc)

  module _ (slotted : IsSlotted d.tree.nodes.arena) (a1 : Arena) (abandons : a1 ≡ start step_applied d.history.log d.tree.nodes.arena) where
    pub back_is : a1 ≡ record d.tree.nodes.arena { trees = g }
    back_is = abandons ∙ (started_at d.history.log.open_entry d.tree.nodes.arena during.opened ∙ (go_back xs d.tree.nodes.arena (fits_of slotted)).state)

    pub counted_back : IsCounted (start step_applied d.history.log d.tree.nodes.arena).trees d.command.kept.counts
    counted_back = subst (λ (b : Arena). IsCounted b.trees d.command.kept.counts) (sym back_is ∙ abandons) (record { nodes = run.kept.nodes_are; chars = run.kept.chars_are; depth = run.kept.no_deeper })

    pub drop_whole : IsWhole k a1.trees
    drop_whole = subst (λ (b : Arena). IsWhole k b.trees) (sym back_is) whole_g

    module _ (a2 a3 : Arena) (drops : DropsMade a1 a2 d.command.start) (rewinds : a3 ≡ record a2 { next = d.command.start }) (valid : IsArena a3) where
      rolled : Without a3
      rolled = record {
        valid = valid;
        trees = ap (λ (b : Arena). b.trees) rewinds ∙ (drops.trees ∙ ap (λ (b : Arena). pruned k b.trees) back_is);
        next = (let n = ap (λ (b : Arena). b.next) rewinds in omega (arith, n));
        cap = ap (λ (b : Arena). b.cap) rewinds ∙ (drops.cap ∙ ap (λ (b : Arena). b.cap) back_is);
        held = λ q h low. subst (λ (b : Arena). RefIn b.held q) (sym rewinds) ((drops.held q).1 (subst (λ (b : Arena). RefIn b.held q) (sym back_is) h, low));
      }

      module _ (us : List EntrySnapshot) (forgets : Forgets d.history.past us d.command) (c : Command) (ended : IsEnded a3.next c) where
        abbrev kept_points : LivePoints
        kept_points = shown d.tree.points.names d.command.kept.places

        abbrev log' : Log Step
        log' = abandoned d.history.log

        resting : AtRest (live_of a3 kept_points d.command.kept.overrides d.command.kept.flags) c (trail_of log' us d.history.future)
        resting =
            let side = side-pruned k prunes_g.document d.tree.points.names g d.command.kept.places d.command.kept.counts.nodes d.command.kept.counts.chars d.command.kept.counts.depth forest_g bound_g run.kept in
            without_rest a3 rolled us forgets c ended log' refl refl refl refl refl kept_points d.command.kept.overrides d.command.kept.flags
            refl side.resting
            (subst (λ t. IsPlaced t kept_points) (sym rolled.trees) side.placed)
            run.settings

        rolled_ok : IsSoundDoc (live_of a3 kept_points d.command.kept.overrides d.command.kept.flags) c (trail_of log' us d.history.future)
        rolled_ok = rest_sound (live_of a3 kept_points d.command.kept.overrides d.command.kept.flags) c (trail_of log' us d.history.future) resting
            (without_needed a3 rolled us forgets c ended log' refl refl refl refl refl)

        begun_is : (o : Open Step) (s t : State) → IsTrue (is_open o) → t ≡ rolled_to s (began_with t o)
        begun_is Closed s t h = absurd (let h' = h in cc)
        begun_is (Begun ys) s t h = refl
        begun_is (Resumed ys) s t h = refl

        document_is : document_of a3.trees ≡ document_of g
        document_is = ap document_of rolled.trees ∙ document-pruned g bound_g.next (model_forest g forest_g bound_g.next bound_g.below) k prunes_g.document

        next_is : a3.next ≡ d.command.start
        next_is = ap (λ (b : Arena). b.next) rewinds

        rolled_state : (v : Whole) → seen d ≡ v → state_of (live_of a3 kept_points d.command.kept.overrides d.command.kept.flags) c log' ≡ state_rolled_back v
        unfolding state_rolled_back
        rolled_state v sees =
            rest_state (live_of a3 kept_points d.command.kept.overrides d.command.kept.flags) c (trail_of log' us d.history.future) resting
            ∙ ((λ i. record {
              trees = document_is i;
              points = kept_points;
              overrides = d.command.kept.overrides;
              flags = d.command.kept.flags;
              next = next_is i;
              cap = rolled.cap i;
              start = next_is i;
              host = None;
              keeping = false;
              edits = [];
              made = [];
            })
            ∙ (begun_is d.history.log.open_entry (seen d).state (begun_state d.tree.nodes.arena d.tree.points.names d.command d.history.log) during.opened ∙ ap state_rolled_back sees))

        rolled_history : (v : Whole) → seen d ≡ v → history_of d.tree.points.names (begun_forest log' a3.trees) (trail_of log' us d.history.future) ≡ v.history
        rolled_history v sees =
            ap (λ f. history_of d.tree.points.names f (trail_of log' us d.history.future)) (none_noted log' a3.trees refl)
            ∙ (without_history a3 rolled us forgets c ended log' refl refl refl refl refl d.tree.points.names refl ∙ ap (λ (w : Whole). w.history) sees)

        by_detached : (l : ℕ) → 0 < count_of a3.trees l → l < d.command.start
        by_detached l here = false_le d.command.start l (prunes_g.out l (subst (λ t. 0 < count_of t l) rolled.trees here))

        abbrev rolled_whole : Whole
        rolled_whole = whole_of (live_of a3 kept_points d.command.kept.overrides d.command.kept.flags) c (trail_of log' us d.history.future)

        rolled_keeps : (v : Whole) → seen d ≡ v → KeepsThere v rolled_whole
        rolled_keeps v sees =
            let own : KeepsThere (seen d) rolled_whole = (λ r h there. record {
              slot = rolled.held r h.slot (by_detached r.label (let le = count_of-pruned (is_hidden (begun_forest log' a3.trees) c.start) a3.trees r.label in omega (arith, le, there)));
              here = there;
            }) in
            subst (λ (w : Whole). KeepsThere w rolled_whole) sees own

        pub rolls : (v : Whole) → seen d ≡ v → Leaves (live_of a3 kept_points d.command.kept.overrides d.command.kept.flags) c (trail_of log' us d.history.future) v (state_rolled_back v) v.history
        rolls v sees = record { invariant = rolled_ok; state = rolled_state v sees; history = rolled_history v sees; keeps = rolled_keeps v sees }
