-- What holds of the fields of every document under edits. No public clause cites this module.
use Rattle.std.specs.Prelude.{◌≡◌, ◌⊎◌, ℕ, ◌+◌, ◌<◌, ◌≤◌, Bool, false, true, List, [], ◌∷◌, length, take, drop, Option, Some, None, IfSome, slice_index_or}
use Rattle.edit_model.specs.DomModel.declared.Content.{Content}
use Rattle.edit_model.specs.DomModel.Document.{node_count, char_count, page_depth}
use Rattle.edit_model.specs.DomModel.Forest.{Forest, tops, times, count_of, tree_of, parent_of, first_of}
use Rattle.edit_model.specs.DomModel.Pruned.{pruned}
use Rattle.edit_model.specs.DomModel.ArenaState.{ArenaState as Arena}
use Rattle.edit_model.specs.LiveRange.declared.places.Places.{Places}
use Rattle.edit_model.specs.LiveRange.LivePoints.{LivePoints}
use Rattle.edit_model.specs.LiveRange.PointsEdit.{has_label}
use Rattle.edit_model.specs.LiveRange.Names.{shown, IsOver}
use Rattle.step_edits.specs.UndoLog.Turning.{inverses_back, inverses_forth, FitsBack, FitsForth}
use Rattle.step_edits.specs.UndoLog.Log.{Open, noted, is_resumed}
use Rattle.step_edits.specs.UndoLog.Log.Open.{Closed}
use Rattle.edit_model.specs.NodeArena.declared.NodeRef.{NodeRef}
use Rattle.step_edits.specs.ForestChanges.Change.{Change, Fits, applied, inverse}
use Rattle.step_edits.specs.ForestChanges.Named.{Each, named_in}
use Rattle.step_edits.specs.ForestChanges.Down.{IsLeft}
use Rattle.step_edits.specs.EditSteps.declared.step.Step.{Step}
use Rattle.step_edits.specs.EditSteps.Step.{changes_of, nodes_in}
use Rattle.edit_model.specs.Gives.{labels_of}
use Rattle.edit_model.specs.Valid.{IsValid, IsPlaced}
use Rattle.edit_doc.specs.declared.command.EntrySnapshot.{EntrySnapshot}
use Rattle.edit_doc.specs.declared.command.Command.{Command}
use Rattle.edit_doc.specs.Live.{Live}
use Rattle.edit_doc.specs.Trail.{Trail}
use Rattle.edit_doc.specs.Marks.{IsMarked, has_named}
use Rattle.edit_doc.specs.declared.history.Way.{Way}
use Rattle.edit_doc.specs.History.{led, older, newer, begun_forest, is_hidden, seen_trees, state_of}
use Rattle.edit_doc.specs.declared.history.Way.TheVariants.{Back, Forth}

-- ---- steps over forests

-- the slot has the node of the label
abbrev pub RefIn : List (Option ℕ) → NodeRef → Type 0
RefIn held r = slice_index_or held r.slot None ≡ Some r.label

-- each node that the steps name is held
abbrev pub EachHeldIn : List (Option ℕ) → List Step → Type 0
EachHeldIn held xs = Each (RefIn held) (nodes_in xs)

-- the steps can be taken back, or forth, and name nodes that are held
abbrev pub CanGoBack : List (Option ℕ) → List Step → Forest Content → Type 0
CanGoBack held xs f = FitsBack applied Fits (changes_of xs) f × EachHeldIn held xs

abbrev pub CanGoForth : List (Option ℕ) → List Step → Forest Content → Type 0
CanGoForth held xs f = FitsForth applied Fits (changes_of xs) f × EachHeldIn held xs

-- ---- the span of an entry

-- the places are those of points that stand in the document of a forest, the scratch pair isn't
-- there, and the numbers are those of the document, which is no deeper than the last
pub record IsSide (names : List (List ℕ)) (f : Forest Content) (p : Places)
    (nodes chars depth : ℕ) : Type 0 where
  pub over : IsOver names p
  pub placed : IsPlaced f (shown names p)
  pub resting : p.scratch ≡ None
  pub nodes_are : nodes ≡ node_count f
  pub chars_are : chars ≡ char_count f
  pub no_deeper : page_depth f ≤ depth

-- each node of these labels is alone in a loose tree
pub record AreAlone (f : Forest Content) (low high : ℕ) : Type 0 where
  pub loose : (l : ℕ) → low ≤ l → l < high → 0 < count_of f l → parent_of f l ≡ None
  pub leaf : (l : ℕ) → low ≤ l → l < high → 0 < count_of f l → first_of f l ≡ None

-- each node of this label or a greater one is alone in a loose tree
pub record AreFresh (f : Forest Content) (first : ℕ) : Type 0 where
  pub loose : (l : ℕ) → first ≤ l → 0 < count_of f l → parent_of f l ≡ None
  pub leaf : (l : ℕ) → first ≤ l → 0 < count_of f l → first_of f l ≡ None

-- the node stands outside the tree of l
abbrev pub IsOff : Forest Content → ℕ → ℕ → Type 0
IsOff f l m = count_of (tree_of f l) m ≡ 0

-- the steps of entries name no node of the tree of l
abbrev pub EntriesOff : ℕ → Forest Content → List (List Step) → Type 0
EntriesOff l f [] = Unit {0}
EntriesOff l f (e ∷ es) = Each (IsOff f l) (named_in (changes_of e)) × EntriesOff l f es

-- each loose tree with an older root has a node that a step of an entry names
abbrev pub AreNeeded : ℕ → Forest Content → List (List Step) → List (List Step) → Type 0
AreNeeded start f es fs =
    (l : ℕ) → 0 < l → l < start → 0 < times (tops f) l → EntriesOff l f es → EntriesOff l f fs → ⊥

-- An entry that leads from one forest to another. Its steps name only nodes that its commands saw,
-- on both sides: those of the document before it, and those that they made, with labels below
-- `high`, the first that a later entry can have; and so do those that the steps turn into. The
-- trees that they didn't see are still loose after it, and so are those that it left loose.
pub record IsSnapshot (names : List (List ℕ)) (before after : Forest Content) (e : List Step)
    (turns : List Change) (b : EntrySnapshot) (detached : List NodeRef)
    (high start : ℕ) : Type 0 where
  pub was : IsSide names before b.span.before b.span.nodes_before b.span.chars_before
      b.span.depth_before
  pub is : IsSide names after b.span.after b.span.nodes_after b.span.chars_after b.span.depth_after
  pub some_label : 0 < b.span.first_label
  pub fresh : AreFresh before b.span.first_label
  pub drawn : b.span.first_label ≤ high
  pub known : high ≤ start
  pub hidden : (l : ℕ) → is_hidden before b.span.first_label l ≡ true → 0 < times (tops after) l
  pub names_seen : Each (IsLeft (is_hidden before b.span.first_label) before)
      (named_in (changes_of e))
  pub names_there : Each (IsLeft (is_hidden before b.span.first_label) after)
      (named_in (changes_of e))
  pub names_old : Each (λ l. l < high) (named_in (changes_of e))
  pub turns_old : Each (λ l. l < high) (named_in turns)
  pub detached_loose : Each (λ l. (0 < l) × ((l < high) × (parent_of after l ≡ None)))
      (labels_of detached)
  pub detached_all : (l : ℕ) → 0 < l → 0 < times (tops after) l
      → (Each (IsOff after l) (named_in (changes_of e)) → Each (IsOff after l) (named_in turns) → ⊥)
      → has_label (labels_of detached) l ≡ true

-- ---- the history over a forest

-- what the entry that undo would take detached: while a command resumes it, the command keeps that
abbrev pub detached_of : Bool → Command → EntrySnapshot → List NodeRef
detached_of false c b = b.detached.items
detached_of true c b = take c.detached_before c.detached.items

-- the first label of the entries that redo would take; without any, the next one as the running
-- command began
abbrev pub next_first : ℕ → List EntrySnapshot → ℕ
next_first start [] = start
next_first start (b ∷ bs) = b.span.first_label

-- the steps fit that way, and name nodes that are held; and what they turn into
abbrev pub FitsWay : Way → List Step → Forest Content → Type 0
FitsWay Back e f = FitsBack applied Fits (changes_of e) f
FitsWay Forth e f = FitsForth applied Fits (changes_of e) f

abbrev pub CanGo : Way → List (Option ℕ) → List Step → Forest Content → Type 0
CanGo w held e f = FitsWay w e f × EachHeldIn held e

abbrev pub changes_along : Way → List Step → Forest Content → List Change
changes_along Back e f = inverses_back applied inverse (changes_of e) f
changes_along Forth e f = inverses_forth applied inverse (changes_of e) f

-- The labels of an entry are below those of the later entries: going back, below the bound that the
-- entry before gave, and going forth, below the first of the entry that follows.
abbrev pub bound_of : Way → ℕ → ℕ → List EntrySnapshot → ℕ
bound_of Back high start bs = high
bound_of Forth high start bs = next_first start bs

abbrev pub next_bound : Way → ℕ → EntrySnapshot → ℕ
next_bound Back high b = b.span.first_label
next_bound Forth high b = high

-- the entries lie that way from the forest on, each with its snapshot
abbrev pub Lies : Way → List (Option ℕ) → List (List ℕ) → Bool → Command → ℕ → Forest Content
    → List (List Step)
    → List EntrySnapshot → Type 0
Lies w held names resumed c high f [] [] = Unit {0}
Lies w held names resumed c high f [] (b ∷ bs) = ⊥
Lies w held names resumed c high f (e ∷ es) [] = ⊥
Lies w held names resumed c high f (e ∷ es) (b ∷ bs) =
    CanGo w held e f
    × (IsSnapshot names (older w f (led w e f)) (newer w f (led w e f)) e (changes_along w e f) b
    (detached_of resumed c b) (bound_of w high c.start bs) c.start
    × Lies w held names false c (next_bound w high b) (led w e f) es bs)

abbrev pub UndoSound : List (Option ℕ) → List (List ℕ) → Bool → Command → ℕ → Forest Content
    → List (List Step)
    → List EntrySnapshot → Type 0
UndoSound = Lies Back

abbrev pub RedoSound : List (Option ℕ) → List (List ℕ) → Command → Forest Content → List (List Step)
    → List EntrySnapshot → Type 0
RedoSound held names c f es bs = Lies Forth held names false c 0 f es bs

-- ---- the running command

-- outside commands nothing of a command is there
pub record IsIdle (c : Command) (points : LivePoints) (next : ℕ) : Type 0 where
  pub start : c.start ≡ next
  pub host : c.host ≡ None
  pub keeping : c.keeping ≡ false
  pub named : c.named.items ≡ []
  pub detached : c.detached.items ≡ []
  pub detached_before : c.detached_before ≡ 0
  pub scratch : points.scratch ≡ None

-- what a command keeps of its begin is as it was, and what it changes is seen
pub record IsRunning (a : Arena) (names : List (List ℕ)) (c : Command) (xs : List Step)
    (g : Forest Content) : Type 0 where
  pub kept : IsSide names g c.kept.places c.kept.counts.nodes c.kept.counts.chars
      c.kept.counts.depth
  pub settings : length c.kept.overrides ≡ 32
  pub made : AreAlone g c.start a.next
  pub can : CanGoBack a.held xs a.trees
  pub names_there : Each (IsLeft (is_hidden g c.start) a.trees) (named_in (changes_of xs))
  pub marks : length c.named.items + c.start ≡ a.next
  pub marked : Each (IsMarked c) (named_in (changes_of xs))
  pub marked_inverse : Each (IsMarked c)
      (named_in (inverses_back applied inverse (changes_of xs) a.trees))
  pub named_all : (l : ℕ) → has_named c l ≡ true → (has_label (named_in (changes_of xs)) l ≡ true)
      ⊎ (has_label (named_in (inverses_back applied inverse (changes_of xs) a.trees)) l ≡ true)
  pub detached_before : c.detached_before ≤ length c.detached.items
  pub detached_seen : Each (λ l. 0 < count_of (pruned (is_hidden g c.start) a.trees) l)
      (labels_of (drop c.detached_before c.detached.items))
  pub newly_detached : (l : ℕ) → 0 < l → 0 < times (tops (pruned (is_hidden g c.start) a.trees)) l
      → has_label (labels_of (drop c.detached_before c.detached.items)) l ≡ true

abbrev pub OpenSound : Arena → LivePoints → Command → Forest Content → Open Step → Type 0
OpenSound a points c g Closed = IsIdle c points a.next
OpenSound a points c g o = IsRunning a points.names c (noted o) g

-- ---- all of it

pub record IsSoundDoc (t : Live) (c : Command) (h : Trail) : Type 0 where
  pub valid : IsValid (state_of t c h.log)
  pub some_label : 0 < c.start
  pub hidden : (l : ℕ) → is_hidden (begun_forest h.log t.arena.trees) c.start l ≡ true
      → 0 < times (tops t.arena.trees) l
  pub running : OpenSound t.arena t.points c (begun_forest h.log t.arena.trees) h.log.open_entry
  pub resumed : c.resumed ≡ is_resumed h.log.open_entry
  pub host : IfSome c.host (λ r. RefIn t.arena.held r
      × (0 < count_of (seen_trees h.log c.start t.arena.trees) r.label))
  pub undo : UndoSound t.arena.held t.points.names c.resumed c (next_first c.start h.future)
      (begun_forest h.log t.arena.trees) h.log.undo h.past
  pub redo : RedoSound t.arena.held t.points.names c (begun_forest h.log t.arena.trees) h.log.redo
      h.future
  pub needed : AreNeeded c.start (begun_forest h.log t.arena.trees) h.log.undo h.log.redo
