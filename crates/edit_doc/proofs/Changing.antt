-- A change of what is seen, with the note of the step that takes it back: the fields stay sound, the history stays, and
-- what is seen changes the same way.
use Rattle.std.proofs.Common.{◌≡◌, ◌≢◌, ◌⊎◌, ℕ, ◌<◌, ◌≤◌, Bool, true, false, true≢false, ◌||◌, List, [], ◌∷◌, ◌++◌, length, take, drop, Option, Some, None, IfSome, refl, sym, ap, subst, ◌∙◌, inl, inr, arith, length-append}
use Rattle.std.specs.Prelude.{IsTrue, ◌==◌}
use Rattle.std.proofs.lemmas.List.{take-append-le, drop-append-le}
use Rattle.std.proofs.lemmas.List.Folds.{list_any-append}
use Rattle.std.proofs.lemmas.Bool.Decides.{eqb_tells}
use Rattle.edit_model.specs.DomModel.declared.Content.{Content}
use Rattle.edit_model.specs.DomModel.Forest.{Forest, tops, times, count_of}
use Rattle.edit_model.specs.DomModel.Pruned.{pruned}
use Rattle.edit_model.specs.DomModel.ArenaState.{ArenaState as Arena, IsValid as IsArena}
use Rattle.edit_model.specs.NodeArena.declared.NodeRef.{NodeRef}
use Rattle.edit_model.specs.LiveRange.LivePoints.{LivePoints}
use Rattle.edit_model.specs.LiveRange.PointsEdit.{has_label}
use Rattle.edit_model.specs.LiveRange.Names.{shown}
use Rattle.step_edits.specs.UndoLog.Turning.{back, inverses_back, FitsBack}
use Rattle.step_edits.specs.UndoLog.Log.{Open, noted, is_open, is_resumed, with_noted, with_step}
use Rattle.step_edits.specs.UndoLog.Log.Open.{Closed, Begun, Resumed}
use Rattle.step_edits.proofs.UndoLog.Turns.{back-append, inverses_back-append, FitsBack-more}
use Rattle.step_edits.specs.ForestChanges.Change.{Change, Fits, Turns, applied, inverse}
use Rattle.step_edits.specs.ForestChanges.Named.{Each, named, named_in}
use Rattle.step_edits.specs.ForestChanges.Down.{Prunes, IsLeft, GoesDown}
use Rattle.step_edits.proofs.ForestChanges.ChangeLists.{each_of, each_join, each_first, each_rest}
use Rattle.step_edits.proofs.ForestChanges.DownChange.{down, prunes_roots}
use Rattle.step_edits.proofs.ForestChanges.Twice.{turns, forest_of}
use Rattle.step_edits.specs.EditSteps.declared.step.Step.{Step}
use Rattle.step_edits.specs.EditSteps.Step.{change_of, changes_of, nodes_of, nodes_in, step_inverse, StepFits}
use Rattle.step_edits.specs.EditSteps.StepLaws.{change_of-inverse, held-inverse}
use Rattle.edit_model.specs.declared.settings.Setting.{Setting}
use Rattle.edit_model.specs.State.{State}
use Rattle.edit_model.specs.Valid.{IsValid}
use Rattle.edit_model.specs.History.{document_of}
use Rattle.edit_model.specs.Gives.{label_of, labels_of}
use Rattle.edit_model.proofs.Steps.{labels_of-append}
use Rattle.edit_doc.specs.declared.command.EntrySnapshot.{EntrySnapshot}
use Rattle.edit_doc.specs.declared.command.Command.{Command}
use Rattle.edit_doc.specs.Whole.{with_state}
use Rattle.edit_doc.specs.Marks.{IsMarked, has_named}
use Rattle.edit_doc.specs.History.{edits_before, roots_from, forest_before, begun_forest, is_hidden, seen_trees, state_of, begun_state, began_with, history_of, whole_of}
use Rattle.edit_doc.specs.Sound.{RefIn, EachHeldIn, CanGoBack, IsSide, AreAlone, IsSnapshot, IsRunning, OpenSound, UndoSound, RedoSound, detached_of, next_first, IsSoundDoc, AreNeeded}
use Rattle.edit_doc.specs.Trail.{Trail, with_note}
use Rattle.edit_doc.specs.Live.{Live}
use Rattle.edit_doc.proofs.Laid.{redo_later}
use Rattle.edit_doc.proofs.HiddenTrees.{top_loose}
use Rattle.edit_doc.proofs.Places.{node_of, loosed, named_node, each_loosed, root_stays, root_was}

-- ---- the open entry with one more step

noted_more : (o : Open Step) (y : Step) → IsTrue (is_open o) → noted (with_noted o y) ≡ noted o ++ y ∷ []
noted_more Closed y h = absurd (let h' = h in cc)
noted_more (Begun xs) y h = refl
noted_more (Resumed xs) y h = refl

resumed_more : (o : Open Step) (y : Step) → is_resumed (with_noted o y) ≡ is_resumed o
resumed_more Closed y = refl
resumed_more (Begun xs) y = refl
resumed_more (Resumed xs) y = refl

began_more : (s : State) (o : Open Step) (y : Step) → began_with s (with_noted o y) ≡ began_with s o
began_more s Closed y = refl
began_more s (Begun xs) y = refl
began_more s (Resumed xs) y = refl

running_of : (a : Arena) (points : LivePoints) (c : Command) (g : Forest Content) (o : Open Step) → IsTrue (is_open o) → OpenSound a points c g o → IsRunning a points.names c (noted o) g
running_of a points c g Closed h r = absurd (let h' = h in cc)
running_of a points c g (Begun xs) h r = r
running_of a points c g (Resumed xs) h r = r

of_running : (a : Arena) (points : LivePoints) (c : Command) (g : Forest Content) (o : Open Step) (y : Step) → IsTrue (is_open o) → IsRunning a points.names c (noted o ++ y ∷ []) g → OpenSound a points c g (with_noted o y)
of_running a points c g Closed y h r = absurd (let h' = h in cc)
of_running a points c g (Begun xs) y h r = r
of_running a points c g (Resumed xs) y h r = r

-- ---- lists of steps with one more

changes_more : (xs : List Step) (y : Step) → changes_of (xs ++ y ∷ []) ≡ changes_of xs ++ change_of y ∷ []
changes_more [] y = refl
changes_more (x ∷ xs) y = ap (λ r. change_of x ∷ r) (changes_more xs y)

each_named : (P : ℕ → Type 0) (ls : List Change) (z : Change) → Each P (named_in ls) → Each P (named z) → Each P (named_in (ls ++ z ∷ []))
each_named P [] z hs h = each_join P (named z) [] h tt
each_named P (x ∷ ls) z hs h = each_join P (named x) (named_in (ls ++ z ∷ [])) (each_first P (named x) (named_in ls) hs) (each_named P ls z (each_rest P (named x) (named_in ls) hs) h)

each_held : (held : List (Option ℕ)) (xs : List Step) (y : Step) → EachHeldIn held xs → Each (RefIn held) (nodes_of y) → EachHeldIn held (xs ++ y ∷ [])
each_held held [] y hs h = each_join (RefIn held) (nodes_of y) [] h tt
each_held held (x ∷ xs) y hs h = each_join (RefIn held) (nodes_of x) (nodes_in (xs ++ y ∷ [])) (each_first (RefIn held) (nodes_of x) (nodes_in xs) hs) (each_held held xs y (each_rest (RefIn held) (nodes_of x) (nodes_in xs) hs) h)

-- ---- labels in lists

has_first : (xs ys : List ℕ) (l : ℕ) → has_label xs l ≡ true → has_label (xs ++ ys) l ≡ true
has_first xs ys l h = list_any-append (λ x. x == l) xs ys ∙ rw h refl

either_true : (a : Bool) → (a || true) ≡ true
either_true true = refl
either_true false = refl

has_last : (xs : List ℕ) (l : ℕ) → has_label (xs ++ l ∷ []) l ≡ true
has_last xs l = list_any-append (λ x. x == l) xs (l ∷ []) ∙ (rw own (either_true (has_label xs l)))
  where
    own : has_label (l ∷ []) l ≡ true
    own = elim (eqb_tells l l) [ inl (e, _) ↦ rw e refl | inr (_, off) ↦ absurd (off refl) ]

has_later : (xs ys : List ℕ) (l : ℕ) → has_label ys l ≡ true → has_label (xs ++ ys) l ≡ true
has_later xs ys l h = list_any-append (λ x. x == l) xs ys ∙ (rw h (either_true (has_label xs l)))

either_of : (a b : Bool) → (a || b) ≡ true → (a ≡ true) ⊎ (b ≡ true)
either_of true b e = inl refl
either_of false b e = inr e

named_first : (xs ys : List Change) (l : ℕ) → has_label (named_in xs) l ≡ true → has_label (named_in (xs ++ ys)) l ≡ true
named_first [] ys l h = absurd (cc)
named_first (x ∷ xs) ys l h = elim (either_of (has_label (named x) l) (has_label (named_in xs) l) (sym (list_any-append (λ m. m == l) (named x) (named_in xs)) ∙ h)) [
  | inl t ↦ has_first (named x) (named_in (xs ++ ys)) l t
  | inr t ↦ has_later (named x) (named_in (xs ++ ys)) l (named_first xs ys l t)
]

named_last : (xs : List Change) (y : Change) (l : ℕ) → has_label (named y) l ≡ true → has_label (named_in (xs ++ y ∷ [])) l ≡ true
named_last [] y l h = has_first (named y) [] l h
named_last (x ∷ xs) y l h = has_later (named x) (named_in (xs ++ y ∷ [])) l (named_last xs y l h)

-- ---- the history beside a command whose marks and detached trees change

module _ (held : List (Option ℕ)) (names : List (List ℕ)) (c d : Command) (start : c.start ≡ d.start) where
  pub undo_carried : (r : Bool) (high : ℕ) (f : Forest Content) (es : List (List Step)) (bs : List EntrySnapshot) → ((b : EntrySnapshot) → detached_of r c b ≡ detached_of r d b) → UndoSound held names r c high f es bs → UndoSound held names r d high f es bs
  undo_carried r high f [] [] same h = tt
  undo_carried r high f [] (b ∷ bs) same h = absurd h
  undo_carried r high f (e ∷ es) [] same h = absurd h
  undo_carried r high f (e ∷ es) (b ∷ bs) same h =
      let ts = inverses_back applied inverse (changes_of e) f in
      let own : IsSnapshot names (forest_before e f) f e ts b (detached_of r d b) high d.start = subst (λ ls. IsSnapshot names (forest_before e f) f e ts b ls high d.start) (same b) (subst (λ n. IsSnapshot names (forest_before e f) f e ts b (detached_of r c b) high n) start h.1.0) in
      (h.0, (own, undo_carried false b.span.first_label (forest_before e f) es bs (λ _. refl) h.1.1))

-- ---- what the fields of the command become

pub record Follows (c d : Command) (x y : Change) : Type 0 where
  pub start : d.start ≡ c.start
  pub host : d.host ≡ c.host
  pub keeping : d.keeping ≡ c.keeping
  pub resumed : d.resumed ≡ c.resumed
  pub kept : d.kept ≡ c.kept
  pub detached_before : d.detached_before ≡ c.detached_before
  pub count : length d.named.items ≡ length c.named.items
  pub stay : (l : ℕ) → IsMarked c l → IsMarked d l
  pub marked : Each (IsMarked d) (named x)
  pub marked_inverse : Each (IsMarked d) (named y)
  pub only : (l : ℕ) → has_named d l ≡ true → (has_named c l ≡ true) ⊎ ((has_label (named x) l ≡ true) ⊎ (has_label (named y) l ≡ true))
  pub more : List NodeRef
  pub detached : d.detached.items ≡ c.detached.items ++ more
  pub loosed_is : labels_of more ≡ loosed x

module _ (tree : Live) (c : Command) (trail : Trail)
    (law : IsArena tree.arena) (open_now : IsTrue (is_open trail.log.open_entry))
    (ok : IsSoundDoc tree c trail) where
  abbrev g : Forest Content
  g = begun_forest trail.log tree.arena.trees

  abbrev pub hides : ℕ → Bool
  hides = is_hidden (begun_forest trail.log tree.arena.trees) c.start

  abbrev xs : List Step
  xs = noted trail.log.open_entry

  pub seen_prunes : Prunes hides tree.arena.trees
  seen_prunes = prunes_roots hides tree.arena.trees (forest_of tree.arena law) refl (λ l h. top_loose tree.arena.trees l law.distinct (ok.hidden l h))

  pub run : IsRunning tree.arena tree.points.names c xs g
  run = running_of tree.arena tree.points c g trail.log.open_entry open_now ok.running

  module _ (x : Step) (fits : StepFits x tree.arena) (seen : Each (IsLeft hides tree.arena.trees) (named (change_of x))) where
    abbrev y : Step
    y = step_inverse x tree.arena

    abbrev f : Forest Content
    f = applied (change_of x) tree.arena.trees

    T : Turns (change_of x) tree.arena.trees
    T = turns (change_of x) tree.arena.trees fits.fits

    pub goes : GoesDown hides (change_of x) tree.arena.trees
    goes = down hides (change_of x) tree.arena.trees seen_prunes fits.fits seen

    y_is : change_of y ≡ inverse (change_of x) tree.arena.trees
    y_is = change_of-inverse x tree.arena

    ys_are : changes_of (noted (with_noted trail.log.open_entry y)) ≡ changes_of xs ++ inverse (change_of x) tree.arena.trees ∷ []
    ys_are = ap changes_of (noted_more trail.log.open_entry y open_now) ∙ (changes_more xs y ∙ ap (λ z. changes_of xs ++ z ∷ []) y_is)

    -- the forest at the begin is the same
    pub begun_same : begun_forest (with_step trail.log y) f ≡ g
    begun_same = ap (λ ls. back applied ls f) ys_are ∙ (back-append applied (changes_of xs) (inverse (change_of x) tree.arena.trees) f ∙ ap (back applied (changes_of xs)) T.back)

    inverse_same : inverses_back applied inverse (changes_of xs ++ inverse (change_of x) tree.arena.trees ∷ []) f ≡ inverses_back applied inverse (changes_of xs) tree.arena.trees ++ change_of x ∷ []
    inverse_same =
        inverses_back-append applied inverse (changes_of xs) (inverse (change_of x) tree.arena.trees) f
        ∙ (λ i. inverses_back applied inverse (changes_of xs) (T.back i) ++ T.same i ∷ [])

    steps_are : changes_of (xs ++ y ∷ []) ≡ changes_of xs ++ inverse (change_of x) tree.arena.trees ∷ []
    steps_are = changes_more xs y ∙ ap (λ z. changes_of xs ++ z ∷ []) y_is

    can_back : CanGoBack tree.arena.held (xs ++ y ∷ []) f
    can_back = (
      subst (λ ls. FitsBack applied Fits ls f) (sym steps_are) (FitsBack-more applied Fits (changes_of xs) (inverse (change_of x) tree.arena.trees) f T.fits (subst (λ (t : Forest Content). FitsBack applied Fits (changes_of xs) t) (sym T.back) run.can.0)),
      each_held tree.arena.held xs y run.can.1 (held-inverse x tree.arena fits),
    )

    -- what was seen is seen
    pub still : (l : ℕ) → IsLeft hides tree.arena.trees l → IsLeft hides f l
    still l h = let s = goes.stays l in omega (arith, h, s)

    names_now : Each (IsLeft hides f) (named_in (changes_of (xs ++ y ∷ [])))
    names_now = subst (λ ls. Each (IsLeft hides f) (named_in ls)) (sym steps_are)
        (each_named (IsLeft hides f) (changes_of xs) (inverse (change_of x) tree.arena.trees)
        (each_of (IsLeft hides tree.arena.trees) (IsLeft hides f) (named_in (changes_of xs)) still run.names_there)
        (each_of (IsLeft hides tree.arena.trees) (IsLeft hides f) (named (inverse (change_of x) tree.arena.trees)) still goes.names))

    off_hidden : (l : ℕ) → hides l ≡ true → node_of (change_of x) ≢ l
    off_hidden l h same =
        let out = seen_prunes.out (node_of (change_of x)) (named_node (IsLeft hides tree.arena.trees) (change_of x) seen) in
        true≢false (sym h ∙ (ap hides (sym same) ∙ out))

    module _ (d : Command) (now : Follows c d (change_of x) (inverse (change_of x) tree.arena.trees)) where
      hides_same : is_hidden (begun_forest (with_step trail.log y) f) d.start ≡ hides
      hides_same = λ i. is_hidden (begun_same i) (now.start i)

      marked_still : (ls : List Change) → Each (IsMarked c) (named_in ls) → Each (IsMarked d) (named_in ls)
      marked_still ls h = each_of (IsMarked c) (IsMarked d) (named_in ls) now.stay h

      detached_labels : labels_of (drop d.detached_before d.detached.items) ≡ labels_of (drop c.detached_before c.detached.items) ++ loosed (change_of x)
      detached_labels =
          (λ i. labels_of (drop (now.detached_before i) (now.detached i)))
          ∙ (ap labels_of (drop-append-le c.detached_before c.detached.items now.more run.detached_before)
          ∙ (labels_of-append (drop c.detached_before c.detached.items) now.more ∙ ap (λ ls. labels_of (drop c.detached_before c.detached.items) ++ ls) now.loosed_is))

      runs : IsRunning (record tree.arena { trees = f }) tree.points.names d (xs ++ y ∷ []) g
      runs = record {
        kept = subst (λ k. IsSide tree.points.names g k.places k.counts.nodes k.counts.chars k.counts.depth) (sym now.kept) run.kept;
        settings = ap (λ k. length k.overrides) now.kept ∙ run.settings;
        made = subst (λ n. AreAlone g n tree.arena.next) (sym now.start) run.made;
        can = can_back;
        names_there = subst (λ n. Each (IsLeft (is_hidden g n) f) (named_in (changes_of (xs ++ y ∷ [])))) (sym now.start) names_now;
        marks = (let m = run.marks in let n = now.count in let s = now.start in omega (arith, m, n, s));
        marked = subst (λ ls. Each (IsMarked d) (named_in ls)) (sym steps_are) (each_named (IsMarked d) (changes_of xs) (inverse (change_of x) tree.arena.trees) (marked_still (changes_of xs) run.marked) now.marked_inverse);
        marked_inverse = subst (λ ls. Each (IsMarked d) (named_in (inverses_back applied inverse ls f))) (sym steps_are)
            (subst (λ ls. Each (IsMarked d) (named_in ls)) (sym inverse_same) (each_named (IsMarked d) (inverses_back applied inverse (changes_of xs) tree.arena.trees) (change_of x) (marked_still (inverses_back applied inverse (changes_of xs) tree.arena.trees) run.marked_inverse) now.marked));
        named_all = λ l h. (
            let R : List Change → List Change → Type 0 = λ bs ts. (has_label (named_in bs) l ≡ true) ⊎ (has_label (named_in ts) l ≡ true) in
            let steps = changes_of xs in
            let turns = inverses_back applied inverse steps tree.arena.trees in
            let z = inverse (change_of x) tree.arena.trees in
            let own : R (steps ++ z ∷ []) (turns ++ change_of x ∷ []) = elim (now.only l h) [
              | inl was ↦ elim (run.named_all l was) [ inl t ↦ inl (named_first steps (z ∷ []) l t) | inr t ↦ inr (named_first turns (change_of x ∷ []) l t) ]
              | inr more ↦ elim more [ inl t ↦ inr (named_last turns (change_of x) l t) | inr t ↦ inl (named_last steps z l t) ]
            ] in
            subst (λ bs. R bs (inverses_back applied inverse bs f)) (sym steps_are) (subst (λ ts. R (steps ++ z ∷ []) ts) (sym inverse_same) own));
        detached_before = (let b = run.detached_before in let e = now.detached_before in let n = ap length now.detached in let m = length-append c.detached.items now.more in omega (arith, b, e, n, m));
        detached_seen = subst (λ n. Each (λ l. 0 < count_of (pruned (is_hidden g n) f) l) (labels_of (drop d.detached_before d.detached.items))) (sym now.start)
            (subst (Each (IsLeft hides f)) (sym detached_labels)
            (each_join (IsLeft hides f) (labels_of (drop c.detached_before c.detached.items)) (loosed (change_of x))
            (each_of (IsLeft hides tree.arena.trees) (IsLeft hides f) (labels_of (drop c.detached_before c.detached.items)) still run.detached_seen)
            (each_loosed (IsLeft hides f) (change_of x) (still (node_of (change_of x)) (named_node (IsLeft hides tree.arena.trees) (change_of x) seen)))));
        newly_detached = λ l inner top. (
            let top' : 0 < times (tops (applied (change_of x) (pruned hides tree.arena.trees))) l = subst (λ t. 0 < times (tops t) l) goes.same (subst (λ n. 0 < times (tops (pruned (is_hidden g n) f)) l) now.start top) in
            subst (λ ls. has_label ls l ≡ true) (sym detached_labels) (elim (root_was (change_of x) (pruned hides tree.arena.trees) l goes.fits top') [
              | inl was ↦ has_first (labels_of (drop c.detached_before c.detached.items)) (loosed (change_of x)) l (run.newly_detached l inner was)
              | inr loose ↦ subst (λ ms. has_label (labels_of (drop c.detached_before c.detached.items) ++ ms) l ≡ true) (sym loose) (has_last (labels_of (drop c.detached_before c.detached.items)) l)
            ]));
      }

      host_still : (o : Option NodeRef) → IfSome o (λ h. RefIn tree.arena.held h × (0 < count_of (seen_trees trail.log c.start tree.arena.trees) h.label)) → IfSome o (λ h. RefIn tree.arena.held h × (0 < count_of (pruned hides f) h.label))
      host_still None h = tt
      host_still (Some r) h = (h.0, still r.label h.1)

      detached_same : (r : Bool) (b : EntrySnapshot) → detached_of r c b ≡ detached_of r d b
      detached_same false b = refl
      detached_same true b = sym ((λ i. take (now.detached_before i) (now.detached i)) ∙ take-append-le c.detached_before c.detached.items now.more run.detached_before)

      -- what is seen afterwards
      abbrev pub seen_next : LivePoints → List Setting → State
      seen_next points' overrides' = record (state_of tree c trail.log) {
        trees = applied (change_of x) (pruned hides tree.arena.trees);
        points = points';
        overrides = overrides';
        edits = edits_before xs tree.arena.trees ++ change_of x ∷ [];
      }

      module _ (points' : LivePoints) (overrides' : List Setting) (names : points'.names ≡ tree.points.names) where
        pub state_next : state_of (record tree { arena = record tree.arena { trees = f }; points = points'; overrides = overrides' }) d (with_step trail.log y) ≡ seen_next points' overrides'
        state_next = λ i. record {
          trees = (ap (λ k. pruned k f) hides_same ∙ goes.same) i;
          points = points';
          overrides = overrides';
          flags = tree.flags;
          next = tree.arena.next;
          cap = tree.arena.cap;
          start = now.start i;
          host = label_of (now.host i);
          keeping = now.keeping i;
          edits = (ap (λ ls. inverses_back applied inverse ls f) ys_are ∙ inverse_same) i;
          made = roots_from (now.start i) (begun_same i);
        }

        pub whole_next : whole_of (record tree { arena = record tree.arena { trees = f }; points = points'; overrides = overrides' }) d (with_note trail y) ≡ with_state (whole_of tree c trail) (seen_next points' overrides')
        whole_next = λ i. record {
          state = state_next i;
          history = history_of (names i) (begun_same i) (with_note trail y);
          began = (ap (λ (s : State). began_with s (with_noted trail.log.open_entry y)) begun_is ∙ began_more (begun_state tree.arena tree.points.names c trail.log) trail.log.open_entry y) i;
          held = tree.arena.held;
        }
          where
            begun_is : begun_state (record tree.arena { trees = f }) points'.names d (with_step trail.log y) ≡ begun_state tree.arena tree.points.names c trail.log
            begun_is = λ i. record {
              trees = document_of (begun_same i);
              points = shown (names i) (now.kept i).places;
              overrides = (now.kept i).overrides;
              flags = (now.kept i).flags;
              next = now.start i;
              cap = tree.arena.cap;
              start = now.start i;
              host = None;
              keeping = false;
              edits = [];
              made = [];
            }

        pub sound_next : IsValid (seen_next points' overrides') →
            IsSoundDoc (record tree { arena = record tree.arena { trees = f }; points = points'; overrides = overrides' }) d (with_note trail y)
        sound_next valid =
            let start : c.start ≡ d.start = sym now.start in
            let undo : UndoSound tree.arena.held tree.points.names c.resumed d (next_first c.start trail.future) g trail.log.undo trail.past = undo_carried tree.arena.held tree.points.names c d start c.resumed (next_first c.start trail.future) g trail.log.undo trail.past (detached_same c.resumed) ok.undo in
            let le : c.start ≤ d.start = omega (arith, start) in
            let redo : RedoSound tree.arena.held tree.points.names d g trail.log.redo trail.future = redo_later tree.arena.held tree.points.names c d le g trail.log.redo trail.future ok.redo in
            record {
              valid = subst IsValid (sym state_next) valid;
              some_label = subst (λ n. 0 < n) start ok.some_label;
              hidden = λ l h. (let h' : hides l ≡ true = subst (λ k. k l ≡ true) hides_same h in root_stays (change_of x) tree.arena.trees l fits.fits (off_hidden l h') (ok.hidden l h'));
              running = of_running (record tree.arena { trees = f }) points' d (begun_forest (with_step trail.log y) f) trail.log.open_entry y open_now
                  (subst (λ t. IsRunning (record tree.arena { trees = f }) points'.names d (xs ++ y ∷ []) t) (sym begun_same) (subst (λ ns. IsRunning (record tree.arena { trees = f }) ns d (xs ++ y ∷ []) g) (sym names) runs));
              resumed = now.resumed ∙ (ok.resumed ∙ sym (resumed_more trail.log.open_entry y));
              host = subst (λ k. IfSome d.host (λ h. RefIn tree.arena.held h × (0 < count_of (pruned k f) h.label))) (sym hides_same) (subst (λ o. IfSome o (λ h. RefIn tree.arena.held h × (0 < count_of (pruned hides f) h.label))) (sym now.host) (host_still c.host ok.host));
              undo = subst (λ t. UndoSound tree.arena.held points'.names d.resumed d (next_first d.start trail.future) t trail.log.undo trail.past) (sym begun_same)
                  (subst (λ ns. UndoSound tree.arena.held ns d.resumed d (next_first d.start trail.future) g trail.log.undo trail.past) (sym names)
                  (subst (λ r. UndoSound tree.arena.held tree.points.names r d (next_first d.start trail.future) g trail.log.undo trail.past) (sym now.resumed)
                  (subst (λ n. UndoSound tree.arena.held tree.points.names c.resumed d (next_first n trail.future) g trail.log.undo trail.past) start undo)));
              redo = subst (λ t. RedoSound tree.arena.held points'.names d t trail.log.redo trail.future) (sym begun_same) (subst (λ ns. RedoSound tree.arena.held ns d g trail.log.redo trail.future) (sym names) redo);
              needed = subst (λ n. AreNeeded n (begun_forest (with_step trail.log y) f) trail.log.undo trail.log.redo) start (subst (λ t. AreNeeded c.start t trail.log.undo trail.log.redo) (sym begun_same) ok.needed);
            }
