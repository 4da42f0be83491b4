-- What the steps of an entry tell is what the entry tells from the document before it on.
use Rattle.std.proofs.Common.{◌≡◌, ℕ, zero, suc, ◌<◌, Bool, true, List, [], ◌∷◌, ◌++◌, take, drop, map, reverse, Option, refl, sym, ap, subst, ◌∙◌, arith}
use Rattle.std.proofs.lemmas.List.{map-append, reverse-append}
use Rattle.edit_model.specs.DomModel.declared.Content.{Content}
use Rattle.edit_model.specs.DomModel.Forest.{Forest, count_of}
use Rattle.edit_model.specs.DomModel.Pruned.{pruned}
use Rattle.edit_model.specs.DomModel.ArenaState.{ArenaState as Arena, IsValid as IsArena}
use Rattle.step_edits.specs.UndoLog.Log.{noted, first_entry, FitsUndo, FitsRedo}
use Rattle.step_edits.specs.UndoLog.Log.Open.{Closed}
use Rattle.step_edits.specs.UndoLog.Turning.{back, forth, inverses_back, inverses_forth, FitsBack, FitsForth}
use Rattle.step_edits.specs.UndoLog.Watching.{SeenMade, SeenUndone}
use Rattle.step_edits.proofs.UndoLog.Turns.{FitsBack-past}
use Rattle.step_edits.specs.ForestChanges.Change.{Change, IsForest, Fits, applied, inverse}
use Rattle.step_edits.specs.ForestChanges.Down.{Prunes, IsLeft, GoForthDown}
use Rattle.step_edits.specs.ForestChanges.Named.{Each, named, named_in}
use Rattle.step_edits.proofs.ForestChanges.ChangeLists.{each_of, each_first, each_rest, back_down, forth_down}
use Rattle.step_edits.proofs.ForestChanges.DownChange.{down}
use Rattle.step_edits.proofs.ForestChanges.Twice.{turns, back_turns, forest_of}
use Rattle.step_edits.specs.EditSteps.declared.step.Step.{Step}
use Rattle.step_edits.specs.EditSteps.Step.{change_of, changes_of, step_applied, step_inverse, StepFits}
use Rattle.step_edits.proofs.EditSteps.StepLists.{go_back, go_forth}
use Rattle.step_edits.specs.Recorded.{Recorded, Records}
use Rattle.step_edits.proofs.Recording.{recorded}
use Rattle.step_edits.specs.DocumentEdits.declared.edit.DocumentEdit.{DocumentEdit}
use Rattle.step_edits.specs.DocumentEdits.Told.{told_all, told_back}
use Rattle.step_edits.specs.DocumentEdits.Followed.{followed}
use Rattle.step_edits.proofs.DocumentEdits.Following.{told_all_follows}
use Rattle.step_edits.proofs.DocumentEdits.Pruned.{told_all-pruned}
use Rattle.step_edits.proofs.DocumentEdits.Undoing.{told_back_follows, told_back-pruned}
use Rattle.edit_model.specs.History.{Entry, used, document_of}
use Rattle.edit_model.specs.NodeArena.declared.NodeRef.{NodeRef}
use Rattle.edit_doc.specs.declared.Doc.TheInside.{Inside}
use Rattle.edit_doc.specs.declared.command.Command.{Command}
use Rattle.edit_doc.specs.declared.command.EntrySnapshot.{EntrySnapshot}
use Rattle.edit_doc.specs.Changes.{ChangesLead, UndoneLead, changes_past, changes_undone, told_before, steps_told, steps_told_back}
use Rattle.edit_doc.specs.History.{roots_from, forest_before, forest_after, begun_forest, is_hidden, undo_entries, redo_entries}
use Rattle.edit_doc.specs.Onward.{with_made}
use Rattle.edit_doc.specs.Sound.{AreFresh, IsSnapshot, UndoSound, RedoSound, detached_of, next_first}
use Rattle.edit_doc.specs.Whole.{Whole}
use Rattle.edit_doc.specs.Live.{live}
use Rattle.edit_doc.proofs.Downs.{back_forest}
use Rattle.edit_doc.proofs.Inner.{seen, Ok}
use Rattle.edit_doc.proofs.MadeApart.{is_unnamed, begins, prunes_unnamed, names_detached}
use Rattle.edit_doc.proofs.Rests.{none_noted}
use Rattle.edit_doc.proofs.Turnings.{prunes_before, prunes_after}

-- ---- what a recorder has seen

map-reverse : {A B : Type 0} (g : A → B) (xs : List A) → map g (reverse xs) ≡ reverse (map g xs)
map-reverse g [] = refl
map-reverse g (x ∷ xs) =
    ap (map g) (reverse-append (x ∷ []) xs)
    ∙ (map-append g (reverse xs) (x ∷ [])
    ∙ (ap (λ ys. ys ++ g x ∷ []) (map-reverse g xs) ∙ sym (reverse-append (g x ∷ []) (map g xs))))

fits_first : (k : ℕ) (es : List (List Step)) (a : Arena) → FitsUndo step_applied StepFits es a → FitsBack step_applied StepFits (drop k (first_entry es)) a
unfolding FitsBack
fits_first zero [] a h = tt
fits_first (suc k) [] a h = tt
fits_first k (e ∷ es) a h = FitsBack-past step_applied StepFits k e a h

fits_again : (es : List (List Step)) (a : Arena) → FitsRedo step_applied StepFits es a → FitsForth step_applied StepFits (first_entry es) a
unfolding FitsForth
fits_again [] a h = tt
fits_again (e ∷ es) a h = h

pub last_recorded : (k : ℕ) (es : List (List Step)) (a : Arena) (old new : Recorded) → old ≡ record { edits = []; whole = true } → FitsUndo step_applied StepFits es a
    → SeenMade step_applied step_inverse Records (drop k (first_entry es)) a old new → new.whole ≡ true → new.edits ≡ steps_told k es a.trees
last_recorded k es a old new none h sees whole =
    let xs = drop k (first_entry es) in
    let led = go_back xs a (fits_first k es a h) in
    let all = recorded (inverses_back step_applied step_inverse xs a) (back step_applied xs a) old new sees whole in
    all.1 ∙ (λ i. (none i).edits ++ told_all (led.turns i) (led.state i).trees)

pub undone_recorded : (es : List (List Step)) (a : Arena) (old new : Recorded) → old ≡ record { edits = []; whole = true } → FitsRedo step_applied StepFits es a
    → SeenUndone step_applied step_inverse Records (first_entry es) a old new → new.whole ≡ true → new.edits ≡ steps_told_back es a.trees
undone_recorded es a old new none h sees whole =
    let xs = first_entry es in
    let led = go_forth xs a (fits_again es a h) in
    let all = recorded (reverse (inverses_forth step_applied step_inverse xs a)) (forth step_applied xs a) old new sees whole in
    let turned : changes_of (reverse (inverses_forth step_applied step_inverse xs a)) ≡ reverse (inverses_forth applied inverse (changes_of xs) a.trees) =
    map-reverse change_of (inverses_forth step_applied step_inverse xs a) ∙ ap reverse led.turns in
    all.1 ∙ (λ i. (none i).edits ++ told_all (turned i) (led.state i).trees)

-- ---- changes past the first k of them

past_steps : (k : ℕ) (e : List Step) → changes_of (drop k e) ≡ drop k (changes_of e)
past_steps zero e = refl
past_steps (suc k) [] = refl
past_steps (suc k) (x ∷ e) = past_steps k e

past_inverses : (k : ℕ) (xs : List Change) (f : Forest Content) → inverses_back applied inverse (drop k xs) f ≡ drop k (inverses_back applied inverse xs f)
unfolding inverses_back
past_inverses zero xs f = refl
past_inverses (suc k) [] f = refl
past_inverses (suc k) (x ∷ xs) f = past_inverses k xs f

-- what takes the first k back leads to where the others lead
past_forest : (k : ℕ) (xs : List Change) (f : Forest Content) → FitsBack applied Fits xs f → forth applied (take k (inverses_back applied inverse xs f)) (back applied xs f) ≡ back applied (drop k xs) f
unfolding back forth inverses_back FitsBack
past_forest zero xs f h = refl
past_forest (suc k) [] f h = refl
past_forest (suc k) (x ∷ xs) f h =
    ap (λ g. forth applied (take k (inverses_back applied inverse xs f)) g) (turns x (back applied xs f) h.1).back ∙ past_forest k xs f h.0

told_past : (k : ℕ) (xs : List Change) (f : Forest Content) → FitsBack applied Fits xs f →
    let ys = inverses_back applied inverse xs f in
    told_before (drop k xs) f ≡ told_all (drop k ys) (forth applied (take k ys) (back applied xs f))
told_past k xs f h = λ i. told_all (past_inverses k xs f i) (sym (past_forest k xs f h) i)

-- they don't see what is pruned
told_past-pruned : (q : ℕ → Bool) (k : ℕ) (xs : List Change) (f : Forest Content) → Prunes q f → FitsForth applied Fits xs f → Each (IsLeft q f) (named_in xs) →
    told_all (drop k xs) (forth applied (take k xs) (pruned q f)) ≡ told_all (drop k xs) (forth applied (take k xs) f)
unfolding told_all forth FitsForth
told_past-pruned q zero xs f prunes h hs = told_all-pruned q xs f prunes h hs
told_past-pruned q (suc k) [] f prunes h hs = refl
told_past-pruned q (suc k) (x ∷ xs) f prunes h hs =
    let d = down q x f prunes h.0 (each_first (IsLeft q f) (named x) (named_in xs) hs) in
    let to : (l : ℕ) → IsLeft q f l → IsLeft q (applied x f) l = λ l w. omega (arith, w, d.stays l) in
    let rest = told_past-pruned q k xs (applied x f) d.prunes h.1 (each_of (IsLeft q f) (IsLeft q (applied x f)) (named_in xs) to (each_rest (IsLeft q f) (named x) (named_in xs) hs)) in
    ap (λ g. told_all (drop k xs) (forth applied (take k xs) g)) (sym d.same) ∙ rest

-- ---- changes from the document before an entry on

-- The changes of an entry fit the whole forest before it, and the forest without what its commands
-- didn't see. `begin` says which forest is left where the nodes that none names are pruned too
pub record Begins (first : ℕ) (xs : List Change) (g : Forest Content) : Type 0 where
  pub seen : Prunes (is_hidden g first) g
  pub fits : FitsForth applied Fits xs g
  pub left : Each (IsLeft (is_hidden g first) g) (named_in xs)
  pub named : Prunes (is_unnamed (named_in xs) first) (pruned (is_hidden g first) g)
  pub fits_seen : FitsForth applied Fits xs (pruned (is_hidden g first) g)
  pub left_named : Each (IsLeft (is_unnamed (named_in xs) first) (pruned (is_hidden g first) g)) (named_in xs)
  pub begin : pruned (is_unnamed (named_in xs) first) (pruned (is_hidden g first) g) ≡ with_made (document_of g) (used xs (roots_from first g))

pub begins_of : (first : ℕ) (xs : List Change) (g : Forest Content) → IsForest g → 0 < first → AreFresh g first → FitsForth applied Fits xs g → Each (IsLeft (is_hidden g first) g) (named_in xs) → Begins first xs g
begins_of first xs g is some fresh fits left =
    let prunes = prunes_before g first is in
    let on = forth_down (is_hidden g first) xs g prunes fits left in
    record {
      seen = prunes;
      fits = fits;
      left = left;
      named = prunes_unnamed g first is some fresh xs;
      fits_seen = on.fits;
      left_named = names_detached g first is some fresh xs left;
      begin = begins g first is some fresh xs;
    }

pub told_at_begin : (first : ℕ) (xs : List Change) (g : Forest Content) → Begins first xs g → (k : ℕ) →
    told_all (drop k xs) (forth applied (take k xs) (with_made (document_of g) (used xs (roots_from first g)))) ≡ told_all (drop k xs) (forth applied (take k xs) g)
told_at_begin first xs g b k =
    ap (λ f. told_all (drop k xs) (forth applied (take k xs) f)) (sym b.begin)
    ∙ (told_past-pruned (is_unnamed (named_in xs) first) k xs (pruned (is_hidden g first) g) b.named b.fits_seen b.left_named
    ∙ told_past-pruned (is_hidden g first) k xs g b.seen b.fits b.left)

told_back_at_begin : (first : ℕ) (xs : List Change) (g : Forest Content) → Begins first xs g →
    told_back xs (with_made (document_of g) (used xs (roots_from first g))) ≡ told_back xs g
told_back_at_begin first xs g b =
    ap (told_back xs) (sym b.begin)
    ∙ (told_back-pruned (is_unnamed (named_in xs) first) xs (pruned (is_hidden g first) g) b.named b.fits_seen b.left_named
    ∙ told_back-pruned (is_hidden g first) xs g b.seen b.fits b.left)

-- ---- the entries next to the cursor

module _ (held : List (Option ℕ)) (names : List (List ℕ)) (c : Command) where
  pub begins_back : (e : List Step) (f : Forest Content) (b : EntrySnapshot) (detached : List NodeRef) (high start : ℕ) → IsForest f → FitsBack applied Fits (changes_of e) f
      → IsSnapshot names (forest_before e f) f e (inverses_back applied inverse (changes_of e) f) b detached high start → Begins b.span.first_label (inverses_back applied inverse (changes_of e) f) (forest_before e f)
  begins_back e f b detached high start is fits snapshot =
      let first = b.span.first_label in
      let ys = changes_of e in
      let xs = inverses_back applied inverse ys f in
      let g = back applied ys f in
      let k : ℕ → Bool = is_hidden g first in
      let down = back_down k ys f (prunes_after g f first is snapshot.hidden) fits snapshot.names_there in
      begins_of first xs g (back_forest ys f fits is) snapshot.some_label snapshot.fresh (back_turns ys f fits).fit
      (each_of (IsLeft k f) (IsLeft k g) (named_in xs) (λ l w. omega (arith, w, down.stays l)) down.names)

  begins_forth : (e : List Step) (f : Forest Content) (b : EntrySnapshot) (detached : List NodeRef) (high start : ℕ) (ts : List Change) → IsForest f → FitsForth applied Fits (changes_of e) f
      → IsSnapshot names f (forest_after e f) e ts b detached high start → Begins b.span.first_label (changes_of e) f
  begins_forth e f b detached high start ts is fits snapshot =
      begins_of b.span.first_label (changes_of e) f is snapshot.some_label snapshot.fresh fits snapshot.names_seen

  pub undo_told : (r : Bool) (high : ℕ) (f : Forest Content) (es : List (List Step)) (bs : List EntrySnapshot) → UndoSound held names r c high f es bs → IsForest f → (k : ℕ) → steps_told k es f ≡ changes_past k (undo_entries names f es bs)
  unfolding inverses_back told_all
  undo_told r high f [] [] h is zero = refl
  undo_told r high f [] [] h is (suc k) = refl
  undo_told r high f [] (b ∷ bs) h is k = absurd h
  undo_told r high f (e ∷ es) [] h is k = absurd h
  undo_told r high f (e ∷ es) (b ∷ bs) h is k =
      let ys = changes_of e in
      let b' = begins_back e f b (detached_of r c b) high c.start is h.0.0 h.1.0 in
      ap (λ xs. told_before xs f) (past_steps k e)
      ∙ (told_past k ys f h.0.0 ∙ sym (told_at_begin b.span.first_label (inverses_back applied inverse ys f) (forest_before e f) b' k))

  redo_told : (f : Forest Content) (es : List (List Step)) (bs : List EntrySnapshot) → RedoSound held names c f es bs → IsForest f → steps_told_back es f ≡ changes_undone (redo_entries names f es bs)
  unfolding told_all inverses_forth
  redo_told f [] [] h is = refl
  redo_told f [] (b ∷ bs) h is = absurd h
  redo_told f (e ∷ es) [] h is = absurd h
  redo_told f (e ∷ es) (b ∷ bs) h is =
      let b' = begins_forth e f b _ _ _ _ is h.0.0 h.1.0 in
      sym (told_back_at_begin b.span.first_label (changes_of e) f b')

-- ---- what they tell leads from one document to the other

module _ (held : List (Option ℕ)) (names : List (List ℕ)) (c : Command) where
  undo_leads : (r : Bool) (high : ℕ) (f : Forest Content) (es : List (List Step)) (bs : List EntrySnapshot) → UndoSound held names r c high f es bs → IsForest f → ChangesLead (undo_entries names f es bs)
  unfolding forth
  undo_leads r high f [] bs h is = tt
  undo_leads r high f (e ∷ es) [] h is = absurd h
  undo_leads r high f (e ∷ es) (b ∷ bs) h is =
      let ys = changes_of e in
      let xs = inverses_back applied inverse ys f in
      let g = back applied ys f in
      let b' = begins_back held names c e f b (detached_of r c b) high c.start is h.0.0 h.1.0 in
      ap (λ us. forth followed us (document_of g)) (told_at_begin b.span.first_label xs g b' 0)
      ∙ (told_all_follows xs g b'.fits ∙ ap document_of (back_turns ys f h.0.0).state)

  redo_leads : (f : Forest Content) (es : List (List Step)) (bs : List EntrySnapshot) → RedoSound held names c f es bs → IsForest f → UndoneLead (redo_entries names f es bs)
  redo_leads f [] bs h is = tt
  redo_leads f (e ∷ es) [] h is = absurd h
  redo_leads f (e ∷ es) (b ∷ bs) h is =
      let xs = changes_of e in
      let b' = begins_forth held names c e f b _ _ _ _ is h.0.0 h.1.0 in
      ap (λ us. forth followed us (document_of (forth applied xs f))) (told_back_at_begin b.span.first_label xs f b')
      ∙ told_back_follows xs f b'.fits

module _ (d : Inside) (law : IsArena d.tree.nodes.arena) (closed : d.history.log.open_entry ≡ Closed) (ok : Ok d) where
  abbrev f : Forest Content
  f = begun_forest d.history.log d.tree.nodes.arena.trees

  is : f ≡ d.tree.nodes.arena.trees
  is = none_noted d.history.log d.tree.nodes.arena.trees (ap noted closed)

  forest : IsForest f
  forest = subst IsForest (sym is) (forest_of d.tree.nodes.arena law)

  pub last_told : (v : Whole) → seen d ≡ v → (k : ℕ) → steps_told k d.history.log.undo d.tree.nodes.arena.trees ≡ changes_past k v.history.undo
  last_told v sees k =
      ap (steps_told k d.history.log.undo) (sym is)
      ∙ (undo_told d.tree.nodes.arena.held d.tree.points.names d.command d.command.resumed (next_first d.command.start d.history.future) f d.history.log.undo d.history.past ok.undo forest k
      ∙ ap (λ (w : Whole). changes_past k w.history.undo) sees)

  pub undone_told : (v : Whole) → seen d ≡ v → steps_told_back d.history.log.redo d.tree.nodes.arena.trees ≡ changes_undone v.history.redo
  undone_told v sees =
      ap (steps_told_back d.history.log.redo) (sym is)
      ∙ (redo_told d.tree.nodes.arena.held d.tree.points.names d.command f d.history.log.redo d.history.future ok.redo forest
      ∙ ap (λ (w : Whole). changes_undone w.history.redo) sees)

  pub last_leads : (v : Whole) → seen d ≡ v → ChangesLead v.history.undo
  last_leads v sees =
      subst (λ (w : Whole). ChangesLead w.history.undo) sees
      (undo_leads d.tree.nodes.arena.held d.tree.points.names d.command d.command.resumed (next_first d.command.start d.history.future) f d.history.log.undo d.history.past ok.undo forest)

  pub undone_leads : (v : Whole) → seen d ≡ v → UndoneLead v.history.redo
  undone_leads v sees =
      subst (λ (w : Whole). UndoneLead w.history.redo) sees
      (redo_leads d.tree.nodes.arena.held d.tree.points.names d.command f d.history.log.redo d.history.future ok.redo forest)
