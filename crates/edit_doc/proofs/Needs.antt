-- After a commit each loose tree has a node that a kept entry names.
use Rattle.std.proofs.Common.{◌≡◌, ℕ, zero, suc, ◌+◌, ◌<◌, ◌≤◌, Bool, true, false, true≢false, List, [], ◌∷◌, ◌++◌, length, take, Option, refl, sym, ap, subst, ◌∙◌, inl, inr, arith}
use Rattle.std.specs.Prelude.{nat_le, slice_get}
use Rattle.edit_model.specs.DomModel.declared.Content.{Content}
use Rattle.edit_model.specs.DomModel.Forest.{Forest, tops, times, count_of, tree_of}
use Rattle.edit_model.specs.DomModel.Pruned.{pruned}
use Rattle.edit_model.specs.DomModel.ArenaState.{ArenaState as Arena}
use Rattle.edit_model.proofs.DomModel.Stands.{true_or_false}
use Rattle.edit_model.specs.LiveRange.PointsEdit.{has_label}
use Rattle.step_edits.specs.UndoLog.Turning.{inverses_back, inverses_forth}
use Rattle.step_edits.specs.UndoLog.Log.{Log, IsLog, is_resumed, joined, committed}
use Rattle.step_edits.specs.ForestChanges.Change.{IsForest, applied, inverse}
use Rattle.step_edits.specs.ForestChanges.Named.{Each, named, named_in}
use Rattle.step_edits.proofs.ForestChanges.ChangeLists.{each_first, each_rest, each_join}
use Rattle.step_edits.proofs.ForestChanges.Twice.{forest_of}
use Rattle.step_edits.specs.EditSteps.declared.step.Step.{Step}
use Rattle.step_edits.specs.EditSteps.Step.{change_of, changes_of}
use Rattle.edit_doc.specs.declared.Doc.TheInside.{Inside}
use Rattle.edit_doc.specs.declared.command.EntrySnapshot.{EntrySnapshot}
use Rattle.edit_doc.specs.declared.command.Command.{Command}
use Rattle.edit_doc.specs.GivingUp.{GivesUp, has_detached}
use Rattle.edit_doc.specs.History.{forest_before, forest_after, is_hidden}
use Rattle.edit_doc.specs.Marks.{has_named}
use Rattle.edit_doc.specs.Sound.{IsOff, EntriesOff, AreNeeded, UndoSound, RedoSound, next_first}
use Rattle.edit_doc.proofs.Downs.{back_forest, forth_forest}
use Rattle.edit_doc.proofs.GivingUp.{unnamed_in}
use Rattle.edit_doc.proofs.HiddenTrees.{is_hidden_from, tops_detached, true_le, false_le}
use Rattle.edit_doc.proofs.Inner.{Entering}
use Rattle.edit_doc.proofs.Joins.{committed_joined, true_is}
use Rattle.edit_doc.proofs.Laid.{next_first_low}
use Rattle.edit_doc.proofs.NewlyDetached.{listed_has, or_false}
use Rattle.edit_doc.proofs.Off.{Passes, passes_back, passes_forth, entries_moved, each_here, each_off, own_tree, tree_pruned}
use Rattle.edit_doc.proofs.Outgone.{unkept}
use Rattle.edit_doc.proofs.Records.{committed_made, with_first, entering}
use Rattle.edit_doc.proofs.Rolls.{run, g, xs, forest_g}
use Rattle.edit_doc.proofs.Unnamed.{unnamed, low}

-- ---- a joined entry

first_named : (P : ℕ → Type 0) (es ys : List Step) → Each P (named_in (changes_of (es ++ ys))) → Each P (named_in (changes_of es))
first_named P [] ys h = tt
first_named P (e ∷ es) ys h = each_join P (named (change_of e)) (named_in (changes_of es)) (each_first P (named (change_of e)) (named_in (changes_of (es ++ ys))) h) (first_named P es ys (each_rest P (named (change_of e)) (named_in (changes_of (es ++ ys))) h))

last_named : (P : ℕ → Type 0) (es ys : List Step) → Each P (named_in (changes_of (es ++ ys))) → Each P (named_in (changes_of ys))
last_named P [] ys h = h
last_named P (e ∷ es) ys h = last_named P es ys (each_rest P (named (change_of e)) (named_in (changes_of (es ++ ys))) h)

joined_last : (l : ℕ) (f : Forest Content) (es : List (List Step)) (ys : List Step) → 0 < length es → EntriesOff l f (joined es ys) → Each (IsOff f l) (named_in (changes_of ys))
joined_last l f [] ys some h = absurd (omega (arith, some))
joined_last l f (e ∷ es) ys some h = last_named (IsOff f l) e ys h.0

joined_first : (l : ℕ) (f : Forest Content) (es : List (List Step)) (ys : List Step) → EntriesOff l f (joined es ys) → EntriesOff l f es
joined_first l f [] ys h = tt
joined_first l f (e ∷ es) ys h = (first_named (IsOff f l) e ys h.0, h.1)

module _ (held : List (Option ℕ)) (names : List (List ℕ)) (c : Command) where
  -- a tree that the entries but for the last don't name, nor did that leave it
  nearly : (n high : ℕ) (f : Forest Content) (es : List (List Step)) (bs : List EntrySnapshot) → IsForest f → UndoSound held names false c high f es bs → length es ≤ n + 1 →
      (l : ℕ) → 0 < l → 0 < times (tops f) l → has_detached (slice_get bs n) l ≡ false → EntriesOff l f (take n es) → (EntriesOff l f es → ⊥) → ⊥
  nearly n high f [] bs is s few l inner top unlisted off missed = missed tt
  nearly n high f (e ∷ es) [] is s few l inner top unlisted off missed = s
  nearly zero high f (e ∷ []) (b ∷ bs) is s few l inner top unlisted off missed = true≢false (sym (s.1.0.detached_all l inner top (λ a t. missed (a, tt))) ∙ unlisted)
  nearly zero high f (e ∷ x ∷ es) (b ∷ bs) is s few l inner top unlisted off missed = absurd (omega (arith, few))
  nearly (suc n) high f (e ∷ es) (b ∷ bs) is s few l inner top unlisted off missed =
      let h = forest_before e f in
      let ch = changes_of e in
      let ps : Passes l f h (inverses_back applied inverse ch f) = passes_back l ch f is inner top s.0.0 (each_here (is_hidden h b.span.first_label) f (named_in ch) s.1.0.names_there) off.0 in
      nearly n b.span.first_label h es bs (back_forest ch f s.0.0 is) s.1.1 (omega (arith, few)) l inner ps.top unlisted (entries_moved l f h ps.same (take n es) off.1)
      (λ x. missed (off.0, entries_moved l h f (λ m. sym (ps.same m)) es x))

  -- the entries that redo would take didn't see older trees
  redo_off : (f : Forest Content) (es : List (List Step)) (bs : List EntrySnapshot) → IsForest f → RedoSound held names c f es bs → (l : ℕ) → 0 < l → l < next_first c.start bs → 0 < times (tops f) l → EntriesOff l f es
  redo_off f [] bs is s l inner old top = tt
  redo_off f (e ∷ es) [] is s l inner old top = absurd s
  redo_off f (e ∷ es) (b ∷ bs) is s l inner old top =
      let h = forest_after e f in
      let ch = changes_of e in
      let hid = is_hidden f b.span.first_label in
      let t : hid l ≡ true = is_hidden_from f b.span.first_label l (record { inner = inner; old = old; root = top }) in
      let own : Each (IsOff f l) (named_in ch) = each_off hid f l is.distinct top t (named_in ch) s.1.0.names_seen in
      let ps : Passes l f h (inverses_forth applied inverse ch f) = passes_forth l ch f is inner top s.0.0 (each_here hid f (named_in ch) s.1.0.names_seen) own in
      let drawn = s.1.0.drawn in
      (own, entries_moved l h f (λ m. sym (ps.same m)) es (redo_off h es bs (forth_forest ch f s.0.0 is) s.1.1 l inner (omega (arith, old, drawn)) ps.top))

module _ (d : Inside) (enters : Entering d) (logged : IsLog d.history.log) where
  abbrev f : Forest Content
  f = d.tree.nodes.arena.trees

  abbrev begun : Forest Content
  begun = g d enters.ending.during

  abbrev steps : List Step
  steps = xs d enters.ending.during

  abbrev k : ℕ → Bool
  k = unkept d enters

  none_named : (l : ℕ) → 0 < l → 0 < times (tops f) l → unnamed d enters.ending.during l ≡ false → Each (IsOff f l) (named_in (changes_of steps)) → EntriesOff l f d.history.log.undo → ⊥
  none_named l inner top named off off_undo =
      let r = run d enters.ending.during in
      let ch = changes_of steps in
      let turns = inverses_back applied inverse ch f in
      let ps : Passes l f begun turns = passes_back l ch f (forest_of d.tree.nodes.arena enters.ending.during.law) inner top r.can.0 (each_here (is_hidden begun d.command.start) f (named_in ch) r.names_there) off in
      let own = own_tree f l top in
      let unlisted : (ls : List ℕ) → Each (IsOff f l) ls → has_label ls l ≡ true → ⊥ = λ ls e t. (let none = listed_has (IsOff f l) ls l e t in omega (arith, own, none)) in
      let early : has_named d.command l ≡ false → l < low d enters.ending.during = λ e. elim (true_or_false (nat_le (low d enters.ending.during) l)) [
        | inl t ↦ absurd (true≢false (sym (unnamed_in (low d enters.ending.during) d.command l (true_le (low d enters.ending.during) l t) e) ∙ named))
        | inr t ↦ false_le (low d enters.ending.during) l t
      ] in
      elim (true_or_false (has_named d.command l)) [
        | inl t ↦ elim (r.named_all l t) [ inl x ↦ unlisted (named_in ch) off x | inr x ↦ unlisted (named_in turns) ps.turns x ]
        | inr t ↦ (
            let old = early t in
            let low_le = next_first_low d.tree.nodes.arena.held d.tree.points.names d.command begun d.history.log.redo d.history.future enters.ending.during.ok.redo in
            enters.ending.during.ok.needed l inner (omega (arith, old, low_le)) ps.top (entries_moved l f begun ps.same d.history.log.undo off_undo)
            (redo_off d.tree.nodes.arena.held d.tree.points.names d.command begun d.history.log.redo d.history.future (forest_g d enters.ending.during) enters.ending.during.ok.redo l inner old ps.top))
      ]

  pub needed_after : (log : Log Step) → log ≡ committed d.history.log → (a : Arena) → GivesUp k d.tree.nodes.arena a → (start : ℕ) → AreNeeded start a.trees log.undo log.redo
  needed_after log is a gives start l inner old top off_undo off_redo =
      let top' : 0 < times (tops (pruned k f)) l = subst (λ t. 0 < times (tops t) l) gives.trees top in
      let was = tops_detached k f l top' in
      let same : (m : ℕ) → count_of (tree_of f l) m ≡ count_of (tree_of a.trees l) m = λ m. sym (ap (λ t. count_of (tree_of t l) m) gives.trees ∙ tree_pruned l k f enters.ending.during.law.distinct top' m) in
      let off : EntriesOff l f (committed d.history.log).undo = subst (λ (x : Log Step). EntriesOff l f x.undo) is (entries_moved l a.trees f same log.undo off_undo) in
      let kept = or_false (unnamed d enters.ending.during l) (has_detached enters.out l) was.1 in
      elim (true_or_false (is_resumed d.history.log.open_entry)) [
        | inl r ↦ (
            let off' : EntriesOff l f (joined d.history.log.undo steps) = subst (λ (x : Log Step). EntriesOff l f x.undo) (committed_joined d.history.log d.history.log.open_entry r) off in
            let last = (logged.resumes_last (true_is (is_resumed d.history.log.open_entry) r)).0 in
            none_named l inner was.0 kept.0 (joined_last l f d.history.log.undo steps last off') (joined_first l f d.history.log.undo steps off'))
        | inr r ↦ (
            let c : Command = record d.command { start = d.tree.nodes.arena.next } in
            let h = entering d enters.ending r c refl enters.past enters.out enters.entered in
            let bs : List EntrySnapshot = h.0 ∷ d.history.past in
            let es : List (List Step) = steps ∷ d.history.log.undo in
            let off' : EntriesOff l f (take d.history.log.depth es) = subst (λ (x : Log Step). EntriesOff l f x.undo) (committed_made d.history.log d.history.log.open_entry enters.ending.during.opened r enters.some) off in
            let unlisted : has_detached (slice_get bs d.history.log.depth) l ≡ false = subst (λ o. has_detached o l ≡ false) h.4 kept.1 in
            let within = logged.within in
            let few : length es ≤ d.history.log.depth + 1 = omega (arith, within) in
            nearly d.tree.nodes.arena.held d.tree.points.names c d.history.log.depth d.tree.nodes.arena.next f es bs (forest_of d.tree.nodes.arena enters.ending.during.law) (with_first d enters.ending r c refl enters.past enters.out h.0 h.1 h.2) few l inner was.0 unlisted off'
            (λ x. none_named l inner was.0 kept.0 x.0 x.1))
      ]
