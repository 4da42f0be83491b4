-- Each node that is held outside commands is in the document or in a tree that a kept entry needs.
use Rattle.std.proofs.Common.{◌≡◌, ◌⊎◌, ℕ, zero, suc, ◌+◌, ◌<◌, Bool, true, false, cond, eqb, List, [], ◌∷◌, map, Option, refl, sym, ap, subst, ◌∙◌, inl, inr, arith}
use Rattle.std.specs.Prelude.{◌==◌}
use Rattle.std.proofs.lemmas.Bool.Decides.{eqb_tells, nat_tests}
use Rattle.edit_model.specs.DomModel.declared.Content.{Content}
use Rattle.edit_model.specs.DomModel.Forest.{Forest, tops, times, count_of, tree_of, IsDistinct, IsWithin}
use Rattle.edit_model.specs.DomModel.Forest.Forest.{Nil, Tree}
use Rattle.edit_model.specs.DomModel.ArenaState.{IsValid as IsArena, IsSlotted}
use Rattle.edit_model.proofs.DomModel.Stands.{times-tops}
use Rattle.edit_model.specs.LiveRange.PointsEdit.{has_label}
use Rattle.step_edits.specs.UndoLog.Log.{noted}
use Rattle.step_edits.specs.UndoLog.Log.Open.{Closed}
use Rattle.step_edits.specs.ForestChanges.Change.{Change, IsForest}
use Rattle.step_edits.specs.ForestChanges.Named.{Each, named_in}
use Rattle.step_edits.proofs.ForestChanges.Twice.{forest_of}
use Rattle.step_edits.specs.EditSteps.declared.step.Step.{Step}
use Rattle.step_edits.specs.EditSteps.Step.{changes_of}
use Rattle.edit_model.specs.History.{document_of}
use Rattle.edit_doc.specs.declared.Doc.TheInside.{Inside}
use Rattle.edit_doc.specs.declared.command.EntrySnapshot.{EntrySnapshot}
use Rattle.edit_doc.specs.declared.command.Command.{Command}
use Rattle.edit_doc.specs.History.{forest_before, forest_after, begun_forest, undo_entries, redo_entries}
use Rattle.edit_doc.specs.Kept.{LeadAllBack, LeadAllForth, IsNamed, AreInTree, HoldsOnlyNeeded}
use Rattle.edit_doc.specs.Sound.{IsOff, EntriesOff, UndoSound, RedoSound, next_first}
use Rattle.edit_doc.specs.Whole.{Whole}
use Rattle.edit_doc.specs.Live.{live}
use Rattle.edit_doc.proofs.Found.{count_of-join}
use Rattle.edit_doc.proofs.HiddenTrees.{top_loose}
use Rattle.edit_doc.proofs.Inner.{seen, Ok}
use Rattle.edit_doc.proofs.Rests.{AtRest, rest_of, trees_are, none_noted}

abbrev Over : Forest Content → ℕ → Type 0
Over f l = (r : ℕ) × (0 < times (tops f) r) × IsWithin f r l

-- the root of the tree of a node
root_over : (f : Forest Content) (l : ℕ) → IsDistinct f → 0 < count_of f l → Over f l
root_over Nil l once here = absurd (omega (arith, here))
root_over (Tree m c ks rest) l once here = by_count (cond (eqb m l) 1 0 + count_of ks l) refl (root_over rest l (λ j. omega (arith, once j)))
  where
    own : eqb m m ≡ true
    own = grind (arith, nat_tests)

    by_count : (n : ℕ) → cond (eqb m l) 1 0 + count_of ks l ≡ n → (0 < count_of rest l → Over rest l) → Over (Tree m c ks rest) l
    by_count (suc n) e later = (m, rw own (omega arith), rw own (omega (arith, e)))
    by_count zero e later =
        let ih = later (omega (arith, e, here)) in
        let top = ih.1 in
        let within = ih.2 in
        elim (eqb_tells m ih.0) [
          | inl (t, _) ↦ absurd (let one = rw t at (once ih.0) in omega (arith, one, top, times-tops rest ih.0))
          | inr (t, _) ↦ (ih.0, omega (arith, top), rw t (subst (λ n. 0 < n) (sym (count_of-join (tree_of ks ih.0) (tree_of rest ih.0) l)) (omega (arith, within))))
        ]

module _ (held : List (Option ℕ)) (names : List (List ℕ)) (c : Command) where
  lead_back : (r : Bool) (high : ℕ) (f : Forest Content) (es : List (List Step)) (bs : List EntrySnapshot) → UndoSound held names r c high f es bs → LeadAllBack f (map changes_of es) (undo_entries names f es bs)
  lead_back r high f [] bs h = tt
  lead_back r high f (e ∷ es) [] h = absurd h
  lead_back r high f (e ∷ es) (b ∷ bs) h = (record { fits = h.0.0; own = refl; after = refl; before = refl }, lead_back false b.span.first_label (forest_before e f) es bs h.1.1)

  lead_forth : (f : Forest Content) (es : List (List Step)) (bs : List EntrySnapshot) → RedoSound held names c f es bs → LeadAllForth f (map changes_of es) (redo_entries names f es bs)
  lead_forth f [] bs h = tt
  lead_forth f (e ∷ es) [] h = absurd h
  lead_forth f (e ∷ es) (b ∷ bs) h = (record { fits = h.0.0; own = refl; before = refl; after = refl }, lead_forth (forest_after e f) es bs h.1.1)

-- ---- a node that is named, if there is one

module _ (f : Forest Content) (r : ℕ) where
  abbrev Named : List ℕ → Type 0
  Named ls = (m : ℕ) × (has_label ls m ≡ true) × IsWithin f r m

  named_or : (ls : List ℕ) → Each (IsOff f r) ls ⊎ Named ls
  named_or [] = inl tt
  named_or (l ∷ ls) = by_count (count_of (tree_of f r) l) refl (named_or ls)
    where
      own : (l == l) ≡ true
      own = grind (arith, nat_tests)

      later : (m : ℕ) → has_label ls m ≡ true → has_label (l ∷ ls) m ≡ true
      later m e = elim (eqb_tells l m) [ inl (t, _) ↦ rw t refl | inr (t, _) ↦ rw t e ]

      by_count : (n : ℕ) → count_of (tree_of f r) l ≡ n → Each (IsOff f r) ls ⊎ Named ls → Each (IsOff f r) (l ∷ ls) ⊎ Named (l ∷ ls)
      by_count (suc n) e rest = inr (l, rw own refl, omega (arith, e))
      by_count zero e rest = elim rest [ inl h ↦ inl (e, h) | inr h ↦ inr (h.0, later h.0 h.1, h.2) ]

  entries_or : (es : List (List Step)) → EntriesOff r f es ⊎ ((m : ℕ) × IsNamed (map changes_of es) m × IsWithin f r m)
  entries_or [] = inl tt
  entries_or (e ∷ es) = elim (named_or (named_in (changes_of e))) [
    | inr h ↦ inr (h.0, inl h.1, h.2)
    | inl h ↦ elim (entries_or es) [ inl t ↦ inl (h, t) | inr t ↦ inr (t.0, inr t.1, t.2) ]
  ]

module _ (d : Inside) (law : IsArena d.tree.nodes.arena) (slotted : IsSlotted d.tree.nodes.arena) (closed : d.history.log.open_entry ≡ Closed) (ok : Ok d) where
  abbrev f : Forest Content
  f = begun_forest d.history.log d.tree.nodes.arena.trees

  is : f ≡ d.tree.nodes.arena.trees
  is = none_noted d.history.log d.tree.nodes.arena.trees (ap noted closed)

  rests : AtRest (live d.tree) d.command d.history
  rests = rest_of (live d.tree) d.command d.history law closed ok

  once : IsDistinct f
  once = subst (λ t. IsDistinct t) (sym is) law.distinct

  abbrev undone : List (List Change)
  undone = map changes_of d.history.log.undo

  abbrev redone : List (List Change)
  redone = map changes_of d.history.log.redo

  in_tree : (l r : ℕ) → 0 < times (tops f) r → IsWithin f r l → (n : ℕ) → r ≡ n → IsWithin f 0 l ⊎ ((r : ℕ) × (m : ℕ) × AreInTree f r l m × (IsNamed undone m ⊎ IsNamed redone m))
  in_tree l r top within zero e = inl (subst (λ n. IsWithin f n l) e within)
  in_tree l r top within (suc n) e =
      let loose = top_loose f r once top in
      elim (entries_or f r d.history.log.undo) [
        | inr h ↦ inr (r, h.0, record { root = loose; has = within; has_too = h.2 }, inl h.1)
        | inl h ↦ elim (entries_or f r d.history.log.redo) [
          | inr t ↦ inr (r, t.0, record { root = loose; has = within; has_too = t.2 }, inr t.1)
          | inl t ↦ absurd (
              let below = law.below r (subst (λ g. 0 < count_of g r) is (omega (arith, top, times-tops f r))) in
              let start = rests.idle.start in
              ok.needed r (omega (arith, e)) (omega (arith, below, start)) top h t)
        ]
      ]

  pub kept_nodes : (v : Whole) → seen d ≡ v → HoldsOnlyNeeded v
  kept_nodes v sees = subst (λ (w : Whole). HoldsOnlyNeeded w) sees (
    f,
    undone,
    redone,
    record {
      forest = subst (λ t. IsForest t) (sym is) (forest_of d.tree.nodes.arena law);
      document = ap document_of is ∙ sym (trees_are (live d.tree) d.command d.history law closed rests.idle.start);
      held = λ slot l h. subst (λ t. 0 < count_of t l) (sym is) (law.here slot l h);
      slotted = λ l here. slotted.kept l (subst (λ t. 0 < count_of t l) is here);
      undo = lead_back d.tree.nodes.arena.held d.tree.points.names d.command d.command.resumed (next_first d.command.start d.history.future) f d.history.log.undo d.history.past ok.undo;
      redo = lead_forth d.tree.nodes.arena.held d.tree.points.names d.command f d.history.log.redo d.history.future ok.redo;
      needed = λ l here. (let t = root_over f l once here in in_tree l t.0 t.1 t.2 t.0 refl);
    },
  )
