-- The label of a node that isn't held is in no document that undo and redo lead to, and no edit of a kept entry names it.
use Rattle.std.proofs.Common.{◌≡◌, ◌≢◌, ◌⊎◌, ◌↔◌, ℕ, suc, zero, ◌<◌, true, false, cond, eqb, List, [], ◌∷◌, Option, Some, None, IsSome, IfSome, unwrap_or, refl, sym, subst, ◌∙◌, inl, inr, arith}
use Rattle.std.specs.Prelude.{is_some, slice_index_or}
use Rattle.edit_model.specs.DomModel.declared.Content.{Content}
use Rattle.edit_model.specs.DomModel.Change as change
use Rattle.edit_model.specs.DomModel.ArenaState.{ArenaState, IsSlotted, IsValid, slot_of}
use Rattle.edit_model.specs.DomModel.Contents.{has_chars, is_element}
use Rattle.edit_model.specs.DomModel.Forest.{Forest, count_of, parent_of, unlink}
use Rattle.edit_model.proofs.DomModel.Links.{parent_count}
use Rattle.edit_model.proofs.DomModel.Totals.{total-unlink, total-without}
use Rattle.edit_model.specs.NodeArena.declared.NodeRef.{NodeRef}
use Rattle.inline_value.specs.UndoLog.Turning.{back, forth, inverses_back, FitsBack, FitsForth}
use Rattle.inline_value.specs.ForestChanges.Change.{Change, IsForest, Fits, applied, inverse}
use Rattle.inline_value.specs.ForestChanges.Named.{Each, listed, named, named_in}
use Rattle.inline_value.proofs.ForestChanges.ChangeLists.{each_join, each_first, each_rest, each_of}
use Rattle.inline_value.proofs.ForestChanges.Contents.{stands}
use Rattle.inline_value.proofs.ForestChanges.Splices.{part_chars}
use Rattle.inline_value.proofs.ForestChanges.Twice.{IsForest-applied, IsForest-unlink, back_turns, count_of-applied, given_parent}
use Rattle.edit_model.specs.History.{Entry, document_of, at_view, undone_state, undone_state_by, undone_history, undone_history_by, redone_state, redone_state_by, redone_history, redone_history_by}
use Rattle.inline_value.specs.EditDoc.Kept.{LeadAllBack, LeadAllForth, HoldsOnlyNeeded}
use Rattle.edit_engine.specs.Editing.{Editing, EditorValue, document, undone, redone, going_past}
use Rattle.edit_engine.specs.KeptLabels.{IsNeededIn, IsKept, HasNo, NamesNo, IsGone, StayGone}
use Rattle.edit_engine.specs.Labels.{documents_in}

-- ---- the labels that changes name are those of nodes

abbrev Has : Forest Content → ℕ → Type 0
Has f m = 0 < count_of f m

child_there : (f : Forest Content) (n : ℕ) → IsForest f → IsSome (parent_of f n) → Has f n
child_there f n ok some = (parent_count f n (unwrap_or (parent_of f n) 0) ok.distinct (given_parent f n some)).0

before_there : (f : Forest Content) (p : ℕ) (b : Option ℕ) → IsForest f → IfSome b (λ m. parent_of f m ≡ Some p) → Each (Has f) (listed b)
before_there f p None ok h = tt
before_there f p (Some m) ok h = ((parent_count f m p ok.distinct h).0, tt)

named_there : (x : Change) (f : Forest Content) → Fits x f → Each (Has f) (named x)
named_there (change.Remove n) f h = (child_there f n h.forest h.here, tt)
named_there (change.Insert n p b) f h = (h.here.place.node, (h.here.place.parent, before_there f p b h.forest h.here.place.before))
named_there (change.Move n p b) f h =
    let g = IsForest-unlink f (unwrap_or (parent_of f n) 0) n h.forest (given_parent f n h.here.0) in
    let same : (m : ℕ) → Has (unlink f n) m → Has f m = λ m has. omega (arith, has, total-unlink (λ k _. cond (eqb k m) 1 0) f n) in (
      child_there f n h.forest h.here.0,
      (same p h.here.1.place.parent, each_of (Has (unlink f n)) (Has f) (listed b) same (before_there (unlink f n) p b g h.here.1.place.before)),
    )
named_there (change.SetText n words) f h = (stands f n has_chars h.here.0, tt)
named_there (change.Splice n at rest taken put) f h = (stands f n has_chars (part_chars f n at rest taken put h.here), tt)
named_there (change.SetAttributes n list) f h = (stands f n is_element h.here.0, tt)

all_there : (xs : List Change) (f : Forest Content) → FitsForth applied Fits xs f → Each (Has f) (named_in xs)
unfolding FitsForth
all_there [] f fits = tt
all_there (x ∷ xs) f fits =
    each_join (Has f) (named x) (named_in xs) (named_there x f fits.0)
    (each_of (Has (applied x f)) (Has f) (named_in xs) (λ m has. omega (arith, has, count_of-applied x f fits.0 m)) (all_there xs (applied x f) fits.1))

-- ---- changes keep the labels

-- the forest is one, with the same labels
record IsLike (f g : Forest Content) : Type 0 where
  forest : IsForest g
  labels : (l : ℕ) → count_of g l ≡ count_of f l

like-back : (xs : List Change) (f : Forest Content) → IsForest f → FitsBack applied Fits xs f → IsLike f (back applied xs f)
unfolding back FitsBack
like-back [] f is fits = record { forest = is; labels = λ l. refl }
like-back (x ∷ xs) f is fits =
    let inner = like-back xs f is fits.0 in
    record { forest = IsForest-applied x (back applied xs f) fits.1; labels = λ l. count_of-applied x (back applied xs f) fits.1 l ∙ inner.labels l }

like-forth : (xs : List Change) (f : Forest Content) → IsForest f → FitsForth applied Fits xs f → IsLike f (forth applied xs f)
unfolding forth FitsForth
like-forth [] f is fits = record { forest = is; labels = λ l. refl }
like-forth (x ∷ xs) f is fits =
    let inner = like-forth xs (applied x f) (IsForest-applied x f fits.0) fits.1 in
    record { forest = inner.forest; labels = λ l. inner.labels l ∙ count_of-applied x f fits.0 l }

-- ---- a label that no node has

has_or : (f : Forest Content) (l : ℕ) → (count_of f l ≡ 0) ⊎ Has f l
has_or f l = by_count (count_of f l) refl
  where
    by_count : (k : ℕ) → count_of f l ≡ k → (count_of f l ≡ 0) ⊎ Has f l
    by_count zero e = inl e
    by_count (suc k) e = inr (omega (arith, e))

module _ (l : ℕ) where
  Unnamed : List ℕ → Type 0
  Unnamed ls = Each (λ m. m ≢ l) ls

  unnamed : (f : Forest Content) (ls : List ℕ) → count_of f l ≡ 0 → Each (Has f) ls → Unnamed ls
  unfolding Unnamed
  unnamed f ls none has = each_of (Has f) (λ m. m ≢ l) ls (λ m here same. (let here' : Has f l = subst (Has f) same here in omega (arith, here', none))) has

  no_document : (f : Forest Content) → count_of f l ≡ 0 → HasNo l (document_of f)
  no_document f none = omega (arith, none, total-without (λ m _. cond (eqb m l) 1 0) f 0)

  gone_back : (f : Forest Content) (xss : List (List Change)) (es : List Entry) → IsForest f → count_of f l ≡ 0 → LeadAllBack f xss es → Each (HasNo l) (documents_in es) × Each (NamesNo l) es
  unfolding Unnamed
  gone_back f [] [] is none h = (tt, tt)
  gone_back f [] (e ∷ es) is none h = absurd h
  gone_back f (x ∷ xs) [] is none h = absurd h
  gone_back f (x ∷ xs) (e ∷ es) is none h =
      let g = back applied x f in
      let like = like-back x f is h.0.fits in
      let none' : count_of g l ≡ 0 = like.labels l ∙ none in
      let rest = gone_back g xs es like.forest none' h.1 in
      let own = inverses_back applied inverse x f in
      let names = unnamed g (named_in own) none' (all_there own g (back_turns x f h.0.fits).fit) in (
        (subst (HasNo l) (sym h.0.before) (no_document g none'), (subst (HasNo l) (sym h.0.after) (no_document f none), rest.0)),
        (subst (λ (ys : List Change). Each (λ m. m ≢ l) (named_in ys)) h.0.own names, rest.1),
      )

  gone_forth : (f : Forest Content) (xss : List (List Change)) (es : List Entry) → IsForest f → count_of f l ≡ 0 → LeadAllForth f xss es → Each (HasNo l) (documents_in es) × Each (NamesNo l) es
  unfolding Unnamed
  gone_forth f [] [] is none h = (tt, tt)
  gone_forth f [] (e ∷ es) is none h = absurd h
  gone_forth f (x ∷ xs) [] is none h = absurd h
  gone_forth f (x ∷ xs) (e ∷ es) is none h =
      let g = forth applied x f in
      let like = like-forth x f is h.0.fits in
      let none' : count_of g l ≡ 0 = like.labels l ∙ none in
      let rest = gone_forth g xs es like.forest none' h.1 in
      let names = unnamed f (named_in x) none (all_there x f h.0.fits) in (
        (subst (HasNo l) (sym h.0.before) (no_document f none), (subst (HasNo l) (sym h.0.after) (no_document g none'), rest.0)),
        (subst (λ (ys : List Change). Each (λ m. m ≢ l) (named_in ys)) h.0.own names, rest.1),
      )

-- ---- undo and redo lead to no other documents

module _ (l : ℕ) (e : Editing) (gone : IsGone l e) where
  abbrev undo : List Entry
  undo = e.history.undo

  abbrev redo : List Entry
  redo = e.history.redo

  none_undone : Each (HasNo l) (documents_in undo)
  none_undone = each_first (HasNo l) (documents_in undo) (documents_in redo) gone.documents.1

  none_redone : Each (HasNo l) (documents_in redo)
  none_redone = each_rest (HasNo l) (documents_in undo) (documents_in redo) gone.documents.1

  gone_undone : IsGone l (undone e)
  unfolding undone_state undone_history at_view
  gone_undone = by_entries undo refl
    where
      by_entries : (es : List Entry) → undo ≡ es → IsGone l (record { state = undone_state_by es e.state; history = undone_history_by es e.history; going = going_past es e.going })
      by_entries [] is = record { documents = gone.documents; undo = gone.undo; redo = gone.redo }
      by_entries (u ∷ us) is =
          let own : Each (HasNo l) (documents_in (u ∷ us)) = subst (λ (es : List Entry). Each (HasNo l) (documents_in es)) is none_undone in
          let names : Each (NamesNo l) (u ∷ us) = subst (Each (NamesNo l)) is gone.undo in
          record {
            documents = (own.0, each_join (HasNo l) (documents_in us) (documents_in (u ∷ redo)) own.1.1 (own.0, (own.1.0, none_redone)));
            undo = names.1;
            redo = (names.0, gone.redo);
          }

  gone_redone : IsGone l (redone e)
  unfolding redone_state redone_history at_view
  gone_redone = by_entries redo refl
    where
      by_entries : (es : List Entry) → redo ≡ es → IsGone l (record { state = redone_state_by es e.state; history = redone_history_by es e.history; going = going_past es e.going })
      by_entries [] is = record { documents = gone.documents; undo = gone.undo; redo = gone.redo }
      by_entries (u ∷ us) is =
          let own : Each (HasNo l) (documents_in (u ∷ us)) = subst (λ (es : List Entry). Each (HasNo l) (documents_in es)) is none_redone in
          let names : Each (NamesNo l) (u ∷ us) = subst (Each (NamesNo l)) is gone.redo in
          record {
            documents = (own.1.0, each_join (HasNo l) (documents_in (u ∷ undo)) (documents_in us) (own.0, (own.1.0, none_undone)) own.1.1);
            undo = (names.0, gone.undo);
            redo = names.1;
          }

pub stay_gone : StayGone
stay_gone l e gone = (gone_undone l e gone, gone_redone l e gone)

-- ---- the labels of an editor

inside : (f : Forest Content) (undone redone : List (List Change)) (l : ℕ) → IsNeededIn f undone redone l → Has f l
inside f undone redone l (inl within) = omega (arith, within, total-without (λ m _. cond (eqb m l) 1 0) f 0)
inside f undone redone l (inr (r, m, tree, names)) = (let within = tree.has in omega (arith, within, total-without (λ k _. cond (eqb k l) 1 0) f r))

-- what a search tells in the nodes of an editor, with the hidden trees among them
module _ (v : EditorValue) (a : ArenaState) (l : ℕ) (o : Option NodeRef) (same : a.held ≡ v.held) (slotted : IsSlotted a) (absent : (o ≡ None) ↔ (count_of a.trees l ≡ 0)) where
  abbrev At : List (Option ℕ) → Type 0
  At held = slice_index_or held (slot_of held l) None ≡ Some l

  found_there : is_some o ≡ true → Has a.trees l
  found_there found = elim (has_or a.trees l) [
    | inl none ↦ absurd (let t : o ≡ None = absent.1 none in let found' = rw t at found in cc)
    | inr has ↦ has
  ]

  there_found : (p : Option NodeRef) → o ≡ p → Has a.trees l → is_some p ≡ true
  there_found None e has = absurd (let none = absent.0 e in omega (arith, none, has))
  there_found (Some r) e has = refl

  at_found : At v.held → is_some o ≡ true
  at_found at = there_found o refl (slotted.here (slot_of v.held l) l (subst (λ held. slice_index_or held (slot_of v.held l) None ≡ Some l) (sym same) at))

  found_at : is_some o ≡ true → At v.held
  found_at found = subst At same (slotted.kept l (found_there found))

  kept_at : HoldsOnlyNeeded (document v) → At v.held → IsKept (document v) l
  kept_at (f, undone, redone, needed) at = (f, undone, redone, needed, needed.needed l (needed.held (slot_of v.held l) l at))

  pub found_is_kept : HoldsOnlyNeeded (document v) → is_some o ≡ true → IsKept (document v) l
  found_is_kept holds found = kept_at holds (found_at found)

  pub kept_is_found : IsKept (document v) l → is_some o ≡ true
  kept_is_found (f, undone, redone, needed, needs) = at_found (needed.slotted l (inside f undone redone l needs))

  pub absent_is_gone : HoldsOnlyNeeded (document v) → is_some o ≡ false → IsGone l v.editing
  absent_is_gone (f, undone, redone, needed) off =
      let h = v.editing.history in
      let none : count_of f l ≡ 0 = elim (has_or f l) [ inl e ↦ e | inr has ↦ absurd (let found = at_found (needed.slotted l has) in cc) ] in
      let before = gone_back l f undone h.undo needed.forest none needed.undo in
      let after = gone_forth l f redone h.redo needed.forest none needed.redo in
      record {
        documents = (
          subst (HasNo l) needed.document (no_document l f none),
          each_join (HasNo l) (documents_in h.undo) (documents_in h.redo) before.0 after.0,
        );
        undo = before.1;
        redo = after.1;
      }

  pub found_below : IsValid a → is_some o ≡ true → l < a.next
  found_below valid found = valid.below l (found_there found)
