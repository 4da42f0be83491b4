-- A label has one kind in all documents that undo and redo lead to: the nodes that are held have them all.
use Rattle.std.proofs.Common.{◌≡◌, ℕ, List, [], ◌∷◌, length, Option, Some, refl, sym, ap, subst, ◌∙◌, arith}
use Rattle.std.specs.Prelude.{unwrap_or}
use Rattle.std.specs.Option.{option_map}
use Rattle.edit_model.specs.DomModel.declared.Content.{Content}
use Rattle.edit_model.specs.DomModel.declared.Content.TheVariants.{Document, Element, Words, Remark}
use Rattle.edit_model.specs.DomModel.declared.attributes.Attribute.{Attribute}
use Rattle.edit_model.specs.DomModel.Change as change
use Rattle.edit_model.specs.DomModel.Contents.{with_chars, with_attributes}
use Rattle.edit_model.specs.DomModel.Forest.{Forest, parent_of, unlink}
use Rattle.edit_model.proofs.DomModel.Kept.{content_of-link, content_of-unlink}
use Rattle.inline_value.specs.UndoLog.Turning.{back, forth, FitsBack, FitsForth}
use Rattle.inline_value.specs.ForestChanges.Change.{Change, IsForest, Fits, applied, spliced_at}
use Rattle.inline_value.specs.ForestChanges.Named.{Each}
use Rattle.inline_value.proofs.ForestChanges.ChangeLists.{each_join, each_first, each_rest, each_of}
use Rattle.inline_value.proofs.ForestChanges.Twice.{IsForest-unlink, IsForest-applied, given_parent}
use Rattle.edit_model.specs.State.{State}
use Rattle.edit_model.specs.History.{Entry, document_of, undone_state, undone_state_by, undone_history, redone_state, redone_state_by, redone_history, at_view}
use Rattle.inline_value.specs.EditDoc.Whole.{Whole}
use Rattle.inline_value.specs.EditDoc.Kept.{LeadAllBack, LeadAllForth, HoldsOnlyNeeded}
use Rattle.edit_laws.specs.Kinds.{Kind, kind_in, kind_of, SameKinds}
use Rattle.edit_laws.proofs.StayingKinds.{kind_of-revised, kind-tree}
use Rattle.edit_engine.specs.Editing.{Editing, EditorValue, value_of, document, undone, redone}
use Rattle.edit_engine.specs.declared.following.Following.{Following}
use Rattle.edit_engine.specs.declared.going.Going.{Going}
use Rattle.edit_engine.proofs.Outcomes.{shown}
use Rattle.edit_engine.specs.Labels.{KeepsLabels, documents_in, AgreesWith, HaveOneKind}

-- ---- changes keep the kinds

kind-chars : (words : List ℕ) (c : Content) → kind_in (with_chars words c) ≡ kind_in c
kind-chars words Document = refl
kind-chars words (Element name attributes) = refl
kind-chars words (Words chars) = refl
kind-chars words (Remark chars) = refl

kind-attributes : (list : List Attribute) (c : Content) → kind_in (with_attributes list c) ≡ kind_in c
kind-attributes list Document = refl
kind-attributes list (Element name attributes) = refl
kind-attributes list (Words chars) = refl
kind-attributes list (Remark chars) = refl

kinds-applied : (x : Change) (f : Forest Content) → Fits x f → (l : ℕ) → kind_of (applied x f) l ≡ kind_of f l
unfolding applied
kinds-applied (change.Remove n) f h l = ap (option_map kind_in) (content_of-unlink f (unwrap_or (parent_of f n) 0) n l h.forest.distinct (given_parent f n h.here))
kinds-applied (change.Insert n p b) f h l = ap (option_map kind_in) (content_of-link f p b n l h.forest.distinct h.here.place)
kinds-applied (change.Move n p b) f h l =
    let q = unwrap_or (parent_of f n) 0 in
    let child = given_parent f n h.here.0 in
    let g = IsForest-unlink f q n h.forest child in
    ap (option_map kind_in) (content_of-link (unlink f n) p b n l g.distinct h.here.1.place ∙ content_of-unlink f q n l h.forest.distinct child)
kinds-applied (change.SetText n words) f h l = kind_of-revised f n l (with_chars words) (kind-chars words)
kinds-applied (change.Splice n at rest taken put) f h l = (let words = spliced_at f n at (length taken) put in kind_of-revised f n l (with_chars words) (kind-chars words))
kinds-applied (change.SetAttributes n list) f h l = kind_of-revised f n l (with_attributes list) (kind-attributes list)

-- the forest is one, and its labels have the same kinds
record IsAlike (f g : Forest Content) : Type 0 where
  forest : IsForest g
  kinds : (l : ℕ) → kind_of g l ≡ kind_of f l

alike-back : (xs : List Change) (f : Forest Content) → IsForest f → FitsBack applied Fits xs f → IsAlike f (back applied xs f)
unfolding back FitsBack
alike-back [] f is fits = record { forest = is; kinds = λ l. refl }
alike-back (x ∷ xs) f is fits =
    let inner = alike-back xs f is fits.0 in
    record { forest = IsForest-applied x (back applied xs f) fits.1; kinds = λ l. kinds-applied x (back applied xs f) fits.1 l ∙ inner.kinds l }

alike-forth : (xs : List Change) (f : Forest Content) → IsForest f → FitsForth applied Fits xs f → IsAlike f (forth applied xs f)
unfolding forth FitsForth
alike-forth [] f is fits = record { forest = is; kinds = λ l. refl }
alike-forth (x ∷ xs) f is fits =
    let inner = alike-forth xs (applied x f) (IsForest-applied x f fits.0) fits.1 in
    record { forest = inner.forest; kinds = λ l. inner.kinds l ∙ kinds-applied x f fits.0 l }

-- ---- the documents of the history

Agree : Forest Content → List (Forest Content) → Type 0
Agree f ds = Each (AgreesWith (kind_of f)) ds

agree_alike : (f g : Forest Content) (ds : List (Forest Content)) → IsAlike f g → Agree g ds → Agree f ds
unfolding Agree
agree_alike f g ds alike h = each_of (AgreesWith (kind_of g)) (AgreesWith (kind_of f)) ds (λ d own l k e. sym (alike.kinds l) ∙ own l k e) h

document_agrees : (f : Forest Content) → IsForest f → AgreesWith (kind_of f) (document_of f)
document_agrees f is l k e = kind-tree f 0 l k is.distinct e

alike_agrees : (f g : Forest Content) → IsAlike f g → AgreesWith (kind_of f) (document_of g)
alike_agrees f g alike l k e = sym (alike.kinds l) ∙ document_agrees g alike.forest l k e

back_agree : (f : Forest Content) (xss : List (List Change)) (es : List Entry) → IsForest f → LeadAllBack f xss es → Agree f (documents_in es)
unfolding Agree
back_agree f [] [] is h = tt
back_agree f [] (e ∷ es) is h = absurd h
back_agree f (x ∷ xs) [] is h = absurd h
back_agree f (x ∷ xs) (e ∷ es) is h =
    let g = back applied x f in
    let alike = alike-back x f is h.0.fits in (
      subst (AgreesWith (kind_of f)) (sym h.0.before) (alike_agrees f g alike),
      (
        subst (AgreesWith (kind_of f)) (sym h.0.after) (document_agrees f is),
        agree_alike f g (documents_in es) alike (back_agree g xs es alike.forest h.1),
      ),
    )

forth_agree : (f : Forest Content) (xss : List (List Change)) (es : List Entry) → IsForest f → LeadAllForth f xss es → Agree f (documents_in es)
unfolding Agree
forth_agree f [] [] is h = tt
forth_agree f [] (e ∷ es) is h = absurd h
forth_agree f (x ∷ xs) [] is h = absurd h
forth_agree f (x ∷ xs) (e ∷ es) is h =
    let g = forth applied x f in
    let alike = alike-forth x f is h.0.fits in (
      subst (AgreesWith (kind_of f)) (sym h.0.before) (document_agrees f is),
      (
        subst (AgreesWith (kind_of f)) (sym h.0.after) (alike_agrees f g alike),
        agree_alike f g (documents_in es) alike (forth_agree g xs es alike.forest h.1),
      ),
    )

pub have_one_kind : (v : EditorValue) → HoldsOnlyNeeded (document v) → HaveOneKind v.editing
unfolding Agree
have_one_kind v (f, us, rs, needed) = (
  kind_of f,
  (
    subst (AgreesWith (kind_of f)) needed.document (document_agrees f needed.forest),
    each_join (AgreesWith (kind_of f)) (documents_in v.editing.history.undo) (documents_in v.editing.history.redo) (back_agree f us v.editing.history.undo needed.forest needed.undo)
        (forth_agree f rs v.editing.history.redo needed.forest needed.redo),
  ),
)

-- ---- undo and redo lead to one of them

one_kind : (kinds : ℕ → Option Kind) (f g : Forest Content) → AgreesWith kinds f → AgreesWith kinds g → SameKinds f g
one_kind kinds f g of_f of_g l k m first last =
    let e : Some k ≡ Some m = sym (of_f l k first) ∙ of_g l m last in
    cc

labels_kept : (kinds : ℕ → Option Kind) (e new : Editing) → AgreesWith kinds e.state.trees → AgreesWith kinds new.state.trees → new.state.next ≡ e.state.next → KeepsLabels e new
labels_kept kinds e new of_old of_new next = record { kinds = one_kind kinds e.state.trees new.state.trees of_old of_new; next = omega (arith, next) }

pub labels_undone : (e : Editing) → HaveOneKind e → KeepsLabels e (undone e)
unfolding undone_state at_view
labels_undone e (kinds, (here, there)) =
    let k = by_entries e.history.undo (each_first (AgreesWith kinds) (documents_in e.history.undo) (documents_in e.history.redo) there) in
    labels_kept kinds e (undone e) here k.0 k.1
  where
    by_entries : (es : List Entry) → Each (AgreesWith kinds) (documents_in es) → AgreesWith kinds (undone_state_by es e.state).trees × ((undone_state_by es e.state).next ≡ e.state.next)
    by_entries [] h = (here, refl)
    by_entries (x ∷ xs) h = (h.0, refl)

pub labels_redone : (e : Editing) → HaveOneKind e → KeepsLabels e (redone e)
unfolding redone_state at_view
labels_redone e (kinds, (here, there)) =
    let k = by_entries e.history.redo (each_rest (AgreesWith kinds) (documents_in e.history.undo) (documents_in e.history.redo) there) in
    labels_kept kinds e (redone e) here k.0 k.1
  where
    by_entries : (es : List Entry) → Each (AgreesWith kinds) (documents_in es) → AgreesWith kinds (redone_state_by es e.state).trees × ((redone_state_by es e.state).next ≡ e.state.next)
    by_entries [] h = (here, refl)
    by_entries (x ∷ xs) h = (h.1.0, refl)

-- ---- told of an editor's document

keeps_at : (e x y : Editing) → x.state ≡ y.state → KeepsLabels e x → KeepsLabels e y
keeps_at e x y same k = subst (λ (s : State). KeepsLabels e (record { state = s; history = y.history; going = y.going })) same (record { kinds = k.kinds; next = k.next })

module _ (w new : Whole) (going after : Going) (following : Following) (v : EditorValue) (view : value_of w going following ≡ v) where
  pub labels_after_undo : new ≡ record w { state = undone_state w.history w.state; history = undone_history w.history } → HaveOneKind v.editing → KeepsLabels v.editing (shown new after)
  labels_after_undo is =
      let e = (value_of w going following).editing in
      subst (λ (x : EditorValue). HaveOneKind x.editing → KeepsLabels x.editing (shown new after)) view
      (λ one. keeps_at e (undone e) (shown new after) (sym (ap (λ (x : Whole). x.state) is)) (labels_undone e one))

  pub labels_after_redo : new ≡ record w { state = redone_state w.history w.state; history = redone_history w.history } → HaveOneKind v.editing → KeepsLabels v.editing (shown new after)
  labels_after_redo is =
      let e = (value_of w going following).editing in
      subst (λ (x : EditorValue). HaveOneKind x.editing → KeepsLabels x.editing (shown new after)) view
      (λ one. keeps_at e (redone e) (shown new after) (sym (ap (λ (x : Whole). x.state) is)) (labels_redone e one))
