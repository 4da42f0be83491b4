-- The edits of an entry, kept as they are seen from the forest before it on, are those that the entry has.
use Rattle.std.proofs.Common.{◌≡◌, ℕ, ◌<◌, Bool, true, List, [], ◌∷◌, ◌++◌, length, map, Option, unwrap_or, refl, sym, ap, subst, ◌∙◌, append_assoc, append-nil}
use Rattle.edit_model.specs.DomModel.declared.attributes.Attribute.{Attribute}
use Rattle.edit_model.specs.DomModel.declared.Content.{Content}
use Rattle.edit_model.specs.DomModel.declared.Content.TheVariants.{Document, Element, Words, Remark}
use Rattle.edit_model.specs.DomModel.Contents.{name_in, with_chars, with_attributes}
use Rattle.edit_model.specs.DomModel.Forest.{Forest, either, count_of, content_of, parent_of, unlink}
use Rattle.edit_model.specs.DomModel.Pruned.{pruned}
use Rattle.edit_model.specs.DomModel.ArenaState.{ArenaState as Arena, IsValid as IsArena}
use Rattle.edit_model.proofs.DomModel.Kept.{content_of-link, content_of-unlink}
use Rattle.edit_model.proofs.DomModel.Links.{IsDistinct-unlink}
use Rattle.step_edits.specs.UndoLog.Log.{noted, first_entry, FitsUndo}
use Rattle.step_edits.specs.UndoLog.Log.Open.{Closed}
use Rattle.step_edits.specs.UndoLog.Turning.{back, inverses_back, FitsBack, FitsForth}
use Rattle.step_edits.specs.UndoLog.Watching.{Seen, SeenMade}
use Rattle.step_edits.specs.ForestChanges.Change.{Change, Remove, Insert, Move, SetText, Splice, SetAttributes, IsForest, Fits, applied, inverse, whole, wholes, spliced_at}
use Rattle.step_edits.specs.ForestChanges.Named.{Each, named_in}
use Rattle.step_edits.proofs.ForestChanges.Twice.{given_parent, forest_of}
use Rattle.step_edits.proofs.ForestChanges.Wholes.{named_wholes, wholes_pruned}
use Rattle.step_edits.specs.EditSteps.declared.step.Step.{Step}
use Rattle.step_edits.specs.EditSteps.Step.{change_of, changes_of, step_applied, step_inverse, StepFits}
use Rattle.step_edits.proofs.EditSteps.StepLists.{go_back}
use Rattle.edit_model.specs.History.{used, document_of}
use Rattle.edit_model.proofs.Things.{name_of-revised}
use Rattle.edit_doc.specs.declared.Doc.TheInside.{Inside}
use Rattle.edit_doc.specs.declared.command.Command.{Command}
use Rattle.edit_doc.specs.declared.command.EntrySnapshot.{EntrySnapshot}
use Rattle.edit_doc.specs.declared.logged.LoggedEdit.{LoggedEdit}
use Rattle.edit_doc.specs.History.{roots_from, forest_before, begun_forest, is_hidden, undo_entries}
use Rattle.edit_doc.specs.Logged.{content_made, element_name, logged_edit, first_logged}
use Rattle.edit_doc.specs.Logging.{logged_at, logged_along, steps_logged, Recording, Records}
use Rattle.edit_doc.specs.Onward.{with_made}
use Rattle.edit_doc.specs.Sound.{AreFresh, UndoSound, detached_of, next_first}
use Rattle.edit_doc.specs.Whole.{Whole}
use Rattle.edit_doc.specs.Live.{live}
use Rattle.edit_doc.proofs.Downs.{Bounded, back_forest, back_bounded}
use Rattle.edit_doc.proofs.Inner.{seen, Ok}
use Rattle.edit_doc.proofs.LoggedNodes.{contents_seen, edits_same}
use Rattle.edit_doc.proofs.MadeApart.{is_unnamed}
use Rattle.edit_doc.proofs.Rests.{none_noted}
use Rattle.edit_doc.proofs.Telling.{Begins, begins_back}

-- ---- what a recorder has kept

all_kept : (xs : List Step) (a : Arena) (old new : Recording) → Seen step_applied Records xs a old new → new.complete ≡ true →
    (old.complete ≡ true) × (new.edits ≡ old.edits ++ logged_along (changes_of xs) a.trees)
unfolding Seen step_applied logged_along
all_kept [] a old new h complete = (ap (λ r. r.complete) (sym h) ∙ complete, ap (λ r. r.edits) h ∙ sym (append-nil old.edits))
all_kept (x ∷ xs) a old new h complete =
    let rest = all_kept xs (step_applied x a) h.0 new h.2 complete in
    let one = h.1 rest.0 in
    let more = logged_along (changes_of xs) (step_applied x a).trees in
    (one.0, rest.1 ∙ (ap (λ es. es ++ more) one.1 ∙ append_assoc old.edits (logged_at (change_of x) a.trees ∷ []) more))

fits_first : (es : List (List Step)) (a : Arena) → FitsUndo step_applied StepFits es a → FitsBack step_applied StepFits (first_entry es) a
unfolding FitsBack
fits_first [] a h = tt
fits_first (e ∷ es) a h = h

pub last_kept : (es : List (List Step)) (a : Arena) (old new : Recording) → old ≡ record { edits = []; complete = true } → FitsUndo step_applied StepFits es a
    → SeenMade step_applied step_inverse Records (first_entry es) a old new → new.complete ≡ true → new.edits ≡ steps_logged es a.trees
last_kept es a old new none h sees complete =
    let xs = first_entry es in
    let led = go_back xs a (fits_first es a h) in
    let kept = all_kept (inverses_back step_applied step_inverse xs a) (back step_applied xs a) old new sees complete in
    kept.1 ∙ (λ i. (none i).edits ++ logged_along (led.turns i) (led.state i).trees)

-- ---- no edit changes the name of an element

name-chars : (words : List ℕ) (c : Content) → name_in (with_chars words c) ≡ name_in c
name-chars words Document = refl
name-chars words (Element name list) = refl
name-chars words (Words chars) = refl
name-chars words (Remark chars) = refl

name-attributes : (attributes : List Attribute) (c : Content) → name_in (with_attributes attributes c) ≡ name_in c
name-attributes attributes Document = refl
name-attributes attributes (Element name list) = refl
name-attributes attributes (Words chars) = refl
name-attributes attributes (Remark chars) = refl

name_stays : (x : Change) (f : Forest Content) → Fits x f → (l : ℕ) → element_name (content_of (applied x f) l) ≡ element_name (content_of f l)
unfolding applied
name_stays (Remove n) f h l = ap element_name (content_of-unlink f (unwrap_or (parent_of f n) 0) n l h.forest.distinct (given_parent f n h.here))
name_stays (Insert n p b) f h l = ap element_name (content_of-link f p b n l h.forest.distinct h.here.place)
name_stays (Move n p b) f h l =
    let q = unwrap_or (parent_of f n) 0 in
    let child = given_parent f n h.here.0 in
    ap element_name (content_of-link (unlink f n) p b n l (IsDistinct-unlink f q n h.forest.distinct child) h.here.1.place ∙ content_of-unlink f q n l h.forest.distinct child)
name_stays (SetText n words) f h l = ap (λ o. unwrap_or o []) (name_of-revised f n l (with_chars words) (name-chars words))
name_stays (Splice n at rest taken put) f h l = (let words = spliced_at f n at (length taken) put in ap (λ o. unwrap_or o []) (name_of-revised f n l (with_chars words) (name-chars words)))
name_stays (SetAttributes n list) f h l = ap (λ o. unwrap_or o []) (name_of-revised f n l (with_attributes list) (name-attributes list))

-- so the contents before all of them tell the names
whole_same : (A B : ℕ → Option Content) (x : Change) (f : Forest Content) → ((l : ℕ) → element_name (A l) ≡ element_name (B l)) → logged_edit A (whole x f) ≡ logged_edit B (whole x f)
whole_same A B (Remove n) f same = refl
whole_same A B (Insert n p b) f same = refl
whole_same A B (Move n p b) f same = refl
whole_same A B (SetText n words) f same = refl
whole_same A B (Splice n at rest taken put) f same = refl
whole_same A B (SetAttributes n list) f same = ap (λ name. LoggedEdit.SetAttributes n name list) (same n)

along_wholes : (A : ℕ → Option Content) (xs : List Change) (f : Forest Content) → FitsForth applied Fits xs f → ((l : ℕ) → element_name (content_of f l) ≡ element_name (A l)) → logged_along xs f ≡ map (logged_edit A) (wholes xs f)
unfolding logged_along wholes FitsForth
along_wholes A [] f h same = refl
along_wholes A (x ∷ xs) f h same =
    let one = whole_same (content_of f) A x f same in
    let rest = along_wholes A xs (applied x f) h.1 (λ l. name_stays x f h.0 l ∙ same l) in
    λ i. one i ∷ rest i

-- ---- from the document before an entry on

logged_at_begin : (first : ℕ) (xs : List Change) (g : Forest Content) → IsForest g → Bounded g → AreFresh g first → Begins first xs g →
    let made = used xs (roots_from first g) in
    logged_along xs g ≡ map (logged_edit (λ l. either (content_of (document_of g) l) (content_made made l))) (wholes xs (with_made (document_of g) made))
logged_at_begin first xs g is bound fresh b =
    let made = used xs (roots_from first g) in
    let content : ℕ → Option Content = λ l. either (content_of (document_of g) l) (content_made made l) in
    let same : wholes xs (with_made (document_of g) made) ≡ wholes xs g = ap (wholes xs) (sym b.begin)
    ∙ (wholes_pruned (is_unnamed (named_in xs) first) xs (pruned (is_hidden g first) g) b.named b.fits_seen b.left_named ∙ wholes_pruned (is_hidden g first) xs g b.seen b.fits b.left) in
    let seen : Each (λ l. content l ≡ content_of g l) (named_in (wholes xs g)) = subst (Each (λ l. content l ≡ content_of g l)) (sym (named_wholes xs g)) (contents_seen g is bound.next first bound.below fresh xs b.left) in
    along_wholes (content_of g) xs g b.fits (λ l. refl)
    ∙ (sym (edits_same content (content_of g) (wholes xs g) seen) ∙ ap (map (logged_edit content)) (sym same))

module _ (held : List (Option ℕ)) (names : List (List ℕ)) (c : Command) where
  undo_logged : (r : Bool) (high : ℕ) (f : Forest Content) (es : List (List Step)) (bs : List EntrySnapshot) → UndoSound held names r c high f es bs → IsForest f → Bounded f → steps_logged es f ≡ first_logged (undo_entries names f es bs)
  unfolding inverses_back logged_along
  undo_logged r high f [] [] h is bound = refl
  undo_logged r high f [] (b ∷ bs) h is bound = absurd h
  undo_logged r high f (e ∷ es) [] h is bound = absurd h
  undo_logged r high f (e ∷ es) (b ∷ bs) h is bound =
      let ys = changes_of e in
      let begins = begins_back held names c e f b (detached_of r c b) high c.start is h.0.0 h.1.0 in
      logged_at_begin b.span.first_label (inverses_back applied inverse ys f) (forest_before e f) (back_forest ys f h.0.0 is) (back_bounded e f h.0.0 bound) h.1.0.fresh begins

module _ (d : Inside) (law : IsArena d.tree.nodes.arena) (closed : d.history.log.open_entry ≡ Closed) (ok : Ok d) where
  abbrev f : Forest Content
  f = begun_forest d.history.log d.tree.nodes.arena.trees

  is : f ≡ d.tree.nodes.arena.trees
  is = none_noted d.history.log d.tree.nodes.arena.trees (ap noted closed)

  pub last_logged : (v : Whole) → seen d ≡ v → steps_logged d.history.log.undo d.tree.nodes.arena.trees ≡ first_logged v.history.undo
  last_logged v sees =
      let forest : IsForest f = subst IsForest (sym is) (forest_of d.tree.nodes.arena law) in
      let bound : Bounded f = record { next = d.tree.nodes.arena.next; below = λ l h. law.below l (subst (λ (t : Forest Content). 0 < count_of t l) is h) } in
      ap (steps_logged d.history.log.undo) (sym is)
      ∙ (undo_logged d.tree.nodes.arena.held d.tree.points.names d.command d.command.resumed (next_first d.command.start d.history.future) f d.history.log.undo d.history.past ok.undo forest bound
      ∙ ap (λ (w : Whole). first_logged w.history.undo) sees)
