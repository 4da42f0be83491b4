-- The entries that undo would take lead from one document to the next.
use Rattle.std.proofs.Common.{◌≡◌, ℕ, ◌<◌, ◌≤◌, Bool, false, cond, eqb, List, [], ◌∷◌, Option, reverse, refl, sym, ap, subst, ◌∙◌, arith}
use Rattle.std.proofs.lemmas.List.{reverse-append}
use Rattle.edit_model.specs.DomModel.declared.Content.{Content}
use Rattle.edit_model.specs.DomModel.Forest.{Forest, count_of}
use Rattle.edit_model.specs.DomModel.Pruned.{pruned}
use Rattle.edit_model.specs.DomModel.ArenaState.{IsValid as IsArena}
use Rattle.edit_model.proofs.DomModel.Pruning.{tree_of-pruned}
use Rattle.edit_model.proofs.DomModel.Totals.{total-without}
use Rattle.edit_model.proofs.DomModel.Walks.{document_first}
use Rattle.edit_model.specs.NodeArena.declared.NodeRef.{NodeRef}
use Rattle.step_edits.specs.UndoLog.Log.{noted}
use Rattle.step_edits.specs.UndoLog.Log.Open.{Closed}
use Rattle.step_edits.specs.UndoLog.Turning.{back, forth, inverses_back, FitsBack, FitsForth}
use Rattle.step_edits.specs.ForestChanges.Change.{IsForest, Fits, applied, inverse}
use Rattle.step_edits.specs.ForestChanges.Down.{IsLeft}
use Rattle.step_edits.specs.ForestChanges.Leaves.{IsBelow}
use Rattle.step_edits.specs.ForestChanges.Named.{Each, named_in}
use Rattle.step_edits.proofs.ForestChanges.ChangeLists.{each_of, back_down, forth_down}
use Rattle.step_edits.proofs.ForestChanges.DownChange.{IsForest-pruned}
use Rattle.step_edits.proofs.ForestChanges.Twice.{forest_of, back_turns}
use Rattle.step_edits.specs.EditSteps.declared.step.Step.{Step}
use Rattle.step_edits.specs.EditSteps.Step.{changes_of}
use Rattle.edit_model.specs.History.{Entry, used, document_of}
use Rattle.edit_model.proofs.Resting.{forest-document}
use Rattle.edit_doc.specs.declared.Doc.TheInside.{Inside}
use Rattle.edit_doc.specs.declared.command.EntrySnapshot.{EntrySnapshot}
use Rattle.edit_doc.specs.declared.command.Command.{Command}
use Rattle.edit_doc.specs.History.{edits_before, roots_from, forest_before, begun_forest, is_hidden, view_at, undo_entries, led}
use Rattle.edit_doc.specs.Onward.{next_past, LeadsOnward, LeadOnward, LeadFrom, HasLedOnward}
use Rattle.edit_doc.specs.Sound.{IsSnapshot, UndoSound, RedoSound, detached_of, next_first}
use Rattle.edit_doc.specs.Whole.{Whole}
use Rattle.edit_doc.specs.Live.{live}
use Rattle.edit_doc.proofs.Downs.{Bounded, back_forest, back_bounded}
use Rattle.edit_doc.proofs.HiddenTrees.{model_forest}
use Rattle.edit_doc.proofs.Inner.{seen, Ok}
use Rattle.edit_doc.proofs.MadeApart.{each_used, each_named, roots_rise, is_unnamed, document_old, made_nodes, begins, unnamed_zero, prunes_unnamed, names_detached}
use Rattle.edit_doc.proofs.MadeNodes.{listed_has}
use Rattle.edit_doc.proofs.Onwards.{past_low, lead_longer, lead_more}
use Rattle.edit_doc.proofs.Rests.{AtRest, rest_of, trees_are, none_noted}
use Rattle.edit_doc.proofs.Turnings.{prunes_after}

pub same_document : (k : ℕ → Bool) (f : Forest Content) → k 0 ≡ false → IsForest f → document_of (pruned k f) ≡ document_of f
same_document k f keeps is = tree_of-pruned k f 0 is.distinct (IsForest-pruned k f keeps is).document

-- the document of a forest, alone, is one
pub document_alone : (f : Forest Content) → IsForest f → document_of (document_of f) ≡ document_of f
document_alone f is =
    let d = document_first f is.distinct is.rising is.document is.root in
    subst (λ (w : Forest Content). document_of (document_of w) ≡ document_of w) (sym d.3) refl

document_forest : (f : Forest Content) → IsForest f → Bounded f → IsForest (document_of f)
document_forest f is b =
    let m = forest-document f b.next (model_forest f is b.next b.below) in
    record { distinct = m.distinct; rising = m.rising; document = m.document; root = m.root; nodes = m.nodes }

document_low : (f : Forest Content) (bound : ℕ) → IsBelow f bound → IsBelow (document_of f) bound
document_low f bound low = record { below = λ m h. low.below m (omega (arith, h, total-without (λ j _. cond (eqb j m) 1 0) f 0)) }

module _ (names : List (List ℕ)) where
  -- an entry as the history shows it
  abbrev shown : List Step → Forest Content → EntrySnapshot → Entry
  shown e f b = record {
    before = view_at names (forest_before e f) b.span.before;
    after = view_at names f b.span.after;
    edits = edits_before e f;
    made = used (edits_before e f) (roots_from b.span.first_label (forest_before e f));
  }

  record Leads (e : List Step) (f : Forest Content) (b : EntrySnapshot) (high : ℕ) : Type 0 where
    forest : IsForest (forest_before e f)
    old : IsBelow (document_of (forest_before e f)) b.span.first_label
    onward : LeadsOnward b.span.first_label (document_of (forest_before e f)) (shown e f b)
    past : next_past b.span.first_label (shown e f b).made ≤ high

  entry_leads : (e : List Step) (f : Forest Content) (b : EntrySnapshot) (detached : List NodeRef) (high start : ℕ) → IsForest f → FitsBack applied Fits (changes_of e) f
      → IsSnapshot names (forest_before e f) f e (inverses_back applied inverse (changes_of e) f) b detached high start → Leads e f b high
  entry_leads e f b detached high start is fits snapshot =
      let first = b.span.first_label in
      let ys = changes_of e in
      let xs = inverses_back applied inverse ys f in
      let g = back applied ys f in
      let isg = back_forest ys f fits is in
      let turn = back_turns ys f fits in
      let k : ℕ → Bool = is_hidden g first in
      let u : ℕ → Bool = is_unnamed (named_in xs) first in
      let down = back_down k ys f (prunes_after g f first is snapshot.hidden) fits snapshot.names_there in
      let detached_names : Each (IsLeft k g) (named_in xs) = each_of (IsLeft k f) (IsLeft k g) (named_in xs) (λ l w. omega (arith, w, down.stays l)) down.names in
      let on = forth_down k xs g down.prunes turn.fit detached_names in
      let some = snapshot.some_label in
      let made = forth_down u xs (pruned k g) (prunes_unnamed g first isg some snapshot.fresh xs) on.fits (names_detached g first isg some snapshot.fresh xs detached_names) in
      let begin = begins g first isg some snapshot.fresh xs in
      let reached : forth applied xs (pruned k g) ≡ pruned k f = sym on.same ∙ ap (pruned k) turn.state in
      let isk = IsForest-pruned k f refl is in
      record {
        forest = isg;
        old = document_old g first isg some snapshot.fresh;
        onward = record {
          before = refl;
          rise = roots_rise first xs g 0 first isg.rising (λ m h _. h);
          made = each_used _ xs (roots_from first g) (made_nodes g first isg some snapshot.fresh);
          fits = subst (λ (w : Forest Content). FitsForth applied Fits xs w) begin made.fits;
          after = ap (λ (w : Forest Content). document_of (forth applied xs w)) (sym begin)
              ∙ (ap document_of (sym made.same ∙ ap (pruned u) reached)
              ∙ (same_document u (pruned k f) (unnamed_zero g first isg some snapshot.fresh xs) isk ∙ same_document k f refl is));
        };
        past = past_low (used xs (roots_from first g)) first high snapshot.drawn (each_named (λ l. l < high) xs (roots_from first g) (λ l t. listed_has (λ m. m < high) (named_in xs) l snapshot.turns_old t));
      }

  -- ---- the whole history

  module _ (held : List (Option ℕ)) (c : Command) where
    abbrev Led : List Entry → Forest Content → ℕ → Type 0
    Led es last end = (page : Forest Content) × (next : ℕ) × LeadFrom page next (reverse es) last end

    one_more : (es : List Entry) (e : Entry) (mid : Forest Content) (end high : ℕ) → Led es mid end → LeadsOnward end mid e → next_past end e.made ≤ high → Led (e ∷ es) e.after.document high
    one_more es e mid end high led one low =
        let lead = led.2 in (
          led.0,
          led.1,
          record {
            forest = lead.forest;
            alone = lead.alone;
            below = lead.below;
            onward = subst (λ (w : List Entry). LeadOnward led.1 led.0 w e.after.document high) (sym (reverse-append (e ∷ []) es)) (lead_more (reverse es) led.1 led.0 mid end e high lead.onward one low);
          },
        )

    undo_leads : (r : Bool) (high : ℕ) (f : Forest Content) (es : List (List Step)) (bs : List EntrySnapshot) → UndoSound held names r c high f es bs → IsForest f → Bounded f → IsBelow (document_of f) high → Led (undo_entries names f es bs) (document_of f) high
    undo_leads r high f [] bs h is bounded low = (
      document_of f,
      high,
      record {
        forest = document_forest f is bounded;
        alone = document_alone f is;
        below = low;
        onward = (refl, omega arith);
      },
    )
    undo_leads r high f (e ∷ es) [] h is bounded low = absurd h
    undo_leads r high f (e ∷ es) (b ∷ bs) h is bounded low =
        let l = entry_leads e f b (detached_of r c b) high c.start is h.0.0 h.1.0 in
        one_more (undo_entries names (forest_before e f) es bs) (shown e f b) (document_of (forest_before e f)) b.span.first_label high
        (undo_leads false b.span.first_label (forest_before e f) es bs h.1.1 l.forest (back_bounded e f h.0.0 bounded) l.old) l.onward l.past

    -- the document has labels below those of the entries that redo would take
    record Old (f : Forest Content) (bs : List EntrySnapshot) : Type 0 where
      below : IsBelow (document_of f) (next_first c.start bs)
      known : next_first c.start bs ≤ c.start

    redo_old : (f : Forest Content) (es : List (List Step)) (bs : List EntrySnapshot) → RedoSound held names c f es bs → IsForest f → IsBelow f c.start → Old f bs
    redo_old f [] [] h is low = record { below = document_low f c.start low; known = omega arith }
    redo_old f [] (b ∷ bs) h is low = absurd h
    redo_old f (e ∷ es) [] h is low = absurd h
    redo_old f (e ∷ es) (b ∷ bs) h is low =
        let s = h.1.0 in
        let drawn = s.drawn in
        let known = s.known in
        record { below = document_old f b.span.first_label is s.some_label s.fresh; known = omega arith }

module _ (d : Inside) (law : IsArena d.tree.nodes.arena) (closed : d.history.log.open_entry ≡ Closed) (ok : Ok d) where
  abbrev f : Forest Content
  f = begun_forest d.history.log d.tree.nodes.arena.trees

  is : f ≡ d.tree.nodes.arena.trees
  is = none_noted d.history.log d.tree.nodes.arena.trees (ap noted closed)

  rests : AtRest (live d.tree) d.command d.history
  rests = rest_of (live d.tree) d.command d.history law closed ok

  pub has_led : (v : Whole) → seen d ≡ v → HasLedOnward v
  has_led v sees =
      let c = d.command in
      let start : c.start ≡ d.tree.nodes.arena.next = rests.idle.start in
      let forest : IsForest f = subst IsForest (sym is) (forest_of d.tree.nodes.arena law) in
      let low : IsBelow f c.start = record { below = λ l h. (let below = law.below l (subst (λ (t : Forest Content). 0 < count_of t l) is h) in omega (arith, below, start)) } in
      let old = redo_old d.tree.points.names d.tree.nodes.arena.held c f d.history.log.redo d.history.future ok.redo forest low in
      let led = undo_leads d.tree.points.names d.tree.nodes.arena.held c c.resumed (next_first c.start d.history.future) f d.history.log.undo d.history.past ok.undo forest (record { next = c.start; below = low.below }) old.below in
      let lead = led.2 in
      let known = old.known in
      let here = ap document_of is ∙ sym (trees_are (live d.tree) d.command d.history law closed start) in
      let es = undo_entries d.tree.points.names f d.history.log.undo d.history.past in
      subst (λ (w : Whole). HasLedOnward w) sees (
        led.0,
        led.1,
        record {
          forest = lead.forest;
          alone = lead.alone;
          below = lead.below;
          onward = subst (λ (w : Forest Content). LeadOnward led.1 led.0 (reverse es) w d.tree.nodes.arena.next) here
              (lead_longer (reverse es) led.1 led.0 (document_of f) (next_first c.start d.history.future) d.tree.nodes.arena.next (omega (arith, known, start)) lead.onward);
        },
      )
