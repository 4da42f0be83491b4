-- The lines of entries that lead from one document to another: replayed on the first, they give the last.
use Rattle.std.proofs.Common.{◌≡◌, ℕ, zero, suc, ◌+◌, ◌<◌, ◌≤◌, Bool, true, false, cond, map, List, [], ◌∷◌, ◌++◌, Option, Some, None, Ok, refl, sym, ap, subst, ◌∙◌, inl, inr, arith, eqb, nat_lt, append_assoc, max, reverse}
use Rattle.std.specs.List.{flat_map}
use Rattle.std.proofs.lemmas.List.{reverse-append}
use Rattle.std.specs.Prelude.{◌&&◌}
use Rattle.std.specs.Option.{option_map}
use Rattle.std.proofs.lemmas.Bool.Decides.{eqb_tells, nat_tests}
use Rattle.edit_model.specs.DomModel.declared.Content.{Content}
use Rattle.edit_model.specs.DomModel.Forest.{Forest, Seen, RisesFrom, tops, times, either, count_of, content_of, tree_of, with_leaf}
use Rattle.edit_model.specs.DomModel.Forest.Forest.{Nil, Tree}
use Rattle.edit_model.specs.DomModel.Pruned.{pruned}
use Rattle.edit_model.proofs.DomModel.Kept.{content_of-with_leaf_new, content_of-with_leaf_other}
use Rattle.edit_model.proofs.DomModel.Pruning.{tree_of-pruned}
use Rattle.edit_model.proofs.DomModel.Stands.{times-tops, seek_absent}
use Rattle.edit_model.proofs.DomModel.Walks.{document_first}
use Rattle.inline_value.specs.UndoLog.Turning.{forth, FitsForth}
use Rattle.inline_value.specs.ForestChanges.Change.{Change, Remove, Insert, Move, SetText, Splice, SetAttributes, IsForest, Fits, applied, whole, wholes}
use Rattle.inline_value.specs.ForestChanges.Down.{Prunes}
use Rattle.inline_value.specs.ForestChanges.Leaves.{IsBelow, IsMade}
use Rattle.inline_value.specs.ForestChanges.Named.{Each}
use Rattle.inline_value.proofs.ForestChanges.BesideLeaf.{fresh}
use Rattle.inline_value.proofs.ForestChanges.ChangeLists.{each_join, forth_down, forth_fits_up}
use Rattle.inline_value.proofs.ForestChanges.DownChange.{IsForest-pruned, prunes_roots}
use Rattle.inline_value.proofs.ForestChanges.ManyLeaves.{has_made, pruned-with_leaf, Prunes-with_leaf}
use Rattle.inline_value.proofs.ForestChanges.Places.{rising_top}
use Rattle.inline_value.proofs.ForestChanges.Wholes.{fits_wholes, forth_wholes}
use Rattle.edit_model.specs.History.{Entry, History, document_of}
use Rattle.edit_model.proofs.Resting.{forest-document}
use Rattle.inline_value.proofs.EditDoc.Downs.{forth_forest, forth_labels}
use Rattle.inline_value.proofs.EditDoc.HiddenTrees.{and_true, both_true, lt_true, true_lt, top_loose, model_forest}
use Rattle.inline_value.proofs.EditDoc.Onwards.{past_weaker, leads_lower, lead_low, lead_longer}
use Rattle.step_text.specs.declared.line.StepLine.{StepLine}
use Rattle.step_text.specs.declared.line.StepLine.TheVariants as steps
use Rattle.step_text.specs.Applying.{Labelled, replayed_from, replayed}
use Rattle.step_text.proofs.Replays.{entry_led, one_led}
use Rattle.inline_value.specs.EditDoc.Logged.{logged_edit, logged_entry, made_node, content_made, content_in}
use Rattle.edit_engine.specs.Editing.{Editing}
use Rattle.edit_engine.specs.Logs.{made_steps, edit_step, entry_steps, log_steps}
use Rattle.inline_value.specs.EditDoc.Onward.{with_made, RiseFrom, next_past, at_begin, LeadsOnward, LeadOnward, LeadFrom}
use Rattle.edit_engine.specs.Replaying.{StayShallow, IsPlainEntry, page_before, LogReplays}
use Rattle.edit_engine.proofs.ReplayedSteps.{AreContents, own_contents, lab, line_with, said_wholes, shallow_wholes, edits_replayed, made_lines, makes_replayed}

-- ---- the loose trees of a forest

none_lt : (a b : ℕ) → a ≡ 0 → (nat_lt 0 b && nat_lt 0 a) ≡ false
none_lt a b h = grind (arith, nat_tests)

abbrev loose_root : Forest Content → ℕ → Bool
loose_root g l = nat_lt 0 l && nat_lt 0 (times (tops g) l)

all_gone : (k : ℕ → Bool) (f : Forest Content) → ((m : ℕ) → 0 < times (tops f) m → k m ≡ true) → pruned k f ≡ Nil
all_gone k Nil h = refl
all_gone k (Tree m c ks rest) h =
    let t : k m ≡ true = h m (own m (times (tops rest) m)) in
    rw t (all_gone k rest (λ j top. h j (omega (arith, top))))
  where
    own : (m n : ℕ) → 0 < cond (eqb m m) 1 0 + n
    own m n = grind (arith, nat_tests)

-- without them the document is left
document_left : (g : Forest Content) → IsForest g → pruned (loose_root g) g ≡ tree_of g 0
document_left g is =
    let d = document_first g is.distinct is.rising is.document is.root in
    subst (λ (w : Forest Content). RisesFrom 0 w → pruned (loose_root w) w ≡ tree_of w 0) (sym d.3) (at_tree d.0 d.1 d.2) is.rising
  where
    at_tree : (c : Content) (ks rest : Forest Content) → RisesFrom 0 (Tree 0 c ks rest) → pruned (loose_root (Tree 0 c ks rest)) (Tree 0 c ks rest) ≡ tree_of (Tree 0 c ks rest) 0
    at_tree c ks rest rises = ap (Tree 0 c ks) (all_gone (loose_root (Tree 0 c ks rest)) rest (λ m top. (
        let from = rising_top rest 1 m rises.1 top in
        both_true (nat_lt 0 m) (nat_lt 0 (times (tops (Tree 0 c ks rest)) m)) (true_lt 0 m (omega (arith, from))) (true_lt 0 (times (tops (Tree 0 c ks rest)) m) (omega (arith, top))))))

loose_prunes : (g : Forest Content) → IsForest g → Prunes (loose_root g) g
loose_prunes g is = prunes_roots (loose_root g) g is refl (λ l t. (
    let a = and_true (nat_lt 0 l) (nat_lt 0 (times (tops g) l)) t in
    top_loose g l is.distinct (lt_true 0 (times (tops g) l) a.1)))

-- a label that isn't in a forest is none of a root
no_root : (g : Forest Content) (next : ℕ) → IsBelow g next → (l : ℕ) → next ≤ l → loose_root g l ≡ false
no_root g next low l from = by_count (times (tops g) l) refl
  where
    by_count : (n : ℕ) → times (tops g) l ≡ n → loose_root g l ≡ false
    by_count zero e = none_lt (times (tops g) l) l e
    by_count (suc n) e = absurd (let lt = low.below l (omega (arith, e, times-tops g l)) in omega (arith, lt, from))

same_document : (k : ℕ → Bool) (f : Forest Content) → k 0 ≡ false → IsForest f → document_of (pruned k f) ≡ document_of f
same_document k f keeps is = tree_of-pruned k f 0 is.distinct (IsForest-pruned k f keeps is).document

record IsPage (d : Forest Content) (next : ℕ) : Type 0 where
  forest : IsForest d
  below : IsBelow d next

-- the document alone
document_page : (g : Forest Content) (next : ℕ) → IsForest g → IsBelow g next → IsPage (document_of g) next
document_page g next is low =
    let m = forest-document g next (model_forest g is next low.below) in
    record { forest = record { distinct = m.distinct; rising = m.rising; document = m.document; root = m.root; nodes = m.nodes }; below = record { below = m.below } }

-- ---- nodes that are made

record OneMade (l : ℕ) (c : Content) (g : Forest Content) : Type 0 where
  own : IsBelow g l
  forest : IsForest (with_leaf g l c)
  below : IsBelow (with_leaf g l c) (l + 1)

one_made : (l : ℕ) (c : Content) (g : Forest Content) (next : ℕ) → IsForest g → IsBelow g next → next ≤ l → IsMade c → OneMade l c g
one_made l c g next is low from made =
    let own : IsBelow g l = record { below = λ m k. (let b = low.below m k in omega (arith, b, from)) } in
    let h = has_made l (c ∷ []) g is own (made, tt) in
    record { own = own; forest = h.forest; below = record { below = λ m k. (let b = h.below.below m k in omega (arith, b)) } }

record Begins (k : ℕ → Bool) (ns : List (ℕ × Content)) (g : Forest Content) (next : ℕ) : Type 0 where
  forest : IsForest (with_made g ns)
  below : IsBelow (with_made g ns) (next_past next ns)
  prunes : Prunes k (with_made g ns)
  same : pruned k (with_made g ns) ≡ with_made (pruned k g) ns

begins : (k : ℕ → Bool) (ns : List (ℕ × Content)) (g : Forest Content) (next : ℕ) → ((l : ℕ) → next ≤ l → k l ≡ false) → IsForest g → IsBelow g next → RiseFrom next ns → Each (λ (n : ℕ × Content). IsMade n.1) ns → Prunes k g → Begins k ns g next
begins k [] g next high is low rise made prunes = record { forest = is; below = low; prunes = prunes; same = refl }
begins k (n ∷ ns) g next high is low rise made prunes =
    let o = one_made n.0 n.1 g next is low rise.0 made.0 in
    let out = high n.0 rise.0 in
    let first = rise.0 in
    let r = begins k ns (with_leaf g n.0 n.1) (n.0 + 1) (λ l h. high l (omega (arith, first, h))) o.forest o.below rise.1 made.1 (Prunes-with_leaf k n.0 n.1 out g o.own prunes) in
    record { forest = r.forest; below = r.below; prunes = r.prunes; same = r.same ∙ ap (λ w. with_made w ns) (pruned-with_leaf k n.0 n.1 out g) }

either_none : (o : Option Content) → either o None ≡ o
either_none None = refl
either_none (Some c) = refl

-- the contents of a forest and of the nodes made beside it
content_with : (ns : List (ℕ × Content)) (d : Forest Content) (next : ℕ) → IsForest d → IsBelow d next → RiseFrom next ns → Each (λ (n : ℕ × Content). IsMade n.1) ns → (l : ℕ) → content_of (with_made d ns) l ≡ either (content_of d l) (content_made ns l)
content_with [] d next is low rise made l = sym (either_none (content_of d l))
content_with (n ∷ ns) d next is low rise made l =
    let o = one_made n.0 n.1 d next is low rise.0 made.0 in
    let none = fresh n.0 n.1 d o.own in
    let ih = content_with ns (with_leaf d n.0 n.1) (n.0 + 1) o.forest o.below rise.1 made.1 l in
    elim (eqb_tells n.0 l) [
      | inl (t, same) ↦ (
          let new : content_of (with_leaf d n.0 n.1) l ≡ Some n.1 = subst (λ j. content_of (with_leaf d n.0 n.1) j ≡ Some n.1) same (content_of-with_leaf_new d n.0 n.1 none) in
          let absent : content_of d l ≡ None = ap (option_map (λ (s : Seen Content). s.content)) (seek_absent None d l (subst (λ j. count_of d j ≡ 0) same none)) in
          rw t (ih ∙ (ap (λ o. either o (content_made ns l)) new ∙ sym (ap (λ o. either o (Some n.1)) absent))))
      | inr (t, off) ↦ rw t (ih ∙ ap (λ o. either o (content_made ns l)) (content_of-with_leaf_other d n.0 n.1 l none off))
    ]

-- ---- the lines of entries

-- the changes of an entry, each with the whole contents afterwards
abbrev pub edits_of : Entry → List Change
edits_of e = wholes e.edits (at_begin e)

abbrev pub entry_lines : Entry → List StepLine
entry_lines e = steps.Entry ∷ (made_lines e.made ++ map (line_with (content_in e)) (edits_of e))

abbrev pub lines_of : List Entry → List StepLine
lines_of [] = []
lines_of (e ∷ es) = entry_lines e ++ lines_of es

-- none of the lines is refused, and they give this document
pub record Replayed (lines : List StepLine) (g : Forest Content) (next cap : ℕ) (last : Forest Content) : Type 0 where
  pub result : Labelled
  pub ok : (m : ℕ) → replayed_from m lines (lab g next cap) ≡ Ok result
  pub document : document_of result.trees ≡ last

entry_line : (m : ℕ) (xs ys rest : List StepLine) (f : Forest Content) (next cap : ℕ) (r : Labelled) → replayed_from (m + 1) (xs ++ (ys ++ rest)) (lab f next cap) ≡ Ok r → replayed_from m (steps.Entry ∷ ((xs ++ ys) ++ rest)) (lab f next cap) ≡ Ok r
entry_line m xs ys rest f next cap r h =
    one_led m steps.Entry ((xs ++ ys) ++ rest) (lab f next cap) (lab f next cap) (entry_led (lab f next cap))
    ∙ (ap (λ (w : List StepLine). replayed_from (m + 1) w (lab f next cap)) (append_assoc xs ys rest) ∙ h)

-- what one entry comes to
record AfterEntry (e : Entry) (g : Forest Content) (next cap : ℕ) : Type 0 where
  trees : Forest Content
  forest : IsForest trees
  below : IsBelow trees (next_past next e.made)
  document : document_of trees ≡ e.after.document
  go : (rest : List StepLine) (r : Labelled) → ((m : ℕ) → replayed_from m rest (lab trees (next_past next e.made) cap) ≡ Ok r) → (m : ℕ) → replayed_from m (entry_lines e ++ rest) (lab g next cap) ≡ Ok r

record Starts (xs : List Change) (content : ℕ → Option Content) (f : Forest Content) : Type 0 where
  fits : FitsForth applied Fits xs f
  shallow : StayShallow xs f
  own : AreContents content f

entry_replayed : (e : Entry) (g : Forest Content) (next cap : ℕ) → IsForest g → IsBelow g next → LeadsOnward next (document_of g) e → next_past next e.made ≤ cap → IsPlainEntry e → AfterEntry e g next cap
entry_replayed e g next cap is low now room plain =
    let k = loose_root g in
    let b = begins k e.made g next (no_root g next low) is low now.rise now.made (loose_prunes g is) in
    let f = with_made g e.made in
    let xs = edits_of e in
    let begin : pruned k f ≡ at_begin e = b.same ∙ ap (λ w. with_made w e.made) (document_left g is ∙ sym now.before) in
    let page : IsPage e.before.document next = subst (λ (w : Forest Content). IsPage w next) (sym now.before) (document_page g next is low) in
    let own = own_contents (at_begin e) (content_in e) (content_with e.made e.before.document next page.forest page.below now.rise now.made) in
    let s : Starts xs (content_in e) (pruned k f) = subst (λ (w : Forest Content). Starts xs (content_in e) w) (sym begin) (record { fits = fits_wholes e.edits (at_begin e) now.fits; shallow = shallow_wholes e.edits (at_begin e) plain.shallow; own = own }) in
    let all = forth_fits_up k xs f b.prunes b.forest s.fits in
    let down = forth_down k xs f b.prunes all.0 all.1 in
    let past = next_past next e.made in
    let forest = forth_forest xs f all.0 b.forest in
    record {
      trees = forth applied xs f;
      forest = forest;
      below = record { below = λ m h. b.below.below m (omega (arith, h, forth_labels xs f m all.0)) };
      document = sym (same_document k (forth applied xs f) refl forest) ∙ (ap document_of (down.same ∙ (ap (forth applied xs) begin ∙ forth_wholes e.edits (at_begin e))) ∙ now.after);
      go = λ rest r onward m. entry_line m (made_lines e.made) (map (line_with (content_in e)) xs) rest g next cap r
          (makes_replayed e.made g next cap (map (line_with (content_in e)) xs ++ rest) r now.rise room plain.made
          (edits_replayed k (content_in e) xs f past cap rest r b.prunes b.forest s.fits (said_wholes (content_in e) e.edits (at_begin e) plain.texts) s.shallow s.own onward) (m + 1));
    }

pub entries_replayed : (es : List Entry) (g : Forest Content) (next from cap : ℕ) (d last : Forest Content) (end : ℕ) → IsForest g → IsBelow g next → next ≤ from → document_of g ≡ d → LeadOnward from d es last end → end ≤ cap → Each IsPlainEntry es → Replayed (lines_of es) g next cap last
unfolding replayed_from
entries_replayed [] g next from cap d last end is low le same lead room plain = record { result = lab g next cap; ok = λ m. refl; document = same ∙ lead.0 }
entries_replayed (e ∷ es) g next from cap d last end is low le same lead room plain =
    let more = lead_low es (next_past from e.made) e.after.document last end lead.1 in
    let past = past_weaker e.made next from le in
    let a = entry_replayed e g next cap is low (leads_lower e next from (document_of g) d le same lead.0) (omega (arith, more, past, room)) plain.0 in
    let r = entries_replayed es a.trees (next_past next e.made) (next_past from e.made) cap e.after.document last end a.forest a.below past a.document lead.1 room plain.1 in
    record { result = r.result; ok = a.go (lines_of es) r.result r.ok; document = r.document }

-- ---- the log of an editor

edits_are : (content : ℕ → Option Content) (xs : List Change) (f : Forest Content) → map edit_step (map (logged_edit content) (wholes xs f)) ≡ map (line_with content) (wholes xs f)
unfolding wholes
edits_are content [] f = refl
edits_are content (x ∷ xs) f = (let rest = edits_are content xs (applied x f) in λ i. edit_is x i ∷ rest i)
  where
    edit_is : (y : Change) → edit_step (logged_edit content (whole y f)) ≡ line_with content (whole y f)
    edit_is (Remove n) = refl
    edit_is (Insert n p b) = refl
    edit_is (Move n p b) = refl
    edit_is (SetText n words) = refl
    edit_is (Splice n at rest taken put) = refl
    edit_is (SetAttributes n list) = refl

makes_are : (ns : List (ℕ × Content)) → flat_map made_steps (map made_node ns) ≡ made_lines ns
makes_are [] = refl
makes_are (n ∷ ns) = ap (λ w. made_steps (made_node n) ++ w) (makes_are ns)

entries_are : (es : List Entry) → flat_map entry_steps (map logged_entry es) ≡ lines_of es
unfolding entry_steps
entries_are [] = refl
entries_are (e ∷ es) =
    let makes = makes_are e.made in
    let edits = edits_are (content_in e) e.edits (at_begin e) in
    let rest = entries_are es in
    λ i. steps.Entry ∷ ((makes i ++ edits i) ++ rest i)

log_is : (h : History) → log_steps h ≡ lines_of (reverse h.undo)
unfolding log_steps
log_is h = entries_are (reverse h.undo)

-- another next label, which no node has that was made
lead_raised : (es : List Entry) (next start : ℕ) (d last : Forest Content) (end : ℕ) → LeadOnward next d es last end → Each (λ (e : Entry). Each (λ (n : ℕ × Content). start ≤ n.0) e.made) es → start ≤ end → LeadOnward start d es last end
lead_raised [] next start d last end lead each le = (lead.0, le)
lead_raised (e ∷ es) next start d last end lead each le =
    let now = lead.0 in
    let r = raised e.made now.rise each.0 (λ l. lead_raised es (next_past next e.made) start e.after.document last end l each.1 le) lead.1 in
    (record { before = now.before; rise = r.0; made = now.made; fits = now.fits; after = now.after }, r.1)
  where
    raised : (ns : List (ℕ × Content)) → RiseFrom next ns → Each (λ (n : ℕ × Content). start ≤ n.0) ns → (LeadOnward (next_past next ns) e.after.document es last end → LeadOnward start e.after.document es last end)
        → LeadOnward (next_past next ns) e.after.document es last end → RiseFrom start ns × LeadOnward (next_past start ns) e.after.document es last end
    raised [] rise from ih l = (tt, ih l)
    raised (n ∷ ns) rise from ih l = ((from.0, rise.1), l)

page_is : (es : List Entry) (page : Forest Content) (next : ℕ) (last : Forest Content) (end : ℕ) → LeadOnward next page es last end → page ≡ page_before es last
page_is [] page next last end lead = lead.0
page_is (e ∷ es) page next last end lead = sym lead.0.before

each_reverse : (P : Entry → Type 0) (es : List Entry) → Each P es → Each P (reverse es)
each_reverse P [] h = tt
each_reverse P (e ∷ es) h = subst (λ (w : List Entry). Each P w) (sym (reverse-append (e ∷ []) es)) (each_join P (reverse es) (e ∷ []) (each_reverse P es h.1) (h.0, tt))

pub log_replays : (e : Editing) (page : Forest Content) (from : ℕ) → LeadFrom page from (reverse e.history.undo) e.state.trees e.state.next → LogReplays e
log_replays e page from lead next cap was room low plain =
    let es = reverse e.history.undo in
    let last = e.state.trees in
    let end = max next e.state.next in
    let is = page_is es page from last e.state.next lead.onward in
    let below : IsBelow page next = subst (λ (w : Forest Content). IsBelow w next) (sym is) was.below in
    let longer = lead_longer es from page last e.state.next end (right next e.state.next) lead.onward in
    let onward = lead_raised es from next page last end longer (each_reverse _ e.history.undo was.made) (left next e.state.next) in
    let r = entries_replayed es page next next cap page last end lead.forest below (omega arith) lead.alone onward (both next e.state.next cap room low) (each_reverse IsPlainEntry e.history.undo plain) in
    record {
      result = r.result;
      ok = subst (λ (w : Forest Content). replayed (log_steps e.history) (lab w next cap) ≡ Ok r.result) is (ap (λ w. replayed w (lab page next cap)) (log_is e.history) ∙ r.ok 1);
      document = r.document;
    }
  where
    left : (a b : ℕ) → a ≤ max a b
    left a b = grind arith

    right : (a b : ℕ) → b ≤ max a b
    right a b = grind arith

    both : (a b c : ℕ) → a ≤ c → b ≤ c → max a b ≤ c
    both a b c l m = grind arith
