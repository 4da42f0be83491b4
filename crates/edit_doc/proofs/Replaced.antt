-- An edit that replaces characters of a text.
use Rattle.std.proofs.Common.{◌≡◌, ℕ, ◌+◌, ◌-◌, ◌<◌, ◌≤◌, ◌^◌, Bool, true, false, List, [], ◌∷◌, ◌++◌, length, take, drop, Some, unwrap_or, refl, sym, ap, subst, ◌∙◌, arith, inl, inr, length-drop}
use Rattle.std.specs.Prelude.{◌&&◌}
use Rattle.std.specs.Option.{option_and_then}
use Rattle.std.proofs.lemmas.List.{append-nil, drop-drop, length-take, take-append-drop}
use Rattle.edit_model.specs.DomModel.declared.Content.{Content}
use Rattle.edit_model.specs.DomModel.declared.Content.TheVariants.{Words}
use Rattle.edit_model.specs.DomModel.Contents.{chars_in, chars_of, with_chars}
use Rattle.edit_model.specs.DomModel.Document.{node_count, char_count, page_depth}
use Rattle.edit_model.specs.DomModel.Forest.{Forest, total, content_of, tree_of}
use Rattle.edit_model.specs.DomModel.Revised.{revised}
use Rattle.edit_model.specs.DomModel.Pruned.{pruned}
use Rattle.edit_model.specs.DomModel.ArenaState.{ArenaState as Arena, IsValid as IsArena, IsSlotted}
use Rattle.edit_model.proofs.DomModel.Revising.{total-revised}
use Rattle.edit_model.proofs.DomModel.Pruning.{IsDistinct-pruned}
use Rattle.edit_model.specs.NodeArena.declared.NodeRef.{NodeRef}
use Rattle.edit_model.specs.LiveRange.PointsEdit as range
use Rattle.edit_model.specs.LiveRange.LivePoints.{LivePoints, Fits, mapped}
use Rattle.step_edits.specs.ForestChanges.Change.{Splice, HasPart, applied, inverse, spliced_at}
use Rattle.step_edits.specs.ForestChanges.Named.{Each, named}
use Rattle.step_edits.specs.ForestChanges.Down.{IsLeft}
use Rattle.step_edits.proofs.ForestChanges.Twice.{forest_of}
use Rattle.step_edits.proofs.ForestChanges.PrunedChanges.{content_of-pruned}
use Rattle.step_edits.specs.EditSteps.declared.step.Step.{Step}
use Rattle.step_edits.specs.EditSteps.Step.{StepFits, change_of, step_applied, step_inverse}
use Rattle.edit_model.specs.declared.settings.Setting.{Setting}
use Rattle.edit_model.specs.State.{State}
use Rattle.edit_model.specs.Edit.{Replace, is_made_edit, change_of as edit_change, trees_after, points_after, with_replaced}
use Rattle.edit_model.specs.Confined.{is_own, spliced, may_change, may_replace}
use Rattle.edit_model.proofs.Fitting.{fits-replace}
use Rattle.edit_doc.specs.declared.Doc.TheInside.{Inside}
use Rattle.edit_doc.specs.declared.command.Command.{Command}
use Rattle.edit_doc.specs.Whole.{Whole, IsOpen}
use Rattle.edit_doc.specs.Held.{Holds}
use Rattle.edit_doc.specs.Marks.{Marks}
use Rattle.edit_doc.specs.Splicing.{own_chars, splice_step}
use Rattle.edit_doc.specs.Trail.{Trail, with_note}
use Rattle.edit_doc.specs.Counted.{IsCounted}
use Rattle.edit_doc.proofs.Attributed.{revised_same}
use Rattle.edit_doc.proofs.Rests.{arena_forest}
use Rattle.edit_doc.proofs.Raised.{revised_depth}
use Rattle.edit_doc.proofs.Changing.{Follows}
use Rattle.edit_doc.proofs.Freely.{freed_edit}
use Rattle.edit_doc.proofs.Edited.{Makes, Done, edit_called}
use Rattle.edit_doc.proofs.Inner.{seen, Ok}
use Rattle.edit_doc.proofs.Lessened.{Changes, changes}
use Rattle.edit_doc.proofs.Ordered.{tree_of-revised}
use Rattle.edit_doc.proofs.SeenNodes.{shows_of, out_of, held_seen, content_seen}
use Rattle.edit_doc.proofs.Settling.{overrides_next, overrides_are}

and_false : (a : Bool) → (a && false) ≡ false
and_false true = refl
and_false false = refl

-- ---- the part that others replace

whole_part : (chars : List ℕ) (at count : ℕ) → chars ≡ take at chars ++ (take count (drop at chars) ++ drop (at + count) chars)
whole_part chars at count = sym (ap (λ t. take at chars ++ (take count (drop at chars) ++ t)) (sym (drop-drop count at chars)) ∙ (ap (λ t. take at chars ++ t) (take-append-drop count (drop at chars)) ∙ take-append-drop at chars))

pub part_length : (chars : List ℕ) (at count : ℕ) → at + count ≤ length chars → length (take count (drop at chars)) ≡ count
part_length chars at count reach = omega (arith, reach, length-take count (drop at chars), length-drop at chars)

has_part : (f : Forest Content) (n at count : ℕ) (put chars : List ℕ) → chars_of f n ≡ Some chars → at + count ≤ length chars → length put + (length chars - count) < 2 ^ 32 → HasPart f n at (length chars - (at + count)) (take count (drop at chars)) put
has_part f n at count put chars is reach low = record {
  front = take at chars;
  back = drop (at + count) chars;
  chars = is ∙ ap Some (whole_part chars at count);
  front_long = omega (arith, reach, length-take at chars);
  back_long = length-drop (at + count) chars;
  short = omega (arith, reach, low);
}

follows : (c d : Command) (n at rest : ℕ) (taken put : List ℕ) (f : Forest Content) → Marks (n ∷ []) c d → Follows c d (Splice n at rest taken put) (inverse (Splice n at rest taken put) f)
unfolding inverse
follows c d n at rest taken put f m = record {
  start = ap (λ (k : Command). k.start) m.rest;
  host = ap (λ (k : Command). k.host) m.rest;
  keeping = ap (λ (k : Command). k.keeping) m.rest;
  resumed = ap (λ (k : Command). k.resumed) m.rest;
  kept = ap (λ (k : Command). k.kept) m.rest;
  detached_before = ap (λ (k : Command). k.detached_before) m.rest;
  count = m.count;
  stay = m.stay;
  marked = (m.marked.0, tt);
  marked_inverse = (m.marked.0, tt);
  only = λ l h. elim (m.only l h) [ inl t ↦ inl t | inr t ↦ inr (inl t) ];
  more = [];
  detached = ap (λ (k : Command). k.detached.items) m.rest ∙ sym (append-nil c.detached.items);
  loosed_is = refl;
}

module _ (d : Inside) (law : IsArena d.tree.nodes.arena) (v : Whole) (is : seen d ≡ v) (node : NodeRef) (holds : Holds v node) (at count : ℕ) (put : List ℕ) (con : Content) (content : content_of d.tree.nodes.arena.trees node.label ≡ Some con) where
  content_here : content_of v.state.trees node.label ≡ Some con
  content_here = content_seen (shows_of d law v is) node holds ∙ content

  pub may_replace_here : is_own v.state node.label ≡ true → may_change (Some con) at count put ≡ true → is_made_edit (Replace node.label at count put) v.state ≡ true
  unfolding is_made_edit may_replace
  may_replace_here own change = rw (own, content_here) change

  pub not_replace_here : may_change (Some con) at count put ≡ false → is_made_edit (Replace node.label at count put) v.state ≡ false
  unfolding is_made_edit may_replace
  not_replace_here off = rw (content_here, off) (and_false (is_own v.state node.label))

  pub points_fit : Ok d → is_own v.state node.label ≡ true → may_change (Some con) at count put ≡ true → Fits (range.Replace node.label at count (length put)) d.tree.points
  unfolding is_made_edit
  points_fit ok own change =
      let may : is_made_edit (Replace node.label at count put) (seen d).state ≡ true = subst (λ (w : Whole). is_made_edit (Replace node.label at count put) w.state ≡ true) (sym is) (may_replace_here own change) in
      let capped = law.capped in
      let low = law.small in
      fits-replace (seen d).state node.label at count put ok.valid (omega (arith, capped, low)) may

  module _ (slotted : IsSlotted d.tree.nodes.arena) (now_open : IsOpen v) (ok : Ok d) (own : is_own v.state node.label ≡ true) (change : may_change (Some con) at count put ≡ true) where
    abbrev f : Forest Content
    f = d.tree.nodes.arena.trees

    abbrev g : Forest Content
    g = pruned (out_of d) f

    abbrev made : Step
    made = splice_step node at count put con

    abbrev rest : ℕ
    rest = length (own_chars con) - (at + count)

    abbrev taken : List ℕ
    taken = take count (drop at (own_chars con))

    t : Changes (Some con) at count put
    t = changes (Some con) at count put change

    con_is : con ≡ Words t.chars
    con_is = let e = t.content in cc

    chars_are : own_chars con ≡ t.chars
    chars_are = ap own_chars con_is

    content_there : content_of g node.label ≡ Some con
    content_there = content_of-pruned (out_of d) f node.label (forest_of d.tree.nodes.arena law) (held_seen d v is node holds).here ∙ content

    gone : length taken ≡ count
    gone = part_length (own_chars con) at count (let reach = t.reach in omega (arith, reach, ap length chars_are))

    -- the characters that the step makes of a forest that has the content
    words_are : (h : Forest Content) → content_of h node.label ≡ Some con → spliced_at h node.label at (length taken) put ≡ spliced t.chars at count put
    words_are h e = (λ i. spliced (unwrap_or (option_and_then chars_in (e i)) []) at (gone i) put) ∙ ap (λ xs. spliced xs at count put) chars_are

    same : (h : Forest Content) → content_of h node.label ≡ Some con → with_chars (spliced_at h node.label at (length taken) put) con ≡ with_replaced at count put con
    same h e = (λ i. with_chars (words_are h e i) (con_is i)) ∙ ap (with_replaced at count put) (sym con_is)

    abbrev words : List ℕ
    words = spliced_at f node.label at (length taken) put

    part : HasPart f node.label at rest taken put
    part =
        let is' : chars_of f node.label ≡ Some t.chars = ap (option_and_then chars_in) (content ∙ ap Some con_is) in
        let reach = t.reach in
        let long = t.length_is in
        let short = t.short in
        subst (λ xs. HasPart f node.label at (length xs - (at + count)) (take count (drop at xs)) put) (sym chars_are) (has_part f node.label at count put t.chars is' reach (omega (arith, long, short)))

    pub fits : StepFits made d.tree.nodes.arena
    fits = record {
      fits = record { forest = forest_of d.tree.nodes.arena law; here = part };
      slotted = slotted;
      held = ((held_seen d v is node holds).slot, tt);
    }

    pub detached : Each (IsLeft (out_of d) f) (named (change_of made))
    detached = ((held_seen d v is node holds).here, tt)

    pub trees : applied (change_of made) g ≡ trees_after (Replace node.label at count put) g
    unfolding applied trees_after
    trees = revised_same g node.label (with_chars (spliced_at g node.label at (length taken) put)) (with_replaced at count put) con (IsDistinct-pruned (out_of d) f law.distinct) content_there (same g content_there)

    change_is : change_of made ≡ edit_change (Replace node.label at count put) g
    unfolding edit_change
    change_is = sym (ap (λ o. let xs : List ℕ = unwrap_or (option_and_then chars_in o) [] in Splice node.label at (length xs - (at + count)) (take count (drop at xs)) put) content_there)

    nodes_same : node_count (applied (change_of made) f) ≡ node_count f
    unfolding applied
    nodes_same = ap (total (λ _ _. 1)) (tree_of-revised node.label (with_chars words) f 0) ∙ total-revised node.label (with_chars words) (λ _. 1) (tree_of f 0)

    depth_same : page_depth (applied (change_of made) f) ≡ page_depth f
    unfolding applied
    depth_same = revised_depth f d.tree.nodes.arena.next (arena_forest d.tree.nodes.arena law) node.label (with_chars words)

    chars_same : char_count (revised f node.label (with_replaced at count put)) ≡ char_count (applied (change_of made) f)
    unfolding applied
    chars_same = ap char_count (sym (revised_same f node.label (with_chars words) (with_replaced at count put) con law.distinct content (same f content)))

    pub counted_replaced : (chars : ℕ) → chars ≡ char_count (revised f node.label (with_replaced at count put)) → IsCounted (step_applied made d.tree.nodes.arena).trees (record d.tree.nodes.counts { chars = chars })
    unfolding step_applied
    counted_replaced chars is = record {
      nodes = d.tree.nodes.counted.nodes ∙ sym nodes_same;
      chars = is ∙ chars_same;
      depth = (let low = d.tree.nodes.counted.depth in omega (arith, depth_same, low));
    }

    pub points_are : mapped (range.Replace node.label at count (length put)) d.tree.points ≡ points_after (Replace node.label at count put) g d.tree.points
    unfolding points_after
    points_are = refl

    module _ (points : LivePoints) (overrides : List Setting) (c : Command) (m : Marks (node.label ∷ []) d.command c)
        (points_is : points ≡ mapped (range.Replace node.label at count (length put)) d.tree.points)
        (overrides_is : overrides ≡ overrides_next d v is law now_open ok (Replace node.label at count put) made fits detached (freed_edit (Replace node.label at count put) v.state (may_replace_here own change)) trees) where
      replaces : Makes d (Replace node.label at count put) made points overrides c
      replaces = record {
        fits = fits;
        seen = detached;
        follows = follows d.command c node.label at rest taken put f m;
        names = ap (λ (p : LivePoints). p.names) points_is;
        change = change_is;
        trees = trees;
        points_are = points_is ∙ points_are;
        overrides_are = overrides_is ∙ overrides_are d v is law now_open ok (Replace node.label at count put) made fits detached (freed_edit (Replace node.label at count put) v.state (may_replace_here own change)) trees;
      }

      pub replace_done : (arena : Arena) (trail : Trail) → arena ≡ step_applied made d.tree.nodes.arena → trail ≡ with_note d.history (step_inverse made d.tree.nodes.arena) → Done d v (Replace node.label at count put) arena points overrides c trail
      replace_done arena trail arena_is trail_is =
          edit_called d v is law now_open ok (Replace node.label at count put) made points overrides c (may_replace_here own change) replaces arena trail arena_is trail_is

pub not_own_replace : (s : State) (n at count : ℕ) (put : List ℕ) → is_own s n ≡ false → is_made_edit (Replace n at count put) s ≡ false
unfolding is_made_edit may_replace
not_own_replace s n at count put off = rw off refl
