-- An edit that sets or unsets an attribute: the attribute list of an element is rewritten, and nothing else.
use Rattle.std.proofs.Common.{◌≡◌, ℕ, Bool, true, false, eqb, List, [], ◌∷◌, Option, Some, None, unwrap_or, refl, sym, ap, subst, ◌∙◌, inl, inr, arith}
use Rattle.std.specs.Prelude.{◌&&◌}
use Rattle.std.specs.Option.{option_map_or, option_map, option_and_then, option_copied, is_some}
use Rattle.std.proofs.Common.{Bor}
use Rattle.std.proofs.lemmas.Bool.Decides.{eqb_tells}
use Rattle.std.proofs.lemmas.List.{append-nil}
use Rattle.edit_model.specs.DomModel.declared.Content.{Content}
use Rattle.edit_model.specs.DomModel.declared.Content.TheVariants.{Document, Element, Words, Remark}
use Rattle.edit_model.specs.DomModel.declared.attributes.Attribute.{Attribute}
use Rattle.edit_model.specs.DomModel.AttributeList.{set_in, unset_in, value_of, IsDistinctNames}
use Rattle.edit_model.specs.DomModel.Contents.{is_element, attributes_in, attributes_of, with_attributes, words_length}
use Rattle.edit_model.specs.DomModel.Document.{node_count, char_count}
use Rattle.edit_model.specs.DomModel.Forest.{Forest, Seen, tops, total, content_of, tree_of, IsDistinct}
use Rattle.edit_model.specs.DomModel.Forest.Forest.{Nil, Tree}
use Rattle.edit_model.specs.DomModel.Revised.{revised}
use Rattle.edit_model.specs.DomModel.Pruned.{pruned}
use Rattle.edit_model.specs.DomModel.ArenaState.{ArenaState as Arena, IsValid as IsArena, IsSlotted}
use Rattle.edit_model.proofs.DomModel.AttributeLemmas.{distinct-set, distinct-unset}
use Rattle.edit_model.proofs.DomModel.Revising.{total-revised}
use Rattle.edit_model.proofs.DomModel.Stands.{Stands, seek_Stands}
use Rattle.edit_model.proofs.DomModel.Pruning.{IsDistinct-pruned}
use Rattle.edit_model.specs.NodeArena.declared.NodeRef.{NodeRef}
use Rattle.edit_model.specs.LiveRange.declared.places.Point.{Point}
use Rattle.edit_model.specs.LiveRange.declared.places.Pair.{Pair}
use Rattle.edit_model.specs.LiveRange.ActiveRange.{range_changed, same_point, range_start, range_end}
use Rattle.edit_model.specs.PointOrder.PointOrder.{is_before}
use Rattle.step_edits.specs.ForestChanges.Change.{SetAttributes, applied, inverse}
use Rattle.step_edits.proofs.ForestChanges.Twice.{forest_of}
use Rattle.step_edits.proofs.ForestChanges.PrunedChanges.{content_of-pruned}
use Rattle.step_edits.specs.EditSteps.declared.step.Step.TheVariants as step
use Rattle.step_edits.specs.EditSteps.Step.{StepFits, change_of, step_applied, step_inverse}
use Rattle.edit_model.specs.State.{State}
use Rattle.edit_model.specs.Edit.{Edit, Set, Unset, is_made_edit, change_of as edit_change, trees_after, points_after, overrides_after, with_set, with_unset}
use Rattle.edit_model.specs.Confined.{is_own, may_set, may_unset, has_value}
use Rattle.edit_model.proofs.TailPlan.{attributes_distinct}
use Rattle.edit_doc.specs.declared.Doc.TheInside.{Inside}
use Rattle.edit_doc.specs.declared.command.Command.{Command}
use Rattle.edit_doc.specs.Whole.{Whole, IsOpen}
use Rattle.edit_doc.specs.Held.{Holds}
use Rattle.edit_doc.specs.Marks.{Marks}
use Rattle.edit_doc.specs.Sound.{RefIn}
use Rattle.edit_doc.specs.Trail.{Trail, with_note}
use Rattle.edit_doc.specs.History.{other}
use Rattle.edit_doc.specs.Counted.{IsCounted}
use Rattle.edit_doc.proofs.Inner.{seen, Ok}
use Rattle.edit_doc.proofs.SeenNodes.{shows_of, out_of, IsSeen, held_seen, attributes_seen}
use Rattle.edit_doc.proofs.Changing.{Follows}
use Rattle.edit_doc.proofs.Edited.{Makes, Done, edit_called}
use Rattle.edit_doc.proofs.Raised.{revised_depth}
use Rattle.edit_doc.proofs.Rests.{arena_forest}
use Rattle.edit_doc.proofs.Ordered.{tree_of-revised, before-revised}

and_false : (a : Bool) → (a && false) ≡ false
and_false true = refl
and_false false = refl

-- ---- contents that are rewritten

-- what is made of the content of the node alone
module _ (n : ℕ) (g h : Content → Content) where
  revised_at : (q : Option ℕ) (f : Forest Content) → ((s : Seen Content) → Stands q f n s → g s.content ≡ h s.content) → revised f n g ≡ revised f n h
  revised_at q Nil same = refl
  revised_at q (Tree m c ks rest) same =
      let ik = revised_at (Some m) ks (λ s st. same s (inr (inl st))) in
      let ir = revised_at q rest (λ s st. same s (inr (inr st))) in
      elim (eqb_tells n m) [
        | inl (e, is) ↦ (let own : g c ≡ h c = same (record { parent = q; content = c; children = tops ks }) (inl (sym is, refl)) in
            rw e (λ i. Tree m (own i) (ik i) (ir i)))
        | inr (e, _) ↦ rw e (λ i. Tree m c (ik i) (ir i))
      ]

pub revised_same : (f : Forest Content) (n : ℕ) (g h : Content → Content) (c : Content) → IsDistinct f → content_of f n ≡ Some c → g c ≡ h c → revised f n g ≡ revised f n h
revised_same f n g h c once is same = revised_at n g h None f (λ s st. (
    let e : content_of f n ≡ Some s.content = ap (option_map (λ (t : Seen Content). t.content)) (seek_Stands None f n s (once n) st) in
    let here : Some c ≡ Some s.content = sym is ∙ e in
    let own : c ≡ s.content = (let t = here in cc) in
    subst (λ t. g t ≡ h t) own same))

chars-revised : (n : ℕ) (g : Content → Content) → ((c : Content) → words_length (g c) ≡ words_length c) → (f : Forest Content) → total (λ _ c. words_length c) (revised f n g) ≡ total (λ _ c. words_length c) f
chars-revised n g same Nil = refl
chars-revised n g same (Tree m c ks rest) = elim (eqb_tells n m) [
  | inl (e, _) ↦ rw e (omega (arith, same c, chars-revised n g same ks, chars-revised n g same rest))
  | inr (e, _) ↦ rw e (omega (arith, chars-revised n g same ks, chars-revised n g same rest))
]

same_chars : (list : List Attribute) (c : Content) → words_length (with_attributes list c) ≡ words_length c
same_chars list Document = refl
same_chars list (Element name attributes) = refl
same_chars list (Words chars) = refl
same_chars list (Remark chars) = refl

pub nodes-redressed : (f : Forest Content) (n : ℕ) (list : List Attribute) → node_count (applied (SetAttributes n list) f) ≡ node_count f
unfolding applied
nodes-redressed f n list = ap (total (λ _ _. 1)) (tree_of-revised n (with_attributes list) f 0) ∙ total-revised n (with_attributes list) (λ _. 1) (tree_of f 0)

pub chars-redressed : (f : Forest Content) (n : ℕ) (list : List Attribute) → char_count (applied (SetAttributes n list) f) ≡ char_count f
unfolding applied
chars-redressed f n list = ap (total (λ _ c. words_length c)) (tree_of-revised n (with_attributes list) f 0) ∙ chars-revised n (with_attributes list) (same_chars list) (tree_of f 0)

-- ---- the active range stays

same_itself : (p : Point) → same_point p p ≡ true
same_itself p = rw (own p.label, own p.offset) refl
  where
    own : (n : ℕ) → eqb n n ≡ true
    own n = elim (eqb_tells n n) [ inl (e, _) ↦ e | inr (_, off) ↦ absurd (off refl) ]

pub range_same : (before : Point → Point → Bool) (o : Option Pair) → range_changed before before o o ≡ false
range_same before None = refl
range_same before (Some p) =
    rw (same_itself (range_start before p), same_itself (range_end before p)) refl

pub overrides-revised : (s : State) (n : ℕ) (g : Content → Content) → overrides_after s (revised s.trees n g) s.points ≡ s.overrides
unfolding overrides_after
overrides-revised s n g =
    let e : range_changed (is_before s.trees) (is_before (revised s.trees n g)) s.points.selection s.points.selection ≡ false =
    (λ i. range_changed (is_before s.trees) (λ p q. before-revised n g s.trees p q i) s.points.selection s.points.selection) ∙ range_same (is_before s.trees) s.points.selection in
    rw e refl

-- ---- the step that rewrites a list

follows : (c d : Command) (n : ℕ) (list : List Attribute) (f : Forest Content) → Marks (n ∷ []) c d → Follows c d (SetAttributes n list) (inverse (SetAttributes n list) f)
unfolding inverse
follows c d n list f m = record {
  start = ap (λ (k : Command). k.start) m.rest;
  host = ap (λ (k : Command). k.host) m.rest;
  keeping = ap (λ (k : Command). k.keeping) m.rest;
  resumed = ap (λ (k : Command). k.resumed) m.rest;
  kept = ap (λ (k : Command). k.kept) m.rest;
  detached_before = ap (λ (k : Command). k.detached_before) m.rest;
  count = m.count;
  stay = m.stay;
  marked = (m.marked.0, tt);
  marked_inverse = (m.marked.0, tt);
  only = λ l h. elim (m.only l h) [ inl t ↦ inl t | inr t ↦ inr (inl t) ];
  more = [];
  detached = ap (λ (k : Command). k.detached.items) m.rest ∙ sym (append-nil c.detached.items);
  loosed_is = refl;
}

module _ (d : Inside) (law : IsArena d.tree.nodes.arena) (slotted : IsSlotted d.tree.nodes.arena) (ok : Ok d) (node : NodeRef) (held : RefIn d.tree.nodes.arena.held node) (here : IsSeen d node.label)
    (tag : List ℕ) (own list : List Attribute) (content : content_of d.tree.nodes.arena.trees node.label ≡ Some (Element tag own)) where
  own_distinct : IsDistinctNames own
  own_distinct = subst IsDistinctNames (ap (λ o. unwrap_or (option_and_then attributes_in o) []) content) (attributes_distinct d.tree.nodes.arena.trees law.nodes node.label)

  redress_fits : IsDistinctNames list → StepFits (step.SetAttributes node list) d.tree.nodes.arena
  redress_fits distinct = record {
    fits = record { forest = forest_of d.tree.nodes.arena law; here = (ap (λ o. option_map_or is_element o false) content, distinct) };
    slotted = slotted;
    held = (held, tt);
  }

  pub set_fits : (name value : List ℕ) → list ≡ set_in own name value → StepFits (step.SetAttributes node list) d.tree.nodes.arena
  set_fits name value is = redress_fits (subst IsDistinctNames (sym is) (distinct-set own name value own_distinct))

  pub unset_fits : (name : List ℕ) → list ≡ unset_in own name → StepFits (step.SetAttributes node list) d.tree.nodes.arena
  unset_fits name is = redress_fits (subst IsDistinctNames (sym is) (distinct-unset own name own_distinct))

  pub counted_redressed : IsCounted (step_applied (step.SetAttributes node list) d.tree.nodes.arena).trees d.tree.nodes.counts
  unfolding step_applied applied
  counted_redressed = record {
    nodes = d.tree.nodes.counted.nodes ∙ sym (nodes-redressed d.tree.nodes.arena.trees node.label list);
    chars = d.tree.nodes.counted.chars ∙ sym (chars-redressed d.tree.nodes.arena.trees node.label list);
    depth = (let low = d.tree.nodes.counted.depth in omega (arith, revised_depth d.tree.nodes.arena.trees d.tree.nodes.arena.next (arena_forest d.tree.nodes.arena law) node.label (with_attributes list), low));
  }

  abbrev g : Forest Content
  g = pruned (out_of d) d.tree.nodes.arena.trees

  content_here : content_of g node.label ≡ Some (Element tag own)
  content_here = content_of-pruned (out_of d) d.tree.nodes.arena.trees node.label (forest_of d.tree.nodes.arena law) here ∙ content

  own_here : Some own ≡ attributes_of g node.label
  own_here = sym (ap (option_and_then attributes_in) content_here)

  trees_same : (h : Content → Content) → with_attributes list (Element tag own) ≡ h (Element tag own) → revised g node.label (with_attributes list) ≡ revised g node.label h
  trees_same h same = revised_same g node.label (with_attributes list) h (Element tag own) (IsDistinct-pruned (out_of d) d.tree.nodes.arena.trees law.distinct) content_here same

  module _ (c : Command) (m : Marks (node.label ∷ []) d.command c) where
    redresses : StepFits (step.SetAttributes node list) d.tree.nodes.arena → (e : Edit) (h : Content → Content) →
        change_of (step.SetAttributes node list) ≡ edit_change e g →
        revised g node.label (with_attributes list) ≡ trees_after e g →
        d.tree.points ≡ points_after e g d.tree.points →
        d.tree.overrides ≡ overrides_after (seen d).state (trees_after e g) (points_after e g d.tree.points) →
        Makes d e (step.SetAttributes node list) d.tree.points d.tree.overrides c
    unfolding applied
    redresses fits e h change trees points overrides = record {
      fits = fits;
      seen = (here, tt);
      follows = follows d.command c node.label list d.tree.nodes.arena.trees m;
      names = refl;
      change = change;
      trees = trees;
      points_are = points;
      overrides_are = overrides;
    }

    pub sets : (name value : List ℕ) → list ≡ set_in own name value → Makes d (Set node.label name value) (step.SetAttributes node list) d.tree.points d.tree.overrides c
    unfolding trees_after points_after edit_change
    sets name value is = redresses (set_fits name value is) (Set node.label name value) (with_set name value) (ap (SetAttributes node.label) (is ∙ ap (λ o. set_in (unwrap_or o []) name value) own_here)) (trees_same (with_set name value) (ap (Element tag) is)) refl (sym (overrides-revised (seen d).state node.label (with_set name value)))

    pub unsets : (name : List ℕ) → list ≡ unset_in own name → Makes d (Unset node.label name) (step.SetAttributes node list) d.tree.points d.tree.overrides c
    unfolding trees_after points_after edit_change
    unsets name is = redresses (unset_fits name is) (Unset node.label name) (with_unset name) (ap (SetAttributes node.label) (is ∙ ap (λ o. unset_in (unwrap_or o []) name) own_here)) (trees_same (with_unset name) (ap (Element tag) is)) refl (sym (overrides-revised (seen d).state node.label (with_unset name)))

-- ---- for the value that a contract sees

module _ (d : Inside) (v : Whole) (is : seen d ≡ v) (law : IsArena d.tree.nodes.arena) (slotted : IsSlotted d.tree.nodes.arena) (now_open : IsOpen v) (ok : Ok d) (node : NodeRef) (holds : Holds v node)
    (tag : List ℕ) (own : List Attribute) (content : content_of d.tree.nodes.arena.trees node.label ≡ Some (Element tag own)) where
  held_here : Holds (seen d) node
  held_here = held_seen d v is node holds

  own_seen : attributes_of v.state.trees node.label ≡ Some own
  own_seen = attributes_seen (shows_of d law v is) node holds ∙ ap (option_and_then attributes_in) content

  pub may_unset_here : (name : List ℕ) → is_own v.state node.label ≡ true → option_map_or (λ _. true) (value_of own name) false ≡ true → is_made_edit (Unset node.label name) v.state ≡ true
  unfolding is_made_edit may_unset
  may_unset_here name may some = rw (may, own_seen) some

  pub not_unset_here : (name : List ℕ) → option_map_or (λ _. true) (value_of own name) false ≡ false → is_made_edit (Unset node.label name) v.state ≡ false
  unfolding is_made_edit may_unset
  not_unset_here name none = rw (own_seen, none) (and_false (is_own v.state node.label))

  pub may_set_here : (name value : List ℕ) → is_own v.state node.label ≡ true → has_value own name value ≡ false → is_made_edit (Set node.label name value) v.state ≡ true
  unfolding is_made_edit may_set
  may_set_here name value may other = rw (may, own_seen, other) refl

  pub not_set_here : (name value : List ℕ) → has_value own name value ≡ true → is_made_edit (Set node.label name value) v.state ≡ false
  unfolding is_made_edit may_set
  not_set_here name value same = rw (own_seen, same) (and_false (is_own v.state node.label))

  module _ (list : List Attribute) (c : Command) (m : Marks (node.label ∷ []) d.command c) (arena : Arena) (trail : Trail) (arena_is : arena ≡ step_applied (step.SetAttributes node list) d.tree.nodes.arena) (trail_is : trail ≡ with_note d.history (step_inverse (step.SetAttributes node list) d.tree.nodes.arena)) where
    pub unset_done : (name : List ℕ) → list ≡ unset_in own name → is_made_edit (Unset node.label name) v.state ≡ true → Done d v (Unset node.label name) arena d.tree.points d.tree.overrides c trail
    unset_done name same may =
        edit_called d v is law now_open ok (Unset node.label name) (step.SetAttributes node list) d.tree.points d.tree.overrides c may
        (unsets d law slotted ok node held_here.slot held_here.here tag own list content c m name same) arena trail arena_is trail_is

    pub set_done : (name value : List ℕ) → list ≡ set_in own name value → is_made_edit (Set node.label name value) v.state ≡ true → Done d v (Set node.label name value) arena d.tree.points d.tree.overrides c trail
    set_done name value same may =
        edit_called d v is law now_open ok (Set node.label name value) (step.SetAttributes node list) d.tree.points d.tree.overrides c may
        (sets d law slotted ok node held_here.slot held_here.here tag own list content c m name value same) arena trail arena_is trail_is

-- where the node isn't the command's own, or no element, nothing is done
pub not_own_unset : (s : State) (n : ℕ) (name : List ℕ) → is_own s n ≡ false → is_made_edit (Unset n name) s ≡ false
unfolding is_made_edit may_unset
not_own_unset s n name off = rw off refl

pub not_own_set : (s : State) (n : ℕ) (name value : List ℕ) → is_own s n ≡ false → is_made_edit (Set n name value) s ≡ false
unfolding is_made_edit may_set
not_own_set s n name value off = rw off refl

pub no_list_unset : (s : State) (n : ℕ) (name : List ℕ) → attributes_of s.trees n ≡ None → is_made_edit (Unset n name) s ≡ false
unfolding is_made_edit may_unset
no_list_unset s n name none = rw none (and_false (is_own s n))

pub no_list_set : (s : State) (n : ℕ) (name value : List ℕ) → attributes_of s.trees n ≡ None → is_made_edit (Set n name value) s ≡ false
unfolding is_made_edit may_set
no_list_set s n name value none = rw none (and_false (is_own s n))

-- ---- what is read of the list

pub no_list : (c : Content) → ((x : List ℕ) (x' : List Attribute) → c ≡ Element x x' → ⊥) → attributes_in c ≡ None
no_list Document off = refl
no_list (Element name attributes) off = absurd (off name attributes refl)
no_list (Words chars) off = refl
no_list (Remark chars) off = refl

pub copied_some : {T : Type 0} (o : Option (Bor T)) → option_map_or (λ (_ : T). true) (option_copied o) false ≡ is_some o
copied_some None = refl
copied_some (Some x) = refl
