-- What the tests of step lines tell, and the steps of the arena that lines stand for.
use Rattle.std.proofs.Common.{◌≡◌, ◌≢◌, ℕ, ◌<◌, ◌^◌, Bool, true, false, true≢false, not, ◌&&◌, eqb, List, length, Option, Some, None, IfSome, unwrap_or, Result, Err, refl, sym, ap, subst, ◌∙◌, arith}
use Rattle.std.specs.Prelude.{is_some, is_none}
use Rattle.std.specs.Option.{option_map_or, option_and_then}
use Rattle.std.proofs.lemmas.Bool.{and_parts, not-true, ltb-true, eqb-false}
use Rattle.page_grammar.specs.DomModel.declared.attributes.Attribute.{Attribute}
use Rattle.page_grammar.specs.DomModel.declared.Content.{Content}
use Rattle.page_grammar.specs.DomModel.declared.Content.TheVariants as content
use Rattle.page_grammar.specs.DomModel.AttributeList.{IsDistinctNames}
use Rattle.page_grammar.specs.DomModel.Contents.{has_chars, has_name, is_element, is_parent_at, name_in}
use Rattle.page_grammar.specs.DomModel.Forest.{Forest, is_label, count_of, parent_of, content_of, tree_of}
use Rattle.page_grammar.specs.DomModel.ArenaState.{ArenaState, IsValid, IsSlotted}
use Rattle.edit_parts.specs.EditModel.Confined.{is_there, is_place}
use Rattle.edit_parts.proofs.EditModel.Tests.{label_is, none_is, not_zero, not_within, parent_there}
use Rattle.edit_steps.specs.declared.step.Step.{Step}
use Rattle.edit_steps.specs.declared.step.Step.TheVariants as step
use Rattle.edit_steps.specs.Step.{change_of, nodes_of}
use Rattle.edit_steps.specs.ForestChanges.Change.{Fits, IsForest, applied}
use Rattle.page_grammar.specs.DomModel.Change as change
use Rattle.edit_steps.specs.ForestChanges.Named.{Each, listed}
use Rattle.edit_steps.proofs.ForestChanges.Twice.{forest_of, given_parent, can_shift}
use Rattle.edit_steps.specs.NodeArena.declared.NodeRef.{NodeRef}
use Rattle.edit_steps.specs.NodeArena.Held.{Holds, label}
use Rattle.edit_parts.specs.PointOrder.PointOrder.{is_within}
use Rattle.step_text.specs.declared.apply.Origin.{Origin}
use Rattle.step_text.specs.declared.apply.Origin.TheVariants.{Loose, Child}
use Rattle.step_text.specs.declared.apply.Placing.{Placing}
use Rattle.step_text.specs.declared.line.StepFault.{StepFault}
use Rattle.step_text.specs.declared.line.StepFault.TheVariants.{BadLabel, BadPlace, TooDeep}
use Rattle.step_text.specs.declared.line.StepLine.{StepLine}
use Rattle.step_text.specs.declared.line.StepLine.TheVariants.{Remove, Words, Tag}
use Rattle.step_text.specs.Applying.{Labelled, labelled, can_stand, fault_of, has_labels, has_place, has_room, has_room_under, is_loose, is_text, is_text_at, is_there_or_end, next_after, trees_after}
use Rattle.step_text.specs.Planning.{IsStepOf, Places, Plans, comes_from, line_to, step_to}

-- ---- faults

module _ (x : StepLine) (d : Labelled) where
  pub bad_label : has_labels x d ≡ false → fault_of x d ≡ Some BadLabel
  unfolding fault_of
  bad_label h = rw h refl

  pub bad_place : has_labels x d ≡ true → has_place x d.trees ≡ false → fault_of x d ≡ Some BadPlace
  unfolding fault_of
  bad_place h k = rw (h, k) refl

  pub too_deep : has_labels x d ≡ true → has_place x d.trees ≡ true → has_room x d.trees ≡ false → fault_of x d ≡ Some TooDeep
  unfolding fault_of
  too_deep h k r = rw (h, k, r) refl

  pub fine : has_labels x d ≡ true → has_place x d.trees ≡ true → has_room x d.trees ≡ true → fault_of x d ≡ None
  unfolding fault_of
  fine h k r = rw (h, k, r) refl

-- a refused line at the exit of a `?`
pub exit : (x : StepLine) (a : ArenaState) (r : Result Step StepFault) (fault : StepFault) → r ≡ Err fault → fault ≡ BadLabel → fault_of x (labelled a) ≡ Some BadLabel → Plans x a r
exit x a r fault is same h = subst (λ r. Plans x a r) (sym is) (h ∙ ap Some (sym same))

-- ---- tests of places

pub both : (a b : Bool) → a ≡ true → b ≡ true → (a && b) ≡ true
both a b h k = rw (h, k) refl

pub second_off : (a b : Bool) → a ≡ true → b ≡ false → (a && b) ≡ false
second_off a b h k = rw (h, k) refl

pub first_off : (a b : Bool) → a ≡ false → (a && b) ≡ false
first_off a b h = rw h refl

place_is : (f : Forest Content) (p : ℕ) (b : Option ℕ) (l : ℕ) → is_place f p b l ≡ true → IfSome b (λ m. (parent_of f m ≡ Some p) × (m ≢ l))
place_is f p None l h = tt
place_is f p (Some m) l h =
    let parts = and_parts (is_label (parent_of f m) p) (not (eqb m l)) h in
    (label_is (parent_of f m) p parts.0, λ e. eqb-false m l (not-true (eqb m l) parts.1) e)

place_child : (f : Forest Content) (p : ℕ) (b : Option ℕ) (l : ℕ) → IfSome b (λ m. (parent_of f m ≡ Some p) × (m ≢ l)) → IfSome b (λ m. parent_of f m ≡ Some p)
place_child f p None l h = tt
place_child f p (Some m) l h = h.0

-- what holds where the tree of l can stand under p, before b
record Stands (f : Forest Content) (l p : ℕ) (b : Option ℕ) : Type 0 where
  parent : is_parent_at f p ≡ true
  apart : count_of (tree_of f l) p ≡ 0
  before : IfSome b (λ m. (parent_of f m ≡ Some p) × (m ≢ l))

stands : (f : Forest Content) (l p : ℕ) (b : Option ℕ) → can_stand f l p b ≡ true → Stands f l p b
unfolding can_stand
stands f l p b h =
    let h1 = and_parts (is_parent_at f p) _ h in
    let h2 = and_parts (not (is_within f l p)) (is_place f p b l) h1.1 in
    record { parent = h1.0; apart = not_within f l p h2.0; before = place_is f p b l h2.1 }

-- ---- the changes that lines stand for fit

pub attach_fits : (f : Forest Content) (l p : ℕ) (b : Option ℕ) → IsForest f → 0 < count_of f l → is_loose f l ≡ true → can_stand f l p b ≡ true → Fits (change.Insert l p b) f
attach_fits f l p b ok there loose can =
    let s = stands f l p b can in
    let h = and_parts (is_none (parent_of f l)) (not (eqb l 0)) loose in
    record {
      forest = ok;
      here = record {
        place = record {
          parent = parent_there f p s.parent;
          node = there;
          inner = not_zero l h.1;
          loose = none_is (parent_of f l) h.0;
          apart = s.apart;
          before = place_child f p b l s.before;
        };
        parent = s.parent;
      };
    }

pub shift_fits : (f : Forest Content) (l p : ℕ) (b : Option ℕ) → IsForest f → is_some (parent_of f l) ≡ true → can_stand f l p b ≡ true → Fits (change.Move l p b) f
shift_fits f l p b ok child can =
    let s = stands f l p b can in
    can_shift f l (unwrap_or (parent_of f l) 0) p b ok (given_parent f l child) s.parent (λ w. let none = s.apart in omega (arith, w, none)) s.before

has_text : (o : Option Content) → option_map_or is_text o false ≡ true → option_map_or has_chars o false ≡ true
has_text None h = h
has_text (Some content.Document) h = h
has_text (Some (content.Element name attributes)) h = h
has_text (Some (content.Words words)) h = refl
has_text (Some (content.Remark words)) h = absurd (true≢false (sym h))

has_tag : (o : Option Content) (f : List ℕ → Bool) → option_map_or f (option_and_then name_in o) false ≡ true → option_map_or is_element o false ≡ true
has_tag None f h = h
has_tag (Some content.Document) f h = h
has_tag (Some (content.Element name attributes)) f h = refl
has_tag (Some (content.Words words)) f h = h
has_tag (Some (content.Remark words)) f h = h

-- ---- lines of one label

module _ (d : Labelled) (l : ℕ) where
  pub remove_unfound : is_there d.trees l ≡ false → fault_of (Remove l) d ≡ Some BadLabel
  unfolding has_labels
  remove_unfound off = bad_label (Remove l) d off

  pub words_unfound : (words : List ℕ) → is_there d.trees l ≡ false → fault_of (Words l words) d ≡ Some BadLabel
  unfolding has_labels
  words_unfound words off = bad_label (Words l words) d off

  pub tag_unfound : (name : List ℕ) (list : List Attribute) → is_there d.trees l ≡ false → fault_of (Tag l name list) d ≡ Some BadLabel
  unfolding has_labels
  tag_unfound name list off = bad_label (Tag l name list) d off

  pub remove_loose : is_there d.trees l ≡ true → is_some (parent_of d.trees l) ≡ false → fault_of (Remove l) d ≡ Some BadPlace
  unfolding has_labels has_place
  remove_loose there off = bad_place (Remove l) d there off

  pub words_of_other : (words : List ℕ) → is_there d.trees l ≡ true → is_text_at d.trees l ≡ false → fault_of (Words l words) d ≡ Some BadPlace
  unfolding has_labels has_place
  words_of_other words there off = bad_place (Words l words) d there off

  pub tag_of_other : (name : List ℕ) (list : List Attribute) → is_there d.trees l ≡ true → has_name d.trees l name ≡ false → fault_of (Tag l name list) d ≡ Some BadPlace
  unfolding has_labels has_place
  tag_of_other name list there off = bad_place (Tag l name list) d there off

-- ---- the steps of lines

each_held : (a : ArenaState) (b : Option NodeRef) → IfSome b (λ r. Holds a r) → Each (Holds a) (listed b)
each_held a None h = tt
each_held a (Some r) h = (h, tt)

module _ (a : ArenaState) (law : IsValid a) (slotted : IsSlotted a) where
  here : (l : ℕ) → is_there a.trees l ≡ true → 0 < count_of a.trees l
  here l h = ltb-true 0 (count_of a.trees l) h

  pub remove_step : (l : ℕ) (r : NodeRef) → r.label ≡ l → Holds a r → is_there a.trees l ≡ true → is_some (parent_of a.trees r.label) ≡ true → IsStepOf (Remove l) a (step.Remove r)
  unfolding has_labels has_place has_room trees_after
  remove_step l r same held there child = subst (λ k. is_there a.trees k ≡ true → IsStepOf (Remove k) a (step.Remove r)) same
      (λ there. record {
        fine = fine (Remove r.label) (labelled a) there child refl;
        fits = record { fits = record { forest = forest_of a law; here = child }; slotted = slotted; held = (held, tt) };
        trees = refl;
        next = refl;
      }) there

  pub words_step : (l : ℕ) (r : NodeRef) (words : List ℕ) → r.label ≡ l → Holds a r → is_there a.trees l ≡ true → is_text_at a.trees r.label ≡ true → length words < 2 ^ 32 → IsStepOf (Words l words) a (step.SetText r words)
  unfolding has_labels has_place has_room trees_after
  words_step l r words same held there text short = subst (λ k. is_there a.trees k ≡ true → IsStepOf (Words k words) a (step.SetText r words)) same
      (λ there. record {
        fine = fine (Words r.label words) (labelled a) there text refl;
        fits = record { fits = record { forest = forest_of a law; here = (has_text (content_of a.trees r.label) text, short) }; slotted = slotted; held = (held, tt) };
        trees = refl;
        next = refl;
      }) there

  pub tag_step : (l : ℕ) (r : NodeRef) (name : List ℕ) (list : List Attribute) → r.label ≡ l → Holds a r → is_there a.trees l ≡ true → has_name a.trees r.label name ≡ true → IsDistinctNames list → IsStepOf (Tag l name list) a (step.SetAttributes r list)
  unfolding has_labels has_place has_room trees_after
  tag_step l r name list same held there named distinct = subst (λ k. is_there a.trees k ≡ true → IsStepOf (Tag k name list) a (step.SetAttributes r list)) same
      (λ there. record {
        fine = fine (Tag r.label name list) (labelled a) there named refl;
        fits = record { fits = record { forest = forest_of a law; here = (has_tag (content_of a.trees r.label) _ named, distinct) }; slotted = slotted; held = (held, tt) };
        trees = refl;
        next = refl;
      }) there

-- ---- a line that puts a tree somewhere

module _ (l p : ℕ) (b : Option ℕ) (d : Labelled) where
  abbrev are_there : Bool
  are_there = is_there d.trees l && (is_there d.trees p && is_there_or_end d.trees b)

  abbrev may_place : Origin → Bool
  may_place o = comes_from o d.trees l && can_stand d.trees l p b

  line_labels : (o : Origin) → has_labels (line_to o l p b) d ≡ are_there
  unfolding has_labels
  line_labels Loose = refl
  line_labels Child = refl

  line_place : (o : Origin) → has_place (line_to o l p b) d.trees ≡ may_place o
  unfolding has_place
  line_place Loose = refl
  line_place Child = refl

  line_room : (o : Origin) → has_room (line_to o l p b) d.trees ≡ has_room_under d.trees l p
  unfolding has_room
  line_room Loose = refl
  line_room Child = refl

  line_next : (o : Origin) → next_after (line_to o l p b) d.next ≡ d.next
  line_next Loose = refl
  line_next Child = refl

  pub unplaced : (o : Origin) → are_there ≡ false → fault_of (line_to o l p b) d ≡ Some BadLabel
  unplaced o off = bad_label (line_to o l p b) d (line_labels o ∙ off)

-- the line by the labels of the found nodes
abbrev line_at : Origin → Placing → StepLine
line_at o at = line_to o at.node.label at.parent.label (label at.before)

line_trees : (o : Origin) (at : Placing) (f : Forest Content) → trees_after (line_at o at) f ≡ applied (change_of (step_to o at)) f
unfolding trees_after
line_trees Loose at f = refl
line_trees Child at f = refl

module _ (o : Origin) (a : ArenaState) (law : IsValid a) (slotted : IsSlotted a) (l p : ℕ) (b : Option ℕ) (at : Placing)
    (found : Places a l p b at) (there : are_there l p b (labelled a) ≡ true) where
  abbrev n : ℕ
  n = at.node.label

  same_line : line_at o at ≡ line_to o l p b
  same_line = rw (found.node, found.parent, found.before) refl

  labels_there : has_labels (line_at o at) (labelled a) ≡ true
  labels_there = ap (λ x. has_labels x (labelled a)) same_line ∙ line_labels l p b (labelled a) o ∙ there

  abbrev may_place_at : Bool
  may_place_at = may_place n at.parent.label (label at.before) (labelled a) o

  has_place_at : (is : Bool) → may_place_at ≡ is → has_place (line_at o at) a.trees ≡ is
  has_place_at is may = line_place n at.parent.label (label at.before) (labelled a) o ∙ may

  has_room_at : (is : Bool) → has_room_under a.trees n at.parent.label ≡ is → has_room (line_at o at) a.trees ≡ is
  has_room_at is room = line_room n at.parent.label (label at.before) (labelled a) o ∙ room

  pub misplaced : may_place_at ≡ false → fault_of (line_to o l p b) (labelled a) ≡ Some BadPlace
  misplaced off = subst (λ x. fault_of x (labelled a) ≡ Some BadPlace) same_line
      (bad_place (line_at o at) (labelled a) labels_there (has_place_at false off))

  pub placed_too_deep : may_place_at ≡ true → has_room_under a.trees n at.parent.label ≡ false
      → fault_of (line_to o l p b) (labelled a) ≡ Some TooDeep
  placed_too_deep may off = subst (λ x. fault_of x (labelled a) ≡ Some TooDeep) same_line
      (too_deep (line_at o at) (labelled a) labels_there (has_place_at true may) (has_room_at false off))

  node_there : 0 < count_of a.trees n
  node_there = subst (λ k. 0 < count_of a.trees k) (sym found.node) (here a law slotted l (and_parts (is_there a.trees l) _ there).0)

  change_fits : (o : Origin) → may_place n at.parent.label (label at.before) (labelled a) o ≡ true → Fits (change_of (step_to o at)) a.trees
  change_fits Loose may =
      let h = and_parts (is_loose a.trees n) _ may in
      attach_fits a.trees n at.parent.label (label at.before) (forest_of a law) node_there h.0 h.1
  change_fits Child may =
      let h = and_parts (is_some (parent_of a.trees n)) _ may in
      shift_fits a.trees n at.parent.label (label at.before) (forest_of a law) h.0 h.1

  pub placed : may_place_at ≡ true → has_room_under a.trees n at.parent.label ≡ true → IsStepOf (line_to o l p b) a (step_to o at)
  placed may room = subst (λ x. IsStepOf x a (step_to o at)) same_line (record {
    fine = fine (line_at o at) (labelled a) labels_there (has_place_at true may) (has_room_at true room);
    fits = record {
      fits = change_fits o may;
      slotted = slotted;
      held = held o;
    };
    trees = line_trees o at a.trees;
    next = line_next n at.parent.label (label at.before) (labelled a) o;
  })
    where
      held : (o : Origin) → Each (Holds a) (nodes_of (step_to o at))
      held Loose = (found.node_held, (found.parent_held, each_held a at.before found.before_held))
      held Child = (found.node_held, (found.parent_held, each_held a at.before found.before_held))
