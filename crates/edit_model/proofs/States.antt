-- The states of contenteditable along a way whose actions give none and take none away.
use Rattle.std.proofs.Common.{◌≡◌, ◌≢◌, ℕ, ◌<◌, ◌≤◌, ◌^◌, Bool, true, false, ◌||◌, if◌then◌else◌, cond, eqb, List, [], ◌∷◌, length, map, Option, Some, None, refl, sym, ap, subst, ◌∙◌, inl, inr, arith, true≢false}
use Rattle.std.specs.Prelude.{bytes_eq, codes, nat_lt, unwrap_or}
use Rattle.std.specs.Option.{option_map, option_map_or, option_and_then}
use Rattle.std.specs.Char.{to_ascii_lowercase}
use Rattle.std.proofs.lemmas.Bool.{cases_Bool}
use Rattle.std.proofs.lemmas.Bool.Decides.{eqb_tells}
use Rattle.std.proofs.lemmas.Slice.Eq.{bytes_eq-Decides}
use Rattle.point_order.specs.DomModel.declared.Content.{Content}
use Rattle.point_order.specs.DomModel.declared.Content.TheVariants.{Document, Element, Words, Remark}
use Rattle.point_order.specs.DomModel.declared.attributes.Attribute.{Attribute}
use Rattle.point_order.specs.DomModel.AttributeList.{value_of, set_in, unset_in, are_distinct}
use Rattle.point_order.specs.DomModel.Contents.{name_in, attributes_in}
use Rattle.point_order.specs.DomModel.Editing.{contenteditable, is_true_state, is_false_state, editing_host, is_host}
use Rattle.point_order.specs.DomModel.Forest.{Forest, Seen, count_of, content_of, unlink, with_leaf}
use Rattle.point_order.specs.DomModel.Revised.{revised}
use Rattle.point_order.proofs.DomModel.Stands.{seek_absent}
use Rattle.edit_model.proofs.Trees.{none_or_some}
use Rattle.point_order.proofs.DomModel.Kept.{content_of-link, content_of-unlink, content_of-with_leaf_other, content_of-with_leaf_new}
use Rattle.point_order.proofs.DomModel.Revising.{content_of-revised}
use Rattle.point_order.specs.LiveRange.declared.places.Point.{Point}
use Rattle.edit_model.specs.State.{State}
use Rattle.edit_model.specs.Edit.{Edit, Insert, Remove, Move, Replace, Set, Unset, is_made_edit, trees_after, edited, changed, with_change, with_replaced, with_set, with_unset}
use Rattle.edit_model.specs.Action as action
use Rattle.edit_model.specs.Tail.{copy_of, document_size}
use Rattle.edit_model.specs.Action.{Action, made, applied, tail_of, extracted, words_content, element_content, extended, acted}
use Rattle.edit_model.specs.Run.{Reaches, here, onward}
use Rattle.edit_model.specs.Valid.{IsValid}
use Rattle.edit_model.specs.Laws.{LeavesStates, LeavesStatesOn}
use Rattle.edit_model.proofs.Steps.{next_along}
use Rattle.edit_model.proofs.Tests.{inserts, removes, goes, parent_there}
use Rattle.edit_model.proofs.Forests.{forest-unlink, can_go, fresh}
use Rattle.edit_model.proofs.ValidRuns.{valid_along}
use Rattle.edit_model.proofs.OutsideRuns.{trees-extended, trees-selected, trees-grown, trees-sent, trees-scratched}
use Rattle.edit_model.proofs.IslandRuns.{trees_made, trees_left}
use Rattle.edit_model.proofs.TailPossible.{tail_possible}
use Rattle.edit_model.proofs.TailPlan.{IsCopy, is_copy, tail_fits}
use Rattle.edit_model.proofs.TailSteps.{extract_tests, either_extracted}
use Rattle.edit_model.proofs.TailRuns.{fit_steps}
use Rattle.edit_model.proofs.TailOutside.{host_of}
use Rattle.edit_model.proofs.TailStates.{host_between, hosted_content}

-- ---- the value of another name

apart_names : (name other own : List ℕ) → bytes_eq name other ≡ false → bytes_eq name own ≡ true → bytes_eq other own ≡ false
apart_names name other own off same =
    let is : name ≡ own = (bytes_eq-Decides name own).0 same in
    elim (cases_Bool (bytes_eq other own)) [
      | inr no_same ↦ no_same
      | inl also ↦ absurd (
          let at : other ≡ own = (bytes_eq-Decides other own).0 also in
          true≢false (sym ((bytes_eq-Decides name other).1 (is ∙ sym at)) ∙ off))
    ]

value_of-set_other : (list : List Attribute) (name value other : List ℕ) → bytes_eq name other ≡ false → value_of (set_in list name value) other ≡ value_of list other
value_of-set_other [] name value other off = rw (apart_names name other name off ((bytes_eq-Decides name name).1 refl)) refl
value_of-set_other (a ∷ list) name value other off = elim (cases_Bool (bytes_eq name a.name)) [
  | inl t ↦ rw (t, apart_names name other a.name off t) refl
  | inr t ↦ rw (t, value_of-set_other list name value other off) refl
]

value_of-unset_other : (list : List Attribute) (name other : List ℕ) → bytes_eq name other ≡ false → value_of (unset_in list name) other ≡ value_of list other
value_of-unset_other [] name other off = refl
value_of-unset_other (a ∷ list) name other off = elim (cases_Bool (bytes_eq name a.name)) [
  | inl t ↦ rw (t, apart_names name other a.name off t) refl
  | inr t ↦ rw (t, value_of-unset_other list name other off) refl
]

-- ---- contents that keep their contenteditable

editable-replaced : (at count : ℕ) (put : List ℕ) (c : Content) → contenteditable (with_replaced at count put c) ≡ contenteditable c
editable-replaced at count put Document = refl
editable-replaced at count put (Element name attributes) = refl
editable-replaced at count put (Words chars) = refl
editable-replaced at count put (Remark chars) = refl

editable-set : (name value : List ℕ) → bytes_eq name (codes "contenteditable") ≡ false → (c : Content) → contenteditable (with_set name value c) ≡ contenteditable c
editable-set name value off Document = refl
editable-set name value off (Element tag list) = ap (option_map (λ v. map to_ascii_lowercase v)) (value_of-set_other list name value (codes "contenteditable") off)
editable-set name value off (Words chars) = refl
editable-set name value off (Remark chars) = refl

editable-unset : (name : List ℕ) → bytes_eq name (codes "contenteditable") ≡ false → (c : Content) → contenteditable (with_unset name c) ≡ contenteditable c
editable-unset name off Document = refl
editable-unset name off (Element tag list) = ap (option_map (λ v. map to_ascii_lowercase v)) (value_of-unset_other list name (codes "contenteditable") off)
editable-unset name off (Words chars) = refl
editable-unset name off (Remark chars) = refl

-- ---- the state of a node

-- the value of contenteditable of a node
abbrev pub editable_value : Forest Content → ℕ → Option (Option (List ℕ))
editable_value f k = option_map contenteditable (content_of f k)

value-revised : (f : Forest Content) (n k : ℕ) (g : Content → Content) → ((c : Content) → contenteditable (g c) ≡ contenteditable c) → editable_value (revised f n g) k ≡ editable_value f k
value-revised f n k g same = ap (option_map contenteditable) (content_of-revised n g f k) ∙ each (eqb n k) (content_of f k)
  where
    each : (v : Bool) (o : Option Content) → option_map contenteditable (option_map (λ c. cond v (g c) c) o) ≡ option_map contenteditable o
    each v None = refl
    each true (Some c) = ap Some (same c)
    each false (Some c) = refl

value_after : (e : Edit) (s : State) (k : ℕ) → IsValid s → is_made_edit e s ≡ true → LeavesStates (action.Change e) → editable_value (trees_after e s.trees) k ≡ editable_value s.trees k
unfolding is_made_edit trees_after
value_after (Insert p b n) s k is may leaves = ap (option_map contenteditable) (content_of-link s.trees p b n k is.forest.distinct (inserts s p b n may).can)
value_after (Remove n) s k is may leaves = let t = removes s n may in ap (option_map contenteditable) (content_of-unlink s.trees t.from n k is.forest.distinct t.child)
value_after (Move n p b) s k is may leaves =
    let t = goes s n p b may in
    let f = s.trees in
    let loose = forest-unlink f s.next is.forest t.from n t.child in
    let can = can_go f s.next is.forest t.from n p b t.child t.apart t.parent (parent_there f p t.parent) t.before in
    ap (option_map contenteditable) (content_of-link (unlink f n) p b n k loose.distinct can ∙ content_of-unlink f t.from n k is.forest.distinct t.child)
value_after (Replace n at count put) s k is may leaves = value-revised s.trees n k (with_replaced at count put) (editable-replaced at count put)
value_after (Set n name value) s k is may leaves = value-revised s.trees n k (with_set name value) (editable-set name value leaves)
value_after (Unset n name) s k is may leaves = value-revised s.trees n k (with_unset name) (editable-unset name leaves)

-- ---- the states that a value tells

abbrev true_in : Option (List ℕ) → Bool
true_in v = option_map_or (λ value. bytes_eq value [] || bytes_eq value (codes "true")) v false

abbrev false_in : Option (List ℕ) → Bool
false_in v = option_map_or (λ value. bytes_eq value (codes "false")) v false

abbrev pub stated_value : Option (Option (List ℕ)) → Bool
stated_value o = option_map_or (λ v. true_in v || false_in v) o false

abbrev pub host_value : Option (Option (List ℕ)) → Bool
host_value o = option_map_or true_in o false

pub host_is : (f : Forest Content) (k : ℕ) → is_host f k ≡ host_value (editable_value f k)
host_is f k = each (content_of f k)
  where
    each : (o : Option Content) → option_map_or is_true_state o false ≡ host_value (option_map contenteditable o)
    each None = refl
    each (Some c) = refl

pub stated_is : (f : Forest Content) (k : ℕ) (c : Content) → content_of f k ≡ Some c → stated_value (editable_value f k) ≡ (is_true_state c || is_false_state c)
stated_is f k c e = ap (λ (o : Option Content). stated_value (option_map contenteditable o)) e

-- ---- along a way

pub record SameStates (s t : State) : Type 0 where
  pub same : (k : ℕ) → k < s.next → editable_value t.trees k ≡ editable_value s.trees k
  pub made : (k : ℕ) → s.next ≤ k → stated_value (editable_value t.trees k) ≡ false

states_kept : (s t u : State) → ((k : ℕ) → editable_value u.trees k ≡ editable_value t.trees k) → SameStates s t → SameStates s u
states_kept s t u equal h = record {
  same = λ k low. equal k ∙ h.same k low;
  made = λ k high. ap stated_value (equal k) ∙ h.made k high;
}

states_made : (s t : State) (c : Content) → IsValid t → s.next ≤ t.next → (is_true_state c || is_false_state c) ≡ false → SameStates s t → SameStates s (made c t)
unfolding made
states_made s t c is later stateless h = record {
  same = λ k low. other k (λ e. omega (arith, e, low, later)) ∙ h.same k low;
  made = λ k high. elim (eqb_tells t.next k) [
    | inl (_, e) ↦ subst (λ j. stated_value (editable_value (with_leaf t.trees t.next c) j) ≡ false) e
        (ap (λ (o : Option Content). stated_value (option_map contenteditable o)) (content_of-with_leaf_new t.trees t.next c (fresh t.trees t.next is.forest)) ∙ stateless)
    | inr (_, off) ↦ ap stated_value (other k off) ∙ h.made k high
  ];
}
  where
    other : (k : ℕ) → t.next ≢ k → editable_value (with_leaf t.trees t.next c) k ≡ editable_value t.trees k
    other k off = ap (option_map contenteditable) (content_of-with_leaf_other t.trees t.next c k (fresh t.trees t.next is.forest) off)

words_stateless : (b : Bool) (chars : List ℕ) → (is_true_state (if b then Words chars else Words []) || is_false_state (if b then Words chars else Words [])) ≡ false
words_stateless true chars = refl
words_stateless false chars = refl

-- what is made of a list that gives no state has none
element_stateless : (b : Bool) (name : List ℕ) (attributes : List Attribute) → LeavesStates (action.MakeElement name attributes) → (is_true_state (Element name (if b then attributes else [])) || is_false_state (Element name (if b then attributes else []))) ≡ false
element_stateless true name attributes leaves = leaves
element_stateless false name attributes leaves = refl

-- ---- where a tail is extracted

stateless_same : (c d : Content) → contenteditable d ≡ contenteditable c → (is_true_state c || is_false_state c) ≡ false → (is_true_state d || is_false_state d) ≡ false
stateless_same c d same h = ap (λ v. true_in v || false_in v) same ∙ h

-- a copy of a node without a state has none
copy_stateless : (f : Forest Content) (k : ℕ) (c : Content) → content_of f k ≡ Some c → (is_true_state c || is_false_state c) ≡ false → (is_true_state (copy_of f k) || is_false_state (copy_of f k)) ≡ false
unfolding copy_of
copy_stateless f k c content h = subst (λ o. (is_true_state (copied o) || is_false_state (copied o)) ≡ false) (sym content) (by c h)
  where
    copied : Option Content → Content
    copied o = Element (unwrap_or (option_and_then name_in o) []) (unset_in (unwrap_or (option_and_then attributes_in o) []) (codes "id"))

    by : (c : Content) → (is_true_state c || is_false_state c) ≡ false → (is_true_state (copied (Some c)) || is_false_state (copied (Some c))) ≡ false
    by Document h = refl
    by (Element name list) h = stateless_same (Element name list) (copied (Some (Element name list))) (editable-unset (codes "id") refl (Element name list)) h
    by (Words chars) h = refl
    by (Remark chars) h = refl

states_extracted : (s t : State) (from : Point) (end target : ℕ) → IsValid t → s.next ≤ t.next → SameStates s t → SameStates s (extracted from end target t)
unfolding tail_of made applied with_change changed trees_after
states_extracted s t from end target is later h =
    either_extracted (SameStates s) from end target t
    (λ may. (
    let tests = extract_tests t from end target may in
    let host = host_of t end tests.end_editable in
    let own = host_of t from.label tests.from_editable in
    let same : Some own.0 ≡ Some host.0 = sym own.1 ∙ host.1 in
    let f = t.trees in
    (fit_steps (λ c. IsCopy c × ((is_true_state c || is_false_state c) ≡ false)) (λ _. Unit {0}) (λ _. Unit {0}) (λ c q. q.0) (λ u. SameStates s u × (s.next ≤ u.next))
    (λ c u is' k q. (states_made s u c is' q.1 k.1 q.0, (let low = q.1 in omega (arith, low))))
    (λ n o u is' _ child q. (states_kept s u (applied (Remove n) u) (λ j. ap (option_map contenteditable) (content_of-unlink u.trees o n j is'.forest.distinct child)) q.0, q.1))
    (λ p b n u is' _ _ can q. (states_kept s u (applied (Insert p b n) u) (λ j. ap (option_map contenteditable) (content_of-link u.trees p b n j is'.forest.distinct can)) q.0, q.1))
    (tail_of t from end target) t
    (tail_fits (λ c. IsCopy c × ((is_true_state c || is_false_state c) ≡ false)) (λ _. Unit {0}) (λ _. Unit {0}) f is.forest.distinct t.next from (λ c. editing_host f c ≡ Some host.0)
    (λ c k above child within. host_between f t.next is.forest host.0 c k from.label above child within (own.2 ∙ same))
    (λ _ _ _ _. tt)
    (λ k e. (let d = hosted_content f t.next is.forest host.0 k e in (is_copy f is.forest.nodes k, copy_stateless f k d.0 d.1 d.2)))
    (λ _ _. tt) (λ _ _. tt) (document_size f) end target t.next host.2 tt (omega arith))
    (tail_possible t is from end target may) is (h, later)).0))
    h

states_acted : (s t : State) (a : Action) → IsValid t → s.next ≤ t.next → LeavesStates a → SameStates s t → SameStates s (acted a t)
unfolding acted extended changed
states_acted s t (action.Change e) is later leaves h = elim (cases_Bool (is_made_edit e t)) [
  | inl may ↦ states_kept s t (edited e t) (λ k. ap (λ f. editable_value f k) (trees_made e t may) ∙ value_after e t k is may leaves) h
  | inr off ↦ states_kept s t (edited e t) (λ k. ap (λ f. editable_value f k) (trees_left e t off)) h
]
states_acted s t (action.MakeElement name attributes) is later leaves h = states_made s t (element_content name attributes) is later (element_stateless (are_distinct attributes) name attributes leaves) h
states_acted s t (action.MakeWords chars) is later leaves h = states_made s t (words_content chars) is later (words_stateless (nat_lt (length chars) (2 ^ 32)) chars) h
states_acted s t (action.Select anchor focus) is later leaves h = states_kept s t (acted (action.Select anchor focus) t) (λ k. ap (λ f. editable_value f k) (trees-selected anchor focus t)) h
states_acted s t (action.Extend focus) is later leaves h = states_kept s t (acted (action.Extend focus) t) (λ k. ap (λ f. editable_value f k) (trees-extended t.points.selection focus t)) h
states_acted s t action.Unselect is later leaves h = states_kept s t (acted action.Unselect t) (λ k. refl) h
states_acted s t (action.Grow at) is later leaves h = states_kept s t (acted (action.Grow at) t) (λ k. ap (λ f. editable_value f k) (trees-grown at t)) h
states_acted s t (action.Send node at tail) is later leaves h = states_kept s t (acted (action.Send node at tail) t) (λ k. ap (λ f. editable_value f k) (trees-sent node at tail t)) h
states_acted s t (action.Scratch pair) is later leaves h = states_kept s t (acted (action.Scratch pair) t) (λ k. ap (λ f. editable_value f k) (trees-scratched pair t)) h
states_acted s t (action.Override command setting) is later leaves h = states_kept s t (acted (action.Override command setting) t) (λ k. refl) h
states_acted s t (action.Flag flags) is later leaves h = states_kept s t (acted (action.Flag flags) t) (λ k. refl) h
states_acted s t (action.Extract from end target) is later leaves h = states_extracted s t from end target is later h

absent_value : (s : State) → IsValid s → (k : ℕ) → s.next ≤ k → stated_value (editable_value s.trees k) ≡ false
absent_value s is k high = ap (λ (o : Option (Seen Content)). stated_value (option_map contenteditable (option_map (λ x. x.content) o))) (seek_absent None s.trees k none)
  where
    none : count_of s.trees k ≡ 0
    none = elim (none_or_some (count_of s.trees k)) [ inl z ↦ z | inr some ↦ absurd (let b = is.forest.below k some in omega (arith, b, high)) ]

pub states_along : {s t : State} (r : Reaches s t) → IsValid s → LeavesStatesOn r → SameStates s t
states_along {s = s} here is leaves = record { same = λ k low. refl; made = λ k high. absent_value s is k high }
states_along {s = s} (onward {t = t} q a) is leaves = states_acted s t a (valid_along q is) (next_along q) leaves.1 (states_along q is leaves.0)
