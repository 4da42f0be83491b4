-- What lies outside the affected host stays, whatever a command does.
use Rattle.std.proofs.Common.{◌≡◌, ◌≢◌, ℕ, zero, suc, ◌<◌, true, false, ◌&&◌, cond, eqb, Option, Some, None, refl, sym, ap, subst, ◌∙◌, inl, inr, arith, true≢false}
use Rattle.std.specs.Prelude.{unwrap_or}
use Rattle.std.specs.Option.{option_map_or}
use Rattle.std.proofs.lemmas.Bool.{or_cases, leb-true}
use Rattle.point_order.specs.DomModel.declared.Content.{Content}
use Rattle.edit_model.specs.Overrides.{with_setting}
use Rattle.point_order.specs.DomModel.Editing.{editing_host, is_editable}
use Rattle.point_order.specs.DomModel.Forest.{Forest, is_label, count_of, tree_of, unlink, with_leaf}
use Rattle.point_order.proofs.DomModel.Totals.{total-without}
use Rattle.point_order.specs.LiveRange.declared.places.Point.{Point}
use Rattle.point_order.specs.LiveRange.declared.places.Pair.{Pair}
use Rattle.edit_model.specs.State.{State}
use Rattle.edit_model.specs.Confined.{is_editable_for, is_inside, is_made, is_open, is_own, may_select, may_grow, may_send}
use Rattle.edit_model.specs.Edit.{Edit, Insert, Remove, Move, Replace, Set, Unset, is_made_edit, trees_after, changed, with_change, edited, with_replaced, with_set, with_unset}
use Rattle.edit_model.specs.Action as action
use Rattle.edit_model.specs.Action.{Action, made, words_content, element_content, with_selection, selected, extended_from, extended, grown, sent, scratched, acted}
use Rattle.edit_model.specs.Run.{Reaches}
use Rattle.edit_model.specs.Valid.{IsForest, IsValid}
use Rattle.edit_model.specs.Outside.{hollowed, outside_by, outside, IsConfined}
use Rattle.edit_model.proofs.Steps.{along, either_way}
use Rattle.edit_model.proofs.CommandParts.{command_acted}
use Rattle.edit_model.proofs.Tests.{label_is, inserts, removes, goes, replaces, set_own, unset_own, parent_there}
use Rattle.edit_model.proofs.Forests.{forest-unlink, fresh, can_go}
use Rattle.edit_model.proofs.Documents.{document-link, document-unlink, document-with_leaf, document-revised}
use Rattle.edit_model.proofs.Made.{made_forest}
use Rattle.edit_model.proofs.ValidRuns.{chosen, valid_acted}
use Rattle.edit_model.proofs.TailOutside.{outside-extracted}
use Rattle.edit_model.proofs.Hollow.{hollowed_absent, hollowed-put_under, hollowed-without, hollowed-revised, editable_below, below_left_out, child_left_out}

-- ---- the host, or a label that no node has

abbrev pub rim : State → ℕ
rim s = unwrap_or s.host s.next

-- what the document is without the children of the rim
abbrev pub rest_of : State → Forest Content → Forest Content
rest_of s f = hollowed (tree_of f 0) (rim s)

pub outside_is : (host : Option ℕ) (f : Forest Content) (next : ℕ) → IsForest f next → outside_by host f ≡ hollowed (tree_of f 0) (unwrap_or host next)
outside_is (Some h) f next is = refl
outside_is None f next is =
    sym (hollowed_absent (tree_of f 0) next (
    let none = fresh f next is in
    omega (arith, none, total-without (λ m _. cond (eqb m next) 1 0) f 0)))

-- ---- what the tests of nodes tell

module _ (s : State) (is : IsValid s) (confined : IsConfined s) where
  editable_out : (l : ℕ) → is_editable_for s l ≡ true → count_of (rest_of s s.trees) l ≡ 0
  unfolding is_editable_for
  editable_out l h = by_host s.host h
    where
      by_host : (o : Option ℕ) → option_map_or (λ k. is_editable s.trees k l) o false ≡ true → count_of (hollowed (tree_of s.trees 0) (unwrap_or o s.next)) l ≡ 0
      by_host None h = absurd (true≢false (sym h))
      by_host (Some k) h =
          let below = editable_below s.trees is.forest.distinct l k (label_is (editing_host s.trees l) k h) in
          below_left_out s.trees s.next is.forest k l below.0 below.1

  made_out : (l : ℕ) → is_made s l ≡ true → count_of (rest_of s s.trees) l ≡ 0
  unfolding is_made outside
  made_out l h = by_count (count_of (rest_of s s.trees) l) refl
    where
      by_count : (k : ℕ) → count_of (rest_of s s.trees) l ≡ k → k ≡ 0
      by_count zero e = refl
      by_count (suc k) e = absurd (
          let same : count_of (outside s) l ≡ count_of (rest_of s s.trees) l = ap (λ g. count_of g l) (outside_is s.host s.trees s.next is.forest) in
          let early = confined.before l (omega (arith, same, e)) in
          omega (arith, early, leb-true s.start l h))

  pub open_out : (p : ℕ) → is_open s p ≡ true → p ≢ rim s → count_of (rest_of s s.trees) p ≡ 0
  unfolding is_open is_inside
  open_out p h off = elim (or_cases (is_inside s p) (is_made s p) h) [
    | inl inside ↦ elim (or_cases (is_label s.host p) (is_editable_for s p) inside) [
      | inl host ↦ absurd (off (sym (ap (λ (o : Option ℕ). unwrap_or o s.next) (label_is s.host p host))))
      | inr editable ↦ editable_out p editable
    ]
    | inr own ↦ made_out p own
  ]

  pub own_out : (l : ℕ) → is_own s l ≡ true → count_of (rest_of s s.trees) l ≡ 0
  unfolding is_own
  own_out l h = elim (or_cases (is_editable_for s l) (is_made s l) h) [
    | inl editable ↦ editable_out l editable
    | inr own ↦ made_out l own
  ]

  -- ---- each edit that is made

  same_rest : (e : Edit) → is_made_edit e s ≡ true → rest_of s (trees_after e s.trees) ≡ rest_of s s.trees
  unfolding is_made_edit trees_after
  same_rest (Insert p b n) may =
      let t = inserts s p b n may in
      ap (λ g. hollowed g (rim s)) (document-link s.trees s.next is.forest p b n t.can)
      ∙ hollowed-put_under (tree_of s.trees 0) (rim s) p b (tree_of s.trees n) (open_out p t.allowed)
  same_rest (Remove n) may =
      let t = removes s n may in
      ap (λ g. hollowed g (rim s)) (document-unlink s.trees s.next is.forest t.from n t.child)
      ∙ hollowed-without (tree_of s.trees 0) (rim s) n (child_left_out s.trees s.next is.forest (rim s) t.from n t.child (open_out t.from t.allowed))
  same_rest (Move n p b) may =
      let t = goes s n p b may in
      let f = s.trees in
      let loose = forest-unlink f s.next is.forest t.from n t.child in
      let can = can_go f s.next is.forest t.from n p b t.child t.apart t.parent (parent_there f p t.parent) t.before in
      let taken : rest_of s (unlink f n) ≡ rest_of s f =
      ap (λ g. hollowed g (rim s)) (document-unlink f s.next is.forest t.from n t.child)
      ∙ hollowed-without (tree_of f 0) (rim s) n (child_left_out f s.next is.forest (rim s) t.from n t.child (open_out t.from t.allowed_from)) in
      ap (λ g. hollowed g (rim s)) (document-link (unlink f n) s.next loose p b n can)
      ∙ (hollowed-put_under (tree_of (unlink f n) 0) (rim s) p b (tree_of (unlink f n) n) (λ off. ap (λ g. count_of g p) taken ∙ open_out p t.allowed_to off)
      ∙ taken)
  same_rest (Replace n at count put) may =
      let t = replaces s n at count put may in
      ap (λ g. hollowed g (rim s)) (document-revised s.trees s.next is.forest n (with_replaced at count put))
      ∙ hollowed-revised (tree_of s.trees 0) (rim s) n (with_replaced at count put) (own_out n t.own)
  same_rest (Set n name value) may =
      ap (λ g. hollowed g (rim s)) (document-revised s.trees s.next is.forest n (with_set name value))
      ∙ hollowed-revised (tree_of s.trees 0) (rim s) n (with_set name value) (own_out n (set_own s n name value may))
  same_rest (Unset n name) may =
      ap (λ g. hollowed g (rim s)) (document-revised s.trees s.next is.forest n (with_unset name))
      ∙ hollowed-revised (tree_of s.trees 0) (rim s) n (with_unset name) (own_out n (unset_own s n name may))

  -- ---- each action

  outside_edited : (e : Edit) → outside (edited e s) ≡ outside s
  unfolding edited changed with_change outside
  outside_edited e =
      let P : State → Type 0 = λ t. outside_by t.host t.trees ≡ outside_by s.host s.trees in
      chosen P (is_made_edit e s)
      (λ may.
      outside_is s.host (trees_after e s.trees) s.next (made_forest e s is may)
      ∙ (same_rest e may ∙ sym (outside_is s.host s.trees s.next is.forest)))
      refl

  outside_made : (c : Content) → outside (made c s) ≡ outside s
  unfolding made outside
  outside_made c = by_host s.host
    where
      by_host : (o : Option ℕ) → outside_by o (with_leaf s.trees s.next c) ≡ outside_by o s.trees
      by_host None = document-with_leaf s.trees s.next is.forest s.next c
      by_host (Some h) = ap (λ g. hollowed g h) (document-with_leaf s.trees s.next is.forest s.next c)

-- ---- selecting steps and settings leave the trees

outside_same : (s t : State) → t.trees ≡ s.trees → t.host ≡ s.host → outside t ≡ outside s
unfolding outside
outside_same s t trees host = ap (λ f. outside_by t.host f) trees ∙ ap (λ o. outside_by o s.trees) host

abbrev SameTrees : State → State → Type 0
SameTrees s t = t.trees ≡ s.trees

pub trees-extended : (o : Option Pair) (at : Point) (s : State) → (extended_from o at s).trees ≡ s.trees
unfolding changed
trees-extended None at s = refl
trees-extended (Some pair) at s = either_way (SameTrees s) (may_select s at) refl refl

pub trees-selected : (anchor focus : Point) (s : State) → (selected anchor focus s).trees ≡ s.trees
unfolding selected changed
trees-selected anchor focus s = either_way (SameTrees s) (may_select s anchor && may_select s focus) refl refl

pub trees-grown : (at : Point) (s : State) → (grown at s).trees ≡ s.trees
unfolding grown changed
trees-grown at s = either_way (SameTrees s) (may_grow s at) refl refl

pub trees-sent : (n at tail : ℕ) (s : State) → (sent n at tail s).trees ≡ s.trees
unfolding sent changed
trees-sent n at tail s = either_way (SameTrees s) (may_send s n at tail) refl refl

pub trees-scratched : (pair : Pair) (s : State) → (scratched pair s).trees ≡ s.trees
unfolding scratched
trees-scratched pair s = either_way (SameTrees s) (may_select s pair.anchor && may_select s pair.focus) refl refl

pub outside-acted : (a : Action) (s : State) → IsValid s → IsConfined s → outside (acted a s) ≡ outside s
unfolding acted extended changed
outside-acted (action.Change e) s is confined = outside_edited s is confined e
outside-acted (action.MakeElement name attributes) s is confined = outside_made s is confined (element_content name attributes)
outside-acted (action.MakeWords chars) s is confined = outside_made s is confined (words_content chars)
outside-acted (action.Select anchor focus) s is confined = outside_same s (selected anchor focus s) (trees-selected anchor focus s) (command_acted (action.Select anchor focus) s).host
outside-acted (action.Extend focus) s is confined = outside_same s (extended_from s.points.selection focus s) (trees-extended s.points.selection focus s) (command_acted (action.Extend focus) s).host
outside-acted action.Unselect s is confined = outside_same s (with_selection None s) refl refl
outside-acted (action.Grow at) s is confined = outside_same s (grown at s) (trees-grown at s) (command_acted (action.Grow at) s).host
outside-acted (action.Send node at tail) s is confined = outside_same s (sent node at tail s) (trees-sent node at tail s) (command_acted (action.Send node at tail) s).host
outside-acted (action.Scratch pair) s is confined = outside_same s (scratched pair s) (trees-scratched pair s) (command_acted (action.Scratch pair) s).host
outside-acted (action.Override command setting) s is confined = outside_same s (record s { overrides = with_setting s.overrides command setting }) refl refl
outside-acted (action.Flag flags) s is confined = outside_same s (record s { flags = flags }) refl refl
outside-acted (action.Extract from end target) s is confined = outside-extracted from end target s is confined

-- ---- every run

pub record KeepsOutside (s t : State) : Type 0 where
  pub valid : IsValid t
  pub confined : IsConfined t
  pub same : outside t ≡ outside s

pub keeps_outside : (s : State) (a : Action) (t : State) → KeepsOutside s t → KeepsOutside s (acted a t)
keeps_outside s a t h =
    let same = outside-acted a t h.valid h.confined in
    record {
      valid = valid_acted a t h.valid;
      confined = record { before = λ l some. subst (λ k. l < k) (sym (command_acted a t).start) (h.confined.before l (subst (λ g. 0 < count_of g l) same some)) };
      same = same ∙ h.same;
    }

pub outside_along : {s t : State} → Reaches s t → IsValid s → IsConfined s → KeepsOutside s t
outside_along {s = s} r is confined = along (KeepsOutside s) (keeps_outside s) r (record { valid = is; confined = confined; same = refl })
