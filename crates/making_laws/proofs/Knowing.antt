-- Known nodes stay known along a tame way.
use Rattle.std.proofs.Common.{◌≡◌, ℕ, ◌<◌, ◌^◌, Bool, true, false, not, if◌then◌else◌, cond, eqb, List, [], length, Option, Some, None, refl, sym, ap, subst, ◌∙◌, inl, inr, arith}
use Rattle.std.specs.Prelude.{nat_lt, codes, unwrap_or}
use Rattle.std.specs.Option.{option_map, option_and_then}
use Rattle.std.proofs.lemmas.Bool.{and_parts, cases_Bool}
use Rattle.std.proofs.lemmas.Bool.Decides.{eqb_tells}
use Rattle.edit_model.specs.DomModel.declared.Content.{Content}
use Rattle.edit_model.specs.DomModel.declared.Content.TheVariants.{Document, Element, Words, Remark}
use Rattle.edit_model.specs.DomModel.declared.attributes.Attribute.{Attribute}
use Rattle.edit_model.specs.DomModel.AttributeList.{are_distinct}
use Rattle.edit_model.specs.DomModel.Contents.{name_in, is_parent_at}
use Rattle.edit_model.specs.DomModel.Editing.{editing_host}
use Rattle.edit_model.specs.DomModel.Forest.{Forest, IsWithin, count_of, parent_of, content_of, link, unlink, with_leaf}
use Rattle.edit_model.specs.DomModel.Revised.{revised}
use Rattle.edit_model.proofs.DomModel.Kept.{content_of-link, content_of-unlink, content_of-with_leaf_other, content_of-with_leaf_new}
use Rattle.edit_model.proofs.DomModel.Links.{parent_count}
use Rattle.edit_model.proofs.DomModel.Totals.{total-without}
use Rattle.edit_model.proofs.DomModel.Revising.{content_of-revised}
use Rattle.edit_model.specs.LiveRange.declared.places.Point.{Point}
use Rattle.edit_model.specs.PointOrder.PointOrder.{is_in_document}
use Rattle.edit_model.specs.State.{State}
use Rattle.edit_model.specs.Confined.{is_editable_for}
use Rattle.edit_model.specs.Compositions.{attribute_list_of}
use Rattle.edit_model.specs.Edit.{Edit, Insert, Remove, Move, Replace, Set, Unset, is_made_edit, trees_after, changed, with_change, with_replaced, with_set, with_unset}
use Rattle.edit_model.specs.Action as action
use Rattle.edit_model.specs.Tail.{copy_of, document_size}
use Rattle.edit_model.specs.Action.{Action, made, applied, tail_of, may_extract, extracted, words_content, extended, acted, element_content}
use Rattle.edit_model.specs.Run.{Reaches, here, onward}
use Rattle.edit_model.specs.Valid.{IsValid}
use Rattle.edit_model.proofs.Tests.{inserts, removes, goes, parent_there}
use Rattle.edit_model.proofs.Forests.{forest-unlink, can_go, fresh}
use Rattle.edit_model.proofs.ValidRuns.{valid_along}
use Rattle.edit_model.proofs.OutsideRuns.{trees-extended, trees-selected, trees-grown, trees-sent, trees-scratched}
use Rattle.edit_model.proofs.IslandRuns.{trees_made, trees_left}
use Rattle.edit_model.proofs.TailPossible.{tail_possible}
use Rattle.edit_model.proofs.TailPlan.{IsCopy, is_copy, tail_fits}
use Rattle.edit_model.proofs.TailSteps.{extract_tests, either_extracted}
use Rattle.edit_model.proofs.TailRuns.{fit_steps}
use Rattle.edit_model.proofs.TailOutside.{host_of}
use Rattle.edit_model.proofs.TailStates.{host_between}
use Rattle.inline_value.specs.ForestChanges.Named.{Each}
use Rattle.making_laws.specs.Known.{Source, IsKnown, IsKnownName, IsKnownCharacter, KnowsAll}
use Rattle.making_laws.specs.Names.{is_set_name}
use Rattle.making_laws.specs.Tame.{IsTameEdit, IsTame, TameOn}
use Rattle.making_laws.proofs.Attributes.{each_set, each_unset, list_known}
use Rattle.making_laws.proofs.Characters.{each_spliced}
use Rattle.making_laws.proofs.Named.{IsNamed, named_within}

module _ (source : Source) where
  -- ---- contents

  known_replaced : (at count : ℕ) (put : List ℕ) → Each (IsKnownCharacter source) put → (c : Content) → IsKnown source c → IsKnown source (with_replaced at count put c)
  known_replaced at count put own Document k = tt
  known_replaced at count put own (Element name list) k = k
  known_replaced at count put own (Words chars) k = each_spliced (IsKnownCharacter source) chars at count put k own
  known_replaced at count put own (Remark chars) k = k

  known_set : (name value : List ℕ) → is_set_name name ≡ true → (c : Content) → IsKnown source c → IsKnown source (with_set name value c)
  known_set name value set Document k = tt
  known_set name value set (Element tag list) k = (k.0, each_set source.forest list name value set k.1)
  known_set name value set (Words chars) k = k
  known_set name value set (Remark chars) k = k

  known_unset : (name : List ℕ) (c : Content) → IsKnown source c → IsKnown source (with_unset name c)
  known_unset name Document k = tt
  known_unset name (Element tag list) k = (k.0, each_unset source.forest list name k.1)
  known_unset name (Words chars) k = k
  known_unset name (Remark chars) k = k

  known_words : (b : Bool) (chars : List ℕ) → Each (IsKnownCharacter source) chars → IsKnown source (if b then Words chars else Words [])
  known_words true chars own = own
  known_words false chars own = tt

  known_element : (b : Bool) (name : List ℕ) (list : List Attribute) → IsKnown source (Element name list) → IsKnown source (Element name (if b then list else []))
  known_element true name list own = own
  known_element false name list own = (own.0, tt)

  -- ---- forests

  pub knows_by : (g h : Forest Content) → ((l : ℕ) → content_of h l ≡ content_of g l) → KnowsAll source g → KnowsAll source h
  knows_by g h same known l c e = known l c (sym (same l) ∙ e)

  knows_made : (s : State) (c : Content) → IsValid s → IsKnown source c → KnowsAll source s.trees → KnowsAll source (made c s).trees
  unfolding made
  knows_made s c is new known l d e = elim (eqb_tells s.next l) [
    | inl (_, same) ↦ (
        let at : Some c ≡ Some d = sym (content_of-with_leaf_new s.trees s.next c (fresh s.trees s.next is.forest)) ∙ (ap (λ j. content_of (with_leaf s.trees s.next c) j) same ∙ e) in
        let equal : c ≡ d = (let t = at in cc) in
        subst (IsKnown source) equal new)
    | inr (_, off) ↦ known l d (sym (content_of-with_leaf_other s.trees s.next c l (fresh s.trees s.next is.forest) off) ∙ e)
  ]

  knows_revised : (g : Forest Content) (n : ℕ) (h : Content → Content) → ((c : Content) → IsKnown source c → IsKnown source (h c)) → KnowsAll source g → KnowsAll source (revised g n h)
  knows_revised g n h keeps known l d e = by_content (eqb n l) (content_of g l) refl (sym (content_of-revised n h g l) ∙ e)
    where
      by_content : (v : Bool) (o : Option Content) → content_of g l ≡ o → option_map (λ c. cond v (h c) c) o ≡ Some d → IsKnown source d
      by_content v None at e = absurd (let t : None ≡ Some d = e in cc)
      by_content true (Some c) at e = (let equal : h c ≡ d = (let t : Some (h c) ≡ Some d = e in cc) in subst (IsKnown source) equal (keeps c (known l c at)))
      by_content false (Some c) at e = (let equal : c ≡ d = (let t : Some c ≡ Some d = e in cc) in subst (IsKnown source) equal (known l c at))

  knows_after : (e : Edit) (s : State) → IsValid s → is_made_edit e s ≡ true → IsTameEdit source e → KnowsAll source s.trees → KnowsAll source (trees_after e s.trees)
  unfolding is_made_edit trees_after
  knows_after (Insert p b n) s is may brings known = knows_by s.trees (link s.trees p b n) (λ l. content_of-link s.trees p b n l is.forest.distinct (inserts s p b n may).can) known
  knows_after (Remove n) s is may brings known = (let t = removes s n may in knows_by s.trees (unlink s.trees n) (λ l. content_of-unlink s.trees t.from n l is.forest.distinct t.child) known)
  knows_after (Move n p b) s is may brings known =
      let t = goes s n p b may in
      let g = s.trees in
      let loose = forest-unlink g s.next is.forest t.from n t.child in
      let can = can_go g s.next is.forest t.from n p b t.child t.apart t.parent (parent_there g p t.parent) t.before in
      knows_by g (link (unlink g n) p b n) (λ l. content_of-link (unlink g n) p b n l loose.distinct can ∙ content_of-unlink g t.from n l is.forest.distinct t.child) known
  knows_after (Replace n at count put) s is may brings known = knows_revised s.trees n (with_replaced at count put) (known_replaced at count put brings) known
  knows_after (Set n name value) s is may brings known = knows_revised s.trees n (with_set name value) (known_set name value brings) known
  knows_after (Unset n name) s is may brings known = knows_revised s.trees n (with_unset name) (known_unset name) known

  -- ---- an extraction

  copy_known : (g : Forest Content) (k : ℕ) → KnowsAll source g → IsNamed g k → IsKnown source (copy_of g k)
  unfolding copy_of
  copy_known g k known (name, e) =
      let tag : IsKnownName source.forest name = by_content (content_of g k) refl e in
      (subst (IsKnownName source.forest) (sym (ap (λ (o : Option (List ℕ)). unwrap_or o []) e)) tag, each_unset source.forest (attribute_list_of g k) (codes "id") (list_known source g k known))
    where
      by_content : (o : Option Content) → content_of g k ≡ o → option_and_then name_in o ≡ Some name → IsKnownName source.forest name
      by_content None at t = absurd (let u : None ≡ Some name = t in cc)
      by_content (Some Document) at t = absurd (let u : None ≡ Some name = t in cc)
      by_content (Some (Element own list)) at t = (let same : own ≡ name = (let u : Some own ≡ Some name = t in cc) in subst (IsKnownName source.forest) same (known k (Element own list) at).0)
      by_content (Some (Words chars)) at t = absurd (let u : None ≡ Some name = t in cc)
      by_content (Some (Remark chars)) at t = absurd (let u : None ≡ Some name = t in cc)

  -- the node of the point may have children
  from_open : (s : State) (from : Point) (end target : ℕ) → may_extract s from end target ≡ true → is_parent_at s.trees from.label ≡ true
  unfolding may_extract
  from_open s from end target may =
      let h1 = and_parts (not s.keeping) _ may in
      let h2 = and_parts (is_editable_for s end) _ h1.1 in
      let h3 = and_parts (is_in_document s.trees end) _ h2.1 in
      let h4 = and_parts (is_editable_for s from.label) _ h3.1 in
      (and_parts (is_parent_at s.trees from.label) _ h4.1).0

  knows_extracted : (s : State) (from : Point) (end target : ℕ) → IsValid s → KnowsAll source s.trees → KnowsAll source (extracted from end target s).trees
  unfolding tail_of made applied with_change changed trees_after
  knows_extracted s from end target is known =
      either_extracted (λ u. KnowsAll source u.trees) from end target s
      (λ may. (
      let tests = extract_tests s from end target may in
      let host = host_of s end tests.end_editable in
      let own = host_of s from.label tests.from_editable in
      let same : Some own.0 ≡ Some host.0 = sym own.1 ∙ host.1 in
      let g = s.trees in
      let bears = from_open s from end target may in
      let there = λ (c k : ℕ) (child : parent_of g k ≡ Some c). (parent_count g k c is.forest.distinct child).0 in
      fit_steps (λ c. IsCopy c × IsKnown source c) (λ _. Unit {0}) (λ _. Unit {0}) (λ c q. q.0) (λ u. KnowsAll source u.trees)
      (λ c u is' k q. knows_made u c is' k.1 q)
      (λ n o u is' _ child q. knows_by u.trees (unlink u.trees n) (λ j. content_of-unlink u.trees o n j is'.forest.distinct child) q)
      (λ p b n u is' _ _ can q. knows_by u.trees (link u.trees p b n) (λ j. content_of-link u.trees p b n j is'.forest.distinct can) q)
      (tail_of s from end target) s
      (tail_fits (λ c. IsCopy c × IsKnown source c) (λ _. Unit {0}) (λ _. Unit {0}) g is.forest.distinct s.next from
      (λ c. (editing_host g c ≡ Some host.0) × (IsWithin g c from.label × (0 < count_of g c)))
      (λ c k above child within. (host_between g s.next is.forest host.0 c k from.label above.0 child within (own.2 ∙ same), (within, there c k child)))
      (λ _ _ _ _. tt)
      (λ k e. (is_copy g is.forest.nodes k, copy_known g k known (named_within g s.next is.forest host.0 k from.label e.0 e.1.0 bears e.1.1)))
      (λ _ _. tt) (λ _ _. tt) (document_size g) end target s.next (host.2, (tests.below, end_there s end tests.end_inside)) tt (omega arith))
      (tail_possible s is from end target may) is known))
      known
    where
      end_there : (s : State) (end : ℕ) → IsWithin s.trees 0 end → 0 < count_of s.trees end
      end_there s end inside = omega (arith, inside, total-without (λ m _. cond (eqb m end) 1 0) s.trees 0)

  -- ---- an action

  knows_acted : (a : Action) (s : State) → IsValid s → IsTame source a → KnowsAll source s.trees → KnowsAll source (acted a s).trees
  unfolding acted extended changed
  knows_acted (action.Change e) s is tame known = elim (cases_Bool (is_made_edit e s)) [
    | inl may ↦ subst (KnowsAll source) (sym (trees_made e s may)) (knows_after e s is may tame known)
    | inr off ↦ subst (KnowsAll source) (sym (trees_left e s off)) known
  ]
  knows_acted (action.MakeElement name attributes) s is tame known = knows_made s (element_content name attributes) is (known_element (are_distinct attributes) name attributes tame) known
  knows_acted (action.MakeWords chars) s is tame known = knows_made s (words_content chars) is (known_words (nat_lt (length chars) (2 ^ 32)) chars tame) known
  knows_acted (action.Select anchor focus) s is tame known = subst (KnowsAll source) (sym (trees-selected anchor focus s)) known
  knows_acted (action.Extend focus) s is tame known = subst (KnowsAll source) (sym (trees-extended s.points.selection focus s)) known
  knows_acted action.Unselect s is tame known = known
  knows_acted (action.Grow at) s is tame known = subst (KnowsAll source) (sym (trees-grown at s)) known
  knows_acted (action.Send node at tail) s is tame known = subst (KnowsAll source) (sym (trees-sent node at tail s)) known
  knows_acted (action.Scratch pair) s is tame known = subst (KnowsAll source) (sym (trees-scratched pair s)) known
  knows_acted (action.Override command setting) s is tame known = known
  knows_acted (action.Flag flags) s is tame known = known
  knows_acted (action.Extract from end target) s is tame known = knows_extracted s from end target is known

  pub knows_along : {s t : State} (r : Reaches s t) → IsValid s → KnowsAll source s.trees → TameOn source r → KnowsAll source t.trees
  knows_along here is known tame = known
  knows_along (onward {t = t} q a) is known tame = knows_acted a t (valid_along q is) tame.1 (knows_along q is known tame.0)
