-- Wrapping a list keeps the order.
use Rattle.std.proofs.Common.{◌≡◌, ℕ, ◌<◌, Bool, true, false, ◌&&◌, eqb, if◌then◌else◌, List, [], ◌∷◌, ◌++◌, Option, Some, None, refl, sym, ap, ◌∙◌, inl, inr, arith}
use Rattle.std.specs.Option.{option_map_or, option_and_then}
use Rattle.std.proofs.lemmas.Bool.{cases_Bool}
use Rattle.edit_model.specs.DomModel.declared.Content.{Content}
use Rattle.edit_model.specs.DomModel.declared.attributes.Attribute.{Attribute}
use Rattle.edit_model.specs.DomModel.Forest.{Seen, either, times, first_in, last_in, put_in, parent_of, prev_of, next_of, children_of, count_of, link}
use Rattle.edit_model.specs.DomModel.Places.{index_of}
use Rattle.edit_model.proofs.DomModel.Lists.{times-append}
use Rattle.edit_model.proofs.DomModel.Stands.{seek_absent}
use Rattle.edit_model.proofs.DomModel.Links.{child_of_parent, times-children_of, parent_of-with_leaf, children_of-with_leaf, children_of-link, eqb_refl_true}
use Rattle.edit_model.specs.State.{State}
use Rattle.edit_model.specs.Kept.{is_thing}
use Rattle.edit_model.specs.Confined.{is_editable_for, may_insert}
use Rattle.edit_model.specs.Edit.{Insert, is_made_edit, trees_after, edited}
use Rattle.edit_model.specs.Action.{made, element_content, acted}
use Rattle.edit_model.specs.History.{document_of}
use Rattle.edit_model.specs.Run.{Run, final, value, done, answer, given, grow}
use Rattle.edit_model.proofs.IslandRuns.{trees_made, trees_left}
use Rattle.edit_model.proofs.OutsideRuns.{trees-grown}
use Rattle.edit_model.proofs.Steps.{final-bind, final-answer, final-look, final-perform, final-make_element, value-bind, value-answer, value-look, value-make_element}
use Rattle.edit_model.proofs.Tests.{inserts}
use Rattle.edit_laws.specs.Order.{KeepsOrder, IsKeeping}
use Rattle.edit_laws.specs.OrderPreserving.{OrderPreserving}
use Rattle.edit_laws.proofs.Adopting.{final_insert_before}
use Rattle.edit_laws.proofs.Around.{self_one, off_by}
use Rattle.edit_laws.proofs.Fronts.{child_by}
use Rattle.edit_laws.proofs.Loose.{IsLoose, none_there}
use Rattle.edit_laws.proofs.NewElements.{new_bare}
use Rattle.edit_laws.proofs.QuietActions.{keeping_edited, keeping_final, bare_insert_keeps}
use Rattle.edit_laws.proofs.Renaming.{made_trees, new_absent, new_loose, keeping_made, keeps_made}
use Rattle.edit_laws.proofs.Subsequences.{keeps_refl, keeps_trans}
use Rattle.edit_laws.proofs.OrderPreserving.{order_preserving}
use Rattle.inline_value.specs.WrapSplit.declared.rule.Criterion.{Criterion}
use Rattle.inline_value.specs.WrapSplit.declared.rule.Recipe.{Recipe}
use Rattle.inline_value.specs.WrapSplit.declared.rule.Recipe.TheVariants.{Nothing, Make}
use Rattle.inline_value.specs.EditActions.Siblings.{first_parent, members}
use Rattle.inline_value.specs.WrapSplit.Target.{meets, if_fits, beside, blank_of, made_of, made_by, target}
use Rattle.inline_value.specs.WrapSplit.Wrap.{all_hidden, widened, moved_in, grow_at, insert_if_loose, filled_from, filled, into_target, wrap_ends, wrap_list, wrap_members, wrap}
use Rattle.command_laws.specs.WrapLaws.{NamesNoThing, MakesNoThing}
use Rattle.command_laws.proofs.Criteria.{meets_bare}
use Rattle.command_laws.proofs.Merging.{order_preserving_rest}
use Rattle.command_laws.proofs.MovingIn.{into_previous, into_next, into_loose}
use Rattle.command_laws.proofs.Splitting.{then_order_preserving, last_some, all_members, parted}
use Rattle.command_laws.proofs.Widening.{Siblings, member, node_before, node_after, widened_siblings, first_parted}

-- the moves and what follows them, once the node stands
filled_keeps : (c : Criterion) (p : ℕ) (list : List ℕ) (a : ℕ) (s : State) → NamesNoThing c → IsKeeping s → KeepsOrder s (final (insert_if_loose p a) s) → KeepsOrder (final (insert_if_loose p a) s) (final (moved_in p list a) (final (insert_if_loose p a) s))
    → KeepsOrder s (final (filled c p list a) s)
unfolding filled filled_from
filled_keeps c p list a s plain is stands moves =
    let t : State = final (insert_if_loose p a) s in
    rw (final-bind, final-look) (keeps_trans stands (then_order_preserving (moved_in p list a) _ t (keeping_final (insert_if_loose p a) s is) moves (order_preserving_rest c p (parent_of t.trees a) plain)))

-- ---- a sibling

insert_if_loose_there : (p a q : ℕ) (s : State) → parent_of s.trees p ≡ Some q → final (insert_if_loose p a) s ≡ s
unfolding insert_if_loose
insert_if_loose_there p a q s up = rw (final-look, up, final-answer) refl

module _ (c : Criterion) (s : State) (is : IsKeeping s) (plain : NamesNoThing c) (o : ℕ) (front list rest : List ℕ) (kids : children_of s.trees o ≡ front ++ (list ++ rest)) (a z : ℕ) (first : first_in list ≡ Some a) (last : last_in list ≡ Some z) where
  there : (p : ℕ) → parent_of s.trees p ≡ Some o → KeepsOrder s (final (moved_in p list a) s) → KeepsOrder s (final (filled c p list a) s)
  there p up moves =
      let stays = insert_if_loose_there p a o s up in
      filled_keeps c p list a s plain is (rw stays (keeps_refl (document_of s.trees))) (rw stays moves)

  previous_filled : (p : ℕ) → prev_of s.trees a ≡ Some p → KeepsOrder s (final (filled c p list a) s)
  previous_filled p prev =
      let r = node_before s is.valid o front list rest kids a p first prev in
      let up = child_by s is.valid o p (let k = ap (λ l. times l p) r.1 in omega (arith, k, times-append r.0 (p ∷ (list ++ rest)) p, self_one p)) in
      there p up (into_previous s is p a o r.0 list rest first r.1)

  next_filled : (p : ℕ) → next_of s.trees z ≡ Some p → meets c s.trees p ≡ true → KeepsOrder s (final (filled c p list a) s)
  next_filled p next fits =
      let r = node_after s is.valid o front list rest kids z p last next in
      let up = child_by s is.valid o p (let k = ap (λ l. times l p) r.1 in omega (arith, k, times-append front (list ++ p ∷ r.0) p, times-append list (p ∷ r.0) p, self_one p)) in
      there p up (into_next s is p a o front list r.0 first r.1 (meets_bare c s p plain fits))

-- ---- a new element

pub grown_trees : (p : ℕ) (s : State) → (final (grow_at p) s).trees ≡ s.trees
unfolding grow_at acted
grown_trees p s = rw final-look (by_parent (parent_of s.trees p))
  where
    by_parent : (q : Option ℕ) → (final (given q done (λ q. grow (record { label = q; offset = index_of s.trees p }))) s).trees ≡ s.trees
    by_parent None = rw final-answer refl
    by_parent (Some q) = rw final-perform (trees-grown (record { label = q; offset = index_of s.trees p }) s)

order_preserving_grow : (p : ℕ) → OrderPreserving (grow_at p)
unfolding grow_at
order_preserving_grow p = search order_preserving

pub put_in-middle : (front rest : List ℕ) (a x : ℕ) → times front a ≡ 0 → put_in (front ++ a ∷ rest) (Some a) x ≡ front ++ x ∷ a ∷ rest
put_in-middle [] rest a x none = rw (eqb_refl_true a) refl
put_in-middle (y ∷ front) rest a x none = rw (other y none) (ap (λ k. y ∷ k) (put_in-middle front rest a x (omega (arith, none))))
  where
    other : (y : ℕ) → times (y ∷ front) a ≡ 0 → eqb a y ≡ false
    other y none = let off = off_by y a (omega (arith, none)) in grind (arith, off)

module _ (s : State) (is : IsKeeping s) (o : ℕ) (front list rest : List ℕ) (kids : children_of s.trees o ≡ front ++ (list ++ rest)) (a : ℕ) (first : first_in list ≡ Some a) (name : List ℕ) (attributes : List Attribute) (named : is_thing name ≡ false) where
  new : Content
  new = element_content name attributes

  x : ℕ
  x = s.next

  s1 : State
  s1 = made new s

  s2 : State
  s2 = edited (Insert o (Some a) x) s1

  s3 : State
  s3 = final (grow_at x) s2

  is1 : IsKeeping s1
  unfolding s1 new
  is1 = keeping_made name attributes s is

  is2 : IsKeeping s2
  unfolding s2
  is2 = keeping_edited (Insert o (Some a) x) s1 is1

  is3 : IsKeeping s3
  unfolding s3
  is3 = keeping_final (grow_at x) s2 is2

  up1 : parent_of s1.trees a ≡ Some o
  unfolding s1
  up1 =
      let r = first_parted list a first in
      let up = member s is.valid o front list rest kids a (let k = ap (λ l. times l a) r.1 in omega (arith, k, self_one a)) in
      ap (λ f. parent_of f a) (made_trees new s) ∙ (parent_of-with_leaf s.trees s.next new (new_absent s is new) a ∙ up)

  root1 : parent_of s1.trees x ≡ None
  unfolding s1 x
  root1 =
      ap (λ f. parent_of f s.next) (made_trees new s)
      ∙ (parent_of-with_leaf s.trees s.next new (new_absent s is new) s.next
      ∙ ap (option_and_then (λ (y : Seen Content). y.parent)) (seek_absent None s.trees s.next (new_absent s is new)))

  children1 : children_of s1.trees o ≡ front ++ (list ++ rest)
  unfolding s1
  children1 = ap (λ f. children_of f o) (made_trees new s) ∙ (children_of-with_leaf s.trees s.next new (new_absent s is new) o ∙ kids)

  stands : final (insert_if_loose x a) s1 ≡ s3
  unfolding insert_if_loose s3 s2
  stands = rw (final-look, root1, final-bind, final_insert_before a x o s1 up1) refl

  keeps1 : KeepsOrder s s1
  unfolding s1 new
  keeps1 = keeps_made name attributes s is

  keeps2 : KeepsOrder s1 s2
  unfolding s2 s1 x new
  keeps2 = bare_insert_keeps o (Some a) s.next s1 is1 (new_bare name attributes s is named)

  keeps3 : KeepsOrder s2 s3
  unfolding s3
  keeps3 = (order_preserving_grow x).keeps s2 is2

  trees3 : s3.trees ≡ s2.trees
  unfolding s3
  trees3 = grown_trees x s2

  where_made : may_insert s1 o (Some a) x ≡ true → KeepsOrder s3 (final (moved_in x list a) s3)
  unfolding s2 is_made_edit trees_after
  where_made = λ may. (
      let now : s2.trees ≡ link s1.trees o (Some a) x = trees_made (Insert o (Some a) x) s1 may in
      let can = (inserts s1 o (Some a) x may).can in
      let once = is1.valid.forest.distinct in
      let r = first_parted list a first in
      let shape : children_of s1.trees o ≡ front ++ a ∷ (r.0 ++ rest) = children1 ∙ ap (λ k. front ++ (k ++ rest)) r.1 in
      let k = ap (λ l. times l a) shape in
      let none : times front a ≡ 0 = omega (arith, k, times-append front (a ∷ (r.0 ++ rest)) a, self_one a, times-children_of s1.trees o a once) in
      let put : children_of s2.trees o ≡ front ++ x ∷ a ∷ (r.0 ++ rest) =
      ap (λ f. children_of f o) now
      ∙ (children_of-link s1.trees o (Some a) x once can o
      ∙ rw (eqb_refl_true o) (ap (λ l. put_in l (Some a) x) shape ∙ put_in-middle front (r.0 ++ rest) a x none)) in
      let stand : children_of s3.trees o ≡ front ++ x ∷ (list ++ rest) = ap (λ f. children_of f o) trees3 ∙ (put ∙ ap (λ k. front ++ x ∷ (k ++ rest)) (sym r.1)) in
      into_previous s3 is3 x a o front list rest first stand)

  where_left : may_insert s1 o (Some a) x ≡ false → KeepsOrder s3 (final (moved_in x list a) s3)
  unfolding s2 is_made_edit s1 x
  where_left = λ off. (
      let stays : s3.trees ≡ s1.trees = trees3 ∙ trees_left (Insert o (Some a) x) s1 off in
      let loose : IsLoose s1 x = none_there (count_of (document_of s1.trees) x) (λ h. new_loose s is new h) in
      into_loose s3 is3 x a list (ap (λ f. count_of (document_of f) x) stays ∙ loose))

  moves_keep : KeepsOrder s3 (final (moved_in x list a) s3)
  moves_keep = elim (cases_Bool (may_insert s1 o (Some a) x)) as (λ _. KeepsOrder s3 (final (moved_in x list a) s3)) [ inl may ↦ where_made may | inr off ↦ where_left off ]

  new_filled : (c : Criterion) → NamesNoThing c → KeepsOrder s (final (filled c s.next list a) (made (element_content name attributes) s))
  unfolding s1 x new
  new_filled c plain = keeps_trans keeps1 (filled_keeps c s.next list a (made (element_content name attributes) s) plain is1 (rw stands (keeps_trans keeps2 keeps3)) (rw stands moves_keep))

-- ---- the node that is chosen

module _ (c : Criterion) (r : Recipe) (s : State) (is : IsKeeping s) (plain : NamesNoThing c) (makes : MakesNoThing r) (o : ℕ) (front list rest : List ℕ) (kids : children_of s.trees o ≡ front ++ (list ++ rest)) (a z : ℕ) (first : first_in list ≡ Some a) (last : last_in list ≡ Some z) where
  -- what follows the choice
  Goes : Run (Option ℕ) → Type 0
  Goes m = KeepsOrder s (final (into_target c list a (value m s)) (final m s))

  with_none : KeepsOrder s (final (into_target c list a None) s)
  unfolding into_target
  with_none = rw final-answer (keeps_refl (document_of s.trees))

  with_some : (p : ℕ) (t : State) → KeepsOrder s (final (filled c p list a) t) → KeepsOrder s (final (into_target c list a (Some p)) t)
  unfolding into_target
  with_some p t k = k

  by_answer : (p : ℕ) → KeepsOrder s (final (filled c p list a) s) → Goes (answer (Some p))
  unfolding Goes
  by_answer p k = rw (value-answer, final-answer) (with_some p s k)

  by_recipe : (r : Recipe) → MakesNoThing r → Goes (made_by r)
  unfolding Goes made_by blank_of made_of
  by_recipe Nothing none = rw (value-answer, final-answer) with_none
  by_recipe (Make blank) none =
      rw (value-bind, value-answer, value-make_element, final-bind, final-answer, final-make_element)
      (with_some s.next (made (element_content blank.name blank.attributes) s) (new_filled s is o front list rest kids a first blank.name blank.attributes none c plain))

  by_next : (n : Option ℕ) → next_of s.trees z ≡ n → Goes (given (if_fits c s n) (made_by r) (λ p. answer (Some p)))
  by_next None e = by_recipe r makes
  by_next (Some p) e = by_test (is_editable_for s p) (meets c s.trees p) refl
    where
      by_test : (v w : Bool) → meets c s.trees p ≡ w → Goes (given (if v && w then Some p else None) (made_by r) (λ p. answer (Some p)))
      by_test true true h = by_answer p (next_filled c s is plain o front list rest kids a z first last p e h)
      by_test true false h = by_recipe r makes
      by_test false w h = by_recipe r makes

  ends_keep : KeepsOrder s (final (wrap_ends c r list a z) s)
  unfolding wrap_ends target beside Goes
  ends_keep = rw (final-bind, final-look, value-look) (by_previous (prev_of s.trees a) refl)
    where
      by_test : (p : ℕ) → prev_of s.trees a ≡ Some p → (v : Bool) → Goes (given (either (if v then Some p else None) (if_fits c s (next_of s.trees z))) (made_by r) (λ p. answer (Some p)))
      by_test p e true = by_answer p (previous_filled c s is plain o front list rest kids a z first last p e)
      by_test p e false = by_next (next_of s.trees z) refl

      by_previous : (n : Option ℕ) → prev_of s.trees a ≡ n → Goes (given (either (if_fits c s n) (if_fits c s (next_of s.trees z))) (made_by r) (λ p. answer (Some p)))
      by_previous None e = by_next (next_of s.trees z) refl
      by_previous (Some p) e = by_test p e (is_editable_for s p && meets c s.trees p)

-- ---- of a list

module _ (c : Criterion) (r : Recipe) (plain : NamesNoThing c) (makes : MakesNoThing r) (s : State) (is : IsKeeping s) (o : ℕ) where
  list_keeps : (list : List ℕ) → Siblings s o list → KeepsOrder s (final (wrap_list c r list) s)
  unfolding wrap_list
  list_keeps list w = by_ends (first_in list) (last_in list) refl refl
    where
      by_ends : (f l : Option ℕ) → first_in list ≡ f → last_in list ≡ l → KeepsOrder s (final (given f (answer None) (λ a. given l (answer None) (λ z. wrap_ends c r list a z))) s)
      by_ends None l e h = rw final-answer (keeps_refl (document_of s.trees))
      by_ends (Some a) None e h = rw final-answer (keeps_refl (document_of s.trees))
      by_ends (Some a) (Some z) e h = ends_keep c r s is plain makes o w.front list w.rest w.is a z e h

  members_keep : (list : List ℕ) → Siblings s o list → KeepsOrder s (final (wrap_members c r list) s)
  unfolding wrap_members
  members_keep [] w = rw (final-look, final-answer) (keeps_refl (document_of s.trees))
  members_keep (a ∷ l) w =
      let z = last_some None a l in
      rw (final-look, z.1) (by_hidden z.0 z.1 (all_hidden s (a ∷ l)))
    where
      by_hidden : (z : ℕ) → last_in (a ∷ l) ≡ Some z → (v : Bool) → KeepsOrder s (final (if v then answer None else wrap_list c r (widened s (a ∷ l) a z)) s)
      by_hidden z e true = rw final-answer (keeps_refl (document_of s.trees))
      by_hidden z e false = list_keeps (widened s (a ∷ l) a z) (widened_siblings s is.valid o (a ∷ l) a z w refl e)

  pub taken_keep : (front list rest : List ℕ) → first_parent s list ≡ Some o → children_of s.trees o ≡ front ++ (members s o list ++ rest) → KeepsOrder s (final (wrap c r list) s)
  unfolding wrap
  taken_keep front list rest up kids = rw (final-look, up) (members_keep (members s o list) (record { front = front; rest = rest; is = kids }))

-- nothing is wrapped without a parent
pub parentless : (c : Criterion) (r : Recipe) (list : List ℕ) (s : State) → first_parent s list ≡ None → KeepsOrder s (final (wrap c r list) s)
unfolding wrap
parentless c r list s none = rw (final-look, none, final-answer) (keeps_refl (document_of s.trees))

pub wrap_keeps : (c : Criterion) (r : Recipe) (front list rest : List ℕ) (o : ℕ) (s : State) → NamesNoThing c → MakesNoThing r → IsKeeping s → children_of s.trees o ≡ front ++ (list ++ rest) → KeepsOrder s (final (wrap c r list) s)
unfolding first_parent
wrap_keeps c r front [] rest o s plain makes is kids = parentless c r [] s refl
wrap_keeps c r front (a ∷ l) rest o s plain makes is kids =
    let owned : (n : ℕ) → 0 < times (a ∷ l) n → parent_of s.trees n ≡ Some o = λ n h. member s is.valid o front (a ∷ l) rest kids n h in
    let up : parent_of s.trees a ≡ Some o = owned a (omega (arith, self_one a)) in
    taken_keep c r plain makes s is o front (a ∷ l) rest (ap (λ p. either p (first_parent s l)) up) (kids ∙ ap (λ k. front ++ (k ++ rest)) (sym (all_members s o (a ∷ l) owned)))

-- of a list that is together
pub together_keeps : (c : Criterion) (r : Recipe) → NamesNoThing c → MakesNoThing r → (s : State) → IsKeeping s → (list : List ℕ) → ((o : ℕ) → Siblings s o (members s o list)) → KeepsOrder s (final (wrap c r list) s)
together_keeps c r plain makes s is list all = by_parent (first_parent s list) refl
  where
    by_parent : (p : Option ℕ) → first_parent s list ≡ p → KeepsOrder s (final (wrap c r list) s)
    by_parent None none = parentless c r list s none
    by_parent (Some o) up = let w = all o in taken_keep c r plain makes s is o w.front list w.rest up w.is

-- ---- of one node

pub order_preserving_wrap_one : (c : Criterion) (r : Recipe) (n : ℕ) → NamesNoThing c → MakesNoThing r → OrderPreserving (wrap c r (n ∷ []))
unfolding first_parent
order_preserving_wrap_one c r n plain makes = record { keeps = λ s is. by_parent s is (parent_of s.trees n) refl }
  where
    by_parent : (s : State) → IsKeeping s → (o : Option ℕ) → parent_of s.trees n ≡ o → KeepsOrder s (final (wrap c r (n ∷ [])) s)
    by_parent s is None root = parentless c r (n ∷ []) s (ap (λ p. either p None) root)
    by_parent s is (Some o) up =
        let w = child_of_parent s.trees n o is.valid.forest.distinct up in
        let own : children_of s.trees o ≡ w.0.children = ap (λ (k : Option (Seen Content)). option_map_or (λ (y : Seen Content). y.children) k []) w.2 in
        let p = parted w.0.children n w.3 in
        wrap_keeps c r p.0 (n ∷ []) p.1 o s plain makes is (own ∙ p.2)
