-- The steps of a tail, a call at a time.
use Rattle.std.proofs.Common.{◌≡◌, ◌≢◌, ℕ, zero, suc, ◌+◌, ◌<◌, ◌≤◌, Bool, true, false, true≢false, not, ◌&&◌, cond, eqb, nat_lt, List, [], ◌∷◌, ◌++◌, length, drop, get_or, Option, Some, None, Result, Ok, Err, refl, sym, ap, subst, ◌∙◌, inl, inr, arith}
use Rattle.std.specs.Prelude.{unwrap_or, codes, IfOk, IfErr, OnOk}
use Rattle.std.specs.List.{find}
use Rattle.std.specs.Option.{option_map, option_map_or, option_and_then}
use Rattle.std.specs.Result.{IsErrAnd}
use Rattle.std.proofs.lemmas.Bool.{cases_Bool, and_parts, eq-eqb, ne_eqb, ltb-true}
use Rattle.std.proofs.lemmas.Bool.Decides.{eqb_tells}
use Rattle.edit_model.specs.DomModel.declared.Content.{Content}
use Rattle.edit_model.specs.DomModel.declared.Content.TheVariants.{Document, Element, Words, Remark}
use Rattle.edit_model.specs.DomModel.declared.attributes.Attribute.{Attribute}
use Rattle.edit_model.specs.DomModel.AttributeList.{unset_in, IsDistinctNames}
use Rattle.edit_model.specs.DomModel.Contents.{may_have_children, is_element, is_element_at, is_parent_at, name_of, attributes_of, name_in, attributes_in}
use Rattle.edit_model.specs.DomModel.Forest.{Forest, Seen, tops, times, total, count_of, tree_of, parent_of, children_of, content_of, with_leaf, IsDistinct}
use Rattle.edit_model.specs.DomModel.Forest.Forest.{Nil, Tree}
use Rattle.edit_model.specs.DomModel.Places.{index_of, place_in}
use Rattle.edit_model.proofs.DomModel.Stands.{Stands, Stands-tree_of, seek_Stands}
use Rattle.edit_model.proofs.DomModel.Kept.{content_of-with_leaf_other}
use Rattle.edit_model.proofs.DomModel.Links.{tree_is, parent_count, seen, children_of-with_leaf}
use Rattle.edit_model.proofs.DomModel.Totals.{total-without}
use Rattle.edit_model.specs.LiveRange.declared.places.Point.{Point}
use Rattle.edit_model.specs.PointOrder.PointOrder.{is_within, is_in_document, child_toward}
use Rattle.edit_model.specs.NodeArena.declared.NodeRef.{NodeRef}
use Rattle.edit_model.specs.declared.settings.EditFault.{EditFault}
use Rattle.edit_model.specs.declared.settings.EditFault.TheVariants.{Full, Memory}
use Rattle.edit_model.specs.State.{State, IsPastCap}
use Rattle.edit_model.specs.Confined.{is_editable_for, is_made, may_remove, may_leave}
use Rattle.edit_model.specs.Edit.{Insert, Remove, is_made_edit, changed, with_change}
use Rattle.edit_model.specs.Tail.{Step, Copy, Do, carried, later, copy_of, tail_steps, document_size}
use Rattle.edit_model.specs.Action.{Extract, made, applied, stepped, stepped_all, tail_of, may_extract, extracted, acted}
use Rattle.edit_model.specs.Run.{extract_tail, make_element, final}
use Rattle.edit_model.specs.Gives.{labels_of, Fails, Gives, GivesNode}
use Rattle.edit_model.specs.Possible.{freed, is_possible, are_possible}
use Rattle.edit_model.specs.Valid.{IsValid}
use Rattle.edit_model.proofs.Giving.{final_distinct_element}
use Rattle.edit_model.proofs.Steps.{labels_of_drop, labels_of_end, final-perform, value-make_element}
use Rattle.edit_model.proofs.Tests.{parent_there}
use Rattle.edit_model.proofs.TailEnds.{size_at, size_child, same_steps}
use Rattle.edit_model.proofs.TailPlan.{find_some, parent_among}
use Rattle.edit_model.proofs.TailPossible.{both, tail_possible}
use Rattle.edit_model.proofs.TailSteps.{steps_keep, extract_tests}
use Rattle.edit_model.proofs.Trees.{tree_of-inside, tree_of-with_leaf_other}
use Rattle.edit_doc.specs.Extracting.{tail_at, MakesSteps}

-- ---- lists of steps

pub stepped-append : (xs ys : List Step) (s : State) → stepped_all (xs ++ ys) s ≡ stepped_all ys (stepped_all xs s)
unfolding stepped_all
stepped-append [] ys s = refl
stepped-append (x ∷ xs) ys s = stepped-append xs ys (stepped x s)

pub possible_parts : (xs ys : List Step) (s : State) → are_possible (xs ++ ys) s ≡ true → (are_possible xs s ≡ true) × (are_possible ys (stepped_all xs s) ≡ true)
unfolding stepped_all are_possible
possible_parts [] ys s h = (refl, h)
possible_parts (x ∷ xs) ys s h =
    let p = and_parts (is_possible x s) (are_possible (xs ++ ys) (stepped x s)) h in
    let q = possible_parts xs ys (stepped x s) p.1 in
    (both p.0 q.0, q.1)

-- what is past the cap stays past it
over_steps : (xs : List Step) (s : State) → IsPastCap s → IsPastCap (stepped_all xs s)
unfolding made applied with_change changed
over_steps xs s h = steps_keep IsPastCap (λ c t k. record { past = (let p = k.past in omega (arith, p)) }) (λ e t k. record { past = k.past }) xs s h

pub fails_more : (e : EditFault) (xs ys : List Step) (s : State) → Fails e (stepped_all xs s) → Fails e (stepped_all (xs ++ ys) s)
fails_more Full xs ys s h = subst IsPastCap (sym (stepped-append xs ys s)) (over_steps ys (stepped_all xs s) h)
fails_more Memory xs ys s h = tt

-- the fault that a `?` hands on is the callee's
pub exit_steps : {T : Type 0} (r : Result T EditFault) (e : EditFault) (s t : State) (xs : List Step) → IsErrAnd r (λ y. y ≡ e) → Fails e (stepped_all xs s) → MakesSteps r s t xs
exit_steps (Ok v) e s t xs h f = absurd h
exit_steps (Err y) e s t xs h f = subst (λ x. Fails x (stepped_all xs s)) (sym h) f

pub memory_fails : (e : EditFault) (s : State) → e ≡ Memory → Fails e s
memory_fails e s is = subst (λ x. Fails x s) (sym is) tt

-- ---- the test

-- the parts of the test together
pub extract_test : (s : State) (from : Point) (end target n : ℕ) → n ≡ from.label →
    may_extract s from end target ≡ (not s.keeping && ((is_editable_for s end && (is_in_document s.trees end && (is_editable_for s n && (is_parent_at s.trees n && is_within s.trees end n)))) && (is_made s target && (is_in_document s.trees target && (is_parent_at s.trees target && not (is_within s.trees end target))))))
unfolding may_extract
extract_test s from end target n same =
    ap (λ l. not s.keeping && (is_editable_for s end && (is_in_document s.trees end && (is_editable_for s l && (is_parent_at s.trees l && (is_within s.trees end l && (is_made s target && (is_in_document s.trees target && (is_parent_at s.trees target && not (is_within s.trees end target)))))))))) (sym same)
    ∙ ap (λ b. not s.keeping && b) (together (is_editable_for s end) (is_in_document s.trees end) (is_editable_for s n) (is_parent_at s.trees n) (is_within s.trees end n) (is_made s target && (is_in_document s.trees target && (is_parent_at s.trees target && not (is_within s.trees end target)))))
  where
    together : (a b c d e rest : Bool) → (a && (b && (c && (d && (e && rest))))) ≡ ((a && (b && (c && (d && e)))) && rest)
    together true true true true e rest = refl
    together true true true false e rest = refl
    together true true false d e rest = refl
    together true false c d e rest = refl
    together false b c d e rest = refl

-- ---- a copy

pub copy_steps : (r : Result NodeRef EditFault) (s t : State) (n : ℕ) (name : List ℕ) (list : List Attribute) → name_of s.trees n ≡ Some name → attributes_of s.trees n ≡ Some list → IsDistinctNames (unset_in list (codes "id")) → GivesNode r s t (make_element name (unset_in list (codes "id"))) → MakesSteps r s t (Copy (copy_of s.trees n) ∷ [])
unfolding copy_of stepped_all stepped
copy_steps r s t n name list named listed distinct gives = by r gives
  where
    same : final (make_element name (unset_in list (codes "id"))) s ≡ made (Element (unwrap_or (name_of s.trees n) []) (unset_in (unwrap_or (attributes_of s.trees n) []) (codes "id"))) s
    same = final_distinct_element name (unset_in list (codes "id")) s distinct ∙ (λ i. made (Element (unwrap_or (sym named i) []) (unset_in (unwrap_or (sym listed i) []) (codes "id"))) s)

    by : (q : Result NodeRef EditFault) → GivesNode q s t (make_element name (unset_in list (codes "id"))) → MakesSteps q s t (Copy (copy_of s.trees n) ∷ [])
    by (Ok v) g = sym g.0 ∙ same
    by (Err e) g = subst (Fails e) same g

pub copy_label : (r : Result NodeRef EditFault) (s t : State) (name : List ℕ) (list : List Attribute) → GivesNode r s t (make_element name list) → IfOk r (λ q. q.label ≡ s.next)
copy_label (Ok v) s t name list g = sym g.1 ∙ value-make_element name list s
copy_label (Err e) s t name list g = tt

-- ---- a node that is carried

pub carried_is : (d n : ℕ) (s : State) → stepped_all (carried d (n ∷ [])) s ≡ applied (Insert d None n) (applied (Remove n) s)
unfolding carried stepped_all stepped
carried_is d n s = refl

pub carry_steps : (r : Result (Unit {0}) EditFault) (s u t : State) (d n : ℕ) → u ≡ applied (Remove n) s → OnOk r (t ≡ applied (Insert d None n) u) → IfErr r (λ e. e ≡ Memory) → MakesSteps r s t (carried d (n ∷ []))
carry_steps (Ok v) s u t d n off on fault = on ∙ (ap (applied (Insert d None n)) off ∙ sym (carried_is d n s))
carry_steps (Err e) s u t d n off on fault = memory_fails e (stepped_all (carried d (n ∷ [])) s) fault

pub carried_possible : (d n : ℕ) (s : State) → are_possible (carried d (n ∷ [])) s ≡ true → (is_made_edit (Remove n) (freed s) ≡ true) × (is_made_edit (Insert d None n) (freed (applied (Remove n) s)) ≡ true)
unfolding carried are_possible stepped
carried_possible d n s h =
    let p = and_parts (is_made_edit (Remove n) (freed s)) _ h in
    (p.0, (and_parts (is_made_edit (Insert d None n) (freed (applied (Remove n) s))) true p.1).0)

-- a node that is carried has a parent
pub carried_child : (d n : ℕ) (s : State) → are_possible (carried d (n ∷ [])) s ≡ true → parent_of s.trees n ≡ None → ⊥
unfolding is_made_edit may_remove
carried_child d n s h root = true≢false (sym (carried_possible d n s h).0 ∙ ap (may_leave (freed s) n) root)

-- ---- a list of nodes that are carried

carried-cons : (d n : ℕ) (ns : List ℕ) → carried d (n ∷ ns) ≡ carried d (n ∷ []) ++ carried d ns
unfolding carried
carried-cons d n ns = refl

pub carried_turn : (d : ℕ) (xs : List NodeRef) (i : ℕ) → i < length xs → carried d (labels_of (drop i xs)) ≡ carried d ((get_or xs i record { slot = 0; label = 0 }).label ∷ []) ++ carried d (labels_of (drop (i + 1) xs))
carried_turn d xs i low = ap (carried d) (labels_of_drop xs i low) ∙ carried-cons d _ _

pub carried_end : (d : ℕ) (xs : List NodeRef) (i : ℕ) → length xs ≤ i → (s : State) → stepped_all (carried d (labels_of (drop i xs))) s ≡ s
unfolding carried stepped_all
carried_end d xs i high s = ap (λ ns. stepped_all (carried d ns) s) (labels_of_end xs i high)

pub labels-drop : (n : ℕ) (xs : List NodeRef) → labels_of (drop n xs) ≡ drop n (labels_of xs)
labels-drop zero xs = refl
labels-drop (suc n) [] = refl
labels-drop (suc n) (x ∷ xs) = labels-drop n xs

module _ (d : ℕ) (xs : List NodeRef) (i : ℕ) (low : i < length xs) (s : State) where
  abbrev here : List Step
  here = carried d ((get_or xs i record { slot = 0; label = 0 }).label ∷ [])

  abbrev detached : List Step
  detached = carried d (labels_of (drop (i + 1) xs))

  turn_possible : are_possible (carried d (labels_of (drop i xs))) s ≡ true → (are_possible here s ≡ true) × (are_possible detached (stepped_all here s) ≡ true)
  turn_possible h = possible_parts here detached s (subst (λ ys. are_possible ys s ≡ true) (carried_turn d xs i low) h)

  turn_ends : stepped_all (carried d (labels_of (drop i xs))) s ≡ stepped_all detached (stepped_all here s)
  turn_ends = ap (λ ys. stepped_all ys s) (carried_turn d xs i low) ∙ stepped-append here detached s

  pub carry_may : are_possible (carried d (labels_of (drop i xs))) s ≡ true → are_possible (carried d ((get_or xs i record { slot = 0; label = 0 }).label ∷ [])) s ≡ true
  carry_may h = (turn_possible h).0

  pub carry_fault : (e : EditFault) → Fails e (stepped_all (carried d ((get_or xs i record { slot = 0; label = 0 }).label ∷ [])) s) → Fails e (stepped_all (carried d (labels_of (drop i xs))) s)
  carry_fault e h = subst (λ ys. Fails e (stepped_all ys s)) (sym (carried_turn d xs i low)) (fails_more e here detached s h)

  module _ (t : State) (is : t ≡ stepped_all (carried d ((get_or xs i record { slot = 0; label = 0 }).label ∷ [])) s) where
    pub detached_may : are_possible (carried d (labels_of (drop i xs))) s ≡ true → are_possible (carried d (labels_of (drop (i + 1) xs))) t ≡ true
    detached_may h = ap (are_possible detached) is ∙ (turn_possible h).1

    pub detached_ends : stepped_all (carried d (labels_of (drop (i + 1) xs))) t ≡ stepped_all (carried d (labels_of (drop i xs))) s
    detached_ends = ap (stepped_all detached) is ∙ sym turn_ends

-- ---- the steps are the same beside a new leaf

find_same : (p q : ℕ → Bool) (xs : List ℕ) → ((k : ℕ) → 0 < times xs k → p k ≡ q k) → find p xs ≡ find q xs
find_same p q [] h = refl
find_same p q (x ∷ xs) h =
    let own : eqb x x ≡ true = eq-eqb x x refl in
    let here = h x (rw own (omega arith)) in
    let rest = find_same p q xs (λ k t. h k (omega (arith, t))) in
    rw (here, rest) refl

module _ (f : Forest Content) (j : ℕ) (x : Content) (absent : count_of f j ≡ 0) (once : IsDistinct f) (from : Point) where
  abbrev g : Forest Content
  g = with_leaf f j x

  other : (c k : ℕ) → 0 < times (children_of f c) k → j ≢ k
  other c k t = λ e. (let known = (parent_count f k c once (parent_among f once c k t)).0 in let none : count_of f k ≡ 0 = subst (λ l. count_of f l ≡ 0) e absent in omega (arith, known, none))

  toward_same : (c : ℕ) → child_toward g c from.label ≡ child_toward f c from.label
  toward_same c =
      ap (find (λ k. is_within g k from.label)) (children_of-with_leaf f j x absent c)
      ∙ find_same (λ k. is_within g k from.label) (λ k. is_within f k from.label) (children_of f c) (λ k t. ap (λ h. nat_lt 0 (count_of h from.label)) (tree_of-with_leaf_other f j k x (other c k t)))

  copy_same : (k : ℕ) → j ≢ k → copy_of g k ≡ copy_of f k
  unfolding copy_of
  copy_same k off = ap (λ o. Element (unwrap_or (option_and_then name_in o) []) (unset_in (unwrap_or (option_and_then attributes_in o) []) (codes "id"))) (content_of-with_leaf_other f j x k absent off)

  pub tail_same : (n c d i : ℕ) → tail_steps n g from c d i ≡ tail_steps n f from c d i
  unfolding tail_steps
  tail_same zero c d i = refl
  tail_same (suc n) c d i = elim (cases_Bool (eqb from.label c)) [
    | inl t ↦ rw t (ap (λ ks. carried d (drop from.offset ks)) (children_of-with_leaf f j x absent c))
    | inr t ↦ rw t (ap (λ o. option_map_or (λ k. Copy (copy_of g k) ∷ (tail_steps n g from k i (i + 1) ++ (Do (Insert d None i) ∷ carried d (later (children_of g c) k)))) o []) (toward_same c) ∙ toward (λ k. tail_same n k i (i + 1)) (child_toward f c from.label) refl)
  ]
    where
      toward : ((k : ℕ) → tail_steps n g from k i (i + 1) ≡ tail_steps n f from k i (i + 1)) → (o : Option ℕ) → child_toward f c from.label ≡ o →
          option_map_or (λ k. Copy (copy_of g k) ∷ (tail_steps n g from k i (i + 1) ++ (Do (Insert d None i) ∷ carried d (later (children_of g c) k)))) o []
          ≡ option_map_or (λ k. Copy (copy_of f k) ∷ (tail_steps n f from k i (i + 1) ++ (Do (Insert d None i) ∷ carried d (later (children_of f c) k)))) o []
      toward inner None e = refl
      toward inner (Some k) e =
          let r = find_some (λ m. is_within f m from.label) (children_of f c) k e in
          let copy = copy_same k (other c k r.1) in
          let kids = children_of-with_leaf f j x absent c in
          λ t. Copy (copy t) ∷ (inner k t ++ (Do (Insert d None i) ∷ carried d (later (kids t) k)))

-- ---- the steps of a node

one_more : (n : ℕ) → 0 < n → (m : ℕ) × (n ≡ suc m)
one_more zero h = absurd (omega (arith, h))
one_more (suc m) h = (m, refl)

-- the tree of a node has its children
kids_in : (f : Forest Content) (n : ℕ) → IsDistinct f → (c : Content) (ks : Forest Content) → tree_of f n ≡ Tree n c ks Nil → children_of f n ≡ tops ks
kids_in f n once c ks is =
    let st : Stands None (tree_of f n) n (record { parent = None; content = c; children = tops ks }) = rw is (inl (refl, refl)) in
    elim (Stands-tree_of None None f n n _ (once n) st) [
      | inl (_, o, k, e) ↦ (
          let found = seek_Stands None f n o (once n) k in
          ap (λ s. option_map_or (λ (t : Seen Content). t.children) s []) found ∙ sym (ap (λ (t : Seen Content). t.children) e))
      | inr (off, _) ↦ absurd (off refl)
    ]

module _ (s : State) (is : IsValid s) (from : Point) (c d : ℕ) (known : 0 < count_of s.trees c) where
  abbrev trees : Forest Content
  trees = s.trees

  once_in : IsDistinct s.trees
  once_in = is.forest.distinct

  size : (m : ℕ) × (size_at s.trees c ≡ suc m)
  size = one_more (size_at s.trees c) (let t = tree_is s.trees c (omega (arith, once_in c, known)) in omega (arith, ap (total (λ _ _. 1)) t.2))

  pub tail_here : c ≡ from.label → tail_at s from c d ≡ carried d (drop from.offset (children_of s.trees c))
  unfolding tail_at tail_steps
  tail_here same =
      let t : eqb from.label c ≡ true = eq-eqb from.label c (sym same) in
      ap (λ n. tail_steps n s.trees from c d s.next) size.1 ∙ rw t refl

  pub tail_none : c ≢ from.label → child_toward s.trees c from.label ≡ None → tail_at s from c d ≡ []
  unfolding tail_at tail_steps
  tail_none off none =
      let t : eqb from.label c ≡ false = ne_eqb from.label c (λ e. off (sym e)) in
      ap (λ n. tail_steps n s.trees from c d s.next) size.1 ∙ rw t (ap (λ o. option_map_or (λ m. Copy (copy_of s.trees m) ∷ (tail_steps size.0 s.trees from m s.next (s.next + 1) ++ (Do (Insert d None s.next) ∷ carried d (later (children_of s.trees c) m)))) o []) none)

  pub nothing_made : c ≢ from.label → child_toward s.trees c from.label ≡ None → s ≡ stepped_all (tail_at s from c d) s
  unfolding stepped_all
  nothing_made off none = ap (λ xs. stepped_all xs s) (sym (tail_none off none))

  module _ (off : c ≢ from.label) (k : ℕ) (toward : child_toward s.trees c from.label ≡ Some k) where
    found : (is_within s.trees k from.label ≡ true) × (0 < times (children_of s.trees c) k)
    found = find_some (λ m. is_within s.trees m from.label) (children_of s.trees c) k toward

    pub child : parent_of s.trees k ≡ Some c
    child = parent_among s.trees once_in c k found.1

    fresh : count_of s.trees s.next ≡ 0
    fresh = none (count_of s.trees s.next) (λ some. (let low = is.forest.below s.next some in omega (arith, low)))
      where
        none : (n : ℕ) → (0 < n → ⊥) → n ≡ 0
        none zero h = refl
        none (suc n) h = absurd (h (omega arith))

    older : s.next ≢ k
    older = λ e. (let here = (parent_count s.trees k c once_in child).0 in let low = is.forest.below k here in omega (arith, low, e))

    abbrev pub copied : State
    copied = made (copy_of s.trees k) s

    inner_same : (m : ℕ) → size_at s.trees k ≤ m → tail_steps m s.trees from k s.next (s.next + 1) ≡ tail_at copied from k s.next
    unfolding tail_at made
    inner_same m enough =
        same_steps s.trees once_in from m (size_at s.trees k) k s.next (s.next + 1) enough (omega arith)
        ∙ (sym (tail_same s.trees s.next (copy_of s.trees k) fresh once_in from (size_at s.trees k) k s.next (s.next + 1))
        ∙ ap (λ n. tail_steps n (with_leaf s.trees s.next (copy_of s.trees k)) from k s.next (s.next + 1)) (ap (total (λ _ _. 1)) (sym (tree_of-with_leaf_other s.trees s.next k (copy_of s.trees k) older))))

    abbrev pub after_copy : List Step
    after_copy = Do (Insert d None s.next) ∷ carried d (later (children_of s.trees c) k)

    pub tail_below : tail_at s from c d ≡ Copy (copy_of s.trees k) ∷ (tail_at copied from k s.next ++ (Do (Insert d None s.next) ∷ carried d (later (children_of s.trees c) k)))
    unfolding tail_at tail_steps
    tail_below =
        let t : eqb from.label c ≡ false = ne_eqb from.label c (λ e. off (sym e)) in
        let less = size_child s.trees once_in from c k child in
        let here = size.1 in
        ap (λ n. tail_steps n s.trees from c d s.next) size.1
        ∙ rw t (ap (λ o. option_map_or (λ m. Copy (copy_of s.trees m) ∷ (tail_steps size.0 s.trees from m s.next (s.next + 1) ++ (Do (Insert d None s.next) ∷ carried d (later (children_of s.trees c) m)))) o []) toward
        ∙ ap (λ xs. Copy (copy_of s.trees k) ∷ (xs ++ (Do (Insert d None s.next) ∷ carried d (later (children_of s.trees c) k)))) (inner_same size.0 (omega (arith, less, here))))

    -- ---- where the steps are possible

    module _ (possible : are_possible (tail_at s from c d) s ≡ true) where
      all_possible : are_possible (tail_at copied from k s.next ++ (Do (Insert d None s.next) ∷ carried d (later (children_of s.trees c) k))) copied ≡ true
      unfolding are_possible stepped
      all_possible = subst (λ xs. are_possible xs s ≡ true) tail_below possible

      pub inner_possible : are_possible (tail_at copied from k s.next) copied ≡ true
      inner_possible = (possible_parts (tail_at copied from k s.next) after_copy copied all_possible).0

      outer_possible : (is_made_edit (Insert d None s.next) (freed (stepped_all (tail_at copied from k s.next) copied)) ≡ true) × (are_possible (carried d (later (children_of s.trees c) k)) (applied (Insert d None s.next) (stepped_all (tail_at copied from k s.next) copied)) ≡ true)
      unfolding are_possible stepped
      outer_possible = and_parts _ _ (possible_parts (tail_at copied from k s.next) after_copy copied all_possible).1

      pub link_possible : is_made_edit (Insert d None s.next) (freed (stepped_all (tail_at copied from k s.next) copied)) ≡ true
      link_possible = outer_possible.0

      pub rest_possible : are_possible (carried d (later (children_of s.trees c) k)) (applied (Insert d None s.next) (stepped_all (tail_at copied from k s.next) copied)) ≡ true
      rest_possible = outer_possible.1

    -- ---- where they end

    steps_are : stepped_all (tail_at s from c d) s ≡ stepped_all (tail_at copied from k s.next ++ (Do (Insert d None s.next) ∷ carried d (later (children_of s.trees c) k))) copied
    unfolding stepped_all stepped
    steps_are = ap (λ xs. stepped_all xs s) tail_below

    pub tail_ends : stepped_all (tail_at s from c d) s ≡ stepped_all (carried d (later (children_of s.trees c) k)) (applied (Insert d None s.next) (stepped_all (tail_at copied from k s.next) copied))
    unfolding stepped_all stepped
    tail_ends = steps_are ∙ stepped-append (tail_at copied from k s.next) after_copy copied

    pub copy_fails : (e : EditFault) → Fails e (stepped_all (Copy (copy_of s.trees k) ∷ []) s) → Fails e (stepped_all (tail_at s from c d) s)
    copy_fails e h =
        subst (Fails e) (sym (ap (λ xs. stepped_all xs s) tail_below))
        (fails_more e (Copy (copy_of s.trees k) ∷ []) (tail_at copied from k s.next ++ (Do (Insert d None s.next) ∷ carried d (later (children_of s.trees c) k))) s h)

    inner_fails : (e : EditFault) → Fails e (stepped_all (tail_at copied from k s.next) copied) → Fails e (stepped_all (tail_at s from c d) s)
    inner_fails e h = subst (Fails e) (sym steps_are) (fails_more e (tail_at copied from k s.next) after_copy copied h)

    -- the index of the child is its place
    pub later_is : drop (index_of s.trees k + 1) (children_of s.trees c) ≡ later (children_of s.trees c) k
    later_is = ap (λ o. drop (option_map_or (λ p. place_in (children_of s.trees p) k) o 0 + 1) (children_of s.trees c)) child

    -- ---- the same of the states that the calls leave

    module _ (s1 : State) (j : ℕ) (s1_is : s1 ≡ stepped_all (Copy (copy_of s.trees k) ∷ []) s) (j_is : j ≡ s.next) where
      copied_is : s1 ≡ copied
      unfolding stepped_all stepped
      copied_is = s1_is

      pub smaller : size_at s1.trees k < size_at s.trees c
      unfolding made
      smaller =
          let same : size_at s1.trees k ≡ size_at s.trees k = ap (λ (u : State). size_at u.trees k) copied_is ∙ ap (total (λ _ _. 1)) (tree_of-with_leaf_other s.trees s.next k (copy_of s.trees k) older) in
          omega (arith, same, size_child s.trees once_in from c k child)

      pub parent_stays : is_parent_at s.trees from.label ≡ true → is_parent_at s1.trees from.label ≡ true
      unfolding made
      parent_stays parent =
          let older_from : s.next ≢ from.label = λ e. (let low = is.forest.below from.label (parent_there s.trees from.label parent) in omega (arith, low, e)) in
          ap (λ (u : State). is_parent_at u.trees from.label) copied_is
          ∙ (ap (λ (o : Option Content). option_map_or may_have_children o false) (content_of-with_leaf_other s.trees s.next (copy_of s.trees k) from.label fresh older_from) ∙ parent)

      inner_is : stepped_all (tail_at s1 from k j) s1 ≡ stepped_all (tail_at copied from k s.next) copied
      inner_is = λ i. stepped_all (tail_at (copied_is i) from k (j_is i)) (copied_is i)

      pub inner_may : are_possible (tail_at s from c d) s ≡ true → are_possible (tail_at s1 from k j) s1 ≡ true
      inner_may possible = (λ i. are_possible (tail_at (copied_is i) from k (j_is i)) (copied_is i)) ∙ inner_possible possible

      pub inner_fault : (e : EditFault) → Fails e (stepped_all (tail_at s1 from k j) s1) → Fails e (stepped_all (tail_at s from c d) s)
      inner_fault e h = inner_fails e (subst (Fails e) inner_is h)

      module _ (s2 : State) (s2_is : s2 ≡ stepped_all (tail_at s1 from k j) s1) where
        below_is : s2 ≡ stepped_all (tail_at copied from k s.next) copied
        below_is = s2_is ∙ inner_is

        pub link_may : are_possible (tail_at s from c d) s ≡ true → is_made_edit (Insert d None j) (freed s2) ≡ true
        link_may possible = (λ i. is_made_edit (Insert d None (j_is i)) (freed (below_is i))) ∙ link_possible possible

        module _ (s3 : State) (s3_is : s3 ≡ applied (Insert d None j) s2) (at : ℕ) (at_is : at ≡ index_of s.trees k + 1) (kids : List ℕ) (kids_are : kids ≡ children_of s.trees c) where
          linked_is : s3 ≡ applied (Insert d None s.next) (stepped_all (tail_at copied from k s.next) copied)
          linked_is = s3_is ∙ (λ i. applied (Insert d None (j_is i)) (below_is i))

          rest_is : drop at kids ≡ later (children_of s.trees c) k
          rest_is = (λ i. drop (at_is i) (kids_are i)) ∙ later_is

          pub rest_may : are_possible (tail_at s from c d) s ≡ true → are_possible (carried d (drop at kids)) s3 ≡ true
          rest_may possible = (λ i. are_possible (carried d (rest_is i)) (linked_is i)) ∙ rest_possible possible

          whole_is : stepped_all (tail_at s from c d) s ≡ stepped_all (carried d (drop at kids)) s3
          whole_is = tail_ends ∙ sym (λ i. stepped_all (carried d (rest_is i)) (linked_is i))

          pub whole_makes : {T : Type 0} (r : Result T EditFault) (t : State) → MakesSteps r s3 t (carried d (drop at kids)) → MakesSteps r s t (tail_at s from c d)
          whole_makes (Ok v) t h = h ∙ sym whole_is
          whole_makes (Err e) t h = subst (Fails e) (sym whole_is) h

    -- ---- the child is an element

    module _ (parent : is_parent_at s.trees from.label ≡ true) where
      bears : is_parent_at s.trees k ≡ true
      bears = elim (eqb_tells k from.label) [
        | inl (_, e) ↦ subst (λ l. is_parent_at s.trees l ≡ true) (sym e) parent
        | inr (apart, _) ↦ elim (cases_Bool (is_parent_at s.trees k)) [
          | inl t ↦ t
          | inr t ↦ absurd (
              let here = (parent_count s.trees k c once_in child).0 in
              let x = seen s.trees k once_in here in
              let same : may_have_children x.0.content ≡ false = sym (ap (λ (o : Option (Seen Content)). option_map_or may_have_children (option_map (λ y. y.content) o) false) x.2) ∙ t in
              let none : x.0.children ≡ [] = (is.forest.nodes k x.0 x.2).leaf same in
              let tree = tree_is s.trees k (omega (arith, once_in k, here)) in
              let kids : tops tree.1 ≡ [] = sym (kids_in s.trees k once_in tree.0 tree.1 tree.2) ∙ (ap (λ (o : Option (Seen Content)). option_map_or (λ y. y.children) o []) x.2 ∙ none) in
              let alone : count_of (tree_of s.trees k) from.label ≡ 0 = ap (λ t. count_of t from.label) tree.2 ∙ rw (apart, empty tree.1 kids) refl in
              let inside = ltb-true 0 (count_of (tree_of s.trees k) from.label) found.0 in
              omega (arith, alone, inside))
        ]
      ]
        where
          empty : (t : Forest Content) → tops t ≡ [] → t ≡ Nil
          empty Nil e = refl
          empty (Tree l a ks rest) e = absurd (let q = e in cc)

      pub child_element : is_element_at s.trees k ≡ true
      child_element =
          let here = (parent_count s.trees k c once_in child).0 in
          let x = seen s.trees k once_in here in
          let content : content_of s.trees k ≡ Some x.0.content = ap (option_map (λ (y : Seen Content). y.content)) x.2 in
          let bearing : may_have_children x.0.content ≡ true = sym (ap (λ o. option_map_or may_have_children o false) content) ∙ bears in
          ap (λ o. option_map_or is_element o false) content ∙ by x.0.content (λ e. inner ((is.forest.nodes k x.0 x.2).document.0 e)) bearing
        where
          inner : k ≡ 0 → ⊥
          inner e = (let root = is.forest.root in let up : parent_of s.trees 0 ≡ Some c = subst (λ l. parent_of s.trees l ≡ Some c) e child in let no : None ≡ Some c = sym root ∙ up in cc)

          by : (y : Content) → (y ≡ Document → ⊥) → may_have_children y ≡ true → is_element y ≡ true
          by Document off h = absurd (off refl)
          by (Element name attributes) off h = refl
          by (Words chars) off h = absurd (true≢false (sym h))
          by (Remark chars) off h = absurd (true≢false (sym h))

-- ---- the action

module _ (s : State) (is : IsValid s) (from : Point) (end target : ℕ) (may : may_extract s from end target ≡ true) where
  tail_is : tail_at s from end target ≡ tail_of s from end target
  unfolding tail_at tail_of
  tail_is =
      let inside = (extract_tests s from end target may).end_inside in
      let part = total-without (λ _ _. 1) (tree_of s.trees 0) end in
      let few : size_at s.trees end ≤ document_size s.trees = omega (arith, part, ap (total (λ _ _. 1)) (tree_of-inside s.trees 0 end is.forest.distinct inside)) in
      same_steps s.trees is.forest.distinct from (size_at s.trees end) (document_size s.trees) end target s.next (omega arith) few

  pub at_possible : are_possible (tail_at s from end target) s ≡ true
  at_possible = ap (λ xs. are_possible xs s) tail_is ∙ tail_possible s is from end target may

  ends_so : final (extract_tail from end target) s ≡ stepped_all (tail_at s from end target) s
  unfolding acted extracted
  ends_so = final-perform (Extract from end target) s ∙ (rw may refl ∙ ap (λ xs. stepped_all xs s) (sym tail_is))

  pub gives_extracted : (r : Result (Unit {0}) EditFault) (t : State) → MakesSteps r s t (tail_at s from end target) → Gives r s t (extract_tail from end target)
  gives_extracted (Ok v) t h = (ends_so ∙ sym h, refl)
  gives_extracted (Err e) t h = subst (Fails e) (sym ends_so) h

-- a point of no node is left out
pub not_extracted : (s : State) (from : Point) (end target : ℕ) → count_of s.trees from.label ≡ 0 → may_extract s from end target ≡ false
not_extracted s from end target none = elim (cases_Bool (may_extract s from end target)) [
  | inl may ↦ absurd (
      let below = (extract_tests s from end target may).below in
      let part = total-without (λ m _. cond (eqb m from.label) 1 0) s.trees end in
      omega (arith, below, part, none))
  | inr off ↦ off
]

pub from_bears : (s : State) (from : Point) (end target : ℕ) → may_extract s from end target ≡ true → is_parent_at s.trees from.label ≡ true
unfolding may_extract
from_bears s from end target may =
    let h1 = and_parts (not s.keeping) _ may in
    let h2 = and_parts (is_editable_for s end) _ h1.1 in
    let h3 = and_parts (is_in_document s.trees end) _ h2.1 in
    let h4 = and_parts (is_editable_for s from.label) _ h3.1 in
    (and_parts (is_parent_at s.trees from.label) _ h4.1).0

pub gives_unextracted : (s : State) (from : Point) (end target : ℕ) → may_extract s from end target ≡ false → Gives (Ok tt) s s (extract_tail from end target)
unfolding acted extracted
gives_unextracted s from end target off = (final-perform (Extract from end target) s ∙ rw off refl, refl)
