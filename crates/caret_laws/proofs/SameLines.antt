-- A line keeps its container where the nodes around it keep their parents, their names and whether they are editable: the way up
-- to it is the same.
use Rattle.std.proofs.Common.{◌≡◌, ◌<◌, ℕ, zero, suc, ◌+◌, ◌-◌, Bool, true, false, ◌||◌, ◌&&◌, if◌then◌else◌, cond, eqb, bytes_eq, List, [], ◌∷◌, Option, Some, None, is_none, refl, sym, ap, subst, ◌∙◌, inl, inr, arith, true≢false}
use Rattle.std.specs.Prelude.{codes}
use Rattle.std.specs.Option.{option_map_or, option_and_then}
use Rattle.std.proofs.lemmas.Bool.{and_parts, cases_Bool}
use Rattle.std.proofs.lemmas.Bool.Decides.{eqb_tells}
use Rattle.edit_model.specs.DomModel.declared.Content.{Content}
use Rattle.edit_model.specs.DomModel.declared.Content.TheVariants.{Document, Element, Words, Remark}
use Rattle.edit_model.specs.DomModel.Contents.{has_chars, has_chars_at, has_name, name_in, name_of, is_break}
use Rattle.edit_model.specs.DomModel.Forest.{Forest, Seen, is_label, times, first_in, after_in, total, count_of, tree_of, parent_of, children_of, first_of, next_of, content_of, IsWithin, depth_of}
use Rattle.edit_model.proofs.DomModel.Links.{eqb_refl_true, child_of_parent, parent_count, times-children_of}
use Rattle.edit_model.proofs.DomModel.Lists.{after_not_self}
use Rattle.edit_model.proofs.DomModel.Neighbours.{parent_of-first, parent_of-next}
use Rattle.edit_model.proofs.DomModel.Totals.{total-without}
use Rattle.edit_model.proofs.DomModel.Within.{within_self, within_parent, within_child, depth_of-parent}
use Rattle.edit_model.specs.HtmlNames.ElementNames as names
use Rattle.inline_value.specs.NodeStyles.NameClasses.{is_single_line}
use Rattle.edit_model.specs.State.{State}
use Rattle.edit_model.specs.Confined.{is_editable_for}
use Rattle.edit_model.specs.Valid.{IsForest, IsValid}
use Rattle.edit_model.proofs.Documents.{within_above, within_below}
use Rattle.edit_model.proofs.OwnRoots.{holder_inside}
use Rattle.edit_model.proofs.TailEnds.{size_at, size_child}
use Rattle.edit_model.proofs.Trees.{tree_of-inside, within_trans}
use Rattle.inline_value.specs.WrapSplit.Walks.{followed, walk, turn_bound}
use Rattle.inline_value.specs.Ancestors.{is_description}
use Rattle.text_insertion.specs.Containers.{if_editable, up_to_container, nearest_container, up_to_entry, nearest_entry, is_plain_block, entry_over, container_of, is_own_container}
use Rattle.text_insertion.specs.Entries.{is_entry, has_sole_break, is_empty_entry}
use Rattle.caret_laws.specs.ParagraphOrder.{HasOwnLine}
use Rattle.caret_laws.proofs.InsideRuns.{top_known}

-- ---- walks

-- a walk from parent to parent in the document ends by itself
climbs : (f : Forest Content) (next : ℕ) → IsForest f next → (step : ℕ → Option ℕ) → ((l q : ℕ) → step l ≡ Some q → parent_of f l ≡ Some q) → (n l : ℕ) → IsWithin f 0 l → size_at f 0 < size_at f l + n → step (walk step n l) ≡ None
unfolding walk
climbs f next is step up zero l inside few =
    absurd (let part = total-without (λ _ _. 1) (tree_of f 0) l in let same = ap (total (λ _ _. 1)) (tree_of-inside f 0 l is.distinct inside) in omega (arith, few, part, same))
climbs f next is step up (suc n) l inside few = by (λ q e. climbs f next is step up n q (within_above f next is q l (up l q e) inside) (let more = size_child f is.distinct (record { label = 0; offset = 0 }) q l (up l q e) in omega (arith, few, more))) (step l) refl
  where
    by : ((q : ℕ) → step l ≡ Some q → step (walk step n q) ≡ None) → (o : Option ℕ) → step l ≡ o → step (followed o l (walk step n)) ≡ None
    by onward None e = e
    by onward (Some q) e = onward q e

module _ (P : ℕ → Type 0) (f g : ℕ → Option ℕ) (same : (l : ℕ) → P l → f l ≡ g l) (closed : (l q : ℕ) → P l → f l ≡ Some q → P q) where
  -- walks by the same steps that end by themselves end at one node
  walks_agree : (n m l : ℕ) → P l → f (walk f n l) ≡ None → g (walk g m l) ≡ None → walk f n l ≡ walk g m l
  unfolding walk
  walks_agree zero zero l p ends ends' = refl
  walks_agree zero (suc m) l p ends ends' = let none : g l ≡ None = sym (same l p) ∙ ends in rw none refl
  walks_agree (suc n) zero l p ends ends' = let none : f l ≡ None = same l p ∙ ends' in rw none refl
  walks_agree (suc n) (suc m) l p ends ends' = by (λ q e x y. walks_agree n m q (closed l q p e) x y) (f l) (g l) refl (same l p) ends ends'
    where
      by : ((q : ℕ) → f l ≡ Some q → f (walk f n q) ≡ None → g (walk g m q) ≡ None → walk f n q ≡ walk g m q) → (o w : Option ℕ) → f l ≡ o → o ≡ w
          → f (followed o l (walk f n)) ≡ None → g (followed w l (walk g m)) ≡ None → followed o l (walk f n) ≡ followed w l (walk g m)
      by onward None None e k x y = refl
      by onward None (Some q) e k x y = absurd (let t : None ≡ Some q = k in cc)
      by onward (Some q) None e k x y = absurd (let t : Some q ≡ None = k in cc)
      by onward (Some q) (Some r) e k x y =
          let one : q ≡ r = (let t = k in cc) in
          onward q e x (subst (λ j. g (walk g m j) ≡ None) (sym one) y) ∙ ap (walk g m) one

  walk_in : (n l : ℕ) → P l → P (walk f n l)
  unfolding walk
  walk_in zero l p = p
  walk_in (suc n) l p = by (λ q e. walk_in n q (closed l q p e)) (f l) refl
    where
      by : ((q : ℕ) → f l ≡ Some q → P (walk f n q)) → (o : Option ℕ) → f l ≡ o → P (followed o l (walk f n))
      by onward None e = p
      by onward (Some q) e = onward q e

if_some : (v : Bool) (q r : ℕ) → (if v then Some q else None) ≡ Some r → Some q ≡ Some r
if_some true q r e = e
if_some false q r e = absurd (let t : None ≡ Some r = e in cc)

editable_is : (u : State) (o : Option ℕ) (q : ℕ) → if_editable u o ≡ Some q → o ≡ Some q
editable_is u None q e = e
editable_is u (Some p) q e = if_some (is_editable_for u p) p q e

otherwise : (v : Bool) (o : Option ℕ) (q : ℕ) → (if v then None else o) ≡ Some q → o ≡ Some q
otherwise true o q e = absurd (let t : None ≡ Some q = e in cc)
otherwise false o q e = e

container_up : (u : State) (l q : ℕ) → up_to_container u l ≡ Some q → parent_of u.trees l ≡ Some q
unfolding up_to_container
container_up u l q e = editable_is u (parent_of u.trees l) q (otherwise (is_single_line u.trees l) (if_editable u (parent_of u.trees l)) q e)

entry_up : (u : State) (l q : ℕ) → up_to_entry u l ≡ Some q → parent_of u.trees l ≡ Some q
unfolding up_to_entry
entry_up u l q e = editable_is u (parent_of u.trees l) q (otherwise (is_entry u l) (if_editable u (parent_of u.trees l)) q e)

bound_enough : (u : State) (l : ℕ) → size_at u.trees 0 < size_at u.trees l + turn_bound u
bound_enough u l = omega arith

container_ends : (u : State) (l : ℕ) → IsValid u → IsWithin u.trees 0 l → up_to_container u (nearest_container u l) ≡ None
unfolding nearest_container
container_ends u l is inside = climbs u.trees u.next is.forest (up_to_container u) (container_up u) (turn_bound u) l inside (bound_enough u l)

entry_ends : (u : State) (l : ℕ) → IsValid u → IsWithin u.trees 0 l → up_to_entry u (nearest_entry u l) ≡ None
unfolding nearest_entry
entry_ends u l is inside = climbs u.trees u.next is.forest (up_to_entry u) (entry_up u) (turn_bound u) l inside (bound_enough u l)

-- the container of a line holds it
pub container_holds : (u : State) (l : ℕ) → IsValid u → IsWithin u.trees 0 l → IsWithin u.trees (container_of u l) l
unfolding container_of nearest_container nearest_entry entry_over
container_holds u l is inside =
    let c = walk (up_to_container u) (turn_bound u) l in
    let held = walk_in (λ k. IsWithin u.trees k l) (up_to_container u) (up_to_container u) (λ k _. refl) (λ k q h e. higher k q h (container_up u k q e)) (turn_bound u) l here in
    by (is_plain_block u c && is_entry u (walk (up_to_entry u) (turn_bound u) c)) c held
    (walk_in (λ k. IsWithin u.trees k l) (up_to_entry u) (up_to_entry u) (λ k _. refl) (λ k q h e. higher k q h (entry_up u k q e)) (turn_bound u) c held)
  where
    here : IsWithin u.trees l l
    here = within_self u.trees l is.forest.distinct (omega (arith, inside, total-without (λ m _. cond (eqb m l) 1 0) u.trees 0))

    higher : (k q : ℕ) → IsWithin u.trees k l → parent_of u.trees k ≡ Some q → IsWithin u.trees q l
    higher k q h child =
        let known = parent_count u.trees k q is.forest.distinct child in
        within_trans u.trees q k l is.forest.distinct (within_child u.trees q is.forest.distinct known.1 k q child (within_self u.trees q is.forest.distinct known.1)) h

    by : (v : Bool) (c : ℕ) → IsWithin u.trees c l → IsWithin u.trees (walk (up_to_entry u) (turn_bound u) c) l → IsWithin u.trees (if v then walk (up_to_entry u) (turn_bound u) c else c) l
    by true c h g = g
    by false c h g = h

-- ---- children

pub child_listed : (u : State) (k c : ℕ) → IsValid u → parent_of u.trees k ≡ Some c → 0 < times (children_of u.trees c) k
child_listed u k c is child =
    let r = child_of_parent u.trees k c is.forest.distinct child in
    subst (λ l. 0 < times l k) (sym (ap (λ (o : Option (Seen Content)). option_map_or (λ (x : Seen Content). x.children) o []) r.2)) r.3

-- the only label of a list
only_one : (xs : List ℕ) (j k : ℕ) → first_in xs ≡ Some j → after_in xs j ≡ None → 0 < times xs k → j ≡ k
only_one [] j k first last some = absurd (let t : None ≡ Some j = first in cc)
only_one (x ∷ ys) j k first last some =
    let same : x ≡ j = (let t = first in cc) in
    let here : eqb x j ≡ true = ap (λ v. eqb x v) (sym same) ∙ eqb_refl_true x in
    by ys (rw here at last) some
  where
    by : (zs : List ℕ) → first_in zs ≡ None → 0 < times (x ∷ zs) k → j ≡ k
    by (z ∷ zs) e h = absurd (let t : Some z ≡ None = e in cc)
    by [] e h = elim (eqb_tells x k) [
      | inl (_, at) ↦ (let same : x ≡ j = (let t = first in cc) in sym same ∙ at)
      | inr (t, _) ↦ absurd (let h' = rw t at h in omega (arith, h'))
    ]

-- ---- two states

-- the nodes of a document keep their places, their names and whether they are editable
pub record Alongside (s t : State) : Type 0 where
  pub inside : (l : ℕ) → IsWithin s.trees 0 l → IsWithin t.trees 0 l
  pub parents : (l : ℕ) → IsWithin s.trees 0 l → parent_of t.trees l ≡ parent_of s.trees l
  pub names : (l : ℕ) → IsWithin s.trees 0 l → name_of t.trees l ≡ name_of s.trees l
  pub editable : (l : ℕ) → IsWithin s.trees 0 l → is_editable_for t l ≡ is_editable_for s l

told : (test : List ℕ → Bool) (o : Option Content) → option_map_or (λ c. option_map_or test (name_in c) false) o false ≡ option_map_or test (option_and_then name_in o) false
told test None = refl
told test (Some c) = refl

module _ (s t : State) (is : IsValid s) (is_t : IsValid t) (a : Alongside s t) where
  abbrev D : ℕ → Type 0
  D l = IsWithin s.trees 0 l

  above : (l q : ℕ) → D l → parent_of s.trees l ≡ Some q → D q
  above l q d child = within_above s.trees s.next is.forest q l child d

  below : (l q : ℕ) → D q → parent_of s.trees l ≡ Some q → D l
  below l q d child = within_below s.trees s.next is.forest q l child d

  child_later : (l q : ℕ) → D q → parent_of s.trees l ≡ Some q → parent_of t.trees l ≡ Some q
  child_later l q d child = a.parents l (below l q d child) ∙ child

  named : (l : ℕ) (name : List ℕ) → D l → has_name t.trees l name ≡ has_name s.trees l name
  named l name d = ap (λ (o : Option (List ℕ)). option_map_or (λ own. bytes_eq own name) o false) (a.names l d)

  single_same : (l : ℕ) → D l → is_single_line t.trees l ≡ is_single_line s.trees l
  unfolding is_single_line
  single_same l d =
      let test = names.is_single_line_container in
      told test (content_of t.trees l) ∙ (ap (λ (o : Option (List ℕ)). option_map_or test o false) (a.names l d) ∙ sym (told test (content_of s.trees l)))

  entry_same : (l : ℕ) → D l → is_entry t l ≡ is_entry s l
  unfolding is_entry is_description
  entry_same l d = rw (named l (codes "li") d, named l (codes "dd") d, named l (codes "dt") d) refl

  parent_same : (l : ℕ) → D l → if_editable t (parent_of t.trees l) ≡ if_editable s (parent_of s.trees l)
  parent_same l d = ap (if_editable t) (a.parents l d) ∙ by (parent_of s.trees l) refl
    where
      by : (o : Option ℕ) → parent_of s.trees l ≡ o → if_editable t o ≡ if_editable s o
      by None e = refl
      by (Some q) e = ap (λ (v : Bool). if v then Some q else None) (a.editable q (above l q d e))

  container_step : (l : ℕ) → D l → up_to_container t l ≡ up_to_container s l
  unfolding up_to_container
  container_step l d =
      ap (λ (v : Bool). if v then None else if_editable t (parent_of t.trees l)) (single_same l d)
      ∙ ap (λ (o : Option ℕ). if is_single_line s.trees l then None else o) (parent_same l d)

  entry_step : (l : ℕ) → D l → up_to_entry t l ≡ up_to_entry s l
  unfolding up_to_entry
  entry_step l d =
      ap (λ (v : Bool). if v then None else if_editable t (parent_of t.trees l)) (entry_same l d)
      ∙ ap (λ (o : Option ℕ). if is_entry s l then None else o) (parent_same l d)

  container_closed : (l q : ℕ) → D l → up_to_container t l ≡ Some q → D q
  container_closed l q d e = above l q d (container_up s l q (sym (container_step l d) ∙ e))

  entry_closed : (l q : ℕ) → D l → up_to_entry t l ≡ Some q → D q
  entry_closed l q d e = above l q d (entry_up s l q (sym (entry_step l d) ∙ e))

  nearest_same : (l : ℕ) → D l → nearest_container t l ≡ nearest_container s l
  unfolding nearest_container
  nearest_same l d =
      walks_agree D (up_to_container t) (up_to_container s) container_step container_closed (turn_bound t) (turn_bound s) l d (container_ends t l is_t (a.inside l d)) (container_ends s l is d)

  nearest_inside : (l : ℕ) → D l → D (nearest_container t l)
  unfolding nearest_container
  nearest_inside l d = walk_in D (up_to_container t) (up_to_container s) container_step container_closed (turn_bound t) l d

  nearest_entry_same : (l : ℕ) → D l → nearest_entry t l ≡ nearest_entry s l
  unfolding nearest_entry
  nearest_entry_same l d =
      walks_agree D (up_to_entry t) (up_to_entry s) entry_step entry_closed (turn_bound t) (turn_bound s) l d (entry_ends t l is_t (a.inside l d)) (entry_ends s l is d)

  nearest_entry_inside : (l : ℕ) → D l → D (nearest_entry t l)
  unfolding nearest_entry
  nearest_entry_inside l d = walk_in D (up_to_entry t) (up_to_entry s) entry_step entry_closed (turn_bound t) l d

  plain_same : (l : ℕ) → D l → is_plain_block t l ≡ is_plain_block s l
  unfolding is_plain_block
  plain_same l d = rw (a.editable l d, named l (codes "p") d, named l (codes "div") d) refl

  over_same : (c : ℕ) → D c → entry_over t c ≡ entry_over s c
  unfolding entry_over
  over_same c d = rw (plain_same c d, nearest_entry_same c d, entry_same (nearest_entry s c) (subst D (nearest_entry_same c d) (nearest_entry_inside c d))) refl

  pub container_same : (l : ℕ) → D l → container_of t l ≡ container_of s l
  unfolding container_of
  container_same l d = over_same (nearest_container t l) (nearest_inside l d) ∙ ap (entry_over s) (nearest_same l d)

  pub container_inside : (l : ℕ) → D l → D (container_of t l)
  unfolding container_of entry_over
  container_inside l d =
      let c = nearest_container t l in
      by (is_plain_block t c && is_entry t (nearest_entry t c)) (nearest_inside l d) (nearest_entry_inside c (nearest_inside l d))
    where
      by : (v : Bool) → D (nearest_container t l) → D (nearest_entry t (nearest_container t l)) → D (if v then nearest_entry t (nearest_container t l) else nearest_container t l)
      by true p q = q
      by false p q = p

  own_same : (c : ℕ) → D c → is_own_container t c ≡ is_own_container s c
  unfolding is_own_container
  own_same c d = rw (a.editable c d, single_same c d) refl

  -- an entry that isn't empty stays so

  none_first : (xs : List ℕ) (k : ℕ) → first_in xs ≡ None → 0 < times xs k → ⊥
  none_first [] k e h = omega (arith, h)
  none_first (x ∷ xs) k e h = let t : Some x ≡ None = e in cc

  sole_before : (c k j : ℕ) → D c → first_of s.trees c ≡ Some k → first_of t.trees c ≡ Some j → is_break t.trees j ≡ true → is_none (next_of t.trees j) ≡ true → has_sole_break s c ≡ true
  unfolding has_sole_break
  sole_before c k j d first first' br none =
      let child = parent_of-first s.trees is.forest.distinct c k first in
      let child' = parent_of-first t.trees is_t.forest.distinct c j first' in
      let last : after_in (children_of t.trees c) j ≡ None = ap (option_and_then (λ p. after_in (children_of t.trees p) j)) (sym child') ∙ nothing (next_of t.trees j) none in
      let sole : (m : ℕ) → parent_of s.trees m ≡ Some c → j ≡ m = λ m up. only_one (children_of t.trees c) j m first' last (child_listed t m c is_t (child_later m c d up)) in
      let same = sole k child in
      let br_k : is_break s.trees k ≡ true = sym (named k (codes "br") (below k c d child)) ∙ subst (λ l. is_break t.trees l ≡ true) same br in
      rw (first, br_k) (by k child same sole (next_of s.trees k) refl)
    where
      nothing : (o : Option ℕ) → is_none o ≡ true → o ≡ None
      nothing None e = refl
      nothing (Some m) e = absurd (true≢false (sym e))

      by : (k : ℕ) → parent_of s.trees k ≡ Some c → j ≡ k → ((m : ℕ) → parent_of s.trees m ≡ Some c → j ≡ m) → (o : Option ℕ) → next_of s.trees k ≡ o → is_none o ≡ true
      by k child same sole None e = refl
      by k child same sole (Some m) e =
          let up = parent_of-next s.trees is.forest.distinct k m c child e in
          let own : k ≡ m = sym same ∙ sole m up in
          let after : after_in (children_of s.trees c) k ≡ Some k = ap (option_and_then (λ p. after_in (children_of s.trees p) k)) (sym child) ∙ (e ∙ ap Some (sym own)) in
          absurd (true≢false (sym (eqb_refl_true k) ∙ (ap (λ o. is_label o k) (sym after) ∙ after_not_self (children_of s.trees c) k (times-children_of s.trees c k is.forest.distinct))))

  pub empty_before : (c : ℕ) → D c → is_empty_entry t c ≡ true → is_empty_entry s c ≡ true
  unfolding is_empty_entry has_sole_break
  empty_before c d e =
      let parts = and_parts (is_entry t c) (is_none (first_of t.trees c) || has_sole_break t c) e in
      let entry : is_entry s c ≡ true = sym (entry_same c d) ∙ parts.0 in
      rw entry (by_first (first_of s.trees c) refl parts.1)
    where
      by_later : (k : ℕ) → first_of s.trees c ≡ Some k → (o : Option ℕ) → first_of t.trees c ≡ o → (is_none o || option_map_or (λ j. is_break t.trees j && is_none (next_of t.trees j)) o false) ≡ true → has_sole_break s c ≡ true
      by_later k first None e rest =
          absurd (none_first (children_of t.trees c) k e (child_listed t k c is_t (child_later k c d (parent_of-first s.trees is.forest.distinct c k first))))
      by_later k first (Some j) e rest =
          let sole = and_parts (is_break t.trees j) (is_none (next_of t.trees j)) rest in
          sole_before c k j d first e sole.0 sole.1

      by_first : (o : Option ℕ) → first_of s.trees c ≡ o → (is_none (first_of t.trees c) || has_sole_break t c) ≡ true → (is_none o || has_sole_break s c) ≡ true
      by_first None e rest = refl
      by_first (Some k) e rest = by_later k e (first_of t.trees c) refl rest

  -- so the line at a node of both keeps its container
  pub line_later : (l : ℕ) → D l → HasOwnLine s l → HasOwnLine t l
  line_later l d line =
      let same = container_same l d in
      let inside : D (container_of s l) = subst D same (container_inside l d) in
      record {
        own = ap (is_own_container t) same ∙ (own_same (container_of s l) inside ∙ line.own);
        filled = elim (cases_Bool (is_empty_entry t (container_of t l))) [
          | inr off ↦ off
          | inl on ↦ absurd (true≢false (sym (empty_before (container_of s l) inside (subst (λ c. is_empty_entry t c ≡ true) same on)) ∙ line.filled))
        ];
      }

  -- ---- what holds a node held it before

  held_step : (l x : ℕ) → ((p : ℕ) → parent_of t.trees x ≡ Some p → D p → IsWithin t.trees l p → IsWithin s.trees l p) → D x → IsWithin t.trees l x → IsWithin s.trees l x
  held_step l x up d held = elim (eqb_tells l x) [
    | inl (_, e) ↦ subst (λ k. IsWithin s.trees k x) (sym e) (within_self s.trees x is.forest.distinct (top_count x d))
    | inr (_, off) ↦ (
        let w = within_parent t.trees l is_t.forest.distinct (top_known t.trees l x held) x off held in
        let child : parent_of s.trees x ≡ Some w.0 = sym (a.parents x d) ∙ w.1 in
        let before = up w.0 w.1 (above x w.0 d child) w.2 in
        within_child s.trees l is.forest.distinct (top_known s.trees l w.0 before) x w.0 child before)
  ]
    where
      top_count : (k : ℕ) → D k → 0 < count_of s.trees k
      top_count k i = omega (arith, i, total-without (λ m _. cond (eqb m k) 1 0) s.trees 0)

  held_at : (n l x : ℕ) → depth_of t.trees x ≡ n → D x → IsWithin t.trees l x → IsWithin s.trees l x
  held_at zero l x deep d held = held_step l x (λ p e _ _. absurd (let more = depth_of-parent t.trees x p is_t.forest.distinct e in omega (arith, deep, more))) d held
  held_at (suc n) l x deep d held = held_step l x (λ p e i k. held_at n l p (let more = depth_of-parent t.trees x p is_t.forest.distinct e in omega (arith, deep, more)) i k) d held

  pub held_before : (l x : ℕ) → D x → IsWithin t.trees l x → IsWithin s.trees l x
  held_before l x d held = held_at (depth_of t.trees x) l x refl d held

  pub holder_named : (l x : ℕ) → D x → IsWithin t.trees l x → name_of t.trees l ≡ name_of s.trees l
  holder_named l x d held = a.names l (holder_inside s.trees s.next l x is.forest (held_before l x d held) d)

-- ---- from a text to its parent

-- a text or comment is no element
no_name : (o : Option Content) → option_map_or has_chars o false ≡ true → option_and_then name_in o ≡ None
no_name None e = refl
no_name (Some Document) e = absurd (true≢false (sym e))
no_name (Some (Element name attributes)) e = absurd (true≢false (sym e))
no_name (Some (Words chars)) e = refl
no_name (Some (Remark chars)) e = refl

module _ (u : State) (is : IsValid u) (l q : ℕ) (inside : IsWithin u.trees 0 l) (chars : has_chars_at u.trees l ≡ true) (child : parent_of u.trees l ≡ Some q) where
  not_single : is_single_line u.trees l ≡ false
  unfolding is_single_line
  not_single = told names.is_single_line_container (content_of u.trees l) ∙ ap (λ (o : Option (List ℕ)). option_map_or names.is_single_line_container o false) (no_name (content_of u.trees l) chars)

  not_plain : is_plain_block u l ≡ false
  unfolding is_plain_block
  not_plain =
      let none = no_name (content_of u.trees l) chars in
      rw (none) (by (is_editable_for u l))
    where
      by : (v : Bool) → (v && false) ≡ false
      by true = refl
      by false = refl

  step_is : up_to_container u l ≡ (if is_editable_for u q then Some q else None)
  unfolding up_to_container
  step_is = rw (not_single, child) refl

  stepped : (n : ℕ) → 0 < n → (o : Option ℕ) → up_to_container u l ≡ o → walk (up_to_container u) n l ≡ followed o l (walk (up_to_container u) (n - 1))
  unfolding walk
  stepped zero some o e = absurd (omega arith)
  stepped (suc n) some o e =
      let less : suc n - 1 ≡ n = omega arith in
      ap (λ (w : Option ℕ). followed w l (walk (up_to_container u) n)) e ∙ ap (λ m. followed o l (walk (up_to_container u) m)) (sym less)

  q_inside : IsWithin u.trees 0 q
  q_inside = within_above u.trees u.next is.forest q l child inside

  -- where the parent isn't editable, the text itself is come to, which is no container
  stays_there : is_editable_for u q ≡ false → container_of u l ≡ l
  unfolding container_of nearest_container entry_over
  stays_there off =
      let none : up_to_container u l ≡ None = step_is ∙ ap (λ (v : Bool). if v then Some q else None) off in
      let here : walk (up_to_container u) (turn_bound u) l ≡ l = stepped (turn_bound u) (omega arith) None none in
      rw (here, not_plain) refl

  goes_on : is_editable_for u q ≡ true → nearest_container u l ≡ nearest_container u q
  unfolding nearest_container
  goes_on on =
      let to : up_to_container u l ≡ Some q = step_is ∙ ap (λ (v : Bool). if v then Some q else None) on in
      let step = up_to_container u in
      stepped (turn_bound u) (omega arith) (Some q) to
      ∙ walks_agree (λ k. IsWithin u.trees 0 k) step step (λ k _. refl) (λ k p d e. within_above u.trees u.next is.forest p k (container_up u k p e) d) (turn_bound u - 1) (turn_bound u) q q_inside
      (climbs u.trees u.next is.forest step (container_up u) (turn_bound u - 1) q q_inside (omega arith))
      (climbs u.trees u.next is.forest step (container_up u) (turn_bound u) q q_inside (bound_enough u q))

  own_not : is_own_container u l ≡ true → ⊥
  unfolding is_own_container
  own_not own = true≢false (sym (and_parts (is_editable_for u l) (is_single_line u.trees l) own).1 ∙ not_single)

  same_container : HasOwnLine u l → container_of u l ≡ container_of u q
  unfolding container_of
  same_container line = elim (cases_Bool (is_editable_for u q)) [
    | inl on ↦ over (goes_on on)
    | inr off ↦ absurd (own_not (subst (λ c. is_own_container u c ≡ true) (stays_there off) line.own))
  ]
    where
      over : nearest_container u l ≡ nearest_container u q → container_of u l ≡ container_of u q
      over e = ap (entry_over u) e

  -- so the line at its parent is the line at the text
  pub line_above : HasOwnLine u l → HasOwnLine u q
  line_above line =
      let same = same_container line in
      record {
        own = subst (λ c. is_own_container u c ≡ true) same line.own;
        filled = subst (λ c. is_empty_entry u c ≡ false) same line.filled;
      }
