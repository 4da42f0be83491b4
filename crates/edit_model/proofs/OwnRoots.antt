-- Where no state of contenteditable changes, an island leaves the document only below a root that is editable or made.
use Rattle.std.proofs.Common.{◌≡◌, ◌≢◌, ◌⊎◌, ℕ, zero, suc, ◌<◌, ◌≤◌, Bool, true, false, ◌||◌, not, cond, eqb, Option, Some, None, refl, sym, ap, subst, ◌∙◌, inl, inr, arith, true≢false}
use Rattle.std.specs.Option.{option_map, option_map_or}
use Rattle.std.proofs.lemmas.Bool.{and_parts, or_cases, or_parts, cases_Bool, cases_lt, eqb-true, leb-false, leb-true, not-true}
use Rattle.std.proofs.lemmas.Bool.Decides.{eqb_tells}
use Rattle.point_order.specs.DomModel.declared.Content.{Content}
use Rattle.point_order.specs.DomModel.Contents.{is_element, is_break}
use Rattle.point_order.specs.DomModel.Editing.{contenteditable, is_true_state, is_false_state, editing_host, is_host, is_editable}
use Rattle.point_order.specs.DomModel.Forest.{Forest, Seen, is_label, count_of, tree_of, parent_of, content_of, IsDistinct, IsWithin, depth_of}
use Rattle.point_order.proofs.DomModel.Totals.{total-without}
use Rattle.point_order.proofs.DomModel.Stands.{seek_absent}
use Rattle.point_order.proofs.DomModel.Links.{parent_count, tree_is, tree_of_absent}
use Rattle.point_order.proofs.DomModel.Move.{parent_apart}
use Rattle.point_order.proofs.DomModel.Within.{within_self, within_parent, within_step, depth_of-parent, within_up}
use Rattle.point_order.proofs.DomModel.Hosts.{editing_host-child}
use Rattle.edit_model.specs.State.{State}
use Rattle.edit_model.specs.Confined.{is_editable_for, is_inside, is_made, is_open, is_own}
use Rattle.edit_model.specs.Edit.{Insert, Remove, Move, Replace, Set, Unset, is_made_edit}
use Rattle.edit_model.specs.Action as action
use Rattle.edit_model.specs.Action.{Action, acted}
use Rattle.edit_model.specs.Run.{Reaches, here, onward}
use Rattle.edit_model.specs.History.{begun}
use Rattle.edit_model.specs.Valid.{IsForest, IsValid}
use Rattle.edit_model.specs.Outside.{hollowed, IsConfined, is_within_host, is_island}
use Rattle.edit_model.specs.Laws.{TakesOut, TakesOwn, TakesOwnOn, LeavesStatesOn}
use Rattle.edit_model.proofs.CommandParts.{command_along}
use Rattle.edit_model.proofs.Tests.{label_is, removes}
use Rattle.edit_model.proofs.Documents.{document_shape, tree_inside, within_above}
use Rattle.edit_model.proofs.ValidRuns.{valid_along}
use Rattle.edit_model.proofs.Trees.{none_or_some, within_trans}
use Rattle.edit_model.proofs.Hollow.{below_left_out, hollowed_split, hollowed_le, inside_part}
use Rattle.edit_model.proofs.Commands.{valid_begun, confined_begun, command_confined}
use Rattle.edit_model.proofs.OutsideRuns.{outside_along}
use Rattle.edit_model.proofs.Islands.{host_within}
use Rattle.edit_model.proofs.IslandRuns.{Locked, Offers, root_content, content_at, host_offers, editable_offers, locked_under, locked_along, island_locked, goes_out, root_closed}
use Rattle.edit_model.proofs.States.{editable_value, stated_value, host_value, host_is, stated_is, SameStates, states_along}

-- the tree of a node that holds something of the document stands in it
pub holder_inside : (f : Forest Content) (next n l : ℕ) → IsForest f next → IsWithin f n l → IsWithin f 0 l → IsWithin f 0 n
holder_inside f next n l is in_n in_0 = elim (eqb_tells n 0) [
  | inl (_, e) ↦ subst (λ k. IsWithin f 0 k) (sym e) (within_self f 0 is.distinct is.document)
  | inr (_, off) ↦ (let d = document_shape f next is in tree_inside f d.0 d.1 d.2 n l is.distinct d.3 (omega (arith, off)) in_n in_0)
]

-- the root of a tree that holds something is there
root_known : (f : Forest Content) (n l : ℕ) → IsWithin f n l → 0 < count_of f n
root_known f n l held = elim (none_or_some (count_of f n)) [
  | inr some ↦ some
  | inl none ↦ absurd (let empty = tree_of_absent f n none in let held' = rw empty at held in omega (arith, held'))
]

-- what a node without a state has where its parent offers the host
hosted_by : (a b : Bool) (above : Option ℕ) (h : ℕ) (under : Bool) → a ≡ false → under ≡ true → above ≡ Some h → cond a None (cond (b || under) above None) ≡ Some h
hosted_by a true above h under none element up = rw none up
hosted_by a false above h under none element up = rw (none, element) up

-- where a node offers the host and stands in the tree of a node with a state, the host stands there
offers_within : (f : Forest Content) (n p h : ℕ) (c : Content) → IsDistinct f → 0 < count_of f n → content_of f n ≡ Some c → (is_true_state c || is_false_state c) ≡ true → IsWithin f n p → Offers f h p → IsWithin f n h
offers_within f n p h c once known content stated inside offers = by_state (is_true_state offers.content) offers.offer
  where
    by_state : (v : Bool) → cond v (Some p) (editing_host f p) ≡ Some h → IsWithin f n h
    by_state true e = let same : p ≡ h = (let t = e in cc) in subst (λ k. IsWithin f n k) same inside
    by_state false e = host_within f once n known c content stated p h inside e

module _ (s : State) (h : ℕ) (keeping : Bool) (is : IsValid s) (hosted : is_host s.trees h ≡ true) (h_inside : IsWithin s.trees 0 h) (u : State) (q : Reaches (begun (Some h) keeping s) u) (states : SameStates (begun (Some h) keeping s) u) where
  valid : IsValid u
  valid = valid_along q (valid_begun (Some h) keeping s is)

  host_u : u.host ≡ Some h
  unfolding begun
  host_u = (command_along q).host

  start_u : u.start ≡ s.next
  unfolding begun
  start_u = (command_along q).start

  same_u : (k : ℕ) → k < s.next → editable_value u.trees k ≡ editable_value s.trees k
  unfolding begun
  same_u k low = states.same k low

  made_u : (k : ℕ) → s.next ≤ k → stated_value (editable_value u.trees k) ≡ false
  unfolding begun
  made_u k high = states.made k high

  h_low : h < s.next
  h_low = is.forest.below h (omega (arith, h_inside, total-without (λ m _. cond (eqb m h) 1 0) s.trees 0))

  hosted_u : is_host u.trees h ≡ true
  hosted_u = host_is u.trees h ∙ (ap host_value (same_u h h_low) ∙ (sym (host_is s.trees h) ∙ hosted))

  left_out : (x : ℕ) → IsWithin u.trees h x → x ≢ h → count_of (hollowed (tree_of s.trees 0) h) x ≡ 0
  left_out x inside off =
      ap (λ g. count_of g x) (sym (command_confined (Some h) keeping s u is q))
      ∙ below_left_out u.trees u.next valid.forest h x inside off

  -- a node that is below the host now never held it
  not_above : (x : ℕ) → IsWithin u.trees h x → x ≢ h → count_of (tree_of s.trees x) h ≡ 0
  not_above x inside off = elim (none_or_some (count_of (tree_of s.trees x) h)) [
    | inl none ↦ none
    | inr holds ↦ absurd (
        let f = s.trees in
        let once = is.forest.distinct in
        let x_inside = holder_inside f s.next x h is.forest holds h_inside in
        let document_once : IsDistinct (tree_of f 0) = λ m. omega (arith, once m, total-without (λ j _. cond (eqb j m) 1 0) f 0) in
        let below : IsWithin f h x = omega (arith, x_inside, left_out x inside off, hollowed_split (tree_of f 0) h x document_once off, inside_part f s.next is.forest h x) in
        let h_known : 0 < count_of f h = omega (arith, h_inside, total-without (λ m _. cond (eqb m h) 1 0) f 0) in
        let up = within_parent f h once h_known x (λ e. off (sym e)) below in
        parent_apart f x up.0 once up.1 (within_trans f x h up.0 once holds up.2))
  ]

  -- a node below the host that had a state as the command began is locked
  stated_locked : (x : ℕ) → x < s.next → IsWithin u.trees h x → x ≢ h → stated_value (editable_value u.trees x) ≡ true → Locked (tree_of s.trees x) x s.next h
  stated_locked x low inside off stated = elim (none_or_some (count_of s.trees x)) [
    | inl none ↦ absurd (
        let empty : stated_value (editable_value s.trees x) ≡ false = ap (λ (o : Option (Seen Content)). stated_value (option_map contenteditable (option_map (λ y. y.content) o))) (seek_absent None s.trees x none) in
        true≢false (sym before ∙ empty))
    | inr some ↦ (
        let t = tree_is s.trees x (omega (arith, is.forest.distinct x, some)) in
        let content = root_content s.trees x t.0 t.1 is.forest.distinct t.2 in
        record {
          content = t.0;
          kids = t.1;
          top = t.2;
          stated = sym (stated_is s.trees x t.0 content) ∙ before;
          early = λ k here_k. is.forest.below k (omega (arith, here_k, total-without (λ m _. cond (eqb m k) 1 0) s.trees x));
          apart = not_above x inside off;
        })
  ]
    where
      before : stated_value (editable_value s.trees x) ≡ true
      before = ap stated_value (sym (same_u x low)) ∙ stated

  locked_tree : (x : ℕ) → Locked (tree_of s.trees x) x s.next h → tree_of u.trees x ≡ tree_of s.trees x
  unfolding begun
  locked_tree x locked = locked_along x h (valid_begun (Some h) keeping s is) refl locked q

  -- ---- a node that the command made, and that is below the host, is editable

  module _ (o : ℕ) (made : s.next ≤ o) where
    stateless : (x : ℕ) → IsWithin u.trees x o → IsWithin u.trees h x → x ≢ h → stated_value (editable_value u.trees x) ≡ false
    stateless x holds inside off = elim (cases_lt x s.next) [
      | inr high ↦ made_u x high
      | inl low ↦ elim (cases_Bool (stated_value (editable_value u.trees x))) [
        | inr none ↦ none
        | inl stated ↦ absurd (
            let locked = stated_locked x low inside off stated in
            let there_o : IsWithin s.trees x o = subst (λ g. 0 < count_of g o) (locked_tree x locked) holds in
            let early = locked.early o there_o in
            omega (arith, early, made))
      ]
    ]

    editable_step : (x : ℕ) → ((p : ℕ) → parent_of u.trees x ≡ Some p → IsWithin u.trees p o → IsWithin u.trees h p → p ≢ h → editing_host u.trees p ≡ Some h) → IsWithin u.trees x o → IsWithin u.trees h x → x ≢ h → editing_host u.trees x ≡ Some h
    editable_step x above holds inside off =
        let f = u.trees in
        let once = valid.forest.distinct in
        let h_known = root_known f h x inside in
        let up = within_parent f h once h_known x (λ e. off (sym e)) inside in
        let offers : Offers f h up.0 = elim (eqb_tells up.0 h) [
          | inl (_, e) ↦ subst (λ k. Offers f h k) (sym e) (host_offers f h once h_known hosted_u)
          | inr (_, off_p) ↦ editable_offers f u.next h up.0 x valid.forest up.1 (above up.0 up.1 (within_up f once x up.0 o up.1 holds) up.2 off_p)
        ] in
        let c = content_at f once x (parent_count f x up.0 once up.1).0 in
        let none : (is_true_state c.0 || is_false_state c.0) ≡ false = sym (stated_is f x c.0 c.1) ∙ stateless x holds inside off in
        editing_host-child f once x up.0 c.0 offers.content up.1 c.1 offers.content_is
        ∙ hosted_by (is_true_state c.0 || is_false_state c.0) (is_element c.0) (cond (is_true_state offers.content) (Some up.0) (editing_host f up.0)) h (is_element offers.content) none offers.element offers.offer

    editable_at : (n x : ℕ) → depth_of u.trees x ≡ n → IsWithin u.trees x o → IsWithin u.trees h x → x ≢ h → editing_host u.trees x ≡ Some h
    editable_at zero x deep holds inside off = editable_step x (λ p e _ _ _. absurd (let more = depth_of-parent u.trees x p valid.forest.distinct e in omega (arith, deep, more))) holds inside off
    editable_at (suc n) x deep holds inside off = editable_step x (λ p e k i z. editable_at n p (let more = depth_of-parent u.trees x p valid.forest.distinct e in omega (arith, deep, more)) k i z) holds inside off

  made_editable : (o : ℕ) → s.next ≤ o → 0 < count_of u.trees o → IsWithin u.trees h o → o ≢ h → editing_host u.trees o ≡ Some h
  made_editable o made known inside off = editable_at o made (depth_of u.trees o) o refl (within_self u.trees o valid.forest.distinct known) inside off

  -- ---- the root of a removed tree that holds an island

  -- an open node of the document offers the host, where it has a child
  open_offers : (o n : ℕ) → parent_of u.trees n ≡ Some o → is_open u o ≡ true → IsWithin u.trees 0 o → IsConfined u → Offers u.trees h o
  unfolding is_open is_inside is_editable_for is_made
  open_offers o n child allowed inside confined = elim (or_cases (is_inside u o) (is_made u o) allowed) [
    | inl at ↦ elim (or_cases (is_label u.host o) (is_editable_for u o) at) [
      | inl host ↦ (
          let same : h ≡ o = (let e : Some h ≡ Some o = sym host_u ∙ label_is u.host o host in cc) in
          subst (λ k. Offers u.trees h k) same (host_offers u.trees h valid.forest.distinct (subst (λ k. 0 < count_of u.trees k) (sym same) known) hosted_u))
      | inr editable ↦ by_editing (label_is (editing_host u.trees o) h (ap (λ (w : Option ℕ). option_map_or (λ k. is_editable u.trees k o) w false) (sym host_u) ∙ editable))
    ]
    | inr own ↦ (
        let high : s.next ≤ o = (let k = leb-true u.start o own in omega (arith, k, start_u)) in
        let off : o ≢ h = λ e. omega (arith, high, e, h_low) in
        by_editing (made_editable o high known (below_h high off) off))
  ]
    where
      known : 0 < count_of u.trees o
      known = (parent_count u.trees n o valid.forest.distinct child).1

      by_editing : editing_host u.trees o ≡ Some h → Offers u.trees h o
      by_editing e = editable_offers u.trees u.next h o n valid.forest child e

      below_h : s.next ≤ o → o ≢ h → IsWithin u.trees h o
      below_h high off =
          let once : IsDistinct (tree_of u.trees 0) = λ m. omega (arith, valid.forest.distinct m, total-without (λ j _. cond (eqb j m) 1 0) u.trees 0) in
          let early : count_of (hollowed (tree_of u.trees 0) h) o ≡ 0 = elim (none_or_some (count_of (hollowed (tree_of u.trees 0) h) o)) [
            | inl none ↦ none
            | inr some ↦ absurd (
                let old : 0 < count_of (hollowed (tree_of s.trees 0) h) o = subst (λ g. 0 < count_of g o) (command_confined (Some h) keeping s u is q) some in
                let low = is.forest.below o (omega (arith, old, hollowed_le (tree_of s.trees 0) h o, total-without (λ m _. cond (eqb m o) 1 0) s.trees 0)) in
                omega (arith, low, high))
          ] in
          omega (arith, inside, early, hollowed_split (tree_of u.trees 0) h o once off, inside_part u.trees u.next valid.forest h o)

  own_root : (l p n : ℕ) → parent_of s.trees l ≡ Some p → Offers s.trees h p → is_made_edit (Remove n) u ≡ true → IsWithin u.trees 0 l → IsWithin u.trees n l → n ≢ l → IsConfined u → is_own u n ≡ true
  unfolding is_made_edit is_own is_editable_for is_made
  own_root l p n island_child island_offers may inside holds off confined = elim (cases_Bool (is_own u n)) [
    | inl own ↦ own
    | inr none ↦ absurd (never none)
  ]
    where
      never : is_own u n ≡ false → ⊥
      never none =
          let f = u.trees in
          let t = removes u n may in
          let parts = or_parts (is_editable_for u n) (is_made u n) none in
          let low : n < s.next = (let k = leb-false u.start n parts.1 in omega (arith, k, start_u)) in
          let uneditable : is_editable f h n ≡ false = ap (λ (w : Option ℕ). option_map_or (λ k. is_editable f k n) w false) (sym host_u) ∙ parts.0 in
          let n_inside = holder_inside f u.next n l valid.forest holds inside in
          let o_inside = within_above f u.next valid.forest t.from n t.child n_inside in
          let offers = open_offers t.from n t.child t.allowed o_inside confined in
          let under = locked_under f u.next h n t.from valid.forest t.child uneditable offers in
          let content = root_content f n under.0.content under.0.kids valid.forest.distinct under.0.top in
          let stated : stated_value (editable_value f n) ≡ true = stated_is f n under.0.content content ∙ under.0.stated in
          let locked = stated_locked n low under.1.0 under.1.1 stated in
          let held : IsWithin s.trees n l = subst (λ g. 0 < count_of g l) (locked_tree n locked) holds in
          let once = is.forest.distinct in
          let known = root_known s.trees n l held in
          let p_held = within_step s.trees n once known l p off island_child held in
          let before = root_content s.trees n locked.content locked.kids once locked.top in
          let h_held = offers_within s.trees n p h locked.content once known before locked.stated p_held island_offers in
          omega (arith, h_held, locked.apart)

-- ---- every run

-- the parent of an island offers the host
island_offers : (s : State) (h l : ℕ) (keeping : Bool) → IsValid s → is_host s.trees h ≡ true → is_island s.trees h l ≡ true → (p : ℕ) × (parent_of s.trees l ≡ Some p) × Offers s.trees h p
unfolding is_island is_within_host
island_offers s h l keeping is hosted island = by_parent (parent_of s.trees l) refl ((and_parts (not (is_break s.trees l)) _ (and_parts (not (is_editable s.trees h l)) _ island).1).1)
  where
    by_parent : (o : Option ℕ) → parent_of s.trees l ≡ o → option_map_or (is_within_host s.trees h) o false ≡ true → (p : ℕ) × (parent_of s.trees l ≡ Some p) × Offers s.trees h p
    by_parent None e inside = absurd (true≢false (sym inside))
    by_parent (Some p) e inside = elim (or_cases (eqb h p) (is_editable s.trees h p) inside) [
      | inl at ↦ (
          let same : h ≡ p = eqb-true h p at in
          let known : 0 < count_of s.trees h = subst (λ k. 0 < count_of s.trees k) (sym same) (parent_count s.trees l p is.forest.distinct e).1 in
          (p, e, subst (λ k. Offers s.trees h k) same (host_offers s.trees h is.forest.distinct known hosted)))
      | inr editable ↦ (p, e, editable_offers s.trees s.next h p l is.forest e (label_is (editing_host s.trees p) h editable))
    ]

own_out : (a : Action) (u : State) (l : ℕ) → ((n : ℕ) → is_made_edit (Remove n) u ≡ true → IsWithin u.trees n l → n ≢ l → is_own u n ≡ true) → TakesOut a u l → TakesOwn a u l
own_out (action.Change (Remove n)) u l own h = (h.0, (h.1.0, (h.1.1.0, own n h.0 h.1.0 h.1.1.0)))
own_out (action.Change (Insert p b n)) u l own h = absurd h
own_out (action.Change (Move n p b)) u l own h = absurd h
own_out (action.Change (Replace n at count put)) u l own h = absurd h
own_out (action.Change (Set n name value)) u l own h = absurd h
own_out (action.Change (Unset n name)) u l own h = absurd h
own_out (action.MakeElement name attributes) u l own h = absurd h
own_out (action.MakeWords chars) u l own h = absurd h
own_out (action.Select anchor focus) u l own h = absurd h
own_out (action.Extend focus) u l own h = absurd h
own_out action.Unselect u l own h = absurd h
own_out (action.Grow at) u l own h = absurd h
own_out (action.Send node at tail) u l own h = absurd h
own_out (action.Scratch pair) u l own h = absurd h
own_out (action.Override command setting) u l own h = absurd h
own_out (action.Flag flags) u l own h = absurd h
own_out (action.Extract from end target) u l own h = absurd h

module _ (s : State) (h : ℕ) (keeping : Bool) (is : IsValid s) (hosted : is_host s.trees h ≡ true) (l : ℕ) (island : is_island s.trees h l ≡ true) (inside : IsWithin s.trees 0 l) where
  host_inside : IsWithin s.trees 0 h
  host_inside = holder_inside s.trees s.next h l is.forest (island_locked s h l keeping is hosted island).1.0 inside

  no_break : is_break s.trees l ≡ false
  unfolding is_island
  no_break = not-true (is_break s.trees l) (and_parts (not (is_break s.trees l)) _ (and_parts (not (is_editable s.trees h l)) _ island).1).0

  never_own : (u : State) (q : Reaches (begun (Some h) keeping s) u) → (is_own u l || is_break u.trees l) ≡ true → ⊥
  unfolding begun
  never_own u q =
      let locked = (island_locked s h l keeping is hosted island).0 in
      let k = command_along q in
      root_closed (tree_of s.trees l) l h u (valid_along q (valid_begun (Some h) keeping s is)) k.host (subst (λ n. Locked (tree_of s.trees l) l n h) (sym k.start) locked)
      (locked_along l h (valid_begun (Some h) keeping s is) refl locked q) s.trees is.forest.distinct refl no_break

  leave_on : (b : State) → b ≡ begun (Some h) keeping s → {t : State} (r : Reaches b t) → LeavesStatesOn r → IsWithin b.trees 0 l → IsWithin t.trees 0 l ⊎ TakesOwnOn r l
  leave_on b e here leaves in_b = inl in_b
  leave_on b e (onward {t = t} q a) leaves in_b = elim (leave_on b e q leaves.0 in_b) [
    | inr taken ↦ inr (inl taken)
    | inl still ↦ (
        let valid_b : IsValid b = subst IsValid (sym e) (valid_begun (Some h) keeping s is) in
        let confined_b : IsConfined b = subst IsConfined (sym e) (confined_begun (Some h) keeping s is) in
        let p = subst (λ z. Reaches z t) e q in
        let states = subst (λ z. SameStates z t) e (states_along q valid_b leaves.0) in
        let k = outside_along q valid_b confined_b in
        let up = island_offers s h l keeping is hosted island in
        elim (goes_out a t l k.valid (never_own t p) still) [
          | inl stays ↦ inl stays
          | inr out ↦ inr (inr (own_out a t l (λ n may holds off. own_root s h keeping is hosted host_inside t p states l up.0 n up.1 up.2 may still holds off k.confined) out))
        ])
  ]

  pub islands_leave : {t : State} (r : Reaches (begun (Some h) keeping s) t) → LeavesStatesOn r → IsWithin t.trees 0 l ⊎ TakesOwnOn r l
  unfolding begun
  islands_leave r leaves = leave_on (begun (Some h) keeping s) refl r leaves inside
