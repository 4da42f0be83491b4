-- While a command is under way that changes no state of contenteditable, a node of the document is inside where it stands below the
-- host and not in a tree that was locked as the command began; and what is open is such a node.
use Rattle.std.proofs.Common.{◌≡◌, ◌≢◌, ◌⊎◌, ℕ, zero, suc, ◌<◌, ◌≤◌, Bool, true, false, ◌||◌, cond, eqb, Option, Some, None, refl, sym, ap, subst, ◌∙◌, inl, inr, arith, true≢false}
use Rattle.std.specs.Prelude.{unwrap_or}
use Rattle.std.specs.Option.{option_map, option_map_or}
use Rattle.std.proofs.lemmas.Bool.{or_cases, cases_Bool, cases_lt, eq-eqb, leb-true}
use Rattle.std.proofs.lemmas.Bool.Decides.{eqb_tells}
use Rattle.edit_model.specs.DomModel.declared.Content.{Content}
use Rattle.edit_model.specs.DomModel.Contents.{is_element}
use Rattle.edit_model.specs.DomModel.Editing.{contenteditable, is_true_state, is_false_state, editing_host, is_host, is_editable}
use Rattle.edit_model.specs.DomModel.Forest.{Forest, Seen, is_label, count_of, tree_of, parent_of, IsDistinct, IsWithin, depth_of}
use Rattle.edit_model.proofs.DomModel.Totals.{total-without}
use Rattle.edit_model.proofs.DomModel.Stands.{seek_absent}
use Rattle.edit_model.proofs.DomModel.Links.{parent_count, tree_is, tree_of_absent}
use Rattle.edit_model.proofs.DomModel.Move.{parent_apart}
use Rattle.edit_model.proofs.DomModel.Within.{within_parent, within_child, depth_of-parent}
use Rattle.edit_model.proofs.DomModel.Hosts.{editing_host-child}
use Rattle.edit_model.specs.State.{State}
use Rattle.edit_model.specs.Confined.{is_editable_for, is_inside, is_made, is_open}
use Rattle.edit_model.specs.Run.{Reaches, here, onward, reaches_trans}
use Rattle.edit_model.specs.History.{begun}
use Rattle.edit_model.specs.Valid.{IsValid}
use Rattle.edit_model.specs.Outside.{hollowed, IsConfined}
use Rattle.edit_model.specs.Laws.{LeavesStatesOn}
use Rattle.edit_model.proofs.CommandParts.{command_along}
use Rattle.edit_model.proofs.Tests.{label_is}
use Rattle.edit_model.proofs.ValidRuns.{valid_along}
use Rattle.edit_model.proofs.Trees.{none_or_some, within_trans}
use Rattle.edit_model.proofs.Hollow.{below_left_out, hollowed_split, inside_part}
use Rattle.edit_model.proofs.Commands.{valid_begun, confined_begun, command_confined}
use Rattle.edit_model.proofs.OutsideRuns.{open_out, outside_along, rim}
use Rattle.edit_model.proofs.OwnRoots.{holder_inside}
use Rattle.edit_model.proofs.Islands.{host_within}
use Rattle.edit_model.proofs.IslandRuns.{Locked, Offers, root_content, content_at, host_offers, editable_offers, locked_along}
use Rattle.caret_laws.proofs.Trees.{either_true}
use Rattle.edit_model.proofs.States.{editable_value, stated_value, host_value, host_is, stated_is, SameStates, states_along}

-- the root of a tree that holds something is there
pub top_known : (f : Forest Content) (n l : ℕ) → IsWithin f n l → 0 < count_of f n
top_known f n l held = elim (none_or_some (count_of f n)) [
  | inr some ↦ some
  | inl none ↦ absurd (let empty = tree_of_absent f n none in let held' = rw empty at held in omega (arith, held'))
]

-- what a node without a state has where its parent offers the host
pub hosted_by : (a b : Bool) (above : Option ℕ) (h : ℕ) (under : Bool) → a ≡ false → under ≡ true → above ≡ Some h → cond a None (cond (b || under) above None) ≡ Some h
hosted_by a true above h under none element up = rw none up
hosted_by a false above h under none element up = rw (none, element) up

-- the beginning of a command in a host of the document
pub record Began (s : State) (h : ℕ) : Type 0 where
  pub valid : IsValid s
  pub hosted : is_host s.trees h ≡ true
  pub inside : IsWithin s.trees 0 h

-- a state that a command came to which changed no state of contenteditable
pub record Underway (s : State) (h : ℕ) (keeping : Bool) (u : State) : Type 0 where
  pub way : Reaches (begun (Some h) keeping s) u
  pub leaves : LeavesStatesOn way

pub leaves_trans : {s t u : State} (p : Reaches s t) (q : Reaches t u) → LeavesStatesOn p → LeavesStatesOn q → LeavesStatesOn (reaches_trans p q)
unfolding reaches_trans
leaves_trans p here h k = h
leaves_trans p (onward q a) h k = (leaves_trans p q h k.0, k.1)

module _ (s : State) (h : ℕ) (keeping : Bool) (b : Began s h) where
  -- the tree of this label was locked as the command began
  abbrev pub IsLocked : ℕ → Type 0
  IsLocked x = Locked (tree_of s.trees x) x s.next h

  -- a node in no such tree, which is the host or isn't outside it
  pub record Near (l : ℕ) : Type 0 where
    pub free : (x : ℕ) → IsLocked x → count_of (tree_of s.trees x) l ≡ 0
    pub inner : l ≢ h → count_of (hollowed (tree_of s.trees 0) h) l ≡ 0

  h_low : h < s.next
  h_low = (let i = b.inside in b.valid.forest.below h (omega (arith, i, total-without (λ m _. cond (eqb m h) 1 0) s.trees 0)))

  module _ (u : State) (way : Underway s h keeping u) where
    pub valid_way : IsValid u
    valid_way = valid_along way.way (valid_begun (Some h) keeping s b.valid)

    pub host_way : u.host ≡ Some h
    unfolding begun
    host_way = (command_along way.way).host

    pub start_way : u.start ≡ s.next
    unfolding begun
    start_way = (command_along way.way).start

    pub keeping_way : u.keeping ≡ keeping
    unfolding begun
    keeping_way = (command_along way.way).keeping

    pub confined_way : IsConfined u
    confined_way = (outside_along way.way (valid_begun (Some h) keeping s b.valid) (confined_begun (Some h) keeping s b.valid)).confined

    same_hollow : hollowed (tree_of u.trees 0) h ≡ hollowed (tree_of s.trees 0) h
    same_hollow = command_confined (Some h) keeping s u b.valid way.way

    states : SameStates (begun (Some h) keeping s) u
    states = states_along way.way (valid_begun (Some h) keeping s b.valid) way.leaves

    same_value : (k : ℕ) → k < s.next → editable_value u.trees k ≡ editable_value s.trees k
    unfolding begun
    same_value k low = states.same k low

    made_value : (k : ℕ) → s.next ≤ k → stated_value (editable_value u.trees k) ≡ false
    unfolding begun
    made_value k high = states.made k high

    pub hosted_way : is_host u.trees h ≡ true
    hosted_way = host_is u.trees h ∙ (ap host_value (same_value h h_low) ∙ (sym (host_is s.trees h) ∙ b.hosted))

    same_locked : (x : ℕ) → IsLocked x → tree_of u.trees x ≡ tree_of s.trees x
    unfolding begun
    same_locked x locked = locked_along x h (valid_begun (Some h) keeping s b.valid) refl locked way.way

    -- ---- what is open is near

    none_held : (x p : ℕ) → (0 < count_of (tree_of s.trees x) p → ⊥) → count_of (tree_of s.trees x) p ≡ 0
    none_held x p never = elim (none_or_some (count_of (tree_of s.trees x) p)) [ inl none ↦ none | inr some ↦ absurd (never some) ]

    locked_root : (x : ℕ) → IsLocked x → 0 < count_of (tree_of s.trees x) x
    locked_root x locked = subst (λ g. 0 < count_of g x) (sym locked.top) (let t : eqb x x ≡ true = eq-eqb x x refl in rw t (omega arith))

    editable_free : (p : ℕ) → is_editable_for u p ≡ true → (x : ℕ) → IsLocked x → count_of (tree_of s.trees x) p ≡ 0
    unfolding is_editable_for
    editable_free p editable x locked = none_held x p (λ some. (
        let f = u.trees in
        let once = valid_way.forest.distinct in
        let hosted : is_editable f h p ≡ true = ap (λ (o : Option ℕ). option_map_or (λ k. is_editable f k p) o false) (sym host_way) ∙ editable in
        let same = same_locked x locked in
        let held : IsWithin f x p = subst (λ g. 0 < count_of g p) (sym same) some in
        let there : 0 < count_of f x = omega (arith, locked_root x locked, ap (λ g. count_of g x) same, total-without (λ m _. cond (eqb m x) 1 0) f x) in
        let content = root_content f x locked.content locked.kids once (same ∙ locked.top) in
        let inside = host_within f once x there locked.content content locked.stated p h held (label_is (editing_host f p) h hosted) in
        omega (arith, inside, ap (λ g. count_of g h) same, locked.apart)))

    open_free : (p : ℕ) → is_open u p ≡ true → (x : ℕ) → IsLocked x → count_of (tree_of s.trees x) p ≡ 0
    unfolding is_open is_inside is_made
    open_free p allowed x locked = elim (or_cases (is_inside u p) (is_made u p) allowed) [
      | inl inside ↦ elim (or_cases (is_label u.host p) (is_editable_for u p) inside) [
        | inl at ↦ (
            let same : h ≡ p = (let e : Some h ≡ Some p = sym host_way ∙ label_is u.host p at in cc) in
            subst (λ k. count_of (tree_of s.trees x) k ≡ 0) same locked.apart)
        | inr editable ↦ editable_free p editable x locked
      ]
      | inr own ↦ none_held x p (λ some. (let early = locked.early p some in omega (arith, early, start_way, leb-true u.start p own)))
    ]

    open_inner : (p : ℕ) → is_open u p ≡ true → p ≢ h → count_of (hollowed (tree_of s.trees 0) h) p ≡ 0
    open_inner p allowed off =
        let at : rim u ≡ h = ap (λ o. unwrap_or o u.next) host_way in
        let out = open_out u valid_way confined_way p allowed (λ e. off (e ∙ at)) in
        ap (λ g. count_of g p) (sym same_hollow) ∙ subst (λ k. count_of (hollowed (tree_of u.trees 0) k) p ≡ 0) at out

    pub open_near : (p : ℕ) → is_open u p ≡ true → Near p
    open_near p allowed = record { free = open_free p allowed; inner = open_inner p allowed }

    -- ---- what is near is inside, where it stands in the document

    near_below : (l : ℕ) → Near l → IsWithin u.trees 0 l → l ≢ h → IsWithin u.trees h l
    near_below l near inside off =
        let once : IsDistinct (tree_of u.trees 0) = λ m. omega (arith, valid_way.forest.distinct m, total-without (λ j _. cond (eqb j m) 1 0) u.trees 0) in
        omega (arith, inside, near.inner off, ap (λ g. count_of g l) same_hollow, hollowed_split (tree_of u.trees 0) h l once off, inside_part u.trees u.next valid_way.forest h l)

    -- a node below the host never held it
    not_above : (x : ℕ) → IsWithin u.trees h x → x ≢ h → count_of (tree_of s.trees x) h ≡ 0
    not_above x inside off = none_held x h (λ holds. (
        let f = s.trees in
        let is = b.valid in
        let once = is.forest.distinct in
        let left : count_of (hollowed (tree_of f 0) h) x ≡ 0 = ap (λ g. count_of g x) (sym same_hollow) ∙ below_left_out u.trees u.next valid_way.forest h x inside off in
        let x_inside = holder_inside f s.next x h is.forest holds b.inside in
        let document_once : IsDistinct (tree_of f 0) = λ m. omega (arith, once m, total-without (λ j _. cond (eqb j m) 1 0) f 0) in
        let below : IsWithin f h x = omega (arith, x_inside, left, hollowed_split (tree_of f 0) h x document_once off, inside_part f s.next is.forest h x) in
        let i = b.inside in
        let h_known : 0 < count_of f h = omega (arith, i, total-without (λ m _. cond (eqb m h) 1 0) f 0) in
        let up = within_parent f h once h_known x (λ e. off (sym e)) below in
        parent_apart f x up.0 once up.1 (within_trans f x h up.0 once holds up.2)))

    -- a node below the host that has a state is locked
    stated_locked : (x : ℕ) → IsWithin u.trees h x → x ≢ h → stated_value (editable_value u.trees x) ≡ true → IsLocked x
    stated_locked x inside off stated = elim (cases_lt x s.next) [
      | inr high ↦ absurd (true≢false (sym stated ∙ made_value x high))
      | inl low ↦ by_count (ap stated_value (sym (same_value x low)) ∙ stated) (none_or_some (count_of s.trees x))
    ]
      where
        by_count : stated_value (editable_value s.trees x) ≡ true → (count_of s.trees x ≡ 0) ⊎ (0 < count_of s.trees x) → IsLocked x
        by_count before (inl none) = absurd (
            let empty : stated_value (editable_value s.trees x) ≡ false = ap (λ (o : Option (Seen Content)). stated_value (option_map contenteditable (option_map (λ y. y.content) o))) (seek_absent None s.trees x none) in
            true≢false (sym before ∙ empty))
        by_count before (inr some) =
            let f = s.trees in
            let is = b.valid.forest in
            let t = tree_is f x (omega (arith, is.distinct x, some)) in
            let content = root_content f x t.0 t.1 is.distinct t.2 in
            record {
              content = t.0;
              kids = t.1;
              top = t.2;
              stated = sym (stated_is f x t.0 content) ∙ before;
              early = λ k here_k. is.below k (omega (arith, here_k, total-without (λ m _. cond (eqb m k) 1 0) f x));
              apart = not_above x inside off;
            }

    abbrev Free : ℕ → Type 0
    Free l = (x : ℕ) → IsLocked x → count_of (tree_of s.trees x) l ≡ 0

    stateless : (x : ℕ) → IsWithin u.trees h x → x ≢ h → Free x → stated_value (editable_value u.trees x) ≡ false
    stateless x inside off free = elim (cases_Bool (stated_value (editable_value u.trees x))) [
      | inr none ↦ none
      | inl stated ↦ absurd (
          let locked = stated_locked x inside off stated in
          omega (arith, locked_root x locked, free x locked))
    ]

    -- the parent of a node that no locked tree holds is in none
    parent_free : (x p : ℕ) → parent_of u.trees x ≡ Some p → Free x → Free p
    parent_free x p child free y locked = none_held y p (λ some. (
        let f = u.trees in
        let once = valid_way.forest.distinct in
        let same = same_locked y locked in
        let held : IsWithin f y p = subst (λ g. 0 < count_of g p) (sym same) some in
        let known : 0 < count_of f y = top_known f y p held in
        let below = within_child f y once known x p child held in
        omega (arith, below, ap (λ g. count_of g x) same, free y locked)))

    host_step : (x : ℕ) → ((p : ℕ) → parent_of u.trees x ≡ Some p → IsWithin u.trees h p → p ≢ h → Free p → editing_host u.trees p ≡ Some h) → IsWithin u.trees h x → x ≢ h → Free x → editing_host u.trees x ≡ Some h
    host_step x above inside off free =
        let f = u.trees in
        let once = valid_way.forest.distinct in
        let h_known = top_known f h x inside in
        let up = within_parent f h once h_known x (λ e. off (sym e)) inside in
        let offers : Offers f h up.0 = elim (eqb_tells up.0 h) [
          | inl (_, e) ↦ subst (λ k. Offers f h k) (sym e) (host_offers f h once h_known hosted_way)
          | inr (_, off_p) ↦ editable_offers f u.next h up.0 x valid_way.forest up.1 (above up.0 up.1 up.2 off_p (parent_free x up.0 up.1 free))
        ] in
        let c = content_at f once x (parent_count f x up.0 once up.1).0 in
        let none : (is_true_state c.0 || is_false_state c.0) ≡ false = sym (stated_is f x c.0 c.1) ∙ stateless x inside off free in
        editing_host-child f once x up.0 c.0 offers.content up.1 c.1 offers.content_is
        ∙ hosted_by (is_true_state c.0 || is_false_state c.0) (is_element c.0) (cond (is_true_state offers.content) (Some up.0) (editing_host f up.0)) h (is_element offers.content) none offers.element offers.offer

    host_at : (n x : ℕ) → depth_of u.trees x ≡ n → IsWithin u.trees h x → x ≢ h → Free x → editing_host u.trees x ≡ Some h
    host_at zero x deep inside off free = host_step x (λ p e _ _ _. absurd (let more = depth_of-parent u.trees x p valid_way.forest.distinct e in omega (arith, deep, more))) inside off free
    host_at (suc n) x deep inside off free = host_step x (λ p e i z k. host_at n p (let more = depth_of-parent u.trees x p valid_way.forest.distinct e in omega (arith, deep, more)) i z k) inside off free

    pub near_editable : (l : ℕ) → Near l → IsWithin u.trees 0 l → l ≢ h → is_editable_for u l ≡ true
    unfolding is_editable_for
    near_editable l near inside off =
        let e = host_at (depth_of u.trees l) l refl (near_below l near inside off) off near.free in
        rw (host_way, e) (eq-eqb h h refl)

    pub near_inside : (l : ℕ) → Near l → IsWithin u.trees 0 l → is_inside u l ≡ true
    unfolding is_inside
    near_inside l near inside = elim (eqb_tells l h) [
      | inl (_, e) ↦ rw host_way (let t : eqb h l ≡ true = eq-eqb h l (sym e) in rw t refl)
      | inr (_, off) ↦ either_true (is_label u.host l) (is_editable_for u l) (near_editable l near inside off)
    ]
