-- A list of nodes goes to the end of another node, each by a removal and an insertion: no edit is left out.
use Rattle.std.proofs.Common.{◌≡◌, ◌≢◌, ℕ, ◌<◌, ◌≤◌, Bool, true, false, eqb, List, [], ◌∷◌, Some, None, refl, sym, ap, subst, ◌∙◌, arith}
use Rattle.std.proofs.lemmas.Bool.{and_parts, eq-eqb, ne_eqb, lt-ltb, le-ltb}
use Rattle.edit_model.specs.DomModel.Editing.{editing_host}
use Rattle.edit_model.specs.DomModel.Forest.{times, count_of, tree_of, parent_of, content_of, link, unlink, CanPut, IsDistinct, IsWithin, depth_of}
use Rattle.edit_model.proofs.DomModel.Links.{parent_count, IsDistinct-link, IsDistinct-unlink}
use Rattle.edit_model.proofs.DomModel.Kept.{content_of-link, content_of-unlink}
use Rattle.edit_model.proofs.DomModel.Move.{parent_apart, tree_of-unlink}
use Rattle.edit_model.proofs.DomModel.Within.{within_step}
use Rattle.edit_model.specs.PointOrder.PointOrder.{is_within}
use Rattle.edit_model.specs.State.{State}
use Rattle.edit_model.specs.Confined.{is_editable_for, is_inside, is_made, is_open, may_insert}
use Rattle.edit_model.specs.Edit.{Edit, Insert, Remove, is_made_edit, trees_after, changed, with_change, edited}
use Rattle.edit_model.specs.Tail.{carried}
use Rattle.edit_model.specs.Action.{applied, stepped, stepped_all}
use Rattle.edit_model.specs.Possible.{freed, are_possible}
use Rattle.edit_model.specs.Valid.{IsValid}
use Rattle.edit_model.proofs.CommandParts.{SameCommand}
use Rattle.edit_model.proofs.Tests.{inserts}
use Rattle.edit_model.proofs.ValidParts.{valid_applied}
use Rattle.command_laws.proofs.Openness.{host_same}
use Rattle.caret_laws.specs.SingleEdits.{taken_out, brought, brought_all}
use Rattle.caret_laws.specs.TailRun.{Leave}
use Rattle.caret_laws.proofs.Trees.{parent-link_other, parent-unlink_other, made_open}

-- ---- one edit

-- an insertion that the trees allow is made where the parent is open
pub insert_made : (d n : ℕ) (u : State) → is_made_edit (Insert d None n) (freed u) ≡ true → is_open u d ≡ true → edited (Insert d None n) u ≡ applied (Insert d None n) u
unfolding edited is_made_edit may_insert applied
insert_made d n u possible allowed =
    let t = inserts (freed u) d None n possible in
    let f = u.trees in
    let there = lt-ltb 0 (count_of f n) t.can.node in
    let inner : eqb n 0 ≡ false = ne_eqb n 0 (λ e. (let i = t.can.inner in omega (arith, i, e))) in
    let apart : is_within f n d ≡ false = le-ltb 0 (count_of (tree_of f n) d) (omega (arith, t.can.apart)) in
    rw (there, inner, t.can.loose, t.parent, apart, allowed) refl

-- a removal is made where its test passes
taken_made : (test : State → ℕ → Bool) (n : ℕ) (u : State) → test u n ≡ true → taken_out test n u ≡ applied (Remove n) u
unfolding taken_out
taken_made test n u passes = rw passes refl

-- ---- a node that another one doesn't hold keeps its host where that one goes out or comes in

pub host_removed : (n o l : ℕ) (u : State) → IsValid u → parent_of u.trees n ≡ Some o → (IsWithin u.trees n l → ⊥) → editing_host (applied (Remove n) u).trees l ≡ editing_host u.trees l
unfolding applied with_change changed trees_after
host_removed n o l u is child apart =
    let f = u.trees in
    let once = is.forest.distinct in
    host_same f (unlink f n) once (IsDistinct-unlink f o n once child) n (parent_count f n o once child).0
    (λ k off. parent-unlink_other f o n k once child off) (λ k. content_of-unlink f o n k once child) (depth_of f l) l refl apart

pub host_inserted : (p n l : ℕ) (u : State) → IsValid u → CanPut u.trees p None n → (IsWithin u.trees n l → ⊥) → editing_host (applied (Insert p None n) u).trees l ≡ editing_host u.trees l
unfolding applied with_change changed trees_after
host_inserted p n l u is can apart =
    let f = u.trees in
    let once = is.forest.distinct in
    host_same f (link f p None n) once (IsDistinct-link f p None n once can) n can.node
    (λ k off. parent-link_other f p None n k once can off) (λ k. content_of-link f p None n k once can) (depth_of f l) l refl apart

content_removed : (n o l : ℕ) (u : State) → IsValid u → parent_of u.trees n ≡ Some o → content_of (applied (Remove n) u).trees l ≡ content_of u.trees l
unfolding applied with_change changed trees_after
content_removed n o l u is child = content_of-unlink u.trees o n l is.forest.distinct child

pub content_inserted : (p n l : ℕ) (u : State) → IsValid u → CanPut u.trees p None n → content_of (applied (Insert p None n) u).trees l ≡ content_of u.trees l
unfolding applied with_change changed trees_after
content_inserted p n l u is can = content_of-link u.trees p None n l is.forest.distinct can

-- so it stays open or closed

pub open_by : (u w : State) (l : ℕ) → w.host ≡ u.host → w.start ≡ u.start → editing_host w.trees l ≡ editing_host u.trees l → is_open w l ≡ is_open u l
unfolding is_open is_inside is_editable_for is_made
open_by u w l host start hosted = rw (host, start, hosted) refl

pub command_applied : (s u : State) (e : Edit) → SameCommand s u → SameCommand s (applied e u)
unfolding applied with_change changed
command_applied s u e h = record { start = h.start; cap = h.cap; host = h.host; keeping = h.keeping }

-- ---- a list of nodes that go

-- a test of a removal passes for the nodes of a kind, while they have the host and the content that they had at first
abbrev pub Passes : (s : State) (test : State → ℕ → Bool) (A : ℕ → Type 0) → Type 0
Passes s test A =
    (u : State) (x c : ℕ) → SameCommand s u → u.keeping ≡ false → parent_of u.trees x ≡ Some c → is_open u c ≡ true
    → editing_host u.trees x ≡ editing_host s.trees x → content_of u.trees x ≡ content_of s.trees x → A x → test u x ≡ true

module _ (s : State) (test : State → ℕ → Bool) (A : ℕ → Type 0) (passes : Passes s test A) (c d : ℕ) where
  -- children of c, which is open, can go to the end of d, which the command made
  pub record Carries (xs : List ℕ) (u : State) : Type 0 where
    pub valid : IsValid u
    pub command : SameCommand s u
    pub keeping : u.keeping ≡ false
    pub allowed : is_open u c ≡ true
    pub own : is_made u d ≡ true
    pub child : (x : ℕ) → 0 < times xs x → parent_of u.trees x ≡ Some c
    pub hosted : (x : ℕ) → 0 < times xs x → editing_host u.trees x ≡ editing_host s.trees x
    pub content : (x : ℕ) → 0 < times xs x → content_of u.trees x ≡ content_of s.trees x
    pub few : (x : ℕ) → times xs x ≤ 1

  module _ (x : ℕ) (xs : List ℕ) (u : State) (h : Carries (x ∷ xs) u) (alone : A x) (first : is_made_edit (Remove x) (freed u) ≡ true) (second : is_made_edit (Insert d None x) (freed (applied (Remove x) u)) ≡ true) where
    own_x : eqb x x ≡ true
    own_x = eq-eqb x x refl

    listed : 0 < times (x ∷ xs) x
    listed = rw own_x (omega arith)

    child_x : parent_of u.trees x ≡ Some c
    child_x = h.child x listed

    -- nothing of the running command changes
    own_taken : is_made (applied (Remove x) u) d ≡ true
    unfolding applied with_change changed is_made
    own_taken = h.own

    own_after : is_made (applied (Insert d None x) (applied (Remove x) u)) d ≡ true
    unfolding applied with_change changed is_made
    own_after = h.own

    keeping_after : (applied (Insert d None x) (applied (Remove x) u)).keeping ≡ false
    unfolding applied with_change changed
    keeping_after = h.keeping

    host_after : (applied (Insert d None x) (applied (Remove x) u)).host ≡ u.host
    unfolding applied with_change changed
    host_after = refl

    start_after : (applied (Insert d None x) (applied (Remove x) u)).start ≡ u.start
    unfolding applied with_change changed
    start_after = refl

    carried_made : brought test d x u ≡ applied (Insert d None x) (applied (Remove x) u)
    unfolding brought
    carried_made =
        ap (λ w. edited (Insert d None x) w) (taken_made test x u (passes u x c h.command h.keeping child_x h.allowed (h.hosted x listed) (h.content x listed) alone))
        ∙ insert_made d x (applied (Remove x) u) second (made_open (applied (Remove x) u) d own_taken)

    once : IsDistinct u.trees
    once = h.valid.forest.distinct

    is_v : IsValid (applied (Remove x) u)
    is_v = valid_applied (Remove x) u h.valid first

    -- a node that x doesn't hold isn't held when x is out
    out_taken : (l : ℕ) → (IsWithin u.trees x l → ⊥) → IsWithin (applied (Remove x) u).trees x l → ⊥
    unfolding applied with_change changed trees_after
    out_taken l apart q = apart (subst (λ g. 0 < count_of g l) (tree_of-unlink u.trees c x once child_x) q)

    other : (y : ℕ) → 0 < times xs y → x ≢ y
    other y some e =
        let most = h.few x in
        let most' = rw own_x at most in
        let some' : 0 < times xs x = subst (λ j. 0 < times xs j) (sym e) some in
        omega (arith, most', some')

    -- neither the parent nor another child is within it
    out : IsWithin u.trees x c → ⊥
    out = parent_apart u.trees x c once child_x

    later_child : (y : ℕ) → 0 < times xs y → parent_of u.trees y ≡ Some c
    later_child y some = h.child y (omega (arith, some))

    out_child : (y : ℕ) → 0 < times xs y → IsWithin u.trees x y → ⊥
    out_child y some held = out (within_step u.trees x once (parent_count u.trees x c once child_x).0 y c (other y some) (later_child y some) held)

    can : CanPut (applied (Remove x) u).trees d None x
    unfolding is_made_edit
    can = (inserts (freed (applied (Remove x) u)) d None x second).can

    child_after : (y : ℕ) → 0 < times xs y → parent_of (applied (Insert d None x) (applied (Remove x) u)).trees y ≡ Some c
    unfolding applied with_change changed trees_after
    child_after y some =
        let f = u.trees in
        let off = other y some in
        parent-link_other (unlink f x) d None x y (IsDistinct-unlink f c x once child_x) can off
        ∙ (parent-unlink_other f c x y once child_x off ∙ later_child y some)

    -- the host of a node that isn't within x
    hosted_after : (l : ℕ) → (IsWithin u.trees x l → ⊥) → editing_host (applied (Insert d None x) (applied (Remove x) u)).trees l ≡ editing_host u.trees l
    hosted_after l apart = host_inserted d x l (applied (Remove x) u) is_v can (out_taken l apart) ∙ host_removed x c l u h.valid child_x apart

    after : Carries xs (applied (Insert d None x) (applied (Remove x) u))
    after =
        let v = applied (Remove x) u in
        record {
          valid = valid_applied (Insert d None x) v is_v second;
          command = command_applied s v (Insert d None x) (command_applied s u (Remove x) h.command);
          keeping = keeping_after;
          allowed = open_by u (applied (Insert d None x) v) c host_after start_after (hosted_after c out) ∙ h.allowed;
          own = own_after;
          child = child_after;
          hosted = λ y some. hosted_after y (out_child y some) ∙ h.hosted y (omega (arith, some));
          content = λ y some. content_inserted d x y v is_v can ∙ (content_removed x c y u h.valid child_x ∙ h.content y (omega (arith, some)));
          few = λ y. (let most = h.few y in omega (arith, most));
        }

  pub carried_singly : (xs : List ℕ) (u : State) → Carries xs u → Leave A (carried d xs) → are_possible (carried d xs) u ≡ true → brought_all test d xs u ≡ stepped_all (carried d xs) u
  unfolding brought_all carried stepped_all stepped are_possible
  carried_singly [] u h alone may = refl
  carried_singly (x ∷ xs) u h alone may =
      let p1 = and_parts (is_made_edit (Remove x) (freed u)) _ may in
      let p2 = and_parts (is_made_edit (Insert d None x) (freed (applied (Remove x) u))) _ p1.1 in
      ap (λ w. brought_all test d xs w) (carried_made x xs u h alone.0 p1.0 p2.0)
      ∙ carried_singly xs (applied (Insert d None x) (applied (Remove x) u)) (after x xs u h alone.0 p1.0 p2.0) alone.1 p2.1
