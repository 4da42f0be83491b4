-- What an action does to the points at and below the affected host: they stay there.
use Rattle.std.proofs.Common.{◌≡◌, ◌≢◌, ℕ, ◌+◌, ◌<◌, ◌≤◌, Bool, true, false, ◌&&◌, ◌||◌, cond, eqb, List, length, Option, Some, None, IfSome, refl, sym, ap, subst, ◌∙◌, inl, inr, arith, true≢false}
use Rattle.std.specs.Prelude.{nat_lt, unwrap_or, if◌then◌else◌}
use Rattle.std.specs.Option.{option_map, option_map_or}
use Rattle.std.proofs.lemmas.Bool.{and_parts, leb-true, or_cases}
use Rattle.std.proofs.lemmas.Bool.Decides.{eqb_tells}
use Rattle.edit_model.specs.DomModel.declared.Content.{Content}
use Rattle.edit_model.specs.DomModel.Forest.{Forest, is_label, count_of, tree_of, preorder, parent_of, IsDistinct, IsWithin}
use Rattle.edit_model.specs.DomModel.Places.{index_of}
use Rattle.edit_model.proofs.DomModel.Totals.{total-without}
use Rattle.edit_model.proofs.DomModel.Within.{within_self, within_step}
use Rattle.edit_model.specs.LiveRange.declared.places.Point.{Point}
use Rattle.edit_model.specs.LiveRange.declared.places.Pair.{Pair}
use Rattle.edit_model.specs.LiveRange.LivePoints.{LivePoints, mapped}
use Rattle.edit_model.specs.LiveRange.PointsEdit as range
use Rattle.edit_model.specs.LiveRange.PointsEdit.{adjusted, adjusted_pair, has_label}
use Rattle.edit_model.specs.State.{State}
use Rattle.edit_model.specs.Confined.{is_editable_for, is_inside, is_made, is_open, is_own, may_select, may_grow, may_send}
use Rattle.edit_model.specs.Edit.{Edit, Insert, Remove, Move, Replace, Set, Unset, index_before, is_made_edit, points_after, changed, with_change, edited}
use Rattle.edit_model.specs.Action as action
use Rattle.edit_model.specs.Action.{Action, made, applied, tail_of, extracted, with_selection, selected, extended_from, extended, grown, sent, scratched, acted}
use Rattle.edit_model.specs.Outside.{hollowed, outside_by, outside, IsConfined}
use Rattle.edit_model.specs.Run.{here, onward}
use Rattle.edit_model.specs.Valid.{IsForest, IsValid}
use Rattle.edit_model.proofs.CommandParts.{command_acted}
use Rattle.edit_model.proofs.Documents.{within_below}
use Rattle.edit_model.proofs.Hollow.{hollowed_le, hollowed_split, below_left_out, child_left_out, inside_part}
use Rattle.edit_model.proofs.Made.{removed_event, moved_event, parent_is}
use Rattle.edit_model.proofs.OutsideRuns.{rim, rest_of, outside_is, open_out, own_out, keeps_outside}
use Rattle.edit_model.proofs.Steps.{either_way}
use Rattle.edit_model.proofs.TailOutside.{Base, Moves, Takes, base_made, base_removed, base_inserted, tail_host, tail_out, root_there}
use Rattle.edit_model.proofs.TailPlan.{IsCopy}
use Rattle.edit_model.proofs.TailPossible.{tail_possible}
use Rattle.edit_model.proofs.TailRuns.{fit_steps}
use Rattle.edit_model.proofs.TailSteps.{either_extracted}
use Rattle.edit_model.proofs.Tests.{inserts, removes, goes, label_is}
use Rattle.edit_model.proofs.Trees.{none_or_some}
use Rattle.edit_model.proofs.ValidRuns.{chosen, valid_acted}
use Rattle.edit_laws.specs.InHost.{IsNear, IsNearPair, IsInHost}
use Rattle.edit_laws.specs.Kinds.{Element, kind_of}
use Rattle.edit_laws.proofs.StayingKinds.{kind_there, kind_along}

-- ---- the labels of a forest

module _ (f : Forest Content) (next : ℕ) (is : IsForest f next) (h : ℕ) where
  -- a node below the host is near
  pub near_within : (l : ℕ) → IsWithin f h l → IsNear (hollowed (tree_of f 0) h) h l
  near_within l inside some = elim (eqb_tells l h) [
    | inl (_, e) ↦ e
    | inr (_, off) ↦ absurd (let none = below_left_out f next is h l inside off in omega (arith, none, some))
  ]

  -- what is near, in the document, stands at or below the host
  pub within_near : (l : ℕ) → IsWithin f 0 h → IsNear (hollowed (tree_of f 0) h) h l → IsWithin f 0 l → IsWithin (tree_of f 0) h l
  within_near l h_inside near inside = elim (eqb_tells l h) [
    | inl (_, e) ↦ subst (λ k. IsWithin (tree_of f 0) h k) (sym e) (own h_inside)
    | inr (_, off) ↦ elim (none_or_some (count_of (hollowed (tree_of f 0) h) l)) [
      | inr some ↦ absurd (off (near some))
      | inl none ↦ (let parts = hollowed_split (tree_of f 0) h l once off in omega (arith, parts, none, inside))
    ]
  ]
    where
      once : IsDistinct (tree_of f 0)
      once m = omega (arith, is.distinct m, total-without (λ j _. cond (eqb j m) 1 0) f 0)

      own : IsWithin f 0 h → IsWithin (tree_of f 0) h h
      own there = within_self (tree_of f 0) h once there

  pub holds_near : (l : ℕ) → 0 < count_of f h → IsNear (hollowed (tree_of f 0) h) h l → IsWithin f 0 l → IsWithin f h l
  holds_near l there near inside = elim (eqb_tells l h) [
    | inl (_, e) ↦ subst (λ k. IsWithin f h k) (sym e) (within_self f h is.distinct there)
    | inr (_, off) ↦ elim (none_or_some (count_of (hollowed (tree_of f 0) h) l)) [
      | inr some ↦ absurd (off (near some))
      | inl none ↦ (
          let once : IsDistinct (tree_of f 0) = λ m. omega (arith, is.distinct m, total-without (λ j _. cond (eqb j m) 1 0) f 0) in
          omega (arith, hollowed_split (tree_of f 0) h l once off, none, inside, inside_part f next is h l))
    ]
  ]

  -- a child of a node that is near is near
  pub near_child : (o n : ℕ) → parent_of f n ≡ Some o → IsNear (hollowed (tree_of f 0) h) h o → IsNear (hollowed (tree_of f 0) h) h n
  near_child o n child near some = absurd (
      let none = child_left_out f next is h o n child (λ off. left_out off) in
      omega (arith, none, some))
    where
      left_out : o ≢ h → count_of (hollowed (tree_of f 0) h) o ≡ 0
      left_out off = elim (none_or_some (count_of (hollowed (tree_of f 0) h) o)) [ inl none ↦ none | inr some ↦ absurd (off (near some)) ]

  -- and so is the parent of a node other than the host
  pub near_parent : (o n : ℕ) → parent_of f n ≡ Some o → n ≢ h → IsNear (hollowed (tree_of f 0) h) h n → IsNear (hollowed (tree_of f 0) h) h o
  near_parent o n child off near some = elim (eqb_tells o h) [
    | inl (_, e) ↦ e
    | inr (_, other) ↦ absurd (
        let once : IsDistinct (tree_of f 0) = λ m. omega (arith, is.distinct m, total-without (λ j _. cond (eqb j m) 1 0) f 0) in
        let o_inside : IsWithin f 0 o = omega (arith, some, hollowed_le (tree_of f 0) h o) in
        let n_inside : IsWithin f 0 n = within_below f next is o n child o_inside in
        let below : IsWithin f h n = omega (arith, n_inside, left_out, hollowed_split (tree_of f 0) h n once off, inside_part f next is h n) in
        let up = within_step f h is.distinct (root_there f h n below) n o (λ q. off (sym q)) child below in
        let none = below_left_out f next is h o up other in
        omega (arith, none, some))
  ]
    where
      left_out : count_of (hollowed (tree_of f 0) h) n ≡ 0
      left_out = elim (none_or_some (count_of (hollowed (tree_of f 0) h) n)) [ inl none ↦ none | inr out ↦ absurd (off (near out)) ]

-- ---- the labels of a state

module _ (outer : Forest Content) (h : ℕ) (kept : Bool) where
  abbrev Near : ℕ → Type 0
  Near l = IsNear outer h l

  abbrev NearPair : Pair → Type 0
  NearPair p = IsNearPair outer h p

  abbrev Stands : State → Type 0
  Stands s = IsInHost outer h kept s

  pub hollow_is : (s : State) → Stands s → hollowed (tree_of s.trees 0) h ≡ outer
  unfolding outside
  hollow_is s is = ap (λ o. outside_by o s.trees) (sym is.host) ∙ is.outer_is

  rim_is : (s : State) → Stands s → rim s ≡ h
  rim_is s is = ap (λ o. unwrap_or o s.next) is.host

  rest_is : (s : State) → Stands s → rest_of s s.trees ≡ outer
  rest_is s is = ap (λ k. hollowed (tree_of s.trees 0) k) (rim_is s is) ∙ hollow_is s is

  pub near_child_of : (s : State) → Stands s → (o n : ℕ) → parent_of s.trees n ≡ Some o → Near o → Near n
  near_child_of s is o n child near =
      subst (λ g. IsNear g h n) (hollow_is s is)
      (near_child s.trees s.next is.valid.forest h o n child (subst (λ g. IsNear g h o) (sym (hollow_is s is)) near))

  pub near_parent_of : (s : State) → Stands s → (o n : ℕ) → parent_of s.trees n ≡ Some o → n ≢ h → Near n → Near o
  near_parent_of s is o n child off near =
      subst (λ g. IsNear g h o) (hollow_is s is)
      (near_parent s.trees s.next is.valid.forest h o n child off (subst (λ g. IsNear g h n) (sym (hollow_is s is)) near))

  -- what is near and in the document stands at or below the host
  pub within_host : (s : State) → Stands s → (l : ℕ) → IsNear outer h l → IsWithin s.trees 0 l → IsWithin s.trees h l
  within_host s is l near inside =
      holds_near s.trees s.next is.valid.forest h l (kind_there s.trees h (Element is.name) is.element) (subst (λ g. IsNear g h l) (sym (hollow_is s is)) near) inside

  -- a label that the command drew
  pub near_drawn : (s : State) → Stands s → (l : ℕ) → s.start ≤ l → Near l
  near_drawn s is l late some = absurd (
      let some' : 0 < count_of (outside s) l = subst (λ g. 0 < count_of g l) (sym is.outer_is) some in
      let low = is.confined.before l some' in
      omega (arith, low, late))

  pub drawn_other : (s : State) → Stands s → (l : ℕ) → s.start ≤ l → l ≢ h
  drawn_other s is l late e = let low = is.early in omega (arith, low, late, e)

  pub near_open : (s : State) → Stands s → (l : ℕ) → is_open s l ≡ true → Near l
  near_open s is l allowed some = elim (eqb_tells l h) [
    | inl (_, e) ↦ e
    | inr (_, off) ↦ absurd (
        let none = open_out s is.valid is.confined l allowed (λ e. off (e ∙ rim_is s is)) in
        let same = ap (λ g. count_of g l) (rest_is s is) in
        omega (arith, none, some, same))
  ]

  pub near_inside : (s : State) → Stands s → (l : ℕ) → is_inside s l ≡ true → Near l
  unfolding is_open
  near_inside s is l inside = near_open s is l (rw inside refl)

  pub near_editable : (s : State) → Stands s → (l : ℕ) → is_editable_for s l ≡ true → Near l
  unfolding is_inside
  near_editable s is l editable = near_inside s is l (either_true (is_label s.host l) (is_editable_for s l) editable)
    where
      either_true : (a b : Bool) → b ≡ true → (a || b) ≡ true
      either_true true b e = refl
      either_true false b e = e

  -- ---- what an edit makes of points

  either_label : (b : Bool) (x y : Point) → Near x.label → Near y.label → Near (if b then x else y).label
  either_label true x y p q = p
  either_label false x y p q = q

  abbrev Nears : range.PointsEdit → Type 0
  Nears e = (x : Point) → Near x.label → Near (adjusted e x).label

  nears_inserted : (p i : ℕ) → Nears (range.Insert p i)
  nears_inserted p i x near = either_label (eqb x.label p) _ _ near near

  nears_removed : (tree : List ℕ) (o i : ℕ) → Near o → Nears (range.Remove tree o i)
  nears_removed tree o i up x near = either_label (has_label tree x.label) _ _ up (either_label (eqb x.label o) _ _ near near)

  nears_moved : (from to : Point) → Near to.label → Nears (range.Move from to)
  nears_moved from to near_to x near =
      either_label (eqb from.label to.label) _ _
      (either_label (eqb x.label from.label) _ _ near near)
      (either_label (eqb x.label from.label) _ _
      (either_label (eqb x.offset from.offset) _ _ near_to (either_label (eqb x.offset (from.offset + 1)) _ _ near_to near))
      (either_label (eqb x.label to.label) _ _ near near))

  nears_replaced : (n at taken put : ℕ) → Nears (range.Replace n at taken put)
  nears_replaced n at taken put x near = either_label (eqb x.label n) _ _ near near

  nears_grown : (at : Point) → Nears (range.Grown at)
  nears_grown at x near = either_label (eqb x.label at.label && eqb x.offset at.offset) _ _ near near

  nears_split : (n at tail p i : ℕ) → Near tail → Nears (range.Split n at tail p i)
  nears_split n at tail p i near_tail x near =
      either_label (eqb x.label n) _ _ (either_label (nat_lt at x.offset) _ _ near_tail near) (either_label (eqb x.label p) _ _ near near)

  -- ---- the points of a state

  pub record NearPoints (points : LivePoints) : Type 0 where
    pub selection : IfSome points.selection (IsNearPair outer h)
    pub scratch : kept ≡ true → IfSome points.scratch (IsNearPair outer h)

  near_pair : (e : range.PointsEdit) → Nears e → (o : Option Pair) → IfSome o (IsNearPair outer h) → IfSome (option_map (adjusted_pair e) o) (IsNearPair outer h)
  near_pair e nears None near = tt
  near_pair e nears (Some p) near = (nears p.anchor near.0, nears p.focus near.1)

  near_mapped : (e : range.PointsEdit) → Nears e → (points : LivePoints) → NearPoints points → NearPoints (mapped e points)
  near_mapped e nears points near = record {
    selection = near_pair e nears points.selection near.selection;
    scratch = λ on. near_pair e nears points.scratch (near.scratch on);
  }

  -- the points that the four actions name which place points
  abbrev pub IsNearing : Action → Type 0
  IsNearing (action.Select anchor focus) = Near anchor.label × Near focus.label
  IsNearing (action.Extend focus) = Near focus.label
  IsNearing (action.Send node at tail) = Near tail
  IsNearing (action.Scratch pair) = kept ≡ true → NearPair pair
  IsNearing _ = Unit {0}

  module _ (s : State) (is : Stands s) where
    own_points : NearPoints s.points
    own_points = record { selection = is.selection; scratch = is.scratch }

    near_after : (e : Edit) → is_made_edit e s ≡ true → NearPoints (points_after e s.trees s.points)
    unfolding is_made_edit points_after
    near_after (Insert p b n) may = near_mapped (range.Insert p (index_before s.trees p b)) (nears_inserted p (index_before s.trees p b)) s.points own_points
    near_after (Remove n) may =
        let t = removes s n may in
        subst (λ o. NearPoints (mapped (removed_event s.trees o n) s.points)) (sym (parent_is s.trees t.from n t.child))
        (near_mapped (removed_event s.trees t.from n) (nears_removed (preorder (tree_of s.trees n)) t.from (index_of s.trees n) (near_open s is t.from t.allowed)) s.points own_points)
    near_after (Move n p b) may =
        let t = goes s n p b may in
        subst (λ o. NearPoints (mapped (moved_event s.trees o n p b) s.points)) (sym (parent_is s.trees t.from n t.child))
        (near_mapped (moved_event s.trees t.from n p b) (nears_moved _ _ (near_open s is p t.allowed_to)) s.points own_points)
    near_after (Replace n at count put) may = near_mapped (range.Replace n at count (length put)) (nears_replaced n at count (length put)) s.points own_points
    near_after (Set n name value) may = own_points
    near_after (Unset n name) may = own_points

    abbrev Keeps : State → Type 0
    Keeps t = NearPoints t.points

    near_edited : (e : Edit) → Keeps (edited e s)
    unfolding edited changed with_change
    near_edited e = chosen Keeps (is_made_edit e s) (λ may. near_after e may) own_points

    near_extended : (o : Option Pair) (at : Point) → s.points.selection ≡ o → Near at.label → Keeps (extended_from o at s)
    unfolding changed
    near_extended None at e near = own_points
    near_extended (Some pair) at e near =
        let now : IfSome (Some pair) (IsNearPair outer h) = subst (λ (o : Option Pair). IfSome o (IsNearPair outer h)) e is.selection in
        either_way Keeps (may_select s at) (record { selection = (now.0, near); scratch = is.scratch }) own_points

    -- the steps of a tail
    near_extracted : (from : Point) (end target : ℕ) → Keeps (extracted from end target s)
    unfolding made applied with_change changed points_after
    near_extracted from end target =
        either_extracted Keeps from end target s
        (λ may. (
        let k = tail_host s is.valid is.confined from end target may in
        let base = hollowed (tree_of s.trees 0) k.0 in
        let at : k.0 ≡ h = (let e : Some k.0 ≡ Some h = sym k.1 ∙ is.host in cc) in
        let same : base ≡ outer = ap (λ j. hollowed (tree_of s.trees 0) j) at ∙ hollow_is s is in
        (fit_steps IsCopy (Moves k.0 base) (Takes k.0 base) (λ c q. q) (λ u. Keeps u × Base k.0 base u)
        (λ c u is' _ q. (q.0, base_made k.0 base c u is' q.1))
        (λ n o u is' moves child q. (
          subst (λ p. NearPoints (mapped (removed_event u.trees p n) u.points)) (sym (parent_is u.trees o n child))
              (near_mapped (removed_event u.trees o n)
              (nears_removed (preorder (tree_of u.trees n)) o (index_of u.trees n)
              (subst (λ g. IsNear g h o) (q.1 ∙ same) (subst (λ j. IsNear (hollowed (tree_of u.trees 0) k.0) j o) at
              (near_parent u.trees u.next is'.forest k.0 o n child moves.1 (λ some. absurd (
              let none = moves.0 in
              let now = ap (λ g. count_of g n) q.1 in
              omega (arith, some, none, now)))))))
              u.points q.0),
          base_removed k.0 base n o u is' moves child q.1,
        ))
        (λ p before n u is' takes _ can q. (
          near_mapped (range.Insert p (index_before u.trees p before)) (nears_inserted p (index_before u.trees p before)) u.points q.0,
          base_inserted k.0 base p before n u is' takes can q.1,
        ))
        (tail_of s from end target) s (tail_out s is.valid is.confined from end target may k.0 k.1 k.2) (tail_possible s is.valid from end target may) is.valid (own_points, refl)).0))
        own_points

    near_acted : (a : Action) → IsNearing a → Keeps (acted a s)
    unfolding acted made selected extended grown sent scratched changed
    near_acted (action.Change e) near = near_edited e
    near_acted (action.MakeElement name attributes) near = own_points
    near_acted (action.MakeWords chars) near = own_points
    near_acted (action.Select anchor focus) near = either_way Keeps (may_select s anchor && may_select s focus) (record { selection = near; scratch = is.scratch }) own_points
    near_acted (action.Extend focus) near = near_extended s.points.selection focus refl near
    near_acted action.Unselect near = record { selection = tt; scratch = is.scratch }
    near_acted (action.Grow at) near = either_way Keeps (may_grow s at) (near_mapped (range.Grown at) (nears_grown at) s.points own_points) own_points
    near_acted (action.Send node at tail) near = either_way Keeps (may_send s node at tail) (near_mapped (range.Split node at tail node 0) (nears_split node at tail node 0 near) s.points own_points) own_points
    near_acted (action.Scratch pair) near =
        either_way Keeps (may_select s pair.anchor && may_select s pair.focus) (record { selection = is.selection; scratch = near }) own_points
    near_acted (action.Override command setting) near = own_points
    near_acted (action.Flag flags) near = own_points
    near_acted (action.Extract from end target) near = near_extracted from end target

    pub stands_acted : (a : Action) → IsNearing a → Stands (acted a s)
    stands_acted a near =
        let k = keeps_outside s a s (record { valid = is.valid; confined = is.confined; same = refl }) in
        let c = command_acted a s in
        let started = is.valid.started in
        let low : h < s.start = is.early in
        let points = near_acted a near in
        record {
          valid = k.valid;
          confined = k.confined;
          host = c.host ∙ is.host;
          outer_is = k.same ∙ is.outer_is;
          early = subst (λ n. h < n) (sym c.start) low;
          name = is.name;
          element = kind_along h (onward here a) is.valid (omega (arith, low, started)) ∙ is.element;
          selection = points.selection;
          scratch = points.scratch;
        }
