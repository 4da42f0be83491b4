-- Points that are near: the ends of the selection, points beside nodes that are near and in them, and those that walks lead to.
use Rattle.std.proofs.Common.{◌≡◌, ◌≢◌, ℕ, zero, suc, Bool, true, false, not, if◌then◌else◌, Option, Some, None, IfSome, refl, sym, ap, ◌∙◌, true≢false}
use Rattle.std.specs.Prelude.{slice_get, unwrap_or}
use Rattle.std.specs.Option.{option_map, option_map_or}
use Rattle.std.proofs.lemmas.Bool.{eq-eqb}
use Rattle.edit_model.specs.DomModel.declared.Content.{Content}
use Rattle.edit_model.specs.DomModel.declared.Content.TheVariants.{Document, Element, Words, Remark}
use Rattle.edit_model.specs.DomModel.Contents.{has_chars, has_chars_at}
use Rattle.edit_model.specs.DomModel.Forest.{Forest, either, is_label, parent_of, children_of, last_of, content_of}
use Rattle.edit_model.proofs.DomModel.Neighbours.{parent_of-last}
use Rattle.edit_model.specs.LiveRange.declared.places.Point.{Point}
use Rattle.edit_model.specs.LiveRange.declared.places.Pair.{Pair}
use Rattle.inline_value.specs.NodeTests.BlockPoints.{child_before, child_at}
use Rattle.inline_value.specs.NodeTests.CollapsedWhitespace.{is_words_content, is_words}
use Rattle.edit_model.specs.State.{State}
use Rattle.edit_model.specs.Confined.{is_inside}
use Rattle.edit_laws.specs.InHost.{IsNear, IsNearPair, IsInHost}
use Rattle.edit_laws.specs.Kinds as kinds
use Rattle.edit_laws.specs.Kinds.{Kind, kind_in}
use Rattle.edit_laws.proofs.Nearness.{near_child_of, near_parent_of}
use Rattle.inline_value.specs.EditActions.ActiveRange.{start_of, end_of}
use Rattle.inline_value.specs.WrapSplit.Walks.{walk, followed}
use Rattle.delete_core.specs.Places.{at, before_node, after_node, led_on, walk_points}
use Rattle.text_insertion.specs.Start.{active_start, if_point_inside, start_inside}
use Rattle.selection_laws.proofs.Kids.{parent_at}

-- ---- walks keep what each step keeps

led_keeps : (P : Point → Type 0) (o : Option Point) (p : Point) (on : Point → Point) → P p → ((q : Point) → P q → P (on q)) → IfSome o P → P (led_on o p on)
led_keeps P None p on holds more next = holds
led_keeps P (Some q) p on holds more next = more q next

pub walk_keeps : (P : Point → Type 0) (step : Point → Option Point) (n : ℕ) (p : Point) → ((q : Point) → P q → IfSome (step q) P) → P p → P (walk_points step n p)
unfolding walk_points
walk_keeps P step zero p keeps holds = holds
walk_keeps P step (suc n) p keeps holds = led_keeps P (step p) p (walk_points step n) holds (λ q next. walk_keeps P step n q keeps next) (keeps p holds)

followed_keeps : (P : ℕ → Type 0) (o : Option ℕ) (l : ℕ) (on : ℕ → ℕ) → P l → ((k : ℕ) → P k → P (on k)) → IfSome o P → P (followed o l on)
followed_keeps P None l on holds more next = holds
followed_keeps P (Some k) l on holds more next = more k next

pub node_walk_keeps : (P : ℕ → Type 0) (step : ℕ → Option ℕ) (n l : ℕ) → ((k : ℕ) → P k → IfSome (step k) P) → P l → P (walk step n l)
unfolding walk
node_walk_keeps P step zero l keeps holds = holds
node_walk_keeps P step (suc n) l keeps holds = followed_keeps P (step l) l (walk step n) holds (λ k next. node_walk_keeps P step n k keeps next) (keeps l holds)

-- ---- what holds of a choice of options

module _ {A : Type 0} (P : A → Type 0) where
  pub some_if : (b : Bool) (o n : Option A) → (b ≡ true → IfSome o P) → (b ≡ false → IfSome n P) → IfSome (if b then o else n) P
  some_if true o n on off = on refl
  some_if false o n on off = off refl

  pub some_either : (o n : Option A) → IfSome o P → IfSome n P → IfSome (either o n) P
  some_either None n first last = last
  some_either (Some a) n first last = first

  pub some_or : (o : Option A) (a : A) → IfSome o P → P a → P (unwrap_or o a)
  some_or None a known own = own
  some_or (Some b) a known own = known

pub some_mapped : {A B : Type 0} (P : B → Type 0) (f : A → B) (o : Option A) → IfSome o (λ a. P (f a)) → IfSome (option_map f o) P
some_mapped P f None known = tt
some_mapped P f (Some a) known = known

-- ---- labels

module _ (outer : Forest Content) (h : ℕ) (kept : Bool) where
  abbrev pub NearAt : Point → Type 0
  NearAt p = IsNear outer h p.label

  pub either_point : (b : Bool) (p q : Point) → NearAt p → NearAt q → NearAt (if b then p else q)
  either_point true p q on off = on
  either_point false p q on off = off

  pub near_start : (f : Forest Content) (pair : Pair) → IsNearPair outer h pair → NearAt (start_of f pair)
  near_start f pair near = either_point _ pair.focus pair.anchor near.1 near.0

  pub near_end : (f : Forest Content) (pair : Pair) → IsNearPair outer h pair → NearAt (end_of f pair)
  near_end f pair near = either_point _ pair.anchor pair.focus near.0 near.1

  module _ (s : State) (is : IsInHost outer h kept s) where
    pub known_start : IfSome (active_start s) NearAt
    unfolding active_start
    known_start = by_selection s.points.selection is.selection
      where
        by_selection : (o : Option Pair) → IfSome o (IsNearPair outer h) → IfSome (option_map (start_of s.trees) o) NearAt
        by_selection None near = tt
        by_selection (Some pair) near = near_start s.trees pair near

    pub known_inside : IfSome (start_inside s) NearAt
    unfolding start_inside
    known_inside = by_start (active_start s) known_start
      where
        by_start : (o : Option Point) → IfSome o NearAt → IfSome (if_point_inside s o) NearAt
        by_start None near = tt
        by_start (Some p) near = some_if NearAt (is_inside s p.label) (Some p) None (λ _. near) (λ _. tt)

    -- ---- children

    get_near : (l i : ℕ) → IsNear outer h l → (o : Option ℕ) → slice_get (children_of s.trees l) i ≡ o → IfSome o (IsNear outer h)
    get_near l i near None e = tt
    get_near l i near (Some k) e =
        near_child_of outer h kept s is l k (parent_at s.trees is.valid.forest.distinct l i k e) near

    pub near_child_at : (l o : ℕ) → IsNear outer h l → IfSome (child_at s.trees l o) (IsNear outer h)
    near_child_at l o near = get_near l o near (child_at s.trees l o) refl

    pub near_child_before : (l o : ℕ) → IsNear outer h l → IfSome (child_before s.trees l o) (IsNear outer h)
    near_child_before l zero near = tt
    near_child_before l (suc o) near = get_near l o near (slice_get (children_of s.trees l) o) refl

    pub near_last : (l : ℕ) → IsNear outer h l → IfSome (last_of s.trees l) (IsNear outer h)
    near_last l near = by_last (last_of s.trees l) refl
      where
        by_last : (o : Option ℕ) → last_of s.trees l ≡ o → IfSome o (IsNear outer h)
        by_last None e = tt
        by_last (Some k) e = near_child_of outer h kept s is l k (parent_of-last s.trees is.valid.forest.distinct l k e) near

    -- ---- the places beside a node other than the host

    parent_near : (l : ℕ) → IsNear outer h l → l ≢ h → (i : ℕ) → IfSome (option_map (λ p. at p i) (parent_of s.trees l)) NearAt
    parent_near l near off i = by_parent (parent_of s.trees l) refl
      where
        by_parent : (o : Option ℕ) → parent_of s.trees l ≡ o → IfSome (option_map (λ p. at p i) o) NearAt
        by_parent None e = tt
        by_parent (Some p) e = near_parent_of outer h kept s is p l e off near

    pub near_before : (l : ℕ) → IsNear outer h l → l ≢ h → IfSome (before_node s.trees l) NearAt
    unfolding before_node
    near_before l near off = parent_near l near off _

    pub near_after : (l : ℕ) → IsNear outer h l → l ≢ h → IfSome (after_node s.trees l) NearAt
    unfolding after_node
    near_after l near off = parent_near l near off _

    -- ---- the host is an element

    pub not_host : (l : ℕ) → not (is_label s.host l) ≡ true → l ≢ h
    not_host l off e = true≢false (sym off ∙ ap not (ap (λ o. is_label o l) is.host ∙ eq-eqb h l (sym e)))

    pub chars_off : (l : ℕ) → has_chars_at s.trees l ≡ true → l ≢ h
    chars_off l chars e = by_content (content_of s.trees h) is.element (ap (has_chars_at s.trees) (sym e) ∙ chars)
      where
        by_content : (o : Option Content) → option_map kind_in o ≡ Some (kinds.Element is.name) → option_map_or has_chars o false ≡ true → ⊥
        by_content None kind has = true≢false (sym has)
        by_content (Some Document) kind has = true≢false (sym has)
        by_content (Some (Element name attributes)) kind has = true≢false (sym has)
        by_content (Some (Words chars)) kind has = (let t : Some kinds.Text ≡ Some (kinds.Element is.name) = kind in cc)
        by_content (Some (Remark chars)) kind has = (let t : Some kinds.Comment ≡ Some (kinds.Element is.name) = kind in cc)

    pub words_off : (l : ℕ) → is_words s.trees l ≡ true → l ≢ h
    unfolding is_words
    words_off l words = chars_off l (by_content (content_of s.trees l) words)
      where
        by_content : (o : Option Content) → option_map_or is_words_content o false ≡ true → option_map_or has_chars o false ≡ true
        by_content None e = e
        by_content (Some Document) e = absurd (true≢false (sym e))
        by_content (Some (Element name attributes)) e = absurd (true≢false (sym e))
        by_content (Some (Words chars)) e = refl
        by_content (Some (Remark chars)) e = absurd (true≢false (sym e))
