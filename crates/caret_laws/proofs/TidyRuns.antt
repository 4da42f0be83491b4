-- Runs that put nodes into one node alone, and set no attribute, by their parts: where of the nodes of some labels none has display
-- none, each rule is a block, and no image, rule or line break holds a node, so it is after such a run.
use Rattle.std.proofs.Common.{◌≡◌, ◌≢◌, ℕ, ◌<◌, Bool, true, false, ◌||◌, if◌then◌else◌, cond, eqb, bytes_eq, List, [], Option, Some, None, refl, sym, ap, subst, ◌∙◌, inl, inr, arith, true≢false}
use Rattle.std.specs.Prelude.{codes}
use Rattle.std.specs.Option.{option_map, option_map_or, option_and_then}
use Rattle.std.proofs.lemmas.Bool.{cases_Bool}
use Rattle.std.proofs.lemmas.Bool.Decides.{eqb_tells}
use Rattle.edit_model.specs.DomModel.declared.Content.{Content}
use Rattle.edit_model.specs.DomModel.declared.Content.TheVariants.{Document, Element, Words, Remark}
use Rattle.edit_model.specs.DomModel.declared.attributes.Attribute.{Attribute}
use Rattle.edit_model.specs.DomModel.Contents.{name_in, name_of, with_chars, is_break}
use Rattle.edit_model.specs.DomModel.Forest.{Forest, count_of, parent_of, content_of, with_leaf, link, unlink, IsDistinct, CanPut}
use Rattle.edit_model.specs.DomModel.Revised.{revised}
use Rattle.edit_model.proofs.DomModel.Kept.{content_of-link, content_of-unlink, content_of-with_leaf_new, content_of-with_leaf_other}
use Rattle.edit_model.proofs.DomModel.Links.{seen, parent_count, parent_of-link, parent_of-unlink, parent_of-with_leaf, eqb_refl_true, IsDistinct-unlink}
use Rattle.edit_model.proofs.DomModel.Revising.{parent_of-revised, content_of-revised}
use Rattle.inline_value.specs.NodeStyles.Blocks.{is_block_content}
use Rattle.inline_value.specs.NodeStyles.OwnStyles.{attribute, declared, defaulted, own_display}
use Rattle.edit_model.specs.State.{State}
use Rattle.edit_model.specs.Edit.{Edit, Insert, Remove, Move, Replace, Set, Unset, is_made_edit, trees_after, with_replaced, changed}
use Rattle.edit_model.specs.Kept.{is_thing}
use Rattle.edit_model.specs.Action as action
use Rattle.edit_model.specs.Action.{Action, made, words_content, element_content, extended, acted}
use Rattle.edit_model.specs.Run.{Reaches, here, onward, Run, ◌>>=◌, final, answer, look, given, for_each, edit, make_element, make_words, perform}
use Rattle.edit_model.specs.Valid.{IsValid}
use Rattle.edit_model.proofs.Each.{Each, EachOn, each_bind, each_answer, each_look, each_if, each_given, each_for_each, each_edit, each_make_element, each_make_words, each_perform}
use Rattle.edit_model.proofs.Forests.{fresh, can_go}
use Rattle.edit_model.proofs.IslandRuns.{trees_made, trees_left}
use Rattle.edit_model.proofs.OutsideRuns.{trees-extended, trees-selected, trees-grown, trees-sent, trees-scratched}
use Rattle.edit_model.proofs.Steps.{next_along}
use Rattle.edit_model.proofs.Tests.{inserts, removes, goes, parent_there}
use Rattle.edit_model.proofs.ValidRuns.{valid_along}
use Rattle.edit_laws.proofs.StayingKinds.{kind_along}
use Rattle.caret_laws.specs.TailLaws.{is_thing_at}
use Rattle.caret_laws.proofs.OwnLines.{name_kinds}
use Rattle.caret_laws.proofs.Trees.{parent-link_other, parent-unlink_other}
use Rattle.caret_laws.proofs.Unseen.{hides, is_rule_content, Appears}

-- ---- contents

pub words_appear : (chars : List ℕ) → Appears (Some (Words chars))
unfolding own_display declared attribute defaulted
words_appear chars = record { box = refl; rule = λ e. absurd (true≢false (sym e)) }

pub made_words_appear : (chars : List ℕ) → Appears (Some (words_content chars))
made_words_appear chars = by _
  where
    by : (v : Bool) → Appears (Some (if v then Words chars else Words []))
    by true = words_appear chars
    by false = words_appear []

-- characters make no difference
pub same_bodies : (o p : Option Content) → option_map (with_chars []) p ≡ option_map (with_chars []) o → Appears o → Appears p
unfolding own_display declared attribute defaulted is_block_content
same_bodies o p same k = record {
  box = hides_body p ∙ (ap hides same ∙ (sym (hides_body o) ∙ k.box));
  rule = λ e. (block_body p ∙ (ap block same ∙ (sym (block_body o) ∙ k.rule (rule_body o ∙ (ap is_rule_content (sym same) ∙ (sym (rule_body p) ∙ e))))));
}
  where
    block : Option Content → Bool
    block o = option_map_or is_block_content o false

    hides_body : (o : Option Content) → hides o ≡ hides (option_map (with_chars []) o)
    hides_body None = refl
    hides_body (Some Document) = refl
    hides_body (Some (Element name attributes)) = refl
    hides_body (Some (Words chars)) = refl
    hides_body (Some (Remark chars)) = refl

    rule_body : (o : Option Content) → is_rule_content o ≡ is_rule_content (option_map (with_chars []) o)
    rule_body None = refl
    rule_body (Some Document) = refl
    rule_body (Some (Element name attributes)) = refl
    rule_body (Some (Words chars)) = refl
    rule_body (Some (Remark chars)) = refl

    block_body : (o : Option Content) → option_map_or is_block_content o false ≡ option_map_or is_block_content (option_map (with_chars []) o) false
    block_body None = refl
    block_body (Some Document) = refl
    block_body (Some (Element name attributes)) = refl
    block_body (Some (Words chars)) = refl
    block_body (Some (Remark chars)) = refl

-- ---- trees

-- it may hold nodes: an element other than an image, a rule and a line break
abbrev pub MayHold : Forest Content → ℕ → Type 0
MayHold f l = (is_thing_at f l || is_break f l) ≡ false

pub hold_named : (f g : Forest Content) (l : ℕ) → name_of g l ≡ name_of f l → MayHold f l → MayHold g l
hold_named f g l same h = ap (λ (o : Option (List ℕ)). option_map_or is_thing o false || option_map_or (λ own. bytes_eq own (codes "br")) o false) same ∙ h

pub record Tidy (D : ℕ → Type 0) (f : Forest Content) : Type 0 where
  pub appear : (l : ℕ) → D l → Appears (content_of f l)
  pub holders : (k l : ℕ) → parent_of f k ≡ Some l → D l → MayHold f l

pub tidy_same : (D : ℕ → Type 0) (f g : Forest Content) → g ≡ f → Tidy D f → Tidy D g
tidy_same D f g same k = subst (Tidy D) (sym same) k

hold_content : (f g : Forest Content) (l : ℕ) → content_of g l ≡ content_of f l → MayHold f l → MayHold g l
hold_content f g l same h = hold_named f g l (ap (option_and_then name_in) same) h

tidy_link : (D : ℕ → Type 0) (f : Forest Content) (p : ℕ) (b : Option ℕ) (n : ℕ) → IsDistinct f → CanPut f p b n → (D p → MayHold f p) → Tidy D f → Tidy D (link f p b n)
tidy_link D f p b n once can hold k = record {
  appear = λ l d. subst Appears (sym (content_of-link f p b n l once can)) (k.appear l d);
  holders = λ m l e d. hold_content f (link f p b n) l (content_of-link f p b n l once can) (elim (eqb_tells n m) [
    | inr (_, off) ↦ k.holders m l (sym (parent-link_other f p b n m once can off) ∙ e) d
    | inl (t, at) ↦ (
        let s = seen f n once can.node in
        let own : parent_of (link f p b n) n ≡ Some p = parent_of-link f p b n once can n s.0 s.2 ∙ ap (λ v. cond v (Some p) s.0.parent) (eqb_refl_true n) in
        let same : p ≡ l = (let q : Some p ≡ Some l = sym own ∙ (ap (parent_of (link f p b n)) at ∙ e) in cc) in
        subst (λ q. D q → MayHold f q) same hold d)
  ]);
}

tidy_unlink : (D : ℕ → Type 0) (f : Forest Content) (o n : ℕ) → IsDistinct f → parent_of f n ≡ Some o → Tidy D f → Tidy D (unlink f n)
tidy_unlink D f o n once child k = record {
  appear = λ l d. subst Appears (sym (content_of-unlink f o n l once child)) (k.appear l d);
  holders = λ m l e d. hold_content f (unlink f n) l (content_of-unlink f o n l once child) (elim (eqb_tells n m) [
    | inr (_, off) ↦ k.holders m l (sym (parent-unlink_other f o n m once child off) ∙ e) d
    | inl (t, at) ↦ absurd (
        let s = seen f n once (parent_count f n o once child).0 in
        let own : parent_of (unlink f n) n ≡ None = parent_of-unlink f o n once child n s.0 s.2 ∙ ap (λ v. cond v None s.0.parent) (eqb_refl_true n) in
        let q : None ≡ Some l = sym own ∙ (ap (parent_of (unlink f n)) at ∙ e) in
        cc)
  ]);
}

pub tidy_leaf : (D : ℕ → Type 0) (f : Forest Content) (m : ℕ) (c : Content) → IsDistinct f → count_of f m ≡ 0 → Appears (Some c) → Tidy D f → Tidy D (with_leaf f m c)
tidy_leaf D f m c once new shown k = record {
  appear = λ l d. elim (eqb_tells m l) [
    | inl (_, at) ↦ subst (λ j. Appears (content_of (with_leaf f m c) j)) at (subst Appears (sym (content_of-with_leaf_new f m c new)) shown)
    | inr (_, off) ↦ subst Appears (sym (content_of-with_leaf_other f m c l new off)) (k.appear l d)
  ];
  holders = λ j l e d. (
      let up : parent_of f j ≡ Some l = sym (parent_of-with_leaf f m c new j) ∙ e in
      let off : m ≢ l = λ at. (let some = (parent_count f j l once up).1 in omega (arith, some, new, ap (count_of f) at)) in
      hold_content f (with_leaf f m c) l (content_of-with_leaf_other f m c l new off) (k.holders j l up d));
}

tidy_revised : (D : ℕ → Type 0) (f : Forest Content) (n at count : ℕ) (put : List ℕ) → Tidy D f → Tidy D (revised f n (with_replaced at count put))
tidy_revised D f n at count put k = record {
  appear = λ l d. same_bodies (content_of f l) (content_of (revised f n (with_replaced at count put)) l) (body l) (k.appear l d);
  holders = λ m l e d. hold_named f (revised f n (with_replaced at count put)) l (named l) (k.holders m l (sym (parent_of-revised n (with_replaced at count put) f m) ∙ e) d);
}
  where
    body_of : (v : Bool) (o : Option Content) → option_map (with_chars []) (option_map (λ c. cond v (with_replaced at count put c) c) o) ≡ option_map (with_chars []) o
    body_of v None = refl
    body_of false (Some c) = refl
    body_of true (Some Document) = refl
    body_of true (Some (Element name attributes)) = refl
    body_of true (Some (Words chars)) = refl
    body_of true (Some (Remark chars)) = refl

    body : (l : ℕ) → option_map (with_chars []) (content_of (revised f n (with_replaced at count put)) l) ≡ option_map (with_chars []) (content_of f l)
    body l = ap (option_map (with_chars [])) (content_of-revised n (with_replaced at count put) f l) ∙ body_of (eqb n l) (content_of f l)

    name_body : (o : Option Content) → option_and_then name_in (option_map (with_chars []) o) ≡ option_and_then name_in o
    name_body None = refl
    name_body (Some Document) = refl
    name_body (Some (Element name attributes)) = refl
    name_body (Some (Words chars)) = refl
    name_body (Some (Remark chars)) = refl

    named : (l : ℕ) → name_of (revised f n (with_replaced at count put)) l ≡ name_of f l
    named l = sym (name_body (content_of (revised f n (with_replaced at count put)) l)) ∙ (ap (option_and_then name_in) (body l) ∙ name_body (content_of f l))

-- ---- actions

module _ (D : ℕ → Type 0) (x : ℕ) where
  -- what is put goes into x
  abbrev pub IsPacking : Action → Type 0
  IsPacking (action.Change (Insert p b n)) = p ≡ x
  IsPacking (action.Change (Remove n)) = Unit {0}
  IsPacking (action.Change (Move n p b)) = p ≡ x
  IsPacking (action.Change (Replace n at count put)) = Unit {0}
  IsPacking (action.Change (Set n name value)) = ⊥
  IsPacking (action.Change (Unset n name)) = ⊥
  IsPacking (action.MakeElement name attributes) = Appears (Some (element_content name attributes))
  IsPacking (action.Extract from end target) = ⊥
  IsPacking a = Unit {0}

  abbrev pub Packing : Action → State → Type 0
  Packing a s = IsPacking a

  -- x may hold nodes
  pub record Packed (u : State) : Type 0 where
    pub tidy : Tidy D u.trees
    pub holds : D x → MayHold u.trees x
    pub low : x < u.next

  tidy_edit : (e : Edit) (u : State) → IsValid u → IsPacking (action.Change e) → is_made_edit e u ≡ true → Packed u → Tidy D (trees_after e u.trees)
  unfolding is_made_edit trees_after
  tidy_edit (Insert p b n) u is packs may k = tidy_link D u.trees p b n is.forest.distinct (inserts u p b n may).can (subst (λ q. D q → MayHold u.trees q) (sym packs) k.holds) k.tidy
  tidy_edit (Remove n) u is packs may k = (let t = removes u n may in tidy_unlink D u.trees t.from n is.forest.distinct t.child k.tidy)
  tidy_edit (Move n p b) u is packs may k =
      let f = u.trees in
      let t = goes u n p b may in
      let can = can_go f u.next is.forest t.from n p b t.child t.apart t.parent (parent_there f p t.parent) t.before in
      let out = tidy_unlink D f t.from n is.forest.distinct t.child k.tidy in
      let hold : D p → MayHold f p = subst (λ q. D q → MayHold f q) (sym packs) k.holds in
      tidy_link D (unlink f n) p b n (IsDistinct-unlink f t.from n is.forest.distinct t.child) can (λ d. hold_content f (unlink f n) p (content_of-unlink f t.from n p is.forest.distinct t.child) (hold d)) out
  tidy_edit (Replace n at count put) u is packs may k = tidy_revised D u.trees n at count put k.tidy
  tidy_edit (Set n name value) u is packs may k = absurd packs
  tidy_edit (Unset n name) u is packs may k = absurd packs

  tidy_acted : (a : Action) (u : State) → IsValid u → IsPacking a → Packed u → Tidy D (acted a u).trees
  unfolding acted made extended changed
  tidy_acted (action.Change e) u is packs k = elim (cases_Bool (is_made_edit e u)) [
    | inl may ↦ tidy_same D (trees_after e u.trees) _ (trees_made e u may) (tidy_edit e u is packs may k)
    | inr off ↦ tidy_same D u.trees _ (trees_left e u off) k.tidy
  ]
  tidy_acted (action.MakeElement name attributes) u is packs k = tidy_leaf D u.trees u.next (element_content name attributes) is.forest.distinct (fresh u.trees u.next is.forest) packs k.tidy
  tidy_acted (action.MakeWords chars) u is packs k = tidy_leaf D u.trees u.next (words_content chars) is.forest.distinct (fresh u.trees u.next is.forest) (made_words_appear chars) k.tidy
  tidy_acted (action.Select anchor focus) u is packs k = tidy_same D u.trees _ (trees-selected anchor focus u) k.tidy
  tidy_acted (action.Extend focus) u is packs k = tidy_same D u.trees _ (trees-extended u.points.selection focus u) k.tidy
  tidy_acted action.Unselect u is packs k = k.tidy
  tidy_acted (action.Grow at) u is packs k = tidy_same D u.trees _ (trees-grown at u) k.tidy
  tidy_acted (action.Send node at tail) u is packs k = tidy_same D u.trees _ (trees-sent node at tail u) k.tidy
  tidy_acted (action.Scratch pair) u is packs k = tidy_same D u.trees _ (trees-scratched pair u) k.tidy
  tidy_acted (action.Override command setting) u is packs k = k.tidy
  tidy_acted (action.Flag flags) u is packs k = k.tidy
  tidy_acted (action.Extract from end target) u is packs k = absurd packs

  -- what keeps the trees tidy keeps x
  pub packed_by : {T : Type 0} (m : Run T) (u : State) → IsValid u → Tidy D (final m u).trees → Packed u → Packed (final m u)
  unfolding final
  packed_by m u is tidy k =
      let r = m.by_actions u in
      record {
        tidy = tidy;
        holds = λ d. hold_named u.trees (final m u).trees x (name_kinds u.trees (final m u).trees x (kind_along x r is k.low)) (k.holds d);
        low = (let rise = next_along r in let low = k.low in omega (arith, rise, low));
      }

  packed_acted : (a : Action) (u : State) → IsValid u → IsPacking a → Packed u → Packed (acted a u)
  packed_acted a u is packs k =
      let r : Reaches u (acted a u) = onward here a in
      record {
        tidy = tidy_acted a u is packs k;
        holds = λ d. hold_named u.trees (acted a u).trees x (name_kinds u.trees (acted a u).trees x (kind_along x r is k.low)) (k.holds d);
        low = (let rise = next_along r in let low = k.low in omega (arith, rise, low));
      }

  packed_along : {u t : State} (r : Reaches u t) → IsValid u → EachOn Packing r → Packed u → Packed t
  packed_along here is packs k = k
  packed_along (onward {t = t} r a) is packs k = packed_acted a t (valid_along r is) packs.1 (packed_along r is packs.0 k)

  pub record Packs {T : Type 0} (m : Run T) : Type 0 where
    pub each : Each Packing m

  pub packed_final : {T : Type 0} (m : Run T) (u : State) → Packs m → IsValid u → Packed u → Packed (final m u)
  unfolding final
  packed_final m u h is k = packed_along (m.by_actions u) is (h.each.on u is) k

  -- ---- runs by their parts

  pub packs_answer : {A : Type 0} (a : A) → Packs (answer a)
  packs_answer a = record { each = each_answer Packing a }

  pub packs_bind : {A B : Type 0} (m : Run A) (k : A → Run B) → Packs m → ((a : A) → Packs (k a)) → Packs (m >>= k)
  packs_bind m k h g = record { each = each_bind Packing m k h.each (λ a. (g a).each) }

  pub packs_look : {A : Type 0} (k : State → Run A) → ((s : State) → Packs (k s)) → Packs (look k)
  packs_look k h = record { each = each_look Packing k (λ s _. (h s).each) }

  pub packs_if : {A : Type 0} (b : Bool) (m n : Run A) → Packs m → Packs n → Packs (if b then m else n)
  packs_if b m n h g = record { each = each_if Packing b m n h.each g.each }

  pub packs_given : {A B : Type 0} (o : Option A) (n : Run B) (f : A → Run B) → Packs n → ((a : A) → Packs (f a)) → Packs (given o n f)
  packs_given o n f h g = record { each = each_given Packing o n f h.each (λ a. (g a).each) }

  pub packs_each : {A : Type 0} (xs : List A) (f : A → Run (Unit {0})) → ((a : A) → Packs (f a)) → Packs (for_each xs f)
  packs_each xs f h = record { each = each_for_each Packing xs f (λ a. (h a).each) }

  pub packs_edit : (e : Edit) → IsPacking (action.Change e) → Packs (edit e)
  packs_edit e h = record { each = each_edit Packing e (λ s is. h) }

  pub packs_make : (name : List ℕ) (attributes : List Attribute) → Appears (Some (element_content name attributes)) → Packs (make_element name attributes)
  packs_make name attributes h = record { each = each_make_element Packing name attributes (λ s is. h) }

  pub packs_words : (chars : List ℕ) → Packs (make_words chars)
  packs_words chars = record { each = each_make_words Packing chars (λ s is. tt) }

  pub packs_perform : (a : Action) → IsPacking a → Packs (perform a)
  packs_perform a h = record { each = each_perform Packing a (λ s is. h) }
