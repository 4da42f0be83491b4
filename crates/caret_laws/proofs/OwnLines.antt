-- The line at a caret keeps its container while what is selected is erased and a text is split: no node of the document changes its
-- parent, its name or whether it is editable.
use Rattle.std.proofs.Common.{◌≡◌, ◌≢◌, ℕ, ◌<◌, ◌+◌, ◌-◌, Bool, true, false, cond, eqb, List, [], length, drop, Option, Some, None, refl, sym, ap, subst, ◌∙◌, inl, inr, arith, true≢false}
use Rattle.std.specs.Option.{option_map, option_map_or, option_and_then}
use Rattle.std.proofs.lemmas.Bool.{cases_Bool}
use Rattle.std.proofs.lemmas.Bool.Decides.{eqb_tells}
use Rattle.edit_model.specs.DomModel.declared.Content.{Content}
use Rattle.edit_model.specs.DomModel.declared.Content.TheVariants.{Document, Element, Words, Remark}
use Rattle.edit_model.specs.DomModel.Contents.{name_in, name_of}
use Rattle.edit_model.specs.DomModel.Editing.{editing_host, is_editable}
use Rattle.edit_model.specs.DomModel.Forest.{Forest, times, parent_of, children_of, next_of, content_of, IsWithin}
use Rattle.edit_model.specs.DomModel.Places.{index_of}
use Rattle.edit_model.proofs.DomModel.Links.{parent_of-with_leaf}
use Rattle.edit_model.proofs.DomModel.Revising.{parent_of-revised}
use Rattle.edit_model.proofs.DomModel.Totals.{total-without}
use Rattle.edit_model.proofs.DomModel.Within.{within_root}
use Rattle.edit_model.specs.LiveRange.declared.places.Point.{Point}
use Rattle.edit_model.specs.State.{State}
use Rattle.edit_model.specs.Compositions.{characters_of, points_sent, split_under, split_words}
use Rattle.edit_model.specs.Confined.{is_editable_for}
use Rattle.edit_model.specs.Edit.{Edit, Insert, Remove, Move, Replace, Set, Unset, is_made_edit, trees_after, with_replaced, with_set, with_unset, changed}
use Rattle.edit_model.specs.Action as action
use Rattle.edit_model.specs.Action.{Action, made, words_content, element_content, extended, acted}
use Rattle.edit_model.specs.Run.{Reaches, here, onward, Run, ◌>>◌, final, answer, done, send, grow}
use Rattle.edit_model.specs.Valid.{IsValid}
use Rattle.edit_model.proofs.Each.{Each, EachOn, each_bind, each_answer, each_look, each_if, each_given, each_edit, each_make_words, each_perform}
use Rattle.edit_model.proofs.Forests.{fresh}
use Rattle.edit_model.proofs.Hollow.{editable_below}
use Rattle.edit_model.proofs.IslandRuns.{trees_made, trees_left}
use Rattle.edit_model.proofs.OutsideRuns.{trees-extended, trees-selected, trees-grown, trees-sent, trees-scratched}
use Rattle.edit_model.proofs.Tests.{inserts, label_is}
use Rattle.edit_model.proofs.ValidRuns.{valid_along}
use Rattle.edit_laws.specs.Kinds as kind
use Rattle.edit_laws.specs.Kinds.{Kind, kind_in, kind_of}
use Rattle.edit_laws.proofs.Fronts.{child_by}
use Rattle.edit_laws.proofs.StayingKinds.{kind_along}
use Rattle.text_insertion.specs.Start.{cuts_text}
use Rattle.caret_laws.proofs.InsideRuns.{Began, Underway, open_near, near_editable, valid_way, host_way}
use Rattle.caret_laws.proofs.SameLines.{child_listed}
use Rattle.caret_laws.proofs.SplitTexts.{cut}
use Rattle.caret_laws.proofs.Trees.{editable_open, parent-link_other}

-- ---- names

pub name_kinds : (f g : Forest Content) (l : ℕ) → kind_of g l ≡ kind_of f l → name_of g l ≡ name_of f l
name_kinds f g l same = told (content_of g l) ∙ (ap (option_and_then of_kind) same ∙ sym (told (content_of f l)))
  where
    of_kind : Kind → Option (List ℕ)
    of_kind kind.Document = None
    of_kind (kind.Element name) = Some name
    of_kind kind.Text = None
    of_kind kind.Comment = None

    told : (o : Option Content) → option_and_then name_in o ≡ option_and_then of_kind (option_map kind_in o)
    told None = refl
    told (Some Document) = refl
    told (Some (Element name attributes)) = refl
    told (Some (Words chars)) = refl
    told (Some (Remark chars)) = refl

-- ---- parents

-- where all nodes have their children, they have their parents
pub parents_stay : (s t : State) → IsValid s → IsValid t → ((l : ℕ) → children_of t.trees l ≡ children_of s.trees l) → (l : ℕ) → parent_of t.trees l ≡ parent_of s.trees l
parents_stay s t is is_t same l = by (parent_of s.trees l) refl (parent_of t.trees l) refl
  where
    by : (o : Option ℕ) → parent_of s.trees l ≡ o → (w : Option ℕ) → parent_of t.trees l ≡ w → w ≡ o
    by (Some p) e w k = sym k ∙ child_by t is_t p l (subst (λ xs. 0 < times xs l) (sym (same p)) (child_listed s l p is e))
    by None e None k = refl
    by None e (Some q) k =
        let t' : None ≡ Some q = sym e ∙ child_by s is q l (subst (λ xs. 0 < times xs l) (same q) (child_listed t l q is_t k)) in
        absurd (cc)

-- actions that neither take out nor move a node
abbrev Growing : Action → State → Type 0
Growing (action.Change (Remove n)) s = ⊥
Growing (action.Change (Move n p b)) s = ⊥
Growing (action.Extract from end target) s = ⊥
Growing _ s = Unit {0}

module _ (l q : ℕ) where
  abbrev Below : State → Type 0
  Below u = parent_of u.trees l ≡ Some q

  below_edit : (e : Edit) (u : State) → IsValid u → Growing (action.Change e) u → is_made_edit e u ≡ true → Below u → parent_of (trees_after e u.trees) l ≡ Some q
  unfolding is_made_edit trees_after
  below_edit (Insert p b n) u is grows may h =
      let can = (inserts u p b n may).can in
      parent-link_other u.trees p b n l is.forest.distinct can (λ e. (let t : None ≡ Some q = sym can.loose ∙ (ap (parent_of u.trees) e ∙ h) in cc)) ∙ h
  below_edit (Remove n) u is grows may h = absurd grows
  below_edit (Move n p b) u is grows may h = absurd grows
  below_edit (Replace n at count put) u is grows may h = parent_of-revised n (with_replaced at count put) u.trees l ∙ h
  below_edit (Set n name value) u is grows may h = parent_of-revised n (with_set name value) u.trees l ∙ h
  below_edit (Unset n name) u is grows may h = parent_of-revised n (with_unset name) u.trees l ∙ h

  below_same : (u t : State) → t.trees ≡ u.trees → Below u → Below t
  below_same u t e h = ap (λ f. parent_of f l) e ∙ h

  below_acted : (a : Action) (u : State) → IsValid u → Growing a u → Below u → Below (acted a u)
  unfolding acted made extended changed
  below_acted (action.Change e) u is grows h = elim (cases_Bool (is_made_edit e u)) [
    | inl may ↦ ap (λ f. parent_of f l) (trees_made e u may) ∙ below_edit e u is grows may h
    | inr left ↦ ap (λ f. parent_of f l) (trees_left e u left) ∙ h
  ]
  below_acted (action.MakeElement name attributes) u is grows h = parent_of-with_leaf u.trees u.next (element_content name attributes) (fresh u.trees u.next is.forest) l ∙ h
  below_acted (action.MakeWords chars) u is grows h = parent_of-with_leaf u.trees u.next (words_content chars) (fresh u.trees u.next is.forest) l ∙ h
  below_acted (action.Select anchor focus) u is grows h = ap (λ f. parent_of f l) (trees-selected anchor focus u) ∙ h
  below_acted (action.Extend focus) u is grows h = ap (λ f. parent_of f l) (trees-extended u.points.selection focus u) ∙ h
  below_acted action.Unselect u is grows h = h
  below_acted (action.Grow at) u is grows h = ap (λ f. parent_of f l) (trees-grown at u) ∙ h
  below_acted (action.Send node at tail) u is grows h = ap (λ f. parent_of f l) (trees-sent node at tail u) ∙ h
  below_acted (action.Scratch pair) u is grows h = ap (λ f. parent_of f l) (trees-scratched pair u) ∙ h
  below_acted (action.Override command setting) u is grows h = h
  below_acted (action.Flag flags) u is grows h = h
  below_acted (action.Extract from end target) u is grows h = absurd grows

  below_along : {u t : State} (r : Reaches u t) → IsValid u → EachOn Growing r → Below u → Below t
  below_along here is each h = h
  below_along (onward {t = t} r a) is each h = below_acted a t (valid_along r is) each.1 (below_along r is each.0 h)

each_sent : (p i n at tail : ℕ) (inserted : Bool) → Each Growing (points_sent p i n at tail inserted)
unfolding points_sent
each_sent p i n at tail inserted =
    each_if Growing inserted (send n at tail >> grow (record { label = p; offset = i + 1 })) done
    (each_bind Growing (send n at tail) (λ _. grow (record { label = p; offset = i + 1 })) (each_perform Growing (action.Send n at tail) (λ _ _. tt)) (λ _. each_perform Growing (action.Grow (record { label = p; offset = i + 1 })) (λ _ _. tt)))
    (each_answer Growing tt)

each_under : (p : ℕ) (s : State) (n at : ℕ) → Each Growing (split_under p s n at)
unfolding split_under
each_under p s n at =
    each_bind Growing _ _ (each_make_words Growing (drop at (characters_of s.trees n)) (λ _ _. tt)) (λ tail.
    each_bind Growing _ _ (each_edit Growing (Insert p (next_of s.trees n) tail) (λ _ _. tt)) (λ inserted.
    each_bind Growing _ _ (each_sent p (index_of s.trees n) n at tail inserted) (λ _.
    each_bind Growing _ _ (each_edit Growing (Replace n at (length (characters_of s.trees n) - at) []) (λ _ _. tt)) (λ _.
    each_answer Growing tail))))

each_split : (n at : ℕ) → Each Growing (split_words n at)
unfolding split_words
each_split n at = each_look Growing _ (λ s is. each_given Growing (parent_of s.trees n) (answer n) _ (each_answer Growing n) (λ p. each_under p s n at))

each_cut : (p : Point) → Each Growing (cut p)
unfolding cut
each_cut p = each_look Growing _ (λ s is. each_if Growing (cuts_text s.trees p) _ done (each_bind Growing _ _ (each_split p.label p.offset) (λ _. each_answer Growing tt)) (each_answer Growing tt))

-- a node of the document keeps its parent, and the root has none
pub parents_cut : (p : Point) (u : State) → IsValid u → IsValid (final (cut p) u) → (l : ℕ) → IsWithin u.trees 0 l → parent_of (final (cut p) u).trees l ≡ parent_of u.trees l
unfolding final
parents_cut p u is is_t l inside = by (parent_of u.trees l) refl
  where
    by : (o : Option ℕ) → parent_of u.trees l ≡ o → parent_of (final (cut p) u).trees l ≡ o
    by (Some q) e = below_along l q ((cut p).by_actions u) is ((each_cut p).on u is) e
    by None e = elim (eqb_tells 0 l) [
      | inl (_, at) ↦ subst (λ k. parent_of (final (cut p) u).trees k ≡ None) at is_t.forest.root
      | inr (_, off) ↦ absurd (within_root u.trees 0 is.forest.distinct is.forest.document l off e inside)
    ]

-- ---- while a command is under way

module _ (s : State) (h : ℕ) (b : Began s h) where
  -- an editable node isn't the host
  editable_off : (u : State) → Underway s h false u → (l : ℕ) → is_editable_for u l ≡ true → l ≢ h
  unfolding is_editable_for
  editable_off u way l e =
      let hosted : is_editable u.trees h l ≡ true = ap (λ (o : Option ℕ). option_map_or (λ k. is_editable u.trees k l) o false) (sym (host_way s h false b u way)) ∙ e in
      (editable_below u.trees (valid_way s h false b u way).forest.distinct l h (label_is (editing_host u.trees l) h hosted)).1

  editable_moved : (u v : State) → Underway s h false u → Underway s h false v → (l : ℕ) → IsWithin v.trees 0 l → is_editable_for u l ≡ true → is_editable_for v l ≡ true
  editable_moved u v way_u way_v l inside e = near_editable s h false b v way_v l (open_near s h false b u way_u l (editable_open u l e)) inside (editable_off u way_u l e)

  pub editable_same : (u v : State) → Underway s h false u → Underway s h false v → (l : ℕ) → IsWithin u.trees 0 l → IsWithin v.trees 0 l → is_editable_for v l ≡ is_editable_for u l
  editable_same u v way_u way_v l in_u in_v = elim (cases_Bool (is_editable_for u l)) [
    | inl on ↦ editable_moved u v way_u way_v l in_v on ∙ sym on
    | inr off ↦ elim (cases_Bool (is_editable_for v l)) [
      | inr off_v ↦ off_v ∙ sym off
      | inl on_v ↦ absurd (true≢false (sym (editable_moved v u way_v way_u l in_u on_v) ∙ off))
    ]
  ]

-- each run keeps the names of the nodes that were there
pub names_along : {u t : State} (r : Reaches u t) → IsValid u → (l : ℕ) → IsWithin u.trees 0 l → name_of t.trees l ≡ name_of u.trees l
names_along {u = u} {t = t} r is l inside =
    let low = is.forest.below l (omega (arith, inside, total-without (λ m _. cond (eqb m l) 1 0) u.trees 0)) in
    name_kinds u.trees t.trees l (kind_along l r is low)

pub names_run : {T : Type 0} (m : Run T) (u : State) → IsValid u → (l : ℕ) → l < u.next → name_of (final m u).trees l ≡ name_of u.trees l
unfolding final
names_run m u is l low = name_kinds u.trees (final m u).trees l (kind_along l (m.by_actions u) is low)
