-- Where inserting a paragraph splits a text and leaves it, the selection is collapsed to a point of a node that is inside and can
-- have children.
use Rattle.std.proofs.Common.{◌≡◌, ◌≢◌, ℕ, ◌+◌, ◌-◌, ◌<◌, ◌≤◌, Bool, true, false, ◌&&◌, if◌then◌else◌, cond, eqb, [], length, drop, Option, Some, None, IfSome, refl, sym, ap, subst, ◌∙◌, inl, inr, arith, true≢false}
use Rattle.std.specs.Prelude.{unwrap_or}
use Rattle.std.specs.Option.{option_map, option_map_or}
use Rattle.std.proofs.lemmas.Bool.{and_parts, cases_Bool}
use Rattle.std.proofs.lemmas.Bool.Decides.{eqb_tells}
use Rattle.edit_model.specs.DomModel.declared.Content.{Content}
use Rattle.edit_model.specs.DomModel.declared.Content.TheVariants.{Document, Element, Words, Remark}
use Rattle.edit_model.specs.DomModel.Contents.{may_have_children, has_chars, has_chars_at, length_of}
use Rattle.edit_model.specs.DomModel.Editing.{is_true_state, is_host}
use Rattle.edit_model.specs.DomModel.Forest.{Forest, Seen, count_of, parent_of, next_of, content_of, IsWithin}
use Rattle.edit_model.specs.DomModel.Places.{index_of}
use Rattle.edit_model.proofs.DomModel.Links.{seen}
use Rattle.edit_model.proofs.DomModel.Totals.{total-without}
use Rattle.edit_model.proofs.DomModel.Within.{within_root}
use Rattle.edit_model.specs.LiveRange.declared.places.Point.{Point}
use Rattle.edit_model.specs.LiveRange.declared.places.Pair.{Pair}
use Rattle.inline_value.specs.NodeTests.CollapsedWhitespace.{is_words_content, is_words}
use Rattle.edit_model.specs.PointOrder.PointOrder.{is_before, is_placed}
use Rattle.edit_model.specs.State.{State}
use Rattle.edit_model.specs.Compositions.{characters_of, points_sent, split_under, split_words}
use Rattle.edit_model.specs.Confined.{is_inside, may_select}
use Rattle.edit_model.specs.Edit.{Edit, Insert, Remove, Move, Replace, Set, Unset, is_made_edit, trees_after, with_replaced, with_set, with_unset, changed}
use Rattle.edit_model.specs.Action as action
use Rattle.edit_model.specs.Action.{Action, made, words_content, with_selection, selected, extended, acted, element_content}
use Rattle.edit_model.specs.Run.{Reaches, here, onward, reaches_trans, Run, ◌>>◌, final, answer, done, look, send, grow}
use Rattle.edit_model.specs.Valid.{IsValid, IsPlacedPair}
use Rattle.edit_model.proofs.Documents.{within-link, within-with_leaf, within-revised, within-move, within_above, has_children, index_below}
use Rattle.edit_model.proofs.Each.{Each, EachOn, each_bind, each_answer, each_look, each_if, each_given, each_edit, each_make_words, each_perform}
use Rattle.edit_model.proofs.Forests.{can_go}
use Rattle.edit_model.proofs.IslandRuns.{trees_made, trees_left}
use Rattle.edit_model.proofs.Made.{inside_goes}
use Rattle.edit_model.proofs.OutsideRuns.{trees-extended, trees-selected, trees-grown, trees-sent, trees-scratched}
use Rattle.edit_model.proofs.Points.{Placed, placed_is, placed_from}
use Rattle.edit_model.proofs.Steps.{final-bind, final-look, final-answer, final-perform}
use Rattle.edit_model.proofs.TailDocument.{document_extracted}
use Rattle.edit_model.proofs.Tests.{inserts, goes, parent_there}
use Rattle.edit_model.proofs.ValidRuns.{valid_along}
use Rattle.edit_laws.proofs.Hosts.{parent_inside}
use Rattle.edit_laws.proofs.StayingKinds.{kind_along}
use Rattle.edit_laws.proofs.SteadyRuns.{steady_parts, states_on}
use Rattle.edit_laws.specs.Kinds as kind
use Rattle.edit_laws.specs.Kinds.{Kind, kind_in, kind_of}
use Rattle.edit_laws.specs.Steady.{Steady}
use Rattle.inline_value.specs.EditActions.ActiveRange.{start_of}
use Rattle.delete_core.specs.Places.{at, before_node, after_node}
use Rattle.text_insertion.specs.Paragraph.{out_of_text, left_text, leave_text, split_text}
use Rattle.text_insertion.specs.Start.{active_start, if_point_inside, start_inside, cuts_text}
use Rattle.caret_laws.proofs.InsideRuns.{Began, Underway, Near, leaves_trans, open_near, near_editable, valid_way, hosted_way}
use Rattle.caret_laws.proofs.StillRuns.{Good, Selects, Stays}
use Rattle.caret_laws.proofs.Trees.{inside_open}

-- ---- actions that take nothing out of the document

abbrev pub Remaining : Action → State → Type 0
Remaining (action.Change (Remove n)) s = ⊥
Remaining _ s = Unit {0}

remains_edit : (e : Edit) (u : State) (l : ℕ) → IsValid u → Remaining (action.Change e) u → is_made_edit e u ≡ true → IsWithin u.trees 0 l → IsWithin (trees_after e u.trees) 0 l
unfolding is_made_edit trees_after
remains_edit (Insert p b n) u l is r may inside = within-link u.trees u.next is.forest p b n l (inserts u p b n may).can inside
remains_edit (Remove n) u l is r may inside = absurd r
remains_edit (Move n p b) u l is r may inside =
    let t = goes u n p b may in
    let f = u.trees in
    let can = can_go f u.next is.forest t.from n p b t.child t.apart t.parent (parent_there f p t.parent) t.before in
    within-move f u.next is.forest t.from n p b l t.child can t.apart (inside_goes u n p b t) inside
remains_edit (Replace n at count put) u l is r may inside = within-revised u.trees u.next is.forest n l (with_replaced at count put) inside
remains_edit (Set n name value) u l is r may inside = within-revised u.trees u.next is.forest n l (with_set name value) inside
remains_edit (Unset n name) u l is r may inside = within-revised u.trees u.next is.forest n l (with_unset name) inside

remains_acted : (a : Action) (u : State) (l : ℕ) → IsValid u → Remaining a u → IsWithin u.trees 0 l → IsWithin (acted a u).trees 0 l
unfolding acted made extended changed
remains_acted (action.Change e) u l is r inside = elim (cases_Bool (is_made_edit e u)) [
  | inl may ↦ subst (λ f. IsWithin f 0 l) (sym (trees_made e u may)) (remains_edit e u l is r may inside)
  | inr off ↦ subst (λ f. IsWithin f 0 l) (sym (trees_left e u off)) inside
]
remains_acted (action.MakeElement name attributes) u l is r inside = within-with_leaf u.trees u.next is.forest u.next l (element_content name attributes) inside
remains_acted (action.MakeWords chars) u l is r inside = within-with_leaf u.trees u.next is.forest u.next l (words_content chars) inside
remains_acted (action.Select anchor focus) u l is r inside = subst (λ f. IsWithin f 0 l) (sym (trees-selected anchor focus u)) inside
remains_acted (action.Extend focus) u l is r inside = subst (λ f. IsWithin f 0 l) (sym (trees-extended u.points.selection focus u)) inside
remains_acted action.Unselect u l is r inside = inside
remains_acted (action.Grow at) u l is r inside = subst (λ f. IsWithin f 0 l) (sym (trees-grown at u)) inside
remains_acted (action.Send node at tail) u l is r inside = subst (λ f. IsWithin f 0 l) (sym (trees-sent node at tail u)) inside
remains_acted (action.Scratch pair) u l is r inside = subst (λ f. IsWithin f 0 l) (sym (trees-scratched pair u)) inside
remains_acted (action.Override command setting) u l is r inside = inside
remains_acted (action.Flag flags) u l is r inside = inside
remains_acted (action.Extract from end target) u l is r inside = document_extracted from end target u l is inside

pub remains_along : {u t : State} (r : Reaches u t) (l : ℕ) → IsValid u → EachOn Remaining r → IsWithin u.trees 0 l → IsWithin t.trees 0 l
remains_along here l is each inside = inside
remains_along (onward {t = t} q a) l is each inside = remains_acted a t l (valid_along q is) each.1 (remains_along q l is each.0 inside)

each_sent : (p i n at tail : ℕ) (inserted : Bool) → Each Remaining (points_sent p i n at tail inserted)
unfolding points_sent
each_sent p i n at tail inserted =
    each_if Remaining inserted (send n at tail >> grow (record { label = p; offset = i + 1 })) done
    (each_bind Remaining (send n at tail) (λ _. grow (record { label = p; offset = i + 1 })) (each_perform Remaining (action.Send n at tail) (λ _ _. tt)) (λ _. each_perform Remaining (action.Grow (record { label = p; offset = i + 1 })) (λ _ _. tt)))
    (each_answer Remaining tt)

each_under : (p : ℕ) (s : State) (n at : ℕ) → Each Remaining (split_under p s n at)
unfolding split_under
each_under p s n at =
    each_bind Remaining _ _ (each_make_words Remaining (drop at (characters_of s.trees n)) (λ _ _. tt)) (λ tail.
    each_bind Remaining _ _ (each_edit Remaining (Insert p (next_of s.trees n) tail) (λ _ _. tt)) (λ inserted.
    each_bind Remaining _ _ (each_sent p (index_of s.trees n) n at tail inserted) (λ _.
    each_bind Remaining _ _ (each_edit Remaining (Replace n at (length (characters_of s.trees n) - at) []) (λ _ _. tt)) (λ _.
    each_answer Remaining tail))))

pub each_split : (n at : ℕ) → Each Remaining (split_words n at)
unfolding split_words
each_split n at = each_look Remaining _ (λ s is. each_given Remaining (parent_of s.trees n) (answer n) _ (each_answer Remaining n) (λ p. each_under p s n at))

-- a text is split where it is cut
unfoldable pub cut : Point → Run (Unit {0})
cut p = look λ s. if cuts_text s.trees p then split_words p.label p.offset >> done else done

pub each_cut : (p : Point) → Each Remaining (cut p)
unfolding cut
each_cut p = each_look Remaining _ (λ s is. each_if Remaining (cuts_text s.trees p) _ done (each_bind Remaining _ _ (each_split p.label p.offset) (λ _. each_answer Remaining tt)) (each_answer Remaining tt))

steady_cut : (p : Point) → Steady (cut p)
unfolding cut
steady_cut p = search steady_parts

steady_leave : (p : Point) → Steady (leave_text p)
unfolding leave_text
steady_leave p = search steady_parts

pub split_is : (p : Point) (t : State) → final (split_text p) t ≡ final (leave_text p) (final (cut p) t)
unfolding split_text cut
split_is p t = final-bind _ _ t

-- ---- texts and comments

abbrev IsText : Option Content → Bool
IsText o = option_map_or has_chars o false

pub words_chars : (o : Option Content) → option_map_or is_words_content o false ≡ true → option_map_or has_chars o false ≡ true
words_chars None h = h
words_chars (Some Document) h = absurd (true≢false (sym h))
words_chars (Some (Element name attributes)) h = absurd (true≢false (sym h))
words_chars (Some (Words chars)) h = refl
words_chars (Some (Remark chars)) h = absurd (true≢false (sym h))

parent_or_text : (c : Content) → has_chars c ≡ false → may_have_children c ≡ true
parent_or_text Document h = refl
parent_or_text (Element name attributes) h = refl
parent_or_text (Words chars) h = absurd (true≢false h)
parent_or_text (Remark chars) h = absurd (true≢false h)

host_is_element : (c : Content) → is_true_state c ≡ true → has_chars c ≡ false
host_is_element Document h = refl
host_is_element (Element name attributes) h = refl
host_is_element (Words chars) h = absurd (true≢false (sym h))
host_is_element (Remark chars) h = absurd (true≢false (sym h))

-- a node keeps its kind, so a text stays one
pub text_kind : (f g : Forest Content) (l : ℕ) → kind_of g l ≡ kind_of f l → has_chars_at f l ≡ true → has_chars_at g l ≡ true
text_kind f g l same h = by (content_of f l) (content_of g l) same h
  where
    of_kind : Kind → Bool
    of_kind kind.Document = false
    of_kind (kind.Element name) = false
    of_kind kind.Text = true
    of_kind kind.Comment = true

    told : (c : Content) → has_chars c ≡ of_kind (kind_in c)
    told Document = refl
    told (Element name attributes) = refl
    told (Words chars) = refl
    told (Remark chars) = refl

    by : (o p : Option Content) → option_map kind_in p ≡ option_map kind_in o → option_map_or has_chars o false ≡ true → option_map_or has_chars p false ≡ true
    by None p same h = absurd (true≢false (sym h))
    by (Some c) None same h = absurd (let e : None ≡ Some (kind_in c) = same in cc)
    by (Some c) (Some d) same h =
        let e : kind_in d ≡ kind_in c = (let q : Some (kind_in d) ≡ Some (kind_in c) = same in cc) in
        told d ∙ (ap of_kind e ∙ (sym (told c) ∙ h))

-- ---- out of a text

module _ (s : State) (h : ℕ) (b : Began s h) (v : State) (way : Underway s h false v) (p : Point) (inside : IsWithin v.trees 0 p.label) (near : Near s h false b p.label) (fits : has_chars_at v.trees p.label ≡ false → p.offset ≤ length_of v.trees p.label) where
  is_v : IsValid v
  is_v = valid_way s h false b v way

  known : 0 < count_of v.trees p.label
  known = omega (arith, inside, total-without (λ m _. cond (eqb m p.label) 1 0) v.trees 0)

  content_p : (c : Content) × (content_of v.trees p.label ≡ Some c)
  content_p = let x = seen v.trees p.label is_v.forest.distinct known in (x.0.content, ap (option_map (λ (y : Seen Content). y.content)) x.2)

  -- what the selection is collapsed to
  pub record Lands (x : Point) : Type 0 where
    pub placed : is_placed v.trees x ≡ true
    pub good : Good s h false b v x.label

  -- the parent of a text or comment
  pub lands_up : (q : ℕ) (o : ℕ) → has_chars_at v.trees p.label ≡ true → parent_of v.trees p.label ≡ Some q → o ≤ index_of v.trees p.label + 1 → Lands (record { label = q; offset = o })
  lands_up q o chars child low =
      let f = v.trees in
      let off : p.label ≢ h = λ e. (
      let hosted : is_host f p.label ≡ true = subst (λ k. is_host f k ≡ true) (sym e) (hosted_way s h false b v way) in
      let true_state : is_true_state content_p.0 ≡ true = sym (ap (λ (w : Option Content). option_map_or is_true_state w false) content_p.1) ∙ hosted in
      let text : has_chars content_p.0 ≡ true = sym (ap (λ (w : Option Content). option_map_or has_chars w false) content_p.1) ∙ chars in
      true≢false (sym text ∙ host_is_element content_p.0 true_state)) in
      let editable = near_editable s h false b v way p.label near inside off in
      let held = parent_inside v is_v p.label q child editable in
      record {
        placed = placed_from f (record { label = q; offset = o }) (record {
          inside = within_above f v.next is_v.forest q p.label child inside;
          fits = omega (arith, low, index_below f v.next is_v.forest q p.label child);
        });
        good = record {
          near = open_near s h false b v way q (inside_open v q held);
          parent = has_children f v.next is_v.forest q p.label child;
        };
      }

  -- a text or comment of the document has a parent
  pub text_child : has_chars_at v.trees p.label ≡ true → (q : ℕ) × (parent_of v.trees p.label ≡ Some q)
  text_child chars = by (parent_of v.trees p.label) refl
    where
      by : (o : Option ℕ) → parent_of v.trees p.label ≡ o → (q : ℕ) × (parent_of v.trees p.label ≡ Some q)
      by (Some q) e = (q, e)
      by None e = absurd (elim (eqb_tells 0 p.label) [
        | inr (_, off) ↦ within_root v.trees 0 is_v.forest.distinct is_v.forest.document p.label off e inside
        | inl (_, at) ↦ (
            let x = seen v.trees p.label is_v.forest.distinct known in
            let document : x.0.content ≡ Document = (is_v.forest.nodes p.label x.0 x.2).document.1 (sym at) in
            let content : content_of v.trees p.label ≡ Some Document = ap (option_map (λ (y : Seen Content). y.content)) x.2 ∙ ap Some document in
            true≢false (sym chars ∙ ap (λ (w : Option Content). option_map_or has_chars w false) content))
      ])

  childless : has_chars_at v.trees p.label ≡ true → parent_of v.trees p.label ≡ None → ⊥
  childless chars root = let c = text_child chars in let e : None ≡ Some c.0 = sym root ∙ c.1 in cc

  pub here_lands : has_chars_at v.trees p.label ≡ false → Lands p
  here_lands none = record {
    placed = placed_from v.trees p (record { inside = inside; fits = fits none });
    good = record {
      near = near;
      parent = (
          let no_text : has_chars content_p.0 ≡ false = sym (ap (λ (w : Option Content). option_map_or has_chars w false) content_p.1) ∙ none in
          ap (λ (w : Option Content). option_map_or may_have_children w false) content_p.1 ∙ parent_or_text content_p.0 no_text);
    };
  }

  lands_at : (w c : Bool) (o : Option ℕ) → (w ≡ true → has_chars_at v.trees p.label ≡ true) → has_chars_at v.trees p.label ≡ c → parent_of v.trees p.label ≡ o
      → Lands (unwrap_or (if w then option_map (λ q. at q (index_of v.trees p.label + 1)) o
      else (if c then option_map (λ q. at q (index_of v.trees p.label)) o else None)) p)
  lands_at true c None text is up = absurd (childless (text refl) up)
  lands_at true c (Some q) text is up = lands_up q (index_of v.trees p.label + 1) (text refl) up (omega arith)
  lands_at false true None text is up = absurd (childless is up)
  lands_at false true (Some q) text is up = lands_up q (index_of v.trees p.label) is up (omega arith)
  lands_at false false o text is up = here_lands is

  pub lands : Lands (left_text v.trees p)
  unfolding left_text out_of_text is_words before_node after_node
  lands =
      let words = option_map_or is_words_content (content_of v.trees p.label) false in
      lands_at (words && eqb p.offset (length_of v.trees p.label)) (has_chars_at v.trees p.label) (parent_of v.trees p.label)
      (λ e. words_chars (content_of v.trees p.label) (and_parts words (eqb p.offset (length_of v.trees p.label)) e).0) refl refl

  -- so it is
  collapsed : final (leave_text p) v ≡ selected (left_text v.trees p) (left_text v.trees p) v
  unfolding leave_text acted
  collapsed = rw (final-look, final-bind, final-perform, final-answer) refl

  selected_is : selected (left_text v.trees p) (left_text v.trees p) v ≡ with_selection (Some (record { anchor = left_text v.trees p; focus = left_text v.trees p })) v
  unfolding selected may_select
  selected_is = rw lands.placed refl

  way_left : Underway s h false (final (leave_text p) v)
  unfolding final
  way_left = record {
    way = reaches_trans way.way ((leave_text p).by_actions v);
    leaves = leaves_trans way.way ((leave_text p).by_actions v) way.leaves (states_on ((leave_text p).by_actions v) ((steady_leave p).leaves v is_v));
  }

  at_point : Selects s h false b (with_selection (Some (record { anchor = left_text v.trees p; focus = left_text v.trees p })) v)
  unfolding changed
  at_point =
      let here : Good s h false b v (left_text v.trees p).label = lands.good in
      record { points = (record { near = here.near; parent = here.parent }, record { near = here.near; parent = here.parent }) }

  pub leave_stays : Stays s h false b (final (leave_text p) v)
  leave_stays = record {
    way = way_left;
    selects = subst (λ t. Selects s h false b t) (sym (collapsed ∙ selected_is)) at_point;
  }

-- ---- the whole

pub if_inside_is : (u : State) (o : Option Point) (p : Point) → if_point_inside u o ≡ Some p → (o ≡ Some p) × (is_inside u p.label ≡ true)
if_inside_is u None p e = absurd (let t : None ≡ Some p = e in cc)
if_inside_is u (Some q) p e = by (is_inside u q.label) refl e
  where
    by : (w : Bool) → is_inside u q.label ≡ w → (if w then Some q else None) ≡ Some p → (Some q ≡ Some p) × (is_inside u p.label ≡ true)
    by true held e = (e, (let same : q ≡ p = (let t = e in cc) in subst (λ (x : Point). is_inside u x.label ≡ true) same held))
    by false held e = absurd (let t : None ≡ Some p = e in cc)

-- the start of the active range is one of the two points of the selection
pub start_among : (u : State) (p : Point) (P : Point → Type 0) → ((pair : Pair) → u.points.selection ≡ Some pair → P pair.anchor × P pair.focus) → active_start u ≡ Some p → P p
unfolding active_start
start_among u p P both e = by u.points.selection refl e
  where
    pick : (w : Bool) (pair : Pair) → P pair.anchor × P pair.focus → P (if w then pair.focus else pair.anchor)
    pick true pair h = h.1
    pick false pair h = h.0

    by : (o : Option Pair) → u.points.selection ≡ o → option_map (start_of u.trees) o ≡ Some p → P p
    by None at e = absurd (let t : None ≡ Some p = e in cc)
    by (Some pair) at e =
        let here : start_of u.trees pair ≡ p = (let t = e in cc) in
        subst P here (pick (is_before u.trees pair.focus pair.anchor) pair (both pair at))

pub start_placed : (u : State) (p : Point) → IsValid u → active_start u ≡ Some p → Placed u.trees p
start_placed u p is e =
    start_among u p (Placed u.trees)
    (λ pair at. (
    let here : IsPlacedPair u.trees pair = subst (λ o. IfSome o (IsPlacedPair u.trees)) at is.placed.selection in
    (placed_is u.trees pair.anchor here.anchor, placed_is u.trees pair.focus here.focus)))
    e

module _ (s : State) (h : ℕ) (b : Began s h) (t : State) (way : Underway s h false t) (p : Point) (start : start_inside t ≡ Some p) where
  is_t : IsValid t
  is_t = valid_way s h false b t way

  started : (active_start t ≡ Some p) × (is_inside t p.label ≡ true)
  unfolding start_inside
  started = if_inside_is t (active_start t) p start

  placed_p : Placed t.trees p
  placed_p = start_placed t p is_t started.0

  near_p : Near s h false b p.label
  near_p = open_near s h false b t way p.label (inside_open t p.label started.1)

  way_cut : Underway s h false (final (cut p) t)
  unfolding final
  way_cut = record {
    way = reaches_trans way.way ((cut p).by_actions t);
    leaves = leaves_trans way.way ((cut p).by_actions t) way.leaves (states_on ((cut p).by_actions t) ((steady_cut p).leaves t is_t));
  }

  inside_cut : IsWithin (final (cut p) t).trees 0 p.label
  unfolding final
  inside_cut = remains_along ((cut p).by_actions t) p.label is_t ((each_cut p).on t is_t) placed_p.inside

  kind_cut : kind_of (final (cut p) t).trees p.label ≡ kind_of t.trees p.label
  unfolding final
  kind_cut = kind_along p.label ((cut p).by_actions t) is_t (is_t.forest.below p.label (let i = placed_p.inside in omega (arith, i, total-without (λ m _. cond (eqb m p.label) 1 0) t.trees 0)))

  cuts_words : cuts_text t.trees p ≡ true → has_chars_at t.trees p.label ≡ true
  unfolding cuts_text is_words
  cuts_words e = words_chars (content_of t.trees p.label) (and_parts (option_map_or is_words_content (content_of t.trees p.label) false) _ e).0

  uncut : cuts_text t.trees p ≡ false → final (cut p) t ≡ t
  unfolding cut
  uncut e = rw (final-look, e) (final-answer tt t)

  -- where no text is split nothing changes, and a text that is split stays one
  fits_cut : has_chars_at (final (cut p) t).trees p.label ≡ false → p.offset ≤ length_of (final (cut p) t).trees p.label
  fits_cut none = elim (cases_Bool (cuts_text t.trees p)) [
    | inl on ↦ absurd (true≢false (sym (text_kind t.trees (final (cut p) t).trees p.label kind_cut (cuts_words on)) ∙ none))
    | inr off ↦ subst (λ u. p.offset ≤ length_of u.trees p.label) (sym (uncut off)) placed_p.fits
  ]

  pub split_stays : Stays s h false b (final (split_text p) t)
  split_stays = subst (λ u. Stays s h false b u) (sym (split_is p t)) (leave_stays s h b (final (cut p) t) way_cut p inside_cut near_p fits_cut)
