-- Trees that bear nothing are taken out, with the inline nodes around them that are left empty, and a br comes where a block shows
-- nothing: that keeps what the document bears, and leaves the selection at nodes that are near.
use Rattle.std.proofs.Common.{◌≡◌, ◌≢◌, ◌⊎◌, ℕ, ◌+◌, ◌<◌, Bool, true, false, ◌||◌, ◌&&◌, not, eqb, if◌then◌else◌, List, [], ◌∷◌, ◌++◌, map, length, Option, Some, None, IfSome, refl, sym, ap, subst, ◌∙◌, inl, inr, arith, true≢false}
use Rattle.std.specs.Prelude.{unwrap_or}
use Rattle.std.specs.List.{filter}
use Rattle.std.specs.Option.{option_map, option_map_or, option_and_then}
use Rattle.std.proofs.lemmas.Bool.{and_parts, cases_Bool, ne_eqb}
use Rattle.std.proofs.lemmas.Bool.Decides.{eqb_tells}
use Rattle.edit_model.specs.DomModel.declared.Content.{Content}
use Rattle.edit_model.specs.DomModel.declared.Content.TheVariants.{Document, Element, Words, Remark}
use Rattle.edit_model.specs.DomModel.Contents.{name_in, length_of}
use Rattle.edit_model.specs.DomModel.Forest.{Forest, Seen, tops, seek, count_of, tree_of, preorder, parent_of, content_of, link, unlink, with_leaf, relinked, unlinked, IsDistinct, IsWithin}
use Rattle.edit_model.specs.DomModel.Forest.Forest.{Nil, Tree}
use Rattle.edit_model.specs.DomModel.Places.{index_of}
use Rattle.edit_model.proofs.DomModel.Kept.{content_of-link, content_of-unlink, content_of-with_leaf_new, content_of-with_leaf_other}
use Rattle.edit_model.proofs.DomModel.Links.{seek-link, seek-unlink, parent_of-with_leaf}
use Rattle.edit_model.proofs.DomModel.Stands.{Stands, count_of-Stands, Stands-tree_of, seek_Stands}
use Rattle.edit_model.specs.LiveRange.declared.places.Point.{Point}
use Rattle.edit_model.specs.LiveRange.LivePoints.{LivePoints}
use Rattle.edit_model.specs.LiveRange.PointsEdit as range
use Rattle.edit_model.specs.LiveRange.PointsEdit.{adjusted, adjusted_pair, has_label, with_offset, after_insert, after_removal}
use Rattle.inline_value.specs.NodeStyles.Blocks.{is_block}
use Rattle.inline_value.proofs.NodeTests.Reaching.{child_with}
use Rattle.edit_model.specs.State.{State}
use Rattle.edit_model.specs.Action.{made}
use Rattle.edit_model.specs.Confined.{is_editable_for, is_inside, is_open}
use Rattle.edit_model.specs.Edit.{Edit, Insert, Remove, is_made_edit, trees_after, points_after, parent_or_0, index_before, changed, with_change, edited}
use Rattle.edit_model.specs.Kept.{Letter, borne_by, leaves, is_thing, is_kept, is_empty, kept_leaves, has_no_kept_leaves}
use Rattle.edit_model.specs.Moves.{make_break}
use Rattle.edit_model.specs.Run.{Run, ◌>>◌, act, final, answer, done, given, for_each, while_at_most, edit, remove}
use Rattle.edit_model.specs.Valid.{IsValid}
use Rattle.edit_model.proofs.Documents.{index_below}
use Rattle.edit_model.proofs.Forests.{fresh}
use Rattle.edit_model.proofs.IslandRuns.{trees_made, trees_left}
use Rattle.edit_model.proofs.Steps.{final-bind, final-answer, final-edit, final-make_element, value-make_element}
use Rattle.edit_model.proofs.TailForests.{away-unlink, away-link, away-with_leaf}
use Rattle.edit_model.proofs.Tests.{removes, inserts}
use Rattle.edit_model.proofs.Trees.{none_or_some}
use Rattle.edit_laws.specs.MoveLaws.{IsBare}
use Rattle.edit_laws.specs.Order.{KeepsOrder}
use Rattle.edit_laws.proofs.Leaves.{leaves-Nil, leaves-Tree}
use Rattle.edit_laws.proofs.OrderPreserving.{order_preserving_remove}
use Rattle.edit_laws.proofs.SteadyRuns.{steady_edit}
use Rattle.edit_laws.proofs.Subsequences.{keeps_trans}
use Rattle.command_laws.proofs.SteadyWraps.{steady_append_break}
use Rattle.inline_value.specs.WrapSplit.Walks.{turn_bound}
use Rattle.inline_value.specs.WrapSplit.Wrap.{append_break}
use Rattle.delete_core.specs.Erasing.{is_hollow, fill_hollow, removed_up, is_strippable, strip_empty, strip_from, remove_under, remove_node}
use Rattle.edit_model.specs.PointOrder.PointOrder.{is_within}
use Rattle.caret_laws.specs.SolidOrder.{KeepsOrderUpToBlanks}
use Rattle.caret_laws.specs.TailLaws.{is_thing_at}
use Rattle.caret_laws.proofs.Blanks.{length_words}
use Rattle.caret_laws.proofs.Canonical.{Ends, ends_answer, ends_look, ends_bind, ends_edit, ends_while, same_number}
use Rattle.caret_laws.proofs.InsideRuns.{Began, Underway, Near, open_near, valid_way, top_known}
use Rattle.caret_laws.proofs.LineBreaks.{Br, bare_insert, br_bare, br_valid}
use Rattle.caret_laws.proofs.PutElements.{made_order, made_tree}
use Rattle.caret_laws.proofs.Solid.{solid_order}
use Rattle.caret_laws.proofs.SparingRuns.{alike_edit, sparing_ordered}
use Rattle.caret_laws.proofs.Trees.{parent-link_other, parent-unlink_other}
use Rattle.caret_laws.proofs.Underways.{way_steady}

-- ---- trees that bear nothing

-- no node of the tree bears anything
abbrev pub IsBarren : State → ℕ → Type 0
IsBarren s y = (l : ℕ) → IsWithin s.trees y l → IsBare s l

none_borne : (q : Option ℕ) (f : Forest Content) → ((l : ℕ) (r : Seen Content) → Stands q f l r → borne_by l r.content ≡ []) → leaves f ≡ []
none_borne q Nil h = leaves-Nil
none_borne q (Tree m c ks rest) h =
    leaves-Tree m c ks rest
    ∙ (ap (λ l. l ++ (leaves ks ++ leaves rest)) (h m (record { parent = q; content = c; children = tops ks }) (inl (refl, refl)))
    ∙ (ap (λ l. l ++ leaves rest) (none_borne (Some m) ks (λ l r st. h l r (inr (inl st))))
    ∙ none_borne q rest (λ l r st. h l r (inr (inr st)))))

content_in : (f : Forest Content) (n l : ℕ) (r : Seen Content) → IsDistinct f → Stands None (tree_of f n) l r → content_of f l ≡ Some r.content
content_in f n l r once st = elim (Stands-tree_of None None f n l r (once n) st) [
  | inl (_, o, k, e) ↦ ap (option_map (λ (x : Seen Content). x.content)) (seek_Stands None f l o (once l) k) ∙ ap (λ (x : Seen Content). Some x.content) (sym e)
  | inr (_, k) ↦ ap (option_map (λ (x : Seen Content). x.content)) (seek_Stands None f l r (once l) k)
]

barren_leaves : (s : State) → IsValid s → (y : ℕ) → IsBarren s y → leaves (tree_of s.trees y) ≡ []
barren_leaves s is y barren =
    none_borne None (tree_of s.trees y)
    (λ l r st. barren l (count_of-Stands None (tree_of s.trees y) l r st) r.content (content_in s.trees y l r is.forest.distinct st))

none_kept : (f : Forest Content) → leaves f ≡ [] → has_no_kept_leaves f ≡ true
unfolding has_no_kept_leaves kept_leaves
none_kept f e = ap (λ l. is_empty (filter is_kept l)) e

-- a node that is no image and no rule, nor a text that isn't empty, bears nothing
pub bare_plain : (s : State) (l : ℕ) → is_thing_at s.trees l ≡ false → ((chars : List ℕ) → content_of s.trees l ≡ Some (Words chars) → chars ≡ []) → IsBare s l
unfolding borne_by
bare_plain s l plain empty Document e = refl
bare_plain s l plain empty (Element name attributes) e =
    let own : is_thing name ≡ false = sym (ap (λ o. option_map_or is_thing (option_and_then name_in o) false) e) ∙ plain in
    rw own refl
bare_plain s l plain empty (Words chars) e = ap (map Letter) (empty chars e)
bare_plain s l plain empty (Remark chars) e = refl

pub no_chars : (chars : List ℕ) → length chars ≡ 0 → chars ≡ []
no_chars [] e = refl
no_chars (x ∷ xs) e = absurd (omega (arith, e))

bare_empty : (s : State) (l : ℕ) → is_thing_at s.trees l ≡ false → length_of s.trees l ≡ 0 → IsBare s l
bare_empty s l plain none = bare_plain s l plain (λ chars e. no_chars chars (sym (length_words s.trees l chars e) ∙ none))

-- nothing stands below an empty node
barren_empty : (s : State) → IsValid s → (l : ℕ) → is_thing_at s.trees l ≡ false → length_of s.trees l ≡ 0 → IsBarren s l
barren_empty s is l plain none k inside = elim (eqb_tells l k) [
  | inl (_, same) ↦ subst (IsBare s) same (bare_empty s l plain none)
  | inr (_, off) ↦ absurd (
      let there : 0 < count_of s.trees l = top_known s.trees l k inside in
      let m = child_with s.trees is.forest.distinct l k there inside off in
      let low = index_below s.trees s.next is.forest l m.0 m.1 in
      omega (arith, low, none))
]

-- ---- what steps of a deletion keep

-- the content is that of before, or of a br
abbrev pub Same : State → State → ℕ → Type 0
Same t u l = (content_of u.trees l ≡ content_of t.trees l) ⊎ (content_of u.trees l ≡ Some Br)

same_trans : (t u v : State) (l : ℕ) → Same t u l → Same u v l → Same t v l
same_trans t u v l (inl e) (inl k) = inl (k ∙ e)
same_trans t u v l (inr e) (inl k) = inr (k ∙ e)
same_trans t u v l p (inr k) = inr k

br_bears : (l : ℕ) → borne_by l Br ≡ []
unfolding borne_by
br_bears l = refl

-- what bore nothing bears nothing
same_bare : (t u : State) (l : ℕ) → Same t u l → IsBare t l → IsBare u l
same_bare t u l (inl e) bare c h = bare c (sym e ∙ h)
same_bare t u l (inr e) bare c h = let is : Br ≡ c = (let k : Some Br ≡ Some c = sym e ∙ h in cc) in subst (λ d. borne_by l d ≡ []) is (br_bears l)

same_plain : (t u : State) (l : ℕ) → Same t u l → is_thing_at t.trees l ≡ false → is_thing_at u.trees l ≡ false
same_plain t u l (inl e) plain = ap (λ o. option_map_or is_thing (option_and_then name_in o) false) e ∙ plain
same_plain t u l (inr e) plain = ap (λ o. option_map_or is_thing (option_and_then name_in o) false) e

points_made : (e : Edit) (s : State) → is_made_edit e s ≡ true → (edited e s).points ≡ points_after e s.trees s.points
unfolding edited changed with_change
points_made e s may = rw may refl

points_left : (e : Edit) (s : State) → is_made_edit e s ≡ false → (edited e s).points ≡ s.points
unfolding edited changed with_change
points_left e s off = rw off refl

module _ (s : State) (h : ℕ) (b : Began s h) (Q : ℕ → Type 0) where
  -- nodes of this kind stand in such nodes, and are no images and no rules
  pub record Chain (t : State) : Type 0 where
    pub closed : (l q : ℕ) → Q l → parent_of t.trees l ≡ Some q → Q q
    pub plain : (l : ℕ) → Q l → is_thing_at t.trees l ≡ false

  -- the ends of the selection stand at nodes that are near
  pub record Selected (t : State) : Type 0 where
    pub anchor : Point
    pub focus : Point
    pub selection : t.points.selection ≡ Some (record { anchor = anchor; focus = focus })
    pub near_anchor : Near s h false b anchor.label
    pub near_focus : Near s h false b focus.label

  pub record Onward (t u : State) : Type 0 where
    pub way : Underway s h false u
    pub order : KeepsOrderUpToBlanks t u
    pub contents : (l : ℕ) → Same t u l
    pub parents : (l q : ℕ) → parent_of u.trees l ≡ Some q → (parent_of t.trees l ≡ Some q) ⊎ Q q
    pub barren : (y : ℕ) → IsBarren t y → IsBarren u y
    pub selects : Selected t → Selected u

  pub onward_here : (t : State) → Underway s h false t → Onward t t
  onward_here t way = record { way = way; order = refl; contents = λ l. inl refl; parents = λ l q e. inl e; barren = λ y k. k; selects = λ k. k }

  onward_trans : (t u v : State) → Onward t u → Onward u v → Onward t v
  onward_trans t u v p q = record {
    way = q.way;
    order = q.order ∙ p.order;
    contents = λ l. same_trans t u v l (p.contents l) (q.contents l);
    parents = λ l k e. elim (q.parents l k e) [ inl before ↦ p.parents l k before | inr is ↦ inr is ];
    barren = λ y k. q.barren y (p.barren y k);
    selects = λ k. q.selects (p.selects k);
  }

  pub chain_on : (t u : State) → Onward t u → Chain t → Chain u
  chain_on t u k chain = record {
    closed = λ l q own e. elim (k.parents l q e) [ inl before ↦ chain.closed l q own before | inr is ↦ is ];
    plain = λ l own. same_plain t u l (k.contents l) (chain.plain l own);
  }

  -- ---- a removal

  module _ (t : State) (way : Underway s h false t) (n : ℕ) where
    is : IsValid t
    is = valid_way s h false b t way

    near_adjusted : (tree : List ℕ) (o i : ℕ) (x : Point) → Near s h false b o → Near s h false b x.label → Near s h false b (adjusted (range.Remove tree o i) x).label
    near_adjusted tree o i x near_o near = by (has_label tree x.label) (eqb x.label o)
      where
        by : (v w : Bool) → Near s h false b (if v then (record { label = o; offset = i }) else (if w then with_offset x (after_removal i x.offset) else x)).label
        by true w = near_o
        by false true = near
        by false false = near

    module _ (barren : IsBarren t n) where
      order_removed : KeepsOrder t (final (remove n) t)
      unfolding act edit
      order_removed = sparing_ordered (remove n) t (alike_edit (Remove n) tt) (order_preserving_remove n) is (tt, λ _. none_kept (tree_of t.trees n) (barren_leaves t is n barren))

      made_removed : is_made_edit (Remove n) t ≡ true → Onward t (edited (Remove n) t)
      unfolding is_made_edit trees_after points_after edited changed with_change
      made_removed may =
          let f = t.trees in
          let r = removes t n may in
          let once = is.forest.distinct in
          let trees : (edited (Remove n) t).trees ≡ unlink f n = trees_made (Remove n) t may in
          let same : (l : ℕ) → Same t (edited (Remove n) t) l = λ l. inl (ap (λ g. content_of g l) trees ∙ content_of-unlink f r.from n l once r.child) in
          record {
            way = subst (λ w. Underway s h false w) (final-edit (Remove n) t) (way_steady s h b (remove n) t (steady_edit (Remove n) tt) way);
            order = solid_order t (edited (Remove n) t) (subst (λ w. KeepsOrder t w) (final-edit (Remove n) t) order_removed);
            contents = same;
            parents = λ l q e. inl (unlinked_parent l q r.from r.child (ap (λ g. parent_of g l) (sym trees) ∙ e));
            barren = λ y k l inside. same_bare t (edited (Remove n) t) l (same l) (by_count y l k (subst (λ g. IsWithin g y l) trees inside));
            selects = λ k. record {
              anchor = adjusted (range.Remove (preorder (tree_of f n)) (parent_or_0 f n) (index_of f n)) k.anchor;
              focus = adjusted (range.Remove (preorder (tree_of f n)) (parent_or_0 f n) (index_of f n)) k.focus;
              selection = rw may (ap (option_map (adjusted_pair (range.Remove (preorder (tree_of f n)) (parent_or_0 f n) (index_of f n)))) k.selection);
              near_anchor = near_adjusted (preorder (tree_of f n)) (parent_or_0 f n) (index_of f n) k.anchor (near_from r.from r.child r.allowed) k.near_anchor;
              near_focus = near_adjusted (preorder (tree_of f n)) (parent_or_0 f n) (index_of f n) k.focus (near_from r.from r.child r.allowed) k.near_focus;
            };
          }
        where
          near_from : (o : ℕ) → parent_of t.trees n ≡ Some o → is_open t o ≡ true → Near s h false b (parent_or_0 t.trees n)
          near_from o child allowed = subst (Near s h false b) (sym (ap (λ (k : Option ℕ). unwrap_or k 0) child)) (open_near s h false b t way o allowed)

          unlinked_parent : (l q o : ℕ) → parent_of t.trees n ≡ Some o → parent_of (unlink t.trees n) l ≡ Some q → parent_of t.trees l ≡ Some q
          unlinked_parent l q o child e = elim (eqb_tells n l) [
            | inl (same, _) ↦ absurd (
                let t : None ≡ Some q = sym (loose same (seek None t.trees l)) ∙ (ap (option_and_then (λ (x : Seen Content). x.parent)) (sym (seek-unlink t.trees o n is.forest.distinct child l)) ∙ e) in
                cc)
            | inr (_, off) ↦ sym (parent-unlink_other t.trees o n l is.forest.distinct child off) ∙ e
          ]
            where
              loose : eqb n l ≡ true → (r : Option (Seen Content)) → option_and_then (λ (x : Seen Content). x.parent) (option_map (unlinked o n l) r) ≡ None
              loose same None = refl
              loose same (Some r) = rw same refl

          by_count : (y l : ℕ) → IsBarren t y → IsWithin (unlink t.trees n) y l → IsBare t l
          by_count y l k inside = elim (none_or_some (count_of (tree_of t.trees n) l)) [
            | inr own ↦ barren l own
            | inl off ↦ elim (none_or_some (count_of (tree_of t.trees y) l)) [
              | inr there ↦ k l there
              | inl away ↦ absurd (let none = away-unlink t.trees n y l is.forest.distinct off away in omega (arith, inside, none))
            ]
          ]

      pub onward_removed : Onward t (edited (Remove n) t)
      unfolding is_made_edit edited
      onward_removed = elim (cases_Bool (is_made_edit (Remove n) t)) [
        | inl may ↦ made_removed may
        | inr off ↦ subst (λ w. Onward t w) (let same : t ≡ edited (Remove n) t = rw off refl in same) (onward_here t way)
      ]

  -- ---- a new br

  module _ (t : State) (way : Underway s h false t) (p : ℕ) where
    is_t : IsValid t
    is_t = valid_way s h false b t way

    abbrev v : State
    v = made Br t

    is_v : IsValid (made Br t)
    is_v = br_valid t is_t

    appended : final (append_break p) t ≡ edited (Insert p None t.next) (made Br t)
    unfolding append_break make_break
    appended = rw (final-bind, final-make_element, value-make_element, final-bind, final-edit, final-answer) refl

    new_trees : (made Br t).trees ≡ with_leaf t.trees t.next Br
    unfolding made
    new_trees = refl

    new_same : (l : ℕ) → Same t (made Br t) l
    unfolding made
    new_same l = elim (eqb_tells t.next l) [
      | inl (_, same) ↦ inr (subst (λ k. content_of (with_leaf t.trees t.next Br) k ≡ Some Br) same (content_of-with_leaf_new t.trees t.next Br (fresh t.trees t.next is_t.forest)))
      | inr (_, off) ↦ inl (content_of-with_leaf_other t.trees t.next Br l (fresh t.trees t.next is_t.forest) off)
    ]

    new_parents : (l : ℕ) → parent_of (made Br t).trees l ≡ parent_of t.trees l
    unfolding made
    new_parents l = parent_of-with_leaf t.trees t.next Br (fresh t.trees t.next is_t.forest) l

    -- the br alone comes into a tree
    new_within : (y l : ℕ) → t.next ≢ l → IsWithin (made Br t).trees y l → IsWithin t.trees y l
    unfolding made
    new_within y l off inside = elim (none_or_some (count_of (tree_of t.trees y) l)) [
      | inr there ↦ there
      | inl away ↦ absurd (let none = away-with_leaf t.trees t.next Br y l (ne_eqb t.next l off) away in omega (arith, inside, none))
    ]

    put_same : (l : ℕ) → Same (made Br t) (edited (Insert p None t.next) (made Br t)) l
    unfolding is_made_edit trees_after
    put_same l = elim (cases_Bool (is_made_edit (Insert p None t.next) v)) [
      | inl may ↦ inl (ap (λ g. content_of g l) (trees_made (Insert p None t.next) v may) ∙ content_of-link v.trees p None t.next l is_v.forest.distinct (inserts v p None t.next may).can)
      | inr off ↦ inl (ap (λ g. content_of g l) (trees_left (Insert p None t.next) v off))
    ]

    put_parents : Q p → (l q : ℕ) → parent_of (edited (Insert p None t.next) (made Br t)).trees l ≡ Some q → (parent_of (made Br t).trees l ≡ Some q) ⊎ Q q
    unfolding is_made_edit trees_after
    put_parents own l q e = elim (cases_Bool (is_made_edit (Insert p None t.next) v)) [
      | inr off ↦ inl (ap (λ g. parent_of g l) (sym (trees_left (Insert p None t.next) v off)) ∙ e)
      | inl may ↦ (
          let can = (inserts v p None t.next may).can in
          let e' : parent_of (link v.trees p None t.next) l ≡ Some q = ap (λ g. parent_of g l) (sym (trees_made (Insert p None t.next) v may)) ∙ e in
          elim (eqb_tells t.next l) [
            | inl (same, _) ↦ inr (elim (there same (seek None v.trees l)) [
              | inl some ↦ subst Q (let k : Some p ≡ Some q = sym some ∙ (ap (option_and_then (λ (x : Seen Content). x.parent)) (sym (seek-link v.trees p None t.next is_v.forest.distinct can l)) ∙ e') in cc) own
              | inr none ↦ absurd (let k : None ≡ Some q = sym none ∙ (ap (option_and_then (λ (x : Seen Content). x.parent)) (sym (seek-link v.trees p None t.next is_v.forest.distinct can l)) ∙ e') in cc)
            ])
            | inr (_, off) ↦ inl (sym (parent-link_other v.trees p None t.next l is_v.forest.distinct can off) ∙ e')
          ])
    ]
      where
        there : eqb t.next l ≡ true → (r : Option (Seen Content)) → (option_and_then (λ (x : Seen Content). x.parent) (option_map (relinked p None t.next l) r) ≡ Some p) ⊎ (option_and_then (λ (x : Seen Content). x.parent) (option_map (relinked p None t.next l) r) ≡ None)
        there same None = inr refl
        there same (Some r) = inl (rw same refl)

    put_within : (y l : ℕ) → t.next ≢ l → IsWithin (edited (Insert p None t.next) (made Br t)).trees y l → IsWithin (made Br t).trees y l
    unfolding is_made_edit trees_after
    put_within y l off inside = elim (cases_Bool (is_made_edit (Insert p None t.next) v)) [
      | inr left ↦ subst (λ g. IsWithin g y l) (trees_left (Insert p None t.next) v left) inside
      | inl may ↦ elim (none_or_some (count_of (tree_of v.trees y) l)) [
        | inr there ↦ there
        | inl away ↦ absurd (
            let alone : count_of (tree_of v.trees t.next) l ≡ 0 = ap (λ g. count_of g l) (made_tree Br t is_t) ∙ (let n : eqb t.next l ≡ false = ne_eqb t.next l off in rw n refl) in
            let none = away-link v.trees p None t.next y l is_v.forest.distinct alone away in
            let there : IsWithin (link v.trees p None t.next) y l = subst (λ g. IsWithin g y l) (trees_made (Insert p None t.next) v may) inside in
            omega (arith, there, none))
      ]
    ]

    near_put : (i : ℕ) (x : Point) → Near s h false b x.label → Near s h false b (adjusted (range.Insert p i) x).label
    near_put i x near = by (eqb x.label p)
      where
        by : (o : Bool) → Near s h false b (if o then with_offset x (after_insert i x.offset) else x).label
        by true = near
        by false = near

    new_selection : (made Br t).points ≡ t.points
    unfolding made
    new_selection = refl

    put_selects : Selected t → Selected (edited (Insert p None t.next) (made Br t))
    unfolding points_after
    put_selects k = by (is_made_edit (Insert p None t.next) v) refl
      where
        by : (o : Bool) → is_made_edit (Insert p None t.next) v ≡ o → Selected (edited (Insert p None t.next) v)
        by true e = record {
          anchor = adjusted (range.Insert p (index_before v.trees p None)) k.anchor;
          focus = adjusted (range.Insert p (index_before v.trees p None)) k.focus;
          selection =
              ap (λ (o : LivePoints). o.selection) (points_made (Insert p None t.next) v e)
              ∙ ap (option_map (adjusted_pair (range.Insert p (index_before v.trees p None)))) (ap (λ (o : LivePoints). o.selection) new_selection ∙ k.selection);
          near_anchor = near_put (index_before v.trees p None) k.anchor k.near_anchor;
          near_focus = near_put (index_before v.trees p None) k.focus k.near_focus;
        }
        by false e = record {
          anchor = k.anchor;
          focus = k.focus;
          selection = ap (λ (o : LivePoints). o.selection) (points_left (Insert p None t.next) v e ∙ new_selection) ∙ k.selection;
          near_anchor = k.near_anchor;
          near_focus = k.near_focus;
        }

    pub onward_break : Q p → Onward t (final (append_break p) t)
    unfolding made
    onward_break own =
        let same : (l : ℕ) → Same t (edited (Insert p None t.next) (made Br t)) l = λ l. same_trans t v (edited (Insert p None t.next) v) l (new_same l) (put_same l) in
        record {
          way = way_steady s h b (append_break p) t (steady_append_break p) way;
          order = solid_order t (final (append_break p) t) (subst (λ z. KeepsOrder t z) (sym appended) (keeps_trans (made_order Br t is_t) (bare_insert p None t.next v is_v (br_bare t is_t))));
          contents = λ l. subst (λ z. Same t z l) (sym appended) (same l);
          parents = λ l q e. elim (put_parents own l q (subst (λ (z : State). parent_of z.trees l ≡ Some q) appended e)) [
            | inl before ↦ inl (sym (new_parents l) ∙ before)
            | inr is ↦ inr is
          ];
          barren = λ y k. subst (λ z. IsBarren z y) (sym appended) (λ l inside. elim (eqb_tells t.next l) [
            | inl (_, at) ↦ subst (IsBare (edited (Insert p None t.next) v)) at (new_bare_there)
            | inr (_, off) ↦ same_bare t (edited (Insert p None t.next) v) l (same l) (k l (new_within y l off (put_within y l off inside)))
          ]);
          selects = λ k. subst Selected (sym appended) (put_selects k);
        }
      where
        new_bare_there : IsBare (edited (Insert p None t.next) (made Br t)) t.next
        new_bare_there = same_bare v (edited (Insert p None t.next) v) t.next (put_same t.next) (λ c e. (
            let is : Br ≡ c = (let k : Some Br ≡ Some c = sym there ∙ e in cc) in
            subst (λ d. borne_by t.next d ≡ []) is (br_bears t.next)))
          where
            there : content_of (made Br t).trees t.next ≡ Some Br
            there = content_of-with_leaf_new t.trees t.next Br (fresh t.trees t.next is_t.forest)

  -- ---- what is removed, with the inline nodes around it that are left empty

  filled : (p : ℕ) → Q p → (t : State) → Underway s h false t → Ends (fill_hollow p) t (λ u _. Onward t u)
  unfolding fill_hollow
  filled p own t way = ends_look (λ u. if is_inside u p && is_hollow u.trees p then append_break p else done) t (λ u _. Onward t u) (by (is_inside t p && is_hollow t.trees p))
    where
      by : (o : Bool) → Ends (if o then append_break p else done) t (λ u _. Onward t u)
      by true = onward_break t way p own
      by false = ends_answer tt t (λ u _. Onward t u) (onward_here t way)

  abbrev Strips : State → State → Option ℕ → Type 0
  Strips t u o = Onward t u × IfSome o Q

  strip_turn : (t : State) → Chain t → (u : State) (o : Option ℕ) → Strips t u o → is_strippable u o ≡ true → Ends (removed_up o) u (λ v a. Strips t v a)
  strip_turn t chain u None k e = absurd (true≢false (sym e))
  strip_turn t chain u (Some p) k e =
      let here = chain_on t u k.0 chain in
      let is_u : IsValid u = valid_way s h false b u k.0.way in
      let none : length_of u.trees p ≡ 0 = same_number (length_of u.trees p) 0 (and_parts (not (is_block u.trees p)) (eqb (length_of u.trees p) 0) (and_parts (is_editable_for u p) (not (is_block u.trees p) && eqb (length_of u.trees p) 0) e).1).1 in
      let v = edited (Remove p) u in
      let on = onward_removed u k.0.way p (barren_empty u is_u p (here.plain p k.1) none) in
      ends_look (λ s. remove p >> answer (parent_of s.trees p)) u (λ v a. Strips t v a)
      (ends_bind (remove p) (λ _. answer (parent_of u.trees p)) u (λ v a. Strips t v a)
      (ends_edit (Remove p) u (λ w _. Ends (answer (parent_of u.trees p)) w (λ v a. Strips t v a))
      (ends_answer (parent_of u.trees p) v (λ v a. Strips t v a) (onward_trans t u v k.0 on, up (parent_of u.trees p) (λ q up. here.closed p q k.1 up)))))
    where
      up : (o : Option ℕ) → ((q : ℕ) → o ≡ Some q → Q q) → IfSome o Q
      up None h = tt
      up (Some q) h = h q refl

  stripped : (strip : Bool) (start p : ℕ) → Q p → (t : State) → Underway s h false t → Chain t → Ends (strip_from strip start p) t (λ u _. Onward t u)
  unfolding strip_from strip_empty
  stripped strip start p own t way chain =
      ends_look (λ u. if strip || not (is_within u.trees p start) then strip_empty p else done) t (λ u _. Onward t u) (by (strip || not (is_within t.trees p start)))
    where
      run : Run (Option ℕ)
      run = while_at_most (turn_bound t) is_strippable removed_up (Some p)

      all : Ends run t (λ u o. Strips t u o)
      all = ends_while (turn_bound t) is_strippable removed_up (λ u o. Strips t u o) (strip_turn t chain) (Some p) t (onward_here t way, own)

      by : (o : Bool) → Ends (if o then strip_empty p else done) t (λ u _. Onward t u)
      by false = ends_answer tt t (λ u _. Onward t u) (onward_here t way)
      by true =
          ends_look (λ u. while_at_most (turn_bound u) is_strippable removed_up (Some p) >> done) t (λ u _. Onward t u)
          (ends_bind run (λ _. done) t (λ u _. Onward t u) (ends_answer tt (final run t) (λ u _. Onward t u) all.0))

  node_removed : (strip : Bool) (start n : ℕ) (t : State) → Underway s h false t → Chain t → Q n → IsBarren t n → Ends (remove_node strip start n) t (λ u _. Onward t u)
  unfolding remove_node remove_under
  node_removed strip start n t way chain own barren =
      ends_look (λ u. given (parent_of u.trees n) done (remove_under strip start n)) t (λ u _. Onward t u) (by (parent_of t.trees n) refl)
    where
      t1 : State
      t1 = edited (Remove n) t

      by : (o : Option ℕ) → parent_of t.trees n ≡ o → Ends (given o done (remove_under strip start n)) t (λ u _. Onward t u)
      by None e = ends_answer tt t (λ u _. Onward t u) (onward_here t way)
      by (Some p) e =
          let own_p = chain.closed n p own e in
          let one = onward_removed t way n barren in
          let t2 = final (fill_hollow p) t1 in
          let two = filled p own_p t1 one.way in
          let both = onward_trans t t1 t2 one two in
          let three = stripped strip start p own_p t2 two.way (chain_on t t2 both chain) in
          ends_bind (remove n) (λ _. fill_hollow p >> strip_from strip start p) t (λ u _. Onward t u)
          (ends_edit (Remove n) t (λ w _. Ends (fill_hollow p >> strip_from strip start p) w (λ u _. Onward t u))
          (ends_bind (fill_hollow p) (λ _. strip_from strip start p) t1 (λ u _. Onward t u)
          (onward_trans t t2 (final (strip_from strip start p) t2) both three)))

  -- nodes of this kind whose trees bear nothing
  abbrev pub AllBarren : State → List ℕ → Type 0
  AllBarren t [] = Unit {0}
  AllBarren t (n ∷ list) = (Q n × IsBarren t n) × AllBarren t list

  barren_on : (t u : State) (list : List ℕ) → Onward t u → AllBarren t list → AllBarren u list
  barren_on t u [] k all = tt
  barren_on t u (n ∷ list) k all = ((all.0.0, k.barren n all.0.1), barren_on t u list k all.1)

  pub all_removed : (strip : Bool) (start : ℕ) (list : List ℕ) (t : State) → Underway s h false t → Chain t → AllBarren t list → Ends (for_each list (remove_node strip start)) t (λ u _. Onward t u)
  unfolding for_each
  all_removed strip start [] t way chain all = ends_answer tt t (λ u _. Onward t u) (onward_here t way)
  all_removed strip start (n ∷ list) t way chain all =
      let m = remove_node strip start n in
      let u = final m t in
      let one = node_removed strip start n t way chain all.0.0 all.0.1 in
      let rest = all_removed strip start list u one.way (chain_on t u one chain) (barren_on t u list one all.1) in
      ends_bind m (λ _. for_each list (remove_node strip start)) t (λ u _. Onward t u) (onward_trans t u (final (for_each list (remove_node strip start)) u) one rest)
