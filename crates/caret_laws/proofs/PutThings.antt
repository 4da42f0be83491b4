-- A new element is put at a caret of the host: it comes there, where nothing else is lost, and no other comes.
use Rattle.std.proofs.Common.{◌≡◌, ◌≢◌, ℕ, ◌+◌, ◌-◌, ◌<◌, ◌≤◌, Bool, true, false, ◌&&◌, not, if◌then◌else◌, cond, eqb, nat_lt, List, [], ◌∷◌, length, drop, Option, Some, None, IfSome, refl, sym, ap, subst, ◌∙◌, inl, inr, arith, true≢false}
use Rattle.std.specs.Option.{option_map_or, option_and_then}
use Rattle.std.proofs.lemmas.Bool.{and_parts, cases_Bool, lt-ltb, ne_eqb, eq-eqb}
use Rattle.edit_model.specs.DomModel.declared.Content.{Content}
use Rattle.edit_model.specs.DomModel.declared.Content.TheVariants.{Words}
use Rattle.edit_model.specs.DomModel.declared.attributes.Attribute.{Attribute}
use Rattle.edit_model.specs.DomModel.Contents.{has_chars_at, length_of}
use Rattle.edit_model.specs.DomModel.Editing.{is_host}
use Rattle.edit_model.specs.DomModel.Forest.{Forest, Seen, count_of, tree_of, parent_of, next_of, content_of, link, put_under, CanPut, IsWithin}
use Rattle.edit_model.specs.DomModel.Forest.Forest.{Nil, Tree}
use Rattle.edit_model.specs.DomModel.Places.{index_of}
use Rattle.edit_model.proofs.DomModel.Kept.{content_of-link}
use Rattle.edit_model.proofs.DomModel.Links.{parent_of-with_leaf}
use Rattle.edit_model.proofs.DomModel.Revising.{parent_of-revised}
use Rattle.edit_model.proofs.DomModel.Stands.{seek_absent}
use Rattle.edit_model.proofs.DomModel.Totals.{total-without}
use Rattle.edit_model.proofs.DomModel.Within.{within_root}
use Rattle.edit_model.specs.LiveRange.declared.places.Point.{Point}
use Rattle.inline_value.specs.NodeTests.BlockPoints.{child_at}
use Rattle.inline_value.specs.NodeTests.CollapsedWhitespace.{is_words_content, is_words}
use Rattle.edit_model.specs.State.{State}
use Rattle.edit_model.specs.Compositions.{characters_of, points_sent, split_under, split_words}
use Rattle.edit_model.specs.Confined.{is_inside, is_open, is_place, may_insert, may_select}
use Rattle.edit_model.specs.Edit.{Insert, Replace, is_made_edit, trees_after, with_replaced, changed, edited}
use Rattle.edit_model.specs.Kept.{Leaf, Thing, borne_by, leaves}
use Rattle.edit_model.specs.Action as action
use Rattle.edit_model.specs.Action.{Action, made, words_content, with_selection, selected, grown, sent, acted}
use Rattle.edit_model.specs.Run.{◌>>=◌, ◌>>◌, final, value, answer, done, given, insert, replace, make_element, make_words, send, grow, collapse}
use Rattle.edit_model.specs.Valid.{IsValid, IsPlacedPair}
use Rattle.edit_model.proofs.Documents.{document-link}
use Rattle.edit_model.proofs.Forests.{fresh}
use Rattle.edit_model.proofs.IslandRuns.{trees_made, trees_left}
use Rattle.edit_model.proofs.OutsideRuns.{trees-grown, trees-sent}
use Rattle.edit_model.proofs.Points.{placed_is}
use Rattle.edit_model.proofs.Steps.{final-bind, value-bind, final-answer, value-answer, final-look, final-edit, value-make_element, final-perform}
use Rattle.edit_model.proofs.Tests.{inserts}
use Rattle.edit_model.proofs.ValidRuns.{valid_acted}
use Rattle.edit_laws.specs.Steady.{Steady}
use Rattle.edit_laws.proofs.StayingKinds.{kind_along}
use Rattle.edit_laws.proofs.SteadyRuns.{steady_perform, steady_split}
use Rattle.edit_laws.proofs.Leaves.{leaves-Nil, leaves-Tree}
use Rattle.delete_core.specs.Places.{at, before_node, after_node, before_in, after_in}
use Rattle.text_insertion.specs.Start.{insert_at, insert_at_start, cuts_text}
use Rattle.insert_objects.specs.Putting.{collapse_before, collapse_after, leave_text, put}
use Rattle.caret_laws.specs.SolidOrder.{solid_leaves, OneMore, AddsThing, KeepsOrderUpToBlanks, StandsAt}
use Rattle.caret_laws.proofs.Canonical.{Ends, ends_answer, ends_look, ends_bind, ends_edit, ends_perform, ends_words}
use Rattle.caret_laws.proofs.Fronts.{Newly, text_under}
use Rattle.caret_laws.proofs.InsideRuns.{Began, Underway, Near, open_near, near_inside, valid_way, host_way, hosted_way}
use Rattle.caret_laws.proofs.OneMores.{one_under, one_solid, one_same}
use Rattle.caret_laws.proofs.PutElements.{Fine, left, made_order, after_trees, before_trees, start_caret}
use Rattle.caret_laws.proofs.Solid.{solid_order}
use Rattle.caret_laws.proofs.SplitTexts.{remains_along, each_split, words_chars, text_kind, Lands, lands_up, text_child, here_lands}
use Rattle.caret_laws.proofs.StillRuns.{Good}
use Rattle.caret_laws.proofs.Trails.{index_is}
use Rattle.caret_laws.proofs.Trees.{parent-link_other, root_seen, inside_open}
use Rattle.caret_laws.proofs.Underways.{way_steady}

-- ---- a node without a parent stays so where a text is split

module _ (n : ℕ) where
  abbrev Loose : State → Type 0
  Loose t = parent_of t.trees n ≡ None

  loose_words : (chars : List ℕ) (u : State) → IsValid u → Loose u → Loose (made (words_content chars) u)
  unfolding made
  loose_words chars u is h = parent_of-with_leaf u.trees u.next (words_content chars) (fresh u.trees u.next is.forest) n ∙ h

  loose_insert : (q : ℕ) (b : Option ℕ) (x : ℕ) (u : State) → IsValid u → x ≢ n → Loose u → Loose (edited (Insert q b x) u)
  unfolding is_made_edit trees_after
  loose_insert q b x u is off h = elim (cases_Bool (is_made_edit (Insert q b x) u)) [
    | inl may ↦ subst (λ f. parent_of f n ≡ None) (sym (trees_made (Insert q b x) u may)) (parent-link_other u.trees q b x n is.forest.distinct (inserts u q b x may).can off ∙ h)
    | inr left_out ↦ subst (λ f. parent_of f n ≡ None) (sym (trees_left (Insert q b x) u left_out)) h
  ]

  loose_replace : (k o count : ℕ) (put : List ℕ) (u : State) → Loose u → Loose (edited (Replace k o count put) u)
  unfolding is_made_edit trees_after
  loose_replace k o count put u h = elim (cases_Bool (is_made_edit (Replace k o count put) u)) [
    | inl may ↦ subst (λ f. parent_of f n ≡ None) (sym (trees_made (Replace k o count put) u may)) (parent_of-revised k (with_replaced o count put) u.trees n ∙ h)
    | inr left_out ↦ subst (λ f. parent_of f n ≡ None) (sym (trees_left (Replace k o count put) u left_out)) h
  ]

  loose_sent : (q i k o tail : ℕ) (inserted : Bool) (u : State) → Loose u → Ends (points_sent q i k o tail inserted) u (λ t _. Loose t)
  unfolding points_sent acted
  loose_sent q i k o tail false u h = ends_answer tt u (λ t _. Loose t) h
  loose_sent q i k o tail true u h =
      let v = sent k o tail u in
      ends_bind (send k o tail) (λ _. grow (record { label = q; offset = i + 1 })) u (λ t _. Loose t)
      (ends_perform (action.Send k o tail) u (λ t _. Ends (grow (record { label = q; offset = i + 1 })) t (λ t _. Loose t))
      (ends_perform (action.Grow (record { label = q; offset = i + 1 })) v (λ t _. Loose t)
      (subst (λ f. parent_of f n ≡ None) (sym (trees-grown (record { label = q; offset = i + 1 }) v ∙ trees-sent k o tail u)) h)))

  loose_under : (q : ℕ) (s : State) (k o : ℕ) (u : State) → IsValid u → n < u.next → Loose u → Ends (split_under q s k o) u (λ t _. Loose t)
  unfolding split_under acted
  loose_under q s k o u is low h =
      let chars = drop o (characters_of s.trees k) in
      let u1 = made (words_content chars) u in
      let is1 : IsValid u1 = valid_acted (action.MakeWords chars) u is in
      let h1 = loose_words chars u is h in
      let b = next_of s.trees k in
      let u2 = edited (Insert q b u.next) u1 in
      let h2 = loose_insert q b u.next u1 is1 (λ e. omega (arith, low, e)) h1 in
      let v = is_made_edit (Insert q b u.next) u1 in
      let u3 = final (points_sent q (index_of s.trees k) k o u.next v) u2 in
      let h3 = loose_sent q (index_of s.trees k) k o u.next v u2 h2 in
      let count = length (characters_of s.trees k) - o in
      let u4 = edited (Replace k o count []) u3 in
      ends_bind (make_words chars) _ u (λ t _. Loose t)
      (ends_words chars u (λ t tail. Ends (insert q b tail >>= (λ inserted. points_sent q (index_of s.trees k) k o tail inserted >>= (λ _. replace k o count [] >>= (λ _. answer tail)))) t (λ t _. Loose t))
      (ends_bind (insert q b u.next) _ u1 (λ t _. Loose t)
      (ends_edit (Insert q b u.next) u1 (λ t inserted. Ends (points_sent q (index_of s.trees k) k o u.next inserted >>= (λ _. replace k o count [] >>= (λ _. answer u.next))) t (λ t _. Loose t))
      (ends_bind (points_sent q (index_of s.trees k) k o u.next v) _ u2 (λ t _. Loose t)
      (ends_bind (replace k o count []) _ u3 (λ t _. Loose t)
      (ends_edit (Replace k o count []) u3 (λ t _. Ends (answer u.next) t (λ t _. Loose t))
      (ends_answer u.next u4 (λ t _. Loose t) (loose_replace k o count [] u3 h3))))))))

  loose_split : (k o : ℕ) (u : State) → IsValid u → n < u.next → Loose u → Ends (split_words k o) u (λ t _. Loose t)
  unfolding split_words
  loose_split k o u is low h =
      ends_look (λ s. given (parent_of s.trees k) (answer k) λ q. split_under q s k o) u (λ t _. Loose t) (by (parent_of u.trees k))
    where
      by : (p : Option ℕ) → Ends (given p (answer k) λ q. split_under q u k o) u (λ t _. Loose t)
      by None = ends_answer k u (λ t _. Loose t) h
      by (Some q) = loose_under q u k o u is low h

-- a new node has no parent
pub loose_made : (c : Content) (u : State) → IsValid u → parent_of (made c u).trees u.next ≡ None
unfolding made
loose_made c u is = parent_of-with_leaf u.trees u.next c (fresh u.trees u.next is.forest) u.next ∙ ap (option_and_then (λ (y : Seen Content). y.parent)) (seek_absent None u.trees u.next (fresh u.trees u.next is.forest))

-- ---- the caret when the text is left

module _ (s : State) (h : ℕ) (b : Began s h) where
  pub record Landed (t : State) : Type 0 where
    pub way : Underway s h false t
    pub place : Point
    pub caret : StandsAt t place
    pub good : Good s h false b t place.label
    pub inside : IsWithin t.trees 0 place.label

  -- a caret at a node of the document that is near
  pub record Nearby (t : State) (p : Point) : Type 0 where
    pub way : Underway s h false t
    pub inside : IsWithin t.trees 0 p.label
    pub near : Near s h false b p.label
    pub fits : has_chars_at t.trees p.label ≡ false → p.offset ≤ length_of t.trees p.label

  pub nearby_caret : (t : State) (p : Point) → Underway s h false t → StandsAt t p → is_inside t p.label ≡ true → Nearby t p
  nearby_caret t p way caret held =
      let is = valid_way s h false b t way in
      let placed : IfSome (Some (record { anchor = p; focus = p })) (IsPlacedPair t.trees) = subst (λ o. IfSome o (IsPlacedPair t.trees)) caret is.placed.selection in
      let here = placed_is t.trees p placed.anchor in
      record { way = way; inside = here.inside; near = open_near s h false b t way p.label (inside_open t p.label held); fits = λ _. here.fits }

  module _ (t : State) (p : Point) (k : Nearby t p) where
    pub to_landed : (x : Point) → Lands s h b t k.way p k.inside k.near k.fits x → Landed (final (collapse x) t)
    unfolding acted selected may_select changed
    to_landed x lands =
        let select : final (collapse x) t ≡ with_selection (Some (record { anchor = x; focus = x })) t = final-perform (action.Select x x) t ∙ rw lands.placed refl in
        let good : Good s h false b t x.label = lands.good in
        record {
          way = way_steady s h b (collapse x) t (steady_perform (action.Select x x) tt) k.way;
          place = x;
          caret = ap (λ (u : State). u.points.selection) select;
          good = subst (λ u. Good s h false b u x.label) (sym select) (record { near = good.near; parent = good.parent });
          inside = subst (λ (u : State). IsWithin u.trees 0 x.label) (sym select) (placed_is t.trees x lands.placed).inside;
        }

    after_landed : has_chars_at t.trees p.label ≡ true → Landed (final (collapse_after p.label) t)
    unfolding collapse_after after_node
    after_landed chars =
        let q = text_child s h b t k.way p k.inside k.near k.fits chars in
        let x = at q.0 (index_of t.trees p.label + 1) in
        subst Landed (sym (final-look _ t ∙ ap (λ o. final (given (after_in t.trees p.label o) done collapse) t) q.1))
        (to_landed x (lands_up s h b t k.way p k.inside k.near k.fits q.0 (index_of t.trees p.label + 1) chars q.1 (omega arith)))

    before_landed : has_chars_at t.trees p.label ≡ true → Landed (final (collapse_before p.label) t)
    unfolding collapse_before before_node
    before_landed chars =
        let q = text_child s h b t k.way p k.inside k.near k.fits chars in
        let x = at q.0 (index_of t.trees p.label) in
        subst Landed (sym (final-look _ t ∙ ap (λ o. final (given (before_in t.trees p.label o) done collapse) t) q.1))
        (to_landed x (lands_up s h b t k.way p k.inside k.near k.fits q.0 (index_of t.trees p.label) chars q.1 (omega arith)))

    pub here_landed : StandsAt t p → has_chars_at t.trees p.label ≡ false → Landed t
    here_landed caret none = record { way = k.way; place = p; caret = caret; good = (here_lands s h b t k.way p k.inside k.near k.fits none).good; inside = k.inside }

    -- after the text is split
    abbrev split : State
    split = final (split_words p.label p.offset) t

    pub split_nearby : has_chars_at t.trees p.label ≡ true → Nearby split p × (has_chars_at split.trees p.label ≡ true)
    unfolding final
    split_nearby chars =
        let is = valid_way s h false b t k.way in
        let low = is.forest.below p.label (let i = k.inside in omega (arith, i, total-without (λ m _. cond (eqb m p.label) 1 0) t.trees 0)) in
        let r = (split_words p.label p.offset).by_actions t in
        let still : has_chars_at split.trees p.label ≡ true = text_kind t.trees split.trees p.label (kind_along p.label r is low) chars in (
          record {
            way = way_steady s h b (split_words p.label p.offset) t (steady_split p.label p.offset) k.way;
            inside = remains_along r p.label is ((each_split p.label p.offset).on t is) k.inside;
            near = k.near;
            fits = λ none. absurd (true≢false (sym still ∙ none));
          },
          still,
        )

    pub cut_words : cuts_text t.trees p ≡ true → has_chars_at t.trees p.label ≡ true
    unfolding cuts_text is_words
    cut_words e = words_chars (content_of t.trees p.label) (and_parts (option_map_or is_words_content (content_of t.trees p.label) false) _ e).0

  -- so the caret lands where a node may be put
  pub text_left : (t : State) (p : Point) → Nearby t p → StandsAt t p → Landed (final leave_text t)
  unfolding leave_text
  text_left t p k caret =
      subst Landed (sym (final-look _ t ∙ rw (start_caret t p caret) refl)) (by (cuts_text t.trees p) refl (has_chars_at t.trees p.label) refl (eqb p.offset (length_of t.trees p.label) && not (eqb p.offset 0)))
    where
      by : (v : Bool) → cuts_text t.trees p ≡ v → (w : Bool) → has_chars_at t.trees p.label ≡ w → (x : Bool)
          → Landed (final (if v then (split_words p.label p.offset >> collapse_after p.label) else (if not w then done else (if x then collapse_after p.label else collapse_before p.label))) t)
      by true e w c x =
          let r = split_nearby t p k (cut_words t p k e) in
          subst Landed (sym (final-bind (split_words p.label p.offset) (λ _. collapse_after p.label) t)) (after_landed (split t p k) p r.0 r.1)
      by false e false c x = subst Landed (sym (final-answer tt t)) (here_landed t p k caret c)
      by false e true c true = after_landed t p k c
      by false e true c false = before_landed t p k c

  -- ---- and it is put there

  module _ (n : ℕ) (c : Content) (leaf : Leaf) (bears : borne_by n c ≡ leaf ∷ []) (positive : 0 < n) where
    abbrev pub Sole : Forest Content
    Sole = Tree n c Nil Nil

    sole_leaves : leaves Sole ≡ leaf ∷ []
    sole_leaves = leaves-Tree n c Nil Nil ∙ rw (bears, leaves-Nil) refl

    module _ (t : State) (k : Landed t) (tree : tree_of t.trees n ≡ Sole) (there : 0 < count_of t.trees n) (loose : parent_of t.trees n ≡ None) where
      is : IsValid t
      is = valid_way s h false b t k.way

      x : Point
      x = k.place

      o : Option ℕ
      unfolding x
      o = child_at t.trees x.label x.offset

      off : n ≢ k.place.label
      off e = within_root t.trees 0 is.forest.distinct is.forest.document n (λ z. omega (arith, z, positive)) loose (subst (λ l. IsWithin t.trees 0 l) (sym e) k.inside)

      placed : (p : Option ℕ) → child_at t.trees k.place.label k.place.offset ≡ p → is_place t.trees k.place.label p n ≡ true
      placed None e = refl
      placed (Some m) e =
          let child = (index_is t.trees is.forest.distinct k.place.label m k.place.offset e).0 in
          let other : m ≢ n = λ same. (let u : None ≡ Some k.place.label = sym loose ∙ (ap (parent_of t.trees) (sym same) ∙ child) in cc) in
          rw (child, eq-eqb k.place.label k.place.label refl, ne_eqb m n other) refl

      outside : nat_lt 0 (count_of (tree_of t.trees n) k.place.label) ≡ false
      outside = ap (λ g. nat_lt 0 (count_of g k.place.label)) tree ∙ (let u : eqb n k.place.label ≡ false = ne_eqb n k.place.label off in rw u refl)

      allowed : is_open t k.place.label ≡ true
      allowed = inside_open t k.place.label (near_inside s h false b t k.way k.place.label k.good.near k.inside)

      may : is_made_edit (Insert k.place.label (child_at t.trees k.place.label k.place.offset) n) t ≡ true
      unfolding is_made_edit may_insert
      may =
          rw (lt-ltb 0 (count_of t.trees n) there, ne_eqb n 0 (λ z. omega (arith, z, positive)), loose, k.good.parent, outside, placed (child_at t.trees k.place.label k.place.offset) refl, allowed) refl

      abbrev pub then_state : State
      then_state = edited (Insert k.place.label (child_at t.trees k.place.label k.place.offset) n) t

      linked : then_state.trees ≡ link t.trees k.place.label (child_at t.trees k.place.label k.place.offset) n
      unfolding trees_after
      linked = trees_made (Insert k.place.label (child_at t.trees k.place.label k.place.offset) n) t may

      can : CanPut t.trees k.place.label (child_at t.trees k.place.label k.place.offset) n
      unfolding is_made_edit
      can = (inserts t k.place.label (child_at t.trees k.place.label k.place.offset) n may).can

      once_there : count_of (tree_of t.trees 0) k.place.label ≡ 1
      once_there = (let i = k.inside in let one = is.forest.distinct k.place.label in omega (arith, i, one, total-without (λ m _. cond (eqb m k.place.label) 1 0) t.trees 0))

      pub grows : OneMore leaf (leaves (tree_of t.trees 0)) (leaves (tree_of then_state.trees 0))
      grows =
          let put_in = document-link t.trees t.next is.forest k.place.label (child_at t.trees k.place.label k.place.offset) n can in
          let now : tree_of then_state.trees 0 ≡ put_under (tree_of t.trees 0) k.place.label (child_at t.trees k.place.label k.place.offset) Sole =
          ap (λ f. tree_of f 0) linked ∙ (put_in ∙ ap (λ g. put_under (tree_of t.trees 0) k.place.label (child_at t.trees k.place.label k.place.offset) g) tree) in
          subst (λ g. OneMore leaf (leaves (tree_of t.trees 0)) (leaves g)) (sym now) (one_under leaf Sole sole_leaves (tree_of t.trees 0) k.place.label (child_at t.trees k.place.label k.place.offset) once_there)

      -- where it is a text
      pub newly_there : (chars : List ℕ) → c ≡ Words chars → Newly (tree_of t.trees 0) (tree_of then_state.trees 0) n chars
      newly_there chars words =
          let put_in = document-link t.trees t.next is.forest k.place.label (child_at t.trees k.place.label k.place.offset) n can in
          let now : tree_of then_state.trees 0 ≡ put_under (tree_of t.trees 0) k.place.label (child_at t.trees k.place.label k.place.offset) (Tree n (Words chars) Nil Nil) =
          ap (λ f. tree_of f 0) linked ∙ (put_in ∙ ap (λ g. put_under (tree_of t.trees 0) k.place.label (child_at t.trees k.place.label k.place.offset) g) (tree ∙ ap (λ d. Tree n d Nil Nil) words)) in
          subst (λ g. Newly (tree_of t.trees 0) g n chars) (sym now) (text_under n chars (tree_of t.trees 0) k.place.label (child_at t.trees k.place.label k.place.offset) once_there)

      pub contents : (l : ℕ) → content_of then_state.trees l ≡ content_of t.trees l
      contents l = ap (λ f. content_of f l) linked ∙ content_of-link t.trees k.place.label (child_at t.trees k.place.label k.place.offset) n l is.forest.distinct can

      pub stands : content_of then_state.trees n ≡ Some c
      stands = contents n ∙ (root_seen t.trees n c Nil is.forest.distinct tree).0

      pub insert_is : final (insert_at_start n) t ≡ then_state
      unfolding insert_at_start insert_at
      insert_is = final-look _ t ∙ (ap (λ p. final (given p done (insert_at n)) t) (start_caret t k.place k.caret) ∙ rw (final-look, final-bind, final-edit, final-answer) refl)

  -- ---- the whole

  module _ (name : List ℕ) (attributes : List Attribute) (c : Content) (made_is : (u : State) → final (make_element name attributes) u ≡ made c u) (steady : Steady (make_element name attributes)) (thing : (n : ℕ) → borne_by n c ≡ Thing n ∷ [])
      (u : State) (way : Underway s h false u) (p : Point) (caret : StandsAt u p) (held : is_inside u p.label ≡ true) where
    is_u : IsValid u
    is_u = valid_way s h false b u way

    way_made : Underway s h false (made c u)
    way_made = subst (λ t. Underway s h false t) (made_is u) (way_steady s h b (make_element name attributes) u steady way)

    is_made : IsValid (made c u)
    is_made = valid_way s h false b (made c u) way_made

    caret_made : StandsAt (made c u) p
    unfolding made
    caret_made = caret

    nearby : Nearby (made c u) p
    unfolding made
    nearby =
        let k = nearby_caret u p way caret held in
        let placed : IfSome (Some (record { anchor = p; focus = p })) (IsPlacedPair (made c u).trees) = subst (λ o. IfSome o (IsPlacedPair (made c u).trees)) caret_made is_made.placed.selection in
        let here = placed_is (made c u).trees p placed.anchor in
        record { way = way_made; inside = here.inside; near = k.near; fits = λ _. here.fits }

    abbrev left_state : State
    left_state = final leave_text (made c u)

    landed : Landed left_state
    landed = text_left (made c u) p nearby caret_made

    hosted : (k : ℕ) → u.host ≡ Some k → is_host u.trees k ≡ true
    hosted k e =
        let same : h ≡ k = (let q : Some h ≡ Some k = sym (host_way s h false b u way) ∙ e in cc) in
        subst (λ l. is_host u.trees l ≡ true) same (hosted_way s h false b u way)

    fine : Fine c u is_u is_made p caret hosted held left_state
    fine = left c u is_u is_made p caret hosted held

    loose_left : parent_of left_state.trees u.next ≡ None
    unfolding leave_text made
    loose_left =
        let v = made c u in
        let shape : final leave_text v ≡ final (if cuts_text v.trees p then (split_words p.label p.offset >> collapse_after p.label) else (if not (has_chars_at v.trees p.label) then done else (if (eqb p.offset (length_of v.trees p.label) && not (eqb p.offset 0)) then collapse_after p.label else collapse_before p.label))) v =
        final-look _ v ∙ rw (start_caret v p caret_made) refl in
        subst (λ (t : State). parent_of t.trees u.next ≡ None) (sym shape)
        (by (cuts_text (made c u).trees p) (has_chars_at (made c u).trees p.label) (eqb p.offset (length_of (made c u).trees p.label) && not (eqb p.offset 0)))
      where
        by : (v w x : Bool) → parent_of (final (if v then (split_words p.label p.offset >> collapse_after p.label) else (if not w then done else (if x then collapse_after p.label else collapse_before p.label))) (made c u)).trees u.next ≡ None
        by true w x =
            let k = loose_split u.next p.label p.offset (made c u) is_made (omega arith) (loose_made c u is_u) in
            let t = final (split_words p.label p.offset) (made c u) in
            subst (λ (r : State). parent_of r.trees u.next ≡ None) (sym (final-bind (split_words p.label p.offset) (λ _. collapse_after p.label) (made c u)))
            (ap (λ f. parent_of f u.next) (after_trees p.label t) ∙ k)
        by false false x = subst (λ (r : State). parent_of r.trees u.next ≡ None) (sym (final-answer tt (made c u))) (loose_made c u is_u)
        by false true true = ap (λ f. parent_of f u.next) (after_trees p.label (made c u)) ∙ loose_made c u is_u
        by false true false = ap (λ f. parent_of f u.next) (before_trees p.label (made c u)) ∙ loose_made c u is_u

    positive : 0 < u.next
    positive = is_u.forest.below 0 is_u.forest.document

    put_is : final (put name attributes) u ≡ final (insert_at_start u.next) left_state
    unfolding put made
    put_is = rw (final-bind, final-bind, final-bind, final-answer, made_is, value-make_element) refl

    pub put_label : value (put name attributes) u ≡ u.next
    unfolding put
    put_label = rw (value-bind, value-make_element, value-bind, value-bind, value-answer) refl

    inserted : final (put name attributes) u ≡ then_state u.next c (Thing u.next) (thing u.next) positive left_state landed fine.has.0 fine.has.1 loose_left
    inserted = put_is ∙ insert_is u.next c (Thing u.next) (thing u.next) positive left_state landed fine.has.0 fine.has.1 loose_left

    kept_before : KeepsOrderUpToBlanks u left_state
    kept_before = solid_order (made c u) left_state fine.order ∙ solid_order u (made c u) (made_order c u is_u)

    pub put_adds : AddsThing u.next u (final (put name attributes) u)
    unfolding solid_leaves
    put_adds =
        let more = grows u.next c (Thing u.next) (thing u.next) positive left_state landed fine.has.0 fine.has.1 loose_left in
        let t = then_state u.next c (Thing u.next) (thing u.next) positive left_state landed fine.has.0 fine.has.1 loose_left in
        subst (λ v. AddsThing u.next u v) (sym inserted)
        (one_same (Thing u.next) (solid_leaves (tree_of left_state.trees 0)) (solid_leaves (tree_of u.trees 0)) (solid_leaves (tree_of t.trees 0)) (solid_leaves (tree_of t.trees 0)) kept_before refl
        (one_solid (Thing u.next) refl (leaves (tree_of left_state.trees 0)) (leaves (tree_of t.trees 0)) more))

    pub put_stands : content_of (final (put name attributes) u).trees u.next ≡ Some c
    put_stands = ap (λ (t : State). content_of t.trees u.next) inserted ∙ stands u.next c (Thing u.next) (thing u.next) positive left_state landed fine.has.0 fine.has.1 loose_left
