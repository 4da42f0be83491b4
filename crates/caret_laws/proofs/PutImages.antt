-- Inserting an image at a caret: what is erased is blanks, a br that is all that a block has may go, and an img comes.
use Rattle.std.proofs.Common.{◌≡◌, ℕ, ◌<◌, Bool, true, false, ◌||◌, ◌&&◌, not, if◌then◌else◌, eqb, bytes_eq, List, [], ◌∷◌, Option, Some, None, is_none, refl, sym, ap, subst, ◌∙◌, inl, inr, arith, true≢false}
use Rattle.std.specs.Prelude.{codes}
use Rattle.std.specs.List.{filter}
use Rattle.std.specs.Option.{option_map, option_map_or, option_and_then}
use Rattle.std.proofs.lemmas.Bool.{and_parts, cases_Bool, le-ltb}
use Rattle.std.proofs.lemmas.Slice.Eq.{bytes_eq-Decides}
use Rattle.edit_model.specs.DomModel.declared.Content.{Content}
use Rattle.edit_model.specs.DomModel.declared.Content.TheVariants.{Document, Element, Words, Remark}
use Rattle.edit_model.specs.DomModel.Contents.{name_in, is_break}
use Rattle.edit_model.specs.DomModel.Forest.{Forest, tops, count_of, tree_of, parent_of, children_of, first_of, next_of, content_of, unlink, preorder, IsWithin}
use Rattle.edit_model.specs.DomModel.Forest.Forest.{Nil, Tree}
use Rattle.edit_model.specs.DomModel.Places.{index_of}
use Rattle.edit_model.proofs.DomModel.Links.{tree_is, parent_count}
use Rattle.edit_model.proofs.DomModel.Move.{parent_apart}
use Rattle.edit_model.proofs.DomModel.Neighbours.{parent_of-first}
use Rattle.edit_model.specs.LiveRange.declared.places.Point.{Point}
use Rattle.edit_model.specs.LiveRange.PointsEdit as range
use Rattle.edit_model.specs.LiveRange.PointsEdit.{adjusted, adjusted_pair, with_offset, after_removal, has_label}
use Rattle.inline_value.specs.NodeStyles.Blocks.{is_block}
use Rattle.edit_model.specs.State.{State}
use Rattle.edit_model.specs.Confined.{is_editable_for, is_inside, is_made, is_open, is_own, may_leave, may_remove}
use Rattle.edit_model.specs.Edit.{Remove, is_made_edit, trees_after, points_after, parent_or_0, edited}
use Rattle.edit_model.specs.History.{begun}
use Rattle.edit_model.specs.Kept.{Thing, borne_by, leaves, is_kept, kept_leaves, is_empty, has_no_kept_leaves}
use Rattle.edit_model.specs.Action.{made}
use Rattle.edit_model.specs.Run.{here, ◌>>=◌, ◌>>◌, final, value, answer, done, given, remove, make_element}
use Rattle.edit_model.specs.Valid.{IsValid}
use Rattle.edit_model.proofs.Documents.{within-unlink}
use Rattle.edit_model.proofs.IslandRuns.{trees_made, trees_left}
use Rattle.edit_model.proofs.Points.{has_label-preorder}
use Rattle.edit_model.proofs.Steps.{final-bind, final-answer, final-look, final-edit, final-make_element}
use Rattle.edit_model.proofs.Trees.{none_or_some}
use Rattle.edit_laws.specs.Order.{KeepsLeaves, KeepsOrder}
use Rattle.edit_laws.specs.Steady.{Steady}
use Rattle.edit_laws.proofs.Leaves.{leaves-Nil, leaves-Tree}
use Rattle.edit_laws.proofs.QuietActions.{remove_keeps}
use Rattle.edit_laws.proofs.Renaming.{plain_borne}
use Rattle.edit_laws.proofs.SteadyRuns.{steady_parts, steady_make_element}
use Rattle.command_laws.proofs.DeleteRuns.{steady_erase}
use Rattle.delete_core.specs.declared.deletion.TheConstants.Manner.{KEEP_WRAPPERS}
use Rattle.text_insertion.specs.Start.{if_point_inside, start_inside, erase}
use Rattle.insert_objects.specs.Image.{drop_lone_break, source, put_image, show_image, insert_source, insert_image}
use Rattle.insert_objects.specs.Putting.{from_start_inside, collapse_after, put}
use Rattle.caret_laws.specs.SolidOrder.{solid_leaves, AddsThing, KeepsOrderUpToBlanks, StandsAt, HasRoom, BreaksAreEmpty}
use Rattle.caret_laws.proofs.BlindRuns.{kept}
use Rattle.caret_laws.proofs.Blanks.{caret_then, points_made, edit_left}
use Rattle.caret_laws.proofs.Canonical.{same_number}
use Rattle.caret_laws.proofs.CaretErasing.{erased}
use Rattle.caret_laws.proofs.InsideRuns.{Began, Underway, Near, near_inside, valid_way}
use Rattle.caret_laws.proofs.OneMores.{one_same}
use Rattle.caret_laws.proofs.PutElements.{after_trees, start_caret, is_kept_state}
use Rattle.caret_laws.proofs.PutThings.{nearby_caret, put_adds, put_stands}
use Rattle.caret_laws.proofs.Solid.{solid_order}
use Rattle.caret_laws.proofs.Trees.{root_seen}
use Rattle.caret_laws.proofs.Underways.{way_steady}

-- ---- a node that bears nothing goes

or_true : (v : Bool) → (v || true) ≡ true
or_true true = refl
or_true false = refl

module _ (k : ℕ) (t : State) (none : has_no_kept_leaves (tree_of t.trees k) ≡ true) where
  leave_same : (o : Option ℕ) → may_leave (kept t) k o ≡ may_leave t k o
  unfolding is_open is_inside is_editable_for is_made is_own
  leave_same None = refl
  leave_same (Some o) = rw (none, or_true (not t.keeping)) refl

  made_same : is_made_edit (Remove k) (kept t) ≡ is_made_edit (Remove k) t
  unfolding is_made_edit may_remove
  made_same = leave_same (parent_of t.trees k)

  trees_same : (edited (Remove k) (kept t)).trees ≡ (edited (Remove k) t).trees
  trees_same = elim (cases_Bool (is_made_edit (Remove k) t)) [
    | inl may ↦ trees_made (Remove k) (kept t) (made_same ∙ may) ∙ sym (trees_made (Remove k) t may)
    | inr off ↦ trees_left (Remove k) (kept t) (made_same ∙ off) ∙ sym (trees_left (Remove k) t off)
  ]

  pub bare_remove : IsValid t → KeepsOrder t (edited (Remove k) t)
  bare_remove is = subst (λ g. KeepsLeaves (tree_of t.trees 0) (tree_of g 0)) trees_same (remove_keeps k (kept t) (is_kept_state t is))

-- a br without children bears nothing
no_leaves : (f : Forest Content) → leaves f ≡ [] → has_no_kept_leaves f ≡ true
unfolding has_no_kept_leaves kept_leaves
no_leaves f e = ap (λ l. is_empty (filter is_kept l)) e

break_borne : (k : ℕ) (c : Content) → option_map_or (λ own. bytes_eq own (codes "br")) (name_in c) false ≡ true → borne_by k c ≡ []
unfolding borne_by
break_borne k Document e = refl
break_borne k (Words chars) e = absurd (true≢false (sym e))
break_borne k (Remark chars) e = refl
break_borne k (Element name list) e =
    let is : name ≡ codes "br" = (bytes_eq-Decides name (codes "br")).0 e in
    subst (λ w. borne_by k (Element w list) ≡ []) (sym is) (plain_borne k (codes "br") list refl)

no_tops : (f : Forest Content) → tops f ≡ [] → f ≡ Nil
no_tops Nil e = refl
no_tops (Tree m c ks rest) e = absurd (let e' = e in cc)

pub break_bare : (t : State) (k : ℕ) → IsValid t → 0 < count_of t.trees k → is_break t.trees k ≡ true → children_of t.trees k ≡ [] → has_no_kept_leaves (tree_of t.trees k) ≡ true
break_bare t k is there br none =
    let tree = tree_is t.trees k (let one = is.forest.distinct k in omega (arith, one, there)) in
    let seen = root_seen t.trees k tree.0 tree.1 is.forest.distinct tree.2 in
    let kids : tree.1 ≡ Nil = no_tops tree.1 (sym seen.1 ∙ none) in
    let named : option_map_or (λ own. bytes_eq own (codes "br")) (name_in tree.0) false ≡ true = ap (λ o. option_map_or (λ own. bytes_eq own (codes "br")) (option_and_then name_in o) false) (sym seen.0) ∙ br in
    no_leaves (tree_of t.trees k)
    (ap leaves (tree.2 ∙ ap (λ ks. Tree k tree.0 ks Nil) kids)
    ∙ (leaves-Tree k tree.0 Nil Nil ∙ rw (break_borne k tree.0 named, leaves-Nil) refl))

module _ (s : State) (h : ℕ) (b : Began s h) where
  -- a caret of the host, where a run has ended that keeps the order
  pub record Rests (t u : State) (p : Point) : Type 0 where
    pub way : Underway s h false u
    pub order : KeepsOrderUpToBlanks t u
    pub caret : StandsAt u p
    pub held : is_inside u p.label ≡ true

  module _ (t : State) (way : Underway s h false t) (p : Point) (caret : StandsAt t p) (held : is_inside t p.label ≡ true) where
    is : IsValid t
    is = valid_way s h false b t way

    rests_here : Rests t t p
    rests_here = record { way = way; order = refl; caret = caret; held = held }

    steady_removal : (k : ℕ) → Steady (remove k)
    steady_removal k = search steady_parts

    -- the first child of the caret's node, where the caret is at its start
    module _ (k : ℕ) (first : first_of t.trees p.label ≡ Some k) (start : p.offset ≡ 0) (none : has_no_kept_leaves (tree_of t.trees k) ≡ true) where
      child : parent_of t.trees k ≡ Some p.label
      child = parent_of-first t.trees is.forest.distinct p.label k first

      apart : count_of (tree_of t.trees k) p.label ≡ 0
      apart = elim (none_or_some (count_of (tree_of t.trees k) p.label)) [
        | inl e ↦ e
        | inr e ↦ absurd (parent_apart t.trees k p.label is.forest.distinct child e)
      ]

      stays : adjusted (range.Remove (preorder (tree_of t.trees k)) (parent_or_0 t.trees k) (index_of t.trees k)) p ≡ p
      stays =
          let listed : has_label (preorder (tree_of t.trees k)) p.label ≡ false = has_label-preorder (tree_of t.trees k) p.label ∙ le-ltb 0 (count_of (tree_of t.trees k) p.label) (omega (arith, apart)) in
          rw listed (by (eqb p.label (parent_or_0 t.trees k)))
        where
          at_start : after_removal (index_of t.trees k) p.offset ≡ p.offset
          at_start = subst (λ o. after_removal (index_of t.trees k) o ≡ o) (sym start) (let low = le-ltb (index_of t.trees k) 0 (omega arith) in rw low refl)

          by : (v : Bool) → (if v then with_offset p (after_removal (index_of t.trees k) p.offset) else p) ≡ p
          by true = ap (with_offset p) at_start
          by false = refl

      removed : Rests t (edited (Remove k) t) p
      unfolding trees_after points_after
      removed = elim (cases_Bool (is_made_edit (Remove k) t)) [
        | inr off ↦ subst (λ u. Rests t u p) (sym (edit_left (Remove k) t off)) rests_here
        | inl may ↦ (
            let u = edited (Remove k) t in
            let way_u : Underway s h false u = subst (λ v. Underway s h false v) (final-edit (Remove k) t) (way_steady s h b (remove k) t (steady_removal k) way) in
            let near = nearby_caret s h b t p way caret held in
            let trees : u.trees ≡ unlink t.trees k = trees_made (Remove k) t may in
            let there : IsWithin u.trees 0 p.label = subst (λ f. IsWithin f 0 p.label) (sym trees) (within-unlink t.trees t.next is.forest p.label k p.label child apart near.inside) in
            record {
              way = way_u;
              order = solid_order t u (bare_remove k t none is);
              caret = ap (λ q. q.selection) (points_made (Remove k) t may) ∙ (ap (option_map (adjusted_pair (range.Remove (preorder (tree_of t.trees k)) (parent_or_0 t.trees k) (index_of t.trees k)))) caret ∙ ap (λ q. Some (record { anchor = q; focus = q })) stays);
              held = near_inside s h false b u way_u p.label near.near there;
            })
      ]

    dropped : ((l : ℕ) → is_break t.trees l ≡ true → children_of t.trees l ≡ []) → Rests t (final (drop_lone_break p) t) p
    unfolding drop_lone_break
    dropped empty = subst (λ u. Rests t u p) (sym (final-look _ t)) (by (first_of t.trees p.label) refl)
      where
        chosen : (k : ℕ) → first_of t.trees p.label ≡ Some k → (v : Bool) → (eqb p.offset 0 && (is_block t.trees p.label && (is_break t.trees k && is_none (next_of t.trees k)))) ≡ v → Rests t (final (if v then remove k >> done else done) t) p
        chosen k first false e = subst (λ u. Rests t u p) (sym (final-answer tt t)) rests_here
        chosen k first true e =
            let parts = and_parts (eqb p.offset 0) (is_block t.trees p.label && (is_break t.trees k && is_none (next_of t.trees k))) e in
            let more = and_parts (is_block t.trees p.label) (is_break t.trees k && is_none (next_of t.trees k)) parts.1 in
            let br = (and_parts (is_break t.trees k) (is_none (next_of t.trees k)) more.1).0 in
            let there = (parent_count t.trees k p.label is.forest.distinct (parent_of-first t.trees is.forest.distinct p.label k first)).0 in
            let bare = break_bare t k is there br (empty k br) in
            let run : final (remove k >> done) t ≡ edited (Remove k) t = rw (final-bind, final-edit, final-answer) refl in
            subst (λ u. Rests t u p) (sym run) (removed k first (same_number p.offset 0 parts.0) bare)

        by : (o : Option ℕ) → first_of t.trees p.label ≡ o → Rests t (final (given o done λ k. if (eqb p.offset 0 && (is_block t.trees p.label && (is_break t.trees k && is_none (next_of t.trees k)))) then remove k >> done else done) t) p
        by None e = subst (λ u. Rests t u p) (sym (final-answer tt t)) rests_here
        by (Some k) e = chosen k e (eqb p.offset 0 && (is_block t.trees p.label && (is_break t.trees k && is_none (next_of t.trees k)))) refl

  -- ---- the img

  module _ (address : List ℕ) where
    abbrev Img : Content
    Img = Element (codes "img") (source address)

    img_made : (u : State) → final (make_element (codes "img") (source address)) u ≡ made Img u
    img_made u = final-make_element (codes "img") (source address) u

    steady_img : Steady (make_element (codes "img") (source address))
    steady_img = steady_make_element (codes "img") (source address) refl

    img_borne : (n : ℕ) → borne_by n Img ≡ Thing n ∷ []
    unfolding borne_by
    img_borne n = refl

    -- what the run adds
    pub record Shows (t u : State) : Type 0 where
      pub label : ℕ
      pub adds : AddsThing label t u
      pub stands : content_of u.trees label ≡ Some Img

    image_put : (t u : State) (p : Point) → Rests t u p → Shows t (final (put_image address) u)
    unfolding put_image
    image_put t u p k =
        let v = final (put (codes "img") (source address)) u in
        let n = value (put (codes "img") (source address)) u in
        let adds = put_adds s h b (codes "img") (source address) Img img_made steady_img img_borne u k.way p k.caret k.held in
        let stands = put_stands s h b (codes "img") (source address) Img img_made steady_img img_borne u k.way p k.caret k.held in
        let run : final (put (codes "img") (source address) >>= (λ m. collapse_after m >> answer true)) u ≡ final (collapse_after n) v = rw (final-bind, final-bind, final-answer) refl in
        let trees = after_trees n v in
        subst (λ w. Shows t w) (sym run) (record {
          label = u.next;
          adds = one_same (Thing u.next) (solid_leaves (tree_of u.trees 0)) (solid_leaves (tree_of t.trees 0)) (solid_leaves (tree_of v.trees 0)) (solid_leaves (tree_of (final (collapse_after n) v).trees 0)) k.order (ap (λ f. solid_leaves (tree_of f 0)) (sym trees)) adds;
          stands = ap (λ f. content_of f u.next) trees ∙ stands;
        })

    image_shown : (t : State) → Underway s h false t → (p : Point) → StandsAt t p → is_inside t p.label ≡ true → ((l : ℕ) → is_break t.trees l ≡ true → children_of t.trees l ≡ []) → Shows t (final (from_start_inside (show_image address)) t)
    unfolding show_image start_inside
    image_shown t way p caret held empty =
        let start : final (from_start_inside (show_image address)) t ≡ final (show_image address p) t =
        final-look _ t ∙ (ap (λ o. final (given (if_point_inside t o) (answer true) (show_image address)) t) (start_caret t p caret) ∙ ap (λ v. final (given (if v then Some p else None) (answer true) (show_image address)) t) held) in
        let k = dropped t way p caret held empty in
        subst (λ w. Shows t w) (sym (start ∙ final-bind (drop_lone_break p) (λ _. put_image address) t)) (image_put t (final (drop_lone_break p) t) p k)

    image_inserted : (t : State) → Underway s h false t → (p : Point) → StandsAt t p → is_inside t p.label ≡ true → HasRoom t → BreaksAreEmpty t → Shows t (final (insert_source address) t)
    unfolding insert_source
    image_inserted t way p caret held room empty =
        let is = valid_way s h false b t way in
        let u = final (erase KEEP_WRAPPERS) t in
        let k = erased KEEP_WRAPPERS p t is room caret in
        let way_u = way_steady s h b (erase KEEP_WRAPPERS) t (steady_erase KEEP_WRAPPERS) way in
        let q = caret_then t u p k.blanked caret in
        let near = nearby_caret s h b t p way caret held in
        let there : IsWithin u.trees 0 q.place.label = subst (λ l. IsWithin u.trees 0 l) (sym q.label) (k.blanked.inside p.label near.inside) in
        let held_u = near_inside s h false b u way_u q.place.label (subst (λ l. Near s h false b l) (sym q.label) near.near) there in
        let empty_u : (l : ℕ) → is_break u.trees l ≡ true → children_of u.trees l ≡ [] =
        λ l br. k.blanked.children l ∙ empty l (ap (λ o. option_map_or (λ own. bytes_eq own (codes "br")) o false) (sym (k.blanked.names l)) ∙ br) in
        let shows = image_shown u way_u q.place q.caret held_u empty_u in
        let v = final (from_start_inside (show_image address)) u in
        subst (λ w. Shows t w) (sym (final-bind (erase KEEP_WRAPPERS) (λ _. from_start_inside (show_image address)) t)) (record {
          label = shows.label;
          adds = one_same (Thing shows.label) (solid_leaves (tree_of u.trees 0)) (solid_leaves (tree_of t.trees 0)) (solid_leaves (tree_of v.trees 0)) (solid_leaves (tree_of v.trees 0)) k.blanked.order refl shows.adds;
          stands = shows.stands;
        })

  -- the beginning of a command
  pub caret_begun : (p : Point) → StandsAt s p → StandsAt (begun (Some h) false s) p
  unfolding begun
  caret_begun p caret = caret

  pub room_begun : HasRoom s → HasRoom (begun (Some h) false s)
  unfolding begun
  room_begun room = room

  pub empty_begun : BreaksAreEmpty s → BreaksAreEmpty (begun (Some h) false s)
  unfolding begun
  empty_begun empty = empty

  adds_begun : (n : ℕ) (t : State) → AddsThing n (begun (Some h) false s) t → AddsThing n s t
  unfolding begun
  adds_begun n t adds = adds

  pub image_added : (p : Point) (c : ℕ) (v : List ℕ) → HasRoom s → BreaksAreEmpty s → StandsAt s p → is_inside (begun (Some h) false s) p.label ≡ true → Shows (c ∷ v) s (final (insert_image (c ∷ v)) (begun (Some h) false s))
  unfolding insert_image
  image_added p c v room empty caret held =
      let u = begun (Some h) false s in
      let k = image_inserted (c ∷ v) u (record { way = here; leaves = tt }) p (caret_begun p caret) held (room_begun room) (empty_begun empty) in
      record { label = k.label; adds = adds_begun k.label (final (insert_source (c ∷ v)) u) k.adds; stands = k.stands }
