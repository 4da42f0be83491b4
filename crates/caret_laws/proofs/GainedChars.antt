-- A character that is put at a caret is one more, at one place, or nothing comes.
use Rattle.std.proofs.Common.{◌≡◌, ℕ, suc, ◌+◌, ◌<◌, ◌^◌, Bool, true, false, if◌then◌else◌, cond, eqb, List, [], ◌∷◌, map, length, Option, Some, None, refl, sym, ap, subst, ◌∙◌, inl, inr, arith}
use Rattle.std.specs.Option.{option_map}
use Rattle.std.proofs.lemmas.Bool.{cases_Bool}
use Rattle.std.proofs.lemmas.Bool.Decides.{eqb_tells}
use Rattle.edit_model.specs.DomModel.declared.Content.{Content}
use Rattle.edit_model.specs.DomModel.declared.Content.TheVariants.{Words}
use Rattle.edit_model.specs.DomModel.Forest.{Forest, Seen, seek, count_of, tree_of, content_of, put_under, IsWithin}
use Rattle.edit_model.specs.DomModel.Revised.{revised}
use Rattle.edit_model.proofs.DomModel.Totals.{total-without, put_under_nowhere}
use Rattle.edit_model.specs.LiveRange.declared.places.Point.{Point}
use Rattle.inline_value.specs.NodeTests.BlockPoints.{child_at}
use Rattle.inline_value.specs.NodeTests.CollapsedWhitespace.{is_words}
use Rattle.edit_model.specs.State.{State}
use Rattle.edit_model.specs.Action.{Change, MakeWords, made, words_content, selected, acted}
use Rattle.edit_model.specs.Confined.{spliced}
use Rattle.edit_model.specs.Edit.{Insert, Replace, is_made_edit, trees_after, with_replaced, edited}
use Rattle.edit_model.specs.Kept.{Letter, borne_by, leaves}
use Rattle.edit_model.specs.Run.{Run, ◌>>=◌, ◌>>◌, final, done, given, look, make_words, replace, select}
use Rattle.edit_model.specs.Valid.{IsValid}
use Rattle.edit_model.proofs.Documents.{document-link, document-revised, document-with_leaf}
use Rattle.edit_model.proofs.IslandRuns.{trees_made}
use Rattle.edit_model.proofs.OutsideRuns.{trees-selected}
use Rattle.edit_model.proofs.Resting.{seek_document, forest-document}
use Rattle.edit_model.proofs.Steps.{final-bind, final-answer, final-look, final-edit, final-make_words, value-make_words, final-perform}
use Rattle.edit_model.proofs.Tests.{inserts}
use Rattle.edit_model.proofs.Trees.{none_or_some}
use Rattle.edit_model.proofs.ValidRuns.{valid_acted, final_valid}
use Rattle.edit_laws.specs.OrderPreserving.{OrderPreserving}
use Rattle.edit_laws.proofs.OrderPreserving.{order_preserving}
use Rattle.delete_core.specs.Places.{at, start_in, end_in}
use Rattle.text_insertion.specs.Start.{active_start, insert_at, insert_at_start}
use Rattle.text_insertion.specs.Typing.{drop_sole_break, put_at, put_char}
use Rattle.caret_laws.specs.SolidOrder.{is_solid, solid_leaves, KeepsOrderUpToBlanks, OneMore, StandsAt, HasRoomFor}
use Rattle.caret_laws.specs.TypingLaws.{MayGain}
use Rattle.caret_laws.proofs.Blanks.{Rewritten, rewritten, trees_t, edit_left, words_same}
use Rattle.caret_laws.proofs.CaretErasing.{caret_inside}
use Rattle.caret_laws.proofs.OneMores.{one_under, one_char, one_revised, one_solid, one_blank, one_same}
use Rattle.caret_laws.proofs.PutElements.{start_caret, made_tree}
use Rattle.caret_laws.proofs.Solid.{put_is, length_any, solid_order}
use Rattle.caret_laws.proofs.SparingRuns.{Alike, alike_parts, Spared, spared_look, spared_front, sparing_ordered}
use Rattle.caret_laws.proofs.TextRoom.{words_there, room_words, room_acted}

abbrev pub Gained : ℕ → State → State → Type 0
Gained c u v = MayGain c (solid_leaves (tree_of u.trees 0)) (solid_leaves (tree_of v.trees 0))

-- what comes among all leaves comes among those that aren't blank, or is a blank
gained_solid : (c : ℕ) (f g : Forest Content) → OneMore (Letter c) (leaves f) (leaves g) → MayGain c (solid_leaves f) (solid_leaves g)
unfolding solid_leaves
gained_solid c f g more = elim (cases_Bool (is_solid (Letter c))) [
  | inl solid ↦ inr (one_solid (Letter c) solid (leaves f) (leaves g) more)
  | inr blank ↦ inl (one_blank (Letter c) blank (leaves f) (leaves g) more)
]

-- the order is kept before and after
pub gained_amid : (c : ℕ) (t u v w : State) → KeepsOrderUpToBlanks t u → Gained c u v → KeepsOrderUpToBlanks v w → Gained c t w
gained_amid c t u v w first (inl same) last = inl (last ∙ (same ∙ first))
gained_amid c t u v w first (inr more) last = inr (one_same (Letter c) (solid_leaves (tree_of u.trees 0)) (solid_leaves (tree_of t.trees 0)) (solid_leaves (tree_of v.trees 0)) (solid_leaves (tree_of w.trees 0)) first (sym last) more)

same_document : (u v : State) → v.trees ≡ u.trees → KeepsOrderUpToBlanks u v
same_document u v same = ap (λ f. solid_leaves (tree_of f 0)) same

pub less_room : (r : ℕ) (u : State) → HasRoomFor (suc r) u → HasRoomFor r u
less_room r u room l xs e = (let k = room l xs e in omega (arith, k))

module _ (c r : ℕ) (u : State) (is : IsValid u) (room : HasRoomFor (suc r) u) (some : 0 < r) where
  -- it is put, and texts have room for one less
  abbrev pub Puts : State → Type 0
  Puts v = Gained c u v × HasRoomFor r v

  -- ---- into a text

  module _ (n o : ℕ) (inside : IsWithin u.trees 0 n) where
    abbrev event : State
    event = edited (Replace n o 0 (c ∷ [])) u

    module _ (chars : List ℕ) (text : content_of u.trees n ≡ Some (Words chars)) (may : is_made_edit (Replace n o 0 (c ∷ [])) u ≡ true) where
      r_u : Rewritten u.trees event.trees n chars (spliced chars o 0 (c ∷ []))
      r_u = rewritten u is n o 0 (c ∷ []) chars text may

      long_is : length (spliced chars o 0 (c ∷ [])) ≡ length chars + 1
      long_is = ap length (put_is c o chars) ∙ length_any c o chars

      room_u : HasRoomFor r event
      room_u l xs e = elim (eqb_tells n l) [
        | inr (_, off) ↦ (let k = room l xs (sym (r_u.others l off) ∙ e) in omega (arith, k))
        | inl (_, same) ↦ (
            let there : Some (Words (spliced chars o 0 (c ∷ []))) ≡ Some (Words xs) = sym r_u.own ∙ subst (λ k. content_of event.trees k ≡ Some (Words xs)) (sym same) e in
            let size : length (spliced chars o 0 (c ∷ [])) ≡ length xs = ap length (words_same (spliced chars o 0 (c ∷ [])) xs there) in
            let k = room n chars text in
            omega (arith, size, long_is, k))
      ]

      own_more : (q : Seen Content) → seek None (tree_of u.trees 0) n ≡ Some q → OneMore (Letter c) (borne_by n q.content) (borne_by n (with_replaced o 0 (c ∷ []) q.content))
      unfolding borne_by
      own_more q e =
          let found : Some q.content ≡ Some (Words chars) = sym (ap (option_map (λ (x : Seen Content). x.content)) (seek_document u.trees u.next n q is.forest e)) ∙ text in
          let same : Words chars ≡ q.content = cc in
          let base : OneMore (Letter c) (map Letter chars) (map Letter (spliced chars o 0 (c ∷ []))) = subst (λ xs. OneMore (Letter c) (map Letter chars) (map Letter xs)) (sym (put_is c o chars)) (one_char c o chars) in
          subst (λ d. OneMore (Letter c) (borne_by n d) (borne_by n (with_replaced o 0 (c ∷ []) d))) same base

      more_u : OneMore (Letter c) (leaves (tree_of u.trees 0)) (leaves (tree_of event.trees 0))
      more_u =
          let now : tree_of event.trees 0 ≡ revised (tree_of u.trees 0) n (with_replaced o 0 (c ∷ [])) =
          ap (λ f. tree_of f 0) (trees_t u is n o 0 (c ∷ []) chars text may) ∙ document-revised u.trees u.next is.forest n (with_replaced o 0 (c ∷ [])) in
          subst (λ g. OneMore (Letter c) (leaves (tree_of u.trees 0)) (leaves g)) (sym now)
          (one_revised (Letter c) n (with_replaced o 0 (c ∷ [])) None (tree_of u.trees 0) (forest-document u.trees u.next is.forest).distinct inside own_more)

    text_put : is_words u.trees n ≡ true → Puts event
    unfolding is_words
    text_put words = elim (cases_Bool (is_made_edit (Replace n o 0 (c ∷ [])) u)) [
      | inr off ↦ subst Puts (sym (edit_left (Replace n o 0 (c ∷ [])) u off)) (inl refl, less_room r u room)
      | inl may ↦ (
          let text = words_there (content_of u.trees n) words in
          (gained_solid c (tree_of u.trees 0) (tree_of event.trees 0) (more_u text.0 text.1 may), room_u text.0 text.1 may))
    ]

  -- ---- into a new text

  module _ (small : 1 + r < 2 ^ 32) where
    abbrev text : Content
    text = words_content (c ∷ [])

    abbrev v : State
    v = made text u

    is_v : IsValid v
    unfolding acted
    is_v = valid_acted (MakeWords (c ∷ [])) u is

    room_v : HasRoomFor r v
    room_v = room_words r (c ∷ []) u is small (less_room r u room)

    same_v : tree_of v.trees 0 ≡ tree_of u.trees 0
    unfolding made
    same_v = document-with_leaf u.trees u.next is.forest u.next text

    sole : leaves (tree_of v.trees u.next) ≡ Letter c ∷ []
    unfolding leaves borne_by
    sole = ap leaves (made_tree text u is)

    module _ (p : ℕ) (before : Option ℕ) where
      abbrev w : State
      w = edited (Insert p before u.next) v

      inserted : is_made_edit (Insert p before u.next) v ≡ true → MayGain c (solid_leaves (tree_of v.trees 0)) (solid_leaves (tree_of w.trees 0))
      unfolding is_made_edit trees_after
      inserted may =
          let can = (inserts v p before u.next may).can in
          let now : tree_of w.trees 0 ≡ put_under (tree_of v.trees 0) p before (tree_of v.trees u.next) =
          ap (λ f. tree_of f 0) (trees_made (Insert p before u.next) v may) ∙ document-link v.trees v.next is_v.forest p before u.next can in
          elim (none_or_some (count_of (tree_of v.trees 0) p)) [
            | inl none ↦ inl (ap solid_leaves (now ∙ put_under_nowhere (tree_of v.trees 0) p before (tree_of v.trees u.next) none))
            | inr there ↦ (
                let once : count_of (tree_of v.trees 0) p ≡ 1 = (let one = is_v.forest.distinct p in omega (arith, there, one, total-without (λ m _. cond (eqb m p) 1 0) v.trees 0)) in
                gained_solid c (tree_of v.trees 0) (tree_of w.trees 0)
                (subst (λ g. OneMore (Letter c) (leaves (tree_of v.trees 0)) (leaves g)) (sym now) (one_under (Letter c) (tree_of v.trees u.next) sole (tree_of v.trees 0) p before once)))
          ]

      puts_w : Puts w
      unfolding acted
      puts_w = (
        subst (λ f. MayGain c (solid_leaves f) (solid_leaves (tree_of w.trees 0))) same_v (elim (cases_Bool (is_made_edit (Insert p before u.next) v)) [
          | inl may ↦ inserted may
          | inr off ↦ inl (ap (λ (x : State). solid_leaves (tree_of x.trees 0)) (edit_left (Insert p before u.next) v off))
        ]),
        room_acted r (Change (Insert p before u.next)) v tt is_v room_v,
      )

    puts_v : Puts v
    puts_v = (inl (ap solid_leaves same_v), room_v)

    at_start : Puts (final (insert_at_start u.next) v)
    unfolding insert_at_start insert_at
    at_start = subst Puts (sym (final-look _ v)) (by (active_start v))
      where
        by : (o : Option Point) → Puts (final (given o done (insert_at u.next)) v)
        by None = subst Puts (sym (final-answer tt v)) puts_v
        by (Some p) =
            let run : final (insert_at u.next p) v ≡ w p.label (child_at v.trees p.label p.offset) = rw (final-look, final-bind, final-edit, final-answer) refl in
            subst Puts (sym run) (puts_w p.label (child_at v.trees p.label p.offset))

-- ---- the run

puts_trees : (c r : ℕ) (u : State) (is : IsValid u) (room : HasRoomFor (suc r) u) (some : 0 < r) (v w : State) → w.trees ≡ v.trees → Puts c r u is room some v → Puts c r u is room some w
puts_trees c r u is room some v w same k =
    (subst (λ f. MayGain c (solid_leaves (tree_of u.trees 0)) (solid_leaves (tree_of f 0))) (sym same) k.0, λ l xs e. k.1 l xs (subst (λ f. content_of f l ≡ Some (Words xs)) same e))

alike_drop_sole : (n : ℕ) → Alike (drop_sole_break n)
unfolding drop_sole_break
alike_drop_sole n = search alike_parts depth 8

ordered_drop_sole : (n : ℕ) → OrderPreserving (drop_sole_break n)
unfolding drop_sole_break
ordered_drop_sole n = search order_preserving depth 8

module _ (c r : ℕ) (u : State) (is : IsValid u) (room : HasRoomFor (suc r) u) (some : 0 < r) (small : 1 + r < 2 ^ 32) (y : Point) (caret : StandsAt u y) where
  abbrev InText : Run (Unit {0})
  InText = replace y.label y.offset 0 (c ∷ []) >> select y (at y.label (y.offset + 1))

  abbrev NewText : Run (Unit {0})
  NewText = drop_sole_break y.label >>= (λ _. make_words (c ∷ []) >>= (λ x. insert_at_start x >>= (λ _. look λ q. select (start_in x) (end_in q.trees x))))

  in_text : is_words u.trees y.label ≡ true → Puts c r u is room some (final InText u)
  unfolding acted
  in_text words =
      let e = edited (Replace y.label y.offset 0 (c ∷ [])) u in
      let last = selected y (at y.label (y.offset + 1)) e in
      let run : final InText u ≡ last = rw (final-bind, final-edit, final-perform) refl in
      subst (Puts c r u is room some) (sym run)
      (puts_trees c r u is room some e last (trees-selected y (at y.label (y.offset + 1)) e) (text_put c r u is room some y.label y.offset (caret_inside u y is caret) words))

  new_text : Spared NewText u → Puts c r u is room some (final NewText u)
  unfolding acted
  new_text spares =
      let m = drop_sole_break y.label in
      let t = final m u in
      let order = solid_order u t (sparing_ordered m u (alike_drop_sole y.label) (ordered_drop_sole y.label) is (spared_front m _ u spares)) in
      let is_t = final_valid m u is in
      let room_t = (alike_drop_sole y.label).room (suc r) u is room in
      let n = t.next in
      let w = final (insert_at_start n) (made (words_content (c ∷ [])) t) in
      let k = at_start c r t is_t room_t some small in
      let last = selected (start_in n) (end_in w.trees n) w in
      let run : final NewText u ≡ last = rw (final-bind, final-bind, final-make_words, value-make_words, final-bind, final-look, final-perform) refl in
      subst (Puts c r u is room some) (sym run)
      (puts_trees c r u is room some w last (trees-selected (start_in n) (end_in w.trees n) w) (gained_amid c u t w w order k.0 refl, k.1))

  pub char_kept : Spared (put_char c) u → Puts c r u is room some (final (put_char c) u)
  unfolding put_char put_at
  char_kept spares =
      let given_y : Spared (given (active_start u) done (put_at c)) u = spared_look _ u spares in
      let at_y : Spared (put_at c y) u = subst (λ o. Spared (given o done (put_at c)) u) (start_caret u y caret) given_y in
      let run : final (put_char c) u ≡ final (put_at c y) u = final-look _ u ∙ ap (λ o. final (given o done (put_at c)) u) (start_caret u y caret) in
      subst (Puts c r u is room some) (sym (run ∙ final-look _ u)) (by (is_words u.trees y.label) refl (spared_look _ u at_y))
    where
      by : (v : Bool) → is_words u.trees y.label ≡ v → Spared (if v then InText else NewText) u → Puts c r u is room some (final (if v then InText else NewText) u)
      by true words h = in_text words
      by false words h = new_text h
