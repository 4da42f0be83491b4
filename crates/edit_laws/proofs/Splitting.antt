-- Splitting a text keeps the order.
use Rattle.std.proofs.Common.{◌≡◌, ◌≢◌, ℕ, ◌+◌, ◌-◌, ◌<◌, ◌≤◌, ◌^◌, zero, suc, Bool, true, false, ◌&&◌, ◌||◌, not, List, [], ◌++◌, length, take, drop, map, Option, Some, None, is_none, nat_lt, nat_le, bytes_eq, refl, sym, ap, subst, ◌∙◌, inl, inr, arith, true≢false}
use Rattle.std.specs.Option.{option_map, option_map_or, option_and_then}
use Rattle.std.specs.Prelude.{unwrap_or}
use Rattle.std.proofs.lemmas.Bool.{cases_Bool, ne_eqb, lt-ltb, le-leb}
use Rattle.std.proofs.lemmas.Bool.Decides.{leb_tells}
use Rattle.std.proofs.lemmas.List.{append-nil, append_assoc, length-append, length-drop, map-append, take-append-drop}
use Rattle.std.proofs.lemmas.Slice.Eq.{bytes_eq-Decides}
use Rattle.std.proofs.Math.ListN.{drop_of_length-le}
use Rattle.edit_model.specs.DomModel.declared.Content.{Content}
use Rattle.edit_model.specs.DomModel.declared.Content.TheVariants.{Words}
use Rattle.edit_model.specs.DomModel.Contents.{is_parent_at, may_have_children, char_length, chars_in}
use Rattle.edit_model.specs.DomModel.Editing.{editing_host}
use Rattle.edit_model.specs.DomModel.Forest.{Forest, Seen, tops, times, is_label, count_of, IsWithin, seek, parent_of, next_of, content_of, tree_of, join, link, with_leaf, without, put_before, put_under, CanPut, IsDistinct}
use Rattle.edit_model.specs.DomModel.Forest.Forest.{Nil, Tree}
use Rattle.edit_model.specs.DomModel.Revised.{revised}
use Rattle.edit_model.specs.DomModel.Places.{index_of}
use Rattle.edit_model.proofs.DomModel.Totals.{put_under_nowhere}
use Rattle.edit_model.proofs.DomModel.Stands.{Stands, seek_absent}
use Rattle.edit_model.proofs.DomModel.Links.{join-Nil, eqb_refl_true, seen, parent_count, child_of_parent, parent_of-with_leaf}
use Rattle.edit_model.proofs.DomModel.Kept.{content_of-link, content_of-with_leaf_other}
use Rattle.edit_model.proofs.DomModel.Neighbours.{parent_of-next}
use Rattle.edit_model.specs.State.{State}
use Rattle.edit_model.specs.Kept.{Letter, borne_by, leaves}
use Rattle.edit_model.specs.Confined.{spliced, is_inside, is_made, is_open, is_own, is_editable_for, is_place, may_change, may_insert, may_replace}
use Rattle.edit_model.specs.Edit.{Insert, Replace, is_made_edit, trees_after, with_replaced, edited}
use Rattle.edit_model.specs.Action as action
use Rattle.edit_model.specs.Action.{MakeWords, made, words_content, sent, acted}
use Rattle.edit_model.specs.History.{document_of}
use Rattle.edit_model.specs.Valid.{IsValid}
use Rattle.edit_model.specs.Run.{here, onward, final, answer, given}
use Rattle.edit_model.specs.Compositions.{characters_of, points_sent, split_under, split_words}
use Rattle.edit_model.proofs.CommandParts.{final_command, command_acted}
use Rattle.edit_model.proofs.Documents.{document-link, document-revised, document-with_leaf, within_below}
use Rattle.edit_model.proofs.IslandRuns.{trees_made, trees_left}
use Rattle.edit_model.proofs.OutsideRuns.{trees-grown, trees-sent}
use Rattle.edit_model.proofs.Steps.{final-bind, final-answer, final-look, final-edit, value-edit, final-make_words, value-make_words, final-perform}
use Rattle.edit_model.proofs.Tests.{inserts}
use Rattle.edit_laws.specs.Order.{KeepsOrder, IsKeeping}
use Rattle.edit_laws.proofs.Subsequences.{keeps_same, keeps_refl}
use Rattle.edit_laws.proofs.Leaves.{leaves-Nil, leaves-Tree, leaves-join}
use Rattle.edit_laws.proofs.QuietActions.{keeping_along, keeping_edited, keeping_final}
use Rattle.edit_laws.proofs.Around.{off_by, self_one, Around, Here, Below, Past, fill, count_around, Spot, spot_count, spot_put_top, spot_leaves, spot_as}
use Rattle.edit_laws.proofs.Patterns.{other_label, count-join, without-join, put_after_node}
use Rattle.edit_laws.proofs.Slides.{document_distinct}
use Rattle.edit_laws.proofs.Lifting.{node_found, node_once}
use Rattle.edit_laws.proofs.ReversedBefore.{next_is}
use Rattle.edit_laws.proofs.Seats.{Seat, seat}
use Rattle.edit_laws.proofs.Loose.{IsLoose, loose_parent}
use Rattle.edit_laws.proofs.Renaming.{made_trees, new_absent, new_tree, new_other}
use Rattle.edit_laws.proofs.Hosts.{host_from-join, host_from-under, parent_inside}

-- ---- characters

-- what a replacement of all from a place on leaves
pub spliced_end : (chars : List ℕ) (at : ℕ) → spliced chars at (length chars - at) [] ≡ take at chars
spliced_end chars at = ap (λ l. take at chars ++ l) (drop_of_length-le chars {i = at + (length chars - at)} (omega arith)) ∙ append-nil (take at chars)

pub take_past : (chars : List ℕ) (at : ℕ) → length chars ≤ at → take at chars ≡ chars
take_past chars at h = sym (append-nil (take at chars)) ∙ (ap (λ l. take at chars ++ l) (sym (drop_of_length-le chars {i = at} h)) ∙ take-append-drop at chars)

two_lengths : (chars : List ℕ) (at : ℕ) → length (take at chars) + length (drop at chars) ≡ length chars
two_lengths chars at = sym (length-append (take at chars) (drop at chars)) ∙ ap length (take-append-drop at chars)

short_take : (chars : List ℕ) (at : ℕ) → at < length chars → bytes_eq (take at chars) chars ≡ false
short_take chars at h = by (bytes_eq (take at chars) chars) refl
  where
    by : (v : Bool) → bytes_eq (take at chars) chars ≡ v → bytes_eq (take at chars) chars ≡ false
    by false e = e
    by true e = absurd (let same = ap length ((bytes_eq-Decides (take at chars) chars).0 e) in omega (arith, same, two_lengths chars at, length-drop at chars, h))

-- characters that are there from a place on can be taken out
pub may_cut : (chars : List ℕ) (at : ℕ) → at < length chars → length chars < 2 ^ 32 → may_change (Some (Words chars)) at (length chars - at) [] ≡ true
may_cut chars at h short =
    rw (le-leb (at + (length chars - at)) (length chars) (omega (arith, h)), spliced_end chars at, lt-ltb (length (take at chars)) (2 ^ 32) (omega (arith, two_lengths chars at, short)), short_take chars at h) refl

-- ---- other contents

pub revised_none : (f : Forest Content) (n : ℕ) (g : Content → Content) → count_of f n ≡ 0 → revised f n g ≡ f
revised_none Nil n g none = refl
revised_none (Tree m c ks rest) n g none = rw (other_label m n (off_by m n (omega (arith, none))), revised_none ks n g (omega (arith, none)), revised_none rest n g (omega (arith, none))) refl

pub revised-fill : (a : Around) (f : Forest Content) (n : ℕ) (g : Content → Content) → count_around a n ≡ 0 → revised (fill a f) n g ≡ fill a (revised f n g)
revised-fill Here f n g none = refl
revised-fill (Below m c a rest) f n g none = rw (other_label m n (off_by m n (omega (arith, none))), revised-fill a f n g (omega (arith, none)), revised_none rest n g (omega (arith, none))) refl
revised-fill (Past m c ks a) f n g none = rw (other_label m n (off_by m n (omega (arith, none))), revised-fill a f n g (omega (arith, none)), revised_none ks n g (omega (arith, none))) refl

pub revised-join : (pre f : Forest Content) (n : ℕ) (g : Content → Content) → count_of pre n ≡ 0 → revised (join pre f) n g ≡ join pre (revised f n g)
revised-join Nil f n g none = refl
revised-join (Tree m c ks rest) f n g none = rw (other_label m n (off_by m n (omega (arith, none))), revised_none ks n g (omega (arith, none)), revised-join rest f n g (omega (arith, none))) refl

-- ---- what a text and its tail bear

halves_at : (n x at : ℕ) (chars : List ℕ) (post : Forest Content) → leaves (Tree n (Words (take at chars)) Nil (Tree x (Words (drop at chars)) Nil post)) ≡ leaves (Tree n (Words chars) Nil post)
unfolding borne_by
halves_at n x at chars post =
    rw (leaves-Tree n (Words (take at chars)) Nil (Tree x (Words (drop at chars)) Nil post), leaves-Tree x (Words (drop at chars)) Nil post, leaves-Tree n (Words chars) Nil post, leaves-Nil)
    (sym (append_assoc (map Letter (take at chars)) (map Letter (drop at chars)) (leaves post))
    ∙ ap (λ l. l ++ leaves post) (sym (map-append Letter (take at chars) (drop at chars)) ∙ ap (map Letter) (take-append-drop at chars)))

pub halves : (pre : Forest Content) (n x at : ℕ) (chars : List ℕ) (post : Forest Content) → leaves (join pre (Tree n (Words (take at chars)) Nil (Tree x (Words (drop at chars)) Nil post))) ≡ leaves (join pre (Tree n (Words chars) Nil post))
halves pre n x at chars post =
    leaves-join pre (Tree n (Words (take at chars)) Nil (Tree x (Words (drop at chars)) Nil post))
    ∙ (ap (λ l. leaves pre ++ l) (halves_at n x at chars post) ∙ sym (leaves-join pre (Tree n (Words chars) Nil post)))

-- ---- points that are sent

sent_trees : (p i n at tail : ℕ) (v : Bool) (s : State) → (final (points_sent p i n at tail v) s).trees ≡ s.trees
unfolding points_sent acted
sent_trees p i n at tail false s = rw final-answer refl
sent_trees p i n at tail true s = rw (final-bind, final-perform, final-perform) (trees-grown (record { label = p; offset = i + 1 }) (sent n at tail s) ∙ trees-sent n at tail s)

-- ---- a text n below p, split

is_positive : (s : State) → IsValid s → 0 < s.next
is_positive s is = is.forest.below 0 is.forest.document

no_tops : (f : Forest Content) → tops f ≡ [] → f ≡ Nil
no_tops Nil e = refl
no_tops (Tree m c ks rest) e = absurd (let e' = e in cc)

all_seven : {a b c d e f g : Bool} → a ≡ true → b ≡ true → c ≡ true → d ≡ true → e ≡ true → f ≡ true → g ≡ true → (a && (b && (c && (d && (e && (f && g)))))) ≡ true
all_seven a b c d e f g = rw (a, b, c, d, e, f, g) refl

module _ (s : State) (is : IsKeeping s) (p n at : ℕ) (chars : List ℕ) (up : parent_of s.trees n ≡ Some p) (text : content_of s.trees n ≡ Some (Words chars)) where
  c : Content
  c = words_content (drop at chars)

  x : ℕ
  x = s.next

  leaf : Forest Content
  unfolding x c
  leaf = Tree x c Nil Nil

  b : Option ℕ
  b = next_of s.trees n

  s1 : State
  unfolding c
  s1 = made c s

  s2 : State
  unfolding b x s1
  s2 = edited (Insert p b x) s1

  is1 : IsKeeping s1
  unfolding s1 c acted
  is1 = keeping_along (onward here (MakeWords (drop at chars))) is

  is2 : IsKeeping s2
  unfolding s2
  is2 = keeping_edited (Insert p b x) s1 is1

  short : length chars < 2 ^ 32
  short =
      let w = seen s.trees n is.valid.forest.distinct (parent_count s.trees n p is.valid.forest.distinct up).0 in
      let same : w.0.content ≡ Words chars = (let t : Some w.0.content ≡ Some (Words chars) = ap (option_map (λ (o : Seen Content). o.content)) (sym w.2) ∙ text in cc) in
      subst (λ d. char_length d < 2 ^ 32) same (is.valid.forest.nodes n w.0 w.2).short

  tail_is : c ≡ Words (drop at chars)
  unfolding c
  tail_is = rw (lt-ltb (length (drop at chars)) (2 ^ 32) (omega (arith, short, two_lengths chars at))) refl

  trees1 : s1.trees ≡ with_leaf s.trees x c
  unfolding s1 x
  trees1 = made_trees c s

  absent : count_of s.trees x ≡ 0
  unfolding x
  absent = new_absent s is c

  tree1 : tree_of s1.trees x ≡ leaf
  unfolding s1 x leaf
  tree1 = new_tree s is c

  other_p : x ≢ p
  unfolding x
  other_p = λ e. (let k = ap (count_of s.trees) e in omega (arith, k, absent, (parent_count s.trees n p is.valid.forest.distinct up).1))

  other_n : x ≢ n
  unfolding x
  other_n = new_other s is c n p up

  not_zero : x ≢ 0
  unfolding x
  not_zero = λ e. omega (arith, is_positive s is.valid, e)

  leaf_out : nat_lt 0 (count_of leaf p) ≡ false
  unfolding leaf
  leaf_out = rw (ne_eqb x p other_p) refl

  -- the new text is put in where p is open
  parent_may : is_parent_at s.trees p ≡ true
  parent_may = by (may_have_children above.0.content) refl
    where
      above : (r : Seen Content) × Stands None s.trees p r × (seek None s.trees p ≡ Some r) × (0 < times r.children n)
      above = child_of_parent s.trees n p is.valid.forest.distinct up

      by : (v : Bool) → may_have_children above.0.content ≡ v → is_parent_at s.trees p ≡ true
      by true e = ap (λ (o : Option (Seen Content)). option_map_or may_have_children (option_map (λ (y : Seen Content). y.content) o) false) above.2 ∙ e
      by false e = absurd (let k = ap (λ l. times l n) ((is.valid.forest.nodes p above.0 above.2).leaf e) in omega (arith, k, above.3))

  open1 : is_open s p ≡ true → is_open s1 p ≡ true
  unfolding s1 x made is_open is_inside is_editable_for is_made
  open1 opened = ap (λ o. (is_label s.host p || option_map_or (λ h. is_label o h) s.host false) || nat_le s.start p) (host_from-join s.next c p other_p false None s.trees) ∙ opened

  place1 : (o : Option ℕ) → next_of s.trees n ≡ o → is_place s1.trees p o x ≡ true
  place1 None e = refl
  place1 (Some m) e =
      let beside = parent_of-next s.trees is.valid.forest.distinct n m p up e in
      let off : m ≢ x = λ k. (let t = ap (count_of s.trees) k in omega (arith, t, absent, (parent_count s.trees m p is.valid.forest.distinct beside).0)) in
      let now : parent_of s1.trees m ≡ Some p = ap (λ f. parent_of f m) trees1 ∙ (parent_of-with_leaf s.trees x c absent m ∙ beside) in
      rw (now, eqb_refl_true p, ne_eqb m x off) refl

  may_put : is_open s p ≡ true → may_insert s1 p b x ≡ true
  unfolding may_insert b
  may_put opened =
      all_seven
      (lt-ltb 0 (count_of s1.trees x) (let k = ap (λ f. count_of f x) trees1 in omega (arith, k, count-join s.trees (Tree x c Nil Nil) x, self_one x)))
      (ap not (ne_eqb x 0 not_zero))
      (ap is_none (ap (λ f. parent_of f x) trees1 ∙ (parent_of-with_leaf s.trees x c absent x ∙ ap (option_and_then (λ (y : Seen Content). y.parent)) (seek_absent None s.trees x absent))))
      (ap (λ f. is_parent_at f p) trees1 ∙ (ap (λ (o : Option Content). option_map_or may_have_children o false) (content_of-with_leaf_other s.trees x c p absent other_p) ∙ parent_may))
      (ap not (ap (λ t. nat_lt 0 (count_of t p)) tree1 ∙ leaf_out))
      (place1 (next_of s.trees n) refl)
      (open1 opened)

  -- ---- where it is put in

  module _ (may : may_insert s1 p b x ≡ true) where
    can : CanPut s1.trees p b x
    can = (inserts s1 p b x may).can

    linked : s2.trees ≡ link s1.trees p b x
    unfolding s2 is_made_edit trees_after
    linked = trees_made (Insert p b x) s1 may

    trees2 : s2.trees ≡ put_under s.trees p b leaf
    unfolding leaf
    trees2 =
        linked
        ∙ (ap (λ t. put_under (without s1.trees x) p b t) tree1
        ∙ ap (λ f. put_under f p b leaf) (ap (λ f. without f x) trees1 ∙ (without-join s.trees leaf x absent ∙ rw (eqb_refl_true x) (join-Nil s.trees))))

    content2 : content_of s2.trees n ≡ Some (Words chars)
    content2 =
        ap (λ f. content_of f n) linked
        ∙ (content_of-link s1.trees p b x n is1.valid.forest.distinct can
        ∙ (ap (λ f. content_of f n) trees1 ∙ (content_of-with_leaf_other s.trees x c n absent other_n ∙ text)))

    document2 : tree_of s2.trees 0 ≡ put_under (tree_of s.trees 0) p b leaf
    document2 =
        ap (λ f. tree_of f 0) linked
        ∙ (document-link s1.trees s1.next is1.valid.forest p b x can
        ∙ (ap (λ t. put_under (tree_of s1.trees 0) p b t) tree1
        ∙ ap (λ f. put_under f p b leaf) (ap (λ f. tree_of f 0) trees1 ∙ document-with_leaf s.trees s.next is.valid.forest x c)))

  -- ---- the points sent, and the characters cut

  s3 : State
  unfolding s1 s2 b x
  s3 = final (points_sent p (index_of s.trees n) n at x (is_made_edit (Insert p b x) s1)) s2

  trees3 : s3.trees ≡ s2.trees
  unfolding s3
  trees3 = sent_trees p (index_of s.trees n) n at x (is_made_edit (Insert p b x) s1) s2

  is3 : IsKeeping s3
  unfolding s3
  is3 = keeping_final (points_sent p (index_of s.trees n) n at x (is_made_edit (Insert p b x) s1)) s2 is2

  host3 : s3.host ≡ s.host
  unfolding s1 s2 s3 c acted
  host3 =
      (final_command (points_sent p (index_of s.trees n) n at x (is_made_edit (Insert p b x) s1)) s2).host
      ∙ ((command_acted (action.Change (Insert p b x)) s1).host ∙ (command_acted (MakeWords (drop at chars)) s).host)

  g : Content → Content
  g = with_replaced at (length chars - at) []

  s4 : State
  unfolding s3
  s4 = edited (Replace n at (length chars - at) []) s3

  cut_made : may_replace s3 n at (length chars - at) [] ≡ true → tree_of s4.trees 0 ≡ revised (tree_of s2.trees 0) n g
  unfolding s4 g is_made_edit trees_after
  cut_made may =
      ap (λ f. tree_of f 0) (trees_made (Replace n at (length chars - at) []) s3 may)
      ∙ (document-revised s3.trees s3.next is3.valid.forest n (with_replaced at (length chars - at) [])
      ∙ ap (λ f. revised (tree_of f 0) n (with_replaced at (length chars - at) [])) trees3)

  cut_left : may_replace s3 n at (length chars - at) [] ≡ false → tree_of s4.trees 0 ≡ tree_of s2.trees 0
  unfolding s4 is_made_edit
  cut_left off = ap (λ f. tree_of f 0) (trees_left (Replace n at (length chars - at) []) s3 off) ∙ ap (λ f. tree_of f 0) trees3

  -- ---- a text of the document

  module _ (editable : is_editable_for s n ≡ true) where
    opened : is_open s p ≡ true
    unfolding is_open
    opened = ap (λ v. v || is_made s p) (parent_inside s is.valid n p up editable)

    new_host : editing_host (put_under s.trees p b leaf) n ≡ editing_host s.trees n
    unfolding leaf
    new_host = host_from-under x c n other_n false None s.trees p b

    own3 : is_own s3 n ≡ true
    unfolding is_own is_editable_for
    own3 =
        let hosted : editing_host s3.trees n ≡ editing_host s.trees n =
        ap (λ f. editing_host f n) (trees3 ∙ trees2 (may_put opened)) ∙ new_host in
        ap (λ o. option_map_or (λ h. is_label (editing_host s3.trees n) h) o false || is_made s3 n) host3
        ∙ (ap (λ o. option_map_or (λ h. is_label o h) s.host false || is_made s3 n) hosted
        ∙ ap (λ v. v || is_made s3 n) editable)

    -- where there is something to cut, it is cut
    cut : at < length chars → may_replace s3 n at (length chars - at) [] ≡ true
    unfolding may_replace
    cut h = rw (own3, ap (λ f. content_of f n) trees3 ∙ content2 (may_put opened)) (may_cut chars at h short)

    module _ (pre post : Forest Content) (spot : Spot (tree_of s.trees 0) p (join pre (Tree n (Words chars) Nil post))) where
      once : IsDistinct (tree_of s.trees 0)
      once = document_distinct s.trees is.valid.forest.distinct

      halves_put : tree_of s2.trees 0 ≡ fill spot.around (Tree p spot.content (join pre (Tree n (Words chars) Nil (Tree x c Nil post))) spot.rest)
      unfolding b leaf
      halves_put =
          document2 (may_put opened)
          ∙ (ap (λ f. put_under f p (next_of s.trees n) (Tree x c Nil Nil)) spot.is
          ∙ (spot_put_top (tree_of s.trees 0) once p (join pre (Tree n (Words chars) Nil post)) spot (join pre (Tree n (Words chars) Nil post)) (next_of s.trees n) (Tree x c Nil Nil)
          ∙ ap (λ k. fill spot.around (Tree p spot.content k spot.rest))
          (ap (λ o. put_before (join pre (Tree n (Words chars) Nil post)) o (Tree x c Nil Nil)) (next_is s is.valid p pre n (Words chars) Nil post spot)
          ∙ put_after_node pre n (Words chars) Nil post x c Nil (node_once s is.valid p pre n (Words chars) Nil post spot))))

      in_place : (k : Content → Content) → revised (fill spot.around (Tree p spot.content (join pre (Tree n (Words chars) Nil (Tree x c Nil post))) spot.rest)) n k ≡ fill spot.around (Tree p spot.content (join pre (Tree n (k (Words chars)) Nil (Tree x c Nil post))) spot.rest)
      in_place k =
          let count = spot_count (tree_of s.trees 0) once p (join pre (Tree n (Words chars) Nil post)) spot n in
          let sum = count-join pre (Tree n (Words chars) Nil post) n in
          revised-fill spot.around (Tree p spot.content (join pre (Tree n (Words chars) Nil (Tree x c Nil post))) spot.rest) n k (omega (arith, count, sum, self_one n))
          ∙ (rw (other_label p n (off_by p n (omega (arith, count, sum, self_one n))), revised_none spot.rest n k (omega (arith, count, sum, self_one n)))
          (ap (λ h. fill spot.around (Tree p spot.content h spot.rest))
          (revised-join pre (Tree n (Words chars) Nil (Tree x c Nil post)) n k (omega (arith, count, sum, self_one n))
          ∙ rw (eqb_refl_true n, ne_eqb n x (λ e. other_n (sym e)), revised_none post n k (omega (arith, count, sum, self_one n))) refl)))

      cut_to_head : tree_of s4.trees 0 ≡ fill spot.around (Tree p spot.content (join pre (Tree n (Words (take at chars)) Nil (Tree x c Nil post))) spot.rest)
      unfolding g
      cut_to_head = elim (cases_Bool (may_replace s3 n at (length chars - at) [])) [
        | inl may ↦
            cut_made may
            ∙ (ap (λ f. revised f n (with_replaced at (length chars - at) [])) halves_put
            ∙ (in_place (with_replaced at (length chars - at) [])
            ∙ ap (λ l. fill spot.around (Tree p spot.content (join pre (Tree n (Words l) Nil (Tree x c Nil post))) spot.rest)) (spliced_end chars at)))
        | inr off ↦ elim (leb_tells (length chars) at) [
          | inl (_, past) ↦
              cut_left off
              ∙ (halves_put
              ∙ ap (λ l. fill spot.around (Tree p spot.content (join pre (Tree n (Words l) Nil (Tree x c Nil post))) spot.rest)) (sym (take_past chars at past)))
          | inr (_, before) ↦ absurd (true≢false (sym (cut before) ∙ off))
        ]
      ]

      halves_bear : leaves (tree_of s4.trees 0) ≡ leaves (tree_of s.trees 0)
      halves_bear =
          spot_leaves (tree_of s.trees 0) (tree_of s4.trees 0) p (join pre (Tree n (Words chars) Nil post)) (join pre (Tree n (Words (take at chars)) Nil (Tree x c Nil post))) spot cut_to_head
          (ap (λ d. leaves (join pre (Tree n (Words (take at chars)) Nil (Tree x d Nil post)))) tail_is ∙ halves pre n x at chars post)

    -- a text has no children
    seated_bear : Seat s n p → leaves (tree_of s4.trees 0) ≡ leaves (tree_of s.trees 0)
    seated_bear w =
        let found = node_found s is.valid p w.pre n w.content w.kids w.post w.spot in
        let words : w.content ≡ Words chars = (let t : Some w.content ≡ Some (Words chars) = sym w.content_is ∙ text in cc) in
        let no_kids : w.kids ≡ Nil = no_tops w.kids ((is.valid.forest.nodes n _ found).leaf (ap may_have_children words)) in
        let same : join w.pre (Tree n w.content w.kids w.post) ≡ join w.pre (Tree n (Words chars) Nil w.post) = ap (λ d. join w.pre (Tree n d w.kids w.post)) words ∙ ap (λ k. join w.pre (Tree n (Words chars) k w.post)) no_kids in
        halves_bear w.pre w.post (spot_as (tree_of s.trees 0) p (join w.pre (Tree n w.content w.kids w.post)) (join w.pre (Tree n (Words chars) Nil w.post)) same w.spot)

  -- ---- a loose text

  module _ (loose_n : IsLoose s n) (loose_p : IsLoose s p) where
    still2 : tree_of s2.trees 0 ≡ tree_of s.trees 0
    unfolding s2 is_made_edit
    still2 = elim (cases_Bool (may_insert s1 p b x)) [
      | inl may ↦ document2 may ∙ put_under_nowhere (tree_of s.trees 0) p b leaf loose_p
      | inr off ↦ ap (λ f. tree_of f 0) (trees_left (Insert p b x) s1 off ∙ trees1) ∙ document-with_leaf s.trees s.next is.valid.forest x c
    ]

    loose_bear : tree_of s4.trees 0 ≡ tree_of s.trees 0
    loose_bear = elim (cases_Bool (may_replace s3 n at (length chars - at) [])) [
      | inl may ↦ cut_made may ∙ (ap (λ f. revised f n g) still2 ∙ revised_none (tree_of s.trees 0) n g loose_n)
      | inr off ↦ cut_left off ∙ still2
    ]

  -- ---- both

  text_bears : (IsWithin s.trees 0 n → is_editable_for s n ≡ true) → leaves (tree_of s4.trees 0) ≡ leaves (tree_of s.trees 0)
  text_bears editable = by_count (count_of (tree_of s.trees 0) p) refl
    where
      by_count : (k : ℕ) → count_of (tree_of s.trees 0) p ≡ k → leaves (tree_of s4.trees 0) ≡ leaves (tree_of s.trees 0)
      by_count zero e = ap leaves (loose_bear (loose_parent s is.valid n p up e) e)
      by_count (suc k) e = seated_bear (editable (within_below s.trees s.next is.valid.forest p n up (omega (arith, e)))) (seat s is.valid n p up (omega (arith, e)))

  chars_is : characters_of s.trees n ≡ chars
  chars_is = ap (λ (o : Option Content). unwrap_or (option_and_then chars_in o) []) text

  pub split_under_keeps : (IsWithin s.trees 0 n → is_editable_for s n ≡ true) → KeepsOrder s (final (split_under p s n at) s)
  unfolding split_under s1 s2 s3 s4 x b c
  split_under_keeps editable =
      rw (chars_is, final-bind, final-make_words, value-make_words, final-bind, final-edit, value-edit, final-bind, final-bind, final-edit, final-answer)
      (keeps_same (tree_of s.trees 0) (tree_of s4.trees 0) (text_bears editable))

pub split_keeps : (n at : ℕ) (chars : List ℕ) (s : State) → IsKeeping s → content_of s.trees n ≡ Some (Words chars) → (IsWithin s.trees 0 n → is_editable_for s n ≡ true) → KeepsOrder s (final (split_words n at) s)
unfolding split_words
split_keeps n at chars s is text editable = rw final-look (by_parent (parent_of s.trees n) refl)
  where
    by_parent : (o : Option ℕ) → parent_of s.trees n ≡ o → KeepsOrder s (final (given o (answer n) (λ p. split_under p s n at)) s)
    by_parent None root = rw final-answer (keeps_refl (document_of s.trees))
    by_parent (Some p) up = split_under_keeps s is p n at chars up text editable
