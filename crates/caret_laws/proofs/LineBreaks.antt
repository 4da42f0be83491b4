-- From a caret on, inserting a line break keeps what the document bears: a text is split, and a br or two come.
use Rattle.std.proofs.Common.{◌≡◌, ℕ, Bool, true, false, ◌||◌, if◌then◌else◌, [], ◌++◌, Option, Some, None, refl, sym, ap, subst, ◌∙◌}
use Rattle.std.specs.Prelude.{codes}
use Rattle.edit_model.specs.DomModel.declared.Content.{Content}
use Rattle.edit_model.specs.DomModel.declared.Content.TheVariants.{Element}
use Rattle.edit_model.specs.DomModel.Editing.{is_host}
use Rattle.edit_model.specs.DomModel.Forest.{tree_of}
use Rattle.edit_model.specs.DomModel.Forest.Forest.{Nil}
use Rattle.edit_model.specs.LiveRange.declared.places.Point.{Point}
use Rattle.inline_value.specs.NodeTests.BlockPoints.{child_at}
use Rattle.inline_value.specs.NodeTests.SolidNeighbours.{is_extraneous_break, is_collapsed_break}
use Rattle.edit_model.specs.State.{State}
use Rattle.edit_model.specs.Confined.{is_inside}
use Rattle.edit_model.specs.Edit.{Insert, is_made_edit, trees_after, edited}
use Rattle.edit_model.specs.Kept.{leaves}
use Rattle.edit_model.specs.Action.{made}
use Rattle.edit_model.specs.Moves.{make_break}
use Rattle.edit_model.specs.Run.{◌>>=◌, final, value, answer, done, look, given, make_element}
use Rattle.edit_model.specs.Valid.{IsValid}
use Rattle.edit_model.proofs.Documents.{document-link}
use Rattle.edit_model.proofs.Steps.{final-bind, value-bind, final-answer, value-answer, final-look, final-edit, final-make_element, value-make_element}
use Rattle.edit_model.proofs.Tests.{inserts}
use Rattle.edit_model.proofs.ValidRuns.{final_valid}
use Rattle.edit_laws.specs.Order.{KeepsOrder}
use Rattle.edit_laws.proofs.Leaves.{leaves-Nil, leaves-Tree, leaves-put_under}
use Rattle.edit_laws.proofs.QuietActions.{same_trees, by_made}
use Rattle.edit_laws.proofs.NewElements.{new_bare}
use Rattle.edit_laws.proofs.Renaming.{plain_borne}
use Rattle.edit_laws.proofs.Subsequences.{keeps_same, keeps_refl, keeps_trans}
use Rattle.text_insertion.specs.Start.{active_start, if_point_inside, start_inside, insert_at, insert_at_start}
use Rattle.insert_objects.specs.LineBreak.{takes_break, repeat_break, put_break, break_line}
use Rattle.insert_objects.specs.Putting.{from_start_inside, collapse_after, leave_text, put}
use Rattle.caret_laws.proofs.BlindRuns.{kept}
use Rattle.caret_laws.proofs.PutElements.{Fine, left, is_kept_state, made_order, after_trees, start_caret}

-- ---- a br is put in

pub bare_insert : (p : ℕ) (b : Option ℕ) (x : ℕ) (u : State) → IsValid u → leaves (tree_of u.trees x) ≡ [] → KeepsOrder u (edited (Insert p b x) u)
unfolding is_made_edit trees_after
bare_insert p b x u is bare = by_made (Insert p b x) u (λ may. (
    let t = inserts u p b x may in
    keeps_same (tree_of u.trees 0) _ (ap leaves (document-link u.trees u.next is.forest p b x t.can) ∙ leaves-put_under (tree_of u.trees 0) p b (tree_of u.trees x) bare)))

insert_is : (x : ℕ) (p : Point) (u : State) → final (insert_at x p) u ≡ edited (Insert p.label (child_at u.trees p.label p.offset) x) u
unfolding insert_at
insert_is x p u = rw (final-look, final-bind, final-edit, final-answer) refl

pub start_keeps : (x : ℕ) (u : State) → IsValid u → leaves (tree_of u.trees x) ≡ [] → KeepsOrder u (final (insert_at_start x) u)
unfolding insert_at_start
start_keeps x u is bare = subst (λ t. KeepsOrder u t) (sym (final-look _ u)) (by (active_start u))
  where
    by : (o : Option Point) → KeepsOrder u (final (given o done (insert_at x)) u)
    by None = subst (λ t. KeepsOrder u t) (sym (final-answer tt u)) (keeps_refl (tree_of u.trees 0))
    by (Some p) = subst (λ t. KeepsOrder u t) (sym (insert_is x p u)) (bare_insert p.label (child_at u.trees p.label p.offset) x u is bare)

abbrev pub Br : Content
Br = Element (codes "br") []

pub br_bare : (u : State) → IsValid u → leaves (tree_of (made Br u).trees u.next) ≡ []
unfolding made
br_bare u is = new_bare (codes "br") [] (kept u) (is_kept_state u is) refl

pub br_valid : (u : State) → IsValid u → IsValid (made Br u)
br_valid u is = subst IsValid (final-make_element (codes "br") [] u) (final_valid (make_element (codes "br") []) u is)

another_is : (u : State) → final (make_break >>= insert_at_start) u ≡ final (insert_at_start u.next) (made Br u)
unfolding make_break
another_is u = rw (final-bind, final-make_element, value-make_element) refl

pub another_keeps : (u : State) → IsValid u → KeepsOrder u (final (make_break >>= insert_at_start) u)
another_keeps u is = subst (λ t. KeepsOrder u t) (sym (another_is u)) (keeps_trans (made_order Br u is) (start_keeps u.next (made Br u) (br_valid u is) (br_bare u is)))

repeat_keeps : (x : ℕ) (u : State) → IsValid u → KeepsOrder u (final (repeat_break x) u)
unfolding repeat_break
repeat_keeps x u is = subst (λ t. KeepsOrder u t) (sym (final-look _ u)) (by (is_extraneous_break u.trees x || is_collapsed_break u.trees x))
  where
    by : (v : Bool) → KeepsOrder u (final (if v then (make_break >>= insert_at_start) else done) u)
    by true = another_keeps u is
    by false = subst (λ t. KeepsOrder u t) (sym (final-answer tt u)) (keeps_refl (tree_of u.trees 0))

-- ---- the whole

module _ (s : State) (is : IsValid s) (p : Point) (caret : s.points.selection ≡ Some (record { anchor = p; focus = p })) (hosted : (h : ℕ) → s.host ≡ Some h → is_host s.trees h ≡ true) (inside : is_inside s p.label ≡ true) where
  is_v : IsValid (made Br s)
  is_v = br_valid s is

  left_br : Fine Br s is is_v p caret hosted inside (final leave_text (made Br s))
  left_br = left Br s is is_v p caret hosted inside

  put_is : final (put (codes "br") []) s ≡ final (insert_at_start s.next) (final leave_text (made Br s))
  unfolding put
  put_is = rw (final-bind, final-make_element, value-make_element, final-bind, final-bind, final-answer) refl

  put_label : value (put (codes "br") []) s ≡ s.next
  unfolding put
  put_label = rw (value-bind, value-make_element, value-bind, value-bind, value-answer) refl

  valid_left : IsValid (final leave_text (made Br s))
  valid_left = final_valid leave_text (made Br s) is_v

  bare_left : leaves (tree_of (final leave_text (made Br s)).trees s.next) ≡ []
  bare_left = ap leaves left_br.has.0 ∙ (leaves-Tree s.next Br Nil Nil ∙ (ap (λ l. l ++ (leaves Nil ++ leaves Nil)) (plain_borne s.next (codes "br") [] refl) ∙ rw leaves-Nil refl))

  put_keeps : KeepsOrder s (final (put (codes "br") []) s)
  put_keeps =
      subst (λ t. KeepsOrder s t) (sym put_is)
      (keeps_trans (made_order Br s is) (keeps_trans left_br.order (start_keeps s.next (final leave_text (made Br s)) valid_left bare_left)))

  break_keeps : KeepsOrder s (final put_break s)
  unfolding put_break
  break_keeps =
      let t = final (put (codes "br") []) s in
      let n = value (put (codes "br") []) s in
      let u = final (collapse_after n) t in
      let is_u = final_valid (collapse_after n) t (final_valid (put (codes "br") []) s is) in
      rw (final-bind, final-bind, final-bind, final-answer)
      (keeps_trans put_keeps (keeps_trans (same_trees t u (after_trees n t)) (repeat_keeps n u is_u)))

pub line_breaks_keep : (s : State) (p : Point) → IsValid s → s.points.selection ≡ Some (record { anchor = p; focus = p }) → ((h : ℕ) → s.host ≡ Some h → is_host s.trees h ≡ true)
    → KeepsOrder s (final (from_start_inside break_line) s)
unfolding start_inside break_line
line_breaks_keep s p is caret hosted =
    let at_caret : final (from_start_inside break_line) s ≡ final (given (if_point_inside s (Some p)) (answer true) break_line) s =
    final-look _ s ∙ ap (λ (o : Option Point). final (given (if_point_inside s o) (answer true) break_line) s) (start_caret s p caret) in
    subst (λ t. KeepsOrder s t) (sym at_caret) (by (is_inside s p.label) refl)
  where
    stays : {T : Type 0} (a : T) → KeepsOrder s (final (answer a) s)
    stays a = subst (λ t. KeepsOrder s t) (sym (final-answer a s)) (keeps_refl (tree_of s.trees 0))

    at_break : is_inside s p.label ≡ true → (v : Bool) → KeepsOrder s (final (if v then put_break else answer true) s)
    at_break inside true = break_keeps s is p caret hosted inside
    at_break inside false = stays true

    by : (v : Bool) → is_inside s p.label ≡ v → KeepsOrder s (final (given (if v then Some p else None) (answer true) (λ q. look λ u. if takes_break u q.label then put_break else answer true)) s)
    by true inside = subst (λ t. KeepsOrder s t) (sym (final-look _ s)) (at_break inside (takes_break s p.label))
    by false inside = stays true
