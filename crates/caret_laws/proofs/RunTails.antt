-- A tail is extracted by a run of edits with their own tests, where each node that goes may be removed by itself.
use Rattle.std.proofs.Common.{◌≡◌, ℕ, zero, suc, Bool, true, false, if◌then◌else◌, eqb, List, [], ◌∷◌, drop, Option, Some, None, refl, sym, ap, ◌∙◌}
use Rattle.std.specs.Option.{option_map_or}
use Rattle.edit_model.specs.DomModel.Forest.{children_of}
use Rattle.edit_model.specs.LiveRange.declared.places.Point.{Point}
use Rattle.edit_model.specs.PointOrder.PointOrder.{child_toward}
use Rattle.edit_model.specs.State.{State}
use Rattle.edit_model.specs.Confined.{may_remove}
use Rattle.edit_model.specs.Edit.{Insert, Remove, is_made_edit, edited}
use Rattle.edit_model.specs.Action.{made, applied, tail_of, may_extract, extracted}
use Rattle.edit_model.specs.Run.{Run, ◌>>=◌, final, value, done, given}
use Rattle.edit_model.specs.Tail.{later, copy_of, document_size}
use Rattle.edit_model.specs.Valid.{IsValid}
use Rattle.edit_model.proofs.Giving.{final_distinct_element}
use Rattle.edit_model.proofs.Steps.{final-bind, final-answer, final-look, value-look, final-edit, value-make_element, for_each-cons, for_each-nil}
use Rattle.edit_model.proofs.TailPlan.{is_copy}
use Rattle.edit_model.proofs.ValidParts.{valid_copied}
use Rattle.caret_laws.specs.SingleEdits.{taken_out, brought, brought_all, later_brought, tail_brought}
use Rattle.caret_laws.specs.TailRun.{bring, bring_all, copy_node, bring_later, bring_rest, bring_tail, extract_by_edits, GoesAlone, Leave}
use Rattle.caret_laws.proofs.SingleTails.{made_alone, extracted_is}

removed_is : (n : ℕ) (u : State) → edited (Remove n) u ≡ taken_out may_remove n u
unfolding edited applied is_made_edit taken_out
removed_is n u = refl

bring_is : (d n : ℕ) (u : State) → final (bring d n) u ≡ brought may_remove d n u
unfolding bring brought
bring_is d n u = rw (final-bind, final-edit, final-bind, final-edit, final-answer) (ap (λ w. edited (Insert d None n) w) (removed_is n u))

all_is : (d : ℕ) (xs : List ℕ) (u : State) → final (bring_all d xs) u ≡ brought_all may_remove d xs u
unfolding bring_all brought_all
all_is d [] u = rw for_each-nil (final-answer tt u)
all_is d (x ∷ xs) u = rw (for_each-cons, final-bind, bring_is d x u) (all_is d xs (brought may_remove d x u))

later_is : (c d k : ℕ) (u : State) → final (bring_later c d k) u ≡ later_brought may_remove c d k u
unfolding bring_later later_brought
later_is c d k u = final-look _ u ∙ all_is d (later (children_of u.trees c) k) u

copy_made : (k : ℕ) (u : State) → IsValid u → final (copy_node k) u ≡ made (copy_of u.trees k) u
unfolding copy_node copy_of
copy_made k u is = final-look _ u ∙ final_distinct_element _ _ u (is_copy u.trees is.forest.nodes k).2

copy_label : (k : ℕ) (u : State) → value (copy_node k) u ≡ u.next
unfolding copy_node
copy_label k u = value-look _ u ∙ value-make_element _ _ u

rest_is : (c d k x : ℕ) (m : Run (Unit {0})) (u : State) → final (bring_rest c d k x m) u ≡ final (bring_later c d k) (edited (Insert d None x) (final m u))
unfolding bring_rest
rest_is c d k x m u = rw (final-bind, final-bind, final-edit) refl

module _ (from : Point) where
  abbrev Inner : ℕ → Type 0
  Inner fuel = (c d : ℕ) (u : State) → IsValid u → final (bring_tail fuel from c d) u ≡ tail_brought may_remove fuel from c d u

  through_is : (fuel c d k : ℕ) (u : State) → IsValid u → Inner fuel → final (copy_node k >>= (λ x. bring_rest c d k x (bring_tail fuel from k x))) u
      ≡ later_brought may_remove c d k (edited (Insert d None u.next) (tail_brought may_remove fuel from k u.next (made (copy_of u.trees k) u)))
  through_is fuel c d k u is inner =
      let K : ℕ → Run (Unit {0}) = λ x. bring_rest c d k x (bring_tail fuel from k x) in
      let v = made (copy_of u.trees k) u in
      final-bind (copy_node k) K u
      ∙ (ap (λ x. final (bring_rest c d k x (bring_tail fuel from k x)) (final (copy_node k) u)) (copy_label k u)
      ∙ (ap (λ w. final (bring_rest c d k u.next (bring_tail fuel from k u.next)) w) (copy_made k u is)
      ∙ (rest_is c d k u.next (bring_tail fuel from k u.next) v
      ∙ (ap (λ w. final (bring_later c d k) (edited (Insert d None u.next) w)) (inner k u.next v (valid_copied (copy_of u.trees k) u (is_copy u.trees is.forest.nodes k) is))
      ∙ later_is c d k (edited (Insert d None u.next) (tail_brought may_remove fuel from k u.next v))))))

  tail_is : (fuel : ℕ) → Inner fuel
  unfolding bring_tail tail_brought
  tail_is zero c d u is = final-answer tt u
  tail_is (suc fuel) c d u is = final-look _ u ∙ by (tail_is fuel) (eqb from.label c) (child_toward u.trees c from.label)
    where
      by : Inner fuel → (v : Bool) (o : Option ℕ)
          → final (if v then bring_all d (drop from.offset (children_of u.trees c))
          else given o done λ k. copy_node k >>= λ x. bring_rest c d k x (bring_tail fuel from k x)) u
          ≡ (if v then brought_all may_remove d (drop from.offset (children_of u.trees c)) u
          else option_map_or (λ k. later_brought may_remove c d k (edited (Insert d None u.next) (tail_brought may_remove fuel from k u.next (made (copy_of u.trees k) u)))) o u)
      by inner true o = all_is d (drop from.offset (children_of u.trees c)) u
      by inner false None = final-answer tt u
      by inner false (Some k) = through_is fuel c d k u is inner

pub tails_run : (s : State) (from : Point) (end target : ℕ) → IsValid s → may_extract s from end target ≡ true → Leave (GoesAlone s) (tail_of s from end target)
    → final (extract_by_edits from end target) s ≡ extracted from end target s
unfolding extract_by_edits
tails_run s from end target is may alone =
    final-look _ s
    ∙ (tail_is from (document_size s.trees) end target s is
    ∙ (made_alone s is from end target may alone ∙ sym (extracted_is s is from end target may)))
