-- Consecutive children of a node go to the end of another child that stands before them there, which is open as the node is: all of
-- them go, in order.
use Rattle.std.proofs.Common.{◌≡◌, ◌≢◌, ℕ, ◌<◌, zero, suc, Bool, true, false, ◌&&◌, ◌||◌, not, cond, eqb, List, [], ◌∷◌, ◌++◌, Option, Some, None, is_none, refl, sym, ap, subst, ◌∙◌, inl, inr, arith, append_assoc}
use Rattle.std.specs.Option.{option_map_or}
use Rattle.std.proofs.lemmas.Bool.{cases_Bool, ne_eqb, lt-ltb, ltb-true}
use Rattle.std.proofs.lemmas.List.{append-nil}
use Rattle.edit_model.specs.DomModel.declared.Content.{Content}
use Rattle.edit_model.specs.DomModel.Contents.{is_parent_at, may_have_children}
use Rattle.edit_model.specs.DomModel.Forest.{times, put_in, count_of, tree_of, parent_of, children_of, next_of, content_of}
use Rattle.edit_model.proofs.DomModel.Lists.{times-append}
use Rattle.edit_model.proofs.DomModel.Links.{parent_count, times-children_of, eqb_refl_true}
use Rattle.edit_model.proofs.DomModel.Move.{parent_apart}
use Rattle.edit_model.specs.PointOrder.PointOrder.{is_within, is_in_document}
use Rattle.edit_model.specs.State.{State}
use Rattle.edit_model.specs.Confined.{is_open, may_go, may_move}
use Rattle.edit_model.specs.Edit.{Move, edited}
use Rattle.edit_model.specs.Valid.{IsValid}
use Rattle.edit_model.specs.Moves.{move_last}
use Rattle.edit_model.specs.Run.{final, edit, for_each}
use Rattle.edit_model.proofs.CommandParts.{SameCommand, final_command}
use Rattle.edit_model.proofs.Documents.{within_above, within_below}
use Rattle.edit_model.proofs.Steps.{final-answer, final-bind, final-edit, for_each-cons, for_each-nil}
use Rattle.edit_laws.proofs.Around.{self_one}
use Rattle.edit_laws.proofs.Fronts.{child_by}
use Rattle.edit_laws.proofs.Handing.{final_move_last}
use Rattle.edit_laws.proofs.Slides.{parent_other, not_within_beside}
use Rattle.command_laws.proofs.SteadySplits.{valid_final}
use Rattle.command_laws.proofs.Together.{dropped, dropped-append, dropped-absent, put_in-end}
use Rattle.command_laws.proofs.Growing.{moved_to, only}
use Rattle.command_laws.proofs.Openness.{open_same}
use Rattle.command_laws.proofs.Copies.{all_seven}

pub record Gone (s t : State) (q p : ℕ) (front list rest : List ℕ) : Type 0 where
  pub valid : IsValid t
  pub above : children_of t.trees q ≡ front ++ rest
  pub inner : children_of t.trees p ≡ children_of s.trees p ++ list
  pub others : (o : ℕ) → q ≢ o → p ≢ o → children_of t.trees o ≡ children_of s.trees o
  pub moved : (l : ℕ) → 0 < times list l → parent_of t.trees l ≡ Some p
  pub stays : (l : ℕ) → times list l ≡ 0 → parent_of t.trees l ≡ parent_of s.trees l
  pub content : (l : ℕ) → content_of t.trees l ≡ content_of s.trees l

-- both stand under q, and are open
record Beside (s : State) (q p : ℕ) : Type 0 where
  is : IsValid s
  up : parent_of s.trees p ≡ Some q
  above : is_open s q ≡ true
  own : is_open s p ≡ true
  kind : is_parent_at s.trees p ≡ true

module _ (s : State) (q p : ℕ) (w : Beside s q p) (front : List ℕ) (k : ℕ) (rest : List ℕ) (kids : children_of s.trees q ≡ front ++ k ∷ rest) (off : k ≢ p) where
  child : parent_of s.trees k ≡ Some q
  child = child_by s w.is q k (let c = ap (λ m. times m k) kids in omega (arith, c, times-append front (k ∷ rest) k, self_one k))

  outside : is_within s.trees k p ≡ false
  outside = elim (cases_Bool (is_within s.trees k p)) [
    | inl e ↦ absurd (not_within_beside s.trees w.is.forest.distinct k q p child w.up off (ltb-true 0 (count_of (tree_of s.trees k) p) e))
    | inr e ↦ e
  ]

  inside : (not (is_in_document s.trees k) || is_in_document s.trees p) ≡ true
  inside = by (is_in_document s.trees k) refl
    where
      by : (v : Bool) → is_in_document s.trees k ≡ v → (not v || is_in_document s.trees p) ≡ true
      by false e = refl
      by true e =
          let above = within_above s.trees s.next w.is.forest q k child (ltb-true 0 (count_of (tree_of s.trees 0) k) e) in
          lt-ltb 0 (count_of (tree_of s.trees 0) p) (within_below s.trees s.next w.is.forest q p w.up above)

  may : may_move s k p None ≡ true
  unfolding may_move
  may =
      ap (λ o. may_go s k o p None) child
      ∙ all_seven w.above w.own w.kind (ap not outside) refl inside (ap (λ v. not (v && is_none (next_of s.trees k))) (ne_eqb q p (parent_other s.trees w.is.forest.distinct p q w.up)))

  valid_t : IsValid (edited (Move k p None) s)
  valid_t = subst IsValid (final-edit (Move k p None) s) (valid_final (edit (Move k p None)) s w.is)

  gone_one : Gone s (edited (Move k p None) s) q p front (k ∷ []) rest
  gone_one =
      let t : State = edited (Move k p None) s in
      let g = moved_to k p None s w.is may in
      let from : g.from ≡ q = (let e : Some g.from ≡ Some q = sym g.child ∙ child in let e' = e in cc) in
      let children : (o : ℕ) → children_of t.trees o ≡ cond (eqb p o) (put_in (cond (eqb q o) (dropped (children_of s.trees o) k) (children_of s.trees o)) None k) (cond (eqb q o) (dropped (children_of s.trees o) k) (children_of s.trees o)) =
      λ o. subst (λ f. children_of t.trees o ≡ cond (eqb p o) (put_in (cond (eqb f o) (dropped (children_of s.trees o) k) (children_of s.trees o)) None k) (cond (eqb f o) (dropped (children_of s.trees o) k) (children_of s.trees o))) from (g.children o) in
      let apart : q ≢ p = parent_other s.trees w.is.forest.distinct p q w.up in
      let c = ap (λ m. times m k) kids in
      let once = times-children_of s.trees q k w.is.forest.distinct in
      let no_front : times front k ≡ 0 = omega (arith, c, once, times-append front (k ∷ rest) k, self_one k) in
      let no_rest : times rest k ≡ 0 = omega (arith, c, once, times-append front (k ∷ rest) k, self_one k) in
      let first : dropped (k ∷ rest) k ≡ rest = rw (eqb_refl_true k) (dropped-absent rest k no_rest) in
      let out : dropped (children_of s.trees q) k ≡ front ++ rest =
      ap (λ m. dropped m k) kids ∙ (dropped-append front (k ∷ rest) k ∙ (ap (λ m. m ++ dropped (k ∷ rest) k) (dropped-absent front k no_front) ∙ ap (λ m. front ++ m) first)) in
      record {
        valid = valid_t;
        above = children q ∙ rw (ne_eqb p q (λ e. apart (sym e)), eqb_refl_true q) out;
        inner = children p ∙ rw (eqb_refl_true p, ne_eqb q p apart) (put_in-end (children_of s.trees p) k);
        others = λ o no_q no_p. children o ∙ rw (ne_eqb p o no_p, ne_eqb q o no_q) refl;
        moved = λ l h. subst (λ m. parent_of t.trees m ≡ Some p) (only k l h) g.own;
        stays = λ l none. g.parent l (λ e. (let m = ap (times (k ∷ [])) e in omega (arith, none, m, self_one k)));
        content = g.content;
      }

  beside_t : Beside (edited (Move k p None) s) q p
  beside_t =
      let t : State = edited (Move k p None) s in
      let one = gone_one in
      let g = moved_to k p None s w.is may in
      let command : SameCommand s t = subst (SameCommand s) (final-edit (Move k p None) s) (final_command (edit (Move k p None)) s) in
      let known : 0 < count_of s.trees k = (parent_count s.trees k q w.is.forest.distinct child).0 in
      record {
        is = valid_t;
        up = g.parent p off ∙ w.up;
        above = open_same s t w.is valid_t command k known g.parent g.content q (parent_apart s.trees k q w.is.forest.distinct child) ∙ w.above;
        own = open_same s t w.is valid_t command k known g.parent g.content p (not_within_beside s.trees w.is.forest.distinct k q p child w.up off) ∙ w.own;
        kind = ap (λ (c : Option Content). option_map_or may_have_children c false) (g.content p) ∙ w.kind;
      }

gone_each : (list front rest : List ℕ) (q p : ℕ) (s : State) → Beside s q p → children_of s.trees q ≡ front ++ (list ++ rest) → times list p ≡ 0 → Gone s (final (for_each list (move_last p)) s) q p front list rest
gone_each [] front rest q p s w kids none =
    rw (for_each-nil, final-answer)
    (record {
      valid = w.is;
      above = kids;
      inner = sym (append-nil (children_of s.trees p));
      others = λ o no_q no_p. refl;
      moved = λ l h. absurd (omega (arith, h));
      stays = λ l _. refl;
      content = λ l. refl;
    })
gone_each (k ∷ list) front rest q p s w kids none =
    let off : k ≢ p = λ e. (let m = ap (λ y. times (y ∷ list) p) e in omega (arith, none, m, self_one p)) in
    let t : State = edited (Move k p None) s in
    let one = gone_one s q p w front k (list ++ rest) kids off in
    let more = gone_each list front rest q p t (beside_t s q p w front k (list ++ rest) kids off) one.above (omega (arith, none)) in
    rw (for_each-cons, final-bind, final_move_last p k s)
    (record {
      valid = more.valid;
      above = more.above;
      inner = more.inner ∙ (ap (λ m. m ++ list) one.inner ∙ append_assoc (children_of s.trees p) (k ∷ []) list);
      others = λ o no_q no_p. more.others o no_q no_p ∙ one.others o no_q no_p;
      moved = λ l h. by_count l (times list l) refl h (more.moved l) (λ e. more.stays l e) (one.moved l);
      stays = λ l e. more.stays l (omega (arith, e)) ∙ one.stays l (omega (arith, e));
      content = λ l. more.content l ∙ one.content l;
    })
  where
    by_count : (l m : ℕ) → times list l ≡ m → 0 < times (k ∷ list) l → (0 < times list l → parent_of (final (for_each list (move_last p)) (edited (Move k p None) s)).trees l ≡ Some p)
        → (times list l ≡ 0 → parent_of (final (for_each list (move_last p)) (edited (Move k p None) s)).trees l ≡ parent_of (edited (Move k p None) s).trees l)
        → (0 < times (k ∷ []) l → parent_of (edited (Move k p None) s).trees l ≡ Some p) → parent_of (final (for_each list (move_last p)) (edited (Move k p None) s)).trees l ≡ Some p
    by_count l zero e h moved stays own = stays e ∙ own (omega (arith, e, h))
    by_count l (suc m) e h moved stays own = moved (omega (arith, e))

pub gone_all : (list front rest : List ℕ) (q p : ℕ) (s : State) → IsValid s → parent_of s.trees p ≡ Some q → is_open s q ≡ true → is_open s p ≡ true → is_parent_at s.trees p ≡ true → children_of s.trees q ≡ front ++ (list ++ rest) → times list p ≡ 0
    → Gone s (final (for_each list (move_last p)) s) q p front list rest
gone_all list front rest q p s is up above own kind kids none = gone_each list front rest q p s (record { is = is; up = up; above = above; own = own; kind = kind }) kids none
