-- A turn of collecting items: a node is kept, renamed or wrapped, and the items stay together with what it became.
use Rattle.std.proofs.Common.{◌≡◌, ◌≢◌, ℕ, ◌<◌, zero, suc, Bool, true, false, ◌||◌, not, eqb, if◌then◌else◌, List, [], ◌∷◌, ◌++◌, Option, Some, None, refl, sym, ap, subst, ◌∙◌, inl, inr, arith, append_assoc, true≢false}
use Rattle.std.specs.Option.{option_map_or, option_and_then}
use Rattle.std.specs.Prelude.{codes, bytes_eq}
use Rattle.std.proofs.lemmas.Bool.{ne_eqb, eqb-true}
use Rattle.std.proofs.lemmas.List.{append-nil}
use Rattle.edit_model.specs.DomModel.declared.Content.{Content}
use Rattle.edit_model.specs.DomModel.Contents.{has_name, name_in, name_of}
use Rattle.edit_model.specs.DomModel.Forest.{times, parent_of, children_of, content_of}
use Rattle.edit_model.proofs.DomModel.Lists.{times-append}
use Rattle.edit_model.proofs.DomModel.Links.{parent_count}
use Rattle.edit_model.proofs.DomModel.Move.{parent_apart}
use Rattle.edit_model.proofs.DomModel.Within.{within_self, within_child}
use Rattle.inline_value.proofs.CssValue.Names.{same-name}
use Rattle.edit_model.specs.State.{State}
use Rattle.edit_model.specs.Confined.{is_editable_for, is_inside, is_open}
use Rattle.edit_model.specs.Compositions.{attribute_list_of, renamed, set_tag_name}
use Rattle.edit_model.specs.Edit.{Insert, edited}
use Rattle.edit_model.specs.Action.{made, element_content}
use Rattle.edit_model.specs.Valid.{IsValid}
use Rattle.edit_model.specs.Moves.{move_last, move_each_last}
use Rattle.edit_model.specs.Run.{final, value, ◌>>=◌, answer, remove, for_each}
use Rattle.edit_model.proofs.Steps.{final-bind, final-answer, final-look, final-edit, final-make_element, value-bind, value-answer, value-look, value-make_element}
use Rattle.edit_model.proofs.Trees.{none_or_some}
use Rattle.edit_laws.proofs.Fronts.{child_by}
use Rattle.edit_laws.proofs.Hosts.{parent_inside}
use Rattle.edit_laws.proofs.Slides.{parent_other}
use Rattle.inline_value.specs.EditActions.Siblings.{members}
use Rattle.command_laws.proofs.Together.{members-append, members-one, Together}
use Rattle.command_laws.proofs.Widening.{pushed-last}
use Rattle.command_laws.proofs.Growing.{Piece, Grown, Growing, growing_answer, growing_bind, growing_moves, growing_remove}
use Rattle.command_laws.proofs.Putting.{new_child, new_parent, put_new}
use Rattle.command_laws.proofs.Swallowing.{taken_grown}

-- x, a child of q, comes next
pub record Turn (s : State) (items : List ℕ) (x q n : ℕ) : Type 0 where
  pub is : IsValid s
  pub grown : Grown s items q n
  pub up : parent_of s.trees x ≡ Some q
  pub with : Together s (items ++ x ∷ [])

-- ---- it is kept

pub kept_grown : (s : State) (items : List ℕ) (x q n : ℕ) → Turn s items x q n → Grown s (items ++ x ∷ []) q n
kept_grown s items x q n w = record {
  together = w.with;
  below = w.grown.below;
  above = w.grown.above;
  apart = λ l r h up. elim (none_or_some (times items l)) [
    | inr some ↦ w.grown.apart l r some up
    | inl none ↦ (
        let sum = times-append items (x ∷ []) l in
        let one : 0 < times (x ∷ []) l = omega (arith, none, sum, h) in
        inl (by_only l r (eqb x l) refl one up))
  ];
  last = λ z r e up. (
      let same : x ≡ z = (let k : Some x ≡ Some z = sym (pushed-last None items x) ∙ e in let k' = k in cc) in
      let own : Some q ≡ Some r = sym w.up ∙ (ap (parent_of s.trees) same ∙ up) in
      sym (let k = own in cc));
}
  where
    by_only : (l r : ℕ) (v : Bool) → eqb x l ≡ v → 0 < times (x ∷ []) l → parent_of s.trees l ≡ Some r → r ≡ q
    by_only l r false e h up = absurd (let h' = rw e at h in omega (arith, h'))
    by_only l r true e h up =
        let same : x ≡ l = eqb-true x l e in
        let own : Some q ≡ Some r = sym w.up ∙ (ap (parent_of s.trees) same ∙ up) in
        sym (let k = own in cc)

-- ---- where it stands among the children of q

pub record Place (s : State) (items : List ℕ) (x q : ℕ) : Type 0 where
  pub front : List ℕ
  pub rest : List ℕ
  pub is : children_of s.trees q ≡ (front ++ members s q items) ++ x ∷ rest
  pub piece : Piece (members s q items) (children_of s.trees q)
  pub first : piece.front ≡ front

pub place_of : (s : State) (items : List ℕ) (x q n : ℕ) → Turn s items x q n → Place s items x q
place_of s items x q n w =
    let m = members s q items in
    let k = w.with.siblings q in
    let own : members s q (items ++ x ∷ []) ≡ m ++ x ∷ [] = members-append s q items (x ∷ []) ∙ ap (λ l. m ++ l) (members-one s q x w.up) in
    let shape : children_of s.trees q ≡ k.front ++ (m ++ x ∷ k.rest) = k.is ∙ (ap (λ l. k.front ++ (l ++ k.rest)) own ∙ ap (λ l. k.front ++ l) (append_assoc m (x ∷ []) k.rest)) in
    record {
      front = k.front;
      rest = k.rest;
      is = shape ∙ sym (append_assoc k.front m (x ∷ k.rest));
      piece = record { front = k.front; rest = x ∷ k.rest; is = shape };
      first = refl;
    }

pub not_above : (s : State) (items : List ℕ) (x q n : ℕ) → Turn s items x q n → q ≢ s.next
not_above s items x q n w e = new_parent s w.is (codes "li") [] x q w.up (sym e)

pub item_name : (s : State) (l : ℕ) (list : _) → content_of s.trees l ≡ Some (element_content (codes "li") list) → has_name s.trees l (codes "li") ≡ true
item_name s l list e = ap (λ (c : Option Content). option_map_or (λ own. bytes_eq own (codes "li")) (option_and_then name_in c) false) e

-- ---- it is renamed

pub either_name : (o : Option (List ℕ)) (a b : List ℕ) → option_map_or (λ own. bytes_eq own a) o false ≡ true → option_map_or (λ own. bytes_eq own b) o false ≡ true → bytes_eq a b ≡ true
either_name None a b h k = absurd (true≢false (sym h))
either_name (Some own) a b h k = subst (λ c. bytes_eq c b ≡ true) (same-name own a h) k

-- a p or div is no li
pub no_item_name : (s : State) (l : ℕ) → (has_name s.trees l (codes "p") || has_name s.trees l (codes "div")) ≡ true → has_name s.trees l (codes "li") ≡ true → ⊥
no_item_name s l h k = by (has_name s.trees l (codes "p")) refl h
  where
    by : (v : Bool) → has_name s.trees l (codes "p") ≡ v → (v || has_name s.trees l (codes "div")) ≡ true → ⊥
    by true e h = true≢false (sym (either_name (name_of s.trees l) (codes "p") (codes "li") e k))
    by false e h = true≢false (sym (either_name (name_of s.trees l) (codes "div") (codes "li") h k))

second_off : (a b : Bool) → (a || not b) ≡ false → b ≡ true
second_off true b h = absurd (true≢false h)
second_off false true h = refl
second_off false false h = absurd (true≢false h)

inside_open : (s : State) (l : ℕ) → is_inside s l ≡ true → is_open s l ≡ true
unfolding is_open
inside_open s l h = rw h refl

module _ (s : State) (items : List ℕ) (x q n : ℕ) (w : Turn s items x q n) (container : (has_name s.trees x (codes "p") || has_name s.trees x (codes "div")) ≡ true) where
  moves_apart : (k : ℕ) → 0 < times (children_of s.trees x) k → (times (items ++ s.next ∷ []) k ≡ 0) × (k ≢ q)
  moves_apart k h =
      let up = child_by s w.is x k h in
      let once = w.is.forest.distinct in (
        by_items k up (times items k) refl,
        λ e. (
            let above : parent_of s.trees q ≡ Some x = subst (λ l. parent_of s.trees l ≡ Some x) e up in
            let known = (parent_count s.trees x q once w.up).0 in
            parent_apart s.trees x q once w.up (within_child s.trees x once known q x above (within_self s.trees x once known))),
      )
    where
      by_items : (k : ℕ) → parent_of s.trees k ≡ Some x → (m : ℕ) → times items k ≡ m → times (items ++ s.next ∷ []) k ≡ 0
      by_items k up zero e =
          let off : eqb s.next k ≡ false = ne_eqb s.next k (new_child s w.is (codes "li") [] k x up) in
          let sum = times-append items (s.next ∷ []) k in
          let sum' = rw off at sum in
          omega (arith, e, sum')
      by_items k up (suc m) e = elim (w.grown.apart k x (omega (arith, e)) up) [
        | inl same ↦ absurd (parent_other s.trees w.is.forest.distinct x q w.up (sym same))
        | inr made ↦ absurd (no_item_name s x container made.1)
      ]

  new_item : (attributes : _) → is_editable_for s x ≡ true → Grown (edited (Insert q (Some x) s.next) (made (element_content (codes "li") attributes) s)) (items ++ s.next ∷ []) q n
  new_item attributes editable =
      let p = place_of s items x q n w in
      let m = members s q items in
      let opened = inside_open s q (parent_inside s w.is x q w.up editable) in
      let put = put_new s w.is (codes "li") attributes x q (p.front ++ m) p.rest w.up p.is opened in
      taken_grown s w.is items q n w.grown (new_child s w.is (codes "li") []) (new_parent s w.is (codes "li") []) (not_above s items x q n w)
      (edited (Insert q (Some x) s.next) (made (element_content (codes "li") attributes) s)) [] [] (p.front ++ m) (x ∷ p.rest) p.is p.piece
      (ap (λ l. l ++ m) p.first ∙ sym (append-nil (p.front ++ m)))
      (record {
        own = put.own;
        moved = λ l h. absurd (omega (arith, h));
        stays = λ l _ off. put.parent l off;
        above = put.above;
        inner = put.inner;
        others = λ o off _. put.others o off;
        content = λ l off. put.content l off;
        named = item_name (edited (Insert q (Some x) s.next) (made (element_content (codes "li") attributes) s)) s.next attributes put.named;
        more = put.more;
      })

  growing_rest : Growing (items ++ s.next ∷ []) q n (move_each_last (children_of s.trees x) s.next >>= (λ _. remove x >>= (λ _. answer s.next)))
  unfolding move_each_last
  growing_rest =
      growing_bind (items ++ s.next ∷ []) q n (for_each (children_of s.trees x) (move_last s.next)) (λ _. remove x >>= (λ _. answer s.next)) (growing_moves (items ++ s.next ∷ []) q n s.next (children_of s.trees x) moves_apart)
      (λ _. growing_bind (items ++ s.next ∷ []) q n (remove x) (λ _. answer s.next) (growing_remove (items ++ s.next ∷ []) q n x) (λ _. growing_answer (items ++ s.next ∷ []) q n s.next))

  pub renamed_grown : Grown (final (set_tag_name x (codes "li")) s) (items ++ value (set_tag_name x (codes "li")) s ∷ []) q n
  unfolding set_tag_name renamed
  renamed_grown = rw (final-look, value-look, w.up) (by_test (has_name s.trees x (codes "li") || not (is_editable_for s x)) refl)
    where
      by_test : (v : Bool) → (has_name s.trees x (codes "li") || not (is_editable_for s x)) ≡ v → Grown (final (if v then answer x else renamed q s x (codes "li")) s) (items ++ value (if v then answer x else renamed q s x (codes "li")) s ∷ []) q n
      by_test true e = rw (final-answer, value-answer) (kept_grown s items x q n w)
      by_test false e =
          let attributes = attribute_list_of s.trees x in
          let u : State = edited (Insert q (Some x) s.next) (made (element_content (codes "li") attributes) s) in
          let editable = second_off (has_name s.trees x (codes "li")) (is_editable_for s x) e in
          let p = place_of s items x q n w in
          let opened = inside_open s q (parent_inside s w.is x q w.up editable) in
          let put = put_new s w.is (codes "li") attributes x q (p.front ++ members s q items) p.rest w.up p.is opened in
          rw (final-bind, value-bind, final-make_element, value-make_element, final-bind, value-bind, final-edit)
          (rw (value-bind, value-bind, value-answer) (growing_rest.grows u put.valid (new_item attributes editable)))
