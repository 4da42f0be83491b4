-- Of two children of a node, the one that stands first in the list of its children comes first in tree order.
use Rattle.std.proofs.Common.{◌≡◌, ◌≢◌, ℕ, ◌+◌, ◌<◌, Bool, true, false, ◌&&◌, ◌||◌, eqb, if◌then◌else◌, List, [], ◌∷◌, ◌++◌, Option, Some, refl, sym, ap, ◌∙◌, arith, nat_lt}
use Rattle.std.proofs.lemmas.Bool.{ne_eqb, lt-ltb}
use Rattle.edit_model.specs.DomModel.declared.Content.{Content}
use Rattle.edit_model.specs.DomModel.Forest.{Forest, is_label, times, tops, count_of, IsDistinct, children_of, preorder_onto, join}
use Rattle.edit_model.specs.DomModel.Forest.Forest.{Nil, Tree}
use Rattle.edit_model.specs.DomModel.Places.{first_among, first_of_two}
use Rattle.edit_model.proofs.DomModel.Lists.{times-append}
use Rattle.edit_model.proofs.DomModel.Stands.{times-tops}
use Rattle.edit_model.proofs.DomModel.Links.{parent_count, times-children_of, eqb_refl_true}
use Rattle.edit_model.specs.PointOrder.PointOrder.{is_earlier}
use Rattle.edit_model.specs.State.{State}
use Rattle.edit_model.specs.Valid.{IsValid}
use Rattle.edit_laws.proofs.Around.{Around, Here, Below, Past, fill, count_around, count-fill, Spot, spot_here, spot_count, spot_top, self_one, off_by}
use Rattle.edit_laws.proofs.Fronts.{child_by}
use Rattle.edit_laws.proofs.Patterns.{count-join}
use Rattle.edit_laws.proofs.Seats.{parts_of, headed}

preorder-join : (f g : Forest Content) (ls : List ℕ) → preorder_onto (join f g) ls ≡ preorder_onto f (preorder_onto g ls)
preorder-join Nil g ls = refl
preorder-join (Tree m c ks rest) g ls = ap (λ k. m ∷ preorder_onto ks k) (preorder-join rest g ls)

both_hold : {v w : Bool} (o p : Option ℕ) → v ≡ true → w ≡ true → (if v && w then o else p) ≡ o
both_hold o p e k = rw (e, k) refl

one_fails : (v w : Bool) (o p : Option ℕ) → v ≡ false → (if v && w then o else p) ≡ p
one_fails v w o p e = rw e refl

-- of a and b, x comes first
module _ (a b x : ℕ) (hit : (eqb x a || eqb x b) ≡ true) where
  passed : (f : Forest Content) (ls : List ℕ) → count_of f a ≡ 0 → count_of f b ≡ 0 → first_among (preorder_onto f ls) a b ≡ first_among ls a b
  passed Nil ls na nb = refl
  passed (Tree m c ks rest) ls na nb =
      rw (off_by m a (omega (arith, na)), off_by m b (omega (arith, nb)))
      (passed ks (preorder_onto rest ls) (omega (arith, na)) (omega (arith, nb)) ∙ passed rest ls (omega (arith, na)) (omega (arith, nb)))

  ComesFirst : Forest Content → Type 0
  ComesFirst g = (ls : List ℕ) → first_among (preorder_onto g ls) a b ≡ Some x

  within_around : (w : Around) (g : Forest Content) → count_around w a ≡ 0 → count_around w b ≡ 0 → ComesFirst g → ComesFirst (fill w g)
  unfolding ComesFirst
  within_around Here g na nb h = h
  within_around (Below m c w rest) g na nb h = λ ls.
      rw (off_by m a (omega (arith, na)), off_by m b (omega (arith, nb))) (within_around w g (omega (arith, na)) (omega (arith, nb)) h (preorder_onto rest ls))
  within_around (Past m c ks w) g na nb h = λ ls.
      rw (off_by m a (omega (arith, na)), off_by m b (omega (arith, nb)), passed ks (preorder_onto (fill w g) ls) (omega (arith, na)) (omega (arith, nb)))
      (within_around w g (omega (arith, na)) (omega (arith, nb)) h ls)

  first_around : (w : Around) (g : Forest Content) → count_around w a ≡ 0 → count_around w b ≡ 0 → 0 < count_of g a → 0 < count_of g b → ComesFirst g → first_of_two g a b ≡ Some x → first_of_two (fill w g) a b ≡ Some x
  unfolding ComesFirst
  first_around Here g na nb ha hb h t = t
  first_around (Below m c w rest) g na nb ha hb h t =
      let inner : ComesFirst (fill w g) = within_around w g (omega (arith, na)) (omega (arith, nb)) h in
      let one : first_among (m ∷ preorder_onto (fill w g) []) a b ≡ Some x = rw (off_by m a (omega (arith, na)), off_by m b (omega (arith, nb))) (inner []) in
      both_hold _ _
      (lt-ltb 0 (count_of (Tree m c (fill w g) Nil) a) (omega (arith, ha, count-fill w g a)))
      (lt-ltb 0 (count_of (Tree m c (fill w g) Nil) b) (omega (arith, hb, count-fill w g b)))
      ∙ one
  first_around (Past m c ks w) g na nb ha hb h t =
      let out : count_of (Tree m c ks Nil) a ≡ 0 = omega (arith, na) in
      one_fails _ _ _ _ (ap (nat_lt 0) out) ∙ first_around w g (omega (arith, na)) (omega (arith, nb)) ha hb h t

  -- among the children of o, behind others
  first_below : (o : ℕ) (c : Content) (kids rest pre : Forest Content) (e : Content) (g post : Forest Content) → kids ≡ join pre (Tree x e g post) → count_of pre a ≡ 0 → count_of pre b ≡ 0 → eqb o a ≡ false → eqb o b ≡ false → ComesFirst (Tree o c kids rest)
  unfolding ComesFirst
  first_below o c kids rest pre e g post is na nb oa ob = λ ls.
      let down : first_among (preorder_onto pre (preorder_onto (Tree x e g post) (preorder_onto rest ls))) a b ≡ Some x = passed pre (preorder_onto (Tree x e g post) (preorder_onto rest ls)) na nb ∙ rw hit refl in
      rw (oa, ob) (ap (λ k. first_among (preorder_onto k (preorder_onto rest ls)) a b) is ∙ (ap (λ k. first_among k a b) (preorder-join pre (Tree x e g post) (preorder_onto rest ls)) ∙ down))

pub first_sibling : (f : Forest Content) → IsDistinct f → (a b x o : ℕ) (before after : List ℕ) → (eqb x a || eqb x b) ≡ true → 0 < count_of f o → children_of f o ≡ before ++ x ∷ after → 0 < times (x ∷ after) a → 0 < times (x ∷ after) b → first_of_two f a b ≡ Some x
unfolding ComesFirst
first_sibling f once a b x o before after hit here kids among_a among_b =
    let place = spot_here f o here in
    let own : children_of f o ≡ tops place.0 = children_at place.0 place.1 in
    let p = parts_of place.0 before (x ∷ after) (sym own ∙ kids) in
    let h = headed p.second x after p.seconds in
    let is : place.0 ≡ join p.first (Tree x h.content h.kids h.post) = p.is ∙ ap (join p.first) h.is in
    let inner : (l : ℕ) → 0 < times (x ∷ after) l → 0 < count_of p.second l = λ l k. (let t = ap (λ z. times z l) p.seconds in omega (arith, k, t, times-tops p.second l)) in
    let all : (l : ℕ) → count_of place.0 l ≡ count_of p.first l + count_of p.second l = λ l. ap (λ z. count_of z l) p.is ∙ count-join p.first p.second l in
    let one = spot_count f once o place.0 place.1 in
    let ka = inner a among_a in
    let kb = inner b among_b in
    let oa = off_by o a (omega (arith, one a, all a, ka)) in
    let ob = off_by o b (omega (arith, one b, all b, kb)) in
    let g : Forest Content = Tree o place.1.content place.0 place.1.rest in
    let comes : ComesFirst a b x hit g =
    first_below a b x hit o place.1.content place.0 place.1.rest p.first h.content h.kids h.post is (omega (arith, one a, all a, ka)) (omega (arith, one b, all b, kb)) oa ob in
    ap (λ k. first_of_two k a b) place.1.is
    ∙ first_around a b x hit place.1.around g (omega (arith, one a, all a, ka)) (omega (arith, one b, all b, kb)) (omega (arith, all a, ka)) (omega (arith, all b, kb)) comes
    (at_top place.1.content place.0 place.1.rest p.first h.content h.kids h.post is (omega (arith, one a, all a, ka)) (omega (arith, one b, all b, kb)) oa ob (omega (arith, all a, ka)) (omega (arith, all b, kb)))
  where
    children_at : (ks : Forest Content) (w : Spot f o ks) → children_of f o ≡ tops ks
    children_at ks w = rw (spot_top f once o ks w) refl

    at_top : (c : Content) (kids rest pre : Forest Content) (e : Content) (g post : Forest Content) → kids ≡ join pre (Tree x e g post) → count_of pre a ≡ 0 → count_of pre b ≡ 0 → eqb o a ≡ false → eqb o b ≡ false → 0 < count_of kids a → 0 < count_of kids b → first_of_two (Tree o c kids rest) a b ≡ Some x
    at_top c kids rest pre e g post is na nb oa ob ha hb =
        both_hold _ _ (lt-ltb 0 (count_of (Tree o c kids Nil) a) (omega (arith, ha))) (lt-ltb 0 (count_of (Tree o c kids Nil) b) (omega (arith, hb)))
        ∙ first_below a b x hit o c kids Nil pre e g post is na nb oa ob []

-- ---- of the siblings p and a

module _ (s : State) (is : IsValid s) (p a o : ℕ) (before after : List ℕ) where
  known : (x : ℕ) → children_of s.trees o ≡ before ++ x ∷ after → 0 < count_of s.trees o
  known x kids =
      let k = ap (λ l. times l x) kids in
      (parent_count s.trees x o is.forest.distinct (child_by s is o x (omega (arith, k, times-append before (x ∷ after) x, self_one x)))).1

  apart : (x y : ℕ) → children_of s.trees o ≡ before ++ x ∷ after → 0 < times after y → x ≢ y
  apart x y kids among e =
      let k = ap (λ l. times l y) kids in
      let one : eqb x y ≡ true = ap (λ l. eqb l y) e ∙ eqb_refl_true y in
      let sum = times-append before (x ∷ after) y in
      let sum' = rw one at sum in
      omega (arith, k, sum', times-children_of s.trees o y is.forest.distinct, among)

  pub before_list : children_of s.trees o ≡ before ++ p ∷ after → 0 < times after a → is_earlier s.trees p a ≡ true
  before_list kids among =
      ap (λ k. is_label k p) (first_sibling s.trees is.forest.distinct p a p o before after (rw (eqb_refl_true p) refl) (known p kids) kids (omega (arith, self_one p)) (omega (arith, among)))
      ∙ eqb_refl_true p

  pub after_list : children_of s.trees o ≡ before ++ a ∷ after → 0 < times after p → is_earlier s.trees p a ≡ false
  after_list kids among =
      ap (λ k. is_label k p) (first_sibling s.trees is.forest.distinct p a a o before after (either_true (eqb a p)) (known a kids) kids (omega (arith, among)) (omega (arith, self_one a)))
      ∙ ne_eqb a p (apart a p kids among)
    where
      either_true : (v : Bool) → (v || eqb a a) ≡ true
      either_true true = refl
      either_true false = eqb_refl_true a
