-- A tree that bears one thing is put in: the forest bears that thing more, at one place.
use Rattle.std.proofs.Common.{◌≡◌, ℕ, zero, suc, ◌+◌, ◌<◌, true, false, cond, List, [], ◌∷◌, ◌++◌, map, Option, Some, refl, sym, ap, subst, ◌∙◌, inl, inr, arith, append_assoc}
use Rattle.std.specs.List.{filter}
use Rattle.std.proofs.lemmas.Bool.{cases_Bool, eq-eqb, ne_eqb}
use Rattle.std.proofs.lemmas.Bool.Decides.{eqb_tells}
use Rattle.std.proofs.lemmas.List.Elements.{filter-append}
use Rattle.edit_model.specs.DomModel.declared.Content.{Content}
use Rattle.edit_model.specs.DomModel.Forest.{Forest, Seen, seek, tops, is_label, count_of, put_before, put_under, IsDistinct}
use Rattle.edit_model.specs.DomModel.Forest.Forest.{Nil, Tree}
use Rattle.edit_model.specs.DomModel.Revised.{revised}
use Rattle.edit_model.proofs.DomModel.Stands.{seek_absent}
use Rattle.edit_model.proofs.DomModel.Totals.{put_under_nowhere}
use Rattle.edit_model.specs.Kept.{Leaf, Letter, borne_by, leaves}
use Rattle.edit_model.proofs.Trees.{none_or_some}
use Rattle.edit_laws.proofs.Leaves.{leaves-Nil, leaves-Tree, leaves-join}
use Rattle.edit_laws.proofs.Splitting.{revised_none}
use Rattle.caret_laws.specs.SolidOrder.{is_solid, OneMore}
use Rattle.caret_laws.proofs.Solid.{put}

pub one_after : (x : Leaf) (pre before after : List Leaf) → OneMore x before after → OneMore x (pre ++ before) (pre ++ after)
one_after x pre before after m = record {
  front = pre ++ m.front;
  back = m.back;
  was = ap (λ l. pre ++ l) m.was ∙ sym (append_assoc pre m.front m.back);
  now = ap (λ l. pre ++ l) m.now ∙ sym (append_assoc pre m.front (x ∷ m.back));
}

pub one_first : (x : Leaf) (post before after : List Leaf) → OneMore x before after → OneMore x (before ++ post) (after ++ post)
one_first x post before after m = record {
  front = m.front;
  back = m.back ++ post;
  was = ap (λ l. l ++ post) m.was ∙ append_assoc m.front m.back post;
  now = ap (λ l. l ++ post) m.now ∙ append_assoc m.front (x ∷ m.back) post;
}

pub one_same : (x : Leaf) (b b' a a' : List Leaf) → b ≡ b' → a ≡ a' → OneMore x b a → OneMore x b' a'
one_same x b b' a a' e k m = record { front = m.front; back = m.back; was = sym e ∙ m.was; now = sym k ∙ m.now }

module _ (x : Leaf) (t : Forest Content) (one : leaves t ≡ x ∷ []) where
  one_before : (f : Forest Content) (b : Option ℕ) → OneMore x (leaves f) (leaves (put_before f b t))
  one_before Nil b = record { front = []; back = []; was = leaves-Nil; now = one }
  one_before (Tree m c ks rest) b = elim (cases_Bool (is_label b m)) [
    | inl e ↦ rw e (record { front = []; back = leaves (Tree m c ks rest); was = refl; now = leaves-join t (Tree m c ks rest) ∙ ap (λ l. l ++ leaves (Tree m c ks rest)) one })
    | inr e ↦ rw e (
        one_same x (borne_by m c ++ (leaves ks ++ leaves rest)) (leaves (Tree m c ks rest)) (borne_by m c ++ (leaves ks ++ leaves (put_before rest b t))) (leaves (Tree m c ks (put_before rest b t)))
        (sym (leaves-Tree m c ks rest)) (sym (leaves-Tree m c ks (put_before rest b t)))
        (one_after x (borne_by m c) (leaves ks ++ leaves rest) (leaves ks ++ leaves (put_before rest b t)) (one_after x (leaves ks) (leaves rest) (leaves (put_before rest b t)) (one_before rest b))))
  ]

  pub one_under : (f : Forest Content) (p : ℕ) (b : Option ℕ) → count_of f p ≡ 1 → OneMore x (leaves f) (leaves (put_under f p b t))
  one_under Nil p b once = absurd (omega (arith, once))
  one_under (Tree m c ks rest) p b once = elim (eqb_tells m p) [
    | inl (e, _) ↦ rw e (whole (put_before ks b t) rest (one_first x (leaves rest) (leaves ks) (leaves (put_before ks b t)) (one_before ks b)))
    | inr (e, _) ↦ (
        let once' : count_of ks p + count_of rest p ≡ 1 = (let o = rw e at once in omega (arith, o)) in
        rw e (elim (none_or_some (count_of ks p)) [
          | inl none ↦ rw (put_under_nowhere ks p b t none) (whole ks (put_under rest p b t) (one_after x (leaves ks) (leaves rest) (leaves (put_under rest p b t)) (one_under rest p b (omega (arith, once', none)))))
          | inr some ↦ rw (put_under_nowhere rest p b t (omega (arith, once', some))) (whole (put_under ks p b t) rest (one_first x (leaves rest) (leaves ks) (leaves (put_under ks p b t)) (one_under ks p b (omega (arith, once', some)))))
        ]))
  ]
    where
      whole : (ks' rest' : Forest Content) → OneMore x (leaves ks ++ leaves rest) (leaves ks' ++ leaves rest') → OneMore x (leaves (Tree m c ks rest)) (leaves (Tree m c ks' rest'))
      whole ks' rest' k =
          one_same x (borne_by m c ++ (leaves ks ++ leaves rest)) (leaves (Tree m c ks rest)) (borne_by m c ++ (leaves ks' ++ leaves rest')) (leaves (Tree m c ks' rest'))
          (sym (leaves-Tree m c ks rest)) (sym (leaves-Tree m c ks' rest'))
          (one_after x (borne_by m c) (leaves ks ++ leaves rest) (leaves ks' ++ leaves rest') k)

-- a text with one more character
pub one_char : (b n : ℕ) (xs : List ℕ) → OneMore (Letter b) (map Letter xs) (map Letter (put b n xs))
one_char b zero xs = record { front = []; back = map Letter xs; was = refl; now = refl }
one_char b (suc n) [] = record { front = []; back = []; was = refl; now = refl }
one_char b (suc n) (y ∷ xs) = one_after (Letter b) (Letter y ∷ []) (map Letter xs) (map Letter (put b n xs)) (one_char b n xs)

-- a node that bears one more thing
module _ (x : Leaf) (n : ℕ) (g : Content → Content) where
  whole_more : (m : ℕ) (c c' : Content) (ks ks' rest rest' : Forest Content) → OneMore x (borne_by m c ++ (leaves ks ++ leaves rest)) (borne_by m c' ++ (leaves ks' ++ leaves rest')) → OneMore x (leaves (Tree m c ks rest)) (leaves (Tree m c' ks' rest'))
  whole_more m c c' ks ks' rest rest' k =
      one_same x (borne_by m c ++ (leaves ks ++ leaves rest)) (leaves (Tree m c ks rest)) (borne_by m c' ++ (leaves ks' ++ leaves rest')) (leaves (Tree m c' ks' rest')) (sym (leaves-Tree m c ks rest)) (sym (leaves-Tree m c' ks' rest')) k

  pub one_revised : (q : Option ℕ) (f : Forest Content) → IsDistinct f → 0 < count_of f n → ((r : Seen Content) → seek q f n ≡ Some r → OneMore x (borne_by n r.content) (borne_by n (g r.content))) → OneMore x (leaves f) (leaves (revised f n g))
  one_revised q Nil once there more = absurd (omega (arith, there))
  one_revised q (Tree m c ks rest) once there more = elim (eqb_tells m n) [
    | inl (t, is) ↦ (
        let one = (let o = rw t at (once n) in o) in
        let none_ks : count_of ks n ≡ 0 = omega (arith, one) in
        let none_rest : count_of rest n ≡ 0 = omega (arith, one) in
        let own : OneMore x (borne_by m c) (borne_by m (g c)) = subst (λ l. OneMore x (borne_by l c) (borne_by l (g c))) (sym is) (more (record { parent = q; content = c; children = tops ks }) (rw t refl)) in
        rw (eq-eqb n m (sym is), revised_none ks n g none_ks, revised_none rest n g none_rest)
        (whole_more m c (g c) ks ks rest rest (one_first x (leaves ks ++ leaves rest) (borne_by m c) (borne_by m (g c)) own)))
    | inr (t, off) ↦ (
        let there' : 0 < count_of ks n + count_of rest n = (let h = rw t at there in omega (arith, h)) in
        elim (none_or_some (count_of ks n)) [
          | inl none ↦ (
              let others = one_revised q rest (λ l. omega (arith, once l)) (omega (arith, there', none)) (λ r e. more r (rw (t, seek_absent (Some m) ks n none) e)) in
              rw (ne_eqb n m (λ e. off (sym e)), revised_none ks n g none)
              (whole_more m c c ks ks rest (revised rest n g) (one_after x (borne_by m c) (leaves ks ++ leaves rest) (leaves ks ++ leaves (revised rest n g)) (one_after x (leaves ks) (leaves rest) (leaves (revised rest n g)) others))))
          | inr some ↦ (
              let none : count_of rest n ≡ 0 = omega (arith, once n, some) in
              let kids = one_revised (Some m) ks (λ l. omega (arith, once l)) some (λ r e. more r (rw (t, e) refl)) in
              rw (ne_eqb n m (λ e. off (sym e)), revised_none rest n g none)
              (whole_more m c c ks (revised ks n g) rest rest (one_after x (borne_by m c) (leaves ks ++ leaves rest) (leaves (revised ks n g) ++ leaves rest) (one_first x (leaves rest) (leaves ks) (leaves (revised ks n g)) kids))))
        ])
  ]

-- besides blanks it is one more where the thing is none, and else the same
pub one_solid : (x : Leaf) → is_solid x ≡ true → (before after : List Leaf) → OneMore x before after → OneMore x (filter is_solid before) (filter is_solid after)
one_solid x solid before after m = record {
  front = filter is_solid m.front;
  back = filter is_solid m.back;
  was = ap (filter is_solid) m.was ∙ filter-append is_solid m.front m.back;
  now = ap (filter is_solid) m.now ∙ (filter-append is_solid m.front (x ∷ m.back) ∙ ap (λ v. filter is_solid m.front ++ cond v (x ∷ filter is_solid m.back) (filter is_solid m.back)) solid);
}

pub one_blank : (x : Leaf) → is_solid x ≡ false → (before after : List Leaf) → OneMore x before after → filter is_solid after ≡ filter is_solid before
one_blank x blank before after m =
    ap (filter is_solid) m.now
    ∙ (filter-append is_solid m.front (x ∷ m.back)
    ∙ (ap (λ v. filter is_solid m.front ++ cond v (x ∷ filter is_solid m.back) (filter is_solid m.back)) blank
    ∙ sym (ap (filter is_solid) m.was ∙ filter-append is_solid m.front m.back)))
