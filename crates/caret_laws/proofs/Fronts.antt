-- What a document bears before a place in a text, and after it, besides blanks.
use Rattle.std.proofs.Common.{◌≡◌, ◌≢◌, ◌⊎◌, ℕ, zero, suc, ◌+◌, ◌<◌, ◌≤◌, true, false, cond, eqb, List, [], ◌∷◌, ◌++◌, map, take, drop, length, Option, Some, None, refl, sym, ap, subst, ◌∙◌, inl, inr, arith, append_assoc}
use Rattle.std.specs.Prelude.{slice_get}
use Rattle.std.specs.List.{filter}
use Rattle.std.proofs.lemmas.Bool.{cases_Bool, cases_lt, eq-eqb, ne_eqb}
use Rattle.std.proofs.lemmas.Bool.Decides.{eqb_tells, nat_tests}
use Rattle.std.proofs.lemmas.List.{map-append, take-append-drop}
use Rattle.std.proofs.lemmas.List.Elements.{filter-append}
use Rattle.edit_model.specs.DomModel.declared.Content.{Content}
use Rattle.edit_model.specs.DomModel.declared.Content.TheVariants.{Words}
use Rattle.edit_model.specs.DomModel.Forest.{Forest, Seen, seek, tops, is_label, count_of, tree_of, content_of, put_before, put_under, IsDistinct}
use Rattle.edit_model.specs.DomModel.Forest.Forest.{Nil, Tree}
use Rattle.edit_model.specs.DomModel.Revised.{revised}
use Rattle.edit_model.proofs.DomModel.Stands.{seek_absent}
use Rattle.edit_model.proofs.DomModel.Totals.{put_under_nowhere}
use Rattle.edit_model.specs.LiveRange.declared.places.Point.{Point}
use Rattle.edit_model.specs.LiveRange.PointsEdit.{after_replacement}
use Rattle.edit_model.specs.Kept.{Leaf, Letter, borne_by, leaves}
use Rattle.edit_model.specs.State.{State}
use Rattle.edit_model.proofs.Trees.{none_or_some}
use Rattle.edit_laws.proofs.Leaves.{leaves-Nil, leaves-Tree}
use Rattle.edit_laws.proofs.Splitting.{revised_none}
use Rattle.delete_core.specs.Spaces as spaces
use Rattle.caret_laws.specs.SolidOrder.{is_solid, solid_leaves}
use Rattle.caret_laws.proofs.Solid.{cut, put, solid_chars, solid_cut, solid_put, passed_over, both_sides, not_solid, solid-revised, Alike}

abbrev pub solid_of : List Leaf → List Leaf
solid_of l = filter is_solid l

-- ---- a text in a forest, with what stands before it and after it

abbrev pub TextAt : Forest Content → ℕ → List Leaf → List ℕ → List Leaf → Type 0
TextAt Nil n pre chars post = ⊥
TextAt (Tree m c ks rest) n pre chars post =
    ((m ≡ n) × (c ≡ Words chars) × (pre ≡ []) × (post ≡ leaves ks ++ leaves rest))
    ⊎ (((p : List Leaf) × (q : List Leaf) × TextAt ks n p chars q × (pre ≡ borne_by m c ++ p) × (post ≡ q ++ leaves rest))
    ⊎ ((p : List Leaf) × TextAt rest n p chars post × (pre ≡ borne_by m c ++ (leaves ks ++ p))))

words_borne : (n : ℕ) (chars : List ℕ) → borne_by n (Words chars) ≡ map Letter chars
unfolding borne_by
words_borne n chars = refl

pub text_leaves : (f : Forest Content) (n : ℕ) (pre : List Leaf) (chars : List ℕ) (post : List Leaf) → TextAt f n pre chars post → leaves f ≡ pre ++ (map Letter chars ++ post)
text_leaves Nil n pre chars post at = absurd at
text_leaves (Tree m c ks rest) n pre chars post (inl (is, content, first, last)) =
    leaves-Tree m c ks rest
    ∙ (ap (λ d. borne_by m d ++ (leaves ks ++ leaves rest)) content
    ∙ (ap (λ l. l ++ (leaves ks ++ leaves rest)) (words_borne m chars) ∙ (ap (λ l. map Letter chars ++ l) (sym last) ∙ ap (λ l. l ++ (map Letter chars ++ post)) (sym first))))
text_leaves (Tree m c ks rest) n pre chars post (inr (inl (p, q, at, first, last))) =
    leaves-Tree m c ks rest
    ∙ (ap (λ l. borne_by m c ++ (l ++ leaves rest)) (text_leaves ks n p chars q at)
    ∙ (ap (λ l. borne_by m c ++ l) (append_assoc p (map Letter chars ++ q) (leaves rest) ∙ ap (λ l. p ++ l) (append_assoc (map Letter chars) q (leaves rest)))
    ∙ (sym (append_assoc (borne_by m c) p (map Letter chars ++ (q ++ leaves rest)))
    ∙ (ap (λ l. l ++ (map Letter chars ++ (q ++ leaves rest))) (sym first) ∙ ap (λ l. pre ++ (map Letter chars ++ l)) (sym last)))))
text_leaves (Tree m c ks rest) n pre chars post (inr (inr (p, at, first))) =
    leaves-Tree m c ks rest
    ∙ (ap (λ l. borne_by m c ++ (leaves ks ++ l)) (text_leaves rest n p chars post at)
    ∙ (ap (λ l. borne_by m c ++ l) (sym (append_assoc (leaves ks) p (map Letter chars ++ post)))
    ∙ (sym (append_assoc (borne_by m c) (leaves ks ++ p) (map Letter chars ++ post)) ∙ ap (λ l. l ++ (map Letter chars ++ post)) (sym first))))

pub text_count : (f : Forest Content) (n : ℕ) (pre : List Leaf) (chars : List ℕ) (post : List Leaf) → TextAt f n pre chars post → 0 < count_of f n
text_count Nil n pre chars post at = absurd at
text_count (Tree m c ks rest) n pre chars post (inl (is, _, _, _)) = (let t = eq-eqb m n is in rw t (omega arith))
text_count (Tree m c ks rest) n pre chars post (inr (inl (p, q, at, _, _))) = omega (arith, text_count ks n p chars q at)
text_count (Tree m c ks rest) n pre chars post (inr (inr (p, at, _))) = omega (arith, text_count rest n p chars post at)

-- a text that is there
pub text_there : (q : Option ℕ) (f : Forest Content) (n : ℕ) (chars : List ℕ) → IsDistinct f → 0 < count_of f n → ((r : Seen Content) → seek q f n ≡ Some r → r.content ≡ Words chars) → (pre : List Leaf) × (post : List Leaf) × TextAt f n pre chars post
text_there q Nil n chars once there is = absurd (omega (arith, there))
text_there q (Tree m c ks rest) n chars once there is = elim (eqb_tells m n) [
  | inl (t, same) ↦ ([], leaves ks ++ leaves rest, inl (same, is (record { parent = q; content = c; children = tops ks }) (rw t refl), refl, refl))
  | inr (t, off) ↦ (
      let there' : 0 < count_of ks n + count_of rest n = (let h = rw t at there in omega (arith, h)) in
      elim (none_or_some (count_of ks n)) [
        | inl none ↦ (
            let k = text_there q rest n chars (λ l. omega (arith, once l)) (omega (arith, there', none)) (λ r e. is r (rw (t, seek_absent (Some m) ks n none) e)) in
            (borne_by m c ++ (leaves ks ++ k.0), k.1, inr (inr (k.0, k.2, refl))))
        | inr some ↦ (
            let k = text_there (Some m) ks n chars (λ l. omega (arith, once l)) some (λ r e. is r (rw (t, e) refl)) in
            (borne_by m c ++ k.0, k.1 ++ leaves rest, inr (inl (k.0, k.1, k.2, refl, refl))))
      ])
]

-- it stands where it stood when it has other characters
pub text_own : (f : Forest Content) (n : ℕ) (g : Content → Content) (pre : List Leaf) (chars new : List ℕ) (post : List Leaf) → IsDistinct f → g (Words chars) ≡ Words new → TextAt f n pre chars post → TextAt (revised f n g) n pre new post
text_own Nil n g pre chars new post once is at = absurd at
text_own (Tree m c ks rest) n g pre chars new post once is (inl (same, content, first, last)) =
    let t = eq-eqb m n same in
    let one = (let o = rw t at (once n) in o) in
    rw (eq-eqb n m (sym same), revised_none ks n g (omega (arith, one)), revised_none rest n g (omega (arith, one)))
    (inl (same, ap g content ∙ is, first, last))
text_own (Tree m c ks rest) n g pre chars new post once is (inr (inl (p, q, at, first, last))) =
    let there = text_count ks n p chars q at in
    let off : m ≢ n = λ e. (let t = eq-eqb m n e in let o = rw t at (once n) in omega (arith, o, there)) in
    let none : count_of rest n ≡ 0 = omega (arith, once n, there) in
    rw (ne_eqb n m (λ e. off (sym e)), revised_none rest n g none)
    (inr (inl (p, q, text_own ks n g p chars new q (λ l. omega (arith, once l)) is at, first, last)))
text_own (Tree m c ks rest) n g pre chars new post once is (inr (inr (p, at, first))) =
    let there = text_count rest n p chars post at in
    let off : m ≢ n = λ e. (let t = eq-eqb m n e in let o = rw t at (once n) in omega (arith, o, there)) in
    let none : count_of ks n ≡ 0 = omega (arith, once n, there) in
    rw (ne_eqb n m (λ e. off (sym e)), revised_none ks n g none)
    (inr (inr (p, text_own rest n g p chars new post (λ l. omega (arith, once l)) is at, first)))

-- and where another text changes by blanks alone, what stands beside it changes by them alone
pub record Beside (f : Forest Content) (n : ℕ) (pre : List Leaf) (chars : List ℕ) (post : List Leaf) : Type 0 where
  pub front : List Leaf
  pub back : List Leaf
  pub stands : TextAt f n front chars back
  pub front_is : solid_of front ≡ solid_of pre
  pub back_is : solid_of back ≡ solid_of post

both_solid : (a a' b b' : List Leaf) → solid_of a ≡ solid_of a' → solid_of b ≡ solid_of b' → solid_of (a ++ b) ≡ solid_of (a' ++ b')
both_solid a a' b b' e k = filter-append is_solid a b ∙ (ap (λ l. l ++ solid_of b) e ∙ (ap (λ l. solid_of a' ++ l) k ∙ sym (filter-append is_solid a' b')))

module _ (k : ℕ) (g : Content → Content) where
  -- what a change of k makes of a tree's root, of its children and of the trees after it
  record Changes (q : Option ℕ) (m : ℕ) (c : Content) (ks rest : Forest Content) : Type 0 where
    root : solid_of (borne_by m (cond (eqb k m) (g c) c)) ≡ solid_of (borne_by m c)
    kids : solid_of (leaves (revised ks k g)) ≡ solid_of (leaves ks)
    others : solid_of (leaves (revised rest k g)) ≡ solid_of (leaves rest)
    below : (r : Seen Content) → seek (Some m) ks k ≡ Some r → Alike k g k r.content
    past : (r : Seen Content) → seek q rest k ≡ Some r → Alike k g k r.content

  solid_is : (f f' : Forest Content) → solid_leaves f ≡ solid_leaves f' → solid_of (leaves f) ≡ solid_of (leaves f')
  unfolding solid_leaves
  solid_is f f' e = e

  never : (q : Option ℕ) (f : Forest Content) → count_of f k ≡ 0 → (r : Seen Content) → seek q f k ≡ Some r → Alike k g k r.content
  never q f none r e = absurd (let t : None ≡ Some r = sym (seek_absent q f k none) ∙ e in cc)

  changes : (q : Option ℕ) (m : ℕ) (c : Content) (ks rest : Forest Content) → IsDistinct (Tree m c ks rest) → ((r : Seen Content) → seek q (Tree m c ks rest) k ≡ Some r → Alike k g k r.content) → Changes q m c ks rest
  changes q m c ks rest once alike = elim (eqb_tells m k) [
    | inl (t, is) ↦ (
        let one = (let o = rw t at (once k) in o) in
        let none_ks : count_of ks k ≡ 0 = omega (arith, one) in
        let none_rest : count_of rest k ≡ 0 = omega (arith, one) in
        let own : Alike k g m c = subst (λ l. Alike k g l c) (sym is) (alike (record { parent = q; content = c; children = tops ks }) (rw t refl)) in
        record {
          root = rw (eq-eqb k m (sym is)) own;
          kids = rw (revised_none ks k g none_ks) refl;
          others = rw (revised_none rest k g none_rest) refl;
          below = never (Some m) ks none_ks;
          past = never q rest none_rest;
        })
    | inr (t, off) ↦ elim (none_or_some (count_of ks k)) [
      | inl none ↦ (
          let later : (r : Seen Content) → seek q rest k ≡ Some r → Alike k g k r.content = λ r e. alike r (rw (t, seek_absent (Some m) ks k none) e) in
          record {
            root = rw (ne_eqb k m (λ e. off (sym e))) refl;
            kids = rw (revised_none ks k g none) refl;
            others = solid_is (revised rest k g) rest (solid-revised k g q rest (λ l. omega (arith, once l)) later);
            below = never (Some m) ks none;
            past = later;
          })
      | inr some ↦ (
          let none : count_of rest k ≡ 0 = omega (arith, once k, some) in
          let deeper : (r : Seen Content) → seek (Some m) ks k ≡ Some r → Alike k g k r.content = λ r e. alike r (rw (t, e) refl) in
          record {
            root = rw (ne_eqb k m (λ e. off (sym e))) refl;
            kids = solid_is (revised ks k g) ks (solid-revised k g (Some m) ks (λ l. omega (arith, once l)) deeper);
            others = rw (revised_none rest k g none) refl;
            below = deeper;
            past = never q rest none;
          })
    ]
  ]

  pub text_beside : (q : Option ℕ) (f : Forest Content) (n : ℕ) (pre : List Leaf) (chars : List ℕ) (post : List Leaf) → IsDistinct f → n ≢ k → ((r : Seen Content) → seek q f k ≡ Some r → Alike k g k r.content) → TextAt f n pre chars post → Beside (revised f k g) n pre chars post
  text_beside q Nil n pre chars post once off alike at = absurd at
  text_beside q (Tree m c ks rest) n pre chars post once off alike (inl (same, content, first, last)) =
      let d = changes q m c ks rest once alike in
      let not_it : eqb k m ≡ false = ne_eqb k m (λ e. off (sym same ∙ sym e)) in
      record {
        front = [];
        back = leaves (revised ks k g) ++ leaves (revised rest k g);
        stands = inl (same, ap (λ v. cond v (g c) c) not_it ∙ content, refl, refl);
        front_is = ap solid_of (sym first);
        back_is = both_solid (leaves (revised ks k g)) (leaves ks) (leaves (revised rest k g)) (leaves rest) d.kids d.others ∙ ap solid_of (sym last);
      }
  text_beside q (Tree m c ks rest) n pre chars post once off alike (inr (inl (p, r, at, first, last))) =
      let d = changes q m c ks rest once alike in
      let b = text_beside (Some m) ks n p chars r (λ l. omega (arith, once l)) off d.below at in
      let c' = cond (eqb k m) (g c) c in
      record {
        front = borne_by m c' ++ b.front;
        back = b.back ++ leaves (revised rest k g);
        stands = inr (inl (b.front, b.back, b.stands, refl, refl));
        front_is = both_solid (borne_by m c') (borne_by m c) b.front p d.root b.front_is ∙ ap solid_of (sym first);
        back_is = both_solid b.back r (leaves (revised rest k g)) (leaves rest) b.back_is d.others ∙ ap solid_of (sym last);
      }
  text_beside q (Tree m c ks rest) n pre chars post once off alike (inr (inr (p, at, first))) =
      let d = changes q m c ks rest once alike in
      let b = text_beside q rest n p chars post (λ l. omega (arith, once l)) off d.past at in
      let c' = cond (eqb k m) (g c) c in
      record {
        front = borne_by m c' ++ (leaves (revised ks k g) ++ b.front);
        back = b.back;
        stands = inr (inr (b.front, b.stands, refl));
        front_is = both_solid (borne_by m c') (borne_by m c) (leaves (revised ks k g) ++ b.front) (leaves ks ++ p) d.root (both_solid (leaves (revised ks k g)) (leaves ks) b.front p d.kids b.front_is) ∙ ap solid_of (sym first);
        back_is = b.back_is;
      }

-- ---- a new text

pub record Newly (f g : Forest Content) (x : ℕ) (chars : List ℕ) : Type 0 where
  pub front : List Leaf
  pub back : List Leaf
  pub was : leaves f ≡ front ++ back
  pub stands : TextAt g x front chars back

module _ (x : ℕ) (chars : List ℕ) where
  abbrev New : Forest Content
  New = Tree x (Words chars) Nil Nil

  text_before : (f : Forest Content) (b : Option ℕ) → Newly f (put_before f b New) x chars
  text_before Nil b = record { front = []; back = leaves Nil ++ leaves Nil; was = leaves-Nil ∙ sym (ap (λ l. l ++ l) leaves-Nil); stands = inl (refl, refl, refl, refl) }
  text_before (Tree m c ks rest) b = elim (cases_Bool (is_label b m)) [
    | inl e ↦ rw e (record { front = []; back = leaves Nil ++ leaves (Tree m c ks rest); was = sym (ap (λ l. l ++ leaves (Tree m c ks rest)) leaves-Nil); stands = inl (refl, refl, refl, refl) })
    | inr e ↦ (
        let k = text_before rest b in
        rw e (record {
          front = borne_by m c ++ (leaves ks ++ k.front);
          back = k.back;
          was = leaves-Tree m c ks rest ∙ (ap (λ l. borne_by m c ++ (leaves ks ++ l)) k.was ∙ (ap (λ l. borne_by m c ++ l) (sym (append_assoc (leaves ks) k.front k.back)) ∙ sym (append_assoc (borne_by m c) (leaves ks ++ k.front) k.back)));
          stands = inr (inr (k.front, k.stands, refl));
        }))
  ]

  pub text_under : (f : Forest Content) (p : ℕ) (b : Option ℕ) → count_of f p ≡ 1 → Newly f (put_under f p b New) x chars
  text_under Nil p b once = absurd (omega (arith, once))
  text_under (Tree m c ks rest) p b once = elim (eqb_tells m p) [
    | inl (e, _) ↦ rw e (in_kids (put_before ks b New) (text_before ks b))
    | inr (e, _) ↦ (
        let once' : count_of ks p + count_of rest p ≡ 1 = (let o = rw e at once in omega (arith, o)) in
        rw e (elim (none_or_some (count_of ks p)) [
          | inl none ↦ rw (put_under_nowhere ks p b New none) (in_rest (put_under rest p b New) (text_under rest p b (omega (arith, once', none))))
          | inr some ↦ rw (put_under_nowhere rest p b New (omega (arith, once', some))) (in_kids (put_under ks p b New) (text_under ks p b (omega (arith, once', some))))
        ]))
  ]
    where
      in_kids : (ks' : Forest Content) → Newly ks ks' x chars → Newly (Tree m c ks rest) (Tree m c ks' rest) x chars
      in_kids ks' k = record {
        front = borne_by m c ++ k.front;
        back = k.back ++ leaves rest;
        was = leaves-Tree m c ks rest ∙ (ap (λ l. borne_by m c ++ (l ++ leaves rest)) k.was ∙ (ap (λ l. borne_by m c ++ l) (append_assoc k.front k.back (leaves rest)) ∙ sym (append_assoc (borne_by m c) k.front (k.back ++ leaves rest))));
        stands = inr (inl (k.front, k.back, k.stands, refl, refl));
      }

      in_rest : (rest' : Forest Content) → Newly rest rest' x chars → Newly (Tree m c ks rest) (Tree m c ks rest') x chars
      in_rest rest' k = record {
        front = borne_by m c ++ (leaves ks ++ k.front);
        back = k.back;
        was = leaves-Tree m c ks rest ∙ (ap (λ l. borne_by m c ++ (leaves ks ++ l)) k.was ∙ (ap (λ l. borne_by m c ++ l) (sym (append_assoc (leaves ks) k.front k.back)) ∙ sym (append_assoc (borne_by m c) (leaves ks ++ k.front) k.back)));
        stands = inr (inr (k.front, k.stands, refl));
      }

-- ---- a place in a list of characters, where a blank comes or goes

after_cut : ℕ → ℕ → ℕ
after_cut o zero = zero
after_cut zero (suc i) = i
after_cut (suc o) (suc i) = suc (after_cut o i)

after_put : ℕ → ℕ → ℕ
after_put o zero = zero
after_put zero (suc i) = suc (suc i)
after_put (suc o) (suc i) = suc (after_put o i)

cut_low : (o i : ℕ) → i ≤ o → after_cut o i ≡ i
unfolding after_cut
cut_low o zero h = refl
cut_low zero (suc i) h = absurd (omega (arith, h))
cut_low (suc o) (suc i) h = ap suc (cut_low o i (omega (arith, h)))

cut_high : (o i : ℕ) → o < i → after_cut o i + 1 ≡ i
unfolding after_cut
cut_high o zero h = absurd (omega (arith, h))
cut_high zero (suc i) h = omega arith
cut_high (suc o) (suc i) h = omega (arith, cut_high o i (omega (arith, h)))

put_low : (o i : ℕ) → i ≤ o → after_put o i ≡ i
unfolding after_put
put_low o zero h = refl
put_low zero (suc i) h = absurd (omega (arith, h))
put_low (suc o) (suc i) h = ap suc (put_low o i (omega (arith, h)))

put_high : (o i : ℕ) → o < i → after_put o i ≡ i + 1
unfolding after_put
put_high o zero h = absurd (omega (arith, h))
put_high zero (suc i) h = omega arith
put_high (suc o) (suc i) h = omega (arith, put_high o i (omega (arith, h)))

replaced_low : (o count n i : ℕ) → i ≤ o → after_replacement o count n i ≡ i
replaced_low o count n i h = grind (arith, nat_tests)

cut_beyond : (o i : ℕ) → o < i → after_replacement o 1 0 i + 1 ≡ i
cut_beyond o i h = grind (arith, nat_tests)

put_beyond : (o i : ℕ) → o < i → after_replacement o 0 1 i ≡ i + 1
put_beyond o i h = grind (arith, nat_tests)

cut_offset : (o i : ℕ) → after_replacement o 1 0 i ≡ after_cut o i
cut_offset o i = elim (cases_lt o i) [
  | inl high ↦ omega (arith, cut_high o i high, cut_beyond o i high)
  | inr low ↦ replaced_low o 1 0 i low ∙ sym (cut_low o i low)
]

put_offset : (o i : ℕ) → after_replacement o 0 1 i ≡ after_put o i
put_offset o i = elim (cases_lt o i) [
  | inl high ↦ put_beyond o i high ∙ sym (put_high o i high)
  | inr low ↦ replaced_low o 0 1 i low ∙ sym (put_low o i low)
]

-- a place before and after a change of a text by blanks
pub record SamePlace (xs : List ℕ) (i : ℕ) (ys : List ℕ) (j : ℕ) : Type 0 where
  pub low : j ≤ length ys
  pub front : solid_chars (take j ys) ≡ solid_chars (take i xs)
  pub back : solid_chars (drop j ys) ≡ solid_chars (drop i xs)

cut_parts : (c o i : ℕ) (xs : List ℕ) → slice_get xs o ≡ Some c → spaces.is_blank c ≡ true → i ≤ length xs → SamePlace xs i (cut o xs) (after_cut o i)
unfolding after_cut
cut_parts c o i [] e blank low = absurd (let t = e in cc)
cut_parts c o zero (x ∷ xs) e blank low = record { low = omega arith; front = refl; back = solid_cut c o (x ∷ xs) e blank }
cut_parts c zero (suc i) (x ∷ xs) e blank low =
    let is : c ≡ x = (let t : Some x ≡ Some c = e in cc) in
    record {
      low = omega (arith, low);
      front = sym (passed_over x (map Letter (take i xs)) (subst (λ d. is_solid (Letter d) ≡ false) is (not_solid c blank)));
      back = refl;
    }
cut_parts c (suc o) (suc i) (x ∷ xs) e blank low =
    let k = cut_parts c o i xs e blank (omega (arith, low)) in
    record { low = omega (arith, k.low); front = both_sides (Letter x) (map Letter (take (after_cut o i) (cut o xs))) (map Letter (take i xs)) k.front; back = k.back }

put_parts : (b o i : ℕ) (xs : List ℕ) → spaces.is_blank b ≡ true → i ≤ length xs → SamePlace xs i (put b o xs) (after_put o i)
unfolding after_put
put_parts b o zero xs blank low = record { low = omega arith; front = refl; back = solid_put b o xs blank }
put_parts b zero (suc i) [] blank low = absurd (omega (arith, low))
put_parts b zero (suc i) (x ∷ xs) blank low = record { low = omega (arith, low); front = passed_over b (Letter x ∷ map Letter (take i xs)) (not_solid b blank); back = refl }
put_parts b (suc o) (suc i) [] blank low = absurd (omega (arith, low))
put_parts b (suc o) (suc i) (x ∷ xs) blank low =
    let k = put_parts b o i xs blank (omega (arith, low)) in
    record { low = omega (arith, k.low); front = both_sides (Letter x) (map Letter (take (after_put o i) (put b o xs))) (map Letter (take i xs)) k.front; back = k.back }

pub cut_place : (c o i : ℕ) (xs : List ℕ) → slice_get xs o ≡ Some c → spaces.is_blank c ≡ true → i ≤ length xs → SamePlace xs i (cut o xs) (after_replacement o 1 0 i)
cut_place c o i xs e blank low = subst (λ j. SamePlace xs i (cut o xs) j) (sym (cut_offset o i)) (cut_parts c o i xs e blank low)

pub put_place : (b o i : ℕ) (xs : List ℕ) → spaces.is_blank b ≡ true → i ≤ length xs → SamePlace xs i (put b o xs) (after_replacement o 0 1 i)
put_place b o i xs blank low = subst (λ j. SamePlace xs i (put b o xs) j) (sym (put_offset o i)) (put_parts b o i xs blank low)

pub replaced_rises : (o count n i j : ℕ) → i ≤ j → after_replacement o count n i ≤ after_replacement o count n j
replaced_rises o count n i j h = grind (arith, nat_tests)

-- after a character that is put at a place
pub next_front : (b o : ℕ) (xs : List ℕ) → o ≤ length xs → solid_chars (take (suc o) (put b o xs)) ≡ solid_chars (take o xs) ++ solid_chars (b ∷ [])
next_front b zero xs low = refl
next_front b (suc o) [] low = absurd (omega (arith, low))
next_front b (suc o) (x ∷ xs) low =
    filter-append is_solid (Letter x ∷ []) (map Letter (take (suc o) (put b o xs)))
    ∙ (ap (λ l. solid_of (Letter x ∷ []) ++ l) (next_front b o xs (omega (arith, low)))
    ∙ (sym (append_assoc (solid_of (Letter x ∷ [])) (solid_chars (take o xs)) (solid_chars (b ∷ [])))
    ∙ ap (λ l. l ++ solid_chars (b ∷ [])) (sym (filter-append is_solid (Letter x ∷ []) (map Letter (take o xs))))))

pub next_back : (b o : ℕ) (xs : List ℕ) → o ≤ length xs → drop (suc o) (put b o xs) ≡ drop o xs
next_back b zero xs low = refl
next_back b (suc o) [] low = absurd (omega (arith, low))
next_back b (suc o) (x ∷ xs) low = next_back b o xs (omega (arith, low))

-- ---- a place in a text of a document

-- before it the document bears F besides blanks, and after it B
pub record Front (s : State) (p : Point) (F B : List Leaf) : Type 0 where
  pub chars : List ℕ
  pub content : content_of s.trees p.label ≡ Some (Words chars)
  pub pre : List Leaf
  pub post : List Leaf
  pub stands : TextAt (tree_of s.trees 0) p.label pre chars post
  pub low : p.offset ≤ length chars
  pub before : F ≡ solid_of pre ++ solid_chars (take p.offset chars)
  pub after : B ≡ solid_chars (drop p.offset chars) ++ solid_of post

parts_of : (i : ℕ) (xs : List ℕ) → solid_chars xs ≡ solid_chars (take i xs) ++ solid_chars (drop i xs)
parts_of i xs = ap (λ l. solid_of (map Letter l)) (sym (take-append-drop i xs)) ∙ (ap solid_of (map-append Letter (take i xs) (drop i xs)) ∙ filter-append is_solid (map Letter (take i xs)) (map Letter (drop i xs)))

pub front_whole : (s : State) (p : Point) (F B : List Leaf) → Front s p F B → solid_leaves (tree_of s.trees 0) ≡ F ++ B
unfolding solid_leaves
front_whole s p F B k =
    let a = solid_of k.pre in
    let t = solid_chars (take p.offset k.chars) in
    let d = solid_chars (drop p.offset k.chars) in
    let z = solid_of k.post in
    ap solid_of (text_leaves (tree_of s.trees 0) p.label k.pre k.chars k.post k.stands)
    ∙ (filter-append is_solid k.pre (map Letter k.chars ++ k.post)
    ∙ (ap (λ l. a ++ l) (filter-append is_solid (map Letter k.chars) k.post ∙ (ap (λ l. l ++ z) (parts_of p.offset k.chars) ∙ append_assoc t d z))
    ∙ (sym (append_assoc a t (d ++ z)) ∙ (ap (λ l. l ++ (d ++ z)) (sym k.before) ∙ ap (λ l. F ++ l) (sym k.after)))))
