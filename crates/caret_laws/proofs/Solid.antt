-- What a forest bears besides blanks, where the characters of a text change by blanks alone.
use Rattle.std.proofs.Common.{◌≡◌, ℕ, zero, suc, ◌+◌, ◌<◌, Bool, true, false, ◌||◌, not, cond, eqb, List, [], ◌∷◌, ◌++◌, map, take, drop, length, Option, Some, None, refl, sym, ap, subst, ◌∙◌, inl, inr, arith, add-one, true≢false}
use Rattle.std.specs.Prelude.{slice_get}
use Rattle.std.specs.List.{filter}
use Rattle.std.proofs.lemmas.Bool.{cases_Bool, eq-eqb, ne_eqb, or_cases}
use Rattle.std.proofs.lemmas.Bool.Decides.{eqb_tells}
use Rattle.std.proofs.lemmas.List.Elements.{filter-append}
use Rattle.edit_model.specs.DomModel.declared.Content.{Content}
use Rattle.edit_model.specs.DomModel.declared.Content.TheVariants.{Words}
use Rattle.edit_model.specs.DomModel.Forest.{Forest, Seen, seek, tops, count_of, tree_of, content_of, IsDistinct}
use Rattle.edit_model.specs.DomModel.Forest.Forest.{Nil, Tree}
use Rattle.edit_model.specs.DomModel.Revised.{revised}
use Rattle.edit_model.proofs.DomModel.Stands.{seek_absent}
use Rattle.std.specs.Option.{option_map}
use Rattle.edit_model.specs.Kept.{Leaf, Letter, Thing, borne_by, leaves, is_blank, is_kept, kept_leaves}
use Rattle.edit_model.specs.Edit.{with_replaced}
use Rattle.edit_model.specs.Confined.{spliced}
use Rattle.edit_model.specs.State.{State}
use Rattle.edit_model.specs.Valid.{IsForest}
use Rattle.edit_model.proofs.Documents.{document-revised}
use Rattle.edit_model.proofs.Resting.{seek_document, forest-document}
use Rattle.edit_model.proofs.Trees.{none_or_some}
use Rattle.edit_laws.specs.Order.{KeepsOrder}
use Rattle.edit_laws.proofs.Splitting.{revised_none}
use Rattle.delete_core.specs.Spaces as spaces
use Rattle.caret_laws.specs.SolidOrder.{is_solid, solid_leaves, KeepsOrderUpToBlanks}

-- ---- what keeps the order keeps it up to blanks

filter_through : (p q : Leaf → Bool) → ((x : Leaf) → p x ≡ true → q x ≡ true) → (xs : List Leaf) → filter p (filter q xs) ≡ filter p xs
filter_through p q sub [] = refl
filter_through p q sub (x ∷ xs) = elim (cases_Bool (q x)) [
  | inl t ↦ rw t (ap (λ l. cond (p x) (x ∷ l) l) (filter_through p q sub xs))
  | inr off ↦ elim (cases_Bool (p x)) [
    | inl t ↦ absurd (true≢false (sym (sub x t) ∙ off))
    | inr t ↦ rw (off, t) (filter_through p q sub xs)
  ]
]

not_either : (a b : Bool) → not (a || b) ≡ true → not a ≡ true
not_either true b e = e
not_either false b e = refl

solid_kept : (x : Leaf) → is_solid x ≡ true → is_kept x ≡ true
solid_kept (Letter c) e = not_either (is_blank c) (eqb c 160) e
solid_kept (Thing l) e = refl

solid_of_kept : (f : Forest Content) → filter is_solid (kept_leaves f) ≡ solid_leaves f
unfolding kept_leaves solid_leaves
solid_of_kept f = filter_through is_solid is_kept solid_kept (leaves f)

pub solid_order : (s t : State) → KeepsOrder s t → KeepsOrderUpToBlanks s t
solid_order s t k = sym (solid_of_kept (tree_of t.trees 0)) ∙ (ap (filter is_solid) k.whole ∙ solid_of_kept (tree_of s.trees 0))

-- ---- lists of characters

-- without the character at a place, with another one put there, and with another one instead
abbrev pub cut : ℕ → List ℕ → List ℕ
cut n [] = []
cut zero (x ∷ xs) = xs
cut (suc n) (x ∷ xs) = x ∷ cut n xs

abbrev pub put : ℕ → ℕ → List ℕ → List ℕ
put b zero xs = b ∷ xs
put b (suc n) [] = b ∷ []
put b (suc n) (x ∷ xs) = x ∷ put b n xs

abbrev pub swapped : ℕ → ℕ → List ℕ → List ℕ
swapped b n [] = []
swapped b zero (x ∷ xs) = b ∷ xs
swapped b (suc n) (x ∷ xs) = x ∷ swapped b n xs

cut_at : (n : ℕ) (xs : List ℕ) → take n xs ++ drop (suc n) xs ≡ cut n xs
cut_at zero [] = refl
cut_at (suc n) [] = refl
cut_at zero (x ∷ xs) = refl
cut_at (suc n) (x ∷ xs) = ap (λ l. x ∷ l) (cut_at n xs)

pub cut_is : (n : ℕ) (xs : List ℕ) → spliced xs n 1 [] ≡ cut n xs
cut_is n xs = rw add-one (cut_at n xs)

put_at : (b n : ℕ) (xs : List ℕ) → take n xs ++ (b ∷ drop n xs) ≡ put b n xs
put_at b zero xs = refl
put_at b (suc n) [] = refl
put_at b (suc n) (x ∷ xs) = ap (λ l. x ∷ l) (put_at b n xs)

pub put_is : (b n : ℕ) (xs : List ℕ) → spliced xs n 0 (b ∷ []) ≡ put b n xs
put_is b n xs = (let none : n + 0 ≡ n = omega arith in ap (λ m. take n xs ++ (b ∷ drop m xs)) none) ∙ put_at b n xs

swap_is : (b c n : ℕ) (xs : List ℕ) → slice_get xs n ≡ Some c → cut (suc n) (put b n xs) ≡ swapped b n xs
swap_is b c n [] e = absurd (let t = e in cc)
swap_is b c zero (x ∷ xs) e = refl
swap_is b c (suc n) (x ∷ xs) e = ap (λ l. x ∷ l) (swap_is b c n xs e)

pub both_are : (b c n : ℕ) (xs : List ℕ) → slice_get xs n ≡ Some c → spliced (spliced xs n 0 (b ∷ [])) (n + 1) 1 [] ≡ swapped b n xs
both_are b c n xs e = cut_is (n + 1) (spliced xs n 0 (b ∷ [])) ∙ (rw (put_is b n xs, add-one) (swap_is b c n xs e))

pub length_cut : (c n : ℕ) (xs : List ℕ) → slice_get xs n ≡ Some c → length (cut n xs) + 1 ≡ length xs
length_cut c n [] e = absurd (let t = e in cc)
length_cut c zero (x ∷ xs) e = omega arith
length_cut c (suc n) (x ∷ xs) e = omega (arith, length_cut c n xs e)

pub length_put : (b c n : ℕ) (xs : List ℕ) → slice_get xs n ≡ Some c → length (put b n xs) ≡ length xs + 1
length_put b c n [] e = absurd (let t = e in cc)
length_put b c zero (x ∷ xs) e = omega arith
length_put b c (suc n) (x ∷ xs) e = omega (arith, length_put b c n xs e)

pub length_any : (b n : ℕ) (xs : List ℕ) → length (put b n xs) ≡ length xs + 1
length_any b zero xs = omega arith
length_any b (suc n) [] = omega arith
length_any b (suc n) (x ∷ xs) = omega (arith, length_any b n xs)

pub length_swapped : (b n : ℕ) (xs : List ℕ) → length (swapped b n xs) ≡ length xs
length_swapped b n [] = refl
length_swapped b zero (x ∷ xs) = refl
length_swapped b (suc n) (x ∷ xs) = omega (arith, length_swapped b n xs)

pub get_low : (n c : ℕ) (xs : List ℕ) → slice_get xs n ≡ Some c → n < length xs
get_low n c [] e = absurd (let t = e in cc)
get_low zero c (x ∷ xs) e = omega arith
get_low (suc n) c (x ∷ xs) e = omega (arith, get_low n c xs e)

pub get_cut : (n o : ℕ) (xs : List ℕ) → o < n → slice_get (cut n xs) o ≡ slice_get xs o
get_cut n o [] low = refl
get_cut zero o (x ∷ xs) low = absurd (omega (arith, low))
get_cut (suc n) zero (x ∷ xs) low = refl
get_cut (suc n) (suc o) (x ∷ xs) low = get_cut n o xs (omega (arith, low))

-- where both are blanks, blanks stay so
pub get_swapped : (b n o c : ℕ) (xs : List ℕ) → spaces.is_blank b ≡ true → slice_get xs o ≡ Some c → spaces.is_blank c ≡ true → (d : ℕ) × (slice_get (swapped b n xs) o ≡ Some d) × (spaces.is_blank d ≡ true)
get_swapped b n o c [] blank e k = absurd (let t = e in cc)
get_swapped b zero zero c (x ∷ xs) blank e k = (b, refl, blank)
get_swapped b zero (suc o) c (x ∷ xs) blank e k = (c, e, k)
get_swapped b (suc n) zero c (x ∷ xs) blank e k = (c, e, k)
get_swapped b (suc n) (suc o) c (x ∷ xs) blank e k = get_swapped b n o c xs blank e k

-- ---- blanks are not solid

pub not_solid : (c : ℕ) → spaces.is_blank c ≡ true → is_solid (Letter c) ≡ false
not_solid c e = elim (or_cases (eqb c 32) (eqb c 160) e) [
  | inl t ↦ elim (eqb_tells c 32) [ inl (_, is) ↦ subst (λ d. is_solid (Letter d) ≡ false) (sym is) refl | inr (f, _) ↦ absurd (true≢false (sym t ∙ f)) ]
  | inr t ↦ elim (eqb_tells c 160) [ inl (_, is) ↦ subst (λ d. is_solid (Letter d) ≡ false) (sym is) refl | inr (f, _) ↦ absurd (true≢false (sym t ∙ f)) ]
]

abbrev pub solid_chars : List ℕ → List Leaf
solid_chars xs = filter is_solid (map Letter xs)

pub passed_over : (c : ℕ) (l : List Leaf) → is_solid (Letter c) ≡ false → filter is_solid (Letter c ∷ l) ≡ filter is_solid l
passed_over c l e = ap (λ b. cond b (Letter c ∷ filter is_solid l) (filter is_solid l)) e

pub both_sides : (x : Leaf) (l m : List Leaf) → filter is_solid l ≡ filter is_solid m → filter is_solid (x ∷ l) ≡ filter is_solid (x ∷ m)
both_sides x l m e = ap (λ k. cond (is_solid x) (x ∷ k) k) e

pub solid_cut : (c n : ℕ) (xs : List ℕ) → slice_get xs n ≡ Some c → spaces.is_blank c ≡ true → solid_chars (cut n xs) ≡ solid_chars xs
solid_cut c n [] e blank = refl
solid_cut c zero (x ∷ xs) e blank =
    let is : c ≡ x = (let t : Some x ≡ Some c = e in cc) in
    sym (passed_over x (map Letter xs) (subst (λ d. is_solid (Letter d) ≡ false) is (not_solid c blank)))
solid_cut c (suc n) (x ∷ xs) e blank = both_sides (Letter x) (map Letter (cut n xs)) (map Letter xs) (solid_cut c n xs e blank)

pub solid_put : (b n : ℕ) (xs : List ℕ) → spaces.is_blank b ≡ true → solid_chars (put b n xs) ≡ solid_chars xs
solid_put b zero xs blank = passed_over b (map Letter xs) (not_solid b blank)
solid_put b (suc n) [] blank = passed_over b [] (not_solid b blank)
solid_put b (suc n) (x ∷ xs) blank = both_sides (Letter x) (map Letter (put b n xs)) (map Letter xs) (solid_put b n xs blank)

pub solid_swapped : (b c n : ℕ) (xs : List ℕ) → slice_get xs n ≡ Some c → spaces.is_blank b ≡ true → spaces.is_blank c ≡ true → solid_chars (swapped b n xs) ≡ solid_chars xs
solid_swapped b c n [] e blank was = refl
solid_swapped b c zero (x ∷ xs) e blank was =
    let is : c ≡ x = (let t : Some x ≡ Some c = e in cc) in
    passed_over b (map Letter xs) (not_solid b blank) ∙ sym (passed_over x (map Letter xs) (subst (λ d. is_solid (Letter d) ≡ false) is (not_solid c was)))
solid_swapped b c (suc n) (x ∷ xs) e blank was = both_sides (Letter x) (map Letter (swapped b n xs)) (map Letter xs) (solid_swapped b c n xs e blank was)

-- ---- forests

solid-Tree : (m : ℕ) (c : Content) (ks rest : Forest Content) → solid_leaves (Tree m c ks rest) ≡ filter is_solid (borne_by m c) ++ (solid_leaves ks ++ solid_leaves rest)
unfolding solid_leaves leaves
solid-Tree m c ks rest =
    filter-append is_solid (borne_by m c) (leaves ks ++ leaves rest)
    ∙ ap (λ x. filter is_solid (borne_by m c) ++ x) (filter-append is_solid (leaves ks) (leaves rest))

module _ (n : ℕ) (g : Content → Content) where
  abbrev pub Alike : ℕ → Content → Type 0
  Alike m c = filter is_solid (borne_by m (g c)) ≡ filter is_solid (borne_by m c)

  pub solid-revised : (q : Option ℕ) (f : Forest Content) → IsDistinct f → ((r : Seen Content) → seek q f n ≡ Some r → Alike n r.content) → solid_leaves (revised f n g) ≡ solid_leaves f
  solid-revised q Nil once alike = refl
  solid-revised q (Tree m c ks rest) once alike = elim (eqb_tells m n) [
    | inl (t, is) ↦ (
        let one = (let o = rw t at (once n) in o) in
        let none_ks : count_of ks n ≡ 0 = omega (arith, one) in
        let none_rest : count_of rest n ≡ 0 = omega (arith, one) in
        let own : Alike m c = subst (λ l. Alike l c) (sym is) (alike (record { parent = q; content = c; children = tops ks }) (rw t refl)) in
        rw (eq-eqb n m (sym is), revised_none ks n g none_ks, revised_none rest n g none_rest)
        (solid-Tree m (g c) ks rest ∙ (ap (λ l. l ++ (solid_leaves ks ++ solid_leaves rest)) own ∙ sym (solid-Tree m c ks rest))))
    | inr (t, off) ↦ elim (none_or_some (count_of ks n)) [
      | inl none ↦ (
          let others = solid-revised q rest (λ l. omega (arith, once l)) (λ r e. alike r (rw (t, seek_absent (Some m) ks n none) e)) in
          rw (ne_eqb n m (λ e. off (sym e)), revised_none ks n g none)
          (solid-Tree m c ks (revised rest n g) ∙ (ap (λ l. filter is_solid (borne_by m c) ++ (solid_leaves ks ++ l)) others ∙ sym (solid-Tree m c ks rest))))
      | inr some ↦ (
          let none : count_of rest n ≡ 0 = omega (arith, once n, some) in
          let kids = solid-revised (Some m) ks (λ l. omega (arith, once l)) (λ r e. alike r (rw (t, e) refl)) in
          rw (ne_eqb n m (λ e. off (sym e)), revised_none rest n g none)
          (solid-Tree m c (revised ks n g) rest ∙ (ap (λ l. filter is_solid (borne_by m c) ++ (l ++ solid_leaves rest)) kids ∙ sym (solid-Tree m c ks rest))))
    ]
  ]

borne_words : (n : ℕ) (chars : List ℕ) → borne_by n (Words chars) ≡ map Letter chars
unfolding borne_by
borne_words n chars = refl

-- a text whose characters change by blanks alone
module _ (f : Forest Content) (next : ℕ) (law : IsForest f next) (n at count : ℕ) (put chars : List ℕ) (text : content_of f n ≡ Some (Words chars)) (same : solid_chars (spliced chars at count put) ≡ solid_chars chars) where
  pub alike_words : (r : Seen Content) → seek None (tree_of f 0) n ≡ Some r → Alike n (with_replaced at count put) n r.content
  alike_words r e =
      let is : Some r.content ≡ Some (Words chars) = sym (ap (option_map (λ (y : Seen Content). y.content)) (seek_document f next n r law e)) ∙ text in
      let is' : Words chars ≡ r.content = (let t = is in cc) in
      subst (λ c. Alike n (with_replaced at count put) n c) is'
      (ap (filter is_solid) (borne_words n (spliced chars at count put)) ∙ (same ∙ sym (ap (filter is_solid) (borne_words n chars))))

  pub solid_replaced : solid_leaves (tree_of (revised f n (with_replaced at count put)) 0) ≡ solid_leaves (tree_of f 0)
  solid_replaced =
      ap solid_leaves (document-revised f next law n (with_replaced at count put))
      ∙ solid-revised n (with_replaced at count put) None (tree_of f 0) (forest-document f next law).distinct alike_words
