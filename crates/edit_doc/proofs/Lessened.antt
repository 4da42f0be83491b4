-- The numbers of the document after a tree leaves it, or a text of it changes.
use Rattle.std.proofs.Common.{◌≡◌, ℕ, ◌+◌, ◌-◌, ◌*◌, ◌<◌, ◌≤◌, ◌^◌, true, false, true≢false, eqb, not, List, [], ◌++◌, length, take, drop, Option, Some, None, refl, sym, ap, subst, ◌∙◌, inl, inr, arith, length-append}
use Rattle.std.specs.Prelude.{nat_lt, nat_le}
use Rattle.std.specs.Option.{option_map}
use Rattle.std.proofs.lemmas.Bool.{and_parts, ltb-true, leb-true}
use Rattle.std.proofs.lemmas.Bool.Decides.{eqb_tells}
use Rattle.std.proofs.lemmas.List.{length-take, length-drop}
use Rattle.edit_model.specs.DomModel.declared.Content.{Content}
use Rattle.edit_model.specs.DomModel.declared.Content.TheVariants.{Document, Element, Words, Remark}
use Rattle.edit_model.specs.DomModel.Contents.{words_length, char_length}
use Rattle.edit_model.specs.DomModel.Document.{char_count}
use Rattle.edit_model.specs.DomModel.Forest.{Forest, Seen, tops, total, seek, count_of, content_of, tree_of, parent_of, unlink, IsDistinct}
use Rattle.edit_model.specs.DomModel.Forest.Forest.{Nil, Tree}
use Rattle.edit_model.specs.DomModel.Revised.{revised}
use Rattle.edit_model.specs.DomModel.Pruned.{pruned}
use Rattle.edit_model.specs.DomModel.ArenaState.{ArenaState as Arena, IsValid as IsArena}
use Rattle.edit_model.proofs.DomModel.Deepest.{total-bound}
use Rattle.edit_model.proofs.DomModel.Stands.{Stands, seek_Stands}
use Rattle.edit_model.proofs.DomModel.Pruning.{IsDistinct-pruned}
use Rattle.edit_model.proofs.DomModel.Links.{found_count}
use Rattle.edit_model.proofs.DomModel.Totals.{total-without}
use Rattle.edit_model.specs.PointOrder.PointOrder.{is_in_document}
use Rattle.step_edits.proofs.ForestChanges.PrunedChanges.{content_of-pruned}
use Rattle.step_edits.proofs.ForestChanges.Twice.{forest_of}
use Rattle.edit_model.specs.Confined.{spliced, may_change}
use Rattle.edit_model.specs.Edit.{with_replaced}
use Rattle.edit_model.proofs.Documents.{document-revised}
use Rattle.edit_model.proofs.Forests.{few_nodes}
use Rattle.edit_model.proofs.Tests.{not_within}
use Rattle.edit_doc.specs.History.{is_hidden}
use Rattle.edit_doc.proofs.Counted.{unlinked_inside, unlinked_outside}
use Rattle.edit_doc.proofs.HiddenTrees.{seen_at_rest}
use Rattle.edit_doc.proofs.Rests.{arena_forest}

-- ---- a tree that leaves

module _ (a : Arena) (law : IsArena a) (n o : ℕ) (child : parent_of a.trees n ≡ Some o) (w : ℕ → Content → ℕ) where
  pub less_inside : is_in_document a.trees n ≡ true → total w (tree_of (unlink a.trees n) 0) + total w (tree_of a.trees n) ≡ total w (tree_of a.trees 0)
  less_inside h = unlinked_inside a.trees a.next (arena_forest a law) w o n child (ltb-true 0 (count_of (tree_of a.trees 0) n) h)

  pub less_outside : is_in_document a.trees n ≡ false → total w (tree_of (unlink a.trees n) 0) ≡ total w (tree_of a.trees 0)
  less_outside h = unlinked_outside a.trees a.next (arena_forest a law) w o n child (not_within a.trees 0 n (ap not h))

-- ---- one content that changes

other : (n m : ℕ) → (n ≡ m → ⊥) → eqb n m ≡ false
other n m off = elim (eqb_tells n m) [ inl (_, e) ↦ absurd (off e) | inr (e, _) ↦ e ]

own : (n : ℕ) → eqb n n ≡ true
own n = elim (eqb_tells n n) [ inl (e, _) ↦ e | inr (_, off) ↦ absurd (off refl) ]

module _ (w : Content → ℕ) (n : ℕ) (g : Content → Content) (c : Content) where
  absent : (f : Forest Content) → count_of f n ≡ 0 → total (λ _ d. w d) (revised f n g) ≡ total (λ _ d. w d) f
  absent Nil none = refl
  absent (Tree m d ks rest) none = elim (eqb_tells m n) [
    | inl (e, _) ↦ absurd (let none' = rw e at none in omega (arith, none'))
    | inr (e, off) ↦ (
        let none' = rw e at none in
        let u : eqb n m ≡ false = other n m (λ s. off (sym s)) in
        rw u (omega (arith, absent ks (omega (arith, none')), absent rest (omega (arith, none')))))
  ]

  once : (q : Option ℕ) (f : Forest Content) → ((s : Seen Content) → Stands q f n s → s.content ≡ c) → count_of f n ≡ 1 → total (λ _ d. w d) (revised f n g) + w c ≡ total (λ _ d. w d) f + w (g c)
  once q Nil same one = absurd (omega (arith, one))
  once q (Tree m d ks rest) same one = elim (eqb_tells m n) [
    | inl (e, is) ↦ (
        let one' = rw e at one in
        let u : eqb n m ≡ true = subst (λ k. eqb k m ≡ true) is (own m) in
        let here : d ≡ c = same (record { parent = q; content = d; children = tops ks }) (inl (is, refl)) in
        let x : w d ≡ w c = ap w here in
        let y : w (g d) ≡ w (g c) = ap (λ k. w (g k)) here in
        rw u (omega (arith, absent ks (omega (arith, one')), absent rest (omega (arith, one')), x, y)))
    | inr (e, off) ↦ (
        let one' = rw e at one in
        let u : eqb n m ≡ false = other n m (λ s. off (sym s)) in
        rw u (elim (eqb_tells (count_of ks n) 0) [
          | inl (_, none) ↦ omega (arith, absent ks none, once q rest (λ s st. same s (inr (inr st))) (omega (arith, one', none)))
          | inr (_, some) ↦ (
              let k : count_of ks n ≡ 1 = omega (arith, one', some) in
              omega (arith, once (Some m) ks (λ s st. same s (inr (inl st))) k, absent rest (omega (arith, one', k))))
        ]))
  ]

-- ---- a text that changes

pub record Changes (o : Option Content) (at count : ℕ) (put : List ℕ) : Type 0 where
  pub chars : List ℕ
  pub content : o ≡ Some (Words chars)
  pub reach : at + count ≤ length chars
  pub length_is : length (spliced chars at count put) ≡ length put + (length chars - count)
  pub short : length (spliced chars at count put) < 2 ^ 32

pub changes : (o : Option Content) (at count : ℕ) (put : List ℕ) → may_change o at count put ≡ true → Changes o at count put
changes None at count put h = absurd (true≢false (sym h))
changes (Some Document) at count put h = absurd (true≢false (sym h))
changes (Some (Element name attributes)) at count put h = absurd (true≢false (sym h))
changes (Some (Remark chars)) at count put h = absurd (true≢false (sym h))
changes (Some (Words chars)) at count put h =
    let h1 = and_parts (nat_le (at + count) (length chars)) _ h in
    let h2 = and_parts (nat_lt (length (spliced chars at count put)) (2 ^ 32)) _ h1.1 in
    let reach = leb-true (at + count) (length chars) h1.0 in
    record {
      chars = chars;
      content = refl;
      reach = reach;
      length_is = omega (arith, reach, length-append (take at chars) (put ++ drop (at + count) chars), length-append put (drop (at + count) chars), length-take at chars, length-drop (at + count) chars);
      short = ltb-true (length (spliced chars at count put)) (2 ^ 32) h2.0;
    }

words_short : (c : Content) → char_length c < 2 ^ 32 → words_length c ≤ 4294967295
words_short Document h = omega arith
words_short (Element name attributes) h = omega arith
words_short (Words chars) h = omega (arith, h)
words_short (Remark chars) h = omega arith

module _ (a : Arena) (law : IsArena a) (n at count : ℕ) (put : List ℕ) (may : may_change (content_of a.trees n) at count put ≡ true) where
  abbrev f : Forest Content
  f = a.trees

  abbrev page : Forest Content
  page = tree_of a.trees 0

  abbrev g : Content → Content
  g = with_replaced at count put

  t : Changes (content_of a.trees n) at count put
  t = changes (content_of a.trees n) at count put may

  rest_is : pruned (is_hidden f a.next) f ≡ page
  rest_is = seen_at_rest f a.next (arena_forest a law)

  page_once : IsDistinct page
  page_once = subst IsDistinct rest_is (IsDistinct-pruned (is_hidden f a.next) f law.distinct)

  pub chars_outside : is_in_document a.trees n ≡ false → char_count (revised f n g) ≡ char_count f
  chars_outside h = ap (total (λ _ c. words_length c)) (document-revised f a.next (arena_forest a law) n g) ∙ absent words_length n g (Words t.chars) page (not_within f 0 n (ap not h))

  module _ (inside : is_in_document a.trees n ≡ true) where
    here : 0 < count_of page n
    here = ltb-true 0 (count_of page n) inside

    content_here : content_of page n ≡ Some (Words t.chars)
    content_here =
        ap (λ p. content_of p n) (sym rest_is)
        ∙ (content_of-pruned (is_hidden f a.next) f n (forest_of a law) (subst (λ p. 0 < count_of p n) (sym rest_is) here) ∙ t.content)

    same : (s : Seen Content) → Stands None page n s → s.content ≡ Words t.chars
    same s st =
        let e : content_of page n ≡ Some s.content = ap (option_map (λ (r : Seen Content). r.content)) (seek_Stands None page n s (page_once n) st) in
        let both : Some (Words t.chars) ≡ Some s.content = sym content_here ∙ e in
        sym (let b = both in cc)

    one : count_of page n ≡ 1
    one = (let h = here in let o = page_once n in omega (arith, h, o))

    emptied : total (λ _ c. words_length c) (revised page n (λ _. Words [])) + length t.chars ≡ char_count f
    emptied = (let e = once words_length n (λ _. Words []) (Words t.chars) None page same one in omega (arith, e))

    pub count_within : count ≤ char_count f
    count_within = (let e = emptied in let r = t.reach in omega (arith, e, r))

    pub chars_inside : char_count f - count + length put ≡ char_count (revised f n g)
    chars_inside =
        let e = once words_length n g (Words t.chars) None page same one in
        let m = ap (total (λ _ c. words_length c)) (document-revised f a.next (arena_forest a law) n g) in
        let l = t.length_is in
        let r = t.reach in
        let k = emptied in
        omega (arith, e, m, l, r, k)

    few : total (λ _ _. 1) page ≤ a.next
    few = (let w = total-without (λ _ (_ : Content). 1) f 0 in let n = few_nodes f a.next (arena_forest a law) in omega (arith, w, n))

    bound : char_count f ≤ 4294967295 * total (λ _ _. 1) page
    bound = total-bound (λ _ c. words_length c) 4294967295 page page_once low
      where
        low : (l : ℕ) (s : Seen Content) → seek None page l ≡ Some s → words_length s.content ≤ 4294967295
        low l s e =
            let at_page : content_of page l ≡ Some s.content = ap (option_map (λ (r : Seen Content). r.content)) e in
            let h : 0 < count_of page l = found_count page l s e in
            let at_f : content_of f l ≡ Some s.content = sym (content_of-pruned (is_hidden f a.next) f l (forest_of a law) (subst (λ p. 0 < count_of p l) (sym rest_is) h)) ∙ (ap (λ p. content_of p l) rest_is ∙ at_page) in
            by_seen (seek None f l) refl at_f
          where
            by_seen : (o : Option (Seen Content)) → seek None f l ≡ o → option_map (λ (r : Seen Content). r.content) o ≡ Some s.content → words_length s.content ≤ 4294967295
            by_seen None e h = absurd (let h' = h in cc)
            by_seen (Some r) e h = (let same : r.content ≡ s.content = (let h' = h in cc) in subst (λ c. words_length c ≤ 4294967295) same (words_short r.content (law.nodes l r e).short))

    pub chars_fit : char_count f - count + length put < 2 ^ 64
    chars_fit =
        let b = bound in
        let k = few in
        let cap = law.capped in
        let small = law.small in
        let l = t.length_is in
        let s = t.short in
        omega (arith, b, k, cap, small, l, s)
