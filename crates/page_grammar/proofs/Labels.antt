-- Labels are drawn in tree order.
use Rattle.std.proofs.Common.{◌≡◌, ℕ, zero, suc, ◌+◌, ◌<◌, ◌≤◌, inl, inr, List, [], ◌∷◌, ◌++◌, refl, ap, ◌∙◌, arith}
use Rattle.std.specs.Prelude.{◌↔◌}
use Rattle.std.specs.List.{range_with_len}
use Rattle.std.proofs.lemmas.Bool.{cases_lt}
use Rattle.page_grammar.specs.Page.{Siblings, Nil, TextNode, CommentNode, ElementNode, size, labels, ReachesLabel}
use Rattle.page_grammar.specs.Bytes.{PageBytes}
use Rattle.page_grammar.proofs.OneTree.{Labelled, labelled}

range_append : (a m n : ℕ) → range_with_len a m ++ range_with_len (a + m) n ≡ range_with_len a (m + n)
range_append a zero n = let e : a + 0 ≡ a = omega arith in let z : n ≡ 0 + n = omega arith in ap (λ k. range_with_len k n) e ∙ ap (λ k. range_with_len a k) z
range_append a (suc m) n =
    let e : a + suc m ≡ a + 1 + m = omega arith in
    let z : suc m + n ≡ suc (m + n) = omega arith in
    rw (e, z) (ap (λ k. a ∷ k) (range_append (a + 1) m n))

next_label : (n k : ℕ) → suc n ≡ n + 1
next_label n k = omega arith

drawn : (n : ℕ) (f : Siblings) → Labelled n f → labels f ≡ range_with_len n (size f)
drawn n Nil h = refl
drawn n (TextNode l t f) h = let ih = drawn (suc n) f h.1 in rw h.0 (ap (λ z. n ∷ z) (ih ∙ ap (λ k. range_with_len k (size f)) (next_label n 0)))
drawn n (CommentNode l t f) h = let ih = drawn (suc n) f h.1 in rw h.0 (ap (λ z. n ∷ z) (ih ∙ ap (λ k. range_with_len k (size f)) (next_label n 0)))
drawn n (ElementNode l w ts k f) h =
    let kids = drawn (suc n) k h.1 in
    let rest = drawn (suc n + size k) f h.2 in
    rw h.0 (ap (λ z. n ∷ z) (ap (λ z. z ++ labels f) kids ∙ ap (λ z. range_with_len (suc n) (size k) ++ z) rest ∙ range_append (suc n) (size k) (size f) ∙ ap (λ z. range_with_len z (size k + size f)) (next_label n 0)))

reached : (n c : ℕ) (f : Siblings) → Labelled n f → ReachesLabel c f → (0 < size f) × (c < n + size f)
reached n c Nil h x = elim x [ ]
reached n c (TextNode l t f) h (inl x) = let e = h.0 in (omega arith, omega arith)
reached n c (TextNode l t f) h (inr x) = let ih = reached (suc n) c f h.1 x in (omega arith, omega arith)
reached n c (CommentNode l t f) h (inl x) = let e = h.0 in (omega arith, omega arith)
reached n c (CommentNode l t f) h (inr x) = let ih = reached (suc n) c f h.1 x in (omega arith, omega arith)
reached n c (ElementNode l w ts k f) h (inl x) = let e = h.0 in (omega arith, omega arith)
reached n c (ElementNode l w ts k f) h (inr (inl x)) = let ih = reached (suc n) c k h.1 x in (omega arith, omega arith)
reached n c (ElementNode l w ts k f) h (inr (inr x)) = let ih = reached (suc n + size k) c f h.2 x in (omega arith, omega arith)

reaches : (n c : ℕ) (f : Siblings) → Labelled n f → 0 < size f → c < n + size f → ReachesLabel c f
reaches n c Nil h p x = absurd (omega arith)
reaches n c (TextNode l t f) h p x =
    elim (cases_lt n c) [
      | inr le ↦ inl (let e = h.0 in omega arith)
      | inl lt ↦ inr (reaches (suc n) c f h.1 (omega arith) (omega arith))
    ]
reaches n c (CommentNode l t f) h p x =
    elim (cases_lt n c) [
      | inr le ↦ inl (let e = h.0 in omega arith)
      | inl lt ↦ inr (reaches (suc n) c f h.1 (omega arith) (omega arith))
    ]
reaches n c (ElementNode l w ts k f) h p x =
    elim (cases_lt n c) [
      | inr le ↦ inl (let e = h.0 in omega arith)
      | inl lt ↦ elim (cases_lt c (suc n + size k)) [
        | inl near ↦ inr (inl (reaches (suc n) c k h.1 (omega arith) near))
        | inr far ↦ inr (inr (reaches (suc n + size k) c f h.2 (omega arith) (omega arith)))
      ]
    ]

pub labels_drawn : (d c : ℕ) (s : List ℕ) (f : Siblings) → PageBytes d c s f → labels f ≡ range_with_len 1 (size f)
labels_drawn d c s f (cs, sc, e, page) = drawn 1 f (labelled d c 1 f cs [] page)

pub labels_reach : (d c k : ℕ) (s : List ℕ) (f : Siblings) → PageBytes d c s f → ReachesLabel k f ↔ ((0 < size f) × (k ≤ size f))
labels_reach d c k s f (cs, sc, e, page) =
    let h = labelled d c 1 f cs [] page in
    (λ x. let y = reached 1 k f h x in (y.0, omega arith), λ y. let y1 = y.1 in reaches 1 k f h y.0 (omega arith))
