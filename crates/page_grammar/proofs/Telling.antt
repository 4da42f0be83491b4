-- The tree that a page's events tell is the page's.
use Rattle.std.proofs.Common.{◌≡◌, ℕ, suc, ◌+◌, List, [], ◌∷◌, ◌++◌, Option, Some, None, refl, sym, ap, ◌∙◌, subst, arith}
use Rattle.page_grammar.specs.Page.{Siblings, Nil, TextNode, CommentNode, ElementNode, size}
use Rattle.page_grammar.specs.Machine.{Event, CloseEvent, events}
use Rattle.page_grammar.specs.Reader.{begin, read_bytes}
use Rattle.page_grammar.specs.Bytes.{PageBytes}
use Rattle.page_grammar.specs.Kind.{Kind, page_fault}
use Rattle.page_grammar.specs.Rows.{IsFault}
use Rattle.page_grammar.specs.Reading.{OpenElement, Growing, joined, grow, grow_all, tree_of, Reading, Children, Refused, emitted_by, reading_of, page_reading, IsReading}
use Rattle.page_grammar.proofs.Complete.{page_read}
use Rattle.page_grammar.proofs.Characters.{read_text}
use Rattle.page_grammar.proofs.OneTree.{Labelled, labelled, one_tree_bytes}
use Rattle.page_grammar.proofs.Faults.{fault_is}
use Rattle.page_grammar.proofs.OnlyFault.{only_fault}

pub joined_nil : (f : Siblings) → joined f Nil ≡ f
joined_nil Nil = refl
joined_nil (TextNode l t f) = ap (λ z. TextNode l t z) (joined_nil f)
joined_nil (CommentNode l t f) = ap (λ z. CommentNode l t z) (joined_nil f)
joined_nil (ElementNode l w ts k f) = ap (λ z. ElementNode l w ts k z) (joined_nil f)

pub joined_joined : (f g h : Siblings) → joined (joined f g) h ≡ joined f (joined g h)
joined_joined Nil g h = refl
joined_joined (TextNode l t f) g h = ap (λ z. TextNode l t z) (joined_joined f g h)
joined_joined (CommentNode l t f) g h = ap (λ z. CommentNode l t z) (joined_joined f g h)
joined_joined (ElementNode l w ts k f) g h = ap (λ z. ElementNode l w ts k z) (joined_joined f g h)

grow_append : (xs ys : List Event) (g : Growing) → grow_all (xs ++ ys) g ≡ grow_all ys (grow_all xs g)
grow_append [] ys g = refl
grow_append (x ∷ xs) ys g = grow_append xs ys (grow x g)

abbrev growing : List OpenElement → Siblings → ℕ → Growing
growing es f n = record { opened = es; here = f; next = n }

tells : (n : ℕ) (f : Siblings) (es : List OpenElement) (g : Siblings) → Labelled n f → grow_all (events f) (growing es g n) ≡ growing es (joined g f) (n + size f)
tells n Nil es g h = let e : n ≡ n + 0 = omega arith in ap (λ z. growing es z n) (sym (joined_nil g)) ∙ ap (λ z. growing es (joined g Nil) z) e
tells n (TextNode l t f) es g h =
    let e : suc n + size f ≡ n + suc (size f) = omega arith in
    tells (suc n) f es (joined g (TextNode n t Nil)) h.1
    ∙ ap (λ z. growing es z (suc n + size f)) (joined_joined g (TextNode n t Nil) f)
    ∙ ap (λ z. growing es (joined g (TextNode z t f)) (suc n + size f)) (sym h.0)
    ∙ ap (λ z. growing es (joined g (TextNode l t f)) z) e
tells n (CommentNode l t f) es g h =
    let e : suc n + size f ≡ n + suc (size f) = omega arith in
    tells (suc n) f es (joined g (CommentNode n t Nil)) h.1
    ∙ ap (λ z. growing es z (suc n + size f)) (joined_joined g (CommentNode n t Nil) f)
    ∙ ap (λ z. growing es (joined g (CommentNode z t f)) (suc n + size f)) (sym h.0)
    ∙ ap (λ z. growing es (joined g (CommentNode l t f)) z) e
tells n (ElementNode l w ts k f) es g h =
    let o : OpenElement = record { label = n; name = w; attributes = ts; before = g } in
    let e : suc n + size k + size f ≡ n + suc (size k + size f) = omega arith in
    grow_append (events k) (CloseEvent ∷ events f) (growing (o ∷ es) Nil (suc n))
    ∙ ap (λ z. grow_all (CloseEvent ∷ events f) z) (tells (suc n) k (o ∷ es) Nil h.1)
    ∙ tells (suc n + size k) f es (joined g (ElementNode n w ts k Nil)) h.2
    ∙ ap (λ z. growing es z (suc n + size k + size f)) (joined_joined g (ElementNode n w ts k Nil) f)
    ∙ ap (λ z. growing es (joined g (ElementNode z w ts k f)) (suc n + size k + size f)) (sym h.0)
    ∙ ap (λ z. growing es (joined g (ElementNode l w ts k f)) z) e

pub tree_told : (f : Siblings) → Labelled 1 f → tree_of (events f) ≡ f
tree_told f h = ap (λ z. z.here) (tells 1 f [] Nil h)

pub children_told : (d c : ℕ) (s : List ℕ) (f : Siblings) → PageBytes d c s f → tree_of (emitted_by (read_bytes c (begin d) s)) ≡ f
children_told d c s f (cs, sc, e, page) =
    let x = page_read d c cs f page in
    let y = read_text d c cs x.there sc x.reads in
    ap (λ z. tree_of (emitted_by (read_bytes c (begin d) z))) (sym e)
    ∙ ap (λ z. tree_of (emitted_by z)) y
    ∙ ap (λ z. tree_of z) x.tells
    ∙ tree_told f (labelled d c 1 f cs [] page)

reading_by : (d c : ℕ) (s : List ℕ) (o : Option (ℕ × Kind)) → IsFault d c s o → IsReading d c s (reading_of d c s o)
reading_by d c s None h = (subst (λ z. PageBytes d c s z) (sym (children_told d c s h.0.0 h.0.1)) h.0.1, h.1)
reading_by d c s (Some x) h = h

pub reading_is : (d c : ℕ) (s : List ℕ) → IsReading d c s (page_reading d c s)
reading_is d c s = reading_by d c s (page_fault d c s) (fault_is d c s)

refused_by : Option (ℕ × Kind) → Reading
refused_by None = Children Nil
refused_by (Some x) = Refused x.0 x.1

pub one_reading : (d c : ℕ) (s : List ℕ) (a b : Reading) → IsReading d c s a → IsReading d c s b → a ≡ b
unfolding refused_by
one_reading d c s (Children f) (Children g) h k = ap (λ z. Children z) (one_tree_bytes d c s f g h.0 k.0)
one_reading d c s (Children f) (Refused j y) h k = absurd (k.0 ((f, h.0), h.1))
one_reading d c s (Refused i x) (Children g) h k = absurd (h.0 ((g, k.0), k.1))
one_reading d c s (Refused i x) (Refused j y) h k =
    let p = only_fault d c s (Some (i, x)) h in
    let q = only_fault d c s (Some (j, y)) k in
    ap refused_by (p ∙ sym q)

pub only_reading : (d c : ℕ) (s : List ℕ) (x : Reading) → IsReading d c s x → x ≡ page_reading d c s
only_reading d c s x h = one_reading d c s x (page_reading d c s) h (reading_is d c s)
