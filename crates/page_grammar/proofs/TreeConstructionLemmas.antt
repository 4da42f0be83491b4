-- Constructing the tree of a page's events gives its document.
use Rattle.std.proofs.Common.{◌≡◌, ℕ, suc, ◌+◌, ◌<◌, ◌≤◌, false, List, [], ◌∷◌, ◌++◌, None, refl, sym, ap, ◌∙◌, subst, arith, eq-eqb}
use Rattle.std.specs.Prelude.{◌==◌, map}
use Rattle.std.proofs.lemmas.Bool.Decides.{nat_tests}
use Rattle.dom_model.specs.declared.Content.{Content}
use Rattle.dom_model.specs.declared.Content.TheVariants.{Document, Element, Words, Remark}
use Rattle.dom_model.specs.Forest.{Forest, join, count_of, put_before, put_under}
use Rattle.dom_model.specs.Forest.Forest.{Nil as Empty, Tree}
use Rattle.dom_model.proofs.Totals.{put_under_nowhere}
use Rattle.page_grammar.specs.Page.{Siblings, Nil, TextNode, CommentNode, ElementNode, size}
use Rattle.page_grammar.specs.Machine.{Event, OpenEvent, CloseEvent, events}
use Rattle.page_grammar.specs.Bytes.{PageBytes}
use Rattle.page_grammar.specs.Nodes.{attributes_of, nodes_of, document_of}
use Rattle.page_grammar.specs.Reading.{OpenElement, joined}
use Rattle.page_grammar.specs.TreeConstruction.{TreeConstruction, innermost, with_last, construct, construct_all, initial_tree, whole_tree}
use Rattle.page_grammar.proofs.OneTree.{Labelled, labelled}
use Rattle.page_grammar.proofs.Telling.{joined_nil, joined_joined}

-- all labels below n
abbrev Below : ℕ → Siblings → Type 0
Below n Nil = Unit {0}
Below n (TextNode l t f) = (l < n) × Below n f
Below n (CommentNode l t f) = (l < n) × Below n f
Below n (ElementNode l w ts k f) = (l < n) × Below n k × Below n f

below_more : (n k : ℕ) (f : Siblings) → n ≤ k → Below n f → Below k f
below_more n k Nil h b = tt
below_more n k (TextNode l t f) h b = let x = b.0 in (omega arith, below_more n k f h b.1)
below_more n k (CommentNode l t f) h b = let x = b.0 in (omega arith, below_more n k f h b.1)
below_more n k (ElementNode l w ts c f) h b = let x = b.0 in (omega arith, below_more n k c h b.1, below_more n k f h b.2)

below_joined : (n : ℕ) (f g : Siblings) → Below n f → Below n g → Below n (joined f g)
below_joined n Nil g a b = b
below_joined n (TextNode l t f) g a b = (a.0, below_joined n f g a.1 b)
below_joined n (CommentNode l t f) g a b = (a.0, below_joined n f g a.1 b)
below_joined n (ElementNode l w ts k f) g a b = (a.0, a.1, below_joined n f g a.2 b)

labelled_below : (n : ℕ) (f : Siblings) → Labelled n f → Below (n + size f) f
labelled_below n Nil h = tt
labelled_below n (TextNode l t f) h =
    let e = h.0 in
    let z : suc n + size f ≡ n + suc (size f) = omega arith in
    (omega arith, subst (λ k. Below k f) z (labelled_below (suc n) f h.1))
labelled_below n (CommentNode l t f) h =
    let e = h.0 in
    let z : suc n + size f ≡ n + suc (size f) = omega arith in
    (omega arith, subst (λ k. Below k f) z (labelled_below (suc n) f h.1))
labelled_below n (ElementNode l w ts k f) h =
    let e = h.0 in
    let z : suc n + size k + size f ≡ n + suc (size k + size f) = omega arith in
    (omega arith, below_more (suc n + size k) (n + suc (size k + size f)) k (omega arith) (labelled_below (suc n) k h.1), subst (λ v. Below v f) z (labelled_below (suc n + size k) f h.2))

differs : (m p : ℕ) → m < p → (m == p) ≡ false
differs m p h = grind (arith, nat_tests)

absent : (n p : ℕ) (f : Siblings) → Below n f → n ≤ p → count_of (nodes_of f) p ≡ 0
absent n p Nil b h = refl
absent n p (TextNode l t f) b h = let ih = absent n p f b.1 h in let x = b.0 in rw (differs l p (omega arith)) (omega arith)
absent n p (CommentNode l t f) b h = let ih = absent n p f b.1 h in let x = b.0 in rw (differs l p (omega arith)) (omega arith)
absent n p (ElementNode l w ts k f) b h = let kids = absent n p k b.1 h in let ih = absent n p f b.2 h in let x = b.0 in rw (differs l p (omega arith)) (omega arith)

nodes_joined : (f g : Siblings) → nodes_of (joined f g) ≡ join (nodes_of f) (nodes_of g)
nodes_joined Nil g = refl
nodes_joined (TextNode l t f) g = ap (λ z. Tree l (Words t) Empty z) (nodes_joined f g)
nodes_joined (CommentNode l t f) g = ap (λ z. Tree l (Remark t) Empty z) (nodes_joined f g)
nodes_joined (ElementNode l w ts k f) g = ap (λ z. Tree l (Element w (attributes_of ts)) (nodes_of k) z) (nodes_joined f g)

put_last : (f t : Forest Content) → put_before f None t ≡ join f t
put_last Empty t = refl
put_last (Tree m c ks rest) t = ap (λ z. Tree m c ks z) (put_last rest t)

-- put behind trees that don't have p
put_behind : (g : Siblings) (n p : ℕ) (y t : Forest Content) → Below n g → n ≤ p → put_under (join (nodes_of g) y) p None t ≡ join (nodes_of g) (put_under y p None t)
put_behind Nil n p y t b h = refl
put_behind (TextNode l x f) n p y t b h = let u = b.0 in rw (differs l p (omega arith)) (ap (λ z. Tree l (Words x) Empty z) (put_behind f n p y t b.1 h))
put_behind (CommentNode l x f) n p y t b h = let u = b.0 in rw (differs l p (omega arith)) (ap (λ z. Tree l (Remark x) Empty z) (put_behind f n p y t b.1 h))
put_behind (ElementNode l w ts k f) n p y t b h =
    let u = b.0 in
    let kids = put_under_nowhere (nodes_of k) p None t (absent n p k b.1 h) in
    rw (differs l p (omega arith), kids) (ap (λ z. Tree l (Element w (attributes_of ts)) (nodes_of k) z) (put_behind f n p y t b.2 h))

abbrev content_of : OpenElement → Content
content_of o = Element o.name (attributes_of o.attributes)

-- the top level, where these elements are open and x is in the innermost
abbrev shown : List OpenElement → Forest Content → Forest Content
shown [] x = x
shown (o ∷ os) x = shown os (join (nodes_of o.before) (Tree o.label (content_of o) x Empty))

-- each stands above what comes before it and what it stands in
abbrev Stacked : ℕ → List OpenElement → Type 0
Stacked n [] = Unit {0}
Stacked n (o ∷ os) = (o.label < n) × (0 < o.label) × Below o.label o.before × Stacked o.label os

stacked_more : (n k : ℕ) (os : List OpenElement) → n ≤ k → Stacked n os → Stacked k os
stacked_more n k [] h s = tt
stacked_more n k (o ∷ os) h s = let x = s.0 in (omega arith, s.1, s.2, s.3)

put_inside : (os : List OpenElement) (p : ℕ) (x t : Forest Content) → Stacked p os → put_under (shown os x) p None t ≡ shown os (put_under x p None t)
put_inside [] p x t s = refl
put_inside (o ∷ os) p x t s =
    let lt = s.0 in
    let one : put_under (Tree o.label (content_of o) x Empty) p None t ≡ Tree o.label (content_of o) (put_under x p None t) Empty = rw (differs o.label p lt) refl in
    put_inside os p (join (nodes_of o.before) (Tree o.label (content_of o) x Empty)) t (stacked_more o.label p os (omega arith) s.3)
    ∙ ap (λ z. shown os z) (put_behind o.before o.label p (Tree o.label (content_of o) x Empty) t s.2 (omega arith) ∙ ap (λ z. join (nodes_of o.before) z) one)

abbrev label_of : OpenElement → ℕ
label_of o = o.label

put_innermost : (n : ℕ) (os : List OpenElement) (x t : Forest Content) → Stacked n os → put_under (Tree 0 Document (shown os x) Empty) (innermost (map label_of os)) None t ≡ Tree 0 Document (shown os (join x t)) Empty
put_innermost n [] x t s = ap (λ z. Tree 0 Document z Empty) (put_last x t)
put_innermost n (o ∷ os) x t s =
    let p = o.label in
    let y = Tree p (content_of o) x Empty in
    let here : put_under y p None t ≡ Tree p (content_of o) (join x t) Empty = rw (eq-eqb p p refl) (ap (λ z. Tree p (content_of o) z Empty) (put_last x t)) in
    let in_top : put_under (shown os (join (nodes_of o.before) y)) p None t ≡ shown (o ∷ os) (join x t) =
    put_inside os p (join (nodes_of o.before) y) t s.3 ∙ ap (λ z. shown os z) (put_behind o.before p p y t s.2 (omega arith) ∙ ap (λ z. join (nodes_of o.before) z) here) in
    rw (differs 0 p s.1) (ap (λ z. Tree 0 Document z Empty) in_top)

construct_append : (xs ys : List Event) (p : TreeConstruction) → construct_all (xs ++ ys) p ≡ construct_all ys (construct_all xs p)
construct_append [] ys p = refl
construct_append (x ∷ xs) ys p = construct_append xs ys (construct x p)

abbrev tree_construction : List OpenElement → Siblings → ℕ → TreeConstruction
tree_construction os g n = record { trees = Tree 0 Document (shown os (nodes_of g)) Empty; opened = map label_of os; next = n }

leaf : (n : ℕ) (os : List OpenElement) (g : Siblings) (c : Content) (x : Siblings) → Stacked n os → nodes_of x ≡ Tree n c Empty Empty → with_last (tree_construction os g n) c ≡ tree_construction os (joined g x) (suc n)
leaf n os g c x s e =
    ap (λ z. record { trees = z; opened = map label_of os; next = suc n })
    (put_innermost n os (nodes_of g) (Tree n c Empty Empty) s
    ∙ ap (λ z. Tree 0 Document (shown os z) Empty) (ap (λ z. join (nodes_of g) z) (sym e) ∙ sym (nodes_joined g x)))

constructs : (n : ℕ) (f : Siblings) (os : List OpenElement) (g : Siblings) → 0 < n → Labelled n f → Stacked n os → Below n g → construct_all (events f) (tree_construction os g n) ≡ tree_construction os (joined g f) (n + size f)
constructs n Nil os g pos h s b = let e : n ≡ n + 0 = omega arith in ap (λ z. tree_construction os z n) (sym (joined_nil g)) ∙ ap (λ z. tree_construction os (joined g Nil) z) e
constructs n (TextNode l t f) os g pos h s b =
    let x = TextNode n t Nil in
    let e : suc n + size f ≡ n + suc (size f) = omega arith in
    let lt : n < suc n = omega arith in
    let le : n ≤ suc n = omega arith in
    let g2 = below_joined (suc n) g x (below_more n (suc n) g le b) (lt, tt) in
    ap (λ z. construct_all (events f) z) (leaf n os g (Words t) x s refl)
    ∙ constructs (suc n) f os (joined g x) (omega arith) h.1 (stacked_more n (suc n) os le s) g2
    ∙ ap (λ z. tree_construction os z (suc n + size f)) (joined_joined g x f)
    ∙ ap (λ z. tree_construction os (joined g (TextNode z t f)) (suc n + size f)) (sym h.0)
    ∙ ap (λ z. tree_construction os (joined g (TextNode l t f)) z) e
constructs n (CommentNode l t f) os g pos h s b =
    let x = CommentNode n t Nil in
    let e : suc n + size f ≡ n + suc (size f) = omega arith in
    let lt : n < suc n = omega arith in
    let le : n ≤ suc n = omega arith in
    let g2 = below_joined (suc n) g x (below_more n (suc n) g le b) (lt, tt) in
    ap (λ z. construct_all (events f) z) (leaf n os g (Remark t) x s refl)
    ∙ constructs (suc n) f os (joined g x) (omega arith) h.1 (stacked_more n (suc n) os le s) g2
    ∙ ap (λ z. tree_construction os z (suc n + size f)) (joined_joined g x f)
    ∙ ap (λ z. tree_construction os (joined g (CommentNode z t f)) (suc n + size f)) (sym h.0)
    ∙ ap (λ z. tree_construction os (joined g (CommentNode l t f)) z) e
constructs n (ElementNode l w ts k f) os g pos h s b =
    let o : OpenElement = record { label = n; name = w; attributes = ts; before = g } in
    let c = Element w (attributes_of ts) in
    let x = ElementNode n w ts Nil Nil in
    let y = ElementNode n w ts k Nil in
    let n2 = suc n + size k in
    let e : n2 + size f ≡ n + suc (size k + size f) = omega arith in
    let lt : n < suc n = omega arith in
    let le : n ≤ suc n = omega arith in
    let le2 : n ≤ n2 = omega arith in
    let lt2 : n < n2 = omega arith in
    let opened : construct (OpenEvent w ts) (tree_construction os g n) ≡ tree_construction (o ∷ os) Nil (suc n) =
    ap (λ z. record { trees = z; opened = n ∷ map label_of os; next = suc n }) (put_innermost n os (nodes_of g) (Tree n c Empty Empty) s) in
    let kids = constructs (suc n) k (o ∷ os) Nil (omega arith) h.1 (lt, pos, b, s) tt in
    let closed : construct CloseEvent (tree_construction (o ∷ os) k n2) ≡ tree_construction os (joined g y) n2 =
    ap (λ z. record { trees = Tree 0 Document (shown os z) Empty; opened = map label_of os; next = n2 }) (sym (nodes_joined g y)) in
    let g2 = below_joined n2 g y (below_more n n2 g le2 b) (lt2, labelled_below (suc n) k h.1, tt) in
    ap (λ z. construct_all (events k ++ CloseEvent ∷ events f) z) opened
    ∙ construct_append (events k) (CloseEvent ∷ events f) (tree_construction (o ∷ os) Nil (suc n))
    ∙ ap (λ z. construct_all (CloseEvent ∷ events f) z) kids
    ∙ ap (λ z. construct_all (events f) z) closed
    ∙ constructs n2 f os (joined g y) (omega arith) h.2 (stacked_more n n2 os le2 s) g2
    ∙ ap (λ z. tree_construction os z (n2 + size f)) (joined_joined g y f)
    ∙ ap (λ z. tree_construction os (joined g (ElementNode z w ts k f)) (n2 + size f)) (sym h.0)
    ∙ ap (λ z. tree_construction os (joined g (ElementNode l w ts k f)) z) e

pub constructed : (d c : ℕ) (s : List ℕ) (f : Siblings) → PageBytes d c s f → construct_all (events f) initial_tree ≡ whole_tree f
constructed d c s f (cs, sc, e, page) =
    let z : 1 + size f ≡ suc (size f) = omega arith in
    constructs 1 f [] Nil (omega arith) (labelled d c 1 f cs [] page) tt tt ∙ ap (λ n. record { trees = document_of f; opened = []; next = n }) z
