-- A page has one tree.
use Rattle.std.proofs.Common.{◌≡◌, ℕ, suc, pred, ◌+◌, inl, inr, List, [], ◌∷◌, ◌++◌, refl, sym, ap, ◌∙◌, subst, append_assoc}
use Rattle.std.proofs.lemmas.Bool.{cases_Bool}
use Rattle.page_grammar.specs.Names.{is_void}
use Rattle.page_grammar.specs.Page.{Siblings, Nil, TextNode, CommentNode, ElementNode, size, IsNil, Content, EndTag, Page}
use Rattle.page_grammar.specs.Machine.{Event, TextEvent, CommentEvent, OpenEvent, CloseEvent, events, emitted}
use Rattle.page_grammar.proofs.Complete.{page_read, match_p, match_q}
use Rattle.page_grammar.specs.Bytes.{PageBytes}
use Rattle.std.proofs.lemmas.Str.{encodes_same}

-- labels in tree order from n on
abbrev pub Labelled : ℕ → Siblings → Type 0
Labelled n Nil = Unit {0}
Labelled n (TextNode l t f) = (l ≡ n) × Labelled (suc n) f
Labelled n (CommentNode l t f) = (l ≡ n) × Labelled (suc n) f
Labelled n (ElementNode l w ts k f) = (l ≡ n) × Labelled (suc n) k × Labelled (suc n + size k) f

nil_labelled : (n : ℕ) (k : Siblings) → IsNil k → Labelled n k
nil_labelled n Nil h = tt
nil_labelled n k h = elim h [ ]

pub labelled : (d c n : ℕ) (f : Siblings) (s r : List ℕ) → Content d c n f s r → Labelled n f
labelled d c n Nil s r h = tt
labelled d c n (TextNode l t f) s r h = (h.1, labelled d c (suc n) f h.0 r h.7)
labelled d c n (CommentNode l t f) s r h = (h.2, labelled d c (suc n) f h.1 r h.7)
labelled d c n (ElementNode l w ts k f) s r h =
    let inner : Labelled (suc n) k = elim (cases_Bool (is_void w)) [
      | inl v ↦ nil_labelled (suc n) k (match_p (is_void w) (IsNil k × (h.0 ≡ h.2)) (Content (pred d) c (suc n) k h.0 h.1 × EndTag w h.1 h.2) v h.7).0
      | inr v ↦ labelled (pred d) c (suc n) k h.0 h.1 (match_q (is_void w) (IsNil k × (h.0 ≡ h.2)) (Content (pred d) c (suc n) k h.0 h.1 × EndTag w h.1 h.2) v h.7).0
    ] in
    (h.3, inner, labelled d c (suc n + size k) f h.2 r h.8)

-- nothing, or an end
abbrev Stops : List Event → Type 0
Stops [] = Unit {0}
Stops (CloseEvent ∷ es) = Unit {0}
Stops (TextEvent t ∷ es) = ⊥
Stops (CommentEvent t ∷ es) = ⊥
Stops (OpenEvent w ts ∷ es) = ⊥

record Same (f g : Siblings) (xs ys : List Event) : Type 0 where
  tree : f ≡ g
  rest : xs ≡ ys

stop_not : {A : Type 0} (xs es : List Event) (e : Event) → Stops xs → xs ≡ e ∷ es → (Stops (e ∷ es) → ⊥) → A
stop_not xs es e h k n = absurd (n (subst Stops k h))

one : (n : ℕ) (f g : Siblings) (xs ys : List Event) → Labelled n f → Labelled n g → Stops xs → Stops ys → events f ++ xs ≡ events g ++ ys → Same f g xs ys
one n Nil Nil xs ys a b h k e = record { tree = refl; rest = e }
one n Nil (TextNode l t g) xs ys a b h k e = stop_not xs (events g ++ ys) (TextEvent t) h e (λ z. z)
one n Nil (CommentNode l t g) xs ys a b h k e = stop_not xs (events g ++ ys) (CommentEvent t) h e (λ z. z)
one n Nil (ElementNode l w ts k1 g) xs ys a b h k e = stop_not xs ((events k1 ++ CloseEvent ∷ events g) ++ ys) (OpenEvent w ts) h e (λ z. z)
one n (TextNode l t f) Nil xs ys a b h k e = stop_not ys (events f ++ xs) (TextEvent t) k (sym e) (λ z. z)
one n (CommentNode l t f) Nil xs ys a b h k e = stop_not ys (events f ++ xs) (CommentEvent t) k (sym e) (λ z. z)
one n (ElementNode l w ts k1 f) Nil xs ys a b h k e = stop_not ys ((events k1 ++ CloseEvent ∷ events f) ++ xs) (OpenEvent w ts) k (sym e) (λ z. z)
one n (TextNode l t f) (TextNode l2 t2 g) xs ys a b h k e =
    let tl : events f ++ xs ≡ events g ++ ys = cc in
    let te : t ≡ t2 = cc in
    let le : l ≡ l2 = a.0 ∙ sym b.0 in
    let z = one (suc n) f g xs ys a.1 b.1 h k tl in
    let tree = z.tree in
    record { tree = cc; rest = z.rest }
one n (CommentNode l t f) (CommentNode l2 t2 g) xs ys a b h k e =
    let tl : events f ++ xs ≡ events g ++ ys = cc in
    let te : t ≡ t2 = cc in
    let le : l ≡ l2 = a.0 ∙ sym b.0 in
    let z = one (suc n) f g xs ys a.1 b.1 h k tl in
    let tree = z.tree in
    record { tree = cc; rest = z.rest }
one n (ElementNode l w ts k1 f) (ElementNode l2 w2 ts2 k2 g) xs ys a b h k e =
    let tl : (events k1 ++ CloseEvent ∷ events f) ++ xs ≡ (events k2 ++ CloseEvent ∷ events g) ++ ys = cc in
    let we : w ≡ w2 = cc in
    let tse : ts ≡ ts2 = cc in
    let le : l ≡ l2 = a.0 ∙ sym b.0 in
    let apart : events k1 ++ CloseEvent ∷ (events f ++ xs) ≡ events k2 ++ CloseEvent ∷ (events g ++ ys) = sym (append_assoc (events k1) (CloseEvent ∷ events f) xs) ∙ tl ∙ append_assoc (events k2) (CloseEvent ∷ events g) ys in
    let z = one (suc n) k1 k2 (CloseEvent ∷ (events f ++ xs)) (CloseEvent ∷ (events g ++ ys)) a.1 b.1 tt tt apart in
    let kids = z.tree in
    let more = z.rest in
    let rl : events f ++ xs ≡ events g ++ ys = cc in
    let lab : Labelled (suc n + size k1) g = subst (λ q. Labelled (suc n + size q) g) (sym kids) b.2 in
    let y = one (suc n + size k1) f g xs ys a.2 lab h k rl in
    let tree = y.tree in
    record { tree = cc; rest = y.rest }
one n (TextNode l t f) (CommentNode l2 t2 g) xs ys a b h k e = cc
one n (TextNode l t f) (ElementNode l2 w2 ts2 k2 g) xs ys a b h k e = cc
one n (CommentNode l t f) (TextNode l2 t2 g) xs ys a b h k e = cc
one n (CommentNode l t f) (ElementNode l2 w2 ts2 k2 g) xs ys a b h k e = cc
one n (ElementNode l w ts k1 f) (TextNode l2 t2 g) xs ys a b h k e = cc
one n (ElementNode l w ts k1 f) (CommentNode l2 t2 g) xs ys a b h k e = cc

pub one_tree : (d c : ℕ) (s : List ℕ) (f g : Siblings) → Page d c s f → Page d c s g → f ≡ g
one_tree d c s f g h k =
    let x = page_read d c s f h in
    let y = page_read d c s g k in
    let xr = x.reads in
    let yr = y.reads in
    let same : x.there ≡ y.there = cc in
    let es : events f ++ [] ≡ events g ++ [] = ap (λ z. z ++ []) (sym x.tells ∙ ap emitted same ∙ y.tells) in
    (one 1 f g [] [] (labelled d c 1 f s [] h) (labelled d c 1 g s [] k) tt tt es).tree

pub one_tree_bytes : (d c : ℕ) (s : List ℕ) (f g : Siblings) → PageBytes d c s f → PageBytes d c s g → f ≡ g
one_tree_bytes d c s f g (cs, sc, e, h) (ds, sd, k, i) =
    let same : ds ≡ cs = encodes_same ds cs (k ∙ sym e) in
    one_tree d c cs f g h (subst (λ z. Page d c z g) same i)
