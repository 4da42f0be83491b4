-- What a tree becomes when its texts are joined and its nodes are numbered: it prints the same, and it is as reading
-- leaves trees.
use Rattle.std.proofs.Common.{◌≡◌, ℕ, suc, pred, ◌<◌, ◌≤◌, true, List, [], ◌∷◌, ◌++◌, length, refl, sym, ap, ◌∙◌, subst, append_assoc, arith}
use Rattle.std.proofs.lemmas.Grind.{flat_map-append}
use Rattle.std.proofs.Math.Utf8.{scalars}
use Rattle.page_grammar.specs.DomModel.declared.attributes.Attribute.{Attribute}
use Rattle.page_grammar.specs.DomModel.declared.Content.{Content}
use Rattle.page_grammar.specs.DomModel.declared.Content.TheVariants.{Document, Element, Words, Remark}
use Rattle.page_grammar.specs.DomModel.Forest.{Forest}
use Rattle.page_grammar.specs.DomModel.Forest.Forest.{Nil, Tree}
use Rattle.page_grammar.proofs.Facts.{scalars_app}
use Rattle.page_write.specs.Html.{text_char, text_html, opening, closing, html_of}
use Rattle.page_laws.specs.Writable.{IsElement, IsWritableNode, IsWritable}
use Rattle.page_laws.specs.Tidy.{NotWords, IsTidy, label_after, IsNumbered, words_before, with_words, tidied, numbered}
use Rattle.page_laws.proofs.Printing.{leaf_html}

-- ---- what can be written still can

tidied_nothing : (f : Forest Content) → f ≡ Nil → tidied f ≡ Nil
tidied_nothing f e = ap tidied e

numbered_nothing : (n : ℕ) (f : Forest Content) → f ≡ Nil → numbered n f ≡ Nil
numbered_nothing n f e = ap (numbered n) e

with_children : (w : List ℕ) (list : List Attribute) (ks js : Forest Content) → IsElement w list ks → (ks ≡ Nil → js ≡ Nil) → IsElement w list js
with_children w list ks js h e =
    record {
      name = h.name;
      supported = h.supported;
      attributes = h.attributes;
      distinct = h.distinct;
      void = λ v. e (h.void v);
    }

words_before_writable : (d l : ℕ) (t : List ℕ) (f : Forest Content) → 0 < d → scalars t ≡ true → IsWritable d f → IsWritable d (words_before l t f)
words_before_writable d l t Nil p s h = (p, (s, refl), tt, tt)
words_before_writable d l t (Tree m Document ks f) p s h = (p, (s, refl), tt, h)
words_before_writable d l t (Tree m (Element w list) ks f) p s h = (p, (s, refl), tt, h)
words_before_writable d l t (Tree m (Words u) ks f) p s h = (p, (scalars_app t u s h.1.0, refl), tt, h.3)
words_before_writable d l t (Tree m (Remark u) ks f) p s h = (p, (s, refl), tt, h)

with_words_writable : (d l : ℕ) (t : List ℕ) (f : Forest Content) → 0 < d → scalars t ≡ true → IsWritable d f → IsWritable d (with_words l t f)
with_words_writable d l [] f p s h = h
with_words_writable d l (x ∷ xs) f p s h = words_before_writable d l (x ∷ xs) f p s h

pub tidied_writable : (d : ℕ) (f : Forest Content) → IsWritable d f → IsWritable d (tidied f)
tidied_writable d Nil h = tt
tidied_writable d (Tree l Document ks f) h = elim h.1 [ ]
tidied_writable d (Tree l (Element w list) ks f) h =
    (h.0, with_children w list ks (tidied ks) h.1 (tidied_nothing ks), tidied_writable (pred d) ks h.2, tidied_writable d f h.3)
tidied_writable d (Tree l (Words t) ks f) h = with_words_writable d l t (tidied f) h.0 h.1.0 (tidied_writable d f h.3)
tidied_writable d (Tree l (Remark t) ks f) h = (h.0, h.1, h.2, tidied_writable d f h.3)

numbered_node : (n : ℕ) (c : Content) (ks : Forest Content) → IsWritableNode c ks → IsWritableNode c (numbered n ks)
numbered_node n Document ks h = elim h [ ]
numbered_node n (Element w list) ks h = with_children w list ks (numbered n ks) h (numbered_nothing n ks)
numbered_node n (Words t) ks h = (h.0, numbered_nothing n ks h.1)
numbered_node n (Remark t) ks h = (h.0, h.1, numbered_nothing n ks h.2)

pub numbered_writable : (d n : ℕ) (f : Forest Content) → IsWritable d f → IsWritable d (numbered n f)
numbered_writable d n Nil h = tt
numbered_writable d n (Tree l c ks f) h = (
  h.0,
  numbered_node (suc n) c ks h.1,
  numbered_writable (pred d) (suc n) ks h.2,
  numbered_writable d (label_after (suc n) ks) f h.3,
)

-- ---- what is printed stays

words_before_html : (d l : ℕ) (t : List ℕ) (f : Forest Content) → IsWritable d f → html_of (words_before l t f) ≡ text_html t ++ html_of f
unfolding text_html
words_before_html d l t Nil h = leaf_html (text_html t) []
words_before_html d l t (Tree m Document ks f) h = leaf_html (text_html t) (html_of (Tree m Document ks f))
words_before_html d l t (Tree m (Element w list) ks f) h = leaf_html (text_html t) (html_of (Tree m (Element w list) ks f))
words_before_html d l t (Tree m (Words u) ks f) h =
    let bare : html_of ks ≡ [] = ap html_of h.1.1 in
    leaf_html (text_html (t ++ u)) (html_of f)
    ∙ ap (λ z. z ++ html_of f) (flat_map-append text_char t u)
    ∙ append_assoc (text_html t) (text_html u) (html_of f)
    ∙ ap (λ z. text_html t ++ z) (sym (leaf_html (text_html u) (html_of f)))
    ∙ ap (λ z. text_html t ++ (((text_html u ++ z) ++ []) ++ html_of f)) (sym bare)
words_before_html d l t (Tree m (Remark u) ks f) h = leaf_html (text_html t) (html_of (Tree m (Remark u) ks f))

with_words_html : (d l : ℕ) (t : List ℕ) (f : Forest Content) → IsWritable d f → html_of (with_words l t f) ≡ text_html t ++ html_of f
unfolding text_html
with_words_html d l [] f h = refl
with_words_html d l (x ∷ xs) f h = words_before_html d l (x ∷ xs) f h

html_same : (c : Content) (ks js f g : Forest Content) → html_of js ≡ html_of ks → html_of g ≡ html_of f → ((opening c ++ html_of js) ++ closing c) ++ html_of g ≡ ((opening c ++ html_of ks) ++ closing c) ++ html_of f
html_same c ks js f g e h =
    ap (λ z. ((opening c ++ z) ++ closing c) ++ html_of g) e ∙ ap (λ z. ((opening c ++ html_of ks) ++ closing c) ++ z) h

pub tidied_html : (d : ℕ) (f : Forest Content) → IsWritable d f → html_of (tidied f) ≡ html_of f
tidied_html d Nil h = refl
tidied_html d (Tree l Document ks f) h = elim h.1 [ ]
tidied_html d (Tree l (Element w list) ks f) h =
    html_same (Element w list) ks (tidied ks) f (tidied f) (tidied_html (pred d) ks h.2) (tidied_html d f h.3)
tidied_html d (Tree l (Words t) ks f) h =
    let bare : html_of ks ≡ [] = ap html_of h.1.1 in
    with_words_html d l t (tidied f) (tidied_writable d f h.3)
    ∙ ap (λ z. text_html t ++ z) (tidied_html d f h.3)
    ∙ sym (leaf_html (text_html t) (html_of f))
    ∙ ap (λ z. ((text_html t ++ z) ++ []) ++ html_of f) (sym bare)
tidied_html d (Tree l (Remark t) ks f) h = html_same (Remark t) ks ks f (tidied f) refl (tidied_html d f h.3)

pub numbered_html : (n : ℕ) (f : Forest Content) → html_of (numbered n f) ≡ html_of f
numbered_html n Nil = refl
numbered_html n (Tree l c ks f) =
    html_same c ks (numbered (suc n) ks) f (numbered (label_after (suc n) ks) f) (numbered_html (suc n) ks) (numbered_html (label_after (suc n) ks) f)

-- ---- what is as reading leaves it

words_before_tidy : (l x : ℕ) (xs : List ℕ) (f : Forest Content) → IsTidy f → IsTidy (words_before l (x ∷ xs) f)
words_before_tidy l x xs Nil h = (omega arith, tt, tt)
words_before_tidy l x xs (Tree m Document ks f) h = (omega arith, tt, h)
words_before_tidy l x xs (Tree m (Element w list) ks f) h = (omega arith, tt, h)
words_before_tidy l x xs (Tree m (Words u) ks f) h = (omega arith, h.1, h.2)
words_before_tidy l x xs (Tree m (Remark u) ks f) h = (omega arith, tt, h)

with_words_tidy : (l : ℕ) (t : List ℕ) (f : Forest Content) → IsTidy f → IsTidy (with_words l t f)
with_words_tidy l [] f h = h
with_words_tidy l (x ∷ xs) f h = words_before_tidy l x xs f h

pub tidied_tidy : (f : Forest Content) → IsTidy (tidied f)
tidied_tidy Nil = tt
tidied_tidy (Tree l Document ks f) = (tidied_tidy ks, tidied_tidy f)
tidied_tidy (Tree l (Element w list) ks f) = (tidied_tidy ks, tidied_tidy f)
tidied_tidy (Tree l (Words t) ks f) = with_words_tidy l t (tidied f) (tidied_tidy f)
tidied_tidy (Tree l (Remark t) ks f) = tidied_tidy f

not_words_numbered : (n : ℕ) (f : Forest Content) → NotWords f → NotWords (numbered n f)
not_words_numbered n Nil h = tt
not_words_numbered n (Tree l Document ks f) h = tt
not_words_numbered n (Tree l (Element w list) ks f) h = tt
not_words_numbered n (Tree l (Words t) ks f) h = elim h [ ]
not_words_numbered n (Tree l (Remark t) ks f) h = tt

pub numbered_tidy : (n : ℕ) (f : Forest Content) → IsTidy f → IsTidy (numbered n f)
numbered_tidy n Nil h = tt
numbered_tidy n (Tree l Document ks f) h = (numbered_tidy (suc n) ks h.0, numbered_tidy (label_after (suc n) ks) f h.1)
numbered_tidy n (Tree l (Element w list) ks f) h = (numbered_tidy (suc n) ks h.0, numbered_tidy (label_after (suc n) ks) f h.1)
numbered_tidy n (Tree l (Words t) ks f) h =
    (h.0, not_words_numbered (label_after (suc n) ks) f h.1, numbered_tidy (label_after (suc n) ks) f h.2)
numbered_tidy n (Tree l (Remark t) ks f) h = numbered_tidy (label_after (suc n) ks) f h

-- ---- labels

after_numbered : (m n : ℕ) (f : Forest Content) → label_after m (numbered n f) ≡ label_after m f
after_numbered m n Nil = refl
after_numbered m n (Tree l c ks f) =
    after_numbered (label_after (suc m) (numbered (suc n) ks)) (label_after (suc n) ks) f
    ∙ ap (λ z. label_after z f) (after_numbered (suc m) (suc n) ks)

pub after_more : (n : ℕ) (f : Forest Content) → n ≤ label_after n f
after_more n Nil = omega arith
after_more n (Tree l c ks f) =
    let a = after_more (suc n) ks in
    let b = after_more (label_after (suc n) ks) f in
    omega arith

pub numbered_fits : (c n : ℕ) (f : Forest Content) → label_after n f ≤ c → IsNumbered c n (numbered n f)
numbered_fits c n Nil h = tt
numbered_fits c n (Tree l x ks f) h =
    let a = after_more (suc n) ks in
    let b = after_more (label_after (suc n) ks) f in
    let rest = numbered_fits c (label_after (suc n) ks) f h in (
      refl,
      omega arith,
      numbered_fits c (suc n) ks (omega arith),
      subst (λ z. IsNumbered c z (numbered (label_after (suc n) ks) f)) (sym (after_numbered (suc n) (suc n) ks)) rest,
    )

-- ---- what is tidy and numbered stays as it is

with_words_same : (l : ℕ) (t : List ℕ) (f : Forest Content) → 0 < length t → NotWords f → with_words l t f ≡ Tree l (Words t) Nil f
with_words_same l [] f p h = absurd (omega arith)
with_words_same l (x ∷ xs) Nil p h = refl
with_words_same l (x ∷ xs) (Tree m Document ks f) p h = refl
with_words_same l (x ∷ xs) (Tree m (Element w list) ks f) p h = refl
with_words_same l (x ∷ xs) (Tree m (Words u) ks f) p h = elim h [ ]
with_words_same l (x ∷ xs) (Tree m (Remark u) ks f) p h = refl

pub tidy_same : (d : ℕ) (f : Forest Content) → IsWritable d f → IsTidy f → tidied f ≡ f
tidy_same d Nil h t = refl
tidy_same d (Tree l Document ks f) h t = elim h.1 [ ]
tidy_same d (Tree l (Element w list) ks f) h t =
    ap (λ z. Tree l (Element w list) z (tidied f)) (tidy_same (pred d) ks h.2 t.0) ∙ ap (λ z. Tree l (Element w list) ks z) (tidy_same d f h.3 t.1)
tidy_same d (Tree l (Words u) ks f) h t =
    ap (λ z. with_words l u z) (tidy_same d f h.3 t.2) ∙ with_words_same l u f t.0 t.1 ∙ ap (λ z. Tree l (Words u) z f) (sym h.1.1)
tidy_same d (Tree l (Remark u) ks f) h t = ap (λ z. Tree l (Remark u) ks z) (tidy_same d f h.3 t)

pub numbered_same : (c n : ℕ) (f : Forest Content) → IsNumbered c n f → numbered n f ≡ f
numbered_same c n Nil h = refl
numbered_same c n (Tree l x ks f) h =
    ap (λ z. Tree n x z (numbered (label_after (suc n) ks) f)) (numbered_same c (suc n) ks h.2)
    ∙ ap (λ z. Tree n x ks z) (numbered_same c (label_after (suc n) ks) f h.3)
    ∙ ap (λ z. Tree z x ks f) (sym h.0)
