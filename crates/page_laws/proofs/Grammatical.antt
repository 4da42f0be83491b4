-- What the grammar reads can be written, and is as reading leaves trees.
use Rattle.std.proofs.Common.{◌≡◌, ℕ, zero, suc, pred, ◌+◌, Bool, true, false, ◌&&◌, inl, inr, List, [], ◌∷◌, ◌++◌, refl, sym, ap, ◌∙◌, subst, arith}
use Rattle.std.specs.Prelude.{◌==◌, nat_le, if◌then◌else◌}
use Rattle.std.specs.List.{AllByRecursion}
use Rattle.std.proofs.lemmas.Bool.{cases_Bool}
use Rattle.std.proofs.lemmas.Bool.Decides.{nat_tests}
use Rattle.std.proofs.Math.Utf8.{scalar, scalars}
use Rattle.page_grammar.specs.DomModel.Forest.Forest.{Nil as Empty}
use Rattle.page_grammar.specs.Chars.{is_space, lower, is_letter, is_digit, is_name_char, is_control, is_attribute_name_char, entities, is_referable}
use Rattle.page_grammar.specs.Names.{is_void, is_refused}
use Rattle.page_grammar.specs.Page.{Attribute, Siblings, Nil, TextNode, CommentNode, ElementNode, size, NotText, IsNil, Spaces, IsEntity, IsBody, OneChar, Text, NameChars, ElementName, AttributeNameChars, AttributeValue, Attributes, StartTag, NameAgain, EndTag, starts_close, CommentText, Content}
use Rattle.page_grammar.specs.Nodes.{nodes_of}
use Rattle.page_grammar.proofs.Facts.{and_parts, both_true, scalars_split, lower_lower}
use Rattle.page_grammar.proofs.Complete.{match_p, match_q}
use Rattle.page_laws.specs.Writable.{IsNameChar, IsElementName, IsKeyChar, HasNoClose, IsWritable}
use Rattle.page_laws.specs.Tidy.{NotWords, IsTidy, IsNumbered}
use Rattle.page_laws.proofs.Names.{IsKeyed, AreNew, all_kept, all_distinct}
use Rattle.page_laws.proofs.Spelling.{and_false, after_size}

-- ---- characters

referable_scalar : (x : ℕ) → is_referable x ≡ true → scalar x ≡ true
unfolding is_referable
referable_scalar x h = grind (arith, nat_tests)

letter_lower : (b : ℕ) → is_letter b ≡ true → is_letter (lower b) ≡ true
unfolding is_letter
letter_lower b h = rw (lower_lower b) h

name_lower_if : (t : Bool) (b : ℕ) → (nat_le 65 b && nat_le b 90) ≡ t → is_name_char b ≡ true → is_name_char (if t then b + 32 else b) ≡ true
unfolding is_name_char is_letter is_digit lower
name_lower_if true b e h =
    let k : (nat_le 65 (b + 32) && nat_le (b + 32) 90) ≡ false = grind (arith, nat_tests) in
    rw k (grind (arith, nat_tests))
name_lower_if false b e h = h

name_lower : (b : ℕ) → is_name_char b ≡ true → is_name_char (lower b) ≡ true
unfolding lower
name_lower b h = name_lower_if (nat_le 65 b && nat_le b 90) b refl h

key_lower_if : (t : Bool) (b : ℕ) → (nat_le 65 b && nat_le b 90) ≡ t → is_attribute_name_char b ≡ true → is_attribute_name_char (if t then b + 32 else b) ≡ true
unfolding is_attribute_name_char is_space is_control
key_lower_if true b e h = grind (arith, nat_tests)
key_lower_if false b e h = h

key_lower : (b : ℕ) → is_attribute_name_char b ≡ true → is_attribute_name_char (lower b) ≡ true
unfolding lower
key_lower b h = key_lower_if (nat_le 65 b && nat_le b 90) b refl h

scalar_lower_if : (t : Bool) (b : ℕ) → (nat_le 65 b && nat_le b 90) ≡ t → scalar b ≡ true → scalar (if t then b + 32 else b) ≡ true
scalar_lower_if true b e h = grind (arith, nat_tests)
scalar_lower_if false b e h = h

scalar_lower : (b : ℕ) → scalar b ≡ true → scalar (lower b) ≡ true
unfolding lower
scalar_lower b h = scalar_lower_if (nat_le 65 b && nat_le b 90) b refl h

entity_scalar : (w : List ℕ) (x : ℕ) → IsEntity entities w x → scalar x ≡ true
entity_scalar w x (inl e) = rw e.1 refl
entity_scalar w x (inr (inl e)) = rw e.1 refl
entity_scalar w x (inr (inr (inl e))) = rw e.1 refl
entity_scalar w x (inr (inr (inr (inl e)))) = rw e.1 refl
entity_scalar w x (inr (inr (inr (inr (inl e))))) = rw e.1 refl
entity_scalar w x (inr (inr (inr (inr (inr (inl e)))))) = rw e.1 refl
entity_scalar w x (inr (inr (inr (inr (inr (inr e)))))) = elim e [ ]

body_scalar : (w : List ℕ) (x : ℕ) → IsBody w x → scalar x ≡ true
body_scalar w x (inl e) = entity_scalar w x e
body_scalar w x (inr (inl (ds, e, some, h, v, ok))) = referable_scalar x ok
body_scalar w x (inr (inr (y, ds, e, ly, some, h, v, ok))) = referable_scalar x ok

kept : (s r : List ℕ) → s ≡ r → scalars s ≡ true → scalars r ≡ true
kept s r e k = subst (λ z. scalars z ≡ true) e k

one_back : (stop x : ℕ) (s r : List ℕ) → OneChar stop x s r → scalars s ≡ true → (scalar x ≡ true) × (scalars r ≡ true)
one_back stop x s r (inl (e, a, b)) k = and_parts (scalar x) (scalars r) (kept s (x ∷ r) e k)
one_back stop x s r (inr (w, e, body)) k =
    let q = scalars_split w (59 ∷ r) (kept s (38 ∷ (w ++ 59 ∷ r)) e k) in
    (body_scalar w x body, q.1)

text_back : (stop : ℕ) (xs s r : List ℕ) → Text stop xs s r → scalars s ≡ true → (scalars xs ≡ true) × (scalars r ≡ true)
text_back stop [] s r h k = (refl, kept s r h k)
text_back stop (x ∷ xs) s r (m, one, h) k =
    let p = one_back stop x s m one k in
    let ih = text_back stop xs m r h p.1 in
    (both_true (scalar x) (scalars xs) p.0 ih.0, ih.1)

spaces_back : (n : ℕ) (s r : List ℕ) → Spaces n s r → scalars s ≡ true → scalars r ≡ true
spaces_back zero s r h k = kept s r h k
spaces_back (suc n) s r (x, m, e, ok, h) k = spaces_back n m r h (and_parts (scalar x) (scalars m) (kept s (x ∷ m) e k)).1

-- ---- names

lowered : (b x : ℕ) → lower b ≡ x → lower x ≡ x
lowered b x e = subst (λ z. lower z ≡ z) e (lower_lower b)

name_back : (xs s r : List ℕ) → NameChars xs s r → scalars s ≡ true → AllByRecursion IsNameChar xs × (scalars r ≡ true)
name_back [] s r h k = (tt, kept s r h k)
name_back (x ∷ xs) s r (b, m, e, lo, ok, h) k =
    let ih = name_back xs m r h (and_parts (scalar b) (scalars m) (kept s (b ∷ m) e k)).1 in
    (((subst (λ z. is_name_char z ≡ true) lo (name_lower b ok), lowered b x lo), ih.0), ih.1)

element_name_back : (w s r : List ℕ) → ElementName w s r → scalars s ≡ true → IsElementName w × (scalars r ≡ true)
element_name_back [] s r h k = elim h [ ]
element_name_back (x ∷ xs) s r (b, m, e, lo, ok, h) k =
    let ih = name_back xs m r h (and_parts (scalar b) (scalars m) (kept s (b ∷ m) e k)).1 in
    ((subst (λ z. is_letter z ≡ true) lo (letter_lower b ok), lowered b x lo, ih.0), ih.1)

again_back : (w s r : List ℕ) → NameAgain w s r → scalars s ≡ true → scalars r ≡ true
again_back [] s r h k = kept s r h k
again_back (x ∷ xs) s r (b, m, e, lo, h) k = again_back xs m r h (and_parts (scalar b) (scalars m) (kept s (b ∷ m) e k)).1

key_back : (xs s r : List ℕ) → AttributeNameChars xs s r → scalars s ≡ true → AllByRecursion IsKeyChar xs × (scalars r ≡ true)
key_back [] s r h k = (tt, kept s r h k)
key_back (x ∷ xs) s r (b, m, e, lo, ok, h) k =
    let p = and_parts (scalar b) (scalars m) (kept s (b ∷ m) e k) in
    let ih = key_back xs m r h p.1 in
    (((subst (λ z. is_attribute_name_char z ≡ true) lo (key_lower b ok), lowered b x lo, subst (λ z. scalar z ≡ true) lo (scalar_lower b p.0)), ih.0), ih.1)

-- ---- tags

value_back : (v s r : List ℕ) → AttributeValue v s r → scalars s ≡ true → (scalars v ≡ true) × (scalars r ≡ true)
value_back v s r (inl (e, f)) k = (rw e refl, kept s r f k)
value_back v s r (inr (n, a, i, q, b, sp, sq, iq, t)) k =
    let first = spaces_back n s (61 ∷ a) sp k in
    let quoted = and_parts (scalar q) (scalars b) (spaces_back i a (q ∷ b) sq first) in
    let inner = text_back q v b (q ∷ r) t quoted.1 in
    (inner.0, (and_parts (scalar q) (scalars r) inner.1).1)

attributes_back : (seen ts : List Attribute) (s r : List ℕ) → Attributes seen ts s r → scalars s ≡ true → AllByRecursion IsKeyed ts × AreNew seen ts × (scalars r ≡ true)
attributes_back seen [] s r h k = (tt, tt, kept s r h k)
attributes_back seen (t ∷ ts) s r (n, a, b, m, sp, some, key, new, value, h) k =
    let named = key_back t.name a b key (spaces_back (suc n) s a sp k) in
    let valued = value_back t.value b m value named.1 in
    let ih = attributes_back (seen ++ t ∷ []) ts m r h valued.1 in
    ((record { some = some; name = named.0; value = valued.0 }, ih.0), (new, ih.1), ih.2)

record Started (w : List ℕ) (ts : List Attribute) (r : List ℕ) : Type 0 where
  name : IsElementName w
  supported : is_refused w ≡ false
  attributes : AllByRecursion IsKeyed ts
  new : AreNew [] ts
  rest : scalars r ≡ true

start_back : (w : List ℕ) (ts : List Attribute) (s r : List ℕ) → StartTag w ts s r → scalars s ≡ true → Started w ts r
start_back w ts s r (a, b, m, e, name, supported, list, (n, m2, sp, last)) k =
    let named = element_name_back w a b name (kept s (60 ∷ a) e k) in
    let listed = attributes_back [] ts b m list named.1 in
    let spaced = spaces_back n m m2 sp listed.2 in
    record {
      name = named.0;
      supported = supported;
      attributes = listed.0;
      new = listed.1;
      rest = elim last [ inl f ↦ kept m2 (62 ∷ r) f spaced | inr f ↦ kept m2 (47 ∷ 62 ∷ r) f.1 spaced ];
    }

end_back : (w s r : List ℕ) → EndTag w s r → scalars s ≡ true → scalars r ≡ true
end_back w s r (a, b, n, e, again, sp) k = spaces_back n b (62 ∷ r) sp (again_back w a b again (kept s (60 ∷ 47 ∷ a) e k))

-- ---- comments

no_close_back : (x : ℕ) (xs r : List ℕ) → starts_close (x ∷ (xs ++ 45 ∷ 45 ∷ 62 ∷ r)) ≡ false → starts_close (x ∷ xs) ≡ false
no_close_back x [] r h = and_false (x == 45)
no_close_back x (y ∷ []) r h = rw (and_false (y == 45)) (and_false (x == 45))
no_close_back x (y ∷ z ∷ zs) r h = h

comment_whole : (t s r : List ℕ) → CommentText t s r → s ≡ t ++ 45 ∷ 45 ∷ 62 ∷ r
comment_whole [] s r h = h
comment_whole (x ∷ xs) s r (m, e, apart, h) = e ∙ ap (λ z. x ∷ z) (comment_whole xs m r h)

comment_back : (t s r : List ℕ) → CommentText t s r → scalars s ≡ true → (scalars t ≡ true) × HasNoClose t × (scalars r ≡ true)
comment_back [] s r h k = (refl, tt, kept s (45 ∷ 45 ∷ 62 ∷ r) h k)
comment_back (x ∷ xs) s r (m, e, apart, h) k =
    let p = and_parts (scalar x) (scalars m) (kept s (x ∷ m) e k) in
    let ih = comment_back xs m r h p.1 in
    let whole : s ≡ x ∷ (xs ++ 45 ∷ 45 ∷ 62 ∷ r) = e ∙ ap (λ z. x ∷ z) (comment_whole xs m r h) in
    (both_true (scalar x) (scalars xs) p.0 ih.0, (no_close_back x xs r (subst (λ z. starts_close z ≡ false) whole apart), ih.1), ih.2)

-- ---- trees

pub record IsRead (d c n : ℕ) (f : Siblings) (r : List ℕ) : Type 0 where
  pub writable : IsWritable d (nodes_of f)
  pub tidy : IsTidy (nodes_of f)
  pub labelled : IsNumbered c n (nodes_of f)
  pub rest : scalars r ≡ true

record IsReadInside (d c n : ℕ) (w : List ℕ) (k : Siblings) (r : List ℕ) : Type 0 where
  inner : IsRead d c n k r
  void : is_void w ≡ true → nodes_of k ≡ Empty

no_nodes : (k : Siblings) → IsNil k → nodes_of k ≡ Empty
no_nodes Nil h = refl
no_nodes (TextNode l t f) h = elim h [ ]
no_nodes (CommentNode l t f) h = elim h [ ]
no_nodes (ElementNode l w ts k f) h = elim h [ ]

not_words : (f : Siblings) → NotText f → NotWords (nodes_of f)
not_words Nil h = tt
not_words (TextNode l t f) h = elim h [ ]
not_words (CommentNode l t f) h = tt
not_words (ElementNode l w ts k f) h = tt

nil_read : (d c n : ℕ) (k : Siblings) (r : List ℕ) → IsNil k → scalars r ≡ true → IsRead d c n k r
nil_read d c n Nil r h e = record { writable = tt; tidy = tt; labelled = tt; rest = e }
nil_read d c n (TextNode l t f) r h e = elim h [ ]
nil_read d c n (CommentNode l t f) r h e = elim h [ ]
nil_read d c n (ElementNode l w ts k f) r h e = elim h [ ]

pub tree_back : (d c n : ℕ) (f : Siblings) (s r : List ℕ) → Content d c n f s r → scalars s ≡ true → IsRead d c n f r
tree_back d c n Nil s r h e = record { writable = tt; tidy = tt; labelled = tt; rest = kept s r h e }
tree_back d c n (TextNode l t f) s r h e =
    let p = text_back 60 t s h.0 h.6 e in
    let ih = tree_back d c (suc n) f h.0 r h.7 p.1 in
    record {
      writable = (h.3, (p.0, refl), tt, ih.writable);
      tidy = (h.4, not_words f h.5, ih.tidy);
      labelled = (h.1, h.2, tt, ih.labelled);
      rest = ih.rest;
    }
tree_back d c n (CommentNode l t f) s r h e =
    let p = comment_back t h.0 h.1 h.6 (kept s (60 ∷ 33 ∷ 45 ∷ 45 ∷ h.0) h.5 e) in
    let ih = tree_back d c (suc n) f h.1 r h.7 p.2 in
    record {
      writable = (h.4, (p.0, p.1, refl), tt, ih.writable);
      tidy = ih.tidy;
      labelled = (h.2, h.3, tt, ih.labelled);
      rest = ih.rest;
    }
tree_back d c n (ElementNode l w ts k f) s r h e =
    let P = IsNil k × (h.0 ≡ h.2) in
    let Q = Content (pred d) c (suc n) k h.0 h.1 × EndTag w h.1 h.2 in
    let start = start_back w ts s h.0 h.6 e in
    let inside : IsReadInside (pred d) c (suc n) w k h.2 = elim (cases_Bool (is_void w)) [
      | inl v ↦
          let p = match_p (is_void w) P Q v h.7 in
          record { inner = nil_read (pred d) c (suc n) k h.2 p.0 (kept h.0 h.2 p.1 start.rest); void = λ _. no_nodes k p.0 }
      | inr v ↦
          let q = match_q (is_void w) P Q v h.7 in
          let ih = tree_back (pred d) c (suc n) k h.0 h.1 q.0 start.rest in
          record {
            inner = record { writable = ih.writable; tidy = ih.tidy; labelled = ih.labelled; rest = end_back w h.1 h.2 q.1 ih.rest };
            void = λ u. cc;
          }
    ] in
    let ih = tree_back d c (suc n + size k) f h.2 r h.8 inside.inner.rest in
    record {
      writable = (
        h.5,
        record {
          name = start.name;
          supported = start.supported;
          attributes = all_kept ts start.attributes;
          distinct = all_distinct ts start.new;
          void = inside.void;
        },
        inside.inner.writable,
        ih.writable,
      );
      tidy = (inside.inner.tidy, ih.tidy);
      labelled = (
        h.3,
        h.4,
        inside.inner.labelled,
        subst (λ z. IsNumbered c z (nodes_of f)) (sym (after_size (suc n) k)) ih.labelled,
      );
      rest = ih.rest;
    }
