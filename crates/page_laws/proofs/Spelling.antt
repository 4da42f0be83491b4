-- The characters that are written for children, before what follows them, and that the grammar reads them as these.
use Rattle.std.proofs.Common.{◌≡◌, ◌≢◌, ℕ, suc, pred, ◌+◌, Bool, true, false, ◌&&◌, inl, inr, List, [], ◌∷◌, ◌++◌, refl, sym, ◌∙◌, subst, arith}
use Rattle.std.specs.Prelude.{◌==◌, if◌then◌else◌, codes}
use Rattle.std.specs.Bool.{MatchBool}
use Rattle.std.specs.List.{AllByRecursion}
use Rattle.std.proofs.lemmas.Bool.{cases_Bool, eqb-false}
use Rattle.page_grammar.specs.DomModel.declared.Content.{Content as NodeContent}
use Rattle.page_grammar.specs.DomModel.Forest.{Forest}
use Rattle.page_grammar.specs.DomModel.Forest.Forest.{Nil as Empty}
use Rattle.page_grammar.specs.Chars.{entities}
use Rattle.page_grammar.specs.Names.{is_void}
use Rattle.page_grammar.specs.Page.{Attribute, Siblings, Nil, TextNode, CommentNode, ElementNode, size, NotText, IsNil, IsEntity, OneChar, Text, NameChars, ElementName, AttributeNameChars, Attributes, StartTag, NameAgain, EndTag, starts_close, CommentText, Content}
use Rattle.page_grammar.specs.Nodes.{attributes_of, nodes_of}
use Rattle.page_grammar.proofs.Facts.{same_char, space_32, quote_34}
use Rattle.page_grammar.proofs.Sound.{match_true, match_false}
use Rattle.page_laws.specs.Writable.{IsNameChar, IsElementName, IsKeyChar, IsElement, HasNoClose, IsWritable}
use Rattle.page_laws.specs.Tidy.{NotWords, IsTidy, label_after, IsNumbered}
use Rattle.page_laws.proofs.Names.{IsKeyed, AreNew, all_keyed, all_new}

-- a character of a text, and one of an attribute's value
abbrev pub text_spelled : ℕ → List ℕ
text_spelled x =
    if x == 38 then codes "&amp;"
    else (if x == 60 then codes "&lt;" else (if x == 62 then codes "&gt;" else (if x == 160 then codes "&nbsp;" else x ∷ [])))

abbrev pub value_spelled : ℕ → List ℕ
value_spelled x = if x == 34 then codes "&quot;" else text_spelled x

abbrev pub spell_by : (ℕ → List ℕ) → List ℕ → List ℕ → List ℕ
spell_by g [] r = r
spell_by g (x ∷ xs) r = g x ++ spell_by g xs r

abbrev pub spell_attribute : Attribute → List ℕ → List ℕ
spell_attribute t r = 32 ∷ (t.name ++ 61 ∷ 34 ∷ spell_by value_spelled t.value (34 ∷ r))

abbrev pub spell_attributes : List Attribute → List ℕ → List ℕ
spell_attributes [] r = r
spell_attributes (t ∷ ts) r = spell_attribute t (spell_attributes ts r)

abbrev pub spell_end : List ℕ → List ℕ → List ℕ
spell_end w r = if is_void w then r else 60 ∷ 47 ∷ (w ++ 62 ∷ r)

abbrev pub spell : Siblings → List ℕ → List ℕ
spell Nil r = r
spell (TextNode l t f) r = spell_by text_spelled t (spell f r)
spell (CommentNode l t f) r = 60 ∷ 33 ∷ 45 ∷ 45 ∷ (t ++ 45 ∷ 45 ∷ 62 ∷ spell f r)
spell (ElementNode l w ts k f) r = 60 ∷ (w ++ spell_attributes ts (62 ∷ spell k (spell_end w (spell f r))))

-- ---- texts and values

one_if : (stop x : ℕ) (t : Bool) (a b r : List ℕ) → (t ≡ true → OneChar stop x (a ++ r) r) → (t ≡ false → OneChar stop x (b ++ r) r) → OneChar stop x ((if t then a else b) ++ r) r
one_if stop x true a b r f g = f refl
one_if stop x false a b r f g = g refl

one_named : (stop x k : ℕ) (w r : List ℕ) → (x == k) ≡ true → IsEntity entities w k → OneChar stop x (38 ∷ (w ++ 59 ∷ r)) r
one_named stop x k w r e h = inr (w, refl, inl (subst (λ z. IsEntity entities w z) (sym (same_char x k e)) h))

text_one : (stop x : ℕ) (r : List ℕ) → ((x == 60) ≡ false → x ≢ stop) → OneChar stop x (text_spelled x ++ r) r
text_one stop x r other =
    one_if stop x (x == 38) (codes "&amp;") (if x == 60 then codes "&lt;" else (if x == 62 then codes "&gt;" else (if x == 160 then codes "&nbsp;" else x ∷ []))) r
    (λ e. one_named stop x 38 (codes "amp") r e (inl (refl, refl)))
    (λ f. one_if stop x (x == 60) (codes "&lt;") (if x == 62 then codes "&gt;" else (if x == 160 then codes "&nbsp;" else x ∷ [])) r
    (λ e. one_named stop x 60 (codes "lt") r e (inr (inl (refl, refl))))
    (λ g. one_if stop x (x == 62) (codes "&gt;") (if x == 160 then codes "&nbsp;" else x ∷ []) r
    (λ e. one_named stop x 62 (codes "gt") r e (inr (inr (inl (refl, refl)))))
    (λ _. one_if stop x (x == 160) (codes "&nbsp;") (x ∷ []) r
    (λ e. one_named stop x 160 (codes "nbsp") r e (inr (inr (inr (inr (inr (inl (refl, refl))))))))
    (λ _. inl (refl, other g, eqb-false x 38 f)))))

value_one : (x : ℕ) (r : List ℕ) → OneChar 34 x (value_spelled x ++ r) r
value_one x r =
    one_if 34 x (x == 34) (codes "&quot;") (text_spelled x) r
    (λ e. one_named 34 x 34 (codes "quot") r e (inr (inr (inr (inl (refl, refl))))))
    (λ f. text_one 34 x r (λ _. eqb-false x 34 f))

chars_read : (stop : ℕ) (g : ℕ → List ℕ) → ((x : ℕ) (r : List ℕ) → OneChar stop x (g x ++ r) r) → (xs r : List ℕ) → Text stop xs (spell_by g xs r) r
chars_read stop g one [] r = refl
chars_read stop g one (x ∷ xs) r = (spell_by g xs r, one x (spell_by g xs r), chars_read stop g one xs r)

-- a text that is written is read back
pub text_reads : (xs r : List ℕ) → Text 60 xs (spell_by text_spelled xs r) r
text_reads = chars_read 60 text_spelled (λ x r. text_one 60 x r (eqb-false x 60))

-- and so is an attribute's value
pub value_reads : (xs r : List ℕ) → Text 34 xs (spell_by value_spelled xs r) r
value_reads = chars_read 34 value_spelled value_one

-- ---- names

name_reads : (xs r : List ℕ) → AllByRecursion IsNameChar xs → NameChars xs (xs ++ r) r
name_reads [] r h = refl
name_reads (x ∷ xs) r h = (x, xs ++ r, refl, h.0.1, h.0.0, name_reads xs r h.1)

element_name_reads : (w r : List ℕ) → IsElementName w → ElementName w (w ++ r) r
element_name_reads [] r h = elim h [ ]
element_name_reads (x ∷ xs) r h = (x, xs ++ r, refl, h.1, h.0, name_reads xs r h.2)

name_again : (xs r : List ℕ) → AllByRecursion IsNameChar xs → NameAgain xs (xs ++ r) r
name_again [] r h = refl
name_again (x ∷ xs) r h = (x, xs ++ r, refl, h.0.1, name_again xs r h.1)

element_name_again : (w r : List ℕ) → IsElementName w → NameAgain w (w ++ r) r
element_name_again [] r h = elim h [ ]
element_name_again (x ∷ xs) r h = (x, xs ++ r, refl, h.1, name_again xs r h.2)

key_reads : (xs r : List ℕ) → AllByRecursion IsKeyChar xs → AttributeNameChars xs (xs ++ r) r
key_reads [] r h = refl
key_reads (x ∷ xs) r h = (x, xs ++ r, refl, h.0.1, h.0.0, key_reads xs r h.1)

-- ---- tags

attributes_read : (seen ts : List Attribute) (r : List ℕ) → AllByRecursion IsKeyed ts → AreNew seen ts → Attributes seen ts (spell_attributes ts r) r
attributes_read seen [] r h new = refl
attributes_read seen (t ∷ ts) r h new =
    let m = spell_attributes ts r in
    let b = spell_by value_spelled t.value (34 ∷ m) in (
      0,
      t.name ++ 61 ∷ 34 ∷ b,
      61 ∷ 34 ∷ b,
      m,
      (32, t.name ++ 61 ∷ 34 ∷ b, refl, space_32, refl),
      h.0.some,
      key_reads t.name (61 ∷ 34 ∷ b) h.0.name,
      new.0,
      inr (0, 34 ∷ b, 0, 34, b, refl, refl, quote_34, value_reads t.value (34 ∷ m)),
      attributes_read (seen ++ t ∷ []) ts r h.1 new.1,
    )

start_reads : (w : List ℕ) (ts : List Attribute) (ks : Forest NodeContent) (r : List ℕ) → IsElement w (attributes_of ts) ks → StartTag w ts (60 ∷ (w ++ spell_attributes ts (62 ∷ r))) r
start_reads w ts ks r h =
    let b = spell_attributes ts (62 ∷ r) in (
      w ++ b,
      b,
      62 ∷ r,
      refl,
      element_name_reads w b h.name,
      h.supported,
      attributes_read [] ts (62 ∷ r) (all_keyed ts h.attributes) (all_new ts h.distinct),
      (0, 62 ∷ r, refl, inl refl),
    )

end_void : (w r : List ℕ) → is_void w ≡ true → spell_end w r ≡ r
end_void w r v = rw v refl

end_reads : (w r : List ℕ) → IsElementName w → is_void w ≡ false → EndTag w (spell_end w r) r
end_reads w r h v = (w ++ 62 ∷ r, 62 ∷ r, 0, rw v refl, element_name_again w (62 ∷ r) h, refl)

-- ---- comments

pub and_false : (a : Bool) → (a && false) ≡ false
and_false true = refl
and_false false = refl

-- what ends a comment doesn't begin before the text's end
no_close : (x : ℕ) (xs r : List ℕ) → starts_close (x ∷ xs) ≡ false → starts_close (x ∷ (xs ++ 45 ∷ 45 ∷ 62 ∷ r)) ≡ false
no_close x [] r h = and_false (x == 45)
no_close x (y ∷ []) r h = rw (and_false (y == 45)) (and_false (x == 45))
no_close x (y ∷ z ∷ zs) r h = h

comment_reads : (t r : List ℕ) → HasNoClose t → CommentText t (t ++ 45 ∷ 45 ∷ 62 ∷ r) r
comment_reads [] r h = refl
comment_reads (x ∷ xs) r h = (xs ++ 45 ∷ 45 ∷ 62 ∷ r, refl, no_close x xs r h.0, comment_reads xs r h.1)

-- ---- trees

nil_spell : (k : Siblings) (r : List ℕ) → nodes_of k ≡ Empty → spell k r ≡ r
nil_spell Nil r h = refl
nil_spell (TextNode l t f) r h = cc
nil_spell (CommentNode l t f) r h = cc
nil_spell (ElementNode l w ts k f) r h = cc

pub is_nil : (k : Siblings) → nodes_of k ≡ Empty → IsNil k
is_nil Nil h = tt
is_nil (TextNode l t f) h = cc
is_nil (CommentNode l t f) h = cc
is_nil (ElementNode l w ts k f) h = cc

not_text : (f : Siblings) → NotWords (nodes_of f) → NotText f
not_text Nil h = tt
not_text (TextNode l t f) h = elim h [ ]
not_text (CommentNode l t f) h = tt
not_text (ElementNode l w ts k f) h = tt

-- the grammar's count of labels
pub after_size : (n : ℕ) (f : Siblings) → label_after n (nodes_of f) ≡ n + size f
after_size n Nil = omega arith
after_size n (TextNode l t f) = let e = after_size (suc n) f in omega arith
after_size n (CommentNode l t f) = let e = after_size (suc n) f in omega arith
after_size n (ElementNode l w ts k f) =
    let a = after_size (suc n) k in
    let b = after_size (label_after (suc n) (nodes_of k)) f in
    omega arith

-- a tree that can be written, and is as reading leaves it, is read back
pub spelled_reads : (d c n : ℕ) (f : Siblings) (r : List ℕ) → IsWritable d (nodes_of f) → IsTidy (nodes_of f) → IsNumbered c n (nodes_of f) → Content d c n f (spell f r) r
spelled_reads d c n Nil r h t l = refl
spelled_reads d c n (TextNode i u f) r h t l =
    (spell f r, l.0, l.1, h.0, t.0, not_text f t.1, text_reads u (spell f r), spelled_reads d c (suc n) f r h.3 t.2 l.3)
spelled_reads d c n (CommentNode i u f) r h t l =
    (u ++ 45 ∷ 45 ∷ 62 ∷ spell f r, spell f r, l.0, l.1, h.0, refl, comment_reads u (spell f r) h.1.1, spelled_reads d c (suc n) f r h.3 t l.3)
spelled_reads d c n (ElementNode i w ts k f) r h t l =
    let m = spell f r in
    let b = spell_end w m in
    let a = spell k b in
    let labels = subst (λ z. IsNumbered c z (nodes_of f)) (after_size (suc n) k) l.3 in
    let inner : MatchBool (is_void w) (IsNil k × (a ≡ m)) (Content (pred d) c (suc n) k a b × EndTag w b m) = elim (cases_Bool (is_void w)) [
      | inl v ↦
          match_true (is_void w) (IsNil k × (a ≡ m)) (Content (pred d) c (suc n) k a b × EndTag w b m) v
          (is_nil k (h.1.void v), nil_spell k b (h.1.void v) ∙ end_void w m v)
      | inr v ↦
          match_false (is_void w) (IsNil k × (a ≡ m)) (Content (pred d) c (suc n) k a b × EndTag w b m) v
          (spelled_reads (pred d) c (suc n) k b h.2 t.0 l.2, end_reads w m h.1.name v)
    ] in
    (a, b, m, l.0, l.1, h.0, start_reads w ts (nodes_of k) a h.1, inner, spelled_reads d c (suc n + size k) f r h.3 t.1 labels)
