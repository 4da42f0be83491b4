-- The characters that are written for children, as bytes: what page_write prints.
use Rattle.std.proofs.Common.{◌≡◌, ℕ, pred, ◌<◌, Bool, true, false, List, [], ◌∷◌, ◌++◌, refl, sym, ap, ◌∙◌, append_assoc, arith}
use Rattle.std.specs.Prelude.{◌==◌, if◌then◌else◌, codes, nat_lt}
use Rattle.std.specs.List.{AllByRecursion, flat_map}
use Rattle.std.proofs.lemmas.Bool.Decides.{nat_tests}
use Rattle.std.proofs.lemmas.List.{append-nil}
use Rattle.std.proofs.lemmas.Str.{encodes-append, encode_ascii}
use Rattle.std.proofs.Math.Utf8.{scalar, scalars, encode, encodes}
use Rattle.page_grammar.specs.Chars.{lower, is_letter, is_name_char}
use Rattle.page_grammar.specs.Names.{is_void}
use Rattle.page_grammar.specs.Page.{Attribute, Siblings, Nil, TextNode, CommentNode, ElementNode}
use Rattle.page_grammar.specs.Nodes.{attribute_of, attributes_of, nodes_of}
use Rattle.page_grammar.proofs.Facts.{and_parts, name_ascii, letter_ascii, ascii_scalar, both_true, scalars_app}
use Rattle.page_write.specs.Html.{text_char, value_char, text_html, value_html, attribute_html, attributes_html, start_tag, end_tag, comment_html, html_of}
use Rattle.page_laws.specs.Writable.{IsNameChar, IsElementName, IsKeyChar, IsWritable}
use Rattle.page_laws.proofs.Names.{IsKeyed, all_keyed}
use Rattle.page_laws.proofs.Spelling.{text_spelled, value_spelled, spell_by, spell_attribute, spell_attributes, spell_end, spell}

ascii : (x : ℕ) → nat_lt x 128 ≡ true → encode x ≡ x ∷ []
ascii x h = encode_ascii x (let k : x < 128 = grind (arith, nat_tests) in k)

ascii_first : (x : ℕ) (r : List ℕ) → nat_lt x 128 ≡ true → encodes (x ∷ r) ≡ x ∷ encodes r
ascii_first x r h = ap (λ z. z ++ encodes r) (ascii x h)

-- ---- texts and values

same_if : (t : Bool) (a b x y : List ℕ) → encodes a ≡ x → encodes b ≡ y → encodes (if t then a else b) ≡ (if t then x else y)
same_if true a b x y e f = e
same_if false a b x y e f = f

amp : encodes (codes "&amp;") ≡ codes "&amp;"
unfolding encode
amp = refl

lt : encodes (codes "&lt;") ≡ codes "&lt;"
unfolding encode
lt = refl

gt : encodes (codes "&gt;") ≡ codes "&gt;"
unfolding encode
gt = refl

nbsp : encodes (codes "&nbsp;") ≡ codes "&nbsp;"
unfolding encode
nbsp = refl

quot : encodes (codes "&quot;") ≡ codes "&quot;"
unfolding encode
quot = refl

text_printed : (x : ℕ) → encodes (text_spelled x) ≡ text_char x
text_printed x =
    same_if (x == 38) (codes "&amp;") (if x == 60 then codes "&lt;" else (if x == 62 then codes "&gt;" else (if x == 160 then codes "&nbsp;" else x ∷ []))) (codes "&amp;") (if x == 60 then codes "&lt;" else (if x == 62 then codes "&gt;" else (if x == 160 then codes "&nbsp;" else encode x))) amp
    (same_if (x == 60) (codes "&lt;") (if x == 62 then codes "&gt;" else (if x == 160 then codes "&nbsp;" else x ∷ [])) (codes "&lt;") (if x == 62 then codes "&gt;" else (if x == 160 then codes "&nbsp;" else encode x)) lt
    (same_if (x == 62) (codes "&gt;") (if x == 160 then codes "&nbsp;" else x ∷ []) (codes "&gt;") (if x == 160 then codes "&nbsp;" else encode x) gt
    (same_if (x == 160) (codes "&nbsp;") (x ∷ []) (codes "&nbsp;") (encode x) nbsp (append-nil (encode x)))))

value_printed : (x : ℕ) → encodes (value_spelled x) ≡ value_char x
value_printed x = same_if (x == 34) (codes "&quot;") (text_spelled x) (codes "&quot;") (text_char x) quot (text_printed x)

chars_printed : (g h : ℕ → List ℕ) → ((x : ℕ) → encodes (g x) ≡ h x) → (xs r : List ℕ) → encodes (spell_by g xs r) ≡ flat_map h xs ++ encodes r
chars_printed g h same [] r = refl
chars_printed g h same (x ∷ xs) r =
    encodes-append (g x) (spell_by g xs r)
    ∙ ap (λ z. z ++ encodes (spell_by g xs r)) (same x)
    ∙ ap (λ z. h x ++ z) (chars_printed g h same xs r)
    ∙ sym (append_assoc (h x) (flat_map h xs) (encodes r))

text_bytes : (xs r : List ℕ) → encodes (spell_by text_spelled xs r) ≡ text_html xs ++ encodes r
unfolding text_html
text_bytes = chars_printed text_spelled text_char text_printed

value_bytes : (xs r : List ℕ) → encodes (spell_by value_spelled xs r) ≡ value_html xs ++ encodes r
unfolding value_html
value_bytes = chars_printed value_spelled value_char value_printed

-- ---- names and tags

small_char : (x : ℕ) → is_name_char x ≡ true → lower x ≡ x → nat_lt x 128 ≡ true
small_char x h e = ap (λ z. nat_lt z 128) (sym e) ∙ name_ascii x h

small_letter : (x : ℕ) → is_letter x ≡ true → lower x ≡ x → nat_lt x 128 ≡ true
small_letter x h e = ap (λ z. nat_lt z 128) (sym e) ∙ letter_ascii x h

chars_plain : (xs : List ℕ) → AllByRecursion IsNameChar xs → encodes xs ≡ xs
chars_plain [] h = refl
chars_plain (x ∷ xs) h = ascii_first x xs (small_char x h.0.0 h.0.1) ∙ ap (λ z. x ∷ z) (chars_plain xs h.1)

-- an element's name is its own UTF-8
pub name_plain : (w : List ℕ) → IsElementName w → encodes w ≡ w
name_plain [] h = elim h [ ]
name_plain (x ∷ xs) h = ascii_first x xs (small_letter x h.0 h.1) ∙ ap (λ z. x ∷ z) (chars_plain xs h.2)

after_name : (w r : List ℕ) → IsElementName w → encodes (w ++ r) ≡ w ++ encodes r
after_name w r h = encodes-append w r ∙ ap (λ z. z ++ encodes r) (name_plain w h)

attribute_bytes : (t : Attribute) (r : List ℕ) → encodes (spell_attribute t r) ≡ attribute_html (attribute_of t) ++ encodes r
attribute_bytes t r =
    let k = encodes t.name in
    let v = value_html t.value in
    let q : List ℕ = 61 ∷ 34 ∷ [] in
    let e = encodes r in
    let quoted : encodes (spell_by value_spelled t.value (34 ∷ r)) ≡ v ++ 34 ∷ e = value_bytes t.value (34 ∷ r) ∙ ap (λ z. v ++ z) (ascii_first 34 r refl) in
    let valued : encodes (61 ∷ 34 ∷ spell_by value_spelled t.value (34 ∷ r)) ≡ 61 ∷ 34 ∷ (v ++ 34 ∷ e) =
    ascii_first 61 (34 ∷ spell_by value_spelled t.value (34 ∷ r)) refl
    ∙ ap (λ z. 61 ∷ z) (ascii_first 34 (spell_by value_spelled t.value (34 ∷ r)) refl ∙ ap (λ z. 34 ∷ z) quoted) in
    let named : encodes (t.name ++ 61 ∷ 34 ∷ spell_by value_spelled t.value (34 ∷ r)) ≡ k ++ 61 ∷ 34 ∷ (v ++ 34 ∷ e) =
    encodes-append t.name (61 ∷ 34 ∷ spell_by value_spelled t.value (34 ∷ r)) ∙ ap (λ z. k ++ z) valued in
    let grouped : (((k ++ q) ++ v) ++ 34 ∷ []) ++ e ≡ k ++ 61 ∷ 34 ∷ (v ++ 34 ∷ e) =
    append_assoc ((k ++ q) ++ v) (34 ∷ []) e ∙ append_assoc (k ++ q) v (34 ∷ e) ∙ append_assoc k q (v ++ 34 ∷ e) in
    ascii_first 32 (t.name ++ 61 ∷ 34 ∷ spell_by value_spelled t.value (34 ∷ r)) refl ∙ ap (λ z. 32 ∷ z) (named ∙ sym grouped)

attributes_bytes : (ts : List Attribute) (r : List ℕ) → encodes (spell_attributes ts r) ≡ attributes_html (attributes_of ts) ++ encodes r
unfolding attributes_html
attributes_bytes [] r = refl
attributes_bytes (t ∷ ts) r =
    attribute_bytes t (spell_attributes ts r)
    ∙ ap (λ z. attribute_html (attribute_of t) ++ z) (attributes_bytes ts r)
    ∙ sym (append_assoc (attribute_html (attribute_of t)) (attributes_html (attributes_of ts)) (encodes r))

start_bytes : (w : List ℕ) (ts : List Attribute) (r : List ℕ) → IsElementName w → encodes (60 ∷ (w ++ spell_attributes ts (62 ∷ r))) ≡ start_tag w (attributes_of ts) ++ encodes r
start_bytes w ts r h =
    let a = attributes_html (attributes_of ts) in
    let e = encodes r in
    let closed : encodes (spell_attributes ts (62 ∷ r)) ≡ a ++ 62 ∷ e = attributes_bytes ts (62 ∷ r) ∙ ap (λ z. a ++ z) (ascii_first 62 r refl) in
    let grouped : ((w ++ a) ++ 62 ∷ []) ++ e ≡ w ++ (a ++ 62 ∷ e) = append_assoc (w ++ a) (62 ∷ []) e ∙ append_assoc w a (62 ∷ e) in
    ascii_first 60 (w ++ spell_attributes ts (62 ∷ r)) refl
    ∙ ap (λ z. 60 ∷ z) (after_name w (spell_attributes ts (62 ∷ r)) h ∙ ap (λ z. w ++ z) closed ∙ sym grouped)

end_bytes : (w r : List ℕ) → IsElementName w → encodes (spell_end w r) ≡ end_tag w ++ encodes r
end_bytes w r h = go (is_void w)
  where
    closing : encodes (60 ∷ 47 ∷ (w ++ 62 ∷ r)) ≡ (60 ∷ 47 ∷ (w ++ 62 ∷ [])) ++ encodes r
    closing =
        ascii_first 60 (47 ∷ (w ++ 62 ∷ r)) refl
        ∙ ap (λ z. 60 ∷ z) (ascii_first 47 (w ++ 62 ∷ r) refl ∙ ap (λ z. 47 ∷ z) (after_name w (62 ∷ r) h ∙ ap (λ z. w ++ z) (ascii_first 62 r refl) ∙ sym (append_assoc w (62 ∷ []) (encodes r))))

    go : (t : Bool) → encodes (if t then r else 60 ∷ 47 ∷ (w ++ 62 ∷ r)) ≡ (if t then [] else 60 ∷ 47 ∷ (w ++ 62 ∷ [])) ++ encodes r
    go true = refl
    go false = closing

comment_bytes : (t r : List ℕ) → encodes (60 ∷ 33 ∷ 45 ∷ 45 ∷ (t ++ 45 ∷ 45 ∷ 62 ∷ r)) ≡ comment_html t ++ encodes r
comment_bytes t r =
    let e : encodes (45 ∷ 45 ∷ 62 ∷ r) ≡ 45 ∷ 45 ∷ 62 ∷ encodes r =
    ascii_first 45 (45 ∷ 62 ∷ r) refl ∙ ap (λ z. 45 ∷ z) (ascii_first 45 (62 ∷ r) refl ∙ ap (λ z. 45 ∷ z) (ascii_first 62 r refl)) in
    let s = t ++ 45 ∷ 45 ∷ 62 ∷ r in
    ascii_first 60 (33 ∷ 45 ∷ 45 ∷ s) refl
    ∙ ap (λ z. 60 ∷ z) (ascii_first 33 (45 ∷ 45 ∷ s) refl ∙ ap (λ z. 33 ∷ z) (ascii_first 45 (45 ∷ s) refl ∙ ap (λ z. 45 ∷ z) (ascii_first 45 s refl ∙ ap (λ z. 45 ∷ z)
    (encodes-append t (45 ∷ 45 ∷ 62 ∷ r) ∙ ap (λ z. encodes t ++ z) e ∙ sym (append_assoc (encodes t) (45 ∷ 45 ∷ 62 ∷ []) (encodes r))))))

-- ---- trees

-- a node without children has nothing printed but its own opening
pub leaf_html : (o m : List ℕ) → ((o ++ []) ++ []) ++ m ≡ o ++ m
leaf_html o m = ap (λ z. z ++ m) (append-nil (o ++ []) ∙ append-nil o)

leaf_bytes : (o m r : List ℕ) → o ++ (m ++ r) ≡ (((o ++ []) ++ []) ++ m) ++ r
leaf_bytes o m r = sym (append_assoc o m r) ∙ ap (λ z. z ++ r) (sym (leaf_html o m))

-- the characters that are written are what is printed
pub spelled_bytes : (d : ℕ) (f : Siblings) (r : List ℕ) → IsWritable d (nodes_of f) → encodes (spell f r) ≡ html_of (nodes_of f) ++ encodes r
spelled_bytes d Nil r h = refl
spelled_bytes d (TextNode l t f) r h =
    text_bytes t (spell f r)
    ∙ ap (λ z. text_html t ++ z) (spelled_bytes d f r h.3)
    ∙ leaf_bytes (text_html t) (html_of (nodes_of f)) (encodes r)
spelled_bytes d (CommentNode l t f) r h =
    comment_bytes t (spell f r)
    ∙ ap (λ z. comment_html t ++ z) (spelled_bytes d f r h.3)
    ∙ leaf_bytes (comment_html t) (html_of (nodes_of f)) (encodes r)
spelled_bytes d (ElementNode l w ts k f) r h =
    let a = start_tag w (attributes_of ts) in
    let b = html_of (nodes_of k) in
    let e = end_tag w in
    let m = html_of (nodes_of f) in
    let s = encodes r in
    let inner : encodes (spell k (spell_end w (spell f r))) ≡ b ++ (e ++ (m ++ s)) =
    spelled_bytes (pred d) k (spell_end w (spell f r)) h.2
    ∙ ap (λ z. b ++ z) (end_bytes w (spell f r) h.1.name ∙ ap (λ z. e ++ z) (spelled_bytes d f r h.3)) in
    let grouped : (((a ++ b) ++ e) ++ m) ++ s ≡ a ++ (b ++ (e ++ (m ++ s))) =
    append_assoc ((a ++ b) ++ e) m s ∙ append_assoc (a ++ b) e (m ++ s) ∙ append_assoc a b (e ++ (m ++ s)) in
    start_bytes w ts (spell k (spell_end w (spell f r))) h.1.name ∙ ap (λ z. a ++ z) inner ∙ sym grouped

-- ---- scalar values

scalars_if : (t : Bool) (a b : List ℕ) → scalars a ≡ true → scalars b ≡ true → scalars (if t then a else b) ≡ true
scalars_if true a b e f = e
scalars_if false a b e f = f

text_scalars : (x : ℕ) → scalar x ≡ true → scalars (text_spelled x) ≡ true
text_scalars x h =
    scalars_if (x == 38) (codes "&amp;") (if x == 60 then codes "&lt;" else (if x == 62 then codes "&gt;" else (if x == 160 then codes "&nbsp;" else x ∷ []))) refl
    (scalars_if (x == 60) (codes "&lt;") (if x == 62 then codes "&gt;" else (if x == 160 then codes "&nbsp;" else x ∷ [])) refl
    (scalars_if (x == 62) (codes "&gt;") (if x == 160 then codes "&nbsp;" else x ∷ []) refl
    (scalars_if (x == 160) (codes "&nbsp;") (x ∷ []) refl (both_true (scalar x) true h refl))))

value_scalars : (x : ℕ) → scalar x ≡ true → scalars (value_spelled x) ≡ true
value_scalars x h = scalars_if (x == 34) (codes "&quot;") (text_spelled x) refl (text_scalars x h)

chars_scalars : (g : ℕ → List ℕ) → ((x : ℕ) → scalar x ≡ true → scalars (g x) ≡ true) → (xs r : List ℕ) → scalars xs ≡ true → scalars r ≡ true → scalars (spell_by g xs r) ≡ true
chars_scalars g each [] r h k = k
chars_scalars g each (x ∷ xs) r h k =
    let p = and_parts (scalar x) (scalars xs) h in
    scalars_app (g x) (spell_by g xs r) (each x p.0) (chars_scalars g each xs r p.1 k)

name_scalars : (xs : List ℕ) → AllByRecursion IsNameChar xs → scalars xs ≡ true
name_scalars [] h = refl
name_scalars (x ∷ xs) h = both_true (scalar x) (scalars xs) (ascii_scalar x (small_char x h.0.0 h.0.1)) (name_scalars xs h.1)

element_name_scalars : (w : List ℕ) → IsElementName w → scalars w ≡ true
element_name_scalars [] h = elim h [ ]
element_name_scalars (x ∷ xs) h = both_true (scalar x) (scalars xs) (ascii_scalar x (small_letter x h.0 h.1)) (name_scalars xs h.2)

key_scalars : (xs : List ℕ) → AllByRecursion IsKeyChar xs → scalars xs ≡ true
key_scalars [] h = refl
key_scalars (x ∷ xs) h = both_true (scalar x) (scalars xs) h.0.2 (key_scalars xs h.1)

attributes_scalars : (ts : List Attribute) (r : List ℕ) → AllByRecursion IsKeyed ts → scalars r ≡ true → scalars (spell_attributes ts r) ≡ true
attributes_scalars [] r h k = k
attributes_scalars (t ∷ ts) r h k =
    scalars_app t.name (61 ∷ 34 ∷ spell_by value_spelled t.value (34 ∷ spell_attributes ts r)) (key_scalars t.name h.0.name)
    (chars_scalars value_spelled value_scalars t.value (34 ∷ spell_attributes ts r) h.0.value (attributes_scalars ts r h.1 k))

end_scalars : (w r : List ℕ) → IsElementName w → scalars r ≡ true → scalars (spell_end w r) ≡ true
end_scalars w r h k = scalars_if (is_void w) r (60 ∷ 47 ∷ (w ++ 62 ∷ r)) k (scalars_app w (62 ∷ r) (element_name_scalars w h) k)

pub spelled_scalars : (d : ℕ) (f : Siblings) (r : List ℕ) → IsWritable d (nodes_of f) → scalars r ≡ true → scalars (spell f r) ≡ true
spelled_scalars d Nil r h k = k
spelled_scalars d (TextNode l t f) r h k = chars_scalars text_spelled text_scalars t (spell f r) h.1.0 (spelled_scalars d f r h.3 k)
spelled_scalars d (CommentNode l t f) r h k = scalars_app t (45 ∷ 45 ∷ 62 ∷ spell f r) h.1.0 (spelled_scalars d f r h.3 k)
spelled_scalars d (ElementNode l w ts k f) r h j =
    let inner = spelled_scalars (pred d) k (spell_end w (spell f r)) h.2 (end_scalars w (spell f r) h.1.name (spelled_scalars d f r h.3 j)) in
    scalars_app w (spell_attributes ts (62 ∷ spell k (spell_end w (spell f r)))) (element_name_scalars w h.1.name) (attributes_scalars ts (62 ∷ spell k (spell_end w (spell f r))) (all_keyed ts h.1.attributes) inner)
