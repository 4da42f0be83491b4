-- A start tag that is written on one line is read back.
use Rattle.std.proofs.Common.{◌≡◌, inl, inr, ℕ, ◌<◌, Bool, true, false, ◌==◌, ◌&&◌, cond, not, List, [], ◌∷◌, ◌++◌, codes, encode_utf8, encode_utf8_all, Some, None, refl, sym, ap, subst, ◌∙◌, lit<, append_assoc, append-nil}
use Rattle.std.specs.Bool.{Decides}
use Rattle.std.specs.List.{AllByRecursion, IsDistinct, list_all}
use Rattle.std.specs.Str.{all_scalars, bytes_eq, chars, is_utf8}
use Rattle.std.proofs.Math.Seq.{drop-append_seam}
use Rattle.std.proofs.lemmas.Bool.Decides.{Decides-eqb}
use Rattle.std.proofs.lemmas.Slice.Eq.{bytes_eq-Decides}
use Rattle.std.proofs.lemmas.Str.{IsUtf8-from_is_utf8, encodes-chars}
use Rattle.page_grammar.specs.DomModel.declared.attributes.Attribute.{Attribute}
use Rattle.page_grammar.specs.DomModel.AttributeList.{value_of, set_in, names_of, IsDistinctNames}
use Rattle.page_grammar.specs.Chars.{lower, is_space, is_control, is_letter, is_digit, is_name_char, is_attribute_name_char}
use Rattle.page_write.specs.Html.{text_char, value_char, value_html, attribute_html, attributes_html, start_tag}
use Rattle.script_read.specs.Reading.{cut, split}
use Rattle.script_read.proofs.Tests.{and-true}
use Rattle.script_read.proofs.Cutting.{Avoids, Avoids-append, passing_avoids, cut-found, cut-none, split-found}
use Rattle.step_text.specs.StepLine.{tag_byte, tag_bytes, tag_text, is_lowered, is_element_name, is_attribute_name, AreAttributes, IsTag}
use Rattle.step_text.specs.StepReading.{run, unescaped, unreferenced, attribute_of, attributes_from, attributes_of, name_parts, tag_parts, named_tag, start_tag_of, tag_of}
use Rattle.step_text.proofs.Bytes.{tested, encodes_avoid, encode_avoids, decoded_back, within_back}

-- ---- escapes

unescaped_one : (b : ℕ) (rest : List ℕ) → unescaped false (tag_byte b ++ rest) ≡ b ∷ unescaped false rest
unfolding run
unescaped_one b rest =
    elim (tested b 92) [
      | inl e ↦ subst (λ (x : ℕ). unescaped false (tag_byte x ++ rest) ≡ x ∷ unescaped false rest) (sym e) refl
      | inr h ↦ elim (tested b 10) [
        | inl e ↦ subst (λ (x : ℕ). unescaped false (tag_byte x ++ rest) ≡ x ∷ unescaped false rest) (sym e) refl
        | inr i ↦ elim (tested b 13) [
          | inl e ↦ subst (λ (x : ℕ). unescaped false (tag_byte x ++ rest) ≡ x ∷ unescaped false rest) (sym e) refl
          | inr j ↦ elim (tested b 9) [
            | inl e ↦ subst (λ (x : ℕ). unescaped false (tag_byte x ++ rest) ≡ x ∷ unescaped false rest) (sym e) refl
            | inr k ↦ rw (h, i, j, k, h) refl
          ]
        ]
      ]
    ]

unescaped_back : (bs : List ℕ) → unescaped false (tag_bytes bs) ≡ bs
unfolding tag_bytes run
unescaped_back [] = refl
unescaped_back (b ∷ bs) = unescaped_one b (tag_bytes bs) ∙ ap (λ x. b ∷ x) (unescaped_back bs)

-- ---- references

plain : (bs rest : List ℕ) → Avoids 38 bs → unreferenced (bs ++ rest) ≡ bs ++ unreferenced rest
unfolding run
plain [] rest h = refl
plain (b ∷ bs) rest h = rw h.0 (ap (λ x. b ∷ x) (plain bs rest h.1))

-- what one character of a value is written as
record IsValueChar (c : ℕ) (text : List ℕ) : Type 0 where
  pub back : (rest : List ℕ) → unreferenced (text ++ rest) ≡ encode_utf8 c ++ unreferenced rest
  pub avoids : Avoids 34 text

by_test : (c k : ℕ) (holds lacks : List ℕ) → IsValueChar k holds → ((c == k) ≡ false → IsValueChar c lacks) → IsValueChar c (cond (c == k) holds lacks)
by_test c k holds lacks a b =
    elim (c == k) as (λ (t : Bool). Decides t (c ≡ k) → (t ≡ false → IsValueChar c lacks) → IsValueChar c (cond t holds lacks)) [
      | true ↦ λ d other. subst (λ (x : ℕ). IsValueChar x holds) (sym (d.0 refl)) a
      | false ↦ λ d other. other refl
    ] (Decides-eqb c k) b

avoids_quote : (text : List ℕ) → list_all (λ b. not (b == 34)) text ≡ true → Avoids 34 text
avoids_quote text all = passing_avoids (λ b. not (b == 34)) 34 refl text all

value_one : (c : ℕ) → IsValueChar c (value_char c)
unfolding run
value_one c =
    by_test c 34 (codes "&quot;") (text_char c) (record { back = λ rest. refl; avoids = avoids_quote (codes "&quot;") refl })
    (λ quote. by_test c 38 (codes "&amp;") _ (record { back = λ rest. refl; avoids = avoids_quote (codes "&amp;") refl })
    (λ ampersand. by_test c 60 (codes "&lt;") _ (record { back = λ rest. refl; avoids = avoids_quote (codes "&lt;") refl })
    (λ _. by_test c 62 (codes "&gt;") _ (record { back = λ rest. refl; avoids = avoids_quote (codes "&gt;") refl })
    (λ _. by_test c 160 (codes "&nbsp;") (encode_utf8 c) (record { back = λ rest. refl; avoids = avoids_quote (codes "&nbsp;") refl })
    (λ _. record { back = λ rest. plain (encode_utf8 c) rest (encode_avoids 38 c (lit< tt) ampersand); avoids = encode_avoids 34 c (lit< tt) quote })))))

value_back : (cs : List ℕ) → unreferenced (value_html cs) ≡ encode_utf8_all cs
unfolding value_html run
value_back [] = refl
value_back (c ∷ cs) = (value_one c).back (value_html cs) ∙ ap (λ x. encode_utf8 c ++ x) (value_back cs)

value_avoids : (cs : List ℕ) → Avoids 34 (value_html cs)
unfolding value_html
value_avoids [] = tt
value_avoids (c ∷ cs) = Avoids-append 34 (value_char c) (value_html cs) (value_one c).avoids (value_avoids cs)

-- ---- names

record IsAttributeName (name : List ℕ) : Type 0 where
  pub utf8 : is_utf8 name ≡ true
  pub each : list_all (λ c. is_attribute_name_char c && is_lowered c) (chars name) ≡ true

attribute_name_parts : (name : List ℕ) → is_attribute_name name ≡ true → IsAttributeName name
unfolding is_attribute_name
attribute_name_parts name is = let h = and-true _ _ is in record { utf8 = h.0; each = (and-true _ _ h.1).1 }

attribute_name_avoids : (name : List ℕ) → is_attribute_name name ≡ true → Avoids 34 name
unfolding is_attribute_name_char is_space is_control
attribute_name_avoids name is =
    let h = attribute_name_parts name is in
    let each = passing_avoids (λ c. is_attribute_name_char c && is_lowered c) 34 refl (chars name) h.each in
    subst (Avoids 34) (encodes-chars name (IsUtf8-from_is_utf8 name h.utf8)) (encodes_avoid 34 (chars name) (lit< tt) each)

element_name_avoids : (name : List ℕ) → is_element_name name ≡ true → Avoids 32 name
unfolding is_element_name is_name_char is_letter is_digit lower
element_name_avoids [] is = tt
element_name_avoids (b ∷ bs) is =
    let h = and-true (is_letter b && is_lowered b) (list_all (λ c. is_name_char c && is_lowered c) bs) is in
    let first : Avoids 32 (b ∷ []) = passing_avoids (λ c. is_letter c && is_lowered c) 32 refl (b ∷ []) (rw h.0 refl) in
    (first.0, passing_avoids (λ c. is_name_char c && is_lowered c) 32 refl bs h.1)

-- ---- attributes

-- what stands before, between and after the quotes
pieces : List Attribute → List (List ℕ)
pieces [] = [] ∷ []
pieces (a ∷ list) = (32 ∷ (a.name ++ 61 ∷ [])) ∷ (value_html a.value ∷ pieces list)

attribute_regrouped : (a : Attribute) (rest : List ℕ) → attribute_html a ++ rest ≡ (32 ∷ (a.name ++ 61 ∷ [])) ++ 34 ∷ (value_html a.value ++ 34 ∷ rest)
attribute_regrouped a rest = simp append_assoc

split_pieces : (list : List Attribute) → AreAttributes list → split 34 (attributes_html list) ≡ pieces list
unfolding attributes_html pieces
split_pieces [] are = refl
split_pieces (a ∷ list) are =
    let head : Avoids 34 (32 ∷ (a.name ++ 61 ∷ [])) = (refl, Avoids-append 34 a.name (61 ∷ []) (attribute_name_avoids a.name are.0) (refl, tt)) in
    ap (split 34) (attribute_regrouped a (attributes_html list))
    ∙ split-found 34 (32 ∷ (a.name ++ 61 ∷ [])) (value_html a.value ++ 34 ∷ attributes_html list) head
    ∙ ap (λ (x : List (List ℕ)). (32 ∷ (a.name ++ 61 ∷ [])) ∷ x) (split-found 34 (value_html a.value) (attributes_html list) (value_avoids a.value) ∙ ap (λ (x : List (List ℕ)). value_html a.value ∷ x) (split_pieces list are.2))

attribute_back : (a : Attribute) → is_attribute_name a.name ≡ true → all_scalars a.value ≡ true → attribute_of (32 ∷ (a.name ++ 61 ∷ [])) (value_html a.value) ≡ Some a
unfolding attribute_of
attribute_back a name value =
    rw (within_back 32 61 a.name, name, value_back a.value, decoded_back a.value value) refl

-- a name that no attribute of a list has
abbrev IsFresh : List Attribute → List ℕ → Type 0
IsFresh list name = value_of list name ≡ None

set_after : (b : Bool) (a : Attribute) (list : List Attribute) (n v : List ℕ) → cond b (Some a.value) (value_of list n) ≡ None → (value_of list n ≡ None → set_in list n v ≡ list ++ record { name = n; value = v } ∷ []) → cond b (record { name = a.name; value = v } ∷ list) (a ∷ set_in list n v) ≡ a ∷ (list ++ record { name = n; value = v } ∷ [])
set_after true a list n v h go = absurd (cc)
set_after false a list n v h go = ap (λ (xs : List Attribute). a ∷ xs) (go h)

set_fresh : (list : List Attribute) (n v : List ℕ) → IsFresh list n → set_in list n v ≡ list ++ record { name = n; value = v } ∷ []
set_fresh [] n v fresh = refl
set_fresh (a ∷ list) n v fresh = set_after (bytes_eq n a.name) a list n v fresh (set_fresh list n v)

other_name : (x y : List ℕ) → bytes_eq x y ≡ false → bytes_eq y x ≡ false
other_name x y h =
    elim (bytes_eq y x) as (λ (t : Bool). Decides t (y ≡ x) → t ≡ false) [
      | true ↦ λ d. absurd (let same : bytes_eq x y ≡ true = (bytes_eq-Decides x y).1 (sym (d.0 refl)) in cc)
      | false ↦ λ d. refl
    ] (bytes_eq-Decides y x)

fresh_push : (list : List Attribute) (a : Attribute) (n : List ℕ) → IsFresh list n → bytes_eq a.name n ≡ false → IsFresh (list ++ a ∷ []) n
fresh_push [] a n fresh other = rw (other_name a.name n other) refl
fresh_push (x ∷ list) a n fresh other =
    elim (bytes_eq n x.name) as (λ (t : Bool). cond t (Some x.value) (value_of list n) ≡ None → cond t (Some x.value) (value_of (list ++ a ∷ []) n) ≡ None) [
      | true ↦ λ f. absurd (cc)
      | false ↦ λ f. fresh_push list a n f other
    ] fresh

all_fresh_push : (list : List Attribute) (a : Attribute) (names : List (List ℕ)) → AllByRecursion (IsFresh list) names → AllByRecursion (λ n. bytes_eq a.name n ≡ false) names → AllByRecursion (IsFresh (list ++ a ∷ [])) names
all_fresh_push list a [] fresh other = tt
all_fresh_push list a (n ∷ names) fresh other = (fresh_push list a n fresh.0 other.0, all_fresh_push list a names fresh.1 other.1)

all_fresh_nil : (names : List (List ℕ)) → AllByRecursion (IsFresh []) names
all_fresh_nil [] = tt
all_fresh_nil (n ∷ names) = (refl, all_fresh_nil names)

attributes_more : (done list : List Attribute) → AreAttributes list → IsDistinctNames list → AllByRecursion (IsFresh done) (names_of list) → attributes_from done (pieces list) ≡ Some (done ++ list)
unfolding pieces IsDistinct
attributes_more done [] are distinct fresh = ap Some (sym (append-nil done))
attributes_more done (a ∷ list) are distinct fresh =
    rw (attribute_back a are.0 are.1, set_fresh done a.name a.value fresh.0)
    (attributes_more (done ++ a ∷ []) list are.2 distinct.1 (all_fresh_push done a (names_of list) fresh.1 distinct.0) ∙ ap Some (append_assoc done (a ∷ []) list))

attributes_back : (list : List Attribute) → AreAttributes list → IsDistinctNames list → attributes_of (attributes_html list) ≡ Some list
unfolding attributes_of
attributes_back list are distinct =
    ap (attributes_from []) (split_pieces list are) ∙ attributes_more [] list are distinct (all_fresh_nil (names_of list))

-- ---- tags

parts_alone : (name : List ℕ) → Avoids 32 name → name_parts (name ++ []) (cut 32 (name ++ [])) ≡ (name, [])
parts_alone name h = ap (λ (x : List ℕ). name_parts x (cut 32 x)) (append-nil name) ∙ rw (cut-none 32 name h) refl

parts_spaced : (name rest : List ℕ) → Avoids 32 name → name_parts (name ++ 32 ∷ rest) (cut 32 (name ++ 32 ∷ rest)) ≡ (name, 32 ∷ rest)
parts_spaced name rest h = rw (cut-found 32 name rest h) (ap (λ (x : List ℕ). (name, x)) (drop-append_seam name (32 ∷ rest)))

inner_parts : (name : List ℕ) (list : List Attribute) → Avoids 32 name → name_parts (name ++ attributes_html list) (cut 32 (name ++ attributes_html list)) ≡ (name, attributes_html list)
unfolding attributes_html
inner_parts name [] h = parts_alone name h
inner_parts name (a ∷ list) h = parts_spaced name _ h

tag_parts_back : (name : List ℕ) (list : List Attribute) → Avoids 32 name → tag_parts (start_tag name list) ≡ (name, attributes_html list)
tag_parts_back name list h =
    ap (λ (x : List ℕ). name_parts x (cut 32 x)) (within_back 60 62 (name ++ attributes_html list)) ∙ inner_parts name list h

named_back : (name : List ℕ) (list : List Attribute) (parts : List ℕ × List ℕ) → parts ≡ (name, attributes_html list) → IsTag name list → named_tag parts ≡ Some (name, list)
named_back name list parts e is = rw (e, is.0, attributes_back list is.1 is.2) refl

start_tag_back : (name : List ℕ) (list : List Attribute) → IsTag name list → start_tag_of (start_tag name list) ≡ Some (name, list)
unfolding start_tag_of
start_tag_back name list is = named_back name list (tag_parts (start_tag name list)) (tag_parts_back name list (element_name_avoids name is.0)) is

pub tag_back : (name : List ℕ) (list : List Attribute) → IsTag name list → tag_of (tag_text name list) ≡ Some (name, list)
tag_back name list is = ap start_tag_of (unescaped_back (start_tag name list)) ∙ start_tag_back name list is
