-- Attributes by names in characters and in bytes.
use Rattle.std.proofs.Common.{◌≡◌, ℕ, Bool, true, false, ◌||◌, if◌then◌else◌, List, [], ◌∷◌, ◌++◌, Option, Some, None, is_some, refl, sym, ap, subst, ◌∙◌, ◌+◌, ◌<◌, length, take, get_or, append-nil}
use Rattle.std.specs.Str.{bytes_eq, chars}
use Rattle.std.proofs.Math.Utf8.{scalars, encodes}
use Rattle.std.proofs.lemmas.Slice.Eq.{bytes_eq-Decides}
use Rattle.std.proofs.lemmas.Str.{chars-encodes, encodes-append}
use Rattle.std.specs.Char.{encode_utf8}
use Rattle.std.proofs.lemmas.List.{map-append, take_more}
use Rattle.node_arena.specs.DomModel.declared.attributes.Attribute.{Attribute}
use Rattle.node_arena.specs.DomModel.AttributeList.{value_of, set_in}
use Rattle.page_grammar.specs.Page.{has_attribute}
use Rattle.page_grammar.specs.Names.{same_text}
use Rattle.page_read.specs.View.{read_attributes, read_attribute, EachText}

-- two tests whose facts follow from one another agree
same_tests : (a b : Bool) (P Q : Type 0) → (a ≡ true → P) → (P → a ≡ true) → (b ≡ true → Q) → (Q → b ≡ true) → (P → Q) → (Q → P) → a ≡ b
same_tests true true P Q p p1 q q1 f g = refl
same_tests true false P Q p p1 q q1 f g = sym (q1 (f (p refl)))
same_tests false true P Q p p1 q q1 f g = p1 (g (q refl))
same_tests false false P Q p p1 q q1 f g = refl

eq_to : (xs ys : List ℕ) → bytes_eq xs ys ≡ true → xs ≡ ys
eq_to xs ys h = (bytes_eq-Decides xs ys).0 h

eq_from : (xs ys : List ℕ) → xs ≡ ys → bytes_eq xs ys ≡ true
eq_from xs ys h = (bytes_eq-Decides xs ys).1 h

test_same : (a : Attribute) (k : List ℕ) → encodes (chars a.name) ≡ a.name → scalars k ≡ true → bytes_eq (encodes k) a.name ≡ same_text (chars a.name) k
test_same a k text scalar =
    same_tests (bytes_eq (encodes k) a.name) (bytes_eq (chars a.name) k) (encodes k ≡ a.name) (chars a.name ≡ k)
    (eq_to (encodes k) a.name) (eq_from (encodes k) a.name) (eq_to (chars a.name) k) (eq_from (chars a.name) k)
    (λ e. ap chars (sym e) ∙ chars-encodes k scalar)
    (λ e. ap encodes (sym e) ∙ text)

pub has_is : (list : List Attribute) (k : List ℕ) → EachText list → scalars k ≡ true → has_attribute (read_attributes list) k ≡ is_some (value_of list (encodes k))
has_is [] k each scalar = refl
has_is (a ∷ list) k each scalar = rw (sym (test_same a k each.0 scalar), has_is list k each.1 scalar) (by_test (bytes_eq (encodes k) a.name))
  where
    by_test : (b : Bool) → (b || is_some (value_of list (encodes k))) ≡ is_some (if b then Some a.value else value_of list (encodes k))
    by_test true = refl
    by_test false = refl

set_after : (b : Bool) (a : Attribute) (list : List Attribute) (n v : List ℕ) → (if b then Some a.value else value_of list n) ≡ None → (value_of list n ≡ None → set_in list n v ≡ list ++ record { name = n; value = v } ∷ []) → (if b then record { name = a.name; value = v } ∷ list else a ∷ set_in list n v) ≡ a ∷ (list ++ record { name = n; value = v } ∷ [])
set_after true a list n v h go = cc
set_after false a list n v h go = ap (λ xs. a ∷ xs) (go h)

-- an attribute of a new name goes last
pub set_fresh : (list : List Attribute) (n v : List ℕ) → value_of list n ≡ None → set_in list n v ≡ list ++ record { name = n; value = v } ∷ []
set_fresh [] n v fresh = refl
set_fresh (a ∷ list) n v fresh = set_after (bytes_eq n a.name) a list n v fresh (set_fresh list n v)

each_text_push : (list : List Attribute) (a : Attribute) → EachText list → encodes (chars a.name) ≡ a.name → EachText (list ++ a ∷ [])
each_text_push [] a each text = (text, tt)
each_text_push (x ∷ list) a each text = (each.0, each_text_push list a each.1 text)

pub texts_pushed : (list : List Attribute) (k v : List ℕ) → scalars k ≡ true → EachText list → EachText (list ++ record { name = encodes k; value = v } ∷ [])
texts_pushed list k v scalar each = each_text_push list (record { name = encodes k; value = v }) each (ap encodes (chars-encodes k scalar))

pub read_pushed : (list : List Attribute) (k v : List ℕ) → scalars k ≡ true → read_attributes (list ++ record { name = encodes k; value = v } ∷ []) ≡ read_attributes list ++ record { name = k; value = v } ∷ []
read_pushed list k v scalar = rw (map-append read_attribute list (record { name = encodes k; value = v } ∷ []), chars-encodes k scalar) refl

-- one more character in UTF-8
pub encode_more : (xs : List ℕ) (i c : ℕ) → i < length xs → c ≡ get_or xs i c → encodes (take (i + 1) xs) ≡ encodes (take i xs) ++ encode_utf8 c
encode_more xs i c h e =
    ap encodes (take_more xs i c h) ∙ encodes-append (take i xs) (get_or xs i c ∷ []) ∙ rw (← e) (ap (λ k. encodes (take i xs) ++ k) (append-nil (encode_utf8 c)))

none_is : (o : Option (List ℕ)) → is_some o ≡ false → o ≡ None
none_is None h = refl
none_is (Some x) h = cc

-- the list after an attribute of a new name is inserted
pub added_parts : (list new : List Attribute) (k v n u : List ℕ) → new ≡ set_in list n u → n ≡ encodes k → u ≡ v → is_some (value_of list (encodes k)) ≡ false → scalars k ≡ true → EachText list → (read_attributes new ≡ read_attributes list ++ record { name = k; value = v } ∷ []) × EachText new
added_parts list new k v n u e named valued fresh scalar each =
    let pushed : new ≡ list ++ record { name = encodes k; value = v } ∷ [] = e ∙ rw (named, valued) (set_fresh list (encodes k) v (none_is (value_of list (encodes k)) fresh)) in
    (ap read_attributes pushed ∙ read_pushed list k v scalar, subst EachText (sym pushed) (texts_pushed list k v scalar each))
