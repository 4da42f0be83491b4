-- The grammar of pages, over characters: which characters stand for which children.
use Rattle.std.specs.Prelude.{◌≡◌, ◌≢◌, ℕ, zero, suc, pred, ◌+◌, ◌<◌, ◌≤◌, ◌⊎◌, Bool, true, false, ◌&&◌, ◌==◌, List, [], ◌∷◌, ◌++◌, length, take, max}
use Rattle.std.specs.Bool.{MatchBool}
use Rattle.std.specs.List.{list_any}
use Rattle.page_grammar.specs.Chars.{is_space, lower, is_letter, is_digit, is_name_char, is_attribute_name_char, is_quote, Entity, entities, is_referable, is_hex, value_from}
use Rattle.page_grammar.specs.Names.{same_text, is_void, is_refused}

pub record Attribute : Type 0 where
  pub name : List ℕ
  pub value : List ℕ

-- a list of siblings with what stands below them, each with its label
pub data Siblings : Type 0 where
  Nil : Siblings
  TextNode : (label : ℕ) (text : List ℕ) (rest : Siblings) → Siblings
  CommentNode : (label : ℕ) (text : List ℕ) (rest : Siblings) → Siblings
  ElementNode : (label : ℕ) (name : List ℕ) (attributes : List Attribute) (children : Siblings)
      (rest : Siblings) → Siblings

-- how many nodes there are
abbrev pub size : Siblings → ℕ
size Nil = 0
size (TextNode l t f) = suc (size f)
size (CommentNode l t f) = suc (size f)
size (ElementNode l w ts k f) = suc (size k + size f)

-- the labels in tree order
abbrev pub labels : Siblings → List ℕ
labels Nil = []
labels (TextNode l t f) = l ∷ labels f
labels (CommentNode l t f) = l ∷ labels f
labels (ElementNode l w ts k f) = l ∷ (labels k ++ labels f)

-- how deep the deepest node stands, the first level being 1
abbrev pub depth : Siblings → ℕ
depth Nil = 0
depth (TextNode l t f) = max 1 (depth f)
depth (CommentNode l t f) = max 1 (depth f)
depth (ElementNode l w ts k f) = max (suc (depth k)) (depth f)

-- some label isn't below c; since labels are drawn from 1 on, one is c then, unless c is 0
abbrev pub ReachesLabel : ℕ → Siblings → Type 0
ReachesLabel c Nil = ⊥
ReachesLabel c (TextNode l t f) = (c ≤ l) ⊎ ReachesLabel c f
ReachesLabel c (CommentNode l t f) = (c ≤ l) ⊎ ReachesLabel c f
ReachesLabel c (ElementNode l w ts k f) = (c ≤ l) ⊎ (ReachesLabel c k ⊎ ReachesLabel c f)

abbrev pub NotText : Siblings → Type 0
NotText Nil = Unit {0}
NotText (TextNode l t f) = ⊥
NotText (CommentNode l t f) = Unit {0}
NotText (ElementNode l w ts k f) = Unit {0}

abbrev pub IsNil : Siblings → Type 0
IsNil Nil = Unit {0}
IsNil (TextNode l t f) = ⊥
IsNil (CommentNode l t f) = ⊥
IsNil (ElementNode l w ts k f) = ⊥

-- Each relation below says: s begins with a spelling of the value, and r follows it.

-- n characters of white space
abbrev pub Spaces : ℕ → List ℕ → List ℕ → Type 0
Spaces zero s r = s ≡ r
Spaces (suc n) s r = (x : ℕ) × (m : List ℕ) × (s ≡ x ∷ m) × (is_space x ≡ true) × Spaces n m r

-- one of the six names
abbrev pub IsEntity : List Entity → List ℕ → ℕ → Type 0
IsEntity [] w x = ⊥
IsEntity (e ∷ es) w x = ((w ≡ e.name) × (x ≡ e.char)) ⊎ IsEntity es w x

abbrev pub DecimalDigits : List ℕ → Type 0
DecimalDigits [] = Unit {0}
DecimalDigits (d ∷ ds) = (is_digit d ≡ true) × DecimalDigits ds

abbrev pub HexadecimalDigits : List ℕ → Type 0
HexadecimalDigits [] = Unit {0}
HexadecimalDigits (d ∷ ds) = (is_hex d ≡ true) × HexadecimalDigits ds

-- what stands between `&` and `;` for the character x
abbrev pub IsBody : List ℕ → ℕ → Type 0
IsBody w x =
    IsEntity entities w x
    ⊎ (((ds : List ℕ) × (w ≡ 35 ∷ ds) × (0 < length ds) × DecimalDigits ds
    × (value_from 10 0 ds ≡ x)
    × (is_referable x ≡ true))
    ⊎ ((h : ℕ) × (ds : List ℕ) × (w ≡ 35 ∷ h ∷ ds) × (lower h ≡ 120) × (0 < length ds)
    × HexadecimalDigits ds
    × (value_from 16 0 ds ≡ x) × (is_referable x ≡ true)))

-- a character as itself, if it isn't the end of what it stands in, or as a reference
abbrev pub OneChar : (stop : ℕ) → ℕ → List ℕ → List ℕ → Type 0
OneChar stop x s r =
    ((s ≡ x ∷ r) × (x ≢ stop) × (x ≢ 38)) ⊎ ((w : List ℕ) × (s ≡ 38 ∷ (w ++ 59 ∷ r)) × IsBody w x)

abbrev pub Text : (stop : ℕ) → List ℕ → List ℕ → List ℕ → Type 0
Text stop [] s r = s ≡ r
Text stop (x ∷ xs) s r = (m : List ℕ) × OneChar stop x s m × Text stop xs m r

-- names are lowered
abbrev pub NameChars : List ℕ → List ℕ → List ℕ → Type 0
NameChars [] s r = s ≡ r
NameChars (x ∷ xs) s r =
    (b : ℕ) × (m : List ℕ) × (s ≡ b ∷ m) × (lower b ≡ x) × (is_name_char b ≡ true)
    × NameChars xs m r

abbrev pub ElementName : List ℕ → List ℕ → List ℕ → Type 0
ElementName [] s r = ⊥
ElementName (x ∷ xs) s r =
    (b : ℕ) × (m : List ℕ) × (s ≡ b ∷ m) × (lower b ≡ x) × (is_letter b ≡ true)
    × NameChars xs m r

abbrev pub AttributeNameChars : List ℕ → List ℕ → List ℕ → Type 0
AttributeNameChars [] s r = s ≡ r
AttributeNameChars (x ∷ xs) s r = (b : ℕ) × (m : List ℕ) × (s ≡ b ∷ m) × (lower b ≡ x)
    × (is_attribute_name_char b ≡ true) × AttributeNameChars xs m r

-- whether one of these attributes has the name
abbrev pub has_attribute : List Attribute → List ℕ → Bool
has_attribute ts k = list_any (λ t. same_text t.name k) ts

-- an attribute's value, or none
abbrev pub AttributeValue : List ℕ → List ℕ → List ℕ → Type 0
AttributeValue v s r =
    ((v ≡ []) × (s ≡ r))
    ⊎ ((n : ℕ) × (a : List ℕ) × (i : ℕ) × (q : ℕ) × (b : List ℕ)
    × Spaces n s (61 ∷ a) × Spaces i a (q ∷ b) × (is_quote q ≡ true) × Text q v b (q ∷ r))

-- attributes after those already there
abbrev pub Attributes : List Attribute → List Attribute → List ℕ → List ℕ → Type 0
Attributes seen [] s r = s ≡ r
Attributes seen (t ∷ ts) s r =
    (n : ℕ) × (a : List ℕ) × (b : List ℕ) × (m : List ℕ)
    × Spaces (suc n) s a × (0 < length t.name) × AttributeNameChars t.name a b
    × (has_attribute seen t.name ≡ false) × AttributeValue t.value b m
    × Attributes (seen ++ t ∷ []) ts m r

-- the end of a start tag
abbrev pub TagEnd : List ℕ → List ℕ → List ℕ → Type 0
TagEnd w s r = (n : ℕ) × (m : List ℕ) × Spaces n s m
    × ((m ≡ 62 ∷ r) ⊎ ((is_void w ≡ true) × (m ≡ 47 ∷ 62 ∷ r)))

abbrev pub StartTag : List ℕ → List Attribute → List ℕ → List ℕ → Type 0
StartTag w ts s r =
    (a : List ℕ) × (b : List ℕ) × (m : List ℕ)
    × (s ≡ 60 ∷ a) × ElementName w a b × (is_refused w ≡ false) × Attributes [] ts b m
    × TagEnd w m r

abbrev pub NameAgain : List ℕ → List ℕ → List ℕ → Type 0
NameAgain [] s r = s ≡ r
NameAgain (x ∷ xs) s r = (b : ℕ) × (m : List ℕ) × (s ≡ b ∷ m) × (lower b ≡ x) × NameAgain xs m r

-- `</name>`
abbrev pub EndTag : List ℕ → List ℕ → List ℕ → Type 0
EndTag w s r = (a : List ℕ) × (b : List ℕ) × (n : ℕ) × (s ≡ 60 ∷ 47 ∷ a) × NameAgain w a b
    × Spaces n b (62 ∷ r)

abbrev pub begins_with : List ℕ → List ℕ → Bool
begins_with [] s = true
begins_with (x ∷ xs) [] = false
begins_with (x ∷ xs) (y ∷ ys) = y == x && begins_with xs ys

abbrev pub starts_close : List ℕ → Bool
starts_close s = begins_with (45 ∷ 45 ∷ 62 ∷ []) s

-- text up to the first `-->`, and that
abbrev pub CommentText : List ℕ → List ℕ → List ℕ → Type 0
CommentText [] s r = s ≡ 45 ∷ 45 ∷ 62 ∷ r
CommentText (x ∷ xs) s r =
    (m : List ℕ) × (s ≡ x ∷ m) × (starts_close s ≡ false) × CommentText xs m r

-- Completes, with d levels left for them, labels from n on and all below c. Text is a maximal run.
abbrev pub Content : (d c n : ℕ) → Siblings → List ℕ → List ℕ → Type 0
Content d c n Nil s r = s ≡ r
Content d c n (TextNode l t f) s r =
    (m : List ℕ) × (l ≡ n) × (n < c) × (0 < d) × (0 < length t) × NotText f × Text 60 t s m
    × Content d c (suc n) f m r
Content d c n (CommentNode l t f) s r =
    (a : List ℕ) × (m : List ℕ) × (l ≡ n) × (n < c) × (0 < d) × (s ≡ 60 ∷ 33 ∷ 45 ∷ 45 ∷ a)
    × CommentText t a m
    × Content d c (suc n) f m r
Content d c n (ElementNode l w ts k f) s r =
    (a : List ℕ) × (b : List ℕ) × (m : List ℕ) × (l ≡ n) × (n < c) × (0 < d)
    × StartTag w ts s a
    × MatchBool (is_void w) (IsNil k × (a ≡ m)) (Content (pred d) c (suc n) k a b × EndTag w b m)
    × Content d c (suc n + size k) f m r

-- the characters stand for these children
abbrev pub Page : (d c : ℕ) → List ℕ → Siblings → Type 0
Page d c s f = Content d c 1 f s []

abbrev pub IsPage : (d c : ℕ) → List ℕ → Type 0
IsPage d c s = (f : Siblings) × Page d c s f

abbrev pub IsPagePrefix : (d c : ℕ) → List ℕ → Type 0
IsPagePrefix d c p = (q : List ℕ) × IsPage d c (p ++ q)

-- the length of the longest prefix of s that is a prefix of some page
pub record IsPlace (d c : ℕ) (s : List ℕ) (k : ℕ) : Type 0 where
  pub within : k ≤ length s
  pub here : IsPagePrefix d c (take k s)
  pub longest : (j : ℕ) → j ≤ length s → IsPagePrefix d c (take j s) → j ≤ k
