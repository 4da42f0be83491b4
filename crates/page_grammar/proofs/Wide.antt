-- Characters past ASCII: where the machine takes them.
use Rattle.std.proofs.Common.{◌≡◌, ℕ, ◌≤◌, Bool, true, false, ◌&&◌, List, [], ◌∷◌, Option, Some, None, refl, arith}
use Rattle.std.specs.Prelude.{nat_lt, nat_le, ◌==◌, if◌then◌else◌}
use Rattle.std.proofs.lemmas.Bool.Decides.{nat_tests}
use Rattle.page_grammar.specs.Chars.{is_space, lower, is_letter, is_digit, is_name_char, is_control, is_attribute_name_char, is_quote, is_hex, Entity, entities}
use Rattle.page_grammar.specs.Names.{is_refused}
use Rattle.page_grammar.specs.Page.{Attribute}
use Rattle.page_grammar.specs.Machine.{Reference, Amp, Named, Hash, Dec, HexMark, Hex, Stop, after_one, after_char, ref_step, Lexical, Data, InText, TextReference, TagOpen, MarkupDeclaration, CommentStart, InComment, TagName, BeforeAttributeName, AttributeName, AfterAttributeName, BeforeAttributeValue, InAttributeValue, ValueReference, AfterAttributeValue, SelfClosing, EndTagName, AfterEndTagName, Machine, has_room, tag_end, step_at}
use Rattle.page_grammar.specs.Reader.{takes_wide_at}
use Rattle.page_grammar.proofs.LongestPrefix.{LiveAt, NoSemi, NoSemis, ReferenceLive, entities_semis, some_semis}

pub far : (x k : ℕ) → 128 ≤ x → nat_lt k 128 ≡ true → (x == k) ≡ false
far x k h l = grind (arith, nat_tests)

space_wide : (x : ℕ) → 128 ≤ x → is_space x ≡ false
unfolding is_space
space_wide x h = grind (arith, nat_tests)

lower_wide : (x : ℕ) → 128 ≤ x → lower x ≡ x
unfolding lower
lower_wide x h = let k : nat_le x 90 ≡ false = grind (arith, nat_tests) in rw (k, and_no (nat_le 65 x)) refl
  where
    and_no : (t : Bool) → (t && false) ≡ false
    and_no true = refl
    and_no false = refl

pub letter_wide : (x : ℕ) → 128 ≤ x → is_letter x ≡ false
unfolding is_letter lower
letter_wide x h = grind (arith, nat_tests)

digit_wide : (x : ℕ) → 128 ≤ x → is_digit x ≡ false
unfolding is_digit
digit_wide x h = grind (arith, nat_tests)

hex_wide : (x : ℕ) → 128 ≤ x → is_hex x ≡ false
unfolding is_hex is_digit lower
hex_wide x h = grind (arith, nat_tests)

pub name_wide : (x : ℕ) → 128 ≤ x → is_name_char x ≡ false
unfolding is_name_char is_letter is_digit lower
name_wide x h = grind (arith, nat_tests)

quote_wide : (x : ℕ) → 128 ≤ x → is_quote x ≡ false
unfolding is_quote
quote_wide x h = grind (arith, nat_tests)

attribute_name_wide : (x : ℕ) → 160 ≤ x → is_attribute_name_char x ≡ true
unfolding is_attribute_name_char is_space is_control
attribute_name_wide x h = grind (arith, nat_tests)

-- references are ASCII

no_one : (b : ℕ) (name : List ℕ) (x : ℕ) → 128 ≤ b → NoSemi name → after_one b name x [] ≡ []
no_one b [] x h k = refl
no_one b (y ∷ ys) x h k = rw (far b y h k.1) refl

no_entity : (b : ℕ) (es : List Entity) → 128 ≤ b → NoSemis es → after_char b es ≡ []
no_entity b [] h k = refl
no_entity b (e ∷ es) h k = rw (no_entity b es h k.1) (no_one b e.name e.char h k.0)

ref_wide : (p : Reference) (x : ℕ) → ReferenceLive p → 128 ≤ x → ref_step p x ≡ Stop
ref_wide Amp x k h = rw (far x 35 h refl, far x 59 h refl, no_entity x entities h entities_semis) refl
ref_wide (Named es) x k h = rw (far x 59 h refl, no_entity x es h (some_semis es k)) refl
ref_wide Hash x k h = rw (digit_wide x h, lower_wide x h, far x 120 h refl) refl
ref_wide (Dec v) x k h = rw (digit_wide x h, far x 59 h refl) refl
ref_wide HexMark x k h = rw (hex_wide x h) refl
ref_wide (Hex v) x k h = rw (hex_wide x h, far x 59 h refl) refl

tag_end_wide : (m : Machine) (w : List ℕ) (ts : List Attribute) (x : ℕ) → 128 ≤ x → tag_end m w ts x ≡ None
tag_end_wide m w ts x h = rw (far x 62 h refl, far x 47 h refl) refl

if_same : {A : Type 0} (t : Bool) (a : A) → (if t then a else a) ≡ a
if_same true a = refl
if_same false a = refl

-- where it takes none
pub wide_none : (c : ℕ) (l : Lexical) (m : Machine) (x : ℕ) → LiveAt c l m → 128 ≤ x → takes_wide_at c m l ≡ false → step_at c m l x ≡ None
wide_none c Data m x v h k = rw (far x 60 h refl, k) refl
wide_none c (InText t) m x v h k = cc
wide_none c (TextReference t p) m x v h k = rw (ref_wide p x v.state h) refl
wide_none c TagOpen m x v h k = rw (far x 47 h refl, far x 33 h refl, letter_wide x h) (if_same (has_room c m) None)
wide_none c MarkupDeclaration m x v h k = rw (far x 45 h refl) refl
wide_none c CommentStart m x v h k = rw (far x 45 h refl) refl
wide_none c (InComment t n) m x v h k = cc
wide_none c (TagName w) m x v h k = rw (name_wide x h, space_wide x h, tag_end_wide m w [] x h) (if_same (is_refused w) None)
wide_none c (BeforeAttributeName w ts) m x v h k = cc
wide_none c (AttributeName w ts n) m x v h k = cc
wide_none c (AfterAttributeName w ts n) m x v h k = cc
wide_none c (BeforeAttributeValue w ts n) m x v h k = rw (space_wide x h, quote_wide x h) refl
wide_none c (InAttributeValue w ts n q t) m x v h k = cc
wide_none c (ValueReference w ts n q t p) m x v h k = rw (ref_wide p x v.state.0 h) refl
wide_none c (AfterAttributeValue w ts) m x v h k = rw (space_wide x h) (tag_end_wide m w ts x h)
wide_none c (SelfClosing w ts) m x v h k = rw (far x 62 h refl) refl
wide_none c (EndTagName []) m x v h k = rw (space_wide x h, far x 62 h refl) refl
wide_none c (EndTagName (y ∷ ys)) m x v h k = rw (lower_wide x h, far x y h v.name.1) refl
wide_none c AfterEndTagName m x v h k = rw (space_wide x h, far x 62 h refl) refl

abbrev pub Taken : Option Machine → Type 0
Taken o = (m1 : Machine) × (o ≡ Some m1)

some_if : (t : Bool) (a b : Machine) → Taken (if t then Some a else Some b)
some_if true a b = (a, refl)
some_if false a b = (b, refl)

taken : (m : Machine) → Taken (Some m)
taken m = (m, refl)

-- where it takes all but controls
pub wide_some : (c : ℕ) (l : Lexical) (m : Machine) (x : ℕ) → 128 ≤ x → 160 ≤ x → takes_wide_at c m l ≡ true → Taken (step_at c m l x)
wide_some c Data m x h big k = rw (far x 60 h refl, k) (taken _)
wide_some c (InText t) m x h big k = rw (far x 60 h refl) (taken _)
wide_some c (InComment t n) m x h big k = rw (far x 45 h refl, far x 62 h refl) (taken _)
wide_some c (BeforeAttributeName w ts) m x h big k = rw (space_wide x h, attribute_name_wide x big) (taken _)
wide_some c (AttributeName w ts n) m x h big k = rw (attribute_name_wide x big) (taken _)
wide_some c (AfterAttributeName w ts n) m x h big k = rw (space_wide x h, far x 61 h refl, attribute_name_wide x big) (taken _)
wide_some c (InAttributeValue w ts n q t) m x h big k = some_if (x == q) _ _
wide_some c l m x h big k = cc
