-- A machine that reads a page character by character. Its states bear the names of those of the
-- HTML Standard's tokenizer (13.2.5) where they are alike; it refuses a character exactly where no
-- page goes on with it.
use Rattle.std.specs.Prelude.{ℕ, suc, pred, ◌+◌, ◌*◌, Bool, true, false, ◌&&◌, ◌||◌, nat_lt, nat_le, ◌==◌, if◌then◌else◌, List, [], ◌∷◌, ◌++◌, Option, Some, None}
use Rattle.page_grammar.specs.Chars.{is_space, lower, is_letter, is_digit, is_name_char, is_attribute_name_char, is_quote, Entity, entity, entities, is_referable, is_hex, digit_of}
use Rattle.page_grammar.specs.Names.{is_void, is_refused}
use Rattle.page_grammar.specs.Page.{Attribute, Siblings, Nil, TextNode, CommentNode, ElementNode, has_attribute}

-- what is emitted of a tree, in tree order
pub data Event : Type 0 where
  TextEvent : (text : List ℕ) → Event
  CommentEvent : (text : List ℕ) → Event
  OpenEvent : (name : List ℕ) (attributes : List Attribute) → Event
  CloseEvent : Event

abbrev pub events : Siblings → List Event
events Nil = []
events (TextNode l t f) = TextEvent t ∷ events f
events (CommentNode l t f) = CommentEvent t ∷ events f
events (ElementNode l w ts k f) = OpenEvent w ts ∷ (events k ++ CloseEvent ∷ events f)

-- how far a reference is read
pub data Reference : Type 0 where
  Amp : Reference
  Named : (left : List Entity) → Reference
  Hash : Reference
  Dec : (value : ℕ) → Reference
  HexMark : Reference
  Hex : (value : ℕ) → Reference

pub data Turn : Type 0 where
  Stop : Turn
  More : (ref : Reference) → Turn
  Done : (char : ℕ) → Turn

-- what is left of the names that begin with this character
abbrev pub after_one : ℕ → List ℕ → ℕ → List Entity → List Entity
after_one b [] x es = es
after_one b (y ∷ ys) x es = if b == y then entity ys x ∷ es else es

abbrev pub after_char : ℕ → List Entity → List Entity
after_char b [] = []
after_char b (e ∷ es) = after_one b e.name e.char (after_char b es)

abbrev pub whole_one : List ℕ → ℕ → Turn → Turn
whole_one [] x o = Done x
whole_one (y ∷ ys) x o = o

abbrev pub whole : List Entity → Turn
whole [] = Stop
whole (e ∷ es) = whole_one e.name e.char (whole es)

abbrev pub more_named : List Entity → Turn
more_named [] = Stop
more_named (e ∷ es) = More (Named (e ∷ es))

abbrev pub named : List Entity → ℕ → Turn
named es b = if b == 59 then whole es else more_named (after_char b es)

abbrev pub dec : ℕ → Turn
dec v = if nat_le v 1114111 then More (Dec v) else Stop

abbrev pub hex : ℕ → Turn
hex v = if nat_le v 1114111 then More (Hex v) else Stop

abbrev pub done : ℕ → ℕ → Turn
done v b = if b == 59 && is_referable v then Done v else Stop

abbrev pub ref_step : Reference → ℕ → Turn
ref_step Amp b = if b == 35 then More Hash else named entities b
ref_step (Named es) b = named es b
ref_step Hash b = if is_digit b then dec (0 * 10 + digit_of b)
    else (if lower b == 120 then More HexMark else Stop)
ref_step (Dec v) b = if is_digit b then dec (v * 10 + digit_of b) else done v b
ref_step HexMark b = if is_hex b then hex (0 * 16 + digit_of b) else Stop
ref_step (Hex v) b = if is_hex b then hex (v * 16 + digit_of b) else done v b

-- how many dashes stand at the end of a comment so far
pub data Dashes : Type 0 where
  NoDash : Dashes
  OneDash : Dashes
  TwoDashes : Dashes

abbrev pub dashes : Dashes → List ℕ
dashes NoDash = []
dashes OneDash = 45 ∷ []
dashes TwoDashes = 45 ∷ 45 ∷ []

abbrev pub is_two : Dashes → Bool
is_two NoDash = false
is_two OneDash = false
is_two TwoDashes = true

-- where in a token the machine stands, and what it has read of it
pub data Lexical : Type 0 where
  Data : Lexical
  InText : (text : List ℕ) → Lexical
  TextReference : (text : List ℕ) (ref : Reference) → Lexical
  TagOpen : Lexical
  MarkupDeclaration : Lexical
  CommentStart : Lexical
  -- the comment's text so far, and how many dashes after it
  InComment : (text : List ℕ) (dashes : Dashes) → Lexical
  TagName : (tag : List ℕ) → Lexical
  BeforeAttributeName : (tag : List ℕ) (seen : List Attribute) → Lexical
  AttributeName : (tag : List ℕ) (seen : List Attribute) (name : List ℕ) → Lexical
  AfterAttributeName : (tag : List ℕ) (seen : List Attribute) (name : List ℕ) → Lexical
  BeforeAttributeValue : (tag : List ℕ) (seen : List Attribute) (name : List ℕ) → Lexical
  InAttributeValue : (tag : List ℕ) (seen : List Attribute) (name : List ℕ) (quote : ℕ)
      (value : List ℕ) → Lexical
  ValueReference : (tag : List ℕ) (seen : List Attribute) (name : List ℕ) (quote : ℕ)
      (value : List ℕ)
      (ref : Reference) → Lexical
  AfterAttributeValue : (tag : List ℕ) (seen : List Attribute) → Lexical
  SelfClosing : (tag : List ℕ) (seen : List Attribute) → Lexical
  EndTagName : (left : List ℕ) → Lexical
  AfterEndTagName : Lexical

-- The names of the open elements, innermost first; how many levels are left below the innermost
-- (less one inside a start tag); the next label; and what is emitted so far.
pub record Machine : Type 0 where
  pub lex : Lexical
  pub opened : List (List ℕ)
  pub room : ℕ
  pub next : ℕ
  pub out : List Event

abbrev pub start : ℕ → Machine
start d = record { lex = Data; opened = []; room = d; next = 1; out = [] }

-- the machine with this lexical state
abbrev pub at : Machine → Lexical → Machine
at m l = record m { lex = l }

-- may a node be made here
abbrev pub has_room : ℕ → Machine → Bool
has_room c m = nat_lt m.next c && nat_lt 0 m.room

abbrev pub is_some_open : List (List ℕ) → Bool
is_some_open [] = false
is_some_open (w ∷ ws) = true

-- a `<` between the tokens
abbrev pub less : ℕ → Machine → Option Machine
less c m = if has_room c m || is_some_open m.opened then Some (at m TagOpen) else None

-- a leaf has ended: text, a comment
abbrev pub after_leaf : Machine → Event → Machine
after_leaf m e = record m { lex = Data; next = suc m.next; out = m.out ++ e ∷ [] }

-- a level is taken for an element
abbrev pub entered : Machine → Machine
entered m = record m { room = pred m.room }

-- a `<` and a letter
abbrev pub begin_tag : Machine → ℕ → Machine
begin_tag m b = at (entered m) (TagName (lower b ∷ []))

abbrev pub after_start : Machine → List ℕ → List Attribute → Machine
after_start m w ts = record m {
  lex = Data;
  opened = w ∷ m.opened;
  next = suc m.next;
  out = m.out ++ OpenEvent w ts ∷ [];
}

-- a void element has no end tag
abbrev pub after_void : Machine → List ℕ → List Attribute → Machine
after_void m w ts = record m {
  lex = Data;
  room = suc m.room;
  next = suc m.next;
  out = m.out ++ OpenEvent w ts ∷ CloseEvent ∷ [];
}

abbrev pub started : Machine → List ℕ → List Attribute → Machine
started m w ts = if is_void w then after_void m w ts else after_start m w ts

abbrev pub after_end : Machine → Machine
after_end m = record m { lex = Data; room = suc m.room; out = m.out ++ CloseEvent ∷ [] }

abbrev pub slash : Machine → List (List ℕ) → Option Machine
slash m [] = None
slash m (w ∷ ws) = Some (record m { lex = EndTagName w; opened = ws })

abbrev pub attribute : List ℕ → List ℕ → Attribute
attribute k v = record { name = k; value = v }

-- with one more attribute
abbrev pub with_attribute : List Attribute → List ℕ → List ℕ → List Attribute
with_attribute ts k v = ts ++ attribute k v ∷ []

-- the end of a start tag, where one may stand
abbrev pub tag_end : Machine → List ℕ → List Attribute → ℕ → Option Machine
tag_end m w ts b = if b == 62 then Some (started m w ts) else (if b == 47 && is_void w
    then Some (at m (SelfClosing w ts)) else None)

abbrev pub ref_turn : Machine → (Reference → Lexical) → (ℕ → Lexical) → Turn → Option Machine
ref_turn m more end Stop = None
ref_turn m more end (More r) = Some (at m (more r))
ref_turn m more end (Done x) = Some (at m (end x))

abbrev pub dash : List ℕ → Dashes → Lexical
dash t NoDash = InComment t OneDash
dash t OneDash = InComment t TwoDashes
dash t TwoDashes = InComment (t ++ 45 ∷ []) TwoDashes

abbrev pub step_at : ℕ → Machine → Lexical → ℕ → Option Machine
step_at c m Data b =
    if b == 60 then less c m else (if has_room c m then Some
    (at m (if b == 38 then TextReference [] Amp else InText (b ∷ []))) else None)
step_at c m (InText t) b =
    if b == 60 then less c (after_leaf m (TextEvent t)) else Some
    (at m (if b == 38 then TextReference t Amp else InText (t ++ b ∷ [])))
step_at c m (TextReference t r) b =
    ref_turn m (λ q. TextReference t q) (λ x. InText (t ++ x ∷ [])) (ref_step r b)
step_at c m TagOpen b =
    if b == 47 then slash m m.opened
    else (if has_room c m then (if b == 33 then Some (at m MarkupDeclaration)
    else (if is_letter b then Some (begin_tag m b) else None)) else None)
step_at c m MarkupDeclaration b = if b == 45 then Some (at m CommentStart) else None
step_at c m CommentStart b = if b == 45 then Some (at m (InComment [] NoDash)) else None
step_at c m (InComment t n) b =
    if b == 45 then Some (at m (dash t n)) else (if b == 62 && is_two n
    then Some (after_leaf m (CommentEvent t))
    else Some (at m (InComment (t ++ (dashes n ++ b ∷ [])) NoDash)))
step_at c m (TagName w) b =
    if is_name_char b then Some (at m (TagName (w ++ lower b ∷ [])))
    else (if is_refused w then None else (if is_space b then Some (at m (BeforeAttributeName w []))
    else tag_end m w [] b))
step_at c m (BeforeAttributeName w ts) b =
    if is_space b then Some (at m (BeforeAttributeName w ts))
    else (if is_attribute_name_char b then Some (at m (AttributeName w ts (lower b ∷ [])))
    else tag_end m w ts b)
step_at c m (AttributeName w ts k) b =
    if is_attribute_name_char b then Some (at m (AttributeName w ts (k ++ lower b ∷ [])))
    else (if has_attribute ts k then None
    else (if is_space b then Some (at m (AfterAttributeName w ts k))
    else (if b == 61 then Some (at m (BeforeAttributeValue w ts k))
    else tag_end m w (with_attribute ts k []) b)))
step_at c m (AfterAttributeName w ts k) b =
    if is_space b then Some (at m (AfterAttributeName w ts k))
    else (if b == 61 then Some (at m (BeforeAttributeValue w ts k))
    else (if is_attribute_name_char b then Some (at m (AttributeName w (with_attribute ts k [])
    (lower b ∷ []))) else tag_end m w (with_attribute ts k []) b))
step_at c m (BeforeAttributeValue w ts k) b =
    if is_space b then Some (at m (BeforeAttributeValue w ts k))
    else (if is_quote b then Some (at m (InAttributeValue w ts k b [])) else None)
step_at c m (InAttributeValue w ts k q v) b =
    if b == q then Some (at m (AfterAttributeValue w (with_attribute ts k v)))
    else Some (at m (if b == 38 then ValueReference w ts k q v Amp
    else InAttributeValue w ts k q (v ++ b ∷ [])))
step_at c m (ValueReference w ts k q v r) b = ref_turn m (λ p. ValueReference w ts k q v p)
    (λ x. InAttributeValue w ts k q (v ++ x ∷ [])) (ref_step r b)
step_at c m (AfterAttributeValue w ts) b = if is_space b then Some (at m (BeforeAttributeName w ts))
    else tag_end m w ts b
step_at c m (SelfClosing w ts) b = if b == 62 then Some (started m w ts) else None
step_at c m (EndTagName []) b = if is_space b then Some (at m AfterEndTagName)
    else (if b == 62 then Some (after_end m) else None)
step_at c m (EndTagName (x ∷ xs)) b = if lower b == x then Some (at m (EndTagName xs)) else None
step_at c m AfterEndTagName b = if is_space b then Some (at m AfterEndTagName)
    else (if b == 62 then Some (after_end m) else None)

abbrev pub step : ℕ → Machine → ℕ → Option Machine
step c m b = step_at c m m.lex b

abbrev pub then_run : Option Machine → (Machine → Option Machine) → Option Machine
then_run None k = None
then_run (Some m) k = k m

abbrev pub run : ℕ → Machine → List ℕ → Option Machine
run c m [] = Some m
run c m (b ∷ s) = then_run (step c m b) (λ m1. run c m1 s)

abbrev pub is_none_open : List (List ℕ) → Type 0
is_none_open [] = Unit {0}
is_none_open (w ∷ ws) = ⊥

-- between tokens, or in a run of text
abbrev pub IsReady : Lexical → Type 0
IsReady Data = Unit {0}
IsReady (InText t) = Unit {0}
IsReady l = ⊥

abbrev pub IsEnd : Machine → Type 0
IsEnd m = IsReady m.lex × is_none_open m.opened

abbrev pub flushed_at : Lexical → Machine → Machine
flushed_at (InText t) m = after_leaf m (TextEvent t)
flushed_at l m = m

abbrev pub flushed : Machine → Machine
flushed m = flushed_at m.lex m

abbrev pub emitted : Machine → List Event
emitted m = (flushed m).out

-- the machine without what it has emitted
abbrev pub quiet : Machine → Machine
quiet m = record m { out = [] }

-- what it comes to, o having been emitted before
abbrev pub after_emitting : List Event → Option Machine → Option Machine
after_emitting o None = None
after_emitting o (Some m) = Some (record m { out = o ++ m.out })
