-- The place and the kind of a fault, computed.
use Rattle.std.specs.Prelude.{ℕ, suc, Bool, false, not, ◌||◌, ◌&&◌, ◌==◌, nat_lt, nat_le, if◌then◌else◌, List, [], ◌∷◌, length, Option, Some, None}
use Rattle.page_grammar.specs.Chars.{is_letter}
use Rattle.page_grammar.specs.Names.{is_refused}
use Rattle.page_grammar.specs.Page.{has_attribute}
use Rattle.page_grammar.specs.Decoder.{Pending, Decoded, Bad, Part, Whole, decode}
use Rattle.page_grammar.specs.Machine.{Lexical, Data, InText, TextReference, TagOpen, MarkupDeclaration, CommentStart, TagName, AttributeName, ValueReference, EndTagName, AfterEndTagName, Machine, is_some_open}
use Rattle.page_grammar.specs.Reader.{Reader, begin, between, takes_wide, read_byte}

pub data Kind : Type 0 where
  TooLong : Kind
  Unclosed : Kind
  NotUtf8 : Kind
  TooDeep : Kind
  Full : Kind
  UnsupportedElement : Kind
  RepeatedAttribute : Kind
  UnknownReference : Kind
  StrayEnd : Kind
  BadAttribute : Kind
  BadTag : Kind

-- how many bytes a page may have
abbrev pub page_limit : ℕ
page_limit = 4194304

-- b makes a node certain
abbrev pub begins_node : Lexical → Machine → ℕ → Bool
begins_node Data m b = not (b == 60) || not (is_some_open m.opened)
begins_node (InText t) m b = b == 60 && not (is_some_open m.opened)
begins_node TagOpen m b = b == 33 || is_letter b
begins_node l m b = false

-- there is no place for that node
abbrev pub no_room : Machine → Kind
no_room m = if nat_lt 0 m.room then Full else TooDeep

-- b is refused here, whatever the limits
abbrev pub misplaced : Lexical → ℕ → Kind
misplaced (TagName w) b = if is_refused w then UnsupportedElement else BadAttribute
misplaced (AttributeName w ts k) b = if has_attribute ts k then RepeatedAttribute else BadAttribute
misplaced (TextReference t p) b = UnknownReference
misplaced (ValueReference w ts k q v p) b = UnknownReference
misplaced (EndTagName left) b = StrayEnd
misplaced AfterEndTagName b = StrayEnd
misplaced TagOpen b = if b == 47 then StrayEnd else BadTag
misplaced MarkupDeclaration b = BadTag
misplaced CommentStart b = BadTag
misplaced l b = BadAttribute

abbrev pub kind_at : Machine → ℕ → Kind
kind_at m b = if begins_node m.lex m b then no_room m else misplaced m.lex b

abbrev pub kind_decoded : Machine → ℕ → Decoded → Kind
kind_decoded m b Bad = NotUtf8
kind_decoded m b (Part p) = kind_at m b
kind_decoded m b (Whole x) = kind_at m b

-- b is the byte that the reader refuses
abbrev pub kind_of_byte : Reader → ℕ → Kind
kind_of_byte r b = kind_decoded r.machine b (decode r.part b)

abbrev pub fault_next : Option Reader → (Reader → Option (ℕ × Kind)) → ℕ × Kind → Option (ℕ × Kind)
fault_next None go here = Some here
fault_next (Some r) go here = go r

-- the bytes end after n of them
abbrev pub fault_at_end : Option Pending → Lexical → List (List ℕ) → ℕ → Option (ℕ × Kind)
fault_at_end None Data [] n = None
fault_at_end None (InText t) [] n = None
fault_at_end part l ws n = Some (n, Unclosed)

-- n bytes are read, and s follows
abbrev pub fault_from : ℕ → Reader → ℕ → List ℕ → Option (ℕ × Kind)
fault_from c r n [] = fault_at_end r.part r.machine.lex r.machine.opened n
fault_from c r n (b ∷ s) =
    fault_next (read_byte c r b) (λ r1. fault_from c r1 (suc n) s) (n, kind_of_byte r b)

-- What stands in the way where the machine has read n bytes of whole characters and rest follows:
-- so a scanner of characters computes its answer.
abbrev pub refusal : ℕ → Machine → ℕ → List ℕ → Option (ℕ × Kind)
refusal c m n rest = fault_from c (between m) n rest

-- Where a refused character is refused, n bytes being before it: at its second byte where its first
-- can go on. Only controls from U+0080 to U+009F in a start tag behind its name can: C2 goes on
-- there, to characters that may stand in an attribute's name.
abbrev pub refused_place : ℕ → Machine → ℕ → ℕ → ℕ
refused_place c m n x = if takes_wide c m && nat_le 128 x then suc n else n

-- the place and the kind, or None for a page of any length
abbrev pub text_fault : (d c : ℕ) → List ℕ → Option (ℕ × Kind)
text_fault d c s = fault_from c (begin d) 0 s

abbrev pub page_fault : (d c : ℕ) → List ℕ → Option (ℕ × Kind)
page_fault d c s =
    if nat_lt page_limit (length s) then Some (page_limit, TooLong) else text_fault d c s
