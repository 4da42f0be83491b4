-- Where the machine stops is the end of the longest prefix that is a prefix of some page.
use Rattle.std.proofs.Common.{◌≡◌, ℕ, zero, suc, ◌+◌, ◌*◌, ◌<◌, ◌≤◌, Bool, true, false, ◌&&◌, ◌||◌, ◌⊎◌, inl, inr, List, [], ◌∷◌, ◌++◌, length, Option, Some, None, refl, sym, ap, ◌∙◌, subst, arith, length-append, eq-eqb}
use Rattle.std.specs.Prelude.{nat_lt, nat_le, ◌==◌, if◌then◌else◌}
use Rattle.std.proofs.lemmas.Bool.{cases_Bool}
use Rattle.std.proofs.lemmas.Slice.Eq.{bytes_eq-Decides}
use Rattle.std.specs.Str.{bytes_eq}
use Rattle.page_grammar.specs.Chars.{is_space, lower, is_letter, is_digit, is_name_char, is_attribute_name_char, is_quote, Entity, entity, entities, is_referable, is_hex, digit_of}
use Rattle.page_grammar.specs.Names.{is_void, is_refused}
use Rattle.page_grammar.specs.Page.{Attribute, AttributeNameChars, has_attribute, NameAgain, EndTag}
use Rattle.page_grammar.specs.Machine.{Event, TextEvent, CommentEvent, Reference, Amp, Named, Hash, Dec, HexMark, Hex, Turn, Stop, More, Done, after_one, after_char, whole_one, whole, more_named, named, dec, hex, done, ref_step, Lexical, Data, InText, TextReference, TagOpen, MarkupDeclaration, CommentStart, InComment, TagName, BeforeAttributeName, AttributeName, AfterAttributeName, BeforeAttributeValue, InAttributeValue, ValueReference, AfterAttributeValue, SelfClosing, EndTagName, AfterEndTagName, Machine, start, at, has_room, is_some_open, less, after_leaf, after_start, entered, begin_tag, after_void, started, after_end, slash, with_attribute, tag_end, ref_turn, Dashes, NoDash, OneDash, TwoDashes, is_two, dash, dashes, step_at, step, then_run, run, IsReady, IsEnd, flushed}
use Rattle.page_grammar.proofs.Facts.{On, on_if, if_both, on_get, then_some, digit_59, hex_59, name_62, space_62, referable_bound, le_test}
use Rattle.std.proofs.lemmas.Bool.{cases_lt}
use Rattle.std.proofs.lemmas.List.{take-append-drop, length-replicate}
use Rattle.std.specs.Prelude.{replicate, take, drop, codes}
use Rattle.page_grammar.specs.Page.{IsPagePrefix, IsPlace, Siblings, Page}
use Rattle.page_grammar.proofs.Facts.{lower_lower, lower_97, key_97, letter_97, name_45, lower_45, quote_34, space_34, refused_dash, void_a, refused_a, digit_49, digit_48, hex_49, hex_48, digit_of_49, digit_of_48, referable_1, referable_10, referable_16, test_le}
use Rattle.page_grammar.proofs.Complete.{feed, feed_run, end_tag, end_run, again_run, key_run, at_name, at_key, at_gap, after_key, tagged_62, spaced_62, flushed_opened, page_read}
use Rattle.std.proofs.Math.Utf8.{scalar, scalars}
use Rattle.page_grammar.proofs.Facts.{name_ascii, letter_ascii, ascii_scalar, both_true, scalars_app, quote_scalar, scalars_as}
use Rattle.page_grammar.proofs.Sound.{page_only}

abbrev pub Lowered : List ℕ → Type 0
Lowered [] = Unit {0}
Lowered (x ∷ xs) = (lower x ≡ x) × (nat_lt x 128 ≡ true) × Lowered xs

abbrev pub LoweredAll : List (List ℕ) → Type 0
LoweredAll [] = Unit {0}
LoweredAll (w ∷ ws) = Lowered w × LoweredAll ws

lowered_more : (w : List ℕ) (b : ℕ) → is_name_char b ≡ true → Lowered w → Lowered (w ++ lower b ∷ [])
lowered_more [] b k h = (lower_lower b, name_ascii b k, tt)
lowered_more (x ∷ xs) b k h = (h.0, h.1, lowered_more xs b k h.2)

lowered_scalars : (w : List ℕ) → Lowered w → scalars w ≡ true
lowered_scalars [] h = refl
lowered_scalars (x ∷ xs) h = both_true (scalar x) (scalars xs) (ascii_scalar x h.1) (lowered_scalars xs h.2)

-- the name that is being read
abbrev pub lex_name : Lexical → List ℕ
lex_name (TagName w) = w
lex_name (BeforeAttributeName w ts) = w
lex_name (AttributeName w ts k) = w
lex_name (AfterAttributeName w ts k) = w
lex_name (BeforeAttributeValue w ts k) = w
lex_name (InAttributeValue w ts k q v) = w
lex_name (ValueReference w ts k q v p) = w
lex_name (AfterAttributeValue w ts) = w
lex_name (SelfClosing w ts) = w
lex_name (EndTagName left) = left
lex_name l = []

abbrev pub NoSemi : List ℕ → Type 0
NoSemi [] = Unit {0}
NoSemi (x ∷ xs) = ((x == 59) ≡ false) × (nat_lt x 128 ≡ true) × NoSemi xs

abbrev pub NoSemis : List Entity → Type 0
NoSemis [] = Unit {0}
NoSemis (e ∷ es) = NoSemi e.name × NoSemis es

abbrev pub SomeName : List Entity → Type 0
SomeName [] = ⊥
SomeName (e ∷ es) = NoSemis (e ∷ es)

-- a reference can be completed
abbrev pub ReferenceLive : Reference → Type 0
ReferenceLive Amp = Unit {0}
ReferenceLive (Named es) = SomeName es
ReferenceLive Hash = Unit {0}
ReferenceLive (Dec v) = v ≤ 1114111
ReferenceLive HexMark = Unit {0}
ReferenceLive (Hex v) = v ≤ 1114111

abbrev pub state_live : ℕ → Machine → Lexical → Type 0
state_live c m TagOpen = (has_room c m || is_some_open m.opened) ≡ true
state_live c m (TextReference t p) = ReferenceLive p
state_live c m (InAttributeValue w ts k q v) = scalar q ≡ true
state_live c m (ValueReference w ts k q v p) = ReferenceLive p × (scalar q ≡ true)
state_live c m l = Unit {0}

pub record LiveAt (c : ℕ) (l : Lexical) (m : Machine) : Type 0 where
  pub name : Lowered (lex_name l)
  pub names : LoweredAll m.opened
  pub state : state_live c m l

abbrev pub Live : ℕ → Machine → Type 0
Live c m = LiveAt c m.lex m

abbrev pub TurnLive : Turn → Type 0
TurnLive Stop = Unit {0}
TurnLive (More q) = ReferenceLive q
TurnLive (Done x) = Unit {0}

turn_live : (t : Bool) (x y : Turn) → (t ≡ true → TurnLive x) → (t ≡ false → TurnLive y) → TurnLive (if t then x else y)
turn_live true x y f g = f refl
turn_live false x y f g = g refl

one_semis : (b : ℕ) (name : List ℕ) (x : ℕ) (es : List Entity) → NoSemi name → NoSemis es → NoSemis (after_one b name x es)
one_semis b [] x es h k = k
one_semis b (y ∷ ys) x es h k = go (b == y)
  where
    go : (t : Bool) → NoSemis (if t then entity ys x ∷ es else es)
    go true = (h.2, k)
    go false = k

char_semis : (b : ℕ) (es : List Entity) → NoSemis es → NoSemis (after_char b es)
char_semis b [] h = tt
char_semis b (e ∷ es) h = one_semis b e.name e.char (after_char b es) h.0 (char_semis b es h.1)

more_live : (es : List Entity) → NoSemis es → TurnLive (more_named es)
more_live [] h = tt
more_live (e ∷ es) h = h

whole_live_one : (name : List ℕ) (x : ℕ) (o : Turn) → TurnLive o → TurnLive (whole_one name x o)
whole_live_one [] x o h = tt
whole_live_one (y ∷ ys) x o h = h

whole_live : (es : List Entity) → TurnLive (whole es)
whole_live [] = tt
whole_live (e ∷ es) = whole_live_one e.name e.char (whole es) (whole_live es)

named_live : (es : List Entity) (b : ℕ) → NoSemis es → TurnLive (named es b)
named_live es b h = turn_live (b == 59) (whole es) (more_named (after_char b es)) (λ k. whole_live es) (λ k. more_live (after_char b es) (char_semis b es h))

pub entities_semis : NoSemis entities
entities_semis = ((refl, refl, (refl, refl, (refl, refl, tt))), ((refl, refl, (refl, refl, tt)), ((refl, refl, (refl, refl, tt)), ((refl, refl, (refl, refl, (refl, refl, (refl, refl, tt)))), ((refl, refl, (refl, refl, (refl, refl, (refl, refl, tt)))), ((refl, refl, (refl, refl, (refl, refl, (refl, refl, tt)))), tt))))))

pub some_semis : (es : List Entity) → SomeName es → NoSemis es
some_semis [] h = tt
some_semis (e ∷ es) h = h

done_live : (v b : ℕ) → TurnLive (done v b)
done_live v b = turn_live (b == 59 && is_referable v) (Done v) Stop (λ h. tt) (λ h. tt)

dec_live : (v : ℕ) → TurnLive (dec v)
dec_live v = turn_live (nat_le v 1114111) (More (Dec v)) Stop (λ h. test_le v 1114111 h) (λ h. tt)

hex_live : (v : ℕ) → TurnLive (hex v)
hex_live v = turn_live (nat_le v 1114111) (More (Hex v)) Stop (λ h. test_le v 1114111 h) (λ h. tt)

ref_live : (p : Reference) (b : ℕ) → ReferenceLive p → TurnLive (ref_step p b)
ref_live Amp b h = turn_live (b == 35) (More Hash) (named entities b) (λ k. tt) (λ k. named_live entities b entities_semis)
ref_live (Named es) b h = named_live es b (some_semis es h)
ref_live Hash b h = turn_live (is_digit b) (dec (0 * 10 + digit_of b)) (if lower b == 120 then More HexMark else Stop) (λ k. dec_live (0 * 10 + digit_of b)) (λ k. turn_live (lower b == 120) (More HexMark) Stop (λ n. tt) (λ n. tt))
ref_live (Dec v) b h = turn_live (is_digit b) (dec (v * 10 + digit_of b)) (done v b) (λ k. dec_live (v * 10 + digit_of b)) (λ k. done_live v b)
ref_live HexMark b h = turn_live (is_hex b) (hex (0 * 16 + digit_of b)) Stop (λ k. hex_live (0 * 16 + digit_of b)) (λ k. tt)
ref_live (Hex v) b h = turn_live (is_hex b) (hex (v * 16 + digit_of b)) (done v b) (λ k. hex_live (v * 16 + digit_of b)) (λ k. done_live v b)

-- a live machine goes on to a live one

go_on : (c : ℕ) (l : Lexical) (m : Machine) → Lowered (lex_name l) → LoweredAll m.opened → state_live c m l → Live c (at m l)
go_on c l m a b s = record { name = a; names = b; state = s }

less_live : (c : ℕ) (m : Machine) → LoweredAll m.opened → On (λ m1. Live c m1) (less c m)
less_live c m h = on_if (λ m1. Live c m1) (has_room c m || is_some_open m.opened) (Some (at m TagOpen)) None (λ k. go_on c TagOpen m tt h k) (λ k. tt)

started_live : (c : ℕ) (m : Machine) (w : List ℕ) (ts : List Attribute) → Lowered w → LoweredAll m.opened → Live c (started m w ts)
started_live c m w ts h k = if_both (λ m1. Live c m1) (is_void w) (after_void m w ts) (after_start m w ts) (λ v. record { name = tt; names = k; state = tt }) (λ v. record { name = tt; names = (h, k); state = tt })

tag_end_live : (c : ℕ) (m : Machine) (w : List ℕ) (ts : List Attribute) (b : ℕ) → Lowered w → LoweredAll m.opened → On (λ m1. Live c m1) (tag_end m w ts b)
tag_end_live c m w ts b h k =
    on_if (λ m1. Live c m1) (b == 62) (Some (started m w ts)) (if b == 47 && is_void w then Some (at m (SelfClosing w ts)) else None)
    (λ n. started_live c m w ts h k)
    (λ n. on_if (λ m1. Live c m1) (b == 47 && is_void w) (Some (at m (SelfClosing w ts))) None (λ n2. go_on c (SelfClosing w ts) m h k tt) (λ n2. tt))

ref_turn_live : (c : ℕ) (m : Machine) (more : Reference → Lexical) (end : ℕ → Lexical) (o : Turn) → TurnLive o → ((q : Reference) → ReferenceLive q → Live c (at m (more q))) → ((x : ℕ) → Live c (at m (end x))) → On (λ m1. Live c m1) (ref_turn m more end o)
ref_turn_live c m more end Stop h f g = tt
ref_turn_live c m more end (More q) h f g = f q h
ref_turn_live c m more end (Done x) h f g = g x

slash_live : (c : ℕ) (ws : List (List ℕ)) (m : Machine) → LoweredAll ws → On (λ m1. Live c m1) (slash m ws)
slash_live c [] m h = tt
slash_live c (w ∷ ws) m h = record { name = h.0; names = h.1; state = tt }

dash_live : (c : ℕ) (t : List ℕ) (n : Dashes) (m : Machine) → LoweredAll m.opened → Live c (at m (dash t n))
dash_live c t NoDash m h = go_on c (InComment t OneDash) m tt h tt
dash_live c t OneDash m h = go_on c (InComment t TwoDashes) m tt h tt
dash_live c t TwoDashes m h = go_on c (InComment (t ++ 45 ∷ []) TwoDashes) m tt h tt

lex_live : (c : ℕ) (m : Machine) (t : Bool) (x y : Lexical) → Live c (at m x) → Live c (at m y) → Live c (at m (if t then x else y))
lex_live c m true x y f g = f
lex_live c m false x y f g = g

live_step : (c : ℕ) (l : Lexical) (m : Machine) (b : ℕ) → LiveAt c l m → On (λ m1. Live c m1) (step_at c m l b)
live_step c Data m b h =
    let P : Machine → Type 0 = λ m1. Live c m1 in
    let k = h.names in
    let l : Lexical = if b == 38 then TextReference [] Amp else InText (b ∷ []) in
    on_if P (b == 60) (less c m) (if has_room c m then Some (at m l) else None) (λ n. less_live c m k)
    (λ n. on_if P (has_room c m) (Some (at m l)) None (λ n2. lex_live c m (b == 38) (TextReference [] Amp) (InText (b ∷ [])) (go_on c (TextReference [] Amp) m tt k tt) (go_on c (InText (b ∷ [])) m tt k tt)) (λ n2. tt))
live_step c (InText t) m b h =
    let P : Machine → Type 0 = λ m1. Live c m1 in
    let k = h.names in
    on_if P (b == 60) (less c (after_leaf m (TextEvent t))) (Some (at m (if b == 38 then TextReference t Amp else InText (t ++ b ∷ [])))) (λ n. less_live c (after_leaf m (TextEvent t)) k)
    (λ n. lex_live c m (b == 38) (TextReference t Amp) (InText (t ++ b ∷ [])) (go_on c (TextReference t Amp) m tt k tt) (go_on c (InText (t ++ b ∷ [])) m tt k tt))
live_step c (TextReference t p) m b h =
    ref_turn_live c m (λ q. TextReference t q) (λ x. InText (t ++ x ∷ [])) (ref_step p b) (ref_live p b h.state) (λ q n. go_on c (TextReference t q) m tt h.names n) (λ x. go_on c (InText (t ++ x ∷ [])) m tt h.names tt)
live_step c TagOpen m b h =
    let P : Machine → Type 0 = λ m1. Live c m1 in
    let k = h.names in
    let named = Some (begin_tag m b) in
    let y : Option Machine = if is_letter b then named else None in
    let x : Option Machine = if b == 33 then Some (at m MarkupDeclaration) else y in
    on_if P (b == 47) (slash m m.opened) (if has_room c m then x else None) (λ n. slash_live c m.opened m k)
    (λ n. on_if P (has_room c m) x None
    (λ n2. on_if P (b == 33) (Some (at m MarkupDeclaration)) y (λ n3. go_on c MarkupDeclaration m tt k tt)
    (λ n3. on_if P (is_letter b) named None (λ n4. go_on c (TagName (lower b ∷ [])) (entered m) (lower_lower b, letter_ascii b n4, tt) k tt) (λ n4. tt)))
    (λ n2. tt))
live_step c MarkupDeclaration m b h = on_if (λ m1. Live c m1) (b == 45) (Some (at m CommentStart)) None (λ n. go_on c CommentStart m tt h.names tt) (λ n. tt)
live_step c CommentStart m b h = on_if (λ m1. Live c m1) (b == 45) (Some (at m (InComment [] NoDash))) None (λ n. go_on c (InComment [] NoDash) m tt h.names tt) (λ n. tt)
live_step c (InComment t n) m b h =
    let P : Machine → Type 0 = λ m1. Live c m1 in
    let x = Some (after_leaf m (CommentEvent t)) in
    let y = Some (at m (InComment (t ++ (dashes n ++ b ∷ [])) NoDash)) in
    on_if P (b == 45) (Some (at m (dash t n))) (if b == 62 && is_two n then x else y) (λ q. dash_live c t n m h.names)
    (λ q. on_if P (b == 62 && is_two n) x y (λ q2. record { name = tt; names = h.names; state = tt }) (λ q2. go_on c (InComment (t ++ (dashes n ++ b ∷ [])) NoDash) m tt h.names tt))
live_step c (TagName w) m b h =
    let P : Machine → Type 0 = λ m1. Live c m1 in
    let gap = Some (at m (BeforeAttributeName w [])) in
    let y : Option Machine = if is_space b then gap else tag_end m w [] b in
    let x : Option Machine = if is_refused w then None else y in
    on_if P (is_name_char b) (Some (at m (TagName (w ++ lower b ∷ [])))) x (λ n. go_on c (TagName (w ++ lower b ∷ [])) m (lowered_more w b n h.name) h.names tt)
    (λ n. on_if P (is_refused w) None y (λ n2. tt)
    (λ n2. on_if P (is_space b) gap (tag_end m w [] b) (λ n3. go_on c (BeforeAttributeName w []) m h.name h.names tt) (λ n3. tag_end_live c m w [] b h.name h.names)))
live_step c (BeforeAttributeName w ts) m b h =
    let P : Machine → Type 0 = λ m1. Live c m1 in
    let key = Some (at m (AttributeName w ts (lower b ∷ []))) in
    on_if P (is_space b) (Some (at m (BeforeAttributeName w ts))) (if is_attribute_name_char b then key else tag_end m w ts b) (λ n. go_on c (BeforeAttributeName w ts) m h.name h.names tt)
    (λ n. on_if P (is_attribute_name_char b) key (tag_end m w ts b) (λ n2. go_on c (AttributeName w ts (lower b ∷ [])) m h.name h.names tt) (λ n2. tag_end_live c m w ts b h.name h.names))
live_step c (AttributeName w ts k) m b h =
    let P : Machine → Type 0 = λ m1. Live c m1 in
    let end = tag_end m w (with_attribute ts k []) b in
    let eq = Some (at m (BeforeAttributeValue w ts k)) in
    let z : Option Machine = if b == 61 then eq else end in
    let gap = Some (at m (AfterAttributeName w ts k)) in
    let y : Option Machine = if is_space b then gap else z in
    let x : Option Machine = if has_attribute ts k then None else y in
    on_if P (is_attribute_name_char b) (Some (at m (AttributeName w ts (k ++ lower b ∷ [])))) x (λ n. go_on c (AttributeName w ts (k ++ lower b ∷ [])) m h.name h.names tt)
    (λ n. on_if P (has_attribute ts k) None y (λ n2. tt)
    (λ n2. on_if P (is_space b) gap z (λ n3. go_on c (AfterAttributeName w ts k) m h.name h.names tt)
    (λ n3. on_if P (b == 61) eq end (λ n4. go_on c (BeforeAttributeValue w ts k) m h.name h.names tt) (λ n4. tag_end_live c m w (with_attribute ts k []) b h.name h.names))))
live_step c (AfterAttributeName w ts k) m b h =
    let P : Machine → Type 0 = λ m1. Live c m1 in
    let us = with_attribute ts k [] in
    let end = tag_end m w us b in
    let key = Some (at m (AttributeName w us (lower b ∷ []))) in
    let eq = Some (at m (BeforeAttributeValue w ts k)) in
    let z : Option Machine = if is_attribute_name_char b then key else end in
    let y : Option Machine = if b == 61 then eq else z in
    on_if P (is_space b) (Some (at m (AfterAttributeName w ts k))) y (λ n. go_on c (AfterAttributeName w ts k) m h.name h.names tt)
    (λ n. on_if P (b == 61) eq z (λ n2. go_on c (BeforeAttributeValue w ts k) m h.name h.names tt)
    (λ n2. on_if P (is_attribute_name_char b) key end (λ n3. go_on c (AttributeName w us (lower b ∷ [])) m h.name h.names tt) (λ n3. tag_end_live c m w us b h.name h.names)))
live_step c (BeforeAttributeValue w ts k) m b h =
    let P : Machine → Type 0 = λ m1. Live c m1 in
    let value = Some (at m (InAttributeValue w ts k b [])) in
    on_if P (is_space b) (Some (at m (BeforeAttributeValue w ts k))) (if is_quote b then value else None) (λ n. go_on c (BeforeAttributeValue w ts k) m h.name h.names tt)
    (λ n. on_if P (is_quote b) value None (λ n2. go_on c (InAttributeValue w ts k b []) m h.name h.names (quote_scalar b n2)) (λ n2. tt))
live_step c (InAttributeValue w ts k q v) m b h =
    on_if (λ m1. Live c m1) (b == q) (Some (at m (AfterAttributeValue w (with_attribute ts k v)))) (Some (at m (if b == 38 then ValueReference w ts k q v Amp else InAttributeValue w ts k q (v ++ b ∷ []))))
    (λ n. go_on c (AfterAttributeValue w (with_attribute ts k v)) m h.name h.names tt)
    (λ n. lex_live c m (b == 38) (ValueReference w ts k q v Amp) (InAttributeValue w ts k q (v ++ b ∷ [])) (go_on c (ValueReference w ts k q v Amp) m h.name h.names (tt, h.state)) (go_on c (InAttributeValue w ts k q (v ++ b ∷ [])) m h.name h.names h.state))
live_step c (ValueReference w ts k q v p) m b h =
    ref_turn_live c m (λ y. ValueReference w ts k q v y) (λ x. InAttributeValue w ts k q (v ++ x ∷ [])) (ref_step p b) (ref_live p b h.state.0) (λ y n. go_on c (ValueReference w ts k q v y) m h.name h.names (n, h.state.1)) (λ x. go_on c (InAttributeValue w ts k q (v ++ x ∷ [])) m h.name h.names h.state.1)
live_step c (AfterAttributeValue w ts) m b h =
    on_if (λ m1. Live c m1) (is_space b) (Some (at m (BeforeAttributeName w ts))) (tag_end m w ts b) (λ n. go_on c (BeforeAttributeName w ts) m h.name h.names tt) (λ n. tag_end_live c m w ts b h.name h.names)
live_step c (SelfClosing w ts) m b h = on_if (λ m1. Live c m1) (b == 62) (Some (started m w ts)) None (λ n. started_live c m w ts h.name h.names) (λ n. tt)
live_step c (EndTagName []) m b h =
    on_if (λ m1. Live c m1) (is_space b) (Some (at m AfterEndTagName)) (if b == 62 then Some (after_end m) else None) (λ n. go_on c AfterEndTagName m tt h.names tt)
    (λ n. on_if (λ m1. Live c m1) (b == 62) (Some (after_end m)) None (λ n2. record { name = tt; names = h.names; state = tt }) (λ n2. tt))
live_step c (EndTagName (x ∷ xs)) m b h = on_if (λ m1. Live c m1) (lower b == x) (Some (at m (EndTagName xs))) None (λ n. go_on c (EndTagName xs) m h.name.2 h.names tt) (λ n. tt)
live_step c AfterEndTagName m b h =
    on_if (λ m1. Live c m1) (is_space b) (Some (at m AfterEndTagName)) (if b == 62 then Some (after_end m) else None) (λ n. go_on c AfterEndTagName m tt h.names tt)
    (λ n. on_if (λ m1. Live c m1) (b == 62) (Some (after_end m)) None (λ n2. record { name = tt; names = h.names; state = tt }) (λ n2. tt))

pub live_run : (c : ℕ) (s : List ℕ) (m m2 : Machine) → Live c m → run c m s ≡ Some m2 → Live c m2
live_run c [] m m2 h e = let k : m ≡ m2 = cc in subst (λ x. Live c x) k h
live_run c (b ∷ s) m m2 h e =
    let x = then_some (step c m b) (λ m1. run c m1 s) m2 e in
    live_run c s x.0 m2 (on_get (λ m1. Live c m1) (step c m b) x.0 (live_step c m.lex m b h) x.1) x.2

-- s leads to an end
record Ends (c : ℕ) (m : Machine) (s : List ℕ) : Type 0 where
  there : Machine
  reads : run c m s ≡ Some there
  ends : IsEnd there

-- something leads to an end
record CanEnd (c : ℕ) (m : Machine) : Type 0 where
  more : List ℕ
  plain : scalars more ≡ true
  ends : Ends c m more

via : (c : ℕ) (m m1 : Machine) (s r : List ℕ) → scalars s ≡ true → run c m s ≡ run c m1 r → Ends c m1 r → CanEnd c m
via c m m1 s r p e x = record { more = s; plain = p; ends = record { there = x.there; reads = e ∙ x.reads; ends = x.ends } }

lowered_again : (w r : List ℕ) → Lowered w → NameAgain w (w ++ r) r
lowered_again [] r h = refl
lowered_again (x ∷ xs) r h = (x, xs ++ r, refl, h.0, lowered_again xs r h.2)

-- the end tags that are still to come
closes : List (List ℕ) → List ℕ
closes [] = []
closes (w ∷ ws) = 60 ∷ 47 ∷ (w ++ 62 ∷ closes ws)

closes_end : (c : ℕ) (ws : List (List ℕ)) (m : Machine) → m.opened ≡ ws → LoweredAll ws → IsReady m.lex → Ends c m (closes ws)
unfolding closes
closes_end c [] m o h r = record { there = m; reads = refl; ends = (r, rw o tt) }
closes_end c (w ∷ ws) m o h r =
    let m1 = after_end (record (flushed m) { opened = ws }) in
    let rest = closes ws in
    let tag : EndTag w (closes (w ∷ ws)) rest = (w ++ 62 ∷ rest, 62 ∷ rest, 0, refl, lowered_again w (62 ∷ rest) h.0, refl) in
    let e = end_tag c m (flushed m) w (closes (w ∷ ws)) rest r refl ws (flushed_opened m.lex m ∙ o) tag in
    let x = closes_end c ws m1 refl h.1 tt in
    record { there = x.there; reads = e ∙ x.reads; ends = x.ends }

closes_plain : (ws : List (List ℕ)) → LoweredAll ws → scalars (closes ws) ≡ true
unfolding closes
closes_plain [] h = refl
closes_plain (w ∷ ws) h = scalars_app w (62 ∷ closes ws) (lowered_scalars w h.0) (closes_plain ws h.1)

-- a machine between tokens
between_end : (c : ℕ) (m : Machine) → LoweredAll m.opened → IsReady m.lex → Ends c m (closes m.opened)
between_end c m h r = closes_end c m.opened m refl h r

started_end : (c : ℕ) (m : Machine) (w : List ℕ) (ts : List Attribute) → Lowered w → LoweredAll m.opened → (r : List ℕ) × (scalars r ≡ true) × Ends c (started m w ts) r
started_end c m w ts h k = go (is_void w)
  where
    go : (t : Bool) → (r : List ℕ) × (scalars r ≡ true) × Ends c (if t then after_void m w ts else after_start m w ts) r
    go true = (closes m.opened, closes_plain m.opened k, between_end c (after_void m w ts) k tt)
    go false = (closes (w ∷ m.opened), closes_plain (w ∷ m.opened) (h, k), between_end c (after_start m w ts) (h, k) tt)

-- it ends its start tag
tag_can_end : (c : ℕ) (l : Lexical) (m : Machine) (w : List ℕ) (ts : List Attribute) → Lowered w → LoweredAll m.opened → step_at c (at m l) l 62 ≡ tag_end (at m l) w ts 62 → CanEnd c (at m l)
tag_can_end c l m w ts h k e =
    let x = started_end c m w ts h k in
    via c (at m l) (started m w ts) (62 ∷ x.0) x.0 x.1 (ap (λ o. then_run o (λ m1. run c m1 x.0)) e) x.2

before : (c : ℕ) (m m1 : Machine) (s : List ℕ) → scalars s ≡ true → ((r : List ℕ) → run c m (s ++ r) ≡ run c m1 r) → CanEnd c m1 → CanEnd c m
before c m m1 s p e x = via c m m1 (s ++ x.more) x.more (scalars_app s x.more p x.plain) (e x.more) x.ends

-- references

feed_named : (name : List ℕ) (x : ℕ) (es : List Entity) → NoSemi name → feed (name ++ 59 ∷ []) (Named (entity name x ∷ es)) ≡ Done x
feed_named [] x es h = refl
feed_named (y ∷ ys) x es h = rw (h.0, eq-eqb y y refl) (feed_named ys x (after_char y es) h.2)

semi_scalars : (w : List ℕ) → NoSemi w → scalars w ≡ true
semi_scalars [] h = refl
semi_scalars (x ∷ xs) h = both_true (scalar x) (scalars xs) (ascii_scalar x h.1) (semi_scalars xs h.2)

dec_finish : (v : ℕ) → v ≤ 1114111 → (w : List ℕ) × (x : ℕ) × (feed w (Dec v) ≡ Done x) × (scalars w ≡ true)
dec_finish v h =
    elim (cases_Bool (is_referable v)) [
      | inl t ↦ (59 ∷ [], v, rw (digit_59, t) refl, refl)
      | inr f ↦ elim (cases_lt 0 v) [
        | inl p ↦ let rf = referable_10 v h p f in
            let b = referable_bound (v * 10 + 0) rf in
            (48 ∷ 59 ∷ [], v * 10 + 0, rw (digit_48, digit_of_48, le_test (v * 10 + 0) 1114111 b, digit_59, rf) refl, refl)
        | inr z ↦ let k : v ≡ 0 = omega arith in
            (49 ∷ 59 ∷ [], 1, rw (k, digit_49, digit_of_49, digit_59, referable_1) refl, refl)
      ]
    ]

hex_finish : (v : ℕ) → v ≤ 1114111 → (w : List ℕ) × (x : ℕ) × (feed w (Hex v) ≡ Done x) × (scalars w ≡ true)
hex_finish v h =
    elim (cases_Bool (is_referable v)) [
      | inl t ↦ (59 ∷ [], v, rw (hex_59, t) refl, refl)
      | inr f ↦ elim (cases_lt 0 v) [
        | inl p ↦ let rf = referable_16 v h p f in
            let b = referable_bound (v * 16 + 0) rf in
            (48 ∷ 59 ∷ [], v * 16 + 0, rw (hex_48, digit_of_48, le_test (v * 16 + 0) 1114111 b, hex_59, rf) refl, refl)
        | inr z ↦ let k : v ≡ 0 = omega arith in
            (49 ∷ 59 ∷ [], 1, rw (k, hex_49, digit_of_49, hex_59, referable_1) refl, refl)
      ]
    ]

ref_finish : (p : Reference) → ReferenceLive p → (w : List ℕ) × (x : ℕ) × (feed w p ≡ Done x) × (scalars w ≡ true)
ref_finish Amp h = (codes "amp" ++ 59 ∷ [], 38, refl, refl)
ref_finish (Named []) h = elim h [ ]
ref_finish (Named (e ∷ es)) h = (e.name ++ 59 ∷ [], e.char, feed_named e.name e.char es h.0, scalars_app e.name (59 ∷ []) (semi_scalars e.name h.0) refl)
ref_finish Hash h = (49 ∷ 59 ∷ [], 1, rw (digit_49, digit_of_49, digit_59, referable_1) refl, refl)
ref_finish (Dec v) h = dec_finish v h
ref_finish HexMark h = (49 ∷ 59 ∷ [], 1, rw (hex_49, digit_of_49, hex_59, referable_1) refl, refl)
ref_finish (Hex v) h = hex_finish v h

-- a key that isn't there yet

total : List Attribute → ℕ
total [] = 0
total (t ∷ ts) = length t.name + total ts

longer_differs : (a b : List ℕ) → length a < length b → bytes_eq a b ≡ false
longer_differs a b h = elim (cases_Bool (bytes_eq a b)) [ inl t ↦ let e = (bytes_eq-Decides a b).0 t in let l : length a ≡ length b = ap length e in absurd (omega arith) | inr f ↦ f ]

long_key : (ts : List Attribute) (k : List ℕ) → total ts < length k → has_attribute ts k ≡ false
unfolding total
long_key [] k h = refl
long_key (t ∷ ts) k h = let one = longer_differs t.name k (omega arith) in let ih = long_key ts k (omega arith) in rw one ih

key_as : (n : ℕ) (r : List ℕ) → AttributeNameChars (replicate n 97) (replicate n 97 ++ r) r
key_as zero r = refl
key_as (suc n) r = (97, replicate n 97 ++ r, refl, lower_97, key_97, key_as n r)

fresh : (ts : List Attribute) (k : List ℕ) → has_attribute ts (k ++ replicate (suc (total ts)) 97) ≡ false
fresh ts k =
    let u = replicate (suc (total ts)) 97 in
    let n : length u ≡ suc (total ts) = length-replicate (suc (total ts)) 97 in
    let all : length (k ++ u) ≡ length k + length u = length-append k u in
    long_key ts (k ++ u) (omega arith)

less_end : (c : ℕ) (ws : List (List ℕ)) (m : Machine) → m.opened ≡ ws → LoweredAll ws → (has_room c m || is_some_open ws) ≡ true → CanEnd c (at m TagOpen)
less_end c [] m o h k =
    let a = 97 ∷ [] in
    let room = or_no (has_room c m) k in
    let m1 = after_start (entered m) a [] in
    let low : LoweredAll m1.opened = ((lower_97, refl, tt), rw o tt) in
    let ends = between_end c m1 low tt in
    let rest = closes m1.opened in
    via c (at m TagOpen) m1 (97 ∷ 62 ∷ rest) rest (closes_plain m1.opened low) (rw (room, letter_97, lower_97, name_62, refused_a, space_62, void_a) refl) ends
  where
    or_no : (t : Bool) → (t || false) ≡ true → t ≡ true
    or_no true e = refl
    or_no false e = e
less_end c (w ∷ ws) m o h k =
    let m0 = record m { opened = ws } in
    let m1 = after_end m0 in
    let rest = closes ws in
    via c (at m TagOpen) m1 (47 ∷ (w ++ 62 ∷ rest)) rest (scalars_app w (62 ∷ rest) (lowered_scalars w h.0) (closes_plain ws h.1))
    (rw o (again_run c w (w ++ 62 ∷ rest) (62 ∷ rest) m0 (lowered_again w (62 ∷ rest) h.0) ∙ end_run c 0 (62 ∷ rest) rest m0 refl))
    (closes_end c ws m1 refl h.1 tt)

leaf_end : (c : ℕ) (m : Machine) (e : Event) → LoweredAll m.opened → Ends c (after_leaf m e) (closes m.opened)
leaf_end c m e h = between_end c (after_leaf m e) h tt

note_end : (c : ℕ) (t : List ℕ) (n : Dashes) (m : Machine) → LoweredAll m.opened → CanEnd c (at m (InComment t n))
note_end c t NoDash m h = let r = closes m.opened in via c (at m (InComment t NoDash)) (after_leaf m (CommentEvent t)) (45 ∷ 45 ∷ 62 ∷ r) r (closes_plain m.opened h) refl (leaf_end c m (CommentEvent t) h)
note_end c t OneDash m h = let r = closes m.opened in via c (at m (InComment t OneDash)) (after_leaf m (CommentEvent t)) (45 ∷ 62 ∷ r) r (closes_plain m.opened h) refl (leaf_end c m (CommentEvent t) h)
note_end c t TwoDashes m h = let r = closes m.opened in via c (at m (InComment t TwoDashes)) (after_leaf m (CommentEvent t)) (62 ∷ r) r (closes_plain m.opened h) refl (leaf_end c m (CommentEvent t) h)

value_end : (c : ℕ) (w : List ℕ) (ts : List Attribute) (k : List ℕ) (q : ℕ) (v : List ℕ) (m : Machine) → Lowered w → LoweredAll m.opened → scalar q ≡ true → CanEnd c (at m (InAttributeValue w ts k q v))
value_end c w ts k q v m h n sq =
    before c (at m (InAttributeValue w ts k q v)) (at m (AfterAttributeValue w (with_attribute ts k v))) (q ∷ []) (both_true (scalar q) true sq refl) (λ r. rw (eq-eqb q q refl) refl)
    (tag_can_end c (AfterAttributeValue w (with_attribute ts k v)) m w (with_attribute ts k v) h n (rw space_62 refl))

-- every live machine can come to an end
can_end : (c : ℕ) (l : Lexical) (m : Machine) → LiveAt c l m → CanEnd c (at m l)
can_end c Data m h = let x = between_end c (at m Data) h.names tt in record { more = closes m.opened; plain = closes_plain m.opened h.names; ends = x }
can_end c (InText t) m h = let x = between_end c (at m (InText t)) h.names tt in record { more = closes m.opened; plain = closes_plain m.opened h.names; ends = x }
can_end c (TextReference t p) m h =
    let x = ref_finish p h.state in
    before c (at m (TextReference t p)) (at m (InText (t ++ x.1 ∷ []))) x.0 x.3
    (λ r. feed_run c m (λ q. TextReference t q) (λ y. InText (t ++ y ∷ [])) (λ q b. refl) x.1 x.0 r p x.2)
    (record { more = closes m.opened; plain = closes_plain m.opened h.names; ends = between_end c (at m (InText (t ++ x.1 ∷ []))) h.names tt })
can_end c TagOpen m h = less_end c m.opened m refl h.names h.state
can_end c MarkupDeclaration m h = let r = closes m.opened in via c (at m MarkupDeclaration) (after_leaf m (CommentEvent [])) (45 ∷ 45 ∷ 45 ∷ 45 ∷ 62 ∷ r) r (closes_plain m.opened h.names) refl (leaf_end c m (CommentEvent []) h.names)
can_end c CommentStart m h = let r = closes m.opened in via c (at m CommentStart) (after_leaf m (CommentEvent [])) (45 ∷ 45 ∷ 45 ∷ 62 ∷ r) r (closes_plain m.opened h.names) refl (leaf_end c m (CommentEvent []) h.names)
can_end c (InComment t n) m h = note_end c t n m h.names
can_end c (TagName w) m h =
    let w2 = w ++ 45 ∷ [] in
    let low : Lowered w2 = subst (λ z. Lowered (w ++ z ∷ [])) lower_45 (lowered_more w 45 name_45 h.name) in
    before c (at m (TagName w)) (at m (TagName w2)) (45 ∷ []) refl (λ r. rw (name_45, lower_45) refl)
    (tag_can_end c (TagName w2) m w2 [] low h.names (tagged_62 c (at m (TagName w2)) (TagName w2) w2 [] (at_name (refused_dash w))))
can_end c (BeforeAttributeName w ts) m h = tag_can_end c (BeforeAttributeName w ts) m w ts h.name h.names (spaced_62 c (at m (BeforeAttributeName w ts)) (BeforeAttributeName w ts) w ts at_gap)
can_end c (AttributeName w ts k) m h =
    let u = replicate (suc (total ts)) 97 in
    let l = AttributeName w ts (k ++ u) in
    before c (at m (AttributeName w ts k)) (at m l) u (scalars_as (suc (total ts))) (λ r. key_run c w ts u k (u ++ r) r m (key_as (suc (total ts)) r))
    (tag_can_end c l m w (with_attribute ts (k ++ u) []) h.name h.names (tagged_62 c (at m l) l w (with_attribute ts (k ++ u) []) (at_key (fresh ts k))))
can_end c (AfterAttributeName w ts k) m h = tag_can_end c (AfterAttributeName w ts k) m w (with_attribute ts k []) h.name h.names (spaced_62 c (at m (AfterAttributeName w ts k)) (AfterAttributeName w ts k) w (with_attribute ts k []) after_key)
can_end c (BeforeAttributeValue w ts k) m h =
    before c (at m (BeforeAttributeValue w ts k)) (at m (InAttributeValue w ts k 34 [])) (34 ∷ []) refl (λ r. rw (space_34, quote_34) refl) (value_end c w ts k 34 [] m h.name h.names refl)
can_end c (InAttributeValue w ts k q v) m h = value_end c w ts k q v m h.name h.names h.state
can_end c (ValueReference w ts k q v p) m h =
    let x = ref_finish p h.state.0 in
    before c (at m (ValueReference w ts k q v p)) (at m (InAttributeValue w ts k q (v ++ x.1 ∷ []))) x.0 x.3
    (λ r. feed_run c m (λ y. ValueReference w ts k q v y) (λ y. InAttributeValue w ts k q (v ++ y ∷ [])) (λ y b. refl) x.1 x.0 r p x.2)
    (value_end c w ts k q (v ++ x.1 ∷ []) m h.name h.names h.state.1)
can_end c (AfterAttributeValue w ts) m h = tag_can_end c (AfterAttributeValue w ts) m w ts h.name h.names (rw space_62 refl)
can_end c (SelfClosing w ts) m h =
    let x = started_end c m w ts h.name h.names in
    via c (at m (SelfClosing w ts)) (started m w ts) (62 ∷ x.0) x.0 x.1 refl x.2
can_end c (EndTagName left) m h =
    let m1 = after_end m in
    let rest = closes m.opened in
    via c (at m (EndTagName left)) m1 (left ++ 62 ∷ rest) rest (scalars_app left (62 ∷ rest) (lowered_scalars left h.name) (closes_plain m.opened h.names))
    (again_run c left (left ++ 62 ∷ rest) (62 ∷ rest) m (lowered_again left (62 ∷ rest) h.name) ∙ end_run c 0 (62 ∷ rest) rest m refl)
    (between_end c m1 h.names tt)
can_end c AfterEndTagName m h =
    let m1 = after_end m in
    let rest = closes m.opened in
    via c (at m AfterEndTagName) m1 (62 ∷ rest) rest (closes_plain m.opened h.names) (rw space_62 refl) (between_end c m1 h.names tt)

then_then : (o : Option Machine) (f g h : Machine → Option Machine) → ((m : Machine) → h m ≡ then_run (f m) g) → then_run o h ≡ then_run (then_run o f) g
then_then None f g h e = refl
then_then (Some m) f g h e = e m

pub run_append : (c : ℕ) (p q : List ℕ) (m : Machine) → run c m (p ++ q) ≡ then_run (run c m p) (λ m1. run c m1 q)
run_append c [] q m = refl
run_append c (b ∷ p) q m = then_then (step c m b) (λ m1. run c m1 p) (λ m1. run c m1 q) (λ m1. run c m1 (p ++ q)) (λ m1. run_append c p q m1)

take_take : (k j : ℕ) (s : List ℕ) → k ≤ j → take k (take j s) ≡ take k s
take_take zero j s h = refl
take_take (suc k) zero s h = absurd (omega arith)
take_take (suc k) (suc j) [] h = refl
take_take (suc k) (suc j) (x ∷ s) h = let le : k ≤ j = omega arith in ap (λ l. x ∷ l) (take_take k j s le)

-- what the machine reads can be made a page, by characters
pub can_go : (d c : ℕ) (p : List ℕ) (m : Machine) → run c (start d) p ≡ Some m → (q : List ℕ) × (scalars q ≡ true) × (f : Siblings) × Page d c (p ++ q) f
can_go d c p m e =
    let x = can_end c m.lex m (live_run c p (start d) m (record { name = tt; names = tt; state = tt }) e) in
    let y = x.ends in
    let all : run c (start d) (p ++ x.more) ≡ Some y.there = run_append c p x.more (start d) ∙ ap (λ o. then_run o (λ m1. run c m1 x.more)) e ∙ y.reads in
    let z = page_only d c (p ++ x.more) y.there all y.ends in
    (x.more, x.plain, z.0, z.1)

-- what the machine reads is a prefix of some page
pub prefix_of_page : (d c : ℕ) (p : List ℕ) (m : Machine) → run c (start d) p ≡ Some m → IsPagePrefix d c p
prefix_of_page d c p m e = let x = can_go d c p m e in (x.0, (x.2, x.3))

-- a prefix of some page is read
pub prefix_read : (d c : ℕ) (p : List ℕ) → IsPagePrefix d c p → (m : Machine) × (run c (start d) p ≡ Some m)
prefix_read d c p (q, (f, h)) =
    let x = page_read d c (p ++ q) f h in
    let y = then_some (run c (start d) p) (λ m1. run c m1 q) x.there (sym (run_append c p q (start d)) ∙ x.reads) in
    (y.0, y.1)

pub run_past : (d c : ℕ) (s : List ℕ) (k j : ℕ) (m : Machine) → k < j → j ≤ length s → run c (start d) (take (suc k) s) ≡ None → run c (start d) (take j s) ≡ Some m → ⊥
run_past d c s k j m h w e g =
    let p = take (suc k) s in
    let q = drop (suc k) (take j s) in
    let front : take (suc k) (take j s) ≡ p = take_take (suc k) j s h in
    let whole : take j s ≡ p ++ q = sym (take-append-drop (suc k) (take j s)) ∙ ap (λ x. x ++ q) front in
    let none : run c (start d) (take j s) ≡ None = ap (λ x. run c (start d) x) whole ∙ run_append c p q (start d) ∙ ap (λ o. then_run o (λ m1. run c m1 q)) e in
    cc

pub place_at : (d c : ℕ) (s : List ℕ) (k : ℕ) (m : Machine) → k ≤ length s → run c (start d) (take k s) ≡ Some m → (k ≡ length s) ⊎ (run c (start d) (take (suc k) s) ≡ None) → IsPlace d c s k
place_at d c s k m w e h =
    record {
      within = w;
      here = prefix_of_page d c (take k s) m e;
      longest = λ j hj x. elim (cases_lt k j) [
        | inr le ↦ le
        | inl lt ↦ let y = prefix_read d c (take j s) x in
            elim h [
              | inl eq ↦ omega arith
              | inr none ↦ absurd (run_past d c s k j y.0 lt hj none y.1)
            ]
      ];
    }
