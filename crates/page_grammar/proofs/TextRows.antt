-- Where in a token a place stands: the machine's state says the same as the text before it.
use Rattle.std.proofs.Common.{◌≡◌, ℕ, zero, suc, ◌+◌, ◌*◌, ◌<◌, Bool, true, false, ◌&&◌, ◌||◌, ◌⊎◌, inl, inr, List, [], ◌∷◌, ◌++◌, length, Some, None, refl, sym, ap, ◌∙◌, subst, arith, append_assoc}
use Rattle.std.specs.Prelude.{nat_le, ◌==◌, if◌then◌else◌}
use Rattle.std.proofs.Math.Bool.{or-true}
use Rattle.std.proofs.lemmas.Bool.{ne_eqb}
use Rattle.std.proofs.lemmas.Bool.Decides.{nat_tests}
use Rattle.page_grammar.specs.Chars.{is_space, lower, is_letter, is_digit, is_name_char, entities, is_referable, is_hex, digit_of, Entity}
use Rattle.page_grammar.specs.Names.{is_void, is_refused}
use Rattle.page_grammar.specs.Page as page
use Rattle.page_grammar.specs.Page.{Attribute, Spaces, NameChars, Attributes, StartTag, NameAgain}
use Rattle.page_grammar.specs.Machine.{Event, Reference, Amp, Named, Hash, Dec, HexMark, Hex, Turn, Stop, More, Done, after_char, whole, more_named, named, dec, hex, done, ref_step, Lexical, Data, InText, TextReference, TagOpen, MarkupDeclaration, CommentStart, TagName, BeforeAttributeName, AttributeName, AfterAttributeName, BeforeAttributeValue, InAttributeValue, ValueReference, AfterAttributeValue, SelfClosing, EndTagName, AfterEndTagName, Machine, start, at, has_room, is_some_open, entered, after_end, tag_end, ref_turn, step_at, step, run, then_run, IsReady, is_none_open, flushed, emitted}
use Rattle.page_grammar.specs.Tokens.{IsToken, Tokens, EndsWith, TagUpTo, first_or, Lacks, EndsUnsupportedName, EndsRepeatedName, StandsInReference, StandsInEndTag, StandsAfterTagName, StandsAfterLess}
use Rattle.page_grammar.proofs.Facts.{app_nil, and_parts, On, on_if, on_get, then_some, name_47, space_62, space_not_name, quote_not_space, quote_not_amp}
use Rattle.page_grammar.proofs.Complete.{Host, less_step, key_equals, equals_spaces, value_run, flushed_opened}
use Rattle.page_grammar.proofs.LongestPrefix.{lex_name, run_append}
use Rattle.page_grammar.proofs.LexicalRows.{AtUnsupportedName, AtRepeatedName, InReference, InEndTag, AfterTagName, AfterLess}
use Rattle.page_grammar.proofs.TagSteps.{spaces_more, tag_more, TagIn, TagNext, name_ends, tag_step}
use Rattle.page_grammar.proofs.Spots.{Spot, Told, spotted}
use Rattle.page_grammar.proofs.TokenRuns.{room_of, less_is, name_is, key_is, tokens_run, split_run, none_whole}

-- no name of an open element has a `>` in it

abbrev LackAll : List (List ℕ) → Type 0
LackAll [] = Unit {0}
LackAll (w ∷ ws) = Lacks 62 w × LackAll ws

name_not_62 : (y : ℕ) → is_name_char y ≡ true → lower y ≡ 62 → ⊥
unfolding is_name_char is_letter is_digit lower
name_not_62 y h e = grind (arith, nat_tests)

letter_not_62 : (y : ℕ) → is_letter y ≡ true → lower y ≡ 62 → ⊥
unfolding is_letter lower
letter_not_62 y h e = grind (arith, nat_tests)

lower_62 : lower 62 ≡ 62
unfolding lower
lower_62 = refl

chars_lack : (w a b : List ℕ) → NameChars w a b → Lacks 62 w
chars_lack [] a b h = tt
chars_lack (x ∷ xs) a b (y, m, e, lo, ok, h) = (λ k. name_not_62 y ok (lo ∙ k), chars_lack xs m b h)

name_lacks : (w a b : List ℕ) → page.ElementName w a b → Lacks 62 w
name_lacks [] a b h = elim h [ ]
name_lacks (x ∷ xs) a b (y, m, e, lo, ok, h) = (λ k. letter_not_62 y ok (lo ∙ k), chars_lack xs m b h)

token_lacks : (vs ws : List (List ℕ)) (t : List ℕ) → IsToken vs ws t → LackAll vs → LackAll ws
token_lacks vs ws t (inl (x, one, e)) h = subst LackAll (sym e) h
token_lacks vs ws t (inr (inl (u, a, eq, note, e))) h = subst LackAll (sym e) h
token_lacks vs ws t (inr (inr (inl (w, ts, (a, b, m, eq, nm, nr, us, te), e)))) h = subst LackAll (sym e) (go (is_void w))
  where
    go : (v : Bool) → LackAll (if v then vs else w ∷ vs)
    go true = h
    go false = (name_lacks w a b nm, h)
token_lacks vs ws t (inr (inr (inr (w, et, e)))) h = let k = subst LackAll e h in k.1

tokens_lack : (n : ℕ) (ws : List (List ℕ)) (p : List ℕ) → Tokens n ws p → LackAll ws
tokens_lack zero ws p (ep, ew) = subst LackAll (sym ew) tt
tokens_lack (suc n) ws p (vs, q, t, e, h, token) = token_lacks vs ws t token (tokens_lack n vs q h)

again_lacks : (v left a b : List ℕ) → Lacks 62 (v ++ left) → NameAgain v a b → Lacks 62 b → Lacks 62 a
again_lacks [] left a b l h k = subst (λ z. Lacks 62 z) (sym h) k
again_lacks (x ∷ xs) left a b l (y, m, e, lo, h) k = subst (λ z. Lacks 62 z) (sym e) (λ z. l.0 (sym lo ∙ ap lower z ∙ lower_62), again_lacks xs left m b l.1 h k)

spaces_lack : (n : ℕ) (b : List ℕ) → Spaces n b [] → Lacks 62 b
spaces_lack zero b h = subst (λ z. Lacks 62 z) (sym h) tt
spaces_lack (suc n) b (x, m, e, ok, h) = subst (λ z. Lacks 62 z) (sym e) (λ k. (let bad : true ≡ false = sym ok ∙ ap is_space k ∙ space_62 in cc), spaces_lack n m h)

-- from the machine to the text

to_unsupported : (s : List ℕ) (os ws : List (List ℕ)) (r : List ℕ) (l : Lexical) (b : ℕ) → EndsWith ws r s → Spot l os ws r → AtUnsupportedName l b → EndsUnsupportedName s b
to_unsupported s os ws r (TagName w) b en (e, (a, er, nm)) k = (ws, w, a, subst (λ z. EndsWith ws z s) er en, nm, k.0, k.1)
to_unsupported s os ws r l b en h k = elim k [ ]

to_repeated : (s : List ℕ) (os ws : List (List ℕ)) (r : List ℕ) (l : Lexical) (b : ℕ) → EndsWith ws r s → Spot l os ws r → AtRepeatedName l b → EndsRepeatedName s b
to_repeated s os ws r (AttributeName w ts k) b en (e, (m, tag, key)) h = (ws, r, w, ts, m, k, en, tag, key, h.0, h.1)
to_repeated s os ws r l b en h k = elim k [ ]

to_reference : (s : List ℕ) (os ws : List (List ℕ)) (r : List ℕ) (l : Lexical) → EndsWith ws r s → Spot l os ws r → InReference l → StandsInReference s
to_reference s os ws r (TextReference t p) en (e, (x, er, lk, back)) k = (ws, r, en, inl (x, er, lk))
to_reference s os ws r (ValueReference w ts k q v p) en (e, (m, d, u, x, tag, key, hk, quote, tx, lk, back)) h = (ws, r, en, inr (q, u, v, 38 ∷ x, (w, ts, k, m, d, tag, key, hk, quote), tx, (x, refl, lk)))
to_reference s os ws r l en h k = elim k [ ]

none_is : (ws : List (List ℕ)) → is_none_open ws → ws ≡ []
none_is [] h = refl
none_is (w ∷ ws) h = elim h [ ]

to_end : (s : List ℕ) (os ws : List (List ℕ)) (r : List ℕ) (l : Lexical) (b : ℕ) → EndsWith ws r s → LackAll ws → Spot l os ws r → InEndTag l os b → StandsInEndTag s b
to_end s os ws r (EndTagName left) b en lk (w, v, a, ew, er, e, na) k =
    let all = subst LackAll ew lk in
    inl (w, os, a, subst (λ z. EndsWith z (60 ∷ 47 ∷ a) s) ew (subst (λ z. EndsWith ws z s) er en), again_lacks v left a [] (subst (λ z. Lacks 62 z) e all.0) na tt)
to_end s os ws r AfterEndTagName b en lk (w, a, d, n, ew, er, na, sp) k =
    let all = subst LackAll ew lk in
    inl (w, os, a, subst (λ z. EndsWith z (60 ∷ 47 ∷ a) s) ew (subst (λ z. EndsWith ws z s) er en), again_lacks w [] a d (subst (λ z. Lacks 62 z) (sym (app_nil w)) all.0) na (spaces_lack (suc n) d sp))
to_end s os ws r TagOpen b en lk (e, er) k = inr (subst (λ z. EndsWith z (60 ∷ []) s) (e ∙ none_is os k.1) (subst (λ z. EndsWith ws z s) er en), k.0)
to_end s os ws r l b en lk h k = elim k [ ]

-- behind the name in a start tag

abbrev Behind : ℕ → List ℕ → List ℕ → Type 0
Behind b w r = (a : List ℕ) × (m : List ℕ) × (r ≡ 60 ∷ a) × page.ElementName w a m × (is_name_char (first_or b m) ≡ false)

spaces_first : (n : ℕ) (s r : List ℕ) (b : ℕ) → Spaces (suc n) s r → is_name_char (first_or b s) ≡ false
spaces_first n s r b (x, m, e, ok, h) = subst (λ z. is_name_char (first_or b z) ≡ false) (sym e) (space_not_name x ok)

gap_first : (n : ℕ) (s r : List ℕ) (b : ℕ) → Spaces n s r → is_name_char (first_or b r) ≡ false → is_name_char (first_or b s) ≡ false
gap_first zero s r b h k = subst (λ z. is_name_char (first_or b z) ≡ false) (sym h) k
gap_first (suc n) s r b h k = spaces_first n s r b h

attributes_first : (ts seen : List Attribute) (s r : List ℕ) (b : ℕ) → Attributes seen ts s r → is_name_char (first_or b r) ≡ false → is_name_char (first_or b s) ≡ false
attributes_first [] seen s r b h k = subst (λ z. is_name_char (first_or b z) ≡ false) (sym h) k
attributes_first (t ∷ ts) seen s r b (n, a, c, m, sp, some, kc, hk, va, h) k = spaces_first n s a b sp

some_first : (ts seen : List Attribute) (s r : List ℕ) (b : ℕ) → 0 < length ts → Attributes seen ts s r → is_name_char (first_or b s) ≡ false
some_first [] seen s r b some h = absurd (omega arith)
some_first (t ∷ ts) seen s r b some (n, a, c, m, sp, named_key, kc, hk, va, h) = spaces_first n s a b sp

behind : (b : ℕ) (w : List ℕ) (ts : List Attribute) (r m : List ℕ) → TagUpTo w ts r m → is_name_char (first_or b m) ≡ false → Behind b w r
behind b w ts r m (a, d, e, nm, nr, us) k = (a, d, e, nm, attributes_first ts [] d m b us k)

in_behind : (l : Lexical) (r : List ℕ) (b : ℕ) → TagIn l r → Behind b (lex_name l) r
in_behind (BeforeAttributeName w ts) r b (m, n, tag, sp) = behind b w ts r m tag (spaces_first n m [] b sp)
in_behind (AttributeName w ts k) r b (m, tag, (n, a, sp, some, kc)) = behind b w ts r m tag (spaces_first n m a b sp)
in_behind (AfterAttributeName w ts k) r b (m, d, i, tag, (n, a, sp, some, kc), hk, gap) = behind b w ts r m tag (spaces_first n m a b sp)
in_behind (BeforeAttributeValue w ts k) r b (m, d, u, i, j, tag, (n, a, sp, some, kc), hk, g1, g2) = behind b w ts r m tag (spaces_first n m a b sp)
in_behind (InAttributeValue w ts k q v) r b (m, d, u, tag, (n, a, sp, some, kc), hk, quote, tx) = behind b w ts r m tag (spaces_first n m a b sp)
in_behind (ValueReference w ts k q v p) r b (m, d, u, e, tag, (n, a, sp, some, kc), hk, quote, tx, lk, back) = behind b w ts r m tag (spaces_first n m a b sp)
in_behind (AfterAttributeValue w ts) r b ((a, d, e, nm, nr, us), some) = (a, d, e, nm, some_first ts [] d [] b some us)
in_behind (SelfClosing w ts) r b (m, n, tag, sp, v) = behind b w ts r m tag (gap_first n m (47 ∷ []) b sp name_47)
in_behind l r b h = elim h [ ]

abbrev NoneWhole : List ℕ → Type 0
NoneWhole r = (w : List ℕ) (ts : List Attribute) (q : List ℕ) → StartTag w ts r q → ⊥

after_by : (s : List ℕ) (ws : List (List ℕ)) (r w : List ℕ) (b : ℕ) → EndsWith ws r s → NoneWhole r → Behind b w r → StandsAfterTagName s b
after_by s ws r w b en none (a, m, e, nm, k) = (ws, w, a, m, subst (λ z. EndsWith ws z s) e en, nm, k, λ ts q st. none w ts q (subst (λ z. StartTag w ts z q) (sym e) st))

to_after : (s : List ℕ) (os ws : List (List ℕ)) (r : List ℕ) (l : Lexical) (b : ℕ) (o o0 : List Event) → EndsWith ws r s → Spot l os ws r → Told l o o0 → (o ≡ o0 → NoneWhole r) → AfterTagName l b → StandsAfterTagName s b
to_after s os ws r (TagName w) b o o0 en (e, (a, er, nm)) told none k = after_by s ws r w b en (none told) (a, [], er, nm, k)
to_after s os ws r (BeforeAttributeName w ts) b o o0 en (e, h) told none k = after_by s ws r w b en (none told) (in_behind (BeforeAttributeName w ts) r b h)
to_after s os ws r (AttributeName w ts n) b o o0 en (e, h) told none k = after_by s ws r w b en (none told) (in_behind (AttributeName w ts n) r b h)
to_after s os ws r (AfterAttributeName w ts n) b o o0 en (e, h) told none k = after_by s ws r w b en (none told) (in_behind (AfterAttributeName w ts n) r b h)
to_after s os ws r (BeforeAttributeValue w ts n) b o o0 en (e, h) told none k = after_by s ws r w b en (none told) (in_behind (BeforeAttributeValue w ts n) r b h)
to_after s os ws r (InAttributeValue w ts n q v) b o o0 en (e, h) told none k = after_by s ws r w b en (none told) (in_behind (InAttributeValue w ts n q v) r b h)
to_after s os ws r (ValueReference w ts n q v p) b o o0 en (e, h) told none k = after_by s ws r w b en (none told) (in_behind (ValueReference w ts n q v p) r b h)
to_after s os ws r (AfterAttributeValue w ts) b o o0 en (e, h) told none k = after_by s ws r w b en (none told) (in_behind (AfterAttributeValue w ts) r b h)
to_after s os ws r (SelfClosing w ts) b o o0 en (e, h) told none k = after_by s ws r w b en (none told) (in_behind (SelfClosing w ts) r b h)
to_after s os ws r l b o o0 en h told none k = elim k [ ]

to_less : (s : List ℕ) (os ws : List (List ℕ)) (r : List ℕ) (l : Lexical) → EndsWith ws r s → Spot l os ws r → AfterLess l → StandsAfterLess s
to_less s os ws r TagOpen en (e, er) k = (ws, inl (subst (λ z. EndsWith ws z s) er en))
to_less s os ws r MarkupDeclaration en (e, er) k = (ws, inr (inl (subst (λ z. EndsWith ws z s) er en)))
to_less s os ws r CommentStart en (e, er) k = (ws, inr (inr (subst (λ z. EndsWith ws z s) er en)))
to_less s os ws r l en h k = elim k [ ]

-- from the text to the machine

machine_is : (c : ℕ) (m m1 m2 : Machine) (s : List ℕ) → run c m s ≡ Some m2 → run c m s ≡ Some m1 → m1 ≡ m2
machine_is c m m1 m2 s e k = let same : Some m1 ≡ Some m2 = sym k ∙ e in cc

from_unsupported : (d c : ℕ) (s : List ℕ) (m : Machine) (b : ℕ) → run c (start d) s ≡ Some m → EndsUnsupportedName s b → AtUnsupportedName m.lex b
from_unsupported d c s m b e (ws, w, a, (n, p, split, tokens), nm, rf, nb) =
    let x = split_run d c n ws p (60 ∷ a) s m split tokens e in
    let is = machine_is c x.there (at (entered (flushed x.there)) (TagName w)) m (60 ∷ a) x.reads (name_is c x.there m w a [] x.ready x.reads nm) in
    subst (λ z. AtUnsupportedName z.lex b) is (rf, nb)

from_repeated : (d c : ℕ) (s : List ℕ) (m : Machine) (b : ℕ) → run c (start d) s ≡ Some m → EndsRepeatedName s b → AtRepeatedName m.lex b
from_repeated d c s m b e (ws, r, w, ts, g, k, (n, p, split, tokens), tag, key, hk, nb) =
    let x = split_run d c n ws p r s m split tokens e in
    let is = machine_is c x.there (at (entered (flushed x.there)) (AttributeName w ts k)) m r x.reads (key_is c x.there m w ts r g k [] x.ready x.reads tag key) in
    subst (λ z. AtRepeatedName z.lex b) is (hk, nb)

-- a reference ends at a `;` alone

abbrev NoDone : Turn → Type 0
NoDone Stop = Unit {0}
NoDone (More q) = Unit {0}
NoDone (Done x) = ⊥

turn_if : (t : Bool) (x y : Turn) → (t ≡ true → NoDone x) → (t ≡ false → NoDone y) → NoDone (if t then x else y)
turn_if true x y f g = f refl
turn_if false x y f g = g refl

named_more : (es : List Entity) → NoDone (more_named es)
named_more [] = tt
named_more (e ∷ es) = tt

clash : {A : Type 0} (t : Bool) → t ≡ true → t ≡ false → A
clash t e k = cc

not_named : (es : List Entity) (b : ℕ) → (b == 59) ≡ false → NoDone (named es b)
not_named es b f = turn_if (b == 59) (whole es) (more_named (after_char b es)) (λ h. clash (b == 59) h f) (λ h. named_more (after_char b es))

not_done : (v b : ℕ) → (b == 59) ≡ false → NoDone (done v b)
not_done v b f = turn_if (b == 59 && is_referable v) (Done v) Stop (λ h. clash (b == 59) (and_parts (b == 59) (is_referable v) h).0 f) (λ h. tt)

no_done : (p : Reference) (b : ℕ) → (b == 59) ≡ false → NoDone (ref_step p b)
no_done Amp b f = turn_if (b == 35) (More Hash) (named entities b) (λ h. tt) (λ h. not_named entities b f)
no_done (Named es) b f = not_named es b f
no_done Hash b f =
    turn_if (is_digit b) (dec (0 * 10 + digit_of b)) (if lower b == 120 then More HexMark else Stop)
    (λ h. turn_if (nat_le (0 * 10 + digit_of b) 1114111) (More (Dec (0 * 10 + digit_of b))) Stop (λ k. tt) (λ k. tt))
    (λ h. turn_if (lower b == 120) (More HexMark) Stop (λ k. tt) (λ k. tt))
no_done (Dec v) b f =
    turn_if (is_digit b) (dec (v * 10 + digit_of b)) (done v b)
    (λ h. turn_if (nat_le (v * 10 + digit_of b) 1114111) (More (Dec (v * 10 + digit_of b))) Stop (λ k. tt) (λ k. tt))
    (λ h. not_done v b f)
no_done HexMark b f = turn_if (is_hex b) (hex (0 * 16 + digit_of b)) Stop (λ h. turn_if (nat_le (0 * 16 + digit_of b) 1114111) (More (Hex (0 * 16 + digit_of b))) Stop (λ k. tt) (λ k. tt)) (λ h. tt)
no_done (Hex v) b f =
    turn_if (is_hex b) (hex (v * 16 + digit_of b)) (done v b)
    (λ h. turn_if (nat_le (v * 16 + digit_of b) 1114111) (More (Hex (v * 16 + digit_of b))) Stop (λ k. tt) (λ k. tt))
    (λ h. not_done v b f)

-- inside a reference the machine stays there up to a `;`
stays : (c : ℕ) (m : Machine) (more : Reference → Lexical) (end : ℕ → Lexical) → Host c m more end → ((q : Reference) → InReference (more q)) → (w : List ℕ) (p : Reference) (m2 : Machine) → Lacks 59 w → run c (at m (more p)) w ≡ Some m2 → InReference m2.lex
stays c m more end host ok [] p m2 lk e = let is : at m (more p) ≡ m2 = cc in subst (λ z. InReference z.lex) is (ok p)
stays c m more end host ok (b ∷ w) p m2 lk e =
    go (ref_step p b) (no_done p b (ne_eqb b 59 lk.0)) (λ q k. stays c m more end host ok w q m2 lk.1 k) (sym (ap (λ o. then_run o (λ m1. run c m1 w)) (host p b)) ∙ e)
  where
    go : (o : Turn) → NoDone o → ((q : Reference) → run c (at m (more q)) w ≡ Some m2 → InReference m2.lex) → then_run (ref_turn m more end o) (λ m1. run c m1 w) ≡ Some m2 → InReference m2.lex
    go Stop h f k = cc
    go (More q) h f k = f q k
    go (Done x) h f k = elim h [ ]

text_amp : (c : ℕ) (l : Lexical) (m m2 : Machine) (w : List ℕ) → IsReady l → Lacks 59 w → run c (at m l) (38 ∷ w) ≡ Some m2 → InReference m2.lex
text_amp c Data m m2 w ready lk e = go (has_room c m) e
  where
    go : (t : Bool) → then_run (if t then Some (at m (TextReference [] Amp)) else None) (λ m1. run c m1 w) ≡ Some m2 → InReference m2.lex
    go true k = stays c m (λ q. TextReference [] q) (λ y. InText (y ∷ [])) (λ p b. refl) (λ q. tt) w Amp m2 lk k
    go false k = cc
text_amp c (InText t) m m2 w ready lk e = stays c m (λ q. TextReference t q) (λ y. InText (t ++ y ∷ [])) (λ p b. refl) (λ q. tt) w Amp m2 lk e
text_amp c l m m2 w ready lk e = elim ready [ ]

from_reference : (d c : ℕ) (s : List ℕ) (m : Machine) → run c (start d) s ≡ Some m → StandsInReference s → InReference m.lex
from_reference d c s m e (ws, r, (n, p, split, tokens), inl (w, er, lk)) =
    let x = split_run d c n ws p r s m split tokens e in
    text_amp c x.there.lex x.there m w x.ready lk (ap (λ z. run c x.there z) (sym er) ∙ x.reads)
from_reference d c s m e (ws, r, (n, p, split, tokens), inr (q, u, v, z, (w, ts, k, g, b, tag, key, hk, (j, a, i, sp, si, iq)), tx, (y, ez, lk))) =
    let x = split_run d c n ws p r s m split tokens e in
    let f = entered (flushed x.there) in
    let quote : run c (at f (BeforeAttributeValue w ts k)) (q ∷ u) ≡ run c (at f (InAttributeValue w ts k q [])) u = rw (quote_not_space q iq, iq) refl in
    let amp : run c (at f (InAttributeValue w ts k q v)) (38 ∷ y) ≡ run c (at f (ValueReference w ts k q v Amp)) y = rw (quote_not_amp q iq) refl in
    let walk : run c x.there r ≡ run c (at f (ValueReference w ts k q v Amp)) y = key_is c x.there m w ts r g k b x.ready x.reads tag key
    ∙ key_equals c f w ts k j b a hk sp
    ∙ equals_spaces c f w ts k i a (q ∷ u) si
    ∙ quote
    ∙ value_run c w ts k q v [] u z f iq tx
    ∙ ap (λ o. run c (at f (InAttributeValue w ts k q v)) o) ez
    ∙ amp in
    stays c f (λ o. ValueReference w ts k q v o) (λ o. InAttributeValue w ts k q (v ++ o ∷ [])) (λ o t. refl) (λ o. tt) y Amp m lk (sym walk ∙ x.reads)

-- end tags

abbrev EndState : Lexical → Type 0
EndState (EndTagName left) = Unit {0}
EndState AfterEndTagName = Unit {0}
EndState l = ⊥

end_step : (c : ℕ) (l : Lexical) (m : Machine) (b : ℕ) → EndState l → (b == 62) ≡ false → On (λ m1. EndState m1.lex) (step_at c m l b)
end_step c (EndTagName []) m b h f =
    on_if (λ m1. EndState m1.lex) (is_space b) (Some (at m AfterEndTagName)) (if b == 62 then Some (after_end m) else None) (λ k. tt) (λ k. on_if (λ m1. EndState m1.lex) (b == 62) (Some (after_end m)) None (λ t. clash (b == 62) t f) (λ t. tt))
end_step c (EndTagName (x ∷ xs)) m b h f = on_if (λ m1. EndState m1.lex) (lower b == x) (Some (at m (EndTagName xs))) None (λ k. tt) (λ k. tt)
end_step c AfterEndTagName m b h f =
    on_if (λ m1. EndState m1.lex) (is_space b) (Some (at m AfterEndTagName)) (if b == 62 then Some (after_end m) else None) (λ k. tt) (λ k. on_if (λ m1. EndState m1.lex) (b == 62) (Some (after_end m)) None (λ t. clash (b == 62) t f) (λ t. tt))
end_step c l m b h f = elim h [ ]

end_stays : (c : ℕ) (a : List ℕ) (m m2 : Machine) → EndState m.lex → Lacks 62 a → run c m a ≡ Some m2 → EndState m2.lex
end_stays c [] m m2 h lk e = let is : m ≡ m2 = cc in subst (λ z. EndState z.lex) is h
end_stays c (b ∷ a) m m2 h lk e =
    let x = then_some (step c m b) (λ m1. run c m1 a) m2 e in
    end_stays c a x.0 m2 (on_get (λ m1. EndState m1.lex) (step c m b) x.0 (end_step c m.lex m b h (ne_eqb b 62 lk.0)) x.1) lk.1 x.2

end_in : (l : Lexical) (os : List (List ℕ)) (b : ℕ) → EndState l → InEndTag l os b
end_in (EndTagName left) os b h = tt
end_in AfterEndTagName os b h = tt
end_in l os b h = elim h [ ]

slash_is : (c : ℕ) (m g : Machine) (w : List ℕ) (ws : List (List ℕ)) (a : List ℕ) → IsReady m.lex → flushed m ≡ g → g.opened ≡ w ∷ ws → run c m (60 ∷ 47 ∷ a) ≡ run c (record g { lex = EndTagName w; opened = ws }) a
slash_is c m g w ws a ready e o = rw (less_step c m m.lex ready, e, o, or-true (has_room c g)) refl

-- just behind `<`
open_is : (c : ℕ) (m m2 : Machine) → IsReady m.lex → run c m (60 ∷ []) ≡ Some m2 → at (flushed m) TagOpen ≡ m2
open_is c m m2 ready e =
    go (has_room c (flushed m) || is_some_open (flushed m).opened) (sym (ap (λ o. then_run o (λ m1. Some m1)) (less_step c m m.lex ready)) ∙ e)
  where
    go : (t : Bool) → then_run (if t then Some (at (flushed m) TagOpen) else None) (λ m1. Some m1) ≡ Some m2 → at (flushed m) TagOpen ≡ m2
    go true k = cc
    go false k = cc

no_one : (ws : List (List ℕ)) → ws ≡ [] → is_none_open ws
no_one [] e = tt
no_one (w ∷ ws) e = cc

from_end : (d c : ℕ) (s : List ℕ) (m : Machine) (b : ℕ) → run c (start d) s ≡ Some m → StandsInEndTag s b → InEndTag m.lex m.opened b
from_end d c s m b e (inl (w, ws, a, (n, p, split, tokens), lk)) =
    let x = split_run d c n (w ∷ ws) p (60 ∷ 47 ∷ a) s m split tokens e in
    let g = flushed x.there in
    let walk = slash_is c x.there g w ws a x.ready refl (flushed_opened x.there.lex x.there ∙ x.opened) in
    end_in m.lex m.opened b (end_stays c a (record g { lex = EndTagName w; opened = ws }) m tt lk (sym walk ∙ x.reads))
from_end d c s m b e (inr ((n, p, split, tokens), eb)) =
    let x = split_run d c n [] p (60 ∷ []) s m split tokens e in
    let is = open_is c x.there m x.ready x.reads in
    subst (λ z. InEndTag z.lex z.opened b) is (eb, no_one (flushed x.there).opened (flushed_opened x.there.lex x.there ∙ x.opened))

-- start tags

chars_front : (xs s r : List ℕ) → NameChars xs s r → (t : List ℕ) × (s ≡ t ++ r) × NameChars xs t []
chars_front [] s r h = ([], h, refl)
chars_front (x ∷ xs) s r (b, m, e, lo, ok, h) = let y = chars_front xs m r h in (b ∷ y.0, e ∙ ap (λ z. b ∷ z) y.1, (b, y.0, refl, lo, ok, y.2))

name_front : (w s r : List ℕ) → page.ElementName w s r → (t : List ℕ) × (s ≡ t ++ r) × page.ElementName w t []
name_front [] s r h = elim h [ ]
name_front (x ∷ xs) s r (b, m, e, lo, ok, h) = let y = chars_front xs m r h in (b ∷ y.0, e ∙ ap (λ z. b ∷ z) y.1, (b, y.0, refl, lo, ok, y.2))

start_more : (w : List ℕ) (ts : List Attribute) (r q : List ℕ) → StartTag w ts r [] → StartTag w ts (r ++ q) q
start_more w ts r q (a, b, m, e, nm, nr, us, (n, t, sp, end)) =
    let tag = tag_more w ts r m q (a, b, e, nm, nr, us) in
    (tag.0, tag.1, m ++ q, tag.2, tag.3, tag.4, tag.5, (n, t ++ q, spaces_more n m t q sp, last end))
  where
    last : ((t ≡ 62 ∷ []) ⊎ ((is_void w ≡ true) × (t ≡ 47 ∷ 62 ∷ []))) → ((t ++ q ≡ 62 ∷ q) ⊎ ((is_void w ≡ true) × (t ++ q ≡ 47 ∷ 62 ∷ q)))
    last (inl k) = inl (ap (λ z. z ++ q) k)
    last (inr k) = inr (k.0, ap (λ z. z ++ q) k.1)

abbrev StaysOrWhole : List ℕ → List ℕ → Machine → Type 0
StaysOrWhole w r m = TagIn m.lex r ⊎ ((ts : List Attribute) × (q : List ℕ) × StartTag w ts r q)

tag_by : (c : ℕ) (q r w : List ℕ) (m m1 m2 : Machine) → (TagIn m1.lex r → lex_name m1.lex ≡ w → StaysOrWhole w (r ++ q) m2) → TagNext m w r m1 → StaysOrWhole w (r ++ q) m2
tag_by c q r w m m1 m2 ih (inl (t, n, os, out)) = ih t n
tag_by c q r w m m1 m2 ih (inr (ts, st, is)) = inr (ts, q, start_more w ts r q st)

tag_stays : (c : ℕ) (q r w : List ℕ) (m m2 : Machine) → TagIn m.lex r → lex_name m.lex ≡ w → run c m q ≡ Some m2 → StaysOrWhole w (r ++ q) m2
tag_stays c [] r w m m2 h n e =
    let is : m ≡ m2 = cc in
    inl (subst (λ z. TagIn m2.lex z) (sym (app_nil r)) (subst (λ z. TagIn z.lex r) is h))
tag_stays c (b ∷ q) r w m m2 h n e =
    let x = then_some (step c m b) (λ m1. run c m1 q) m2 e in
    let next = on_get (λ m1. TagNext m (lex_name m.lex) (r ++ b ∷ []) m1) (step c m b) x.0 (tag_step c m m.lex r b h) x.1 in
    subst (λ z. StaysOrWhole w z m2) (append_assoc r (b ∷ []) q) (tag_by c q (r ++ b ∷ []) w m x.0 m2 (λ t k. tag_stays c q (r ++ b ∷ []) w x.0 m2 t k x.2) (subst (λ z. TagNext m z (r ++ b ∷ []) x.0) n next))

in_after : (l : Lexical) (r : List ℕ) (b : ℕ) → TagIn l r → AfterTagName l b
in_after (BeforeAttributeName w ts) r b h = tt
in_after (AttributeName w ts k) r b h = tt
in_after (AfterAttributeName w ts k) r b h = tt
in_after (BeforeAttributeValue w ts k) r b h = tt
in_after (InAttributeValue w ts k q v) r b h = tt
in_after (ValueReference w ts k q v p) r b h = tt
in_after (AfterAttributeValue w ts) r b h = tt
in_after (SelfClosing w ts) r b h = tt
in_after l r b h = elim h [ ]

after_name : (c : ℕ) (f m : Machine) (w a q : List ℕ) (b : ℕ) → page.ElementName w a [] → is_name_char (first_or b q) ≡ false → run c (at f (TagName w)) q ≡ Some m → ((ts : List Attribute) (r : List ℕ) → StartTag w ts (60 ∷ (a ++ q)) r → ⊥) → AfterTagName m.lex b
after_name c f m w a [] b nm nb e none = let is : at f (TagName w) ≡ m = cc in subst (λ z. AfterTagName z.lex b) is nb
after_name c f m w a (x ∷ q) b nm nb e none =
    let g = at f (TagName w) in
    let two = then_some (step c g x) (λ m1. run c m1 q) m e in
    let step_is : step c g x ≡ (if is_refused w then None else (if is_space x then Some (at g (BeforeAttributeName w [])) else tag_end g w [] x)) = rw nb refl in
    let next = on_get (λ m1. TagNext g w (60 ∷ (a ++ x ∷ [])) m1) (step c g x) two.0 (subst (λ o. On (λ m1. TagNext g w (60 ∷ (a ++ x ∷ [])) m1) o) (sym step_is) (name_ends g w a (60 ∷ a) x refl nm)) two.1 in
    last (tag_by c q (60 ∷ (a ++ x ∷ [])) w g two.0 m (λ t k. tag_stays c q (60 ∷ (a ++ x ∷ [])) w two.0 m t k two.2) next)
  where
    last : StaysOrWhole w (60 ∷ ((a ++ x ∷ []) ++ q)) m → AfterTagName m.lex b
    last (inl t) = in_after m.lex (60 ∷ ((a ++ x ∷ []) ++ q)) b t
    last (inr (ts, r, st)) = absurd (none ts r (subst (λ z. StartTag w ts (60 ∷ z) r) (append_assoc a (x ∷ []) q) st))

from_after : (d c : ℕ) (s : List ℕ) (m : Machine) (b : ℕ) → run c (start d) s ≡ Some m → StandsAfterTagName s b → AfterTagName m.lex b
from_after d c s m b e (ws, w, a, q, (n, p, split, tokens), nm, nb, none) =
    let x = split_run d c n ws p (60 ∷ a) s m split tokens e in
    let y = name_front w a q nm in
    after_name c (entered (flushed x.there)) m w y.0 q b y.2 nb (sym (name_is c x.there m w a q x.ready x.reads nm) ∙ x.reads) (λ ts r st. none ts r (subst (λ z. StartTag w ts (60 ∷ z) r) (sym y.1) st))

-- elsewhere behind `<`

from_less : (d c : ℕ) (s : List ℕ) (m : Machine) → run c (start d) s ≡ Some m → StandsAfterLess s → AfterLess m.lex
from_less d c s m e (ws, inl (n, p, split, tokens)) =
    let x = split_run d c n ws p (60 ∷ []) s m split tokens e in
    subst (λ z. AfterLess z.lex) (open_is c x.there m x.ready x.reads) tt
from_less d c s m e (ws, inr (inl (n, p, split, tokens))) =
    let x = split_run d c n ws p (60 ∷ 33 ∷ []) s m split tokens e in
    let f = flushed x.there in
    let room = room_of c x.there m 33 [] x.ready refl x.reads in
    let walk : run c (at f TagOpen) (33 ∷ []) ≡ Some (at f MarkupDeclaration) = rw room refl in
    let is = machine_is c x.there (at f MarkupDeclaration) m (60 ∷ 33 ∷ []) x.reads (less_is c x.there (33 ∷ []) x.ready room ∙ walk) in
    subst (λ z. AfterLess z.lex) is tt
from_less d c s m e (ws, inr (inr (n, p, split, tokens))) =
    let x = split_run d c n ws p (60 ∷ 33 ∷ 45 ∷ []) s m split tokens e in
    let f = flushed x.there in
    let room = room_of c x.there m 33 (45 ∷ []) x.ready refl x.reads in
    let walk : run c (at f TagOpen) (33 ∷ 45 ∷ []) ≡ Some (at f CommentStart) = rw room refl in
    let is = machine_is c x.there (at f CommentStart) m (60 ∷ 33 ∷ 45 ∷ []) x.reads (less_is c x.there (33 ∷ 45 ∷ []) x.ready room ∙ walk) in
    subst (λ z. AfterLess z.lex) is tt

-- each row

pub record RowsAgree (s : List ℕ) (m : Machine) (b : ℕ) : Type 0 where
  pub unsupported : AtUnsupportedName m.lex b → EndsUnsupportedName s b
  pub unsupported_back : EndsUnsupportedName s b → AtUnsupportedName m.lex b
  pub repeated : AtRepeatedName m.lex b → EndsRepeatedName s b
  pub repeated_back : EndsRepeatedName s b → AtRepeatedName m.lex b
  pub reference : InReference m.lex → StandsInReference s
  pub reference_back : StandsInReference s → InReference m.lex
  pub stray : InEndTag m.lex m.opened b → StandsInEndTag s b
  pub stray_back : StandsInEndTag s b → InEndTag m.lex m.opened b
  pub after : AfterTagName m.lex b → StandsAfterTagName s b
  pub after_back : StandsAfterTagName s b → AfterTagName m.lex b
  pub less : AfterLess m.lex → StandsAfterLess s
  pub less_back : StandsAfterLess s → AfterLess m.lex

pub rows_agree : (d c : ℕ) (s : List ℕ) (m : Machine) (b : ℕ) → run c (start d) s ≡ Some m → RowsAgree s m b
rows_agree d c s m b e =
    let h = spotted d c s m e in
    let os = m.opened in
    let ws = h.open_there in
    let r = h.rest in
    let en : EndsWith ws r s = (h.count, h.whole, h.split, h.tokens) in
    let ready = (tokens_run d c h.count ws h.whole h.before h.tokens h.ran).0 in
    let reads : run c h.before r ≡ Some m = sym (ap (λ o. then_run o (λ m1. run c m1 r)) h.ran) ∙ sym (run_append c h.whole r (start d)) ∙ ap (λ z. run c (start d) z) (sym h.split) ∙ e in
    record {
      unsupported = to_unsupported s os ws r m.lex b en h.spot;
      unsupported_back = from_unsupported d c s m b e;
      repeated = to_repeated s os ws r m.lex b en h.spot;
      repeated_back = from_repeated d c s m b e;
      reference = to_reference s os ws r m.lex en h.spot;
      reference_back = from_reference d c s m e;
      stray = to_end s os ws r m.lex b en (tokens_lack h.count ws h.whole h.tokens) h.spot;
      stray_back = from_end d c s m b e;
      after = to_after s os ws r m.lex b m.out (emitted h.before) en h.spot h.told (λ told w ts q st. none_whole c h.before m w ts r q ready reads told st);
      after_back = from_after d c s m b e;
      less = to_less s os ws r m.lex en h.spot;
      less_back = from_less d c s m e;
    }
