-- What the machine reads to its end is a page, and the tree that it emitted is the page's.
use Rattle.std.proofs.Common.{◌≡◌, ℕ, zero, suc, pred, ◌+◌, ◌*◌, ◌<◌, Bool, true, false, ◌&&◌, ◌||◌, ◌⊎◌, inl, inr, List, [], ◌∷◌, ◌++◌, length, Option, Some, None, refl, sym, ap, ◌∙◌, subst, arith, append_assoc}
use Rattle.std.specs.Prelude.{nat_le, ◌==◌, if◌then◌else◌}
use Rattle.std.specs.Bool.{MatchBool}
use Rattle.std.proofs.lemmas.Bool.{eqb-false}
use Rattle.std.proofs.lemmas.Bool.Decides.{nat_tests}
use Rattle.page_grammar.specs.Chars.{is_space, lower, is_letter, is_digit, is_name_char, is_attribute_name_char, is_quote, Entity, entity, entities, is_referable, is_hex, digit_of, value_from}
use Rattle.page_grammar.specs.Names.{is_void, is_refused}
use Rattle.page_grammar.specs.Page as page
use Rattle.page_grammar.specs.Page.{Attribute, Siblings, Nil, TextNode, CommentNode, ElementNode, size, NotText, IsNil, Spaces, IsEntity, DecimalDigits, HexadecimalDigits, IsBody, OneChar, Text, NameChars, AttributeNameChars, has_attribute, Attributes, TagEnd, StartTag, NameAgain, EndTag, CommentText, Content, Page}
use Rattle.page_grammar.specs.Machine.{Event, TextEvent, CommentEvent, OpenEvent, CloseEvent, events, Reference, Amp, Named, Hash, Dec, HexMark, Hex, Turn, Stop, More, Done, after_one, after_char, whole_one, whole, more_named, named, dec, hex, done, ref_step, Lexical, Data, InText, TextReference, TagOpen, MarkupDeclaration, CommentStart, InComment, TagName, BeforeAttributeName, AttributeName, AfterAttributeName, BeforeAttributeValue, InAttributeValue, ValueReference, AfterAttributeValue, SelfClosing, EndTagName, AfterEndTagName, Machine, start, at, has_room, is_some_open, less, after_leaf, after_start, entered, begin_tag, after_void, started, after_end, slash, attribute, with_attribute, tag_end, ref_turn, Dashes, NoDash, OneDash, TwoDashes, is_two, dash, dashes, step_at, step, run, is_none_open, IsReady, IsEnd, flushed_at, emitted}
use Rattle.page_grammar.proofs.Facts.{app_nil, same_char, and_parts, On, on_if, on_get, then_some, suc_pred, space_32, not_same}

abbrev NotTextEvent : List Event → Type 0
NotTextEvent [] = Unit {0}
NotTextEvent (TextEvent t ∷ es) = ⊥
NotTextEvent (CommentEvent t ∷ es) = Unit {0}
NotTextEvent (OpenEvent w ts ∷ es) = Unit {0}
NotTextEvent (CloseEvent ∷ es) = Unit {0}

-- s completes these open elements, and tells es
abbrev Completes : (c : ℕ) → List (List ℕ) → (d n : ℕ) → List ℕ → List Event → Type 0
Completes c [] d n s es = (f : Siblings) × Content d c n f s [] × (es ≡ events f)
Completes c (w ∷ ws) d n s es =
    (f : Siblings) × (r : List ℕ) × (q : List ℕ) × (es' : List Event)
    × Content d c n f s r × EndTag w r q × Completes c ws (suc d) (n + size f) q es' × (es ≡ events f ++ CloseEvent ∷ es')

-- what follows a start tag
abbrev Follows : (c : ℕ) → Machine → List ℕ → List Attribute → List ℕ → List Event → Type 0
Follows c m w ts r es =
    (es' : List Event)
    × MatchBool (is_void w)
    (Completes c m.opened (suc m.room) (suc m.next) r es' × (es ≡ OpenEvent w ts ∷ CloseEvent ∷ es'))
    (Completes c (w ∷ m.opened) m.room (suc m.next) r es' × (es ≡ OpenEvent w ts ∷ es'))

-- the rest of a start tag behind its name and these attributes
abbrev Tag : (c : ℕ) → Machine → List ℕ → List Attribute → List ℕ → List Event → Type 0
Tag c m w seen s es =
    (ts : List Attribute) × (a : List ℕ) × (r : List ℕ) × Attributes seen ts s a × TagEnd w a r × Follows c m w (seen ++ ts) r es

-- the rest of a reference to x
abbrev pub ReferenceRest : Reference → ℕ → List ℕ → List ℕ → Type 0
ReferenceRest Amp x s r = (w : List ℕ) × (s ≡ w ++ 59 ∷ r) × IsBody w x
ReferenceRest (Named es) x s r = (w : List ℕ) × (s ≡ w ++ 59 ∷ r) × IsEntity es w x
ReferenceRest Hash x s r = (w : List ℕ) × (s ≡ w ++ 59 ∷ r) × IsBody (35 ∷ w) x
ReferenceRest (Dec v) x s r = (ds : List ℕ) × (s ≡ ds ++ 59 ∷ r) × DecimalDigits ds × (value_from 10 v ds ≡ x) × (is_referable x ≡ true)
ReferenceRest HexMark x s r = (ds : List ℕ) × (s ≡ ds ++ 59 ∷ r) × (0 < length ds) × HexadecimalDigits ds × (value_from 16 0 ds ≡ x) × (is_referable x ≡ true)
ReferenceRest (Hex v) x s r = (ds : List ℕ) × (s ≡ ds ++ 59 ∷ r) × HexadecimalDigits ds × (value_from 16 v ds ≡ x) × (is_referable x ≡ true)

abbrev RunRest : (c : ℕ) → List ℕ → Machine → List ℕ → List Event → Type 0
RunRest c t m s es =
    (u : List ℕ) × (r : List ℕ) × (es' : List Event)
    × Text 60 u s r × NotTextEvent es' × Completes c m.opened m.room (suc m.next) r es' × (es ≡ TextEvent (t ++ u) ∷ es')

abbrev ValueRest : (c : ℕ) → Machine → List ℕ → List Attribute → List ℕ → (q : ℕ) → List ℕ → List ℕ → List Event → Type 0
ValueRest c m w ts k q v s es = (u : List ℕ) × (b : List ℕ) × Text q u s (q ∷ b) × Tag c m w (with_attribute ts k (v ++ u)) b es

abbrev EndRest : (c : ℕ) → Machine → List ℕ → List Event → Type 0
EndRest c m s es =
    (n : ℕ) × (r : List ℕ) × (es' : List Event)
    × Spaces n s (62 ∷ r) × Completes c m.opened (suc m.room) m.next r es' × (es ≡ CloseEvent ∷ es')

abbrev NoteRest : (c : ℕ) → List ℕ → Dashes → Machine → List ℕ → List Event → Type 0
NoteRest c t n m s es =
    (u : List ℕ) × (r : List ℕ) × (es' : List Event)
    × CommentText u (dashes n ++ s) r × Completes c m.opened m.room (suc m.next) r es' × (es ≡ CommentEvent (t ++ u) ∷ es')

-- s completes what the machine has begun
abbrev rest_at : (c : ℕ) → Lexical → Machine → List ℕ → List Event → Type 0
rest_at c Data m s es = Completes c m.opened m.room m.next s es
rest_at c (InText t) m s es = RunRest c t m s es
rest_at c (TextReference t p) m s es = (x : ℕ) × (a : List ℕ) × ReferenceRest p x s a × RunRest c (t ++ x ∷ []) m a es
rest_at c TagOpen m s es = NotTextEvent es × Completes c m.opened m.room m.next (60 ∷ s) es
rest_at c MarkupDeclaration m s es = (a : List ℕ) × (s ≡ 45 ∷ 45 ∷ a) × NoteRest c [] NoDash m a es
rest_at c CommentStart m s es = (a : List ℕ) × (s ≡ 45 ∷ a) × NoteRest c [] NoDash m a es
rest_at c (InComment t n) m s es = NoteRest c t n m s es
rest_at c (TagName w) m s es = (u : List ℕ) × (a : List ℕ) × NameChars u s a × (is_refused (w ++ u) ≡ false) × Tag c m (w ++ u) [] a es
rest_at c (BeforeAttributeName w ts) m s es = Tag c m w ts (32 ∷ s) es
rest_at c (AttributeName w ts k) m s es =
    (u : List ℕ) × (v : List ℕ) × (a : List ℕ) × (b : List ℕ)
    × AttributeNameChars u s a × (has_attribute ts (k ++ u) ≡ false) × page.AttributeValue v a b × Tag c m w (with_attribute ts (k ++ u) v) b es
rest_at c (AfterAttributeName w ts k) m s es = (v : List ℕ) × (b : List ℕ) × page.AttributeValue v (32 ∷ s) b × Tag c m w (with_attribute ts k v) b es
rest_at c (BeforeAttributeValue w ts k) m s es =
    (v : List ℕ) × (i : ℕ) × (q : ℕ) × (a : List ℕ) × (b : List ℕ)
    × Spaces i s (q ∷ a) × (is_quote q ≡ true) × Text q v a (q ∷ b) × Tag c m w (with_attribute ts k v) b es
rest_at c (InAttributeValue w ts k q v) m s es = ValueRest c m w ts k q v s es
rest_at c (ValueReference w ts k q v p) m s es = (x : ℕ) × (a : List ℕ) × ReferenceRest p x s a × ValueRest c m w ts k q (v ++ x ∷ []) a es
rest_at c (AfterAttributeValue w ts) m s es = Tag c m w ts s es
rest_at c (SelfClosing w ts) m s es = (r : List ℕ) × (s ≡ 62 ∷ r) × Follows c m w ts r es
rest_at c (EndTagName left) m s es = (b : List ℕ) × NameAgain left s b × EndRest c m b es
rest_at c AfterEndTagName m s es = EndRest c m s es

abbrev tells_at : (c : ℕ) → Lexical → Machine → List ℕ → List Event → Type 0
tells_at c l m s g = (es : List Event) × rest_at c l m s es × (g ≡ m.out ++ es)

abbrev Tells : (c : ℕ) → Machine → List ℕ → List Event → Type 0
Tells c m s g = tells_at c m.lex m s g

-- references

ref_one : (b : ℕ) (x : ℕ) (w : List ℕ) (es : List Entity) (name : List ℕ) (y : ℕ) → (IsEntity (after_char b es) w x → IsEntity es (b ∷ w) x) → IsEntity (after_one b name y (after_char b es)) w x → ((b ∷ w ≡ name) × (x ≡ y)) ⊎ IsEntity es (b ∷ w) x
ref_one b x w es [] y ih h = inr (ih h)
ref_one b x w es (z ∷ zs) y ih h = ref_if (b == z) refl h
  where
    ref_if : (t : Bool) → (b == z) ≡ t → IsEntity (if t then entity zs y ∷ after_char b es else after_char b es) w x → ((b ∷ w ≡ z ∷ zs) × (x ≡ y)) ⊎ IsEntity es (b ∷ w) x
    ref_if true t (inl k) = let e = same_char b z t in inl (cc, k.1)
    ref_if true t (inr k) = inr (ih k)
    ref_if false t k = inr (ih k)

ref_named : (b : ℕ) (x : ℕ) (es : List Entity) (w : List ℕ) → IsEntity (after_char b es) w x → IsEntity es (b ∷ w) x
ref_named b x [] w h = elim h [ ]
ref_named b x (e ∷ es) w h = ref_one b x w es e.name e.char (ref_named b x es w) h

abbrev pub TurnBack : Reference → ℕ → Turn → Type 0
TurnBack p b Stop = Unit {0}
TurnBack p b (More q) = (x : ℕ) (s r : List ℕ) → ReferenceRest q x s r → ReferenceRest p x (b ∷ s) r
TurnBack p b (Done x) = (s : List ℕ) → ReferenceRest p x (b ∷ s) s

turn_if : (p : Reference) (b : ℕ) (t : Bool) (x y : Turn) → (t ≡ true → TurnBack p b x) → (t ≡ false → TurnBack p b y) → TurnBack p b (if t then x else y)
turn_if p b true x y f g = f refl
turn_if p b false x y f g = g refl

-- what is emitted of names that are read whole
abbrev pub WholeIs : List Entity → Turn → Type 0
WholeIs es Stop = Unit {0}
WholeIs es (More q) = ⊥
WholeIs es (Done x) = IsEntity es [] x

whole_next : (e : Entity) (es : List Entity) (o : Turn) → WholeIs es o → WholeIs (e ∷ es) o
whole_next e es Stop h = tt
whole_next e es (More q) h = h
whole_next e es (Done x) h = inr h

whole_name : (e : Entity) (es : List Entity) (name : List ℕ) → e.name ≡ name → WholeIs es (whole es) → WholeIs (e ∷ es) (whole_one name e.char (whole es))
whole_name e es [] k h = inl (sym k, refl)
whole_name e es (y ∷ ys) k h = whole_next e es (whole es) h

pub whole_is : (es : List Entity) → WholeIs es (whole es)
whole_is [] = tt
whole_is (e ∷ es) = whole_name e es e.name refl (whole_is es)

whole_back : (b : ℕ) (es : List Entity) (o : Turn) → b ≡ 59 → WholeIs es o → TurnBack (Named es) b o
whole_back b es Stop e h = tt
whole_back b es (More q) e h = elim h [ ]
whole_back b es (Done x) e h = λ s. ([], ap (λ y. y ∷ s) e, h)

more_back : (p : Reference) (b : ℕ) (es : List Entity) → ((x : ℕ) (s r : List ℕ) → ReferenceRest (Named es) x s r → ReferenceRest p x (b ∷ s) r) → TurnBack p b (more_named es)
more_back p b [] f = tt
more_back p b (e ∷ es) f = f

done_back : (p : Reference) (v b : ℕ) → ((s : List ℕ) → b ≡ 59 → is_referable v ≡ true → ReferenceRest p v (b ∷ s) s) → TurnBack p b (done v b)
done_back p v b f = turn_if p b (b == 59 && is_referable v) (Done v) Stop (λ h. let k = and_parts (b == 59) (is_referable v) h in λ s. f s (same_char b 59 k.0) k.1) (λ h. tt)

pub ref_back : (p : Reference) (b : ℕ) → TurnBack p b (ref_step p b)
ref_back Amp b =
    turn_if Amp b (b == 35) (More Hash) (named entities b)
    (λ h x s r. λ (w, e, body). (35 ∷ w, (let k = same_char b 35 h in cc), body))
    (λ h. turn_if Amp b (b == 59) (whole entities) (more_named (after_char b entities)) (λ k. tt)
    (λ k. more_back Amp b (after_char b entities) (λ x s r. λ (w, e, en). (b ∷ w, ap (λ y. b ∷ y) e, inl (ref_named b x entities w en)))))
ref_back (Named es) b =
    turn_if (Named es) b (b == 59) (whole es) (more_named (after_char b es))
    (λ h. whole_back b es (whole es) (same_char b 59 h) (whole_is es))
    (λ k. more_back (Named es) b (after_char b es) (λ x s r. λ (w, e, en). (b ∷ w, ap (λ y. b ∷ y) e, ref_named b x es w en)))
ref_back Hash b =
    turn_if Hash b (is_digit b) (dec (0 * 10 + digit_of b)) (if lower b == 120 then More HexMark else Stop)
    (λ h. turn_if Hash b (nat_le (0 * 10 + digit_of b) 1114111) (More (Dec (0 * 10 + digit_of b))) Stop
    (λ k x s r. λ (ds, e, ok, v, rf). let some : 0 < length (b ∷ ds) = omega arith in (b ∷ ds, ap (λ y. b ∷ y) e, inr (inl (b ∷ ds, refl, some, (h, ok), v, rf))))
    (λ k. tt))
    (λ h. turn_if Hash b (lower b == 120) (More HexMark) Stop
    (λ k x s r. λ (ds, e, some, ok, v, rf). (b ∷ ds, ap (λ y. b ∷ y) e, inr (inr (b, ds, refl, same_char (lower b) 120 k, some, ok, v, rf))))
    (λ k. tt))
ref_back (Dec v) b =
    turn_if (Dec v) b (is_digit b) (dec (v * 10 + digit_of b)) (done v b)
    (λ h. turn_if (Dec v) b (nat_le (v * 10 + digit_of b) 1114111) (More (Dec (v * 10 + digit_of b))) Stop
    (λ k x s r. λ (ds, e, ok, y, rf). (b ∷ ds, ap (λ z. b ∷ z) e, (h, ok), y, rf))
    (λ k. tt))
    (λ h. done_back (Dec v) v b (λ s e rf. ([], ap (λ z. z ∷ s) e, tt, refl, rf)))
ref_back HexMark b =
    turn_if HexMark b (is_hex b) (hex (0 * 16 + digit_of b)) Stop
    (λ h. turn_if HexMark b (nat_le (0 * 16 + digit_of b) 1114111) (More (Hex (0 * 16 + digit_of b))) Stop
    (λ k x s r. λ (ds, e, ok, y, rf). let some : 0 < length (b ∷ ds) = omega arith in (b ∷ ds, ap (λ z. b ∷ z) e, some, (h, ok), y, rf))
    (λ k. tt))
    (λ h. tt)
ref_back (Hex v) b =
    turn_if (Hex v) b (is_hex b) (hex (v * 16 + digit_of b)) (done v b)
    (λ h. turn_if (Hex v) b (nat_le (v * 16 + digit_of b) 1114111) (More (Hex (v * 16 + digit_of b))) Stop
    (λ k x s r. λ (ds, e, ok, y, rf). (b ∷ ds, ap (λ z. b ∷ z) e, (h, ok), y, rf))
    (λ k. tt))
    (λ h. done_back (Hex v) v b (λ s e rf. ([], ap (λ z. z ∷ s) e, tt, refl, rf)))

-- trees

not_words : (f : Siblings) (es : List Event) → NotTextEvent (events f ++ es) → NotText f
not_words Nil es h = tt
not_words (TextNode l t f) es h = h
not_words (CommentNode l t f) es h = tt
not_words (ElementNode l w ts k f) es h = tt

push_words : (c : ℕ) (ws : List (List ℕ)) (d n : ℕ) (t s r : List ℕ) (es : List Event) → n < c → 0 < d → 0 < length t → Text 60 t s r → NotTextEvent es → Completes c ws d (suc n) r es → Completes c ws d n s (TextEvent t ∷ es)
push_words c [] d n t s r es hn hd ht h q (f, hf, e) =
    let nw : NotText f = not_words f [] (subst NotTextEvent (e ∙ sym (app_nil (events f))) q) in
    (TextNode n t f, (r, refl, hn, hd, ht, nw, h, hf), ap (λ x. TextEvent t ∷ x) e)
push_words c (w ∷ ws) d n t s r es hn hd ht h q (f, r1, r2, es2, hf, et, hs, e) =
    let nw : NotText f = not_words f (CloseEvent ∷ es2) (subst NotTextEvent e q) in
    let k : suc n + size f ≡ n + suc (size f) = omega arith in
    (TextNode n t f, r1, r2, es2, (r, refl, hn, hd, ht, nw, h, hf), et, subst (λ x. Completes c ws (suc d) x r2 es2) k hs, ap (λ x. TextEvent t ∷ x) e)

push_remark : (c : ℕ) (ws : List (List ℕ)) (d n : ℕ) (t s r : List ℕ) (es : List Event) → n < c → 0 < d → CommentText t s r → Completes c ws d (suc n) r es → Completes c ws d n (60 ∷ 33 ∷ 45 ∷ 45 ∷ s) (CommentEvent t ∷ es)
push_remark c [] d n t s r es hn hd h (f, hf, e) = (CommentNode n t f, (s, r, refl, hn, hd, refl, h, hf), ap (λ x. CommentEvent t ∷ x) e)
push_remark c (w ∷ ws) d n t s r es hn hd h (f, r1, r2, es2, hf, et, hs, e) =
    let k : suc n + size f ≡ n + suc (size f) = omega arith in
    (CommentNode n t f, r1, r2, es2, (s, r, refl, hn, hd, refl, h, hf), et, subst (λ x. Completes c ws (suc d) x r2 es2) k hs, ap (λ x. CommentEvent t ∷ x) e)

pub match_true : (b : Bool) (P Q : Type 0) → b ≡ true → P → MatchBool b P Q
match_true true P Q e h = h
match_true false P Q e h = cc

pub match_false : (b : Bool) (P Q : Type 0) → b ≡ false → Q → MatchBool b P Q
match_false true P Q e h = cc
match_false false P Q e h = h

push_element : (c : ℕ) (ws : List (List ℕ)) (d n : ℕ) (w : List ℕ) (ts : List Attribute) (s a : List ℕ) (es : List Event) → n < c → 0 < d → is_void w ≡ false → StartTag w ts s a → Completes c (w ∷ ws) (pred d) (suc n) a es → Completes c ws d n s (OpenEvent w ts ∷ es)
push_element c [] d n w ts s a es hn hd v h (kids, b, m, es2, hk, et, hs, e) =
    let up = suc_pred d hd in
    let hs' : Completes c [] d (suc n + size kids) m es2 = subst (λ x. Completes c [] x (suc n + size kids) m es2) up hs in
    (ElementNode n w ts kids hs'.0, (a, b, m, refl, hn, hd, h, match_false (is_void w) (IsNil kids × (a ≡ m)) (Content (pred d) c (suc n) kids a b × EndTag w b m) v (hk, et), hs'.1), ap (λ x. OpenEvent w ts ∷ x) (e ∙ ap (λ x. events kids ++ CloseEvent ∷ x) hs'.2))
push_element c (v ∷ vs) d n w ts s a es hn hd nv h (kids, b, m, es2, hk, et, hs, e) =
    let up = suc_pred d hd in
    let hs' : Completes c (v ∷ vs) d (suc n + size kids) m es2 = subst (λ x. Completes c (v ∷ vs) x (suc n + size kids) m es2) up hs in
    let f = hs'.0 in
    let k : (suc n + size kids) + size f ≡ n + suc (size kids + size f) = omega arith in
    let again : OpenEvent w ts ∷ (events kids ++ CloseEvent ∷ (events f ++ CloseEvent ∷ hs'.3)) ≡ events (ElementNode n w ts kids f) ++ CloseEvent ∷ hs'.3 = simp append_assoc in (
      ElementNode n w ts kids f,
      hs'.1,
      hs'.2,
      hs'.3,
      (a, b, m, refl, hn, hd, h, match_false (is_void w) (IsNil kids × (a ≡ m)) (Content (pred d) c (suc n) kids a b × EndTag w b m) nv (hk, et), hs'.4),
      hs'.5,
      subst (λ x. Completes c vs (suc d) x hs'.2 hs'.3) k hs'.6,
      ap (λ x. OpenEvent w ts ∷ x) (e ∙ ap (λ x. events kids ++ CloseEvent ∷ x) hs'.7) ∙ again,
    )

push_void : (c : ℕ) (ws : List (List ℕ)) (d n : ℕ) (w : List ℕ) (ts : List Attribute) (s a : List ℕ) (es : List Event) → n < c → 0 < d → is_void w ≡ true → StartTag w ts s a → Completes c ws d (suc n) a es → Completes c ws d n s (OpenEvent w ts ∷ CloseEvent ∷ es)
push_void c [] d n w ts s a es hn hd v h (f, hf, e) =
    let z : suc n ≡ suc n + 0 = omega arith in (
      ElementNode n w ts Nil f,
      (a, a, a, refl, hn, hd, h, match_true (is_void w) (Unit {0} × (a ≡ a)) (Content (pred d) c (suc n) Nil a a × EndTag w a a) v (tt, refl), subst (λ x. Content d c x f a []) z hf),
      ap (λ x. OpenEvent w ts ∷ CloseEvent ∷ x) e,
    )
push_void c (y ∷ ws) d n w ts s a es hn hd v h (f, r1, r2, es2, hf, et, hs, e) =
    let z : suc n ≡ suc n + 0 = omega arith in
    let k : suc n + size f ≡ n + suc (0 + size f) = omega arith in (
      ElementNode n w ts Nil f,
      r1,
      r2,
      es2,
      (a, a, a, refl, hn, hd, h, match_true (is_void w) (Unit {0} × (a ≡ a)) (Content (pred d) c (suc n) Nil a a × EndTag w a a) v (tt, refl), subst (λ x. Content d c x f a r1) z hf),
      et,
      subst (λ x. Completes c ws (suc d) x r2 es2) k hs,
      ap (λ x. OpenEvent w ts ∷ CloseEvent ∷ x) e,
    )

-- a whole start tag
push_tag : (c : ℕ) (m : Machine) (w : List ℕ) (b s a : List ℕ) (es : List Event) → m.next < c → 0 < m.room → (page.ElementName w b a) → is_refused w ≡ false → s ≡ 60 ∷ b → Tag c (entered m) w [] a es → Completes c m.opened m.room m.next s es
push_tag c m w b s a es hn hd h nr e (ts, a', r, ha, te, (es', fo)) = push_tag_by (is_void w) refl fo
  where
    push_tag_by : (v : Bool) → is_void w ≡ v → MatchBool v (Completes c m.opened (suc (pred m.room)) (suc m.next) r es' × (es ≡ OpenEvent w ts ∷ CloseEvent ∷ es')) (Completes c (w ∷ m.opened) (pred m.room) (suc m.next) r es' × (es ≡ OpenEvent w ts ∷ es')) → Completes c m.opened m.room m.next s es
    push_tag_by true v x = rw x.1 (push_void c m.opened m.room m.next w ts s r es' hn hd v (b, a, a', e, h, nr, ha, te) (subst (λ z. Completes c m.opened z (suc m.next) r es') (suc_pred m.room hd) x.0))
    push_tag_by false v x = rw x.1 (push_element c m.opened m.room m.next w ts s r es' hn hd v (b, a, a', e, h, nr, ha, te) x.0)

-- inside a start tag

spaces_swap : (n : ℕ) (s r : List ℕ) (b : ℕ) → is_space b ≡ true → Spaces (suc n) (32 ∷ s) r → Spaces (suc n) (b ∷ s) r
spaces_swap n s r b h (x, m, e, sp, rest) = (b, m, cc, h, rest)

tag_attr : (c : ℕ) (m : Machine) (w : List ℕ) (ts : List Attribute) (n : ℕ) (k v s a b r : List ℕ) (es : List Event) → Spaces (suc n) s a → 0 < length k → AttributeNameChars k a b → has_attribute ts k ≡ false → page.AttributeValue v b r → Tag c m w (with_attribute ts k v) r es → Tag c m w ts s es
tag_attr c m w ts n k v s a b r es sp some kc hk va (us, a', r', ha, te, fo) =
    let e : with_attribute ts k v ++ us ≡ ts ++ attribute k v ∷ us = append_assoc ts (attribute k v ∷ []) us in
    (attribute k v ∷ us, a', r', (n, a, b, r, sp, some, kc, hk, va, ha), te, subst (λ y. Follows c m w y r' es) e fo)

end_front : (w s r : List ℕ) → TagEnd w s r → TagEnd w (32 ∷ s) r
end_front w s r (n, m, sp, x) = (suc n, m, (32, s, refl, space_32, sp), x)

tag_front : (c : ℕ) (m : Machine) (w : List ℕ) (ts : List Attribute) (s : List ℕ) (es : List Event) → Tag c m w ts s es → Tag c m w ts (32 ∷ s) es
tag_front c m w ts s es ([], a, r, e, te, fo) = ([], 32 ∷ a, r, ap (λ x. 32 ∷ x) e, end_front w a r te, fo)
tag_front c m w ts s es (u ∷ us, a, r, h, te, fo) =
    (u ∷ us, a, r, (suc h.0, h.1, h.2, h.3, (32, s, refl, space_32, h.4), h.5, h.6, h.7, h.8, h.9), te, fo)

no_end : (w s m r : List ℕ) → 32 ∷ s ≡ m → ((m ≡ 62 ∷ r) ⊎ ((is_void w ≡ true) × (m ≡ 47 ∷ 62 ∷ r))) → ⊥
no_end w s m r e (inl k) = not_same 32 62 s r (e ∙ k) refl
no_end w s m r e (inr k) = not_same 32 47 s (62 ∷ r) (e ∙ k.1) refl

end_space_by : (n : ℕ) (w s r m : List ℕ) (b : ℕ) → is_space b ≡ true → Spaces n (32 ∷ s) m → ((m ≡ 62 ∷ r) ⊎ ((is_void w ≡ true) × (m ≡ 47 ∷ 62 ∷ r))) → TagEnd w (b ∷ s) r
end_space_by zero w s r m b h e k = absurd (no_end w s m r e k)
end_space_by (suc n) w s r m b h sp k = (suc n, m, spaces_swap n s m b h sp, k)

end_space : (w s r : List ℕ) (b : ℕ) → is_space b ≡ true → TagEnd w (32 ∷ s) r → TagEnd w (b ∷ s) r
end_space w s r b h (n, m, sp, k) = end_space_by n w s r m b h sp k

tag_space : (c : ℕ) (m : Machine) (w : List ℕ) (ts : List Attribute) (s : List ℕ) (es : List Event) (b : ℕ) → is_space b ≡ true → Tag c m w ts (32 ∷ s) es → Tag c m w ts (b ∷ s) es
tag_space c m w ts s es b h ([], a, r, e, te, fo) = ([], b ∷ s, r, refl, end_space w s r b h (rw e te), fo)
tag_space c m w ts s es b h (u ∷ us, a, r, k, te, fo) =
    (u ∷ us, a, r, (k.0, k.1, k.2, k.3, spaces_swap k.0 s k.1 b h k.4, k.5, k.6, k.7, k.8, k.9), te, fo)

-- a key's value and the rest of its tag
abbrev ValueTag : (c : ℕ) → Machine → List ℕ → List Attribute → List ℕ → List ℕ → List Event → Type 0
ValueTag c m w ts k s es = (v : List ℕ) × (b : List ℕ) × page.AttributeValue v s b × Tag c m w (with_attribute ts k v) b es

vt_space_by : (n : ℕ) (s a : List ℕ) (b : ℕ) → is_space b ≡ true → Spaces n (32 ∷ s) (61 ∷ a) → Spaces n (b ∷ s) (61 ∷ a)
vt_space_by zero s a b h e = not_same 32 61 s a e refl
vt_space_by (suc n) s a b h sp = spaces_swap n s (61 ∷ a) b h sp

vt_space : (c : ℕ) (m : Machine) (w : List ℕ) (ts : List Attribute) (k s : List ℕ) (es : List Event) (b : ℕ) → is_space b ≡ true → ValueTag c m w ts k (32 ∷ s) es → ValueTag c m w ts k (b ∷ s) es
vt_space c m w ts k s es b h (v, r, inl (e0, e1), tag) = (v, b ∷ s, inl (e0, refl), tag_space c m w (with_attribute ts k v) s es b h (rw e1 tag))
vt_space c m w ts k s es b h (v, r, inr (n, a, i, q, x, sp, si, iq, t), tag) = (v, r, inr (n, a, i, q, x, vt_space_by n s a b h sp, si, iq, t), tag)

vt_front : (c : ℕ) (m : Machine) (w : List ℕ) (ts : List Attribute) (k s : List ℕ) (es : List Event) → ValueTag c m w ts k s es → ValueTag c m w ts k (32 ∷ s) es
vt_front c m w ts k s es (v, r, inl (e0, e1), tag) = (v, 32 ∷ s, inl (e0, refl), tag_front c m w (with_attribute ts k v) s es (rw e1 tag))
vt_front c m w ts k s es (v, r, inr (n, a, i, q, x, sp, si, iq, t), tag) = (v, r, inr (suc n, a, i, q, x, (32, s, refl, space_32, sp), si, iq, t), tag)

-- one character back

abbrev Back : (c : ℕ) → Lexical → Machine → List ℕ → List ℕ → List Event → Machine → Type 0
Back c l m s' s g m1 = Tells c m1 s g → tells_at c l m s' g

room_of : (c : ℕ) (m : Machine) → has_room c m ≡ true → (m.next < c) × (0 < m.room)
room_of c m h = (grind (arith, nat_tests), grind (arith, nat_tests))

back_less : (c : ℕ) (m : Machine) (s : List ℕ) (g : List Event) → On (λ m1. Tells c m1 s g → tells_at c TagOpen m s g) (less c m)
back_less c m s g = on_if (λ m1. Tells c m1 s g → tells_at c TagOpen m s g) (has_room c m || is_some_open m.opened) (Some (at m TagOpen)) None (λ h t. t) (λ h. tt)

pub on_map : (P Q : Machine → Type 0) (o : Option Machine) → ((m : Machine) → P m → Q m) → On P o → On Q o
on_map P Q None f h = tt
on_map P Q (Some m) f h = f m h

-- where a start tag may end
started_back : (c : ℕ) (m : Machine) (w : List ℕ) (ts : List Attribute) (s : List ℕ) (g : List Event) → Tells c (started m w ts) s g → (es : List Event) × Follows c m w ts s es × (g ≡ m.out ++ es)
started_back c m w ts s g t = go (is_void w) t
  where
    go : (v : Bool) → Tells c (if v then after_void m w ts else after_start m w ts) s g → (es : List Event) × ((es' : List Event) × MatchBool v (Completes c m.opened (suc m.room) (suc m.next) s es' × (es ≡ OpenEvent w ts ∷ CloseEvent ∷ es')) (Completes c (w ∷ m.opened) m.room (suc m.next) s es' × (es ≡ OpenEvent w ts ∷ es'))) × (g ≡ m.out ++ es)
    go true (es, sib, e) = (OpenEvent w ts ∷ CloseEvent ∷ es, (es, (sib, refl)), e ∙ append_assoc m.out (OpenEvent w ts ∷ CloseEvent ∷ []) es)
    go false (es, sib, e) = (OpenEvent w ts ∷ es, (es, (sib, refl)), e ∙ append_assoc m.out (OpenEvent w ts ∷ []) es)

abbrev TagTells : (c : ℕ) → Machine → List ℕ → List Attribute → List ℕ → List Event → Type 0
TagTells c m w ts s g = (es : List Event) × Tag c m w ts s es × (g ≡ m.out ++ es)

tag_close : (c : ℕ) (m : Machine) (w : List ℕ) (ts : List Attribute) (s r : List ℕ) (es : List Event) → TagEnd w s r → Follows c m w ts r es → Tag c m w ts s es
tag_close c m w ts s r es te fo = ([], s, r, refl, te, subst (λ y. Follows c m w y r es) (sym (app_nil ts)) fo)

tag_end_back : (c : ℕ) (m : Machine) (w : List ℕ) (ts : List Attribute) (b : ℕ) (s : List ℕ) (g : List Event) → On (λ m1. Tells c m1 s g → TagTells c m w ts (b ∷ s) g) (tag_end m w ts b)
tag_end_back c m w ts b s g =
    on_if (λ m1. Tells c m1 s g → TagTells c m w ts (b ∷ s) g) (b == 62) (Some (started m w ts)) (if b == 47 && is_void w then Some (at m (SelfClosing w ts)) else None)
    (λ h t. let x = started_back c m w ts s g t in
    (x.0, tag_close c m w ts (b ∷ s) s x.0 (0, b ∷ s, refl, inl (ap (λ y. y ∷ s) (same_char b 62 h))) x.1, x.2))
    (λ h. on_if (λ m1. Tells c m1 s g → TagTells c m w ts (b ∷ s) g) (b == 47 && is_void w) (Some (at m (SelfClosing w ts))) None
    (λ k. λ (es, (r, e, fo), e2). let p = and_parts (b == 47) (is_void w) k in let q = same_char b 47 p.0 in
    (es, tag_close c m w ts (b ∷ s) r es (0, b ∷ s, refl, inr (p.1, cc)) fo, e2))
    (λ k. tt))

ref_turn_on : (P : Machine → Type 0) (m : Machine) (p : Reference) (b : ℕ) (more : Reference → Lexical) (end : ℕ → Lexical) (o : Turn) → TurnBack p b o → ((q : Reference) → TurnBack p b (More q) → P (at m (more q))) → ((x : ℕ) → TurnBack p b (Done x) → P (at m (end x))) → On P (ref_turn m more end o)
ref_turn_on P m p b more end Stop h f g = tt
ref_turn_on P m p b more end (More q) h f g = f q h
ref_turn_on P m p b more end (Done x) h f g = g x h

text_ref : (stop x : ℕ) (s r : List ℕ) → ReferenceRest Amp x s r → OneChar stop x (38 ∷ s) r
text_ref stop x s r (w, e, body) = inr (w, ap (λ y. 38 ∷ y) e, body)

lex_if : (P : Lexical → Type 0) (t : Bool) (x y : Lexical) → (t ≡ true → P x) → (t ≡ false → P y) → P (if t then x else y)
lex_if P true x y f g = f refl
lex_if P false x y f g = g refl

first_chars : (x : Event) (es es' : List Event) → NotTextEvent (x ∷ es') → es ≡ x ∷ es' → NotTextEvent es
first_chars x es es' h e = rw e h

back_between : (c : ℕ) (m : Machine) (b : ℕ) (s : List ℕ) (g : List Event) → On (λ m1. Tells c m1 s g → tells_at c Data m (b ∷ s) g) (step_at c m Data b)
back_between c m b s g =
    let P : Machine → Type 0 = λ m1. Tells c m1 s g → tells_at c Data m (b ∷ s) g in
    let L : Lexical → Type 0 = λ l. P (at m l) in
    let l : Lexical = if b == 38 then TextReference [] Amp else InText (b ∷ []) in
    on_if P (b == 60) (less c m) (if has_room c m then Some (at m l) else None)
    (λ h. on_map (λ m1. Tells c m1 s g → tells_at c TagOpen m s g) P (less c m)
    (λ m1 f t. let x = f t in (x.0, rw (same_char b 60 h) x.1.1, x.2)) (back_less c m s g))
    (λ h. on_if P (has_room c m) (Some (at m l)) None
    (λ k. let room = room_of c m k in
    lex_if L (b == 38) (TextReference [] Amp) (InText (b ∷ []))
    (λ h2. λ (es, (x, a, rr, (u, r, es', tx, nc, sib, e1)), e).
    let some : 0 < length (x ∷ u) = omega arith in
    let one : OneChar 60 x (b ∷ s) a = rw (same_char b 38 h2) (text_ref 60 x s a rr) in
    (es, rw e1 (push_words c m.opened m.room m.next (x ∷ u) (b ∷ s) r es' room.0 room.1 some (a, one, tx) nc sib), e))
    (λ h2. λ (es, (u, r, es', tx, nc, sib, e1), e).
    let some : 0 < length (b ∷ u) = omega arith in
    (es, rw e1 (push_words c m.opened m.room m.next (b ∷ u) (b ∷ s) r es' room.0 room.1 some (s, inl (refl, eqb-false b 60 h, eqb-false b 38 h2), tx) nc sib), e)))
    (λ k. tt))

back_run : (c : ℕ) (t : List ℕ) (m : Machine) (b : ℕ) (s : List ℕ) (g : List Event) → On (λ m1. Tells c m1 s g → tells_at c (InText t) m (b ∷ s) g) (step_at c m (InText t) b)
back_run c t m b s g =
    let P : Machine → Type 0 = λ m1. Tells c m1 s g → tells_at c (InText t) m (b ∷ s) g in
    let L : Lexical → Type 0 = λ l. P (at m l) in
    let m2 = after_leaf m (TextEvent t) in
    on_if P (b == 60) (less c m2) (Some (at m (if b == 38 then TextReference t Amp else InText (t ++ b ∷ []))))
    (λ h. on_map (λ m1. Tells c m1 s g → tells_at c TagOpen m2 s g) P (less c m2)
    (λ m1 f y. let (es, (nc, sib), e) = f y in
    (TextEvent t ∷ es, ([], 60 ∷ s, es, ap (λ x. x ∷ s) (same_char b 60 h), nc, sib, ap (λ x. TextEvent x ∷ es) (sym (app_nil t))), e ∙ append_assoc m.out (TextEvent t ∷ []) es))
    (back_less c m2 s g))
    (λ h. lex_if L (b == 38) (TextReference t Amp) (InText (t ++ b ∷ []))
    (λ h2. λ (es, (x, a, rr, (u, r, es', tx, nc, sib, e1)), e).
    let one : OneChar 60 x (b ∷ s) a = rw (same_char b 38 h2) (text_ref 60 x s a rr) in
    (es, (x ∷ u, r, es', (a, one, tx), nc, sib, e1 ∙ ap (λ y. TextEvent y ∷ es') (append_assoc t (x ∷ []) u)), e))
    (λ h2. λ (es, (u, r, es', tx, nc, sib, e1), e).
    (es, (b ∷ u, r, es', (s, inl (refl, eqb-false b 60 h, eqb-false b 38 h2), tx), nc, sib, e1 ∙ ap (λ y. TextEvent y ∷ es') (append_assoc t (b ∷ []) u)), e)))

follows_first : (c : ℕ) (m : Machine) (w : List ℕ) (ts : List Attribute) (r : List ℕ) (es : List Event) → Follows c m w ts r es → NotTextEvent es
follows_first c m w ts r es (es', x) = go (is_void w) x
  where
    go : (v : Bool) → MatchBool v (Completes c m.opened (suc m.room) (suc m.next) r es' × (es ≡ OpenEvent w ts ∷ CloseEvent ∷ es')) (Completes c (w ∷ m.opened) m.room (suc m.next) r es' × (es ≡ OpenEvent w ts ∷ es')) → NotTextEvent es
    go true y = first_chars (OpenEvent w ts) es (CloseEvent ∷ es') tt y.1
    go false y = first_chars (OpenEvent w ts) es es' tt y.1

back_slash : (c : ℕ) (ws : List (List ℕ)) (m : Machine) (b : ℕ) (s : List ℕ) (g : List Event) → m.opened ≡ ws → b ≡ 47 → On (λ m1. Tells c m1 s g → tells_at c TagOpen m (b ∷ s) g) (slash m ws)
back_slash c [] m b s g o e = tt
back_slash c (w ∷ ws) m b s g o e =
    λ (es, (a, na, (n, r, es', sp, sib, e1)), e2).
    let k : m.next ≡ m.next + 0 = omega arith in
    let sib' : Completes c ws (suc m.room) (m.next + 0) r es' = subst (λ x. Completes c ws (suc m.room) x r es') k sib in
    (es, (first_chars CloseEvent es es' tt e1, rw (o, e) (Nil, 60 ∷ 47 ∷ s, r, es', refl, (s, a, n, refl, na, sp), sib', e1)), e2)

back_less_at : (c : ℕ) (m : Machine) (b : ℕ) (s : List ℕ) (g : List Event) → On (λ m1. Tells c m1 s g → tells_at c TagOpen m (b ∷ s) g) (step_at c m TagOpen b)
back_less_at c m b s g =
    let P : Machine → Type 0 = λ m1. Tells c m1 s g → tells_at c TagOpen m (b ∷ s) g in
    let named = Some (begin_tag m b) in
    let y : Option Machine = if is_letter b then named else None in
    let x : Option Machine = if b == 33 then Some (at m MarkupDeclaration) else y in
    on_if P (b == 47) (slash m m.opened) (if has_room c m then x else None)
    (λ h. back_slash c m.opened m b s g refl (same_char b 47 h))
    (λ h. on_if P (has_room c m) x None
    (λ k. let room = room_of c m k in
    on_if P (b == 33) (Some (at m MarkupDeclaration)) y
    (λ h2. λ (es, (a, e, (u, r, es', rt, sib, e1)), e2).
    let k : b ∷ s ≡ 33 ∷ 45 ∷ 45 ∷ a = ap (λ z. z ∷ s) (same_char b 33 h2) ∙ ap (λ z. 33 ∷ z) e in
    (es, (first_chars (CommentEvent u) es es' tt e1, rw (k, e1) (push_remark c m.opened m.room m.next u a r es' room.0 room.1 rt sib)), e2))
    (λ h2. on_if P (is_letter b) named None
    (λ h3. λ (es, (u, a, nch, nr, tag), e).
    (es, (follows_first c (entered m) (lower b ∷ u) tag.0 tag.2 es tag.5, push_tag c m (lower b ∷ u) (b ∷ s) (60 ∷ b ∷ s) a es room.0 room.1 (b, s, refl, refl, h3, nch) nr refl tag), e))
    (λ h3. tt)))
    (λ k. tt))

back_dash : (c : ℕ) (t : List ℕ) (n : Dashes) (m : Machine) (b : ℕ) (s : List ℕ) (g : List Event) → b ≡ 45 → Tells c (at m (dash t n)) s g → tells_at c (InComment t n) m (b ∷ s) g
back_dash c t NoDash m b s g e (es, (u, r, es', rt, sib, e1), e2) = (es, (u, r, es', rw e rt, sib, e1), e2)
back_dash c t OneDash m b s g e (es, (u, r, es', rt, sib, e1), e2) = (es, (u, r, es', rw e rt, sib, e1), e2)
back_dash c t TwoDashes m b s g e (es, (u, r, es', rt, sib, e1), e2) =
    (es, (45 ∷ u, r, es', rw e (45 ∷ 45 ∷ s, refl, refl, rt), sib, e1 ∙ ap (λ x. CommentEvent x ∷ es') (append_assoc t (45 ∷ []) u)), e2)

back_note_end : (c : ℕ) (t : List ℕ) (n : Dashes) (m : Machine) (b : ℕ) (s : List ℕ) (g : List Event) → b ≡ 62 → is_two n ≡ true → Tells c (after_leaf m (CommentEvent t)) s g → tells_at c (InComment t n) m (b ∷ s) g
back_note_end c t NoDash m b s g e h x = cc
back_note_end c t OneDash m b s g e h x = cc
back_note_end c t TwoDashes m b s g e h (es, sib, e2) =
    (CommentEvent t ∷ es, ([], s, es, ap (λ x. 45 ∷ 45 ∷ x ∷ s) e, sib, ap (λ x. CommentEvent x ∷ es) (sym (app_nil t))), e2 ∙ append_assoc m.out (CommentEvent t ∷ []) es)

pub remark_more : (n : Dashes) (b : ℕ) (u s r : List ℕ) → (b == 45) ≡ false → (b == 62 && is_two n) ≡ false → CommentText u s r → CommentText (dashes n ++ b ∷ u) (dashes n ++ b ∷ s) r
remark_more NoDash b u s r h k x = (s, refl, rw h refl, x)
remark_more OneDash b u s r h k x = (b ∷ s, refl, rw h refl, (s, refl, rw h refl, x))
remark_more TwoDashes b u s r h k x = (45 ∷ b ∷ s, refl, k, (b ∷ s, refl, rw h refl, (s, refl, rw h refl, x)))

back_note_more : (c : ℕ) (t : List ℕ) (n : Dashes) (m : Machine) (b : ℕ) (s : List ℕ) (g : List Event) → (b == 45) ≡ false → (b == 62 && is_two n) ≡ false → Tells c (at m (InComment (t ++ (dashes n ++ b ∷ [])) NoDash)) s g → tells_at c (InComment t n) m (b ∷ s) g
back_note_more c t n m b s g h k (es, (u, r, es', rt, sib, e1), e2) =
    let j : (t ++ (dashes n ++ b ∷ [])) ++ u ≡ t ++ (dashes n ++ b ∷ u) = simp append_assoc in
    (es, (dashes n ++ b ∷ u, r, es', remark_more n b u s r h k rt, sib, e1 ∙ ap (λ x. CommentEvent x ∷ es') j), e2)

name_done : (c : ℕ) (m : Machine) (w s : List ℕ) (g : List Event) → is_refused w ≡ false → TagTells c m w [] s g → tells_at c (TagName w) m s g
name_done c m w s g nr (es, tag, e) =
    let k = sym (app_nil w) in
    (es, ([], s, refl, subst (λ x. is_refused x ≡ false) k nr, subst (λ x. Tag c m x [] s es) k tag), e)

back_name : (c : ℕ) (w : List ℕ) (m : Machine) (b : ℕ) (s : List ℕ) (g : List Event) → On (λ m1. Tells c m1 s g → tells_at c (TagName w) m (b ∷ s) g) (step_at c m (TagName w) b)
back_name c w m b s g =
    let P : Machine → Type 0 = λ m1. Tells c m1 s g → tells_at c (TagName w) m (b ∷ s) g in
    let gap = Some (at m (BeforeAttributeName w [])) in
    let y : Option Machine = if is_space b then gap else tag_end m w [] b in
    let x : Option Machine = if is_refused w then None else y in
    on_if P (is_name_char b) (Some (at m (TagName (w ++ lower b ∷ [])))) x
    (λ h. λ (es, (u, a, nch, nr, tag), e).
    let k : (w ++ lower b ∷ []) ++ u ≡ w ++ lower b ∷ u = append_assoc w (lower b ∷ []) u in
    (es, (lower b ∷ u, a, (b, s, refl, refl, h, nch), subst (λ z. is_refused z ≡ false) k nr, subst (λ z. Tag c m z [] a es) k tag), e))
    (λ h. on_if P (is_refused w) None y (λ k. tt)
    (λ nr. on_if P (is_space b) gap (tag_end m w [] b)
    (λ k. λ (es, tag, e). name_done c m w (b ∷ s) g nr (es, tag_space c m w [] s es b k tag, e))
    (λ k. on_map (λ m1. Tells c m1 s g → TagTells c m w [] (b ∷ s) g) P (tag_end m w [] b) (λ m1 f t. name_done c m w (b ∷ s) g nr (f t)) (tag_end_back c m w [] b s g))))

one_space : (b : ℕ) (s : List ℕ) → Spaces 1 (32 ∷ b ∷ s) (b ∷ s)
one_space b s = (32, b ∷ s, refl, space_32, refl)

-- a new key begins
key_begins : (c : ℕ) (m : Machine) (w : List ℕ) (ts : List Attribute) (b : ℕ) (s : List ℕ) (es : List Event) → is_attribute_name_char b ≡ true → rest_at c (AttributeName w ts (lower b ∷ [])) m s es → Tag c m w ts (32 ∷ b ∷ s) es
key_begins c m w ts b s es h (u, v, a, r, kc, hk, va, tag) =
    let some : 0 < length (lower b ∷ u) = omega arith in
    tag_attr c m w ts 0 (lower b ∷ u) v (32 ∷ b ∷ s) (b ∷ s) a r es (one_space b s) some (b, s, refl, refl, h, kc) hk va tag

back_gap : (c : ℕ) (w : List ℕ) (ts : List Attribute) (m : Machine) (b : ℕ) (s : List ℕ) (g : List Event) → On (λ m1. Tells c m1 s g → tells_at c (BeforeAttributeName w ts) m (b ∷ s) g) (step_at c m (BeforeAttributeName w ts) b)
back_gap c w ts m b s g =
    let P : Machine → Type 0 = λ m1. Tells c m1 s g → tells_at c (BeforeAttributeName w ts) m (b ∷ s) g in
    let key = Some (at m (AttributeName w ts (lower b ∷ []))) in
    on_if P (is_space b) (Some (at m (BeforeAttributeName w ts))) (if is_attribute_name_char b then key else tag_end m w ts b)
    (λ h. λ (es, tag, e). (es, tag_front c m w ts (b ∷ s) es (tag_space c m w ts s es b h tag), e))
    (λ h. on_if P (is_attribute_name_char b) key (tag_end m w ts b)
    (λ k. λ (es, rest, e). (es, key_begins c m w ts b s es k rest, e))
    (λ k. on_map (λ m1. Tells c m1 s g → TagTells c m w ts (b ∷ s) g) P (tag_end m w ts b)
    (λ m1 f t. let x = f t in (x.0, tag_front c m w ts (b ∷ s) x.0 x.1, x.2)) (tag_end_back c m w ts b s g)))

key_done : (c : ℕ) (m : Machine) (w : List ℕ) (ts : List Attribute) (k s : List ℕ) (es : List Event) → has_attribute ts k ≡ false → ValueTag c m w ts k s es → rest_at c (AttributeName w ts k) m s es
key_done c m w ts k s es hk (v, r, va, tag) =
    let e = sym (app_nil k) in
    ([], v, s, r, refl, subst (λ z. has_attribute ts z ≡ false) e hk, va, subst (λ z. Tag c m w (with_attribute ts z v) r es) e tag)

-- the key has no value
no_value : (c : ℕ) (m : Machine) (w : List ℕ) (ts : List Attribute) (k s : List ℕ) (es : List Event) → Tag c m w (with_attribute ts k []) s es → ValueTag c m w ts k s es
no_value c m w ts k s es tag = ([], s, inl (refl, refl), tag)

equals_back : (c : ℕ) (m : Machine) (w : List ℕ) (ts : List Attribute) (k : List ℕ) (b : ℕ) (s : List ℕ) (es : List Event) → b ≡ 61 → rest_at c (BeforeAttributeValue w ts k) m s es → ValueTag c m w ts k (b ∷ s) es
equals_back c m w ts k b s es h (v, i, q, a, r, si, iq, tx, tag) = (v, r, inr (0, s, i, q, a, ap (λ z. z ∷ s) h, si, iq, tx), tag)

back_key : (c : ℕ) (w : List ℕ) (ts : List Attribute) (k : List ℕ) (m : Machine) (b : ℕ) (s : List ℕ) (g : List Event) → On (λ m1. Tells c m1 s g → tells_at c (AttributeName w ts k) m (b ∷ s) g) (step_at c m (AttributeName w ts k) b)
back_key c w ts k m b s g =
    let P : Machine → Type 0 = λ m1. Tells c m1 s g → tells_at c (AttributeName w ts k) m (b ∷ s) g in
    let end = tag_end m w (with_attribute ts k []) b in
    let eq = Some (at m (BeforeAttributeValue w ts k)) in
    let z : Option Machine = if b == 61 then eq else end in
    let gap = Some (at m (AfterAttributeName w ts k)) in
    let y : Option Machine = if is_space b then gap else z in
    let x : Option Machine = if has_attribute ts k then None else y in
    on_if P (is_attribute_name_char b) (Some (at m (AttributeName w ts (k ++ lower b ∷ [])))) x
    (λ h. λ (es, (u, v, a, r, kc, hk, va, tag), e).
    let j : (k ++ lower b ∷ []) ++ u ≡ k ++ lower b ∷ u = append_assoc k (lower b ∷ []) u in
    (es, (lower b ∷ u, v, a, r, (b, s, refl, refl, h, kc), subst (λ z. has_attribute ts z ≡ false) j hk, va, subst (λ z. Tag c m w (with_attribute ts z v) r es) j tag), e))
    (λ h. on_if P (has_attribute ts k) None y (λ n. tt)
    (λ hk. on_if P (is_space b) gap z
    (λ n. λ (es, vt, e). (es, key_done c m w ts k (b ∷ s) es hk (vt_space c m w ts k s es b n vt), e))
    (λ n. on_if P (b == 61) eq end
    (λ n2. λ (es, rest, e). (es, key_done c m w ts k (b ∷ s) es hk (equals_back c m w ts k b s es (same_char b 61 n2) rest), e))
    (λ n2. on_map (λ m1. Tells c m1 s g → TagTells c m w (with_attribute ts k []) (b ∷ s) g) P end
    (λ m1 f t. let x = f t in (x.0, key_done c m w ts k (b ∷ s) x.0 hk (no_value c m w ts k (b ∷ s) x.0 x.1), x.2)) (tag_end_back c m w (with_attribute ts k []) b s g)))))

back_after_key : (c : ℕ) (w : List ℕ) (ts : List Attribute) (k : List ℕ) (m : Machine) (b : ℕ) (s : List ℕ) (g : List Event) → On (λ m1. Tells c m1 s g → tells_at c (AfterAttributeName w ts k) m (b ∷ s) g) (step_at c m (AfterAttributeName w ts k) b)
back_after_key c w ts k m b s g =
    let P : Machine → Type 0 = λ m1. Tells c m1 s g → tells_at c (AfterAttributeName w ts k) m (b ∷ s) g in
    let us = with_attribute ts k [] in
    let end = tag_end m w us b in
    let key = Some (at m (AttributeName w us (lower b ∷ []))) in
    let eq = Some (at m (BeforeAttributeValue w ts k)) in
    let z : Option Machine = if is_attribute_name_char b then key else end in
    let y : Option Machine = if b == 61 then eq else z in
    on_if P (is_space b) (Some (at m (AfterAttributeName w ts k))) y
    (λ h. λ (es, vt, e). (es, vt_front c m w ts k (b ∷ s) es (vt_space c m w ts k s es b h vt), e))
    (λ h. on_if P (b == 61) eq z
    (λ n. λ (es, rest, e). (es, vt_front c m w ts k (b ∷ s) es (equals_back c m w ts k b s es (same_char b 61 n) rest), e))
    (λ n. on_if P (is_attribute_name_char b) key end
    (λ n2. λ (es, rest, e). (es, no_value c m w ts k (32 ∷ b ∷ s) es (key_begins c m w us b s es n2 rest), e))
    (λ n2. on_map (λ m1. Tells c m1 s g → TagTells c m w us (b ∷ s) g) P end
    (λ m1 f t. let x = f t in (x.0, vt_front c m w ts k (b ∷ s) x.0 (no_value c m w ts k (b ∷ s) x.0 x.1), x.2)) (tag_end_back c m w us b s g))))

back_equals : (c : ℕ) (w : List ℕ) (ts : List Attribute) (k : List ℕ) (m : Machine) (b : ℕ) (s : List ℕ) (g : List Event) → On (λ m1. Tells c m1 s g → tells_at c (BeforeAttributeValue w ts k) m (b ∷ s) g) (step_at c m (BeforeAttributeValue w ts k) b)
back_equals c w ts k m b s g =
    let P : Machine → Type 0 = λ m1. Tells c m1 s g → tells_at c (BeforeAttributeValue w ts k) m (b ∷ s) g in
    let value = Some (at m (InAttributeValue w ts k b [])) in
    on_if P (is_space b) (Some (at m (BeforeAttributeValue w ts k))) (if is_quote b then value else None)
    (λ h. λ (es, (v, i, q, a, r, si, iq, tx, tag), e). (es, (v, suc i, q, a, r, (b, s, refl, h, si), iq, tx, tag), e))
    (λ h. on_if P (is_quote b) value None
    (λ n. λ (es, (u, r, tx, tag), e). (es, (u, 0, b, s, r, refl, n, tx, tag), e))
    (λ n. tt))

back_value : (c : ℕ) (w : List ℕ) (ts : List Attribute) (k : List ℕ) (q : ℕ) (v : List ℕ) (m : Machine) (b : ℕ) (s : List ℕ) (g : List Event) → On (λ m1. Tells c m1 s g → tells_at c (InAttributeValue w ts k q v) m (b ∷ s) g) (step_at c m (InAttributeValue w ts k q v) b)
back_value c w ts k q v m b s g =
    let P : Machine → Type 0 = λ m1. Tells c m1 s g → tells_at c (InAttributeValue w ts k q v) m (b ∷ s) g in
    let L : Lexical → Type 0 = λ l. P (at m l) in
    on_if P (b == q) (Some (at m (AfterAttributeValue w (with_attribute ts k v)))) (Some (at m (if b == 38 then ValueReference w ts k q v Amp else InAttributeValue w ts k q (v ++ b ∷ []))))
    (λ h. λ (es, tag, e). (es, ([], s, ap (λ z. z ∷ s) (same_char b q h), subst (λ z. Tag c m w (with_attribute ts k z) s es) (sym (app_nil v)) tag), e))
    (λ h. lex_if L (b == 38) (ValueReference w ts k q v Amp) (InAttributeValue w ts k q (v ++ b ∷ []))
    (λ h2. λ (es, (x, a, rr, (u, r, tx, tag)), e).
    let one : OneChar q x (b ∷ s) a = rw (same_char b 38 h2) (text_ref q x s a rr) in
    (es, (x ∷ u, r, (a, one, tx), subst (λ z. Tag c m w (with_attribute ts k z) r es) (append_assoc v (x ∷ []) u) tag), e))
    (λ h2. λ (es, (u, r, tx, tag), e).
    (es, (b ∷ u, r, (s, inl (refl, eqb-false b q h, eqb-false b 38 h2), tx), subst (λ z. Tag c m w (with_attribute ts k z) r es) (append_assoc v (b ∷ []) u) tag), e)))

end_rest : (c : ℕ) (m : Machine) (b : ℕ) (s : List ℕ) (g : List Event) → On (λ m1. Tells c m1 s g → tells_at c AfterEndTagName m (b ∷ s) g) (step_at c m AfterEndTagName b)
end_rest c m b s g =
    let P : Machine → Type 0 = λ m1. Tells c m1 s g → tells_at c AfterEndTagName m (b ∷ s) g in
    let end = Some (after_end m) in
    on_if P (is_space b) (Some (at m AfterEndTagName)) (if b == 62 then end else None)
    (λ h. λ (es, (n, r, es', sp, sib, e1), e2). (es, (suc n, r, es', (b, s, refl, h, sp), sib, e1), e2))
    (λ h. on_if P (b == 62) end None
    (λ n. λ (es, sib, e2). (CloseEvent ∷ es, (0, s, es, ap (λ z. z ∷ s) (same_char b 62 n), sib, refl), e2 ∙ append_assoc m.out (CloseEvent ∷ []) es))
    (λ n. tt))

back : (c : ℕ) (l : Lexical) (m : Machine) (b : ℕ) (s : List ℕ) (g : List Event) → On (λ m1. Tells c m1 s g → tells_at c l m (b ∷ s) g) (step_at c m l b)
back c Data m b s g = back_between c m b s g
back c (InText t) m b s g = back_run c t m b s g
back c (TextReference t p) m b s g =
    ref_turn_on (λ m1. Tells c m1 s g → tells_at c (TextReference t p) m (b ∷ s) g) m p b (λ q. TextReference t q) (λ x. InText (t ++ x ∷ [])) (ref_step p b) (ref_back p b)
    (λ q h. λ (es, (x, a, rr, rest), e). (es, (x, a, h x s a rr, rest), e))
    (λ x h. λ (es, rest, e). (es, (x, s, h s, rest), e))
back c TagOpen m b s g = back_less_at c m b s g
back c MarkupDeclaration m b s g =
    on_if (λ m1. Tells c m1 s g → tells_at c MarkupDeclaration m (b ∷ s) g) (b == 45) (Some (at m CommentStart)) None
    (λ h. λ (es, (a, e, nr), e2). (es, (a, ap (λ z. z ∷ s) (same_char b 45 h) ∙ ap (λ z. 45 ∷ z) e, nr), e2)) (λ h. tt)
back c CommentStart m b s g =
    on_if (λ m1. Tells c m1 s g → tells_at c CommentStart m (b ∷ s) g) (b == 45) (Some (at m (InComment [] NoDash))) None
    (λ h. λ (es, nr, e2). (es, (s, ap (λ z. z ∷ s) (same_char b 45 h), nr), e2)) (λ h. tt)
back c (InComment t n) m b s g =
    let P : Machine → Type 0 = λ m1. Tells c m1 s g → tells_at c (InComment t n) m (b ∷ s) g in
    let x = Some (after_leaf m (CommentEvent t)) in
    let y = Some (at m (InComment (t ++ (dashes n ++ b ∷ [])) NoDash)) in
    on_if P (b == 45) (Some (at m (dash t n))) (if b == 62 && is_two n then x else y)
    (λ h. back_dash c t n m b s g (same_char b 45 h))
    (λ h. on_if P (b == 62 && is_two n) x y
    (λ k. let p = and_parts (b == 62) (is_two n) k in back_note_end c t n m b s g (same_char b 62 p.0) p.1)
    (λ k. back_note_more c t n m b s g h k))
back c (TagName w) m b s g = back_name c w m b s g
back c (BeforeAttributeName w ts) m b s g = back_gap c w ts m b s g
back c (AttributeName w ts k) m b s g = back_key c w ts k m b s g
back c (AfterAttributeName w ts k) m b s g = back_after_key c w ts k m b s g
back c (BeforeAttributeValue w ts k) m b s g = back_equals c w ts k m b s g
back c (InAttributeValue w ts k q v) m b s g = back_value c w ts k q v m b s g
back c (ValueReference w ts k q v p) m b s g =
    ref_turn_on (λ m1. Tells c m1 s g → tells_at c (ValueReference w ts k q v p) m (b ∷ s) g) m p b (λ y. ValueReference w ts k q v y) (λ x. InAttributeValue w ts k q (v ++ x ∷ [])) (ref_step p b) (ref_back p b)
    (λ y h. λ (es, (x, a, rr, rest), e). (es, (x, a, h x s a rr, rest), e))
    (λ x h. λ (es, rest, e). (es, (x, s, h s, rest), e))
back c (AfterAttributeValue w ts) m b s g =
    let P : Machine → Type 0 = λ m1. Tells c m1 s g → tells_at c (AfterAttributeValue w ts) m (b ∷ s) g in
    on_if P (is_space b) (Some (at m (BeforeAttributeName w ts))) (tag_end m w ts b)
    (λ h. λ (es, tag, e). (es, tag_space c m w ts s es b h tag, e))
    (λ h. tag_end_back c m w ts b s g)
back c (SelfClosing w ts) m b s g =
    on_if (λ m1. Tells c m1 s g → tells_at c (SelfClosing w ts) m (b ∷ s) g) (b == 62) (Some (started m w ts)) None
    (λ h t. let x = started_back c m w ts s g t in (x.0, (s, ap (λ z. z ∷ s) (same_char b 62 h), x.1), x.2))
    (λ h. tt)
back c (EndTagName []) m b s g =
    on_map (λ m1. Tells c m1 s g → tells_at c AfterEndTagName m (b ∷ s) g) (λ m1. Tells c m1 s g → tells_at c (EndTagName []) m (b ∷ s) g) (step_at c m AfterEndTagName b)
    (λ m1 f t. let x = f t in (x.0, (b ∷ s, refl, x.1), x.2)) (end_rest c m b s g)
back c (EndTagName (x ∷ xs)) m b s g =
    on_if (λ m1. Tells c m1 s g → tells_at c (EndTagName (x ∷ xs)) m (b ∷ s) g) (lower b == x) (Some (at m (EndTagName xs))) None
    (λ h. λ (es, (a, na, er), e). (es, (a, (b, s, refl, same_char (lower b) x h, na), er), e))
    (λ h. tt)
back c AfterEndTagName m b s g = end_rest c m b s g

end_tells : (c : ℕ) (l : Lexical) (ws : List (List ℕ)) (m : Machine) → m.opened ≡ ws → IsReady l → is_none_open ws → tells_at c l m [] (flushed_at l m).out
end_tells c Data [] m e h n = ([], rw e (Nil, refl, refl), sym (app_nil m.out))
end_tells c (InText t) [] m e h n = (TextEvent t ∷ [], ([], [], [], refl, tt, rw e (Nil, refl, refl), ap (λ x. TextEvent x ∷ []) (sym (app_nil t))), refl)
end_tells c Data (w ∷ ws) m e h n = elim n [ ]
end_tells c (InText t) (w ∷ ws) m e h n = elim n [ ]
end_tells c l ws m e h n = elim h [ ]

pub sound : (c : ℕ) (s : List ℕ) (m m2 : Machine) → run c m s ≡ Some m2 → IsEnd m2 → Tells c m s (emitted m2)
sound c [] m m2 h e = let k : m2 ≡ m = cc in subst (λ x. Tells c x [] (emitted m2)) k (end_tells c m2.lex m2.opened m2 refl e.0 e.1)
sound c (b ∷ s) m m2 h e =
    let x = then_some (step c m b) (λ m1. run c m1 s) m2 h in
    on_get (λ m1. Tells c m1 s (emitted m2) → tells_at c m.lex m (b ∷ s) (emitted m2)) (step c m b) x.0 (back c m.lex m b s (emitted m2)) x.1 (sound c s x.0 m2 x.2 e)

pub page_only : (d c : ℕ) (s : List ℕ) (m : Machine) → run c (start d) s ≡ Some m → IsEnd m → (f : Siblings) × Page d c s f × (emitted m ≡ events f)
page_only d c s m h e = let x = sound c s (start d) m h e in let y = x.1 in (y.0, y.1, x.2 ∙ y.2)
