-- The fault that is computed is the page's.
use Rattle.std.proofs.Common.{◌≡◌, ℕ, zero, suc, ◌+◌, ◌<◌, ◌≤◌, Bool, true, false, ◌&&◌, ◌⊎◌, inl, inr, List, [], ◌∷◌, ◌++◌, length, take, drop, Option, Some, None, refl, sym, ap, ◌∙◌, subst, arith, append_assoc, length-append}
use Rattle.std.specs.Prelude.{nat_lt, if◌then◌else◌}
use Rattle.std.proofs.Math.Seq.{take-append_seam, drop-append_seam}
use Rattle.std.proofs.lemmas.Bool.{cases_Bool, cases_lt}
use Rattle.std.proofs.lemmas.Bool.Decides.{nat_tests}
use Rattle.std.proofs.lemmas.List.{take_all, append_cancel_right}
use Rattle.std.proofs.lemmas.Str.{encodes-append}
use Rattle.std.proofs.Math.Utf8.{scalar, scalars, encode, encodes, next}
use Rattle.page_grammar.specs.Machine.{Lexical, Data, InText, Machine, run, start, step, IsReady, IsEnd, is_none_open}
use Rattle.page_grammar.specs.Decoder.{Pending, Decoded, Bad, Part, Whole, decode}
use Rattle.page_grammar.specs.Reader.{Reader, begin, takes_wide, read_whole, read_decoded, read_byte, read_bytes}
use Rattle.page_grammar.specs.Bytes.{IsPageBytes, BeginsPage, BeginsText, IsBytePlace}
use Rattle.page_grammar.specs.Kind.{Kind, Unclosed, NotUtf8, TooDeep, Full, page_limit, begins_node, no_room, misplaced, kind_at, kind_decoded, kind_of_byte, fault_next, fault_at_end, fault_from, text_fault, page_fault}
use Rattle.page_grammar.specs.Tokens.{EndsUnsupportedName, EndsRepeatedName, StandsInReference, StandsInEndTag, StandsAfterTagName, StandsAfterLess}
use Rattle.page_grammar.specs.Rows.{BeginsSomePage, MakesTooDeep, MakesFull, IsPart, AtPlace, Row, lexical_kinds, IsFirst, IsFault}
use Rattle.page_grammar.proofs.Facts.{app_nil, and_parts, ascii_scalar, both_true, scalars_app, scalars_split}
use Rattle.page_grammar.proofs.Complete.{page_read}
use Rattle.page_grammar.proofs.Sound.{page_only}
use Rattle.page_grammar.proofs.Decoding.{due_byte, last_bytes, DecodedIs, Held, decoded, encode_one, encode_two, lt_test, ge_test}
use Rattle.page_grammar.proofs.Wide.{wide_none, wide_some}
use Rattle.page_grammar.proofs.Limits.{shift, room_for, begins_shift}
use Rattle.page_grammar.proofs.Reading.{Reads, reads_start, all_reads, byte_goes, begins_less, reads_begins, live_start, peel, no_nil, no_whole, front_of}
use Rattle.page_grammar.proofs.WiderReading.{more_limits, read_one_more, refused_at, goes_at, Fits, refuse, accept, same_refusal}
use Rattle.page_grammar.proofs.Trees.{depth_fits, shallow, labelled_below}
use Rattle.page_grammar.proofs.LexicalRows.{LexicalRow, lexical_first}
use Rattle.page_grammar.proofs.TextRows.{rows_agree}

-- room

room_top : (n C k : ℕ) → n < C → 0 < k → (nat_lt n C && nat_lt 0 k) ≡ true
room_top n C k h g = grind (arith, nat_tests)

room_zero : (n C k : ℕ) → k ≡ 0 → (nat_lt n C && nat_lt 0 k) ≡ false
room_zero n C k h = grind (arith, nat_tests)

room_no : (n c k e : ℕ) → (nat_lt n c && nat_lt 0 k) ≡ false → 0 < k → (nat_lt n c && nat_lt 0 (k + e)) ≡ false
room_no n c k e h p = grind (arith, nat_tests)

room_is : (C : ℕ) (l : Lexical) (m : Machine) → suc m.next < C → 0 < m.room → room_for C l m ≡ true
room_is C (InText t) m h p = room_top (suc m.next) C m.room h p
room_is C l m h p = room_top m.next C m.room (omega arith) p

room_none : (C : ℕ) (l : Lexical) (m : Machine) → m.room ≡ 0 → room_for C l m ≡ false
room_none C (InText t) m h = room_zero (suc m.next) C m.room h
room_none C l m h = room_zero m.next C m.room h

room_never : (c e : ℕ) (l : Lexical) (m : Machine) → room_for c l m ≡ false → 0 < m.room → room_for c l (shift e m) ≡ false
room_never c e (InText t) m h p = room_no (suc m.next) c m.room e h p
room_never c e l m h p = room_no m.next c m.room e h p

-- the reader has read p and can't read b
record Stuck (d c : ℕ) (p : List ℕ) (b : ℕ) (r : Reader) : Type 0 where
  read : read_bytes c (begin d) p ≡ Some r
  stops : read_byte c r b ≡ None
  fits : Fits b (decode r.part b)

some_page : (d c j : ℕ) (p : List ℕ) (b : ℕ) (r : Reader) → Stuck d c p b r → begins_node r.machine.lex r.machine b ≡ true → 0 < r.machine.room + j → BeginsPage (d + j) (c + suc (suc r.machine.next)) (p ++ b ∷ [])
some_page d c j p b r s t pos =
    let C = c + suc (suc r.machine.next) in
    let m = shift j r.machine in
    goes_at d c j C p b r (omega arith) s.read (accept C m b (decode r.part b) s.fits (begins_same j r.machine.lex r.machine b t) (room_is C m.lex m (omega arith) pos))
  where
    begins_same : (j : ℕ) (l : Lexical) (m : Machine) (b : ℕ) → begins_node l m b ≡ true → begins_node l (shift j m) b ≡ true
    begins_same j l m b h = begins_shift j l m b ∙ h

begins_pages : (d c : ℕ) (p : List ℕ) (b : ℕ) (r : Reader) → Stuck d c p b r → begins_node r.machine.lex r.machine b ≡ true → BeginsSomePage (p ++ b ∷ [])
begins_pages d c p b r s t = (d + 1, c + suc (suc r.machine.next), some_page d c 1 p b r s t (omega arith))

refused_up : (d c j C : ℕ) (p : List ℕ) (b : ℕ) (r : Reader) → Stuck d c p b r → c ≤ C → begins_node r.machine.lex r.machine b ≡ true → room_for C r.machine.lex (shift j r.machine) ≡ false → BeginsPage (d + j) C (p ++ b ∷ []) → ⊥
refused_up d c j C p b r s h t n k = refused_at d c j C p b r h s.read (refuse C (shift j r.machine) b (decode r.part b) s.fits (begins_shift j r.machine.lex r.machine b ∙ t) n) k

too_deep : (d c : ℕ) (p : List ℕ) (b : ℕ) (r : Reader) → Stuck d c p b r → begins_node r.machine.lex r.machine b ≡ true → r.machine.room ≡ 0 → MakesTooDeep d (p ++ b ∷ [])
too_deep d c p b r s t z = (
  begins_pages d c p b r s t,
  λ e a q f. λ (cs, sc, enc, page).
      elim (shallow e a d 1 f cs [] page) [
        | inr deep ↦ deep
        | inl fit ↦
            let here : BeginsPage d a (p ++ b ∷ []) = (q, (f, (cs, sc, enc, fit))) in
            let more = more_limits d a 0 (c + a) (p ++ b ∷ []) (omega arith) here in
            absurd (refused_up d c 0 (c + a) p b r s (omega arith) t (room_none (c + a) r.machine.lex (shift 0 r.machine) (omega arith)) more)
      ],
)

full : (d c : ℕ) (p : List ℕ) (b : ℕ) (r : Reader) → Stuck d c p b r → begins_node r.machine.lex r.machine b ≡ true → 0 < r.machine.room → room_for c r.machine.lex r.machine ≡ false → MakesFull c (p ++ b ∷ [])
full d c p b r s t pos n = (
  begins_pages d c p b r s t,
  λ e a q f. λ (cs, sc, enc, page).
      elim (labelled_below e a c 1 f cs [] page) [
        | inr label ↦ label
        | inl fit ↦
            let here : BeginsPage e c (p ++ b ∷ []) = (q, (f, (cs, sc, enc, fit))) in
            let more = more_limits e c d c (p ++ b ∷ []) (omega arith) here in
            let turn : e + d ≡ d + e = omega arith in
            absurd (refused_up d c e c p b r s (omega arith) t (room_never c e r.machine.lex r.machine n pos) (subst (λ z. BeginsPage z c (p ++ b ∷ [])) turn more))
      ],
)

not_deep : (d c : ℕ) (p : List ℕ) (b : ℕ) (r : Reader) → Stuck d c p b r → begins_node r.machine.lex r.machine b ≡ true → 0 < r.machine.room → MakesTooDeep d (p ++ b ∷ []) → ⊥
not_deep d c p b r s t pos (any, deep) =
    let C = c + suc (suc r.machine.next) in
    let x = some_page d c 0 p b r s t (omega arith) in
    let y = deep (d + 0) C x.0 x.1.0 x.1.1 in
    let z = depth_fits (d + 0) C 1 x.1.0 x.1.1.0 [] x.1.1.3 in
    omega arith

no_page : (d c : ℕ) (p : List ℕ) (b : ℕ) (r : Reader) → Stuck d c p b r → begins_node r.machine.lex r.machine b ≡ false → BeginsSomePage (p ++ b ∷ []) → ⊥
no_page d c p b r s t (e, a, k) =
    let more = more_limits e a d (c + a) (p ++ b ∷ []) (omega arith) k in
    let turn : e + d ≡ d + e = omega arith in
    refused_at d c e (c + a) p b r (omega arith) s.read (same_refusal c (c + a) e r.machine b (decode r.part b) s.fits t s.stops) (subst (λ z. BeginsPage z (c + a) (p ++ b ∷ [])) turn more)

-- the text

no_text : (d c : ℕ) (p : List ℕ) (b : ℕ) (r : Reader) (h : Reads d c p r) → DecodedIs h.held b Bad → BeginsText (p ++ b ∷ []) → ⊥
no_text d c p b r h bad (q, (cs, (s, e))) =
    let one : encodes cs ≡ encodes h.chars ++ (h.held ++ b ∷ q) = e ∙ append_assoc p (b ∷ []) q ∙ ap (λ z. z ++ b ∷ q) h.all ∙ append_assoc (encodes h.chars) h.held (b ∷ q) in
    let x = peel h.chars cs (h.held ++ b ∷ q) one s in
    go x.0 x.2 (scalars_split h.chars x.0 (subst (λ z. scalars z ≡ true) x.1 s)).1
  where
    go : (es : List ℕ) → encodes es ≡ h.held ++ b ∷ q → scalars es ≡ true → ⊥
    go [] k u = no_nil h.held b q k
    go (x ∷ es) k u =
        let f = front_of r.part h.held x b (encodes es) q h.front k in
        bad x f.0 (and_parts (scalar x) (scalars es) u).0 f.1

text_of : (d c : ℕ) (p : List ℕ) (b x : ℕ) (t : List ℕ) (r : Reader) (h : Reads d c p r) → scalar x ≡ true → encode x ≡ (h.held ++ b ∷ []) ++ t → BeginsText (p ++ b ∷ [])
text_of d c p b x t r h s e =
    let cs = h.chars ++ x ∷ [] in
    let all : encodes cs ≡ (p ++ b ∷ []) ++ t =
    encodes-append h.chars (x ∷ []) ∙ ap (λ z. encodes h.chars ++ z) (app_nil (encode x) ∙ e) ∙ sym (append_assoc (encodes h.chars) (h.held ++ b ∷ []) t)
    ∙ ap (λ z. z ++ t) (sym (append_assoc (encodes h.chars) h.held (b ∷ [])) ∙ ap (λ z. z ++ b ∷ []) (sym h.all)) in
    (t, (cs, (scalars_app h.chars (x ∷ []) h.plain (both_true (scalar x) true s refl), all)))

begins_text : (d c : ℕ) (p : List ℕ) (b : ℕ) (r : Reader) (h : Reads d c p r) (z : Decoded) → Fits b z → DecodedIs h.held b z → BeginsText (p ++ b ∷ [])
begins_text d c p b r h Bad f k = elim f [ ]
begins_text d c p b r h (Part q) f k =
    let a = k.1 in
    let x = a.some in
    let y = a.begins x.0 x.2 in
    text_of d c p b x.0 (due_byte q.after x.0 ∷ last_bytes q.after x.0) r h y.0 y.2
begins_text d c p b r h (Whole x) f k = text_of d c p b x [] r h k.0 (k.1 ∙ sym (app_nil (h.held ++ b ∷ [])))

-- the first row

abbrev later : List Kind
later = Unclosed ∷ NotUtf8 ∷ TooDeep ∷ Full ∷ lexical_kinds

-- two families of rows that mean the same of these kinds
abbrev Alike : (Kind → Type 0) → (Kind → Type 0) → List Kind → Type 0
Alike R S [] = Unit {0}
Alike R S (y ∷ ys) = (R y → S y) × (S y → R y) × Alike R S ys

first_alike : (R S : Kind → Type 0) (ks : List Kind) (x : Kind) → Alike R S ks → IsFirst R ks x → IsFirst S ks x
first_alike R S [] x a h = h
first_alike R S (y ∷ ys) x a (inl h) = inl (a.0 h.0, h.1)
first_alike R S (y ∷ ys) x a (inr h) = inr (λ s. h.0 (a.1 s), first_alike R S ys x a.2 h.1)

kind_if : (F : Kind → Type 0) (t : Bool) (x y : Kind) → (t ≡ true → F x) → (t ≡ false → F y) → F (if t then x else y)
kind_if F true x y f g = f refl
kind_if F false x y f g = g refl

-- the bytes s, cut before and after the refused one
record Cut (s p : List ℕ) (b : ℕ) (t : List ℕ) : Type 0 where
  whole : s ≡ p ++ b ∷ t
  before : take (length p) s ≡ p
  after : take (suc (length p)) s ≡ p ++ b ∷ []
  rest : drop (length p) s ≡ b ∷ t

cut : (p : List ℕ) (b : ℕ) (t : List ℕ) → Cut (p ++ b ∷ t) p b t
cut p b t =
    let s = p ++ b ∷ t in
    let one = p ++ b ∷ [] in
    let more : length one ≡ suc (length p) = length-append p (b ∷ []) ∙ (let q : length p + 1 ≡ suc (length p) = omega arith in q) in
    record {
      whole = refl;
      before = take-append_seam p (b ∷ t);
      after = ap (λ z. take z s) (sym more) ∙ ap (λ z. take (length one) z) (sym (append_assoc p (b ∷ []) t)) ∙ take-append_seam one t;
      rest = drop-append_seam p (b ∷ t);
    }

part_of : (o : Option Pending) (q : List ℕ) → Held o q → IsPart q
part_of None q e =
    let small : 97 < 128 = omega arith in
    let t : List ℕ = 97 ∷ [] in
    let some : 0 < length t = omega arith in
    let all : encode 97 ≡ q ++ t = encode_one 97 small ∙ ap (λ (z : List ℕ). z ++ t) (sym e) in
    (97, t, ascii_scalar 97 refl, all, some)
part_of (Some w) q a =
    let x = a.some in
    let y = a.begins x.0 x.2 in
    let t = due_byte w.after x.0 ∷ last_bytes w.after x.0 in
    let some : 0 < length t = omega arith in
    (x.0, t, y.0, y.2, some)

-- a list that ends in x
ends_in : (cs ds es : List ℕ) (x : ℕ) → cs ++ x ∷ [] ≡ ds ++ es → 0 < length es → (fs : List ℕ) × (cs ≡ ds ++ fs) × (es ≡ fs ++ x ∷ [])
ends_in cs [] es x e h = (cs, refl, sym e)
ends_in [] (y ∷ ds) es x e h = let k : 1 ≡ suc (length ds + length es) = ap length e ∙ ap suc (length-append ds es) in absurd (omega arith)
ends_in (z ∷ cs) (y ∷ ds) es x e h =
    let hd : z ≡ y = cc in
    let tl : cs ++ x ∷ [] ≡ ds ++ es = cc in
    let r = ends_in cs ds es x tl h in
    (r.0, ap (λ v. v ∷ cs) hd ∙ ap (λ v. y ∷ v) r.1, r.2)

-- the whole characters of what is read
chars_are : (d c : ℕ) (p : List ℕ) (r : Reader) (h : Reads d c p r) (cs q : List ℕ) → scalars cs ≡ true → IsPart q → p ≡ encodes cs ++ q → cs ≡ h.chars
chars_are d c p r h cs q s (x, t, sx, ex, some) e =
    let last : encodes (x ∷ []) ≡ q ++ t = app_nil (encode x) ∙ ex in
    let one : encodes (cs ++ x ∷ []) ≡ encodes h.chars ++ (h.held ++ t) =
    encodes-append cs (x ∷ []) ∙ ap (λ z. encodes cs ++ z) last ∙ sym (append_assoc (encodes cs) q t) ∙ ap (λ z. z ++ t) (sym e ∙ h.all) ∙ append_assoc (encodes h.chars) h.held t in
    let y = peel h.chars (cs ++ x ∷ []) (h.held ++ t) one (scalars_app cs (x ∷ []) s (both_true (scalar x) true sx refl)) in
    let long : 0 < length y.0 = not_nil y.0 y.2 in
    let z = ends_in cs h.chars y.0 x y.1 long in
    let front : encodes z.0 ++ (q ++ t) ≡ h.held ++ t = ap (λ v. encodes z.0 ++ v) (sym last) ∙ sym (encodes-append z.0 (x ∷ [])) ∙ ap encodes (sym z.2) ∙ y.2 in
    let held : encodes z.0 ++ q ≡ h.held = append_cancel_right (encodes z.0 ++ q) h.held t (append_assoc (encodes z.0) q t ∙ front) in
    z.1 ∙ ap (λ v. h.chars ++ v) (none z.0 held) ∙ app_nil h.chars
  where
    not_nil : (es : List ℕ) → encodes es ≡ h.held ++ t → 0 < length es
    not_nil [] k = let l : 0 ≡ length h.held + length t = ap length k ∙ length-append h.held t in absurd (omega arith)
    not_nil (y ∷ es) k = omega arith

    none : (fs : List ℕ) → encodes fs ++ q ≡ h.held → fs ≡ []
    none [] k = refl
    none (y ∷ fs) k = no_whole r.part h.held (encodes fs ++ q) y h.front (sym k ∙ append_assoc (encode y) (encodes fs) q)

to_place : (d c : ℕ) (s p : List ℕ) (b : ℕ) (t : List ℕ) (r : Reader) (h : Reads d c p r) (P : List ℕ → ℕ → Type 0) → Cut s p b t → P h.chars b → AtPlace s (length p) P
to_place d c s p b t r h P k x = (h.chars, h.held, b, t, h.plain, part_of r.part h.held h.front, k.before ∙ h.all, k.rest, x)

from_place : (d c : ℕ) (s p : List ℕ) (b : ℕ) (t : List ℕ) (r : Reader) (h : Reads d c p r) (P : List ℕ → ℕ → Type 0) → Cut s p b t → AtPlace s (length p) P → P h.chars b
from_place d c s p b t r h P k (cs, q, b2, t2, plain, part, e, f, x) =
    let same = chars_are d c p r h cs q plain part (sym k.before ∙ e) in
    let y : b2 ∷ t2 ≡ b ∷ t = sym f ∙ k.rest in
    let byte : b2 ≡ b = cc in
    subst (λ z. P h.chars z) byte (subst (λ z. P z b2) same x)

lexical_alike : (d c : ℕ) (s p : List ℕ) (b : ℕ) (t : List ℕ) (r : Reader) → Cut s p b t → Reads d c p r → Alike (LexicalRow r.machine.lex r.machine.opened b) (Row d c s (length p)) lexical_kinds
lexical_alike d c s p b t r k h =
    let to = λ (P : List ℕ → ℕ → Type 0). to_place d c s p b t r h P k in
    let from = λ (P : List ℕ → ℕ → Type 0). from_place d c s p b t r h P k in
    let a = rows_agree d c h.chars r.machine b h.ran in (
      λ x. to (λ cs z. EndsUnsupportedName cs z) (a.unsupported x),
      λ x. a.unsupported_back (from (λ cs z. EndsUnsupportedName cs z) x),
      (
        λ x. to (λ cs z. EndsRepeatedName cs z) (a.repeated x),
        λ x. a.repeated_back (from (λ cs z. EndsRepeatedName cs z) x),
        (
          λ x. to (λ cs z. StandsInReference cs) (a.reference x),
          λ x. a.reference_back (from (λ cs z. StandsInReference cs) x),
          (
            λ x. to (λ cs z. StandsInEndTag cs z) (a.stray x),
            λ x. a.stray_back (from (λ cs z. StandsInEndTag cs z) x),
            (
              λ x. to (λ cs z. StandsAfterTagName cs z) (a.after x),
              λ x. a.after_back (from (λ cs z. StandsAfterTagName cs z) x),
              (λ x. to (λ cs z. StandsAfterLess cs) (a.less x), λ x. a.less_back (from (λ cs z. StandsAfterLess cs) x), tt),
            ),
          ),
        ),
      ),
    )

whole_none : (o : Option Machine) → read_whole o ≡ None → o ≡ None
whole_none None e = refl
whole_none (Some m) e = cc

part_none : (t : Bool) (r : Reader) → (if t then Some r else None) ≡ None → t ≡ false
part_none true r e = cc
part_none false r e = refl

last_of : List ℕ → ℕ
last_of [] = 0
last_of (x ∷ []) = x
last_of (x ∷ y ∷ ys) = last_of (y ∷ ys)

last_app : (w : List ℕ) (x : ℕ) → last_of (w ++ x ∷ []) ≡ x
unfolding last_of
last_app [] x = refl
last_app (y ∷ []) x = refl
last_app (y ∷ z ∷ zs) x = last_app (z ∷ zs) x

-- a control past ASCII is the number of its last byte
control_byte : (x b : ℕ) (h : List ℕ) → 128 ≤ x → x < 160 → encode x ≡ h ++ b ∷ [] → x ≡ b
unfolding last_of
control_byte x b h lo hi e =
    let two = encode_two x lo (omega arith) in
    let k : next x ≡ b = ap last_of (sym two ∙ e) ∙ last_app h b in
    omega arith

-- the machine refuses the number of the byte, too
step_none : (d c : ℕ) (p : List ℕ) (b : ℕ) (r : Reader) (h : Reads d c p r) (z : Decoded) → decode r.part b ≡ z → DecodedIs h.held b z → Fits b z → read_decoded c r.machine z ≡ None → step c r.machine b ≡ None
step_none d c p b r h Bad e k f n = elim f [ ]
step_none d c p b r h (Part q) e k f n =
    wide_none c r.machine.lex r.machine b (live_start c d h.chars r.machine h.ran) f (part_none (takes_wide c r.machine) (record { machine = r.machine; part = Some q }) n)
step_none d c p b r h (Whole x) e k (inl same) n = ap (λ z. step c r.machine z) (sym same) ∙ whole_none (step c r.machine x) n
step_none d c p b r h (Whole x) e k (inr big) n =
    let none = whole_none (step c r.machine x) n in
    elim (cases_Bool (takes_wide c r.machine)) [
      | inr f ↦ wide_none c r.machine.lex r.machine b (live_start c d h.chars r.machine h.ran) big.0 f
      | inl takes ↦ elim (cases_lt x 160) [
        | inl lt ↦ ap (λ z. step c r.machine z) (sym (control_byte x b h.held big.1 lt k.1)) ∙ none
        | inr ge ↦ let y = wide_some c r.machine.lex r.machine x big.1 ge takes in
            let bad : None ≡ Some y.0 = sym none ∙ y.1 in
            cc
      ]
    ]

zero_or : (k : ℕ) → nat_lt 0 k ≡ false → k ≡ 0
zero_or k h = grind (arith, nat_tests)

some_or : (k : ℕ) → nat_lt 0 k ≡ true → 0 < k
some_or k h = grind (arith, nat_tests)

no_room_here : (d c : ℕ) (p : List ℕ) (b : ℕ) (r : Reader) → Stuck d c p b r → begins_node r.machine.lex r.machine b ≡ true → room_for c r.machine.lex r.machine ≡ false
no_room_here d c p b r s t =
    elim (cases_Bool (room_for c r.machine.lex r.machine)) [
      | inr f ↦ f
      | inl y ↦ let g = accept c r.machine b (decode r.part b) s.fits t y in
          let bad : None ≡ Some g.0 = sym s.stops ∙ g.1 in
          cc
    ]

-- the rows behind that of Unclosed and of text
first_limits : (d c : ℕ) (s p : List ℕ) (b : ℕ) (t : List ℕ) (r : Reader) → Cut s p b t → Reads d c p r → Stuck d c p b r → step c r.machine b ≡ None → IsFirst (Row d c s (length p)) (TooDeep ∷ Full ∷ lexical_kinds) (kind_at r.machine b)
first_limits d c s p b t r k h u n =
    let R = Row d c s (length p) in
    let m = r.machine in
    let P = p ++ b ∷ [] in
    let back = sym k.after in
    let F : Kind → Type 0 = λ x. IsFirst R (TooDeep ∷ Full ∷ lexical_kinds) x in
    kind_if F (begins_node m.lex m b) (no_room m) (misplaced m.lex b)
    (λ y. kind_if F (nat_lt 0 m.room) Full TooDeep
    (λ pos. let room = some_or m.room pos in
    inr (λ z. not_deep d c p b r u y room (subst (λ q. MakesTooDeep d q) k.after z), inl (subst (λ q. MakesFull c q) back (full d c p b r u y room (no_room_here d c p b r u y)), refl)))
    (λ none. inl (subst (λ q. MakesTooDeep d q) back (too_deep d c p b r u y (zero_or m.room none)), refl)))
    (λ y. let out = no_page d c p b r u y in
    inr (
      λ z. out (subst (λ q. MakesTooDeep d q) k.after z).0,
      inr (
        λ z. out (subst (λ q. MakesFull c q) k.after z).0,
        first_alike (LexicalRow m.lex m.opened b) R lexical_kinds (misplaced m.lex b) (lexical_alike d c s p b t r k h) (lexical_first c m.lex m b y n),
      ),
    ))

not_begins : (d c : ℕ) (p : List ℕ) (b : ℕ) (r : Reader) → Reads d c p r → read_byte c r b ≡ None → BeginsPage d c (p ++ b ∷ []) → ⊥
not_begins d c p b r h n k =
    let g = byte_goes d c p r b h k in
    let bad : None ≡ Some g.0 = sym n ∙ g.1 in
    cc

fits_of : (h : List ℕ) (b : ℕ) (q : Pending) → DecodedIs h b (Part q) → 128 ≤ b
fits_of h b q k = k.0

first_here : (d c : ℕ) (s p : List ℕ) (b : ℕ) (t : List ℕ) (r : Reader) → Cut s p b t → (h : Reads d c p r) → read_bytes c (begin d) p ≡ Some r → read_byte c r b ≡ None → (z : Decoded) → decode r.part b ≡ z → DecodedIs h.held b z → IsFirst (Row d c s (length p)) (NotUtf8 ∷ TooDeep ∷ Full ∷ lexical_kinds) (kind_decoded r.machine b z)
first_here d c s p b t r k h e n Bad dz kz = inl (λ y. no_text d c p b r h kz (subst (λ q. BeginsText q) k.after y), refl)
first_here d c s p b t r k h e n (Part q) dz kz =
    let none : read_decoded c r.machine (Part q) ≡ None = ap (λ z. read_decoded c r.machine z) (sym dz) ∙ n in
    let text = subst (λ q. BeginsText q) (sym k.after) (begins_text d c p b r h (Part q) kz.0 kz) in
    let u : Stuck d c p b r = record { read = e; stops = n; fits = subst (λ z. Fits b z) (sym dz) kz.0 } in
    inr (λ y. y text, first_limits d c s p b t r k h u (step_none d c p b r h (Part q) dz kz kz.0 none))
first_here d c s p b t r k h e n (Whole x) dz kz =
    let none : read_decoded c r.machine (Whole x) ≡ None = ap (λ z. read_decoded c r.machine z) (sym dz) ∙ n in
    let text = subst (λ q. BeginsText q) (sym k.after) (begins_text d c p b r h (Whole x) kz.2 kz) in
    let u : Stuck d c p b r = record { read = e; stops = n; fits = subst (λ z. Fits b z) (sym dz) kz.2 } in
    inr (λ y. y text, first_limits d c s p b t r k h u (step_none d c p b r h (Whole x) dz kz kz.2 none))

-- what the computed fault of a page of any length means
abbrev TextFault : (d c : ℕ) → List ℕ → Option (ℕ × Kind) → Type 0
TextFault d c s None = IsPageBytes d c s
TextFault d c s (Some x) = (IsPageBytes d c s → ⊥) × IsBytePlace d c s x.0 × IsFirst (Row d c s x.0) later x.1

page_begins : (d c : ℕ) (s : List ℕ) → IsPageBytes d c s → BeginsPage d c s
page_begins d c s h = ([], subst (λ z. IsPageBytes d c z) (sym (app_nil s)) h)

longer : (p : List ℕ) (b : ℕ) (t : List ℕ) (j : ℕ) → length p < j → j ≤ length (p ++ b ∷ t) → (q : List ℕ) × (take j (p ++ b ∷ t) ≡ (p ++ b ∷ []) ++ q)
longer [] b t zero h k = absurd (omega arith)
longer [] b t (suc j) h k = (take j t, refl)
longer (x ∷ p) b t zero h k = absurd (omega arith)
longer (x ∷ p) b t (suc j) h k = let z = longer p b t j (omega arith) (omega arith) in (z.0, ap (λ l. x ∷ l) z.1)

stuck_fault : (d c : ℕ) (p : List ℕ) (b : ℕ) (t : List ℕ) (r : Reader) → Reads d c p r → read_bytes c (begin d) p ≡ Some r → read_byte c r b ≡ None → TextFault d c (p ++ b ∷ t) (Some (length p, kind_of_byte r b))
stuck_fault d c p b t r h e n =
    let s = p ++ b ∷ t in
    let k = cut p b t in
    let no = not_begins d c p b r h n in
    let split : s ≡ (p ++ b ∷ []) ++ t = sym (append_assoc p (b ∷ []) t) in
    let stop : BeginsPage d c s → ⊥ = λ y. no (begins_less d c (p ++ b ∷ []) t (subst (λ z. BeginsPage d c z) split y)) in
    let len : length s ≡ length p + suc (length t) = length-append p (b ∷ t) in (
      λ y. stop (page_begins d c s y),
      record {
        within = omega arith;
        here = subst (λ z. BeginsPage d c z) (sym k.before) (reads_begins d c p r e);
        longest = λ j w y. elim (cases_lt (length p) j) [
          | inr le ↦ le
          | inl lt ↦ let z = longer p b t j lt w in absurd (no (begins_less d c (p ++ b ∷ []) z.0 (subst (λ v. BeginsPage d c v) z.1 y)))
        ];
      },
      inr (λ y. stop y.1, first_here d c s p b t r k h e n (decode r.part b) refl (decoded r.part h.held b h.front)),
    )

-- the end

abbrev pub Ending : Option Pending → Lexical → List (List ℕ) → ℕ → Type 0
Ending o l ws n =
    ((o ≡ None) × IsReady l × is_none_open ws × (fault_at_end o l ws n ≡ None))
    ⊎ ((o ≡ None → IsReady l → is_none_open ws → ⊥) × (fault_at_end o l ws n ≡ Some (n, Unclosed)))

pub ending : (o : Option Pending) (l : Lexical) (ws : List (List ℕ)) (n : ℕ) → Ending o l ws n
ending None Data [] n = inl (refl, tt, tt, refl)
ending None Data (w ∷ ws) n = inr (λ e h k. k, refl)
ending None (InText t) [] n = inl (refl, tt, tt, refl)
ending None (InText t) (w ∷ ws) n = inr (λ e h k. k, refl)
ending None l ws n = inr (λ e h k. h, refl)
ending (Some q) l ws n = inr (λ e h k. cc, refl)

pub held_none : (o : Option Pending) (h : List ℕ) → o ≡ None → Held o h → h ≡ []
held_none None h e k = k
held_none (Some q) h e k = cc

pub held_end : (o : Option Pending) (h : List ℕ) → Held o h → h ≡ [] → o ≡ None
held_end None h k e = refl
held_end (Some q) h a e = let f = a.filled in let z : length h ≡ 0 = ap length e in absurd (omega arith)

-- a page is read to its end
ends_page : (d c : ℕ) (s : List ℕ) (r : Reader) → Reads d c s r → IsPageBytes d c s → (r.part ≡ None) × IsEnd r.machine
ends_page d c s r h (f, (cs, sc, e, page)) =
    let y = page_read d c cs f page in
    let x = peel h.chars cs h.held (e ∙ h.all) sc in
    let empty : x.0 ≡ [] = go x.0 x.2 in
    let none : h.held ≡ [] = sym x.2 ∙ ap encodes empty in
    let same : cs ≡ h.chars = x.1 ∙ ap (λ z. h.chars ++ z) empty ∙ app_nil h.chars in
    let run_same : Some y.there ≡ Some r.machine = sym y.reads ∙ ap (λ z. run c (start d) z) same ∙ h.ran in
    let there : y.there ≡ r.machine = cc in
    (held_end r.part h.held h.front none, subst (λ z. IsEnd z) there y.ends)
  where
    go : (es : List ℕ) → encodes es ≡ h.held → es ≡ []
    go [] k = refl
    go (x ∷ es) k = no_whole r.part h.held (encodes es) x h.front (sym k)

end_fault : (d c : ℕ) (s : List ℕ) (r : Reader) → read_bytes c (begin d) s ≡ Some r → Reads d c s r → TextFault d c s (fault_at_end r.part r.machine.lex r.machine.opened (length s))
end_fault d c s r e h =
    elim (ending r.part r.machine.lex r.machine.opened (length s)) [
      | inl k ↦ rw k.3 (let x = page_only d c h.chars r.machine h.ran (k.1, k.2) in
          let none = held_none r.part h.held k.0 h.front in
          let all : encodes h.chars ≡ s = sym (app_nil (encodes h.chars)) ∙ ap (λ z. encodes h.chars ++ z) (sym none) ∙ sym h.all in
          (x.0, (h.chars, h.plain, all, x.1)))
      | inr k ↦ rw k.1
          (let all : take (length s) s ≡ s = take_all (length s) s (omega arith) in
          let no : IsPageBytes d c s → ⊥ = λ y. let z = ends_page d c s r h y in k.0 z.0 z.1.0 z.1.1 in (
            no,
            record { within = omega arith; here = subst (λ z. BeginsPage d c z) (sym all) (reads_begins d c s r e); longest = λ j w y. w },
            inl ((no, reads_begins d c s r e), refl),
          ))
    ]

fault_by : (d c : ℕ) (p : List ℕ) (b : ℕ) (t : List ℕ) (r : Reader) (o : Option Reader) → Reads d c p r → read_bytes c (begin d) p ≡ Some r → read_byte c r b ≡ o → ((r1 : Reader) → read_byte c r b ≡ Some r1 → TextFault d c (p ++ b ∷ t) (fault_from c r1 (suc (length p)) t)) → TextFault d c (p ++ b ∷ t) (fault_next o (λ r1. fault_from c r1 (suc (length p)) t) (length p, kind_of_byte r b))
fault_by d c p b t r None h e n ih = stuck_fault d c p b t r h e n
fault_by d c p b t r (Some r1) h e n ih = ih r1 n

reads_of : (d c : ℕ) (p : List ℕ) (r : Reader) → read_bytes c (begin d) p ≡ Some r → Reads d c p r
reads_of d c p r e = all_reads d c p [] (begin d) r (reads_start d c) e

fault_at : (d c : ℕ) (t p : List ℕ) (r : Reader) → read_bytes c (begin d) p ≡ Some r → TextFault d c (p ++ t) (fault_from c r (length p) t)
fault_at d c [] p r e = rw (app_nil p) (end_fault d c p r e (reads_of d c p r e))
fault_at d c (b ∷ t) p r e =
    fault_by d c p b t r (read_byte c r b) (reads_of d c p r e) e refl (λ r1 k.
    let one = p ++ b ∷ [] in
    let here : read_bytes c (begin d) one ≡ Some r1 = read_one_more c d p b r e ∙ k in
    let more : length one ≡ suc (length p) = length-append p (b ∷ []) ∙ (let q : length p + 1 ≡ suc (length p) = omega arith in q) in
    let x = fault_at d c t one r1 here in
    let y = subst (λ z. TextFault d c z (fault_from c r1 (length one) t)) (append_assoc p (b ∷ []) t) x in
    subst (λ z. TextFault d c (p ++ b ∷ t) (fault_from c r1 z t)) more y)

within_limit : (d c : ℕ) (s : List ℕ) (o : Option (ℕ × Kind)) → length s ≤ page_limit → TextFault d c s o → IsFault d c s o
within_limit d c s None h k = (k, h)
within_limit d c s (Some x) h k = (λ y. k.0 y.0, record { too_long = λ y. absurd (omega arith); longest = λ y. k.1 }, inr (λ y. omega arith, k.2))

pub fault_is : (d c : ℕ) (s : List ℕ) → IsFault d c s (page_fault d c s)
fault_is d c s =
    elim (cases_lt page_limit (length s)) [
      | inl lt ↦ rw (lt_test page_limit (length s) lt) (λ y. let z = y.1 in omega arith, record { too_long = λ y. refl; longest = λ y. absurd (omega arith) }, inl (lt, refl))
      | inr ge ↦ rw (ge_test page_limit (length s) ge) (within_limit d c s (text_fault d c s) ge (fault_at d c s [] (begin d) refl))
    ]
