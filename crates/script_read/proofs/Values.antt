-- Values and printed texts: what is read is in the grammar, and what is in the grammar is read.
use Rattle.std.proofs.Common.{◌≡◌, inl, inr, ℕ, ◌+◌, ◌*◌, ◌<◌, ◌≤◌, Bool, true, false, ◌&&◌, cond, ◌==◌, List, [], ◌∷◌, ◌++◌, length, map, Option, Some, None, refl, sym, ap, subst, ◌∙◌, append_assoc, arith, chars}
use Rattle.std.specs.Prelude.{option_to_list}
use Rattle.std.specs.Char.{digit_value}
use Rattle.std.specs.List.{list_all, flat_map}
use Rattle.std.specs.Option.{option_map}
use Rattle.std.specs.Str.{is_utf8, IsUtf8}
use Rattle.std.specs.Str.Parse.{digits_value, digits_value_after}
use Rattle.std.proofs.Math.Utf8.{scalar, scalars}
use Rattle.std.proofs.lemmas.Int.Digits.{digits_value_push}
use Rattle.std.proofs.lemmas.List.{append-nil, length_push}
use Rattle.std.proofs.lemmas.List.Folds.{list_all-append}
use Rattle.std.proofs.lemmas.Option.{cond_some}
use Rattle.std.proofs.lemmas.Str.{chars-encodes, encodes-chars, scalars-chars, is_utf8-from_IsUtf8, IsUtf8-from_is_utf8}
use Rattle.script_read.specs.declared.value.Escape.{Escape}
use Rattle.script_read.specs.declared.value.Escape.TheVariants.{Outside, Backslash as After, Letter, Digits}
use Rattle.script_read.specs.Acts.{Piece, Itself, LineFeed, Tab, Backslash, Quote, Return, Scalar, spelling, meaning, is_hex_digit, IsPiece, ArePieces, SpellsChars, SpellsBytes}
use Rattle.script_read.specs.Reading.{◌>>=◌, Step, letter_read, closed, digit_read, stepped, is_outside, value_from, text_of}
use Rattle.script_read.proofs.Tests.{some-is, and-true, chosen, equal, differs, unequal, bound, mapped}
use Rattle.script_read.proofs.Cutting.{passing_avoids}

-- ---- what is in the grammar is read

nothing_before : (o : Option (List ℕ)) → option_map (λ value. [] ++ value) o ≡ o
nothing_before None = refl
nothing_before (Some value) = refl

hex_is_no_brace : (c : ℕ) → is_hex_digit c ≡ true → (c == 125) ≡ false
hex_is_no_brace c is = (passing_avoids is_hex_digit 125 refl (c ∷ []) (rw is refl)).0

-- one digit more
digit_step : (printed : Bool) (count number c : ℕ) (text : List ℕ) → count < 6 → is_hex_digit c ≡ true
    → value_from printed (Digits count number) (c ∷ text) ≡ value_from printed (Digits (count + 1) (number * 16 + digit_value c)) text
unfolding value_from
digit_step printed count number c text few hex =
    let six : (count == 6) ≡ false = differs count 6 (λ e. omega (arith, e)) in
    rw (hex_is_no_brace c hex, six, hex) (nothing_before (value_from printed (Digits (count + 1) (number * 16 + digit_value c)) text))

digits_run : (printed : Bool) (digits : List ℕ) (count number : ℕ) (text : List ℕ) → count + length digits ≤ 6 → list_all is_hex_digit digits ≡ true
    → value_from printed (Digits count number) (digits ++ text) ≡ value_from printed (Digits (count + length digits) (digits_value_after 16 number digits)) text
digits_run printed [] count number text few all = ap (λ k. value_from printed (Digits k number) text) (omega arith)
digits_run printed (c ∷ cs) count number text few all =
    let h = and-true (is_hex_digit c) (list_all is_hex_digit cs) all in
    let next = number * 16 + digit_value c in
    let tail = digits_run printed cs (count + 1) next text (omega arith) h.1 in
    let k : count + 1 + length cs ≡ count + length (c ∷ cs) = omega arith in
    digit_step printed count number c (cs ++ text) (omega arith) h.0 ∙ tail
    ∙ ap (λ k. value_from printed (Digits k (digits_value_after 16 next cs)) text) k

close_step : (printed : Bool) (count number : ℕ) (text value : List ℕ) → 0 < count → scalar number ≡ true → value_from printed Outside text ≡ Some value
    → value_from printed (Digits count number) (125 ∷ text) ≡ Some (number ∷ value)
unfolding value_from
close_step printed count number text value some is e =
    let zero : (count == 0) ≡ false = differs count 0 (λ e. omega (arith, e)) in
    rw (zero, is, e) refl

itself_step : (printed : Bool) (c : ℕ) (text value : List ℕ) → (c == 92) ≡ false → value_from printed Outside text ≡ Some value → value_from printed Outside (c ∷ text) ≡ Some (c ∷ value)
unfolding value_from
itself_step printed c text value lacks e = rw (lacks, e) refl

letter_step : (printed : Bool) (c d : ℕ) (text value : List ℕ) → letter_read printed c ≡ Some (Outside, Some d) → value_from printed Outside text ≡ Some value
    → value_from printed Outside (92 ∷ (c ∷ text)) ≡ Some (d ∷ value)
unfolding value_from
letter_step printed c d text value is e = rw (is, e) refl

brace_step : (printed : Bool) (text : List ℕ) → value_from printed Outside (92 ∷ (117 ∷ (123 ∷ text))) ≡ value_from printed (Digits 0 0) text
unfolding value_from
brace_step printed text =
    let o = value_from printed (Digits 0 0) text in
    nothing_before (option_map (λ value. [] ++ value) (option_map (λ value. [] ++ value) o)) ∙ nothing_before (option_map (λ value. [] ++ value) o) ∙ nothing_before o

scalar_step : (printed : Bool) (digits text value : List ℕ) → IsPiece printed (Scalar digits) → value_from printed Outside text ≡ Some value
    → value_from printed Outside (spelling (Scalar digits) ++ text) ≡ Some (digits_value 16 digits ∷ value)
scalar_step printed digits text value (some, few, all, is) e =
    let regrouped : (digits ++ 125 ∷ []) ++ text ≡ digits ++ 125 ∷ text = append_assoc digits (125 ∷ []) text in
    ap (λ t. value_from printed Outside (92 ∷ (117 ∷ (123 ∷ t)))) regrouped
    ∙ brace_step printed (digits ++ 125 ∷ text)
    ∙ digits_run printed digits 0 0 (125 ∷ text) (omega arith) all
    ∙ close_step printed (0 + length digits) (digits_value 16 digits) text value (omega arith) is e

piece_step : (printed : Bool) (p : Piece) (text value : List ℕ) → IsPiece printed p → value_from printed Outside text ≡ Some value
    → value_from printed Outside (spelling p ++ text) ≡ Some (meaning p ∷ value)
piece_step printed (Itself c) text value is e = itself_step printed c text value (differs c 92 is.1) e
piece_step printed LineFeed text value is e = letter_step printed 110 10 text value refl e
piece_step printed Tab text value is e = letter_step printed 116 9 text value refl e
piece_step printed Backslash text value is e = letter_step printed 92 92 text value refl e
piece_step printed Quote text value is e = letter_step printed 34 34 text value (rw is refl) e
piece_step printed Return text value is e = letter_step printed 114 13 text value (rw is refl) e
piece_step printed (Scalar digits) text value is e = scalar_step printed digits text value is e

no_more : (printed : Bool) → value_from printed Outside [] ≡ Some []
unfolding value_from
no_more printed = refl

pieces_back : (printed : Bool) (ps : List Piece) → ArePieces printed ps → value_from printed Outside (flat_map spelling ps) ≡ Some (map meaning ps)
pieces_back printed [] are = no_more printed
pieces_back printed (p ∷ ps) are = piece_step printed p (flat_map spelling ps) (map meaning ps) are.0 (pieces_back printed ps are.1)

pub spelled_back : (printed : Bool) (text value : List ℕ) → SpellsChars printed text value → value_from printed Outside text ≡ Some value
spelled_back printed text value (ps, are, t, v) = rw (t, v) (pieces_back printed ps are)

pub text_back : (printed : Bool) (bytes value : List ℕ) → SpellsBytes printed bytes value → text_of printed bytes ≡ Some value
unfolding text_of
text_back printed bytes value (text, all, encoded, spells) =
    let utf8 : is_utf8 bytes ≡ true = is_utf8-from_IsUtf8 bytes (text, (all, encoded)) in
    let is : chars bytes ≡ text = ap chars (sym encoded) ∙ chars-encodes text all in
    rw (utf8, is) (spelled_back printed text value spells)

-- ---- what is read is in the grammar

one_more : (printed : Bool) (p : Piece) (text value all : List ℕ) → IsPiece printed p → all ≡ spelling p ++ text → SpellsChars printed text value → SpellsChars printed all (meaning p ∷ value)
one_more printed p text value all is e (ps, are, t, v) =
    (p ∷ ps, (is, are), e ∙ ap (λ x. spelling p ++ x) t, ap (λ x. meaning p ∷ x) v)

-- what the characters so far and the rest spell, in each state
abbrev Sound : Bool → Escape → List ℕ → List ℕ → Type 0
Sound printed Outside text value = SpellsChars printed text value
Sound printed After text value = SpellsChars printed (92 ∷ text) value
Sound printed Letter text value = SpellsChars printed (92 ∷ (117 ∷ text)) value
Sound printed (Digits count number) text value =
    (ds : List ℕ) → length ds ≡ count → count ≤ 6 → number ≡ digits_value 16 ds → list_all is_hex_digit ds ≡ true
    → SpellsChars printed (92 ∷ (117 ∷ (123 ∷ (ds ++ text)))) value

-- the value from the state that a step reaches gives the value from the one before
abbrev Turns : Bool → Escape → ℕ → List ℕ → List ℕ → Step → Type 0
Turns printed state c text value step = Sound printed step.0 text value → Sound printed state (c ∷ text) (option_to_list step.1 ++ value)

by_step : (printed : Bool) (state : Escape) (c : ℕ) (text value : List ℕ) (a step : Step) → Some a ≡ Some step → Turns printed state c text value a → Turns printed state c text value step
by_step printed state c text value a step e t = subst (Turns printed state c text value) (some-is e) t

spell_letter : (printed : Bool) (p : Piece) (c k : ℕ) (text value : List ℕ) → c ≡ k → IsPiece printed p → spelling p ≡ 92 ∷ (k ∷ []) → SpellsChars printed text value → SpellsChars printed (92 ∷ (c ∷ text)) (meaning p ∷ value)
spell_letter printed p c k text value e is spelled s =
    one_more printed p text value (92 ∷ (c ∷ text)) is (ap (λ x. 92 ∷ (x ∷ text)) e ∙ ap (λ (x : List ℕ). x ++ text) (sym spelled)) s

turn_outside : (printed : Bool) (c : ℕ) (text value : List ℕ) (step : Step) → scalar c ≡ true → stepped printed Outside c ≡ Some step → Turns printed Outside c text value step
turn_outside printed c text value step is e =
    elim (chosen (c == 92) (Some (After, None)) (Some (Outside, Some c)) (Some step) e) [
      | inl h ↦ by_step printed Outside c text value (After, None) step h.1 (λ s. subst (λ (x : ℕ). SpellsChars printed (x ∷ text) value) (sym (equal c 92 h.0)) s)
      | inr h ↦ by_step printed Outside c text value (Outside, Some c) step h.1 (λ s. one_more printed (Itself c) text value (c ∷ text) (is, unequal c 92 h.0) refl s)
    ]

turn_return : (printed : Bool) (c : ℕ) (text value : List ℕ) (step : Step) → cond (printed && c == 114) (Some (Outside, Some 13)) None ≡ Some step → Turns printed After c text value step
turn_return printed c text value step e =
    let h = cond_some (printed && c == 114) (Outside, Some 13) step e in
    let t = and-true printed (c == 114) h.0 in
    subst (Turns printed After c text value) h.1 (λ s. spell_letter printed Return c 114 text value (equal c 114 t.1) t.0 refl s)

turn_quote : (printed : Bool) (c : ℕ) (text value : List ℕ) (step : Step)
    → cond (printed && c == 34) (Some (Outside, Some 34)) (cond (printed && c == 114) (Some (Outside, Some 13)) None) ≡ Some step → Turns printed After c text value step
turn_quote printed c text value step e =
    elim (chosen (printed && c == 34) _ _ (Some step) e) [
      | inl h ↦ let t = and-true printed (c == 34) h.0 in
          by_step printed After c text value (Outside, Some 34) step h.1 (λ s. spell_letter printed Quote c 34 text value (equal c 34 t.1) t.0 refl s)
      | inr h ↦ turn_return printed c text value step h.1
    ]

turn_unicode : (printed : Bool) (c : ℕ) (text value : List ℕ) (step : Step)
    → cond (c == 117) (Some (Letter, None)) (cond (printed && c == 34) (Some (Outside, Some 34)) (cond (printed && c == 114) (Some (Outside, Some 13)) None)) ≡ Some step
    → Turns printed After c text value step
turn_unicode printed c text value step e =
    elim (chosen (c == 117) _ _ (Some step) e) [
      | inl h ↦ by_step printed After c text value (Letter, None) step h.1 (λ s. subst (λ (x : ℕ). SpellsChars printed (92 ∷ (x ∷ text)) value) (sym (equal c 117 h.0)) s)
      | inr h ↦ turn_quote printed c text value step h.1
    ]

turn_letter : (printed : Bool) (c : ℕ) (text value : List ℕ) (step : Step) → letter_read printed c ≡ Some step → Turns printed After c text value step
turn_letter printed c text value step e =
    elim (chosen (c == 110) _ _ (Some step) e) [
      | inl h ↦ by_step printed After c text value (Outside, Some 10) step h.1 (λ s. spell_letter printed LineFeed c 110 text value (equal c 110 h.0) tt refl s)
      | inr h ↦ elim (chosen (c == 116) _ _ (Some step) h.1) [
        | inl h ↦ by_step printed After c text value (Outside, Some 9) step h.1 (λ s. spell_letter printed Tab c 116 text value (equal c 116 h.0) tt refl s)
        | inr h ↦ elim (chosen (c == 92) _ _ (Some step) h.1) [
          | inl h ↦ by_step printed After c text value (Outside, Some 92) step h.1 (λ s. spell_letter printed Backslash c 92 text value (equal c 92 h.0) tt refl s)
          | inr h ↦ turn_unicode printed c text value step h.1
        ]
      ]
    ]

turn_brace : (printed : Bool) (c : ℕ) (text value : List ℕ) (step : Step) → stepped printed Letter c ≡ Some step → Turns printed Letter c text value step
turn_brace printed c text value step e =
    let h = cond_some (c == 123) (Digits 0 0, None) step e in
    subst (Turns printed Letter c text value) h.1
    (λ s. subst (λ (x : ℕ). SpellsChars printed (92 ∷ (117 ∷ (x ∷ text))) value) (sym (equal c 123 h.0)) (s [] refl (omega arith) refl refl))

close_text : (ds text : List ℕ) (c : ℕ) → c ≡ 125 → 92 ∷ (117 ∷ (123 ∷ (ds ++ c ∷ text))) ≡ spelling (Scalar ds) ++ text
close_text ds text c e =
    ap (λ x. 92 ∷ (117 ∷ (123 ∷ (ds ++ x ∷ text)))) e ∙ ap (λ x. 92 ∷ (117 ∷ (123 ∷ x))) (sym (append_assoc ds (125 ∷ []) text))

turn_close : (printed : Bool) (count number c : ℕ) (text value : List ℕ) (step : Step) → c ≡ 125 → closed count number ≡ Some step → Turns printed (Digits count number) c text value step
turn_close printed count number c text value step brace e =
    elim (chosen (count == 0) None (cond (scalar number) (Some (Outside, Some number)) None) (Some step) e) [
      | inl h ↦ absurd (let f = h.1 in cc)
      | inr h ↦ let k = cond_some (scalar number) (Outside, Some number) step h.1 in
          subst (Turns printed (Digits count number) c text value) k.1
          (λ s ds len few is all.
          let some : 0 < length ds = let lacks = unequal count 0 h.0 in omega (arith, len, lacks) in
          let fits : IsPiece printed (Scalar ds) = (some, rw len few, all, ap scalar (sym is) ∙ k.0) in
          subst (λ (n : ℕ). SpellsChars printed (92 ∷ (117 ∷ (123 ∷ (ds ++ c ∷ text)))) (n ∷ value)) (sym is)
          (one_more printed (Scalar ds) text value (92 ∷ (117 ∷ (123 ∷ (ds ++ c ∷ text)))) fits (close_text ds text c brace) s))
    ]

turn_digit : (printed : Bool) (count number c : ℕ) (text value : List ℕ) (step : Step) → digit_read count number c ≡ Some step → Turns printed (Digits count number) c text value step
turn_digit printed count number c text value step e =
    elim (chosen (count == 6) None (cond (is_hex_digit c) (Some (Digits (count + 1) (number * 16 + digit_value c), None)) None) (Some step) e) [
      | inl h ↦ absurd (let f = h.1 in cc)
      | inr h ↦ let k = cond_some (is_hex_digit c) (Digits (count + 1) (number * 16 + digit_value c), None) step h.1 in
          subst (Turns printed (Digits count number) c text value) k.1
          (λ s ds len few is all.
          let lacks = unequal count 6 h.0 in
          let longer : length (ds ++ c ∷ []) ≡ count + 1 = omega (arith, length_push ds c, len) in
          let value_is : number * 16 + digit_value c ≡ digits_value 16 (ds ++ c ∷ []) = ap (λ n. n * 16 + digit_value c) is ∙ sym (digits_value_push 16 ds c) in
          let each : list_all is_hex_digit (ds ++ c ∷ []) ≡ true = list_all-append is_hex_digit ds (c ∷ []) ∙ rw (all, k.0) refl in
          subst (λ (t : List ℕ). SpellsChars printed (92 ∷ (117 ∷ (123 ∷ t))) value) (append_assoc ds (c ∷ []) text)
          (s (ds ++ c ∷ []) longer (omega (arith, few, lacks)) value_is each))
    ]

turn_digits : (printed : Bool) (count number c : ℕ) (text value : List ℕ) (step : Step) → stepped printed (Digits count number) c ≡ Some step → Turns printed (Digits count number) c text value step
turn_digits printed count number c text value step e =
    elim (chosen (c == 125) (closed count number) (digit_read count number c) (Some step) e) [
      | inl h ↦ turn_close printed count number c text value step (equal c 125 h.0) h.1
      | inr h ↦ turn_digit printed count number c text value step h.1
    ]

turn : (printed : Bool) (state : Escape) (c : ℕ) (text value : List ℕ) (step : Step) → scalar c ≡ true → stepped printed state c ≡ Some step → Turns printed state c text value step
turn printed Outside c text value step is e = turn_outside printed c text value step is e
turn printed After c text value step is e = turn_letter printed c text value step e
turn printed Letter c text value step is e = turn_brace printed c text value step e
turn printed (Digits count number) c text value step is e = turn_digits printed count number c text value step e

ended : (printed : Bool) (state : Escape) (value : List ℕ) → value_from printed state [] ≡ Some value → Sound printed state [] value
unfolding value_from
ended printed Outside value e = subst (SpellsChars printed []) (some-is e) ([], tt, refl, refl)
ended printed After value e = absurd (cc)
ended printed Letter value e = absurd (cc)
ended printed (Digits count number) value e = absurd (cc)

value_from-cons : (printed : Bool) (state : Escape) (c : ℕ) (cs : List ℕ) → value_from printed state (c ∷ cs) ≡ (stepped printed state c >>= λ step. option_map (λ value. option_to_list step.1 ++ value) (value_from printed step.0 cs))
unfolding value_from
value_from-cons printed state c cs = refl

sound : (printed : Bool) (text : List ℕ) (state : Escape) (value : List ℕ) → scalars text ≡ true → value_from printed state text ≡ Some value → Sound printed state text value
sound printed [] state value all e = ended printed state value e
sound printed (c ∷ cs) state value all e =
    let h = and-true (scalar c) (scalars cs) all in
    let b = bound (stepped printed state c) (λ step. option_map (λ value. option_to_list step.1 ++ value) (value_from printed step.0 cs)) value (sym (value_from-cons printed state c cs) ∙ e) in
    let m = mapped (value_from printed b.value.0 cs) (λ value. option_to_list b.value.1 ++ value) value b.gives in
    subst (Sound printed state (c ∷ cs)) m.gives
    (turn printed state c cs m.value b.value h.0 b.was (sound printed cs b.value.0 m.value h.1 m.was))

pub text_sound : (printed : Bool) (bytes value : List ℕ) → text_of printed bytes ≡ Some value → SpellsBytes printed bytes value
unfolding text_of
text_sound printed bytes value e =
    elim (chosen (is_utf8 bytes) (value_from printed Outside (chars bytes)) None (Some value) e) [
      | inl h ↦ let utf8 = IsUtf8-from_is_utf8 bytes h.0 in
          (chars bytes, scalars-chars bytes utf8, encodes-chars bytes utf8, sound printed (chars bytes) Outside value (scalars-chars bytes utf8) h.1)
      | inr h ↦ absurd (let f = h.1 in cc)
    ]

meaning_scalar : (printed : Bool) (p : Piece) → IsPiece printed p → scalar (meaning p) ≡ true
meaning_scalar printed (Itself c) is = is.0
meaning_scalar printed LineFeed is = refl
meaning_scalar printed Tab is = refl
meaning_scalar printed Backslash is = refl
meaning_scalar printed Quote is = refl
meaning_scalar printed Return is = refl
meaning_scalar printed (Scalar digits) is = is.3

meanings_scalar : (printed : Bool) (ps : List Piece) → ArePieces printed ps → scalars (map meaning ps) ≡ true
meanings_scalar printed [] are = refl
meanings_scalar printed (p ∷ ps) are = rw (meaning_scalar printed p are.0, meanings_scalar printed ps are.1) refl

-- what is spelled are characters
pub spelled_scalars : (printed : Bool) (bytes value : List ℕ) → SpellsBytes printed bytes value → scalars value ≡ true
spelled_scalars printed bytes value (text, all, encoded, (ps, are, t, v)) = ap scalars v ∙ meanings_scalar printed ps are

-- ---- characters, one after the other

-- what is read, followed by what the state makes of the rest
abbrev pub Follows : Bool → List ℕ → Escape → List ℕ → Option (List ℕ) → Type 0
Follows printed value state rest total = option_map (λ later. value ++ later) (value_from printed state rest) ≡ total

pub Follows-first : (printed : Bool) (text : List ℕ) → Follows printed [] Outside text (value_from printed Outside text)
Follows-first printed text = nothing_before (value_from printed Outside text)

regroup : (value piece : List ℕ) (o : Option (List ℕ)) → option_map (λ later. value ++ later) (option_map (λ v. piece ++ v) o) ≡ option_map (λ later. (value ++ piece) ++ later) o
regroup value piece None = refl
regroup value piece (Some later) = ap Some (sym (append_assoc value piece later))

pub Follows-more : (printed : Bool) (value : List ℕ) (state : Escape) (c : ℕ) (rest all : List ℕ) (total : Option (List ℕ)) (step : Step) → all ≡ c ∷ rest → Some step ≡ stepped printed state c → Follows printed value state all total → Follows printed (value ++ option_to_list step.1) step.0 rest total
Follows-more printed value state c rest all total step is e follows =
    let one : value_from printed state all ≡ option_map (λ v. option_to_list step.1 ++ v) (value_from printed step.0 rest) = ap (value_from printed state) is ∙ value_from-cons printed state c rest ∙ rw (← e) refl in
    sym (regroup value (option_to_list step.1) (value_from printed step.0 rest)) ∙ ap (option_map (λ later. value ++ later)) (sym one) ∙ follows

pub Follows-bad : (printed : Bool) (value : List ℕ) (state : Escape) (c : ℕ) (rest all : List ℕ) (total : Option (List ℕ)) → all ≡ c ∷ rest → None ≡ stepped printed state c → Follows printed value state all total → total ≡ None
Follows-bad printed value state c rest all total is e follows =
    let one : value_from printed state all ≡ None = ap (value_from printed state) is ∙ value_from-cons printed state c rest ∙ rw (← e) refl in
    sym follows ∙ ap (option_map (λ later. value ++ later)) one

pub Follows-end : (printed : Bool) (value : List ℕ) (state : Escape) (all : List ℕ) (total : Option (List ℕ)) → all ≡ [] → state ≡ Outside → Follows printed value state all total → total ≡ Some value
Follows-end printed value state all total is outside follows =
    let one : value_from printed state all ≡ Some [] = ap (value_from printed state) is ∙ ap (λ s. value_from printed s []) outside ∙ no_more printed in
    sym follows ∙ ap (option_map (λ later. value ++ later)) one ∙ ap Some (append-nil value)

unfinished : (printed : Bool) (state : Escape) → is_outside state ≡ false → value_from printed state [] ≡ None
unfolding value_from
unfinished printed state open_still = rw open_still refl

pub Follows-open : (printed : Bool) (value : List ℕ) (state : Escape) (all : List ℕ) (total : Option (List ℕ)) → all ≡ [] → is_outside state ≡ false → Follows printed value state all total → total ≡ None
Follows-open printed value state all total is open_still follows =
    let one : value_from printed state all ≡ None = ap (value_from printed state) is ∙ unfinished printed state open_still in
    sym follows ∙ ap (option_map (λ later. value ++ later)) one

pub still_open : (state : Escape) → (state ≡ Outside → ⊥) → is_outside state ≡ false
still_open Outside other = absurd (other refl)
still_open After other = refl
still_open Letter other = refl
still_open (Digits count number) other = refl

pub is_text : (printed : Bool) (bytes text : List ℕ) → text ≡ bytes → IsUtf8 bytes → text_of printed bytes ≡ value_from printed Outside (chars text)
unfolding text_of
is_text printed bytes text e utf8 = rw (is_utf8-from_IsUtf8 bytes utf8) (ap (λ t. value_from printed Outside (chars t)) (sym e))

pub no_text : (printed : Bool) (bytes : List ℕ) → ¬ (IsUtf8 bytes) → text_of printed bytes ≡ None
unfolding text_of
no_text printed bytes lacks =
    elim (is_utf8 bytes) as (λ (t : Bool). (t ≡ true → IsUtf8 bytes) → cond t (value_from printed Outside (chars bytes)) None ≡ None) [
      | true ↦ λ from. absurd (lacks (from refl))
      | false ↦ λ from. refl
    ] (IsUtf8-from_is_utf8 bytes)
