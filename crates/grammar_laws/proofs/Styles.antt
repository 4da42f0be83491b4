-- Declarations, colours and sizes whose texts are of scalar values.
use Rattle.std.proofs.Common.{◌≡◌, ℕ, ◌+◌, ◌*◌, ◌<◌, Bool, true, false, cond, not, nat_lt, nat_le, List, [], ◌∷◌, ◌++◌, Option, Some, None, IfSome, refl, arith}
use Rattle.std.specs.Prelude.{◌/◌, ◌%◌, ◌&&◌, ◌||◌, ◌==◌, decimal, codes, bytes_eq, fold, if◌then◌else◌}
use Rattle.std.specs.Char.{to_ascii_lowercase, is_ascii_digit, is_ascii_hexdigit}
use Rattle.std.specs.List.{list_all, onto_first, slice_split}
use Rattle.std.proofs.lemmas.Bool.{and_parts}
use Rattle.std.proofs.lemmas.Bool.Decides.{nat_tests}
use Rattle.inline_value.specs.CssValue.StyleText.{Declaration, Nesting, is_space, trim_start, before_trimmed, trim_end, trimmed, lowered, before_colon, after_colon, is_cut, after, outside, pieces, is_closed, is_empty, named, declaration_of, stated}
use Rattle.inline_value.specs.CssValue.DeclarationList.{value_of, set_in, unset_in, with_declaration, declarations_in, text_of, reads_back, set_property, printed_after, printed}
use Rattle.inline_value.specs.CssValue.Colours.{opaque_colour, named_colours, colour_in, named_colour, hex_value, of_digits, hex_colour, number_before, channel, after_space, with_blue, with_green, with_red, rgb_colour, if_none, marked_colour, functional_colour, colour_of, colour_text, split_first, transparent}
use Rattle.inline_value.specs.CssValue.Numbers as numbers
use Rattle.inline_value.specs.CssValue.Numbers.{number_up_to, is_trim, legacy_size}
use Rattle.inline_value.specs.CssValue.SizeKeywords.{SizeRow, smallest, larger, of_number, of_keyword, of_pixels, size_keyword}
use Rattle.inline_value.specs.CssValue.TextDecoration.{words, line_word, without_line}
use Rattle.inline_value.specs.CssValue.declared.colours.Colour.{Colour}
use Rattle.inline_value.specs.CssValue.declared.decoration.DecorationLine.{DecorationLine}
use Rattle.inline_value.specs.CssValue.declared.decoration.DecorationLine.TheVariants as line
use Rattle.inline_value.specs.Wrappers.{hex_digit, hex_pair, hex_text, size_of_keyword}
use Rattle.inline_value.specs.ForestChanges.Named.{Each}
use Rattle.grammar_laws.specs.Proper.{IsText}
use Rattle.grammar_laws.proofs.Texts.{IsLetter, AreLetters, letters, text, low_letter, lower_letter, each_if, each_append, each_filter, each_mapped, each_chosen, each_onto_first, each_split, each_joined, some_if, some_mapped, text_append, text_decimal}

-- ---- parts of a text

start_trimmed : (chars : List ℕ) → AreLetters chars → AreLetters (trim_start chars)
start_trimmed [] h = tt
start_trimmed (c ∷ chars) h = each_if IsLetter (is_space c) (trim_start chars) (c ∷ chars) (start_trimmed chars h.1) h

end_before : (c : ℕ) (chars : List ℕ) → IsLetter c → AreLetters chars → AreLetters (before_trimmed c chars)
end_before c [] own h = each_if IsLetter (is_space c) [] (c ∷ []) tt (own, tt)
end_before c (d ∷ chars) own h = (own, h)

end_trimmed : (chars : List ℕ) → AreLetters chars → AreLetters (trim_end chars)
end_trimmed [] h = tt
end_trimmed (c ∷ chars) h = end_before c (trim_end chars) h.0 (end_trimmed chars h.1)

both_trimmed : (chars : List ℕ) → AreLetters chars → AreLetters (trimmed chars)
unfolding trimmed
both_trimmed chars h = end_trimmed (trim_start chars) (start_trimmed chars h)

before_letters : (chars : List ℕ) → AreLetters chars → AreLetters (before_colon chars)
before_letters [] h = tt
before_letters (c ∷ chars) h = each_if IsLetter (c == 58) [] (c ∷ before_colon chars) tt (h.0, before_letters chars h.1)

after_letters : (chars : List ℕ) → AreLetters chars → AreLetters (after_colon chars)
after_letters [] h = tt
after_letters (c ∷ chars) h = each_if IsLetter (c == 58) chars (after_colon chars) h.1 (after_letters chars h.1)

pieces_letters : (n : Nesting) (chars : List ℕ) → AreLetters chars → Each AreLetters (pieces n chars)
unfolding pieces
pieces_letters n [] h = (tt, tt)
pieces_letters n (c ∷ chars) h =
    each_if AreLetters (is_cut n c) ([] ∷ pieces outside chars) (onto_first c (pieces (after n c) chars)) (tt, pieces_letters outside chars h.1)
    (each_onto_first IsLetter c (pieces (after n c) chars) h.0 (pieces_letters (after n c) chars h.1))

-- ---- declarations

pub record IsDeclared (d : Declaration) : Type 0 where
  pub name : AreLetters d.name
  pub value : AreLetters d.value

named_declared : (name value : List ℕ) → AreLetters name → AreLetters value → IfSome (named name value) IsDeclared
unfolding named
named_declared name value h g = some_if IsDeclared (is_empty name || is_empty value) None (Some (record { name = name; value = value })) tt (record { name = h; value = g })

piece_declared : (piece : List ℕ) → AreLetters piece → IfSome (declaration_of piece) IsDeclared
unfolding declaration_of
piece_declared piece h =
    let left = both_trimmed (before_colon piece) (before_letters piece h) in
    some_if IsDeclared (is_closed piece) (named (lowered (trimmed (before_colon piece))) (trimmed (after_colon piece))) None
    (named_declared (lowered (trimmed (before_colon piece))) (trimmed (after_colon piece)) (each_mapped IsLetter IsLetter to_ascii_lowercase lower_letter (trimmed (before_colon piece)) left)
    (both_trimmed (after_colon piece) (after_letters piece h)))
    tt

each_put : (list : List Declaration) (name value : List ℕ) → AreLetters name → AreLetters value → Each IsDeclared list → Each IsDeclared (set_in list name value)
each_put [] name value h g k = (record { name = h; value = g }, tt)
each_put (d ∷ list) name value h g k =
    each_if IsDeclared (bytes_eq name d.name) (record { name = d.name; value = value } ∷ list) (d ∷ set_in list name value) (record { name = k.0.name; value = g }, k.1) (k.0, each_put list name value h g k.1)

each_taken : (list : List Declaration) (name : List ℕ) → Each IsDeclared list → Each IsDeclared (unset_in list name)
each_taken [] name k = tt
each_taken (d ∷ list) name k = each_if IsDeclared (bytes_eq name d.name) list (d ∷ unset_in list name) k.1 (k.0, each_taken list name k.1)

each_folded : (list : List Declaration) (some : List Declaration) → Each IsDeclared some → Each IsDeclared list → Each IsDeclared (fold with_declaration some list)
each_folded [] some h g = h
each_folded (d ∷ list) some h g = each_folded list (with_declaration some d) (each_put some d.name d.value g.0.name g.0.value h) g.1

pub declarations_letters : (chars : List ℕ) → IsText chars → Each IsDeclared (declarations_in chars)
unfolding declarations_in stated
declarations_letters chars h =
    each_folded (stated chars) [] tt (each_chosen AreLetters IsDeclared declaration_of piece_declared (pieces outside chars) (pieces_letters outside chars (letters chars h)))

pub declared_value : (list : List Declaration) (name : List ℕ) → Each IsDeclared list → IfSome (value_of list name) IsText
declared_value [] name h = tt
declared_value (d ∷ list) name h = some_if IsText (bytes_eq name d.name) (Some d.value) (value_of list name) (text d.value h.0.value) (declared_value list name h.1)

-- ---- printed

text_letters : (d : Declaration) → IsDeclared d → AreLetters (text_of d)
unfolding text_of
text_letters d h = each_append IsLetter d.name (58 ∷ 32 ∷ d.value) h.name (refl, (refl, h.value))

rest_letters : (list : List Declaration) → Each IsDeclared list → AreLetters (printed_after list)
rest_letters [] h = tt
rest_letters (d ∷ list) h = (refl, each_append IsLetter (text_of d) (59 ∷ printed_after list) (text_letters d h.0) (refl, rest_letters list h.1))

printed_letters : (list : List Declaration) → Each IsDeclared list → AreLetters (printed list)
unfolding printed
printed_letters [] h = tt
printed_letters (d ∷ list) h = each_append IsLetter (text_of d) (59 ∷ printed_after list) (text_letters d h.0) (refl, rest_letters list h.1)

pub printed_set : (list : List Declaration) (name value : List ℕ) → IsText name → IsText value → Each IsDeclared list → IsText (printed (set_property list name value))
unfolding set_property
printed_set list name value named own h =
    text _ (printed_letters _ (each_if IsDeclared (reads_back (record { name = name; value = trimmed value })) (set_in list name (trimmed value)) list
    (each_put list name (trimmed value) (letters name named) (both_trimmed value (letters value own)) h) h))

pub printed_unset : (list : List Declaration) (name : List ℕ) → Each IsDeclared list → IsText (printed (unset_in list name))
printed_unset list name h = text _ (printed_letters (unset_in list name) (each_taken list name h))

-- ---- decorations

pub word_text : (d : DecorationLine) → IsText (line_word d)
word_text line.Underline = refl
word_text line.Overline = refl
word_text line.LineThrough = refl

pub rest_text : (chars : List ℕ) (gone : DecorationLine) → IsText chars → IsText (without_line chars gone)
unfolding without_line words
rest_text chars gone h =
    text _ (each_joined IsLetter 32 _ refl (each_filter AreLetters (λ (word : List ℕ). not (bytes_eq (line_word gone) word)) (words chars)
    (each_filter AreLetters (λ (word : List ℕ). not (is_empty word)) (slice_split is_space chars) (each_split IsLetter is_space chars (letters chars h)))))

-- ---- sizes

by_number : {A : Type 0} (P : A → Type 0) (what : SizeRow → A) (r : SizeRow) (rows : List SizeRow) (n : ℕ) → P (what r) → Each (λ (q : SizeRow). P (what q)) rows → P (of_number what r rows n)
by_number P what r [] n h g = h
by_number P what r (q ∷ rows) n h g = by_test (n == r.number) (by_number P what q rows n g.0 g.1)
  where
    by_test : (b : Bool) → P (of_number what q rows n) → P (cond b (what r) (of_number what q rows n))
    by_test true more = h
    by_test false more = more

by_keyword : {A : Type 0} (P : A → Type 0) (what : SizeRow → A) (rows : List SizeRow) (chars : List ℕ) → Each (λ (q : SizeRow). P (what q)) rows → IfSome (of_keyword what rows chars) P
by_keyword P what [] chars h = tt
by_keyword P what (r ∷ rows) chars h = some_if P (bytes_eq r.keyword chars) (Some (what r)) (of_keyword what rows chars) h.0 (by_keyword P what rows chars h.1)

by_pixels : (P : ℕ → Type 0) (r : SizeRow) (rows : List SizeRow) (px : ℕ) → P r.number → Each (λ (q : SizeRow). P q.number) rows → P (of_pixels r rows px)
by_pixels P r [] px h g = h
by_pixels P r (q ∷ rows) px h g = by_test (nat_lt (2 * px) (r.pixels + q.pixels)) (by_pixels P q rows px g.0 g.1)
  where
    by_test : (b : Bool) → P (of_pixels q rows px) → P (cond b r.number (of_pixels q rows px))
    by_test true more = h
    by_test false more = more

-- the digit of a number is a letter
abbrev pub IsDigit : ℕ → Type 0
IsDigit n = IsText ((48 + n) ∷ [])

pub size_digit : (chars : List ℕ) → IfSome (size_of_keyword chars) IsDigit
unfolding size_of_keyword
size_digit chars = by_keyword IsDigit (λ (r : SizeRow). r.number) (smallest ∷ larger) chars (refl, (refl, (refl, (refl, (refl, (refl, (refl, tt)))))))

pub legacy_digit : (px : ℕ) → IsDigit (legacy_size px)
unfolding legacy_size
legacy_digit px = by_pixels IsDigit smallest larger px refl (refl, (refl, (refl, (refl, (refl, (refl, tt))))))

pub keyword_text : (n : ℕ) → IsText (size_keyword n)
unfolding size_keyword
keyword_text n = by_number IsText (λ (r : SizeRow). r.keyword) smallest larger n refl (refl, (refl, (refl, (refl, (refl, (refl, tt))))))

-- ---- colours

pub colour_printed : (c : Colour) → IsText (colour_text c)
unfolding colour_text
colour_printed c = by_test c.clear
  where
    shown : IsText (codes "rgb(" ++ (decimal c.red ++ (codes ", " ++ (decimal c.green ++ (codes ", " ++ (decimal c.blue ++ codes ")"))))))
    shown =
        text_append (codes "rgb(") (decimal c.red ++ (codes ", " ++ (decimal c.green ++ (codes ", " ++ (decimal c.blue ++ codes ")"))))) refl
        (text_append (decimal c.red) (codes ", " ++ (decimal c.green ++ (codes ", " ++ (decimal c.blue ++ codes ")")))) (text_decimal c.red)
        (text_append (codes ", ") (decimal c.green ++ (codes ", " ++ (decimal c.blue ++ codes ")"))) refl
        (text_append (decimal c.green) (codes ", " ++ (decimal c.blue ++ codes ")")) (text_decimal c.green)
        (text_append (codes ", ") (decimal c.blue ++ codes ")") refl (text_append (decimal c.blue) (codes ")") (text_decimal c.blue) refl)))))

    by_test : (b : Bool) → IsText (if b then codes "rgba(0, 0, 0, 0)" else codes "rgb(" ++ (decimal c.red ++ (codes ", " ++ (decimal c.green ++ (codes ", " ++ (decimal c.blue ++ codes ")"))))))
    by_test true = refl
    by_test false = shown

-- its components fit in a byte
pub record IsSmall (c : Colour) : Type 0 where
  pub red : c.red < 256
  pub green : c.green < 256
  pub blue : c.blue < 256

small : (red green blue : ℕ) → red < 256 → green < 256 → blue < 256 → IsSmall (opaque_colour red green blue)
small red green blue h g k = record { red = h; green = g; blue = k }

abbrev IsRow : List ℕ × Colour → Type 0
IsRow row = IsSmall row.1

table_small : Each IsRow named_colours
table_small = (
  small 0 255 255 (omega arith) (omega arith) (omega arith),
  (
    small 0 0 0 (omega arith) (omega arith) (omega arith),
    (
      small 0 0 255 (omega arith) (omega arith) (omega arith),
      (
        small 255 0 255 (omega arith) (omega arith) (omega arith),
        (
          small 128 128 128 (omega arith) (omega arith) (omega arith),
          (
            small 0 128 0 (omega arith) (omega arith) (omega arith),
            (
              small 0 255 0 (omega arith) (omega arith) (omega arith),
              (
                small 128 0 0 (omega arith) (omega arith) (omega arith),
                (
                  small 0 0 128 (omega arith) (omega arith) (omega arith),
                  (
                    small 128 128 0 (omega arith) (omega arith) (omega arith),
                    (
                      small 255 165 0 (omega arith) (omega arith) (omega arith),
                      (
                        small 128 0 128 (omega arith) (omega arith) (omega arith),
                        (
                          small 255 0 0 (omega arith) (omega arith) (omega arith),
                          (
                            small 192 192 192 (omega arith) (omega arith) (omega arith),
                            (
                              small 0 128 128 (omega arith) (omega arith) (omega arith),
                              (
                                small 255 255 255 (omega arith) (omega arith) (omega arith),
                                (small 255 255 0 (omega arith) (omega arith) (omega arith), tt),
                              ),
                            ),
                          ),
                        ),
                      ),
                    ),
                  ),
                ),
              ),
            ),
          ),
        ),
      ),
    ),
  ),
)

in_rows : (rows : List (List ℕ × Colour)) (name : List ℕ) → Each IsRow rows → IfSome (colour_in rows name) IsSmall
in_rows [] name h = tt
in_rows (row ∷ rows) name h = some_if IsSmall (bytes_eq row.0 name) (Some row.1) (colour_in rows name) h.0 (in_rows rows name h.1)

named_small : (chars : List ℕ) → IfSome (named_colour chars) IsSmall
unfolding named_colour
named_small chars = in_rows named_colours (lowered chars) table_small

digit_small : (c : ℕ) → is_ascii_hexdigit c ≡ true → hex_value c < 16
digit_small c h = grind (arith, nat_tests)

digits_small : (digits : List ℕ) → list_all is_ascii_hexdigit digits ≡ true → IfSome (of_digits digits) IsSmall
digits_small [] h = tt
digits_small (a ∷ []) h = tt
digits_small (a ∷ b ∷ []) h = tt
digits_small (r ∷ g ∷ b ∷ []) h =
    let first = and_parts (is_ascii_hexdigit r) _ h in
    let second = and_parts (is_ascii_hexdigit g) _ first.1 in
    let third = and_parts (is_ascii_hexdigit b) _ second.1 in
    small (17 * hex_value r) (17 * hex_value g) (17 * hex_value b) (three r first.0) (three g second.0) (three b third.0)
  where
    three : (c : ℕ) → is_ascii_hexdigit c ≡ true → 17 * hex_value c < 256
    three c t = (let low = digit_small c t in omega (arith, low))
digits_small (a ∷ b ∷ c ∷ d ∷ []) h = tt
digits_small (a ∷ b ∷ c ∷ d ∷ e ∷ []) h = tt
digits_small (r ∷ s ∷ g ∷ i ∷ b ∷ j ∷ []) h =
    let h1 = and_parts (is_ascii_hexdigit r) _ h in
    let h2 = and_parts (is_ascii_hexdigit s) _ h1.1 in
    let h3 = and_parts (is_ascii_hexdigit g) _ h2.1 in
    let h4 = and_parts (is_ascii_hexdigit i) _ h3.1 in
    let h5 = and_parts (is_ascii_hexdigit b) _ h4.1 in
    let h6 = and_parts (is_ascii_hexdigit j) _ h5.1 in
    small (16 * hex_value r + hex_value s) (16 * hex_value g + hex_value i) (16 * hex_value b + hex_value j) (two r s h1.0 h2.0) (two g i h3.0 h4.0) (two b j h5.0 h6.0)
  where
    two : (c d : ℕ) → is_ascii_hexdigit c ≡ true → is_ascii_hexdigit d ≡ true → 16 * hex_value c + hex_value d < 256
    two c d t u = (let low = digit_small c t in let last = digit_small d u in omega (arith, low, last))
digits_small (a ∷ b ∷ c ∷ d ∷ e ∷ f ∷ g ∷ more) h = tt

hex_small : (digits : List ℕ) → IfSome (hex_colour digits) IsSmall
unfolding hex_colour
hex_small digits = by_test (list_all is_ascii_hexdigit digits) refl
  where
    by_test : (b : Bool) → list_all is_ascii_hexdigit digits ≡ b → IfSome (if b then of_digits digits else None) IsSmall
    by_test true e = digits_small digits e
    by_test false e = tt

abbrev IsPart : ℕ × List ℕ → Type 0
IsPart p = p.0 < 256

number_small : (chars : List ℕ) → IfSome (number_up_to 255 chars) (λ (n : ℕ). n < 256)
unfolding number_up_to
number_small chars = by_tests (is_trim chars) (list_all is_ascii_digit chars) (nat_le (numbers.decimal chars) 255) refl
  where
    by_tests : (a b c : Bool) → nat_le (numbers.decimal chars) 255 ≡ c → IfSome (if a && b && c then Some (numbers.decimal chars) else None) (λ (n : ℕ). n < 256)
    by_tests false b c e = tt
    by_tests true false c e = tt
    by_tests true true false e = tt
    by_tests true true true e = grind (arith, nat_tests, e)

channel_small : (stop : ℕ) (chars : List ℕ) → IfSome (channel stop chars) IsPart
unfolding channel
channel_small stop chars = by_cut (split_first stop chars)
  where
    by_cut : (o : Option (List ℕ × List ℕ)) → IfSome (number_before o) IsPart
    by_cut None = tt
    by_cut (Some p) = some_mapped (λ (n : ℕ). n < 256) IsPart (λ n. (n, p.1)) (number_up_to 255 p.0) (number_small p.0) (λ n h. h)

blue_small : (red green : ℕ) (o : Option (ℕ × List ℕ)) → red < 256 → green < 256 → IfSome o IsPart → IfSome (with_blue red green o) IsSmall
blue_small red green None h g k = tt
blue_small red green (Some (blue, [])) h g k = small red green blue h g k
blue_small red green (Some (blue, c ∷ chars)) h g k = tt

green_small : (red : ℕ) (o : Option (ℕ × List ℕ)) → red < 256 → IfSome o IsPart → IfSome (with_green red o) IsSmall
green_small red None h k = tt
green_small red (Some p) h k = blue_small red p.0 (channel 41 (after_space p.1)) h k (channel_small 41 (after_space p.1))

red_small : (o : Option (ℕ × List ℕ)) → IfSome o IsPart → IfSome (with_red o) IsSmall
red_small None k = tt
red_small (Some p) k = green_small p.0 (channel 44 (after_space p.1)) k (channel_small 44 (after_space p.1))

rgb_small : (chars : List ℕ) → IfSome (rgb_colour chars) IsSmall
unfolding rgb_colour
rgb_small chars = red_small (channel 44 chars) (channel_small 44 chars)

else_small : (o p : Option Colour) → IfSome o IsSmall → IfSome p IsSmall → IfSome (if_none o p) IsSmall
else_small None p h g = g
else_small (Some c) p h g = h

marked_small : (chars : List ℕ) → IfSome (marked_colour chars) IsSmall
marked_small [] = tt
marked_small (c ∷ chars) = some_if IsSmall (c == 35) (hex_colour chars) None (hex_small chars) tt

functional_small : (chars : List ℕ) → IfSome (functional_colour chars) IsSmall
functional_small [] = tt
functional_small (a ∷ []) = tt
functional_small (a ∷ b ∷ []) = tt
functional_small (a ∷ b ∷ c ∷ []) = tt
functional_small (r ∷ g ∷ b ∷ o ∷ chars) = some_if IsSmall (bytes_eq (codes "rgb(") (r ∷ g ∷ b ∷ o ∷ [])) (rgb_colour chars) None (rgb_small chars) tt

pub colour_small : (chars : List ℕ) → IfSome (colour_of chars) IsSmall
unfolding colour_of
colour_small chars =
    some_if IsSmall (bytes_eq (codes "transparent") chars) (Some transparent) (if_none (named_colour chars) (if_none (marked_colour chars) (functional_colour chars)))
    (record { red = omega arith; green = omega arith; blue = omega arith })
    (else_small (named_colour chars) _ (named_small chars) (else_small (marked_colour chars) (functional_colour chars) (marked_small chars) (functional_small chars)))

hex_letter : (n : ℕ) → n < 16 → IsLetter (hex_digit n)
hex_letter n low = by_test (nat_lt n 10)
  where
    by_test : (b : Bool) → IsLetter (if b then 48 + n else 87 + n)
    by_test true = low_letter (48 + n) (omega (arith, low))
    by_test false = low_letter (87 + n) (omega (arith, low))

pair_letters : (n : ℕ) → n < 256 → AreLetters (hex_pair n)
unfolding hex_pair
pair_letters n low = (hex_letter (n / 16) (omega (arith, low)), (hex_letter (n % 16) (omega arith), tt))

pub hex_printed : (c : Colour) → IsSmall c → IsText (hex_text c)
unfolding hex_text
hex_printed c h =
    let rest : AreLetters (hex_pair c.red ++ (hex_pair c.green ++ hex_pair c.blue)) =
    each_append IsLetter (hex_pair c.red) (hex_pair c.green ++ hex_pair c.blue) (pair_letters c.red h.red) (each_append IsLetter (hex_pair c.green) (hex_pair c.blue) (pair_letters c.green h.green) (pair_letters c.blue h.blue)) in
    let all : AreLetters (35 ∷ (hex_pair c.red ++ (hex_pair c.green ++ hex_pair c.blue))) = (refl, rest) in
    text (35 ∷ (hex_pair c.red ++ (hex_pair c.green ++ hex_pair c.blue))) all
