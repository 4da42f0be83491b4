-- What printed values are alike to: a weight, a size in pixels, a colour.
use Rattle.std.proofs.Common.{◌≡◌, ℕ, ◌-◌, ◌^◌, ◌<◌, Bool, true, false, true≢false, cond, not, ◌&&◌, ◌||◌, eqb, List, ◌++◌, length, take, drop, Option, Some, None, refl, sym, ap, ◌∙◌, inl, inr, arith, bytes_eq, codes, length-append}
use Rattle.std.proofs.Math.Seq.{take-append_seam}
use Rattle.std.proofs.lemmas.Bool.{cases_Bool, eqb-true, eq-eqb}
use Rattle.std.proofs.lemmas.Fmt.{decimal_injective}
use Rattle.std.proofs.lemmas.Slice.Eq.{bytes_eq-Decides}
use Rattle.std.specs.Char.{is_ascii_digit}
use Rattle.std.specs.Fmt.{decimal, digits}
use Rattle.std.specs.List.{list_all}
use Rattle.std.specs.Option.{option_map_or, is_none}
use Rattle.node_styles.specs.CssValue.declared.colours.Colour.{Colour}
use Rattle.node_styles.specs.CssValue.Colours.{colour_of, colour_text, transparent}
use Rattle.node_styles.specs.CssValue.Values.{keyword_size, pixels_text}
use Rattle.node_styles.proofs.CssValue.Numerals.{pixels-parts}
use Rattle.node_styles.proofs.CssValue.PrintedColours.{colour-read_back}
use Rattle.node_styles.proofs.CssValue.PrintedNumbers.{digits-decimal}
use Rattle.node_styles.specs.CssValue.declared.decoration.DecorationLine.TheVariants.{Underline, LineThrough}
use Rattle.node_styles.specs.CssValue.TextDecoration.{line_word}
use Rattle.node_styles.specs.HtmlNames.ActivatedValues.{activated_values}
use Rattle.node_styles.specs.HtmlNames.ElementNames.{is_one_of}
use Rattle.node_styles.specs.HtmlNames.declared.commands.Command.{Command}
use Rattle.node_styles.specs.HtmlNames.declared.commands.Command.TheVariants as command
use Rattle.command_value.specs.EffectiveValues.{script_by}
use Rattle.command_value.specs.Equivalence.{components, is_same_bool, is_same_colour, are_same_colours, is_colour_command, are_equivalent, is_keyword_of, are_alike, alike}
use Rattle.command_value.specs.Lines.{is_named_weight, is_heavy}

same_text : (a b : List ℕ) → a ≡ b → bytes_eq a b ≡ true
same_text a b e = (bytes_eq-Decides a b).1 e

apart : (a b : List ℕ) → (a ≡ b → ⊥) → bytes_eq a b ≡ false
apart a b off = elim (cases_Bool (bytes_eq a b)) [ inl t ↦ absurd (off ((bytes_eq-Decides a b).0 t)) | inr t ↦ t ]

turned : (a b : List ℕ) → bytes_eq a b ≡ false → bytes_eq b a ≡ false
turned a b off = apart b a (λ e. true≢false (sym (same_text a b (sym e)) ∙ off))

or_false : (b : Bool) → (b || false) ≡ b
or_false true = refl
or_false false = refl

-- ---- weights

-- a word that isn't all digits is no number's
no_number : (word : List ℕ) (w : ℕ) → w < 2 ^ 64 → list_all is_ascii_digit word ≡ false → bytes_eq word (decimal w) ≡ false
no_number word w small other =
    apart word (decimal w) (λ e. true≢false (sym (digits-decimal w small) ∙ ap (list_all is_ascii_digit) (sym e) ∙ other))

one_number : (n w : ℕ) → n < 2 ^ 64 → w < 2 ^ 64 → bytes_eq (decimal n) (decimal w) ≡ eqb w n
one_number n w low small =
    elim (cases_Bool (eqb w n)) [
      | inl t ↦ same_text (decimal n) (decimal w) (ap decimal (sym (eqb-true w n t))) ∙ sym t
      | inr t ↦ apart (decimal n) (decimal w) (λ e. true≢false (sym (eq-eqb w n (sym (decimal_injective n w low small e))) ∙ t)) ∙ sym t
    ]

seven : decimal 700 ≡ codes "700"
unfolding digits
seven = refl

four : decimal 400 ≡ codes "400"
unfolding digits
four = refl

pub weight_alike : (w : ℕ) (text : List ℕ) → w < 2 ^ 64 → are_alike command.Bold (decimal w) text ≡ (bytes_eq (decimal w) text || is_named_weight w text)
unfolding are_alike are_equivalent
weight_alike w text small =
    let bold = no_number (codes "bold") w small refl in
    let normal = no_number (codes "normal") w small refl in
    let heavy : bytes_eq (codes "700") (decimal w) ≡ eqb w 700 = ap (λ t. bytes_eq t (decimal w)) (sym seven) ∙ one_number 700 w (omega arith) small in
    let light : bytes_eq (codes "400") (decimal w) ≡ eqb w 400 = ap (λ t. bytes_eq t (decimal w)) (sym four) ∙ one_number 400 w (omega arith) small in
    table (bytes_eq (decimal w) text) (bytes_eq (codes "bold") (decimal w)) (bytes_eq (codes "700") text) (bytes_eq (codes "normal") (decimal w)) (bytes_eq (codes "400") text) (bytes_eq (codes "bold") text) (bytes_eq (codes "700") (decimal w)) (bytes_eq (codes "normal") text) (bytes_eq (codes "400") (decimal w)) (eqb w 700) (eqb w 400) bold normal heavy light
  where
    table : (a b c d e g h i j s t : Bool) → b ≡ false → d ≡ false → h ≡ s → j ≡ t → (((a || (((b && c) || (d && e)) || ((g && h) || (i && j)))) || false) || false) ≡ (a || ((s && g) || (t && i)))
    table a b c d e g h i j s t b0 d0 hs jt = rw (b0, d0, hs, jt) (cases a g s i t)
      where
        cases : (a g s i t : Bool) → (((a || ((g && s) || (i && t))) || false) || false) ≡ (a || ((s && g) || (t && i)))
        cases true g s i t = refl
        cases false true true i t = refl
        cases false true false true true = refl
        cases false true false true false = refl
        cases false true false false true = refl
        cases false true false false false = refl
        cases false false true true true = refl
        cases false false true true false = refl
        cases false false true false true = refl
        cases false false true false false = refl
        cases false false false true true = refl
        cases false false false true false = refl
        cases false false false false true = refl
        cases false false false false false = refl

-- ---- sizes

no_pixels : (word : List ℕ) (px : ℕ) → bytes_eq (codes "px") (drop (length word - 2) word) ≡ false → bytes_eq word (pixels_text px) ≡ false
no_pixels word px other =
    turned (pixels_text px) word (pixels-parts px (length word - 2) word refl ∙ ap (λ b. b && bytes_eq (decimal px) (take (length word - 2) word)) other)

no_keyword : (px : ℕ) → keyword_size (pixels_text px) ≡ None
no_keyword px =
    rw (no_pixels (codes "x-small") px refl, no_pixels (codes "small") px refl, no_pixels (codes "medium") px refl, no_pixels (codes "large") px refl, no_pixels (codes "x-large") px refl, no_pixels (codes "xx-large") px refl, no_pixels (codes "xxx-large") px refl) refl

front : (n : ℕ) → take (length (decimal n ++ codes "px") - 2) (decimal n ++ codes "px") ≡ decimal n
front n =
    let len : length (decimal n ++ codes "px") - 2 ≡ length (decimal n) = omega (arith, length-append {A = ℕ}) in
    ap (λ k. take k (decimal n ++ codes "px")) len ∙ take-append_seam (decimal n) (codes "px")

one_size : (n px : ℕ) → n < 2 ^ 64 → px < 2 ^ 64 → bytes_eq (pixels_text n) (pixels_text px) ≡ eqb n px
unfolding pixels_text
one_size n px low small =
    elim (cases_Bool (eqb n px)) [
      | inl t ↦ same_text (pixels_text n) (pixels_text px) (ap pixels_text (eqb-true n px t)) ∙ sym t
      | inr t ↦ apart (decimal n ++ codes "px") (decimal px ++ codes "px") (λ e.
          true≢false (sym (eq-eqb n px (decimal_injective n px low small (sym (front n) ∙ ap (λ x. take (length x - 2) x) e ∙ front px))) ∙ t)) ∙ sym t
    ]

-- a keyword stands for the size in pixels
pub size_alike : (px : ℕ) (text : List ℕ) → are_alike command.FontSize (pixels_text px) text ≡ (bytes_eq (pixels_text px) text || option_map_or (λ n. bytes_eq (pixels_text n) (pixels_text px)) (keyword_size text) false)
unfolding are_alike are_equivalent
size_alike px text =
    let none = ap (λ (o : Option ℕ). option_map_or (λ n. bytes_eq (pixels_text n) text) o false) (no_keyword px) in
    ap (λ b. ((bytes_eq (pixels_text px) text || false) || false) || (b || is_keyword_of text (pixels_text px))) none
    ∙ ap (λ b. b || is_keyword_of text (pixels_text px)) (or_false (bytes_eq (pixels_text px) text || false) ∙ or_false (bytes_eq (pixels_text px) text))

pub size_some : (px n : ℕ) (text : List ℕ) → n < 2 ^ 64 → px < 2 ^ 64 → bytes_eq (pixels_text px) text ≡ false → Some n ≡ keyword_size text → eqb n px ≡ are_alike command.FontSize (pixels_text px) text
size_some px n text low small off is =
    sym (size_alike px text ∙ ap (λ b. b || option_map_or (λ m. bytes_eq (pixels_text m) (pixels_text px)) (keyword_size text) false) off
    ∙ ap (λ (o : Option ℕ). option_map_or (λ m. bytes_eq (pixels_text m) (pixels_text px)) o false) (sym is) ∙ one_size n px low small)

pub size_none : (px : ℕ) (text : List ℕ) → bytes_eq (pixels_text px) text ≡ false → None ≡ keyword_size text → false ≡ are_alike command.FontSize (pixels_text px) text
size_none px text off is =
    sym (size_alike px text ∙ ap (λ b. b || option_map_or (λ m. bytes_eq (pixels_text m) (pixels_text px)) (keyword_size text) false) off
    ∙ ap (λ (o : Option ℕ). option_map_or (λ m. bytes_eq (pixels_text m) (pixels_text px)) o false) (sym is))

pub size_same : (px : ℕ) (text : List ℕ) → bytes_eq (pixels_text px) text ≡ true → true ≡ are_alike command.FontSize (pixels_text px) text
size_same px text yes' =
    sym (size_alike px text ∙ ap (λ b. b || option_map_or (λ m. bytes_eq (pixels_text m) (pixels_text px)) (keyword_size text) false) yes')

-- ---- colours

-- the colour that is shown: all that are clear are shown alike
pub clear_shown : (c : Colour) → c.clear ≡ true → components (colour_text c) ≡ Some transparent
unfolding components colour_text
clear_shown c clear = ap (λ b. components (cond b (codes "rgba(0, 0, 0, 0)") (codes "rgb(" ++ (decimal c.red ++ (codes ", " ++ (decimal c.green ++ (codes ", " ++ (decimal c.blue ++ codes ")")))))))) clear

pub opaque_shown : (c : Colour) → c.red < 256 → c.green < 256 → c.blue < 256 → c.clear ≡ false → components (colour_text c) ≡ Some c
unfolding components colour_text
opaque_shown c r g b opaque =
    ap (λ t. components (cond t (codes "rgba(0, 0, 0, 0)") (codes "rgb(" ++ (decimal c.red ++ (codes ", " ++ (decimal c.green ++ (codes ", " ++ (decimal c.blue ++ codes ")")))))))) opaque
    ∙ sym (ap (λ t. colour_of (cond t (codes "rgba(0, 0, 0, 0)") (codes "rgb(" ++ (decimal c.red ++ (codes ", " ++ (decimal c.green ++ (codes ", " ++ (decimal c.blue ++ codes ")")))))))) opaque)
    ∙ colour-read_back c r g b opaque

eqb_same : (n : ℕ) → eqb n n ≡ true
eqb_same n = eq-eqb n n refl

same_itself : (c : Colour) → is_same_colour c c ≡ true
same_itself c = rw (eqb_same c.red, eqb_same c.green, eqb_same c.blue) (by_bool c.clear)
  where
    by_bool : (b : Bool) → is_same_bool b b ≡ true
    by_bool true = refl
    by_bool false = refl

either_way : (a b : List ℕ) (c : Colour) → components a ≡ Some c → (((bytes_eq a b || false) || are_same_colours (components a) (components b)) || false) ≡ are_same_colours (components a) (components b)
either_way a b c at =
    elim (cases_Bool (bytes_eq a b)) [
      | inr t ↦ ap (λ x. ((x || false) || are_same_colours (components a) (components b)) || false) t ∙ or_false (are_same_colours (components a) (components b))
      | inl t ↦ (
          let same : a ≡ b = (bytes_eq-Decides a b).0 t in
          let it : are_same_colours (components a) (components b) ≡ true = ap (λ x. are_same_colours (components a) (components x)) (sym same) ∙ (ap (λ o. are_same_colours o o) at ∙ same_itself c) in
          ap (λ x. ((x || false) || are_same_colours (components a) (components b)) || false) t ∙ sym it)
    ]

-- of two colours' texts the components alone decide, where the first has some
pub colour_alike : (k : Command) (a b : List ℕ) (c : Colour) → is_colour_command k ≡ true → components a ≡ Some c → are_alike k a b ≡ are_same_colours (components a) (components b)
unfolding are_alike are_equivalent
colour_alike command.ForeColor a b c is at = either_way a b c at
colour_alike command.BackColor a b c is at = either_way a b c at
colour_alike command.HiliteColor a b c is at = either_way a b c at
colour_alike _ a b c is at = absurd (true≢false (sym is))

-- ---- states

six : decimal 600 ≡ codes "600"
unfolding digits
six = refl

eight : decimal 800 ≡ codes "800"
unfolding digits
eight = refl

nine : decimal 900 ≡ codes "900"
unfolding digits
nine = refl

pub heavy_on : (w : ℕ) → w < 2 ^ 64 → is_heavy w ≡ is_one_of (activated_values command.Bold) (decimal w)
heavy_on w small =
    let bold = no_number (codes "bold") w small refl in
    let w6 : bytes_eq (codes "600") (decimal w) ≡ eqb w 600 = ap (λ t. bytes_eq t (decimal w)) (sym six) ∙ one_number 600 w (omega arith) small in
    let w7 : bytes_eq (codes "700") (decimal w) ≡ eqb w 700 = ap (λ t. bytes_eq t (decimal w)) (sym seven) ∙ one_number 700 w (omega arith) small in
    let w8 : bytes_eq (codes "800") (decimal w) ≡ eqb w 800 = ap (λ t. bytes_eq t (decimal w)) (sym eight) ∙ one_number 800 w (omega arith) small in
    let w9 : bytes_eq (codes "900") (decimal w) ≡ eqb w 900 = ap (λ t. bytes_eq t (decimal w)) (sym nine) ∙ one_number 900 w (omega arith) small in
    table (bytes_eq (codes "bold") (decimal w)) (bytes_eq (codes "600") (decimal w)) (bytes_eq (codes "700") (decimal w)) (bytes_eq (codes "800") (decimal w)) (bytes_eq (codes "900") (decimal w)) (eqb w 600) (eqb w 700) (eqb w 800) (eqb w 900) bold w6 w7 w8 w9
  where
    table : (a b c d e p q r s : Bool) → a ≡ false → b ≡ p → c ≡ q → d ≡ r → e ≡ s → (p || (q || (r || s))) ≡ (a || (b || (c || (d || (e || false)))))
    table a b c d e p q r s a0 bp cq dr es = rw (a0, bp, cq, dr, es, or_false s) refl

pub under_on : (drawn : Bool) → drawn ≡ option_map_or (is_one_of (activated_values command.Underline)) (cond drawn (Some (line_word Underline)) None) false
under_on true = refl
under_on false = refl

pub through_on : (drawn : Bool) → drawn ≡ option_map_or (is_one_of (activated_values command.Strikethrough)) (cond drawn (Some (line_word LineThrough)) None) false
through_on true = refl
through_on false = refl

pub sub_on : (a b : Bool) → (a && not b) ≡ option_map_or (is_one_of (activated_values command.Subscript)) (script_by a b) false
sub_on true true = refl
sub_on true false = refl
sub_on false true = refl
sub_on false false = refl

pub sup_on : (a b : Bool) → (b && not a) ≡ option_map_or (is_one_of (activated_values command.Superscript)) (script_by a b) false
sup_on true true = refl
sup_on true false = refl
sup_on false true = refl
sup_on false false = refl

-- ---- null

pub alike_some : (k : Command) (v : Option (List ℕ)) (t : List ℕ) → option_map_or (λ own. are_alike k own t) v false ≡ alike k v (Some t)
unfolding alike
alike_some k None t = refl
alike_some k (Some own) t = refl

pub alike_none : (k : Command) (v : Option (List ℕ)) → is_none v ≡ alike k v None
unfolding alike
alike_none k None = refl
alike_none k (Some own) = refl
