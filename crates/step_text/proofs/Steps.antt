-- The step that is read from the line of a step is that step.
use Rattle.std.proofs.Common.{◌≡◌, ◌⊎◌, inr, ℕ, ◌<◌, ◌^◌, Bool, true, false, ◌==◌, nat_lt, nat_le, cond, not, List, [], ◌∷◌, ◌++◌, length, codes, Option, Some, None, Result, Ok, Err, IfSome, refl, sym, ap, subst, ◌∙◌, arith, rules, append_assoc}
use Rattle.std.specs.Bool.{Decides}
use Rattle.std.specs.Char.{is_ascii_digit}
use Rattle.std.specs.Fmt.{decimal}
use Rattle.std.specs.List.{list_all}
use Rattle.std.specs.Result.{IsErrAnd}
use Rattle.std.specs.Str.{all_scalars, bytes_eq}
use Rattle.std.specs.Str.Parse.{digits_value}
use Rattle.std.proofs.Math.Utf8.{scalar, scalars}
use Rattle.std.proofs.lemmas.Bool.Decides.{nat_tests}
use Rattle.std.proofs.lemmas.Fmt.{decimal_nonempty, length-decimal-le, digits_decimal, digits_value-decimal}
use Rattle.std.proofs.lemmas.Slice.Eq.{bytes_eq-Decides}
use Rattle.std.proofs.lemmas.Str.Parse.{IsNumeralModel, numerals_by_value, digits_value_short}
use Rattle.page_grammar.specs.DomModel.declared.attributes.Attribute.{Attribute}
use Rattle.page_write.specs.EscapedText.Escaped.{escape_of, escaped, escaped_bytes}
use Rattle.script_read.specs.Acts.{IsNumber}
use Rattle.script_read.specs.Reading.{number_of, printed_of}
use Rattle.script_read.proofs.Tests.{and-true, some-is}
use Rattle.script_read.proofs.Cutting.{Avoids, cut-found}
use Rattle.script_read.proofs.Numbers.{is_digits, number_back, number_sound, number_avoids}
use Rattle.script_read.proofs.Printed.{texts_read_back}
use Rattle.script_read.proofs.Values.{text_back}
use Rattle.step_text.specs.declared.line.Made.{Made}
use Rattle.step_text.specs.declared.line.Made.TheVariants as made
use Rattle.step_text.specs.declared.line.StepLine.{StepLine}
use Rattle.step_text.specs.declared.line.StepLine.TheVariants.{Entry, Make, Insert, Remove, Move, Words, Tag}
use Rattle.step_text.specs.declared.line.StepFault.{StepFault}
use Rattle.step_text.specs.declared.line.StepFault.TheVariants.{Syntax, BadLabel, BadPlace, TooDeep, Memory}
use Rattle.step_text.specs.StepLine.{quoted, tag_bytes, tag_text, made_text, before_text, line_text, IsLabel, IsTag, IsMade, IsStepLine}
use Rattle.step_text.specs.StepReading.{Fails, words_of, made_of, before_of, labelled, place_of, make_of, insert_of, remove_of, move_of, words_step_of, tag_step_of, arguments_of, step_of}
use Rattle.step_text.proofs.Bytes.{within_back}
use Rattle.step_text.proofs.Tags.{tag_back}

-- ---- labels

digits : IsNumeralModel (λ ds. list_all is_ascii_digit ds ≡ true) (digits_value 10)
digits = numerals_by_value _ (search rules)

label_is : (n : ℕ) → IsLabel n → IsNumber (decimal n) n
label_is n h =
    let small : n < 2 ^ 64 = omega (arith, h) in
    let some : nat_lt 0 (length (decimal n)) ≡ true = grind (arith, nat_tests, decimal_nonempty n small) in
    let few : nat_le (length (decimal n)) 9 ≡ true = grind (arith, nat_tests, length-decimal-le 9 n (omega arith) h small) in
    (rw (some, few, digits_decimal digits n small) refl, sym (digits_value-decimal digits n small))

label_back : (n : ℕ) → IsLabel n → number_of (decimal n) ≡ Some n
label_back n h = number_back (decimal n) n (label_is n h)

pub label_sound : (text : List ℕ) (n : ℕ) → number_of text ≡ Some n → IsLabel n
label_sound text n e =
    let h = number_sound text n e in
    let d = is_digits text h.0 in
    let below : digits_value 10 text < 10 ^ 9 = digits_value_short digits text 9 d.all d.few in
    omega (arith, below, h.1)

pub label_if : (text : List ℕ) (r : Option ℕ) → r ≡ number_of text → IfSome r IsLabel
label_if text None e = tt
label_if text (Some n) e = label_sound text n (sym e)

labelled_back : (n : ℕ) (rest : List ℕ) → IsLabel n → labelled (decimal n ++ 32 ∷ rest) ≡ Some (n, rest)
unfolding labelled
labelled_back n rest h =
    rw (cut-found 32 (decimal n) rest (number_avoids 32 refl (decimal n) n (label_is n h)), label_back n h) refl

-- the same, where the space and what follows it are appended in turn
spaced_back : (n : ℕ) (rest : List ℕ) → IsLabel n → labelled ((decimal n ++ 32 ∷ []) ++ rest) ≡ Some (n, rest)
spaced_back n rest h = ap labelled (append_assoc (decimal n) (32 ∷ []) rest) ∙ labelled_back n rest h

no_dash : (text : List ℕ) → Avoids 45 text → bytes_eq text (codes "-") ≡ false
no_dash text lacks =
    elim (bytes_eq text (codes "-")) as (λ (t : Bool). Decides t (text ≡ codes "-") → t ≡ false) [
      | true ↦ λ d. let a : Avoids 45 (codes "-") = subst (Avoids 45) (d.0 refl) lacks in absurd (let e = a.0 in cc)
      | false ↦ λ d. refl
    ] (bytes_eq-Decides text (codes "-"))

before_back : (before : Option ℕ) → IfSome before IsLabel → before_of (before_text before) ≡ Some before
before_back None h = refl
before_back (Some n) h = rw (no_dash (decimal n) (number_avoids 45 refl (decimal n) n (label_is n h)), label_back n h) refl

-- ---- texts

scalars_append : (a b : List ℕ) → scalars a ≡ true → scalars b ≡ true → scalars (a ++ b) ≡ true
scalars_append [] b p q = q
scalars_append (x ∷ a) b p q = let h = and-true (scalar x) (scalars a) p in rw h.0 (scalars_append a b h.1 q)

escape_scalars : (c : ℕ) → scalar c ≡ true → scalars (escape_of c) ≡ true
escape_scalars c is =
    by_test c 10 (codes "\\n") _ refl (by_test c 9 (codes "\\t") _ refl (by_test c 92 (codes "\\\\") _ refl (by_test c 34 (codes "\\\"") _ refl (by_test c 13 (codes "\\r") _ refl (by_test c 160 (codes "\\u{a0}") (c ∷ []) refl (rw is refl))))))
  where
    by_case : (t : Bool) (holds lacks : List ℕ) → scalars holds ≡ true → scalars lacks ≡ true → scalars (cond t holds lacks) ≡ true
    by_case true holds lacks a b = a
    by_case false holds lacks a b = b

    by_test : (c k : ℕ) (holds lacks : List ℕ) → scalars holds ≡ true → scalars lacks ≡ true → scalars (cond (c == k) holds lacks) ≡ true
    by_test c k = by_case (c == k)

escaped_scalars : (text : List ℕ) → scalars text ≡ true → scalars (escaped text) ≡ true
unfolding escaped
escaped_scalars [] all = refl
escaped_scalars (c ∷ cs) all =
    let h = and-true (scalar c) (scalars cs) all in
    scalars_append (escape_of c) (escaped cs) (escape_scalars c h.0) (escaped_scalars cs h.1)

printed_back : (text : List ℕ) → all_scalars text ≡ true → printed_of (escaped_bytes text) ≡ Some text
unfolding escaped_bytes
printed_back text all = text_back true (escaped_bytes text) text (escaped text, escaped_scalars text all, refl, (texts_read_back text all).0)

words_back : (text : List ℕ) → all_scalars text ≡ true → words_of (quoted text) ≡ Some text
words_back text all = ap printed_of (within_back 34 34 (escaped_bytes text)) ∙ printed_back text all

-- ---- what is made

made_back : (new : Made) → IsMade new → made_of (made_text new) ≡ Some new
unfolding made_of tag_bytes
made_back (made.Element name attributes) is = rw (tag_back name attributes is) refl
made_back (made.Words words) is = rw (words_back words is) refl

-- ---- steps

-- the arguments after each word
make_back : (n : ℕ) (new : Made) → IsLabel n → IsMade new
    → make_of ((decimal n ++ 32 ∷ []) ++ made_text new) ≡ Some (Make n new)
unfolding make_of
make_back n new label is = rw (spaced_back n (made_text new) label, made_back new is) refl

words_step_back : (n : ℕ) (words : List ℕ) → IsLabel n → all_scalars words ≡ true
    → words_step_of ((decimal n ++ 32 ∷ []) ++ quoted words) ≡ Some (Words n words)
unfolding words_step_of
words_step_back n words label is = rw (spaced_back n (quoted words) label, words_back words is) refl

tag_step_back : (n : ℕ) (name : List ℕ) (attributes : List Attribute) → IsLabel n → IsTag name attributes
    → tag_step_of ((decimal n ++ 32 ∷ []) ++ tag_text name attributes) ≡ Some (Tag n name attributes)
unfolding tag_step_of
tag_step_back n name attributes label is = rw (spaced_back n (tag_text name attributes) label, tag_back name attributes is) refl

place_regrouped : (n p : ℕ) (before : List ℕ)
    → (((decimal n ++ 32 ∷ []) ++ decimal p) ++ 32 ∷ []) ++ before ≡ (decimal n ++ 32 ∷ []) ++ (decimal p ++ 32 ∷ before)
place_regrouped n p before = simp append_assoc

place_back : (p : ℕ) (before : Option ℕ) → IsLabel p → IfSome before IsLabel
    → place_of (decimal p ++ 32 ∷ before_text before) ≡ Some (p, before)
unfolding place_of
place_back p before parent is = rw (labelled_back p (before_text before) parent, before_back before is) refl

insert_back : (n p : ℕ) (before : Option ℕ) → IsLabel n → IsLabel p → IfSome before IsLabel
    → insert_of ((((decimal n ++ 32 ∷ []) ++ decimal p) ++ 32 ∷ []) ++ before_text before) ≡ Some (Insert n p before)
unfolding insert_of
insert_back n p before label parent is =
    rw (place_regrouped n p (before_text before), spaced_back n (decimal p ++ 32 ∷ before_text before) label, place_back p before parent is) refl

move_back : (n p : ℕ) (before : Option ℕ) → IsLabel n → IsLabel p → IfSome before IsLabel
    → move_of ((((decimal n ++ 32 ∷ []) ++ decimal p) ++ 32 ∷ []) ++ before_text before) ≡ Some (Move n p before)
unfolding move_of
move_back n p before label parent is =
    rw (place_regrouped n p (before_text before), spaced_back n (decimal p ++ 32 ∷ before_text before) label, place_back p before parent is) refl

remove_back : (n : ℕ) → IsLabel n → remove_of (decimal n) ≡ Some (Remove n)
unfolding remove_of
remove_back n label = rw (label_back n label) refl

pub step_back : (s : StepLine) → IsStepLine s → step_of (line_text s) ≡ Some s
unfolding step_of arguments_of
step_back Entry is = refl
step_back (Make n new) is = make_back n new is.0 is.1
step_back (Insert n p before) is = insert_back n p before is.0 is.1 is.2
step_back (Remove n) is = remove_back n is
step_back (Move n p before) is = move_back n p before is.0 is.1 is.2
step_back (Words n words) is = words_step_back n words is.0 is.1
step_back (Tag n name attributes) is = tag_step_back n name attributes is.0 is.1

pub one_step : (a b : StepLine) → IsStepLine a → IsStepLine b → line_text a ≡ line_text b → a ≡ b
one_step a b p q e = some-is (sym (step_back a p) ∙ ap step_of e ∙ step_back b q)

-- ---- the answers of a reader

-- a step that the line is the line of is read, or memory runs out
pub fails_spelled : (line : List ℕ) (fault : StepFault) → Fails fault (step_of line) → (s : StepLine) → IsStepLine s
    → line_text s ≡ line → fault ≡ Memory
fails_spelled line Syntax fails s is e = absurd (let back : step_of line ≡ Some s = ap step_of (sym e) ∙ step_back s is in cc)
fails_spelled line BadLabel fails s is e = absurd fails
fails_spelled line BadPlace fails s is e = absurd fails
fails_spelled line TooDeep fails s is e = absurd fails
fails_spelled line Memory fails s is e = refl

-- what is read is the only step that the line may be the line of
pub read_is_only : (line : List ℕ) (read : StepLine) → step_of line ≡ Some read → (s : StepLine) → IsStepLine s
    → line_text s ≡ line → s ≡ read
read_is_only line read e s is same = some-is (sym (step_back s is) ∙ ap step_of same ∙ e)

pub exit_spelled : (line : List ℕ) (r : Result StepLine StepFault) (e : StepFault) → IsErrAnd r (λ y. y ≡ e)
    → Fails e (step_of line)
    → (s : StepLine) → IsStepLine s → line_text s ≡ line → (r ≡ Ok s) ⊎ (r ≡ Err Memory)
exit_spelled line (Ok x) e h fails s is same = absurd h
exit_spelled line (Err y) e h fails s is same = inr (ap Err (h ∙ fails_spelled line e fails s is same))

pub exit_syntax : (line : List ℕ) (r : Result StepLine StepFault) (e : StepFault) → IsErrAnd r (λ y. y ≡ e)
    → Fails e (step_of line)
    → r ≡ Err Syntax → (s : StepLine) → IsStepLine s → ¬ (line_text s ≡ line)
exit_syntax line (Ok x) e h fails is_syntax s is same = absurd h
exit_syntax line (Err y) e h fails is_syntax s is same =
    absurd (let memory : y ≡ Memory = h ∙ fails_spelled line e fails s is same in cc)

-- a line that the step read doesn't print as is no step's
pub refused : (line printed shown : List ℕ) (read : StepLine) (ne : Bool) → step_of line ≡ Some read
    → printed ≡ line_text read → shown ≡ printed → ne ≡ not (bytes_eq shown line) → ne ≡ true
    → (s : StepLine) → IsStepLine s → ¬ (line_text s ≡ line)
refused line printed shown read ne e p q test differs s is same =
    let shown_is : shown ≡ line = q ∙ p ∙ ap line_text (sym (read_is_only line read e s is same)) ∙ same in
    let t : bytes_eq shown line ≡ true = (bytes_eq-Decides shown line).1 shown_is in
    absurd (let no : ne ≡ false = test ∙ ap not t in cc)
