-- A value that a line's word is dropped from: the rest of it stands where it stood, in the same quotes
-- and parentheses.
use Rattle.std.proofs.Common.{◌≡◌, ℕ, Bool, true, false, true≢false, cond, not, ◌&&◌, ◌||◌, List, [], ◌∷◌, Option, Some, None, refl, sym, ap, ◌∙◌, eqb, fold, filter, bytes_eq}
use Rattle.std.specs.List.{list_all, list_any, join_with_byte, slice_split, onto_first}
use Rattle.std.proofs.lemmas.Map.Views.{any-filter_same}
use Rattle.css_value.specs.StyleText.{Nesting, is_space, is_quote, is_empty, is_cut, after}
use Rattle.css_value.specs.TextDecoration.{words, line_word, has_line, without_line}
use Rattle.css_value.specs.declared.decoration.DecorationLine.{DecorationLine}
use Rattle.css_value.specs.declared.decoration.DecorationLine.TheVariants.{Underline, Overline, LineThrough}
use Rattle.css_value.proofs.Names.{same-name}
use Rattle.css_value.proofs.Passing.{run, then_run, run-append, plain-run, space-plain, IsPlain}
use Rattle.css_value.proofs.Joining.{words-without_line}

-- neither a quote mark, nor a parenthesis, nor a `;`
abbrev is_plain : ℕ → Bool
is_plain c = not (is_quote c || (eqb c 40 || (eqb c 41 || eqb c 59)))

plain : (c : ℕ) → is_plain c ≡ true → IsPlain c
plain c h = by_tests (is_quote c) (eqb c 40) (eqb c 41) (eqb c 59) refl refl refl refl h
  where
    by_tests : (p q r s : Bool) → is_quote c ≡ p → eqb c 40 ≡ q → eqb c 41 ≡ r → eqb c 59 ≡ s → not (p || (q || (r || s))) ≡ true → IsPlain c
    by_tests true q r s a b d e h = absurd (true≢false (sym h))
    by_tests false true r s a b d e h = absurd (true≢false (sym h))
    by_tests false false true s a b d e h = absurd (true≢false (sym h))
    by_tests false false false true a b d e h = absurd (true≢false (sym h))
    by_tests false false false false a b d e h = record { no_quote = a; no_opening = b; no_closing = d; no_cut = e }

and-parts : (a b : Bool) → (a && b) ≡ true → (a ≡ true) × (b ≡ true)
and-parts true b h = (refl, h)
and-parts false b h = absurd (true≢false (sym h))

run-plain : (word : List ℕ) → list_all is_plain word ≡ true → (n : Nesting) → run n word ≡ Some n
run-plain [] all n = refl
run-plain (c ∷ word) all n =
    let both = and-parts (is_plain c) (list_all is_plain word) all in
    plain-run c (plain c both.0) n word ∙ run-plain word both.1 n

run-line_word : (line : DecorationLine) (n : Nesting) → run n (line_word line) ≡ Some n
run-line_word Underline n = run-plain (line_word Underline) refl n
run-line_word Overline n = run-plain (line_word Overline) refl n
run-line_word LineThrough n = run-plain (line_word LineThrough) refl n

-- ---- words, one after the other

none-run : (list : List (List ℕ)) → fold then_run None list ≡ None
none-run [] = refl
none-run (word ∷ list) = none-run list

run-join : (list : List (List ℕ)) (n : Nesting) → run n (join_with_byte 32 list) ≡ fold then_run (Some n) list
run-join [] n = refl
run-join (word ∷ []) n = refl
run-join (word ∷ next ∷ list) n = run-append n word (32 ∷ join_with_byte 32 (next ∷ list)) ∙ further (λ m. run-join (next ∷ list) m) (run n word)
  where
    further : ((m : Nesting) → run m (join_with_byte 32 (next ∷ list)) ≡ fold then_run (Some m) (next ∷ list)) → (m : Option Nesting) → then_run m (32 ∷ join_with_byte 32 (next ∷ list)) ≡ fold then_run m (next ∷ list)
    further ind None = sym (none-run (next ∷ list))
    further ind (Some m) = plain-run 32 (space-plain 32 refl) m (join_with_byte 32 (next ∷ list)) ∙ ind m

run-split : (text : List ℕ) (n : Nesting) → fold then_run (Some n) (slice_split is_space text) ≡ run n text
run-split [] n = refl
run-split (c ∷ text) n = by_test (is_space c) refl (run-split text n) (run-split text (after n c))
  where
    onto : (parts : List (List ℕ)) → fold then_run (Some (after n c)) parts ≡ run (after n c) text → fold then_run (Some n) (onto_first c parts) ≡ run n (c ∷ text)
    onto [] h = ap (λ m. cond (is_cut n c) None m) h
    onto (part ∷ parts) h = by_cut (is_cut n c)
      where
        by_cut : (b : Bool) → fold then_run (cond b None (run (after n c) part)) parts ≡ cond b None (run (after n c) text)
        by_cut true = none-run parts
        by_cut false = h

    by_test : (b : Bool) → is_space c ≡ b → fold then_run (Some n) (slice_split is_space text) ≡ run n text → fold then_run (Some (after n c)) (slice_split is_space text) ≡ run (after n c) text → fold then_run (Some n) (cond b ([] ∷ slice_split is_space text) (onto_first c (slice_split is_space text))) ≡ run n (c ∷ text)
    by_test true space here onward = here ∙ sym (plain-run c (space-plain c space) n text)
    by_test false other here onward = onto (slice_split is_space text) onward

-- words that lead nowhere can go
run-filter : (p : List ℕ → Bool) → ((word : List ℕ) → p word ≡ false → (n : Nesting) → run n word ≡ Some n) → (list : List (List ℕ)) (m : Option Nesting) → fold then_run m (filter p list) ≡ fold then_run m list
run-filter p stays [] m = refl
run-filter p stays (word ∷ list) m = by_test (p word) refl (run-filter p stays list (then_run m word)) (run-filter p stays list m)
  where
    same : (m : Option Nesting) → p word ≡ false → then_run m word ≡ m
    same None gone = refl
    same (Some n) gone = stays word gone n

    by_test : (b : Bool) → p word ≡ b → fold then_run (then_run m word) (filter p list) ≡ fold then_run (then_run m word) list → fold then_run m (filter p list) ≡ fold then_run m list → fold then_run m (cond b (word ∷ filter p list) (filter p list)) ≡ fold then_run (then_run m word) list
    by_test true kept onward here = onward
    by_test false gone onward here = here ∙ ap (λ k. fold then_run k list) (sym (same m gone))

run-words : (text : List ℕ) (n : Nesting) → fold then_run (Some n) (words text) ≡ run n text
unfolding words
run-words text n = run-filter (λ word. not (is_empty word)) none (slice_split is_space text) (Some n) ∙ run-split text n
  where
    none : (word : List ℕ) → not (is_empty word) ≡ false → (n : Nesting) → run n word ≡ Some n
    none [] gone n = refl
    none (c ∷ word) gone n = absurd (true≢false gone)

-- what is left leads where all of it led
pub run-without_line : (text : List ℕ) (line : DecorationLine) (n : Nesting) → run n (without_line text line) ≡ run n text
unfolding without_line
run-without_line text line n =
    run-join (filter (λ word. not (bytes_eq (line_word line) word)) (words text)) n
    ∙ run-filter (λ word. not (bytes_eq (line_word line) word)) own (words text) (Some n)
    ∙ run-words text n
  where
    own : (word : List ℕ) → not (bytes_eq (line_word line) word) ≡ false → (n : Nesting) → run n word ≡ Some n
    own word gone n = by_test (bytes_eq (line_word line) word) refl gone
      where
        by_test : (b : Bool) → bytes_eq (line_word line) word ≡ b → not b ≡ false → run n word ≡ Some n
        by_test true is gone = ap (run n) (sym (same-name (line_word line) word is)) ∙ run-line_word line n
        by_test false is gone = absurd (true≢false gone)

-- and has the line no more
pub has_line-without_line : (text : List ℕ) (line : DecorationLine) → has_line (without_line text line) line ≡ false
unfolding has_line
has_line-without_line text line =
    ap (λ list. list_any (λ word. bytes_eq (line_word line) word) list) (words-without_line text line)
    ∙ any-filter_same (λ word. bytes_eq (line_word line) word) (λ word. not (bytes_eq (line_word line) word)) false (λ word is. ap not is) (words text)
