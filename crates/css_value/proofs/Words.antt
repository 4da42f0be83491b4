-- The first word of a text, and the words after it.
use Rattle.std.proofs.Common.{◌≡◌, ℕ, suc, ◌<◌, ◌≤◌, Bool, true, false, not, cond, eqb, List, [], ◌∷◌, length, refl, sym, ap, subst, ◌∙◌, arith, filter}
use Rattle.std.proofs.lemmas.Bool.Decides.{nat_tests}
use Rattle.std.specs.List.{slice_split, onto_first}
use Rattle.css_value.specs.StyleText.{is_space, is_empty, trim_start}
use Rattle.css_value.specs.TextDecoration.{words, before_space, from_space}

-- spaces at the front of a text part no words
pub words-trim_start : (text : List ℕ) → words (trim_start text) ≡ words text
unfolding words
words-trim_start [] = refl
words-trim_start (c ∷ text) = split (is_space c) refl (words-trim_start text)
  where
    split : (b : Bool) → is_space c ≡ b → words (trim_start text) ≡ words text → filter (λ word. not (is_empty word)) (slice_split is_space (cond b (trim_start text) (c ∷ text))) ≡ filter (λ word. not (is_empty word)) (slice_split is_space (c ∷ text))
    split true h further = further ∙ ap (λ b. filter (λ word. not (is_empty word)) (cond b ([] ∷ slice_split is_space text) (onto_first c (slice_split is_space text)))) (sym h)
    split false h further = refl

-- the parts after the first
abbrev more : List ℕ → List (List ℕ)
more [] = []
more (c ∷ text) = cond (is_space c) (slice_split is_space text) (more text)

split-first : (text : List ℕ) → slice_split is_space text ≡ before_space text ∷ more text
split-first [] = refl
split-first (c ∷ text) = split (is_space c) (split-first text)
  where
    split : (b : Bool) → slice_split is_space text ≡ before_space text ∷ more text → cond b ([] ∷ slice_split is_space text) (onto_first c (slice_split is_space text)) ≡ cond b [] (c ∷ before_space text) ∷ cond b (slice_split is_space text) (more text)
    split true further = refl
    split false further = ap (onto_first c) further

words-more : (text : List ℕ) → filter (λ word. not (is_empty word)) (more text) ≡ words (from_space text)
unfolding words
words-more [] = refl
words-more (c ∷ text) = split (is_space c) refl (words-more text)
  where
    split : (b : Bool) → is_space c ≡ b → filter (λ word. not (is_empty word)) (more text) ≡ words (from_space text) → filter (λ word. not (is_empty word)) (cond b (slice_split is_space text) (more text)) ≡ filter (λ word. not (is_empty word)) (slice_split is_space (cond b (c ∷ text) (from_space text)))
    split true h further = ap (λ b. filter (λ word. not (is_empty word)) (cond b ([] ∷ slice_split is_space text) (onto_first c (slice_split is_space text)))) (sym h)
    split false h further = further

-- a text that begins with a word
pub words-first : (text : List ℕ) → is_empty (before_space text) ≡ false → words text ≡ before_space text ∷ words (from_space text)
unfolding words
words-first text h =
    ap (filter (λ word. not (is_empty word))) (split-first text)
    ∙ ap (λ b. cond (not b) (before_space text ∷ filter (λ word. not (is_empty word)) (more text)) (filter (λ word. not (is_empty word)) (more text))) h
    ∙ ap (λ rest. before_space text ∷ rest) (words-more text)

-- what is left without the spaces at the front is nothing, or begins with a word
pub begins-with-word : (text : List ℕ) → 0 < length (trim_start text) → is_empty (before_space (trim_start text)) ≡ false
begins-with-word [] h = absurd (omega arith)
begins-with-word (c ∷ text) h = split (is_space c) refl (begins-with-word text) h
  where
    split : (b : Bool) → is_space c ≡ b → (0 < length (trim_start text) → is_empty (before_space (trim_start text)) ≡ false) → 0 < length (cond b (trim_start text) (c ∷ text)) → is_empty (before_space (cond b (trim_start text) (c ∷ text))) ≡ false
    split true e further h = further h
    split false e further h = ap (λ b. is_empty (cond b [] (c ∷ before_space text))) e

length-trim_start-le : (text : List ℕ) → length (trim_start text) ≤ length text
length-trim_start-le [] = omega arith
length-trim_start-le (c ∷ text) =
    let shorter : length (trim_start text) ≤ length text = length-trim_start-le text in
    elim (is_space c) as (λ b. length (cond b (trim_start text) (c ∷ text)) ≤ suc (length text)) [ true ↦ omega arith | false ↦ omega arith ]

length-from_space-le : (text : List ℕ) → length (from_space text) ≤ length text
length-from_space-le [] = omega arith
length-from_space-le (c ∷ text) =
    let shorter : length (from_space text) ≤ length text = length-from_space-le text in
    elim (is_space c) as (λ b. length (cond b (c ∷ text) (from_space text)) ≤ suc (length text)) [ true ↦ omega arith | false ↦ omega arith ]

length-from_space-lt : (text : List ℕ) → is_empty (before_space text) ≡ false → length (from_space text) < length text
length-from_space-lt [] h = absurd (cc)
length-from_space-lt (c ∷ text) h =
    let shorter : length (from_space text) ≤ length text = length-from_space-le text in
    split (is_space c) h shorter
  where
    split : (b : Bool) → is_empty (cond b [] (c ∷ before_space text)) ≡ false → length (from_space text) ≤ length text → length (cond b (c ∷ text) (from_space text)) < suc (length text)
    split true h k = absurd (cc)
    split false h k = omega arith

-- the text after the first word is shorter
pub length-after_word-lt : (text : List ℕ) → 0 < length (trim_start text) → length (from_space (trim_start text)) < length text
length-after_word-lt text h =
    let shorter : length (from_space (trim_start text)) < length (trim_start text) = length-from_space-lt (trim_start text) (begins-with-word text h) in
    let trimmed : length (trim_start text) ≤ length text = length-trim_start-le text in
    omega arith

-- a text of spaces alone has no words
pub words-none : (text rest : List ℕ) → rest ≡ trim_start text → eqb (length rest) 0 ≡ true → words text ≡ []
unfolding words
words-none text [] is h = sym (words-trim_start text) ∙ ap (λ t. filter (λ word. not (is_empty word)) (slice_split is_space t)) (sym is)
words-none text (c ∷ rest) is h = absurd (no (length rest) h)
  where
    no : (n : ℕ) → eqb (suc n) 0 ≡ true → ⊥
    no n h = grind (arith, nat_tests)

-- what the first word of a text is
pub record FirstWord (text word after_it : List ℕ) : Type 0 where
  pub words_are : words text ≡ word ∷ words after_it
  pub nonempty : is_empty word ≡ false
  pub shorter : length after_it < length text

pub first-word : (text rest word after_it : List ℕ) → rest ≡ trim_start text → eqb (length rest) 0 ≡ false → word ≡ before_space rest → after_it ≡ from_space rest → FirstWord text word after_it
first-word text rest word after_it is h word_is after_is =
    let some : 0 < length (trim_start text) = subst (λ t. 0 < length t) is (above (length rest) h) in
    let word_at : word ≡ before_space (trim_start text) = word_is ∙ ap before_space is in
    let after_at : after_it ≡ from_space (trim_start text) = after_is ∙ ap from_space is in
    record {
      words_are =
          sym (words-trim_start text)
          ∙ words-first (trim_start text) (begins-with-word text some)
          ∙ ap (λ w. w ∷ words (from_space (trim_start text))) (sym word_at)
          ∙ ap (λ t. word ∷ words t) (sym after_at);
      nonempty = ap is_empty word_at ∙ begins-with-word text some;
      shorter = subst (λ t. length t < length text) (sym after_at) (length-after_word-lt text some);
    }
  where
    above : (n : ℕ) → eqb n 0 ≡ false → 0 < n
    above n h = grind (arith, nat_tests)
