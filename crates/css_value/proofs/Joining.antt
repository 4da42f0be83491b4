-- Words joined by a space, from the front on.
use Rattle.std.proofs.Common.{◌≡◌, ℕ, Bool, true, false, true≢false, not, cond, List, [], ◌∷◌, ◌++◌, refl, sym, ap, ◌∙◌, filter, bytes_eq}
use Rattle.std.specs.List.{AllByRecursion, join_with_byte, slice_split, onto_first}
use Rattle.std.proofs.lemmas.List.{append-nil}
use Rattle.css_value.specs.StyleText.{is_space, is_empty, trim_start, trim_end, before_trimmed, trimmed}
use Rattle.css_value.specs.TextDecoration.{words, line_word, without_line}
use Rattle.css_value.specs.declared.decoration.DecorationLine.{DecorationLine}

-- what further words add to a text; to an empty one no space before the first
abbrev pub further : Bool → List (List ℕ) → List ℕ
further true words = join_with_byte 32 words
further false [] = []
further false (word ∷ words) = 32 ∷ join_with_byte 32 (word ∷ words)

pub join-first : (word : List ℕ) (words : List (List ℕ)) → join_with_byte 32 (word ∷ words) ≡ word ++ further false words
join-first word [] = sym (append-nil word)
join-first word (next ∷ words) = refl

-- no character of the word is a space
abbrev Spaceless : List ℕ → Type 0
Spaceless word = AllByRecursion (λ c. is_space c ≡ false) word

-- each has characters, and none is a space
abbrev AreWords : List (List ℕ) → Type 0
AreWords list = AllByRecursion (λ word. (is_empty word ≡ false) × Spaceless word) list

split-at : (word text : List ℕ) → Spaceless word → slice_split is_space (word ++ 32 ∷ text) ≡ word ∷ slice_split is_space text
split-at [] text all = refl
split-at (c ∷ word) text all =
    ap (λ b. cond b ([] ∷ slice_split is_space (word ++ 32 ∷ text)) (onto_first c (slice_split is_space (word ++ 32 ∷ text)))) all.0
    ∙ ap (onto_first c) (split-at word text all.1)

split-whole : (word : List ℕ) → Spaceless word → slice_split is_space word ≡ word ∷ []
split-whole [] all = refl
split-whole (c ∷ word) all =
    ap (λ b. cond b ([] ∷ slice_split is_space word) (onto_first c (slice_split is_space word))) all.0 ∙ ap (onto_first c) (split-whole word all.1)

-- words that are joined are the words of the text
words-join : (list : List (List ℕ)) → AreWords list → words (join_with_byte 32 list) ≡ list
unfolding words
words-join [] all = refl
words-join (word ∷ []) all =
    ap (filter (λ w. not (is_empty w))) (split-whole word all.0.1) ∙ ap (λ b. cond (not b) (word ∷ []) []) all.0.0
words-join (word ∷ next ∷ list) all =
    ap (filter (λ w. not (is_empty w))) (split-at word (join_with_byte 32 (next ∷ list)) all.0.1)
    ∙ ap (λ b. cond (not b) (word ∷ words (join_with_byte 32 (next ∷ list))) (words (join_with_byte 32 (next ∷ list)))) all.0.0
    ∙ ap (λ more. word ∷ more) (words-join (next ∷ list) all.1)

spaceless-onto : (c : ℕ) (parts : List (List ℕ)) → is_space c ≡ false → AllByRecursion Spaceless parts → AllByRecursion Spaceless (onto_first c parts)
spaceless-onto c [] h all = ((h, tt), tt)
spaceless-onto c (part ∷ parts) h all = ((h, all.0), all.1)

-- no part of a text has a space
parts-spaceless : (text : List ℕ) → AllByRecursion Spaceless (slice_split is_space text)
parts-spaceless [] = (tt, tt)
parts-spaceless (c ∷ text) = split (is_space c) refl (parts-spaceless text)
  where
    split : (b : Bool) → is_space c ≡ b → AllByRecursion Spaceless (slice_split is_space text) → AllByRecursion Spaceless (cond b ([] ∷ slice_split is_space text) (onto_first c (slice_split is_space text)))
    split true h all = (tt, all)
    split false h all = spaceless-onto c (slice_split is_space text) h all

filter-words : (parts : List (List ℕ)) → AllByRecursion Spaceless parts → AreWords (filter (λ w. not (is_empty w)) parts)
filter-words [] all = tt
filter-words (part ∷ parts) all = split (is_empty part) refl (filter-words parts all.1)
  where
    split : (b : Bool) → is_empty part ≡ b → AreWords (filter (λ w. not (is_empty w)) parts) → AreWords (cond (not b) (part ∷ filter (λ w. not (is_empty w)) parts) (filter (λ w. not (is_empty w)) parts))
    split true h more = more
    split false h more = ((h, all.0), more)

words-are : (text : List ℕ) → AreWords (words text)
unfolding words
words-are text = filter-words (slice_split is_space text) (parts-spaceless text)

AreWords-filter : (p : List ℕ → Bool) (list : List (List ℕ)) → AreWords list → AreWords (filter p list)
AreWords-filter p [] all = tt
AreWords-filter p (word ∷ list) all = split (p word) (AreWords-filter p list all.1)
  where
    split : (b : Bool) → AreWords (filter p list) → AreWords (cond b (word ∷ filter p list) (filter p list))
    split true more = (all.0, more)
    split false more = more

-- the words that stay are read again
pub words-without_line : (text : List ℕ) (line : DecorationLine) → words (without_line text line) ≡ filter (λ word. not (bytes_eq (line_word line) word)) (words text)
unfolding without_line
words-without_line text line =
    words-join (filter (λ word. not (bytes_eq (line_word line) word)) (words text)) (AreWords-filter (λ word. not (bytes_eq (line_word line) word)) (words text) (words-are text))

-- where no words are left, all have been joined
pub words-all-joined : (text left : List ℕ) (line : DecorationLine) (more : List (List ℕ)) → more ≡ [] → left ++ further (is_empty left) (filter (λ word. not (bytes_eq (line_word line) word)) more) ≡ without_line text line → words left ≡ filter (λ word. not (bytes_eq (line_word line) word)) (words text)
words-all-joined text left line more none joined =
    let end : further (is_empty left) (filter (λ word. not (bytes_eq (line_word line) word)) more) ≡ [] = ap (λ list. further (is_empty left) (filter (λ word. not (bytes_eq (line_word line) word)) list)) none ∙ nothing (is_empty left) in
    ap words (sym (append-nil left) ∙ ap (λ t. left ++ t) (sym end) ∙ joined) ∙ words-without_line text line
  where
    nothing : (b : Bool) → further b [] ≡ []
    nothing true = refl
    nothing false = refl

-- ---- joined words have no space at an end

before-some : (c : ℕ) (text : List ℕ) → is_empty text ≡ false → before_trimmed c text ≡ c ∷ text
before-some c [] some = absurd (true≢false some)
before-some c (d ∷ text) some = refl

append-some : (word text : List ℕ) → is_empty text ≡ false → is_empty (word ++ text) ≡ false
append-some [] text some = some
append-some (c ∷ word) text some = refl

join-some : (list : List (List ℕ)) (word : List ℕ) → is_empty word ≡ false → is_empty (join_with_byte 32 (word ∷ list)) ≡ false
join-some list [] some = absurd (true≢false some)
join-some [] (c ∷ word) some = refl
join-some (next ∷ list) (c ∷ word) some = refl

trim_end-word : (word : List ℕ) → Spaceless word → trim_end word ≡ word
trim_end-word [] all = refl
trim_end-word (c ∷ []) all = ap (λ b. cond b [] (c ∷ [])) all.0
trim_end-word (c ∷ d ∷ word) all = ap (before_trimmed c) (trim_end-word (d ∷ word) all.1)

trim_end-behind : (word text : List ℕ) → is_empty text ≡ false → trim_end text ≡ text → trim_end (word ++ text) ≡ word ++ text
trim_end-behind [] text some same = same
trim_end-behind (c ∷ word) text some same =
    ap (before_trimmed c) (trim_end-behind word text some same) ∙ before-some c (word ++ text) (append-some word text some)

trim_end-join : (list : List (List ℕ)) → AreWords list → trim_end (join_with_byte 32 list) ≡ join_with_byte 32 list
trim_end-join [] all = refl
trim_end-join (word ∷ []) all = trim_end-word word all.0.1
trim_end-join (word ∷ next ∷ list) all =
    let more : List ℕ = join_with_byte 32 (next ∷ list) in
    trim_end-behind word (32 ∷ more) refl (ap (before_trimmed 32) (trim_end-join (next ∷ list) all.1) ∙ before-some 32 more (join-some list next all.1.0.0))

trim_start-join : (list : List (List ℕ)) → AreWords list → trim_start (join_with_byte 32 list) ≡ join_with_byte 32 list
trim_start-join [] all = refl
trim_start-join ([] ∷ list) all = absurd (true≢false all.0.0)
trim_start-join ((c ∷ word) ∷ []) all = ap (λ b. cond b (trim_start word) (c ∷ word)) all.0.1.0
trim_start-join ((c ∷ word) ∷ next ∷ list) all =
    let more : List ℕ = word ++ 32 ∷ join_with_byte 32 (next ∷ list) in
    ap (λ b. cond b (trim_start more) (c ∷ more)) all.0.1.0

trimmed-join : (list : List (List ℕ)) → AreWords list → trimmed (join_with_byte 32 list) ≡ join_with_byte 32 list
unfolding trimmed
trimmed-join list all = ap trim_end (trim_start-join list all) ∙ trim_end-join list all

pub trimmed-without_line : (text : List ℕ) (line : DecorationLine) → trimmed (without_line text line) ≡ without_line text line
unfolding without_line
trimmed-without_line text line =
    trimmed-join (filter (λ word. not (bytes_eq (line_word line) word)) (words text)) (AreWords-filter (λ word. not (bytes_eq (line_word line) word)) (words text) (words-are text))
