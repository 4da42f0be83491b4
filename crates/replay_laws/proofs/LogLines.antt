-- The text of steps has a line for each, and where the steps are replayed their lines are.
use Rattle.std.proofs.Common.{◌≡◌, ℕ, ◌+◌, ◌<◌, ◌^◌, Bool, true, false, not, cond, ◌==◌, map, List, [], ◌∷◌, ◌++◌, codes, Option, Some, None, IfSome, Result, Ok, Err, refl, ap, ◌∙◌, arith, rules, append_assoc}
use Rattle.std.specs.Char.{is_ascii_digit}
use Rattle.std.specs.Fmt.{decimal}
use Rattle.std.specs.List.{flat_map, list_all}
use Rattle.std.specs.Str.Parse.{digits_value}
use Rattle.std.proofs.lemmas.Fmt.{digits_decimal}
use Rattle.std.proofs.lemmas.Str.Parse.{IsNumeralModel, numerals_by_value}
use Rattle.step_text.specs.EscapedText.Escaped.{escape_of, escaped, escaped_bytes}
use Rattle.page_write.specs.Html.{start_tag}
use Rattle.step_text.proofs.ScriptRead.Cutting.{Avoids, Avoids-append, passing_avoids}
use Rattle.step_text.specs.Applying.{Labelled, fault_of, line_applied, refused_or, replayed_from}
use Rattle.step_text.specs.StepLine.{quoted, tag_byte, tag_bytes, made_text, before_text, line_text, IsLabel, IsStepLine}
use Rattle.step_text.specs.StepReading.{step_in}
use Rattle.step_text.specs.declared.line.Made.{Made}
use Rattle.step_text.specs.declared.line.Made.TheVariants as made
use Rattle.step_text.specs.declared.line.StepFault.{StepFault}
use Rattle.step_text.specs.declared.line.StepLine.{StepLine}
use Rattle.step_text.specs.declared.line.StepLine.TheVariants.{Entry, Make, Insert, Remove, Move, Words, Tag}
use Rattle.step_text.proofs.Bytes.{encodes_avoid}
use Rattle.step_text.proofs.SoundSteps.{step_of_line}
use Rattle.edit_engine.specs.Logs.{step_line, step_lines}
use Rattle.edit_session.specs.Block.{lines_of}
use Rattle.edit_session.specs.Replay.{Replayed, tallied, replayed, step_fitting, step_replayed, line_replayed, onward, lines_replayed}
use Rattle.replay_laws.specs.Lines.{StepsAreLines, LinesReplay, tallied_all}

-- ---- line feeds

plain : (text : List ℕ) → list_all (λ b. not (b == 10)) text ≡ true → Avoids 10 text
plain text all = passing_avoids (λ b. not (b == 10)) 10 refl text all

record IsOneLine (text : List ℕ) : Type 0 where
  avoids : Avoids 10 text

one_line : (text : List ℕ) → list_all (λ b. not (b == 10)) text ≡ true → IsOneLine text
one_line text all = record { avoids = plain text all }

by_test : (c k : ℕ) (holds lacks : List ℕ) → IsOneLine holds → ((c == k) ≡ false → IsOneLine lacks) → IsOneLine (cond (c == k) holds lacks)
by_test c k holds lacks first second = by_case (c == k) refl
  where
    by_case : (b : Bool) → (c == k) ≡ b → IsOneLine (cond b holds lacks)
    by_case true e = first
    by_case false e = second e

escape_line : (c : ℕ) → IsOneLine (escape_of c)
escape_line c =
    by_test c 10 (codes "\\n") _ (one_line (codes "\\n") refl)
    (λ feed. by_test c 9 (codes "\\t") _ (one_line (codes "\\t") refl)
    (λ _. by_test c 92 (codes "\\\\") _ (one_line (codes "\\\\") refl)
    (λ _. by_test c 34 (codes "\\\"") _ (one_line (codes "\\\"") refl)
    (λ _. by_test c 13 (codes "\\r") _ (one_line (codes "\\r") refl)
    (λ _. by_test c 160 (codes "\\u{a0}") (c ∷ []) (one_line (codes "\\u{a0}") refl)
    (λ _. record { avoids = (feed, tt) }))))))

escaped_avoids : (text : List ℕ) → Avoids 10 (escaped text)
unfolding escaped
escaped_avoids [] = tt
escaped_avoids (c ∷ cs) = Avoids-append 10 (escape_of c) (escaped cs) (escape_line c).avoids (escaped_avoids cs)

quoted_avoids : (words : List ℕ) → Avoids 10 (quoted words)
unfolding escaped_bytes
quoted_avoids words =
    let quote = plain (codes "\"") refl in
    let inner = encodes_avoid 10 (escaped words) (omega arith) (escaped_avoids words) in
    Avoids-append 10 (codes "\"" ++ escaped_bytes words) (codes "\"") (Avoids-append 10 (codes "\"") (escaped_bytes words) quote inner) quote

byte_line : (b : ℕ) → IsOneLine (tag_byte b)
byte_line b =
    by_test b 92 (codes "\\\\") _ (one_line (codes "\\\\") refl)
    (λ _. by_test b 10 (codes "\\n") _ (one_line (codes "\\n") refl)
    (λ feed. by_test b 13 (codes "\\r") _ (one_line (codes "\\r") refl)
    (λ _. by_test b 9 (codes "\\t") (b ∷ []) (one_line (codes "\\t") refl)
    (λ _. record { avoids = (feed, tt) }))))

tag_avoids : (bytes : List ℕ) → Avoids 10 (tag_bytes bytes)
unfolding tag_bytes
tag_avoids [] = tt
tag_avoids (b ∷ bs) = Avoids-append 10 (tag_byte b) (tag_bytes bs) (byte_line b).avoids (tag_avoids bs)

made_avoids : (new : Made) → Avoids 10 (made_text new)
made_avoids (made.Element name attributes) = tag_avoids (start_tag name attributes)
made_avoids (made.Words words) = quoted_avoids words

digits : IsNumeralModel (λ ds. list_all is_ascii_digit ds ≡ true) (digits_value 10)
digits = numerals_by_value _ (search rules)

label_avoids : (n : ℕ) → IsLabel n → Avoids 10 (decimal n)
label_avoids n h = let small : n < 2 ^ 64 = omega (arith, h) in passing_avoids is_ascii_digit 10 refl (decimal n) (digits_decimal digits n small)

-- a word, a label, and what follows after a space
labelled_avoids : (word : List ℕ) (n : ℕ) (text : List ℕ) → Avoids 10 word → IsLabel n → Avoids 10 text → Avoids 10 (word ++ decimal n ++ codes " " ++ text)
labelled_avoids word n text first label last =
    Avoids-append 10 (word ++ decimal n ++ codes " ") text
    (Avoids-append 10 (word ++ decimal n) (codes " ") (Avoids-append 10 word (decimal n) first (label_avoids n label)) (plain (codes " ") refl)) last

before_avoids : (o : Option ℕ) → IfSome o IsLabel → Avoids 10 (before_text o)
before_avoids None h = plain (codes "-") refl
before_avoids (Some n) h = label_avoids n h

placed_avoids : (word : List ℕ) (n p : ℕ) (o : Option ℕ) → Avoids 10 word → IsLabel n → IsLabel p → IfSome o IsLabel → Avoids 10 (word ++ decimal n ++ codes " " ++ decimal p ++ codes " " ++ before_text o)
placed_avoids word n p o first label parent before =
    Avoids-append 10 (word ++ decimal n ++ codes " " ++ decimal p ++ codes " ") (before_text o)
    (Avoids-append 10 (word ++ decimal n ++ codes " " ++ decimal p) (codes " ") (labelled_avoids word n (decimal p) first label (label_avoids p parent)) (plain (codes " ") refl))
    (before_avoids o before)

line_avoids : (x : StepLine) → IsStepLine x → Avoids 10 (line_text x)
line_avoids Entry is = plain (codes "entry") refl
line_avoids (Make n new) is = labelled_avoids (codes "make ") n (made_text new) (plain (codes "make ") refl) is.0 (made_avoids new)
line_avoids (Insert n p before) is = placed_avoids (codes "insert ") n p before (plain (codes "insert ") refl) is.0 is.1 is.2
line_avoids (Remove n) is = Avoids-append 10 (codes "remove ") (decimal n) (plain (codes "remove ") refl) (label_avoids n is)
line_avoids (Move n p before) is = placed_avoids (codes "move ") n p before (plain (codes "move ") refl) is.0 is.1 is.2
line_avoids (Words n words) is = labelled_avoids (codes "words ") n (quoted words) (plain (codes "words ") refl) is.0 (quoted_avoids words)
line_avoids (Tag n name attributes) is = labelled_avoids (codes "tag ") n (tag_bytes (start_tag name attributes)) (plain (codes "tag ") refl) is.0 (tag_avoids (start_tag name attributes))

-- ---- lines

first_line : (line rest : List ℕ) → Avoids 10 line → lines_of (line ++ 10 ∷ rest) ≡ line ∷ lines_of rest
first_line [] rest lacks = refl
first_line (b ∷ line) rest lacks = rw (lacks.0, first_line line rest lacks.1) refl

pub steps_are_lines : StepsAreLines
unfolding step_lines
steps_are_lines [] are = refl
steps_are_lines (x ∷ xs) are =
    ap lines_of (append_assoc (line_text x) (codes "\n") (flat_map step_line xs))
    ∙ (first_line (line_text x) (flat_map step_line xs) (line_avoids x are.0) ∙ ap (λ (ls : List (List ℕ)). line_text x ∷ ls) (steps_are_lines xs are.1))

-- ---- the replay of lines

by_fault : (number : ℕ) (x : StepLine) (xs : List StepLine) (r : Replayed) (last : Labelled) (o : Option StepFault)
    → (replayed_from (number + 1) xs (line_applied x r.document) ≡ Ok last → lines_replayed (number + 1) (map line_text xs) (replayed (tallied x r.tally) (line_applied x r.document)) ≡ Ok (replayed (tallied_all xs (tallied x r.tally)) last))
    → refused_or number o (replayed_from (number + 1) xs (line_applied x r.document)) ≡ Ok last
    → onward number (lines_replayed (number + 1) (map line_text xs)) (step_fitting x r o) ≡ Ok (replayed (tallied_all xs (tallied x r.tally)) last)
by_fault number x xs r last None more e = more e
by_fault number x xs r last (Some fault) more e = absurd (let t : ◌≡◌ {A = Result Labelled (ℕ × StepFault)} (Err (number, fault)) (Ok last) = e in cc)

pub lines_replay : LinesReplay
unfolding replayed_from lines_replayed line_replayed tallied_all
lines_replay number [] r last are e =
    let same : r.document ≡ last = (let t : ◌≡◌ {A = Result Labelled (ℕ × StepFault)} (Ok r.document) (Ok last) = e in cc) in
    ap (λ (d : Labelled). Ok (replayed r.tally d)) same
lines_replay number (x ∷ xs) r last are e =
    let read : step_in (line_text x) ≡ Some x = (step_of_line (line_text x) x).1 (are.0, refl) in
    ap (λ (o : Option StepLine). onward number (lines_replayed (number + 1) (map line_text xs)) (step_replayed o r)) read
    ∙ by_fault number x xs r last (fault_of x r.document) (lines_replay (number + 1) xs (replayed (tallied x r.tally) (line_applied x r.document)) last are.1) e
