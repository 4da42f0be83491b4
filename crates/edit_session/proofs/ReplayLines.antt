-- What replaying some lines comes to, line by line; and the text of a step isn't longer than its line.
use Rattle.std.proofs.Common.{◌≡◌, ℕ, ◌+◌, ◌≤◌, Bool, true, false, cond, List, [], ◌∷◌, ◌++◌, length, codes, Result, Ok, Err, refl, sym, ◌∙◌, subst, arith, ◌==◌}
use Rattle.std.specs.Fmt.{decimal}
use Rattle.std.specs.List.{flat_map}
use Rattle.std.proofs.lemmas.Bool.Decides.{nat_tests}
use Rattle.std.proofs.lemmas.List.{length-append}
use Rattle.std.proofs.lemmas.Str.{length-le-encodes}
use Rattle.step_text.specs.EscapedText.Escaped.{escape_of, escaped, escaped_bytes}
use Rattle.step_text.specs.Applying.{Labelled, text_length, made_length}
use Rattle.step_text.specs.StepLine.{quoted, made_text, line_text}
use Rattle.step_text.specs.declared.line.Made.{Made}
use Rattle.step_text.specs.declared.line.Made.TheVariants as made
use Rattle.step_text.specs.declared.line.StepFault.{StepFault}
use Rattle.step_text.specs.declared.line.StepFault.TheVariants.{Syntax, BadLabel, BadPlace, TooDeep, Memory}
use Rattle.step_text.specs.declared.line.StepLine.{StepLine}
use Rattle.step_text.specs.declared.line.StepLine.TheVariants.{Entry, Make, Insert, Remove, Move, Words, Tag}
use Rattle.edit_session.specs.Block.{lines_of}
use Rattle.edit_session.specs.Replay.{Replayed, none_yet, replayed, line_replayed, lines_replayed, replay, IsFault}
use Rattle.edit_session.specs.declared.replay.Refusal.{Refusal}

-- ---- the text of a step

some_of : (b : Bool) (x y : List ℕ) → 1 ≤ length x → 1 ≤ length y → 1 ≤ length (cond b x y)
some_of true x y some other = some
some_of false x y some other = other

escape_some : (c : ℕ) → 1 ≤ length (escape_of c)
escape_some c =
    some_of (c == 10) _ _ (omega arith)
    (some_of (c == 9) _ _ (omega arith)
    (some_of (c == 92) _ _ (omega arith)
    (some_of (c == 34) _ _ (omega arith)
    (some_of (c == 13) _ _ (omega arith)
    (some_of (c == 160) _ _ (omega arith) (omega arith))))))

escapes_longer : (words : List ℕ) → length words ≤ length (flat_map escape_of words)
escapes_longer [] = omega arith
escapes_longer (c ∷ words) =
    let e = length-append (escape_of c) (flat_map escape_of words) in
    omega (arith, e, escape_some c, escapes_longer words)

escaped_longer : (words : List ℕ) → length words ≤ length (escaped_bytes words)
unfolding escaped escaped_bytes
escaped_longer words =
    let e = escapes_longer words in
    let f = length-le-encodes (flat_map escape_of words) in
    omega (arith, e, f)

quoted_longer : (words : List ℕ) → length words ≤ length (quoted words)
quoted_longer words =
    let e = length-append (escaped_bytes words) (codes "\"") in
    omega (arith, e, escaped_longer words)

after_longer : (a b : List ℕ) (n : ℕ) → n ≤ length b → n ≤ length (a ++ b)
after_longer a b n le = let e = length-append a b in omega (arith, e, le)

made_longer : (new : Made) → made_length new ≤ length (made_text new)
made_longer (made.Element name attributes) = omega arith
made_longer (made.Words words) = quoted_longer words

-- what stands after a word and a label is within the line
labelled_longer : (word : List ℕ) (label : ℕ) (text : List ℕ) (n : ℕ) → n ≤ length text → n ≤ length (word ++ decimal label ++ codes " " ++ text)
labelled_longer word label text n le = after_longer (word ++ decimal label ++ codes " ") text n le

step_longer : (step : StepLine) → text_length step ≤ length (line_text step)
step_longer Entry = omega arith
step_longer (Make label new) = labelled_longer (codes "make ") label (made_text new) (made_length new) (made_longer new)
step_longer (Insert label parent before) = omega arith
step_longer (Remove label) = omega arith
step_longer (Move label parent before) = omega arith
step_longer (Words label words) = labelled_longer (codes "words ") label (quoted words) (length words) (quoted_longer words)
step_longer (Tag label name attributes) = omega arith

pub text_within : (step : StepLine) (line : List ℕ) → line_text step ≡ line → text_length step ≤ length line
text_within step line is = subst (λ l. text_length step ≤ length l) is (step_longer step)

-- ---- one line

-- ---- lines

pub replay_more : (number : ℕ) (line : List ℕ) (lines : List (List ℕ)) (r after : Replayed) → line_replayed line r ≡ Ok after → lines_replayed number (line ∷ lines) r ≡ lines_replayed (number + 1) lines after
unfolding lines_replayed
replay_more number line lines r after is = rw is refl

replay_stops : (number : ℕ) (line : List ℕ) (lines : List (List ℕ)) (r : Replayed) (fault : StepFault) → line_replayed line r ≡ Err fault → lines_replayed number (line ∷ lines) r ≡ Err (record { number = number; fault = fault })
unfolding lines_replayed
replay_stops number line lines r fault is = rw is refl

pub replay_starts : (lines : List (List ℕ)) (d : Labelled) → lines_replayed 1 lines (replayed none_yet d) ≡ replay lines d
unfolding replay
replay_starts lines d = refl

pub replay_done : (number : ℕ) (r : Replayed) → lines_replayed number [] r ≡ Ok r
unfolding lines_replayed
replay_done number r = refl

pub no_lines : (empty : Bool) (text : List ℕ) → empty ≡ (length text == 0) → empty ≡ true → lines_of text ≡ []
no_lines empty [] is so = refl
no_lines empty (b ∷ text) is so = absurd (let z : (length (b ∷ text) == 0) ≡ true = sym is ∙ so in grind (arith, nat_tests))

pub line_told : (fault : StepFault) (number : ℕ) (line : List ℕ) (lines : List (List ℕ)) (r : Replayed) (all : Result Replayed Refusal) → IsFault fault fault (line_replayed line r) → lines_replayed number (line ∷ lines) r ≡ all → IsFault (record { number = number; fault = fault }) fault all
line_told Syntax number line lines r all is e = sym e ∙ replay_stops number line lines r Syntax is
line_told BadLabel number line lines r all is e = sym e ∙ replay_stops number line lines r BadLabel is
line_told BadPlace number line lines r all is e = sym e ∙ replay_stops number line lines r BadPlace is
line_told TooDeep number line lines r all is e = sym e ∙ replay_stops number line lines r TooDeep is
line_told Memory number line lines r all is e = tt
