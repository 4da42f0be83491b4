-- The page block that opens a session: a line `page <<WORD`, the lines of the page, and a line
-- WORD. The acts follow.
use Rattle.std.specs.Prelude.{◌≡◌, ◌≢◌, ◌++◌, ◌≤◌, All, true, ℕ, Bool, ◌&&◌, nat_lt, nat_le, nat_eq, ◌==◌, List, [], ◌∷◌, length, drop, codes, bytes_eq, Option, Some, None, unwrap_or, if◌then◌else◌}
use Rattle.std.specs.Char.{is_ascii_alphanumeric}
use Rattle.edit_session.specs.declared.block.PageBlock.{PageBlock}
use Rattle.edit_session.specs.declared.block.PageBlock.TheVariants as parted
use Rattle.std.specs.Option.{option_map}
use Rattle.std.specs.List.{starts_with, list_all, join_with_byte, position}

-- the lines of a text: each is ended by LF, and the last LF may be missing
abbrev pub before_line : ℕ → List (List ℕ) → List (List ℕ)
before_line b [] = (b ∷ []) ∷ []
before_line b (line ∷ lines) = (b ∷ line) ∷ lines

abbrev pub lines_of : List ℕ → List (List ℕ)
lines_of [] = []
lines_of (b ∷ bytes) = if b == 10 then [] ∷ lines_of bytes else before_line b (lines_of bytes)

-- where the first line ends: before its LF, or at the end of the text
abbrev pub end_of : List ℕ → ℕ
end_of text = unwrap_or (position (λ b. b == 10) text) (length text)

-- 1 to 32 ASCII letters and digits
abbrev pub is_word : List ℕ → Bool
is_word word =
    nat_lt 0 (length word) && (nat_le (length word) 32 && list_all is_ascii_alphanumeric word)

-- what an input begins with: no opening line, no closing line after it, or a page and the lines of
-- the acts
pub data Block : Type 0 where
  NoOpening : Block
  NoClosing : Block
  Whole : (page : List ℕ) (acts : List (List ℕ)) → Block

-- ---- the grammar: which lines begin with which block

abbrev pub IsOpening : List ℕ → List ℕ → Type 0
IsOpening line word = (line ≡ codes "page <<" ++ word) × (is_word word ≡ true)

-- no line of these closes the page
abbrev pub NoneIs : List ℕ → List (List ℕ) → Type 0
NoneIs word lines = All (λ line. line ≢ word) lines

abbrev pub IsBlock : List (List ℕ) → Block → Type 0
IsBlock lines NoOpening =
    (line word : List ℕ) (rest : List (List ℕ)) → lines ≡ line ∷ rest → ¬ (IsOpening line word)
IsBlock lines NoClosing = (line word : List ℕ) × (rest : List (List ℕ)) × (lines ≡ line ∷ rest)
    × IsOpening line word × NoneIs word rest
IsBlock lines (Whole page acts) =
    (line word : List ℕ) × (before : List (List ℕ)) × (lines ≡ line ∷ (before ++ word ∷ acts))
    × IsOpening line word × NoneIs word before
    × (page ≡ join_with_byte 10 before)

-- ---- the block that lines begin with, computed

-- the word of an opening line
abbrev pub opening_word : List ℕ → Option (List ℕ)
opening_word line =
    if starts_with nat_eq line (codes "page <<") && is_word (drop 7 line) then Some (drop 7 line)
    else None

-- the lines before the first that equals the word, and those after it
pub record Cut : Type 0 where
  pub before : List (List ℕ)
  pub after : List (List ℕ)

abbrev pub with_line : List ℕ → Cut → Cut
with_line line cut = record cut { before = line ∷ cut.before }

abbrev pub cut_at : List ℕ → List (List ℕ) → Option Cut
cut_at word [] = None
cut_at word (line ∷ lines) =
    if bytes_eq line word then Some (record {
      before = [];
      after = lines;
    }) else option_map (with_line line) (cut_at word lines)

abbrev pub block_cut : Option Cut → Block
block_cut None = NoClosing
block_cut (Some cut) = Whole (join_with_byte 10 cut.before) cut.after

abbrev pub block_opened : Option (List ℕ) → List (List ℕ) → Block
block_opened None lines = NoOpening
block_opened (Some word) lines = block_cut (cut_at word lines)

abbrev pub block_in : List (List ℕ) → Block
block_in [] = NoOpening
block_in (line ∷ lines) = block_opened (opening_word line) lines

abbrev pub block_of : List ℕ → Block
block_of input = block_in (lines_of input)

-- the acts are no longer than this
abbrev pub ActsWithin : ℕ → PageBlock → Type 0
ActsWithin n parted.NoOpening = Unit {0}
ActsWithin n parted.NoClosing = Unit {0}
ActsWithin n (parted.Whole page acts) = length acts.now ≤ n

-- what the program's value shows
abbrev pub shown_block : PageBlock → Block
shown_block parted.NoOpening = NoOpening
shown_block parted.NoClosing = NoClosing
shown_block (parted.Whole page acts) = Whole page.now (lines_of acts.now)
