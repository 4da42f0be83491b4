-- The session that `bulk` makes from a number: a page of so many paragraphs, and acts on all of
-- them.
use Rattle.std.specs.Prelude.{ℕ, zero, suc, ◌-◌, List, [], ◌++◌, length, codes}
use Rattle.std.specs.Fmt.{decimal}

abbrev pub item_text : ℕ → List ℕ
item_text number = codes "item " ++ decimal number

abbrev pub paragraph : ℕ → List ℕ
paragraph number = codes "<p>" ++ item_text number ++ codes "</p>"

unfoldable pub paragraphs : ℕ → List ℕ
paragraphs zero = []
paragraphs (suc count) = paragraphs count ++ paragraph (suc count)

abbrev pub bulk_page : ℕ → List ℕ
bulk_page count = codes "<div contenteditable=\"true\">" ++ paragraphs count ++ codes "</div>"

-- from the start of the first text to the end of the last
abbrev pub select_text : (last length : ℕ) → List ℕ
select_text last length =
    codes "select 0/0/0:0 0/" ++ decimal last ++ codes "/0:" ++ decimal length ++ codes "\n"

abbrev pub select_line : ℕ → List ℕ
select_line count = select_text (count - 1) (length (item_text count))

abbrev pub bulk_acts : ℕ → List ℕ
bulk_acts count = select_line count
    ++ codes "exec bold\nstat\nexec bold\nstat\nexec indent\nstat\nundo 3\nstat\nredo 3\nstat\n"

unfoldable pub bulk_text : ℕ → List ℕ
bulk_text count = codes "page <<END\n" ++ bulk_page count ++ codes "\nEND\n" ++ bulk_acts count
