-- The one table of sizes: the sizes 1 to 7 of the attribute `size` of font, with their keywords and
-- their pixels.
use Rattle.std.specs.Prelude.{ℕ, ◌+◌, ◌*◌, ◌==◌, nat_lt, if◌then◌else◌, List, [], ◌∷◌, Option, Some, None, codes, bytes_eq}

pub record SizeRow : Type 0 where
  pub number : ℕ
  pub keyword : List ℕ
  pub pixels : ℕ

abbrev pub row : ℕ → List ℕ → ℕ → SizeRow
row number keyword pixels = record { number = number; keyword = keyword; pixels = pixels }

abbrev pub smallest : SizeRow
smallest = row 1 (codes "x-small") 10

abbrev pub larger : List SizeRow
larger =
    row 2 (codes "small") 13
    ∷ row 3 (codes "medium") 16
    ∷ row 4 (codes "large") 18
    ∷ row 5 (codes "x-large") 24
    ∷ row 6 (codes "xx-large") 32
    ∷ row 7 (codes "xxx-large") 48
    ∷ []

-- by the number: what the row has, from this one on; the last one stands for all other numbers
abbrev pub of_number : {A : Type 0} → (SizeRow → A) → SizeRow → List SizeRow → ℕ → A
of_number what r [] n = what r
of_number what r (q ∷ rows) n = if n == r.number then what r else of_number what q rows n

-- by the keyword
abbrev pub of_keyword : {A : Type 0} → (SizeRow → A) → List SizeRow → List ℕ → Option A
of_keyword what [] text = None
of_keyword what (r ∷ rows) text =
    if bytes_eq r.keyword text then Some (what r) else of_keyword what rows text

-- by the pixels: the first row that they are nearer to than to the next one, which has the middle
abbrev pub of_pixels : SizeRow → List SizeRow → ℕ → ℕ
of_pixels r [] px = r.number
of_pixels r (q ∷ rows) px =
    if nat_lt (2 * px) (r.pixels + q.pixels) then r.number else of_pixels q rows px

-- the keyword of a size
unfoldable pub size_keyword : ℕ → List ℕ
size_keyword size = of_number (λ r. r.keyword) smallest larger size
