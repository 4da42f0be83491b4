-- Pages as bytes: UTF-8 text whose characters are a page.
use Rattle.std.specs.Prelude.{◌≡◌, ℕ, ◌≤◌, true, List, ◌++◌, length, take}
use Rattle.std.specs.Str.{IsUtf8}
use Rattle.std.proofs.Math.Utf8.{scalars, encodes}
use Rattle.page_grammar.specs.Page.{Siblings, Page}

-- the bytes are UTF-8, and their characters stand for these children
abbrev pub PageBytes : (d c : ℕ) → List ℕ → Siblings → Type 0
PageBytes d c s f = (cs : List ℕ) × (scalars cs ≡ true) × (encodes cs ≡ s) × Page d c cs f

abbrev pub IsPageBytes : (d c : ℕ) → List ℕ → Type 0
IsPageBytes d c s = (f : Siblings) × PageBytes d c s f

-- some page within the limits begins so, however long
abbrev pub BeginsPage : (d c : ℕ) → List ℕ → Type 0
BeginsPage d c p = (q : List ℕ) × IsPageBytes d c (p ++ q)

-- some UTF-8 text begins so
abbrev pub BeginsText : List ℕ → Type 0
BeginsText p = (q : List ℕ) × IsUtf8 (p ++ q)

-- the length of the longest prefix of s that is a prefix of some page within the limits
pub record IsBytePlace (d c : ℕ) (s : List ℕ) (k : ℕ) : Type 0 where
  pub within : k ≤ length s
  pub here : BeginsPage d c (take k s)
  pub longest : (j : ℕ) → j ≤ length s → BeginsPage d c (take j s) → j ≤ k
