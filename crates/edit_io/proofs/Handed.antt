-- How counts of bytes that were handed out add up over several reads.
use Rattle.std.proofs.Common.{◌≡◌, ℕ, ◌+◌, ap, ◌∙◌, arith}
use Rattle.edit_io.specs.Handed.{handed_more}

-- two pieces, one after another
handed-handed : (handed one more : ℕ) → handed_more (handed_more handed one) more ≡ handed_more handed (one + more)
handed-handed handed one more = omega arith

-- size bytes were handed out since the start, whatever comes after them
abbrev pub HasHanded : (start now size : ℕ) → Type 0
HasHanded start now size = (more : ℕ) → handed_more now more ≡ handed_more start (size + more)

-- a piece more is read
pub handed_longer : (start old new size one all : ℕ) → HasHanded start old size → new ≡ handed_more old one → all ≡ size + one → HasHanded start new all
handed_longer start old new size one all so e sum = λ more.
    let a : handed_more new more ≡ handed_more (handed_more old one) more = ap (λ n. handed_more n more) e in
    let b = handed-handed old one more in
    let d = so (one + more) in
    let f : size + (one + more) ≡ all + more = omega arith in
    a ∙ b ∙ d ∙ ap (handed_more start) f

-- the last piece is read, and its count is known
pub handed_whole : (start old new size one all : ℕ) → HasHanded start old size → new ≡ handed_more old one → all ≡ size + one → new ≡ handed_more start all
handed_whole start old new size one all so e sum = e ∙ so one ∙ ap (handed_more start) (let f : size + one ≡ all = omega arith in f)
