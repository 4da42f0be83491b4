use Rattle.std.proofs.Common.{◌≡◌, ℕ, zero, suc, ◌≤◌, List, [], ◌∷◌, length, drop, refl, arith}
use Rattle.page_grammar.specs.Chars.{entity}
use Rattle.page_grammar.specs.Machine.{Stop, whole}
use Rattle.page_read.specs.References.{name_of, char_of}
use Rattle.page_read.proofs.reference.after_named.Goals as goal

-- a name of which something is left isn't whole
some_left : (w : List ℕ) (n x : ℕ) → n ≤ length w → (n ≡ length w → ⊥) → Stop ≡ whole (entity (drop n w) x ∷ [])
some_left [] n x h off = absurd (off (omega (arith, h)))
some_left (y ∷ w) zero x h off = refl
some_left (y ∷ w) (suc n) x h off = some_left w n x (omega (arith, h)) (λ e. off (omega (arith, e)))

pub returns-else-read-name-clause-value : goal.returns-else-read-name-clause-value
returns-else-read-name-clause-value c =
    let off = rw c.name-name.ensures at c.if-read-name.false in
    rw c.if-c-eq59.true (some_left (name_of c.args.entity) c.args.read (char_of c.args.entity) c.requires off)
