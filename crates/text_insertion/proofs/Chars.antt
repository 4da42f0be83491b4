-- A turn of the loop over characters, and its end; and how a value goes in by how many characters it has.
use Rattle.std.proofs.Common.{◌≡◌, ℕ, ◌+◌, ◌<◌, ◌≤◌, ◌≢◌, List, [], ◌∷◌, length, drop, get_or, refl, add-one, drop-cons, arith}
use Rattle.std.proofs.Math.ListN.{drop_of_length-le}
use Rattle.edit_model.specs.Run.{Run, ◌>>=◌, answer, done, for_each}
use Rattle.edit_model.proofs.Steps.{for_each-cons, for_each-nil}
use Rattle.text_insertion.specs.Typing.{insert_char_inside, insert_several, insert_chars}

pub char_turn : (xs : List ℕ) (i : ℕ) (f : ℕ → Run (Unit {0})) → i < length xs → for_each (drop i xs) f ≡ (f (get_or xs i 0) >>= (λ _. for_each (drop (i + 1) xs) f))
char_turn xs i f h = rw (add-one, drop-cons xs i 0, for_each-cons)

pub char_end : (xs : List ℕ) (i : ℕ) (f : ℕ → Run (Unit {0})) → length xs ≤ i → for_each (drop i xs) f ≡ answer tt
char_end xs i f h = rw (drop_of_length-le xs h, for_each-nil)

pub ruleset turns = (char_turn, char_end)

pub several_chars : (xs : List ℕ) → 1 < length xs → insert_chars xs ≡ insert_several xs
unfolding insert_chars
several_chars [] h = absurd (omega arith)
several_chars (c ∷ []) h = absurd (omega arith)
several_chars (c ∷ d ∷ rest) h = refl

pub no_chars : (xs : List ℕ) → length xs ≡ 0 → insert_chars xs ≡ done
unfolding insert_chars
no_chars [] h = refl
no_chars (c ∷ rest) h = absurd (omega arith)

pub one_char : (xs : List ℕ) → length xs ≢ 0 → length xs ≤ 1 → insert_chars xs ≡ insert_char_inside (get_or xs 0 0)
unfolding insert_chars
one_char [] h small = absurd (h refl)
one_char (c ∷ []) h small = refl
one_char (c ∷ d ∷ rest) h small = absurd (omega arith)

pub ruleset counts = (several_chars, no_chars, one_char)
