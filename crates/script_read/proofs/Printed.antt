-- A printed text is spelled by one piece for each character.
use Rattle.std.proofs.Common.{◌≡◌, ℕ, Bool, true, false, cond, ◌==◌, List, [], ◌∷◌, ◌++◌, map, codes, refl, sym, ap, ◌∙◌, lit<, lit≤}
use Rattle.std.specs.Bool.{Decides}
use Rattle.std.specs.List.{flat_map}
use Rattle.std.proofs.Math.Utf8.{scalar, scalars}
use Rattle.std.proofs.lemmas.Bool.Decides.{Decides-eqb}
use Rattle.escaped_text.specs.Escaped.{escape_of, escaped}
use Rattle.script_read.specs.Acts.{Piece, Itself, LineFeed, Tab, Backslash, Quote, Return, Scalar, spelling, meaning, IsPiece, ArePieces, SpellsChars}
use Rattle.script_read.specs.Printing.{IsPlain, TextsReadBack, ValuesReadBack}
use Rattle.script_read.proofs.Tests.{some-is, and-true}
use Rattle.script_read.proofs.Values.{spelled_back}

-- a piece that prints this text and means this character
record Prints (printed : Bool) (c : ℕ) (text : List ℕ) : Type 0 where
  pub piece : Piece
  pub is : IsPiece printed piece
  pub spells : spelling piece ≡ text
  pub means : meaning piece ≡ c

by_test : (printed : Bool) (c k : ℕ) (holds lacks : List ℕ) → (c ≡ k → Prints printed c holds) → ((c ≡ k → ⊥) → Prints printed c lacks) → Prints printed c (cond (c == k) holds lacks)
by_test printed c k holds lacks a b =
    elim (c == k) as (λ (t : Bool). Decides t (c ≡ k) → Prints printed c (cond t holds lacks)) [
      | true ↦ λ d. a (d.0 refl)
      | false ↦ λ d. b (λ e. let f : false ≡ true = d.1 e in absurd (cc))
    ] (Decides-eqb c k)

prints : (printed : Bool) (c : ℕ) → scalar c ≡ true → (c ≡ 34 → printed ≡ true) → (c ≡ 13 → printed ≡ true) → Prints printed c (escape_of c)
prints printed c is quote return =
    by_test printed c 10 _ _ (λ e. record { piece = LineFeed; is = tt; spells = refl; means = sym e })
    (λ _. by_test printed c 9 _ _ (λ e. record { piece = Tab; is = tt; spells = refl; means = sym e })
    (λ _. by_test printed c 92 _ _ (λ e. record { piece = Backslash; is = tt; spells = refl; means = sym e })
    (λ other. by_test printed c 34 _ _ (λ e. record { piece = Quote; is = quote e; spells = refl; means = sym e })
    (λ _. by_test printed c 13 _ _ (λ e. record { piece = Return; is = return e; spells = refl; means = sym e })
    (λ _. by_test printed c 160 _ _ (λ e. record { piece = Scalar (codes "a0"); is = (lit< tt, lit≤ tt, refl, refl); spells = refl; means = sym e })
    (λ _. record { piece = Itself c; is = (is, other); spells = refl; means = refl }))))))

record PrintsAll (printed : Bool) (text : List ℕ) : Type 0 where
  pub pieces : List Piece
  pub are : ArePieces printed pieces
  pub spells : flat_map spelling pieces ≡ flat_map escape_of text
  pub means : map meaning pieces ≡ text

first_prints : (printed : Bool) (c : ℕ) (text : List ℕ) → Prints printed c (escape_of c) → PrintsAll printed text → PrintsAll printed (c ∷ text)
first_prints printed c text p ps = record {
  pieces = p.piece ∷ ps.pieces;
  are = (p.is, ps.are);
  spells = ap (λ x. x ++ flat_map spelling ps.pieces) p.spells ∙ ap (λ x. escape_of c ++ x) ps.spells;
  means = ap (λ x. x ∷ map meaning ps.pieces) p.means ∙ ap (λ x. c ∷ x) ps.means;
}

texts_print : (text : List ℕ) → scalars text ≡ true → PrintsAll true text
texts_print [] all = record { pieces = []; are = tt; spells = refl; means = refl }
texts_print (c ∷ cs) all =
    let h = and-true (scalar c) (scalars cs) all in
    first_prints true c cs (prints true c h.0 (λ _. refl) (λ _. refl)) (texts_print cs h.1)

values_print : (text : List ℕ) → scalars text ≡ true → IsPlain text → PrintsAll false text
values_print [] all plain = record { pieces = []; are = tt; spells = refl; means = refl }
values_print (c ∷ cs) all plain =
    let h = and-true (scalar c) (scalars cs) all in
    first_prints false c cs (prints false c h.0 (λ e. absurd (plain.0 e)) (λ e. absurd (plain.1 e))) (values_print cs h.1 plain.2)

reads_back : (printed : Bool) (text : List ℕ) → PrintsAll printed text
    → SpellsChars printed (escaped text) text × ((chars : List ℕ) → SpellsChars printed (escaped text) chars → chars ≡ text)
unfolding escaped
reads_back printed text p =
    let spells : SpellsChars printed (escaped text) text = (p.pieces, p.are, sym p.spells, sym p.means) in
    (spells, λ chars also. some-is (sym (spelled_back printed (escaped text) chars also) ∙ spelled_back printed (escaped text) text spells))

pub texts_read_back : TextsReadBack
texts_read_back text all = reads_back true text (texts_print text all)

pub values_read_back : ValuesReadBack
values_read_back text all plain = reads_back false text (values_print text all plain)
