-- `block_in` decides the grammar of blocks.
use Rattle.std.proofs.Common.{◌+◌, ◌<◌, ◌≤◌, ◌≡◌, ◌≢◌, ◌↔◌, ℕ, suc, Bool, true, false, ◌&&◌, cond, nat_eq, List, [], ◌∷◌, ◌++◌, length, take, drop, codes, Option, Some, None, refl, ap, subst, sym, ◌∙◌, arith}
use Rattle.std.specs.List.{starts_with}
use Rattle.std.specs.Option.{option_map}
use Rattle.std.specs.Str.{bytes_eq}
use Rattle.std.proofs.lemmas.List.{take-append-drop, take_all}
use Rattle.std.proofs.lemmas.List.Elements.{All-cons, All-nil}
use Rattle.std.proofs.lemmas.Slice.Eq.{bytes_eq-Decides}
use Rattle.edit_session.specs.Block.{Block, NoOpening, NoClosing, Whole, Cut, IsOpening, NoneIs, IsBlock, is_word, opening_word, cut_at, with_line, block_cut, block_opened, block_in, block_of, lines_of, ActsWithin}
use Rattle.edit_session.specs.declared.block.PageBlock.{PageBlock}
use Rattle.edit_session.specs.declared.block.PageBlock.TheVariants as parted

-- ---- the opening line

begins : (line name : List ℕ) → starts_with nat_eq line name ≡ true → line ≡ name ++ drop (length name) line
begins line name is =
    let e : name ≡ take (length name) line = (bytes_eq-Decides name (take (length name) line)).0 is in
    subst (λ h. line ≡ h ++ drop (length name) line) (sym e) (sym (take-append-drop (length name) line))

opening-by : (line word : List ℕ) (a b : Bool) → (a ≡ true → line ≡ codes "page <<" ++ drop 7 line) → is_word (drop 7 line) ≡ b
    → cond (a && b) (Some (drop 7 line)) None ≡ Some word → IsOpening line word
opening-by line word true true starts is e =
    let f : drop 7 line ≡ word = cc in
    subst (λ (w : List ℕ). IsOpening line w) f (starts refl, is)
opening-by line word true false starts is e = absurd (cc)
opening-by line word false b starts is e = absurd (cc)

opening-is : (line word : List ℕ) → opening_word line ≡ Some word → IsOpening line word
opening-is line word e = opening-by line word (starts_with nat_eq line (codes "page <<")) (is_word (drop 7 line)) (begins line (codes "page <<")) refl e

opening-back : (line word : List ℕ) → IsOpening line word → opening_word line ≡ Some word
opening-back line word (is, word-is) = rw is (rw word-is refl)

-- ---- the closing line

NoneIs-more : (word line : List ℕ) (lines : List (List ℕ)) → bytes_eq line word ≡ false → NoneIs word lines → NoneIs word (line ∷ lines)
NoneIs-more word line lines other none =
    All-cons (λ l. l ≢ word) line lines (λ same. let e : bytes_eq line word ≡ true = (bytes_eq-Decides line word).1 same in absurd (cc)) none

NoneIs-first : (word line : List ℕ) (lines : List (List ℕ)) → NoneIs word (line ∷ lines) → bytes_eq line word ≡ false
NoneIs-first word line lines none =
    let other : line ≢ word = none 0 line (omega arith) in
    elim (bytes_eq line word) as (λ (b : Bool). bytes_eq line word ≡ b → b ≡ false) [
      | true ↦ λ e. absurd (other ((bytes_eq-Decides line word).0 e))
      | false ↦ λ e. refl
    ] refl

NoneIs-rest : (word line : List ℕ) (lines : List (List ℕ)) → NoneIs word (line ∷ lines) → NoneIs word lines
NoneIs-rest word line lines none k d lt = none (suc k) d (omega arith)

-- what a cut says of the lines
pub record IsCut (word : List ℕ) (lines : List (List ℕ)) (cut : Cut) : Type 0 where
  pub lines-are : lines ≡ cut.before ++ word ∷ cut.after
  pub none : NoneIs word cut.before

abbrev CutTells : List ℕ → List (List ℕ) → Option Cut → Type 0
CutTells word lines None = NoneIs word lines
CutTells word lines (Some cut) = IsCut word lines cut

cut-more : (word line : List ℕ) (lines : List (List ℕ)) (cut : Option Cut) → bytes_eq line word ≡ false → CutTells word lines cut
    → CutTells word (line ∷ lines) (option_map (with_line line) cut)
cut-more word line lines None other tells = NoneIs-more word line lines other tells
cut-more word line lines (Some cut) other tells = record {
  lines-are = ap (λ ls. line ∷ ls) tells.lines-are;
  none = NoneIs-more word line cut.before other tells.none;
}

cut-tells : (word : List ℕ) (lines : List (List ℕ)) → CutTells word lines (cut_at word lines)
cut-tells word [] = All-nil (λ l. l ≢ word)
cut-tells word (line ∷ lines) =
    let tail = cut-tells word lines in
    elim (bytes_eq line word) as (λ (b : Bool). bytes_eq line word ≡ b
    → CutTells word (line ∷ lines) (cond b (Some (record { before = []; after = lines })) (option_map (with_line line) (cut_at word lines)))) [
      | true ↦ λ e. record { lines-are = ap (λ l. l ∷ lines) ((bytes_eq-Decides line word).0 e); none = All-nil (λ l. l ≢ word) }
      | false ↦ λ e. cut-more word line lines (cut_at word lines) e tail
    ] refl

cut-none : (word : List ℕ) (lines : List (List ℕ)) → NoneIs word lines → cut_at word lines ≡ None
cut-none word [] none = refl
cut-none word (line ∷ lines) none = rw (NoneIs-first word line lines none, cut-none word lines (NoneIs-rest word line lines none)) refl

cut-back : (word : List ℕ) (before after : List (List ℕ)) → NoneIs word before → cut_at word (before ++ word ∷ after) ≡ Some (record { before = before; after = after })
cut-back word [] after none = rw ((bytes_eq-Decides word word).1 refl) refl
cut-back word (line ∷ before) after none =
    rw (NoneIs-first word line before none, cut-back word before after (NoneIs-rest word line before none)) refl

-- ---- the block

block-cut : (line word : List ℕ) (rest : List (List ℕ)) (cut : Option Cut) → IsOpening line word → CutTells word rest cut → IsBlock (line ∷ rest) (block_cut cut)
block-cut line word rest None opens none = (line, word, rest, refl, opens, none)
block-cut line word rest (Some cut) opens tells =
    (line, word, cut.before, ap (λ ls. line ∷ ls) tells.lines-are, opens, tells.none, refl)

block-opened : (line : List ℕ) (rest : List (List ℕ)) (opened : Option (List ℕ)) → opening_word line ≡ opened → IsBlock (line ∷ rest) (block_opened opened rest)
block-opened line rest None not = λ l word r e opens.
    let same : l ≡ line = cc in
    let back : opening_word l ≡ Some word = opening-back l word opens in
    let here : opening_word line ≡ Some word = subst (λ (x : List ℕ). opening_word x ≡ Some word) same back in
    absurd (let off : None ≡ Some word = sym not ∙ here in cc)
block-opened line rest (Some word) is = block-cut line word rest (cut_at word rest) (opening-is line word is) (cut-tells word rest)

block-is : (lines : List (List ℕ)) → IsBlock lines (block_in lines)
block-is [] = λ l word r e opens. absurd (cc)
block-is (line ∷ rest) = block-opened line rest (opening_word line) refl

none-opens : (line : List ℕ) (rest : List (List ℕ)) (opened : Option (List ℕ)) → opening_word line ≡ opened → IsBlock (line ∷ rest) NoOpening → block_opened opened rest ≡ NoOpening
none-opens line rest None e is = refl
none-opens line rest (Some word) e is = absurd (is line word rest refl (opening-is line word e))

block-back : (lines : List (List ℕ)) (block : Block) → IsBlock lines block → block_in lines ≡ block
block-back [] NoOpening is = refl
block-back (line ∷ rest) NoOpening is = none-opens line rest (opening_word line) refl is
block-back lines NoClosing (line, word, rest, e, opens, none) =
    rw e (rw (opening-back line word opens) (rw (cut-none word rest none) refl))
block-back lines (Whole page acts) (line, word, before, e, opens, none, joined) =
    rw e (rw (opening-back line word opens) (rw (cut-back word before acts none) (ap (λ p. Whole p acts) (sym joined))))

pub grammar_of : (b : Block) (lines : List (List ℕ)) → b ≡ block_in lines → (block : Block) → (b ≡ block) ↔ IsBlock lines block
grammar_of b lines is block =
    ((λ e. subst (λ (x : Block). IsBlock lines x) (sym is ∙ e) (block-is lines)), (λ in_it. is ∙ block-back lines block in_it))

-- ---- the two ways of reading

pub opened-is : (input : List ℕ) (end : ℕ) (word lines : List ℕ) (b : Block)
    → (0 < length input → lines_of input ≡ take end input ∷ lines_of (drop (end + 1) input)) → Some word ≡ opening_word (take end input)
    → lines ≡ drop (end + 1) input → b ≡ block_cut (cut_at word (lines_of lines)) → b ≡ block_of input
opened-is [] end word lines b first opens lines-are is =
    let none : Some word ≡ opening_word [] = subst (λ (t : List ℕ). Some word ≡ opening_word t) (take_all end [] (omega arith)) opens in absurd (cc)
opened-is (x ∷ xs) end word lines b first opens lines-are is =
    let parts = first (omega arith) in
    is ∙ sym (ap block_in parts ∙ (ap (λ o. block_opened o (lines_of (drop (end + 1) (x ∷ xs)))) (sym opens)
    ∙ ap (λ t. block_cut (cut_at word (lines_of t))) (sym lines-are)))

pub unopened-is : (input : List ℕ) (end : ℕ)
    → (0 < length input → lines_of input ≡ take end input ∷ lines_of (drop (end + 1) input)) → None ≡ opening_word (take end input) → NoOpening ≡ block_of input
unopened-is [] end first opens = refl
unopened-is (x ∷ xs) end first opens =
    let parts = first (omega arith) in
    sym (ap block_in parts ∙ ap (λ o. block_opened o (lines_of (drop (end + 1) (x ∷ xs)))) (sym opens))

-- the acts of a part of the input
pub within_longer : (b : PageBlock) (m n : ℕ) → m ≤ n → ActsWithin m b → ActsWithin n b
within_longer parted.NoOpening m n le within = tt
within_longer parted.NoClosing m n le within = tt
within_longer (parted.Whole page acts) m n le within = omega (arith, le, within)
