-- The length of the first piece of a text, and the pieces after it.
use Rattle.std.proofs.Common.{◌≡◌, ℕ, suc, ◌+◌, ◌-◌, ◌<◌, ◌≤◌, Bool, true, false, cond, List, [], ◌∷◌, ◌++◌, length, take, drop, get_or, refl, sym, ap, ◌∙◌, arith, bytes_eq, eqb, ◌&&◌}
use Rattle.std.specs.List.{onto_first, cons_option, filter_map}
use Rattle.std.specs.Char.{to_ascii_lowercase}
use Rattle.std.proofs.lemmas.List.{drop_more, take_more}
use Rattle.std.proofs.lemmas.Bool.Decides.{nat_tests}
use Rattle.css_value.specs.StyleText.{Nesting, outside, after, is_cut, is_closed, named, declaration_of, trimmed, pieces, stated, lowered, trim_end, is_space, before_trimmed}

-- how many characters stand before the first cut
abbrev pub first_len : Nesting → List ℕ → ℕ
first_len n [] = 0
first_len n (c ∷ text) = cond (is_cut n c) 0 (suc (first_len (after n c) text))

pub first_len-le : (n : Nesting) (text : List ℕ) → first_len n text ≤ length text
first_len-le n [] = omega arith
first_len-le n (c ∷ text) =
    let shorter : first_len (after n c) text ≤ length text = first_len-le (after n c) text in
    elim (is_cut n c) as (λ b. cond b 0 (suc (first_len (after n c) text)) ≤ suc (length text)) [ true ↦ omega arith | false ↦ omega arith ]

-- a piece that ends at a cut
pub pieces-cut : (n : Nesting) (text : List ℕ) → first_len n text < length text → pieces n text ≡ take (first_len n text) text ∷ pieces outside (drop (suc (first_len n text)) text)
unfolding pieces
pieces-cut n [] h = absurd (omega arith)
pieces-cut n (c ∷ text) h = split (is_cut n c) h (pieces-cut (after n c) text)
  where
    split : (b : Bool) → cond b 0 (suc (first_len (after n c) text)) < suc (length text) → (first_len (after n c) text < length text → pieces (after n c) text ≡ take (first_len (after n c) text) text ∷ pieces outside (drop (suc (first_len (after n c) text)) text)) → cond b ([] ∷ pieces outside text) (onto_first c (pieces (after n c) text)) ≡ take (cond b 0 (suc (first_len (after n c) text))) (c ∷ text) ∷ pieces outside (drop (suc (cond b 0 (suc (first_len (after n c) text)))) (c ∷ text))
    split true h further = refl
    split false h further = ap (onto_first c) (further (omega arith))

-- a text with no cut
pub pieces-whole : (n : Nesting) (text : List ℕ) → length text ≤ first_len n text → pieces n text ≡ text ∷ []
unfolding pieces
pieces-whole n [] h = refl
pieces-whole n (c ∷ text) h = split (is_cut n c) h (pieces-whole (after n c) text)
  where
    split : (b : Bool) → suc (length text) ≤ cond b 0 (suc (first_len (after n c) text)) → (length text ≤ first_len (after n c) text → pieces (after n c) text ≡ text ∷ []) → cond b ([] ∷ pieces outside text) (onto_first c (pieces (after n c) text)) ≡ (c ∷ text) ∷ []
    split true h further = absurd (omega arith)
    split false h further = ap (onto_first c) (further (omega arith))

-- a scan that meets a cut has found the first piece
pub cut-here : (n : Nesting) (text : List ℕ) (i c : ℕ) → i < length text → c ≡ get_or text i c → is_cut n c ≡ true → i + first_len n (drop i text) ≡ first_len outside text → pieces outside text ≡ take i text ∷ pieces outside (drop (i + 1) text)
cut-here n text i c h is cut left =
    let none : first_len n (drop i text) ≡ 0 = ap (first_len n) (drop_more text i c h) ∙ ap (λ x. cond (is_cut n x) 0 (suc (first_len (after n x) (drop (i + 1) text)))) (sym is) ∙ ap (λ b. cond b 0 (suc (first_len (after n c) (drop (i + 1) text)))) cut in
    let len : first_len outside text ≡ i = omega arith in
    let next : suc i ≡ i + 1 = omega arith in
    pieces-cut outside text (omega arith) ∙ ap (λ k. take k text ∷ pieces outside (drop (suc k) text)) len ∙ ap (λ k. take i text ∷ pieces outside (drop k text)) next

-- a scan that met no cut has found the only piece
pub cut-nowhere : (n : Nesting) (text : List ℕ) (i : ℕ) → length text ≤ i → i + first_len n (drop i text) ≡ first_len outside text → pieces outside text ≡ text ∷ []
cut-nowhere n text i h left = pieces-whole outside text (omega arith)

-- the declarations of a text are those of its first piece and of the rest
pub stated-cut : (text piece rest : List ℕ) → pieces outside text ≡ piece ∷ pieces outside rest → stated text ≡ cons_option (declaration_of piece) (stated rest)
unfolding stated
stated-cut text piece rest h = ap (filter_map declaration_of) h

pub stated-nil : stated [] ≡ []
unfolding stated pieces declaration_of is_closed named trimmed
stated-nil = refl

pub stated-empty : (text : List ℕ) → eqb (length text) 0 ≡ true → stated text ≡ []
stated-empty [] h = stated-nil
stated-empty (c ∷ text) h = absurd (not-zero (length text) h)
  where
    not-zero : (n : ℕ) → eqb (suc n) 0 ≡ true → ⊥
    not-zero n h = grind (arith, nat_tests)

pub stated-whole : (text piece : List ℕ) → pieces outside text ≡ piece ∷ [] → stated text ≡ cons_option (declaration_of piece) (stated [])
unfolding stated
stated-whole text piece h = ap (filter_map declaration_of) h ∙ ap (cons_option (declaration_of piece)) (sym stated-nil)

-- a last character is trimmed or ends the trimmed text
pub trim_end-push : (x : ℕ) (text : List ℕ) → trim_end (text ++ x ∷ []) ≡ cond (is_space x) (trim_end text) (text ++ x ∷ [])
trim_end-push x [] = refl
trim_end-push x (c ∷ text) = ap (before_trimmed c) (trim_end-push x text) ∙ split (is_space x) text
  where
    split : (b : Bool) (text : List ℕ) → before_trimmed c (cond b (trim_end text) (text ++ x ∷ [])) ≡ cond b (before_trimmed c (trim_end text)) (c ∷ (text ++ x ∷ []))
    split true text = refl
    split false [] = refl
    split false (d ∷ text) = refl

pub trim-space : (text : List ℕ) (end x : ℕ) → 0 < end → end ≤ length text → x ≡ get_or text (end - 1) x → is_space x ≡ true → trim_end (take (end - 1) text) ≡ trim_end (take end text)
trim-space text end x h k is space =
    let last : end ≡ (end - 1) + 1 = omega arith in
    sym (ap (λ n. trim_end (take n text)) last ∙ ap trim_end (take_more text (end - 1) x (omega arith)) ∙ ap (λ y. trim_end (take (end - 1) text ++ y ∷ [])) (sym is) ∙ trim_end-push x (take (end - 1) text) ∙ ap (λ b. cond b (trim_end (take (end - 1) text)) (take (end - 1) text ++ x ∷ [])) space)

pub trim-stop : (text : List ℕ) (end x : ℕ) → 0 < end → end ≤ length text → x ≡ get_or text (end - 1) x → is_space x ≡ false → take end text ≡ trim_end (take end text)
trim-stop text end x h k is space =
    let last : end ≡ (end - 1) + 1 = omega arith in
    let all : take end text ≡ take (end - 1) text ++ x ∷ [] = ap (λ n. take n text) last ∙ take_more text (end - 1) x (omega arith) ∙ ap (λ y. take (end - 1) text ++ y ∷ []) (sym is) in
    all ∙ sym (ap trim_end all ∙ trim_end-push x (take (end - 1) text) ∙ ap (λ b. cond b (trim_end (take (end - 1) text)) (take (end - 1) text ++ x ∷ [])) space)

-- two texts compared from a place on
pub named-more : (name text : List ℕ) (i : ℕ) → i < length name → i < length text → bytes_eq (drop i name) (lowered (drop i text)) ≡ (eqb (get_or name i 0) (to_ascii_lowercase (get_or text i 0)) && bytes_eq (drop (i + 1) name) (lowered (drop (i + 1) text)))
named-more name text i h k = ap (λ x. bytes_eq x (lowered (drop i text))) (drop_more name i 0 h) ∙ ap (λ y. bytes_eq (get_or name i 0 ∷ drop (i + 1) name) (lowered y)) (drop_more text i 0 k)

pub alike-more : (name text : List ℕ) (i : ℕ) → i < length name → i < length text → bytes_eq (lowered (drop i name)) (lowered (drop i text)) ≡ (eqb (to_ascii_lowercase (get_or name i 0)) (to_ascii_lowercase (get_or text i 0)) && bytes_eq (lowered (drop (i + 1) name)) (lowered (drop (i + 1) text)))
alike-more name text i h k = ap (λ x. bytes_eq (lowered x) (lowered (drop i text))) (drop_more name i 0 h) ∙ ap (λ y. bytes_eq (lowered (get_or name i 0 ∷ drop (i + 1) name)) (lowered y)) (drop_more text i 0 k)
