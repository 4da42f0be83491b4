-- Scanning a text that has no cut: where it leads, and which characters make no difference.
use Rattle.std.proofs.Common.{◌≡◌, ℕ, ◌+◌, ◌<◌, ◌≤◌, Bool, true, false, true≢false, cond, ◌&&◌, List, [], ◌∷◌, ◌++◌, Option, Some, None, refl, sym, ap, ◌∙◌, arith, eqb, fold, ◌-◌, ◌⊎◌, inl, inr}
use Rattle.std.specs.List.{onto_first}
use Rattle.std.specs.Char.{to_ascii_lowercase}
use Rattle.std.proofs.lemmas.Bool.Decides.{nat_tests}
use Rattle.css_value.specs.StyleText.{Nesting, outside, is_outside, is_quote, quote_after, depth_after, after, is_cut, pieces, is_space, trim_start, trim_end, before_trimmed, trimmed, lowered}
use Rattle.css_value.specs.DeclarationList.{is_single}

-- where a text without a cut leads
abbrev pub run : Nesting → List ℕ → Option Nesting
run n [] = Some n
run n (c ∷ text) = cond (is_cut n c) None (run (after n c) text)

abbrev pub then_run : Option Nesting → List ℕ → Option Nesting
then_run None text = None
then_run (Some n) text = run n text

pub run-append : (n : Nesting) (a b : List ℕ) → run n (a ++ b) ≡ then_run (run n a) b
run-append n [] b = refl
run-append n (c ∷ a) b =
    elim (is_cut n c) as (λ x. cond x None (run (after n c) (a ++ b)) ≡ then_run (cond x None (run (after n c) a)) b) [ true ↦ refl | false ↦ run-append (after n c) a b ]

pub run-fold : (n m : Nesting) (text : List ℕ) → run n text ≡ Some m → fold after n text ≡ m
run-fold n m [] h = cc
run-fold n m (c ∷ text) h = split (is_cut n c) h (run-fold (after n c) m text)
  where
    split : (b : Bool) → cond b None (run (after n c) text) ≡ Some m → (run (after n c) text ≡ Some m → fold after (after n c) text ≡ m) → fold after (after n c) text ≡ m
    split true h further = cc
    split false h further = further h

pub run-pieces : (n m : Nesting) (text : List ℕ) → run n text ≡ Some m → pieces n text ≡ text ∷ []
unfolding pieces
run-pieces n m [] h = refl
run-pieces n m (c ∷ text) h = split (is_cut n c) h (run-pieces (after n c) m text)
  where
    split : (b : Bool) → cond b None (run (after n c) text) ≡ Some m → (run (after n c) text ≡ Some m → pieces (after n c) text ≡ text ∷ []) → cond b ([] ∷ pieces outside text) (onto_first c (pieces (after n c) text)) ≡ (c ∷ text) ∷ []
    split true h further = cc
    split false h further = ap (onto_first c) (further h)

cut-at : (n : Nesting) → is_outside n ≡ true → is_cut n 59 ≡ true
unfolding is_cut
cut-at n h = h

pub run-cut : (n m : Nesting) (text rest : List ℕ) → run n text ≡ Some m → is_outside m ≡ true → pieces n (text ++ 59 ∷ rest) ≡ text ∷ pieces outside rest
unfolding pieces
run-cut n m [] rest h is =
    let same : n ≡ m = cc in
    let cut : is_cut n 59 ≡ true = cut-at n (ap is_outside same ∙ is) in
    ap (λ b. cond b ([] ∷ pieces outside rest) (onto_first 59 (pieces (after n 59) rest))) cut
run-cut n m (c ∷ text) rest h is = split (is_cut n c) h (λ k. run-cut (after n c) m text rest k is)
  where
    split : (b : Bool) → cond b None (run (after n c) text) ≡ Some m → (run (after n c) text ≡ Some m → pieces (after n c) (text ++ 59 ∷ rest) ≡ text ∷ pieces outside rest) → cond b ([] ∷ pieces outside (text ++ 59 ∷ rest)) (onto_first c (pieces (after n c) (text ++ 59 ∷ rest))) ≡ (c ∷ text) ∷ pieces outside rest
    split true h further = cc
    split false h further = ap (onto_first c) (further h)

-- pieces that have no cut inside, the first from n on and the others from outside
abbrev pub AreUncut : Nesting → List (List ℕ) → Type 0
AreUncut n [] = Unit {0}
AreUncut n (piece ∷ list) = (run n piece ≡ Some (fold after n piece)) × AreUncut outside list

pub pieces-uncut : (n : Nesting) (text : List ℕ) → AreUncut n (pieces n text)
unfolding pieces
pieces-uncut n [] = (refl, tt)
pieces-uncut n (c ∷ text) = split (is_cut n c) refl (pieces-uncut outside text) (pieces (after n c) text) (pieces-uncut (after n c) text)
  where
    split : (b : Bool) → is_cut n c ≡ b → AreUncut outside (pieces outside text) → (list : List (List ℕ)) → AreUncut (after n c) list → AreUncut n (cond b ([] ∷ pieces outside text) (onto_first c list))
    split true h cut list uncut = (refl, cut)
    split false h cut [] uncut = (ap (λ b. cond b None (Some (after n c))) h, tt)
    split false h cut (piece ∷ list) uncut = (ap (λ b. cond b None (run (after n c) piece)) h ∙ uncut.0, uncut.1)

pub pieces-some : (n : Nesting) (text : List ℕ) → (p : List ℕ) × ((list : List (List ℕ)) × (pieces n text ≡ p ∷ list))
unfolding pieces
pieces-some n [] = ([], ([], refl))
pieces-some n (c ∷ text) = split (is_cut n c) (pieces (after n c) text)
  where
    split : (b : Bool) (list : List (List ℕ)) → (p : List ℕ) × ((rest : List (List ℕ)) × (cond b ([] ∷ pieces outside text) (onto_first c list) ≡ p ∷ rest))
    split true list = ([], (pieces outside text, refl))
    split false [] = (c ∷ [], ([], refl))
    split false (piece ∷ list) = (c ∷ piece, (list, refl))

pub single-run : (n : Nesting) (text : List ℕ) → is_single (pieces n text) ≡ true → run n text ≡ Some (fold after n text)
unfolding pieces
single-run n [] h = refl
single-run n (c ∷ text) h = split (is_cut n c) h (pieces-some outside text) (pieces-some (after n c) text) (single-run (after n c) text)
  where
    split : (b : Bool) → is_single (cond b ([] ∷ pieces outside text) (onto_first c (pieces (after n c) text))) ≡ true → (p : List ℕ) × ((list : List (List ℕ)) × (pieces outside text ≡ p ∷ list)) → (p : List ℕ) × ((list : List (List ℕ)) × (pieces (after n c) text ≡ p ∷ list)) → (is_single (pieces (after n c) text) ≡ true → run (after n c) text ≡ Some (fold after (after n c) text)) → cond b None (run (after n c) text) ≡ Some (fold after (after n c) text)
    split true h some other further = absurd (true≢false (sym h ∙ ap (λ list. is_single ([] ∷ list)) some.1.1))
    split false h some other further = further (alone other.0 other.1.0 (pieces (after n c) text) other.1.1 h)
      where
        alone : (p : List ℕ) (rest list : List (List ℕ)) → list ≡ p ∷ rest → is_single (onto_first c list) ≡ true → is_single list ≡ true
        alone p [] list e k = ap is_single e
        alone p (q ∷ rest) list e k = absurd (true≢false (sym k ∙ ap (λ x. is_single (onto_first c x)) e))

-- a character that neither cuts, nor is a quote mark or a parenthesis
pub record IsPlain (c : ℕ) : Type 0 where
  pub no_quote : is_quote c ≡ false
  pub no_opening : eqb c 40 ≡ false
  pub no_closing : eqb c 41 ≡ false
  pub no_cut : eqb c 59 ≡ false

pub plain-after : (c : ℕ) → IsPlain c → (n : Nesting) → after n c ≡ n
unfolding after
plain-after c plain n = ap (λ b. cond b (record { quote = quote_after n.quote c; depth = n.depth }) (record { quote = n.quote; depth = depth_after n.quote n.depth c })) plain.no_quote ∙ ap (λ d. record { quote = n.quote; depth = d }) (same n.quote n.depth)
  where
    same : (q : Option ℕ) (depth : ℕ) → depth_after q depth c ≡ depth
    same None depth = ap (λ b. cond b (depth + 1) (cond (eqb c 41) (depth - 1) depth)) plain.no_opening ∙ ap (λ b. cond b (depth - 1) depth) plain.no_closing
    same (Some q) depth = refl

pub plain-cut : (c : ℕ) → IsPlain c → (n : Nesting) → is_cut n c ≡ false
unfolding is_cut
plain-cut c plain n = ap (λ b. b && is_outside n) plain.no_cut

pub plain-run : (c : ℕ) → IsPlain c → (n : Nesting) (text : List ℕ) → run n (c ∷ text) ≡ run n text
plain-run c plain n text = ap (λ b. cond b None (run (after n c) text)) (plain-cut c plain n) ∙ ap (λ m. run m text) (plain-after c plain n)

pub space-plain : (c : ℕ) → is_space c ≡ true → IsPlain c
space-plain c h = record {
  no_quote = grind (arith, nat_tests);
  no_opening = grind (arith, nat_tests);
  no_closing = grind (arith, nat_tests);
  no_cut = grind (arith, nat_tests);
}

letter-plain : (c : ℕ) → 65 ≤ c → c < 123 → IsPlain c
letter-plain c low high = record {
  no_quote = grind (arith, nat_tests);
  no_opening = grind (arith, nat_tests);
  no_closing = grind (arith, nat_tests);
  no_cut = grind (arith, nat_tests);
}

-- a character in lower case is the same, or both are letters
lower-cases : (c : ℕ) → (to_ascii_lowercase c ≡ c) ⊎ ((to_ascii_lowercase c ≡ c + 32) × (65 ≤ c) × (c < 91))
lower-cases c = grind (arith, nat_tests)

pub lower-run : (c : ℕ) (n : Nesting) (text : List ℕ) → run n (to_ascii_lowercase c ∷ text) ≡ run n (c ∷ text)
lower-run c n text = split (lower-cases c)
  where
    split : (to_ascii_lowercase c ≡ c) ⊎ ((to_ascii_lowercase c ≡ c + 32) × (65 ≤ c) × (c < 91)) → run n (to_ascii_lowercase c ∷ text) ≡ run n (c ∷ text)
    split (inl same) = ap (λ x. run n (x ∷ text)) same
    split (inr letter) = ap (λ x. run n (x ∷ text)) letter.0 ∙ plain-run (c + 32) (letter-plain (c + 32) (omega arith) (omega arith)) n text ∙ sym (plain-run c (letter-plain c letter.1 (omega arith)) n text)

pub lower-space : (c : ℕ) → is_space (to_ascii_lowercase c) ≡ is_space c
lower-space c = split (lower-cases c)
  where
    no-space : (c : ℕ) → 33 ≤ c → is_space c ≡ false
    no-space c h = grind (arith, nat_tests)

    split : (to_ascii_lowercase c ≡ c) ⊎ ((to_ascii_lowercase c ≡ c + 32) × (65 ≤ c) × (c < 91)) → is_space (to_ascii_lowercase c) ≡ is_space c
    split (inl same) = ap is_space same
    split (inr letter) = ap is_space letter.0 ∙ no-space (c + 32) (omega arith) ∙ sym (no-space c (omega arith))

pub lower-colon : (c : ℕ) → eqb (to_ascii_lowercase c) 58 ≡ eqb c 58
lower-colon c = grind (arith, nat_tests)

pub lower-lower : (c : ℕ) → to_ascii_lowercase (to_ascii_lowercase c) ≡ to_ascii_lowercase c
lower-lower c = grind (arith, nat_tests)

pub run-lowered : (n : Nesting) (text : List ℕ) → run n (lowered text) ≡ run n text
run-lowered n [] = refl
run-lowered n (c ∷ text) =
    lower-run c n (lowered text) ∙ ap (λ x. cond (is_cut n c) None x) (run-lowered (after n c) text)

run-trim_start : (n : Nesting) (text : List ℕ) → run n (trim_start text) ≡ run n text
run-trim_start n [] = refl
run-trim_start n (c ∷ text) = split (is_space c) refl (run-trim_start n text)
  where
    split : (b : Bool) → is_space c ≡ b → run n (trim_start text) ≡ run n text → run n (cond b (trim_start text) (c ∷ text)) ≡ run n (c ∷ text)
    split true h further = further ∙ sym (plain-run c (space-plain c h) n text)
    split false h further = refl

run-before : (n : Nesting) (c : ℕ) (text : List ℕ) → run n (before_trimmed c text) ≡ run n (c ∷ text)
run-before n c [] = split (is_space c) refl
  where
    split : (b : Bool) → is_space c ≡ b → run n (cond b [] (c ∷ [])) ≡ run n (c ∷ [])
    split true h = sym (plain-run c (space-plain c h) n [])
    split false h = refl
run-before n c (d ∷ text) = refl

run-trim_end : (n : Nesting) (text : List ℕ) → run n (trim_end text) ≡ run n text
run-trim_end n [] = refl
run-trim_end n (c ∷ text) = run-before n c (trim_end text) ∙ ap (λ x. cond (is_cut n c) None x) (run-trim_end (after n c) text)

pub run-trimmed : (n : Nesting) (text : List ℕ) → run n (trimmed text) ≡ run n text
unfolding trimmed
run-trimmed n text = run-trim_end n (trim_start text) ∙ run-trim_start n text
