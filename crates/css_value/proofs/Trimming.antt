-- Trimming and lower case, once and again.
use Rattle.std.proofs.Common.{◌≡◌, ℕ, Bool, true, false, true≢false, cond, List, [], ◌∷◌, ◌++◌, refl, sym, ap, ◌∙◌, eqb}
use Rattle.std.specs.Char.{to_ascii_lowercase}
use Rattle.std.proofs.lemmas.Bool.{eqb-true}
use Rattle.css_value.specs.StyleText.{is_space, trim_start, trim_end, before_trimmed, trimmed, lowered, before_colon, after_colon, is_empty}
use Rattle.css_value.proofs.Passing.{lower-space, lower-colon, lower-lower}

start-before : (c : ℕ) → is_space c ≡ false → (text : List ℕ) → trim_start (before_trimmed c text) ≡ before_trimmed c text
start-before c h [] = ap (λ b. trim_start (cond b [] (c ∷ []))) h ∙ ap (λ b. cond b [] (c ∷ [])) h ∙ sym (ap (λ b. cond b [] (c ∷ [])) h)
start-before c h (d ∷ text) = ap (λ b. cond b (trim_start (d ∷ text)) (c ∷ d ∷ text)) h

start-end : (text : List ℕ) → trim_start (trim_end (trim_start text)) ≡ trim_end (trim_start text)
start-end [] = refl
start-end (c ∷ text) = split (is_space c) refl (start-end text)
  where
    split : (b : Bool) → is_space c ≡ b → trim_start (trim_end (trim_start text)) ≡ trim_end (trim_start text) → trim_start (trim_end (cond b (trim_start text) (c ∷ text))) ≡ trim_end (cond b (trim_start text) (c ∷ text))
    split true h further = further
    split false h further = start-before c h (trim_end text)

end-before : (c : ℕ) (text : List ℕ) → trim_end text ≡ text → trim_end (before_trimmed c text) ≡ before_trimmed c text
end-before c [] h = split (is_space c) refl
  where
    split : (b : Bool) → is_space c ≡ b → trim_end (cond b [] (c ∷ [])) ≡ cond b [] (c ∷ [])
    split true h = refl
    split false h = ap (λ b. cond b [] (c ∷ [])) h
end-before c (d ∷ text) h = ap (before_trimmed c) h

end-end : (text : List ℕ) → trim_end (trim_end text) ≡ trim_end text
end-end [] = refl
end-end (c ∷ text) = end-before c (trim_end text) (end-end text)

pub trimmed-trimmed : (text : List ℕ) → trimmed (trimmed text) ≡ trimmed text
unfolding trimmed
trimmed-trimmed text = ap trim_end (start-end text) ∙ end-end (trim_start text)

pub trimmed-space : (text : List ℕ) → trimmed (32 ∷ text) ≡ trimmed text
unfolding trimmed
trimmed-space text = refl

start-lowered : (text : List ℕ) → trim_start (lowered text) ≡ lowered (trim_start text)
start-lowered [] = refl
start-lowered (c ∷ text) = ap (λ b. cond b (trim_start (lowered text)) (to_ascii_lowercase c ∷ lowered text)) (lower-space c) ∙ split (is_space c) (start-lowered text)
  where
    split : (b : Bool) → trim_start (lowered text) ≡ lowered (trim_start text) → cond b (trim_start (lowered text)) (to_ascii_lowercase c ∷ lowered text) ≡ lowered (cond b (trim_start text) (c ∷ text))
    split true further = further
    split false further = refl

before-lowered : (c : ℕ) (text : List ℕ) → before_trimmed (to_ascii_lowercase c) (lowered text) ≡ lowered (before_trimmed c text)
before-lowered c [] = ap (λ b. cond b [] (to_ascii_lowercase c ∷ [])) (lower-space c) ∙ split (is_space c)
  where
    split : (b : Bool) → cond b [] (to_ascii_lowercase c ∷ []) ≡ lowered (cond b [] (c ∷ []))
    split true = refl
    split false = refl
before-lowered c (d ∷ text) = refl

end-lowered : (text : List ℕ) → trim_end (lowered text) ≡ lowered (trim_end text)
end-lowered [] = refl
end-lowered (c ∷ text) = ap (before_trimmed (to_ascii_lowercase c)) (end-lowered text) ∙ before-lowered c (trim_end text)

pub trimmed-lowered : (text : List ℕ) → trimmed (lowered text) ≡ lowered (trimmed text)
unfolding trimmed
trimmed-lowered text = ap trim_end (start-lowered text) ∙ end-lowered (trim_start text)

pub lowered-lowered : (text : List ℕ) → lowered (lowered text) ≡ lowered text
lowered-lowered [] = refl
lowered-lowered (c ∷ text) = ap (λ x. x ∷ lowered (lowered text)) (lower-lower c) ∙ ap (λ x. to_ascii_lowercase c ∷ x) (lowered-lowered text)

-- a text without a colon
abbrev pub HasNoColon : List ℕ → Type 0
HasNoColon [] = Unit {0}
HasNoColon (c ∷ text) = (eqb c 58 ≡ false) × HasNoColon text

pub before_colon-none : (text : List ℕ) → HasNoColon (before_colon text)
before_colon-none [] = tt
before_colon-none (c ∷ text) = split (eqb c 58) refl (before_colon-none text)
  where
    split : (b : Bool) → eqb c 58 ≡ b → HasNoColon (before_colon text) → HasNoColon (cond b [] (c ∷ before_colon text))
    split true h further = tt
    split false h further = (h, further)

none-start : (text : List ℕ) → HasNoColon text → HasNoColon (trim_start text)
none-start [] h = tt
none-start (c ∷ text) h = split (is_space c) (none-start text h.1)
  where
    split : (b : Bool) → HasNoColon (trim_start text) → HasNoColon (cond b (trim_start text) (c ∷ text))
    split true further = further
    split false further = h

none-before : (c : ℕ) (text : List ℕ) → eqb c 58 ≡ false → HasNoColon text → HasNoColon (before_trimmed c text)
none-before c [] h k = split (is_space c)
  where
    split : (b : Bool) → HasNoColon (cond b [] (c ∷ []))
    split true = tt
    split false = (h, tt)
none-before c (d ∷ text) h k = (h, k)

none-end : (text : List ℕ) → HasNoColon text → HasNoColon (trim_end text)
none-end [] h = tt
none-end (c ∷ text) h = none-before c (trim_end text) h.0 (none-end text h.1)

pub none-trimmed : (text : List ℕ) → HasNoColon text → HasNoColon (trimmed text)
unfolding trimmed
none-trimmed text h = none-end (trim_start text) (none-start text h)

pub none-lowered : (text : List ℕ) → HasNoColon text → HasNoColon (lowered text)
none-lowered [] h = tt
none-lowered (c ∷ text) h = (lower-colon c ∙ h.0, none-lowered text h.1)

pub before_colon-at : (name rest : List ℕ) → HasNoColon name → before_colon (name ++ 58 ∷ rest) ≡ name
before_colon-at [] rest h = refl
before_colon-at (c ∷ name) rest h = ap (λ b. cond b [] (c ∷ before_colon (name ++ 58 ∷ rest))) h.0 ∙ ap (λ x. c ∷ x) (before_colon-at name rest h.1)

pub after_colon-at : (name rest : List ℕ) → HasNoColon name → after_colon (name ++ 58 ∷ rest) ≡ rest
after_colon-at [] rest h = refl
after_colon-at (c ∷ name) rest h = ap (λ b. cond b (name ++ 58 ∷ rest) (after_colon (name ++ 58 ∷ rest))) h.0 ∙ after_colon-at name rest h.1

nothing-trimmed : is_empty (trimmed []) ≡ true
unfolding trimmed
nothing-trimmed = refl

-- a piece with a value has a colon
pub around_colon-is : (text : List ℕ) → is_empty (trimmed (after_colon text)) ≡ false → text ≡ before_colon text ++ 58 ∷ after_colon text
around_colon-is [] h = absurd (true≢false (sym nothing-trimmed ∙ h))
around_colon-is (c ∷ text) h = split (eqb c 58) refl h (around_colon-is text)
  where
    split : (b : Bool) → eqb c 58 ≡ b → is_empty (trimmed (cond b text (after_colon text))) ≡ false → (is_empty (trimmed (after_colon text)) ≡ false → text ≡ before_colon text ++ 58 ∷ after_colon text) → c ∷ text ≡ cond b [] (c ∷ before_colon text) ++ 58 ∷ cond b text (after_colon text)
    split true e h further = ap (λ x. x ∷ text) (eqb-true c 58 e)
    split false e h further = ap (λ x. c ∷ x) (further h)
