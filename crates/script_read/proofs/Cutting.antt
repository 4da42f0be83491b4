-- Texts cut at a separator.
use Rattle.std.proofs.Common.{◌≡◌, ℕ, ◌+◌, Bool, true, false, cond, not, ◌==◌, List, [], ◌∷◌, ◌++◌, length, take, drop, Option, Some, None, refl, sym, ap, subst, ◌∙◌, ltb, arith}
use Rattle.std.specs.Bool.{Decides}
use Rattle.std.specs.Option.{option_map, MatchOption}
use Rattle.std.specs.List.{position, position_or_len, join_with_byte, list_all}
use Rattle.std.proofs.lemmas.Bool.Decides.{Decides-eqb, nat_tests}
use Rattle.std.proofs.lemmas.Grind.{common_steps}
use Rattle.script_read.specs.Reading.{cut, before_cut, split, before_first}
use Rattle.script_read.proofs.Tests.{same, differs, and-true}

-- ---- by the position of the separator

abbrev at_position : List ℕ → Option ℕ → Option (List ℕ × List ℕ)
at_position text o = option_map (λ at. (take at text, drop (at + 1) text)) o

one_later : (b n : ℕ) (bs : List ℕ) (t u : Bool) → t ≡ u → option_map (before_cut b) (at_position bs (cond t (Some n) None)) ≡ at_position (b ∷ bs) (cond u (Some (1 + n)) None)
one_later b n bs t true e = rw e (grind (arith, common_steps))
one_later b n bs t false e = rw e refl

cut-by : (c : ℕ) (text : List ℕ) → cut c text ≡ at_position text (position (λ b. b == c) text)
cut-by c [] = refl
cut-by c (b ∷ bs) =
    let n = position_or_len (λ b. b == c) bs in
    let shift : ltb n (length bs) ≡ ltb (1 + n) (length (b ∷ bs)) = grind (arith, nat_tests) in
    let first : ltb 0 (length (b ∷ bs)) ≡ true = grind (arith, nat_tests) in
    elim (b == c) as (λ (t : Bool). cond t (Some ([], bs)) (option_map (before_cut b) (cut c bs)) ≡ at_position (b ∷ bs) (cond (ltb (cond (not t) (1 + n) 0) (length (b ∷ bs))) (Some (cond (not t) (1 + n) 0)) None)) [
      | true ↦ rw first refl
      | false ↦ ap (option_map (before_cut b)) (cut-by c bs) ∙ one_later b n bs _ _ shift
    ]

pub cut-some : (c : ℕ) (text : List ℕ) (at : ℕ) → Some at ≡ position (λ b. b == c) text → cut c text ≡ Some (take at text, drop (at + 1) text)
cut-some c text at e = cut-by c text ∙ ap (at_position text) (sym e)

pub cut-absent : (c : ℕ) (text : List ℕ) → None ≡ position (λ b. b == c) text → cut c text ≡ None
cut-absent c text e = cut-by c text ∙ ap (at_position text) (sym e)

-- ---- what stands round it

abbrev pub IsCut : ℕ → List ℕ → Option (List ℕ × List ℕ) → Type 0
IsCut c text o = MatchOption o (split c text ≡ text ∷ []) (λ p. (text ≡ p.0 ++ c ∷ p.1) × (split c text ≡ p.0 ∷ split c p.1))

cut_later : (b c : ℕ) (bs : List ℕ) (o : Option (List ℕ × List ℕ)) → IsCut c bs o
    → MatchOption (option_map (before_cut b) o) (before_first b (split c bs) ≡ (b ∷ bs) ∷ []) (λ p. (b ∷ bs ≡ p.0 ++ c ∷ p.1) × (before_first b (split c bs) ≡ p.0 ∷ split c p.1))
cut_later b c bs None e = rw e refl
cut_later b c bs (Some p) (e, s) = (ap (λ x. b ∷ x) e, rw s refl)

pub cut-is : (c : ℕ) (text : List ℕ) → IsCut c text (cut c text)
cut-is c [] = refl
cut-is c (b ∷ bs) =
    elim (b == c) as (λ (t : Bool). Decides t (b ≡ c) → MatchOption (cond t (Some ([], bs)) (option_map (before_cut b) (cut c bs))) (cond t ([] ∷ split c bs) (before_first b (split c bs)) ≡ (b ∷ bs) ∷ []) (λ p. (b ∷ bs ≡ p.0 ++ c ∷ p.1) × (cond t ([] ∷ split c bs) (before_first b (split c bs)) ≡ p.0 ∷ split c p.1))) [
      | true ↦ λ d. (ap (λ x. x ∷ bs) (d.0 refl), refl)
      | false ↦ λ d. cut_later b c bs (cut c bs) (cut-is c bs)
    ] (Decides-eqb b c)

pub cut-parts : (c : ℕ) (text : List ℕ) (p : List ℕ × List ℕ) → cut c text ≡ Some p → text ≡ p.0 ++ c ∷ p.1
cut-parts c text p e = (subst (IsCut c text) e (cut-is c text)).0

pub split-cut : (c : ℕ) (text : List ℕ) (p : List ℕ × List ℕ) → cut c text ≡ Some p → split c text ≡ p.0 ∷ split c p.1
split-cut c text p e = (subst (IsCut c text) e (cut-is c text)).1

pub split-uncut : (c : ℕ) (text : List ℕ) → cut c text ≡ None → split c text ≡ text ∷ []
split-uncut c text e = subst (IsCut c text) e (cut-is c text)

-- ---- texts without it

abbrev pub Avoids : ℕ → List ℕ → Type 0
Avoids c [] = Unit {0}
Avoids c (b ∷ bs) = ((b == c) ≡ false) × Avoids c bs

pub Avoids-append : (c : ℕ) (a b : List ℕ) → Avoids c a → Avoids c b → Avoids c (a ++ b)
Avoids-append c [] b p q = q
Avoids-append c (x ∷ a) b p q = (p.0, Avoids-append c a b p.1 q)

passing_differs : (p : ℕ → Bool) (b c : ℕ) → p c ≡ false → p b ≡ true → b ≡ c → ⊥
passing_differs p b c lacks holds e = let f : p b ≡ p c = ap p e in absurd (cc)

-- what passes a test has no c that doesn't
pub passing_avoids : (p : ℕ → Bool) (c : ℕ) → p c ≡ false → (text : List ℕ) → list_all p text ≡ true → Avoids c text
passing_avoids p c lacks [] all = tt
passing_avoids p c lacks (b ∷ bs) all =
    let h = and-true (p b) (list_all p bs) all in
    (differs b c (passing_differs p b c lacks h.0), passing_avoids p c lacks bs h.1)

pub cut-found : (c : ℕ) (a r : List ℕ) → Avoids c a → cut c (a ++ c ∷ r) ≡ Some (a, r)
cut-found c [] r lacks = rw (same c) refl
cut-found c (x ∷ a) r lacks = rw (lacks.0, cut-found c a r lacks.1) refl

pub cut-none : (c : ℕ) (a : List ℕ) → Avoids c a → cut c a ≡ None
cut-none c [] lacks = refl
cut-none c (x ∷ a) lacks = rw (lacks.0, cut-none c a lacks.1) refl

-- ---- texts joined and split again

pub split-found : (c : ℕ) (a r : List ℕ) → Avoids c a → split c (a ++ c ∷ r) ≡ a ∷ split c r
split-found c [] r lacks = rw (same c) refl
split-found c (x ∷ a) r lacks = rw (lacks.0, split-found c a r lacks.1) refl

pub split-alone : (c : ℕ) (a : List ℕ) → Avoids c a → split c a ≡ a ∷ []
split-alone c [] lacks = refl
split-alone c (x ∷ a) lacks = rw (lacks.0, split-alone c a lacks.1) refl

abbrev pub EachAvoids : ℕ → List (List ℕ) → Type 0
EachAvoids c [] = Unit {0}
EachAvoids c (text ∷ texts) = Avoids c text × EachAvoids c texts

pub split-joined : (c : ℕ) (text : List ℕ) (texts : List (List ℕ)) → EachAvoids c (text ∷ texts) → split c (join_with_byte c (text ∷ texts)) ≡ text ∷ texts
split-joined c text [] lacks = split-alone c text lacks.0
split-joined c text (next ∷ texts) lacks = split-found c text (join_with_byte c (next ∷ texts)) lacks.0 ∙ ap (λ ts. text ∷ ts) (split-joined c next texts lacks.1)

-- a split text has a first part, and joined it is the text
pub record Split (c : ℕ) (text : List ℕ) : Type 0 where
  pub first : List ℕ
  pub others : List (List ℕ)
  pub is : split c text ≡ first ∷ others
  pub joined : join_with_byte c (first ∷ others) ≡ text

longer_first : (b c : ℕ) (first : List ℕ) (others : List (List ℕ)) → join_with_byte c ((b ∷ first) ∷ others) ≡ b ∷ join_with_byte c (first ∷ others)
longer_first b c first [] = refl
longer_first b c first (next ∷ others) = refl

pub split-is : (c : ℕ) (text : List ℕ) → Split c text
split-is c [] = record { first = []; others = []; is = refl; joined = refl }
split-is c (b ∷ bs) =
    let s = split-is c bs in
    elim (b == c) as (λ (t : Bool). (b == c) ≡ t → Decides t (b ≡ c) → Split c (b ∷ bs)) [
      | true ↦ λ e d. record { first = []; others = s.first ∷ s.others; is = rw (e, s.is) refl; joined = ap (λ x. c ∷ x) s.joined ∙ ap (λ x. x ∷ bs) (sym (d.0 refl)) }
      | false ↦ λ e d. record { first = b ∷ s.first; others = s.others; is = rw (e, s.is) refl; joined = longer_first b c s.first s.others ∙ ap (λ x. b ∷ x) s.joined }
    ] refl (Decides-eqb b c)
