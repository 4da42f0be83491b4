-- Characters that are known stay so as texts are cut and joined, and those that are laid out are blanks.
use Rattle.std.proofs.Common.{◌≡◌, ℕ, zero, suc, ◌+◌, Bool, true, false, ◌&&◌, ◌||◌, not, List, [], ◌∷◌, ◌++◌, take, drop, slice_get, Option, Some, None, IfSome, refl, inl}
use Rattle.std.specs.Prelude.{unwrap_or}
use Rattle.std.specs.Option.{option_and_then}
use Rattle.edit_model.specs.DomModel.declared.Content.{Content}
use Rattle.edit_model.specs.DomModel.declared.Content.TheVariants.{Document, Element, Words, Remark}
use Rattle.edit_model.specs.DomModel.Contents.{chars_in}
use Rattle.edit_model.specs.DomModel.Forest.{Forest, content_of}
use Rattle.edit_model.specs.Compositions.{characters_of}
use Rattle.edit_model.specs.Confined.{spliced}
use Rattle.inline_value.specs.ForestChanges.Named.{Each}
use Rattle.delete_core.specs.Spaces.{is_blank, hard_if, canonical_spaces}
use Rattle.making_laws.specs.Known.{Source, IsKnownCharacter, KnowsAll}

-- ---- parts of a list

module _ {A : Type 0} (P : A → Type 0) where
  each_append : (xs ys : List A) → Each P xs → Each P ys → Each P (xs ++ ys)
  each_append [] ys h g = g
  each_append (x ∷ xs) ys h g = (h.0, each_append xs ys h.1 g)

  each_take : (n : ℕ) (xs : List A) → Each P xs → Each P (take n xs)
  each_take zero xs h = tt
  each_take (suc n) [] h = tt
  each_take (suc n) (x ∷ xs) h = (h.0, each_take n xs h.1)

  pub each_drop : (n : ℕ) (xs : List A) → Each P xs → Each P (drop n xs)
  each_drop zero xs h = h
  each_drop (suc n) [] h = tt
  each_drop (suc n) (x ∷ xs) h = each_drop n xs h.1

  pub each_get : (xs : List A) (i : ℕ) → Each P xs → IfSome (slice_get xs i) P
  each_get [] i h = tt
  each_get (x ∷ xs) zero h = h.0
  each_get (x ∷ xs) (suc i) h = each_get xs i h.1

pub each_spliced : (P : ℕ → Type 0) (chars : List ℕ) (at count : ℕ) (put : List ℕ) → Each P chars → Each P put → Each P (spliced chars at count put)
each_spliced P chars at count put h g =
    each_append P (take at chars) (put ++ drop (at + count) chars) (each_take P at chars h)
    (each_append P put (drop (at + count) chars) g (each_drop P (at + count) chars h))

-- ---- the characters of a node that is known

pub characters_known : (source : Source) (g : Forest Content) (l : ℕ) → KnowsAll source g → Each (IsKnownCharacter source) (characters_of g l)
characters_known source g l known = by_content (content_of g l) refl
  where
    by_content : (o : Option Content) → content_of g l ≡ o → Each (IsKnownCharacter source) (unwrap_or (option_and_then chars_in o) [])
    by_content None e = tt
    by_content (Some Document) e = tt
    by_content (Some (Element name list)) e = tt
    by_content (Some (Words chars)) e = known l (Words chars) e
    by_content (Some (Remark chars)) e = known l (Remark chars) e

-- ---- blanks

abbrev pub AreBlanks : List ℕ → Type 0
AreBlanks list = Each (λ (c : ℕ). is_blank c ≡ true) list

pub blanks_known : (source : Source) (list : List ℕ) → AreBlanks list → Each (IsKnownCharacter source) list
blanks_known source [] h = tt
blanks_known source (c ∷ list) h = (inl h.0, blanks_known source list h.1)

blank_if : (hard : Bool) → is_blank (hard_if hard) ≡ true
blank_if true = refl
blank_if false = refl

-- the canonical space sequence has blanks alone
pub canonical_blanks : (n : ℕ) (start end : Bool) → AreBlanks (canonical_spaces n start end)
unfolding canonical_spaces
canonical_blanks zero start end = tt
canonical_blanks (suc zero) start end = (blank_if (start || end), tt)
canonical_blanks (suc (suc zero)) start end = (blank_if (start || not end), (blank_if end, tt))
canonical_blanks (suc (suc (suc zero))) start end = (blank_if start, (blank_if (not (start && end)), (blank_if end, tt)))
canonical_blanks (suc (suc (suc (suc n)))) start end = (blank_if start, (blank_if (not start), canonical_blanks (suc (suc n)) start end))
