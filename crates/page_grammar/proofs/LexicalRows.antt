-- The first row that tells where in a token a refused byte stands.
use Rattle.std.proofs.Common.{◌≡◌, ℕ, Bool, true, false, ◌&&◌, inl, inr, List, [], ◌∷◌, ◌++◌, Option, Some, None, refl}
use Rattle.std.specs.Prelude.{not, ◌==◌, if◌then◌else◌}
use Rattle.std.proofs.Math.Bool.{or-true}
use Rattle.std.proofs.lemmas.Bool.{cases_Bool, eqb-false}
use Rattle.page_grammar.specs.Chars.{lower, is_name_char, is_attribute_name_char}
use Rattle.page_grammar.specs.Names.{is_refused}
use Rattle.page_grammar.specs.Page.{has_attribute}
use Rattle.page_grammar.specs.Machine.{TextEvent, CommentEvent, Amp, Lexical, Data, InText, TextReference, TagOpen, MarkupDeclaration, CommentStart, InComment, TagName, BeforeAttributeName, AttributeName, AfterAttributeName, BeforeAttributeValue, InAttributeValue, ValueReference, AfterAttributeValue, SelfClosing, EndTagName, AfterEndTagName, Machine, at, has_room, is_some_open, is_none_open, after_leaf, slash, NoDash, is_two, dash, dashes, step_at}
use Rattle.page_grammar.specs.Kind.{Kind, UnsupportedElement, RepeatedAttribute, UnknownReference, StrayEnd, BadAttribute, BadTag, begins_node, misplaced}
use Rattle.page_grammar.specs.Rows.{lexical_kinds, IsFirst}
use Rattle.page_grammar.proofs.Facts.{same_char}
use Rattle.page_grammar.proofs.Limits.{neither, not_not}

-- Where in a token the machine stands, b being a byte that it can't read. TextRows has the same of
-- the text before the byte.

abbrev pub AtUnsupportedName : Lexical → ℕ → Type 0
AtUnsupportedName (TagName w) b = (is_refused w ≡ true) × (is_name_char b ≡ false)
AtUnsupportedName l b = ⊥

abbrev pub AtRepeatedName : Lexical → ℕ → Type 0
AtRepeatedName (AttributeName w ts k) b = (has_attribute ts k ≡ true) × (is_attribute_name_char b ≡ false)
AtRepeatedName l b = ⊥

abbrev pub InReference : Lexical → Type 0
InReference (TextReference t p) = Unit {0}
InReference (ValueReference w ts k q v p) = Unit {0}
InReference l = ⊥

abbrev pub InEndTag : Lexical → List (List ℕ) → ℕ → Type 0
InEndTag (EndTagName left) ws b = Unit {0}
InEndTag AfterEndTagName ws b = Unit {0}
InEndTag TagOpen ws b = (b ≡ 47) × is_none_open ws
InEndTag l ws b = ⊥

abbrev pub AfterTagName : Lexical → ℕ → Type 0
AfterTagName (TagName w) b = is_name_char b ≡ false
AfterTagName (BeforeAttributeName w ts) b = Unit {0}
AfterTagName (AttributeName w ts k) b = Unit {0}
AfterTagName (AfterAttributeName w ts k) b = Unit {0}
AfterTagName (BeforeAttributeValue w ts k) b = Unit {0}
AfterTagName (InAttributeValue w ts k q v) b = Unit {0}
AfterTagName (ValueReference w ts k q v p) b = Unit {0}
AfterTagName (AfterAttributeValue w ts) b = Unit {0}
AfterTagName (SelfClosing w ts) b = Unit {0}
AfterTagName l b = ⊥

abbrev pub AfterLess : Lexical → Type 0
AfterLess TagOpen = Unit {0}
AfterLess MarkupDeclaration = Unit {0}
AfterLess CommentStart = Unit {0}
AfterLess l = ⊥

-- the rows of one machine and one byte
abbrev pub LexicalRow : Lexical → List (List ℕ) → ℕ → Kind → Type 0
LexicalRow l ws b UnsupportedElement = AtUnsupportedName l b
LexicalRow l ws b RepeatedAttribute = AtRepeatedName l b
LexicalRow l ws b UnknownReference = InReference l
LexicalRow l ws b StrayEnd = InEndTag l ws b
LexicalRow l ws b BadAttribute = AfterTagName l b
LexicalRow l ws b BadTag = AfterLess l
LexicalRow l ws b x = ⊥

abbrev First : Lexical → Machine → ℕ → Type 0
First l m b = IsFirst (LexicalRow l m.opened b) lexical_kinds (misplaced l b)

impossible : {A : Type 0} (o : Option Machine) (m : Machine) → o ≡ None → o ≡ Some m → A
impossible o m e k = cc

no : {A : Type 0} (t : Bool) → t ≡ true → t ≡ false → A
no t e k = cc

slash_none : (m : Machine) (ws : List (List ℕ)) → slash m ws ≡ None → is_none_open ws
slash_none m [] e = tt
slash_none m (w ∷ ws) e = cc

pub lexical_first : (c : ℕ) (l : Lexical) (m : Machine) (b : ℕ) → begins_node l m b ≡ false → step_at c m l b ≡ None → First l m b
lexical_first c Data m b h n =
    let p = neither (not (b == 60)) (not (is_some_open m.opened)) h in
    let e = not_not (b == 60) p.0 in
    let o = not_not (is_some_open m.opened) p.1 in
    impossible (step_at c m Data b) (at m TagOpen) n (rw (e, o, or-true (has_room c m)) refl)
lexical_first c (InText t) m b h n =
    elim (cases_Bool (b == 60)) [
      | inr f ↦ impossible (step_at c m (InText t) b) (at m (if b == 38 then TextReference t Amp else InText (t ++ b ∷ []))) n (rw f refl)
      | inl e ↦
          let o : is_some_open m.opened ≡ true = open_is (is_some_open m.opened) (rw e at h) in
          impossible (step_at c m (InText t) b) (at (after_leaf m (TextEvent t)) TagOpen) n (rw (e, o, or-true (has_room c (after_leaf m (TextEvent t)))) refl)
    ]
  where
    open_is : (o : Bool) → (true && not o) ≡ false → o ≡ true
    open_is true k = refl
    open_is false k = cc
lexical_first c (TextReference t r) m b h n = inr (λ z. z, inr (λ z. z, inl (tt, refl)))
lexical_first c TagOpen m b h n =
    elim (cases_Bool (b == 47)) [
      | inl e ↦ rw e (inr (λ z. z, inr (λ z. z, inr (λ z. z, inl ((same_char b 47 e, slash_none m m.opened (rw e at n)), refl)))))
      | inr f ↦ rw f (inr (λ z. z, inr (λ z. z, inr (λ z. z, inr (λ z. eqb-false b 47 f z.0, inr (λ z. z, inl (tt, refl)))))))
    ]
lexical_first c MarkupDeclaration m b h n = inr (λ z. z, inr (λ z. z, inr (λ z. z, inr (λ z. z, inr (λ z. z, inl (tt, refl))))))
lexical_first c CommentStart m b h n = inr (λ z. z, inr (λ z. z, inr (λ z. z, inr (λ z. z, inr (λ z. z, inl (tt, refl))))))
lexical_first c (InComment t k) m b h n =
    elim (cases_Bool (b == 45)) [
      | inl e ↦ impossible (step_at c m (InComment t k) b) (at m (dash t k)) n (rw e refl)
      | inr f ↦ elim (cases_Bool (b == 62 && is_two k)) [
        | inl e ↦ impossible (step_at c m (InComment t k) b) (after_leaf m (CommentEvent t)) n (rw (f, e) refl)
        | inr g ↦ impossible (step_at c m (InComment t k) b) (at m (InComment (t ++ (dashes k ++ b ∷ [])) NoDash)) n (rw (f, g) refl)
      ]
    ]
lexical_first c (TagName w) m b h n =
    elim (cases_Bool (is_name_char b)) [
      | inl e ↦ impossible (step_at c m (TagName w) b) (at m (TagName (w ++ lower b ∷ []))) n (rw e refl)
      | inr f ↦ elim (cases_Bool (is_refused w)) [
        | inl e ↦ rw e (inl ((refl, f), refl))
        | inr g ↦ rw g (inr (λ z. no false z.0 refl, inr (λ z. z, inr (λ z. z, inr (λ z. z, inl (f, refl))))))
      ]
    ]
lexical_first c (BeforeAttributeName w ts) m b h n = inr (λ z. z, inr (λ z. z, inr (λ z. z, inr (λ z. z, inl (tt, refl)))))
lexical_first c (AttributeName w ts k) m b h n =
    elim (cases_Bool (is_attribute_name_char b)) [
      | inl e ↦ impossible (step_at c m (AttributeName w ts k) b) (at m (AttributeName w ts (k ++ lower b ∷ []))) n (rw e refl)
      | inr f ↦ elim (cases_Bool (has_attribute ts k)) [
        | inl e ↦ rw e (inr (λ z. z, inl ((refl, f), refl)))
        | inr g ↦ rw g (inr (λ z. z, inr (λ z. no false z.0 refl, inr (λ z. z, inr (λ z. z, inl (tt, refl))))))
      ]
    ]
lexical_first c (AfterAttributeName w ts k) m b h n = inr (λ z. z, inr (λ z. z, inr (λ z. z, inr (λ z. z, inl (tt, refl)))))
lexical_first c (BeforeAttributeValue w ts k) m b h n = inr (λ z. z, inr (λ z. z, inr (λ z. z, inr (λ z. z, inl (tt, refl)))))
lexical_first c (InAttributeValue w ts k q v) m b h n = inr (λ z. z, inr (λ z. z, inr (λ z. z, inr (λ z. z, inl (tt, refl)))))
lexical_first c (ValueReference w ts k q v r) m b h n = inr (λ z. z, inr (λ z. z, inl (tt, refl)))
lexical_first c (AfterAttributeValue w ts) m b h n = inr (λ z. z, inr (λ z. z, inr (λ z. z, inr (λ z. z, inl (tt, refl)))))
lexical_first c (SelfClosing w ts) m b h n = inr (λ z. z, inr (λ z. z, inr (λ z. z, inr (λ z. z, inl (tt, refl)))))
lexical_first c (EndTagName left) m b h n = inr (λ z. z, inr (λ z. z, inr (λ z. z, inl (tt, refl))))
lexical_first c AfterEndTagName m b h n = inr (λ z. z, inr (λ z. z, inr (λ z. z, inl (tt, refl))))
