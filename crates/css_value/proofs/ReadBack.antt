-- A declaration that a piece makes is read back from its own text.
use Rattle.std.proofs.Common.{◌≡◌, ℕ, Bool, true, false, true≢false, cond, ◌&&◌, ◌||◌, List, [], ◌∷◌, ◌++◌, Option, Some, None, refl, sym, ap, subst, ◌∙◌, fold, bytes_eq}
use Rattle.std.specs.List.{filter_map, cons_option}
use Rattle.css_value.specs.StyleText.{Nesting, Declaration, outside, is_outside, after, pieces, is_closed, is_empty, named, declaration_of, stated, lowered, trimmed, before_colon, after_colon}
use Rattle.css_value.specs.DeclarationList.{text_of, is_single, is_declaration, reads_back}
use Rattle.css_value.specs.DeclarationMap.{EachReadsBack}
use Rattle.css_value.proofs.Names.{name-is}
use Rattle.css_value.proofs.Passing.{run, then_run, run-append, run-fold, run-pieces, run-lowered, run-trimmed, plain-run, IsPlain, AreUncut, pieces-uncut}
use Rattle.css_value.proofs.Trimming.{trimmed-trimmed, trimmed-space, trimmed-lowered, lowered-lowered, before_colon-none, none-trimmed, none-lowered, before_colon-at, after_colon-at, around_colon-is}

pub colon-plain : IsPlain 58
colon-plain = record { no_quote = refl; no_opening = refl; no_closing = refl; no_cut = refl }

space-plain : IsPlain 32
space-plain = record { no_quote = refl; no_opening = refl; no_closing = refl; no_cut = refl }

-- the text that stands for a name and a value leads where the piece leads
text-run : (before after_it : List ℕ) → run outside (lowered (trimmed before) ++ 58 ∷ 32 ∷ trimmed after_it) ≡ run outside (before ++ 58 ∷ after_it)
text-run before after_it =
    run-append outside (lowered (trimmed before)) (58 ∷ 32 ∷ trimmed after_it)
    ∙ ap (λ n. then_run n (58 ∷ 32 ∷ trimmed after_it)) (run-lowered outside (trimmed before) ∙ run-trimmed outside before)
    ∙ further (run outside before)
    ∙ sym (run-append outside before (58 ∷ after_it))
  where
    further : (n : Option Nesting) → then_run n (58 ∷ 32 ∷ trimmed after_it) ≡ then_run n (58 ∷ after_it)
    further None = refl
    further (Some n) =
        plain-run 58 colon-plain n (32 ∷ trimmed after_it) ∙ plain-run 32 space-plain n (trimmed after_it) ∙ run-trimmed n after_it ∙ sym (plain-run 58 colon-plain n after_it)

not-empty : (a b : Bool) → (a || b) ≡ false → (a ≡ false) × (b ≡ false)
not-empty true b h = absurd (true≢false h)
not-empty false b h = (refl, h)

pub named-is : (name value : List ℕ) → is_empty name ≡ false → is_empty value ≡ false → named name value ≡ Some (record { name = name; value = value })
unfolding named
named-is name value h k = ap (λ b. cond (b || is_empty value) None (Some (record { name = name; value = value }))) h ∙ ap (λ b. cond b None (Some (record { name = name; value = value }))) k

-- what a piece that declares something is
pub record Declares (piece : List ℕ) (d : Declaration) : Type 0 where
  pub closed : is_closed piece ≡ true
  pub name : d.name ≡ lowered (trimmed (before_colon piece))
  pub value : d.value ≡ trimmed (after_colon piece)
  pub some_name : is_empty d.name ≡ false
  pub some_value : is_empty d.value ≡ false

pub declares : (piece : List ℕ) (d : Declaration) → declaration_of piece ≡ Some d → Declares piece d
unfolding declaration_of named
declares piece d h = split (is_closed piece) (is_empty (lowered (trimmed (before_colon piece)))) (is_empty (trimmed (after_colon piece))) refl refl refl h
  where
    split : (a b c : Bool) → is_closed piece ≡ a → is_empty (lowered (trimmed (before_colon piece))) ≡ b → is_empty (trimmed (after_colon piece)) ≡ c → cond a (cond (b || c) None (Some (record { name = lowered (trimmed (before_colon piece)); value = trimmed (after_colon piece) }))) None ≡ Some d → Declares piece d
    split true true c e f g h = cc
    split true false true e f g h = cc
    split true false false e f g h =
        let name : d.name ≡ lowered (trimmed (before_colon piece)) = cc in
        let value : d.value ≡ trimmed (after_colon piece) = cc in
        record { closed = e; name = name; value = value; some_name = ap is_empty name ∙ f; some_value = ap is_empty value ∙ g }
    split false b c e f g h = cc

pub reads_back-is : (d : Declaration) → pieces outside (text_of d) ≡ text_of d ∷ [] → declaration_of (text_of d) ≡ Some d → reads_back d ≡ true
unfolding reads_back
reads_back-is d h k =
    ap (λ list. is_single list && is_declaration (declaration_of (text_of d)) d) h
    ∙ ap (λ r. is_declaration r d) k
    ∙ ap (λ b. b && bytes_eq d.value d.value) (name-is d.name)
    ∙ name-is d.value

-- a piece without a cut inside declares what is read back
pub piece-back : (piece : List ℕ) (d : Declaration) → run outside piece ≡ Some (fold after outside piece) → declaration_of piece ≡ Some d → reads_back d ≡ true
unfolding is_closed declaration_of text_of
piece-back piece d uncut h =
    let is = declares piece d h in
    let name : List ℕ = lowered (trimmed (before_colon piece)) in
    let value : List ℕ = trimmed (after_colon piece) in
    let text : List ℕ = name ++ 58 ∷ 32 ∷ value in
    let same : text_of d ≡ text = ap (λ n. n ++ 58 ∷ 32 ∷ d.value) is.name ∙ ap (λ v. name ++ 58 ∷ 32 ∷ v) is.value in
    let whole : piece ≡ before_colon piece ++ 58 ∷ after_colon piece = around_colon-is piece (ap is_empty (sym is.value) ∙ is.some_value) in
    let runs : run outside text ≡ Some (fold after outside piece) = text-run (before_colon piece) (after_colon piece) ∙ ap (run outside) (sym whole) ∙ uncut in
    let closed : is_closed text ≡ true = ap is_outside (run-fold outside (fold after outside piece) text runs) ∙ is.closed in
    let none = none-lowered (trimmed (before_colon piece)) (none-trimmed (before_colon piece) (before_colon-none piece)) in
    let first : lowered (trimmed (before_colon text)) ≡ name = ap (λ x. lowered (trimmed x)) (before_colon-at name (32 ∷ value) none) ∙ ap lowered (trimmed-lowered (trimmed (before_colon piece))) ∙ lowered-lowered (trimmed (trimmed (before_colon piece))) ∙ ap lowered (trimmed-trimmed (before_colon piece)) in
    let second : trimmed (after_colon text) ≡ value = ap trimmed (after_colon-at name (32 ∷ value) none) ∙ trimmed-space value ∙ trimmed-trimmed (after_colon piece) in
    let declared : declaration_of text ≡ Some (record { name = name; value = value }) =
    ap (λ b. cond b (named (lowered (trimmed (before_colon text))) (trimmed (after_colon text))) None) closed
    ∙ ap (λ n. named n (trimmed (after_colon text))) first
    ∙ ap (λ v. named name v) second
    ∙ named-is name value (ap is_empty (sym is.name) ∙ is.some_name) (ap is_empty (sym is.value) ∙ is.some_value) in
    let made : record { name = name; value = value } ≡ d = ap (λ n. record { name = n; value = value }) (sym is.name) ∙ ap (λ v. record { name = d.name; value = v }) (sym is.value) in
    reads_back-is d
    (ap (pieces outside) same ∙ run-pieces outside (fold after outside piece) text runs ∙ ap (λ x. x ∷ []) (sym same))
    (ap declaration_of same ∙ declared ∙ ap Some made)

uncut-back : (n : Nesting) → n ≡ outside → (list : List (List ℕ)) → AreUncut n list → EachReadsBack (filter_map declaration_of list)
uncut-back n e [] h = tt
uncut-back n e (piece ∷ list) h = split (declaration_of piece) refl (uncut-back outside refl list h.1)
  where
    split : (r : Option Declaration) → declaration_of piece ≡ r → EachReadsBack (filter_map declaration_of list) → EachReadsBack (cons_option r (filter_map declaration_of list))
    split None k further = further
    split (Some d) k further = (piece-back piece d (subst (λ m. run m piece ≡ Some (fold after m piece)) e h.0) k, further)

-- each declaration of a text reads back
pub stated-back : (text : List ℕ) → EachReadsBack (stated text)
unfolding stated
stated-back text = uncut-back outside refl (pieces outside text) (pieces-uncut outside text)
