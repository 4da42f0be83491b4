-- What a style declares of a property after it was set or unset, and the declarations were printed and
-- read again.
use Rattle.std.proofs.Common.{◌≡◌, ℕ, Bool, true, false, cond, List, [], ◌∷◌, ◌++◌, Option, Some, None, refl, sym, ap, subst, ◌∙◌, fold, bytes_eq}
use Rattle.std.specs.List.{IsDistinct, AllByRecursion}
use Rattle.css_value.specs.StyleText.{Nesting, Declaration, outside, is_outside, after, is_closed, is_empty, named, declaration_of, stated, lowered, trimmed, before_colon, after_colon}
use Rattle.css_value.specs.DeclarationList.{value_of, set_in, unset_in, set_property, names_of, with_declaration, declarations_in, text_of, reads_back, printed}
use Rattle.css_value.specs.DeclarationMap.{EachReadsBack, IsStyle}
use Rattle.css_value.specs.TextDecoration.{without_line}
use Rattle.css_value.specs.declared.decoration.DecorationLine.{DecorationLine}
use Rattle.css_value.proofs.Names.{same-name, name-is, none-in}
use Rattle.css_value.proofs.NameValues.{value_of-set_in}
use Rattle.css_value.proofs.PieceLengths.{stated-nil}
use Rattle.css_value.proofs.Passing.{run, then_run, run-append, run-fold, single-run, plain-run, space-plain}
use Rattle.css_value.proofs.Trimming.{HasNoColon, trimmed-trimmed, trimmed-space, trimmed-lowered, lowered-lowered, before_colon-none, none-trimmed, none-lowered, before_colon-at, after_colon-at}
use Rattle.css_value.proofs.ReadBack.{colon-plain, declares, named-is, piece-back, stated-back}
use Rattle.css_value.proofs.Entries.{back-set_in, back-unset_in, set-true}
use Rattle.css_value.proofs.Places.{distinct-nothing, distinct-set, distinct-unset}
use Rattle.css_value.proofs.Printing.{back-parts, read-printed}
use Rattle.css_value.proofs.Joining.{trimmed-without_line}
use Rattle.css_value.proofs.Dropping.{run-without_line}

-- ---- what a text declares

style-folded : (list acc : List Declaration) → EachReadsBack list → IsStyle acc → IsStyle (fold with_declaration acc list)
style-folded [] acc back is = is
style-folded (d ∷ list) acc back is =
    style-folded list (with_declaration acc d) back.1 (back-set_in acc d is.0 back.0, distinct-set acc d.name d.value is.1)

-- each declaration would be read back as itself, and the names are distinct
pub style-in : (text : List ℕ) → IsStyle (declarations_in text)
unfolding declarations_in
style-in text = style-folded (stated text) [] (stated-back text) (tt, distinct-nothing)

pub nothing-in : declarations_in [] ≡ []
nothing-in = none-in [] stated-nil

-- ---- a property that is unset

other-value : (list : List Declaration) (name : List ℕ) → AllByRecursion (λ other. bytes_eq name other ≡ false) (names_of list) → value_of list name ≡ None
other-value [] name all = refl
other-value (d ∷ list) name all = ap (λ b. cond b (Some d.value) (value_of list name)) all.0 ∙ other-value list name all.1

unset-value : (list : List Declaration) (name : List ℕ) → IsDistinct bytes_eq (names_of list) → value_of (unset_in list name) name ≡ None
unfolding IsDistinct
unset-value [] name distinct = refl
unset-value (d ∷ list) name distinct = by_test (bytes_eq name d.name) refl (unset-value list name distinct.1)
  where
    by_test : (b : Bool) → bytes_eq name d.name ≡ b → value_of (unset_in list name) name ≡ None → value_of (cond b list (d ∷ unset_in list name)) name ≡ None
    by_test true is further =
        other-value list name (subst (λ own. AllByRecursion (λ other. bytes_eq own other ≡ false) (names_of list)) (sym (same-name name d.name is)) distinct.0)
    by_test false is further = ap (λ b. cond b (Some d.value) (value_of (unset_in list name) name)) is ∙ further

-- the law: a style that a property was unset in has no value for it
pub value_of-unset : (text name : List ℕ) → value_of (declarations_in (printed (unset_in (declarations_in text) name))) name ≡ None
value_of-unset text name =
    let list : List Declaration = declarations_in text in
    let is : IsStyle list = style-in text in
    ap (λ l. value_of l name) (read-printed (unset_in list name) (back-unset_in list name is.0) (distinct-unset list name is.1)) ∙ unset-value list name is.1

-- ---- a property that is set

back-value : (list : List Declaration) (name value : List ℕ) → EachReadsBack list → value_of list name ≡ Some value → reads_back (record { name = name; value = value }) ≡ true
back-value [] name value back at = absurd (let t = at in cc)
back-value (d ∷ list) name value back at = by_test (bytes_eq name d.name) refl at (back-value list name value back.1)
  where
    by_test : (b : Bool) → bytes_eq name d.name ≡ b → cond b (Some d.value) (value_of list name) ≡ Some value → (value_of list name ≡ Some value → reads_back (record { name = name; value = value }) ≡ true) → reads_back (record { name = name; value = value }) ≡ true
    by_test true is at further =
        let same : d.value ≡ value = (let t = at in cc) in
        ap (λ n. reads_back (record { name = n; value = value })) (same-name name d.name is)
        ∙ ap (λ v. reads_back (record { name = d.name; value = v })) (sym same)
        ∙ back.0
    by_test false is at further = further at

-- a value that leads where another does, from wherever, reads back under the same name
back-alike : (name value other : List ℕ) → reads_back (record { name = name; value = value }) ≡ true → ((n : Nesting) → run n other ≡ run n value) → is_empty (trimmed other) ≡ false → reads_back (record { name = name; value = trimmed other }) ≡ true
unfolding declaration_of is_closed text_of
back-alike name value other back alike some =
    let d : Declaration = record { name = name; value = value } in
    let text : List ℕ = name ++ 58 ∷ 32 ∷ value in
    let piece : List ℕ = name ++ 58 ∷ 32 ∷ other in
    let end : Nesting = fold after outside text in
    let parts = back-parts d back in
    let is = declares text d parts.1 in
    let runs : run outside piece ≡ Some end = run-append outside name (58 ∷ 32 ∷ other) ∙ further (run outside name) ∙ sym (run-append outside name (58 ∷ 32 ∷ value)) ∙ single-run outside text parts.0 in
    let ends : fold after outside piece ≡ end = run-fold outside end piece runs in
    let before : List ℕ = before_colon text in
    let none : HasNoColon name = subst HasNoColon (sym is.name) (none-lowered (trimmed before) (none-trimmed before (before_colon-none text))) in
    let first : lowered (trimmed (before_colon piece)) ≡ name =
    ap (λ x. lowered (trimmed x)) (before_colon-at name (32 ∷ other) none)
    ∙ ap (λ x. lowered (trimmed x)) is.name
    ∙ ap lowered (trimmed-lowered (trimmed before))
    ∙ lowered-lowered (trimmed (trimmed before))
    ∙ ap lowered (trimmed-trimmed before)
    ∙ sym is.name in
    let second : trimmed (after_colon piece) ≡ trimmed other = ap trimmed (after_colon-at name (32 ∷ other) none) ∙ trimmed-space other in
    let declared : declaration_of piece ≡ Some (record { name = name; value = trimmed other }) =
    ap (λ b. cond b (named (lowered (trimmed (before_colon piece))) (trimmed (after_colon piece))) None) (ap is_outside ends ∙ is.closed)
    ∙ ap (λ n. named n (trimmed (after_colon piece))) first
    ∙ ap (λ v. named name v) second
    ∙ named-is name (trimmed other) is.some_name some in
    piece-back piece (record { name = name; value = trimmed other }) (runs ∙ ap Some (sym ends)) declared
  where
    further : (m : Option Nesting) → then_run m (58 ∷ 32 ∷ other) ≡ then_run m (58 ∷ 32 ∷ value)
    further None = refl
    further (Some n) =
        plain-run 58 colon-plain n (32 ∷ other) ∙ plain-run 32 (space-plain 32 refl) n other ∙ alike n ∙ sym (plain-run 58 colon-plain n (32 ∷ value) ∙ plain-run 32 (space-plain 32 refl) n value)

-- a style that a declaration was set in has it
value_of-set : (text name value : List ℕ) → reads_back (record { name = name; value = trimmed value }) ≡ true → value_of (declarations_in (printed (set_property (declarations_in text) name value))) name ≡ Some (trimmed value)
value_of-set text name value back =
    let list : List Declaration = declarations_in text in
    let d : Declaration = record { name = name; value = trimmed value } in
    let is : IsStyle list = style-in text in
    ap (λ l. value_of (declarations_in (printed l)) name) (set-true list name value back)
    ∙ ap (λ l. value_of l name) (read-printed (set_in list name (trimmed value)) (back-set_in list d is.0 back) (distinct-set list name (trimmed value) is.1))
    ∙ value_of-set_in list name (trimmed value) name
    ∙ ap (λ b. cond b (Some (trimmed value)) (value_of list name)) (name-is name)

-- the law: a style whose value of a property loses a line's word, and has other words, has the rest of
-- the value
pub value_of-without_line : (text name value : List ℕ) (line : DecorationLine) → value_of (declarations_in text) name ≡ Some value → is_empty (without_line value line) ≡ false → value_of (declarations_in (printed (set_property (declarations_in text) name (without_line value line)))) name ≡ Some (without_line value line)
value_of-without_line text name value line at some =
    let same : trimmed (without_line value line) ≡ without_line value line = trimmed-without_line value line in
    let own : reads_back (record { name = name; value = value }) ≡ true = back-value (declarations_in text) name value (style-in text).0 at in
    value_of-set text name (without_line value line) (back-alike name value (without_line value line) own (run-without_line value line) (ap is_empty same ∙ some)) ∙ ap Some same
