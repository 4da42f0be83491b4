-- What is printed of a list of declarations is read as that list.
use Rattle.std.proofs.Common.{◌≡◌, ℕ, zero, suc, ◌+◌, ◌≤◌, Bool, true, false, true≢false, cond, ◌&&◌, List, [], ◌∷◌, ◌++◌, length, drop, slice_get, Option, Some, None, refl, sym, ap, ◌∙◌, arith, bytes_eq, eqb, fold, Result, Ok, Err, IfOk}
use Rattle.std.specs.List.{IsDistinct, AllByRecursion, cons_option}
use Rattle.std.specs.declared.vec.Vec.{Vec}
use Rattle.std.proofs.lemmas.List.{append-nil, append_assoc, drop_all}
use Rattle.std.proofs.lemmas.Bool.Decides.{nat_tests}
use Rattle.css_value.specs.StyleText.{Nesting, Declaration, outside, is_outside, after, pieces, is_closed, declaration_of, stated, trimmed}
use Rattle.css_value.specs.DeclarationList.{set_in, with_declaration, declarations_in, text_of, is_single, is_declaration, reads_back, names_of, gap, printed, printed_after}
use Rattle.css_value.specs.DeclarationMap.{declarations_of, EachReadsBack}
use Rattle.std.proofs.lemmas.Slice.Eq.{bytes_eq-Decides}
use Rattle.css_value.proofs.Names.{same-name}
use Rattle.css_value.proofs.PieceLengths.{stated-cut, stated-nil}
use Rattle.css_value.proofs.Passing.{run, run-cut, single-run, pieces-some, plain-run, IsPlain}
use Rattle.css_value.proofs.ReadBack.{declares}

and-parts : (a b : Bool) → (a && b) ≡ true → (a ≡ true) × (b ≡ true)
and-parts true b h = (refl, h)
and-parts false b h = absurd (true≢false (sym h))

is-declaration : (r : Option Declaration) (d : Declaration) → is_declaration r d ≡ true → r ≡ Some d
is-declaration None d h = absurd (true≢false (sym h))
is-declaration (Some e) d h =
    let both = and-parts (bytes_eq d.name e.name) (bytes_eq e.value d.value) h in
    ap (λ n. Some (record { name = n; value = e.value })) (sym (same-name d.name e.name both.0))
    ∙ ap (λ v. Some (record { name = d.name; value = v })) (same-name e.value d.value both.1)

-- what it is to be read back
pub back-parts : (d : Declaration) → reads_back d ≡ true → (is_single (pieces outside (text_of d)) ≡ true) × (declaration_of (text_of d) ≡ Some d)
unfolding reads_back
back-parts d h =
    let both = and-parts (is_single (pieces outside (text_of d))) (is_declaration (declaration_of (text_of d)) d) h in
    (both.0, is-declaration (declaration_of (text_of d)) d both.1)

closed-is : (text : List ℕ) → is_closed text ≡ true → is_outside (fold after outside text) ≡ true
unfolding is_closed
closed-is text h = h

-- the declaration, and then what the rest says
pub stated-first : (d : Declaration) (rest : List ℕ) → reads_back d ≡ true → stated (text_of d ++ 59 ∷ rest) ≡ d ∷ stated rest
stated-first d rest h =
    let parts = back-parts d h in
    let runs = single-run outside (text_of d) parts.0 in
    let closed = closed-is (text_of d) (declares (text_of d) d parts.1).closed in
    stated-cut (text_of d ++ 59 ∷ rest) (text_of d) rest (run-cut outside (fold after outside (text_of d)) (text_of d) rest runs closed)
    ∙ ap (λ r. cons_option r (stated rest)) parts.1

space-plain : IsPlain 32
space-plain = record { no_quote = refl; no_opening = refl; no_closing = refl; no_cut = refl }

-- a space before a piece makes no difference
spaced : (text : List ℕ) → declaration_of (32 ∷ text) ≡ declaration_of text
unfolding declaration_of is_closed trimmed after
spaced text = refl

stated-next : (d : Declaration) (rest : List ℕ) → reads_back d ≡ true → stated (32 ∷ (text_of d ++ 59 ∷ rest)) ≡ d ∷ stated rest
stated-next d rest h =
    let parts = back-parts d h in
    let end : Nesting = fold after outside (text_of d) in
    let runs : run outside (32 ∷ text_of d) ≡ Some end = plain-run 32 space-plain outside (text_of d) ∙ single-run outside (text_of d) parts.0 in
    let closed = closed-is (text_of d) (declares (text_of d) d parts.1).closed in
    stated-cut (32 ∷ (text_of d ++ 59 ∷ rest)) (32 ∷ text_of d) rest (run-cut outside end (32 ∷ text_of d) rest runs closed)
    ∙ ap (λ r. cons_option r (stated rest)) (spaced (text_of d) ∙ parts.1)

stated-after : (list : List Declaration) → EachReadsBack list → stated (printed_after list) ≡ list
stated-after [] h = stated-nil
stated-after (d ∷ list) h = stated-next d (printed_after list) h.0 ∙ ap (λ x. d ∷ x) (stated-after list h.1)

stated-printed : (list : List Declaration) → EachReadsBack list → stated (printed list) ≡ list
unfolding printed
stated-printed [] h = stated-nil
stated-printed (d ∷ list) h = stated-first d (printed_after list) h.0 ∙ ap (λ x. d ∷ x) (stated-after list h.1)

-- what reading a declaration's own text decides
pub back-cut : (text : List ℕ) (d : Declaration) (piece rest : List ℕ) → text ≡ text_of d → pieces outside text ≡ piece ∷ pieces outside rest → reads_back d ≡ false
unfolding reads_back
back-cut text d piece rest is h =
    let some = pieces-some outside rest in
    let two : pieces outside (text_of d) ≡ piece ∷ some.0 ∷ some.1.0 = ap (pieces outside) (sym is) ∙ h ∙ ap (λ list. piece ∷ list) some.1.1 in
    ap (λ list. is_single list && is_declaration (declaration_of (text_of d)) d) two

and-false : (a : Bool) → (a && false) ≡ false
and-false true = refl
and-false false = refl

pub back-none : (text : List ℕ) (d : Declaration) → text ≡ text_of d → None ≡ declaration_of text → reads_back d ≡ false
unfolding reads_back
back-none text d is h =
    ap (λ r. is_single (pieces outside (text_of d)) && is_declaration r d) (ap declaration_of (sym is) ∙ sym h) ∙ and-false (is_single (pieces outside (text_of d)))

pub back-some : (text : List ℕ) (d e : Declaration) → text ≡ text_of d → pieces outside text ≡ text ∷ [] → Some e ≡ declaration_of text → reads_back d ≡ (bytes_eq d.name e.name && bytes_eq e.value d.value)
unfolding reads_back
back-some text d e is h k =
    ap (λ r. is_single (pieces outside (text_of d)) && is_declaration r d) (ap declaration_of (sym is) ∙ sym k)
    ∙ ap (λ list. is_single list && (bytes_eq d.name e.name && bytes_eq e.value d.value)) (ap (pieces outside) (sym is) ∙ h)

-- the name is none of those of the list
abbrev IsNew : List ℕ → List Declaration → Type 0
IsNew name list = AllByRecursion (λ d. bytes_eq name d.name ≡ false) list

AreNew : List Declaration → List Declaration → Type 0
AreNew list others = AllByRecursion (λ d. IsNew d.name others) list

new-set_in : (list : List Declaration) (d : Declaration) → IsNew d.name list → set_in list d.name d.value ≡ list ++ d ∷ []
new-set_in [] d h = refl
new-set_in (e ∷ list) d h = ap (λ b. cond b (record { name = e.name; value = d.value } ∷ list) (e ∷ set_in list d.name d.value)) h.0 ∙ ap (λ x. e ∷ x) (new-set_in list d h.1)

new-push : (name : List ℕ) (list : List Declaration) (d : Declaration) → IsNew name list → bytes_eq name d.name ≡ false → IsNew name (list ++ d ∷ [])
new-push name [] d h k = (k, tt)
new-push name (e ∷ list) d h k = (h.0, new-push name list d h.1 k)

other-way : (a b : List ℕ) → bytes_eq a b ≡ false → bytes_eq b a ≡ false
other-way a b h = split (bytes_eq b a) refl
  where
    split : (c : Bool) → bytes_eq b a ≡ c → c ≡ false
    split true e = sym ((bytes_eq-Decides a b).1 (sym (same-name b a e))) ∙ h
    split false e = refl

abbrev ArePushed : List Declaration → List Declaration → Declaration → Type 0
ArePushed list acc d = AllByRecursion (λ e. IsNew e.name (acc ++ d ∷ [])) list

pushed : (list acc : List Declaration) (d : Declaration) → AllByRecursion (λ e. IsNew e.name acc) list → AllByRecursion (λ y. bytes_eq d.name y ≡ false) (names_of list) → ArePushed list acc d
pushed [] acc d h k = tt
pushed (e ∷ list) acc d h k = (new-push e.name acc d h.0 (other-way d.name e.name k.0), pushed list acc d h.1 k.1)

fold-new : (list acc : List Declaration) → IsDistinct bytes_eq (names_of list) → AllByRecursion (λ e. IsNew e.name acc) list → fold with_declaration acc list ≡ acc ++ list
unfolding IsDistinct
fold-new [] acc h k = sym (append-nil acc)
fold-new (d ∷ list) acc h k =
    ap (λ x. fold with_declaration x list) (new-set_in acc d k.0)
    ∙ fold-new list (acc ++ d ∷ []) h.1 (pushed list acc d k.1 h.0)
    ∙ append_assoc acc (d ∷ []) list

new-nothing : (list : List Declaration) → AllByRecursion (λ e. IsNew e.name []) list
new-nothing [] = tt
new-nothing (d ∷ list) = (tt, new-nothing list)

-- the law: reading what is printed gives the same declarations
pub read-printed : (list : List Declaration) → EachReadsBack list → IsDistinct bytes_eq (names_of list) → declarations_in (printed list) ≡ list
unfolding declarations_in
read-printed list h k = ap (fold with_declaration []) (stated-printed list h) ∙ fold-new list [] k (new-nothing list)

-- what is still to be printed: the whole list, or its declarations after the first
abbrev pub left_to_print : Bool → List Declaration → List ℕ
left_to_print true list = printed list
left_to_print false list = printed_after list

left-first : (b : Bool) (d : Declaration) (list : List Declaration) → left_to_print b (d ∷ list) ≡ (gap b ++ (text_of d ++ 59 ∷ [])) ++ printed_after list
unfolding printed
left-first true d list = sym (append_assoc (text_of d) (59 ∷ []) (printed_after list))
left-first false d list = ap (λ x. 32 ∷ x) (sym (append_assoc (text_of d) (59 ∷ []) (printed_after list)))

pub left-none : (b : Bool) → left_to_print b [] ≡ []
unfolding printed
left-none true = refl
left-none false = refl

module _ {A B : Type 0} where
  entry-drop : (es : List (Vec ℕ A × Vec ℕ B)) (i : ℕ) (e : Vec ℕ A × Vec ℕ B) → slice_get es i ≡ Some e → drop i es ≡ e ∷ drop (suc i) es
  entry-drop [] zero e h = cc
  entry-drop [] (suc i) e h = cc
  entry-drop (f ∷ es) zero e h =
      let same : f ≡ e = cc in
      ap (λ x. x ∷ es) same
  entry-drop (f ∷ es) (suc i) e h = entry-drop es i e h

  pub print-step : (es : List (Vec ℕ A × Vec ℕ B)) (i : ℕ) (e : Vec ℕ A × Vec ℕ B) (text next all : List ℕ) → slice_get es i ≡ Some e → next ≡ text ++ (gap (eqb i 0) ++ (text_of (record { name = e.0.items; value = e.1.items }) ++ 59 ∷ [])) → text ++ left_to_print (eqb i 0) (declarations_of (drop i es)) ≡ all → next ++ left_to_print (eqb (i + 1) 0) (declarations_of (drop (i + 1) es)) ≡ all
  print-step es i e text next all at is left =
      let d : Declaration = record { name = e.0.items; value = e.1.items } in
      let more : i + 1 ≡ suc i = omega arith in
      let later : eqb (i + 1) 0 ≡ false = grind (arith, nat_tests) in
      let new : List ℕ = gap (eqb i 0) ++ (text_of d ++ 59 ∷ []) in
      let rest : List Declaration = declarations_of (drop (suc i) es) in
      ap (λ b. next ++ left_to_print b (declarations_of (drop (i + 1) es))) later
      ∙ ap (λ k. next ++ printed_after (declarations_of (drop k es))) more
      ∙ ap (λ x. x ++ printed_after rest) is
      ∙ append_assoc text new (printed_after rest)
      ∙ ap (λ x. text ++ x) (sym (left-first (eqb i 0) d rest))
      ∙ ap (λ x. text ++ left_to_print (eqb i 0) (declarations_of x)) (sym (entry-drop es i e at))
      ∙ left

pub printed-end : {A B : Type 0} (es : List (Vec ℕ A × Vec ℕ B)) (i : ℕ) (text all : List ℕ) → length es ≤ i → text ++ left_to_print (eqb i 0) (declarations_of (drop i es)) ≡ all → text ≡ all
printed-end es i text all h left =
    sym (ap (λ x. text ++ left_to_print (eqb i 0) (declarations_of x)) (drop_all i es h) ∙ ap (λ x. text ++ x) (left-none (eqb i 0)) ∙ append-nil text) ∙ left

-- what is printed, where memory is there
pub print-back : {A E : Type 0} (r : Result (Vec ℕ A) E) (list now : List Declaration) → IfOk r (λ text. text.items ≡ printed list) → IsDistinct bytes_eq (names_of list) → EachReadsBack list → list ≡ now → IfOk r (λ text. declarations_in text.items ≡ now)
print-back (Ok text) list now is distinct back same = ap declarations_in is ∙ read-printed list back distinct ∙ same
print-back (Err e) list now is distinct back same = tt
