-- Loops over the bytes of a text and over the attributes of a tag.
use Rattle.std.proofs.Common.{◌≡◌, ℕ, ◌+◌, ◌<◌, ◌≤◌, Bool, true, false, List, [], ◌∷◌, ◌++◌, length, drop, get_or, Option, Some, None, Result, Ok, Err, refl, sym, ap, subst, ◌∙◌, arith, append_assoc, append-nil, add-one, drop-cons, length-append, cond}
use Rattle.std.specs.Option.{option_map}
use Rattle.std.specs.Result.{IsErrAnd}
use Rattle.std.specs.Str.{all_scalars, bytes_eq}
use Rattle.page_grammar.specs.DomModel.declared.attributes.Attribute.{Attribute}
use Rattle.page_grammar.specs.DomModel.AttributeList.{set_in}
use Rattle.script_read.specs.Reading.{◌>>=◌, cut, split}
use Rattle.std.proofs.Math.ListN.{drop_of_length-le}
use Rattle.script_read.proofs.Tests.{some-is}
use Rattle.script_read.proofs.Cutting.{cut-parts, split-cut, split-uncut}
use Rattle.step_text.specs.declared.line.StepFault.{StepFault}
use Rattle.step_text.specs.declared.line.StepFault.TheVariants.{Syntax, BadLabel, BadPlace, TooDeep, Memory}
use Rattle.step_text.specs.StepLine.{is_attribute_name, AreAttributes}
use Rattle.step_text.specs.StepReading.{Fails, Reads, run, attribute_of, with_attribute, attributes_from, attributes_of}

-- ---- bytes, one after the other

module _ {S : Type 0} where
  -- what was given for the bytes so far, and what the rest gives
  abbrev pub Follows : (S → ℕ → List ℕ) → (S → ℕ → S) → List ℕ → S → List ℕ → List ℕ → Type 0
  Follows gives next out state rest total = out ++ run gives next state rest ≡ total

  pub Follows-more : (gives : S → ℕ → List ℕ) (next : S → ℕ → S) (text : List ℕ) (i : ℕ) (state then_ : S) (out new total : List ℕ) → i < length text
      → then_ ≡ next state (get_or text i 0) → new ≡ out ++ gives state (get_or text i 0) → Follows gives next out state (drop i text) total → Follows gives next new then_ (drop (i + 1) text) total
  unfolding run
  Follows-more gives next text i state then_ out new total within is after before =
      let x = get_or text i 0 in
      let rest : drop i text ≡ x ∷ drop (i + 1) text = rw add-one (drop-cons text i 0 within) in
      let one : run gives next state (drop i text) ≡ gives state x ++ run gives next (next state x) (drop (i + 1) text) = ap (run gives next state) rest in
      ap (λ (s : S). new ++ run gives next s (drop (i + 1) text)) is
      ∙ ap (λ (y : List ℕ). y ++ run gives next (next state x) (drop (i + 1) text)) after
      ∙ append_assoc out (gives state x) (run gives next (next state x) (drop (i + 1) text))
      ∙ ap (λ (y : List ℕ). out ++ y) (sym one) ∙ before

  pub Follows-end : (gives : S → ℕ → List ℕ) (next : S → ℕ → S) (text : List ℕ) (i : ℕ) (state : S) (out total : List ℕ) → length text ≤ i → Follows gives next out state (drop i text) total → out ≡ total
  unfolding run
  Follows-end gives next text i state out total past before =
      let none : drop i text ≡ [] = drop_of_length-le text past in
      sym (append-nil out) ∙ ap (λ (y : List ℕ). out ++ run gives next state y) (sym none) ∙ before

-- ---- attributes

name_same : (x : Attribute) (n v : List ℕ) (list : List Attribute) → AreAttributes (x ∷ list) → is_attribute_name n ≡ true → all_scalars v ≡ true → (t : Bool) → AreAttributes (set_in list n v)
    → AreAttributes (cond t (record { name = x.name; value = v } ∷ list) (x ∷ set_in list n v))
name_same x n v list are name value true more = (are.0, value, are.2)
name_same x n v list are name value false more = (are.0, are.1, more)

pub set_are : (list : List Attribute) (n v : List ℕ) → AreAttributes list → is_attribute_name n ≡ true → all_scalars v ≡ true → AreAttributes (set_in list n v)
set_are [] n v are name value = (name, value, tt)
set_are (x ∷ list) n v are name value = name_same x n v list are name value (bytes_eq n x.name) (set_are list n v are.2 name value)

-- the attributes so far, and what the rest gives
abbrev pub Gathers : List Attribute → List ℕ → Option (List Attribute) → Type 0
Gathers list rest total = attributes_from list (split 34 rest) ≡ total

-- the parts up to the second quote
two_cuts : (head quote more rest : List ℕ) (after : List ℕ) → Some (head, after) ≡ cut 34 rest → Some (quote, more) ≡ cut 34 after → split 34 rest ≡ head ∷ (quote ∷ split 34 more)
two_cuts head quote more rest after one two = split-cut 34 rest (head, after) (sym one) ∙ ap (λ (x : List (List ℕ)). head ∷ x) (split-cut 34 after (quote, more) (sym two))

pub Gathers-first : (list : List Attribute) (text : List ℕ) → list ≡ [] → Gathers list text (attributes_of text)
unfolding attributes_of
Gathers-first list text e = ap (λ (x : List Attribute). attributes_from x (split 34 text)) e

pub Gathers-more : (list new : List Attribute) (head quote more rest after : List ℕ) (total : Option (List Attribute)) → Some (head, after) ≡ cut 34 rest → Some (quote, more) ≡ cut 34 after
    → option_map (with_attribute list) (attribute_of head quote) ≡ Some new → Gathers list rest total → Gathers new more total
Gathers-more list new head quote more rest after total one two adds before =
    let is : attributes_from list (head ∷ (quote ∷ split 34 more)) ≡ attributes_from new (split 34 more) = added (attribute_of head quote) adds in
    sym is ∙ ap (attributes_from list) (sym (two_cuts head quote more rest after one two)) ∙ before
  where
    added : (o : Option Attribute) → option_map (with_attribute list) o ≡ Some new → (o >>= λ a. attributes_from (with_attribute list a) (split 34 more)) ≡ attributes_from new (split 34 more)
    added None e = absurd (cc)
    added (Some a) e = let same : with_attribute list a ≡ new = some-is e in ap (λ (x : List Attribute). attributes_from x (split 34 more)) same

pub Gathers-bad : (list : List Attribute) (head quote more rest after : List ℕ) (total : Option (List Attribute)) (fault : StepFault) → Some (head, after) ≡ cut 34 rest → Some (quote, more) ≡ cut 34 after
    → Fails fault (attribute_of head quote) → Gathers list rest total → Fails fault total
Gathers-bad list head quote more rest after total Syntax one two none before =
    sym before ∙ ap (attributes_from list) (two_cuts head quote more rest after one two) ∙ rw none refl
Gathers-bad list head quote more rest after total BadLabel one two none before = none
Gathers-bad list head quote more rest after total BadPlace one two none before = none
Gathers-bad list head quote more rest after total TooDeep one two none before = none
Gathers-bad list head quote more rest after total Memory one two none before = tt

pub Gathers-open : (list : List Attribute) (head rest after : List ℕ) (total : Option (List Attribute)) → Some (head, after) ≡ cut 34 rest → None ≡ cut 34 after → Gathers list rest total → total ≡ None
Gathers-open list head rest after total one two before =
    let parts : split 34 rest ≡ head ∷ (after ∷ []) = split-cut 34 rest (head, after) (sym one) ∙ ap (λ (x : List (List ℕ)). head ∷ x) (split-uncut 34 after (sym two)) in
    sym before ∙ ap (attributes_from list) parts ∙ nothing (attribute_of head after)
  where
    nothing : (o : Option Attribute) → (o >>= λ a. attributes_from (with_attribute list a) []) ≡ None
    nothing None = refl
    nothing (Some a) = refl

pub Gathers-end : (list : List Attribute) (rest : List ℕ) (total : Option (List Attribute)) → None ≡ cut 34 rest → Gathers list rest total → total ≡ Some list
Gathers-end list rest total none before = sym before ∙ ap (attributes_from list) (split-uncut 34 rest (sym none))

pub shorter : (head quote more rest after : List ℕ) → Some (head, after) ≡ cut 34 rest → Some (quote, more) ≡ cut 34 after → length more < length rest
shorter head quote more rest after one two =
    let a : length rest ≡ length (head ++ 34 ∷ after) = ap length (cut-parts 34 rest (head, after) (sym one)) in
    let b : length after ≡ length (quote ++ 34 ∷ more) = ap length (cut-parts 34 after (quote, more) (sym two)) in
    omega (arith, a, b, length-append head (34 ∷ after), length-append quote (34 ∷ more))

pub cut_within : (c : ℕ) (text before after : List ℕ) → Some (before, after) ≡ cut c text → length before ≤ length text
cut_within c text before after e =
    let a : length text ≡ length (before ++ c ∷ after) = ap length (cut-parts c text (before, after) (sym e)) in
    omega (arith, a, length-append before (c ∷ after))

-- ---- faults

pub exit_reads : {X : Type 0} (r : Result X StepFault) (e : StepFault) (read : Option X) → IsErrAnd r (λ y. y ≡ e) → Fails e read → Reads r read
exit_reads (Ok x) e read h fails = absurd h
exit_reads (Err y) e read h fails = subst (λ (z : StepFault). Fails z read) (sym h) fails
