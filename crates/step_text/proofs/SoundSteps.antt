-- What is read as a step is a step that lines stand for.
use Rattle.std.proofs.Common.{◌≡◌, ◌↔◌, ℕ, Bool, true, false, cond, List, [], ◌∷◌, codes, Option, Some, None, IfSome, refl, sym, ap, subst, ◌∙◌}
use Rattle.std.specs.Bool.{Decides}
use Rattle.std.specs.Option.{option_map}
use Rattle.std.specs.Str.{all_scalars, bytes_eq, chars, is_utf8}
use Rattle.std.proofs.lemmas.Slice.Eq.{bytes_eq-Decides}
use Rattle.std.proofs.lemmas.Str.{scalars-chars, IsUtf8-from_is_utf8}
use Rattle.page_grammar.specs.DomModel.declared.attributes.Attribute.{Attribute}
use Rattle.page_grammar.specs.DomModel.AttributeList.{IsDistinctNames}
use Rattle.page_grammar.proofs.DomModel.AttributeLemmas.{distinct-nothing, distinct-set}
use Rattle.script_read.specs.Reading.{◌>>=◌, cut, split, number_of}
use Rattle.script_read.proofs.Tests.{some-is}
use Rattle.script_read.proofs.Values.{text_sound, spelled_scalars}
use Rattle.step_text.specs.declared.line.Made.TheVariants as made
use Rattle.step_text.specs.declared.line.StepLine.{StepLine}
use Rattle.step_text.specs.declared.line.StepLine.TheVariants.{Entry, Words}
use Rattle.step_text.specs.StepLine.{is_element_name, is_attribute_name, IsLabel, AreAttributes, IsTag, IsMade, IsStepLine, line_text}
use Rattle.step_text.specs.StepReading.{within, unescaped, unreferenced, decoded, element_name_of, attribute_name_of, attribute_of, with_attribute, attributes_from, attributes_of, tag_parts, start_tag_of, tag_of, words_of, is_quoted, made_of, before_of, labelled, place_of, make_of, insert_of, remove_of, move_of, words_step_of, tag_step_of, arguments_of, parts_of, step_of, confirmed, step_in}
use Rattle.step_text.proofs.Loops.{set_are}
use Rattle.step_text.proofs.Steps.{label_sound, step_back}

-- ---- what is read is so, where each part is

each_so : {A : Type 0} (P : A → Type 0) (o : Option A) → ((x : A) → o ≡ Some x → P x) → IfSome o P
each_so P None h = tt
each_so P (Some x) h = h x refl

any_so : {A : Type 0} (o : Option A) → IfSome o (λ x. Unit {0})
any_so None = tt
any_so (Some x) = tt

bound_so : {A B : Type 0} (P : A → Type 0) (Q : B → Type 0) (o : Option A) (f : A → Option B) → IfSome o P
    → ((x : A) → P x → IfSome (f x) Q) → IfSome (o >>= f) Q
bound_so P Q None f p h = tt
bound_so P Q (Some x) f p h = h x p

mapped_so : {A B : Type 0} (P : A → Type 0) (Q : B → Type 0) (o : Option A) (f : A → B) → IfSome o P
    → ((x : A) → P x → Q (f x)) → IfSome (option_map f o) Q
mapped_so P Q None f p h = tt
mapped_so P Q (Some x) f p h = h x p

chosen_so : {A : Type 0} (Q : A → Type 0) (b : Bool) (o p : Option A) → IfSome o Q → IfSome p Q → IfSome (cond b o p) Q
chosen_so Q true o p first second = first
chosen_so Q false o p first second = second

tested_so : {A : Type 0} (Q : A → Type 0) (b : Bool) (x : A) → (b ≡ true → Q x) → IfSome (cond b (Some x) None) Q
tested_so Q true x h = h refl
tested_so Q false x h = tt

-- ---- labels and texts

label_so : (text : List ℕ) → IfSome (number_of text) IsLabel
label_so text = each_so IsLabel (number_of text) (label_sound text)

abbrev HasLabel : ℕ × List ℕ → Type 0
HasLabel p = IsLabel p.0

labelled_so : (text : List ℕ) → IfSome (labelled text) HasLabel
unfolding labelled
labelled_so text =
    bound_so (λ parts. Unit {0}) HasLabel (cut 32 text) (λ parts. option_map (λ label. (label, parts.1)) (number_of parts.0)) (any_so (cut 32 text))
    (λ parts any. mapped_so IsLabel HasLabel (number_of parts.0) (λ label. (label, parts.1)) (label_so parts.0) (λ label is. is))

abbrev IsBefore : Option ℕ → Type 0
IsBefore before = IfSome before IsLabel

before_so : (text : List ℕ) → IfSome (before_of text) IsBefore
before_so text =
    chosen_so IsBefore (bytes_eq text (codes "-")) (Some None) (option_map Some (number_of text)) tt
    (mapped_so IsLabel IsBefore (number_of text) Some (label_so text) (λ label is. is))

abbrev AreScalars : List ℕ → Type 0
AreScalars text = all_scalars text ≡ true

words_so : (text : List ℕ) → IfSome (words_of text) AreScalars
words_so text = each_so AreScalars (words_of text) (λ words is. spelled_scalars true (within text) words (text_sound true (within text) words is))

-- ---- tags

abbrev IsAttribute : Attribute → Type 0
IsAttribute a = (is_attribute_name a.name ≡ true) × (all_scalars a.value ≡ true)

abbrev AreDistinct : List Attribute → Type 0
AreDistinct list = AreAttributes list × IsDistinctNames list

decoded_so : (bytes : List ℕ) → IfSome (decoded bytes) AreScalars
decoded_so bytes = tested_so AreScalars (is_utf8 bytes) (chars bytes) (λ is. scalars-chars bytes (IsUtf8-from_is_utf8 bytes is))

attribute_so : (head value : List ℕ) → IfSome (attribute_of head value) IsAttribute
unfolding attribute_of
attribute_so head value =
    bound_so (λ name. is_attribute_name name ≡ true) IsAttribute (attribute_name_of (within head)) _ (tested_so (λ name. is_attribute_name name ≡ true) (is_attribute_name (within head)) (within head) (λ is. is))
    (λ name is. bound_so AreScalars IsAttribute (decoded (unreferenced value)) _ (decoded_so (unreferenced value)) (λ chars all. (is, all)))

attributes_so : (list : List Attribute) (parts : List (List ℕ)) → AreDistinct list
    → IfSome (attributes_from list parts) AreDistinct
attributes_so list [] are = tt
attributes_so list (last ∷ []) are = are
attributes_so list (head ∷ (value ∷ parts)) are =
    bound_so IsAttribute AreDistinct (attribute_of head value) (λ a. attributes_from (with_attribute list a) parts) (attribute_so head value)
    (λ a is. attributes_so (with_attribute list a) parts (set_are list a.name a.value are.0 is.0 is.1, distinct-set list a.name a.value are.1))

abbrev IsTagOf : List ℕ × List Attribute → Type 0
IsTagOf tag = IsTag tag.0 tag.1

start_tag_so : (text : List ℕ) → IfSome (start_tag_of text) IsTagOf
unfolding start_tag_of attributes_of
start_tag_so text =
    bound_so (λ name. is_element_name name ≡ true) IsTagOf (element_name_of (tag_parts text).0) _ (tested_so (λ name. is_element_name name ≡ true) (is_element_name (tag_parts text).0) (tag_parts text).0 (λ is. is))
    (λ name is. bound_so AreDistinct IsTagOf (attributes_from [] (split 34 (tag_parts text).1)) _ (attributes_so [] (split 34 (tag_parts text).1) (tt, distinct-nothing)) (λ list are. (is, are.0, are.1)))

tag_so : (text : List ℕ) → IfSome (tag_of text) IsTagOf
tag_so text = start_tag_so (unescaped false text)

-- ---- steps

made_so : (text : List ℕ) → IfSome (made_of text) IsMade
unfolding made_of
made_so text =
    chosen_so IsMade (is_quoted text) (option_map made.Words (words_of text)) (tag_of text >>= λ tag. Some (made.Element tag.0 tag.1))
    (mapped_so AreScalars IsMade (words_of text) made.Words (words_so text) (λ words all. all))
    (bound_so IsTagOf IsMade (tag_of text) _ (tag_so text) (λ tag is. is))

make_so : (text : List ℕ) → IfSome (make_of text) IsStepLine
unfolding make_of
make_so text =
    bound_so HasLabel IsStepLine (labelled text) _ (labelled_so text)
    (λ node label. bound_so IsMade IsStepLine (made_of node.1) _ (made_so node.1) (λ new is. (label, is)))

abbrev IsPlace : ℕ × Option ℕ → Type 0
IsPlace place = IsLabel place.0 × IsBefore place.1

place_so : (text : List ℕ) → IfSome (place_of text) IsPlace
unfolding place_of
place_so text =
    bound_so HasLabel IsPlace (labelled text) _ (labelled_so text)
    (λ parent label. bound_so IsBefore IsPlace (before_of parent.1) _ (before_so parent.1) (λ before is. (label, is)))

insert_so : (text : List ℕ) → IfSome (insert_of text) IsStepLine
unfolding insert_of
insert_so text =
    bound_so HasLabel IsStepLine (labelled text) _ (labelled_so text)
    (λ node label. bound_so IsPlace IsStepLine (place_of node.1) _ (place_so node.1) (λ place is. (label, is.0, is.1)))

move_so : (text : List ℕ) → IfSome (move_of text) IsStepLine
unfolding move_of
move_so text =
    bound_so HasLabel IsStepLine (labelled text) _ (labelled_so text)
    (λ node label. bound_so IsPlace IsStepLine (place_of node.1) _ (place_so node.1) (λ place is. (label, is.0, is.1)))

remove_so : (text : List ℕ) → IfSome (remove_of text) IsStepLine
unfolding remove_of
remove_so text = bound_so IsLabel IsStepLine (number_of text) _ (label_so text) (λ label is. is)

words_step_so : (text : List ℕ) → IfSome (words_step_of text) IsStepLine
unfolding words_step_of
words_step_so text =
    bound_so HasLabel IsStepLine (labelled text) _ (labelled_so text)
    (λ node label. bound_so AreScalars IsStepLine (words_of node.1) _ (words_so node.1) (λ words all. (label, all)))

tag_step_so : (text : List ℕ) → IfSome (tag_step_of text) IsStepLine
unfolding tag_step_of
tag_step_so text =
    bound_so HasLabel IsStepLine (labelled text) _ (labelled_so text)
    (λ node label. bound_so IsTagOf IsStepLine (tag_of node.1) _ (tag_so node.1) (λ tag is. (label, is)))

arguments_so : (word text : List ℕ) → IfSome (arguments_of word text) IsStepLine
unfolding arguments_of
arguments_so word text =
    chosen_so IsStepLine (bytes_eq word (codes "make")) (make_of text) _ (make_so text)
    (chosen_so IsStepLine (bytes_eq word (codes "insert")) (insert_of text) _ (insert_so text)
    (chosen_so IsStepLine (bytes_eq word (codes "remove")) (remove_of text) _ (remove_so text)
    (chosen_so IsStepLine (bytes_eq word (codes "move")) (move_of text) _ (move_so text)
    (chosen_so IsStepLine (bytes_eq word (codes "words")) (words_step_of text) _ (words_step_so text)
    (chosen_so IsStepLine (bytes_eq word (codes "tag")) (tag_step_of text) None (tag_step_so text) tt)))))

parts_so : (line : List ℕ) (o : Option (List ℕ × List ℕ)) → IfSome (parts_of line o) IsStepLine
parts_so line None = tested_so IsStepLine (bytes_eq line (codes "entry")) Entry (λ is. tt)
parts_so line (Some parts) = arguments_so parts.0 parts.1

step_so : (line : List ℕ) → IfSome (step_of line) IsStepLine
unfolding step_of
step_so line = parts_so line (cut 32 line)

-- ---- the step of a line

confirmed_is : (line : List ℕ) (o : Option StepLine) (step : StepLine) → IfSome o IsStepLine
    → confirmed line o ≡ Some step → IsStepLine step × (line_text step ≡ line)
confirmed_is line None step is e = absurd (cc)
confirmed_is line (Some s) step is e = by_test (bytes_eq (line_text s) line) (bytes_eq-Decides (line_text s) line) e
  where
    by_test : (b : Bool) → Decides b (line_text s ≡ line) → cond b (Some s) None ≡ Some step → IsStepLine step × (line_text step ≡ line)
    by_test true d e = subst (λ (t : StepLine). IsStepLine t × (line_text t ≡ line)) (some-is e) (is, d.0 refl)
    by_test false d e = absurd (cc)

confirmed_back : (line : List ℕ) (step : StepLine) → IsStepLine step → line_text step ≡ line → step_in line ≡ Some step
unfolding step_in
confirmed_back line step is same =
    let read : step_of line ≡ Some step = ap step_of (sym same) ∙ step_back step is in
    let test : bytes_eq (line_text step) line ≡ true = (bytes_eq-Decides (line_text step) line).1 same in
    ap (confirmed line) read ∙ rw test refl

step_is : (line : List ℕ) (step : StepLine) → step_in line ≡ Some step → IsStepLine step × (line_text step ≡ line)
unfolding step_in
step_is line step e = confirmed_is line (step_of line) step (step_so line) e

pub step_of_line : (line : List ℕ) (step : StepLine)
    → (step_in line ≡ Some step) ↔ (IsStepLine step × (line_text step ≡ line))
step_of_line line step = (step_is line step, λ is. confirmed_back line step is.0 is.1)
