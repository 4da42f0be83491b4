-- The lines of an entry, one after another: none is refused, and they make the nodes and then the changes of the entry.
use Rattle.std.proofs.Common.{◌≡◌, ℕ, ◌+◌, ◌≤◌, Bool, true, false, true≢false, cond, map, List, [], ◌∷◌, ◌++◌, length, Option, Some, None, Ok, unwrap_or, refl, sym, ap, subst, ◌∙◌, arith, eqb}
use Rattle.std.specs.Option.{option_map, option_map_or, option_and_then}
use Rattle.edit_model.specs.DomModel.declared.attributes.Attribute.{Attribute}
use Rattle.edit_model.specs.DomModel.declared.Content.{Content}
use Rattle.edit_model.specs.DomModel.declared.Content.TheVariants.{Document, Element, Words, Remark}
use Rattle.edit_model.specs.DomModel.Contents.{is_element, is_element_at, name_in, name_of, with_chars, with_attributes}
use Rattle.edit_model.specs.DomModel.Document.{page_depth}
use Rattle.edit_model.specs.DomModel.Forest.{Forest, parent_of, content_of, with_leaf, unlink}
use Rattle.edit_model.specs.DomModel.Places.{levels, kids_in}
use Rattle.edit_model.specs.DomModel.Revised.{revised}
use Rattle.edit_model.specs.DomModel.Pruned.{pruned}
use Rattle.edit_model.proofs.DomModel.Kept.{content_of-link, content_of-unlink}
use Rattle.edit_model.proofs.DomModel.Revising.{content_of-revised}
use Rattle.edit_model.proofs.DomModel.Pruning.{tree_of-pruned}
use Rattle.inline_value.specs.UndoLog.Turning.{forth, FitsForth}
use Rattle.inline_value.specs.ForestChanges.Change.{Change, Remove, Insert, Move, SetText, Splice, SetAttributes, IsForest, Fits, applied, spliced_at, whole, wholes}
use Rattle.inline_value.specs.ForestChanges.Down.{Prunes, IsLeft}
use Rattle.inline_value.specs.ForestChanges.Named.{Each, named}
use Rattle.inline_value.proofs.ForestChanges.Contents.{here_is}
use Rattle.inline_value.proofs.ForestChanges.DownChange.{down, up, IsForest-pruned}
use Rattle.inline_value.proofs.ForestChanges.PrunedChanges.{content_of-pruned}
use Rattle.inline_value.proofs.ForestChanges.Twice.{given_parent, IsForest-unlink, IsForest-applied}
use Rattle.inline_value.proofs.ForestChanges.Wholes.{applied_whole}
use Rattle.inline_value.proofs.EditDoc.Onwards.{below_past}
use Rattle.step_text.specs.declared.line.Made.{Made}
use Rattle.step_text.specs.declared.line.Made.TheVariants as made
use Rattle.step_text.specs.declared.line.StepLine.{StepLine}
use Rattle.step_text.specs.declared.line.StepLine.TheVariants as steps
use Rattle.step_text.specs.Applying.{Labelled, is_text, made_content, replayed_from}
use Rattle.step_text.specs.Replaying.{CanSay, line_of}
use Rattle.step_text.proofs.Replays.{change_led, make_led, one_led}
use Rattle.inline_value.specs.EditDoc.Logged.{element_name}
use Rattle.inline_value.specs.EditDoc.Onward.{with_made, RiseFrom, next_past}
use Rattle.edit_engine.specs.Logs.{content_steps}
use Rattle.edit_engine.specs.Replaying.{can_be_made, ChangesText, StayShallow}

-- ---- what changes leave of a content

-- a content without characters and attributes
pub stripped : Content → Content
stripped Document = Document
stripped (Element name list) = Element name []
stripped (Words chars) = Words []
stripped (Remark chars) = Remark []

stripped_chars : (words : List ℕ) (c : Content) → stripped (with_chars words c) ≡ stripped c
unfolding stripped
stripped_chars words Document = refl
stripped_chars words (Element name list) = refl
stripped_chars words (Words chars) = refl
stripped_chars words (Remark chars) = refl

stripped_attributes : (list : List Attribute) (c : Content) → stripped (with_attributes list c) ≡ stripped c
unfolding stripped
stripped_attributes list Document = refl
stripped_attributes list (Element name own) = refl
stripped_attributes list (Words chars) = refl
stripped_attributes list (Remark chars) = refl

stripped_revised : (f : Forest Content) (n : ℕ) (g : Content → Content) → ((c : Content) → stripped (g c) ≡ stripped c) → (l : ℕ) → option_map stripped (content_of (revised f n g) l) ≡ option_map stripped (content_of f l)
stripped_revised f n g same l = ap (option_map stripped) (content_of-revised n g f l) ∙ by_content (content_of f l)
  where
    by_test : (b : Bool) (c : Content) → stripped (cond b (g c) c) ≡ stripped c
    by_test true c = same c
    by_test false c = refl

    by_content : (o : Option Content) → option_map stripped (option_map (λ c. cond (eqb n l) (g c) c) o) ≡ option_map stripped o
    by_content None = refl
    by_content (Some c) = ap Some (by_test (eqb n l) c)

-- a change leaves the rest of all contents
stripped_kept : (x : Change) (f : Forest Content) → Fits x f → (l : ℕ) → option_map stripped (content_of (applied x f) l) ≡ option_map stripped (content_of f l)
unfolding applied
stripped_kept (Remove n) f h l = ap (option_map stripped) (content_of-unlink f (unwrap_or (parent_of f n) 0) n l h.forest.distinct (given_parent f n h.here))
stripped_kept (Insert n p b) f h l = ap (option_map stripped) (content_of-link f p b n l h.forest.distinct h.here.place)
stripped_kept (Move n p b) f h l =
    let q = unwrap_or (parent_of f n) 0 in
    let child = given_parent f n h.here.0 in
    let loose = IsForest-unlink f q n h.forest child in
    ap (option_map stripped) (content_of-link (unlink f n) p b n l loose.distinct h.here.1.place ∙ content_of-unlink f q n l h.forest.distinct child)
stripped_kept (SetText n words) f h l = stripped_revised f n (with_chars words) (stripped_chars words) l
stripped_kept (Splice n at rest taken put) f h l = (let words = spliced_at f n at (length taken) put in stripped_revised f n (with_chars words) (stripped_chars words) l)
stripped_kept (SetAttributes n list) f h l = stripped_revised f n (with_attributes list) (stripped_attributes list) l

-- each node of a forest has the content that is told, but for characters and attributes
pub record AreContents (content : ℕ → Option Content) (f : Forest Content) : Type 0 where
  pub are : (l : ℕ) → option_map stripped (content_of f l) ≡ option_map stripped (content l)

pub own_contents : (f : Forest Content) (content : ℕ → Option Content) → ((l : ℕ) → content_of f l ≡ content l) → AreContents content f
own_contents f content same = record { are = λ l. ap (option_map stripped) (same l) }

contents_kept : (content : ℕ → Option Content) (x : Change) (f : Forest Content) → Fits x f → AreContents content f → AreContents content (applied x f)
contents_kept content x f h own = record { are = λ l. stripped_kept x f h l ∙ own.are l }

-- a name is left, and whether there is a text
name_left : (o : Option Content) → option_and_then name_in (option_map stripped o) ≡ option_and_then name_in o
unfolding stripped
name_left None = refl
name_left (Some Document) = refl
name_left (Some (Element name list)) = refl
name_left (Some (Words chars)) = refl
name_left (Some (Remark chars)) = refl

text_left : (o : Option Content) → option_map_or is_text (option_map stripped o) false ≡ option_map_or is_text o false
unfolding stripped
text_left None = refl
text_left (Some Document) = refl
text_left (Some (Element name list)) = refl
text_left (Some (Words chars)) = refl
text_left (Some (Remark chars)) = refl

element_named : (c : Content) → is_element c ≡ true → (name : List ℕ) × (name_in c ≡ Some name)
element_named Document t = absurd (true≢false (sym t))
element_named (Element name list) t = (name, refl)
element_named (Words chars) t = absurd (true≢false (sym t))
element_named (Remark chars) t = absurd (true≢false (sym t))

-- an element has the name that is told
named_so : (f : Forest Content) (n : ℕ) (o : Option Content) → is_element_at f n ≡ true → option_map stripped (content_of f n) ≡ option_map stripped o → name_of f n ≡ Some (element_name o)
named_so f n o t e =
    let c = here_is is_element (content_of f n) t in
    let x = element_named c.0 c.2 in
    let name : name_of f n ≡ Some x.0 = ap (option_and_then name_in) c.1 ∙ x.1 in
    let same : option_and_then name_in o ≡ name_of f n = sym (name_left o) ∙ (sym (ap (option_and_then name_in) e) ∙ name_left (content_of f n)) in
    name ∙ ap Some (sym (ap (λ w. unwrap_or w []) (same ∙ name)))

-- ---- lines

abbrev pub lab : Forest Content → ℕ → ℕ → Labelled
lab f next cap = record { trees = f; next = next; cap = cap }

abbrev pub node_in : Change → ℕ
node_in (Remove n) = n
node_in (Insert n p b) = n
node_in (Move n p b) = n
node_in (SetText n words) = n
node_in (Splice n at rest taken put) = n
node_in (SetAttributes n list) = n

-- the line of a change, where each element has the name that its content tells
abbrev pub line_with : (ℕ → Option Content) → Change → StepLine
line_with content x = line_of x (element_name (content (node_in x)))

-- ---- changes with whole contents

-- the change isn't one of a part of the characters, and one of all of them is one of a text, where each node has the content that is told
abbrev pub CanBeSaid : (ℕ → Option Content) → Change → Type 0
CanBeSaid content (SetText n words) = option_map_or is_text (content n) false ≡ true
CanBeSaid content (Splice n at rest taken put) = ⊥
CanBeSaid content _ = Unit {0}

said_whole : (content : ℕ → Option Content) (x : Change) (f : Forest Content) → ChangesText content x → CanBeSaid content (whole x f)
said_whole content (Remove n) f text = tt
said_whole content (Insert n p b) f text = tt
said_whole content (Move n p b) f text = tt
said_whole content (SetText n words) f text = text
said_whole content (Splice n at rest taken put) f text = text
said_whole content (SetAttributes n list) f text = tt

pub said_wholes : (content : ℕ → Option Content) (xs : List Change) (f : Forest Content) → Each (ChangesText content) xs → Each (CanBeSaid content) (wholes xs f)
unfolding wholes
said_wholes content [] f texts = tt
said_wholes content (x ∷ xs) f texts = (said_whole content x f texts.0, said_wholes content xs (applied x f) texts.1)

pub shallow_wholes : (xs : List Change) (f : Forest Content) → StayShallow xs f → StayShallow (wholes xs f) f
unfolding wholes
shallow_wholes [] f shallow = tt
shallow_wholes (x ∷ xs) f shallow =
    subst (λ (g : Forest Content). (page_depth g ≤ 1000) × StayShallow (wholes xs (applied x f)) g) (sym (applied_whole x f)) (shallow.0, shallow_wholes xs (applied x f) shallow.1)

-- ---- lines of changes, where trees are pruned

module _ (k : ℕ → Bool) (content : ℕ → Option Content) where
  can_say : (x : Change) (f : Forest Content) → IsForest f → Each (IsLeft k f) (named x) → Fits x (pruned k f) → CanBeSaid content x → AreContents content (pruned k f) → CanSay x (element_name (content (node_in x))) f
  can_say (Remove n) f is left h text own = tt
  can_say (Insert n p b) f is left h text own = tt
  can_say (Move n p b) f is left h text own = tt
  can_say (SetText n words) f is left h text own =
      ap (λ o. option_map_or is_text o false) (sym (content_of-pruned k f n is left.0))
      ∙ (sym (text_left (content_of (pruned k f) n)) ∙ (ap (λ o. option_map_or is_text o false) (own.are n) ∙ (text_left (content n) ∙ text)))
  can_say (Splice n at rest taken put) f is left h text own = absurd text
  can_say (SetAttributes n list) f is left h text own =
      ap (option_and_then name_in) (sym (content_of-pruned k f n is left.0)) ∙ named_so (pruned k f) n (content n) h.here.0 (own.are n)

  same_depth : (f : Forest Content) → k 0 ≡ false → IsForest f → page_depth (pruned k f) ≡ page_depth f
  same_depth f keeps is = ap (λ t. levels (kids_in t)) (tree_of-pruned k f 0 is.distinct (IsForest-pruned k f keeps is).document)

  record Steps (xs : List Change) (g : Forest Content) : Type 0 where
    fits : FitsForth applied Fits xs g
    shallow : StayShallow xs g
    own : AreContents content g

  pub edits_replayed : (xs : List Change) (f : Forest Content) (next cap : ℕ) (rest : List StepLine) (r : Labelled) → Prunes k f → IsForest f
      → FitsForth applied Fits xs (pruned k f) → Each (CanBeSaid content) xs → StayShallow xs (pruned k f) → AreContents content (pruned k f)
      → ((m : ℕ) → replayed_from m rest (lab (forth applied xs f) next cap) ≡ Ok r) → (m : ℕ) → replayed_from m (map (line_with content) xs ++ rest) (lab f next cap) ≡ Ok r
  unfolding forth FitsForth
  edits_replayed [] f next cap rest r prunes is fits texts shallow own onward m = onward m
  edits_replayed (x ∷ xs) f next cap rest r prunes is fits texts shallow own onward m =
      let u = up k x f prunes is fits.0 in
      let d = down k x f prunes u.0 u.1 in
      let g = applied x f in
      let isg = IsForest-applied x f u.0 in
      let deep : page_depth g ≡ page_depth (applied x (pruned k f)) = sym (same_depth g prunes.document isg) ∙ ap page_depth d.same in
      let led = change_led x (element_name (content (node_in x))) (lab f next cap) u.0 (can_say x f is u.1 fits.0 texts.0 own) (let low = shallow.0 in omega (arith, deep, low)) in
      let s : Steps xs (pruned k g) = subst (λ (w : Forest Content). Steps xs w) (sym d.same) (record { fits = fits.1; shallow = shallow.1; own = contents_kept content x (pruned k f) fits.0 own }) in
      one_led m (line_with content x) (map (line_with content) xs ++ rest) (lab f next cap) (lab g next cap) led
      ∙ edits_replayed xs g next cap rest r d.prunes isg s.fits texts.1 s.shallow s.own onward (m + 1)

-- ---- lines of nodes that were made

abbrev pub made_lines : List (ℕ × Content) → List StepLine
made_lines [] = []
made_lines (n ∷ ns) = content_steps n.0 n.1 ++ made_lines ns

made_one : (l : ℕ) (c : Content) → can_be_made c ≡ true → (x : Made) × (content_steps l c ≡ steps.Make l x ∷ []) × (made_content x ≡ c)
made_one l Document t = absurd (true≢false (sym t))
made_one l (Element name list) t = (made.Element name list, refl, refl)
made_one l (Words chars) t = (made.Words chars, refl, refl)
made_one l (Remark chars) t = absurd (true≢false (sym t))

pub makes_replayed : (ns : List (ℕ × Content)) (f : Forest Content) (next cap : ℕ) (rest : List StepLine) (r : Labelled) → RiseFrom next ns → next_past next ns ≤ cap → Each (λ (n : ℕ × Content). can_be_made n.1 ≡ true) ns
    → ((m : ℕ) → replayed_from m rest (lab (with_made f ns) (next_past next ns) cap) ≡ Ok r) → (m : ℕ) → replayed_from m (made_lines ns ++ rest) (lab f next cap) ≡ Ok r
makes_replayed [] f next cap rest r rise low can onward m = onward m
makes_replayed (n ∷ ns) f next cap rest r rise low can onward m =
    let one = made_one n.0 n.1 can.0 in
    let more = below_past ns (n.0 + 1) rise.1 in
    let led = make_led n.0 one.0 (lab f next cap) rise.0 (omega (arith, more, low)) in
    ap (λ (w : List StepLine). replayed_from m ((w ++ made_lines ns) ++ rest) (lab f next cap)) one.1
    ∙ (one_led m (steps.Make n.0 one.0) (made_lines ns ++ rest) (lab f next cap) (lab (with_leaf f n.0 (made_content one.0)) (n.0 + 1) cap) led
    ∙ (ap (λ w. replayed_from (m + 1) (made_lines ns ++ rest) (lab (with_leaf f n.0 w) (n.0 + 1) cap)) one.2
    ∙ makes_replayed ns (with_leaf f n.0 n.1) (n.0 + 1) cap rest r rise.1 low can.1 onward (m + 1)))
