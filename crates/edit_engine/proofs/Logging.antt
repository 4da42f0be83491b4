-- The text of each item of a list that is taken apart, appended, and the texts of steps.
use Rattle.std.proofs.Common.{◌≡◌, ℕ, ◌+◌, List, [], ◌∷◌, ◌++◌, length, map, Result, Ok, Err, refl, sym, ap, ◌∙◌, append_assoc, append-nil, arith}
use Rattle.std.specs.List.{flat_map}
use Rattle.std.specs.Prelude.{OnOk}
use Rattle.std.proofs.lemmas.Grind.{flat_map-append}
use Rattle.std.proofs.lemmas.List.Folds.{flat_map-map}
use Rattle.inline_value.specs.EditDoc.Logged.{Logged}
use Rattle.inline_value.specs.EditDoc.declared.logged.LoggedEdit.{LoggedEdit}
use Rattle.inline_value.specs.EditDoc.declared.logged.MadeNode.{MadeNode}
use Rattle.step_text.specs.declared.line.StepLine.TheVariants as steps
use Rattle.edit_engine.specs.Logs.{made_steps, edit_step, entry_steps, step_line, step_lines}

module _ {X : Type 0} where
  -- what is written, the number of items that are left, and all that comes to be written
  abbrev pub Written : (X → List ℕ) → List ℕ → ℕ → List X → List ℕ → Type 0
  Written g bytes left items all = record {
    text : bytes ++ flat_map g items ≡ all;
    left : left ≡ length items;
  }

  -- the text of one item more
  pub written_more : (g : X → List ℕ) (bytes new all : List ℕ) (left less : ℕ) (items rest : List X) (x : X)
      → Written g bytes left items all → items ≡ x ∷ rest → less + 1 ≡ left → new ≡ bytes ++ g x → Written g new less rest all
  written_more g bytes new all left less items rest x before is gone after = record {
    text = ap (λ b. b ++ flat_map g rest) after ∙ append_assoc bytes (g x) (flat_map g rest) ∙ ap (λ xs. bytes ++ flat_map g xs) (sym is) ∙ before.text;
    left = (
        let was = before.left in
        let short = ap length is in
        omega (arith, was, gone, short));
  }

  -- no item is left of all
  pub written_all : (g : X → List ℕ) (start bytes : List ℕ) (left : ℕ) (items given xs : List X)
      → Written g bytes left items (start ++ flat_map g given) → left ≡ 0 → given ≡ xs → bytes ≡ start ++ flat_map g xs
  written_all g start bytes left [] given xs before none is = sym (append-nil bytes) ∙ before.text ∙ ap (λ items. start ++ flat_map g items) is
  written_all g start bytes left (x ∷ items) given xs before none is = absurd (let was = before.left in omega (arith, was, none))

  flat_map_twice : {Y : Type 0} (f : Y → List ℕ) (g : X → List Y) (xs : List X) → flat_map f (flat_map g xs) ≡ flat_map (λ x. flat_map f (g x)) xs
  flat_map_twice f g [] = refl
  flat_map_twice f g (x ∷ xs) = flat_map-append f (g x) (flat_map g xs) ∙ ap (λ t. flat_map f (g x) ++ t) (flat_map_twice f g xs)

-- ---- the texts of steps

abbrev pub made_text : MadeNode → List ℕ
made_text node = step_lines (made_steps node)

abbrev pub edit_text : LoggedEdit → List ℕ
edit_text edit = step_line (edit_step edit)

abbrev pub entry_text : Logged → List ℕ
entry_text entry = step_lines (entry_steps entry)

pub made_texts : (nodes : List MadeNode) → step_lines (flat_map made_steps nodes) ≡ flat_map made_text nodes
unfolding step_lines
made_texts nodes = flat_map_twice step_line made_steps nodes

pub edit_texts : (edits : List LoggedEdit) → step_lines (map edit_step edits) ≡ flat_map edit_text edits
unfolding step_lines
edit_texts edits = flat_map-map step_line edit_step edits

pub entry_texts : (entries : List Logged) → step_lines (flat_map entry_steps entries) ≡ flat_map entry_text entries
unfolding step_lines
entry_texts entries = flat_map_twice step_line entry_steps entries

-- an entry is its own line, those of the nodes that were made, and those of the edits
entry_parts : (entry : Logged) → entry_text entry ≡ step_line steps.Entry ++ (step_lines (flat_map made_steps entry.made) ++ step_lines (map edit_step entry.edits))
unfolding step_lines entry_steps
entry_parts entry = ap (λ t. step_line steps.Entry ++ t) (flat_map-append step_line (flat_map made_steps entry.made) (map edit_step entry.edits))

pub entry_pushed : {E : Type 0} (result : Result (Unit {0}) E) (entry : Logged) (old one two new : List ℕ) (made : List MadeNode) (edits : List LoggedEdit)
    → made ≡ entry.made → edits ≡ entry.edits → one ≡ old ++ step_line steps.Entry → two ≡ one ++ step_lines (flat_map made_steps made)
    → OnOk result (new ≡ two ++ step_lines (map edit_step edits)) → OnOk result (new ≡ old ++ entry_text entry)
entry_pushed (Err fault) entry old one two new made edits em ee e1 e2 e3 = tt
entry_pushed (Ok x) entry old one two new made edits em ee e1 e2 e3 =
    let a = step_line steps.Entry in
    let b = step_lines (flat_map made_steps made) in
    let c = step_lines (map edit_step edits) in
    let parts : a ++ (b ++ c) ≡ entry_text entry = rw (em, ee) (sym (entry_parts entry)) in
    e3 ∙ ap (λ t. t ++ c) (e2 ∙ ap (λ t. t ++ b) e1) ∙ append_assoc (old ++ a) b c ∙ append_assoc old a (b ++ c) ∙ ap (λ t. old ++ t) parts
