-- A run that makes no edit leaves the document.
use Rattle.std.proofs.Common.{◌≡◌, ℕ, ◌<◌, Bool, List, [], ◌∷◌, length, Option, refl, ap, ◌∙◌, inl, inr, arith, length-append}
use Rattle.std.proofs.lemmas.Bool.{cases_Bool}
use Rattle.edit_model.specs.DomModel.declared.Content.{Content}
use Rattle.inline_value.proofs.ForestChanges.BesideLeaf.{tree_of-with_leaf}
use Rattle.edit_model.specs.State.{State}
use Rattle.edit_model.specs.Tail.{Step, Copy, Do}
use Rattle.edit_model.specs.Edit.{is_made_edit, changed}
use Rattle.edit_model.specs.Action as action
use Rattle.edit_model.specs.Action.{Action, made, stepped, stepped_all, extracted, tail_of, may_extract, words_content, extended, acted, element_content}
use Rattle.edit_model.specs.History.{document_of, begun}
use Rattle.edit_model.specs.Run.{Reaches, here, onward, changes_in, changes_of, changes_on}
use Rattle.edit_model.proofs.EditLists.{adds_along}
use Rattle.edit_model.proofs.IslandRuns.{trees_left}
use Rattle.edit_model.proofs.OutsideRuns.{trees-extended, trees-selected, trees-grown, trees-sent, trees-scratched}
use Rattle.edit_model.proofs.Steps.{next_along}

-- the document of the second is that of the first
abbrev StaysIn : State → State → Type 0
StaysIn s t = document_of t.trees ≡ document_of s.trees

stays_made : (c : Content) (s : State) → 0 < s.next → StaysIn s (made c s)
unfolding made
stays_made c s some = tree_of-with_leaf s.next c s.trees 0 some

stays_steps : (xs : List Step) (s : State) → 0 < s.next → length (changes_in xs s) ≡ 0 → StaysIn s (stepped_all xs s)
unfolding stepped_all stepped made
stays_steps [] s some none = refl
stays_steps (Copy c ∷ xs) s some none = stays_steps xs (made c s) (omega (arith, some)) none ∙ stays_made c s some
stays_steps (Do e ∷ xs) s some none = absurd (omega (arith, none))

stays_by : (a : Action) (s : State) → (acted a s).trees ≡ s.trees → StaysIn s (acted a s)
stays_by a s same = ap document_of same

stays_acted : (a : Action) (s : State) → 0 < s.next → length (changes_of a s) ≡ 0 → StaysIn s (acted a s)
unfolding acted extended extracted changed
stays_acted (action.Change e) s some none = elim (cases_Bool (is_made_edit e s)) [
  | inl may ↦ absurd (let one : 1 ≡ 0 = rw may at none in omega (arith, one))
  | inr off ↦ stays_by (action.Change e) s (trees_left e s off)
]
stays_acted (action.MakeElement name list) s some none = stays_made (element_content name list) s some
stays_acted (action.MakeWords chars) s some none = stays_made (words_content chars) s some
stays_acted (action.Select anchor focus) s some none = stays_by (action.Select anchor focus) s (trees-selected anchor focus s)
stays_acted (action.Extend focus) s some none = stays_by (action.Extend focus) s (trees-extended s.points.selection focus s)
stays_acted action.Unselect s some none = refl
stays_acted (action.Grow at) s some none = stays_by (action.Grow at) s (trees-grown at s)
stays_acted (action.Send node at tail) s some none = stays_by (action.Send node at tail) s (trees-sent node at tail s)
stays_acted (action.Scratch pair) s some none = stays_by (action.Scratch pair) s (trees-scratched pair s)
stays_acted (action.Override command setting) s some none = refl
stays_acted (action.Flag flags) s some none = refl
stays_acted (action.Extract from end target) s some none = elim (cases_Bool (may_extract s from end target)) [
  | inl may ↦ (
      let none' : length (changes_in (tail_of s from end target) s) ≡ 0 = rw may at none in
      rw may (stays_steps (tail_of s from end target) s some none'))
  | inr off ↦ rw off refl
]

stays_along : {s t : State} (r : Reaches s t) → 0 < s.next → length (changes_on r) ≡ 0 → StaysIn s t
unfolding changes_on
stays_along here some none = refl
stays_along (onward {t = t} q a) some none =
    let parts = length-append (changes_on q) (changes_of a t) in
    let up = next_along q in
    stays_acted a t (omega (arith, some, up)) (omega (arith, none, parts)) ∙ stays_along q some (omega (arith, none, parts))

pub stays_alone : (s t : State) (host : Option ℕ) (keeping : Bool) → 0 < s.next → Reaches (begun host keeping s) t → length t.edits ≡ 0 → document_of t.trees ≡ document_of s.trees
unfolding begun
stays_alone s t host keeping some r none = stays_along r some (let e : length t.edits ≡ length (changes_on r) = ap length (adds_along r).0 in omega (arith, e, none))
