-- What the run of a command leaves of the labels and the kinds of nodes, and of which nodes it changes characters.
use Rattle.std.proofs.Common.{◌≡◌, ◌⊎◌, ℕ, ◌≤◌, Bool, true, false, true≢false, List, [], ◌∷◌, Option, Some, None, refl, sym, subst, ◌∙◌, inl, inr, arith}
use Rattle.std.specs.Option.{option_map, option_map_or}
use Rattle.std.proofs.lemmas.Bool.{cases_lt}
use Rattle.edit_model.specs.DomModel.declared.Content.{Content}
use Rattle.edit_model.specs.DomModel.declared.Content.TheVariants as content
use Rattle.edit_model.specs.DomModel.Forest.{Forest, content_of}
use Rattle.edit_model.proofs.DomModel.Stands.{true_or_false}
use Rattle.inline_value.specs.ForestChanges.Change.{Change, Remove, Insert, Move, SetText, Splice, SetAttributes}
use Rattle.inline_value.specs.ForestChanges.Named.{Each}
use Rattle.inline_value.proofs.ForestChanges.ChangeLists.{each_join, each_of}
use Rattle.edit_model.specs.State.{State}
use Rattle.edit_model.specs.Tail.{Step, Copy, Do}
use Rattle.edit_model.specs.Edit.{changed, with_change}
use Rattle.edit_model.specs.Action as action
use Rattle.edit_model.specs.Action.{Action, made, applied, stepped, tail_of, may_extract}
use Rattle.edit_model.specs.History.{document_of, begun, rested}
use Rattle.edit_model.specs.Run.{Reaches, here, onward, changes_of, changes_on, nodes_in, nodes_of, nodes_on}
use Rattle.edit_model.specs.Valid.{IsValid}
use Rattle.edit_model.proofs.CommandParts.{command_along}
use Rattle.edit_model.proofs.Commands.{valid_begun}
use Rattle.edit_model.proofs.EditLists.{adds_along}
use Rattle.edit_model.proofs.Steps.{next_along}
use Rattle.edit_model.proofs.ValidRuns.{valid_along}
use Rattle.edit_laws.specs.Kinds.{Text, kind_in, kind_of, SameKinds, DrawsKinds}
use Rattle.edit_laws.proofs.StayingKinds.{kind_along, kinds_at_rest}
use Rattle.step_text.specs.Applying.{is_text}
use Rattle.edit_engine.specs.PlainRuns.{ChangeTextsOn}
use Rattle.edit_engine.specs.Replaying.{can_be_made, ChangesText}
use Rattle.edit_engine.proofs.PlainRuns.{runs_are_plain}
use Rattle.replay_laws.proofs.RunsFit.{LeadTo, run_led}

abbrev pub CanBeMade : ℕ × Content → Type 0
CanBeMade n = can_be_made n.1 ≡ true

abbrev pub IsFrom : ℕ → ℕ × Content → Type 0
IsFrom low n = low ≤ n.0

-- a node is a text of the forest, or its label is from `low` on
abbrev pub IsTextOrNew : Forest Content → ℕ → ℕ → Type 0
IsTextOrNew f low n = (kind_of f n ≡ Some Text) ⊎ (low ≤ n)

-- a change of characters is one of such a node
abbrev pub NamesTexts : Forest Content → ℕ → Change → Type 0
NamesTexts f low (SetText n words) = IsTextOrNew f low n
NamesTexts f low (Splice n at rest taken put) = IsTextOrNew f low n
NamesTexts f low _ = Unit {0}

-- ---- texts

text_kind : (o : Option Content) → option_map_or is_text o false ≡ true → option_map kind_in o ≡ Some Text
text_kind None t = absurd (true≢false (sym t))
text_kind (Some content.Document) t = absurd (true≢false (sym t))
text_kind (Some (content.Element name list)) t = absurd (true≢false (sym t))
text_kind (Some (content.Words chars)) t = refl
text_kind (Some (content.Remark chars)) t = absurd (true≢false (sym t))

-- what is a text on the way was one, or its label was drawn since
text_or_new : (s t : State) → Reaches s t → IsValid s → (n : ℕ) → option_map_or is_text (content_of t.trees n) false ≡ true → IsTextOrNew s.trees s.next n
text_or_new s t r is n text = elim (cases_lt n s.next) [
  | inl low ↦ inl (sym (kind_along n r is low) ∙ text_kind (content_of t.trees n) text)
  | inr high ↦ inr high
]

names_one : (s t : State) → Reaches s t → IsValid s → (x : Change) → ChangesText (content_of t.trees) x → NamesTexts s.trees s.next x
names_one s t r is (SetText n words) text = text_or_new s t r is n text
names_one s t r is (Splice n at rest taken put) text = text_or_new s t r is n text
names_one s t r is (Remove n) text = tt
names_one s t r is (Insert n p b) text = tt
names_one s t r is (Move n p b) text = tt
names_one s t r is (SetAttributes n list) text = tt

names_along : {s t : State} (r : Reaches s t) → IsValid s → ChangeTextsOn r → Each (NamesTexts s.trees s.next) (changes_on r)
unfolding changes_on
names_along here is h = tt
names_along {s = s} (onward {t = t} q a) is h =
    let P = NamesTexts s.trees s.next in
    each_join P (changes_on q) (changes_of a t) (names_along q is h.0)
    (each_of (ChangesText (content_of t.trees)) P (changes_of a t) (λ x text. names_one s t q is x text) h.1)

-- ---- labels

drawn_in : (low : ℕ) (xs : List Step) (s : State) → low ≤ s.next → Each (IsFrom low) (nodes_in xs s)
unfolding stepped made applied with_change changed
drawn_in low [] s le = tt
drawn_in low (Copy c ∷ xs) s le = (le, drawn_in low xs (stepped (Copy c) s) (omega (arith, le)))
drawn_in low (Do e ∷ xs) s le = drawn_in low xs (stepped (Do e) s) le

drawn_of : (low : ℕ) (a : Action) (s : State) → low ≤ s.next → Each (IsFrom low) (nodes_of a s)
drawn_of low (action.Change e) s le = tt
drawn_of low (action.Extract from end target) s le = elim (true_or_false (may_extract s from end target)) [
  | inl t ↦ rw t (drawn_in low (tail_of s from end target) s le)
  | inr t ↦ rw t tt
]
drawn_of low (action.MakeElement name list) s le = (le, tt)
drawn_of low (action.MakeWords chars) s le = (le, tt)
drawn_of low (action.Select anchor focus) s le = tt
drawn_of low (action.Extend focus) s le = tt
drawn_of low action.Unselect s le = tt
drawn_of low (action.Grow at) s le = tt
drawn_of low (action.Send node at tail) s le = tt
drawn_of low (action.Scratch pair) s le = tt
drawn_of low (action.Override command setting) s le = tt
drawn_of low (action.Flag flags) s le = tt

drawn_along : {s t : State} (low : ℕ) (r : Reaches s t) → low ≤ s.next → Each (IsFrom low) (nodes_on r)
unfolding nodes_on
drawn_along low here le = tt
drawn_along {s = s} low (onward {t = t} q a) le =
    each_join (IsFrom low) (nodes_on q) (nodes_of a t) (drawn_along low q le)
    (drawn_of low a t (let up = next_along q in omega (arith, le, up)))

-- ---- a run

pub record Leaves (s t : State) : Type 0 where
  pub valid : IsValid t
  pub next : s.next ≤ t.next
  pub cap : t.cap ≡ s.cap
  pub made : Each CanBeMade t.made
  pub drawn : Each (IsFrom s.next) t.made
  pub texts : Each (NamesTexts s.trees s.next) t.edits
  pub same : SameKinds s.trees (document_of t.trees)
  pub new : DrawsKinds s.next t.next s.trees (document_of t.trees)
  pub lead : LeadTo s.trees s.next t.trees t.edits t.made t.next

pub run_leaves : (s t : State) (host : Option ℕ) (keeping : Bool) → IsValid s → Reaches (begun host keeping s) t → Leaves s t
unfolding begun rested
run_leaves s t host keeping is r =
    let b = begun host keeping s in
    let begins = valid_begun host keeping s is in
    let plain = runs_are_plain b t r in
    let lists = adds_along r in
    let kinds = kinds_at_rest s t host keeping is r in
    record {
      valid = valid_along r begins;
      next = next_along r;
      cap = (command_along r).cap;
      made = subst (λ (w : List (ℕ × Content)). Each CanBeMade w) (sym lists.1) plain.0;
      drawn = subst (λ (w : List (ℕ × Content)). Each (IsFrom s.next) w) (sym lists.1) (drawn_along s.next r (omega arith));
      texts = subst (λ (w : List Change). Each (NamesTexts s.trees s.next) w) (sym lists.0) (names_along r begins plain.1);
      same = kinds.0;
      new = kinds.1;
      lead = run_led s t host keeping is r;
    }
