-- The laws of extracting a tail: that it is single edits, and that it keeps the order of what the
-- document bears.
use Rattle.std.specs.Prelude.{◌≡◌, ◌≢◌, ℕ, Bool, true, false, [], Some}
use Rattle.std.specs.Option.{option_map_or}
use Rattle.edit_model.specs.DomModel.declared.Content.{Content}
use Rattle.edit_model.specs.DomModel.Contents.{name_of}
use Rattle.edit_model.specs.DomModel.Forest.{Forest, IsWithin, children_of, next_of, tree_of}
use Rattle.edit_model.specs.LiveRange.declared.places.Point.{Point}
use Rattle.edit_model.specs.PointOrder.PointOrder.{is_within}
use Rattle.edit_model.specs.State.{State}
use Rattle.edit_model.specs.Kept.{leaves, is_thing}
use Rattle.edit_model.specs.Action.{tail_of, may_extract, extracted}
use Rattle.edit_model.specs.History.{document_of}
use Rattle.edit_model.specs.Run.{final}
use Rattle.edit_model.specs.Valid.{IsValid}
use Rattle.caret_laws.specs.SingleEdits.{extracted_singly}
use Rattle.caret_laws.specs.TailRun.{extract_by_edits, GoesAlone, Leave}

-- where a tail may be extracted, the action is the single edits: none of them is left out
abbrev pub TailsAreSingleEdits : Type 0
TailsAreSingleEdits =
    (s : State) (from : Point) (end target : ℕ) → IsValid s → may_extract s from end target ≡ true
    → extracted from end target s ≡ extracted_singly from end target s

-- where the point stands outside the node, both leave the state as it is
abbrev pub TailsOfNothing : Type 0
TailsOfNothing =
    (s : State) (from : Point) (end target : ℕ) → IsValid s
    → is_within s.trees end from.label ≡ false
    → (extracted from end target s ≡ s) × (extracted_singly from end target s ≡ s)

-- and a run of edits with the tests that they have everywhere ends there too, where no island goes
-- along, nor another node that may not be removed by itself
abbrev pub TailsAreRuns : Type 0
TailsAreRuns =
    (s : State) (from : Point) (end target : ℕ) → IsValid s → may_extract s from end target ≡ true
    → Leave (GoesAlone s) (tail_of s from end target)
    → final (extract_by_edits from end target) s ≡ extracted from end target s

-- ---- the order

-- an image or a rule stands at a label
abbrev pub is_thing_at : Forest Content → ℕ → Bool
is_thing_at f l = option_map_or is_thing (name_of f l) false

-- below `end` neither x nor a node that holds x is an image or a rule
abbrev pub AmidNoThing : State → ℕ → ℕ → Type 0
AmidNoThing s end x =
    (l : ℕ) → IsWithin s.trees end l → l ≢ end → IsWithin s.trees l x
    → is_thing_at s.trees l ≡ false

-- Where the target stands just after the node, without children, and bears nothing, the document
-- bears the same afterwards, in the same order. The elements in which the point stands are copied,
-- so an image or a rule among them would come twice.
abbrev pub TailsKeepOrder : Type 0
TailsKeepOrder =
    (s : State) (from : Point) (end target : ℕ) → IsValid s → may_extract s from end target ≡ true
    → next_of s.trees end ≡ Some target → children_of s.trees target ≡ []
    → leaves (tree_of s.trees target) ≡ [] → AmidNoThing s end from.label
    → leaves (document_of (extracted from end target s).trees) ≡ leaves (document_of s.trees)
