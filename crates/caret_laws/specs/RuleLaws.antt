-- The law that inserting a rule at a caret adds that rule, and nothing else comes or goes.
use Rattle.std.specs.Prelude.{◌≡◌, ◌≢◌, ◌⊎◌, ℕ, true, false, List, [], map, filter, codes, Some}
use Rattle.edit_model.specs.DomModel.declared.Content.TheVariants.{Words}
use Rattle.edit_model.specs.DomModel.Contents.{name_of}
use Rattle.edit_model.specs.DomModel.Editing.{is_host}
use Rattle.edit_model.specs.DomModel.Forest.{IsWithin, parent_of, children_of, content_of}
use Rattle.edit_model.specs.LiveRange.declared.places.Point.{Point}
use Rattle.inline_value.specs.NodeStyles.Allowed.{allowed_in}
use Rattle.edit_model.specs.State.{State}
use Rattle.edit_model.specs.Confined.{is_inside}
use Rattle.edit_model.specs.History.{begun}
use Rattle.edit_model.specs.Kept.{Letter}
use Rattle.edit_model.specs.Run.{final, value}
use Rattle.edit_model.specs.Valid.{IsValid}
use Rattle.delete_core.specs.declared.deletion.TheConstants.Manner.{KEEP_BLOCKS}
use Rattle.text_insertion.specs.Start.{erase}
use Rattle.insert_objects.specs.Putting.{put}
use Rattle.insert_objects.specs.Rule.{outermost_start, outermost_end, widen_range, put_rule, insert_horizontal_rule}
use Rattle.caret_laws.specs.SolidOrder.{is_solid, AddsThing, StandsAt, HasRoom}
use Rattle.caret_laws.specs.ParagraphOrder.{StandsInNoThing}
use Rattle.caret_laws.specs.Sparing.{SparesOn}

-- the caret stays where step 1 widens the active range, as amid a node, or in the affected host
abbrev pub StaysWhenWidened : State → Point → Type 0
StaysWhenWidened s p = (outermost_start s p ≡ p) × (outermost_end s p ≡ p)

-- a node has children, or it is a text with a character other than tab, LF, CR, space and U+00A0
abbrev pub IsFilled : State → ℕ → Type 0
IsFilled s l =
    (children_of s.trees l ≢ [])
    ⊎ ((chars : List ℕ) × (content_of s.trees l ≡ Some (Words chars)) × (filter is_solid (map Letter chars) ≢ []))

-- step 3, once what is selected is erased, makes no removal that takes out an image, a rule or a
-- character other than tab, LF, CR and space
abbrev pub PuttingSpares : State → Type 0
PuttingSpares s = SparesOn (put_rule.by_actions (final (erase KEEP_BLOCKS) (final widen_range s)))

-- the hr that step 3 puts may stand in its parent
abbrev pub RuleFits : State → Type 0
RuleFits s =
    (q : ℕ) → parent_of (final (put (codes "hr") []) s).trees (value (put (codes "hr") []) s) ≡ Some q
    → allowed_in (final (put (codes "hr") []) s).trees (value (put (codes "hr") []) s) q ≡ true

-- then no removal of step 3 takes out an image, a rule or such a character
abbrev pub FittingRulesSpare : Type 0
FittingRulesSpare = (s : State) → IsValid s → RuleFits s → SparesOn (put_rule.by_actions s)

-- From the beginning of a command in a host of the document, with the caret inside it, where no node that
-- is the caret's or holds it is an image or a rule, or where the caret stands amid its node or in the
-- host, or in a node that is filled: the document has one more hr, at one place among the images, the
-- other rules and the characters other than tab, LF, CR, space and U+00A0, which all stay, in order.
abbrev pub InsertRuleAdds : Type 0
InsertRuleAdds =
    (s : State) (h : ℕ) (p : Point) → IsValid s → is_host s.trees h ≡ true → IsWithin s.trees 0 h
    → HasRoom s → StandsAt s p → is_inside (begun (Some h) false s) p.label ≡ true
    → StaysWhenWidened (begun (Some h) false s) p
    ⊎ (IsFilled s p.label ⊎ StandsInNoThing s p.label)
    → PuttingSpares (begun (Some h) false s)
    → (n : ℕ)
    × AddsThing n s (final insert_horizontal_rule (begun (Some h) false s))
    × (name_of (final insert_horizontal_rule (begun (Some h) false s)).trees n ≡ Some (codes "hr"))
