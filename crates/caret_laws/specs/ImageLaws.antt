-- The law that inserting an image at a caret adds that image, and nothing else comes or goes.
use Rattle.std.specs.Prelude.{◌≡◌, ℕ, true, false, List, ◌∷◌, codes, Some}
use Rattle.edit_model.specs.DomModel.declared.Content.TheVariants.{Element}
use Rattle.edit_model.specs.DomModel.Editing.{is_host}
use Rattle.edit_model.specs.DomModel.Forest.{content_of, IsWithin}
use Rattle.edit_model.specs.LiveRange.declared.places.Point.{Point}
use Rattle.edit_model.specs.State.{State}
use Rattle.edit_model.specs.Confined.{is_inside}
use Rattle.edit_model.specs.History.{begun}
use Rattle.edit_model.specs.Run.{final}
use Rattle.edit_model.specs.Valid.{IsValid}
use Rattle.insert_objects.specs.Image.{source, insert_image}
use Rattle.caret_laws.specs.SolidOrder.{AddsThing, StandsAt, HasRoom, BreaksAreEmpty}

-- From the beginning of a command in a host of the document, with the caret inside it: the document has
-- one more img, which has the address, at one place among the other images, the rules and the characters
-- other than tab, LF, CR, space and U+00A0, which all stay, in order.
abbrev pub InsertImageAdds : Type 0
InsertImageAdds =
    (s : State) (h : ℕ) (p : Point) (c : ℕ) (v : List ℕ) → IsValid s → is_host s.trees h ≡ true
    → IsWithin s.trees 0 h
    → HasRoom s → BreaksAreEmpty s → StandsAt s p
    → is_inside (begun (Some h) false s) p.label ≡ true
    → (n : ℕ)
    × AddsThing n s (final (insert_image (c ∷ v)) (begun (Some h) false s))
    × (content_of (final (insert_image (c ∷ v)) (begun (Some h) false s)).trees n
    ≡ Some (Element (codes "img") (source (c ∷ v))))
