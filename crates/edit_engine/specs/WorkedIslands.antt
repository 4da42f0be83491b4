-- A small page with a locked part, to show what is an island.
use Rattle.std.specs.Prelude.{◌≡◌, true, [], ◌∷◌, codes, Some}
use Rattle.edit_model.specs.DomModel.declared.Content.{Content}
use Rattle.edit_model.specs.DomModel.declared.Content.TheVariants.{Document, Element, Words}
use Rattle.edit_model.specs.DomModel.Forest.{Forest}
use Rattle.edit_model.specs.DomModel.Forest.Forest.{Nil, Tree}
use Rattle.edit_model.specs.LiveRange.declared.places.Pair.{Pair}
use Rattle.edit_model.specs.Outside.{is_island}
use Rattle.inline_value.specs.EditActions.ActiveRange.{host_of_pair}

-- <div contenteditable=""><p>a<span contenteditable="false">i</span></p></div>
abbrev pub locked_span : Forest Content
locked_span =
    Tree 4 (Element (codes "span") (record { name = codes "contenteditable"; value = codes "false" }
    ∷ []))
    (Tree 5 (Words (codes "i")) Nil Nil) Nil

abbrev pub locked_page : Forest Content
locked_page =
    Tree 0 Document
    (Tree 1 (Element (codes "div") (record { name = codes "contenteditable"; value = [] } ∷ []))
    (Tree 2 (Element (codes "p") []) (Tree 3 (Words (codes "a")) Nil locked_span) Nil) Nil) Nil

-- a caret in the first text
abbrev pub first_caret : Pair
first_caret =
    record { anchor = record { label = 3; offset = 0 }; focus = record { label = 3; offset = 0 } }

-- the host of the caret is the div, and the span is an island of it
abbrev pub LockedSpanIsIsland : Type 0
LockedSpanIsIsland =
    (host_of_pair locked_page first_caret ≡ Some 1) × (is_island locked_page 1 4 ≡ true)
