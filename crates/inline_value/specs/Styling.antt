-- The style attribute of an element set and unset, property by property (HTML Editing APIs, "set
-- the CSS property"). Each reads the declarations, changes them and writes them back, and an
-- attribute that then declares nothing goes.
use Rattle.std.specs.Prelude.{ℕ, List, [], codes, Option, unwrap_or, if◌then◌else◌}
use Rattle.edit_model.specs.DomModel.AttributeList.{value_of}
use Rattle.wrap_split.specs.CssValue.StyleText.{Declaration, is_empty}
use Rattle.wrap_split.specs.CssValue.DeclarationList as declaration
use Rattle.wrap_split.specs.CssValue.DeclarationList.{declarations_in, set_property, unset_in, printed}
use Rattle.edit_model.specs.State.{State}
use Rattle.edit_model.specs.Compositions.{attribute_list_of}
use Rattle.edit_model.specs.Run.{Run, ◌>>◌, done, look, set_attribute, unset_attribute}

-- the text of the style attribute, empty where there is none
unfoldable pub style_of : State → ℕ → List ℕ
style_of s e = unwrap_or (value_of (attribute_list_of s.trees e) (codes "style")) []

-- what the style attribute declares
unfoldable pub declarations_of : State → ℕ → List Declaration
declarations_of s e = declarations_in (style_of s e)

-- the value of its text-decoration, valid or not
unfoldable pub decoration_of : State → ℕ → Option (List ℕ)
decoration_of s e = declaration.value_of (declarations_of s e) (codes "text-decoration")

-- the attribute set to a text; an empty one takes it away
unfoldable pub write_text : ℕ → List ℕ → Run (Unit {0})
write_text e text =
    if is_empty text then (unset_attribute e (codes "style") >> done)
    else (set_attribute e (codes "style") text >> done)

-- the declarations written back, which print as the empty text where there is none
abbrev pub write_style : ℕ → List Declaration → Run (Unit {0})
write_style e list = write_text e (printed list)

-- a property set to a value
unfoldable pub set_style : ℕ → List ℕ → List ℕ → Run (Unit {0})
set_style e name value = look λ s. write_style e (set_property (declarations_of s e) name value)

-- a property unset
unfoldable pub unset_style : ℕ → List ℕ → Run (Unit {0})
unset_style e name = look λ s. write_style e (unset_in (declarations_of s e) name)
