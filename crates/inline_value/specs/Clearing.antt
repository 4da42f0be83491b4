-- Clearing the value of an element (HTML Editing APIs, "clear the value"). The steps are those of
-- docs/ALGORITHMS.md.
use Rattle.std.specs.Prelude.{ℕ, ◌||◌, not, List, [], ◌∷◌, codes, Option, Some, None, is_none, if◌then◌else◌}
use Rattle.edit_model.specs.DomModel.Contents.{has_name}
use Rattle.edit_model.specs.DomModel.Forest.{children_of}
use Rattle.wrap_split.specs.CssValue.StyleText.{is_empty}
use Rattle.wrap_split.specs.CssValue.declared.decoration.DecorationLine.{DecorationLine}
use Rattle.wrap_split.specs.CssValue.TextDecoration.{without_line}
use Rattle.edit_model.specs.HtmlNames.declared.commands.Command.{Command}
use Rattle.wrap_split.specs.StyleTable.declared.Property.{Property}
use Rattle.wrap_split.specs.StyleTable.declared.Property.TheVariants as property
use Rattle.wrap_split.specs.CommandValue.Subjects.{subject, relevant}
use Rattle.wrap_split.specs.CommandValue.declared.subject.Subject.{Subject}
use Rattle.wrap_split.specs.CommandValue.declared.subject.Subject.TheVariants.{Link, Line, Family, Size, Foreground}
use Rattle.wrap_split.specs.CommandValue.Modifiable.{is_simple_modifiable}
use Rattle.wrap_split.specs.CommandValue.SpecifiedValues.{specified}
use Rattle.edit_model.specs.Confined.{is_editable_for}
use Rattle.edit_model.specs.Compositions.{set_tag_name}
use Rattle.edit_model.specs.Moves.{unwrap}
use Rattle.edit_model.specs.Run.{Run, ◌>>=◌, ◌>>◌, answer, done, look, given, unset_attribute}
use Rattle.inline_value.specs.Styling.{decoration_of, set_style, unset_style}

-- the name of a property
abbrev pub property_name : Property → List ℕ
property_name property.Display = codes "display"
property_name property.WhiteSpace = codes "white-space"
property_name property.FontWeight = codes "font-weight"
property_name property.FontStyle = codes "font-style"
property_name property.FontFamily = codes "font-family"
property_name property.FontSize = codes "font-size"
property_name property.Color = codes "color"
property_name property.BackgroundColor = codes "background-color"
property_name property.TextDecoration = codes "text-decoration"
property_name property.TextAlign = codes "text-align"

-- clear the value, step 3: a style that declares text-decoration loses the line's word, and the
-- property with its last word
unfoldable pub write_words : ℕ → List ℕ → Run (Unit {0})
write_words e text =
    if is_empty text then unset_style e (codes "text-decoration")
    else set_style e (codes "text-decoration") text

-- clear the value, step 3: the word of a line goes
unfoldable pub drop_line : DecorationLine → ℕ → Run (Unit {0})
drop_line line e =
    look λ s. given (decoration_of s e) done λ text. write_words e (without_line text line)

-- clear the value, step 3: for strikethrough and underline alone
abbrev pub drop_word : Subject → ℕ → Run (Unit {0})
drop_word (Line line) e = drop_line line e
drop_word _ e = done

-- clear the value, step 4
unfoldable pub drop_property : Command → ℕ → Run (Unit {0})
drop_property command e = given (relevant command) done λ p. unset_style e (property_name p)

-- clear the value, step 5: the attribute of a font that hints at the value
abbrev pub hint_of : Subject → Option (List ℕ)
hint_of Foreground = Some (codes "color")
hint_of Family = Some (codes "face")
hint_of Size = Some (codes "size")
hint_of _ = None

-- clear the value, steps 5 and 6: an attribute goes from an element of a name
unfoldable pub drop_attribute : List ℕ → List ℕ → ℕ → Run (Unit {0})
drop_attribute name attribute e = look λ s.
    if has_name s.trees e name then unset_attribute e attribute >> done else done

-- clear the value, step 5: from a font
unfoldable pub drop_hint : Command → ℕ → Run (Unit {0})
drop_hint command e =
    given (hint_of (subject command)) done λ hint. drop_attribute (codes "font") hint e

-- clear the value, step 6
abbrev pub drop_link : Subject → ℕ → Run (Unit {0})
drop_link Link e = drop_attribute (codes "a") (codes "href") e
drop_link _ e = done

-- clear the value, steps 7 and 8: an element that still gives the command a value becomes a span (an
-- image or a rule never does, since what gave a value is gone from it)
unfoldable pub span_for : Command → ℕ → Run (List ℕ)
span_for command e = look λ s.
    if is_none (specified s.trees e command) then answer []
    else (set_tag_name e (codes "span") >>= λ x. answer (x ∷ []))

-- clear the value, steps 3 to 8
unfoldable pub stripped : Command → ℕ → Run (List ℕ)
stripped command e = do
  drop_word (subject command) e
  drop_property command e
  drop_hint command e
  drop_link (subject command) e
  span_for command e

-- clear the value, step 2: the children of a simple modifiable element take its place
unfoldable pub unwrapped : ℕ → Run (List ℕ)
unwrapped e = look λ s. unwrap e >> answer (children_of s.trees e)

-- clear the value, step 1, and then from 2 on
unfoldable pub clear_value : Command → ℕ → Run (List ℕ)
clear_value command e = look λ s.
    if not (is_editable_for s e) || is_none (specified s.trees e command) then answer []
    else (if is_simple_modifiable s.trees e then unwrapped e else stripped command e)
