-- Compositions of edits that the DOM and editing standards name: splitting a text, and setting the
-- tag name of an element. The steps are those of docs/ALGORITHMS.md.
use Rattle.std.specs.Prelude.{ℕ, ◌+◌, ◌-◌, Bool, ◌||◌, not, List, [], length, drop, Some, if◌then◌else◌, unwrap_or}
use Rattle.point_order.specs.DomModel.declared.attributes.Attribute.{Attribute}
use Rattle.point_order.specs.DomModel.Contents.{chars_of, name_of, attributes_of, has_name}
use Rattle.point_order.specs.DomModel.Forest.{Forest, parent_of, next_of, children_of}
use Rattle.point_order.specs.DomModel.Places.{index_of}
use Rattle.point_order.specs.DomModel.declared.Content.{Content}
use Rattle.edit_model.specs.State.{State}
use Rattle.edit_model.specs.Confined.{is_editable_for}
use Rattle.edit_model.specs.Run.{Run, ◌>>=◌, ◌>>◌, answer, done, look, given, insert, remove, replace, make_element, make_words, send, grow}
use Rattle.edit_model.specs.Moves.{move_each_last}

abbrev pub characters_of : Forest Content → ℕ → List ℕ
characters_of f n = unwrap_or (chars_of f n) []

abbrev pub tag_of : Forest Content → ℕ → List ℕ
tag_of f n = unwrap_or (name_of f n) []

abbrev pub attribute_list_of : Forest Content → ℕ → List Attribute
attribute_list_of f n = unwrap_or (attributes_of f n) []

-- ---- splitting the text n, a child of p, at an offset (DOM Standard, "split a Text node")

-- split a text, step 3: points past the offset go to the new text, and those just after n grow,
-- where the new text was inserted
unfoldable pub points_sent : ℕ → ℕ → ℕ → ℕ → ℕ → Bool → Run (Unit {0})
points_sent p i n at tail inserted =
    if inserted then (send n at tail >> grow (record { label = p; offset = i + 1 })) else done

-- split a text, steps 2 to 4, where n is a child of p
unfoldable pub split_under : ℕ → State → ℕ → ℕ → Run ℕ
split_under p s n at = do
  tail ← make_words (drop at (characters_of s.trees n))
  inserted ← insert p (next_of s.trees n) tail
  points_sent p (index_of s.trees n) n at tail inserted
  replace n at (length (characters_of s.trees n) - at) []
  answer tail

-- split a text, step 1, and then from 2 on: answers the new text with the tail; a text without a
-- parent stays as it is
unfoldable pub split_words : ℕ → ℕ → Run ℕ
split_words n at = look λ s. given (parent_of s.trees n) (answer n) λ p. split_under p s n at

-- ---- setting the tag name of e (HTML Editing APIs)

-- set the tag name, steps 2 to 4, where e is a child of p
unfoldable pub renamed : ℕ → State → ℕ → List ℕ → Run ℕ
renamed p s e name = do
  x ← make_element name (attribute_list_of s.trees e)
  insert p (Some e) x
  move_each_last (children_of s.trees e) x
  remove e
  answer x

-- set the tag name, step 1, and then from 2 on: answers the element that has the name, a new one in
-- the place of e, with its attributes and children; e itself where it has the name, no parent, or
-- isn't editable
unfoldable pub set_tag_name : ℕ → List ℕ → Run ℕ
set_tag_name e name = look λ s.
    given (parent_of s.trees e) (answer e) λ p.
    if has_name s.trees e name || not (is_editable_for s e) then answer e else renamed p s e name
