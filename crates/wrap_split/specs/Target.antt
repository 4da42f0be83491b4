-- The node that a list is wrapped in: a sibling that meets a criterion, or else what a recipe
-- makes.
use Rattle.std.specs.Prelude.{◌≡◌, ℕ, Bool, true, false, not, ◌&&◌, ◌||◌, List, [], ◌∷◌, Option, Some, None, Result, Ok, Err, if◌then◌else◌, bytes_eq, codes, map}
use Rattle.std.specs.Char.{to_ascii_lowercase}
use Rattle.std.specs.List.{list_all}
use Rattle.std.specs.Option.{option_map_or}
use Rattle.std.specs.declared.alloc.AllocError.{AllocError}
use Rattle.edit_model.specs.DomModel.declared.attributes.Attribute.{Attribute}
use Rattle.edit_model.specs.DomModel.Contents.{attributes_of, has_name}
use Rattle.edit_model.specs.DomModel.Forest.{Forest, either, prev_of, next_of}
use Rattle.edit_model.specs.DomModel.declared.Content.{Content}
use Rattle.command_value.specs.CssValue.StyleText.{Declaration}
use Rattle.command_value.specs.CssValue.DeclarationList.{declarations_in}
use Rattle.command_value.specs.NodeStyles.NameClasses.{is_simple_indentation}
use Rattle.command_value.specs.Modifiable.{meets_value}
use Rattle.edit_model.specs.State.{State}
use Rattle.edit_model.specs.Confined.{is_editable_for}
use Rattle.edit_model.specs.Run.{Run, ◌>>=◌, answer, look, given, make_element}
use Rattle.wrap_split.specs.declared.rule.Blank.{Blank}
use Rattle.wrap_split.specs.declared.rule.Criterion.{Criterion}
use Rattle.wrap_split.specs.declared.rule.Criterion.TheVariants.{Never, SameValue, Named, SimpleIndentation, Aligned}
use Rattle.wrap_split.specs.declared.rule.Recipe.{Recipe}
use Rattle.wrap_split.specs.declared.rule.Recipe.TheVariants.{Nothing, Make}

-- ---- criteria

abbrev pub has_none : List Attribute → Bool
has_none [] = true
has_none (a ∷ list) = false

abbrev pub is_without_attributes : Forest Content → ℕ → Bool
is_without_attributes f l = option_map_or has_none (attributes_of f l) false

-- one declaration: text-align with this value
abbrev pub is_text_align : List ℕ → List Declaration → Bool
is_text_align alignment (d ∷ []) =
    bytes_eq d.name (codes "text-align") && bytes_eq d.value alignment
is_text_align alignment _ = false

-- an align that equals the alignment without regard to case, or a style that sets only text-align
-- to it
unfoldable pub aligns : List ℕ → Attribute → Bool
aligns alignment a =
    (bytes_eq a.name (codes "align")
    && bytes_eq (map to_ascii_lowercase a.value) (map to_ascii_lowercase alignment))
    || (bytes_eq a.name (codes "style") && is_text_align alignment (declarations_in a.value))

-- a div with such attributes, at least one, and no others
unfoldable pub is_aligned : Forest Content → ℕ → List ℕ → Bool
is_aligned f l alignment =
    has_name f l (codes "div")
    && option_map_or (λ list. not (has_none list) && list_all (aligns alignment) list)
    (attributes_of f l) false

-- Never is met by no node; SameValue by a simple modifiable element that gives the command the
-- value and has it; Named by an element of the name, where it is bare without attributes
unfoldable pub meets : Criterion → Forest Content → ℕ → Bool
meets Never f l = false
meets (SameValue command value) f l = meets_value f l command value
meets (Named name bare) f l = has_name f l name && (not bare || is_without_attributes f l)
meets SimpleIndentation f l = is_simple_indentation f l
meets (Aligned alignment) f l = is_aligned f l alignment

abbrev pub if_fits : Criterion → State → Option ℕ → Option ℕ
if_fits c s None = None
if_fits c s (Some n) = if is_editable_for s n && meets c s.trees n then Some n else None

-- wrap, step 5: the sibling before a, or else the one after z, that is editable and meets the
-- criterion
unfoldable pub beside : Criterion → ℕ → ℕ → State → Option ℕ
beside c a z s = either (if_fits c s (prev_of s.trees a)) (if_fits c s (next_of s.trees z))

-- ---- recipes

-- what a recipe makes, as a name and attributes
unfoldable pub blank_of : Recipe → Option (List ℕ × List Attribute)
blank_of Nothing = None
blank_of (Make blank) = Some (blank.name, blank.attributes)

-- wrap, step 5: a new element with a name and attributes
unfoldable pub made_of : List ℕ × List Attribute → Run (Option ℕ)
made_of b = make_element b.0 b.1 >>= λ x. answer (Some x)

-- wrap, step 5: a new element by the recipe, or none
unfoldable pub made_by : Recipe → Run (Option ℕ)
made_by r = given (blank_of r) (answer None) made_of

-- wrap, step 5: that sibling, or else what is made
unfoldable pub target : Criterion → Recipe → ℕ → ℕ → Run (Option ℕ)
target c r a z = look λ s. given (beside c a z s) (made_by r) λ p. answer (Some p)

-- ---- what a maker answers

abbrev pub seen : Option Blank → Option (List ℕ × List Attribute)
seen None = None
seen (Some b) = Some (b.name, b.attributes)

-- what the recipe makes, or that memory is out
abbrev pub IsMade : Result (Option Blank) AllocError → Recipe → Type 0
IsMade (Ok b) r = seen b ≡ blank_of r
IsMade (Err e) r = Unit {0}
