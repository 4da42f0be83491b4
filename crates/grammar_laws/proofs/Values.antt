-- The values that are read of a state of the grammar are texts of scalar values.
use Rattle.std.proofs.Common.{ℕ, ◌+◌, Bool, true, false, cond, List, [], ◌∷◌, Option, Some, None, IfSome, refl}
use Rattle.std.specs.Prelude.{decimal, codes, unwrap_or, is_some}
use Rattle.std.specs.List.{find, list_any}
use Rattle.std.specs.Option.{option_map, option_map_or, option_and_then, option_or}
use Rattle.edit_model.specs.DomModel.declared.Content.{Content}
use Rattle.edit_model.specs.DomModel.declared.Content.TheVariants.{Document, Element, Words, Remark}
use Rattle.edit_model.specs.DomModel.AttributeList as attributes
use Rattle.edit_model.specs.DomModel.Contents.{is_element, name_in}
use Rattle.edit_model.specs.DomModel.Forest.{Forest, content_of}
use Rattle.inline_value.specs.CssValue.Colours.{colour_of}
use Rattle.inline_value.specs.CssValue.DeclarationList as declaration
use Rattle.inline_value.specs.CssValue.DeclarationList.{declarations_in}
use Rattle.inline_value.specs.CssValue.StyleText.{is_empty}
use Rattle.inline_value.specs.CssValue.SizeKeywords.{size_keyword}
use Rattle.inline_value.specs.CssValue.TextDecoration.{line_word}
use Rattle.inline_value.specs.CssValue.Numbers.{legacy_size}
use Rattle.inline_value.specs.CssValue.Values.{font_weight_of, font_style_of, font_size_of, font_style_keyword, pixels_text}
use Rattle.inline_value.specs.CssValue.declared.values.FontStyle.{FontStyle}
use Rattle.inline_value.specs.CssValue.declared.values.FontStyle.TheVariants as font_style_values
use Rattle.edit_model.specs.HtmlNames.declared.commands.Command.{Command}
use Rattle.edit_model.specs.HtmlNames.declared.commands.Command.TheVariants as command
use Rattle.inline_value.specs.NodeStyles.LegacySizes.{legacy_size_of}
use Rattle.inline_value.specs.NodeStyles.Lineage.{Ancestor, lineage, nearest, has_in_lineage}
use Rattle.inline_value.specs.NodeStyles.OwnStyles.{attribute, is_named, declared, defaulted, font_attribute, family_of, family_hint, own_font_family}
use Rattle.inline_value.specs.NodeStyles.Resolved.{font_weight, font_style, font_family, font_size, color}
use Rattle.inline_value.specs.NodeStyles.Blocks.{own_or_inline}
use Rattle.inline_value.specs.NodeStyles.TurnBound.{turn_bound}
use Rattle.inline_value.specs.StyleTable.DefaultStyles as table
use Rattle.inline_value.specs.StyleTable.DefaultStyles.{font_family_rows, default_font_family}
use Rattle.inline_value.specs.StyleTable.declared.Property.TheVariants as property
use Rattle.inline_value.specs.CommandValue.EffectiveValues.{is_link, link_at, background_at, inline_part, draws, script_by, script_at, line_at, value_at, element_of, effective, is_activated}
use Rattle.inline_value.specs.CommandValue.SpecifiedValues.{if_read, is_named_in, is_inline_display, gives_line, hinted_size, given_by, specified_in, specified}
use Rattle.inline_value.specs.CommandValue.Subjects.{subject}
use Rattle.inline_value.specs.CommandValue.declared.subject.Subject.{Subject}
use Rattle.inline_value.specs.CommandValue.declared.subject.Subject.TheVariants.{Link, Background, Script, Line, Weight, Slant, Family, Size, Foreground, Nothing}
use Rattle.edit_model.specs.State.{State}
use Rattle.edit_model.specs.Compositions.{attribute_list_of}
use Rattle.edit_model.specs.Overrides.{setting_of}
use Rattle.edit_model.specs.declared.settings.Setting.{Setting}
use Rattle.edit_model.specs.declared.settings.Setting.TheVariants.{On, Off, Text, Absent}
use Rattle.inline_value.specs.EditQuery.Formattable.{first_formattable, start_node}
use Rattle.inline_value.specs.EditQuery.Queries.{overriding_value, value_of}
use Rattle.inline_value.specs.EditQuery.Rows.{first_value, legacy_text}
use Rattle.inline_value.specs.ForestChanges.Named.{Each}
use Rattle.inline_value.specs.Clearing.{property_name}
use Rattle.inline_value.specs.Overrides.{override, is_set, overrides_among, overriding_commands, overrides_of, text_setting, on_or_off, states_at, states_of}
use Rattle.inline_value.specs.Recording.{Recorded, recorded_commands, giver, given_value, value_at as recorded_at, values_at, values_of}
use Rattle.inline_value.specs.Styling.{style_of, declarations_of, decoration_of}
use Rattle.inline_value.specs.declared.overrides.Override.{Override}
use Rattle.inline_value.specs.StyleTable.declared.Property.{Property}
use Rattle.grammar_laws.specs.Proper.{AllNodes, IsText, IsProper, IsProperSetting, IsProperState}
use Rattle.grammar_laws.proofs.Lists.{value_text}
use Rattle.grammar_laws.proofs.Nodes.{node_at, line_nodes, IsSuch}
use Rattle.grammar_laws.proofs.Reading.{list_proper}
use Rattle.grammar_laws.proofs.Styles.{IsDeclared, declarations_letters, declared_value, word_text, keyword_text, legacy_digit, colour_printed}
use Rattle.grammar_laws.proofs.Texts.{each_append, each_found, each_index, each_mapped, some_if, some_mapped, some_or, some_or_else, some_then, text_append, text_decimal}

-- a value, or null
abbrev pub IsValue : Option (List ℕ) → Type 0
IsValue o = IfSome o IsText

-- ---- of a content

attribute_text : (c : Content) (name : List ℕ) → IsProper c → IsValue (attribute c name)
unfolding attribute
attribute_text Document name h = tt
attribute_text (Element tag list) name h = value_text list name h.0.1
attribute_text (Words chars) name h = tt
attribute_text (Remark chars) name h = tt

declared_text : (c : Content) (name : List ℕ) → IsProper c → IsValue (declared c name)
unfolding declared
declared_text c name h =
    some_then IsText IsText (λ style. declaration.value_of (declarations_in style) name) (attribute c (codes "style")) (attribute_text c (codes "style") h)
    (λ style own. declared_value (declarations_in style) name (declarations_letters style own))

font_text : (c : Content) (name : List ℕ) → IsProper c → IsValue (font_attribute c name)
font_text c name h = some_if IsText (is_named (codes "font") c) (attribute c name) None (attribute_text c name h) tt

family_text : (chars : List ℕ) → IsText chars → IsValue (family_of chars)
family_text chars h = some_if IsText (is_empty chars) None (Some chars) tt h

hint_text : (c : Content) → IsProper c → IsValue (family_hint c)
unfolding family_hint
hint_text c h = some_then IsText IsText family_of (font_attribute c (codes "face")) (font_text c (codes "face") h) family_text

default_text : (c : Content) → IsValue (defaulted c property.FontFamily)
unfolding defaulted default_font_family table.value_of font_family_rows table.default_of
default_text c = by_name (name_in c)
  where
    by_name : (o : Option (List ℕ)) → IsValue (option_and_then default_font_family o)
    by_name None = tt
    by_name (Some name) =
        some_mapped (λ (row : List ℕ × List (List ℕ)). IsText row.0) IsText (λ row. row.0) (find (table.has_name name) font_family_rows)
        (each_found (λ (row : List ℕ × List (List ℕ)). IsText row.0) (table.has_name name) font_family_rows (refl, tt)) (λ row own. own)

own_family_text : (c : Content) → IsProper c → IsValue (own_font_family c)
unfolding own_font_family
own_family_text c h =
    some_or IsText (option_and_then family_of (declared c (codes "font-family"))) _ (some_then IsText IsText family_of (declared c (codes "font-family")) (declared_text c (codes "font-family") h) family_text)
    (some_or IsText (family_hint c) _ (hint_text c h) (some_then IsText IsText family_of (defaulted c property.FontFamily) (default_text c) family_text))

-- ---- what an element specifies

read_text : {V : Type 0} (read : List ℕ → Option V) (o : Option (List ℕ)) → IsValue o → IsValue (if_read read o)
read_text read None h = tt
read_text read (Some chars) h = some_if IsText (is_some (read chars)) (Some chars) None h tt

specified_by : (u : Subject) (c : Content) → IsProper c → IsValue (given_by u c)
specified_by Link c h = some_if IsText (is_named (codes "a") c) (attribute c (codes "href")) None (attribute_text c (codes "href") h) tt
specified_by Background c h = some_if IsText (is_inline_display (own_or_inline c)) (if_read colour_of (declared c (codes "background-color"))) None (read_text colour_of _ (declared_text c (codes "background-color") h)) tt
specified_by Script c h = some_if IsText (is_named (codes "sub") c) (Some (codes "subscript")) _ refl (some_if IsText (is_named (codes "sup") c) (Some (codes "superscript")) None refl tt)
specified_by (Line line) c h = some_if IsText (gives_line line c (declared c (codes "text-decoration"))) (Some (line_word line)) None (word_text line) tt
specified_by Weight c h =
    some_or IsText (if_read font_weight_of (declared c (codes "font-weight"))) _ (read_text font_weight_of _ (declared_text c (codes "font-weight") h)) (some_if IsText (is_named_in (codes "b" ∷ codes "strong" ∷ []) c) (Some (codes "bold")) None refl tt)
specified_by Slant c h =
    some_or IsText (if_read font_style_of (declared c (codes "font-style"))) _ (read_text font_style_of _ (declared_text c (codes "font-style") h)) (some_if IsText (is_named_in (codes "i" ∷ codes "em" ∷ []) c) (Some (codes "italic")) None refl tt)
specified_by Family c h =
    some_or IsText (option_and_then family_of (declared c (codes "font-family"))) (family_hint c) (some_then IsText IsText family_of (declared c (codes "font-family")) (declared_text c (codes "font-family") h) family_text) (hint_text c h)
specified_by Size c h =
    some_or IsText (if_read font_size_of (declared c (codes "font-size"))) (hinted_size c) (read_text font_size_of _ (declared_text c (codes "font-size") h))
    (hinted (option_and_then legacy_size_of (font_attribute c (codes "size"))))
  where
    hinted : (o : Option ℕ) → IsValue (option_map size_keyword o)
    hinted None = tt
    hinted (Some n) = keyword_text n
specified_by Foreground c h =
    some_or IsText (if_read colour_of (declared c (codes "color"))) _ (read_text colour_of _ (declared_text c (codes "color") h)) (read_text colour_of _ (font_text c (codes "color") h))
specified_by Nothing c h = tt

specified_here : (c : Content) (v : Command) → IsProper c → IsValue (specified_in c v)
unfolding specified_in
specified_here c v h = some_if IsText (is_element c) (given_by (subject v) c) None (specified_by (subject v) c h) tt

specified_there : (f : Forest Content) (l : ℕ) (v : Command) → AllNodes IsProper f → IsValue (specified f l v)
unfolding specified
specified_there f l v h = some_then IsProper IsText (λ c. specified_in c v) (content_of f l) (node_at IsProper f l h) (λ c own. specified_here c v own)

-- ---- what a node has

near : (test : Content → Bool) (f : Forest Content) (l : ℕ) → AllNodes IsProper f → IfSome (nearest test f l) (IsSuch IsProper)
unfolding nearest
near test f l h = each_found (IsSuch IsProper) (λ (k : Ancestor). test k.content) (lineage f l) (line_nodes IsProper f l h)

family_there : (f : Forest Content) (l : ℕ) → AllNodes IsProper f → IsText (font_family f l)
unfolding font_family
family_there f l h =
    some_or_else IsText (option_and_then (λ (k : Ancestor). own_font_family k.content) (nearest (λ c. is_some (own_font_family c)) f l)) (codes "serif")
    (some_then (IsSuch IsProper) IsText (λ (k : Ancestor). own_font_family k.content) (nearest (λ c. is_some (own_font_family c)) f l) (near (λ c. is_some (own_font_family c)) f l h) (λ k own. own_family_text k.content own)) refl

slant_text : (s : FontStyle) → IsText (font_style_keyword s)
slant_text font_style_values.Normal = refl
slant_text font_style_values.Italic = refl
slant_text font_style_values.Oblique = refl

script_text : (a b : Bool) → IsValue (script_by a b)
script_text true true = refl
script_text true false = refl
script_text false true = refl
script_text false false = tt

pixels : (px : ℕ) → IsText (pixels_text px)
unfolding pixels_text
pixels px = text_append (decimal px) (codes "px") (text_decimal px) refl

value_there : (f : Forest Content) (n : ℕ) (u : Subject) → AllNodes IsProper f → IsValue (value_at f n u)
unfolding link_at script_at line_at
value_there f n Link h = some_then (IsSuch IsProper) IsText (λ (k : Ancestor). attribute k.content (codes "href")) (nearest is_link f n) (near is_link f n h) (λ k own. attribute_text k.content (codes "href") own)
value_there f n Background h = colour_printed (background_at (turn_bound f) f n)
value_there f n Script h =
    script_text (list_any (λ (k : Ancestor). is_named (codes "sub") k.content) (inline_part (lineage f n))) (list_any (λ (k : Ancestor). is_named (codes "sup") k.content) (inline_part (lineage f n)))
value_there f n (Line drawn) h = some_if IsText (has_in_lineage (draws drawn) f n) (Some (line_word drawn)) None (word_text drawn) tt
value_there f n Weight h = text_decimal (font_weight f n)
value_there f n Slant h = slant_text (font_style f n)
value_there f n Family h = family_there f n h
value_there f n Size h = pixels (font_size f n)
value_there f n Foreground h = colour_printed (color f n)
value_there f n Nothing h = tt

effective_there : (f : Forest Content) (l : ℕ) (v : Command) → AllNodes IsProper f → IsValue (effective f l v)
unfolding effective
effective_there f l v h = by_element (element_of f l)
  where
    by_element : (o : Option ℕ) → IsValue (option_and_then (λ n. value_at f n (subject v)) o)
    by_element None = tt
    by_element (Some n) = value_there f n (subject v) h

pub legacy_there : (chars : List ℕ) → IsText (legacy_text chars)
legacy_there chars = by_size (font_size_of chars)
  where
    by_size : (o : Option ℕ) → IsText (option_map_or (λ px. (48 + legacy_size px) ∷ []) o [])
    by_size None = refl
    by_size (Some px) = legacy_digit px

-- ---- of a state

pub specified_value : (s : State) (l : ℕ) (v : Command) → IsProperState s → IsValue (specified s.trees l v)
specified_value s l v p = specified_there s.trees l v p.nodes

pub declarations_value : (s : State) (e : ℕ) → IsProperState s → Each IsDeclared (declarations_of s e)
unfolding declarations_of style_of
declarations_value s e p = (let list = list_proper s.trees p.nodes e in declarations_letters _ (some_or_else IsText (attributes.value_of (attribute_list_of s.trees e) (codes "style")) [] (value_text (attribute_list_of s.trees e) (codes "style") list.0) refl))

pub decoration_value : (s : State) (e : ℕ) → IsProperState s → IsValue (decoration_of s e)
unfolding decoration_of
decoration_value s e p = declared_value (declarations_of s e) (codes "text-decoration") (declarations_value s e p)

pub property_text : (q : Property) → IsText (property_name q)
property_text property.Display = refl
property_text property.WhiteSpace = refl
property_text property.FontWeight = refl
property_text property.FontStyle = refl
property_text property.FontFamily = refl
property_text property.FontSize = refl
property_text property.Color = refl
property_text property.BackgroundColor = refl
property_text property.TextDecoration = refl
property_text property.TextAlign = refl

setting_proper : (s : State) (c : Command) → IsProperState s → IsProperSetting (setting_of s.overrides c)
unfolding setting_of
setting_proper s c p = each_index IsProperSetting s.overrides _ Absent tt p.settings

-- ---- recorded values

abbrev pub IsRecorded : Recorded → Type 0
IsRecorded r = IsValue r.value

given_there : (s : State) (n : ℕ) (c : Command) → IsProperState s → IsValue (given_value s.trees n c)
unfolding given_value giver
given_there s n c p =
    some_then (IsSuch IsProper) IsText (λ (k : Ancestor). specified_in k.content c) (nearest (λ d. is_some (specified_in d c)) s.trees n) (near (λ d. is_some (specified_in d c)) s.trees n p.nodes) (λ k own. specified_here k.content c own)

at_node : (s : State) (n : ℕ) → IsProperState s → Each IsRecorded (values_at s n)
unfolding values_at recorded_at
at_node s n p = each_mapped (λ (c : Command). Unit {0}) IsRecorded (recorded_at s n) (λ c _. given_there s n c p) recorded_commands (all recorded_commands)
  where
    all : (commands : List Command) → Each (λ (c : Command). Unit {0}) commands
    all [] = tt
    all (c ∷ commands) = (tt, all commands)

pub recorded_values : (s : State) (list : List ℕ) → IsProperState s → Each IsRecorded (values_of s list)
unfolding values_of
recorded_values s [] p = tt
recorded_values s (n ∷ list) p = each_append IsRecorded (values_at s n) (values_of s list) (at_node s n p) (recorded_values s list p)

-- ---- overrides and states

abbrev pub IsOverride : Override → Type 0
IsOverride o = IsProperSetting o.setting

among : (s : State) (commands : List Command) → IsProperState s → Each IsOverride (overrides_among s commands)
among s [] p = tt
among s (c ∷ commands) p = by_test (is_set (setting_of s.overrides c)) (among s commands p)
  where
    by_test : (b : Bool) → Each IsOverride (overrides_among s commands) → Each IsOverride (cond b (override c (setting_of s.overrides c) ∷ overrides_among s commands) (overrides_among s commands))
    by_test true more = (setting_proper s c p, more)
    by_test false more = more

pub overrides_proper : (s : State) → IsProperState s → Each IsOverride (overrides_of s)
unfolding overrides_of
overrides_proper s p = among s overriding_commands p

setting_text : (o : Option (List ℕ)) → IsValue o → IsProperSetting (text_setting o)
setting_text None h = tt
setting_text (Some chars) h = h

setting_switch : (b : Bool) → IsProperSetting (on_or_off b)
setting_switch true = tt
setting_switch false = tt

first_there : (s : State) (c : Command) → IsProperState s → IsText (unwrap_or (first_value s s.host c) [])
unfolding first_value
first_there s c p = some_or_else IsText (first_value s s.host c) [] (by_node (option_or (first_formattable s s.host) (start_node s))) refl
  where
    by_node : (o : Option ℕ) → IsValue (option_and_then (λ l. effective s.trees l c) o)
    by_node None = tt
    by_node (Some l) = effective_there s.trees l c p.nodes

font_answered : (s : State) → IsProperState s → IsText (value_of s s.host command.FontName)
unfolding value_of
font_answered s p = by_setting (setting_of s.overrides command.FontName) (setting_proper s command.FontName p)
  where
    by_setting : (setting : Setting) → IsProperSetting setting → IsText (overriding_value command.FontName setting (unwrap_or (first_value s s.host command.FontName) []))
    by_setting On h = first_there s command.FontName p
    by_setting Off h = first_there s command.FontName p
    by_setting (Text chars) h = h
    by_setting Absent h = first_there s command.FontName p

colour_answered : (s : State) → IsProperState s → IsText (value_of s s.host command.ForeColor)
unfolding value_of
colour_answered s p = by_setting (setting_of s.overrides command.ForeColor) (setting_proper s command.ForeColor p)
  where
    by_setting : (setting : Setting) → IsProperSetting setting → IsText (overriding_value command.ForeColor setting (unwrap_or (first_value s s.host command.ForeColor) []))
    by_setting On h = first_there s command.ForeColor p
    by_setting Off h = first_there s command.ForeColor p
    by_setting (Text chars) h = h
    by_setting Absent h = first_there s command.ForeColor p

hilite_answered : (s : State) → IsProperState s → IsText (value_of s s.host command.HiliteColor)
unfolding value_of
hilite_answered s p = by_setting (setting_of s.overrides command.HiliteColor) (setting_proper s command.HiliteColor p)
  where
    by_setting : (setting : Setting) → IsProperSetting setting → IsText (overriding_value command.HiliteColor setting (unwrap_or (first_value s s.host command.HiliteColor) []))
    by_setting On h = first_there s command.HiliteColor p
    by_setting Off h = first_there s command.HiliteColor p
    by_setting (Text chars) h = h
    by_setting Absent h = first_there s command.HiliteColor p

states_node : (s : State) (n : ℕ) → IsProperState s → Each IsOverride (states_at s n)
unfolding states_at
states_node s n p = (
  setting_text (effective s.trees n command.CreateLink) (effective_there s.trees n command.CreateLink p.nodes),
  (
    setting_switch (is_activated s.trees n command.Bold),
    (
      setting_switch (is_activated s.trees n command.Italic),
      (
        setting_switch (is_activated s.trees n command.Strikethrough),
        (
          setting_switch (is_activated s.trees n command.Subscript),
          (
            setting_switch (is_activated s.trees n command.Superscript),
            (
              setting_switch (is_activated s.trees n command.Underline),
              (
                font_answered s p,
                (
                  colour_answered s p,
                  (
                    hilite_answered s p,
                    (setting_text (effective s.trees n command.FontSize) (effective_there s.trees n command.FontSize p.nodes), tt),
                  ),
                ),
              ),
            ),
          ),
        ),
      ),
    ),
  ),
)

pub states_proper : (s : State) → IsProperState s → Each IsOverride (states_of s)
unfolding states_of
states_proper s p = by_node (first_formattable s s.host)
  where
    by_node : (o : Option ℕ) → Each IsOverride (option_map_or (states_at s) o [])
    by_node None = tt
    by_node (Some n) = states_node s n p
