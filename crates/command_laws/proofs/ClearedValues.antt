-- An image or a rule whose value was cleared gives the command none: nothing but its style gave one.
use Rattle.std.proofs.Common.{◌≡◌, ℕ, Bool, true, false, true≢false, if◌then◌else◌, ◌||◌, not, eqb, cond, List, [], ◌∷◌, Option, Some, None, refl, sym, ap, subst, ◌∙◌}
use Rattle.std.specs.Prelude.{codes, bytes_eq, unwrap_or}
use Rattle.std.specs.Option.{option_map, option_map_or, option_and_then, option_or}
use Rattle.edit_model.specs.DomModel.declared.attributes.Attribute.{Attribute}
use Rattle.edit_model.specs.DomModel.declared.Content.{Content}
use Rattle.edit_model.specs.DomModel.declared.Content.TheVariants.{Element}
use Rattle.edit_model.specs.DomModel.AttributeList.{value_of, set_in, unset_in, IsDistinctNames}
use Rattle.edit_model.specs.DomModel.Contents.{name_in, attributes_in, attributes_of, has_name}
use Rattle.edit_model.specs.DomModel.Forest.{Forest, content_of}
use Rattle.edit_model.specs.DomModel.Revised.{revised}
use Rattle.edit_model.proofs.DomModel.AttributeLemmas.{value-set, value-unset}
use Rattle.edit_model.proofs.DomModel.Links.{eqb_refl_true}
use Rattle.edit_model.proofs.DomModel.Revising.{content_of-revised}
use Rattle.inline_value.specs.CssValue.StyleText.{is_empty}
use Rattle.inline_value.specs.CssValue.DeclarationList as declaration
use Rattle.inline_value.specs.CssValue.DeclarationList.{declarations_in, set_property, printed}
use Rattle.inline_value.specs.CssValue.declared.decoration.DecorationLine.{DecorationLine}
use Rattle.inline_value.specs.CssValue.declared.decoration.DecorationLine.TheVariants.{Underline, Overline, LineThrough}
use Rattle.inline_value.specs.CssValue.Colours.{colour_of}
use Rattle.inline_value.specs.CssValue.SizeKeywords.{size_keyword}
use Rattle.inline_value.specs.CssValue.TextDecoration.{line_word, has_line, without_line}
use Rattle.inline_value.specs.CssValue.Values.{font_weight_of, font_style_of, font_size_of}
use Rattle.inline_value.proofs.CssValue.Names.{same-name}
use Rattle.inline_value.proofs.CssValue.Dropping.{has_line-without_line}
use Rattle.inline_value.proofs.CssValue.Revised.{nothing-in, value_of-unset, value_of-without_line}
use Rattle.edit_model.specs.HtmlNames.declared.commands.Command.{Command}
use Rattle.inline_value.specs.NodeStyles.Blocks.{own_or_inline}
use Rattle.inline_value.specs.NodeStyles.LegacySizes.{legacy_size_of}
use Rattle.inline_value.specs.NodeStyles.OwnStyles.{attribute, is_named, declared, family_of, font_attribute, family_hint}
use Rattle.inline_value.specs.CommandValue.Subjects.{subject, property_of, relevant}
use Rattle.inline_value.specs.CommandValue.declared.subject.Subject.{Subject}
use Rattle.inline_value.specs.CommandValue.declared.subject.Subject.TheVariants.{Link, Background, Script, Line, Weight, Slant, Family, Size, Foreground, Nothing}
use Rattle.inline_value.specs.CommandValue.SpecifiedValues.{if_read, is_named_in, is_inline_display, is_line_element, gives_line, hinted_size, given_by, specified_in, specified}
use Rattle.edit_model.specs.State.{State}
use Rattle.edit_model.specs.Confined.{is_editable_for, is_own, has_value, may_set, may_unset}
use Rattle.edit_model.specs.Edit.{Edit, Set, Unset, is_made_edit, trees_after, with_set, with_unset, edited}
use Rattle.edit_model.specs.Kept.{is_thing}
use Rattle.edit_model.specs.Valid.{IsValid}
use Rattle.edit_model.specs.Run.{final, ◌>>=◌, ◌>>◌, done, given, edit, set_attribute, unset_attribute}
use Rattle.edit_model.proofs.IslandRuns.{trees_made, trees_left}
use Rattle.edit_model.proofs.Steps.{final-bind, final-answer, final-look, final-edit}
use Rattle.edit_model.proofs.TailPlan.{attributes_distinct}
use Rattle.inline_value.specs.Styling.{style_of, declarations_of, decoration_of, write_text, set_style, unset_style}
use Rattle.inline_value.specs.Clearing.{property_name, write_words, drop_line, drop_word, drop_property, hint_of, drop_attribute, drop_hint, drop_link}

-- ---- the values that an image or a rule gives

other : (tag name : List ℕ) → is_thing tag ≡ true → is_thing name ≡ false → bytes_eq tag name ≡ false
other tag name thing plain = by_test (bytes_eq tag name) refl
  where
    by_test : (b : Bool) → bytes_eq tag name ≡ b → b ≡ false
    by_test true e = absurd (true≢false (sym thing ∙ (ap is_thing (same-name tag name e) ∙ plain)))
    by_test false e = refl

another : (tag name : List ℕ) → is_thing tag ≡ true → is_thing name ≡ false → bytes_eq name tag ≡ false
another tag name thing plain = by_test (bytes_eq name tag) refl
  where
    by_test : (b : Bool) → bytes_eq name tag ≡ b → b ≡ false
    by_test true e = absurd (true≢false (sym thing ∙ (sym (ap is_thing (same-name name tag e)) ∙ plain)))
    by_test false e = refl

-- what its style says of the subject gives no value
abbrev IsUnstyled : Subject → Content → Type 0
IsUnstyled Link c = Unit {0}
IsUnstyled Background c = declared c (codes "background-color") ≡ None
IsUnstyled Script c = Unit {0}
IsUnstyled (Line line) c = option_map_or (λ text. has_line text line) (declared c (codes "text-decoration")) false ≡ false
IsUnstyled Weight c = declared c (codes "font-weight") ≡ None
IsUnstyled Slant c = declared c (codes "font-style") ≡ None
IsUnstyled Family c = declared c (codes "font-family") ≡ None
IsUnstyled Size c = declared c (codes "font-size") ≡ None
IsUnstyled Foreground c = declared c (codes "color") ≡ None
IsUnstyled Nothing c = Unit {0}

neither : (b : Bool) (o : Option (List ℕ)) → o ≡ None → (if b then o else None) ≡ None
neither true o none = none
neither false o none = refl

module _ (tag : List ℕ) (list : List Attribute) (thing : is_thing tag ≡ true) where
  not_named : (name : List ℕ) → is_thing name ≡ false → is_named name (Element tag list) ≡ false
  unfolding is_named
  not_named name plain = other tag name thing plain

  not_one : (a b : List ℕ) → is_thing a ≡ false → is_thing b ≡ false → is_named_in (a ∷ b ∷ []) (Element tag list) ≡ false
  not_one a b p q = ap (λ x. x || (bytes_eq b tag || false)) (another tag a thing p) ∙ ap (λ y. y || false) (another tag b thing q)

  no_font : (name : List ℕ) → font_attribute (Element tag list) name ≡ None
  no_font name = ap (λ b. if b then attribute (Element tag list) name else None) (not_named (codes "font") refl)

  no_line_name : (line : DecorationLine) → is_line_element line (Element tag list) ≡ false
  no_line_name Underline = not_named (codes "u") refl
  no_line_name Overline = refl
  no_line_name LineThrough = not_one (codes "s") (codes "strike") refl refl

  no_line : (line : DecorationLine) (o : Option (List ℕ)) → option_map_or (λ text. has_line text line) o false ≡ false → gives_line line (Element tag list) o ≡ false
  no_line line None h = no_line_name line
  no_line line (Some text) h = h

  given_none : (u : Subject) → IsUnstyled u (Element tag list) → given_by u (Element tag list) ≡ None
  unfolding family_hint
  given_none Link un = ap (λ b. if b then attribute (Element tag list) (codes "href") else None) (not_named (codes "a") refl)
  given_none Background un =
      neither (is_inline_display (own_or_inline (Element tag list))) (if_read colour_of (declared (Element tag list) (codes "background-color"))) (ap (if_read colour_of) un)
  given_none Script un =
      ap (λ b. if b then Some (codes "subscript") else (if is_named (codes "sup") (Element tag list) then Some (codes "superscript") else None)) (not_named (codes "sub") refl)
      ∙ ap (λ b. if b then Some (codes "superscript") else None) (not_named (codes "sup") refl)
  given_none (Line line) un = ap (λ b. if b then Some (line_word line) else None) (no_line line (declared (Element tag list) (codes "text-decoration")) un)
  given_none Weight un =
      ap (λ o. option_or (if_read font_weight_of o) (if is_named_in (codes "b" ∷ codes "strong" ∷ []) (Element tag list) then Some (codes "bold") else None)) un
      ∙ ap (λ b. if b then Some (codes "bold") else None) (not_one (codes "b") (codes "strong") refl refl)
  given_none Slant un =
      ap (λ o. option_or (if_read font_style_of o) (if is_named_in (codes "i" ∷ codes "em" ∷ []) (Element tag list) then Some (codes "italic") else None)) un
      ∙ ap (λ b. if b then Some (codes "italic") else None) (not_one (codes "i") (codes "em") refl refl)
  given_none Family un = ap (λ o. option_or (option_and_then family_of o) (family_hint (Element tag list))) un ∙ ap (option_and_then family_of) (no_font (codes "face"))
  given_none Size un =
      ap (λ o. option_or (if_read font_size_of o) (hinted_size (Element tag list))) un
      ∙ ap (λ (o : Option (List ℕ)). option_map size_keyword (option_and_then legacy_size_of o)) (no_font (codes "size"))
  given_none Foreground un =
      ap (λ o. option_or (if_read colour_of o) (if_read colour_of (font_attribute (Element tag list) (codes "color")))) un ∙ ap (if_read colour_of) (no_font (codes "color"))
  given_none Nothing un = refl

-- ---- the text of a style attribute

abbrev style_text : List Attribute → List ℕ
style_text list = unwrap_or (value_of list (codes "style")) []

declared_text : (tag : List ℕ) (list : List Attribute) (name : List ℕ) → declared (Element tag list) name ≡ declaration.value_of (declarations_in (style_text list)) name
unfolding declared attribute
declared_text tag list name = by_value (value_of list (codes "style"))
  where
    by_value : (o : Option (List ℕ)) → option_and_then (λ text. declaration.value_of (declarations_in text) name) o ≡ declaration.value_of (declarations_in (unwrap_or o [])) name
    by_value None = sym (ap (λ l. declaration.value_of l name) nothing-in)
    by_value (Some text) = refl

-- an element of this name with this text
record Styled (s : State) (e : ℕ) (tag text : List ℕ) : Type 0 where
  list : List Attribute
  content : content_of s.trees e ≡ Some (Element tag list)
  style : style_text list ≡ text

-- one whose style does not have this property
record Without (s : State) (e : ℕ) (tag name : List ℕ) : Type 0 where
  list : List Attribute
  content : content_of s.trees e ≡ Some (Element tag list)
  none : declared (Element tag list) name ≡ None

-- one whose style says nothing of the subject that gives a value
record Spent (u : Subject) (s : State) (e : ℕ) (tag : List ℕ) : Type 0 where
  list : List Attribute
  content : content_of s.trees e ≡ Some (Element tag list)
  none : IsUnstyled u (Element tag list)

-- ---- the steps

idle : (s : State) → final done s ≡ s
idle s = final-answer tt s

edit_alone : (x : Edit) (s : State) → final (edit x >>= (λ _. done)) s ≡ edited x s
edit_alone x s = final-bind (edit x) (λ _. done) s ∙ (idle (final (edit x) s) ∙ final-edit x s)

content_at : (f : Forest Content) (n : ℕ) (g : Content → Content) (c : Content) → content_of f n ≡ Some c → content_of (revised f n g) n ≡ Some (g c)
content_at f n g c h =
    content_of-revised n g f n ∙ (ap (option_map (λ d. cond (eqb n n) (g d) d)) h ∙ ap (λ b. Some (cond b (g c) c)) (eqb_refl_true n))

nothing_is : (text : List ℕ) → is_empty text ≡ true → [] ≡ text
nothing_is [] h = refl
nothing_is (c ∷ text) h = absurd (true≢false (sym h))

-- an attribute goes from elements of another name
attribute_stays : (s : State) (e : ℕ) (tag : List ℕ) (list : List Attribute) → content_of s.trees e ≡ Some (Element tag list) → (name gone : List ℕ) → bytes_eq tag name ≡ false → final (drop_attribute name gone e) s ≡ s
unfolding drop_attribute
attribute_stays s e tag list content name gone off =
    final-look (λ t. if has_name t.trees e name then unset_attribute e gone >> done else done) s
    ∙ (ap (λ b. final (if b then unset_attribute e gone >> done else done) s) named ∙ idle s)
  where
    named : has_name s.trees e name ≡ false
    named = ap (λ (o : Option Content). option_map_or (λ own. bytes_eq own name) (option_and_then name_in o) false) content ∙ off

-- the state after steps 3 to 6
abbrev left : Subject → ℕ → State → State
left u e s =
    final (drop_link u e) (final (given (hint_of u) done (λ hint. drop_attribute (codes "font") hint e))
    (final (given (property_of u) done (λ p. unset_style e (property_name p))) (final (drop_word u e) s)))

module _ (s : State) (is : IsValid s) (e : ℕ) (own : is_own s e ≡ true) (tag : List ℕ) (list : List Attribute) (content : content_of s.trees e ≡ Some (Element tag list)) where
  distinct : IsDistinctNames list
  distinct = subst (λ (o : Option Content). IsDistinctNames (unwrap_or (option_and_then attributes_in o) [])) content (attributes_distinct s.trees is.forest.nodes e)

  attributes_here : attributes_of s.trees e ≡ Some list
  attributes_here = ap (option_and_then attributes_in) content

  unset_test : (name : List ℕ) → is_made_edit (Unset e name) s ≡ option_map_or (λ _. true) (value_of list name) false
  unfolding is_made_edit may_unset
  unset_test name = rw (own, attributes_here) refl

  set_test : (name value : List ℕ) → is_made_edit (Set e name value) s ≡ not (has_value list name value)
  unfolding is_made_edit may_set
  set_test name value = rw (own, attributes_here) refl

  -- ---- a text that is written

  unset_styled : (text : List ℕ) → is_empty text ≡ true → Styled (edited (Unset e (codes "style")) s) e tag text
  unfolding trees_after
  unset_styled text none = by_made (is_made_edit (Unset e (codes "style")) s) refl
    where
      no_value : (o : Option (List ℕ)) → option_map_or (λ _. true) o false ≡ false → unwrap_or o [] ≡ text
      no_value None h = nothing_is text none
      no_value (Some value) h = absurd (true≢false h)

      by_made : (b : Bool) → is_made_edit (Unset e (codes "style")) s ≡ b → Styled (edited (Unset e (codes "style")) s) e tag text
      by_made true may = record {
        list = unset_in list (codes "style");
        content = ap (λ f. content_of f e) (trees_made (Unset e (codes "style")) s may) ∙ content_at s.trees e (with_unset (codes "style")) (Element tag list) content;
        style = ap (λ o. unwrap_or o []) (value-unset list (codes "style") distinct) ∙ nothing_is text none;
      }
      by_made false off = record {
        list = list;
        content = ap (λ f. content_of f e) (trees_left (Unset e (codes "style")) s off) ∙ content;
        style = no_value (value_of list (codes "style")) (sym (unset_test (codes "style")) ∙ off);
      }

  set_styled : (text : List ℕ) → Styled (edited (Set e (codes "style") text) s) e tag text
  unfolding trees_after
  set_styled text = by_made (is_made_edit (Set e (codes "style") text) s) refl
    where
      own_value : (o : Option (List ℕ)) → not (option_map_or (λ value. bytes_eq value text) o false) ≡ false → unwrap_or o [] ≡ text
      own_value None h = absurd (true≢false h)
      own_value (Some value) h = by_test (bytes_eq value text) refl h
        where
          by_test : (b : Bool) → bytes_eq value text ≡ b → not b ≡ false → value ≡ text
          by_test true same h = same-name value text same
          by_test false same h = absurd (true≢false h)

      by_made : (b : Bool) → is_made_edit (Set e (codes "style") text) s ≡ b → Styled (edited (Set e (codes "style") text) s) e tag text
      by_made true may = record {
        list = set_in list (codes "style") text;
        content = ap (λ f. content_of f e) (trees_made (Set e (codes "style") text) s may) ∙ content_at s.trees e (with_set (codes "style") text) (Element tag list) content;
        style = ap (λ o. unwrap_or o []) (value-set list (codes "style") text);
      }
      by_made false off = record {
        list = list;
        content = ap (λ f. content_of f e) (trees_left (Set e (codes "style") text) s off) ∙ content;
        style = own_value (value_of list (codes "style")) (sym (set_test (codes "style") text) ∙ off);
      }

  written : (text : List ℕ) → Styled (final (write_text e text) s) e tag text
  unfolding write_text
  written text = by_test (is_empty text) refl
    where
      by_test : (b : Bool) → is_empty text ≡ b → Styled (final (if b then unset_attribute e (codes "style") >> done else (set_attribute e (codes "style") text >> done)) s) e tag text
      by_test true none = subst (λ t. Styled t e tag text) (sym (edit_alone (Unset e (codes "style")) s)) (unset_styled text none)
      by_test false some = subst (λ t. Styled t e tag text) (sym (edit_alone (Set e (codes "style") text) s)) (set_styled text)

  -- ---- a property that is set or unset

  declarations_here : declarations_of s e ≡ declarations_in (style_text list)
  unfolding declarations_of style_of
  declarations_here = ap (λ (o : Option Content). declarations_in (style_text (unwrap_or (option_and_then attributes_in o) []))) content

  decoration_here : decoration_of s e ≡ declaration.value_of (declarations_in (style_text list)) (codes "text-decoration")
  unfolding decoration_of
  decoration_here = ap (λ l. declaration.value_of l (codes "text-decoration")) declarations_here

  property_unset : (name : List ℕ) → Without (final (unset_style e name) s) e tag name
  unfolding unset_style
  property_unset name =
      let text : List ℕ = printed (declaration.unset_in (declarations_in (style_text list)) name) in
      let run : final (unset_style e name) s ≡ final (write_text e text) s =
      final-look (λ t. write_text e (printed (declaration.unset_in (declarations_of t e) name))) s ∙ ap (λ l. final (write_text e (printed (declaration.unset_in l name))) s) declarations_here in
      let now : Styled (final (write_text e text) s) e tag text = written text in
      record {
        list = now.list;
        content = ap (λ (t : State). content_of t.trees e) run ∙ now.content;
        none =
            declared_text tag now.list name
            ∙ (ap (λ t. declaration.value_of (declarations_in t) name) now.style ∙ value_of-unset (style_text list) name);
      }

  property_set : (name value : List ℕ) → Styled (final (set_style e name value) s) e tag (printed (set_property (declarations_in (style_text list)) name value))
  unfolding set_style
  property_set name value =
      let text : List ℕ = printed (set_property (declarations_in (style_text list)) name value) in
      let run : final (set_style e name value) s ≡ final (write_text e text) s =
      final-look (λ t. write_text e (printed (set_property (declarations_of t e) name value))) s ∙ ap (λ l. final (write_text e (printed (set_property l name value))) s) declarations_here in
      subst (λ t. Styled t e tag text) (sym run) (written text)

  -- ---- step 3

  words_spent : (line : DecorationLine) (text : List ℕ) → decoration_of s e ≡ Some text → Spent (Line line) (final (write_words e (without_line text line)) s) e tag
  unfolding write_words
  words_spent line text at = by_words (is_empty (without_line text line)) refl
    where
      by_words : (b : Bool) → is_empty (without_line text line) ≡ b → Spent (Line line) (final (if b then unset_style e (codes "text-decoration") else set_style e (codes "text-decoration") (without_line text line)) s) e tag
      by_words true none =
          let now : Without (final (unset_style e (codes "text-decoration")) s) e tag (codes "text-decoration") = property_unset (codes "text-decoration") in
          record { list = now.list; content = now.content; none = ap (λ o. option_map_or (λ t. has_line t line) o false) now.none }
      by_words false some =
          let now : Styled (final (set_style e (codes "text-decoration") (without_line text line)) s) e tag (printed (set_property (declarations_in (style_text list)) (codes "text-decoration") (without_line text line))) = property_set (codes "text-decoration") (without_line text line) in
          let value : declared (Element tag now.list) (codes "text-decoration") ≡ Some (without_line text line) =
          declared_text tag now.list (codes "text-decoration")
          ∙ (ap (λ t. declaration.value_of (declarations_in t) (codes "text-decoration")) now.style
          ∙ value_of-without_line (style_text list) (codes "text-decoration") text line (sym decoration_here ∙ at) some) in
          record { list = now.list; content = now.content; none = ap (λ o. option_map_or (λ t. has_line t line) o false) value ∙ has_line-without_line text line }

  line_spent : (line : DecorationLine) → Spent (Line line) (final (drop_line line e) s) e tag
  unfolding drop_line
  line_spent line =
      subst (λ t. Spent (Line line) t e tag) (sym (final-look (λ t. given (decoration_of t e) done (λ text. write_words e (without_line text line))) s)) (by_value (decoration_of s e) refl)
    where
      by_value : (o : Option (List ℕ)) → decoration_of s e ≡ o → Spent (Line line) (final (given o done (λ text. write_words e (without_line text line))) s) e tag
      by_value None at = record {
        list = list;
        content = ap (λ (t : State). content_of t.trees e) (idle s) ∙ content;
        none = ap (λ o. option_map_or (λ t. has_line t line) o false) (declared_text tag list (codes "text-decoration") ∙ (sym decoration_here ∙ at));
      }
      by_value (Some text) at = words_spent line text at

  -- ---- all of them

  module _ (thing : is_thing tag ≡ true) where
    three_idle : final done (final done (final done s)) ≡ s
    three_idle = idle (final done (final done s)) ∙ (idle (final done s) ∙ idle s)

    unspent : (u : Subject) → left u e s ≡ s → IsUnstyled u (Element tag list) → Spent u (left u e s) e tag
    unspent u same none = subst (λ t. Spent u t e tag) (sym same) (record { list = list; content = content; none = none })

    unset_alone : (name : List ℕ) → final done (final done (final (unset_style e name) (final done s))) ≡ final (unset_style e name) s
    unset_alone name =
        idle (final done (final (unset_style e name) (final done s))) ∙ (idle (final (unset_style e name) (final done s)) ∙ ap (final (unset_style e name)) (idle s))

    unset_hinted : (name hint : List ℕ) → final done (final (drop_attribute (codes "font") hint e) (final (unset_style e name) (final done s))) ≡ final (unset_style e name) s
    unset_hinted name hint =
        let now : Without (final (unset_style e name) s) e tag name = property_unset name in
        idle (final (drop_attribute (codes "font") hint e) (final (unset_style e name) (final done s)))
        ∙ (ap (λ t. final (drop_attribute (codes "font") hint e) (final (unset_style e name) t)) (idle s)
        ∙ attribute_stays (final (unset_style e name) s) e tag now.list now.content (codes "font") hint (other tag (codes "font") thing refl))

    spent : (u : Subject) → Spent u (left u e s) e tag
    spent Link = unspent Link (ap (final (drop_attribute (codes "a") (codes "href") e)) three_idle ∙ attribute_stays s e tag list content (codes "a") (codes "href") (other tag (codes "a") thing refl)) tt
    spent Background =
        let now = property_unset (codes "background-color") in
        subst (λ t. Spent Background t e tag) (sym (unset_alone (codes "background-color"))) (record { list = now.list; content = now.content; none = now.none })
    spent Script = unspent Script (idle (final done (final done (final done s))) ∙ three_idle) tt
    spent (Line line) =
        let t : State = final (drop_line line e) s in
        let same : final done (final done (final done t)) ≡ t = idle (final done (final done t)) ∙ (idle (final done t) ∙ idle t) in
        subst (λ t. Spent (Line line) t e tag) (sym same) (line_spent line)
    spent Weight =
        let now = property_unset (codes "font-weight") in
        subst (λ t. Spent Weight t e tag) (sym (unset_alone (codes "font-weight"))) (record { list = now.list; content = now.content; none = now.none })
    spent Slant =
        let now = property_unset (codes "font-style") in
        subst (λ t. Spent Slant t e tag) (sym (unset_alone (codes "font-style"))) (record { list = now.list; content = now.content; none = now.none })
    spent Family =
        let now = property_unset (codes "font-family") in
        subst (λ t. Spent Family t e tag) (sym (unset_hinted (codes "font-family") (codes "face"))) (record { list = now.list; content = now.content; none = now.none })
    spent Size =
        let now = property_unset (codes "font-size") in
        subst (λ t. Spent Size t e tag) (sym (unset_hinted (codes "font-size") (codes "size"))) (record { list = now.list; content = now.content; none = now.none })
    spent Foreground =
        let now = property_unset (codes "color") in
        subst (λ t. Spent Foreground t e tag) (sym (unset_hinted (codes "color") (codes "color"))) (record { list = now.list; content = now.content; none = now.none })
    spent Nothing = unspent Nothing (idle (final done (final done (final done s))) ∙ three_idle) tt

spent_none : (command : Command) (s : State) (e : ℕ) (tag : List ℕ) → is_thing tag ≡ true → Spent (subject command) s e tag → specified s.trees e command ≡ None
unfolding specified specified_in
spent_none command s e tag thing now =
    ap (option_and_then (λ c. specified_in c command)) now.content ∙ given_none tag now.list thing (subject command) now.none

-- clear the value, steps 3 to 6: the state after them
abbrev pub dropped : Command → ℕ → State → State
dropped command e s =
    final (drop_link (subject command) e) (final (drop_hint command e) (final (drop_property command e) (final (drop_word (subject command) e) s)))

-- the law: after them an editable image or rule gives the command no value
pub thing_cleared : (command : Command) (e : ℕ) (s : State) (tag : List ℕ) (list : List Attribute) → IsValid s → is_editable_for s e ≡ true → content_of s.trees e ≡ Some (Element tag list) → is_thing tag ≡ true → specified (dropped command e s).trees e command ≡ None
unfolding drop_property drop_hint relevant is_own
thing_cleared command e s tag list is editable content thing =
    spent_none command (left (subject command) e s) e tag thing (spent s is e (rw editable refl) tag list content thing (subject command))
