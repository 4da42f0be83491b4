-- What the grammar of pages asks of the nodes of a document, and of what edits put into it: the names
-- of elements and attributes are its names in lower case, no element has a name that pages may not
-- have, characters are scalar values, no comment has `-->` in it, and no element has two attributes
-- of a name.
use Rattle.std.specs.Prelude.{◌≡◌, ℕ, List, true, false}
use Rattle.std.specs.Str.{all_scalars}
use Rattle.edit_model.specs.DomModel.declared.attributes.Attribute.{Attribute}
use Rattle.edit_model.specs.DomModel.declared.Content.{Content}
use Rattle.edit_model.specs.DomModel.declared.Content.TheVariants.{Document, Element, Words, Remark}
use Rattle.edit_model.specs.DomModel.AttributeList.{IsDistinctNames}
use Rattle.edit_model.specs.DomModel.Change.{Change, SetText, Splice, SetAttributes}
use Rattle.edit_model.specs.DomModel.Forest.{Forest}
use Rattle.edit_model.specs.DomModel.Forest.Forest.{Nil, Tree}
use Rattle.inline_value.specs.ForestChanges.Named.{Each}
use Rattle.edit_model.specs.State.{State}
use Rattle.edit_model.specs.declared.settings.Setting.{Setting}
use Rattle.edit_model.specs.declared.settings.Setting.TheVariants.{Text}
use Rattle.step_text.specs.PageGrammar.Names.{is_refused}
use Rattle.page_laws.specs.Writable.{HasNoClose}
use Rattle.step_text.specs.StepLine.{AreAttributes, IsTag}

-- each content of a forest has the property
abbrev pub AllNodes : {C : Type 0} → (C → Type 0) → Forest C → Type 0
AllNodes P Nil = Unit {0}
AllNodes P (Tree l c ks rest) = P c × AllNodes P ks × AllNodes P rest

abbrev pub IsText : List ℕ → Type 0
IsText chars = all_scalars chars ≡ true

-- an attribute list that a tag may have
abbrev pub IsList : List Attribute → Type 0
IsList list = AreAttributes list × IsDistinctNames list

-- a tag of an element that a page may have
abbrev pub IsPageTag : List ℕ → List Attribute → Type 0
IsPageTag name attributes = IsTag name attributes × (is_refused name ≡ false)

abbrev pub IsProper : Content → Type 0
IsProper Document = Unit {0}
IsProper (Element name attributes) = IsPageTag name attributes
IsProper (Words chars) = IsText chars
IsProper (Remark chars) = IsText chars × HasNoClose chars

-- what a change puts
abbrev pub IsProperChange : Change → Type 0
IsProperChange (SetText n words) = IsText words
IsProperChange (Splice n at rest taken put) = IsText put
IsProperChange (SetAttributes n list) = IsList list
IsProperChange _ = Unit {0}

-- a value override
abbrev pub IsProperSetting : Setting → Type 0
IsProperSetting (Text value) = IsText value
IsProperSetting _ = Unit {0}

-- a node that was made, by its content
abbrev pub IsProperNode : ℕ × Content → Type 0
IsProperNode node = IsProper node.1

-- the nodes of a state, its overrides, and what the running command has made and changed
pub record IsProperState (s : State) : Type 0 where
  pub nodes : AllNodes IsProper s.trees
  pub settings : Each IsProperSetting s.overrides
  pub made : Each IsProperNode s.made
  pub edits : Each IsProperChange s.edits
