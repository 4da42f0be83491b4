-- What is read of the nodes of a forest of the grammar: names, attributes and characters.
use Rattle.std.proofs.Common.{◌≡◌, ℕ, List, [], Option, Some, None, IfSome, refl, sym, ap, subst}
use Rattle.std.specs.Prelude.{unwrap_or}
use Rattle.std.specs.Option.{option_and_then}
use Rattle.edit_model.specs.DomModel.declared.Content.{Content}
use Rattle.edit_model.specs.DomModel.declared.Content.TheVariants.{Document, Element, Words, Remark}
use Rattle.edit_model.specs.DomModel.Contents.{name_in, attributes_in, chars_in}
use Rattle.edit_model.specs.DomModel.Forest.{Forest, content_of}
use Rattle.edit_model.specs.Compositions.{tag_of, attribute_list_of, characters_of}
use Rattle.making_laws.proofs.Named.{IsNamed}
use Rattle.grammar_laws.specs.Proper.{AllNodes, IsText, IsList, IsProper}
use Rattle.grammar_laws.proofs.Lists.{list_none}
use Rattle.grammar_laws.proofs.Names.{IsPageName}
use Rattle.grammar_laws.proofs.Nodes.{node_at}

module _ (f : Forest Content) (h : AllNodes IsProper f) (l : ℕ) where
  -- an element's name
  pub tag_proper : IsNamed f l → IsPageName (tag_of f l)
  tag_proper (name, e) = subst IsPageName (sym (ap (λ (o : Option (List ℕ)). unwrap_or o []) e)) (by_content (content_of f l) (node_at IsProper f l h) e)
    where
      by_content : (o : Option Content) → IfSome o IsProper → option_and_then name_in o ≡ Some name → IsPageName name
      by_content None k t = absurd (let u : None ≡ Some name = t in cc)
      by_content (Some Document) k t = absurd (let u : None ≡ Some name = t in cc)
      by_content (Some (Element own list)) k t = (let same : own ≡ name = (let u : Some own ≡ Some name = t in cc) in subst IsPageName same (k.0.0, k.1))
      by_content (Some (Words chars)) k t = absurd (let u : None ≡ Some name = t in cc)
      by_content (Some (Remark chars)) k t = absurd (let u : None ≡ Some name = t in cc)

  pub list_proper : IsList (attribute_list_of f l)
  list_proper = by_content (content_of f l) (node_at IsProper f l h)
    where
      by_content : (o : Option Content) → IfSome o IsProper → IsList (unwrap_or (option_and_then attributes_in o) [])
      by_content None k = list_none
      by_content (Some Document) k = list_none
      by_content (Some (Element name list)) k = (k.0.1, k.0.2)
      by_content (Some (Words chars)) k = list_none
      by_content (Some (Remark chars)) k = list_none

  pub chars_proper : IsText (characters_of f l)
  chars_proper = by_content (content_of f l) (node_at IsProper f l h)
    where
      by_content : (o : Option Content) → IfSome o IsProper → IsText (unwrap_or (option_and_then chars_in o) [])
      by_content None k = refl
      by_content (Some Document) k = refl
      by_content (Some (Element name list)) k = refl
      by_content (Some (Words chars)) k = k
      by_content (Some (Remark chars)) k = k.0
