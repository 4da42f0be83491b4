-- What the laws of a state say of a node whose content is known.
use Rattle.std.proofs.Common.{◌≡◌, ◌↔◌, ◌^◌, ℕ, ◌<◌, false, [], Option, Some, None, refl, ap, subst, ◌∙◌}
use Rattle.std.specs.Option.{option_map, option_map_or}
use Rattle.dom_model.specs.declared.Content.{Content}
use Rattle.dom_model.specs.declared.Content.TheVariants.{Document}
use Rattle.dom_model.specs.Contents.{char_length, may_have_children}
use Rattle.dom_model.specs.ArenaState.{ArenaState, IsValid}
use Rattle.dom_model.specs.Forest.{Seen, seek, content_of, children_of}

found_of_content : (s : ArenaState) (l : ℕ) (c : Content) → content_of s.trees l ≡ Some c → (o : Seen Content) × (seek None s.trees l ≡ Some o) × (o.content ≡ c)
found_of_content s l c e = by_seen (seek None s.trees l) refl e
  where
    by_seen : (o : Option (Seen Content)) → seek None s.trees l ≡ o → option_map (λ (x : Seen Content). x.content) o ≡ Some c → (r : Seen Content) × (seek None s.trees l ≡ Some r) × (r.content ≡ c)
    by_seen None t h = absurd (let h' = h in cc)
    by_seen (Some o) t h = (o, t, (let h' = h in cc))

module _ (s : ArenaState) (law : IsValid s) (l : ℕ) (c : Content) (is : content_of s.trees l ≡ Some c) where
  -- it has fewer than 2 ^ 32 characters
  pub short_chars : char_length c < 2 ^ 32
  short_chars = (let r = found_of_content s l c is in subst (λ x. char_length x < 2 ^ 32) r.2 (law.nodes l r.0 r.1).short)

  -- it is the Document exactly where its label is 0
  pub document_label : (c ≡ Document) ↔ (l ≡ 0)
  document_label = (let r = found_of_content s l c is in subst (λ x. (x ≡ Document) ↔ (l ≡ 0)) r.2 (law.nodes l r.0 r.1).document)

  -- Words and Remarks have no children
  pub leaf_children : may_have_children c ≡ false → children_of s.trees l ≡ []
  leaf_children h =
      let r = found_of_content s l c is in
      ap (λ o. option_map_or (λ (x : Seen Content). x.children) o []) r.1 ∙ (law.nodes l r.0 r.1).leaf (ap may_have_children r.2 ∙ h)
