-- The characters of a node of an arena can be counted in 32 bits.
use Rattle.std.proofs.Common.{◌≡◌, ℕ, ◌<◌, ◌^◌, length, Option, Some, None, refl, sym, ap, subst, ◌∙◌}
use Rattle.std.specs.Option.{option_map}
use Rattle.edit_model.specs.DomModel.declared.Content.{Content}
use Rattle.edit_model.specs.DomModel.declared.Content.TheVariants.{Document, Element, Words, Remark}
use Rattle.edit_model.specs.DomModel.Contents.{char_length}
use Rattle.edit_model.specs.DomModel.Forest.{Seen, seek, content_of}
use Rattle.edit_model.specs.DomModel.ArenaState.{ArenaState as Arena, IsValid as IsArena}
use Rattle.edit_doc.specs.Splicing.{own_chars}

chars_length : (c : Content) → char_length c < 2 ^ 32 → length (own_chars c) < 2 ^ 32
chars_length Document short = short
chars_length (Element name attributes) short = short
chars_length (Words chars) short = short
chars_length (Remark chars) short = short

pub short_chars : (a : Arena) → IsArena a → (l : ℕ) (c : Content) → content_of a.trees l ≡ Some c → length (own_chars c) < 2 ^ 32
short_chars a law l c is = by_seen (seek None a.trees l) refl
  where
    by_seen : (o : Option (Seen Content)) → seek None a.trees l ≡ o → length (own_chars c) < 2 ^ 32
    by_seen None e = absurd (let none : None ≡ Some c = sym (ap (option_map (λ (s : Seen Content). s.content)) e) ∙ is in cc)
    by_seen (Some s) e =
        let some : Some s.content ≡ Some c = sym (ap (option_map (λ (s : Seen Content). s.content)) e) ∙ is in
        let same : s.content ≡ c = (let t = some in cc) in
        chars_length c (subst (λ x. char_length x < 2 ^ 32) same (law.nodes l s e).short)
