use Rattle.std.proofs.Common.{◌≡◌, ℕ, false, List, inl, inr, refl, sym, codes}
use Rattle.std.specs.Str.{bytes_eq}
use Rattle.node_arena.proofs.DomModel.Stands.{true_or_false}
use Rattle.std.proofs.lemmas.Slice.Eq.{bytes_eq-Decides}
use Rattle.css_value.specs.Values.{display_of}
use Rattle.node_styles.proofs.own.display_named.Goals as goal

pub returns-in_default : goal.returns-in_default
unfolding display_of
returns-in_default c =
    let text = c.args.text.now in
    rw (differs (codes "block") text c.in_default.not-block, differs (codes "inline") text c.in_default.not-inline, differs (codes "inline-block") text c.in_default.not-text, differs (codes "inline-table") text c.in_default.not-text-2, differs (codes "list-item") text c.in_default.not-text-3, differs (codes "table") text c.in_default.not-table, differs (codes "none") text c.in_default.not-none) refl
  where
    differs : (word text : List ℕ) → (text ≡ word → ⊥) → bytes_eq word text ≡ false
    differs word text other =
        elim (true_or_false (bytes_eq word text)) [ inl t ↦ absurd (other (sym ((bytes_eq-Decides word text).0 t))) | inr t ↦ t ]
