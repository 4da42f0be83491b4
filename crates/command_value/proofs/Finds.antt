-- What follows from the nearest node that was found, or not found, for the values along a lineage.
use Rattle.std.proofs.Common.{◌≡◌, ℕ, Bool, true, false, cond, not, ◌||◌, List, [], ◌∷◌, Option, Some, None, refl, sym, ap, ◌∙◌, inl, inr, true≢false, codes}
use Rattle.std.proofs.lemmas.Bool.{cases_Bool}
use Rattle.std.specs.List.{find, list_any}
use Rattle.std.specs.Option.{option_and_then}
use Rattle.node_styles.specs.DomModel.declared.Content.{Content}
use Rattle.node_styles.specs.DomModel.Forest.{Forest, content_of}
use Rattle.node_styles.specs.NodeArena.declared.NodeRef.{NodeRef}
use Rattle.node_styles.specs.Blocks.{is_block_content}
use Rattle.node_styles.specs.Lineage.{Ancestor, lineage, nearest}
use Rattle.node_styles.specs.OwnStyles.{attribute, is_named}
use Rattle.node_styles.specs.Traits.{IsNearest}
use Rattle.command_value.specs.EffectiveValues.{is_link, link_at, inline_part}
use Rattle.command_value.specs.Lines.{is_inline_end}

module _ (holds : NodeRef → Type 0) (f : Forest Content) (l : ℕ) where
  pub link_found : (r : NodeRef) (c : Content) → IsNearest is_link holds f l r → content_of f r.label ≡ Some c → attribute c (codes "href") ≡ link_at f l
  unfolding link_at
  link_found r c found at =
      let same : found.content ≡ c = (let t : Some found.content ≡ Some c = sym found.at ∙ at in cc) in
      sym (ap (λ (o : Option Ancestor). option_and_then (λ k. attribute k.content (codes "href")) o) found.is ∙ ap (λ d. attribute d (codes "href")) same)

  pub link_none : nearest is_link f l ≡ None → None ≡ link_at f l
  unfolding link_at
  link_none none = sym (ap (λ (o : Option Ancestor). option_and_then (λ k. attribute k.content (codes "href")) o) none)

-- the first that ends the inline part is of the name exactly where it is no block
inline_any : (name : List ℕ) (ks : List Ancestor) (k : Ancestor) → find (λ j. is_inline_end name j.content) ks ≡ Some k → list_any (λ j. is_named name j.content) (inline_part ks) ≡ not (is_block_content k.content)
inline_any name [] k at = absurd (let t : None ≡ Some k = at in cc)
inline_any name (j ∷ ks) k at =
    elim (cases_Bool (is_block_content j.content)) [
      | inl block ↦ (
          let ends : is_inline_end name j.content ≡ true = ap (λ b. is_named name j.content || b) block ∙ or_true (is_named name j.content) in
          let it : Some j ≡ Some k = sym (ap (λ b. cond b (Some j) (find (λ i. is_inline_end name i.content) ks)) ends) ∙ at in
          let same : j ≡ k = cc in
          ap (λ b. list_any (λ i. is_named name i.content) (cond b [] (j ∷ inline_part ks))) block ∙ sym (ap (λ (i : Ancestor). not (is_block_content i.content)) (sym same) ∙ ap not block))
      | inr inline ↦ (
          let front : list_any (λ i. is_named name i.content) (inline_part (j ∷ ks)) ≡ (is_named name j.content || list_any (λ i. is_named name i.content) (inline_part ks)) = ap (λ b. list_any (λ i. is_named name i.content) (cond b [] (j ∷ inline_part ks))) inline in
          elim (cases_Bool (is_named name j.content)) [
            | inl named ↦ (
                let ends : is_inline_end name j.content ≡ true = ap (λ b. b || is_block_content j.content) named in
                let it : Some j ≡ Some k = sym (ap (λ b. cond b (Some j) (find (λ i. is_inline_end name i.content) ks)) ends) ∙ at in
                let same : j ≡ k = cc in
                front ∙ ap (λ b. b || list_any (λ i. is_named name i.content) (inline_part ks)) named ∙ sym (ap (λ (i : Ancestor). not (is_block_content i.content)) (sym same) ∙ ap not inline))
            | inr other ↦ (
                let passes : is_inline_end name j.content ≡ false = ap (λ b. b || is_block_content j.content) other ∙ inline in
                let further : find (λ i. is_inline_end name i.content) ks ≡ Some k = sym (ap (λ b. cond b (Some j) (find (λ i. is_inline_end name i.content) ks)) passes) ∙ at in
                front ∙ ap (λ b. b || list_any (λ i. is_named name i.content) (inline_part ks)) other ∙ inline_any name ks k further)
          ])
    ]
  where
    or_true : (b : Bool) → (b || true) ≡ true
    or_true true = refl
    or_true false = refl

inline_no : (name : List ℕ) (ks : List Ancestor) → find (λ j. is_inline_end name j.content) ks ≡ None → list_any (λ j. is_named name j.content) (inline_part ks) ≡ false
inline_no name [] none = refl
inline_no name (j ∷ ks) none =
    elim (cases_Bool (is_inline_end name j.content)) [
      | inl ends ↦ absurd (let t : Some j ≡ None = sym (ap (λ b. cond b (Some j) (find (λ i. is_inline_end name i.content) ks)) ends) ∙ none in cc)
      | inr passes ↦ (
          let further : find (λ i. is_inline_end name i.content) ks ≡ None = sym (ap (λ b. cond b (Some j) (find (λ i. is_inline_end name i.content) ks)) passes) ∙ none in
          let neither = parts (is_named name j.content) (is_block_content j.content) passes in
          ap (λ b. list_any (λ i. is_named name i.content) (cond b [] (j ∷ inline_part ks))) neither.1
          ∙ ap (λ b. b || list_any (λ i. is_named name i.content) (inline_part ks)) neither.0
          ∙ inline_no name ks further)
    ]
  where
    parts : (a b : Bool) → (a || b) ≡ false → (a ≡ false) × (b ≡ false)
    parts true b h = absurd (true≢false h)
    parts false b h = (refl, h)

module _ (name : List ℕ) (holds : NodeRef → Type 0) (f : Forest Content) (l : ℕ) where
  pub inline_found : (r : NodeRef) (c : Content) → IsNearest (is_inline_end name) holds f l r → content_of f r.label ≡ Some c → not (is_block_content c) ≡ list_any (λ k. is_named name k.content) (inline_part (lineage f l))
  unfolding nearest
  inline_found r c found at =
      let same : found.content ≡ c = (let t : Some found.content ≡ Some c = sym found.at ∙ at in cc) in
      sym (inline_any name (lineage f l) (record { label = r.label; content = found.content }) found.is ∙ ap (λ d. not (is_block_content d)) same)

  pub inline_none : nearest (is_inline_end name) f l ≡ None → false ≡ list_any (λ k. is_named name k.content) (inline_part (lineage f l))
  unfolding nearest
  inline_none none = sym (inline_no name (lineage f l) none)
