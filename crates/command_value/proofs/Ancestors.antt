-- The lineage of a node, step by step: its length.
use Rattle.std.proofs.Common.{◌≡◌, ℕ, suc, ◌+◌, ◌<◌, ◌≤◌, cond, List, [], ◌∷◌, length, Option, Some, None, sym, ap, subst, ◌∙◌, refl, inl, inr, arith, eqb}
use Rattle.std.proofs.lemmas.Bool.Decides.{eqb_tells}
use Rattle.std.specs.Option.{option_map, option_or, unwrap_or}
use Rattle.node_styles.specs.DomModel.declared.Content.{Content}
use Rattle.node_styles.specs.DomModel.Document.{node_count}
use Rattle.node_styles.specs.DomModel.Forest.{Forest, Seen, total, count_of, IsDistinct, IsWithin, parent_of, content_of}
use Rattle.node_styles.specs.DomModel.Forest.Forest.{Nil, Tree}
use Rattle.node_styles.proofs.DomModel.Links.{seen}
use Rattle.node_styles.proofs.DomModel.Walks.{document_first}
use Rattle.node_styles.specs.NodeArena.declared.NodeRef.{NodeRef}
use Rattle.node_styles.specs.NodeArena.Reads.{IsValid}
use Rattle.node_styles.specs.Lineage.{Ancestor, lineage_from, lineage}
use Rattle.node_styles.proofs.Lineages.{ancestor, lineage-root, lineage-child}
use Rattle.command_value.specs.Lines.{lineage_of}

-- ---- its length

longer : (above : List Ancestor) (g : Forest Content) (l : ℕ) (line : List Ancestor) → lineage_from above g l ≡ Some line → length line ≤ length above + total (λ _ _. 1) g
longer above Nil l line is = absurd (let t : None ≡ Some line = is in cc)
longer above (Tree m c ks rest) l line is =
    elim (eqb_tells m l) [
      | inl (t, _) ↦ (
          let is' : Some (ancestor m c ∷ above) ≡ Some line = rw t at is in
          let same : ancestor m c ∷ above ≡ line = cc in
          omega (arith, ap (λ (x : List Ancestor). length x) same))
      | inr (t, _) ↦ below (longer (ancestor m c ∷ above) ks l line) (longer above rest l line) (lineage_from (ancestor m c ∷ above) ks l) refl (rw t at is)
    ]
  where
    below : (lineage_from (ancestor m c ∷ above) ks l ≡ Some line → length line ≤ suc (length above) + total (λ _ _. 1) ks) → (lineage_from above rest l ≡ Some line → length line ≤ length above + total (λ _ _. 1) rest) → (o : Option (List Ancestor)) → lineage_from (ancestor m c ∷ above) ks l ≡ o → option_or o (lineage_from above rest l) ≡ Some line → length line ≤ length above + total (λ _ _. 1) (Tree m c ks rest)
    below inner outer (Some x) e found = omega (arith, inner (e ∙ found))
    below inner outer None e found = omega (arith, outer found)

absent : (above : List Ancestor) (g : Forest Content) (l : ℕ) → count_of g l ≡ 0 → lineage_from above g l ≡ None
absent above Nil l none = refl
absent above (Tree m c ks rest) l none =
    elim (eqb_tells m l) [
      | inl (t, _) ↦ absurd (let none' = rw t at none in omega (arith, none'))
      | inr (t, _) ↦ (let none' = rw t at none in
          rw (t, absent (ancestor m c ∷ above) ks l (omega (arith, none'))) (absent above rest l (omega (arith, none'))))
    ]

pub lineage_short : (f : Forest Content) (l : ℕ) → length (lineage f l) ≤ total (λ _ _. 1) f
unfolding lineage
lineage_short f l = by_found (lineage_from [] f l) refl
  where
    by_found : (o : Option (List Ancestor)) → lineage_from [] f l ≡ o → length (unwrap_or o []) ≤ total (λ _ _. 1) f
    by_found None e = omega arith
    by_found (Some line) e = omega (arith, longer [] f l line e)

in_tree : (c : Content) (ks rest : Forest Content) (l : ℕ) → IsDistinct (Tree 0 c ks rest) → IsWithin (Tree 0 c ks rest) 0 l → length (lineage (Tree 0 c ks rest) l) ≤ node_count (Tree 0 c ks rest)
unfolding lineage
in_tree c ks rest l once within = by_found (lineage_from [] (Tree 0 c ks rest) l) refl
  where
    alone : lineage_from [] (Tree 0 c ks rest) l ≡ lineage_from [] (Tree 0 c ks Nil) l
    alone = ap (λ o. cond (eqb 0 l) (Some (ancestor 0 c ∷ [])) (option_or (lineage_from (ancestor 0 c ∷ []) ks l) o)) (absent [] rest l (omega (arith, once l, within)))

    by_found : (o : Option (List Ancestor)) → lineage_from [] (Tree 0 c ks rest) l ≡ o → length (unwrap_or o []) ≤ node_count (Tree 0 c ks rest)
    by_found None e = omega arith
    by_found (Some line) e = omega (arith, longer [] (Tree 0 c ks Nil) l line (sym alone ∙ e))

-- a node stands below those that its parent stands below
pub step_at : (f : Forest Content) → IsDistinct f → (l : ℕ) → 0 < count_of f l → (c : Content) × (content_of f l ≡ Some c) × (lineage f l ≡ ancestor l c ∷ lineage_of f (parent_of f l))
step_at f once l here =
    let s = seen f l once here in
    let content : content_of f l ≡ Some s.0.content = ap (option_map (λ (x : Seen Content). x.content)) s.2 in
    (s.0.content, content, by_parent s.0.content content (parent_of f l) refl)
  where
    by_parent : (c : Content) → content_of f l ≡ Some c → (o : Option ℕ) → parent_of f l ≡ o → lineage f l ≡ ancestor l c ∷ lineage_of f o
    by_parent c content None e = lineage-root f once l c here e content
    by_parent c content (Some p) e = lineage-child f once l p c e content

module _ {holds : NodeRef → Type 0} {f : Forest Content} {upper : ℕ} (law : IsValid holds f upper) where
  -- in the document it isn't longer than the document has nodes
  pub lineage_within : (l : ℕ) → IsWithin f 0 l → length (lineage f l) ≤ node_count f
  lineage_within l within =
      let first = document_first f law.distinct law.rising law.document law.root in
      subst (λ g. IsDistinct g → IsWithin g 0 l → length (lineage g l) ≤ node_count g) (sym first.3) (in_tree first.0 first.1 first.2 l) law.distinct within
