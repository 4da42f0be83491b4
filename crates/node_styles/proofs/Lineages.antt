-- The lineage of a node, by its parent.
use Rattle.std.proofs.Common.{◌≡◌, ◌⊎◌, ℕ, ◌<◌, ◌≤◌, Bool, true, false, cond, ◌||◌, List, [], ◌∷◌, Option, Some, None, refl, sym, ap, ◌∙◌, inl, inr, arith, eqb}
use Rattle.std.proofs.lemmas.Bool.Decides.{eqb_tells}
use Rattle.std.specs.List.{find, list_any}
use Rattle.std.specs.Option.{option_map, option_and_then, option_or, unwrap_or, is_some}
use Rattle.node_arena.specs.DomModel.declared.Content.{Content}
use Rattle.node_arena.specs.DomModel.Forest.{Forest, Seen, tops, count_of, IsDistinct, parent_of, content_of}
use Rattle.node_arena.specs.DomModel.Forest.Forest.{Nil, Tree}
use Rattle.node_arena.proofs.DomModel.Stands.{Stands, count_of-Stands}
use Rattle.node_arena.proofs.DomModel.Links.{seen, parent_count}
use Rattle.node_styles.specs.Lineage.{Ancestor, lineage_from, lineage, nearest, has_in_lineage}

abbrev pub ancestor : ℕ → Content → Ancestor
ancestor l c = record { label = l; content = c }

pub lineage_absent : (above : List Ancestor) (f : Forest Content) (l : ℕ) → count_of f l ≡ 0 → lineage_from above f l ≡ None
lineage_absent above Nil l none = refl
lineage_absent above (Tree m c ks rest) l none =
    elim (eqb_tells m l) [
      | inl (t, _) ↦ absurd (let none' = rw t at none in omega (arith, none'))
      | inr (t, _) ↦ (let none' = rw t at none in
          rw (t, lineage_absent (ancestor m c ∷ above) ks l (omega (arith, none'))) (lineage_absent above rest l (omega (arith, none'))))
    ]

or_none : (o : Option (List Ancestor)) → option_or o None ≡ o
or_none None = refl
or_none (Some x) = refl

-- a node at the top stands below what the forest does; another stands below its parent
lineage_stands : (q : Option ℕ) (above : List Ancestor) (f : Forest Content) (l : ℕ) (s : Seen Content) → IsDistinct f → Stands q f l s
    → ((s.parent ≡ q) × (lineage_from above f l ≡ Some (ancestor l s.content ∷ above)))
    ⊎ ((p : ℕ) × (r : Seen Content) × (line : List Ancestor) × (s.parent ≡ Some p) × Stands q f p r × (lineage_from above f p ≡ Some line) × (lineage_from above f l ≡ Some (ancestor l s.content ∷ line)))
lineage_stands q above Nil l s once h = absurd h
lineage_stands q above (Tree m c ks rest) l s once (inl (same, is)) =
    elim (eqb_tells m l) [
      | inl (t, _) ↦ inl (ap (λ (x : Seen Content). x.parent) is, rw (t, same) (ap (λ (x : Seen Content). Some (ancestor l x.content ∷ above)) (sym is)))
      | inr (_, off) ↦ absurd (off same)
    ]
lineage_stands q above (Tree m c ks rest) l s once (inr (inl h)) =
    let in_ks : (k : ℕ) → count_of ks k ≤ 1 = λ k. omega (arith, once k) in
    let here = count_of-Stands (Some m) ks l s h in
    let none : count_of rest l ≡ 0 = omega (arith, once l, here) in
    let off : eqb m l ≡ false = elim (eqb_tells m l) [ inl (t, _) ↦ absurd (let o = once l in let o' = rw t at o in omega (arith, o', here)) | inr (t, _) ↦ t ] in
    let at : lineage_from above (Tree m c ks rest) l ≡ lineage_from (ancestor m c ∷ above) ks l = rw (off, lineage_absent above rest l none) (or_none _) in
    elim (lineage_stands (Some m) (ancestor m c ∷ above) ks l s in_ks h) [
      | inl (par, is) ↦ inr (m, record { parent = q; content = c; children = tops ks }, ancestor m c ∷ above, par, inl (refl, refl), top_is, at ∙ is)
      | inr (p, r, line, par, st, own, is) ↦ (
          let there = count_of-Stands (Some m) ks p r st in
          let none' : count_of rest p ≡ 0 = omega (arith, once p, there) in
          let off' : eqb m p ≡ false = elim (eqb_tells m p) [ inl (t, _) ↦ absurd (let o = once p in let o' = rw t at o in omega (arith, o', there)) | inr (t, _) ↦ t ] in
          let up : lineage_from above (Tree m c ks rest) p ≡ lineage_from (ancestor m c ∷ above) ks p = rw (off', lineage_absent above rest p none') (or_none _) in
          inr (p, r, line, par, inr (inl st), up ∙ own, at ∙ is))
    ]
  where
    top_is : lineage_from above (Tree m c ks rest) m ≡ Some (ancestor m c ∷ above)
    top_is = elim (eqb_tells m m) [ inl (t, _) ↦ rw t refl | inr (_, off) ↦ absurd (off refl) ]
lineage_stands q above (Tree m c ks rest) l s once (inr (inr h)) =
    let in_rest : (k : ℕ) → count_of rest k ≤ 1 = λ k. omega (arith, once k) in
    let here = count_of-Stands q rest l s h in
    let none : count_of ks l ≡ 0 = omega (arith, once l, here) in
    let off : eqb m l ≡ false = elim (eqb_tells m l) [ inl (t, _) ↦ absurd (let o = once l in let o' = rw t at o in omega (arith, o', here)) | inr (t, _) ↦ t ] in
    let at : lineage_from above (Tree m c ks rest) l ≡ lineage_from above rest l = rw (off, lineage_absent (ancestor m c ∷ above) ks l none) refl in
    elim (lineage_stands q above rest l s in_rest h) [
      | inl (par, is) ↦ inl (par, at ∙ is)
      | inr (p, r, line, par, st, own, is) ↦ (
          let there = count_of-Stands q rest p r st in
          let none' : count_of ks p ≡ 0 = omega (arith, once p, there) in
          let off' : eqb m p ≡ false = elim (eqb_tells m p) [ inl (t, _) ↦ absurd (let o = once p in let o' = rw t at o in omega (arith, o', there)) | inr (t, _) ↦ t ] in
          let up : lineage_from above (Tree m c ks rest) p ≡ lineage_from above rest p = rw (off', lineage_absent (ancestor m c ∷ above) ks p none') refl in
          inr (p, r, line, par, inr (inr st), up ∙ own, at ∙ is))
    ]

module _ (f : Forest Content) (once : IsDistinct f) where
  -- a root stands alone
  pub lineage-root : (l : ℕ) (c : Content) → 0 < count_of f l → parent_of f l ≡ None → content_of f l ≡ Some c → lineage f l ≡ ancestor l c ∷ []
  unfolding lineage
  lineage-root l c here root content =
      let s = seen f l once here in
      let own : s.0.parent ≡ None = ap (option_and_then (λ (x : Seen Content). x.parent)) (sym s.2) ∙ root in
      let is_c : s.0.content ≡ c = (let t : Some s.0.content ≡ Some c = ap (option_map (λ (x : Seen Content). x.content)) (sym s.2) ∙ content in cc) in
      elim (lineage_stands None [] f l s.0 once s.1) [
        | inl (_, is) ↦ ap (λ o. unwrap_or o []) is ∙ ap (λ d. ancestor l d ∷ []) is_c
        | inr (p, _, _, par, _, _, _) ↦ absurd (let t : None ≡ Some p = sym own ∙ par in cc)
      ]

  -- another node stands below its parent
  pub lineage-child : (l p : ℕ) (c : Content) → parent_of f l ≡ Some p → content_of f l ≡ Some c → lineage f l ≡ ancestor l c ∷ lineage f p
  unfolding lineage
  lineage-child l p c child content =
      let s = seen f l once (parent_count f l p once child).0 in
      let own : s.0.parent ≡ Some p = ap (option_and_then (λ (x : Seen Content). x.parent)) (sym s.2) ∙ child in
      let is_c : s.0.content ≡ c = (let t : Some s.0.content ≡ Some c = ap (option_map (λ (x : Seen Content). x.content)) (sym s.2) ∙ content in cc) in
      elim (lineage_stands None [] f l s.0 once s.1) [
        | inl (at, _) ↦ absurd (let t : None ≡ Some p = sym at ∙ own in cc)
        | inr (q, _, line, par, _, up, is) ↦ (
            let same : q ≡ p = (let t : Some q ≡ Some p = sym par ∙ own in cc) in
            let line_is : line ≡ unwrap_or (lineage_from [] f p) [] = sym (ap (λ k. unwrap_or (lineage_from [] f k) []) (sym same) ∙ ap (λ o. unwrap_or o []) up) in
            ap (λ o. unwrap_or o []) is ∙ (ap (λ d. ancestor l d ∷ line) is_c ∙ ap (λ ks. ancestor l c ∷ ks) line_is))
      ]

module _ (test : Content → Bool) (f : Forest Content) where
  found_first : (l : ℕ) (c : Content) (rest : List Ancestor) → lineage f l ≡ ancestor l c ∷ rest → test c ≡ true → nearest test f l ≡ Some (ancestor l c)
  unfolding nearest
  found_first l c rest line passes = rw (line, passes) refl

  pub nearest-rest : (l : ℕ) (c : Content) (rest : List Ancestor) → lineage f l ≡ ancestor l c ∷ rest → test c ≡ false → nearest test f l ≡ find (λ k. test k.content) rest
  unfolding nearest
  nearest-rest l c rest line fails = rw (line, fails) refl

  module _ (once : IsDistinct f) (l : ℕ) (c : Content) (here : 0 < count_of f l) (content : content_of f l ≡ Some c) where
    -- a node that passes is the nearest
    pub nearest-here : test c ≡ true → nearest test f l ≡ Some (ancestor l c)
    nearest-here passes = by_parent (parent_of f l) refl
      where
        by_parent : (o : Option ℕ) → parent_of f l ≡ o → nearest test f l ≡ Some (ancestor l c)
        by_parent None e = found_first l c [] (lineage-root f once l c here e content) passes
        by_parent (Some p) e = found_first l c (lineage f p) (lineage-child f once l p c e content) passes

    -- where a root doesn't pass, none does
    pub nearest-root : parent_of f l ≡ None → test c ≡ false → nearest test f l ≡ None
    nearest-root root fails = nearest-rest l c [] (lineage-root f once l c here root content) fails

    -- where a node doesn't pass, the nearest is its parent's
    pub nearest-parent : (p : ℕ) → parent_of f l ≡ Some p → test c ≡ false → nearest test f l ≡ nearest test f p
    unfolding nearest
    nearest-parent p child fails = nearest-rest l c (lineage f p) (lineage-child f once l p c child content) fails

  -- a node that passes is there exactly where there is a nearest
  pub has_in_lineage_nearest : (l : ℕ) → has_in_lineage test f l ≡ is_some (nearest test f l)
  unfolding has_in_lineage nearest
  has_in_lineage_nearest l = any_find (lineage f l)
    where
      any_find : (ks : List Ancestor) → list_any (λ k. test k.content) ks ≡ is_some (find (λ k. test k.content) ks)
      any_find [] = refl
      any_find (k ∷ ks) =
          elim (test k.content) as (λ v. (v || list_any (λ k. test k.content) ks) ≡ is_some (cond v (Some k) (find (λ k. test k.content) ks))) [
            | true ↦ refl
            | false ↦ any_find ks
          ]
