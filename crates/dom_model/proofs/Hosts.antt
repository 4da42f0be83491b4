-- The host of a node, by its parent.
use Rattle.std.proofs.Common.{◌≡◌, ◌⊎◌, ℕ, zero, suc, ◌≤◌, Bool, true, false, cond, ◌||◌, Option, Some, None, refl, sym, ap, ◌∙◌, inl, inr, arith, eqb}
use Rattle.std.proofs.lemmas.Bool.Decides.{eqb_tells}
use Rattle.std.specs.Option.{option_map, option_and_then}
use Rattle.dom_model.specs.declared.Content.{Content}
use Rattle.dom_model.specs.Contents.{is_element}
use Rattle.dom_model.specs.Editing.{is_true_state, is_false_state, host_by, offered, host_from, editing_host}
use Rattle.dom_model.specs.Forest.{Forest, Seen, tops, count_of, IsDistinct, parent_of, content_of, either}
use Rattle.dom_model.specs.Forest.Forest.{Nil, Tree}
use Rattle.dom_model.proofs.Stands.{Stands, count_of-Stands, seek_Stands}
use Rattle.dom_model.proofs.Links.{seen, parent_count}

host_absent : (e : Bool) (above : Option ℕ) (f : Forest Content) (l : ℕ) → count_of f l ≡ 0 → host_from e above f l ≡ None
host_absent e above Nil l none = refl
host_absent e above (Tree m c ks rest) l none =
    elim (eqb_tells m l) [
      | inl (t, _) ↦ absurd (let none' = rw t at none in omega (arith, none'))
      | inr (t, _) ↦ (let none' = rw t at none in
          rw (t, host_absent (is_element c) (offered m c e above) ks l (omega (arith, none'))) (host_absent e above rest l (omega (arith, none'))))
    ]

either_none : (o : Option ℕ) → either o None ≡ o
either_none None = refl
either_none (Some x) = refl

-- a node at the top has what the forest offers; another has what its parent offers
host_stands : (q : Option ℕ) (e : Bool) (above : Option ℕ) (f : Forest Content) (l : ℕ) (s : Seen Content) → IsDistinct f → Stands q f l s
    → ((s.parent ≡ q) × (host_from e above f l ≡ host_by s.content e above))
    ⊎ ((p : ℕ) × (r : Seen Content) × (s.parent ≡ Some p) × Stands q f p r × (u : Bool) × (b : Option ℕ) × (host_from e above f p ≡ host_by r.content u b) × (host_from e above f l ≡ host_by s.content (is_element r.content) (offered p r.content u b)))
host_stands q e above Nil l s once h = absurd h
host_stands q e above (Tree m c ks rest) l s once (inl (same, is)) =
    elim (eqb_tells m l) [
      | inl (t, _) ↦ inl (ap (λ (x : Seen Content). x.parent) is, rw t (ap (λ (x : Seen Content). host_by x.content e above) (sym is)))
      | inr (_, off) ↦ absurd (off same)
    ]
host_stands q e above (Tree m c ks rest) l s once (inr (inl h)) =
    let in_ks : (k : ℕ) → count_of ks k ≤ 1 = λ k. omega (arith, once k) in
    let here = count_of-Stands (Some m) ks l s h in
    let none : count_of rest l ≡ 0 = omega (arith, once l, here) in
    let off : eqb m l ≡ false = elim (eqb_tells m l) [ inl (t, _) ↦ absurd (let o = once l in let o' = rw t at o in omega (arith, o', here)) | inr (t, _) ↦ t ] in
    let at : host_from e above (Tree m c ks rest) l ≡ host_from (is_element c) (offered m c e above) ks l = rw (off, host_absent e above rest l none) (either_none _) in
    elim (host_stands (Some m) (is_element c) (offered m c e above) ks l s in_ks h) [
      | inl (par, is) ↦ inr (m, record { parent = q; content = c; children = tops ks }, par, inl (refl, refl), e, above, top_is, at ∙ is)
      | inr (p, r, par, st, u, b, own, is) ↦ (
          let there = count_of-Stands (Some m) ks p r st in
          let none' : count_of rest p ≡ 0 = omega (arith, once p, there) in
          let off' : eqb m p ≡ false = elim (eqb_tells m p) [ inl (t, _) ↦ absurd (let o = once p in let o' = rw t at o in omega (arith, o', there)) | inr (t, _) ↦ t ] in
          let up : host_from e above (Tree m c ks rest) p ≡ host_from (is_element c) (offered m c e above) ks p = rw (off', host_absent e above rest p none') (either_none _) in
          inr (p, r, par, inr (inl st), u, b, up ∙ own, at ∙ is))
    ]
  where
    top_is : host_from e above (Tree m c ks rest) m ≡ host_by c e above
    top_is = elim (eqb_tells m m) [ inl (t, _) ↦ rw t refl | inr (_, off) ↦ absurd (off refl) ]
host_stands q e above (Tree m c ks rest) l s once (inr (inr h)) =
    let in_rest : (k : ℕ) → count_of rest k ≤ 1 = λ k. omega (arith, once k) in
    let here = count_of-Stands q rest l s h in
    let none : count_of ks l ≡ 0 = omega (arith, once l, here) in
    let off : eqb m l ≡ false = elim (eqb_tells m l) [ inl (t, _) ↦ absurd (let o = once l in let o' = rw t at o in omega (arith, o', here)) | inr (t, _) ↦ t ] in
    let at : host_from e above (Tree m c ks rest) l ≡ host_from e above rest l = rw (off, host_absent (is_element c) (offered m c e above) ks l none) refl in
    elim (host_stands q e above rest l s in_rest h) [
      | inl (par, is) ↦ inl (par, at ∙ is)
      | inr (p, r, par, st, u, b, own, is) ↦ (
          let there = count_of-Stands q rest p r st in
          let none' : count_of ks p ≡ 0 = omega (arith, once p, there) in
          let off' : eqb m p ≡ false = elim (eqb_tells m p) [ inl (t, _) ↦ absurd (let o = once p in let o' = rw t at o in omega (arith, o', there)) | inr (t, _) ↦ t ] in
          let up : host_from e above (Tree m c ks rest) p ≡ host_from e above rest p = rw (off', host_absent (is_element c) (offered m c e above) ks p none') refl in
          inr (p, r, par, inr (inr st), u, b, up ∙ own, at ∙ is))
    ]

-- what a parent offers is itself, where it is a host, and else its own host
offered_own : (p : ℕ) (c : Content) (u : Bool) (b h : Option ℕ) → h ≡ host_by c u b → offered p c u b ≡ cond (is_true_state c) (Some p) h
offered_own p c u b h e = rw e refl

nothing_offered : (c : Content) → host_by c false None ≡ None
nothing_offered c =
    elim (is_true_state c || is_false_state c) as (λ v. cond {A = Option ℕ} v None (cond (is_element c || false) None None) ≡ None) [
      | true ↦ refl
      | false ↦ elim (is_element c || false) as (λ v. cond {A = Option ℕ} v None None ≡ None) [ true ↦ refl | false ↦ refl ]
    ]

module _ (f : Forest Content) (once : IsDistinct f) where
  -- a root is in no host
  pub editing_host-root : (l : ℕ) → parent_of f l ≡ None → editing_host f l ≡ None
  editing_host-root l root = by_count (count_of f l) refl
    where
      by_count : (k : ℕ) → count_of f l ≡ k → editing_host f l ≡ None
      by_count zero e = host_absent false None f l e
      by_count (suc k) e =
          let s = seen f l once (omega (arith, e)) in
          let own : s.0.parent ≡ None = ap (option_and_then (λ (x : Seen Content). x.parent)) (sym s.2) ∙ root in
          elim (host_stands None false None f l s.0 once s.1) [
            | inl (_, is) ↦ is ∙ nothing_offered s.0.content
            | inr (p, _, par, _, _, _, _, _) ↦ absurd (let t : None ≡ Some p = sym own ∙ par in cc)
          ]

  -- another node has as its host what its parent offers
  pub editing_host-child : (l p : ℕ) (c d : Content) → parent_of f l ≡ Some p → content_of f l ≡ Some c → content_of f p ≡ Some d → editing_host f l ≡ host_by c (is_element d) (cond (is_true_state d) (Some p) (editing_host f p))
  editing_host-child l p c d child content above =
      let s = seen f l once (parent_count f l p once child).0 in
      let own : s.0.parent ≡ Some p = ap (option_and_then (λ (x : Seen Content). x.parent)) (sym s.2) ∙ child in
      let is_c : s.0.content ≡ c = (let t : Some s.0.content ≡ Some c = ap (option_map (λ (x : Seen Content). x.content)) (sym s.2) ∙ content in cc) in
      elim (host_stands None false None f l s.0 once s.1) [
        | inl (at, _) ↦ absurd (let t : None ≡ Some p = sym at ∙ own in cc)
        | inr (q, r, par, st, u, b, up, is) ↦ (
            let same : q ≡ p = (let t : Some q ≡ Some p = sym par ∙ own in cc) in
            let found : content_of f q ≡ Some r.content = ap (option_map (λ (x : Seen Content). x.content)) (seek_Stands None f q r (once q) st) in
            let is_d : r.content ≡ d = (let t : Some r.content ≡ Some d = sym found ∙ (ap (content_of f) same ∙ above) in cc) in
            is ∙ rw (offered_own q r.content u b (editing_host f q) up, is_c, is_d, same) refl)
      ]
