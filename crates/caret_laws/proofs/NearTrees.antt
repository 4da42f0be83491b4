-- What a command removes is near: with all that it holds it stands below the host, or out of the document. So where the host isn't
-- hidden, and no node that is near has display none, it isn't hidden.
use Rattle.std.proofs.Common.{◌≡◌, ℕ, zero, suc, ◌<◌, true, false, cond, eqb, List, [], ◌∷◌, Option, Some, None, refl, sym, ap, subst, ◌∙◌, inl, inr, arith}
use Rattle.std.specs.Prelude.{unwrap_or}
use Rattle.std.specs.List.{list_any}
use Rattle.std.specs.Option.{option_or}
use Rattle.std.proofs.lemmas.Bool.Decides.{eqb_tells}
use Rattle.edit_model.specs.DomModel.declared.Content.{Content}
use Rattle.edit_model.specs.DomModel.Forest.{Forest, count_of, tree_of, parent_of, content_of, IsDistinct, IsWithin, depth_of}
use Rattle.edit_model.specs.DomModel.Forest.Forest.{Nil, Tree}
use Rattle.edit_model.proofs.DomModel.Totals.{total-without}
use Rattle.edit_model.proofs.DomModel.Walks.{document_first}
use Rattle.edit_model.proofs.DomModel.Within.{within_parent, depth_of-parent}
use Rattle.inline_value.specs.NodeStyles.Blocks.{own_or_inline, has_no_box, is_hidden}
use Rattle.inline_value.specs.NodeStyles.Lineage.{Ancestor, lineage_from, lineage, has_in_lineage}
use Rattle.inline_value.proofs.NodeStyles.Lineages.{lineage_absent, lineage-root, lineage-child}
use Rattle.edit_model.specs.State.{State}
use Rattle.edit_model.specs.Confined.{is_open, may_remove}
use Rattle.edit_model.specs.History.{begun}
use Rattle.edit_model.specs.Outside.{hollowed, IsConfined}
use Rattle.edit_model.specs.Run.{Reaches, reaches_trans, Run, final}
use Rattle.edit_model.specs.Valid.{IsForest, IsValid}
use Rattle.edit_model.proofs.CommandParts.{command_along}
use Rattle.edit_model.proofs.Commands.{valid_begun, confined_begun, command_confined}
use Rattle.edit_model.proofs.IslandRuns.{content_at}
use Rattle.edit_model.proofs.OutsideRuns.{open_out, outside_along, rim}
use Rattle.edit_model.proofs.Tests.{removes}
use Rattle.edit_model.proofs.Trees.{none_or_some}
use Rattle.edit_model.proofs.ValidRuns.{valid_along}
use Rattle.edit_laws.specs.InHost.{IsNear}
use Rattle.edit_laws.proofs.Nearness.{near_child, near_parent}
use Rattle.caret_laws.proofs.InsideRuns.{Began, top_known}
use Rattle.caret_laws.proofs.Unseen.{hides, Appears}

-- ---- the line of the host

line_hollow : (above : List Ancestor) (f : Forest Content) (h : ℕ) → lineage_from above (hollowed f h) h ≡ lineage_from above f h
unfolding hollowed
line_hollow above Nil h = refl
line_hollow above (Tree m c ks rest) h = elim (eqb_tells m h) [
  | inl (t, _) ↦ rw t (rw t refl)
  | inr (t, _) ↦ rw t (rw (t, line_hollow (record { label = m; content = c } ∷ above) ks h, line_hollow above rest h) refl)
]

-- the host itself isn't left out
hollow_host : (f : Forest Content) (h : ℕ) → IsDistinct f → count_of (hollowed f h) h ≡ count_of f h
unfolding hollowed
hollow_host Nil h once = refl
hollow_host (Tree m c ks rest) h once =
    let others = hollow_host rest h (λ l. (let one = once l in omega (arith, one))) in
    elim (eqb_tells m h) [
      | inl (t, _) ↦ (let one = once h in let one' = rw t at one in rw t (rw t (omega (arith, one', others))))
      | inr (t, _) ↦ (let kids = hollow_host ks h (λ l. (let one = once l in omega (arith, one))) in rw t (rw t (omega (arith, kids, others))))
    ]

-- it lies in the document
line_document : (f : Forest Content) (next : ℕ) → IsForest f next → (h : ℕ) → IsWithin f 0 h → lineage_from [] f h ≡ lineage_from [] (tree_of f 0) h
line_document f next is h inside =
    let first = document_first f is.distinct is.rising is.document is.root in
    subst (λ g. IsDistinct g → IsWithin g 0 h → lineage_from [] g h ≡ lineage_from [] (tree_of g 0) h) (sym first.3) (at_tree first.0 first.1 first.2) is.distinct inside
  where
    at_tree : (c : Content) (ks rest : Forest Content) → IsDistinct (Tree 0 c ks rest) → IsWithin (Tree 0 c ks rest) 0 h → lineage_from [] (Tree 0 c ks rest) h ≡ lineage_from [] (tree_of (Tree 0 c ks rest) 0) h
    at_tree c ks rest once within =
        ap (λ o. cond (eqb 0 h) (Some (record { label = 0; content = c } ∷ [])) (option_or (lineage_from (record { label = 0; content = c } ∷ []) ks h) o))
        (lineage_absent [] rest h (omega (arith, once h, within)))

module _ (s : State) (h : ℕ) (b : Began s h) where
  -- at or below the host, or out of the document
  abbrev pub Inner : ℕ → Type 0
  Inner l = IsNear (hollowed (tree_of s.trees 0) h) h l

  -- a state that the command has come to
  pub record Onway (u : State) : Type 0 where
    pub way : Reaches (begun (Some h) false s) u

  pub onway_final : {T : Type 0} (m : Run T) (u : State) → Onway u → Onway (final m u)
  unfolding final
  onway_final m u k = record { way = reaches_trans k.way (m.by_actions u) }

  module _ (u : State) (k : Onway u) where
    is : IsValid u
    is = valid_along k.way (valid_begun (Some h) false s b.valid)

    host : u.host ≡ Some h
    unfolding begun
    host = (command_along k.way).host

    confined : IsConfined u
    confined = (outside_along k.way (valid_begun (Some h) false s b.valid) (confined_begun (Some h) false s b.valid)).confined

    same : hollowed (tree_of u.trees 0) h ≡ hollowed (tree_of s.trees 0) h
    same = command_confined (Some h) false s u b.valid k.way

    now : (l : ℕ) → Inner l → IsNear (hollowed (tree_of u.trees 0) h) h l
    now l near = subst (λ g. IsNear g h l) (sym same) near

    before : (l : ℕ) → IsNear (hollowed (tree_of u.trees 0) h) h l → Inner l
    before l near = subst (λ g. IsNear g h l) same near

    child_inner : (o n : ℕ) → parent_of u.trees n ≡ Some o → Inner o → Inner n
    child_inner o n child near = before n (near_child u.trees u.next is.forest h o n child (now o near))

    open_inner : (o : ℕ) → is_open u o ≡ true → Inner o
    open_inner o allowed some = elim (eqb_tells o h) [
      | inl (_, e) ↦ e
      | inr (_, off) ↦ absurd (
          let at : rim u ≡ h = ap (λ w. unwrap_or w u.next) host in
          let out = open_out u is confined o allowed (λ e. off (e ∙ at)) in
          let none : count_of (hollowed (tree_of u.trees 0) h) o ≡ 0 = subst (λ j. count_of (hollowed (tree_of u.trees 0) j) o ≡ 0) at out in
          omega (arith, some, none, ap (λ g. count_of g o) same))
    ]

    pub gone_inner : (r : ℕ) → may_remove u r ≡ true → Inner r
    gone_inner r may = (let t = removes u r may in child_inner t.from r t.child (open_inner t.from t.allowed))

    -- what such a node holds is such a node
    held_step : (l x : ℕ) → ((p : ℕ) → parent_of u.trees x ≡ Some p → IsWithin u.trees l p → Inner p) → Inner l → IsWithin u.trees l x → Inner x
    held_step l x up near held = elim (eqb_tells l x) [
      | inl (_, e) ↦ subst Inner e near
      | inr (_, off) ↦ (
          let w = within_parent u.trees l is.forest.distinct (top_known u.trees l x held) x off held in
          child_inner w.0 x w.1 (up w.0 w.1 w.2))
    ]

    held_at : (n l x : ℕ) → depth_of u.trees x ≡ n → Inner l → IsWithin u.trees l x → Inner x
    held_at zero l x deep near held = held_step l x (λ p e _. absurd (let more = depth_of-parent u.trees x p is.forest.distinct e in omega (arith, deep, more))) near held
    held_at (suc n) l x deep near held = held_step l x (λ p e i. held_at n l p (let more = depth_of-parent u.trees x p is.forest.distinct e in omega (arith, deep, more)) near i) near held

    pub held_inner : (l x : ℕ) → Inner l → IsWithin u.trees l x → Inner x
    held_inner l x near held = held_at (depth_of u.trees x) l x refl near held

    -- ---- what is hidden

    host_line : IsWithin u.trees 0 h → lineage u.trees h ≡ lineage s.trees h
    unfolding lineage
    host_line inside =
        ap (λ o. unwrap_or o [])
        (line_document u.trees u.next is.forest h inside
        ∙ (sym (line_hollow [] (tree_of u.trees 0) h)
        ∙ (ap (λ g. lineage_from [] g h) same
        ∙ (line_hollow [] (tree_of s.trees 0) h ∙ sym (line_document s.trees s.next b.valid.forest h b.inside)))))

    pub host_shown : is_hidden s.trees h ≡ false → IsWithin u.trees 0 h → is_hidden u.trees h ≡ false
    unfolding is_hidden has_in_lineage
    host_shown shown inside = ap (list_any (λ (k : Ancestor). has_no_box k.content)) (host_line inside) ∙ shown

    host_inside : IsWithin u.trees 0 h
    host_inside =
        let once_u : IsDistinct (tree_of u.trees 0) = λ m. (let one = is.forest.distinct m in omega (arith, one, total-without (λ j _. cond (eqb j m) 1 0) u.trees 0)) in
        let once_s : IsDistinct (tree_of s.trees 0) = λ m. (let one = b.valid.forest.distinct m in omega (arith, one, total-without (λ j _. cond (eqb j m) 1 0) s.trees 0)) in
        let i = b.inside in
        omega (arith, i, hollow_host (tree_of u.trees 0) h once_u, hollow_host (tree_of s.trees 0) h once_s, ap (λ g. count_of g h) same)

    module _ (appear : (l : ℕ) → Inner l → Appears (content_of u.trees l)) (shown : is_hidden s.trees h ≡ false) where
      boxed : (l : ℕ) (c : Content) → Inner l → content_of u.trees l ≡ Some c → has_no_box c ≡ false
      unfolding has_no_box own_or_inline
      boxed l c near e = sym (ap (λ o. hides o) e) ∙ (appear l near).box

      boxed_line : (line : List Ancestor) (l : ℕ) → Inner l → lineage u.trees l ≡ line → list_any (λ k. has_no_box k.content) line ≡ false
      unfolding lineage is_hidden has_in_lineage
      boxed_line [] l near e = refl
      boxed_line (a ∷ rest) l near e = elim (eqb_tells l h) [
        | inl (_, at) ↦ (
            let host_shown' = host_shown shown host_inside in
            let line : lineage u.trees h ≡ a ∷ rest = ap (lineage u.trees) (sym at) ∙ e in
            ap (list_any (λ (k : Ancestor). has_no_box k.content)) (sym line) ∙ host_shown')
        | inr (_, off) ↦ elim (none_or_some (count_of u.trees l)) [
          | inl none ↦ absurd (
              let empty : lineage u.trees l ≡ [] = ap (λ o. unwrap_or o []) (lineage_absent [] u.trees l none) in
              let t : [] ≡ a ∷ rest = sym empty ∙ e in
              cc)
          | inr some ↦ (let c = content_at u.trees is.forest.distinct l some in by c.0 c.1 some (parent_of u.trees l) refl (λ p up t. boxed_line rest p (higher p off up) t))
        ]
      ]
        where
          higher : (p : ℕ) → (l ≡ h → ⊥) → parent_of u.trees l ≡ Some p → Inner p
          higher p off up = before p (near_parent u.trees u.next is.forest h p l up off (now l near))

          begins : (c : Content) (more : List Ancestor) → content_of u.trees l ≡ Some c → lineage u.trees l ≡ record { label = l; content = c } ∷ more → list_any (λ k. has_no_box k.content) more ≡ false → list_any (λ k. has_no_box k.content) (a ∷ rest) ≡ false
          begins c more content line none =
              let whole : record { label = l; content = c } ∷ more ≡ a ∷ rest = sym line ∙ e in
              ap (list_any (λ (k : Ancestor). has_no_box k.content)) (sym whole) ∙ rw (boxed l c near content) none

          by : (c : Content) → content_of u.trees l ≡ Some c → 0 < count_of u.trees l → (o : Option ℕ) → parent_of u.trees l ≡ o
              → ((p : ℕ) → parent_of u.trees l ≡ Some p → lineage u.trees p ≡ rest → list_any (λ k. has_no_box k.content) rest ≡ false) → list_any (λ k. has_no_box k.content) (a ∷ rest) ≡ false
          by c content some None up more = begins c [] content (lineage-root u.trees is.forest.distinct l c some up content) refl
          by c content some (Some p) up more =
              let line = lineage-child u.trees is.forest.distinct l p c up content in
              let whole : record { label = l; content = c } ∷ lineage u.trees p ≡ a ∷ rest = sym line ∙ e in
              let tail : lineage u.trees p ≡ rest = cc in
              begins c rest content (line ∙ ap (λ xs. record { label = l; content = c } ∷ xs) tail) (more p up tail)

      -- so nothing that is near is hidden
      pub inner_shown : (l : ℕ) → Inner l → is_hidden u.trees l ≡ false
      unfolding is_hidden has_in_lineage
      inner_shown l near = boxed_line (lineage u.trees l) l near refl
