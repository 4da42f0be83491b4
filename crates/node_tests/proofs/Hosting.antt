-- The walk to the innermost host, and what stands in a node by its lineage.
use Rattle.std.proofs.Common.{◌≡◌, ◌≢◌, ℕ, zero, suc, ◌⊎◌, ◌<◌, Bool, true, false, cond, ◌&&◌, ◌||◌, [], ◌∷◌, Option, Some, None, refl, sym, ap, ◌∙◌, inl, inr, arith, eqb}
use Rattle.std.proofs.lemmas.Bool.Decides.{eqb_tells}
use Rattle.std.specs.List.{find, list_any}
use Rattle.std.specs.Option.{option_map, option_map_or, is_some}
use Rattle.node_styles.specs.DomModel.declared.Content.{Content}
use Rattle.node_styles.specs.DomModel.Contents.{is_element}
use Rattle.node_styles.specs.DomModel.Editing.{is_host, is_true_state, is_false_state, host_by, editing_host, is_editable}
use Rattle.node_styles.specs.DomModel.Forest.{Forest, Seen, count_of, IsDistinct, IsWithin, parent_of, content_of, depth_of, is_label}
use Rattle.node_styles.proofs.DomModel.Hosts.{editing_host-root, editing_host-child}
use Rattle.node_styles.proofs.DomModel.Links.{seen, parent_count}
use Rattle.node_styles.proofs.DomModel.Within.{within_self, within_child, within_step, within_root, depth_of-parent}
use Rattle.node_styles.specs.Lineage.{lineage}
use Rattle.node_styles.proofs.Lineages.{ancestor, lineage-root, lineage-child}
use Rattle.node_tests.specs.AffectedHost.{own_host, takes_commands, is_host_of, common_host, affected_host}

-- a node has its host of its parent, or none
host_or_none : (c : Content) (e : Bool) (above : Option ℕ) → (host_by c e above ≡ None) ⊎ (host_by c e above ≡ above)
host_or_none c e above = by_tests (is_true_state c || is_false_state c) (is_element c || e)
  where
    by_tests : (v w : Bool) → (cond v None (cond w above None) ≡ None) ⊎ (cond v None (cond w above None) ≡ above)
    by_tests true w = inl refl
    by_tests false true = inr refl
    by_tests false false = inl refl

abbrev pub IsNoneOr : Option ℕ → Option ℕ → Type 0
IsNoneOr a b = (a ≡ None) ⊎ (a ≡ b)

-- the innermost host of a lineage that holds b
abbrev pub found_from : Forest Content → ℕ → ℕ → Option ℕ
found_from f b l = option_map (λ k. k.label) (find (is_host_of f b) (lineage f l))

module _ (f : Forest Content) (once : IsDistinct f) where
  content_here : (l : ℕ) → 0 < count_of f l → (c : Content) × (content_of f l ≡ Some c)
  content_here l here = let s = seen f l once here in (s.0.content, ap (option_map (λ (x : Seen Content). x.content)) s.2)

  pub own_at_host : (l : ℕ) → is_host f l ≡ true → own_host f l ≡ Some l
  own_at_host l is = ap (λ v. cond v (Some l) (editing_host f l)) is

  own_below : (l : ℕ) → is_host f l ≡ false → own_host f l ≡ editing_host f l
  own_below l off = ap (λ v. cond v (Some l) (editing_host f l)) off

  pub own_at_root : (l : ℕ) → is_host f l ≡ false → parent_of f l ≡ None → own_host f l ≡ None
  own_at_root l off root = own_below l off ∙ editing_host-root f once l root

  pub own_up : (l p : ℕ) → is_host f l ≡ false → parent_of f l ≡ Some p → IsNoneOr (own_host f l) (own_host f p)
  own_up l p off child =
      let both = parent_count f l p once child in
      let c = content_here l both.0 in
      let d = content_here p both.1 in
      let is_d : is_host f p ≡ is_true_state d.0 = ap (λ o. option_map_or is_true_state o false) d.1 in
      let up : editing_host f l ≡ host_by c.0 (is_element d.0) (own_host f p) =
      editing_host-child f once l p c.0 d.0 child c.1 d.1 ∙ ap (λ v. host_by c.0 (is_element d.0) (cond v (Some p) (editing_host f p))) (sym is_d) in
      elim (host_or_none c.0 (is_element d.0) (own_host f p)) [
        | inl none ↦ inl (own_below l off ∙ (up ∙ none))
        | inr same ↦ inr (own_below l off ∙ (up ∙ same))
      ]

  pub own_on : (l a b : ℕ) → IsNoneOr (own_host f l) (own_host f a) → IsNoneOr (own_host f a) (own_host f b) → IsNoneOr (own_host f l) (own_host f b)
  own_on l a b (inl none) next = inl none
  own_on l a b (inr same) (inl none) = inl (same ∙ none)
  own_on l a b (inr same) (inr next) = inr (same ∙ next)

  pub own_ends : (l a : ℕ) (o : Option ℕ) → IsNoneOr (own_host f l) (own_host f a) → own_host f a ≡ o → IsNoneOr (own_host f l) o
  own_ends l a o (inl none) is = inl none
  own_ends l a o (inr same) is = inr (same ∙ is)

  pub own_none : (l a : ℕ) → IsNoneOr (own_host f l) (own_host f a) → own_host f a ≡ None → own_host f l ≡ None
  own_none l a (inl none) is = none
  own_none l a (inr same) is = same ∙ is

  -- a node takes commands where it has a host
  by_own : (v : Bool) (l : ℕ) (o : Option ℕ) → (v || is_some o) ≡ is_some (cond v (Some l) o)
  by_own true l o = refl
  by_own false l o = refl

  pub takes_none : (l : ℕ) → own_host f l ≡ None → takes_commands f l ≡ false
  unfolding takes_commands
  takes_none l none = by_own (is_host f l) l (editing_host f l) ∙ ap is_some none

  same_label : (l : ℕ) → eqb l l ≡ true
  same_label l = elim (eqb_tells l l) [ inl (t, _) ↦ t | inr (_, off) ↦ absurd (off refl) ]

  label_here : (l h : ℕ) (v : Bool) (o : Option ℕ) → cond v (Some l) o ≡ Some h → (eqb h l || is_label o h) ≡ true
  label_here l h true o e = let same : l ≡ h = (let u = e in cc) in rw (same, same_label h) refl
  label_here l h false o e = rw (e, same_label h) (elim (eqb h l) as (λ v. (v || true) ≡ true) [ true ↦ refl | false ↦ refl ])

  -- what is answered at the nearest host
  pub takes_by_nearest : (l h : ℕ) → is_host f h ≡ true → IsNoneOr (own_host f l) (Some h) → (eqb h l || is_editable f h l) ≡ takes_commands f l
  unfolding takes_commands
  takes_by_nearest l h host (inr some) =
      label_here l h (is_host f l) (editing_host f l) some ∙ sym (by_own (is_host f l) l (editing_host f l) ∙ ap is_some some)
  takes_by_nearest l h host (inl none) = by_host (is_host f l) refl
    where
      by_host : (v : Bool) → is_host f l ≡ v → (eqb h l || is_editable f h l) ≡ takes_commands f l
      by_host true is = absurd (let t : Some l ≡ None = sym (own_at_host l is) ∙ none in cc)
      by_host false off =
          let apart : eqb h l ≡ false = elim (eqb_tells h l) [ inl (_, same) ↦ absurd (let t : true ≡ false = sym host ∙ (ap (is_host f) same ∙ off) in cc) | inr (t, _) ↦ t ] in
          let no_host : editing_host f l ≡ None = sym (own_below l off) ∙ none in
          ap (λ v. v || is_editable f h l) apart ∙ (ap (λ o. is_label o h) no_host ∙ sym (takes_none l none))

  -- the lineage of a node, by its parent
  pub lineage-next : (l : ℕ) (c : Content) → 0 < count_of f l → content_of f l ≡ Some c → (o : Option ℕ) → parent_of f l ≡ o → lineage f l ≡ ancestor l c ∷ option_map_or (lineage f) o []
  lineage-next l c here content None e = lineage-root f once l c here e content
  lineage-next l c here content (Some p) e = lineage-child f once l p c e content

  -- a node is another or stands below it where that other is in its lineage
  module _ (l : ℕ) (there : 0 < count_of f l) where
    abbrev Listed : ℕ → Bool → Type 0
    Listed b v = list_any (λ j. eqb j.label l) (lineage f b) ≡ v

    listed_next : (b : ℕ) (o : Option ℕ) (v : Bool) → 0 < count_of f b → parent_of f b ≡ o → Listed b v → b ≢ l → list_any (λ j. eqb j.label l) (option_map_or (lineage f) o []) ≡ v
    listed_next b o v here e is off =
        let c = content_here b here in
        let line = lineage-next b c.0 here c.1 o e in
        let is' = rw line at is in
        elim (eqb_tells b l) [
          | inl (_, same) ↦ absurd (off same)
          | inr (t, _) ↦ (let is2 = rw t at is' in is2)
        ]

    listed_self : (b : ℕ) → 0 < count_of f b → Listed b false → b ≢ l
    listed_self b here is same =
        let c = content_here b here in
        let line = lineage-next b c.0 here c.1 (parent_of f b) refl in
        let is' = rw line at is in
        elim (eqb_tells b l) [
          | inl (t, _) ↦ (let is2 : true ≡ false = rw t at is' in cc)
          | inr (_, off) ↦ off same
        ]

    pub listed : (n b : ℕ) → depth_of f b < n → 0 < count_of f b → Listed b true → IsWithin f l b
    listed zero b low here is = absurd (omega (arith, low))
    listed (suc n) b low here is =
        elim (eqb_tells b l) [
          | inl (_, same) ↦ rw same (within_self f l once there)
          | inr (_, off) ↦ (
              by_parent (parent_of f b) refl off (λ p e up. listed n p (omega (arith, low, depth_of-parent f b p once e)) (parent_count f b p once e).1 up))
        ]
      where
        by_parent : (o : Option ℕ) → parent_of f b ≡ o → b ≢ l → ((p : ℕ) → parent_of f b ≡ Some p → Listed p true → IsWithin f l p) → IsWithin f l b
        by_parent None e off below = let none : false ≡ true = listed_next b None true here e is off in absurd (let n = none in cc)
        by_parent (Some p) e off below = within_child f l once there b p e (below p e (listed_next b (Some p) true here e is off))

    pub unlisted : (n b : ℕ) → depth_of f b < n → 0 < count_of f b → Listed b false → IsWithin f l b → ⊥
    unlisted zero b low here is within = omega (arith, low)
    unlisted (suc n) b low here is within =
        by_parent (parent_of f b) refl (λ p e up inside. unlisted n p (omega (arith, low, depth_of-parent f b p once e)) (parent_count f b p once e).1 up inside)
      where
        off : b ≢ l
        off = listed_self b here is

        by_parent : (o : Option ℕ) → parent_of f b ≡ o → ((p : ℕ) → parent_of f b ≡ Some p → Listed p false → IsWithin f l p → ⊥) → ⊥
        by_parent None e below = within_root f l once there b (λ same. off (sym same)) e within
        by_parent (Some p) e below =
            below p e (listed_next b (Some p) false here e is off) (within_step f l once there b p (λ same. off (sym same)) e within)

  host_content : (l : ℕ) (c : Content) → content_of f l ≡ Some c → is_host f l ≡ is_true_state c
  host_content l c e = ap (λ o. option_map_or is_true_state o false) e

  module _ (b l : ℕ) (there : 0 < count_of f b) (here : 0 < count_of f l) where
    pub found_here : is_host f l ≡ true → IsWithin f l b → found_from f b l ≡ Some l
    found_here host within =
        let c = content_here l here in
        let line = lineage-next l c.0 here c.1 (parent_of f l) refl in
        let is_true : is_true_state c.0 ≡ true = sym (host_content l c.0 c.1) ∙ host in
        let is_in : list_any (λ j. eqb j.label l) (lineage f b) ≡ true = by_list (list_any (λ j. eqb j.label l) (lineage f b)) refl in
        rw (line, is_true, is_in) refl
      where
        by_list : (v : Bool) → list_any (λ j. eqb j.label l) (lineage f b) ≡ v → v ≡ true
        by_list true e = refl
        by_list false e = absurd (unlisted l here (suc (depth_of f b)) b (omega arith) there e within)

    passed : (c : Content) → content_of f l ≡ Some c → (is_host f l ≡ false) ⊎ (IsWithin f l b → ⊥) → is_host_of f b (ancestor l c) ≡ false
    passed c content (inl off) = let is_false : is_true_state c ≡ false = sym (host_content l c content) ∙ off in rw is_false refl
    passed c content (inr out) =
        let is_out : list_any (λ j. eqb j.label l) (lineage f b) ≡ false = by_list (list_any (λ j. eqb j.label l) (lineage f b)) refl in
        rw is_out (elim (is_true_state c) as (λ v. (v && false) ≡ false) [ true ↦ refl | false ↦ refl ])
      where
        by_list : (v : Bool) → list_any (λ j. eqb j.label l) (lineage f b) ≡ v → v ≡ false
        by_list false e = refl
        by_list true e = absurd (out (listed l here (suc (depth_of f b)) b (omega arith) there e))

    pub found_above : (is_host f l ≡ false) ⊎ (IsWithin f l b → ⊥) → (o : Option ℕ) → parent_of f l ≡ o → found_from f b l ≡ option_map (λ k. k.label) (find (is_host_of f b) (option_map_or (lineage f) o []))
    found_above off o e =
        let c = content_here l here in
        let line = lineage-next l c.0 here c.1 o e in
        let past = passed c.0 c.1 off in
        ap (λ ks. option_map (λ k. k.label) (find (is_host_of f b) ks)) line
        ∙ ap (λ v. option_map (λ k. k.label) (cond v (Some (ancestor l c.0)) (find (is_host_of f b) (option_map_or (lineage f) o [])))) past

module _ (f : Forest Content) (once : IsDistinct f) (l h : ℕ) (host : is_host f h ≡ true) (own : IsNoneOr (own_host f l) (Some h)) where
  pub takes_at : h ≡ l → eqb h l ≡ takes_commands f l
  takes_at same =
      elim (eqb_tells h l) [
        | inl (t, _) ↦ t ∙ (sym (ap (λ v. v || is_editable f h l) t) ∙ takes_by_nearest f once l h host own)
        | inr (_, off) ↦ absurd (off same)
      ]

  pub takes_below : h ≢ l → is_editable f h l ≡ takes_commands f l
  takes_below off =
      elim (eqb_tells h l) [
        | inl (_, same) ↦ absurd (off same)
        | inr (t, _) ↦ sym (ap (λ v. v || is_editable f h l) t) ∙ takes_by_nearest f once l h host own
      ]

module _ (f : Forest Content) (a b j k : ℕ) (start : j ≡ a) (end : k ≡ b) where
  affected_if : (v w : Bool) → takes_commands f j ≡ v → takes_commands f k ≡ w → affected_host f a b ≡ cond (v && w) (common_host f a b) None
  unfolding affected_host
  affected_if v w first second =
      let v_is : takes_commands f a ≡ v = ap (takes_commands f) (sym start) ∙ first in
      let w_is : takes_commands f b ≡ w = ap (takes_commands f) (sym end) ∙ second in
      ap (λ x. cond (x && takes_commands f b) (common_host f a b) None) v_is ∙ ap (λ x. cond (v && x) (common_host f a b) None) w_is

  pub affected_both : takes_commands f j ≡ true → takes_commands f k ≡ true → common_host f j k ≡ affected_host f a b
  affected_both first second = ap (λ x. common_host f x k) start ∙ (ap (common_host f a) end ∙ sym (affected_if true true first second))

  pub affected_end : takes_commands f j ≡ true → takes_commands f k ≡ false → None ≡ affected_host f a b
  affected_end first second = sym (affected_if true false first second)

  pub affected_start : takes_commands f j ≡ false → None ≡ affected_host f a b
  affected_start first = sym (affected_if false (takes_commands f k) first refl)
