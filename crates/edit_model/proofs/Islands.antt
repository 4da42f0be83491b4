-- An island keeps its tree: nothing in it is open, whatever becomes of the nodes around it.
use Rattle.std.proofs.Common.{◌≡◌, ◌≢◌, ℕ, zero, suc, ◌<◌, Bool, true, false, ◌||◌, cond, eqb, Option, Some, None, refl, sym, ap, subst, ◌∙◌, inl, inr, arith, true≢false}
use Rattle.std.specs.Option.{option_map}
use Rattle.std.proofs.lemmas.Bool.Decides.{eqb_tells}
use Rattle.point_order.specs.DomModel.declared.Content.{Content}
use Rattle.point_order.specs.DomModel.Contents.{is_element}
use Rattle.point_order.specs.DomModel.Editing.{is_true_state, is_false_state, host_by, editing_host}
use Rattle.point_order.specs.DomModel.Forest.{Forest, Seen, count_of, tree_of, parent_of, content_of, without, put_under, put_rising, link, unlink, IsDistinct, IsWithin, CanPut, depth_of}
use Rattle.point_order.specs.DomModel.Forest.Forest.{Nil, Tree}
use Rattle.point_order.proofs.DomModel.Totals.{total-without}
use Rattle.point_order.proofs.DomModel.Links.{seen, parent_count, tree, p_left, tree_n}
use Rattle.point_order.proofs.DomModel.Within.{within_self, within_step, within_root, depth_of-parent}
use Rattle.point_order.proofs.DomModel.Hosts.{editing_host-root, editing_host-child}
use Rattle.edit_model.proofs.Trees.{none_or_some, tree_of-put_other, tree_of-put_moved, tree_of-without_other, tree_of-inside, tree_of-rising_other, tree_of-rising_moved}

-- ---- a link and an unlink elsewhere

module _ {C : Type 0} where
  -- nothing is put into the tree of l
  pub link_elsewhere : (f : Forest C) (p : ℕ) (b : Option ℕ) (n l : ℕ) → IsDistinct f → CanPut f p b n → 0 < count_of f l → count_of (tree_of f l) p ≡ 0 → tree_of (link f p b n) l ≡ tree_of f l
  link_elsewhere f p b n l once can here out =
      let t = tree f p b n once can in
      elim (none_or_some (count_of (tree_of f n) l)) [
        | inl off ↦ beside off
        | inr within ↦ (
            let gone : count_of (without f n) l ≡ 0 = omega (arith, within, once l, total-without (λ m _. cond (eqb m l) 1 0) f n) in
            subst (λ g. tree_of (put_under (without f n) p b g) l ≡ tree_of f l) (sym t.2)
            (tree_of-put_moved (without f n) p b n t.0 t.1 l gone (p_left f p b n once can)
            ∙ (ap (λ g. tree_of g l) (sym t.2) ∙ tree_of-inside f n l once within)))
      ]
    where
      beside : count_of (tree_of f n) l ≡ 0 → tree_of (link f p b n) l ≡ tree_of f l
      beside off =
          let t = tree f p b n once can in
          let apart : count_of (tree_of f l) n ≡ 0 = elim (none_or_some (count_of (tree_of f l) n)) [
            | inl none ↦ none
            | inr some ↦ absurd (within_root f l once here n (λ e. (
                let own = within_self f n once can.node in
                let own' : 0 < count_of (tree_of f n) l = subst (λ k. 0 < count_of (tree_of f n) k) (sym e) own in
                omega (arith, own', off))) can.loose some)
          ] in
          let rest = tree_of-without_other f n l apart off in
          let out' : count_of (tree_of (without f n) l) p ≡ 0 = ap (λ g. count_of g p) rest ∙ out in
          let none : count_of (Tree n t.0 t.1 Nil) l ≡ 0 = ap (λ g. count_of g l) (sym t.2) ∙ off in
          subst (λ g. tree_of (put_under (without f n) p b g) l ≡ tree_of f l) (sym t.2)
          (tree_of-put_other (without f n) p b n t.0 t.1 l none out' ∙ rest)

  -- nothing is taken out of the tree of l
  pub unlink_elsewhere : (f : Forest C) (o n l : ℕ) → IsDistinct f → parent_of f n ≡ Some o → 0 < count_of f l → count_of (tree_of f l) o ≡ 0 → tree_of (unlink f n) l ≡ tree_of f l
  unlink_elsewhere f o n l once child here out =
      let t = tree_n f o n once child in
      elim (none_or_some (count_of (tree_of f n) l)) [
        | inl off ↦ beside off
        | inr within ↦ (
            let gone : count_of (without f n) l ≡ 0 = omega (arith, within, once l, total-without (λ m _. cond (eqb m l) 1 0) f n) in
            subst (λ g. tree_of (put_rising (without f n) n g) l ≡ tree_of f l) (sym t.2)
            (tree_of-rising_moved (without f n) n t.0 t.1 l gone
            ∙ (ap (λ g. tree_of g l) (sym t.2) ∙ tree_of-inside f n l once within)))
      ]
    where
      beside : count_of (tree_of f n) l ≡ 0 → tree_of (unlink f n) l ≡ tree_of f l
      beside off =
          let t = tree_n f o n once child in
          let apart : count_of (tree_of f l) n ≡ 0 = elim (none_or_some (count_of (tree_of f l) n)) [
            | inl none ↦ none
            | inr some ↦ absurd (
                let other : l ≢ n = λ e. (
                let own = within_self f n once (parent_count f n o once child).0 in
                let own' : 0 < count_of (tree_of f n) l = subst (λ k. 0 < count_of (tree_of f n) k) (sym e) own in
                omega (arith, own', off)) in
                let up = within_step f l once here n o other child some in
                omega (arith, up, out))
          ] in
          let none : count_of (Tree n t.0 t.1 Nil) l ≡ 0 = ap (λ g. count_of g l) (sym t.2) ∙ off in
          subst (λ g. tree_of (put_rising (without f n) n g) l ≡ tree_of f l) (sym t.2)
          (tree_of-rising_other (without f n) n t.0 t.1 l none ∙ tree_of-without_other f n l apart off)

-- ---- what is below a node in the true or the false state has its host there, if it has one

module _ (f : Forest Content) (once : IsDistinct f) (l : ℕ) (here : 0 < count_of f l) (c : Content) (content : content_of f l ≡ Some c) (stated : (is_true_state c || is_false_state c) ≡ true) where
  content_there : (k : ℕ) → 0 < count_of f k → (d : Content) × (content_of f k ≡ Some d)
  content_there k h = let s = seen f k once h in (s.0.content, ap (option_map (λ (x : Seen Content). x.content)) s.2)

  by_parts : (a b : Bool) (above : Option ℕ) (g : ℕ) → cond a None (cond b above None) ≡ Some g → (a ≡ false) × (above ≡ Some g)
  by_parts true b above g e = absurd (let t : None ≡ Some g = e in cc)
  by_parts false true above g e = (refl, e)
  by_parts false false above g e = absurd (let t : None ≡ Some g = e in cc)

  host_parts : (d : Content) (under : Bool) (above : Option ℕ) (g : ℕ) → host_by d under above ≡ Some g → ((is_true_state d || is_false_state d) ≡ false) × (above ≡ Some g)
  host_parts d under above g e = by_parts (is_true_state d || is_false_state d) (is_element d || under) above g e

  host_step : (k g : ℕ) → ((q : ℕ) → parent_of f k ≡ Some q → IsWithin f l q → editing_host f q ≡ Some g → IsWithin f l g) → IsWithin f l k → editing_host f k ≡ Some g → IsWithin f l g
  host_step k g above within e = by_parent (parent_of f k) refl
    where
      by_parent : (o : Option ℕ) → parent_of f k ≡ o → IsWithin f l g
      by_parent None is = absurd (let t : None ≡ Some g = sym (editing_host-root f once k is) ∙ e in cc)
      by_parent (Some q) is =
          let counts = parent_count f k q once is in
          let dk = content_there k counts.0 in
          let dq = content_there q counts.1 in
          let parts = host_parts dk.0 (is_element dq.0) (cond (is_true_state dq.0) (Some q) (editing_host f q)) g (sym (editing_host-child f once k q dk.0 dq.0 is dk.1 dq.1) ∙ e) in
          elim (eqb_tells l k) [
            | inl (_, at) ↦ absurd (
                let same : c ≡ dk.0 = (let t : Some c ≡ Some dk.0 = sym content ∙ (ap (content_of f) at ∙ dk.1) in cc) in
                true≢false (sym stated ∙ (ap (λ (d : Content). is_true_state d || is_false_state d) same ∙ parts.0)))
            | inr (_, off) ↦ by_state (is_true_state dq.0) (within_step f l once here k q off is within) parts.1
          ]
        where
          by_state : (v : Bool) → IsWithin f l q → cond v (Some q) (editing_host f q) ≡ Some g → IsWithin f l g
          by_state true inside up = let same : q ≡ g = (let t = up in cc) in subst (λ k. IsWithin f l k) same inside
          by_state false inside up = above q is inside up

  host_at : (n k g : ℕ) → depth_of f k ≡ n → IsWithin f l k → editing_host f k ≡ Some g → IsWithin f l g
  host_at zero k g deep within e = host_step k g (λ q is _ _. absurd (let more = depth_of-parent f k q once is in omega (arith, deep, more))) within e
  host_at (suc n) k g deep within e = host_step k g (λ q is inside up. host_at n q g (let more = depth_of-parent f k q once is in omega (arith, deep, more)) inside up) within e

  pub host_within : (k g : ℕ) → IsWithin f l k → editing_host f k ≡ Some g → IsWithin f l g
  host_within k g within e = host_at (depth_of f k) k g refl within e
