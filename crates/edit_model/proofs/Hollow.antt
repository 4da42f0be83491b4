-- The document without the children of the host, under each change of the trees.
use Rattle.std.proofs.Common.{◌≡◌, ◌≢◌, ℕ, zero, suc, ◌+◌, ◌<◌, ◌≤◌, Bool, true, false, ◌||◌, cond, eqb, Option, Some, None, refl, sym, ap, subst, ◌∙◌, inl, inr, arith}
use Rattle.std.proofs.lemmas.Bool.Decides.{eqb_tells}
use Rattle.std.proofs.lemmas.Bool.{ne_eqb, eq-eqb}
use Rattle.std.specs.Option.{option_map}
use Rattle.point_order.specs.DomModel.declared.Content.{Content}
use Rattle.point_order.specs.DomModel.Contents.{is_element}
use Rattle.point_order.specs.DomModel.Editing.{is_true_state, is_false_state, host_by, editing_host}
use Rattle.point_order.specs.DomModel.Forest.{Forest, Seen, count_of, tree_of, parent_of, content_of, without, put_under, IsDistinct, IsWithin, depth_of}
use Rattle.point_order.specs.DomModel.Forest.Forest.{Nil, Tree}
use Rattle.point_order.specs.DomModel.Revised.{revised}
use Rattle.point_order.proofs.DomModel.Totals.{total-join, total-without}
use Rattle.point_order.proofs.DomModel.Links.{tree_of_absent, parent_count, seen}
use Rattle.point_order.proofs.DomModel.Move.{parent_apart}
use Rattle.point_order.proofs.DomModel.Within.{within_self, within_child, depth_of-parent}
use Rattle.point_order.proofs.DomModel.Hosts.{editing_host-root, editing_host-child}
use Rattle.edit_model.specs.Outside.{hollowed}
use Rattle.edit_model.specs.Valid.{IsForest}
use Rattle.edit_model.proofs.Documents.{document_shape, part_of_tree, tree_inside, within_above}

-- ---- what stays without the children of h

pub hollowed_le : (f : Forest Content) (h l : ℕ) → count_of (hollowed f h) l ≤ count_of f l
unfolding hollowed
hollowed_le Nil h l = omega arith
hollowed_le (Tree m c ks rest) h l = elim (eqb_tells m h) [
  | inl (t, _) ↦ rw t (omega (arith, hollowed_le rest h l))
  | inr (t, _) ↦ rw t (omega (arith, hollowed_le ks h l, hollowed_le rest h l))
]

pub hollowed_absent : (f : Forest Content) (h : ℕ) → count_of f h ≡ 0 → hollowed f h ≡ f
unfolding hollowed
hollowed_absent Nil h none = refl
hollowed_absent (Tree m c ks rest) h none = elim (eqb_tells m h) [
  | inl (t, _) ↦ absurd (let none' = rw t at none in omega (arith, none'))
  | inr (t, _) ↦ (let none' = rw t at none in rw (t, hollowed_absent ks h (omega (arith, none')), hollowed_absent rest h (omega (arith, none'))) refl)
]

-- what is below h is left out, and what isn't stays
pub hollowed_split : (f : Forest Content) (h l : ℕ) → IsDistinct f → l ≢ h → count_of (hollowed f h) l + count_of (tree_of f h) l ≡ count_of f l
unfolding hollowed
hollowed_split Nil h l once off = refl
hollowed_split (Tree m c ks rest) h l once off = elim (eqb_tells m h) [
  | inl (t, e) ↦ (
      let none : count_of rest h ≡ 0 = (let o = once h in let o' = rw t at o in omega (arith, o')) in
      let other : eqb m l ≡ false = ne_eqb m l (λ q. off (sym q ∙ e)) in
      rw (t, other, hollowed_absent rest h none) (omega arith))
  | inr (t, _) ↦ rw t (omega (
    arith,
    hollowed_split ks h l (λ k. (let o = once k in omega (arith, o))) off,
    hollowed_split rest h l (λ k. (let o = once k in omega (arith, o))) off,
    total-join (λ k _. cond (eqb k l) 1 0) (tree_of ks h) (tree_of rest h),
  ))
]

-- a tree goes under h, or under a node that is left out
pub hollowed-put_under : (f : Forest Content) (h p : ℕ) (b : Option ℕ) (t : Forest Content) → (p ≢ h → count_of (hollowed f h) p ≡ 0) → hollowed (put_under f p b t) h ≡ hollowed f h
unfolding hollowed
hollowed-put_under Nil h p b t out = refl
hollowed-put_under (Tree m c ks rest) h p b t out = elim (eqb_tells m h) [
  | inl (u, _) ↦ elim (eqb_tells m p) [
    | inl (v, _) ↦ rw (v, u) refl
    | inr (v, _) ↦ rw (v, u, hollowed-put_under rest h p b t (λ q. (let none = out q in let none' = rw u at none in omega (arith, none')))) refl
  ]
  | inr (u, off) ↦ elim (eqb_tells m p) [
    | inl (v, e) ↦ absurd (let none = out (λ q. off (e ∙ q)) in let none' = rw (u, v) at none in omega (arith, none'))
    | inr (v, _) ↦
        rw (
          v,
          u,
          hollowed-put_under ks h p b t (λ q. (let none = out q in let none' = rw u at none in omega (arith, none'))),
          hollowed-put_under rest h p b t (λ q. (let none = out q in let none' = rw u at none in omega (arith, none'))),
        )
        refl
  ]
]

-- a node that is left out is taken out
pub hollowed-without : (f : Forest Content) (h n : ℕ) → count_of (hollowed f h) n ≡ 0 → hollowed (without f n) h ≡ hollowed f h
unfolding hollowed
hollowed-without Nil h n out = refl
hollowed-without (Tree m c ks rest) h n out = elim (eqb_tells m h) [
  | inl (u, _) ↦ elim (eqb_tells m n) [
    | inl (v, _) ↦ absurd (let out' = rw (u, v) at out in omega (arith, out'))
    | inr (v, _) ↦ (let out' = rw u at out in rw (v, u, hollowed-without rest h n (omega (arith, out'))) refl)
  ]
  | inr (u, _) ↦ elim (eqb_tells m n) [
    | inl (v, _) ↦ absurd (let out' = rw (u, v) at out in omega (arith, out'))
    | inr (v, _) ↦ (let out' = rw u at out in rw (v, u, hollowed-without ks h n (omega (arith, out')), hollowed-without rest h n (omega (arith, out'))) refl)
  ]
]

-- the content of a node that is left out changes
pub hollowed-revised : (f : Forest Content) (h n : ℕ) (g : Content → Content) → count_of (hollowed f h) n ≡ 0 → hollowed (revised f n g) h ≡ hollowed f h
unfolding hollowed
hollowed-revised Nil h n g out = refl
hollowed-revised (Tree m c ks rest) h n g out = elim (eqb_tells m h) [
  | inl (u, _) ↦ elim (eqb_tells n m) [
    | inl (_, e) ↦ absurd (let v : eqb m n ≡ true = eq-eqb m n (sym e) in let out' = rw (u, v) at out in omega (arith, out'))
    | inr (v, _) ↦ (let out' = rw u at out in rw (v, u, hollowed-revised rest h n g (omega (arith, out'))) refl)
  ]
  | inr (u, _) ↦ elim (eqb_tells n m) [
    | inl (_, e) ↦ absurd (let v : eqb m n ≡ true = eq-eqb m n (sym e) in let out' = rw (u, v) at out in omega (arith, out'))
    | inr (v, _) ↦ (let out' = rw u at out in rw (v, u, hollowed-revised ks h n g (omega (arith, out')), hollowed-revised rest h n g (omega (arith, out'))) refl)
  ]
]

-- ---- a node that is editable stands below its host

host_above : (c : Content) (under : Bool) (above : Option ℕ) (h : ℕ) → host_by c under above ≡ Some h → above ≡ Some h
host_above c under above h e = by (is_true_state c || is_false_state c) (is_element c || under) e
  where
    by : (a b : Bool) → cond a None (cond b above None) ≡ Some h → above ≡ Some h
    by true b e = absurd (let t : None ≡ Some h = e in cc)
    by false true e = e
    by false false e = absurd (let t : None ≡ Some h = e in cc)

module _ (f : Forest Content) (once : IsDistinct f) where
  content_there : (l : ℕ) → 0 < count_of f l → (c : Content) × (content_of f l ≡ Some c)
  content_there l h = let s = seen f l once h in (s.0.content, ap (option_map (λ (x : Seen Content). x.content)) s.2)

  top_there : (h l : ℕ) → IsWithin f h l → 0 < count_of f h
  top_there h l inside = by_count (count_of f h) refl
    where
      by_count : (k : ℕ) → count_of f h ≡ k → 0 < k
      by_count zero e = absurd (let none = tree_of_absent f h e in let inside' = rw none at inside in omega (arith, inside'))
      by_count (suc k) e = omega arith

  -- a child of a node that stands within h stands below h
  pub child_below : (h p l : ℕ) → parent_of f l ≡ Some p → IsWithin f h p → IsWithin f h l × (l ≢ h)
  child_below h p l child inside = (
    within_child f h once (top_there h p inside) l p child inside,
    λ e. parent_apart f h p once (ap (parent_of f) (sym e) ∙ child) inside,
  )

  editable_step : (l h : ℕ) → ((p : ℕ) → parent_of f l ≡ Some p → editing_host f p ≡ Some h → IsWithin f h p × (p ≢ h)) → editing_host f l ≡ Some h → IsWithin f h l × (l ≢ h)
  editable_step l h above e = by_parent (parent_of f l) refl
    where
      by_parent : (o : Option ℕ) → parent_of f l ≡ o → IsWithin f h l × (l ≢ h)
      by_parent None is = absurd (let t : None ≡ Some h = sym (editing_host-root f once l is) ∙ e in cc)
      by_parent (Some p) is =
          let counts = parent_count f l p once is in
          let c = content_there l counts.0 in
          let d = content_there p counts.1 in
          let up = host_above c.0 (is_element d.0) (cond (is_true_state d.0) (Some p) (editing_host f p)) h (sym (editing_host-child f once l p c.0 d.0 is c.1 d.1) ∙ e) in
          by_state (is_true_state d.0) counts.1 up
        where
          by_state : (v : Bool) → 0 < count_of f p → cond v (Some p) (editing_host f p) ≡ Some h → IsWithin f h l × (l ≢ h)
          by_state true there up =
              let same : p ≡ h = (let t = up in cc) in
              child_below h p l is (subst (λ k. IsWithin f k p) same (within_self f p once there))
          by_state false there up = child_below h p l is (above p is up).0

  editable_at : (k l h : ℕ) → depth_of f l ≡ k → editing_host f l ≡ Some h → IsWithin f h l × (l ≢ h)
  editable_at zero l h deep e = editable_step l h (λ p is _. absurd (let more = depth_of-parent f l p once is in omega (arith, deep, more))) e
  editable_at (suc k) l h deep e = editable_step l h (λ p is up. editable_at k p h (let more = depth_of-parent f l p once is in omega (arith, deep, more)) up) e

  pub editable_below : (l h : ℕ) → editing_host f l ≡ Some h → IsWithin f h l × (l ≢ h)
  editable_below l h e = editable_at (depth_of f l) l h refl e

-- ---- in the document of valid trees

module _ (f : Forest Content) (next : ℕ) (is : IsForest f next) where
  document_once : IsDistinct (tree_of f 0)
  document_once l = omega (arith, is.distinct l, total-without (λ m _. cond (eqb m l) 1 0) f 0)

  -- what the document has below h
  pub inside_part : (h l : ℕ) → count_of (tree_of (tree_of f 0) h) l ≤ count_of (tree_of f h) l
  inside_part h l = elim (eqb_tells h 0) [
    | inl (_, e) ↦ at_root e
    | inr (_, off) ↦ (let d = document_shape f next is in part_of_tree f d.0 d.1 d.2 h l d.3 (omega (arith, off)))
  ]
    where
      at_root : h ≡ 0 → count_of (tree_of (tree_of f 0) h) l ≤ count_of (tree_of f h) l
      at_root e = (
          let d = document_shape f next is in
          subst (λ k. count_of (tree_of (tree_of f 0) k) l ≤ count_of (tree_of f k) l) (sym e)
          (subst (λ g. count_of (tree_of (tree_of g 0) 0) l ≤ count_of (tree_of g 0) l) (sym d.3) (omega arith)))

  pub inside_whole : (h l : ℕ) → IsWithin f 0 h → count_of (tree_of (tree_of f 0) h) l ≡ count_of (tree_of f h) l
  inside_whole h l there = elim (eqb_tells h 0) [
    | inl (_, e) ↦ at_root e
    | inr (_, off) ↦ at_inner (omega (arith, off))
  ]
    where
      at_root : h ≡ 0 → count_of (tree_of (tree_of f 0) h) l ≡ count_of (tree_of f h) l
      at_root e = (
          let d = document_shape f next is in
          subst (λ k. count_of (tree_of (tree_of f 0) k) l ≡ count_of (tree_of f k) l) (sym e)
          (subst (λ g. count_of (tree_of (tree_of g 0) 0) l ≡ count_of (tree_of g 0) l) (sym d.3) refl))

      at_tree : (c : Content) (ks rest : Forest Content) → 0 < h → IsDistinct (Tree 0 c ks rest) → IsWithin (Tree 0 c ks rest) 0 h → count_of (tree_of (tree_of (Tree 0 c ks rest) 0) h) l ≡ count_of (tree_of (Tree 0 c ks rest) h) l
      at_tree c ks rest inner once here =
          let off : eqb 0 h ≡ false = ne_eqb 0 h (λ e. omega (arith, inner, e)) in
          let none : count_of rest h ≡ 0 = omega (arith, once h, here) in
          rw (off, tree_of_absent rest h none) refl

      at_inner : 0 < h → count_of (tree_of (tree_of f 0) h) l ≡ count_of (tree_of f h) l
      at_inner inner = (
          let d = document_shape f next is in
          subst (λ g. IsDistinct g → IsWithin g 0 h → count_of (tree_of (tree_of g 0) h) l ≡ count_of (tree_of g h) l) (sym d.3) (at_tree d.0 d.1 d.2 inner) is.distinct there)

  -- a node below h, in the document or not, is left out
  pub below_left_out : (h l : ℕ) → IsWithin f h l → l ≢ h → count_of (hollowed (tree_of f 0) h) l ≡ 0
  below_left_out h l inside off = by_count (count_of (hollowed (tree_of f 0) h) l) refl
    where
      top_inside : IsWithin f 0 l → IsWithin f 0 h
      top_inside here = elim (eqb_tells h 0) [
        | inl (_, e) ↦ subst (λ k. IsWithin f 0 k) (sym e) (within_self f 0 is.distinct is.document)
        | inr (_, inner) ↦ (let d = document_shape f next is in tree_inside f d.0 d.1 d.2 h l is.distinct d.3 (omega (arith, inner)) inside here)
      ]

      by_count : (k : ℕ) → count_of (hollowed (tree_of f 0) h) l ≡ k → k ≡ 0
      by_count zero e = refl
      by_count (suc k) e = absurd (
          let here : IsWithin f 0 l = omega (arith, e, hollowed_le (tree_of f 0) h l) in
          let same = inside_whole h l (top_inside here) in
          omega (arith, e, same, inside, hollowed_split (tree_of f 0) h l document_once off, document_once l))

  -- and so is a child of h, or of a node that is left out
  pub child_left_out : (h p n : ℕ) → parent_of f n ≡ Some p → (p ≢ h → count_of (hollowed (tree_of f 0) h) p ≡ 0) → count_of (hollowed (tree_of f 0) h) n ≡ 0
  child_left_out h p n child out = by_count (count_of (hollowed (tree_of f 0) h) n) refl
    where
      within_top : IsWithin f 0 p → IsWithin f h p
      within_top here = elim (eqb_tells p h) [
        | inl (_, e) ↦ subst (λ k. IsWithin f k p) e (within_self f p is.distinct (parent_count f n p is.distinct child).1)
        | inr (_, off) ↦ omega (arith, here, out off, hollowed_split (tree_of f 0) h p document_once off, inside_part h p)
      ]

      by_count : (k : ℕ) → count_of (hollowed (tree_of f 0) h) n ≡ k → k ≡ 0
      by_count zero e = refl
      by_count (suc k) e = absurd (
          let here : IsWithin f 0 n = omega (arith, e, hollowed_le (tree_of f 0) h n) in
          let below = child_below f is.distinct h p n child (within_top (within_above f next is p n child here)) in
          omega (arith, e, below_left_out h n below.0 below.1))
