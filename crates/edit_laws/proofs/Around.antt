-- A forest around a place in it, and what stands at the place.
use Rattle.std.proofs.Common.{◌≡◌, ℕ, ◌+◌, ◌<◌, ◌≤◌, zero, suc, Bool, true, false, cond, eqb, Option, Some, None, refl, sym, ap, ◌∙◌, inl, inr, arith}
use Rattle.std.proofs.lemmas.Bool.Decides.{eqb_tells}
use Rattle.edit_model.specs.DomModel.declared.Content.{Content}
use Rattle.edit_model.specs.DomModel.Forest.{Forest, either, tops, count_of, IsDistinct, seek, tree_of, without, put_before, put_under}
use Rattle.edit_model.specs.DomModel.Forest.Forest.{Nil, Tree}
use Rattle.edit_model.proofs.DomModel.Totals.{put_under_nowhere}
use Rattle.edit_model.proofs.DomModel.Stands.{seek_absent}
use Rattle.edit_model.proofs.DomModel.Links.{join-Nil, tree_of_absent, eqb_refl_true}
use Rattle.edit_model.proofs.DomModel.DropTree.{without_absent}
use Rattle.edit_model.specs.Kept.{leaves}
use Rattle.edit_laws.proofs.Leaves.{leaves-Tree}

pub data Around : Type 0 where
  Here : Around
  Below : (label : ℕ) (content : Content) (inner : Around) (rest : Forest Content) → Around
  Past : (label : ℕ) (content : Content) (children : Forest Content) (inner : Around) → Around

-- the forest with g at the place
abbrev pub fill : Around → Forest Content → Forest Content
fill Here g = g
fill (Below m c a rest) g = Tree m c (fill a g) rest
fill (Past m c ks a) g = Tree m c ks (fill a g)

-- how often a label stands around the place
abbrev pub count_around : Around → ℕ → ℕ
count_around Here l = 0
count_around (Below m c a rest) l = cond (eqb m l) 1 0 + (count_around a l + count_of rest l)
count_around (Past m c ks a) l = cond (eqb m l) 1 0 + (count_of ks l + count_around a l)

-- the parent of what stands at the place
abbrev pub owner_of : Option ℕ → Around → Option ℕ
owner_of o Here = o
owner_of o (Below m c a rest) = owner_of (Some m) a
owner_of o (Past m c ks a) = owner_of o a

abbrev pub one_if : Bool → ℕ
one_if v = cond v 1 0

pub off_by : (m l : ℕ) → one_if (eqb m l) ≡ 0 → eqb m l ≡ false
off_by m l h = by (eqb m l) h
  where
    by : (v : Bool) → one_if v ≡ 0 → v ≡ false
    by true e = absurd (omega (arith, e))
    by false e = refl

pub self_one : (n : ℕ) → one_if (eqb n n) ≡ 1
self_one n = rw (eqb_refl_true n) refl

pub count-fill : (a : Around) (g : Forest Content) (l : ℕ) → count_of (fill a g) l ≡ count_around a l + count_of g l
count-fill Here g l = omega arith
count-fill (Below m c a rest) g l = omega (arith, count-fill a g l)
count-fill (Past m c ks a) g l = omega (arith, count-fill a g l)

pub without-fill : (a : Around) (g : Forest Content) (n : ℕ) → count_around a n ≡ 0 → without (fill a g) n ≡ fill a (without g n)
without-fill Here g n none = refl
without-fill (Below m c a rest) g n none = rw (off_by m n (omega (arith, none)), without-fill a g n (omega (arith, none)), without_absent rest n (omega (arith, none))) refl
without-fill (Past m c ks a) g n none = rw (off_by m n (omega (arith, none)), without-fill a g n (omega (arith, none)), without_absent ks n (omega (arith, none))) refl

pub tree_of-fill : (a : Around) (g : Forest Content) (n : ℕ) → count_around a n ≡ 0 → tree_of (fill a g) n ≡ tree_of g n
tree_of-fill Here g n none = refl
tree_of-fill (Below m c a rest) g n none =
    rw (off_by m n (omega (arith, none)), tree_of-fill a g n (omega (arith, none)), tree_of_absent rest n (omega (arith, none))) (join-Nil (tree_of g n))
tree_of-fill (Past m c ks a) g n none = rw (off_by m n (omega (arith, none)), tree_of_absent ks n (omega (arith, none))) (tree_of-fill a g n (omega (arith, none)))

pub put_under-fill : (a : Around) (g : Forest Content) (p : ℕ) (b : Option ℕ) (t : Forest Content) → count_around a p ≡ 0 → put_under (fill a g) p b t ≡ fill a (put_under g p b t)
put_under-fill Here g p b t none = refl
put_under-fill (Below m c a rest) g p b t none =
    rw (off_by m p (omega (arith, none)), put_under-fill a g p b t (omega (arith, none)), put_under_nowhere rest p b t (omega (arith, none))) refl
put_under-fill (Past m c ks a) g p b t none =
    rw (off_by m p (omega (arith, none)), put_under-fill a g p b t (omega (arith, none)), put_under_nowhere ks p b t (omega (arith, none))) refl

pub either-None : {A : Type 0} (o : Option A) → either o None ≡ o
either-None None = refl
either-None (Some x) = refl

pub seek-fill : (o : Option ℕ) (a : Around) (g : Forest Content) (l : ℕ) → count_around a l ≡ 0 → seek o (fill a g) l ≡ seek (owner_of o a) g l
seek-fill o Here g l none = refl
seek-fill o (Below m c a rest) g l none =
    rw (off_by m l (omega (arith, none)), seek_absent o rest l (omega (arith, none)), either-None) (seek-fill (Some m) a g l (omega (arith, none)))
seek-fill o (Past m c ks a) g l none =
    rw (off_by m l (omega (arith, none)), seek_absent (Some m) ks l (omega (arith, none))) (seek-fill o a g l (omega (arith, none)))

pub leaves-fill : (a : Around) (g h : Forest Content) → leaves h ≡ leaves g → leaves (fill a h) ≡ leaves (fill a g)
leaves-fill Here g h same = same
leaves-fill (Below m c a rest) g h same = leaves-Tree m c (fill a h) rest ∙ (rw (leaves-fill a g h same) refl ∙ sym (leaves-Tree m c (fill a g) rest))
leaves-fill (Past m c ks a) g h same = leaves-Tree m c ks (fill a h) ∙ (rw (leaves-fill a g h same) refl ∙ sym (leaves-Tree m c ks (fill a g)))

-- ---- a node with its children

-- the node q stands in the forest, with these children
pub record Spot (f : Forest Content) (q : ℕ) (kids : Forest Content) : Type 0 where
  pub around : Around
  pub content : Content
  pub rest : Forest Content
  pub is : f ≡ fill around (Tree q content kids rest)

pub spot_here : (f : Forest Content) (q : ℕ) → 0 < count_of f q → (kids : Forest Content) × Spot f q kids
spot_here Nil q h = absurd (omega (arith, h))
spot_here (Tree m c ks rest) q h = elim (eqb_tells m q) [
  | inl (_, e) ↦ (ks, record { around = Here; content = c; rest = rest; is = ap (λ k. Tree k c ks rest) e })
  | inr (t, _) ↦ (let h' = rw t at h in by_count (spot_here ks q) (spot_here rest q) (count_of ks q) refl h')
]
  where
    by_count : (0 < count_of ks q → (kids : Forest Content) × Spot ks q kids) → (0 < count_of rest q → (kids : Forest Content) × Spot rest q kids) → (k : ℕ) → count_of ks q ≡ k → 0 < 0 + (count_of ks q + count_of rest q) → (kids : Forest Content) × Spot (Tree m c ks rest) q kids
    by_count x y zero e some = (let s = y (omega (arith, e, some)) in (s.0, record { around = Past m c ks s.1.around; content = s.1.content; rest = s.1.rest; is = ap (Tree m c ks) s.1.is }))
    by_count x y (suc k) e some = (let s = x (omega (arith, e)) in (s.0, record { around = Below m c s.1.around rest; content = s.1.content; rest = s.1.rest; is = ap (λ g. Tree m c g rest) s.1.is }))

module _ (f : Forest Content) (once : IsDistinct f) (q : ℕ) (kids : Forest Content) (spot : Spot f q kids) where
  -- each label stands once, around the place, at it or after it
  pub spot_count : (l : ℕ) → count_around spot.around l + (one_if (eqb q l) + (count_of kids l + count_of spot.rest l)) ≤ 1
  spot_count l =
      let e = ap (λ g. count_of g l) spot.is in
      omega (arith, once l, e, count-fill spot.around (Tree q spot.content kids spot.rest) l)

  pub spot_distinct : IsDistinct kids
  spot_distinct = λ l. omega (arith, spot_count l)

  pub spot_without : (n : ℕ) → 0 < count_of kids n → without f n ≡ fill spot.around (Tree q spot.content (without kids n) spot.rest)
  spot_without n h =
      let k = spot_count n in
      ap (λ g. without g n) spot.is
      ∙ (without-fill spot.around (Tree q spot.content kids spot.rest) n (omega (arith, k, h))
      ∙ rw (off_by q n (omega (arith, k, h)), without_absent spot.rest n (omega (arith, k, h))) refl)

  pub spot_tree : (n : ℕ) → 0 < count_of kids n → tree_of f n ≡ tree_of kids n
  spot_tree n h =
      let k = spot_count n in
      ap (λ g. tree_of g n) spot.is
      ∙ (tree_of-fill spot.around (Tree q spot.content kids spot.rest) n (omega (arith, k, h))
      ∙ rw (off_by q n (omega (arith, k, h)), tree_of_absent spot.rest n (omega (arith, k, h))) (join-Nil (tree_of kids n)))

  pub spot_put_top : (others : Forest Content) (b : Option ℕ) (t : Forest Content) → put_under (fill spot.around (Tree q spot.content others spot.rest)) q b t ≡ fill spot.around (Tree q spot.content (put_before others b t) spot.rest)
  spot_put_top others b t =
      let k = spot_count q in
      put_under-fill spot.around (Tree q spot.content others spot.rest) q b t (omega (arith, k, self_one q)) ∙ rw (eqb_refl_true q) refl

  pub spot_put_below : (others : Forest Content) (p : ℕ) (b : Option ℕ) (t : Forest Content) → 0 < count_of kids p → put_under (fill spot.around (Tree q spot.content others spot.rest)) p b t ≡ fill spot.around (Tree q spot.content (put_under others p b t) spot.rest)
  spot_put_below others p b t h =
      let k = spot_count p in
      put_under-fill spot.around (Tree q spot.content others spot.rest) p b t (omega (arith, k, h))
      ∙ rw (off_by q p (omega (arith, k, h)), put_under_nowhere spot.rest p b t (omega (arith, k, h))) refl

  pub spot_seek : (l : ℕ) → 0 < count_of kids l → seek None f l ≡ seek (Some q) kids l
  spot_seek l h =
      let k = spot_count l in
      ap (λ g. seek None g l) spot.is
      ∙ (seek-fill None spot.around (Tree q spot.content kids spot.rest) l (omega (arith, k, h))
      ∙ rw (off_by q l (omega (arith, k, h)), seek_absent (owner_of None spot.around) spot.rest l (omega (arith, k, h))) (either-None (seek (Some q) kids l)))

  pub spot_top : seek None f q ≡ Some (record { parent = owner_of None spot.around; content = spot.content; children = tops kids })
  spot_top =
      let k = spot_count q in
      ap (λ g. seek None g q) spot.is
      ∙ (seek-fill None spot.around (Tree q spot.content kids spot.rest) q (omega (arith, k, self_one q)) ∙ rw (eqb_refl_true q) refl)

-- the children set anew
pub spot_other : (f g : Forest Content) (q : ℕ) (kids others : Forest Content) (spot : Spot f q kids) → g ≡ fill spot.around (Tree q spot.content others spot.rest) → Spot g q others
spot_other f g q kids others spot e = record { around = spot.around; content = spot.content; rest = spot.rest; is = e }

pub spot_leaves : (f g : Forest Content) (q : ℕ) (kids others : Forest Content) (spot : Spot f q kids) → g ≡ fill spot.around (Tree q spot.content others spot.rest) → leaves others ≡ leaves kids → leaves g ≡ leaves f
spot_leaves f g q kids others spot e same =
    ap leaves e
    ∙ (leaves-fill spot.around (Tree q spot.content kids spot.rest) (Tree q spot.content others spot.rest)
    (leaves-Tree q spot.content others spot.rest ∙ (rw same refl ∙ sym (leaves-Tree q spot.content kids spot.rest)))
    ∙ sym (ap leaves spot.is))

pub spot_as : (f : Forest Content) (q : ℕ) (kids others : Forest Content) → kids ≡ others → Spot f q kids → Spot f q others
spot_as f q kids others e p = record { around = p.around; content = p.content; rest = p.rest; is = p.is ∙ ap (λ k. fill p.around (Tree q p.content k p.rest)) e }
