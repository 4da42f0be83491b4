-- Where a node stands in tree order: how many nodes stand before it.
use Rattle.std.proofs.Common.{◌≡◌, ℕ, ◌+◌, ◌<◌, zero, suc, Bool, true, false, cond, eqb, if◌then◌else◌, [], Option, Some, None, refl, sym, ap, ◌∙◌, inl, inr, arith, nat_lt}
use Rattle.std.specs.Option.{option_map_or, option_and_then}
use Rattle.std.proofs.lemmas.Bool.{lt-ltb}
use Rattle.std.proofs.lemmas.Bool.Decides.{eqb_tells}
use Rattle.edit_model.specs.DomModel.declared.Content.{Content}
use Rattle.edit_model.specs.DomModel.Forest.{Forest, Seen, times, tops, total, before_from, before_in, count_of, IsDistinct, IsWithin, parent_of, prev_of, children_of, join}
use Rattle.edit_model.specs.DomModel.Forest.Forest.{Nil, Tree}
use Rattle.edit_model.proofs.DomModel.Stands.{times-tops}
use Rattle.edit_model.proofs.DomModel.Links.{child_of_parent, parent_count, eqb_refl_true}
use Rattle.edit_laws.proofs.Around.{off_by, self_one, Around, Here, Below, Past, fill, count_around, count-fill, Spot, spot_here, spot_count, spot_distinct, spot_tree, spot_top, spot_as}
use Rattle.edit_laws.proofs.Patterns.{count-join, take_one}

abbrev pub size : Forest Content → ℕ
size f = total (λ _ _. 1) f

abbrev pub position : Forest Content → ℕ → ℕ
position Nil l = 0
position (Tree m c ks rest) l = if eqb m l then 0 else (if nat_lt 0 (count_of ks l) then 1 + position ks l else 1 + (size ks + position rest l))

abbrev pub before_around : Around → ℕ
before_around Here = 0
before_around (Below m c a rest) = 1 + before_around a
before_around (Past m c ks a) = 1 + (size ks + before_around a)

position-fill : (a : Around) (g : Forest Content) (l : ℕ) → count_around a l ≡ 0 → 0 < count_of g l → position (fill a g) l ≡ before_around a + position g l
position-fill Here g l none h = omega arith
position-fill (Below m c a rest) g l none h =
    rw (off_by m l (omega (arith, none)), lt-ltb 0 (count_of (fill a g) l) (omega (arith, count-fill a g l, h))) (omega (arith, position-fill a g l (omega (arith, none)) h))
position-fill (Past m c ks a) g l none h =
    let empty : count_of ks l ≡ 0 = omega (arith, none) in
    rw (off_by m l (omega (arith, none)), empty) (omega (arith, position-fill a g l (omega (arith, none)) h))

position-join : (pre g : Forest Content) (l : ℕ) → count_of pre l ≡ 0 → position (join pre g) l ≡ size pre + position g l
position-join Nil g l none = omega arith
position-join (Tree m c ks rest) g l none =
    let empty : count_of ks l ≡ 0 = omega (arith, none) in
    rw (off_by m l (omega (arith, none)), empty) (omega (arith, position-join rest g l (omega (arith, none))))

position-low : (f : Forest Content) (l : ℕ) → 0 < count_of f l → position f l < size f
position-low Nil l h = absurd (omega (arith, h))
position-low (Tree m c ks rest) l h = by_label (eqb m l) (count_of ks l) refl h (position-low ks l) (position-low rest l)
  where
    by_label : (v : Bool) (k : ℕ) → count_of ks l ≡ k → 0 < cond v 1 0 + (k + count_of rest l) → (0 < count_of ks l → position ks l < size ks) → (0 < count_of rest l → position rest l < size rest)
        → (if v then 0 else (if nat_lt 0 k then 1 + position ks l else 1 + (size ks + position rest l))) < 1 + (size ks + size rest)
    by_label true k e some x y = omega arith
    by_label false (suc k) e some x y = rw (lt-ltb 0 (suc k) (omega arith)) (omega (arith, x (omega (arith, e))))
    by_label false zero e some x y = omega (arith, y (omega (arith, some)))

-- ---- a node below another one, by look-ups

pub record Under (f : Forest Content) (l p : ℕ) : Type 0 where
  pub kids : Forest Content
  pub spot : Spot f p kids
  pub among : 0 < times (tops kids) l
  pub children : children_of f p ≡ tops kids

module _ (f : Forest Content) (once : IsDistinct f) where
  pub under : (l p : ℕ) → parent_of f l ≡ Some p → Under f l p
  under l p up =
      let place = spot_here f p (parent_count f l p once up).1 in
      let r = child_of_parent f l p once up in
      let top = spot_top f once p place.0 place.1 in
      let same : r.0.children ≡ tops place.0 = ap (λ (o : Option (Seen Content)). option_map_or (λ (x : Seen Content). x.children) o []) (sym r.2 ∙ top) in
      record { kids = place.0; spot = place.1; among = rw same at r.3; children = ap (λ (o : Option (Seen Content)). option_map_or (λ (x : Seen Content). x.children) o []) top }

  -- where what is below p stands
  at_kids : (p : ℕ) (kids : Forest Content) (spot : Spot f p kids) (l : ℕ) → 0 < count_of kids l → position f l ≡ before_around spot.around + (1 + position kids l)
  at_kids p kids spot l h =
      let k = spot_count f once p kids spot l in
      ap (λ g. position g l) spot.is
      ∙ (position-fill spot.around (Tree p spot.content kids spot.rest) l (omega (arith, k, h)) (omega (arith, h))
      ∙ rw (off_by p l (omega (arith, k, h)), lt-ltb 0 (count_of kids l) h) refl)

  at_top : (p : ℕ) (kids : Forest Content) (spot : Spot f p kids) → position f p ≡ before_around spot.around
  at_top p kids spot =
      let k = spot_count f once p kids spot p in
      ap (λ g. position g p) spot.is
      ∙ (position-fill spot.around (Tree p spot.content kids spot.rest) p (omega (arith, k, self_one p)) (omega (arith, self_one p))
      ∙ rw (eqb_refl_true p) (omega arith))

  -- a child stands after its parent
  pub child_later : (l p : ℕ) → parent_of f l ≡ Some p → position f p < position f l
  child_later l p up =
      let u = under l p up in
      omega (arith, at_top p u.kids u.spot, at_kids p u.kids u.spot l (omega (arith, u.among, times-tops u.kids l)))

-- ---- the sibling before

pub record Pair (kids : Forest Content) (b r : ℕ) : Type 0 where
  pub pre : Forest Content
  pub content : Content
  pub own : Forest Content
  pub next_content : Content
  pub next_own : Forest Content
  pub post : Forest Content
  pub is : kids ≡ join pre (Tree b content own (Tree r next_content next_own post))

pair_later : (m : ℕ) (c : Content) (ks rest : Forest Content) (b r : ℕ) → Pair rest b r → Pair (Tree m c ks rest) b r
pair_later m c ks rest b r p = record { pre = Tree m c ks p.pre; content = p.content; own = p.own; next_content = p.next_content; next_own = p.next_own; post = p.post; is = ap (Tree m c ks) p.is }

pair_of : (m : ℕ) (c : Content) (ks rest : Forest Content) (b r : ℕ) → before_from (Some m) (tops rest) r ≡ Some b → Pair (Tree m c ks rest) b r
pair_of m c ks Nil b r e = absurd (let e' = e in cc)
pair_of m c ks (Tree m' d js rest) b r e = elim (eqb_tells m' r) [
  | inl (t, same) ↦ (
      let e' = rw t at e in
      let first : m ≡ b = (let k : Some m ≡ Some b = e' in cc) in
      record { pre = Nil; content = c; own = ks; next_content = d; next_own = js; post = rest; is = ap (λ k. Tree k c ks (Tree m' d js rest)) first ∙ ap (λ k. Tree b c ks (Tree k d js rest)) same })
  | inr (t, _) ↦ (let e' = rw t at e in pair_later m c ks (Tree m' d js rest) b r (pair_of m' d js rest b r e'))
]

pub pair : (kids : Forest Content) (b r : ℕ) → before_in (tops kids) r ≡ Some b → Pair kids b r
pair Nil b r e = absurd (let e' = e in cc)
pair (Tree m c ks rest) b r e = elim (eqb_tells m r) [
  | inl (t, _) ↦ absurd (let e' = rw t at e in let k : None ≡ Some b = e' in cc)
  | inr (t, _) ↦ (let e' = rw t at e in pair_of m c ks rest b r e')
]

module _ (f : Forest Content) (once : IsDistinct f) where
  -- what is within the sibling before a node stands before the node
  pub beside_earlier : (r b m : ℕ) → prev_of f r ≡ Some b → IsWithin f b m → position f m < position f r
  beside_earlier r b m prev within = by_parent (parent_of f r) refl
    where
      at_parent : (p : ℕ) → parent_of f r ≡ Some p → position f m < position f r
      at_parent p up =
          let u = under f once r p up in
          let before : before_in (tops u.kids) r ≡ Some b = sym (ap (λ o. option_and_then (λ k. before_in (children_of f k) r) o) up ∙ ap (λ l. before_in l r) u.children) ∙ prev in
          let w = pair u.kids b r before in
          let kids = join w.pre (Tree b w.content w.own (Tree r w.next_content w.next_own w.post)) in
          let spot : Spot f p kids = spot_as f p u.kids kids w.is u.spot in
          let kids_once = spot_distinct f once p kids spot in
          let inside_b : 0 < count_of kids b = omega (arith, count-join w.pre (Tree b w.content w.own (Tree r w.next_content w.next_own w.post)) b, self_one b) in
          let tree = spot_tree f once p kids spot b inside_b ∙ (take_one w.pre b w.content w.own (Tree r w.next_content w.next_own w.post) kids_once).tree in
          let here : 0 < count_of (Tree b w.content w.own Nil) m = rw tree at within in
          let sum_m = count-join w.pre (Tree b w.content w.own (Tree r w.next_content w.next_own w.post)) m in
          let sum_r = count-join w.pre (Tree b w.content w.own (Tree r w.next_content w.next_own w.post)) r in
          let m_at = at_kids f once p kids spot m (omega (arith, sum_m, here)) in
          let r_at = at_kids f once p kids spot r (omega (arith, sum_r, self_one r)) in
          let m_in = position-join w.pre (Tree b w.content w.own (Tree r w.next_content w.next_own w.post)) m (omega (arith, sum_m, here, kids_once m)) in
          let r_in = position-join w.pre (Tree b w.content w.own (Tree r w.next_content w.next_own w.post)) r (omega (arith, sum_r, self_one r, kids_once r)) in
          let empty : count_of w.own r ≡ 0 = omega (arith, sum_r, self_one r, kids_once r) in
          let last : position (Tree b w.content w.own (Tree r w.next_content w.next_own w.post)) r ≡ 1 + (size w.own + 0) =
          rw (off_by b r (omega (arith, sum_r, self_one r, kids_once r)), empty, eqb_refl_true r) refl in
          let low = in_first w.content w.own (Tree r w.next_content w.next_own w.post) here in
          omega (arith, m_at, r_at, m_in, r_in, last, low)
        where
          in_first : (c : Content) (js rest : Forest Content) → 0 < count_of (Tree b c js Nil) m → position (Tree b c js rest) m < 1 + size js
          in_first c js rest h = by_label (eqb b m) (count_of js m) refl h
            where
              by_label : (v : Bool) (k : ℕ) → count_of js m ≡ k → 0 < cond v 1 0 + (k + 0) → (if v then 0 else (if nat_lt 0 k then 1 + position js m else 1 + (size js + position rest m))) < 1 + size js
              by_label true k e some = omega arith
              by_label false zero e some = absurd (omega (arith, some))
              by_label false (suc k) e some = rw (lt-ltb 0 (suc k) (omega arith)) (omega (arith, position-low js m (omega (arith, e))))

      by_parent : (o : Option ℕ) → parent_of f r ≡ o → position f m < position f r
      by_parent None root = absurd (let k : None ≡ Some b = sym (ap (λ o. option_and_then (λ k. before_in (children_of f k) r) o) root) ∙ prev in cc)
      by_parent (Some p) up = at_parent p up
