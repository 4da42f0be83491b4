-- The moves that keep the order, as changes of the list of the trees below one node.
use Rattle.std.proofs.Common.{◌≡◌, ℕ, ◌+◌, false, cond, eqb, [], ◌++◌, Option, Some, None, refl, sym, ap, ◌∙◌, arith, append_assoc}
use Rattle.std.proofs.lemmas.List.{append-nil}
use Rattle.edit_model.specs.DomModel.declared.Content.{Content}
use Rattle.edit_model.specs.DomModel.Forest.{Forest, first_in, tops, count_of, IsDistinct, seek, tree_of, without, put_before, put_under, join}
use Rattle.edit_model.specs.DomModel.Forest.Forest.{Nil, Tree}
use Rattle.edit_model.proofs.DomModel.Totals.{total-join, put_under_nowhere}
use Rattle.edit_model.proofs.DomModel.Stands.{seek_absent}
use Rattle.edit_model.proofs.DomModel.Links.{join-Nil, tree_of_absent, eqb_refl_true}
use Rattle.edit_model.proofs.DomModel.DropTree.{without_absent}
use Rattle.edit_model.specs.Kept.{borne_by, leaves}
use Rattle.edit_laws.proofs.Leaves.{leaves-Nil, leaves-Tree, leaves-join}
use Rattle.edit_laws.proofs.Around.{off_by, self_one}

-- ---- after trees that don't have a label

pub count-join : (f g : Forest Content) (l : ℕ) → count_of (join f g) l ≡ count_of f l + count_of g l
count-join f g l = total-join (λ m _. cond (eqb m l) 1 0) f g

pub join-assoc : (f g h : Forest Content) → join (join f g) h ≡ join f (join g h)
join-assoc Nil g h = refl
join-assoc (Tree m c ks rest) g h = ap (Tree m c ks) (join-assoc rest g h)

pub without-join : (pre g : Forest Content) (n : ℕ) → count_of pre n ≡ 0 → without (join pre g) n ≡ join pre (without g n)
without-join Nil g n none = refl
without-join (Tree m c ks rest) g n none = rw (off_by m n (omega (arith, none)), without_absent ks n (omega (arith, none)), without-join rest g n (omega (arith, none))) refl

pub tree_of-join : (pre g : Forest Content) (n : ℕ) → count_of pre n ≡ 0 → tree_of (join pre g) n ≡ tree_of g n
tree_of-join Nil g n none = refl
tree_of-join (Tree m c ks rest) g n none = rw (off_by m n (omega (arith, none)), tree_of_absent ks n (omega (arith, none))) (tree_of-join rest g n (omega (arith, none)))

pub put_under-join : (pre g : Forest Content) (p : ℕ) (b : Option ℕ) (t : Forest Content) → count_of pre p ≡ 0 → put_under (join pre g) p b t ≡ join pre (put_under g p b t)
put_under-join Nil g p b t none = refl
put_under-join (Tree m c ks rest) g p b t none =
    rw (off_by m p (omega (arith, none)), put_under_nowhere ks p b t (omega (arith, none)), put_under-join rest g p b t (omega (arith, none))) refl

pub other_label : (m b : ℕ) → eqb m b ≡ false → eqb b m ≡ false
other_label m b h = grind (arith, h)

pub put_before-join : (pre g : Forest Content) (b : ℕ) (t : Forest Content) → count_of pre b ≡ 0 → put_before (join pre g) (Some b) t ≡ join pre (put_before g (Some b) t)
put_before-join Nil g b t none = refl
put_before-join (Tree m c ks rest) g b t none = rw (other_label m b (off_by m b (omega (arith, none))), put_before-join rest g b t (omega (arith, none))) refl

pub put_last-join : (pre g t : Forest Content) → put_before (join pre g) None t ≡ join pre (put_before g None t)
put_last-join Nil g t = refl
put_last-join (Tree m c ks rest) g t = ap (Tree m c ks) (put_last-join rest g t)

pub put_last : (g t : Forest Content) → put_before g None t ≡ join g t
put_last Nil t = refl
put_last (Tree m c ks rest) t = ap (Tree m c ks) (put_last rest t)

pub seek-join : (o : Option ℕ) (pre g : Forest Content) (l : ℕ) → count_of pre l ≡ 0 → seek o (join pre g) l ≡ seek o g l
seek-join o Nil g l none = refl
seek-join o (Tree m c ks rest) g l none = rw (off_by m l (omega (arith, none)), seek_absent (Some m) ks l (omega (arith, none))) (seek-join o rest g l (omega (arith, none)))

-- ---- a tree, at a place among trees

-- what a move takes from its place, and what it leaves
pub record Taken (kids : Forest Content) (n : ℕ) (d : Content) (j left : Forest Content) : Type 0 where
  pub tree : tree_of kids n ≡ Tree n d j Nil
  pub out : without kids n ≡ left

-- the first child of o
pub take_first : (pre : Forest Content) (o : ℕ) (c : Content) (n : ℕ) (d : Content) (j k post : Forest Content) → IsDistinct (join pre (Tree o c (Tree n d j k) post)) → Taken (join pre (Tree o c (Tree n d j k) post)) n d j (join pre (Tree o c k post))
take_first pre o c n d j k post once =
    let at = once n in
    let sum = count-join pre (Tree o c (Tree n d j k) post) n in
    let one = self_one n in
    let before : count_of pre n ≡ 0 = omega (arith, at, sum, one) in
    let off : eqb o n ≡ false = off_by o n (omega (arith, at, sum, one)) in
    let later : count_of post n ≡ 0 = omega (arith, at, sum, one) in
    record {
      tree = tree_of-join pre (Tree o c (Tree n d j k) post) n before ∙ rw (off, eqb_refl_true n, tree_of_absent post n later) refl;
      out = without-join pre (Tree o c (Tree n d j k) post) n before ∙ rw (off, eqb_refl_true n, without_absent post n later) refl;
    }

-- the last child of o
pub take_last : (pre : Forest Content) (o : ℕ) (c : Content) (n : ℕ) (d : Content) (j k post : Forest Content) → IsDistinct (join pre (Tree o c (join k (Tree n d j Nil)) post)) → Taken (join pre (Tree o c (join k (Tree n d j Nil)) post)) n d j (join pre (Tree o c k post))
take_last pre o c n d j k post once =
    let at = once n in
    let sum = count-join pre (Tree o c (join k (Tree n d j Nil)) post) n in
    let inner = count-join k (Tree n d j Nil) n in
    let one = self_one n in
    let before : count_of pre n ≡ 0 = omega (arith, at, sum, inner, one) in
    let off : eqb o n ≡ false = off_by o n (omega (arith, at, sum, inner, one)) in
    let later : count_of post n ≡ 0 = omega (arith, at, sum, inner, one) in
    let more : count_of k n ≡ 0 = omega (arith, at, sum, inner, one) in
    record {
      tree = tree_of-join pre (Tree o c (join k (Tree n d j Nil)) post) n before ∙ rw (off, tree_of-join k (Tree n d j Nil) n more, eqb_refl_true n, tree_of_absent post n later) refl;
      out =
          without-join pre (Tree o c (join k (Tree n d j Nil)) post) n before
          ∙ rw (off, without-join k (Tree n d j Nil) n more, eqb_refl_true n, without_absent post n later) (ap (λ g. join pre (Tree o c g post)) (join-Nil k));
    }

-- a tree of the list itself
pub take_one : (pre : Forest Content) (n : ℕ) (d : Content) (j post : Forest Content) → IsDistinct (join pre (Tree n d j post)) → Taken (join pre (Tree n d j post)) n d j (join pre post)
take_one pre n d j post once =
    let at = once n in
    let sum = count-join pre (Tree n d j post) n in
    let one = self_one n in
    let before : count_of pre n ≡ 0 = omega (arith, at, sum, one) in
    record {
      tree = tree_of-join pre (Tree n d j post) n before ∙ rw (eqb_refl_true n) refl;
      out = without-join pre (Tree n d j post) n before ∙ rw (eqb_refl_true n) refl;
    }

-- ---- where a tree is put

-- before o
pub put_before_node : (pre : Forest Content) (o : ℕ) (c : Content) (k post : Forest Content) (n : ℕ) (d : Content) (j : Forest Content) → count_of pre o ≡ 0 → put_before (join pre (Tree o c k post)) (Some o) (Tree n d j Nil) ≡ join pre (Tree n d j (Tree o c k post))
put_before_node pre o c k post n d j none = put_before-join pre (Tree o c k post) o (Tree n d j Nil) none ∙ rw (eqb_refl_true o) refl

-- after o
pub put_after_node : (pre : Forest Content) (o : ℕ) (c : Content) (k post : Forest Content) (n : ℕ) (d : Content) (j : Forest Content) → IsDistinct (join pre (Tree o c k post)) → put_before (join pre (Tree o c k post)) (first_in (tops post)) (Tree n d j Nil) ≡ join pre (Tree o c k (Tree n d j post))
put_after_node pre o c k Nil n d j once = put_last-join pre (Tree o c k Nil) (Tree n d j Nil)
put_after_node pre o c k (Tree b e g h) n d j once =
    let at = once b in
    let sum = count-join pre (Tree o c k (Tree b e g h)) b in
    let one = self_one b in
    put_before-join pre (Tree o c k (Tree b e g h)) b (Tree n d j Nil) (omega (arith, at, sum, one))
    ∙ rw (other_label o b (off_by o b (omega (arith, at, sum, one))), eqb_refl_true b) refl

-- last below x
pub put_last_below : (pre : Forest Content) (x : ℕ) (e : Content) (g post : Forest Content) (n : ℕ) (d : Content) (j : Forest Content) → count_of pre x ≡ 0 → put_under (join pre (Tree x e g post)) x None (Tree n d j Nil) ≡ join pre (Tree x e (join g (Tree n d j Nil)) post)
put_last_below pre x e g post n d j none = put_under-join pre (Tree x e g post) x None (Tree n d j Nil) none ∙ rw (eqb_refl_true x, put_last g (Tree n d j Nil)) refl

-- first below p
pub put_first_below : (pre : Forest Content) (p : ℕ) (e : Content) (g post : Forest Content) (n : ℕ) (d : Content) (j : Forest Content) → count_of pre p ≡ 0 → put_under (join pre (Tree p e g post)) p (first_in (tops g)) (Tree n d j Nil) ≡ join pre (Tree p e (Tree n d j g) post)
put_first_below pre p e g post n d j none =
    put_under-join pre (Tree p e g post) p (first_in (tops g)) (Tree n d j Nil) none ∙ rw (eqb_refl_true p, first g) refl
  where
    first : (g : Forest Content) → put_before g (first_in (tops g)) (Tree n d j Nil) ≡ Tree n d j g
    first Nil = refl
    first (Tree m c ks rest) = rw (eqb_refl_true m) refl

-- ---- what is borne stays the same

-- o bears nothing itself
pub lift_leaves : (pre : Forest Content) (o : ℕ) (c : Content) (n : ℕ) (d : Content) (j k post : Forest Content) → borne_by o c ≡ [] → leaves (join pre (Tree n d j (Tree o c k post))) ≡ leaves (join pre (Tree o c (Tree n d j k) post))
lift_leaves pre o c n d j k post bare =
    leaves-join pre (Tree n d j (Tree o c k post))
    ∙ (rw (leaves-Tree n d j (Tree o c k post), leaves-Tree o c k post, leaves-Tree o c (Tree n d j k) post, leaves-Tree n d j k, bare) (simp append_assoc)
    ∙ sym (leaves-join pre (Tree o c (Tree n d j k) post)))

drop_leaves_at : (k : Forest Content) (o : ℕ) (c : Content) (n : ℕ) (d : Content) (j post : Forest Content) → leaves (Tree o c k (Tree n d j post)) ≡ leaves (Tree o c (join k (Tree n d j Nil)) post)
drop_leaves_at k o c n d j post = simp (leaves-join, leaves-Tree, leaves-Nil, append_assoc, append-nil)

after-join : (pre g h : Forest Content) → leaves g ≡ leaves h → leaves (join pre g) ≡ leaves (join pre h)
after-join pre g h e = leaves-join pre g ∙ (ap (λ x. leaves pre ++ x) e ∙ sym (leaves-join pre h))

pub drop_leaves : (pre : Forest Content) (o : ℕ) (c : Content) (n : ℕ) (d : Content) (j k post : Forest Content) → leaves (join pre (Tree o c k (Tree n d j post))) ≡ leaves (join pre (Tree o c (join k (Tree n d j Nil)) post))
drop_leaves pre o c n d j k post = after-join pre _ _ (drop_leaves_at k o c n d j post)

hand_leaves_at : (x : ℕ) (e : Content) (g : Forest Content) (o : ℕ) (c : Content) (n : ℕ) (d : Content) (j k post : Forest Content) → borne_by o c ≡ [] → leaves (Tree x e (join g (Tree n d j Nil)) (Tree o c k post)) ≡ leaves (Tree x e g (Tree o c (Tree n d j k) post))
hand_leaves_at x e g o c n d j k post bare = simp (leaves-join, leaves-Tree, leaves-Nil, bare, append_assoc, append-nil)

-- o bears nothing itself
pub hand_leaves : (pre : Forest Content) (x : ℕ) (e : Content) (g : Forest Content) (o : ℕ) (c : Content) (n : ℕ) (d : Content) (j k post : Forest Content) → borne_by o c ≡ [] → leaves (join pre (Tree x e (join g (Tree n d j Nil)) (Tree o c k post))) ≡ leaves (join pre (Tree x e g (Tree o c (Tree n d j k) post)))
hand_leaves pre x e g o c n d j k post bare = after-join pre _ _ (hand_leaves_at x e g o c n d j k post bare)

take_leaves_at : (p : ℕ) (e : Content) (g : Forest Content) (n : ℕ) (d : Content) (j post : Forest Content) → leaves (Tree p e (join g (Tree n d j Nil)) post) ≡ leaves (Tree p e g (Tree n d j post))
take_leaves_at p e g n d j post = simp (leaves-join, leaves-Tree, leaves-Nil, append_assoc, append-nil)

pub take_leaves : (pre : Forest Content) (p : ℕ) (e : Content) (g : Forest Content) (n : ℕ) (d : Content) (j post : Forest Content) → leaves (join pre (Tree p e (join g (Tree n d j Nil)) post)) ≡ leaves (join pre (Tree p e g (Tree n d j post)))
take_leaves pre p e g n d j post = after-join pre _ _ (take_leaves_at p e g n d j post)

front_leaves_at : (n : ℕ) (d : Content) (j : Forest Content) (p : ℕ) (e : Content) (g post : Forest Content) → borne_by p e ≡ [] → leaves (Tree p e (Tree n d j g) post) ≡ leaves (Tree n d j (Tree p e g post))
front_leaves_at n d j p e g post bare = simp (leaves-Tree, bare, append_assoc)

-- p bears nothing itself
pub front_leaves : (pre : Forest Content) (n : ℕ) (d : Content) (j : Forest Content) (p : ℕ) (e : Content) (g post : Forest Content) → borne_by p e ≡ [] → leaves (join pre (Tree p e (Tree n d j g) post)) ≡ leaves (join pre (Tree n d j (Tree p e g post)))
front_leaves pre n d j p e g post bare = after-join pre _ _ (front_leaves_at n d j p e g post bare)

swap_leaves_at : (x : ℕ) (e : Content) (g : Forest Content) (n : ℕ) (d : Content) (j post : Forest Content) → borne_by x e ++ leaves g ≡ [] → leaves (Tree n d j (Tree x e g post)) ≡ leaves (Tree x e g (Tree n d j post))
swap_leaves_at x e g n d j post bare =
    leaves-Tree n d j (Tree x e g post)
    ∙ (rw (leaves-Tree x e g post, ← (append_assoc (borne_by x e) (leaves g) (leaves post)), bare) (sym (leaves-Tree n d j post))
    ∙ (append_assoc (borne_by x e) (leaves g) (leaves (Tree n d j post)) ∙ sym (leaves-Tree x e g (Tree n d j post))))

-- the tree of x bears nothing
pub swap_leaves : (pre : Forest Content) (x : ℕ) (e : Content) (g : Forest Content) (n : ℕ) (d : Content) (j post : Forest Content) → borne_by x e ++ leaves g ≡ [] → leaves (join pre (Tree n d j (Tree x e g post))) ≡ leaves (join pre (Tree x e g (Tree n d j post)))
swap_leaves pre x e g n d j post bare = after-join pre _ _ (swap_leaves_at x e g n d j post bare)
