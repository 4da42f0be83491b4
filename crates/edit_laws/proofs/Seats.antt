-- Where a node of the document stands, from what look-ups tell.
use Rattle.std.proofs.Common.{◌≡◌, ℕ, ◌<◌, List, [], ◌∷◌, ◌++◌, Option, Some, refl, sym, ap, ◌∙◌, inl, inr, arith}
use Rattle.std.specs.Option.{option_map, option_map_or}
use Rattle.std.proofs.lemmas.Bool.Decides.{eqb_tells}
use Rattle.edit_model.specs.DomModel.declared.Content.{Content}
use Rattle.edit_model.specs.DomModel.Forest.{Forest, Seen, times, tops, count_of, parent_of, children_of, content_of, join}
use Rattle.edit_model.specs.DomModel.Forest.Forest.{Nil, Tree}
use Rattle.edit_model.proofs.DomModel.Links.{child_of_parent}
use Rattle.edit_model.specs.State.{State}
use Rattle.edit_model.specs.History.{document_of}
use Rattle.edit_model.specs.Valid.{IsValid}
use Rattle.edit_laws.proofs.Around.{Spot, spot_here, spot_as}
use Rattle.edit_laws.proofs.Lifting.{node_found}
use Rattle.edit_laws.proofs.Handing.{owner_found}

-- ---- lists of trees by their labels

pub record Split (f : Forest Content) (o : ℕ) : Type 0 where
  pub pre : Forest Content
  pub content : Content
  pub kids : Forest Content
  pub post : Forest Content
  pub is : f ≡ join pre (Tree o content kids post)

split_later : (m : ℕ) (c : Content) (ks rest : Forest Content) (o : ℕ) → Split rest o → Split (Tree m c ks rest) o
split_later m c ks rest o r = record { pre = Tree m c ks r.pre; content = r.content; kids = r.kids; post = r.post; is = ap (Tree m c ks) r.is }

pub split_top : (f : Forest Content) (o : ℕ) → 0 < times (tops f) o → Split f o
split_top Nil o h = absurd (omega (arith, h))
split_top (Tree m c ks rest) o h = elim (eqb_tells m o) [
  | inl (_, e) ↦ record { pre = Nil; content = c; kids = ks; post = rest; is = ap (λ k. Tree k c ks rest) e }
  | inr (t, _) ↦ (let h' = rw t at h in split_later m c ks rest o (split_top rest o (omega (arith, h'))))
]

pub record Parts (f : Forest Content) (xs ys : List ℕ) : Type 0 where
  pub first : Forest Content
  pub second : Forest Content
  pub is : f ≡ join first second
  pub firsts : tops first ≡ xs
  pub seconds : tops second ≡ ys

pub parts_of : (f : Forest Content) (xs ys : List ℕ) → tops f ≡ xs ++ ys → Parts f xs ys
parts_of f [] ys e = record { first = Nil; second = f; is = refl; firsts = refl; seconds = e }
parts_of Nil (x ∷ xs) ys e = absurd (let e' = e in cc)
parts_of (Tree m c ks rest) (x ∷ xs) ys e =
    let head : m ≡ x = (let e' = e in cc) in
    let tail : tops rest ≡ xs ++ ys = (let e' = e in cc) in
    let r = parts_of rest xs ys tail in
    record { first = Tree m c ks r.first; second = r.second; is = ap (Tree m c ks) r.is; firsts = ap (λ k. k ∷ tops r.first) head ∙ ap (λ l. x ∷ l) r.firsts; seconds = r.seconds }

pub record Headed (f : Forest Content) (o : ℕ) (ys : List ℕ) : Type 0 where
  pub content : Content
  pub kids : Forest Content
  pub post : Forest Content
  pub is : f ≡ Tree o content kids post
  pub seconds : tops post ≡ ys

pub headed : (f : Forest Content) (o : ℕ) (ys : List ℕ) → tops f ≡ o ∷ ys → Headed f o ys
headed Nil o ys e = absurd (let e' = e in cc)
headed (Tree m c ks rest) o ys e =
    let head : m ≡ o = (let e' = e in cc) in
    let tail : tops rest ≡ ys = (let e' = e in cc) in
    record { content = c; kids = ks; post = rest; is = ap (λ k. Tree k c ks rest) head; seconds = tail }

-- ---- a node of the document among its siblings

pub record Seat (s : State) (o q : ℕ) : Type 0 where
  pub pre : Forest Content
  pub content : Content
  pub kids : Forest Content
  pub post : Forest Content
  pub spot : Spot (document_of s.trees) q (join pre (Tree o content kids post))
  pub children : children_of s.trees o ≡ tops kids
  pub content_is : content_of s.trees o ≡ Some content

pub seat : (s : State) → IsValid s → (o q : ℕ) → parent_of s.trees o ≡ Some q → 0 < count_of (document_of s.trees) q → Seat s o q
seat s is o q up h =
    let place = spot_here (document_of s.trees) q h in
    let r = child_of_parent s.trees o q is.forest.distinct up in
    let found = owner_found s is q place.0 place.1 in
    let same : r.0.children ≡ tops place.0 = ap (λ (o : Option (Seen Content)). option_map_or (λ (x : Seen Content). x.children) o []) (sym r.2 ∙ found) in
    let among : 0 < times (tops place.0) o = rw same at r.3 in
    let w = split_top place.0 o among in
    let spot = spot_as (document_of s.trees) q place.0 (join w.pre (Tree o w.content w.kids w.post)) w.is place.1 in
    let here = node_found s is q w.pre o w.content w.kids w.post spot in
    record {
      pre = w.pre;
      content = w.content;
      kids = w.kids;
      post = w.post;
      spot = spot;
      children = ap (λ (o : Option (Seen Content)). option_map_or (λ (x : Seen Content). x.children) o []) here;
      content_is = ap (option_map (λ (x : Seen Content). x.content)) here;
    }
