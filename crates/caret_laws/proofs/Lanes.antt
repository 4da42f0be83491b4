-- Points between which the ends of nodes alone stand, or their starts alone: a lane. Nothing is contained between two of them, and a
-- trail from where a lane begins, or to where it ends, runs along it.
use Rattle.std.proofs.Common.{◌≡◌, ◌≢◌, ◌⊎◌, ℕ, ◌+◌, ◌<◌, Bool, true, false, List, [], Option, Some, None, refl, sym, ap, subst, ◌∙◌, inl, inr, arith, true≢false}
use Rattle.std.specs.Prelude.{slice_get, length}
use Rattle.std.specs.List.{filter}
use Rattle.std.specs.Option.{option_map, option_map_or}
use Rattle.std.proofs.lemmas.Bool.{and_parts, cases_lt}
use Rattle.std.proofs.lemmas.Bool.Decides.{eqb_tells}
use Rattle.edit_model.specs.DomModel.declared.Content.{Content}
use Rattle.edit_model.specs.DomModel.declared.Content.TheVariants.{Document, Element, Words, Remark}
use Rattle.edit_model.specs.DomModel.Contents.{may_have_children, length_in, length_of}
use Rattle.edit_model.specs.DomModel.Forest.{Forest, Seen, seek, parent_of, children_of, content_of, preorder, tree_of, IsWithin}
use Rattle.edit_model.specs.DomModel.Places.{index_of}
use Rattle.edit_model.proofs.DomModel.Within.{within_self, within_up}
use Rattle.edit_model.specs.LiveRange.declared.places.Point.{Point}
use Rattle.edit_model.specs.PointOrder.PointOrder.{is_before}
use Rattle.inline_value.specs.NodeTests.BlockPoints.{child_at}
use Rattle.inline_value.specs.NodeTests.CollapsedWhitespace.{is_words_content, is_words}
use Rattle.inline_value.specs.NodeTests.Ranges.{is_contained, contained_nodes}
use Rattle.inline_value.proofs.NodeTests.Reaching.{after_it, before_it, child_with}
use Rattle.edit_model.specs.Valid.{IsForest}
use Rattle.edit_model.proofs.Documents.{index_below}
use Rattle.inline_value.specs.BlockExtend.Gather.{gather, gathered}
use Rattle.inline_commands.proofs.Elsewhere.{contained_in}
use Rattle.inline_commands.proofs.Merging.{none_found}
use Rattle.inline_commands.proofs.Pairs.{listed}
use Rattle.delete_core.specs.Places.{at}
use Rattle.caret_laws.proofs.Canonical.{no_children, no_child_at, no_child_end, no_char_end}
use Rattle.caret_laws.proofs.Trails.{own_index, index_is, same_index, same_high, same_low, by_tree, there_is, Into, Out, Step, into, over, out, Trail, stop, on, trail_first, trail_inside}

-- ---- lanes

-- out of a node at its end, or into a child
abbrev pub Edge : Bool → Forest Content → Point → Point → Type 0
Edge true f x y = Out f x y
Edge false f x y = Into f x y

-- each of its points is at a node of this kind
pub data Lane (P : ℕ → Type 0) : Bool → Forest Content → Point → Point → Type 0 where
  stays : {v : Bool} {f : Forest Content} {x y : Point} → x ≡ y → P x.label → Lane P v f x y
  leads : {v : Bool} {f : Forest Content} {x y : Point} (z : Point) → Lane P v f x z → Edge v f z y → P y.label → Lane P v f x y

pub edge_step : (v : Bool) (f : Forest Content) (x y : Point) → Edge v f x y → Step f x y
edge_step true f x y e = out e
edge_step false f x y e = into e

module _ (P : ℕ → Type 0) (v : Bool) (f : Forest Content) where
  pub lane_trail : (x y : Point) → Lane P v f x y → Trail f x y
  lane_trail x y (stays e p) = stop e
  lane_trail x y (leads z l e p) = on z (lane_trail x z l) (edge_step v f z y e)

  pub lane_trans : (x y z : Point) → Lane P v f x y → Lane P v f y z → Lane P v f x z
  lane_trans x y z l (stays e p) = subst (λ w. Lane P v f x w) e l
  lane_trans x y z l (leads w m e p) = leads w (lane_trans x y w l m) e p

  pub lane_begins : (x y : Point) → Lane P v f x y → P x.label
  lane_begins x y (stays e p) = p
  lane_begins x y (leads z l e p) = lane_begins x z l

  pub lane_ends : (x y : Point) → Lane P v f x y → P y.label
  lane_ends x y (stays e p) = subst (λ (w : Point). P w.label) e p
  lane_ends x y (leads z l e p) = p

  -- the first edge of a lane
  pub lane_first : (x y : Point) → Lane P v f x y → (x ≡ y) ⊎ ((z : Point) × Edge v f x z)
  lane_first x y (stays e p) = inl e
  lane_first x y (leads z l e p) = elim (lane_first x z l) [
    | inl same ↦ inr (y, subst (λ w. Edge v f w y) (sym same) e)
    | inr first ↦ inr first
  ]

  -- and its last one
  pub lane_last : (x y : Point) → Lane P v f x y → (x ≡ y) ⊎ ((z : Point) × Edge v f z y)
  lane_last x y (stays e p) = inl e
  lane_last x y (leads z l e p) = inr (z, e)

same_point : (x y : Point) → x.label ≡ y.label → x.offset ≡ y.offset → x ≡ y
same_point x y l o = ap (λ k. at k x.offset) l ∙ ap (at y.label) o

module _ (f : Forest Content) (next : ℕ) (law : IsForest f next) where
  -- a node that has a child is no text
  pub words_off : (l i k : ℕ) → child_at f l i ≡ Some k → is_words f l ≡ false
  unfolding is_words
  words_off l i k found = by (content_of f l) refl
    where
      by : (o : Option Content) → content_of f l ≡ o → option_map_or is_words_content o false ≡ false
      by None e = refl
      by (Some Document) e = refl
      by (Some (Element name attributes)) e = refl
      by (Some (Words chars)) e = absurd (
          let t : None ≡ Some k = sym (ap (λ ks. slice_get ks i) (no_children f next law l chars e)) ∙ found in
          cc)
      by (Some (Remark chars)) e = refl

  pub no_words : (l i k : ℕ) → child_at f l i ≡ Some k → (chars : List ℕ) → content_of f l ≢ Some (Words chars)
  no_words l i k found chars e = (
      let t : None ≡ Some k = sym (ap (λ ks. slice_get ks i) (no_children f next law l chars e)) ∙ found in
      cc)

  -- and is as long as it has children
  pub length_children : (l i k : ℕ) → child_at f l i ≡ Some k → length_of f l ≡ length (children_of f l)
  length_children l i k found = by (seek None f l) refl found
    where
      leaf : (r : Seen Content) → seek None f l ≡ Some r → slice_get r.children i ≡ Some k → may_have_children r.content ≡ false → ⊥
      leaf r e h none = (
          let t : None ≡ Some k = sym (ap (λ ks. slice_get ks i) ((law.nodes l r e).leaf none)) ∙ h in
          cc)

      by_content : (r : Seen Content) → (may_have_children r.content ≡ false → ⊥) → (c : Content) → r.content ≡ c → length_in c r.children ≡ length r.children
      by_content r some Document e = refl
      by_content r some (Element name attributes) e = refl
      by_content r some (Words chars) e = absurd (some (ap may_have_children e))
      by_content r some (Remark chars) e = absurd (some (ap may_have_children e))

      by : (o : Option (Seen Content)) → seek None f l ≡ o → slice_get (option_map_or (λ (r : Seen Content). r.children) o []) i ≡ Some k
          → option_map_or (λ c. length_in c (option_map_or (λ (r : Seen Content). r.children) o [])) (option_map (λ (r : Seen Content). r.content) o) 0 ≡ length (option_map_or (λ (r : Seen Content). r.children) o [])
      by None e h = absurd (let t : None ≡ Some k = h in cc)
      by (Some r) e h = by_content r (leaf r e h) r.content refl

  -- ---- trails along lanes

  -- where an edge leads on, no other step does
  edge_on : (v : Bool) (x y w : Point) → Edge v f x y → Step f x w → w ≡ y
  edge_on true x y w s (into i) = absurd (no_child_end f next law x.label x.offset i.child s.end i.stands)
  edge_on true x y w s (over o) = absurd (no_char_end f next law x.label x.offset o.char s.end o.stands)
  edge_on true x y w s (out o) =
      let same : o.parent ≡ s.parent = (let t : Some o.parent ≡ Some s.parent = sym o.child ∙ s.child in cc) in
      o.there ∙ (ap (λ p. at p (index_of f x.label + 1)) same ∙ sym s.there)
  edge_on false x y w s (into i) =
      let same : i.child ≡ s.child = (let t : Some i.child ≡ Some s.child = sym i.stands ∙ s.stands in cc) in
      i.there ∙ (ap (λ k. at k 0) same ∙ sym s.there)
  edge_on false x y w s (over o) = absurd (no_child_at f next law x.label x.offset x.offset o.char s.child o.stands s.stands)
  edge_on false x y w s (out o) = absurd (no_child_end f next law x.label x.offset s.child o.end s.stands)

  -- where an edge leads to, no other step does
  edge_back : (v : Bool) (x w y : Point) → Edge v f x y → Step f w y → w ≡ x
  edge_back true x w y s (into i) = absurd (
      let e : index_of f x.label + 1 ≡ 0 = ap (λ (q : Point). q.offset) (sym s.there ∙ i.there) in
      omega (arith, e))
  edge_back true x w y s (over o) = absurd (
      let label : s.parent ≡ w.label = ap (λ (q : Point). q.label) (sym s.there ∙ o.there) in
      let child : child_at f w.label (index_of f x.label) ≡ Some x.label = subst (λ p. child_at f p (index_of f x.label) ≡ Some x.label) label (own_index f law.distinct x.label s.parent s.child) in
      no_child_at f next law w.label w.offset (index_of f x.label) o.char x.label o.stands child)
  edge_back true x w y s (out o) =
      let label : o.parent ≡ s.parent = ap (λ (q : Point). q.label) (sym o.there ∙ s.there) in
      let more : index_of f w.label + 1 ≡ index_of f x.label + 1 = ap (λ (q : Point). q.offset) (sym o.there ∙ s.there) in
      let same : w.label ≡ x.label = same_index f law.distinct s.parent w.label x.label (o.child ∙ ap Some label) s.child (omega (arith, more)) in
      same_point w x same (o.end ∙ (ap (length_of f) same ∙ sym s.end))
  edge_back false x w y s (into i) =
      let child : i.child ≡ s.child = ap (λ (q : Point). q.label) (sym i.there ∙ s.there) in
      let a = index_is f law.distinct w.label s.child w.offset (i.stands ∙ ap Some child) in
      let b = index_is f law.distinct x.label s.child x.offset s.stands in
      let same : w.label ≡ x.label = (let t : Some w.label ≡ Some x.label = sym a.0 ∙ b.0 in cc) in
      same_point w x same (sym a.1 ∙ b.1)
  edge_back false x w y s (over o) = absurd (
      let e : 0 ≡ w.offset + 1 = ap (λ (q : Point). q.offset) (sym s.there ∙ o.there) in
      omega (arith, e))
  edge_back false x w y s (out o) = absurd (
      let e : 0 ≡ index_of f w.label + 1 = ap (λ (q : Point). q.offset) (sym s.there ∙ o.there) in
      omega (arith, e))

  module _ (P : ℕ → Type 0) (v : Bool) where
    -- a lane with a point on it
    pub record Parted (a x z : Point) : Type 0 where
      pub first : Lane P v f a x
      pub rest : Lane P v f x z

    -- a trail from where a lane begins ends on it, or goes on from its end
    pub lane_from : (a z x : Point) → Lane P v f a z → Trail f a x → Parted a x z ⊎ Trail f z x
    lane_from a z x (stays e p) t = inr (subst (λ w. Trail f w x) e t)
    lane_from a z x (leads y l s p) t = elim (lane_from a y x l t) [
      | inl k ↦ inl (record { first = k.first; rest = leads y k.rest s p })
      | inr t' ↦ elim (trail_first f y x t') [
        | inl e ↦ inl (record { first = subst (λ w. Lane P v f a w) e l; rest = subst (λ w. Lane P v f w z) e (leads y (stays refl (lane_ends P v f a y l)) s p) })
        | inr (w, first, rest) ↦ inr (subst (λ q. Trail f q x) (edge_on v y z w s first) rest)
      ]
    ]

    -- a trail to where a lane ends begins on it, or leads to its beginning
    pub lane_to : (a z x : Point) → Lane P v f a z → Trail f x z → Parted a x z ⊎ Trail f x a
    lane_to a z x (stays e p) t = inr (subst (λ w. Trail f x w) (sym e) t)
    lane_to a z x (leads y l s p) (stop e) = inl (record { first = subst (λ w. Lane P v f a w) (sym e) (leads y l s p); rest = stays e (subst (λ (w : Point). P w.label) (sym e) p) })
    lane_to a z x (leads y l s p) (on w q step) =
        let back : Trail f x y = subst (λ r. Trail f x r) (edge_back v y w z s step) q in
        elim (lane_to a y x l back) [
          | inl k ↦ inl (record { first = k.first; rest = leads y k.rest s p })
          | inr t ↦ inr t
        ]

  -- ---- nothing is contained

  index_low : (k p : ℕ) → parent_of f k ≡ Some p → index_of f k < length_of f p
  index_low k p child = index_below f next law p k child

  -- no point lies after a node's start and before its end's beginning the other way round
  not_around : (b : Point) (l : ℕ) → IsWithin f 0 l → IsWithin f 0 b.label → is_before f b (at l 0) ≡ true → is_before f (at l (length_of f l)) b ≡ true → ⊥
  not_around b l here there first last =
      let own = within_self f l law.distinct (there_is f next law l here) in
      by_tree f next law b there l here
      (λ lies. true≢false (sym last ∙ lies.none l (length_of f l) own))
      (λ lies. true≢false (sym first ∙ lies.none l 0 own))
      (λ is. (let low = same_low f b (at l 0) is first in omega (arith, low)))
      (λ m child inside. true≢false (sym first ∙ (after_it f law.distinct (at l 0) l m child (inl (refl, omega arith))).none b.label b.offset inside))

  -- no node of a tree starts after the end of its root
  end_last : (c l : ℕ) → IsWithin f 0 c → IsWithin f c l → is_before f (at c (length_of f c)) (at l 0) ≡ false
  end_last c l here inside = elim (eqb_tells c l) [
    | inl (_, is) ↦ same_high f (at c (length_of f c)) (at l 0) is (omega arith)
    | inr (_, off) ↦ (
        let m = child_with f law.distinct c l (there_is f next law c here) inside off in
        (before_it f law.distinct (at c (length_of f c)) c m.0 m.1 (inl (refl, index_low m.0 c m.1))).none l 0 m.2)
  ]

  -- and none ends before the root's start
  start_first : (c l o : ℕ) → IsWithin f 0 c → IsWithin f c l → is_before f (at l o) (at c 0) ≡ false
  start_first c l o here inside = elim (eqb_tells c l) [
    | inl (_, is) ↦ same_high f (at l o) (at c 0) (sym is) (omega arith)
    | inr (_, off) ↦ (
        let m = child_with f law.distinct c l (there_is f next law c here) inside off in
        (after_it f law.distinct (at c 0) c m.0 m.1 (inl (refl, omega arith))).none l o m.2)
  ]

  -- a node that starts after an end starts after the edge there
  out_over : (x y : Point) (l : ℕ) → Out f x y → IsWithin f 0 x.label → IsWithin f 0 y.label → IsWithin f 0 l → is_before f x (at l 0) ≡ true → is_before f y (at l 0) ≡ true
  out_over x y l s here up there e =
      let c = x.label in
      let p = s.parent in
      let once = law.distinct in
      let up_p : IsWithin f 0 p = subst (λ (w : Point). IsWithin f 0 w.label) s.there up in
      let own = within_self f c once (there_is f next law c here) in
      subst (λ w. is_before f w (at l 0) ≡ true) (sym s.there)
      (by_tree f next law (at l 0) there p up_p
      (λ lies. absurd (true≢false (sym e ∙ lies.none c x.offset (within_up f once c p c s.child own))))
      (λ lies. lies.comes p (index_of f c + 1) (within_self f p once (there_is f next law p up_p)))
      (λ is. absurd (true≢false (sym e ∙ (after_it f once (at l 0) p c s.child (inl (is, omega arith))).none c x.offset own)))
      (λ m child inside. elim (cases_lt (index_of f m) (index_of f c)) [
        | inl low ↦ absurd (true≢false (sym e ∙ (after_it f once (at l 0) p c s.child (inr (m, child, inside, low))).none c x.offset own))
        | inr high ↦ elim (cases_lt (index_of f c) (index_of f m)) [
          | inl low ↦ (after_it f once (at p (index_of f c + 1)) p m child (inl (refl, omega (arith, low)))).comes l 0 inside
          | inr low ↦ absurd (
              let same : m ≡ c = same_index f once p m c child s.child (omega (arith, low, high)) in
              let at_end : x ≡ at c (length_of f c) = same_point x (at c (length_of f c)) refl s.end in
              true≢false (sym (subst (λ w. is_before f w (at l 0) ≡ true) at_end e) ∙ end_last c l here (subst (λ k. IsWithin f k l) same inside)))
        ]
      ]))

  -- a node that ends before a start ends before the edge there
  in_under : (x y : Point) (l : ℕ) → Into f x y → IsWithin f 0 x.label → IsWithin f 0 y.label → IsWithin f 0 l → is_before f (at l (length_of f l)) y ≡ true → is_before f (at l (length_of f l)) x ≡ true
  in_under x y l s here down there e =
      let p = x.label in
      let c = s.child in
      let once = law.distinct in
      let i = index_is f once p c x.offset s.stands in
      let z : Point = at l (length_of f l) in
      let down_c : IsWithin f 0 c = subst (λ (w : Point). IsWithin f 0 w.label) s.there down in
      let own = within_self f c once (there_is f next law c down_c) in
      let e' : is_before f z (at c 0) ≡ true = subst (λ w. is_before f z w ≡ true) s.there e in
      by_tree f next law z there p here
      (λ lies. lies.comes p x.offset (within_self f p once (there_is f next law p here)))
      (λ lies. absurd (true≢false (sym e' ∙ lies.none c 0 (within_up f once c p c i.0 own))))
      (λ is. absurd (
      let low : index_of f c < length_of f l = subst (λ k. index_of f c < length_of f k) (sym is) (index_low c p i.0) in
      true≢false (sym e' ∙ (before_it f once z p c i.0 (inl (is, low))).none c 0 own)))
      (λ m child inside. elim (cases_lt (index_of f m) (index_of f c)) [
        | inl low ↦ (before_it f once x p m child (inl (refl, omega (arith, low, i.1)))).comes l (length_of f l) inside
        | inr high ↦ elim (cases_lt (index_of f c) (index_of f m)) [
          | inl low ↦ absurd (true≢false (sym e' ∙ (before_it f once z p c i.0 (inr (m, child, inside, low))).none c 0 own))
          | inr low ↦ absurd (
              let same : m ≡ c = same_index f once p m c child i.0 (omega (arith, low, high)) in
              true≢false (sym e' ∙ start_first c l (length_of f l) down_c (subst (λ k. IsWithin f k l) same inside)))
        ]
      ])

  module _ (P : ℕ → Type 0) where
    lane_over : (a z : Point) (l : ℕ) → Lane P true f a z → IsWithin f 0 a.label → IsWithin f 0 l → is_before f a (at l 0) ≡ true → is_before f z (at l 0) ≡ true
    lane_over a z l (stays same p) here there e = subst (λ w. is_before f w (at l 0) ≡ true) same e
    lane_over a z l (leads y m s p) here there e =
        let up = trail_inside f next law a y (lane_trail P true f a y m) here in
        let last = trail_inside f next law a z (lane_trail P true f a z (leads y m s p)) here in
        out_over y z l s up last there (lane_over a y l m here there e)

    lane_under : (a z : Point) (l : ℕ) → Lane P false f a z → IsWithin f 0 a.label → IsWithin f 0 l → is_before f (at l (length_of f l)) z ≡ true → is_before f (at l (length_of f l)) a ≡ true
    lane_under a z l (stays same p) here there e = subst (λ w. is_before f (at l (length_of f l)) w ≡ true) (sym same) e
    lane_under a z l (leads y m s p) here there e =
        let up = trail_inside f next law a y (lane_trail P false f a y m) here in
        let last = trail_inside f next law a z (lane_trail P false f a z (leads y m s p)) here in
        lane_under a y l m here there (in_under y z l s up last there e)

    pub none_within : (v : Bool) (a z : Point) (l : ℕ) → Lane P v f a z → IsWithin f 0 a.label → IsWithin f 0 l → is_contained f a z l ≡ true → ⊥
    unfolding is_contained
    none_within true a z l lane here there e =
        let parts = and_parts (is_before f a (at l 0)) (is_before f (at l (length_of f l)) z) e in
        let last = trail_inside f next law a z (lane_trail P true f a z lane) here in
        not_around z l there last (lane_over a z l lane here there parts.0) parts.1
    none_within false a z l lane here there e =
        let parts = and_parts (is_before f a (at l 0)) (is_before f (at l (length_of f l)) z) e in
        not_around a l there here parts.0 (lane_under a z l lane here there parts.1)

    none_contained : (v : Bool) (a z : Point) → Lane P v f a z → IsWithin f 0 a.label → contained_nodes f a z ≡ []
    none_contained v a z lane here =
        sym (contained_in f next law a z here)
        ∙ none_found (is_contained f a z) (preorder (tree_of f 0)) (λ l found e. none_within v a z l lane here (listed (tree_of f 0) l found) e)

    -- so nothing is gathered
    pub none_gathered : (test : ℕ → Bool) (v : Bool) (a z : Point) → Lane P v f a z → IsWithin f 0 a.label → gathered test f a z ≡ []
    unfolding gathered gather
    none_gathered test v a z lane here = ap (λ list. gather f (filter test list)) (none_contained v a z lane here)
