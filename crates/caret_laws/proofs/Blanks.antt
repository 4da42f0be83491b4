-- A blank character of a text is taken out, or gives way to another blank: what the document bears besides blanks stays, a caret
-- stays one, and a trail to that place stays a trail.
use Rattle.std.proofs.Common.{◌≡◌, ◌≢◌, ◌⊎◌, ℕ, zero, suc, ◌+◌, ◌<◌, ◌≤◌, ◌^◌, Bool, true, false, ◌||◌, cond, eqb, if◌then◌else◌, nat_le, bytes_eq, List, [], ◌∷◌, ◌++◌, take, drop, length, Option, Some, None, refl, sym, ap, subst, ◌∙◌, inl, inr, arith, add-one, true≢false}
use Rattle.std.specs.Prelude.{slice_get}
use Rattle.std.specs.List.{filter}
use Rattle.std.specs.Option.{option_map, option_map_or, option_and_then}
use Rattle.std.proofs.lemmas.Bool.{cases_Bool, lt-ltb, le-leb, ne_eqb}
use Rattle.std.proofs.lemmas.Bool.Decides.{eqb_tells, nat_tests}
use Rattle.std.proofs.lemmas.Slice.Eq.{bytes_eq-Decides}
use Rattle.edit_model.specs.DomModel.declared.Content.{Content}
use Rattle.edit_model.specs.DomModel.declared.Content.TheVariants.{Document, Element, Words, Remark}
use Rattle.edit_model.specs.DomModel.Contents.{is_element, name_in, with_chars, length_in, length_of, name_of}
use Rattle.edit_model.specs.DomModel.Editing.{is_true_state, host_by, offered, host_from, editing_host, is_host}
use Rattle.edit_model.specs.DomModel.Forest.{Forest, either, is_label, tree_of, parent_of, children_of, content_of, IsDistinct, IsWithin}
use Rattle.edit_model.specs.DomModel.Forest.Forest.{Nil, Tree}
use Rattle.edit_model.specs.DomModel.Places.{place_in, index_of}
use Rattle.edit_model.specs.DomModel.Revised.{revised}
use Rattle.edit_model.proofs.DomModel.Revising.{parent_of-revised, children_of-revised, content_of-revised}
use Rattle.edit_model.specs.LiveRange.declared.places.Point.{Point}
use Rattle.edit_model.specs.LiveRange.ActiveRange.{range_changed}
use Rattle.edit_model.specs.LiveRange.PointsEdit as range
use Rattle.edit_model.specs.LiveRange.PointsEdit.{adjusted, adjusted_pair, with_offset, after_replacement}
use Rattle.edit_model.specs.PointOrder.PointOrder.{is_before}
use Rattle.edit_model.specs.Kept.{Leaf}
use Rattle.edit_model.specs.Overrides.{no_overrides}
use Rattle.edit_model.specs.State.{State}
use Rattle.edit_model.specs.Confined.{spliced, is_editable_for, is_made, is_own, may_replace}
use Rattle.edit_model.specs.Edit.{Edit, Replace, is_made_edit, trees_after, points_after, with_replaced, changed, with_change, overrides_after, edited}
use Rattle.edit_model.specs.Action as action
use Rattle.edit_model.specs.Action.{acted}
use Rattle.edit_model.specs.Valid.{IsForest, IsValid}
use Rattle.edit_model.proofs.CommandParts.{command_acted}
use Rattle.edit_model.proofs.Documents.{document-revised, within-revised}
use Rattle.edit_model.proofs.Resting.{forest-document}
use Rattle.edit_model.proofs.IslandRuns.{trees_made}
use Rattle.edit_model.proofs.ValidRuns.{valid_edited}
use Rattle.delete_core.specs.Places.{at}
use Rattle.delete_core.specs.Spaces.{is_blank}
use Rattle.delete_core.specs.Whitespace.{text_of, char_at, chars_of_words}
use Rattle.caret_laws.specs.SolidOrder.{is_solid, solid_leaves, KeepsOrderUpToBlanks, StandsAt, HasRoomFor, HasRoom}
use Rattle.caret_laws.proofs.Fronts.{TextAt, text_own, text_beside, Front, SamePlace, cut_place, put_place, replaced_rises}
use Rattle.caret_laws.proofs.Solid.{alike_words, cut, put, swapped, cut_is, put_is, both_are, length_cut, length_put, length_swapped, get_low, get_cut, get_swapped, solid_chars, solid_cut, solid_put, solid_swapped, solid_replaced}
use Rattle.caret_laws.proofs.Trails.{Step, into, over, out, Trail, stop, on, trail_here, trail_step, trail_trans, trail_inside, not_back, out_before, later_there}

-- ---- a text with other characters

pub record Rewritten (f g : Forest Content) (n : ℕ) (chars new : List ℕ) : Type 0 where
  pub was : content_of f n ≡ Some (Words chars)
  pub own : content_of g n ≡ Some (Words new)
  pub others : (l : ℕ) → n ≢ l → content_of g l ≡ content_of f l
  pub parents : (l : ℕ) → parent_of g l ≡ parent_of f l
  pub children : (l : ℕ) → children_of g l ≡ children_of f l
  pub inside : (l : ℕ) → IsWithin f 0 l → IsWithin g 0 l

rewritten_trans : (f g h : Forest Content) (n : ℕ) (xs ys zs : List ℕ) → Rewritten f g n xs ys → Rewritten g h n ys zs → Rewritten f h n xs zs
rewritten_trans f g h n xs ys zs p q = record {
  was = p.was;
  own = q.own;
  others = λ l off. q.others l off ∙ p.others l off;
  parents = λ l. q.parents l ∙ p.parents l;
  children = λ l. q.children l ∙ p.children l;
  inside = λ l h. q.inside l (p.inside l h);
}

pub rewritten_revised : (f : Forest Content) (next : ℕ) → IsForest f next → (n at count : ℕ) (chars put : List ℕ) → content_of f n ≡ Some (Words chars) → Rewritten f (revised f n (with_replaced at count put)) n chars (spliced chars at count put)
rewritten_revised f next law n at count chars put text = record {
  was = text;
  own = content_of-revised n (with_replaced at count put) f n ∙ (ap (option_map (λ c. cond (eqb n n) (with_replaced at count put c) c)) text ∙ same);
  others = λ l off. content_of-revised n (with_replaced at count put) f l ∙ untouched l off (content_of f l);
  parents = parent_of-revised n (with_replaced at count put) f;
  children = children_of-revised n (with_replaced at count put) f;
  inside = λ l h. within-revised f next law n l (with_replaced at count put) h;
}
  where
    same : Some (cond (eqb n n) (Words (spliced chars at count put)) (Words chars)) ≡ Some (Words (spliced chars at count put))
    same = elim (eqb_tells n n) [ inl (t, _) ↦ rw t refl | inr (_, off) ↦ absurd (off refl) ]

    untouched : (l : ℕ) → n ≢ l → (o : Option Content) → option_map (λ c. cond (eqb n l) (with_replaced at count put c) c) o ≡ o
    untouched l off None = refl
    untouched l off (Some c) = rw (ne_eqb n l off) refl

-- the content of a node but for its characters
abbrev pub body_at : Forest Content → ℕ → Option Content
body_at f l = option_map (with_chars []) (content_of f l)

bodies_rewritten : (f g : Forest Content) (n : ℕ) (xs ys : List ℕ) → Rewritten f g n xs ys → (l : ℕ) → body_at g l ≡ body_at f l
bodies_rewritten f g n xs ys r l = elim (eqb_tells n l) [
  | inl (_, e) ↦ subst (λ k. body_at g k ≡ body_at f k) e (ap (option_map (with_chars [])) r.own ∙ sym (ap (option_map (with_chars [])) r.was))
  | inr (_, off) ↦ ap (option_map (with_chars [])) (r.others l off)
]

index_same : (f g : Forest Content) (n : ℕ) (xs ys : List ℕ) → Rewritten f g n xs ys → (l : ℕ) → index_of g l ≡ index_of f l
index_same f g n xs ys r l =
    ap (λ o. option_map_or (λ p. place_in (children_of g p) l) o 0) (r.parents l) ∙ by (parent_of f l)
  where
    by : (o : Option ℕ) → option_map_or (λ p. place_in (children_of g p) l) o 0 ≡ option_map_or (λ p. place_in (children_of f p) l) o 0
    by None = refl
    by (Some p) = ap (λ ks. place_in ks l) (r.children p)

length_parts : (f g : Forest Content) (l : ℕ) → content_of g l ≡ content_of f l → children_of g l ≡ children_of f l → length_of g l ≡ length_of f l
length_parts f g l e k = ap (λ o. option_map_or (λ c. length_in c (children_of g l)) o 0) e ∙ ap (λ ks. option_map_or (λ c. length_in c ks) (content_of f l) 0) k

pub length_words : (f : Forest Content) (l : ℕ) (chars : List ℕ) → content_of f l ≡ Some (Words chars) → length_of f l ≡ length chars
length_words f l chars e = ap (λ o. option_map_or (λ c. length_in c (children_of f l)) o 0) e

-- ---- characters

chars_at : (f : Forest Content) (l o : ℕ) (chars : List ℕ) → content_of f l ≡ Some (Words chars) → char_at f (at l o) ≡ slice_get chars o
unfolding char_at text_of
chars_at f l o chars e = ap (λ (c : Option Content). slice_get (option_map_or chars_of_words c []) o) e

char_same : (f g : Forest Content) (l o : ℕ) → content_of g l ≡ content_of f l → char_at g (at l o) ≡ char_at f (at l o)
unfolding char_at text_of
char_same f g l o e = ap (λ (c : Option Content). slice_get (option_map_or chars_of_words c []) o) e

-- a character stands in a text
pub char_there : (f : Forest Content) (l o c : ℕ) → char_at f (at l o) ≡ Some c → (chars : List ℕ) × (content_of f l ≡ Some (Words chars)) × (slice_get chars o ≡ Some c)
unfolding char_at text_of
char_there f l o c e = by (content_of f l) refl e
  where
    by : (k : Option Content) → content_of f l ≡ k → slice_get (option_map_or chars_of_words k []) o ≡ Some c → (chars : List ℕ) × (content_of f l ≡ Some (Words chars)) × (slice_get chars o ≡ Some c)
    by None e h = absurd (let t : None ≡ Some c = h in cc)
    by (Some Document) e h = absurd (let t : None ≡ Some c = h in cc)
    by (Some (Element name attributes)) e h = absurd (let t : None ≡ Some c = h in cc)
    by (Some (Words chars)) e h = (chars, e, h)
    by (Some (Remark chars)) e h = absurd (let t : None ≡ Some c = h in cc)

-- ---- trails

-- to where a blank is taken out
module _ (f g : Forest Content) (next : ℕ) (law : IsForest f next) (n o : ℕ) (chars : List ℕ) (r : Rewritten f g n chars (cut o chars)) where
  step_cut : (x y : Point) → IsWithin f 0 x.label → Step f x y → Trail f y (at n o) → Step g x y
  step_cut x y here (into s) rest = into (record { child = s.child; stands = ap (λ ks. slice_get ks x.offset) (r.children x.label) ∙ s.stands; there = s.there })
  step_cut x y here (over s) rest = elim (eqb_tells n x.label) [
    | inr (_, off) ↦ over (record { char = s.char; stands = char_same f g x.label x.offset (r.others x.label off) ∙ s.stands; blank = s.blank; there = s.there })
    | inl (_, is) ↦ (
        let ahead = not_back f next law y (at n o) rest (subst (λ v. IsWithin f 0 v.label) (sym s.there) here) in
        let low : x.offset + 1 ≤ o = later_there f (at x.label (x.offset + 1)) (at n o) (sym is) (subst (λ v. is_before f (at n o) v ≡ false) s.there ahead) in
        let now : content_of g x.label ≡ Some (Words (cut o chars)) = subst (λ l. content_of g l ≡ Some (Words (cut o chars))) is r.own in
        let earlier : content_of f x.label ≡ Some (Words chars) = subst (λ l. content_of f l ≡ Some (Words chars)) is r.was in
        over (record {
          char = s.char;
          stands = chars_at g x.label x.offset (cut o chars) now ∙ (get_cut o x.offset chars (omega (arith, low)) ∙ (sym (chars_at f x.label x.offset chars earlier) ∙ s.stands));
          blank = s.blank;
          there = s.there;
        }))
  ]
  step_cut x y here (out s) rest = elim (eqb_tells n x.label) [
    | inr (_, off) ↦ out (record {
      parent = s.parent;
      child = r.parents x.label ∙ s.child;
      end = s.end ∙ sym (length_parts f g x.label (r.others x.label off) (r.children x.label));
      there = s.there ∙ ap (λ i. at s.parent (i + 1)) (sym (index_same f g n chars (cut o chars) r x.label));
    })
    | inl (_, is) ↦ absurd (
        let up = trail_inside f next law x y (trail_step f x y (out s)) here in
        let ahead : is_before f (at n o) y ≡ false = not_back f next law y (at n o) rest up in
        let behind : is_before f (at x.label o) y ≡ true = out_before f next law x y s here o in
        true≢false (sym (subst (λ l. is_before f (at l o) y ≡ true) (sym is) behind) ∙ ahead))
  ]

  trail_cut : (x y : Point) → IsWithin f 0 x.label → Trail f x y → Trail f y (at n o) → Trail g x y
  trail_cut x y here (stop e) rest = stop e
  trail_cut x y here (on z p s) rest =
      let there = trail_inside f next law x z p here in
      on z (trail_cut x z here p (trail_trans f z y (at n o) (trail_step f z y s) rest)) (step_cut z y there s rest)

-- where a blank gives way to another one
module _ (f g : Forest Content) (n o b : ℕ) (chars : List ℕ) (blank : is_blank b ≡ true) (r : Rewritten f g n chars (swapped b o chars)) where
  step_swapped : (x y : Point) → Step f x y → Step g x y
  step_swapped x y (into s) = into (record { child = s.child; stands = ap (λ ks. slice_get ks x.offset) (r.children x.label) ∙ s.stands; there = s.there })
  step_swapped x y (over s) = elim (eqb_tells n x.label) [
    | inr (_, off) ↦ over (record { char = s.char; stands = char_same f g x.label x.offset (r.others x.label off) ∙ s.stands; blank = s.blank; there = s.there })
    | inl (_, is) ↦ (
        let now : content_of g x.label ≡ Some (Words (swapped b o chars)) = subst (λ l. content_of g l ≡ Some (Words (swapped b o chars))) is r.own in
        let earlier : content_of f x.label ≡ Some (Words chars) = subst (λ l. content_of f l ≡ Some (Words chars)) is r.was in
        let d = get_swapped b o x.offset s.char chars blank (sym (chars_at f x.label x.offset chars earlier) ∙ s.stands) s.blank in
        over (record { char = d.0; stands = chars_at g x.label x.offset (swapped b o chars) now ∙ d.1; blank = d.2; there = s.there }))
  ]
  step_swapped x y (out s) = out (record {
    parent = s.parent;
    child = r.parents x.label ∙ s.child;
    end = s.end ∙ sym (same x.label);
    there = s.there ∙ ap (λ i. at s.parent (i + 1)) (sym (index_same f g n chars (swapped b o chars) r x.label));
  })
    where
      same : (l : ℕ) → length_of g l ≡ length_of f l
      same l = elim (eqb_tells n l) [
        | inr (_, off) ↦ length_parts f g l (r.others l off) (r.children l)
        | inl (_, is) ↦ subst (λ k. length_of g k ≡ length_of f k) is (length_words g n (swapped b o chars) r.own ∙ (length_swapped b o chars ∙ sym (length_words f n chars r.was)))
      ]

  trail_swapped : (x y : Point) → Trail f x y → Trail g x y
  trail_swapped x y (stop e) = stop e
  trail_swapped x y (on z p s) = on z (trail_swapped x z p) (step_swapped z y s)

-- ---- editing hosts stay where characters change

module _ (n at count l : ℕ) (put : List ℕ) where
  abbrev new : Content → Content
  new c = with_replaced at count put c

  host_step : (v u : Bool) (a : Option ℕ) (m : ℕ) (c : Content) (ks ks' rest rest' : Forest Content) → ((w : Bool) (b : Option ℕ) → host_from w b ks' l ≡ host_from w b ks l) → ((w : Bool) (b : Option ℕ) → host_from w b rest' l ≡ host_from w b rest l)
      → host_from u a (Tree m (cond v (new c) c) ks' rest') l ≡ host_from u a (Tree m c ks rest) l
  host_step false u a m c ks ks' rest rest' hk hr = λ i. cond (eqb m l) (host_by c u a) (either (hk (is_element c) (offered m c u a) i) (hr u a i))
  host_step true u a m Document ks ks' rest rest' hk hr = λ i. cond (eqb m l) (host_by Document u a) (either (hk (is_element Document) (offered m Document u a) i) (hr u a i))
  host_step true u a m (Element name list) ks ks' rest rest' hk hr = λ i. cond (eqb m l) (host_by (Element name list) u a) (either (hk (is_element (Element name list)) (offered m (Element name list) u a) i) (hr u a i))
  host_step true u a m (Words chars) ks ks' rest rest' hk hr = λ i. cond (eqb m l) (host_by (Words chars) u a) (either (hk (is_element (Words chars)) (offered m (Words chars) u a) i) (hr u a i))
  host_step true u a m (Remark chars) ks ks' rest rest' hk hr = λ i. cond (eqb m l) (host_by (Remark chars) u a) (either (hk (is_element (Remark chars)) (offered m (Remark chars) u a) i) (hr u a i))

  host_from-replaced : (u : Bool) (a : Option ℕ) (f : Forest Content) → host_from u a (revised f n new) l ≡ host_from u a f l
  host_from-replaced u a Nil = refl
  host_from-replaced u a (Tree m c ks rest) =
      host_step (eqb n m) u a m c ks (revised ks n new) rest (revised rest n new) (λ w b. host_from-replaced w b ks) (λ w b. host_from-replaced w b rest)

state_replaced : (at count : ℕ) (put : List ℕ) (c : Content) → is_true_state (with_replaced at count put c) ≡ is_true_state c
state_replaced at count put Document = refl
state_replaced at count put (Element name list) = refl
state_replaced at count put (Words chars) = refl
state_replaced at count put (Remark chars) = refl

hosts_replaced : (f : Forest Content) (n at count : ℕ) (put : List ℕ) (l : ℕ) → is_host (revised f n (with_replaced at count put)) l ≡ is_host f l
hosts_replaced f n at count put l =
    ap (λ o. option_map_or is_true_state o false) (content_of-revised n (with_replaced at count put) f l) ∙ by (content_of f l) (eqb n l)
  where
    by : (o : Option Content) (v : Bool) → option_map_or is_true_state (option_map (λ c. cond v (with_replaced at count put c) c) o) false ≡ option_map_or is_true_state o false
    by None v = refl
    by (Some c) true = state_replaced at count put c
    by (Some c) false = refl

name_replaced : (at count : ℕ) (put : List ℕ) (c : Content) → name_in (with_replaced at count put c) ≡ name_in c
name_replaced at count put Document = refl
name_replaced at count put (Element name list) = refl
name_replaced at count put (Words chars) = refl
name_replaced at count put (Remark chars) = refl

names_replaced : (f : Forest Content) (n at count : ℕ) (put : List ℕ) (l : ℕ) → name_of (revised f n (with_replaced at count put)) l ≡ name_of f l
names_replaced f n at count put l =
    ap (option_and_then name_in) (content_of-revised n (with_replaced at count put) f l) ∙ by (content_of f l) (eqb n l)
  where
    by : (o : Option Content) (v : Bool) → option_and_then name_in (option_map (λ c. cond v (with_replaced at count put c) c) o) ≡ option_and_then name_in o
    by None v = refl
    by (Some c) true = name_replaced at count put c
    by (Some c) false = refl

-- ---- states

-- a point of a node stays at the start of the node and at its end, and where it is but for a text; what is a text was one
pub record Edges (s t : State) (a x : Point) : Type 0 where
  pub start : a.offset ≡ 0 → x.offset ≡ 0
  pub end : a.offset ≡ length_of s.trees a.label → x.offset ≡ length_of t.trees x.label
  pub rest : ((chars : List ℕ) → content_of s.trees a.label ≢ Some (Words chars)) → x ≡ a
  pub text : (chars : List ℕ) → content_of t.trees x.label ≡ Some (Words chars) → (ys : List ℕ) × (content_of s.trees a.label ≡ Some (Words ys))

edges_here : (s : State) (a : Point) → Edges s s a a
edges_here s a = record { start = λ e. e; end = λ e. e; rest = λ _. refl; text = λ chars e. (chars, e) }

edges_trans : (s t u : State) (a x y : Point) → Edges s t a x → Edges t u x y → Edges s u a y
edges_trans s t u a x y p q = record {
  start = λ e. q.start (p.start e);
  end = λ e. q.end (p.end e);
  rest = λ none. (q.rest (λ chars e. (let w = p.text chars e in none w.0 w.1)) ∙ p.rest none);
  text = λ chars e. (let w = q.text chars e in p.text w.0 w.1);
}

-- the points of the selection stay at their nodes, and together where they are; what stands before them and after them stays,
-- besides blanks, and the one stays behind the other in a text
pub record Moved (s t : State) (a b : Point) : Type 0 where
  pub anchor : Point
  pub focus : Point
  pub selects : t.points.selection ≡ Some (record { anchor = anchor; focus = focus })
  pub at_anchor : anchor.label ≡ a.label
  pub at_focus : focus.label ≡ b.label
  pub together : a ≡ b → anchor ≡ focus
  pub anchor_front : (F B : List Leaf) → Front s a F B → Front t anchor F B
  pub focus_front : (F B : List Leaf) → Front s b F B → Front t focus F B
  pub ordered : a.label ≡ b.label → a.offset ≤ b.offset → anchor.offset ≤ focus.offset
  pub anchor_edges : Edges s t a anchor
  pub focus_edges : Edges s t b focus

moved_trans : (s t u : State) (a b : Point) (m : Moved s t a b) → Moved t u m.anchor m.focus → Moved s u a b
moved_trans s t u a b m n = record {
  anchor = n.anchor;
  focus = n.focus;
  selects = n.selects;
  at_anchor = n.at_anchor ∙ m.at_anchor;
  at_focus = n.at_focus ∙ m.at_focus;
  together = λ same. n.together (m.together same);
  anchor_front = λ F B k. n.anchor_front F B (m.anchor_front F B k);
  focus_front = λ F B k. n.focus_front F B (m.focus_front F B k);
  ordered = λ same low. n.ordered (m.at_anchor ∙ (same ∙ sym m.at_focus)) (m.ordered same low);
  anchor_edges = edges_trans s t u a m.anchor n.anchor m.anchor_edges n.anchor_edges;
  focus_edges = edges_trans s t u b m.focus n.focus m.focus_edges n.focus_edges;
}

-- a state in which blanks alone have come or gone
pub record Blanked (s t : State) : Type 0 where
  pub valid : IsValid t
  pub order : KeepsOrderUpToBlanks s t
  pub moved : (a b : Point) → s.points.selection ≡ Some (record { anchor = a; focus = b }) → Moved s t a b
  pub inside : (l : ℕ) → IsWithin s.trees 0 l → IsWithin t.trees 0 l
  pub hosts : (l : ℕ) → is_host t.trees l ≡ is_host s.trees l
  pub children : (l : ℕ) → children_of t.trees l ≡ children_of s.trees l
  pub parents : (l : ℕ) → parent_of t.trees l ≡ parent_of s.trees l
  pub names : (l : ℕ) → name_of t.trees l ≡ name_of s.trees l
  pub bodies : (l : ℕ) → body_at t.trees l ≡ body_at s.trees l
  pub texts : (l : ℕ) (xs : List ℕ) → content_of s.trees l ≡ Some (Words xs) → (ys : List ℕ) × (content_of t.trees l ≡ Some (Words ys)) × (solid_chars ys ≡ solid_chars xs)
  pub longer : (l : ℕ) (xs : List ℕ) → content_of t.trees l ≡ Some (Words xs) → (ys : List ℕ) × (content_of s.trees l ≡ Some (Words ys)) × (length xs ≤ length ys)
  pub others : (l : ℕ) → ((chars : List ℕ) → content_of s.trees l ≢ Some (Words chars)) → content_of t.trees l ≡ content_of s.trees l
  pub settings : (t.overrides ≡ s.overrides) ⊎ (t.overrides ≡ no_overrides)

pub blanked_here : (s : State) → IsValid s → Blanked s s
blanked_here s is = record {
  valid = is;
  order = refl;
  moved = λ a b e. record { anchor = a; focus = b; selects = e; at_anchor = refl; at_focus = refl; together = λ same. same; anchor_front = λ F B k. k; focus_front = λ F B k. k; ordered = λ same low. low; anchor_edges = edges_here s a; focus_edges = edges_here s b };
  inside = λ l h. h;
  hosts = λ l. refl;
  children = λ l. refl;
  parents = λ l. refl;
  names = λ l. refl;
  bodies = λ l. refl;
  texts = λ l xs e. (xs, e, refl);
  longer = λ l xs e. (xs, e, omega arith);
  others = λ l none. refl;
  settings = inl refl;
}

pub settings_both : (s t u : State) → (t.overrides ≡ s.overrides) ⊎ (t.overrides ≡ no_overrides) → (u.overrides ≡ t.overrides) ⊎ (u.overrides ≡ no_overrides) → (u.overrides ≡ s.overrides) ⊎ (u.overrides ≡ no_overrides)
settings_both s t u p q = elim q [
  | inr none ↦ inr none
  | inl same ↦ elim p [ inl same' ↦ inl (same ∙ same') | inr none ↦ inr (same ∙ none) ]
]

pub blanked_trans : (s t u : State) → Blanked s t → Blanked t u → Blanked s u
blanked_trans s t u p q = record {
  valid = q.valid;
  order = q.order ∙ p.order;
  moved = λ a b e. (let m = p.moved a b e in moved_trans s t u a b m (q.moved m.anchor m.focus m.selects));
  inside = λ l h. q.inside l (p.inside l h);
  hosts = λ l. q.hosts l ∙ p.hosts l;
  children = λ l. q.children l ∙ p.children l;
  parents = λ l. q.parents l ∙ p.parents l;
  names = λ l. q.names l ∙ p.names l;
  bodies = λ l. q.bodies l ∙ p.bodies l;
  texts = λ l xs e. (
      let m = p.texts l xs e in
      let n = q.texts l m.0 m.1 in
      (n.0, n.1, n.2 ∙ m.2));
  longer = λ l xs e. (
      let m = q.longer l xs e in
      let n = p.longer l m.0 m.1 in
      (n.0, n.1, omega (arith, m.2, n.2)));
  others = λ l none. (let same = p.others l none in q.others l (λ chars e. none chars (sym same ∙ e)) ∙ same);
  settings = settings_both s t u p.settings q.settings;
}

-- texts keep their room
pub room_kept : (n : ℕ) (s t : State) → Blanked s t → HasRoomFor n s → HasRoomFor n t
room_kept n s t k room l xs e = (let m = k.longer l xs e in omega (arith, m.2, room l m.0 m.1))

-- so a caret stays one, at its node
pub record Caret (s t : State) (p : Point) : Type 0 where
  pub place : Point
  pub caret : StandsAt t place
  pub label : place.label ≡ p.label
  pub front : (F B : List Leaf) → Front s p F B → Front t place F B

pub caret_then : (s t : State) (p : Point) → Blanked s t → StandsAt s p → Caret s t p
caret_then s t p k caret =
    let m = k.moved p p caret in
    record { place = m.anchor; caret = m.selects ∙ ap (λ f. Some (record { anchor = m.anchor; focus = f })) (sym (m.together refl)); label = m.at_anchor; front = m.anchor_front }

-- what an edit makes that is made, and that isn't
pub points_made : (e : Edit) (u : State) → is_made_edit e u ≡ true → (edited e u).points ≡ points_after e u.trees u.points
unfolding edited changed with_change
points_made e u may = rw may refl

pub edit_left : (e : Edit) (u : State) → is_made_edit e u ≡ false → edited e u ≡ u
unfolding edited
edit_left e u off = rw off refl

pub words_same : (xs ys : List ℕ) → Some (Words xs) ≡ Some (Words ys) → xs ≡ ys
words_same xs ys h = cc

longer_rewritten : (u t : State) (n : ℕ) (chars new : List ℕ) → Rewritten u.trees t.trees n chars new → length new ≤ length chars → (l : ℕ) (xs : List ℕ) → content_of t.trees l ≡ Some (Words xs) → (ys : List ℕ) × (content_of u.trees l ≡ Some (Words ys)) × (length xs ≤ length ys)
longer_rewritten u t n chars new r low l xs e = elim (eqb_tells n l) [
  | inr (_, off) ↦ (xs, sym (r.others l off) ∙ e, omega arith)
  | inl (_, same) ↦ (
      let here : Some (Words new) ≡ Some (Words xs) = sym r.own ∙ subst (λ k. content_of t.trees k ≡ Some (Words xs)) (sym same) e in
      let is : length new ≡ length xs = ap length (words_same new xs here) in
      (chars, subst (λ k. content_of u.trees k ≡ Some (Words chars)) same r.was, omega (arith, is, low)))
]

module _ (u : State) (is : IsValid u) (n o count : ℕ) (new chars : List ℕ) (text : content_of u.trees n ≡ Some (Words chars)) (may : is_made_edit (Replace n o count new) u ≡ true) where
  abbrev t : State
  t = edited (Replace n o count new) u

  pub trees_t : t.trees ≡ revised u.trees n (with_replaced o count new)
  unfolding trees_after
  trees_t = trees_made (Replace n o count new) u may

  pub rewritten : Rewritten u.trees t.trees n chars (spliced chars o count new)
  rewritten = subst (λ g. Rewritten u.trees g n chars (spliced chars o count new)) (sym trees_t) (rewritten_revised u.trees u.next is.forest n o count chars new text)

  abbrev event : range.PointsEdit
  event = range.Replace n o count (length new)

  stays_there : (p : Point) → (adjusted event p).label ≡ p.label
  stays_there p = by (eqb p.label n)
    where
      by : (v : Bool) → (if v then with_offset p (after_replacement o count (length new) p.offset) else p).label ≡ p.label
      by true = refl
      by false = refl

  -- the start and the end of the text
  module _ (at_end : after_replacement o count (length new) (length chars) ≡ length (spliced chars o count new)) where
    edges_own : (a : Point) → a.label ≡ n → Edges u t a (with_offset a (after_replacement o count (length new) a.offset))
    edges_own a at_n =
        let was : content_of u.trees a.label ≡ Some (Words chars) = ap (content_of u.trees) at_n ∙ text in
        let now : content_of t.trees a.label ≡ Some (Words (spliced chars o count new)) = ap (content_of t.trees) at_n ∙ rewritten.own in
        record {
          start = λ e. ap (after_replacement o count (length new)) e ∙ (let low = le-leb 0 o (omega arith) in rw low refl);
          end = λ e. ap (after_replacement o count (length new)) (e ∙ length_words u.trees a.label chars was) ∙ (at_end ∙ sym (length_words t.trees a.label (spliced chars o count new) now));
          rest = λ none. absurd (none chars was);
          text = λ xs e. (chars, was);
        }

    edges_other : (a : Point) → a.label ≢ n → Edges u t a a
    edges_other a off =
        let same = rewritten.others a.label (λ e. off (sym e)) in
        record {
          start = λ e. e;
          end = λ e. e ∙ sym (length_parts u.trees t.trees a.label same (rewritten.children a.label));
          rest = λ none. refl;
          text = λ xs e. (xs, sym same ∙ e);
        }

    edges_then : (a : Point) → Edges u t a (adjusted event a)
    edges_then a = elim (eqb_tells a.label n) [ inl (v, at_n) ↦ rw v (edges_own a at_n) | inr (v, off) ↦ rw v (edges_other a off) ]

  -- what stands before a place in a text, and after it
  module _ (same : solid_chars (spliced chars o count new) ≡ solid_chars chars) (places : (i : ℕ) → i ≤ length chars → SamePlace chars i (spliced chars o count new) (after_replacement o count (length new) i)) (at_end : after_replacement o count (length new) (length chars) ≡ length (spliced chars o count new)) where
    abbrev change : Content → Content
    change c = with_replaced o count new c

    document_t : tree_of t.trees 0 ≡ revised (tree_of u.trees 0) n change
    document_t = ap (λ f. tree_of f 0) trees_t ∙ document-revised u.trees u.next is.forest n change

    once : IsDistinct (tree_of u.trees 0)
    once = (forest-document u.trees u.next is.forest).distinct

    front_here : (a : Point) (F B : List Leaf) → a.label ≡ n → Front u a F B → Front t (with_offset a (after_replacement o count (length new) a.offset)) F B
    front_here a F B at_n k =
        let chars_are : chars ≡ k.chars = words_same chars k.chars (sym text ∙ (ap (content_of u.trees) (sym at_n) ∙ k.content)) in
        let stood : TextAt (tree_of u.trees 0) n k.pre chars k.post = subst (λ l. TextAt (tree_of u.trees 0) l k.pre chars k.post) at_n (subst (λ xs. TextAt (tree_of u.trees 0) a.label k.pre xs k.post) (sym chars_are) k.stands) in
        let low : a.offset ≤ length chars = subst (λ xs. a.offset ≤ length xs) (sym chars_are) k.low in
        let place = places a.offset low in
        record {
          chars = spliced chars o count new;
          content = ap (content_of t.trees) at_n ∙ rewritten.own;
          pre = k.pre;
          post = k.post;
          stands = subst (λ l. TextAt (tree_of t.trees 0) l k.pre (spliced chars o count new) k.post) (sym at_n) (subst (λ f. TextAt f n k.pre (spliced chars o count new) k.post) (sym document_t) (text_own (tree_of u.trees 0) n change k.pre chars (spliced chars o count new) k.post once refl stood));
          low = place.low;
          before = k.before ∙ ap (λ l. filter is_solid k.pre ++ l) (ap (λ xs. solid_chars (take a.offset xs)) (sym chars_are) ∙ sym place.front);
          after = k.after ∙ ap (λ l. l ++ filter is_solid k.post) (ap (λ xs. solid_chars (drop a.offset xs)) (sym chars_are) ∙ sym place.back);
        }

    front_other : (a : Point) (F B : List Leaf) → a.label ≢ n → Front u a F B → Front t a F B
    front_other a F B off k =
        let b = text_beside n change None (tree_of u.trees 0) a.label k.pre k.chars k.post once off (alike_words u.trees u.next is.forest n o count new chars text same) k.stands in
        record {
          chars = k.chars;
          content = rewritten.others a.label (λ e. off (sym e)) ∙ k.content;
          pre = b.front;
          post = b.back;
          stands = subst (λ f. TextAt f a.label b.front k.chars b.back) (sym document_t) b.stands;
          low = k.low;
          before = k.before ∙ ap (λ l. l ++ solid_chars (take a.offset k.chars)) (sym b.front_is);
          after = k.after ∙ ap (λ l. solid_chars (drop a.offset k.chars) ++ l) (sym b.back_is);
        }

    front_then : (a : Point) (F B : List Leaf) → Front u a F B → Front t (adjusted event a) F B
    front_then a F B k = elim (eqb_tells a.label n) [
      | inl (v, at_n) ↦ rw v (front_here a F B at_n k)
      | inr (v, off) ↦ rw v (front_other a F B off k)
    ]

    rises : (a b : Point) → a.label ≡ b.label → a.offset ≤ b.offset → (adjusted event a).offset ≤ (adjusted event b).offset
    rises a b at_b low = by (eqb a.label n) (eqb b.label n) (ap (λ l. eqb l n) at_b)
      where
        by : (v w : Bool) → v ≡ w → (if v then with_offset a (after_replacement o count (length new) a.offset) else a).offset ≤ (if w then with_offset b (after_replacement o count (length new) b.offset) else b).offset
        by true true e = replaced_rises o count (length new) a.offset b.offset low
        by false false e = low
        by true false e = absurd (true≢false e)
        by false true e = absurd (true≢false (sym e))

    moved_then : (a b : Point) → u.points.selection ≡ Some (record { anchor = a; focus = b }) → Moved u t a b
    unfolding points_after
    moved_then a b e = record {
      anchor = adjusted event a;
      focus = adjusted event b;
      selects = ap (λ q. q.selection) (points_made (Replace n o count new) u may) ∙ ap (option_map (adjusted_pair event)) e;
      at_anchor = stays_there a;
      at_focus = stays_there b;
      together = λ same. ap (adjusted event) same;
      anchor_front = front_then a;
      focus_front = front_then b;
      ordered = rises a b;
      anchor_edges = edges_then at_end a;
      focus_edges = edges_then at_end b;
    }

  texts_edit : solid_chars (spliced chars o count new) ≡ solid_chars chars → (l : ℕ) (xs : List ℕ) → content_of u.trees l ≡ Some (Words xs) → (ys : List ℕ) × (content_of t.trees l ≡ Some (Words ys)) × (solid_chars ys ≡ solid_chars xs)
  texts_edit same l xs e = elim (eqb_tells n l) [
    | inr (_, off) ↦ (xs, rewritten.others l off ∙ e, refl)
    | inl (_, at_l) ↦ (
        let is_xs : chars ≡ xs = words_same chars xs (sym text ∙ (ap (content_of u.trees) at_l ∙ e)) in
        (spliced chars o count new, subst (λ k. content_of t.trees k ≡ Some (Words (spliced chars o count new))) at_l rewritten.own, same ∙ ap solid_chars is_xs))
  ]

  solid_order_edit : solid_chars (spliced chars o count new) ≡ solid_chars chars → KeepsOrderUpToBlanks u t
  solid_order_edit same = ap (λ g. solid_leaves (tree_of g 0)) trees_t ∙ solid_replaced u.trees u.next is.forest n o count new chars text same

  hosts_edit : (l : ℕ) → is_host t.trees l ≡ is_host u.trees l
  hosts_edit l = ap (λ g. is_host g l) trees_t ∙ hosts_replaced u.trees n o count new l

  names_edit : (l : ℕ) → name_of t.trees l ≡ name_of u.trees l
  names_edit l = ap (λ g. name_of g l) trees_t ∙ names_replaced u.trees n o count new l

  settings_then : (t.overrides ≡ u.overrides) ⊎ (t.overrides ≡ no_overrides)
  unfolding edited changed with_change overrides_after
  settings_then = rw may (by (range_changed (is_before u.trees) (is_before (trees_after (Replace n o count new) u.trees)) u.points.selection (points_after (Replace n o count new) u.trees u.points).selection))
    where
      by : (v : Bool) → ((if v then no_overrides else u.overrides) ≡ u.overrides) ⊎ ((if v then no_overrides else u.overrides) ≡ no_overrides)
      by true = inr refl
      by false = inl refl

  blanked_edit : length (spliced chars o count new) ≤ length chars → (same : solid_chars (spliced chars o count new) ≡ solid_chars chars) → ((i : ℕ) → i ≤ length chars → SamePlace chars i (spliced chars o count new) (after_replacement o count (length new) i)) → after_replacement o count (length new) (length chars) ≡ length (spliced chars o count new) → Blanked u t
  blanked_edit low same places at_end = record {
    valid = valid_edited (Replace n o count new) u is;
    order = solid_order_edit same;
    moved = moved_then same places at_end;
    inside = rewritten.inside;
    hosts = hosts_edit;
    children = rewritten.children;
    parents = rewritten.parents;
    names = names_edit;
    bodies = bodies_rewritten u.trees t.trees n chars (spliced chars o count new) rewritten;
    texts = texts_edit same;
    longer = longer_rewritten u t n chars (spliced chars o count new) rewritten low;
    others = λ l none. rewritten.others l (λ e. none chars (subst (λ k. content_of u.trees k ≡ Some (Words chars)) e text));
    settings = settings_then;
  }

  own_then : is_own t n ≡ is_own u n
  unfolding is_own is_editable_for is_made acted
  own_then =
      let same = command_acted (action.Change (Replace n o count new)) u in
      let host : editing_host t.trees n ≡ editing_host u.trees n = ap (λ g. editing_host g n) trees_t ∙ host_from-replaced n o count n new false None u.trees in
      λ i. option_map_or (λ h. is_label (host i) h) (same.host i) false || nat_le (same.start i) n

-- each text has room where another text has fewer characters
room_then : (u t : State) (n : ℕ) (chars new : List ℕ) → HasRoom u → Rewritten u.trees t.trees n chars new → length new ≤ length chars → HasRoom t
room_then u t n chars new room r low l xs e = elim (eqb_tells n l) [
  | inr (_, off) ↦ room l xs (sym (r.others l off) ∙ e)
  | inl (_, same) ↦ (
      let here : Some (Words new) ≡ Some (Words xs) = sym r.own ∙ subst (λ k. content_of t.trees k ≡ Some (Words xs)) (sym same) e in
      let is : length new ≡ length xs = (let h = here in ap length (words_are new xs h)) in
      omega (arith, is, low, room n chars r.was))
]
  where
    words_are : (xs ys : List ℕ) → Some (Words xs) ≡ Some (Words ys) → xs ≡ ys
    words_are xs ys h = cc

differ : (xs ys : List ℕ) → length xs ≢ length ys → bytes_eq xs ys ≡ false
differ xs ys off = elim (cases_Bool (bytes_eq xs ys)) [
  | inl e ↦ absurd (off (ap length ((bytes_eq-Decides xs ys).0 e)))
  | inr e ↦ e
]

-- places in a text when a blank goes, and when one comes
cut_places : (o c : ℕ) (xs : List ℕ) → slice_get xs o ≡ Some c → is_blank c ≡ true → (i : ℕ) → i ≤ length xs → SamePlace xs i (spliced xs o 1 []) (after_replacement o 1 0 i)
cut_places o c xs e blank i low = subst (λ ys. SamePlace xs i ys (after_replacement o 1 0 i)) (sym (cut_is o xs)) (cut_place c o i xs e blank low)

put_places : (b o : ℕ) (xs : List ℕ) → is_blank b ≡ true → (i : ℕ) → i ≤ length xs → SamePlace xs i (spliced xs o 0 (b ∷ [])) (after_replacement o 0 1 i)
put_places b o xs blank i low = subst (λ ys. SamePlace xs i ys (after_replacement o 0 1 i)) (sym (put_is b o xs)) (put_place b o i xs blank low)

-- the end of a text stays its end
cut_end : (o l : ℕ) → o < l → after_replacement o 1 0 l + 1 ≡ l
cut_end o l low = grind (arith, nat_tests)

put_end : (o l : ℕ) → o < l → after_replacement o 0 1 l ≡ l + 1
put_end o l low = grind (arith, nat_tests)

ends_cut : (o c : ℕ) (xs : List ℕ) → slice_get xs o ≡ Some c → after_replacement o 1 0 (length xs) ≡ length (spliced xs o 1 [])
ends_cut o c xs e = (let l = ap length (cut_is o xs) in omega (arith, l, length_cut c o xs e, cut_end o (length xs) (get_low o c xs e)))

ends_put : (b o c : ℕ) (xs : List ℕ) → slice_get xs o ≡ Some c → after_replacement o 0 1 (length xs) ≡ length (spliced xs o 0 (b ∷ []))
ends_put b o c xs e = (let l = ap length (put_is b o xs) in omega (arith, l, length_put b c o xs e, put_end o (length xs) (get_low o c xs e)))

-- the character that a new one is put before comes after it
put_then : (b c o : ℕ) (xs : List ℕ) → slice_get xs o ≡ Some c → slice_get (spliced xs o 0 (b ∷ [])) (o + 1) ≡ Some c
put_then b c o xs e = rw (put_is b o xs, add-one) (by o xs e)
  where
    by : (o : ℕ) (xs : List ℕ) → slice_get xs o ≡ Some c → slice_get (put b o xs) (suc o) ≡ Some c
    by o [] e = absurd (let t = e in cc)
    by zero (x ∷ xs) e = e
    by (suc o) (x ∷ xs) e = by o xs e

-- ---- a blank is taken out

pub record CutOut (u t : State) (n o : ℕ) : Type 0 where
  pub blanked : Blanked u t
  pub room : HasRoom t
  pub trails : (x : Point) → IsWithin u.trees 0 x.label → Trail u.trees x (at n o) → Trail t.trees x (at n o)

pub cut_out : (u : State) (n o c : ℕ) → IsValid u → HasRoom u → char_at u.trees (at n o) ≡ Some c → is_blank c ≡ true → CutOut u (edited (Replace n o 1 []) u) n o
cut_out u n o c is room found blank = elim (cases_Bool (is_made_edit (Replace n o 1 []) u)) [
  | inr off ↦ subst (λ t. CutOut u t n o) (sym (edit_left (Replace n o 1 []) u off)) (record { blanked = blanked_here u is; room = room; trails = λ x here q. q })
  | inl may ↦ (
      let w = char_there u.trees n o c found in
      let t = edited (Replace n o 1 []) u in
      let r : Rewritten u.trees t.trees n w.0 (cut o w.0) = subst (λ xs. Rewritten u.trees t.trees n w.0 xs) (cut_is o w.0) (rewritten u is n o 1 [] w.0 w.1 may) in
      record {
        blanked = blanked_edit u is n o 1 [] w.0 w.1 may (let e = ap length (cut_is o w.0) in omega (arith, e, length_cut c o w.0 w.2)) (ap solid_chars (cut_is o w.0) ∙ solid_cut c o w.0 w.2 blank) (cut_places o c w.0 w.2 blank) (ends_cut o c w.0 w.2);
        room = room_then u t n w.0 (cut o w.0) room r (omega (arith, length_cut c o w.0 w.2));
        trails = λ x here q. trail_cut u.trees t.trees u.next is.forest n o w.0 r x (at n o) here q (trail_here u.trees (at n o));
      })
]

-- ---- a blank gives way to another one

pub record Swapped (u t : State) : Type 0 where
  pub blanked : Blanked u t
  pub room : HasRoom t
  pub trails : (x y : Point) → Trail u.trees x y → Trail t.trees x y

not_own_left : (u : State) (n o count : ℕ) (new : List ℕ) → is_own u n ≡ false → is_made_edit (Replace n o count new) u ≡ false
unfolding is_made_edit may_replace
not_own_left u n o count new off = rw off refl

pub own_made : (u : State) (n o count : ℕ) (new chars : List ℕ) → is_own u n ≡ true → content_of u.trees n ≡ Some (Words chars) → o + count ≤ length chars → length (spliced chars o count new) < 2 ^ 32 → length (spliced chars o count new) ≢ length chars → is_made_edit (Replace n o count new) u ≡ true
unfolding is_made_edit may_replace
own_made u n o count new chars own text reach short off =
    rw (own, text, le-leb (o + count) (length chars) reach, lt-ltb (length (spliced chars o count new)) (2 ^ 32) short, differ (spliced chars o count new) chars off) refl

pub swap_out : (u : State) (n o b c : ℕ) → IsValid u → HasRoom u → char_at u.trees (at n o) ≡ Some c → is_blank b ≡ true → is_blank c ≡ true
    → Swapped u (edited (Replace n (o + 1) 1 []) (edited (Replace n o 0 (b ∷ [])) u))
swap_out u n o b c is room found blank was = elim (cases_Bool (is_own u n)) [
  | inr off ↦ (
      let first = edit_left (Replace n o 0 (b ∷ [])) u (not_own_left u n o 0 (b ∷ []) off) in
      let second = edit_left (Replace n (o + 1) 1 []) u (not_own_left u n (o + 1) 1 [] off) in
      subst (λ t. Swapped u t) (sym (ap (edited (Replace n (o + 1) 1 [])) first ∙ second)) (record { blanked = blanked_here u is; room = room; trails = λ x y q. q }))
  | inl own ↦ (
      let w = char_there u.trees n o c found in
      let low = get_low o c w.0 w.2 in
      let long : length (spliced w.0 o 0 (b ∷ [])) ≡ length w.0 + 1 = ap length (put_is b o w.0) ∙ length_put b c o w.0 w.2 in
      let may = own_made u n o 0 (b ∷ []) w.0 own w.1 (omega (arith, low)) (omega (arith, long, room n w.0 w.1)) (λ e. omega (arith, long, e)) in
      let v = edited (Replace n o 0 (b ∷ [])) u in
      let r = rewritten u is n o 0 (b ∷ []) w.0 w.1 may in
      let is_v : IsValid v = valid_edited (Replace n o 0 (b ∷ [])) u is in
      let more = both_are b c o w.0 w.2 in
      let short : length (spliced (spliced w.0 o 0 (b ∷ [])) (o + 1) 1 []) ≡ length w.0 = ap length more ∙ length_swapped b o w.0 in
      let own' = own_then u is n o 0 (b ∷ []) w.0 w.1 may ∙ own in
      let may' = own_made v n (o + 1) 1 [] (spliced w.0 o 0 (b ∷ [])) own' r.own (omega (arith, low, long)) (omega (arith, short, room n w.0 w.1)) (λ e. omega (arith, short, long, e)) in
      let t = edited (Replace n (o + 1) 1 []) v in
      let r' = rewritten v is_v n (o + 1) 1 [] (spliced w.0 o 0 (b ∷ [])) r.own may' in
      let whole : Rewritten u.trees t.trees n w.0 (swapped b o w.0) = subst (λ xs. Rewritten u.trees t.trees n w.0 xs) more (rewritten_trans u.trees v.trees t.trees n w.0 (spliced w.0 o 0 (b ∷ [])) (spliced (spliced w.0 o 0 (b ∷ [])) (o + 1) 1 []) r r') in
      let front : solid_chars (spliced w.0 o 0 (b ∷ [])) ≡ solid_chars w.0 = ap solid_chars (put_is b o w.0) ∙ solid_put b o w.0 blank in
      let back : solid_chars (spliced (spliced w.0 o 0 (b ∷ [])) (o + 1) 1 []) ≡ solid_chars (spliced w.0 o 0 (b ∷ [])) =
      ap solid_chars more ∙ (swapped_solid w.0 w.2 ∙ sym front) in
      let second = blanked_edit v is_v n (o + 1) 1 [] (spliced w.0 o 0 (b ∷ [])) r.own may' (omega (arith, short, long)) back (cut_places (o + 1) c (spliced w.0 o 0 (b ∷ [])) (put_then b c o w.0 w.2) was) (ends_cut (o + 1) c (spliced w.0 o 0 (b ∷ [])) (put_then b c o w.0 w.2)) in
      record {
        blanked = record {
          valid = second.valid;
          order = second.order ∙ solid_order_edit u is n o 0 (b ∷ []) w.0 w.1 may front;
          moved = λ a z e. (let m = moved_then u is n o 0 (b ∷ []) w.0 w.1 may front (put_places b o w.0 blank) (ends_put b o c w.0 w.2) a z e in moved_trans u v t a z m (second.moved m.anchor m.focus m.selects));
          inside = λ l i. second.inside l (r.inside l i);
          hosts = λ l. second.hosts l ∙ hosts_edit u is n o 0 (b ∷ []) w.0 w.1 may l;
          children = λ l. second.children l ∙ r.children l;
          parents = λ l. second.parents l ∙ r.parents l;
          texts = λ l xs e. (
              let m = texts_edit u is n o 0 (b ∷ []) w.0 w.1 may front l xs e in
              let k = second.texts l m.0 m.1 in
              (k.0, k.1, k.2 ∙ m.2));
          names = λ l. second.names l ∙ names_edit u is n o 0 (b ∷ []) w.0 w.1 may l;
          bodies = bodies_rewritten u.trees t.trees n w.0 (swapped b o w.0) whole;
          longer = longer_rewritten u t n w.0 (swapped b o w.0) whole (omega (arith, length_swapped b o w.0));
          others = λ l none. whole.others l (λ e. none w.0 (subst (λ k. content_of u.trees k ≡ Some (Words w.0)) e whole.was));
          settings = settings_both u v t (settings_then u is n o 0 (b ∷ []) w.0 w.1 may) second.settings;
        };
        room = room_then u t n w.0 (swapped b o w.0) room whole (omega (arith, length_swapped b o w.0));
        trails = λ x y q. trail_swapped u.trees t.trees n o b w.0 blank whole x y q;
      })
]
  where
    swapped_solid : (xs : List ℕ) → slice_get xs o ≡ Some c → solid_chars (swapped b o xs) ≡ solid_chars xs
    swapped_solid xs e = solid_swapped b c o xs e blank was
