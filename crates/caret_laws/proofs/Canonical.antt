-- Canonicalizing whitespace takes out and puts in blanks alone: what it scans is a trail over blanks, what it trims is
-- the trail's end, and what it lays follows the trail.
use Rattle.std.proofs.Common.{◌≡◌, ◌⊎◌, ℕ, zero, suc, ◌+◌, ◌-◌, Bool, true, false, ◌||◌, ◌&&◌, not, eqb, if◌then◌else◌, List, [], ◌∷◌, length, Option, Some, None, refl, sym, ap, subst, ◌∙◌, inl, inr, arith, add-one, true≢false}
use Rattle.std.specs.Prelude.{slice_get, nat_lt}
use Rattle.std.specs.Option.{option_map, option_map_or}
use Rattle.std.proofs.lemmas.Bool.{and_parts}
use Rattle.std.proofs.lemmas.Bool.Decides.{eqb_tells}
use Rattle.edit_model.specs.DomModel.declared.Content.{Content}
use Rattle.edit_model.specs.DomModel.declared.Content.TheVariants.{Words}
use Rattle.edit_model.specs.DomModel.Contents.{may_have_children, length_in, length_of}
use Rattle.edit_model.specs.DomModel.Forest.{Forest, Seen, seek, either, is_label, parent_of, children_of, content_of, IsWithin}
use Rattle.edit_model.specs.DomModel.Places.{index_of}
use Rattle.edit_model.specs.LiveRange.declared.places.Point.{Point}
use Rattle.edit_model.specs.PointOrder.PointOrder.{is_before}
use Rattle.inline_value.specs.NodeTests.BlockPoints.{child_before, child_at}
use Rattle.inline_value.specs.NodeTests.LineBreaks.{follows_break, precedes_break}
use Rattle.edit_model.specs.State.{State}
use Rattle.edit_model.specs.Confined.{is_inside, is_there}
use Rattle.edit_model.specs.Action.{Action, made, words_content, acted}
use Rattle.edit_model.specs.Edit.{Edit, Replace, is_made_edit, edited}
use Rattle.edit_model.specs.Run.{Run, ◌>>=◌, ◌>>◌, act, final, value, answer, done, look, given, while_at_most, edit, replace, make_words, perform}
use Rattle.edit_model.specs.Valid.{IsForest, IsValid}
use Rattle.edit_model.proofs.Documents.{within_above, within_below, index_below}
use Rattle.inline_value.specs.WrapSplit.Walks.{turn_bound}
use Rattle.delete_core.specs.Places.{at, start_in, end_in, before_in, after_in, after_node, if_inside, comes_before, led_on, walk_points}
use Rattle.delete_core.specs.Spaces.{soft, is_blank, hard_if, canonical_spaces}
use Rattle.delete_core.specs.Whitespace.{char_at, char_before, is_collapsing, blank_in, blank_at, blank_before, into_child_before, into_child_at, out_to_start, out_to_end, back_step, out_back, over_blank, start_of_blanks, first_scan, stopped, taken_to, passed, out_on, on_step, scan_blank, scan_char, scan_turn, scans, scan_blanks, out_front, trim_step, ends_softly, starts_line, ends_line, shrunk, trim_char, trim_turn, trims, restarted, trimmed, trimmed_if, spaces_for, put_space, next_laid, gone_to, lay_char, lay_out, lay_text, lay_turn, lays, lay_all, laid_between, canonicalize_from, canonicalize}
use Rattle.caret_laws.specs.SolidOrder.{HasRoom}
use Rattle.caret_laws.proofs.Blanks.{Blanked, blanked_here, blanked_trans, char_there, cut_out, swap_out}
use Rattle.caret_laws.proofs.Solid.{get_low}
use Rattle.caret_laws.proofs.Trails.{own_index, index_is, not_itself, Over, Step, into, over, out, Trail, stop, on, trail_here, trail_first}

-- ---- the types of what the loops carry, which the crate of deletion keeps to itself

abbrev domain : {A B : Type 0} → (A → B) → Type 0
domain {A = A} f = A

abbrev Scan : Type 0
Scan = domain stopped

abbrev Laid : Type 0
Laid = domain next_laid

-- ---- where runs end

module _ {T : Type 0} where
  -- what a run ends in, and what it answers
  abbrev pub Ends : Run T → State → (State → T → Type 0) → Type 0
  Ends m s P = P (final m s) (value m s)

pub ends_answer : {T : Type 0} (a : T) (s : State) (P : State → T → Type 0) → P s a → Ends (answer a) s P
unfolding final value answer
ends_answer a s P h = h

pub ends_look : {T : Type 0} (k : State → Run T) (s : State) (P : State → T → Type 0) → Ends (k s) s P → Ends (look k) s P
unfolding final value look
ends_look k s P h = h

pub ends_bind : {T U : Type 0} (m : Run T) (k : T → Run U) (s : State) (P : State → U → Type 0) → Ends (k (value m s)) (final m s) P → Ends (m >>= k) s P
unfolding final value ◌>>=◌
ends_bind m k s P h = h

pub ends_edit : (e : Edit) (s : State) (P : State → Bool → Type 0) → P (edited e s) (is_made_edit e s) → Ends (edit e) s P
unfolding final value edit act acted
ends_edit e s P h = h

pub ends_perform : (a : Action) (s : State) (P : State → Unit {0} → Type 0) → P (acted a s) tt → Ends (perform a) s P
unfolding final value perform act
ends_perform a s P h = h

pub ends_words : (chars : List ℕ) (s : State) (P : State → ℕ → Type 0) → P (made (words_content chars) s) s.next → Ends (make_words chars) s P
unfolding final value make_words act acted
ends_words chars s P h = h

pub ends_while : {T : Type 0} (n : ℕ) (test : State → T → Bool) (body : T → Run T) (P : State → T → Type 0) → ((t : State) (b : T) → P t b → test t b ≡ true → Ends (body b) t P) → (a : T) (s : State) → P s a → Ends (while_at_most n test body a) s P
unfolding while_at_most
ends_while zero test body P turn a s h = ends_answer a s P h
ends_while (suc n) test body P turn a s h =
    ends_look (λ u. if test u a then (body a >>= while_at_most n test body) else answer a) s P (by (λ b t k. ends_while n test body P turn b t k) (test s a) refl)
  where
    by : ((b : _) (t : State) → P t b → Ends (while_at_most n test body b) t P) → (v : Bool) → test s a ≡ v → Ends (if v then (body a >>= while_at_most n test body) else answer a) s P
    by more false e = ends_answer a s P h
    by more true e = ends_bind (body a) (while_at_most n test body) s P (more (value (body a) s) (final (body a) s) (turn s a h e))

-- ---- options

pub mapped_is : {A B : Type 0} (g : A → B) (o : Option A) (b : B) → option_map g o ≡ Some b → (a : A) × (o ≡ Some a) × (b ≡ g a)
mapped_is g None b e = absurd (let t : None ≡ Some b = e in cc)
mapped_is g (Some a) b e = (a, refl, (let t : Some (g a) ≡ Some b = e in cc))

pub either_is : {A : Type 0} (o p : Option A) (x : A) → either o p ≡ Some x → (o ≡ Some x) ⊎ (p ≡ Some x)
either_is None p x e = inr e
either_is (Some y) p x e = inl e

pub chosen_is : {A : Type 0} (v : Bool) (o : Option A) (x : A) → (if v then o else None) ≡ Some x → (v ≡ true) × (o ≡ Some x)
chosen_is true o x e = (refl, e)
chosen_is false o x e = absurd (let t : None ≡ Some x = e in cc)

inside_is : (s : State) (o : Option ℕ) (k : ℕ) → if_inside s o ≡ Some k → o ≡ Some k
inside_is s None k e = e
inside_is s (Some l) k e = (chosen_is (is_inside s l) (Some l) k e).1

pub same_number : (m n : ℕ) → eqb m n ≡ true → m ≡ n
same_number m n e = elim (eqb_tells m n) [ inl (_, is) ↦ is | inr (f, _) ↦ absurd (true≢false (sym e ∙ f)) ]

-- ---- nodes

module _ (f : Forest Content) (next : ℕ) (law : IsForest f next) where
  pub no_children : (l : ℕ) (chars : List ℕ) → content_of f l ≡ Some (Words chars) → children_of f l ≡ []
  no_children l chars text = by (seek None f l) refl text
    where
      by : (o : Option (Seen Content)) → seek None f l ≡ o → option_map (λ (r : Seen Content). r.content) o ≡ Some (Words chars) → option_map_or (λ (r : Seen Content). r.children) o [] ≡ []
      by None e h = refl
      by (Some r) e h = (law.nodes l r e).leaf (let is : r.content ≡ Words chars = (let t : Some r.content ≡ Some (Words chars) = h in cc) in ap may_have_children is)

  -- beside a character no child stands
  pub no_child_at : (l o i c k : ℕ) → char_at f (at l o) ≡ Some c → child_at f l i ≡ Some k → ⊥
  no_child_at l o i c k found child =
      let w = char_there f l o c found in
      let none = ap (λ ks. slice_get ks i) (no_children l w.0 w.1) in
      let t : None ≡ Some k = sym none ∙ child in
      cc

  -- at the end of a node stands no child and no character
  pub no_child_end : (l o k : ℕ) → o ≡ length_of f l → child_at f l o ≡ Some k → ⊥
  no_child_end l o k end child =
      let c = index_is f law.distinct l k o child in
      omega (arith, index_below f next law l k c.0, c.1, end)

  pub no_char_end : (l o c : ℕ) → o ≡ length_of f l → char_at f (at l o) ≡ Some c → ⊥
  no_char_end l o c end found =
      let w = char_there f l o c found in
      let long : length_of f l ≡ length w.0 = ap (λ (k : Option Content). option_map_or (λ d. length_in d (children_of f l)) k 0) w.1 in
      omega (arith, long, end, get_low o c w.0 w.2)

  child_next : (l o k : ℕ) → child_before f l (o + 1) ≡ Some k → child_at f l o ≡ Some k
  child_next l o k e = let t = rw add-one at e in t

  char_next : (l o c : ℕ) → char_before f (at l (o + 1)) ≡ Some c → char_at f (at l o) ≡ Some c
  unfolding char_before char_at
  char_next l o c e = let t = rw add-one at e in t

  -- a child or a character before an offset, which isn't 0
  pub child_apart : (l o k : ℕ) → child_before f l o ≡ Some k → (i : ℕ) × (o ≡ i + 1) × (child_at f l i ≡ Some k)
  child_apart l zero k e = absurd (let t : None ≡ Some k = e in cc)
  child_apart l (suc i) k e = (i, sym (add-one i), e)

  char_apart : (l o c : ℕ) → char_before f (at l o) ≡ Some c → (i : ℕ) × (o ≡ i + 1) × (char_at f (at l i) ≡ Some c)
  unfolding char_before char_at
  char_apart l zero c e = absurd (let t : None ≡ Some c = e in cc)
  char_apart l (suc i) c e = (i, sym (add-one i), e)

blank_parts : (f : Forest Content) (l c : ℕ) (o : Option ℕ) → blank_in f l o ≡ Some c → (o ≡ Some c) × (is_blank c ≡ true)
blank_parts f l c None e = absurd (let t : None ≡ Some c = e in cc)
blank_parts f l c (Some d) e =
    let h = chosen_is (is_blank d && is_collapsing f (parent_of f l)) (Some d) c e in
    let is : d ≡ c = (let t = h.1 in cc) in
    (h.1, subst (λ x. is_blank x ≡ true) is (and_parts (is_blank d) (is_collapsing f (parent_of f l)) h.0).0)

-- ---- steps on

into_step : (s : State) (x y : Point) → into_child_at s x ≡ Some y → Step s.trees x y
unfolding into_child_at
into_step s x y e =
    let m = mapped_is start_in (if_inside s (child_at s.trees x.label x.offset)) y e in
    into (record { child = m.0; stands = inside_is s (child_at s.trees x.label x.offset) m.0 m.1; there = m.2 })

out_step : (s : State) (x y : Point) → out_on s x ≡ Some y → Step s.trees x y
unfolding out_on out_to_end
out_step s x y e =
    let h = chosen_is (eqb x.offset (length_of s.trees x.label) && not (precedes_break s.trees x.label)) (after_in s.trees x.label (if_inside s (parent_of s.trees x.label))) y e in
    let m = mapped_is (λ p. at p (index_of s.trees x.label + 1)) (if_inside s (parent_of s.trees x.label)) y h.1 in
    out (record {
      parent = m.0;
      child = inside_is s (parent_of s.trees x.label) m.0 m.1;
      end = same_number x.offset (length_of s.trees x.label) (and_parts (eqb x.offset (length_of s.trees x.label)) (not (precedes_break s.trees x.label)) h.0).0;
      there = m.2;
    })

on_is : (s : State) (x y : Point) → on_step s x ≡ Some y → Step s.trees x y
unfolding on_step
on_is s x y e = elim (either_is (into_child_at s x) (out_on s x) y e) [ inl h ↦ into_step s x y h | inr h ↦ out_step s x y h ]

-- blanks alone have come or gone, and each text has room
pub record Settled (u t : State) : Type 0 where
  pub blanked : Blanked u t
  pub room : HasRoom t

-- ---- a walk over blanks from p has come to x

module _ (u : State) (p : Point) (here : IsWithin u.trees 0 p.label) where
  record Way (t : State) (x : Point) : Type 0 where
    blanked : Blanked u t
    room : HasRoom t
    trail : Trail t.trees p x

  way_on : (t : State) (x y : Point) → Way t x → Step t.trees x y → Way t y
  way_on t x y w s = record { blanked = w.blanked; room = w.room; trail = on x w.trail s }

  way_cut : (t : State) (l o c : ℕ) → Way t (at l o) → char_at t.trees (at l o) ≡ Some c → is_blank c ≡ true → Way (edited (Replace l o 1 []) t) (at l o)
  way_cut t l o c w found blank =
      let k = cut_out t l o c w.blanked.valid w.room found blank in
      record {
        blanked = blanked_trans u t (edited (Replace l o 1 []) t) w.blanked k.blanked;
        room = k.room;
        trail = k.trails p (w.blanked.inside p.label here) w.trail;
      }

  -- ---- scanning

  blank_turn : (fix : Bool) (a : Scan) (c : ℕ) (t : State) → Way t a.end → char_at t.trees a.end ≡ Some c → is_blank c ≡ true → Ends (scan_blank fix a c) t (λ v b. Way v b.end)
  unfolding scan_blank
  blank_turn fix a c t w found blank = by (fix && (a.after_soft && eqb c soft))
    where
      by : (v : Bool) → Ends (if v then (replace a.end.label a.end.offset 1 [] >> answer a) else answer (passed a c)) t (λ s b. Way s b.end)
      by true =
          ends_bind (replace a.end.label a.end.offset 1 []) (λ _. answer a) t (λ s b. Way s b.end)
          (ends_edit (Replace a.end.label a.end.offset 1 []) t (λ s _. Ends (answer a) s (λ s b. Way s b.end))
          (ends_answer a (edited (Replace a.end.label a.end.offset 1 []) t) (λ s b. Way s b.end) (way_cut t a.end.label a.end.offset c w found blank)))
      by false = ends_answer (passed a c) t (λ s b. Way s b.end) (way_on t a.end (at a.end.label (a.end.offset + 1)) w (over (record { char = c; stands = found; blank = blank; there = refl })))

  char_turn : (fix : Bool) (a : Scan) (t : State) → Way t a.end → Ends (scan_char fix a) t (λ s b. Way s b.end)
  unfolding scan_char blank_at
  char_turn fix a t w = ends_look (λ s. given (blank_in s.trees a.end.label (char_at s.trees a.end)) (answer (stopped a)) (scan_blank fix a)) t (λ s b. Way s b.end) (by (blank_in t.trees a.end.label (char_at t.trees a.end)) refl)
    where
      by : (o : Option ℕ) → blank_in t.trees a.end.label (char_at t.trees a.end) ≡ o → Ends (given o (answer (stopped a)) (scan_blank fix a)) t (λ s b. Way s b.end)
      by None e = ends_answer (stopped a) t (λ s b. Way s b.end) w
      by (Some c) e = (let k = blank_parts t.trees a.end.label c (char_at t.trees a.end) e in blank_turn fix a c t w k.0 k.1)

  turn_scanned : (fix : Bool) (a : Scan) (t : State) → Way t a.end → Ends (scan_turn fix a) t (λ s b. Way s b.end)
  unfolding scan_turn
  turn_scanned fix a t w = ends_look (λ s. given (on_step s a.end) (scan_char fix a) λ q. answer (taken_to a q)) t (λ s b. Way s b.end) (by (on_step t a.end) refl)
    where
      by : (o : Option Point) → on_step t a.end ≡ o → Ends (given o (scan_char fix a) λ q. answer (taken_to a q)) t (λ s b. Way s b.end)
      by None e = char_turn fix a t w
      by (Some q) e = ends_answer (taken_to a q) t (λ s b. Way s b.end) (way_on t a.end q w (on_is t a.end q e))

  scanned : (fix : Bool) (t : State) → Way t p → Ends (scan_blanks fix p) t (λ s b. Way s b.end)
  unfolding scan_blanks first_scan
  scanned fix t w =
      ends_look (λ s. while_at_most (turn_bound s) scans (scan_turn fix) (first_scan s p)) t (λ s b. Way s b.end)
      (ends_while (turn_bound t) scans (scan_turn fix) (λ s b. Way s b.end) (λ s b w' _. turn_scanned fix b s w') (first_scan t p) t w)

  -- ---- trimming

  comes_parts : (f : Forest Content) (x y : Point) → comes_before f x y ≡ true → is_before f x y ≡ true
  unfolding comes_before
  comes_parts f x y e = (and_parts (is_there f y.label) (is_before f x y) (and_parts (is_there f x.label) (is_there f y.label && is_before f x y) e).1).1

  -- a point that another one comes before isn't that one
  apart_from : (f : Forest Content) (x y : Point) → comes_before f x y ≡ true → x ≡ y → ⊥
  apart_from f x y e same = true≢false (sym (subst (λ z. is_before f x z ≡ true) (sym same) (comes_parts f x y e)) ∙ not_itself f x)

  -- the last step
  record Last (t : State) (x : Point) : Type 0 where
    from : Point
    way : Way t from
    step : Step t.trees from x

  last_step : (t : State) (x : Point) → Way t x → (p ≡ x → ⊥) → Last t x
  last_step t x w off = by x w w.trail off
    where
      by : (x : Point) → Way t x → Trail t.trees p x → (p ≡ x → ⊥) → Last t x
      by x w (stop e) off = absurd (off e)
      by x w (on z q s) off = record { from = z; way = record { blanked = w.blanked; room = w.room; trail = q }; step = s }

  -- a step back in front of which no character goes is the last step's beginning
  back_before : (t : State) (law : IsForest t.trees t.next) (z x y : Point) → Step t.trees z x → into_child_before t x ≡ Some y → z ≡ y
  unfolding into_child_before
  back_before t law z x y step e =
      let m = mapped_is (end_in t.trees) (if_inside t (child_before t.trees x.label x.offset)) y e in
      let k = inside_is t (child_before t.trees x.label x.offset) m.0 m.1 in
      by step m.0 k m.2
    where
      by : Step t.trees z x → (k : ℕ) → child_before t.trees x.label x.offset ≡ Some k → y ≡ at k (length_of t.trees k) → z ≡ y
      by (into s) k found is = absurd (let t' : None ≡ Some k = subst (λ v. child_before t.trees v.label v.offset ≡ Some k) s.there found in cc)
      by (over s) k found is =
          let found' : child_before t.trees z.label (z.offset + 1) ≡ Some k = subst (λ v. child_before t.trees v.label v.offset ≡ Some k) s.there found in
          absurd (no_child_at t.trees t.next law z.label z.offset z.offset s.char k s.stands (child_next t.trees t.next law z.label z.offset k found'))
      by (out s) k found is =
          let found' : child_before t.trees s.parent (index_of t.trees z.label + 1) ≡ Some k = subst (λ v. child_before t.trees v.label v.offset ≡ Some k) s.there found in
          let own = own_index t.trees law.distinct z.label s.parent s.child in
          let same : z.label ≡ k = (let a : Some z.label ≡ Some k = sym own ∙ child_next t.trees t.next law s.parent (index_of t.trees z.label) k found' in cc) in
          ap (at z.label) s.end ∙ (ap (λ l. at l (length_of t.trees l)) same ∙ sym is)

  back_front : (t : State) (law : IsForest t.trees t.next) (z x y : Point) → Step t.trees z x → out_front t x ≡ Some y → z ≡ y
  unfolding out_front out_to_start
  back_front t law z x y step e =
      let h = chosen_is (eqb x.offset 0) (before_in t.trees x.label (if_inside t (parent_of t.trees x.label))) y e in
      let m = mapped_is (λ q. at q (index_of t.trees x.label)) (if_inside t (parent_of t.trees x.label)) y h.1 in
      by step m.0 (same_number x.offset 0 h.0) (inside_is t (parent_of t.trees x.label) m.0 m.1) m.2
    where
      by : Step t.trees z x → (q : ℕ) → x.offset ≡ 0 → parent_of t.trees x.label ≡ Some q → y ≡ at q (index_of t.trees x.label) → z ≡ y
      by (into s) q first up is =
          let c = index_is t.trees law.distinct z.label s.child z.offset s.stands in
          let up' : parent_of t.trees s.child ≡ Some q = subst (λ v. parent_of t.trees v.label ≡ Some q) s.there up in
          let same : z.label ≡ q = (let a : Some z.label ≡ Some q = sym c.0 ∙ up' in cc) in
          let is' : y ≡ at q (index_of t.trees s.child) = is ∙ ap (λ v. at q (index_of t.trees v.label)) s.there in
          ap (at z.label) (sym c.1) ∙ (ap (λ l. at l (index_of t.trees s.child)) same ∙ sym is')
      by (over s) q first up is = absurd (let e' = ap (λ v. v.offset) s.there in omega (arith, e', first))
      by (out s) q first up is = absurd (let e' = ap (λ v. v.offset) s.there in omega (arith, e', first))

  back_is : (t : State) (law : IsForest t.trees t.next) (z x y : Point) → Step t.trees z x → trim_step t x ≡ Some y → z ≡ y
  unfolding trim_step
  back_is t law z x y step e = elim (either_is (into_child_before t x) (out_front t x) y e) [ inl h ↦ back_before t law z x y step h | inr h ↦ back_front t law z x y step h ]

  -- before a character that goes the last step passed it
  soft_before : (t : State) (z x : Point) → Step t.trees z x → (law : IsForest t.trees t.next) → ends_softly t x ≡ true → Over t.trees z x
  unfolding ends_softly blank_before
  soft_before t z x step law e = by step (label_some (blank_in t.trees x.label (char_before t.trees x)) (and_parts (is_label (blank_in t.trees x.label (char_before t.trees x)) soft) (ends_line t.trees x) e).0)
    where
      label_some : (o : Option ℕ) → is_label o soft ≡ true → o ≡ Some soft
      label_some None h = absurd (true≢false (sym h))
      label_some (Some c) h = ap Some (same_number c soft h)

      by : Step t.trees z x → blank_in t.trees x.label (char_before t.trees x) ≡ Some soft → Over t.trees z x
      by (over s) h = s
      by (into s) h =
          let k = blank_parts t.trees x.label soft (char_before t.trees x) h in
          let c = char_apart t.trees t.next law x.label x.offset soft k.0 in
          absurd (let e' = ap (λ v. v.offset) s.there in omega (arith, e', c.1))
      by (out s) h =
          let k = blank_parts t.trees x.label soft (char_before t.trees x) h in
          let c = char_apart t.trees t.next law x.label x.offset soft k.0 in
          let same : x.label ≡ s.parent = ap (λ v. v.label) s.there in
          let own : child_at t.trees x.label (index_of t.trees z.label) ≡ Some z.label = subst (λ l. child_at t.trees l (index_of t.trees z.label) ≡ Some z.label) (sym same) (own_index t.trees law.distinct z.label s.parent s.child) in
          absurd (no_child_at t.trees t.next law x.label c.0 (index_of t.trees z.label) soft z.label c.2 own)

  char_trimmed : (a : Scan) (t : State) → Last t a.end → Way t a.end → Ends (trim_char a) t (λ s b. Way s b.end)
  unfolding trim_char
  char_trimmed a t last w =
      ends_look (λ s. if ends_softly s a.end then (replace a.end.label (a.end.offset - 1) 1 [] >> answer (shrunk a)) else answer (stopped a)) t (λ s b. Way s b.end) (by (ends_softly t a.end) refl)
    where
      by : (v : Bool) → ends_softly t a.end ≡ v → Ends (if v then (replace a.end.label (a.end.offset - 1) 1 [] >> answer (shrunk a)) else answer (stopped a)) t (λ s b. Way s b.end)
      by false e = ends_answer (stopped a) t (λ s b. Way s b.end) w
      by true e =
          let s = soft_before t last.from a.end last.step last.way.blanked.valid.forest e in
          let back : last.from ≡ at a.end.label (a.end.offset - 1) =
          (let same : last.from.label ≡ a.end.label = sym (ap (λ v. v.label) s.there) in
          let less : last.from.offset ≡ a.end.offset - 1 = (let e' = ap (λ v. v.offset) s.there in omega (arith, e')) in
          ap (λ l. at l last.from.offset) same ∙ ap (at a.end.label) less) in
          let way : Way t (at a.end.label (a.end.offset - 1)) = subst (λ v. Way t v) back last.way in
          let found : char_at t.trees (at a.end.label (a.end.offset - 1)) ≡ Some s.char = subst (λ v. char_at t.trees v ≡ Some s.char) back s.stands in
          ends_bind (replace a.end.label (a.end.offset - 1) 1 []) (λ _. answer (shrunk a)) t (λ s b. Way s b.end)
          (ends_edit (Replace a.end.label (a.end.offset - 1) 1 []) t (λ s _. Ends (answer (shrunk a)) s (λ s b. Way s b.end))
          (ends_answer (shrunk a) (edited (Replace a.end.label (a.end.offset - 1) 1 []) t) (λ s b. Way s b.end) (way_cut t a.end.label (a.end.offset - 1) s.char way found s.blank)))

  turn_trimmed : (a : Scan) (t : State) → Way t a.end → trims p t a ≡ true → Ends (trim_turn a) t (λ s b. Way s b.end)
  unfolding trim_turn trims
  turn_trimmed a t w e =
      ends_look (λ s. given (trim_step s a.end) (trim_char a) λ q. answer (taken_to a q)) t (λ s b. Way s b.end) (by (trim_step t a.end) refl)
    where
      last : Last t a.end
      last = last_step t a.end w (apart_from t.trees p a.end (and_parts a.going (comes_before t.trees p a.end) e).1)

      by : (o : Option Point) → trim_step t a.end ≡ o → Ends (given o (trim_char a) λ q. answer (taken_to a q)) t (λ s b. Way s b.end)
      by None h = char_trimmed a t last w
      by (Some q) h = ends_answer (taken_to a q) t (λ s b. Way s b.end) (subst (λ v. Way t v) (back_is t w.blanked.valid.forest last.from a.end q last.step h) last.way)

  trimmed_way : (a : Scan) (t : State) → Way t a.end → Ends (trimmed p a) t (λ s b. Way s b.end)
  unfolding trimmed
  trimmed_way a t w =
      ends_look (λ s. while_at_most (turn_bound s) (trims p) trim_turn (restarted a)) t (λ s b. Way s b.end)
      (ends_while (turn_bound t) (trims p) trim_turn (λ s b. Way s b.end) (λ s b w' e. turn_trimmed b s w' e) (restarted a) t w)

  trimmed_if_way : (fix : Bool) (a : Scan) (t : State) → Way t a.end → Ends (trimmed_if fix p a) t (λ s b. Way s b.end)
  unfolding trimmed_if
  trimmed_if_way true a t w = trimmed_way a t w
  trimmed_if_way false a t w = ends_answer a t (λ s b. Way s b.end) w

  -- ---- laying

  -- what is left to lay is a trail to x
  record Left (t : State) (place x : Point) : Type 0 where
    blanked : Blanked u t
    room : HasRoom t
    trail : Trail t.trees place x

  abbrev AllBlank : List ℕ → Type 0
  AllBlank [] = Unit {0}
  AllBlank (c ∷ cs) = (is_blank c ≡ true) × AllBlank cs

  blank_there : (cs : List ℕ) (i c : ℕ) → AllBlank cs → slice_get cs i ≡ Some c → is_blank c ≡ true
  blank_there [] i c all e = absurd (let t : None ≡ Some c = e in cc)
  blank_there (d ∷ cs) zero c all e = (let is : d ≡ c = (let t : Some d ≡ Some c = e in cc) in subst (λ x. is_blank x ≡ true) is all.0)
  blank_there (d ∷ cs) (suc i) c all e = blank_there cs i c all.1 e

  hard_blank : (v : Bool) → is_blank (hard_if v) ≡ true
  hard_blank true = refl
  hard_blank false = refl

  canonical_blank : (n : ℕ) (start end : Bool) → AllBlank (canonical_spaces n start end)
  unfolding canonical_spaces
  canonical_blank zero start end = tt
  canonical_blank (suc zero) start end = (hard_blank (start || end), tt)
  canonical_blank (suc (suc zero)) start end = (hard_blank (start || not end), (hard_blank end, tt))
  canonical_blank (suc (suc (suc zero))) start end = (hard_blank start, (hard_blank (not (start && end)), (hard_blank end, tt)))
  canonical_blank (suc (suc (suc (suc n)))) start end = (hard_blank start, (hard_blank (not start), canonical_blank (suc (suc n)) start end))

  module _ (spaces : List ℕ) (all : AllBlank spaces) (x : Point) where
    first_of : (t : State) (place : Point) → Left t place x → (place ≡ x → ⊥) → (y : Point) × Step t.trees place y × Trail t.trees y x
    first_of t place w off = elim (trail_first t.trees place x w.trail) [ inl e ↦ absurd (off e) | inr first ↦ first ]

    char_laid : (a : Laid) (c : ℕ) (t : State) → Left t a.place x → is_blank c ≡ true → char_at t.trees a.place ≡ Some c → Trail t.trees (at a.place.label (a.place.offset + 1)) x → Ends (lay_char spaces a c) t (λ s b. Left s b.place x)
    unfolding lay_char put_space
    char_laid a c t w blank found rest = by (slice_get spaces a.laid) refl
      where
        later : Left t (at a.place.label (a.place.offset + 1)) x
        later = record { blanked = w.blanked; room = w.room; trail = rest }

        put : (space : ℕ) → is_blank space ≡ true → (v : Bool) → Ends ((if v then done else (replace a.place.label a.place.offset 0 (space ∷ []) >> (replace a.place.label (a.place.offset + 1) 1 [] >> done))) >> answer (next_laid a)) t (λ s b. Left s b.place x)
        put space b true =
            ends_bind done (λ _. answer (next_laid a)) t (λ s b. Left s b.place x)
            (ends_answer tt t (λ s _. Ends (answer (next_laid a)) s (λ s b. Left s b.place x)) (ends_answer (next_laid a) t (λ s b. Left s b.place x) later))
        put space b false =
            let l = a.place.label in
            let o = a.place.offset in
            let first = edited (Replace l o 0 (space ∷ [])) t in
            let second = edited (Replace l (o + 1) 1 []) first in
            let k = swap_out t l o space c w.blanked.valid w.room found b blank in
            let left : Left second (at l (o + 1)) x = record { blanked = blanked_trans u t second w.blanked k.blanked; room = k.room; trail = k.trails (at l (o + 1)) x rest } in
            ends_bind (replace l o 0 (space ∷ []) >> (replace l (o + 1) 1 [] >> done)) (λ _. answer (next_laid a)) t (λ s b. Left s b.place x)
            (ends_bind (replace l o 0 (space ∷ [])) (λ _. replace l (o + 1) 1 [] >> done) t (λ s _. Ends (answer (next_laid a)) s (λ s b. Left s b.place x))
            (ends_edit (Replace l o 0 (space ∷ [])) t (λ s _. Ends (replace l (o + 1) 1 [] >> done) s (λ s _. Ends (answer (next_laid a)) s (λ s b. Left s b.place x)))
            (ends_bind (replace l (o + 1) 1 []) (λ _. done) first (λ s _. Ends (answer (next_laid a)) s (λ s b. Left s b.place x))
            (ends_edit (Replace l (o + 1) 1 []) first (λ s _. Ends done s (λ s _. Ends (answer (next_laid a)) s (λ s b. Left s b.place x)))
            (ends_answer tt second (λ s _. Ends (answer (next_laid a)) s (λ s b. Left s b.place x))
            (ends_answer (next_laid a) second (λ s b. Left s b.place x) left))))))

        by : (o : Option ℕ) → slice_get spaces a.laid ≡ o → Ends (given o (answer a) λ space. (if eqb c space then done else (replace a.place.label a.place.offset 0 (space ∷ []) >> (replace a.place.label (a.place.offset + 1) 1 [] >> done))) >> answer (next_laid a)) t (λ s b. Left s b.place x)
        by None e = ends_answer a t (λ s b. Left s b.place x) w
        by (Some space) e = put space (blank_there spaces a.laid space all e) (eqb c space)

    out_laid : (a : Laid) (t : State) → Left t a.place x → (y : Point) → Step t.trees a.place y → Trail t.trees y x → (child_at t.trees a.place.label a.place.offset ≡ None) → (char_at t.trees a.place ≡ None) → Ends (lay_out a) t (λ s b. Left s b.place x)
    unfolding lay_out after_node
    out_laid a t w y step rest no_child no_char =
        ends_look (λ s. given (after_in s.trees a.place.label (parent_of s.trees a.place.label)) (answer a) λ q. answer (gone_to a q)) t (λ s b. Left s b.place x) (by step)
      where
        by : Step t.trees a.place y → Ends (given (after_in t.trees a.place.label (parent_of t.trees a.place.label)) (answer a) λ q. answer (gone_to a q)) t (λ s b. Left s b.place x)
        by (into s) = absurd (let k : None ≡ Some s.child = sym no_child ∙ s.stands in cc)
        by (over s) = absurd (let k : None ≡ Some s.char = sym no_char ∙ s.stands in cc)
        by (out s) =
            let q = at s.parent (index_of t.trees a.place.label + 1) in
            subst (λ o. Ends (given (after_in t.trees a.place.label o) (answer a) λ r. answer (gone_to a r)) t (λ s b. Left s b.place x)) (sym s.child)
            (ends_answer (gone_to a q) t (λ s b. Left s b.place x) (record { blanked = w.blanked; room = w.room; trail = subst (λ v. Trail t.trees v x) s.there rest }))

    text_laid : (a : Laid) (t : State) → Left t a.place x → (y : Point) → Step t.trees a.place y → Trail t.trees y x → child_at t.trees a.place.label a.place.offset ≡ None → Ends (lay_text spaces a) t (λ s b. Left s b.place x)
    unfolding lay_text
    text_laid a t w y step rest no_child =
        ends_look (λ s. given (char_at s.trees a.place) (lay_out a) (lay_char spaces a)) t (λ s b. Left s b.place x) (by (char_at t.trees a.place) refl)
      where
        passing : (c : ℕ) → char_at t.trees a.place ≡ Some c → Step t.trees a.place y → Ends (lay_char spaces a c) t (λ s b. Left s b.place x)
        passing c e (into s) = absurd (let k : None ≡ Some s.child = sym no_child ∙ s.stands in cc)
        passing c e (over s) =
            let same : s.char ≡ c = (let k : Some s.char ≡ Some c = sym s.stands ∙ e in cc) in
            char_laid a c t w (subst (λ d. is_blank d ≡ true) same s.blank) e (subst (λ v. Trail t.trees v x) s.there rest)
        passing c e (out s) = absurd (no_char_end t.trees t.next w.blanked.valid.forest a.place.label a.place.offset c s.end e)

        by : (o : Option ℕ) → char_at t.trees a.place ≡ o → Ends (given o (lay_out a) (lay_char spaces a)) t (λ s b. Left s b.place x)
        by None e = out_laid a t w y step rest no_child e
        by (Some c) e = passing c e step

    turn_laid : (a : Laid) (t : State) → Left t a.place x → lays spaces x t a ≡ true → Ends (lay_turn spaces a) t (λ s b. Left s b.place x)
    unfolding lay_turn lays
    turn_laid a t w e =
        ends_look (λ s. given (child_at s.trees a.place.label a.place.offset) (lay_text spaces a) λ k. answer (gone_to a (start_in k))) t (λ s b. Left s b.place x) (by (child_at t.trees a.place.label a.place.offset) refl)
      where
        first : (y : Point) × Step t.trees a.place y × Trail t.trees y x
        first = first_of t a.place w (apart_from t.trees a.place x (and_parts (nat_lt a.laid (length spaces)) (comes_before t.trees a.place x) e).1)

        entering : (k : ℕ) → child_at t.trees a.place.label a.place.offset ≡ Some k → Step t.trees a.place first.0 → Trail t.trees (at k 0) x
        entering k h (into s) =
            let same : s.child ≡ k = (let q : Some s.child ≡ Some k = sym s.stands ∙ h in cc) in
            subst (λ v. Trail t.trees v x) (s.there ∙ ap (λ l. at l 0) same) first.2
        entering k h (over s) = absurd (no_child_at t.trees t.next w.blanked.valid.forest a.place.label a.place.offset a.place.offset s.char k s.stands h)
        entering k h (out s) = absurd (no_child_end t.trees t.next w.blanked.valid.forest a.place.label a.place.offset k s.end h)

        by : (o : Option ℕ) → child_at t.trees a.place.label a.place.offset ≡ o → Ends (given o (lay_text spaces a) λ k. answer (gone_to a (start_in k))) t (λ s b. Left s b.place x)
        by None h = text_laid a t w first.0 first.1 first.2 h
        by (Some k) h = ends_answer (gone_to a (start_in k)) t (λ s b. Left s b.place x) (record { blanked = w.blanked; room = w.room; trail = entering k h first.1 })

  laid_all : (spaces : List ℕ) → AllBlank spaces → (start x : Point) (t : State) → Left t start x → Ends (lay_all spaces start x) t (λ s _. Settled u s)
  unfolding lay_all
  laid_all spaces all start x t w =
      let first : Laid = record { place = start; laid = 0 } in
      ends_look (λ s. while_at_most (turn_bound s) (lays spaces x) (lay_turn spaces) first >> done) t (λ s _. Settled u s)
      (ends_bind (while_at_most (turn_bound t) (lays spaces x) (lay_turn spaces) first) (λ _. done) t (λ s _. Settled u s)
      (ends_while (turn_bound t) (lays spaces x) (lay_turn spaces) (λ s b. Left s b.place x × Ends done s (λ s _. Settled u s)) turn first t (w, last t start w)).1)
    where
      last : (s : State) (place : Point) → Left s place x → Ends done s (λ s _. Settled u s)
      last s place k = ends_answer tt s (λ s _. Settled u s) (record { blanked = k.blanked; room = k.room })

      turn : (s : State) (b : Laid) → (Left s b.place x × Ends done s (λ s _. Settled u s)) → lays spaces x s b ≡ true → Ends (lay_turn spaces b) s (λ s b. Left s b.place x × Ends done s (λ s _. Settled u s))
      turn s b k e =
          let r = turn_laid spaces all x b s k.0 e in
          (r, last (final (lay_turn spaces b) s) (value (lay_turn spaces b) s).place r)

  canonical_from : (fix : Bool) (t : State) → Way t p → Ends (canonicalize_from fix p) t (λ s _. Settled u s)
  unfolding canonicalize_from laid_between spaces_for
  canonical_from fix t w =
      let a = value (scan_blanks fix p) t in
      let t1 = final (scan_blanks fix p) t in
      let w1 = scanned fix t w in
      let b = value (trimmed_if fix p a) t1 in
      let t2 = final (trimmed_if fix p a) t1 in
      let w2 = trimmed_if_way fix a t1 w1 in
      ends_bind (scan_blanks fix p) _ t (λ s _. Settled u s)
      (ends_bind (trimmed_if fix p a) _ t1 (λ s _. Settled u s)
      (ends_look _ t2 (λ s _. Settled u s)
      (laid_all (spaces_for t2 p b) (canonical_blank b.count (starts_line t2.trees p) (ends_line t2.trees b.end)) p b.end t2 (record { blanked = w2.blanked; room = w2.room; trail = w2.trail }))))

  pub canonical_here : (fix : Bool) → IsValid u → HasRoom u → Ends (canonicalize_from fix p) u (λ s _. Settled u s)
  canonical_here fix is room = canonical_from fix u (record { blanked = blanked_here u is; room = room; trail = trail_here u.trees p })

-- ---- walks in which nothing is edited

pub walk_keeps : (P : Point → Type 0) (step : Point → Option Point) → ((x y : Point) → P x → step x ≡ Some y → P y) → (n : ℕ) (x : Point) → P x → P (walk_points step n x)
unfolding walk_points
walk_keeps P step turn zero x h = h
walk_keeps P step turn (suc n) x h = by (step x) refl (λ y k. walk_keeps P step turn n y k)
  where
    by : (o : Option Point) → step x ≡ o → ((y : Point) → P y → P (walk_points step n y)) → P (led_on o x (walk_points step n))
    by None e more = h
    by (Some y) e more = more y (turn x y h e)

module _ (s : State) (is : IsValid s) where
  before_inside : (x y : Point) → IsWithin s.trees 0 x.label → into_child_before s x ≡ Some y → IsWithin s.trees 0 y.label
  unfolding into_child_before
  before_inside x y here e =
      let m = mapped_is (end_in s.trees) (if_inside s (child_before s.trees x.label x.offset)) y e in
      let c = child_apart s.trees s.next is.forest x.label x.offset m.0 (inside_is s (child_before s.trees x.label x.offset) m.0 m.1) in
      subst (λ v. IsWithin s.trees 0 v.label) (sym m.2) (within_below s.trees s.next is.forest x.label m.0 (index_is s.trees is.forest.distinct x.label m.0 c.0 c.2).0 here)

  back_inside : (x y : Point) → IsWithin s.trees 0 x.label → back_step s x ≡ Some y → IsWithin s.trees 0 y.label
  unfolding back_step out_back out_to_start over_blank
  back_inside x y here e = elim (either_is (into_child_before s x) (either (out_back s x) (over_blank s x)) y e) [
    | inl h ↦ before_inside x y here h
    | inr h ↦ elim (either_is (out_back s x) (over_blank s x) y h) [
      | inl k ↦ (
          let c = chosen_is (eqb x.offset 0 && not (follows_break s.trees x.label)) (before_in s.trees x.label (if_inside s (parent_of s.trees x.label))) y k in
          let m = mapped_is (λ q. at q (index_of s.trees x.label)) (if_inside s (parent_of s.trees x.label)) y c.1 in
          subst (λ v. IsWithin s.trees 0 v.label) (sym m.2) (within_above s.trees s.next is.forest m.0 x.label (inside_is s (parent_of s.trees x.label) m.0 m.1) here))
      | inr k ↦ (
          let m = mapped_is (λ _. at x.label (x.offset - 1)) (blank_before s.trees x) y k in
          subst (λ v. IsWithin s.trees 0 v.label) (sym m.2) here)
    ]
  ]

  start_inside : (x : Point) → IsWithin s.trees 0 x.label → IsWithin s.trees 0 (start_of_blanks s x).label
  unfolding start_of_blanks
  start_inside x here = walk_keeps (λ v. IsWithin s.trees 0 v.label) (back_step s) (λ v w h e. back_inside v w h e) (turn_bound s) x here

-- ---- the whole

pub canonical : (fix : Bool) (x : Point) (u : State) → IsValid u → HasRoom u → IsWithin u.trees 0 x.label → Ends (canonicalize fix x) u (λ s _. Settled u s)
unfolding canonicalize
canonical fix x u is room here =
    ends_look (λ s. if is_there s.trees x.label && is_inside s x.label then canonicalize_from fix (start_of_blanks s x) else done) u (λ s _. Settled u s) (by (is_there u.trees x.label && is_inside u x.label))
  where
    by : (v : Bool) → Ends (if v then canonicalize_from fix (start_of_blanks u x) else done) u (λ s _. Settled u s)
    by true = canonical_here u (start_of_blanks u x) (start_inside u is x here) fix is room
    by false = ends_answer tt u (λ s _. Settled u s) (record { blanked = blanked_here u is; room = room })
