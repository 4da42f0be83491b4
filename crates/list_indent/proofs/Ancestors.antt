-- A node's ancestors, from the nearest on.
use Rattle.std.proofs.Common.{◌≡◌, ℕ, ◌<◌, Bool, true, false, ◌||◌, ◌&&◌, not, List, [], ◌∷◌, ◌++◌, Option, Some, None, refl, sym, ap, ◌∙◌}
use Rattle.std.proofs.lemmas.Bool.{and_parts}
use Rattle.std.specs.List.{list_any}
use Rattle.edit_model.specs.DomModel.declared.Content.{Content}
use Rattle.edit_model.specs.DomModel.Contents.{is_element_at}
use Rattle.edit_model.specs.DomModel.Forest.{Forest, IsDistinct, count_of, parent_of}
use Rattle.edit_model.specs.NodeArena.declared.NodeRef.{NodeRef}
use Rattle.edit_model.specs.State.{State}
use Rattle.edit_model.specs.Confined.{is_editable_for}
use Rattle.edit_model.specs.Gives.{label_of, labels_of}
use Rattle.edit_model.proofs.Steps.{labels_of_push}
use Rattle.inline_value.specs.EditDoc.Whole.{Whole, IsDoc}
use Rattle.inline_value.specs.EditDoc.Held.{Holds, IfHeld, Finds}
use Rattle.std.proofs.lemmas.List.{append-nil}
use Rattle.inline_value.proofs.Above.{from, from_here, height, height_parent}
use Rattle.list_indent.specs.Outdenting.{indents, is_passed, climb}
use Rattle.list_indent.specs.Sublists.{is_list}

module _ (f : Forest Content) (once : IsDistinct f) (l : ℕ) (here : 0 < count_of f l) (test : ℕ → Bool) where
  -- one that is passed
  pub climb_on : test l ≡ true → climb test (from f (Some l)) ≡ (l ∷ (climb test (from f (parent_of f l))).0, (climb test (from f (parent_of f l))).1)
  climb_on so = rw (from_here f once l here, so) refl

  -- and one that isn't
  pub climb_stop : test l ≡ false → climb test (from f (Some l)) ≡ ([], Some l)
  climb_stop off = rw (from_here f once l here, off) refl

  -- whether the node or one of its ancestors passes
  pub any_on : list_any test (from f (Some l)) ≡ (test l || list_any test (from f (parent_of f l)))
  any_on = ap (list_any test) (from_here f once l here)

-- what is listed so far, and what is still to be listed
pub listed_on : (xs new : List NodeRef) (x : NodeRef) (rest whole : List ℕ) → labels_of xs ++ (x.label ∷ rest) ≡ whole → new ≡ xs ++ (x ∷ []) → labels_of new ++ rest ≡ whole
listed_on xs new x rest whole before more = rw more (labels_of_push xs x rest ∙ before)

-- ---- a way up, one turn

-- a node that is passed is editable
pub passed_editable : (simple : Bool) (s : State) (l : ℕ) → is_passed simple s l ≡ true → is_editable_for s l ≡ true
unfolding is_passed
passed_editable simple s l so = (and_parts (is_editable_for s l) (is_element_at s.trees l && (not (indents simple s l) && not (is_list s l))) so).0

module _ (d : Whole) (test : ℕ → Bool) (xs : List NodeRef) (whole : List ℕ × Option ℕ) where
  abbrev at_passed : Option NodeRef → List NodeRef → Type 0
  at_passed o ys = labels_of ys ++ (climb test (from d.state.trees (label_of o))).0 ≡ whole.0

  abbrev at_next : Option NodeRef → Type 0
  at_next o = (climb test (from d.state.trees (label_of o))).1 ≡ whole.1

  pub none_passed : (o : Option NodeRef) → o ≡ None → at_passed o xs → labels_of xs ≡ whole.0
  none_passed o none made = sym (append-nil (labels_of xs)) ∙ rw none at made

  pub none_next : (o : Option NodeRef) → o ≡ None → at_next o → whole.1 ≡ None
  none_next o none next = sym (rw none at next)

  module _ (law : IsDoc d) (o : Option NodeRef) (r : NodeRef) (is : o ≡ Some r) (held : IfHeld d o) where
    here : 0 < count_of d.state.trees r.label
    here = let h : Holds d r = rw is at held in h.here

    once : IsDistinct d.state.trees
    once = law.valid.forest.distinct

    pub stop_passed : test r.label ≡ false → at_passed o xs → labels_of xs ≡ whole.0
    stop_passed off made =
        let made' : at_passed (Some r) xs = rw is at made in
        let stop = climb_stop d.state.trees once r.label here test off in
        sym (append-nil (labels_of xs)) ∙ (ap (λ (w : List ℕ × Option ℕ). labels_of xs ++ w.0) (sym stop) ∙ made')

    pub stop_next : test r.label ≡ false → at_next o → Some r.label ≡ whole.1
    stop_next off next =
        let next' : at_next (Some r) = rw is at next in
        let stop = climb_stop d.state.trees once r.label here test off in
        ap (λ (w : List ℕ × Option ℕ). w.1) (sym stop) ∙ next'

    pub on_passed : test r.label ≡ true → (next : Option NodeRef) → Finds d next (parent_of d.state.trees r.label) → (new : List NodeRef) → new ≡ xs ++ (r ∷ []) → at_passed o xs → at_passed next new
    on_passed so next finds new more made =
        let made' : at_passed (Some r) xs = rw is at made in
        let on = climb_on d.state.trees once r.label here test so in
        rw finds.is (listed_on xs new r (climb test (from d.state.trees (parent_of d.state.trees r.label))).0 whole.0 (ap (λ (w : List ℕ × Option ℕ). labels_of xs ++ w.0) (sym on) ∙ made') more)

    pub on_next : test r.label ≡ true → (next : Option NodeRef) → Finds d next (parent_of d.state.trees r.label) → at_next o → at_next next
    on_next so next finds before =
        let before' : at_next (Some r) = rw is at before in
        let on = climb_on d.state.trees once r.label here test so in
        rw finds.is (ap (λ (w : List ℕ × Option ℕ). w.1) (sym on) ∙ before')

    pub lower : (next : Option NodeRef) → Finds d next (parent_of d.state.trees r.label) → height d.state.trees (label_of next) < height d.state.trees (label_of o)
    lower next finds = rw (finds.is, is) (height_parent d.state.trees once r.label)
