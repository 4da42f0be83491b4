-- What is read of the nodes of a document under edits is read of its arena.
use Rattle.std.proofs.Common.{◌≡◌, ℕ, ◌<◌, Bool, false, Option, Some, None, IfSome, refl, sym, ap, subst, ◌∙◌}
use Rattle.std.specs.Prelude.{slice_index_or}
use Rattle.std.specs.Option.{option_map, option_map_or, option_and_then}
use Rattle.edit_model.specs.DomModel.declared.Content.{Content}
use Rattle.edit_model.specs.DomModel.Contents.{is_element, has_chars, may_have_children, name_in, attributes_in, chars_in, is_element_at, is_parent_at, has_chars_at, name_of, attributes_of, chars_of, length_of}
use Rattle.edit_model.specs.DomModel.Forest.{Forest, count_of, tree_of, parent_of, first_of, last_of, prev_of, next_of, content_of, IsDistinct}
use Rattle.edit_model.specs.DomModel.Editing.{is_editable}
use Rattle.edit_model.specs.DomModel.Places.{index_of}
use Rattle.edit_model.specs.DomModel.Pruned.{pruned}
use Rattle.edit_model.specs.DomModel.ArenaState.{ArenaState as Arena, IsValid as IsArena}
use Rattle.edit_model.proofs.DomModel.Links.{parent_here, first_here, last_here, prev_here, next_here}
use Rattle.edit_model.proofs.DomModel.Pruning.{IsDistinct-pruned, parent_of-pruned, tree_of-pruned}
use Rattle.edit_model.specs.PointOrder.PointOrder.{is_within}
use Rattle.edit_model.specs.NodeArena.declared.NodeRef.{NodeRef}
use Rattle.edit_model.specs.NodeArena.Held.{Holds as HoldsNode, NamesHeld}
use Rattle.edit_model.specs.NodeArena.Kinds.{kind_in, kind_of}
use Rattle.edit_doc.specs.declared.Doc.TheInside.{Inside}
use Rattle.edit_doc.specs.Whole.{Whole}
use Rattle.edit_doc.specs.Held.{Holds, Finds}
use Rattle.edit_doc.specs.Shows.{Shows}
use Rattle.edit_doc.specs.History.{begun_forest, is_hidden}
use Rattle.edit_doc.proofs.Inner.{seen}
use Rattle.edit_doc.proofs.SeenLookUps.{first_detached, last_detached, prev_detached, next_detached, index_detached, content_detached, length_detached, editable_detached, within_detached}

-- the trees that are hidden
abbrev pub out_of : Inside → ℕ → Bool
out_of d = is_hidden (begun_forest d.history.log d.tree.nodes.arena.trees) d.command.start

-- the label stands in the trees that are seen
abbrev pub IsSeen : Inside → ℕ → Type 0
IsSeen d l = 0 < count_of (pruned (out_of d) d.tree.nodes.arena.trees) l

pub held_seen : (d : Inside) (v : Whole) → seen d ≡ v → (r : NodeRef) → Holds v r → Holds (seen d) r
held_seen d v is r h = subst (λ w. Holds w r) (sym is) h

pub shows_of : (d : Inside) → IsArena d.tree.nodes.arena → (v : Whole) → seen d ≡ v → Shows v d.tree.nodes.arena
shows_of d law v is = record {
  law = law;
  part = record { detached_out = out_of d; not_document = refl; is = sym (ap (λ (w : Whole). w.state.trees) is) };
  held = sym (ap (λ (w : Whole). w.held) is);
  next = sym (ap (λ (w : Whole). w.state.next) is);
  cap = sym (ap (λ (w : Whole). w.state.cap) is);
}

module _ {v : Whole} {a : Arena} (s : Shows v a) where
  abbrev f : Forest Content
  f = a.trees

  abbrev out : ℕ → Bool
  out = s.part.detached_out

  abbrev g : Forest Content
  g = pruned out a.trees

  pub here_shown : (l : ℕ) → 0 < count_of v.state.trees l → 0 < count_of g l
  here_shown l here = subst (λ t. 0 < count_of t l) s.part.is here

  once : IsDistinct v.state.trees
  once = subst IsDistinct (sym s.part.is) (IsDistinct-pruned out f s.law.distinct)

  pub holds_shown : (r : NodeRef) → HoldsNode a r → 0 < count_of v.state.trees r.label → Holds v r
  holds_shown r held here = record { slot = ap (λ h. slice_index_or h r.slot None) s.held ∙ held; here = here }

  -- a node that an answer of the arena names, and that is seen
  named_node : (o : Option NodeRef) (here there : Option ℕ) → here ≡ there → IfSome here (λ l. 0 < count_of v.state.trees l) → NamesHeld a o there → Finds v o here
  named_node o here there same stands names = at o (names.is ∙ sym same) names.held
    where
      at : (p : Option NodeRef) → option_map (λ (r : NodeRef). r.label) p ≡ here → IfSome p (λ r. HoldsNode a r) → Finds v p here
      at None e held = record { is = e; held = tt }
      at (Some r) e held = record { is = e; held = holds_shown r held (subst (λ o. IfSome o (λ l. 0 < count_of v.state.trees l)) (sym e) stands) }

  module _ (node : NodeRef) (holds : Holds v node) where
    here : 0 < count_of g node.label
    here = here_shown node.label holds.here

    pub parent_seen : parent_of v.state.trees node.label ≡ parent_of a.trees node.label
    parent_seen = ap (λ t. parent_of t node.label) s.part.is ∙ parent_of-pruned out f node.label s.law.distinct here

    pub finds_parent : (o : Option NodeRef) → NamesHeld a o (parent_of a.trees node.label) → Finds v o (parent_of v.state.trees node.label)
    finds_parent o names = named_node o (parent_of v.state.trees node.label) (parent_of f node.label) parent_seen (parent_here v.state.trees node.label once) names

    first_seen : first_of v.state.trees node.label ≡ first_of a.trees node.label
    first_seen = ap (λ t. first_of t node.label) s.part.is ∙ first_detached out f s.law.distinct node.label here

    pub finds_first : (o : Option NodeRef) → NamesHeld a o (first_of a.trees node.label) → Finds v o (first_of v.state.trees node.label)
    finds_first o names = named_node o (first_of v.state.trees node.label) (first_of f node.label) first_seen (first_here v.state.trees node.label once) names

    last_seen : last_of v.state.trees node.label ≡ last_of a.trees node.label
    last_seen = ap (λ t. last_of t node.label) s.part.is ∙ last_detached out f s.law.distinct node.label here

    pub finds_last : (o : Option NodeRef) → NamesHeld a o (last_of a.trees node.label) → Finds v o (last_of v.state.trees node.label)
    finds_last o names = named_node o (last_of v.state.trees node.label) (last_of f node.label) last_seen (last_here v.state.trees node.label once) names

    prev_seen : prev_of v.state.trees node.label ≡ prev_of a.trees node.label
    prev_seen = ap (λ t. prev_of t node.label) s.part.is ∙ prev_detached out f s.law.distinct node.label here

    pub finds_prev : (o : Option NodeRef) → NamesHeld a o (prev_of a.trees node.label) → Finds v o (prev_of v.state.trees node.label)
    finds_prev o names = named_node o (prev_of v.state.trees node.label) (prev_of f node.label) prev_seen (prev_here v.state.trees node.label once) names

    pub next_seen : next_of v.state.trees node.label ≡ next_of a.trees node.label
    next_seen = ap (λ t. next_of t node.label) s.part.is ∙ next_detached out f s.law.distinct node.label here

    pub finds_next : (o : Option NodeRef) → NamesHeld a o (next_of a.trees node.label) → Finds v o (next_of v.state.trees node.label)
    finds_next o names = named_node o (next_of v.state.trees node.label) (next_of f node.label) next_seen (next_here v.state.trees node.label once) names

    pub index_seen : index_of v.state.trees node.label ≡ index_of a.trees node.label
    index_seen = ap (λ t. index_of t node.label) s.part.is ∙ index_detached out f s.law.distinct node.label here

    pub length_seen : length_of v.state.trees node.label ≡ length_of a.trees node.label
    length_seen = ap (λ t. length_of t node.label) s.part.is ∙ length_detached out f s.law.distinct node.label here

    pub content_seen : content_of v.state.trees node.label ≡ content_of a.trees node.label
    content_seen = ap (λ t. content_of t node.label) s.part.is ∙ content_detached out f s.law.distinct node.label here

    pub tree_seen : tree_of v.state.trees node.label ≡ tree_of a.trees node.label
    tree_seen = ap (λ t. tree_of t node.label) s.part.is ∙ tree_of-pruned out f node.label s.law.distinct here

    pub within_seen : (l : ℕ) → is_within v.state.trees node.label l ≡ is_within a.trees node.label l
    within_seen l = ap (λ t. is_within t node.label l) s.part.is ∙ within_detached out f s.law.distinct node.label l here

    pub editable_seen : (h : ℕ) → is_editable v.state.trees h node.label ≡ is_editable a.trees h node.label
    editable_seen h = ap (λ t. is_editable t h node.label) s.part.is ∙ editable_detached out f s.law.distinct h node.label here

    pub kind_seen : kind_of v.state.trees node.label ≡ kind_of a.trees node.label
    kind_seen = ap (option_map kind_in) content_seen

    pub is_element_seen : is_element_at v.state.trees node.label ≡ is_element_at a.trees node.label
    is_element_seen = ap (λ o. option_map_or is_element o false) content_seen

    pub is_parent_seen : is_parent_at v.state.trees node.label ≡ is_parent_at a.trees node.label
    is_parent_seen = ap (λ o. option_map_or may_have_children o false) content_seen

    pub has_chars_seen : has_chars_at v.state.trees node.label ≡ has_chars_at a.trees node.label
    has_chars_seen = ap (λ o. option_map_or has_chars o false) content_seen

    pub name_seen : name_of v.state.trees node.label ≡ name_of a.trees node.label
    name_seen = ap (option_and_then name_in) content_seen

    pub attributes_seen : attributes_of v.state.trees node.label ≡ attributes_of a.trees node.label
    attributes_seen = ap (option_and_then attributes_in) content_seen

    pub chars_seen : chars_of v.state.trees node.label ≡ chars_of a.trees node.label
    chars_seen = ap (option_and_then chars_in) content_seen
