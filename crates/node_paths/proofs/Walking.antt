-- Paths over an arena: what a walk down or up has read or written so far.
use Rattle.std.proofs.Common.{◌≡◌, ℕ, suc, ◌+◌, ◌-◌, ◌<◌, List, [], ◌∷◌, ◌++◌, drop, map, get_or, length, Option, Some, None, IfSome, refl, sym, ap, ◌∙◌, subst, add-one, drop-cons, append_assoc, codes}
use Rattle.std.specs.List.{join_with_byte}
use Rattle.std.specs.Fmt.{decimal}
use Rattle.std.specs.Option.{option_and_then}
use Rattle.node_arena.specs.DomModel.declared.Content.{Content}
use Rattle.node_arena.specs.DomModel.Forest.{Forest, parent_of, first_of, next_of, IsDistinct, IsWithin}
use Rattle.node_arena.specs.DomModel.Forest.Forest.{Tree}
use Rattle.node_arena.specs.DomModel.Places.{index_of}
use Rattle.node_arena.specs.DomModel.ArenaState.{ArenaState, IsValid}
use Rattle.node_arena.proofs.DomModel.Parts.{at_label}
use Rattle.node_arena.proofs.DomModel.Walks.{document_first}
use Rattle.node_arena.proofs.DomModel.Within.{within_step}
use Rattle.node_arena.specs.declared.NodeRef.{NodeRef}
use Rattle.node_arena.specs.Held.{Holds, label}
use Rattle.node_paths.specs.Onward.{onward_at, IsInner, node_below}
use Rattle.node_paths.specs.Paths.{node_in, label_at, path_of, indexes_text, indexes_at, node_text}
use Rattle.node_paths.proofs.Visiting.{Visit, come_to, document_leads}
use Rattle.node_paths.proofs.Ways.{node_in-first, node_in-later, path_of-child, root_is}

-- ---- down

-- at a child that a walk has come to
pub child_here : (a : ArenaState) → IsValid a → (o : Option NodeRef) (node : NodeRef) → o ≡ Some node → IfSome o (λ r. Holds a r) → IsInner a.trees (label o) → (c : Content) × Visit a.trees node.label c
child_here a valid o node is held inner =
    let held' : Holds a node = rw is at held in
    let at = at_label a.trees valid.distinct node.label (valid.here node.slot node.label held') in
    (at.content, come_to a valid o node at.content is held inner at.content_is)

pub way_here : (f : Forest Content) (l : ℕ) (c : Content) → Visit f l c → (here : Option ℕ) (left : ℕ) → here ≡ Some l → left ≡ 0 → (rest : List ℕ) → node_in (onward_at f here) (left ∷ rest) ≡ node_below f l rest
way_here f l c v here left h z rest =
    ap (λ o. node_in (onward_at f o) (left ∷ rest)) h ∙ (ap (λ t. node_in t (left ∷ rest)) v.is ∙ (ap (λ i. node_in (Tree l c (onward_at f (first_of f l)) (onward_at f (next_of f l))) (i ∷ rest)) z ∙ node_in-first f l c (onward_at f (first_of f l)) (onward_at f (next_of f l)) rest refl))

pub way_on : (f : Forest Content) (l : ℕ) (c : Content) → Visit f l c → (here right : Option ℕ) (left : ℕ) → here ≡ Some l → right ≡ next_of f l → 0 < left → (rest : List ℕ) → node_in (onward_at f here) (left ∷ rest) ≡ node_in (onward_at f right) ((left - 1) ∷ rest)
way_on f l c v here right left h r low rest =
    ap (λ o. node_in (onward_at f o) (left ∷ rest)) h ∙ (ap (λ t. node_in t (left ∷ rest)) v.is ∙ (node_in-later l c (onward_at f (first_of f l)) (onward_at f (next_of f l)) left rest low ∙ ap (λ o. node_in (onward_at f o) ((left - 1) ∷ rest)) (sym r)))

pub way_down : (a : ArenaState) (document : ℕ) → IsValid a → document ≡ 0 → (path : List ℕ) → node_below a.trees document path ≡ label_at a.trees path
unfolding label_at
way_down a document valid is [] = ap Some is
way_down a document valid is (i ∷ rest) = ap (λ l. node_below a.trees l (i ∷ rest)) is ∙ ap (λ t. node_in t (i ∷ rest)) (document_leads a valid)

-- the way goes on from a child
pub way_step : (f : Forest Content) (l : ℕ) (path : List ℕ) (at : ℕ) (to : Option ℕ) → at < length path
    → ((rest : List ℕ) → node_below f l (get_or path at 0 ∷ rest) ≡ option_and_then (λ m. node_below f m rest) to)
    → node_below f l (drop at path) ≡ option_and_then (λ m. node_below f m (drop (at + 1) path)) to
way_step f l path at to low way = rw (drop-cons path at 0) (way (drop (suc at) path) ∙ ap (λ n. option_and_then (λ m. node_below f m (drop n path)) to) (sym (add-one at)))

-- ---- up

joined_end : (x : List ℕ) (xs : List (List ℕ)) (y : List ℕ) → join_with_byte 47 ((x ∷ xs) ++ (y ∷ [])) ≡ join_with_byte 47 (x ∷ xs) ++ (47 ∷ y)
joined_end x [] y = refl
joined_end x (z ∷ xs) y = ap (λ t. x ++ (47 ∷ t)) (joined_end z xs y) ∙ sym (append_assoc x (47 ∷ join_with_byte 47 (z ∷ xs)) (47 ∷ y))

decimals_end : (xs : List ℕ) (i : ℕ) → map decimal (xs ++ (i ∷ [])) ≡ map decimal xs ++ (decimal i ∷ [])
decimals_end [] i = refl
decimals_end (x ∷ xs) i = ap (λ t. decimal x ∷ t) (decimals_end xs i)

indexes_end : (x : ℕ) (xs : List ℕ) (i : ℕ) → indexes_text ((x ∷ xs) ++ (i ∷ [])) ≡ indexes_text (x ∷ xs) ++ (47 ∷ decimal i)
indexes_end x xs i = ap (λ t. join_with_byte 47 (decimal x ∷ t)) (decimals_end xs i) ∙ joined_end (decimal x) (map decimal xs) (decimal i)

-- the way to a node below the document
pub record Way (f : Forest Content) (l p : ℕ) : Type 0 where
  pub above : List ℕ
  pub parent : path_of f p ≡ Some above
  pub is : path_of f l ≡ Some (above ++ (index_of f l ∷ []))

pub way_up : (a : ArenaState) → IsValid a → (l p : ℕ) → parent_of a.trees l ≡ Some p → IsWithin a.trees 0 l → Way a.trees l p
way_up a valid l p parent inner =
    let d = document_first a.trees valid.distinct valid.rising valid.document valid.root in
    let w = path_of-child d.0 d.1 d.2 l p (subst (λ t. IsDistinct t) d.3 valid.distinct) (subst (λ t. parent_of t l ≡ Some p) d.3 parent) (subst (λ t. IsWithin t 0 l) d.3 inner) in
    let back = sym d.3 in
    record {
      above = w.0;
      parent = subst (λ t. path_of t p ≡ Some w.0) back w.1;
      is = subst (λ t. path_of t l ≡ Some (w.0 ++ (index_of t l ∷ []))) back w.2;
    }

pub within_up_parent : (a : ArenaState) → IsValid a → (l p : ℕ) → parent_of a.trees l ≡ Some p → IsWithin a.trees 0 l → IsWithin a.trees 0 p
within_up_parent a valid l p parent inner =
    within_step a.trees 0 valid.distinct valid.document l p (λ e. absurd (let root = valid.root in let t : parent_of a.trees 0 ≡ Some p = ap (parent_of a.trees) e ∙ parent in cc)) parent inner

root_path : (f : Forest Content) (p : ℕ) (is : List ℕ) → p ≡ 0 → path_of f p ≡ Some is → is ≡ []
unfolding path_of
root_path f p is z e = (let e' : path_of f 0 ≡ Some is = ap (path_of f) (sym z) ∙ e in cc)

-- the way to a child of the document
pub indexes_top : (a : ArenaState) → IsValid a → (l p : ℕ) → parent_of a.trees l ≡ Some p → IsWithin a.trees 0 l → parent_of a.trees p ≡ None → indexes_at a.trees l ≡ decimal (index_of a.trees l)
unfolding indexes_at
indexes_top a valid l p parent inner root =
    let w = way_up a valid l p parent inner in
    let z = root_is a.trees p valid.distinct valid.document root (within_up_parent a valid l p parent inner) in
    let none = root_path a.trees p w.above z w.parent in
    rw (w.is, none) refl

first_there : (f : Forest Content) (l : ℕ) (above : List ℕ) (i : ℕ) → path_of f l ≡ Some (above ++ (i ∷ [])) → (x : ℕ) × (xs : List ℕ) × (path_of f l ≡ Some (x ∷ xs))
first_there f l [] i e = (i, [], e)
first_there f l (x ∷ xs) i e = (x, xs ++ (i ∷ []), e)

-- the way to another node is that to its parent, and a step
pub indexes_below : (a : ArenaState) → IsValid a → (l p q : ℕ) → parent_of a.trees l ≡ Some p → IsWithin a.trees 0 l → parent_of a.trees p ≡ Some q → indexes_at a.trees l ≡ indexes_at a.trees p ++ (47 ∷ decimal (index_of a.trees l))
unfolding indexes_at
indexes_below a valid l p q parent inner above =
    let w = way_up a valid l p parent inner in
    let v = way_up a valid p q above (within_up_parent a valid l p parent inner) in
    let s = first_there a.trees p v.above (index_of a.trees p) v.is in
    let same : w.above ≡ s.0 ∷ s.1 = (let t : Some w.above ≡ Some (s.0 ∷ s.1) = sym w.parent ∙ s.2 in cc) in
    rw (w.is, w.parent, same) (indexes_end s.0 s.1 (index_of a.trees l))

-- the text of a path
pub text_below : (a : ArenaState) → IsValid a → (l p : ℕ) → parent_of a.trees l ≡ Some p → IsWithin a.trees 0 l → node_text a.trees l ≡ indexes_at a.trees l
unfolding indexes_at node_text
text_below a valid l p parent inner =
    let w = way_up a valid l p parent inner in
    let s = first_there a.trees l w.above (index_of a.trees l) w.is in
    rw s.2 refl

pub text_root : (a : ArenaState) → IsValid a → (l : ℕ) → parent_of a.trees l ≡ None → IsWithin a.trees 0 l → node_text a.trees l ≡ codes "."
unfolding node_text path_of
text_root a valid l root inner = let z = root_is a.trees l valid.distinct valid.document root inner in rw z refl
