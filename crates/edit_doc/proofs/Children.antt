-- The children of a node, listed from the first on.
use Rattle.std.proofs.Common.{◌≡◌, ℕ, zero, suc, ◌<◌, List, [], ◌∷◌, ◌++◌, length, Option, Some, None, refl, sym, ap, ◌∙◌, subst, arith}
use Rattle.edit_model.specs.DomModel.declared.Content.{Content}
use Rattle.edit_model.specs.DomModel.Forest.{Forest, tops, total, parent_of, first_of, next_of, children_of, first_in, IsDistinct}
use Rattle.edit_model.specs.DomModel.Forest.Forest.{Nil, Tree}
use Rattle.edit_model.specs.DomModel.Places.{onward}
use Rattle.edit_model.proofs.DomModel.Neighbours.{parent_of-first, parent_of-next}
use Rattle.edit_model.proofs.DomModel.Parts.{At, at_label}
use Rattle.edit_model.specs.NodeArena.declared.NodeRef.{NodeRef}
use Rattle.edit_model.specs.Gives.{label_of, labels_of}
use Rattle.edit_model.proofs.Steps.{labels_of_push}
use Rattle.edit_doc.specs.Whole.{Whole, IsDoc}
use Rattle.edit_doc.specs.Held.{Holds, IfHeld, EachHeld, Finds}

-- the tree of a node with those of its later siblings, where there is one
abbrev pub onward_at : {C : Type 0} → Forest C → Option ℕ → Forest C
onward_at f None = Nil
onward_at f (Some l) = onward f l

-- the node, if there is one, is a child of p
abbrev pub IsChild : {C : Type 0} → Forest C → ℕ → Option ℕ → Type 0
IsChild f p None = Unit {0}
IsChild f p (Some l) = parent_of f l ≡ Some p

-- how many nodes stand in the trees from a node on
abbrev pub size_from : Forest Content → Option ℕ → ℕ
size_from f o = total (λ _ _. 1) (onward_at f o)

child_by : (f : Forest Content) (o : Option ℕ) (p : ℕ) → ((k : ℕ) → o ≡ Some k → parent_of f k ≡ Some p) → IsChild f p o
child_by f None p h = tt
child_by f (Some k) p h = h k refl

leads : {C : Type 0} → (f g : Forest C) (o : Option ℕ) → o ≡ first_in (tops g) → ((k : ℕ) → o ≡ Some k → onward f k ≡ g) → onward_at f o ≡ g
leads f Nil o first there = rw first refl
leads f (Tree m c ks rest) o first there = rw first (there m first)

-- ---- lists that grow

pub none_held : (d : Whole) (xs : List NodeRef) → xs ≡ [] → EachHeld d xs
none_held d xs is = λ k low. absurd (let e = ap length is in omega (arith, e, low))

more_held : (d : Whole) (xs : List NodeRef) (x : NodeRef) → EachHeld d xs → Holds d x → EachHeld d (xs ++ (x ∷ []))
more_held d [] x h held zero low = held
more_held d [] x h held (suc k) low = absurd (omega (arith, low))
more_held d (y ∷ ys) x h held zero low = h 0 (omega arith)
more_held d (y ∷ ys) x h held (suc k) low = more_held d ys x (λ j less. h (suc j) (omega (arith, less))) held k (omega (arith, low))

pub pushed_held : (d : Whole) (xs new : List NodeRef) (x : NodeRef) → EachHeld d xs → Holds d x → new ≡ xs ++ (x ∷ []) → EachHeld d new
pushed_held d xs new x h held is = subst (EachHeld d) (sym is) (more_held d xs x h held)

-- ---- the walk

module _ (d : Whole) (law : IsDoc d) (node : NodeRef) where
  abbrev f : Forest Content
  f = d.state.trees

  once : IsDistinct f
  once = law.valid.forest.distinct

  pub first_child_is : Holds d node → (first : Option NodeRef) → Finds d first (first_of f node.label) → IsChild f node.label (label_of first)
  first_child_is held first finds = rw finds.is (child_by f (first_of f node.label) node.label (λ k e. parent_of-first f once node.label k e))

  pub first_made : Holds d node → (first : Option NodeRef) → Finds d first (first_of f node.label) → (xs : List NodeRef) → xs ≡ [] → labels_of xs ++ tops (onward_at f (label_of first)) ≡ children_of f node.label
  first_made held first finds xs none =
      let at = at_label f once node.label held.here in
      rw (none, finds.is) (ap tops (leads f at.kids (first_of f node.label) (ap first_in at.children_is) at.first) ∙ sym at.children_is)

  module _ (o : Option NodeRef) (child : NodeRef) (is : o ≡ Some child) (held : IfHeld d o) (inner : IsChild f node.label (label_of o)) where
    pub child_held : Holds d child
    child_held = rw is at held

    pub child_is : parent_of f child.label ≡ Some node.label
    child_is = rw is at inner

    at_child : At f child.label
    at_child = at_label f once child.label child_held.here

    rest_is : onward_at f (next_of f child.label) ≡ at_child.rest
    rest_is = leads f at_child.rest (next_of f child.label) (at_child.next_is node.label child_is) at_child.next

    pub next_child_is : (next : Option NodeRef) → Finds d next (next_of f child.label) → IsChild f node.label (label_of next)
    next_child_is next finds = rw finds.is (child_by f (next_of f child.label) node.label (λ k e. parent_of-next f once child.label k node.label child_is e))

    pub next_smaller : (next : Option NodeRef) → Finds d next (next_of f child.label) → size_from f (label_of next) < size_from f (label_of o)
    next_smaller next finds =
        let rest : size_from f (label_of next) ≡ total (λ _ _. 1) at_child.rest = ap (size_from f) finds.is ∙ ap (total (λ _ _. 1)) rest_is in
        let here : size_from f (label_of o) ≡ total (λ _ _. 1) (Tree child.label at_child.content at_child.kids at_child.rest) = ap (λ q. size_from f (label_of q)) is ∙ ap (total (λ _ _. 1)) at_child.is in
        omega (arith, rest, here)

    -- the children from one on are that one, and those from the next on
    pub child_first : tops (onward_at f (label_of o)) ≡ child.label ∷ tops (onward_at f (next_of f child.label))
    child_first = ap (λ q. tops (onward_at f (label_of q))) is ∙ (ap tops at_child.is ∙ ap (λ g. child.label ∷ tops g) (sym rest_is))

    pub next_made : (next : Option NodeRef) → Finds d next (next_of f child.label) → (old new : List NodeRef) (whole : List ℕ) → labels_of old ++ tops (onward_at f (label_of o)) ≡ whole → new ≡ old ++ (child ∷ []) → labels_of new ++ tops (onward_at f (label_of next)) ≡ whole
    next_made next finds old new whole before more =
        rw (more, finds.is) (labels_of_push old child (tops (onward_at f (next_of f child.label))) ∙ (ap (λ xs. labels_of old ++ xs) (sym child_first) ∙ before))
