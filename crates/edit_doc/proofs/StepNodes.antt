-- The nodes that the steps of a list name, one step after another.
use Rattle.std.proofs.Common.{◌≡◌, ℕ, zero, suc, ◌+◌, ◌<◌, List, [], ◌∷◌, ◌++◌, length, get_or, take, Some, None, refl, sym, ap, subst, ◌∙◌, arith, append-nil, append_assoc, add-one}
use Rattle.std.specs.Prelude.{slice_get}
use Rattle.edit_model.specs.NodeArena.declared.NodeRef.{NodeRef}
use Rattle.step_edits.specs.ForestChanges.Named.{Each, named, named_in}
use Rattle.step_edits.proofs.ForestChanges.ChangeLists.{each_first, each_rest}
use Rattle.step_edits.specs.EditSteps.declared.step.Step.{Step}
use Rattle.step_edits.specs.EditSteps.Step.{change_of, changes_of, nodes_of, nodes_in}

no_item : {A B : Type 0} (x : A) → None ≡ Some x → B
no_item x e = absurd (cc)

take_suc : {A : Type 0} (xs : List A) (i : ℕ) (x : A) → slice_get xs i ≡ Some x → take (suc i) xs ≡ take i xs ++ x ∷ []
take_suc [] i x e = no_item x e
take_suc (y ∷ ys) zero x e = ap (λ z. z ∷ []) (let t : Some y ≡ Some x = e in cc)
take_suc (y ∷ ys) (suc i) x e = ap (λ r. y ∷ r) (take_suc ys i x e)

-- the items up to one more
pub take_more : {A : Type 0} (xs : List A) (i : ℕ) (x : A) → slice_get xs i ≡ Some x → take (i + 1) xs ≡ take i xs ++ x ∷ []
take_more xs i x e = rw add-one (take_suc xs i x e)

-- an item that the code reads by its index
pub item_at : {A : Type 0} (xs : List A) (i : ℕ) (x d : A) → i < length xs → x ≡ get_or xs i d → slice_get xs i ≡ Some x
item_at [] i x d h e = absurd (omega (arith, h))
item_at (y ∷ ys) zero x d h e = ap Some (sym e)
item_at (y ∷ ys) (suc i) x d h e = item_at ys i x d (omega (arith, h)) e

pub each_named_at : (P : ℕ → Type 0) (xs : List Step) (i : ℕ) (x : Step) → slice_get xs i ≡ Some x → Each P (named_in (changes_of xs)) → Each P (named (change_of x))
each_named_at P [] i x e h = no_item x e
each_named_at P (y ∷ ys) zero x e h = subst (λ z. Each P (named (change_of z))) (let t : Some y ≡ Some x = e in cc) (each_first P (named (change_of y)) (named_in (changes_of ys)) h)
each_named_at P (y ∷ ys) (suc i) x e h = each_named_at P ys i x e (each_rest P (named (change_of y)) (named_in (changes_of ys)) h)

pub each_node_at : (P : NodeRef → Type 0) (xs : List Step) (i : ℕ) (x : Step) → slice_get xs i ≡ Some x → Each P (nodes_in xs) → Each P (nodes_of x)
each_node_at P [] i x e h = no_item x e
each_node_at P (y ∷ ys) zero x e h = subst (λ z. Each P (nodes_of z)) (let t : Some y ≡ Some x = e in cc) (each_first P (nodes_of y) (nodes_in ys) h)
each_node_at P (y ∷ ys) (suc i) x e h = each_node_at P ys i x e (each_rest P (nodes_of y) (nodes_in ys) h)

named_join : (xs ys : List Step) → named_in (changes_of (xs ++ ys)) ≡ named_in (changes_of xs) ++ named_in (changes_of ys)
named_join [] ys = refl
named_join (x ∷ xs) ys = ap (λ r. named (change_of x) ++ r) (named_join xs ys) ∙ sym (append_assoc (named (change_of x)) (named_in (changes_of xs)) (named_in (changes_of ys)))

pub named_more : (xs : List Step) (i : ℕ) (x : Step) → slice_get xs i ≡ Some x → named_in (changes_of (take (i + 1) xs)) ≡ named_in (changes_of (take i xs)) ++ named (change_of x)
named_more xs i x e =
    ap (λ ys. named_in (changes_of ys)) (take_more xs i x e)
    ∙ (named_join (take i xs) (x ∷ []) ∙ ap (λ r. named_in (changes_of (take i xs)) ++ r) (append-nil (named (change_of x))))
