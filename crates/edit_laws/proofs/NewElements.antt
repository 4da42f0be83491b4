-- Runs that insert a new element.
use Rattle.std.proofs.Common.{◌≡◌, ℕ, Bool, true, false, if◌then◌else◌, List, [], ◌++◌, Option, Some, None, refl, ap, ◌∙◌}
use Rattle.edit_model.specs.DomModel.declared.attributes.Attribute.{Attribute}
use Rattle.edit_model.specs.DomModel.Forest.{tree_of}
use Rattle.edit_model.specs.DomModel.Forest.Forest.{Nil}
use Rattle.edit_model.specs.State.{State}
use Rattle.edit_model.specs.Kept.{leaves, is_thing}
use Rattle.edit_model.specs.Action.{element_content, made}
use Rattle.edit_model.specs.Run.{Run, final, value, ◌>>=◌, look, given, insert, make_element}
use Rattle.edit_model.proofs.Steps.{final-bind, final-look, final-edit, final-make_element, value-make_element}
use Rattle.edit_laws.specs.OrderPreserving.{OrderPreserving, OrderPreservingWith}
use Rattle.edit_laws.specs.Order.{IsKeeping}
use Rattle.edit_laws.proofs.Subsequences.{keeps_trans}
use Rattle.edit_laws.proofs.Leaves.{leaves-Nil, leaves-Tree}
use Rattle.edit_laws.proofs.QuietActions.{keeping_final, bare_insert_keeps}
use Rattle.edit_laws.proofs.Renaming.{new_tree, new_borne, keeping_made, keeps_made}

pub with_insert : (p : ℕ) (b : Option ℕ) (x : ℕ) → OrderPreservingWith x (insert p b x)
with_insert p b x = record { keeps = λ s is bare. rw final-edit (bare_insert_keeps p b x s is bare) }

pub with_bind : {A B : Type 0} (x : ℕ) (m : Run A) (k : A → Run B) → OrderPreservingWith x m → ((a : A) → OrderPreserving (k a)) → OrderPreservingWith x (m >>= k)
with_bind x m k p q = record { keeps = λ s is bare. rw final-bind (keeps_trans (p.keeps s is bare) ((q (value m s)).keeps (final m s) (keeping_final m s is))) }

pub with_order_preserving : {A : Type 0} (x : ℕ) (m : Run A) → OrderPreserving m → OrderPreservingWith x m
with_order_preserving x m p = record { keeps = λ s is _. p.keeps s is }

pub with_look : {A : Type 0} (x : ℕ) (k : State → Run A) → ((s : State) → OrderPreservingWith x (k s)) → OrderPreservingWith x (look k)
with_look x k p = record { keeps = λ s is bare. rw final-look ((p s).keeps s is bare) }

pub with_if : {A : Type 0} (x : ℕ) (b : Bool) (m n : Run A) → OrderPreservingWith x m → OrderPreservingWith x n → OrderPreservingWith x (if b then m else n)
with_if x true m n p q = p
with_if x false m n p q = q

pub with_given : {A B : Type 0} (x : ℕ) (o : Option A) (n : Run B) (f : A → Run B) → OrderPreservingWith x n → ((a : A) → OrderPreservingWith x (f a)) → OrderPreservingWith x (given o n f)
with_given x None n f p q = p
with_given x (Some a) n f p q = q a

pub new_bare : (name : List ℕ) (attributes : List Attribute) (s : State) → IsKeeping s → is_thing name ≡ false → leaves (tree_of (made (element_content name attributes) s).trees s.next) ≡ []
new_bare name attributes s is plain =
    ap leaves (new_tree s is (element_content name attributes))
    ∙ (leaves-Tree s.next (element_content name attributes) Nil Nil ∙ (ap (λ l. l ++ (leaves Nil ++ leaves Nil)) (new_borne s.next name attributes plain) ∙ rw leaves-Nil refl))

pub order_preserving_new : {A : Type 0} (name : List ℕ) (attributes : List Attribute) (k : ℕ → Run A) → is_thing name ≡ false → ((x : ℕ) → OrderPreservingWith x (k x)) → OrderPreserving (make_element name attributes >>= k)
order_preserving_new name attributes k plain p = record {
  keeps = λ s is.
      rw (final-bind, final-make_element, value-make_element)
      (keeps_trans (keeps_made name attributes s is) ((p s.next).keeps (made (element_content name attributes) s) (keeping_made name attributes s is) (new_bare name attributes s is plain)));
}

-- with these, and those of order-preserving runs, an algorithm that inserts new elements, and moves nothing, is order-preserving by its parts alone
pub ruleset order_preserving_with = (with_insert, with_bind, with_look, with_if, with_given, with_order_preserving)
