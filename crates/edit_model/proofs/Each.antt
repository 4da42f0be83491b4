-- What holds of each action that a run takes, closed under the ways in which runs are composed: a certificate of an algorithm by
-- its parts.
use Rattle.std.proofs.Common.{◌≡◌, ℕ, zero, suc, Bool, true, false, ◌||◌, cond, if◌then◌else◌, List, [], ◌∷◌, Option, Some, None, refl, sym, ◌∙◌, true≢false}
use Rattle.std.specs.Prelude.{unwrap_or}
use Rattle.std.specs.Option.{option_map_or, option_and_then}
use Rattle.point_order.specs.DomModel.declared.Content.{Content}
use Rattle.point_order.specs.DomModel.declared.Content.TheVariants.{Document, Element, Words, Remark}
use Rattle.point_order.specs.DomModel.Contents.{is_element, attributes_in}
use Rattle.point_order.specs.DomModel.Editing.{is_true_state, is_false_state, editing_host, is_editable}
use Rattle.point_order.specs.DomModel.Forest.{Forest, parent_of, content_of}
use Rattle.point_order.proofs.DomModel.Links.{parent_count}
use Rattle.point_order.proofs.DomModel.Hosts.{editing_host-root, editing_host-child}
use Rattle.point_order.specs.DomModel.declared.attributes.Attribute.{Attribute}
use Rattle.edit_model.specs.State.{State}
use Rattle.edit_model.specs.Edit.{Edit}
use Rattle.edit_model.specs.Action.{Action, Change, MakeElement, MakeWords}
use Rattle.edit_model.specs.Run.{Reaches, here, onward, reaches_trans, Run, ◌>>=◌, act, answer, look, given, for_each, while_at_most, edit, make_element, make_words, perform}
use Rattle.edit_model.specs.Valid.{IsForest, IsValid}
use Rattle.edit_model.specs.Confined.{is_editable_for}
use Rattle.edit_model.specs.Compositions.{attribute_list_of}
use Rattle.edit_model.proofs.Tests.{label_is}
use Rattle.edit_model.proofs.ValidRuns.{valid_along}
use Rattle.edit_model.proofs.IslandRuns.{content_at}
use Rattle.edit_model.specs.Laws.{LeavesStates, LeavesStatesOn}

-- each action on a way, with the state in which it is taken
abbrev pub EachOn : (P : Action → State → Type 0) → {s t : State} → Reaches s t → Type 0
EachOn P here = Unit {0}
EachOn P (onward {t = t} q a) = EachOn P q × P a t

-- each action of a run, from whatever valid state
pub record Each (P : Action → State → Type 0) {T : Type 0} (m : Run T) : Type 0 where
  pub on : (s : State) → IsValid s → EachOn P (m.by_actions s)

module _ (P : Action → State → Type 0) where
  pub each_trans : {s t u : State} (p : Reaches s t) (q : Reaches t u) → EachOn P p → EachOn P q → EachOn P (reaches_trans p q)
  unfolding reaches_trans
  each_trans p here h k = h
  each_trans p (onward q a) h k = (each_trans p q h k.0, k.1)

  pub each_bind : {A B : Type 0} (m : Run A) (k : A → Run B) → Each P m → ((a : A) → Each P (k a)) → Each P (m >>= k)
  unfolding ◌>>=◌
  each_bind m k h g = record { on = λ s is. each_trans (m.by_actions s) ((k (m.run s).1).by_actions (m.run s).0) (h.on s is) ((g (m.run s).1).on (m.run s).0 (valid_along (m.by_actions s) is)) }

  pub each_answer : {A : Type 0} (a : A) → Each P (answer a)
  unfolding answer
  each_answer a = record { on = λ s is. tt }

  pub each_look : {A : Type 0} (k : State → Run A) → ((s : State) → IsValid s → Each P (k s)) → Each P (look k)
  unfolding look
  each_look k h = record { on = λ s is. (h s is).on s is }

  pub each_if : {A : Type 0} (b : Bool) (m n : Run A) → Each P m → Each P n → Each P (if b then m else n)
  each_if true m n h g = h
  each_if false m n h g = g

  -- the same where the choice tells something
  pub each_choice : {A : Type 0} (b : Bool) (m n : Run A) → (b ≡ true → Each P m) → (b ≡ false → Each P n) → Each P (if b then m else n)
  each_choice true m n h g = h refl
  each_choice false m n h g = g refl

  pub each_given : {A B : Type 0} (o : Option A) (n : Run B) (f : A → Run B) → Each P n → ((a : A) → Each P (f a)) → Each P (given o n f)
  each_given None n f h g = h
  each_given (Some a) n f h g = g a

  pub each_for_each : {A : Type 0} (xs : List A) (f : A → Run (Unit {0})) → ((x : A) → Each P (f x)) → Each P (for_each xs f)
  unfolding for_each
  each_for_each [] f h = each_answer tt
  each_for_each (x ∷ xs) f h = each_bind (f x) (λ _. for_each xs f) (h x) (λ _. each_for_each xs f h)

  pub each_while : {A : Type 0} (n : ℕ) (test : State → A → Bool) (body : A → Run A) (a : A) → ((a : A) → Each P (body a)) → Each P (while_at_most n test body a)
  unfolding while_at_most
  each_while zero test body a h = each_answer a
  each_while (suc n) test body a h =
      each_look (λ s. if test s a then (body a >>= while_at_most n test body) else answer a)
      (λ s _. each_if (test s a) (body a >>= while_at_most n test body) (answer a) (each_bind (body a) (while_at_most n test body) (h a) (λ b. each_while n test body b h)) (each_answer a))

  -- ---- the runs of one action

  pub each_act : {A : Type 0} (a : Action) (tells : State → A) → ((s : State) → IsValid s → P a s) → Each P (act a tells)
  unfolding act
  each_act a tells h = record { on = λ s is. (tt, h s is) }

  pub each_edit : (e : Edit) → ((s : State) → IsValid s → P (Change e) s) → Each P (edit e)
  unfolding edit act
  each_edit e h = record { on = λ s is. (tt, h s is) }

  pub each_make_element : (name : List ℕ) (attributes : List Attribute) → ((s : State) → IsValid s → P (MakeElement name attributes) s) → Each P (make_element name attributes)
  unfolding make_element act
  each_make_element name attributes h = record { on = λ s is. (tt, h s is) }

  pub each_make_words : (chars : List ℕ) → ((s : State) → IsValid s → P (MakeWords chars) s) → Each P (make_words chars)
  unfolding make_words act
  each_make_words chars h = record { on = λ s is. (tt, h s is) }

  pub each_perform : (a : Action) → ((s : State) → IsValid s → P a s) → Each P (perform a)
  unfolding perform act
  each_perform a h = record { on = λ s is. (tt, h s is) }

pub ruleset eachs_of = (each_bind, each_answer, each_look, each_if, each_given, each_for_each, each_while, each_edit, each_make_element, each_make_words, each_perform)

-- ---- the states of contenteditable

no_state : (a b c : Bool) (above : Option ℕ) (h : ℕ) → cond (a || b) None (cond c above None) ≡ Some h → (a || b) ≡ false
no_state a b c above h e = by (a || b) e
  where
    by : (v : Bool) → cond v None (cond c above None) ≡ Some h → v ≡ false
    by true e = absurd (let t : None ≡ Some h = e in cc)
    by false e = refl

-- an editable node has no state of its own
pub editable_stateless : (f : Forest Content) (next h l : ℕ) → IsForest f next → is_editable f h l ≡ true → (c : Content) → content_of f l ≡ Some c → (is_true_state c || is_false_state c) ≡ false
editable_stateless f next h l is editable c content = by_parent (parent_of f l) refl
  where
    hosted : editing_host f l ≡ Some h
    hosted = label_is (editing_host f l) h editable

    by_parent : (o : Option ℕ) → parent_of f l ≡ o → (is_true_state c || is_false_state c) ≡ false
    by_parent None e = absurd (let t : None ≡ Some h = sym (editing_host-root f is.distinct l e) ∙ hosted in cc)
    by_parent (Some p) e =
        let d = content_at f is.distinct p (parent_count f l p is.distinct e).1 in
        no_state (is_true_state c) (is_false_state c) (is_element c || is_element d.0) (cond (is_true_state d.0) (Some p) (editing_host f p)) h (sym (editing_host-child f is.distinct l p c d.0 e content d.1) ∙ hosted)

-- so a copy of its attributes gives none
pub copy_stateless : (s : State) (l : ℕ) (name : List ℕ) → IsValid s → is_editable_for s l ≡ true → LeavesStates (MakeElement name (attribute_list_of s.trees l))
unfolding is_editable_for
copy_stateless s l name is editable = by_host s.host editable
  where
    by_content : (h : ℕ) → is_editable s.trees h l ≡ true → (o : Option Content) → content_of s.trees l ≡ o → LeavesStates (MakeElement name (unwrap_or (option_and_then attributes_in o) []))
    by_content h e None at = refl
    by_content h e (Some Document) at = refl
    by_content h e (Some (Element own attributes)) at = editable_stateless s.trees s.next h l is.forest e (Element own attributes) at
    by_content h e (Some (Words chars)) at = refl
    by_content h e (Some (Remark chars)) at = refl

    by_host : (o : Option ℕ) → option_map_or (λ h. is_editable s.trees h l) o false ≡ true → LeavesStates (MakeElement name (attribute_list_of s.trees l))
    by_host None e = absurd (true≢false (sym e))
    by_host (Some h) e = by_content h e (content_of s.trees l) refl

pub leaves_on : {s t : State} (r : Reaches s t) → EachOn (λ a _. LeavesStates a) r → LeavesStatesOn r
leaves_on here h = tt
leaves_on (onward q a) h = (leaves_on q h.0, h.1)
