-- What a wrap answers is new, where no sibling is asked for.
use Rattle.std.proofs.Common.{◌≡◌, ℕ, ◌≤◌, Bool, true, false, ◌&&◌, if◌then◌else◌, List, Option, Some, None, refl, sym, ◌∙◌, arith}
use Rattle.edit_model.specs.DomModel.Forest.{prev_of, next_of}
use Rattle.edit_model.specs.State.{State}
use Rattle.edit_model.specs.Confined.{is_editable_for}
use Rattle.edit_model.specs.Run.{Run, final, value, answer, look, given}
use Rattle.edit_model.proofs.Steps.{value-bind, value-answer, value-look, value-make_element}
use Rattle.inline_value.specs.WrapSplit.declared.rule.Blank.{Blank}
use Rattle.inline_value.specs.WrapSplit.declared.rule.Criterion.{Criterion}
use Rattle.inline_value.specs.WrapSplit.declared.rule.Criterion.TheVariants.{Never}
use Rattle.inline_value.specs.WrapSplit.declared.rule.Recipe.TheVariants.{Make}
use Rattle.inline_value.specs.WrapSplit.Target.{meets, if_fits, beside, blank_of, made_of, made_by, target}
use Rattle.inline_value.specs.WrapSplit.Wrap.{filled_from, filled, into_target, wrap_ends, wrap_list, wrap_members, wrap}

-- the node that a run answers, if it does, is not there before
pub record IsNew (s : State) (m : Run (Option ℕ)) : Type 0 where
  pub later : (x : ℕ) → value m s ≡ Some x → s.next ≤ x

pub new_none : (s : State) → IsNew s (answer None)
new_none s = record { later = λ x e. absurd (let k : None ≡ Some x = sym (value-answer None s) ∙ e in cc) }

pub new_look : (s : State) (k : State → Run (Option ℕ)) → IsNew s (k s) → IsNew s (look k)
new_look s k h = record { later = λ x e. h.later x (sym (value-look k s) ∙ e) }

pub new_given : {A : Type 0} (s : State) (o : Option A) (n : Run (Option ℕ)) (f : A → Run (Option ℕ)) → IsNew s n → ((a : A) → IsNew s (f a))
    → IsNew s (given o n f)
new_given s None n f h g = h
new_given s (Some a) n f h g = g a

pub new_if : (s : State) (b : Bool) (m n : Run (Option ℕ)) → IsNew s m → IsNew s n → IsNew s (if b then m else n)
new_if s true m n h g = h
new_if s false m n h g = g

pub ruleset new_parts = (new_none, new_look, new_given, new_if)

-- ---- a wrap

never_fits : (s : State) (o : Option ℕ) → if_fits Never s o ≡ None
unfolding meets
never_fits s None = refl
never_fits s (Some n) = by_test (is_editable_for s n)
  where
    by_test : (v : Bool) → (if v && false then Some n else None) ≡ None
    by_test true = refl
    by_test false = refl

value_target : (blank : Blank) (a z : ℕ) (s : State) → value (target Never (Make blank) a z) s ≡ Some s.next
unfolding target beside made_by blank_of made_of
value_target blank a z s =
    let before = never_fits s (prev_of s.trees a) in
    let after = never_fits s (next_of s.trees z) in
    rw (value-look, before, after, value-bind, value-make_element, value-answer) refl

value_filled : (c : Criterion) (p : ℕ) (list : List ℕ) (a : ℕ) (s : State) → value (filled c p list a) s ≡ Some p
unfolding filled filled_from
value_filled c p list a s =
    rw (value-bind, value-look, value-bind, value-bind, value-bind, value-bind, value-answer) refl

new_ends : (s : State) (blank : Blank) (list : List ℕ) (a z : ℕ) → IsNew s (wrap_ends Never (Make blank) list a z)
unfolding wrap_ends into_target
new_ends s blank list a z = record {
  later = λ x e. by_target x (value m s) (value_target blank a z s) (sym (value-bind m (into_target Never list a) s) ∙ e);
}
  where
    m : Run (Option ℕ)
    m = target Never (Make blank) a z

    by_target : (x : ℕ) (o : Option ℕ) → o ≡ Some s.next → value (into_target Never list a o) (final m s) ≡ Some x → s.next ≤ x
    by_target x None is found = absurd (let k : None ≡ Some s.next = is in cc)
    by_target x (Some q) is found =
        let here : Some q ≡ Some x = sym (value_filled Never q list a (final m s)) ∙ found in
        let same : s.next ≡ x = (let new = is in let old = here in cc) in
        omega (arith, same)

new_list : (s : State) (blank : Blank) (list : List ℕ) → IsNew s (wrap_list Never (Make blank) list)
unfolding wrap_list
new_list s blank list = search (new_parts, new_ends)

new_members : (s : State) (blank : Blank) (list : List ℕ) → IsNew s (wrap_members Never (Make blank) list)
unfolding wrap_members
new_members s blank list = search (new_parts, new_list)

pub new_wrap : (s : State) (blank : Blank) (list : List ℕ) → IsNew s (wrap Never (Make blank) list)
unfolding wrap
new_wrap s blank list = search (new_parts, new_members)
