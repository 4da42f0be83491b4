-- What a wrap answers is an element, where no sibling is asked for.
use Rattle.std.proofs.Common.{◌≡◌, ℕ, Bool, true, false, ◌&&◌, if◌then◌else◌, List, Option, Some, None, refl, sym, ◌∙◌, arith, ap, subst}
use Rattle.std.specs.Option.{option_and_then}
use Rattle.edit_model.specs.DomModel.Forest.{prev_of, next_of}
use Rattle.edit_model.specs.State.{State}
use Rattle.edit_model.specs.Confined.{is_editable_for}
use Rattle.edit_model.specs.Run.{Run, final, value, answer, look, given}
use Rattle.edit_model.proofs.Steps.{value-bind, value-answer, value-look, value-make_element, final-bind, final-look, final-make_element, final-answer}
use Rattle.inline_value.specs.WrapSplit.declared.rule.Blank.{Blank}
use Rattle.inline_value.specs.WrapSplit.declared.rule.Criterion.{Criterion}
use Rattle.inline_value.specs.WrapSplit.declared.rule.Criterion.TheVariants.{Never}
use Rattle.inline_value.specs.WrapSplit.declared.rule.Recipe.TheVariants.{Make}
use Rattle.inline_value.specs.WrapSplit.Target.{meets, if_fits, beside, blank_of, made_of, made_by, target}
use Rattle.inline_value.specs.WrapSplit.Wrap.{filled_from, filled, into_target, wrap_ends, wrap_list, wrap_members, wrap}
use Rattle.edit_model.specs.Action.{made, element_content}
use Rattle.edit_model.specs.DomModel.declared.Content.{Content}
use Rattle.edit_model.specs.DomModel.Contents.{name_in}
use Rattle.edit_model.proofs.DomModel.Kept.{content_of-with_leaf_new}
use Rattle.edit_model.specs.Valid.{IsValid}
use Rattle.edit_model.proofs.Forests.{fresh}
use Rattle.making_laws.proofs.Splits.{IsElement, still_named}
use Rattle.making_laws.proofs.Named.{IsNamed}
use Rattle.making_laws.proofs.TameRuns.{valid_final}

-- the node that a run answers, if it does, is an element
pub record AnswersNamed (s : State) (m : Run (Option ℕ)) : Type 0 where
  pub named : (x : ℕ) → value m s ≡ Some x → IsNamed (final m s).trees x

pub named_none : (s : State) → AnswersNamed s (answer None)
named_none s = record { named = λ x e. absurd (let k : None ≡ Some x = sym (value-answer None s) ∙ e in cc) }

pub named_look : (s : State) (k : State → Run (Option ℕ)) → AnswersNamed s (k s) → AnswersNamed s (look k)
named_look s k h = record { named = λ x e. rw final-look (h.named x (sym (value-look k s) ∙ e)) }

pub named_given : {A : Type 0} (s : State) (o : Option A) (n : Run (Option ℕ)) (f : A → Run (Option ℕ)) → AnswersNamed s n → ((a : A) → AnswersNamed s (f a))
    → AnswersNamed s (given o n f)
named_given s None n f h g = h
named_given s (Some a) n f h g = g a

pub named_if : (s : State) (b : Bool) (m n : Run (Option ℕ)) → AnswersNamed s m → AnswersNamed s n → AnswersNamed s (if b then m else n)
named_if s true m n h g = h
named_if s false m n h g = g

pub ruleset named_parts = (named_none, named_look, named_given, named_if)

-- ---- a wrap

never_fits : (s : State) (o : Option ℕ) → if_fits Never s o ≡ None
unfolding meets
never_fits s None = refl
never_fits s (Some n) = by_test (is_editable_for s n)
  where
    by_test : (v : Bool) → (if v && false then Some n else None) ≡ None
    by_test true = refl
    by_test false = refl

value_target : (blank : Blank) (a z : ℕ) (s : State) → value (target Never (Make blank) a z) s ≡ Some s.next
unfolding target beside made_by blank_of made_of
value_target blank a z s =
    let before = never_fits s (prev_of s.trees a) in
    let after = never_fits s (next_of s.trees z) in
    rw (value-look, before, after, value-bind, value-make_element, value-answer) refl

final_target : (blank : Blank) (a z : ℕ) (s : State) → final (target Never (Make blank) a z) s ≡ made (element_content blank.name blank.attributes) s
unfolding target beside made_by blank_of made_of
final_target blank a z s =
    let before = never_fits s (prev_of s.trees a) in
    let after = never_fits s (next_of s.trees z) in
    rw (final-look, before, after, final-bind, final-make_element, final-answer) refl

value_filled : (c : Criterion) (p : ℕ) (list : List ℕ) (a : ℕ) (s : State) → value (filled c p list a) s ≡ Some p
unfolding filled filled_from
value_filled c p list a s =
    rw (value-bind, value-look, value-bind, value-bind, value-bind, value-bind, value-answer) refl

made_named : (blank : Blank) (s : State) → IsValid s → IsElement (made (element_content blank.name blank.attributes) s) s.next
unfolding made
made_named blank s is =
    (omega arith, (blank.name, ap (λ (o : Option Content). option_and_then name_in o) (content_of-with_leaf_new s.trees s.next (element_content blank.name blank.attributes) (fresh s.trees s.next is.forest))))

module _ (s : State) (is : IsValid s) (blank : Blank) where
  named_ends : (list : List ℕ) (a z : ℕ) → AnswersNamed s (wrap_ends Never (Make blank) list a z)
  unfolding wrap_ends into_target
  named_ends list a z = record {
    named = λ x e. rw final-bind (by_target x (value m s) (value_target blank a z s) (sym (value-bind m (into_target Never list a) s) ∙ e));
  }
    where
      m : Run (Option ℕ)
      m = target Never (Make blank) a z

      fresh_element : IsElement (final m s) s.next
      fresh_element = subst (λ t. IsElement t s.next) (sym (final_target blank a z s)) (made_named blank s is)

      by_target : (x : ℕ) (o : Option ℕ) → o ≡ Some s.next → value (into_target Never list a o) (final m s) ≡ Some x → IsNamed (final (into_target Never list a o) (final m s)).trees x
      by_target x None at found = absurd (let k : None ≡ Some s.next = at in cc)
      by_target x (Some q) at found =
          let new : s.next ≡ q = (let k : Some q ≡ Some s.next = at in cc) in
          let here : Some q ≡ Some x = sym (value_filled Never q list a (final m s)) ∙ found in
          let same : q ≡ x = (let k = here in cc) in
          let own : IsElement (final m s) q = subst (IsElement (final m s)) new fresh_element in
          subst (λ j. IsNamed (final (filled Never q list a) (final m s)).trees j) same (still_named (filled Never q list a) (final m s) q (valid_final m s is) own.0 own.1)

  named_list : (list : List ℕ) → AnswersNamed s (wrap_list Never (Make blank) list)
  unfolding wrap_list
  named_list list = search (named_parts, named_ends)

  named_members : (list : List ℕ) → AnswersNamed s (wrap_members Never (Make blank) list)
  unfolding wrap_members
  named_members list = search (named_parts, named_list)

  pub named_wrap : (list : List ℕ) → AnswersNamed s (wrap Never (Make blank) list)
  unfolding wrap
  named_wrap list = search (named_parts, named_members)
