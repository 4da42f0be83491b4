-- A command that keeps contents leaves the names of nodes.
use Rattle.std.proofs.Common.{◌≡◌, ◌≢◌, ℕ, ◌<◌, true, false, List, Option, Some, None, refl, sym, ap, subst, ◌∙◌, inl, inr, arith, true≢false}
use Rattle.std.specs.Option.{option_map, option_map_or, option_and_then}
use Rattle.std.specs.Prelude.{bytes_eq}
use Rattle.std.proofs.lemmas.Bool.{cases_Bool}
use Rattle.edit_model.specs.DomModel.declared.Content.{Content}
use Rattle.edit_model.specs.DomModel.Contents.{name_in, name_of, has_name}
use Rattle.edit_model.specs.DomModel.Forest.{Forest, Seen, count_of, seek, unlink, with_leaf}
use Rattle.edit_model.proofs.DomModel.Kept.{content_of-link, content_of-unlink, content_of-with_leaf_other}
use Rattle.edit_model.proofs.DomModel.Links.{found_count}
use Rattle.edit_model.specs.State.{State}
use Rattle.edit_model.specs.Edit.{Edit, Insert, Remove, Move, Replace, Set, Unset, is_made_edit, trees_after, changed, with_replaced, with_set, with_unset}
use Rattle.edit_model.specs.Action as action
use Rattle.edit_model.specs.Action.{Action, made, words_content, extended, acted, element_content}
use Rattle.edit_model.specs.Run.{Reaches, here, onward, Run, final}
use Rattle.edit_model.specs.Valid.{IsValid}
use Rattle.edit_model.proofs.CommandParts.{command_along}
use Rattle.edit_model.proofs.Forests.{forest-unlink, can_go, fresh}
use Rattle.edit_model.proofs.IslandRuns.{trees_made, trees_left}
use Rattle.edit_model.proofs.ValidRuns.{valid_along}
use Rattle.edit_model.proofs.OutsideRuns.{trees-extended, trees-selected, trees-grown, trees-sent, trees-scratched}
use Rattle.edit_model.proofs.TailSteps.{extracted_off}
use Rattle.edit_model.proofs.Things.{name-replaced, name-set, name-unset, name_of-revised}
use Rattle.edit_model.proofs.Tests.{inserts, removes, goes, parent_there}
use Rattle.edit_laws.specs.Order.{IsKeeping}

named_there : (f : Forest Content) (l : ℕ) (name : List ℕ) → name_of f l ≡ Some name → 0 < count_of f l
named_there f l name h = by_seen (seek None f l) refl h
  where
    by_seen : (o : Option (Seen Content)) → seek None f l ≡ o → option_and_then name_in (option_map (λ (y : Seen Content). y.content) o) ≡ Some name → 0 < count_of f l
    by_seen None e h = absurd (let k : None ≡ Some name = h in cc)
    by_seen (Some s) e h = found_count f l s e

module _ (l : ℕ) (name : List ℕ) where
  Named : Forest Content → Type 0
  Named f = name_of f l ≡ Some name

  named_after : (e : Edit) (s : State) → IsValid s → is_made_edit e s ≡ true → Named s.trees → Named (trees_after e s.trees)
  unfolding is_made_edit trees_after Named
  named_after (Insert p b n) s is may h = ap (option_and_then name_in) (content_of-link s.trees p b n l is.forest.distinct (inserts s p b n may).can) ∙ h
  named_after (Remove n) s is may h = let t = removes s n may in ap (option_and_then name_in) (content_of-unlink s.trees t.from n l is.forest.distinct t.child) ∙ h
  named_after (Move n p b) s is may h =
      let t = goes s n p b may in
      let f = s.trees in
      let loose = forest-unlink f s.next is.forest t.from n t.child in
      let can = can_go f s.next is.forest t.from n p b t.child t.apart t.parent (parent_there f p t.parent) t.before in
      ap (option_and_then name_in) (content_of-link (unlink f n) p b n l loose.distinct can ∙ content_of-unlink f t.from n l is.forest.distinct t.child) ∙ h
  named_after (Replace n at count put) s is may h = name_of-revised s.trees n l (with_replaced at count put) (name-replaced at count put) ∙ h
  named_after (Set n own value) s is may h = name_of-revised s.trees n l (with_set own value) (name-set own value) ∙ h
  named_after (Unset n own) s is may h = name_of-revised s.trees n l (with_unset own) (name-unset own) ∙ h

  named_made : (c : Content) (s : State) → IsValid s → Named s.trees → Named (with_leaf s.trees s.next c)
  unfolding Named
  named_made c s is h =
      let off : s.next ≢ l = λ e. (let b = is.forest.below l (named_there s.trees l name h) in omega (arith, b, e)) in
      ap (option_and_then name_in) (content_of-with_leaf_other s.trees s.next c l (fresh s.trees s.next is.forest) off) ∙ h

  named_acted : (a : Action) (s : State) → IsValid s → s.keeping ≡ true → Named s.trees → Named (acted a s).trees
  unfolding acted made extended changed
  named_acted (action.Change e) s is keeps h = elim (cases_Bool (is_made_edit e s)) [
    | inl may ↦ subst Named (sym (trees_made e s may)) (named_after e s is may h)
    | inr off ↦ subst Named (sym (trees_left e s off)) h
  ]
  named_acted (action.MakeElement own attributes) s is keeps h = named_made (element_content own attributes) s is h
  named_acted (action.MakeWords chars) s is keeps h = named_made (words_content chars) s is h
  named_acted (action.Select anchor focus) s is keeps h = subst Named (sym (trees-selected anchor focus s)) h
  named_acted (action.Extend focus) s is keeps h = subst Named (sym (trees-extended s.points.selection focus s)) h
  named_acted action.Unselect s is keeps h = h
  named_acted (action.Grow at) s is keeps h = subst Named (sym (trees-grown at s)) h
  named_acted (action.Send node at tail) s is keeps h = subst Named (sym (trees-sent node at tail s)) h
  named_acted (action.Scratch pair) s is keeps h = subst Named (sym (trees-scratched pair s)) h
  named_acted (action.Override command setting) s is keeps h = h
  named_acted (action.Flag flags) s is keeps h = h
  named_acted (action.Extract from end target) s is keeps h = subst (λ t. Named t.trees) (sym (extracted_off from end target s keeps)) h

  named_along : {s t : State} → Reaches s t → IsValid s → s.keeping ≡ true → name_of s.trees l ≡ Some name → name_of t.trees l ≡ Some name
  unfolding Named
  named_along here is keeps named = named
  named_along (onward {t = t} q a) is keeps named = named_acted a t (valid_along q is) ((command_along q).keeping ∙ keeps) (named_along q is keeps named)

pub named_stays : {T : Type 0} (m : Run T) (s : State) → IsKeeping s → (l : ℕ) (name : List ℕ) → name_of s.trees l ≡ Some name → name_of (final m s).trees l ≡ Some name
unfolding final
named_stays m s is l name named = named_along l name (m.by_actions s) is.valid is.keeping named

-- by the tests
pub name_stays : {T : Type 0} (m : Run T) (s : State) → IsKeeping s → (l : ℕ) (name : List ℕ) → has_name s.trees l name ≡ true → has_name (final m s).trees l name ≡ true
unfolding final
name_stays m s is l name h = by_name (name_of s.trees l) refl h
  where
    by_name : (o : Option (List ℕ)) → name_of s.trees l ≡ o → option_map_or (λ own. bytes_eq own name) o false ≡ true → has_name (m.run s).0.trees l name ≡ true
    by_name None e k = absurd (true≢false (sym k))
    by_name (Some own) e k = ap (λ o. option_map_or (λ own. bytes_eq own name) o false) (named_along l own (m.by_actions s) is.valid is.keeping e) ∙ k
