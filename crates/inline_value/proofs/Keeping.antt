-- Where no ancestor gives a value, none is pushed down.
use Rattle.std.proofs.Common.{◌≡◌, ℕ, Bool, true, false, ◌||◌, ◌&&◌, List, [], ◌∷◌, Option, Some, None, if◌then◌else◌, refl, sym, ap, ◌∙◌}
use Rattle.std.specs.Prelude.{is_some, is_none, reverse}
use Rattle.std.specs.List.{list_any}
use Rattle.std.proofs.lemmas.List.Sorted.{list_any-IsPermutation, IsPermutation-reverse}
use Rattle.edit_model.specs.DomModel.Forest.{children_of, first_in, last_in, last_or}
use Rattle.edit_model.specs.HtmlNames.declared.commands.Command.{Command}
use Rattle.wrap_split.specs.CommandValue.SpecifiedValues.{specified}
use Rattle.edit_model.specs.State.{State}
use Rattle.edit_model.specs.Run.{final, done, given, for_each, ◌>>◌}
use Rattle.edit_model.proofs.Steps.{final-bind, final-look, final-answer}
use Rattle.inline_value.specs.Clearing.{clear_value}
use Rattle.inline_value.specs.Forcing.{ancestors, force}
use Rattle.inline_value.specs.Pushing.{is_other, leading, others_above, needs_none, is_passed, push_to, clear_level, push_level, own_or, is_hopeless, push_levels, push_from, push_listed, push_down, is_given_above}

-- ---- the last of the leading members of a list of which none passes

pub rest_off : (a b : Bool) → (a || b) ≡ false → b ≡ false
rest_off true b off = cc
rest_off false b off = off

pub first_off : (a b : Bool) → (a || b) ≡ false → a ≡ false
first_off true b off = off
first_off false b off = refl

-- what is there fails the test
abbrev Fails : (ℕ → Bool) → Option ℕ → Type 0
Fails P None = Unit {0}
Fails P (Some e) = P e ≡ false

fails_either : (P : ℕ → Bool) (t : Bool) (a b : List ℕ) (o : Option ℕ) → Fails P (last_or o a) → Fails P (last_or o b) → Fails P (last_or o (if t then a else b))
fails_either P true a b o on off = on
fails_either P false a b o on off = off

last_fails : (P T : ℕ → Bool) (xs : List ℕ) (o : Option ℕ) → Fails P o → list_any P xs ≡ false → Fails P (last_or o (leading T xs))
last_fails P T [] o own off = own
last_fails P T (x ∷ xs) o own off =
    let rest = last_fails P T xs (Some x) (first_off (P x) (list_any P xs) off) (rest_off (P x) (list_any P xs) off) in
    fails_either P (T x) (x ∷ leading T xs) [] o rest own

-- ---- the leading members of a list of which none passes: none of them does

or_off : (a b : Bool) → a ≡ false → b ≡ false → (a || b) ≡ false
or_off true b off other = off
or_off false b off other = other

none_either : (P : ℕ → Bool) (t : Bool) (xs : List ℕ) → list_any P xs ≡ false → list_any P (if t then xs else []) ≡ false
none_either P true xs off = off
none_either P false xs off = refl

none_leading : (P T : ℕ → Bool) (xs : List ℕ) → list_any P xs ≡ false → list_any P (leading T xs) ≡ false
none_leading P T [] off = refl
none_leading P T (x ∷ xs) off =
    none_either P (T x) (x ∷ leading T xs)
    (or_off (P x) (list_any P (leading T xs)) (first_off (P x) (list_any P xs) off) (none_leading P T xs (rest_off (P x) (list_any P xs) off)))

-- ---- the steps

none_of : (v : Option (List ℕ)) → is_some v ≡ false → v ≡ None
none_of None off = refl
none_of (Some w) off = cc

module _ (s : State) (command : Command) (n : ℕ) where
  abbrev gives : ℕ → Bool
  gives e = is_some (specified s.trees e command)

  -- null is forced on no child
  forced_keeps : (k : ℕ) → final (force command None k) s ≡ s
  unfolding force
  forced_keeps k = final-answer tt s

  passed_keeps : (b : Bool) (k : ℕ) → final (if b then done else force command None k) s ≡ s
  passed_keeps true k = final-answer tt s
  passed_keeps false k = forced_keeps k

  child_keeps : (next : Option ℕ) (k : ℕ) → final (push_to command None n next k) s ≡ s
  unfolding push_to
  child_keeps next k =
      final-look (λ t. if is_passed t command None n next k then done else force command None k) s
      ∙ passed_keeps (is_passed s command None n next k) k

  each_keeps : (next : Option ℕ) (ks : List ℕ) → final (for_each ks (push_to command None n next)) s ≡ s
  unfolding for_each
  each_keeps next [] = final-answer tt s
  each_keeps next (k ∷ ks) =
      final-bind (push_to command None n next k) (λ _. for_each ks (push_to command None n next)) s
      ∙ (ap (final (for_each ks (push_to command None n next))) (child_keeps next k) ∙ each_keeps next ks)

  -- an element that gives no value isn't cleared
  clear_keeps : (e : ℕ) → specified s.trees e command ≡ None → final (clear_level command e) s ≡ s
  unfolding clear_level
  clear_keeps e off =
      final-look (λ t. if is_none (specified t.trees e command) then done else (clear_value command e >> done)) s
      ∙ (ap (λ o. final (if is_none o then done else (clear_value command e >> done)) s) off ∙ final-answer tt s)

  level_keeps : (next : Option ℕ) (e : ℕ) → specified s.trees e command ≡ None → final (push_level command None n next e) s ≡ s
  unfolding push_level
  level_keeps next e off =
      final-look (λ t. clear_level command e >> for_each (children_of t.trees e) (push_to command None n next)) s
      ∙ (final-bind (clear_level command e) (λ _. for_each (children_of s.trees e) (push_to command None n next)) s
      ∙ (ap (final (for_each (children_of s.trees e) (push_to command None n next))) (clear_keeps e off) ∙ each_keeps next (children_of s.trees e)))

  levels_keep : (xs : List ℕ) → list_any gives xs ≡ false → final (push_levels command None n xs) s ≡ s
  unfolding push_levels
  levels_keep [] off = final-answer tt s
  levels_keep (e ∷ xs) off =
      let none = none_of (specified s.trees e command) (first_off (gives e) (list_any gives xs) off) in
      final-look (λ t. push_level command (own_or (specified t.trees e command) None) n (first_in xs) e >> push_levels command (own_or (specified t.trees e command) None) n xs) s
      ∙ (ap (λ o. final (push_level command (own_or o None) n (first_in xs) e >> push_levels command (own_or o None) n xs) s) none
      ∙ (final-bind (push_level command None n (first_in xs) e) (λ _. push_levels command None n xs) s
      ∙ (ap (final (push_levels command None n xs)) (level_keeps (first_in xs) e none) ∙ levels_keep xs (rest_off (gives e) (list_any gives xs) off))))

  -- a value is wanted, and the outermost of the ancestors gives none: the steps end
  hopeless : (w : List ℕ) (e : ℕ) → specified s.trees e command ≡ None → is_hopeless s command (Some w) e ≡ true
  unfolding is_hopeless
  hopeless w e off = rw off refl

  hopeful : (e : ℕ) → is_hopeless s command None e ≡ false
  unfolding is_hopeless
  hopeful e = refl

  from_by : (v : Option (List ℕ)) (list : List ℕ) (e : ℕ) → specified s.trees e command ≡ None → list_any gives list ≡ false →
      final (if is_hopeless s command v e then done else push_levels command (specified s.trees e command) n (reverse list)) s ≡ s
  from_by (Some w) list e off none =
      ap (λ b. final (if b then done else push_levels command (specified s.trees e command) n (reverse list)) s) (hopeless w e off) ∙ final-answer tt s
  from_by None list e off none =
      ap (λ b. final (if b then done else push_levels command (specified s.trees e command) n (reverse list)) s) (hopeful e)
      ∙ (ap (λ o. final (push_levels command o n (reverse list)) s) off
      ∙ levels_keep (reverse list) (sym (list_any-IsPermutation gives list (reverse list) (IsPermutation-reverse list)) ∙ none))

  from_keeps : (v : Option (List ℕ)) (list : List ℕ) (e : ℕ) → specified s.trees e command ≡ None → list_any gives list ≡ false → final (push_from command v n list e) s ≡ s
  unfolding push_from
  from_keeps v list e off none =
      final-look (λ t. if is_hopeless t command v e then done else push_levels command (specified t.trees e command) n (reverse list)) s
      ∙ from_by v list e off none

  listed_by : (v : Option (List ℕ)) (list : List ℕ) (o : Option ℕ) → Fails gives o → list_any gives list ≡ false → final (given o done (λ e. push_from command v n list e)) s ≡ s
  listed_by v list None off none = final-answer tt s
  listed_by v list (Some e) off none = from_keeps v list e (none_of (specified s.trees e command) off) none

  listed_keeps : (v : Option (List ℕ)) (T : ℕ → Bool) (xs : List ℕ) → list_any gives xs ≡ false → final (push_listed command v n (leading T xs)) s ≡ s
  unfolding push_listed
  listed_keeps v T xs off = listed_by v (leading T xs) (last_in (leading T xs)) (last_fails gives T xs None tt off) (none_leading gives T xs off)

  above_keeps : (v : Option (List ℕ)) → is_given_above s command n ≡ false → final (push_listed command v n (others_above s command v n)) s ≡ s
  unfolding is_given_above others_above
  above_keeps v off = listed_keeps v (is_other s command v) (ancestors s.trees n) off

  by_need : (v : Option (List ℕ)) (b : Bool) → is_given_above s command n ≡ false → final (if b then done else push_listed command v n (others_above s command v n)) s ≡ s
  by_need v true off = final-answer tt s
  by_need v false off = above_keeps v off

pub push_keeps : (s : State) (command : Command) (v : Option (List ℕ)) (n : ℕ) → is_given_above s command n ≡ false → final (push_down command v n) s ≡ s
unfolding push_down
push_keeps s command v n off =
    final-look (λ t. if needs_none t command v n then done else push_listed command v n (others_above t command v n)) s
    ∙ by_need s command n v (needs_none s command v n) off
