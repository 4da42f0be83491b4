-- Where a rule may stand in the node into which it is put, nothing is removed: it isn't lifted, and each value that is restored is there.
use Rattle.std.proofs.Common.{◌≡◌, ℕ, zero, suc, ◌<◌, Bool, true, false, ◌&&◌, not, if◌then◌else◌, List, [], ◌∷◌, ◌++◌, map, Option, Some, None, refl, sym, ap, subst, ◌∙◌, true≢false}
use Rattle.std.specs.Prelude.{codes}
use Rattle.std.specs.List.{list_any}
use Rattle.std.specs.Option.{option_map_or}
use Rattle.std.proofs.lemmas.Slice.Eq.{bytes_eq-Decides}
use Rattle.edit_model.specs.HtmlNames.declared.commands.Command.{Command}
use Rattle.edit_model.specs.DomModel.declared.attributes.Attribute.{Attribute}
use Rattle.edit_model.specs.DomModel.declared.Content.{Content}
use Rattle.edit_model.specs.DomModel.Editing.{editing_host, is_editable}
use Rattle.edit_model.specs.DomModel.Forest.{Forest, parent_of, count_of, IsDistinct}
use Rattle.edit_model.proofs.DomModel.Hosts.{editing_host-root}
use Rattle.edit_model.proofs.DomModel.Links.{parent_count}
use Rattle.inline_value.specs.NodeStyles.Allowed.{allowed_in}
use Rattle.inline_value.specs.NodeStyles.Lineage.{Ancestor, lineage}
use Rattle.inline_value.proofs.NodeStyles.Lineages.{lineage-root, lineage-child}
use Rattle.inline_value.specs.CommandValue.Equivalence.{are_equivalent, equivalent}
use Rattle.edit_model.specs.Action.{Action, Change, MakeElement, MakeWords}
use Rattle.edit_model.specs.Action as action
use Rattle.edit_model.specs.Confined.{is_editable_for, is_inside}
use Rattle.edit_model.specs.Edit.{Insert, Remove, Move, Replace, Set, Unset}
use Rattle.edit_model.specs.Run.{Reaches, here, onward, Run, ◌>>=◌, ◌>>◌, final, value, answer, done, look, for_each, while_at_most, collapse}
use Rattle.edit_model.specs.State.{State}
use Rattle.edit_model.specs.Valid.{IsValid}
use Rattle.edit_model.proofs.IslandRuns.{content_at}
use Rattle.edit_model.proofs.Each.{EachOn, Each, each_bind, each_answer, each_look, each_if, each_given, each_edit, each_make_element, each_perform}
use Rattle.edit_model.proofs.Tests.{label_is}
use Rattle.edit_model.proofs.ValidRuns.{valid_along}
use Rattle.edit_laws.proofs.Hosts.{parent_inside}
use Rattle.inline_value.specs.WrapSplit.Split.{split_around}
use Rattle.inline_value.specs.WrapSplit.Walks.{turn_bound}
use Rattle.inline_value.specs.Forcing.{above, ancestors, force}
use Rattle.inline_value.specs.Recording.{Recorded, recorded_commands, given_value, value_at, values_at, values_of, record_values, restored_to, restore_value, restore_values}
use Rattle.inline_value.specs.Ancestors.{has_place, is_misplaced, lifted, lift, replace_misplaced, fix_ancestors}
use Rattle.text_insertion.specs.Start.{active_start, cuts_text, insert_at, insert_at_start}
use Rattle.insert_objects.specs.Putting.{collapse_before, collapse_after, leave_text, put}
use Rattle.insert_objects.specs.Rule.{put_rule}
use Rattle.delete_core.specs.Places.{before_node, after_node}
use Rattle.caret_laws.specs.RuleLaws.{RuleFits}
use Rattle.caret_laws.specs.Sparing.{Spares, SparesOn}
use Rattle.caret_laws.proofs.SparingRuns.{spares_both}
use Rattle.caret_laws.proofs.SplitTexts.{Remaining, each_split}

-- ---- what takes nothing out

remaining_spares : (a : Action) (s : State) → Remaining a s → Spares a s
remaining_spares (Change (Insert p b n)) s h = tt
remaining_spares (Change (Remove n)) s h = absurd h
remaining_spares (Change (Move n p b)) s h = tt
remaining_spares (Change (Replace n at count put)) s h = tt
remaining_spares (Change (Set n name v)) s h = tt
remaining_spares (Change (Unset n name)) s h = tt
remaining_spares (MakeElement name attributes) s h = tt
remaining_spares (MakeWords chars) s h = tt
remaining_spares (action.Select anchor focus) s h = tt
remaining_spares (action.Extend focus) s h = tt
remaining_spares action.Unselect s h = tt
remaining_spares (action.Grow at) s h = tt
remaining_spares (action.Send node at tail) s h = tt
remaining_spares (action.Scratch pair) s h = tt
remaining_spares (action.Override command setting) s h = tt
remaining_spares (action.Flag flags) s h = tt
remaining_spares (action.Extract from end target) s h = tt

spared : {s t : State} (r : Reaches s t) → EachOn Remaining r → SparesOn r
spared here h = tt
spared (onward {t = t} q a) h = (spared q h.0, remaining_spares a t h.1)

spared_run : {T : Type 0} (m : Run T) (s : State) → IsValid s → Each Remaining m → SparesOn (m.by_actions s)
spared_run m s is each = spared (m.by_actions s) (each.on s is)

each_after : (n : ℕ) → Each Remaining (collapse_after n)
unfolding collapse_after
each_after n = each_look Remaining _ (λ s is. each_given Remaining (after_node s.trees n) done collapse (each_answer Remaining tt) (λ q. each_perform Remaining (action.Select q q) (λ _ _. tt)))

each_before : (n : ℕ) → Each Remaining (collapse_before n)
unfolding collapse_before
each_before n = each_look Remaining _ (λ s is. each_given Remaining (before_node s.trees n) done collapse (each_answer Remaining tt) (λ q. each_perform Remaining (action.Select q q) (λ _ _. tt)))

each_leave : Each Remaining leave_text
unfolding leave_text
each_leave = each_look Remaining _ (λ s is. each_given Remaining (active_start s) done _ (each_answer Remaining tt) (λ p.
    each_if Remaining (cuts_text s.trees p) _ _ (each_bind Remaining _ _ (each_split p.label p.offset) (λ _. each_after p.label))
    (each_if Remaining _ done _ (each_answer Remaining tt) (each_if Remaining _ _ _ (each_after p.label) (each_before p.label)))))

each_insert : (n : ℕ) → Each Remaining (insert_at_start n)
unfolding insert_at_start insert_at
each_insert n = each_look Remaining _ (λ s is. each_given Remaining (active_start s) done _ (each_answer Remaining tt) (λ p.
    each_look Remaining _ (λ u _. each_bind Remaining _ _ (each_edit Remaining (Insert p.label _ n) (λ _ _. tt)) (λ _. each_answer Remaining tt))))

each_put : (name : List ℕ) (attributes : List Attribute) → Each Remaining (put name attributes)
unfolding put
each_put name attributes =
    each_bind Remaining _ _ (each_make_element Remaining name attributes (λ _ _. tt)) (λ n.
    each_bind Remaining _ _ each_leave (λ _. each_bind Remaining _ _ (each_insert n) (λ _. each_answer Remaining n)))

each_last : (n : ℕ) → Each Remaining (collapse_after n >> answer true)
each_last n = each_bind Remaining (collapse_after n) (λ _. answer true) (each_after n) (λ _. each_answer Remaining true)

-- ---- what does nothing

record Idle {T : Type 0} (m : Run T) (v : State) : Type 0 where
  ends : final m v ≡ v
  spares : SparesOn (m.by_actions v)

idle_answer : {T : Type 0} (a : T) (v : State) → Idle (answer a) v
unfolding answer final
idle_answer a v = record { ends = refl; spares = tt }

idle_look : {T : Type 0} (k : State → Run T) (v : State) → Idle (k v) v → Idle (look k) v
unfolding look final
idle_look k v h = record { ends = h.ends; spares = h.spares }

idle_bind : {T U : Type 0} (m : Run T) (k : T → Run U) (v : State) → Idle m v → Idle (k (value m v)) v → Idle (m >>= k) v
unfolding ◌>>=◌ final value
idle_bind m k v h g =
    let rest = k (value m v) in
    record {
      ends = ap (final rest) h.ends ∙ g.ends;
      spares = spares_both (m.by_actions v) (rest.by_actions (final m v)) h.spares (subst (λ w. SparesOn (rest.by_actions w)) (sym h.ends) g.spares);
    }

idle_while : {A : Type 0} (n : ℕ) (test : State → A → Bool) (body : A → Run A) (a : A) (v : State) → test v a ≡ false → Idle (while_at_most n test body a) v
unfolding while_at_most
idle_while zero test body a v e = idle_answer a v
idle_while (suc n) test body a v e =
    idle_look (λ s. if test s a then (body a >>= while_at_most n test body) else answer a) v
    (subst (λ w. Idle (if w then (body a >>= while_at_most n test body) else answer a) v) (sym e) (idle_answer a v))

-- ---- values that are there

same_value : (command : Command) (w : List ℕ) → equivalent command (Some w) (Some w) ≡ true
unfolding equivalent are_equivalent
same_value command w = let e = (bytes_eq-Decides w w).1 refl in rw e refl

abbrev AsGiven : State → Recorded → Type 0
AsGiven v r = r.value ≡ given_value v.trees r.node r.command

abbrev AllGiven : State → List Recorded → Type 0
AllGiven v [] = Unit {0}
AllGiven v (r ∷ list) = AsGiven v r × AllGiven v list

idle_value : (r : Recorded) (v : State) → AsGiven v r → Idle (restore_value r) v
unfolding restore_value
idle_value r v e = idle_look (λ s. restored_to r.command r.node r.value (given_value s.trees r.node r.command)) v
    (subst (λ o. Idle (restored_to r.command r.node r.value o) v) e (by r.value))
  where
    by : (o : Option (List ℕ)) → Idle (restored_to r.command r.node o o) v
    by None = idle_answer tt v
    by (Some w) = subst (λ t. Idle (if t then done else force r.command (Some w) r.node) v) (sym (same_value r.command w)) (idle_answer tt v)

idle_values : (list : List Recorded) (v : State) → AllGiven v list → Idle (restore_values list) v
unfolding restore_values for_each
idle_values [] v all = idle_answer tt v
idle_values (r ∷ list) v all = idle_bind (restore_value r) (λ _. for_each list restore_value) v (idle_value r v all.0) (idle_values list v all.1)

values_given : (v : State) (n : ℕ) → AllGiven v (values_of v (n ∷ []))
unfolding values_of values_at value_at
values_given v n = by recorded_commands
  where
    by : (cs : List Command) → AllGiven v (map (value_at v n) cs ++ [])
    by [] = tt
    by (c ∷ cs) = (refl, by cs)

-- ---- a node that isn't lifted

-- a lineage begins with its node
line_begins : (f : Forest Content) (l : ℕ) → IsDistinct f → 0 < count_of f l → (c : Content) × (rest : List Ancestor) × (lineage f l ≡ record { label = l; content = c } ∷ rest)
line_begins f l once there = by (parent_of f l) refl
  where
    by : (o : Option ℕ) → parent_of f l ≡ o → (c : Content) × (rest : List Ancestor) × (lineage f l ≡ record { label = l; content = c } ∷ rest)
    by None root = (let c = content_at f once l there in (c.0, [], lineage-root f once l c.0 there root c.1))
    by (Some p) up = (let c = content_at f once l there in (c.0, lineage f p, lineage-child f once l p c.0 up c.1))

module _ (n : ℕ) (v : State) (fits : (q : ℕ) → parent_of v.trees n ≡ Some q → allowed_in v.trees n q ≡ true) where
  placed : is_misplaced v n ≡ false
  placed = by (parent_of v.trees n) refl
    where
      by : (o : Option ℕ) → parent_of v.trees n ≡ o → option_map_or (λ p. not (allowed_in v.trees n p)) o false ≡ false
      by None e = refl
      by (Some q) e = rw (fits q e) refl

  idle_lifted : Idle (lifted n) v
  unfolding lifted
  idle_lifted = idle_look (λ s. while_at_most (turn_bound s) is_misplaced split_around n >> done) v
      (idle_bind (while_at_most (turn_bound v) is_misplaced split_around n) (λ _. done) v (idle_while (turn_bound v) is_misplaced split_around n v placed) (idle_answer tt v))

  all_given : AllGiven v (value (record_values (n ∷ [])) v)
  unfolding record_values look answer value
  all_given = values_given v n

  recording : Idle (record_values (n ∷ [])) v
  unfolding record_values
  recording = idle_look (λ s. answer (values_of s (n ∷ []))) v (idle_answer (values_of v (n ∷ [])) v)

  idle_lift : Idle (lift n) v
  unfolding lift
  idle_lift =
      let list = value (record_values (n ∷ [])) v in
      idle_bind (record_values (n ∷ [])) (λ list. lifted n >> restore_values list) v recording
      (idle_bind (lifted n) (λ _. restore_values list) v idle_lifted (idle_values list v all_given))

  -- an editable node has a place where it may stand in its parent
  has_one : IsValid v → is_editable_for v n ≡ true → has_place v n ≡ true
  unfolding has_place ancestors is_editable_for
  has_one is editable = by (parent_of v.trees n) refl
    where
      once : IsDistinct v.trees
      once = is.forest.distinct

      rootless : parent_of v.trees n ≡ None → ⊥
      rootless root = by_host v.host editable
        where
          by_host : (o : Option ℕ) → option_map_or (λ h. is_editable v.trees h n) o false ≡ true → ⊥
          by_host None e = true≢false (sym e)
          by_host (Some h) e = (let t : None ≡ Some h = sym (editing_host-root v.trees once n root) ∙ label_is (editing_host v.trees n) h e in cc)

      by : (o : Option ℕ) → parent_of v.trees n ≡ o → list_any (λ a. is_inside v a && allowed_in v.trees n a) (above (lineage v.trees n)) ≡ true
      by None e = absurd (rootless e)
      by (Some q) e =
          let counts = parent_count v.trees n q once e in
          let c = content_at v.trees once n counts.0 in
          let up = line_begins v.trees q once counts.1 in
          let line : lineage v.trees n ≡ record { label = n; content = c.0 } ∷ record { label = q; content = up.0 } ∷ up.1 =
          lineage-child v.trees once n q c.0 e c.1 ∙ ap (λ (o : List Ancestor). record { label = n; content = c.0 } ∷ o) up.2 in
          ap (λ list. list_any (λ a. is_inside v a && allowed_in v.trees n a) (above list)) line
          ∙ rw (parent_inside v is n q e editable, fits q e) refl

  fixing_spares : IsValid v → SparesOn ((fix_ancestors n).by_actions v)
  unfolding fix_ancestors look
  fixing_spares is = by (is_editable_for v n) (has_place v n) refl (has_one is)
    where
      by : (e w : Bool) → is_editable_for v n ≡ e → (is_editable_for v n ≡ true → w ≡ true) → SparesOn ((if not e then done else (if w then lift n else replace_misplaced n)).by_actions v)
      by false w e h = (idle_answer tt v).spares
      by true true e h = idle_lift.spares
      by true false e h = absurd (true≢false (sym (h e)))

-- ---- the whole

pub fitting_spares : (s : State) → IsValid s → RuleFits s → SparesOn (put_rule.by_actions s)
unfolding put_rule ◌>>=◌ final value
fitting_spares s is fits =
    let make = put (codes "hr") [] in
    let n = value make s in
    let v = final make s in
    let is_v : IsValid v = valid_along (make.by_actions s) is in
    let w = final (fix_ancestors n) v in
    let is_w : IsValid w = valid_along ((fix_ancestors n).by_actions v) is_v in
    spares_both (make.by_actions s) ((fix_ancestors n >> (collapse_after n >> answer true)).by_actions v) (spared_run make s is (each_put (codes "hr") []))
    (spares_both ((fix_ancestors n).by_actions v) ((collapse_after n >> answer true).by_actions w) (fixing_spares n v fits is_v) (spared_run (collapse_after n >> answer true) w is_w (each_last n)))
