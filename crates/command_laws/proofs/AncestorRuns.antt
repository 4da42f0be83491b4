-- Fixing disallowed ancestors keeps the order, and leaves the states of contenteditable.
use Rattle.std.proofs.Common.{◌≡◌, ℕ, Bool, true, false, ◌&&◌, ◌||◌, not, if◌then◌else◌, List, [], ◌∷◌, Option, Some, None, refl, sym, ap, subst, ◌∙◌, true≢false}
use Rattle.std.specs.Prelude.{codes, bytes_eq, find}
use Rattle.std.specs.List.{AllByRecursion}
use Rattle.std.specs.Option.{option_map_or, option_and_then}
use Rattle.edit_model.specs.DomModel.declared.Content.{Content}
use Rattle.edit_model.specs.DomModel.declared.Content.TheVariants.{Document, Element, Words, Remark}
use Rattle.edit_model.specs.DomModel.declared.attributes.Attribute.{Attribute}
use Rattle.edit_model.specs.DomModel.Contents.{name_in, name_of}
use Rattle.edit_model.specs.DomModel.Forest.{Forest, is_label, content_of}
use Rattle.edit_model.proofs.DomModel.Links.{eqb_refl_true}
use Rattle.inline_value.proofs.CssValue.Names.{same-name}
use Rattle.edit_model.specs.HtmlNames.AllowedChildren.{contents, listed_children, bound_names, is_kept_out, allowed_child}
use Rattle.edit_model.specs.HtmlNames.ElementNames.{is_one_of, prohibited_child_names, heading_names, is_prohibited_child, is_heading}
use Rattle.inline_value.specs.NodeStyles.Allowed.{is_barred, name_allowed_in, allowed_in}
use Rattle.edit_model.specs.State.{State}
use Rattle.edit_model.specs.Compositions.{set_tag_name}
use Rattle.edit_model.specs.Confined.{is_editable_for, is_inside}
use Rattle.edit_model.specs.Kept.{borne_by, is_thing}
use Rattle.edit_model.specs.Valid.{IsValid}
use Rattle.edit_model.specs.Run.{final, done}
use Rattle.edit_model.proofs.Steps.{final-look}
use Rattle.edit_laws.specs.MoveLaws.{IsBare}
use Rattle.edit_laws.specs.Order.{KeepsOrder, IsKeeping}
use Rattle.edit_laws.specs.Steady.{Steady}
use Rattle.edit_laws.specs.OrderPreserving.{OrderPreserving}
use Rattle.edit_laws.proofs.Renaming.{tag_name_keeps}
use Rattle.edit_laws.proofs.SteadyRuns.{steady_parts, steady_bind, steady_answer}
use Rattle.edit_laws.proofs.OrderPreserving.{order_preserving, order_preserving_answer, order_preserving_bind}
use Rattle.inline_value.specs.WrapSplit.declared.rule.Criterion.TheVariants.{Named}
use Rattle.inline_value.specs.WrapSplit.declared.rule.Recipe.TheVariants.{Make}
use Rattle.inline_value.specs.EditQuery.Rows.{container_name}
use Rattle.inline_value.specs.Ancestors.{is_prohibited, has_place, lifted, lift, is_description, description_list, wrap_description, hosts_none, split_out, part_child, part_children, lift_renamed, rename, replace_misplaced, fix_ancestors}
use Rattle.command_laws.proofs.HostLine.{host_among}
use Rattle.command_laws.proofs.PushingRuns.{order_preserving_record_values, order_preserving_restore_values, steady_record_values, steady_restore_values}
use Rattle.command_laws.proofs.Splitting.{then_order_preserving_on, order_preserving_split_one, order_preserving_split_around}
use Rattle.command_laws.proofs.SteadySplits.{steady_split, steady_split_around}
use Rattle.command_laws.proofs.SteadyWraps.{steady_wrap}
use Rattle.command_laws.proofs.Wrapping.{order_preserving_wrap_one}

-- ---- where a paragraph may stand, a rule may

find_all : {A : Type 0} (list : List A) (test : A → Bool) (P : A → Type 0) → AllByRecursion P list → (x : A) → find test list ≡ Some x → P x
find_all [] test P all x e = absurd (let t = e in cc)
find_all (y ∷ list) test P all x e = by_test (test y) e (find_all list test P all.1 x)
  where
    by_test : (v : Bool) → (if v then Some y else find test list) ≡ Some x → (find test list ≡ Some x → P x) → P x
    by_test true k more = (let same : y ≡ x = (let t = k in cc) in subst P same all.0)
    by_test false k more = more k

-- no row lists a paragraph
row_without : (parent : List ℕ) (row : List (List ℕ) × List (List ℕ)) → listed_children parent ≡ Some row → is_one_of row.1 (codes "p") ≡ false
unfolding listed_children contents
row_without parent row e = find_all contents (λ row. is_one_of row.0 parent) (λ row. is_one_of row.1 (codes "p") ≡ false) (refl, (refl, (refl, (refl, (refl, (refl, (refl, tt))))))) row e

rule_allowed : (parent : List ℕ) → allowed_child (codes "p") parent ≡ true → allowed_child (codes "hr") parent ≡ true
unfolding allowed_child is_kept_out bound_names is_prohibited_child prohibited_child_names is_heading heading_names
rule_allowed parent h = by_row (listed_children parent) refl
  where
    by_row : (o : Option (List (List ℕ) × List (List ℕ))) → listed_children parent ≡ o → allowed_child (codes "hr") parent ≡ true
    by_row None e = (let h' = rw e at h in rw e h')
    by_row (Some row) e = absurd (let h' = rw e at h in true≢false (sym h' ∙ row_without parent row e))

barred_same : (f : Forest Content) (parent : ℕ) → is_barred (codes "hr") f parent ≡ is_barred (codes "p") f parent
unfolding is_barred is_prohibited_child prohibited_child_names is_heading heading_names
barred_same f parent = refl

rule_stands : (f : Forest Content) (parent : ℕ) → name_allowed_in (codes "p") f parent ≡ true → name_allowed_in (codes "hr") f parent ≡ true
unfolding name_allowed_in
rule_stands f parent h = by_name (name_of f parent) h
  where
    by_bar : (v w : Bool) (name : List ℕ) → v ≡ w → (not w && allowed_child (codes "p") name) ≡ true → (not v && allowed_child (codes "hr") name) ≡ true
    by_bar true true name e k = k
    by_bar true false name e k = absurd (true≢false e)
    by_bar false true name e k = absurd (true≢false (sym e))
    by_bar false false name e k = rule_allowed name k

    by_name : (o : Option (List ℕ)) → option_map_or (λ name. not (is_barred (codes "p") f parent) && allowed_child (codes "p") name) o false ≡ true → option_map_or (λ name. not (is_barred (codes "hr") f parent) && allowed_child (codes "hr") name) o false ≡ true
    by_name None k = k
    by_name (Some name) k = by_bar (is_barred (codes "hr") f parent) (is_barred (codes "p") f parent) name (barred_same f parent) k

-- ---- what is renamed bears nothing itself

prohibited_img : is_prohibited_child (codes "img") ≡ false
unfolding is_prohibited_child prohibited_child_names
prohibited_img = refl

module _ (s : State) (is : IsValid s) (n : ℕ) (editable : is_editable_for s n ≡ true) (placeless : has_place s n ≡ false) (hosts : hosts_none s ≡ false) where
  -- a rule has a place, since a paragraph may stand in the host
  rule_placed : (attributes : List Attribute) → content_of s.trees n ≡ Some (Element (codes "hr") attributes) → has_place s n ≡ true
  unfolding has_place is_inside hosts_none allowed_in
  rule_placed attributes e = host_among s is n editable (λ a. is_inside s a && allowed_in s.trees n a) (λ h host. passes h host)
    where
      stands : (h : ℕ) → s.host ≡ Some h → name_allowed_in (codes "p") s.trees h ≡ true
      stands h host = by_value (name_allowed_in (codes "p") s.trees h) (sym (ap (λ o. not (option_map_or (λ h. name_allowed_in (codes "p") s.trees h) o false)) host) ∙ hosts)
        where
          by_value : (v : Bool) → not v ≡ false → v ≡ true
          by_value true k = refl
          by_value false k = absurd (true≢false k)

      inside : (h : ℕ) → s.host ≡ Some h → is_inside s h ≡ true
      inside h host = ap (λ o. is_label o h || is_editable_for s h) host ∙ rw (eqb_refl_true h) refl

      passes : (h : ℕ) → s.host ≡ Some h → (is_inside s h && allowed_in s.trees n h) ≡ true
      passes h host = rw (inside h host, e) (rule_stands s.trees h (stands h host))

  renamed_bare : is_prohibited s n ≡ true → IsBare s n
  unfolding is_prohibited borne_by
  renamed_bare h Document e = refl
  renamed_bare h (Element name attributes) e = by_name (bytes_eq name (codes "img")) (bytes_eq name (codes "hr")) refl refl
    where
      own : is_prohibited_child name ≡ true
      own = sym (ap (λ (o : Option Content). option_map_or is_prohibited_child (option_and_then name_in o) false) e) ∙ h

      by_name : (v w : Bool) → bytes_eq name (codes "img") ≡ v → bytes_eq name (codes "hr") ≡ w → borne_by n (Element name attributes) ≡ []
      by_name true w p q = absurd (true≢false (sym own ∙ (ap is_prohibited_child (same-name name (codes "img") p) ∙ prohibited_img)))
      by_name false true p q = absurd (true≢false (sym (rule_placed attributes (e ∙ ap (λ k. Some (Element k attributes)) (same-name name (codes "hr") q))) ∙ placeless))
      by_name false false p q = rw (p, q) refl
  renamed_bare h (Words chars) e = absurd (true≢false (sym h ∙ ap (λ (o : Option Content). option_map_or is_prohibited_child (option_and_then name_in o) false) e))
  renamed_bare h (Remark chars) e = refl

-- ---- the order

order_preserving_lifted : (n : ℕ) → OrderPreserving (lifted n)
unfolding lifted
order_preserving_lifted n = search (order_preserving, order_preserving_split_around)

order_preserving_lift : (n : ℕ) → OrderPreserving (lift n)
unfolding lift
order_preserving_lift n = search (order_preserving, order_preserving_record_values, order_preserving_lifted, order_preserving_restore_values)

order_preserving_description : (n : ℕ) → OrderPreserving (wrap_description n)
unfolding wrap_description
order_preserving_description n = order_preserving_bind _ (λ _. done) (order_preserving_wrap_one (Named (codes "dl") true) (Make description_list) n refl refl) (λ _. order_preserving_answer tt)

order_preserving_split_out : (k : ℕ) → OrderPreserving (split_out k)
unfolding split_out
order_preserving_split_out k = search (order_preserving, order_preserving_record_values, order_preserving_split_one, order_preserving_restore_values)

order_preserving_part_child : (k : ℕ) → OrderPreserving (part_child k)
unfolding part_child
order_preserving_part_child k = search (order_preserving, order_preserving_split_out)

order_preserving_part_children : (n : ℕ) → OrderPreserving (part_children n)
unfolding part_children
order_preserving_part_children n = search (order_preserving, order_preserving_part_child)

order_preserving_lift_renamed : (n : ℕ) → OrderPreserving (lift_renamed n)
unfolding lift_renamed
order_preserving_lift_renamed n = search (order_preserving, order_preserving_lift, order_preserving_part_children)

container_plain : (v : Bool) → is_thing (container_name v) ≡ false
container_plain true = refl
container_plain false = refl

rename_keeps : (n : ℕ) (s : State) → IsKeeping s → IsBare s n → KeepsOrder s (final (rename n) s)
unfolding rename
rename_keeps n s is bare =
    rw final-look
    (then_order_preserving_on (set_tag_name n (container_name s.flags.paragraphs)) lift_renamed s is (tag_name_keeps n (container_name s.flags.paragraphs) s is bare (container_plain s.flags.paragraphs)) order_preserving_lift_renamed)

replace_keeps : (n : ℕ) (s : State) → IsKeeping s → is_editable_for s n ≡ true → has_place s n ≡ false → KeepsOrder s (final (replace_misplaced n) s)
unfolding replace_misplaced
replace_keeps n s is editable placeless = rw final-look (by_test (is_description s n) (hosts_none s) (is_prohibited s n) refl refl)
  where
    by_test : (u v w : Bool) → hosts_none s ≡ v → is_prohibited s n ≡ w → KeepsOrder s (final (if u then wrap_description n else (if v || not w then done else rename n)) s)
    by_test true v w e k = (order_preserving_description n).keeps s is
    by_test false true w e k = (order_preserving_answer tt).keeps s is
    by_test false false false e k = (order_preserving_answer tt).keeps s is
    by_test false false true e k = rename_keeps n s is (renamed_bare s is.valid n editable placeless e k)

pub order_preserving_fix_ancestors : (n : ℕ) → OrderPreserving (fix_ancestors n)
unfolding fix_ancestors
order_preserving_fix_ancestors n = record { keeps = λ s is. rw final-look (by_test s is (is_editable_for s n) (has_place s n) refl refl) }
  where
    by_test : (s : State) → IsKeeping s → (v w : Bool) → is_editable_for s n ≡ v → has_place s n ≡ w → KeepsOrder s (final (if not v then done else (if w then lift n else replace_misplaced n)) s)
    by_test s is false w e k = (order_preserving_answer tt).keeps s is
    by_test s is true true e k = (order_preserving_lift n).keeps s is
    by_test s is true false e k = replace_keeps n s is e k

-- ---- the states of contenteditable

steady_lifted : (n : ℕ) → Steady (lifted n)
unfolding lifted
steady_lifted n = search (steady_parts, steady_split_around)

steady_lift : (n : ℕ) → Steady (lift n)
unfolding lift
steady_lift n = search (steady_parts, steady_record_values, steady_lifted, steady_restore_values)

steady_description : (n : ℕ) → Steady (wrap_description n)
unfolding wrap_description
steady_description n = steady_bind _ (λ _. done) (steady_wrap (Named (codes "dl") true) (Make description_list) refl (n ∷ [])) (λ _. steady_answer tt)

steady_split_out : (k : ℕ) → Steady (split_out k)
unfolding split_out
steady_split_out k = search (steady_parts, steady_record_values, steady_split, steady_restore_values)

steady_part_child : (k : ℕ) → Steady (part_child k)
unfolding part_child
steady_part_child k = search (steady_parts, steady_split_out)

steady_part_children : (n : ℕ) → Steady (part_children n)
unfolding part_children
steady_part_children n = search (steady_parts, steady_part_child)

steady_lift_renamed : (n : ℕ) → Steady (lift_renamed n)
unfolding lift_renamed
steady_lift_renamed n = search (steady_parts, steady_lift, steady_part_children)

steady_rename : (n : ℕ) → Steady (rename n)
unfolding rename
steady_rename n = search (steady_parts, steady_lift_renamed)

steady_replace : (n : ℕ) → Steady (replace_misplaced n)
unfolding replace_misplaced
steady_replace n = search (steady_parts, steady_description, steady_rename)

pub steady_fix_ancestors : (n : ℕ) → Steady (fix_ancestors n)
unfolding fix_ancestors
steady_fix_ancestors n = search (steady_parts, steady_lift, steady_replace)
