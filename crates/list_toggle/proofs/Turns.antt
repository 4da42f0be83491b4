-- The loop that collects items from the first members of a list.
use Rattle.std.proofs.Common.{◌≡◌, ℕ, ◌+◌, ◌-◌, ◌<◌, ◌≤◌, true, false, ◌||◌, Option, Some, None, List, [], ◌∷◌, ◌++◌, drop, length, refl, sym, ap, subst, ◌∙◌, arith, codes}
use Rattle.std.specs.Prelude.{bytes_eq}
use Rattle.std.specs.Option.{option_map_or, option_and_then}
use Rattle.edit_model.specs.DomModel.declared.Content.{Content}
use Rattle.edit_model.specs.DomModel.declared.Content.TheVariants.{Document, Element, Words, Remark}
use Rattle.edit_model.specs.DomModel.Contents.{name_in, is_element, is_element_at}
use Rattle.edit_model.specs.DomModel.Forest.{content_of, first_in}
use Rattle.edit_model.specs.NodeArena.declared.NodeRef.{NodeRef}
use Rattle.edit_model.specs.Gives.{label_of, labels_of, Fails}
use Rattle.edit_model.specs.Run.{Run, ◌>>=◌, final, value, answer, given, while_at_most}
use Rattle.edit_model.specs.State.{State}
use Rattle.edit_model.specs.declared.settings.EditFault.{EditFault}
use Rattle.edit_model.proofs.Steps.{final-bind, value-bind, final-answer, value-answer, final-look, value-look, fails-bind, final_while_turn, value_while_turn, final_while_stop, value_while_stop, while_end}
use Rattle.inline_value.specs.WrapSplit.Walks.{turn_bound}
use Rattle.inline_value.specs.WrapSplit.Wrap.{one_of}
use Rattle.block_commands.proofs.Counting.{drop_more}
use Rattle.list_toggle.specs.Collecting.{Made, Collected, is_container, make_item, goes_on, collect_next, collect_items}

-- a p or div is an element
two_names : (a b : List ℕ) (o : Option Content) →
    (option_map_or (λ own. bytes_eq own a) (option_and_then name_in o) false || option_map_or (λ own. bytes_eq own b) (option_and_then name_in o) false) ≡ true →
    option_map_or is_element o false ≡ true
two_names a b None h = absurd (let none = h in cc)
two_names a b (Some Document) h = absurd (let none = h in cc)
two_names a b (Some (Element own attributes)) h = refl
two_names a b (Some (Words chars)) h = absurd (let none = h in cc)
two_names a b (Some (Remark chars)) h = absurd (let none = h in cc)

pub container_is_element : (s : State) (l : ℕ) → is_container s l ≡ true → is_element_at s.trees l ≡ true
unfolding is_container
container_is_element s l h = two_names (codes "p") (codes "div") (content_of s.trees l) h

-- one turn, where the first member has the label l
module _ (items more xs : List NodeRef) (l : ℕ) (s t : State) (item : Option NodeRef) (count : ℕ) (first : first_in (labels_of xs) ≡ Some l) where
  -- what follows the making of an item
  abbrev after : Made → Run Collected
  after made = answer (labels_of items ++ one_of made.0, made.1)

  takes : collect_next (labels_of items, labels_of xs) ≡ (make_item (labels_of xs) l >>= after)
  unfolding collect_next
  takes = ap (λ o. given o (answer (labels_of items, labels_of xs)) (λ x. make_item (labels_of xs) x >>= after)) first

  pub next_ends : final (make_item (labels_of xs) l) s ≡ t → final (collect_next (labels_of items, labels_of xs)) s ≡ t
  next_ends ends = ap (λ (m : Run Collected). final m s) takes ∙ (final-bind (make_item (labels_of xs) l) after s ∙ (final-answer _ (final (make_item (labels_of xs) l) s) ∙ ends))

  pub next_answers : value (make_item (labels_of xs) l) s ≡ (label_of item, labels_of (drop count xs)) → labels_of more ≡ labels_of items ++ one_of (label_of item) → value (collect_next (labels_of items, labels_of xs)) s ≡ (labels_of more, labels_of (drop count xs))
  next_answers answers pushed =
      ap (λ (m : Run Collected). value m s) takes
      ∙ (value-bind (make_item (labels_of xs) l) after s
      ∙ (value-answer _ (final (make_item (labels_of xs) l) s)
      ∙ (ap (λ (made : Made). (labels_of items ++ one_of made.0, made.1)) answers
      ∙ ap (λ ls. (ls, labels_of (drop count xs))) (sym pushed))))

-- where it goes on, members are left
pub goes_on_some : (s : State) (items : List ℕ) (xs : List NodeRef) → goes_on s (items, labels_of xs) ≡ true → 0 < length xs
unfolding goes_on
goes_on_some s items [] on = absurd (let o = on in cc)
goes_on_some s items (x ∷ xs) on = omega arith

module _ (xs : List NodeRef) where
  abbrev loop : ℕ → Collected → Run Collected
  loop n c = while_at_most n goes_on collect_next c

  -- the items so far, and the members from a place on
  abbrev from : List NodeRef → ℕ → Collected
  from items i = (labels_of items, labels_of (drop i xs))

  abbrev whole : State → Run Collected
  whole s = loop (turn_bound s) ([], labels_of xs)

  module _ (n i : ℕ) (items : List NodeRef) (s : State) (some : 0 < n) (on : goes_on s (from items i) ≡ true) where
    turned : final (loop n (from items i)) s ≡ final (collect_next (from items i) >>= loop (n - 1)) s
    turned = final_while_turn n goes_on collect_next (from items i) s some on

    answered : value (loop n (from items i)) s ≡ value (collect_next (from items i) >>= loop (n - 1)) s
    answered = value_while_turn n goes_on collect_next (from items i) s some on

    module _ (more : List NodeRef) (count : ℕ) (t : State) (ends : final (collect_next (from items i)) s ≡ t)
        (answers : value (collect_next (from items i)) s ≡ (labels_of more, labels_of (drop count (drop i xs)))) where
      next : from more (i + count) ≡ value (collect_next (from items i)) s
      next = sym (answers ∙ ap (λ (ys : List NodeRef). (labels_of more, labels_of ys)) (drop_more xs i count))

      pub turn_ends : final (loop (n - 1) (from more (i + count))) t ≡ final (loop n (from items i)) s
      turn_ends =
          ap (λ c. final (loop (n - 1) c) t) next
          ∙ (ap (final (loop (n - 1) (value (collect_next (from items i)) s))) (sym ends)
          ∙ (sym (final-bind (collect_next (from items i)) (loop (n - 1)) s) ∙ sym turned))

      pub turn_answers : value (loop (n - 1) (from more (i + count))) t ≡ value (loop n (from items i)) s
      turn_answers =
          ap (λ c. value (loop (n - 1) c) t) next
          ∙ (ap (value (loop (n - 1) (value (collect_next (from items i)) s))) (sym ends)
          ∙ (sym (value-bind (collect_next (from items i)) (loop (n - 1)) s) ∙ sym answered))

    -- what ends past the cap in one turn does so in all
    pub collect_fails : (e : EditFault) (first : State) → final (loop n (from items i)) s ≡ final (whole first) first → Fails e (final (collect_next (from items i)) s) → Fails e (final (collect_items (labels_of xs)) first)
    unfolding collect_items
    collect_fails e first same h =
        let here : Fails e (final (loop n (from items i)) s) = subst (Fails e) (sym turned) (fails-bind e (collect_next (from items i)) (loop (n - 1)) s h) in
        subst (Fails e) (same ∙ sym (final-look whole first)) here

  module _ (n i : ℕ) (items : List NodeRef) (s first : State) (off : goes_on s (from items i) ≡ false) where
    pub stop_ends : final (loop n (from items i)) s ≡ final (whole first) first → final (collect_items (labels_of xs)) first ≡ s
    unfolding collect_items
    stop_ends same = final-look whole first ∙ (sym same ∙ final_while_stop n goes_on collect_next (from items i) s off)

    pub stop_answers : value (loop n (from items i)) s ≡ value (whole first) first → value (collect_items (labels_of xs)) first ≡ from items i
    unfolding collect_items
    stop_answers same = value-look whole first ∙ (sym same ∙ value_while_stop n goes_on collect_next (from items i) s off)

  module _ (n i : ℕ) (items : List NodeRef) (s first : State) (none : n ≤ 0) where
    pub end_ends : final (loop n (from items i)) s ≡ final (whole first) first → final (collect_items (labels_of xs)) first ≡ s
    unfolding collect_items
    end_ends same =
        final-look whole first
        ∙ (sym same ∙ (ap (λ (m : Run Collected). final m s) (while_end n goes_on collect_next (from items i) none) ∙ final-answer (from items i) s))

    pub end_answers : value (loop n (from items i)) s ≡ value (whole first) first → value (collect_items (labels_of xs)) first ≡ from items i
    unfolding collect_items
    end_answers same =
        value-look whole first
        ∙ (sym same ∙ (ap (λ (m : Run Collected). value m s) (while_end n goes_on collect_next (from items i) none) ∙ value-answer (from items i) s))
