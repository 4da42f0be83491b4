-- Indent and outdent keep to the grammar.
use Rattle.std.proofs.Common.{◌≡◌, ℕ, Bool, true, false, if◌then◌else◌, List, [], ◌∷◌, reverse, Option, Some, None, refl, sym, subst, zero, suc, length, true≢false, inl, inr}
use Rattle.std.specs.Prelude.{codes, bytes_eq, unwrap_or}
use Rattle.std.specs.Option.{option_map_or}
use Rattle.std.proofs.lemmas.Bool.{or_cases}
use Rattle.std.proofs.lemmas.Slice.Eq.{bytes_eq-Decides}
use Rattle.edit_model.specs.DomModel.Contents.{has_name, name_of}
use Rattle.edit_model.specs.DomModel.Forest.{first_in, parent_of}
use Rattle.edit_model.specs.State.{State}
use Rattle.edit_model.specs.Compositions.{tag_of}
use Rattle.edit_model.specs.Valid.{IsValid}
use Rattle.edit_model.specs.Run.{Run, done, given, look}
use Rattle.inline_value.specs.WrapSplit.declared.rule.Criterion.TheVariants.{Named, SimpleIndentation}
use Rattle.inline_value.specs.WrapSplit.declared.rule.Recipe.TheVariants.{Make}
use Rattle.inline_value.specs.Wrappers.{bare}
use Rattle.list_indent.specs.Sublists.{is_list}
use Rattle.list_indent.specs.Indenting.{if_list, nested, fixed, quoted, indent_list}
use Rattle.list_indent.specs.Outdenting.{to_div, unboxed, unindented, unwrapped, released, outdent_list, part_around, part_level, part_levels, outdent_through, outdent_along, outdent_node}
use Rattle.list_indent.specs.Commands.{normalize_range, normalize_before, goes_on, indent_nodes, indent, split_items, goes_on_items, outdent_series, outdent_nodes, outdent}
use Rattle.list_indent.specs.Series.{take_series, series_at_most, for_series}
use Rattle.making_laws.specs.Names.{made_names, is_made_name}
use Rattle.grammar_laws.specs.Proper.{IsProperState}
use Rattle.grammar_laws.specs.Runs.{Proper}
use Rattle.grammar_laws.proofs.Lists.{list_none}
use Rattle.making_laws.proofs.TameRuns.{made_div}
use Rattle.grammar_laws.proofs.ProperRuns.{At, at_look, proper_answer, proper_bind, proper_given, proper_look, proper_look_at, proper_parts}
use Rattle.grammar_laws.proofs.AncestorRuns.{proper_fix_ancestors}
use Rattle.grammar_laws.proofs.Splits.{proper_keeping_children, proper_split}
use Rattle.grammar_laws.proofs.SublistRuns.{proper_normalize}
use Rattle.grammar_laws.proofs.PushingRuns.{proper_recorded, proper_restore_values}
use Rattle.grammar_laws.proofs.StylingRuns.{proper_unset_style}
use Rattle.grammar_laws.proofs.Wraps.{proper_wrap}

-- ---- lists taken series by series

proper_series_at_most : (n : ℕ) (on : State → ℕ → ℕ → Bool) (body : List ℕ → Run (Unit {0})) → ((list : List ℕ) → Proper (body list)) → (list : List ℕ) → Proper (series_at_most n on body list)
unfolding series_at_most
proper_series_at_most zero on body h list = proper_answer tt
proper_series_at_most (suc n) on body h [] = proper_answer tt
proper_series_at_most (suc n) on body h (x ∷ xs) = proper_look _ (λ s p. (
    let series = take_series (on s) (x ∷ xs) in
    proper_bind (body series.0) (λ _. series_at_most n on body series.1) (h series.0) (λ _. proper_series_at_most n on body h series.1)))

pub proper_series : (on : State → ℕ → ℕ → Bool) (body : List ℕ → Run (Unit {0})) → ((list : List ℕ) → Proper (body list)) → (list : List ℕ) → Proper (for_series on body list)
unfolding for_series
proper_series on body h list = proper_series_at_most (length list) on body h list

-- ---- names

pub made_ol : is_made_name (codes "ol") ≡ true
unfolding is_made_name made_names
made_ol = refl

pub made_ul : is_made_name (codes "ul") ≡ true
unfolding is_made_name made_names
made_ul = refl

made_blockquote : is_made_name (codes "blockquote") ≡ true
unfolding is_made_name made_names
made_blockquote = refl

made_list : (s : State) (p : ℕ) → is_list s p ≡ true → is_made_name (tag_of s.trees p) ≡ true
unfolding is_list
made_list s p h = elim (or_cases (has_name s.trees p (codes "ol")) (has_name s.trees p (codes "ul")) h) [
  | inl t ↦ by_name (codes "ol") made_ol (name_of s.trees p) t
  | inr t ↦ by_name (codes "ul") made_ul (name_of s.trees p) t
]
  where
    by_name : (name : List ℕ) → is_made_name name ≡ true → (o : Option (List ℕ)) → option_map_or (λ own. bytes_eq own name) o false ≡ true → is_made_name (unwrap_or o []) ≡ true
    by_name name made None t = absurd (true≢false (sym t))
    by_name name made (Some own) t = subst (λ n. is_made_name n ≡ true) (sym ((bytes_eq-Decides own name).0 t)) made

-- ---- indenting a list

pub proper_fixed : (o : Option ℕ) → Proper (fixed o)
proper_fixed o = search (proper_parts, proper_fix_ancestors)

proper_quoted : (list : List ℕ) → Proper (quoted list)
unfolding quoted
proper_quoted list = proper_bind _ fixed (proper_wrap SimpleIndentation (Make (bare (codes "blockquote"))) (made_blockquote, list_none) list) proper_fixed

-- the list that is made has the name of one that is there, an ol or ul
nested_at : (s : State) → IsValid s → IsProperState s → (list : List ℕ) (p : ℕ) → is_list s p ≡ true → At s (nested list p)
unfolding nested
nested_at s is proper list p h =
    at_look _ s ((proper_bind _ (λ _. done) (proper_wrap (Named (tag_of s.trees p) false) (Make (bare (tag_of s.trees p))) (made_list s p h, list_none) list) (λ _. proper_answer tt)).stays s is proper)

proper_indent_at : (list : List ℕ) (a : ℕ) → Proper (look λ s. given (if_list s (parent_of s.trees a)) (quoted list) (nested list))
proper_indent_at list a = proper_look_at _ (λ s is proper. by_parent s is proper (parent_of s.trees a))
  where
    by_test : (s : State) → IsValid s → IsProperState s → (p : ℕ) (v : Bool) → is_list s p ≡ v → At s (given (if v then Some p else None) (quoted list) (nested list))
    by_test s is proper p true e = nested_at s is proper list p e
    by_test s is proper p false e = (proper_quoted list).stays s is proper

    by_parent : (s : State) → IsValid s → IsProperState s → (o : Option ℕ) → At s (given (if_list s o) (quoted list) (nested list))
    by_parent s is proper None = (proper_quoted list).stays s is proper
    by_parent s is proper (Some p) = by_test s is proper p (is_list s p) refl

proper_indent_list : (list : List ℕ) → Proper (indent_list list)
unfolding indent_list
proper_indent_list list = proper_given (first_in list) done _ (proper_answer tt) (proper_indent_at list)

-- ---- indent

pub proper_range : Proper normalize_range
unfolding normalize_range
proper_range = search (proper_parts, proper_normalize)

proper_before : (list : List ℕ) → Proper (normalize_before list)
unfolding normalize_before
proper_before list = search (proper_parts, proper_normalize)

proper_indent_nodes : (list : List ℕ) → Proper (indent_nodes list)
unfolding indent_nodes
proper_indent_nodes list = proper_bind _ _ (proper_before list) (λ _. proper_series goes_on indent_list proper_indent_list list)

pub proper_indent : Proper indent
unfolding indent
proper_indent = search (proper_parts, proper_range, proper_indent_nodes)

-- ---- outdenting a node

proper_to_div : (n : ℕ) → Proper (to_div n)
unfolding to_div
proper_to_div n = search (proper_parts, made_div)

proper_unboxed : (n : ℕ) → Proper (unboxed n)
unfolding unboxed
proper_unboxed n = search (proper_parts, proper_unset_style, proper_to_div)

proper_unindented : (n : ℕ) → Proper (unindented n)
unfolding unindented
proper_unindented n = search (proper_parts, proper_keeping_children, proper_unboxed)

proper_unwrapped : (n : ℕ) (children : List ℕ) → Proper (unwrapped n children)
unfolding unwrapped
proper_unwrapped n children = search (proper_recorded, proper_parts, proper_keeping_children, proper_restore_values)

proper_released : (n : ℕ) (children : List ℕ) → Proper (released n children)
unfolding released
proper_released n children = search (proper_parts, proper_to_div, proper_unwrapped)

proper_outdent_list : (n : ℕ) → Proper (outdent_list n)
unfolding outdent_list
proper_outdent_list n = search (proper_parts, proper_released, proper_fix_ancestors) depth 12

proper_part_around : (e t : ℕ) → Proper (part_around e t)
unfolding part_around
proper_part_around e t = search (proper_parts, proper_indent_list) depth 12

proper_part_level : (n : ℕ) (below : Option ℕ) (e : ℕ) → Proper (part_level n below e)
unfolding part_level
proper_part_level n below e = search (proper_parts, proper_part_around)

proper_part_levels : (n : ℕ) (list : List ℕ) → Proper (part_levels n list)
unfolding part_levels
proper_part_levels n [] = proper_answer tt
proper_part_levels n (e ∷ list) = proper_bind (part_level n (first_in list) e) (λ _. part_levels n list) (proper_part_level n (first_in list) e) (λ _. proper_part_levels n list)

proper_through : (n : ℕ) (way : List ℕ) (c : ℕ) → Proper (outdent_through n way c)
unfolding outdent_through
proper_through n way c = proper_bind (part_levels n (c ∷ reverse way)) (λ _. unindented c) (proper_part_levels n (c ∷ reverse way)) (λ _. proper_unindented c)

proper_along : (n : ℕ) (way : List ℕ × Option ℕ) → Proper (outdent_along n way)
unfolding outdent_along
proper_along n way = search (proper_parts, proper_outdent_list, proper_through)

pub proper_outdent_node : (n : ℕ) → Proper (outdent_node n)
unfolding outdent_node
proper_outdent_node n = search (proper_parts, proper_unindented, proper_along) depth 8

-- ---- outdent

pub proper_split_items : (list : List ℕ) → Proper (split_items list)
unfolding split_items
proper_split_items list = search (proper_recorded, proper_parts, proper_split, proper_fix_ancestors, proper_restore_values)

proper_outdent_series : (list : List ℕ) → Proper (outdent_series list)
unfolding outdent_series
proper_outdent_series list = search (proper_parts, proper_outdent_node, proper_split_items) depth 8

proper_outdent_nodes : (list : List ℕ) → Proper (outdent_nodes list)
unfolding outdent_nodes
proper_outdent_nodes list = proper_series goes_on_items outdent_series proper_outdent_series list

pub proper_outdent : Proper outdent
unfolding outdent
proper_outdent = search (proper_parts, proper_range, proper_outdent_nodes)
