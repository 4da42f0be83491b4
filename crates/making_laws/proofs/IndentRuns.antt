-- Indent and outdent are tame.
use Rattle.std.proofs.Common.{◌≡◌, ℕ, Bool, true, false, if◌then◌else◌, List, [], ◌∷◌, reverse, Option, Some, None, refl, sym, subst, zero, suc, length, true≢false, inl, inr}
use Rattle.std.specs.Prelude.{codes, bytes_eq, unwrap_or}
use Rattle.std.specs.Option.{option_map_or}
use Rattle.std.proofs.lemmas.Bool.{or_cases}
use Rattle.std.proofs.lemmas.Slice.Eq.{bytes_eq-Decides}
use Rattle.edit_model.specs.DomModel.Contents.{has_name, name_of}
use Rattle.edit_model.specs.DomModel.Forest.{first_in, parent_of}
use Rattle.edit_model.specs.State.{State}
use Rattle.edit_model.specs.Compositions.{tag_of}
use Rattle.edit_model.specs.Valid.{IsValid}
use Rattle.edit_model.specs.Run.{Run, done, given, look}
use Rattle.inline_value.specs.WrapSplit.declared.rule.Criterion.TheVariants.{Named, SimpleIndentation}
use Rattle.inline_value.specs.WrapSplit.declared.rule.Recipe.TheVariants.{Make}
use Rattle.inline_value.specs.Wrappers.{bare}
use Rattle.list_indent.specs.Sublists.{is_list}
use Rattle.list_indent.specs.Indenting.{if_list, nested, fixed, quoted, indent_list}
use Rattle.list_indent.specs.Outdenting.{to_div, unboxed, unindented, unwrapped, released, outdent_list, part_around, part_level, part_levels, outdent_through, outdent_along, outdent_node}
use Rattle.list_indent.specs.Commands.{normalize_range, normalize_before, goes_on, indent_nodes, indent, split_items, goes_on_items, outdent_series, outdent_nodes, outdent}
use Rattle.list_indent.specs.Series.{take_series, series_at_most, for_series}
use Rattle.making_laws.specs.Known.{Source, KnowsAll}
use Rattle.making_laws.specs.Names.{made_names, is_made_name}
use Rattle.making_laws.specs.Tame.{Tame}
use Rattle.making_laws.proofs.TameRuns.{At, at_look, made_div, tame_answer, tame_bind, tame_given, tame_look, tame_look_at, tame_parts}
use Rattle.making_laws.proofs.AncestorRuns.{tame_fix_ancestors}
use Rattle.making_laws.proofs.Splits.{tame_keeping_children, tame_split}
use Rattle.making_laws.proofs.SublistRuns.{tame_normalize}
use Rattle.making_laws.proofs.PushingRuns.{tame_record_values, tame_restore_values}
use Rattle.making_laws.proofs.StylingRuns.{tame_unset_style}
use Rattle.making_laws.proofs.Wraps.{tame_wrap}

-- ---- lists taken series by series

tame_series_at_most : (n : ℕ) (on : State → ℕ → ℕ → Bool) (body : List ℕ → Run (Unit {0})) → ((list : List ℕ) → Tame (body list)) → (list : List ℕ) → Tame (series_at_most n on body list)
unfolding series_at_most
tame_series_at_most zero on body h list = tame_answer tt
tame_series_at_most (suc n) on body h [] = tame_answer tt
tame_series_at_most (suc n) on body h (x ∷ xs) = tame_look _ (λ s. (
    let series = take_series (on s) (x ∷ xs) in
    tame_bind (body series.0) (λ _. series_at_most n on body series.1) (h series.0) (λ _. tame_series_at_most n on body h series.1)))

pub tame_series : (on : State → ℕ → ℕ → Bool) (body : List ℕ → Run (Unit {0})) → ((list : List ℕ) → Tame (body list)) → (list : List ℕ) → Tame (for_series on body list)
unfolding for_series
tame_series on body h list = tame_series_at_most (length list) on body h list

-- ---- names

pub made_ol : is_made_name (codes "ol") ≡ true
unfolding is_made_name made_names
made_ol = refl

pub made_ul : is_made_name (codes "ul") ≡ true
unfolding is_made_name made_names
made_ul = refl

made_blockquote : is_made_name (codes "blockquote") ≡ true
unfolding is_made_name made_names
made_blockquote = refl

made_list : (s : State) (p : ℕ) → is_list s p ≡ true → is_made_name (tag_of s.trees p) ≡ true
unfolding is_list
made_list s p h = elim (or_cases (has_name s.trees p (codes "ol")) (has_name s.trees p (codes "ul")) h) [
  | inl t ↦ by_name (codes "ol") made_ol (name_of s.trees p) t
  | inr t ↦ by_name (codes "ul") made_ul (name_of s.trees p) t
]
  where
    by_name : (name : List ℕ) → is_made_name name ≡ true → (o : Option (List ℕ)) → option_map_or (λ own. bytes_eq own name) o false ≡ true → is_made_name (unwrap_or o []) ≡ true
    by_name name made None t = absurd (true≢false (sym t))
    by_name name made (Some own) t = subst (λ n. is_made_name n ≡ true) (sym ((bytes_eq-Decides own name).0 t)) made

-- ---- indenting a list

pub tame_fixed : (o : Option ℕ) → Tame (fixed o)
tame_fixed o = search (tame_parts, tame_fix_ancestors)

tame_quoted : (list : List ℕ) → Tame (quoted list)
unfolding quoted
tame_quoted list = tame_bind _ fixed (tame_wrap SimpleIndentation (Make (bare (codes "blockquote"))) (made_blockquote, tt) list) tame_fixed

-- the list that is made has the name of one that is there, an ol or ul
nested_at : (source : Source) (s : State) → IsValid s → KnowsAll source s.trees → (list : List ℕ) (p : ℕ) → is_list s p ≡ true → At source s (nested list p)
unfolding nested
nested_at source s is known list p h =
    at_look source _ s ((tame_bind _ (λ _. done) (tame_wrap (Named (tag_of s.trees p) false) (Make (bare (tag_of s.trees p))) (made_list s p h, tt) list) (λ _. tame_answer tt)).stays source s is known)

tame_indent_at : (list : List ℕ) (a : ℕ) → Tame (look λ s. given (if_list s (parent_of s.trees a)) (quoted list) (nested list))
tame_indent_at list a = tame_look_at _ (λ source s is known. by_parent source s is known (parent_of s.trees a))
  where
    by_test : (source : Source) (s : State) → IsValid s → KnowsAll source s.trees → (p : ℕ) (v : Bool) → is_list s p ≡ v → At source s (given (if v then Some p else None) (quoted list) (nested list))
    by_test source s is known p true e = nested_at source s is known list p e
    by_test source s is known p false e = (tame_quoted list).stays source s is known

    by_parent : (source : Source) (s : State) → IsValid s → KnowsAll source s.trees → (o : Option ℕ) → At source s (given (if_list s o) (quoted list) (nested list))
    by_parent source s is known None = (tame_quoted list).stays source s is known
    by_parent source s is known (Some p) = by_test source s is known p (is_list s p) refl

tame_indent_list : (list : List ℕ) → Tame (indent_list list)
unfolding indent_list
tame_indent_list list = tame_given (first_in list) done _ (tame_answer tt) (tame_indent_at list)

-- ---- indent

pub tame_range : Tame normalize_range
unfolding normalize_range
tame_range = search (tame_parts, tame_normalize)

tame_before : (list : List ℕ) → Tame (normalize_before list)
unfolding normalize_before
tame_before list = search (tame_parts, tame_normalize)

tame_indent_nodes : (list : List ℕ) → Tame (indent_nodes list)
unfolding indent_nodes
tame_indent_nodes list = tame_bind _ _ (tame_before list) (λ _. tame_series goes_on indent_list tame_indent_list list)

pub tame_indent : Tame indent
unfolding indent
tame_indent = search (tame_parts, tame_range, tame_indent_nodes)

-- ---- outdenting a node

tame_to_div : (n : ℕ) → Tame (to_div n)
unfolding to_div
tame_to_div n = search (tame_parts, made_div)

tame_unboxed : (n : ℕ) → Tame (unboxed n)
unfolding unboxed
tame_unboxed n = search (tame_parts, tame_unset_style, tame_to_div)

tame_unindented : (n : ℕ) → Tame (unindented n)
unfolding unindented
tame_unindented n = search (tame_parts, tame_keeping_children, tame_unboxed)

tame_unwrapped : (n : ℕ) (children : List ℕ) → Tame (unwrapped n children)
unfolding unwrapped
tame_unwrapped n children = search (tame_parts, tame_record_values, tame_keeping_children, tame_restore_values)

tame_released : (n : ℕ) (children : List ℕ) → Tame (released n children)
unfolding released
tame_released n children = search (tame_parts, tame_to_div, tame_unwrapped)

tame_outdent_list : (n : ℕ) → Tame (outdent_list n)
unfolding outdent_list
tame_outdent_list n = search (tame_parts, tame_released, tame_fix_ancestors) depth 12

tame_part_around : (e t : ℕ) → Tame (part_around e t)
unfolding part_around
tame_part_around e t = search (tame_parts, tame_indent_list) depth 12

tame_part_level : (n : ℕ) (below : Option ℕ) (e : ℕ) → Tame (part_level n below e)
unfolding part_level
tame_part_level n below e = search (tame_parts, tame_part_around)

tame_part_levels : (n : ℕ) (list : List ℕ) → Tame (part_levels n list)
unfolding part_levels
tame_part_levels n [] = tame_answer tt
tame_part_levels n (e ∷ list) = tame_bind (part_level n (first_in list) e) (λ _. part_levels n list) (tame_part_level n (first_in list) e) (λ _. tame_part_levels n list)

tame_through : (n : ℕ) (way : List ℕ) (c : ℕ) → Tame (outdent_through n way c)
unfolding outdent_through
tame_through n way c = tame_bind (part_levels n (c ∷ reverse way)) (λ _. unindented c) (tame_part_levels n (c ∷ reverse way)) (λ _. tame_unindented c)

tame_along : (n : ℕ) (way : List ℕ × Option ℕ) → Tame (outdent_along n way)
unfolding outdent_along
tame_along n way = search (tame_parts, tame_outdent_list, tame_through)

pub tame_outdent_node : (n : ℕ) → Tame (outdent_node n)
unfolding outdent_node
tame_outdent_node n = search (tame_parts, tame_unindented, tame_along) depth 8

-- ---- outdent

pub tame_split_items : (list : List ℕ) → Tame (split_items list)
unfolding split_items
tame_split_items list = search (tame_parts, tame_record_values, tame_split, tame_fix_ancestors, tame_restore_values)

tame_outdent_series : (list : List ℕ) → Tame (outdent_series list)
unfolding outdent_series
tame_outdent_series list = search (tame_parts, tame_outdent_node, tame_split_items) depth 8

tame_outdent_nodes : (list : List ℕ) → Tame (outdent_nodes list)
unfolding outdent_nodes
tame_outdent_nodes list = tame_series goes_on_items outdent_series tame_outdent_series list

pub tame_outdent : Tame outdent
unfolding outdent
tame_outdent = search (tame_parts, tame_range, tame_outdent_nodes)
