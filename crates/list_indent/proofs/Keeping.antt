-- What outdenting a node leaves as it is, by what the node and its ancestors are.
use Rattle.std.proofs.Common.{◌≡◌, ℕ, Bool, true, false, ◌&&◌, List, [], ◌∷◌, Option, Some, None, if◌then◌else◌, refl, ap, ◌∙◌}
use Rattle.std.specs.Prelude.{not}
use Rattle.std.specs.List.{list_any}
use Rattle.std.specs.Option.{option_map_or}
use Rattle.edit_model.specs.DomModel.declared.Content.{Content}
use Rattle.edit_model.specs.DomModel.Forest.{Forest, content_of}
use Rattle.inline_value.specs.NodeStyles.NameClasses.{is_indentation, is_indentation_content, is_simple_indentation, is_simple_indentation_content}
use Rattle.edit_model.specs.State.{State}
use Rattle.edit_model.specs.Confined.{is_editable_for}
use Rattle.edit_model.specs.Run.{Run, final, done, given}
use Rattle.edit_model.proofs.Steps.{final-look, final-answer}
use Rattle.inline_value.specs.Forcing.{ancestors}
use Rattle.inline_value.proofs.Keeping.{first_off, rest_off}
use Rattle.list_indent.specs.Sublists.{is_list}
use Rattle.list_indent.specs.Gaps.{is_indented, keeps_place}
use Rattle.list_indent.specs.Outdenting.{indents, is_passed, climb, way_by, if_indents, way_of, unindented, outdent_list, outdent_through, outdent_along, outdent_node}

-- ---- no indentation element is no simple one

simple_by : (o : Option Content) → option_map_or is_indentation_content o false ≡ false → option_map_or is_simple_indentation_content o false ≡ false
unfolding is_simple_indentation_content
simple_by None off = refl
simple_by (Some c) off = rw off refl

simple_none : (f : Forest Content) (l : ℕ) → is_indentation f l ≡ false → is_simple_indentation f l ≡ false
unfolding is_indentation is_simple_indentation
simple_none f l off = simple_by (content_of f l) off

indents_none : (simple : Bool) (s : State) (l : ℕ) → is_indentation s.trees l ≡ false → indents simple s l ≡ false
indents_none true s l off = simple_none s.trees l off
indents_none false s l off = off

-- ---- without an indentation element above, none is come to

unless_both : (l : ℕ) (a b : Bool) → b ≡ false → (if a && b then Some l else None) ≡ None
unless_both l true b off = rw off refl
unless_both l false b off = refl

none_here : (simple : Bool) (s : State) (l : ℕ) → is_indentation s.trees l ≡ false → if_indents simple s (Some l) ≡ None
none_here simple s l off = unless_both l (is_editable_for s l) (indents simple s l) (indents_none simple s l off)

-- a way with the node x before it, which is passed or not
abbrev before : Bool → ℕ → List ℕ × Option ℕ → List ℕ × Option ℕ
before t x way = if t then (x ∷ way.0, way.1) else ([], Some x)

either_none : (simple : Bool) (s : State) (t : Bool) (x : ℕ) (way : List ℕ × Option ℕ) → if_indents simple s way.1 ≡ None → if_indents simple s (Some x) ≡ None
    → if_indents simple s (before t x way).1 ≡ None
either_none simple s true x way on off = on
either_none simple s false x way on off = off

none_beyond : (simple : Bool) (s : State) (test : ℕ → Bool) (xs : List ℕ) → list_any (is_indentation s.trees) xs ≡ false → if_indents simple s (climb test xs).1 ≡ None
none_beyond simple s test [] off = refl
none_beyond simple s test (x ∷ xs) off =
    let here = is_indentation s.trees x in
    let rest = list_any (is_indentation s.trees) xs in
    either_none simple s (test x) x (climb test xs) (none_beyond simple s test xs (rest_off here rest off)) (none_here simple s x (first_off here rest off))

no_indenter : (s : State) (n : ℕ) → is_indented s n ≡ false → if_indents false s (way_of s n).1 ≡ None
unfolding is_indented way_of way_by
no_indenter s n off =
    let line = ancestors s.trees n in
    rw (none_beyond true s (is_passed true s) line off) (none_beyond false s (is_passed false s) line off)

-- ---- so no step changes anything

module _ (s : State) (n : ℕ) where
  along_keeps : is_list s n ≡ false → is_indented s n ≡ false → final (outdent_along n (way_of s n)) s ≡ s
  unfolding outdent_along
  along_keeps off free =
      let way = way_of s n in
      final-look (λ t. given (if_indents false t way.1) (if is_list t n then outdent_list n else done) (outdent_through n way.0)) s
      ∙ (ap (λ o. final (given o (if is_list s n then outdent_list n else done) (outdent_through n way.0)) s) (no_indenter s n free)
      ∙ (ap (λ b. final (if b then outdent_list n else done) s) off ∙ final-answer tt s))

  by_editable : (e : Bool) (rest : Run (Unit {0})) → final rest s ≡ s → final (if not e then done else rest) s ≡ s
  by_editable true rest keeps = keeps
  by_editable false rest keeps = final-answer tt s

  by_names : (a b c : Bool) (rest : Run (Unit {0})) → (not a && (not b && not c)) ≡ true → (b ≡ false → c ≡ false → final rest s ≡ s) → final (if a then unindented n else rest) s ≡ s
  by_names false false false rest on keeps = keeps refl refl
  by_names true b c rest on keeps = cc
  by_names false true c rest on keeps = cc
  by_names false false true rest on keeps = cc

  pub outdent_keeps : keeps_place s n ≡ true → final (outdent_node n) s ≡ s
  unfolding keeps_place outdent_node
  outdent_keeps on =
      final-look (λ t. if not (is_editable_for t n) then done else (if is_indentation t.trees n then unindented n else outdent_along n (way_of t n))) s
      ∙ by_editable (is_editable_for s n) _ (by_names (is_indentation s.trees n) (is_list s n) (is_indented s n) _ on along_keeps)
