-- Members of a list that are taken one by one.
use Rattle.std.proofs.Common.{◌≡◌, ℕ, ◌+◌, ◌<◌, Bool, true, false, cond, not, ◌&&◌, List, [], ◌∷◌, ◌++◌, length, drop, get_or, Option, Some, None, eqb, refl, sym, ap, ◌∙◌, subst, add-one, drop-cons}
use Rattle.std.specs.List.{All, filter}
use Rattle.std.proofs.lemmas.List.Elements.{All-append, All-cons, All-nil}
use Rattle.node_paths.specs.DomModel.declared.Content.{Content}
use Rattle.std.specs.Option.{option_map}
use Rattle.std.specs.Prelude.{map, nat_lt, IfSome}
use Rattle.std.proofs.lemmas.Bool.{and_parts, ltb-true}
use Rattle.node_paths.specs.DomModel.Forest.{Forest, count_of, tree_of}
use Rattle.node_paths.proofs.DomModel.Within.{within_self}
use Rattle.node_paths.specs.NodeArena.declared.NodeRef.{NodeRef}
use Rattle.node_paths.specs.NodeArena.Reads.{IsValid}
use Rattle.node_tests.specs.PointOrder.PointOrder.{is_ancestor}
use Rattle.block_extend.specs.declared.gathering.Taken.{Taken}
use Rattle.block_extend.specs.Gaps.{is_below, top_of, IsTaken as WasTaken}
use Rattle.block_extend.proofs.Nesting.{gather_after}

abbrev pub labels : List NodeRef → List ℕ
labels xs = map (λ r. r.label) xs

abbrev pub member : List NodeRef → ℕ → NodeRef
member xs i = get_or xs i record { slot = 0; label = 0 }

rest_is : (xs : List NodeRef) (i : ℕ) → i < length xs → labels (drop i xs) ≡ (member xs i).label ∷ labels (drop (i + 1) xs)
rest_is xs i h = rw (add-one, drop-cons xs i record { slot = 0; label = 0 }) refl

pushed : (xs : List NodeRef) (x : NodeRef) (rest : List ℕ) → labels (xs ++ x ∷ []) ++ rest ≡ labels xs ++ x.label ∷ rest
pushed [] x rest = refl
pushed (y ∷ xs) x rest = ap (λ r. y.label ∷ r) (pushed xs x rest)

pub pushed_held : (holds : NodeRef → Type 0) (xs new : List NodeRef) (x : NodeRef) → All holds xs → holds x → new ≡ xs ++ x ∷ [] → All holds new
pushed_held holds xs new x h k e = subst (All holds) (sym e) (All-append holds xs (x ∷ []) h (All-cons holds x [] k (All-nil holds)))

-- ---- those that pass a test and are no descendant of the last one taken

module _ (f : Forest Content) (test : ℕ → Bool) (last : Option ℕ) (x : ℕ) (xs : List ℕ) where
  takes : (not (is_below f last x) && test x) ≡ true → gather_after f last (filter test (x ∷ xs)) ≡ x ∷ gather_after f (Some x) (filter test xs)
  takes h = by_tests (is_below f last x) (test x) refl refl h
    where
      by_tests : (b c : Bool) → is_below f last x ≡ b → test x ≡ c → (not b && c) ≡ true → gather_after f last (filter test (x ∷ xs)) ≡ x ∷ gather_after f (Some x) (filter test xs)
      by_tests true c below passes h = absurd (let u : false ≡ true = h in cc)
      by_tests false false below passes h = absurd (let u : false ≡ true = h in cc)
      by_tests false true below passes h = rw (passes, below) refl

  leaves : (not (is_below f last x) && test x) ≡ false → gather_after f last (filter test (x ∷ xs)) ≡ gather_after f last (filter test xs)
  leaves h = by_tests (is_below f last x) (test x) refl refl h
    where
      by_tests : (b c : Bool) → is_below f last x ≡ b → test x ≡ c → (not b && c) ≡ false → gather_after f last (filter test (x ∷ xs)) ≡ gather_after f last (filter test xs)
      by_tests true true below passes h = rw (passes, below) refl
      by_tests true false below passes h = rw passes refl
      by_tests false false below passes h = rw passes refl
      by_tests false true below passes h = absurd (let u : true ≡ false = h in cc)

module _ (f : Forest Content) (test : ℕ → Bool) (xs : List NodeRef) (i : ℕ) (low : i < length xs) (last : Option ℕ) (kept : List NodeRef) (whole : List ℕ) (so_far : labels kept ++ gather_after f last (filter test (labels (drop i xs))) ≡ whole) where
  abbrev rest : List ℕ
  rest = labels (drop (i + 1) xs)

  next_is : labels kept ++ gather_after f last (filter test ((member xs i).label ∷ rest)) ≡ whole
  next_is = ap (λ ys. labels kept ++ gather_after f last (filter test ys)) (sym (rest_is xs i low)) ∙ so_far

  abbrev IsTaken : Bool → Type 0
  IsTaken b = (not (is_below f last (member xs i).label) && test (member xs i).label) ≡ b

  pub passed_over : IsTaken false → labels kept ++ gather_after f last (filter test rest) ≡ whole
  passed_over e = ap (λ ys. labels kept ++ ys) (sym (leaves f test (last) (member xs i).label rest e)) ∙ next_is

  pub taken_in : (new : List NodeRef) → new ≡ kept ++ member xs i ∷ [] → IsTaken true → labels new ++ gather_after f (Some (member xs i).label) (filter test rest) ≡ whole
  taken_in new is e =
      ap (λ ys. labels ys ++ gather_after f (Some (member xs i).label) (filter test rest)) is
      ∙ pushed kept (member xs i) (gather_after f (Some (member xs i).label) (filter test rest))
      ∙ ap (λ ys. labels kept ++ ys) (sym (takes f test (last) (member xs i).label rest e))
      ∙ next_is

-- ---- what was taken last

abbrev pub with_inside : Option Taken → NodeRef → Option Taken
with_inside last x = option_map (λ t. record { top = t.top; inside = x }) last

pub same_top : (last : Option Taken) (x : NodeRef) → top_of (with_inside last x) ≡ top_of last
same_top None x = refl
same_top (Some t) x = refl

module _ {holds : NodeRef → Type 0} {f : Forest Content} {upper : ℕ} (law : IsValid holds f upper) where
  pub came_inside : (last : Option Taken) (x : NodeRef) → WasTaken holds f last → is_below f (top_of last) x.label ≡ true → WasTaken holds f (with_inside last x)
  came_inside None x h below = tt
  came_inside (Some t) x h below = (h.0, ltb-true 0 (count_of (tree_of f t.top.label) x.label) (and_parts (not (eqb t.top.label x.label)) (nat_lt 0 (count_of (tree_of f t.top.label) x.label)) below).1)

  pub just_taken : (x : NodeRef) → holds x → WasTaken holds f (Some (record { top = x; inside = x }))
  just_taken x held = (held, within_self f x.label law.distinct (law.here x held))
