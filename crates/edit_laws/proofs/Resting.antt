-- What stays along a command is there when its loose trees have been dropped.
use Rattle.std.proofs.Common.{◌≡◌, ℕ, ◌<◌, Bool, true, false, cond, eqb, [], ◌∷◌, ◌++◌, Option, Some, None, refl, sym, ap, subst, ◌∙◌, inl, inr, arith, append_assoc, true≢false}
use Rattle.std.specs.List.{AllZip}
use Rattle.edit_model.specs.DomModel.declared.Content.{Content}
use Rattle.edit_model.specs.DomModel.Change as change
use Rattle.edit_model.specs.DomModel.Editing.{is_host}
use Rattle.edit_model.specs.DomModel.Forest.{Forest, count_of, tree_of, IsDistinct, IsWithin}
use Rattle.edit_model.proofs.DomModel.Totals.{total-without}
use Rattle.edit_model.proofs.DomModel.Stands.{seek_absent}
use Rattle.edit_model.specs.State.{State}
use Rattle.edit_model.specs.Edit.{Insert, Remove, Move, Replace, Set, Unset, change_of}
use Rattle.edit_model.specs.Action as action
use Rattle.edit_model.specs.Action.{Action, acted}
use Rattle.edit_model.specs.Run.{Reaches, here, onward, changes_of}
use Rattle.edit_model.specs.History.{begun, rested}
use Rattle.edit_model.specs.Valid.{IsForest, IsValid}
use Rattle.edit_model.specs.Laws.{KeepsMark, TakesOwn, TakesOwnOn, LeavesStatesOn}
use Rattle.edit_model.specs.Outside.{hollowed, outside_by, is_island}
use Rattle.edit_model.proofs.Apart.{marks_along}
use Rattle.edit_model.proofs.Commands.{valid_begun, confined_begun, command_confined}
use Rattle.edit_model.proofs.Documents.{document_shape}
use Rattle.edit_model.proofs.EditLists.{adds_acted}
use Rattle.edit_model.proofs.Hollow.{hollowed_le, inside_whole}
use Rattle.edit_model.proofs.IslandRuns.{island_locked, islands_stay}
use Rattle.edit_model.proofs.ValidRuns.{valid_along}
use Rattle.edit_model.proofs.OwnRoots.{islands_leave, holder_inside}
use Rattle.edit_model.proofs.Trees.{none_or_some, tree_of-inside}
use Rattle.edit_laws.specs.BelowHost.{below}
use Rattle.edit_laws.specs.Islands.{IsTakenOut, IslandKept}
use Rattle.edit_laws.specs.Order.{KeepsLeaves, KeepsOrder}
use Rattle.edit_laws.proofs.BelowHost.{keeps_below}
use Rattle.edit_laws.proofs.HostParts.{host_stays}

-- ---- what lies outside, and marks

pub document_again : (f : Forest Content) (next : ℕ) → IsForest f next → tree_of (tree_of f 0) 0 ≡ tree_of f 0
document_again f next is = let d = document_shape f next is in subst (λ g. tree_of (tree_of g 0) 0 ≡ tree_of g 0) (sym d.3) refl

outside_again : (host : Option ℕ) (f : Forest Content) (next : ℕ) → IsForest f next → outside_by host (tree_of f 0) ≡ outside_by host f
outside_again None f next is = document_again f next is
outside_again (Some h) f next is = ap (λ g. hollowed g h) (document_again f next is)

pub outside_at_rest : (s t : State) (host : Option ℕ) (keeping : Bool) → IsValid s → Reaches (begun host keeping s) t → outside_by host (rested t).trees ≡ outside_by host s.trees
unfolding rested
outside_at_rest s t host keeping is r =
    let valid = valid_along r (valid_begun host keeping s is) in
    outside_again host t.trees t.next valid.forest ∙ command_confined host keeping s t is r

pub marks_at_rest : (s t : State) (host : Option ℕ) (keeping : Bool) → IsValid s → Reaches (begun host keeping s) t → AllZip (KeepsMark host s.trees) s.points.marks (rested t).points.marks
unfolding rested begun
marks_at_rest s t host keeping is r = marks_along r (valid_begun host keeping s is) (confined_begun host keeping s is)

-- ---- a removal on the way is listed

further : (b t : State) (l : ℕ) (a : Action) → (acted a t).edits ≡ t.edits ++ changes_of a t → IsTakenOut b t l → IsTakenOut b (acted a t) l
further b t l a more k = record {
  root = k.root;
  then_at = k.then_at;
  reached = k.reached;
  went_on = onward k.went_on a;
  made = k.made;
  holds = k.holds;
  below = k.below;
  own = k.own;
  later = k.later ++ changes_of a t;
  listed = more ∙ (ap (λ xs. xs ++ changes_of a t) k.listed ∙ append_assoc k.then_at.edits (change.Remove k.root ∷ k.later) (changes_of a t));
}

taken_by : (b t : State) (q : Reaches b t) (l : ℕ) (a : Action) → TakesOwn a t l → IsTakenOut b (acted a t) l
unfolding change_of
taken_by b t q l (action.Change (Remove n)) h = record {
  root = n;
  then_at = t;
  reached = q;
  went_on = here;
  made = h.0;
  holds = h.1.0;
  below = h.1.1.0;
  own = h.1.1.1;
  later = [];
  listed = (adds_acted (action.Change (Remove n)) t).0 ∙ (let m = h.0 in rw m refl);
}
taken_by b t q l (action.Change (Insert p c n)) h = absurd h
taken_by b t q l (action.Change (Move n p c)) h = absurd h
taken_by b t q l (action.Change (Replace n at count put)) h = absurd h
taken_by b t q l (action.Change (Set n name value)) h = absurd h
taken_by b t q l (action.Change (Unset n name)) h = absurd h
taken_by b t q l (action.MakeElement name attributes) h = absurd h
taken_by b t q l (action.MakeWords chars) h = absurd h
taken_by b t q l (action.Select anchor focus) h = absurd h
taken_by b t q l (action.Extend focus) h = absurd h
taken_by b t q l action.Unselect h = absurd h
taken_by b t q l (action.Grow at) h = absurd h
taken_by b t q l (action.Send node at tail) h = absurd h
taken_by b t q l (action.Scratch pair) h = absurd h
taken_by b t q l (action.Override command setting) h = absurd h
taken_by b t q l (action.Flag flags) h = absurd h
taken_by b t q l (action.Extract from end target) h = absurd h

taken_out : {b t : State} (r : Reaches b t) (l : ℕ) → TakesOwnOn r l → IsTakenOut b t l
taken_out here l h = absurd h
taken_out {b = b} (onward {t = t} q a) l (inl before) = further b t l a (adds_acted a t).0 (taken_out q l before)
taken_out {b = b} (onward {t = t} q a) l (inr now) = taken_by b t q l a now

-- ---- islands

-- a host is there
pub host_there : (f : Forest Content) (h : ℕ) → is_host f h ≡ true → 0 < count_of f h
host_there f h hosted = elim (none_or_some (count_of f h)) [
  | inr some ↦ some
  | inl none ↦ absurd (let gone = seek_absent None f h none in let hosted' = rw gone at hosted in true≢false (sym hosted'))
]

-- an island stands below its host
pub island_inside : (s : State) (h l : ℕ) → IsValid s → is_host s.trees h ≡ true → is_island s.trees h l ≡ true → IsWithin s.trees h l
island_inside s h l is hosted island = (island_locked s h l false is hosted island).1.0

module _ (s t : State) (h : ℕ) (keeping : Bool) (is : IsValid s) (whole : tree_of s.trees 0 ≡ s.trees) (hosted : is_host s.trees h ≡ true) (r : Reaches (begun (Some h) keeping s) t) where
  at_end : IsValid t
  at_end = valid_along r (valid_begun (Some h) keeping s is)

  -- outside commands all nodes are in the document
  inside_first : (l : ℕ) → 0 < count_of s.trees l → IsWithin s.trees 0 l
  inside_first l some = subst (λ f. 0 < count_of f l) (sym whole) some

  pub islands_at_rest : LeavesStatesOn r → (l : ℕ) → is_island s.trees h l ≡ true → IslandKept (begun (Some h) keeping s) t s.trees (rested t).trees h l
  unfolding rested
  islands_at_rest leaves l island =
      let k = islands_stay s t h keeping is hosted r l island in
      let inner = inside_first l (island_there l island) in
      elim (none_or_some (count_of (tree_of t.trees 0) l)) [
        | inr some ↦ inl (record {
          inside = (
              let at = k.1.0 some in
              let top = holder_inside t.trees t.next h l at_end.forest at some in
              omega (arith, at, inside_whole t.trees t.next at_end.forest h l top));
          same = tree_of-inside t.trees 0 l at_end.forest.distinct some ∙ k.0;
        })
        | inl none ↦ inr (
          (λ here. omega (arith, here, none, total-without (λ m _. cond (eqb m l) 1 0) (tree_of t.trees 0) 0)),
          elim (islands_leave s h keeping is hosted l island inner r leaves) [
            | inl still ↦ absurd (omega (arith, still, none))
            | inr taken ↦ taken_out r l taken
          ],
        )
      ]
    where
      island_there : (l : ℕ) → is_island s.trees h l ≡ true → 0 < count_of s.trees l
      island_there l island = omega (arith, island_inside s h l is hosted island, total-without (λ m _. cond (eqb m l) 1 0) s.trees h)

  -- ---- the order below the host

  pub order_at_rest : KeepsOrder s t → KeepsLeaves (below s.trees h) (below (rested t).trees h)
  unfolding rested
  order_at_rest k =
      let there = host_there s.trees h hosted in
      let inner = inside_first h there in
      let same : hollowed (tree_of t.trees 0) h ≡ hollowed (tree_of s.trees 0) h = command_confined (Some h) keeping s t is r in
      let still : 0 < count_of (hollowed (tree_of t.trees 0) h) h = subst (λ g. 0 < count_of g h) (sym same) (host_stays h (tree_of s.trees 0) inner) in
      let once_s : IsDistinct (tree_of s.trees 0) = λ m. omega (arith, is.forest.distinct m, total-without (λ j _. cond (eqb j m) 1 0) s.trees 0) in
      let once_t : IsDistinct (tree_of t.trees 0) = λ m. omega (arith, at_end.forest.distinct m, total-without (λ j _. cond (eqb j m) 1 0) t.trees 0) in
      let in_t : 0 < count_of (tree_of t.trees 0) h = omega (arith, still, hollowed_le (tree_of t.trees 0) h h) in
      subst (λ f. KeepsLeaves (below f h) (below (tree_of t.trees 0) h)) whole (keeps_below h (tree_of s.trees 0) (tree_of t.trees 0) once_s once_t inner in_t same k)
