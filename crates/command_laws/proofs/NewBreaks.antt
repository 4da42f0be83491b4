-- A new br at the front or the end of p leaves the other nodes as they are.
use Rattle.std.proofs.Common.{◌≡◌, ◌≢◌, ℕ, ◌<◌, Bool, true, false, if◌then◌else◌, [], Option, Some, None, refl, sym, ap, ◌∙◌, inl, inr, arith}
use Rattle.std.specs.Option.{option_and_then}
use Rattle.std.specs.Prelude.{codes}
use Rattle.std.proofs.lemmas.Bool.{cases_Bool, ne_eqb}
use Rattle.edit_model.specs.DomModel.declared.Content.{Content}
use Rattle.edit_model.specs.DomModel.declared.Content.TheVariants.{Element}
use Rattle.edit_model.specs.DomModel.Forest.{Seen, count_of, parent_of, children_of, first_of, content_of, tree_of, link}
use Rattle.edit_model.proofs.DomModel.Totals.{put_under_nowhere}
use Rattle.edit_model.proofs.DomModel.Links.{seen, parent_count, parent_of-with_leaf, children_of-with_leaf, parent_of-link, children_of-link}
use Rattle.edit_model.proofs.DomModel.Kept.{content_of-link, content_of-with_leaf_other}
use Rattle.edit_model.specs.State.{State}
use Rattle.edit_model.specs.Confined.{may_insert}
use Rattle.edit_model.specs.Edit.{Insert, is_made_edit, trees_after, edited}
use Rattle.edit_model.specs.Action.{made}
use Rattle.edit_model.specs.History.{document_of}
use Rattle.edit_model.specs.Run.{final, done}
use Rattle.edit_model.proofs.Documents.{document-link, document-with_leaf}
use Rattle.edit_model.proofs.IslandRuns.{trees_made, trees_left}
use Rattle.edit_model.proofs.Steps.{final-bind, final-answer, final-look, final-edit, final-make_element, value-make_element}
use Rattle.edit_model.proofs.Tests.{inserts}
use Rattle.edit_laws.specs.Order.{KeepsOrder, IsKeeping}
use Rattle.edit_laws.proofs.Subsequences.{keeps_refl, keeps_trans}
use Rattle.edit_laws.proofs.QuietActions.{keeping_edited, bare_insert_keeps}
use Rattle.edit_laws.proofs.Renaming.{made_trees, new_absent, new_other, keeping_made, keeps_made}
use Rattle.edit_laws.proofs.NewElements.{new_bare}
use Rattle.edit_laws.proofs.Loose.{IsLoose}
use Rattle.edit_model.specs.Moves.{make_break}
use Rattle.inline_value.specs.WrapSplit.Wrap.{append_break, prepend_break}

-- what stays where p alone may get children
pub record Spared (s t : State) (p : ℕ) : Type 0 where
  pub keeps : KeepsOrder s t
  pub keeping : IsKeeping t
  pub parent : (l q : ℕ) → parent_of s.trees l ≡ Some q → parent_of t.trees l ≡ Some q
  pub children : (l : ℕ) → p ≢ l → children_of t.trees l ≡ children_of s.trees l
  pub content : (l : ℕ) → 0 < count_of s.trees l → content_of t.trees l ≡ content_of s.trees l
  pub loose : IsLoose s p → IsLoose t p

pub spared : (s : State) → IsKeeping s → (p : ℕ) → Spared s s p
spared s is p = record { keeps = keeps_refl (document_of s.trees); keeping = is; parent = λ l q up. up; children = λ l off. refl; content = λ l here. refl; loose = λ none. none }

module _ (s : State) (is : IsKeeping s) (p : ℕ) where
  br : Content
  br = Element (codes "br") []

  s1 : State
  s1 = made br s

  is1 : IsKeeping s1
  unfolding s1 br
  is1 = keeping_made (codes "br") [] s is

  parent1 : (l : ℕ) → parent_of s1.trees l ≡ parent_of s.trees l
  unfolding s1
  parent1 = λ l. ap (λ f. parent_of f l) (made_trees br s) ∙ parent_of-with_leaf s.trees s.next br (new_absent s is br) l

  children1 : (l : ℕ) → children_of s1.trees l ≡ children_of s.trees l
  unfolding s1
  children1 = λ l. ap (λ f. children_of f l) (made_trees br s) ∙ children_of-with_leaf s.trees s.next br (new_absent s is br) l

  content1 : (l : ℕ) → 0 < count_of s.trees l → content_of s1.trees l ≡ content_of s.trees l
  unfolding s1
  content1 = λ l here.
      ap (λ f. content_of f l) (made_trees br s)
      ∙ content_of-with_leaf_other s.trees s.next br l (new_absent s is br) (λ e. (let k = ap (count_of s.trees) e in omega (arith, k, here, new_absent s is br)))

  document1 : document_of s1.trees ≡ document_of s.trees
  unfolding s1
  document1 = ap document_of (made_trees br s) ∙ document-with_leaf s.trees s.next is.valid.forest s.next br

  module _ (b : Option ℕ) where
    s2 : State
    s2 = edited (Insert p b s.next) s1

    keeps2 : KeepsOrder s s2
    unfolding s1 s2 br
    keeps2 = keeps_trans (keeps_made (codes "br") [] s is) (bare_insert_keeps p b s.next s1 is1 (new_bare (codes "br") [] s is refl))

    is2 : IsKeeping s2
    unfolding s2
    is2 = keeping_edited (Insert p b s.next) s1 is1

    where_made : may_insert s1 p b s.next ≡ true → Spared s s2 p
    unfolding s2 is_made_edit trees_after
    where_made = λ may. (
        let now : s2.trees ≡ link s1.trees p b s.next = trees_made (Insert p b s.next) s1 may in
        let can = (inserts s1 p b s.next may).can in
        let once = is1.valid.forest.distinct in
        record {
          keeps = keeps2;
          keeping = is2;
          parent = λ l q up. (
              let up1 : parent_of s1.trees l ≡ Some q = parent1 l ∙ up in
              let w = seen s1.trees l once (parent_count s1.trees l q once up1).0 in
              let own : w.0.parent ≡ Some q = ap (option_and_then (λ (y : Seen Content). y.parent)) (sym w.2) ∙ up1 in
              ap (λ f. parent_of f l) now ∙ (parent_of-link s1.trees p b s.next once can l w.0 w.2 ∙ rw (ne_eqb s.next l (new_other s is br l q up)) own));
          children = λ l off. ap (λ f. children_of f l) now ∙ (children_of-link s1.trees p b s.next once can l ∙ rw (ne_eqb p l off) (children1 l));
          content = λ l here. ap (λ f. content_of f l) now ∙ (content_of-link s1.trees p b s.next l once can ∙ content1 l here);
          loose = λ none. (
              let out : count_of (tree_of s1.trees 0) p ≡ 0 = ap (λ g. count_of g p) document1 ∙ none in
              let same : document_of s2.trees ≡ document_of s.trees =
              ap document_of now ∙ (document-link s1.trees s1.next is1.valid.forest p b s.next can ∙ (put_under_nowhere (tree_of s1.trees 0) p b (tree_of s1.trees s.next) out ∙ document1)) in
              ap (λ g. count_of g p) same ∙ none);
        })

    where_left : may_insert s1 p b s.next ≡ false → Spared s s2 p
    unfolding s2 is_made_edit
    where_left = λ off. (
        let stays : s2.trees ≡ s1.trees = trees_left (Insert p b s.next) s1 off in
        record {
          keeps = keeps2;
          keeping = is2;
          parent = λ l q up. ap (λ f. parent_of f l) stays ∙ (parent1 l ∙ up);
          children = λ l off. ap (λ f. children_of f l) stays ∙ children1 l;
          content = λ l here. ap (λ f. content_of f l) stays ∙ content1 l here;
          loose = λ none. ap (λ g. count_of (document_of g) p) stays ∙ (ap (λ g. count_of g p) document1 ∙ none);
        })

    put : Spared s s2 p
    put = elim (cases_Bool (may_insert s1 p b s.next)) [ inl may ↦ where_made may | inr off ↦ where_left off ]

  pub appended : (v : Bool) → Spared s (final (if v then append_break p else done) s) p
  unfolding append_break make_break s1 s2 br
  appended true = rw (final-bind, final-make_element, value-make_element, final-bind, final-edit, final-answer) (put None)
  appended false = rw final-answer (spared s is p)

  pub prepended : (v : Bool) → Spared s (final (if v then prepend_break p else done) s) p
  unfolding prepend_break make_break s1 s2 br
  prepended true = rw (final-bind, final-make_element, value-make_element, final-look, final-bind, final-edit, final-answer) (put (first_of s1.trees p))
  prepended false = rw final-answer (spared s is p)
