-- Extracting the tail of a node as a run of edits, each with the test that it has everywhere: so
-- what is taken out has to be editable, made by the command or a br. The steps are those of
-- docs/ALGORITHMS.md.
use Rattle.std.specs.Prelude.{◌≡◌, ℕ, zero, suc, true, ◌||◌, List, [], ◌∷◌, drop, None, if◌then◌else◌, ◌==◌, codes, unwrap_or}
use Rattle.edit_model.specs.DomModel.AttributeList.{unset_in}
use Rattle.edit_model.specs.DomModel.Contents.{name_of, attributes_of, is_break}
use Rattle.edit_model.specs.DomModel.Forest.{children_of}
use Rattle.edit_model.specs.LiveRange.declared.places.Point.{Point}
use Rattle.edit_model.specs.PointOrder.PointOrder.{child_toward}
use Rattle.edit_model.specs.State.{State}
use Rattle.edit_model.specs.Confined.{is_own}
use Rattle.edit_model.specs.Edit.{Remove}
use Rattle.edit_model.specs.Run.{Run, ◌>>=◌, ◌>>◌, done, look, given, for_each, insert, remove, make_element}
use Rattle.edit_model.specs.Tail.{Step, Do, later, document_size}

unfoldable pub bring : ℕ → ℕ → Run (Unit {0})
bring d n = remove n >> (insert d None n >> done)

-- extract the tail, step 1: each node of a list
unfoldable pub bring_all : ℕ → List ℕ → Run (Unit {0})
bring_all d list = for_each list (bring d)

-- extract the tail, step 2: a copy of k without its id
unfoldable pub copy_node : ℕ → Run ℕ
copy_node k = look λ s.
    make_element (unwrap_or (name_of s.trees k) [])
    (unset_in (unwrap_or (attributes_of s.trees k) []) (codes "id"))

-- extract the tail, step 2, at its end: each child of c after k
unfoldable pub bring_later : ℕ → ℕ → ℕ → Run (Unit {0})
bring_later c d k = look λ s. bring_all d (later (children_of s.trees c) k)

-- extract the tail, step 2, once the copy of k is made
unfoldable pub bring_rest : ℕ → ℕ → ℕ → ℕ → Run (Unit {0}) → Run (Unit {0})
bring_rest c d k x inner = inner >> (insert d None x >> bring_later c d k)

-- extract the tail, steps 1 and 2
unfoldable pub bring_tail : ℕ → Point → ℕ → ℕ → Run (Unit {0})
bring_tail zero from c d = done
bring_tail (suc fuel) from c d = look λ s.
    if from.label == c then bring_all d (drop from.offset (children_of s.trees c))
    else given (child_toward s.trees c from.label) done λ k.
    copy_node k >>= λ x. bring_rest c d k x (bring_tail fuel from k x)

unfoldable pub extract_by_edits : Point → ℕ → ℕ → Run (Unit {0})
extract_by_edits from c d = look λ s. bring_tail (document_size s.trees) from c d

-- a node that may be removed by itself, where its parent is open
abbrev pub GoesAlone : State → ℕ → Type 0
GoesAlone s n = (is_own s n || is_break s.trees n) ≡ true

-- each node that the steps remove is such
abbrev pub Leave : (ℕ → Type 0) → List Step → Type 0
Leave A [] = Unit {0}
Leave A (Do (Remove n) ∷ xs) = A n × Leave A xs
Leave A (x ∷ xs) = Leave A xs
