-- What is known of an entry of a history, and what a command adds to that.
use Rattle.std.proofs.Common.{◌≡◌, ℕ, ◌<◌, ◌≤◌, List, ◌++◌, Some, sym, subst, ◌∙◌, inl, inr, arith}
use Rattle.edit_model.specs.DomModel.declared.Content.{Content}
use Rattle.edit_model.specs.DomModel.Forest.{Forest, count_of}
use Rattle.inline_value.specs.ForestChanges.Change.{Change, Remove, Insert, Move, SetText, Splice, SetAttributes}
use Rattle.inline_value.specs.ForestChanges.Named.{Each}
use Rattle.inline_value.proofs.ForestChanges.ChangeLists.{each_join, each_of}
use Rattle.edit_model.specs.State.{State}
use Rattle.edit_model.specs.History.{Entry, document_of, view_of, used, entry_of}
use Rattle.edit_model.specs.Valid.{IsValid, IsView}
use Rattle.edit_model.proofs.Resting.{view_valid, view_later}
use Rattle.edit_laws.specs.Kinds.{Text, Comment, kind_of, SameKinds}
use Rattle.edit_laws.proofs.Resting.{document_again}
use Rattle.edit_laws.proofs.StayingKinds.{kind_there}
use Rattle.inline_value.proofs.EditDoc.MadeApart.{each_used}
use Rattle.replay_laws.proofs.Leaving.{CanBeMade, IsFrom, IsTextOrNew, NamesTexts, Leaves}

-- a change of characters is one of no comment of the forest
abbrev pub SparesComments : Forest Content → Change → Type 0
SparesComments f (SetText n words) = kind_of f n ≡ Some Comment → ⊥
SparesComments f (Splice n at rest taken put) = kind_of f n ≡ Some Comment → ⊥
SparesComments f _ = Unit {0}

-- labels from `first` on were new to it, and `first` isn't below `start`; those of its documents are below `next`
pub record IsKnown (start next : ℕ) (x : Entry) : Type 0 where
  pub before : IsView x.before next
  pub after : IsView x.after next
  pub alone_before : document_of x.before.document ≡ x.before.document
  pub alone_after : document_of x.after.document ≡ x.after.document
  pub same : SameKinds x.before.document x.after.document
  pub first : ℕ
  pub from : start ≤ first
  pub low : first ≤ next
  pub old : (l : ℕ) → 0 < count_of x.before.document l → l < first
  pub made : Each CanBeMade x.made
  pub drawn : Each (IsFrom first) x.made
  pub texts : Each (SparesComments x.before.document) x.edits

pub known_later : (start next later : ℕ) → next ≤ later → (x : Entry) → IsKnown start next x → IsKnown start later x
known_later start next later le x k = record {
  before = view_later x.before next later le k.before;
  after = view_later x.after next later le k.after;
  alone_before = k.alone_before;
  alone_after = k.alone_after;
  same = k.same;
  first = k.first;
  from = k.from;
  low = (let low = k.low in omega (arith, low, le));
  old = k.old;
  made = k.made;
  drawn = k.drawn;
  texts = k.texts;
}

same_self : (f : Forest Content) → SameKinds f f
same_self f l k m first last = let e : Some k ≡ Some m = sym first ∙ last in cc

-- what is a text of one forest, or new, is no comment of another one, whose labels have the same kinds
text_apart : (f g : Forest Content) (low : ℕ) → SameKinds f g → ((l : ℕ) → 0 < count_of f l → l < low) → (n : ℕ) → IsTextOrNew g low n → kind_of f n ≡ Some Comment → ⊥
text_apart f g low same below n (inl text) comment = (let e : Text ≡ Comment = same n Comment Text comment text in cc)
text_apart f g low same below n (inr high) comment = (let lt = below n (kind_there f n Comment comment) in omega (arith, lt, high))

spares_by : (f g : Forest Content) (low : ℕ) → SameKinds f g → ((l : ℕ) → 0 < count_of f l → l < low) → (x : Change) → NamesTexts g low x → SparesComments f x
spares_by f g low same below (SetText n words) h = text_apart f g low same below n h
spares_by f g low same below (Splice n at rest taken put) h = text_apart f g low same below n h
spares_by f g low same below (Remove n) h = tt
spares_by f g low same below (Insert n p b) h = tt
spares_by f g low same below (Move n p b) h = tt
spares_by f g low same below (SetAttributes n list) h = tt

pub each_weaker : (low high : ℕ) (ns : List (ℕ × Content)) → low ≤ high → Each (IsFrom high) ns → Each (IsFrom low) ns
each_weaker low high ns le h = each_of (IsFrom high) (IsFrom low) ns (λ n from. omega (arith, from, le)) h

module _ (start : ℕ) (s t : State) (is : IsValid s) (alone : document_of s.trees ≡ s.trees) (low : start ≤ s.next) (l : Leaves s t) where
  -- ---- an entry of its own

  pub entry_known : IsKnown start t.next (entry_of s t)
  unfolding view_of
  entry_known = record {
    before = view_later (view_of s) s.next t.next l.next (view_valid s is);
    after = view_valid t l.valid;
    alone_before = document_again s.trees s.next is.forest;
    alone_after = document_again t.trees t.next l.valid.forest;
    same = subst (λ (w : Forest Content). SameKinds w (document_of t.trees)) (sym alone) l.same;
    first = s.next;
    from = low;
    low = l.next;
    old = subst (λ (w : Forest Content). (j : ℕ) → 0 < count_of w j → j < s.next) (sym alone) is.forest.below;
    made = each_used CanBeMade t.edits t.made l.made;
    drawn = each_used (IsFrom s.next) t.edits t.made l.drawn;
    texts = subst (λ (w : Forest Content). Each (SparesComments w) t.edits) (sym alone)
        (each_of (NamesTexts s.trees s.next) (SparesComments s.trees) t.edits (spares_by s.trees s.trees s.next (same_self s.trees) is.forest.below) l.texts);
  }

  -- ---- the last entry with more edits

  abbrev pub longer : Entry → Entry
  longer x = record { before = x.before; after = view_of t; edits = x.edits ++ t.edits; made = x.made ++ used t.edits t.made }

  pub longer_known : (x : Entry) → IsKnown start s.next x → x.after.document ≡ s.trees → IsKnown start t.next (longer x)
  unfolding view_of
  longer_known x k at = record {
    before = view_later x.before s.next t.next l.next k.before;
    after = view_valid t l.valid;
    alone_before = k.alone_before;
    alone_after = document_again t.trees t.next l.valid.forest;
    same = still_same;
    first = k.first;
    from = k.from;
    low = (let up = l.next in let own = k.low in omega (arith, up, own));
    old = k.old;
    made = each_join CanBeMade x.made (used t.edits t.made) k.made (each_used CanBeMade t.edits t.made l.made);
    drawn = each_join (IsFrom k.first) x.made (used t.edits t.made) k.drawn (each_used (IsFrom k.first) t.edits t.made (each_weaker k.first s.next t.made k.low l.drawn));
    texts = each_join (SparesComments x.before.document) x.edits t.edits k.texts
        (each_of (NamesTexts s.trees s.next) (SparesComments x.before.document) t.edits (spares_by x.before.document s.trees s.next there k.before.forest.below) l.texts);
  }
    where
      there : SameKinds x.before.document s.trees
      there = subst (λ (w : Forest Content). SameKinds x.before.document w) at k.same

      still_same : SameKinds x.before.document (document_of t.trees)
      still_same n a b first last = elim (l.new n b last) [
        | inl was ↦ there n a b first was
        | inr drawn ↦ absurd (let lt = k.before.forest.below n (kind_there x.before.document n a first) in let from = drawn.0 in omega (arith, lt, from))
      ]
