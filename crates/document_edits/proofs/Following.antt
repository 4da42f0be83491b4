-- The edits that changes are told as lead from each document to the next.
use Rattle.std.proofs.Common.{◌≡◌, ℕ, zero, suc, ◌<◌, ◌-◌, ◌&&◌, Bool, true, false, true≢false, cond, List, [], ◌∷◌, length, take, drop, Option, Some, None, IsSome, unwrap_or, refl, sym, ap, subst, ◌∙◌, inl, inr, arith, eqb, nat_lt}
use Rattle.std.proofs.lemmas.Bool.Decides.{nat_tests}
use Rattle.std.specs.Option.{option_map, option_and_then}
use Rattle.forest_changes.specs.DomModel.declared.Content.{Content}
use Rattle.forest_changes.specs.DomModel.declared.Content.TheVariants.{Document, Element, Words, Remark}
use Rattle.forest_changes.specs.DomModel.Change.{Change, listed}
use Rattle.forest_changes.specs.DomModel.Change as change
use Rattle.forest_changes.specs.DomModel.Contents.{chars_in, chars_of, with_chars, with_attributes}
use Rattle.forest_changes.specs.DomModel.Forest.{Forest, Seen, count_of, IsDistinct, parent_of, tree_of, without, put_under, link, unlink}
use Rattle.forest_changes.specs.DomModel.Forest.Forest.{Nil, Tree}
use Rattle.forest_changes.specs.DomModel.Revised.{revised}
use Rattle.forest_changes.proofs.DomModel.Totals.{total-without, put_under_nowhere}
use Rattle.forest_changes.proofs.DomModel.Stands.{Stands, true_or_false}
use Rattle.forest_changes.proofs.DomModel.DropTree.{without_absent, without-unlink}
use Rattle.forest_changes.proofs.DomModel.Move.{tree_of-unlink}
use Rattle.forest_changes.proofs.DomModel.Walks.{document_first}
use Rattle.forest_changes.proofs.DomModel.Within.{within_root}
use Rattle.forest_changes.specs.UndoLog.Turning.{forth, FitsForth}
use Rattle.point_order.specs.PointOrder.{is_in_document}
use Rattle.forest_changes.specs.Change.{IsForest, Fits, spliced_at, applied}
use Rattle.forest_changes.proofs.Contents.{chars_there}
use Rattle.forest_changes.proofs.Twice.{given_parent}
use Rattle.document_edits.specs.declared.edit.DocumentEdit.{DocumentEdit}
use Rattle.document_edits.specs.declared.edit.DocumentEdit.TheVariants.{Remove, SetAttributes}
use Rattle.document_edits.specs.Followed.{followed, spliced, with_spliced}
use Rattle.document_edits.specs.Replaced.{replaced, shared_start, shared_end}
use Rattle.document_edits.specs.Told.{told, told_all, told_tree, told_move}
use Rattle.document_edits.proofs.Documents.{document-unlink, document-link, tree_of-document, seek-document, revised-alike, revised-same, revised-absent}
use Rattle.document_edits.proofs.Growing.{grown-flat}
use Rattle.document_edits.proofs.Joining.{forth-join}
use Rattle.document_edits.proofs.Splicing.{same-shared, spliced-shared}

-- an edit that is told where a test passes
told_where : (b : Bool) (e : DocumentEdit) (d g : Forest Content) → (b ≡ true → followed e d ≡ g) → (b ≡ false → d ≡ g) → forth followed (cond b (e ∷ []) []) d ≡ g
unfolding forth
told_where true e d g passes fails = passes refl
told_where false e d g passes fails = fails refl

some_of : (k : ℕ) → nat_lt 0 k ≡ true → 0 < k
some_of k t = grind (arith, nat_tests)

none_of : (k : ℕ) → nat_lt 0 k ≡ false → k ≡ 0
none_of k t = grind (arith, nat_tests)

none_where : (k : ℕ) → (0 < k → ⊥) → k ≡ 0
none_where zero out = refl
none_where (suc k) out = absurd (out (omega arith))

-- a node with a parent isn't the Document
inner : (f : Forest Content) (n : ℕ) → IsForest f → IsSome (parent_of f n) → 0 < n
inner f zero ok some = absurd (let h = rw ok.root at some in true≢false (sym h))
inner f (suc k) ok some = omega arith

-- ---- characters

content_kept : (c : Content) (old words : List ℕ) → chars_in c ≡ Some old → old ≡ words → with_chars words c ≡ c
content_kept Document old words e same = refl
content_kept (Element name list) old words e same = refl
content_kept (Words chars) old words e same = (let e' : Some chars ≡ Some old = e in let own : words ≡ chars = cc in ap Words own)
content_kept (Remark chars) old words e same = (let e' : Some chars ≡ Some old = e in let own : words ≡ chars = cc in ap Remark own)

content_spliced : (c : Content) (old words : List ℕ) (at taken : ℕ) (put : List ℕ) → chars_in c ≡ Some old → spliced at taken put old ≡ words → with_spliced at taken put c ≡ with_chars words c
content_spliced Document old words at taken put e same = refl
content_spliced (Element name list) old words at taken put e same = refl
content_spliced (Words chars) old words at taken put e same = (let e' : Some chars ≡ Some old = e in let own : chars ≡ old = cc in ap (λ (w : List ℕ). Words (spliced at taken put w)) own ∙ ap Words same)
content_spliced (Remark chars) old words at taken put e same = (let e' : Some chars ≡ Some old = e in let own : chars ≡ old = cc in ap (λ (w : List ℕ). Remark (spliced at taken put w)) own ∙ ap Remark same)

-- what replaces the characters of a node gives it the new ones
replaced_follows : (d : Forest Content) (n : ℕ) (old words : List ℕ) → ((s : Seen Content) → Stands None d n s → chars_in s.content ≡ Some old) → forth followed (listed (replaced n old words)) d ≡ revised d n (with_chars words)
unfolding replaced forth followed
replaced_follows d n old words are =
    let at = shared_start old words in
    let same = shared_end (drop at old) (drop at words) in
    let taken = length (drop at old) - same in
    let put = take (length (drop at words) - same) (drop at words) in
    elim (true_or_false (eqb at (length old) && eqb at (length words))) [
      | inl t ↦ rw t (sym (revised-same d n (with_chars words) (λ s st. content_kept s.content old words (are s st) (same-shared old words t))))
      | inr t ↦ rw t (revised-alike d n (with_spliced at taken put) (with_chars words) (λ s st. content_spliced s.content old words at taken put (are s st) (spliced-shared old words at same refl refl)))
    ]

told_text_follows : (t : Bool) (d : Forest Content) (n : ℕ) (old words : List ℕ) → (t ≡ false → count_of d n ≡ 0) → ((s : Seen Content) → Stands None d n s → chars_in s.content ≡ Some old) → forth followed (cond t (listed (replaced n old words)) []) d ≡ revised d n (with_chars words)
unfolding forth
told_text_follows true d n old words gone are = replaced_follows d n old words are
told_text_follows false d n old words gone are = sym (revised-absent d n (with_chars words) (gone refl))

-- ---- places

module _ (c : Content) (ks rest : Forest Content) (n p : ℕ) (b : Option ℕ) (positive : 0 < n) (once : IsDistinct (Tree 0 c ks rest)) where
  abbrev whole : Forest Content
  whole = Tree 0 c ks rest

  abbrev document : Forest Content
  document = Tree 0 c ks Nil

  -- a tree put into the document, or at no place of it
  put_in : count_of document n ≡ 0 → put_under document p b (tree_of whole n) ≡ put_under (without document n) p b (tree_of whole n)
  put_in none = ap (λ d. put_under d p b (tree_of whole n)) (sym (without_absent document n none))

  put_out : count_of document p ≡ 0 → without document n ≡ put_under (without document n) p b (tree_of whole n)
  put_out none = sym (put_under_nowhere (without document n) p b (tree_of whole n) (omega (arith, none, total-without (λ m _. cond (eqb m p) 1 0) document n)))

  told_tree_follows : count_of document n ≡ 0 → followed (told_tree whole n p b) document ≡ put_under (without document n) p b (tree_of whole n)
  unfolding followed
  told_tree_follows none = ap (put_under document p b) (grown-flat (tree_of whole n)) ∙ put_in none

  told_move_follows : (was is : Bool) → (was ≡ true → 0 < count_of document n) → (was ≡ false → count_of document n ≡ 0) → (is ≡ false → count_of document p ≡ 0) → forth followed (told_move was is whole n p b) document ≡ put_under (without document n) p b (tree_of whole n)
  unfolding followed forth
  told_move_follows true true here gone out = ap (put_under (without document n) p b) (tree_of-document c ks rest n positive once (here refl))
  told_move_follows true false here gone out = put_out (out refl)
  told_move_follows false true here gone out = told_tree_follows (gone refl)
  told_move_follows false false here gone out = sym (without_absent document n (gone refl)) ∙ put_out (out refl)

-- ---- each change

at_document : (x : Change) (c : Content) (ks rest : Forest Content) → Fits x (Tree 0 c ks rest) → forth followed (told x (Tree 0 c ks rest)) (Tree 0 c ks Nil) ≡ tree_of (applied x (Tree 0 c ks rest)) 0
unfolding told applied followed
at_document (change.Remove n) c ks rest h =
    let d = Tree 0 c ks Nil in
    let f = Tree 0 c ks rest in
    let gone = document-unlink c ks rest n (inner f n h.forest h.here) in
    told_where (is_in_document f n) (Remove n) d (tree_of (unlink f n) 0)
    (λ t. sym gone)
    (λ t. sym (gone ∙ without_absent d n (none_of (count_of d n) t)))
at_document (change.Insert n p b) c ks rest h =
    let d = Tree 0 c ks Nil in
    let f = Tree 0 c ks rest in
    let put = h.here.place in
    let once = h.forest.distinct in
    let none = none_where (count_of d n) (within_root f 0 once h.forest.document n (λ e. (let i = put.inner in omega (arith, e, i))) put.loose) in
    let linked = document-link c ks rest n put.inner p b in
    told_where (is_in_document f p) (told_tree f n p b) d (tree_of (link f p b n) 0)
    (λ t. told_tree_follows c ks rest n p b put.inner once none ∙ sym linked)
    (λ t. sym (without_absent d n none) ∙ (put_out c ks rest n p b put.inner once (none_of (count_of d p) t) ∙ sym linked))
at_document (change.Move n p b) c ks rest h =
    let d = Tree 0 c ks Nil in
    let f = Tree 0 c ks rest in
    let once = h.forest.distinct in
    let q = unwrap_or (parent_of f n) 0 in
    let child = given_parent f n h.here.0 in
    let positive = inner f n h.forest h.here.0 in
    let linked : tree_of (link (unlink f n) p b n) 0 ≡ put_under (without d n) p b (tree_of f n) =
    (λ i. tree_of (put_under (without-unlink f q n once child i) p b (tree_of-unlink f q n once child i)) 0)
    ∙ document-link c ks rest n positive p b in
    told_move_follows c ks rest n p b positive once (is_in_document f n) (is_in_document f p)
    (some_of (count_of d n)) (none_of (count_of d n)) (none_of (count_of d p))
    ∙ sym linked
at_document (change.SetText n words) c ks rest h =
    let d = Tree 0 c ks Nil in
    let f = Tree 0 c ks rest in
    let there = chars_there f n h.forest.distinct h.forest.nodes h.here.0 in
    told_text_follows (is_in_document f n) d n (unwrap_or (chars_of f n) words) words (none_of (count_of d n))
    (λ s st. ap (λ o. option_and_then chars_in (option_map (λ (x : Seen Content). x.content) o)) (sym (seek-document c ks rest n s h.forest.distinct st)) ∙ rw there.1 refl)
at_document (change.Splice n at gone taken put) c ks rest h =
    let d = Tree 0 c ks Nil in
    let f = Tree 0 c ks rest in
    let words = spliced_at f n at (length taken) put in
    told_text_follows (is_in_document f n) d n (unwrap_or (chars_of f n) []) words (none_of (count_of d n))
    (λ s st. ap (λ o. option_and_then chars_in (option_map (λ (x : Seen Content). x.content) o)) (sym (seek-document c ks rest n s h.forest.distinct st)) ∙ rw h.here.chars refl)
at_document (change.SetAttributes n list) c ks rest h =
    let d = Tree 0 c ks Nil in
    told_where (is_in_document (Tree 0 c ks rest) n) (SetAttributes n list) d (revised d n (with_attributes list))
    (λ t. refl)
    (λ t. sym (revised-absent d n (with_attributes list) (none_of (count_of d n) t)))

pub told_follows : (x : Change) (f : Forest Content) → Fits x f → forth followed (told x f) (tree_of f 0) ≡ tree_of (applied x f) 0
told_follows x f h =
    let ok = h.forest in
    let first = document_first f ok.distinct ok.rising ok.document ok.root in
    subst (λ (g : Forest Content). Fits x g → forth followed (told x g) (tree_of g 0) ≡ tree_of (applied x g) 0) (sym first.3) (at_document x first.0 first.1 first.2) h

pub told_all_follows : (xs : List Change) (f : Forest Content) → FitsForth applied Fits xs f → forth followed (told_all xs f) (tree_of f 0) ≡ tree_of (forth applied xs f) 0
unfolding told_all forth FitsForth
told_all_follows [] f h = refl
told_all_follows (x ∷ xs) f h =
    forth-join followed (told x f) (told_all xs (applied x f)) (tree_of f 0)
    ∙ (ap (forth followed (told_all xs (applied x f))) (told_follows x f h.0) ∙ told_all_follows xs (applied x f) h.1)
