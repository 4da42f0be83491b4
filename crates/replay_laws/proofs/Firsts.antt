-- The document stays the first tree while lines are replayed, so that it is printed without the loose trees.
use Rattle.std.proofs.Common.{◌≡◌, ℕ, zero, suc, ◌+◌, Bool, true, false, true≢false, cond, eqb, not, nat_lt, List, [], ◌∷◌, Option, Some, None, Result, Ok, Err, refl, sym, ap, subst, ◌∙◌, arith}
use Rattle.std.specs.Prelude.{is_some, is_none}
use Rattle.std.proofs.lemmas.Bool.{and_parts}
use Rattle.std.proofs.lemmas.Bool.Decides.{nat_tests}
use Rattle.edit_model.specs.DomModel.declared.Content.{Content}
use Rattle.edit_model.specs.DomModel.Contents.{with_chars, with_attributes}
use Rattle.edit_model.specs.DomModel.Forest.{Forest, join, parent_of, tree_of, without, put_before, put_under, put_rising, link, unlink, with_leaf}
use Rattle.edit_model.specs.DomModel.Forest.Forest.{Nil, Tree}
use Rattle.edit_model.specs.DomModel.Revised.{revised}
use Rattle.inline_value.specs.ForestChanges.Change.{applied}
use Rattle.edit_model.specs.History.{document_of}
use Rattle.step_text.specs.Applying.{Labelled, has_labels, is_loose, can_stand, has_place, has_room, fault_of, made_content, trees_after, line_applied, refused_or, replayed_from}
use Rattle.step_text.specs.declared.line.StepFault.{StepFault}
use Rattle.step_text.specs.declared.line.StepFault.TheVariants.{BadLabel, BadPlace, TooDeep}
use Rattle.step_text.specs.declared.line.StepLine.{StepLine}
use Rattle.step_text.specs.declared.line.StepLine.TheVariants.{Entry, Make, Insert, Remove, Move, Words, Tag}
use Rattle.edit_session.specs.Transcript.{replayed_text}
use Rattle.edit_session.specs.declared.replay.Tally.{Tally}

-- the first tree has the label 0
pub record HasFirst (f : Forest Content) : Type 0 where
  pub content : Content
  pub kids : Forest Content
  pub rest : Forest Content
  pub is : f ≡ Tree 0 content kids rest

first_tree : (c : Content) (ks rest : Forest Content) → HasFirst (Tree 0 c ks rest)
first_tree c ks rest = record { content = c; kids = ks; rest = rest; is = refl }

-- ---- edits of other nodes

first_without : (c : Content) (ks rest t : Forest Content) (n : ℕ) → HasFirst (put_rising (Tree 0 c ks rest) n t)
first_without c ks rest t n = let low = none_below n in rw low (first_tree c ks (put_rising rest n t))
  where
    none_below : (k : ℕ) → nat_lt k 0 ≡ false
    none_below k = grind (arith, nat_tests)

first_unlink : (f : Forest Content) (n : ℕ) → eqb 0 n ≡ false → HasFirst f → HasFirst (unlink f n)
first_unlink f n off h = subst (λ (g : Forest Content). HasFirst (unlink g n)) (sym h.is) (at_tree h.content h.kids h.rest)
  where
    at_tree : (c : Content) (ks rest : Forest Content) → HasFirst (unlink (Tree 0 c ks rest) n)
    at_tree c ks rest = subst (λ (b : Bool). HasFirst (put_rising (cond b rest (Tree 0 c (without ks n) (without rest n))) n (tree_of (Tree 0 c ks rest) n))) (sym off)
        (first_without c (without ks n) (without rest n) (tree_of (Tree 0 c ks rest) n) n)

first_under : (c : Content) (ks rest t : Forest Content) (p : ℕ) (b : Option ℕ) → HasFirst (put_under (Tree 0 c ks rest) p b t)
first_under c ks rest t p b = by_test (eqb 0 p)
  where
    by_test : (v : Bool) → HasFirst (cond v (Tree 0 c (put_before ks b t) rest) (Tree 0 c (put_under ks p b t) (put_under rest p b t)))
    by_test true = first_tree c (put_before ks b t) rest
    by_test false = first_tree c (put_under ks p b t) (put_under rest p b t)

first_link : (f : Forest Content) (p : ℕ) (b : Option ℕ) (n : ℕ) → eqb 0 n ≡ false → HasFirst f → HasFirst (link f p b n)
first_link f p b n off h = subst (λ (g : Forest Content). HasFirst (link g p b n)) (sym h.is) (at_tree h.content h.kids h.rest)
  where
    at_tree : (c : Content) (ks rest : Forest Content) → HasFirst (link (Tree 0 c ks rest) p b n)
    at_tree c ks rest = subst (λ (v : Bool). HasFirst (put_under (cond v rest (Tree 0 c (without ks n) (without rest n))) p b (tree_of (Tree 0 c ks rest) n))) (sym off)
        (first_under c (without ks n) (without rest n) (tree_of (Tree 0 c ks rest) n) p b)

first_revised : (f : Forest Content) (n : ℕ) (g : Content → Content) → HasFirst f → HasFirst (revised f n g)
first_revised f n g h =
    subst (λ (w : Forest Content). HasFirst (revised w n g)) (sym h.is) (first_tree (cond (eqb n 0) (g h.content) h.content) (revised h.kids n g) (revised h.rest n g))

first_leaf : (f : Forest Content) (l : ℕ) (c : Content) → HasFirst f → HasFirst (with_leaf f l c)
first_leaf f l c h =
    subst (λ (w : Forest Content). HasFirst (with_leaf w l c)) (sym h.is) (first_tree h.content h.kids (join h.rest (Tree l c Nil Nil)))

-- ---- lines

not_first : (l : ℕ) → not (eqb l 0) ≡ true → eqb 0 l ≡ false
not_first zero t = absurd (true≢false (sym t))
not_first (suc l) t = above l
  where
    above : (k : ℕ) → eqb 0 (suc k) ≡ false
    above k = grind (arith, nat_tests)

child_not_first : (f : Forest Content) (l : ℕ) → HasFirst f → is_some (parent_of f l) ≡ true → eqb 0 l ≡ false
child_not_first f l h some = at_tree l h.content h.kids h.rest (subst (λ (g : Forest Content). is_some (parent_of g l) ≡ true) h.is some)
  where
    above : (k : ℕ) → eqb 0 (suc k) ≡ false
    above k = grind (arith, nat_tests)

    at_tree : (k : ℕ) (c : Content) (ks rest : Forest Content) → is_some (parent_of (Tree 0 c ks rest) k) ≡ true → eqb 0 k ≡ false
    at_tree zero c ks rest t = absurd (true≢false (sym t))
    at_tree (suc k) c ks rest t = above k

first_after : (x : StepLine) (f : Forest Content) → has_place x f ≡ true → HasFirst f → HasFirst (trees_after x f)
unfolding has_place trees_after applied
first_after Entry f place h = h
first_after (Make l made) f place h = first_leaf f l (made_content made) h
first_after (Insert l p b) f place h =
    let loose = (and_parts (is_loose f l) (can_stand f l p b) place).0 in
    first_link f p b l (not_first l (and_parts (is_none (parent_of f l)) (not (eqb l 0)) loose).1) h
first_after (Remove l) f place h = first_unlink f l (child_not_first f l h place) h
first_after (Move l p b) f place h =
    let off = child_not_first f l h (and_parts (is_some (parent_of f l)) (can_stand f l p b) place).0 in
    first_link (unlink f l) p b l off (first_unlink f l off h)
first_after (Words l words) f place h = first_revised f l (with_chars words) h
first_after (Tag l name attributes) f place h = first_revised f l (with_attributes attributes) h

pub line_fits : (x : StepLine) (d : Labelled) → fault_of x d ≡ None → (has_labels x d ≡ true) × (has_place x d.trees ≡ true)
unfolding fault_of
line_fits x d e = by_tests (has_labels x d) (has_place x d.trees) (has_room x d.trees) e
  where
    by_tests : (a b c : Bool) → ◌≡◌ {A = Option StepFault} (cond a (cond b (cond c None (Some TooDeep)) (Some BadPlace)) (Some BadLabel)) None → (a ≡ true) × (b ≡ true)
    by_tests true true c e = (refl, refl)
    by_tests true false c e = absurd (let t : ◌≡◌ {A = Option StepFault} (Some BadPlace) None = e in cc)
    by_tests false b c e = absurd (let t : ◌≡◌ {A = Option StepFault} (Some BadLabel) None = e in cc)

pub first_applied : (number : ℕ) (o : Option StepFault) (rest : Result Labelled (ℕ × StepFault)) (last : Labelled) → refused_or number o rest ≡ Ok last → (o ≡ None) × (rest ≡ Ok last)
first_applied number None rest last e = (refl, e)
first_applied number (Some fault) rest last e = absurd (let t : ◌≡◌ {A = Result Labelled (ℕ × StepFault)} (Err (number, fault)) (Ok last) = e in cc)

pub first_stays : (number : ℕ) (xs : List StepLine) (d last : Labelled) → replayed_from number xs d ≡ Ok last → HasFirst d.trees → HasFirst last.trees
unfolding replayed_from line_applied
first_stays number [] d last e h =
    let same : d ≡ last = (let t : ◌≡◌ {A = Result Labelled (ℕ × StepFault)} (Ok d) (Ok last) = e in cc) in
    subst (λ (w : Labelled). HasFirst w.trees) same h
first_stays number (x ∷ xs) d last e h =
    let parts = first_applied number (fault_of x d) (replayed_from (number + 1) xs (line_applied x d)) last e in
    first_stays (number + 1) xs (line_applied x d) last parts.1 (first_after x d.trees (line_fits x d parts.0).1 h)

-- ---- what is printed

pub text_same : (t : Tally) (f g : Forest Content) (next : ℕ) → HasFirst f → document_of f ≡ g → replayed_text t f next ≡ replayed_text t g next
text_same t f g next h e =
    let alone : Tree 0 h.content h.kids Nil ≡ g = sym (ap document_of h.is) ∙ e in
    let first : replayed_text t f next ≡ replayed_text t (Tree 0 h.content h.kids Nil) next = ap (λ (w : Forest Content). replayed_text t w next) h.is in
    first ∙ ap (λ (w : Forest Content). replayed_text t w next) alone
