-- The history over what is left of a forest, where its steps name only that.
use Rattle.std.proofs.Common.{◌≡◌, ℕ, ◌<◌, ◌≤◌, Bool, false, List, [], ◌∷◌, map, Option, None, refl, sym, ap, subst, ◌∙◌, arith}
use Rattle.edit_model.specs.DomModel.declared.Content.{Content}
use Rattle.edit_model.specs.DomModel.Forest.{Forest, count_of, tree_of, parent_of, first_in, IsDistinct}
use Rattle.edit_model.specs.DomModel.Pruned.{pruned}
use Rattle.edit_model.proofs.DomModel.Pruning.{count_of-pruned, tree_of-pruned, parent_of-pruned, children_of-pruned}
use Rattle.edit_model.proofs.DomModel.Stands.{times-tops}
use Rattle.step_edits.specs.UndoLog.Turning.{back, forth, FitsBack, FitsForth}
use Rattle.step_edits.specs.ForestChanges.Change.{Change, IsForest, Fits, applied}
use Rattle.step_edits.specs.ForestChanges.Named.{Each, named_in}
use Rattle.step_edits.specs.ForestChanges.Down.{Prunes, IsLeft, GoBackDown, GoForthDown}
use Rattle.step_edits.proofs.ForestChanges.ChangeLists.{each_of, each_first, each_rest, each_join, back_down, forth_down}
use Rattle.step_edits.proofs.ForestChanges.Twice.{count_of-applied, IsForest-applied}
use Rattle.step_edits.specs.EditSteps.declared.step.Step.{Step}
use Rattle.step_edits.specs.EditSteps.Step.{changes_of, nodes_of, nodes_in}
use Rattle.step_edits.proofs.EditSteps.StepLists.{named_labels}
use Rattle.edit_model.specs.NodeArena.declared.NodeRef.{NodeRef}
use Rattle.edit_model.specs.LiveRange.declared.places.Places.{Places}
use Rattle.edit_model.specs.LiveRange.Names.{shown, named, marks_of}
use Rattle.edit_model.specs.Gives.{labels_of}
use Rattle.edit_model.specs.History.{used}
use Rattle.edit_doc.specs.declared.command.EntrySnapshot.{EntrySnapshot}
use Rattle.edit_doc.specs.declared.command.Command.{Command}
use Rattle.edit_doc.specs.declared.history.Way.{Way}
use Rattle.edit_doc.specs.History.{forest_before, forest_after, edits_before, roots_from, is_hidden, view_at, led, older, newer, edits_of, entries, other}
use Rattle.edit_doc.specs.declared.history.Way.TheVariants.{Back, Forth}
use Rattle.edit_doc.specs.Sound.{RefIn, EachHeldIn, IsSide, AreFresh, IsOff, IsSnapshot, detached_of, Lies, FitsWay, changes_along, bound_of, next_bound}
use Rattle.edit_doc.proofs.HiddenTrees.{hidden_is, is_hidden_from, pruned_more, both_detached, tops_detached, tops_stay, loose_detached, model_forest, document-pruned, placed-pruned, node_count-pruned, char_count-pruned, page_depth-pruned}
use Rattle.edit_doc.proofs.MadeNodes.{listed_has, used-pruned}

-- ---- steps keep a forest and its labels

pub back_forest : (xs : List Change) (f : Forest Content) → FitsBack applied Fits xs f → IsForest f → IsForest (back applied xs f)
unfolding back FitsBack
back_forest [] f h is = is
back_forest (x ∷ xs) f h is = IsForest-applied x (back applied xs f) h.1

pub back_labels : (xs : List Change) (f : Forest Content) (l : ℕ) → FitsBack applied Fits xs f → count_of (back applied xs f) l ≡ count_of f l
unfolding back FitsBack
back_labels [] f l h = refl
back_labels (x ∷ xs) f l h = count_of-applied x (back applied xs f) h.1 l ∙ back_labels xs f l h.0

pub forth_forest : (xs : List Change) (f : Forest Content) → FitsForth applied Fits xs f → IsForest f → IsForest (forth applied xs f)
unfolding forth FitsForth
forth_forest [] f h is = is
forth_forest (x ∷ xs) f h is = forth_forest xs (applied x f) h.1 (IsForest-applied x f h.0)

pub forth_labels : (xs : List Change) (f : Forest Content) (l : ℕ) → FitsForth applied Fits xs f → count_of (forth applied xs f) l ≡ count_of f l
unfolding forth FitsForth
forth_labels [] f l h = refl
forth_labels (x ∷ xs) f l h = forth_labels xs (applied x f) l h.1 ∙ count_of-applied x f h.0 l

-- ---- a bound of the labels of a forest

pub record Bounded (f : Forest Content) : Type 0 where
  pub next : ℕ
  pub below : (l : ℕ) → 0 < count_of f l → l < next

pub back_bounded : (e : List Step) (f : Forest Content) → FitsBack applied Fits (changes_of e) f → Bounded f → Bounded (forest_before e f)
back_bounded e f h b = record { next = b.next; below = λ l here. b.below l (let s = back_labels (changes_of e) f l h in omega arith) }

-- ---- either way

pub led_forest : (w : Way) (e : List Step) (f : Forest Content) → FitsWay w e f → IsForest f → IsForest (led w e f)
led_forest Back e f h is = back_forest (changes_of e) f h is
led_forest Forth e f h is = forth_forest (changes_of e) f h is

pub led_labels : (w : Way) (e : List Step) (f : Forest Content) (l : ℕ) → FitsWay w e f → count_of (led w e f) l ≡ count_of f l
led_labels Back e f l h = back_labels (changes_of e) f l h
led_labels Forth e f l h = forth_labels (changes_of e) f l h

led_bounded : (w : Way) (e : List Step) (f : Forest Content) → FitsWay w e f → Bounded f → Bounded (led w e f)
led_bounded w e f h b = record { next = b.next; below = λ l here. b.below l (let s = led_labels w e f l h in omega arith) }

-- what holds at both ends holds before the entry, and after it
pub at_older : {A : Type 0} (P : A → A → Type 0) (w : Way) (here there here' there' : A) → P here here' → P there there' → P (older w here there) (older w here' there')
at_older P Back here there here' there' a b = b
at_older P Forth here there here' there' a b = a

pub at_newer : {A : Type 0} (P : A → A → Type 0) (w : Way) (here there here' there' : A) → P here here' → P there there' → P (newer w here there) (newer w here' there')
at_newer P Back here there here' there' a b = a
at_newer P Forth here there here' there' a b = b

pub ends_of : {A B : Type 0} (h : A → B) (P : B → B → Type 0) (w : Way) (here there : A) → P (h (older w here there)) (h (newer w here there)) → P (older w (h here) (h there)) (newer w (h here) (h there))
ends_of h P Back here there x = x
ends_of h P Forth here there x = x

pub turned_ends : {A : Type 0} (P : A → A → Type 0) (w : Way) (here there : A) → P (older w here there) (newer w here there) → P (older (other w) there here) (newer (other w) there here)
turned_ends P Back here there x = x
turned_ends P Forth here there x = x

-- what an entry names is there where one is
pub names_here : (w : Way) (names : List (List ℕ)) (f g : Forest Content) (e : List Step) (ts : List Change) (b : EntrySnapshot) (ds : List NodeRef) (high start : ℕ) →
    IsSnapshot names (older w f g) (newer w f g) e ts b ds high start → Each (IsLeft (is_hidden (older w f g) b.span.first_label) f) (named_in (changes_of e))
names_here Back names f g e ts b ds high start h = h.names_there
names_here Forth names f g e ts b ds high start h = h.names_seen

-- ---- one entry

pub side-pruned : (k : ℕ → Bool) → k 0 ≡ false → (names : List (List ℕ)) (f : Forest Content) (p : Places) (nodes chars depth : ℕ) → IsForest f → Bounded f → IsSide names f p nodes chars depth → IsSide names (pruned k f) p nodes chars depth
side-pruned k keeps names f p nodes chars depth is b h =
    let m = model_forest f is b.next b.below in
    record {
      over = h.over;
      placed = placed-pruned f b.next m k keeps (shown names p) h.placed;
      resting = h.resting;
      nodes_are = h.nodes_are ∙ sym (node_count-pruned f b.next m k keeps);
      chars_are = h.chars_are ∙ sym (char_count-pruned f b.next m k keeps);
      no_deeper = subst (λ n. n ≤ depth) (sym (page_depth-pruned f b.next m k keeps)) h.no_deeper;
    }

-- what is seen beside hidden trees is seen when some trees go
seen_detached : (k : ℕ → Bool) (before f : Forest Content) (first l : ℕ) → IsDistinct f → IsLeft k f l → IsLeft (is_hidden before first) f l → IsLeft (is_hidden (pruned k before) first) (pruned k f) l
seen_detached k before f first l once a b =
    let both = both_detached k (is_hidden before first) f l once a b in
    let more = pruned_more (is_hidden before first) (is_hidden (pruned k before) first) (pruned k f) l
    (λ m e. (let h = hidden_is (pruned k before) first m e in is_hidden_from before first m (record { inner = h.inner; old = h.old; root = (tops_detached k before m h.root).0 }))) in
    omega arith

pub each_both : {A : Type 0} (P Q R : A → Type 0) (ls : List A) → ((l : A) → P l → Q l → R l) → Each P ls → Each Q ls → Each R ls
each_both P Q R [] f a b = tt
each_both P Q R (l ∷ ls) f a b = (f l a.0 b.0, each_both P Q R ls f a.1 b.1)

fresh-pruned : (k : ℕ → Bool) (f : Forest Content) (first : ℕ) → IsDistinct f → AreFresh f first → AreFresh (pruned k f) first
fresh-pruned k f first once h = record {
  loose = λ l from here. parent_of-pruned k f l once here ∙ h.loose l from (omega (arith, here, count_of-pruned k f l));
  leaf = λ l from here. ap first_in (children_of-pruned k f l once here) ∙ h.leaf l from (omega (arith, here, count_of-pruned k f l));
}

snapshot-pruned : (k : ℕ → Bool) → k 0 ≡ false → (names : List (List ℕ)) (before after : Forest Content) (e : List Step) (ts : List Change) (b : EntrySnapshot) (detached : List NodeRef) (high start : ℕ) →
    IsForest before → Bounded before → IsForest after → Bounded after →
    Each (IsLeft k before) (named_in (changes_of e)) → Each (IsLeft k after) (named_in (changes_of e)) →
    IsSnapshot names before after e ts b detached high start → IsSnapshot names (pruned k before) (pruned k after) e ts b detached high start
snapshot-pruned k keeps names before after e ts b detached high start is bound is' bound' seen there h = record {
  was = side-pruned k keeps names before b.span.before b.span.nodes_before b.span.chars_before b.span.depth_before is bound h.was;
  is = side-pruned k keeps names after b.span.after b.span.nodes_after b.span.chars_after b.span.depth_after is' bound' h.is;
  some_label = h.some_label;
  fresh = fresh-pruned k before b.span.first_label is.distinct h.fresh;
  drawn = h.drawn;
  known = h.known;
  hidden = λ l t. (
      let u = hidden_is (pruned k before) b.span.first_label l t in
      let w = tops_detached k before l u.root in
      let x = h.hidden l (is_hidden_from before b.span.first_label l (record { inner = u.inner; old = u.old; root = w.0 })) in
      let y = tops_stay k after l w.1 in
      omega arith);
  names_seen = each_both (IsLeft k before) (IsLeft (is_hidden before b.span.first_label) before) (IsLeft (is_hidden (pruned k before) b.span.first_label) (pruned k before)) (named_in (changes_of e)) (λ l. seen_detached k before before b.span.first_label l is.distinct) seen h.names_seen;
  names_there = each_both (IsLeft k after) (IsLeft (is_hidden before b.span.first_label) after) (IsLeft (is_hidden (pruned k before) b.span.first_label) (pruned k after)) (named_in (changes_of e)) (λ l. seen_detached k before after b.span.first_label l is'.distinct) there h.names_there;
  names_old = h.names_old;
  turns_old = h.turns_old;
  detached_loose = each_of (λ l. (0 < l) × ((l < high) × (parent_of after l ≡ None))) (λ l. (0 < l) × ((l < high) × (parent_of (pruned k after) l ≡ None))) (labels_of detached) (λ l t. (t.0, (t.1.0, loose_detached k after l is'.distinct t.1.1))) h.detached_loose;
  detached_all = λ l inner top out. (
      let was = tops_detached k after l top in
      let same : tree_of (pruned k after) l ≡ tree_of after l = tree_of-pruned k after l is'.distinct (omega (arith, top, times-tops (pruned k after) l)) in
      let off : (ls : List ℕ) → Each (IsOff after l) ls → Each (IsOff (pruned k after) l) ls = λ ls t. subst (λ g. Each (λ m. count_of g m ≡ 0) ls) (sym same) t in
      h.detached_all l inner was.0 (λ a b. out (off (named_in (changes_of e)) a) (off (named_in ts) b)));
}

-- ---- nodes that stay held

-- what is held and left is held afterwards
abbrev pub KeepsLeft : (ℕ → Bool) → Forest Content → List (Option ℕ) → List (Option ℕ) → Type 0
KeepsLeft k f old new = (q : NodeRef) → RefIn old q → IsLeft k f q.label → RefIn new q

each_label : (P : ℕ → Type 0) (rs : List NodeRef) → Each P (map (λ (r : NodeRef). r.label) rs) → Each (λ r. P r.label) rs
each_label P [] h = tt
each_label P (r ∷ rs) h = (h.0, each_label P rs h.1)

labels_in : (P : ℕ → Type 0) (xs : List Step) → Each P (named_in (changes_of xs)) → Each (λ r. P r.label) (nodes_in xs)
labels_in P [] h = tt
labels_in P (x ∷ xs) h =
    each_join (λ (r : NodeRef). P r.label) (nodes_of x) (nodes_in xs)
    (each_label P (nodes_of x) (subst (Each P) (sym (named_labels x)) (each_first P _ (named_in (changes_of xs)) h)))
    (labels_in P xs (each_rest P _ (named_in (changes_of xs)) h))

pub held_detached : (k : ℕ → Bool) (f : Forest Content) (old new : List (Option ℕ)) → KeepsLeft k f old new → (xs : List Step) → Each (IsLeft k f) (named_in (changes_of xs)) → EachHeldIn old xs → EachHeldIn new xs
held_detached k f old new keeps xs detached held = each_both (RefIn old) (λ r. IsLeft k f r.label) (RefIn new) (nodes_in xs) (λ q a b. keeps q a b) held (labels_in (IsLeft k f) xs detached)

-- ---- the history

module _ (k : ℕ → Bool) where
  -- each step names only what is left of the forest
  abbrev pub EntriesLeft : Forest Content → List (List Step) → Type 0
  EntriesLeft f [] = Unit {0}
  EntriesLeft f (e ∷ es) = Each (IsLeft k f) (named_in (changes_of e)) × EntriesLeft f es

  pub entries_moved : (f g : Forest Content) → ((l : ℕ) → count_of (pruned k g) l ≡ count_of (pruned k f) l) → (es : List (List Step)) → EntriesLeft f es → EntriesLeft g es
  entries_moved f g same [] h = tt
  entries_moved f g same (e ∷ es) h = (each_of (IsLeft k f) (IsLeft k g) (named_in (changes_of e)) (λ l t. (let s = same l in omega arith)) h.0, entries_moved f g same es h.1)

  keeps_moved : (f g : Forest Content) → ((l : ℕ) → count_of (pruned k g) l ≡ count_of (pruned k f) l) → (old new : List (Option ℕ)) → KeepsLeft k f old new → KeepsLeft k g old new
  keeps_moved f g same old new keeps q h detached = keeps q h (let s = same q.label in omega arith)

  -- an entry that names only what is left leads the same way without what goes
  pub record LedDown (w : Way) (e : List Step) (f : Forest Content) : Type 0 where
    pub fits : FitsWay w e (pruned k f)
    pub same : pruned k (led w e f) ≡ led w e (pruned k f)
    pub turns : changes_along w e (pruned k f) ≡ changes_along w e f
    pub edits : edits_of w e (pruned k f) ≡ edits_of w e f
    pub names : Each (IsLeft k f) (named_in (changes_along w e f))
    pub there : Each (IsLeft k (led w e f)) (named_in (changes_of e))
    pub prunes : Prunes k (led w e f)
    pub stays : (l : ℕ) → count_of (pruned k (led w e f)) l ≡ count_of (pruned k f) l

  pub led_down : (w : Way) (e : List Step) (f : Forest Content) → Prunes k f → FitsWay w e f → Each (IsLeft k f) (named_in (changes_of e)) → LedDown w e f
  led_down Back e f prunes h ls =
      let d : GoBackDown k (changes_of e) f = back_down k (changes_of e) f prunes h ls in
      record { fits = d.fits; same = d.same; turns = d.turns; edits = d.turns; names = d.names; there = each_of (IsLeft k f) (IsLeft k (forest_before e f)) (named_in (changes_of e)) (λ l t. (let s = d.stays l in omega arith)) ls; prunes = d.prunes; stays = d.stays }
  led_down Forth e f prunes h ls =
      let d : GoForthDown k (changes_of e) f = forth_down k (changes_of e) f prunes h ls in
      record { fits = d.fits; same = d.same; turns = d.turns; edits = refl; names = d.names; there = each_of (IsLeft k f) (IsLeft k (forest_after e f)) (named_in (changes_of e)) (λ l t. (let s = d.stays l in omega arith)) ls; prunes = d.prunes; stays = d.stays }

  used_down : (w : Way) (first : ℕ) (e : List Step) (f : Forest Content) → Prunes k f → Each (IsLeft k f) (named_in (changes_of e)) → LedDown w e f →
      used (edits_of w e (pruned k f)) (roots_from first (older w (pruned k f) (led w e (pruned k f)))) ≡ used (edits_of w e f) (roots_from first (older w f (led w e f)))
  used_down Back first e f prunes ls d =
      let g = forest_before e f in
      let left = each_of (IsLeft k f) (IsLeft k g) (named_in (edits_before e f)) (λ m u. (let s = d.stays m in omega (arith, s, u))) d.names in
      (λ i. used (d.turns i) (roots_from first (sym d.same i))) ∙ used-pruned k (edits_before e f) first g (λ l t. d.prunes.out l (listed_has (IsLeft k g) (named_in (edits_before e f)) l left t))
  used_down Forth first e f prunes ls d = used-pruned k (changes_of e) first f (λ l t. prunes.out l (listed_has (IsLeft k f) (named_in (changes_of e)) l ls t))

  module _ (old new : List (Option ℕ)) (names : List (List ℕ)) (c : Command) where
    pub lies-pruned : (w : Way) (r : Bool) (high : ℕ) (f : Forest Content) (es : List (List Step)) (bs : List EntrySnapshot) → Prunes k f → IsForest f → Bounded f → KeepsLeft k f old new → EntriesLeft f es → Lies w old names r c high f es bs → Lies w new names r c high (pruned k f) es bs
    lies-pruned w r high f [] [] prunes is bound keeps detached h = tt
    lies-pruned w r high f [] (b ∷ bs) prunes is bound keeps detached h = absurd h
    lies-pruned w r high f (e ∷ es) [] prunes is bound keeps detached h = absurd h
    lies-pruned w r high f (e ∷ es) (b ∷ bs) prunes is bound keeps detached h =
        let g = led w e f in
        let d = led_down w e f prunes h.0.0 detached.0 in
        let is' = led_forest w e f h.0.0 is in
        let bound' = led_bounded w e f h.0.0 bound in
        let snap : Forest Content → Forest Content → List Change → Type 0 = λ t u ts. IsSnapshot names t u e ts b (detached_of r c b) (bound_of w high c.start bs) c.start in
        let own : snap (pruned k (older w f g)) (pruned k (newer w f g)) (changes_along w e f) = snapshot-pruned k prunes.document names (older w f g) (newer w f g) e (changes_along w e f) b (detached_of r c b) (bound_of w high c.start bs) c.start
        (at_older (λ t _. IsForest t) w f g f g is is') (at_older (λ t _. Bounded t) w f g f g bound bound') (at_newer (λ t _. IsForest t) w f g f g is is') (at_newer (λ t _. Bounded t) w f g f g bound bound')
        (at_older (λ t _. Each (IsLeft k t) (named_in (changes_of e))) w f g f g detached.0 d.there) (at_newer (λ t _. Each (IsLeft k t) (named_in (changes_of e))) w f g f g detached.0 d.there) h.1.0 in
        let ends = ends_of (pruned k) (λ t u. snap t u (changes_along w e f)) w f g own in
        let rest = lies-pruned w false (next_bound w high b) g es bs d.prunes is' bound' (keeps_moved f g d.stays old new keeps) (entries_moved f g d.stays es detached.1) h.1.1 in (
          (d.fits, held_detached k f old new keeps e detached.0 h.0.1),
          (
            subst (λ t. snap (older w (pruned k f) t) (newer w (pruned k f) t) (changes_along w e (pruned k f))) d.same (subst (snap (older w (pruned k f) (pruned k g)) (newer w (pruned k f) (pruned k g))) (sym d.turns) ends),
            subst (λ t. Lies w new names false c (next_bound w high b) t es bs) d.same rest,
          ),
        )

    view-pruned : (f : Forest Content) (p : Places) → Prunes k f → IsForest f → Bounded f → view_at names (pruned k f) p ≡ view_at names f p
    view-pruned f p prunes is b = ap (λ t. record { document = t; selection = p.selection; marks = map (named names) (marks_of p) }) (document-pruned f b.next (model_forest f is b.next b.below) k prunes.document)

    pub entries-pruned : (w : Way) (r : Bool) (high : ℕ) (f : Forest Content) (es : List (List Step)) (bs : List EntrySnapshot) → Prunes k f → IsForest f → Bounded f → EntriesLeft f es → Lies w old names r c high f es bs → entries w names (pruned k f) es bs ≡ entries w names f es bs
    entries-pruned w r high f [] bs prunes is bound detached h = refl
    entries-pruned w r high f (e ∷ es) [] prunes is bound detached h = refl
    entries-pruned w r high f (e ∷ es) (b ∷ bs) prunes is bound detached h =
        let g = led w e f in
        let g' = led w e (pruned k f) in
        let d = led_down w e f prunes h.0.0 detached.0 in
        let is' = led_forest w e f h.0.0 is in
        let bound' = led_bounded w e f h.0.0 bound in
        let here : (p : Places) → view_at names (pruned k f) p ≡ view_at names f p = λ p. view-pruned f p prunes is bound in
        let there : (p : Places) → view_at names g' p ≡ view_at names g p = λ p. ap (λ t. view_at names t p) (sym d.same) ∙ view-pruned g p d.prunes is' bound' in
        let was = at_older (λ t u. view_at names t b.span.before ≡ view_at names u b.span.before) w (pruned k f) g' f g (here b.span.before) (there b.span.before) in
        let now = at_newer (λ t u. view_at names t b.span.after ≡ view_at names u b.span.after) w (pruned k f) g' f g (here b.span.after) (there b.span.after) in
        let used_is = used_down w b.span.first_label e f prunes detached.0 d in
        let rest = ap (λ t. entries w names t es bs) (sym d.same) ∙ entries-pruned w false (next_bound w high b) g es bs d.prunes is' bound' (entries_moved f g d.stays es detached.1) h.1.1 in
        λ i. record { before = was i; after = now i; edits = d.edits i; made = used_is i } ∷ rest i
