-- The last child of a node goes to the front of the bare node just after it, which may be a new item; the two stay beside each
-- other.
use Rattle.std.proofs.Common.{◌≡◌, ℕ, ◌<◌, zero, suc, true, false, List, [], ◌∷◌, Option, Some, None, refl, sym, ap, subst, ◌∙◌, inl, inr, arith}
use Rattle.std.specs.Option.{option_map, option_and_then}
use Rattle.std.proofs.lemmas.Bool.{cases_Bool, ne_eqb}
use Rattle.edit_model.specs.DomModel.declared.Content.{Content}
use Rattle.edit_model.specs.DomModel.declared.Content.TheVariants.{Element}
use Rattle.edit_model.specs.DomModel.Forest.{Forest, Seen, tops, first_in, after_in, count_of, parent_of, children_of, next_of, first_of, last_of, tree_of, put_under, join}
use Rattle.edit_model.specs.DomModel.Forest.Forest.{Nil, Tree}
use Rattle.edit_model.proofs.DomModel.Totals.{put_under_nowhere}
use Rattle.edit_model.proofs.DomModel.Neighbours.{parent_of-next}
use Rattle.edit_model.proofs.DomModel.Links.{children_of-link, children_of-with_leaf}
use Rattle.edit_model.specs.State.{State}
use Rattle.edit_model.specs.Kept.{borne_by, leaves, is_thing}
use Rattle.edit_model.specs.Confined.{may_insert, may_move}
use Rattle.edit_model.specs.Edit.{Insert, Move, is_made_edit, trees_after, edited}
use Rattle.edit_model.specs.Action.{made}
use Rattle.edit_model.specs.History.{document_of}
use Rattle.edit_model.specs.Moves.{insert_after, move_first}
use Rattle.edit_model.specs.Run.{final}
use Rattle.edit_model.proofs.Documents.{document-link}
use Rattle.edit_model.proofs.IslandRuns.{trees_made, trees_left}
use Rattle.edit_model.proofs.Tests.{inserts}
use Rattle.edit_laws.specs.Order.{KeepsOrder, IsKeeping}
use Rattle.edit_laws.specs.MoveLaws.{IsBare}
use Rattle.edit_laws.proofs.Subsequences.{keeps_trans}
use Rattle.edit_laws.proofs.QuietActions.{keeping_edited, same_document, bare_insert_keeps}
use Rattle.edit_laws.proofs.Around.{Spot, spot_other, spot_as, spot_distinct, spot_tree, spot_without, spot_put_top, spot_put_below, self_one, fill}
use Rattle.edit_laws.proofs.Patterns.{count-join, join-assoc, take_last, put_after_node, put_first_below, drop_leaves, front_leaves}
use Rattle.edit_laws.proofs.Slides.{document_distinct, Slide, slide, parent_other}
use Rattle.edit_laws.proofs.Lifting.{node_found}
use Rattle.edit_laws.proofs.ReversedBefore.{next_is, first_is, final_move_first}
use Rattle.edit_laws.proofs.Seats.{Seat, seat, parts_of, headed}
use Rattle.edit_laws.proofs.Loose.{IsLoose, none_there, loose_parent, still_first}
use Rattle.edit_laws.proofs.MoveLaws.{headed_first}
use Rattle.edit_laws.proofs.Renaming.{plain_borne, made_trees, new_absent, new_tree, new_loose, keeping_made, keeps_made}
use Rattle.edit_laws.proofs.NewElements.{new_bare}
use Rattle.edit_laws.proofs.Adopting.{final_insert_after, after_nothing}
use Rattle.command_laws.proofs.Widening.{last_parted}

-- ---- among the trees below one node

-- x bears nothing itself
over_leaves : (pre : Forest Content) (o : ℕ) (c : Content) (n : ℕ) (d : Content) (j k : Forest Content) (x : ℕ) (e : Content) (g post : Forest Content) → borne_by x e ≡ []
    → leaves (join pre (Tree o c k (Tree x e (Tree n d j g) post))) ≡ leaves (join pre (Tree o c (join k (Tree n d j Nil)) (Tree x e g post)))
over_leaves pre o c n d j k x e g post bare =
    ap leaves (sym (join-assoc pre (Tree o c k Nil) (Tree x e (Tree n d j g) post)))
    ∙ (front_leaves (join pre (Tree o c k Nil)) n d j x e g post bare
    ∙ (ap leaves (join-assoc pre (Tree o c k Nil) (Tree n d j (Tree x e g post)))
    ∙ drop_leaves pre o c n d j k (Tree x e g post)))

over : (s : State) → IsKeeping s → (q : ℕ) (pre : Forest Content) (o : ℕ) (c : Content) (n : ℕ) (d : Content) (j k : Forest Content) (x : ℕ) (e : Content) (g post : Forest Content) → borne_by x e ≡ []
    → Spot (document_of s.trees) q (join pre (Tree o c (join k (Tree n d j Nil)) (Tree x e g post)))
    → Slide s (edited (Move n x (first_in (tops g))) s) q (join pre (Tree o c k (Tree x e (Tree n d j g) post))) (may_move s n x (first_in (tops g)))
over s is q pre o c n d j k x e g post bare spot =
    let f = document_of s.trees in
    let once = document_distinct s.trees is.valid.forest.distinct in
    let kids = join pre (Tree o c (join k (Tree n d j Nil)) (Tree x e g post)) in
    let others = join pre (Tree o c k (Tree x e (Tree n d j g) post)) in
    let left = join pre (Tree o c k (Tree x e g post)) in
    let kids_once = spot_distinct f once q kids spot in
    let inside : 0 < count_of kids n = omega (arith, count-join pre (Tree o c (join k (Tree n d j Nil)) (Tree x e g post)) n, count-join k (Tree n d j Nil) n, self_one n) in
    let here : 0 < count_of kids x = omega (arith, count-join pre (Tree o c (join k (Tree n d j Nil)) (Tree x e g post)) x, self_one x) in
    let apart : count_of (join pre (Tree o c k Nil)) x ≡ 0 =
    omega (arith, kids_once x, count-join pre (Tree o c (join k (Tree n d j Nil)) (Tree x e g post)) x, count-join k (Tree n d j Nil) x, count-join pre (Tree o c k Nil) x, self_one x) in
    let t = take_last pre o c n d j k (Tree x e g post) kids_once in
    let put : put_under left x (first_in (tops g)) (Tree n d j Nil) ≡ others =
    ap (λ h. put_under h x (first_in (tops g)) (Tree n d j Nil)) (sym (join-assoc pre (Tree o c k Nil) (Tree x e g post)))
    ∙ (put_first_below (join pre (Tree o c k Nil)) x e g post n d j apart ∙ join-assoc pre (Tree o c k Nil) (Tree x e (Tree n d j g) post)) in
    slide s is q kids others spot n x (first_in (tops g)) inside
    (rw (spot_without f once q kids spot n inside, spot_tree f once q kids spot n inside, t.tree, t.out)
    (spot_put_below f once q kids spot left x (first_in (tops g)) (Tree n d j Nil) here ∙ ap (λ h. fill spot.around (Tree q spot.content h spot.rest)) put))
    (over_leaves pre o c n d j k x e g post bare)

-- ---- by look-ups

-- x isn't in the document, or it stands just after o and bears nothing itself
pub data Follows (s : State) (o x : ℕ) : Type 0 where
  loose : IsLoose s x → Follows s o x
  beside : next_of s.trees o ≡ Some x → IsBare s x → Follows s o x

no_tops : (f : Forest Content) → tops f ≡ [] → f ≡ Nil
no_tops Nil e = refl
no_tops (Tree m c ks rest) e = absurd (let e' = e in cc)

module _ (s : State) (is : IsKeeping s) (q : ℕ) (pre : Forest Content) (o : ℕ) (c : Content) (k : Forest Content) (x : ℕ) (e : Content) (g post : Forest Content) (spot : Spot (document_of s.trees) q (join pre (Tree o c k (Tree x e g post)))) where
  second_spot : Spot (document_of s.trees) q (join (join pre (Tree o c k Nil)) (Tree x e g post))
  second_spot = spot_as (document_of s.trees) q _ _ (sym (join-assoc pre (Tree o c k Nil) (Tree x e g post))) spot

  -- two trees, one after the other
  follows_there : borne_by x e ≡ [] → Follows s o x
  follows_there bare =
      let found = node_found s is.valid q (join pre (Tree o c k Nil)) x e g post second_spot in
      beside (next_is s is.valid q pre o c k (Tree x e g post) spot)
      (λ d h. (let same : Some d ≡ Some e = sym h ∙ ap (option_map (λ (y : Seen Content). y.content)) found in let is_e : d ≡ e = (let w = same in cc) in ap (borne_by x) is_e ∙ bare))

module _ (s : State) (is : IsKeeping s) (o x n : ℕ) where
  Goes : State → Type 0
  Goes t = KeepsOrder s t × Follows t o x

  loose_first : IsLoose s x → Goes (final (move_first x n) s)
  unfolding Goes
  loose_first none =
      let same = still_first x n s is none in
      (same_document s (final (move_first x n) s) same, loose (ap (λ g. count_of g x) same ∙ none))

  by_made : (q : ℕ) (pre : Forest Content) (c d : Content) (j k : Forest Content) (e : Content) (g post : Forest Content) → borne_by x e ≡ []
      → next_of s.trees o ≡ Some x → IsBare s x
      → Slide s (edited (Move n x (first_in (tops g))) s) q (join pre (Tree o c k (Tree x e (Tree n d j g) post))) (may_move s n x (first_in (tops g)))
      → Goes (edited (Move n x (first_in (tops g))) s)
  unfolding Goes
  by_made q pre c d j k e g post none next bare one = (
    one.keeps,
    elim (cases_Bool (may_move s n x (first_in (tops g)))) [
      | inl may ↦ follows_there (edited (Move n x (first_in (tops g))) s) (keeping_edited (Move n x (first_in (tops g))) s is) q pre o c k x e (Tree n d j g) post (one.moved may) none
      | inr off ↦ subst (λ t. Follows t o x) (sym (one.left off)) (beside next bare)
    ],
  )

  seated : last_of s.trees o ≡ Some n → next_of s.trees o ≡ Some x → IsBare s x → (q : ℕ) → Seat s o q → Goes (final (move_first x n) s)
  seated last next bare q w =
      let after : first_in (tops w.post) ≡ Some x = sym (next_is s is.valid q w.pre o w.content w.kids w.post w.spot) ∙ next in
      let h = headed_first w.post x after in
      let l = last_parted (children_of s.trees o) n last in
      let p = parts_of w.kids l.0 (n ∷ []) (sym w.children ∙ l.1) in
      let m = headed p.second n [] p.seconds in
      let end : m.post ≡ Nil = no_tops m.post m.seconds in
      let own : w.kids ≡ join p.first (Tree n m.content m.kids Nil) = p.is ∙ (ap (join p.first) m.is ∙ ap (λ r. join p.first (Tree n m.content m.kids r)) end) in
      let spot =
      spot_as (document_of s.trees) q _ (join w.pre (Tree o w.content (join p.first (Tree n m.content m.kids Nil)) (Tree x h.content h.kids h.post)))
      (ap (λ r. join w.pre (Tree o w.content w.kids r)) h.is ∙ ap (λ r. join w.pre (Tree o w.content r (Tree x h.content h.kids h.post))) own) w.spot in
      let deeper = second_spot s is q w.pre o w.content (join p.first (Tree n m.content m.kids Nil)) x h.content h.kids h.post spot in
      let around = join w.pre (Tree o w.content (join p.first (Tree n m.content m.kids Nil)) Nil) in
      let found = node_found s is.valid q around x h.content h.kids h.post deeper in
      let none = bare h.content (ap (option_map (λ (y : Seen Content). y.content)) found) in
      let place : first_of s.trees x ≡ first_in (tops h.kids) = first_is s is q around x h.content h.kids h.post deeper in
      rw (final_move_first x n s, place)
      (by_made q w.pre w.content m.content m.kids p.first h.content h.kids h.post none next bare (over s is q w.pre o w.content n m.content m.kids p.first x h.content h.kids h.post none spot))

  pub goes_on : last_of s.trees o ≡ Some n → Follows s o x → KeepsOrder s (final (move_first x n) s) × Follows (final (move_first x n) s) o x
  unfolding Goes
  goes_on last (loose none) = loose_first none
  goes_on last (beside next bare) = by_parent (parent_of s.trees o) refl
    where
      next_up : (q : ℕ) → parent_of s.trees o ≡ Some q → parent_of s.trees x ≡ Some q
      next_up q up = parent_of-next s.trees is.valid.forest.distinct o x q up next

      by_count : (q : ℕ) → parent_of s.trees o ≡ Some q → (k : ℕ) → count_of (document_of s.trees) q ≡ k → KeepsOrder s (final (move_first x n) s) × Follows (final (move_first x n) s) o x
      by_count q up zero e = loose_first (loose_parent s is.valid x q (next_up q up) e)
      by_count q up (suc k) e = seated last next bare q (seat s is.valid o q up (omega (arith, e)))

      by_parent : (p : Option ℕ) → parent_of s.trees o ≡ p → KeepsOrder s (final (move_first x n) s) × Follows (final (move_first x n) s) o x
      by_parent None root = absurd (let k : None ≡ Some x = sym (ap (λ p. option_and_then (λ k. after_in (children_of s.trees k) o) p) root) ∙ next in cc)
      by_parent (Some q) up = by_count q up (count_of (document_of s.trees) q) refl

-- ---- a new element comes to just after o

module _ (s : State) (is : IsKeeping s) (name : List ℕ) (plain : is_thing name ≡ false) (o : ℕ) where
  new : Content
  new = Element name []

  x : ℕ
  x = s.next

  s1 : State
  s1 = made new s

  is1 : IsKeeping s1
  unfolding s1 new
  is1 = keeping_made name [] s is

  keeps1 : KeepsOrder s s1
  unfolding s1 new
  keeps1 = keeps_made name [] s is

  loose1 : IsLoose s1 x
  unfolding s1 x
  loose1 = none_there (count_of (document_of s1.trees) s.next) (new_loose s is new)

  bare1 : borne_by x new ≡ []
  unfolding new
  bare1 = plain_borne x name [] plain

  children1 : children_of s1.trees o ≡ children_of s.trees o
  unfolding s1
  children1 = ap (λ f. children_of f o) (made_trees new s) ∙ children_of-with_leaf s.trees s.next new (new_absent s is new) o

  module _ (q : ℕ) (up : parent_of s1.trees o ≡ Some q) where
    s2 : State
    s2 = edited (Insert q (next_of s1.trees o) x) s1

    is2 : IsKeeping s2
    unfolding s2
    is2 = keeping_edited (Insert q (next_of s1.trees o) x) s1 is1

    keeps2 : KeepsOrder s s2
    unfolding s2 s1 x new
    keeps2 = keeps_trans keeps1 (bare_insert_keeps q (next_of s1.trees o) s.next s1 is1 (new_bare name [] s is plain))

    children2 : children_of s2.trees o ≡ children_of s.trees o
    unfolding s2 is_made_edit trees_after
    children2 = elim (cases_Bool (may_insert s1 q (next_of s1.trees o) x)) [
      | inr off ↦ ap (λ f. children_of f o) (trees_left (Insert q (next_of s1.trees o) x) s1 off) ∙ children1
      | inl may ↦
          ap (λ f. children_of f o) (trees_made (Insert q (next_of s1.trees o) x) s1 may)
          ∙ (children_of-link s1.trees q (next_of s1.trees o) x is1.valid.forest.distinct (inserts s1 q (next_of s1.trees o) x may).can o
          ∙ rw (ne_eqb q o (parent_other s1.trees is1.valid.forest.distinct o q up)) children1)
    ]

    linked : may_insert s1 q (next_of s1.trees o) x ≡ true → document_of s2.trees ≡ put_under (document_of s1.trees) q (next_of s1.trees o) (tree_of s1.trees x)
    unfolding s2 is_made_edit trees_after
    linked may =
        ap (λ f. tree_of f 0) (trees_made (Insert q (next_of s1.trees o) x) s1 may)
        ∙ document-link s1.trees s1.next is1.valid.forest q (next_of s1.trees o) x (inserts s1 q (next_of s1.trees o) x may).can

    tree1 : tree_of s1.trees x ≡ Tree x new Nil Nil
    unfolding s1 x
    tree1 = new_tree s is new

    seated2 : may_insert s1 q (next_of s1.trees o) x ≡ true → Seat s1 o q → Follows s2 o x
    seated2 may w =
        let f = document_of s1.trees in
        let once = document_distinct s1.trees is1.valid.forest.distinct in
        let kids = join w.pre (Tree o w.content w.kids w.post) in
        let others = join w.pre (Tree o w.content w.kids (Tree x new Nil w.post)) in
        let place : next_of s1.trees o ≡ first_in (tops w.post) = next_is s1 is1.valid q w.pre o w.content w.kids w.post w.spot in
        let put =
        ap (λ g. put_under g q (next_of s1.trees o) (tree_of s1.trees x)) w.spot.is
        ∙ (ap (λ b. put_under (fill w.spot.around (Tree q w.spot.content kids w.spot.rest)) q b (tree_of s1.trees x)) place
        ∙ (ap (λ g. put_under (fill w.spot.around (Tree q w.spot.content kids w.spot.rest)) q (first_in (tops w.post)) g) tree1
        ∙ (spot_put_top f once q kids w.spot kids (first_in (tops w.post)) (Tree x new Nil Nil)
        ∙ ap (λ h. fill w.spot.around (Tree q w.spot.content h w.spot.rest)) (put_after_node w.pre o w.content w.kids w.post x new Nil (spot_distinct f once q kids w.spot))))) in
        let spot : Spot (document_of s2.trees) q others = spot_other f (document_of s2.trees) q kids others w.spot (linked may ∙ put) in
        follows_there s2 is2 q w.pre o w.content w.kids x new Nil w.post spot bare1

    follows2 : Follows s2 o x
    unfolding s2 is_made_edit
    follows2 = elim (cases_Bool (may_insert s1 q (next_of s1.trees o) x)) [
      | inr off ↦ loose (ap (λ f. count_of (tree_of f 0) x) (trees_left (Insert q (next_of s1.trees o) x) s1 off) ∙ loose1)
      | inl may ↦ by_count may (count_of (document_of s1.trees) q) refl
    ]
      where
        by_count : may_insert s1 q (next_of s1.trees o) x ≡ true → (k : ℕ) → count_of (document_of s1.trees) q ≡ k → Follows s2 o x
        by_count may zero none = loose (ap (λ g. count_of g x) (linked may ∙ put_under_nowhere (document_of s1.trees) q (next_of s1.trees o) (tree_of s1.trees x) none) ∙ loose1)
        by_count may (suc k) some = seated2 may (seat s1 is1.valid o q up (omega (arith, some)))

  pub stands_after : KeepsOrder s (final (insert_after o s.next) (made (Element name []) s))
      × (Follows (final (insert_after o s.next) (made (Element name []) s)) o s.next × (children_of (final (insert_after o s.next) (made (Element name []) s)).trees o ≡ children_of s.trees o))
  unfolding s2 s1 x new
  stands_after = by_parent (parent_of (made (Element name []) s).trees o) refl
    where
      by_parent : (p : Option ℕ) → parent_of (made (Element name []) s).trees o ≡ p → KeepsOrder s (final (insert_after o s.next) (made (Element name []) s))
          × (Follows (final (insert_after o s.next) (made (Element name []) s)) o s.next × (children_of (final (insert_after o s.next) (made (Element name []) s)).trees o ≡ children_of s.trees o))
      by_parent None root = rw (after_nothing o s.next (made (Element name []) s) root) (keeps1, (loose loose1, children1))
      by_parent (Some q) up = rw (final_insert_after o s.next q (made (Element name []) s) up) (keeps2 q up, (follows2 q up, children2 q up))
