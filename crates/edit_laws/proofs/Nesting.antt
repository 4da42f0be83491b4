-- A new element comes to just before a node, attributes of it are set, the node moves into it, and out again to just before it.
use Rattle.std.proofs.Common.{◌≡◌, ◌≢◌, ℕ, ◌<◌, zero, suc, Bool, true, false, cond, eqb, List, [], ◌∷◌, ◌++◌, Option, Some, None, refl, sym, ap, subst, ◌∙◌, inl, inr, arith}
use Rattle.std.specs.Option.{option_map, option_map_or, option_and_then}
use Rattle.std.proofs.lemmas.Bool.{cases_Bool, ne_eqb}
use Rattle.edit_model.specs.DomModel.declared.Content.{Content}
use Rattle.edit_model.specs.DomModel.declared.attributes.Attribute.{Attribute}
use Rattle.edit_model.specs.DomModel.Forest.{Forest, Seen, tops, first_in, after_in, count_of, seek, parent_of, children_of, next_of, content_of, tree_of, link, join}
use Rattle.edit_model.specs.DomModel.Forest.Forest.{Nil, Tree}
use Rattle.edit_model.specs.DomModel.Revised.{revised}
use Rattle.edit_model.proofs.DomModel.DropTree.{leaf_tree}
use Rattle.edit_model.proofs.DomModel.Stands.{Stands, Stands-tree_of, seek_Stands}
use Rattle.edit_model.proofs.DomModel.Links.{tree_of_absent, next_of-link, children_of-link, seek-with_leaf_new, eqb_refl_true}
use Rattle.edit_model.proofs.DomModel.Kept.{content_of-link}
use Rattle.edit_model.proofs.DomModel.Revising.{total-revised, parent_of-revised, children_of-revised, content_of-revised}
use Rattle.edit_model.proofs.DomModel.Within.{within_self}
use Rattle.edit_model.specs.State.{State}
use Rattle.edit_model.specs.Kept.{borne_by, leaves, is_thing}
use Rattle.edit_model.specs.Confined.{may_insert, may_move, may_set, may_unset}
use Rattle.edit_model.specs.Edit.{Insert, Move, Set, Unset, is_made_edit, trees_after, with_set, with_unset, edited}
use Rattle.edit_model.specs.Action.{element_content, made}
use Rattle.edit_model.specs.History.{document_of}
use Rattle.edit_model.specs.Valid.{IsValid}
use Rattle.edit_model.specs.Moves.{insert_before, move_before, move_all_before, move_last}
use Rattle.edit_model.specs.Run.{final, for_each}
use Rattle.edit_model.proofs.Documents.{document-revised}
use Rattle.edit_model.proofs.IslandRuns.{trees_made, trees_left}
use Rattle.edit_model.proofs.Steps.{final-bind, final-answer, final-look, for_each-cons, for_each-nil}
use Rattle.edit_model.proofs.Tests.{inserts}
use Rattle.edit_laws.specs.Order.{KeepsOrder, IsKeeping}
use Rattle.edit_laws.specs.MoveLaws.{IsBare}
use Rattle.edit_laws.proofs.Subsequences.{keeps_trans}
use Rattle.edit_laws.proofs.Leaves.{leaves-Nil, leaves-Tree}
use Rattle.edit_laws.proofs.QuietActions.{keeping_edited, same_document, bare_insert_keeps, bears-set, bears-unset}
use Rattle.edit_laws.proofs.Around.{spot_as}
use Rattle.edit_laws.proofs.Slides.{Slide}
use Rattle.edit_laws.proofs.Lifting.{node_found}
use Rattle.edit_laws.proofs.Handing.{final_move_last, take}
use Rattle.edit_laws.proofs.ReversedBefore.{next_is}
use Rattle.edit_laws.proofs.Seats.{Seat, seat}
use Rattle.edit_laws.proofs.Loose.{IsLoose, none_there, loose_parent, still_last, still_before}
use Rattle.edit_laws.proofs.MoveLaws.{headed_first, go_before, go_past}
use Rattle.edit_laws.proofs.Renaming.{new_borne, made_trees, new_absent, new_loose, keeping_made, keeps_made}
use Rattle.edit_laws.proofs.NewElements.{new_bare}
use Rattle.edit_laws.proofs.Adopting.{final_insert_before}

-- ---- a node without children

childless : (s : State) → IsValid s → (x : ℕ) → children_of s.trees x ≡ [] → IsBare s x → leaves (tree_of s.trees x) ≡ []
childless s is x none bare = by_count (count_of s.trees x) refl
  where
    by_count : (k : ℕ) → count_of s.trees x ≡ k → leaves (tree_of s.trees x) ≡ []
    by_count zero e = rw (tree_of_absent s.trees x e) leaves-Nil
    by_count (suc k) e =
        let once = is.forest.distinct in
        let t = leaf_tree s.trees x once (omega (arith, e)) (ap first_in none) in
        let st : Stands None (tree_of s.trees x) x (record { parent = None; content = t.0; children = [] }) = rw t.1 (inl (refl, refl)) in
        let content : content_of s.trees x ≡ Some t.0 = elim (Stands-tree_of None None s.trees x x _ (once x) st) [
          | inl (_, o, k, same) ↦ ap (option_map (λ (y : Seen Content). y.content)) (seek_Stands None s.trees x o (once x) k) ∙ ap Some (sym (ap (λ (y : Seen Content). y.content) same))
          | inr (off, _) ↦ absurd (off refl)
        ] in
        ap leaves t.1 ∙ (leaves-Tree x t.0 Nil Nil ∙ (ap (λ l. l ++ (leaves Nil ++ leaves Nil)) (bare t.0 content) ∙ rw leaves-Nil refl))

no_tops : (f : Forest Content) → tops f ≡ [] → f ≡ Nil
no_tops Nil e = refl
no_tops (Tree m c ks rest) e = absurd (let e' = e in cc)

-- ---- the new element p and the node n

-- p isn't in the document, or it stands just before n, without children, and bears nothing itself
pub data Near (s : State) (p n : ℕ) : Type 0 where
  loose : IsLoose s p → Near s p n
  beside : next_of s.trees p ≡ Some n → children_of s.trees p ≡ [] → IsBare s p → Near s p n

-- or n is its only child
pub data Held (s : State) (p n : ℕ) : Type 0 where
  near : Near s p n → Held s p n
  inside : children_of s.trees p ≡ n ∷ [] → IsBare s p → Held s p n

-- ---- n moves into p

module _ (s : State) (is : IsKeeping s) (p n : ℕ) where
  loose_last : IsLoose s p → KeepsOrder s (final (move_last p n) s) × Held (final (move_last p n) s) p n
  loose_last none =
      let same = still_last p n s is none in
      (same_document s (final (move_last p n) s) same, near (loose (ap (λ g. count_of g p) same ∙ none)))

  beside_last : next_of s.trees p ≡ Some n → children_of s.trees p ≡ [] → IsBare s p → KeepsOrder s (final (move_last p n) s) × Held (final (move_last p n) s) p n
  beside_last next empty bare = by_parent (parent_of s.trees p) refl
    where
      t : State
      t = edited (Move n p None) s

      by_made : (v : Bool) → may_move s n p None ≡ v → (q : ℕ) (pre : Forest Content) (e : Content) (j : Forest Content) (d : Content) (post : Forest Content) → borne_by p e ≡ []
          → Slide s t q (join pre (Tree p e (Tree n d j Nil) post)) v → Held t p n
      by_made true w q pre e j d post none one =
          let found = node_found t (keeping_edited (Move n p None) s is).valid q pre p e (Tree n d j Nil) post (one.moved refl) in
          inside (ap (λ (k : Option (Seen Content)). option_map_or (λ (y : Seen Content). y.children) k []) found)
          (λ c h. (let same : Some c ≡ Some e = sym h ∙ ap (option_map (λ (y : Seen Content). y.content)) found in let is_e : c ≡ e = (let k = same in cc) in ap (borne_by p) is_e ∙ none))
      by_made false w q pre e j d post none one = subst (λ u. Held u p n) (sym (one.left refl)) (near (beside next empty bare))

      seated : (q : ℕ) → Seat s p q → KeepsOrder s (final (move_last p n) s) × Held (final (move_last p n) s) p n
      seated q w =
          let after : first_in (tops w.post) ≡ Some n = sym (next_is s is.valid q w.pre p w.content w.kids w.post w.spot) ∙ next in
          let h = headed_first w.post n after in
          let none : w.kids ≡ Nil = no_tops w.kids (sym w.children ∙ empty) in
          let shape : join w.pre (Tree p w.content w.kids w.post) ≡ join w.pre (Tree p w.content Nil (Tree n h.content h.kids h.post)) =
          ap (λ k. join w.pre (Tree p w.content k w.post)) none ∙ ap (λ k. join w.pre (Tree p w.content Nil k)) h.is in
          let one = take s is q w.pre p w.content Nil n h.content h.kids h.post (spot_as (document_of s.trees) q _ _ shape w.spot) in
          rw (final_move_last p n s) (one.keeps, by_made (may_move s n p None) refl q w.pre w.content h.kids h.content h.post (bare w.content w.content_is) one)

      by_count : (q : ℕ) → parent_of s.trees p ≡ Some q → (k : ℕ) → count_of (document_of s.trees) q ≡ k → KeepsOrder s (final (move_last p n) s) × Held (final (move_last p n) s) p n
      by_count q up zero e = loose_last (loose_parent s is.valid p q up e)
      by_count q up (suc k) e = seated q (seat s is.valid p q up (omega (arith, e)))

      by_parent : (o : Option ℕ) → parent_of s.trees p ≡ o → KeepsOrder s (final (move_last p n) s) × Held (final (move_last p n) s) p n
      by_parent None root = absurd (let k : None ≡ Some n = sym (ap (λ p'. option_and_then (λ k. after_in (children_of s.trees k) p) p') root) ∙ next in cc)
      by_parent (Some q) up = by_count q up (count_of (document_of s.trees) q) refl

  pub goes_in : Near s p n → KeepsOrder s (final (move_last p n) s) × Held (final (move_last p n) s) p n
  goes_in (loose none) = loose_last none
  goes_in (beside next empty bare) = beside_last next empty bare

  -- ---- and out again

  one_move : final (for_each (n ∷ []) (move_before p)) s ≡ final (move_before p n) s
  one_move = rw (for_each-cons, final-bind, for_each-nil, final-answer) refl

  pub goes_out : Held s p n → KeepsOrder s (final (move_before p n) s)
  unfolding move_all_before
  goes_out (near (loose none)) = same_document s (final (move_before p n) s) (still_before p n s is none)
  goes_out (near (beside next empty bare)) = go_past s is p n next (childless s is.valid p empty bare)
  goes_out (inside kids bare) = subst (λ t. KeepsOrder s t) one_move (go_before s is (n ∷ []) [] p kids bare)

-- ---- attributes that are set

-- the trees have the same nodes at the same places, and what bears nothing still does
pub record Shaped (s t : State) : Type 0 where
  pub parent : (l : ℕ) → parent_of t.trees l ≡ parent_of s.trees l
  pub children : (l : ℕ) → children_of t.trees l ≡ children_of s.trees l
  pub bare : (l : ℕ) → IsBare s l → IsBare t l
  pub count : (l : ℕ) → count_of (document_of t.trees) l ≡ count_of (document_of s.trees) l

pub shaped_refl : (s : State) → Shaped s s
shaped_refl s = record { parent = λ l. refl; children = λ l. refl; bare = λ l b. b; count = λ l. refl }

pub shaped_trans : (s t u : State) → Shaped s t → Shaped t u → Shaped s u
shaped_trans s t u a b = record {
  parent = λ l. b.parent l ∙ a.parent l;
  children = λ l. b.children l ∙ a.children l;
  bare = λ l h. b.bare l (a.bare l h);
  count = λ l. b.count l ∙ a.count l;
}

same_shape : (s t : State) → t.trees ≡ s.trees → Shaped s t
same_shape s t e = record {
  parent = λ l. ap (λ f. parent_of f l) e;
  children = λ l. ap (λ f. children_of f l) e;
  bare = λ l h c k. h c (sym (ap (λ f. content_of f l) e) ∙ k);
  count = λ l. ap (λ f. count_of (tree_of f 0) l) e;
}

revised_shape : (s t : State) → IsValid s → (o : ℕ) (g : Content → Content) → ((l : ℕ) (c : Content) → borne_by l (g c) ≡ borne_by l c) → t.trees ≡ revised s.trees o g → Shaped s t
revised_shape s t is o g same e = record {
  parent = λ l. ap (λ f. parent_of f l) e ∙ parent_of-revised o g s.trees l;
  children = λ l. ap (λ f. children_of f l) e ∙ children_of-revised o g s.trees l;
  bare = λ l h c k. still (eqb o l) l h c (content_of s.trees l) refl (sym (content_of-revised o g s.trees l) ∙ (sym (ap (λ f. content_of f l) e) ∙ k));
  count = λ l. ap (λ f. count_of (tree_of f 0) l) e ∙ (ap (λ f. count_of f l) (document-revised s.trees s.next is.forest o g) ∙ total-revised o g (λ m. cond (eqb m l) 1 0) (tree_of s.trees 0));
}
  where
    still : (v : Bool) (l : ℕ) → IsBare s l → (c : Content) (k : Option Content) → content_of s.trees l ≡ k → option_map (λ d. cond v (g d) d) k ≡ Some c → borne_by l c ≡ []
    still v l h c None at k = absurd (let k' = k in cc)
    still true l h c (Some d) at k = let w : g d ≡ c = (let k' = k in cc) in ap (borne_by l) (sym w) ∙ (same l d ∙ h d at)
    still false l h c (Some d) at k = let w : d ≡ c = (let k' = k in cc) in ap (borne_by l) (sym w) ∙ h d at

pub shaped_set : (o : ℕ) (name value : List ℕ) (s : State) → IsValid s → Shaped s (edited (Set o name value) s)
unfolding is_made_edit trees_after
shaped_set o name value s is = elim (cases_Bool (may_set s o name value)) [
  | inr off ↦ same_shape s (edited (Set o name value) s) (trees_left (Set o name value) s off)
  | inl may ↦ revised_shape s (edited (Set o name value) s) is o (with_set name value) (bears-set name value) (trees_made (Set o name value) s may)
]

pub shaped_unset : (o : ℕ) (name : List ℕ) (s : State) → IsValid s → Shaped s (edited (Unset o name) s)
unfolding is_made_edit trees_after
shaped_unset o name s is = elim (cases_Bool (may_unset s o name)) [
  | inr off ↦ same_shape s (edited (Unset o name) s) (trees_left (Unset o name) s off)
  | inl may ↦ revised_shape s (edited (Unset o name) s) is o (with_unset name) (bears-unset name) (trees_made (Unset o name) s may)
]

pub near_shaped : (s t : State) (p n : ℕ) → Shaped s t → Near s p n → Near t p n
near_shaped s t p n k (loose none) = loose (k.count p ∙ none)
near_shaped s t p n k (beside next empty bare) = beside (same_next (parent_of s.trees p) refl ∙ next) (k.children p ∙ empty) (k.bare p bare)
  where
    same_next : (o : Option ℕ) → parent_of s.trees p ≡ o → next_of t.trees p ≡ next_of s.trees p
    same_next o e = ap (λ m. option_and_then (λ q. after_in (children_of t.trees q) p) m) (k.parent p ∙ e) ∙ (by o ∙ sym (ap (λ m. option_and_then (λ q. after_in (children_of s.trees q) p) m) e))
      where
        by : (o : Option ℕ) → option_and_then (λ q. after_in (children_of t.trees q) p) o ≡ option_and_then (λ q. after_in (children_of s.trees q) p) o
        by None = refl
        by (Some q) = ap (λ l. after_in l p) (k.children q)

-- ---- the new element is put in

module _ (s : State) (is : IsKeeping s) (name : List ℕ) (attributes : List Attribute) (plain : is_thing name ≡ false) (n : ℕ) where
  c : Content
  c = element_content name attributes

  p : ℕ
  p = s.next

  s1 : State
  s1 = made c s

  is1 : IsKeeping s1
  unfolding s1 c
  is1 = keeping_made name attributes s is

  keeps1 : KeepsOrder s s1
  unfolding s1 c
  keeps1 = keeps_made name attributes s is

  loose1 : IsLoose s1 p
  unfolding s1 p
  loose1 = none_there (count_of (document_of s1.trees) s.next) (new_loose s is c)

  seek1 : seek None s1.trees p ≡ Some (record { parent = None; content = c; children = [] })
  unfolding s1 p
  seek1 = ap (λ f. seek None f s.next) (made_trees c s) ∙ seek-with_leaf_new s.trees s.next c (new_absent s is c)

  children1 : children_of s1.trees p ≡ []
  children1 = ap (λ (k : Option (Seen Content)). option_map_or (λ (y : Seen Content). y.children) k []) seek1

  content1 : content_of s1.trees p ≡ Some c
  content1 = ap (option_map (λ (y : Seen Content). y.content)) seek1

  module _ (q : ℕ) where
    s2 : State
    s2 = edited (Insert q (Some n) p) s1

    keeps2 : KeepsOrder s s2
    unfolding s2 s1 p c
    keeps2 = keeps_trans keeps1 (bare_insert_keeps q (Some n) s.next (made (element_content name attributes) s) is1 (new_bare name attributes s is plain))

    near2 : Near s2 p n
    unfolding s2 is_made_edit trees_after c
    near2 = elim (cases_Bool (may_insert s1 q (Some n) p)) [
      | inr off ↦ loose (ap (λ f. count_of (tree_of f 0) p) (trees_left (Insert q (Some n) p) s1 off) ∙ loose1)
      | inl may ↦ (
          let now : s2.trees ≡ link s1.trees q (Some n) p = trees_made (Insert q (Some n) p) s1 may in
          let can = (inserts s1 q (Some n) p may).can in
          let once = is1.valid.forest.distinct in
          let apart : q ≢ p = λ same. (
          let here : 0 < count_of s1.trees p = subst (λ k. 0 < count_of s1.trees k) same can.parent in
          let self = within_self s1.trees p once here in
          let none = subst (λ k. count_of (tree_of s1.trees p) k ≡ 0) same can.apart in
          omega (arith, self, none)) in
          beside
          (ap (λ f. next_of f p) now ∙ (next_of-link s1.trees q (Some n) p once can p _ seek1 ∙ rw (eqb_refl_true p) refl))
          (ap (λ f. children_of f p) now ∙ (children_of-link s1.trees q (Some n) p once can p ∙ rw (ne_eqb q p apart) children1))
          (λ d h. (
          let same : Some d ≡ Some c = sym h ∙ (ap (λ f. content_of f p) now ∙ (content_of-link s1.trees q (Some n) p p once can ∙ content1)) in
          let is_c : d ≡ c = (let k = same in cc) in
          ap (borne_by p) is_c ∙ bare1)))
    ]
      where
        bare1 : borne_by p c ≡ []
        bare1 = new_borne p name attributes plain

  pub put_near : KeepsOrder s (final (insert_before n s.next) (made (element_content name attributes) s)) × Near (final (insert_before n s.next) (made (element_content name attributes) s)) s.next n
  unfolding s2 s1 p c insert_before
  put_near = by_parent (parent_of (made (element_content name attributes) s).trees n) refl
    where
      by_parent : (o : Option ℕ) → parent_of (made (element_content name attributes) s).trees n ≡ o → KeepsOrder s (final (insert_before n s.next) (made (element_content name attributes) s)) × Near (final (insert_before n s.next) (made (element_content name attributes) s)) s.next n
      by_parent None root = rw (final-look, root, final-answer) (keeps1, loose loose1)
      by_parent (Some q) up = rw (final_insert_before n s.next q (made (element_content name attributes) s) up) (keeps2 q, near2 q)
