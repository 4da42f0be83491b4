-- Each change of the trees keeps what holds of them.
use Rattle.std.proofs.Common.{◌≡◌, ◌≢◌, ◌↔◌, ℕ, zero, suc, ◌+◌, ◌<◌, ◌≤◌, ◌^◌, true, false, cond, eqb, Option, Some, None, IfSome, refl, sym, ap, subst, ◌∙◌, inl, inr, arith}
use Rattle.std.proofs.lemmas.Bool.Decides.{eqb_tells}
use Rattle.point_order.specs.DomModel.declared.Content.{Content}
use Rattle.point_order.specs.DomModel.declared.Content.TheVariants.{Document}
use Rattle.point_order.specs.DomModel.AttributeList.{IsDistinctNames}
use Rattle.point_order.specs.DomModel.Contents.{is_parent_at, may_have_children, attributes_in, char_length}
use Rattle.point_order.specs.DomModel.Forest.{Forest, Seen, total, times, tops, count_of, tree_of, parent_of, content_of, without, put_rising, link, unlink, with_leaf, RisesFrom, CanPut}
use Rattle.point_order.specs.DomModel.Revised.{revised}
use Rattle.std.specs.Option.{option_map, option_map_or}
use Rattle.point_order.proofs.DomModel.Totals.{total-unlink}
use Rattle.point_order.proofs.DomModel.Stands.{times-tops}
use Rattle.point_order.proofs.DomModel.Links.{total-link, IsDistinct-link, parent_of-link_root, IsDistinct-unlink, tree_n, gone_n, parent_of-unlink_root, total-with_leaf, parent_of-with_leaf}
use Rattle.point_order.proofs.DomModel.Rising.{RisesFrom-without, RisesFrom-put_under, RisesFrom-put_rising, RisesFrom-with_leaf}
use Rattle.point_order.proofs.DomModel.Move.{CanPut-unlink}
use Rattle.point_order.proofs.DomModel.Kept.{content_of-unlink}
use Rattle.point_order.proofs.DomModel.Revising.{total-revised, RisesFrom-revised, parent_of-revised}
use Rattle.point_order.proofs.DomModel.Few.{total-few}
use Rattle.point_order.proofs.DomModel.NodesKept.{nodes-link, nodes-unlink, nodes-with_leaf, nodes-revised}
use Rattle.edit_model.specs.Valid.{IsForest}

module _ (f : Forest Content) (next : ℕ) (is : IsForest f next) where
  -- ---- a link

  pub forest-link : (p : ℕ) (b : Option ℕ) (n : ℕ) → CanPut f p b n → is_parent_at f p ≡ true → IsForest (link f p b n) next
  forest-link p b n can parent = record {
    distinct = IsDistinct-link f p b n is.distinct can;
    rising = RisesFrom-put_under (without f n) 0 p b (tree_of f n) (RisesFrom-without f 0 n is.rising);
    below = λ l h. is.below l (omega (arith, h, counts l));
    document = omega (arith, is.document, counts 0);
    root = parent_of-link_root f p b n is.distinct can 0 (λ e. omega (arith, can.inner, e)) is.root;
    nodes = nodes-link f p b n is.distinct can parent is.nodes;
  }
    where
      counts : (l : ℕ) → count_of (link f p b n) l ≡ count_of f l
      counts l = total-link f p b n is.distinct can (λ m _. cond (eqb m l) 1 0)

  -- ---- a tree made loose

  pub forest-unlink : (o n : ℕ) → parent_of f n ≡ Some o → IsForest (unlink f n) next
  forest-unlink o n child = record {
    distinct = IsDistinct-unlink f o n is.distinct child;
    rising = rising;
    below = λ l h. is.below l (omega (arith, h, counts l));
    document = omega (arith, is.document, counts 0);
    root = parent_of-unlink_root f o n is.distinct child 0 is.root;
    nodes = nodes-unlink f o n is.distinct child is.nodes;
  }
    where
      counts : (l : ℕ) → count_of (unlink f n) l ≡ count_of f l
      counts l = total-unlink (λ m _. cond (eqb m l) 1 0) f n

      rising : RisesFrom 0 (unlink f n)
      rising =
          let t = tree_n f o n is.distinct child in
          let none : times (tops (without f n)) n ≡ 0 = omega (arith, times-tops (without f n) n, gone_n f o n is.distinct child) in
          subst (λ g. RisesFrom 0 (put_rising (without f n) n g)) (sym t.2)
          (RisesFrom-put_rising (without f n) 0 n t.0 t.1 (RisesFrom-without f 0 n is.rising) (omega arith) none)

  -- a node with a parent is not the document
  pub inner_child : (o n : ℕ) → parent_of f n ≡ Some o → 0 < n
  inner_child o n child = elim (eqb_tells n 0) [
    | inl (_, e) ↦ absurd (let t : Some o ≡ None = sym child ∙ (ap (parent_of f) e ∙ is.root) in cc)
    | inr (_, off) ↦ omega (arith, off)
  ]

  -- ---- a move

  pub can_go : (o n p : ℕ) (b : Option ℕ) → parent_of f n ≡ Some o → count_of (tree_of f n) p ≡ 0 → is_parent_at f p ≡ true → 0 < count_of f p → IfSome b (λ m. (parent_of f m ≡ Some p) × (m ≢ n)) → CanPut (unlink f n) p b n
  can_go o n p b child apart parent there before = CanPut-unlink f o n p b is.distinct child (inner_child o n child) there (λ h. omega (arith, h, apart)) before

  pub parent_at-unlink : (o n p : ℕ) → parent_of f n ≡ Some o → is_parent_at f p ≡ true → is_parent_at (unlink f n) p ≡ true
  parent_at-unlink o n p child h = ap (λ (c : Option Content). option_map_or may_have_children c false) (content_of-unlink f o n p is.distinct child) ∙ h

  -- ---- other contents

  pub forest-revised : (n : ℕ) (g : Content → Content) → ((c : Content) → content_of f n ≡ Some c → char_length c < 2 ^ 32 → IfSome (attributes_in c) IsDistinctNames → ((g c ≡ Document) ↔ (c ≡ Document)) × (may_have_children (g c) ≡ may_have_children c) × (char_length (g c) < 2 ^ 32) × IfSome (attributes_in (g c)) IsDistinctNames) → IsForest (revised f n g) next
  forest-revised n g keeps = record {
    distinct = λ l. omega (arith, counts l, is.distinct l);
    rising = RisesFrom-revised n g f 0 is.rising;
    below = λ l h. is.below l (omega (arith, h, counts l));
    document = omega (arith, is.document, counts 0);
    root = parent_of-revised n g f 0 ∙ is.root;
    nodes = nodes-revised f n g (λ o e node. (
        let k = keeps o.content (ap (option_map (λ (x : Seen Content). x.content)) e) node.short node.names in
        record {
          document = ((λ h. node.document.0 (k.0.0 h)), λ h. k.0.1 (node.document.1 h));
          leaf = λ h. node.leaf (sym k.1 ∙ h);
          short = k.2;
          names = k.3;
        })) is.nodes;
  }
    where
      counts : (l : ℕ) → count_of (revised f n g) l ≡ count_of f l
      counts l = total-revised n g (λ m. cond (eqb m l) 1 0) f

  -- ---- a new node

  pub fresh : count_of f next ≡ 0
  fresh = by_count (count_of f next) refl
    where
      by_count : (k : ℕ) → count_of f next ≡ k → k ≡ 0
      by_count zero e = refl
      by_count (suc k) e = absurd (let b = is.below next (omega (arith, e)) in omega arith)

  pub forest-with_leaf : (c : Content) → c ≢ Document → char_length c < 2 ^ 32 → IfSome (attributes_in c) IsDistinctNames → IsForest (with_leaf f next c) (next + 1)
  forest-with_leaf c other short names = record {
    distinct = λ l. distinct l;
    rising = RisesFrom-with_leaf f 0 next c is.rising (omega arith) (λ k some. is.below k (omega (arith, some, times-tops f k)));
    below = λ l h. below l h;
    document = omega (arith, is.document, counts 0);
    root = parent_of-with_leaf f next c fresh 0 ∙ is.root;
    nodes = nodes-with_leaf f next c fresh (record {
      document = ((λ h. absurd (other h)), λ h. absurd (let d = is.below 0 is.document in omega (arith, d, h)));
      leaf = λ _. refl;
      short = short;
      names = names;
    }) is.nodes;
  }
    where
      counts : (l : ℕ) → count_of (with_leaf f next c) l ≡ count_of f l + cond (eqb next l) 1 0
      counts l = total-with_leaf f next c fresh (λ m _. cond (eqb m l) 1 0)

      distinct : (l : ℕ) → count_of (with_leaf f next c) l ≤ 1
      distinct l = elim (eqb_tells next l) [
        | inl (t, e) ↦ (let h = counts l in let h' = rw t at h in let none : count_of f l ≡ 0 = subst (λ k. count_of f k ≡ 0) e fresh in omega (arith, h', none))
        | inr (t, _) ↦ (let h = counts l in let h' = rw t at h in omega (arith, h', is.distinct l))
      ]

      below : (l : ℕ) → 0 < count_of (with_leaf f next c) l → l < next + 1
      below l some = elim (eqb_tells next l) [
        | inl (_, e) ↦ omega (arith, e)
        | inr (t, _) ↦ (let h = counts l in let h' = rw t at h in let b = is.below l (omega (arith, h', some)) in omega (arith, b))
      ]

  -- ---- the nodes are few

  pub few_nodes : total (λ _ _. 1) f ≤ next
  few_nodes = total-few f next is.distinct is.below
