-- What holds of each node of a forest, as trees are moved, made and revised.
use Rattle.std.proofs.Common.{ℕ, Bool, true, false, cond, eqb, nat_lt, List, [], ◌∷◌, Option, Some, None, IfSome}
use Rattle.std.specs.Option.{option_map, option_or}
use Rattle.edit_model.specs.DomModel.Forest.{Forest, Seen, seek, either, tops, is_label, join, tree_of, without, put_before, put_under, put_rising, link, unlink, with_leaf, content_of}
use Rattle.edit_model.specs.DomModel.Forest.Forest.{Nil, Tree}
use Rattle.edit_model.specs.DomModel.Revised.{revised}
use Rattle.edit_model.specs.DomModel.declared.Content.{Content}
use Rattle.inline_value.specs.ForestChanges.Named.{Each}
use Rattle.inline_value.specs.NodeStyles.Lineage.{Ancestor, lineage_from, lineage}
use Rattle.grammar_laws.specs.Proper.{AllNodes}
use Rattle.grammar_laws.proofs.Texts.{some_or, some_or_else}

module _ {C : Type 0} (P : C → Type 0) where
  nodes_if : (b : Bool) (f g : Forest C) → AllNodes P f → AllNodes P g → AllNodes P (cond b f g)
  nodes_if true f g h k = h
  nodes_if false f g h k = k

  pub nodes_join : (f g : Forest C) → AllNodes P f → AllNodes P g → AllNodes P (join f g)
  nodes_join Nil g h k = k
  nodes_join (Tree l c ks rest) g h k = (h.0, h.1, nodes_join rest g h.2 k)

  pub nodes_tree : (f : Forest C) (n : ℕ) → AllNodes P f → AllNodes P (tree_of f n)
  nodes_tree Nil n h = tt
  nodes_tree (Tree m c ks rest) n h =
      nodes_if (eqb m n) (Tree m c ks Nil) (join (tree_of ks n) (tree_of rest n)) (h.0, h.1, tt) (nodes_join (tree_of ks n) (tree_of rest n) (nodes_tree ks n h.1) (nodes_tree rest n h.2))

  nodes_without : (f : Forest C) (n : ℕ) → AllNodes P f → AllNodes P (without f n)
  nodes_without Nil n h = tt
  nodes_without (Tree m c ks rest) n h = nodes_if (eqb m n) rest (Tree m c (without ks n) (without rest n)) h.2 (h.0, nodes_without ks n h.1, nodes_without rest n h.2)

  nodes_before : (f : Forest C) (b : Option ℕ) (t : Forest C) → AllNodes P f → AllNodes P t → AllNodes P (put_before f b t)
  nodes_before Nil b t h k = k
  nodes_before (Tree m c ks rest) b t h k =
      nodes_if (is_label b m) (join t (Tree m c ks rest)) (Tree m c ks (put_before rest b t)) (nodes_join t (Tree m c ks rest) k h) (h.0, h.1, nodes_before rest b t h.2 k)

  nodes_under : (f : Forest C) (p : ℕ) (b : Option ℕ) (t : Forest C) → AllNodes P f → AllNodes P t → AllNodes P (put_under f p b t)
  nodes_under Nil p b t h k = tt
  nodes_under (Tree m c ks rest) p b t h k =
      nodes_if (eqb m p) (Tree m c (put_before ks b t) rest) (Tree m c (put_under ks p b t) (put_under rest p b t)) (h.0, nodes_before ks b t h.1 k, h.2)
      (h.0, nodes_under ks p b t h.1 k, nodes_under rest p b t h.2 k)

  nodes_rising : (f : Forest C) (l : ℕ) (t : Forest C) → AllNodes P f → AllNodes P t → AllNodes P (put_rising f l t)
  nodes_rising Nil l t h k = k
  nodes_rising (Tree m c ks rest) l t h k =
      nodes_if (nat_lt l m) (join t (Tree m c ks rest)) (Tree m c ks (put_rising rest l t)) (nodes_join t (Tree m c ks rest) k h) (h.0, h.1, nodes_rising rest l t h.2 k)

  pub nodes_linked : (f : Forest C) (p : ℕ) (b : Option ℕ) (n : ℕ) → AllNodes P f → AllNodes P (link f p b n)
  nodes_linked f p b n h = nodes_under (without f n) p b (tree_of f n) (nodes_without f n h) (nodes_tree f n h)

  pub nodes_unlinked : (f : Forest C) (n : ℕ) → AllNodes P f → AllNodes P (unlink f n)
  nodes_unlinked f n h = nodes_rising (without f n) n (tree_of f n) (nodes_without f n h) (nodes_tree f n h)

  pub nodes_leaf : (f : Forest C) (l : ℕ) (c : C) → P c → AllNodes P f → AllNodes P (with_leaf f l c)
  nodes_leaf f l c own h = nodes_join f (Tree l c Nil Nil) h (own, tt, tt)

  pub nodes_revised : (f : Forest C) (l : ℕ) (g : C → C) → ((c : C) → P c → P (g c)) → AllNodes P f → AllNodes P (revised f l g)
  nodes_revised Nil l g go h = tt
  nodes_revised (Tree m c ks rest) l g go h = (by_test (eqb l m), nodes_revised ks l g go h.1, nodes_revised rest l g go h.2)
    where
      by_test : (b : Bool) → P (cond b (g c) c)
      by_test true = go c h.0
      by_test false = h.0

  -- ---- a node that is looked up

  seen_node : (f : Forest C) (q : Option ℕ) (l : ℕ) → AllNodes P f → IfSome (seek q f l) (λ (s : Seen C). P s.content)
  seen_node Nil q l h = tt
  seen_node (Tree m c ks rest) q l h = by_test (eqb m l) (seek (Some m) ks l) (seek q rest l) (seen_node ks (Some m) l h.1) (seen_node rest q l h.2)
    where
      by_either : (o p : Option (Seen C)) → IfSome o (λ (s : Seen C). P s.content) → IfSome p (λ (s : Seen C). P s.content) → IfSome (either o p) (λ (s : Seen C). P s.content)
      by_either None p h g = g
      by_either (Some s) p h g = h

      by_test : (b : Bool) (o p : Option (Seen C)) → IfSome o (λ (s : Seen C). P s.content) → IfSome p (λ (s : Seen C). P s.content) → IfSome (cond b (Some (record { parent = q; content = c; children = tops ks })) (either o p)) (λ (s : Seen C). P s.content)
      by_test true o p k g = h.0
      by_test false o p k g = by_either o p k g

  pub node_at : (f : Forest C) (l : ℕ) → AllNodes P f → IfSome (content_of f l) P
  node_at f l h = by_seen (seek None f l) (seen_node f None l h)
    where
      by_seen : (o : Option (Seen C)) → IfSome o (λ (s : Seen C). P s.content) → IfSome (option_map (λ (s : Seen C). s.content) o) P
      by_seen None g = tt
      by_seen (Some s) g = g

-- ---- a property that another has in it

pub nodes_also : {C : Type 0} (P Q : C → Type 0) → ((c : C) → P c → Q c) → (f : Forest C) → AllNodes P f → AllNodes Q f
nodes_also P Q go Nil h = tt
nodes_also P Q go (Tree l c ks rest) h = (go c h.0, nodes_also P Q go ks h.1, nodes_also P Q go rest h.2)

-- ---- the ancestors of a node

module _ (P : Content → Type 0) where
  abbrev pub IsSuch : Ancestor → Type 0
  IsSuch k = P k.content

  line_from : (above : List Ancestor) (f : Forest Content) (l : ℕ) → Each IsSuch above → AllNodes P f → IfSome (lineage_from above f l) (Each IsSuch)
  line_from above Nil l h k = tt
  line_from above (Tree m c ks rest) l h k =
      by_test (eqb m l)
      (some_or (Each IsSuch) (lineage_from (record { label = m; content = c } ∷ above) ks l) (lineage_from above rest l)
      (line_from (record { label = m; content = c } ∷ above) ks l (k.0, h) k.1) (line_from above rest l h k.2))
    where
      by_test : (b : Bool) → IfSome (option_or (lineage_from (record { label = m; content = c } ∷ above) ks l) (lineage_from above rest l)) (Each IsSuch)
          → IfSome (cond b (Some (record { label = m; content = c } ∷ above)) (option_or (lineage_from (record { label = m; content = c } ∷ above) ks l) (lineage_from above rest l))) (Each IsSuch)
      by_test true more = (k.0, h)
      by_test false more = more

  pub line_nodes : (f : Forest Content) (l : ℕ) → AllNodes P f → Each IsSuch (lineage f l)
  unfolding lineage
  line_nodes f l h = some_or_else (Each IsSuch) (lineage_from [] f l) [] (line_from [] f l tt h) tt
