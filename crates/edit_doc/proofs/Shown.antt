-- What a document under edits shows is what can be read of its nodes.
use Rattle.std.proofs.Common.{◌≡◌, ℕ, ◌^◌, ◌<◌, ◌≤◌, ◌↔◌, Bool, false, List, [], ◌∷◌, Option, Some, None, IfSome, ◌⊎◌, inl, inr, sym, ap, subst, ◌∙◌, arith, nat_lt}
use Rattle.std.specs.Prelude.{◌&&◌, IsTrue}
use Rattle.std.specs.Option.{option_map_or}
use Rattle.std.proofs.lemmas.Bool.Decides.{eqb_tells}
use Rattle.edit_model.specs.DomModel.declared.Content.{Content}
use Rattle.edit_model.specs.DomModel.Editing.{is_host, is_true_state}
use Rattle.edit_model.specs.DomModel.Forest.{Forest, IsWithin, total, count_of, preorder}
use Rattle.edit_model.specs.DomModel.Forest.Forest.{Nil, Tree}
use Rattle.edit_model.specs.DomModel.Places.{first_among, first_of_two}
use Rattle.edit_model.specs.DomModel.Pruned.{pruned}
use Rattle.edit_model.specs.DomModel.ArenaState.{ArenaState as Arena}
use Rattle.edit_model.proofs.DomModel.Stands.{true_or_false}
use Rattle.edit_model.specs.NodeArena.declared.NodeRef.{NodeRef}
use Rattle.edit_model.specs.NodeArena.Held.{Holds as HoldsNode, NamesHeld as NamesNode, label}
use Rattle.edit_model.specs.NodeArena.Reads.{IsValid, Names}
use Rattle.edit_doc.specs.Whole.{Whole, IsDoc}
use Rattle.edit_doc.specs.Held.{Holds, Finds}
use Rattle.edit_doc.specs.Shows.{Shows}
use Rattle.edit_doc.proofs.SeenNodes.{here_shown, holds_shown, tree_seen, content_seen}
use Rattle.edit_doc.proofs.SeenLookUps.{first_of_two-pruned}

-- what a read finds is what it names
pub names_of : (v : Whole) (o : Option NodeRef) (l : Option ℕ) → Finds v o l → Names (λ r. Holds v r) o l
names_of v None l finds = record { is = finds.is; held = tt }
names_of v (Some r) l finds = record { is = finds.is; held = finds.held }

total_pruned : (w : ℕ → Content → ℕ) (k : ℕ → Bool) (f : Forest Content) → total w (pruned k f) ≤ total w f
total_pruned w k Nil = omega arith
total_pruned w k (Tree m c ks rest) =
    elim (true_or_false (k m)) [
      | inl t ↦ rw t (let le = total_pruned w k rest in omega (arith, le))
      | inr t ↦ rw t (let le = total_pruned w k rest in omega (arith, le))
    ]

-- the first of two labels is one of them
first_among_is : (xs : List ℕ) (a b m : ℕ) → first_among xs a b ≡ Some m → (m ≡ a) ⊎ (m ≡ b)
first_among_is [] a b m e = absurd (cc)
first_among_is (x ∷ xs) a b m e =
    elim (eqb_tells x a) [
      | inl (t, is) ↦ inl (let e' = rw t at e in let s : Some x ≡ Some m = e' in let n : x ≡ m = cc in sym n ∙ is)
      | inr (t, _) ↦ elim (eqb_tells x b) [
        | inl (u, is) ↦ inr (let e' = rw (t, u) at e in let s : Some x ≡ Some m = e' in let n : x ≡ m = cc in sym n ∙ is)
        | inr (u, _) ↦ (let e' = rw (t, u) at e in first_among_is xs a b m e')
      ]
    ]

first_of_two_is : (f : Forest Content) (a b m : ℕ) → first_of_two f a b ≡ Some m → (m ≡ a) ⊎ (m ≡ b)
first_of_two_is Nil a b m e = absurd (cc)
first_of_two_is (Tree l c ks rest) a b m e =
    elim (true_or_false (nat_lt 0 (count_of (Tree l c ks Nil) a) && nat_lt 0 (count_of (Tree l c ks Nil) b))) [
      | inl t ↦ (let e' = rw t at e in first_among_is (preorder (Tree l c ks Nil)) a b m e')
      | inr t ↦ (let e' = rw t at e in first_of_two_is rest a b m e')
    ]

module _ {v : Whole} {a : Arena} (s : Shows v a) where
  pub shown_valid : IsDoc v → IsValid (λ r. Holds v r) v.state.trees v.state.next
  shown_valid doc =
      let forest = doc.valid.forest in
      record {
        distinct = forest.distinct;
        rising = forest.rising;
        below = forest.below;
        few = (let few = subst (λ t. total (λ _ _. 1) t ≤ a.next) (sym s.part.is) (omega (arith, total_pruned (λ _ _. 1) s.part.detached_out a.trees, s.law.few)) in subst (λ n. total (λ _ _. 1) v.state.trees ≤ n) (sym s.next) few);
        small = subst (λ n. n < 2 ^ 32) (sym s.next) (omega (arith, s.law.capped, s.law.small));
        here = λ r h. h.here;
        document = forest.document;
        root = forest.root;
        nodes = forest.nodes;
      }

  pub within_shown : (top : NodeRef) → Holds v top → (b : Bool) (l : ℕ) → IsTrue b ↔ IsWithin a.trees top.label l → IsTrue b ↔ IsWithin v.state.trees top.label l
  within_shown top held b l both = subst (λ t. IsTrue b ↔ (0 < count_of t l)) (sym (tree_seen s top held)) both

  pub host_shown : (node : NodeRef) → Holds v node → is_host v.state.trees node.label ≡ is_host a.trees node.label
  host_shown node held = ap (λ o. option_map_or is_true_state o false) (content_seen s node held)

  pub before_shown : (m n : NodeRef) → Holds v m → Holds v n → (o : Option NodeRef) → NamesNode a o (first_of_two a.trees m.label n.label) → Names (λ r. Holds v r) o (first_of_two v.state.trees m.label n.label)
  before_shown m n hm hn o names = at o (names.is ∙ sym same) names.held
    where
      same : first_of_two v.state.trees m.label n.label ≡ first_of_two a.trees m.label n.label
      same = ap (λ t. first_of_two t m.label n.label) s.part.is ∙ first_of_two-pruned s.part.detached_out a.trees m.label n.label s.law.distinct (here_shown s m.label hm.here)

      at : (p : Option NodeRef) → label p ≡ first_of_two v.state.trees m.label n.label → IfSome p (λ r. HoldsNode a r) → Names (λ r. Holds v r) p (first_of_two v.state.trees m.label n.label)
      at None e h = record { is = e; held = tt }
      at (Some r) e h = record {
        is = e;
        held = holds_shown s r h (elim (first_of_two_is v.state.trees m.label n.label r.label (sym e)) [
          | inl e ↦ subst (λ l. 0 < count_of v.state.trees l) (sym e) hm.here
          | inr e ↦ subst (λ l. 0 < count_of v.state.trees l) (sym e) hn.here
        ]);
      }
