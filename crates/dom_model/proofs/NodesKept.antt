-- Each node stays one that may be, whatever edit is made.
use Rattle.std.proofs.Common.{◌≡◌, ◌↔◌, ◌^◌, ℕ, ◌<◌, true, false, cond, List, [], length, Option, Some, None, IfSome, refl, sym, ap, subst, ◌∙◌, inl, inr, true≢false, arith, eqb}
use Rattle.std.proofs.lemmas.Bool.Decides.{eqb_tells}
use Rattle.std.specs.Option.{option_map, option_map_or}
use Rattle.dom_model.specs.declared.Content.{Content}
use Rattle.dom_model.specs.declared.attributes.Attribute.{Attribute}
use Rattle.dom_model.specs.declared.Content.TheVariants.{Document, Element, Words, Remark}
use Rattle.dom_model.specs.AttributeList.{IsDistinctNames}
use Rattle.dom_model.specs.Contents.{IsNode, may_have_children, attributes_in, char_length, is_parent_at, with_chars, with_attributes}
use Rattle.dom_model.specs.Forest.{Forest, Seen, count_of, IsDistinct, seek, parent_of, taken_from, tree_of, without, with_leaf, link, unlink, CanPut, relinked, unlinked}
use Rattle.dom_model.specs.Revised.{revised, revised_seen}
use Rattle.dom_model.proofs.Totals.{total-without}
use Rattle.dom_model.proofs.Links.{found_count, seek-link, seek-unlink, seek-with_leaf_new, seek-with_leaf_other}
use Rattle.dom_model.proofs.Drop.{seek-without}
use Rattle.dom_model.proofs.Revising.{seek-revised}

-- each node of a forest is one that may be
abbrev pub AreNodes : Forest Content → Type 0
AreNodes f = (l : ℕ) (s : Seen Content) → seek None f l ≡ Some s → IsNode l s

-- a node with the same content, whose children are as few
same_kids : (l : ℕ) (o s : Seen Content) → IsNode l o → s.content ≡ o.content → (may_have_children o.content ≡ false → s.children ≡ []) → IsNode l s
same_kids l o s node same kids = record {
  document = subst (λ c. (c ≡ Document) ↔ (l ≡ 0)) (sym same) node.document;
  leaf = λ h. kids (ap may_have_children (sym same) ∙ h);
  short = subst (λ c. char_length c < 2 ^ 32) (sym same) node.short;
  names = subst (λ c. IfSome (attributes_in c) IsDistinctNames) (sym same) node.names;
}

pub nodes-link : (f : Forest Content) (p : ℕ) (b : Option ℕ) (n : ℕ) → IsDistinct f → CanPut f p b n → is_parent_at f p ≡ true → AreNodes f → AreNodes (link f p b n)
nodes-link f p b n once can parent nodes l s e = by_seen (seek None f l) refl (sym (seek-link f p b n once can l) ∙ e)
  where
    by_seen : (o : Option (Seen Content)) → seek None f l ≡ o → option_map (relinked p b n l) o ≡ Some s → IsNode l s
    by_seen None t h = absurd (let h' = h in cc)
    by_seen (Some o) t h =
        let is : relinked p b n l o ≡ s = (let h' = h in cc) in
        subst (IsNode l) is (same_kids l o (relinked p b n l o) (nodes l o t) refl (λ none. elim (eqb_tells p l) [
          | inl (u, at) ↦ absurd (
              let found : is_parent_at f l ≡ may_have_children o.content = ap (λ (x : Option (Seen Content)). option_map_or may_have_children (option_map (λ y. y.content) x) false) t in
              let here : is_parent_at f l ≡ true = subst (λ k. is_parent_at f k ≡ true) at parent in
              true≢false (sym here ∙ (found ∙ none)))
          | inr (u, _) ↦ rw u ((nodes l o t).leaf none)
        ]))

pub nodes-unlink : (f : Forest Content) (p n : ℕ) → IsDistinct f → parent_of f n ≡ Some p → AreNodes f → AreNodes (unlink f n)
nodes-unlink f p n once child nodes l s e = by_seen (seek None f l) refl (sym (seek-unlink f p n once child l) ∙ e)
  where
    by_seen : (o : Option (Seen Content)) → seek None f l ≡ o → option_map (unlinked p n l) o ≡ Some s → IsNode l s
    by_seen None t h = absurd (let h' = h in cc)
    by_seen (Some o) t h =
        let is : unlinked p n l o ≡ s = (let h' = h in cc) in
        subst (IsNode l) is (same_kids l o (unlinked p n l o) (nodes l o t) refl (λ none.
        elim (eqb p l) as (λ v. cond v (taken_from o.children n) o.children ≡ []) [
          | true ↦ ap (λ xs. taken_from xs n) ((nodes l o t).leaf none)
          | false ↦ (nodes l o t).leaf none
        ]))

pub nodes-with_leaf : (f : Forest Content) (m : ℕ) (c : Content) → count_of f m ≡ 0 → IsNode m (record { parent = None; content = c; children = [] }) → AreNodes f → AreNodes (with_leaf f m c)
nodes-with_leaf f m c fresh new nodes l s e = elim (eqb_tells m l) [
  | inl (_, is) ↦ (
      let at : seek None (with_leaf f m c) l ≡ Some (record { parent = None; content = c; children = [] }) = subst (λ k. seek None (with_leaf f m c) k ≡ Some (record { parent = None; content = c; children = [] })) is (seek-with_leaf_new f m c fresh) in
      let same : record { parent = None; content = c; children = [] } ≡ s = (let t = sym at ∙ e in cc) in
      subst (IsNode l) same (subst (λ k. IsNode k (record { parent = None; content = c; children = [] })) is new))
  | inr (_, off) ↦ nodes l s (sym (seek-with_leaf_other f m c fresh None f l off) ∙ e)
]

pub nodes-without : (f : Forest Content) (n : ℕ) → IsDistinct f → 0 < count_of f n → parent_of f n ≡ None → AreNodes f → AreNodes (without f n)
nodes-without f n once here root nodes l s e = nodes l s (sym (seek-without f n once here root l out) ∙ e)
  where
    out : count_of (tree_of f n) l ≡ 0
    out = (let h = found_count (without f n) l s e in omega (arith, h, total-without (λ m _. cond (eqb m l) 1 0) f n, once l))

-- a change of content that keeps each node one that may be
pub nodes-revised : (f : Forest Content) (n : ℕ) (g : Content → Content) → ((o : Seen Content) → seek None f n ≡ Some o → IsNode n o → IsNode n (record { parent = o.parent; content = g o.content; children = o.children })) → AreNodes f → AreNodes (revised f n g)
nodes-revised f n g keeps nodes l s e = by_seen (seek None f l) refl (sym (seek-revised n g None f l) ∙ e)
  where
    by_seen : (o : Option (Seen Content)) → seek None f l ≡ o → option_map (revised_seen n g l) o ≡ Some s → IsNode l s
    by_seen None t h = absurd (let h' = h in cc)
    by_seen (Some o) t h =
        let is : revised_seen n g l o ≡ s = (let h' = h in cc) in
        subst (IsNode l) is (elim (eqb_tells n l) [
          | inl (u, at) ↦ rw u (subst (λ k. IsNode k (record { parent = o.parent; content = g o.content; children = o.children })) at (keeps o (ap (seek None f) at ∙ t) (subst (λ k. IsNode k o) (sym at) (nodes l o t))))
          | inr (u, _) ↦ rw u (nodes l o t)
        ])

-- ---- characters and attributes

pub chars_node : (l : ℕ) (chars : List ℕ) (o : Seen Content) → length chars < 2 ^ 32 → IsNode l o → IsNode l (record { parent = o.parent; content = with_chars chars o.content; children = o.children })
chars_node l chars o short node = by_content o.content refl
  where
    by_content : (c : Content) → o.content ≡ c → IsNode l (record { parent = o.parent; content = with_chars chars c; children = o.children })
    by_content Document e = record { document = subst (λ c. (c ≡ Document) ↔ (l ≡ 0)) e node.document; leaf = λ h. node.leaf (ap may_have_children e ∙ h); short = omega arith; names = tt }
    by_content (Element name attributes) e = record { document = subst (λ c. (c ≡ Document) ↔ (l ≡ 0)) e node.document; leaf = λ h. node.leaf (ap may_have_children e ∙ h); short = omega arith; names = subst (λ c. IfSome (attributes_in c) IsDistinctNames) e node.names }
    by_content (Words w) e = record { document = (λ h. absurd (let h' = h in cc), λ h. absurd (let k : Words w ≡ Document = sym e ∙ node.document.1 h in cc)); leaf = λ h. node.leaf (ap may_have_children e ∙ h); short = short; names = tt }
    by_content (Remark w) e = record { document = (λ h. absurd (let h' = h in cc), λ h. absurd (let k : Remark w ≡ Document = sym e ∙ node.document.1 h in cc)); leaf = λ h. node.leaf (ap may_have_children e ∙ h); short = short; names = tt }

pub attributes_node : (l : ℕ) (list : List Attribute) (o : Seen Content) → IsDistinctNames list → IsNode l o → IsNode l (record { parent = o.parent; content = with_attributes list o.content; children = o.children })
attributes_node l list o distinct node = by_content o.content refl
  where
    by_content : (c : Content) → o.content ≡ c → IsNode l (record { parent = o.parent; content = with_attributes list c; children = o.children })
    by_content Document e = record { document = subst (λ c. (c ≡ Document) ↔ (l ≡ 0)) e node.document; leaf = λ h. node.leaf (ap may_have_children e ∙ h); short = omega arith; names = tt }
    by_content (Element name attributes) e = record { document = (λ h. absurd (let h' = h in cc), λ h. absurd (let k : Element name attributes ≡ Document = sym e ∙ node.document.1 h in cc)); leaf = λ h. node.leaf (ap may_have_children e ∙ h); short = omega arith; names = distinct }
    by_content (Words w) e = record { document = subst (λ c. (c ≡ Document) ↔ (l ≡ 0)) e node.document; leaf = λ h. node.leaf (ap may_have_children e ∙ h); short = subst (λ c. char_length c < 2 ^ 32) e node.short; names = tt }
    by_content (Remark w) e = record { document = subst (λ c. (c ≡ Document) ↔ (l ≡ 0)) e node.document; leaf = λ h. node.leaf (ap may_have_children e ∙ h); short = subst (λ c. char_length c < 2 ^ 32) e node.short; names = tt }
