-- The nodes of a page that is read are those of an arena.
use Rattle.std.proofs.Common.{◌≡◌, ◌⊎◌, ℕ, zero, suc, pred, ◌+◌, ◌<◌, ◌≤◌, ◌^◌, true, false, List, [], length, Option, Some, None, refl, sym, ap, subst, inl, inr, arith, lit<}
use Rattle.std.proofs.lemmas.Bool.Decides.{eqb_tells}
use Rattle.std.proofs.lemmas.Str.{length-le-encodes}
use Rattle.edit_model.specs.DomModel.declared.Content.{Content}
use Rattle.edit_model.specs.DomModel.declared.Content.TheVariants.{Document, Element, Words, Remark}
use Rattle.edit_model.specs.DomModel.ArenaState.{ArenaState as Arena}
use Rattle.edit_model.specs.DomModel.Contents.{IsNode, char_length}
use Rattle.edit_model.specs.DomModel.Forest.{Forest, Seen, tops, count_of}
use Rattle.edit_model.specs.DomModel.Forest.Forest.{Nil, Tree}
use Rattle.edit_model.proofs.DomModel.Links.{found_stands}
use Rattle.edit_model.proofs.DomModel.Stands.{Stands}
use Rattle.step_text.specs.PageGrammar.Kind.{page_limit}
use Rattle.step_text.specs.PageGrammar.Nodes.{nodes_of, document_of}
use Rattle.step_text.specs.PageGrammar.Page.{Siblings, size}
use Rattle.step_text.specs.PageGrammar.Page as page
use Rattle.step_text.specs.PageGrammar.Reading.{Children, page_reading}
use Rattle.page_laws.specs.Tidy.{IsNumbered, label_after}
use Rattle.page_laws.specs.Writable.{IsWritable, IsWritableNode}
use Rattle.page_laws.proofs.ReadBack.{page_tree}
use Rattle.edit_session.specs.Transcript.{depth_limit}
use Rattle.edit_session.proofs.Grammars.{rests}
use Rattle.grammar_laws.specs.Proper.{AllNodes}
use Rattle.replay_laws.proofs.Calls.{IsPage}
use Rattle.replay_laws.proofs.PageLengths.{IsNoLonger, content_fits}

-- ---- labels

after_nodes : (n : ℕ) (f : Siblings) → label_after n (nodes_of f) ≡ n + size f
after_nodes n page.Nil = omega arith
after_nodes n (page.TextNode l t f) = omega (arith, after_nodes (suc n) f)
after_nodes n (page.CommentNode l t f) = omega (arith, after_nodes (suc n) f)
after_nodes n (page.ElementNode l w ts k f) = (let inner = after_nodes (suc n) k in let outer = after_nodes (label_after (suc n) (nodes_of k)) f in omega (arith, inner, outer))

none_of : (k : ℕ) → (0 < k → ⊥) → k ≡ 0
none_of zero h = refl
none_of (suc k) h = absurd (h (omega arith))

either_of : (k r : ℕ) → 0 < k + r → (0 < k) ⊎ (0 < r)
either_of zero r h = inr (omega (arith, h))
either_of (suc k) r h = inl (omega arith)

at_most_one : (k r : ℕ) → k ≤ 1 → r ≤ 1 → (0 < k → 0 < r → ⊥) → k + r ≤ 1
at_most_one zero r first last apart = omega (arith, last)
at_most_one (suc k) r first last apart = (let none = none_of r (λ some. apart (omega arith) some) in omega (arith, first, none))

-- each label stands once, from n on and below the last
record Spreads (n : ℕ) (f : Forest Content) : Type 0 where
  up : n ≤ label_after n f
  once : (l : ℕ) → count_of f l ≤ 1
  low : (l : ℕ) → 0 < count_of f l → n ≤ l
  high : (l : ℕ) → 0 < count_of f l → l < label_after n f

spreads : (c n : ℕ) (f : Forest Content) → IsNumbered c n f → Spreads n f
spreads c n Nil h = record { up = omega arith; once = λ l. omega arith; low = λ l here. absurd (omega (arith, here)); high = λ l here. absurd (omega (arith, here)) }
spreads c n (Tree m x ks rest) h =
    let e = h.0 in
    let a = label_after (suc n) ks in
    let k = spreads c (suc n) ks h.2 in
    let r = spreads c a rest h.3 in
    let ku = k.up in
    let ru = r.up in
    record {
      up = omega (arith, ku, ru);
      once = λ l. elim (eqb_tells m l) [
        | inl (t, same) ↦ (
            let first = none_of (count_of ks l) (λ some. (let low = k.low l some in omega (arith, low, e, same))) in
            let last = none_of (count_of rest l) (λ some. (let low = r.low l some in omega (arith, low, ku, e, same))) in
            rw t (omega (arith, first, last)))
        | inr (t, _) ↦ (
            let both = at_most_one (count_of ks l) (count_of rest l) (k.once l) (r.once l) (λ there here. (let low = r.low l here in let high = k.high l there in omega (arith, low, high))) in
            rw t (omega (arith, both)))
      ];
      low = λ l here. elim (eqb_tells m l) [
        | inl (t, same) ↦ omega (arith, e, same)
        | inr (t, _) ↦ (let there = rw t at here in elim (either_of (count_of ks l) (count_of rest l) (omega (arith, there))) [
          | inl some ↦ (let low = k.low l some in omega (arith, low))
          | inr some ↦ (let low = r.low l some in omega (arith, low, ku))
        ])
      ];
      high = λ l here. elim (eqb_tells m l) [
        | inl (t, same) ↦ omega (arith, e, same, ku, ru)
        | inr (t, _) ↦ (let there = rw t at here in elim (either_of (count_of ks l) (count_of rest l) (omega (arith, there))) [
          | inl some ↦ (let high = k.high l some in omega (arith, high, ru))
          | inr some ↦ r.high l some
        ])
      ];
    }

labels_within : (c n : ℕ) (f : Forest Content) → n ≤ c → IsNumbered c n f → label_after n f ≤ c
labels_within c n Nil le h = le
labels_within c n (Tree m x ks rest) le h = (let low = h.1 in labels_within c (label_after (suc n) ks) rest (labels_within c (suc n) ks (omega (arith, low)) h.2) h.3)

-- ---- nodes

node_is : (l : ℕ) (q : Option ℕ) (c : Content) (ks : Forest Content) → 0 < l → char_length c < 2 ^ 32 → IsWritableNode c ks → IsNode l (record { parent = q; content = c; children = tops ks })
node_is l q Document ks some short h = absurd h
node_is l q (Element name list) ks some short h = record {
  document = (λ e. absurd (let t : Element name list ≡ Document = e in cc), λ z. absurd (omega (arith, z, some)));
  leaf = λ e. absurd (let t : true ≡ false = e in cc);
  short = short;
  names = h.distinct;
}
node_is l q (Words text) ks some short h = record {
  document = (λ e. absurd (let t : Words text ≡ Document = e in cc), λ z. absurd (omega (arith, z, some)));
  leaf = λ _. ap tops h.1;
  short = short;
  names = tt;
}
node_is l q (Remark text) ks some short h = record {
  document = (λ e. absurd (let t : Remark text ≡ Document = e in cc), λ z. absurd (omega (arith, z, some)));
  leaf = λ _. ap tops h.2;
  short = short;
  names = tt;
}

nodes_are : (c n d bound : ℕ) (f : Forest Content) → bound < 2 ^ 32 → 0 < n → IsNumbered c n f → IsWritable d f → AllNodes (IsNoLonger bound) f → (q : Option ℕ) (l : ℕ) (s : Seen Content) → Stands q f l s → IsNode l s
nodes_are c n d bound Nil low some h w short q l s st = absurd st
nodes_are c n d bound (Tree m x ks rest) low some h w short q l s (inl (same, is)) =
    subst (λ (t : Seen Content). IsNode l t) (sym is)
    (subst (λ (j : ℕ). IsNode j (record { parent = q; content = x; children = tops ks })) same (node_is m q x ks (let e = h.0 in omega (arith, e, some)) (let own = short.0 in omega (arith, own, low)) w.1))
nodes_are c n d bound (Tree m x ks rest) low some h w short q l s (inr (inl st)) = nodes_are c (suc n) (pred d) bound ks low (omega arith) h.2 w.2 short.1 (Some m) l s st
nodes_are c n d bound (Tree m x ks rest) low some h w short q l s (inr (inr st)) =
    (let up = (spreads c (suc n) ks h.2).up in nodes_are c (label_after (suc n) ks) d bound rest low (omega (arith, up)) h.3 w.3 short.2 q l s st)

document_is : (ks : Forest Content) → IsNode 0 (record { parent = None; content = Document; children = tops ks })
document_is ks = record { document = (λ _. refl, λ _. refl); leaf = λ e. absurd (let t : true ≡ false = e in cc); short = lit< tt; names = tt }

-- ---- the page

abbrev pub page_arena : ℕ → Siblings → Arena
page_arena cap children = record { trees = document_of children; next = suc (size children); cap = cap; held = [] }

limit_small : page_limit < 2 ^ 32
limit_small = lit< tt

pub page_is : (cap : ℕ) (bytes : List ℕ) (children : Siblings) → 0 < cap → page_reading depth_limit cap bytes ≡ Children children → IsPage (page_arena cap children)
page_is cap bytes children some reading =
    let read = (rests.pages cap bytes (Children children)).0 reading in
    let cs = read.0.0 in
    let tree = page_tree depth_limit cap bytes children read.0 in
    let ks = nodes_of children in
    let fits = content_fits depth_limit cap 1 children cs [] read.0.3 in
    let count = spreads cap 1 ks tree.labelled in
    let after = after_nodes 1 children in
    let within : length cs ≤ page_limit = (let le = length-le-encodes cs in let same = ap length read.0.2 in let limit = read.1 in omega (arith, le, same, limit)) in
    let small = limit_small in
    let distinct : (l : ℕ) → count_of (document_of children) l ≤ 1 =
    λ l. (let one = count.once l in let low = count.low l in elim (eqb_tells 0 l) [
      | inl (t, same) ↦ (let none = none_of (count_of ks l) (λ some. (let from = low some in omega (arith, from, same))) in rw t (omega (arith, none)))
      | inr (t, _) ↦ rw t (omega (arith, one))
    ]) in
    let node_at : (l : ℕ) (s : Seen Content) → Stands None (document_of children) l s → IsNode l s =
    λ l s st. elim st [
      | inl (same, is) ↦ subst (λ (t : Seen Content). IsNode l t) (sym is) (subst (λ (j : ℕ). IsNode j (record { parent = None; content = Document; children = tops ks })) same (document_is ks))
      | inr (inl below) ↦ nodes_are cap 1 depth_limit (length cs) ks (omega (arith, within, small)) (omega arith) tree.labelled tree.writable fits.short (Some 0) l s below
      | inr (inr beside) ↦ absurd beside
    ] in
    record {
      forest = record {
        distinct = distinct;
        rising = (omega arith, tt);
        below = λ l here. elim (eqb_tells 0 l) [
          | inl (t, same) ↦ omega (arith, same)
          | inr (t, _) ↦ (let there = rw t at here in let high = count.high l (omega (arith, there)) in omega (arith, high, after))
        ];
        document = omega arith;
        root = refl;
        nodes = λ l s found. node_at l s (found_stands (document_of children) l s distinct found);
      };
      capped = (let last = labels_within cap 1 ks (omega (arith, some)) tree.labelled in omega (arith, last, after));
    }
