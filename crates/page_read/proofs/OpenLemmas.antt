-- The stack of open elements.
use Rattle.std.proofs.Common.{◌≡◌, ◌-◌, List, [], ◌∷◌, ◌++◌, length, map, Some, None, slice_get, refl, sym, ap, subst, ◌∙◌, arith}
use native.Mathlib.Numerals.{unary_clauses}
use Rattle.std.proofs.lemmas.List.{reverse-append, map-append}
use Rattle.node_arena.specs.DomModel.ArenaState.{ArenaState, IsValid}
use Rattle.node_arena.specs.DomModel.Forest.{seek, Seen}
use Rattle.node_arena.specs.DomModel.Contents.{IsNode}
use Rattle.node_arena.specs.DomModel.declared.Content.{Content}
use Rattle.node_arena.specs.DomModel.declared.Content.TheVariants.{Document}
use Rattle.node_arena.proofs.DomModel.Links.{seen}
use Rattle.node_arena.specs.declared.NodeRef.{NodeRef}
use Rattle.node_arena.specs.Held.{Holds}
use Rattle.page_read.specs.declared.scanner.Scanner.{Scanner}
use Rattle.page_read.specs.declared.scanner.Open.{Open}
use Rattle.page_read.specs.declared.scanner.Lexical.TheVariants.{Data}
use Rattle.page_read.specs.Construction.{IsOpen}
use Rattle.page_grammar.specs.TreeConstruction.{tail}
use Rattle.page_read.specs.View.{names_of, labels_of, first_or_empty}
use Rattle.page_read.specs.Steady.{Steady, EachOpen, taken}

pub names_push : (xs : List Open) (o : Open) → names_of (xs ++ o ∷ []) ≡ o.name.items ∷ names_of xs
names_push xs o = rw (map-append (λ y. y.name.items) xs (o ∷ []), reverse-append (map (λ y. y.name.items) xs) (o.name.items ∷ [])) refl

pub labels_push : (xs : List Open) (o : Open) → labels_of (xs ++ o ∷ []) ≡ o.node.label ∷ labels_of xs
labels_push xs o = rw (map-append (λ y. y.node.label) xs (o ∷ []), reverse-append (map (λ y. y.node.label) xs) (o.node.label ∷ [])) refl

pub each_push : (s : ArenaState) (xs : List Open) (o : Open) → EachOpen s xs → IsOpen s o.node
    → EachOpen s (xs ++ o ∷ [])
each_push s [] o each up = (up, tt)
each_push s (x ∷ xs) o each up = (each.0, each_push s xs o each.1 up)

pub each_front : (s : ArenaState) (xs ys : List Open) → EachOpen s (xs ++ ys) → EachOpen s xs
each_front s [] ys each = tt
each_front s (x ∷ xs) ys each = (each.0, each_front s xs ys each.1)

pub each_last : (s : ArenaState) (xs : List Open) (o : Open) → EachOpen s (xs ++ o ∷ []) → IsOpen s o.node
each_last s [] o each = each.0
each_last s (x ∷ xs) o each = each_last s xs o each.1

pub each_moves : (s t : ArenaState) (xs : List Open) → ((r : NodeRef) → IsOpen s r → IsOpen t r) → EachOpen s xs
    → EachOpen t xs
each_moves s t [] go each = tt
each_moves s t (x ∷ xs) go each = (go x.node each.0, each_moves s t xs go each.1)

-- behind a text or a comment the scanner is steady
pub leaf_steady : (s : Scanner) (t : ArenaState) → Steady s → taken s.lexical ≡ 0
    → ((r : NodeRef) → IsOpen s.arena r → IsOpen t r) → Steady (record s { arena = t; lexical = Data })
leaf_steady s t steady none opens = record {
  levels = omega (arith, steady.levels, none);
  opens = each_moves s.arena t s.opened.items opens steady.opens;
  texts = steady.texts;
  scalar = steady.scalar;
  at = tt;
}

-- the list ends with what stands at its last place
pub ends_with : (xs : List Open) (o : Open) → slice_get xs (length xs - 1) ≡ Some o
    → (ys : List Open) × (xs ≡ ys ++ o ∷ [])
ends_with [] o e = absurd (let e' = e in cc)
ends_with (x ∷ []) o e = ([], let e' = e in cc)
ends_with (x ∷ y ∷ xs) o e = let h = simp unary_clauses at e in let r = ends_with (y ∷ xs) o (simp unary_clauses h) in (x ∷ r.0, ap (λ k. x ∷ k) r.1)

-- nothing stands at the last place of the empty list alone
pub no_last : (xs : List Open) → slice_get xs (length xs - 1) ≡ None → xs ≡ []
no_last [] e = refl
no_last (x ∷ []) e = let e' = e in cc
no_last (x ∷ y ∷ xs) e = let h = simp unary_clauses at e in let r : y ∷ xs ≡ [] = no_last (y ∷ xs) (simp unary_clauses h) in cc

pub last_open : (s : ArenaState) (xs : List Open) (o : Open) → slice_get xs (length xs - 1) ≡ Some o → EachOpen s xs
    → IsOpen s o.node
last_open s xs o e each = let r = ends_with xs o e in each_last s r.0 o (subst (λ k. EachOpen s k) r.1 each)

-- the document is open
pub document_open : (s : ArenaState) (r : NodeRef) → IsValid s → Holds s r → r.label ≡ 0 → IsOpen s r
document_open s r law held zero_is =
    let at : (o : Seen Content) × (seek None s.trees 0 ≡ Some o) = (let t = seen s.trees 0 law.distinct law.document in (t.0, t.2)) in
    let node : IsNode 0 at.0 = law.nodes 0 at.0 at.1 in
    let is : at.0.content ≡ Document = node.document.1 refl in
    record { held = held; parent = rw (zero_is, at.1) (rw is refl) }

pub top_name : (xs : List Open) (o : Open) → slice_get xs (length xs - 1) ≡ Some o
    → first_or_empty (names_of xs) ≡ o.name.items
top_name xs o e = let r = ends_with xs o e in ap (λ k. first_or_empty (names_of k)) r.1 ∙ ap first_or_empty (names_push r.0 o)

-- the list without its last element
pub names_pop : (xs ys : List Open) (o : Open) → xs ≡ ys ++ o ∷ [] → names_of ys ≡ tail (names_of xs)
names_pop xs ys o e = sym (ap (λ k. tail (names_of k)) e ∙ ap tail (names_push ys o))

pub labels_pop : (xs ys : List Open) (o : Open) → xs ≡ ys ++ o ∷ [] → labels_of ys ≡ tail (labels_of xs)
labels_pop xs ys o e = sym (ap (λ k. tail (labels_of k)) e ∙ ap tail (labels_push ys o))

pub each_pop : (s : ArenaState) (xs ys : List Open) (o : Open) → xs ≡ ys ++ o ∷ [] → EachOpen s xs → EachOpen s ys
each_pop s xs ys o e each = each_front s ys (o ∷ []) (subst (λ k. EachOpen s k) e each)
