-- What the end of a start tag does to the scanner.
use Rattle.std.proofs.Common.{◌≡◌, ℕ, suc, ◌+◌, true, false, List, [], ◌∷◌, ◌++◌, length, Some, refl, sym, ap, subst, ◌∙◌, arith, add-one, length-append}
use Rattle.std.specs.Prelude.{Vec}
use Rattle.std.specs.Global.{Global}
use Rattle.std.proofs.Math.Utf8.{scalars}
use Rattle.node_arena.specs.DomModel.declared.attributes.Attribute.{Attribute}
use Rattle.node_arena.specs.DomModel.declared.Content.TheVariants.{Element}
use Rattle.node_arena.specs.declared.NodeRef.{NodeRef}
use Rattle.page_grammar.specs.Machine as machine
use Rattle.page_grammar.specs.Names.{is_void}
use Rattle.page_read.specs.declared.scanner.Scanner.{Scanner}
use Rattle.page_read.specs.declared.scanner.Open.{Open}
use Rattle.page_read.specs.declared.scanner.Lexical.{Lexical}
use Rattle.page_read.specs.declared.scanner.Lexical.TheVariants.{Data, EndTagName, AfterEndTagName}
use Rattle.page_grammar.specs.Nodes.{attributes_of}
use Rattle.page_grammar.specs.TreeConstruction.{TreeConstruction, with_last}
use Rattle.page_read.specs.View.{machine_of, tree_construction_of, Goes, names_of, labels_of, opened_of, read_attributes, EachText, MakesElement}
use Rattle.page_read.specs.Steady.{Steady, EachOpen, taken}
use Rattle.page_read.proofs.OpenLemmas.{names_push, labels_push, each_push, each_moves}

-- in a start tag no element is being closed
pub opened_taken : (l : Lexical) (ws : List (List ℕ)) → taken l ≡ 1 → opened_of l ws ≡ ws
opened_taken (EndTagName n) ws e = cc
opened_taken AfterEndTagName ws e = cc
opened_taken _ ws e = refl

pub attributes_back : (list : List Attribute) → EachText list → attributes_of (read_attributes list) ≡ list
attributes_back [] each = refl
attributes_back (a ∷ list) each = rw (each.0, attributes_back list each.1) refl

-- the machine's parts
abbrev mk : machine.Lexical → List (List ℕ) → ℕ → ℕ → machine.Machine
mk l ws r n = record { lex = l; opened = ws; room = r; next = n; out = [] }

same_parts : (l : machine.Lexical) (ws us : List (List ℕ)) (r q n k : ℕ) → ws ≡ us → r ≡ q → n ≡ k → Some (mk l ws r n) ≡ Some (mk l us q k)
same_parts l ws us r q n k a b c = cc

module _ (old mid : Scanner) (node : NodeRef) (steady : Steady old) (tag : taken old.lexical ≡ 1) (made : MakesElement old mid node) where
  abbrev ws : List (List ℕ)
  ws = names_of old.opened.items

  next_is : suc old.arena.next ≡ mid.arena.next
  next_is = sym (ap (λ (p : TreeConstruction). p.next) made.constructed)

  back : attributes_of (read_attributes old.attributes) ≡ old.attributes
  back = attributes_back old.attributes steady.texts

  opened_is : names_of mid.opened.items ≡ ws
  opened_is = ap (λ (o : Vec Open Global). names_of o.items) made.opened

  opens : EachOpen mid.arena mid.opened.items
  opens = subst (λ (o : Vec Open Global). EachOpen mid.arena o.items) (sym made.opened) (each_moves old.arena mid.arena old.opened.items made.opens steady.opens)

  texts : EachText mid.attributes
  texts = subst EachText (sym made.attributes) tt

  scalar : scalars mid.name.items ≡ true
  scalar = ap (λ (v : Vec ℕ Global). scalars v.items) made.name ∙ steady.scalar

  count : length mid.opened.items ≡ length old.opened.items
  count = ap (λ (o : Vec Open Global). length o.items) made.opened

  grown : tree_construction_of mid ≡ with_last (tree_construction_of old) (Element old.tag.items (attributes_of (read_attributes old.attributes)))
  grown = made.constructed ∙ ap (λ ts. with_last (tree_construction_of old) (Element old.tag.items ts)) (sym back)

  pub void_goes : is_void old.tag.items ≡ true → Goes (Some (machine.started (machine_of old) old.tag.items (read_attributes old.attributes))) old (record mid { lexical = Data; room = mid.room + 1 })
  void_goes void = rw void (
    same_parts machine.Data (opened_of old.lexical ws) (names_of mid.opened.items) (suc old.room) (mid.room + 1) (suc old.arena.next) mid.arena.next (opened_taken old.lexical ws tag ∙ sym opened_is) (sym (add-one mid.room ∙ ap suc made.room)) next_is,
    grown,
  )

  pub void_steady : Steady (record mid { lexical = Data; room = mid.room + 1 })
  void_steady = record {
    levels = omega (arith, steady.levels, tag, made.room, count);
    opens = opens;
    texts = texts;
    scalar = scalar;
    at = tt;
  }

  module _ (v : Vec Open Global) (name : Vec ℕ Global) (named : name.items ≡ old.tag.items) (pushed : v.items ≡ mid.opened.items ++ record { node = node; name = name } ∷ []) where
    names_are : names_of v.items ≡ old.tag.items ∷ ws
    names_are = ap names_of pushed ∙ names_push mid.opened.items (record { node = node; name = name }) ∙ rw (named, opened_is) refl

    labels_are : labels_of v.items ≡ old.arena.next ∷ labels_of old.opened.items
    labels_are = ap labels_of pushed ∙ labels_push mid.opened.items (record { node = node; name = name }) ∙ rw (made.label, ap (λ (o : Vec Open Global). labels_of o.items) made.opened) refl

    pub start_goes : is_void old.tag.items ≡ false → Goes (Some (machine.started (machine_of old) old.tag.items (read_attributes old.attributes))) old (record mid { lexical = Data; opened = v })
    start_goes void = rw void (
      same_parts machine.Data (old.tag.items ∷ opened_of old.lexical ws) (names_of v.items) old.room mid.room (suc old.arena.next) mid.arena.next (ap (λ us. old.tag.items ∷ us) (opened_taken old.lexical ws tag) ∙ sym names_are) (sym made.room) next_is,
      ap (λ (p : TreeConstruction). record p { opened = labels_of v.items }) grown ∙ ap (λ ls. record { trees = (with_last (tree_construction_of old) (Element old.tag.items (attributes_of (read_attributes old.attributes)))).trees; opened = ls; next = suc old.arena.next }) labels_are,
    )

    pub start_steady : Steady (record mid { lexical = Data; opened = v })
    start_steady = record {
      levels = (let e = ap length pushed in omega (arith, steady.levels, tag, made.room, count, e, length-append mid.opened.items (record { node = node; name = name } ∷ [])));
      opens = subst (λ xs. EachOpen mid.arena xs) (sym pushed) (each_push mid.arena mid.opened.items (record { node = node; name = name }) opens made.here);
      texts = texts;
      scalar = scalar;
      at = tt;
    }
