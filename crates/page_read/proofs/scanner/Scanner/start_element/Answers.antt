use Rattle.std.proofs.Common.{◌≡◌, ◌∙◌, sym, ap, ℕ, true, false}
use Rattle.std.specs.Prelude.{Vec}
use Rattle.std.specs.Global.{Global}
use Rattle.page_grammar.specs.Names.{is_void}
use Rattle.page_read.proofs.ElementLemmas.{void_goes, void_steady, start_goes, start_steady}
use Rattle.page_read.proofs.scanner.Scanner.start_element.Goals as goal

pub returns-then-is_void-clause-went : goal.returns-then-is_void-clause-went
returns-then-is_void-clause-went c =
    let made = c.in_ok-node.ensures.made in
    let void : is_void c.args.self.now.tag.items ≡ true = sym (ap is_void (c.deref.ensures.value ∙ ap (λ (v : Vec ℕ Global). v.items) made.tag)) ∙ sym c.is_void.ensures ∙ c.if-is_void.true in
    void_goes c.args.self.now c.make_element.new.self c.in_ok-node.node c.requires.steady c.requires.tag made void

pub returns-then-is_void-clause-steady : goal.returns-then-is_void-clause-steady
returns-then-is_void-clause-steady c =
    void_steady c.args.self.now c.make_element.new.self c.in_ok-node.node c.requires.steady c.requires.tag c.in_ok-node.ensures.made

pub returns-clause-went : goal.returns-clause-went
returns-clause-went c =
    let made = c.in_ok-node.ensures.made in
    let void : is_void c.args.self.now.tag.items ≡ false = sym (ap is_void (c.deref.ensures.value ∙ ap (λ (v : Vec ℕ Global). v.items) made.tag)) ∙ sym c.is_void.ensures ∙ c.if-is_void.false in
    start_goes c.args.self.now c.make_element.new.self c.in_ok-node.node c.requires.steady c.requires.tag made c.push.new.self c.in_ok-name.name (c.in_ok-name.ensures.items ∙ c.deref-2.ensures.value ∙ ap (λ (v : Vec ℕ Global). v.items) made.tag) c.in_ok-push.ensures.items void

pub returns-clause-steady : goal.returns-clause-steady
returns-clause-steady c =
    start_steady c.args.self.now c.make_element.new.self c.in_ok-node.node c.requires.steady c.requires.tag c.in_ok-node.ensures.made c.push.new.self c.in_ok-name.name (c.in_ok-name.ensures.items ∙ c.deref-2.ensures.value ∙ ap (λ (v : Vec ℕ Global). v.items) c.in_ok-node.ensures.made.tag) c.in_ok-push.ensures.items
