use Rattle.std.proofs.Common.{ℕ, [], sym, subst, arith}
use Rattle.page_grammar.specs.Reader as readers
use Rattle.page_grammar.specs.TreeConstruction.{TreeConstruction}
use Rattle.page_read.specs.Reading.{construction_of, IsHeld}
use Rattle.page_read.proofs.ReadLemmas.{HasRead, has_begun, takes_more, takes_no_more, ends_so, ends_not}
use Rattle.page_read.proofs.read_page.Goals as goal

pub loop-at-init : goal.loop-at-init
loop-at-init c =
    let reader = c.in_ok-reader.reader in
    record {
      read = subst (λ (v : readers.Reader). HasRead c.args.cap [] v (construction_of reader)) (sym c.in_ok-reader.ensures.view) (subst (λ (g : TreeConstruction). HasRead c.args.cap [] (readers.begin 200) g) (sym c.in_ok-reader.ensures.initial_tree) (has_begun c.args.cap));
      held = c.in_ok-reader.ensures.held;
    }

pub returns-in-Some-clause-answer : goal.returns-in-Some-clause-answer
returns-in-Some-clause-answer c =
    takes_no_more c.args.cap c.loop-at.at c.args.bytes.now c.loop-at.reader c.read.new.self c.in_ok-kind.field-0 c.in-Some.kind c.in-Some.is c.loop-at.invariant.held.cap (omega arith) (omega arith) c.in_ok-kind.ensures.takes c.loop-at.invariant.read

pub loop-at-preserved : goal.loop-at-preserved
loop-at-preserved c =
    let held = c.loop-at.invariant.held in
    record {
      read = takes_more c.args.cap c.loop-at.at c.args.bytes.now c.loop-at.reader c.read.new.self c.in_ok-kind.field-0 c.in_default.is held.cap (omega arith) c.in_ok-kind.ensures.takes c.loop-at.invariant.read;
      held = subst (λ (k : ℕ). IsHeld c.read.new.self k) held.cap c.in_ok-kind.ensures.held;
    }

pub returns-in-Some-2-clause-answer : goal.returns-in-Some-2-clause-answer
returns-in-Some-2-clause-answer c =
    ends_so c.args.cap c.loop-at.at c.args.bytes.now c.loop-at.reader c.in_ok-arena.field-0 c.in-Some-2.arena c.in-Some-2.is c.loop-at.invariant.held.cap (omega arith) (omega arith) c.in_ok-arena.ensures c.loop-at.invariant.read

pub returns-in-None-clause-answer : goal.returns-in-None-clause-answer
returns-in-None-clause-answer c =
    ends_not c.args.cap c.loop-at.at c.args.bytes.now c.loop-at.reader c.in_ok-arena.field-0 c.in-None.is c.loop-at.invariant.held.cap (omega arith) (omega arith) c.in_ok-arena.ensures c.loop-at.invariant.read
