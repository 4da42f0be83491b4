use Rattle.step_text.specs.declared.line.StepLine.TheVariants.{Remove, Words, Tag}
use Rattle.step_text.proofs.Levels.{made_low, removed_low, tag_low, words_low}
use Rattle.step_text.proofs.Taken.{entry_taken}
use Rattle.step_text.proofs.apply.apply_within.Goals as goal

pub returns-in-Entry-clause-applies : goal.returns-in-Entry-clause-applies
returns-in-Entry-clause-applies c = rw c.in-Entry.is (entry_taken {A = Unit {0}} c.args.arena.now tt)

pub returns-in-Make-clause-bound : goal.returns-in-Make-clause-bound
returns-in-Make-clause-bound c =
    made_low c.args.arena.now c.valid.ensures c.make.new.arena c.make.result c.args.room.now.levels c.in-Make.label c.in-Make.made c.make.ensures c.requires.bound

pub returns-in-Remove-clause-bound : goal.returns-in-Remove-clause-bound
returns-in-Remove-clause-bound c =
    let x = Remove c.in-Remove.label in
    removed_low c.args.arena.now c.valid.ensures c.take-in-Remove.new.arena c.take-in-Remove.result c.args.room.now.levels c.in-Remove.label (c.take-in-Remove.ensures.applies x c.removal.ensures) c.requires.bound

pub returns-in-Words-clause-bound : goal.returns-in-Words-clause-bound
returns-in-Words-clause-bound c =
    let x = Words c.in-Words.label c.in-Words.words in
    words_low c.args.arena.now c.valid.ensures c.take-in-Words.new.arena c.take-in-Words.result c.args.room.now.levels c.in-Words.label c.in-Words.words (c.take-in-Words.ensures.applies x c.rewriting.ensures) c.requires.bound

pub returns-in-Tag-clause-bound : goal.returns-in-Tag-clause-bound
returns-in-Tag-clause-bound c =
    let x = Tag c.in-Tag.label c.in-Tag.name c.in-Tag.attributes in
    tag_low c.args.arena.now c.valid.ensures c.take-in-Tag.new.arena c.take-in-Tag.result c.args.room.now.levels c.in-Tag.label c.in-Tag.name c.in-Tag.attributes (c.take-in-Tag.ensures.applies x c.redressing.ensures) c.requires.bound
