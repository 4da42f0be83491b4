use Rattle.edit_session.specs.Block.{lines_of, shown_block, NoOpening}
use Rattle.edit_session.proofs.BlockGrammar.{grammar_of, opened-is, unopened-is, within_longer}
use Rattle.edit_session.proofs.block.read_block.Goals as goal

pub returns-in-Some : goal.returns-in-Some
returns-in-Some c =
    let computed = opened-is c.args.input.now c.line_end-end.result c.in-Some.word.now c.after_line.result.now (shown_block c.part_lines.result)
    c.line_end-end.ensures.line c.in-Some.ensures c.after_line.ensures.value c.part_lines.ensures.shown in
    record {
      computed = computed;
      grammar = grammar_of (shown_block c.part_lines.result) (lines_of c.args.input.now) computed;
      within = within_longer c.part_lines.result _ _ c.after_line.ensures.within c.part_lines.ensures.within;
    }

pub returns-in-None : goal.returns-in-None
returns-in-None c =
    let computed = unopened-is c.args.input.now c.line_end-end.result c.line_end-end.ensures.line c.in-None.ensures in
    record { computed = computed; grammar = grammar_of NoOpening (lines_of c.args.input.now) computed; within = tt }
