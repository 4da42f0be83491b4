use Rattle.script_read.proofs.Lines.{means, one_meaning, act_is, spelled_is, one_act, long_is, unknown_is, syntax_is, outside_is}
use Rattle.script_read.specs.Reading.{line_of}
use Rattle.script_read.proofs.line.read_line.Goals as goal

pub returns-clause-meaning : goal.returns-clause-meaning
returns-clause-meaning c = means c.args.line.now

pub returns-clause-one_meaning : goal.returns-clause-one_meaning
returns-clause-one_meaning c = one_meaning c.args.line.now

pub returns-clause-act : goal.returns-clause-act
returns-clause-act c = let line = c.args.line.now in act_is line c.read.result (line_of line) (means line) c.read.ensures

pub returns-clause-spelled : goal.returns-clause-spelled
returns-clause-spelled c = spelled_is c.args.line.now c.read.result c.read.ensures

pub returns-clause-one_act : goal.returns-clause-one_act
returns-clause-one_act c = one_act c.args.line.now

pub returns-clause-long : goal.returns-clause-long
returns-clause-long c = long_is c.args.line.now c.read.result c.read.ensures

pub returns-clause-unknown : goal.returns-clause-unknown
returns-clause-unknown c = unknown_is c.args.line.now c.read.result c.read.ensures

pub returns-clause-syntax : goal.returns-clause-syntax
returns-clause-syntax c = let line = c.args.line.now in syntax_is line c.read.result (line_of line) (means line) c.read.ensures

pub returns-clause-outside : goal.returns-clause-outside
returns-clause-outside c = outside_is c.args.line.now c.read.result c.read.ensures
