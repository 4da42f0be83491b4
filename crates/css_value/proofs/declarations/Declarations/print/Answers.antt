use Rattle.css_value.specs.DeclarationMap.{declarations_of}
use Rattle.css_value.proofs.Printing.{print-back}
use Rattle.css_value.proofs.declarations.Declarations.print.Goals as goal

pub returns-clause-read_back : goal.returns-clause-read_back
returns-clause-read_back c =
    print-back c.printed_list.result (declarations_of c.self.inside.list.items) c.args.self.now c.printed_list.ensures c.self.invariant.1 c.self.invariant.0 c.self.view_is
