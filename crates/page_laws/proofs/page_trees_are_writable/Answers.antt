use Rattle.page_laws.proofs.ReadBack.{page_tree}
use Rattle.page_laws.proofs.page_trees_are_writable.Goals as goal

pub returns : goal.returns
returns c =
    record {
      writable = λ d c s f h. (page_tree d c s f h).writable;
      tidy = λ d c s f h. (page_tree d c s f h).tidy;
      labelled = λ d c s f h. (page_tree d c s f h).labelled;
    }
