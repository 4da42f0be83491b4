use Rattle.page_laws.proofs.Tidying.{tidied_html, numbered_html, tidied_tidy, tidy_same, numbered_same}
use Rattle.page_laws.proofs.tidied_trees_print_the_same.Goals as goal

pub returns : goal.returns
returns c =
    record {
      joined = tidied_html;
      relabelled = numbered_html;
      tidy = tidied_tidy;
      tidy_stays = tidy_same;
      numbered_stays = numbered_same;
    }
