use Rattle.forest_changes.proofs.Wholes.{applied_whole, fits_whole, named_whole, inverse_whole, fits_wholes, forth_wholes, named_wholes, length_wholes, wholes_join, wholes_pruned}
use Rattle.forest_changes.proofs.wholes_are_changes.Goals as goal

pub returns : goal.returns
returns c = record {
  fits = fits_whole;
  same = applied_whole;
  names = named_whole;
  back = inverse_whole;
  all_fit = fits_wholes;
  all_same = forth_wholes;
  all_names = named_wholes;
  count = length_wholes;
  join = wholes_join;
  pruned = wholes_pruned;
}
