use Rattle.command_laws.proofs.ObjectRuns.{steady_insert_image}
use Rattle.command_laws.proofs.objects.insert_image_is_steady.Goals as goal

pub returns : goal.returns
returns c = steady_insert_image
