use Rattle.client_patch.proofs.Padding.{bytes_are_padded}
use Rattle.client_patch.proofs.laws_of_patches.bytes_of_the_map_are_padded.Goals as goal

pub returns : goal.returns
returns c = bytes_are_padded
