use Rattle.version_seal.proofs.Subchunks.{are_parts}
use Rattle.version_seal.proofs.laws_of_seals.subchunks_are_parts_of_the_chunk.Goals as goal

pub returns : goal.returns
returns c = are_parts
