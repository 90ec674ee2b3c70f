use Rattle.clay_aloof.proofs.Shown.{shown_parts, is_rebuilt}
use Rattle.clay_aloof.proofs.lost_chunk.rebuild_apart.Goals as goal

pub rebuild_into-requires-clause-parts : goal.rebuild_into-requires-clause-parts
rebuild_into-requires-clause-parts c = shown_parts c.args.g c.args.lost c.args.parts.now c.requires.parts

pub returns-clause-rebuilt : goal.returns-clause-rebuilt
returns-clause-rebuilt c = is_rebuilt c.args.g c.args.lost c.args.parts.now c.rebuild_into.new.chunk c.in_ok-rebuild_into.ensures.rebuilt
