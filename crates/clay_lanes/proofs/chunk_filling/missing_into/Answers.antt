use Rattle.std.proofs.Common.{sym, ◌∙◌}
use Rattle.clay_lanes.proofs.PlaceLemmas.{filled_already}
use Rattle.clay_lanes.proofs.chunk_filling.missing_into.Goals as goal

pub returns-then-count-eq0-clause-filled : goal.returns-then-count-eq0-clause-filled
returns-then-count-eq0-clause-filled c =
    filled_already c.args.g c.args.have.now c.args.chunks.now c.requires.count (sym c.missing_count-count.ensures ∙ c.if-count-eq0.true)
