use Rattle.std.proofs.Common.{◌*◌, take, ap, ◌∙◌}
use Rattle.std.specs.List.{flat_map}
use Rattle.clay_grid.specs.Shape.{chunk_length}
use Rattle.clay_aloof.specs.Shape.{grid_of}
use Rattle.share_format.specs.Joined.{chunk_or_zeros}
use Rattle.share_format.proofs.Joining.{data_joined}
use Rattle.share_format.proofs.join_block.joined_data.Goals as goal

pub returns-clause-len : goal.returns-clause-len
returns-clause-len c = c.in_ok-chunks.ensures.len ∙ ap (λ n. n * chunk_length (grid_of c.args.g)) c.k.ensures.value

pub returns-clause-joined : goal.returns-clause-joined
returns-clause-joined c =
    let g = c.args.g in
    let blocks = c.args.blocks.now in
    data_joined g blocks c.requires.lengths c.requires.count c.in_ok-chunks.chunks.items
    (c.in_ok-chunks.ensures.value ∙ ap (λ n. flat_map (chunk_or_zeros g) (take n blocks)) c.k.ensures.value) c.requires.there
