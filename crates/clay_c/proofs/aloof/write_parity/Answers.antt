use Rattle.std.proofs.Common.{◌∙◌}
use Rattle.clay_grid.specs.Shape.{chunk_length}
use Rattle.clay_aloof.specs.Shape.{grid_of}
use Rattle.clay_aloof.specs.Encoded.{chunks_of}
use Rattle.clay_c.proofs.Laying.{parity_laid}
use Rattle.clay_c.proofs.aloof.write_parity.Goals as goal

pub returns-clause-written : goal.returns-clause-written
returns-clause-written c =
    let g = c.args.g in
    let new = c.parity_into.new.parity in
    record {
      chunks = chunks_of g c.args.stripe.now new;
      code = c.in_ok-parity_into.ensures.parity;
      laid = parity_laid g.data_count g.parity_count (chunk_length (grid_of g)) c.args.stripe.now new (c.parity_into.auto.parity ∙ c.requires.parity);
    }
