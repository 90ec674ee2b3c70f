use Rattle.std.proofs.Common.{◌∙◌}
use Rattle.clay_grid.specs.Shape.{chunk_length}
use Rattle.clay_parity.specs.Flat.{chunks_in}
use Rattle.clay_c.proofs.Laying.{laid_in}
use Rattle.clay_c.proofs.recover_calls.write_parity.Goals as goal

pub returns-clause-written : goal.returns-clause-written
returns-clause-written c =
    let g = c.args.g in
    let new = c.parity_into.new.chunks in
    record {
      chunks = chunks_in g.parity_count (chunk_length g) new;
      are = c.in_ok-parity_into.ensures.parity;
      laid = laid_in g.parity_count (chunk_length g) new (c.parity_into.auto.chunks ∙ c.requires.parity);
    }
