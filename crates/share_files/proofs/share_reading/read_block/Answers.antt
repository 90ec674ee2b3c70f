use Rattle.std.proofs.Common.{◌≡◌, ◌∙◌, length}
use Rattle.std.proofs.lemmas.Result.{on_ok_weaker}
use Rattle.share_format.specs.Blocks.{block_length}
use Rattle.share_format.specs.Shares.{block_start}
use Rattle.share_files.proofs.WrittenLemmas.{slice_is}
use Rattle.share_files.proofs.share_reading.read_block.Goals as goal

pub returns-clause-shown : goal.returns-clause-shown
returns-clause-shown g c =
    let long : length c.read_exact_at.new.buf ≡ block_length c.args.geometry = c.read_exact_at.auto.buf ∙ c.requires.size in
    λ file shows.
    on_ok_weaker c.read_exact_at.result (λ e.
    e
    ∙ slice_is file c.read_exact_at.new.buf c.block_place-at.result (block_start c.args.geometry c.args.stripe) (block_length c.args.geometry)
    c.block_place-at.ensures long)
    (c.read_exact_at.ensures.shown file shows)
