use Rattle.std.proofs.Common.{Option, List, Vec, Global, ℕ, subst, sym, ◌∙◌}
use Rattle.std.proofs.lemmas.List.{with_items_is}
use Rattle.clay_model.specs.Left.{AreLong}
use Rattle.share_format.specs.Blocks.{block_length}
use Rattle.share_files.proofs.AskedLemmas.{asked_nothing}
use Rattle.share_files.proofs.ReadLemmas.{none_long, read_whole}
use Rattle.share_files.proofs.fetching.find_blocks.Goals as goal

pub read_blocks-requires-clause-lengths : goal.read_blocks-requires-clause-lengths
read_blocks-requires-clause-lengths g c =
    let P : List (Option (Vec ℕ Global)) → Type 0 = λ l. AreLong (block_length c.args.geometry) l in
    subst P (sym c.deref_mut.ensures.value) (none_long (block_length c.args.geometry) c.in_ok-blocks.blocks.items c.in_ok-blocks.ensures.none)

pub returns-clause-read : goal.returns-clause-read
returns-clause-read g c =
    read_whole c.args.geometry c.args.stripe _ _ _ _ _ c.read_blocks.new.blocks _
    (with_items_is c.in_ok-blocks.blocks c.read_blocks.new.blocks (c.read_blocks.auto.blocks ∙ c.deref_mut.ensures.len)) c.read_blocks.auto.sources
    c.in_ok-read_blocks.ensures.read

pub returns-in_err-blocks-clause-asked : goal.returns-in_err-blocks-clause-asked
returns-in_err-blocks-clause-asked g c = asked_nothing c.args.geometry c.args.stripe _
