use Rattle.std.proofs.Common.{ℕ, List, Option, Vec, Global, subst, sym}
use Rattle.clay_model.specs.Left.{AreLong}
use Rattle.share_format.specs.Blocks.{block_length}
use Rattle.share_files.proofs.ReadLemmas.{none_long}
use Rattle.share_files.proofs.Taking.{takes_none}
use Rattle.share_files.proofs.joining.join_all.Goals as goal

pub returns-in_err-combiner-clause-until : goal.returns-in_err-combiner-clause-until
returns-in_err-combiner-clause-until g c = takes_none c.args.header.now _ _ _ c.from_residual.result c.from_residual.ensures.1

pub returns-in_err-blocks-clause-until : goal.returns-in_err-blocks-clause-until
returns-in_err-blocks-clause-until g c = takes_none c.args.header.now _ _ _ c.from_residual-in_err-blocks.result c.from_residual-in_err-blocks.ensures.1

pub join_stripes-requires-clause-lengths : goal.join_stripes-requires-clause-lengths
join_stripes-requires-clause-lengths g c =
    let P : List (Option (Vec ℕ Global)) → Type 0 = λ l. AreLong (block_length c.args.header.now.shape) l in
    subst P (sym c.deref_mut.ensures.value) (none_long (block_length c.args.header.now.shape) c.in_ok-blocks.blocks.items c.in_ok-blocks.ensures.none)
