use Rattle.std.proofs.Common.{◌<◌, ℕ, List, length, Err, refl, sym, arith}
use Rattle.std.proofs.lemmas.List.{get_or_read_under}
use Rattle.share_files.specs.declared.share_reading.HeaderRefusal.TheVariants.{Short}
use Rattle.share_run.specs.Heads.{Head}
use Rattle.share_run.proofs.HeadLemmas.{tell_more}
use Rattle.share_run.proofs.share_heads.told_header.Goals as goal

pub loop-share-preserved : goal.loop-share-preserved
loop-share-preserved c =
    let share : ℕ = c.loop-share.share in
    let heads : List Head = c.args.heads.now in
    let less : share < length heads = omega arith in
    tell_more heads share c.loop-share.told c.index-heads-share.result c.next_told-told.result
    (sym (get_or_read_under heads share (length heads) c.index-heads-share.result (Err Short) c.index-heads-share.is less refl))
    c.loop-share.invariant c.next_told-told.ensures
