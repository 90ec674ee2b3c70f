use Rattle.std.proofs.Common.{◌≡◌}
use Rattle.share_files.proofs.WrittenLemmas.{header_written}
use Rattle.share_files.proofs.block_writing.write_header.Goals as goal

pub returns-in-Ok-clause-share : goal.returns-in-Ok-clause-share
returns-in-Ok-clause-share g c =
    let shown : c.deref.result.now ≡ c.in_ok-bytes.bytes.items = search in
    header_written c.args.header.now c.in_ok-bytes.bytes.items c.deref.result.now _ _ shown c.in_ok-bytes.ensures c.in-Ok.ensures.laid
