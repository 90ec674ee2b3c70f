use Rattle.std.proofs.Common.{◌*◌, ◌/◌, length}
use Rattle.crc64.proofs.Lookups.{whole_after}
use Rattle.crc64.proofs.Crc64.after_short.Goals as goal

pub returns : goal.returns
returns c =
    let bytes = c.args.bytes.now in
    whole_after c.args.start c.after_blocks-register.result c.after_each.result (length bytes / 16 * 16) bytes
    c.after_blocks-register.ensures c.after_each.ensures
