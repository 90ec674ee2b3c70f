use Rattle.std.proofs.Common.{◌-◌, length, drop, ap, ◌∙◌, arith}
use Rattle.std.proofs.lemmas.List.{take_all, length-drop}
use Rattle.byteorder.specs.Endian.{little_number}
use Rattle.share_format.proofs.header.u64_at.Goals as goal

pub returns : goal.returns
returns c =
    let bytes = c.args.bytes.now in
    let at = c.args.at in
    c.read_u64.ensures
    ∙ ap (little_number 8) (take_all (length bytes - at) (drop at bytes) (omega (arith, length-drop at bytes)))
