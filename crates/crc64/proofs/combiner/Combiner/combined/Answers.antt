use Rattle.std.proofs.Common.{◌*◌, sym, subst, ◌∙◌}
use Rattle.crc64.specs.Tables.{HasRegisters}
use Rattle.crc64.proofs.Combined.{combined_as}
use Rattle.crc64.proofs.combiner.Combiner.combined.Goals as goal

pub returns : goal.returns
returns c before behind long one two =
    let bytes = c.self.inside.length in
    combined_as c.args.first c.args.second c.register_after.result bytes before behind
    (c.register_after.ensures (8 * bytes) (subst (HasRegisters (8 * bytes) 2048) (sym c.deref.ensures.value) c.self.invariant))
    (long ∙ sym c.self.view_is) one two
