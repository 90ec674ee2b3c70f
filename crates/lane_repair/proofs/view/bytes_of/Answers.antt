use Rattle.std.proofs.Common.{Some, sym, ap, ◌∙◌}
use Rattle.lane_repair.proofs.ViewLemmas.{items}
use Rattle.lane_repair.proofs.view.bytes_of.Goals as goal

pub returns-in-Some : goal.returns-in-Some
returns-in-Some c = ap items c.in-Some.is ∙ ap Some (sym c.deref.ensures.value)
