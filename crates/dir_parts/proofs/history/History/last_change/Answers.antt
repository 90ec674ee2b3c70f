use Rattle.std.proofs.Common.{◌≡◌, None, Some, map, bytes_eq, ap, sym, ◌∙◌}
use Rattle.std.specs.Map.{lookup}
use Rattle.indexmap.specs.IndexMap.{keys}
use Rattle.store_core.specs.Lookups.{last_change}
use Rattle.dir_parts.specs.PointLog.{point_in}
use Rattle.dir_parts.proofs.LogSteps.{found_last}
use Rattle.dir_parts.proofs.Naming.{none_changed}
use Rattle.dir_parts.proofs.history.History.last_change.Goals as goal

pub returns-in-Some : goal.returns-in-Some
returns-in-Some c =
    let found : Some c.in-Some.last.now ≡ lookup (bytes_eq c.args.name.now) c.self.inside.names.entries = c.in-Some.ensures.value in
    found_last (map (point_in (keys c.self.inside.names)) c.self.inside.told) c.args.name.now c.self.inside.names.entries c.in-Some.last.now c.self.invariant.last (sym found)
    ∙ ap (λ b. last_change c.args.name.now b.points) c.self.view_is

pub returns-in-None : goal.returns-in-None
returns-in-None c =
    let found : None ≡ lookup (bytes_eq c.args.name.now) c.self.inside.names.entries = c.in-None.ensures.value in
    sym (none_changed c.args.name.now c.self.inside.names.entries (sym found) 0 c.self.inside.told c.self.invariant.named)
    ∙ ap (λ b. last_change c.args.name.now b.points) c.self.view_is
