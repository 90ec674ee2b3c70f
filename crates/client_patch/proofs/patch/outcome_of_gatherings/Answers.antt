use Rattle.std.proofs.Common.{◌≡◌, sym, ap, ◌∙◌}
use Rattle.run_laws.specs.State.{Sequel, State}
use Rattle.gather_parts.specs.Ends.{end_state}
use Rattle.client_patch.proofs.Gathered.{ungathered_ends}
use Rattle.client_patch.proofs.patch.outcome_of_gatherings.Goals as goal

pub unreachable-requires : goal.unreachable-requires
unreachable-requires c =
    let ends = ungathered_ends c.args.gatherings c.requires in
    let same : State.Drawing ≡ State.Ending (ends.outcome) = sym (c.finish-gathered.ensures.state Sequel.Draw ∙ ap (end_state Sequel.Draw) c.in-Bytes.is) ∙ ends.is in
    cc
