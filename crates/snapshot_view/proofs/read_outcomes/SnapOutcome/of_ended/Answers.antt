use Rattle.std.proofs.Common.{Some, ap, ◌∙◌, inl}
use Rattle.gather_parts.specs.Gatherings.{owed}
use Rattle.snapshot_view.specs.Reads.{reply_by}
use Rattle.snapshot_view.proofs.read_outcomes.SnapOutcome.of_ended.Goals as goal

pub returns-in-NoSuch : goal.returns-in-NoSuch
returns-in-NoSuch c = λ r e. ap (λ ended. reply_by ended (owed r.gatherings)) (e ∙ ap Some c.in-NoSuch.is)

pub returns-in-OutRange : goal.returns-in-OutRange
returns-in-OutRange c = λ r e. ap (λ ended. reply_by ended (owed r.gatherings)) (e ∙ ap Some c.in-OutRange.is)

pub returns-in-NoMemory : goal.returns-in-NoMemory
returns-in-NoMemory c = λ r e. inl (e ∙ ap Some c.in-NoMemory.is)
