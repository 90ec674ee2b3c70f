use Rattle.std.proofs.Common.{◌∙◌}
use Rattle.aloof_recovery.proofs.recovery.recover_by.Goals as goal

pub recover-requires-clause-recovery : goal.recover-requires-clause-recovery
recover-requires-clause-recovery c = record {
  count = c.requires.missing;
  starts = c.deref.ensures.value ∙ c.in_ok-starts.ensures;
  plan = c.requires.plan;
  tables = c.in_ok-tables.ensures;
}
