use Rattle.std.proofs.Common.{subst}
use Rattle.share_files.specs.Whole.{IsWhole, IsFirstFault}
use Rattle.share_run.proofs.CheckLemmas.{fault_fails}
use Rattle.share_run.proofs.checks_of_shares.fault_of.Goals as goal

pub returns-in-Ok : goal.returns-in-Ok
returns-in-Ok g c = record {
  judged = λ file shows. subst (λ h. IsWhole h file) c.header_of_share-own.ensures (c.in-Ok.ensures.whole file shows);
  fails = c.in-Ok.ensures.steady (λ e. cc);
}

pub returns-in_default : goal.returns-in_default
returns-in_default g c = record {
  judged = λ file shows. subst (λ h. IsFirstFault h file c.in-Err.fault) c.header_of_share-own.ensures (c.in-Err.ensures.fault file shows);
  fails = fault_fails _ _ c.in-Err.fault c.in-Err.ensures.cause c.in-Err.ensures.steady c.in_default.not-OutOfMemory;
}
