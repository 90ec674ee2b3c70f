use Rattle.std.proofs.Common.{sym, subst}
use Rattle.store_map.specs.declared.script.Script.{Script}
use Rattle.store_run.specs.Ended.{IsEnded}
use Rattle.store_run.proofs.threaded_run.finish_run.Goals as goal

pub sweep-requires : goal.sweep-requires
sweep-requires g c = subst (λ (script : Script). IsEnded script c.in_ok-ended.ended) (sym c.requires.1.0) c.in_ok-ended.ensures
