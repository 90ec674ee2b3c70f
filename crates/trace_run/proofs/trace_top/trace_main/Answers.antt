use Rattle.std.proofs.Common.{inr}
use Rattle.clay_bytes.proofs.StreamLemmas.{accepts-nothing}
use Rattle.trace_run.proofs.Statuses.{not_failed, ends_so, only_too_long, owed_so, part_so}
use Rattle.trace_run.proofs.trace_top.trace_main.Goals as goal

pub returns-in-Ok-clause-output : goal.returns-in-Ok-clause-output
returns-in-Ok-clause-output g c = λ has.
    let made = c.in-Ok.ensures.answers in
    let took = c.write_out.ensures.accepted (not_failed _ has) in
    let owed = owed_so made.0 c.in-Ok.output.status _ c.in-Ok.output.bytes.items _ _ _ _ _ took.0 c.deref.ensures.value took.1 made.3 in
    (made.0, c.in-Ok.output.bytes.items, made.1, made.2, owed.0, owed.1)

pub returns-in-Ok-clause-prefix : goal.returns-in-Ok-clause-prefix
returns-in-Ok-clause-prefix g c = λ failed.
    let made = c.in-Ok.ensures.answers in (
      made.0,
      c.in-Ok.output.status,
      c.in-Ok.output.bytes.items,
      made.1,
      made.2,
      made.3,
      part_so _ _ _ _ _ _ c.deref.ensures.value (c.write_out.ensures.part failed (not_failed _ c.in-Ok.ensures.status)).0,
    )

pub returns-in-Ok-clause-which : goal.returns-in-Ok-clause-which
returns-in-Ok-clause-which g c = ends_so c.in-Ok.output.status c.write_out.result c.in-Ok.ensures.status c.write_out.ensures.which

pub returns-in-Err-clause-silent : goal.returns-in-Err-clause-silent
returns-in-Err-clause-silent g c = λ _. accepts-nothing _ _

pub returns-in-Err-clause-which : goal.returns-in-Err-clause-which
returns-in-Err-clause-which g c = inr (inr c.in-Err.ensures.silent)

pub returns-in-Err-clause-complete : goal.returns-in-Err-clause-complete
returns-in-Err-clause-complete g c = λ fault none. inr (only_too_long _ c.in-Err.ensures.silent (λ failed. fault (c.in-Err.ensures.read_fault failed)))
