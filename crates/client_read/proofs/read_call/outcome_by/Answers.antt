use Rattle.std.proofs.Common.{sym, ap}
use Rattle.run_laws.specs.State.{Sequel}
use Rattle.gather_parts.specs.Ends.{end_state}
use Rattle.call_steps.specs.Ends.{finished_of}
use Rattle.client_read.proofs.read_call.outcome_by.Goals as goal

pub returns-in-Bytes-clause-state : goal.returns-in-Bytes-clause-state
returns-in-Bytes-clause-state c = sym (ap (λ gathered. finished_of (end_state (Sequel.Serve c.args.point.0) gathered)) c.in-Bytes.is)
