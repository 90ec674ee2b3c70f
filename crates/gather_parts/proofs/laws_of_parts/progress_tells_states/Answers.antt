use Rattle.gather_parts.proofs.Ended.{done_state, done_owed, lost_state}
use Rattle.gather_parts.proofs.laws_of_parts.progress_tells_states.Goals as goal

pub returns-clause-done : goal.returns-clause-done
returns-clause-done c = done_state

pub returns-clause-bytes : goal.returns-clause-bytes
returns-clause-bytes c = done_owed

pub returns-clause-lost : goal.returns-clause-lost
returns-clause-lost c = lost_state
