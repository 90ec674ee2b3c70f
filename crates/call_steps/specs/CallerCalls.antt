-- A caller's calls at the end of a run, as the store's definitions say them.
use Rattle.std.specs.Prelude.{ℕ, ◌^◌, ◌≤◌, ◌<◌, List, [], length, map, replicate, unwrap_or, All}
use Rattle.store_core.specs.Work.{Ended, Calling}
use Rattle.call_steps.specs.CallOutcomes.{call_outcome_of}
use Rattle.call_steps.specs.declared.caller_calls.EndedCall.{EndedCall}
use Rattle.call_steps.specs.declared.caller_calls.CallerCalls.{CallerCalls}

-- a call that has ended, where there are so many servers
abbrev pub ended_of : ℕ → EndedCall → Ended
ended_of servers ended = record { outcome = call_outcome_of ended.outcome; takes = unwrap_or ended.takes (replicate servers 0) }

-- a caller; what its call in work was told isn't kept
abbrev pub calling_at : ℕ → CallerCalls → Calling
calling_at servers calls =
    record { ended = map (ended_of servers) calls.ended.items; told = []; takes = unwrap_or calls.takes (replicate servers 0); steps = calls.steps }

-- all callers
abbrev pub callings_at : ℕ → List CallerCalls → List Calling
callings_at servers callers = map (calling_at servers) callers

-- how many calls of each have ended
abbrev pub counts_of : List CallerCalls → List ℕ
counts_of callers = map (λ calls. length calls.ended.items) callers

-- numbers of 32 bits name the actors and their calls, also the one after those that have ended
pub record HaveNames (counts : List ℕ) : Type 0 where
  pub actors : length counts ≤ 2 ^ 32
  pub calls : All (λ count. count < 2 ^ 32) counts
