-- What a world's callers leave at the end of a run.
use Rattle.std.specs.Prelude.{◌≡◌, ℕ, List, length, Some}
use Rattle.std.specs.List.{slice_get}
use Rattle.clay_grid.specs.Shape.{chunk_count}
use Rattle.call_steps.specs.CallerCalls.{calling_at}
use Rattle.call_steps.specs.declared.caller_calls.CallerCalls.{CallerCalls}
use Rattle.world_laws.specs.Known.{calling_by}
use Rattle.actors.specs.Callers.{CallerOf}
use Rattle.actors.specs.Inside.{served_of}

-- the calls of the caller at this place
pub record IsCallsOf (callers : List CallerOf) (place : ℕ) (calls : CallerCalls) : Type 0 where
  pub caller : CallerOf
  pub there : slice_get callers place ≡ Some caller
  pub same : calling_at (chunk_count caller.book.geometry) calls ≡ calling_by (chunk_count caller.book.geometry) caller.actor.ended caller.actor.doing
  pub served : served_of calls.ended.items ≡ caller.served

-- of each caller in its order
pub record AreCallsOf (callers : List CallerOf) (calls : List CallerCalls) : Type 0 where
  pub count : length calls ≡ length callers
  pub each : (i : ℕ) (x : CallerCalls) → slice_get calls i ≡ Some x → IsCallsOf callers i x
