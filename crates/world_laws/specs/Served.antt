-- What the clients' calls hold for the history: how they ended, and the bytes of those that were served.
use Rattle.std.specs.Prelude.{◌≡◌, ℕ, Bool, true, false, List, take, Option, None, Some, option_map, option_and_then}
use Rattle.std.specs.List.{slice_get}
use Rattle.store_map.specs.declared.actor.Actor.{Actor}
use Rattle.store_map.specs.declared.actor.Actor.TheVariants as actor
use Rattle.store_map.specs.declared.reply.Reply.{Reply}
use Rattle.store_map.specs.declared.reply.Reply.TheVariants as reply
use Rattle.store_core.specs.Act.{Outcome as CoreOutcome}
use Rattle.store_core.specs.Calls.{Calls}
use Rattle.store_core.specs.Directory.{Event, Point}
use Rattle.store_core.specs.History.{applied, is_answered}
use Rattle.run_laws.specs.MapAfter.{map_by}
use Rattle.call_steps.specs.CallOutcomes.{call_outcome_of}
use Rattle.call_steps.specs.declared.outcome.CallOutcome.{CallOutcome}
use Rattle.call_steps.specs.declared.outcome.CallOutcome.TheVariants as ended
use Rattle.call_steps.specs.declared.outcomes.Outcome.{Outcome}
use Rattle.call_steps.specs.declared.outcomes.Outcome.TheVariants as outcome
use Rattle.call_steps.specs.declared.caller_calls.EndedCall.{EndedCall}
use Rattle.call_steps.specs.declared.caller_calls.CallerCalls.{CallerCalls}

-- the bytes of a client's end that has some
abbrev pub bytes_of_client : Outcome → Option (List ℕ)
bytes_of_client (outcome.Served point bytes) = Some bytes.items
bytes_of_client other = None

-- of an end of any call
abbrev pub bytes_in : CallOutcome → Option (List ℕ)
bytes_in (ended.Client outcome) = bytes_of_client outcome
bytes_in (ended.Rebuild outcome) = None

-- a client's call that has ended
abbrev pub ended_at : List CallerCalls → ℕ → ℕ → Option EndedCall
ended_at clients i number = option_and_then (λ calls. slice_get calls.ended.items number) (slice_get clients i)

-- how a call ended, if it is there
abbrev pub outcome_in : Option EndedCall → Option CoreOutcome
outcome_in found = option_map (λ ended. call_outcome_of ended.outcome) found

-- the bytes that it was served
abbrev pub served_in : Option EndedCall → Option (List ℕ)
served_in found = option_and_then (λ ended. bytes_in ended.outcome) found

-- how a client's call ended
abbrev pub outcome_at : List CallerCalls → ℕ → ℕ → Option CoreOutcome
outcome_at clients i number = outcome_in (ended_at clients i number)

-- the bytes that it was served
abbrev pub bytes_at : List CallerCalls → ℕ → ℕ → Option (List ℕ)
bytes_at clients i number = served_in (ended_at clients i number)

-- of another actor's call there are none
abbrev pub bytes_of : List CallerCalls → Actor → ℕ → Option (List ℕ)
bytes_of clients (actor.Client i) number = bytes_at clients i number
bytes_of clients who number = None

-- whether an outcome is there and has a reply
abbrev pub is_reply : Option CoreOutcome → Bool
is_reply None = false
is_reply (Some ended) = is_answered ended

-- whether a client's call was answered
abbrev pub answered_at : List CallerCalls → Actor → ℕ → Bool
answered_at clients (actor.Client i) number = is_reply (outcome_at clients i number)
answered_at clients who number = false

-- the map's reply to a look of a client's call whose point stands at this place
abbrev pub owed_at : ℕ → Calls → List Point → ℕ → ℕ → ℕ → Reply
owed_at max calls points place i number = (applied max (map_by calls max (take place points)) Event.Pinned (calls (actor.Client i) number)).1

-- the pinned point of a call that was answered is the one at which it was served, and the bytes are what the map has there
pub record ServedAre (max : ℕ) (calls : Calls) (points : List Point) (clients : List CallerCalls) : Type 0 where
  pub pins :
      (place i : ℕ) (point : Point) (ended : CoreOutcome) → slice_get points place ≡ Some point → point.actor ≡ actor.Client i → point.event ≡ Event.Pinned →
      outcome_at clients i point.number ≡ Some ended → is_answered ended ≡ true → ended ≡ CoreOutcome.Served place
  pub owed :
      (place i number : ℕ) (bytes : List ℕ) → outcome_at clients i number ≡ Some (CoreOutcome.Served place) → bytes_at clients i number ≡ Some bytes →
      owed_at max calls points place i number ≡ reply.Bytes bytes
