-- What a point shows by the bytes of its call, and what is left of the calls when those were taken.
use Rattle.std.specs.Prelude.{◌≡◌, ◌⊎◌, ℕ, Bool, true, false, List, Option, None, Some, option_map}
use Rattle.store_map.specs.declared.actor.Actor.{Actor}
use Rattle.store_map.specs.declared.actor.Actor.TheVariants as actor
use Rattle.store_map.specs.declared.reply.Reply.TheVariants as reply
use Rattle.store_map.specs.declared.shown.Shown.{Shown}
use Rattle.store_map.specs.declared.shown.Shown.TheVariants as shown
use Rattle.store_core.specs.Directory.{Event}
use Rattle.dir_parts.specs.Events.{event_in}
use Rattle.dir_parts.specs.declared.history.PointEntry.{PointEntry}
use Rattle.call_steps.specs.declared.caller_calls.EndedCall.{EndedCall}
use Rattle.call_steps.specs.declared.caller_calls.CallerCalls.{CallerCalls}
use Rattle.world_laws.specs.Served.{outcome_in, served_in, ended_at, answered_at, bytes_of}

-- what a point shows by its event, by whether its call was answered, and by the bytes that it was served
abbrev pub shown_by : Event → Bool → Option (List ℕ) → Option Shown
shown_by (Event.Answer given) answered served = Some (shown.Reply given)
shown_by Event.Pinned answered served = option_map (λ bytes. shown.Reply (reply.Bytes bytes)) served
shown_by Event.Done true served = Some (shown.Reply reply.Done)
shown_by Event.Done false served = Some shown.Unfinished
shown_by Event.Reaped answered served = None

-- by what the calls hold
abbrev pub shown_call : List CallerCalls → Event → Actor → ℕ → Option Shown
shown_call clients event who number = shown_by event (answered_at clients who number) (bytes_of clients who number)

-- the call ended as before, and has its bytes, unless it is the one that was served them and they were taken
pub record KeepsCall (IsIt : Type 0) (before after : Option EndedCall) : Type 0 where
  pub outcome : outcome_in after ≡ outcome_in before
  pub bytes : (served_in after ≡ served_in before) ⊎ (IsIt × ((bytes : List ℕ) × (served_in before ≡ Some bytes)))

-- so are all clients' calls but the one with these numbers
abbrev pub KeepsEachCall : (ℕ → ℕ → Type 0) → List CallerCalls → List CallerCalls → Type 0
KeepsEachCall IsIt before after = (i n : ℕ) → KeepsCall (IsIt i n) (ended_at before i n) (ended_at after i n)

-- which is that of a pinned point
abbrev pub IsPinnedCall : PointEntry → ℕ → ℕ → Type 0
IsPinnedCall entry i n = (entry.actor ≡ actor.Client i) × (n ≡ entry.number) × (event_in entry.event ≡ Event.Pinned)
