-- The history that a core shows: its points, with the replies of the plain map there.
use Rattle.std.specs.Prelude.{ℕ, ◌+◌, Bool, true, false, List, [], ◌∷◌, ◌++◌, Option, None, Some, option_and_then}
use Rattle.std.specs.List.{slice_get}
use Rattle.store_map.specs.PlainMap.{Objects, apply}
use Rattle.store_map.specs.Limits.{size_of}
use Rattle.store_map.specs.declared.actor.Actor.{Actor}
use Rattle.store_map.specs.declared.actor.Actor.TheVariants as actor
use Rattle.store_map.specs.declared.call.Call.{Call}
use Rattle.store_map.specs.declared.reply.Reply.{Reply}
use Rattle.store_map.specs.declared.reply.Reply.TheVariants as reply
use Rattle.store_map.specs.declared.script.Script.{Script}
use Rattle.store_map.specs.declared.call_name.ClientCall.{ClientCall}
use Rattle.store_map.specs.declared.shown.Shown.{Shown}
use Rattle.store_map.specs.declared.shown.Shown.TheVariants as shown
use Rattle.store_map.specs.declared.line.HLine.{HLine}
use Rattle.store_core.specs.Act.{Outcome}
use Rattle.store_core.specs.Calls.{Calls}
use Rattle.store_core.specs.Directory.{Event, Point}
use Rattle.store_core.specs.Core.{Core}
use Rattle.store_core.specs.Work.{Ended}

-- an outcome with a reply
abbrev pub is_answered : Outcome → Bool
is_answered (Outcome.Answered point reply) = true
is_answered (Outcome.Served point) = true
is_answered _ = false

-- a client's call in the script
abbrev pub call_of : Script → Calls
call_of script (actor.Client i) number = option_and_then (λ part. slice_get part.calls number) (slice_get script.clients i)
call_of script who number = None

-- whether there is such an outcome
abbrev pub is_answer : Option Ended → Bool
is_answer None = false
is_answer (Some ended) = is_answered ended.outcome

-- whether a client's call was answered
abbrev pub answered_in : Core → Actor → ℕ → Bool
answered_in core (actor.Client i) number = is_answer (option_and_then (λ calling. slice_get calling.ended number) (slice_get core.clients i))
answered_in core who number = false

-- the map's reply to the call of a point, and the map after it; a reap changes nothing
abbrev pub applied : ℕ → Objects → Event → Option Call → Objects × Reply
applied max objects Event.Reaped call = (objects, reply.NoSuch)
applied max objects event None = (objects, reply.NoSuch)
applied max objects event (Some call) = apply max call objects

-- what a point shows: the map's reply there if the call was answered; a commit without an answer shows as open, a pinned look without one not at all
abbrev pub shown_at : Event → Bool → Reply → Option Shown
shown_at (Event.Answer given) answered mapped = Some (shown.Reply given)
shown_at Event.Pinned true mapped = Some (shown.Reply mapped)
shown_at Event.Pinned false mapped = None
shown_at Event.Done true mapped = Some (shown.Reply reply.Done)
shown_at Event.Done false mapped = Some shown.Unfinished
shown_at Event.Reaped answered mapped = None

-- a client's call; the points of other actors show none
abbrev pub client_call : Actor → ℕ → Option ClientCall
client_call (actor.Client i) number = Some (record { client = i; number = number })
client_call who number = None

-- the line of a point that shows something
abbrev pub line_of : ℕ → Option ClientCall → Option Shown → List HLine
line_of point (Some call) (Some reply) = record { point = point; call = call; reply = reply } ∷ []
line_of point call reply = []

-- the lines of the points from one on, over the map that stands there, by what is known of calls: which they are, and whether they were answered
abbrev pub history_from : ℕ → Calls → (Actor → ℕ → Bool) → ℕ → Objects → List Point → List HLine
history_from max calls answered place objects [] = []
history_from max calls answered place objects (point ∷ points) =
    let after : Objects × Reply = applied max objects point.event (calls point.actor point.number) in
    line_of place (client_call point.actor point.number) (shown_at point.event (answered point.actor point.number) after.1)
    ++ history_from max calls answered (place + 1) after.0 points

-- the lines of all points of a script's run, from the empty map on
abbrev pub history_of : Script → Core → List HLine
history_of script core = history_from (size_of script) (call_of script) (answered_in core) 0 [] core.directory.points
