-- How a call of the plain map is served.
use Rattle.std.specs.Prelude.{ℕ, ◌+◌, ◌*◌, ◌-◌, min, Bool, true, false, List, [], length, map, filter, Option, None, Some, unwrap_or}
use Rattle.clay_grid.specs.Shape.{Shape, stripe_length}
use Rattle.store_map.specs.Content.{content_length}
use Rattle.store_map.specs.PlainMap.{Objects, apply, bytes_of}
use Rattle.store_map.specs.declared.call.Call.{Call}
use Rattle.store_map.specs.declared.call.Call.TheVariants as call
use Rattle.store_map.specs.declared.reply.Reply.{Reply}
use Rattle.store_map.specs.declared.reply.Reply.TheVariants as reply
use Rattle.store_core.specs.Look.{stripes_between, keeps_old}
use Rattle.session_rules.specs.State.{State, numbers_of}
use Rattle.session_rules.specs.declared.session_answer.Answer.{Answer}
use Rattle.session_rules.specs.Gathered.{Range, ranges_between, first_unavailable}
use Rattle.session_rules.specs.Placing.{after_call}

-- the object that a call is about
abbrev pub name_in : Call → List ℕ
name_in (call.Put name content) = name
name_in (call.Write name offset content) = name
name_in (call.Get name) = name
name_in (call.ReadAt name offset count) = name
name_in (call.Stat name) = name
name_in (call.Delete name) = name

-- all bytes that an object of some size has in a stripe
abbrev pub old_range : Shape → ℕ → ℕ → Range
old_range g size i = record { stripe = i; start = 0; end = min (stripe_length g) (size - i * stripe_length g) }

-- what a call gathers of an object of some size: a get all bytes, a read those that it is answered, a write all old bytes of each stripe of which an old byte stays
abbrev pub gathered_by : Shape → Call → ℕ → List Range
gathered_by g (call.Get name) size = ranges_between g 0 size
gathered_by g (call.ReadAt name offset count) size = ranges_between g offset (min (offset + count) size)
gathered_by g (call.Write name offset content) size =
    let end : ℕ = offset + content_length content in
    map (old_range g size) (filter (keeps_old g size offset end) (stripes_between g offset end))
gathered_by g _ size = []

-- the map refuses the call
abbrev pub is_refusal : Reply → Bool
is_refusal reply.NoSuch = true
is_refusal reply.OutRange = true
is_refusal reply.TooLarge = true
is_refusal _ = false

-- a call of which bytes are unavailable leaves the state
abbrev pub unless_unavailable : Option Answer → State → State × Answer → State × Answer
unless_unavailable None s served = served
unless_unavailable (Some answer) s served = (s, answer)

-- by whether the map refuses it, the map after it and the map's reply
abbrev pub serve_by : Bool → Shape → Call → State → Objects × Reply → State × Answer
serve_by true g call s applied = (s, Answer.Replied applied.1)
serve_by false g call s applied =
    let size : ℕ = length (unwrap_or (bytes_of (name_in call) s.objects) []) in
    unless_unavailable (first_unavailable g s s.stripes (numbers_of (name_in call) s.numbers) (gathered_by g call size)) s (after_call g call applied.0 s, Answer.Replied applied.1)

-- a call of the map, whose objects have at most max bytes: what the map refuses is answered so, before any bytes are gathered
abbrev pub serve_call : Shape → ℕ → Call → State → State × Answer
serve_call g max call s =
    let applied : Objects × Reply = apply max call s.objects in
    serve_by (is_refusal applied.1) g call s applied
