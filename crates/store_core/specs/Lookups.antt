-- What is found in the directory.
use Rattle.std.specs.Prelude.{ℕ, Bool, true, false, nat_eq, ◌&&◌, not, List, Option, None, Some, option_map, find, fold, bytes_eq, if◌then◌else◌}
use Rattle.std.specs.List.{enumerate_from, list_any, slice_get}
use Rattle.store_map.specs.declared.actor.Actor.{Actor}
use Rattle.store_map.specs.declared.actor.Actor.TheVariants as actor
use Rattle.store_map.specs.declared.reply.Reply.{Reply}
use Rattle.store_map.specs.declared.reply.Reply.TheVariants as reply
use Rattle.store_core.specs.Directory.{Object, Standing, Version, Pass, Event, Point, Directory}

-- the same actor
abbrev pub same_actor : Actor → Actor → Bool
same_actor (actor.Client i) (actor.Client j) = nat_eq i j
same_actor (actor.Repairer i) (actor.Repairer j) = nat_eq i j
same_actor actor.Sweeper actor.Sweeper = true
same_actor actor.Operator actor.Operator = true
same_actor _ _ = false

-- the object with a name
abbrev pub find_object : List ℕ → List Object → Option Object
find_object name objects = find (λ object. bytes_eq name object.name) objects

-- an actor's pass
abbrev pub pass_of : Actor → Directory → Option Pass
pass_of who d = find (λ pass. same_actor who pass.actor) d.passes

-- the reply ok
abbrev pub is_ok : Reply → Bool
is_ok reply.Done = true
is_ok _ = false

-- a put or a write that was committed, or a delete that was answered ok
abbrev pub is_change : Event → Bool
is_change (Event.Answer answer) = is_ok answer
is_change Event.Done = true
is_change _ = false

-- the greatest point at which the object with this name was changed
abbrev pub last_change : List ℕ → List Point → Option ℕ
last_change name points =
    fold (λ found entry. if bytes_eq name entry.1.note.name && is_change entry.1.event then Some entry.0 else found) None (enumerate_from 0 points)

-- of a version that stands in its object
abbrev pub is_current_standing : Standing → Bool
is_current_standing Standing.Current = true
is_current_standing _ = false

-- of a version that stands in no object and is drawn by no call, and that the sweeper has not taken
abbrev pub is_superseded_standing : Standing → Bool
is_superseded_standing Standing.Superseded = true
is_superseded_standing _ = false

-- whether there is a version and its standing passes the test
abbrev pub holds_standing : (Standing → Bool) → Option Version → Bool
holds_standing test None = false
holds_standing test (Some version) = test version.standing

-- whether the version with this number is current
abbrev pub is_current : Directory → ℕ → Bool
is_current d version = holds_standing is_current_standing (slice_get d.versions version)

-- whether a pass was not reaped
abbrev pub is_live : Option ℕ → Bool
is_live None = true
is_live (Some point) = false

-- whether some pass that isn't reaped pins the version
abbrev pub is_pinned : Directory → ℕ → Bool
is_pinned d version = list_any (λ pass. is_live pass.reaped && list_any (λ pin. nat_eq version pin.version) pass.pinned) d.passes

-- the least version that is superseded and that no pass pins which isn't reaped
abbrev pub first_garbage : Directory → Option ℕ
first_garbage d =
    option_map (λ entry. entry.0)
    (find (λ entry. is_superseded_standing entry.1.standing && not (is_pinned d entry.0)) (enumerate_from 0 d.versions))
