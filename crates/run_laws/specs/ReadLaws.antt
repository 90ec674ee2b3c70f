-- A get or a read is owed bytes of the versions that its look pins.
use Rattle.std.specs.Prelude.{◌≡◌, ℕ, ◌-◌, ◌<◌, Bool, List, [], ◌++◌, get_or, map, take, drop}
use Rattle.std.specs.List.{concat}
use Rattle.clay_grid.specs.Shape.{stripe_length}
use Rattle.store_map.specs.declared.actor.Actor.{Actor}
use Rattle.store_map.specs.declared.reply.Reply.TheVariants as reply
use Rattle.store_core.specs.Told.{Seen, Told}
use Rattle.store_core.specs.Note.{Note}
use Rattle.store_core.specs.Act.{DirectoryStep}
use Rattle.store_core.specs.Gathering.{Part}
use Rattle.store_core.specs.Read.{parts_of}
use Rattle.store_core.specs.Directory.{Event, Directory}
use Rattle.store_core.specs.AtDirectory.{at_directory}
use Rattle.store_core.specs.Conditions.{MayStep}
use Rattle.store_core.specs.History.{applied}
use Rattle.store_core.specs.Sound.{IsSound}
use Rattle.store_core.specs.Content.{contents_by}
use Rattle.store_core.specs.Calls.{Calls, IsNoteOf}
use Rattle.run_laws.specs.MapAfter.{map_by}
use Rattle.run_laws.specs.Contents.{HasBytes}

-- the bytes of a part, by the contents of all versions
abbrev pub part_bytes : List (List ℕ) → Part → List ℕ
part_bytes contents part = take (part.end - part.start) (drop part.start (get_or contents part.seen.version []))

-- of all parts in order
abbrev pub bytes_read : List (List ℕ) → List Part → List ℕ
bytes_read contents parts = concat (map (part_bytes contents) parts)

-- where a client's look pins stripes, the map's reply there is the bytes of their parts, also by the contents of a later moment
abbrev pub LooksOweTheirPins : Type 0
LooksOweTheirPins =
    (calls : Calls) (short : Bool) (who : Actor) (number : ℕ) (note : Note) (d : Directory) (point length_now : ℕ) (seen : List Seen) (later : List (List ℕ)) →
    0 < stripe_length d.shape → IsSound d → HasBytes calls d → MayStep d who number (DirectoryStep.Look note) → IsNoteOf calls who number note →
    (at_directory short who number (DirectoryStep.Look note) d).1 ≡ Told.Pinned point length_now seen →
    (applied d.max (map_by calls d.max d.points) Event.Pinned (calls who number)).1
    ≡ reply.Bytes (bytes_read (contents_by d.shape calls d.versions ++ later) (parts_of d.shape note length_now seen))
