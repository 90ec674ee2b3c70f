-- The bytes that a call reads, by the directory's stamps of the versions that it pins.
use Rattle.std.specs.Prelude.{ℕ, Bool, List, [], ◌∷◌, ◌++◌, Option, None, Some}
use Rattle.std.specs.List.{slice_get}
use Rattle.clay_grid.specs.Shape.{Shape}
use Rattle.store_core.specs.Told.{Told}
use Rattle.store_core.specs.Note.{Note}
use Rattle.store_core.specs.Act.{Act, DirectoryStep}
use Rattle.store_core.specs.Gathering.{Part}
use Rattle.store_core.specs.Read.{parts_of}
use Rattle.store_core.specs.Tokens.{actor_of}
use Rattle.store_core.specs.AtDirectory.{at_directory}
use Rattle.version_seal.specs.Entry.{StampOf}
use Rattle.stripe_stamps.specs.Sealed.{Sealed}
use Rattle.gather_parts.specs.Gatherings.{bytes_between}
use Rattle.call_steps.specs.CallOf.{CallOf, act_of}

-- the content of a version, if it has a stamp
abbrev pub content_of : Option StampOf → List ℕ
content_of (Some stamp) = stamp.content
content_of None = []

-- of some parts, one after another
abbrev pub contents_of : List StampOf → List Part → List ℕ
contents_of stamps [] = []
contents_of stamps (part ∷ parts) = bytes_between part.start part.end (content_of (slice_get stamps part.seen.version)) ++ contents_of stamps parts

-- once stripes are pinned, those of the range that the call asks for
abbrev pub owed_after_look : Shape → Note → List StampOf → Told → List ℕ → List ℕ
owed_after_look g note stamps (Told.Pinned point length stripes) owed = contents_of stamps (parts_of g note length stripes)
owed_after_look g note stamps answer owed = owed

-- after an act at the directory, in which memory was wanting or not
abbrev pub owed_by : Act → Bool → CallOf → Sealed → List ℕ → List ℕ
owed_by (Act.AtDirectory (DirectoryStep.Look note)) short c d owed =
    owed_after_look c.book.geometry note d.stamps (at_directory short (actor_of c.token) c.number (DirectoryStep.Look note) d.core).1 owed
owed_by act short c d owed = owed

-- after the call's next step there
abbrev pub owed_after : Bool → CallOf → Sealed → List ℕ → List ℕ
owed_after short c d owed = owed_by (act_of c) short c d owed
