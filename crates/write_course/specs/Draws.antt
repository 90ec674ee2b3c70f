-- The stamps that a put or a write draws.
use Rattle.std.specs.Prelude.{Bool, List, [], ◌++◌, Some}
use Rattle.clay_grid.specs.Shape.{stripe_length}
use Rattle.store_map.specs.declared.call.Call.{Call}
use Rattle.store_core.specs.Told.{Told}
use Rattle.store_core.specs.Act.{Act, DirectoryStep}
use Rattle.store_core.specs.Directory.{Pass}
use Rattle.store_core.specs.Agreement.{ActorToken}
use Rattle.store_core.specs.Tokens.{actor_of}
use Rattle.store_core.specs.AtDirectory.{at_directory}
use Rattle.version_seal.specs.Entry.{StampOf, RequestOf}
use Rattle.stripe_stamps.specs.Sealed.{Sealed, stamps_touched}
use Rattle.call_steps.specs.CallOf.{CallOf, act_of}

-- the request of a call that writes this
abbrev pub request_of : CallOf → Call → RequestOf
request_of c written = record { home = c.book.home; actor = actor_of c.token; number = c.number; call = written }

-- those of the versions that a pass was told of
abbrev pub stamps_told : Sealed → Pass → RequestOf → Told → List StampOf
stamps_told s pass request (Told.Versions versions) = stamps_touched s.book s.stamps (stripe_length s.core.shape) pass (Some request)
stamps_told s pass request answer = []

-- those of a draw, in which memory was wanting or not
abbrev pub stamps_of_draw : ActorToken → Bool → Sealed → CallOf → Call → List StampOf
stamps_of_draw (ActorToken.Seated seat) short s c written = []
stamps_of_draw (ActorToken.InCall held) short s c written =
    stamps_told s held.pass (request_of c written) (at_directory short held.pass.actor c.number DirectoryStep.Draw s.core).1

-- of an act at a directory; all but a draw give none
abbrev pub stamps_by : Act → Bool → Sealed → CallOf → Call → List StampOf
stamps_by (Act.AtDirectory DirectoryStep.Draw) short s c written = stamps_of_draw c.token short s c written
stamps_by act short s c written = []

-- of its next act there
abbrev pub stamps_drawn : Bool → Sealed → CallOf → Call → List StampOf
stamps_drawn short s c written = stamps_by (act_of c) short s c written

-- what the directory keeps afterwards: they come behind those that were there
abbrev pub stamps_after : Bool → Sealed → CallOf → Call → List StampOf
stamps_after short s c written = s.stamps ++ stamps_drawn short s c written
