-- The session's map, and what the directory's versions stand for.
use Rattle.std.specs.Prelude.{◌≡◌, ◌<◌, ℕ, false, List, Some}
use Rattle.clay_grid.specs.Shape.{Shape, stripe_length}
use Rattle.store_map.specs.PlainMap.{apply}
use Rattle.store_map.specs.declared.actor.Actor.{Actor}
use Rattle.store_map.specs.declared.call.Call.{Call}
use Rattle.store_map.specs.declared.reply.Reply.TheVariants as reply
use Rattle.store_core.specs.Told.{Seen, Told}
use Rattle.store_core.specs.Note.{note_of}
use Rattle.store_core.specs.Act.{DirectoryStep}
use Rattle.store_core.specs.AtDirectory.{at_directory}
use Rattle.store_core.specs.Calls.{Calls}
use Rattle.store_core.specs.Conditions.{MayBegin, IsOfClient}
use Rattle.store_core.specs.Content.{contents_by}
use Rattle.store_core.specs.Read.{parts_of}
use Rattle.store_core.specs.Step.{Places}
use Rattle.run_laws.specs.MapAfter.{map_by}
use Rattle.run_laws.specs.Contents.{HasBytes}
use Rattle.run_laws.specs.MoreCalls.{AreDrawnBy, AreAmong}
use Rattle.run_laws.specs.ReadLaws.{bytes_read}
use Rattle.session_rules.specs.State.{State, first_state}
use Rattle.session_rules.specs.Seen.{IsSeenAs}
use Rattle.session_rules.specs.Beginnings.{new_places}

-- the state's map is the one after the calls at the directory's points, and the versions, each drawn by one of the calls, stand for its bytes
pub record IsMapOf (calls : Calls) (p : Places) (s : State) : Type 0 where
  pub objects : s.objects ≡ map_by calls p.directory.max p.directory.points
  pub bytes : HasBytes calls p.directory
  pub drawn : AreDrawnBy calls p.directory

-- so it is of the first state
abbrev pub BeginningsAreMaps : Type 0
BeginningsAreMaps = (calls : Calls) (g : Shape) (max : ℕ) → IsMapOf calls (new_places g max) (first_state g)

-- where a client's look pins stripes, the map's reply in the state is the bytes that their versions stand for
abbrev pub BytesAreOwed : Type 0
BytesAreOwed =
    (calls : Calls) (g : Shape) (max : ℕ) (stands : List ℕ) (p : Places) (s : State) (who : Actor) (number : ℕ) (call : Call) (point length_now : ℕ) (seen : List Seen) →
    0 < stripe_length p.directory.shape → IsSeenAs g max stands p s → IsMapOf calls p s → MayBegin p.directory who number → IsOfClient who (note_of call) → calls who number ≡ Some call →
    (at_directory false who number (DirectoryStep.Look (note_of call)) p.directory).1 ≡ Told.Pinned point length_now seen →
    (apply p.directory.max call s.objects).1
    ≡ reply.Bytes (bytes_read (contents_by p.directory.shape calls p.directory.versions) (parts_of p.directory.shape (note_of call) length_now seen))

-- calls that come later leave it so
abbrev pub MoreCallsLeaveMaps : Type 0
MoreCallsLeaveMaps =
    (calls more : Calls) (g : Shape) (max : ℕ) (stands : List ℕ) (p : Places) (s : State) → IsSeenAs g max stands p s → IsMapOf calls p s → AreAmong calls more → IsMapOf more p s
