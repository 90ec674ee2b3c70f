-- The steps of a read of a snapshot, and its end.
use Rattle.std.specs.Prelude.{◌≡◌, ◌⊎◌, Bool, true, false, map, Option, None, Some}
use Rattle.store_map.specs.declared.reply.Reply.TheVariants as reply
use Rattle.store_core.specs.Told.{lost_in}
use Rattle.store_core.specs.Act.{Outcome}
use Rattle.store_core.specs.Server.{Server}
use Rattle.run_laws.specs.State.{Sequel, State}
use Rattle.run_laws.specs.States.{sequel_state}
use Rattle.call_steps.specs.declared.need.Need.{Need}
use Rattle.call_steps.specs.declared.need.Need.TheVariants as need
use Rattle.gather_parts.specs.Gatherings.{GatheringsOf}
use Rattle.gather_parts.specs.Progress.{progress_of, need_at}
use Rattle.gather_parts.specs.States.{state_in}
use Rattle.gather_parts.specs.Steps.{stepped as gathered_step, coded as gathered_coding}
use Rattle.snapshot_view.specs.Reads.{ReadOf, reply_of}
use Rattle.snapshot_view.specs.declared.read_outcomes.Ending.{Ending}
use Rattle.snapshot_view.specs.declared.read_outcomes.Ending.TheVariants as ending
use Rattle.snapshot_view.specs.declared.read_outcomes.SnapOutcome.{SnapOutcome}
use Rattle.snapshot_view.specs.declared.read_outcomes.SnapOutcome.TheVariants as outcome

-- where a call would go on at the directory, a read of a snapshot is over
abbrev pub without_directory : Need → Need
without_directory (need.Server server) = need.Server server
without_directory need.Coder = need.Coder
without_directory needed = need.Finished

-- by how it has ended
abbrev pub need_by : Option Ending → Need → Need
need_by None needed = without_directory needed
need_by (Some ended) needed = need.Finished

-- what it needs
abbrev pub need_of : ReadOf → Need
need_of r = need_by r.ended (need_at (progress_of r.gatherings))

-- the server and the read after a step there, in which memory was wanting or not
abbrev pub stepped : ReadOf → Bool → Server → Server × ReadOf
stepped r short s =
    let after : Server × GatheringsOf = gathered_step r.gatherings short s in
    (after.0, record r { gatherings = after.1 })

-- it ends where memory was wanting in a coding
abbrev pub ended_by : Bool → Option Ending → Option Ending
ended_by true ended = Some ending.NoMemory
ended_by false ended = ended

-- the read after a coding, in which memory was wanting or not
abbrev pub coded : Bool → ReadOf → ReadOf
coded short r = record { gatherings = gathered_coding short r.gatherings; ended = ended_by short r.ended }

-- what its gatherings came to
abbrev pub CameTo : ReadOf → Outcome → Type 0
CameTo r came = (r.ended ≡ None) × ((after : Sequel) → state_in r.gatherings after ≡ State.Ending came)

-- bytes, which were all gathered, and refusals are the map's reply; a read without either was told that more chunks of a stripe are missing than the
-- code can make anew, or memory was wanting
abbrev pub EndsAs : ReadOf → SnapOutcome → Type 0
EndsAs r (outcome.Bytes bytes) =
    (reply_of r ≡ Some (reply.Bytes bytes.items)) × ((after : Sequel) → state_in r.gatherings after ≡ sequel_state after)
EndsAs r outcome.NoSuch = reply_of r ≡ Some reply.NoSuch
EndsAs r outcome.OutRange = reply_of r ≡ Some reply.OutRange
EndsAs r (outcome.Unavailable stripe missing) = CameTo r (Outcome.Unavailable stripe (map lost_in missing.items))
EndsAs r outcome.NoMemory = (r.ended ≡ Some ending.NoMemory) ⊎ CameTo r Outcome.NoMemory
