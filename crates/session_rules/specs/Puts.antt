-- What a put that runs alone leaves.
use Rattle.std.specs.Prelude.{ℕ, ◌+◌, ◌<◌, false, List, [], ◌∷◌, ◌++◌, length, map, replicate}
use Rattle.std.specs.List.{range_with_len}
use Rattle.clay_grid.specs.Shape.{Shape, stripe_length}
use Rattle.store_map.specs.Content.{content_length}
use Rattle.store_map.specs.declared.actor.Actor.{Actor}
use Rattle.store_map.specs.declared.call.Call.TheVariants as call
use Rattle.store_map.specs.declared.content.Content.{Content}
use Rattle.store_map.specs.declared.placement.Placement.{Placement}
use Rattle.store_map.specs.declared.placement.Placement.TheVariants as placement
use Rattle.store_core.specs.Note.{Note, note_of}
use Rattle.store_core.specs.Act.{DirectoryStep}
use Rattle.store_core.specs.NextAct.{job_of}
use Rattle.store_core.specs.Conditions.{MayBegin, IsOfClient}
use Rattle.store_core.specs.Directory.{Directory}
use Rattle.store_core.specs.Look.{stripes_between}
use Rattle.store_core.specs.AtDirectory.{at_directory}
use Rattle.store_core.specs.Server.{Server, hold}
use Rattle.store_core.specs.Step.{Places}
use Rattle.session_rules.specs.State.{State}
use Rattle.session_rules.specs.Calls.{serve_call}
use Rattle.session_rules.specs.Alone.{EndsAs}
use Rattle.session_rules.specs.Seen.{IsSeenAs}
use Rattle.session_rules.specs.Outcomes.{outcome_at}

-- a server that holds one version more
abbrev pub with_version : ℕ → Server → Server
with_version version s = record s { held = hold version s.held }

-- servers that hold some versions more, one after another
abbrev pub holding : List ℕ → List Server → List Server
holding [] servers = servers
holding (version ∷ later) servers = holding later (map (with_version version) servers)

module _ (who : Actor) (number : ℕ) (note : Note) (p : Places) where
  -- the versions that are drawn, as many as the put's bytes meet stripes
  abbrev pub drawn_by : List ℕ
  drawn_by = range_with_len (length p.directory.versions) (length (stripes_between p.directory.shape 0 (0 + note.length)))

  -- a row of placements at the servers' present epochs for each
  abbrev pub rows_at : List (List Placement)
  rows_at = replicate (length drawn_by) (map (λ epoch. placement.At epoch) (map (λ server. server.epoch) p.servers))

  -- the directory after its look, its draw and its commit
  abbrev pub directory_after : Directory
  directory_after =
      let looked : Directory = (at_directory false who number (DirectoryStep.Look note) p.directory).0 in
      let drawn : Directory = (at_directory false who number DirectoryStep.Draw looked).0 in
      (at_directory false who number (DirectoryStep.Commit rows_at) drawn).0

-- a put that ran alone: it ended with the session's answer at the next point, and left the directory after those steps and servers that hold a chunk of each drawn version; the drawn versions stand for the state's new numbers
pub record IsWrittenAs (g : Shape) (max tries : ℕ) (stands : List ℕ) (p : Places) (s : State) (who : Actor) (number : ℕ) (name : List ℕ) (content : Content) : Type 0 where
  pub ends :
      EndsAs g tries who number (job_of (call.Put name content)) p (outcome_at (length p.directory.points) (serve_call g max (call.Put name content) s).1)
      (record { directory = directory_after who number (note_of (call.Put name content)) p; servers = holding (drawn_by who number (note_of (call.Put name content)) p) p.servers })
  pub seen :
      IsSeenAs g max (stands ++ drawn_by who number (note_of (call.Put name content)) p)
      (record { directory = directory_after who number (note_of (call.Put name content)) p; servers = holding (drawn_by who number (note_of (call.Put name content)) p) p.servers })
      (serve_call g max (call.Put name content) s).0

-- so it is of each put that isn't too large, before the sweeper has swept what it replaced
abbrev pub PutsAreServed : Type 0
PutsAreServed =
    (g : Shape) (max tries : ℕ) (stands : List ℕ) (p : Places) (s : State) (who : Actor) (number : ℕ) (name : List ℕ) (content : Content) →
    0 < stripe_length g → IsSeenAs g max stands p s → MayBegin p.directory who number → IsOfClient who (note_of (call.Put name content)) → content_length content < max + 1 →
    IsWrittenAs g max tries stands p s who number name content
