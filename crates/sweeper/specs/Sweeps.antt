-- The sweeper as callers see it: plain data, what it needs, and its steps.
use Rattle.std.specs.Prelude.{ℕ, false, Option, None, Some}
use Rattle.store_map.specs.declared.actor.Actor.{Actor}
use Rattle.store_core.specs.Told.{Told}
use Rattle.store_core.specs.Act.{Act}
use Rattle.store_core.specs.ActPlace.{ActPlace, place_of}
use Rattle.store_core.specs.Directory.{Directory}
use Rattle.store_core.specs.AtDirectory.{at_directory}
use Rattle.store_core.specs.Server.{Server, at_server}
use Rattle.store_core.specs.Sweep.{Sweeper, next_sweep, after_sweep}
use Rattle.chunk_server.specs.State.{ServerState}
use Rattle.chunk_server.specs.Steps.{after_discard}
use Rattle.call_steps.specs.declared.need.Need.{Need}
use Rattle.call_steps.specs.declared.need.Need.TheVariants as need

-- how many servers a stripe has, and where the sweeper stands
pub record SweeperOf : Type 0 where
  pub servers : ℕ
  pub at : Sweeper

-- a sweeper that has taken no version
abbrev pub new_sweeper : ℕ → SweeperOf
new_sweeper servers = record { servers = servers; at = Sweeper.Idle }

-- what it does next
abbrev pub act_of : SweeperOf → Act
act_of w = next_sweep w.servers w.at

-- where that is done
abbrev pub need_at : Option ActPlace → Need
need_at (Some ActPlace.Directory) = need.Directory
need_at (Some (ActPlace.Server server)) = need.Server server
need_at None = need.Finished

-- what it needs
abbrev pub need_of : SweeperOf → Need
need_of w = need_at (place_of (act_of w))

-- after the answer to its act
abbrev pub heard : SweeperOf → Told → SweeperOf
heard w answer = record w { at = after_sweep w.servers w.at answer }

-- the directory and the sweeper after its act there
abbrev pub at_directory_by : Act → Actor → ℕ → SweeperOf → Directory → Directory × SweeperOf
at_directory_by (Act.AtDirectory step) who number w d =
    let after : Directory × Told = at_directory false who number step d in
    (after.0, heard w after.1)
at_directory_by act who number w d = (d, w)

-- one step at the directory
abbrev pub stepped_at_directory : Actor → ℕ → SweeperOf → Directory → Directory × SweeperOf
stepped_at_directory who number w d = at_directory_by (act_of w) who number w d

-- what it is told there
abbrev pub told_at_directory_by : Act → Actor → ℕ → Directory → Told
told_at_directory_by (Act.AtDirectory step) who number d = (at_directory false who number step d).1
told_at_directory_by act who number d = Told.NotMade

abbrev pub told_at_directory : Actor → ℕ → SweeperOf → Directory → Told
told_at_directory who number w d = told_at_directory_by (act_of w) who number d

-- the server and the sweeper after its act there
abbrev pub at_server_by : Act → SweeperOf → Server → Server × SweeperOf
at_server_by (Act.AtServer server step) w s =
    let after : Server × Told = at_server false step s in
    (after.0, heard w after.1)
at_server_by act w s = (s, w)

-- one step at the server that it needs
abbrev pub stepped_at_server : SweeperOf → Server → Server × SweeperOf
stepped_at_server w s = at_server_by (act_of w) w s

-- what it is told there
abbrev pub told_at_server_by : Act → Server → Told
told_at_server_by (Act.AtServer server step) s = (at_server false step s).1
told_at_server_by act s = Told.NotMade

abbrev pub told_at_server : SweeperOf → Server → Told
told_at_server w s = told_at_server_by (act_of w) s

-- a server from which the version that is swept is discarded
abbrev pub discarded_at : Sweeper → ServerState → ServerState
discarded_at Sweeper.Idle s = s
discarded_at (Sweeper.Sweeping version server) s = after_discard version s
