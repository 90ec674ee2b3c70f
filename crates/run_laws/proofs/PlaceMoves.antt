-- What an act of a call changes at the directory and the servers.
use Rattle.std.proofs.Common.{◌≡◌, ℕ, ◌+◌, ◌≤◌, Bool, true, false, length, Option, None, Some, refl, arith}
use Rattle.std.specs.List.{slice_get}
use Rattle.clay_grid.specs.Shape.{Shape}
use Rattle.store_map.specs.declared.actor.Actor.{Actor}
use Rattle.store_core.specs.Told.{Told}
use Rattle.store_core.specs.Note.{Note}
use Rattle.store_core.specs.Act.{Act, DirectoryStep, ServerStep}
use Rattle.run_laws.specs.Answers.{ServerAnswers, Answers}
use Rattle.store_core.specs.NextAct.{Job}
use Rattle.store_core.specs.Lookups.{same_actor}
use Rattle.store_core.specs.AtDirectory.{at_directory}
use Rattle.store_core.specs.Server.{Server}
use Rattle.store_core.specs.Step.{Places, at_places, at_server_there}
use Rattle.store_core.specs.PlaceLaws.{new_versions, KeepsPlaces}
use Rattle.store_core.proofs.Places.{length-change_at, directory_keeps_places}
use Rattle.run_laws.proofs.Passes.{held, held_after, PassMoves, passes_move, IsCallStep}
use Rattle.run_laws.proofs.LiveVersions.{live_count, HasLive, counts_move}
use Rattle.run_laws.proofs.Proper.{IsProper, ProperStep}
use Rattle.run_laws.proofs.ActAnswers.{IsGoing}

pub record PlacesMove (who : Actor) (note : Note) (before after : Places) (answer : Told) : Type 0 where
  pub own : held who after.directory ≡ held_after answer note (held who before.directory)
  pub others : (other : Actor) → same_actor other who ≡ false → held other after.directory ≡ held other before.directory
  pub shape : after.directory.shape ≡ before.directory.shape
  pub max : after.directory.max ≡ before.directory.max
  pub servers : length after.servers ≡ length before.servers
  pub count : live_count after.directory.versions ≤ live_count before.directory.versions + length (new_versions answer)
  pub size : length after.directory.versions ≡ length before.directory.versions + length (new_versions answer)

-- a server tells nothing of passes or versions
record TellsLittle (note : Note) (before : Option Note) (answer : Told) : Type 0 where
  own : before ≡ held_after answer note before
  versions : length (new_versions answer) ≡ 0

tells_little : (note : Note) (before : Option Note) (step : ServerStep) (answer : Told) → ServerAnswers step answer → TellsLittle note before answer
tells_little note before (ServerStep.Prepare version) (Told.Prepared last) h = record { own = refl; versions = refl }
tells_little note before (ServerStep.Prepare version) Told.Short h = record { own = refl; versions = refl }
tells_little note before (ServerStep.Prepare version) answer h = absurd h
tells_little note before (ServerStep.Settle version) Told.Settled h = record { own = refl; versions = refl }
tells_little note before (ServerStep.Settle version) answer h = absurd h
tells_little note before (ServerStep.Has version) Told.Here h = record { own = refl; versions = refl }
tells_little note before (ServerStep.Has version) (Told.Missing epoch) h = record { own = refl; versions = refl }
tells_little note before (ServerStep.Has version) answer h = absurd h
tells_little note before (ServerStep.Fetch version layers) (Told.Given count) h = record { own = refl; versions = refl }
tells_little note before (ServerStep.Fetch version layers) (Told.Missing epoch) h = record { own = refl; versions = refl }
tells_little note before (ServerStep.Fetch version layers) Told.Short h = record { own = refl; versions = refl }
tells_little note before (ServerStep.Fetch version layers) answer h = absurd h
tells_little note before (ServerStep.Install version) (Told.Placed epoch) h = record { own = refl; versions = refl }
tells_little note before (ServerStep.Install version) Told.AlreadyThere h = record { own = refl; versions = refl }
tells_little note before (ServerStep.Install version) (Told.Away downs) h = record { own = refl; versions = refl }
tells_little note before (ServerStep.Install version) Told.Short h = record { own = refl; versions = refl }
tells_little note before (ServerStep.Install version) answer h = absurd h
tells_little note before step answer h = absurd h

server_moves : (who : Actor) (note : Note) (short : Bool) (server : ℕ) (step : ServerStep) (places : Places) (found : Option Server)
    → TellsLittle note (held who places.directory) (at_server_there short server step places found).1
    → PlacesMove who note places (at_server_there short server step places found).0 (at_server_there short server step places found).1
server_moves who note short server step places None little =
    record {
      own = refl;
      others = λ other apart. refl;
      shape = refl;
      max = refl;
      servers = refl;
      count = omega arith;
      size = omega arith;
    }
server_moves who note short server step places (Some s) little =
    record {
      own = little.own;
      others = λ other apart. refl;
      shape = refl;
      max = refl;
      servers = length-change_at server _ places.servers;
      count = omega arith;
      size = (let e : length (new_versions (at_server_there short server step places (Some s)).1) ≡ 0 = little.versions in omega (arith, e));
    }

pub call_step : (job : Job) (room : Type 0) (step : DirectoryStep) → ProperStep job room step → IsCallStep job.note step
call_step job room (DirectoryStep.Look note) proper = proper.0
call_step job room (DirectoryStep.LookRepair note) proper = proper.0
call_step job room DirectoryStep.Draw proper = tt
call_step job room (DirectoryStep.Commit placed) proper = tt
call_step job room DirectoryStep.End proper = tt
call_step job room DirectoryStep.Confirm proper = tt
call_step job room (DirectoryStep.Repaired server epoch) proper = tt
call_step job room step proper = absurd proper

module _ (g : Shape) (job : Job) (room : Type 0) (pins touched : ℕ) (short : Bool) (who : Actor) (self : same_actor who who ≡ true) (number : ℕ) (places : Places) (has : HasLive places.directory) where
  -- an act of a call moves its own pass, and adds the versions that its answer tells
  pub act_moves : (act : Act) → IsProper g job room act → IsGoing act → Answers pins touched act (at_places short who number act places).1
      → PlacesMove who job.note places (at_places short who number act places).0 (at_places short who number act places).1
  act_moves (Act.AtDirectory step) proper going h =
      let passes : PassMoves who job.note places.directory (at_directory short who number step places.directory).0 (at_directory short who number step places.directory).1 =
      passes_move short who number job.note step places.directory self (call_step job room step proper) in
      let kept : KeepsPlaces places.directory (at_directory short who number step places.directory).0 (at_directory short who number step places.directory).1 =
      directory_keeps_places short who number step places.directory in
      record {
        own = passes.own;
        others = passes.others;
        shape = passes.shape;
        max = passes.max;
        servers = refl;
        count = counts_move places.directory has short who number step;
        size = kept.versions;
      }
  act_moves (Act.AtServer server step) proper going h =
      server_moves who job.note short server step places (slice_get places.servers server)
      (tells_little job.note (held who places.directory) step (at_server_there short server step places (slice_get places.servers server)).1 h)
  act_moves (Act.Finish outcome) proper going h = absurd going
