-- One step at the directory: what it leaves, and what it answers.
use Rattle.std.specs.Prelude.{ℕ, Bool, true, [], ◌∷◌, length, Option, None, Some}
use Rattle.store_map.specs.declared.actor.Actor.{Actor}
use Rattle.store_core.specs.Lists.{change_at}
use Rattle.store_core.specs.Told.{Told}
use Rattle.store_core.specs.Act.{DirectoryStep, takes_memory}
use Rattle.store_core.specs.Directory.{Standing, Pass, Event, Directory}
use Rattle.store_core.specs.Lookups.{pass_of, first_garbage}
use Rattle.store_core.specs.Look.{append_point, set_standing}
use Rattle.store_core.specs.Looks.{look, look_repair}
use Rattle.store_core.specs.PassSteps.{close_pass, change_pass, give_up_drawn, draw, end_pass, confirm, repaired}
use Rattle.store_core.specs.Commit.{commit}

-- a step of a call on its pass; where it was reaped the pass is closed instead, and its reap is told
abbrev pub unless_reaped : (Pass → Directory → Directory × Told) → Pass → Option ℕ → Directory → Directory × Told
unless_reaped step pass None d = step pass d
unless_reaped step pass (Some point) d = (close_pass pass d, Told.Reaped point)

-- a step on the actor's pass, if it has one
abbrev pub on_pass : (Pass → Directory → Directory × Told) → Option Pass → Directory → Directory × Told
on_pass step None d = (d, Told.NotMade)
on_pass step (Some pass) d = unless_reaped step pass pass.reaped d

-- the least garbage is marked taken
abbrev pub take_garbage : Option ℕ → Directory → Directory × Told
take_garbage None d = (d, Told.Taken None)
take_garbage (Some version) d = (record d { versions = set_standing Standing.Taken (version ∷ []) d.versions }, Told.Taken (Some version))

-- only a version that was taken can be swept
abbrev pub swept_standing : Standing → Standing
swept_standing Standing.Taken = Standing.Swept
swept_standing standing = standing

-- the pass stays until its actor's next step at the directory, and is marked with the point of its reap
abbrev pub reap_pass : Pass → Option ℕ → Directory → Directory × Told
reap_pass pass (Some point) d = (d, Told.GivenUp None)
reap_pass pass None d =
    let marked : Directory = change_pass pass (λ other. record other { reaped = Some (length d.points) }) (give_up_drawn pass d) in
    (append_point pass.actor pass.number pass.note Event.Reaped marked, Told.GivenUp (Some (length d.points)))

-- the operator gives up an actor's pass, if it has one
abbrev pub reap : Option Pass → Directory → Directory × Told
reap None d = (d, Told.GivenUp None)
reap (Some pass) d = reap_pass pass pass.reaped d

-- the step of an actor's call with this number, with ample memory
abbrev pub made_at_directory : Actor → ℕ → DirectoryStep → Directory → Directory × Told
made_at_directory who number (DirectoryStep.Look note) d = look who number note d
made_at_directory who number (DirectoryStep.LookRepair note) d = look_repair who number note d
made_at_directory who number DirectoryStep.Draw d = on_pass draw (pass_of who d) d
made_at_directory who number (DirectoryStep.Commit placed) d = on_pass (commit placed) (pass_of who d) d
made_at_directory who number DirectoryStep.End d = on_pass end_pass (pass_of who d) d
made_at_directory who number DirectoryStep.Confirm d = on_pass confirm (pass_of who d) d
made_at_directory who number (DirectoryStep.Repaired server epoch) d = on_pass (repaired server epoch) (pass_of who d) d
made_at_directory who number DirectoryStep.NextGarbage d = take_garbage (first_garbage d) d
made_at_directory who number (DirectoryStep.Swept version) d =
    (record d { versions = change_at version (λ entry. record entry { standing = swept_standing entry.standing }) d.versions }, Told.Made)
made_at_directory who number (DirectoryStep.Reap reaped) d = reap (pass_of reaped d) d

-- whether memory was wanting counts only at a step that takes some; it leaves the directory as it was
abbrev pub unless_short : Bool → Bool → Actor → ℕ → DirectoryStep → Directory → Directory × Told
unless_short true true who number step d = (d, Told.Short)
unless_short short takes who number step d = made_at_directory who number step d

-- one step at the directory by an actor, in its call with this number
abbrev pub at_directory : Bool → Actor → ℕ → DirectoryStep → Directory → Directory × Told
at_directory short who number step d = unless_short short (takes_memory step) who number step d
