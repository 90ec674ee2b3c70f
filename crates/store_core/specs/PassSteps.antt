-- The steps of a call that has a pass: draw, commit, end, confirm, repaired.
use Rattle.std.specs.Prelude.{ℕ, ◌+◌, not, nat_eq, List, [], ◌++◌, length, map, filter, fold, find, option_map, unwrap_or, if◌then◌else◌}
use Rattle.std.specs.List.{range_with_len, list_all}
use Rattle.store_core.specs.Lists.{change_at}
use Rattle.store_core.specs.Told.{Told}
use Rattle.store_core.specs.Placements.{placed_anew}
use Rattle.store_core.specs.Note.{Note}
use Rattle.store_core.specs.Directory.{Standing, Version, Pass, Directory}
use Rattle.store_core.specs.Lookups.{same_actor, last_change, is_current}
use Rattle.store_core.specs.Look.{stripes_between, set_standing}

-- the actor's pass is gone, and its pins with it
abbrev pub close_pass : Pass → Directory → Directory
close_pass pass d = record d { passes = filter (λ other. not (same_actor pass.actor other.actor)) d.passes }

-- the actor's pass is changed
abbrev pub change_pass : Pass → (Pass → Pass) → Directory → Directory
change_pass pass change d = record d { passes = map (λ other. if same_actor pass.actor other.actor then change other else other) d.passes }

-- what the pass has drawn is superseded
abbrev pub give_up_drawn : Pass → Directory → Directory
give_up_drawn pass d = record d { versions = set_standing Standing.Superseded pass.drawn d.versions }

-- the stripes that the pass's put or write touches, rising
abbrev pub touched : Directory → Note → List ℕ
touched d note = stripes_between d.shape note.offset (note.offset + note.length)

-- the version of a stripe that is laid over the pinned one, if it is pinned
abbrev pub new_version : Pass → ℕ → Version
new_version pass stripe =
    record {
      actor = pass.actor;
      number = pass.number;
      stripe = stripe;
      base = option_map (λ pin. pin.version) (find (λ pin. nat_eq stripe pin.stripe) pass.pinned);
      placed = [];
      standing = Standing.Drawn;
    }

-- a new version, numbered by its place, for each stripe that is touched
abbrev pub draw : Pass → Directory → Directory × Told
draw pass d =
    let drawn : List ℕ = range_with_len (length d.versions) (length (touched d pass.note)) in
    let grown : Directory = record d { versions = d.versions ++ map (new_version pass) (touched d pass.note) } in
    (change_pass pass (λ other. record other { drawn = drawn }) grown, Told.Versions drawn)

-- the pass ends without a commit
abbrev pub end_pass : Pass → Directory → Directory × Told
end_pass pass d = (close_pass pass (give_up_drawn pass d), Told.Ended)

-- a repairer's pass goes on where its version is still current
abbrev pub confirm : Pass → Directory → Directory × Told
confirm pass d =
    if list_all (λ pin. is_current d pin.version) pass.pinned then (d, Told.Current)
    else (close_pass pass d, Told.Superseded (unwrap_or (last_change pass.note.name d.points) 0))

-- the chunk of the pinned version was placed anew at a server
abbrev pub repaired : ℕ → ℕ → Pass → Directory → Directory × Told
repaired server epoch pass d =
    let raised : List Version =
    fold (λ versions pin. change_at pin.version (λ version. record version { placed = change_at server (placed_anew epoch) version.placed }) versions) d.versions pass.pinned in
    (close_pass pass (record d { versions = raised }), Told.Ended)
