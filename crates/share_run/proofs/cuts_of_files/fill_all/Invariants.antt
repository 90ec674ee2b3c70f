use Rattle.std.proofs.Common.{◌≡◌, ◌++◌, map, take}
use Rattle.file_bytes.specs.Laid.{laid}
use Rattle.share_run.specs.Places.{filled_from}
use Rattle.share_run.proofs.cuts_of_files.fill_all.Given as goal

abbrev pub invariant-loop-place : goal.invariant-loop-place
invariant-loop-place g l = record {
  filled : g.P.FilePlaces.filled_in l.places ≡ g.P.FilePlaces.filled_in l.fn.places ++ filled_from 0 (take l.place (map (λ sink. laid (g.K.SinkAt.put sink)) l.sinks));
  steady : g.P.FilePlaces.faults l.places ≡ g.P.FilePlaces.faults l.fn.places;
}
