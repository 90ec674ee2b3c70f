use Rattle.std.proofs.Common.{◌≡◌, ◌<◌, ◌-◌, ◌+◌, true, sym, ◌∙◌, arith}
use Rattle.lost_layers.specs.ErasedLayers.{is_solved_for}
use Rattle.lost_layers.specs.ErasedRuns.{erased_of}
use Rattle.lost_layers.proofs.ErasedServing.{solved_at}
use Rattle.lost_layers.proofs.erased.ErasedRun.is_solved.Goals as goal

pub returns-then-is_solved_for : goal.returns-then-is_solved_for
returns-then-is_solved_for c =
    let e = erased_of c.args.self.now in
    let run = c.args.self.now.placed.run in
    let solved : is_solved_for e (run.from + c.loop-place.place) c.args.layer ≡ true = sym c.is_solved_for.ensures ∙ c.if-is_solved_for.true in
    let within : c.loop-place.place < run.to - run.from = omega (arith, c.loop-place-test.true, c.loop-place.auto.place-end) in
    sym (solved_at e c.args.layer c.loop-place.place within solved)
