use Rattle.std.proofs.Common.{◌≡◌, ◌<◌, sym, subst, ◌∙◌, arith}
use Rattle.clay_grid.specs.Shape.{chunk_length}
use Rattle.lane_repair.specs.Views.{laid_pieces}
use Rattle.clay_aloof.specs.Shape.{all_chunks, grid_of}
use Rattle.aloof_recovery.specs.Recoveries.{others_in, AreSolvedBy, ArePut}
use Rattle.aloof_recovery.proofs.Recovering.{others_stay, none_put, put_more, all_put}
use Rattle.aloof_recovery.proofs.recovery.Recovery.put_all.Goals as goal

pub loop-c-init : goal.loop-c-init
loop-c-init c = none_put c.args.self.now.g c.args.self.now.missing.now c.args.chunks.now

pub put-requires-clause-solved : goal.put-requires-clause-solved
put-requires-clause-solved c =
    let r = c.args.self.now in
    let starts = c.requires.recovery.starts in
    let len = chunk_length (grid_of r.g) in
    let stay : others_in r c.loop-c.chunks ≡ others_in r c.args.chunks.now =
    (λ k. laid_pieces c.loop-c.chunks (starts k) len)
    ∙ others_stay r.g r.missing.now c.args.chunks.now c.loop-c.chunks c.loop-c.invariant.kept
    ∙ (λ k. laid_pieces c.args.chunks.now (sym starts k) len) in
    subst (λ p. AreSolvedBy r p c.args.solved.now) (sym stay) c.requires.solved

pub loop-c-preserved : goal.loop-c-preserved
loop-c-preserved c =
    let r = c.args.self.now in
    let below : c.loop-c.c < all_chunks r.g = omega (arith, c.loop-c-test.true, c.n-c-end.ensures.value) in
    put_more r.g r.missing.now c.loop-c.c c.args.chunks.now c.loop-c.chunks c.put.new.chunks below c.loop-c.invariant c.put.ensures

pub returns : goal.returns
returns c =
    let r = c.args.self.now in
    let ended : c.loop-c.c ≡ c.n-c-end.result = omega (arith, c.loop-c-test.false, c.loop-c.auto.c-end) in
    let total : c.loop-c.c ≡ all_chunks r.g = ended ∙ c.n-c-end.ensures.value in
    all_put r.g r.missing.now c.args.chunks.now c.loop-c.chunks (subst (λ n. ArePut r.g r.missing.now n c.args.chunks.now c.loop-c.chunks) total c.loop-c.invariant)
