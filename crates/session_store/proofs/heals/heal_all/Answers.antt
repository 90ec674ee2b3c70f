use Rattle.session_store.proofs.HealingAll.{made_none, next_below, next_few, next_count, next_made, next_cut, made_all}
use Rattle.session_store.proofs.heals.heal_all.Goals as goal

pub loop-chunk-init : goal.loop-chunk-init
loop-chunk-init g c = made_none c.args.parts.now c.args.taken.now c.requires.may

pub heal_one-requires-clause-may : goal.heal_one-requires-clause-may
heal_one-requires-clause-may g c κs within = c.loop-chunk.invariant.keeps.may

pub heal_one-requires-clause-there : goal.heal_one-requires-clause-there
heal_one-requires-clause-there g c κs within =
    next_below c.args.parts.now c.loop-chunk.parts c.args.chunks.now c.loop-chunk.chunk-index c.chunk-item.result c.args.taken.now c.loop-chunk.taken c.loop-chunk-test.true c.chunk-item.is c.loop-chunk.invariant c.requires.there

pub heal_one-requires-clause-few : goal.heal_one-requires-clause-few
heal_one-requires-clause-few g c κs within =
    next_few c.args.parts.now c.loop-chunk.parts c.args.chunks.now c.loop-chunk.chunk-index c.chunk-item.result c.args.taken.now c.loop-chunk.taken c.loop-chunk-test.true c.chunk-item.is c.loop-chunk.invariant c.requires.few

pub heal_one-requires-clause-count : goal.heal_one-requires-clause-count
heal_one-requires-clause-count g c κs within =
    next_count c.args.parts.now c.loop-chunk.parts c.args.chunks.now c.loop-chunk.chunk-index c.chunk-item.result c.args.taken.now c.loop-chunk.taken c.loop-chunk-test.true c.chunk-item.is c.loop-chunk.invariant c.requires.count

pub returns-then-not-heal_one : goal.returns-then-not-heal_one
returns-then-not-heal_one g c =
    next_cut c.args.parts.now c.loop-chunk.parts c.args.chunks.now c.loop-chunk.chunk-index c.chunk-item.result c.args.taken.now c.loop-chunk.taken c.loop-chunk-test.true c.chunk-item.is c.loop-chunk.invariant
    c.heal_one.new.parts c.heal_one.new.taken c.heal_one.result c.heal_one.ensures c.if-not-heal_one.true

pub loop-chunk-preserved : goal.loop-chunk-preserved
loop-chunk-preserved g c =
    next_made c.args.parts.now c.loop-chunk.parts c.args.chunks.now c.loop-chunk.chunk-index c.chunk-item.result c.args.taken.now c.loop-chunk.taken c.loop-chunk-test.true c.chunk-item.is c.loop-chunk.invariant
    c.heal_one.new.parts c.heal_one.new.taken c.heal_one.result c.heal_one.ensures c.requires.count c.if-not-heal_one.false

pub returns : goal.returns
returns g c = made_all c.args.parts.now c.loop-chunk.parts c.args.chunks.now c.loop-chunk.chunk-index c.args.taken.now c.loop-chunk.taken c.loop-chunk-test.false c.loop-chunk.invariant
