use Rattle.std.proofs.Common.{arith}
use Rattle.session_store.proofs.ReadingAlone.{reads_none, may_read_on, reads_more, never_out}
use Rattle.session_store.proofs.snapshot_reads.run_read.Goals as goal

pub loop-made-init : goal.loop-made-init
loop-made-init g c = reads_none c.args.read.now c.args.places.now c.requires

pub returns-then-matches-clause-ran : goal.returns-then-matches-clause-ran
returns-then-matches-clause-ran g c = c.loop-made.invariant.ran

pub read_on-requires-clause-may : goal.read_on-requires-clause-may
read_on-requires-clause-may g c κs within = may_read_on c.args.read.now c.loop-made.read c.args.places.now c.loop-made.places c.loop-made._made c.loop-made.invariant

pub loop-made-preserved : goal.loop-made-preserved
loop-made-preserved g c =
    reads_more c.args.read.now c.loop-made.read c.read_on.new.read c.args.places.now c.loop-made.places c.read_on.new.places c.loop-made._made c.loop-made.invariant c.read_on.ensures

pub returns-clause-ran : goal.returns-clause-ran
returns-clause-ran g c = c.loop-made.invariant.ran

pub returns-clause-over : goal.returns-clause-over
returns-clause-over g c =
    absurd (never_out c.args.read.now c.loop-made.read c.args.places.now c.loop-made.places c.loop-made._made c.loop-made.invariant (omega (arith, c.loop-made-test.false)))
