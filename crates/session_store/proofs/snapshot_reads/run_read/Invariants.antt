use Rattle.session_store.specs.Reading.{ReadsOn}
use Rattle.session_store.proofs.snapshot_reads.run_read.Given as goal

abbrev pub invariant-loop-made : goal.invariant-loop-made
invariant-loop-made g l = ReadsOn l.initial.read l.initial.places l.read l.places l._made
