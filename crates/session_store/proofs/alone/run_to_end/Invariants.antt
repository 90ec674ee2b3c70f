use Rattle.session_store.specs.Running.{RunsOn}
use Rattle.session_store.proofs.alone.run_to_end.Given as goal

abbrev pub invariant-loop-made : goal.invariant-loop-made
invariant-loop-made g l = RunsOn l.initial.call l.initial.places l.call l.places l._made
