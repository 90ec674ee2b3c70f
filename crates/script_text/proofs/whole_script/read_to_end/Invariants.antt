use Rattle.std.proofs.Common.{length}
use Rattle.script_text.proofs.ScriptLaws.{IsReadTo}
use Rattle.script_text.proofs.whole_script.read_to_end.Given as goal

abbrev pub invariant-loop-alloc : goal.invariant-loop-alloc
invariant-loop-alloc l = IsReadTo l.fn.bytes l.reader l.rest l.lines

abbrev pub decreases-loop-alloc : goal.decreases-loop-alloc
decreases-loop-alloc l = length l.rest
