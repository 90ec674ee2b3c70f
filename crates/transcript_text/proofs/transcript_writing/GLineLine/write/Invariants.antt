use Rattle.std.proofs.Common.{◌≡◌, ◌++◌, take}
use Rattle.std.specs.Prelude.{codes, decimal}
use Rattle.std.specs.List.{flat_map}
use Rattle.transcript_text.proofs.transcript_writing.GLineLine.write.Given as goal

abbrev pub invariant-loop-taken : goal.invariant-loop-taken
invariant-loop-taken l =
    l.out.items ≡ l.initial.out.items ++ flat_map (λ taken. codes " " ++ decimal taken) (take l.taken-index l.taken-items)
