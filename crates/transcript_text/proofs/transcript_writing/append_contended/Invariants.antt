use Rattle.std.proofs.Common.{◌≡◌, ◌++◌, take}
use Rattle.std.specs.Prelude.{codes, decimal}
use Rattle.std.specs.List.{flat_map}
use Rattle.transcript_text.proofs.transcript_writing.append_contended.Given as goal

abbrev pub invariant-loop-looked_at : goal.invariant-loop-looked_at
invariant-loop-looked_at l =
    l.out.items ≡ l.initial.out.items ++ flat_map (λ pair. codes " " ++ decimal pair.0 ++ codes "/" ++ decimal pair.1) (take l.looked_at-index l.pairs)
