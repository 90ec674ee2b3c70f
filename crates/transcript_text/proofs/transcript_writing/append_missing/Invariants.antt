use Rattle.std.proofs.Common.{◌≡◌, ◌++◌, take}
use Rattle.std.specs.Prelude.{codes}
use Rattle.std.specs.List.{flat_map}
use Rattle.store_map.specs.Triples.{triple_text}
use Rattle.transcript_text.proofs.transcript_writing.append_missing.Given as goal

abbrev pub invariant-loop-triple : goal.invariant-loop-triple
invariant-loop-triple l =
    l.out.items ≡ l.initial.out.items ++ flat_map (λ triple. codes " " ++ triple_text triple) (take l.triple-index l.missing)
