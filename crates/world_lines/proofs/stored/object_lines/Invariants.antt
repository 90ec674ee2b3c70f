use Rattle.std.proofs.Common.{◌≡◌, map, take}
use Rattle.world_lines.proofs.stored.object_lines.Given as goal

abbrev pub invariant-loop-object : goal.invariant-loop-object
invariant-loop-object l = l.lines ≡ map (λ p. record { name = p.0.now; length = p.1.now.length }) (take l.object-index l.object-items)
