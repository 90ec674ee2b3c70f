use Rattle.std.proofs.Common.{◌≡◌, List, ℕ, Bor, map, take}
use Rattle.dir_parts.specs.Parts.{Held}
use Rattle.snapshot_view.proofs.looks.names_of.Given as goal

abbrev pub invariant-loop-object : goal.invariant-loop-object
invariant-loop-object l = l.names.items ≡ map (λ (p : Bor (List ℕ) × Bor Held). p.0.now) (take l.object-index l.object-items)
