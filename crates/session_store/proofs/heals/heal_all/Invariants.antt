use Rattle.std.specs.Prelude.{take}
use Rattle.session_store.specs.Healing.{HasMade}
use Rattle.session_store.proofs.heals.heal_all.Given as goal

abbrev pub invariant-loop-chunk : goal.invariant-loop-chunk
invariant-loop-chunk g l = HasMade l.fn.parts (take l.chunk-index l.fn.chunks) l.fn.taken l.parts l.taken
