use Rattle.std.specs.Prelude.{◌≡◌, ◌++◌, map, take}
use Rattle.session_rules.specs.AloneHeals.{rebuild_of}
use Rattle.session_store.proofs.lost_stripes.add_stripe.Given as goal

abbrev pub invariant-loop-chunk : goal.invariant-loop-chunk
invariant-loop-chunk l = l.chunks.items ≡ l.fn.chunks.items ++ map rebuild_of (take l.chunk-index l.stripe)
