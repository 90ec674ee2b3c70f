use Rattle.std.proofs.Common.{◌≡◌, take}
use Rattle.std.specs.List.{concat}
use Rattle.clay_model.specs.Chunks.{contents}
use Rattle.clay_lanes.proofs.lanes_checked.stripe_of.Given as goal

abbrev pub invariant-loop-chunk : goal.invariant-loop-chunk
invariant-loop-chunk l = l.stripe.items ≡ concat (take l.chunk (contents l.chunks))
