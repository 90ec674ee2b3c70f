use Rattle.std.proofs.Common.{◌≡◌, take}
use Rattle.std.specs.List.{concat}
use Rattle.clay_model.specs.Chunks.{contents}
use Rattle.clay_encode.proofs.stripes.join.Given as goal

abbrev pub invariant-loop-stripe : goal.invariant-loop-stripe
invariant-loop-stripe l = l.bytes.items ≡ take l.len (concat (contents (take l.stripe-index l.stripes)))
