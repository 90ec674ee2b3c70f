use Rattle.std.proofs.Common.{◌≡◌, ℕ, ◌<◌, [], get_or, None, IfSome}
use Rattle.clay_model.specs.Chunks.{contents}
use Rattle.clay_decode.proofs.plain_checked.agree.Given as goal

abbrev pub invariant-loop-i : goal.invariant-loop-i
invariant-loop-i l = (k : ℕ) → k < l.i → IfSome (get_or l.have k None) (λ v. get_or (contents l.chunks) k [] ≡ v.items)
