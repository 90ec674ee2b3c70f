use Rattle.std.proofs.Common.{◌≡◌, filter, take}
use Rattle.stripe_stamps.specs.Stripes.{keeps}
use Rattle.stripe_stamps.proofs.met_stripes.partly_covered.Given as goal

abbrev pub invariant-loop-number : goal.invariant-loop-number
invariant-loop-number l = l.kept.items ≡ filter (keeps l.stripe_len l.length l.start l.end) (take l.number-index l.stripes)
