use Rattle.std.proofs.Common.{◌≡◌, map, take, All}
use Rattle.stripe_stamps.specs.SeenStripes.{seen_in}
use Rattle.stripe_stamps.specs.SeenStripes.{IsSeenIn}
use Rattle.stripe_stamps.specs.Stripes.{seen_by, pin_by}
use Rattle.stripe_stamps.proofs.met_stripes.see.Given as goal

abbrev pub invariant-loop-stripe : goal.invariant-loop-stripe
invariant-loop-stripe l = record {
  seen : map seen_in l.seen.items ≡ map (seen_by l.versions.listed l.held) (take l.stripe-index l.stripes);
  stamps : All (IsSeenIn l.stamps) l.seen.items;
  pinned : l.pinned.items ≡ map (pin_by l.held) (take l.stripe-index l.stripes);
}
