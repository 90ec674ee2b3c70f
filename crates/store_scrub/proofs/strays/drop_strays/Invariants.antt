use Rattle.std.proofs.Common.{◌≡◌, take}
use Rattle.store_scrub.specs.Strays.{without}
use Rattle.store_scrub.proofs.strays.drop_strays.Given as goal

abbrev pub invariant-loop-stray : goal.invariant-loop-stray
invariant-loop-stray l = l.servers ≡ without (take l.stray-index l.stray-items) l.fn.servers
